-- What steps leave of a trail.
use Rattle.std.proofs.Common.{◌≡◌, ℕ, ◌≤◌, true, Option, Some, None, List, [], ◌∷◌, ◌++◌, length, refl, sym, ap, ◌∙◌, append_assoc, arith}
use Rattle.std.specs.Option.{option_to_list}
use Rattle.std.proofs.lemmas.List.{append-nil}
use Rattle.hv_shelf.specs.Disk.{Store}
use Rattle.hv_trail.specs.declared.trail.TrailItem.{TrailItem}
use Rattle.hv_trail.specs.Steps.{HouseSeen, Call, Note, Begin, Commit, Put, Remove, Publish, Read, Ask, Outcome, Done, Conflict, Failed, Closed, Starved, Refused, gained, gains, most_items, all_gains, IsShutOut, Step, Run, KeepsRest}
use Rattle.hv_trail.specs.Lasting.{GoesOn}
use Rattle.hv_trail.proofs.LastingLaws.{goes-on-front}

one-at-most : (item : Option TrailItem) → length (option_to_list item) ≤ 1
one-at-most None = omega arith
one-at-most (Some item) = omega arith

pub gains-few : (call : Call) (outcome : Outcome) → length (gains call outcome) ≤ most_items call
gains-few (Note event) outcome = one-at-most (gained (Note event) outcome)
gains-few (Begin txn session number text) Done = omega arith
gains-few (Begin txn session number text) (Conflict with_ table partition) = omega arith
gains-few (Begin txn session number text) (Failed count) = omega arith
gains-few (Begin txn session number text) Closed = omega arith
gains-few (Begin txn session number text) Starved = omega arith
gains-few (Begin txn session number text) Refused = omega arith
gains-few (Commit txn wrote) outcome = one-at-most (gained (Commit txn wrote) outcome)
gains-few (Put by place bytes) outcome = one-at-most (gained (Put by place bytes) outcome)
gains-few (Remove by dir) outcome = one-at-most (gained (Remove by dir) outcome)
gains-few (Publish renames event) outcome = one-at-most (gained (Publish renames event) outcome)
gains-few (Read by) outcome = one-at-most (gained (Read by) outcome)
gains-few Ask outcome = one-at-most (gained Ask outcome)

pub two-at-most : (call : Call) → most_items call ≤ 2
two-at-most (Begin txn session number text) = omega arith
two-at-most (Note event) = omega arith
two-at-most (Commit txn wrote) = omega arith
two-at-most (Put by place bytes) = omega arith
two-at-most (Remove by dir) = omega arith
two-at-most (Publish renames event) = omega arith
two-at-most (Read by) = omega arith
two-at-most Ask = omega arith

pub step-goes-on : {D : Type 0} (told : D → Option Store) (faults : D → ℕ) (call : Call) (outcome : Outcome) (before now : HouseSeen D)
    → Step told faults call outcome before now → GoesOn before.trail now.trail
step-goes-on told faults call outcome before now step =
    goes-on-front before.trail now.trail (record { more = gains call outcome; is = step.trail })

shut-gains : (call : Call) (outcome : Outcome) → IsShutOut call outcome → gains call outcome ≡ []
shut-gains (Note event) outcome e = ap (λ o. gains (Note event) o) e
shut-gains (Begin txn session number text) outcome e = ap (λ o. gains (Begin txn session number text) o) e
shut-gains (Commit txn wrote) outcome e = ap (λ o. gains (Commit txn wrote) o) e
shut-gains (Put by place bytes) outcome e = ap (λ o. gains (Put by place bytes) o) e
shut-gains (Remove by dir) outcome e = ap (λ o. gains (Remove by dir) o) e
shut-gains (Publish renames event) outcome e = ap (λ o. gains (Publish renames event) o) e
shut-gains (Read by) outcome e = ap (λ o. gains (Read by) o) e
shut-gains Ask outcome e = refl

pub shut-adds-nothing : {D : Type 0} (told : D → Option Store) (faults : D → ℕ) (call : Call) (outcome : Outcome) (before now : HouseSeen D)
    → Step told faults call outcome before now → before.closed ≡ true → now.trail ≡ before.trail
shut-adds-nothing told faults call outcome before now step shut =
    step.trail ∙ ap (λ items. before.trail ++ items) (shut-gains call outcome (step.shut_out shut)) ∙ append-nil before.trail

pub run-adds : {D : Type 0} (told : D → Option Store) (faults : D → ℕ) (calls : List (Call × Outcome)) (before now : HouseSeen D)
    → Run told faults calls before now → now.trail ≡ before.trail ++ all_gains calls
run-adds told faults [] before now run = ap (λ (h : HouseSeen _). h.trail) run ∙ sym (append-nil before.trail)
run-adds told faults (call ∷ calls) before now run =
    run-adds told faults calls run.0 now run.2 ∙ ap (λ trail. trail ++ all_gains calls) run.1.trail
    ∙ append_assoc before.trail (gains call.0 call.1) (all_gains calls)

pub run-rest : {D : Type 0} (told : D → Option Store) (faults : D → ℕ) (calls : List (Call × Outcome)) (before now : HouseSeen D)
    → Run told faults calls before now → KeepsRest before now
run-rest told faults [] before now run = record { start = ap (λ (h : HouseSeen _). h.start) run; opened = ap (λ (h : HouseSeen _). h.opened) run; limits = ap (λ (h : HouseSeen _). h.limits) run }
run-rest told faults (call ∷ calls) before now run =
    let later = run-rest told faults calls run.0 now run.2
    in record { start = later.start ∙ run.1.rest.start; opened = later.opened ∙ run.1.rest.opened; limits = later.limits ∙ run.1.rest.limits }

pub run-goes-on : {D : Type 0} (told : D → Option Store) (faults : D → ℕ) (calls : List (Call × Outcome)) (before now : HouseSeen D)
    → Run told faults calls before now → GoesOn before.trail now.trail
run-goes-on told faults calls before now run =
    goes-on-front before.trail now.trail (record { more = all_gains calls; is = run-adds told faults calls before now run })
