use Rattle.std.proofs.Common.{◌≡◌, true≢false, Some, None, List, sym, ap, ◌∙◌, subst, IsPermutation}
use Rattle.hv_counts.specs.declared.tally.Tally.{Tally}
use Rattle.hv_counts.specs.Tallies.{first_off}
use Rattle.hv_counts.proofs.Told.{AreSorted, own-all, all-own, all-counted, within, is-miscounted}
use Rattle.hv_counts.proofs.miscount.first_miscount.Goals as goal

pub returns-then-not-are_own-clause-counted : goal.returns-then-not-are_own-clause-counted
returns-then-not-are_own-clause-counted c = λ sheets are none own.
    absurd (true≢false (sym (all-own c.args.files.now own) ∙ sym c.are_own.ensures ∙ c.if-not-are_own.true))

pub told_of-requires-clause-there : goal.told_of-requires-clause-there
told_of-requires-clause-there c =
    let tallies = c.in_ok-tallies.tallies.items in
    let same = subst (λ (ts : List Tally). IsPermutation ts tallies) c.in_ok-tallies_of.ensures c.in_ok-tallies.ensures.same in
    let up : AreSorted c.args.deletes c.args.files.now c.args.counts.now c.args.dues.now tallies = record { same = same; sorted = c.in_ok-tallies.ensures.sorted } in
    let found : first_off 0 0 tallies ≡ Some c.in-Some.tally.now = ap (first_off 0 0) (sym c.deref.ensures.value) ∙ sym c.in-Some.ensures in
    within c.args.deletes c.args.files.now c.args.counts.now c.args.dues.now tallies up c.in-Some.tally.now found

pub returns-in-Some-clause-miscounted : goal.returns-in-Some-clause-miscounted
returns-in-Some-clause-miscounted c = λ sheets are.
    let tallies = c.in_ok-tallies.tallies.items in
    let same = subst (λ (ts : List Tally). IsPermutation ts tallies) c.in_ok-tallies_of.ensures c.in_ok-tallies.ensures.same in
    let up : AreSorted c.args.deletes c.args.files.now c.args.counts.now c.args.dues.now tallies = record { same = same; sorted = c.in_ok-tallies.ensures.sorted } in
    let found : first_off 0 0 tallies ≡ Some c.in-Some.tally.now = ap (first_off 0 0) (sym c.deref.ensures.value) ∙ sym c.in-Some.ensures in
    let own = own-all c.args.files.now (sym c.are_own.ensures ∙ c.if-not-are_own.false) in
    let told = c.in_ok-told_of-in-Some.field-0 in
    is-miscounted c.args.deletes c.args.files.now c.args.counts.now c.args.dues.now tallies up sheets are c.in-Some.tally.now found c.args.table.0 own told.place told.at
    c.in_ok-told_of-in-Some.ensures.missing c.in_ok-told_of-in-Some.ensures.nowhere c.in_ok-told_of-in-Some.ensures.standing

pub returns-clause-counted : goal.returns-clause-counted
returns-clause-counted c = λ sheets are none own.
    let tallies = c.in_ok-tallies.tallies.items in
    let same = subst (λ (ts : List Tally). IsPermutation ts tallies) c.in_ok-tallies_of.ensures c.in_ok-tallies.ensures.same in
    let up : AreSorted c.args.deletes c.args.files.now c.args.counts.now c.args.dues.now tallies = record { same = same; sorted = c.in_ok-tallies.ensures.sorted } in
    let off : first_off 0 0 tallies ≡ None = ap (first_off 0 0) (sym c.deref.ensures.value) ∙ sym c.in-None.ensures in
    all-counted c.args.deletes c.args.files.now c.args.counts.now c.args.dues.now tallies up sheets are off
