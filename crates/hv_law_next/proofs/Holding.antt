-- A started statement that is at its hold stays there.
use Rattle.std.proofs.Common.{◌≡◌, ℕ, Option, Some, None, List, refl, ap, ◌∙◌}
use Rattle.std.specs.Prelude.{Bool, true, false, if◌then◌else◌}
use Rattle.hv_base.specs.declared.gate.Stage.{Stage}
use Rattle.hv_base.specs.declared.gate.Stage.TheVariants as stage
use Rattle.hv_base.specs.declared.ids.TableId.{TableId}
use Rattle.hv_base.specs.declared.ids.Touch.{Touch}
use Rattle.hv_ast.specs.declared.table.CompactionKind.{CompactionKind}
use Rattle.hv_logic.specs.declared.catalog.TableInfo.{TableInfo}
use Rattle.hv_logic.specs.declared.effect.Effect.{Effect}
use Rattle.hv_logic.specs.declared.meaning.Meaning.{Meaning}
use Rattle.hv_logic.specs.declared.meaning.Meaning.TheVariants.{Refused, Listing, Change, Make, Unmake, Ask, Plain, Twice, RowLimit, PartitionLimit}
use Rattle.hv_route.specs.Touching.{touches_of}
use Rattle.hv_history.specs.declared.entry.Entry.{Entry}
use Rattle.hv_history.specs.declared.entry.Cause.TheVariants as cause
use Rattle.hv_history.specs.declared.state.Transaction.{Transaction}
use Rattle.hv_history.specs.JobsTrue.{ask_of, stands_for}
use Rattle.hv_history.specs.State.{State, meaning}
use Rattle.hv_history.specs.Asking.{asked_by}
use Rattle.hv_history.specs.Legal.{IsRunning, HasAsked, place_of_snapshot}
use Rattle.hv_stands.proofs.Keeping.{still-open}
use Rattle.hv_law_next.specs.Next.{Meeting, abort, first_met, lacks_room, needs_id, giving, ending_change, changing, asking_or_end, asking_job, compacting, by_meaning, by_start, by_ending, next_of, if_before, due_of}
use Rattle.hv_law_next.specs.Carrying.{IsUnrefused, IsToCommit, IsAtHold, HasAskedAt, StaysAtHold}

none-start : (o : Option Entry) → if_before (Some stage.Start) true o ≡ None
none-start None = refl
none-start (Some event) = refl

none-taken : (o : Option Entry) → if_before (Some stage.Taken) true o ≡ None
none-taken None = refl
none-taken (Some event) = refl

none-replied : (o : Option Entry) → if_before (Some stage.Replied) true o ≡ None
none-replied None = refl
none-replied (Some event) = refl

module _ (state : State) (txn : ℕ) (t : Transaction) where
  unread : (info : TableInfo) (effect : Effect) (b : Bool) → if_before (Some stage.Read) true (Some (changing state txn t info effect b)) ≡ None
  unread info effect true = by (lacks_room state 1)
    where
      by : (c : Bool) → if_before (Some stage.Read) true (Some (if c then abort txn cause.Full else giving state txn info)) ≡ None
      by true = refl
      by false = refl
  unread info effect false = by (first_met (place_of_snapshot t.snapshot) (touches_of info effect) 1 state.transactions)
    where
      by : (o : Option Meeting) → if_before (Some stage.Read) true (Some (ending_change txn (touches_of info effect) o)) ≡ None
      by None = refl
      by (Some meeting) = refl

  by-read-idle : (o : Option ℕ) → if_before (Some stage.Read) true (Some (asking_or_end txn o)) ≡ None
  by-read-idle None = refl
  by-read-idle (Some other) = refl

  by-read-ask : (table : TableId) (partition : List ℕ) (kind : CompactionKind) (b : Bool)
      → if_before (Some stage.Read) true (Some (compacting state txn table partition kind b)) ≡ None
  by-read-ask table partition kind true = refl
  by-read-ask table partition kind false = by (lacks_room state 1)
    where
      by : (c : Bool) → if_before (Some stage.Read) true (Some (if c then abort txn cause.Full else asking_job state txn table partition kind)) ≡ None
      by true = refl
      by false = refl

  by-read : (o : Option Meaning) → IsUnrefused o → if_before (Some stage.Read) true (by_meaning state txn t o) ≡ None
  by-read None at = refl
  by-read (Some (Refused why)) at = absurd at
  by-read (Some (Listing names rows)) at = refl
  by-read (Some (Change info effect)) at = unread info effect (needs_id t.given (Some (Change info effect)))
  by-read (Some (Make shape)) at = refl
  by-read (Some (Unmake table)) at = refl
  by-read (Some (Ask table partition kind)) at = by-read-ask table partition kind (stands_for state t (ask_of table partition kind))
  by-read (Some Plain) at = by-read-idle (asked_by state txn t)
  by-read (Some (Twice region row)) at = refl
  by-read (Some RowLimit) at = refl
  by-read (Some PartitionLimit) at = refl

  committing : (wrote : List Touch) (o : Option Meeting) → if_before (Some stage.Commit) true (Some (ending_change txn wrote o)) ≡ None
  committing wrote None = refl
  committing wrote (Some meeting) = refl

  by-commit : (o : Option Meaning) → IsToCommit t.given o → HasAsked state txn t o → if_before (Some stage.Commit) true (by_meaning state txn t o) ≡ None
  by-commit None at all = refl
  by-commit (Some (Refused why)) at all = absurd at
  by-commit (Some (Listing names rows)) at all = refl
  by-commit (Some (Change info effect)) at all =
      ap (λ b. if_before (Some stage.Commit) true (Some (changing state txn t info effect b))) at
      ∙ committing (touches_of info effect) (first_met (place_of_snapshot t.snapshot) (touches_of info effect) 1 state.transactions)
  by-commit (Some (Make shape)) at all = refl
  by-commit (Some (Unmake table)) at all = refl
  by-commit (Some (Ask table partition kind)) at all =
      ap (λ (b : Bool). if_before (Some stage.Commit) true (Some (compacting state txn table partition kind b))) all
  by-commit (Some Plain) at all = ap (λ o. if_before (Some stage.Commit) true (Some (asking_or_end txn o))) all
  by-commit (Some (Twice region row)) at all = absurd at
  by-commit (Some RowLimit) at all = absurd at
  by-commit (Some PartitionLimit) at all = absurd at

  abbrev AskedThere : Option Stage → Option Meaning → Type 0
  AskedThere (Some stage.Commit) o = HasAsked state txn t o
  AskedThere hold o = Unit {0}

  at-hold : (hold : Option Stage) (o : Option Meaning) → IsAtHold hold t.given o → AskedThere hold o → if_before hold true (by_meaning state txn t o) ≡ None
  at-hold None o at all = absurd at
  at-hold (Some stage.Start) o at all = none-start (by_meaning state txn t o)
  at-hold (Some stage.Read) o at all = by-read o at
  at-hold (Some stage.Commit) o at all = by-commit o at all
  at-hold (Some stage.Taken) o at all = none-taken (by_meaning state txn t o)
  at-hold (Some stage.Replied) o at all = none-replied (by_meaning state txn t o)

  next-running : IsRunning t → next_of state txn t ≡ by_meaning state txn t (meaning t)
  unfolding next_of
  next-running running = ap (by_ending state txn t) (still-open t running.unended) ∙ ap (by_start state txn t) running.started

pub stays-at-hold : StaysAtHold
stays-at-hold hold state txn t at running holds asked =
    ap (due_of hold state txn) at
    ∙ ap (λ b. if_before hold b (next_of state txn t)) running.started
    ∙ ap (if_before hold true) (next-running state txn t running)
    ∙ at-hold state txn t hold (meaning t) holds (there hold asked)
  where
    there : (h : Option Stage) → HasAskedAt h state txn t → AskedThere state txn t h (meaning t)
    there None all = tt
    there (Some stage.Start) all = tt
    there (Some stage.Read) all = tt
    there (Some stage.Commit) all = all
    there (Some stage.Taken) all = tt
    there (Some stage.Replied) all = tt
