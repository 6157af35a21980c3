-- What the act leaves that starts a statement which waits: it is on its way, and the house is open.
use Rattle.std.proofs.Common.{◌≡◌, ℕ, Bool, false, ◌||◌, Option, Some, None, List, [], ◌∷◌, ◌++◌, length, sym, ap, ◌∙◌, subst, Ok, Err, Result}
use Rattle.std.specs.Prelude.{IsSomeAnd, IfOk, IfSome}
use Rattle.hv_base.specs.declared.ids.TxnId.{TxnId}
use Rattle.hv_shelf.specs.Disk.{Store}
use Rattle.hv_ast.specs.declared.statement.Stmt.{Stmt}
use Rattle.hv_history.specs.declared.entry.Entry.{Entry}
use Rattle.hv_history.specs.declared.state.Transaction.{Transaction}
use Rattle.hv_history.specs.Legal.{StartFits, profile}
use Rattle.hv_history.specs.Legal.{IsWaiting as WaitsNow}
use Rattle.hv_stands.specs.Running.{Asking, starting, IsWaiting, IsUnderWay}
use Rattle.hv_stands.proofs.Begun.{starts}
use Rattle.hv_trail.specs.declared.trail.TrailItem.{TrailItem}
use Rattle.hv_trail.specs.declared.trail.TrailItem.TheVariants.{Noted}
use Rattle.hv_trail.specs.Trail.{book_of, state_at}
use Rattle.hv_trail.proofs.LastingLaws.{book-append}
use Rattle.hv_actor.specs.Acting.{IsLater, Held}
use Rattle.hv_session.specs.hv_beginning.specs.hv_steps.specs.hv_table_reader.specs.hv_acts.specs.declared.told.ToldHouse.{ToldHouse}
use Rattle.hv_session.specs.hv_beginning.specs.hv_steps.specs.hv_table_reader.specs.hv_acts.specs.declared.starting.Started.{Started}
use Rattle.hv_session.specs.hv_beginning.specs.hv_steps.specs.hv_table_reader.specs.hv_acts.specs.declared.starting.Started.TheVariants as started
use Rattle.hv_session.specs.hv_beginning.specs.hv_steps.specs.hv_table_reader.specs.hv_acts.specs.declared.fault.ActFault.{ActFault}
use Rattle.hv_session.specs.hv_beginning.specs.hv_steps.specs.hv_table_reader.specs.hv_acts.specs.Told.{seen_in, trail_in, book_in, told_sight}
use Rattle.hv_session.specs.hv_beginning.specs.hv_steps.specs.hv_table_reader.specs.hv_acts.specs.Answers.{answer_outcome, AnswerLeaves}
use Rattle.hv_session.specs.hv_beginning.specs.hv_steps.specs.hv_table_reader.specs.hv_acts.specs.Starting.{call_to_start, StartOrAbortAnswers}
use Rattle.hv_session.specs.hv_beginning.specs.hv_steps.specs.Going.{HasWaited}
use Rattle.hv_session.specs.hv_beginning.specs.hv_steps.proofs.Joining.{held-front, so-now, waited-lasts}
use Rattle.hv_session.specs.hv_beginning.proofs.Waits.{waits-at, open-fits}
use Rattle.tests_seats.specs.Beside.{way_of, IsOnItsWay}

of-more : (P Q : Transaction → Type 0) (o : Option Transaction) → ((t : Transaction) → P t → Q t) → IsSomeAnd o P → IsSomeAnd o Q
of-more P Q None f is = absurd is
of-more P Q (Some t) f is = f t is

still-running : (before now : Bool) → now ≡ before || false → before ≡ false → now ≡ false
still-running before now closed running = closed ∙ ap (λ (b : Bool). b || false) running

started-under : (book now : List Entry) (asking : Asking) (tree : Stmt) (txn place : ℕ) → IsWaiting book asking txn tree → now ≡ book ++ starting txn ∷ []
    → place ≡ length book → IsUnderWay now asking txn place tree []
started-under book now asking tree txn place waiting noted at =
    subst (λ (b : List Entry). IsUnderWay b asking txn place tree []) (sym noted)
    (subst (λ (p : ℕ). IsUnderWay (book ++ starting txn ∷ []) asking txn p tree []) (sym at) (starts book asking txn tree waiting))

module _ {D : Type 0} (told : D → Option Store) (faults : D → ℕ) (meanwhile : ToldHouse D → ToldHouse D → Type 0)
    (goes : (before now : ToldHouse D) → meanwhile before now → IsLater faults (seen_in before) (seen_in now)) where
  abbrev StartHeld : ToldHouse D → ToldHouse D → TxnId → Result Started ActFault → Type 0
  StartHeld before now txn result =
      Held (told_sight told faults) meanwhile before now (λ house. call_to_start house.trail txn result) (answer_outcome result)
      (λ house after. StartOrAbortAnswers house.trail txn result × AnswerLeaves told faults txn.0 house after result)

  pub started-way : (before now : ToldHouse D) (asking : Asking) (said : Stmt) (txn : TxnId) (result : Result Started ActFault)
      → StartHeld before now txn result → HasWaited (trail_in before) asking txn.0 said
      → IfOk result (λ found. IfSome (way_of txn found) (IsOnItsWay now asking said))
  started-way before now asking said txn (Ok (started.At place)) held was =
      let trail : List TrailItem = trail_in held.house in
      let book : List Entry = book_of trail in
      let waiting : IsWaiting book asking txn.0 said =
      waits-at trail asking txn.0 said (open-fits told held.house held.kept held.does_it.1)
      (waited-lasts asking txn.0 said (trail_in before) trail (held-front told faults meanwhile goes before now _ _ _ held) was)
      (of-more (StartFits profile (state_at trail) 0) WaitsNow _ (λ t fits. fits.waiting) held.does_it.0.0) in
      let noted : book_in now ≡ book ++ starting txn.0 ∷ [] =
      ap book_of held.step.trail ∙ book-append trail (Noted (starting txn.0) ∷ []) in
      record {
        running = still-running held.house.house.trail.closed now.house.trail.closed held.step.closed held.does_it.1;
        was = so-now (λ (b : List Entry). IsUnderWay b asking txn.0 place said []) (trail_in now)
            (started-under book (book_in now) asking said txn.0 place waiting noted held.does_it.0.1);
      }
  started-way before now asking said txn (Ok (started.Aborted aborted)) held was = tt
  started-way before now asking said txn (Err why) held was = tt
