-- What is told of the end of a transaction, in words of the trail.
use Rattle.std.proofs.Common.{◌≡◌, ℕ, Option, Some, None, Ok, Err, Result, List, refl, sym, ap, ◌∙◌, subst}
use Rattle.std.specs.Prelude.{IfOk}
use Rattle.hv_base.specs.declared.ids.TxnId.{TxnId}
use Rattle.hv_base.specs.declared.failure.NoMemory.{NoMemory}
use Rattle.hv_shelf.specs.Disk.{Store}
use Rattle.hv_history.specs.declared.entry.Entry.{Entry}
use Rattle.hv_history.specs.declared.entry.Cause.{Cause}
use Rattle.hv_meta.specs.declared.facts.TxnState.TheVariants as standing
use Rattle.hv_meta.specs.States.{state_in}
use Rattle.hv_trail.specs.Trail.{book_of, state_at}
use Rattle.hv_trail.specs.Kept.{trail_of}
use Rattle.hv_telling.specs.hv_house.specs.declared.house.House.{House}
use Rattle.hv_telling.specs.hv_house.specs.House.{entries_of, IsReady}
use Rattle.hv_telling.specs.hv_house.specs.Steps.{seen_of}
use Rattle.hv_acts.specs.declared.ending.EndTold.{EndTold}
use Rattle.hv_acts.specs.declared.fault.ActFault.{ActFault}
use Rattle.hv_acts.specs.Answers.{HasNotEnded}
use Rattle.hv_acts.specs.Ending.{cause_at, told_so, told_at, some_told, EndStep}
use Rattle.hv_acts.proofs.Steps.{book-is, asked}
use Rattle.hv_acts.proofs.ReadSteps.{answered}

-- the entry is the trail's
pub told-there : {D : Type 0} (house : House D) (at : ℕ) (found : Option Cause) (entries : List Entry) (result : Result EndTold NoMemory) → entries ≡ entries_of house
    → found ≡ cause_at entries at → IfOk result (λ told. told ≡ told_so at found) → IfOk result (λ told. told ≡ told_at (book_of (trail_of house.trail)) at)
told-there house at found entries (Ok told) are is so =
    so ∙ ap (told_so at) is ∙ ap (λ (book : List Entry). told_so at (cause_at book at)) (are ∙ sym (book-is house))
told-there house at found entries (Err why) are is so = tt

-- the place of what is told is the entry's
at-same : (at : ℕ) (found : Option Cause) → (told_so at found).at ≡ at
at-same at None = refl
at-same at (Some why) = refl

module _ {D : Type 0} (told : D → Option Store) (faults : D → ℕ) (txn : TxnId) (house : House D) (ready : IsReady told house) where
  tell-done : (at : ℕ) (end : EndTold) → state_in (state_at (trail_of house.trail)) txn.0 ≡ standing.Ended at → end ≡ told_at (book_of (trail_of house.trail)) at
      → EndStep told faults txn house (Ok (Some end))
  tell-done at end ended is =
      let book : List Entry = book_of (trail_of house.trail) in
      let place : end.at ≡ at = ap (λ (e : EndTold). e.at) is ∙ at-same at (cause_at book at) in
      record {
        step = answered told faults (seen_of house);
        answers = record {
          running = ready.kept.running;
          tells = record {
            ended = ended ∙ ap (λ n. standing.Ended n) (sym place);
            told_is = is ∙ ap (λ n. told_at book n) (sym place);
          };
        };
      }

  pub tell-ended : (at : ℕ) (found : Result EndTold NoMemory) (result : Result (Option EndTold) ActFault)
      → state_in (state_at (trail_of house.trail)) txn.0 ≡ standing.Ended at → IfOk found (λ end. end ≡ told_at (book_of (trail_of house.trail)) at)
      → result ≡ some_told found → EndStep told faults txn house result
  tell-ended at (Ok end) result ended is e = subst (λ (r : Result (Option EndTold) ActFault). EndStep told faults txn house r) (sym e) (tell-done at end ended is)
  tell-ended at (Err why) result ended is e =
      subst (λ (r : Result (Option EndTold) ActFault). EndStep told faults txn house r) (sym e)
      (record { step = asked told faults (seen_of house); answers = ready.kept.running })

  pub tell-open : HasNotEnded (state_in (state_at (trail_of house.trail)) txn.0) → EndStep told faults txn house (Ok None)
  tell-open not = record {
    step = answered told faults (seen_of house);
    answers = record { running = ready.kept.running; tells = not };
  }
