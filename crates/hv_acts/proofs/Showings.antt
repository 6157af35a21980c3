-- What is shown of the book, in words of the trail.
use Rattle.std.proofs.Common.{◌≡◌, ℕ, ◌≤◌, Option, Ok, Err, List, length, take, sym, ap, ◌∙◌, subst}
use Rattle.hv_ast.specs.declared.statement.Show.{Show}
use Rattle.hv_shelf.specs.Disk.{Store}
use Rattle.hv_history.specs.declared.entry.Entry.{Entry}
use Rattle.hv_history.specs.declared.shown.Shown.{Shown}
use Rattle.hv_history.specs.Legal.{AllFit, profile}
use Rattle.hv_history.specs.Shown.{show_listed}
use Rattle.hv_history.specs.State.{nothing_yet, state_of}
use Rattle.hv_trail.specs.Kept.{trail_of}
use Rattle.hv_telling.specs.hv_house.specs.declared.fault.HouseFault.TheVariants as fault
use Rattle.hv_telling.specs.hv_house.specs.declared.house.House.{House}
use Rattle.hv_telling.specs.hv_house.specs.House.{entries_of, IsReady}
use Rattle.hv_telling.specs.hv_house.specs.Steps.{seen_of}
use Rattle.hv_acts.specs.declared.fault.ActFault.TheVariants as act
use Rattle.hv_acts.specs.Reading.{HasPlace}
use Rattle.hv_acts.specs.Showing.{ShowStep}
use Rattle.hv_acts.proofs.Steps.{book-is, asked}
use Rattle.hv_acts.proofs.ReadSteps.{fitting-book, answered}

module _ {D : Type 0} (told : D → Option Store) (faults : D → ℕ) (place : ℕ) (what : Show) (house : House D) (ready : IsReady told house) where
  -- the book that is asked is the house's
  pub show-place : (entries : List Entry) → entries ≡ entries_of house → HasPlace (trail_of house.trail) place → place ≤ length entries
  show-place entries are has = subst (λ (book : List Entry). place ≤ length book) (book-is house ∙ sym are) has

  pub show-fit : (entries : List Entry) → entries ≡ entries_of house → AllFit profile nothing_yet entries
  show-fit entries are = subst (AllFit profile nothing_yet) (book-is house ∙ sym are) (fitting-book told house ready).fit

  pub show-done : (shown : Option Shown) (entries : List Entry) → entries ≡ entries_of house
      → shown ≡ show_listed (state_of (take place entries)) what → ShowStep told faults place what house (Ok shown)
  show-done shown entries are is = record {
    step = answered told faults (seen_of house);
    answers = record {
      running = ready.kept.running;
      book = fitting-book told house ready;
      shown_is = is ∙ ap (λ (book : List Entry). show_listed (state_of (take place book)) what) (are ∙ sym (book-is house));
    };
  }

  pub show-lacks : ShowStep told faults place what house (Err (act.House fault.NoMemory))
  show-lacks = record { step = asked told faults (seen_of house); answers = ready.kept.running }
