-- Dues that are counted, in words of the trail.
use Rattle.std.proofs.Common.{◌≡◌, ℕ, Option, Ok, Err, List, take, sym, ap, ◌∙◌}
use Rattle.std.specs.Global.{Vec}
use Rattle.hv_base.specs.declared.ids.TableId.{TableId}
use Rattle.hv_shelf.specs.Disk.{Store}
use Rattle.hv_book.specs.Past.{total}
use Rattle.hv_counts.specs.declared.due.Due.{Due}
use Rattle.hv_counts.specs.Counts.{dues_in}
use Rattle.hv_history.specs.declared.entry.Entry.{Entry}
use Rattle.hv_history.specs.State.{state_of}
use Rattle.hv_telling.specs.hv_house.specs.declared.fault.HouseFault.TheVariants as fault
use Rattle.hv_telling.specs.hv_house.specs.declared.house.House.{House}
use Rattle.hv_telling.specs.hv_house.specs.House.{entries_of, IsReady}
use Rattle.hv_telling.specs.hv_house.specs.Steps.{seen_of}
use Rattle.hv_acts.specs.declared.fault.ActFault.TheVariants as act
use Rattle.hv_acts.specs.Counting.{AreAsMany, CountStep}
use Rattle.hv_acts.proofs.Steps.{book-is, asked}
use Rattle.hv_acts.proofs.ReadSteps.{fitting-book, answered}

module _ {D : Type 0} (told : D → Option Store) (faults : D → ℕ) (place : ℕ) (table : TableId) (house : House D) (ready : IsReady told house) where
  pub count-done : (dues : Vec Due) (entries : List Entry) → entries ≡ entries_of house
      → AreAsMany dues.items (dues_in (state_of (take place entries)) table.0) → CountStep told faults place table house (Ok dues)
  count-done dues entries are same = record {
    step = answered told faults (seen_of house);
    answers = record {
      running = ready.kept.running;
      book = fitting-book told house ready;
      dues_are = λ weight. same weight
          ∙ ap (λ (book : List Entry). total weight (dues_in (state_of (take place book)) table.0)) (are ∙ sym (book-is house));
    };
  }

  pub count-lacks : CountStep told faults place table house (Err (act.House fault.NoMemory))
  count-lacks = record { step = asked told faults (seen_of house); answers = ready.kept.running }
