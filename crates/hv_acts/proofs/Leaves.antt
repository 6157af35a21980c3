-- What an act leaves of a house that was open: where its store failed the journal reads to the book, or to the book and what was being noted.
use Rattle.std.proofs.Common.{◌≡◌, inl, ℕ, false, Option, Some, None, List, [], ◌∷◌, sym, ◌∙◌, subst, arith}
use Rattle.hv_base.specs.declared.ids.TxnId.{TxnId}
use Rattle.hv_shelf.specs.Disk.{Store}
use Rattle.hv_history.specs.declared.entry.Entry.{Entry}
use Rattle.hv_journal.specs.Appending.{Holds, HoldsMore}
use Rattle.hv_stands.specs.Running.{IsOf}
use Rattle.hv_trail.specs.declared.trail.TrailItem.{TrailItem}
use Rattle.hv_trail.specs.Kept.{trail_of}
use Rattle.hv_trail.specs.Steps.{HouseSeen}
use Rattle.hv_telling.specs.hv_house.specs.declared.fault.HouseFault.{HouseFault}
use Rattle.hv_telling.specs.hv_house.specs.declared.fault.HouseFault.TheVariants as fault
use Rattle.hv_telling.specs.hv_house.specs.declared.house.House.{House}
use Rattle.hv_telling.specs.hv_house.specs.Faults.{HasRisen}
use Rattle.hv_telling.specs.hv_house.specs.House.{entries_of, Leaves, IsHalted, StaysPut}
use Rattle.hv_telling.specs.hv_house.specs.Steps.{seen_of}
use Rattle.hv_acts.specs.declared.fault.ActFault.{ActFault}
use Rattle.hv_acts.specs.declared.fault.ActFault.TheVariants as act
use Rattle.hv_acts.specs.Answers.{IsLate, EntryFits, FaultLeaves, WhyLeaves, FaultRises, OpensNone}
use Rattle.hv_acts.proofs.Steps.{book-is}

-- nothing more is noted
no-more : (o : Option Store) (book : List Entry) → Holds o book → HoldsMore o book []
no-more None book holds = tt
no-more (Some s) book holds = inl holds

module _ {D : Type 0} (told : D → Option Store) (faults : D → ℕ) where
  -- one entry was to be noted
  pub noted-leaves : (txn : ℕ) (event : Entry) (why : HouseFault) (before now : House D) → before.trail.closed ≡ false → IsOf txn event
      → OpensNone event → EntryFits (trail_of before.trail) event → IsHalted told event why before now → HasRisen (faults before.shelf) (faults now.shelf) why
      → FaultLeaves told faults txn (seen_of before) (seen_of now) why
  noted-leaves txn event fault.Store before now running of_it unopened fits halted risen = λ open_. (
    record {
      further = event ∷ [];
      of_it = (of_it, tt);
      unopened = (unopened, tt);
      few = omega arith;
      fit = (fits, tt);
      leaves = subst (λ (book : List Entry). Leaves fault.Store (event ∷ []) (told now.shelf) book) (sym (book-is before)) halted.leaves;
    },
    risen,
  )
  noted-leaves txn event fault.NoMemory before now running of_it unopened fits halted risen = running
  noted-leaves txn event (fault.Failed count) before now running of_it unopened fits halted risen = running

  -- no entry was to be noted
  pub held-leaves : (txn : ℕ) (why : HouseFault) (before now : House D) → before.trail.closed ≡ false → entries_of now ≡ entries_of before
      → StaysPut told why now → HasRisen (faults before.shelf) (faults now.shelf) why → FaultLeaves told faults txn (seen_of before) (seen_of now) why
  held-leaves txn fault.Store before now running same stays risen = λ open_. (
    record {
      further = [];
      of_it = tt;
      unopened = tt;
      few = omega arith;
      fit = tt;
      leaves = no-more (told now.shelf) _ (subst (Holds (told now.shelf)) (same ∙ sym (book-is before)) stays);
    },
    risen,
  )
  held-leaves txn fault.NoMemory before now running same stays risen = running
  held-leaves txn (fault.Failed count) before now running same stays risen = running

  -- a test refused it
  pub late-leaves : (trail : List TrailItem) (txn : TxnId) (why : ActFault) (before now : HouseSeen D) → IsLate trail txn why → before.closed ≡ false
      → WhyLeaves told faults txn.0 before now why
  late-leaves trail txn (act.Ended at) before now late running = running
  late-leaves trail txn (act.Full entries) before now late running = running
  late-leaves trail txn (act.Held by) before now late running = running
  late-leaves trail txn (act.Broken put count) before now late running = running
  late-leaves trail txn act.Unfit before now late running = running
  late-leaves trail txn (act.House why) before now late running = absurd late

-- a call on files that failed has its count
pub rises-by : {D : Type 0} (faults : D → ℕ) (before : HouseSeen D) (count : ℕ) (why : HouseFault) → HasRisen (faults before.shelf) count why → FaultRises faults before why
rises-by faults before count fault.Store risen = tt
rises-by faults before count fault.NoMemory risen = tt
rises-by faults before count (fault.Failed last) risen = omega (arith, risen.0, risen.1)
