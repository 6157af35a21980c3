-- One part of a statement's way behind another.
use Rattle.std.proofs.Common.{◌≡◌, ℕ, ◌≤◌, Option, List, [], ◌++◌, Result, Ok, Err, inl, refl, sym, ap, ◌∙◌, subst, arith, append_assoc, append-nil}
use Rattle.std.specs.Prelude.{IfErr}
use Rattle.std.specs.List.{AllByRecursion}
use Rattle.hv_base.specs.Faults.{Rose}
use Rattle.hv_shelf.specs.Disk.{Store}
use Rattle.hv_history.specs.declared.entry.Entry.{Entry}
use Rattle.hv_history.specs.State.{State, state_of}
use Rattle.hv_history.specs.Legal.{AllFit, IsLegalFrom, profile}
use Rattle.hv_stands.specs.Running.{Asking, next_number, IsOf, AreOf}
use Rattle.hv_stands.specs.Statements.{AllFitting}
use Rattle.hv_beginning.specs.hv_steps.specs.hv_table_reader.specs.hv_acts.specs.hv_telling.specs.hv_house.specs.declared.fault.HouseFault.{HouseFault}
use Rattle.hv_beginning.specs.hv_steps.specs.hv_table_reader.specs.hv_acts.specs.hv_telling.specs.hv_house.specs.declared.fault.HouseFault.TheVariants as fault
use Rattle.hv_beginning.specs.hv_steps.specs.hv_table_reader.specs.hv_acts.specs.hv_telling.specs.hv_house.specs.declared.house.House.{House}
use Rattle.hv_beginning.specs.hv_steps.specs.hv_table_reader.specs.hv_acts.specs.hv_telling.specs.hv_house.specs.Faults.{FileCause, HasRisen}
use Rattle.hv_beginning.specs.hv_steps.specs.hv_table_reader.specs.hv_acts.specs.hv_telling.specs.hv_house.specs.House.{entries_of}
use Rattle.hv_beginning.specs.hv_steps.specs.hv_table_reader.specs.hv_acts.specs.hv_telling.specs.Telling.{IsWhole}
use Rattle.hv_beginning.specs.hv_steps.specs.hv_table_reader.specs.hv_acts.specs.hv_telling.proofs.Told.{told-stays}
use Rattle.hv_beginning.specs.hv_steps.specs.Ending.{KeepsCount, HasStopped}
use Rattle.hv_beginning.specs.hv_steps.specs.hv_table_reader.specs.hv_acts.specs.Meant.{IsNoEnd}
use Rattle.hv_session.specs.Ways.{IsDone, IsPart, IsTaking}
use Rattle.hv_beginning.specs.hv_steps.proofs.Books.{all-append, all-map, IsBegun, begun-counts, begun-unended, begun-legal, counts-from, fit-from, legal-from, state-behind}
use Rattle.hv_beginning.specs.hv_steps.specs.Phases.{BegunBy}

-- ---- counts of faults

rose-from : (low mid high : ℕ) → low ≤ mid → Rose mid high → Rose low high
rose-from low mid high below rose = grind (arith, below, rose)

risen-from : (low mid high : ℕ) → low ≤ mid → (why : HouseFault) → HasRisen mid high why → HasRisen low high why
risen-from low mid high below fault.Store rose = rose-from low mid high below rose
risen-from low mid high below fault.NoMemory rose = tt
risen-from low mid high below (fault.Failed count) rose = (rose.0, omega (arith, below, rose.1))

cause-from : {T : Type 0} (low mid high : ℕ) → low ≤ mid → (result : Result T HouseFault) → FileCause mid high result → FileCause low high result
cause-from low mid high below (Ok x) cause = let later = cause.later in record { later = omega (arith, below, later); failed = tt }
cause-from low mid high below (Err why) cause =
    let later = cause.later in record { later = omega (arith, below, later); failed = risen-from low mid high below why cause.failed }

-- ---- what was passed

-- entries by which a statement begins were noted, and the house is whole
pub record HasPassed {D : Type 0} (told : D → Option Store) (faults : D → ℕ) (txn : ℕ) (before now : House D) : Type 0 where
  pub whole : IsWhole told now
  pub start : now.start ≡ before.start
  pub added : List Entry
  pub book : entries_of now ≡ entries_of before ++ added
  pub of_it : AreOf txn added
  pub begun : AllByRecursion IsBegun added
  pub later : faults before.shelf ≤ faults now.shelf

module _ {D : Type 0} (told : D → Option Store) (faults : D → ℕ) (txn : ℕ) (before between now : House D) (passed : HasPassed told faults txn before between) where
  book-behind : (added : List Entry) → entries_of now ≡ entries_of between ++ added → entries_of now ≡ entries_of before ++ (passed.added ++ added)
  book-behind added book = book ∙ ap (λ (b : List Entry). b ++ added) passed.book ∙ append_assoc (entries_of before) passed.added added

  fits-behind : AllFitting (entries_of before ++ passed.added)
  fits-behind = subst AllFitting passed.book passed.whole.ready.fit

  done-behind : IsDone told faults txn between now → IsDone told faults txn before now
  done-behind done = record {
    whole = done.whole;
    added = record {
      added = passed.added ++ done.added.added;
      book = book-behind done.added.added done.added.book;
      of_it = all-append (IsOf txn) passed.added done.added.added passed.of_it done.added.of_it;
      counts = all-append (KeepsCount (faults before.shelf) (faults now.shelf)) passed.added done.added.added
          (all-map IsBegun (KeepsCount (faults before.shelf) (faults now.shelf)) (begun-counts (faults before.shelf) (faults now.shelf)) passed.added passed.begun)
          (all-map (KeepsCount (faults between.shelf) (faults now.shelf)) (KeepsCount (faults before.shelf) (faults now.shelf))
          (counts-from (faults before.shelf) (faults between.shelf) (faults now.shelf) passed.later) done.added.added done.added.counts);
    };
  }

  stopped-behind : (why : HouseFault) → HasStopped told txn why between now → HasStopped told txn why before now
  stopped-behind why stopped = record {
    added = passed.added ++ stopped.added;
    book = book-behind stopped.added stopped.book;
    of_it = all-append (IsOf txn) passed.added stopped.added passed.of_it stopped.of_it;
    fits = fit-from (state_of (entries_of before)) passed.added stopped.added (begun-legal (entries_of before) passed.added fits-behind passed.begun).fit
        (subst (λ (s : State). AllFit profile s stopped.added) (ap state_of passed.book ∙ state-behind (entries_of before) passed.added) stopped.fits);
    legal = λ is. legal-from (state_of (entries_of before)) passed.added stopped.added (begun-legal (entries_of before) passed.added fits-behind passed.begun)
        (subst (λ (s : State). IsLegalFrom profile s stopped.added) (ap state_of passed.book ∙ state-behind (entries_of before) passed.added)
        (stopped.legal (told-stays told before between passed.start is)));
    unended = all-append (IsNoEnd txn) passed.added stopped.added (all-map IsBegun (IsNoEnd txn) (begun-unended txn) passed.added passed.begun) stopped.unended;
    further = stopped.further;
    further_of_it = stopped.further_of_it;
    unopened = stopped.unopened;
    few = stopped.few;
    fit = stopped.fit;
    leaves = stopped.leaves;
  }

  pub part-behind : {T : Type 0} (result : Result T HouseFault) → IsPart told faults txn between now result → IsPart told faults txn before now result
  part-behind (Ok x) part = record {
    done = done-behind part.done;
    start = part.start ∙ passed.start;
    stopped = tt;
    opens = λ is. tt;
    cause = cause-from (faults before.shelf) (faults between.shelf) (faults now.shelf) passed.later (Ok x) part.cause;
  }
  part-behind (Err why) part = record {
    done = tt;
    start = part.start ∙ passed.start;
    stopped = stopped-behind why part.stopped;
    opens = λ is. part.opens (told-stays told before between passed.start is);
    cause = cause-from (faults before.shelf) (faults between.shelf) (faults now.shelf) passed.later (Err why) part.cause;
  }

-- a part that was passed is done
pub passed-part : {D T : Type 0} (told : D → Option Store) (faults : D → ℕ) (txn : ℕ) (before now : House D) (x : T)
    → HasPassed told faults txn before now → IsPart told faults txn before now (Ok x)
passed-part told faults txn before now x passed = record {
  done = record {
    whole = passed.whole;
    added = record {
      added = passed.added;
      book = passed.book;
      of_it = passed.of_it;
      counts = all-map IsBegun (KeepsCount (faults before.shelf) (faults now.shelf)) (begun-counts (faults before.shelf) (faults now.shelf)) passed.added passed.begun;
    };
  };
  start = passed.start;
  stopped = tt;
  opens = λ is. tt;
  cause = record { later = passed.later; failed = tt };
}

-- ---- a part of taking up a statement

-- whatever was added begins with the Opened of the statement
abbrev pub Begins : {D : Type 0} → Asking → House D → House D → HouseFault → Type 0
Begins asking before now why = (added : List Entry) → entries_of now ≡ entries_of before ++ added → BegunBy asking added

module _ {D T : Type 0} (told : D → Option Store) (faults : D → ℕ) (asking : Asking) (before now : House D) where
  pub part-taking : (result : Result T HouseFault) → IsPart told faults (next_number (entries_of before)) before now result → IfErr result (Begins asking before now)
      → IsTaking told faults asking before now result
  part-taking (Ok x) part begins =
      record { done = part.done; start = part.start; stopped = tt; opens = λ is. tt; cause = part.cause }
  part-taking (Err why) part begins = record {
    done = tt;
    start = part.start;
    stopped = inl (part.stopped, begins part.stopped.added part.stopped.book);
    opens = part.opens;
    cause = part.cause;
  }

  pub taking-ok : {U : Type 0} (x : U) (y : T) → IsTaking told faults asking before now (Ok x) → IsTaking told faults asking before now (Ok y)
  taking-ok x y taking = record {
    done = taking.done;
    start = taking.start;
    stopped = tt;
    opens = λ is. tt;
    cause = record { later = taking.cause.later; failed = tt };
  }

-- ---- nothing was noted

pub nothing-passed : {D : Type 0} (told : D → Option Store) (faults : D → ℕ) (txn : ℕ) (before now : House D)
    → entries_of now ≡ entries_of before → now.start ≡ before.start → IsWhole told now → faults before.shelf ≤ faults now.shelf → HasPassed told faults txn before now
nothing-passed told faults txn before now same start whole later = record {
  whole = whole;
  start = start;
  added = [];
  book = same ∙ sym (append-nil (entries_of before));
  of_it = tt;
  begun = tt;
  later = later;
}

-- ---- nothing was done

module _ {D : Type 0} (told : D → Option Store) (faults : D → ℕ) (txn : ℕ) (house : House D) (whole : IsWhole told house) where
  pub still-part : {T : Type 0} (x : T) → IsPart told faults txn house house (Ok x)
  still-part x = passed-part told faults txn house house x (nothing-passed told faults txn house house refl refl whole (omega arith))
