-- Where others do nothing to the house, a run stops as it does over a house alone.
use Rattle.std.proofs.Common.{◌≡◌, ◌⊎◌, inl, inr, ℕ, true≢false, Option, List, [], sym, ap, ◌∙◌, subst, arith, Result, Ok, Err}
use Rattle.hv_shelf.specs.Disk.{Store}
use Rattle.hv_history.specs.declared.entry.Entry.{Entry}
use Rattle.hv_history.specs.State.{state_of, nothing_yet}
use Rattle.hv_history.specs.Legal.{AllFit, profile}
use Rattle.hv_trail.specs.declared.trail.TrailItem.{TrailItem}
use Rattle.hv_trail.specs.Trail.{book_of}
use Rattle.hv_actor.specs.Acting.{IsAlone, among, known}
use Rattle.hv_beginning.specs.hv_steps.specs.hv_table_reader.specs.hv_acts.specs.hv_telling.specs.hv_house.specs.declared.fault.HouseFault.{HouseFault}
use Rattle.hv_beginning.specs.hv_steps.specs.hv_table_reader.specs.hv_acts.specs.hv_telling.specs.hv_house.specs.declared.fault.HouseFault.TheVariants as fault
use Rattle.hv_beginning.specs.hv_steps.specs.hv_table_reader.specs.hv_acts.specs.hv_telling.specs.hv_house.specs.Faults.{HasRisen}
use Rattle.hv_beginning.specs.hv_steps.specs.hv_table_reader.specs.hv_acts.specs.hv_telling.specs.hv_house.specs.House.{entries_of, Leaves}
use Rattle.hv_beginning.specs.hv_steps.specs.hv_table_reader.specs.hv_acts.specs.hv_telling.specs.Telling.{IsWhole}
use Rattle.hv_beginning.specs.hv_steps.specs.hv_table_reader.specs.hv_acts.specs.hv_telling.proofs.Told.{told-stays}
use Rattle.hv_beginning.specs.hv_steps.specs.hv_table_reader.specs.hv_acts.specs.declared.told.ToldHouse.{ToldHouse}
use Rattle.hv_beginning.specs.hv_steps.specs.hv_table_reader.specs.hv_acts.specs.Told.{IsWholeOrClosed, book_in}
use Rattle.hv_beginning.specs.hv_steps.specs.hv_table_reader.specs.hv_acts.proofs.Steps.{book-is}
use Rattle.hv_beginning.specs.hv_steps.specs.Ending.{HasStopped}
use Rattle.hv_beginning.specs.hv_steps.specs.Going.{faults_in, IsOpenHouse, IsShutHouse, IsShutBetween, IsShutNow, Halts, Goes}
use Rattle.hv_session.specs.Alone.{AddsNothing, HasGained, StopsAlone, OpensAlone}
use Rattle.hv_session.specs.Ways.{IsPart, Anyhow, PartsAlone}
use Rattle.hv_session.proofs.AloneBooks.{adds-alone, gains-of, fits-behind, legal-behind, opens-legal}

-- nobody closed it between
pub never-between : {D : Type 0} (meanwhile : ToldHouse D → ToldHouse D → Type 0) → IsAlone meanwhile → IsShutBetween meanwhile → ⊥
never-between {D = D} meanwhile alone shut =
    let same : shut.found ≡ shut.left = alone shut.left shut.found shut.reached in
    true≢false (sym shut.is ∙ ap (λ (h : ToldHouse D). h.house.trail.closed) same ∙ shut.was)

module _ {D : Type 0} (told : D → Option Store) (faults : D → ℕ) (B : List TrailItem → Type 0) (none : AddsNothing B)
    (meanwhile : ToldHouse D → ToldHouse D → Type 0) (alone : IsAlone meanwhile) where
  stop-shut : (txn : ℕ) (own own' : List ℕ) (before now : ToldHouse D) → IsWholeOrClosed told now.house → Halts (among told faults B meanwhile) txn (known own before) (known own' now)
      fault.Store
      → IsShutNow told txn now → HasStopped told txn fault.Store before.house now.house
  stop-shut txn own own' before now kept halts shut =
      let gained : HasGained faults before now halts.added = adds-alone faults B none own own' before now halts.added halts.adds in
      let book : entries_of now.house ≡ entries_of shut.house.house = sym (book-is now.house) ∙ ap book_of shut.same ∙ book-is shut.house.house in
      let there : book_in shut.house ≡ entries_of now.house = book-is shut.house.house ∙ sym book in
      record {
        added = halts.added;
        book = gained.book;
        of_it = halts.of_it;
        fits = fits-behind (entries_of before.house) halts.added (entries_of now.house) gained.book
            (subst (AllFit profile nothing_yet) (sym book) (shut.kept.whole shut.was).ready.fit);
        legal = λ is. legal-behind (entries_of before.house) halts.added (entries_of now.house) gained.book
            (opens-legal told now.house (kept.opens (told-stays told before.house now.house gained.start is)));
        unended = halts.unended;
        further = shut.cut.further;
        further_of_it = shut.cut.of_it;
        unopened = shut.cut.unopened;
        few = shut.cut.few;
        fit = subst (λ (b : List Entry). AllFit profile (state_of b) shut.cut.further) there shut.cut.fit;
        leaves = subst (Leaves fault.Store shut.cut.further (told now.house.shelf)) there shut.cut.leaves;
      }

  stop-by : (txn : ℕ) (own own' : List ℕ) (before now : ToldHouse D) → IsWholeOrClosed told now.house → Halts (among told faults B meanwhile) txn (known own before) (known own' now) fault.Store
      → IsShutBetween meanwhile ⊎ IsShutNow told txn now → HasStopped told txn fault.Store before.house now.house
  stop-by txn own own' before now kept halts (inl between) = absurd (never-between meanwhile alone between)
  stop-by txn own own' before now kept halts (inr shut) = stop-shut txn own own' before now kept halts shut

  stop-open : (txn : ℕ) (own own' : List ℕ) (before now : ToldHouse D) → IsWholeOrClosed told now.house → IsWhole told now.house
      → Halts (among told faults B meanwhile) txn (known own before) (known own' now) fault.NoMemory → HasStopped told txn fault.NoMemory before.house now.house
  stop-open txn own own' before now kept whole halts =
      let gained : HasGained faults before now halts.added = adds-alone faults B none own own' before now halts.added halts.adds in
      record {
        added = halts.added;
        book = gained.book;
        of_it = halts.of_it;
        fits = fits-behind (entries_of before.house) halts.added (entries_of now.house) gained.book whole.ready.fit;
        legal = λ is. legal-behind (entries_of before.house) halts.added (entries_of now.house) gained.book
            (opens-legal told now.house (kept.opens (told-stays told before.house now.house gained.start is)));
        unended = halts.unended;
        further = [];
        further_of_it = tt;
        unopened = tt;
        few = omega arith;
        fit = tt;
        leaves = whole.ready.kept.reads;
      }

  pub stops-alone : StopsAlone told faults B meanwhile
  stops-alone txn own own' before now fault.Store kept halts = stop-by txn own own' before now kept halts halts.halts
  stops-alone txn own own' before now fault.NoMemory kept halts = stop-open txn own own' before now kept (kept.whole halts.halts) halts
  stops-alone txn own own' before now (fault.Failed count) kept halts = absurd halts.halts

  pub opens-alone : OpensAlone told faults B meanwhile
  opens-alone txn own own' before now why kept halts is =
      kept.opens (told-stays told before.house now.house (adds-alone faults B none own own' before now halts.added halts.adds).start is)

  -- where the store failed its count rose, since the house was open before
  shut-there : (txn : ℕ) (now : ToldHouse D) → IsShutBetween meanwhile ⊎ IsShutNow told txn now → IsShutHouse now
  shut-there txn now (inl between) = absurd (never-between meanwhile alone between)
  shut-there txn now (inr shut) = shut.is

  risen-alone : (txn : ℕ) (own own' : List ℕ) (before now : ToldHouse D) (why : HouseFault) → IsOpenHouse before
      → Halts (among told faults B meanwhile) txn (known own before) (known own' now) why → HasRisen (faults_in faults before) (faults_in faults now) why
  risen-alone txn own own' before now fault.Store open_ halts =
      let shut = shut-there txn now halts.halts in halts.adds.later.rises open_ shut.0 shut.1
  risen-alone txn own own' before now fault.NoMemory open_ halts = tt
  risen-alone txn own own' before now (fault.Failed count) open_ halts = absurd halts.halts

  -- a part over an actor goes on or stops as one over a house alone
  pub parts-alone : (T : Type 0) (txn : ℕ) (own own' : List ℕ) (before now : ToldHouse D) (Is : T → List Entry → Type 0) (result : Result T HouseFault)
      → IsOpenHouse before → IsWholeOrClosed told now.house
      → Goes (among told faults B meanwhile) (faults_in faults before) txn (known own before) (known own' now) Is result
      → IsPart told faults txn before.house now.house result
  parts-alone T txn own own' before now Is (Ok x) open_ kept goes =
      let gained : HasGained faults before now goes.done.added = adds-alone faults B none own own' before now goes.done.added goes.done.adds in
      record {
        done = record {
          whole = kept.whole goes.done.running;
          added = gains-of faults B none (faults_in faults before) txn own own' before now (Is x) goes.done;
        };
        start = gained.start;
        stopped = tt;
        opens = λ is. tt;
        cause = record { later = gained.later; failed = tt };
      }
  parts-alone T txn own own' before now Is (Err why) open_ kept goes =
      let gained : HasGained faults before now goes.halted.added = adds-alone faults B none own own' before now goes.halted.added goes.halted.adds in
      record {
        done = tt;
        start = gained.start;
        stopped = stops-alone txn own own' before now why kept goes.halted;
        opens = opens-alone txn own own' before now why kept goes.halted;
        cause = record { later = gained.later; failed = risen-alone txn own own' before now why open_ goes.halted };
      }

  pub goes-alone : (T : Type 0) → PartsAlone T told faults B meanwhile
  goes-alone T txn own own' before now result open_ kept goes = parts-alone T txn own own' before now (Anyhow {T = T}) result open_ kept goes
