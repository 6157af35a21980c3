-- A transaction that is committed by an act, or aborted since a commit conflicts with it.
use Rattle.std.proofs.Common.{◌≡◌, inl, inr, ℕ, zero, suc, ◌<◌, slice_get, Bool, true, false, append-nil, arith, Option, Some, None, Ok, Err, List, [], ◌∷◌, length, refl, sym, ◌∙◌, subst}
use Rattle.std.specs.Prelude.{IsSomeAnd}
use Rattle.hv_base.specs.declared.ids.TxnId.{TxnId}
use Rattle.hv_base.specs.declared.ids.TableId.{TableId}
use Rattle.hv_base.specs.declared.ids.Touch.{Touch}
use Rattle.hv_shelf.specs.declared.place.Place.{Place}
use Rattle.hv_shelf.specs.Disk.{Store}
use Rattle.hv_route.specs.Routes.{files_of}
use Rattle.hv_history.specs.declared.entry.Entry.{Entry}
use Rattle.hv_history.specs.declared.entry.Entry.TheVariants as entry
use Rattle.hv_history.specs.declared.entry.Cause.{Cause}
use Rattle.hv_history.specs.declared.entry.Cause.TheVariants as cause
use Rattle.hv_history.specs.declared.state.Table.{Table}
use Rattle.hv_history.specs.declared.state.Transaction.{Transaction}
use Rattle.hv_history.specs.State.{State, state_of, numbered}
use Rattle.hv_history.specs.Legal.{Of, IsRunning, ConflictFits, CommitFits, MeetsNoConflict}
use Rattle.hv_conflicts.proofs.ClashLemmas.{clash-fits}
use Rattle.hv_conflicts.specs.declared.meeting.Clash.{Clash}
use Rattle.hv_conflicts.specs.Clashes.{IsClash}
use Rattle.hv_trail.specs.declared.trail.Reader.TheVariants.{Txn}
use Rattle.hv_trail.specs.declared.trail.TrailItem.{TrailItem}
use Rattle.hv_trail.specs.Trail.{book_of, state_at, broken}
use Rattle.hv_trail.specs.Kept.{trail_of}
use Rattle.hv_trail.specs.Steps.{Note, Commit, Done, HouseSeen, Step}
use Rattle.hv_telling.specs.hv_house.specs.declared.fault.HouseFault.{HouseFault}
use Rattle.hv_telling.specs.hv_house.specs.declared.fault.HouseFault.TheVariants as fault
use Rattle.hv_telling.specs.hv_house.specs.declared.house.House.{House}
use Rattle.hv_telling.specs.hv_house.specs.House.{entries_of, IsSmall}
use Rattle.hv_telling.specs.hv_house.specs.Steps.{seen_of, fault_outcome, IsPutWhole, CanCommit}
use Rattle.hv_telling.specs.Telling.{IsWhole}
use Rattle.hv_telling.specs.hv_house.proofs.Steps.{moves-by}
use Rattle.hv_acts.specs.declared.aborted.Aborted.{Aborted}
use Rattle.hv_acts.specs.declared.committing.Conflict.{Conflict}
use Rattle.hv_acts.specs.declared.committing.Committed.TheVariants as committed
use Rattle.hv_acts.specs.declared.fault.ActFault.{ActFault}
use Rattle.hv_acts.specs.declared.fault.ActFault.TheVariants as act
use Rattle.hv_acts.specs.Answers.{act_outcome, call_behind, FilesTest, IsLate, EntryFits, own_entry, EntryStep, HasItsMark}
use Rattle.hv_acts.specs.Aborting.{AbortStep, abort_of}
use Rattle.hv_acts.specs.Putting.{Runs}
use Rattle.hv_acts.specs.Committing.{IsOfItsChange, CanBePut, WerePut, conflict_cause, IsConflictOf, IsConflict, HasMet, IsReadyWith, RestsOnCommit, CommitStep}
use Rattle.hv_acts.specs.Meant.{HasAtMost, RunsWith, IsCommitDue, IsCauseTrue}
use Rattle.hv_acts.proofs.Shorts.{short_conflict}
use Rattle.hv_acts.proofs.Steps.{book-is, moves-same, or-false, asked, whole-keeps}
use Rattle.hv_acts.proofs.Leaves.{late-leaves}
use Rattle.hv_acts.proofs.Notes.{why-of, why-for, asked-late}
use Rattle.hv_acts.proofs.Puts.{holds-id}
use Rattle.hv_acts.proofs.Truths.{files-written, conflict-true}

-- ---- what it rests on

record IsThere (tables : List Table) (number : ℕ) (P : Table → Type 0) : Type 0 where
  table : Table
  here : numbered tables number ≡ Some table
  is : P table

there : (tables : List Table) (number : ℕ) (P : Table → Type 0) → IsSomeAnd (numbered tables number) P → IsThere tables number P
there tables number P = by (numbered tables number) refl
  where
    by : (o : Option Table) → numbered tables number ≡ o → IsSomeAnd o P → IsThere tables number P
    by None here is = absurd is
    by (Some table) here is = record { table = table; here = here; is = is }

put-whole : {D : Type 0} (house : House D) (txn : TxnId) (wrote : List Touch) (places : List Place) → Runs (trail_of house.trail) txn
    → IsOfItsChange (trail_of house.trail) txn wrote places → WerePut (trail_of house.trail) txn places
    → IsPutWhole (entries_of house) (trail_of house.trail) txn wrote
put-whole house txn wrote places runs is put =
    let at = there (state_at (trail_of house.trail)).tables is.info.table.0 (λ (table : Table). table.info ≡ is.info) is.here in
    record {
      info = is.info;
      table = at.table;
      here = subst (λ (book : List Entry). numbered (state_of book).tables is.info.table.0 ≡ Some at.table) (book-is house) at.here;
      same = at.is;
      effect = is.effect;
      write = is.write;
      touches = is.touches;
      holds = holds-id house txn is.info.table.0 is.write runs is.given;
      files = files-written (trail_of house.trail) txn is.info.table.0 is.write (files_of is.info.shape is.write 0 is.effect) places is.places_are put;
    }

pub can-commit : {D : Type 0} (house : House D) (txn : TxnId) (wrote : List Touch) (places : List Place) → Runs (trail_of house.trail) txn
    → broken (Txn txn) (trail_of house.trail) ≡ None → CanBePut (trail_of house.trail) txn wrote places → WerePut (trail_of house.trail) txn places
    → CanCommit (entries_of house) (trail_of house.trail) txn wrote
can-commit house txn wrote places runs unbroken (inl none) put = record { unbroken = unbroken; put = inl none }
can-commit house txn wrote places runs unbroken (inr is) put = record { unbroken = unbroken; put = inr (put-whole house txn wrote places runs is put) }

-- ---- a conflict

pub found-within : (ts : List Touch) (at : ℕ) (touch : Touch) → slice_get ts at ≡ Some touch → at < length ts
found-within [] at touch e = cc
found-within (t ∷ ts) zero touch e = omega arith
found-within (t ∷ ts) (suc at) touch e = omega (arith, found-within ts at touch e)

conflict-at : (state : State) (txn : TxnId) (wrote : List Touch) (clash : Clash) (o : Option Transaction) → numbered state.transactions txn.0 ≡ o → IsSomeAnd o IsRunning
    → (is : IsClash state txn.0 wrote clash) → IsSomeAnd o (ConflictFits state clash.by.0 is.touch.table.0 is.touch.partition)
conflict-at state txn wrote clash None here runs is = runs
conflict-at state txn wrote clash (Some t) here runs is = clash-fits state txn.0 t wrote clash is.touch here runs is is.found

module _ {D : Type 0} (house : House D) (txn : TxnId) (wrote : List Touch) (clash : Clash) (is : IsClash (state_at (trail_of house.trail)) txn.0 wrote clash)
    (runs : RunsWith (trail_of house.trail) txn 1) where
  -- its cause fits
  conflict-fits : EntryFits (trail_of house.trail) (entry.Abort txn (conflict_cause clash.by is.touch))
  conflict-fits = conflict-at (state_at (trail_of house.trail)) txn wrote clash (numbered (state_at (trail_of house.trail)).transactions txn.0) refl runs.0 is

  its-conflict : IsConflict (trail_of house.trail) txn wrote clash.by is.touch.table is.touch.partition
  its-conflict = record { clash = clash; is = is; by_is = refl; table_is = refl; partition_is = refl }

  module _ (name : List ℕ) (at : ℕ) (found : Conflict) (of : IsConflictOf at clash.by is.touch name found) where
    pub found-small : IsSmall (entry.Commit txn wrote) → IsSmall (entry.Abort txn found.cause)
    found-small small =
        subst (λ (why : Cause). IsSmall (entry.Abort txn why)) (sym of.cause_is) (short_conflict txn clash.by wrote clash.at is.touch is.found small)

    pub found-fits : EntryFits (trail_of house.trail) (entry.Abort txn found.cause)
    found-fits = subst (λ (why : Cause). EntryFits (trail_of house.trail) (entry.Abort txn why)) (sym of.cause_is) conflict-fits

    pub found-marked : HasItsMark (trail_of house.trail) txn found.cause
    found-marked = subst (HasItsMark (trail_of house.trail) txn) (sym of.cause_is) tt

    pub found-true : (places : List Place) → IsCommitDue (trail_of house.trail) txn wrote places → IsCauseTrue (trail_of house.trail) txn found.cause
    found-true places due =
        subst (IsCauseTrue (trail_of house.trail) txn) (sym of.cause_is)
        (conflict-true (trail_of house.trail) txn runs.0 wrote places clash.by is.touch.table is.touch.partition due its-conflict)

    pub found-met : HasMet (trail_of house.trail) txn wrote name found
    found-met = record {
      by = clash.by;
      table = is.touch.table;
      partition = is.touch.partition;
      conflict = its-conflict;
      cause_is = of.cause_is;
      line = of.line;
      fits = conflict-fits;
      runs = runs;
    }

pub clash-trail : {D : Type 0} (house : House D) (txn : TxnId) (entries : List Entry) (xs ys : List Touch) (clash : Clash) → entries ≡ entries_of house → xs ≡ ys
    → IsClash (state_of entries) txn.0 xs clash → IsClash (state_at (trail_of house.trail)) txn.0 ys clash
clash-trail house txn entries xs ys clash are same is =
    subst (λ (ts : List Touch). IsClash (state_at (trail_of house.trail)) txn.0 ts clash) same
    (subst (λ (book : List Entry). IsClash (state_of book) txn.0 xs clash) (are ∙ sym (book-is house)) is)

-- what is ready and meets no conflict can be committed
ready-fits : (state : State) (wrote : List Touch) (o : Option Transaction) → IsSomeAnd o (λ (t : Transaction). MeetsNoConflict state t wrote) → IsSomeAnd o (IsReadyWith wrote)
    → IsSomeAnd o (CommitFits state wrote)
ready-fits state wrote None clear ready = absurd ready
ready-fits state wrote (Some t) clear ready = record { running = ready.running; rise = ready.rise; own = ready.own; used = ready.used; clear = clear }

ready-runs : (wrote : List Touch) (o : Option Transaction) → IsSomeAnd o (IsReadyWith wrote) → IsSomeAnd o IsRunning
ready-runs wrote None ready = absurd ready
ready-runs wrote (Some t) ready = ready.running

abbrev pub IsClear : List TrailItem → TxnId → List Touch → Type 0
IsClear trail txn wrote = Of (state_at trail) txn.0 (λ (t : Transaction). MeetsNoConflict (state_at trail) t wrote)

pub clear-trail : {D : Type 0} (house : House D) (txn : TxnId) (entries : List Entry) (xs ys : List Touch) → entries ≡ entries_of house → xs ≡ ys
    → Of (state_of entries) txn.0 (λ (t : Transaction). MeetsNoConflict (state_of entries) t xs) → IsClear (trail_of house.trail) txn ys
clear-trail house txn entries xs ys are same is =
    subst (IsClear (trail_of house.trail) txn) same
    (subst (λ (book : List Entry). Of (state_of book) txn.0 (λ (t : Transaction). MeetsNoConflict (state_of book) t xs)) (are ∙ sym (book-is house)) is)

-- ---- the steps

module _ {D : Type 0} (told : D → Option Store) (faults : D → ℕ) (txn : TxnId) (wrote : List Touch) (before now : HouseSeen D) where
  commit-fails : (why : HouseFault) → Step told faults (Note (entry.Commit txn wrote)) (fault_outcome why) before now
      → Step told faults (Commit txn wrote) (fault_outcome why) before now
  commit-fails fault.Store s = record {
    may = tt;
    trail = s.trail;
    store = moves-by (told before.shelf) (told now.shelf) _ _ (λ a b moved. inl moved) s.store;
    closed = s.closed;
    starved = s.starved;
    shut_out = s.shut_out;
    counts = s.counts;
    rest = s.rest;
  }
  commit-fails fault.NoMemory s = record {
    may = tt;
    trail = s.trail;
    store = s.store;
    closed = s.closed;
    starved = s.starved;
    shut_out = s.shut_out;
    counts = s.counts;
    rest = s.rest;
  }
  commit-fails (fault.Failed count) s = absurd s.may

  pub conflict-fails : (by : TxnId) (table : TableId) (partition : List ℕ) (why : HouseFault)
      → Step told faults (Note (entry.Abort txn (cause.Conflict by table partition))) (fault_outcome why) before now
      → Step told faults (Commit txn wrote) (fault_outcome why) before now
  conflict-fails by table partition fault.Store s = record {
    may = tt;
    trail = s.trail;
    store = moves-by (told before.shelf) (told now.shelf) _ _ (λ a b moved. inr (by, table, partition, moved)) s.store;
    closed = s.closed;
    starved = s.starved;
    shut_out = s.shut_out;
    counts = s.counts;
    rest = s.rest;
  }
  conflict-fails by table partition fault.NoMemory s = record {
    may = tt;
    trail = s.trail;
    store = s.store;
    closed = s.closed;
    starved = s.starved;
    shut_out = s.shut_out;
    counts = s.counts;
    rest = s.rest;
  }
  conflict-fails by table partition (fault.Failed count) s = absurd s.may

  pub commit-behind : (why : ActFault) → Step told faults (call_behind (Note (entry.Commit txn wrote)) why) (act_outcome why) before now
      → Step told faults (call_behind (Commit txn wrote) why) (act_outcome why) before now
  commit-behind (act.Ended at) s = s
  commit-behind (act.Full entries) s = s
  commit-behind (act.Held holder) s = s
  commit-behind (act.Broken put count) s = s
  commit-behind act.Unfit s = s
  commit-behind (act.House why) s = commit-fails why s

-- ---- what is promised of a commit

module _ {D : Type 0} (told : D → Option Store) (faults : D → ℕ) (txn : TxnId) (wrote : List Touch) (name : List ℕ) (places : List Place) where
  pub commit-failed : (why : ActFault) (before now : House D) → IsClear (trail_of before.trail) txn wrote
      → EntryStep {T = Unit {0}} told faults (own_entry txn (entry.Commit txn wrote)) before now (Err why)
      → CommitStep told faults (record { txn = txn; wrote = wrote; name = name; put = places }) before now (Err why)
  commit-failed why before now clear s = record {
    keeps = s.keeps;
    step = commit-behind told faults txn wrote (seen_of before) (seen_of now) why s.step;
    answers = why-for FilesTest (trail_of before.trail) txn _ (RestsOnCommit (trail_of before.trail) txn wrote places)
        (λ is. ready-fits (state_at (trail_of before.trail)) wrote (numbered (state_at (trail_of before.trail)).transactions txn.0) clear is.ready) why s.answers;
    leaves = s.leaves;
  }

  pub commit-done : (at : ℕ) (before now : House D) → at ≡ length (book_of (trail_of before.trail)) → broken (Txn txn) (trail_of before.trail) ≡ None
      → WerePut (trail_of before.trail) txn places → HasAtMost (trail_of before.trail) txn 1
      → EntryStep {T = Unit {0}} told faults (own_entry txn (entry.Commit txn wrote)) before now (Ok tt)
      → CommitStep told faults (record { txn = txn; wrote = wrote; name = name; put = places }) before now (Ok (committed.At at))
  commit-done at before now place unbroken put most s = record {
    keeps = s.keeps;
    step = s.step;
    answers = record { place = place; unbroken = unbroken; fits = record { put = put; fits = s.answers.0; alone = most } };
    leaves = s.leaves;
  }

  pub commit-broken : (put : Bool) (count : ℕ) (house : House D) → IsWhole told house → broken (Txn txn) (trail_of house.trail) ≡ Some (put, count)
      → CommitStep told faults (record { txn = txn; wrote = wrote; name = name; put = places }) house house (Err (act.Broken put count))
  commit-broken put count house whole is = record {
    keeps = whole-keeps told house whole;
    step = asked told faults (seen_of house);
    answers = (tt, is);
    leaves = whole.ready.kept.running;
  }

  -- memory lacked before the call
  pub commit-lacks : (house : House D) → IsWhole told house → CommitStep told faults (record { txn = txn; wrote = wrote; name = name; put = places }) house
      house (Err (act.House fault.NoMemory))
  commit-lacks house whole = record {
    keeps = whole-keeps told house whole;
    step = record {
      may = tt;
      trail = sym (append-nil (trail_of house.trail));
      store = moves-same (told house.shelf) _ (λ s. record { tree_is = refl; reads = λ is. is });
      closed = or-false house.trail.closed;
      starved = refl;
      shut_out = λ shut. let never : true ≡ false = sym shut ∙ whole.ready.kept.running in cc;
      counts = omega arith;
      rest = record { start = refl; opened = refl; limits = refl };
    };
    answers = tt;
    leaves = whole.ready.kept.running;
  }

  -- a test refused it
  pub commit-late : (why : ActFault) (house : House D) → IsWhole told house → IsLate (trail_of house.trail) txn why
      → (RestsOnCommit (trail_of house.trail) txn wrote places → ⊥) → CommitStep told faults (record { txn = txn; wrote = wrote; name = name; put = places })
      house house (Err why)
  commit-late why house whole late not = record {
    keeps = whole-keeps told house whole;
    step = asked-late told faults (seen_of house) (trail_of house.trail) txn (Commit txn wrote) why late;
    answers = why-of FilesTest (trail_of house.trail) txn (RestsOnCommit (trail_of house.trail) txn wrote places) why late not;
    leaves = late-leaves told faults (trail_of house.trail) txn why (seen_of house) (seen_of house) late whole.ready.kept.running;
  }

  pub commit-not-running : (why : ActFault) (house : House D) → IsWhole told house → IsLate (trail_of house.trail) txn why
      → (RunsWith (trail_of house.trail) txn 1 → ⊥) → CommitStep told faults (record { txn = txn; wrote = wrote; name = name; put = places }) house house
      (Err why)
  commit-not-running why house whole late not =
      commit-late why house whole late
      (λ is. not (ready-runs wrote (numbered (state_at (trail_of house.trail)).transactions txn.0) is.ready, is.alone))

  module _ (found : Conflict) (before now : House D) (met : HasMet (trail_of before.trail) txn wrote name found) where
    pub conflict-failed : (why : HouseFault) → AbortStep told faults (abort_of txn found.cause found.aborted.text) before now (Err why)
        → CommitStep told faults (record { txn = txn; wrote = wrote; name = name; put = places }) before now (Err (act.House why))
    conflict-failed why s = record {
      keeps = s.keeps;
      step =
          conflict-fails told faults txn wrote (seen_of before) (seen_of now) met.by met.table met.partition why
          (subst (λ (of : Cause). Step told faults (Note (entry.Abort txn of)) (fault_outcome why) (seen_of before) (seen_of now)) met.cause_is s.step);
      answers = tt;
      leaves = s.leaves;
    }

    pub conflict-done : (aborted : Aborted) → AbortStep told faults (abort_of txn found.cause found.aborted.text) before now (Ok aborted)
        → CommitStep told faults (record { txn = txn; wrote = wrote; name = name; put = places }) before now (Ok (committed.Aborted aborted))
    conflict-done aborted s = record {
      keeps = s.keeps;
      step = subst (λ (of : Cause). Step told faults (Note (entry.Abort txn of)) Done (seen_of before) (seen_of now)) (sym s.tells.cause_is) s.step;
      answers = record {
        place = s.tells.place;
        by = met.by;
        table = met.table;
        partition = met.partition;
        conflict = met.conflict;
        cause_is = s.tells.cause_is ∙ met.cause_is;
        line = s.tells.line_is ∙ met.line;
        fits = subst (λ (of : Cause). EntryFits (trail_of before.trail) (entry.Abort txn of)) (sym (s.tells.cause_is ∙ met.cause_is)) met.fits;
        runs = met.runs;
      };
      leaves = s.running;
    }
