-- A file that is put by an act.
use Rattle.std.proofs.Common.{◌≡◌, ℕ, ◌≤◌, ◌↔◌, Bool, false, Option, Some, None, IsTrue, Ok, Err, List, length, sym, ap, ◌∙◌, subst}
use Rattle.std.specs.Prelude.{IsSomeAnd}
use Rattle.hv_base.specs.declared.ids.TxnId.{TxnId}
use Rattle.hv_shelf.specs.declared.place.Place.{Place}
use Rattle.hv_shelf.specs.Disk.{Store}
use Rattle.hv_route.specs.declared.files.OutFile.{OutFile}
use Rattle.hv_book.specs.declared.notes.Held.{Held}
use Rattle.hv_book.specs.Briefs.{held_by, given_at}
use Rattle.hv_history.specs.declared.entry.Entry.{Entry}
use Rattle.hv_history.specs.declared.state.Transaction.{Transaction}
use Rattle.hv_history.specs.State.{state_of, numbered}
use Rattle.hv_history.specs.Legal.{Of, IsRunning}
use Rattle.hv_table_rows.specs.Putting.{IsEncoded, bytes_of}
use Rattle.hv_trail.specs.declared.trail.Reader.TheVariants.{Txn}
use Rattle.hv_trail.specs.Trail.{state_at}
use Rattle.hv_trail.specs.Kept.{trail_of}
use Rattle.hv_trail.specs.Lasting.{IsGiven}
use Rattle.hv_trail.specs.Steps.{Put, Done, Step}
use Rattle.hv_telling.specs.hv_house.specs.declared.house.House.{House}
use Rattle.hv_telling.specs.hv_house.specs.declared.fault.HouseFault.{HouseFault}
use Rattle.hv_telling.specs.hv_house.specs.Faults.{HasRisen}
use Rattle.hv_telling.specs.hv_house.specs.House.{entries_of, StaysPut}
use Rattle.hv_telling.specs.hv_house.specs.Steps.{seen_of, fault_outcome, HoldsId, IsOwnFile}
use Rattle.hv_telling.specs.Telling.{IsToldHouse, IsWhole, StaysWhole, StillOpens}
use Rattle.hv_acts.specs.declared.fault.ActFault.{ActFault}
use Rattle.hv_acts.specs.declared.fault.ActFault.TheVariants as act
use Rattle.hv_acts.specs.Answers.{NoTest, IsLate}
use Rattle.hv_acts.specs.Putting.{HasIdFor, Runs, FileStep, at_place}
use Rattle.hv_acts.specs.Meant.{RunsWith}
use Rattle.hv_acts.proofs.Steps.{book-is, whole-keeps, keeps-behind}
use Rattle.hv_acts.proofs.Leaves.{held-leaves, late-leaves, rises-by}
use Rattle.hv_acts.proofs.Notes.{why-of, asked-late, late-rises, no-true}

-- ---- its own file

both-of : (o : Option Transaction) (P Q : Transaction → Type 0) → IsSomeAnd o P → IsSomeAnd o Q → IsSomeAnd o (λ t. P t × Q t)
both-of None P Q p q = p
both-of (Some t) P Q p q = (p, q)

pub runs-book : {D : Type 0} (house : House D) (txn : TxnId) → Runs (trail_of house.trail) txn → Of (state_of (entries_of house)) txn.0 IsRunning
runs-book house txn = subst (λ (book : List Entry). Of (state_of book) txn.0 IsRunning) (book-is house)

pub runs-trail : {D : Type 0} (house : House D) (txn : TxnId) → Of (state_of (entries_of house)) txn.0 IsRunning → Runs (trail_of house.trail) txn
runs-trail house txn = subst (λ (book : List Entry). Of (state_of book) txn.0 IsRunning) (sym (book-is house))

pub runs-of : {D : Type 0} (house : House D) (txn : TxnId) (entries : List Entry) → entries ≡ entries_of house → Of (state_of entries) txn.0 IsRunning → Runs (trail_of house.trail) txn
runs-of house txn entries are runs = runs-trail house txn (subst (λ (book : List Entry). Of (state_of book) txn.0 IsRunning) are runs)

pub not-running : {D : Type 0} (house : House D) (txn : TxnId) (entries : List Entry) (b : Bool) → entries ≡ entries_of house → (Of (state_of entries) txn.0 IsRunning → IsTrue b) → b ≡ false
    → Runs (trail_of house.trail) txn → ⊥
not-running house txn entries b are tests is runs =
    no-true b is (tests (subst (λ (book : List Entry). Of (state_of book) txn.0 IsRunning) (sym are) (runs-book house txn runs)))

-- so many write ids at most
module _ {D : Type 0} (house : House D) (txn : TxnId) (entries : List Entry) (are : entries ≡ entries_of house) where
  pub runs-both : (held : List Held) (most : ℕ) (b : Bool) → held_by txn.0 held ≡ given_at (numbered (state_of entries).transactions txn.0)
      → Of (state_of entries) txn.0 IsRunning → IsTrue b ↔ length (held_by txn.0 held) ≤ most → IsTrue b ↔ RunsWith (trail_of house.trail) txn most
  runs-both held most b is runs tests =
      let same : length (held_by txn.0 held) ≡ length (given_at (numbered (state_at (trail_of house.trail)).transactions txn.0)) =
      ap length is ∙ ap (λ (book : List Entry). length (given_at (numbered (state_of book).transactions txn.0))) (are ∙ sym (book-is house)) in (
        λ true_. (runs-of house txn entries are runs, subst (λ n. n ≤ most) same (tests.0 true_)),
        λ both. tests.1 (subst (λ n. n ≤ most) (sym same) both.1),
      )

  pub runs-not : (most : ℕ) (b : Bool) → (Of (state_of entries) txn.0 IsRunning → IsTrue b) → b ≡ false → IsTrue b ↔ RunsWith (trail_of house.trail) txn most
  runs-not most b tests is = (λ true_. absurd (no-true b is true_), λ both. absurd (not-running house txn entries b are tests is both.0))

pub holds-id : {D : Type 0} (house : House D) (txn : TxnId) (table write : ℕ) → Runs (trail_of house.trail) txn
    → IsSomeAnd (numbered (state_at (trail_of house.trail)).transactions txn.0) (IsGiven table write) → HoldsId (entries_of house) txn.0 table write
holds-id house txn table write runs given =
    subst (λ (book : List Entry). HoldsId book txn.0 table write) (book-is house)
    (both-of (numbered (state_at (trail_of house.trail)).transactions txn.0) IsRunning (IsGiven table write) runs given)

pub own-file : {D : Type 0} (house : House D) (by : TxnId) (place : Place) (file : OutFile) → HasIdFor (trail_of house.trail) by place file
    → Runs (trail_of house.trail) by → IsOwnFile (entries_of house) by place file
own-file house by place file has runs = record {
  table = has.table;
  write = has.write;
  holds = holds-id house by has.table has.write runs has.given;
  place_is = has.place_is;
}

-- ---- its step

module _ {D : Type 0} (told : D → Option Store) (faults : D → ℕ) (by : TxnId) (place : Place) (file : OutFile) where
  pub file-done : (before now : House D) → RunsWith (trail_of before.trail) by 1 → IsWhole told before → IsWhole told now → IsEncoded file
      → Step told faults (Put (Txn by) place (bytes_of file)) Done (seen_of before) (seen_of now)
      → FileStep told faults (at_place by place file) before now (Ok tt)
  file-done before now runs was whole encoded step = record {
    keeps = whole-keeps told now whole;
    step = step;
    answers = (runs, encoded);
    leaves = was.ready.kept.running;
    rises = tt;
  }

  pub file-late : (why : ActFault) (house : House D) → IsWhole told house → IsLate (trail_of house.trail) by why → (RunsWith (trail_of house.trail) by 1 → ⊥)
      → FileStep told faults (at_place by place file) house house (Err why)
  file-late why house whole late not = record {
    keeps = whole-keeps told house whole;
    step = asked-late told faults (seen_of house) (trail_of house.trail) by (Put (Txn by) place (bytes_of file)) why late;
    answers = why-of NoTest (trail_of house.trail) by (RunsWith (trail_of house.trail) by 1) why late not;
    leaves = late-leaves told faults (trail_of house.trail) by why (seen_of house) (seen_of house) late whole.ready.kept.running;
    rises = late-rises faults (seen_of house) (trail_of house.trail) by why late;
  }

  pub file-failed : (why : HouseFault) (before now : House D) → IsWhole told before → StaysWhole told why now → (IsToldHouse told before → StillOpens told now)
      → now.start ≡ before.start → entries_of now ≡ entries_of before → StaysPut told why now → HasRisen (faults before.shelf) (faults now.shelf) why
      → Step told faults (Put (Txn by) place (bytes_of file)) (fault_outcome why) (seen_of before) (seen_of now)
      → FileStep told faults (at_place by place file) before now (Err (act.House why))
  file-failed why before now was stays opens start same put risen step = record {
    keeps = keeps-behind told before now why was stays opens start step.closed;
    step = step;
    answers = tt;
    leaves = held-leaves told faults by.0 why before now was.ready.kept.running same put risen;
    rises = rises-by faults (seen_of before) (faults now.shelf) why risen;
  }
