-- What a job at work is to make has a name, and so has the directory that stages it; and where it stages a file.
use Rattle.std.proofs.Common.{◌≡◌, ◌⊎◌, inl, inr, ℕ, Bool, true, false, true≢false, Option, Some, None, List, refl, sym, ap, subst}
use Rattle.std.specs.Prelude.{IsTrue, IsSomeAnd}
use Rattle.hv_shelf.specs.declared.place.Place.{Place}
use Rattle.hv_dirs.specs.declared.names.DirName.{DirName}
use Rattle.hv_history.specs.declared.entry.Entry.{Entry}
use Rattle.hv_history.specs.declared.entry.JobKind.{JobKind}
use Rattle.hv_history.specs.declared.entry.JobKind.TheVariants as kind
use Rattle.hv_history.specs.declared.state.Table.{Table}
use Rattle.hv_history.specs.State.{State, Job, numbered, nothing_yet, state_of}
use Rattle.hv_history.specs.Legal.{AllFit, profile, is_working}
use Rattle.hv_history.specs.Jobs.{Events, events_in, is_live_one, pieces_for, is_empty_of}
use Rattle.hv_history.specs.JobsFit.{OfJob, is_live_job}
use Rattle.hv_jobs.specs.Covered.{wide, has_within}
use Rattle.hv_jobs.specs.Covers.{range_names}
use Rattle.hv_jobs.specs.Finals.{final_if, final_names, unless_bare, finals_of}
use Rattle.hv_law_visible.specs.Members.{IsIn}
use Rattle.hv_law_visible.proofs.MemberLemmas.{in-either}
use Rattle.hv_law_made.specs.Entries.{IsAtWork}
use Rattle.hv_law_made.proofs.BookLemmas.{books-are-sound}
use Rattle.hv_law_made.proofs.RenameStands.{staged-as, is-number, made-name}
use Rattle.hv_telling.specs.hv_law_work.specs.Work.{IsJobFile, IsStagedFile}
use Rattle.hv_telling.proofs.Few.{few-entries}
use Rattle.hv_job_calls.specs.Refusals.{HasLiveJob, WorksAt}
use Rattle.hv_job_calls.specs.Staging.{staged_by, staged_in, IsStageable}

-- ---- among the names of its range

if-made : (b : Bool) (name x : DirName) → IsIn x (final_if b name) → name ≡ x
if-made true name x (inl e) = e
if-made true name x (inr at) = absurd at
if-made false name x at = absurd at

in-range : (ids : List Events) (k : JobKind) (low high : ℕ) (name : DirName) → IsIn name (final_names ids k low high) → IsIn name (range_names k low high)
in-range ids kind.Minor low high name at =
    by (in-either name (final_if (has_within false low high ids) (wide false low high)) (final_if (has_within true low high ids) (wide true low high)) at)
  where
    by : IsIn name (final_if (has_within false low high ids) (wide false low high)) ⊎ IsIn name (final_if (has_within true low high ids) (wide true low high))
        → IsIn name (range_names kind.Minor low high)
    by (inl first) = inl (if-made (has_within false low high ids) (wide false low high) name first)
    by (inr second) = inr (inl (if-made (has_within true low high ids) (wide true low high) name second))
in-range ids kind.Major low high name at = at

-- it has something to merge
not-empty : (b : Bool) (names : List DirName) (name : DirName) → IsIn name (unless_bare b names) → (b ≡ false) × IsIn name names
not-empty true names name at = absurd at
not-empty false names name at = (refl, at)

live-table : (o : Option Table) → is_live_one o ≡ true → (table : Table) × (o ≡ Some table) × (table.is_live ≡ true)
live-table None e = absurd (true≢false (sym e))
live-table (Some table) e = (table, refl, e)

module _ (book : List Entry) (fit : AllFit profile nothing_yet book) (number : ℕ) (name : DirName) where
  abbrev state : State
  state = state_of book

  stageable-by : (j : Job) → numbered state.jobs number ≡ Some j → IsTrue (is_working j) → is_live_job state j ≡ true → IsIn name (finals_of state j)
      → IsStageable number name
  stageable-by j is works live among =
      let there =
      not-empty (is_empty_of j.kind (pieces_for state j))
      (final_names (events_in state j.table j.partition) j.kind (pieces_for state j).low (pieces_for state j).high) name among in
      let range = in-range (events_in state j.table j.partition) j.kind (pieces_for state j).low (pieces_for state j).high name there.1 in
      let table = live-table (numbered state.tables j.table) live in
      let work : IsAtWork state number j = record {
        is = is;
        working = works;
        table = table.0;
        table_is = table.1;
        live = table.2;
        some = there.0;
      } in
      let made = made-name state number j work (few-entries book fit) (books-are-sound profile book fit) name range in
      (made.named, staged-as number name (is-number state number j work (few-entries book fit) (books-are-sound profile book fit)) made)

  pub final-stageable : WorksAt state number → HasLiveJob state number → OfJob state number (λ (j : Job). IsIn name (finals_of state j)) → IsStageable number name
  final-stageable works live final = by (numbered state.jobs number) refl works live final
    where
      by : (o : Option Job) → numbered state.jobs number ≡ o → IsSomeAnd o (λ (j : Job). IsTrue (is_working j)) → IsSomeAnd o (λ (j : Job). is_live_job state j ≡ true)
          → IsSomeAnd o (λ (j : Job). IsIn name (finals_of state j)) → IsStageable number name
      by None e works live final = absurd works
      by (Some j) e works live final = stageable-by j e works live final

-- ---- the place

-- of a book that is the same
pub place-there : (read book : List Entry) (number : ℕ) (place : Option Place) (name : DirName) (bucket : ℕ) → read ≡ book
    → ((j : Job) → numbered (state_of read).jobs number ≡ Some j → place ≡ Some (staged_in (state_of read) number name bucket))
    → (j : Job) → numbered (state_of book).jobs number ≡ Some j → place ≡ Some (staged_in (state_of book) number name bucket)
place-there read book number place name bucket same is =
    subst (λ (b : List Entry). (j : Job) → numbered (state_of b).jobs number ≡ Some j → place ≡ Some (staged_in (state_of b) number name bucket)) same is

pub found-place : (state : State) (number : ℕ) (place : Option Place) (name : DirName) (bucket : ℕ) → WorksAt state number
    → ((j : Job) → numbered state.jobs number ≡ Some j → place ≡ Some (staged_in state number name bucket)) → place ≡ Some (staged_in state number name bucket)
found-place state number place name bucket works at = by (numbered state.jobs number) refl works
  where
    by : (o : Option Job) → numbered state.jobs number ≡ o → IsSomeAnd o (λ (j : Job). IsTrue (is_working j)) → place ≡ Some (staged_in state number name bucket)
    by None e works = absurd works
    by (Some j) e works = at j e

-- a file that it is to stage is one at that place
pub staged-there : (state : State) (number : ℕ) (name : DirName) (bucket : ℕ) (bytes : List ℕ) → IsJobFile state number name bucket bytes
    → IsStagedFile state number (staged_in state number name bucket) bytes
staged-there state number name bucket bytes file =
    subst (λ (p : Place). IsStagedFile state number p bytes) (sym (ap (staged_by number name bucket) file.work.is))
    (record { name = name; file = file; place_is = refl })
