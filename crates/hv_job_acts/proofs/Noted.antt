-- Of which table and partition a job is, by what is kept of it beside a book.
use Rattle.std.proofs.Common.{◌≡◌, ℕ, Option, Some, None, List, map, sym, ap, ◌∙◌}
use Rattle.hv_history.specs.declared.entry.Entry.{Entry}
use Rattle.hv_history.specs.State.{Job, numbered, state_of}
use Rattle.hv_book.specs.declared.jobs.JobNote.{JobNote}
use Rattle.hv_book.specs.Briefs.{brief_job}
use Rattle.hv_tallies.specs.Jobs.{asked_at}
use Rattle.hv_tallies.proofs.CoveredLemmas.{partition-is}
use Rattle.hv_acts.specs.hv_telling.specs.hv_house.specs.declared.house.House.{House}
use Rattle.hv_acts.specs.hv_telling.specs.hv_house.specs.House.{entries_of}
use Rattle.hv_job_calls.proofs.Notes.{by-note, none-job}
use Rattle.hv_job_calls.proofs.AskedPlaces.{asked-there}

pub table-of : (note : JobNote) (j : Job) → note ≡ brief_job j → j.table ≡ note.table
table-of note j same = sym (ap (λ (n : JobNote). n.table) same)

-- where its Asked stands
pub partition-there : (entries : List Entry) (n : ℕ) (note : JobNote) (j : Job) (found : Option (List ℕ)) → numbered (state_of entries).jobs n ≡ Some j
    → note ≡ brief_job j → found ≡ asked_at entries note.asked → found ≡ Some j.partition
partition-there entries n note j found at same is = is ∙ ap (λ (x : JobNote). asked_at entries x.asked) same ∙ asked-there entries n j at

pub partition-of : (entries : List Entry) (n : ℕ) (note : JobNote) (j : Job) (found : List ℕ) → numbered (state_of entries).jobs n ≡ Some j
    → note ≡ brief_job j → Some found ≡ asked_at entries note.asked → j.partition ≡ found
partition-of entries n note j found at same is =
    sym (partition-is found j.partition (partition-there entries n note j (Some found) at same is))

-- ---- as it is asked of a house

module _ {D : Type 0} (house : House D) (n : ℕ) (entries : List Entry) (are : entries ≡ entries_of house) where
  abbrev Book : List Entry
  Book = entries_of house

  pub asked-now : (place : ℕ) (found : Option (List ℕ)) → found ≡ asked_at entries place → found ≡ asked_at Book place
  asked-now place found is = is ∙ ap (λ (book : List Entry). asked_at book place) are

  pub note-now : (note : JobNote) → Some note ≡ numbered (map brief_job (state_of entries).jobs) n → (j : Job) → numbered (state_of Book).jobs n ≡ Some j
      → note ≡ brief_job j
  note-now note e j at =
      by-note (state_of Book).jobs n note (e ∙ ap (λ (book : List Entry). numbered (map brief_job (state_of book).jobs) n) are) (λ (x : JobNote). x) j at

  pub none-now : {A : Type 0} → None ≡ numbered (map brief_job (state_of entries).jobs) n → (j : Job) → numbered (state_of Book).jobs n ≡ Some j → A
  none-now e j at =
      none-job (state_of Book).jobs n (e ∙ ap (λ (book : List Entry). numbered (map brief_job (state_of book).jobs) n) are) j at
