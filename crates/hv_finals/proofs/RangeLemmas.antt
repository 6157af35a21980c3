-- What is kept of a job beside a book says what it merges; and what a job at work merges has names.
use Rattle.std.proofs.Common.{◌≡◌, ℕ, ◌+◌, ◌<◌, ◌≤◌, Bool, true, false, true≢false, Option, Some, None, List, length, map, refl, sym, ap, ◌∙◌, subst, arith}
use Rattle.std.specs.Option.{option_map}
use Rattle.hv_dirs.specs.Names.{write_end, IsNumber, IsRange}
use Rattle.hv_history.specs.declared.entry.Entry.{Entry}
use Rattle.hv_history.specs.State.{State, Job, numbered, state_of}
use Rattle.hv_history.specs.Legal.{is_working}
use Rattle.hv_history.specs.Jobs.{pieces_for, is_empty_of}
use Rattle.hv_stands.proofs.Behind.{entries-are}
use Rattle.hv_law_jobs.proofs.OrderLemmas.{number-there}
use Rattle.hv_law_jobs.proofs.MergeLemmas.{range-is-sound}
use Rattle.hv_law_made.specs.Entries.{IsSoundBook}
use Rattle.hv_law_made.proofs.BookLemmas.{books-are-sound}
use Rattle.hv_law_made.proofs.NameBounds.{named-range}
use Rattle.hv_book.specs.declared.jobs.JobNote.{JobNote}
use Rattle.hv_book.specs.Jobs.{is_working_note}
use Rattle.hv_book.specs.Briefs.{brief_job}
use Rattle.hv_book.proofs.TextLaws.{numbered-map}
use Rattle.hv_book.proofs.LoadLaws.{working-same}
use Rattle.hv_queue.specs.declared.queue.JobPieces.{JobPieces}
use Rattle.hv_queue.specs.Queue.{pieces_in}
use Rattle.hv_finals.specs.declared.merging.Merge.{Merge}
use Rattle.hv_finals.specs.Finals.{CanName, merge_if, merge_noted, merge_by, merge_in, works_at}

-- ---- notes

pub works-some : (note : JobNote) (jobs : List Job) (n : ℕ) → Some note ≡ numbered (map brief_job jobs) n → is_working_note note ≡ works_at (numbered jobs n)
works-some note jobs n is = by (numbered jobs n) (is ∙ numbered-map brief_job jobs n)
  where
    by : (o : Option Job) → Some note ≡ option_map brief_job o → is_working_note note ≡ works_at o
    by None e = cc
    by (Some j) e = let same : note ≡ brief_job j = cc in ap is_working_note same ∙ working-same j

pub works-none : (jobs : List Job) (n : ℕ) → None ≡ numbered (map brief_job jobs) n → false ≡ works_at (numbered jobs n)
works-none jobs n is = by (numbered jobs n) (is ∙ numbered-map brief_job jobs n)
  where
    by : (o : Option Job) → None ≡ option_map brief_job o → false ≡ works_at o
    by None e = refl
    by (Some j) e = cc

-- there is such a job
pub noted-there : {A : Type 0} (note : JobNote) (jobs : List Job) (n : ℕ) → Some note ≡ numbered (map brief_job jobs) n → numbered jobs n ≡ None → A
noted-there note jobs n is absent =
    let both : Some note ≡ None = is ∙ numbered-map brief_job jobs n ∙ ap (option_map brief_job) absent in
    cc

pub merge-same : (note : JobNote) (merged : JobPieces) (state : State) (j : Job) → note ≡ brief_job j → pieces_in merged ≡ pieces_for state j
    → merge_noted note merged ≡ merge_in state j
merge-same note merged state j same pieces = ap (λ (n : JobNote). merge_noted n merged) same ∙ ap (merge_by j) pieces

-- ---- what it merges

abbrev pub its_merge : State → Job → Merge
its_merge state j =
    record { table = j.table; asked = j.asked; kind = j.kind; low = (pieces_for state j).low; high = (pieces_for state j).high }

-- where it is something, it is this
pub merge-there : (state : State) (j : Job) (merge : Merge) → Some merge ≡ merge_in state j
    → (is_empty_of j.kind (pieces_for state j) ≡ false) × (its_merge state j ≡ merge)
merge-there state j merge is = by (is_empty_of j.kind (pieces_for state j)) refl
  where
    by : (b : Bool) → is_empty_of j.kind (pieces_for state j) ≡ b → (is_empty_of j.kind (pieces_for state j) ≡ false) × (its_merge state j ≡ merge)
    by true e = let none : Some merge ≡ None = is ∙ ap (λ b. merge_if b (its_merge state j)) e in cc
    by false e =
        let one : Some merge ≡ Some (its_merge state j) = is ∙ ap (λ b. merge_if b (its_merge state j)) e in
        let same : its_merge state j ≡ merge = cc in
        (e, same)

pub merge-table : (state : State) (j : Job) (merge : Merge) → Some merge ≡ merge_in state j → merge.table ≡ j.table
merge-table state j merge is = let there = merge-there state j merge is in ap (λ (m : Merge). m.table) (sym there.1)

pub merge-none : (state : State) (j : Job) → None ≡ merge_in state j → is_empty_of j.kind (pieces_for state j) ≡ true
merge-none state j is = by (is_empty_of j.kind (pieces_for state j)) refl
  where
    by : (b : Bool) → is_empty_of j.kind (pieces_for state j) ≡ b → is_empty_of j.kind (pieces_for state j) ≡ true
    by true e = e
    by false e = let some : None ≡ Some (its_merge state j) = is ∙ ap (λ b. merge_if b (its_merge state j)) e in cc

-- ---- names

module _ (entries : List Entry) (can : CanName entries) where
  abbrev state : State
  state = state_of entries

  sound : IsSoundBook state
  sound = books-are-sound can.limits entries can.fit

  few-entries : state.entries < write_end
  few-entries = let few = can.few in omega (arith, few, entries-are entries)

  pub number-named : (n : ℕ) → works_at (numbered state.jobs n) ≡ true → IsNumber n
  number-named n works = by (numbered state.jobs n) refl works
    where
      by : (o : Option Job) → numbered state.jobs n ≡ o → works_at o ≡ true → IsNumber n
      by None is e = absurd (true≢false (sym e))
      by (Some j) is e =
          let within = number-there state.jobs n j is in
          let last = within.1 in
          let jobs = sound.few_jobs in
          (within.0, omega (arith, last, jobs, few-entries))

  range-there : (n : ℕ) (j : Job) → numbered state.jobs n ≡ Some j → is_working j ≡ true → is_empty_of j.kind (pieces_for state j) ≡ false
      → IsRange (pieces_for state j).low (pieces_for state j).high
  range-there n j is works some =
      named-range state few-entries sound j (Some ((pieces_for state j).low, (pieces_for state j).high, length state.transactions + 1))
      (range-is-sound state n (pieces_for state j).low (pieces_for state j).high (length state.transactions + 1) j sound.jobs is
      (record { working = works; some = some; low_is = refl; high_is = refl; mark_is = refl }))

  pub merge-range : (n : ℕ) (merge : Merge) (found : Option Merge) → works_at (numbered state.jobs n) ≡ true
      → ((j : Job) → numbered state.jobs n ≡ Some j → found ≡ merge_in state j) → found ≡ Some merge → IsRange merge.low merge.high
  merge-range n merge found works is at = by (numbered state.jobs n) refl works
    where
      by : (o : Option Job) → numbered state.jobs n ≡ o → works_at o ≡ true → IsRange merge.low merge.high
      by None here e = absurd (true≢false (sym e))
      by (Some j) here e =
          let there = merge-there state j merge (sym at ∙ is j here) in
          subst (λ (m : Merge). IsRange m.low m.high) there.1 (range-there n j here e there.0)
