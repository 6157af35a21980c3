-- How an opening ends a job, by what is kept of it beside the book.
use Rattle.std.proofs.Common.{◌≡◌, ℕ, ◌+◌, Bool, true, false, true≢false, ◌&&◌, not, Option, Some, None, List, [], ◌∷◌, length, map, refl, sym, ap, ◌∙◌}
use Rattle.std.specs.Prelude.{if◌then◌else◌}
use Rattle.hv_history.specs.declared.entry.Entry.{Entry}
use Rattle.hv_history.specs.declared.entry.Entry.TheVariants as entry
use Rattle.hv_history.specs.State.{State, Job, numbered}
use Rattle.hv_history.specs.Legal.{is_working}
use Rattle.hv_history.specs.Jobs.{Pieces, pieces_for, is_empty_of, is_live_one}
use Rattle.hv_history.specs.JobsFit.{is_live_job}
use Rattle.hv_law_made.specs.Entries.{publishing}
use Rattle.hv_law_made.specs.Opening.{is_among, is_to_publish, job_end, fails_as_lost, fails_as_gone}
use Rattle.hv_book.specs.declared.jobs.JobNote.{JobNote}
use Rattle.hv_book.specs.declared.jobs.JobRange.{JobRange}
use Rattle.hv_book.specs.Briefs.{brief_job}
use Rattle.hv_queue.specs.declared.queue.JobPieces.{JobPieces}
use Rattle.hv_queue.specs.Queue.{pieces_in}
use Rattle.hv_queue.specs.hv_tallies.proofs.NoteLemmas.{job-some}
use Rattle.hv_finals.specs.declared.ending.JobEnd.{JobEnd}
use Rattle.hv_finals.specs.declared.ending.JobEnd.TheVariants as end
use Rattle.hv_finals.specs.Finals.{works_at, entry_of, entries_of_end, end_entries, end_by, is_publication}

-- ---- by its note

abbrev published-as : ℕ → JobRange → Entry
published-as n range = entry.Published (record { 0 = n }) (record { 0 = range.low }) (record { 0 = range.high }) (record { 0 = range.mark })

end-entry : (n : ℕ) (live publish : Bool) (range : JobRange)
    → entry_of n (end_by live publish range)
    ≡ (if live then (if publish then published-as n range else fails_as_lost n) else fails_as_gone n)
end-entry n true true range = refl
end-entry n true false range = refl
end-entry n false publish range = refl

-- the parts of a note, and what is found of it
module _ (state : State) (whole : List ℕ) (n : ℕ) (j : Job) (note : JobNote) (merged : JobPieces) (same : note ≡ brief_job j)
    (pieces : pieces_in merged ≡ pieces_for state j) where
  range-as : (mark : ℕ) → mark ≡ length state.transactions + 1
      → published-as n (record { low = merged.low.0; high = merged.high.0; mark = mark }) ≡ publishing state n j
  range-as mark marked =
      ap (λ (p : Pieces). entry.Published (record { 0 = n }) (record { 0 = p.low }) (record { 0 = p.high }) (record { 0 = mark })) pieces
      ∙ ap (λ m. entry.Published (record { 0 = n }) (record { 0 = (pieces_for state j).low }) (record { 0 = (pieces_for state j).high }) (record { 0 = m })) marked

  publish-as : (listed empty publish : Bool) → publish ≡ (listed && not empty) → listed ≡ is_among whole n
      → empty ≡ is_empty_of note.kind (pieces_in merged) → publish ≡ is_to_publish whole state n j
  publish-as listed empty publish is there none =
      is
      ∙ ap (λ b. b && not empty) there
      ∙ ap (λ b. is_among whole n && not b)
      (none ∙ ap (λ (m : JobNote). is_empty_of m.kind (pieces_in merged)) same ∙ ap (is_empty_of j.kind) pieces)

  pub noted-end : (live listed empty publish : Bool) (mark : ℕ) (it : JobEnd)
      → it ≡ end_by live publish (record { low = merged.low.0; high = merged.high.0; mark = mark })
      → live ≡ is_live_one (numbered state.tables note.table) → listed ≡ is_among whole n → empty ≡ is_empty_of note.kind (pieces_in merged)
      → publish ≡ (listed && not empty) → mark ≡ length state.transactions + 1 → entry_of n it ≡ job_end whole state n j
  noted-end live listed empty publish mark it is lives there none publishes marked =
      let range : JobRange = record { low = merged.low.0; high = merged.high.0; mark = mark } in
      ap (entry_of n) is
      ∙ end-entry n live publish range
      ∙ ap (λ b. if b then (if publish then published-as n range else fails_as_lost n) else fails_as_gone n)
      (lives ∙ ap (λ (m : JobNote). is_live_one (numbered state.tables m.table)) same)
      ∙ ap (λ b. if is_live_job state j then (if b then published-as n range else fails_as_lost n) else fails_as_gone n)
      (publish-as listed empty publish publishes there none)
      ∙ ap (λ e. if is_live_job state j then (if is_to_publish whole state n j then e else fails_as_lost n) else fails_as_gone n) (range-as mark marked)

-- ---- by its number

module _ (whole : List ℕ) (state : State) (n : ℕ) where
  entries-by : (j : Job) (b : Bool) → is_working j ≡ b → numbered state.jobs n ≡ Some j
      → end_entries whole state n (numbered state.jobs n) ≡ (if b then job_end whole state n j ∷ [] else [])
  entries-by j b e at =
      ap (end_entries whole state n) at ∙ ap (λ k. if k then job_end whole state n j ∷ [] else []) e

  pub end-some : (note : JobNote) (it : JobEnd) → Some note ≡ numbered (map brief_job state.jobs) n → works_at (numbered state.jobs n) ≡ true
      → ((j : Job) → numbered state.jobs n ≡ Some j → note ≡ brief_job j → entry_of n it ≡ job_end whole state n j)
      → entries_of_end n (Some it) ≡ end_entries whole state n (numbered state.jobs n)
  end-some note it is works ends = by (numbered state.jobs n) refl works
    where
      by : (found : Option Job) → numbered state.jobs n ≡ found → works_at found ≡ true
          → entries_of_end n (Some it) ≡ end_entries whole state n (numbered state.jobs n)
      by None at e = absurd (true≢false (sym e))
      by (Some j) at e =
          ap (λ x. x ∷ []) (ends j at (job-some note state.jobs n j is at)) ∙ sym (entries-by j true e at)

  pub end-none : works_at (numbered state.jobs n) ≡ false → entries_of_end n None ≡ end_entries whole state n (numbered state.jobs n)
  end-none idle = by (numbered state.jobs n) refl idle
    where
      by : (found : Option Job) → numbered state.jobs n ≡ found → works_at found ≡ false
          → entries_of_end n None ≡ end_entries whole state n (numbered state.jobs n)
      by None at e = sym (ap (end_entries whole state n) at)
      by (Some j) at e = sym (entries-by j false e at)

-- ---- read back

abbrev is_published : Entry → Bool
is_published (entry.Published job low high mark) = true
is_published _ = false

published-end : (n : ℕ) (it : JobEnd) → is_published (entry_of n it) ≡ is_publication it
published-end n (end.Published range) = refl
published-end n (end.Failed true) = refl
published-end n (end.Failed false) = refl

-- The job of that number is at work and ends so.
pub record EndsAs (whole : List ℕ) (state : State) (n : ℕ) (it : JobEnd) : Type 0 where
  pub job : Job
  pub is : numbered state.jobs n ≡ Some job
  pub working : is_working job ≡ true
  pub entry_is : entry_of n it ≡ job_end whole state n job
  pub publishes : is_publication it ≡ (is_live_job state job && is_to_publish whole state n job)

module _ (whole : List ℕ) (state : State) (n : ℕ) where
  published-by : (j : Job) (live publish : Bool)
      → is_published (if live then (if publish then publishing state n j else fails_as_lost n) else fails_as_gone n) ≡ (live && publish)
  published-by j true true = refl
  published-by j true false = refl
  published-by j false publish = refl

  pub ends-as : (it : JobEnd) → entries_of_end n (Some it) ≡ end_entries whole state n (numbered state.jobs n) → EndsAs whole state n it
  ends-as it is = by (numbered state.jobs n) refl is
    where
      working-by : (j : Job) (b : Bool) → numbered state.jobs n ≡ Some j → is_working j ≡ b
          → entry_of n it ∷ [] ≡ (if b then job_end whole state n j ∷ [] else []) → EndsAs whole state n it
      working-by j false at e one = let never : entry_of n it ∷ [] ≡ [] = one in cc
      working-by j true at e one =
          let there : entry_of n it ∷ [] ≡ job_end whole state n j ∷ [] = one in
          let same : entry_of n it ≡ job_end whole state n j = cc in
          record {
            job = j;
            is = at;
            working = e;
            entry_is = same;
            publishes =
                sym (published-end n it) ∙ ap is_published same ∙ published-by j (is_live_job state j) (is_to_publish whole state n j);
          }

      by : (found : Option Job) → numbered state.jobs n ≡ found → entries_of_end n (Some it) ≡ end_entries whole state n found
          → EndsAs whole state n it
      by None at one = let never : entry_of n it ∷ [] ≡ [] = one in cc
      by (Some j) at one =
          working-by j (is_working j) at refl one

  -- one that doesn't end makes no entry
  pub ends-none : entries_of_end n None ≡ end_entries whole state n (numbered state.jobs n) → works_at (numbered state.jobs n) ≡ false
  ends-none is = by (numbered state.jobs n) is
    where
      working-by : (j : Job) (b : Bool) → is_working j ≡ b → [] ≡ (if b then job_end whole state n j ∷ [] else []) → is_working j ≡ false
      working-by j false e none = e
      working-by j true e none = let never : [] ≡ job_end whole state n j ∷ [] = none in cc

      by : (found : Option Job) → entries_of_end n None ≡ end_entries whole state n found → works_at found ≡ false
      by None none = refl
      by (Some j) none = working-by j (is_working j) refl none
