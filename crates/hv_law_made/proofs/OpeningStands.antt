-- An opening that finds all directories of a job tells the book, and goes on so for the other jobs: these are in other partitions, so that
-- nothing of them changes.
use Rattle.std.proofs.Common.{refl, ◌≡◌, ◌⊎◌, inl, inr, ℕ, ◌+◌, ◌<◌, ◌==◌, Bool, true, false, cond, is_some, Option, Some, None, List, length, sym, ap, ◌∙◌, subst, eqb-true, true≢false}
use Rattle.std.specs.Prelude.{◌&&◌, ◌||◌, not, is_none}
use Rattle.std.specs.FinMap as finmap
use Rattle.std.proofs.lemmas.Bool.{and_parts, false_from_ne_true}
use Rattle.hv_shelf.specs.declared.place.Place.{Place}
use Rattle.hv_shelf.specs.Disk.{Tree}
use Rattle.hv_shelf.specs.Laws.{alike}
use Rattle.hv_shelf.specs.Places.{is_in}
use Rattle.hv_dirs.specs.declared.names.DirName.{DirName}
use Rattle.hv_dirs.specs.Names.{text_of, write_end}
use Rattle.hv_stands.specs.hv_history.specs.declared.entry.Entry.{Entry}
use Rattle.hv_stands.specs.hv_history.specs.State.{State, Job, Openings, numbered, openings_behind, first_of, published_at, acted, after}
use Rattle.hv_stands.specs.hv_history.specs.Legal.{profile, is_working}
use Rattle.hv_stands.specs.hv_history.specs.Jobs.{Pieces, is_job_of, pieces_for}
use Rattle.hv_stands.proofs.Numbers.{none_is, same_one, either}
use Rattle.hv_jobs.specs.Covers.{range_names}
use Rattle.hv_law_made.specs.Made.{made_recs}
use Rattle.hv_law_made.specs.Standing.{Standing}
use Rattle.hv_law_made.specs.Laws.{Holds, IsFinalOf, AsksAt, IsFiledFor, AreButFor}
use Rattle.hv_law_made.specs.Entries.{IsSoundBook, publishing, dir_of, IsAtWork, IsFinalAt, HasBareFinal, Recovers, RecoveredGoOn}
use Rattle.hv_law_made.proofs.EntryStands.{standing-goes-on}
use Rattle.hv_law_made.proofs.RenameStands.{within_finals, asked-within, free-here, fitting}
use Rattle.hv_law_made.proofs.OtherJobs.{in-dir, stepped, other-than, number-same, was-work, still-final, still-either}
use Rattle.hv_law_visible.proofs.MemberLemmas.{any-in}

none-first : (o : Option (ℕ × ℕ × ℕ)) (range : ℕ × ℕ × ℕ) → is_none (first_of o range) ≡ true → ⊥
none-first None range e = true≢false (sym e)
none-first (Some r) range e = true≢false (sym e)

-- a job that is published is at work no more
pub published-over : (places : ℕ) (range : ℕ × ℕ × ℕ) (job : Job) → is_working (published_at places range job) ≡ false
published-over places range job =
    false_from_ne_true (is_working (published_at places range job))
    (λ e.
    let rest = and_parts (is_some job.watermark) (is_none (first_of job.published range) && (not job.is_empty && is_none job.failure)) e in
    none-first job.published range (and_parts (is_none (first_of job.published range)) (not job.is_empty && is_none job.failure) rest.1).0)

-- ---- the job is told

module _ (state : State) (number : ℕ) (job : Job) (files : Tree) (work : IsAtWork state number job) (filed : IsFiledFor (publishing state number job) state files)
    (recovers : Recovers state files) (few : state.entries + 1 < write_end) (sound : IsSoundBook state) where
  abbrev event : Entry
  event = publishing state number job

  abbrev next : State
  next = after state event

  abbrev pieces : Pieces
  pieces = pieces_for state job

  abbrev step : Job → Job
  step = published_at state.entries (pieces.low, pieces.high, length state.transactions + 1)

  abbrev behind : Openings
  behind = openings_behind state.entries event state.openings

  abbrev its : List DirName
  its = range_names job.kind pieces.low pieces.high

  abbrev within : Place → Bool
  within place = within_finals state number job work few sound place

  abbrev keeps : Place → Bool
  keeps place = within place || is_some (finmap.get recovers.before place)

  -- what stood without any final directory, and this job's
  abbrev middle : Tree
  middle = finmap.retain_keys files keeps

  middle-is : (place : Place) → finmap.get middle place ≡ cond (keeps place) (finmap.get files place) None
  middle-is place = finmap.get-retain_keys files keeps place (alike keeps place)

  -- no final directory of a job at work stands without them
  free-at : (place : Place) → IsFinalAt state place → finmap.get recovers.before place ≡ None
  free-at place final =
      let there = in-dir state final.number final.job final.work.is (pieces_for state final.job).low (pieces_for state final.job).high place final.final in
      free-here state final.number final.job final.work few sound recovers.before recovers.standing there.0 there.1 place there.2

  middle-within : (place : Place) → within place ≡ true → finmap.get middle place ≡ finmap.get files place
  middle-within place e = middle-is place ∙ ap (λ b. cond (b || is_some (finmap.get recovers.before place)) (finmap.get files place) None) e

  middle-outside : (place : Place) → within place ≡ false → finmap.get middle place ≡ finmap.get recovers.before place
  middle-outside place e =
      middle-is place ∙ ap (λ b. cond (b || is_some (finmap.get recovers.before place)) (finmap.get files place) None) e
      ∙ by (finmap.get recovers.before place) refl
    where
      as_before : (bytes : List ℕ) → finmap.get recovers.before place ≡ Some bytes → (finmap.get files place ≡ finmap.get recovers.before place) ⊎ IsFinalAt state place
          → finmap.get files place ≡ Some bytes
      as_before bytes is (inl same) = same ∙ is
      as_before bytes is (inr final) = absurd (none_is (finmap.get recovers.before place) bytes (free-at place final) is)

      by : (o : Option (List ℕ)) → finmap.get recovers.before place ≡ o → cond (is_some o) (finmap.get files place) None ≡ o
      by None is = refl
      by (Some bytes) is = as_before bytes is (recovers.but place)

  but-middle : AreButFor (AsksAt event state) recovers.before middle
  but-middle place = elim (either (within place)) [
    | inl e ↦ inr (asked-within state number job work few sound place e)
    | inr e ↦ inl (middle-outside place e)
  ]

  asks-within : (place : Place) → IsFinalOf state number pieces.low pieces.high place → within place ≡ true
  asks-within place asks =
      let there = in-dir state number job work.is pieces.low pieces.high place asks in
      any-in (λ (name : DirName). is_in (dir_of job (text_of name)) place) there.0 its there.1 there.2

  filed-middle : IsFiledFor event state middle
  filed-middle = record {
    at = λ place asks. subst (Holds (made_recs next place) place.bucket) (sym (middle-within place (asks-within place asks))) (filed.at place asks);
    encoded = tt;
  }

  middle-stands : Standing next middle
  middle-stands = standing-goes-on profile state event recovers.before middle (fitting state number job work few sound) few sound but-middle filed-middle recovers.standing

  -- ---- the others

  over : is_working (step job) ≡ false
  over = published-over state.entries (pieces.low, pieces.high, length state.transactions + 1) job

  stays : (table : ℕ) (partition : List ℕ) → is_job_of table partition (step job) ≡ is_job_of table partition job
  stays table partition = refl

  abbrev told : State
  told = stepped state number job work.is work.working sound step behind over stays

  next-is : next ≡ told
  unfolding acted
  next-is = refl

  told-each : (n : ℕ) (j : Job) (w : IsAtWork told n j) → IsFiledFor (publishing told n j) told files ⊎ HasBareFinal told j w.table.writes files
  told-each n j w =
      let other = other-than state number job work.is work.working sound step behind over stays n j w.is w.working in
      let was : numbered state.jobs n ≡ Some j =
      sym (number-same state number job work.is work.working sound step behind over stays n other) ∙ w.is in
      still-either state number job work.is work.working sound step behind over stays n j was w.working other files w
      (recovers.each n j (was-work state number job work.is work.working sound step behind over stays n j was w.working other w))

  -- a place of another job's final directory
  but-told : (place : Place) → (finmap.get files place ≡ finmap.get middle place) ⊎ IsFinalAt told place
  but-told place = by (either (within place))
    where
      outside : within place ≡ false → (finmap.get files place ≡ finmap.get recovers.before place) ⊎ IsFinalAt state place
          → (finmap.get files place ≡ finmap.get middle place) ⊎ IsFinalAt told place
      outside e (inl same) = inl (same ∙ sym (middle-outside place e))
      outside e (inr final) =
          let other : (number == final.number) ≡ false =
          false_from_ne_true (number == final.number)
          (λ same_number.
          let same : number ≡ final.number = eqb-true number final.number same_number in
          let one : final.job ≡ job = same_one (numbered state.jobs number) final.job job (ap (numbered state.jobs) same ∙ final.work.is) work.is in
          let asks : IsFinalOf state number pieces.low pieces.high place =
          subst (λ (x : Job). IsFinalOf state number (pieces_for state x).low (pieces_for state x).high place) one
          (subst (λ k. IsFinalOf state k (pieces_for state final.job).low (pieces_for state final.job).high place) (sym same) final.final) in
          true≢false (sym (asks-within place asks) ∙ e)) in
          inr (still-final state number job work.is work.working sound step behind over stays
          final.number final.job final.work.is final.work.working other final.work place final.final)

      by : (within place ≡ true) ⊎ (within place ≡ false) → (finmap.get files place ≡ finmap.get middle place) ⊎ IsFinalAt told place
      by (inl e) = inl (sym (middle-within place e))
      by (inr e) = outside e (recovers.but place)

  pub next-recovers : Recovers next files
  next-recovers =
      subst (λ (s : State). Recovers s files) (sym next-is)
      (record { before = middle; standing = subst (λ (s : State). Standing s middle) next-is middle-stands; but = but-told; each = told-each })

pub recovered-go-on : RecoveredGoOn
recovered-go-on state number job files work filed recovers few sound = next-recovers state number job files work filed recovers few sound
