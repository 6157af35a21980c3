-- What a job at work wants stays: what commits say up to its watermark, what others of its partition have published, and what was written in its
-- range.
use Rattle.std.proofs.Common.{◌≡◌, ◌⊎◌, inl, inr, ℕ, zero, suc, ◌+◌, ◌<◌, ◌≤◌, ◌==◌, Bool, true, false, true≢false, cond, is_some, IsSome, Option, Some, None, List, [], ◌∷◌, ◌++◌, filter, length, map, refl, sym, ap, ◌∙◌, subst, arith, append-nil, eqb-true, eq-eqb, leb-true, ltb-true, ltb-false}
use Rattle.std.specs.Cmp.Lexicographic.{pointwise}
use Rattle.std.specs.Prelude.{if◌then◌else◌, ◌&&◌, not, nat_eq, is_none, nat_le, nat_lt, option_map}
use Rattle.std.specs.List.{list_any, slice_get, flat_map}
use Rattle.std.proofs.lemmas.Bool.{and_parts, and_from, or_right, false_from_ne_true}
use Rattle.std.proofs.lemmas.List.Elements.{Contains-append_left}
use Rattle.hv_base.specs.Sorting.{sorted_by}
use Rattle.hv_base.specs.declared.ids.Limits.{Limits}
use Rattle.hv_base.specs.declared.ids.TxnId.{TxnId}
use Rattle.hv_shelf.specs.declared.place.Place.{Place}
use Rattle.hv_logic.specs.declared.catalog.Shape.{Shape}
use Rattle.hv_route.specs.Standing.{insert_record, stands_in}
use Rattle.hv_dirs.specs.declared.names.DirName.{DirName}
use Rattle.hv_dirs.specs.declared.names.DirName.TheVariants as dir
use Rattle.hv_dirs.specs.Choice.{Own, Wide}
use Rattle.hv_dirs.specs.Names.{write_end}
use Rattle.hv_history.specs.declared.entry.Entry.{Entry}
use Rattle.hv_history.specs.declared.entry.Entry.TheVariants as entry
use Rattle.hv_history.specs.declared.entry.JobKind.{JobKind}
use Rattle.hv_history.specs.declared.entry.JobKind.TheVariants as kind
use Rattle.hv_history.specs.declared.state.Table.{Table}
use Rattle.hv_history.specs.declared.state.Transaction.{Transaction}
use Rattle.hv_history.specs.declared.state.Written.{Written}
use Rattle.hv_history.specs.State.{State, Job, numbered, changed, content_of, owned, dropped, forgot, asked_job, picked, published_at, empty_at, failed_at, cleaned, openings_behind, acted, after}
use Rattle.hv_history.specs.Legal.{is_working, Fits}
use Rattle.hv_history.specs.Jobs.{Events, is_initiated, is_ready, is_busy, is_job_of, jobs_of, jobs_in, has_busy, ids_of, events_in, is_open_one, ended_front, watermark, is_up_to as up_to, mark_by, pieces_among, pieces_for, is_empty_of}
use Rattle.hv_history.specs.JobsFit.{first_initiated, is_live_job, PickedFits, PublishedFits, EmptyFits, FailedFits, CleanedFits}
use Rattle.hv_history.proofs.LastingLaws.{goes-on}
use Rattle.hv_stands.specs.Files.{records_of, ending_of}
use Rattle.hv_stands.proofs.Numbers.{found, same_one, either, numbered-map, numbered-changed, changed-here, numbered-more, numbered-or-last}
use Rattle.hv_jobs.specs.Covers.{range_names}
use Rattle.hv_law_jobs.specs.Sound.{IsSoundRange, IsSoundJob}
use Rattle.hv_law_jobs.proofs.OrderLemmas.{numbered-all}
use Rattle.hv_law_jobs.proofs.PublishLemmas.{range-is-sound}
use Rattle.hv_law_visible.specs.Members.{IsIn}
use Rattle.hv_law_visible.proofs.MemberLemmas.{in-filter, from-filter, any-in}
use Rattle.hv_law_marks.specs.hv_law_filed.specs.hv_law_made.specs.Made.{has_written, rec_cmp, delta_recs, is_up_to, base_recs, in_partition, if_bare, some_or, name_file, has_events, is_made}
use Rattle.hv_law_marks.specs.hv_law_filed.specs.hv_law_made.specs.Laws.{IsUnended}
use Rattle.hv_law_marks.specs.hv_law_filed.specs.hv_law_made.specs.Standing.{is_live_table}
use Rattle.hv_law_marks.specs.hv_law_filed.specs.hv_law_made.specs.Entries.{IsSoundBook, finals, IsAtWork}
use Rattle.hv_law_marks.specs.hv_law_filed.specs.hv_law_made.proofs.CalmLemmas.{IsCalm}
use Rattle.hv_law_marks.specs.hv_law_filed.specs.hv_law_made.proofs.EntryChanges.{entries-change}
use Rattle.hv_law_marks.specs.hv_law_filed.specs.hv_law_made.proofs.EntryStands.{is-committing}
use Rattle.hv_law_marks.specs.hv_law_filed.specs.hv_law_made.proofs.GoingStands.{failed-over}
use Rattle.hv_law_marks.specs.hv_law_filed.specs.hv_law_made.proofs.NamedLemmas.{same-text, text-same}
use Rattle.hv_law_marks.specs.hv_law_filed.specs.hv_law_made.proofs.OpeningStands.{published-over}
use Rattle.hv_law_marks.specs.hv_law_filed.specs.hv_law_made.proofs.OtherJobs.{pieces-same}
use Rattle.hv_law_marks.specs.hv_law_filed.specs.hv_law_made.proofs.RenameStands.{its-fits}
use Rattle.hv_law_marks.specs.hv_law_filed.specs.hv_law_made.proofs.StepLemmas.{numbered-in}
use Rattle.hv_law_marks.specs.hv_law_filed.specs.hv_law_made.proofs.TableStands.{calm-changed}
use Rattle.hv_trail.specs.Trail.{HasWritten}
use Rattle.hv_law_work.specs.Work.{by_job, staged_at, wanted, IsJobFile}
use Rattle.hv_law_work.specs.Laws.{StillWants, IsJustPicked, WantsStay, JobFileLasts, StagedLasts}
use Rattle.hv_law_work.proofs.Events.{events-stay}
use Rattle.hv_law_work.proofs.Views.{pieces-alike, changed-alike, filter-last}

-- ---- which job is picked

first-least : (state : State) (k : ℕ) (jobs : List Job) (n : ℕ) → first_initiated state k jobs ≡ Some n → k ≤ n
first-least state k [] n is = cc
first-least state k (job ∷ jobs) n is = by (first-least state (k + 1) jobs n) (is_initiated job && is_live_job state job) is
  where
    by : (first_initiated state (k + 1) jobs ≡ Some n → k + 1 ≤ n) → (b : Bool) → (if b then Some k else first_initiated state (k + 1) jobs) ≡ Some n → k ≤ n
    by rest true e = let some : Some k ≡ Some n = e in let same : k ≡ n = cc in omega (arith, same)
    by rest false e = let more = rest e in omega (arith, more)

first-is : (state : State) (jobs : List Job) (k n i : ℕ) (job : Job) → first_initiated state k jobs ≡ Some n → n ≡ k + i → slice_get jobs i ≡ Some job → is_initiated job ≡ true
first-is state [] k n i job is at there = cc
first-is state (j ∷ jobs) k n zero job is at there = by (is_initiated j && is_live_job state j) refl is
  where
    by : (b : Bool) → (is_initiated j && is_live_job state j) ≡ b → (if b then Some k else first_initiated state (k + 1) jobs) ≡ Some n → is_initiated job ≡ true
    by true both e =
        let same : j ≡ job = cc in
        subst (λ (x : Job). is_initiated x ≡ true) same (and_parts (is_initiated j) (is_live_job state j) both).0
    by false both e = let more = first-least state (k + 1) jobs n e in absurd (omega (arith, more, at))
first-is state (j ∷ jobs) k n (suc i) job is at there =
    by (λ e. first-is state jobs (k + 1) n i job e (omega (arith, at)) there) (is_initiated j && is_live_job state j) is
  where
    by : (first_initiated state (k + 1) jobs ≡ Some n → is_initiated job ≡ true) → (b : Bool) → (if b then Some k else first_initiated state (k + 1) jobs) ≡ Some n → is_initiated job ≡ true
    by rest true e = let some : Some k ≡ Some n = e in let same : k ≡ n = cc in absurd (omega (arith, same, at))
    by rest false e = rest e

picked-is : (state : State) (n : ℕ) (job : Job) → first_initiated state 1 state.jobs ≡ Some n → numbered state.jobs n ≡ Some job → is_initiated job ≡ true
picked-is state zero job is at = cc
picked-is state (suc n) job is at = first-is state state.jobs 1 (suc n) n job is (omega arith) at

none-by : (o : Option ℕ) → is_none o ≡ true → o ≡ None
none-by None e = refl
none-by (Some n) e = cc

-- ---- one that is at work

marked : (job : Job) → is_working job ≡ true → is_some job.watermark ≡ true
marked job works = (and_parts (is_some job.watermark) (is_none job.published && (not job.is_empty && is_none job.failure)) works).0

unpublished : (job : Job) → is_working job ≡ true → is_none job.published ≡ true
unpublished job works =
    (and_parts (is_none job.published) (not job.is_empty && is_none job.failure)
    (and_parts (is_some job.watermark) (is_none job.published && (not job.is_empty && is_none job.failure)) works).1).0

uncleaned : (job : Job) → is_working (cleaned job) ≡ true → is_ready job ≡ true → ⊥
uncleaned job works ready =
    by job.published (unpublished (cleaned job) works) (and_parts (is_some job.published) (not job.is_cleaned) ready).0
  where
    by : (o : Option (ℕ × ℕ × ℕ)) → is_none o ≡ true → is_some o ≡ true → ⊥
    by None none some = true≢false (sym some)
    by (Some range) none some = true≢false (sym none)

unempty : (places : ℕ) (job : Job) → is_working (empty_at places job) ≡ true → ⊥
unempty places job works =
    let last = and_parts (is_none job.published) false
    (and_parts (is_some job.watermark) (is_none job.published && (not true && is_none job.failure)) works).1 in
    true≢false (sym last.1)

unasked : (places table : ℕ) (partition : List ℕ) (k : JobKind) (by_ : ℕ) → is_working (asked_job places table partition k by_) ≡ true → ⊥
unasked places table partition k by_ works = true≢false (sym works)

-- ---- it was there before

abbrev WasThere : State → ℕ → Job → Type 0
WasThere state number job = (numbered state.jobs number ≡ Some job) ⊎ IsJustPicked state number

-- a step of one job
stepped-was : (state : State) (f : Job → Job) (n : ℕ) (x : Job) (number : ℕ) (job : Job) → numbered state.jobs n ≡ Some x
    → (is_working (f x) ≡ true → IsJustPicked state n) → numbered (changed f state.jobs n) number ≡ Some job → is_working job ≡ true → WasThere state number job
stepped-was state f n x number job at picked_ here works =
    by (number == n) refl (sym (numbered-changed f state.jobs n number x at) ∙ here)
  where
    by : (b : Bool) → (number == n) ≡ b → cond b (Some (f x)) (numbered state.jobs number) ≡ Some job → WasThere state number job
    by false other e = inl e
    by true same e =
        let one : f x ≡ job = cc in
        inr (subst (IsJustPicked state) (sym (eqb-true number n same)) (picked_ (ap is_working one ∙ works)))

was-there : (limits : Limits) (state : State) (event : Entry) (number : ℕ) (job : Job) → Fits limits state event
    → numbered (after state event).jobs number ≡ Some job → is_working job ≡ true → WasThere state number job
unfolding acted
was-there limits state (entry.Boot run) number job fits here works = inl here
was-there limits state (entry.Opened txn session n text) number job fits here works = inl here
was-there limits state (entry.Start txn statement) number job fits here works = inl here
was-there limits state (entry.Given txn table write) number job fits here works = inl here
was-there limits state (entry.Commit txn wrote) number job fits here works = inl here
was-there limits state (entry.Abort txn cause) number job fits here works = inl here
was-there limits state (entry.Create txn table) number job fits here works = inl here
was-there limits state (entry.Drop txn table) number job fits here works = inl here
was-there limits state (entry.Asked new table partition k by_) number job fits here works =
    by (numbered-or-last state.jobs (asked_job state.entries table.0 partition k by_) number job here)
  where
    by : (numbered state.jobs number ≡ Some job) ⊎ ((number ≡ length state.jobs + 1) × (job ≡ asked_job state.entries table.0 partition k by_)) → WasThere state number job
    by (inl at) = inl at
    by (inr last) = absurd (unasked state.entries table.0 partition k by_ (ap is_working (sym last.1) ∙ works))
was-there limits state (entry.Picked which watermark) number job fits here works =
    let it = found (PickedFits limits state which.0 watermark.0) (numbered state.jobs which.0) fits in
    stepped-was state (picked watermark.0) which.0 it.0 number job it.1
    (λ again. record {
      job = it.0;
      is = it.1;
      none = none-by it.0.watermark
          (and_parts (is_none it.0.watermark) (is_none it.0.ended) (picked-is state which.0 it.0 it.2.lowest it.1)).0;
    })
    here works
was-there limits state (entry.Published which low high mark) number job fits here works =
    let it = found (PublishedFits state low.0 high.0 mark.0) (numbered state.jobs which.0) fits in
    stepped-was state (published_at state.entries (low.0, high.0, mark.0)) which.0 it.0 number job it.1
    (λ again. absurd (true≢false (sym again ∙ published-over state.entries (low.0, high.0, mark.0) it.0))) here works
was-there limits state (entry.Empty which) number job fits here works =
    let it = found (EmptyFits state) (numbered state.jobs which.0) fits in
    stepped-was state (empty_at state.entries) which.0 it.0 number job it.1 (λ again. absurd (unempty state.entries it.0 again)) here works
was-there limits state (entry.Cleaned which) number job fits here works =
    let it = found (CleanedFits limits state) (numbered state.jobs which.0) fits in
    stepped-was state cleaned which.0 it.0 number job it.1 (λ again. absurd (uncleaned it.0 again it.2.ready)) here works
was-there limits state (entry.Failed which why) number job fits here works =
    let it = found (FailedFits state why) (numbered state.jobs which.0) fits in
    stepped-was state (failed_at state.entries why) which.0 it.0 number job it.1
    (λ again. absurd (true≢false (sym again ∙ failed-over state.entries why it.0))) here works
was-there limits state (entry.Forgot table write) number job fits here works = inl here
was-there limits state (entry.Next txn statement n text) number job fits here works = absurd fits
was-there limits state (entry.Did txn statement wrote) number job fits here works = absurd fits
was-there limits state (entry.Alter txn table) number job fits here works = absurd fits

-- ---- what it would merge

mark-low : (o : Option ℕ) (most : ℕ) → ((mark : ℕ) → o ≡ Some mark → mark ≤ most) → mark_by o ≤ most
mark-low None most low = omega arith
mark-low (Some mark) most low = low mark refl

module _ (limits : Limits) (state : State) (number : ℕ) (job : Job) (was : numbered state.jobs number ≡ Some job) (works : is_working job ≡ true)
    (sound : IsSoundBook state) where
  abbrev p : Job → Bool
  p = is_job_of job.table job.partition

  its-sound : IsSoundJob state job
  its-sound = numbered-all (IsSoundJob state) state.jobs number job sound.jobs.each was

  -- what commits say up to its mark
  events-same : (event : Entry)
      → filter (up_to (mark_by job.watermark)) (events_in (after state event) job.table job.partition)
      ≡ filter (up_to (mark_by job.watermark)) (events_in state job.table job.partition)
  events-same event =
      events-stay state (after state event) (goes-on state event) sound.jobs.owned job.table job.partition (mark_by job.watermark)
      (mark-low job.watermark (watermark state job.table) its-sound.mark)

  by-jobs : (event : Entry) → ((ids : List Events) → pieces_among job.kind (jobs_of job.table job.partition (after state event).jobs) ids
      ≡ pieces_among job.kind (jobs_of job.table job.partition state.jobs) ids) → pieces_for (after state event) job ≡ pieces_for state job
  by-jobs event same =
      same (filter (up_to (mark_by job.watermark)) (events_in (after state event) job.table job.partition))
      ∙ ap (pieces_among job.kind (jobs_of job.table job.partition state.jobs)) (events-same event)

  -- a job that is asked for is of another partition
  asked-apart : (table : ℕ) (partition : List ℕ) (places : ℕ) (k : JobKind) (by_ : ℕ) → has_busy state table partition ≡ false
      → p (asked_job places table partition k by_) ≡ false
  asked-apart table partition places k by_ free =
      false_from_ne_true (p (asked_job places table partition k by_))
      (λ e.
      let both = and_parts (table == job.table) (pointwise nat_eq partition job.partition) e in
      let tables : table ≡ job.table = eqb-true table job.table both.0 in
      let partitions : partition ≡ job.partition = same-text partition job.partition both.1 in
      let mine : is_job_of table partition job ≡ true =
      and_from (job.table == table) (pointwise nat_eq job.partition partition)
      (eq-eqb job.table table (sym tables)) (text-same job.partition partition (sym partitions)) in
      true≢false
      (sym (any-in is_busy job (jobs_in state table partition) (in-filter (is_job_of table partition) job state.jobs (numbered-in state.jobs number job was) mine)
      (or_right (is_initiated job) (is_working job) works))
      ∙ free))

  pieces-stay : (event : Entry) → Fits limits state event → numbered (after state event).jobs number ≡ Some job → pieces_for (after state event) job ≡ pieces_for state job
  unfolding acted
  pieces-stay (entry.Boot run) fits here = by-jobs (entry.Boot run) (λ ids. refl)
  pieces-stay (entry.Opened txn session n text) fits here = by-jobs (entry.Opened txn session n text) (λ ids. refl)
  pieces-stay (entry.Start txn statement) fits here = by-jobs (entry.Start txn statement) (λ ids. refl)
  pieces-stay (entry.Given txn table write) fits here = by-jobs (entry.Given txn table write) (λ ids. refl)
  pieces-stay (entry.Commit txn wrote) fits here = by-jobs (entry.Commit txn wrote) (λ ids. refl)
  pieces-stay (entry.Abort txn cause) fits here = by-jobs (entry.Abort txn cause) (λ ids. refl)
  pieces-stay (entry.Create txn table) fits here = by-jobs (entry.Create txn table) (λ ids. refl)
  pieces-stay (entry.Drop txn table) fits here = by-jobs (entry.Drop txn table) (λ ids. refl)
  pieces-stay (entry.Asked new table partition k by_) fits here =
      by-jobs (entry.Asked new table partition k by_)
      (λ ids. ap (λ js. pieces_among job.kind js ids)
      (filter-last p state.jobs (asked_job state.entries table.0 partition k by_) (asked-apart table.0 partition state.entries k by_ fits.free)))
  pieces-stay (entry.Picked which watermark) fits here =
      by-jobs (entry.Picked which watermark)
      (λ ids. pieces-alike job.kind ids (filter p (changed (picked watermark.0) state.jobs which.0)) (filter p state.jobs)
      (changed-alike p (picked watermark.0) (λ j. refl) (λ j. refl) (λ j. refl) state.jobs which.0))
  pieces-stay (entry.Published which low high mark) fits here =
      let it = found (PublishedFits state low.0 high.0 mark.0) (numbered state.jobs which.0) fits in
      let step = published_at state.entries (low.0, high.0, mark.0) in
      let other : (which.0 == number) ≡ false =
      false_from_ne_true (which.0 == number)
      (λ e.
      let same : which.0 ≡ number = eqb-true which.0 number e in
      let there : numbered (changed step state.jobs which.0) which.0 ≡ Some (step it.0) =
      changed-here step state.jobs which.0 it.0 it.1 in
      let one : job ≡ step it.0 =
      same_one (numbered (changed step state.jobs which.0) number) job (step it.0) here (ap (numbered (changed step state.jobs which.0)) (sym same) ∙ there) in
      true≢false (sym works ∙ ap is_working one ∙ published-over state.entries (low.0, high.0, mark.0) it.0)) in
      pieces-same state which.0 it.0 it.1 it.2.working sound step (openings_behind state.entries (entry.Published which low high mark) state.openings)
      (published-over state.entries (low.0, high.0, mark.0) it.0) (λ table partition. refl) number job was works other
  pieces-stay (entry.Empty which) fits here =
      by-jobs (entry.Empty which)
      (λ ids. pieces-alike job.kind ids (filter p (changed (empty_at state.entries) state.jobs which.0)) (filter p state.jobs)
      (changed-alike p (empty_at state.entries) (λ j. refl) (λ j. refl) (λ j. refl) state.jobs which.0))
  pieces-stay (entry.Cleaned which) fits here =
      by-jobs (entry.Cleaned which)
      (λ ids. pieces-alike job.kind ids (filter p (changed cleaned state.jobs which.0)) (filter p state.jobs)
      (changed-alike p cleaned (λ j. refl) (λ j. refl) (λ j. refl) state.jobs which.0))
  pieces-stay (entry.Failed which why) fits here =
      by-jobs (entry.Failed which why)
      (λ ids. pieces-alike job.kind ids (filter p (changed (failed_at state.entries why) state.jobs which.0)) (filter p state.jobs)
      (changed-alike p (failed_at state.entries why) (λ j. refl) (λ j. refl) (λ j. refl) state.jobs which.0))
  pieces-stay (entry.Forgot table write) fits here = by-jobs (entry.Forgot table write) (λ ids. refl)
  pieces-stay (entry.Next txn statement n text) fits here = absurd fits
  pieces-stay (entry.Did txn statement wrote) fits here = absurd fits
  pieces-stay (entry.Alter txn table) fits here = absurd fits

-- ---- what was written

-- the table has these writes more, all above its watermark
pub record GainsAbove (state : State) (number : ℕ) (before table : Table) : Type 0 where
  pub info : table.info ≡ before.info
  pub more : List Written
  pub writes : table.writes ≡ before.writes ++ more
  pub above : (w : Written) → IsIn w more → watermark state number < w.write

gains-none : (state : State) (number : ℕ) (before table : Table) → table.info ≡ before.info → table.writes ≡ before.writes → GainsAbove state number before table
gains-none state number before table info writes = record {
  info = info;
  more = [];
  writes = writes ∙ sym (append-nil before.writes);
  above = λ w at. absurd at;
}

abbrev Gains : State → Entry → Type 0
Gains state event =
    (number : ℕ) (before : Table) → numbered state.tables number ≡ Some before
    → (table : Table) × (numbered (after state event).tables number ≡ Some table) × GainsAbove state number before table

same-gains : (state : State) (now : List Table) (number : ℕ) (before : Table) → now ≡ state.tables → numbered state.tables number ≡ Some before
    → (table : Table) × (numbered now number ≡ Some table) × GainsAbove state number before table
same-gains state now number before same at = (before, ap (λ ts. numbered ts number) same ∙ at, gains-none state number before before refl refl)

calm-gains : (state : State) (now : List Table) (number : ℕ) (before : Table) → IsCalm (numbered state.tables number) (numbered now number)
    → numbered state.tables number ≡ Some before → (table : Table) × (numbered now number ≡ Some table) × GainsAbove state number before table
calm-gains state now number before calm at = by (numbered now number) refl (subst (λ o. IsCalm o (numbered now number)) at calm)
  where
    by : (n : Option Table) → numbered now number ≡ n → IsCalm (Some before) (numbered now number)
        → (table : Table) × (numbered now number ≡ Some table) × GainsAbove state number before table
    by None e same = absurd (subst (IsCalm (Some before)) e same)
    by (Some table) e same =
        let is = subst (IsCalm (Some before)) e same in
        (table, e, gains-none state number before table is.0 is.1)

-- a write id of an open transaction is above the watermark
front-ended : (ts : List Transaction) (owners : List ℕ) (k txn : ℕ) → slice_get owners k ≡ Some txn → suc k ≤ ended_front ts owners → is_open_one (numbered ts txn) ≡ false
front-ended ts [] k txn at below = cc
front-ended ts (owner ∷ owners) zero txn at below =
    let one : owner ≡ txn = cc in
    subst (λ n. is_open_one (numbered ts n) ≡ false) one (by (is_open_one (numbered ts owner)) below)
  where
    by : (b : Bool) → 1 ≤ (if b then 0 else ended_front ts owners + 1) → b ≡ false
    by true below = absurd (omega (arith, below))
    by false below = refl
front-ended ts (owner ∷ owners) (suc k) txn at below = front-ended ts owners k txn at (by (is_open_one (numbered ts owner)) below)
  where
    by : (b : Bool) → suc (suc k) ≤ (if b then 0 else ended_front ts owners + 1) → suc k ≤ ended_front ts owners
    by true below = absurd (omega (arith, below))
    by false below = omega (arith, below)

open-by-ending : (o : Option Transaction) → option_map ending_of o ≡ Some None → is_open_one o ≡ true
open-by-ending None e = cc
open-by-ending (Some t) e = let none : t.ending ≡ None = cc in ap is_none none

above-front : (state : State) (txn : TxnId) → IsUnended state txn → (owners : List ℕ) (write : ℕ) → numbered owners write ≡ Some txn.0
    → ended_front state.transactions owners < write
above-front state txn unended owners zero at = cc
above-front state txn unended owners (suc k) at = by (either (nat_lt (ended_front state.transactions owners) (suc k)))
  where
    by : (nat_lt (ended_front state.transactions owners) (suc k) ≡ true) ⊎ (nat_lt (ended_front state.transactions owners) (suc k) ≡ false)
        → ended_front state.transactions owners < suc k
    by (inl e) = ltb-true (ended_front state.transactions owners) (suc k) e
    by (inr e) =
        let most = ltb-false (ended_front state.transactions owners) (suc k) e in
        let within : suc k ≤ ended_front state.transactions owners = omega (arith, most) in
        absurd (true≢false
        (sym (open-by-ending (numbered state.transactions txn.0) (sym (numbered-map ending_of state.transactions txn.0) ∙ unended))
        ∙ front-ended state.transactions owners k txn.0 at within))

gains : (limits : Limits) (state : State) (event : Entry) → Fits limits state event → IsSoundBook state → Gains state event
unfolding acted
gains limits state (entry.Boot run) fits sound number before at = same-gains state state.tables number before refl at
gains limits state (entry.Opened txn session n text) fits sound number before at = same-gains state state.tables number before refl at
gains limits state (entry.Start txn statement) fits sound number before at = same-gains state state.tables number before refl at
gains limits state (entry.Given txn table write) fits sound number before at =
    calm-gains state (changed (owned txn.0) state.tables table.0) number before (calm-changed (owned txn.0) (λ t. refl) (λ t. refl) state.tables table.0 number) at
gains limits state (entry.Commit txn wrote) fits sound number before at =
    let commits = is-committing state txn wrote sound fits in
    let there = commits.tables number before at in
    let gets = there.2 in (
      there.0,
      there.1,
      record {
        info = gets.info;
        more = gets.more;
        writes = gets.writes;
        above = λ w among.
            subst (λ o. ended_front state.transactions (ids_of o) < w.write) (sym at)
            (above-front state txn commits.unended before.owners w.write (gets.each w among).owner);
      },
    )
gains limits state (entry.Abort txn cause) fits sound number before at = same-gains state state.tables number before refl at
gains limits state (entry.Create txn table) fits sound number before at =
    (before, numbered-more state.tables _ number before at, gains-none state number before before refl refl)
gains limits state (entry.Drop txn table) fits sound number before at =
    calm-gains state (changed dropped state.tables table.0) number before (calm-changed dropped (λ t. refl) (λ t. refl) state.tables table.0 number) at
gains limits state (entry.Asked new table partition k by_) fits sound number before at = same-gains state state.tables number before refl at
gains limits state (entry.Picked which watermark) fits sound number before at = same-gains state state.tables number before refl at
gains limits state (entry.Published which low high mark) fits sound number before at = same-gains state state.tables number before refl at
gains limits state (entry.Empty which) fits sound number before at = same-gains state state.tables number before refl at
gains limits state (entry.Cleaned which) fits sound number before at = same-gains state state.tables number before refl at
gains limits state (entry.Failed which why) fits sound number before at = same-gains state state.tables number before refl at
gains limits state (entry.Forgot table write) fits sound number before at =
    calm-gains state (changed (forgot write.0) state.tables table.0) number before (calm-changed (forgot write.0) (λ t. refl) (λ t. refl) state.tables table.0 number) at
gains limits state (entry.Next txn statement n text) fits sound number before at = absurd fits
gains limits state (entry.Did txn statement wrote) fits sound number before at = absurd fits
gains limits state (entry.Alter txn table) fits sound number before at = absurd fits

-- ---- a directory of a range has nothing of a later write

abbrev hits : DirName → Written → Bool
hits (dir.Base high) written = is_up_to high.0 written
hits (dir.Own deletes write statement) written = has_written (Own write.0 statement) written
hits (dir.Wide deletes low high) written = has_written (Wide low.0 high.0) written
hits (dir.Staged job name) written = false

filter-more : {A : Type 0} (q : A → Bool) (xs ys : List A) → ((y : A) → IsIn y ys → q y ≡ false) → filter q (xs ++ ys) ≡ filter q xs
filter-more q [] [] fail = refl
filter-more q [] (y ∷ ys) fail = ap (λ b. cond b (y ∷ filter q ys) (filter q ys)) (fail y (inl refl)) ∙ filter-more q [] ys (λ z at. fail z (inr at))
filter-more q (x ∷ xs) ys fail = ap (λ zs. cond (q x) (x ∷ zs) zs) (filter-more q xs ys fail)

file-grown : (shape : Shape) (partition : List ℕ) (xs ys : List Written) (name : DirName) (bucket : ℕ) → filter (hits name) ys ≡ filter (hits name) xs
    → name_file shape ys partition name bucket ≡ name_file shape xs partition name bucket
unfolding name_file delta_recs base_recs
file-grown shape partition xs ys (dir.Base high) bucket e =
    λ i. some_or false (map (insert_record shape) (filter (stands_in partition bucket) (content_of (e i))))
    (if_bare (list_any (in_partition partition) (content_of (e i))) bucket)
file-grown shape partition xs ys (dir.Own deletes write statement) bucket e =
    λ i. some_or deletes (sorted_by rec_cmp (flat_map (records_of shape deletes partition bucket) (e i))) None
file-grown shape partition xs ys (dir.Wide deletes low high) bucket e =
    λ i. some_or deletes (sorted_by rec_cmp (flat_map (records_of shape deletes partition bucket) (e i))) None
file-grown shape partition xs ys (dir.Staged job name) bucket e = refl

made-grown : (partition : List ℕ) (xs ys : List Written) (name : DirName) → filter (hits name) ys ≡ filter (hits name) xs
    → is_made ys partition name ≡ is_made xs partition name
made-grown partition xs ys (dir.Base high) e = refl
made-grown partition xs ys (dir.Own deletes write statement) e = ap (list_any (has_events deletes partition)) e
made-grown partition xs ys (dir.Wide deletes low high) e = ap (list_any (has_events deletes partition)) e
made-grown partition xs ys (dir.Staged job name) e = refl

over : (write high : ℕ) → high < write → nat_le write high ≡ false
over write high lt = false_from_ne_true (nat_le write high) (λ e. let le = leb-true write high e in omega (arith, le, lt))

and-false : (b c : Bool) → c ≡ false → b && c ≡ false
and-false true c e = e
and-false false c e = refl

range-misses : (k : JobKind) (low high : ℕ) (name : DirName) (w : Written) → IsIn name (range_names k low high) → high < w.write → hits name w ≡ false
range-misses kind.Minor low high name w (inl e) below = subst (λ n. hits n w ≡ false) e (and-false (nat_le low w.write) (nat_le w.write high) (over w.write high below))
range-misses kind.Minor low high name w (inr (inl e)) below = subst (λ n. hits n w ≡ false) e (and-false (nat_le low w.write) (nat_le w.write high) (over w.write high below))
range-misses kind.Minor low high name w (inr (inr at)) below = absurd at
range-misses kind.Major low high name w (inl e) below = subst (λ n. hits n w ≡ false) e (over w.write high below)
range-misses kind.Major low high name w (inr at) below = absurd at

-- two tests that agree on these
filter-agree : {A : Type 0} (q r : A → Bool) (xs : List A) → ((x : A) → IsIn x xs → q x ≡ r x) → filter q xs ≡ filter r xs
filter-agree q r [] agree = refl
filter-agree q r (x ∷ xs) agree = λ i. cond (agree x (inl refl) i) (x ∷ filter-agree q r xs (λ y at. agree y (inr at)) i) (filter-agree q r xs (λ y at. agree y (inr at)) i)

-- ---- the law

module _ (limits : Limits) (state : State) (event : Entry) (number : ℕ) (job : Job) (work : IsAtWork (after state event) number job)
    (fits : Fits limits state event) (few : state.entries + 1 < write_end) (sound : IsSoundBook state) (was : numbered state.jobs number ≡ Some job) where
  abbrev now : State
  now = after state event

  pieces : pieces_for now job ≡ pieces_for state job
  pieces = pieces-stay limits state number job was work.working sound event fits work.is

  its : IsSoundJob state job
  its = its-sound limits state number job was work.working sound

  before : (table : Table) × (numbered state.tables job.table ≡ Some table)
  before = by (numbered state.tables job.table) its.table
    where
      by : (o : Option Table) → IsSome o → (table : Table) × (o ≡ Some table)
      by None some = absurd (true≢false (sym some))
      by (Some table) some = (table, refl)

  grown : (table : Table) × (numbered now.tables job.table ≡ Some table) × GainsAbove state job.table before.0 table
  grown = gains limits state event fits sound job.table before.0 before.1

  table-same : work.table ≡ grown.0
  table-same = same_one (numbered now.tables job.table) work.table grown.0 work.table_is grown.1

  gained : GainsAbove state job.table before.0 work.table
  gained = subst (GainsAbove state job.table before.0) (sym table-same) grown.2

  abbrev nowhere : Place
  nowhere = record { table = record { 0 = job.table }; partition = []; dir = []; bucket = 0 }

  live-before : before.0.is_live ≡ true
  live-before =
      sym (ap is_live_table before.1)
      ∙ (entries-change limits state event fits few sound).live nowhere (ap is_live_table work.table_is ∙ work.live)

  abbrev was-work : IsAtWork state number job
  was-work = record {
    is = was;
    working = work.working;
    table = before.0;
    table_is = before.1;
    live = live-before;
    some = subst (λ ps. is_empty_of job.kind ps ≡ false) pieces work.some;
  }

  abbrev low : ℕ
  low = (pieces_for state job).low

  abbrev high : ℕ
  high = (pieces_for state job).high

  its-range : IsSoundRange state job.table job.partition low high (length state.transactions + 1)
  its-range =
      range-is-sound state number low high (length state.transactions + 1) job sound.jobs was (its-fits state number job was-work few sound)

  -- what its range has is the same
  same-writes : (name : DirName) → IsIn name (range_names job.kind low high) → filter (hits name) work.table.writes ≡ filter (hits name) before.0.writes
  same-writes name at =
      ap (filter (hits name)) gained.writes
      ∙ filter-more (hits name) before.0.writes gained.more
      (λ w among. range-misses job.kind low high name w at (let above = gained.above w among in let ended = its-range.ended in omega (arith, above, ended)))

  finals-same : finals now job work.table.writes ≡ finals state job before.0.writes
  finals-same =
      ap (λ ps. filter (is_made work.table.writes job.partition) (range_names job.kind ps.low ps.high)) pieces
      ∙ filter-agree (is_made work.table.writes job.partition) (is_made before.0.writes job.partition) (range_names job.kind low high)
      (λ name at. made-grown job.partition before.0.writes work.table.writes name (same-writes name at))

  wants-same : (name : DirName) (bucket : ℕ) → IsIn name (finals state job before.0.writes) → wanted job work.table name bucket ≡ wanted job before.0 name bucket
  wants-same name bucket among =
      let at = (from-filter (is_made before.0.writes job.partition) name (range_names job.kind low high) among).0 in
      ap (λ info. name_file info.shape work.table.writes job.partition name bucket) gained.info
      ∙ file-grown before.0.info.shape job.partition before.0.writes work.table.writes name bucket (same-writes name at)

  still-wants : StillWants state now number job work
  still-wants = record { work = was-work; pieces = pieces; finals_are = finals-same; wants = wants-same }

pub wants-stay : WantsStay
wants-stay limits state event number job work fits few sound = by (was-there limits state event number job fits work.is work.working)
  where
    by : WasThere state number job → StillWants state (after state event) number job work ⊎ IsJustPicked state number
    by (inl was) = inl (still-wants limits state event number job work fits few sound was)
    by (inr picked_) = inr picked_

-- ---- what was staged

-- one at work wasn't just picked
not-picked : (state : State) (number : ℕ) (job : Job) → IsAtWork state number job → IsJustPicked state number → ⊥
not-picked state number job work just =
    let one : just.job ≡ job = same_one (numbered state.jobs number) just.job job just.is work.is in
    true≢false (sym (marked job work.working) ∙ ap (λ (j : Job). is_some j.watermark) (sym one) ∙ ap is_some just.none)

-- of the job that is at work
module _ (state : State) (number : ℕ) (job : Job) (work : IsAtWork state number job) (name : DirName) (bucket : ℕ) (bytes : List ℕ)
    (is : IsJobFile state number name bucket bytes) where
  one-job : is.job ≡ job
  one-job = same_one (numbered state.jobs number) is.job job is.work.is work.is

  one-table : is.work.table ≡ work.table
  one-table =
      same_one (numbered state.tables job.table) is.work.table work.table
      (ap (λ (j : Job). numbered state.tables j.table) (sym one-job) ∙ is.work.table_is) work.table_is

  pub its-among : IsIn name (finals state job work.table.writes)
  its-among = subst (IsIn name) (λ i. finals state (one-job i) (one-table i).writes) is.among

  pub its-wants : wanted job work.table name bucket ≡ Some (is.deletes, is.recs)
  its-wants = (λ i. wanted (sym one-job i) (sym one-table i) name bucket) ∙ is.wants

pub job-file-lasts : JobFileLasts
job-file-lasts limits state event number job name bucket bytes work fits few sound is = by (wants-stay limits state event number job work fits few sound)
  where
    by : StillWants state (after state event) number job work ⊎ IsJustPicked state number → IsJobFile (after state event) number name bucket bytes
    by (inl still) =
        let among = its-among state number job still.work name bucket bytes is in
        record {
          job = job;
          work = work;
          among = subst (IsIn name) (sym still.finals_are) among;
          deletes = is.deletes;
          recs = is.recs;
          wants = still.wants name bucket among ∙ its-wants state number job still.work name bucket bytes is;
          encodes = is.encodes;
        }
    by (inr just) = absurd (not-picked state number is.job is.work just)

pub staged-lasts : StagedLasts
staged-lasts limits trail more state event number job work now fits few sound all name bucket file among wants =
    by (wants-stay limits state event number job now fits few sound)
  where
    by : StillWants state (after state event) number job now ⊎ IsJustPicked state number → HasWritten (trail ++ more) (by_job number) (staged_at number job name bucket)
    by (inr just) = absurd (not-picked state number job work just)
    by (inl still) =
        let one : still.work.table ≡ work.table = same_one (numbered state.tables job.table) still.work.table work.table still.work.table_is work.table_is in
        let there : IsIn name (finals state job still.work.table.writes) = subst (IsIn name) still.finals_are among in
        Contains-append_left trail more _
        (all name bucket file (subst (λ (t : Table). IsIn name (finals state job t.writes)) one there)
        ((λ i. wanted job (sym one i) name bucket) ∙ sym (still.wants name bucket there) ∙ wants))
