-- The place that a job's note has is that of its Asked, which has the job's partition.
use Rattle.std.proofs.Common.{◌≡◌, ℕ, zero, suc, ◌<◌, Bool, true, false, Option, Some, None, List, [], ◌∷◌, ◌++◌, length, map, filter, fold, refl, sym, ap, ◌∙◌, subst, arith}
use Rattle.std.specs.Prelude.{if◌then◌else◌, ◌&&◌, ◌||◌, ◌==◌, is_none, option_and_then}
use Rattle.std.specs.List.{AllByRecursion, list_any}
use Rattle.std.proofs.lemmas.List.{append_assoc, append-nil, length-append}
use Rattle.hv_jobs.specs.hv_history.specs.declared.entry.Entry.{Entry}
use Rattle.hv_jobs.specs.hv_history.specs.declared.entry.Entry.TheVariants as entry
use Rattle.hv_jobs.specs.hv_history.specs.State.{State, Job, changed, changed_at, asked_job, picked, published_at, empty_at, failed_at, cleaned, acted, after, nothing_yet, state_of}
use Rattle.hv_jobs.specs.hv_history.specs.declared.entry.JobKind.{JobKind}
use Rattle.hv_jobs.specs.hv_history.specs.Thresholds.{is_behind_place}
use Rattle.hv_jobs.specs.hv_history.specs.Jobs.{is_job_of, mark_by}
use Rattle.hv_jobs.specs.hv_history.specs.JobsTrue.{is_busy_behind, was_busy}
use Rattle.hv_earlier.specs.hv_meta.specs.hv_book.specs.Briefs.{brief_job}
use Rattle.hv_earlier.specs.hv_meta.specs.hv_book.proofs.IdLaws.{all-more, all-append}
use Rattle.hv_earlier.specs.hv_meta.specs.hv_book.proofs.TextLaws.{get-front, get-last}
use Rattle.hv_tallies.specs.Jobs.{asked_in, asked_at, is_asked_for, is_asked_of, notes_in, ended_behind, or_busy}

pub record IsAskedThere (entries : List Entry) (job : Job) : Type 0 where
  pub within : job.asked < length entries
  pub there : asked_at entries job.asked ≡ Some job.partition

abbrev AreAsked : List Entry → State → Type 0
AreAsked entries state = AllByRecursion (IsAskedThere entries) state.jobs

still-there : (done : List Entry) (event : Entry) (job : Job) → IsAskedThere done job → IsAskedThere (done ++ event ∷ []) job
still-there done event job is = record {
  within = let within = is.within in omega (arith, within, length-append done (event ∷ []));
  there = ap (option_and_then asked_in) (get-front done (event ∷ []) job.asked is.within) ∙ is.there;
}

all-still : (done : List Entry) (event : Entry) (jobs : List Job) → AllByRecursion (IsAskedThere done) jobs → AllByRecursion (IsAskedThere (done ++ event ∷ [])) jobs
all-still done event jobs all = all-more (IsAskedThere done) (IsAskedThere (done ++ event ∷ [])) (still-there done event) jobs all

all-changed-at : (P : Job → Type 0) (f : Job → Job) → ((j : Job) → P j → P (f j)) → (jobs : List Job) (n : ℕ) → AllByRecursion P jobs → AllByRecursion P (changed_at f jobs n)
all-changed-at P f step [] n all = tt
all-changed-at P f step (j ∷ jobs) zero all = (step j all.0, all.1)
all-changed-at P f step (j ∷ jobs) (suc n) all = (all.0, all-changed-at P f step jobs n all.1)

all-changed : (P : Job → Type 0) (f : Job → Job) → ((j : Job) → P j → P (f j)) → (jobs : List Job) (n : ℕ) → AllByRecursion P jobs → AllByRecursion P (changed f jobs n)
all-changed P f step jobs zero all = all
all-changed P f step jobs (suc n) all = all-changed-at P f step jobs n all

-- a step that leaves what was asked
stepped-still : (done : List Entry) (event : Entry) (f : Job → Job) → ((j : Job) → (f j).asked ≡ j.asked) → ((j : Job) → (f j).partition ≡ j.partition)
    → (jobs : List Job) (n : ℕ) → AllByRecursion (IsAskedThere done) jobs → AllByRecursion (IsAskedThere (done ++ event ∷ [])) (changed f jobs n)
stepped-still done event f place partition jobs n all =
    all-changed (IsAskedThere (done ++ event ∷ [])) f
    (λ j is. record {
      within = subst (λ m. m < length (done ++ event ∷ [])) (sym (place j)) is.within;
      there = ap (asked_at (done ++ event ∷ [])) (place j) ∙ is.there ∙ ap Some (sym (partition j));
    }) jobs n (all-still done event jobs all)

asked-next : (done : List Entry) (state : State) (event : Entry) → state.entries ≡ length done → AreAsked done state → AreAsked (done ++ event ∷ []) (after state event)
unfolding acted
asked-next done state (entry.Boot run) at all = all-still done (entry.Boot run) state.jobs all
asked-next done state (entry.Opened txn session number text) at all = all-still done (entry.Opened txn session number text) state.jobs all
asked-next done state (entry.Start txn statement) at all = all-still done (entry.Start txn statement) state.jobs all
asked-next done state (entry.Given txn table write) at all = all-still done (entry.Given txn table write) state.jobs all
asked-next done state (entry.Commit txn wrote) at all = all-still done (entry.Commit txn wrote) state.jobs all
asked-next done state (entry.Abort txn cause) at all = all-still done (entry.Abort txn cause) state.jobs all
asked-next done state (entry.Create txn table) at all = all-still done (entry.Create txn table) state.jobs all
asked-next done state (entry.Drop txn table) at all = all-still done (entry.Drop txn table) state.jobs all
asked-next done state (entry.Asked job table partition kind by) at all =
    let event = entry.Asked job table partition kind by in
    let there : asked_at (done ++ event ∷ []) state.entries ≡ Some partition =
    ap (asked_at (done ++ event ∷ [])) at ∙ ap (option_and_then asked_in) (get-last done event) in
    all-append (IsAskedThere (done ++ event ∷ [])) state.jobs (asked_job state.entries table.0 partition kind by ∷ []) (all-still done event state.jobs all)
    (record { within = omega (arith, at, length-append done (event ∷ [])); there = there }, tt)
asked-next done state (entry.Picked job watermark) at all =
    stepped-still done (entry.Picked job watermark) (picked watermark.0) (λ j. refl) (λ j. refl) state.jobs job.0 all
asked-next done state (entry.Published job low high mark) at all =
    stepped-still done (entry.Published job low high mark) (published_at state.entries (low.0, high.0, mark.0)) (λ j. refl) (λ j. refl) state.jobs job.0 all
asked-next done state (entry.Empty job) at all = stepped-still done (entry.Empty job) (empty_at state.entries) (λ j. refl) (λ j. refl) state.jobs job.0 all
asked-next done state (entry.Cleaned job) at all = stepped-still done (entry.Cleaned job) cleaned (λ j. refl) (λ j. refl) state.jobs job.0 all
asked-next done state (entry.Failed job cause) at all =
    stepped-still done (entry.Failed job cause) (failed_at state.entries cause) (λ j. refl) (λ j. refl) state.jobs job.0 all
asked-next done state (entry.Forgot table write) at all = all-still done (entry.Forgot table write) state.jobs all
asked-next done state (entry.Next txn statement number text) at all = all-still done (entry.Next txn statement number text) state.jobs all
asked-next done state (entry.Did txn statement wrote) at all = all-still done (entry.Did txn statement wrote) state.jobs all
asked-next done state (entry.Alter txn table) at all = all-still done (entry.Alter txn table) state.jobs all

asked-all : (more done : List Entry) (state : State) → state.entries ≡ length done → AreAsked done state → AreAsked (done ++ more) (fold after state more)
asked-all [] done state at all = subst (λ entries. AreAsked entries state) (sym (append-nil done)) all
asked-all (event ∷ more) done state at all =
    subst (λ entries. AreAsked entries (fold after state (event ∷ more))) (append_assoc done (event ∷ []) more)
    (asked-all more (done ++ event ∷ []) (after state event) (omega (arith, at, length-append done (event ∷ []))) (asked-next done state event at all))

pub all-asked : (entries : List Entry) → AllByRecursion (IsAskedThere entries) (state_of entries).jobs
all-asked entries = asked-all entries [] nothing_yet refl tt

-- ---- so the notes of a partition are those of its jobs

pub note-of : (entries : List Entry) (table : ℕ) (partition : List ℕ) (job : Job) → IsAskedThere entries job
    → is_asked_of entries table partition (brief_job job) ≡ is_job_of table partition job
note-of entries table partition job is = ap (λ o. (job.table == table) && is_asked_for partition o) is.there

notes-of : (entries : List Entry) (table : ℕ) (partition : List ℕ) (jobs : List Job) → AllByRecursion (IsAskedThere entries) jobs
    → filter (is_asked_of entries table partition) (map brief_job jobs) ≡ map brief_job (filter (is_job_of table partition) jobs)
notes-of entries table partition [] all = refl
notes-of entries table partition (job ∷ jobs) all =
    ap (λ b. if b then brief_job job ∷ filter (is_asked_of entries table partition) (map brief_job jobs) else filter (is_asked_of entries table partition) (map brief_job jobs))
    (note-of entries table partition job all.0)
    ∙ by (is_job_of table partition job) (notes-of entries table partition jobs all.1)
  where
    by : (b : Bool) → filter (is_asked_of entries table partition) (map brief_job jobs) ≡ map brief_job (filter (is_job_of table partition) jobs)
        → (if b then brief_job job ∷ filter (is_asked_of entries table partition) (map brief_job jobs) else filter (is_asked_of entries table partition) (map brief_job jobs))
        ≡ map brief_job (if b then job ∷ filter (is_job_of table partition) jobs else filter (is_job_of table partition) jobs)
    by true rest = ap (λ xs. brief_job job ∷ xs) rest
    by false rest = rest

pub notes-are : (entries : List Entry) (table : ℕ) (partition : List ℕ)
    → notes_in entries table partition ≡ map brief_job (filter (is_job_of table partition) (state_of entries).jobs)
notes-are entries table partition = notes-of entries table partition (state_of entries).jobs (all-asked entries)

-- ---- and whether one was busy behind a place is read off them

busy-one : (place : ℕ) (ended : Option ℕ) → ended_behind place ended ≡ (is_none ended || is_behind_place (Some place) (mark_by ended))
busy-one place None = refl
busy-one place (Some end) = refl

or-more : (a b c : Bool) → ((a || b) || c) ≡ (a || (b || c))
or-more true b c = refl
or-more false b c = refl

or-none : (a : Bool) → a ≡ (a || false)
or-none true = refl
or-none false = refl

busy-all : (place : ℕ) (before : Bool) (jobs : List Job) → fold (or_busy place) before (map brief_job jobs) ≡ (before || list_any (is_busy_behind place) jobs)
busy-all place before [] = or-none before
busy-all place before (job ∷ jobs) =
    ap (λ (b : Bool). fold (or_busy place) (before || b) (map brief_job jobs)) (busy-one place job.ended)
    ∙ busy-all place (before || is_busy_behind place job) jobs
    ∙ or-more before (is_busy_behind place job) (list_any (is_busy_behind place) jobs)

pub busy-is : (entries : List Entry) (table : ℕ) (partition : List ℕ) (place : ℕ) (kind : JobKind)
    → fold (or_busy place) false (notes_in entries table partition)
    ≡ was_busy (state_of entries) place (record { table = table; partition = partition; kind = kind })
busy-is entries table partition place kind =
    ap (fold (or_busy place) false) (notes-are entries table partition)
    ∙ busy-all place false (filter (is_job_of table partition) (state_of entries).jobs)
