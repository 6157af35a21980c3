-- The steps of a job keep all standing, one by one.
use Rattle.std.proofs.Common.{refl, ◌≡◌, ◌⊎◌, inl, inr, ℕ, ◌&&◌, true, false, is_some, IsSome, Option, Some, None, List, [], ◌∷◌, ◌++◌, sym, ap, ◌∙◌, subst, true≢false}
use Rattle.std.specs.List.{flat_map, list_any, AllByRecursion}
use Rattle.std.proofs.lemmas.Bool.{and_from}
use Rattle.hv_base.specs.declared.ids.JobId.{JobId}
use Rattle.hv_base.specs.declared.ids.TableId.{TableId}
use Rattle.hv_shelf.specs.declared.place.Place.{Place}
use Rattle.hv_shelf.specs.Disk.{Tree}
use Rattle.hv_dirs.specs.declared.names.DirName.{DirName}
use Rattle.hv_stands.specs.hv_history.specs.declared.entry.Entry.{Entry}
use Rattle.hv_stands.specs.hv_history.specs.declared.entry.Entry.TheVariants as entry
use Rattle.hv_stands.specs.hv_history.specs.declared.entry.JobKind.{JobKind}
use Rattle.hv_stands.specs.hv_history.specs.declared.state.Table.{Table}
use Rattle.hv_stands.specs.hv_history.specs.State.{State, Job, numbered, acted, after, first_of}
use Rattle.hv_stands.specs.Files.{AreEncoded}
use Rattle.hv_stands.specs.hv_history.specs.Jobs.{is_job_of, jobs_of, is_past_by, is_past}
use Rattle.hv_jobs.specs.Covers.{names_by, job_names, covers, frees, is_freed, cleans, is_cleaned_away}
use Rattle.hv_stands.proofs.Numbers.{same_one, numbered-more}
use Rattle.hv_stands.proofs.Soundness.{all-numbered}
use Rattle.hv_law_made.specs.Made.{names_in, is_made, jobs_at, is_spare}
use Rattle.hv_law_made.specs.Named.{HasNames, AllHaveNames}
use Rattle.hv_law_made.specs.Standing.{IsStagedAt, Standing}
use Rattle.hv_law_made.specs.Laws.{IsCoveredBy, IsFiledFor, ChangesAt, IsAsked, stepped_job, KeepsNames, JobStepsStand, CleanedStands, AskedStands}
use Rattle.hv_law_made.proofs.FrameLemmas.{changed-stands}
use Rattle.hv_law_made.proofs.GrowLemmas.{is_name_of, spare-of-name, Grows, spared-by, grown-changes}
use Rattle.hv_law_made.proofs.StepLemmas.{any-changed, any-more, flat-more, from-changed, numbered-in, IsStep, frees-same, job-of-same, covers-same}
use Rattle.hv_law_made.proofs.StepGrows.{KeepsJobs, kept-grows, step-keeps}
use Rattle.hv_law_visible.specs.Members.{IsIn}
use Rattle.hv_law_visible.proofs.MemberLemmas.{in-filter, from-filter, any-in, in-any}

-- ---- nothing is asked of the files

abbrev pub nowhere : Place → Type 0
nowhere place = ⊥

pub nobody-asked : (now : State) (files : Tree) → AllByRecursion AreEncoded now.tables → IsAsked now nowhere files
nobody-asked now files encoded = record {
  whole = λ place never live needed. absurd never;
  bare = λ place never none. absurd never;
  gone = λ place never live e. absurd never;
  tables = λ place never. absurd never;
  encoded = encoded;
}

pub unasked-stands : (state now : State) (files : Tree) → ChangesAt state now nowhere → AllByRecursion AreEncoded now.tables → Standing state files → Standing now files
unasked-stands state now files changes encoded standing =
    changed-stands state now nowhere files files changes (λ place. inl refl) (nobody-asked now files encoded) standing

-- an entry that asks of no place, and changes no table
pub record IsUnasked (state : State) (event : Entry) : Type 0 where
  pub changes : ChangesAt state (after state event) nowhere
  pub tables : (after state event).tables ≡ state.tables

-- ---- a step that cleans nothing

module _ (state now : State) (f : Job → Job) (number : ℕ) (step : IsStep state now f number) (kept : (job : Job) → (f job).is_cleaned ≡ job.is_cleaned) where
  cleans-same : (name : DirName) (job : Job) → cleans name (f job) ≡ cleans name job
  cleans-same name job = λ i. kept job i && covers-same state now f number step name job i

  pub cleaned-same : (place : Place) (name : DirName) → is_cleaned_away (jobs_at now place) name ≡ is_cleaned_away (jobs_at state place) name
  cleaned-same place name =
      ap (λ jobs. list_any (cleans name) (Rattle.std.specs.Prelude.filter (is_job_of place.table.0 place.partition) jobs)) step.jobs
      ∙ any-changed (is_job_of place.table.0 place.partition) (cleans name) (cleans name) (λ job. refl) f
      (job-of-same state now f number step place.table.0 place.partition) (cleans-same name) state.jobs number

abbrev mark_cleaned : Job → Job
mark_cleaned job = record job { is_cleaned = true }

first-some : (o : Option ℕ) (n : ℕ) → IsSome (first_of o n)
first-some None n = refl
first-some (Some m) n = refl

module _ (state : State) (event : Entry) (f : Job → Job) (number : ℕ) (job : Job)
    (step : IsStep state (after state event) f number) (kept : (j : Job) → (f j).is_cleaned ≡ j.is_cleaned)
    (picks : (j : Job) → IsSome j.watermark → IsSome (f j).watermark) (is : numbered state.jobs number ≡ Some job)
    (names : KeepsNames state event) where
  step-changes : ChangesAt state (after state event) nowhere
  step-changes =
      grown-changes state (after state event) nowhere
      (kept-grows state (after state event) (step-keeps state (after state event) f number step job is picks) nowhere names.before names.behind
      (λ place table here name at made e. inl (sym (cleaned-same state (after state event) f number step kept place name) ∙ e)))

  -- it changes nothing, and no table
  step-steps : IsUnasked state event
  step-steps = record { changes = step-changes; tables = step.tables }

number-is : (a b : ℕ) → Some a ≡ Some b → a ≡ b
number-is a b e = cc

pub job-steps : (state : State) (event : Entry) (number : ℕ) (job : Job) → stepped_job event ≡ Some number → numbered state.jobs number ≡ Some job
    → KeepsNames state event → IsUnasked state event
unfolding acted
job-steps state (entry.Picked j mark) number job e is names =
    let same : j.0 ≡ number = number-is j.0 number e in
    step-steps state (entry.Picked j mark) _ j.0 job
    (record { tables = refl; transactions = refl; jobs = refl; same = λ one. record { table = refl; partition = refl; kind = refl; published = refl } })
    (λ one. refl) (λ one some. first-some one.watermark _) (ap (numbered state.jobs) same ∙ is) names
job-steps state (entry.Empty j) number job e is names =
    let same : j.0 ≡ number = number-is j.0 number e in
    step-steps state (entry.Empty j) _ j.0 job
    (record { tables = refl; transactions = refl; jobs = refl; same = λ one. record { table = refl; partition = refl; kind = refl; published = refl } })
    (λ one. refl) (λ one some. some) (ap (numbered state.jobs) same ∙ is) names
job-steps state (entry.Failed j cause) number job e is names =
    let same : j.0 ≡ number = number-is j.0 number e in
    step-steps state (entry.Failed j cause) _ j.0 job
    (record { tables = refl; transactions = refl; jobs = refl; same = λ one. record { table = refl; partition = refl; kind = refl; published = refl } })
    (λ one. refl) (λ one some. some) (ap (numbered state.jobs) same ∙ is) names
job-steps state (entry.Boot run) number job e is names = cc
job-steps state (entry.Opened txn session n text) number job e is names = cc
job-steps state (entry.Start txn statement) number job e is names = cc
job-steps state (entry.Given txn table write) number job e is names = cc
job-steps state (entry.Commit txn wrote) number job e is names = cc
job-steps state (entry.Abort txn cause) number job e is names = cc
job-steps state (entry.Create txn table) number job e is names = cc
job-steps state (entry.Drop txn table) number job e is names = cc
job-steps state (entry.Asked j table partition kind by) number job e is names = cc
job-steps state (entry.Published j low high mark) number job e is names = cc
job-steps state (entry.Cleaned j) number job e is names = cc
job-steps state (entry.Forgot table write) number job e is names = cc
job-steps state (entry.Next txn statement n text) number job e is names = cc
job-steps state (entry.Did txn statement wrote) number job e is names = cc
job-steps state (entry.Alter txn table) number job e is names = cc

pub job-steps-stand : JobStepsStand
job-steps-stand state event number job files e is names standing =
    let step = job-steps state event number job e is names in
    unasked-stands state (after state event) files step.changes (subst (AllByRecursion AreEncoded) (sym step.tables) standing.encoded) standing

-- ---- a job that is asked for

module _ (state now : State) (job : Job) (tables_same : now.tables ≡ state.tables) (transactions_same : now.transactions ≡ state.transactions)
    (jobs_are : now.jobs ≡ state.jobs ++ job ∷ []) (nothing : job.published ≡ None) (uncleaned : job.is_cleaned ≡ false) where
  no-names : job_names job ≡ []
  no-names = ap (names_by job.kind) nothing

  frees-none : (name : DirName) → frees now name job ≡ false
  frees-none name = ap (λ o. is_past_by now o && covers job name) nothing

  more-staged : (place : Place) → IsStagedAt state place → IsStagedAt now place
  more-staged place staged = record {
    number = staged.number;
    job = staged.job;
    is = ap (λ jobs. numbered jobs staged.number) jobs_are ∙ numbered-more state.jobs job staged.number staged.job staged.is;
    here = staged.here;
    picked = staged.picked;
    name = staged.name;
    named = staged.named;
    dir = staged.dir;
  }

  more-keeps : KeepsJobs state now
  more-keeps = record {
    tables = tables_same;
    transactions = transactions_same;
    names = λ table partition. ap (λ jobs. flat_map job_names (jobs_of table partition jobs)) jobs_are
        ∙ flat-more (is_job_of table partition) job_names state.jobs job no-names;
    freed = λ table partition name. ap (λ jobs. is_freed now (jobs_of table partition jobs) name) jobs_are
        ∙ any-more (is_job_of table partition) (frees state name) (frees now name) (frees-same state now transactions_same name) state.jobs job (frees-none name);
    staged = more-staged;
  }

  more-cleaned : (place : Place) (name : DirName) → is_cleaned_away (jobs_at now place) name ≡ is_cleaned_away (jobs_at state place) name
  more-cleaned place name =
      ap (λ jobs. is_cleaned_away (jobs_of place.table.0 place.partition jobs) name) jobs_are
      ∙ any-more (is_job_of place.table.0 place.partition) (cleans name) (cleans name) (λ j. refl) state.jobs job
      (ap (λ b. b && covers job name) uncleaned)

  pub more-changes : AllHaveNames state → AllHaveNames now → ChangesAt state now nowhere
  more-changes before behind =
      grown-changes state now nowhere
      (kept-grows state now more-keeps nowhere before behind (λ place table here name at made e. inl (sym (more-cleaned place name) ∙ e)))

pub asked-steps : (state : State) (job : JobId) (table : TableId) (partition : List ℕ) (kind : JobKind) (by : ℕ)
    → KeepsNames state (entry.Asked job table partition kind by) → IsUnasked state (entry.Asked job table partition kind by)
unfolding acted
asked-steps state job table partition kind by names = record {
  changes = more-changes state (after state (entry.Asked job table partition kind by)) _ refl refl refl refl refl names.before names.behind;
  tables = refl;
}

pub asked-stands : AskedStands
asked-stands state job table partition kind by files names standing =
    let step = asked-steps state job table partition kind by names in
    unasked-stands state (after state (entry.Asked job table partition kind by)) files step.changes
    (subst (AllByRecursion AreEncoded) (sym step.tables) standing.encoded) standing

-- ---- a job of which all was removed that it covers

module _ (state : State) (j : JobId) (which : Job) (is : numbered state.jobs j.0 ≡ Some which) (past : is_past state which ≡ true)
    (names : KeepsNames state (entry.Cleaned j)) where
  abbrev behind : State
  behind = after state (entry.Cleaned j)

  abbrev Covered : Place → Type 0
  Covered place = IsCoveredBy state j.0 place

  clean-step : IsStep state behind mark_cleaned j.0
  unfolding acted
  clean-step = record { tables = refl; transactions = refl; jobs = refl; same = λ one. record { table = refl; partition = refl; kind = refl; published = refl } }

  cleaned-anew : (place : Place) (table : Table) → numbered state.tables place.table.0 ≡ Some table → (name : DirName) → is_name_of state table place name
      → is_made table.writes place.partition name ≡ true → is_cleaned_away (jobs_at behind place) name ≡ true
      → (is_cleaned_away (jobs_at state place) name ≡ true) ⊎ Covered place
  cleaned-anew place table here name at made e =
      let p = is_job_of place.table.0 place.partition in
      let found = in-any (cleans name) (jobs_at behind place) e in
      let kept = from-filter p found.0 behind.jobs found.1 in
      elim (from-changed mark_cleaned state.jobs j.0 found.0 (subst (IsIn found.0) clean-step.jobs kept.0)) [
        | inl was ↦ inl (any-in (cleans name) found.0 (jobs_at state place) (in-filter p found.0 state.jobs was kept.1) found.2)
        | inr by ↦
            let same : by.0 ≡ which = same_one (numbered state.jobs j.0) by.0 which by.1 is in
            let it : mark_cleaned which ≡ found.0 = ap mark_cleaned (sym same) ∙ by.2 in
            inr (record {
              job = which;
              is = is;
              here = subst (λ x. p x ≡ true) (sym it) kept.1;
              table = table;
              table_is = here;
              name = name;
              among = in-filter (is_made table.writes place.partition) name (names_in table.writes (jobs_at state place)) at.0 made;
              dir = at.1;
              covered = subst (λ x. cleans name x ≡ true) (sym it) found.2;
            })
      ]

  clean-grows : Grows state behind Covered
  clean-grows =
      kept-grows state behind (step-keeps state behind mark_cleaned j.0 clean-step which is (λ one some. some)) Covered names.before names.behind cleaned-anew

  -- such a place is spare
  covered-spare : (place : Place) → Covered place → is_spare state place ≡ true
  covered-spare place at =
      let writes = at.table.writes in
      let kept = from-filter (is_made writes place.partition) at.name (names_in writes (jobs_at state place)) at.among in
      let same : at.job ≡ which = same_one (numbered state.jobs j.0) at.job which at.is is in
      spare-of-name state place at.table at.table_is (all-numbered (HasNames state) state.tables place.table.0 at.table at.table_is names.before.tables) at.name
      (kept.0, at.dir) kept.1
      (any-in (frees state at.name) at.job (jobs_at state place)
      (in-filter (is_job_of place.table.0 place.partition) at.job state.jobs (numbered-in state.jobs j.0 at.job at.is) at.here)
      (and_from (is_past state at.job) (covers at.job at.name) (ap (is_past state) same ∙ past) at.covered))

  clean-asked : (files : Tree) → IsFiledFor (entry.Cleaned j) state files → AllByRecursion AreEncoded state.tables → IsAsked behind Covered files
  clean-asked files filed encoded = record {
    whole = λ place at live needed.
        absurd (true≢false (sym (spared-by state behind Covered clean-grows place (numbered state.tables place.table.0) refl (covered-spare place at)) ∙ needed));
    bare = λ place at none. filed.at place at;
    gone = λ place at live e. filed.at place at;
    tables = λ place at. ap (λ tables. is_some (numbered tables place.table.0)) clean-step.tables ∙ ap is_some at.table_is;
    encoded = subst (AllByRecursion AreEncoded) (sym clean-step.tables) encoded;
  }

  pub clean-changes : ChangesAt state behind Covered
  clean-changes = grown-changes state behind Covered clean-grows

  pub clean-stands : (files : Tree) → IsFiledFor (entry.Cleaned j) state files → Standing state files → Standing behind files
  clean-stands files filed standing =
      changed-stands state behind Covered files files clean-changes (λ place. inl refl) (clean-asked files filed standing.encoded) standing

pub cleaned-stands : CleanedStands
cleaned-stands state job which files is past names filed standing = clean-stands state job which is past names files filed standing
