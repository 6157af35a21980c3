-- What an opening makes of the jobs that were at work: one whose directories are all listed is published, of another one what it has made
-- and staged goes, and it has failed. So a run that ended in the middle of a publication is gone on with, or taken back.
-- Source: Hive Transactions, compactor; that an opening ends what was at work is this project's profile.
use Rattle.std.specs.Prelude.{◌≡◌, if◌then◌else◌, ℕ, ◌+◌, ◌<◌, ◌==◌, ◌&&◌, Bool, true, false, not, Some, None, List, [], ◌∷◌, fold, sum_by}
use Rattle.std.specs.FinMap as tree
use Rattle.std.specs.List.{flat_map, list_all, list_any}
use Rattle.hv_shelf.specs.declared.place.DirAt.{DirAt}
use Rattle.hv_shelf.specs.declared.place.Place.{Place}
use Rattle.hv_shelf.specs.Disk.{Tree, places_of}
use Rattle.hv_shelf.specs.Places.{is_in}
use Rattle.hv_dirs.specs.declared.names.DirName.{DirName}
use Rattle.hv_dirs.specs.Names.{text_of, write_end}
use Rattle.hv_stands.specs.hv_history.specs.declared.entry.Entry.{Entry}
use Rattle.hv_stands.specs.hv_history.specs.declared.entry.Entry.TheVariants as entry
use Rattle.hv_stands.specs.hv_history.specs.declared.entry.JobCause.{JobCause}
use Rattle.hv_stands.specs.hv_history.specs.declared.entry.JobCause.TheVariants as job_cause
use Rattle.hv_stands.specs.hv_history.specs.declared.state.Written.{Written}
use Rattle.hv_stands.specs.hv_history.specs.State.{State, Job, numbered, after}
use Rattle.hv_stands.specs.hv_history.specs.Legal.{is_working, working_one}
use Rattle.hv_stands.specs.hv_history.specs.Jobs.{pieces_for, is_empty_of}
use Rattle.hv_stands.specs.hv_history.specs.JobsFit.{is_live_job}
use Rattle.hv_jobs.specs.Covers.{range_names}
use Rattle.hv_jobs.specs.Finals.{unless_bare, finals_of}
use Rattle.hv_law_made.specs.Laws.{IsFiledFor, is_quiet_entry}
use Rattle.hv_law_made.specs.Standing.{Standing}
use Rattle.hv_law_made.specs.Entries.{IsSoundBook, publishing, finals, dir_of, staged_text, IsAtWork, HasBareFinal, Recovers}

-- ---- which directories are listed

-- some file stands in it
abbrev pub has_files : Tree → DirAt → Bool
has_files files dir = list_any (is_in dir) (places_of dir.table files)

abbrev pub is_listed : Tree → Job → DirName → Bool
is_listed files job name = has_files files (dir_of job (text_of name))

-- it is at work, and each directory that it is to make is listed
abbrev pub is_whole_job : State → Tree → Job → Bool
is_whole_job state files job = is_working job && list_all (is_listed files job) (finals_of state job)

-- the numbers of those, where the first one's is given
abbrev pub whole_from : State → Tree → ℕ → List Job → List ℕ
whole_from state files number [] = []
whole_from state files number (job ∷ jobs) =
    if is_whole_job state files job then number ∷ whole_from state files (number + 1) jobs else whole_from state files (number + 1) jobs

abbrev pub whole_jobs : State → Tree → List ℕ
whole_jobs state files = whole_from state files 1 state.jobs

-- ---- the entries, where these jobs are whole

abbrev pub is_among : List ℕ → ℕ → Bool
is_among numbers number = list_any (λ other. other == number) numbers

abbrev pub fails_as_lost : ℕ → Entry
fails_as_lost number = entry.Failed (record { 0 = number }) job_cause.Lost

abbrev pub fails_as_gone : ℕ → Entry
fails_as_gone number = entry.Failed (record { 0 = number }) job_cause.Gone

-- it is published where its table is live, it has something to merge, and it is whole
abbrev pub is_to_publish : List ℕ → State → ℕ → Job → Bool
is_to_publish whole state number job = is_among whole number && not (is_empty_of job.kind (pieces_for state job))

abbrev pub job_end : List ℕ → State → ℕ → Job → Entry
job_end whole state number job =
    if is_live_job state job
    then (if is_to_publish whole state number job then publishing state number job else fails_as_lost number)
    else fails_as_gone number

-- one after another, by number, where the first one's is given
abbrev pub job_ends : List ℕ → State → ℕ → List Job → List Entry
job_ends whole state number [] = []
job_ends whole state number (job ∷ jobs) =
    if is_working job
    then (job_end whole state number job ∷ job_ends whole (after state (job_end whole state number job)) (number + 1) jobs)
    else job_ends whole state (number + 1) jobs

-- ---- what goes

-- Of one that fails: what it could have made, and what it staged. One that has nothing to merge has made nothing, though its range may be that
-- of a directory that stands.
abbrev pub dirs_for : ℕ → Job → DirName → List DirAt
dirs_for number job name = dir_of job (text_of name) ∷ dir_of job (staged_text number name) ∷ []

abbrev pub failing_names : State → Job → List DirName
failing_names state job =
    unless_bare (is_empty_of job.kind (pieces_for state job)) (range_names job.kind (pieces_for state job).low (pieces_for state job).high)

abbrev pub failing_dirs : State → ℕ → Job → List DirAt
failing_dirs state number job = flat_map (dirs_for number job) (failing_names state job)

abbrev pub is_in_any : List DirAt → Place → Bool
is_in_any dirs place = list_any (λ dir. is_in dir place) dirs

-- some of the files in these directories went, and nothing else
pub record SomeGo (dirs : List DirAt) (before now : Tree) : Type 0 where
  pub less : (place : Place) (bytes : List ℕ) → tree.get now place ≡ Some bytes → tree.get before place ≡ Some bytes
  pub same : (place : Place) → is_in_any dirs place ≡ false → tree.get now place ≡ tree.get before place

-- all of them did
pub record AllGo (dirs : List DirAt) (before now : Tree) : Type 0 where
  pub bare : (place : Place) → is_in_any dirs place ≡ true → tree.get now place ≡ None
  pub same : (place : Place) → is_in_any dirs place ≡ false → tree.get now place ≡ tree.get before place

abbrev pub EitherBy : Bool → Type 0 → Type 0 → Type 0
EitherBy true this that = this
EitherBy false this that = that

-- of each job that fails, one after another
abbrev pub JobsGo : List ℕ → State → ℕ → List Job → Tree → Tree → Type 0
JobsGo whole state number [] before now = now ≡ before
JobsGo whole state number (job ∷ jobs) before now =
    EitherBy (is_working job)
    (EitherBy (is_live_job state job && is_to_publish whole state number job)
    (JobsGo whole (after state (job_end whole state number job)) (number + 1) jobs before now)
    ((middle : Tree) × AllGo (failing_dirs state number job) before middle
    × JobsGo whole (after state (job_end whole state number job)) (number + 1) jobs middle now))
    (JobsGo whole state (number + 1) jobs before now)

-- ---- laws

-- What stands can be opened: a job at work that has not begun to make its directories has none of them.
abbrev pub StandingRecovers : Type 0
StandingRecovers = (state : State) (files : Tree) → state.entries + 1 < write_end → IsSoundBook state → Standing state files → Recovers state files

-- Where no job is at work, what an opening finds stands.
abbrev pub NoneWorksStands : Type 0
NoneWorksStands =
    (state : State) (files : Tree) → ((number : ℕ) (job : Job) → IsAtWork state number job → ⊥) → Recovers state files → Standing state files

-- What commits say of a job's pieces is so: it makes just the directories that they say.
abbrev pub FinalsAgree : State → Type 0
FinalsAgree state = (number : ℕ) (job : Job) (work : IsAtWork state number job) → finals state job work.table.writes ≡ finals_of state job

abbrev pub IsWholeOrBare : Bool → State → ℕ → Job → List Written → Tree → Type 0
IsWholeOrBare true state number job writes files = IsFiledFor (publishing state number job) state files
IsWholeOrBare false state number job writes files = HasBareFinal state job writes files

-- Then it is whole where its directories are listed, and one of them is bare where they aren't.
abbrev pub ListedAreWhole : Type 0
ListedAreWhole =
    (state : State) (number : ℕ) (job : Job) (files : Tree) (work : IsAtWork state number job)
    → state.entries + 1 < write_end → IsSoundBook state → FinalsAgree state → Recovers state files
    → IsWholeOrBare (list_all (is_listed files job) (finals_of state job)) state number job work.table.writes files

-- the job is one at work that isn't published
pub record IsGivenUp (state : State) (number : ℕ) (job : Job) (files : Tree) : Type 0 where
  pub is : numbered state.jobs number ≡ Some job
  pub working : is_working job ≡ true
  pub bare : (work : IsAtWork state number job) → HasBareFinal state job work.table.writes files

-- Wherever a run ends while its directories go, an opening finds that again.
abbrev pub GoingRecovers : Type 0
GoingRecovers =
    (state : State) (number : ℕ) (job : Job) (before now : Tree) → state.entries + 1 < write_end → IsSoundBook state
    → IsGivenUp state number job before → SomeGo (failing_dirs state number job) before now → Recovers state before → Recovers state now

-- When they are gone, the book may be told that it has failed.
abbrev pub GivenUpGoOn : Type 0
GivenUpGoOn =
    (state : State) (number : ℕ) (job : Job) (why : JobCause) (before now : Tree) → state.entries + 1 < write_end → IsSoundBook state
    → IsGivenUp state number job before → AllGo (failing_dirs state number job) before now → Recovers state before
    → Recovers (after state (entry.Failed (record { 0 = number }) why)) now

-- What comes before that, an opening, and aborts of what was open, leaves what an opening finds, and which jobs are whole.
abbrev pub QuietRecovers : Type 0
QuietRecovers = (state : State) (event : Entry) (files : Tree) → is_quiet_entry event ≡ true → Recovers state files → Recovers (after state event) files

abbrev pub QuietKeepsWhole : Type 0
QuietKeepsWhole = (state : State) (event : Entry) (files : Tree) → is_quiet_entry event ≡ true → whole_jobs (after state event) files ≡ whole_jobs state files

-- So all stands when an opening is through: behind each entry of it that ends a job an opening finds what it may find, and behind the last
-- one no job is at work.
abbrev pub OpeningStands : Type 0
OpeningStands =
    (state : State) (before now : Tree) → state.entries + sum_by working_one state.jobs < write_end → IsSoundBook state → FinalsAgree state
    → JobsGo (whole_jobs state before) state 1 state.jobs before now
    → Recovers state before → Standing (fold after state (job_ends (whole_jobs state before) state 1 state.jobs)) now
