-- What a job at work is to make, by its table's writes, is what the book makes in its directories behind its publication.
use Rattle.std.proofs.Common.{◌≡◌, ℕ, ◌+◌, ◌<◌, true, is_some, Option, Some, None, refl, sym, ap, ◌∙◌, subst, length}
use Rattle.std.specs.Prelude.{◌&&◌, not, is_none}
use Rattle.std.specs.List.{flat_map}
use Rattle.std.proofs.lemmas.Bool.{and_parts}
use Rattle.hv_shelf.specs.declared.place.Place.{Place}
use Rattle.hv_shelf.specs.Places.{is_in}
use Rattle.hv_dirs.specs.declared.names.DirName.{DirName}
use Rattle.hv_dirs.specs.Names.{text_of, write_end}
use Rattle.hv_history.specs.State.{State, Job, numbered, first_of, published_at, acted, after}
use Rattle.hv_history.specs.Legal.{profile}
use Rattle.hv_history.specs.Jobs.{is_job_of, pieces_for}
use Rattle.hv_stands.proofs.Numbers.{changed-here}
use Rattle.hv_stands.proofs.Soundness.{all-numbered}
use Rattle.hv_jobs.specs.Covers.{names_by, job_names, range_names}
use Rattle.hv_law_marks.specs.hv_law_filed.specs.hv_law_made.specs.Made.{write_names, names_in, is_made, jobs_at, made_recs, name_file}
use Rattle.hv_law_marks.specs.hv_law_filed.specs.hv_law_made.specs.Named.{HasNames, AllHaveNames}
use Rattle.hv_law_marks.specs.hv_law_filed.specs.hv_law_made.specs.Entries.{IsSoundBook, publishing, finals, dir_of, IsAtWork}
use Rattle.hv_law_marks.specs.hv_law_filed.specs.hv_law_made.proofs.EntryStands.{names}
use Rattle.hv_law_marks.specs.hv_law_filed.specs.hv_law_made.proofs.NamedLemmas.{file-named, recs-are}
use Rattle.hv_law_marks.specs.hv_law_filed.specs.hv_law_made.proofs.RenameStands.{job-here, in-parts, publishing-tables, fitting, final-made}
use Rattle.hv_law_marks.specs.hv_law_filed.specs.hv_law_made.proofs.StepLemmas.{numbered-in}
use Rattle.hv_law_marks.specs.hv_law_filed.specs.hv_law_made.proofs.UnmadeLemmas.{names-here}
use Rattle.hv_law_visible.specs.Members.{IsIn}
use Rattle.hv_law_visible.proofs.MemberLemmas.{in-filter, from-filter, in-right, in-flat}
use Rattle.hv_law_work.specs.Work.{wanted}

none-by : (o : Option (ℕ × ℕ × ℕ)) → is_none o ≡ true → o ≡ None
none-by None e = refl
none-by (Some range) e = cc

module _ (state : State) (number : ℕ) (job : Job) (work : IsAtWork state number job) (few : state.entries + 1 < write_end) (sound : IsSoundBook state)
    (name : DirName) (among : IsIn name (finals state job work.table.writes)) (place : Place) (within : is_in (dir_of job (text_of name)) place ≡ true) where
  abbrev now : State
  now = after state (publishing state number job)

  abbrev low : ℕ
  low = (pieces_for state job).low

  abbrev high : ℕ
  high = (pieces_for state job).high

  abbrev its : Job
  its = published_at state.entries (low, high, length state.transactions + 1) job

  parts : (place.table.0 ≡ job.table) × ((place.partition ≡ job.partition) × (place.dir ≡ text_of name))
  parts = in-parts job (text_of name) place within

  here : numbered now.tables place.table.0 ≡ Some work.table
  here = ap (λ ts. numbered ts place.table.0) (publishing-tables state number job) ∙ ap (numbered state.tables) parts.0 ∙ work.table_is

  behind : AllHaveNames now
  behind = (names profile state (publishing state number job) (fitting state number job work few sound) few sound).behind

  has : HasNames now work.table
  has = all-numbered (HasNames now) now.tables place.table.0 work.table here behind.tables

  -- the job is published then
  its-number : numbered now.jobs number ≡ Some its
  unfolding acted
  its-number = changed-here (published_at state.entries (low, high, length state.transactions + 1)) state.jobs number job work.is

  unpublished : job.published ≡ None
  unpublished =
      none-by job.published
      (and_parts (is_none job.published) (not job.is_empty && is_none job.failure)
      (and_parts (is_some job.watermark) (is_none job.published && (not job.is_empty && is_none job.failure)) work.working).1).0

  -- and has the name
  its-name : IsIn name (job_names its)
  its-name =
      subst (λ o. IsIn name (names_by job.kind (first_of o (low, high, length state.transactions + 1)))) (sym unpublished)
      (from-filter (is_made work.table.writes job.partition) name (range_names job.kind low high) among).0

  its-here : IsIn its (jobs_at now place)
  its-here = in-filter (is_job_of place.table.0 place.partition) its now.jobs (numbered-in now.jobs number its its-number) (job-here job place parts.0 parts.1.0)

  name-there : IsIn name (names_in work.table.writes (jobs_at now place))
  name-there =
      in-right name (flat_map write_names work.table.writes) (flat_map job_names (jobs_at now place))
      (in-flat job_names its name (jobs_at now place) its-here its-name)

  pub final-recs : made_recs now place ≡ wanted job work.table name place.bucket
  final-recs =
      recs-are now place work.table here
      ∙ file-named work.table.info.shape work.table.writes place (names_in work.table.writes (jobs_at now place)) name
      (names-here now place work.table here has) (final-made state number job work few sound name among).named name-there parts.1.1
      ∙ ap (λ p. name_file work.table.info.shape work.table.writes p name place.bucket) parts.1.0
