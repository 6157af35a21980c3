-- What a script's `!compact` and `!clean` add to a book: entries of compactions and of cleaning alone, each by the book behind the ones
-- before it.
-- Source: Hive Transactions, compactor and cleaner; that a pass or a job ends at the first entry without room is this project's profile.
use Rattle.std.specs.Prelude.{◌≡◌, ◌⊎◌, ℕ, ◌+◌, ◌<◌, Option, Some, None, List, [], ◌∷◌, ◌++◌, map}
use Rattle.hv_base.specs.declared.ids.JobId.{JobId}
use Rattle.hv_history.specs.declared.entry.Entry.{Entry}
use Rattle.hv_history.specs.declared.entry.Entry.TheVariants as entry
use Rattle.hv_history.specs.State.{state_of}
use Rattle.hv_history.specs.Legal.{load, profile}
use Rattle.hv_compact.specs.hv_job_acts.specs.declared.asking.PartAt.{PartAt}
use Rattle.hv_compact.specs.hv_job_acts.specs.hv_job_calls.specs.Refusals.{picking, to_pick, publishing_of}
use Rattle.hv_compact.specs.hv_job_acts.specs.Work.{parts_in, lost_in}
use Rattle.hv_compact.specs.Alone.{initiated_from}
use Rattle.hv_clean.specs.Alone.{free_in, forgot_entry, SweepsSome}

-- so many more of the load would pass the journal's limit
abbrev pub LacksRoomFor : List Entry → ℕ → Type 0
LacksRoomFor book more = profile.entries < load (state_of book) + more

-- ---- entries of nobody's transaction

-- by `!compact`: a job that is due is asked for, and a job is taken up and ends
abbrev pub IsCompacting : Entry → Type 0
IsCompacting (entry.Asked job table partition kind by) = by ≡ 0
IsCompacting (entry.Picked job watermark) = Unit {0}
IsCompacting (entry.Published job low high mark) = Unit {0}
IsCompacting (entry.Empty job) = Unit {0}
IsCompacting (entry.Failed job why) = Unit {0}
IsCompacting event = ⊥

-- by `!clean`: a job is cleaned, and an aborted write id is forgotten
abbrev pub IsCleaning : Entry → Type 0
IsCleaning (entry.Cleaned job) = Unit {0}
IsCleaning (entry.Forgot table write) = Unit {0}
IsCleaning event = ⊥

-- ---- a pass of an initiator

-- Each partition of a live table that commits touched had its turn, and what was due at it was asked for; up to some turn, where there is no
-- room for one more entry.
pub record Initiated (before now : List Entry) : Type 0 where
  pub turns : List PartAt
  pub rest : List PartAt
  pub parts_are : parts_in before ≡ turns ++ rest
  pub goes : now ≡ initiated_from before turns
  pub ends : (rest ≡ []) ⊎ LacksRoomFor now 1

-- ---- one job

-- the entry by which a job ends, behind this book
abbrev pub IsEndOfJob : List Entry → JobId → Entry → Type 0
IsEndOfJob book job (entry.Published one low high mark) = entry.Published one low high mark ≡ publishing_of book job
IsEndOfJob book job (entry.Empty one) = one ≡ job
IsEndOfJob book job (entry.Failed one why) = one ≡ job
IsEndOfJob book job event = ⊥

-- it was taken up, and this is its end
pub record TakesUp (before now : List Entry) (number : ℕ) : Type 0 where
  pub event : Entry
  pub goes : now ≡ before ++ picking before ∷ event ∷ []
  pub ends : IsEndOfJob (before ++ picking before ∷ []) (record { 0 = number }) event

-- The lowest job of a live table that waits was taken up and ended; none is where none waits, or where there is no room for its Picked and
-- its end.
abbrev pub WorksAt : List Entry → List Entry → Option ℕ → Type 0
WorksAt before now None = now ≡ before
WorksAt before now (Some number) = TakesUp before now number ⊎ ((now ≡ before) × LacksRoomFor before 2)

abbrev pub WorksOne : List Entry → List Entry → Type 0
WorksOne before now = WorksAt before now (to_pick (state_of before))

pub record Compacts (before now : List Entry) : Type 0 where
  pub between : List Entry
  pub initiated : Initiated before between
  pub works : WorksOne between now

-- ---- a pass of a cleaner

-- Jobs that nobody needs any more were noted as cleaned, and then aborted write ids as forgotten. What is left out is left to a later pass:
-- where a call on files failed, where a directory is listed still, or where there is no room.
abbrev pub Cleans : List Entry → List Entry → Type 0
Cleans before now = SweepsSome before now

-- what a pass has to note
abbrev pub cleaning_of : List Entry → List Entry
cleaning_of book = map entry.Cleaned (free_in book) ++ map forgot_entry (lost_in (state_of book))

-- it left nothing out, but what there was no room for
pub record IsWholePass (before now : List Entry) : Type 0 where
  pub noted : List Entry
  pub rest : List Entry
  pub all_are : cleaning_of before ≡ noted ++ rest
  pub goes : now ≡ before ++ noted
  pub ends : (rest ≡ []) ⊎ LacksRoomFor now 1
