-- Which entries of jobs fit books that were worked out by hand, and which don't.
use Rattle.std.specs.Prelude.{ℕ, List, [], ◌∷◌, ◌++◌}
use Rattle.hv_history.specs.declared.entry.Entry.{Entry}
use Rattle.hv_history.specs.declared.entry.Entry.TheVariants as entry
use Rattle.hv_history.specs.declared.entry.Cause.TheVariants as cause
use Rattle.hv_history.specs.declared.entry.JobCause.{JobCause}
use Rattle.hv_history.specs.declared.entry.JobCause.TheVariants as job_cause
use Rattle.hv_history.specs.declared.entry.JobKind.{JobKind}
use Rattle.hv_history.specs.declared.entry.JobKind.TheVariants.{Minor, Major}
use Rattle.hv_history.specs.State.{state_of}
use Rattle.hv_history.specs.Legal.{profile, Fits}
use Rattle.hv_law_jobs.specs.Worked.{north, south, touch, opened, committed, asked, asked_by, picked, published, ran, one, four, below_open, with_aborted, with_open}

-- ---- entries

abbrev pub asked_south : ℕ → JobKind → Entry
asked_south job kind = entry.Asked (record { 0 = job }) (record { 0 = 1 }) south kind 0

abbrev pub empty : ℕ → Entry
empty job = entry.Empty (record { 0 = job })

abbrev pub failed : ℕ → JobCause → Entry
failed job why = entry.Failed (record { 0 = job }) why

abbrev pub cleaned : ℕ → Entry
cleaned job = entry.Cleaned (record { 0 = job })

abbrev pub forgot : ℕ → Entry
forgot write = entry.Forgot (record { 0 = 1 }) (record { 0 = write })

-- ---- books

-- a major job of four ids was asked for, and then taken up
abbrev pub waiting : List Entry
waiting = four ++ asked 1 Major ∷ []

abbrev pub at_work : List Entry
at_work = four ++ asked 1 Major ∷ picked 1 4 ∷ []

-- one of the two ids below an open one
abbrev pub at_work_below : List Entry
at_work_below = below_open ++ asked 1 Major ∷ picked 1 2 ∷ []

abbrev pub ran_below : List Entry
ran_below = below_open ++ asked 1 Major ∷ picked 1 2 ∷ published 1 1 2 6 ∷ []

-- one that has nothing to merge
abbrev pub with_nothing : List Entry
with_nothing = one ++ asked 1 Minor ∷ picked 1 1 ∷ []

-- a transaction has kept the count 7 of a fault
abbrev pub faulted : List Entry
faulted = four ++ opened 6 ∷ entry.Abort (record { 0 = 6 }) (cause.ReadFault 7) ∷ asked 1 Major ∷ picked 1 4 ∷ []

abbrev pub Fit : List Entry → Entry → Type 0
Fit book event = Fits profile (state_of book) event

abbrev pub Misfit : List Entry → Entry → Type 0
Misfit book event = Fits profile (state_of book) event → ⊥

-- asking and taking up
pub record AskingByHand : Type 0 where
  -- one is asked for in a live table, with the next number, where none of the partition is busy, by nobody or by who runs and asks for it
  pub asks : Fit four (asked 1 Major)
  pub asks_next : Misfit four (asked 2 Major)
  pub asks_busy : Misfit waiting (asked 2 Minor)
  pub asks_elsewhere : Fit waiting (asked_south 2 Minor)
  pub asks_nowhere : Misfit four (entry.Asked (record { 0 = 1 }) (record { 0 = 2 }) north Minor 0)
  pub asks_ended : Misfit four (asked_by 1 Major 2)
  -- the lowest one that nobody took up is picked, up to the watermark
  pub picks : Fit waiting (picked 1 4)
  pub picks_below : Fit (below_open ++ asked 1 Major ∷ []) (picked 1 2)
  pub picks_too_far : Misfit (below_open ++ asked 1 Major ∷ []) (picked 1 4)
  pub picks_twice : Misfit at_work (picked 1 4)
  pub picks_later : Misfit (four ++ asked 1 Major ∷ asked_south 2 Major ∷ []) (picked 2 4)
  pub picks_nothing : Misfit four (picked 1 4)

-- the end of the work
pub record WorkByHand : Type 0 where
  -- it is published with its range, and the number of the next transaction
  pub publishes : Fit at_work (published 1 1 4 6)
  pub publishes_less : Misfit at_work (published 1 1 3 6)
  pub publishes_part : Misfit at_work (published 1 2 4 6)
  pub publishes_marked : Misfit at_work (published 1 1 4 5)
  pub publishes_unpicked : Misfit waiting (published 1 1 4 6)
  pub publishes_below : Fit at_work_below (published 1 1 2 6)
  -- a major one doesn't pass an open id
  pub publishes_past : Misfit at_work_below (published 1 1 4 6)
  -- where it has nothing to merge it is empty, and isn't published
  pub is_empty : Fit with_nothing (empty 1)
  pub publishes_nothing : Misfit with_nothing (published 1 1 1 3)
  pub is_full : Misfit at_work (empty 1)
  -- while it works it may fail, as gone just where the table is, and with a count that wasn't kept
  pub fails : Fit at_work (failed 1 job_cause.Memory)
  pub fails_gone : Misfit at_work (failed 1 job_cause.Gone)
  pub fails_before : Misfit waiting (failed 1 job_cause.Memory)
  pub fails_kept : Misfit faulted (failed 1 (job_cause.ReadFault 7))
  pub fails_counted : Fit faulted (failed 1 (job_cause.WriteFault 8))

-- cleaning and forgetting
pub record CleaningByHand : Type 0 where
  -- it is cleaned once, where no transaction below its mark is open
  pub cleans : Fit (four ++ ran 1 Major 1 4 6) (cleaned 1)
  pub cleans_held : Misfit ran_below (cleaned 1)
  pub cleans_behind : Fit (ran_below ++ committed 4 (touch north 1 0 ∷ []) ∷ []) (cleaned 1)
  pub cleans_twice : Misfit (four ++ ran 1 Major 1 4 6 ++ cleaned 1 ∷ []) (cleaned 1)
  pub cleans_early : Misfit at_work (cleaned 1)
  -- an aborted id is forgotten once
  pub forgets : Fit with_aborted (forgot 2)
  pub forgets_committed : Misfit with_aborted (forgot 1)
  pub forgets_open : Misfit with_open (forgot 2)
  pub forgets_twice : Misfit (with_aborted ++ forgot 2 ∷ []) (forgot 2)

pub record JobsFitByHand : Type 0 where
  pub asking : AskingByHand
  pub work : WorkByHand
  pub cleaning : CleaningByHand
