-- A compaction that a statement asks for, or an abort where there is no room for it.
-- Source: Hive Language Manual, DDL (Alter Table/Partition Compact); that it leaves a partition alone where a job was busy behind its Start
-- is this project's profile.
use Rattle.std.specs.Prelude.{◌≡◌, ℕ, ◌+◌, Bool, true, false, if◌then◌else◌, Option, List, [], ◌∷◌, length, Result, Ok, Err}
use Rattle.hv_base.specs.declared.ids.JobId.{JobId}
use Rattle.hv_shelf.specs.Disk.{Store}
use Rattle.hv_logic.specs.declared.meaning.Meaning.TheVariants as means
use Rattle.hv_history.specs.declared.entry.Entry.{Entry}
use Rattle.hv_history.specs.declared.entry.Entry.TheVariants as entry
use Rattle.hv_history.specs.declared.entry.Cause.TheVariants as cause
use Rattle.hv_history.specs.JobsTrue.{Ask as AskOf, kind_of, ask_of, was_busy}
use Rattle.hv_trail.specs.declared.trail.TrailItem.{TrailItem}
use Rattle.hv_trail.specs.declared.trail.TrailItem.TheVariants.{Noted}
use Rattle.hv_trail.specs.Trail.{state_at}
use Rattle.hv_trail.specs.Kept.{trail_of}
use Rattle.hv_trail.specs.Steps.{Call, Note, Ask, Step}
use Rattle.hv_telling.specs.hv_house.specs.declared.house.House.{House}
use Rattle.hv_telling.specs.hv_house.specs.Steps.{seen_of}
use Rattle.hv_acts.specs.declared.compacting.AskFor.{AskFor}
use Rattle.hv_acts.specs.declared.compacting.AskedFor.{AskedFor}
use Rattle.hv_acts.specs.declared.compacting.AskedFor.TheVariants as found
use Rattle.hv_acts.specs.declared.aborted.Aborted.{Aborted}
use Rattle.hv_acts.specs.declared.fault.ActFault.{ActFault}
use Rattle.hv_acts.specs.Told.{IsWholeOrClosed}
use Rattle.hv_acts.specs.Meant.{HasMeant, RunsWith}
use Rattle.hv_acts.specs.Answers.{call_behind, answer_outcome, NoTest, IsWhy, EntryFits, AnswerLeaves}
use Rattle.hv_acts.specs.Aborting.{is_full}
use Rattle.hv_acts.specs.Giving.{IsAbortedFull}

-- the number of the job that is asked for next
abbrev pub next_job : List TrailItem → JobId
next_job trail = record { 0 = length (state_at trail).jobs + 1 }

-- the entry that asks for it, as the job of this number
abbrev pub asked_entry : AskFor → JobId → Entry
asked_entry asked job = entry.Asked job asked.table asked.partition (kind_of asked.kind) asked.by.0

abbrev pub ask_in : AskFor → AskOf
ask_in asked = ask_of asked.table asked.partition asked.kind

-- a job of the partition was initiated or working behind the Start
abbrev pub is_busy_then : List TrailItem → AskFor → Bool
is_busy_then trail asked = was_busy (state_at trail) asked.place (ask_in asked)

-- what is to be noted: the job, or an abort where there is no room for it
unfoldable pub to_ask : List TrailItem → AskFor → Entry
to_ask trail asked = if is_full (state_at trail) then entry.Abort asked.by cause.Full else asked_entry asked
    (next_job trail)

abbrev pub call_to_ask : List TrailItem → AskFor → Result AskedFor ActFault → Call
call_to_ask trail asked (Ok (found.Job job)) = Note (asked_entry asked (next_job trail))
call_to_ask trail asked (Ok found.Busy) = Ask
call_to_ask trail asked (Ok (found.Aborted aborted)) = Note (entry.Abort asked.by aborted.cause)
call_to_ask trail asked (Err why) = call_behind (Note (to_ask trail asked)) why

abbrev pub adds_job : AskFor → Result AskedFor ActFault → List TrailItem
adds_job asked (Ok (found.Job job)) = Noted (asked_entry asked job) ∷ []
adds_job asked (Ok found.Busy) = []
adds_job asked (Ok (found.Aborted aborted)) = Noted (entry.Abort asked.by aborted.cause) ∷ []
adds_job asked (Err why) = []

-- what it rests on: its transaction runs without a write id, and the entry fits
pub record RestsOnJob (trail : List TrailItem) (asked : AskFor) : Type 0 where
  pub runs : RunsWith trail asked.by 0
  pub fits : EntryFits trail (asked_entry asked (next_job trail))

-- it was asked for, as the next job, where none had been busy
pub record IsAskedSo (trail : List TrailItem) (asked : AskFor) (job : JobId) : Type 0 where
  pub idle : is_busy_then trail asked ≡ false
  pub rests : RestsOnJob trail asked
  pub job_is : job ≡ next_job trail

-- it wasn't, since there was no room
pub record IsLackedSo (trail : List TrailItem) (asked : AskFor) (aborted : Aborted) : Type 0 where
  pub idle : is_busy_then trail asked ≡ false
  pub full : IsAbortedFull trail asked.by aborted

abbrev pub AskAnswers : List TrailItem → AskFor → Result AskedFor ActFault → Type 0
AskAnswers trail asked (Ok (found.Job job)) = IsAskedSo trail asked job
AskAnswers trail asked (Ok found.Busy) = RunsWith trail asked.by 0 × (is_busy_then trail asked ≡ true)
AskAnswers trail asked (Ok (found.Aborted aborted)) = IsLackedSo trail asked aborted
AskAnswers trail asked (Err why) = IsWhy NoTest trail asked.by (RestsOnJob trail asked) why

-- all that is promised of a compaction that was to be asked for
pub record AskStep {D : Type 0} (told : D → Option Store) (faults : D → ℕ) (asked : AskFor) (before now : House D)
    (result : Result AskedFor ActFault) : Type 0 where
  pub keeps : IsWholeOrClosed told now
  pub step : Step told faults (call_to_ask (trail_of before.trail) asked result) (answer_outcome result)
      (seen_of before) (seen_of now)
  pub answers : AskAnswers (trail_of before.trail) asked result
  pub leaves : AnswerLeaves told faults asked.by.0 (seen_of before) (seen_of now) result

-- its statement asks for that, started at that place, and had no write id
pub record IsJobDue (trail : List TrailItem) (asked : AskFor) : Type 0 where
  pub ask : HasMeant trail asked.by [] (means.Ask asked.table asked.partition asked.kind)
  pub started : ask.was.place ≡ asked.place
