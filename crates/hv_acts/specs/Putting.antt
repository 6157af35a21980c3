-- A file that is put.
use Rattle.std.specs.Prelude.{◌≡◌, ℕ, true, Option, Some, List, [], ◌∷◌, Result, Ok, Err, IfErr}
use Rattle.hv_base.specs.declared.ids.TxnId.{TxnId}
use Rattle.hv_shelf.specs.declared.place.Place.{Place}
use Rattle.hv_shelf.specs.Disk.{Store}
use Rattle.hv_route.specs.declared.files.OutFile.{OutFile}
use Rattle.hv_history.specs.Legal.{Of, IsRunning}
use Rattle.hv_stands.specs.Files.{place_of_file}
use Rattle.hv_table_rows.specs.Putting.{IsEncoded, bytes_of}
use Rattle.hv_trail.specs.declared.trail.Reader.TheVariants.{Txn}
use Rattle.hv_trail.specs.declared.trail.TrailItem.{TrailItem}
use Rattle.hv_trail.specs.declared.trail.TrailItem.TheVariants.{Marked}
use Rattle.hv_trail.specs.declared.trail.Mark.TheVariants.{Wrote, Broke}
use Rattle.hv_trail.specs.Trail.{state_at}
use Rattle.hv_trail.specs.Kept.{trail_of}
use Rattle.hv_trail.specs.Lasting.{Has, IsGiven}
use Rattle.hv_trail.specs.Steps.{Put, Step}
use Rattle.hv_telling.specs.hv_house.specs.declared.house.House.{House}
use Rattle.hv_telling.specs.hv_house.specs.declared.fault.HouseFault.{HouseFault}
use Rattle.hv_telling.specs.hv_house.specs.declared.fault.HouseFault.TheVariants as fault
use Rattle.hv_telling.specs.hv_house.specs.Steps.{seen_of}
use Rattle.hv_acts.specs.Told.{IsWholeOrClosed}
use Rattle.hv_acts.specs.Meant.{RunsWith}
use Rattle.hv_acts.specs.declared.fault.ActFault.{ActFault}
use Rattle.hv_acts.specs.declared.fault.ActFault.TheVariants as act
use Rattle.hv_acts.specs.Answers.{answer_call, answer_outcome, NoTest, Answers, AnswerLeaves, WhyRises}

-- the place is that of this file under a write id that the transaction was given
pub record HasIdFor (trail : List TrailItem) (by : TxnId) (place : Place) (file : OutFile) : Type 0 where
  pub table : ℕ
  pub write : ℕ
  pub given : Has trail by.0 (IsGiven table write)
  pub place_is : place ≡ place_of_file table write file

-- the transaction has started and has not ended
abbrev pub Runs : List TrailItem → TxnId → Type 0
Runs trail txn = Of (state_at trail) txn.0 IsRunning

-- the mark of the file, or of the call that failed
abbrev pub adds_mark : TxnId → HouseFault → List TrailItem
adds_mark by (fault.Failed count) = Marked (Broke (Some (Txn by)) true count) ∷ []
adds_mark by fault.Store = []
adds_mark by fault.NoMemory = []

abbrev pub adds_fault : TxnId → ActFault → List TrailItem
adds_fault by (act.House why) = adds_mark by why
adds_fault by (act.Ended at) = []
adds_fault by (act.Full entries) = []
adds_fault by (act.Held holder) = []
adds_fault by (act.Broken put count) = []
adds_fault by act.Unfit = []

abbrev pub adds_file : TxnId → Place → Result (Unit {0}) ActFault → List TrailItem
adds_file by place (Ok done) = Marked (Wrote (Txn by) place) ∷ []
adds_file by place (Err why) = adds_fault by why

-- a file that a transaction is to put, and its place
pub record Placed : Type 0 where
  pub by : TxnId
  pub place : Place
  pub file : OutFile

abbrev pub at_place : TxnId → Place → OutFile → Placed
at_place by place file = record { by = by; place = place; file = file }

-- all that is promised of a file that was to be put
pub record FileStep {D : Type 0} (told : D → Option Store) (faults : D → ℕ) (put : Placed) (before now : House D)
    (result : Result (Unit {0}) ActFault) : Type 0 where
  pub keeps : IsWholeOrClosed told now
  pub step : Step told faults (answer_call (Put (Txn put.by) put.place (bytes_of put.file)) result)
      (answer_outcome result) (seen_of before) (seen_of now)
  pub answers : Answers NoTest (trail_of before.trail) put.by (RunsWith (trail_of before.trail) put.by 1)
      (λ done. IsEncoded put.file) result
  pub leaves : AnswerLeaves told faults put.by.0 (seen_of before) (seen_of now) result
  pub rises : IfErr result (WhyRises faults (seen_of before))
