-- Where a pass or a job stops over a house on which nobody else acts.
use Rattle.std.proofs.Common.{◌≡◌, ◌≤◌, ℕ, Option, Result, IfErr, List, [], ◌∷◌, length, subst}
use Rattle.hv_shelf.specs.Disk.{Store}
use Rattle.hv_history.specs.declared.entry.Entry.TheVariants as entry
use Rattle.hv_trail.specs.declared.trail.TrailItem.{TrailItem}
use Rattle.hv_trail.specs.declared.trail.TrailItem.TheVariants.{Noted}
use Rattle.hv_actor.specs.Acting.{IsLater, Nothing, Untouched, Setting, Moment, among, known}
use Rattle.hv_session.specs.hv_beginning.specs.hv_steps.specs.hv_table_reader.specs.hv_acts.specs.declared.told.ToldHouse.{ToldHouse}
use Rattle.hv_session.specs.hv_beginning.specs.hv_steps.specs.hv_table_reader.specs.hv_acts.specs.Told.{IsWholeOrClosed, seen_in}
use Rattle.hv_session.specs.hv_beginning.specs.hv_steps.specs.hv_table_reader.specs.hv_acts.specs.hv_telling.specs.hv_house.specs.declared.fault.HouseFault.{HouseFault}
use Rattle.hv_session.specs.hv_beginning.specs.hv_steps.specs.hv_table_reader.specs.hv_acts.specs.hv_telling.specs.hv_house.specs.declared.fault.HouseFault.TheVariants as fault
use Rattle.hv_session.specs.hv_beginning.specs.hv_steps.specs.hv_table_reader.specs.hv_acts.specs.hv_telling.specs.hv_house.specs.House.{entries_of}
use Rattle.hv_compact.specs.declared.fault.RunFault.{RunFault}
use Rattle.hv_compact.specs.declared.fault.RunFault.TheVariants as run
use Rattle.hv_compact.specs.Stopping.{IsAsking, IsPicking, IsOfJob, RunsOut}
use Rattle.hv_compact.specs.Initiating.{InitiatesLess}
use Rattle.hv_compact.specs.Compacting.{IsPickedThen, StopsIn, StopsWith}
use Rattle.hv_clean.specs.declared.fault.PassFault.{PassFault}
use Rattle.hv_clean.specs.Passing.{IsCleaning as IsSweeping}
use Rattle.hv_clean.specs.Fronts.{PassFront, StopsBehind}
use Rattle.hv_program.specs.Background.{IsCompacting, IsCleaning}
use Rattle.hv_program.specs.Beside.{fault_of, run_of, AddsBeside, StopsBeside}
use Rattle.hv_program.proofs.Passed.{asked-some, swept-some, cleans-cut, cleans-lacking}
use Rattle.hv_program.proofs.Worked.{one-some}
use Rattle.hv_program.proofs.Leaving.{asking-calls, picking-calls, job-calls, sweeping-calls, cut-of, stops-cut, stops-open, stops-lacking, stops-run}

module _ {D : Type 0} (told : D → Option Store) (faults : D → ℕ) (own own' : List ℕ) (before now : ToldHouse D) (why : RunFault)
    (q : Result (Unit {0}) HouseFault) (same : q ≡ fault_of why) (later : IsLater faults (seen_in before) (seen_in now)) (kept : IsWholeOrClosed told now.house)
    (begun : 1 ≤ length (entries_of before.house)) where
  abbrev Lonely : Setting D (ToldHouse D)
  Lonely = among told faults Nothing Untouched

  abbrev A : Moment (ToldHouse D)
  A = known own before

  abbrev B : Moment (ToldHouse D)
  B = known own' now

  pub asked-stopped : InitiatesLess Lonely A B why → IfErr q (λ w. StopsBeside told IsCompacting w before.house now.house)
  asked-stopped less =
      let adds : AddsBeside IsCompacting (entries_of before.house) (entries_of now.house) = asked-some told faults own own' before now why less in
      stops-run told faults IsCompacting before now adds later kept begun why q same
      (λ is. stops-cut told faults IsCompacting before now adds later kept begun IsAsking asking-calls (cut-of told faults IsAsking now (subst (RunsOut Lonely IsAsking now) is less.stops)))
      (λ is. stops-lacking told faults IsCompacting before now adds later kept begun (subst (RunsOut Lonely IsAsking now) is less.stops))

  -- of a job that was taken up, or where none was
  one-cut : (items : List TrailItem) → IsPickedThen items → AddsBeside IsCompacting (entries_of before.house) (entries_of now.house) → StopsIn Lonely now items run.Store
      → StopsBeside told IsCompacting fault.Store before.house now.house
  one-cut [] picked adds stops =
      stops-cut told faults IsCompacting before now adds later kept begun IsPicking picking-calls (cut-of told faults IsPicking now stops)
  one-cut (Noted (entry.Picked job watermark) ∷ marks) picked adds stops =
      stops-cut told faults IsCompacting before now adds later kept begun (IsOfJob job) (job-calls job) (cut-of told faults (IsOfJob job) now stops)
  one-cut items picked adds stops = absurd picked

  one-lacking : (items : List TrailItem) → IsPickedThen items → AddsBeside IsCompacting (entries_of before.house) (entries_of now.house) → StopsIn Lonely now items run.NoMemory
      → StopsBeside told IsCompacting fault.NoMemory before.house now.house
  one-lacking [] picked adds stops = stops-lacking told faults IsCompacting before now adds later kept begun stops
  one-lacking (Noted (entry.Picked job watermark) ∷ marks) picked adds stops = stops-lacking told faults IsCompacting before now adds later kept begun stops
  one-lacking items picked adds stops = absurd picked

  pub one-stopped : StopsWith Lonely A B why → IfErr q (λ w. StopsBeside told IsCompacting w before.house now.house)
  one-stopped s =
      let adds : AddsBeside IsCompacting (entries_of before.house) (entries_of now.house) = one-some told faults own own' before now why s in
      stops-run told faults IsCompacting before now adds later kept begun why q same
      (λ is. one-cut s.items s.picked adds (subst (StopsIn Lonely now s.items) is s.stops))
      (λ is. one-lacking s.items s.picked adds (subst (StopsIn Lonely now s.items) is s.stops))

  pub swept-stopped : (ended : PassFault) → why ≡ run_of ended → StopsBehind Lonely (PassFront Lonely) A B ended → IfErr q (λ w. StopsBeside told IsCleaning w before.house now.house)
  swept-stopped ended is less =
      let adds : AddsBeside IsCleaning (entries_of before.house) (entries_of now.house) = swept-some told faults own own' before now ended less in
      stops-run told faults IsCleaning before now adds later kept begun why q same
      (λ store. stops-cut told faults IsCleaning before now adds later kept begun IsSweeping sweeping-calls
      (cut-of told faults IsSweeping now (cleans-cut told faults own own' before now ended less why is store)))
      (λ memory. stops-open told faults IsCleaning before now adds later kept begun (cleans-lacking told faults own own' before now ended less why is memory))
