-- A statement that is held can be finished later.
use Rattle.std.proofs.Common.{ℕ, Option, Some, None, List, Result, Ok, Err, inl, inr}
use Rattle.std.specs.Prelude.{IfSome, IfOk, IfErr, OnOk}
use Rattle.hv_shelf.specs.Disk.{Store}
use Rattle.hv_history.specs.declared.entry.Entry.{Entry}
use Rattle.hv_trail.specs.declared.trail.TrailItem.{TrailItem}
use Rattle.hv_stands.specs.Running.{Asking}
use Rattle.hv_session.specs.hv_beginning.specs.hv_steps.specs.hv_table_reader.specs.hv_acts.specs.hv_telling.specs.hv_house.specs.declared.fault.HouseFault.{HouseFault}
use Rattle.hv_actor.specs.Acting.{IsLater, among, known}
use Rattle.hv_session.specs.hv_beginning.specs.hv_steps.specs.hv_table_reader.specs.hv_acts.specs.declared.told.ToldHouse.{ToldHouse}
use Rattle.hv_session.specs.hv_beginning.specs.hv_steps.specs.hv_table_reader.specs.hv_acts.specs.Told.{seen_in}
use Rattle.hv_session.specs.hv_beginning.specs.hv_steps.specs.Going.{GainsSome}
use Rattle.hv_session.specs.hv_beginning.specs.hv_steps.specs.Phases.{HaltsBeginning}
use Rattle.hv_session.specs.declared.paused.Paused.{Paused}
use Rattle.hv_session.specs.declared.paused.Taken.{Taken}
use Rattle.hv_session.specs.declared.paused.Taken.TheVariants as taken
use Rattle.hv_session.specs.Doing.{CanFinish, CanFinishTaken}
use Rattle.tests_jobs.specs.Keeping.{held_behind}

-- what can be finished can be finished later
abbrev pub HeldLasts : {D : Type 0} → (D → Option Store) → (D → ℕ) → Type 0
HeldLasts {D = D} told faults =
    (before now : ToldHouse D) (paused : Paused) → IsLater faults (seen_in before) (seen_in now) → CanFinish told before paused → CanFinish told now paused

-- what is held behind a statement that was taken up can be finished
pub behind : {D : Type 0} (told : D → Option Store) (faults : D → ℕ) (lasts : HeldLasts told faults) (before now : ToldHouse D) (answer : Taken) (held : Option Paused)
    → IsLater faults (seen_in before) (seen_in now) → CanFinishTaken told now answer → IfSome held (CanFinish told before) → IfSome (held_behind answer held) (CanFinish told now)
behind told faults lasts before now (taken.Replied reply) None later fresh can = tt
behind told faults lasts before now (taken.Replied reply) (Some paused) later fresh can = lasts before now paused later can
behind told faults lasts before now (taken.Kept paused) held later fresh can = fresh

-- the house goes on behind a statement that was taken up, also where the run stops
pub went-on : {D : Type 0} (told : D → Option Store) (faults : D → ℕ) (between : List TrailItem → Type 0) (meanwhile : ToldHouse D → ToldHouse D → Type 0)
    (asking : Asking) (low : ℕ) (own own' : List ℕ) (before now : ToldHouse D) (Is : Taken → List Entry → Type 0) (result : Result Taken HouseFault)
    → IfOk result (λ answer. GainsSome faults between low (known own before) (known own' now) (Is answer))
    → IfErr result (HaltsBeginning (among told faults between meanwhile) asking (known own before) (known own' now)) → IsLater faults (seen_in before) (seen_in now)
went-on told faults between meanwhile asking low own own' before now Is (Ok answer) gains halts = gains.1.adds.later
went-on told faults between meanwhile asking low own own' before now Is (Err why) gains (inl halts) = halts.2.stop.adds.later
went-on told faults between meanwhile asking low own own' before now Is (Err why) gains (inr (inl shut)) = (shut.1 0).later
went-on told faults between meanwhile asking low own own' before now Is (Err why) gains (inr (inr shut)) = (shut.1 0).later

-- what holds anyway
pub anyway : {T E : Type 0} (P : Type 0) (result : Result T E) → P → OnOk result P
anyway P (Ok x) p = p
anyway P (Err e) p = tt

-- what is held can be finished behind whatever was done
pub held-on : {D : Type 0} (told : D → Option Store) (faults : D → ℕ) (lasts : HeldLasts told faults) (before now : ToldHouse D) (held : Option Paused)
    → IsLater faults (seen_in before) (seen_in now) → IfSome held (CanFinish told before) → IfSome held (CanFinish told now)
held-on told faults lasts before now None later can = tt
held-on told faults lasts before now (Some paused) later can = lasts before now paused later can
