-- What is listed for a cleaner, and what is got for a job.
use Rattle.std.specs.Prelude.{◌≡◌, ℕ, Option, Some, None, Result, Ok, Err, IfOk, IfErr}
use Rattle.std.specs.Global.{Vec}
use Rattle.hv_base.specs.Told.{Tells}
use Rattle.hv_base.specs.declared.ids.TableId.{TableId}
use Rattle.hv_shelf.specs.declared.place.Place.{Place}
use Rattle.hv_shelf.specs.Disk.{Store, places_of}
use Rattle.hv_trail.specs.Steps.{HouseSeen}
use Rattle.hv_job_calls.specs.declared.fault.JobFault.{JobFault}
use Rattle.hv_job_calls.specs.declared.fault.JobFault.TheVariants as fault
use Rattle.hv_job_calls.specs.Tests.{IsHouse}
use Rattle.hv_job_acts.specs.declared.fault.JobActFault.{JobActFault}
use Rattle.hv_job_acts.specs.declared.fault.JobActFault.TheVariants as act
use Rattle.hv_job_acts.specs.Doing.{IfCall}

pub record PlacesSo {D : Type 0} (told : D → Option Store) (house : HouseSeen D) (table : TableId)
    (result : Result (Vec Place) JobActFault) : Type 0 where
  pub places : IfOk result (λ places. Tells (told house.shelf) (λ s. places.items ≡ places_of table s.tree))
  pub others : IfErr result (IfCall IsHouse)

-- that no file stands there is an answer
abbrev pub why_found : JobFault → Result (Option (Vec ℕ)) JobActFault
why_found fault.NotFound = Ok None
why_found fault.Gone = Err (act.Call fault.Gone)
why_found (fault.Full entries) = Err (act.Call (fault.Full entries))
why_found (fault.Needed txn) = Err (act.Call (fault.Needed txn))
why_found (fault.StillListed dir) = Err (act.Call (fault.StillListed dir))
why_found (fault.Working job) = Err (act.Call (fault.Working job))
why_found fault.Starved = Err (act.Call fault.Starved)
why_found (fault.House why) = Err (act.Call (fault.House why))

abbrev pub found_in : Result (Vec ℕ) JobFault → Result (Option (Vec ℕ)) JobActFault
found_in (Ok bytes) = Ok (Some bytes)
found_in (Err why) = why_found why
