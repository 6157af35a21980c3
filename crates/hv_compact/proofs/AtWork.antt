-- A job's work ends with an end, or stops, and never for want of room.
use Rattle.std.proofs.Common.{◌≡◌, inl, Result, Ok, Err, sym, subst}
use Rattle.std.specs.Prelude.{IfOk, IfErr}
use Rattle.hv_base.specs.declared.ids.JobId.{JobId}
use Rattle.hv_actor.specs.Acting.{Setting, Moment}
use Rattle.hv_job_acts.specs.hv_acts.specs.declared.told.ToldHouse.{ToldHouse}
use Rattle.hv_compact.specs.declared.compacting.Done.{Done as Finished}
use Rattle.hv_compact.specs.declared.fault.RunFault.{RunFault}
use Rattle.hv_compact.specs.declared.fault.RunFault.TheVariants as run
use Rattle.hv_compact.specs.Stopping.{IsAtWork}
use Rattle.hv_compact.specs.Ending.{EndsLess, at_work}

pub work-ok : (r q : Result Finished RunFault) (P : Finished → Type 0) → q ≡ at_work r → IfOk r P → IfOk q P
work-ok r q P same ends = subst (λ (x : Result Finished RunFault). IfOk x P) (sym same) (by r ends)
  where
    by : (x : Result Finished RunFault) → IfOk x P → IfOk (at_work x) P
    by (Ok answer) is = is
    by (Err run.Store) is = tt
    by (Err (run.Full entries)) is = tt
    by (Err run.NoMemory) is = tt

pub work-less : {D : Type 0} (setting : Setting D (ToldHouse D)) (job : JobId) (a b : Moment (ToldHouse D)) (r q : Result Finished RunFault)
    → q ≡ at_work r → IfErr r (EndsLess setting job a b) → IfErr q (λ why. EndsLess setting job a b why × IsAtWork why)
work-less setting job a b r q same less =
    subst (λ (x : Result Finished RunFault). IfErr x (λ why. EndsLess setting job a b why × IsAtWork why)) (sym same) (by r less)
  where
    by : (x : Result Finished RunFault) → IfErr x (EndsLess setting job a b) → IfErr (at_work x) (λ why. EndsLess setting job a b why × IsAtWork why)
    by (Ok answer) is = tt
    by (Err run.Store) is = (is, tt)
    by (Err (run.Full entries)) is = (record { marks = is.marks; each = is.each; adds = is.adds; stops = inl is.stops }, tt)
    by (Err run.NoMemory) is = (is, tt)
