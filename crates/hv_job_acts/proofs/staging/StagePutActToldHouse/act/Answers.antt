use Rattle.std.proofs.Common.{sym, ◌∙◌}
use Rattle.hv_trail.specs.declared.trail.Reader.TheVariants as reader
use Rattle.hv_acts.specs.hv_telling.specs.hv_house.specs.Steps.{seen_of}
use Rattle.hv_trail.specs.Kept.{trail_of}
use Rattle.hv_trail.specs.Trail.{state_at}
use Rattle.hv_job_acts.proofs.Added.{staged-adds}
use Rattle.hv_job_acts.proofs.Passed.{shut-put, shut-does}
use Rattle.hv_job_acts.proofs.staging.StagePutActToldHouse.act.Goals as goal

pub returns-then-is_closed-clause-step : goal.returns-then-is_closed-clause-step
returns-then-is_closed-clause-step g c =
    shut-put g.D.Shelf.told g.D.Shelf.faults (seen_of c.args.house.now.house) (sym c.is_closed.ensures.closed ∙ c.if-is_closed.true) (reader.Job c.args.self.job) _ c.args.self.bytes.now

pub returns-then-is_closed-clause-does : goal.returns-then-is_closed-clause-does
returns-then-is_closed-clause-does g c =
    shut-does g.D.Shelf.told g.D.Shelf.faults (seen_of c.args.house.now.house) (sym c.is_closed.ensures.closed ∙ c.if-is_closed.true) _

pub returns-else-is_closed-clause-adds : goal.returns-else-is_closed-clause-adds
returns-else-is_closed-clause-adds g c =
    staged-adds (state_at (trail_of c.args.house.now.house.trail)) c.args.self.job c.args.self.name.now c.args.self.bucket c.args.self.bytes.now
    c.stage_file.result
