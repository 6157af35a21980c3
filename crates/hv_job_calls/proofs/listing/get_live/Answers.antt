use Rattle.std.proofs.Common.{ℕ, Some, sym, ap, ◌∙◌}
use Rattle.std.specs.Global.{Vec}
use Rattle.std.specs.Prelude.{option_map}
use Rattle.hv_trail.specs.declared.trail.Reader.TheVariants as reader
use Rattle.hv_trail.specs.Steps.{Read}
use Rattle.hv_job_calls.proofs.Forgets.{tells-more}
use Rattle.hv_job_calls.proofs.Getting.{read-done, read-none}
use Rattle.hv_job_calls.proofs.Steps.{read-failed}
use Rattle.hv_job_calls.proofs.listing.get_live.Goals as goal

pub returns-in-Ok-Some-clause-step : goal.returns-in-Ok-Some-clause-step
returns-in-Ok-Some-clause-step g c =
    read-done g.D.Shelf.told g.D.Shelf.faults (Some (reader.Job c.args.job)) c.args.house.now c.bytes_for.new.self c.requires.whole c.in-Ok-Some.ensures.step
    c.in-Ok-Some.ensures.ready c.in-Ok-Some.bytes

pub returns-in-Ok-Some-clause-bytes : goal.returns-in-Ok-Some-clause-bytes
returns-in-Ok-Some-clause-bytes g c =
    tells-more (g.D.Shelf.told c.args.house.now.shelf) _ _
    (λ s are. sym are ∙ ap (option_map (λ (bytes : Vec ℕ). bytes.items)) c.in-Ok-Some.field-0-is) c.in-Ok-Some.ensures.bytes

pub returns-in-Ok-Some-clause-none : goal.returns-in-Ok-Some-clause-none
returns-in-Ok-Some-clause-none g c = λ e. cc

pub returns-in-Ok-None-clause-step : goal.returns-in-Ok-None-clause-step
returns-in-Ok-None-clause-step g c =
    read-none g.D.Shelf.told g.D.Shelf.faults (Some (reader.Job c.args.job)) c.args.house.now c.bytes_for.new.self c.requires.whole c.in-Ok-None.ensures.step
    c.in-Ok-None.ensures.ready

pub returns-in-Ok-None-clause-none : goal.returns-in-Ok-None-clause-none
returns-in-Ok-None-clause-none g c = λ e.
    tells-more (g.D.Shelf.told c.args.house.now.shelf) _ _
    (λ s are. sym are ∙ ap (option_map (λ (bytes : Vec ℕ). bytes.items)) c.in-Ok-None.field-0-is) c.in-Ok-None.ensures.bytes

pub returns-in-Err-clause-step : goal.returns-in-Err-clause-step
returns-in-Err-clause-step g c =
    read-failed g.D.Shelf.told g.D.Shelf.faults (Some (reader.Job c.args.job)) (Read (Some (reader.Job c.args.job))) c.args.house.now c.bytes_for.new.self
    c.in-Err.why c.requires.whole c.in-Err.ensures.step c.in-Err.ensures.stays c.in-Err.ensures.cause.later c.in-Err.ensures.cause.failed c.in-Err.ensures.step

pub returns-in-Err-clause-none : goal.returns-in-Err-clause-none
returns-in-Err-clause-none g c = λ e. cc
