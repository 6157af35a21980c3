use Rattle.std.proofs.Common.{◌≡◌, true, None, Option, List, sym, subst, ◌∙◌}
use Rattle.hv_base.specs.Told.{Tells}
use Rattle.hv_shelf.specs.Disk.{Store, places_of}
use Rattle.hv_history.specs.declared.entry.Entry.{Entry}
use Rattle.hv_history.specs.State.{state_of}
use Rattle.hv_history.specs.Legal.{HasRoom, profile}
use Rattle.hv_trail.specs.Steps.{Done}
use Rattle.hv_telling.proofs.Reading.{reads-keep-whole}
use Rattle.hv_job_calls.specs.Refusals.{is_live_in, CanForget}
use Rattle.hv_job_calls.proofs.Forgets.{tells-more, unlisted-before, bare-before, listed, list-failed}
use Rattle.hv_job_calls.proofs.Steps.{hard-behind, closed-same}
use Rattle.hv_job_calls.proofs.forgetting.forget_live.Goals as goal

pub forget_listed-requires-clause-whole : goal.forget_listed-requires-clause-whole
forget_listed-requires-clause-whole g c =
    reads-keep-whole g.D.Shelf.told g.D.Shelf.faults None Done c.args.house.now c.places_for.new.self c.requires.whole c.in-Ok.ensures.step c.in-Ok.ensures.ready

pub forget_listed-requires-clause-live : goal.forget_listed-requires-clause-live
forget_listed-requires-clause-live g c =
    subst (λ (book : List Entry). is_live_in (state_of book) c.args.table.0 ≡ true) (sym c.places_for.ensures.asked.book) c.requires.live

pub forget_listed-requires-clause-can : goal.forget_listed-requires-clause-can
forget_listed-requires-clause-can g c =
    subst (λ (book : List Entry). CanForget (state_of book) c.args.table.0 c.args.write.0) (sym c.places_for.ensures.asked.book) c.requires.can

pub forget_listed-requires-clause-room : goal.forget_listed-requires-clause-room
forget_listed-requires-clause-room g c =
    subst (λ (book : List Entry). HasRoom profile (state_of book) 1) (sym c.places_for.ensures.asked.book) c.requires.room

pub forget_listed-requires-clause-listed : goal.forget_listed-requires-clause-listed
forget_listed-requires-clause-listed g c =
    subst (λ (o : Option Store). Tells o (λ s. c.deref.result.now ≡ places_of c.args.table s.tree)) (sym c.places_for.ensures.asked.store)
    (tells-more (g.D.Shelf.told c.args.house.now.shelf) _ _ (λ s are. c.deref.ensures.value ∙ are) c.in-Ok.ensures.places)

pub returns-in-Ok-clause-step : goal.returns-in-Ok-clause-step
returns-in-Ok-clause-step g c =
    listed g.D.Shelf.told g.D.Shelf.faults c.args.table c.args.write c.args.house.now c.places_for.new.self c.in-Ok.ensures.step c.places_for.ensures.asked.store
    c.forget_listed.new.house c.forget_listed.result c.forget_listed.ensures.others c.forget_listed.ensures.step

pub returns-in-Ok-clause-hard : goal.returns-in-Ok-clause-hard
returns-in-Ok-clause-hard g c =
    hard-behind (g.D.Shelf.hard c.args.house.now.shelf) (g.D.Shelf.hard c.places_for.new.self.shelf) (g.D.Shelf.hard c.forget_listed.new.house.shelf)
    c.args.house.now.trail.closed c.places_for.new.self.trail.closed c.forget_listed.new.house.trail.closed
    (closed-same g.D.Shelf.told g.D.Shelf.faults None c.args.house.now c.places_for.new.self c.in-Ok.ensures.step c.places_for.ensures.asked.store)
    c.places_for.ensures.hard c.forget_listed.ensures.hard

pub returns-in-Ok-clause-listed : goal.returns-in-Ok-clause-listed
returns-in-Ok-clause-listed g c =
    unlisted-before (g.D.Shelf.told c.args.house.now.shelf) (g.D.Shelf.told c.places_for.new.self.shelf) c.places_for.ensures.asked.store c.args.table
    c.args.write.0 c.forget_listed.result c.forget_listed.ensures.listed

pub returns-in-Ok-clause-bare : goal.returns-in-Ok-clause-bare
returns-in-Ok-clause-bare g c =
    bare-before (g.D.Shelf.told c.args.house.now.shelf) (g.D.Shelf.told c.places_for.new.self.shelf) c.places_for.ensures.asked.store c.args.table
    c.args.write.0 c.forget_listed.result c.forget_listed.ensures.bare

pub returns-in-Err-clause-step : goal.returns-in-Err-clause-step
returns-in-Err-clause-step g c =
    list-failed g.D.Shelf.told g.D.Shelf.faults c.args.table c.args.write c.args.house.now c.places_for.new.self c.in-Err.why c.requires.whole
    c.in-Err.ensures.step c.in-Err.ensures.stays c.in-Err.ensures.cause.later c.in-Err.ensures.cause.failed
