use Rattle.std.proofs.Common.{[], ◌∷◌, ◌++◌, ap, ◌∙◌, arith}
use Rattle.hv_trail.specs.declared.trail.TrailItem.TheVariants.{Noted}
use Rattle.hv_trail.specs.Steps.{Note}
use Rattle.hv_house.proofs.Journals.{noted}
use Rattle.hv_house.proofs.Steps.{noting-one, step-done, step-halted, same-trail}
use Rattle.hv_house.proofs.Hards.{behind_step}
use Rattle.hv_house.proofs.house.House.add.Goals as goal

pub returns-in_ok-push-in-Ok-clause-noted : goal.returns-in_ok-push-in-Ok-clause-noted
returns-in_ok-push-in-Ok-clause-noted g c =
    noted g.D.Shelf.told (c.args.entry ∷ []) c.args.self.now
    (record {
      start = c.write.new.self.start;
      shelf = c.write.new.self.shelf;
      place = c.write.new.self.place;
      buffer = c.write.new.self.buffer;
      trail = c.push.new.self;
      limits = c.write.new.self.limits;
    })
    c.requires.kept (c.requires.short, tt) (omega (arith, c.requires.room))
    (c.in_ok-push-in-Ok.ensures.ok ∙ ap (λ b. b ++ c.args.entry ∷ []) c.in-Ok.ensures.entries)
    c.in-Ok.ensures.place c.in-Ok.ensures.journal (c.push.ensures.closed ∙ c.in-Ok.ensures.running)
    (c.push.ensures.starved ∙ c.in-Ok.ensures.marks.starved) c.in-Ok.ensures.tree

pub returns-in_ok-push-in-Ok-clause-step : goal.returns-in_ok-push-in-Ok-clause-step
returns-in_ok-push-in-Ok-clause-step g c =
    step-done g.D.Shelf.told g.D.Shelf.faults (Note c.args.entry) (c.args.entry ∷ []) (noting-one c.args.entry) c.args.self.now
    (record {
      start = c.write.new.self.start;
      shelf = c.write.new.self.shelf;
      place = c.write.new.self.place;
      buffer = c.write.new.self.buffer;
      trail = c.push.new.self;
      limits = c.write.new.self.limits;
    })
    c.requires.kept.running c.in-Ok.ensures.marks.start (c.push.ensures.opened ∙ c.in-Ok.ensures.marks.left) c.in-Ok.ensures.marks.limits
    (c.push.ensures.starved ∙ c.in-Ok.ensures.marks.starved) c.in-Ok.ensures.tree c.in-Ok.ensures.cause.later
    (c.in_ok-push-in-Ok.ensures.trail
    ∙ ap (λ items. items ++ Noted c.args.entry ∷ []) (same-trail c.args.self.now c.write.new.self c.in-Ok.ensures.entries c.in-Ok.ensures.marks.marks))
    (c.push.ensures.closed ∙ c.in-Ok.ensures.running) c.in-Ok.ensures.journal

pub returns-in-Err-clause-step : goal.returns-in-Err-clause-step
returns-in-Err-clause-step g c =
    step-halted g.D.Shelf.told g.D.Shelf.faults (Note c.args.entry) (c.args.entry ∷ []) (noting-one c.args.entry) c.args.self.now c.write.new.self
    c.requires.kept.running c.in-Err.ensures.marks.start c.in-Err.ensures.marks.left c.in-Err.ensures.marks.limits c.in-Err.ensures.marks.starved c.in-Err.ensures.tree c.in-Err.ensures.cause.later
    c.in-Err.fault (same-trail c.args.self.now c.write.new.self c.in-Err.ensures.entries c.in-Err.ensures.marks.marks) c.in-Err.ensures.closed
    c.in-Err.ensures.halted.leaves

pub push-requires-clause-place : goal.push-requires-clause-place
push-requires-clause-place g c = c.in-Ok.ensures.places

pub returns-in_ok-push-in-Ok-clause-hard : goal.returns-in_ok-push-in-Ok-clause-hard
returns-in_ok-push-in-Ok-clause-hard g c = behind_step _ _ _ _ _ c.push.ensures.closed c.in-Ok.ensures.hard
