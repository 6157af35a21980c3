use Rattle.std.proofs.Common.{[], ◌∷◌, ◌++◌, ap, ◌∙◌, sym, subst, append_assoc, arith}
use Rattle.hv_history.specs.declared.entry.Entry.TheVariants.{Start}
use Rattle.hv_house.specs.House.{entries_of}
use Rattle.hv_trail.specs.declared.trail.TrailItem.TheVariants.{Noted}
use Rattle.hv_trail.specs.Kept.{trail_of}
use Rattle.hv_house.proofs.Journals.{noted}
use Rattle.hv_house.proofs.Steps.{same-trail}
use Rattle.hv_house.proofs.Hards.{behind_step}
use Rattle.hv_house.proofs.Lengths.{short_start}
use Rattle.hv_trail.specs.Spare.{HasPlace}
use Rattle.hv_trail.proofs.SpareLaws.{first-place, second-place}
use Rattle.hv_house.proofs.house.House.add_with_start.Goals as goal

pub returns-in_ok-push-in-Ok-2-clause-noted : goal.returns-in_ok-push-in-Ok-2-clause-noted
returns-in_ok-push-in-Ok-2-clause-noted g c =
    let start = Start c.args.txn 0 in
    noted g.D.Shelf.told (c.args.entry ∷ start ∷ []) c.args.self.now
    (record {
      start = c.write_with_start.new.self.start;
      shelf = c.write_with_start.new.self.shelf;
      place = c.write_with_start.new.self.place;
      buffer = c.write_with_start.new.self.buffer;
      trail = c.push-in-Ok.new.self;
      limits = c.write_with_start.new.self.limits;
    })
    c.requires.kept (c.requires.short, (short_start c.args.txn 0, tt)) (omega (arith, c.requires.room))
    (c.in_ok-push-in-Ok-2.ensures.ok
    ∙ ap (λ b. b ++ start ∷ []) (c.in_ok-push-in-Ok.ensures.ok ∙ ap (λ b. b ++ c.args.entry ∷ []) c.in-Ok.ensures.entries)
    ∙ append_assoc (entries_of c.args.self.now) (c.args.entry ∷ []) (start ∷ []))
    c.in-Ok.ensures.place c.in-Ok.ensures.journal (c.push-in-Ok.ensures.closed ∙ c.push.ensures.closed ∙ c.in-Ok.ensures.running)
    (c.push-in-Ok.ensures.starved ∙ c.push.ensures.starved ∙ c.in-Ok.ensures.marks.starved) c.in-Ok.ensures.tree

pub returns-in_ok-push-in-Ok-2-clause-trail : goal.returns-in_ok-push-in-Ok-2-clause-trail
returns-in_ok-push-in-Ok-2-clause-trail g c =
    let start = Start c.args.txn 0 in
    c.in_ok-push-in-Ok-2.ensures.trail
    ∙ ap (λ items. items ++ Noted start ∷ [])
    (c.in_ok-push-in-Ok.ensures.trail
    ∙ ap (λ items. items ++ Noted c.args.entry ∷ []) (same-trail c.args.self.now c.write_with_start.new.self c.in-Ok.ensures.entries c.in-Ok.ensures.marks.marks))
    ∙ append_assoc (trail_of c.args.self.now.trail) (Noted c.args.entry ∷ []) (Noted start ∷ [])

pub push-requires-clause-place : goal.push-requires-clause-place
push-requires-clause-place g c =
    first-place c.write_with_start.new.self.trail.entries c.args.entry c.write_with_start.new.self.trail.spare c.in-Ok.ensures.places

pub push-requires-in-Ok-clause-place : goal.push-requires-in-Ok-clause-place
push-requires-in-Ok-clause-place g c =
    let start = Start c.args.txn 0 in
    subst (λ b. HasPlace b c.push.new.self.spare start) (sym c.in_ok-push-in-Ok.ensures.ok)
    (second-place c.write_with_start.new.self.trail.entries c.args.entry start c.write_with_start.new.self.trail.spare c.push.new.self.spare
    c.in-Ok.ensures.places c.push.ensures.spare)

pub returns-in_ok-push-in-Ok-2-clause-hard : goal.returns-in_ok-push-in-Ok-2-clause-hard
returns-in_ok-push-in-Ok-2-clause-hard g c = behind_step _ _ _ _ _ (c.push-in-Ok.ensures.closed ∙ c.push.ensures.closed) c.in-Ok.ensures.hard
