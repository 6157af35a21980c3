use Rattle.std.proofs.Common.{◌≡◌, false, subst}
use Rattle.std.specs.Prelude.{IsOk}
use Rattle.hv_trail.specs.Kept.{TrailKept}
use Rattle.hv_trail.specs.Spare.{needs_room}
use Rattle.hv_trail.proofs.kept.KeptTrail.reserve_for.Goals as goal

pub returns-clause-has : goal.returns-clause-has
returns-clause-has c =
    subst (λ (t : TrailKept). needs_room t.entries c.args.first.now c.args.more ≡ false → IsOk c.make_room.result) c.self.view_is c.make_room.ensures.has
