use Rattle.std.proofs.Common.{sym, subst}
use Rattle.hv_links.specs.Links.{AreLinked}
use Rattle.hv_links.proofs.LinkLaws.{group-added}
use Rattle.hv_links.proofs.links.Links.add_group.Goals as goal

pub invariant_of-self : goal.invariant_of-self
invariant_of-self c =
    subst (AreLinked c.self.inside.links.items) (sym c.append.ensures.items)
    (group-added c.self.inside.links.items c.self.inside.lasts.items c.self.invariant)
