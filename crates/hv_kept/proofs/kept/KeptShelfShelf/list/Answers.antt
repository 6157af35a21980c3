use Rattle.std.proofs.Common.{option_copied, ap, sym}
use Rattle.hv_kept.proofs.KnownLemmas.{calm, listed_if, taken_known, told_known}
use Rattle.hv_kept.proofs.kept.KeptShelfShelf.list.Goals as goal

pub returns-in-Some-clause-done : goal.returns-in-Some-clause-done
returns-in-Some-clause-done g c =
    let known = told_known c.self.inside.kept (g.D.Shelf.told c.self.inside.inner) (g.D.Shelf.told c.args.self.now)
    (ap g.D.Shelf.told (sym c.self.view_is)) c.self.invariant
    in listed_if c.args.table c.in-Some.names.now c.list_names.result (λ v. v.items) (g.D.Shelf.told c.args.self.now) c.list_names.ensures.done
    (taken_known c.args.table.0 c.self.inside.kept (g.D.Shelf.told c.args.self.now) c.in-Some.names.now (option_copied c.get.result)
    c.get.ensures.value (ap option_copied c.in-Some.is) known)

pub returns-in-Some-clause-cause : goal.returns-in-Some-clause-cause
returns-in-Some-clause-cause g c =
    calm (g.D.Shelf.faults c.args.self.now) (g.D.Shelf.hard c.args.self.now) c.list_names.ensures.unfailed

pub invariant_of-self : goal.invariant_of-self
invariant_of-self g c =
    told_known c.settle_list.new.kept (g.D.Shelf.told c.self.inside.inner) (g.D.Shelf.told c.list-listed.new.self) c.list-listed.ensures.same
    (c.settle_list.ensures.known (g.D.Shelf.told c.self.inside.inner) c.list-listed.ensures.done c.self.invariant)
