use Rattle.std.proofs.Common.{◌-◌, refl, sym, ap, ◌∙◌, arith}
use Rattle.std.specs.List.{slice_get}
use Rattle.std.proofs.lemmas.Bool.{ltb-true, ltb-false}
use Rattle.std.proofs.lemmas.Option.{slice_get_read, slice_get_past}
use Rattle.hv_links.specs.Links.{Linked, before_of}
use Rattle.hv_links.proofs.LinkLaws.{before-read, before-missing, before-less}
use Rattle.hv_links.proofs.links.Links.before.Goals as goal

pub returns-in-Some-clause-before : goal.returns-in-Some-clause-before
returns-in-Some-clause-before c =
    let at = c.args.number - 1 in
    let got =
    ap (λ xs. slice_get xs at) (sym c.deref.ensures.value)
    ∙ slice_get_read c.deref.result.now _ at c.in-Some.link.now refl (ltb-true at _ (sym c.in-Some.ensures.lookup.0)) c.in-Some.ensures.lookup.1
    in
    before-read c.self.inside.links.items c.self.inside.lasts.items c.args.number at c.in-Some.link.now c.self.invariant (omega arith) got
    ∙ ap (λ (k : Linked). before_of c.args.number k.groups) c.self.view_is

pub returns-in-Some-clause-less : goal.returns-in-Some-clause-less
returns-in-Some-clause-less c some =
    let less = before-less c.args.number c.args.self.now.groups some in
    omega (arith, less, returns-in-Some-clause-before c)

pub returns-in-None-clause-before : goal.returns-in-None-clause-before
returns-in-None-clause-before c =
    let at = c.args.number - 1 in
    let got =
    ap (λ xs. slice_get xs at) (sym c.deref.ensures.value)
    ∙ slice_get_past c.deref.result.now at (ltb-false at _ (sym c.in-None.ensures.lookup.0))
    in
    before-missing c.self.inside.links.items c.args.number at (omega arith) got
    ∙ ap (λ (k : Linked). before_of c.args.number k.groups) c.self.view_is
