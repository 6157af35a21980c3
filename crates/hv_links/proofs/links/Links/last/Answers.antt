use Rattle.std.proofs.Common.{◌-◌, refl, sym, ap, ◌∙◌, arith}
use Rattle.std.specs.List.{slice_get}
use Rattle.std.proofs.lemmas.Bool.{ltb-true, ltb-false}
use Rattle.std.proofs.lemmas.Option.{slice_get_read, slice_get_past}
use Rattle.hv_links.specs.Links.{Linked, last_of}
use Rattle.hv_links.proofs.LinkLaws.{last-read, last-missing, last-zero-read, last-most}
use Rattle.hv_links.proofs.links.Links.last.Goals as goal

pub returns-then-group-eq0-clause-last : goal.returns-then-group-eq0-clause-last
returns-then-group-eq0-clause-last c =
    last-zero-read c.self.inside.links.items c.self.inside.lasts.items c.args.group c.self.invariant (omega arith)
    ∙ ap (λ (k : Linked). last_of c.args.group k.groups) c.self.view_is

pub returns-in-Some-clause-last : goal.returns-in-Some-clause-last
returns-in-Some-clause-last c =
    let at = c.args.group - 1 in
    let got =
    ap (λ xs. slice_get xs at) (sym c.as_slice-lasts.ensures.value)
    ∙ slice_get_read c.as_slice-lasts.result.now _ at c.in-Some.last.now refl (ltb-true at _ (sym c.in-Some.ensures.lookup.0)) c.in-Some.ensures.lookup.1
    in
    last-read c.self.inside.links.items c.self.inside.lasts.items c.args.group at c.in-Some.last.now c.self.invariant (omega arith) got
    ∙ ap (λ (k : Linked). last_of c.args.group k.groups) c.self.view_is

pub returns-in-Some-clause-bound : goal.returns-in-Some-clause-bound
returns-in-Some-clause-bound c =
    let most = last-most c.args.group c.args.self.now.groups in
    omega (arith, most, returns-in-Some-clause-last c)

pub returns-in-None-clause-last : goal.returns-in-None-clause-last
returns-in-None-clause-last c =
    let at = c.args.group - 1 in
    let got =
    ap (λ xs. slice_get xs at) (sym c.as_slice-lasts.ensures.value)
    ∙ slice_get_past c.as_slice-lasts.result.now at (ltb-false at _ (sym c.in-None.ensures.lookup.0))
    in
    last-missing c.self.inside.links.items c.self.inside.lasts.items c.args.group at c.self.invariant (omega arith) got
    ∙ ap (λ (k : Linked). last_of c.args.group k.groups) c.self.view_is
