use Rattle.std.proofs.Common.{◌-◌, ◌<◌, length, set, sym, ap, subst, refl, arith}
use Rattle.std.proofs.lemmas.Option.{slice_get_read}
use Rattle.hv_links.specs.Links.{Linked, AreLinked}
use Rattle.hv_links.proofs.LinkLaws.{item-added}
use Rattle.hv_links.proofs.links.Links.add.Goals as goal

pub invariant_of-self : goal.invariant_of-self
invariant_of-self c =
    let links = c.self.inside.links.items in
    let lasts = c.self.inside.lasts.items in
    let at = c.args.group - 1 in
    let count = ap (λ (k : Linked). k.count) c.self.view_is in
    let within : at < length lasts = omega (arith, count, c.requires.some, c.requires.there) in
    let got = slice_get_read lasts _ at c.index-before.result.now refl within c.index-before.ensures in
    let long = c.self.inside.links.ok.0 in
    subst (λ xs. AreLinked xs (set lasts at c.len.result)) (sym c.append.ensures.items)
    (item-added links lasts c.args.group at c.index-before.result.now c.len.result c.self.invariant (omega (arith, c.requires.some)) within got
    (omega (arith, c.len.ensures, c.append.ensures.len, long)))
