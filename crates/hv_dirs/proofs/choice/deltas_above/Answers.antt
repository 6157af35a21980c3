use Rattle.std.proofs.Common.{sym, subst, ◌∙◌, ap, false, IsPermutation}
use Rattle.std.specs.List.{All}
use Rattle.hv_dirs.specs.Candidates.{IsProper, places_from}
use Rattle.hv_dirs.specs.Choice.{sight_of, chosen_above, deltas_in, AreAt}
use Rattle.hv_dirs.proofs.ChoiceLemmas.{deltas-above, sorted-proper, if-ok-more}
use Rattle.hv_dirs.proofs.choice.deltas_above.Goals as goal

pub take_above-requires : goal.take_above-requires
take_above-requires c =
    let permuted = subst (λ xs. IsPermutation xs c.sort.new.self.items) c.in_ok-candidates.ensures c.in_ok-sort.ensures.permutation in
    subst (All IsProper) (sym c.deref.ensures.value)
    (sorted-proper c.args.deletes c.args.dirs.now (sight_of c.args.list.now) c.sort.new.self.items c.requires permuted)

pub returns : goal.returns
returns c =
    let permuted = subst (λ xs. IsPermutation xs c.sort.new.self.items) c.in_ok-candidates.ensures c.in_ok-sort.ensures.permutation in
    let sight = sight_of c.args.list.now in
    if-ok-more c.take_above.result _ _
    (λ places is. subst (λ xs. AreAt c.args.deletes c.args.dirs.now (chosen_above sight c.args.base (deltas_in c.args.deletes c.args.dirs.now)) xs)
    (sym (is ∙ ap (places_from sight c.args.base false) c.deref.ensures.value))
    (deltas-above c.args.deletes c.args.dirs.now sight c.args.base c.sort.new.self.items c.requires permuted c.in_ok-sort.ensures.sorted))
    c.take_above.ensures
