use Rattle.std.proofs.Common.{◌≡◌, ◌++◌, List, [], ◌∷◌, None, map, ap, sym, ◌∙◌, subst}
use Rattle.std.proofs.lemmas.List.{append-nil}
use Rattle.hv_rowfile.specs.Layout.{RisesFrom}
use Rattle.hv_merge.specs.Gathering.{in_range, put_all}
use Rattle.hv_merge.proofs.Gathered.{rises-of, of-rises, rises-range, file-more, gathered-none, left-over, last-rises, left-rise}
use Rattle.hv_merge.proofs.gathering.gather.Goals as goal

pub loop-file-init : goal.loop-file-init
loop-file-init c = record {
  rises = c.requires.rises;
  rising = subst (RisesFrom None) (sym c.new-recs.ensures.items) tt;
  recs = ([], append-nil _, c.new-recs.ensures.items ∙ sym (gathered-none c.args.low.0 c.args.high.0));
}

pub merge_two-requires-clause-first : goal.merge_two-requires-clause-first
merge_two-requires-clause-first c =
    let file = c.in-Some.file.items in
    let up = last-rises (λ f. f.items) c.loop-file.rest.items c.pop.new.self.items c.in-Some.file c.in-Some.ensures.items c.loop-file.invariant.rises in
    subst (RisesFrom None) (sym c.in_range.ensures)
    (of-rises (in_range c.args.low.0 c.args.high.0 file) (rises-range c.args.low.0 c.args.high.0 file (rises-of None file up)))

pub loop-file-preserved : goal.loop-file-preserved
loop-file-preserved c =
    let low = c.args.low.0 in
    let high = c.args.high.0 in
    let file = c.in-Some.file.items in
    let so_far = c.loop-file.invariant.recs in
    let more = file-more low high file c.loop-file.recs.items so_far.0 so_far.2 in
    record {
      rises = left-rise (λ f. f.items) c.loop-file.rest.items c.pop.new.self.items c.in-Some.file c.in-Some.ensures.items c.loop-file.invariant.rises;
      rising = c.in_ok-recs.ensures.rises;
      recs = (
        file ∷ so_far.0,
        left-over (λ f. f.items) c.loop-file.rest.items c.pop.new.self.items c.in-Some.file so_far.0 _ c.in-Some.ensures.items so_far.1,
        c.in_ok-recs.ensures.recs ∙ ap (λ z. put_all z c.loop-file.recs.items) c.in_range.ensures ∙ more,
      );
    }
