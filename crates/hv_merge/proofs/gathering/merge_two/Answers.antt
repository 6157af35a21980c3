use Rattle.std.proofs.Common.{◌≡◌, ◌++◌, List, [], Some, None, ap, sym, ◌∙◌, subst}
use Rattle.hv_law_visible.proofs.SortingLemmas.{Rises}
use Rattle.hv_rowfile.specs.declared.record.Rec.{Rec}
use Rattle.hv_rowfile.specs.Layout.{RisesFrom}
use Rattle.hv_merge.specs.Gathering.{rec_cmp, put_all, next_of}
use Rattle.hv_merge.proofs.Gathered.{rises-of, of-rises, step, one-more, finished, rises-put}
use Rattle.hv_merge.proofs.gathering.merge_two.Goals as goal

pub loop-rec-init : goal.loop-rec-init
loop-rec-init c = record {
  up = subst (Rises rec_cmp) (sym c.from_vec-left.ensures.items) (rises-of None c.args.first.items c.requires.first);
  rise = subst (Rises rec_cmp) (sym c.from_vec-right.ensures.items) (rises-of None c.args.second.items c.requires.second);
  recs = ap (λ (z : List Rec). z ++ put_all c.from_vec-left.result.items c.from_vec-right.result.items) c.in_ok-recs.ensures.items
      ∙ (λ i. put_all (c.from_vec-left.ensures.items i) (c.from_vec-right.ensures.items i));
}

pub loop-rec-preserved : goal.loop-rec-preserved
loop-rec-preserved c =
    let xs = c.loop-rec.left.items in
    let ys = c.loop-rec.right.items in
    let up = c.loop-rec.invariant.up in
    let rise = c.loop-rec.invariant.rise in
    let next : next_of xs ys ≡ Some c.in-Some.rec = sym c.in-Some.ensures.next in
    let at = step xs ys c.in-Some.rec up rise next in
    record {
      up = subst (Rises rec_cmp) (sym c.take_next.ensures.first) at.rises_first;
      rise = subst (Rises rec_cmp) (sym c.take_next.ensures.second) at.rises_second;
      recs = one-more c.loop-rec.recs.items c.push.new.self.items c.in-Some.rec xs ys c.take_next.new.first.items c.take_next.new.second.items _
          up rise next c.take_next.ensures.first c.take_next.ensures.second c.in_ok-push.ensures.items c.loop-rec.invariant.recs;
    }

pub returns-clause-rises : goal.returns-clause-rises
returns-clause-rises c =
    let xs = c.loop-rec.left.items in
    let ys = c.loop-rec.right.items in
    let none : next_of xs ys ≡ None = sym c.take_next.ensures.next ∙ c.in_default.is in
    let all : c.loop-rec.recs.items ≡ put_all c.args.first.items c.args.second.items =
    finished c.loop-rec.recs.items xs ys _ none c.loop-rec.invariant.recs in
    subst (RisesFrom None) (sym all)
    (of-rises (put_all c.args.first.items c.args.second.items) (rises-put c.args.first.items c.args.second.items (rises-of None c.args.second.items c.requires.second)))
