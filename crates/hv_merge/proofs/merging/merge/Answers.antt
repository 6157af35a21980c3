use Rattle.std.proofs.Common.{◌≡◌, ◌∙◌, ◌<◌, ◌++◌, List, ◌∷◌, map, ap, sym, subst, arith, None, Some}
use Rattle.std.specs.List.{AllByRecursion}
use Rattle.hv_rowfile.specs.Layout.{RisesFrom}
use Rattle.hv_rowfile.specs.declared.record.Rec.{Rec}
use Rattle.hv_merge.specs.declared.shown.Shown.{Shown}
use Rattle.hv_merge.specs.Steps.{valid_rows, turn_of, run_of, rest_of, kept_run, gone_after}
use Rattle.hv_merge.proofs.Kept.{IdsRise, coming, begun, finished, rises-gone, rises-deleted}
use Rattle.hv_merge.proofs.Looks.{IsTurn, IsSeen, seen, count_recs, run-fewer, tie-fewer, within-heads, part-at, part-set}
use Rattle.hv_merge.proofs.Runs.{run-step, run-rises, rises-after, tie-step, tie-rises, no-rows}
use Rattle.hv_merge.proofs.merging.merge.Goals as goal

pub loop-turn-init : goal.loop-turn-init
loop-turn-init c = record {
  rise = subst (AllByRecursion (RisesFrom None)) (sym c.in_ok-heads.ensures) c.requires.rises;
  gone = subst IdsRise (sym c.as_slice-gone.ensures.value) (rises-deleted c.in_ok-deleted.deleted.items c.in_ok-deleted.ensures.sorted);
  rows = ap (λ (z : List Shown). z ++ coming c.as_slice-gone.result.now (map (valid_rows c.args.list.now) (map (λ head. head.items) c.in_ok-heads.heads.items))) c.in_ok-rows.ensures.items
      ∙ (λ i. coming (c.as_slice-gone.ensures.value i) (map (valid_rows c.args.list.now) (c.in_ok-heads.ensures i)))
      ∙ begun c.args.list.now (map (λ file. file.items) c.args.files.items) (map (λ file. file.items) c.args.deletes.now) c.in_ok-deleted.deleted.items c.in_ok-deleted.ensures.same;
}

pub loop-turn-smaller-in-Continue-branch-4 : goal.loop-turn-smaller-in-Continue-branch-4
loop-turn-smaller-in-Continue-branch-4 c =
    let files = map (λ head. head.items) c.loop-turn.heads.items in
    let e : turn_of files ≡ Some c.in-Some.turn = sym (c.in-Some.ensures ∙ ap (λ heads. turn_of (map (λ head. head.items) heads)) c.deref-in-loop-turn.ensures.value) in
    let t : IsTurn files c.in-Some.turn = subst (IsSeen files) e (seen files) in
    subst (λ z. count_recs z < count_recs files) (sym c.take_last-found.ensures.behind) (tie-fewer files c.in-Some.turn t)

pub loop-turn-preserved-in-Continue-branch-4 : goal.loop-turn-preserved-in-Continue-branch-4
loop-turn-preserved-in-Continue-branch-4 c =
    let files = map (λ head. head.items) c.loop-turn.heads.items in
    let turn = c.in-Some.turn in
    let e : turn_of files ≡ Some turn = sym (c.in-Some.ensures ∙ ap (λ heads. turn_of (map (λ head. head.items) heads)) c.deref-in-loop-turn.ensures.value) in
    let t : IsTurn files turn = subst (IsSeen files) e (seen files) in
    let behind = c.take_last-found.ensures.behind in
    record {
      rise = subst (AllByRecursion (RisesFrom None)) (sym behind) (tie-rises turn.least files c.loop-turn.invariant.rise);
      gone = subst IdsRise (sym c.gone_from-gone.ensures) (rises-gone turn.least c.loop-turn.gone.now c.loop-turn.invariant.gone);
      rows = tie-step c.args.list.now c.loop-turn.gone.now c.gone_from-gone.result.now files (map (λ head. head.items) c.take_last-found.new.heads.items) turn t
          c.loop-turn.rows.items c.push_kept.new.rows.items _ c.take_last-found.result
          c.loop-turn.invariant.gone c.loop-turn.invariant.rise c.gone_from-gone.ensures behind c.take_last-found.ensures.last
          c.in_ok-push_kept.ensures c.loop-turn.invariant.rows;
    }

pub index_mut-requires : goal.index_mut-requires
index_mut-requires c =
    let files = map (λ head. head.items) c.loop-turn.heads.items in
    let turn = c.in-Some.turn in
    let e : turn_of files ≡ Some turn = sym (c.in-Some.ensures ∙ ap (λ heads. turn_of (map (λ head. head.items) heads)) c.deref-in-loop-turn.ensures.value) in
    let t : IsTurn files turn = subst (IsSeen files) e (seen files) in
    omega (arith, within-heads (λ head. head.items) c.loop-turn.heads.items turn t, c.loop-turn.heads.ok.0)

pub loop-turn-smaller : goal.loop-turn-smaller
loop-turn-smaller c =
    let files = map (λ head. head.items) c.loop-turn.heads.items in
    let turn = c.in-Some.turn in
    let e : turn_of files ≡ Some turn = sym (c.in-Some.ensures ∙ ap (λ heads. turn_of (map (λ head. head.items) heads)) c.deref-in-loop-turn.ensures.value) in
    let t : IsTurn files turn = subst (IsSeen files) e (seen files) in
    let at : c.index_mut.result.now.items ≡ t.first ∷ t.rest =
    ap (λ head. head.items) c.index_mut.ensures.value ∙ part-at (λ head. head.items) c.loop-turn.heads.items turn t c.index_mut.result.now in
    let left = part-set (λ head. head.items) c.loop-turn.heads.items turn t c.move_run.new.head (rest_of turn.others (t.first ∷ t.rest))
    (c.in_ok-gone.ensures.head ∙ ap (rest_of turn.others) at) in
    subst (λ z. count_recs z < count_recs files) (sym left) (run-fewer files turn t (sym c.is_tied.ensures ∙ c.if-is_tied.false))

pub loop-turn-preserved : goal.loop-turn-preserved
loop-turn-preserved c =
    let files = map (λ head. head.items) c.loop-turn.heads.items in
    let turn = c.in-Some.turn in
    let e : turn_of files ≡ Some turn = sym (c.in-Some.ensures ∙ ap (λ heads. turn_of (map (λ head. head.items) heads)) c.deref-in-loop-turn.ensures.value) in
    let t : IsTurn files turn = subst (IsSeen files) e (seen files) in
    let at : c.index_mut.result.now.items ≡ t.first ∷ t.rest =
    ap (λ head. head.items) c.index_mut.ensures.value ∙ part-at (λ head. head.items) c.loop-turn.heads.items turn t c.index_mut.result.now in
    let left = part-set (λ head. head.items) c.loop-turn.heads.items turn t c.move_run.new.head (rest_of turn.others (t.first ∷ t.rest))
    (c.in_ok-gone.ensures.head ∙ ap (rest_of turn.others) at) in
    let run : List Rec → List Shown = λ recs. valid_rows c.args.list.now (run_of turn.others recs) in
    let still = c.in_ok-gone.ensures.gone ∙ ap (λ recs. gone_after c.loop-turn.gone.now (run recs)) at in
    record {
      rise = run-rises files _ turn t left c.loop-turn.invariant.rise;
      gone = subst IdsRise (sym still) (rises-after c.loop-turn.gone.now (run (t.first ∷ t.rest)) c.loop-turn.invariant.gone);
      rows = run-step c.args.list.now c.loop-turn.gone.now c.in_ok-gone.gone.now files _ turn t c.loop-turn.rows.items c.move_run.new.rows.items _
          c.loop-turn.invariant.gone c.loop-turn.invariant.rise still left
          (c.in_ok-gone.ensures.rows ∙ ap (λ recs. c.loop-turn.rows.items ++ kept_run c.loop-turn.gone.now (run recs)) at) c.loop-turn.invariant.rows;
    }

pub returns : goal.returns
returns c =
    let files = map (λ head. head.items) c.loop-turn.heads.items in
    let none : turn_of files ≡ None =
    ap (λ heads. turn_of (map (λ head. head.items) heads)) (sym c.deref-in-loop-turn.ensures.value) ∙ sym c.turn_of.ensures ∙ c.in_default.is in
    record {
      rows = finished c.loop-turn.gone.now (map (valid_rows c.args.list.now) files) c.loop-turn.rows.items _
          (no-rows c.args.list.now files (subst (IsSeen files) none (seen files))) c.loop-turn.invariant.rows;
    }
