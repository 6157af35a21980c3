use Rattle.std.proofs.Common.{◌∙◌, sym}
use Rattle.hv_merge.specs.Steps.{valid_rows, run_of}
use Rattle.hv_merge.proofs.Runs.{IsMoved, moved, run-more, gone-more}
use Rattle.hv_merge.proofs.merging.move_run.Goals as goal

pub loop-rec-preserved-in-Continue-1 : goal.loop-rec-preserved-in-Continue-1
loop-rec-preserved-in-Continue-1 c =
    let list = c.args.list.now in
    let others = c.args.others in
    let s = c.in-Some-valid_row.shown in
    let still = c.gone_from-gone.result.now in
    let seen = valid_rows list (run_of others c.loop-rec.head.items) in
    let left = valid_rows list (run_of others c.take_before.new.head.items) in
    let m : IsMoved list others c.loop-rec.head.items c.take_before.new.head.items c.in-Some.rec s =
    moved list others c.loop-rec.head.items c.take_before.new.head.items c.in-Some.rec s (sym c.in-Some.ensures.taken) c.take_before.ensures.left (sym c.in-Some-valid_row.ensures) in
    record {
      rows = run-more c.loop-rec.gone.now still c.id-id.result s c.loop-rec.rows.items c.push_kept.new.rows.items _ seen left
          (c.id-id.ensures ∙ m.id) c.gone_from-gone.ensures c.in_ok-push_kept.ensures m.run c.loop-rec.invariant.rows;
      head = sym m.rest ∙ c.loop-rec.invariant.head;
      gone = gone-more c.loop-rec.gone.now still c.id-id.result s seen left _ (c.id-id.ensures ∙ m.id) c.gone_from-gone.ensures m.run c.loop-rec.invariant.gone;
    }
