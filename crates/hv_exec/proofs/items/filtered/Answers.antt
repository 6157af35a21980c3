use Rattle.std.proofs.Common.{◌≡◌, None, filter, sym, subst}
use Rattle.hv_typing.specs.Rows.{is_met}
use Rattle.hv_eval.specs.Frames.{frames_values}
use Rattle.hv_exec.proofs.Fronts.{filter_all, is_none}
use Rattle.hv_exec.proofs.items.filtered.Goals as goal

pub returns-then-is_none : goal.returns-then-is_none
returns-then-is_none c =
    let all = frames_values c.args.frames.items in
    let none : c.args.condition.now ≡ None = is_none c.args.condition.now c.if-is_none.ensures in
    subst (λ condition. all ≡ filter (is_met condition) all) (sym none) (filter_all all)
