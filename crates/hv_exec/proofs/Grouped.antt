-- Groups of rows where they stand are groups of their values.
use Rattle.std.proofs.Common.{◌≡◌, List, [], map, ap, ◌∙◌}
use Rattle.hv_expr.specs.declared.tree.TypedExpr.{TypedExpr}
use Rattle.hv_typing.specs.Grouped.{groups}
use Rattle.hv_typing.specs.Rows.{key_of, same_row}
use Rattle.hv_keyed.specs.Folds.{folds, added}
use Rattle.hv_keyed.proofs.Members.{folds_are_groups, groups_shown}
use Rattle.hv_eval.specs.declared.frame.Frame.{Frame}
use Rattle.hv_eval.specs.Frames.{frame_values, frames_values}

pub chains_are_groups : (keys : List TypedExpr) (frames : List Frame)
    → map frames_values (folds same_row (λ frame. key_of keys (frame_values frame)) [] added frames) ≡ groups same_row (key_of keys) (frames_values frames)
chains_are_groups keys frames =
    ap (map frames_values) (folds_are_groups same_row (λ frame. key_of keys (frame_values frame)) frames)
    ∙ groups_shown same_row (key_of keys) frame_values frames
