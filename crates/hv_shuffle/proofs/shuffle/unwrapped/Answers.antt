use Rattle.std.proofs.Common.{◌∷◌, []}
use Rattle.hv_shuffle.specs.Calls.{IsMade}
use Rattle.hv_shuffle.proofs.ShuffleLemmas.{zip_append}
use Rattle.hv_shuffle.proofs.shuffle.unwrapped.Goals as goal

pub loop-answer-preserved : goal.loop-answer-preserved
loop-answer-preserved g c =
    rw c.in_ok-push.ensures.items
    (zip_append IsMade c.loop-answer.yielded (c.in-Some.answer ∷ []) c.loop-answer.all.items (c.in_ok-made.made ∷ []) c.loop-answer.invariant (c.in_ok-made.was, tt))
