use Rattle.std.proofs.Common.{◌∙◌}
use Rattle.std.proofs.lemmas.List.{append_assoc}
use Rattle.hv_history.specs.Answers.{counts_line}
use Rattle.hv_history.proofs.answers.counts_line.Goals as goal

pub returns : goal.returns
unfolding counts_line
returns c =
    (λ k. (c.into_bytes.ensures.value k).items) ∙ c.in_ok-line.ensures.ok
    ∙ simp (append_assoc, c.inserted_rows-inserted.ensures, c.deleted_rows-deleted.ensures)
