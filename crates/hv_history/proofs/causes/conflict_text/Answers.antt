use Rattle.std.proofs.Common.{◌≡◌, ◌++◌, ◌∙◌, subst, codes, IfOk, List, ℕ}
use Rattle.std.specs.Fmt.{decimal}
use Rattle.std.proofs.lemmas.List.{append_assoc}
use Rattle.hv_base.specs.declared.refusal.Refusal.TheVariants as refusal
use Rattle.hv_history.specs.Answers.{refused_line, conflict_text, after_space}
use Rattle.hv_history.proofs.causes.conflict_text.Goals as goal

pub returns : goal.returns
unfolding conflict_text
returns c =
    let more : c.as_str.result.now ≡ codes " with " ++ decimal c.args.by ++ codes " on " ++ c.args.table.now ++ after_space c.args.partition.now =
    c.as_str.ensures.value ∙ c.in_ok-more.ensures.ok ∙ simp (append_assoc, c.in_ok-place.ensures) in
    subst (λ (words : List ℕ). IfOk c.refused_line.result (λ line. line.items ≡ refused_line refusal.Conflict words)) more c.refused_line.ensures
