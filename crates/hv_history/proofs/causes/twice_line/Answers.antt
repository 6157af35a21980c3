use Rattle.std.proofs.Common.{◌≡◌, ◌++◌, rules, subst, codes, IfOk, List, ℕ}
use Rattle.std.proofs.lemmas.List.{append_assoc}
use Rattle.hv_base.specs.declared.refusal.Refusal.TheVariants as refusal
use Rattle.hv_history.specs.Answers.{refused_line, after_space, row_text}
use Rattle.hv_history.proofs.causes.twice_line.Goals as goal

pub returns : goal.returns
returns c =
    let more : c.as_str.result.now ≡ codes " " ++ row_text c.args.id.now ++ after_space c.args.partition.now =
    search (rules, append_assoc) in
    subst (λ (words : List ℕ). IfOk c.refused_line.result (λ line. line.items ≡ refused_line refusal.MergeTwice words)) more c.refused_line.ensures
