use Rattle.std.proofs.Common.{OnOk, subst, ◌≡◌, ◌∙◌, ap, sym, List, ◌++◌, ℕ}
use Rattle.std.specs.String.{string_bytes}
use Rattle.hv_route.specs.Partitions.{default_partition}
use Rattle.hv_route.proofs.PartitionLemmas.{text_of_other, text_of_str}
use Rattle.hv_route.proofs.partitions.push_value.Goals as goal

pub returns : goal.returns
unfolding default_partition
returns c =
    c.in_ok-push_str-in_default.ensures.bytes ∙ ap (λ (x : List ℕ). string_bytes c.args.out.now ++ x) (sym (text_of_other c.args.value.now c.in_ok-text.field-0 c.in_ok-text.ensures c.in_default.not-Str))

pub returns-in-Str : goal.returns-in-Str
returns-in-Str c =
    subst (λ (t : List ℕ). OnOk c.push_escaped.result (string_bytes c.push_escaped.new.out ≡ string_bytes c.args.out.now ++ t)) (sym (text_of_str c.args.value.now c.in-Str.text (sym c.in-Str.is ∙ c.in_ok-text.ensures))) c.push_escaped.ensures
