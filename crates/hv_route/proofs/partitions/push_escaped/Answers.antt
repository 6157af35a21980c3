use Rattle.std.proofs.Common.{◌∙◌, ap, List, ◌++◌, ℕ}
use Rattle.std.specs.String.{string_bytes}
use Rattle.percent_encoding.specs.Percent.{percent_encode}
use Rattle.hv_route.specs.declared.partitions.TheConstants.{ESCAPED}
use Rattle.hv_route.proofs.EscapeLemmas.{escapes}
use Rattle.hv_route.proofs.partitions.push_escaped.Goals as goal

pub returns : goal.returns
returns c =
    c.in_ok-append_to.ensures.ok ∙ ap (λ (x : List ℕ). string_bytes c.args.out.now ++ x) (c.percent_encode.ensures.text ∙ ap (λ (x : List ℕ). percent_encode ESCAPED x) c.bytes.ensures.value ∙ escapes c.args.text.now)
