use Rattle.std.proofs.Common.{◌≡◌, ◌||◌, sym, ap, ◌∙◌}
use Rattle.hv_typing.specs.Aggregates.{in_some, in_whens, has_aggregate}
use Rattle.hv_grouping.proofs.Layers.{has-Case}
use Rattle.hv_grouping.proofs.aggregates.+aggregates.Goals as goal

pub has_aggregate-returns-in-Case : goal.has_aggregate-returns-in-Case
has_aggregate-returns-in-Case t c =
    let operand : c.in_some-found.result ≡ in_some has_aggregate c.in-Case.operand = c.in_some-found.ensures in
    let slice : c.as_slice-in-Case.result.now ≡ c.in-Case.whens = c.as_slice-in-Case.ensures in
    let whens : c.in_whens-found.result ≡ in_whens has_aggregate c.as_slice-in-Case.result.now = c.in_whens-found.ensures in
    let otherwise : c.in_some-found-in-Case.result ≡ in_some has_aggregate c.in-Case.otherwise = c.in_some-found-in-Case.ensures in
    (λ i. (operand i || whens i) || otherwise i)
    ∙ (λ i. (in_some has_aggregate c.in-Case.operand || in_whens has_aggregate (slice i)) || in_some has_aggregate c.in-Case.otherwise)
    ∙ sym (has-Case c.in-Case.operand c.in-Case.whens c.in-Case.otherwise)
    ∙ sym (ap has_aggregate c.in-Case.is)
