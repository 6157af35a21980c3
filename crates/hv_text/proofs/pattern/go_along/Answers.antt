use Rattle.std.proofs.Common.{rules, ◌∙◌, length, sym, ap, arith}
use Rattle.std.specs.Str.{chars}
use Rattle.hv_text.specs.Patterns.{pattern_parts}
use Rattle.hv_text.proofs.PatternLemmas.{both_ways, step_whole, step_ends, stop_whole, stop_ends, whole_ends}
use Rattle.hv_text.proofs.pattern.go_along.Goals as goal

pub returns-then-is_any : goal.returns-then-is_any
returns-then-is_any c =
    let any = sym c.is_any.ensures ∙ c.if-is_any.true in
    let whole = c.loop-part.invariant.0 ∙ stop_whole _ _ _ _ c.in-Some.ensures.0 any in
    record {
      whole = whole;
      ends = both_ways _ _ (λ e. stop_ends _ _ _ _ c.in-Some.ensures.0 any (c.loop-part.invariant.1 e))
          (λ e. whole_ends (pattern_parts c.args.pattern.now) (chars c.args.text.now) (whole ∙ e));
      shorter_text = c.loop-part.invariant.2;
      shorter_pattern = let kept = c.loop-part.invariant.3 in let less = c.in-Some.ensures.1 in omega arith;
    }

pub loop-part-preserved : goal.loop-part-preserved
loop-part-preserved c =
    let other = sym c.is_any.ensures ∙ c.if-is_any.false in
    let takes = sym c.takes.ensures ∙ c.if-takes.true in
    let kept = c.loop-part.invariant.2 in
    let kept_pattern = c.loop-part.invariant.3 in
    let less = c.in-Some.ensures.1 in
    let shorter = ap length c.in-Some-split_first.ensures in (
      c.loop-part.invariant.0 ∙ step_whole _ _ _ _ _ _ c.in-Some.ensures.0 c.in-Some-split_first.ensures other takes,
      λ e. step_ends _ _ _ _ _ _ c.in-Some.ensures.0 c.in-Some-split_first.ensures other (c.loop-part.invariant.1 e),
      omega arith,
      omega arith,
      search rules,
      search rules,
    )
