use Rattle.std.proofs.Common.{rules, tests}
use Rattle.std.proofs.lemmas.Fn.{filter_same}
use Rattle.hv_merge.specs.Gathering.{is_in_range}
use Rattle.hv_merge.proofs.gathering.in_range.Goals as goal

pub returns : goal.returns
returns c = filter_same _ (is_in_range c.args.low.0 c.args.high.0) _ (λ x b f k. search (rules, tests)) _ _ c.retain.ensures.filtered
