use Rattle.std.proofs.Common.{rules, tests}
use Rattle.std.proofs.lemmas.Fn.{filter_same}
use Rattle.hv_script.specs.Standing.{is_other}
use Rattle.hv_script.proofs.standing.let_go.Goals as goal

pub returns : goal.returns
returns c = record { items = filter_same _ (is_other c.args.name.now) _ (λ x b f k. search (rules, tests)) _ _ c.retain.ensures.filtered }
