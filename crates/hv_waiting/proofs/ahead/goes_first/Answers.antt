use Rattle.std.proofs.Common.{◌∙◌}
use Rattle.hv_history.specs.State.{state_of, numbered}
use Rattle.hv_waiting.proofs.Walks.{first-of}
use Rattle.hv_waiting.proofs.ahead.goes_first.Goals as goal

pub returns : goal.returns
returns c =
    c.may_go_first.ensures
    ∙ first-of (numbered (state_of c.args.book.now.entries).transactions c.args.other) c.args.own c.args.other c.is_running-runs.result c.is_unended-unended.result
    c.is_running-runs.ensures.running c.is_unended-unended.ensures.unended
