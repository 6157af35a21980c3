use Rattle.std.proofs.Common.{ap, ◌∙◌}
use Rattle.std.specs.Option.{option_map}
use Rattle.hv_history.specs.State.{numbered}
use Rattle.hv_earlier.specs.Fates.{fate_of}
use Rattle.hv_showing.specs.Fronts.{then_at, started_in, runs_so}
use Rattle.hv_showing.proofs.Thens.{runs-then}
use Rattle.hv_showing.proofs.fronts.was_running.Goals as goal

pub returns : goal.returns
returns c =
    let entries = c.args.book.now.entries in
    let position = c.args.front.position in
    let txn = c.args.txn in
    c.runs_so.ensures
    ∙ ap (λ fate. runs_so fate c.started_in.result) c.stood-fate.ensures
    ∙ ap (runs_so (option_map fate_of (then_at entries position txn)))
    (c.started_in.ensures
    ∙ ap (started_in position) (c.numbered.ensures ∙ ap (λ notes. numbered notes txn) c.transactions.ensures.transactions))
    ∙ runs-then entries position txn
