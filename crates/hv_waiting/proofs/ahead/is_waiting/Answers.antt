use Rattle.std.proofs.Common.{◌≡◌, sym, ap, ◌∙◌}
use Rattle.hv_history.specs.State.{state_of, numbered}
use Rattle.hv_meta.specs.States.{state_in}
use Rattle.hv_session.specs.hv_beginning.specs.hv_steps.specs.hv_table_reader.specs.hv_acts.specs.hv_telling.specs.hv_house.specs.hv_recovery.specs.hv_fits.specs.Texts.{is_waiting_state}
use Rattle.hv_session.specs.hv_beginning.specs.hv_steps.specs.hv_table_reader.specs.hv_acts.specs.hv_telling.specs.hv_house.specs.hv_recovery.specs.hv_fits.proofs.LockLemmas.{waits}
use Rattle.hv_waiting.proofs.ahead.is_waiting.Goals as goal

pub returns : goal.returns
returns c =
    let same : c.is_waiting_state.result ≡ is_waiting_state (state_in (state_of c.args.book.now.entries) c.args.txn.0) =
    c.is_waiting_state.ensures ∙ ap is_waiting_state c.state_of.ensures.state in
    let both = waits (numbered (state_of c.args.book.now.entries).transactions c.args.txn.0) in
    record { waiting = (λ is. both.0 (sym same ∙ is), λ is. same ∙ both.1 is) }
