use Rattle.hv_kept.proofs.settling.settle_put.Goals as goal

pub returns-else-done : goal.returns-else-done
returns-else-done c = record {
  known = λ bytes before now done undone known. c.forget.ensures.known before now (undone c.if-done.false) known;
}
