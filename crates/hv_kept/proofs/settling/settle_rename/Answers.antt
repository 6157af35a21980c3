use Rattle.hv_kept.proofs.settling.settle_rename.Goals as goal

pub returns-then-done : goal.returns-then-done
returns-then-done c = record {
  known = λ before now done undone known. c.note_renamed.ensures.known before now (done c.if-done.true) known;
}

pub returns-else-done : goal.returns-else-done
returns-else-done c = record {
  known = λ before now done undone known. c.forget.ensures.known before now (undone c.if-done.false) known;
}
