use Rattle.hv_kept.proofs.KnownLemmas.{renamed_taken, taken_known}
use Rattle.hv_kept.proofs.MovedLemmas.{renamed_known}
use Rattle.hv_kept.proofs.names.note_renamed.Goals as goal

pub returns-then-rename : goal.returns-then-rename
returns-then-rename c = record {
  known = λ before now step known.
      c.keep.ensures.known now
      (renamed_taken c.args.from.now c.args.to.now c.args.kept.now c.remove.new.self before now c.remove.ensures.updates.0 step known)
      (renamed_known c.args.from.now c.args.to.now c.in-Some.names c.rename.new.names before now (c.rename.ensures c.if-rename.true) step
      (taken_known c.args.from.now.table.0 c.args.kept.now before c.in-Some.names c.remove.result c.remove.ensures.value c.in-Some.is known));
}

pub returns-in_default : goal.returns-in_default
returns-in_default c = record {
  known = λ before now step known.
      renamed_taken c.args.from.now c.args.to.now c.args.kept.now c.remove.new.self before now c.remove.ensures.updates.0 step known;
}
