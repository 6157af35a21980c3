use Rattle.hv_kept.proofs.KnownLemmas.{removed_taken, taken_known, removed_known}
use Rattle.hv_kept.proofs.names.note_removed.Goals as goal

pub returns-in-Some : goal.returns-in-Some
returns-in-Some c = record {
  known = λ before now step known.
      c.keep.ensures.known now
      (removed_taken c.args.dir.now c.args.kept.now c.remove.new.self before now c.remove.ensures.updates.0 step known)
      (removed_known c.args.dir.now.table.0 c.args.dir.now c.in-Some.names c.remove-in-Some.new.self before now c.remove-in-Some.ensures step
      (taken_known c.args.dir.now.table.0 c.args.kept.now before c.in-Some.names c.remove.result c.remove.ensures.value c.in-Some.is known));
}

pub returns-in_default : goal.returns-in_default
returns-in_default c = record {
  known = λ before now step known.
      removed_taken c.args.dir.now c.args.kept.now c.remove.new.self before now c.remove.ensures.updates.0 step known;
}
