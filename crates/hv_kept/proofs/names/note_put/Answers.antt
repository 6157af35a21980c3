use Rattle.std.proofs.Common.{sym, ◌∙◌}
use Rattle.hv_kept.proofs.KnownLemmas.{put_taken, taken_known, put_known, on_ok}
use Rattle.hv_kept.proofs.names.note_put.Goals as goal

pub returns-then-is_ok : goal.returns-then-is_ok
returns-then-is_ok c = record {
  known = λ bytes before now step known.
      c.keep.ensures.known now
      (put_taken c.args.place.now bytes c.args.kept.now c.remove.new.self before now c.remove.ensures.updates.0 step known)
      (put_known c.args.place.now.table.0 c.args.place.now _ bytes c.in-Some.names c.put.new.self before now
      (on_ok c.put.result _ (sym c.is_ok.ensures.value ∙ c.if-is_ok.true) c.put.ensures.ok) step
      (taken_known c.args.place.now.table.0 c.args.kept.now before c.in-Some.names c.remove.result c.remove.ensures.value c.in-Some.is known));
}

pub returns-in_default : goal.returns-in_default
returns-in_default c = record {
  known = λ bytes before now step known.
      put_taken c.args.place.now bytes c.args.kept.now c.remove.new.self before now c.remove.ensures.updates.0 step known;
}
