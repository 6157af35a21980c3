use Rattle.std.proofs.Common.{◌≡◌, ◌≤◌, ◌*◌, take, sum_by}
use Rattle.hv_base.specs.declared.ids.Touch.{Touch}
use Rattle.hv_history.proofs.answers.deleted_rows.Given as goal

abbrev pub invariant-loop-touch : goal.invariant-loop-touch
invariant-loop-touch l = record {
  count : l.count ≡ sum_by (λ (touch : Touch). touch.deleted) (take l.touch-index l.wrote);
  bound : l.count ≤ l.touch-index * 18446744073709551615;
}
