use Rattle.std.proofs.Common.{arith, sym}
use Rattle.std.proofs.lemmas.List.{length-take, take_all}
use Rattle.hv_script.proofs.script.readable.Goals as goal

pub slice_bounds-result-end : goal.slice_bounds-result-end
slice_bounds-result-end c = omega (arith, length-take 16777216 c.args.script.now)

pub returns-then-script-gt-MAX_SCRIPT-clause-short : goal.returns-then-script-gt-MAX_SCRIPT-clause-short
returns-then-script-gt-MAX_SCRIPT-clause-short c = omega (arith, length-take 16777216 c.args.script.now)

pub returns-else-script-gt-MAX_SCRIPT-clause-value : goal.returns-else-script-gt-MAX_SCRIPT-clause-value
returns-else-script-gt-MAX_SCRIPT-clause-value c = sym (take_all 16777216 c.args.script.now (omega arith))
