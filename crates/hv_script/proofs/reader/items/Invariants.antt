use Rattle.std.proofs.Common.{◌≡◌, ◌+◌, ◌≤◌, drop}
use Rattle.hv_script.specs.Items.{items_of}
use Rattle.hv_script.specs.Reading.{given}
use Rattle.hv_script.proofs.reader.items.Given as goal

abbrev pub invariant-loop-place : goal.invariant-loop-place
invariant-loop-place l = (given l.reader (drop l.place l.script) ≡ items_of l.script) × (l.reader.line ≤ l.place + 1)
