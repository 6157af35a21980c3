use Rattle.std.specs.Prelude.{All}
use Rattle.hv_dirs.specs.Names.{IsName}
use Rattle.tests_low.proofs.dirs.names_of.Given as goal

abbrev pub invariant-loop-text : goal.invariant-loop-text
invariant-loop-text l = All IsName l.names.items
