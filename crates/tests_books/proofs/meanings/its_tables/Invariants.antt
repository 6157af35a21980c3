use Rattle.std.proofs.Common.{◌≡◌, take}
use Rattle.std.specs.List.{flat_map}
use Rattle.hv_meaning.specs.Meaning.{named_by}
use Rattle.tests_books.proofs.meanings.its_tables.Given as goal

abbrev pub invariant-loop-lock : goal.invariant-loop-lock
invariant-loop-lock l = l.tables.items ≡ flat_map (named_by l.seen) (take l.lock-index l.lock-items)
