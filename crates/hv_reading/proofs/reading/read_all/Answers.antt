use Rattle.std.proofs.Common.{inl}
use Rattle.hv_reading.proofs.reading.read_all.Goals as goal

pub returns-in-Ok-clause-tree : goal.returns-in-Ok-clause-tree
returns-in-Ok-clause-tree c = inl c.in-Ok.ensures.tree
