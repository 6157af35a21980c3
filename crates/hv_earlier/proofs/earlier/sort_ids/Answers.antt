use Rattle.std.proofs.Common.{rules}
use Rattle.std.proofs.lemmas.List.Sorted.{IsNonDecreasingBy-from_sort_by_key}
use Rattle.hv_earlier.specs.Places.{write_of}
use Rattle.hv_earlier.proofs.SortedLaws.{total-permuted}
use Rattle.hv_earlier.proofs.earlier.sort_ids.Goals as goal

pub returns-clause-same : goal.returns-clause-same
returns-clause-same c = λ weight. total-permuted weight c.args.exceptions.now.items c.sort_by_key.new.self.items c.sort_by_key.ensures.permutation

pub returns-clause-sorted : goal.returns-clause-sorted
returns-clause-sorted c = IsNonDecreasingBy-from_sort_by_key write_of _ c.in_ok-sort_by_key.ensures.sorted (λ a r f k. search rules)
