use Rattle.std.proofs.Common.{subst, IsPermutation}
use Rattle.hv_merge.proofs.deletes.deleted_ids.Goals as goal

pub returns-clause-sorted : goal.returns-clause-sorted
returns-clause-sorted c = c.in_ok-sort.ensures.sorted

pub returns-clause-same : goal.returns-clause-same
returns-clause-same c =
    subst (λ xs. IsPermutation xs c.sort.new.self.items) c.in_ok-ids.ensures c.in_ok-sort.ensures.permutation
