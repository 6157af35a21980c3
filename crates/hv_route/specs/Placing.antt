-- Items with the partition and the bucket in which they stand: their order, and the runs of one place in a list.
use Rattle.std.specs.Prelude.{ℕ, ◌==◌, ◌&&◌, Bool, if◌then◌else◌, nat_eq, List, [], ◌∷◌, ◌++◌}
use Rattle.std.specs.declared.cmp.Ordering.{Ordering}
use Rattle.std.specs.Ordering.{nat_cmp, on, then_cmp}
use Rattle.std.specs.Cmp.{IsTotalOrder, on_total, then_total, nat_cmp_total}
use Rattle.std.specs.Cmp.Lexicographic.{slice_cmp, pointwise, nat_list_cmp_total}
use Rattle.hv_route.specs.declared.placed.Placed.{Placed}
use Rattle.hv_route.specs.declared.runs.Run.{Run}

-- by partition, by bucket, and then by their own order
unfoldable pub placed_cmp : {T : Type 0} → (T → T → Ordering) → Placed T → Placed T → Ordering
placed_cmp {T} cmp =
    then_cmp (on (λ (placed : Placed T). placed.partition) (slice_cmp nat_cmp))
    (then_cmp (on (λ (placed : Placed T). placed.bucket) nat_cmp) (on (λ (placed : Placed T). placed.item) cmp))

pub placed_total : {T : Type 0} {cmp : T → T → Ordering} → IsTotalOrder cmp → IsTotalOrder (placed_cmp cmp)
unfolding placed_cmp
placed_total {T} total =
    then_total (on_total (λ (placed : Placed T). placed.partition) nat_list_cmp_total)
    (then_total (on_total (λ (placed : Placed T). placed.bucket) nat_cmp_total) (on_total (λ (placed : Placed T). placed.item) total))

abbrev pub is_there : {T : Type 0} → List ℕ → ℕ → Placed T → Bool
is_there partition bucket placed = pointwise nat_eq placed.partition partition && (placed.bucket == bucket)

-- the runs of one place, where a run with these items stands open
abbrev pub runs_from : {T : Type 0} → List ℕ → ℕ → List T → List (Placed T) → List (Run T)
runs_from partition bucket items [] = record { partition = partition; bucket = bucket; items = items } ∷ []
runs_from partition bucket items (placed ∷ more) =
    if is_there partition bucket placed then runs_from partition bucket (items ++ placed.item ∷ []) more
    else record { partition = partition; bucket = bucket; items = items } ∷ runs_from placed.partition placed.bucket (placed.item ∷ []) more

-- the longest runs of items of one place, one behind the other
abbrev pub runs_of : {T : Type 0} → List (Placed T) → List (Run T)
runs_of [] = []
runs_of (placed ∷ more) = runs_from placed.partition placed.bucket (placed.item ∷ []) more
