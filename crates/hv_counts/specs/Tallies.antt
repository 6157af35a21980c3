-- What files have and what commits say, one after another by write id and partition, and the first ones of one write id and partition
-- that differ.
use Rattle.std.specs.Prelude.{ℕ, ◌+◌, ◌==◌, ◌&&◌, nat_eq, Bool, true, not, if◌then◌else◌, Option, Some, None, List, [], ◌∷◌}
use Rattle.std.specs.declared.cmp.Ordering.{Ordering}
use Rattle.std.specs.Ordering.{nat_cmp, on, then_cmp}
use Rattle.std.specs.Cmp.{IsTotalOrder, on_total, then_total, nat_cmp_total}
use Rattle.std.specs.Cmp.Lexicographic.{slice_cmp, pointwise, nat_list_cmp_total}
use Rattle.hv_book.specs.Past.{only_if}
use Rattle.hv_counts.specs.declared.tally.Tally.{Tally}

-- by write id and partition
abbrev pub key_cmp : Tally → Tally → Ordering
key_cmp = then_cmp (on (λ (tally : Tally). tally.write) nat_cmp) (on (λ (tally : Tally). tally.partition) (slice_cmp nat_cmp))

-- and by file
unfoldable pub tally_cmp : Tally → Tally → Ordering
tally_cmp = then_cmp key_cmp (on (λ (tally : Tally). tally.file) nat_cmp)

pub key_total : IsTotalOrder key_cmp
key_total = then_total (on_total (λ (tally : Tally). tally.write) nat_cmp_total) (on_total (λ (tally : Tally). tally.partition) nat_list_cmp_total)

pub tally_total : IsTotalOrder tally_cmp
unfolding tally_cmp
tally_total = then_total key_total (on_total (λ (tally : Tally). tally.file) nat_cmp_total)

-- ---- those of one write id and partition

abbrev pub is_tally : ℕ → List ℕ → Tally → Bool
is_tally write partition tally = (tally.write == write) && pointwise nat_eq tally.partition partition

abbrev pub stored_part : ℕ → List ℕ → Tally → ℕ
stored_part write partition tally = only_if (is_tally write partition tally) tally.stored

abbrev pub due_part : ℕ → List ℕ → Tally → ℕ
due_part write partition tally = only_if (is_tally write partition tally) tally.due

-- ---- the first ones that differ

-- the next one is of another write id or partition, or there is none
abbrev pub ends : Tally → Option Tally → Bool
ends tally None = true
ends tally (Some next) = not (is_tally tally.write tally.partition next)

abbrev pub head_of : List Tally → Option Tally
head_of [] = None
head_of (tally ∷ more) = Some tally

-- The last of the first ones of one write id and partition whose sums differ, where so many rows were counted of those before. Those
-- of one write id and partition stand beside each other.
abbrev pub first_off : ℕ → ℕ → List Tally → Option Tally
first_off stored due [] = None
first_off stored due (tally ∷ more) =
    if ends tally (head_of more) then (if stored + tally.stored == due + tally.due then first_off 0 0 more else Some tally)
    else first_off (stored + tally.stored) (due + tally.due) more
