-- Which writes to a table a reader sees, as Hive's snapshots say it (Hive Transactions;
-- Camacho-Rodríguez et al., SIGMOD 2019): those up to a high watermark, with exceptions.
use Rattle.std.specs.Prelude.{ℕ, ◌-◌, ◌≤◌, Bool, List, map, IsTrue, not, ◌&&◌, nat_le, suc, if◌then◌else◌}
use Rattle.std.specs.List.{list_any, list_all, range_with_len, All as AllOf}
use Rattle.std.specs.List.Sorted.{IsStrictlyIncreasing}
use Rattle.hv_base.specs.declared.ids.WriteId.{WriteId}
use Rattle.hv_wids.specs.Between.{has}
use Rattle.hv_wids.specs.declared.list.Exception.{Exception}
use Rattle.hv_wids.specs.declared.list.Range.{Range}
use Rattle.hv_wids.specs.declared.list.Range.TheVariants.{All, Zero, Part}

-- the highest id that was given, and the ids up to it whose transaction was open or aborted
pub record WriteIds : Type 0 where
  pub high : WriteId
  pub exceptions : List Exception

abbrev pub ids_of : List Exception → List ℕ
ids_of exceptions = map (λ exception. exception.write.0) exceptions

-- the exceptions rise, and none is above the high watermark
pub record IsInOrder (list : WriteIds) : Type 0 where
  pub rises : IsStrictlyIncreasing (ids_of list.exceptions)
  pub within : AllOf (λ exception. exception.write.0 ≤ list.high.0) list.exceptions

abbrev pub is_exception : WriteIds → ℕ → Bool
is_exception list write = has (ids_of list.exceptions) write

-- the write was given, and is no exception
abbrev pub is_valid : WriteIds → ℕ → Bool
is_valid list write = nat_le write list.high.0 && not (is_exception list write)

abbrev pub IsValid : WriteIds → ℕ → Type 0
IsValid list write = IsTrue (is_valid list write)

-- the ids of a range
abbrev pub ids_between : ℕ → ℕ → List ℕ
ids_between low high = range_with_len low (suc high - low)

-- whether every write of a range is valid, none, or some
unfoldable pub range_of : WriteIds → ℕ → ℕ → Range
range_of list low high =
    if list_all (is_valid list) (ids_between low high) then All
    else (if list_any (is_valid list) (ids_between low high) then Part else Zero)

-- the same, said of each write
abbrev pub IsRangeOf : WriteIds → ℕ → ℕ → Range → Type 0
IsRangeOf list low high All = (write : ℕ) → low ≤ write → write ≤ high → IsValid list write
IsRangeOf list low high Zero = (write : ℕ) → low ≤ write → write ≤ high → ¬ (IsValid list write)
IsRangeOf list low high Part =
    ((write : ℕ) × ((low ≤ write) × (write ≤ high) × IsValid list write))
    × ((write : ℕ) × ((low ≤ write) × (write ≤ high) × ¬ (IsValid list write)))

-- the exception was open
abbrev pub is_open_by : ℕ → Exception → Bool
is_open_by high exception = nat_le exception.write.0 high && not exception.aborted

-- a base that holds all writes up to one may be read: that write was given, and none up to it
-- was open
abbrev pub is_valid_base : WriteIds → ℕ → Bool
is_valid_base list high =
    nat_le high list.high.0 && not (list_any (is_open_by high) list.exceptions)

abbrev pub IsValidBase : WriteIds → ℕ → Type 0
IsValidBase list high = IsTrue (is_valid_base list high)
