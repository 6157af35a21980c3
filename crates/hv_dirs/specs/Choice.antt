-- Which directories of a partition a reader takes under its list of write ids.
-- Source: Hive Transactions, base and delta directories; the order of the deltas, and which of them is passed over,
-- are those of Hive's own reader (org.apache.hadoop.hive.ql.io.AcidUtils).
use Rattle.std.specs.Prelude.{if◌then◌else◌, ◌≡◌, ℕ, ◌==◌, nat_lt, max, Bool, true, false, ◌&&◌, Option, Some, None, List, [], ◌∷◌, map, slice_get, option_and_then}
use Rattle.std.specs.declared.cmp.Ordering.{Ordering}
use Rattle.std.specs.Ordering.{nat_cmp, on, then_cmp, flip_args}
use Rattle.std.specs.List.{filter_map, list_any}
use Rattle.hv_wids.specs.WriteIds.{WriteIds, is_valid, is_valid_base, ids_between}
use Rattle.hv_base.specs.Sorting.{sorted_by}
use Rattle.hv_dirs.specs.declared.names.DirName.{DirName}
use Rattle.hv_dirs.specs.declared.names.DirName.TheVariants as dir

-- what a reader's list of write ids says
pub record Sight : Type 0 where
  pub valid : ℕ → Bool
  -- a base of this number may be read
  pub may_base : ℕ → Bool
  -- some id of the range is valid
  pub has_some : ℕ → ℕ → Bool

abbrev pub sight_of : WriteIds → Sight
sight_of list = record {
  valid = is_valid list;
  may_base = is_valid_base list;
  has_some = λ low high. list_any (is_valid list) (ids_between low high);
}

-- a delta or a delete delta: of one statement of a write id, or of all write ids from one to another
pub data Delta : Type 0 where
  Own : ℕ → ℕ → Delta
  Wide : ℕ → ℕ → Delta

abbrev pub low_of : Delta → ℕ
low_of (Own write statement) = write
low_of (Wide low high) = low

abbrev pub high_of : Delta → ℕ
high_of (Own write statement) = write
high_of (Wide low high) = high

abbrev pub is_own : Delta → Bool
is_own (Own write statement) = true
is_own (Wide low high) = false

-- ---- the base: the greatest that may be read, 0 where there is none

abbrev pub base_of : Sight → List ℕ → ℕ
base_of sight [] = 0
base_of sight (base ∷ bases) = if sight.may_base base then max base (base_of sight bases) else base_of sight bases

-- ---- the deltas above the base, in their order: lower id rising, upper id falling, without statement before with
-- one, statement rising

abbrev pub rank_of : Delta → ℕ
rank_of (Own write statement) = 1
rank_of (Wide low high) = 0

abbrev pub statement_of : Delta → ℕ
statement_of (Own write statement) = statement
statement_of (Wide low high) = 0

abbrev pub delta_cmp : Delta → Delta → Ordering
delta_cmp = then_cmp (on low_of nat_cmp) (then_cmp (on high_of (flip_args nat_cmp)) (then_cmp (on rank_of nat_cmp) (on statement_of nat_cmp)))

-- From the left: `top` is the number up to which all was taken, and `own` whether the last one that was taken is of
-- one statement. A delta without a valid id is passed over. One that reaches above the top is taken, and one of the
-- same single id behind one with a statement. All others are passed over.
abbrev pub taken_from : Sight → ℕ → Bool → List Delta → List Delta
taken_from sight top own [] = []
taken_from sight top own (d ∷ ds) =
    if sight.has_some (low_of d) (high_of d)
    then (if nat_lt top (high_of d) then d ∷ taken_from sight (high_of d) (is_own d) ds
    else (if own && (low_of d == top && high_of d == top) then d ∷ taken_from sight top own ds else taken_from sight top own ds))
    else taken_from sight top own ds

unfoldable pub chosen_above : Sight → ℕ → List Delta → List Delta
chosen_above sight base deltas = taken_from sight base false (sorted_by delta_cmp deltas)

-- ---- what names say

abbrev pub base_named : DirName → Option ℕ
base_named (dir.Base high) = Some high.0
base_named (dir.Own kind write statement) = None
base_named (dir.Wide kind low high) = None
base_named (dir.Staged job name) = None

abbrev pub of_kind : Bool → Bool → Delta → Option Delta
of_kind true true d = Some d
of_kind true false d = None
of_kind false true d = None
of_kind false false d = Some d

-- the delta of that name, or with `deletes` the delete delta
abbrev pub delta_named : Bool → DirName → Option Delta
delta_named deletes (dir.Base high) = None
delta_named deletes (dir.Own kind write statement) = of_kind deletes kind (Own write.0 statement)
delta_named deletes (dir.Wide kind low high) = of_kind deletes kind (Wide low.0 high.0)
delta_named deletes (dir.Staged job name) = None

abbrev pub bases_in : List DirName → List ℕ
bases_in dirs = filter_map base_named dirs

abbrev pub deltas_in : Bool → List DirName → List Delta
deltas_in deletes dirs = filter_map (delta_named deletes) dirs

-- ---- a choice by places among the names

abbrev pub base_at : List DirName → ℕ → Option ℕ
base_at dirs place = option_and_then base_named (slice_get dirs place)

abbrev pub delta_at : Bool → List DirName → ℕ → Option Delta
delta_at deletes dirs place = option_and_then (delta_named deletes) (slice_get dirs place)

-- the base of that number stands there, and no place is named for 0
abbrev pub IsBaseAt : List DirName → ℕ → Option ℕ → Type 0
IsBaseAt dirs number None = number ≡ 0
IsBaseAt dirs number (Some place) = base_at dirs place ≡ Some number

-- these stand at these places, in this order
abbrev pub AreAt : Bool → List DirName → List Delta → List ℕ → Type 0
AreAt deletes dirs deltas places = map (delta_at deletes dirs) places ≡ map Some deltas

-- The base, the deltas and the delete deltas that are chosen. Deltas and delete deltas are chosen each by
-- themselves, and staged directories never are.
pub record IsChosen (sight : Sight) (dirs : List DirName) (base_place : Option ℕ) (delta_places delete_places : List ℕ) : Type 0 where
  pub base : IsBaseAt dirs (base_of sight (bases_in dirs)) base_place
  pub deltas : AreAt false dirs (chosen_above sight (base_of sight (bases_in dirs)) (deltas_in false dirs)) delta_places
  pub deletes : AreAt true dirs (chosen_above sight (base_of sight (bases_in dirs)) (deltas_in true dirs)) delete_places
