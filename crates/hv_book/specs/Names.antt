-- The live tables in the order of their names.
use Rattle.std.specs.Prelude.{◌≡◌, ℕ, ◌==◌, Bool, true, false, IsTrue, IsFalse, Option, Some, None, List, [], ◌∷◌, filter}
use Rattle.std.specs.List.{insert, list_any, AllByRecursion}
use Rattle.std.specs.List.Sorted.{IsPartitionPoint}
use Rattle.std.specs.Ordering.{nat_cmp, is_lt, is_gt}
use Rattle.std.specs.Cmp.Lexicographic.{slice_cmp}
use Rattle.hv_history.specs.declared.entry.Entry.{Entry}
use Rattle.hv_history.specs.declared.entry.Entry.TheVariants as entry
use Rattle.hv_history.specs.declared.state.Table.{Table}
use Rattle.hv_history.specs.State.{State, numbered, made_shape}
use Rattle.hv_book.specs.Notes.{other_than}

-- the name of a table that is there
abbrev pub name_in : Option Table → List ℕ
name_in None = []
name_in (Some table) = table.info.shape.name

abbrev pub name_at : List Table → ℕ → List ℕ
name_at tables number = name_in (numbered tables number)

-- the table is there and live
abbrev pub live_in : Option Table → Bool
live_in None = false
live_in (Some table) = table.is_live

abbrev pub is_live_at : List Table → ℕ → Bool
is_live_at tables number = live_in (numbered tables number)

abbrev pub is_below : List ℕ → List ℕ → Bool
is_below name other = is_lt (slice_cmp nat_cmp name other)

abbrev pub is_above : List ℕ → List ℕ → Bool
is_above name other = is_gt (slice_cmp nat_cmp name other)

-- no name comes behind a higher one
abbrev pub NamesRise : List Table → List ℕ → Type 0
NamesRise tables [] = Unit {0}
NamesRise tables (number ∷ numbers) =
    AllByRecursion (λ other. IsFalse (is_above (name_at tables number) (name_at tables other))) numbers × NamesRise tables numbers

abbrev pub is_among : ℕ → List ℕ → Bool
is_among number numbers = list_any (λ other. other == number) numbers

-- these are the numbers of the live tables, by name
pub record IsNamed (tables : List Table) (numbers : List ℕ) : Type 0 where
  pub live : AllByRecursion (λ number. IsTrue (is_live_at tables number)) numbers
  pub all : (number : ℕ) → IsTrue (is_live_at tables number) → IsTrue (is_among number numbers)
  pub rise : NamesRise tables numbers

-- so many of these have names below that one
abbrev pub IsNamePoint : List Table → List ℕ → List ℕ → ℕ → Type 0
IsNamePoint tables name =
    IsPartitionPoint (λ number. is_below (name_at tables number) name ≡ true) (λ number. is_below (name_at tables number) name ≡ false)

-- a table that the entry makes comes there among these
abbrev pub IsNamePlace : State → List ℕ → Entry → ℕ → Type 0
IsNamePlace state numbers (entry.Create txn table) at = IsNamePoint state.tables (made_shape (numbered state.transactions txn.0)).name numbers at
IsNamePlace state numbers _ at = Unit {0}

-- the numbers behind an entry, where a table that it makes has the next number and comes there
abbrev pub names_behind : ℕ → ℕ → Entry → List ℕ → List ℕ
names_behind at next (entry.Create txn table) numbers = insert numbers at next
names_behind at next (entry.Drop txn table) numbers = filter (other_than table.0) numbers
names_behind at next _ numbers = numbers
