-- Which files tables have, kept beside a store: for a table a tree with the same files, whose bytes
-- are nobody's matter. Source: this project's profile.

use Rattle.std.specs.Prelude.{◌≡◌, ℕ, Bool, List, map, filter, Option, Some, None, false, true, cond, ◌==◌}
use Rattle.std.specs.Ordering.{nat_cmp, eq_by_cmp}
use Rattle.std.specs.List.{list_any}
use Rattle.std.specs.BTreeMap.{BTreeMap, get}
use Rattle.std.specs.FinMap as tree
use Rattle.hv_base.specs.Told.{Tells}
use Rattle.hv_shelf.specs.declared.place.Place.{Place}
use Rattle.hv_shelf.specs.declared.place.DirAt.{DirAt}
use Rattle.hv_shelf.specs.Disk.{Tree, Store}
use Rattle.hv_shelf.specs.Places.{place_cmp, is_in, place_named, dir_named}

-- whether this place is one of these
abbrev pub is_among : List Place → Place → Bool
is_among places place = list_any (eq_by_cmp place_cmp place) places

-- where the files of the directory `from` among these stand under its other name
abbrev pub moved_places : DirAt → List ℕ → List Place → List Place
moved_places from to places = map (λ place. place_named place to) (filter (is_in from) places)

-- The directory's files, and no other, stand under its other name, where none stood before.
pub record HasMoved (from : DirAt) (to : List ℕ) (before now : Tree) : Type 0 where
  pub free : (place : Place) → is_in (dir_named from to) place ≡ true → tree.contains_key before place ≡ false
  pub moved : (place : Place) → tree.contains_key now place
      ≡ cond (is_in (dir_named from to) place) (tree.contains_key before (place_named place from.dir))
      (cond (is_in from place) false (tree.contains_key before place))

-- both trees have the same files of this table
pub record HaveSame (table : ℕ) (names files : Tree) : Type 0 where
  pub same : (place : Place) → (place.table.0 == table) ≡ true →
      tree.contains_key names place ≡ tree.contains_key files place

-- what is kept of this table are its files, where the store tells them
abbrev pub Knows : Option Store → ℕ → Option Store → Type 0
Knows told table None = Unit {0}
Knows told table (Some names) = Tells told (λ s. HaveSame table names.tree s.tree)

-- all that is kept is so
abbrev pub AreKnown : Option Store → BTreeMap ℕ Store → Type 0
AreKnown told kept = (table : ℕ) → Knows told table (get nat_cmp kept table)

-- The files of the other tables stayed.
pub record IsWithin (table : ℕ) (before now : Store) : Type 0 where
  pub others : (place : Place) → (place.table.0 == table) ≡ false →
      tree.get now.tree place ≡ tree.get before.tree place
