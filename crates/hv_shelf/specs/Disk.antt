-- What a store holds, and what each call that changes it leaves: when it succeeds, and what a
-- failure may leave. Source: this project's profile.

use Rattle.std.specs.Prelude.{◌≡◌, ℕ, ◌+◌, ◌≤◌, ◌⊎◌, max, List, ◌++◌, length, take, drop, filter, Bool, true, false, not, Option, None, cond, refl, All}
use Rattle.std.specs.List.Sorted.{IsStrictlySortedBy}
use Rattle.std.specs.FinMap as tree
use Rattle.std.specs.Coded.{Coded, code_by, coded×, coded_ℕ, coded_list}
use Rattle.hv_base.specs.declared.ids.TableId.{TableId}
use Rattle.hv_base.specs.Source.{GivesNext}
use Rattle.hv_shelf.specs.declared.place.Place.{Place}
use Rattle.hv_shelf.specs.declared.place.DirAt.{DirAt}
use Rattle.hv_shelf.specs.Places.{place_cmp, place_code, is_in, is_of, place_named, dir_named}

-- A tree of files: a finite map from places to bytes.
abbrev pub Tree : Type 0
Tree = tree.FinMap place_cmp (List ℕ)

-- The tree, and the bytes of the journal.
pub record Store : Type 0 where
  pub tree : Tree
  pub journal : List ℕ

abbrev pub store_code : Coded Store
store_code =
    code_by (Tree × List ℕ)
    (coded× (tree.code place_code (coded_list coded_ℕ)) (coded_list coded_ℕ))
    (λ s. (s.tree, s.journal)) (λ p. record { tree = p.0; journal = p.1 }) (λ s. refl)

-- ## Reading

-- the places of one table, rising
abbrev pub places_of : TableId → Tree → List Place
places_of table files = filter (is_of table) (tree.keys files)

-- these places are of the table, and rise
pub record IsListing (table : TableId) (places : List Place) : Type 0 where
  pub of : All (λ place. place.table ≡ table) places
  pub rising : IsStrictlySortedBy place_cmp places

-- A read of the journal into this buffer answered `count`: so many bytes from `at` on went into the
-- front of the buffer, at least one where both have one.
abbrev pub ReadsAt : (at count : ℕ) (buffer journal : List ℕ) → Type 0
ReadsAt at count buffer journal =
    GivesNext count buffer (drop at journal) (drop (at + count) journal)

-- ## What a call that succeeds leaves

-- One file was created or replaced.
pub record HasFile (place : Place) (bytes : List ℕ) (before now : Store) : Type 0 where
  pub tree_is : now.tree ≡ tree.insert before.tree place bytes
  pub journal_is : now.journal ≡ before.journal

-- All files of a directory were taken away.
pub record IsRemoved (dir : DirAt) (before now : Store) : Type 0 where
  pub tree_is : now.tree ≡ tree.retain_keys before.tree (λ place. not (is_in dir place))
  pub journal_is : now.journal ≡ before.journal

-- The directory has no file.
abbrev pub IsFree : DirAt → Tree → Type 0
IsFree dir files = (place : Place) → is_in dir place ≡ true → tree.get files place ≡ None

-- what stands at a place after all files of `from` were given the directory's name `to`
abbrev pub renamed_get : DirAt → List ℕ → Tree → Place → Option (List ℕ)
renamed_get from to files place =
    cond (is_in (dir_named from to) place) (tree.get files (place_named place from.dir))
    (cond (is_in from place) None (tree.get files place))

-- All files of the directory `from` stand under the name `to` in the same partition. Where a file
-- stood under `to` before, nothing is said of the files under either name.
pub record IsRenamed (from : DirAt) (to : List ℕ) (before now : Store) : Type 0 where
  pub moved : IsFree (dir_named from to) before.tree → (place : Place) →
      tree.get now.tree place ≡ renamed_get from to before.tree place
  pub others : (place : Place) →
      is_in from place ≡ false → is_in (dir_named from to) place ≡ false →
      tree.get now.tree place ≡ tree.get before.tree place
  pub journal_is : now.journal ≡ before.journal

-- These bytes were written into the journal from `at` on, over what stood there and past its end.
pub record HasWritten (at : ℕ) (bytes : List ℕ) (before now : Store) : Type 0 where
  pub journal_is : now.journal
      ≡ take at before.journal ++ bytes ++ drop (at + length bytes) before.journal
  pub tree_is : now.tree ≡ before.tree

-- ## What a failed call may leave: first of all, nothing changed

-- The file has other bytes, or isn't there.
pub record BreaksFile (place : Place) (before now : Store) : Type 0 where
  pub found : Option (List ℕ)
  pub here : tree.get now.tree place ≡ found
  pub others : (other : Place) → ¬ (other ≡ place) →
      tree.get now.tree other ≡ tree.get before.tree other
  pub journal_is : now.journal ≡ before.journal

abbrev pub TornFile : Place → Store → Store → Type 0
TornFile place before now = (now ≡ before) ⊎ BreaksFile place before now

-- Some files of the directory were taken away.
pub record RemovesSome (dir : DirAt) (before now : Store) : Type 0 where
  pub keeps : Place → Bool
  pub others : (place : Place) → is_in dir place ≡ false → keeps place ≡ true
  pub tree_is : now.tree ≡ tree.retain_keys before.tree keeps
  pub journal_is : now.journal ≡ before.journal

abbrev pub TornRemove : DirAt → Store → Store → Type 0
TornRemove dir before now = (now ≡ before) ⊎ RemovesSome dir before now

-- A rename is done whole or not at all.
abbrev pub TornRename : DirAt → List ℕ → Store → Store → Type 0
TornRename from to before now = (now ≡ before) ⊎ IsRenamed from to before now

-- Bytes of the range written, and past the old end, may be anything. The journal isn't shorter, and
-- ends at the latest where the range ends.
pub record BreaksJournal (at count : ℕ) (before now : Store) : Type 0 where
  pub front : take at now.journal ≡ take at before.journal
  pub behind : drop (at + count) now.journal ≡ drop (at + count) before.journal
  pub least : length before.journal ≤ length now.journal
  pub most : length now.journal ≤ max (length before.journal) (at + count)
  pub tree_is : now.tree ≡ before.tree

abbrev pub TornWrite : (at count : ℕ) → Store → Store → Type 0
TornWrite at count before now = (now ≡ before) ⊎ BreaksJournal at count before now
