-- Which partitions of its tables a statement needs: without the rows of the others it comes to the same.
use Rattle.std.specs.Prelude.{◌≡◌, ℕ, suc, Bool, List, [], ◌∷◌, length, map, filter, drop}
use Rattle.std.specs.List.{AllByRecursion}
use Rattle.hv_ast.specs.declared.statement.Stmt.{Stmt}
use Rattle.hv_typing.specs.hv_logic.specs.declared.catalog.TableInfo.{TableInfo}
use Rattle.hv_typing.specs.hv_logic.specs.declared.effect.Found.{Found}
use Rattle.hv_typing.specs.hv_logic.specs.declared.seen.Seen.{Seen}
use Rattle.hv_route.specs.Partitions.{partition_values}
use Rattle.hv_typing.specs.Columns.{columns_of}
use Rattle.hv_meaning.specs.Meaning.{info_of, found_in, meaning_over, meaning_in}

-- of each table that the statement names, by its place: whether the rows of the partition of that text are wanted
abbrev pub Needs : Type 0
Needs = ℕ → List ℕ → Bool

abbrev pub later : Needs → Needs
later needs place = needs (suc place)

-- ---- the rows that are wanted

abbrev pub rows_wanted : (List ℕ → Bool) → List Found → List Found
rows_wanted wants rows = filter (λ (found : Found). wants found.partition) rows

abbrev pub all_wanted : Needs → List (List Found) → List (List Found)
all_wanted needs [] = []
all_wanted needs (rows ∷ more) = rows_wanted (needs 0) rows ∷ all_wanted (later needs) more

abbrev pub narrow : (List ℕ → Bool) → Seen → Seen
narrow wants seen = record { info = seen.info; rows = rows_wanted wants seen.rows }

abbrev pub narrowed : Needs → List Seen → List Seen
narrowed needs [] = []
narrowed needs (seen ∷ more) = narrow (needs 0) seen ∷ narrowed (later needs) more

-- ---- rows as a partition has them

-- a value for each column, and behind those of the table's own columns what the partition's text says
pub record IsSaid (info : TableInfo) (found : Found) : Type 0 where
  pub wide : length found.row.values ≡ length (columns_of info.shape)
  pub parts : drop (length info.shape.columns) found.row.values ≡ partition_values info.shape.parts found.partition

abbrev pub AreSaid : List TableInfo → List (List Found) → Type 0
AreSaid [] [] = Unit {0}
AreSaid [] (rows ∷ more) = ⊥
AreSaid (info ∷ infos) [] = ⊥
AreSaid (info ∷ infos) (rows ∷ more) = AllByRecursion (IsSaid info) rows × AreSaid infos more

-- over tables of these descriptions the statement comes to the same without the rows that aren't wanted
abbrev pub KeepMeaning : Stmt → List TableInfo → Needs → Type 0
KeepMeaning tree infos needs =
    (found : List (List Found)) → AreSaid infos found
    → meaning_over tree infos (all_wanted needs found) ≡ meaning_over tree infos found

-- so nobody need read the others
abbrev pub NarrowRowsAreEnough : Type 0
NarrowRowsAreEnough =
    (tree : Stmt) (tables : List Seen) (needs : Needs) → AreSaid (map info_of tables) (map found_in tables)
    → KeepMeaning tree (map info_of tables) needs → meaning_in tree (narrowed needs tables) ≡ meaning_in tree tables
