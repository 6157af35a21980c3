-- The directories of a partition, a change of some of them, and which of them may be taken away.
-- Source: Hive Transactions, base and delta directories, compactor, and cleaner.
use Rattle.std.specs.Prelude.{◌≡◌, ◌≢◌, ◌⊎◌, ◌↔◌, ℕ, ◌<◌, ◌≤◌, List}
use Rattle.hv_base.specs.declared.ids.RowId.{RowId}
use Rattle.hv_wids.specs.WriteIds.{WriteIds}
use Rattle.hv_dirs.specs.Choice.{Sight, sight_of, Delta, Own, Wide, low_of, high_of}
use Rattle.hv_law_visible.specs.Members.{IsIn}
use Rattle.hv_law_visible.specs.History.{Write, Compaction, Minor, Major, inserts_in, deletes_in, rows_in, IsMade, IsMadeBase}
use Rattle.hv_law_visible.specs.Visible.{Tree, base_chosen, deltas_chosen, deletes_chosen}
use Rattle.hv_law_visible.specs.Stands.{IsLoose, IsLooseBase}
use Rattle.hv_law_visible.specs.Snapshots.{list_at}
use Rattle.hv_law_visible.specs.Readers.{IsPast}
use Rattle.hv_law_published.specs.State.{State, IsOpenList}

pub data Directory : Type 0 where
  BaseDir : ℕ → Directory
  DeltaDir : Delta → Directory
  DeleteDir : Delta → Directory

abbrev pub StandsIn : {Found : Type 0} → Tree Found → Directory → Type 0
StandsIn tree (BaseDir base) = IsIn base tree.bases
StandsIn tree (DeltaDir d) = IsIn d tree.deltas
StandsIn tree (DeleteDir d) = IsIn d tree.delete_deltas

abbrev pub IsChosenIn : {Found : Type 0} → Sight → Tree Found → Directory → Type 0
IsChosenIn sight tree (BaseDir base) = base_chosen sight tree ≡ base
IsChosenIn sight tree (DeltaDir d) = IsIn d (deltas_chosen sight tree)
IsChosenIn sight tree (DeleteDir d) = IsIn d (deletes_chosen sight tree)

-- ---- a change

-- directories of one kind change at these names alone
pub record ChangesAt {Name Record : Type 0} (at : Name → Type 0) (names now : List Name) (files then : Name → List Record) : Type 0 where
  pub stay : (d : Name) → (at d → ⊥) → IsIn d names → IsIn d now
  pub only : (d : Name) → (at d → ⊥) → IsIn d now → IsIn d names
  pub same : (d : Name) → (at d → ⊥) → then d ≡ files d

pub record ChangesTree {Found : Type 0} (at : Directory → Type 0) (tree now : Tree Found) : Type 0 where
  pub bases : ChangesAt (λ base. at (BaseDir base)) tree.bases now.bases tree.rows now.rows
  pub deltas : ChangesAt (λ d. at (DeltaDir d)) tree.deltas now.deltas tree.inserts now.inserts
  pub delete_deltas : ChangesAt (λ d. at (DeleteDir d)) tree.delete_deltas now.delete_deltas tree.deletes now.deletes

-- A directory goes, or some of its files do. What is left in it may be anything: of what may be gone nothing is read.
pub record Loses {Found : Type 0} (dir : Directory) (tree now : Tree Found) : Type 0 where
  pub changes : ChangesTree (λ other. other ≡ dir) tree now
  pub stood : StandsIn now dir → StandsIn tree dir

-- ---- just its records

-- A delta has just these records; where there are none, it doesn't stand.
pub record HasJust {Record : Type 0} (d : Delta) (names : List Delta) (files : Delta → List Record) (records : List Record) : Type 0 where
  pub each : (r : Record) → IsIn r records → IsIn d names × IsIn r (files d)
  pub only : IsIn d names → ((r : Record) × IsIn r records) × ((r : Record) → IsIn r (files d) → IsIn r records)

-- the own directories of a write id hold just what its writes in the partition say
pub record HasOwn {Found : Type 0} (id : ℕ) (more : List (Write Found)) (tree : Tree Found) : Type 0 where
  pub deltas : (statement : ℕ) → HasJust (Own id statement) tree.deltas tree.inserts (inserts_in more (Own id statement))
  pub delete_deltas : (statement : ℕ) → HasJust (Own id statement) tree.delete_deltas tree.deletes (deletes_in more (Own id statement))

abbrev pub IsOwnOf : ℕ → Directory → Type 0
IsOwnOf id (BaseDir base) = ⊥
IsOwnOf id (DeltaDir (Own write statement)) = write ≡ id
IsOwnOf id (DeltaDir (Wide first last)) = ⊥
IsOwnOf id (DeleteDir (Own write statement)) = write ≡ id
IsOwnOf id (DeleteDir (Wide first last)) = ⊥

-- the directories that a compaction makes
abbrev pub IsMadeBy : Compaction → Directory → Type 0
IsMadeBy (Minor first last mark) (BaseDir base) = ⊥
IsMadeBy (Minor first last mark) (DeltaDir d) = d ≡ Wide first last
IsMadeBy (Minor first last mark) (DeleteDir d) = d ≡ Wide first last
IsMadeBy (Major last mark) (BaseDir base) = base ≡ last
IsMadeBy (Major last mark) (DeltaDir d) = ⊥
IsMadeBy (Major last mark) (DeleteDir d) = ⊥

-- They hold just its records: a wide delta and a wide delete delta each where it has some, a base in any case.
abbrev pub HasMade : {Found : Type 0} → (Found → RowId) → List (Write Found) → Compaction → Tree Found → Type 0
HasMade id_of writes (Minor first last mark) tree =
    HasJust (Wide first last) tree.deltas tree.inserts (inserts_in writes (Wide first last))
    × HasJust (Wide first last) tree.delete_deltas tree.deletes (deletes_in writes (Wide first last))
HasMade id_of writes (Major last mark) tree =
    IsIn last tree.bases × ((found : _) → IsIn found (tree.rows last) ↔ IsIn found (rows_in id_of writes last))

-- ---- what may be taken away

-- the book makes it: a base, or a delta that has a record
abbrev pub IsMadeDir : {Found : Type 0} → State Found → Directory → Type 0
IsMadeDir state (BaseDir base) = IsMadeBase state.jobs base
IsMadeDir {Found} state (DeltaDir d) = IsMade state.jobs d × ((found : Found) × IsIn found (inserts_in state.writes d))
IsMadeDir state (DeleteDir d) = IsMade state.jobs d × ((deleted : RowId × ℕ) × IsIn deleted (deletes_in state.writes d))

-- loose: a published compaction covers it, below whose mark no transaction is open
abbrev pub IsLooseDir : {Found : Type 0} → State Found → Directory → Type 0
IsLooseDir state (BaseDir base) = IsLooseBase (IsPast state.open_txns) state.jobs base
IsLooseDir state (DeltaDir d) = IsLoose (IsPast state.open_txns) state.jobs d
IsLooseDir state (DeleteDir d) = IsLoose (IsPast state.open_txns) state.jobs d

-- another one that is chosen covers its range: a base what ends at or below it, a delta one of its kind within its own
abbrev pub IsWithin : List Delta → Delta → Type 0
IsWithin chosen d = (c : Delta) × IsIn c chosen × (c ≢ d) × (low_of c ≤ low_of d) × (high_of d ≤ high_of c)

abbrev pub IsUnderBase : ℕ → Delta → Type 0
IsUnderBase base d = (1 ≤ base) × (high_of d ≤ base)

abbrev pub IsCoveredIn : {Found : Type 0} → Sight → Tree Found → Directory → Type 0
IsCoveredIn sight tree (BaseDir base) = base < base_chosen sight tree
IsCoveredIn sight tree (DeltaDir d) = IsUnderBase (base_chosen sight tree) d ⊎ IsWithin (deltas_chosen sight tree) d
IsCoveredIn sight tree (DeleteDir d) = IsUnderBase (base_chosen sight tree) d ⊎ IsWithin (deletes_chosen sight tree) d

-- retired: no open list chooses it, and under that of the end of the book another one that is chosen covers its range
pub record IsRetired {Found : Type 0} (state : State Found) (dir : Directory) : Type 0 where
  pub unchosen : (list : WriteIds) → IsOpenList state list → IsChosenIn (sight_of list) state.tree dir → ⊥
  pub covered : IsCoveredIn (sight_of (list_at state.fates)) state.tree dir
