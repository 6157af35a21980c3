-- What a store asks of the system, by the paths that it gives. Source: this project's profile.

use Rattle.std.specs.Prelude.{ℕ, List}
use Rattle.hv_paths.specs.Paths.{journal_path, tables_path}

pub data Act : Type 0 where
  MakesFolder : (path : List ℕ) → Act
  SyncsFolder : (path : List ℕ) → Act
  -- a new file of these bytes was made and synced
  Writes : (path bytes : List ℕ) → Act
  Moves : (from to : List ℕ) → Act
  TakesFile : (path : List ℕ) → Act
  TakesFolder : (path : List ℕ) → Act
  -- the bytes of a file were read
  Gives : (path bytes : List ℕ) → Act
  -- these bytes were written into the journal that is held
  WritesJournal : (at : ℕ) (bytes : List ℕ) → Act
  -- when so many changes had been made, what the store holds was found at its path
  Finds : (changes : ℕ) (path : List ℕ) → Act

-- What was done stays done.
abbrev pub Keeps : (before now : Act → Type 0) → Type 0
Keeps before now = (act : Act) → before act → now act

-- A file was put: written beside its place, moved there, and its folder synced.
pub record Puts (did : Act → Type 0) (working file folder bytes : List ℕ) : Type 0 where
  pub writes : did (Writes working bytes)
  pub moves : did (Moves working file)
  pub syncs : did (SyncsFolder folder)

-- When so many changes had been made, the folder, its journal and its tables were found to be those that
-- the store holds.
pub record Stands (changes : ℕ) (did : Act → Type 0) (folder : List ℕ) : Type 0 where
  pub in_place : did (Finds changes folder)
  pub journal : did (Finds changes (journal_path folder))
  pub tables : did (Finds changes (tables_path folder))
