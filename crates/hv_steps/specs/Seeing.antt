-- What a started statement sees of the tables that it names, each as it stood at its snapshot, at whatever moment it was looked at.
use Rattle.std.specs.Prelude.{◌≡◌, ◌⊎◌, ℕ, ◌≤◌, Bool, false, Option, Some, List, [], ◌∷◌, ◌++◌, length, map, Result, IfOk, IfErr}
use Rattle.std.specs.List.{flat_map, AllByRecursion}
use Rattle.std.specs.Option.{option_map, option_to_list}
use Rattle.hv_base.specs.declared.ids.TxnId.{TxnId}
use Rattle.hv_shelf.specs.Disk.{Store}
use Rattle.hv_locks.specs.declared.table.Lock.{Lock}
use Rattle.hv_ast.specs.declared.statement.Stmt.{Stmt}
use Rattle.hv_logic.specs.Names.{names_in}
use Rattle.hv_logic.specs.declared.meaning.Meaning.{Meaning}
use Rattle.hv_logic.specs.declared.meaning.Meaning.TheVariants.{Change, Ask, Twice}
use Rattle.hv_logic.specs.declared.catalog.TableInfo.{TableInfo}
use Rattle.hv_logic.specs.declared.effect.Found.{Found}
use Rattle.hv_logic.specs.declared.effect.TableRows.{TableRows}
use Rattle.hv_typing.specs.Columns.{columns_of}
use Rattle.hv_meaning.specs.Needs.{Needs, later, KeepMeaning}
use Rattle.hv_effect.specs.Tables.{found_of}
use Rattle.hv_history.specs.declared.entry.Entry.{Entry}
use Rattle.hv_history.specs.declared.entry.Cause.{Cause}
use Rattle.hv_history.specs.declared.entry.Cause.TheVariants as cause
use Rattle.hv_history.specs.declared.state.Table.{Table}
use Rattle.hv_stands.specs.Reading.{table_of_name, named_in}
use Rattle.hv_trail.specs.declared.trail.TrailItem.{TrailItem}
use Rattle.hv_table_reader.specs.hv_acts.specs.hv_telling.specs.hv_house.specs.declared.fault.HouseFault.TheVariants as fault
use Rattle.hv_table_reader.specs.declared.fault.RowFault.{RowFault}
use Rattle.hv_table_reader.specs.declared.fault.RowFault.TheVariants as row_fault
use Rattle.hv_table_reader.specs.Damage.{IsShortDamage}
use Rattle.hv_table_reader.specs.hv_acts.specs.hv_telling.specs.hv_house.specs.Listing.{info_in}
use Rattle.hv_table_reader.specs.hv_acts.specs.hv_telling.specs.Telling.{IsToldHouse}
use Rattle.hv_table_reader.specs.hv_acts.specs.declared.told.ToldHouse.{ToldHouse}
use Rattle.hv_table_reader.specs.hv_acts.specs.Told.{trail_in}
use Rattle.hv_table_reader.specs.hv_acts.specs.Answers.{HasItsMark}
use Rattle.hv_table_reader.specs.hv_acts.specs.Reading.{ReadsTable, state_then}
use Rattle.hv_steps.specs.declared.reply.Outcome.{Outcome}
use Rattle.hv_steps.specs.declared.reply.Outcome.TheVariants as outcome
use Rattle.hv_table_reader.specs.hv_acts.specs.Going.{faults_in, IsOpenHouse, IsShutBetween, IsShutNow, AddsOwn}
use Rattle.hv_table_reader.specs.Tables.{RisesTo}
use Rattle.hv_table_reader.specs.Steady.{IsNamedThen, HasRowsIn}
use Rattle.hv_steps.specs.Phases.{AbortsFor, IsUntoldDamage}
use Rattle.hv_actor.specs.Acting.{Setting, Moment}

-- ---- the tables that it names

-- the tables at a place of the book
abbrev pub tables_then : {D : Type 0} → ToldHouse D → ℕ → List Table
tables_then now place = (state_then (trail_in now) place).tables

-- of these names each one's table, where there is one
abbrev pub infos_then : {D : Type 0} → ToldHouse D → ℕ → List Lock → List TableInfo
infos_then now place locks = map info_in (flat_map (named_in (tables_then now place)) locks)

-- a transaction that locks the name of the table which had this description at the place reads it
pub record IsFound (trail : List TrailItem) (by : TxnId) (place : ℕ) (info : TableInfo) : Type 0 where
  pub reads : ReadsTable trail by place info.table.0
  pub named : IsNamedThen trail place info

abbrev pub AreFound : List TrailItem → TxnId → ℕ → List TableInfo → Type 0
AreFound trail by place infos = AllByRecursion (IsFound trail by place) infos

-- what is found of a name
pub record IsFoundAs (trail : List TrailItem) (by : TxnId) (place : ℕ) (name : List ℕ)
    (found : Option TableInfo) : Type 0 where
  pub info : found ≡ option_map info_in (table_of_name name (state_then trail place).tables)
  pub reads : (one : TableInfo) → found ≡ Some one → IsFound trail by place one

-- one name more
pub record AddsFound (trail : List TrailItem) (by : TxnId) (place : ℕ) (name : List ℕ)
    (before now : List TableInfo) : Type 0 where
  pub first : Option TableInfo
  pub finds : IsFoundAs trail by place name first
  pub now_is : now ≡ before ++ option_to_list first

-- ---- what is read of them

-- nothing, where no partition is wanted
pub record HasNone (wants : List ℕ → Bool) (rows : List Found) : Type 0 where
  pub none : (partition : List ℕ) → wants partition ≡ false
  pub empty : rows ≡ []

-- or the rows that stood in those that are
abbrev pub HasNeeded : List Table → (List ℕ → Bool) → TableInfo → List Found → Type 0
HasNeeded tables wants info rows = HasRowsIn tables wants info rows ⊎ HasNone wants rows

-- of each table, by its place
abbrev pub AreNeeded : List Table → Needs → List TableInfo → List (List Found) → Type 0
AreNeeded tables needs [] [] = Unit {0}
AreNeeded tables needs [] (rows ∷ more) = ⊥
AreNeeded tables needs (info ∷ infos) [] = ⊥
AreNeeded tables needs (info ∷ infos) (rows ∷ more) = HasNeeded tables (needs 0) info rows
    × AreNeeded tables (later needs) infos more

-- as many as there are tables; where the house is told, these rows
pub record AreRead (is_told : Type 0) (tables : List Table) (needs : Needs) (infos : List TableInfo)
    (rows : List TableRows) : Type 0 where
  pub many : length rows ≡ length infos
  pub has : is_told → AreNeeded tables needs infos (found_of rows)

-- one table more
pub record AddsRows (is_told : Type 0) (tables : List Table) (wants : List ℕ → Bool) (info : TableInfo)
    (before now : List TableRows) : Type 0 where
  pub first : TableRows
  pub has : is_told → HasNeeded tables wants info first.rows
  pub now_is : now ≡ before ++ first ∷ []

-- Of all that a statement names: their descriptions, and the rows of the partitions that it needs.
pub record AreSeenAs (is_told : Type 0) (needs : Needs) (tables : List Table) (said : Stmt) (infos : List TableInfo)
    (rows : List TableRows) : Type 0 where
  pub infos_are : infos ≡ map info_in (flat_map (named_in tables) (names_in said))
  pub read : AreRead is_told tables needs infos rows
  pub keeping : KeepMeaning said infos needs

-- ---- what reading leaves

-- A table can't be seen: others have closed the house, or its journal failed; a read failed, which has its mark; memory lacks; or a file is
-- damaged, of a house that isn't told.
abbrev pub IsUnseen : {D : Type 0} → (D → Option Store) → (ToldHouse D → ToldHouse D → Type 0) → TxnId → ToldHouse D
    → RowFault → Type 0
IsUnseen told meanwhile by now (row_fault.Damaged place) =
    IsOpenHouse now × IsShortDamage (row_fault.Damaged place) × (IsToldHouse told now.house → ⊥)
IsUnseen told meanwhile by now (row_fault.House fault.Store) = IsShutBetween meanwhile ⊎ IsShutNow told by.0 now
IsUnseen told meanwhile by now (row_fault.House fault.NoMemory) = IsOpenHouse now
IsUnseen told meanwhile by now (row_fault.House (fault.Failed count)) = IsOpenHouse now
    × HasItsMark (trail_in now) by (cause.ReadFault count)

-- all that is promised of what reads: nothing is noted
pub record Looks {D T : Type 0} (setting : Setting D (ToldHouse D)) (by : TxnId) (before now : Moment (ToldHouse D))
    (result : Result T RowFault) : Type 0 where
  pub adds : AddsOwn setting.faults setting.between by.0 before now []
  pub running : IfOk result (λ _. IsOpenHouse now.house)
  pub unseen : IfErr result (IsUnseen setting.told setting.meanwhile by now.house)
  pub counts : IfErr result (RisesTo (faults_in setting.faults before.house) (faults_in setting.faults now.house))

-- of the names the first ones were looked at, and this is seen of them
pub record SeesUpTo {D : Type 0} (faults : D → ℕ) (between : List TrailItem → Type 0) (by : ℕ)
    (first now : Moment (ToldHouse D)) (Is : Type 0) : Type 0 where
  pub adds : AddsOwn faults between by first now []
  pub running : IsOpenHouse now.house
  pub sees : Is

-- ---- what it means

-- a row file counts the columns of the table that is changed; a partition's text is as long as a legal book's may be
abbrev pub IsNarrow : Meaning → Type 0
IsNarrow (Change info effect) = length (columns_of info.shape) ≤ 65535
IsNarrow (Twice partition row) = length partition ≤ 240
IsNarrow (Ask table partition kind) = length partition ≤ 240
IsNarrow meaning = Unit {0}

-- ---- where it can't be seen

-- it ended: it was aborted for this cause
abbrev pub EndsFor : {D : Type 0} → ℕ → ToldHouse D → Cause → Outcome → List Entry → Type 0
EndsFor txn now why (outcome.Means meaning) added = ⊥
EndsFor txn now why (outcome.Ended found) added = AbortsFor txn now [] (λ of. of ≡ why) found added

-- for a fault by which its tables couldn't be seen
abbrev pub EndsUnseen : {D : Type 0} → (D → Option Store) → ToldHouse D → ℕ → Outcome → List Entry → Type 0
EndsUnseen told now txn (outcome.Means meaning) added = ⊥
EndsUnseen told now txn (outcome.Ended found) added = AbortsFor txn now [] (IsUntoldDamage told now) found added
