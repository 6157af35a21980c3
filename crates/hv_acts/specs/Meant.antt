-- What the statement of a transaction means, whatever others add behind it; and what is true of what acts add to a told house.
-- Source: Hive Transactions; that marks say which files were put is this project's profile.
use Rattle.std.specs.Prelude.{◌≡◌, ◌⊎◌, ℕ, ◌≤◌, ◌<◌, Some, List, [], ◌∷◌, length, take, map, Contains}
use Rattle.std.specs.List.{AllByRecursion}
use Rattle.hv_base.specs.Refusals as refusals
use Rattle.hv_base.specs.declared.refusal.Refusal.{Refusal}
use Rattle.hv_base.specs.declared.ids.TxnId.{TxnId}
use Rattle.hv_base.specs.declared.ids.TableId.{TableId}
use Rattle.hv_base.specs.declared.ids.Touch.{Touch}
use Rattle.hv_shelf.specs.declared.place.Place.{Place}
use Rattle.hv_ast.specs.declared.statement.Stmt.{Stmt}
use Rattle.hv_logic.specs.declared.catalog.Shape.{Shape}
use Rattle.hv_logic.specs.declared.catalog.TableInfo.{TableInfo}
use Rattle.hv_logic.specs.declared.effect.Effect.{Effect}
use Rattle.hv_logic.specs.declared.meaning.Meaning.{Meaning}
use Rattle.hv_logic.specs.declared.meaning.Meaning.TheVariants.{Change, Make, Unmake, Refused, Twice, RowLimit, PartitionLimit}
use Rattle.hv_route.specs.Back.{AreHeld}
use Rattle.hv_route.specs.Routes.{files_of}
use Rattle.hv_route.specs.Touching.{touches_of}
use Rattle.hv_route.specs.declared.files.OutFile.{OutFile}
use Rattle.hv_book.specs.Briefs.{given_at}
use Rattle.hv_history.specs.declared.entry.Entry.{Entry}
use Rattle.hv_history.specs.declared.entry.Entry.TheVariants as entry
use Rattle.hv_history.specs.declared.entry.Cause.{Cause}
use Rattle.hv_history.specs.declared.entry.Cause.TheVariants as cause
use Rattle.hv_history.specs.State.{numbered}
use Rattle.hv_history.specs.Lasting.{IsFront}
use Rattle.hv_history.specs.Legal.{Of, IsRunning, IsWaiting, IsTruthful, TouchesAreMeant}
use Rattle.hv_stands.specs.Files.{place_of_file}
use Rattle.hv_stands.specs.Laws.{HasFile, changes_in}
use Rattle.hv_stands.specs.Running.{Asking, meant, IsUnderWay}
use Rattle.hv_trail.specs.declared.trail.TrailItem.{TrailItem}
use Rattle.hv_trail.specs.Trail.{book_of, state_at}
use Rattle.hv_acts.specs.Passing.{HasAskedAll}

-- ---- what it means

-- its statement is under way with these write ids, and means this
pub record MeansNow (trail : List TrailItem) (txn : TxnId) (given : List (ℕ × ℕ)) (means : Meaning) : Type 0 where
  pub asking : Asking
  pub place : ℕ
  pub said : Stmt
  pub under_way : IsUnderWay (book_of trail) asking txn.0 place said given
  pub means_it : meant (take place (book_of trail)) said ≡ Some means

-- that was so at a front of the trail
pub record HasMeant (trail : List TrailItem) (txn : TxnId) (given : List (ℕ × ℕ)) (means : Meaning) : Type 0 where
  pub then_ : List TrailItem
  pub front : IsFront then_ trail
  pub was : MeansNow then_ txn given means

-- What others might have changed, and is tested in the hold: so many write ids it has at most, while it is open.
abbrev pub HasAtMost : List TrailItem → TxnId → ℕ → Type 0
HasAtMost trail txn most = length (given_at (numbered (state_at trail).transactions txn.0)) ≤ most

-- it has started and has not ended, and has so many
abbrev pub RunsWith : List TrailItem → TxnId → ℕ → Type 0
RunsWith trail txn most = Of (state_at trail) txn.0 IsRunning × HasAtMost trail txn most

-- what a Start rests on: its transaction has not started and has not ended
abbrev pub RestsOnStart : List TrailItem → TxnId → Type 0
RestsOnStart trail txn = Of (state_at trail) txn.0 IsWaiting

-- ---- what is true of what is added

-- where these files stand, under a write id of that table
abbrev pub places_of_files : ℕ → ℕ → List OutFile → List Place
places_of_files table write files = map (place_of_file table write) files

-- the file is one of the change that its statement means, at its place under its write id
pub record IsFileMeant (trail : List TrailItem) (by : TxnId) (place : Place) (file : OutFile) : Type 0 where
  pub info : TableInfo
  pub effect : Effect
  pub write : ℕ
  pub change : HasMeant trail by ((info.table.0, write) ∷ []) (Change info effect)
  pub is_one : Contains (files_of info.shape write 0 effect) file
  pub place_is : place ≡ place_of_file info.table.0 write file

-- its statement means that nothing is touched, it had no write id, and has asked for each abort that its text lists
pub record TouchesNothing (trail : List TrailItem) (txn : TxnId) (wrote : List Touch) : Type 0 where
  pub means : Meaning
  pub meant_it : HasMeant trail txn [] means
  pub touches : TouchesAreMeant wrote (Some means)
  pub none : wrote ≡ []
  pub asked : HasAskedAll trail txn meant_it.was.place meant_it.was.said means

-- its statement means a change of rows in that table, and it had no write id
pub record IsIdDue (trail : List TrailItem) (txn : TxnId) (table : TableId) : Type 0 where
  pub info : TableInfo
  pub effect : Effect
  pub change : HasMeant trail txn [] (Change info effect)
  pub of_table : table ≡ info.table
  pub some : 0 < changes_in effect

-- its statement means a change with these touches, whose files are those at these places, and can be read again
pub record IsChangeDue (trail : List TrailItem) (txn : TxnId) (wrote : List Touch) (places : List Place) : Type 0 where
  pub info : TableInfo
  pub effect : Effect
  pub write : ℕ
  pub change : HasMeant trail txn ((info.table.0, write) ∷ []) (Change info effect)
  pub touches : wrote ≡ touches_of info effect
  pub places_are : places ≡ places_of_files info.table.0 write (files_of info.shape write 0 effect)
  pub held : AreHeld effect.inserts
  pub encoded : AllByRecursion HasFile (files_of info.shape write 0 effect)

abbrev pub IsCommitDue : List TrailItem → TxnId → List Touch → List Place → Type 0
IsCommitDue trail txn wrote places = TouchesNothing trail txn wrote ⊎ IsChangeDue trail txn wrote places

-- its statement makes a table, and it had no write id
pub record IsMakeMeant (trail : List TrailItem) (txn : TxnId) : Type 0 where
  pub shape : Shape
  pub make : HasMeant trail txn [] (Make shape)

-- its statement drops this table, and it had no write id
abbrev pub IsDropMeant : List TrailItem → TxnId → TableId → Type 0
IsDropMeant trail txn table = HasMeant trail txn [] (Unmake table)

-- Its statement means what the abort says, whatever others add: so it is true wherever it fits. An abort for want of room, for a lock or for
-- a conflict is tested in one hold, and isn't asked for.
abbrev pub IsAbortDue : List TrailItem → TxnId → Cause → Type 0
IsAbortDue trail txn (cause.Refused number) = (why : Refusal) × (number ≡ refusals.number why)
    × HasMeant trail txn [] (Refused why)
IsAbortDue trail txn (cause.Twice partition row) = HasMeant trail txn [] (Twice partition row)
IsAbortDue trail txn cause.RowLimit = HasMeant trail txn [] RowLimit
IsAbortDue trail txn cause.PartitionLimit = HasMeant trail txn [] PartitionLimit
IsAbortDue trail txn cause.Memory = Unit {0}
IsAbortDue trail txn (cause.ReadFault count) = Unit {0}
IsAbortDue trail txn (cause.WriteFault count) = Unit {0}
IsAbortDue trail txn (cause.Damaged place) = Unit {0}
IsAbortDue trail txn why = ⊥

-- the cause is what came of its statement, over the book of this trail
abbrev pub IsCauseTrue : List TrailItem → TxnId → Cause → Type 0
IsCauseTrue trail txn why = IsTruthful (state_at trail) (entry.Abort txn why)

-- ---- what doesn't end the transaction that adds it: at most it asks for the end of another one

abbrev pub IsNoEnd : ℕ → Entry → Type 0
IsNoEnd txn (entry.Commit other wrote) = ⊥
IsNoEnd txn (entry.Create other table) = ⊥
IsNoEnd txn (entry.Drop other table) = ⊥
IsNoEnd txn (entry.Abort other (cause.Request by)) = other.0 ≡ txn → ⊥
IsNoEnd txn (entry.Abort other why) = ⊥
IsNoEnd txn event = Unit {0}
