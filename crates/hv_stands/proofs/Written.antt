-- What a statement inserts, and what it deletes, can be written as files, and read again.
use Rattle.std.proofs.Common.{◌≡◌, ℕ, ◌≤◌, length, Option, Some, None, List, map, option_map, refl, sym, ap, ◌∙◌, subst}
use Rattle.std.specs.List.{AllByRecursion}
use Rattle.hv_ast.specs.declared.statement.Stmt.{Stmt}
use Rattle.hv_history.specs.hv_meaning.specs.hv_typing.specs.hv_logic.specs.Rows.{found_cmp}
use Rattle.hv_history.specs.hv_meaning.specs.hv_typing.specs.hv_logic.specs.declared.catalog.TableInfo.{TableInfo}
use Rattle.hv_history.specs.hv_meaning.specs.hv_typing.specs.hv_logic.specs.declared.effect.Effect.{Effect}
use Rattle.hv_history.specs.hv_meaning.specs.hv_typing.specs.hv_logic.specs.declared.effect.Found.{Found}
use Rattle.hv_history.specs.hv_meaning.specs.hv_typing.specs.hv_logic.specs.declared.meaning.Meaning.{Meaning}
use Rattle.hv_history.specs.hv_meaning.specs.hv_typing.specs.hv_logic.specs.declared.meaning.Meaning.TheVariants.{Refused, Listing, Change, Make, Unmake, Ask, Plain, Twice, RowLimit, PartitionLimit}
use Rattle.hv_history.specs.hv_meaning.specs.hv_typing.specs.Columns.{columns_of}
use Rattle.hv_history.specs.hv_meaning.specs.hv_route.specs.Back.{AreFlat, AreHeld}
use Rattle.hv_history.specs.hv_meaning.specs.hv_route.specs.Routes.{files_of}
use Rattle.hv_history.specs.hv_meaning.specs.Meaning.{meaning_of}
use Rattle.hv_history.specs.declared.state.Table.{Table}
use Rattle.hv_history.specs.declared.state.Written.{Written}
use Rattle.hv_history.specs.declared.state.Ending.{Ending}
use Rattle.hv_history.specs.Shown.{listed_for}
use Rattle.hv_history.specs.State.{State, numbered, seen_tables, means, content_of, written_by}
use Rattle.hv_history.proofs.ShownLaws.{filled-change}
use Rattle.hv_stands.specs.Files.{ending_of, IsEncoded}
use Rattle.hv_stands.specs.Sound.{HasFlatParts, HasSoundWrites, info_in, ChangesAmong, IsOfCommitted, AreOfCommitted, IsSound}
use Rattle.hv_stands.specs.Laws.{CanBeFile, HasFile}
use Rattle.hv_stands.proofs.Numbers.{numbered-within, numbered-map}
use Rattle.hv_stands.proofs.Soundness.{all-mapped, all-numbered}
use Rattle.hv_stands.proofs.Meanings.{ArePicked}
use Rattle.hv_stands.proofs.Ordered.{all-kept, rises-kept}
use Rattle.hv_stands.proofs.StandingRows.{HasId, IsCounted, AreStanding, content-stands}
use Rattle.hv_stands.proofs.FileRecords.{files-written, files-encoded}
use Rattle.hv_stands.proofs.Tables.{ChangesTable, changes-table}

-- ---- the rows that stand in a table of a sound state

counted : (endings : List (Option Ending)) (owners : List ℕ) (writes : List Written) → AllByRecursion (IsOfCommitted endings owners) writes → AllByRecursion IsCounted writes
counted endings owners writes h =
    all-mapped (IsOfCommitted endings owners) IsCounted (λ written is. let within = numbered-within owners written.write is.0 is.1 in within.0) writes h

pub rows-stand : (s : State) (number : ℕ) (table : Table) → IsSound s → numbered s.tables number ≡ Some table → AreStanding (content_of table.writes)
rows-stand s number table sound at =
    let writes = all-numbered HasSoundWrites s.tables number table at sound.tables.written in
    let committed = all-numbered (AreOfCommitted (map ending_of s.transactions)) s.tables number table at sound.committed in
    content-stands table.info.shape table.writes writes.each writes.apart (counted (map ending_of s.transactions) table.owners table.writes committed)

-- some of them, as they are deleted
picked-stands : (rows picked : List Found) → ArePicked rows picked → AreStanding rows → AreStanding picked
picked-stands rows picked is stands =
    subst AreStanding (sym is.1)
    (record { each = all-kept HasId is.0 rows stands.each; up = rises-kept found_cmp is.0 rows stands.up })

-- ---- what a statement changes

-- it is of one of the tables, and deletes rows that stand there
pub record IsOfTables (s : State) (info : TableInfo) (effect : Effect) : Type 0 where
  pub change : ChangesTable s.tables info effect
  pub gone : AreStanding effect.deletes

pub of-tables : (s : State) (tree : Stmt) (info : TableInfo) (effect : Effect) → IsSound s → means s (Some tree) ≡ Some (Change info effect)
    → IsOfTables s info effect
of-tables s tree info effect sound is =
    let over = filled-change (listed_for s tree) (meaning_of (seen_tables s.tables) tree) info effect is in
    let change = changes-table s.tables sound.tables.in_order info effect tree over in
    record {
      change = change;
      gone = picked-stands (content_of change.table.writes) effect.deletes change.deletes (rows-stand s info.table.0 change.table sound change.here);
    }

pub changes-among : (s : State) (tree : Stmt) → IsSound s → ChangesAmong (map info_in s.tables) (means s (Some tree))
changes-among s tree sound = by (means s (Some tree)) refl
  where
    by : (o : Option Meaning) → means s (Some tree) ≡ o → ChangesAmong (map info_in s.tables) o
    by None is = tt
    by (Some (Refused why)) is = tt
    by (Some (Listing names rows)) is = tt
    by (Some (Change info effect)) is =
        let there = of-tables s tree info effect sound is in
        record {
          here = numbered-map info_in s.tables info.table.0 ∙ ap (option_map info_in) there.change.here ∙ ap Some there.change.info_is;
          whole = there.change.whole;
          deletes = there.gone.up;
        }
    by (Some (Make shape)) is = tt
    by (Some (Unmake table)) is = tt
    by (Some (Ask table region kind)) is = tt
    by (Some Plain) is = tt
    by (Some (Twice region row)) is = tt
    by (Some RowLimit) is = tt
    by (Some PartitionLimit) is = tt

-- ---- its files can be written, and read again

pub effect-written : (s : State) (tree : Stmt) (info : TableInfo) (effect : Effect) (write : ℕ) → IsSound s → means s (Some tree) ≡ Some (Change info effect)
    → 1 ≤ write → length (columns_of info.shape) ≤ 65535 → AllByRecursion CanBeFile (files_of info.shape write 0 effect)
effect-written s tree info effect write sound e some few =
    let there = of-tables s tree info effect sound e in
    files-written info.shape write some effect (there.change.fits.taken few) there.gone

pub effect-encoded : (s : State) (tree : Stmt) (info : TableInfo) (effect : Effect) (write : ℕ) → IsSound s → means s (Some tree) ≡ Some (Change info effect)
    → AllByRecursion HasFile (files_of info.shape write 0 effect) → AreHeld effect.inserts → IsEncoded info.shape (written_by info.shape write 0 effect)
effect-encoded s tree info effect write sound e each held =
    let there = of-tables s tree info effect sound e in
    let flat : AreFlat info.shape.parts =
    subst (λ (i : TableInfo). AreFlat i.shape.parts) there.change.info_is
    (all-numbered HasFlatParts s.tables info.table.0 there.change.table there.change.here sound.tables.flat) in
    files-encoded info.shape write effect there.gone.up each (there.change.fits.said flat held)
