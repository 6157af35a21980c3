-- Where an open transaction reads a table of a book whose files stand, what it reads is what stood in it at its snapshot, and it isn't amiss.
use Rattle.std.proofs.Common.{◌≡◌, ℕ, Bool, inl, inr, List, take}
use Rattle.hv_shelf.specs.Disk.{Tree}
use Rattle.hv_logic.specs.declared.effect.Found.{Found}
use Rattle.hv_history.specs.hv_meaning.specs.Needs.{rows_wanted}
use Rattle.hv_history.specs.declared.entry.Entry.{Entry}
use Rattle.hv_history.specs.declared.state.Table.{Table}
use Rattle.hv_history.specs.State.{content_of, state_of}
use Rattle.hv_history.specs.Legal.{profile, IsLegal}
use Rattle.hv_table_rows.specs.Reading.{AreRows, IsSpoiled as IsSpoiledOf}
use Rattle.hv_acts.specs.hv_telling.specs.hv_house.specs.hv_law_read.specs.Reading.{ReadsAt}
use Rattle.hv_acts.specs.hv_telling.specs.hv_house.specs.hv_law_read.proofs.RowLemmas.{rows-stood, none-was-spoiled}
use Rattle.hv_law_dues.specs.hv_counts.specs.Counts.{dues_in}
use Rattle.hv_law_dues.proofs.WantedStood.{wanted-files-counted}
use Rattle.hv_acts.specs.hv_telling.specs.hv_house.specs.Seeing.{ids_in}
use Rattle.hv_table_reader.specs.Counting.{IsAmissOf}

pub rows-content : (book : List Entry) (txn place : ℕ) (table : Table) (files : Tree) (wants : List ℕ → Bool) (rows : List Found) → ReadsAt book txn place table files
    → AreRows wants table.info (ids_in (state_of (take place book)) table.info.table.0) files rows → rows ≡ rows_wanted wants (content_of table.writes)
rows-content book txn place table files wants rows at are = rows-stood book txn place table files wants rows at are

pub none-spoiled : (book : List Entry) (txn place : ℕ) (table : Table) (files : Tree) → ReadsAt book txn place table files
    → IsSpoiledOf table.info (ids_in (state_of (take place book)) table.info.table.0) files → ⊥
none-spoiled book txn place table files at spoils = none-was-spoiled book txn place table files at spoils

pub none-amiss : (book : List Entry) (txn place : ℕ) (table : Table) (files : Tree) (wants : List ℕ → Bool) → IsLegal profile book → ReadsAt book txn place table files
    → IsAmissOf wants table.info (ids_in (state_of (take place book)) table.info.table.0) files (dues_in (state_of (take place book)) table.info.table.0) → ⊥
none-amiss book txn place table files wants legal at (inl spoiled) = none-spoiled book txn place table files at spoiled
none-amiss book txn place table files wants legal at (inr uncounted) =
    let read = uncounted.read in
    uncounted.differ
    (wanted-files-counted book txn place table files legal at wants uncounted.deletes read.named uncounted.sheets read.listed read.files_are read.each
    uncounted.own uncounted.beside)
