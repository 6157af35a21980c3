-- In a told house the rows that stood in a table at an earlier place are said by their partitions' texts: its writes are a front of those that it
-- has now, and these can be read again from files.
use Rattle.std.proofs.Common.{◌≡◌, ℕ, suc, ◌+◌, Option, Some, List, [], ◌∷◌, ◌++◌, take, drop, refl, sym, ap, ◌∙◌, subst, arith, take-append-drop}
use Rattle.std.specs.Prelude.{slice_get}
use Rattle.std.specs.List.{AllByRecursion}
use Rattle.hv_shelf.specs.Disk.{Store}
use Rattle.hv_history.specs.declared.entry.Entry.{Entry}
use Rattle.hv_history.specs.declared.state.Table.{Table}
use Rattle.hv_history.specs.Lasting.{TableLater}
use Rattle.hv_history.specs.State.{state_of, numbered}
use Rattle.hv_stands.specs.Files.{IsEncoded, AreEncoded}
use Rattle.hv_stands.specs.Reading.{HasSaidRows}
use Rattle.hv_stands.specs.Sound.{IsSound, NumberedFrom, HasSoundWrites}
use Rattle.hv_stands.specs.Statements.{AllFitting}
use Rattle.hv_stands.proofs.Fitting.{fitting-sound, fronts-fit}
use Rattle.hv_stands.proofs.SaidRows.{content-said}
use Rattle.hv_stands.proofs.SeeingEnough.{table-stays}
use Rattle.hv_stands.proofs.Soundness.{all-numbered}
use Rattle.hv_table_reader.specs.hv_acts.specs.hv_telling.specs.Telling.{IsToldHouse}
use Rattle.hv_table_reader.specs.hv_acts.specs.hv_telling.proofs.Told.{whole-shown, house-book}
use Rattle.hv_table_reader.specs.hv_acts.specs.declared.told.ToldHouse.{ToldHouse}
use Rattle.hv_table_reader.specs.hv_acts.specs.Told.{IsWholeOrClosed, book_in}
use Rattle.hv_table_reader.specs.hv_acts.specs.Going.{IsOpenHouse}

-- ---- tables by their numbers

module _ (P : Table → Type 0) (tables : List Table) (each : (table : Table) → numbered tables table.info.table.0 ≡ Some table → P table) where
  all-from : (k : ℕ) (rest : List Table) → NumberedFrom (k + 1) rest
      → ((i : ℕ) (table : Table) → slice_get rest i ≡ Some table → slice_get tables (k + i) ≡ Some table) → AllByRecursion P rest
  all-from k [] order at = tt
  all-from k (table ∷ rest) order at =
      let first : table.info.table.0 ≡ k + 1 = order.0 in
      let number : table.info.table.0 ≡ suc (k + 0) = omega (arith, first) in (
        each table (ap (numbered tables) number ∙ at 0 table refl),
        all-from (k + 1) rest order.1
            (λ i other e. let same : k + 1 + i ≡ k + suc i = omega arith in ap (slice_get tables) same ∙ at (suc i) other e),
      )

  pub all-placed : NumberedFrom 1 tables → AllByRecursion P tables
  all-placed order =
      all-from 0 tables order (λ i table e. let same : 0 + i ≡ i = omega arith in ap (slice_get tables) same ∙ e)

-- ---- of a table, as it was

front-all : {X : Type 0} (P : X → Type 0) (xs ys : List X) → AllByRecursion P (xs ++ ys) → AllByRecursion P xs
front-all P [] ys all = tt
front-all P (x ∷ xs) ys all = (all.0, front-all P xs ys all.1)

-- what was written before can be read again, too
encoded-before : (table now : Table) → TableLater table now → AreEncoded now → AreEncoded table
encoded-before table now later encoded =
    front-all (IsEncoded table.info.shape) table.writes later.writes.more
    (subst (AllByRecursion (IsEncoded table.info.shape)) later.writes.is
    (subst (λ info. AllByRecursion (IsEncoded info.shape) now.writes) later.info encoded))

pub said-then : (book : List Entry) (place : ℕ) → AllFitting book → AllByRecursion AreEncoded (state_of book).tables
    → AllByRecursion HasSaidRows (state_of (take place book)).tables
said-then book place fit encoded =
    let sound : IsSound (state_of (take place book)) = fitting-sound (take place book) (fronts-fit book place fit) in
    all-placed HasSaidRows (state_of (take place book)).tables
    (λ table here.
    let number : ℕ = table.info.table.0 in
    let now = table-stays (take place book) (drop place book) number table here in
    let there : numbered (state_of book).tables number ≡ Some now.0 =
    ap (λ (all : List Entry). numbered (state_of all).tables number) (sym (take-append-drop place book)) ∙ now.1 in
    content-said table (all-numbered HasSoundWrites (state_of (take place book)).tables number table here sound.tables.written)
    (encoded-before table now.0 now.2 (all-numbered AreEncoded (state_of book).tables number now.0 there encoded)))
    sound.tables.in_order

-- ---- in a told house that is open

pub house-said : {D : Type 0} (told : D → Option Store) (now : ToldHouse D) (place : ℕ) → IsWholeOrClosed told now.house → IsOpenHouse now → AllFitting (book_in now)
    → IsToldHouse told now.house → AllByRecursion HasSaidRows (state_of (take place (book_in now))).tables
house-said told now place keeps running fit so =
    let shown = whole-shown told now.house (keeps.whole running) so in
    said-then (book_in now) place fit
    (subst (λ (book : List Entry). AllByRecursion AreEncoded (state_of book).tables) (sym (house-book now.house)) shown.2.stands.encoded)
