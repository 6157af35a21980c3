-- What was read of the tables that a statement names, as they stood at a place of the book, is what it means something over.
use Rattle.std.proofs.Common.{◌≡◌, ℕ, Bool, false, cond, Option, Some, None, List, [], ◌∷◌, length, map, refl, sym, ap, ◌∙◌, subst, ◌⊎◌, inl, inr, take, arith}
use Rattle.std.proofs.lemmas.List.{length-map}
use Rattle.std.specs.List.{AllByRecursion}
use Rattle.hv_ast.specs.declared.statement.Stmt.{Stmt}
use Rattle.hv_built.specs.Built.{IsBuilt}
use Rattle.hv_logic.specs.declared.catalog.TableInfo.{TableInfo}
use Rattle.hv_logic.specs.declared.effect.Effect.{Effect}
use Rattle.hv_logic.specs.declared.effect.Found.{Found}
use Rattle.hv_logic.specs.declared.effect.TableRows.{TableRows}
use Rattle.hv_logic.specs.declared.meaning.Meaning.{Meaning}
use Rattle.hv_logic.specs.declared.meaning.Meaning.TheVariants as meanings
use Rattle.hv_logic.specs.declared.seen.Seen.{Seen}
use Rattle.hv_logic.specs.Names.{names_in}
use Rattle.hv_typing.specs.Analysis.{analysed}
use Rattle.hv_meaning.specs.Meaning.{info_of, found_in, meant as meant_over, meaning_over, meaning_in, meaning_of}
use Rattle.hv_meaning.specs.Needs.{Needs, later, rows_wanted, all_wanted, KeepMeaning}
use Rattle.hv_meaning.specs.Laws.{MeansSomething}
use Rattle.hv_meaning.proofs.Narrow.{same-infos, wanted-rows}
use Rattle.hv_effect.specs.declared.studied.Studied.{Studied}
use Rattle.hv_effect.specs.Studied.{typed_in}
use Rattle.hv_effect.specs.Tables.{rows_standing, found_of}
use Rattle.hv_history.specs.declared.entry.Entry.{Entry}
use Rattle.hv_history.specs.declared.state.Table.{Table}
use Rattle.hv_history.specs.declared.shown.Shown.{Shown}
use Rattle.hv_history.specs.Shown.{filled, listed_for}
use Rattle.hv_history.specs.State.{state_of, numbered, seen_table, seen_tables, content_of}
use Rattle.hv_history.proofs.ShownLaws.{filled-is}
use Rattle.hv_stands.specs.Sound.{IsSound}
use Rattle.hv_stands.specs.Reading.{tables_named, seen_read, HasSaidRows}
use Rattle.hv_stands.specs.Running.{meant}
use Rattle.hv_stands.specs.Statements.{AllFitting}
use Rattle.hv_stands.proofs.Fitting.{fitting-sound, fronts-fit}
use Rattle.hv_stands.proofs.Numbers.{same_one}
use Rattle.hv_stands.proofs.SeeingEnough.{seeing-enough, tables-stay}
use Rattle.hv_stands.proofs.FileRecords.{inserts-can-be-put}
use Rattle.hv_stands.proofs.Meanings.{ComesOfRows, same-or-rows, built-means}
use Rattle.hv_stands.proofs.SeenTables.{its-seen, CanChangeTable, change-of-seen}
use Rattle.hv_table_reader.specs.hv_acts.specs.hv_telling.specs.hv_house.specs.Listing.{info_in}
use Rattle.hv_table_reader.specs.hv_acts.specs.hv_telling.specs.Telling.{IsToldHouse}
use Rattle.hv_shelf.specs.Disk.{Store}
use Rattle.hv_table_reader.specs.hv_acts.specs.declared.told.ToldHouse.{ToldHouse}
use Rattle.hv_table_reader.specs.hv_acts.specs.Told.{book_in}
use Rattle.hv_steps.specs.Ending.{CanEnd, CanChange}
use Rattle.hv_steps.specs.declared.ready.Way.{Way}
use Rattle.hv_steps.specs.Phases.{ComesTo}
use Rattle.hv_steps.specs.Wanting.{needs_in}
use Rattle.hv_steps.specs.Seeing.{tables_then, HasNeeded, AreNeeded, AreSeenAs, IsNarrow}
use Rattle.hv_steps.proofs.SeenNames.{IsAtNumber, named-placed}

infos-same : (tables : List Table) → map info_in tables ≡ map info_of (map seen_table tables)
infos-same [] = refl
infos-same (table ∷ tables) = ap (λ (infos : List TableInfo). table.info ∷ infos) (infos-same tables)

-- ---- descriptions and rows, table by table

abbrev zipped : List TableInfo → List (List Found) → List Seen
zipped [] found = []
zipped (info ∷ infos) [] = []
zipped (info ∷ infos) (rows ∷ found) = record { info = info; rows = rows } ∷ zipped infos found

zip-infos : (infos : List TableInfo) (found : List (List Found)) → length found ≡ length infos → map info_of (zipped infos found) ≡ infos
zip-infos [] found many = refl
zip-infos (info ∷ infos) [] many = absurd (omega (arith, many))
zip-infos (info ∷ infos) (rows ∷ found) many =
    ap (λ (more : List TableInfo). info ∷ more) (zip-infos infos found (omega (arith, many)))

zip-found : (infos : List TableInfo) (found : List (List Found)) → length found ≡ length infos → map found_in (zipped infos found) ≡ found
zip-found [] [] many = refl
zip-found [] (rows ∷ found) many = absurd (omega (arith, many))
zip-found (info ∷ infos) [] many = absurd (omega (arith, many))
zip-found (info ∷ infos) (rows ∷ found) many =
    ap (λ (more : List (List Found)). rows ∷ more) (zip-found infos found (omega (arith, many)))

-- a statement means the same over the same descriptions and rows
means-same : (tree : Stmt) (one other : List Seen) → map info_of one ≡ map info_of other → map found_in one ≡ map found_in other → meaning_in tree one ≡ meaning_in tree other
unfolding meaning_in
means-same tree one other infos found = λ j. meaning_over tree (infos j) (found j)

over-zipped : (tree : Stmt) (infos : List TableInfo) (found : List (List Found)) → length found ≡ length infos
    → meaning_in tree (zipped infos found) ≡ meaning_over tree infos found
unfolding meaning_in
over-zipped tree infos found many = λ j. meaning_over tree (zip-infos infos found many j) (zip-found infos found many j)

-- ---- the rows that were read of each table

none-wanted : (wants : List ℕ → Bool) (rows : List Found) → ((partition : List ℕ) → wants partition ≡ false) → rows_wanted wants rows ≡ []
none-wanted wants [] none = refl
none-wanted wants (found ∷ rows) none =
    ap (λ (b : Bool). cond b (found ∷ rows_wanted wants rows) (rows_wanted wants rows)) (none found.partition) ∙ none-wanted wants rows none

module _ (tables : List Table) where
  one-needed : (wants : List ℕ → Bool) (table : Table) (rows : List Found) → numbered tables table.info.table.0 ≡ Some table
      → HasNeeded tables wants table.info rows → rows ≡ rows_wanted wants (content_of table.writes)
  one-needed wants table rows here (inl has) =
      let number : has.table.info.table.0 ≡ table.info.table.0 = ap (λ (i : TableInfo). i.table.0) has.info_is in
      let one : has.table ≡ table =
      same_one (numbered tables has.table.info.table.0) has.table table has.here (ap (numbered tables) number ∙ here) in
      has.rows_are ∙ ap (λ (t : Table). rows_wanted wants (content_of t.writes)) one
  one-needed wants table rows here (inr none) = none.empty ∙ sym (none-wanted wants (content_of table.writes) none.none)

  all-needed : (needs : Needs) (named : List Table) (found : List (List Found)) → AllByRecursion (IsAtNumber tables) named
      → AreNeeded tables needs (map info_in named) found → found ≡ all_wanted needs (map found_in (map seen_table named))
  all-needed needs [] [] at are = refl
  all-needed needs [] (rows ∷ found) at are = absurd are
  all-needed needs (table ∷ named) [] at are = absurd are
  all-needed needs (table ∷ named) (rows ∷ found) at are =
      λ j. one-needed (needs 0) table rows at.0 are.0 j ∷ all-needed (later needs) named found at.1 are.1 j

some : (o : Option Meaning) → ComesOfRows o → MeansSomething o
some None h = absurd h
some (Some m) h = tt

abbrev CanEndSome : List Entry → Option Meaning → Type 0
CanEndSome book None = Unit {0}
CanEndSome book (Some m) = CanEnd book m

-- ---- of a book whose entries fit

module _ (is_told : Type 0) (needs : Needs) (book : List Entry) (place : ℕ) (tree : Stmt) (fit : AllFitting book) (infos : List TableInfo) (read : List TableRows)
    (are : AreSeenAs is_told needs (state_of (take place book)).tables tree infos read) where
  abbrev front : List Entry
  front = take place book

  abbrev tables : List Table
  tables = (state_of front).tables

  abbrev its_tables : List Table
  its_tables = tables_named tree tables

  abbrev seen : List Seen
  seen = zipped infos (found_of read)

  front-fits : AllFitting front
  front-fits = fronts-fit book place fit

  front-sound : IsSound (state_of front)
  front-sound = fitting-sound front front-fits

  many : length (found_of read) ≡ length infos
  many = length-map read rows_standing ∙ are.read.many

  -- what is read is of their descriptions
  these-infos : infos ≡ map info_of (map seen_table its_tables)
  these-infos = are.infos_are ∙ infos-same its_tables

  seen-infos : map info_of seen ≡ map info_of (map seen_table its_tables)
  seen-infos = zip-infos infos (found_of read) many ∙ these-infos

  -- whatever rows were seen, it means the same over the tables, or what may come of rows
  over-or-rows : (meaning_in tree seen ≡ meaning_of (seen_tables tables) tree) ⊎ ComesOfRows (meaning_in tree seen)
  over-or-rows = by (same-or-rows tree seen (map seen_table its_tables) seen-infos)
    where
      by : (meaning_in tree seen ≡ meaning_in tree (map seen_table its_tables)) ⊎ ComesOfRows (meaning_in tree seen)
          → (meaning_in tree seen ≡ meaning_of (seen_tables tables) tree) ⊎ ComesOfRows (meaning_in tree seen)
      by (inl e) = inl (e ∙ ap (meaning_in tree) (sym (its-seen tree tables)))
      by (inr l) = inr l

  pub means-some : IsBuilt tree → MeansSomething (meaning_in tree seen)
  means-some built = by over-or-rows
    where
      by : (meaning_in tree seen ≡ meaning_of (seen_tables tables) tree) ⊎ ComesOfRows (meaning_in tree seen) → MeansSomething (meaning_in tree seen)
      by (inl e) = subst MeansSomething (sym e) (built-means (seen_tables tables) tree built)
      by (inr l) = some (meaning_in tree seen) l

  -- and can be ended, whatever entries followed: a change is of a table that was there
  can-change : (info : TableInfo) (effect : Effect) → meaning_in tree seen ≡ Some (meanings.Change info effect) → IsNarrow (meanings.Change info effect)
      → CanChange book info effect
  can-change info effect e narrow =
      let change : CanChangeTable tables info effect =
      change-of-seen tables front-sound.tables.in_order tree seen info effect
      (seen-infos ∙ sym (ap (map info_of) (its-seen tree tables))) e in
      let now = tables-stay book place info.table.0 change.table fit change.here in
      record {
        table = now.0;
        here = now.1;
        same = now.2 ∙ change.same;
        within = change.within;
        fit = λ write some. inserts-can-be-put info.shape write some effect (change.taken narrow);
      }

  pub can-end : (meaning : Meaning) → meaning_in tree seen ≡ Some meaning → IsNarrow meaning → CanEnd book meaning
  can-end (meanings.Change info effect) e narrow = can-change info effect e narrow
  can-end (meanings.Listing names rows) e narrow = tt
  can-end (meanings.Make shape) e narrow = tt
  can-end (meanings.Unmake table) e narrow = tt
  can-end (meanings.Refused why) e narrow = tt
  can-end (meanings.Twice region row) e narrow = narrow
  can-end meanings.RowLimit e narrow = tt
  can-end meanings.PartitionLimit e narrow = tt
  can-end meanings.Plain e narrow = tt
  can-end (meanings.Ask asked region kind) e narrow = narrow

  -- with what it lists it can be ended too
  pub can-filled : (shown : Option Shown) (meaning result : Meaning) → meaning_in tree seen ≡ Some meaning → IsNarrow meaning → Some result ≡ filled shown (Some meaning)
      → CanEnd book result
  can-filled shown meaning result e narrow is =
      subst (CanEndSome book) (sym is) (filled-is (CanEndSome book) (λ names rows. tt) shown (Some meaning) (can-end meaning e narrow))

  -- where their rows are those that stood in the partitions that it needs, and the others are said by their partitions' texts
  pub means-told : is_told → AllByRecursion HasSaidRows tables → filled (listed_for (state_of front) tree) (meaning_in tree seen) ≡ meant front tree
  means-told so said =
      let rows_are : found_of read ≡ all_wanted needs (map found_in (map seen_table its_tables)) =
      all-needed tables needs its_tables (found_of read) (named-placed tables front-sound.tables.in_order (names_in tree))
      (subst (λ (xs : List TableInfo). AreNeeded tables needs xs (found_of read)) are.infos_are (are.read.has so)) in
      let same : meaning_in tree seen ≡ meaning_in tree (seen_read needs tree tables) =
      means-same tree seen (seen_read needs tree tables) (seen-infos ∙ sym (same-infos needs (map seen_table its_tables)))
      (zip-found infos (found_of read) many ∙ rows_are ∙ sym (wanted-rows needs (map seen_table its_tables))) in
      ap (λ (o : Option Meaning). filled (listed_for (state_of front) tree) o) same
      ∙ seeing-enough front tree needs front-fits said (subst (λ (xs : List TableInfo). KeepMeaning tree xs needs) these-infos are.keeping)

-- ---- of a house

module _ {D : Type 0} (told : D → Option Store) (now : ToldHouse D) (way : Way) (tree : Stmt) (fit : AllFitting (book_in now)) (studied : Studied) (read : List TableRows)
    (typed : typed_in studied.typed ≡ analysed studied.infos.items tree)
    (are : AreSeenAs (IsToldHouse told now.house) (needs_in studied) (tables_then now way.place) tree studied.infos.items read) where
  abbrev comes : Option Meaning
  comes = meant_over studied.infos.items (found_of read) (typed_in studied.typed)

  comes-as : comes ≡ meaning_in tree (zipped studied.infos.items (found_of read))
  comes-as =
      ap (meant_over studied.infos.items (found_of read)) typed
      ∙ sym (over-zipped tree studied.infos.items (found_of read) (length-map read rows_standing ∙ are.read.many))

  pub means-something : IsBuilt tree → MeansSomething comes
  means-something built =
      subst MeansSomething (sym comes-as)
      (means-some (IsToldHouse told now.house) (needs_in studied) (book_in now) way.place tree fit studied.infos.items read are built)

  -- with what it lists of the book at its Start
  pub comes-to : (IsToldHouse told now.house → AllByRecursion HasSaidRows (tables_then now way.place)) → (shown : Option Shown)
      → shown ≡ listed_for (state_of (take way.place (book_in now))) tree → (meaning result : Meaning)
      → comes ≡ Some meaning → IsNarrow meaning → Some result ≡ filled shown (Some meaning) → ComesTo told now way tree result
  comes-to said shown lists meaning result e narrow is =
      let means : meaning_in tree (zipped studied.infos.items (found_of read)) ≡ Some meaning = sym comes-as ∙ e in
      record {
        can = can-filled (IsToldHouse told now.house) (needs_in studied) (book_in now) way.place tree fit studied.infos.items read are shown meaning result means narrow is;
        truly = λ so.
            sym (means-told (IsToldHouse told now.house) (needs_in studied) (book_in now) way.place tree fit studied.infos.items read are so (said so))
            ∙ ap (filled (listed_for (state_of (take way.place (book_in now))) tree)) means
            ∙ ap (λ (o : Option Shown). filled o (Some meaning)) (sym lists)
            ∙ sym is;
      }
