-- What a statement reads of the tables that it names is what it sees of them.
use Rattle.std.proofs.Common.{◌≡◌, ◌≤◌, length, ℕ, zero, suc, Bool, true, false, cond, Option, Some, None, Ok, List, [], ◌∷◌, ◌++◌, map, refl, sym, ap, ◌∙◌}
use Rattle.std.proofs.lemmas.List.{map-append}
use Rattle.std.specs.List.{flat_map, slice_get, AllByRecursion}
use Rattle.std.specs.Option.{option_map, option_to_list}
use Rattle.hv_locks.specs.declared.table.Lock.{Lock}
use Rattle.hv_ast.specs.declared.statement.Stmt.{Stmt}
use Rattle.hv_history.specs.hv_meaning.specs.hv_typing.specs.hv_logic.specs.declared.catalog.TableInfo.{TableInfo}
use Rattle.hv_history.specs.hv_meaning.specs.hv_typing.specs.hv_logic.specs.Names.{names_in}
use Rattle.hv_history.specs.hv_meaning.specs.Meaning.{info_of, found_in, named_by, its_tables, meaning_in, meaning_of}
use Rattle.hv_value.specs.declared.row.Row.{Row}
use Rattle.hv_history.specs.hv_meaning.specs.hv_typing.specs.Columns.{columns_of}
use Rattle.hv_history.specs.hv_meaning.specs.hv_route.specs.hv_rowfile.specs.Layout.{RowIsTaken}
use Rattle.hv_history.specs.hv_meaning.specs.hv_route.specs.Routes.{stored}
use Rattle.hv_history.specs.hv_meaning.specs.hv_route.specs.Touching.{touched, touches_of}
use Rattle.hv_history.specs.hv_meaning.specs.Needs.{Needs, AreSaid, KeepMeaning}
use Rattle.hv_history.specs.hv_meaning.proofs.Meanings.{changes-seen}
use Rattle.hv_history.specs.hv_meaning.proofs.Narrow.{same-infos, narrow-enough}
use Rattle.hv_history.specs.declared.state.Table.{Table}
use Rattle.hv_history.specs.hv_meaning.specs.hv_typing.specs.hv_logic.specs.declared.seen.Seen.{Seen}
use Rattle.hv_history.specs.hv_meaning.specs.hv_typing.specs.hv_logic.specs.declared.effect.Effect.{Effect}
use Rattle.hv_history.specs.hv_meaning.specs.hv_typing.specs.hv_logic.specs.declared.meaning.Meaning.TheVariants.{Change}
use Rattle.hv_history.specs.State.{numbered, seen_table, seen_tables}
use Rattle.hv_stands.specs.Sound.{NumberedFrom}
use Rattle.hv_history.specs.Legal.{is_named}
use Rattle.hv_stands.specs.Reading.{table_of_name, named_in, tables_named, seen_read, HasSaidRows}
use Rattle.hv_stands.proofs.Numbers.{one_value}
use Rattle.hv_stands.proofs.Ordered.{all-joined}
use Rattle.hv_stands.proofs.Tables.{named-seen, named-numbered, HasTable}

-- ---- the tables that a statement sees are those that it names, with their rows

listed-table : (o : Option Table) → option_to_list (option_map seen_table o) ≡ map seen_table (option_to_list o)
listed-table None = refl
listed-table (Some table) = refl

seen-named : (tables : List Table) (locks : List Lock)
    → flat_map (named_by (seen_tables tables)) locks ≡ map seen_table (flat_map (named_in tables) locks)
seen-named tables [] = refl
seen-named tables (lock ∷ locks) =
    (λ i. (ap option_to_list (named-seen lock.name tables) ∙ listed-table (table_of_name lock.name tables)) i ++ seen-named tables locks i)
    ∙ sym (map-append seen_table (named_in tables lock) (flat_map (named_in tables) locks))

pub its-seen : (tree : Stmt) (tables : List Table) → its_tables tree (seen_tables tables) ≡ map seen_table (tables_named tree tables)
its-seen tree tables = seen-named tables (names_in tree)

-- ---- with the rows of the partitions that it needs

said-named : (tables : List Table) → AllByRecursion HasSaidRows tables → AreSaid (map info_of (map seen_table tables)) (map found_in (map seen_table tables))
said-named [] said = tt
said-named (table ∷ tables) said = (said.0, said-named tables said.1)

-- of each table that it names
table-said : (name : List ℕ) (tables : List Table) → AllByRecursion HasSaidRows tables → AllByRecursion HasSaidRows (option_to_list (table_of_name name tables))
table-said name [] said = tt
table-said name (table ∷ tables) said = by (is_named name table) (table-said name tables said.1)
  where
    by : (b : Bool) → AllByRecursion HasSaidRows (option_to_list (table_of_name name tables))
        → AllByRecursion HasSaidRows (option_to_list (cond b (Some table) (table_of_name name tables)))
    by true rest = (said.0, tt)
    by false rest = rest

locks-said : (tables : List Table) → AllByRecursion HasSaidRows tables → (locks : List Lock) → AllByRecursion HasSaidRows (flat_map (named_in tables) locks)
locks-said tables said [] = tt
locks-said tables said (lock ∷ locks) =
    all-joined HasSaidRows (named_in tables lock) (flat_map (named_in tables) locks) (table-said lock.name tables said) (locks-said tables said locks)

-- the descriptions of the tables that a statement names
abbrev pub infos_named : Stmt → List Table → List TableInfo
infos_named tree tables = map info_of (map seen_table (tables_named tree tables))

pub reading-enough : (needs : Needs) (tree : Stmt) (tables : List Table) → AllByRecursion HasSaidRows tables → KeepMeaning tree (infos_named tree tables) needs
    → meaning_in tree (seen_read needs tree tables) ≡ meaning_of (seen_tables tables) tree
reading-enough needs tree tables said keeps =
    narrow-enough tree (map seen_table (tables_named tree tables)) needs (said-named (tables_named tree tables) (locks-said tables said (names_in tree))) keeps
    ∙ ap (meaning_in tree) (sym (its-seen tree tables))

-- what is read has the descriptions of what is seen
pub read-infos : (needs : Needs) (tree : Stmt) (tables : List Table) → map info_of (seen_read needs tree tables) ≡ map info_of (its_tables tree (seen_tables tables))
read-infos needs tree tables = same-infos needs (map seen_table (tables_named tree tables)) ∙ ap (map info_of) (sym (its-seen tree tables))

-- ---- a description among those of the tables that a statement names is that of one of the book's tables

module _ (tables : List Table) (order : NumberedFrom 1 tables) where
  abbrev IsAtNumber : Table → Type 0
  IsAtNumber table = numbered tables table.info.table.0 ≡ Some table

  named-all : (locks : List Lock) → AllByRecursion IsAtNumber (flat_map (named_in tables) locks)
  named-all [] = tt
  named-all (lock ∷ locks) = by (table_of_name lock.name tables) refl (named-all locks)
    where
      by : (o : Option Table) → table_of_name lock.name tables ≡ o → AllByRecursion IsAtNumber (flat_map (named_in tables) locks)
          → AllByRecursion IsAtNumber (option_to_list o ++ flat_map (named_in tables) locks)
      by None is rest = rest
      by (Some table) is rest = (named-numbered lock.name tables table order is, rest)

  info-place : (ts : List Table) (place : ℕ) (info : TableInfo) → slice_get (map info_of (map seen_table ts)) place ≡ Some info
      → AllByRecursion IsAtNumber ts → HasTable info tables
  info-place [] place info e all = cc
  info-place (table ∷ ts) zero info e all =
      let same : table.info ≡ info = one_value table.info info e in
      (table, ap (λ (i : TableInfo). numbered tables i.table.0) (sym same) ∙ all.0, same)
  info-place (table ∷ ts) (suc place) info e all = info-place ts place info e all.1

  pub seen-place : (tree : Stmt) (seen : List Seen) (place : ℕ) (info : TableInfo) → map info_of seen ≡ map info_of (its_tables tree (seen_tables tables))
      → slice_get (map info_of seen) place ≡ Some info → HasTable info tables
  seen-place tree seen place info same e =
      info-place (tables_named tree tables) place info
      (ap (λ (infos : List TableInfo). slice_get infos place) (sym (same ∙ ap (map info_of) (its-seen tree tables))) ∙ e)
      (named-all (names_in tree))

info-at : (seen : List Seen) (place : ℕ) → slice_get (map info_of seen) place ≡ option_map info_of (slice_get seen place)
info-at [] place = refl
info-at (one ∷ seen) zero = refl
info-at (one ∷ seen) (suc place) = info-at seen place

-- ---- whatever rows are seen of the tables that a statement names, a change is of one of the book's tables, is within the limits, and
-- a row file takes what is stored of each row that it inserts

pub record CanChangeTable (tables : List Table) (info : TableInfo) (effect : Effect) : Type 0 where
  pub table : Table
  pub here : numbered tables info.table.0 ≡ Some table
  pub same : table.info ≡ info
  pub within : touched info effect ≡ Ok (touches_of info effect)
  pub taken : length (columns_of info.shape) ≤ 65535 → AllByRecursion (λ (row : Row). RowIsTaken (stored info.shape row)) effect.inserts

pub change-of-seen : (tables : List Table) → NumberedFrom 1 tables → (tree : Stmt) (seen : List Seen) (info : TableInfo) (effect : Effect)
    → map info_of seen ≡ map info_of (its_tables tree (seen_tables tables)) → meaning_in tree seen ≡ Some (Change info effect) → CanChangeTable tables info effect
change-of-seen tables order tree seen info effect same e =
    let change = changes-seen tree seen info effect e in
    let at : slice_get (map info_of seen) change.place ≡ Some info =
    info-at seen change.place ∙ ap (option_map info_of) change.here ∙ ap Some (sym change.info_is) in
    let there = seen-place tables order tree seen change.place info same at in
    record { table = there.0; here = there.1; same = there.2; within = change.fits.within; taken = change.fits.taken }
