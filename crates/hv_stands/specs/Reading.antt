-- What a statement sees of the tables that it names, with the rows that stand in the partitions that it needs.
use Rattle.std.specs.Prelude.{ℕ, Bool, if◌then◌else◌, Option, Some, None, List, [], ◌∷◌, map}
use Rattle.std.specs.List.{flat_map, AllByRecursion}
use Rattle.std.specs.Option.{option_to_list}
use Rattle.hv_locks.specs.declared.table.Lock.{Lock}
use Rattle.hv_ast.specs.declared.statement.Stmt.{Stmt}
use Rattle.hv_history.specs.hv_meaning.specs.hv_typing.specs.hv_logic.specs.Names.{names_in}
use Rattle.hv_history.specs.hv_meaning.specs.hv_typing.specs.hv_logic.specs.declared.seen.Seen.{Seen}
use Rattle.hv_history.specs.declared.state.Table.{Table}
use Rattle.hv_history.specs.State.{seen_table, content_of}
use Rattle.hv_history.specs.Legal.{is_named}
use Rattle.hv_history.specs.hv_meaning.specs.Needs.{Needs, narrow, narrowed, IsSaid}

-- the live table of that name: a dropped one has no name
abbrev pub table_of_name : List ℕ → List Table → Option Table
table_of_name name [] = None
table_of_name name (table ∷ tables) = if is_named name table then Some table else table_of_name name tables

abbrev pub named_in : List Table → Lock → List Table
named_in tables lock = option_to_list (table_of_name lock.name tables)

abbrev pub tables_named : Stmt → List Table → List Table
tables_named tree tables = flat_map (named_in tables) (names_in tree)

-- a table with the rows that stand in its partitions that are wanted
abbrev pub seen_of : (List ℕ → Bool) → Table → Seen
seen_of wants table = narrow wants (seen_table table)

abbrev pub seen_read : Needs → Stmt → List Table → List Seen
seen_read needs tree tables = narrowed needs (map seen_table (tables_named tree tables))

-- the rows that stand in it are said by their partitions' texts
abbrev pub HasSaidRows : Table → Type 0
HasSaidRows table = AllByRecursion (IsSaid table.info) (content_of table.writes)
