-- The write id list of a table and the catalog at a place of a book, from the state that the entries before it leave.
-- Source: Hive Transactions; Camacho-Rodríguez et al., SIGMOD 2019 (write id lists).
use Rattle.std.specs.Prelude.{ℕ, ◌+◌, ◌==◌, nat_eq, Bool, true, false, if◌then◌else◌, Option, Some, None, List, [], ◌∷◌, ◌++◌, length, map, take}
use Rattle.std.specs.Cmp.Lexicographic.{pointwise}
use Rattle.std.specs.List.{list_any}
use Rattle.hv_wids.specs.declared.list.Exception.{Exception}
use Rattle.hv_wids.specs.WriteIds.{WriteIds}
use Rattle.hv_logic.specs.declared.catalog.TableInfo.{TableInfo}
use Rattle.hv_meta.specs.hv_book.specs.hv_history.specs.declared.entry.Entry.{Entry}
use Rattle.hv_meta.specs.hv_book.specs.hv_history.specs.State.{State, state_of, numbered}
use Rattle.hv_meta.specs.hv_book.specs.Past.{owners_in, forgotten_in}
use Rattle.hv_meta.specs.Catalogs.{live_infos}
use Rattle.hv_earlier.specs.declared.fates.Fate.{Fate}
use Rattle.hv_earlier.specs.declared.fates.Fate.TheVariants as fate
use Rattle.hv_earlier.specs.Fates.{fate_of}

abbrev pub exception : ℕ → Bool → Exception
exception write aborted = record { write = record { 0 = write }; aborted = aborted }

-- the write id of an aborted transaction is an exception until it is forgotten
abbrev pub unless_forgotten : Bool → ℕ → List Exception
unless_forgotten true write = []
unless_forgotten false write = exception write true ∷ []

-- what a write id is by its transaction: an exception while that is open, and where it was aborted
abbrev pub exception_by : List ℕ → ℕ → Option Fate → List Exception
exception_by forgotten write None = []
exception_by forgotten write (Some fate.Open) = exception write false ∷ []
exception_by forgotten write (Some fate.Committed) = []
exception_by forgotten write (Some fate.Aborted) = unless_forgotten (list_any (λ other. other == write) forgotten) write

-- of the write ids from this one on, each given to the transaction of that number
abbrev pub exceptions_from : List Fate → List ℕ → ℕ → List ℕ → List Exception
exceptions_from fates forgotten write [] = []
exceptions_from fates forgotten write (txn ∷ owners) =
    exception_by forgotten write (numbered fates txn) ++ exceptions_from fates forgotten (write + 1) owners

-- the highest id is the number of ids that were given
abbrev pub list_by : List Fate → List ℕ → List ℕ → WriteIds
list_by fates forgotten owners =
    record { high = record { 0 = length owners }; exceptions = exceptions_from fates forgotten 1 owners }

-- the list of the table of that number; a table that isn't there has no ids
abbrev pub list_in : State → ℕ → WriteIds
list_in state table =
    list_by (map fate_of state.transactions) (forgotten_in (numbered state.tables table)) (owners_in (numbered state.tables table))

-- at a place: the entries before it are those that count
abbrev pub list_at : List Entry → ℕ → ℕ → WriteIds
list_at book position table = list_in (state_of (take position book)) table

abbrev pub catalog_at : List Entry → ℕ → List TableInfo
catalog_at book position = live_infos (state_of (take position book)).tables

-- the first of these tables that has that name
abbrev pub info_of_name : List ℕ → List TableInfo → Option TableInfo
info_of_name name [] = None
info_of_name name (info ∷ infos) = if pointwise nat_eq info.shape.name name then Some info else info_of_name name infos
