-- What is kept for the earlier places of a book: the write ids of its tables by how their transactions ended, the ids that
-- were forgotten, and from where on a table was there and was dropped.
use Rattle.std.specs.Prelude.{◌≡◌, ℕ, ◌+◌, ◌==◌, ◌<◌, ◌≤◌, ◌&&◌, nat_lt, Bool, true, false, not, is_some, Option, Some, None, List, [], ◌∷◌, ◌++◌, map, filter, length, take, vec_len, vec_capacity}
use Rattle.std.specs.Option.{option_map}
use Rattle.std.specs.List.{AllByRecursion}
use Rattle.hv_history.specs.declared.entry.Entry.{Entry}
use Rattle.hv_history.specs.declared.entry.Entry.TheVariants as entry
use Rattle.hv_history.specs.declared.state.Table.{Table}
use Rattle.hv_history.specs.declared.state.Transaction.{Transaction}
use Rattle.hv_history.specs.declared.state.Ending.{Ending}
use Rattle.hv_history.specs.State.{State, state_of, numbered, changed, first_of}
use Rattle.hv_book.specs.declared.notes.TableNote.{TableNote}
use Rattle.hv_ids.specs.declared.notes.IdNote.{IdNote}
use Rattle.hv_ids.specs.declared.notes.PlacedId.{PlacedId}
use Rattle.hv_ids.specs.Ids.{is_of_other, put_id}
use Rattle.hv_book.specs.declared.past.ForgotNote.{ForgotNote}
use Rattle.hv_book.specs.declared.past.SpanNote.{SpanNote}
use Rattle.hv_book.specs.declared.past.PastNotes.{PastNotes}
use Rattle.hv_book.specs.Notes.{Notes, add_if, is_open_in}
use Rattle.hv_book.specs.Briefs.{end_of}

-- `pending` has the ids whose transaction has not ended, by table, `aborted` and `committed` those whose transaction ended so, each in
-- the order in which they came there, `given` each id with the place where it was given, and `spans` is by number of the tables
pub record Past : Type 0 where
  pub pending : List IdNote
  pub aborted : List PlacedId
  pub committed : List PlacedId
  pub given : List PlacedId
  pub forgotten : List ForgotNote
  pub spans : List SpanNote

abbrev pub past_in : PastNotes → Past
past_in notes = record {
  pending = notes.pending.ids;
  aborted = notes.aborted.ids;
  committed = notes.committed.ids;
  given = notes.given.ids;
  forgotten = notes.forgotten.items;
  spans = notes.spans.items;
}

abbrev pub no_past : Past
no_past = record { pending = []; aborted = []; committed = []; given = []; forgotten = []; spans = [] }

-- each part has room for so many entries more: an id that is pending may go over to the aborted or the committed ones
pub record PastSpares (room : ℕ) (notes : PastNotes) : Type 0 where
  pub pending : room ≤ notes.pending.room
  pub aborted : length notes.pending.ids + room ≤ notes.aborted.room
  pub committed : length notes.pending.ids + room ≤ notes.committed.room
  pub given : room ≤ notes.given.room
  pub forgotten : vec_len notes.forgotten + room ≤ vec_capacity notes.forgotten
  pub spans : vec_len notes.spans + room ≤ vec_capacity notes.spans
  pub aborted_tables : room ≤ notes.aborted.table_room
  pub committed_tables : room ≤ notes.committed.table_room
  pub given_tables : room ≤ notes.given.table_room

abbrev pub IsTableThere : ℕ → IdNote → Type 0
IsTableThere tables id = (0 < id.table) × (id.table ≤ tables)

-- each part has the tables, and the ids that are pending are of these
pub record AreTabled (notes : PastNotes) : Type 0 where
  pub aborted : notes.aborted.tables ≡ length notes.spans.items
  pub committed : notes.committed.tables ≡ length notes.spans.items
  pub given : notes.given.tables ≡ length notes.spans.items
  pub there : AllByRecursion (IsTableThere (length notes.spans.items)) notes.pending.ids

-- ---- one entry, at its place

abbrev pub ended_id : ℕ → IdNote → PlacedId
ended_id at id = record { id = id; at = at }

abbrev pub ended_if : Bool → ℕ → IdNote → List PlacedId → List PlacedId
ended_if true at id more = ended_id at id ∷ more
ended_if false at id more = more

-- those of the transaction, as ended at that place
abbrev pub ended_of : ℕ → ℕ → List IdNote → List PlacedId
ended_of txn at [] = []
ended_of txn at (id ∷ ids) = ended_if (id.txn == txn) at id (ended_of txn at ids)

-- an id that is given in a table that is there has the next number
abbrev pub id_given : ℕ → ℕ → Option TableNote → List IdNote → List IdNote
id_given txn table None ids = ids
id_given txn table (Some note) ids = put_id (record { table = table; write = note.high + 1; txn = txn }) ids

abbrev pub given_more : ℕ → ℕ → ℕ → Option TableNote → List PlacedId → List PlacedId
given_more place txn table None given = given
given_more place txn table (Some note) given = given ++ record { id = record { table = table; write = note.high + 1; txn = txn }; at = place } ∷ []

abbrev pub without_if : Bool → ℕ → List IdNote → List IdNote
without_if true txn ids = filter (is_of_other txn) ids
without_if false txn ids = ids

abbrev pub over_if : Bool → ℕ → ℕ → List IdNote → List PlacedId → List PlacedId
over_if true txn place ids those = those ++ ended_of txn place ids
over_if false txn place ids those = those

-- where the transaction was open, its ids go over to the committed ones
abbrev pub past_commit : ℕ → Bool → ℕ → Past → Past
past_commit place was_open txn past = record past {
  pending = without_if was_open txn past.pending;
  committed = over_if was_open txn place past.pending past.committed;
}

abbrev pub past_abort : ℕ → Bool → ℕ → Past → Past
past_abort place was_open txn past = record past {
  pending = without_if was_open txn past.pending;
  aborted = over_if was_open txn place past.pending past.aborted;
}

unfoldable pub drop_span : ℕ → SpanNote → SpanNote
drop_span place span = record span { dropped = first_of span.dropped place }

abbrev pub new_span : ℕ → SpanNote
new_span place = record { made = place; dropped = None }

abbrev pub forgot_note : ℕ → ℕ → ℕ → ForgotNote
forgot_note table write place = record { table = table; write = write; at = place }

-- the notes are those behind the entries before
abbrev pub past_behind : ℕ → Notes → Entry → Past → Past
past_behind place notes (entry.Given txn table write) past =
    record past {
      pending = id_given txn.0 table.0 (numbered notes.tables table.0) past.pending;
      given = given_more place txn.0 table.0 (numbered notes.tables table.0) past.given;
    }
past_behind place notes (entry.Commit txn wrote) past = past_commit place (is_open_in notes txn.0) txn.0 past
past_behind place notes (entry.Abort txn cause) past = past_abort place (is_open_in notes txn.0) txn.0 past
past_behind place notes (entry.Create txn table) past =
    record (past_commit place (is_open_in notes txn.0) txn.0 past) { spans = past.spans ++ new_span place ∷ [] }
past_behind place notes (entry.Drop txn table) past =
    record (past_commit place (is_open_in notes txn.0) txn.0 past) { spans = changed (drop_span place) past.spans table.0 }
past_behind place notes (entry.Forgot table write) past =
    record past { forgotten = add_if (is_some (numbered notes.tables table.0)) (forgot_note table.0 write.0 place) past.forgotten }
past_behind place notes _ past = past

-- ---- what it says of the state

abbrev pub owners_in : Option Table → List ℕ
owners_in None = []
owners_in (Some table) = table.owners

abbrev pub forgotten_in : Option Table → List ℕ
forgotten_in None = []
forgotten_in (Some table) = table.forgotten

abbrev pub total : {A : Type 0} → (A → ℕ) → List A → ℕ
total weight [] = 0
total weight (x ∷ xs) = weight x + total weight xs

-- over the write ids from this one on, each with the transaction that it was given to
abbrev pub total_from : (ℕ → ℕ → ℕ) → ℕ → List ℕ → ℕ
total_from weight write [] = 0
total_from weight write (txn ∷ owners) = weight write txn + total_from weight (write + 1) owners

abbrev pub only_if : Bool → ℕ → ℕ
only_if true n = n
only_if false n = 0

-- the weight of the ids of one table
abbrev pub weight_in : ℕ → (ℕ → ℕ → ℕ) → IdNote → ℕ
weight_in table weight id = only_if (id.table == table) (weight id.write id.txn)

abbrev pub ended_weight : ℕ → (ℕ → ℕ → ℕ) → PlacedId → ℕ
ended_weight table weight ended = weight_in table weight ended.id

-- the transaction has committed, at no later place than this
pub record HasCommitted (state : State) (txn at : ℕ) : Type 0 where
  pub transaction : Transaction
  pub is : numbered state.transactions txn ≡ Some transaction
  pub ending : Ending
  pub ended : transaction.ending ≡ Some ending
  pub committed : (end_of ending).committed ≡ true
  pub before : (end_of ending).at ≤ at

abbrev pub IsSettled : State → PlacedId → Type 0
IsSettled state ended = HasCommitted state ended.id.txn ended.at

abbrev pub IsBehind : ℕ → PlacedId → Type 0
IsBehind limit ended = ended.at < limit

-- no place is behind one that comes later
abbrev pub PlacesRise : List PlacedId → Type 0
PlacesRise [] = Unit {0}
PlacesRise (first ∷ more) = AllByRecursion (λ (other : PlacedId). first.at ≤ other.at) more × PlacesRise more

abbrev pub is_before : ℕ → Option ℕ → Bool
is_before position None = false
is_before position (Some at) = nat_lt at position

abbrev pub IsBelowLimit : ℕ → Option ℕ → Type 0
IsBelowLimit limit None = Unit {0}
IsBelowLimit limit (Some at) = at < limit

abbrev pub IsDroppedBelow : ℕ → SpanNote → Type 0
IsDroppedBelow limit span = IsBelowLimit limit span.dropped

abbrev pub live_if : Bool → Bool → Option Bool
live_if true live = Some live
live_if false live = None

-- of a table: whether it was there before that place, and if so whether it was live there
abbrev pub live_then : ℕ → Option SpanNote → Option Bool
live_then position None = None
live_then position (Some span) = live_if (nat_lt span.made position) (not (is_before position span.dropped))

abbrev pub table_live : Table → Bool
table_live table = table.is_live

abbrev pub forgot_then : ℕ → ℕ → ForgotNote → Bool
forgot_then position table note = (note.table == table) && nat_lt note.at position

abbrev pub forgot_id : ForgotNote → ℕ
forgot_id note = note.write

-- an id of the table that was given before that place
abbrev pub given_then : ℕ → ℕ → PlacedId → ℕ
given_then position table placed = only_if ((placed.id.table == table) && nat_lt placed.at position) 1

-- The ids of each table are those of the three lists, each as often: every weight adds up to the same. What is settled counts as
-- committed from its place on. At each place the state that the entries before it leave has these tables, with so many ids given, and these ids forgotten.
pub record IsPast (entries : List Entry) (past : Past) : Type 0 where
  pub ids : (table : ℕ) (weight : ℕ → ℕ → ℕ) → total_from weight 1 (owners_in (numbered (state_of entries).tables table))
      ≡ total (weight_in table weight) past.pending + total (ended_weight table weight) past.aborted + total (ended_weight table weight) past.committed
  pub settled : AllByRecursion (IsSettled (state_of entries)) past.committed
  pub below : AllByRecursion (IsBehind (length entries)) past.committed
  pub rising : PlacesRise past.committed
  pub given : (position table : ℕ) → total (given_then position table) past.given
      ≡ length (owners_in (numbered (state_of (take position entries)).tables table))
  pub given_below : AllByRecursion (IsBehind (length entries)) past.given
  pub given_rising : PlacesRise past.given
  pub count : length past.spans ≡ length (state_of entries).tables
  pub dropped : AllByRecursion (IsDroppedBelow (length entries)) past.spans
  pub live : (position table : ℕ) → live_then position (numbered past.spans table)
      ≡ option_map table_live (numbered (state_of (take position entries)).tables table)
  pub forgotten : (position table : ℕ) → map forgot_id (filter (forgot_then position table) past.forgotten)
      ≡ forgotten_in (numbered (state_of (take position entries)).tables table)
