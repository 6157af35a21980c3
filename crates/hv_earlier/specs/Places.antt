-- What the notes beside a book say of an earlier place of it.
use Rattle.std.specs.Prelude.{◌≡◌, ℕ, ◌==◌, ◌&&◌, nat_lt, nat_le, Bool, true, false, Option, Some, None, List, [], ◌∷◌, length, take}
use Rattle.std.specs.List.{list_any}
use Rattle.hv_meta.specs.hv_book.specs.hv_history.specs.declared.entry.Entry.{Entry}
use Rattle.hv_meta.specs.hv_book.specs.hv_history.specs.State.{state_of, numbered}
use Rattle.hv_meta.specs.hv_book.specs.declared.notes.End.{End}
use Rattle.hv_meta.specs.hv_book.specs.declared.notes.TransactionNote.{TransactionNote}
use Rattle.hv_ids.specs.declared.notes.IdNote.{IdNote}
use Rattle.hv_ids.specs.declared.notes.PlacedId.{PlacedId}
use Rattle.hv_meta.specs.hv_book.specs.declared.past.ForgotNote.{ForgotNote}
use Rattle.hv_meta.specs.hv_book.specs.Past.{owners_in, total, only_if, forgot_then}
use Rattle.hv_wids.specs.declared.list.Exception.{Exception}
use Rattle.hv_earlier.specs.declared.fates.Fate.{Fate}
use Rattle.hv_earlier.specs.declared.fates.Fate.TheVariants as fate
use Rattle.hv_earlier.specs.declared.exceptions.Spot.{Spot}
use Rattle.hv_earlier.specs.Lists.{exception, unless_forgotten}

-- ---- what came from that place on

-- an id of the table that was given from that place on
abbrev pub given_from : ℕ → ℕ → PlacedId → ℕ
given_from position table placed = only_if ((placed.id.table == table) && nat_le position placed.at) 1

-- ---- whether a table was there and live

abbrev pub live_so : Option Bool → Bool
live_so None = false
live_so (Some live) = live

-- ---- how a transaction stood there

abbrev pub fate_when : Bool → Bool → Fate
fate_when false committed = fate.Open
fate_when true true = fate.Committed
fate_when true false = fate.Aborted

abbrev pub fate_then : ℕ → Option End → Fate
fate_then position None = fate.Open
fate_then position (Some end) = fate_when (nat_lt end.at position) end.committed

abbrev pub fate_if : Bool → Fate → Option Fate
fate_if true of = Some of
fate_if false of = None

-- of the transaction of that number, where so many were opened before that place
abbrev pub fate_in : ℕ → ℕ → ℕ → Option TransactionNote → Option Fate
fate_in position transactions txn None = None
fate_in position transactions txn (Some note) = fate_if (nat_le txn transactions) (fate_then position note.ending)

-- ---- which ids were exceptions there

abbrev pub is_forgot : Spot → ℕ → ForgotNote → Bool
is_forgot spot write note = forgot_then spot.position spot.table note && (note.write == write)

abbrev pub exception_then : List ForgotNote → Spot → ℕ → Option Fate → List Exception
exception_then forgotten spot write None = []
exception_then forgotten spot write (Some fate.Open) = exception write false ∷ []
exception_then forgotten spot write (Some fate.Committed) = []
exception_then forgotten spot write (Some fate.Aborted) = unless_forgotten (list_any (is_forgot spot write) forgotten) write

abbrev pub only_those : {A : Type 0} → Bool → List A → List A
only_those true xs = xs
only_those false xs = []

unfoldable pub exceptions_of : List TransactionNote → List ForgotNote → Spot → IdNote → List Exception
exceptions_of notes forgotten spot id =
    only_those ((id.table == spot.table) && nat_le id.write spot.high)
    (exception_then forgotten spot id.write (fate_in spot.position spot.transactions id.txn (numbered notes id.txn)))

unfoldable pub ended_exceptions : List TransactionNote → List ForgotNote → Spot → PlacedId → List Exception
ended_exceptions notes forgotten spot ended = exceptions_of notes forgotten spot ended.id

-- what the exceptions that an id gives weigh, where its place is from there on
abbrev pub weight_from : List TransactionNote → List ForgotNote → Spot → ℕ → (Exception → ℕ) → PlacedId → ℕ
weight_from notes forgotten spot from weight ended =
    only_if (nat_le from ended.at) (total weight (ended_exceptions notes forgotten spot ended))

-- the spot is that place: its table had so many ids there, and so many transactions were opened
pub record IsSpot (entries : List Entry) (spot : Spot) : Type 0 where
  pub high : spot.high ≡ length (owners_in (numbered (state_of (take spot.position entries)).tables spot.table))
  pub transactions : spot.transactions ≡ length (state_of (take spot.position entries)).transactions

abbrev pub write_of : Exception → ℕ
write_of exception = exception.write.0
