-- A worked trail: a table is made, and then two transactions insert into it side by side. The put of the second one fails.
use Rattle.std.specs.Prelude.{ℕ, true, Option, Some, List, [], ◌∷◌, ◌++◌, codes, map}
use Rattle.std.specs.Option.{option_map}
use Rattle.hv_base.specs.declared.ids.TxnId.{TxnId}
use Rattle.hv_base.specs.declared.ids.TableId.{TableId}
use Rattle.hv_base.specs.declared.ids.Touch.{Touch}
use Rattle.hv_shelf.specs.declared.place.Place.{Place}
use Rattle.hv_book.specs.hv_history.specs.declared.entry.Entry.TheVariants as entry
use Rattle.hv_book.specs.hv_history.specs.declared.entry.Cause.TheVariants as cause
use Rattle.hv_book.specs.hv_history.specs.declared.state.Transaction.{Transaction}
use Rattle.hv_book.specs.hv_history.specs.declared.state.Snapshot.{Snapshot}
use Rattle.hv_book.specs.hv_history.specs.declared.state.Ending.{Ending}
use Rattle.hv_book.specs.hv_history.specs.State.{numbered}
use Rattle.hv_trail.specs.declared.trail.Reader.TheVariants.{Txn}
use Rattle.hv_trail.specs.declared.trail.Mark.TheVariants.{Wrote, Broke}
use Rattle.hv_trail.specs.declared.trail.TrailItem.{TrailItem}
use Rattle.hv_trail.specs.declared.trail.TrailItem.TheVariants.{Noted, Marked}
use Rattle.hv_trail.specs.Trail.{state_at}

abbrev txn : ℕ → TxnId
txn n = record { 0 = n }

abbrev pub made : TableId
made = record { 0 = 1 }

abbrev pub put_at : Place
put_at = record { table = made; partition = []; dir = codes "delta_0000001_0000001_0000"; bucket = 0 }

abbrev pub wrote : List Touch
wrote = record { table = made; partition = []; inserted = 1; deleted = 0 } ∷ []

-- places 0 to 3, and no mark
abbrev pub table_made : List TrailItem
table_made =
    map Noted
    (entry.Boot 0
    ∷ entry.Opened (txn 1) (codes "a") 0 (codes "CREATE TABLE t (a INT)")
    ∷ entry.Start (txn 1) 0
    ∷ entry.Create (txn 1) made
    ∷ [])

-- places 4 to 11: both are open, and each has a write id
abbrev pub both_open : List TrailItem
both_open =
    table_made
    ++ Noted (entry.Opened (txn 2) (codes "a") 1 (codes "INSERT INTO t VALUES (1)"))
    ∷ Noted (entry.Opened (txn 3) (codes "b") 0 (codes "INSERT INTO t VALUES (2)"))
    ∷ Noted (entry.Start (txn 2) 0)
    ∷ Noted (entry.Start (txn 3) 0)
    ∷ Noted (entry.Given (txn 2) made (record { 0 = 1 }))
    ∷ Marked (Wrote (Txn (txn 2)) put_at)
    ∷ Noted (entry.Given (txn 3) made (record { 0 = 2 }))
    ∷ Marked (Broke (Some (Txn (txn 3))) true 1)
    ∷ []

-- places 12 and 13: the later one ends first
abbrev pub both_ended : List TrailItem
both_ended = both_open ++ Noted (entry.Abort (txn 3) (cause.WriteFault 1)) ∷ Noted (entry.Commit (txn 2) wrote) ∷ []

abbrev pub record_of : ℕ → List TrailItem → Option Transaction
record_of number trail = numbered (state_at trail).transactions number

abbrev place_in : Option Snapshot → Option ℕ
place_in snapshot = option_map (λ (s : Snapshot). s.place) snapshot

-- where in the book the snapshot of a transaction stands
abbrev pub snapshot_at : Option Transaction → Option (Option ℕ)
snapshot_at found = option_map (λ (t : Transaction). place_in t.snapshot) found

abbrev pub ids_of : Option Transaction → Option (List (ℕ × ℕ))
ids_of found = option_map (λ (t : Transaction). t.given) found

abbrev pub ending_of : Option Transaction → Option (Option Ending)
ending_of found = option_map (λ (t : Transaction). t.ending) found
