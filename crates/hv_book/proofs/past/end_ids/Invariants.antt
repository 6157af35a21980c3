use Rattle.std.proofs.Common.{◌≡◌, ◌++◌, ◌+◌, ◌≤◌, drop, length}
use Rattle.std.specs.List.{AllByRecursion}
use Rattle.hv_book.specs.Past.{ended_of, IsTableThere}
use Rattle.hv_book.proofs.past.end_ids.Given as goal

abbrev pub invariant-loop-id : goal.invariant-loop-id
invariant-loop-id l =
    (l.ended.ids ++ ended_of l.txn l.at (drop l.id-index l.ids) ≡ l.fn.ended.ids ++ ended_of l.txn l.at l.ids)
    × (l.ended.room + length (ended_of l.txn l.at l.ids) ≡ l.fn.ended.room + length (ended_of l.txn l.at (drop l.id-index l.ids)))
    × (length (drop l.id-index l.ids) ≤ l.ended.room)
    × (l.ended.tables ≡ l.fn.ended.tables)
    × (l.ended.table_room ≡ l.fn.ended.table_room)
    × AllByRecursion (IsTableThere l.ended.tables) (drop l.id-index l.ids)
