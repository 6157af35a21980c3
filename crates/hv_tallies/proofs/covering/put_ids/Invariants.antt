use Rattle.std.proofs.Common.{◌≡◌, ◌++◌, drop}
use Rattle.std.specs.List.{flat_map}
use Rattle.hv_jobs.specs.hv_history.specs.State.{state_of}
use Rattle.hv_tallies.specs.Covered.{names_at}
use Rattle.hv_tallies.proofs.covering.put_ids.Given as goal

abbrev pub invariant-loop-id : goal.invariant-loop-id
invariant-loop-id l =
    l.names.items ++ flat_map (names_at (state_of l.book.entries) l.table l.partition l.note) (drop l.id-index l.ids)
    ≡ l.fn.names.items ++ flat_map (names_at (state_of l.book.entries) l.table l.partition l.note) l.ids
