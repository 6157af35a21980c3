use Rattle.std.proofs.Common.{ap, ◌∙◌}
use Rattle.std.specs.Prelude.{slice_set}
use Rattle.hv_history.specs.declared.state.Table.{Table}
use Rattle.hv_history.proofs.NumberLemmas.{put_changed}
use Rattle.tests_books.specs.Replay.{kept}
use Rattle.tests_books.proofs.tables.keep.Goals as goal

pub returns : goal.returns
returns c =
    ap (λ (t : Table). slice_set c.args.tables.now.items c.in-Some.at t) c.in_ok-keep_one.ensures
    ∙ put_changed (λ f. f) (kept c.args.entry.now) c.args.tables.now.items c.deref.result.now c.args.table c.in-Some.at c.index_mut-table.result.now
    c.deref.ensures.value c.in-Some.ensures.1 c.index_mut-table.ensures.value
