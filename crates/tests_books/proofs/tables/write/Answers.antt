use Rattle.std.proofs.Common.{ap, ◌∙◌}
use Rattle.std.specs.Prelude.{List, slice_set}
use Rattle.hv_history.specs.declared.state.Written.{Written}
use Rattle.hv_history.specs.State.{written_to}
use Rattle.hv_history.proofs.NumberLemmas.{put_changed}
use Rattle.tests_books.proofs.tables.write.Goals as goal

pub returns : goal.returns
returns c =
    ap (λ (items : List Written). slice_set c.args.tables.now.items c.in-Some.at (record (c.index_mut-table.result.now) { writes = items })) c.in_ok-append.ensures
    ∙ put_changed (λ f. f) (written_to c.args.written) c.args.tables.now.items c.deref.result.now c.args.table c.in-Some.at c.index_mut-table.result.now
    c.deref.ensures.value c.in-Some.ensures.1 c.index_mut-table.ensures.value
