use Rattle.std.proofs.Common.{Bool, sym, ap, ◌∙◌}
use Rattle.std.specs.Prelude.{◌&&◌}
use Rattle.hv_book.specs.hv_history.specs.State.{state_of, numbered}
use Rattle.hv_meta.specs.States.{is_live_note}
use Rattle.hv_meta.proofs.DropLemmas.{named-law}
use Rattle.hv_meta.proofs.dropping.is_named.Goals as goal

pub returns-then-live : goal.returns-then-live
returns-then-live c =
    let there = numbered (state_of c.args.book.now.entries).tables c.args.table in
    record {
      named =
          ap (λ (b : Bool). b && c.has_name-same.result) (sym c.if-live.true)
          ∙ named-law c.args.name.now there c.is_live_note-live.result c.has_name-same.result
          (c.is_live_note-live.ensures ∙ ap is_live_note c.table_note.ensures.note) c.has_name-same.ensures.same;
    }

pub returns-else-live : goal.returns-else-live
returns-else-live c =
    let there = numbered (state_of c.args.book.now.entries).tables c.args.table in
    record {
      named =
          c.if-live.false ∙ ap (λ (b : Bool). b && c.has_name-same.result) (sym c.if-live.false)
          ∙ named-law c.args.name.now there c.is_live_note-live.result c.has_name-same.result
          (c.is_live_note-live.ensures ∙ ap is_live_note c.table_note.ensures.note) c.has_name-same.ensures.same;
    }
