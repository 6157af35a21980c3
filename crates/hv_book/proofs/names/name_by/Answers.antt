use Rattle.std.proofs.Common.{ap, ◌∙◌}
use Rattle.hv_history.specs.hv_meaning.specs.hv_typing.specs.hv_logic.specs.declared.catalog.Shape.{Shape}
use Rattle.hv_history.specs.State.{state_of, numbered, created_shape}
use Rattle.hv_book.proofs.SaidLaws.{made-said}
use Rattle.hv_book.proofs.names.name_by.Goals as goal

pub returns : goal.returns
returns c =
    let opened = numbered (state_of c.args.book.now.entries).transactions c.args.txn in
    record {
      name =
          c.made_name.ensures.name ∙ ap (λ tree. (created_shape tree).name) c.opening_tree.ensures.tree
          ∙ ap (λ (shape : Shape). shape.name) (made-said opened);
    }
