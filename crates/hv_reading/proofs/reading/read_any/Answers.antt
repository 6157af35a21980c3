use Rattle.std.proofs.Common.{Ok, sym, ap, ◌∙◌}
use Rattle.std.proofs.lemmas.Result.{err_from_is_err_and}
use Rattle.hv_reading.proofs.Texts.{tree-set, fault-set, tree-tokens, fault-tokens, fault-lexing}
use Rattle.hv_reading.proofs.reading.read_any.Goals as goal

pub returns-in_err-parse_set-clause-fault : goal.returns-in_err-parse_set-clause-fault
returns-in_err-parse_set-clause-fault c =
    let left = err_from_is_err_and c.from_residual.result c.from_residual.ensures.1 in
    rw (left.1, left.2) (fault-set c.args.text.now _ (sym c.is_set.ensures ∙ c.if-is_set.true) c.in_err-parse_set.ensures)

pub returns-then-is_set-clause-tree : goal.returns-then-is_set-clause-tree
returns-then-is_set-clause-tree c = tree-set c.args.text.now _ (sym c.is_set.ensures ∙ c.if-is_set.true) c.in_ok-parse_set.ensures

pub returns-in_err-tokens-clause-fault : goal.returns-in_err-tokens-clause-fault
returns-in_err-tokens-clause-fault c =
    let left = err_from_is_err_and c.from_residual-in_err-tokens.result c.from_residual-in_err-tokens.ensures.1 in
    rw (left.1, left.2) (fault-lexing c.args.text.now _ (sym c.is_set.ensures ∙ c.if-is_set.false) c.in_err-tokens.ensures.fault)

pub returns-in_err-parse_stmt-clause-fault : goal.returns-in_err-parse_stmt-clause-fault
returns-in_err-parse_stmt-clause-fault c =
    let left = err_from_is_err_and c.from_residual-in_err-parse_stmt.result c.from_residual-in_err-parse_stmt.ensures.1 in
    rw (left.1, left.2)
    (fault-tokens c.args.text.now c.deref.result.now _ (sym c.is_set.ensures ∙ c.if-is_set.false)
    (c.in_ok-tokens.ensures.tokens ∙ ap Ok (sym c.deref.ensures.value)) c.in_err-parse_stmt.ensures.read)

pub returns-clause-tree : goal.returns-clause-tree
returns-clause-tree c =
    tree-tokens c.args.text.now c.deref.result.now _ (sym c.is_set.ensures ∙ c.if-is_set.false)
    (c.in_ok-tokens.ensures.tokens ∙ ap Ok (sym c.deref.ensures.value)) c.in_ok-parse_stmt.ensures.read
