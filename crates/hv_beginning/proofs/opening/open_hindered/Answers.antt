use Rattle.std.proofs.Common.{sym, subst}
use Rattle.hv_ast.specs.declared.statement.Stmt.{Stmt}
use Rattle.hv_beginning.specs.Beginnings.{GoesBeginning, WasHindered}
use Rattle.hv_beginning.proofs.Openings.{one-tree, hindered-lacks}
use Rattle.hv_actor.specs.Acting.{among, known}
use Rattle.hv_beginning.proofs.opening.open_hindered.Goals as goal

pub returns-in-Ok-clause-goes : goal.returns-in-Ok-clause-goes
returns-in-Ok-clause-goes g c = λ first own said runs was.
    let same = one-tree c.args.text c.in-Ok.tree said c.in-Ok.ensures.tree runs in
    subst (λ (s : Stmt). GoesBeginning (among g.D.Shelf.told g.D.Shelf.faults g.W.Actor.between g.W.Actor.meanwhile)
    (record { session = c.args.session; number = c.args.number; text = c.args.text }) s
    (known own first) (known (g.W.Actor.own c.open_and_start.new.actor) (g.W.Actor.house c.open_and_start.new.actor)) c.open_and_start.result) same
    (c.open_and_start.ensures.goes first own
    (subst (λ (s : Stmt). WasHindered g.D.Shelf.faults g.W.Actor.between s (known own first)
    (known (g.W.Actor.own c.args.actor.now) (g.W.Actor.house c.args.actor.now))) (sym same) was))

pub returns-in-Err-clause-goes : goal.returns-in-Err-clause-goes
returns-in-Err-clause-goes g c = λ first own said runs was.
    hindered-lacks g.D.Shelf.told g.D.Shelf.faults g.W.Actor.between g.met.W.Actor.rows g.W.Actor.meanwhile g.met.W.Actor.goes_on
    first (g.W.Actor.house c.args.actor.now) own (g.W.Actor.own c.args.actor.now) (record { session = c.args.session; number = c.args.number; text = c.args.text }) said was
