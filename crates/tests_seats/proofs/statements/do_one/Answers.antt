use Rattle.std.proofs.Common.{subst}
use Rattle.hv_ast.specs.declared.statement.Stmt.{Stmt}
use Rattle.hv_session.specs.hv_beginning.proofs.Openings.{one-tree}
use Rattle.tests_seats.specs.Beside.{IsOnItsWay}
use Rattle.tests_seats.proofs.statements.do_one.Goals as goal

pub begun-requires-clause-runs : goal.begun-requires-clause-runs
begun-requires-clause-runs g c = c.requires.asked.kept

pub begun-requires-clause-short : goal.begun-requires-clause-short
begun-requires-clause-short g c = c.requires.asked.short

pub begun-requires-clause-named : goal.begun-requires-clause-named
begun-requires-clause-named g c = c.requires.asked.named

pub end_one-requires-clause-way : goal.end_one-requires-clause-way
end_one-requires-clause-way g c = (
  record { session = c.args.asked.session; number = 0; text = c.args.asked.text },
  subst (λ (s : Stmt). IsOnItsWay (g.W.Actor.house c.begun.new.actor)
      (record { session = c.args.asked.session; number = 0; text = c.args.asked.text }) s c.in-Some.way)
      (one-tree c.args.asked.text c.args.asked.kept c.args.asked.tree c.requires.asked.kept c.requires.asked.tree) c.in-Some.ensures.way,
)
