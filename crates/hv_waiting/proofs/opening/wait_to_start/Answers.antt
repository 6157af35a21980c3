use Rattle.std.proofs.Common.{sym, ◌∙◌}
use Rattle.hv_waiting.proofs.Turns.{held-open, held-still}
use Rattle.hv_waiting.proofs.opening.wait_to_start.Goals as goal

pub loop-init : goal.loop-init
loop-init g c = (c.requires.keeps, c.requires.running, c.requires.was, λ first own asking said was. was)

pub start_or_wait-found-requires-clause-keeps : goal.start_or_wait-found-requires-clause-keeps
start_or_wait-found-requires-clause-keeps g c = c.loop.invariant.0

pub start_or_wait-found-requires-clause-running : goal.start_or_wait-found-requires-clause-running
start_or_wait-found-requires-clause-running g c = c.loop.invariant.1

pub start_or_wait-found-requires-clause-was : goal.start_or_wait-found-requires-clause-was
start_or_wait-found-requires-clause-was g c = c.loop.invariant.2

pub returns-then-is_settled-clause-starts : goal.returns-then-is_settled-clause-starts
returns-then-is_settled-clause-starts g c = λ first own asking said was.
    c.start_or_wait-found.ensures.starts first own asking said (c.loop.invariant.3 first own asking said was)

pub returns-then-is_settled-clause-settled : goal.returns-then-is_settled-clause-settled
returns-then-is_settled-clause-settled g c = sym c.is_settled.ensures ∙ c.if-is_settled.true

pub loop-preserved : goal.loop-preserved
loop-preserved g c =
    let found = c.start_or_wait-found.result in
    let now = g.W.Actor.house c.start_or_wait-found.new.actor in
    let waits = sym c.is_settled.ensures ∙ c.if-is_settled.false in (
      c.start_or_wait-found.ensures.keeps,
      held-open g.D.Shelf.told g.W.Actor.meanwhile c.args.txn.0 now found waits c.start_or_wait-found.ensures.left,
      c.start_or_wait-found.ensures.was,
      λ first own asking said was.
          held-still g.D.Shelf.told g.D.Shelf.faults g.W.Actor.between g.met.W.Actor.rows g.W.Actor.meanwhile g.met.W.Actor.goes_on
          first now own (g.W.Actor.own c.start_or_wait-found.new.actor) asking c.args.txn said found waits
          (c.start_or_wait-found.ensures.starts first own asking said (c.loop.invariant.3 first own asking said was)),
    )
