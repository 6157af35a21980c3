use Rattle.std.proofs.Common.{sym, ◌∙◌}
use Rattle.hv_actor.specs.Acting.{known}
use Rattle.hv_background.specs.Rounds.{is_cleaners}
use Rattle.hv_background.proofs.Items.{tested-none, tested-more, goes-open}
use Rattle.hv_background.proofs.cleaner.clean_until.Goals as goal

pub loop-init : goal.loop-init
loop-init g c = (
  c.requires.keeps,
  c.requires.running,
  tested-none g.D.Shelf.told g.D.Shelf.faults g.W.Actor.between g.met.W.Actor.rows g.W.Actor.meanwhile is_cleaners
      (known (g.W.Actor.own c.args.actor.now) (g.W.Actor.house c.args.actor.now)),
)

pub returns-then-stopped-clause-adds : goal.returns-then-stopped-clause-adds
returns-then-stopped-clause-adds g c = c.loop.invariant.2

pub returns-then-has_stopped-clause-adds : goal.returns-then-has_stopped-clause-adds
returns-then-has_stopped-clause-adds g c =
    tested-more g.D.Shelf.told g.D.Shelf.faults g.W.Actor.between g.met.W.Actor.rows g.W.Actor.meanwhile is_cleaners
    (known (g.W.Actor.own c.args.actor.now) (g.W.Actor.house c.args.actor.now)) (known (g.W.Actor.own c.loop.actor) (g.W.Actor.house c.loop.actor)) (known (g.W.Actor.own c.clean_round-done.new.actor) (g.W.Actor.house c.clean_round-done.new.actor))
    c.loop.invariant.2 c.clean_round-done.ensures.adds

pub loop-preserved : goal.loop-preserved
loop-preserved g c = (
  c.clean_round-done.ensures.keeps,
  goes-open (g.W.Actor.house c.clean_round-done.new.actor) c.clean_round-done.result (sym c.has_stopped.ensures ∙ c.if-has_stopped.false) c.clean_round-done.ensures.running,
  tested-more g.D.Shelf.told g.D.Shelf.faults g.W.Actor.between g.met.W.Actor.rows g.W.Actor.meanwhile is_cleaners
      (known (g.W.Actor.own c.args.actor.now) (g.W.Actor.house c.args.actor.now)) (known (g.W.Actor.own c.loop.actor) (g.W.Actor.house c.loop.actor)) (known (g.W.Actor.own c.clean_round-done.new.actor) (g.W.Actor.house c.clean_round-done.new.actor))
      c.loop.invariant.2 c.clean_round-done.ensures.adds,
)
