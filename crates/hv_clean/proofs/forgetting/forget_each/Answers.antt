use Rattle.hv_actor.specs.Acting.{known}
use Rattle.std.proofs.Common.{◌≡◌, ◌+◌, ℕ, List, sym, subst, arith}
use Rattle.hv_actor.specs.Acting.{among, numbers_from}
use Rattle.hv_job_acts.specs.hv_acts.specs.Told.{trail_in}
use Rattle.hv_clean.specs.Passing.{ForgetTables, ids_of}
use Rattle.hv_clean.proofs.Moved.{sweeps-none, tables-more, moves-table, moves-front}
use Rattle.hv_clean.proofs.Came.{tables-stop}
use Rattle.hv_clean.proofs.Lasts.{all-lost}
use Rattle.hv_clean.proofs.Forgets.{next-number}
use Rattle.hv_clean.proofs.forgetting.forget_each.Goals as goal

pub loop-i-init : goal.loop-i-init
loop-i-init g c = (
  c.requires.keeps,
  c.requires.running,
  c.requires.lost,
  sweeps-none g.D.Shelf.told g.D.Shelf.faults g.W.Actor.between g.met.W.Actor.rows g.W.Actor.meanwhile (known (g.W.Actor.own c.args.actor.now) (g.W.Actor.house c.args.actor.now)) c.args.swept.now c.requires.running,
)

pub returns-in-Err-clause-less : goal.returns-in-Err-clause-less
returns-in-Err-clause-less g c =
    tables-stop g.D.Shelf.told g.D.Shelf.faults g.W.Actor.between g.met.W.Actor.rows g.W.Actor.meanwhile (known (g.W.Actor.own c.args.actor.now) (g.W.Actor.house c.args.actor.now)) (known (g.W.Actor.own c.loop-i.actor) (g.W.Actor.house c.loop-i.actor)) (known (g.W.Actor.own c.forget_table.new.actor) (g.W.Actor.house c.forget_table.new.actor)) c.loop-i.i c.args.tables c.args.ids.now c.args.swept.now c.loop-i.swept c.in-Err.why c.loop-i-test.true c.loop-i.invariant.3 c.in-Err.ensures.less

pub loop-i-preserved : goal.loop-i-preserved
loop-i-preserved g c =
    let ids = c.args.ids.now in
    let i = c.loop-i.i in
    let one = c.in_default.ensures.forgets in
    let moves = moves-table g.D.Shelf.told g.D.Shelf.faults g.W.Actor.between g.met.W.Actor.rows g.W.Actor.meanwhile (known (g.W.Actor.own c.loop-i.actor) (g.W.Actor.house c.loop-i.actor)) (known (g.W.Actor.own c.forget_table.new.actor) (g.W.Actor.house c.forget_table.new.actor)) (ids_of (i + 1) ids) c.loop-i.swept c.forget_table.new.swept one in (
      c.forget_table.ensures.keeps,
      moves.running,
      all-lost (trail_in (g.W.Actor.house c.loop-i.actor)) (trail_in (g.W.Actor.house c.forget_table.new.actor)) (moves-front g.D.Shelf.told g.D.Shelf.faults g.W.Actor.between g.met.W.Actor.rows g.W.Actor.meanwhile (known (g.W.Actor.own c.loop-i.actor) (g.W.Actor.house c.loop-i.actor)) (known (g.W.Actor.own c.forget_table.new.actor) (g.W.Actor.house c.forget_table.new.actor)) moves) ids c.loop-i.invariant.2,
      subst (λ (xs : List ℕ). ForgetTables (among g.D.Shelf.told g.D.Shelf.faults g.W.Actor.between g.W.Actor.meanwhile) (known (g.W.Actor.own c.args.actor.now) (g.W.Actor.house c.args.actor.now)) (known (g.W.Actor.own c.forget_table.new.actor) (g.W.Actor.house c.forget_table.new.actor)) xs ids c.args.swept.now c.forget_table.new.swept)
          (sym (next-number i))
          (tables-more g.D.Shelf.told g.D.Shelf.faults g.W.Actor.between g.met.W.Actor.rows g.W.Actor.meanwhile (known (g.W.Actor.own c.args.actor.now) (g.W.Actor.house c.args.actor.now)) (known (g.W.Actor.own c.loop-i.actor) (g.W.Actor.house c.loop-i.actor)) (known (g.W.Actor.own c.forget_table.new.actor) (g.W.Actor.house c.forget_table.new.actor)) (numbers_from 1 i) (i + 1) ids c.args.swept.now c.loop-i.swept c.forget_table.new.swept
          c.loop-i.invariant.3 one),
    )

pub returns-clause-forgets : goal.returns-clause-forgets
returns-clause-forgets g c =
    subst (λ (n : ℕ). ForgetTables (among g.D.Shelf.told g.D.Shelf.faults g.W.Actor.between g.W.Actor.meanwhile) (known (g.W.Actor.own c.args.actor.now) (g.W.Actor.house c.args.actor.now)) (known (g.W.Actor.own c.loop-i.actor) (g.W.Actor.house c.loop-i.actor)) (numbers_from 1 n) c.args.ids.now c.args.swept.now c.loop-i.swept)
    (let end : c.loop-i.i ≡ c.args.tables = omega (arith, c.loop-i-test.false, c.loop-i.auto.i-end) in end) c.loop-i.invariant.3
