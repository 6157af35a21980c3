use Rattle.hv_actor.specs.Acting.{known}
use Rattle.std.proofs.Common.{rules, sym, ◌∙◌, ap, subst}
use Rattle.hv_clean.specs.declared.cleaning.Removal.{Removal}
use Rattle.hv_clean.specs.Removing.{ends, RemovalSays}
use Rattle.hv_job_acts.specs.hv_acts.specs.Told.{trail_in}
use Rattle.hv_clean.proofs.Moved.{less-behind}
use Rattle.hv_clean.proofs.Turns.{RemovesUpTo, up-none, up-first, up-sweeps, up-says, up-ends, up-more, up-end, empty-rest}
use Rattle.hv_clean.proofs.cleaning.remove_each.Goals as goal

pub loop-dir-init : goal.loop-dir-init
loop-dir-init g c = (
  c.requires.keeps,
  up-none g.D.Shelf.told g.D.Shelf.faults g.W.Actor.between g.met.W.Actor.rows g.W.Actor.meanwhile c.args.job (known (g.W.Actor.own c.args.actor.now) (g.W.Actor.house c.args.actor.now)) c.args.dirs.items c.into_iter-dir-iterator.result.rest.items c.args.swept.now c.requires.running
      (search rules) c.requires.covered,
)

pub remove_one-requires : goal.remove_one-requires
remove_one-requires g c = record {
  keeps = c.loop-dir.invariant.0;
  running = c.loop-dir.invariant.1.sweeps.running;
  covered = up-first g.D.Shelf.told g.D.Shelf.faults g.W.Actor.between g.met.W.Actor.rows g.W.Actor.meanwhile c.args.job (known (g.W.Actor.own c.args.actor.now) (g.W.Actor.house c.args.actor.now)) (known (g.W.Actor.own c.loop-dir.actor) (g.W.Actor.house c.loop-dir.actor)) c.args.dirs.items c.loop-dir.dir-iterator.rest.items c.next.new.self.rest.items c.in-Some.dir c.args.swept.now c.loop-dir.swept c.loop-dir.removal
      c.in-Some.ensures.steps.0 c.loop-dir.invariant.1;
}

pub returns-in-Err-clause-less : goal.returns-in-Err-clause-less
returns-in-Err-clause-less g c =
    less-behind g.D.Shelf.told g.D.Shelf.faults g.W.Actor.between g.met.W.Actor.rows g.W.Actor.meanwhile (known (g.W.Actor.own c.args.actor.now) (g.W.Actor.house c.args.actor.now)) (known (g.W.Actor.own c.loop-dir.actor) (g.W.Actor.house c.loop-dir.actor)) (known (g.W.Actor.own c.remove_one.new.actor) (g.W.Actor.house c.remove_one.new.actor)) c.args.swept.now c.loop-dir.swept c.in-Err.why c.loop-dir.invariant.1.sweeps c.in-Err.ensures.less

pub returns-then-ends-clause-sweeps : goal.returns-then-ends-clause-sweeps
returns-then-ends-clause-sweeps g c =
    up-sweeps g.D.Shelf.told g.D.Shelf.faults g.W.Actor.between g.met.W.Actor.rows g.W.Actor.meanwhile c.args.job (known (g.W.Actor.own c.args.actor.now) (g.W.Actor.house c.args.actor.now)) (known (g.W.Actor.own c.loop-dir.actor) (g.W.Actor.house c.loop-dir.actor)) (known (g.W.Actor.own c.remove_one.new.actor) (g.W.Actor.house c.remove_one.new.actor)) c.args.dirs.items c.loop-dir.dir-iterator.rest.items c.args.swept.now c.loop-dir.swept c.remove_one.new.swept c.loop-dir.removal
    c.loop-dir.invariant.1 c.in-Ok.ensures.sweeps

pub returns-then-ends-clause-went : goal.returns-then-ends-clause-went
returns-then-ends-clause-went g c =
    up-ends g.D.Shelf.told g.D.Shelf.faults g.W.Actor.between g.met.W.Actor.rows g.W.Actor.meanwhile c.args.job (trail_in (g.W.Actor.house c.remove_one.new.actor)) c.args.dirs.items c.joined-removal.result (sym c.ends.ensures ∙ c.if-ends.true)

pub returns-then-ends-clause-says : goal.returns-then-ends-clause-says
returns-then-ends-clause-says g c =
    subst (λ (removal : Removal). RemovalSays (g.W.Actor.house c.args.actor.now) (g.W.Actor.house c.remove_one.new.actor) c.args.job c.args.swept.now c.remove_one.new.swept removal) (sym c.joined-removal.ensures)
    (up-says g.D.Shelf.told g.D.Shelf.faults g.W.Actor.between g.met.W.Actor.rows g.W.Actor.meanwhile c.args.job (known (g.W.Actor.own c.args.actor.now) (g.W.Actor.house c.args.actor.now)) (known (g.W.Actor.own c.loop-dir.actor) (g.W.Actor.house c.loop-dir.actor)) (known (g.W.Actor.own c.remove_one.new.actor) (g.W.Actor.house c.remove_one.new.actor)) c.args.dirs.items c.loop-dir.dir-iterator.rest.items c.args.swept.now c.loop-dir.swept c.remove_one.new.swept c.loop-dir.removal c.in-Ok.next
    c.loop-dir.invariant.1 c.in-Ok.ensures.sweeps c.in-Ok.ensures.says)

pub loop-dir-preserved : goal.loop-dir-preserved
loop-dir-preserved g c = (
  c.remove_one.ensures.keeps,
  subst (λ (removal : Removal). RemovesUpTo g.D.Shelf.told g.D.Shelf.faults g.W.Actor.between g.W.Actor.meanwhile c.args.job (known (g.W.Actor.own c.args.actor.now) (g.W.Actor.house c.args.actor.now)) (known (g.W.Actor.own c.remove_one.new.actor) (g.W.Actor.house c.remove_one.new.actor)) c.args.dirs.items c.next.new.self.rest.items
      c.args.swept.now c.remove_one.new.swept removal) (sym c.joined-removal.ensures)
      (up-more g.D.Shelf.told g.D.Shelf.faults g.W.Actor.between g.met.W.Actor.rows g.W.Actor.meanwhile c.args.job (known (g.W.Actor.own c.args.actor.now) (g.W.Actor.house c.args.actor.now)) (known (g.W.Actor.own c.loop-dir.actor) (g.W.Actor.house c.loop-dir.actor)) (known (g.W.Actor.own c.remove_one.new.actor) (g.W.Actor.house c.remove_one.new.actor)) c.args.dirs.items c.loop-dir.dir-iterator.rest.items c.next.new.self.rest.items c.in-Some.dir c.args.swept.now c.loop-dir.swept
      c.remove_one.new.swept c.loop-dir.removal c.in-Ok.next c.in-Some.ensures.steps.0 c.loop-dir.invariant.1 c.in-Ok.ensures.sweeps c.in-Ok.ensures.went
      c.in-Ok.ensures.says (ap ends (sym c.joined-removal.ensures) ∙ sym c.ends.ensures ∙ c.if-ends.false)),
)

pub returns-clause-sweeps : goal.returns-clause-sweeps
returns-clause-sweeps g c = c.loop-dir.invariant.1.sweeps

pub returns-clause-says : goal.returns-clause-says
returns-clause-says g c = c.loop-dir.invariant.1.says

pub returns-clause-went : goal.returns-clause-went
returns-clause-went g c =
    up-end g.D.Shelf.told g.D.Shelf.faults g.W.Actor.between g.met.W.Actor.rows g.W.Actor.meanwhile c.args.job (known (g.W.Actor.own c.args.actor.now) (g.W.Actor.house c.args.actor.now)) (known (g.W.Actor.own c.loop-dir.actor) (g.W.Actor.house c.loop-dir.actor)) c.args.dirs.items c.loop-dir.dir-iterator.rest.items c.args.swept.now c.loop-dir.swept c.loop-dir.removal
    (empty-rest c.loop-dir.dir-iterator.rest.len c.loop-dir.dir-iterator.rest.items c.loop-dir.dir-iterator.rest.ok.0 c.in-None.ensures.steps.0)
    c.loop-dir.invariant.1
