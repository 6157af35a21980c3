use Rattle.std.proofs.Common.{sym, subst, arith}
use Rattle.hv_table_reader.specs.hv_acts.specs.Told.{trail_in}
use Rattle.hv_steps.specs.Going.{faults_in}
use Rattle.hv_steps.specs.declared.reply.Prepared.{Prepared}
use Rattle.hv_steps.specs.Phases.{CanConcludeIn}
use Rattle.hv_steps.specs.Preparing.{IsFaultOf}
use Rattle.hv_steps.proofs.Joining.{opened-lasts, adds-front}
use Rattle.hv_steps.proofs.Parts.{put-writes, broken-writes, change-can, id-lasts, ends-can}
use Rattle.hv_steps.proofs.preparing.put_rows.Goals as goal

pub break_off-requires-clause-refusal : goal.break_off-requires-clause-refusal
break_off-requires-clause-refusal g c = (faults_in g.D.Shelf.faults (g.W.Actor.house c.args.actor.now), c.in-Err.ensures.refusal)

pub break_off-requires-clause-was : goal.break_off-requires-clause-was
break_off-requires-clause-was g c =
    let a = g.W.Actor.house c.args.actor.now in
    let b = g.W.Actor.house c.put.new.actor in
    opened-lasts c.args.way.txn.0 (trail_in a) (trail_in b)
    (adds-front g.D.Shelf.faults g.W.Actor.between g.met.W.Actor.rows (g.W.Actor.own c.args.actor.now) (g.W.Actor.own c.put.new.actor) a b _ c.in-Err.ensures.adds) c.requires.was

pub returns-in-Ok-clause-goes : goal.returns-in-Ok-clause-goes
returns-in-Ok-clause-goes g c =
    let a = g.W.Actor.house c.args.actor.now in
    let b = g.W.Actor.house c.put.new.actor in
    put-writes g.D.Shelf.told g.D.Shelf.faults g.W.Actor.between g.met.W.Actor.rows g.W.Actor.meanwhile c.args.way.txn.0 (faults_in g.D.Shelf.faults a)
    (g.W.Actor.own c.args.actor.now) (g.W.Actor.own c.put.new.actor) a b c.args.change.info c.args.change.effect c.args.write.0 c.args.change.wrote c.args.change.text.items
    c.in-Ok.done c.written.result c.in-Ok.ensures.adds c.in-Ok.ensures.running c.in-Ok.ensures.put c.requires.wrote c.requires.text c.written.ensures

pub returns-in-Ok-clause-can : goal.returns-in-Ok-clause-can
returns-in-Ok-clause-can g c =
    let a = g.W.Actor.house c.args.actor.now in
    let b = g.W.Actor.house c.put.new.actor in
    subst (λ (found : Prepared). CanConcludeIn g.D.Shelf.told b c.args.way found) (sym c.written.ensures)
    (change-can g.D.Shelf.told b c.args.way c.args.change.info c.args.change.effect c.args.write.0 c.args.change.wrote c.args.change.text.items c.in-Ok.done
    (id-lasts g.D.Shelf.told g.D.Shelf.faults g.W.Actor.between g.met.W.Actor.rows (g.W.Actor.own c.args.actor.now) (g.W.Actor.own c.put.new.actor) a b _ c.args.way.txn
    c.args.change.info c.args.change.effect c.args.write.0 c.in-Ok.ensures.adds c.requires.id)
    c.requires.within c.requires.wrote c.requires.text c.in-Ok.ensures.put)

pub returns-in-Err-clause-goes : goal.returns-in-Err-clause-goes
returns-in-Err-clause-goes g c =
    let a = g.W.Actor.house c.args.actor.now in
    let b = g.W.Actor.house c.put.new.actor in
    let e = g.W.Actor.house c.break_off.new.actor in
    broken-writes g.D.Shelf.told g.D.Shelf.faults g.W.Actor.between g.met.W.Actor.rows g.W.Actor.meanwhile c.args.way.txn.0 (faults_in g.D.Shelf.faults a) (faults_in g.D.Shelf.faults a)
    (g.W.Actor.own c.args.actor.now) (g.W.Actor.own c.put.new.actor) (g.W.Actor.own c.break_off.new.actor) a b e c.args.change.info c.args.change.effect c.args.write.0 c.in-Err.why
    c.break_off.result (omega arith) c.in-Err.ensures.adds
    (c.break_off.ensures.broken (faults_in g.D.Shelf.faults a) c.in-Err.ensures.adds.later.count c.in-Err.ensures.refusal)

pub returns-in-Err-clause-can : goal.returns-in-Err-clause-can
returns-in-Err-clause-can g c =
    let a = g.W.Actor.house c.args.actor.now in
    let b = g.W.Actor.house c.put.new.actor in
    let e = g.W.Actor.house c.break_off.new.actor in
    ends-can g.D.Shelf.told g.D.Shelf.faults g.W.Actor.between g.met.W.Actor.rows g.W.Actor.meanwhile c.args.way.txn.0 (faults_in g.D.Shelf.faults a)
    (g.W.Actor.own c.put.new.actor) (g.W.Actor.own c.break_off.new.actor) b e c.args.way (IsFaultOf c.in-Err.why) c.break_off.result
    (c.break_off.ensures.broken (faults_in g.D.Shelf.faults a) c.in-Err.ensures.adds.later.count c.in-Err.ensures.refusal)
