use Rattle.std.proofs.Common.{sym, subst, Ok, arith}
use Rattle.hv_logic.specs.declared.meaning.Meaning.TheVariants.{Change}
use Rattle.hv_table_reader.specs.hv_acts.specs.Told.{trail_in}
use Rattle.hv_table_reader.specs.hv_acts.specs.declared.giving.Given.{Given}
use Rattle.hv_steps.specs.Going.{faults_in, AddsOwn}
use Rattle.hv_steps.specs.declared.reply.Prepared.{Prepared}
use Rattle.hv_steps.specs.Phases.{CanConcludeIn}
use Rattle.hv_steps.specs.Preparing.{given_entries, IsGivenSo, IsFaultOf}
use Rattle.hv_steps.proofs.Joining.{opened-lasts, on-way-opened, adds-front}
use Rattle.hv_steps.proofs.Parts.{given-prepares, full-prepares, broken-prepares, ends-can}
use Rattle.hv_actor.specs.Acting.{known}
use Rattle.hv_steps.proofs.preparing.change_rows.Goals as goal

pub put_rows-requires-clause-was : goal.put_rows-requires-clause-was
put_rows-requires-clause-was g c =
    let a = g.W.Actor.house c.args.actor.now in
    let b = g.W.Actor.house c.take_id.new.actor in
    opened-lasts c.args.way.txn.0 (trail_in a) (trail_in b)
    (adds-front g.D.Shelf.faults g.W.Actor.between g.met.W.Actor.rows (g.W.Actor.own c.args.actor.now) (g.W.Actor.own c.take_id.new.actor) a b _ c.take_id.ensures.adds)
    (on-way-opened (trail_in a) c.requires.comes.asking c.args.way c.requires.comes.said c.requires.comes.was)

pub put_rows-requires-clause-within : goal.put_rows-requires-clause-within
put_rows-requires-clause-within g c = c.requires.comes.can.within

pub put_rows-requires-clause-can : goal.put_rows-requires-clause-can
put_rows-requires-clause-can g c =
    let id = subst (λ (x : Given). IsGivenSo g.D.Shelf.told (g.W.Actor.house c.take_id.new.actor) c.args.way.txn c.args.change.info c.args.change.effect x) c.in-Ok-Id.field-0-is
    c.in-Ok-Id.ensures.given in
    c.requires.comes.can.fit c.in-Ok-Id.write.0 id.first

pub put_rows-requires-clause-id : goal.put_rows-requires-clause-id
put_rows-requires-clause-id g c =
    subst (λ (x : Given). IsGivenSo g.D.Shelf.told (g.W.Actor.house c.take_id.new.actor) c.args.way.txn c.args.change.info c.args.change.effect x) c.in-Ok-Id.field-0-is
    c.in-Ok-Id.ensures.given

pub break_off-requires-clause-refusal : goal.break_off-requires-clause-refusal
break_off-requires-clause-refusal g c = (faults_in g.D.Shelf.faults (g.W.Actor.house c.args.actor.now), c.in-Err.ensures.refusal (faults_in g.D.Shelf.faults (g.W.Actor.house c.args.actor.now)))

pub break_off-requires-clause-was : goal.break_off-requires-clause-was
break_off-requires-clause-was g c =
    let a = g.W.Actor.house c.args.actor.now in
    let b = g.W.Actor.house c.take_id.new.actor in
    opened-lasts c.args.way.txn.0 (trail_in a) (trail_in b)
    (adds-front g.D.Shelf.faults g.W.Actor.between g.met.W.Actor.rows (g.W.Actor.own c.args.actor.now) (g.W.Actor.own c.take_id.new.actor) a b _ c.take_id.ensures.adds)
    (on-way-opened (trail_in a) c.requires.comes.asking c.args.way c.requires.comes.said c.requires.comes.was)

pub returns-in-Ok-Id-clause-goes : goal.returns-in-Ok-Id-clause-goes
returns-in-Ok-Id-clause-goes g c =
    let a = g.W.Actor.house c.args.actor.now in
    let b = g.W.Actor.house c.take_id.new.actor in
    let e = g.W.Actor.house c.put_rows.new.actor in
    given-prepares g.D.Shelf.told g.D.Shelf.faults g.W.Actor.between g.met.W.Actor.rows g.W.Actor.meanwhile c.args.way.txn.0 (faults_in g.D.Shelf.faults a) (faults_in g.D.Shelf.faults b)
    (g.W.Actor.own c.args.actor.now) (g.W.Actor.own c.take_id.new.actor) (g.W.Actor.own c.put_rows.new.actor) a b e c.args.change.info c.args.change.effect c.in-Ok-Id.write
    c.put_rows.result c.in-Ok-Id.ensures.adds.later.count c.requires.some
    (subst (λ (x : Given). AddsOwn g.D.Shelf.faults g.W.Actor.between c.args.way.txn.0 (known (g.W.Actor.own c.args.actor.now) a)
    (known (g.W.Actor.own c.take_id.new.actor) b)
    (given_entries c.args.way.txn.0 c.args.change.info.table (Ok x))) c.in-Ok-Id.field-0-is c.in-Ok-Id.ensures.adds)
    c.put_rows.ensures.goes

pub returns-in-Ok-Aborted-clause-goes : goal.returns-in-Ok-Aborted-clause-goes
returns-in-Ok-Aborted-clause-goes g c =
    let a = g.W.Actor.house c.args.actor.now in
    let b = g.W.Actor.house c.take_id.new.actor in
    let given = subst (λ (x : Given). IsGivenSo g.D.Shelf.told b c.args.way.txn c.args.change.info c.args.change.effect x) c.in-Ok-Aborted.field-0-is c.in-Ok-Aborted.ensures.given in
    full-prepares g.D.Shelf.told g.D.Shelf.faults g.W.Actor.between g.met.W.Actor.rows g.W.Actor.meanwhile c.args.way.txn.0 (faults_in g.D.Shelf.faults a)
    (g.W.Actor.own c.args.actor.now) (g.W.Actor.own c.take_id.new.actor) a b c.args.change.info c.args.change.effect c.in-Ok-Aborted.aborted c.ended_by.result
    (subst (λ (x : Given). AddsOwn g.D.Shelf.faults g.W.Actor.between c.args.way.txn.0 (known (g.W.Actor.own c.args.actor.now) a)
    (known (g.W.Actor.own c.take_id.new.actor) b)
    (given_entries c.args.way.txn.0 c.args.change.info.table (Ok x))) c.in-Ok-Aborted.field-0-is c.in-Ok-Aborted.ensures.adds)
    c.in-Ok-Aborted.ensures.running given.0 given.1 c.ended_by.ensures

pub returns-in-Ok-Aborted-clause-can : goal.returns-in-Ok-Aborted-clause-can
returns-in-Ok-Aborted-clause-can g c =
    subst (λ (found : Prepared). CanConcludeIn g.D.Shelf.told (g.W.Actor.house c.take_id.new.actor) c.args.way found) (sym c.ended_by.ensures) tt

pub returns-in-Err-clause-goes : goal.returns-in-Err-clause-goes
returns-in-Err-clause-goes g c =
    let a = g.W.Actor.house c.args.actor.now in
    let b = g.W.Actor.house c.take_id.new.actor in
    let e = g.W.Actor.house c.break_off.new.actor in
    broken-prepares g.D.Shelf.told g.D.Shelf.faults g.W.Actor.between g.met.W.Actor.rows g.W.Actor.meanwhile c.args.way.txn.0 (faults_in g.D.Shelf.faults a) (faults_in g.D.Shelf.faults a)
    (g.W.Actor.own c.args.actor.now) (g.W.Actor.own c.take_id.new.actor) (g.W.Actor.own c.break_off.new.actor) a b e (Change c.args.change.info c.args.change.effect) c.in-Err.why
    c.break_off.result (omega arith) c.in-Err.ensures.adds c.in-Err.ensures.why
    (c.break_off.ensures.broken (faults_in g.D.Shelf.faults a) c.in-Err.ensures.adds.later.count (c.in-Err.ensures.refusal (faults_in g.D.Shelf.faults a)))

pub returns-in-Err-clause-can : goal.returns-in-Err-clause-can
returns-in-Err-clause-can g c =
    let a = g.W.Actor.house c.args.actor.now in
    let b = g.W.Actor.house c.take_id.new.actor in
    let e = g.W.Actor.house c.break_off.new.actor in
    ends-can g.D.Shelf.told g.D.Shelf.faults g.W.Actor.between g.met.W.Actor.rows g.W.Actor.meanwhile c.args.way.txn.0 (faults_in g.D.Shelf.faults a)
    (g.W.Actor.own c.take_id.new.actor) (g.W.Actor.own c.break_off.new.actor) b e c.args.way (IsFaultOf c.in-Err.why) c.break_off.result
    (c.break_off.ensures.broken (faults_in g.D.Shelf.faults a) c.in-Err.ensures.adds.later.count (c.in-Err.ensures.refusal (faults_in g.D.Shelf.faults a)))
