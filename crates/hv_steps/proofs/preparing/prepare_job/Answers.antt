use Rattle.std.proofs.Common.{◌≡◌, inl, inr, Ok, refl, sym, subst, arith}
use Rattle.hv_logic.specs.declared.meaning.Meaning.TheVariants.{Ask}
use Rattle.hv_history.specs.Answers.{ok_line}
use Rattle.hv_table_reader.specs.hv_acts.specs.Told.{trail_in}
use Rattle.hv_table_reader.specs.hv_acts.specs.declared.compacting.AskedFor.{AskedFor}
use Rattle.hv_steps.specs.Going.{faults_in, AddsOwn}
use Rattle.hv_steps.specs.declared.reply.Prepared.{Prepared}
use Rattle.hv_steps.specs.Phases.{CanConcludeIn}
use Rattle.hv_steps.specs.Preparing.{asks_as, job_entries, IsStoodSo, IsFaultOf}
use Rattle.hv_steps.proofs.Joining.{opened-lasts, on-way-opened, adds-front}
use Rattle.hv_steps.proofs.Parts.{job-prepares, job-lacks, job-can, broken-prepares, idle-concludes, ends-can}
use Rattle.hv_actor.specs.Acting.{known}
use Rattle.hv_steps.proofs.preparing.prepare_job.Goals as goal

pub made_ready-requires-clause-was : goal.made_ready-requires-clause-was
made_ready-requires-clause-was g c =
    let a = g.W.Actor.house c.args.actor.now in
    let b = g.W.Actor.house c.ask_job.new.actor in
    opened-lasts c.args.way.txn.0 (trail_in a) (trail_in b)
    (adds-front g.D.Shelf.faults g.W.Actor.between g.met.W.Actor.rows (g.W.Actor.own c.args.actor.now) (g.W.Actor.own c.ask_job.new.actor) a b _ c.ask_job.ensures.adds)
    (on-way-opened (trail_in a) c.requires.comes.asking c.args.way c.requires.comes.said c.requires.comes.was)

pub returns-in-Ok-Job-clause-goes : goal.returns-in-Ok-Job-clause-goes
returns-in-Ok-Job-clause-goes g c =
    let a = g.W.Actor.house c.args.actor.now in
    let b = g.W.Actor.house c.ask_job.new.actor in
    let e = g.W.Actor.house c.made_ready.new.actor in
    let asked = asks_as c.args.way c.args.table c.args.partition c.args.kind in
    let adds =
    subst (λ (x : AskedFor). AddsOwn g.D.Shelf.faults g.W.Actor.between c.args.way.txn.0 (known (g.W.Actor.own c.args.actor.now) a)
    (known (g.W.Actor.own c.ask_job.new.actor) b) (job_entries asked (Ok x))) c.in-Ok-Job.field-0-is c.in-Ok-Job.ensures.adds in
    job-prepares g.D.Shelf.told g.D.Shelf.faults g.W.Actor.between g.met.W.Actor.rows g.W.Actor.meanwhile c.args.way.txn.0 (faults_in g.D.Shelf.faults a) (faults_in g.D.Shelf.faults b)
    (g.W.Actor.own c.args.actor.now) (g.W.Actor.own c.ask_job.new.actor) (g.W.Actor.own c.made_ready.new.actor) a b e c.args.table c.args.partition c.args.kind _
    c.nothing.result c.made_ready.result c.in-Ok-Job.ensures.adds.later.count (inr (c.in-Ok-Job._job, refl)) adds c.nothing.ensures
    (c.made_ready.ensures.goes ok_line c.ok_line.ensures)

pub returns-in-Ok-Job-clause-can : goal.returns-in-Ok-Job-clause-can
returns-in-Ok-Job-clause-can g c =
    let b = g.W.Actor.house c.ask_job.new.actor in
    let e = g.W.Actor.house c.made_ready.new.actor in
    let stood =
    subst (λ (x : AskedFor). IsStoodSo g.D.Shelf.told b c.args.way (asks_as c.args.way c.args.table c.args.partition c.args.kind) x) c.in-Ok-Job.field-0-is
    c.in-Ok-Job.ensures.stood in
    idle-concludes g.D.Shelf.told g.D.Shelf.faults g.W.Actor.between g.met.W.Actor.rows g.W.Actor.meanwhile c.args.way.txn.0 (faults_in g.D.Shelf.faults b)
    (g.W.Actor.own c.ask_job.new.actor) (g.W.Actor.own c.made_ready.new.actor) b e c.args.way c.nothing.result ok_line c.made_ready.result c.nothing.ensures
    (job-can g.D.Shelf.told b c.args.way c.args.table c.args.partition c.args.kind stood) (c.made_ready.ensures.goes ok_line c.ok_line.ensures)

pub made_ready-requires-in-Ok-Busy-clause-was : goal.made_ready-requires-in-Ok-Busy-clause-was
made_ready-requires-in-Ok-Busy-clause-was g c =
    let a = g.W.Actor.house c.args.actor.now in
    let b = g.W.Actor.house c.ask_job.new.actor in
    opened-lasts c.args.way.txn.0 (trail_in a) (trail_in b)
    (adds-front g.D.Shelf.faults g.W.Actor.between g.met.W.Actor.rows (g.W.Actor.own c.args.actor.now) (g.W.Actor.own c.ask_job.new.actor) a b _ c.ask_job.ensures.adds)
    (on-way-opened (trail_in a) c.requires.comes.asking c.args.way c.requires.comes.said c.requires.comes.was)

pub returns-in-Ok-Busy-clause-goes : goal.returns-in-Ok-Busy-clause-goes
returns-in-Ok-Busy-clause-goes g c =
    let a = g.W.Actor.house c.args.actor.now in
    let b = g.W.Actor.house c.ask_job.new.actor in
    let e = g.W.Actor.house c.made_ready-in-Ok-Busy.new.actor in
    let asked = asks_as c.args.way c.args.table c.args.partition c.args.kind in
    let adds =
    subst (λ (x : AskedFor). AddsOwn g.D.Shelf.faults g.W.Actor.between c.args.way.txn.0 (known (g.W.Actor.own c.args.actor.now) a)
    (known (g.W.Actor.own c.ask_job.new.actor) b) (job_entries asked (Ok x))) c.in-Ok-Busy.field-0-is c.in-Ok-Busy.ensures.adds in
    job-prepares g.D.Shelf.told g.D.Shelf.faults g.W.Actor.between g.met.W.Actor.rows g.W.Actor.meanwhile c.args.way.txn.0 (faults_in g.D.Shelf.faults a) (faults_in g.D.Shelf.faults b)
    (g.W.Actor.own c.args.actor.now) (g.W.Actor.own c.ask_job.new.actor) (g.W.Actor.own c.made_ready-in-Ok-Busy.new.actor) a b e c.args.table c.args.partition c.args.kind _
    c.nothing-in-Ok-Busy.result c.made_ready-in-Ok-Busy.result c.in-Ok-Busy.ensures.adds.later.count (inl refl) adds c.nothing-in-Ok-Busy.ensures
    (c.made_ready-in-Ok-Busy.ensures.goes ok_line c.ok_line-in-Ok-Busy.ensures)

pub returns-in-Ok-Busy-clause-can : goal.returns-in-Ok-Busy-clause-can
returns-in-Ok-Busy-clause-can g c =
    let b = g.W.Actor.house c.ask_job.new.actor in
    let e = g.W.Actor.house c.made_ready-in-Ok-Busy.new.actor in
    let stood =
    subst (λ (x : AskedFor). IsStoodSo g.D.Shelf.told b c.args.way (asks_as c.args.way c.args.table c.args.partition c.args.kind) x) c.in-Ok-Busy.field-0-is
    c.in-Ok-Busy.ensures.stood in
    idle-concludes g.D.Shelf.told g.D.Shelf.faults g.W.Actor.between g.met.W.Actor.rows g.W.Actor.meanwhile c.args.way.txn.0 (faults_in g.D.Shelf.faults b)
    (g.W.Actor.own c.ask_job.new.actor) (g.W.Actor.own c.made_ready-in-Ok-Busy.new.actor) b e c.args.way c.nothing-in-Ok-Busy.result ok_line c.made_ready-in-Ok-Busy.result
    c.nothing-in-Ok-Busy.ensures
    (job-can g.D.Shelf.told b c.args.way c.args.table c.args.partition c.args.kind stood) (c.made_ready-in-Ok-Busy.ensures.goes ok_line c.ok_line-in-Ok-Busy.ensures)

pub returns-in-Ok-Aborted-clause-goes : goal.returns-in-Ok-Aborted-clause-goes
returns-in-Ok-Aborted-clause-goes g c =
    let a = g.W.Actor.house c.args.actor.now in
    let b = g.W.Actor.house c.ask_job.new.actor in
    let asked = asks_as c.args.way c.args.table c.args.partition c.args.kind in
    let lacked = subst (λ (x : AskedFor). IsStoodSo g.D.Shelf.told b c.args.way asked x) c.in-Ok-Aborted.field-0-is c.in-Ok-Aborted.ensures.stood in
    job-lacks g.D.Shelf.told g.D.Shelf.faults g.W.Actor.between g.met.W.Actor.rows g.W.Actor.meanwhile c.args.way.txn.0 (faults_in g.D.Shelf.faults a)
    (g.W.Actor.own c.args.actor.now) (g.W.Actor.own c.ask_job.new.actor) a b c.args.table c.args.partition c.args.kind c.in-Ok-Aborted.aborted c.ended_by.result
    (subst (λ (x : AskedFor). AddsOwn g.D.Shelf.faults g.W.Actor.between c.args.way.txn.0 (known (g.W.Actor.own c.args.actor.now) a)
    (known (g.W.Actor.own c.ask_job.new.actor) b) (job_entries asked (Ok x))) c.in-Ok-Aborted.field-0-is c.in-Ok-Aborted.ensures.adds)
    c.in-Ok-Aborted.ensures.running lacked.0 lacked.1 c.ended_by.ensures

pub returns-in-Ok-Aborted-clause-can : goal.returns-in-Ok-Aborted-clause-can
returns-in-Ok-Aborted-clause-can g c =
    subst (λ (found : Prepared). CanConcludeIn g.D.Shelf.told (g.W.Actor.house c.ask_job.new.actor) c.args.way found) (sym c.ended_by.ensures) tt

pub break_off-requires-clause-refusal : goal.break_off-requires-clause-refusal
break_off-requires-clause-refusal g c = (faults_in g.D.Shelf.faults (g.W.Actor.house c.args.actor.now), c.in-Err.ensures.refusal (faults_in g.D.Shelf.faults (g.W.Actor.house c.args.actor.now)))

pub break_off-requires-clause-was : goal.break_off-requires-clause-was
break_off-requires-clause-was g c =
    let a = g.W.Actor.house c.args.actor.now in
    let b = g.W.Actor.house c.ask_job.new.actor in
    opened-lasts c.args.way.txn.0 (trail_in a) (trail_in b)
    (adds-front g.D.Shelf.faults g.W.Actor.between g.met.W.Actor.rows (g.W.Actor.own c.args.actor.now) (g.W.Actor.own c.ask_job.new.actor) a b _ c.ask_job.ensures.adds)
    (on-way-opened (trail_in a) c.requires.comes.asking c.args.way c.requires.comes.said c.requires.comes.was)

pub returns-in-Err-clause-goes : goal.returns-in-Err-clause-goes
returns-in-Err-clause-goes g c =
    let a = g.W.Actor.house c.args.actor.now in
    let b = g.W.Actor.house c.ask_job.new.actor in
    let e = g.W.Actor.house c.break_off.new.actor in
    broken-prepares g.D.Shelf.told g.D.Shelf.faults g.W.Actor.between g.met.W.Actor.rows g.W.Actor.meanwhile c.args.way.txn.0 (faults_in g.D.Shelf.faults a) (faults_in g.D.Shelf.faults a)
    (g.W.Actor.own c.args.actor.now) (g.W.Actor.own c.ask_job.new.actor) (g.W.Actor.own c.break_off.new.actor) a b e (Ask c.args.table c.args.partition c.args.kind) c.in-Err.why
    c.break_off.result (omega arith) c.in-Err.ensures.adds c.in-Err.ensures.why
    (c.break_off.ensures.broken (faults_in g.D.Shelf.faults a) c.in-Err.ensures.adds.later.count (c.in-Err.ensures.refusal (faults_in g.D.Shelf.faults a)))

pub returns-in-Err-clause-can : goal.returns-in-Err-clause-can
returns-in-Err-clause-can g c =
    let a = g.W.Actor.house c.args.actor.now in
    let b = g.W.Actor.house c.ask_job.new.actor in
    let e = g.W.Actor.house c.break_off.new.actor in
    ends-can g.D.Shelf.told g.D.Shelf.faults g.W.Actor.between g.met.W.Actor.rows g.W.Actor.meanwhile c.args.way.txn.0 (faults_in g.D.Shelf.faults a)
    (g.W.Actor.own c.ask_job.new.actor) (g.W.Actor.own c.break_off.new.actor) b e c.args.way (IsFaultOf c.in-Err.why) c.break_off.result
    (c.break_off.ensures.broken (faults_in g.D.Shelf.faults a) c.in-Err.ensures.adds.later.count (c.in-Err.ensures.refusal (faults_in g.D.Shelf.faults a)))
