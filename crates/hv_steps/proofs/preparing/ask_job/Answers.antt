use Rattle.hv_table_reader.specs.hv_acts.specs.Told.{trail_in}
use Rattle.hv_steps.specs.Preparing.{asks_as}
use Rattle.hv_steps.proofs.IdActs.{left-open, refused-so}
use Rattle.hv_steps.proofs.JobActs.{can-job, job-adds, job-left, job-ends, job-so}
use Rattle.hv_steps.proofs.preparing.ask_job.Goals as goal

pub hold-requires-clause-few : goal.hold-requires-clause-few
hold-requires-clause-few g c = g.met.W.Actor.one

pub hold-requires-clause-can : goal.hold-requires-clause-can
hold-requires-clause-can g c = λ now kept reached.
    can-job g.D.Shelf.told g.D.Shelf.faults g.W.Actor.meanwhile g.met.W.Actor.goes_on (g.W.Actor.house c.args.actor.now) now c.args.way c.args.table c.args.partition c.args.kind
    c.requires.comes now reached

pub returns-clause-adds : goal.returns-clause-adds
returns-clause-adds g c =
    job-adds g.D.Shelf.told g.D.Shelf.faults g.W.Actor.meanwhile g.met.W.Actor.goes_on (g.W.Actor.house c.args.actor.now) (g.W.Actor.house c.hold.new.self) c.args.way
    c.args.table c.args.partition c.args.kind c.requires.comes g.W.Actor.between (g.W.Actor.own c.args.actor.now) (g.W.Actor.own c.hold.new.self) c.hold.result
    c.hold.ensures.held c.hold.ensures.went

pub returns-clause-running : goal.returns-clause-running
returns-clause-running g c =
    left-open g.D.Shelf.told g.W.Actor.meanwhile c.args.way.txn.0 (g.W.Actor.house c.hold.new.self) c.hold.result
    (job-left g.D.Shelf.told g.D.Shelf.faults g.W.Actor.meanwhile g.met.W.Actor.goes_on (g.W.Actor.house c.args.actor.now) (g.W.Actor.house c.hold.new.self) c.args.way
    c.args.table c.args.partition c.args.kind c.requires.comes c.hold.result c.hold.ensures.held c.requires.running)

pub returns-clause-stood : goal.returns-clause-stood
returns-clause-stood g c =
    job-so g.D.Shelf.told g.D.Shelf.faults g.W.Actor.meanwhile g.met.W.Actor.goes_on (g.W.Actor.house c.args.actor.now) (g.W.Actor.house c.hold.new.self) c.args.way
    c.args.table c.args.partition c.args.kind c.requires.comes c.what_was_meant_is_meant.ensures.still c.hold.result c.hold.ensures.held

pub returns-clause-refusal : goal.returns-clause-refusal
returns-clause-refusal g c = λ low.
    refused-so g.D.Shelf.told g.D.Shelf.faults g.W.Actor.meanwhile low c.args.way.txn (g.W.Actor.house c.hold.new.self) c.hold.result
    (job-ends (trail_in c.hold.ensures.held.house) (asks_as c.args.way c.args.table c.args.partition c.args.kind) c.hold.result c.hold.ensures.held.step.may)
    (job-left g.D.Shelf.told g.D.Shelf.faults g.W.Actor.meanwhile g.met.W.Actor.goes_on (g.W.Actor.house c.args.actor.now) (g.W.Actor.house c.hold.new.self) c.args.way
    c.args.table c.args.partition c.args.kind c.requires.comes c.hold.result c.hold.ensures.held c.requires.running)

pub returns-clause-why : goal.returns-clause-why
returns-clause-why g c =
    job-ends (trail_in c.hold.ensures.held.house) (asks_as c.args.way c.args.table c.args.partition c.args.kind) c.hold.result c.hold.ensures.held.step.may
