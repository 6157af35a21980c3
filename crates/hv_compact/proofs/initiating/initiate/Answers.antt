use Rattle.std.proofs.Common.{◌≡◌, List, sym, ◌∙◌, subst}
use Rattle.std.specs.Global.{Vec}
use Rattle.hv_history.specs.declared.entry.Entry.{Entry}
use Rattle.hv_actor.specs.Acting.{among, known}
use Rattle.hv_job_acts.specs.declared.asking.PartAt.{PartAt}
use Rattle.hv_job_acts.specs.Work.{parts_in}
use Rattle.hv_compact.specs.Stopping.{act_run, IsAsking}
use Rattle.hv_compact.specs.declared.fault.RunFault.{RunFault}
use Rattle.hv_compact.specs.Initiating.{InitiatesLess}
use Rattle.hv_compact.proofs.Turns.{asked-adds, asked-open, asked-says, asked-stops, asked-full, initiated-none, pass-later, pass-running, pass-so, pass-less}
use Rattle.hv_compact.proofs.initiating.initiate.Goals as goal

abbrev Says : List Entry → Vec PartAt → Type 0
Says book parts = parts.items ≡ parts_in book

pub hold-requires-clause-few : goal.hold-requires-clause-few
hold-requires-clause-few g c = g.met.W.Actor.one

pub ask_each-requires-clause-running : goal.ask_each-requires-clause-running
ask_each-requires-clause-running g c =
    asked-open g.D.Shelf.told g.D.Shelf.faults g.W.Actor.between g.W.Actor.meanwhile g.met.W.Actor.goes_on
    (known (g.W.Actor.own c.args.actor.now) (g.W.Actor.house c.args.actor.now)) (known (g.W.Actor.own c.hold.new.self) (g.W.Actor.house c.hold.new.self))
    c.requires.running Says c.hold.result c.hold.ensures.held c.hold.ensures.went c.in-Ok.parts c.in-Ok.is

pub returns-in-Ok-clause-later : goal.returns-in-Ok-clause-later
returns-in-Ok-clause-later g c =
    let a = known (g.W.Actor.own c.args.actor.now) (g.W.Actor.house c.args.actor.now) in
    let b = known (g.W.Actor.own c.hold.new.self) (g.W.Actor.house c.hold.new.self) in
    let e = known (g.W.Actor.own c.ask_each.new.actor) (g.W.Actor.house c.ask_each.new.actor) in
    pass-later g.D.Shelf.told g.D.Shelf.faults g.W.Actor.between g.W.Actor.meanwhile g.met.W.Actor.goes_on g.met.W.Actor.rows a b e c.deref.result.now c.ask_each.result
    (asked-adds g.D.Shelf.told g.D.Shelf.faults g.W.Actor.between g.W.Actor.meanwhile g.met.W.Actor.goes_on a b c.requires.running Says c.hold.result c.hold.ensures.held
    c.hold.ensures.went) c.ask_each.ensures.some c.ask_each.ensures.less

pub returns-in-Ok-clause-running : goal.returns-in-Ok-clause-running
returns-in-Ok-clause-running g c =
    let b = known (g.W.Actor.own c.hold.new.self) (g.W.Actor.house c.hold.new.self) in
    let e = known (g.W.Actor.own c.ask_each.new.actor) (g.W.Actor.house c.ask_each.new.actor) in
    pass-running g.D.Shelf.told g.D.Shelf.faults g.W.Actor.between g.W.Actor.meanwhile g.met.W.Actor.goes_on b e c.deref.result.now c.ask_each.result c.ask_each.ensures.some

pub returns-in-Ok-clause-initiates : goal.returns-in-Ok-clause-initiates
returns-in-Ok-clause-initiates g c =
    let a = known (g.W.Actor.own c.args.actor.now) (g.W.Actor.house c.args.actor.now) in
    let b = known (g.W.Actor.own c.hold.new.self) (g.W.Actor.house c.hold.new.self) in
    let e = known (g.W.Actor.own c.ask_each.new.actor) (g.W.Actor.house c.ask_each.new.actor) in
    pass-so g.D.Shelf.told g.D.Shelf.faults g.W.Actor.between g.W.Actor.meanwhile g.met.W.Actor.goes_on g.met.W.Actor.rows a b e c.deref.result.now
    (asked-adds g.D.Shelf.told g.D.Shelf.faults g.W.Actor.between g.W.Actor.meanwhile g.met.W.Actor.goes_on a b c.requires.running Says c.hold.result c.hold.ensures.held
    c.hold.ensures.went)
    (c.deref.ensures.value
    ∙ asked-says g.D.Shelf.told g.D.Shelf.faults g.W.Actor.between g.W.Actor.meanwhile g.met.W.Actor.goes_on a b c.requires.running Says c.hold.result c.hold.ensures.held
    c.hold.ensures.went c.in-Ok.parts c.in-Ok.is) c.ask_each.result c.ask_each.ensures.some

pub returns-in-Ok-clause-less : goal.returns-in-Ok-clause-less
returns-in-Ok-clause-less g c =
    let a = known (g.W.Actor.own c.args.actor.now) (g.W.Actor.house c.args.actor.now) in
    let b = known (g.W.Actor.own c.hold.new.self) (g.W.Actor.house c.hold.new.self) in
    let e = known (g.W.Actor.own c.ask_each.new.actor) (g.W.Actor.house c.ask_each.new.actor) in
    pass-less g.D.Shelf.told g.D.Shelf.faults g.W.Actor.between g.W.Actor.meanwhile g.met.W.Actor.goes_on g.met.W.Actor.rows a b e c.deref.result.now
    (asked-adds g.D.Shelf.told g.D.Shelf.faults g.W.Actor.between g.W.Actor.meanwhile g.met.W.Actor.goes_on a b c.requires.running Says c.hold.result c.hold.ensures.held
    c.hold.ensures.went)
    (c.deref.ensures.value
    ∙ asked-says g.D.Shelf.told g.D.Shelf.faults g.W.Actor.between g.W.Actor.meanwhile g.met.W.Actor.goes_on a b c.requires.running Says c.hold.result c.hold.ensures.held
    c.hold.ensures.went c.in-Ok.parts c.in-Ok.is) c.ask_each.result c.ask_each.ensures.less

pub returns-in-Err-clause-later : goal.returns-in-Err-clause-later
returns-in-Err-clause-later g c =
    (asked-adds g.D.Shelf.told g.D.Shelf.faults g.W.Actor.between g.W.Actor.meanwhile g.met.W.Actor.goes_on
    (known (g.W.Actor.own c.args.actor.now) (g.W.Actor.house c.args.actor.now)) (known (g.W.Actor.own c.hold.new.self) (g.W.Actor.house c.hold.new.self))
    c.requires.running Says c.hold.result c.hold.ensures.held c.hold.ensures.went).later

pub returns-in-Err-clause-less : goal.returns-in-Err-clause-less
returns-in-Err-clause-less g c =
    let a = known (g.W.Actor.own c.args.actor.now) (g.W.Actor.house c.args.actor.now) in
    let b = known (g.W.Actor.own c.hold.new.self) (g.W.Actor.house c.hold.new.self) in
    subst (λ (why : RunFault). InitiatesLess (among g.D.Shelf.told g.D.Shelf.faults g.W.Actor.between g.W.Actor.meanwhile) a b why) (sym c.act_run.ensures)
    (initiated-none g.D.Shelf.told g.D.Shelf.faults g.W.Actor.between g.W.Actor.meanwhile g.met.W.Actor.goes_on a b (act_run c.in-Err.why)
    (asked-adds g.D.Shelf.told g.D.Shelf.faults g.W.Actor.between g.W.Actor.meanwhile g.met.W.Actor.goes_on a b c.requires.running Says c.hold.result c.hold.ensures.held
    c.hold.ensures.went)
    (asked-stops g.D.Shelf.told g.D.Shelf.faults g.W.Actor.between g.W.Actor.meanwhile g.met.W.Actor.goes_on a b c.requires.running Says c.hold.result c.hold.ensures.held
    c.hold.ensures.went IsAsking c.in-Err.why c.in-Err.is)
    (asked-full g.D.Shelf.told g.D.Shelf.faults g.W.Actor.between g.W.Actor.meanwhile g.met.W.Actor.goes_on a b c.requires.running Says c.hold.result c.hold.ensures.held
    c.hold.ensures.went c.in-Err.why c.in-Err.is))
