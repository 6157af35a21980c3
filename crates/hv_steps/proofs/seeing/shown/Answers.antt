use Rattle.std.proofs.Common.{◌≡◌, Option, ap, subst}
use Rattle.std.specs.Prelude.{IfOk}
use Rattle.hv_ast.specs.declared.statement.Show.{Show}
use Rattle.hv_history.specs.Shown.{listed_by}
use Rattle.hv_table_reader.specs.hv_acts.specs.Told.{trail_in}
use Rattle.hv_table_reader.specs.hv_acts.specs.Reading.{state_then}
use Rattle.hv_steps.proofs.Looks.{looks-none, looks-house}
use Rattle.hv_steps.proofs.seeing.shown.Goals as goal

pub returns-in-Some-clause-looks : goal.returns-in-Some-clause-looks
returns-in-Some-clause-looks g c =
    looks-house g.D.Shelf.told g.D.Shelf.faults g.W.Actor.between g.met.W.Actor.rows g.W.Actor.meanwhile c.args.way.txn
    (g.W.Actor.own c.args.actor.now) (g.W.Actor.own c.show_book.new.actor) (g.W.Actor.house c.args.actor.now) (g.W.Actor.house c.show_book.new.actor)
    c.show_book.result (c.show_book.ensures.looks c.args.way.txn) c.show_book.ensures.house

pub returns-in-Some-clause-shown : goal.returns-in-Some-clause-shown
returns-in-Some-clause-shown g c =
    let state = state_then (trail_in (g.W.Actor.house c.show_book.new.actor)) c.args.way.place in
    subst (λ (what : Option Show). IfOk c.show_book.result (λ shown. shown ≡ listed_by state what)) c.in-Some.ensures c.show_book.ensures.shown

pub returns-in-None-clause-looks : goal.returns-in-None-clause-looks
returns-in-None-clause-looks g c =
    looks-none g.D.Shelf.told g.D.Shelf.faults g.W.Actor.between g.met.W.Actor.rows g.W.Actor.meanwhile c.args.way.txn
    (g.W.Actor.own c.args.actor.now) (g.W.Actor.house c.args.actor.now) _ c.requires.running

pub returns-in-None-clause-shown : goal.returns-in-None-clause-shown
returns-in-None-clause-shown g c =
    let state = state_then (trail_in (g.W.Actor.house c.args.actor.now)) c.args.way.place in
    ap (listed_by state) c.in-None.ensures
