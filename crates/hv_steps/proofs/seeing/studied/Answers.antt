use Rattle.std.proofs.Common.{List, sym, ap, ◌∙◌, subst}
use Rattle.hv_logic.specs.declared.catalog.TableInfo.{TableInfo}
use Rattle.hv_typing.specs.Analysis.{analysed}
use Rattle.hv_table_reader.specs.hv_acts.specs.Told.{trail_in}
use Rattle.hv_steps.specs.Seeing.{AreFound}
use Rattle.hv_steps.proofs.Looks.{looks-done, looks-lack, looks-failed}
use Rattle.hv_steps.proofs.seeing.studied.Goals as goal

pub returns-clause-looks : goal.returns-clause-looks
returns-clause-looks g c =
    looks-done g.D.Shelf.told g.D.Shelf.faults g.W.Actor.between g.met.W.Actor.rows g.W.Actor.meanwhile c.args.way.txn
    (g.W.Actor.own c.args.actor.now) (g.W.Actor.own c.find_all.new.actor) (g.W.Actor.house c.args.actor.now) (g.W.Actor.house c.find_all.new.actor)
    _ c.in_ok-infos.ensures.looks.adds c.in_ok-infos.ensures.looks.running

pub returns-clause-infos : goal.returns-clause-infos
returns-clause-infos g c = c.in_ok-study.ensures.infos ∙ c.in_ok-infos.ensures.infos

pub returns-clause-typed : goal.returns-clause-typed
returns-clause-typed g c =
    c.in_ok-study.ensures.typed ∙ ap (λ (infos : List TableInfo). analysed infos c.args.tree.now) (sym c.in_ok-study.ensures.infos)

pub returns-clause-found : goal.returns-clause-found
returns-clause-found g c =
    subst (AreFound (trail_in (g.W.Actor.house c.find_all.new.actor)) c.args.way.txn c.args.way.place) (sym c.in_ok-study.ensures.infos) c.in_ok-infos.ensures.found

pub returns-clause-keeping : goal.returns-clause-keeping
returns-clause-keeping g c = c.in_ok-study.ensures.keeps

pub returns-in_err-infos-clause-looks : goal.returns-in_err-infos-clause-looks
returns-in_err-infos-clause-looks g c =
    looks-failed g.D.Shelf.told g.D.Shelf.faults g.W.Actor.between g.met.W.Actor.rows g.W.Actor.meanwhile c.args.way.txn
    (g.W.Actor.own c.args.actor.now) (g.W.Actor.own c.find_all.new.actor) (g.W.Actor.house c.args.actor.now) (g.W.Actor.house c.find_all.new.actor)
    c.in_err-infos.field-0.0 c.from_residual.result c.from_residual.ensures.1 c.in_err-infos.ensures.looks

pub returns-in_err-study-clause-looks : goal.returns-in_err-study-clause-looks
returns-in_err-study-clause-looks g c =
    looks-lack g.D.Shelf.told g.D.Shelf.faults g.W.Actor.between g.met.W.Actor.rows g.W.Actor.meanwhile c.args.way.txn
    (g.W.Actor.own c.args.actor.now) (g.W.Actor.own c.find_all.new.actor) (g.W.Actor.house c.args.actor.now) (g.W.Actor.house c.find_all.new.actor)
    c.from_residual-in_err-study.result c.from_residual-in_err-study.ensures.1 c.in_ok-infos.ensures.looks.adds c.in_ok-infos.ensures.looks.running
