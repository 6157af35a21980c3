use Rattle.std.proofs.Common.{sym, ◌∙◌}
use Rattle.hv_actor.specs.Rows.{later_itself}
use Rattle.hv_session.specs.hv_beginning.specs.hv_steps.specs.hv_table_reader.specs.hv_acts.specs.Told.{seen_in}
use Rattle.hv_program.proofs.Acting.{let-go-true, released-held, released-truly, released-acts, released-stops, none-held, none-truly, none-acts}
use Rattle.hv_program.proofs.Sessions.{let-go-can, released-can, none-can}
use Rattle.hv_program.proofs.action.release.Goals as goal

pub finish_alone-requires-clause-truly : goal.finish_alone-requires-clause-truly
finish_alone-requires-clause-truly g c = λ is. let-go-true _ c.args.session.now.name _ c.in-Some.paused (sym c.let_go.ensures.found ∙ c.in-Some.is) (c.requires.truly is)

pub finish_alone-requires-clause-can : goal.finish_alone-requires-clause-can
finish_alone-requires-clause-can g c =
    let-go-can g.D.Shelf.told c.args.house.now c.args.session.now.name _ c.in-Some.paused c.requires.can (sym c.let_go.ensures.found ∙ c.in-Some.is)

pub returns-in-Some-clause-can : goal.returns-in-Some-clause-can
returns-in-Some-clause-can g c =
    released-can g.D.Shelf.told g.D.Shelf.faults c.args.house.now c.finish_alone.new.house c.finish_alone.result _ _ c.args.session.now.name c.let_go.ensures.left
    c.finish_alone.ensures.later c.requires.can

pub returns-in-None-clause-can : goal.returns-in-None-clause-can
returns-in-None-clause-can g c =
    none-can g.D.Shelf.told c.args.house.now _ _ c.args.session.now.name (sym c.let_go.ensures.found ∙ c.in-None.is) c.let_go.ensures.left c.requires.can

pub returns-in-Some-clause-held : goal.returns-in-Some-clause-held
returns-in-Some-clause-held g c =
    released-held g.D.Shelf.told c.finish_alone.result c.args.house.now.house c.finish_alone.new.house.house _ _ c.args.session.now c.in-Some.paused _ _ (sym c.let_go.ensures.found ∙ c.in-Some.is) c.let_go.ensures.left
    c.requires.held c.finish_alone.ensures.whole c.finish_alone.ensures.added

pub returns-in-Some-clause-truly : goal.returns-in-Some-clause-truly
returns-in-Some-clause-truly g c =
    released-truly g.D.Shelf.told c.finish_alone.result c.args.house.now.house c.finish_alone.new.house.house _ _ c.args.session.now c.in-Some.paused _ _ (sym c.let_go.ensures.found ∙ c.in-Some.is) c.let_go.ensures.left
    c.requires.held c.finish_alone.ensures.whole c.finish_alone.ensures.added
    c.finish_alone.ensures.start c.requires.truly

pub returns-in-Some-clause-acted : goal.returns-in-Some-clause-acted
returns-in-Some-clause-acted g c = λ is.
    released-acts g.D.Shelf.told c.finish_alone.result c.args.house.now.house c.finish_alone.new.house.house _ _ c.args.session.now c.in-Some.paused _ _ (sym c.let_go.ensures.found ∙ c.in-Some.is) c.let_go.ensures.left
    c.requires.held c.finish_alone.ensures.whole c.finish_alone.ensures.added
    (c.finish_alone.ensures.finished is)

pub returns-in-Some-clause-stopped : goal.returns-in-Some-clause-stopped
returns-in-Some-clause-stopped g c =
    released-stops g.D.Shelf.told c.finish_alone.result c.args.house.now.house c.finish_alone.new.house.house _ c.args.session.now c.in-Some.paused (sym c.let_go.ensures.found ∙ c.in-Some.is)
    c.finish_alone.ensures.stopped

pub returns-in-None-clause-held : goal.returns-in-None-clause-held
returns-in-None-clause-held g c = none-held _ _ _ c.args.session.now.name (sym c.let_go.ensures.found ∙ c.in-None.is) c.let_go.ensures.left c.requires.held

pub returns-in-None-clause-truly : goal.returns-in-None-clause-truly
returns-in-None-clause-truly g c =
    none-truly g.D.Shelf.told c.args.house.now.house _ _ c.args.session.now.name (sym c.let_go.ensures.found ∙ c.in-None.is) c.let_go.ensures.left c.requires.truly

pub returns-in-None-clause-acted : goal.returns-in-None-clause-acted
returns-in-None-clause-acted g c = λ is.
    none-acts _ _ _ _ c.args.session.now c.nothing.result (sym c.let_go.ensures.found ∙ c.in-None.is) c.let_go.ensures.left c.nothing.ensures

pub returns-in-Some-clause-later : goal.returns-in-Some-clause-later
returns-in-Some-clause-later g c = c.finish_alone.ensures.later

pub returns-in-None-clause-later : goal.returns-in-None-clause-later
returns-in-None-clause-later g c = later_itself g.D.Shelf.faults (seen_in c.args.house.now)
