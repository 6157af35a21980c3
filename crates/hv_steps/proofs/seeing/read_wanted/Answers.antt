use Rattle.std.proofs.Common.{List, inl, inr, sym, ◌∙◌, subst}
use Rattle.hv_logic.specs.declared.effect.Found.{Found}
use Rattle.hv_table_reader.specs.Steady.{HasRowsIn}
use Rattle.hv_steps.specs.Wanting.{picked}
use Rattle.hv_steps.specs.Seeing.{tables_then}
use Rattle.hv_steps.proofs.Looks.{looks-none, looks-done, looks-failed}
use Rattle.hv_steps.proofs.SeenRows.{none-picked}
use Rattle.hv_steps.proofs.seeing.read_wanted.Goals as goal

pub returns-then-is_none-clause-looks : goal.returns-then-is_none-clause-looks
returns-then-is_none-clause-looks g c =
    looks-none g.D.Shelf.told g.D.Shelf.faults g.W.Actor.between g.met.W.Actor.rows g.W.Actor.meanwhile c.args.by
    (g.W.Actor.own c.args.actor.now) (g.W.Actor.house c.args.actor.now) _ c.requires.running

pub returns-then-is_none-clause-rows : goal.returns-then-is_none-clause-rows
returns-then-is_none-clause-rows g c = λ told.
    inr (record { none = none-picked c.args.wanting.now (sym c.is_none.ensures ∙ c.if-is_none.true); empty = c.empty.ensures })

pub returns-clause-looks : goal.returns-clause-looks
returns-clause-looks g c =
    looks-done g.D.Shelf.told g.D.Shelf.faults g.W.Actor.between g.met.W.Actor.rows g.W.Actor.meanwhile c.args.by
    (g.W.Actor.own c.args.actor.now) (g.W.Actor.own c.read_now.new.actor) (g.W.Actor.house c.args.actor.now) (g.W.Actor.house c.read_now.new.actor)
    _ c.in_ok-rows.ensures.looks.adds c.in_ok-rows.ensures.looks.running

pub returns-clause-rows : goal.returns-clause-rows
returns-clause-rows g c = λ told.
    inl (subst (λ (rows : List Found).
    HasRowsIn (tables_then (g.W.Actor.house c.args.actor.now) c.args.place) (picked c.args.wanting.now) c.args.info.now rows) (sym c.from_vec.ensures)
    (c.in_ok-rows.ensures.rows told))

pub returns-in_err-rows-clause-looks : goal.returns-in_err-rows-clause-looks
returns-in_err-rows-clause-looks g c =
    looks-failed g.D.Shelf.told g.D.Shelf.faults g.W.Actor.between g.met.W.Actor.rows g.W.Actor.meanwhile c.args.by
    (g.W.Actor.own c.args.actor.now) (g.W.Actor.own c.read_now.new.actor) (g.W.Actor.house c.args.actor.now) (g.W.Actor.house c.read_now.new.actor)
    c.in_err-rows.field-0.0 c.from_residual.result c.from_residual.ensures.1 c.in_err-rows.ensures.looks
