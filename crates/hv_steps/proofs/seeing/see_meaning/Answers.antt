use Rattle.std.proofs.Common.{[], List, Ok, sym, ap, ◌∙◌, subst}
use Rattle.hv_logic.specs.declared.effect.TableRows.{TableRows}
use Rattle.hv_meaning.specs.Meaning.{meant}
use Rattle.hv_meaning.specs.Laws.{MeansSomething}
use Rattle.hv_effect.specs.Tables.{found_of}
use Rattle.hv_effect.specs.Studied.{typed_in}
use Rattle.hv_history.specs.State.{State}
use Rattle.hv_history.specs.Shown.{listed_for}
use Rattle.hv_table_reader.specs.hv_acts.specs.Told.{trail_in}
use Rattle.hv_steps.proofs.Joining.{adds-front, way-lasts}
use Rattle.hv_steps.proofs.Looks.{house-fits, place-later, states-same, seen-as, looks-done, looks-lack, looks-failed, looks-behind}
use Rattle.hv_steps.proofs.SaidFronts.{house-said}
use Rattle.hv_steps.proofs.SeenMeanings.{means-something, comes-to}
use Rattle.hv_steps.proofs.Unseen.{way-place}
use Rattle.hv_steps.proofs.seeing.see_meaning.Goals as goal

pub shown-requires-clause-place : goal.shown-requires-clause-place
shown-requires-clause-place g c =
    way-place (trail_in (g.W.Actor.house c.args.actor.now)) c.requires.was.0 c.args.way c.args.tree.now c.requires.was.1

pub studied-requires-clause-running : goal.studied-requires-clause-running
studied-requires-clause-running g c = c.in_ok-shown.ensures.looks.running

pub studied-requires-clause-was : goal.studied-requires-clause-was
studied-requires-clause-was g c =
    let before = g.W.Actor.house c.args.actor.now in
    let now = g.W.Actor.house c.shown.new.actor in (
      c.requires.was.0,
      way-lasts c.requires.was.0 c.args.way c.args.tree.now (trail_in before) (trail_in now)
          (adds-front g.D.Shelf.faults g.W.Actor.between g.met.W.Actor.rows (g.W.Actor.own c.args.actor.now) (g.W.Actor.own c.shown.new.actor) before now []
          c.in_ok-shown.ensures.looks.adds) c.requires.was.1,
    )

pub read_all-requires-clause-running : goal.read_all-requires-clause-running
read_all-requires-clause-running g c = c.in_ok-studied.ensures.looks.running

pub read_all-requires-clause-place : goal.read_all-requires-clause-place
read_all-requires-clause-place g c =
    let first = g.W.Actor.house c.args.actor.now in
    let before = g.W.Actor.house c.shown.new.actor in
    let now = g.W.Actor.house c.studied.new.actor in
    place-later g.D.Shelf.told g.D.Shelf.faults g.W.Actor.between g.met.W.Actor.rows (g.W.Actor.own c.shown.new.actor) (g.W.Actor.own c.studied.new.actor)
    before now c.args.way.place c.in_ok-studied.ensures.looks.adds
    (place-later g.D.Shelf.told g.D.Shelf.faults g.W.Actor.between g.met.W.Actor.rows (g.W.Actor.own c.args.actor.now) (g.W.Actor.own c.shown.new.actor)
    first before c.args.way.place c.in_ok-shown.ensures.looks.adds
    (way-place (trail_in first) c.requires.was.0 c.args.way c.args.tree.now c.requires.was.1))

pub read_all-requires-clause-found : goal.read_all-requires-clause-found
read_all-requires-clause-found g c = c.in_ok-studied.ensures.found

pub meaning-requires : goal.meaning-requires
meaning-requires g c =
    let before = g.W.Actor.house c.studied.new.actor in
    let now = g.W.Actor.house c.read_all.new.actor in
    let first = g.W.Actor.house c.shown.new.actor in
    let has =
    place-later g.D.Shelf.told g.D.Shelf.faults g.W.Actor.between g.met.W.Actor.rows (g.W.Actor.own c.shown.new.actor) (g.W.Actor.own c.studied.new.actor)
    first before c.args.way.place c.in_ok-studied.ensures.looks.adds
    (place-later g.D.Shelf.told g.D.Shelf.faults g.W.Actor.between g.met.W.Actor.rows (g.W.Actor.own c.args.actor.now) (g.W.Actor.own c.shown.new.actor)
    (g.W.Actor.house c.args.actor.now) first c.args.way.place c.in_ok-shown.ensures.looks.adds
    (way-place (trail_in (g.W.Actor.house c.args.actor.now)) c.requires.was.0 c.args.way c.args.tree.now c.requires.was.1)) in
    record {
      means = subst (λ (rows : List TableRows).
          MeansSomething (meant c.in_ok-studied.studied.infos.items (found_of rows) (typed_in c.in_ok-studied.studied.typed))) (sym c.as_slice.ensures.value)
          (means-something g.D.Shelf.told now c.args.way c.args.tree.now
          (house-fits g.D.Shelf.told now (g.met.W.Actor.kept c.read_all.new.actor c.in_ok-rows.ensures.keeps) c.in_ok-rows.ensures.looks.running)
          c.in_ok-studied.studied c.in_ok-rows.rows.items c.in_ok-studied.ensures.typed
          (seen-as g.D.Shelf.told g.D.Shelf.faults g.W.Actor.between g.met.W.Actor.rows (g.W.Actor.own c.studied.new.actor) (g.W.Actor.own c.read_all.new.actor) before now c.args.way.place
          c.in_ok-rows.ensures.looks.adds has c.args.tree.now c.in_ok-studied.studied c.in_ok-rows.rows.items c.in_ok-studied.ensures.infos c.in_ok-studied.ensures.keeping
          c.in_ok-rows.ensures.rows) c.requires.built);
    }

pub returns-clause-looks : goal.returns-clause-looks
returns-clause-looks g c =
    let own = g.W.Actor.own c.args.actor.now in
    let own' = g.W.Actor.own c.shown.new.actor in
    let own'' = g.W.Actor.own c.studied.new.actor in
    let last = g.W.Actor.own c.read_all.new.actor in
    let first = g.W.Actor.house c.args.actor.now in
    let before = g.W.Actor.house c.shown.new.actor in
    let then_ = g.W.Actor.house c.studied.new.actor in
    let now = g.W.Actor.house c.read_all.new.actor in
    looks-behind g.D.Shelf.told g.D.Shelf.faults g.W.Actor.between g.met.W.Actor.rows g.W.Actor.meanwhile c.args.way.txn own own' last first before now (Ok _)
    c.in_ok-shown.ensures.looks.adds
    (looks-behind g.D.Shelf.told g.D.Shelf.faults g.W.Actor.between g.met.W.Actor.rows g.W.Actor.meanwhile c.args.way.txn own' own'' last before then_ now (Ok _)
    c.in_ok-studied.ensures.looks.adds
    (looks-done g.D.Shelf.told g.D.Shelf.faults g.W.Actor.between g.met.W.Actor.rows g.W.Actor.meanwhile c.args.way.txn own'' last then_ now
    _ c.in_ok-rows.ensures.looks.adds c.in_ok-rows.ensures.looks.running))

pub returns-clause-comes : goal.returns-clause-comes
returns-clause-comes g c =
    let own = g.W.Actor.own c.shown.new.actor in
    let own' = g.W.Actor.own c.studied.new.actor in
    let own'' = g.W.Actor.own c.read_all.new.actor in
    let before = g.W.Actor.house c.shown.new.actor in
    let then_ = g.W.Actor.house c.studied.new.actor in
    let now = g.W.Actor.house c.read_all.new.actor in
    let studied = c.in_ok-studied.studied in
    let has =
    place-later g.D.Shelf.told g.D.Shelf.faults g.W.Actor.between g.met.W.Actor.rows (g.W.Actor.own c.args.actor.now) own
    (g.W.Actor.house c.args.actor.now) before c.args.way.place c.in_ok-shown.ensures.looks.adds
    (way-place (trail_in (g.W.Actor.house c.args.actor.now)) c.requires.was.0 c.args.way c.args.tree.now c.requires.was.1) in
    let has_then =
    place-later g.D.Shelf.told g.D.Shelf.faults g.W.Actor.between g.met.W.Actor.rows own own' before then_ c.args.way.place c.in_ok-studied.ensures.looks.adds has in
    let fits =
    house-fits g.D.Shelf.told now (g.met.W.Actor.kept c.read_all.new.actor c.in_ok-rows.ensures.keeps) c.in_ok-rows.ensures.looks.running in
    comes-to g.D.Shelf.told now c.args.way c.args.tree.now fits studied c.in_ok-rows.rows.items c.in_ok-studied.ensures.typed
    (seen-as g.D.Shelf.told g.D.Shelf.faults g.W.Actor.between g.met.W.Actor.rows own' own'' then_ now c.args.way.place c.in_ok-rows.ensures.looks.adds has_then c.args.tree.now studied c.in_ok-rows.rows.items
    c.in_ok-studied.ensures.infos c.in_ok-studied.ensures.keeping c.in_ok-rows.ensures.rows)
    (house-said g.D.Shelf.told now c.args.way.place (g.met.W.Actor.kept c.read_all.new.actor c.in_ok-rows.ensures.keeps) c.in_ok-rows.ensures.looks.running fits)
    c.in_ok-shown.shown
    (c.in_ok-shown.ensures.shown
    ∙ ap (λ (state : State). listed_for state c.args.tree.now)
    (sym (states-same g.D.Shelf.told g.D.Shelf.faults g.W.Actor.between g.met.W.Actor.rows own' own'' then_ now c.args.way.place c.in_ok-rows.ensures.looks.adds has_then
    ∙ states-same g.D.Shelf.told g.D.Shelf.faults g.W.Actor.between g.met.W.Actor.rows own own' before then_ c.args.way.place c.in_ok-studied.ensures.looks.adds has)))
    c.in_ok-meaning.meaning c.filled.result
    (ap (λ (rows : List TableRows). meant studied.infos.items (found_of rows) (typed_in studied.typed)) (sym c.as_slice.ensures.value) ∙ c.in_ok-meaning.ensures.means)
    c.in_ok-meaning.ensures.narrow c.filled.ensures

pub returns-in_err-shown-clause-looks : goal.returns-in_err-shown-clause-looks
returns-in_err-shown-clause-looks g c =
    looks-failed g.D.Shelf.told g.D.Shelf.faults g.W.Actor.between g.met.W.Actor.rows g.W.Actor.meanwhile c.args.way.txn
    (g.W.Actor.own c.args.actor.now) (g.W.Actor.own c.shown.new.actor) (g.W.Actor.house c.args.actor.now) (g.W.Actor.house c.shown.new.actor)
    c.in_err-shown.field-0.0 c.from_residual.result c.from_residual.ensures.1 c.in_err-shown.ensures.looks

pub returns-in_err-studied-clause-looks : goal.returns-in_err-studied-clause-looks
returns-in_err-studied-clause-looks g c =
    let own = g.W.Actor.own c.args.actor.now in
    let own' = g.W.Actor.own c.shown.new.actor in
    let own'' = g.W.Actor.own c.studied.new.actor in
    let first = g.W.Actor.house c.args.actor.now in
    let before = g.W.Actor.house c.shown.new.actor in
    let now = g.W.Actor.house c.studied.new.actor in
    looks-behind g.D.Shelf.told g.D.Shelf.faults g.W.Actor.between g.met.W.Actor.rows g.W.Actor.meanwhile c.args.way.txn own own' own'' first before now _
    c.in_ok-shown.ensures.looks.adds
    (looks-failed g.D.Shelf.told g.D.Shelf.faults g.W.Actor.between g.met.W.Actor.rows g.W.Actor.meanwhile c.args.way.txn own' own'' before now
    c.in_err-studied.field-0.0 c.from_residual-in_err-studied.result c.from_residual-in_err-studied.ensures.1 c.in_err-studied.ensures.looks)

pub returns-in_err-rows-clause-looks : goal.returns-in_err-rows-clause-looks
returns-in_err-rows-clause-looks g c =
    let own = g.W.Actor.own c.args.actor.now in
    let own' = g.W.Actor.own c.shown.new.actor in
    let own'' = g.W.Actor.own c.studied.new.actor in
    let last = g.W.Actor.own c.read_all.new.actor in
    let first = g.W.Actor.house c.args.actor.now in
    let before = g.W.Actor.house c.shown.new.actor in
    let then_ = g.W.Actor.house c.studied.new.actor in
    let now = g.W.Actor.house c.read_all.new.actor in
    looks-behind g.D.Shelf.told g.D.Shelf.faults g.W.Actor.between g.met.W.Actor.rows g.W.Actor.meanwhile c.args.way.txn own own' last first before now _
    c.in_ok-shown.ensures.looks.adds
    (looks-behind g.D.Shelf.told g.D.Shelf.faults g.W.Actor.between g.met.W.Actor.rows g.W.Actor.meanwhile c.args.way.txn own' own'' last before then_ now _
    c.in_ok-studied.ensures.looks.adds
    (looks-failed g.D.Shelf.told g.D.Shelf.faults g.W.Actor.between g.met.W.Actor.rows g.W.Actor.meanwhile c.args.way.txn own'' last then_ now
    c.in_err-rows.field-0.0 c.from_residual-in_err-rows.result c.from_residual-in_err-rows.ensures.1 c.in_err-rows.ensures.looks))

pub returns-in_err-meaning-clause-looks : goal.returns-in_err-meaning-clause-looks
returns-in_err-meaning-clause-looks g c =
    let own = g.W.Actor.own c.args.actor.now in
    let own' = g.W.Actor.own c.shown.new.actor in
    let own'' = g.W.Actor.own c.studied.new.actor in
    let last = g.W.Actor.own c.read_all.new.actor in
    let first = g.W.Actor.house c.args.actor.now in
    let before = g.W.Actor.house c.shown.new.actor in
    let then_ = g.W.Actor.house c.studied.new.actor in
    let now = g.W.Actor.house c.read_all.new.actor in
    looks-behind g.D.Shelf.told g.D.Shelf.faults g.W.Actor.between g.met.W.Actor.rows g.W.Actor.meanwhile c.args.way.txn own own' last first before now _
    c.in_ok-shown.ensures.looks.adds
    (looks-behind g.D.Shelf.told g.D.Shelf.faults g.W.Actor.between g.met.W.Actor.rows g.W.Actor.meanwhile c.args.way.txn own' own'' last before then_ now _
    c.in_ok-studied.ensures.looks.adds
    (looks-lack g.D.Shelf.told g.D.Shelf.faults g.W.Actor.between g.met.W.Actor.rows g.W.Actor.meanwhile c.args.way.txn own'' last then_ now
    c.from_residual-in_err-meaning.result c.from_residual-in_err-meaning.ensures.1 c.in_ok-rows.ensures.looks.adds c.in_ok-rows.ensures.looks.running))
