use Rattle.std.proofs.Common.{◌≡◌, inr, refl, ap, ◌∙◌, arith}
use Rattle.hv_history.specs.Answers.{counts_line}
use Rattle.hv_history.specs.declared.entry.Cause.{Cause}
use Rattle.hv_history.specs.declared.entry.Cause.TheVariants as cause
use Rattle.hv_logic.specs.declared.meaning.Meaning.TheVariants.{Change}
use Rattle.hv_table_reader.specs.hv_acts.specs.Told.{trail_in}
use Rattle.hv_steps.specs.Going.{faults_in}
use Rattle.hv_steps.proofs.Joining.{on-way-opened}
use Rattle.hv_steps.proofs.Parts.{early-prepares, ends-can}
use Rattle.hv_steps.proofs.Shorts.{short_memory}
use Rattle.hv_steps.proofs.preparing.prepare_rows.Goals as goal

pub change_rows-requires-clause-text : goal.change_rows-requires-clause-text
change_rows-requires-clause-text g c = c.in-Ok.ensures ∙ ap counts_line (c.as_slice.ensures ∙ c.requires.wrote)

pub withdraw-requires-clause-small : goal.withdraw-requires-clause-small
withdraw-requires-clause-small g c = short_memory c.args.way.txn.0

pub withdraw-requires-clause-was : goal.withdraw-requires-clause-was
withdraw-requires-clause-was g c =
    on-way-opened (trail_in (g.W.Actor.house c.args.actor.now)) c.requires.comes.asking c.args.way c.requires.comes.said c.requires.comes.was

pub returns-in-Err-clause-goes : goal.returns-in-Err-clause-goes
returns-in-Err-clause-goes g c =
    let a = g.W.Actor.house c.args.actor.now in
    let b = g.W.Actor.house c.withdraw.new.actor in
    let low = faults_in g.D.Shelf.faults a in
    early-prepares g.D.Shelf.told g.D.Shelf.faults g.W.Actor.between g.met.W.Actor.rows g.W.Actor.meanwhile c.args.way.txn.0 low
    (g.W.Actor.own c.args.actor.now) (g.W.Actor.own c.withdraw.new.actor) a b (Change c.args.info c.args.effect) cause.Memory c.withdraw.result (inr refl)
    (c.withdraw.ensures.goes low (omega arith) tt)

pub returns-in-Err-clause-can : goal.returns-in-Err-clause-can
returns-in-Err-clause-can g c =
    let a = g.W.Actor.house c.args.actor.now in
    let b = g.W.Actor.house c.withdraw.new.actor in
    let low = faults_in g.D.Shelf.faults a in
    ends-can g.D.Shelf.told g.D.Shelf.faults g.W.Actor.between g.met.W.Actor.rows g.W.Actor.meanwhile c.args.way.txn.0 low
    (g.W.Actor.own c.args.actor.now) (g.W.Actor.own c.withdraw.new.actor) a b c.args.way (λ (why : Cause). why ≡ cause.Memory) c.withdraw.result
    (c.withdraw.ensures.goes low (omega arith) tt)
