use Rattle.std.proofs.Common.{ℕ, ◌≤◌, List, length, sym, subst}
use Rattle.hv_steps.specs.declared.reply.Opened.TheVariants as opened
use Rattle.hv_beginning.specs.Beginnings.{way_of}
use Rattle.hv_beginning.proofs.Openings.{gone-goes, left-running, asked-again}
use Rattle.hv_beginning.proofs.opening.begin_or_open.Goals as goal

pub not_begun-requires-clause-running : goal.not_begun-requires-clause-running
not_begun-requires-clause-running g c =
    left-running g.D.Shelf.told g.D.Shelf.faults g.W.Actor.between g.met.W.Actor.rows g.W.Actor.meanwhile g.met.W.Actor.goes_on
    (g.W.Actor.house c.args.actor.now) (g.W.Actor.house c.begin_at_once.new.actor) (g.W.Actor.own c.args.actor.now) (g.W.Actor.own c.begin_at_once.new.actor) (record { session = c.args.session; number = c.args.number; text = c.args.text }) c.args.tree c.in-Err.why c.in-Err.ensures.begins

pub not_begun-requires-clause-short : goal.not_begun-requires-clause-short
not_begun-requires-clause-short g c = subst (λ (t : List ℕ). length t ≤ 32768) (sym c.requires.words) c.requires.short

pub not_begun-requires-clause-named : goal.not_begun-requires-clause-named
not_begun-requires-clause-named g c = subst (λ (s : List ℕ). length s ≤ 32) (sym c.requires.name) c.requires.named

pub returns-in-Ok-clause-goes : goal.returns-in-Ok-clause-goes
returns-in-Ok-clause-goes g c =
    gone-goes g.D.Shelf.told g.D.Shelf.faults g.W.Actor.between g.met.W.Actor.rows g.W.Actor.meanwhile g.met.W.Actor.goes_on
    (g.W.Actor.house c.args.actor.now) (g.W.Actor.house c.begin_at_once.new.actor) (g.W.Actor.own c.args.actor.now) (g.W.Actor.own c.begin_at_once.new.actor) (record { session = c.args.session; number = c.args.number; text = c.args.text }) c.args.tree (opened.Started (way_of c.in-Ok.start)) c.in-Ok.ensures.begins

pub returns-in-Err-clause-goes : goal.returns-in-Err-clause-goes
returns-in-Err-clause-goes g c =
    asked-again g.D.Shelf.told g.D.Shelf.faults g.W.Actor.between g.met.W.Actor.rows g.W.Actor.meanwhile g.met.W.Actor.goes_on
    (g.W.Actor.house c.args.actor.now) (g.W.Actor.house c.begin_at_once.new.actor) (g.W.Actor.house c.not_begun.new.actor) (g.W.Actor.own c.args.actor.now) (g.W.Actor.own c.begin_at_once.new.actor) (g.W.Actor.own c.not_begun.new.actor) c.args.number c.in-Err.why c.not_begun.result
    c.args.session c.args.text c.args.name c.args.words c.requires.name c.requires.words
    (λ said runs begins. c.not_begun.ensures.goes (g.W.Actor.house c.args.actor.now) (g.W.Actor.own c.args.actor.now) said runs begins)
    c.args.tree c.requires.runs c.in-Err.ensures.begins
