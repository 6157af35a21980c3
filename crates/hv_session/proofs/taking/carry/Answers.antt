use Rattle.hv_session.proofs.Takings.{begun-started}
use Rattle.hv_session.proofs.AloneBegins.{halts-alone}
use Rattle.hv_session.proofs.taking.carry.Goals as goal

pub go_opened-requires-clause-running : goal.go_opened-requires-clause-running
go_opened-requires-clause-running g c =
    (c.in-Ok.ensures.begins c.args.tree c.requires.tree).1.running

pub go_opened-requires-clause-was : goal.go_opened-requires-clause-was
go_opened-requires-clause-was g c =
    begun-started (g.W.Actor.house c.args.actor.now) (g.W.Actor.house c.begin.new.actor) (record { session = c.args.session; number = c.args.number; text = c.args.text })
    c.args.tree c.in-Ok.opened _ (c.in-Ok.ensures.begins c.args.tree c.requires.tree).1.is

pub returns-in-Ok-clause-takes : goal.returns-in-Ok-clause-takes
returns-in-Ok-clause-takes g c =
    (c.go_opened.ensures.goes (g.W.Actor.house c.args.actor.now) (g.W.Actor.own c.args.actor.now)
    (record { session = c.args.session; number = c.args.number; text = c.args.text }) (c.in-Ok.ensures.begins c.args.tree c.requires.tree)).takes

pub returns-in-Ok-clause-halts : goal.returns-in-Ok-clause-halts
returns-in-Ok-clause-halts g c =
    (c.go_opened.ensures.goes (g.W.Actor.house c.args.actor.now) (g.W.Actor.own c.args.actor.now)
    (record { session = c.args.session; number = c.args.number; text = c.args.text }) (c.in-Ok.ensures.begins c.args.tree c.requires.tree)).halts

pub returns-in-Ok-clause-alone : goal.returns-in-Ok-clause-alone
returns-in-Ok-clause-alone g c = λ acts.
    c.go_opened.ensures.alone acts (g.W.Actor.house c.args.actor.now) (g.W.Actor.own c.args.actor.now)
    (record { session = c.args.session; number = c.args.number; text = c.args.text }) c.requires.tree c.requires.running
    ((g.met.W.Actor.kept c.args.actor.now c.requires.keeps).whole c.requires.running) (c.in-Ok.ensures.begins c.args.tree c.requires.tree)

pub returns-in-Err-clause-alone : goal.returns-in-Err-clause-alone
returns-in-Err-clause-alone g c = λ acts. record {
  taking =
      halts-alone g.D.Shelf.told g.D.Shelf.faults g.W.Actor.between acts.nothing g.W.Actor.meanwhile acts.alone _
      (record { session = c.args.session; number = c.args.number; text = c.args.text })
      (g.W.Actor.own c.args.actor.now) (g.W.Actor.own c.begin.new.actor) (g.W.Actor.house c.args.actor.now) (g.W.Actor.house c.begin.new.actor)
      c.in-Err.why c.requires.running (g.met.W.Actor.kept c.begin.new.actor c.in-Err.ensures.keeps) c.in-Err.ensures.halts;
  held = tt;
  truly = λ is. tt;
}
