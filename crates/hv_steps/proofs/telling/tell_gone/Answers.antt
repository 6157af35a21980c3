use Rattle.hv_table_reader.specs.hv_acts.specs.Told.{trail_in}
use Rattle.hv_steps.proofs.Joining.{adds-front}
use Rattle.hv_steps.proofs.Gone.{gone-lasts, says-gone, gone-goes, untold-goes}
use Rattle.hv_steps.proofs.telling.tell_gone.Goals as goal

pub gone_reply-requires : goal.gone_reply-requires
gone_reply-requires g c =
    let before = g.W.Actor.house c.args.actor.now in
    let now = g.W.Actor.house c.tell_end.new.actor in
    record {
      said = says-gone (trail_in now) c.args.txn.0 c.args._at
          (gone-lasts (trail_in before) (trail_in now)
          (adds-front g.D.Shelf.faults g.W.Actor.between g.met.W.Actor.rows (g.W.Actor.own c.args.actor.now) (g.W.Actor.own c.tell_end.new.actor) before now _ c.in-Ok.ensures.adds)
          c.args.txn.0 c.args._at c.requires.gone) c.in-Ok.said c.in-Ok.ensures.says;
    }

pub returns-in-Ok-clause-goes : goal.returns-in-Ok-clause-goes
returns-in-Ok-clause-goes g c = λ low.
    gone-goes g.D.Shelf.told g.D.Shelf.faults g.W.Actor.between g.met.W.Actor.rows g.W.Actor.meanwhile low c.args.txn.0 (g.W.Actor.own c.args.actor.now)
    (g.W.Actor.own c.tell_end.new.actor) (g.W.Actor.house c.args.actor.now) (g.W.Actor.house c.tell_end.new.actor) c.in-Ok.said c.gone_reply.result
    c.gone_reply.ensures.reply c.in-Ok.ensures.adds c.in-Ok.ensures.running c.in-Ok.ensures.says

pub returns-in-Err-clause-goes : goal.returns-in-Err-clause-goes
returns-in-Err-clause-goes g c = λ low.
    untold-goes g.D.Shelf.told g.D.Shelf.faults g.W.Actor.between g.met.W.Actor.rows g.W.Actor.meanwhile low c.args.txn.0 (g.W.Actor.own c.args.actor.now)
    (g.W.Actor.own c.tell_end.new.actor) (g.W.Actor.house c.args.actor.now) (g.W.Actor.house c.tell_end.new.actor) c.in-Err.why c.in-Err.ensures.adds
    c.in-Err.ensures.halts
