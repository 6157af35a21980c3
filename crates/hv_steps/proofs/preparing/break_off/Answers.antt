use Rattle.std.proofs.Common.{◌∙◌, sym, subst}
use Rattle.hv_steps.proofs.Shorts.{short_fault}
use Rattle.hv_steps.specs.Preparing.{IsFaultOf, IsRefusal}
use Rattle.hv_steps.proofs.Parts.{failed-none, failed-some, goes-failed, goes-lacking}
use Rattle.hv_steps.proofs.preparing.break_off.Goals as goal

pub withdraw-requires-clause-running : goal.withdraw-requires-clause-running
withdraw-requires-clause-running g c =
    (subst (IsRefusal g.D.Shelf.told g.D.Shelf.faults g.W.Actor.meanwhile c.requires.refusal.0 c.args.txn (g.W.Actor.house c.args.actor.now))
    (failed-some c.args.why c.in-Some.count (sym c.failed_count.ensures ∙ c.in-Some.is)) c.requires.refusal.1).left

pub withdraw-requires-clause-small : goal.withdraw-requires-clause-small
withdraw-requires-clause-small g c = short_fault c.args.txn.0 c.in-Some.count

pub withdraw-requires-clause-marked : goal.withdraw-requires-clause-marked
withdraw-requires-clause-marked g c =
    (subst (IsRefusal g.D.Shelf.told g.D.Shelf.faults g.W.Actor.meanwhile c.requires.refusal.0 c.args.txn (g.W.Actor.house c.args.actor.now))
    (failed-some c.args.why c.in-Some.count (sym c.failed_count.ensures ∙ c.in-Some.is)) c.requires.refusal.1).file.marked

pub end_without-requires-clause-left : goal.end_without-requires-clause-left
end_without-requires-clause-left g c = c.requires.refusal.1.left

pub end_without-requires-clause-ends : goal.end_without-requires-clause-ends
end_without-requires-clause-ends g c = failed-none c.args.why (sym c.failed_count.ensures ∙ c.in-None.is)

pub returns-in-Some-clause-broken : goal.returns-in-Some-clause-broken
returns-in-Some-clause-broken g c = λ low down refusal.
    let e = failed-some c.args.why c.in-Some.count (sym c.failed_count.ensures ∙ c.in-Some.is) in
    let a = g.W.Actor.house c.args.actor.now in
    let b = g.W.Actor.house c.withdraw.new.actor in
    let failed = (subst (IsRefusal g.D.Shelf.told g.D.Shelf.faults g.W.Actor.meanwhile low c.args.txn a) e refusal).file in
    goes-failed g.D.Shelf.told g.D.Shelf.faults g.W.Actor.between g.met.W.Actor.rows g.W.Actor.meanwhile c.args.txn.0 low (g.W.Actor.own c.args.actor.now)
    (g.W.Actor.own c.withdraw.new.actor) a b c.args.why c.in-Some.count c.withdraw.result e (c.withdraw.ensures.goes low down (failed.above, failed.upto))

pub returns-in-None-clause-broken : goal.returns-in-None-clause-broken
returns-in-None-clause-broken g c = λ low down refusal.
    let a = g.W.Actor.house c.args.actor.now in
    let b = g.W.Actor.house c.end_without.new.actor in
    goes-lacking g.D.Shelf.told g.D.Shelf.faults g.W.Actor.between g.met.W.Actor.rows g.W.Actor.meanwhile c.args.txn.0 low (g.W.Actor.own c.args.actor.now)
    (g.W.Actor.own c.end_without.new.actor) a b (IsFaultOf c.args.why) c.end_without.result c.ended.result c.ended.ensures (c.end_without.ensures.goes low)
