use Rattle.hv_history.specs.declared.entry.Entry.TheVariants as entry
use Rattle.hv_trail.specs.Kept.{trail_of}
use Rattle.hv_acts.proofs.Aborts.{own-abort}
use Rattle.hv_acts.proofs.Truths.{abort-true, true-house}
use Rattle.hv_acts.proofs.aborting.abort_for.Goals as goal

pub note_fitting-requires-clause-of_it : goal.note_fitting-requires-clause-of_it
note_fitting-requires-clause-of_it g c = own-abort c.args.txn c.args.cause c.requires.own

pub note_fitting-requires-clause-truly : goal.note_fitting-requires-clause-truly
note_fitting-requires-clause-truly g c told fits =
    true-house c.args.house.now (entry.Abort c.args.txn c.args.cause)
    (abort-true (trail_of c.args.house.now.trail) c.args.txn c.args.cause fits (c.requires.truly told))
