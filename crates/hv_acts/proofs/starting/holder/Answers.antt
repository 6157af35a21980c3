use Rattle.std.proofs.Common.{None, refl, ap, ◌∙◌}
use Rattle.hv_book.specs.Briefs.{tree_in}
use Rattle.hv_history.specs.State.{state_of, numbered}
use Rattle.hv_acts.proofs.Notes.{no-true}
use Rattle.hv_acts.proofs.Opens.{not-held, textless, held-there, other-unheld, granted-unheld}
use Rattle.hv_acts.proofs.starting.holder.Goals as goal

pub returns-then-fits : goal.returns-then-fits
returns-then-fits g c = record {
  held = held-there g.D.Shelf.told c.args.house.now c.requires.ready c.args.txn c.in-Waiting.blocker (c.fits.ensures.fits.0 c.if-fits.true);
}

pub returns-else-fits : goal.returns-else-fits
returns-else-fits g c = record {
  held = λ by. not-held None by _ refl
      (other-unheld g.D.Shelf.told c.args.house.now c.requires.ready c.args.txn c.in-Some.tree.now c.in-Waiting.blocker
      (c.in-Some.ensures.tree ∙ ap (λ b. tree_in (numbered (state_of b).transactions c.args.txn.0)) c.book.ensures.entries)
      c.in-Waiting.ensures.state (λ held. no-true c.fits.result c.if-fits.false (c.fits.ensures.fits.1 held)) by);
}

pub returns-in-Granted : goal.returns-in-Granted
returns-in-Granted g c = record {
  held = λ by. not-held None by _ refl
      (granted-unheld g.D.Shelf.told c.args.house.now c.requires.ready c.args.txn c.in-Some.tree.now
      (c.in-Some.ensures.tree ∙ ap (λ b. tree_in (numbered (state_of b).transactions c.args.txn.0)) c.book.ensures.entries)
      c.in-Granted.ensures.state by);
}

pub returns-in-None : goal.returns-in-None
returns-in-None g c = record {
  held = λ by. not-held None by _ refl
      (textless g.D.Shelf.told c.args.house.now c.requires.ready c.args.txn
      (c.in-None.ensures.tree ∙ ap (λ b. tree_in (numbered (state_of b).transactions c.args.txn.0)) c.book.ensures.entries) by);
}
