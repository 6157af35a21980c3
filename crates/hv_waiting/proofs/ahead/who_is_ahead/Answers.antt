use Rattle.hv_history.specs.State.{state_of}
use Rattle.hv_history.specs.Legal.{Of}
use Rattle.hv_waiting.specs.Queue.{IsBehind}
use Rattle.hv_waiting.proofs.Walks.{behind-law, behind-as, behind-none}
use Rattle.hv_waiting.proofs.ahead.who_is_ahead.Goals as goal

pub returns-in-Some : goal.returns-in-Some
returns-in-Some c = record {
  way = λ by.
      let state = state_of c.args.book.now.entries in
      behind-as c.where_waiting.result by (Of state c.args.txn.0 (IsBehind state c.args.txn.0 by.0)) _ c.where_waiting.ensures
      (behind-law state c.args.txn.0 c.in-Some.tree.now c.requires.texts c.in-Some.ensures.tree c.is_waiting.result c.is_waiting.ensures.waiting
      c.first_ahead.result c.first_ahead.ensures.first by);
}

pub returns-in-None : goal.returns-in-None
returns-in-None c = record {
  way = λ by. behind-none (state_of c.args.book.now.entries) c.args.txn.0 c.requires.texts c.in-None.ensures.tree by;
}
