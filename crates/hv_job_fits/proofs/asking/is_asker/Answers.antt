use Rattle.hv_queue.specs.hv_history.specs.State.{state_of}
use Rattle.hv_job_fits.proofs.AskLemmas.{same-law, asker-law}
use Rattle.hv_job_fits.proofs.asking.is_asker.Goals as goal

pub returns : goal.returns
returns c =
    let state = state_of c.args.book.now.entries in
    record {
      asks =
          same-law _ c.both.result _ c.both.ensures
          (asker-law state c.args.table c.args.kind c.args.by.0 _ c.opening_tree.ensures.tree c.is_running-running.result c.compacts-asks.result
          c.is_running-running.ensures.running c.compacts-asks.ensures);
    }
