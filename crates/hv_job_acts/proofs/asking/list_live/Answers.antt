use Rattle.std.proofs.Common.{map, ap, ◌∙◌}
use Rattle.hv_history.specs.State.{state_of}
use Rattle.hv_job_calls.proofs.OnOk.{ok-weaker}
use Rattle.hv_job_acts.specs.Work.{is_live_note}
use Rattle.hv_job_acts.proofs.Notes.{live-same}
use Rattle.hv_job_acts.proofs.asking.list_live.Goals as goal

pub returns : goal.returns
returns c =
    ok-weaker c.live_of.result _ _
    (λ live is. is ∙ ap (map is_live_note) c.tables.ensures.tables ∙ live-same (state_of c.args.book.now.entries).tables) c.live_of.ensures
