use Rattle.std.proofs.Common.{◌∙◌}
use Rattle.hv_job_calls.proofs.OnOk.{ok-weaker}
use Rattle.hv_job_calls.proofs.listing.listing_in.Goals as goal

pub returns-clause-list : goal.returns-clause-list
returns-clause-list g c = ok-weaker c.take_in.result _ _ (λ listing is. is ∙ c.in_ok-list.ensures.list) c.take_in.ensures.list
