use Rattle.hv_seated.proofs.ShareLaws.{items-are-of-shares}
use Rattle.hv_seated.proofs.accounts.items_are_of_shares.Goals as goal

pub returns : goal.returns
returns c = record { law = items-are-of-shares }
