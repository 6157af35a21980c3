use Rattle.hv_seated.proofs.ShareLaws.{shares-apart, shares-within}
use Rattle.hv_seated.proofs.accounts.shares_are_apart.Goals as goal

pub returns : goal.returns
returns c = record { apart = shares-apart; within = shares-within }
