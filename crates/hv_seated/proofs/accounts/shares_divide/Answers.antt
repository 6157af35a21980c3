use Rattle.hv_seated.proofs.ShareLaws.{shares-divide}
use Rattle.hv_seated.proofs.accounts.shares_divide.Goals as goal

pub returns : goal.returns
returns c = record { law = shares-divide }
