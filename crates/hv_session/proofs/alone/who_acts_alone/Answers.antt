use Rattle.hv_session.proofs.AloneBooks.{nothing-is-added}
use Rattle.hv_session.proofs.alone.who_acts_alone.Goals as goal

pub returns : goal.returns
returns g c = record { law = record { nothing = nothing-is-added; alone = λ before now same. same } }
