use Rattle.hv_acts.proofs.Listed.{all-got}
use Rattle.hv_acts.proofs.reading.what_was_listed_is_got.Goals as goal

pub returns : goal.returns
returns g c = record { got = λ told before now by place table listing on. all-got told before now by place table on listing }
