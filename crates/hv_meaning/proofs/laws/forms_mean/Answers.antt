use Rattle.hv_meaning.proofs.Forms.{forms-mean, others-nothing}
use Rattle.hv_meaning.proofs.laws.forms_mean.Goals as goal

pub returns : goal.returns
returns c = record { forms = forms-mean; others = others-nothing }
