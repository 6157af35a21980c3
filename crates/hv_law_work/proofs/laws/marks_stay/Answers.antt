use Rattle.hv_law_work.proofs.TxnMarks.{others-keep-marks, staged-keeps-changes, gone-keeps-changes, published-keeps-marks}
use Rattle.hv_law_work.proofs.laws.marks_stay.Goals as goal

pub returns : goal.returns
returns c = record { others = others-keep-marks; staged = staged-keeps-changes; gone = gone-keeps-changes; published = published-keeps-marks }
