use Rattle.hv_law_serial.proofs.Whole.{script-history}
use Rattle.hv_law_serial.proofs.laws.script_history.Goals as goal

pub returns : goal.returns
returns c = record { law = script-history }
