use Rattle.hv_law_serial.proofs.Serially.{serial-history}
use Rattle.hv_law_serial.proofs.laws.serial_history.Goals as goal

pub returns : goal.returns
returns c = record { law = serial-history }
