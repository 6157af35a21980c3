use Rattle.hv_telling.proofs.Reading.{reads-keep-whole, reads-still-open}
use Rattle.hv_telling.proofs.laws.reads_keep_whole.Goals as goal

pub returns : goal.returns
returns g c = record { whole = reads-keep-whole; opens = reads-still-open }
