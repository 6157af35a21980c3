use Rattle.hv_acts.proofs.Listed.{all-stand}
use Rattle.hv_acts.proofs.reading.what_was_listed_stands.Goals as goal

pub returns : goal.returns
returns c = record {
  stand = λ before now files files' by place table inserts deletes on. all-stand before now files files' by place table on inserts deletes;
}
