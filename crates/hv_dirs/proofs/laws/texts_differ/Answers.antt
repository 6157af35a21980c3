use Rattle.hv_dirs.proofs.NameLemmas.{text-same}
use Rattle.hv_dirs.proofs.laws.texts_differ.Goals as goal

pub returns : goal.returns
returns c = record { law = text-same }
