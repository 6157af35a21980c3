use Rattle.hv_law_published.proofs.EntryLemmas.{each-other-entry-keeps}
use Rattle.hv_law_published.proofs.laws.each_other_entry_keeps.Goals as goal

pub returns : goal.returns
returns g c = record { law = each-other-entry-keeps }
