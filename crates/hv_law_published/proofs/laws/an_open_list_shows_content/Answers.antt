use Rattle.hv_law_published.proofs.StateLemmas.{list-shows}
use Rattle.hv_law_published.proofs.laws.an_open_list_shows_content.Goals as goal

pub returns : goal.returns
returns g c = record { law = list-shows }
