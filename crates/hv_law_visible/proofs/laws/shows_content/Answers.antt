use Rattle.hv_law_visible.specs.Readers.{IsPast}
use Rattle.hv_law_visible.specs.Snapshots.{IsUndone}
use Rattle.hv_law_visible.proofs.ContentLemmas.{shows-rows}
use Rattle.hv_law_visible.proofs.laws.shows_content.Goals as goal

pub returns : goal.returns
returns g c = record {
  law = λ id_of most sight open_txns fates writes jobs tree.
      shows-rows id_of most sight (IsPast open_txns) (IsUndone fates) writes jobs tree;
}
