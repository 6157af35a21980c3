use Rattle.hv_kept.proofs.NamesLemmas.{put_first}
use Rattle.hv_kept.proofs.names.names_of.Goals as goal

pub returns : goal.returns
returns c = record { names = put_first c.args.places.now _ _ c.in_ok-names.ensures c.in_ok-put_all.ensures.names }
