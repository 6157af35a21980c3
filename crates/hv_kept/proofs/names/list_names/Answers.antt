use Rattle.hv_kept.proofs.KnownLemmas.{known_listed}
use Rattle.hv_kept.proofs.names.list_names.Goals as goal

pub returns-in-Ok-clause-done : goal.returns-in-Ok-clause-done
returns-in-Ok-clause-done c =
    λ told known. known_listed c.args.table c.in-Ok.places.items c.args.names.now told c.in-Ok.ensures.places known
