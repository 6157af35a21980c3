use Rattle.std.proofs.Common.{List, subst}
use Rattle.hv_shelf.specs.declared.place.Place.{Place}
use Rattle.hv_telling.specs.hv_house.specs.Listing.{AreTakenOf}
use Rattle.hv_job_calls.proofs.OnOk.{ok-weaker}
use Rattle.hv_job_calls.proofs.listing.take_in.Goals as goal

pub returns-clause-files : goal.returns-clause-files
returns-clause-files c =
    ok-weaker c.take_of.result _ _
    (λ listing is. subst (λ (places : List Place). AreTakenOf places listing.list listing.inserts.items listing.deletes.items) c.in_ok-kept.ensures is)
    c.take_of.ensures.files
