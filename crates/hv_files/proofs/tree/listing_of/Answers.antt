use Rattle.hv_files.proofs.ListingLemmas.{listing-found}
use Rattle.hv_files.proofs.tree.listing_of.Goals as goal

pub returns : goal.returns
returns c =
    let gives = c.into_iter-place-iterator.ensures.into_iter_gives
    in record {
      rising =
          listing-found c.args.table _ c.loop-place.place-iterator _ _ c.loop-place.invariant
          c.in-None.ensures.steps.0 gives.0 gives.4;
    }
