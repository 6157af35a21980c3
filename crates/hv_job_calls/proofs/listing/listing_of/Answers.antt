use Rattle.std.proofs.Common.{List, ap, ◌∙◌, subst}
use Rattle.hv_history.specs.declared.entry.Entry.{Entry}
use Rattle.hv_tallies.specs.Jobs.{asked_at}
use Rattle.hv_telling.specs.hv_house.specs.House.{entries_of}
use Rattle.hv_job_calls.specs.Listing.{IsListingBy}
use Rattle.hv_job_calls.proofs.ListedJobs.{asked-stands}
use Rattle.hv_job_calls.proofs.listing.listing_of.Goals as goal

pub returns-in_ok-listing-in-Some : goal.returns-in_ok-listing-in-Some
returns-in_ok-listing-in-Some g c = record {
  listing =
      subst (λ o. IsListingBy (entries_of c.args.house.now) c.args.note.now c.args.places.items o c.in_ok-listing-in-Some.listing)
      (c.in-Some.ensures ∙ ap (λ (book : List Entry). asked_at book c.args.note.now.asked) c.book.ensures.entries)
      (c.in_ok-listing-in-Some.ensures.list, c.in_ok-listing-in-Some.ensures.files);
}

pub returns-in-None : goal.returns-in-None
returns-in-None g c = record {
  listing =
      asked-stands (entries_of c.args.house.now) c.args.note.now c.requires.noted
      (c.in-None.ensures ∙ ap (λ (book : List Entry). asked_at book c.args.note.now.asked) c.book.ensures.entries);
}
