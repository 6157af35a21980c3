use Rattle.std.proofs.Common.{Some, Result, List, sym, subst}
use Rattle.std.specs.Prelude.{IfOk, IfErr}
use Rattle.hv_base.specs.Told.{Tells}
use Rattle.hv_shelf.specs.declared.place.Place.{Place}
use Rattle.hv_shelf.specs.Disk.{places_of}
use Rattle.hv_history.specs.declared.entry.Entry.{Entry}
use Rattle.hv_history.specs.State.{state_of}
use Rattle.hv_trail.specs.declared.trail.Reader.TheVariants as reader
use Rattle.hv_trail.specs.Steps.{Read, Done}
use Rattle.hv_telling.specs.hv_house.specs.declared.listing.Listing.{Listing}
use Rattle.hv_telling.specs.hv_house.specs.House.{entries_of}
use Rattle.hv_telling.proofs.Reading.{reads-keep-whole}
use Rattle.hv_job_calls.specs.declared.fault.JobFault.{JobFault}
use Rattle.hv_job_calls.specs.Listing.{IsNotedIn, IsListOf, IsListingOf}
use Rattle.hv_job_calls.specs.Steps.{job_call, JobStep}
use Rattle.hv_job_calls.specs.Tests.{IsHouse}
use Rattle.hv_job_calls.proofs.Forgets.{tells-more}
use Rattle.hv_job_calls.proofs.ListedJobs.{list-known, ok-read, read-house, listed-step}
use Rattle.hv_job_calls.proofs.OnOk.{ok-weaker}
use Rattle.hv_job_calls.proofs.Steps.{read-failed}
use Rattle.hv_job_calls.proofs.listing.list_noted.Goals as goal

pub read_places-requires-clause-whole : goal.read_places-requires-clause-whole
read_places-requires-clause-whole g c =
    reads-keep-whole g.D.Shelf.told g.D.Shelf.faults (Some (reader.Job c.args.job)) Done c.args.house.now c.places_for.new.self c.requires.whole
    c.in-Ok.ensures.step c.in-Ok.ensures.ready

pub read_places-requires-clause-noted : goal.read_places-requires-clause-noted
read_places-requires-clause-noted g c =
    subst (λ (book : List Entry). IsNotedIn (state_of book) c.args.note) (sym c.places_for.ensures.asked.book) c.requires.noted

pub returns-in-Ok-clause-step : goal.returns-in-Ok-clause-step
returns-in-Ok-clause-step g c =
    subst (λ (r : Result Listing JobFault). JobStep g.D.Shelf.told g.D.Shelf.faults (job_call (Read (Some (reader.Job c.args.job))) r) c.args.house.now
    c.places_for.new.self r)
    (sym c.list_read.ensures)
    (listed-step g.D.Shelf.told g.D.Shelf.faults (Some (reader.Job c.args.job)) c.args.house.now c.places_for.new.self c.requires.whole c.in-Ok.ensures.step
    c.in-Ok.ensures.ready c.places_for.ensures.asked.store c.read_places.result)

pub returns-in-Ok-clause-list : goal.returns-in-Ok-clause-list
returns-in-Ok-clause-list g c =
    subst (λ (r : Result Listing JobFault). IfOk r (λ listing. IsListOf (entries_of c.args.house.now) c.args.note listing.list)) (sym c.list_read.ensures)
    (ok-read c.read_places.result _
    (ok-weaker c.read_places.result _ _
    (λ listing is.
    subst (λ (book : List Entry). IsListOf book c.args.note listing.list) c.places_for.ensures.asked.book
    (list-known (entries_of c.places_for.new.self) c.args.note c.in-Ok.places.items listing is))
    c.read_places.ensures.listing))

pub returns-in-Ok-clause-listing : goal.returns-in-Ok-clause-listing
returns-in-Ok-clause-listing g c =
    subst (λ (r : Result Listing JobFault). IfOk r (λ listing. Tells (g.D.Shelf.told c.args.house.now.shelf)
    (λ s. IsListingOf (entries_of c.args.house.now) c.args.note (places_of (record { 0 = c.args.note.table }) s.tree) (Some listing)))) (sym c.list_read.ensures)
    (ok-read c.read_places.result _
    (ok-weaker c.read_places.result _ _
    (λ listing is.
    tells-more (g.D.Shelf.told c.args.house.now.shelf) _ _
    (λ s are.
    subst (λ (places : List Place). IsListingOf (entries_of c.args.house.now) c.args.note places (Some listing)) are
    (subst (λ (book : List Entry). IsListingOf book c.args.note c.in-Ok.places.items (Some listing)) c.places_for.ensures.asked.book is))
    c.in-Ok.ensures.places)
    c.read_places.ensures.listing))

pub returns-in-Ok-clause-failed : goal.returns-in-Ok-clause-failed
returns-in-Ok-clause-failed g c = subst (λ (r : Result Listing JobFault). IfErr r IsHouse) (sym c.list_read.ensures) (read-house c.read_places.result)

pub returns-in-Err-clause-step : goal.returns-in-Err-clause-step
returns-in-Err-clause-step g c =
    read-failed g.D.Shelf.told g.D.Shelf.faults (Some (reader.Job c.args.job)) (Read (Some (reader.Job c.args.job))) c.args.house.now c.places_for.new.self
    c.in-Err.why c.requires.whole c.in-Err.ensures.step c.in-Err.ensures.stays c.in-Err.ensures.cause.later c.in-Err.ensures.cause.failed c.in-Err.ensures.step
