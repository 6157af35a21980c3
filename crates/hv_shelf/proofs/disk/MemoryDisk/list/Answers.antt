use Rattle.std.proofs.Common.{◌≡◌, ap, ◌∙◌, filter}
use Rattle.std.specs.Map.{keys_of}
use Rattle.hv_shelf.specs.Disk.{places_of}
use Rattle.hv_shelf.specs.Places.{is_of}
use Rattle.hv_shelf.proofs.TreeLemmas.{listing-files, places-files, listed-all}
use Rattle.hv_shelf.proofs.disk.MemoryDisk.list.Goals as goal

listed : (c : goal.In-None) → c.loop-place.places.items ≡ filter (is_of c.args.table) (keys_of c.self.inside.files.entries)
listed c =
    listed-all c.args.table _ c.loop-place.place-iterator _ c.self.inside.files.entries c.loop-place.invariant c.in-None.ensures.steps.0
    (c.into_iter-place-iterator.ensures.into_iter_gives ∙ c.keys-place-items.ensures.rest)

pub returns-clause-rising : goal.returns-clause-rising
returns-clause-rising c = listing-files c.args.table c.self.inside.files.entries _ c.keys-place-items.ensures.ordered (listed c)

pub returns-clause-places : goal.returns-clause-places
returns-clause-places c =
    listed c ∙ places-files c.args.table c.self.inside.files.entries c.keys-place-items.ensures.ordered
    ∙ ap (λ s. places_of c.args.table s.tree) c.self.view_is
