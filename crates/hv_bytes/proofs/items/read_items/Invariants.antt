use Rattle.std.proofs.Common.{◌≡◌, ◌-◌, length}
use Rattle.hv_bytes.specs.Reading.{items_at}
use Rattle.hv_bytes.proofs.ItemLemmas.{with_front, Takes}
use Rattle.hv_bytes.proofs.items.read_items.Given as goal

abbrev pub invariant-loop : goal.invariant-loop
invariant-loop g l = record {
  exact : with_front l.items.items (items_at g.F.Field.at (l.count - l.counter) l.rest) ≡ items_at g.F.Field.at l.count l.bytes;
  count : length l.items.items ≡ l.counter;
  takes : Takes g.F.Field.spelling g.F.Field.Has l.bytes l.items.items l.rest;
}
