use Rattle.std.proofs.Common.{◌≡◌, ◌+◌, length, None}
use Rattle.std.specs.List.{flat_map}
use Rattle.hv_rowfile.specs.Layout.{rec_spelling, Leads, last_id}
use Rattle.hv_rowfile.proofs.reading.files.read_records.Given as goal

abbrev pub invariant-loop : goal.invariant-loop
invariant-loop l = record {
  leads : Leads l.deletes l.bucket None l.recs.items l.body l.rest;
  count : length l.recs.items ≡ l.counter;
  last : l.before ≡ last_id None l.recs.items;
  len : length l.body ≡ length (flat_map rec_spelling l.recs.items) + length l.rest;
}
