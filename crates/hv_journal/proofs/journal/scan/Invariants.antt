use Rattle.std.proofs.Common.{◌≡◌, ◌+◌, length}
use Rattle.hv_history.specs.Journal.{Leads, place_of}
use Rattle.hv_journal.proofs.journal.scan.Given as goal

abbrev pub invariant-loop-book : goal.invariant-loop-book
invariant-loop-book l = record {
  led : Leads l.book.items l.bytes l.rest;
  at : l.at ≡ place_of l.book.items;
  whole : l.at + length l.rest ≡ length l.bytes;
}

abbrev pub decreases-loop-book : goal.decreases-loop-book
decreases-loop-book l = length l.rest
