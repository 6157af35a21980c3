use Rattle.std.proofs.Common.{◌≡◌, ◌+◌, length}
use Rattle.hv_history.specs.Journal.{Leads, place_of}
use Rattle.hv_history.specs.State.{nothing_yet}
use Rattle.hv_history.specs.Legal.{AllFit}
use Rattle.hv_recovery.proofs.reading.scan.Given as goal

abbrev pub invariant-loop-entry : goal.invariant-loop-entry
invariant-loop-entry l = record {
  led : Leads l.book.entries l.bytes l.rest;
  fit : AllFit l.limits nothing_yet l.book.entries;
  at : l.at ≡ place_of l.book.entries;
  whole : l.at + length l.rest ≡ length l.bytes;
}

abbrev pub decreases-loop-entry : goal.decreases-loop-entry
decreases-loop-entry l = length l.rest
