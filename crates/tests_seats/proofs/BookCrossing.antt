-- A book may cross threads. All that it holds has its lemma, as rattle writes one for each type, but for the trees that stand
-- beside its entries.
use denote.Param.Send.{IsSend, sendable}
use Rattle.std.proofs.Crossing.{crosses}
use Rattle.hv_history.proofs.entry.Entry.TheSendSync as entry
use Rattle.hv_book.proofs.index.Index.TheSendSync as index
use Rattle.hv_book.proofs.openings.OpeningNotes.TheSendSync as openings
use Rattle.hv_book.proofs.past.PastNotes.TheSendSync as past
use Rattle.hv_book.specs.contracts.book.Book as book
use Rattle.tests_seats.proofs.Crossing.{stmt_field}

pub book_field : IsSend (book.the_field).row
book_field =
    let s = stmt_field in
    let a = entry.the_field_send in
    let b = index.the_field_send in
    let c = openings.the_field_send in
    let d = past.the_field_send in
    search (sendable, crosses) depth 40 fits 30000
