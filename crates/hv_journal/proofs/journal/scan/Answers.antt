use Rattle.std.proofs.Common.{arith}
use Rattle.hv_journal.proofs.Books.{leads_more, place_more, opens_len}
use Rattle.hv_journal.proofs.journal.scan.Goals as goal

pub loop-book-preserved : goal.loop-book-preserved
loop-book-preserved c =
    let opens = rw c.in-Some.is at c.in_ok-entry.ensures.open in
    let grown = place_more c.loop-book.book.items c.in-Some.entry in
    let len = opens_len c.loop-book.rest.now c.in-Some.entry c.in-Some.behind.now opens in
    rw c.in_ok-push.ensures.items (record {
      led = leads_more c.loop-book.book.items c.args.bytes.now c.loop-book.rest.now c.in-Some.entry c.in-Some.behind.now c.loop-book.invariant.led opens;
      at = omega (arith, grown, len, c.loop-book.invariant.at);
      whole = omega (arith, len, c.loop-book.invariant.whole);
    })
