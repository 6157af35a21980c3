use Rattle.std.proofs.Common.{arith}
use Rattle.hv_history.specs.State.{nothing_yet}
use Rattle.hv_journal.proofs.Books.{leads_more, place_more, opens_len}
use Rattle.std.proofs.lemmas.Result.{err_from_is_err_and}
use Rattle.hv_recovery.proofs.Answered.{fault_at_entry}
use Rattle.hv_recovery.proofs.Books.{fit_more}
use Rattle.hv_recovery.proofs.reading.scan.Goals as goal

pub loop-entry-preserved : goal.loop-entry-preserved
loop-entry-preserved c =
    let opens = rw c.in-Some.is at c.in_ok-entry.ensures.open in
    let grown = place_more c.loop-entry.book.entries c.in-Some.entry in
    let len = opens_len c.loop-entry.rest.now c.in-Some.entry c.in-Some.behind.now opens in
    rw c.in_ok-admit.ensures.entries (record {
      led = leads_more c.loop-entry.book.entries c.args.bytes.now c.loop-entry.rest.now c.in-Some.entry c.in-Some.behind.now c.loop-entry.invariant.led opens;
      fit = fit_more c.args.limits.now nothing_yet c.loop-entry.book.entries c.in-Some.entry c.loop-entry.invariant.fit c.in_ok-admit.ensures.good;
      at = omega (arith, grown, len, c.loop-entry.invariant.at);
      whole = omega (arith, len, c.loop-entry.invariant.whole);
    })

pub returns-in_err-admit-clause-bad : goal.returns-in_err-admit-clause-bad
returns-in_err-admit-clause-bad c =
    let opens = rw c.in-Some.is at c.in_ok-entry.ensures.open in
    let p = err_from_is_err_and c.from_residual-in_err-admit.result c.from_residual-in_err-admit.ensures.1 in
    rw (p.1, p.2) (fault_at_entry c.args.limits.now c.args.bytes.now c.loop-entry.rest.now c.loop-entry.book.entries c.loop-entry.at c.in-Some.entry c.in-Some.behind.now c.in_err-admit.field-0.0 opens
    c.in_err-admit.ensures.bad c.requires.long c.loop-entry.invariant.led c.loop-entry.invariant.fit c.loop-entry.invariant.at)
