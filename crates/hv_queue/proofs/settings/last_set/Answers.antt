use Rattle.std.proofs.Common.{◌≤◌, ◌+◌, length, drop, fold, refl, sym, ap, ◌∙◌, arith, rules}
use Rattle.std.proofs.lemmas.List.{length-map}
use Rattle.hv_history.specs.State.{state_of}
use Rattle.hv_history.specs.Thresholds.{set_in}
use Rattle.hv_tallies.specs.hv_earlier.specs.hv_meta.specs.hv_book.specs.Briefs.{brief}
use Rattle.hv_queue.specs.Settings.{key_of, reads_of}
use Rattle.hv_queue.proofs.SetLemmas.{set-step, set-end}
use Rattle.hv_queue.proofs.settings.last_set.Goals as goal

pub loop-i-preserved : goal.loop-i-preserved
loop-i-preserved c =
    let ts = (state_of c.args.book.now.entries).transactions in
    let key = key_of c.args.is_percent in
    let reads = reads_of c.args.is_percent in
    ap (λ found. fold (set_in c.args.opening key reads) found (drop (c.loop-i.i + 1) ts)) c.set_next-found.ensures
    ∙ sym (set-step c.args.opening key reads ts c.loop-i.i (c.loop-i.i + 1) c.loop-i.found refl) ∙ c.loop-i.invariant

pub returns : goal.returns
returns c =
    let ts = (state_of c.args.book.now.entries).transactions in
    let whole = ap length c.transactions-notes.ensures.transactions ∙ length-map ts brief in
    let past : length c.transactions-notes.result.now ≤ c.loop-i.i = first_of (omega arith, search rules) in
    sym (ap (fold (set_in c.args.opening (key_of c.args.is_percent) (reads_of c.args.is_percent)) c.loop-i.found) (set-end ts c.loop-i.i (omega (arith, whole, past))))
    ∙ c.loop-i.invariant
