use Rattle.std.proofs.Common.{sym, ap, ◌∙◌}
use Rattle.hv_history.specs.State.{state_of, numbered}
use Rattle.hv_history.specs.Thresholds.{set_by}
use Rattle.hv_tallies.specs.hv_earlier.specs.hv_meta.specs.hv_book.specs.Briefs.{brief}
use Rattle.hv_tallies.specs.hv_earlier.specs.hv_meta.specs.hv_book.proofs.TextLaws.{numbered-map}
use Rattle.hv_queue.specs.Settings.{key_of, reads_of, set_with, end_place}
use Rattle.hv_queue.proofs.SetLemmas.{uncommitted, committed-set}
use Rattle.hv_queue.proofs.settings.set_next.Goals as goal

pub returns-in-Some : goal.returns-in-Some
returns-in-Some c =
    let ts = (state_of c.args.book.now.entries).transactions in
    let key = key_of c.args.is_percent in
    let reads = reads_of c.args.is_percent in
    let value = c.set_by-value.ensures ∙ ap (set_by key reads) c.opening_tree.ensures.tree in
    let place =
    c.end_place.ensures
    ∙ ap end_place (ap (λ ns. numbered ns c.args.number) c.transactions.ensures.transactions ∙ numbered-map brief ts c.args.number)
    in
    c.set_with.ensures ∙ (λ i. set_with c.args.opening (value i) c.args.found (place i))
    ∙ committed-set c.args.opening key reads c.args.found (numbered ts c.args.number) _ (sym c.in-Some.ensures.wrote)

pub returns-in-None : goal.returns-in-None
returns-in-None c =
    uncommitted c.args.opening (key_of c.args.is_percent) (reads_of c.args.is_percent) c.args.found (numbered (state_of c.args.book.now.entries).transactions c.args.number)
    (sym c.in-None.ensures.wrote)
