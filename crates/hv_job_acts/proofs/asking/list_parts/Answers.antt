use Rattle.std.proofs.Common.{◌≤◌, length, ap, ◌∙◌, arith, rules}
use Rattle.std.proofs.lemmas.List.{length-map}
use Rattle.hv_history.specs.State.{state_of}
use Rattle.hv_book.specs.Briefs.{brief_table}
use Rattle.hv_job_acts.specs.Work.{parts_at, parts_in}
use Rattle.hv_job_acts.proofs.Each.{each-init, each-next, each-end, no-parts}
use Rattle.hv_job_acts.proofs.asking.list_parts.Goals as goal

pub loop-i-init : goal.loop-i-init
loop-i-init c = each-init (parts_at c.args.book.now.entries) (state_of c.args.book.now.entries).tables c.new-parts.result.items c.new-parts.ensures.items

pub loop-i-preserved : goal.loop-i-preserved
loop-i-preserved c =
    let book = c.args.book.now.entries in
    each-next (parts_at book) (state_of book).tables c.loop-i.i c.loop-i.parts.items c.put_parts.new.parts.items (parts_in book)
    (no-parts book c.loop-i.i) c.in_ok-put_parts.ensures c.loop-i.invariant

pub returns : goal.returns
returns c =
    let book = c.args.book.now.entries in
    let whole = ap length c.tables-i-end.ensures.tables ∙ length-map (state_of book).tables brief_table in
    let past : length c.tables-i-end.result.now ≤ c.loop-i.i = search rules in
    each-end (parts_at book) (state_of book).tables c.loop-i.i c.loop-i.parts.items (parts_in book) (omega (arith, whole, past)) c.loop-i.invariant
