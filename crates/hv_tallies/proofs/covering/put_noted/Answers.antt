use Rattle.std.proofs.Common.{ap, ◌∙◌, arith}
use Rattle.hv_jobs.specs.hv_history.specs.State.{state_of}
use Rattle.hv_earlier.specs.hv_meta.specs.hv_book.specs.declared.jobs.JobNote.{JobNote}
use Rattle.hv_earlier.specs.hv_meta.specs.hv_book.specs.Past.{total}
use Rattle.hv_earlier.specs.hv_meta.specs.hv_book.proofs.IdLaws.{all-numbered}
use Rattle.hv_tallies.specs.Jobs.{asked_at}
use Rattle.hv_tallies.proofs.AskedLemmas.{IsAskedThere, all-asked}
use Rattle.hv_tallies.proofs.CoveredLemmas.{then-ok, no-partition, partition-is, kept-covered}
use Rattle.hv_tallies.proofs.covering.put_noted.Goals as goal

pub returns-in-Some : goal.returns-in-Some
returns-in-Some c =
    then-ok c.put_kept.result c.put_kept.ensures
    (λ kept number j at same weight.
    let entries = c.args.book.now.entries in
    let asked = all-numbered (IsAskedThere entries) (state_of entries).jobs number j (all-asked entries) at in
    let partition = partition-is c.in-Some.partition.now j.partition (c.in-Some.ensures ∙ ap (λ (n : JobNote). asked_at entries n.asked) same ∙ asked.there) in
    let names = ap (total weight) (kept-covered entries j c.args.note.now c.in-Some.partition.now same partition) in
    let put = kept weight in
    omega (arith, put, names))

pub returns-in-None : goal.returns-in-None
returns-in-None c = λ number j at same weight.
    let entries = c.args.book.now.entries in
    let asked = all-numbered (IsAskedThere entries) (state_of entries).jobs number j (all-asked entries) at in
    no-partition j.partition (c.in-None.ensures ∙ ap (λ (n : JobNote). asked_at entries n.asked) same ∙ asked.there)
