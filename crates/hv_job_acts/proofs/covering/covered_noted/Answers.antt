use Rattle.std.proofs.Common.{None}
use Rattle.hv_tallies.proofs.CoveredLemmas.{no-partition}
use Rattle.hv_job_calls.proofs.OnOk.{ok-weaker}
use Rattle.hv_job_acts.proofs.Noted.{table-of, partition-of, partition-there}
use Rattle.hv_job_acts.proofs.covering.covered_noted.Goals as goal

pub returns-in-Some : goal.returns-in-Some
returns-in-Some c =
    ok-weaker c.covered_in.result _ _
    (λ dirs covered j at same plain.
    covered j at (table-of c.args.note.now j same)
    (partition-of c.args.book.now.entries c.args.job.0 c.args.note.now j c.in-Some.partition.now at same c.in-Some.ensures) plain)
    c.covered_in.ensures

pub returns-in-None : goal.returns-in-None
returns-in-None c = λ j at same plain.
    no-partition j.partition (partition-there c.args.book.now.entries c.args.job.0 c.args.note.now j None at same c.in-None.ensures)
