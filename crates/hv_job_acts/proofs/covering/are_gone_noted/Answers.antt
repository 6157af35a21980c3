use Rattle.std.proofs.Common.{None, Some, true≢false, sym}
use Rattle.hv_acts.specs.hv_telling.specs.hv_house.specs.House.{entries_of}
use Rattle.hv_tallies.proofs.CoveredLemmas.{no-partition}
use Rattle.hv_job_calls.proofs.OnOk.{ok-weaker}
use Rattle.hv_job_acts.proofs.Noted.{table-of, partition-of, partition-there, asked-now}
use Rattle.hv_job_acts.proofs.covering.are_gone_noted.Goals as goal

pub returns-in-Some : goal.returns-in-Some
returns-in-Some g c =
    let house = c.args.house.now in
    let asked = asked-now house c.args.job.0 c.book.result.now.entries c.book.ensures.entries c.args.note.now.asked (Some c.in-Some.partition.now) c.in-Some.ensures in
    record {
      gone =
          ok-weaker c.are_gone_in.result _ _
          (λ gone says so j at same.
          says so j at (table-of c.args.note.now j same)
          (partition-of (entries_of house) c.args.job.0 c.args.note.now j c.in-Some.partition.now at same asked))
          c.are_gone_in.ensures.gone;
      left =
          ok-weaker c.are_gone_in.result _ _
          (λ gone says so j at same plain.
          says so j at (table-of c.args.note.now j same)
          (partition-of (entries_of house) c.args.job.0 c.args.note.now j c.in-Some.partition.now at same asked) plain)
          c.are_gone_in.ensures.left;
    }

pub returns-in-None : goal.returns-in-None
returns-in-None g c =
    let house = c.args.house.now in
    let asked = asked-now house c.args.job.0 c.book.result.now.entries c.book.ensures.entries c.args.note.now.asked None c.in-None.ensures in
    record {
      gone = λ so. absurd (true≢false (sym so));
      left = λ so j at same plain.
          no-partition j.partition (partition-there (entries_of house) c.args.job.0 c.args.note.now j None at same asked);
    }
