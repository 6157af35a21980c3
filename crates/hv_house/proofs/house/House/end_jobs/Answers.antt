use Rattle.std.proofs.Common.{◌≡◌, ◌<◌, ◌≤◌, length, arith, rules}
use Rattle.std.proofs.lemmas.Result.{err_from_is_err_and}
use Rattle.hv_history.specs.State.{state_of}
use Rattle.hv_house.specs.House.{entries_of}
use Rattle.hv_house.proofs.EndLoops.{ending-init, ending-room, ending-next, ending-stops, ending-done}
use Rattle.hv_house.proofs.house.House.end_jobs.Goals as goal

pub loop-i-init : goal.loop-i-init
loop-i-init g c =
    ending-init g.D.Shelf.told g.D.Shelf.faults g.D.Shelf.hard c.args.whole.now c.args.self.now c.requires.kept c.requires.fit

pub end_job-requires-clause-kept : goal.end_job-requires-clause-kept
end_job-requires-clause-kept g c = c.loop-i.invariant.kept

pub end_job-requires-clause-fit : goal.end_job-requires-clause-fit
end_job-requires-clause-fit g c = c.loop-i.invariant.fit

pub end_job-requires-clause-room : goal.end_job-requires-clause-room
end_job-requires-clause-room g c =
    let low : c.loop-i.i < length (state_of (entries_of c.args.self.now)).jobs = omega (arith, c.loop-i-test.true, c.job_count-i-end.ensures.count) in
    ending-room g.D.Shelf.told g.D.Shelf.faults g.D.Shelf.hard c.args.whole.now c.args.self.now c.loop-i.self c.loop-i.i low c.loop-i.invariant c.requires.room

pub loop-i-preserved : goal.loop-i-preserved
loop-i-preserved g c =
    let low : c.loop-i.i < length (state_of (entries_of c.args.self.now)).jobs = omega (arith, c.loop-i-test.true, c.job_count-i-end.ensures.count) in
    ending-next g.D.Shelf.told g.D.Shelf.faults g.D.Shelf.hard c.args.whole.now c.args.self.now c.loop-i.self c.loop-i.i low c.loop-i.invariant
    c.end_job.new.self c.in_ok-end_job.ensures.step

pub returns-in_err-end_job : goal.returns-in_err-end_job
returns-in_err-end_job g c = record {
  step =
      let low : c.loop-i.i < length (state_of (entries_of c.args.self.now)).jobs = omega (arith, c.loop-i-test.true, c.job_count-i-end.ensures.count) in
      let left = err_from_is_err_and c.from_residual.result c.from_residual.ensures.1 in
      let same : left.0 ≡ c.in_err-end_job.field-0.0 = cc (left.2) in
      ending-stops g.D.Shelf.told g.D.Shelf.faults g.D.Shelf.hard c.args.whole.now c.args.self.now c.loop-i.self c.loop-i.i low c.loop-i.invariant
      c.end_job.new.self c.in_err-end_job.field-0.0 c.in_err-end_job.ensures.step left.0 c.from_residual.result left.1 same;
}

pub returns : goal.returns
returns g c = record {
  step =
      let past : c.job_count-i-end.result ≤ c.loop-i.i = search rules in
      ending-done g.D.Shelf.told g.D.Shelf.faults g.D.Shelf.hard c.args.whole.now c.args.self.now c.loop-i.self c.loop-i.i
      (omega (arith, past, c.job_count-i-end.ensures.count)) c.loop-i.invariant;
}
