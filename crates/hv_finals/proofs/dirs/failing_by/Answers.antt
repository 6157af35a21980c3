use Rattle.std.proofs.Common.{◌≡◌, Some, None, ap, ◌∙◌}
use Rattle.hv_finals.specs.Finals.{range_dirs}
use Rattle.hv_finals.proofs.CallLemmas.{if-ok}
use Rattle.hv_finals.proofs.dirs.failing_by.Goals as goal

pub returns-in-Some : goal.returns-in-Some
returns-in-Some c =
    let merge = c.args.merge in
    record {
      dirs =
          if-ok c.failing_in.result _ _ c.failing_in.ensures.dirs
          (λ dirs are partition at.
          let both : Some c.in-Some.partition.now ≡ Some partition = c.in-Some.ensures ∙ at in
          let same : c.in-Some.partition.now ≡ partition = cc in
          are ∙ ap (λ p. range_dirs merge.table p c.args.number merge.kind merge.low merge.high) same);
    }

pub returns-in-None : goal.returns-in-None
returns-in-None c = record {
  dirs = λ partition at.
      let both : None ≡ Some partition = c.in-None.ensures ∙ at in
      cc;
}
