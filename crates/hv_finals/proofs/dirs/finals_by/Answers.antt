use Rattle.std.proofs.Common.{◌≡◌, Some, None, ap, ◌∙◌}
use Rattle.hv_history.specs.State.{state_of}
use Rattle.hv_history.specs.Jobs.{events_in}
use Rattle.hv_finals.specs.Finals.{finals_in}
use Rattle.hv_finals.proofs.CallLemmas.{if-ok}
use Rattle.hv_finals.proofs.dirs.finals_by.Goals as goal

pub returns-in-Some : goal.returns-in-Some
returns-in-Some c =
    let merge = c.args.merge in
    let state = state_of c.args.book.now.entries in
    record {
      dirs =
          if-ok c.finals_in.result _ _ c.finals_in.ensures.dirs
          (λ dirs are partition at.
          let both : Some c.in-Some.partition.now ≡ Some partition = c.in-Some.ensures ∙ at in
          let same : c.in-Some.partition.now ≡ partition = cc in
          are ∙ ap (λ p. finals_in merge.table p (events_in state merge.table p) merge.kind merge.low merge.high) same);
    }

pub returns-in-None : goal.returns-in-None
returns-in-None c = record {
  dirs = λ partition at.
      let both : None ≡ Some partition = c.in-None.ensures ∙ at in
      cc;
}
