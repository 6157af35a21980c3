use Rattle.std.proofs.Common.{◌≤◌, ◌+◌, ◌^◌, ap, sym, ◌∙◌, subst, rules}
use Rattle.std.proofs.lemmas.List.{take_all}
use Rattle.hv_compact.specs.Gathering.{buckets_of}
use Rattle.hv_compact.proofs.Buckets.{buckets-next, larger-within}
use Rattle.hv_compact.proofs.writing.buckets_of.Goals as goal

pub loop-file-preserved : goal.loop-file-preserved
loop-file-preserved c =
    let file = c.file-item.result in
    let few : file.place.bucket + 1 ≤ 2 ^ 32 = search rules in (
      buckets-next c.args.files.now c.loop-file.file-index file c.loop-file.count c.larger-count.result c.loop-file-test.true c.file-item.is
          c.loop-file.invariant.0 c.larger-count.ensures,
      subst (λ n. n ≤ 2 ^ 32) (sym c.larger-count.ensures) (larger-within file.place.bucket c.loop-file.count (2 ^ 32) few c.loop-file.invariant.1),
    )

pub returns-clause-count : goal.returns-clause-count
returns-clause-count c =
    c.loop-file.invariant.0 ∙ ap buckets_of (take_all c.loop-file.file-index c.args.files.now c.loop-file-test.false)
