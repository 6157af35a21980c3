use Rattle.std.proofs.Common.{◌≡◌, ◌+◌, ◌++◌, ◌∷◌, [], ◌∙◌, ap, sym, length, List, arith}
use Rattle.hv_logic.specs.declared.effect.Found.{Found}
use Rattle.hv_route.specs.Routes.{founds_from}
use Rattle.hv_route.proofs.PlacedLemmas.{found_at, founds_more, founds_count}
use Rattle.hv_route.proofs.numbers.founds_of_run.Goals as goal

pub loop-row-preserved : goal.loop-row-preserved
loop-row-preserved c =
    let run = c.args.run in
    let before = founds_from run.partition c.args.write.0 c.args.statement run.bucket 0 c.loop-row.yielded in
    let count : length c.loop-row.founds.items ≡ length c.loop-row.yielded =
    ap length c.loop-row.invariant ∙ founds_count run.partition c.args.write.0 c.args.statement run.bucket 0 c.loop-row.yielded in
    let number : c.len.result ≡ 0 + length c.loop-row.yielded = omega (arith, c.len.ensures, c.loop-row.founds.ok, count) in
    c.in_ok-push.ensures.items
    ∙ ap (λ (z : List Found). z ++ found_at c.in_ok-partition.partition c.args.write.0 c.args.statement run.bucket c.len.result c.in-Some.row ∷ []) c.loop-row.invariant
    ∙ ap (λ n. before ++ found_at c.in_ok-partition.partition c.args.write.0 c.args.statement run.bucket n c.in-Some.row ∷ []) number
    ∙ ap (λ p. before ++ found_at p c.args.write.0 c.args.statement run.bucket (0 + length c.loop-row.yielded) c.in-Some.row ∷ []) c.in_ok-partition.ensures.same
    ∙ sym (founds_more run.partition c.args.write.0 c.args.statement run.bucket 0 c.loop-row.yielded c.in-Some.row)
