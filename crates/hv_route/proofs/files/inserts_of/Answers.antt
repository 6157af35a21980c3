use Rattle.std.proofs.Common.{◌≡◌, ◌+◌, ◌++◌, ◌∷◌, [], ◌∙◌, ap, sym, length, List, arith}
use Rattle.hv_route.specs.Routes.{row_number, inserts_from}
use Rattle.hv_rowfile.specs.declared.record.Rec.{Rec}
use Rattle.hv_rowfile.specs.declared.record.Rec.TheVariants as rec
use Rattle.hv_route.proofs.PlacedLemmas.{inserts_more, inserts_count}
use Rattle.hv_route.proofs.files.inserts_of.Goals as goal

pub loop-row-preserved : goal.loop-row-preserved
loop-row-preserved c =
    let before = inserts_from c.args.shape.now c.args.write.0 c.args.statement c.args.bucket 0 c.loop-row.yielded in
    let count : length c.loop-row.recs.items ≡ length c.loop-row.yielded =
    ap length c.loop-row.invariant ∙ inserts_count c.args.shape.now c.args.write.0 c.args.statement c.args.bucket 0 c.loop-row.yielded in
    let number : c.len.result ≡ 0 + length c.loop-row.yielded = omega (arith, c.len.ensures, c.loop-row.recs.ok, count) in
    c.in_ok-push.ensures.items
    ∙ ap (λ (z : List Rec). z ++ rec.Insert (row_number c.args.write.0 c.args.statement c.args.bucket c.len.result) c.stored.result ∷ []) c.loop-row.invariant
    ∙ ap (λ n. before ++ rec.Insert (row_number c.args.write.0 c.args.statement c.args.bucket n) c.stored.result ∷ []) number
    ∙ ap (λ row. before ++ rec.Insert (row_number c.args.write.0 c.args.statement c.args.bucket (0 + length c.loop-row.yielded)) row ∷ []) c.stored.ensures
    ∙ sym (inserts_more c.args.shape.now c.args.write.0 c.args.statement c.args.bucket 0 c.loop-row.yielded c.in-Some.row)
