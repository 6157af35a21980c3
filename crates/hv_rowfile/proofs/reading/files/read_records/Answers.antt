use Rattle.std.proofs.Common.{None, Some, sym, ap, ◌∙◌, subst, arith}
use Rattle.std.proofs.lemmas.Result.{err_from_is_err_and}
use Rattle.std.proofs.lemmas.Grind.{common_steps}
use Rattle.hv_rowfile.specs.Layout.{IsNext}
use Rattle.hv_rowfile.proofs.Books.{leads_more, last_more, leads_len, next_fault}
use Rattle.hv_rowfile.proofs.reading.files.read_records.Goals as goal

pub returns-in_err-rec-clause-bad : goal.returns-in_err-rec-clause-bad
returns-in_err-rec-clause-bad c =
    let p = err_from_is_err_and c.from_residual-in_err-rec.result c.from_residual-in_err-rec.ensures.1 in
    rw (p.1, p.2) (next_fault c.args.deletes c.args.bucket c.args.count c.loop.counter c.args.body.now c.loop.recs.items c.loop.rest.now c.loop.before c.in_err-rec.field-0.0 c.loop.invariant.leads c.loop.invariant.count c.loop-test.true c.loop.invariant.last c.in_err-rec.ensures.bad)

pub loop-preserved : goal.loop-preserved
loop-preserved c =
    let r = c.in_ok-rec.rec in
    let found = c.in_ok-rec.ensures.found in
    let next = subst (λ q. IsNext c.args.deletes c.args.bucket q r) c.loop.invariant.last found.0 in
    let leads = leads_more c.args.deletes c.args.bucket None c.loop.recs.items c.args.body.now c.loop.rest.now r c.in_ok-rec.after.now c.loop.invariant.leads next found.1 in
    rw c.in_ok-push.ensures.items (record {
      leads = leads;
      count = grind (arith, common_steps);
      last = ap (λ id. Some id) c.id.ensures ∙ sym (last_more None c.loop.recs.items r);
      len = leads_len c.args.deletes c.args.bucket None _ c.args.body.now c.in_ok-rec.after.now leads;
    })
