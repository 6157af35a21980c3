use Rattle.std.proofs.Common.{◌≡◌, subst, refl}
use Rattle.hv_parse_expr.specs.Reads.{Reads}
use Rattle.hv_parse_expr.specs.declared.fault.ReadFault.TheVariants as refusal
use Rattle.hv_parse_expr.specs.Handed.{IsRefused}
use Rattle.hv_parse_expr.proofs.Pushes.{passed_up, put_behind}
use Rattle.hv_parse_expr.proofs.results.pushed.Goals as goal

pub returns-in_err-item-clause-refused : goal.returns-in_err-item-clause-refused
returns-in_err-item-clause-refused g c =
    passed_up c.from_residual.result c.in_err-item.field-0.0 (λ fault. IsRefused c.args.read fault) c.from_residual.ensures.1
    (λ outcome rest reads. subst (λ r. Reads outcome r rest) c.in_err-item.was reads)

pub returns-in_err-push-clause-refused : goal.returns-in_err-push-clause-refused
returns-in_err-push-clause-refused g c =
    passed_up c.from_residual-in_err-push.result refusal.NoMemory (λ fault. IsRefused c.args.read fault) c.from_residual-in_err-push.ensures.1
    (λ outcome rest reads ok. absurd (ok refl))

pub returns-clause-more : goal.returns-clause-more
returns-clause-more g c = λ outcome rest go_on reads.
    put_behind outcome rest _ _ _ go_on (subst (λ r. Reads outcome r rest) c.in_ok-item.was reads) c.in_ok-push.ensures.items
