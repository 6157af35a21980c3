use Rattle.std.proofs.Common.{◌≡◌, Some, sym, ap, ◌∙◌, true≢false}
use Rattle.std.specs.Cmp.Lexicographic.{pointwise, nat_list_eq_equiv}
use Rattle.std.specs.Prelude.{nat_eq}
use Rattle.hv_paths.specs.Names.{bucket_name}
use Rattle.hv_paths.proofs.NameLemmas.{digits_of, parse_padded}
use Rattle.hv_paths.proofs.names.read_bucket.Goals.{then-eq, else-eq}
use Rattle.hv_paths.proofs.names.read_bucket.Goals as goal

pub returns-in_default-parse-clause-every : goal.returns-in_default-parse-clause-every
returns-in_default-parse-clause-every c bucket small named =
    let cut = c.in-Some.ensures.cases
    in let digits = digits_of bucket _ c.args.name.now c.in-Some.digits.now named cut.1.0 cut.2
    in let parsed = parse_padded 5 bucket c.in-Some.digits.now c.parse.result small digits c.parse.ensures.value.0
    in let failed = c.in_default-parse.is
    in absurd (cc)

pub returns-clause-every : goal.returns-clause-every
returns-clause-every c bucket small named =
    let cut = c.in-Some.ensures.cases
    in let digits = digits_of bucket _ c.args.name.now c.in-Some.digits.now named cut.1.0 cut.2
    in let parsed = parse_padded 5 bucket c.in-Some.digits.now c.parse.result small digits c.parse.ensures.value.0
    in let read = c.in-Ok.is
    in let same : c.in-Ok.bucket ≡ bucket = cc
    in let text : c.as_str.result.now ≡ c.args.name.now =
    c.as_str.ensures.value ∙ c.in_ok-spelled.ensures ∙ ap bucket_name same ∙ named
    in elim c.if-eq.branch [
      | then-eq w ↦ w.result-is ∙ ap Some same
      | else-eq w ↦ absurd (true≢false (
          sym (nat_list_eq_equiv.refl c.args.name.now)
          ∙ ap (λ shown. pointwise nat_eq shown c.args.name.now) (sym text)
          ∙ sym c.eq.ensures ∙ w.if-eq.false))
    ]
