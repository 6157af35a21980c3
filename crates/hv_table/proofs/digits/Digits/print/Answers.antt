use Rattle.std.proofs.Common.{◌≡◌, List, ℕ, sym, subst, rules}
use Rattle.std.specs.Str.Parse.{AllDigits}
use Rattle.hv_table.specs.Decimal.{number_of, fixed_digits}
use Rattle.hv_table.proofs.DecimalLemmas.{AllDigits-fixed_digits, number_of-fixed_digits}
use Rattle.hv_table.proofs.digits.Digits.print.Goals as goal

pub returns-clause-reads_back : goal.returns-clause-reads_back
unfolding fixed_digits
returns-clause-reads_back g c =
    let printed : c.loop-place.digits ≡ fixed_digits g.row.W c.args.value = search rules in
    subst (λ (digits : List ℕ). AllDigits 10 digits × (number_of digits ≡ c.args.value)) (sym printed)
    (AllDigits-fixed_digits g.row.W c.args.value, number_of-fixed_digits g.row.W c.args.value c.requires.fits)
