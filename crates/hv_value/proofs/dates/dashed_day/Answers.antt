use Rattle.std.proofs.Common.{◌≡◌, ◌∙◌, ◌+◌, ◌-◌, ◌^◌, true, min, ap, rules, take, drop, length}
use Rattle.std.proofs.lemmas.List.{take_rest}
use Rattle.hv_value.specs.Dates.{is_dashed}
use Rattle.hv_value.specs.Digits.{numeral_value, digit_count}
use Rattle.hv_value.proofs.DateReading.{dashed_day-is}
use Rattle.hv_value.proofs.dates.dashed_day.Goals as goal

pub returns : goal.returns
returns c =
    let bytes = c.args.bytes.now in
    let behind = take_rest bytes 5 in
    let digits = c.digit_count-digits.ensures.value ∙ ap digit_count behind in
    let dashed : is_dashed bytes ≡ true = search rules in
    let month : c.capped_value-2.result ≡ min (numeral_value (take (digit_count (drop 5 bytes)) (drop 5 bytes))) (2 ^ 64 - 1) =
    c.capped_value-2.ensures ∙ (λ i. min (numeral_value (take (digits i) (behind i))) (2 ^ 64 - 1)) in
    let day : c.capped_value-3.result ≡ min (numeral_value (drop (digit_count (drop 5 bytes) + 1) (drop 5 bytes))) (2 ^ 64 - 1) =
    c.capped_value-3.ensures
    ∙ (λ i. min (numeral_value (take (length (behind i) - (digits i + 1)) (drop (digits i + 1) (behind i)))) (2 ^ 64 - 1))
    ∙ ap (λ xs. min (numeral_value xs) (2 ^ 64 - 1)) (take_rest (drop 5 bytes) (digit_count (drop 5 bytes) + 1)) in
    c.numbered.ensures ∙ dashed_day-is bytes _ _ _ dashed c.capped_value.ensures month day
