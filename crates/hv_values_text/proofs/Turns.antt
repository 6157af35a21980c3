-- Loops that read parts with commas between them, beside the ways over such parts.
use Rattle.std.proofs.Common.{◌≡◌, ◌≢◌, ℕ, suc, ◌+◌, ◌-◌, ◌<◌, ◌≤◌, ◌==◌, Bool, true, false, cond, Option, Some, None, Result, Ok, Err, IsErrAnd, length, arith, sym, ap, ◌∙◌, subst}
use Rattle.hv_ast.specs.Tokens.{Text}
use Rattle.hv_values_text.specs.declared.fault.Unread.{Unread}
use Rattle.hv_values_text.specs.declared.fault.Unread.TheVariants as unread
use Rattle.hv_values_text.specs.Fronts.{next_of, after_next}
use Rattle.hv_values_text.specs.Passing.{Passes}
use Rattle.hv_values_text.specs.Ways.{Way, go_on, more, separated}

-- an error is passed up
pub handed : {A : Type 0} (way : Option Text) (result : Result A Unread) (fault : Unread) (rest : Text) → IsErrAnd result (λ y. y ≡ fault)
    → (fault ≢ unread.NoMemory → way ≡ None) → Passes way result rest
handed way (Ok a) fault rest is refused = absurd is
handed way (Err e) fault rest is refused = subst (λ (y : Unread). y ≢ unread.NoMemory → way ≡ None) (sym is) refused

module _ (part : Way) (whole : Option Text) where
  -- a comma was taken: the whole is what the next part leaves, and what comes after it
  pub goes_on : (last at : ℕ) (text passed : Text) (seen : Bool) → at < last → whole ≡ more part (last - at) text
      → seen ≡ (next_of text == 44) → seen ≡ true → passed ≡ after_next text → whole ≡ go_on (part passed) (more part (last - (at + 1)))
  unfolding more
  goes_on last at text passed seen below so_far found is same =
      let left : last - at ≡ suc (last - (at + 1)) = omega arith in
      so_far ∙ ap (λ (n : ℕ). more part n text) left
      ∙ ap (λ (b : Bool). cond b (go_on (part (after_next text)) (more part (last - (at + 1)))) (Some text)) (sym found ∙ is)
      ∙ ap (λ (rest : Text). go_on (part rest) (more part (last - (at + 1)))) (sym same)

  -- and the next part was read
  pub advances : (last at : ℕ) (text passed rest : Text) (seen : Bool) → at < last → whole ≡ more part (last - at) text
      → seen ≡ (next_of text == 44) → seen ≡ true → passed ≡ after_next text → part passed ≡ Some rest → whole ≡ more part (last - (at + 1)) rest
  advances last at text passed rest seen below so_far found is same read =
      goes_on last at text passed seen below so_far found is same ∙ ap (λ (o : Option Text). go_on o (more part (last - (at + 1)))) read

  -- no comma came: the parts are all
  pub stops : (last at : ℕ) (text : Text) (seen : Bool) → at < last → whole ≡ more part (last - at) text → seen ≡ (next_of text == 44) → seen ≡ false → whole ≡ Some text
  unfolding more
  stops last at text seen below so_far found is =
      let left : last - at ≡ suc (last - (at + 1)) = omega arith in
      so_far ∙ ap (λ (n : ℕ). more part n text) left
      ∙ ap (λ (b : Bool). cond b (go_on (part (after_next text)) (more part (last - (at + 1)))) (Some text)) (sym found ∙ is)

  -- each byte had its turn
  pub runs_out : (last at : ℕ) (text : Text) → last ≤ at → whole ≡ more part (last - at) text → whole ≡ Some text
  unfolding more
  runs_out last at text done so_far =
      let left : last - at ≡ 0 = omega arith in so_far ∙ ap (λ (n : ℕ). more part n text) left

-- the first part was read, and as many turns may come as bytes are left
pub begins : (part : Way) (text rest : Text) (turns : ℕ) → part text ≡ Some rest → turns ≡ length rest → separated part text ≡ more part (turns - 0) rest
unfolding separated
begins part text rest turns read is =
    let left : length rest ≡ turns - 0 = omega arith in
    ap (λ (o : Option Text). go_on o (λ (behind : Text). more part (length behind) behind)) read ∙ ap (λ (n : ℕ). more part n rest) left
