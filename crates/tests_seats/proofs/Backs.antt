-- Two seats that come back from their threads.
use Rattle.std.proofs.Common.{◌≡◌, ◌-◌, [], ap, ◌∙◌, arith}
use Rattle.atomic_table.specs.Seated.{TableId}
use Rattle.hv_turn.specs.Tokens.{Token, Joins}
use Rattle.hv_seated.specs.Seats.{Fixed}
use Rattle.tests_seats.specs.Beside.{IsGivenBack, IsWholeSeat}

-- joined, they are the whole again
pub whole_again : {S I Q : Type 0} (later : S → S → Type 0) (turn : TableId) (old rest one rest' one' new : Token S I Q)
    → old.turn ≡ turn → old.parts ≡ 64 → rest ≡ record old { parts = old.parts - 1 } → one ≡ record old { own = []; parts = 1 }
    → IsGivenBack one one' → IsGivenBack rest rest' → Joins later rest' one' new → IsWholeSeat turn new
whole_again {S = S} {I = I} {Q = Q} later turn old rest one rest' one' new of_it all gives given mine others joins =
    let rest_parts = ap (λ (t : Token S I Q). t.parts) gives in
    let one_parts = ap (λ (t : Token S I Q). t.parts) given in
    let kept_rest = ap (λ (f : Fixed). f.parts) others.same in
    let kept_one = ap (λ (f : Fixed). f.parts) mine.same in
    let parts = joins.parts in
    record {
      of_it = joins.kept.0 ∙ ap (λ (f : Fixed). f.turn) others.same ∙ ap (λ (t : Token S I Q). t.turn) gives ∙ of_it;
      free = joins.free.0;
      all = omega (arith, rest_parts, one_parts, kept_rest, kept_one, parts, all);
    }
