-- A seat that works.
use Rattle.std.proofs.Common.{◌≡◌, ℕ, ◌+◌, ◌-◌, ◌≤◌, true, false, Option, None, List, [], ◌++◌, length, refl, ap, sym, ◌∙◌, subst, arith, length-append}
use mathlib.Core.List.{IsPrefix}
use Rattle.hv_turn.specs.Views.{places_behind}
use Rattle.hv_turn.specs.Tokens.{Token, IsSameOrOneMore, Joins}
use Rattle.hv_turn.proofs.Many.{length-rising}
use Rattle.hv_turn.proofs.Prefixes.{prefix_self, prefix_trans}
use Rattle.hv_turn.proofs.TokenLemmas.{more_begins}
use Rattle.tests_turn.specs.Work.{IsLater}

module _ {S I Q : Type 0} where
  -- a seat that has done nothing
  pub later_itself : (token : Token S I Q) → token.has_turn ≡ false → IsLater 0 token token
  later_itself token free = record { turn = refl; root = refl; start = refl; parts = refl; free = free; own = omega arith; seen = prefix_self token.seen }

  -- one that has done two things
  pub later_then : (a b : ℕ) (old mid new : Token S I Q) → IsLater a old mid → IsLater b mid new → IsLater (a + b) old new
  later_then a b old mid new first second =
      let one = first.own in
      let two = second.own in record {
        turn = second.turn ∙ first.turn;
        root = second.root ∙ first.root;
        start = second.start ∙ first.start;
        parts = second.parts ∙ first.parts;
        free = second.free;
        own = omega (arith, one, two);
        seen = prefix_trans old.seen mid.seen new.seen first.seen second.seen;
      }

  -- one that had the turn once
  pub had_turn : (added : ℕ) (old mid new : Token S I Q) (stood history : List I) (took saw : Option S)
      → mid ≡ record old { stood = stood; took = took; has_turn = true }
      → new ≡ record mid { seen = history; saw = saw; stood = []; took = None; own = mid.own ++ places_behind mid.stood history; has_turn = false }
      → IsPrefix old.seen stood → IsSameOrOneMore stood history → length history ≡ length stood + added → IsLater added old new
  had_turn added old mid new stood history took saw enters leaves begins more count =
      let own = ap (λ t. length t.own) leaves in
      let both = length-append mid.own (places_behind mid.stood history) in
      let behind = length-rising (length mid.stood) (length history - length mid.stood) in
      let before = ap (λ t. length t.own) enters in
      let stands = ap (λ t. length t.stood) enters in record {
        turn = ap (λ t. t.turn) leaves ∙ ap (λ t. t.turn) enters;
        root = ap (λ t. t.root) leaves ∙ ap (λ t. t.root) enters;
        start = ap (λ t. t.start) leaves ∙ ap (λ t. t.start) enters;
        parts = ap (λ t. t.parts) leaves ∙ ap (λ t. t.parts) enters;
        free = ap (λ t. t.has_turn) leaves;
        own = omega (arith, own, both, behind, before, stands, count);
        seen = subst (IsPrefix old.seen) (sym (ap (λ t. t.seen) leaves)) (prefix_trans old.seen stood history begins (more_begins stood history more));
      }

  -- one of which a part worked by itself
  pub worked_apart : (later : S → S → Type 0) (a b : ℕ) (old rest one rest' one' new : Token S I Q) → 1 ≤ rest.parts
      → rest ≡ record old { parts = old.parts - 1 } → one ≡ record old { own = []; parts = 1 } → IsLater a one one' → IsLater b rest rest' → Joins later rest' one' new
      → IsLater (b + a) old new
  worked_apart later a b old rest one rest' one' new some gives given mine others joins =
      let own = ap (λ (l : List ℕ). length l) joins.own in
      let both = length-append rest'.own one'.own in
      let rest_own = ap (λ t. length t.own) gives in
      let one_own = ap (λ t. length t.own) given in
      let by_one = mine.own in
      let by_rest = others.own in
      let rest_parts = ap (λ t. t.parts) gives in
      let one_parts = ap (λ t. t.parts) given in
      let parts = joins.parts in
      let kept_one = mine.parts in
      let kept_rest = others.parts in record {
        turn = joins.kept.0 ∙ (others.turn ∙ ap (λ t. t.turn) gives);
        root = joins.kept.1 ∙ (others.root ∙ ap (λ t. t.root) gives);
        start = joins.kept.2 ∙ (others.start ∙ ap (λ t. t.start) gives);
        parts = omega (arith, rest_parts, one_parts, parts, kept_one, kept_rest, some);
        free = joins.free.0;
        own = omega (arith, own, both, rest_own, one_own, by_one, by_rest);
        seen = prefix_trans old.seen rest'.seen new.seen (subst (λ xs. IsPrefix xs rest'.seen) (ap (λ t. t.seen) gives) others.seen) joins.begins;
      }
