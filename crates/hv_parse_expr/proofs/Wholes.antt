-- What is spelled is read, for each way in which rules are put together, where what stands behind
-- can't continue it.
use Rattle.std.proofs.Common.{◌≡◌, ◌⊎◌, inl, inr, Bool, true, false, cond, Option, Some, None, List, sym, ap, subst, ◌∙◌}
use Rattle.hv_ast.specs.declared.token.Token.{Token}
use Rattle.hv_grammar.specs.declared.kind.Kind.{Kind}
use Rattle.hv_grammar.specs.Rules as rule
use Rattle.hv_grammar.specs.Rules.{Rule, word, many, flag, one_of}
use Rattle.hv_grammar.specs.Readers.{Outcome, Reader, and_then, kind_at, next, sees, after, eat, expect, by_option, more, behind, more_operations}
use Rattle.hv_grammar.specs.Readers as reader
use Rattle.hv_parse_expr.proofs.Begins.{Avoids, Follows, word_kind, word_next, is_seen, is_not_seen}

pub record Whole {A : Type 0} (S : List Token → Type 0) (p : Rule A) (r : Reader A) : Type 0 where
  pub read : (a : A) (from to : List Token) → p a from to → S to → r from ≡ Some (a, to)

pub whole_give : {A : Type 0} {S : List Token → Type 0} (a : A) → Whole S (rule.give a) (reader.give a)
whole_give {A = A} a = record {
  read = λ b from to s stop.
      ap (λ (x : A). reader.give x from) (sym s.0) ∙ ap (λ (t : List Token). reader.give b t) s.1;
}

pub whole_bind : {A B : Type 0} {S T : List Token → Type 0} {p : Rule A} {r : Reader A} {f : A → Rule B} {g : A → Reader B}
    → Whole T p r → ((a : A) → Whole S (f a) (g a)) → Follows T S f
    → Whole S (λ b from to. (a : A) × (between : List Token) × p a from between × f a b between to) (λ tokens. and_then (r tokens) g)
whole_bind {g = g} P Q F = record {
  read = λ b from to s stop.
      ap (λ o. and_then o g) (P.read s.0 from s.1 s.2 (F.follows s.0 b s.1 to s.3 stop)) ∙ (Q s.0).read b s.1 to s.3 stop;
}

-- where the first of two rules is read whatever stands behind
pub whole_then : {A B : Type 0} {S : List Token → Type 0} {p : Rule A} {r : Reader A} {f : A → Rule B} {g : A → Reader B}
    → Whole (λ _. Unit {0}) p r → ((a : A) → Whole S (f a) (g a))
    → Whole S (λ b from to. (a : A) × (between : List Token) × p a from between × f a b between to) (λ tokens. and_then (r tokens) g)
whole_then {g = g} P Q = record {
  read = λ b from to s stop.
      ap (λ o. and_then o g) (P.read s.0 from s.1 s.2 tt) ∙ (Q s.0).read b s.1 to s.3 stop;
}

pub whole_word : (kind : Kind) → Whole (λ _. Unit {0}) (word kind) (expect kind)
unfolding expect
whole_word kind = record {
  read = λ u from to s stop.
      ap (λ b. cond {A = Outcome (Unit {0})} b (Some (tt, next from)) None) (is_seen kind from (word_kind s))
      ∙ ap (λ t. reader.give u t) (word_next s);
}

-- the first word is passed without a look
pub whole_pass : {A : Type 0} {S : List Token → Type 0} {p : Rule A} {r : Reader A} (kind : Kind) → Whole S p r
    → Whole S (λ b from to. (u : Unit {0}) × (between : List Token) × word kind u from between × p b between to) (λ tokens. r (next tokens))
whole_pass {r = r} kind P = record { read = λ b from to s stop. ap r (word_next s.2) ∙ P.read b s.1 to s.3 stop }

pub whole_eat : {A : Type 0} {S : List Token → Type 0} {p q : Rule A} {r s : Reader A} (kind : Kind) → Whole S p r → Whole S q s → Avoids S kind q
    → Whole S (λ b from to. ((u : Unit {0}) × (between : List Token) × word kind u from between × p b between to) ⊎ q b from to)
    (λ tokens. cond (sees kind tokens) r s (after kind tokens))
unfolding after
whole_eat {r = r} {s = s} kind P Q N = record {
  read = λ b from to it stop.
      elim it as (λ _. cond (sees kind from) r s (cond (sees kind from) (next from) from) ≡ Some (b, to)) [
        | inl w ↦ ap (λ b. cond b r s (cond b (next from) from)) (is_seen kind from (word_kind w.2)) ∙ (whole_pass kind P).read b from to w stop
        | inr w ↦ ap (λ b. cond b r s (cond b (next from) from)) (is_not_seen kind from (N.avoids b from to w stop)) ∙ Q.read b from to w stop
      ];
}

-- [word], before what doesn't begin with it
pub whole_flag : {B : Type 0} {S : List Token → Type 0} {f : Bool → Rule B} {g : Bool → Reader B} (kind : Kind) → ((b : Bool) → Whole S (f b) (g b)) → Avoids S kind (f false)
    → Whole S (λ b from to. (found : Bool) × (between : List Token) × flag kind found from between × f found b between to) (λ tokens. and_then (eat kind tokens) g)
unfolding after
whole_flag {f = f} {g = g} kind F N = record {
  read = λ b from to s stop.
      elim s.2 as (λ _. g (sees kind from) (cond (sees kind from) (next from) from) ≡ Some (b, to)) [
        | inl w ↦
            let found : s.0 ≡ true = w.3.0 in
            ap (λ b. g b (cond b (next from) from)) (is_seen kind from (word_kind w.2)) ∙ ap (g true) (word_next w.2 ∙ w.3.1)
            ∙ (F true).read b s.1 to (subst (λ z. f z b s.1 to) found s.3) stop
        | inr w ↦
            let rest : f false b from to = subst (λ z. f false b z to) (sym w.1) (subst (λ z. f z b s.1 to) w.0 s.3) in
            ap (λ b. g b (cond b (next from) from)) (is_not_seen kind from (N.avoids b from to rest stop)) ∙ (F false).read b from to rest stop
      ];
}

pub whole_held : {A : Type 0} (value : Token → Option A) → Whole (λ _. Unit {0}) (rule.held value) (reader.held value)
unfolding reader.held
whole_held value = record {
  read = λ a from to s stop.
      ap (reader.held value) s.2 ∙ ap (λ o. reader.held_by o to) s.1;
}

-- a token of one of several kinds before a rule
pub record Lacks {A X : Type 0} (S : List Token → Type 0) (value : Kind → Option X) (p : Rule A) : Type 0 where
  pub lacks : (a : A) (from to : List Token) → p a from to → S to → value (kind_at from) ≡ None

pub chosen_kind : {X : Type 0} (value : Kind → Option X) (x : X) (from to : List Token) → one_of value x from to → value (kind_at from) ≡ Some x
unfolding kind_at
chosen_kind value x from to s = ap (λ t. value (kind_at t)) s.2 ∙ s.1

pub chosen_next : {X : Type 0} (value : Kind → Option X) (x : X) (from to : List Token) → one_of value x from to → next from ≡ to
unfolding next
chosen_next value x from to s = ap next s.2

pub whole_choice : {A X : Type 0} {S : List Token → Type 0} {f : X → Rule A} {p : Rule A} {g : X → Reader A} {r : Reader A} (value : Kind → Option X)
    → ((x : X) → Whole S (f x) (g x)) → Whole S p r → Lacks S value p
    → Whole S (λ b from to. ((x : X) × (between : List Token) × one_of value x from between × f x b between to) ⊎ p b from to)
    (λ tokens. by_option (value (kind_at tokens)) r (λ x. λ rest. g x (next rest)) tokens)
whole_choice {g = g} {r = r} value F P N = record {
  read = λ b from to s stop.
      elim s as (λ _. by_option (value (kind_at from)) r (λ x. λ rest. g x (next rest)) from ≡ Some (b, to)) [
        | inl w ↦ ap (λ o. by_option o r (λ x. λ rest. g x (next rest)) from) (chosen_kind value w.0 from w.1 w.2)
            ∙ ap (g w.0) (chosen_next value w.0 from w.1 w.2) ∙ (F w.0).read b w.1 to w.3 stop
        | inr w ↦ ap (λ o. by_option o r (λ x. λ rest. g x (next rest)) from) (N.lacks b from to w stop) ∙ P.read b from to w stop
      ];
}

pub whole_one_of : {X : Type 0} (value : Kind → Option X)
    → Whole (λ _. Unit {0}) (one_of value) (λ tokens. by_option (value (kind_at tokens)) reader.refuse (λ x. λ rest. Some (x, next rest)) tokens)
whole_one_of value = record {
  read = λ x from to s stop.
      ap (λ o. by_option o reader.refuse (λ x. λ rest. Some (x, next rest)) from) (chosen_kind value x from to s)
      ∙ ap (λ t. reader.give x t) (chosen_next value x from to s);
}
