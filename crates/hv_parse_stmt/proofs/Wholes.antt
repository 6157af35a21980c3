-- What is spelled is read, for the ways in which statements put rules together beside those of queries.
use Rattle.std.proofs.Common.{◌≡◌, ◌⊎◌, inl, inr, suc, ◌≤◌, Bool, true, false, cond, Option, Some, List, [], ◌∷◌, length, sym, ap, subst, arith, ◌∙◌}
use Rattle.hv_ast.specs.declared.token.Token.{Token}
use Rattle.hv_grammar.specs.declared.kind.Kind.{Kind}
use Rattle.hv_grammar.specs.Rules as rule
use Rattle.hv_grammar.specs.Rules.{Rule, word, many}
use Rattle.hv_grammar.specs.Readers.{Reader, and_then, kind_at, next, sees}
use Rattle.hv_grammar.specs.Readers as reader
use Rattle.hv_parse_expr.proofs.Begins.{word_kind, word_next, is_seen, is_not_seen}
use Rattle.hv_parse_expr.proofs.Wholes.{Whole}
use Rattle.hv_parse_expr.proofs.Below.{Any, Without}
use Rattle.hv_parse_query.proofs.Wholes.{Leads, Takes, leads_bind, leads_give, whole_weak, whole_next, whole_map, more_while_whole}

-- the token behind is of this kind
abbrev pub At : Kind → List Token → Type 0
At kind to = kind_at to ≡ kind

-- what is read whatever stands behind
pub wherever : {A : Type 0} {S : List Token → Type 0} {p : Rule A} {r : Reader A} → Whole Any p r → Whole S p r
wherever P = whole_weak (λ t s. tt) P

pub leads_at : {A : Type 0} {T S : List Token → Type 0} {p : Rule A} {kind : Kind} → Leads (At kind) S p → ((t : List Token) → kind_at t ≡ kind → T t) → Leads T S p
leads_at P at = record { leads = λ a from to s stop. at from (P.leads a from to s stop) }

-- ---- clauses in an order

-- what is read before S, and what it then begins with
pub record Part {A : Type 0} (T S : List Token → Type 0) (p : Rule A) (r : Reader A) : Type 0 where
  pub whole : Whole S p r
  pub leads : Leads T S p

pub part_next : {A B : Type 0} {T U S : List Token → Type 0} {p : Rule A} {r : Reader A} {f : A → Rule B} {g : A → Reader B}
    → Part T U p r → ((a : A) → Part U S (f a) (g a))
    → Part T S (λ b from to. (a : A) × (between : List Token) × p a from between × f a b between to) (λ tokens. and_then (r tokens) g)
part_next P F = record {
  whole = whole_next P.whole (λ a. (F a).whole) (λ a. (F a).leads);
  leads = leads_bind P.leads (λ a. (F a).leads);
}

pub part_map : {A B : Type 0} {T S : List Token → Type 0} {p : Rule A} {r : Reader A} (h : A → B) → Part T S p r
    → Part T S (λ b from to. (a : A) × (between : List Token) × p a from between × rule.give (h a) b between to) (λ tokens. and_then (r tokens) (λ a. reader.give (h a)))
part_map h P = record { whole = whole_map h P.whole; leads = leads_bind P.leads (λ a. leads_give (λ t s. s)) }

-- ---- choices by the kind of the next token

-- a word is looked at and not taken
pub whole_look : {A : Type 0} {S : List Token → Type 0} {p q : Rule A} {r s : Reader A} (kind : Kind) → Whole S p r → Leads (At kind) S p → Whole S q s → Leads (Without kind) S q
    → Whole S (λ a from to. p a from to ⊎ q a from to) (λ tokens. cond (sees kind tokens) r s tokens)
whole_look {r = r} {s = s} kind P L Q N = record {
  read = λ a from to it stop.
      elim it as (λ _. cond (sees kind from) r s from ≡ Some (a, to)) [
        | inl w ↦ ap (λ b. cond b r s from) (is_seen kind from (L.leads a from to w stop)) ∙ P.read a from to w stop
        | inr w ↦ ap (λ b. cond b r s from) (is_not_seen kind from (N.leads a from to w stop)) ∙ Q.read a from to w stop
      ];
}

pub whole_or : {A : Type 0} {S : List Token → Type 0} {p q : Rule A} {r : Reader A} → Whole S p r → Whole S q r → Whole S (λ a from to. p a from to ⊎ q a from to) r
whole_or {r = r} P Q = record {
  read = λ a from to it stop.
      elim it as (λ _. r from ≡ Some (a, to)) [
        | inl w ↦ P.read a from to w stop
        | inr w ↦ Q.read a from to w stop
      ];
}

-- what begins with this kind
pub whole_led : {A : Type 0} {S : List Token → Type 0} {p : Rule A} {s : Reader A} (r : Kind → Reader A) (kind : Kind) → Whole S p s → Leads (At kind) S p → ((t : List Token) → r kind t ≡ s t)
    → Whole S p (λ tokens. r (kind_at tokens) tokens)
whole_led r kind P L same = record {
  read = λ a from to it stop.
      ap (λ z. r z from) (L.leads a from to it stop) ∙ same from ∙ P.read a from to it stop;
}

-- what stands behind a word of this kind
pub whole_case : {A : Type 0} {S : List Token → Type 0} {p : Rule A} {s : Reader A} (r : Kind → Reader A) (kind : Kind) → Whole S p s → ((t : List Token) → r kind t ≡ s (next t))
    → Whole S (λ b from to. (u : Unit {0}) × (between : List Token) × word kind u from between × p b between to) (λ tokens. r (kind_at tokens) tokens)
whole_case {s = s} r kind P same = record {
  read = λ b from to it stop.
      ap (λ z. r z from) (word_kind it.2) ∙ same from ∙ ap s (word_next it.2) ∙ P.read b it.1 to it.3 stop;
}

-- ---- one thing or more, told by how they begin

pub takes_held : {A : Type 0} {S : List Token → Type 0} (value : Token → Option A) → Takes S (rule.held value)
takes_held value = record {
  takes = λ a from to s stop.
      let first : length from ≡ suc (length to) = ap length s.2 in
      omega (arith, first);
}

many_length : {A : Type 0} {p : Rule A} → Takes Any p → (all : List A) (from to : List Token) → many p all from to → length all ≤ length from
many_length N [] from to s = omega arith
many_length N (one ∷ rest) from to s =
    let behind = many_length N rest s.0 to s.2 in
    let item = N.takes one from s.0 s.1 tt in
    omega (arith, behind, item)

pub whole_some : {A : Type 0} {S : List Token → Type 0} {p : Rule A} {r : Reader A} (begins : Kind → Bool) → Whole Any p r → Takes Any p
    → ((a : A) (from to : List Token) → p a from to → begins (kind_at from) ≡ true) → ((t : List Token) → S t → begins (kind_at t) ≡ false)
    → Whole S (λ all from to. (one : A) × (between : List Token) × p one from between
    × ((rest : List A) × (behind : List Token) × many p rest between behind × rule.give (one ∷ rest) all behind to))
    (λ tokens. and_then (r tokens) (λ one. reader.many begins r (one ∷ [])))
whole_some {A = A} {S = S} {r = r} begins P N first ends = record {
  read = λ all from to s stop.
      let rest = s.3 in
      ap (λ o. and_then o (λ one. reader.many begins r (one ∷ []))) (P.read s.0 from s.1 s.2 tt)
      ∙ more_while_whole {S = S} begins P N first (λ t e. tt) (λ t e. tt) ends rest.0 (s.0 ∷ []) s.1 rest.1 rest.2 (subst S (sym rest.3.1) stop) (length s.1) (many_length N rest.0 s.1 rest.1 rest.2)
      ∙ ap (λ (l : List A). reader.give l rest.1) (sym rest.3.0) ∙ ap (λ (t : List Token). reader.give all t) rest.3.1;
}
