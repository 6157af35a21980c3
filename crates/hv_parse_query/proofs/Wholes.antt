-- What is spelled is read, for the ways in which queries and statements put rules together beside
-- those of expressions.
use Rattle.std.proofs.Common.{◌≡◌, ◌⊎◌, inl, inr, ℕ, zero, suc, ◌≤◌, Bool, true, false, cond, Some, None, List, [], ◌∷◌, ◌++◌, length, sym, ap, subst, arith, ◌∙◌, append_assoc, length-append}
use Rattle.std.proofs.lemmas.List.{append-nil}
use Rattle.hv_ast.specs.declared.token.Token.{Token}
use Rattle.hv_grammar.specs.declared.kind.Kind.{Kind}
use Rattle.hv_grammar.specs.declared.kind.Kind.TheVariants as k
use Rattle.hv_grammar.specs.Rules as rule
use Rattle.hv_grammar.specs.Rules.{Rule, word, many}
use Rattle.hv_grammar.specs.Readers.{Reader, and_then, kind_at, more_while}
use Rattle.hv_grammar.specs.Readers as reader
use Rattle.hv_parse_expr.proofs.Joins.{Sound, Suffix}
use Rattle.hv_parse_expr.proofs.Begins.{Avoids, word_kind}
use Rattle.hv_parse_expr.proofs.Wholes.{Whole, whole_give, whole_bind, whole_then, whole_word, whole_eat, whole_flag}
use Rattle.hv_parse_expr.proofs.Rows.{behind_whole}
use Rattle.hv_parse_expr.proofs.Below.{Any, Without, without_at}

-- ---- what a rule begins with, where what stands behind it is known

pub record Leads {A : Type 0} (T S : List Token → Type 0) (p : Rule A) : Type 0 where
  pub leads : (a : A) (from to : List Token) → p a from to → S to → T from

pub leads_give : {A : Type 0} {T S : List Token → Type 0} {a : A} → ((t : List Token) → S t → T t) → Leads T S (rule.give a)
leads_give {S = S} weak = record { leads = λ b from to s stop. weak from (subst S (sym s.1) stop) }

pub leads_word : {T S : List Token → Type 0} (kind : Kind) → ((t : List Token) → kind_at t ≡ kind → T t) → Leads T S (word kind)
leads_word kind at = record { leads = λ u from to s stop. at from (word_kind s) }

pub leads_bind : {A B : Type 0} {T U S : List Token → Type 0} {p : Rule A} {f : A → Rule B} → Leads T U p → ((a : A) → Leads U S (f a))
    → Leads T S (λ b from to. (a : A) × (between : List Token) × p a from between × f a b between to)
leads_bind P F = record { leads = λ b from to s stop. P.leads s.0 from s.1 s.2 ((F s.0).leads b s.1 to s.3 stop) }

-- where the first of two rules isn't empty
pub leads_first : {A B : Type 0} {T S : List Token → Type 0} {p : Rule A} {f : A → Rule B} → Leads T Any p
    → Leads T S (λ b from to. (a : A) × (between : List Token) × p a from between × f a b between to)
leads_first P = record { leads = λ b from to s stop. P.leads s.0 from s.1 s.2 tt }

pub leads_or : {A : Type 0} {T S : List Token → Type 0} {p q : Rule A} → Leads T S p → Leads T S q → Leads T S (λ a from to. p a from to ⊎ q a from to)
leads_or {T = T} P Q = record {
  leads = λ a from to s stop. elim s as (λ _. T from) [
    | inl it ↦ P.leads a from to it stop
    | inr it ↦ Q.leads a from to it stop
  ];
}

-- [word r], and so on: what is optional leads to what stands behind it
pub leads_option : {A : Type 0} {T S : List Token → Type 0} {f : Unit {0} → Rule A} {a : A} (kind : Kind) → ((t : List Token) → kind_at t ≡ kind → T t) → ((t : List Token) → S t → T t)
    → Leads T S (λ b from to. ((u : Unit {0}) × (between : List Token) × word kind u from between × f u b between to) ⊎ rule.give a b from to)
leads_option kind at weak = leads_or (leads_first (leads_word kind at)) (leads_give weak)

pub leads_either : {T S : List Token → Type 0} (mark other : Kind) → ((t : List Token) → kind_at t ≡ mark → T t) → ((t : List Token) → kind_at t ≡ other → T t) → ((t : List Token) → S t → T t)
    → Leads T S (rule.either mark other)
leads_either {T = T} mark other one two weak =
    leads_or (leads_first (leads_word mark one)) (leads_bind {U = T} (leads_option other two (λ t s. s)) (λ _. leads_give weak))

pub leads_many : {A : Type 0} {T S : List Token → Type 0} {p : Rule A} → Leads T Any p → ((t : List Token) → S t → T t) → Leads T S (many p)
leads_many {A = A} {T = T} {S = S} {p = p} P weak = record { leads = by_list }
  where
    by_list : (all : List A) (from to : List Token) → many p all from to → S to → T from
    by_list [] from to s stop = weak from (subst S (sym s) stop)
    by_list (one ∷ rest) from to s stop = P.leads one from s.0 s.1 tt

pub avoids : {A : Type 0} {S : List Token → Type 0} {p : Rule A} {kind : Kind} → Leads (Without kind) S p → Avoids S kind p
avoids P = record { avoids = λ a from to s stop e. P.leads a from to s stop e }

-- ---- what is spelled is read

-- where less may stand behind
pub whole_weak : {A : Type 0} {S T : List Token → Type 0} {p : Rule A} {r : Reader A} → ((t : List Token) → S t → T t) → Whole T p r → Whole S p r
whole_weak weak P = record { read = λ a from to s stop. P.read a from to s (weak to stop) }

pub whole_next : {A B : Type 0} {S T : List Token → Type 0} {p : Rule A} {r : Reader A} {f : A → Rule B} {g : A → Reader B}
    → Whole T p r → ((a : A) → Whole S (f a) (g a)) → ((a : A) → Leads T S (f a))
    → Whole S (λ b from to. (a : A) × (between : List Token) × p a from between × f a b between to) (λ tokens. and_then (r tokens) g)
whole_next P Q F = whole_bind P Q (record { follows = λ a b from to s stop. (F a).leads b from to s stop })

-- a rule whose tree is put into another one
pub whole_map : {A B : Type 0} {S : List Token → Type 0} {p : Rule A} {r : Reader A} (h : A → B) → Whole S p r
    → Whole S (λ b from to. (a : A) × (between : List Token) × p a from between × rule.give (h a) b between to) (λ tokens. and_then (r tokens) (λ a. reader.give (h a)))
whole_map h P = whole_next P (λ a. whole_give (h a)) (λ a. leads_give (λ t s. s))

-- [word r]
pub whole_perhaps : {A : Type 0} {S : List Token → Type 0} {p : Rule A} {r : Reader A} (kind : Kind) → Whole S p r → ((t : List Token) → S t → Without kind t)
    → Whole S (rule.perhaps kind p) (reader.perhaps kind r)
whole_perhaps kind P ends = whole_eat kind (whole_map Some P) (whole_give None) (avoids (leads_give ends))

-- [mark | other]
pub whole_either : {S : List Token → Type 0} (mark other : Kind) → (other ≡ mark → ⊥) → ((t : List Token) → S t → Without mark t) → ((t : List Token) → S t → Without other t)
    → Whole S (rule.either mark other) (reader.either mark other)
unfolding reader.either
whole_either mark other apart one two = whole_eat mark (whole_give true) (whole_flag other (λ _. whole_give false) (avoids (leads_give two)))
    (avoids (leads_bind {U = Without mark} (leads_option other (without_at mark other apart) (λ t s. s)) (λ _. leads_give one)))

-- ( r )
pub whole_bracketed : {A : Type 0} {T : List Token → Type 0} {p : Rule A} {r : Reader A} → Whole T p r → ((t : List Token) → kind_at t ≡ k.Close → T t)
    → Whole Any (rule.bracketed p) (reader.bracketed r)
whole_bracketed P at = whole_then (whole_word k.Open) (λ _. whole_next P (λ a. whole_then (whole_word k.Close) (λ _. whole_give a)) (λ a. leads_first (leads_word k.Close at)))

-- {mark r}
pub whole_rows : {A : Type 0} {S T : List Token → Type 0} {p : Rule A} {r : Reader A} (mark : Kind) → Whole T p r → Sound p r
    → ((t : List Token) → kind_at t ≡ mark → T t) → ((t : List Token) → S t → T t) → ((t : List Token) → S t → Without mark t)
    → Whole S (rule.rows mark p) (reader.behind mark r [])
whole_rows {S = S} mark P Q at_mark at_end ends = record { read = λ all from to s stop. behind_whole {S = S} mark P Q at_mark at_end ends all [] from to s stop }

-- ---- rows of things that are told by how they begin

-- at least one token is taken
pub record Takes {A : Type 0} (S : List Token → Type 0) (p : Rule A) : Type 0 where
  pub takes : (a : A) (from to : List Token) → p a from to → S to → suc (length to) ≤ length from

pub takes_word : {A : Type 0} {S : List Token → Type 0} {p : Rule A} {r : Reader A} (kind : Kind) → Whole S p r → Sound p r
    → Takes S (λ b from to. (u : Unit {0}) × (between : List Token) × word kind u from between × p b between to)
takes_word kind P Q = record {
  takes = λ b from to s stop.
      let first : length from ≡ suc (length s.1) = ap length s.2.2 in
      let rest : Suffix s.1 to = (Q.spelled s.1 b to (P.read b s.1 to s.3 stop)).1 in
      omega (arith, ap length rest.1, length-append rest.0 to);
}

pub takes_or : {A : Type 0} {S : List Token → Type 0} {p q : Rule A} → Takes S p → Takes S q → Takes S (λ a from to. p a from to ⊎ q a from to)
takes_or P Q = record {
  takes = λ a from to s stop. elim s as (λ _. suc (length to) ≤ length from) [
    | inl it ↦ P.takes a from to it stop
    | inr it ↦ Q.takes a from to it stop
  ];
}

module _ {A : Type 0} {S T : List Token → Type 0} {p : Rule A} {r : Reader A} (begins : Kind → Bool) (P : Whole T p r) (N : Takes T p)
    (first : (a : A) (from to : List Token) → p a from to → begins (kind_at from) ≡ true)
    (at_item : (t : List Token) → begins (kind_at t) ≡ true → T t) (at_end : (t : List Token) → S t → T t) (ends : (t : List Token) → S t → begins (kind_at t) ≡ false) where
  many_stop : (tail : List A) (from to : List Token) → many p tail from to → S to → T from
  many_stop [] from to s stop = at_end from (subst S (sym s) stop)
  many_stop (one ∷ tail) from to s stop = at_item from (first one from s.0 s.1)

  many_length : (tail : List A) (from to : List Token) → many p tail from to → S to → length tail ≤ length from
  many_length [] from to s stop = omega arith
  many_length (one ∷ tail) from to s stop =
      let rest = many_length tail s.0 to s.2 stop in
      let item = N.takes one from s.0 s.1 (many_stop tail s.0 to s.2 stop) in
      omega arith

  abbrev Turn : ℕ → List A → Bool → Reader (List A)
  Turn turns found seen = cond {A = Reader (List A)} seen (λ tokens. and_then (r tokens) (λ one. more_while begins r turns (found ++ one ∷ []))) (reader.give found)

  no_item : (turns : ℕ) (found : List A) (from to : List Token) → from ≡ to → S to → more_while begins r turns found from ≡ Some (found ++ [], to)
  unfolding more_while
  no_item zero found from to e stop = ap (λ (t : List Token). reader.give found t) e ∙ ap (λ (all : List A). reader.give all to) (sym (append-nil found))
  no_item (suc turns) found from to e stop =
      ap (λ b. Turn turns found b from) (ends from (subst S (sym e) stop))
      ∙ ap (λ (t : List Token). reader.give found t) e ∙ ap (λ (all : List A). reader.give all to) (sym (append-nil found))

  pub more_while_whole : (tail found : List A) (from to : List Token) → many p tail from to → S to → (turns : ℕ) → length tail ≤ turns
      → more_while begins r turns found from ≡ Some (found ++ tail, to)
  unfolding more_while
  more_while_whole [] found from to s stop turns le = no_item turns found from to s stop
  more_while_whole (one ∷ tail) found from to s stop zero le = absurd (omega arith)
  more_while_whole (one ∷ tail) found from to s stop (suc turns) le =
      ap (λ b. Turn turns found b from) (first one from s.0 s.1)
      ∙ ap (λ o. and_then o (λ one. more_while begins r turns (found ++ one ∷ []))) (P.read one from s.0 s.1 (many_stop tail s.0 to s.2 stop))
      ∙ more_while_whole tail (found ++ one ∷ []) s.0 to s.2 stop turns (omega arith)
      ∙ ap (λ (all : List A). reader.give all to) (append_assoc found (one ∷ []) tail)

  pub whole_many : Whole S (many p) (reader.many begins r [])
  whole_many = record { read = λ all from to s stop. more_while_whole all [] from to s stop (length from) (many_length all from to s stop) }
