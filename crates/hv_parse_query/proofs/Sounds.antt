-- Soundness of the ways in which queries and statements are put together from rules.
use Rattle.std.proofs.Common.{◌≡◌, ◌⊎◌, inl, inr, ℕ, zero, suc, Bool, true, false, cond, Some, None, List, [], ◌∷◌, ◌++◌, length, refl, sym, ap, subst, ◌∙◌, append_assoc}
use Rattle.std.proofs.lemmas.List.{append-nil}
use Rattle.hv_ast.specs.declared.token.Token.{Token}
use Rattle.hv_grammar.specs.declared.kind.Kind.{Kind}
use Rattle.hv_grammar.specs.declared.kind.Kind.TheVariants as k
use Rattle.hv_grammar.specs.Rules.{Rule}
use Rattle.hv_grammar.specs.Rules as rule
use Rattle.hv_grammar.specs.Readers.{Outcome, Reader, and_then, kind_at, more_while}
use Rattle.hv_grammar.specs.Readers as reader
use Rattle.hv_parse_expr.proofs.Joins.{Sound, Suffix, IsKind, then_some, some_is, further, sound_give, sound_bind, sound_word, sound_eat, sound_flag, more_spelled}

-- what a rule spells is spelled by another
pub sound_as : {A : Type 0} {p q : Rule A} {r : Reader A} → ((a : A) (from to : List Token) → p a from to → q a from to) → Sound p r → Sound q r
sound_as into P = record { spelled = λ tokens a rest h. let t = P.spelled tokens a rest h in (into a tokens rest t.0, t.1) }

pub sound_refuse : {A : Type 0} {p : Rule A} → Sound p reader.refuse
sound_refuse = record { spelled = λ tokens a rest h. absurd (cc) }

-- what is given is the value before it, at its place
pub given : {A : Type 0} (p : Rule A) (a b : A) (from mid to : List Token) → p a from mid → rule.give a b mid to → p b from to
given p a b from mid to one same = subst (λ place. p b from place) same.1 (subst (λ value. p value from mid) (sym same.0) one)

-- one of two rules, by any test of the tokens
pub sound_if : {A : Type 0} {p q : Rule A} {r s : Reader A} (test : List Token → Bool) → Sound p r → Sound q s
    → Sound (λ b from to. p b from to ⊎ q b from to) (λ tokens. cond (test tokens) r s tokens)
sound_if {A = A} {p = p} {q = q} {r = r} {s = s} test P Q = record { spelled = λ tokens b rest h. by_test tokens (test tokens) b rest h }
  where
    by_test : (tokens : List Token) (is : Bool) (b : A) (rest : List Token) → cond is r s tokens ≡ Some (b, rest)
        → (p b tokens rest ⊎ q b tokens rest) × Suffix tokens rest
    by_test tokens true b rest h = let t = P.spelled tokens b rest h in (inl t.0, t.1)
    by_test tokens false b rest h = let t = Q.spelled tokens b rest h in (inr t.0, t.1)

pub sound_perhaps : {A : Type 0} {p : Rule A} {r : Reader A} (kind : Kind) → IsKind kind → Sound p r
    → Sound (rule.perhaps kind p) (reader.perhaps kind r)
sound_perhaps kind is P = sound_eat kind is (sound_bind P (λ a. sound_give (Some a))) (sound_give None)

pub sound_either : (mark other : Kind) → IsKind mark → IsKind other → Sound (rule.either mark other) (reader.either mark other)
unfolding reader.either
sound_either mark other is is_other = sound_eat mark is (sound_give true) (sound_bind (sound_flag other is_other) (λ _. sound_give false))

pub sound_bracketed : {A : Type 0} {p : Rule A} {r : Reader A} → Sound p r → Sound (rule.bracketed p) (reader.bracketed r)
sound_bracketed P = sound_bind (sound_word k.Open tt) (λ _. sound_bind P (λ a. sound_bind (sound_word k.Close tt) (λ _. sound_give a)))

pub sound_rows : {A : Type 0} {p : Rule A} {r : Reader A} (mark : Kind) → IsKind mark → Sound p r
    → Sound (rule.rows mark p) (reader.behind mark r [])
sound_rows {p = p} {r = r} mark is P = record {
  spelled = λ tokens all rest h.
      let t = more_spelled {p = p} mark is P (length tokens) [] tokens all rest h in
      (subst (λ found. rule.rows mark p found tokens rest) (sym t.1) t.2, t.3);
}

-- ---- rows of things that are told by how each begins

-- whether one more begins, and what comes behind it
abbrev pub while_turn : {A : Type 0} → (Kind → Bool) → Reader A → ℕ → List A → Bool → List Token → Outcome (List A)
while_turn begins item turns found true tokens = and_then (item tokens) (λ one. more_while begins item turns (found ++ one ∷ []))
while_turn begins item turns found false tokens = Some (found, tokens)

pub while_suc : {A : Type 0} (begins : Kind → Bool) (item : Reader A) (turns : ℕ) (found : List A) (tokens : List Token)
    → more_while begins item (suc turns) found tokens ≡ while_turn begins item turns found (begins (kind_at tokens)) tokens
unfolding more_while
while_suc begins item turns found tokens = by_test (begins (kind_at tokens))
  where
    by_test : (is : Bool) → (cond is (λ rest. and_then (item rest) (λ one. more_while begins item turns (found ++ one ∷ []))) (reader.give found)) tokens ≡ while_turn begins item turns found is tokens
    by_test true = refl
    by_test false = refl

-- the items that came behind the first ones
abbrev pub Further : {A : Type 0} → Rule A → List A → List A → List Token → List Token → Type 0
Further {A = A} p found all tokens rest = (tail : List A) × (all ≡ found ++ tail) × rule.many p tail tokens rest × Suffix tokens rest

no_further : {A : Type 0} {p : Rule A} (found : List A) (tokens : List Token) (all : List A) (rest : List Token)
    → reader.give found tokens ≡ Some (all, rest) → Further p found all tokens rest
no_further {A = A} found tokens all rest h =
    let same = some_is (found, tokens) (all, rest) h in
    let ends : tokens ≡ rest = ap (λ (q : List A × List Token). q.1) same in
    ([], ap (λ (q : List A × List Token). q.0) (sym same) ∙ sym (append-nil found), ends, ([], ends))

pub while_spelled : {A : Type 0} {p : Rule A} {r : Reader A} (begins : Kind → Bool) → Sound p r
    → (turns : ℕ) (found : List A) (tokens : List Token) (all : List A) (rest : List Token)
    → more_while begins r turns found tokens ≡ Some (all, rest) → Further p found all tokens rest
unfolding more_while
while_spelled begins P zero found tokens all rest h = no_further found tokens all rest h
while_spelled {A = A} {p = p} {r = r} begins P (suc turns) found tokens all rest h =
    by_test (λ one mid g. while_spelled begins P turns (found ++ one ∷ []) mid all rest g)
    (begins (kind_at tokens)) (sym (while_suc begins r turns found tokens) ∙ h)
  where
    by_test : ((one : A) (mid : List Token) → more_while begins r turns (found ++ one ∷ []) mid ≡ Some (all, rest) → Further p (found ++ one ∷ []) all mid rest)
        → (is : Bool) → while_turn begins r turns found is tokens ≡ Some (all, rest) → Further p found all tokens rest
    by_test again true g =
        let t = then_some (r tokens) (λ one. more_while begins r turns (found ++ one ∷ [])) all rest g in
        let one = P.spelled tokens t.0.0 t.0.1 t.1 in
        let others = again t.0.0 t.0.1 t.2 in
        (t.0.0 ∷ others.0, others.1 ∙ append_assoc found (t.0.0 ∷ []) others.0, (t.0.1, one.0, others.2), further one.1 others.3)
    by_test again false g = no_further found tokens all rest g

-- none or more
pub sound_many : {A : Type 0} {p : Rule A} {r : Reader A} (begins : Kind → Bool) → Sound p r
    → Sound (rule.many p) (reader.many begins r [])
sound_many {p = p} begins P = record {
  spelled = λ tokens all rest h.
      let t = while_spelled {p = p} begins P (length tokens) [] tokens all rest h in
      (subst (λ found. rule.many p found tokens rest) (sym t.1) t.2, t.3);
}

-- one or more
pub sound_some : {A : Type 0} {p : Rule A} {r : Reader A} (begins : Kind → Bool) → Sound p r
    → Sound (λ all from to. (first : A) × (between : List Token) × p first from between
    × ((rest : List A) × (behind : List Token) × rule.many p rest between behind × rule.give (first ∷ rest) all behind to))
    (λ tokens. and_then (r tokens) (λ first. reader.many begins r (first ∷ [])))
sound_some {p = p} {r = r} begins P = record {
  spelled = λ tokens all rest h.
      let t = then_some (r tokens) (λ first. reader.many begins r (first ∷ [])) all rest h in
      let one = P.spelled tokens t.0.0 t.0.1 t.1 in
      let others = while_spelled {p = p} begins P (length t.0.1) (t.0.0 ∷ []) t.0.1 all rest t.2 in
      ((t.0.0, t.0.1, one.0, (others.0, rest, others.2, (others.1, refl))), further one.1 others.3);
}
