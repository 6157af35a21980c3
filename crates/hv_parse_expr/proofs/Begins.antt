-- What the first token of a rule may be, and what may stand behind a rule.
use Rattle.std.proofs.Common.{◌≡◌, ◌⊎◌, inl, inr, ℕ, Bool, true, false, cond, Option, Some, None, List, nat_lt, nat_le, sym, ap, rules, ◌∙◌}
use denote.Enum.Bare.{true_same, false_same}
use Rattle.hv_ast.specs.declared.token.Token.{Token}
use Rattle.hv_grammar.specs.contracts.kind.Kind.{the_type}
use Rattle.hv_grammar.specs.declared.kind.Kind.{Kind}
use Rattle.hv_grammar.specs.declared.kind.Kind.TheVariants as k
use Rattle.hv_grammar.specs.Kinds.{same_kind}
use Rattle.hv_grammar.specs.Rules as rule
use Rattle.hv_grammar.specs.Rules.{Rule, word, many, flag, one_of}
use Rattle.hv_grammar.specs.Readers.{kind_at, next, sees}
use Rattle.hv_grammar.specs.Choices.{binds}
use Rattle.hv_grammar.specs.Choices as c
use Rattle.hv_parse_expr.proofs.Below.{Below, Without, differ, lower, below_at}

-- ---- kinds that are seen or not

pub word_kind : {kind : Kind} {u : Unit {0}} {from to : List Token} → word kind u from to → kind_at from ≡ kind
unfolding kind_at
word_kind {kind = kind} s = ap kind_at s.2 ∙ s.1

pub word_next : {kind : Kind} {u : Unit {0}} {from to : List Token} → word kind u from to → next from ≡ to
unfolding next
word_next s = ap next s.2

pub is_seen : (kind : Kind) (tokens : List Token) → kind_at tokens ≡ kind → sees kind tokens ≡ true
unfolding sees same_kind
is_seen kind tokens e = true_same the_type (kind_at tokens) kind e

pub is_not_seen : (kind : Kind) (tokens : List Token) → (kind_at tokens ≡ kind → ⊥) → sees kind tokens ≡ false
unfolding sees same_kind
is_not_seen kind tokens e = false_same the_type (search rules) (kind_at tokens) kind e

-- ---- what may stand behind

-- the token behind binds less tightly than this
abbrev pub Stop : ℕ → List Token → Type 0
Stop level to = Below binds level to

-- ---- what a rule begins with

-- how early in an expression a token may begin it: a primary 3, a sign 2, NOT 1
abbrev pub starts : Kind → ℕ
starts k.Number = 3
starts k.Text = 3
starts k.Date = 3
starts k.True = 3
starts k.False = 3
starts k.Null = 3
starts k.Open = 3
starts k.Case = 3
starts k.Cast = 3
starts k.If = 3
starts k.Array = 3
starts k.Plus = 2
starts k.Minus = 2
starts k.Not = 1
starts kind = cond (c.is_name kind) 3 0

pub record Begins {A : Type 0} (level : ℕ) (p : Rule A) : Type 0 where
  pub begins : (a : A) (from to : List Token) → p a from to → nat_le level (starts (kind_at from)) ≡ true

pub begins_bind : {A B : Type 0} {level : ℕ} {p : Rule A} {f : A → Rule B} → Begins level p
    → Begins level (λ b from to. (a : A) × (between : List Token) × p a from between × f a b between to)
begins_bind P = record { begins = λ b from to s. P.begins s.0 from s.1 s.2 }

pub begins_or : {A : Type 0} {level : ℕ} {p q : Rule A} → Begins level p → Begins level q → Begins level (λ a from to. p a from to ⊎ q a from to)
begins_or {level = level} P Q = record {
  begins = λ a from to s. elim s as (λ _. nat_le level (starts (kind_at from)) ≡ true) [
    | inl it ↦ P.begins a from to it
    | inr it ↦ Q.begins a from to it
  ];
}

pub begins_word : {level : ℕ} (kind : Kind) → nat_le level (starts kind) ≡ true → Begins level (word kind)
begins_word {level = level} kind e = record { begins = λ a from to s. ap (λ z. nat_le level (starts z)) (word_kind s) ∙ e }

-- ---- what a rule doesn't begin with, where what stands behind it is known

pub record Avoids {A : Type 0} (S : List Token → Type 0) (kind : Kind) (p : Rule A) : Type 0 where
  pub avoids : (a : A) (from to : List Token) → p a from to → S to → kind_at from ≡ kind → ⊥

pub avoids_begins : {A : Type 0} {S : List Token → Type 0} {level : ℕ} {p : Rule A} (kind : Kind) → Begins level p → nat_lt (starts kind) level ≡ true → Avoids S kind p
avoids_begins {level = level} kind P low = record {
  avoids = λ a from to s stop e.
      differ (starts kind) level low (ap (λ z. nat_le level (starts z)) (sym e) ∙ P.begins a from to s);
}

pub avoids_give : {A : Type 0} {a : A} (level : ℕ) (kind : Kind) → nat_le level (binds kind) ≡ true → Avoids (Stop level) kind (rule.give a)
avoids_give level kind high = record {
  avoids = λ b from to s stop e.
      differ (binds kind) level (ap (λ z. nat_lt (binds z) level) (sym (ap kind_at (sym s.1) ∙ e)) ∙ stop) high;
}

pub avoids_word : {S : List Token → Type 0} (other kind : Kind) → (other ≡ kind → ⊥) → Avoids S kind (word other)
avoids_word other kind apart = record { avoids = λ b from to s stop e. apart (sym (word_kind s) ∙ e) }

-- the first rule of two is known not to be empty
pub avoids_bind : {A B : Type 0} {S : List Token → Type 0} {kind : Kind} {p : Rule A} {f : A → Rule B} → Avoids (λ _. Unit {0}) kind p
    → Avoids S kind (λ b from to. (a : A) × (between : List Token) × p a from between × f a b between to)
avoids_bind P = record { avoids = λ b from to s stop e. P.avoids s.0 from s.1 s.2 tt e }

pub avoids_or : {A : Type 0} {S : List Token → Type 0} {kind : Kind} {p q : Rule A} → Avoids S kind p → Avoids S kind q → Avoids S kind (λ a from to. p a from to ⊎ q a from to)
avoids_or P Q = record {
  avoids = λ a from to s stop e. elim s as (λ _. ⊥) [
    | inl it ↦ P.avoids a from to it stop e
    | inr it ↦ Q.avoids a from to it stop e
  ];
}

-- ---- what stands behind the first of two rules

pub record Follows {A B : Type 0} (T S : List Token → Type 0) (f : A → Rule B) : Type 0 where
  pub follows : (a : A) (b : B) (from to : List Token) → f a b from to → S to → T from

pub follows_word : {A B : Type 0} {S : List Token → Type 0} {h : A → Unit {0} → Rule B} (level : ℕ) (kind : Kind) → nat_lt (binds kind) level ≡ true
    → Follows (Stop level) S (λ a b from to. (u : Unit {0}) × (between : List Token) × word kind u from between × h a u b between to)
follows_word level kind e = record { follows = λ a b from to s stop. ap (λ z. nat_lt (binds z) level) (word_kind s.2) ∙ e }

pub follows_give : {A B : Type 0} {h : A → B} (low high : ℕ) → nat_le low high ≡ true → Follows (Stop high) (Stop low) (λ a. rule.give (h a))
follows_give low high e = record {
  follows = λ a b from to s stop.
      lower binds low high e from (ap (λ z. nat_lt (binds (kind_at z)) low) s.1 ∙ stop);
}

pub follows_or : {A B : Type 0} {T S : List Token → Type 0} {f g : A → Rule B} → Follows T S f → Follows T S g → Follows T S (λ a b from to. f a b from to ⊎ g a b from to)
follows_or {T = T} F G = record {
  follows = λ a b from to s stop. elim s as (λ _. T from) [
    | inl it ↦ F.follows a b from to it stop
    | inr it ↦ G.follows a b from to it stop
  ];
}

-- ---- what stands behind a row: no further item, and nothing that continues the last one

abbrev pub End : ℕ → Kind → List Token → Type 0
End level mark to = Stop level to × Without mark to

pub end_at : (level : ℕ) (mark kind : Kind) → nat_lt (binds kind) level ≡ true → (kind ≡ mark → ⊥) → (t : List Token) → kind_at t ≡ kind → End level mark t
end_at level mark kind e apart t at = (below_at binds level kind e t at, λ is. apart (sym at ∙ is))

pub follows_end : {A B : Type 0} {S : List Token → Type 0} {h : A → Unit {0} → Rule B} (level : ℕ) (mark kind : Kind) → nat_lt (binds kind) level ≡ true → (kind ≡ mark → ⊥)
    → Follows (End level mark) S (λ a b from to. (u : Unit {0}) × (between : List Token) × word kind u from between × h a u b between to)
follows_end level mark kind e apart = record { follows = λ a b from to s stop. end_at level mark kind e apart from (word_kind s.2) }

pub avoids_one_of : {X : Type 0} {S : List Token → Type 0} (value : Kind → Option X) (kind : Kind) → value kind ≡ None → Avoids S kind (one_of value)
unfolding kind_at
avoids_one_of value kind none = record { avoids = λ x from to s stop e. none_some (sym none ∙ ap value (sym e) ∙ ap (λ t. value (kind_at t)) s.2 ∙ s.1) }
  where
    none_some : {X : Type 0} {x : X} → None ≡ Some x → ⊥
    none_some e = absurd (cc)

-- an optional word, and then what avoids the kind
pub avoids_flag : {B : Type 0} {S : List Token → Type 0} {f : Bool → Rule B} (other kind : Kind) → (other ≡ kind → ⊥) → ((b : Bool) → Avoids S kind (f b))
    → Avoids S kind (λ b from to. (found : Bool) × (between : List Token) × flag other found from between × f found b between to)
avoids_flag other kind apart F = record {
  avoids = λ b from to s stop e. elim s.2 as (λ _. ⊥) [
    | inl w ↦ apart (sym (word_kind w.2) ∙ e)
    | inr w ↦ (F s.0).avoids b s.1 to s.3 stop (ap kind_at (sym w.1) ∙ e)
  ];
}
