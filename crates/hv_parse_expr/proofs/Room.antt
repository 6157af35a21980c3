-- A text that nests no deeper than there is room for is spelled by a grammar of that depth.
use Rattle.std.proofs.Common.{◌≡◌, ◌⊎◌, inl, inr, ℕ, zero, suc, true, false, Option, Some, None, List, [], ◌∷◌, refl, sym, ap, ◌∙◌}
use Rattle.hv_ast.specs.declared.token.Token.{Token}
use Rattle.hv_grammar.specs.declared.kind.Kind.{Kind}
use Rattle.hv_grammar.specs.Kinds.{kind_of}
use Rattle.hv_grammar.specs.Nesting.{Turn, opens, closes, stays, turn_of, turned, too_deep}
use Rattle.hv_grammar.specs.Rules as rule
use Rattle.hv_grammar.specs.Rules.{Rule, word, many, one_of}

-- from a place with this room to one with that
pub record Goes {A : Type 0} (before after : ℕ) (p q : Rule A) : Type 0 where
  pub goes : (a : A) (from to : List Token) → p a from to → too_deep before from ≡ None → q a from to × (too_deep after to ≡ None)

pub goes_give : {A : Type 0} (n : ℕ) (a : A) → Goes n n (rule.give a) (rule.give a)
goes_give n a = record { goes = λ b from to s room. (s, ap (too_deep n) (sym s.1) ∙ room) }

pub goes_bind : {A B : Type 0} {m l n : ℕ} {p q : Rule A} {f h : A → Rule B} → Goes m l p q → ((a : A) → Goes l n (f a) (h a))
    → Goes m n (λ b from to. (a : A) × (between : List Token) × p a from between × f a b between to)
    (λ b from to. (a : A) × (between : List Token) × q a from between × h a b between to)
goes_bind P F = record {
  goes = λ b from to s room.
      let one = P.goes s.0 from s.1 s.2 room in
      let two = (F s.0).goes b s.1 to s.3 one.1 in
      ((s.0, s.1, one.0, two.0), two.1);
}

pub goes_or : {A : Type 0} {m n : ℕ} {p q f h : Rule A} → Goes m n p q → Goes m n f h → Goes m n (λ a from to. p a from to ⊎ f a from to) (λ a from to. q a from to ⊎ h a from to)
goes_or {n = n} {p = p} {q = q} {f = f} {h = h} P F = record {
  goes = λ a from to s room. elim s as (λ _. (q a from to ⊎ h a from to) × (too_deep n to ≡ None)) [
    | inl it ↦ (let t = P.goes a from to it room in (inl t.0, t.1))
    | inr it ↦ (let t = F.goes a from to it room in (inr t.0, t.1))
  ];
}

-- one token, by what it does to the room
token_room : (n : ℕ) (token : Token) (rest : List Token) (turn : Turn) → turn_of (kind_of token.what) ≡ turn → too_deep n (token ∷ rest) ≡ None → turned turn n token.at (λ left. too_deep left rest) ≡ None
token_room n token rest turn e room = ap (λ t. turned t n token.at (λ left. too_deep left rest)) (sym e) ∙ room

pub goes_token : {A : Type 0} (n : ℕ) (value : Token → Option A) → ((token : Token) (a : A) → value token ≡ Some a → turn_of (kind_of token.what) ≡ stays) → Goes n n (rule.held value) (rule.held value)
goes_token n value F = record { goes = λ a from to s room. (s, token_room n s.0 to stays (F s.0 a s.1) (ap (too_deep n) (sym s.2) ∙ room)) }

pub goes_one_of : {X : Type 0} (n : ℕ) (value : Kind → Option X) → ((kind : Kind) (x : X) → value kind ≡ Some x → turn_of kind ≡ stays) → Goes n n (one_of value) (one_of value)
goes_one_of n value F = goes_token n (λ token. value (kind_of token.what)) (λ token x e. F (kind_of token.what) x e)

pub goes_word : (n : ℕ) (kind : Kind) → turn_of kind ≡ stays → Goes n n (word kind) (word kind)
goes_word n kind e = record { goes = λ u from to s room. (s, token_room n s.0 to stays (ap turn_of s.1 ∙ e) (ap (too_deep n) (sym s.2) ∙ room)) }

pub goes_close : (n : ℕ) (kind : Kind) → turn_of kind ≡ closes → Goes n (suc n) (word kind) (word kind)
goes_close n kind e = record { goes = λ u from to s room. (s, token_room n s.0 to closes (ap turn_of s.1 ∙ e) (ap (too_deep n) (sym s.2) ∙ room)) }

-- a word that opens a level: there is room for one, or it is too deep
pub goes_open : {A : Type 0} (n : ℕ) {p q : Rule A} (kind : Kind) → turn_of kind ≡ opens → ((m : ℕ) → n ≡ suc m → Goes m n p q)
    → Goes n n (λ b from to. (u : Unit {0}) × (between : List Token) × word kind u from between × p b between to)
    (λ b from to. (u : Unit {0}) × (between : List Token) × word kind u from between × q b between to)
goes_open zero kind e F = record {
  goes = λ b from to s room.
      absurd (some_none (token_room 0 s.2.0 s.1 opens (ap turn_of s.2.1 ∙ e) (ap (too_deep 0) (sym s.2.2) ∙ room)));
}
  where
    some_none : {X : Type 0} {x : X} → Some x ≡ None → ⊥
    some_none h = absurd (cc)
goes_open (suc m) kind e F = record {
  goes = λ b from to s room.
      let t = (F m refl).goes b s.1 to s.3 (token_room (suc m) s.2.0 s.1 opens (ap turn_of s.2.1 ∙ e) (ap (too_deep (suc m)) (sym s.2.2) ∙ room)) in
      ((s.0, s.1, s.2, t.0), t.1);
}

pub goes_many : {A : Type 0} (n : ℕ) {p q : Rule A} → Goes n n p q → Goes n n (many p) (many q)
goes_many {A = A} n {p = p} {q = q} P = record { goes = all }
  where
    all : (items : List A) (from to : List Token) → many p items from to → too_deep n from ≡ None → many q items from to × (too_deep n to ≡ None)
    all [] from to s room = (s, ap (too_deep n) (sym s) ∙ room)
    all (one ∷ items) from to s room =
        let first = P.goes one from s.0 s.1 room in
        let rest = all items s.0 to s.2 first.1 in
        ((s.0, first.0, rest.0), rest.1)

pub goes_separated : {A : Type 0} (n : ℕ) {p q : Rule A} (mark : Kind) → turn_of mark ≡ stays → Goes n n p q → Goes n n (rule.separated mark p) (rule.separated mark q)
goes_separated n mark e P = goes_bind P (λ first. goes_bind (goes_many n (goes_bind (goes_word n mark e) (λ _. P))) (λ rest. goes_give n (first ∷ rest)))

pub goes_flag : (n : ℕ) (kind : Kind) → turn_of kind ≡ stays → Goes n n (rule.flag kind) (rule.flag kind)
goes_flag n kind e = goes_or (goes_bind (goes_word n kind e) (λ _. goes_give n true)) (goes_give n false)
