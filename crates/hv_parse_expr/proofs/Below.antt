-- What stands behind a rule, by a number of its kind: how tightly it binds, how far within a query it goes
-- on, which clause of a statement it begins.
use Rattle.std.proofs.Common.{◌≡◌, ℕ, true, List, nat_lt, nat_le, sym, ap, arith, ◌∙◌}
use Rattle.hv_ast.specs.declared.token.Token.{Token}
use Rattle.hv_grammar.specs.declared.kind.Kind.{Kind}
use Rattle.hv_grammar.specs.Readers.{kind_at}

-- the number of the token behind is less than this
abbrev pub Below : (Kind → ℕ) → ℕ → List Token → Type 0
Below order n to = nat_lt (order (kind_at to)) n ≡ true

-- the token behind is of another kind
abbrev pub Without : Kind → List Token → Type 0
Without kind to = kind_at to ≡ kind → ⊥

-- whatever stands behind
abbrev pub Any : List Token → Type 0
Any to = Unit {0}

less_of : (a b c : ℕ) → nat_lt a b ≡ true → nat_le b c ≡ true → nat_lt a c ≡ true
less_of a b c one two = grind arith

pub differ : (m n : ℕ) → nat_lt m n ≡ true → nat_le n m ≡ true → ⊥
differ m n one two = grind arith

pub lower : (order : Kind → ℕ) (low high : ℕ) → nat_le low high ≡ true → (t : List Token) → Below order low t → Below order high t
lower order low high le t s = less_of (order (kind_at t)) low high s le

pub below_at : (order : Kind → ℕ) (n : ℕ) (kind : Kind) → nat_lt (order kind) n ≡ true → (t : List Token) → kind_at t ≡ kind → Below order n t
below_at order n kind e t at = ap (λ z. nat_lt (order z) n) at ∙ e

pub below_without : (order : Kind → ℕ) (n : ℕ) (kind : Kind) → nat_le n (order kind) ≡ true → (t : List Token) → Below order n t → Without kind t
below_without order n kind high t s at = differ (order kind) n (ap (λ z. nat_lt (order z) n) (sym at) ∙ s) high

pub without_at : (other kind : Kind) → (kind ≡ other → ⊥) → (t : List Token) → kind_at t ≡ kind → Without other t
without_at other kind apart t at is = apart (sym at ∙ is)
