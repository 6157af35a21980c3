-- An abort that is asked for is one fewer that is left to ask for.
use Rattle.std.proofs.Common.{◌≡◌, ℕ, zero, suc, ◌+◌, ◌<◌, ◌≤◌, ◌==◌, ◌&&◌, Bool, true, false, not, Option, Some, None, List, [], ◌∷◌, length, refl, ap, ◌∙◌, arith}
use Rattle.std.specs.Prelude.{if◌then◌else◌, nat_lt, is_none, slice_get}
use Rattle.hv_history.specs.declared.state.Ending.{Ending}
use Rattle.hv_history.specs.declared.state.Statement.{Statement}
use Rattle.hv_history.specs.declared.state.Transaction.{Transaction}
use Rattle.hv_history.specs.Asking.{is_there_open, is_asked, first_asked}
use Rattle.hv_history.specs.Standing.{is_open}
use Rattle.hv_history.specs.State.{numbered, changed, changed_at, while_open, unless_ended, ended, statement_tree}
use Rattle.hv_history.proofs.AskingLaws.{ended-passed}
use Rattle.hv_stands.proofs.Numbers.{one_value}

-- ---- the text that opened a transaction stays

pub tree-same : (f : Statement → Statement) → ((s : Statement) → (f s).text ≡ s.text) → (ss : List Statement) (n k : ℕ)
    → statement_tree (slice_get (changed_at f ss n) k) ≡ statement_tree (slice_get ss k)
tree-same f same [] n k = refl
tree-same f same (s ∷ ss) zero zero = ap (λ (text : List ℕ). statement_tree (Some (record s { text = text }))) (same s)
tree-same f same (s ∷ ss) zero (suc k) = refl
tree-same f same (s ∷ ss) (suc n) zero = refl
tree-same f same (s ∷ ss) (suc n) (suc k) = tree-same f same ss n k

-- ---- how many of these numbers are left to ask for

abbrev pub one_asked : Bool → ℕ
one_asked true = 1
one_asked false = 0

abbrev pub count_asked : List Transaction → ℕ → ℕ → List ℕ → ℕ
count_asked ts own opened_ [] = 0
count_asked ts own opened_ (n ∷ ns) = one_asked (is_asked ts own opened_ n) + count_asked ts own opened_ ns

one-within : (b : Bool) → one_asked b ≤ 1
one-within true = omega arith
one-within false = omega arith

pub count-within : (ts : List Transaction) (own opened_ : ℕ) (ns : List ℕ) → count_asked ts own opened_ ns ≤ length ns
count-within ts own opened_ [] = omega arith
count-within ts own opened_ (n ∷ ns) =
    let one = one-within (is_asked ts own opened_ n) in
    let rest = count-within ts own opened_ ns in
    omega (arith, one, rest)

-- ---- what ends is open no more, and nothing opens

module _ (e : Ending) where
  abbrev shut : Transaction → Transaction
  shut t = while_open (ended e) t

  open-before : (t : Transaction) → is_open (shut t) ≡ true → is_open t ≡ true
  open-before t h = by t.ending refl h
    where
      by : (o : Option Ending) → t.ending ≡ o → is_open (unless_ended o t (ended e t)) ≡ true → is_open t ≡ true
      by None is g = ap (λ (x : Option Ending). is_none x) is
      by (Some x) is g = g

  less-at : (ts : List Transaction) (k n : ℕ) → is_there_open (slice_get (changed_at shut ts k) n) ≡ true → is_there_open (slice_get ts n) ≡ true
  less-at [] k n h = h
  less-at (t ∷ ts) zero zero h = open-before t h
  less-at (t ∷ ts) zero (suc n) h = h
  less-at (t ∷ ts) (suc k) zero h = h
  less-at (t ∷ ts) (suc k) (suc n) h = less-at ts k n h

  less-open : (ts : List Transaction) (k n : ℕ) → is_there_open (numbered (changed shut ts k) n) ≡ true → is_there_open (numbered ts n) ≡ true
  less-open ts zero n h = h
  less-open ts (suc k) zero h = h
  less-open ts (suc k) (suc n) h = less-at ts k n h

  -- ---- what is asked for

  and-less : (a b c d : Bool) → (d ≡ true → c ≡ true) → (a && (b && d)) ≡ true → (a && (b && c)) ≡ true
  and-less true true c d f h = f h
  and-less true false c d f h = cc
  and-less false b c d f h = cc

  one-less : (b c : Bool) → (c ≡ true → b ≡ true) → one_asked c ≤ one_asked b
  one-less true true f = omega arith
  one-less true false f = omega arith
  one-less false true f = let never : false ≡ true = f refl in cc
  one-less false false f = omega arith

  module _ (ts : List Transaction) (own opened_ : ℕ) where
    asked-less : (k n : ℕ) → is_asked (changed shut ts k) own opened_ n ≡ true → is_asked ts own opened_ n ≡ true
    asked-less k n h =
        and-less (not (n == own)) (not (nat_lt opened_ n)) (is_there_open (numbered ts n)) (is_there_open (numbered (changed shut ts k) n)) (less-open ts k n) h

    count-less : (k : ℕ) (ns : List ℕ) → count_asked (changed shut ts k) own opened_ ns ≤ count_asked ts own opened_ ns
    count-less k [] = omega arith
    count-less k (n ∷ ns) =
        let one = one-less (is_asked ts own opened_ n) (is_asked (changed shut ts k) own opened_ n) (asked-less k n) in
        let rest = count-less k ns in
        omega (arith, one, rest)

    fewer-by : (k n : ℕ) (ns : List ℕ) (b : Bool) → is_asked ts own opened_ n ≡ b
        → (first_asked ts own opened_ ns ≡ Some k → count_asked (changed shut ts k) own opened_ ns < count_asked ts own opened_ ns)
        → (if b then Some n else first_asked ts own opened_ ns) ≡ Some k
        → count_asked (changed shut ts k) own opened_ (n ∷ ns) < count_asked ts own opened_ (n ∷ ns)
    fewer-by k n ns true is next found =
        let same : n ≡ k = one_value n k found in
        let before : one_asked (is_asked ts own opened_ n) ≡ 1 = ap one_asked is in
        let now : one_asked (is_asked (changed shut ts k) own opened_ n) ≡ 0 =
        ap (λ m. one_asked (is_asked (changed shut ts k) own opened_ m)) same ∙ ap one_asked (ended-passed e ts own opened_ k) in
        let rest = count-less k ns in
        omega (arith, before, now, rest)
    fewer-by k n ns false is next found =
        let one = one-less (is_asked ts own opened_ n) (is_asked (changed shut ts k) own opened_ n) (asked-less k n) in
        let rest = next found in
        omega (arith, one, rest)

    -- the first of them ends, so one fewer is left
    pub count-fewer : (k : ℕ) (ns : List ℕ) → first_asked ts own opened_ ns ≡ Some k
        → count_asked (changed shut ts k) own opened_ ns < count_asked ts own opened_ ns
    count-fewer k [] h = cc
    count-fewer k (n ∷ ns) h = fewer-by k n ns (is_asked ts own opened_ n) refl (count-fewer k ns) h
