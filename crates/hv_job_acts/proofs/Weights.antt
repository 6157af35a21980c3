-- What stands among names is told by their weights.
use Rattle.std.proofs.Common.{◌≡◌, ◌⊎◌, inl, inr, ℕ, ◌+◌, ◌==◌, ◌≤◌, Bool, true, false, true≢false, List, [], ◌∷◌, refl, sym, ap, ◌∙◌, subst, arith, eqb-true, eq-eqb}
use Rattle.std.specs.Prelude.{◌&&◌, nat_eq}
use Rattle.std.specs.Cmp.Lexicographic.{pointwise}
use Rattle.std.specs.List.{AllByRecursion}
use Rattle.hv_dirs.specs.declared.names.DirName.{DirName}
use Rattle.hv_dirs.specs.declared.names.DirName.TheVariants as dir
use Rattle.hv_book.specs.Past.{total, only_if}
use Rattle.hv_law_made.proofs.NamedLemmas.{same-text, text-same}
use Rattle.hv_law_visible.specs.Members.{IsIn}
use Rattle.hv_meta.proofs.FactLemmas.{and-left, and-right, and-both}
use Rattle.hv_job_acts.specs.Covering.{same_flag, same_name}

-- ---- the same name

same-flag : (d e : Bool) → same_flag d e ≡ true → d ≡ e
same-flag true true is = refl
same-flag true false is = absurd (true≢false (sym is))
same-flag false true is = absurd (true≢false (sym is))
same-flag false false is = refl

flag-same : (d : Bool) → same_flag d d ≡ true
flag-same true = refl
flag-same false = refl

name-is : (a b : DirName) → same_name a b ≡ true → a ≡ b
name-is (dir.Base a) (dir.Base b) is = λ i. dir.Base (record { 0 = eqb-true a.0 b.0 is i })
name-is (dir.Base a) (dir.Own e v t) is = absurd (true≢false (sym is))
name-is (dir.Base a) (dir.Wide e m k) is = absurd (true≢false (sym is))
name-is (dir.Base a) (dir.Staged k m) is = absurd (true≢false (sym is))
name-is (dir.Own d w s) (dir.Base b) is = absurd (true≢false (sym is))
name-is (dir.Own d w s) (dir.Own e v t) is =
    let rest = and-right (same_flag d e) ((w.0 == v.0) && (s == t)) is in
    let flags = same-flag d e (and-left (same_flag d e) ((w.0 == v.0) && (s == t)) is) in
    let writes = eqb-true w.0 v.0 (and-left (w.0 == v.0) (s == t) rest) in
    let statements = eqb-true s t (and-right (w.0 == v.0) (s == t) rest) in
    λ i. dir.Own (flags i) (record { 0 = writes i }) (statements i)
name-is (dir.Own d w s) (dir.Wide e m k) is = absurd (true≢false (sym is))
name-is (dir.Own d w s) (dir.Staged k m) is = absurd (true≢false (sym is))
name-is (dir.Wide d l h) (dir.Base b) is = absurd (true≢false (sym is))
name-is (dir.Wide d l h) (dir.Own e v t) is = absurd (true≢false (sym is))
name-is (dir.Wide d l h) (dir.Wide e m k) is =
    let rest = and-right (same_flag d e) ((l.0 == m.0) && (h.0 == k.0)) is in
    let flags = same-flag d e (and-left (same_flag d e) ((l.0 == m.0) && (h.0 == k.0)) is) in
    let lows = eqb-true l.0 m.0 (and-left (l.0 == m.0) (h.0 == k.0) rest) in
    let highs = eqb-true h.0 k.0 (and-right (l.0 == m.0) (h.0 == k.0) rest) in
    λ i. dir.Wide (flags i) (record { 0 = lows i }) (record { 0 = highs i })
name-is (dir.Wide d l h) (dir.Staged k m) is = absurd (true≢false (sym is))
name-is (dir.Staged j n) (dir.Base b) is = absurd (true≢false (sym is))
name-is (dir.Staged j n) (dir.Own e v t) is = absurd (true≢false (sym is))
name-is (dir.Staged j n) (dir.Wide e m k) is = absurd (true≢false (sym is))
name-is (dir.Staged j n) (dir.Staged k m) is =
    let jobs = eqb-true j.0 k.0 (and-left (j.0 == k.0) (pointwise nat_eq n m) is) in
    let names = same-text n m (and-right (j.0 == k.0) (pointwise nat_eq n m) is) in
    λ i. dir.Staged (record { 0 = jobs i }) (names i)

name-same : (a : DirName) → same_name a a ≡ true
name-same (dir.Base a) = eq-eqb a.0 a.0 refl
name-same (dir.Own d w s) = and-both (same_flag d d) ((w.0 == w.0) && (s == s)) (flag-same d) (and-both (w.0 == w.0) (s == s) (eq-eqb w.0 w.0 refl) (eq-eqb s s refl))
name-same (dir.Wide d l h) =
    and-both (same_flag d d) ((l.0 == l.0) && (h.0 == h.0)) (flag-same d) (and-both (l.0 == l.0) (h.0 == h.0) (eq-eqb l.0 l.0 refl) (eq-eqb h.0 h.0 refl))
name-same (dir.Staged j n) = and-both (j.0 == j.0) (pointwise nat_eq n n) (eq-eqb j.0 j.0 refl) (text-same n n refl)

-- ---- how often it stands there

abbrev weight_of : DirName → DirName → ℕ
weight_of name other = only_if (same_name name other) 1

some-weight : (name other : DirName) → other ≡ name → weight_of name other ≡ 1
some-weight name other is = ap (λ c. only_if c 1) (ap (same_name name) is ∙ name-same name)

weight-some : (b : Bool) (rest : ℕ) → 1 ≤ only_if b 1 + rest → (b ≡ true) ⊎ (1 ≤ rest)
weight-some true rest some = inl refl
weight-some false rest some =
    let more : 1 ≤ 0 + rest = some in
    inr (omega (arith, more))

stands-weighs : (name : DirName) (names : List DirName) → IsIn name names → 1 ≤ total (weight_of name) names
stands-weighs name [] is = absurd is
stands-weighs name (x ∷ xs) (inl is) = let one : weight_of name x ≡ 1 = some-weight name x is in omega (arith, one)
stands-weighs name (x ∷ xs) (inr is) = let rest : 1 ≤ total (weight_of name) xs = stands-weighs name xs is in omega (arith, rest)

-- it is this one, or it stands among the others
found-or : (name x : DirName) (xs : List DirName) → (1 ≤ total (weight_of name) xs → IsIn name xs)
    → (same_name name x ≡ true) ⊎ (1 ≤ total (weight_of name) xs) → (x ≡ name) ⊎ IsIn name xs
found-or name x xs rest (inl is) = inl (sym (name-is name x is))
found-or name x xs rest (inr some) = inr (rest some)

weighs-stands : (name : DirName) (names : List DirName) → 1 ≤ total (weight_of name) names → IsIn name names
weighs-stands name [] some = absurd (omega (arith, some))
weighs-stands name (x ∷ xs) some =
    found-or name x xs (weighs-stands name xs) (weight-some (same_name name x) (total (weight_of name) xs) some)

-- names with the same weights are the same
pub same-members : (xs ys : List DirName) → ((weight : DirName → ℕ) → total weight xs ≡ total weight ys) → (name : DirName) → IsIn name ys → IsIn name xs
same-members xs ys same name is =
    let there : 1 ≤ total (weight_of name) ys = stands-weighs name ys is in
    let weighs : total (weight_of name) xs ≡ total (weight_of name) ys = same (weight_of name) in
    weighs-stands name xs (omega (arith, there, weighs))

pub all-in : (P : DirName → Type 0) (names : List DirName) → AllByRecursion P names → (name : DirName) → IsIn name names → P name
all-in P [] all name is = absurd is
all-in P (x ∷ xs) all name (inl is) = subst P is all.0
all-in P (x ∷ xs) all name (inr is) = all-in P xs all.1 name is

pub in-all : (P : DirName → Type 0) (names : List DirName) → ((name : DirName) → IsIn name names → P name) → AllByRecursion P names
in-all P [] each = tt
in-all P (x ∷ xs) each = (each x (inl refl), in-all P xs (λ name is. each name (inr is)))

-- what holds of each of them holds of each of the others
pub all-same : (P : DirName → Type 0) (xs ys : List DirName) → ((weight : DirName → ℕ) → total weight xs ≡ total weight ys)
    → AllByRecursion P xs → AllByRecursion P ys
all-same P xs ys same all = in-all P ys (λ name is. all-in P xs all name (same-members xs ys same name is))
