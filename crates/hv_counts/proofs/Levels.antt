-- What first differs, one after another and by sums.
use Rattle.std.proofs.Common.{◌≡◌, ℕ, suc, ◌+◌, ◌<◌, ◌≤◌, Bool, true, false, Option, Some, None, List, [], ◌∷◌, length, drop, get_or, refl, sym, ap, ◌∙◌, subst, arith, true≢false, ltb, ltb-true, ltb-false, drop-cons, Bor}
use Rattle.std.specs.Prelude.{if◌then◌else◌, ◌==◌, ◌&&◌, nat_eq, not, is_some, IfSome}
use Rattle.std.specs.Option.{option_copied}
use Rattle.std.specs.declared.cmp.Ordering.{Ordering}
use Rattle.std.specs.declared.cmp.Ordering.TheVariants.{Less, Equal, Greater}
use Rattle.std.specs.Ordering.{MatchOrdering, nat_cmp, is_eq, is_lt, ordering_then, ordering_reverse}
use Rattle.std.specs.Cmp.{unsigned_ties, tied_then, ranks}
use Rattle.std.specs.Cmp.Lexicographic.{slice_cmp, pointwise, texts_ties, nat_list_cmp_total}
use Rattle.std.specs.List.{AllByRecursion}
use Rattle.std.proofs.lemmas.Bool.{eq-eqb, eqb-true, and_parts}
use Rattle.std.proofs.lemmas.List.{drop_all}
use Rattle.hv_base.proofs.SortingLaws.{Rises, Leads}
use Rattle.hv_stands.proofs.FileRecords.{tied}
use Rattle.hv_book.proofs.OpenedLaws.{only-none as only-nothing}
use Rattle.hv_counts.specs.declared.tally.Tally.{Tally}
use Rattle.hv_book.specs.Past.{total, only_if}
use Rattle.hv_counts.specs.Tallies.{key_cmp, key_total, tally_cmp, is_tally, stored_part, due_part, ends, head_of, first_off}

-- ---- the one behind

pub looked : (xs : List Tally) (n : ℕ) (o : Option (Bor Tally)) → is_some o ≡ ltb n (length xs) → IfSome o (λ x. x.now ≡ get_or xs n x.now)
    → option_copied o ≡ head_of (drop n xs)
looked xs n None there same = ap head_of (sym (drop_all n xs (ltb-false n (length xs) (sym there))))
looked xs n (Some x) there same =
    let within : n < length xs = ltb-true n (length xs) (sym there) in
    ap (λ (t : Tally). Some t) same ∙ ap head_of (sym (drop-cons xs n x.now within))

pub front : (xs : List Tally) (n : ℕ) (t : Tally) → n < length xs → t ≡ get_or xs n t → drop n xs ≡ t ∷ drop (n + 1) xs
front xs n t within is =
    let next : suc n ≡ n + 1 = omega arith in
    drop-cons xs n t within ∙ (λ i. sym is i ∷ drop (next i) xs)

-- ---- one step

pub off-on : (s d : ℕ) (t : Tally) (more : List Tally) → ends t (head_of more) ≡ false → first_off s d (t ∷ more) ≡ first_off (s + t.stored) (d + t.due) more
off-on s d t more is =
    ap (λ b. if b then (if s + t.stored == d + t.due then first_off 0 0 more else Some t) else first_off (s + t.stored) (d + t.due) more) is

pub off-same : (s d : ℕ) (t : Tally) (more : List Tally) → ends t (head_of more) ≡ true → s + t.stored ≡ d + t.due → first_off s d (t ∷ more) ≡ first_off 0 0 more
off-same s d t more is same =
    ap (λ b. if b then (if s + t.stored == d + t.due then first_off 0 0 more else Some t) else first_off (s + t.stored) (d + t.due) more) is
    ∙ ap (λ b. if b then first_off 0 0 more else Some t) (eq-eqb (s + t.stored) (d + t.due) same)

-- ---- texts and keys

pub text-of : (a b : List ℕ) → pointwise nat_eq a b ≡ true → a ≡ b
text-of [] [] e = refl
text-of [] (y ∷ ys) e = cc
text-of (x ∷ xs) [] e = cc
text-of (x ∷ xs) (y ∷ ys) e =
    let p = and_parts (nat_eq x y) (pointwise nat_eq xs ys) e in
    λ i. eqb-true x y p.0 i ∷ text-of xs ys p.1 i

pub of-text : (a : List ℕ) → pointwise nat_eq a a ≡ true
of-text a = texts_ties a a ∙ ap is_eq (tied (slice_cmp nat_cmp a a) (nat_list_cmp_total.antisymm a a))

-- those that stand beside each other are of one write id and partition
keys : (write : ℕ) (partition : List ℕ) (t : Tally) → is_tally write partition t ≡ true → (t.write ≡ write) × (t.partition ≡ partition)
keys write partition t is =
    let both = and_parts (t.write == write) (pointwise nat_eq t.partition partition) is in
    (eqb-true t.write write both.0, text-of t.partition partition both.1)

beside : (write : ℕ) (partition : List ℕ) (t u : Tally) → is_tally t.write t.partition u ≡ true → is_tally write partition u ≡ is_tally write partition t
beside write partition t u is =
    let same = keys t.write t.partition u is in
    λ i. (same.0 i == write) && pointwise nat_eq (same.1 i) partition

itself : (t : Tally) → is_tally t.write t.partition t ≡ true
itself t = λ i. eq-eqb t.write t.write refl i && of-text t.partition i

tally-key : (t u : Tally) → is_tally t.write t.partition u ≡ is_eq (key_cmp u t)
tally-key t u =
    (λ i. unsigned_ties u.write t.write i && texts_ties u.partition t.partition i)
    ∙ tied_then (nat_cmp u.write t.write) (slice_cmp nat_cmp u.partition t.partition)

-- ---- by sums

only-more : (b : Bool) (m n k : ℕ) → only_if b m + (only_if b n + k) ≡ only_if b (m + n) + k
only-more true m n k = omega arith
only-more false m n k = omega arith

only-same : (b : Bool) (m n k j p q : ℕ) → m + n ≡ k + j → p ≡ q → only_if b m + (only_if b n + p) ≡ only_if b k + (only_if b j + q)
only-same true m n k j p q e f = omega (arith, e, f)
only-same false m n k j p q e f = omega (arith, f)

only-rest : (b : Bool) (m n k j p q : ℕ) → m + n ≡ k + j → only_if b m + (only_if b n + p) ≡ only_if b k + (only_if b j + q) → p ≡ q
only-rest true m n k j p q e f = omega (arith, e, f)
only-rest false m n k j p q e f = omega (arith, f)

only-these : (b : Bool) (m n k j p q : ℕ) → b ≡ true → p ≡ 0 → q ≡ 0 → only_if b m + (only_if b n + p) ≡ only_if b k + (only_if b j + q) → m + n ≡ k + j
only-these true m n k j p q is e f g = omega (arith, e, f, g)
only-these false m n k j p q is e f g = cc

-- what was counted before belongs to those of the first one's write id and partition
abbrev IsLevel : ℕ → ℕ → ℕ → List ℕ → Tally → List Tally → Type 0
IsLevel s d write partition t more =
    only_if (is_tally write partition t) s + total (stored_part write partition) (t ∷ more)
    ≡ only_if (is_tally write partition t) d + total (due_part write partition) (t ∷ more)

level-on : (s d : ℕ) (write : ℕ) (partition : List ℕ) (t u : Tally) (us : List Tally) → is_tally t.write t.partition u ≡ true
    → IsLevel (s + t.stored) (d + t.due) write partition u us → IsLevel s d write partition t (u ∷ us)
level-on s d write partition t u us is rest =
    let same = beside write partition t u is in
    only-more (is_tally write partition t) s t.stored (total (stored_part write partition) (u ∷ us))
    ∙ ap (λ b. only_if b (s + t.stored) + total (stored_part write partition) (u ∷ us)) (sym same)
    ∙ rest
    ∙ ap (λ b. only_if b (d + t.due) + total (due_part write partition) (u ∷ us)) same
    ∙ sym (only-more (is_tally write partition t) d t.due (total (due_part write partition) (u ∷ us)))

level-back : (s d : ℕ) (write : ℕ) (partition : List ℕ) (t u : Tally) (us : List Tally) → is_tally t.write t.partition u ≡ true
    → IsLevel s d write partition t (u ∷ us) → IsLevel (s + t.stored) (d + t.due) write partition u us
level-back s d write partition t u us is level =
    let same = beside write partition t u is in
    ap (λ b. only_if b (s + t.stored) + total (stored_part write partition) (u ∷ us)) same
    ∙ sym (only-more (is_tally write partition t) s t.stored (total (stored_part write partition) (u ∷ us)))
    ∙ level
    ∙ only-more (is_tally write partition t) d t.due (total (due_part write partition) (u ∷ us))
    ∙ ap (λ b. only_if b (d + t.due) + total (due_part write partition) (u ∷ us)) (sym same)

level-start : (write : ℕ) (partition : List ℕ) (u : Tally) (us : List Tally) → IsLevel 0 0 write partition u us
    → total (stored_part write partition) (u ∷ us) ≡ total (due_part write partition) (u ∷ us)
level-start write partition u us level = let nothing = only-nothing (is_tally write partition u) in omega (arith, level, nothing)

start-level : (write : ℕ) (partition : List ℕ) (u : Tally) (us : List Tally)
    → total (stored_part write partition) (u ∷ us) ≡ total (due_part write partition) (u ∷ us) → IsLevel 0 0 write partition u us
start-level write partition u us same = let nothing = only-nothing (is_tally write partition u) in omega (arith, same, nothing)

abbrev Levels : ℕ → List ℕ → Tally → List Tally → ℕ → ℕ → Type 0
Levels write partition u us m n = first_off m n (u ∷ us) ≡ None → IsLevel m n write partition u us

-- where none differs, all have the same sums
none-from : (s d : ℕ) (t : Tally) (more : List Tally) → first_off s d (t ∷ more) ≡ None → (write : ℕ) (partition : List ℕ) → IsLevel s d write partition t more
none-from s d t [] none write partition = by (s + t.stored == d + t.due) refl none
  where
    by : (b : Bool) → (s + t.stored == d + t.due) ≡ b → (if b then None else Some t) ≡ None → IsLevel s d write partition t []
    by true is e = only-same (is_tally write partition t) s t.stored d t.due 0 0 (eqb-true (s + t.stored) (d + t.due) is) refl
    by false is e = cc
none-from s d t (u ∷ us) none write partition =
    by (is_tally t.write t.partition u) refl none (λ e. none-from (s + t.stored) (d + t.due) u us e write partition) (λ e. none-from 0 0 u us e write partition)
  where
    so : (b : Bool) → (s + t.stored == d + t.due) ≡ b → (if b then first_off 0 0 (u ∷ us) else Some t) ≡ None → Levels write partition u us 0 0 → IsLevel s d write partition t (u ∷ us)
    so true equal f rest =
        only-same (is_tally write partition t) s t.stored d t.due (total (stored_part write partition) (u ∷ us)) (total (due_part write partition) (u ∷ us))
        (eqb-true (s + t.stored) (d + t.due) equal) (level-start write partition u us (rest f))
    so false equal f rest = cc

    by : (b : Bool) → is_tally t.write t.partition u ≡ b
        → (if not b then (if s + t.stored == d + t.due then first_off 0 0 (u ∷ us) else Some t) else first_off (s + t.stored) (d + t.due) (u ∷ us)) ≡ None
        → Levels write partition u us (s + t.stored) (d + t.due) → Levels write partition u us 0 0 → IsLevel s d write partition t (u ∷ us)
    by true is e on anew = level-on s d write partition t u us is (on e)
    by false is e on anew = so (s + t.stored == d + t.due) refl e anew

pub none-off : (ts : List Tally) → first_off 0 0 ts ≡ None → (write : ℕ) (partition : List ℕ)
    → total (stored_part write partition) ts ≡ total (due_part write partition) ts
none-off [] none write partition = refl
none-off (t ∷ more) none write partition = level-start write partition t more (none-from 0 0 t more none write partition)

-- ---- those of one write id and partition stand beside each other

leads-key : (o p : Ordering) → is_lt (ordering_then o p) ≡ false → is_lt o ≡ false
leads-key Less p e = e
leads-key Equal p e = refl
leads-key Greater p e = refl

not-tied : (o : Ordering) → is_lt o ≡ false → is_eq o ≡ false → o ≡ Greater
not-tied Less e f = cc
not-tied Equal e f = cc
not-tied Greater e f = refl

-- one that isn't before u isn't of an earlier one's write id and partition, where u isn't either
apart : (t u v : Tally) → is_lt (tally_cmp u t) ≡ false → is_lt (tally_cmp v u) ≡ false → is_tally t.write t.partition u ≡ false → is_tally t.write t.partition v ≡ false
unfolding tally_cmp
apart t u v above behind other =
    tally-key t v ∙ by (key_cmp v u) refl (leads-key (key_cmp v u) (nat_cmp v.file u.file) behind)
  where
    greater : key_cmp u t ≡ Greater
    greater = not-tied (key_cmp u t) (leads-key (key_cmp u t) (nat_cmp u.file t.file) above) (sym (tally-key t u) ∙ other)

    less : key_cmp t u ≡ Less
    less = key_total.antisymm t u ∙ ap ordering_reverse greater

    by : (o : Ordering) → key_cmp v u ≡ o → is_lt o ≡ false → is_eq (key_cmp v t) ≡ false
    by Less is e = cc
    by Equal is e = ap is_eq (key_total.congr v u t is ∙ greater)
    by Greater is e =
        let before : key_cmp u v ≡ Less = key_total.antisymm u v ∙ ap ordering_reverse is in
        ap is_eq (key_total.antisymm v t ∙ ap ordering_reverse (key_total.trans t u v less before))

all-apart : (t u : Tally) (us : List Tally) → Rises tally_cmp (t ∷ u ∷ us) → is_tally t.write t.partition u ≡ false
    → AllByRecursion (λ (v : Tally). is_tally t.write t.partition v ≡ false) (u ∷ us)
all-apart t u us rise other = (other, behind us rise.1.0)
  where
    behind : (vs : List Tally) → Leads tally_cmp u vs → AllByRecursion (λ (v : Tally). is_tally t.write t.partition v ≡ false) vs
    behind [] h = tt
    behind (v ∷ vs) h = (apart t u v rise.0.0 h.0 other, behind vs h.1)

none-of : (part : Tally → ℕ) (write : ℕ) (partition : List ℕ) (vs : List Tally) → AllByRecursion (λ (v : Tally). is_tally write partition v ≡ false) vs
    → total (λ (v : Tally). only_if (is_tally write partition v) (part v)) vs ≡ 0
none-of part write partition [] h = refl
none-of part write partition (v ∷ vs) h =
    let first : only_if (is_tally write partition v) (part v) ≡ 0 = ap (λ b. only_if b (part v)) h.0 in
    omega (arith, first, none-of part write partition vs h.1)

-- ---- the one that is found

-- it is among them
pub found-among : (P : Tally → Type 0) (s d : ℕ) (ts : List Tally) (x : Tally) → first_off s d ts ≡ Some x → AllByRecursion P ts → P x
found-among P s d [] x found all = cc
found-among P s d (t ∷ more) x found all =
    by (ends t (head_of more)) (s + t.stored == d + t.due) found (λ m n e. found-among P m n more x e all.1)
  where
    by : (b c : Bool) → (if b then (if c then first_off 0 0 more else Some t) else first_off (s + t.stored) (d + t.due) more) ≡ Some x
        → ((m n : ℕ) → first_off m n more ≡ Some x → P x) → P x
    by true true e rest = rest 0 0 e
    by true false e rest = let same : t ≡ x = cc in subst P same all.0
    by false c e rest = rest (s + t.stored) (d + t.due) e

abbrev Differs : Tally → Tally → List Tally → ℕ → ℕ → Type 0
Differs x u us m n = first_off m n (u ∷ us) ≡ Some x → IsLevel m n x.write x.partition u us → ⊥

-- its sums differ
some-from : (s d : ℕ) (t : Tally) (more : List Tally) (x : Tally) → first_off s d (t ∷ more) ≡ Some x → Rises tally_cmp (t ∷ more)
    → IsLevel s d x.write x.partition t more → ⊥
some-from s d t [] x found rise = by (s + t.stored == d + t.due) refl found
  where
    by : (b : Bool) → (s + t.stored == d + t.due) ≡ b → (if b then None else Some t) ≡ Some x → IsLevel s d x.write x.partition t [] → ⊥
    by true is e = cc
    by false is e =
        let same : t ≡ x = cc in
        subst (λ (y : Tally). IsLevel s d y.write y.partition t [] → ⊥) same
        (λ level.
        let sums = only-these (is_tally t.write t.partition t) s t.stored d t.due 0 0 (itself t) refl refl level in
        let equal = eq-eqb (s + t.stored) (d + t.due) sums in
        cc)
some-from s d t (u ∷ us) x found rise =
    by (is_tally t.write t.partition u) refl found (λ e. some-from (s + t.stored) (d + t.due) u us x e rise.1) (λ e. some-from 0 0 u us x e rise.1)
  where
    so : (b : Bool) → (s + t.stored == d + t.due) ≡ b → is_tally t.write t.partition u ≡ false → (if b then first_off 0 0 (u ∷ us) else Some t) ≡ Some x → Differs x u us 0 0
        → IsLevel s d x.write x.partition t (u ∷ us) → ⊥
    so true equal other f rest =
        λ level.
        rest f
        (start-level x.write x.partition u us
        (only-rest (is_tally x.write x.partition t) s t.stored d t.due (total (stored_part x.write x.partition) (u ∷ us)) (total (due_part x.write x.partition) (u ∷ us))
        (eqb-true (s + t.stored) (d + t.due) equal) level))
    so false equal other f rest =
        let same : t ≡ x = cc in
        let none = all-apart t u us rise other in
        subst (λ (y : Tally). IsLevel s d y.write y.partition t (u ∷ us) → ⊥) same
        (λ level.
        let sums =
        only-these (is_tally t.write t.partition t) s t.stored d t.due (total (stored_part t.write t.partition) (u ∷ us)) (total (due_part t.write t.partition) (u ∷ us)) (itself t)
        (none-of (λ (v : Tally). v.stored) t.write t.partition (u ∷ us) none) (none-of (λ (v : Tally). v.due) t.write t.partition (u ∷ us) none) level
        in
        let equals = eq-eqb (s + t.stored) (d + t.due) sums in
        cc)

    by : (b : Bool) → is_tally t.write t.partition u ≡ b
        → (if not b then (if s + t.stored == d + t.due then first_off 0 0 (u ∷ us) else Some t) else first_off (s + t.stored) (d + t.due) (u ∷ us)) ≡ Some x
        → Differs x u us (s + t.stored) (d + t.due) → Differs x u us 0 0 → IsLevel s d x.write x.partition t (u ∷ us) → ⊥
    by true is e on anew = λ level. on e (level-back s d x.write x.partition t u us is level)
    by false is e on anew = so (s + t.stored == d + t.due) refl is e anew

pub some-off : (ts : List Tally) (x : Tally) → first_off 0 0 ts ≡ Some x → Rises tally_cmp ts
    → total (stored_part x.write x.partition) ts ≡ total (due_part x.write x.partition) ts → ⊥
some-off [] x found rise = cc
some-off (t ∷ more) x found rise = λ same. some-from 0 0 t more x found rise (start-level x.write x.partition t more same)

-- it is the last file of its write id and partition
abbrev pub IsUpTo : Tally → Tally → Type 0
IsUpTo x y = is_tally x.write x.partition y ≡ true → y.file ≤ x.file

not-below : (m n : ℕ) → is_lt (nat_cmp m n) ≡ false → n ≤ m
not-below m n e = by (nat_cmp m n) (ranks m n) e
  where
    by : (o : Ordering) → MatchOrdering o (m < n) (m ≡ n) (n < m) → is_lt o ≡ false → n ≤ m
    by Less h f = cc
    by Equal h f = omega (arith, h)
    by Greater h f = omega (arith, h)

up-to-behind : (x t : Tally) → is_lt (tally_cmp x t) ≡ false → IsUpTo x t
unfolding tally_cmp
up-to-behind x t behind is = not-below x.file t.file (by (key_cmp x t) key behind)
  where
    key : key_cmp x t ≡ Equal
    key = key_total.antisymm x t ∙ ap ordering_reverse (so (key_cmp t x) (sym (tally-key x t) ∙ is))
      where
        so : (o : Ordering) → is_eq o ≡ true → o ≡ Equal
        so Less e = cc
        so Equal e = refl
        so Greater e = cc

    by : (o : Ordering) → o ≡ Equal → is_lt (ordering_then o (nat_cmp x.file t.file)) ≡ false → is_lt (nat_cmp x.file t.file) ≡ false
    by Less e f = cc
    by Equal e f = f
    by Greater e f = cc

leads-all : (t : Tally) (more : List Tally) → Leads tally_cmp t more → AllByRecursion (λ (y : Tally). is_lt (tally_cmp y t) ≡ false) more
leads-all t [] h = tt
leads-all t (u ∷ more) h = (h.0, leads-all t more h.1)

never : (x : Tally) (vs : List Tally) → AllByRecursion (λ (v : Tally). is_tally x.write x.partition v ≡ false) vs → AllByRecursion (IsUpTo x) vs
never x [] h = tt
never x (v ∷ vs) h = (λ e. absurd (true≢false (sym e ∙ h.0)), never x vs h.1)

ends-apart : (t : Tally) (more : List Tally) → Rises tally_cmp (t ∷ more) → ends t (head_of more) ≡ true → AllByRecursion (IsUpTo t) more
ends-apart t [] rise is = tt
ends-apart t (u ∷ us) rise is = never t (u ∷ us) (all-apart t u us rise (so (is_tally t.write t.partition u) is))
  where
    so : (b : Bool) → not b ≡ true → b ≡ false
    so true e = cc
    so false e = refl

last-from : (s d : ℕ) (ts : List Tally) (x : Tally) → first_off s d ts ≡ Some x → Rises tally_cmp ts → AllByRecursion (IsUpTo x) ts
last-from s d [] x found rise = cc
last-from s d (t ∷ more) x found rise =
    by (ends t (head_of more)) refl (s + t.stored == d + t.due) found (λ m n e. last-from m n more x e rise.1)
  where
    behind : (m n : ℕ) → first_off m n more ≡ Some x → IsUpTo x t
    behind m n e = up-to-behind x t (found-among (λ (y : Tally). is_lt (tally_cmp y t) ≡ false) m n more x e (leads-all t more rise.0))

    by : (b : Bool) → ends t (head_of more) ≡ b → (c : Bool) → (if b then (if c then first_off 0 0 more else Some t) else first_off (s + t.stored) (d + t.due) more) ≡ Some x
        → ((m n : ℕ) → first_off m n more ≡ Some x → AllByRecursion (IsUpTo x) more) → AllByRecursion (IsUpTo x) (t ∷ more)
    by true is true e rest = (behind 0 0 e, rest 0 0 e)
    by true is false e rest =
        let same : t ≡ x = cc in
        subst (λ (y : Tally). AllByRecursion (IsUpTo y) (t ∷ more)) same (λ _. omega arith, ends-apart t more rise is)
    by false is c e rest = (behind (s + t.stored) (d + t.due) e, rest (s + t.stored) (d + t.due) e)

pub last-off : (ts : List Tally) (x : Tally) → first_off 0 0 ts ≡ Some x → Rises tally_cmp ts → AllByRecursion (IsUpTo x) ts
last-off ts x found rise = last-from 0 0 ts x found rise
