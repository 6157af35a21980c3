-- The sorted candidates are the deltas in their order, and their places those of what is taken.
use Rattle.std.proofs.Common.{refl, ◌≡◌, inl, inr, ℕ, suc, ◌+◌, ◌==◌, ◌<◌, ◌≤◌, nat_lt, Bool, true, false, cond, ◌&&◌, Option, Some, None, Result, Ok, Err, ◌-◌, max, List, [], ◌∷◌, map, slice_get, sym, ap, ◌∙◌, subst, arith, IsPermutation, IsSorted, add-zero, zero-add, lt-ltb, le-ltb}
use Rattle.std.specs.declared.cmp.Ordering.{Ordering}
use Rattle.std.specs.declared.cmp.Ordering.TheVariants.{Less, Equal, Greater}
use Rattle.std.specs.Ordering.{MatchOrdering, nat_cmp, is_lt, ordering_then}
use Rattle.std.specs.Cmp.{IsTotalOrder, nat_cmp_total, on_total, then_total}
use Rattle.std.specs.FinMap.{IsAntisymmetric}
use Rattle.std.specs.List.{All, cons_option, list_any}
use Rattle.std.specs.Result.{IfOk}
use Rattle.std.proofs.lemmas.Bool.{false_from_ne_true, cases_lt}
use Rattle.std.specs.Option.{option_and_then}
use Rattle.std.proofs.lemmas.Cmp.{ranked, back_total}
use Rattle.std.proofs.lemmas.List.Elements.{All-nil, All-cons, All-head, All-tail}
use Rattle.std.proofs.lemmas.List.Sorted.{IsPermutation-sym, IsPermutation-trans, IsPermutation-map, All-permutation}
use Rattle.hv_dirs.specs.declared.candidate.Candidate.{Candidate}
use Rattle.hv_dirs.specs.declared.names.DirName.{DirName}
use Rattle.hv_dirs.specs.declared.names.DirName.TheVariants as dir
use Rattle.hv_dirs.specs.Names.{IsName}
use Rattle.hv_base.specs.Sorting.{sorted_by}
use Rattle.hv_wids.specs.declared.list.Range.{Range}
use Rattle.hv_wids.specs.declared.list.Range.TheVariants as range
use Rattle.hv_wids.specs.WriteIds.{WriteIds, is_valid, ids_between, IsRangeOf}
use Rattle.hv_wids.proofs.RangeLemmas.{some_between, none_between}
use Rattle.hv_dirs.specs.Choice.{Sight, base_of, base_named, bases_in, base_at, IsBaseAt, IsChosen, Delta, Own, Wide, low_of, high_of, is_own, rank_of, statement_of, delta_cmp, taken_from, chosen_above, of_kind, delta_named, deltas_in, delta_at, AreAt}
use Rattle.hv_dirs.specs.Candidates.{candidate_cmp, candidate_total, delta_of, IsProper, of_same, candidates_from, places_from, better, best_from}
use Rattle.hv_base.proofs.SortingLaws.{Leads, Rises, rises_from, rises-permuted, permuted-sorted_by, sorted-sorted_by}

-- ---- the order of deltas

pub delta_total : IsTotalOrder delta_cmp
delta_total =
    then_total (on_total low_of nat_cmp_total)
    (then_total (on_total high_of (back_total nat_cmp_total)) (then_total (on_total rank_of nat_cmp_total) (on_total statement_of nat_cmp_total)))

nat-same-by : (a b : ℕ) (o : Ordering) → MatchOrdering o (a < b) (a ≡ b) (b < a) → o ≡ Equal → a ≡ b
nat-same-by a b Less m e = cc
nat-same-by a b Equal m e = m
nat-same-by a b Greater m e = cc

nat-same : (a b : ℕ) → nat_cmp a b ≡ Equal → a ≡ b
nat-same a b e = nat-same-by a b (nat_cmp a b) (ranked a b (nat_cmp a b) refl) e

both-equal : (a b : Ordering) → ordering_then a b ≡ Equal → (a ≡ Equal) × (b ≡ Equal)
both-equal Less b e = cc
both-equal Equal b e = (refl, e)
both-equal Greater b e = cc

delta-same : (x y : Delta) → low_of x ≡ low_of y → high_of x ≡ high_of y → rank_of x ≡ rank_of y → statement_of x ≡ statement_of y → x ≡ y
delta-same (Own a b) (Own c d) l h r s = λ i. Own (l i) (s i)
delta-same (Wide a b) (Wide c d) l h r s = λ i. Wide (l i) (h i)
delta-same (Own a b) (Wide c d) l h r s = absurd (let e : ◌≡◌ {A = ℕ} 1 0 = r in omega arith)
delta-same (Wide a b) (Own c d) l h r s = absurd (let e : ◌≡◌ {A = ℕ} 0 1 = r in omega arith)

pub delta-tied : IsAntisymmetric delta_cmp
delta-tied x y e =
    let one = both-equal (nat_cmp (low_of x) (low_of y)) (ordering_then (nat_cmp (high_of y) (high_of x)) (ordering_then (nat_cmp (rank_of x) (rank_of y)) (nat_cmp (statement_of x) (statement_of y)))) e in
    let two = both-equal (nat_cmp (high_of y) (high_of x)) (ordering_then (nat_cmp (rank_of x) (rank_of y)) (nat_cmp (statement_of x) (statement_of y))) one.1 in
    let three = both-equal (nat_cmp (rank_of x) (rank_of y)) (nat_cmp (statement_of x) (statement_of y)) two.1 in
    delta-same x y (nat-same (low_of x) (low_of y) one.0) (sym (nat-same (high_of y) (high_of x) two.0))
    (nat-same (rank_of x) (rank_of y) three.0) (nat-same (statement_of x) (statement_of y) three.1)

-- ---- candidates in their order are deltas in theirs

cut : (a r s : Ordering) → (is_lt r ≡ false → is_lt s ≡ false) → is_lt (ordering_then a r) ≡ false → is_lt (ordering_then a s) ≡ false
cut Less r s h e = e
cut Equal r s h e = h e
cut Greater r s h e = refl

cut-end : (a r : Ordering) → is_lt (ordering_then a r) ≡ false → is_lt a ≡ false
cut-end Less r e = e
cut-end Equal r e = refl
cut-end Greater r e = refl

not-before : (x y : Candidate) → IsProper x → IsProper y → is_lt (candidate_cmp x y) ≡ false → is_lt (delta_cmp (delta_of x) (delta_of y)) ≡ false
unfolding candidate_cmp
not-before x y p q e =
    let fewer : is_lt (ordering_then (nat_cmp x.low y.low) (ordering_then (nat_cmp y.high x.high) (ordering_then (nat_cmp x.rank y.rank) (nat_cmp x.statement y.statement)))) ≡ false =
    cut (nat_cmp x.low y.low) _ _
    (cut (nat_cmp y.high x.high) _ _
    (cut (nat_cmp x.rank y.rank) (ordering_then (nat_cmp x.statement y.statement) (nat_cmp x.place y.place)) (nat_cmp x.statement y.statement)
    (cut-end (nat_cmp x.statement y.statement) (nat_cmp x.place y.place)))) e in
    sym (λ i. is_lt (ordering_then (nat_cmp (p.low_is i) (q.low_is i)) (ordering_then (nat_cmp (q.high_is i) (p.high_is i))
    (ordering_then (nat_cmp (p.rank_is i) (q.rank_is i)) (nat_cmp (p.statement_is i) (q.statement_is i)))))) ∙ fewer

leads-deltas : (c : Candidate) (cs : List Candidate) → IsProper c → All IsProper cs → Leads candidate_cmp c cs → Leads delta_cmp (delta_of c) (map delta_of cs)
leads-deltas c [] p all up = tt
leads-deltas c (d ∷ cs) p all up =
    (not-before d c (All-head IsProper d cs all) p up.0, leads-deltas c cs p (All-tail IsProper d cs all) up.1)

rises-deltas : (cs : List Candidate) → All IsProper cs → Rises candidate_cmp cs → Rises delta_cmp (map delta_of cs)
rises-deltas [] all up = tt
rises-deltas (c ∷ cs) all up =
    (leads-deltas c cs (All-head IsProper c cs all) (All-tail IsProper c cs all) up.0, rises-deltas cs (All-tail IsProper c cs all) up.1)

-- ---- the candidates among names

with-delta : (deletes kind : Bool) (c : Candidate) (d : Delta) (cs : List Candidate) (ds : List Delta) → delta_of c ≡ d → map delta_of cs ≡ ds
    → map delta_of (cons_option (of_same deletes kind c) cs) ≡ cons_option (of_kind deletes kind d) ds
with-delta true true c d cs ds e h = λ i. e i ∷ h i
with-delta false false c d cs ds e h = λ i. e i ∷ h i
with-delta true false c d cs ds e h = h
with-delta false true c d cs ds e h = h

candidates-deltas : (deletes : Bool) (n : ℕ) (names : List DirName) → map delta_of (candidates_from deletes n names) ≡ deltas_in deletes names
candidates-deltas deletes n [] = refl
candidates-deltas deletes n (dir.Base high ∷ names) = candidates-deltas deletes (n + 1) names
candidates-deltas deletes n (dir.Own kind write statement ∷ names) =
    with-delta deletes kind _ (Own write.0 statement) (candidates_from deletes (n + 1) names) (deltas_in deletes names) refl (candidates-deltas deletes (n + 1) names)
candidates-deltas deletes n (dir.Wide kind low high ∷ names) =
    with-delta deletes kind _ (Wide low.0 high.0) (candidates_from deletes (n + 1) names) (deltas_in deletes names) refl (candidates-deltas deletes (n + 1) names)
candidates-deltas deletes n (dir.Staged job name ∷ names) = candidates-deltas deletes (n + 1) names

with-one : (P : Candidate → Type 0) (deletes kind : Bool) (c : Candidate) (cs : List Candidate) → P c → All P cs → All P (cons_option (of_same deletes kind c) cs)
with-one P true true c cs p all = All-cons P c cs p all
with-one P false false c cs p all = All-cons P c cs p all
with-one P true false c cs p all = all
with-one P false true c cs p all = all

candidates-proper : (deletes : Bool) (n : ℕ) (names : List DirName) → All IsName names → All IsProper (candidates_from deletes n names)
candidates-proper deletes n [] all = All-nil IsProper
candidates-proper deletes n (dir.Base high ∷ names) all = candidates-proper deletes (n + 1) names (All-tail IsName (dir.Base high) names all)
candidates-proper deletes n (dir.Own kind write statement ∷ names) all =
    with-one IsProper deletes kind _ (candidates_from deletes (n + 1) names)
    (record { order = omega arith; low_is = refl; high_is = refl; rank_is = refl; statement_is = refl })
    (candidates-proper deletes (n + 1) names (All-tail IsName (dir.Own kind write statement) names all))
candidates-proper deletes n (dir.Wide kind low high ∷ names) all =
    with-one IsProper deletes kind _ (candidates_from deletes (n + 1) names)
    (record { order = (All-head IsName (dir.Wide kind low high) names all).1; low_is = refl; high_is = refl; rank_is = refl; statement_is = refl })
    (candidates-proper deletes (n + 1) names (All-tail IsName (dir.Wide kind low high) names all))
candidates-proper deletes n (dir.Staged job name ∷ names) all = candidates-proper deletes (n + 1) names (All-tail IsName (dir.Staged job name) names all)

-- the name of a candidate stands at its place
IsAtPlace : Bool → List DirName → Candidate → Type 0
IsAtPlace deletes dirs c = delta_at deletes dirs c.place ≡ Some (delta_of c)

with-place : (dirs : List DirName) (name : DirName) (deletes kind : Bool) (c : Candidate) (cs : List Candidate)
    → slice_get dirs c.place ≡ Some name → delta_named deletes name ≡ of_kind deletes kind (delta_of c)
    → All (IsAtPlace deletes dirs) cs → All (IsAtPlace deletes dirs) (cons_option (of_same deletes kind c) cs)
unfolding IsAtPlace
with-place dirs name true true c cs at is all = All-cons (IsAtPlace true dirs) c cs (ap (option_and_then (delta_named true)) at ∙ is) all
with-place dirs name false false c cs at is all = All-cons (IsAtPlace false dirs) c cs (ap (option_and_then (delta_named false)) at ∙ is) all
with-place dirs name true false c cs at is all = all
with-place dirs name false true c cs at is all = all

Continues : List DirName → ℕ → List DirName → Type 0
Continues dirs n names = (k : ℕ) → slice_get dirs (n + k) ≡ slice_get names k

continues-more : (dirs : List DirName) (n : ℕ) (name : DirName) (names : List DirName) → Continues dirs n (name ∷ names) → Continues dirs (n + 1) names
unfolding Continues
continues-more dirs n name names h k = let e : n + 1 + k ≡ n + suc k = omega arith in ap (slice_get dirs) e ∙ h (suc k)

continues-here : (dirs : List DirName) (n : ℕ) (name : DirName) (names : List DirName) → Continues dirs n (name ∷ names) → slice_get dirs n ≡ Some name
unfolding Continues
continues-here dirs n name names h = ap (slice_get dirs) (sym (add-zero n)) ∙ h 0

candidates-at : (deletes : Bool) (dirs : List DirName) (n : ℕ) (names : List DirName) → Continues dirs n names → All (IsAtPlace deletes dirs) (candidates_from deletes n names)
candidates-at deletes dirs n [] h = All-nil (IsAtPlace deletes dirs)
candidates-at deletes dirs n (dir.Base high ∷ names) h = candidates-at deletes dirs (n + 1) names (continues-more dirs n (dir.Base high) names h)
candidates-at deletes dirs n (dir.Own kind write statement ∷ names) h =
    with-place dirs (dir.Own kind write statement) deletes kind _ (candidates_from deletes (n + 1) names)
    (continues-here dirs n (dir.Own kind write statement) names h) refl
    (candidates-at deletes dirs (n + 1) names (continues-more dirs n (dir.Own kind write statement) names h))
candidates-at deletes dirs n (dir.Wide kind low high ∷ names) h =
    with-place dirs (dir.Wide kind low high) deletes kind _ (candidates_from deletes (n + 1) names)
    (continues-here dirs n (dir.Wide kind low high) names h) refl
    (candidates-at deletes dirs (n + 1) names (continues-more dirs n (dir.Wide kind low high) names h))
candidates-at deletes dirs n (dir.Staged job name ∷ names) h = candidates-at deletes dirs (n + 1) names (continues-more dirs n (dir.Staged job name) names h)

-- ---- the places of what is taken

module _ (deletes : Bool) (dirs : List DirName) (sight : Sight) where
  place-step : (a b t : Bool) (place : ℕ) (d : Delta) (over under : List ℕ) (overs unders : List Delta) → delta_at deletes dirs place ≡ Some d
      → map (delta_at deletes dirs) over ≡ map Some overs → map (delta_at deletes dirs) under ≡ map Some unders
      → map (delta_at deletes dirs) (cond a (cond b (place ∷ over) (cond t (place ∷ under) under)) under)
      ≡ map Some (cond a (cond b (d ∷ overs) (cond t (d ∷ unders) unders)) unders)
  place-step false b t place d over under overs unders at h k = k
  place-step true true t place d over under overs unders at h k = λ i. at i ∷ h i
  place-step true false true place d over under overs unders at h k = λ i. at i ∷ k i
  place-step true false false place d over under overs unders at h k = k

  own-rank : (d : Delta) → (rank_of d == 1) ≡ is_own d
  own-rank (Own write statement) = refl
  own-rank (Wide low high) = refl

  places-at : (top : ℕ) (own : Bool) (cs : List Candidate) → All IsProper cs → All (IsAtPlace deletes dirs) cs
      → map (delta_at deletes dirs) (places_from sight top own cs) ≡ map Some (taken_from sight top own (map delta_of cs))
  unfolding IsAtPlace
  places-at top own [] proper at = refl
  places-at top own (c ∷ cs) proper at =
      let p = All-head IsProper c cs proper in
      let mine : (c.rank == 1) ≡ is_own (delta_of c) = ap (λ r. r == 1) p.rank_is ∙ own-rank (delta_of c) in
      let ds = map delta_of cs in
      place-step (sight.has_some c.low c.high) (nat_lt top c.high) (own && (c.low == top && c.high == top)) c.place (delta_of c)
      (places_from sight c.high (c.rank == 1) cs) (places_from sight top own cs) (taken_from sight c.high (c.rank == 1) ds) (taken_from sight top own ds)
      (All-head (IsAtPlace deletes dirs) c cs at)
      (places-at c.high (c.rank == 1) cs (All-tail IsProper c cs proper) (All-tail (IsAtPlace deletes dirs) c cs at))
      (places-at top own cs (All-tail IsProper c cs proper) (All-tail (IsAtPlace deletes dirs) c cs at))
      ∙ (λ i. map Some (cond (sight.has_some (p.low_is i) (p.high_is i))
      (cond (nat_lt top (p.high_is i)) (delta_of c ∷ taken_from sight (p.high_is i) (mine i) ds)
      (cond (own && (p.low_is i == top && p.high_is i == top)) (delta_of c ∷ taken_from sight top own ds) (taken_from sight top own ds))) (taken_from sight top own ds)))

  pub deltas-above : (base : ℕ) (cs : List Candidate) → All IsName dirs → IsPermutation (candidates_from deletes 0 dirs) cs → IsSorted candidate_cmp cs
      → AreAt deletes dirs (chosen_above sight base (deltas_in deletes dirs)) (places_from sight base false cs)
  unfolding chosen_above Continues
  deltas-above base cs names permuted up =
      let found = candidates_from deletes 0 dirs in
      let proper = All-permutation IsProper found cs permuted (candidates-proper deletes 0 dirs names) in
      let at = All-permutation (IsAtPlace deletes dirs) found cs permuted (candidates-at deletes dirs 0 dirs (λ k. ap (slice_get dirs) (zero-add k))) in
      let there = map delta_of found in
      let same : map delta_of cs ≡ sorted_by delta_cmp there =
      rises-permuted delta_total delta-tied (map delta_of cs) (sorted_by delta_cmp there)
      (rises-deltas cs proper (rises_from candidate_total cs up))
      (rises_from delta_total (sorted_by delta_cmp there) (sorted-sorted_by delta_total there))
      (IsPermutation-trans (map delta_of cs) there (sorted_by delta_cmp there)
      (IsPermutation-map delta_of cs found (IsPermutation-sym found cs permuted)) (permuted-sorted_by delta_cmp there)) in
      places-at base false cs proper at
      ∙ ap (λ ds. map Some (taken_from sight base false ds)) (same ∙ ap (sorted_by delta_cmp) (candidates-deltas deletes 0 dirs))

  pub sorted-proper : (cs : List Candidate) → All IsName dirs → IsPermutation (candidates_from deletes 0 dirs) cs → All IsProper cs
  sorted-proper cs names permuted = All-permutation IsProper (candidates_from deletes 0 dirs) cs permuted (candidates-proper deletes 0 dirs names)

-- ---- what an answer holds of more

pub if-ok-more : {T E : Type 0} (r : Result T E) (P Q : T → Type 0) → ((x : T) → P x → Q x) → IfOk r P → IfOk r Q
if-ok-more (Ok x) P Q h p = h x p
if-ok-more (Err e) P Q h p = tt

-- ---- whether some write of a range is seen

pub seen-all : (list : WriteIds) (low high : ℕ) (r : Range) → low ≤ high → IsRangeOf list low high r → r ≡ range.All → true ≡ list_any (is_valid list) (ids_between low high)
seen-all list low high r order each is =
    let all : IsRangeOf list low high range.All = subst (IsRangeOf list low high) is each in
    sym (some_between (is_valid list) low (suc high - low) low (omega arith) (omega arith) (all low (omega arith) order))

pub seen-part : (list : WriteIds) (low high : ℕ) (r : Range) → low ≤ high → IsRangeOf list low high r → r ≡ range.Part → true ≡ list_any (is_valid list) (ids_between low high)
seen-part list low high r order each is =
    let part : IsRangeOf list low high range.Part = subst (IsRangeOf list low high) is each in
    let under : part.0.0 ≤ high = part.0.1.1 in
    sym (some_between (is_valid list) low (suc high - low) part.0.0 part.0.1.0 (omega arith) part.0.1.2)

pub seen-none : (list : WriteIds) (low high : ℕ) (r : Range) → low ≤ high → IsRangeOf list low high r → r ≡ range.Zero → false ≡ list_any (is_valid list) (ids_between low high)
seen-none list low high r order each is =
    let none : IsRangeOf list low high range.Zero = subst (IsRangeOf list low high) is each in
    sym (none_between (is_valid list) low (suc high - low) (λ id over under. false_from_ne_true (is_valid list id) (none id over (omega arith))))

-- ---- the base

greater-step : (found base most : ℕ) (may : Bool) → max (cond (nat_lt found base && may) base found) most ≡ max found (cond may (max base most) most)
greater-step found base most true = elim (cases_lt found base) [
  | inl less ↦ ap (λ b. max (cond (b && true) base found) most) (lt-ltb found base less) ∙ (omega arith)
  | inr more ↦ ap (λ b. max (cond (b && true) base found) most) (le-ltb found base more) ∙ (omega arith)
]
greater-step found base most false = by (nat_lt found base)
  where
    by : (b : Bool) → max (cond (b && false) base found) most ≡ max found most
    by true = refl
    by false = refl

better-number-by : (b : Bool) (place base : ℕ) (found : ℕ × Option ℕ) → (let pair : ℕ × Option ℕ = cond b (base, Some place) found in pair.0) ≡ cond b base found.0
better-number-by true place base found = refl
better-number-by false place base found = refl

best-number : (sight : Sight) (n : ℕ) (found : ℕ × Option ℕ) (names : List DirName) → (best_from sight n found names).0 ≡ max found.0 (base_of sight (bases_in names))
best-number sight n found [] = omega arith
best-number sight n found (dir.Base high ∷ names) =
    best-number sight (n + 1) (better sight n found (Some high.0)) names
    ∙ ap (λ x. max x (base_of sight (bases_in names))) (better-number-by (nat_lt found.0 high.0 && sight.may_base high.0) n high.0 found)
    ∙ greater-step found.0 high.0 (base_of sight (bases_in names)) (sight.may_base high.0)
best-number sight n found (dir.Own kind write statement ∷ names) = best-number sight (n + 1) found names
best-number sight n found (dir.Wide kind low high ∷ names) = best-number sight (n + 1) found names
best-number sight n found (dir.Staged job name ∷ names) = best-number sight (n + 1) found names

better-place : (dirs : List DirName) (b : Bool) (place base : ℕ) (found : ℕ × Option ℕ) → base_at dirs place ≡ Some base → IsBaseAt dirs found.0 found.1
    → (let pair : ℕ × Option ℕ = cond b (base, Some place) found in IsBaseAt dirs pair.0 pair.1)
better-place dirs true place base found at is = at
better-place dirs false place base found at is = is

best-place : (dirs : List DirName) (sight : Sight) (n : ℕ) (found : ℕ × Option ℕ) (names : List DirName) → Continues dirs n names → IsBaseAt dirs found.0 found.1
    → (let best : ℕ × Option ℕ = best_from sight n found names in IsBaseAt dirs best.0 best.1)
best-place dirs sight n found [] h is = is
best-place dirs sight n found (dir.Base high ∷ names) h is =
    best-place dirs sight (n + 1) (better sight n found (Some high.0)) names (continues-more dirs n (dir.Base high) names h)
    (better-place dirs (nat_lt found.0 high.0 && sight.may_base high.0) n high.0 found
    (ap (option_and_then base_named) (continues-here dirs n (dir.Base high) names h)) is)
best-place dirs sight n found (dir.Own kind write statement ∷ names) h is =
    best-place dirs sight (n + 1) found names (continues-more dirs n (dir.Own kind write statement) names h) is
best-place dirs sight n found (dir.Wide kind low high ∷ names) h is =
    best-place dirs sight (n + 1) found names (continues-more dirs n (dir.Wide kind low high) names h) is
best-place dirs sight n found (dir.Staged job name ∷ names) h is =
    best-place dirs sight (n + 1) found names (continues-more dirs n (dir.Staged job name) names h) is

pub is-chosen : (sight : Sight) (dirs : List DirName) (best : ℕ × Option ℕ) (deltas deletes : List ℕ) → best ≡ best_from sight 0 (0, None) dirs
    → AreAt false dirs (chosen_above sight best.0 (deltas_in false dirs)) deltas → AreAt true dirs (chosen_above sight best.0 (deltas_in true dirs)) deletes
    → IsChosen sight dirs best.1 deltas deletes
unfolding Continues
is-chosen sight dirs best deltas deletes is inserted deleted =
    let number : best.0 ≡ base_of sight (bases_in dirs) =
    ap (λ (b : ℕ × Option ℕ). b.0) is ∙ best-number sight 0 (0, None) dirs ∙ (omega arith) in
    let place : IsBaseAt dirs best.0 best.1 =
    subst (λ (b : ℕ × Option ℕ). IsBaseAt dirs b.0 b.1) (sym is)
    (best-place dirs sight 0 (0, None) dirs (λ k. ap (slice_get dirs) (zero-add k)) refl) in
    record {
      base = subst (λ n. IsBaseAt dirs n best.1) number place;
      deltas = subst (λ n. AreAt false dirs (chosen_above sight n (deltas_in false dirs)) deltas) number inserted;
      deletes = subst (λ n. AreAt true dirs (chosen_above sight n (deltas_in true dirs)) deletes) number deleted;
    }
