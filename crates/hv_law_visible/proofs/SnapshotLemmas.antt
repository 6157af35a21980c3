-- The list of a snapshot fits every later book, and shows what was committed before it.
use Rattle.std.proofs.Common.{refl, ◌≡◌, ◌⊎◌, inl, inr, ℕ, zero, suc, ◌+◌, ◌-◌, ◌<◌, ◌≤◌, Bool, true, false, cond, not, ◌&&◌, nat_le, Option, Some, None, List, [], ◌∷◌, ◌++◌, filter, slice_get, sym, ap, ◌∙◌, arith, le-leb, leb-true, true≢false}
use Rattle.std.proofs.lemmas.Bool.{and_parts, and_from, and_right, not-true, not_from_false}
use Rattle.std.specs.List.{list_any, range_with_len}
use Rattle.hv_law_visible.specs.Members.{IsIn}
use Rattle.hv_wids.specs.WriteIds.{WriteIds, is_valid, is_valid_base}
use Rattle.hv_dirs.specs.Choice.{sight_of}
use Rattle.hv_law_visible.specs.History.{Write, Compaction, end_of, is_upto}
use Rattle.hv_law_visible.specs.Visible.{writes_shown}
use Rattle.hv_law_visible.specs.Stands.{Fits}
use Rattle.hv_law_visible.specs.Snapshots.{Fate, Open, Committed, Aborted, Forgotten, fate_of, is_seen, is_open, all_ended, list_at, GoesTo, IsUndone, HaveEnded, IsSince}
use Rattle.hv_law_visible.specs.Laws.{SaysUpTo}
use Rattle.hv_law_visible.proofs.ListLemmas.{valid-same, valid-base-same}
use Rattle.hv_law_visible.proofs.MemberLemmas.{any-in, in-any, in-either, in-left, in-right}

-- ---- ranges

in-range : (n a w : ℕ) → a ≤ w → w < a + n → IsIn w (range_with_len a n)
in-range zero a w low under = absurd (omega arith)
in-range (suc n) a w low under = elim (Rattle.std.proofs.lemmas.Bool.cases_lt a w) [
  | inl more ↦ inr (in-range n (a + 1) w (omega arith) (omega arith))
  | inr less ↦ inl (omega arith)
]

from-range : (n a w : ℕ) → IsIn w (range_with_len a n) → (a ≤ w) × (w < a + n)
from-range zero a w at = absurd at
from-range (suc n) a w (inl e) = (omega arith, omega arith)
from-range (suc n) a w (inr at) =
    let h = from-range n (a + 1) w at in
    let x : a + 1 ≤ w = h.0 in
    let y : w < (a + 1) + n = h.1 in
    (omega arith, omega arith)

pub some-from : (valid : ℕ → Bool) (first last write : ℕ) → first ≤ write → write ≤ last → valid write ≡ true
    → list_any valid (range_with_len first (suc last - first)) ≡ true
some-from valid first last write low high is =
    any-in valid write (range_with_len first (suc last - first)) (in-range (suc last - first) first write low (omega arith)) is

pub some-valid : (valid : ℕ → Bool) (first last : ℕ) → list_any valid (range_with_len first (suc last - first)) ≡ true
    → (write : ℕ) × (first ≤ write) × (write ≤ last) × (valid write ≡ true)
some-valid valid first last is =
    let w = in-any valid (range_with_len first (suc last - first)) is in
    let h = from-range (suc last - first) first w.0 w.1 in
    let x : first ≤ w.0 = h.0 in
    let y : w.0 < first + (suc last - first) = h.1 in
    (w.0, x, omega arith, w.2)

-- ---- ids that have ended

ended-at : (fates : List Fate) (h n : ℕ) → all_ended h fates ≡ true → n < h → (fate : Fate) × (slice_get fates n ≡ Some fate) × (is_open fate ≡ false)
ended-at fates zero n all under = absurd (omega arith)
ended-at [] (suc h) n all under = absurd (true≢false (sym all))
ended-at (fate ∷ fates) (suc h) zero all under = (fate, refl, not-true (is_open fate) (and_parts (not (is_open fate)) (all_ended h fates) all).0)
ended-at (fate ∷ fates) (suc h) (suc n) all under = ended-at fates h n (and_parts (not (is_open fate)) (all_ended h fates) all).1 (omega arith)

pub ended : (fates : List Fate) (h : ℕ) → all_ended h fates ≡ true → HaveEnded fates h
ended fates h all zero one under = absurd (omega arith)
ended fates h all (suc n) one under = ended-at fates h n all (omega arith)

all-ended-by : (fate : Fate) (fates : List Fate) (h : ℕ) → (f : Fate) × (Some fate ≡ Some f) × (is_open f ≡ false) → all_ended h fates ≡ true
    → (not (is_open fate) && all_ended h fates) ≡ true
all-ended-by fate fates h is rest =
    let e : fate ≡ is.0 = cc (is.1) in
    and_from (not (is_open fate)) (all_ended h fates) (not_from_false (is_open fate) (ap is_open e ∙ is.2)) rest

pub all-ended : (fates : List Fate) (h : ℕ) → ((n : ℕ) → n < h → (fate : Fate) × (slice_get fates n ≡ Some fate) × (is_open fate ≡ false)) → all_ended h fates ≡ true
all-ended fates zero each = refl
all-ended [] (suc h) each = let e = each zero (omega arith) in absurd (none e.0 e.1)
  where
    none : (f : Fate) → None ≡ Some f → ⊥
    none f e = cc
all-ended (fate ∷ fates) (suc h) each =
    all-ended-by fate fates h (each zero (omega arith)) (all-ended fates h (λ n under. each (suc n) (omega arith)))

-- ---- what a committed write was

-- had it ended, it was committed
was : (before now : Option Fate) (fate : Fate) → before ≡ Some fate → is_open fate ≡ false → GoesTo before now → now ≡ Some Committed → is_seen before ≡ true
was None now fate e is goes done = cc
was (Some Open) now fate e is goes done =
    let f : Open ≡ fate = cc in
    absurd (true≢false (ap is_open f ∙ is))
was (Some Committed) now fate e is goes done = refl
was (Some Aborted) now fate e is (inl a) done = cc
was (Some Aborted) now fate e is (inr a) done = cc
was (Some Forgotten) now fate e is goes done = refl

-- what is undone now wasn't seen
not-seen : (before now : Option Fate) → (now ≡ Some Open) ⊎ (now ≡ Some Aborted) → GoesTo before now → is_seen before ≡ false
not-seen None now undone goes = refl
not-seen (Some Open) now undone goes = refl
not-seen (Some Committed) now (inl e) goes = cc
not-seen (Some Committed) now (inr e) goes = cc
not-seen (Some Aborted) now undone goes = refl
not-seen (Some Forgotten) now (inl e) goes = cc
not-seen (Some Forgotten) now (inr e) goes = cc

-- what was committed since wasn't seen
not-yet : (before now : Option Fate) → now ≡ Some Committed → (before ≡ Some Committed → ⊥) → GoesTo before now → is_seen before ≡ false
not-yet None now done not goes = refl
not-yet (Some Open) now done not goes = refl
not-yet (Some Committed) now done not goes = absurd (not refl)
not-yet (Some Aborted) now done not goes = refl
not-yet (Some Forgotten) now done not goes = cc

committed : {Found : Type 0} {before now : List Fate} {writes since : List (Write Found)} → IsSince before now writes since
    → (w : Write Found) → IsIn w (writes ++ since) → fate_of now w.write ≡ Some Committed
committed {before = before} {now = now} {writes = writes} {since = since} s w at = elim (in-either w writes since at) [
  | inl then ↦ stays (fate_of before w.write) (fate_of now w.write) (s.were w then) (s.goes w.write)
  | inr later ↦ s.are w later
]
  where
    stays : (before now : Option Fate) → before ≡ Some Committed → GoesTo before now → now ≡ Some Committed
    stays None now e goes = cc
    stays (Some Open) now e goes = cc
    stays (Some Committed) now e goes = goes
    stays (Some Aborted) now e goes = cc
    stays (Some Forgotten) now e goes = cc

undone-unseen : (before now : List Fate) (write : ℕ) → IsUndone now write → GoesTo (fate_of before write) (fate_of now write)
    → is_valid (list_at before) write ≡ false
undone-unseen before now zero (inl e) goes = cc
undone-unseen before now zero (inr e) goes = cc
undone-unseen before now (suc n) undone goes =
    valid-same before (suc n) (omega arith) ∙ not-seen (fate_of before (suc n)) (fate_of now (suc n)) undone goes

-- the list of a snapshot fits the book now
pub snapshot-fits : {Found : Type 0} (past : Compaction → Type 0) (jobs : List Compaction) (before now : List Fate) (writes since : List (Write Found))
    → IsSince before now writes since
    → ((w : Write Found) → IsIn w (writes ++ since) → 1 ≤ w.write)
    → ((job : Compaction) → IsIn job jobs → past job → HaveEnded before (end_of job))
    → Fits (sight_of (list_at before)) past (IsUndone now) (writes ++ since) jobs
snapshot-fits past jobs before now writes since s from_one decided = record {
  some_from = some-from (is_valid (list_at before));
  some_valid = some-valid (is_valid (list_at before));
  unseen = λ write undone. undone-unseen before now write undone (s.goes write);
  decided = λ base w may at under.
      let e = ended before base (sym (valid-base-same before base) ∙ may) w.write (from_one w at) under in
      valid-same before w.write (from_one w at)
      ∙ was (fate_of before w.write) (fate_of now w.write) e.0 e.1 e.2 (s.goes w.write) (committed s w at);
  past_may = λ job listed gone.
      valid-base-same before (end_of job)
      ∙ all-ended before (end_of job) (λ n under. decided job listed gone (suc n) (omega arith) (omega arith));
}

-- ---- what it shows

all-kept : {A : Type 0} (p : A → Bool) (xs : List A) → ((x : A) → IsIn x xs → p x ≡ true) → filter p xs ≡ xs
all-kept p [] h = refl
all-kept p (x ∷ xs) h = λ i. cond (h x (inl refl) i) (x ∷ all-kept p xs (λ y at. h y (inr at)) i) (all-kept p xs (λ y at. h y (inr at)) i)

none-kept : {A : Type 0} (p : A → Bool) (xs : List A) → ((x : A) → IsIn x xs → p x ≡ false) → filter p xs ≡ []
none-kept p [] h = refl
none-kept p (x ∷ xs) h = λ i. cond (h x (inl refl) i) (x ∷ filter p xs) (none-kept p xs (λ y at. h y (inr at)) i)

front-kept : {A : Type 0} (p : A → Bool) (xs ys : List A) → ((x : A) → IsIn x xs → p x ≡ true) → ((y : A) → IsIn y ys → p y ≡ false) → filter p (xs ++ ys) ≡ xs
front-kept p [] ys h k = none-kept p ys k
front-kept p (x ∷ xs) ys h k =
    λ i. cond (h x (inl refl) i) (x ∷ front-kept p xs ys (λ y at. h y (inr at)) k i) (front-kept p xs ys (λ y at. h y (inr at)) k i)

pub snapshot-shows : {Found : Type 0} (before now : List Fate) (writes since : List (Write Found))
    → IsSince before now writes since → ((w : Write Found) → IsIn w (writes ++ since) → 1 ≤ w.write)
    → writes_shown (sight_of (list_at before)) (writes ++ since) ≡ writes
snapshot-shows before now writes since s from_one =
    front-kept (λ (w : Write _). is_valid (list_at before) w.write) writes since
    (λ w at. valid-same before w.write (from_one w (in-left w writes since at)) ∙ ap is_seen (s.were w at))
    (λ w at. valid-same before w.write (from_one w (in-right w writes since at))
    ∙ not-yet (fate_of before w.write) (fate_of now w.write) (s.are w at) (s.were_not w at) (s.goes w.write))

-- ---- a compaction's list

pub cut-fits : {Found : Type 0} (mark : ℕ) (list cut : WriteIds) (past : Compaction → Type 0) (foreign : ℕ → Type 0) (writes : List (Write Found)) (jobs : List Compaction)
    → SaysUpTo mark list cut → Fits (sight_of list) past foreign writes jobs → ((job : Compaction) → IsIn job jobs → past job → end_of job ≤ mark)
    → Fits (sight_of cut) past foreign writes jobs
cut-fits mark list cut past foreign writes jobs says fits under = record {
  some_from = some-from (is_valid cut);
  some_valid = some-valid (is_valid cut);
  unseen = λ write is. says.valid write ∙ and_right (nat_le write mark) (is_valid list write) (fits.unseen write is);
  decided = λ base w may at within.
      let b = and_parts (nat_le base mark) (is_valid_base list base) (sym (says.base base) ∙ may) in
      let m : base ≤ mark = leb-true base mark b.0 in
      says.valid w.write
      ∙ and_from (nat_le w.write mark) (is_valid list w.write) (le-leb w.write mark (omega arith)) (fits.decided base w b.1 at within);
  past_may = λ job listed gone.
      says.base (end_of job)
      ∙ and_from (nat_le (end_of job) mark) (is_valid_base list (end_of job)) (le-leb (end_of job) mark (under job listed gone)) (fits.past_may job listed gone);
}

same-kept : {A : Type 0} (p q : A → Bool) (xs : List A) → ((x : A) → IsIn x xs → p x ≡ q x) → filter p xs ≡ filter q xs
same-kept p q [] h = refl
same-kept p q (x ∷ xs) h = λ i. cond (h x (inl refl) i) (x ∷ same-kept p q xs (λ y at. h y (inr at)) i) (same-kept p q xs (λ y at. h y (inr at)) i)

and-true : (b c : Bool) → c ≡ true → (b && c) ≡ b
and-true true c is = is
and-true false c is = refl

-- it shows the committed writes up to its end
pub cut-shows : {Found : Type 0} (mark : ℕ) (fates : List Fate) (cut : WriteIds) (writes : List (Write Found))
    → SaysUpTo mark (list_at fates) cut → ((w : Write Found) → IsIn w writes → fate_of fates w.write ≡ Some Committed)
    → ((w : Write Found) → IsIn w writes → 1 ≤ w.write)
    → writes_shown (sight_of cut) writes ≡ filter (is_upto mark) writes
cut-shows mark fates cut writes says are from_one =
    same-kept (λ (w : Write _). is_valid cut w.write) (is_upto mark) writes
    (λ w at. says.valid w.write ∙ and-true (nat_le w.write mark) (is_valid (list_at fates) w.write) (valid-same fates w.write (from_one w at) ∙ ap is_seen (are w at)))
