-- Which files the marks of a trail say were put.
use Rattle.std.proofs.Common.{◌≡◌, ◌⊎◌, inl, inr, ℕ, zero, suc, ◌-◌, ◌<◌, Bool, true, false, Some, IsTrue, List, [], ◌∷◌, ◌++◌, length, map, take, drop, true≢false, eq-eqb, refl, sym, ap, ◌∙◌, arith}
use Rattle.std.specs.Prelude.{◌&&◌, ◌||◌, ◌↔◌, slice_get, Contains}
use Rattle.std.specs.List.{slice_index_or, list_any}
use Rattle.std.specs.Cmp.{tied_itself}
use Rattle.std.specs.Ordering.{is_eq}
use Rattle.hv_shelf.specs.declared.place.Place.{Place}
use Rattle.hv_shelf.specs.Places.{place_eq, place_ties, place_total}
use Rattle.hv_book.specs.hv_history.specs.declared.entry.Entry.{Entry}
use Rattle.hv_trail.specs.declared.trail.Reader.{Reader}
use Rattle.hv_trail.specs.declared.trail.Reader.TheVariants.{Txn, Job}
use Rattle.hv_trail.specs.declared.trail.Mark.{Mark}
use Rattle.hv_trail.specs.declared.trail.Mark.TheVariants.{Wrote}
use Rattle.hv_trail.specs.declared.trail.TrailItem.{TrailItem}
use Rattle.hv_trail.specs.declared.trail.TrailItem.TheVariants.{Noted, Marked}
use Rattle.hv_trail.specs.Trail.{is_reader, woven_from, HasWritten}
use Rattle.hv_trail.specs.Kept.{wrote_at, is_written}

-- one of these marks is of a file that this reader put at that place
abbrev pub any_put : Reader → Place → List (ℕ × Mark) → Bool
any_put reader place marks = list_any (λ (mark : ℕ × Mark). wrote_at reader place mark.1) marks

-- ---- the mark of a file says so of itself

same-reader : (reader : Reader) → is_reader reader (Some reader) ≡ true
same-reader (Txn txn) = eq-eqb txn.0 txn.0 refl
same-reader (Job job) = eq-eqb job.0 job.0 refl

pub self-place : (place : Place) → place_eq place place ≡ true
self-place place = place_ties place place ∙ ap is_eq (tied_itself place_total place)

pub and-true : (a b : Bool) → a ≡ true → b ≡ true → a && b ≡ true
and-true true b e h = h
and-true false b e h = e

says-itself : (reader : Reader) (place : Place) → wrote_at reader place (Wrote reader place) ≡ true
says-itself reader place = and-true (is_reader reader (Some reader)) (place_eq place place) (same-reader reader) (self-place place)

-- ---- a mark of the trail is kept

pub first-or-later : {A : Type 0} (x : A) (xs : List A) (y : A) → Contains (x ∷ xs) y → (x ≡ y) ⊎ Contains xs y
first-or-later x xs y h = by h.0 h.1 h.2
  where
    by : (k : ℕ) → k < length (x ∷ xs) → slice_index_or (x ∷ xs) k y ≡ y → (x ≡ y) ⊎ Contains xs y
    by zero within is = inl is
    by (suc k) within is = inr (k, omega (arith, within), is)

pub behind-book : (book : List Entry) (items : List TrailItem) (mark : Mark) → Contains (map Noted book ++ items) (Marked mark) → Contains items (Marked mark)
behind-book [] items mark h = h
behind-book (event ∷ book) items mark h = by (first-or-later (Noted event) (map Noted book ++ items) (Marked mark) h) (behind-book book items mark)
  where
    by : (Noted event ≡ Marked mark) ⊎ Contains (map Noted book ++ items) (Marked mark)
        → (Contains (map Noted book ++ items) (Marked mark) → Contains items (Marked mark)) → Contains items (Marked mark)
    by (inl same) rest = absurd (cc)
    by (inr more) rest = rest more

pub no-mark : (book : List Entry) (mark : Mark) → Contains (map Noted book) (Marked mark) → ⊥
no-mark [] mark h = let within = h.1 in absurd (omega (arith, within))
no-mark (event ∷ book) mark h = by (first-or-later (Noted event) (map Noted book) (Marked mark) h) (no-mark book mark)
  where
    by : (Noted event ≡ Marked mark) ⊎ Contains (map Noted book) (Marked mark) → (Contains (map Noted book) (Marked mark) → ⊥) → ⊥
    by (inl same) rest = cc
    by (inr more) rest = rest more

pub or-first : (a b : Bool) → a ≡ true → a || b ≡ true
or-first true b e = refl
or-first false b e = cc

pub or-later : (a b : Bool) → b ≡ true → a || b ≡ true
or-later true b e = refl
or-later false b e = e

kept : (reader : Reader) (place : Place) (before : ℕ) (book : List Entry) (marks : List (ℕ × Mark)) → HasWritten (woven_from before book marks) reader place
    → any_put reader place marks ≡ true
kept reader place before book [] h = absurd (no-mark book (Wrote reader place) h)
kept reader place before book (mark ∷ marks) h =
    by (first-or-later (Marked mark.1) rest (Marked (Wrote reader place)) (behind-book (take (mark.0 - before) book) (Marked mark.1 ∷ rest) (Wrote reader place) h))
    (kept reader place mark.0 (drop (mark.0 - before) book) marks)
  where
    rest : List TrailItem
    rest = woven_from mark.0 (drop (mark.0 - before) book) marks

    by : (Marked mark.1 ≡ Marked (Wrote reader place)) ⊎ Contains rest (Marked (Wrote reader place)) → (HasWritten rest reader place → any_put reader place marks ≡ true)
        → any_put reader place (mark ∷ marks) ≡ true
    by (inl same) more =
        let is : mark.1 ≡ Wrote reader place = cc in
        or-first (wrote_at reader place mark.1) (any_put reader place marks) (ap (wrote_at reader place) is ∙ says-itself reader place)
    by (inr has) more = or-later (wrote_at reader place mark.1) (any_put reader place marks) (more has)

-- ---- the walk over the marks, the newest first

or-both : (a b : Bool) → a ≡ false → b ≡ false → a || b ≡ false
or-both true b e h = e
or-both false b e h = h

-- one mark more is none of this file
none-more : (reader : Reader) (place : Place) (marks : List (ℕ × Mark)) (at : ℕ) → any_put reader place (drop (suc at) marks) ≡ false
    → is_written reader place (slice_get marks at) ≡ false → any_put reader place (drop at marks) ≡ false
none-more reader place [] zero none here = refl
none-more reader place [] (suc at) none here = refl
none-more reader place (mark ∷ marks) zero none here = or-both (wrote_at reader place mark.1) (any_put reader place marks) here none
none-more reader place (mark ∷ marks) (suc at) none here = none-more reader place marks at none here

pub walked : (reader : Reader) (place : Place) (marks : List (ℕ × Mark)) (at : ℕ) → 0 < at → any_put reader place (drop at marks) ≡ false
    → is_written reader place (slice_get marks (at - 1)) ≡ false → any_put reader place (drop (at - 1) marks) ≡ false
walked reader place marks at some none here =
    none-more reader place marks (at - 1) (ap (λ n. any_put reader place (drop n marks)) (counted at some) ∙ none) here
  where
    counted : (n : ℕ) → 0 < n → suc (n - 1) ≡ n
    counted n some_ = omega (arith, some_)

-- ---- what the walk answers

pub is-so : (P : Type 0) → P → IsTrue true ↔ P
is-so P p = (λ so. p, λ is. refl)

pub is-not-so : (P : Type 0) → (P → ⊥) → IsTrue false ↔ P
is-not-so P not = (λ never. absurd (true≢false (sym never)), λ p. absurd (not p))

pub not-marked : (reader : Reader) (place : Place) (book : List Entry) (marks : List (ℕ × Mark)) → any_put reader place marks ≡ false
    → HasWritten (woven_from 0 book marks) reader place → ⊥
not-marked reader place book marks none has = true≢false (sym (kept reader place 0 book marks has) ∙ none)
