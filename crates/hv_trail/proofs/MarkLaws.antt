-- A trail is its book and its marks.
use Rattle.std.proofs.Common.{◌≡◌, ℕ, suc, ◌+◌, ◌-◌, ◌≤◌, List, [], ◌∷◌, ◌++◌, length, map, take, drop, refl, ap, ◌∙◌, arith}
use Rattle.hv_book.specs.hv_history.specs.declared.entry.Entry.{Entry}
use Rattle.hv_trail.specs.declared.trail.Mark.{Mark}
use Rattle.hv_trail.specs.declared.trail.TrailItem.{TrailItem}
use Rattle.hv_trail.specs.declared.trail.TrailItem.TheVariants.{Noted, Marked}
use Rattle.hv_trail.specs.Trail.{book_of, marks_of, marks_from, woven_from}
use Rattle.hv_trail.proofs.LastingLaws.{marks-append, entries_behind}

-- the first of these marks has so many entries before it, or more
abbrev StandBehind : ℕ → List (ℕ × Mark) → Type 0
StandBehind before [] = Unit {0}
StandBehind before (mark ∷ marks) = before ≤ mark.0

less-behind : (before : ℕ) (marks : List (ℕ × Mark)) → StandBehind (before + 1) marks → StandBehind before marks
less-behind before [] behind = tt
less-behind before (mark ∷ marks) behind = omega (arith, behind)

stand-behind : (before : ℕ) (trail : List TrailItem) → StandBehind before (marks_from before trail)
stand-behind before [] = tt
stand-behind before (Noted entry ∷ trail) = less-behind before (marks_from (before + 1) trail) (stand-behind (before + 1) trail)
stand-behind before (Marked mark ∷ trail) = omega arith

-- an entry comes before the marks that have one entry more before them
entry-first : (before : ℕ) (entry : Entry) (book : List Entry) (marks : List (ℕ × Mark)) → StandBehind (before + 1) marks
    → woven_from before (entry ∷ book) marks ≡ Noted entry ∷ woven_from (before + 1) book marks
entry-first before entry book [] behind = refl
entry-first before entry book (mark ∷ marks) behind =
    let one : mark.0 - before ≡ suc (mark.0 - (before + 1)) = omega (arith, behind)
    in ap (λ k. map Noted (take k (entry ∷ book)) ++ Marked mark.1 ∷ woven_from mark.0 (drop k (entry ∷ book)) marks) one

woven-from : (before : ℕ) (trail : List TrailItem) → woven_from before (book_of trail) (marks_from before trail) ≡ trail
woven-from before [] = refl
woven-from before (Noted entry ∷ trail) =
    entry-first before entry (book_of trail) (marks_from (before + 1) trail) (stand-behind (before + 1) trail)
    ∙ ap (λ items. Noted entry ∷ items) (woven-from (before + 1) trail)
woven-from before (Marked mark ∷ trail) =
    let none : before - before ≡ 0 = omega arith
    in ap (λ k. map Noted (take k (book_of trail)) ++ Marked mark ∷ woven_from before (drop k (book_of trail)) (marks_from before trail)) none
    ∙ ap (λ items. Marked mark ∷ items) (woven-from before trail)

pub woven : (trail : List TrailItem) → woven_from 0 (book_of trail) (marks_of trail) ≡ trail
woven trail = woven-from 0 trail

behind-all : (before : ℕ) (trail : List TrailItem) → entries_behind before trail ≡ before + length (book_of trail)
behind-all before [] = omega arith
behind-all before (Noted entry ∷ trail) = behind-all (before + 1) trail ∙ omega arith
behind-all before (Marked mark ∷ trail) = behind-all before trail

pub mark-added : (trail : List TrailItem) (mark : Mark) → marks_of (trail ++ Marked mark ∷ []) ≡ marks_of trail ++ (length (book_of trail), mark) ∷ []
mark-added trail mark =
    let none : 0 + length (book_of trail) ≡ length (book_of trail) = omega arith
    in marks-append 0 trail (Marked mark ∷ []) ∙ ap (λ n. marks_of trail ++ (n, mark) ∷ []) (behind-all 0 trail ∙ none)

nil-behind : {A : Type 0} (xs : List A) → xs ++ [] ≡ xs
nil-behind [] = refl
nil-behind (x ∷ xs) = ap (λ ys. x ∷ ys) (nil-behind xs)

pub entry-marks : (trail : List TrailItem) (entry : Entry) → marks_of (trail ++ Noted entry ∷ []) ≡ marks_of trail
entry-marks trail entry = marks-append 0 trail (Noted entry ∷ []) ∙ nil-behind (marks_of trail)

pub mark-book : (book : List Entry) → book ++ [] ≡ book
mark-book book = nil-behind book

pub whole-book : (book : List Entry) → book_of (map Noted book) ≡ book
whole-book [] = refl
whole-book (entry ∷ book) = ap (λ entries. entry ∷ entries) (whole-book book)

no-marks : (before : ℕ) (book : List Entry) → marks_from before (map Noted book) ≡ []
no-marks before [] = refl
no-marks before (entry ∷ book) = no-marks (before + 1) book

pub whole-marks : (book : List Entry) → marks_of (map Noted book) ≡ []
whole-marks book = no-marks 0 book
