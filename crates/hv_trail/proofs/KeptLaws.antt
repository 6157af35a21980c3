-- A trail of which the book and the marks are kept apart.
use Rattle.std.proofs.Common.{◌≡◌, ℕ, ◌+◌, ◌-◌, ◌≤◌, List, [], ◌∷◌, ◌++◌, length, map, take, drop, refl, sym, ap, ◌∙◌, subst, append_assoc, arith}
use Rattle.std.proofs.lemmas.List.{length-append, length-drop, length-map, take-append-drop, take-append-le, drop-append-le, map-append}
use Rattle.hv_book.specs.hv_history.specs.declared.entry.Entry.{Entry}
use Rattle.hv_trail.specs.declared.trail.Mark.{Mark}
use Rattle.hv_trail.specs.declared.trail.TrailItem.{TrailItem}
use Rattle.hv_trail.specs.declared.trail.TrailItem.TheVariants.{Noted, Marked}
use Rattle.hv_trail.specs.Trail.{book_of, woven_from}
use Rattle.hv_trail.specs.Kept.{StandIn, IsWhole}

stand-within : (before count : ℕ) (marks : List (ℕ × Mark)) → StandIn before count marks → before ≤ count
stand-within before count [] stand = stand
stand-within before count (mark ∷ marks) stand = omega (arith, stand.0, stand-within mark.0 count marks stand.1)

stand-later : (before count : ℕ) (marks : List (ℕ × Mark)) → StandIn before count marks → StandIn before (count + 1) marks
stand-later before count [] stand = omega (arith, stand)
stand-later before count (mark ∷ marks) stand = (stand.0, stand-later mark.0 count marks stand.1)

stand-marked : (before count : ℕ) (marks : List (ℕ × Mark)) (mark : Mark) → StandIn before count marks → StandIn before count (marks ++ (count, mark) ∷ [])
stand-marked before count [] mark stand = (stand, omega arith)
stand-marked before count (first ∷ marks) mark stand = (stand.0, stand-marked first.0 count marks mark stand.1)

-- the entries behind the first mark
rest-count : (before count first : ℕ) (book : List Entry) → count ≡ before + length book → before ≤ first → first ≤ count
    → count ≡ first + length (drop (first - before) book)
rest-count before count first book whole least most = omega (arith, whole, least, most, length-drop (first - before) book)

take-whole : {A : Type 0} (xs : List A) (n : ℕ) → n ≡ length xs → take n xs ≡ xs
take-whole [] n e = ap (λ k. take k []) e
take-whole (x ∷ xs) n e = ap (λ k. take k (x ∷ xs)) e ∙ ap (λ ys. x ∷ ys) (take-whole xs (length xs) refl)

drop-whole : {A : Type 0} (xs : List A) (n : ℕ) → n ≡ length xs → drop n xs ≡ []
drop-whole [] n e = ap (λ k. drop k []) e
drop-whole (x ∷ xs) n e = ap (λ k. drop k (x ∷ xs)) e ∙ drop-whole xs (length xs) refl

woven-noted : (before count : ℕ) (book : List Entry) (marks : List (ℕ × Mark)) (event : Entry) → count ≡ before + length book → StandIn before count marks
    → woven_from before (book ++ event ∷ []) marks ≡ woven_from before book marks ++ Noted event ∷ []
woven-noted before count book [] event whole stand = map-append Noted book (event ∷ [])
woven-noted before count book (mark ∷ marks) event whole stand =
    let k = mark.0 - before in
    let most = stand-within mark.0 count marks stand.1 in
    let few : k ≤ length book = omega (arith, whole, stand.0, most) in
    ap (λ front. map Noted front ++ Marked mark.1 ∷ woven_from mark.0 (drop k (book ++ event ∷ [])) marks) (take-append-le k book (event ∷ []) few)
    ∙ ap (λ rest. map Noted (take k book) ++ Marked mark.1 ∷ woven_from mark.0 rest marks) (drop-append-le k book (event ∷ []) few)
    ∙ ap (λ rest. map Noted (take k book) ++ Marked mark.1 ∷ rest)
    (woven-noted mark.0 count (drop k book) marks event (rest-count before count mark.0 book whole stand.0 most) stand.1)
    ∙ sym (append_assoc (map Noted (take k book)) (Marked mark.1 ∷ woven_from mark.0 (drop k book) marks) (Noted event ∷ []))

woven-marked : (before count : ℕ) (book : List Entry) (marks : List (ℕ × Mark)) (mark : Mark) → count ≡ before + length book → StandIn before count marks
    → woven_from before book (marks ++ (count, mark) ∷ []) ≡ woven_from before book marks ++ Marked mark ∷ []
woven-marked before count book [] mark whole stand =
    let all : count - before ≡ length book = omega (arith, whole) in
    ap (λ front. map Noted front ++ Marked mark ∷ map Noted (drop (count - before) book)) (take-whole book (count - before) all)
    ∙ ap (λ rest. map Noted book ++ Marked mark ∷ map Noted rest) (drop-whole book (count - before) all)
woven-marked before count book (first ∷ marks) mark whole stand =
    let k = first.0 - before in
    let most = stand-within first.0 count marks stand.1 in
    ap (λ rest. map Noted (take k book) ++ Marked first.1 ∷ rest)
    (woven-marked first.0 count (drop k book) marks mark (rest-count before count first.0 book whole stand.0 most) stand.1)
    ∙ sym (append_assoc (map Noted (take k book)) (Marked first.1 ∷ woven_from first.0 (drop k book) marks) (Marked mark ∷ []))

-- an entry is noted behind all marks, and a mark is made behind all entries
pub noted-behind : (book : List Entry) (marks : List (ℕ × Mark)) (opened : ℕ) (event : Entry) → IsWhole book marks opened
    → woven_from 0 (book ++ event ∷ []) marks ≡ woven_from 0 book marks ++ Noted event ∷ []
noted-behind book marks opened event is = woven-noted 0 (length book) book marks event (omega arith) is.stand

pub marked-behind : (book : List Entry) (marks : List (ℕ × Mark)) (opened : ℕ) (mark : Mark) → IsWhole book marks opened
    → woven_from 0 book (marks ++ (length book, mark) ∷ []) ≡ woven_from 0 book marks ++ Marked mark ∷ []
marked-behind book marks opened mark is = woven-marked 0 (length book) book marks mark (omega arith) is.stand

pub whole-noted : (book : List Entry) (marks : List (ℕ × Mark)) (opened : ℕ) (event : Entry) → IsWhole book marks opened
    → IsWhole (book ++ event ∷ []) marks opened
whole-noted book marks opened event is =
    let one : length (book ++ event ∷ []) ≡ length book + 1 = length-append book (event ∷ []) in
    record {
      stand = subst (λ count. StandIn 0 count marks) (sym one) (stand-later 0 (length book) marks is.stand);
      within = omega (arith, one, is.within);
    }

pub whole-marked : (book : List Entry) (marks : List (ℕ × Mark)) (opened : ℕ) (mark : Mark) → IsWhole book marks opened
    → IsWhole book (marks ++ (length book, mark) ∷ []) opened
whole-marked book marks opened mark is = record {
  stand = stand-marked 0 (length book) marks mark is.stand;
  within = omega (arith, is.within, length-append marks ((length book, mark) ∷ []));
}

-- each entry and each mark counts once
woven-length : (before : ℕ) (book : List Entry) (marks : List (ℕ × Mark)) → length (woven_from before book marks) ≡ length book + length marks
woven-length before book [] = omega (arith, length-map book Noted)
woven-length before book (mark ∷ marks) =
    let k = mark.0 - before in
    let parts : length (take k book) + length (drop k book) ≡ length book =
    sym (length-append (take k book) (drop k book)) ∙ ap length (take-append-drop k book) in
    length-append (map Noted (take k book)) (Marked mark.1 ∷ woven_from mark.0 (drop k book) marks)
    ∙ omega (arith, parts, length-map (take k book) Noted, woven-length mark.0 (drop k book) marks)

pub trail-length : (book : List Entry) (marks : List (ℕ × Mark)) → length (woven_from 0 book marks) ≡ length book + length marks
trail-length book marks = woven-length 0 book marks

-- the book of the trail is the one that is kept
book-noted : (book : List Entry) (items : List TrailItem) → book_of (map Noted book ++ items) ≡ book ++ book_of items
book-noted [] items = refl
book-noted (event ∷ book) items = ap (λ entries. event ∷ entries) (book-noted book items)

book-only : (book : List Entry) → book_of (map Noted book) ≡ book
book-only [] = refl
book-only (event ∷ book) = ap (λ entries. event ∷ entries) (book-only book)

woven-book : (before : ℕ) (book : List Entry) (marks : List (ℕ × Mark)) → book_of (woven_from before book marks) ≡ book
woven-book before book [] = book-only book
woven-book before book (mark ∷ marks) =
    let k = mark.0 - before in
    book-noted (take k book) (Marked mark.1 ∷ woven_from mark.0 (drop k book) marks)
    ∙ ap (λ entries. take k book ++ entries) (woven-book mark.0 (drop k book) marks)
    ∙ take-append-drop k book

pub trail-book : (book : List Entry) (marks : List (ℕ × Mark)) → book_of (woven_from 0 book marks) ≡ book
trail-book book marks = woven-book 0 book marks
