-- What is asked of the marks of a trail.
use Rattle.std.proofs.Common.{◌≡◌, ℕ, zero, suc, ◌-◌, ◌&&◌, not, Bool, true, false, Option, Some, None, List, [], ◌∷◌, ◌++◌, map, take, drop, refl, sym, ap, ◌∙◌, subst, arith, eqb-true}
use Rattle.std.specs.Prelude.{if◌then◌else◌, slice_get, Contains}
use Rattle.std.specs.declared.cmp.Ordering.{Ordering}
use Rattle.std.specs.declared.cmp.Ordering.TheVariants.{Less, Equal, Greater}
use Rattle.std.specs.Ordering.{is_eq}
use Rattle.std.proofs.lemmas.List.Elements.{Contains-append_right}
use Rattle.hv_shelf.specs.declared.place.Place.{Place}
use Rattle.hv_shelf.specs.Places.{place_cmp, place_eq, place_ties, place_antisymmetric}
use Rattle.hv_book.specs.hv_history.specs.declared.entry.Entry.{Entry}
use Rattle.hv_book.specs.hv_history.specs.State.{first_known}
use Rattle.hv_trail.specs.declared.trail.Reader.{Reader}
use Rattle.hv_trail.specs.declared.trail.Reader.TheVariants.{Txn, Job}
use Rattle.hv_trail.specs.declared.trail.Mark.{Mark}
use Rattle.hv_trail.specs.declared.trail.Mark.TheVariants.{Wrote, Went, Broke}
use Rattle.hv_trail.specs.declared.trail.TrailItem.{TrailItem}
use Rattle.hv_trail.specs.declared.trail.TrailItem.TheVariants.{Noted, Marked}
use Rattle.hv_trail.specs.Trail.{is_reader, woven_from, broken, HasWritten}
use Rattle.hv_trail.specs.Kept.{is_fault, fault_of, broken_in, IsQuiet, wrote_at, is_written}

-- ---- calls that failed

broken-noted : (reader : Reader) (book : List Entry) → broken reader (map Noted book) ≡ None
broken-noted reader [] = refl
broken-noted reader (event ∷ book) = broken-noted reader book

known-if : (b : Bool) (why : Bool × ℕ) (rest : Option (Bool × ℕ)) → (if b then Some why else rest) ≡ first_known (if b then Some why else None) rest
known-if true why rest = refl
known-if false why rest = refl

broken-mark : (reader : Reader) (mark : Mark) (items : List TrailItem) → broken reader (Marked mark ∷ items) ≡ first_known (fault_of reader mark) (broken reader items)
broken-mark reader (Wrote by place) items = refl
broken-mark reader (Went dir) items = refl
broken-mark reader (Broke by put count) items = known-if (is_reader reader by) (put, count) (broken reader items)

broken-behind : (reader : Reader) (book : List Entry) (items : List TrailItem) → broken reader (map Noted book ++ items) ≡ broken reader items
broken-behind reader [] items = refl
broken-behind reader (event ∷ book) items = broken-behind reader book items

broken-woven : (reader : Reader) (before : ℕ) (book : List Entry) (marks : List (ℕ × Mark)) → broken reader (woven_from before book marks) ≡ broken_in reader marks
broken-woven reader before book [] = broken-noted reader book
broken-woven reader before book (mark ∷ marks) =
    let k = mark.0 - before in
    broken-behind reader (take k book) (Marked mark.1 ∷ woven_from mark.0 (drop k book) marks)
    ∙ broken-mark reader mark.1 (woven_from mark.0 (drop k book) marks)
    ∙ ap (λ rest. first_known (fault_of reader mark.1) rest) (broken-woven reader mark.0 (drop k book) marks)

-- the marks alone say which call failed first
pub broken-kept : (reader : Reader) (book : List Entry) (marks : List (ℕ × Mark)) → broken_in reader marks ≡ broken reader (woven_from 0 book marks)
broken-kept reader book marks = sym (broken-woven reader 0 book marks)

known-append : (a b c : Option (Bool × ℕ)) → first_known a (first_known b c) ≡ first_known (first_known a b) c
known-append None b c = refl
known-append (Some x) b c = refl

broken-append : (reader : Reader) (xs ys : List (ℕ × Mark)) → broken_in reader (xs ++ ys) ≡ first_known (broken_in reader xs) (broken_in reader ys)
broken-append reader [] ys = refl
broken-append reader (x ∷ xs) ys =
    ap (λ rest. first_known (fault_of reader x.1) rest) (broken-append reader xs ys)
    ∙ known-append (fault_of reader x.1) (broken_in reader xs) (broken_in reader ys)

no-fault : (reader : Reader) (mark : Mark) → is_fault mark ≡ false → fault_of reader mark ≡ None
no-fault reader (Wrote by place) e = refl
no-fault reader (Went dir) e = refl
no-fault reader (Broke by put count) e = cc

both-so : (a b : Bool) → a && not b ≡ true → (a ≡ true) × (b ≡ false)
both-so true false e = (refl, refl)
both-so true true e = cc
both-so false b e = cc

pub quiet-marked : (quiet : Bool) (marks : List (ℕ × Mark)) (before : ℕ) (mark : Mark) → IsQuiet quiet marks
    → IsQuiet (quiet && not (is_fault mark)) (marks ++ (before, mark) ∷ [])
quiet-marked quiet marks before mark is e reader =
    let parts = both-so quiet (is_fault mark) e in
    broken-append reader marks ((before, mark) ∷ [])
    ∙ ap (λ first. first_known first (broken_in reader ((before, mark) ∷ []))) (is parts.0 reader)
    ∙ ap (λ first. first_known first None) (no-fault reader mark parts.1)

-- ---- files that were put

pub both : (a b : Bool) → a && b ≡ true → (a ≡ true) × (b ≡ true)
both true true e = (refl, refl)
both true false e = cc
both false b e = cc

same-reader : (reader other : Reader) → is_reader reader (Some other) ≡ true → other ≡ reader
same-reader (Txn txn) (Txn other) e = ap (λ n. Txn (record { 0 = n })) (sym (eqb-true txn.0 other.0 e))
same-reader (Txn txn) (Job other) e = cc
same-reader (Job job) (Txn other) e = cc
same-reader (Job job) (Job other) e = ap (λ n. Job (record { 0 = n })) (sym (eqb-true job.0 other.0 e))

is-equal : (o : Ordering) → is_eq o ≡ true → o ≡ Equal
is-equal Less e = cc
is-equal Equal e = refl
is-equal Greater e = cc

pub same-place : (x y : Place) → place_eq x y ≡ true → x ≡ y
same-place x y e = place_antisymmetric x y (is-equal (place_cmp x y) (sym (place_ties x y) ∙ e))

mark-is : (reader : Reader) (place : Place) (mark : Mark) → wrote_at reader place mark ≡ true → mark ≡ Wrote reader place
mark-is reader place (Wrote by at) e =
    let parts = both (is_reader reader (Some by)) (place_eq at place) e in
    ap (λ who. Wrote who at) (same-reader reader by parts.0) ∙ ap (λ p. Wrote reader p) (same-place at place parts.1)
mark-is reader place (Went dir) e = cc
mark-is reader place (Broke by put count) e = cc

-- a mark that is kept stands in the trail
mark-stands : (before : ℕ) (book : List Entry) (marks : List (ℕ × Mark)) (at : ℕ) (kept : ℕ × Mark) → slice_get marks at ≡ Some kept
    → Contains (woven_from before book marks) (Marked kept.1)
mark-stands before book [] at kept e = cc
mark-stands before book (mark ∷ marks) zero kept e =
    let same : mark ≡ kept = cc in
    subst (λ m. Contains (woven_from before book (mark ∷ marks)) (Marked m)) (ap (λ m. m.1) same)
    (Contains-append_right (map Noted (take (mark.0 - before) book)) (Marked mark.1 ∷ woven_from mark.0 (drop (mark.0 - before) book) marks) (Marked mark.1)
    (0, omega arith, refl))
mark-stands before book (mark ∷ marks) (suc at) kept e =
    Contains-append_right (map Noted (take (mark.0 - before) book)) (Marked mark.1 ∷ woven_from mark.0 (drop (mark.0 - before) book) marks) (Marked kept.1)
    (behind-first (Marked mark.1) (woven_from mark.0 (drop (mark.0 - before) book) marks) (Marked kept.1) (mark-stands mark.0 (drop (mark.0 - before) book) marks at kept e))
  where
    behind-first : (first : TrailItem) (items : List TrailItem) (item : TrailItem) → Contains items item → Contains (first ∷ items) item
    behind-first first items item h = Contains-append_right (first ∷ []) items item h

pub written-at : (reader : Reader) (place : Place) (book : List Entry) (marks : List (ℕ × Mark)) (at : ℕ) → is_written reader place (slice_get marks at) ≡ true
    → HasWritten (woven_from 0 book marks) reader place
written-at reader place book marks at e = by (slice_get marks at) refl e
  where
    by : (found : Option (ℕ × Mark)) → slice_get marks at ≡ found → is_written reader place found ≡ true → HasWritten (woven_from 0 book marks) reader place
    by None is e = cc
    by (Some kept) is e =
        subst (λ m. Contains (woven_from 0 book marks) (Marked m)) (mark-is reader place kept.1 e) (mark-stands 0 book marks at kept is)
