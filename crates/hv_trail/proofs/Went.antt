-- Which directories the marks of a trail say were taken away.
use Rattle.std.proofs.Common.{◌≡◌, ◌⊎◌, inl, inr, ℕ, ◌-◌, Bool, true, false, IsTrue, List, [], ◌∷◌, ◌++◌, map, take, drop, refl, sym, ap, ◌∙◌, arith}
use Rattle.std.specs.Prelude.{◌&&◌, ◌||◌, ◌==◌, ◌↔◌, nat_eq, Contains}
use Rattle.std.specs.List.{list_any}
use Rattle.std.specs.Cmp.Lexicographic.{pointwise}
use Rattle.std.proofs.lemmas.List.Elements.{Contains-append_right}
use Rattle.hv_shelf.specs.declared.place.Place.{Place}
use Rattle.hv_shelf.specs.declared.place.DirAt.{DirAt}
use Rattle.hv_shelf.specs.Places.{place_eq}
use Rattle.hv_book.specs.hv_history.specs.declared.entry.Entry.{Entry}
use Rattle.hv_trail.specs.declared.trail.Mark.{Mark}
use Rattle.hv_trail.specs.declared.trail.Mark.TheVariants.{Wrote, Went, Broke}
use Rattle.hv_trail.specs.declared.trail.TrailItem.{TrailItem}
use Rattle.hv_trail.specs.declared.trail.TrailItem.TheVariants.{Noted, Marked}
use Rattle.hv_trail.specs.Trail.{woven_from, HasGone}
use Rattle.hv_trail.specs.Kept.{dir_eq, went_at, is_gone_by}
use Rattle.hv_trail.proofs.Asked.{both, same-place}
use Rattle.hv_trail.proofs.Written.{first-or-later, behind-book, no-mark, or-first, or-later, and-true, self-place}

-- ---- two directories are one

abbrev first_of : DirAt → Place
first_of dir = record { table = dir.table; partition = dir.partition; dir = dir.dir; bucket = 0 }

pub same-dir : (x y : DirAt) → dir_eq x y ≡ true → x ≡ y
same-dir x y e =
    let table = both (x.table.0 == y.table.0) (pointwise nat_eq x.partition y.partition && pointwise nat_eq x.dir y.dir) e in
    let texts = both (pointwise nat_eq x.partition y.partition) (pointwise nat_eq x.dir y.dir) table.1 in
    let as_places : place_eq (first_of x) (first_of y) ≡ true =
    and-true (x.table.0 == y.table.0) (pointwise nat_eq x.partition y.partition && (pointwise nat_eq x.dir y.dir && (0 == 0))) table.0
    (and-true (pointwise nat_eq x.partition y.partition) (pointwise nat_eq x.dir y.dir && (0 == 0)) texts.0
    (and-true (pointwise nat_eq x.dir y.dir) (0 == 0) texts.1 refl)) in
    ap (λ (p : Place). record { table = p.table; partition = p.partition; dir = p.dir }) (same-place (first_of x) (first_of y) as_places)

pub dir-itself : (dir : DirAt) → dir_eq dir dir ≡ true
dir-itself dir =
    let whole : place_eq (first_of dir) (first_of dir) ≡ true = self-place (first_of dir) in
    let table = both (dir.table.0 == dir.table.0) (pointwise nat_eq dir.partition dir.partition && (pointwise nat_eq dir.dir dir.dir && (0 == 0))) whole in
    let partition = both (pointwise nat_eq dir.partition dir.partition) (pointwise nat_eq dir.dir dir.dir && (0 == 0)) table.1 in
    let name = both (pointwise nat_eq dir.dir dir.dir) (0 == 0) partition.1 in
    and-true (dir.table.0 == dir.table.0) (pointwise nat_eq dir.partition dir.partition && pointwise nat_eq dir.dir dir.dir) table.0
    (and-true (pointwise nat_eq dir.partition dir.partition) (pointwise nat_eq dir.dir dir.dir) partition.0 name.0)

-- ---- a mark says so of itself

went-is : (dir : DirAt) (mark : Mark) → went_at dir mark ≡ true → mark ≡ Went dir
went-is dir (Wrote by place) e = cc
went-is dir (Went at) e = ap (λ d. Went d) (same-dir at dir e)
went-is dir (Broke by put count) e = cc

-- ---- the marks that are kept, and the trail

later : (first : TrailItem) (items : List TrailItem) (item : TrailItem) → Contains items item → Contains (first ∷ items) item
later first items item h = Contains-append_right (first ∷ []) items item h

stands : (dir : DirAt) (before : ℕ) (book : List Entry) (marks : List (ℕ × Mark)) → list_any (is_gone_by dir) marks ≡ true
    → HasGone (woven_from before book marks) dir
stands dir before book [] e = cc
stands dir before book (mark ∷ marks) e =
    by (went_at dir mark.1) refl (λ so. stands dir mark.0 (drop (mark.0 - before) book) marks so)
  where
    rest : List TrailItem
    rest = woven_from mark.0 (drop (mark.0 - before) book) marks

    behind : Contains (Marked mark.1 ∷ rest) (Marked (Went dir)) → HasGone (woven_from before book (mark ∷ marks)) dir
    behind h = Contains-append_right (map Noted (take (mark.0 - before) book)) (Marked mark.1 ∷ rest) (Marked (Went dir)) h

    by : (b : Bool) → went_at dir mark.1 ≡ b → (list_any (is_gone_by dir) marks ≡ true → HasGone rest dir)
        → HasGone (woven_from before book (mark ∷ marks)) dir
    by true is more = behind (0, omega arith, ap (λ m. Marked m) (went-is dir mark.1 is))
    by false is more =
        behind (later (Marked mark.1) rest (Marked (Went dir)) (more (ap (λ b. b || list_any (is_gone_by dir) marks) (sym is) ∙ e)))

kept : (dir : DirAt) (before : ℕ) (book : List Entry) (marks : List (ℕ × Mark)) → HasGone (woven_from before book marks) dir
    → list_any (is_gone_by dir) marks ≡ true
kept dir before book [] h = absurd (no-mark book (Went dir) h)
kept dir before book (mark ∷ marks) h =
    by (first-or-later (Marked mark.1) rest (Marked (Went dir)) (behind-book (take (mark.0 - before) book) (Marked mark.1 ∷ rest) (Went dir) h))
    (kept dir mark.0 (drop (mark.0 - before) book) marks)
  where
    rest : List TrailItem
    rest = woven_from mark.0 (drop (mark.0 - before) book) marks

    by : (Marked mark.1 ≡ Marked (Went dir)) ⊎ Contains rest (Marked (Went dir)) → (HasGone rest dir → list_any (is_gone_by dir) marks ≡ true)
        → list_any (is_gone_by dir) (mark ∷ marks) ≡ true
    by (inl same) more =
        let is : mark.1 ≡ Went dir = cc in
        or-first (went_at dir mark.1) (list_any (is_gone_by dir) marks) (ap (went_at dir) is ∙ dir-itself dir)
    by (inr has) more = or-later (went_at dir mark.1) (list_any (is_gone_by dir) marks) (more has)

pub gone-is : (dir : DirAt) (book : List Entry) (marks : List (ℕ × Mark)) (found : Bool) → found ≡ list_any (is_gone_by dir) marks
    → IsTrue found ↔ HasGone (woven_from 0 book marks) dir
gone-is dir book marks found is = (
  λ yes. stands dir 0 book marks (sym is ∙ yes),
  λ h. is ∙ kept dir 0 book marks h,
)
