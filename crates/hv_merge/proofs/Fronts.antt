-- The least of the first rows comes first of all, and the last of those that have it stands. Here a file is its rows.
use Rattle.std.proofs.Common.{if◌then◌else◌, refl, ◌≡◌, Bool, true, false, cond, Option, Some, None, List, [], ◌∷◌, ◌++◌, ◌==◌, map, sym, ap, ◌∙◌, subst}
use Rattle.std.specs.declared.cmp.Ordering.{Ordering}
use Rattle.std.specs.declared.cmp.Ordering.TheVariants.{Less, Equal, Greater}
use Rattle.std.specs.Ordering.{is_eq, ordering_reverse}
use Rattle.std.specs.Option.{option_to_list}
use Rattle.std.specs.Cmp.{tied_itself}
use Rattle.std.specs.List.{flat_map, AllByRecursion}
use Rattle.std.proofs.lemmas.Bool.{and_parts, eqb-true, cond-true, cond-false}
use Rattle.std.proofs.lemmas.Option.{same_Some}
use Rattle.hv_base.specs.declared.ids.RowId.{RowId}
use Rattle.hv_base.specs.Identifiers.{row_id_cmp, row_id_eq, row_id_total, row_id_ties}
use Rattle.hv_base.specs.Sorting.{merged_by, merge_by, rising_by}
use Rattle.hv_law_visible.specs.Visible.{by_id}
use Rattle.hv_law_visible.proofs.SortingLemmas.{Below, Rises}
use Rattle.hv_merge.specs.declared.shown.Shown.{Shown}
use Rattle.hv_merge.specs.Merging.{id_of}
use Rattle.hv_merge.specs.Steps.{later}

abbrev pub cmp : Shown → Shown → Ordering
cmp = by_id id_of

abbrev pub AllRise : List (List Shown) → Type 0
AllRise files = AllByRecursion (Rises cmp) files

-- the rows of the files one behind the other
abbrev pub all_rows : List (List Shown) → List Shown
all_rows files = flat_map (λ (file : List Shown). file) files

-- ---- identifiers

pub turned : (a b : RowId) (o : Ordering) → row_id_cmp a b ≡ o → row_id_cmp b a ≡ ordering_reverse o
turned a b o e = row_id_total.antisymm b a ∙ ap ordering_reverse e

pub same_id : (a b : RowId) → row_id_eq a b ≡ true → a ≡ b
same_id a b e =
    let one = and_parts (a.write.0 == b.write.0) _ e in
    let two = and_parts (a.statement == b.statement) _ one.1 in
    let three = and_parts (a.bucket == b.bucket) (a.row == b.row) two.1 in
    let w : a.write.0 ≡ b.write.0 = eqb-true a.write.0 b.write.0 one.0 in
    let s : a.statement ≡ b.statement = eqb-true a.statement b.statement two.0 in
    let k : a.bucket ≡ b.bucket = eqb-true a.bucket b.bucket three.0 in
    let r : a.row ≡ b.row = eqb-true a.row b.row three.1 in
    λ i. record { write = record { 0 = w i }; statement = s i; bucket = k i; row = r i }

pub tied_id : (a b : RowId) → row_id_cmp a b ≡ Equal → a ≡ b
tied_id a b e = same_id a b (row_id_ties a b ∙ ap is_eq e)

pub not_tied : (a b : RowId) (o : Ordering) → row_id_cmp a b ≡ o → is_eq o ≡ false → row_id_eq a b ≡ false
not_tied a b o e h = row_id_ties a b ∙ ap is_eq e ∙ h

-- ---- rows above an identifier

abbrev pub Over : RowId → List Shown → Type 0
Over m rows = AllByRecursion (λ (x : Shown). row_id_cmp x.id m ≡ Greater) rows

pub below-over : (x : Shown) (xs : List Shown) → Below cmp x xs → Over x.id xs
below-over x [] b = tt
below-over x (y ∷ ys) b = (turned x.id y.id Less b.0, below-over x ys b.1)

pub over-below : (x : Shown) (xs : List Shown) → Over x.id xs → Below cmp x xs
over-below x [] o = tt
over-below x (y ∷ ys) o = (turned y.id x.id Greater o.0, over-below x ys o.1)

over-more : (m : RowId) (x : Shown) (xs : List Shown) → row_id_cmp x.id m ≡ Greater → Below cmp x xs → Over m xs
over-more m x [] e b = tt
over-more m x (y ∷ ys) e b =
    (turned m y.id Less (row_id_total.trans m x.id y.id (turned x.id m Greater e) b.0), over-more m x ys e b.1)

over-by : (o : Ordering) (m : RowId) (x y : Shown) (ys put : List Shown) → row_id_cmp x.id m ≡ Greater → Over m (y ∷ ys) → Over m put
    → Over m (merged_by cmp o x y ys put)
over-by Less m x y ys put e h p = (e, h)
over-by Equal m x y ys put e h p = h
over-by Greater m x y ys put e h p = (h.0, p)

pub over-merge : (m : RowId) (x : Shown) (ys : List Shown) → row_id_cmp x.id m ≡ Greater → Over m ys → Over m (merge_by cmp x ys)
over-merge m x [] e h = (e, tt)
over-merge m x (y ∷ ys) e h = over-by (cmp x y) m x y ys (merge_by cmp x ys) e h (over-merge m x ys e h.1)

-- ---- a list put into a rising one

abbrev pub put_all : List Shown → List Shown → List Shown
put_all [] ys = ys
put_all (x ∷ xs) ys = merge_by cmp x (put_all xs ys)

pub rising-append : (xs ys : List Shown) → rising_by cmp (xs ++ ys) ≡ put_all xs (rising_by cmp ys)
rising-append [] ys = refl
rising-append (x ∷ xs) ys = ap (merge_by cmp x) (rising-append xs ys)

pub put-below : (x : Shown) (ys : List Shown) → Below cmp x ys → merge_by cmp x ys ≡ x ∷ ys
put-below x [] b = refl
put-below x (y ∷ ys) b = ap (λ o. merged_by cmp o x y ys (merge_by cmp x ys)) b.0

pub put-front : (xs : List Shown) (y : Shown) (ys : List Shown) → Over y.id xs → put_all xs (y ∷ ys) ≡ y ∷ put_all xs ys
put-front [] y ys o = refl
put-front (x ∷ xs) y ys o =
    ap (merge_by cmp x) (put-front xs y ys o.1) ∙ ap (λ o. merged_by cmp o x y (put_all xs ys) (merge_by cmp x (put_all xs ys))) o.0

put-tied : (x y : Shown) (ys : List Shown) → x.id ≡ y.id → merge_by cmp x (y ∷ ys) ≡ y ∷ ys
put-tied x y ys e =
    let tied : cmp x y ≡ Equal = ap (λ a. row_id_cmp a y.id) e ∙ tied_itself row_id_total y.id in
    ap (λ o. merged_by cmp o x y ys (merge_by cmp x ys)) tied

over-put : (m : RowId) (xs ys : List Shown) → Over m xs → Over m ys → Over m (put_all xs ys)
over-put m [] ys a b = b
over-put m (x ∷ xs) ys a b = over-merge m x (put_all xs ys) a.0 (over-put m xs ys a.1 b)

-- ---- the first rows

-- no file begins below m
abbrev pub NotBelow : RowId → List Shown → Type 0
NotBelow m [] = Unit {0}
NotBelow m (x ∷ xs) = row_id_cmp x.id m ≡ Less → ⊥

abbrev pub front_of : RowId → List Shown → Option Shown
front_of id [] = None
front_of id (shown ∷ rest) = if row_id_eq shown.id id then Some shown else None

abbrev pub behind_of : RowId → List Shown → List Shown
behind_of id [] = []
behind_of id (shown ∷ rest) = if row_id_eq shown.id id then rest else shown ∷ rest

abbrev pub last_of : RowId → List (List Shown) → Option Shown
last_of m [] = None
last_of m (file ∷ files) = later (front_of m file) (last_of m files)

pub later-none : (found : Option Shown) → later None found ≡ found
later-none None = refl
later-none (Some x) = refl

pub later-later : (a b c : Option Shown) → later (later a b) c ≡ later a (later b c)
later-later a b None = refl
later-later a b (Some x) = refl

front-id-by : (m : RowId) (x s : Shown) (b : Bool) → row_id_eq x.id m ≡ b → cond b (Some x) None ≡ Some s → s.id ≡ m
front-id-by m x s true is e = ap (λ (y : Shown). y.id) (sym (same_Some x s e)) ∙ same_id x.id m is
front-id-by m x s false is e = cc

front-id : (m : RowId) (file : List Shown) (s : Shown) → front_of m file ≡ Some s → s.id ≡ m
front-id m [] s e = cc
front-id m (x ∷ xs) s e = front-id-by m x s (row_id_eq x.id m) refl e

later-id : (m : RowId) (a b : Option Shown) (s : Shown) → (a ≡ Some s → s.id ≡ m) → (b ≡ Some s → s.id ≡ m) → later a b ≡ Some s → s.id ≡ m
later-id m a None s f g e = f e
later-id m a (Some x) s f g e = g e

pub last-id : (m : RowId) (files : List (List Shown)) (s : Shown) → last_of m files ≡ Some s → s.id ≡ m
last-id m [] s e = cc
last-id m (file ∷ files) s e = later-id m (front_of m file) (last_of m files) s (front-id m file s) (last-id m files s) e

-- ---- one step

abbrev pub left_of : RowId → List (List Shown) → List (List Shown)
left_of m files = map (behind_of m) files

pub record Step (m : RowId) (files : List (List Shown)) : Type 0 where
  pub first : rising_by cmp (all_rows files) ≡ option_to_list (last_of m files) ++ rising_by cmp (all_rows (left_of m files))
  pub over : Over m (rising_by cmp (all_rows (left_of m files)))

-- what is left of a file, and its first row, where it begins with m or above it
begins : (m : RowId) (x : Shown) (xs : List Shown) (o : Ordering) → row_id_cmp x.id m ≡ o → is_eq o ≡ true → (front_of m (x ∷ xs) ≡ Some x) × (behind_of m (x ∷ xs) ≡ xs)
begins m x xs o e t =
    let is : row_id_eq x.id m ≡ true = row_id_ties x.id m ∙ ap is_eq e ∙ t in
    (cond-true _ _ _ is, cond-true _ _ _ is)

pub begins_over : (m : RowId) (x : Shown) (xs : List Shown) (o : Ordering) → row_id_cmp x.id m ≡ o → is_eq o ≡ false → (front_of m (x ∷ xs) ≡ None) × (behind_of m (x ∷ xs) ≡ x ∷ xs)
begins_over m x xs o e t =
    let is : row_id_eq x.id m ≡ false = not_tied x.id m o e t in
    (cond-false _ _ _ is, cond-false _ _ _ is)

tied-by : (m : RowId) (x : Shown) (xs : List Shown) (l : Option Shown) (rest : List Shown) → x.id ≡ m → Below cmp x xs → Over m rest
    → ((s : Shown) → l ≡ Some s → s.id ≡ m)
    → put_all (x ∷ xs) (option_to_list l ++ rest) ≡ option_to_list (later (Some x) l) ++ put_all xs rest
tied-by m x xs None rest e b o ids =
    put-below x (put_all xs rest) (over-below x (put_all xs rest) (over-put x.id xs rest (below-over x xs b) (subst (λ a. Over a rest) (sym e) o)))
tied-by m x xs (Some s) rest e b o ids =
    let same : x.id ≡ s.id = e ∙ sym (ids s refl) in
    ap (merge_by cmp x) (put-front xs s rest (subst (λ a. Over a xs) same (below-over x xs b))) ∙ put-tied x s (put_all xs rest) same

over-file : (m : RowId) (f : List Shown) (l : Option Shown) (rest : List Shown) → Over m f → ((s : Shown) → l ≡ Some s → s.id ≡ m)
    → put_all f (option_to_list l ++ rest) ≡ option_to_list (later None l) ++ put_all f rest
over-file m f None rest o ids = refl
over-file m f (Some s) rest o ids = put-front f s rest (subst (λ a. Over a f) (sym (ids s refl)) o)

step-by : (o : Ordering) (m : RowId) (x : Shown) (xs : List Shown) (files : List (List Shown)) → row_id_cmp x.id m ≡ o
    → Rises cmp (x ∷ xs) → NotBelow m (x ∷ xs) → Step m files → Step m ((x ∷ xs) ∷ files)
step-by Less m x xs files e up not h = absurd (not e)
step-by Equal m x xs files e up not h =
    let rest = rising_by cmp (all_rows (left_of m files)) in
    let l = last_of m files in
    let at = begins m x xs Equal e refl in
    let same : x.id ≡ m = tied_id x.id m e in
    let after : rising_by cmp (all_rows (left_of m ((x ∷ xs) ∷ files))) ≡ put_all xs rest =
    ap (λ (f : List Shown). rising_by cmp (f ++ all_rows (left_of m files))) at.1 ∙ rising-append xs (all_rows (left_of m files)) in
    record {
      first = rising-append (x ∷ xs) (all_rows files) ∙ ap (put_all (x ∷ xs)) h.first
          ∙ tied-by m x xs l rest same up.0 h.over (last-id m files)
          ∙ ap (λ (f : Option Shown). option_to_list (later f l) ++ put_all xs rest) (sym at.0)
          ∙ ap (λ (z : List Shown). option_to_list (last_of m ((x ∷ xs) ∷ files)) ++ z) (sym after);
      over = subst (Over m) (sym after) (over-put m xs rest (subst (λ a. Over a xs) same (below-over x xs up.0)) h.over);
    }
step-by Greater m x xs files e up not h =
    let rest = rising_by cmp (all_rows (left_of m files)) in
    let l = last_of m files in
    let at = begins_over m x xs Greater e refl in
    let over : Over m (x ∷ xs) = (e, over-more m x xs e up.0) in
    let after : rising_by cmp (all_rows (left_of m ((x ∷ xs) ∷ files))) ≡ put_all (x ∷ xs) rest =
    ap (λ (f : List Shown). rising_by cmp (f ++ all_rows (left_of m files))) at.1 ∙ rising-append (x ∷ xs) (all_rows (left_of m files)) in
    record {
      first = rising-append (x ∷ xs) (all_rows files) ∙ ap (put_all (x ∷ xs)) h.first
          ∙ over-file m (x ∷ xs) l rest over (last-id m files)
          ∙ ap (λ (f : Option Shown). option_to_list (later f l) ++ put_all (x ∷ xs) rest) (sym at.0)
          ∙ ap (λ (z : List Shown). option_to_list (last_of m ((x ∷ xs) ∷ files)) ++ z) (sym after);
      over = subst (Over m) (sym after) (over-put m (x ∷ xs) rest over h.over);
    }

pub step : (m : RowId) (files : List (List Shown)) → AllRise files → AllByRecursion (NotBelow m) files → Step m files
step m [] up not = record { first = refl; over = tt }
step m ([] ∷ files) up not =
    let h = step m files up.1 not.1 in
    record {
      first = h.first ∙ ap (λ (l : Option Shown). option_to_list l ++ rising_by cmp (all_rows (left_of m files))) (sym (later-none (last_of m files)));
      over = h.over;
    }
step m ((x ∷ xs) ∷ files) up not = step-by (row_id_cmp x.id m) m x xs files refl up.0 not.0 (step m files up.1 not.1)

-- what is left rises
rises-left-by : (b : Bool) (x : Shown) (xs : List Shown) → Rises cmp (x ∷ xs) → Rises cmp (cond b xs (x ∷ xs))
rises-left-by true x xs up = up.1
rises-left-by false x xs up = up

rises-behind : (m : RowId) (file : List Shown) → Rises cmp file → Rises cmp (behind_of m file)
rises-behind m [] up = tt
rises-behind m (x ∷ xs) up = rises-left-by (row_id_eq x.id m) x xs up

pub rises-left : (m : RowId) (files : List (List Shown)) → AllRise files → AllRise (left_of m files)
rises-left m [] up = tt
rises-left m (file ∷ files) up = (rises-behind m file up.0, rises-left m files up.1)
