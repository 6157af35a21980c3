-- What is left of the rows once the deleted ones are taken away.
use Rattle.std.proofs.Common.{refl, ◌≡◌, Bool, true, false, cond, not, ◌||◌, ◌&&◌, Option, Some, None, List, [], ◌∷◌, ◌++◌, ◌+◌, ℕ, suc, arith, map, filter, drop, sym, ap, ◌∙◌, subst, true≢false, IsPermutation, append_assoc}
use Rattle.std.specs.declared.cmp.Ordering.{Ordering}
use Rattle.std.specs.declared.cmp.Ordering.TheVariants.{Less, Equal, Greater}
use Rattle.std.specs.Ordering.{is_lt, is_eq}
use Rattle.std.specs.Option.{option_to_list}
use Rattle.std.specs.List.{flat_map, list_any, prefix_len, cons_option, AllByRecursion}
use Rattle.std.proofs.lemmas.List.{append-nil}
use Rattle.std.proofs.lemmas.List.Elements.{filter-append}
use Rattle.std.proofs.lemmas.List.Folds.{list_any-append}
use Rattle.std.proofs.lemmas.List.Sorted.{list_any-IsPermutation}
use Rattle.hv_base.specs.declared.ids.RowId.{RowId}
use Rattle.hv_base.specs.Identifiers.{row_id_cmp, row_id_total, row_id_ties}
use Rattle.hv_wids.specs.WriteIds.{WriteIds, is_valid}
use Rattle.hv_dirs.specs.Choice.{sight_of}
use Rattle.hv_base.specs.Sorting.{merged_by, merge_by, rising_by}
use Rattle.hv_base.proofs.SortingLaws as sorting
use Rattle.hv_law_visible.specs.History.{is_row}
use Rattle.hv_law_visible.specs.Visible.{names_it, is_gone, is_visible}
use Rattle.hv_law_visible.proofs.SortingLemmas.{Below, Rises, rises-rising}
use Rattle.hv_law_visible.proofs.RowLemmas.{by_id-total}
use Rattle.hv_rowfile.specs.declared.record.Rec.{Rec}
use Rattle.hv_rowfile.specs.declared.record.Rec.TheVariants as rec
use Rattle.hv_rowfile.specs.Layout as layout
use Rattle.hv_merge.specs.declared.shown.Shown.{Shown}
use Rattle.hv_merge.specs.Merging.{id_of, rows_in, deletes_in, merged}
use Rattle.hv_merge.specs.Steps.{valid_rows, valid_deletes, gone_from, begins_with, is_below, kept_front}
use Rattle.hv_merge.proofs.Fronts.{cmp, AllRise, all_rows, Over, NotBelow, turned, tied_id, not_tied, left_of, last_of, Step, step, put-below, last-id}
use Rattle.hv_merge.proofs.RisingLemmas.{lt-is}

abbrev pub is_in : RowId → List RowId → Bool
is_in id gone = list_any (λ (other : RowId). is_row other id) gone

abbrev pub kept : List RowId → List Shown → List Shown
kept gone rows = filter (λ (shown : Shown). not (is_in shown.id gone)) rows

-- what is still to come
abbrev pub coming : List RowId → List (List Shown) → List Shown
coming gone files = kept gone (rising_by cmp (all_rows files))

-- ---- the deleted identifiers go along

abbrev pub IdsRise : List RowId → Type 0
IdsRise gone = sorting.Rises row_id_cmp gone

gone-more : (id other : RowId) (gone : List RowId) (b : Bool) → is_below id other ≡ b
    → gone_from id (other ∷ gone) ≡ cond b (gone_from id gone) (other ∷ gone)
gone-more id other gone true e =
    let more : 1 + prefix_len (is_below id) gone ≡ suc (prefix_len (is_below id) gone) = omega arith in
    ap (λ b. drop (cond b (1 + prefix_len (is_below id) gone) 0) (other ∷ gone)) e ∙ ap (λ n. drop n (other ∷ gone)) more
gone-more id other gone false e = ap (λ b. drop (cond b (1 + prefix_len (is_below id) gone) 0) (other ∷ gone)) e

-- what is below id is no identifier from id on
apart-by : (id other m : RowId) (o : Ordering) → row_id_cmp other m ≡ o → is_below id other ≡ true → (row_id_cmp m id ≡ Less → ⊥) → is_eq o ≡ false
apart-by id other m Less e below not = refl
apart-by id other m Greater e below not = refl
apart-by id other m Equal e below not =
    absurd (not (ap (λ a. row_id_cmp a id) (sym (tied_id other m e)) ∙ lt-is (row_id_cmp other id) below))

apart : (id other m : RowId) → is_below id other ≡ true → (row_id_cmp m id ≡ Less → ⊥) → is_row other m ≡ false
apart id other m = apart-by id other m (row_id_cmp other m) refl

still-by : (b : Bool) (id m other : RowId) (gone : List RowId) → is_below id other ≡ b → (row_id_cmp m id ≡ Less → ⊥)
    → is_in m gone ≡ is_in m (gone_from id gone) → is_in m (other ∷ gone) ≡ is_in m (cond b (gone_from id gone) (other ∷ gone))
still-by true id m other gone e not h = ap (λ b. b || is_in m gone) (apart id other m e not) ∙ h
still-by false id m other gone e not h = refl

still-gone : (id m : RowId) (gone : List RowId) → (row_id_cmp m id ≡ Less → ⊥) → is_in m gone ≡ is_in m (gone_from id gone)
still-gone id m [] not = refl
still-gone id m (other ∷ gone) not =
    still-by (is_below id other) id m other gone refl not (still-gone id m gone not) ∙ ap (is_in m) (sym (gone-more id other gone (is_below id other) refl))

rises-gone-by : (b : Bool) (other : RowId) (gone fewer : List RowId) → IdsRise (other ∷ gone) → IdsRise fewer → IdsRise (cond b fewer (other ∷ gone))
rises-gone-by true other gone fewer up h = h
rises-gone-by false other gone fewer up h = up

pub rises-gone : (id : RowId) (gone : List RowId) → IdsRise gone → IdsRise (gone_from id gone)
rises-gone id [] up = tt
rises-gone id (other ∷ gone) up =
    subst IdsRise (sym (gone-more id other gone (is_below id other) refl))
    (rises-gone-by (is_below id other) other gone (gone_from id gone) up (rises-gone id gone up.1))

-- none of those behind one above id
none-by : (id first other : RowId) (o : Ordering) → row_id_cmp other id ≡ o → row_id_cmp first id ≡ Greater → is_lt (row_id_cmp other first) ≡ false → is_eq o ≡ false
none-by id first other Less e over lead = refl
none-by id first other Greater e over lead = refl
none-by id first other Equal e over lead =
    absurd (true≢false (sym (ap is_lt (turned first id Greater over)) ∙ ap (λ a. is_lt (row_id_cmp a first)) (sym (tied_id other id e)) ∙ lead))

none-behind : (id first : RowId) (gone : List RowId) → row_id_cmp first id ≡ Greater → sorting.Leads row_id_cmp first gone → is_in id gone ≡ false
none-behind id first [] over leads = refl
none-behind id first (other ∷ gone) over leads =
    ap (λ b. b || is_in id gone) (none-by id first other (row_id_cmp other id) refl over leads.0) ∙ none-behind id first gone over leads.1

starts-by : (o : Ordering) (id first : RowId) (gone : List RowId) → row_id_cmp first id ≡ o → IdsRise (first ∷ gone)
    → (IdsRise gone → begins_with id (gone_from id gone) ≡ is_in id gone)
    → begins_with id (cond (is_lt o) (gone_from id gone) (first ∷ gone)) ≡ (is_eq o || is_in id gone)
starts-by Less id first gone e up h = h up.1
starts-by Equal id first gone e up h = row_id_ties first id ∙ ap is_eq e
starts-by Greater id first gone e up h = not_tied first id Greater e refl ∙ sym (none-behind id first gone e up.0)

pub starts : (id : RowId) (gone : List RowId) → IdsRise gone → begins_with id (gone_from id gone) ≡ is_in id gone
starts id [] up = refl
starts id (first ∷ gone) up =
    ap (begins_with id) (gone-more id first gone (is_below id first) refl)
    ∙ starts-by (row_id_cmp first id) id first gone refl up (starts id gone)

-- ---- one step

over-not : (id m : RowId) → row_id_cmp id m ≡ Greater → row_id_cmp id m ≡ Less → ⊥
over-not id m e less = let z : Greater ≡ Less = sym e ∙ less in cc

pub kept-later : (m : RowId) (gone : List RowId) (rows : List Shown) → Over m rows → kept gone rows ≡ kept (gone_from m gone) rows
kept-later m gone [] over = refl
kept-later m gone (x ∷ rows) over =
    ap (λ b. cond (not b) (x ∷ kept gone rows) (kept gone rows)) (still-gone m x.id gone (over-not x.id m over.0))
    ∙ ap (λ (z : List Shown). cond (not (is_in x.id (gone_from m gone))) (x ∷ z) z) (kept-later m gone rows over.1)

came : (m : RowId) (gone : List RowId) (files : List (List Shown)) (l : Option Shown) → Step m files → last_of m files ≡ l
    → coming gone files ≡ kept gone (option_to_list l) ++ coming (gone_from m gone) (left_of m files)
came m gone files l h e =
    let rest = rising_by cmp (all_rows (left_of m files)) in
    ap (kept gone) (h.first ∙ ap (λ (f : Option Shown). option_to_list f ++ rest) (e))
    ∙ filter-append (λ (shown : Shown). not (is_in shown.id gone)) (option_to_list l) rest
    ∙ ap (λ (z : List Shown). kept gone (option_to_list l) ++ z) (kept-later m gone rest h.over)

its-id : (m : RowId) (files : List (List Shown)) (s : Shown) → last_of m files ≡ Some s → s.id ≡ m
its-id m files s e = last-id m files s e

-- the row is one more, where it isn't deleted
pub one-more : (m : RowId) (gone : List RowId) (files : List (List Shown)) (s : Shown) → IdsRise gone → Step m files → Some s ≡ last_of m files
    → begins_with m (gone_from m gone) ≡ false → coming gone files ≡ s ∷ coming (gone_from m gone) (left_of m files)
one-more m gone files s up h e is =
    let away : is_in s.id gone ≡ false = ap (λ a. is_in a gone) (its-id m files s (sym e)) ∙ sym (starts m gone up) ∙ is in
    came m gone files (Some s) h (sym e)
    ∙ ap (λ b. cond (not b) (s ∷ []) [] ++ coming (gone_from m gone) (left_of m files)) away

pub one-gone : (m : RowId) (gone : List RowId) (files : List (List Shown)) (s : Shown) → IdsRise gone → Step m files → Some s ≡ last_of m files
    → begins_with m (gone_from m gone) ≡ true → coming gone files ≡ coming (gone_from m gone) (left_of m files)
one-gone m gone files s up h e is =
    let away : is_in s.id gone ≡ true = ap (λ a. is_in a gone) (its-id m files s (sym e)) ∙ sym (starts m gone up) ∙ is in
    came m gone files (Some s) h (sym e)
    ∙ ap (λ b. cond (not b) (s ∷ []) [] ++ coming (gone_from m gone) (left_of m files)) away

pub none-more : (m : RowId) (gone : List RowId) (files : List (List Shown)) → Step m files → None ≡ last_of m files
    → coming gone files ≡ coming (gone_from m gone) (left_of m files)
none-more m gone files h e = came m gone files None h (sym e)

next-by : (b : Bool) (m : RowId) (gone : List RowId) (files : List (List Shown)) (s : Shown) → IdsRise gone → Step m files → Some s ≡ last_of m files
    → begins_with m (gone_from m gone) ≡ b
    → coming gone files ≡ cond b [] (s ∷ []) ++ coming (gone_from m gone) (left_of m files)
next-by true m gone files s up h e is = one-gone m gone files s up h e is
next-by false m gone files s up h e is = one-more m gone files s up h e is

next-of : (m : RowId) (gone : List RowId) (files : List (List Shown)) (found : Option Shown) → IdsRise gone → Step m files → found ≡ last_of m files
    → coming gone files ≡ kept_front (gone_from m gone) m found ++ coming (gone_from m gone) (left_of m files)
next-of m gone files None up h e = none-more m gone files h e
next-of m gone files (Some s) up h e = next-by (begins_with m (gone_from m gone)) m gone files s up h e refl

pub one-step : (m : RowId) (gone still : List RowId) (files rest : List (List Shown)) (rows grown whole : List Shown) (found : Option Shown)
    → IdsRise gone → AllRise files → AllByRecursion (NotBelow m) files
    → still ≡ gone_from m gone → rest ≡ left_of m files → found ≡ last_of m files → grown ≡ rows ++ kept_front still m found
    → rows ++ coming gone files ≡ whole → grown ++ coming still rest ≡ whole
one-step m gone still files rest rows grown whole found up rise e es er ef eg before =
    ap (λ (z : List Shown). z ++ coming still rest) eg
    ∙ append_assoc rows (kept_front still m found) (coming still rest)
    ∙ ap (λ (z : List Shown). rows ++ z) ((λ i. kept_front (es i) m found ++ coming (es i) (er i)) ∙ sym (next-of m gone files found up (step m files rise e) ef))
    ∙ before

pub finished : (gone : List RowId) (files : List (List Shown)) (rows whole : List Shown) → all_rows files ≡ [] → rows ++ coming gone files ≡ whole → rows ≡ whole
finished gone files rows whole e before =
    sym (append-nil rows) ∙ ap (λ (z : List Shown). rows ++ kept gone (rising_by cmp z)) (sym e) ∙ before

-- ---- a filter by identifiers goes through

module _ (q : RowId → Bool) where
  sifted : List Shown → List Shown
  sifted rows = filter (λ (shown : Shown). q shown.id) rows

  through-less : (a : Bool) (x : Shown) (rows : List Shown) → Below cmp x rows → cond a (x ∷ rows) rows ≡ cond a (merge_by cmp x rows) rows
  through-less true x rows below = sym (put-below x rows below)
  through-less false x rows below = refl

  through-equal : (a b : Bool) (x y : Shown) (rows : List Shown) → cmp x y ≡ Equal → a ≡ b
      → cond b (y ∷ rows) rows ≡ cond a (merge_by cmp x (cond b (y ∷ rows) rows)) (cond b (y ∷ rows) rows)
  through-equal true true x y rows e same = sym (ap (λ o. merged_by cmp o x y rows (merge_by cmp x rows)) e)
  through-equal true false x y rows e same = absurd (true≢false same)
  through-equal false b x y rows e same = refl

  through-greater : (a b : Bool) (x y : Shown) (rows more : List Shown) → cmp x y ≡ Greater → more ≡ cond a (merge_by cmp x rows) rows
      → cond b (y ∷ more) more ≡ cond a (merge_by cmp x (cond b (y ∷ rows) rows)) (cond b (y ∷ rows) rows)
  through-greater true true x y rows more e h = ap (λ (z : List Shown). y ∷ z) h ∙ sym (ap (λ o. merged_by cmp o x y rows (merge_by cmp x rows)) e)
  through-greater true false x y rows more e h = h
  through-greater false true x y rows more e h = ap (λ (z : List Shown). y ∷ z) h
  through-greater false false x y rows more e h = h

  below-kept : (b : Bool) (x y : Shown) (rows : List Shown) → cmp x y ≡ Less → Below cmp x rows → Below cmp x (cond b (y ∷ rows) rows)
  below-kept true x y rows e h = (e, h)
  below-kept false x y rows e h = h

  below-sifted : (x : Shown) (rows : List Shown) → Below cmp x rows → Below cmp x (sifted rows)
  unfolding sifted
  below-sifted x [] h = tt
  below-sifted x (y ∷ rows) h = below-kept (q y.id) x y (sifted rows) h.0 (below-sifted x rows h.1)

  below-far : (x y : Shown) (rows : List Shown) → cmp x y ≡ Less → Below cmp y rows → Below cmp x rows
  below-far x y [] e h = tt
  below-far x y (z ∷ rows) e h = (row_id_total.trans x.id y.id z.id e h.0, below-far x y rows e h.1)

  through-by : (o : Ordering) (x y : Shown) (rows : List Shown) → cmp x y ≡ o → Rises cmp (y ∷ rows)
      → sifted (merge_by cmp x rows) ≡ cond (q x.id) (merge_by cmp x (sifted rows)) (sifted rows)
      → sifted (merged_by cmp o x y rows (merge_by cmp x rows)) ≡ cond (q x.id) (merge_by cmp x (sifted (y ∷ rows))) (sifted (y ∷ rows))
  unfolding sifted
  through-by Less x y rows e up h =
      through-less (q x.id) x (sifted (y ∷ rows)) (below-sifted x (y ∷ rows) (e, below-far x y rows e up.0))
  through-by Equal x y rows e up h = through-equal (q x.id) (q y.id) x y (sifted rows) e (ap q (tied_id x.id y.id e))
  through-by Greater x y rows e up h = through-greater (q x.id) (q y.id) x y (sifted rows) (sifted (merge_by cmp x rows)) e h

  through : (x : Shown) (rows : List Shown) → Rises cmp rows
      → sifted (merge_by cmp x rows) ≡ cond (q x.id) (merge_by cmp x (sifted rows)) (sifted rows)
  unfolding sifted
  through x [] up = refl
  through x (y ∷ rows) up = through-by (cmp x y) x y rows refl up (through x rows up.1)

  rising-cond : (b : Bool) (x : Shown) (rows : List Shown) → cond b (merge_by cmp x (rising_by cmp rows)) (rising_by cmp rows) ≡ rising_by cmp (cond b (x ∷ rows) rows)
  rising-cond true x rows = refl
  rising-cond false x rows = refl

  pub sifted-rising : (rows : List Shown) → filter (λ (shown : Shown). q shown.id) (rising_by cmp rows) ≡ rising_by cmp (filter (λ (shown : Shown). q shown.id) rows)
  unfolding sifted
  sifted-rising [] = refl
  sifted-rising (x ∷ rows) =
      through x (rising_by cmp rows) (rises-rising cmp (by_id-total id_of) rows)
      ∙ ap (λ (z : List Shown). cond (q x.id) (merge_by cmp x z) z) (sifted-rising rows)
      ∙ rising-cond (q x.id) x (sifted rows)

-- ---- the start

is_valid_row : WriteIds → Shown → Bool
is_valid_row list shown = is_valid list shown.id.write.0

valid-option : (b : Bool) (x : Shown) (rows : List Shown) → cons_option (cond b (Some x) None) rows ≡ cond b (x ∷ rows) rows
valid-option true x rows = refl
valid-option false x rows = refl

rows-valid : (list : WriteIds) (recs : List Rec) → valid_rows list recs ≡ filter (is_valid_row list) (rows_in recs)
unfolding is_valid_row
rows-valid list [] = refl
rows-valid list (rec.Insert id row ∷ recs) =
    valid-option (is_valid list id.write.0) (record { id = id; row = row }) (valid_rows list recs)
    ∙ ap (λ (z : List Shown). cond (is_valid list id.write.0) (record { id = id; row = row } ∷ z) z) (rows-valid list recs)
rows-valid list (rec.Delete id by ∷ recs) = rows-valid list recs

all-valid : (list : WriteIds) (files : List (List Rec)) → all_rows (map (valid_rows list) files) ≡ filter (is_valid_row list) (flat_map rows_in files)
all-valid list [] = refl
all-valid list (file ∷ files) =
    ap (λ (z : List Shown). z ++ all_rows (map (valid_rows list) files)) (rows-valid list file)
    ∙ ap (λ (z : List Shown). filter (is_valid_row list) (rows_in file) ++ z) (all-valid list files)
    ∙ sym (filter-append (is_valid_row list) (rows_in file) (flat_map rows_in files))

delete-by : (b : Bool) (id other : RowId) (a : Bool) (ids : List RowId) → a ≡ is_in id ids
    → ((b && is_row other id) || a) ≡ is_in id (cons_option (cond b (Some other) None) ids)
delete-by true id other a ids e = ap (λ c. is_row other id || c) e
delete-by false id other a ids e = e

gone-file : (list : WriteIds) (id : RowId) (recs : List Rec) → is_gone (sight_of list) (deletes_in recs) id ≡ is_in id (valid_deletes list recs)
gone-file list id [] = refl
gone-file list id (rec.Insert other row ∷ recs) = gone-file list id recs
gone-file list id (rec.Delete other by ∷ recs) =
    delete-by (is_valid list by.0) id other (is_gone (sight_of list) (deletes_in recs) id) (valid_deletes list recs) (gone-file list id recs)

gone-files : (list : WriteIds) (id : RowId) (files : List (List Rec)) → is_gone (sight_of list) (flat_map deletes_in files) id ≡ is_in id (flat_map (valid_deletes list) files)
gone-files list id [] = refl
gone-files list id (file ∷ files) =
    list_any-append (names_it (sight_of list) id) (deletes_in file) (flat_map deletes_in files)
    ∙ ap (λ b. b || is_gone (sight_of list) (flat_map deletes_in files) id) (gone-file list id file)
    ∙ ap (λ b. is_in id (valid_deletes list file) || b) (gone-files list id files)
    ∙ sym (list_any-append (λ (other : RowId). is_row other id) (valid_deletes list file) (flat_map (valid_deletes list) files))

visible-by : (v g : Bool) (x : Shown) (ids : List RowId) (seen rows : List Shown) → g ≡ is_in x.id ids → seen ≡ kept ids rows
    → cond (v && not g) (x ∷ seen) seen ≡ kept ids (cond v (x ∷ rows) rows)
visible-by true g x ids seen rows e h =
    ap (λ b. cond (not b) (x ∷ seen) seen) e ∙ ap (λ (z : List Shown). cond (not (is_in x.id ids)) (x ∷ z) z) h
visible-by false g x ids seen rows e h = h

visible : (list : WriteIds) (ids : List RowId) (deletes : List (RowId × ℕ)) (rows : List Shown)
    → ((id : RowId) → is_gone (sight_of list) deletes id ≡ is_in id ids)
    → filter (λ (shown : Shown). is_visible (sight_of list) deletes (id_of shown)) rows ≡ kept ids (filter (is_valid_row list) rows)
unfolding is_valid_row
visible list ids deletes [] h = refl
visible list ids deletes (x ∷ rows) h =
    visible-by (is_valid list x.id.write.0) (is_gone (sight_of list) deletes x.id) x ids
    (filter (λ (shown : Shown). is_visible (sight_of list) deletes (id_of shown)) rows) (filter (is_valid_row list) rows) (h x.id) (visible list ids deletes rows h)

pub begun : (list : WriteIds) (files deletes : List (List Rec)) (ids : List RowId) → IsPermutation (flat_map (valid_deletes list) deletes) ids
    → coming ids (map (valid_rows list) files) ≡ merged list files deletes
unfolding merged
begun list files deletes ids permuted =
    sifted-rising (λ id. not (is_in id ids)) (all_rows (map (valid_rows list) files))
    ∙ ap (λ (z : List Shown). rising_by cmp (kept ids z)) (all-valid list files)
    ∙ ap (rising_by cmp) (sym (visible list ids (flat_map deletes_in deletes) (flat_map rows_in files)
    (λ id. gone-files list id deletes ∙ list_any-IsPermutation (λ (other : RowId). is_row other id) (flat_map (valid_deletes list) deletes) ids permuted)))

-- ---- the rows of a file rise

abbrev pub AllAbove : RowId → List Shown → Type 0
AllAbove id rows = AllByRecursion (λ (x : Shown). row_id_cmp id x.id ≡ Less) rows

above-far : (a b : RowId) (rows : List Shown) → row_id_cmp a b ≡ Less → AllAbove b rows → AllAbove a rows
above-far a b [] e h = tt
above-far a b (x ∷ rows) e h = (row_id_total.trans a b x.id e h.0, above-far a b rows e h.1)

module _ (list : WriteIds) where
  above-option : (b : Bool) (a : RowId) (x : Shown) (rows : List Shown) → row_id_cmp a x.id ≡ Less → AllAbove a rows → AllAbove a (cons_option (cond b (Some x) None) rows)
  above-option true a x rows e h = (e, h)
  above-option false a x rows e h = h

  pub above : (a : RowId) (recs : List Rec) → layout.RisesFrom (Some a) recs → AllAbove a (valid_rows list recs)
  above a [] up = tt
  above a (rec.Insert id row ∷ recs) up =
      above-option (is_valid list id.write.0) a (record { id = id; row = row }) (valid_rows list recs) up.0
      (above-far a id (valid_rows list recs) up.0 (above id recs up.1))
  above a (rec.Delete id by ∷ recs) up = above-far a id (valid_rows list recs) up.0 (above id recs up.1)

  rises-option : (b : Bool) (x : Shown) (rows : List Shown) → AllAbove x.id rows → Rises cmp rows → Rises cmp (cons_option (cond b (Some x) None) rows)
  rises-option true x rows e h = (e, h)
  rises-option false x rows e h = h

  pub rises-file : (before : Option RowId) (recs : List Rec) → layout.RisesFrom before recs → Rises cmp (valid_rows list recs)
  rises-file before [] up = tt
  rises-file before (rec.Insert id row ∷ recs) up =
      rises-option (is_valid list id.write.0) (record { id = id; row = row }) (valid_rows list recs) (above id recs up.1) (rises-file (Some id) recs up.1)
  rises-file before (rec.Delete id by ∷ recs) up = rises-file (Some id) recs up.1

  pub rises-files : (files : List (List Rec)) → AllByRecursion (layout.RisesFrom None) files → AllRise (map (valid_rows list) files)
  rises-files [] up = tt
  rises-files (file ∷ files) up = (rises-file None file up.0, rises-files files up.1)

pub rises-deleted : (ids : List RowId) → Rattle.std.specs.List.Sorted.IsSorted row_id_cmp ids → IdsRise ids
rises-deleted ids up = sorting.rises_from row_id_total ids up
