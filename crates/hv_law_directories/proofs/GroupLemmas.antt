-- A table's files by their places: those of a partition stand one behind another, and so each run is all of its partition's.
use Rattle.std.proofs.Common.{refl, ◌≡◌, ◌≢◌, inl, inr, ℕ, zero, suc, ◌+◌, ◌&&◌, T, Bool, true, false, cond, Option, Some, None, List, [], ◌∷◌, ◌++◌, map, filter, take, drop, sym, ap, ◌∙◌, subst, arith, eqb-true, true≢false}
use Rattle.std.specs.Prelude.{nat_eq}
use Rattle.std.specs.declared.cmp.Ordering.{Ordering}
use Rattle.std.specs.declared.cmp.Ordering.TheVariants.{Less, Equal, Greater}
use Rattle.std.specs.Ordering.{is_lt, nat_cmp, ordering_then, ordering_reverse}
use Rattle.std.specs.Cmp.{nat_cmp_total}
use Rattle.std.specs.Cmp.Lexicographic.{pointwise, slice_cmp, nat_list_cmp_total}
use Rattle.std.specs.FinMap as finmap
use Rattle.std.specs.FinMap.{nat_cmp-IsAntisymmetric, slice_cmp-IsAntisymmetric}
use Rattle.std.specs.FinMap.Entries.{below_all}
use Rattle.std.specs.List.{cons_option, prefix_len, AllByRecursion}
use Rattle.std.specs.List.Sorted.{IsStrictlySortedBy}
use Rattle.std.proofs.lemmas.List.{take-append-drop}
use Rattle.std.proofs.lemmas.List.Elements.{filter-append}
use Rattle.std.proofs.lemmas.List.Kept.{IsStrictlySortedBy-filter}
use Rattle.hv_base.specs.declared.ids.TableId.{TableId}
use Rattle.hv_shelf.specs.declared.place.Place.{Place}
use Rattle.hv_shelf.specs.Places.{place_cmp}
use Rattle.hv_shelf.specs.Places as places
use Rattle.hv_shelf.specs.Disk as disk
use Rattle.hv_shelf.specs.Disk.{places_of}
use Rattle.hv_choosing.specs.declared.listing.DirFile.{DirFile}
use Rattle.hv_choosing.specs.Listing.{IsListed, AreListed}
use Rattle.hv_choosing.specs.Taken.{run_length, runs}
use Rattle.hv_choosing.proofs.Listed.{listed-place}
use Rattle.hv_law_visible.specs.Members.{IsIn}
use Rattle.hv_law_visible.proofs.MemberLemmas.{from-filter}
use Rattle.hv_law_visible.proofs.SortingLemmas.{all-from}
use Rattle.hv_law_visible.proofs.TakenLemmas.{all-in}
use Rattle.hv_table_rows.proofs.Names.{same-text, text-same}
use Rattle.hv_stands.proofs.FileRecords.{tied}
use Rattle.hv_law_directories.specs.Directories.{is_of}

-- ---- orders

unfoldable pub text_cmp : List ℕ → List ℕ → Ordering
text_cmp = slice_cmp nat_cmp

not-equal : (o : Ordering) → o ≢ Greater → o ≢ Equal → o ≡ Less
not-equal Less g e = refl
not-equal Equal g e = absurd (e refl)
not-equal Greater g e = absurd (g refl)

differ : (x y : List ℕ) → pointwise nat_eq y x ≡ false → text_cmp x y ≢ Equal
unfolding text_cmp
differ x y e tie =
    true≢false (sym (text-same y x (sym (slice_cmp-IsAntisymmetric nat_cmp-IsAntisymmetric x y tie))) ∙ e)

-- what is above one that is above is above
over : (x y z : List ℕ) → text_cmp x y ≡ Less → text_cmp y z ≢ Greater → pointwise nat_eq z x ≡ false
unfolding text_cmp
over x y z less up = by (pointwise nat_eq z x) refl
  where
    by : (b : Bool) → pointwise nat_eq z x ≡ b → pointwise nat_eq z x ≡ false
    by false e = e
    by true e =
        let same : z ≡ x = same-text z x e in
        let back : slice_cmp nat_cmp y x ≡ Greater = nat_list_cmp_total.antisymm y x ∙ ap ordering_reverse less in
        absurd (up (ap (slice_cmp nat_cmp y) same ∙ back))

-- ---- the places of a table rise

both : (a b : Bool) → T (a && b) → T a × T b
both true b h = (tt, h)
both false b h = absurd h

less-by : (o : Ordering) → T (is_lt o) → o ≡ Less
less-by Less h = refl
less-by Equal h = absurd h
less-by Greater h = absurd h

abbrev Entries : Type 0
Entries = List (Place × List ℕ)

abbrev keys_of : Entries → List Place
keys_of es = map (λ (e : Place × List ℕ). e.0) es

all-below : (x : Place) (es : Entries) → T (below_all place_cmp x es) → AllByRecursion (λ y. place_cmp x y ≡ Less) (keys_of es)
all-below x [] h = tt
all-below x (e ∷ es) h =
    let parts = both (is_lt (place_cmp x e.0)) (below_all place_cmp x es) h in (less-by (place_cmp x e.0) parts.0, all-below x es parts.1)

all-rise : (es : Entries) → T (finmap.is_sorted place_cmp es) → IsStrictlySortedBy place_cmp (keys_of es)
unfolding IsStrictlySortedBy
all-rise [] h = tt
all-rise (e ∷ es) h =
    let parts = both (below_all place_cmp e.0 es) (finmap.is_sorted place_cmp es) h in (all-below e.0 es parts.0, all-rise es parts.1)

places-rise : (table : TableId) (files : disk.Tree) → IsStrictlySortedBy place_cmp (places_of table files)
places-rise table files =
    IsStrictlySortedBy-filter place_cmp (places.is_of table) (finmap.keys files) (all-rise (finmap.entries files) (finmap.entries_sorted files))

-- ---- and so the partitions of their files do

abbrev pub RisingParts : List DirFile → Type 0
RisingParts [] = Unit {0}
RisingParts (file ∷ files) =
    AllByRecursion (λ (other : DirFile). text_cmp file.place.partition other.place.partition ≢ Greater) files × RisingParts files

then-part : (o part rest : Ordering) → o ≡ Equal → ordering_then o (ordering_then part rest) ≡ Less → part ≢ Greater
then-part Less part rest e less = cc
then-part Greater part rest e less = cc
then-part Equal Less rest e less = λ g. cc
then-part Equal Equal rest e less = λ g. cc
then-part Equal Greater rest e less = cc

part-up : (p q : Place) → p.table.0 ≡ q.table.0 → place_cmp p q ≡ Less → text_cmp p.partition q.partition ≢ Greater
unfolding place_cmp text_cmp
part-up p q same less =
    then-part (nat_cmp p.table.0 q.table.0) (slice_cmp nat_cmp p.partition q.partition) _
    (ap (nat_cmp p.table.0) (sym same) ∙ tied (nat_cmp p.table.0 p.table.0) (nat_cmp_total.antisymm p.table.0 p.table.0)) less

rising-parts : (number : ℕ) (ps : List Place) (files : List DirFile) → IsStrictlySortedBy place_cmp ps → ((p : Place) → IsIn p ps → p.table.0 ≡ number) → AreListed ps files
    → RisingParts files
unfolding IsStrictlySortedBy
rising-parts number [] files up of listed = subst RisingParts (sym listed) tt
rising-parts number (p ∷ ps) files up of listed =
    subst RisingParts (sym listed.3) (by listed.0 listed.2 (rising-parts number ps listed.1 up.1 (λ q h. of q (inr h)) listed.4))
  where
    by : (o : Option DirFile) → IsListed p o → RisingParts listed.1 → RisingParts (cons_option o listed.1)
    by None is rest = rest
    by (Some file) is rest = (
      all-from (λ (other : DirFile). text_cmp file.place.partition other.place.partition ≢ Greater) listed.1
          (λ other h.
          let among = listed-place ps listed.1 listed.4 other h in
          let less = all-in (λ q. place_cmp p q ≡ Less) ps other.place up.0 among in
          let here = is.0 in
          part-up file.place other.place
          (of file.place (inl (sym here)) ∙ sym (of other.place (inr among))) (ap (λ q. place_cmp q other.place) here ∙ less)),
      rest,
    )

eqb-number : (table : TableId) (files : disk.Tree) (p : Place) → IsIn p (places_of table files) → p.table.0 ≡ table.0
eqb-number table files p h = eqb-true p.table.0 table.0 (from-filter (places.is_of table) p (finmap.keys files) h).1

pub listed-rise : (table : TableId) (files : disk.Tree) (named : List DirFile) → AreListed (places_of table files) named → RisingParts named
listed-rise table files named listed =
    rising-parts table.0 (places_of table files) named (places-rise table files) (eqb-number table files) listed

-- ---- runs

none-kept : (p : DirFile → Bool) (xs : List DirFile) → ((x : DirFile) → IsIn x xs → p x ≡ false) → filter p xs ≡ []
none-kept p [] h = refl
none-kept p (x ∷ xs) h =
    ap (λ b. cond b (x ∷ filter p xs) (filter p xs)) (h x (inl refl)) ∙ none-kept p xs (λ y g. h y (inr g))

rising-drop : (n : ℕ) (files : List DirFile) → RisingParts files → RisingParts (drop n files)
rising-drop zero files up = up
rising-drop (suc n) [] up = tt
rising-drop (suc n) (file ∷ files) up = rising-drop n files up.1

module _ (part : List ℕ) where
  abbrev IsOver : DirFile → Type 0
  IsOver file = text_cmp part file.place.partition ≢ Greater

  -- behind the first one of another partition all are of others
  others-behind : (file : DirFile) (files : List DirFile) → is_of part file ≡ false → IsOver file
      → AllByRecursion (λ (other : DirFile). text_cmp file.place.partition other.place.partition ≢ Greater) files
      → (x : DirFile) → IsIn x (file ∷ files) → is_of part x ≡ false
  others-behind file files other up rising x (inl e) = ap (is_of part) (sym e) ∙ other
  others-behind file files other up rising x (inr h) =
      over part file.place.partition x.place.partition
      (not-equal (text_cmp part file.place.partition) up (differ part file.place.partition other))
      (all-in (λ (y : DirFile). text_cmp file.place.partition y.place.partition ≢ Greater) files x rising h)

  front-is : (files : List DirFile) → RisingParts files → AllByRecursion IsOver files → filter (is_of part) files ≡ take (prefix_len (is_of part) files) files
  front-is [] rising up = refl
  front-is (file ∷ files) rising up = by (is_of part file) refl (front-is files rising.1 up.1)
    where
      by : (b : Bool) → is_of part file ≡ b → filter (is_of part) files ≡ take (prefix_len (is_of part) files) files
          → cond b (file ∷ filter (is_of part) files) (filter (is_of part) files) ≡ take (cond b (1 + prefix_len (is_of part) files) 0) (file ∷ files)
      by true e rest =
          let more : 1 + prefix_len (is_of part) files ≡ suc (prefix_len (is_of part) files) = omega arith in
          ap (λ (fs : List DirFile). file ∷ fs) rest ∙ ap (λ k. take k (file ∷ files)) (sym more)
      by false e rest = none-kept (is_of part) files (λ x h. others-behind file files e up.0 rising.0 x (inr h))

  rest-is : (files : List DirFile) → RisingParts files → AllByRecursion IsOver files → (x : DirFile) → IsIn x (drop (prefix_len (is_of part) files) files) → is_of part x ≡ false
  rest-is [] rising up x h = absurd h
  rest-is (file ∷ files) rising up x h = by (is_of part file) refl h (rest-is files rising.1 up.1 x)
    where
      by : (b : Bool) → is_of part file ≡ b → IsIn x (drop (cond b (1 + prefix_len (is_of part) files) 0) (file ∷ files))
          → (IsIn x (drop (prefix_len (is_of part) files) files) → is_of part x ≡ false) → is_of part x ≡ false
      by true e h rest =
          let more : 1 + prefix_len (is_of part) files ≡ suc (prefix_len (is_of part) files) = omega arith in
          rest (subst (λ k. IsIn x (drop k (file ∷ files))) more h)
      by false e h rest = others-behind file files e up.0 rising.0 x h

over-itself : (file : DirFile) → text_cmp file.place.partition file.place.partition ≢ Greater
unfolding text_cmp
over-itself file e =
    let tie = tied (slice_cmp nat_cmp file.place.partition file.place.partition) (nat_list_cmp_total.antisymm file.place.partition file.place.partition) in
    let never : Greater ≡ Equal = sym e ∙ tie in cc

-- a run is all of the partition of each file in it
pub runs-are : (n : ℕ) (files run : List DirFile) (file : DirFile) → RisingParts files → IsIn run (runs n files) → IsIn file run
    → run ≡ filter (is_of file.place.partition) files
runs-are zero files run file rising h g = absurd h
runs-are (suc n) [] run file rising (inl e) g = absurd (subst (IsIn file) (sym e) g)
runs-are (suc n) [] run file rising (inr h) g = runs-are n [] run file rising h g
runs-are (suc n) (first ∷ files) run file rising (inl e) g =
    let part : List ℕ = first.place.partition in
    let all = front-is part (first ∷ files) rising (over-itself first, rising.0) in
    let is : run ≡ filter (is_of part) (first ∷ files) = sym e ∙ sym all in
    let here = from-filter (is_of part) file (first ∷ files) (subst (IsIn file) is g) in
    is ∙ ap (λ p. filter (is_of p) (first ∷ files)) (sym (same-text file.place.partition part here.1))
runs-are (suc n) (first ∷ files) run file rising (inr h) g =
    let k : ℕ = run_length (first ∷ files) in
    let part : List ℕ = first.place.partition in
    let p : List ℕ = file.place.partition in
    let behind : List DirFile = drop k (first ∷ files) in
    let is = runs-are n behind run file (rising-drop k (first ∷ files) rising) h g in
    let there = from-filter (is_of p) file behind (subst (IsIn file) is g) in
    let other = rest-is part (first ∷ files) rising (over-itself first, rising.0) file there.0 in
    let front = front-is part (first ∷ files) rising (over-itself first, rising.0) in
    let none = none-kept (is_of p) (take k (first ∷ files)) (λ x at. not-here x p part other (from-filter (is_of part) x (first ∷ files) (subst (IsIn x) (sym front) at)).1) in
    is ∙ ap (λ (fs : List DirFile). fs ++ filter (is_of p) behind) (sym none)
    ∙ sym (filter-append (is_of p) (take k (first ∷ files)) behind) ∙ ap (filter (is_of p)) (take-append-drop k (first ∷ files))
  where
    not-here : (x : DirFile) (p part : List ℕ) → pointwise nat_eq p part ≡ false → pointwise nat_eq x.place.partition part ≡ true → is_of p x ≡ false
    not-here x p part apart here = by (is_of p x) refl
      where
        by : (b : Bool) → is_of p x ≡ b → is_of p x ≡ false
        by false e = e
        by true e =
            let same : p ≡ part = sym (same-text x.place.partition p e) ∙ same-text x.place.partition part here in
            absurd (true≢false (sym (text-same p part same) ∙ apart))
