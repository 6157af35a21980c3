-- From what stands beside each other to the files and the commits: sums, and the last file of a write id in a partition.
use Rattle.std.proofs.Common.{◌≡◌, ℕ, zero, suc, ◌+◌, ◌<◌, ◌≤◌, ◌⊎◌, inl, inr, Bool, true, false, Option, Some, None, List, [], ◌∷◌, ◌++◌, length, map, refl, sym, ap, ◌∙◌, subst, arith, IsPermutation, IsSorted}
use Rattle.std.specs.Prelude.{◌==◌, ◌&&◌, nat_eq}
use Rattle.std.specs.List.{slice_get, list_all, All, AllByRecursion}
use Rattle.std.specs.Cmp.Lexicographic.{pointwise}
use Rattle.std.proofs.lemmas.List.Sorted.{sum_by-IsPermutation, All-permutation, IsPermutation-sym}
use Rattle.std.proofs.lemmas.List.Elements.{All-from_recursion}
use Rattle.std.proofs.lemmas.Bool.{eq-eqb, and_parts}
use Rattle.hv_base.proofs.SortingLaws.{rises_from}
use Rattle.hv_shelf.specs.declared.place.Place.{Place}
use Rattle.hv_choosing.specs.declared.dir.Dir.{Dir}
use Rattle.hv_choosing.specs.declared.dir.Dir.TheVariants.{Base, Own, Wide}
use Rattle.hv_choosing.specs.declared.listing.DirFile.{DirFile}
use Rattle.hv_rowfile.specs.Layout.{file_spelling}
use Rattle.hv_book.specs.Past.{total, only_if}
use Rattle.hv_stands.specs.Files.{own_place}
use Rattle.hv_table_rows.specs.Reading.{Sheet, sheet_file}
use Rattle.hv_table_rows.specs.Damage.{no_offset}
use Rattle.hv_book.proofs.IdLaws.{all-append, total-append}
use Rattle.hv_earlier.proofs.SortedLaws.{total-sum}
use Rattle.hv_counts.specs.declared.due.Due.{Due}
use Rattle.hv_counts.specs.declared.counted.Counted.{Counted}
use Rattle.hv_counts.specs.declared.tally.Tally.{Tally}
use Rattle.hv_counts.specs.Counts.{AreOwn, IsCounted, due_at, due_sum, is_own_of, is_stored, stored_at, stored_sum}
use Rattle.hv_counts.specs.Tallies.{stored_part, due_part, tally_cmp, tally_total, first_off}
use Rattle.hv_counts.specs.Miscounts.{counted_of, AreCounted, is_own, is_own_file, own_write, file_tally_of, file_tally, file_tallies, due_tally, IsFileAt, IsMiscounted}
use Rattle.hv_counts.proofs.Levels.{text-of, of-text, IsUpTo, none-off, some-off, last-off, found-among}

-- ---- lists

total-permuted : {A : Type 0} (f : A → ℕ) (xs ys : List A) → IsPermutation xs ys → total f ys ≡ total f xs
total-permuted f xs ys same = total-sum f ys ∙ sum_by-IsPermutation f xs ys same ∙ sym (total-sum f xs)

by-recursion : {A : Type 0} (P : A → Type 0) (xs : List A) → All P xs → AllByRecursion P xs
by-recursion P [] h = tt
by-recursion P (x ∷ xs) h = (h 0 x (omega arith), by-recursion P xs (λ k d lt. h (suc k) d (omega (arith, lt))))

all-permuted : {A : Type 0} (P : A → Type 0) (xs ys : List A) → IsPermutation xs ys → AllByRecursion P xs → AllByRecursion P ys
all-permuted P xs ys same h = by-recursion P ys (All-permutation P xs ys same (All-from_recursion P xs h))

all-front : {A : Type 0} (P : A → Type 0) (xs ys : List A) → AllByRecursion P (xs ++ ys) → AllByRecursion P xs
all-front P [] ys h = tt
all-front P (x ∷ xs) ys h = (h.0, all-front P xs ys h.1)

all-back : {A : Type 0} (P : A → Type 0) (xs ys : List A) → AllByRecursion P (xs ++ ys) → AllByRecursion P ys
all-back P [] ys h = h
all-back P (x ∷ xs) ys h = all-back P xs ys h.1

-- ---- own directories

own-file : (d : Dir) → is_own d ≡ true → (write : ℕ) × (own_write d ≡ Some write)
own-file (Base high) e = cc
own-file (Own deletes write statement) e = (write.0, refl)
own-file (Wide deletes low high) e = cc

pub own-all : (files : List DirFile) → list_all is_own_file files ≡ true → AreOwn files
own-all [] e = tt
own-all (file ∷ files) e = (so file.dir both.0, own-all files both.1)
  where
    parts : (b c : Bool) → (b && c) ≡ true → (b ≡ true) × (c ≡ true)
    parts true c e = (refl, e)
    parts false c e = cc

    both : (is_own file.dir ≡ true) × (list_all is_own_file files ≡ true)
    both = parts (is_own file.dir) (list_all is_own_file files) e

    so : (d : Dir) → is_own d ≡ true → Rattle.hv_choosing.specs.Laws.IsOwnDir d
    so (Base high) e = cc
    so (Own deletes write statement) e = tt
    so (Wide deletes low high) e = cc

pub all-own : (files : List DirFile) → AreOwn files → list_all is_own_file files ≡ true
all-own [] h = refl
all-own (file ∷ files) h = (λ i. so file.dir h.0 i && all-own files h.1 i)
  where
    so : (d : Dir) → Rattle.hv_choosing.specs.Laws.IsOwnDir d → is_own d ≡ true
    so (Base high) e = absurd e
    so (Own deletes write statement) e = refl
    so (Wide deletes low high) e = absurd e

-- ---- sums

module _ (deletes : Bool) where
  -- the files and the commits of a kind, one after another
  tallies_from : ℕ → List Sheet → List Tally
  tallies_from number sheets = file_tallies number (map sheet_file sheets) (map (counted_of deletes) sheets)

  one-stored : (write : ℕ) (partition : List ℕ) (number : ℕ) (sheet : Sheet)
      → total (stored_part write partition) (file_tally number sheet.file (counted_of deletes sheet)) ≡ stored_at write partition sheet
  one-stored write partition number sheet = by sheet.file.dir
    where
      by : (d : Dir) → total (stored_part write partition) (file_tally_of (own_write d) number sheet.file (counted_of deletes sheet))
          ≡ only_if (is_own_of write d && pointwise nat_eq sheet.file.place.partition partition) (length sheet.recs)
      by (Base high) = refl
      by (Own kind id statement) = omega arith
      by (Wide kind low high) = refl

  one-due : (write : ℕ) (partition : List ℕ) (number : ℕ) (sheet : Sheet)
      → total (due_part write partition) (file_tally number sheet.file (counted_of deletes sheet)) ≡ 0
  one-due write partition number sheet = by sheet.file.dir
    where
      nothing : (b : Bool) → only_if b 0 + 0 ≡ 0
      nothing true = refl
      nothing false = refl

      by : (d : Dir) → total (due_part write partition) (file_tally_of (own_write d) number sheet.file (counted_of deletes sheet)) ≡ 0
      by (Base high) = refl
      by (Own kind id statement) = nothing ((id.0 == write) && pointwise nat_eq sheet.file.place.partition partition)
      by (Wide kind low high) = refl

  files-stored : (write : ℕ) (partition : List ℕ) (number : ℕ) (sheets : List Sheet)
      → total (stored_part write partition) (tallies_from number sheets) ≡ stored_sum write partition sheets
  unfolding tallies_from
  files-stored write partition number [] = refl
  files-stored write partition number (sheet ∷ sheets) =
      total-append (stored_part write partition) (file_tally number sheet.file (counted_of deletes sheet)) (tallies_from (number + 1) sheets)
      ∙ (λ i. one-stored write partition number sheet i + files-stored write partition (number + 1) sheets i)

  files-due : (write : ℕ) (partition : List ℕ) (number : ℕ) (sheets : List Sheet) → total (due_part write partition) (tallies_from number sheets) ≡ 0
  unfolding tallies_from
  files-due write partition number [] = refl
  files-due write partition number (sheet ∷ sheets) =
      total-append (due_part write partition) (file_tally number sheet.file (counted_of deletes sheet)) (tallies_from (number + 1) sheets)
      ∙ omega (arith, one-due write partition number sheet, files-due write partition (number + 1) sheets)

  dues-stored : (write : ℕ) (partition : List ℕ) (dues : List Due) → total (stored_part write partition) (map (due_tally deletes) dues) ≡ 0
  dues-stored write partition [] = refl
  dues-stored write partition (due ∷ dues) =
      omega (arith, nothing ((due.write == write) && pointwise nat_eq due.partition partition), dues-stored write partition dues)
    where
      nothing : (b : Bool) → only_if b 0 ≡ 0
      nothing true = refl
      nothing false = refl

  dues-due : (write : ℕ) (partition : List ℕ) (dues : List Due) → total (due_part write partition) (map (due_tally deletes) dues) ≡ due_sum deletes write partition dues
  dues-due write partition [] = refl
  dues-due write partition (due ∷ dues) = ap (λ n. due_at deletes write partition due + n) (dues-due write partition dues)

  all_tallies : List Sheet → List Due → List Tally
  all_tallies sheets dues = tallies_from 1 sheets ++ map (due_tally deletes) dues

  all-stored : (write : ℕ) (partition : List ℕ) (sheets : List Sheet) (dues : List Due)
      → total (stored_part write partition) (all_tallies sheets dues) ≡ stored_sum write partition sheets
  unfolding all_tallies
  all-stored write partition sheets dues =
      let split = total-append (stored_part write partition) (tallies_from 1 sheets) (map (due_tally deletes) dues) in
      omega (arith, split, files-stored write partition 1 sheets, dues-stored write partition dues)

  all-due : (write : ℕ) (partition : List ℕ) (sheets : List Sheet) (dues : List Due)
      → total (due_part write partition) (all_tallies sheets dues) ≡ due_sum deletes write partition dues
  unfolding all_tallies
  all-due write partition sheets dues =
      let split = total-append (due_part write partition) (tallies_from 1 sheets) (map (due_tally deletes) dues) in
      omega (arith, split, files-due write partition 1 sheets, dues-due write partition dues)

  -- ---- which file one is of

  pub record IsNumbered (number : ℕ) (sheets : List Sheet) (tally : Tally) : Type 0 where
    pub at : ℕ
    pub file_is : tally.file ≡ number + at
    pub sheet : Sheet
    pub got : slice_get sheets at ≡ Some sheet
    pub stored : is_stored tally.write tally.partition sheet.file ≡ true

  one-numbered : (number : ℕ) (sheet : Sheet) (sheets : List Sheet) → AllByRecursion (IsNumbered number (sheet ∷ sheets)) (file_tally number sheet.file (counted_of deletes sheet))
  one-numbered number sheet sheets = by sheet.file.dir refl
    where
      by : (d : Dir) → sheet.file.dir ≡ d → AllByRecursion (IsNumbered number (sheet ∷ sheets)) (file_tally_of (own_write d) number sheet.file (counted_of deletes sheet))
      by (Base high) is = tt
      by (Own kind id statement) is = (
        record {
          at = 0;
          file_is = omega arith;
          sheet = sheet;
          got = refl;
          stored = (λ i. is_own_of id.0 (is i) && of-text sheet.file.place.partition i) ∙ ap (λ b. b && true) (eq-eqb id.0 id.0 refl);
        },
        tt,
      )
      by (Wide kind low high) is = tt

  numbered-next : (number : ℕ) (sheet : Sheet) (sheets : List Sheet) (ts : List Tally) → AllByRecursion (IsNumbered (number + 1) sheets) ts
      → AllByRecursion (IsNumbered number (sheet ∷ sheets)) ts
  numbered-next number sheet sheets [] h = tt
  numbered-next number sheet sheets (t ∷ ts) h = (
    record {
      at = suc h.0.at;
      file_is = (let e = h.0.file_is in omega (arith, e));
      sheet = h.0.sheet;
      got = h.0.got;
      stored = h.0.stored;
    },
    numbered-next number sheet sheets ts h.1,
  )

  all-numbered : (number : ℕ) (sheets : List Sheet) → AllByRecursion (IsNumbered number sheets) (tallies_from number sheets)
  unfolding tallies_from
  all-numbered number [] = tt
  all-numbered number (sheet ∷ sheets) =
      all-append (IsNumbered number (sheet ∷ sheets)) (file_tally number sheet.file (counted_of deletes sheet)) (tallies_from (number + 1) sheets)
      (one-numbered number sheet sheets)
      (numbered-next number sheet sheets (tallies_from (number + 1) sheets) (all-numbered (number + 1) sheets))

  -- ---- files behind the last one

  none-later : (x : Tally) (number : ℕ) (sheets : List Sheet) → x.file < number → AllByRecursion (IsUpTo x) (tallies_from number sheets)
      → AllByRecursion (λ (sheet : Sheet). is_stored x.write x.partition sheet.file ≡ false) sheets
  unfolding tallies_from
  none-later x number [] behind h = tt
  none-later x number (sheet ∷ sheets) behind h = (
    by sheet.file.dir (all-front (IsUpTo x) (file_tally number sheet.file (counted_of deletes sheet)) (tallies_from (number + 1) sheets) h),
    none-later x (number + 1) sheets (omega (arith, behind)) (all-back (IsUpTo x) (file_tally number sheet.file (counted_of deletes sheet)) (tallies_from (number + 1) sheets) h),
  )
    where
      so : (b : Bool) → (b ≡ true → number ≤ x.file) → b ≡ false
      so true k = absurd (omega (arith, k refl, behind))
      so false k = refl

      by : (d : Dir) → AllByRecursion (IsUpTo x) (file_tally_of (own_write d) number sheet.file (counted_of deletes sheet))
          → (is_own_of x.write d && pointwise nat_eq sheet.file.place.partition x.partition) ≡ false
      by (Base high) k = refl
      by (Own kind id statement) k = so ((id.0 == x.write) && pointwise nat_eq sheet.file.place.partition x.partition) k.0
      by (Wide kind low high) k = refl

  record IsLastOf (x : Tally) (sheet : Sheet) (sheets : List Sheet) : Type 0 where
    before : List Sheet
    behind : List Sheet
    sheets_are : sheets ≡ before ++ sheet ∷ behind
    none_behind : AllByRecursion (λ (other : Sheet). is_stored x.write x.partition other.file ≡ false) behind

  last-of : (x : Tally) (number : ℕ) (sheets : List Sheet) (n : ℕ) (sheet : Sheet) → slice_get sheets n ≡ Some sheet → x.file ≡ number + n
      → AllByRecursion (IsUpTo x) (tallies_from number sheets) → IsLastOf x sheet sheets
  unfolding tallies_from
  last-of x number [] n sheet got is h = cc
  last-of x number (first ∷ sheets) zero sheet got is h =
      let same : first ≡ sheet = cc in
      record {
        before = [];
        behind = sheets;
        sheets_are = ap (λ (s : Sheet). s ∷ sheets) same;
        none_behind = none-later x (number + 1) sheets (omega (arith, is)) (all-back (IsUpTo x) (file_tally number first.file (counted_of deletes first)) (tallies_from (number + 1) sheets) h);
      }
  last-of x number (first ∷ sheets) (suc n) sheet got is h =
      let rest =
      last-of x (number + 1) sheets n sheet got (omega (arith, is)) (all-back (IsUpTo x) (file_tally number first.file (counted_of deletes first)) (tallies_from (number + 1) sheets) h)
      in
      record {
        before = first ∷ rest.before;
        behind = rest.behind;
        sheets_are = ap (λ (ss : List Sheet). first ∷ ss) rest.sheets_are;
        none_behind = rest.none_behind;
      }

  -- ---- all of them

  abbrev IsPlaced : List Sheet → Tally → Type 0
  IsPlaced sheets tally = (tally.file ≡ 0) ⊎ IsNumbered 1 sheets tally

  all-placed : (sheets : List Sheet) (dues : List Due) → AllByRecursion (IsPlaced sheets) (all_tallies sheets dues)
  unfolding all_tallies
  all-placed sheets dues =
      all-append (IsPlaced sheets) (tallies_from 1 sheets) (map (due_tally deletes) dues) (of-files (tallies_from 1 sheets) (all-numbered 1 sheets)) (of-dues dues)
    where
      of-files : (ts : List Tally) → AllByRecursion (IsNumbered 1 sheets) ts → AllByRecursion (IsPlaced sheets) ts
      of-files [] h = tt
      of-files (t ∷ ts) h = (inr h.0, of-files ts h.1)

      of-dues : (ds : List Due) → AllByRecursion (IsPlaced sheets) (map (due_tally deletes) ds)
      of-dues [] = tt
      of-dues (d ∷ ds) = (inl refl, of-dues ds)

get-mapped : {A B : Type 0} (f : A → B) (xs : List A) (n : ℕ) (x : A) → slice_get xs n ≡ Some x → slice_get (map f xs) n ≡ Some (f x)
get-mapped f [] n x e = cc
get-mapped f (y ∷ xs) zero x e = let same : y ≡ x = cc in ap (λ z. Some (f z)) same
get-mapped f (y ∷ xs) (suc n) x e = get-mapped f xs n x e

length-mapped : {A B : Type 0} (f : A → B) (xs : List A) → length (map f xs) ≡ length xs
length-mapped f [] = refl
length-mapped f (x ∷ xs) = omega (arith, length-mapped f xs)

one-of : {A : Type 0} (o : Option A) (x y : A) → o ≡ Some x → o ≡ Some y → x ≡ y
one-of o x y e f = cc

-- files that were read, what was counted of them, and both beside what commits say, rising
pub record AreSorted (deletes : Bool) (files : List DirFile) (counts : List Counted) (dues : List Due) (tallies : List Tally) : Type 0 where
  pub same : IsPermutation (file_tallies 1 files counts ++ map (due_tally deletes) dues) tallies
  pub sorted : IsSorted tally_cmp tallies

-- no number is above how many files there are
numbers-within : (most number : ℕ) (files : List DirFile) (counts : List Counted) → number + length files ≤ most + 1
    → AllByRecursion (λ (tally : Tally). tally.file ≤ most) (file_tallies number files counts)
numbers-within most number [] counts few = tt
numbers-within most number (file ∷ files) [] few = tt
numbers-within most number (file ∷ files) (counted ∷ counts) few =
    all-append (λ (tally : Tally). tally.file ≤ most) (file_tally number file counted) (file_tallies (number + 1) files counts) (by (own_write file.dir))
    (numbers-within most (number + 1) files counts (omega (arith, few)))
  where
    by : (o : Option ℕ) → AllByRecursion (λ (tally : Tally). tally.file ≤ most) (file_tally_of o number file counted)
    by None = tt
    by (Some write) = (omega (arith, few), tt)

pub within : (deletes : Bool) (files : List DirFile) (counts : List Counted) (dues : List Due) (tallies : List Tally) → AreSorted deletes files counts dues tallies
    → (x : Tally) → first_off 0 0 tallies ≡ Some x → x.file ≤ length files
within deletes files counts dues tallies up x found =
    found-among (λ (tally : Tally). tally.file ≤ length files) 0 0 tallies x found
    (all-permuted (λ (tally : Tally). tally.file ≤ length files) (file_tallies 1 files counts ++ map (due_tally deletes) dues) tallies up.same
    (all-append (λ (tally : Tally). tally.file ≤ length files) (file_tallies 1 files counts) (map (due_tally deletes) dues)
    (numbers-within (length files) 1 files counts (omega arith)) (of-dues dues)))
  where
    of-dues : (ds : List Due) → AllByRecursion (λ (tally : Tally). tally.file ≤ length files) (map (due_tally deletes) ds)
    of-dues [] = tt
    of-dues (d ∷ ds) = (omega arith, of-dues ds)

module _ (deletes : Bool) (files : List DirFile) (counts : List Counted) (dues : List Due) (tallies : List Tally) (up : AreSorted deletes files counts dues tallies)
    (sheets : List Sheet) (are : AreCounted deletes files counts sheets) where
  permuted : IsPermutation (all_tallies deletes sheets dues) tallies
  unfolding all_tallies tallies_from
  permuted =
      subst (λ (ts : List Tally). IsPermutation (ts ++ map (due_tally deletes) dues) tallies) (λ i. file_tallies 1 (sym are.files_are i) (sym are.counts_are i)) up.same

  stored-as : (write : ℕ) (partition : List ℕ) → total (stored_part write partition) tallies ≡ stored_sum write partition sheets
  stored-as write partition =
      total-permuted (stored_part write partition) (all_tallies deletes sheets dues) tallies permuted ∙ all-stored deletes write partition sheets dues

  due-as : (write : ℕ) (partition : List ℕ) → total (due_part write partition) tallies ≡ due_sum deletes write partition dues
  due-as write partition =
      total-permuted (due_part write partition) (all_tallies deletes sheets dues) tallies permuted ∙ all-due deletes write partition sheets dues

  pub all-counted : first_off 0 0 tallies ≡ None → IsCounted deletes dues sheets
  all-counted none write partition = sym (stored-as write partition) ∙ none-off tallies none write partition ∙ due-as write partition

  module _ (x : Tally) (found : first_off 0 0 tallies ≡ Some x) where
    placed : IsPlaced deletes sheets x
    placed = found-among (IsPlaced deletes sheets) 0 0 tallies x found (all-permuted (IsPlaced deletes sheets) (all_tallies deletes sheets dues) tallies permuted (all-placed deletes sheets dues))

    differs : stored_sum x.write x.partition sheets ≡ due_sum deletes x.write x.partition dues → ⊥
    differs same =
        some-off tallies x found (rises_from tally_total tallies up.sorted) (stored-as x.write x.partition ∙ same ∙ sym (due-as x.write x.partition))

    up-to : AllByRecursion (IsUpTo x) (tallies_from deletes 1 sheets)
    unfolding all_tallies
    up-to =
        all-front (IsUpTo x) (tallies_from deletes 1 sheets) (map (due_tally deletes) dues)
        (all-permuted (IsUpTo x) tallies (all_tallies deletes sheets dues) (IsPermutation-sym (all_tallies deletes sheets dues) tallies permuted)
        (last-off tallies x found (rises_from tally_total tallies up.sorted)))

    module _ (table : ℕ) (own : AreOwn files) (place : Place) (at : ℕ) where
      own_sheets : AreOwn (map sheet_file sheets)
      own_sheets = subst AreOwn (sym are.files_are) own

      none-stands : x.file ≡ 0 → place ≡ own_place table x.partition deletes x.write 0 → at ≡ no_offset → IsMiscounted deletes table dues sheets place at
      none-stands none place_is at_is =
          let part : x.partition ≡ place.partition = ap (λ (p : Place). p.partition) (sym place_is) in
          record {
            own = own_sheets;
            write = x.write;
            differ = subst (λ (p : List ℕ). stored_sum x.write p sheets ≡ due_sum deletes x.write p dues → ⊥) part differs;
            told = inr (record {
              none =
                  subst (λ (p : List ℕ). AllByRecursion (λ (sheet : Sheet). is_stored x.write p sheet.file ≡ false) sheets) part
                  (none-later deletes x 1 sheets (omega (arith, none)) up-to);
              place_is = place_is ∙ ap (λ (p : List ℕ). own_place table p deletes x.write 0) part;
              at_is = at_is;
            });
          }

      stands : (n : IsNumbered deletes 1 sheets x) → IsFileAt files counts n.at place at → IsMiscounted deletes table dues sheets place at
      stands n h =
          let sheet = n.sheet in
          let file : h.file ≡ sheet.file = one-of (slice_get files n.at) h.file sheet.file h.file_is (ap (λ (fs : List DirFile). slice_get fs n.at) (sym are.files_are) ∙ get-mapped sheet_file sheets n.at sheet n.got) in
          let counted : h.counted ≡ counted_of deletes sheet = one-of (slice_get counts n.at) h.counted (counted_of deletes sheet) h.counted_is (ap (λ (cs : List Counted). slice_get cs n.at) (sym are.counts_are) ∙ get-mapped (counted_of deletes) sheets n.at sheet n.got) in
          let place_is : place ≡ sheet.file.place = h.place_is ∙ ap (λ (f : DirFile). f.place) file in
          let last = last-of deletes x 1 sheets n.at sheet n.got n.file_is up-to in
          let of = and_parts (is_own_of x.write sheet.file.dir) (pointwise nat_eq sheet.file.place.partition x.partition) n.stored in
          let part : x.partition ≡ place.partition = sym (text-of sheet.file.place.partition x.partition of.1) ∙ ap (λ (p : Place). p.partition) (sym place_is) in
          record {
            own = own_sheets;
            write = x.write;
            differ = subst (λ (p : List ℕ). stored_sum x.write p sheets ≡ due_sum deletes x.write p dues → ⊥) part differs;
            told = inl (record {
              before = last.before;
              last = sheet;
              behind = last.behind;
              sheets_are = last.sheets_are;
              stored = subst (λ (p : List ℕ). is_stored x.write p sheet.file ≡ true) part n.stored;
              none_behind =
                  subst (λ (p : List ℕ). AllByRecursion (λ (other : Sheet). is_stored x.write p other.file ≡ false) last.behind) part last.none_behind;
              place_is = place_is;
              at_is = h.at_is ∙ ap (λ (c : Counted). c.bytes) counted ∙ ap (λ (p : Place). length (file_spelling deletes p.bucket sheet.recs)) (sym place_is);
            });
          }

      pub is-miscounted : (x.file ≡ 0 → place ≡ own_place table x.partition deletes x.write 0) → (x.file ≡ 0 → at ≡ no_offset)
          → ((n : ℕ) → x.file ≡ n + 1 → IsFileAt files counts n place at) → IsMiscounted deletes table dues sheets place at
      is-miscounted missing nowhere standing = by placed
        where
          by : IsPlaced deletes sheets x → IsMiscounted deletes table dues sheets place at
          by (inl none) = none-stands none (missing none) (nowhere none)
          by (inr n) = let is = n.file_is in stands n (standing n.at (omega (arith, is)))
