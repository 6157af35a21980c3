-- What is put together in a bucket: which buckets there are, and that it can be written.
use Rattle.std.proofs.Common.{◌≡◌, ◌≤◌, ◌<◌, ◌+◌, ℕ, Bool, true, false, cond, Some, None, List, [], ◌∷◌, ◌++◌, map, filter, length, take, get_or, refl, sym, ap, ◌∙◌, subst, arith, eqb-true}
use Rattle.std.specs.Prelude.{if◌then◌else◌, ◌==◌, ◌&&◌, nat_lt}
use Rattle.std.specs.declared.cmp.Ordering.{Ordering}
use Rattle.std.specs.declared.cmp.Ordering.TheVariants.{Less, Equal, Greater}
use Rattle.std.specs.List.{AllByRecursion, flat_map}
use Rattle.std.proofs.lemmas.Bool.Decides.{nat_tests}
use Rattle.std.proofs.lemmas.List.{take_more}
use Rattle.std.proofs.lemmas.List.Concat.{flat_map-cons}
use Rattle.hv_base.specs.Sorting.{merged_by, merge_by, rising_by}
use Rattle.hv_wids.specs.WriteIds.{WriteIds}
use Rattle.hv_dirs.specs.Choice.{sight_of}
use Rattle.hv_rowfile.specs.declared.record.Rec.{Rec}
use Rattle.hv_rowfile.specs.declared.record.Rec.TheVariants as rec
use Rattle.hv_rowfile.specs.Layout.{RecIsTaken, RisesFrom, CanWrite, IsFile}
use Rattle.hv_choosing.specs.declared.listing.DirFile.{DirFile}
use Rattle.hv_history.specs.declared.entry.JobKind.{JobKind}
use Rattle.hv_law_visible.specs.Visible.{by_id, visible_among, is_visible}
use Rattle.hv_law_visible.proofs.SortingLemmas.{Below, Rises, rises-rising}
use Rattle.hv_law_visible.proofs.RowLemmas.{by_id-total}
use Rattle.hv_merge.specs.declared.shown.Shown.{Shown}
use Rattle.hv_merge.specs.Gathering.{rec_cmp, is_in_range, in_range, gathered}
use Rattle.hv_merge.specs.Merging.{rows_in, deletes_in, id_of, merged}
use Rattle.hv_compact.specs.Gathering.{takes, is_taken, taken_in, larger, buckets_of, inserted}
use Rattle.hv_compact.specs.Reading.{AreFilesOf}

-- ---- how many buckets there are

larger-left : (a b : ℕ) → a ≤ larger a b
larger-left a b = by (nat_lt a b) refl
  where
    by : (t : Bool) → nat_lt a b ≡ t → a ≤ (if t then b else a)
    by true e = grind (arith, nat_tests, e)
    by false e = omega arith

larger-right : (a b : ℕ) → b ≤ larger a b
larger-right a b = by (nat_lt a b) refl
  where
    by : (t : Bool) → nat_lt a b ≡ t → b ≤ (if t then b else a)
    by true e = omega arith
    by false e = grind (arith, nat_tests, e)

larger-least : (a b c : ℕ) → a ≤ c → b ≤ c → larger a b ≤ c
larger-least a b c low high = by (nat_lt a b)
  where
    by : (t : Bool) → (if t then b else a) ≤ c
    by true = high
    by false = low

both-ways : (a b : ℕ) → a ≤ b → b ≤ a → a ≡ b
both-ways a b low high = omega (arith, low, high)

larger-swap : (a b c : ℕ) → larger a (larger b c) ≡ larger b (larger a c)
larger-swap a b c =
    both-ways (larger a (larger b c)) (larger b (larger a c)) (half a b c) (half b a c)
  where
    half : (x y z : ℕ) → larger x (larger y z) ≤ larger y (larger x z)
    half x y z =
        let xz = larger-left x z in
        let zx = larger-right x z in
        let up = larger-right y (larger x z) in
        let left = larger-left y (larger x z) in
        larger-least x (larger y z) (larger y (larger x z)) (omega (arith, xz, up))
        (larger-least y z (larger y (larger x z)) left (omega (arith, zx, up)))

buckets-more : (files : List DirFile) (file : DirFile) → buckets_of (files ++ file ∷ []) ≡ larger (file.place.bucket + 1) (buckets_of files)
buckets-more [] file = refl
buckets-more (first ∷ files) file =
    ap (larger (first.place.bucket + 1)) (buckets-more files file)
    ∙ larger-swap (first.place.bucket + 1) (file.place.bucket + 1) (buckets_of files)

pub buckets-next : (files : List DirFile) (i : ℕ) (file : DirFile) (count now : ℕ) → i < length files → file ≡ get_or files i file
    → count ≡ buckets_of (take i files) → now ≡ larger (file.place.bucket + 1) count → now ≡ buckets_of (take (i + 1) files)
buckets-next files i file count now low at is more =
    more ∙ ap (larger (file.place.bucket + 1)) is ∙ sym (buckets-more (take i files) file)
    ∙ ap buckets_of (ap (λ (f : DirFile). take i files ++ f ∷ []) at ∙ sym (take_more files i file low))

pub larger-within : (a b most : ℕ) → a + 1 ≤ most → b ≤ most → larger (a + 1) b ≤ most
larger-within a b most low high = larger-least (a + 1) b most low high

-- behind the last one nothing is taken
untaken : (kind : JobKind) (bucket : ℕ) (file : DirFile) → file.place.bucket + 1 ≤ bucket → is_taken kind bucket file ≡ false
untaken kind bucket file low = by (file.place.bucket == bucket) refl
  where
    by : (t : Bool) → file.place.bucket == bucket ≡ t → t && takes kind file.dir ≡ false
    by true e = absurd (let same = eqb-true file.place.bucket bucket e in omega (arith, same, low))
    by false e = refl

pub taken-above : (kind : JobKind) (bucket : ℕ) (files : List DirFile) → buckets_of files ≤ bucket → taken_in kind bucket files ≡ []
taken-above kind bucket [] above = refl
taken-above kind bucket (file ∷ files) above =
    let here = larger-left (file.place.bucket + 1) (buckets_of files) in
    let rest = larger-right (file.place.bucket + 1) (buckets_of files) in
    ap (λ (b : Bool). cond b (file ∷ taken_in kind bucket files) (taken_in kind bucket files)) (untaken kind bucket file (omega (arith, here, above)))
    ∙ taken-above kind bucket files (omega (arith, rest, above))

-- ---- what holds of all

all-cond : {A : Type 0} (P : A → Type 0) (b : Bool) (x : A) (xs : List A) → P x → AllByRecursion P xs → AllByRecursion P (cond b (x ∷ xs) xs)
all-cond P true x xs here rest = (here, rest)
all-cond P false x xs here rest = rest

all-kept : {A : Type 0} (P : A → Type 0) (p : A → Bool) (xs : List A) → AllByRecursion P xs → AllByRecursion P (filter p xs)
all-kept P p [] all = tt
all-kept P p (x ∷ xs) all = all-cond P (p x) x (filter p xs) all.0 (all-kept P p xs all.1)

all-both : {A : Type 0} (P : A → Type 0) (xs ys : List A) → AllByRecursion P xs → AllByRecursion P ys → AllByRecursion P (xs ++ ys)
all-both P [] ys all more = more
all-both P (x ∷ xs) ys all more = (all.0, all-both P xs ys all.1 more)

all-merged : {A : Type 0} (P : A → Type 0) (cmp : A → A → Ordering) (x : A) (xs : List A) → P x → AllByRecursion P xs
    → AllByRecursion P (merge_by cmp x xs)
all-merged P cmp x [] here all = (here, tt)
all-merged P cmp x (y ∷ ys) here all = by (cmp x y) (all-merged P cmp x ys here all.1)
  where
    by : (o : Ordering) → AllByRecursion P (merge_by cmp x ys) → AllByRecursion P (merged_by cmp o x y ys (merge_by cmp x ys))
    by Less rest = (here, all)
    by Equal rest = all
    by Greater rest = (all.0, rest)

all-rising : {A : Type 0} (P : A → Type 0) (cmp : A → A → Ordering) (xs : List A) → AllByRecursion P xs → AllByRecursion P (rising_by cmp xs)
all-rising P cmp [] all = tt
all-rising P cmp (x ∷ xs) all = all-merged P cmp x (rising_by cmp xs) all.0 (all-rising P cmp xs all.1)

-- of what each item gives
all-given : {A B : Type 0} (Q : A → Type 0) (P : B → Type 0) (f : A → List B) → ((x : A) → Q x → AllByRecursion P (f x)) → (xs : List A)
    → AllByRecursion Q xs → AllByRecursion P (flat_map f xs)
all-given Q P f each [] all = tt
all-given Q P f each (x ∷ xs) all =
    subst (AllByRecursion P) (sym (flat_map-cons f x xs)) (all-both P (f x) (flat_map f xs) (each x all.0) (all-given Q P f each xs all.1))

-- ---- files

pub files-rise : (deletes : Bool) (bucket : ℕ) (files : List (List Rec)) → AreFilesOf deletes bucket files → AllByRecursion (RisesFrom None) files
files-rise deletes bucket [] are = tt
files-rise deletes bucket (file ∷ files) are = (are.0.can_write.rising, files-rise deletes bucket files are.1)

-- ---- what is gathered

pub gathered-written : (deletes : Bool) (bucket low high : ℕ) (files : List (List Rec)) → AreFilesOf deletes bucket files
    → RisesFrom None (gathered low high files) → CanWrite deletes bucket (gathered low high files)
unfolding gathered
gathered-written deletes bucket low high files are rising = record {
  each =
      all-rising (RecIsTaken deletes bucket) rec_cmp (flat_map (in_range low high) files)
      (all-given (IsFile deletes bucket) (RecIsTaken deletes bucket) (in_range low high)
      (λ (recs : List Rec) file. all-kept (RecIsTaken deletes bucket) (is_in_range low high) recs file.can_write.each) files are);
  rising = rising;
}

-- ---- what is left

abbrev IsRow : ℕ → Shown → Type 0
IsRow bucket shown = RecIsTaken false bucket (inserted shown)

rows-taken : (bucket : ℕ) (recs : List Rec) → AllByRecursion (RecIsTaken false bucket) recs → AllByRecursion (IsRow bucket) (rows_in recs)
rows-taken bucket [] all = tt
rows-taken bucket (rec.Insert id row ∷ recs) all = (all.0, rows-taken bucket recs all.1)
rows-taken bucket (rec.Delete id by ∷ recs) all = rows-taken bucket recs all.1

all-inserted : (bucket : ℕ) (rows : List Shown) → AllByRecursion (IsRow bucket) rows → AllByRecursion (RecIsTaken false bucket) (map inserted rows)
all-inserted bucket [] all = tt
all-inserted bucket (row ∷ rows) all = (all.0, all-inserted bucket rows all.1)

from-below : (x : Shown) (rows : List Shown) → Below (by_id id_of) x rows → Rises (by_id id_of) rows → RisesFrom (Some x.id) (map inserted rows)
from-below x [] below up = tt
from-below x (y ∷ rows) below up = (below.0, from-below y rows up.0 up.1)

of-rises : (rows : List Shown) → Rises (by_id id_of) rows → RisesFrom None (map inserted rows)
of-rises [] up = tt
of-rises (x ∷ rows) up = (tt, from-below x rows up.0 up.1)

pub merged-written : (bucket : ℕ) (list : WriteIds) (files deletes : List (List Rec)) → AreFilesOf false bucket files
    → CanWrite false bucket (map inserted (merged list files deletes))
unfolding merged
merged-written bucket list files deletes are =
    let seen = visible_among id_of (sight_of list) (flat_map deletes_in deletes) (flat_map rows_in files) in
    record {
      each =
          all-inserted bucket (rising_by (by_id id_of) seen)
          (all-rising (IsRow bucket) (by_id id_of) seen
          (all-kept (IsRow bucket) (λ (found : Shown). is_visible (sight_of list) (flat_map deletes_in deletes) (id_of found)) (flat_map rows_in files)
          (all-given (IsFile false bucket) (IsRow bucket) rows_in (λ (recs : List Rec) file. rows-taken bucket recs file.can_write.each) files are)));
      rising = of-rises (rising_by (by_id id_of) seen) (rises-rising (by_id id_of) (by_id-total id_of) seen);
    }

-- ---- where there are no files

pub gathered-none : (low high : ℕ) → gathered low high [] ≡ []
unfolding gathered
gathered-none low high = refl

pub merged-none : (list : WriteIds) (deletes : List (List Rec)) → merged list [] deletes ≡ []
unfolding merged
merged-none list deletes = refl
