-- The names of the directories that are chosen, by the places of their files.
use Rattle.std.proofs.Common.{◌≡◌, ℕ, zero, suc, ◌≤◌, Bool, true, false, cond, Option, Some, None, List, [], ◌∷◌, ◌++◌, filter, map, drop, get_or, refl, sym, ap, ◌∙◌, subst, arith, IsPermutation, Result, Ok, Err, OnOk}
use Rattle.std.specs.Prelude.{slice_get, option_and_then}
use Rattle.std.specs.Option.{option_map}
use Rattle.std.specs.Ordering.{is_eq, nat_cmp}
use Rattle.std.specs.Cmp.Lexicographic.{slice_cmp}
use Rattle.std.specs.List.{flat_map, AllByRecursion}
use Rattle.std.proofs.lemmas.List.Concat.{flat_map-cons}
use Rattle.std.proofs.lemmas.List.Sorted.{list_any-IsPermutation}
use Rattle.hv_dirs.specs.declared.names.DirName.{DirName}
use Rattle.hv_dirs.specs.declared.names.DirName.TheVariants as name
use Rattle.hv_dirs.specs.Names.{IsName, text_of, base_name}
use Rattle.hv_dirs.specs.Choice.{Sight, Delta, chosen_above, base_named, delta_named, deltas_in, delta_at, IsBaseAt, IsChosen}
use Rattle.hv_choosing.specs.declared.dir.Dir.{Dir}
use Rattle.hv_choosing.specs.declared.dir.Dir.TheVariants as dir
use Rattle.hv_choosing.specs.declared.listing.DirFile.{DirFile}
use Rattle.hv_choosing.specs.Dirs.{name_of, dir_named, IsAt}
use Rattle.hv_choosing.specs.Listing.{IsNamed}
use Rattle.hv_choosing.specs.Taken.{names_of, delta_name, base_text, base_in, delta_text, is_in_one, run_taken, text_there, text_at, base_at, texts_at}

pub value_of : {A : Type 0} → A → Option A → A
value_of d None = d
value_of d (Some x) = x

pub one : {A : Type 0} {x y : A} → Some x ≡ Some y → x ≡ y
unfolding value_of
one {x = x} e = ap (value_of x) e

-- ---- a name that was read

pub named-back : (d : Dir) → dir_named (name_of d) ≡ Some d
named-back (dir.Base high) = refl
named-back (dir.Own deletes write statement) = refl
named-back (dir.Wide deletes low high) = refl

-- ---- what a name says of a delta

pub delta-named : (deletes : Bool) (n : DirName) (d : Delta) → delta_named deletes n ≡ Some d → n ≡ delta_name deletes d
delta-named true (name.Base high) d e = cc
delta-named false (name.Base high) d e = cc
delta-named true (name.Own true write statement) d e = ap (delta_name true) (one e)
delta-named true (name.Own false write statement) d e = cc
delta-named false (name.Own true write statement) d e = cc
delta-named false (name.Own false write statement) d e = ap (delta_name false) (one e)
delta-named true (name.Wide true low high) d e = ap (delta_name true) (one e)
delta-named true (name.Wide false low high) d e = cc
delta-named false (name.Wide true low high) d e = cc
delta-named false (name.Wide false low high) d e = ap (delta_name false) (one e)
delta-named true (name.Staged job text) d e = cc
delta-named false (name.Staged job text) d e = cc

-- ---- by places

get-named : (run : List DirFile) (i : ℕ) → slice_get (names_of run) i ≡ option_map (λ (file : DirFile). name_of file.dir) (slice_get run i)
get-named [] i = refl
get-named (file ∷ run) zero = refl
get-named (file ∷ run) (suc i) = get-named run i

named-at : (run : List DirFile) → AllByRecursion IsNamed run → (i : ℕ) (file : DirFile) → slice_get run i ≡ Some file → IsNamed file
named-at [] all i file e = cc
named-at (first ∷ run) all zero file e = subst IsNamed (one e) all.0
named-at (first ∷ run) all (suc i) file e = named-at run all.1 i file e

delta-text-at : (deletes : Bool) (run : List DirFile) → AllByRecursion IsNamed run → (i : ℕ) (d : Delta) → delta_at deletes (names_of run) i ≡ Some d
    → text_at run i ≡ delta_text deletes d ∷ []
delta-text-at deletes run all i d e =
    by (slice_get run i) refl (ap (option_and_then (delta_named deletes)) (sym (get-named run i)) ∙ e)
  where
    by : (o : Option DirFile) → slice_get run i ≡ o → option_and_then (delta_named deletes) (option_map (λ (file : DirFile). name_of file.dir) o) ≡ Some d
        → text_at run i ≡ delta_text deletes d ∷ []
    by None at is = cc
    by (Some file) at is =
        let named = named-at run all i file at in
        ap text_there at ∙ ap (λ text. text ∷ []) (sym named.1 ∙ ap text_of (delta-named deletes (name_of file.dir) d is))

tail-of : {A : Type 0} (x y : A) (xs ys : List A) → x ∷ xs ≡ y ∷ ys → xs ≡ ys
tail-of x y xs ys e = ap (drop 1) e

head-of : {A : Type 0} (x y : A) (xs ys : List A) → x ∷ xs ≡ y ∷ ys → x ≡ y
head-of x y xs ys e = ap (λ (zs : List _). get_or zs 0 x) e

delta-texts-at : (deletes : Bool) (run : List DirFile) → AllByRecursion IsNamed run → (deltas : List Delta) (places : List ℕ)
    → map (delta_at deletes (names_of run)) places ≡ map Some deltas → flat_map (text_at run) places ≡ map (delta_text deletes) deltas
delta-texts-at deletes run all [] [] e = refl
delta-texts-at deletes run all (d ∷ deltas) [] e = cc
delta-texts-at deletes run all [] (i ∷ places) e = cc
delta-texts-at deletes run all (d ∷ deltas) (i ∷ places) e =
    flat_map-cons (text_at run) i places
    ∙ (λ k. delta-text-at deletes run all i d (head-of (delta_at deletes (names_of run) i) (Some d) (map (delta_at deletes (names_of run)) places) (map Some deltas) e) k
    ++ delta-texts-at deletes run all deltas places (tail-of (delta_at deletes (names_of run) i) (Some d) (map (delta_at deletes (names_of run)) places) (map Some deltas) e) k)

base-text-of : (d : Dir) (text : List ℕ) (number : ℕ) → IsAt text d → base_named (name_of d) ≡ Some number → text ∷ [] ≡ base_text number
base-text-of (dir.Base high) text zero at e = let is : high.0 ≡ 0 = one e in let first : 1 ≤ high.0 = at.0.0 in absurd (omega (arith, is, first))
base-text-of (dir.Base high) text (suc n) at e = ap (λ t. t ∷ []) (sym at.1 ∙ ap base_name (one e))
base-text-of (dir.Own deletes write statement) text number at e = cc
base-text-of (dir.Wide deletes low high) text number at e = cc

base-text-at : (run : List DirFile) → AllByRecursion IsNamed run → (number : ℕ) (place : Option ℕ) → IsBaseAt (names_of run) number place → base_at run place ≡ base_text number
base-text-at run all number None is = ap base_text (sym is)
base-text-at run all number (Some place) is = by (slice_get run place) refl (ap (option_and_then base_named) (sym (get-named run place)) ∙ is)
  where
    by : (o : Option DirFile) → slice_get run place ≡ o → option_and_then base_named (option_map (λ (file : DirFile). name_of file.dir) o) ≡ Some number
        → text_at run place ≡ base_text number
    by None at e = cc
    by (Some file) at e = ap text_there at ∙ base-text-of file.dir file.place.dir number (named-at run all place file at) e

-- ---- the files of a run

pub filter-agree : {X : Type 0} (p q : X → Bool) → ((x : X) → p x ≡ q x) → (xs : List X) → filter p xs ≡ filter q xs
filter-agree p q same [] = refl
filter-agree p q same (x ∷ xs) = λ i. cond (same x i) (x ∷ filter-agree p q same xs i) (filter-agree p q same xs i)

pub files-sorted : (texts others : List (List ℕ)) (run : List DirFile) → IsPermutation texts others → filter (is_in_one others) run ≡ filter (is_in_one texts) run
files-sorted texts others run permuted =
    filter-agree (is_in_one others) (is_in_one texts)
    (λ file. sym (list_any-IsPermutation (λ text. is_eq (slice_cmp nat_cmp text file.place.dir)) texts others permuted)) run

pub taken-deltas : (sight : Sight) (run : List DirFile) (names : List DirName) (base : Option ℕ) (deltas deletes : List ℕ) → AllByRecursion IsNamed run → names ≡ names_of run
    → IsChosen sight names base deltas deletes → filter (is_in_one (texts_at run base deltas)) run ≡ run_taken false sight run
unfolding run_taken
taken-deltas sight run names base deltas deletes all are chosen =
    let is = subst (λ ns. IsChosen sight ns base deltas deletes) are chosen in
    ap (λ texts. filter (is_in_one texts) run)
    (λ i. base-text-at run all (base_in sight (names_of run)) base is.base i
    ++ delta-texts-at false run all (chosen_above sight (base_in sight (names_of run)) (deltas_in false (names_of run))) deltas is.deltas i)

pub taken-deletes : (sight : Sight) (run : List DirFile) (names : List DirName) (base : Option ℕ) (deltas deletes : List ℕ) → AllByRecursion IsNamed run → names ≡ names_of run
    → IsChosen sight names base deltas deletes → filter (is_in_one (texts_at run None deletes)) run ≡ run_taken true sight run
unfolding run_taken
taken-deletes sight run names base deltas deletes all are chosen =
    let is = subst (λ ns. IsChosen sight ns base deltas deletes) are chosen in
    ap (λ texts. filter (is_in_one texts) run)
    (delta-texts-at true run all (chosen_above sight (base_in sight (names_of run)) (deltas_in true (names_of run))) deletes is.deletes)

pub names-all : (run : List DirFile) → AllByRecursion IsNamed run → AllByRecursion IsName (names_of run)
names-all [] all = tt
names-all (file ∷ run) all = (all.0.0, names-all run all.1)

pub on-ok : {T E : Type 0} (r : Result T E) (P : Type 0) → P → OnOk r P
on-ok (Ok x) P p = p
on-ok (Err e) P p = tt
