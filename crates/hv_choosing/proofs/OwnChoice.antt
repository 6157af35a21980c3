-- Among own directories alone all those of valid write ids are taken, and no others.
use Rattle.std.proofs.Common.{◌≡◌, ℕ, suc, ◌-◌, ◌≤◌, inl, inr, Bool, true, false, ◌||◌, Option, Some, None, List, [], ◌∷◌, ◌++◌, map, length, true≢false, refl, sym, ap, ◌∙◌, subst, arith}
use Rattle.std.specs.Ordering.{is_eq, nat_cmp}
use Rattle.std.specs.Cmp.Lexicographic.{slice_cmp}
use Rattle.std.specs.List.{filter_map, cons_option, list_any, range_with_len, AllByRecursion}
use Rattle.hv_base.specs.declared.ids.WriteId.{WriteId}
use Rattle.hv_wids.specs.WriteIds.{WriteIds, is_valid}
use Rattle.hv_dirs.specs.declared.names.DirName.{DirName}
use Rattle.hv_dirs.specs.declared.names.DirName.TheVariants as name
use Rattle.hv_dirs.specs.Names.{IsName, text_of}
use Rattle.hv_dirs.specs.Choice.{Sight, sight_of, Delta, Own, Wide, low_of, high_of, is_own, base_of, taken_from, chosen_above, base_named, delta_named, bases_in, deltas_in, delta_cmp}
use Rattle.hv_base.specs.Sorting.{sorted_by}
use Rattle.hv_dirs.proofs.NameLemmas.{text-same}
use Rattle.hv_law_visible.specs.Members.{IsIn}
use Rattle.hv_law_visible.proofs.MemberLemmas.{in-flat, from-flat, in-filter, from-filter, in-map, from-map, any-in, in-any}
use Rattle.hv_law_visible.proofs.SortingLemmas.{from-sorted, to-sorted}
use Rattle.hv_law_visible.proofs.TakenLemmas.{all-in, covers, Covers, is-taken}
use Rattle.hv_law_visible.proofs.OrderLemmas.{ordered-sorted}
use Rattle.hv_choosing.specs.declared.dir.Dir.{Dir}
use Rattle.hv_choosing.specs.declared.dir.Dir.TheVariants as dir
use Rattle.hv_choosing.specs.declared.listing.DirFile.{DirFile}
use Rattle.hv_choosing.specs.Dirs.{name_of}
use Rattle.hv_choosing.specs.Listing.{IsNamed}
use Rattle.hv_choosing.specs.Taken.{names_of, delta_name, base_text, base_in, delta_text, chosen_texts, is_in_one, run_taken, files_taken, runs}
use Rattle.hv_choosing.specs.Laws.{IsOwnDir, IsOwnFile, IsValidOwn, OwnFilesAreTaken}
use Rattle.hv_choosing.proofs.Searching.{same-text, text-tied}
use Rattle.hv_choosing.proofs.Texts.{delta-named}
use Rattle.hv_choosing.proofs.Partitions.{run-in, in-run}

-- ---- own directories are no bases

no-bases : (run : List DirFile) → AllByRecursion IsOwnFile run → bases_in (names_of run) ≡ []
no-bases [] own = refl
no-bases (file ∷ run) own = λ i. cons_option (none file.dir own.0 i) (no-bases run own.1 i)
  where
    none : (d : Dir) → IsOwnDir d → base_named (name_of d) ≡ None
    none (dir.Base high) h = absurd h
    none (dir.Own deletes write statement) h = refl
    none (dir.Wide deletes low high) h = absurd h

no-base : (sight : Sight) (run : List DirFile) → AllByRecursion IsOwnFile run → base_in sight (names_of run) ≡ 0
no-base sight run own = ap (base_of sight) (no-bases run own)

texts-are : (deletes : Bool) (sight : Sight) (run : List DirFile) → AllByRecursion IsOwnFile run
    → chosen_texts deletes sight (names_of run) ≡ map (delta_text deletes) (chosen_above sight 0 (deltas_in deletes (names_of run)))
texts-are true sight run own = ap (λ base. map (delta_text true) (chosen_above sight base (deltas_in true (names_of run)))) (no-base sight run own)
texts-are false sight run own =
    ap (λ base. base_text base ++ map (delta_text false) (chosen_above sight base (deltas_in false (names_of run)))) (no-base sight run own)

-- ---- the deltas of a run

pub in-option : {A B : Type 0} (f : A → Option B) (x : A) (y : B) (xs : List A) → IsIn x xs → f x ≡ Some y → IsIn y (filter_map f xs)
in-option f x y [] h e = absurd h
in-option f x y (z ∷ xs) (inl same) e = subst (λ o. IsIn y (cons_option o (filter_map f xs))) (sym (ap f same ∙ e)) (inl refl)
in-option f x y (z ∷ xs) (inr h) e = by (f z) (in-option f x y xs h e)
  where
    by : (o : Option _) → IsIn y (filter_map f xs) → IsIn y (cons_option o (filter_map f xs))
    by None rest = rest
    by (Some w) rest = inr rest

pub from-option : {A B : Type 0} (f : A → Option B) (y : B) (xs : List A) → IsIn y (filter_map f xs) → (x : A) × IsIn x xs × (f x ≡ Some y)
from-option {A = A} {B = B} f y [] h = absurd h
from-option {A = A} {B = B} f y (z ∷ xs) h = by (f z) refl h (from-option f y xs)
  where
    by : (o : Option B) → f z ≡ o → IsIn y (cons_option o (filter_map f xs)) → (IsIn y (filter_map f xs) → (x : A) × IsIn x xs × (f x ≡ Some y))
        → (x : A) × IsIn x (z ∷ xs) × (f x ≡ Some y)
    by None e h rest = let at = rest h in (at.0, inr at.1, at.2)
    by (Some w) e (inl same) rest = (z, inl refl, e ∙ ap Some same)
    by (Some w) e (inr k) rest = let at = rest k in (at.0, inr at.1, at.2)

-- a delta of own directories is one of a statement
pub record IsOwnDelta (deletes : Bool) (run : List DirFile) (d : Delta) : Type 0 where
  pub own : is_own d ≡ true
  pub first : 1 ≤ low_of d
  pub name : IsName (delta_name deletes d)

delta-own : (deletes : Bool) (run : List DirFile) → AllByRecursion IsNamed run → AllByRecursion IsOwnFile run → (d : Delta) → IsIn d (deltas_in deletes (names_of run))
    → IsOwnDelta deletes run d
delta-own deletes run named own d h =
    let at = from-option (delta_named deletes) d (names_of run) h in
    let from = from-map (λ (file : DirFile). name_of file.dir) at.0 run at.1 in
    let is : name_of from.0.dir ≡ delta_name deletes d = from.2 ∙ delta-named deletes at.0 d at.2 in
    let valid : IsName (delta_name deletes d) = subst IsName is (all-in IsNamed run from.0 named from.1).0 in
    by from.0.dir (all-in IsOwnFile run from.0 own from.1) d is valid
  where
    by : (e : Dir) → IsOwnDir e → (d : Delta) → name_of e ≡ delta_name deletes d → IsName (delta_name deletes d) → IsOwnDelta deletes run d
    by (dir.Base high) h d e valid = absurd h
    by (dir.Own kind write statement) h (Own w s) e valid = record { own = refl; first = valid.0.0; name = valid }
    by (dir.Own kind write statement) h (Wide low high) e valid = cc
    by (dir.Wide kind low high) h d e valid = absurd h

-- ---- what is chosen

single : (list : WriteIds) (write : ℕ) → (sight_of list).has_some write write ≡ is_valid list write
single list write =
    let so : suc write - write ≡ 1 = omega arith in
    ap (λ n. list_any (is_valid list) (range_with_len write n)) so ∙ or-false (is_valid list write)
  where
    or-false : (b : Bool) → b || false ≡ b
    or-false true = refl
    or-false false = refl

some-own : (list : WriteIds) (d : Delta) → is_own d ≡ true → (sight_of list).has_some (low_of d) (high_of d) ≡ is_valid list (low_of d)
some-own list (Own write statement) own = single list write
some-own list (Wide low high) own = absurd (true≢false (sym own))

kind_in : DirName → Bool
kind_in (name.Base high) = true
kind_in (name.Own kind write statement) = kind
kind_in (name.Wide kind low high) = kind
kind_in (name.Staged job text) = true

write_in : DirName → ℕ
write_in (name.Base high) = 0
write_in (name.Own kind write statement) = write.0
write_in (name.Wide kind low high) = 0
write_in (name.Staged job text) = 0

kind-is : (deletes kind : Bool) (write : WriteId) (statement w s : ℕ) → name.Own kind write statement ≡ name.Own deletes (record { 0 = w }) s → kind ≡ deletes
unfolding kind_in
kind-is deletes kind write statement w s e = ap kind_in e

write-is : (deletes kind : Bool) (write : WriteId) (statement w s : ℕ) → name.Own kind write statement ≡ name.Own deletes (record { 0 = w }) s → write.0 ≡ w
unfolding write_in
write-is deletes kind write statement w s e = ap write_in e

module _ (deletes : Bool) (list : WriteIds) (run : List DirFile) (named : AllByRecursion IsNamed run) (own : AllByRecursion IsOwnFile run) where
  abbrev Deltas : List Delta
  Deltas = deltas_in deletes (names_of run)

  abbrev Chosen : List Delta
  Chosen = chosen_above (sight_of list) 0 Deltas

  pub chosen-valid : (d : Delta) → IsIn d Deltas → is_valid list (low_of d) ≡ true → IsIn d Chosen
  unfolding chosen_above
  chosen-valid d h valid =
      let is = delta-own deletes run named own d h in
      let sorted = sorted_by delta_cmp Deltas in
      let single_id : low_of d ≡ high_of d = Rattle.hv_law_visible.proofs.TakenLemmas.own-single d is.own in
      let first = is.first in
      let found = covers (sight_of list) 0 false d sorted (ordered-sorted Deltas) (to-sorted delta_cmp d Deltas h) (omega (arith, single_id)) (omega (arith, single_id, first)) (some-own list d is.own ∙ valid) in
      let there = is-taken (sight_of list) 0 0 false found.0 sorted (omega arith) (λ e. absurd (true≢false (sym e))) found.1 in
      let other = delta-own deletes run named own found.0 (from-sorted delta_cmp found.0 Deltas there.stands) in
      by found.0 found.1 other.own found.2
    where
      by : (c : Delta) → IsIn c (taken_from (sight_of list) 0 false (sorted_by delta_cmp Deltas)) → is_own c ≡ true → Covers c d
          → IsIn d (taken_from (sight_of list) 0 false (sorted_by delta_cmp Deltas))
      by c at is (inl same) = subst (λ e. IsIn e (taken_from (sight_of list) 0 false (sorted_by delta_cmp Deltas))) same at
      by c at is (inr wide) = absurd (true≢false (sym is ∙ wide.0))

  pub valid-chosen : (d : Delta) → IsIn d Chosen → IsIn d Deltas × (is_valid list (low_of d) ≡ true)
  unfolding chosen_above
  valid-chosen d h =
      let there = is-taken (sight_of list) 0 0 false d (sorted_by delta_cmp Deltas) (omega arith) (λ e. absurd (true≢false (sym e))) h in
      let stands = from-sorted delta_cmp d Deltas there.stands in
      let is = delta-own deletes run named own d stands in
      (stands, sym (some-own list d is.own) ∙ there.some)

  -- ---- the files of a run

  delta-of : (d : Dir) → IsValidOwn deletes list d → (e : Delta) × (delta_named deletes (name_of d) ≡ Some e) × (is_valid list (low_of e) ≡ true)
  delta-of (dir.Base high) h = absurd h
  delta-of (dir.Own kind write statement) h = (Own write.0 statement, kinds deletes kind h.0, h.1)
    where
      kinds : (a b : Bool) → b ≡ a → delta_named a (name.Own b write statement) ≡ Some (Own write.0 statement)
      kinds true true e = refl
      kinds true false e = cc
      kinds false true e = cc
      kinds false false e = refl
  delta-of (dir.Wide kind low high) h = absurd h

  pub taken-valid : (file : DirFile) → IsIn file run → IsValidOwn deletes list file.dir → IsIn file (run_taken deletes (sight_of list) run)
  unfolding run_taken
  taken-valid file h valid =
      let d = delta-of file.dir valid in
      let name_is = delta-named deletes (name_of file.dir) d.0 d.1 in
      let among = in-option (delta_named deletes) (name_of file.dir) d.0 (names_of run) (in-map (λ (f : DirFile). name_of f.dir) file run h) d.1 in
      let chosen = chosen-valid d.0 among d.2 in
      let at = all-in IsNamed run file named h in
      let text : delta_text deletes d.0 ≡ file.place.dir = ap text_of (sym name_is) ∙ at.1 in
      in-filter (is_in_one (chosen_texts deletes (sight_of list) (names_of run))) file run h
      (ap (λ texts. is_in_one texts file) (texts-are deletes (sight_of list) run own)
      ∙ any-in (λ text. is_eq (slice_cmp nat_cmp text file.place.dir)) (delta_text deletes d.0) (map (delta_text deletes) Chosen)
      (in-map (delta_text deletes) d.0 Chosen chosen) (text-tied (delta_text deletes d.0) file.place.dir text))

  pub valid-taken : (file : DirFile) → IsIn file (run_taken deletes (sight_of list) run) → IsIn file run × IsValidOwn deletes list file.dir
  unfolding run_taken
  valid-taken file h =
      let kept = from-filter (is_in_one (chosen_texts deletes (sight_of list) (names_of run))) file run h in
      let one_text = in-any (λ text. is_eq (slice_cmp nat_cmp text file.place.dir)) (map (delta_text deletes) Chosen)
      (sym (ap (λ texts. is_in_one texts file) (texts-are deletes (sight_of list) run own)) ∙ kept.1) in
      let d = from-map (delta_text deletes) one_text.0 Chosen one_text.1 in
      let is = valid-chosen d.0 d.1 in
      let delta = delta-own deletes run named own d.0 is.0 in
      let at = all-in IsNamed run file named kept.0 in
      let same : name_of file.dir ≡ delta_name deletes d.0 =
      text-same (name_of file.dir) (delta_name deletes d.0) at.0 delta.name (at.1 ∙ sym (d.2 ∙ same-text one_text.0 file.place.dir one_text.2)) in
      (kept.0, by file.dir (all-in IsOwnFile run file own kept.0) d.0 same is.1)
    where
      by : (e : Dir) → IsOwnDir e → (d : Delta) → name_of e ≡ delta_name deletes d → is_valid list (low_of d) ≡ true → IsValidOwn deletes list e
      by (dir.Base high) h d same valid = absurd h
      by (dir.Own kind write statement) h (Own w s) same valid =
          (kind-is deletes kind write statement w s same, ap (is_valid list) (write-is deletes kind write statement w s same) ∙ valid)
      by (dir.Own kind write statement) h (Wide low high) same valid = cc
      by (dir.Wide kind low high) h d same valid = absurd h

-- ---- the files of a table

all-from : {A : Type 0} (P : A → Type 0) (xs : List A) → ((x : A) → IsIn x xs → P x) → AllByRecursion P xs
all-from P [] f = tt
all-from P (x ∷ xs) f = (f x (inl refl), all-from P xs (λ y h. f y (inr h)))

pub own-taken : OwnFilesAreTaken
unfolding files_taken
own-taken deletes list files named own = record {
  each = λ file h valid.
      let at = in-run (length files) files file (omega arith) h in
      in-flat (run_taken deletes (sight_of list)) at.0 file (runs (length files) files) at.1
      (taken-valid deletes list at.0 (names_in at.0 at.1) (owns_in at.0 at.1) file at.2 valid);
  only = λ file h.
      let at = from-flat (run_taken deletes (sight_of list)) file (runs (length files) files) h in
      let is = valid-taken deletes list at.0 (names_in at.0 at.1) (owns_in at.0 at.1) file at.2 in
      (run-in (length files) files at.0 file at.1 is.0, is.1);
}
  where
    names_in : (run : List DirFile) → IsIn run (runs (length files) files) → AllByRecursion IsNamed run
    names_in run h = all-from IsNamed run (λ file k. all-in IsNamed files file named (run-in (length files) files run file h k))

    owns_in : (run : List DirFile) → IsIn run (runs (length files) files) → AllByRecursion IsOwnFile run
    owns_in run h = all-from IsOwnFile run (λ file k. all-in IsOwnFile files file own (run-in (length files) files run file h k))
