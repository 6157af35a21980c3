-- The directories that a job covers and that are left to be taken away, name by name.
use Rattle.std.proofs.Common.{◌≡◌, ◌↔◌, ◌⊎◌, inl, inr, ◌+◌, ◌<◌, ◌≤◌, ℕ, Bool, true, false, Option, Some, None, List, [], ◌∷◌, ◌++◌, length, get_or, take, refl, sym, ap, ◌∙◌, subst, arith}
use Rattle.std.specs.Prelude.{if◌then◌else◌, ◌&&◌, not, IsTrue}
use Rattle.std.specs.List.{flat_map, AllByRecursion}
use Rattle.std.proofs.Math.Seq.{take-length}
use Rattle.std.proofs.lemmas.List.{take_more}
use Rattle.hv_shelf.specs.declared.place.DirAt.{DirAt}
use Rattle.hv_dirs.specs.declared.names.DirName.{DirName}
use Rattle.hv_dirs.specs.Names.{text_of, IsPlain}
use Rattle.hv_history.specs.declared.entry.JobKind.{JobKind}
use Rattle.hv_history.specs.declared.entry.JobKind.TheVariants as kind
use Rattle.hv_history.specs.State.{State, Job}
use Rattle.hv_history.specs.Jobs.{Events, inserts, deletes, events_in, jobs_in}
use Rattle.hv_book.proofs.IdLaws.{all-append}
use Rattle.hv_book.specs.Past.{total}
use Rattle.hv_jobs.specs.Covers.{covers, is_cleaned_away}
use Rattle.hv_jobs.specs.Covered.{own, wide, base, has_within, covered_if, own_covered, published_covered, made_covered, covered_names}
use Rattle.hv_law_visible.specs.Members.{IsIn}
use Rattle.hv_meta.proofs.FactLemmas.{and-left, and-right, and-both, false-is}
use Rattle.hv_job_calls.specs.Refusals.{IsCoveredDir}
use Rattle.hv_job_acts.specs.Covering.{dir_named, AreNamesOf, IsLeft, PutsDir, IsDirOf, HasLeft}
use Rattle.hv_job_acts.specs.Work.{AreCovered}
use Rattle.hv_job_acts.proofs.Plain.{plain-named}
use Rattle.hv_job_acts.proofs.Weights.{same-members, all-in}

-- ---- whether one is left

module _ (name : DirName) (plain may away known all : Bool) (names : IsTrue plain ↔ IsPlain name) (known_is : known ≡ (plain && may))
    (all_is : all ≡ (known && not away)) where
  known-so : all ≡ true → (plain && may) ≡ true
  known-so so = sym known_is ∙ and-left known (not away) (sym all_is ∙ so)

  pub plain-so : all ≡ true → IsPlain name
  plain-so so = names.0 (and-left plain may (known-so so))

  pub left-iff : (state : State) (j : Job) (table : ℕ) (partition : List ℕ) → may ≡ covers j name → away ≡ is_cleaned_away (jobs_in state table partition) name
      → IsTrue all ↔ IsLeft state j table partition name
  left-iff state j table partition may_is away_is = (
    λ so. record {
      named = plain-so so;
      covered = sym may_is ∙ and-right plain may (known-so so);
      kept = sym away_is ∙ (false-is away).0 (and-right known (not away) (sym all_is ∙ so));
    },
    λ left. all_is
        ∙ and-both known (not away) (known_is ∙ and-both plain may (names.1 left.named) (may_is ∙ left.covered)) ((false-is away).1 (away_is ∙ left.kept)),
  )

-- ---- one name more

in-front : {A : Type 0} (x : A) (xs ys : List A) → IsIn x xs → IsIn x (xs ++ ys)
in-front x [] ys is = absurd is
in-front x (y ∷ xs) ys (inl is) = inl is
in-front x (y ∷ xs) ys (inr is) = inr (in-front x xs ys is)

in-last : {A : Type 0} (x : A) (xs : List A) → IsIn x (xs ++ x ∷ [])
in-last x [] = inl refl
in-last x (y ∷ xs) = inr (in-last x xs)

in-either : {A : Type 0} (x : A) (xs : List A) (y : A) → IsIn x (xs ++ y ∷ []) → IsIn x xs ⊎ (y ≡ x)
in-either x [] y (inl is) = inr is
in-either x [] y (inr is) = absurd is
in-either x (z ∷ xs) y (inl is) = inl (inl is)
in-either x (z ∷ xs) y (inr is) = by (in-either x xs y is)
  where
    by : IsIn x xs ⊎ (y ≡ x) → IsIn x (z ∷ xs) ⊎ (y ≡ x)
    by (inl rest) = inl (inr rest)
    by (inr here) = inr here

module _ (state : State) (j : Job) (table : ℕ) (partition : List ℕ) where
  pub left-init : (names : List DirName) (dirs : List DirAt) → dirs ≡ [] → HasLeft state j table partition (take 0 names) dirs
  left-init names dirs none = record {
    each = subst (AllByRecursion (IsDirOf j table partition)) (sym none) tt;
    every = λ name is left. absurd is;
  }

  -- it is put behind the others
  put-more : (names : List DirName) (name : DirName) (before : List DirAt) → IsLeft state j table partition name → HasLeft state j table partition names before
      → HasLeft state j table partition (names ++ name ∷ []) (before ++ dir_named table partition name ∷ [])
  put-more names name before left has = record {
    each =
        all-append (IsDirOf j table partition) before (dir_named table partition name ∷ []) has.each
        (record { name = name; named = left.named; covered = left.covered; is = refl }, tt);
    every = λ other is kept. by other kept (in-either other names name is);
  }
    where
      by : (other : DirName) → IsLeft state j table partition other → IsIn other names ⊎ (name ≡ other)
          → IsIn (dir_named table partition other) (before ++ dir_named table partition name ∷ [])
      by other kept (inl is) = in-front (dir_named table partition other) before (dir_named table partition name ∷ []) (has.every other is kept)
      by other kept (inr same) =
          subst (λ (n : DirName). IsIn (dir_named table partition n) (before ++ dir_named table partition name ∷ [])) same
          (in-last (dir_named table partition name) before)

  -- it isn't left
  put-none : (names : List DirName) (name : DirName) (before : List DirAt) → (IsLeft state j table partition name → ⊥) → HasLeft state j table partition names before
      → HasLeft state j table partition (names ++ name ∷ []) before
  put-none names name before never has = record {
    each = has.each;
    every = λ other is kept. by other kept (in-either other names name is);
  }
    where
      by : (other : DirName) → IsLeft state j table partition other → IsIn other names ⊎ (name ≡ other) → IsIn (dir_named table partition other) before
      by other kept (inl is) = has.every other is kept
      by other kept (inr same) = absurd (never (subst (IsLeft state j table partition) (sym same) kept))

  puts-more : (names : List DirName) (name : DirName) (before now : List DirAt) → PutsDir state j table partition name before now
      → HasLeft state j table partition names before → HasLeft state j table partition (names ++ name ∷ []) now
  puts-more names name before now (inl put) has =
      subst (HasLeft state j table partition (names ++ name ∷ [])) (sym put.0) (put-more names name before put.1 has)
  puts-more names name before now (inr put) has =
      subst (HasLeft state j table partition (names ++ name ∷ [])) (sym put.0) (put-none names name before put.1 has)

  pub left-next : (names : List DirName) (i : ℕ) (name : DirName) (before now : List DirAt) → i < length names → name ≡ get_or names i name
      → HasLeft state j table partition (take i names) before → PutsDir state j table partition name before now
      → HasLeft state j table partition (take (i + 1) names) now
  left-next names i name before now low at has puts =
      subst (λ (ns : List DirName). HasLeft state j table partition ns now)
      (sym (take_more names i name low ∙ ap (λ (n : DirName). take i names ++ n ∷ []) (sym at))) (puts-more (take i names) name before now puts has)

  pub left-end : (names : List DirName) (i : ℕ) (dirs : List DirAt) → length names ≤ i → i ≤ length names
      → HasLeft state j table partition (take i names) dirs → HasLeft state j table partition names dirs
  left-end names i dirs high low has =
      let end : i ≡ length names = omega (arith, high, low) in
      subst (λ (ns : List DirName). HasLeft state j table partition ns dirs) (ap (λ n. take n names) end ∙ take-length names) has

-- ---- the job covers each of the names

module _ (j : Job) where
  abbrev Is : DirName → Type 0
  Is name = covers j name ≡ true

  all-if : (made : Bool) (name : DirName) → AllByRecursion Is (covered_if j made name)
  all-if made name = by (made && covers j name) refl
    where
      by : (b : Bool) → (made && covers j name) ≡ b → AllByRecursion Is (if b then name ∷ [] else [])
      by true e = (and-right made (covers j name) e, tt)
      by false e = tt

  all-flat : {A : Type 0} (f : A → List DirName) → ((x : A) → AllByRecursion Is (f x)) → (xs : List A) → AllByRecursion Is (flat_map f xs)
  all-flat f each [] = tt
  all-flat f each (x ∷ xs) = all-append Is (f x) (flat_map f xs) (each x) (all-flat f each xs)

  all-own : (events : Events) → AllByRecursion Is (own_covered j events)
  all-own events =
      all-append Is (covered_if j (inserts events) (own false events.write)) (covered_if j (deletes events) (own true events.write))
      (all-if (inserts events) (own false events.write)) (all-if (deletes events) (own true events.write))

  all-published : (ids : List Events) (kind : JobKind) (range : Option (ℕ × ℕ × ℕ)) → AllByRecursion Is (published_covered ids j kind range)
  all-published ids kind_ None = tt
  all-published ids kind.Minor (Some range) =
      all-append Is (covered_if j (has_within false range.0 range.1 ids) (wide false range.0 range.1))
      (covered_if j (has_within true range.0 range.1 ids) (wide true range.0 range.1))
      (all-if (has_within false range.0 range.1 ids) (wide false range.0 range.1)) (all-if (has_within true range.0 range.1 ids) (wide true range.0 range.1))
  all-published ids kind.Major (Some range) = all-if true (base range.1)

  pub all-covered : (state : State) → AllByRecursion Is (covered_names state j)
  all-covered state =
      let ids = events_in state j.table j.partition in
      all-append Is (flat_map (own_covered j) ids) (flat_map (made_covered ids j) (jobs_in state j.table j.partition)) (all-flat (own_covered j) all-own ids)
      (all-flat (made_covered ids j) (λ (other : Job). all-published ids other.kind other.published) (jobs_in state j.table j.partition))

-- ---- all of them

module _ (state : State) (j : Job) (table : ℕ) (partition : List ℕ) (at_table : j.table ≡ table) (at_partition : j.partition ≡ partition) where
  its-dir : (dir : DirAt) → IsDirOf j table partition dir → IsCoveredDir dir j
  its-dir dir is = record {
    table_is = ap (λ (d : DirAt). d.table.0) is.is ∙ sym at_table;
    partition_is = ap (λ (d : DirAt). d.partition) is.is ∙ sym at_partition;
    name = is.name;
    named = plain-named is.name is.named;
    text = ap (λ (d : DirAt). d.dir) is.is;
    covered = is.covered;
  }

  all-dirs : (dirs : List DirAt) → AllByRecursion (IsDirOf j table partition) dirs → AllByRecursion (λ (dir : DirAt). IsCoveredDir dir j) dirs
  all-dirs [] all = tt
  all-dirs (dir ∷ dirs) all = (its-dir dir all.0, all-dirs dirs all.1)

  pub are-covered : (names slice : List DirName) (dirs : List DirAt) → slice ≡ names
      → ((weight : DirName → ℕ) → total weight names ≡ total weight (covered_names state j)) → AreNamesOf state j
      → HasLeft state j table partition slice dirs → AreCovered state j dirs
  are-covered names slice dirs lent same plain has = record {
    each = all-dirs dirs has.each;
    every = λ name is kept.
        let among : IsIn name slice = subst (IsIn name) (sym lent) (same-members names (covered_names state j) same name is) in
        let here : is_cleaned_away (jobs_in state table partition) name ≡ false =
        ap (λ (t : ℕ). is_cleaned_away (jobs_in state t partition) name) (sym at_table)
        ∙ ap (λ (p : List ℕ). is_cleaned_away (jobs_in state j.table p) name) (sym at_partition) ∙ kept in
        let put = has.every name among (record {
          named = all-in IsPlain (covered_names state j) plain name is;
          covered = all-in (Is j) (covered_names state j) (all-covered j state) name is;
          kept = here;
        }) in
        subst (λ (dir : DirAt). IsIn dir dirs)
        (λ i. record { table = record { 0 = sym at_table i }; partition = sym at_partition i; dir = text_of name }) put;
  }
