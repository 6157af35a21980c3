-- Whether all that a job covers went, name by name.
use Rattle.std.proofs.Common.{◌≡◌, ◌<◌, ◌≤◌, ◌+◌, ℕ, zero, suc, inl, inr, Bool, true, false, true≢false, Some, List, [], ◌∷◌, ◌++◌, length, get_or, take, refl, sym, ap, ◌∙◌, subst, arith}
use Rattle.std.specs.List.{AllByRecursion}
use Rattle.std.proofs.Math.Seq.{take-length}
use Rattle.std.proofs.lemmas.List.{take_more}
use Rattle.hv_dirs.specs.declared.names.DirName.{DirName}
use Rattle.hv_dirs.specs.Names.{IsPlain}
use Rattle.hv_history.specs.declared.entry.Entry.{Entry}
use Rattle.hv_history.specs.State.{State, Job, numbered, state_of}
use Rattle.hv_book.proofs.IdLaws.{all-append}
use Rattle.hv_book.specs.Past.{total}
use Rattle.hv_history.specs.Jobs.{jobs_in}
use Rattle.hv_jobs.specs.Covers.{is_cleaned_away}
use Rattle.hv_jobs.specs.Covered.{covered_names}
use Rattle.hv_law_visible.specs.Members.{IsIn}
use Rattle.hv_law_work.specs.Work.{HasGoneIf, AreGone}
use Rattle.hv_trail.specs.declared.trail.TrailItem.{TrailItem}
use Rattle.hv_trail.specs.Kept.{trail_of}
use Rattle.hv_trail.specs.Trail.{HasGone}
use Rattle.hv_acts.specs.hv_telling.specs.hv_house.specs.declared.house.House.{House}
use Rattle.hv_acts.specs.hv_telling.specs.hv_house.specs.House.{entries_of}
use Rattle.hv_job_acts.specs.Covering.{dir_named, AreNamesOf, IsGoneName, SomeStands}
use Rattle.hv_job_acts.proofs.Weights.{same-members, all-in, all-same}

-- ---- one name more

module _ (P : DirName → Type 0) (xs : List DirName) (i : ℕ) where
  pub all-next : (x : DirName) → i < length xs → x ≡ get_or xs i x → AllByRecursion P (take i xs) → P x → AllByRecursion P (take (i + 1) xs)
  all-next x low at all is =
      subst (AllByRecursion P) (sym (take_more xs i x low ∙ ap (λ (y : DirName). take i xs ++ y ∷ []) (sym at)))
      (all-append P (take i xs) (x ∷ []) all (is, tt))

  pub all-end : length xs ≤ i → i ≤ length xs → AllByRecursion P (take i xs) → AllByRecursion P xs
  all-end high low all =
      let end : i ≡ length xs = omega (arith, high, low) in
      subst (AllByRecursion P) (ap (λ n. take n xs) end ∙ take-length xs) all

in-at : (xs : List DirName) (i : ℕ) (d : DirName) → i < length xs → IsIn (get_or xs i d) xs
in-at [] i d low = absurd (omega (arith, low))
in-at (x ∷ xs) zero d low = inl refl
in-at (x ∷ xs) (suc i) d low = inr (in-at xs i d (omega (arith, low)))

pub item-in : (xs : List DirName) (i : ℕ) (x : DirName) → i < length xs → x ≡ get_or xs i x → IsIn x xs
item-in xs i x low at = subst (λ (y : DirName). IsIn y xs) (sym at) (in-at xs i x low)

-- what is covered, as it is asked of a house
abbrev pub WeighSame : List Entry → ℕ → List DirName → Type 0
WeighSame entries job xs =
    (j : Job) → numbered (state_of entries).jobs job ≡ Some j → (weight : DirName → ℕ) → total weight xs ≡ total weight (covered_names (state_of entries) j)

pub covered-at : {D : Type 0} (house : House D) (job : ℕ) (xs : List DirName) (entries : List Entry) → entries ≡ entries_of house
    → WeighSame entries job xs → WeighSame (entries_of house) job xs
covered-at house job xs entries are each = subst (λ (book : List Entry). WeighSame book job xs) are each

-- ---- of the job

module _ (trail : List TrailItem) (state : State) (j : Job) (table : ℕ) (partition : List ℕ) (at_table : j.table ≡ table) (at_partition : j.partition ≡ partition)
    (xs : List DirName) (same : (weight : DirName → ℕ) → total weight xs ≡ total weight (covered_names state j)) where
  -- each of them went
  pub gone-all : (slice : List DirName) → slice ≡ xs → AllByRecursion (IsGoneName trail state table partition) slice → AreGone trail state j
  gone-all slice lent those =
      let all : AllByRecursion (IsGoneName trail state table partition) xs = subst (AllByRecursion (IsGoneName trail state table partition)) lent those in
      all-same (HasGoneIf trail state j) xs (covered_names state j) same
      (subst (λ (p : List ℕ). AllByRecursion (IsGoneName trail state j.table p) xs) (sym at_partition)
      (subst (λ (t : ℕ). AllByRecursion (IsGoneName trail state t partition) xs) (sym at_table) all))

  -- one didn't
  pub gone-not : (slice : List DirName) → slice ≡ xs → SomeStands trail state table partition slice → AreNamesOf state j → AreGone trail state j → ⊥
  gone-not slice lent one names gone =
      let among : IsIn one.name xs = subst (IsIn one.name) lent one.among in
      let covered = same-members (covered_names state j) xs (λ weight. sym (same weight)) one.name among in
      let here : IsGoneName trail state j.table j.partition one.name = all-in (HasGoneIf trail state j) (covered_names state j) gone one.name covered in
      one.stands (all-in IsPlain (covered_names state j) names one.name covered)
      (subst (λ (t : ℕ). IsGoneName trail state t partition one.name) at_table
      (subst (λ (p : List ℕ). IsGoneName trail state j.table p one.name) at_partition here))

-- ---- one name, as it is asked of a house

module _ {D : Type 0} (house : House D) (table : ℕ) (partition : List ℕ) (name : DirName) where
  abbrev Its : State
  Its = state_of (entries_of house)

  -- a job that was cleaned covers it
  pub away-now : (entries : List Entry) (b : Bool) → entries ≡ entries_of house → b ≡ is_cleaned_away (jobs_in (state_of entries) table partition) name → b ≡ true
      → IsGoneName (trail_of house.trail) Its table partition name
  away-now entries b are is so = λ left.
      let away = ap (λ (book : List Entry). is_cleaned_away (jobs_in (state_of book) table partition) name) are in
      absurd (true≢false (sym so ∙ is ∙ away ∙ left))

  -- none does: then it has a mark, or hasn't
  pub marked-now : (entries : List Entry) (b : Bool) → entries ≡ entries_of house → b ≡ is_cleaned_away (jobs_in (state_of entries) table partition) name
      → b ≡ false → (HasGone (trail_of house.trail) (dir_named table partition name) → ⊥) → IsGoneName (trail_of house.trail) Its table partition name → ⊥
  marked-now entries b are is so not gone =
      let away = ap (λ (book : List Entry). is_cleaned_away (jobs_in (state_of book) table partition) name) are in
      not (gone (sym (is ∙ away) ∙ so))
