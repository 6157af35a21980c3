-- What a front of a publication's renames leaves: but for final directories of jobs at work all stands, and each such job has all of its
-- directories, or one of them is bare.
use Rattle.std.proofs.Common.{refl, ◌≡◌, ◌⊎◌, inl, inr, ℕ, ◌+◌, ◌<◌, ◌==◌, true, false, Some, List, [], ◌∷◌, ◌++◌, sym, ap, ◌∙◌, subst, arith, eqb-true, eq-eqb, ltb-true, ltb-false, true≢false}
use Rattle.std.specs.Prelude.{nat_lt}
use Rattle.std.specs.FinMap as finmap
use Rattle.std.specs.List.{AllByRecursion}
use Rattle.std.proofs.lemmas.Bool.{or_right, false_from_ne_true}
use Rattle.std.proofs.lemmas.List.{append-nil}
use Rattle.hv_shelf.specs.declared.place.Place.{Place}
use Rattle.hv_shelf.specs.Disk.{Store, IsFree}
use Rattle.hv_shelf.specs.Places.{is_in}
use Rattle.hv_dirs.specs.declared.names.DirName.{DirName}
use Rattle.hv_dirs.specs.Names.{IsNumber, text_of, write_end}
use Rattle.hv_stands.specs.hv_history.specs.declared.state.Table.{Table}
use Rattle.hv_stands.specs.hv_history.specs.State.{State, Job, numbered}
use Rattle.hv_stands.specs.hv_history.specs.Legal.{is_working}
use Rattle.hv_stands.specs.hv_history.specs.Jobs.{is_initiated, is_job_of, pieces_for}
use Rattle.hv_stands.proofs.Numbers.{same_one, either}
use Rattle.hv_jobs.specs.Covers.{range_names}
use Rattle.hv_law_jobs.proofs.OrderLemmas.{in-order, job-of-from, job-of-back}
use Rattle.hv_law_made.specs.Made.{is_made}
use Rattle.hv_law_made.specs.Standing.{Standing}
use Rattle.hv_law_made.specs.Laws.{IsFiledFor}
use Rattle.hv_law_made.specs.Entries.{IsSoundBook, publishing, finals, dir_of, staged_text, IsAtWork, AreStaged, AreRenamed, IsFinalAt, HasBareFinal, Recovers, FrontsRecover}
use Rattle.hv_law_made.proofs.RenameStands.{in-parts, staged-final, final-same, Differ, IsMoved, not-in, renamed-all, is-number, free-here, final-made, finals-differ, bare_files, but-finals, bare-stands, all-filed}
use Rattle.hv_law_made.proofs.BareJobs.{bare-each}
use Rattle.hv_law_visible.specs.Members.{IsIn}
use Rattle.hv_law_visible.proofs.MemberLemmas.{in-left, in-right, from-filter}
use Rattle.hv_law_visible.proofs.TakenLemmas.{all-in}

-- ---- fronts of names that differ

all-front : (P : DirName → Type 0) (xs ys : List DirName) → AllByRecursion P (xs ++ ys) → AllByRecursion P xs
all-front P [] ys all = tt
all-front P (x ∷ xs) ys all = (all.0, all-front P xs ys all.1)

differ-front : (xs ys : List DirName) → Differ (xs ++ ys) → Differ xs
differ-front [] ys differ = tt
differ-front (x ∷ xs) ys differ = (all-front (λ (other : DirName). other ≡ x → ⊥) xs ys differ.0, differ-front xs ys differ.1)

differ-across : (xs ys : List DirName) → Differ (xs ++ ys) → (x y : DirName) → IsIn x xs → IsIn y ys → x ≡ y → ⊥
differ-across [] ys differ x y at_x at_y same = at_x
differ-across (first ∷ xs) ys differ x y (inl is) at_y same =
    all-in (λ (other : DirName). other ≡ first → ⊥) (xs ++ ys) y differ.0 (in-right y xs ys at_y) (sym same ∙ sym is)
differ-across (first ∷ xs) ys differ x y (inr at_x) at_y same = differ-across xs ys differ.1 x y at_x at_y same

-- ---- two jobs at work are in two partitions

module _ (state : State) (sound : IsSoundBook state) where
  followed : (m n : ℕ) (a b : Job) → numbered state.jobs m ≡ Some a → is_working a ≡ true → numbered state.jobs n ≡ Some b → m < n
      → is_job_of a.table a.partition b ≡ true → ⊥
  followed m n a b at_a works at_b less here =
      true≢false (sym (or_right (is_initiated a) (is_working a) works) ∙ (in-order state.jobs m n a b sound.jobs.order less at_a at_b here).over)

  pub two-partitions : (m n : ℕ) (a b : Job) → numbered state.jobs m ≡ Some a → is_working a ≡ true → numbered state.jobs n ≡ Some b → is_working b ≡ true → (m == n) ≡ false
      → is_job_of a.table a.partition b ≡ true → ⊥
  two-partitions m n a b at_a works_a at_b works_b other here = by (either (nat_lt m n)) (either (nat_lt n m))
    where
      by : (nat_lt m n ≡ true) ⊎ (nat_lt m n ≡ false) → (nat_lt n m ≡ true) ⊎ (nat_lt n m ≡ false) → ⊥
      by (inl less) more = followed m n a b at_a works_a at_b (ltb-true m n less) here
      by (inr no_less) (inl more) = followed n m b a at_b works_b at_a (ltb-true n m more) (job-of-back a b here)
      by (inr no_less) (inr no_more) =
          let low = ltb-false m n no_less in
          let high = ltb-false n m no_more in
          let same : m ≡ n = omega (arith, low, high) in
          true≢false (sym (eq-eqb m n same) ∙ other)

-- ---- what a front of the renames leaves

module _ (state : State) (number : ℕ) (job : Job) (work : IsAtWork state number job) (few : state.entries + 1 < write_end) (sound : IsSoundBook state)
    (before now : Store) (names rest : List DirName) (are : finals state job work.table.writes ≡ names ++ rest)
    (staged : AreStaged state number job (finals state job work.table.writes) before.tree) (standing : Standing state before.tree)
    (renamed : AreRenamed number job names before now) where
  abbrev its : List DirName
  its = finals state job work.table.writes

  abbrev is-its : IsNumber number
  is-its = is-number state number job work few sound

  among : (name : DirName) → IsIn name names → IsIn name its
  among name at = subst (IsIn name) (sym are) (in-left name names rest at)

  all-differ : Differ (names ++ rest)
  all-differ = subst Differ are (finals-differ state number job work few sound)

  in-ranges : (name : DirName) → IsIn name its → IsIn name (range_names job.kind (pieces_for state job).low (pieces_for state job).high)
  in-ranges name at = (from-filter (is_made work.table.writes job.partition) name (range_names job.kind (pieces_for state job).low (pieces_for state job).high) at).0

  moved : IsMoved number is-its job names before.tree now.tree
  moved =
      renamed-all number is-its job names (λ name at. final-made state number job work few sound name (among name at)) (differ-front names rest all-differ) before now
      (λ name at place within. free-here state number job work few sound before.tree standing name (in-ranges name (among name at)) place within) renamed

  -- a directory that wasn't renamed yet has no file
  bare-rest : (name : DirName) → IsIn name rest → IsFree (dir_of job (text_of name)) now.tree
  bare-rest name at place within =
      let dir_is : place.dir ≡ text_of name = (in-parts job (text_of name) place within).1.1 in
      let its_at : IsIn name its = subst (IsIn name) (sym are) (in-right name names rest at) in
      let its_made = final-made state number job work few sound name its_at in
      moved.stays place
      (λ one at_one. not-in number is-its job (text_of one) place
      (λ same. differ-across names rest all-differ one name at_one at
      (final-same number is-its one name (final-made state number job work few sound one (among one at_one)) its_made (sym same ∙ dir_is))))
      (λ one at_one. not-in number is-its job (staged_text number one) place
      (λ same. staged-final number is-its one name (final-made state number job work few sound one (among one at_one)) its_made (sym same ∙ dir_is)))
      ∙ free-here state number job work few sound before.tree standing name (in-ranges name its_at) place within

  own-by : (left : List DirName) → rest ≡ left → IsFiledFor (publishing state number job) state now.tree ⊎ HasBareFinal state job work.table.writes now.tree
  own-by [] none =
      let all : its ≡ names = are ∙ ap (λ (more : List DirName). names ++ more) none ∙ append-nil names in
      inl (all-filed state number job work few sound before.tree now.tree standing staged
      (subst (λ (ns : List DirName). IsMoved number is-its job ns before.tree now.tree) (sym all) moved))
  own-by (name ∷ left) some =
      let at : IsIn name rest = subst (IsIn name) (sym some) (inl refl) in
      inr (record { name = name; among = subst (IsIn name) (sym are) (in-right name names rest at); bare = bare-rest name at })

  own-table : (w : IsAtWork state number job) → IsFiledFor (publishing state number job) state now.tree ⊎ HasBareFinal state job w.table.writes now.tree
  own-table w =
      let same : work.table ≡ w.table = same_one (numbered state.tables job.table) work.table w.table work.table_is w.table_is in
      subst (λ (t : Table). IsFiledFor (publishing state number job) state now.tree ⊎ HasBareFinal state job t.writes now.tree) same (own-by rest refl)

  own-each : (j : Job) (w : IsAtWork state number j) → IsFiledFor (publishing state number j) state now.tree ⊎ HasBareFinal state j w.table.writes now.tree
  own-each j w =
      let same : job ≡ j = same_one (numbered state.jobs number) job j work.is w.is in
      subst (λ (x : Job). (v : IsAtWork state number x) → IsFiledFor (publishing state number x) state now.tree ⊎ HasBareFinal state x v.table.writes now.tree) same own-table w

  -- ---- another job at work has none of its directories yet

  module _ (n : ℕ) (j : Job) (w : IsAtWork state n j) (other : (number == n) ≡ false) where
    apart : (text mine : List ℕ) (place : Place) → is_in (dir_of j text) place ≡ true → is_in (dir_of job mine) place ≡ false
    apart text mine place within =
        false_from_ne_true (is_in (dir_of job mine) place)
        (λ e.
        let its_parts = in-parts j text place within in
        let own_parts = in-parts job mine place e in
        two-partitions state sound number n job j work.is work.working w.is w.working other
        (job-of-from job.table job.partition j (sym its_parts.0 ∙ own_parts.0) (sym its_parts.1.0 ∙ own_parts.1.0)))

    bare-other : (name : DirName) → IsIn name (range_names j.kind (pieces_for state j).low (pieces_for state j).high) → IsFree (dir_of j (text_of name)) now.tree
    bare-other name at place within =
        moved.stays place (λ one at_one. apart (text_of name) (text_of one) place within) (λ one at_one. apart (text_of name) (staged_text number one) place within)
        ∙ free-here state n j w few sound before.tree standing name at place within

    other-each : IsFiledFor (publishing state n j) state now.tree ⊎ HasBareFinal state j w.table.writes now.tree
    other-each = bare-each state few sound now.tree n j w bare-other

  each-by : (n : ℕ) (j : Job) (w : IsAtWork state n j) → ((number == n) ≡ true) ⊎ ((number == n) ≡ false)
      → IsFiledFor (publishing state n j) state now.tree ⊎ HasBareFinal state j w.table.writes now.tree
  each-by n j w (inl e) =
      subst (λ k. (x : Job) (v : IsAtWork state k x) → IsFiledFor (publishing state k x) state now.tree ⊎ HasBareFinal state x v.table.writes now.tree)
      (eqb-true number n e) own-each j w
  each-by n j w (inr e) = other-each n j w e

  but-final : (place : Place) → (finmap.get now.tree place ≡ finmap.get (bare_files state number job work few sound now.tree) place) ⊎ IsFinalAt state place
  but-final place = elim (but-finals state number job work few sound now.tree place) [
    | inl same ↦ inl same
    | inr asks ↦ inr (record { number = number; job = job; work = work; final = asks })
  ]

  pub front-recovers : Recovers state now.tree
  front-recovers = record {
    before = bare_files state number job work few sound now.tree;
    standing = bare-stands state number job work few sound names among before.tree now.tree standing moved;
    but = but-final;
    each = λ n j w. each-by n j w (either (number == n));
  }

pub fronts-recover : FrontsRecover
fronts-recover state number job before now names rest work few sound are staged standing renamed =
    front-recovers state number job work few sound before now names rest are staged standing renamed
