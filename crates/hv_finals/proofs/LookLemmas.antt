-- What one listing of a job's table says of its directories, and the jobs looked at one after another.
use Rattle.std.proofs.Common.{◌≡◌, ℕ, ◌+◌, ◌≤◌, zero, suc, Bool, true, false, true≢false, Option, Some, None, List, [], ◌∷◌, ◌++◌, length, drop, refl, sym, ap, ◌∙◌, subst, arith, ◌&&◌, append_assoc, append-nil, drop_of_length-le}
use Rattle.std.specs.Prelude.{if◌then◌else◌}
use Rattle.std.specs.List.{list_all, slice_get}
use Rattle.hv_base.specs.Told.{Tells}
use Rattle.hv_base.specs.declared.ids.TableId.{TableId}
use Rattle.hv_shelf.specs.declared.place.DirAt.{DirAt}
use Rattle.hv_shelf.specs.declared.place.Place.{Place}
use Rattle.hv_shelf.specs.Disk.{Store, Tree, places_of}
use Rattle.hv_dirs.specs.declared.names.DirName.{DirName}
use Rattle.hv_history.specs.State.{State, Job, numbered}
use Rattle.hv_history.specs.Legal.{is_working}
use Rattle.hv_jobs.specs.Finals.{finals_of}
use Rattle.hv_law_made.specs.Opening.{is_listed, is_whole_job, whole_from, whole_jobs}
use Rattle.hv_finals.specs.Finals.{works_at, dirs_in, have_places, number_if, whole_at, CallsCause}
use Rattle.hv_finals.proofs.CallLemmas.{also-told, both-told, all-told, calls-none, calls-more}

-- ---- one job

listed-as : (files : Tree) (j : Job) (names : List DirName)
    → have_places (places_of (record { 0 = j.table }) files) (dirs_in j.table j.partition names) ≡ list_all (is_listed files j) names
listed-as files j [] = refl
listed-as files j (name ∷ names) = ap (λ b. is_listed files j name && b) (listed-as files j names)

-- what the listing of a table says
pub told-listed : (o : Option Store) (table : TableId) (places : List Place) (dirs : List DirAt) (listed : Bool) → listed ≡ have_places places dirs
    → Tells o (λ s. places ≡ places_of table s.tree) → Tells o (λ s. listed ≡ have_places (places_of table s.tree) dirs)
told-listed o table places dirs listed is told =
    also-told o (λ s. places ≡ places_of table s.tree) (λ s. listed ≡ have_places (places_of table s.tree) dirs)
    (λ s same. is ∙ ap (λ (ps : List Place). have_places ps dirs) same) told

-- of the job's own one, what it says of its directories
pub finals-listed : (o : Option Store) (table : ℕ) (j : Job) (dirs : List DirAt) (names : List DirName) (listed : Bool) → table ≡ j.table
    → dirs ≡ dirs_in j.table j.partition names → Tells o (λ s. listed ≡ have_places (places_of (record { 0 = table }) s.tree) dirs)
    → Tells o (λ s. listed ≡ list_all (is_listed s.tree j) names)
finals-listed o table j dirs names listed same are told =
    also-told o (λ s. listed ≡ have_places (places_of (record { 0 = table }) s.tree) dirs) (λ s. listed ≡ list_all (is_listed s.tree j) names)
    (λ s is.
    is
    ∙ ap (λ (t : ℕ). have_places (places_of (record { 0 = t }) s.tree) dirs) same
    ∙ ap (have_places (places_of (record { 0 = j.table }) s.tree)) are
    ∙ listed-as s.tree j names) told

-- of one that makes none
pub none-listed : (o : Option Store) (j : Job) (names : List DirName) → names ≡ [] → Tells o (λ s. true ≡ list_all (is_listed s.tree j) names)
none-listed o j names none =
    all-told o (λ s. true ≡ list_all (is_listed s.tree j) names) (λ s. ap (list_all (is_listed s.tree j)) (sym none))

whole-job : (state : State) (files : Tree) (n : ℕ) (j : Job) (listed : Bool) → is_working j ≡ true
    → listed ≡ list_all (is_listed files j) (finals_of state j) → number_if listed n ≡ number_if (is_whole_job state files j) n
whole-job state files n j listed works is =
    ap (λ b. number_if b n) (is ∙ ap (λ b. b && list_all (is_listed files j) (finals_of state j)) (sym works))

-- its number is put behind these, where it is whole
pub looked-at : (o : Option Store) (state : State) (n : ℕ) (listed : Bool) (before now : List ℕ) → works_at (numbered state.jobs n) ≡ true
    → ((j : Job) → numbered state.jobs n ≡ Some j → Tells o (λ s. listed ≡ list_all (is_listed s.tree j) (finals_of state j)))
    → now ≡ before ++ number_if listed n → Tells o (λ s. now ≡ before ++ whole_at state s.tree n (numbered state.jobs n))
looked-at o state n listed before now works told is = by (numbered state.jobs n) refl works
  where
    by : (found : Option Job) → numbered state.jobs n ≡ found → works_at found ≡ true → Tells o (λ s. now ≡ before ++ whole_at state s.tree n (numbered state.jobs n))
    by None at e = absurd (true≢false (sym e))
    by (Some j) at e =
        also-told o (λ s. listed ≡ list_all (is_listed s.tree j) (finals_of state j)) (λ s. now ≡ before ++ whole_at state s.tree n (numbered state.jobs n))
        (λ s same.
        is
        ∙ ap (λ ns. before ++ ns) (whole-job state s.tree n j listed e same)
        ∙ ap (λ (f : Option Job). before ++ whole_at state s.tree n f) (sym at)) (told j at)

idle-at : (state : State) (files : Tree) (n : ℕ) (found : Option Job) → works_at found ≡ false → whole_at state files n found ≡ []
idle-at state files n None e = refl
idle-at state files n (Some j) e = ap (λ b. number_if (b && list_all (is_listed files j) (finals_of state j)) n) e

-- one that isn't at work isn't whole
pub idle-looked : (o : Option Store) (state : State) (n : ℕ) (before now : List ℕ) → works_at (numbered state.jobs n) ≡ false → now ≡ before
    → Tells o (λ s. now ≡ before ++ whole_at state s.tree n (numbered state.jobs n))
idle-looked o state n before now idle same =
    all-told o (λ s. now ≡ before ++ whole_at state s.tree n (numbered state.jobs n))
    (λ s. same ∙ sym (append-nil before) ∙ ap (λ ns. before ++ ns) (sym (idle-at state s.tree n (numbered state.jobs n) idle)))

-- ---- one after another

drop-nil : (n : ℕ) → drop {A = Job} n [] ≡ []
drop-nil zero = refl
drop-nil (suc n) = refl

split-if : (b : Bool) (n : ℕ) (ns : List ℕ) → (if b then n ∷ ns else ns) ≡ number_if b n ++ ns
split-if true n ns = refl
split-if false n ns = refl

module _ (state : State) (files : Tree) (number : ℕ) where
  from-place : (jobs : List Job) (n : ℕ)
      → whole_from state files number (drop n jobs) ≡ whole_at state files number (slice_get jobs n) ++ whole_from state files (number + 1) (drop (n + 1) jobs)
  from-place [] zero = ap (whole_from state files (number + 1)) (sym (drop-nil (zero + 1)))
  from-place [] (suc n) = ap (whole_from state files (number + 1)) (sym (drop-nil (suc n + 1)))
  from-place (j ∷ jobs) zero = split-if (is_whole_job state files j) number (whole_from state files (number + 1) jobs)
  from-place (j ∷ jobs) (suc n) =
      from-place jobs n
      ∙ ap (λ k. whole_at state files number (slice_get jobs n) ++ whole_from state files (number + 1) (drop k (j ∷ jobs)))
      (let at : suc (n + 1) ≡ suc n + 1 = omega arith in at)

step-at : (state : State) (files : Tree) (jobs : List Job) (i number : ℕ) → number ≡ i + 1
    → whole_from state files number (drop i jobs) ≡ whole_at state files number (numbered jobs number) ++ whole_from state files (number + 1) (drop (i + 1) jobs)
step-at state files jobs i zero e = absurd (omega (arith, e))
step-at state files jobs i (suc n) e =
    let same : n ≡ i = omega (arith, e) in
    from-place state files (suc n) jobs i
    ∙ ap (λ k. whole_at state files (suc n) (slice_get jobs k) ++ whole_from state files (suc n + 1) (drop (i + 1) jobs)) (sym same)

-- So many jobs were looked at, and the store is as it was.
pub record IsLooking {D : Type 0} (told : D → Option Store) (faults hard : D → ℕ) (state : State) (before now : D) (i : ℕ) (whole : List ℕ) : Type 0 where
  pub looked : Tells (told before) (λ s. whole ++ whole_from state s.tree (i + 1) (drop i state.jobs) ≡ whole_jobs state s.tree)
  pub same : told now ≡ told before
  pub cause : CallsCause ⊥ (faults before) (faults now) (hard before) (hard now)

module _ {D : Type 0} (told : D → Option Store) (faults hard : D → ℕ) (state : State) (before : D) where
  pub looking-init : (whole : List ℕ) → whole ≡ [] → IsLooking told faults hard state before before 0 whole
  looking-init whole none = record {
    looked =
        all-told (told before) (λ s. whole ++ whole_from state s.tree (0 + 1) (drop 0 state.jobs) ≡ whole_jobs state s.tree)
        (λ s. ap (λ ns. ns ++ whole_from state s.tree 1 state.jobs) none);
    same = refl;
    cause = calls-none ⊥ (faults before) (hard before) (λ e. e);
  }

  pub looking-next : (F : Type 0) (mid now : D) (i : ℕ) (whole whole' : List ℕ) → IsLooking told faults hard state before mid i whole
      → Tells (told mid) (λ s. whole' ≡ whole ++ whole_at state s.tree (i + 1) (numbered state.jobs (i + 1))) → told now ≡ told mid
      → CallsCause F (faults mid) (faults now) (hard mid) (hard now) → IsLooking told faults hard state before now (i + 1) whole'
  looking-next F mid now i whole whole' so_far next same cause = record {
    looked =
        both-told (told before) (λ s. whole ++ whole_from state s.tree (i + 1) (drop i state.jobs) ≡ whole_jobs state s.tree)
        (λ s. whole' ≡ whole ++ whole_at state s.tree (i + 1) (numbered state.jobs (i + 1)))
        (λ s. whole' ++ whole_from state s.tree (i + 1 + 1) (drop (i + 1) state.jobs) ≡ whole_jobs state s.tree)
        (λ s kept is.
        ap (λ ns. ns ++ whole_from state s.tree (i + 1 + 1) (drop (i + 1) state.jobs)) is
        ∙ append_assoc whole (whole_at state s.tree (i + 1) (numbered state.jobs (i + 1))) (whole_from state s.tree (i + 1 + 1) (drop (i + 1) state.jobs))
        ∙ ap (λ ns. whole ++ ns) (sym (step-at state s.tree state.jobs i (i + 1) refl))
        ∙ kept)
        so_far.looked
        (subst (λ (o : Option Store). Tells o (λ s. whole' ≡ whole ++ whole_at state s.tree (i + 1) (numbered state.jobs (i + 1)))) so_far.same next);
    same = same ∙ so_far.same;
    cause =
        calls-more ⊥ F ⊥ (faults before) (faults mid) (faults now) (hard before) (hard mid) (hard now) (λ e. absurd e) so_far.cause cause;
  }

  -- when all were
  pub looking-done : (now : D) (i : ℕ) (whole : List ℕ) → length state.jobs ≤ i → IsLooking told faults hard state before now i whole
      → Tells (told before) (λ s. whole ≡ whole_jobs state s.tree)
  looking-done now i whole past so_far =
      also-told (told before) (λ s. whole ++ whole_from state s.tree (i + 1) (drop i state.jobs) ≡ whole_jobs state s.tree)
      (λ s. whole ≡ whole_jobs state s.tree)
      (λ s kept.
      sym (append-nil whole)
      ∙ ap (λ (js : List Job). whole ++ whole_from state s.tree (i + 1) js) (sym (drop_of_length-le state.jobs past))
      ∙ kept) so_far.looked
