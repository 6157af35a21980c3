-- What an opening tells by listing: a job at work is whole where each directory that it is to make has a file, and one of them is bare
-- else. And which numbers are among those that it found whole.
use Rattle.std.proofs.Common.{refl, ◌≡◌, ◌⊎◌, inl, inr, ℕ, zero, suc, ◌+◌, ◌<◌, ◌==◌, Bool, true, false, is_some, Option, Some, None, List, [], ◌∷◌, sym, ap, ◌∙◌, subst, arith, eq-eqb, eqb-true, true≢false}
use Rattle.std.specs.Prelude.{if◌then◌else◌, nat_eq, ◌&&◌, ◌||◌}
use Rattle.std.specs.Cmp.Lexicographic.{pointwise}
use Rattle.std.specs.FinMap as finmap
use Rattle.std.specs.List.{list_all, slice_get}
use Rattle.std.specs.Ordering.{is_eq, eq_by_cmp, ordering_reverse}
use Rattle.std.specs.declared.cmp.Ordering.{Ordering}
use Rattle.std.specs.declared.cmp.Ordering.TheVariants.{Less, Equal, Greater}
use Rattle.std.proofs.lemmas.Bool.{and_parts, and_cases, or_left, or_from, false_from_ne_true}
use Rattle.hv_base.specs.declared.ids.TableId.{TableId}
use Rattle.hv_shelf.specs.declared.place.Place.{Place}
use Rattle.hv_shelf.specs.declared.place.DirAt.{DirAt}
use Rattle.hv_shelf.specs.Disk.{Tree, IsFree, places_of}
use Rattle.hv_shelf.specs.Laws.{same_tree}
use Rattle.hv_shelf.specs.Places.{place_cmp, place_total, place_antisymmetric, is_in, is_of}
use Rattle.hv_dirs.specs.Names.{text_of}
use Rattle.hv_stands.specs.hv_history.specs.State.{State, Job, numbered}
use Rattle.hv_stands.specs.hv_history.specs.Legal.{is_working}
use Rattle.hv_jobs.specs.Finals.{finals_of}
use Rattle.hv_stands.proofs.Numbers.{none_is}
use Rattle.hv_law_made.specs.Standing.{Standing}
use Rattle.hv_law_made.specs.Laws.{IsFiledFor}
use Rattle.hv_law_made.specs.Entries.{publishing, finals, dir_of, IsAtWork, IsFinalAt, HasBareFinal}
use Rattle.hv_law_made.specs.Opening.{has_files, is_listed, is_whole_job, whole_from, whole_jobs, is_among, NoneWorksStands, IsWholeOrBare, ListedAreWhole}
use Rattle.hv_law_visible.specs.Members.{IsIn}
use Rattle.hv_law_visible.proofs.MemberLemmas.{in-filter, from-filter, any-in, in-any}

-- ---- the places of a directory that have a file

tied-by : (o : Ordering) → o ≡ ordering_reverse o → is_eq o ≡ true
tied-by Less e = cc
tied-by Equal e = refl
tied-by Greater e = cc

equal-by : (o : Ordering) → is_eq o ≡ true → o ≡ Equal
equal-by Less e = cc
equal-by Equal e = refl
equal-by Greater e = cc

some-bytes : (o : Option (List ℕ)) → is_some o ≡ true → (bytes : List ℕ) × (o ≡ Some bytes)
some-bytes None e = cc
some-bytes (Some bytes) e = (bytes, refl)

place-there : (table : TableId) (files : Tree) (place : Place) (bytes : List ℕ) → place.table.0 ≡ table.0 → finmap.get files place ≡ Some bytes
    → IsIn place (places_of table files)
place-there table files place bytes of is =
    let found = in-any (eq_by_cmp place_cmp place) (finmap.keys files) (sym (finmap.contains_key-keys files place) ∙ ap is_some is) in
    let same : found.0 ≡ place = sym (place_antisymmetric place found.0 (equal-by (place_cmp place found.0) found.2)) in
    in-filter (is_of table) place (finmap.keys files) (subst (λ (p : Place). IsIn p (finmap.keys files)) same found.1) (eq-eqb place.table.0 table.0 of)

there-place : (table : TableId) (files : Tree) (place : Place) → IsIn place (places_of table files) → (bytes : List ℕ) × (finmap.get files place ≡ Some bytes)
there-place table files place at =
    let key = (from-filter (is_of table) place (finmap.keys files) at).0 in
    some-bytes (finmap.get files place)
    (finmap.contains_key-keys files place
    ∙ any-in (eq_by_cmp place_cmp place) place (finmap.keys files) key (tied-by (place_cmp place place) (place_total.antisymm place place)))

of-table : (dir : DirAt) (place : Place) → is_in dir place ≡ true → place.table.0 ≡ dir.table.0
of-table dir place within =
    eqb-true place.table.0 dir.table.0
    (and_parts (place.table.0 == dir.table.0) (pointwise nat_eq place.partition dir.partition && pointwise nat_eq place.dir dir.dir) within).0

-- a directory without files is bare, and one with a file isn't
pub unlisted-free : (files : Tree) (dir : DirAt) → has_files files dir ≡ false → IsFree dir files
unlisted-free files dir none place within = by (finmap.get files place) refl
  where
    by : (o : Option (List ℕ)) → finmap.get files place ≡ o → o ≡ None
    by None e = refl
    by (Some bytes) e =
        absurd (true≢false (sym (any-in (is_in dir) place (places_of dir.table files) (place-there dir.table files place bytes (of-table dir place within) e) within) ∙ none))

pub listed-not-free : (files : Tree) (dir : DirAt) → has_files files dir ≡ true → IsFree dir files → ⊥
listed-not-free files dir some free =
    let place = in-any (is_in dir) (places_of dir.table files) some in
    let there = there-place dir.table files place.0 place.1 in
    none_is (finmap.get files place.0) there.0 (free place.0 place.2) there.1

-- ---- all of a job's directories

all-pass : {A : Type 0} (p : A → Bool) (xs : List A) (x : A) → list_all p xs ≡ true → IsIn x xs → p x ≡ true
all-pass p [] x all at = absurd at
all-pass p (y ∷ xs) x all (inl e) = ap p (sym e) ∙ (and_parts (p y) (list_all p xs) all).0
all-pass p (y ∷ xs) x all (inr at) = all-pass p xs x (and_parts (p y) (list_all p xs) all).1 at

one-fails : {A : Type 0} (p : A → Bool) (xs : List A) → list_all p xs ≡ false → (x : A) × IsIn x xs × (p x ≡ false)
one-fails p [] none = absurd (true≢false none)
one-fails p (y ∷ xs) none = elim (and_cases (p y) (list_all p xs) none) [
  | inl here ↦ (y, inl refl, here)
  | inr there ↦ let more = one-fails p xs there in (more.0, inr more.1, more.2)
]

module _ (state : State) (number : ℕ) (job : Job) (files : Tree) (work : IsAtWork state number job) (agree : finals state job work.table.writes ≡ finals_of state job) where
  all-listed : list_all (is_listed files job) (finals_of state job) ≡ true
      → IsFiledFor (publishing state number job) state files ⊎ HasBareFinal state job work.table.writes files → IsFiledFor (publishing state number job) state files
  all-listed all (inl filed) = filed
  all-listed all (inr bare) =
      absurd (listed-not-free files (dir_of job (text_of bare.name))
      (all-pass (is_listed files job) (finals_of state job) bare.name all (subst (IsIn bare.name) agree bare.among)) bare.bare)

  one-bare : list_all (is_listed files job) (finals_of state job) ≡ false → HasBareFinal state job work.table.writes files
  one-bare some =
      let one = one-fails (is_listed files job) (finals_of state job) some in
      record {
        name = one.0;
        among = subst (IsIn one.0) (sym agree) one.1;
        bare = unlisted-free files (dir_of job (text_of one.0)) one.2;
      }

  whole-or-bare : IsFiledFor (publishing state number job) state files ⊎ HasBareFinal state job work.table.writes files → (b : Bool)
      → list_all (is_listed files job) (finals_of state job) ≡ b → IsWholeOrBare b state number job work.table.writes files
  whole-or-bare found true all = all-listed all found
  whole-or-bare found false some = one-bare some

pub listed-are-whole : ListedAreWhole
listed-are-whole state number job files work few sound agree recovers =
    whole-or-bare state number job files work (agree number job work) (recovers.each number job work) (list_all (is_listed files job) (finals_of state job)) refl

-- ---- no job at work

pub none-works-stands : NoneWorksStands
none-works-stands state files none recovers =
    subst (Standing state) (sym (same_tree files recovers.before (λ place. by place (recovers.but place)))) recovers.standing
  where
    by : (place : Place) → (finmap.get files place ≡ finmap.get recovers.before place) ⊎ IsFinalAt state place → finmap.get files place ≡ finmap.get recovers.before place
    by place (inl same) = same
    by place (inr final) = absurd (none final.number final.job final.work)

-- ---- which numbers are among those that were found

not-equal : (a b : ℕ) → (a ≡ b → ⊥) → (a == b) ≡ false
not-equal a b apart = false_from_ne_true (a == b) (λ e. apart (eqb-true a b e))

module _ (state : State) (files : Tree) where
  -- none below the first one
  none-below : (first : ℕ) (jobs : List Job) (n : ℕ) → n < first → is_among (whole_from state files first jobs) n ≡ false
  none-below first [] n below = refl
  none-below first (job ∷ jobs) n below = by (is_whole_job state files job) (none-below (first + 1) jobs n (omega (arith, below)))
    where
      by : (b : Bool) → is_among (whole_from state files (first + 1) jobs) n ≡ false
          → is_among (if b then first ∷ whole_from state files (first + 1) jobs else whole_from state files (first + 1) jobs) n ≡ false
      by true rest = or_from (first == n) (is_among (whole_from state files (first + 1) jobs) n) (not-equal first n (λ e. omega (arith, e, below))) rest
      by false rest = rest

  among-from : (first : ℕ) (jobs : List Job) (k n : ℕ) (job : Job) → n ≡ first + k → slice_get jobs k ≡ Some job
      → is_among (whole_from state files first jobs) n ≡ is_whole_job state files job
  among-from first [] k n job number at = cc
  among-from first (x ∷ jobs) zero n job number at =
      let same : x ≡ job = cc in
      by (is_whole_job state files x) refl ∙ ap (is_whole_job state files) same
    where
      by : (b : Bool) → is_whole_job state files x ≡ b
          → is_among (if b then first ∷ whole_from state files (first + 1) jobs else whole_from state files (first + 1) jobs) n ≡ b
      by true e = or_left (first == n) (is_among (whole_from state files (first + 1) jobs) n) (eq-eqb first n (omega (arith, number)))
      by false e = none-below (first + 1) jobs n (omega (arith, number))
  among-from first (x ∷ jobs) (suc k) n job number at = by (is_whole_job state files x) (among-from (first + 1) jobs k n job (omega (arith, number)) at)
    where
      by : (b : Bool) → is_among (whole_from state files (first + 1) jobs) n ≡ is_whole_job state files job
          → is_among (if b then first ∷ whole_from state files (first + 1) jobs else whole_from state files (first + 1) jobs) n ≡ is_whole_job state files job
      by true rest =
          ap (λ (b : Bool). b || is_among (whole_from state files (first + 1) jobs) n) (not-equal first n (λ e. omega (arith, e, number))) ∙ rest
      by false rest = rest

  pub among-whole : (n : ℕ) (job : Job) → numbered state.jobs n ≡ Some job → is_working job ≡ true
      → is_among (whole_jobs state files) n ≡ list_all (is_listed files job) (finals_of state job)
  among-whole zero job at works = cc
  among-whole (suc k) job at works =
      among-from 1 state.jobs k (suc k) job (omega arith) at
      ∙ ap (λ (b : Bool). b && list_all (is_listed files job) (finals_of state job)) works
