-- A publication keeps all standing: what was made is made, and its own directories are new, so that they hold just what they have to.
use Rattle.std.proofs.Common.{refl, ◌≡◌, ◌⊎◌, inl, inr, ℕ, zero, suc, ◌==◌, ◌&&◌, nat_eq, Bool, true, false, is_some, IsSome, Option, Some, None, List, [], ◌∷◌, sym, ap, ◌∙◌, subst, eqb-true, true≢false}
use Rattle.std.specs.Cmp.Lexicographic.{pointwise}
use Rattle.std.specs.FinMap as finmap
use Rattle.std.specs.List.{flat_map, AllByRecursion}
use Rattle.std.proofs.lemmas.Bool.{and_parts}
use Rattle.hv_base.specs.declared.ids.JobId.{JobId}
use Rattle.hv_base.specs.declared.ids.TxnId.{TxnId}
use Rattle.hv_base.specs.declared.ids.WriteId.{WriteId}
use Rattle.hv_shelf.specs.declared.place.Place.{Place}
use Rattle.hv_shelf.specs.Disk.{Tree}
use Rattle.hv_dirs.specs.declared.names.DirName.{DirName}
use Rattle.hv_dirs.proofs.NameLemmas as texts
use Rattle.hv_stands.specs.hv_history.specs.declared.entry.Entry.TheVariants as entry
use Rattle.hv_stands.specs.hv_history.specs.declared.state.Table.{Table}
use Rattle.hv_stands.specs.hv_history.specs.State.{State, Job, numbered, acted, after, changed, first_of, published_at}
use Rattle.hv_stands.specs.Files.{AreEncoded}
use Rattle.hv_stands.proofs.Numbers.{same_one, changed-here}
use Rattle.hv_stands.proofs.Soundness.{all-numbered}
use Rattle.hv_stands.specs.hv_history.specs.Jobs.{is_job_of, is_past_by}
use Rattle.hv_jobs.specs.Covers.{range_names, names_by, job_names, covers, frees, is_freed, cleans, is_cleaned_away}
use Rattle.hv_law_made.specs.Made.{write_names, names_in, jobs_at, made_recs, is_gone}
use Rattle.hv_law_made.specs.Named.{IsOfTable, HasNames, AllHaveNames}
use Rattle.hv_law_made.specs.Standing.{Standing}
use Rattle.hv_law_made.specs.Laws.{Holds, IsFinalOf, AreButFor, ChangesAt, IsAsked, KeepsNames, IsToPublish, PublishedStands}
use Rattle.hv_law_made.proofs.NamedLemmas.{same-text, gone-by}
use Rattle.hv_law_made.proofs.UnmadeLemmas.{names-here}
use Rattle.hv_law_made.proofs.FrameLemmas.{changed-stands}
use Rattle.hv_law_made.proofs.GrowLemmas.{is_name_of, GrowsAt, Grows, grown-changes}
use Rattle.hv_law_made.proofs.StepLemmas.{from-changed, kept-changed, numbered-in, frees-same}
use Rattle.hv_law_made.proofs.StepGrows.{jobs-grow, staged-changed}
use Rattle.hv_law_visible.specs.Members.{IsIn}
use Rattle.hv_law_visible.proofs.MemberLemmas.{in-left, in-right, in-either, in-flat, from-flat, in-filter, from-filter, any-in, in-any}

-- what the step does to a job
pub record IsPublishing (f : Job → Job) (job : Job) (range : ℕ × ℕ × ℕ) : Type 0 where
  pub table : (j : Job) → (f j).table ≡ j.table
  pub partition : (j : Job) → (f j).partition ≡ j.partition
  pub kind : (j : Job) → (f j).kind ≡ j.kind
  pub cleaned : (j : Job) → (f j).is_cleaned ≡ j.is_cleaned
  pub picks : (j : Job) → IsSome j.watermark → IsSome (f j).watermark
  pub done : (f job).published ≡ Some range

some-of : {A : Type 0} (o : Option A) → IsSome o → (x : A) × (o ≡ Some x)
some-of None some = absurd (true≢false (sym some))
some-of (Some x) some = (x, refl)

shift : {A : Type 0} (xs : List A) (y x : A) (n : ℕ) → numbered xs n ≡ Some x → numbered (y ∷ xs) (suc n) ≡ Some x
shift xs y x zero e = cc
shift xs y x (suc n) e = e

pub numbered-at : {A : Type 0} (xs : List A) (x : A) → IsIn x xs → (n : ℕ) × (numbered xs n ≡ Some x)
numbered-at [] x at = absurd at
numbered-at (y ∷ xs) x (inl e) = (1, ap Some e)
numbered-at (y ∷ xs) x (inr at) = let there = numbered-at xs x at in (suc there.0, shift xs y x there.0 there.1)

module _ (state now : State) (f : Job → Job) (number low high mark : ℕ) (job : Job) (to : IsToPublish state number low high job)
    (step : IsPublishing f job (low, high, mark)) (tables_same : now.tables ≡ state.tables) (transactions_same : now.transactions ≡ state.transactions)
    (jobs_are : now.jobs ≡ changed f state.jobs number) (before : AllHaveNames state) (behind : AllHaveNames now) where
  abbrev Final : Place → Type 0
  Final place = IsFinalOf state number low high place

  here-same : (table : ℕ) (partition : List ℕ) (j : Job) → is_job_of table partition (f j) ≡ is_job_of table partition j
  here-same table partition j = λ i. (step.table j i == table) && pointwise nat_eq (step.partition j i) partition

  -- it made nothing, freed nothing, and cleaned nothing
  made-none : (name : DirName) (j : Job) → numbered state.jobs number ≡ Some j → IsIn name (job_names j) → ⊥
  made-none name j is at =
      let same : j ≡ job = same_one (numbered state.jobs number) j job is to.is in
      subst (λ o. IsIn name (names_by job.kind o)) to.unpublished (subst (λ x. IsIn name (job_names x)) same at)

  freed-none : (name : DirName) (j : Job) → numbered state.jobs number ≡ Some j → frees state name j ≡ true → ⊥
  freed-none name j is e =
      let same : j ≡ job = same_one (numbered state.jobs number) j job is to.is in
      true≢false (sym (subst (λ x. frees state name x ≡ true) same e) ∙ ap (λ o. is_past_by state o && covers job name) to.unpublished)

  cleaned-none : (name : DirName) (j other : Job) → numbered state.jobs number ≡ Some j → f j ≡ other → cleans name other ≡ true → ⊥
  cleaned-none name j other is e cleaned =
      let same : j ≡ job = same_one (numbered state.jobs number) j job is to.is in
      let not_cleaned : other.is_cleaned ≡ false = ap (λ (x : Job). x.is_cleaned) (sym e) ∙ step.cleaned j ∙ ap (λ (x : Job). x.is_cleaned) same ∙ to.uncleaned in
      true≢false (sym (and_parts other.is_cleaned (covers other name) cleaned).0 ∙ not_cleaned)

  module _ (place : Place) where
    abbrev p : Job → Bool
    p = is_job_of place.table.0 place.partition

    still-in : (j : Job) → IsIn j state.jobs → (numbered state.jobs number ≡ Some j → ⊥) → IsIn j now.jobs
    still-in j at other = elim (kept-changed f state.jobs number j at) [
      | inl still ↦ subst (IsIn j) (sym jobs_are) still
      | inr is ↦ absurd (other is)
    ]

    names-stay : (table : Table) (name : DirName) → is_name_of state table place name → is_name_of now table place name
    names-stay table name at = (
      elim (in-either name (flat_map write_names table.writes) (flat_map job_names (jobs_at state place)) at.0) [
        | inl own ↦ in-left name (flat_map write_names table.writes) (flat_map job_names (jobs_at now place)) own
        | inr made ↦
            let of = from-flat job_names name (jobs_at state place) made in
            let kept = from-filter p of.0 state.jobs of.1 in
            in-right name (flat_map write_names table.writes) (flat_map job_names (jobs_at now place))
            (in-flat job_names of.0 name (jobs_at now place)
            (in-filter p of.0 now.jobs (still-in of.0 kept.0 (λ is. made-none name of.0 is of.2)) kept.1) of.2)
      ],
      at.1,
    )

    -- a name of now was there, or is one of the job's own
    names-new : (table : Table) (name : DirName) → is_name_of now table place name → is_name_of state table place name ⊎ Final place
    names-new table name at = elim (in-either name (flat_map write_names table.writes) (flat_map job_names (jobs_at now place)) at.0) [
      | inl own ↦ inl (in-left name (flat_map write_names table.writes) (flat_map job_names (jobs_at state place)) own, at.1)
      | inr made ↦
          let of = from-flat job_names name (jobs_at now place) made in
          let kept = from-filter p of.0 now.jobs of.1 in
          elim (from-changed f state.jobs number of.0 (subst (IsIn of.0) jobs_are kept.0)) [
            | inl was ↦ inl (
              in-right name (flat_map write_names table.writes) (flat_map job_names (jobs_at state place))
                  (in-flat job_names of.0 name (jobs_at state place) (in-filter p of.0 state.jobs was kept.1) of.2),
              at.1,
            )
            | inr by ↦
                let same : by.0 ≡ job = same_one (numbered state.jobs number) by.0 job by.1 to.is in
                let it : f job ≡ of.0 = ap f (sym same) ∙ by.2 in
                inr (record {
                  job = job;
                  is = to.is;
                  here = sym (here-same place.table.0 place.partition job) ∙ subst (λ x. p x ≡ true) (sym it) kept.1;
                  name = name;
                  among = subst (IsIn name) ((λ i. names_by (step.kind job i) (step.done i))) (subst (λ x. IsIn name (job_names x)) (sym it) of.2);
                  dir = at.1;
                })
          ]
    ]

    freed-stay : (name : DirName) → is_freed state (jobs_at state place) name ≡ true → is_freed now (jobs_at now place) name ≡ true
    freed-stay name e =
        let found = in-any (frees state name) (jobs_at state place) e in
        let kept = from-filter p found.0 state.jobs found.1 in
        any-in (frees now name) found.0 (jobs_at now place)
        (in-filter p found.0 now.jobs (still-in found.0 kept.0 (λ is. freed-none name found.0 is found.2)) kept.1)
        (frees-same state now transactions_same name found.0 ∙ found.2)

    -- what is cleaned now a job of before has cleaned
    cleaned-by : (name : DirName) → is_cleaned_away (jobs_at now place) name ≡ true → (j : Job) × IsIn j state.jobs × (p j ≡ true) × (cleans name j ≡ true)
    cleaned-by name e =
        let found = in-any (cleans name) (jobs_at now place) e in
        let kept = from-filter p found.0 now.jobs found.1 in
        elim (from-changed f state.jobs number found.0 (subst (IsIn found.0) jobs_are kept.0)) [
          | inl was ↦ (found.0, was, kept.1, found.2)
          | inr by ↦ absurd (cleaned-none name by.0 found.0 by.1 by.2 found.2)
        ]

    cleaned-was : (name : DirName) → is_cleaned_away (jobs_at now place) name ≡ true → is_cleaned_away (jobs_at state place) name ≡ true
    cleaned-was name e =
        let by = cleaned-by name e in
        any-in (cleans name) by.0 (jobs_at state place) (in-filter p by.0 state.jobs by.1 by.2) by.3

    publish-at : (table : Table) → GrowsAt state now (Final place) place table table
    publish-at table = record {
      shape = refl;
      names = names-stay table;
      files = λ name at. refl;
      made = λ name at. refl;
      freed = λ name at e. freed-stay name e;
      new = names-new table;
      cleaned = λ name at made e. inl (cleaned-was name e);
    }

    -- its own directories aren't ones of which it was said that they were removed
    final-not-gone : Final place → is_gone now place ≡ true → ⊥
    final-not-gone at e =
        let same : at.job ≡ job = same_one (numbered state.jobs number) at.job job at.is to.is in
        let here : p job ≡ true = subst (λ x. p x ≡ true) same at.here in
        let both = and_parts (job.table == place.table.0) (pointwise nat_eq job.partition place.partition) here in
        let one : job.table ≡ place.table.0 = eqb-true job.table place.table.0 both.0 in
        let table = some-of (numbered state.tables job.table) (all-numbered (IsOfTable state) state.jobs number job to.is before.jobs) in
        let table_is : numbered now.tables place.table.0 ≡ Some table.0 =
        (λ i. numbered (tables_same i) place.table.0) ∙ ap (numbered state.tables) (sym one) ∙ table.1 in
        let has : HasNames now table.0 = all-numbered (HasNames now) now.tables place.table.0 table.0 table_is behind.tables in
        let by = gone-by now place table.0 table_is e in
        let mine : IsIn at.name (range_names job.kind low high) = subst (λ (x : Job). IsIn at.name (range_names x.kind low high)) same at.among in
        let mine_now : IsIn at.name (job_names (f job)) = subst (IsIn at.name) (sym (λ i. names_by (step.kind job i) (step.done i))) mine in
        let listed : IsIn (f job) now.jobs = subst (IsIn (f job)) (sym jobs_are) (numbered-in (changed f state.jobs number) number (f job) (changed-here f state.jobs number job to.is)) in
        let among : IsIn at.name (names_in table.0.writes (jobs_at now place)) =
        in-right at.name (flat_map write_names table.0.writes) (flat_map job_names (jobs_at now place))
        (in-flat job_names (f job) at.name (jobs_at now place) (in-filter p (f job) now.jobs listed (here-same place.table.0 place.partition job ∙ here)) mine_now) in
        let names = names-here now place table.0 table_is has in
        let name_same : by.name ≡ at.name = texts.text-same by.name at.name (names by.name by.among) (names at.name among) (sym by.dir_is ∙ at.dir) in
        let cleaner = cleaned-by at.name (subst (λ name. is_cleaned_away (jobs_at now place) name ≡ true) name_same by.cleaned) in
        let at_number = numbered-at state.jobs cleaner.0 cleaner.1 in
        let cleans_it = and_parts cleaner.0.is_cleaned (covers cleaner.0 at.name) cleaner.3 in
        let there : is_job_of job.table job.partition cleaner.0 ≡ true =
        subst (λ partition. is_job_of job.table partition cleaner.0 ≡ true) (sym (same-text job.partition place.partition both.1))
        (subst (λ n. is_job_of n place.partition cleaner.0 ≡ true) (sym one) cleaner.2) in
        true≢false (sym cleans_it.1 ∙ (to.new at.name mine).uncovered at_number.0 cleaner.0 at_number.1 there cleans_it.0)

  pub publish-grows : Grows state now Final
  publish-grows =
      jobs-grow state now Final tables_same transactions_same before behind
      (staged-changed state now f number jobs_are here-same job to.is step.picks) (λ place table e. publish-at place table)

  publish-asked : (files : Tree) → ((place : Place) → Final place → Holds (made_recs now place) place.bucket (finmap.get files place))
      → AllByRecursion AreEncoded state.tables → IsAsked now Final files
  publish-asked files filed encoded = record {
    whole = λ place at live needed. filed place at;
    bare = λ place at none. subst (λ o. Holds o place.bucket (finmap.get files place)) none (filed place at);
    gone = λ place at live e. absurd (final-not-gone place at e);
    tables = λ place at.
        let same : at.job ≡ job = same_one (numbered state.jobs number) at.job job at.is to.is in
        let both = and_parts (job.table == place.table.0) (pointwise nat_eq job.partition place.partition) (subst (λ x. p place x ≡ true) same at.here) in
        let one : job.table ≡ place.table.0 = eqb-true job.table place.table.0 both.0 in
        (λ i. is_some (numbered (tables_same i) place.table.0))
        ∙ subst (λ n. is_some (numbered state.tables n) ≡ true) one (all-numbered (IsOfTable state) state.jobs number job to.is before.jobs);
    encoded = subst (AllByRecursion AreEncoded) (sym tables_same) encoded;
  }

  pub publish-stands : (then_before files : Tree) → AreButFor Final then_before files
      → ((place : Place) → Final place → Holds (made_recs now place) place.bucket (finmap.get files place)) → Standing state then_before → Standing now files
  publish-stands then_before files but filed standing =
      changed-stands state now Final then_before files (grown-changes state now Final publish-grows) but (publish-asked files filed standing.encoded) standing

first-none : {A : Type 0} (o : Option A) (x : A) → o ≡ None → first_of o x ≡ Some x
first-none None x e = refl
first-none (Some y) x e = cc

is-publishing : (place low high mark : ℕ) (which : Job) → which.published ≡ None → IsPublishing (published_at place (low, high, mark)) which (low, high, mark)
is-publishing place low high mark which unpublished = record {
  table = λ j. refl;
  partition = λ j. refl;
  kind = λ j. refl;
  cleaned = λ j. refl;
  picks = λ j some. some;
  done = first-none which.published (low, high, mark) unpublished;
}

pub published-stands : PublishedStands
unfolding acted
published-stands state job low high mark which before files to names but filed standing =
    publish-stands state (after state (entry.Published job low high mark)) _ job.0 low.0 high.0 mark.0 which to
    (is-publishing state.entries low.0 high.0 mark.0 which to.unpublished) refl refl refl names.before names.behind before files but filed.at standing

pub published-changes : (state : State) (job : JobId) (low high : WriteId) (mark : TxnId) (which : Job) → IsToPublish state job.0 low.0 high.0 which
    → KeepsNames state (entry.Published job low high mark)
    → ChangesAt state (after state (entry.Published job low high mark)) (λ place. IsFinalOf state job.0 low.0 high.0 place)
unfolding acted
published-changes state job low high mark which to names =
    grown-changes state (after state (entry.Published job low high mark)) (λ place. IsFinalOf state job.0 low.0 high.0 place)
    (publish-grows state (after state (entry.Published job low high mark)) _ job.0 low.0 high.0 mark.0 which to
    (is-publishing state.entries low.0 high.0 mark.0 which to.unpublished) refl refl refl names.before names.behind)
