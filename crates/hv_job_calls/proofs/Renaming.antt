-- The renamings of a job at work, from its directories.
use Rattle.std.proofs.Common.{◌≡◌, inl, inr, ℕ, ◌+◌, ◌<◌, true, Option, Some, None, List, [], ◌∷◌, ◌++◌, length, get_or, map, take, refl, sym, ap, ◌∙◌, subst, arith}
use Rattle.std.specs.Prelude.{IsTrue, IsSomeAnd}
use Rattle.std.proofs.Math.Seq.{take-length}
use Rattle.std.proofs.lemmas.List.{take_more, map-append}
use Rattle.std.proofs.lemmas.List.Elements.{All-from_recursion}
use Rattle.hv_shelf.specs.declared.place.DirAt.{DirAt}
use Rattle.hv_dirs.specs.declared.names.DirName.{DirName}
use Rattle.hv_dirs.specs.Names.{text_of}
use Rattle.hv_history.specs.declared.entry.Entry.{Entry}
use Rattle.hv_history.specs.State.{State, Job, numbered, nothing_yet, state_of}
use Rattle.hv_history.specs.Legal.{AllFit, profile, is_working}
use Rattle.hv_stands.proofs.Behind.{entries-are}
use Rattle.hv_jobs.specs.Finals.{finals_of}
use Rattle.hv_finals.specs.Finals.{CanName, works_at, dirs_in}
use Rattle.hv_law_visible.specs.Members.{IsIn}
use Rattle.hv_telling.specs.hv_law_work.specs.Work.{renaming_of}
use Rattle.hv_trail.specs.declared.trail.Renaming.{Renaming}
use Rattle.hv_telling.proofs.Few.{few-entries}
use Rattle.hv_job_calls.specs.Refusals.{HasLiveJob, WorksAt}
use Rattle.hv_job_calls.specs.Staging.{IsStageableDir, AreStageable, renamed, renamings_by, renamings_of}
use Rattle.hv_job_calls.proofs.Stages.{final-stageable}

-- ---- one after another

pub renamed-next : (number : ℕ) (dirs : List DirAt) (i : ℕ) (dir : DirAt) (so_far more : List Renaming) → i < length dirs → dir ≡ get_or dirs i dir
    → so_far ≡ map (renamed number) (take i dirs) → more ≡ so_far ++ renamed number dir ∷ [] → more ≡ map (renamed number) (take (i + 1) dirs)
renamed-next number dirs i dir so_far more within is before pushed =
    let next : take (i + 1) dirs ≡ take i dirs ++ dir ∷ [] = take_more dirs i dir within ∙ ap (λ (d : DirAt). take i dirs ++ d ∷ []) (sym is) in
    pushed
    ∙ ap (λ (rs : List Renaming). rs ++ renamed number dir ∷ []) before
    ∙ sym (map-append (renamed number) (take i dirs) (dir ∷ []))
    ∙ sym (ap (map (renamed number)) next)

pub renamed-all : (number : ℕ) (dirs : List DirAt) (i : ℕ) (so_far : List Renaming) → i ≡ length dirs → so_far ≡ map (renamed number) (take i dirs)
    → so_far ≡ map (renamed number) dirs
renamed-all number dirs i so_far end before =
    let whole : take i dirs ≡ dirs = ap (λ (n : ℕ). take n dirs) end ∙ take-length dirs in
    before ∙ ap (map (renamed number)) whole

pub stageable-at : (number : ℕ) (dirs : List DirAt) (i : ℕ) (dir : DirAt) → AreStageable number dirs → i < length dirs → dir ≡ get_or dirs i dir → IsStageableDir number dir.dir
stageable-at number dirs i dir all within is =
    subst (λ (d : DirAt). IsStageableDir number d.dir) (sym is) (All-from_recursion (λ (d : DirAt). IsStageableDir number d.dir) dirs all i dir within)

-- ---- of a job

module _ (book : List Entry) (fit : AllFit profile nothing_yet book) (number : ℕ) (works : WorksAt (state_of book) number) (live : HasLiveJob (state_of book) number) where
  abbrev state : State
  state = state_of book

  pub can-name : CanName book
  can-name = record { limits = profile; fit = fit; few = (let few = few-entries book fit in omega (arith, few, entries-are book)) }

  pub works-true : works_at (numbered state.jobs number) ≡ true
  works-true = by (numbered state.jobs number) works
    where
      by : (o : Option Job) → IsSomeAnd o (λ (j : Job). IsTrue (is_working j)) → works_at o ≡ true
      by None works = absurd works
      by (Some j) works = works

  its-job : (j : Job) × (numbered state.jobs number ≡ Some j)
  its-job = by (numbered state.jobs number) refl works
    where
      by : (o : Option Job) → numbered state.jobs number ≡ o → IsSomeAnd o (λ (j : Job). IsTrue (is_working j)) → (j : Job) × (numbered state.jobs number ≡ Some j)
      by None e works = absurd works
      by (Some j) e works = (j, e)

  all-named : (table : ℕ) (partition : List ℕ) (names : List DirName) → ((name : DirName) → IsIn name names → IsStageableDir number (text_of name))
      → AreStageable number (dirs_in table partition names)
  all-named table partition [] each = tt
  all-named table partition (name ∷ names) each = (each name (inl refl), all-named table partition names (λ other at. each other (inr at)))

  pub are-stageable : (dirs : List DirAt) → ((j : Job) → numbered state.jobs number ≡ Some j → dirs ≡ dirs_in j.table j.partition (finals_of state j))
      → AreStageable number dirs
  are-stageable dirs are =
      let at = its-job in
      subst (AreStageable number) (sym (are at.0 at.1))
      (all-named at.0.table at.0.partition (finals_of state at.0)
      (λ name among. (final-stageable book fit number name works live
      (subst (λ o. IsSomeAnd o (λ (j : Job). IsIn name (finals_of state j))) (sym at.1) among)).1))

  each-same : (j : Job) (names : List DirName) → map (renamed number) (dirs_in j.table j.partition names) ≡ map (renaming_of number j) names
  each-same j [] = refl
  each-same j (name ∷ names) = ap (λ (rs : List Renaming). renaming_of number j name ∷ rs) (each-same j names)

  pub renamings-are : (dirs : List DirAt) → ((j : Job) → numbered state.jobs number ≡ Some j → dirs ≡ dirs_in j.table j.partition (finals_of state j))
      → (rs : List Renaming) → rs ≡ map (renamed number) dirs → rs ≡ renamings_of state number
  renamings-are dirs are rs is =
      let at = its-job in
      is ∙ ap (map (renamed number)) (are at.0 at.1) ∙ each-same at.0 (finals_of state at.0) ∙ sym (ap (renamings_by state number) at.1)
