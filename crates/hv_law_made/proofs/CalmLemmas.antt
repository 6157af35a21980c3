-- Entries that leave each table's description and its writes, and the jobs: what is made and what was removed is the same, and what is
-- spare stays spare. A table that is made anew has nothing.
use Rattle.std.proofs.Common.{refl, ◌≡◌, ◌⊎◌, inl, inr, ℕ, ◌==◌, ◌&&◌, nat_eq, Bool, true, false, is_some, IsSome, Option, Some, None, List, [], ◌∷◌, cond, filter, sym, ap, ◌∙◌, subst, eqb-true, true≢false}
use Rattle.std.specs.Cmp.Lexicographic.{pointwise}
use Rattle.std.specs.List.{list_any, AllByRecursion}
use Rattle.std.proofs.lemmas.Bool.{and_parts}
use Rattle.hv_shelf.specs.declared.place.Place.{Place}
use Rattle.hv_shelf.specs.Disk.{Tree}
use Rattle.hv_rowfile.specs.declared.record.Rec.{Rec}
use Rattle.hv_stands.specs.hv_history.specs.declared.state.Table.{Table}
use Rattle.hv_stands.specs.hv_history.specs.State.{State, Job, numbered}
use Rattle.hv_stands.specs.Files.{AreEncoded, IsLoose}
use Rattle.hv_stands.proofs.Numbers.{either}
use Rattle.hv_stands.specs.hv_history.specs.Jobs.{is_job_of, jobs_of, is_past}
use Rattle.hv_law_made.specs.Made.{made_names, made_recs, is_spare_name, is_spare_in, is_spare, is_gone_name, is_gone}
use Rattle.hv_law_made.specs.Named.{IsOfTable, AllHaveNames}
use Rattle.hv_law_made.specs.Standing.{MayHold, IsStagedAt, is_live_at}
use Rattle.hv_law_made.specs.Laws.{ChangesAt}
use Rattle.hv_law_made.proofs.QuietLemmas.{recs_of, recs-are, gone_of, gone-is, frees-any}
use Rattle.hv_law_visible.specs.Members.{IsIn}

-- a table as it was; one that is new has no writes
abbrev pub IsCalm : Option Table → Option Table → Type 0
IsCalm None None = Unit {0}
IsCalm None (Some table) = table.writes ≡ []
IsCalm (Some before) None = ⊥
IsCalm (Some before) (Some table) = (table.info ≡ before.info) × (table.writes ≡ before.writes)

-- no job is of a table that isn't there
all-fail : {A : Type 0} (p : A → Bool) (xs : List A) → ((x : A) → IsIn x xs → p x ≡ false) → filter p xs ≡ []
all-fail p [] h = refl
all-fail p (x ∷ xs) h = ap (λ b. cond b (x ∷ filter p xs) (filter p xs)) (h x (inl refl)) ∙ all-fail p xs (λ y at. h y (inr at))

every-in : {A : Type 0} (P : A → Type 0) (xs : List A) → AllByRecursion P xs → (x : A) → IsIn x xs → P x
every-in P [] all x at = absurd at
every-in P (y ∷ xs) all x (inl e) = subst P e all.0
every-in P (y ∷ xs) all x (inr at) = every-in P xs all.1 x at

no-jobs : (state : State) (table : ℕ) (partition : List ℕ) → AllByRecursion (IsOfTable state) state.jobs → numbered state.tables table ≡ None
    → jobs_of table partition state.jobs ≡ []
no-jobs state table partition all none =
    all-fail (is_job_of table partition) state.jobs (λ job at. by job (every-in (IsOfTable state) state.jobs all job at) (is_job_of table partition job) refl)
  where
    by : (job : Job) → IsSome (numbered state.tables job.table) → (b : Bool) → is_job_of table partition job ≡ b → b ≡ false
    by job some false e = refl
    by job some true e =
        let same : job.table ≡ table = eqb-true job.table table (and_parts (job.table == table) (pointwise nat_eq job.partition partition) e).0 in
        absurd (true≢false (sym some ∙ ap is_some (ap (numbered state.tables) same ∙ none)))

-- ---- at a place

module _ (state now : State) (jobs_same : now.jobs ≡ state.jobs) (named : AllHaveNames state)
    (calm : (k : ℕ) → IsCalm (numbered state.tables k) (numbered now.tables k))
    (past : (job : Job) → is_past state job ≡ true → is_past now job ≡ true) where
  module _ (place : Place) where
    abbrev k : ℕ
    k = place.table.0

    recs-by : (o n : Option Table) → numbered state.tables k ≡ o → IsCalm o n → recs_of place state.jobs n ≡ recs_of place state.jobs o
    recs-by None None e calm_here = refl
    recs-by None (Some table) e none =
        (λ i. Rattle.hv_law_made.specs.Made.file_among table.info.shape (none i) place
        (Rattle.hv_law_made.specs.Made.names_in (none i) (no-jobs state k place.partition named.jobs e i)))
    recs-by (Some before) None e never = absurd never
    recs-by (Some before) (Some table) e same =
        λ i. Rattle.hv_law_made.specs.Made.file_among (same.0 i).shape (same.1 i) place
        (Rattle.hv_law_made.specs.Made.names_in (same.1 i) (jobs_of k place.partition state.jobs))

    gone-by : (o n : Option Table) → numbered state.tables k ≡ o → IsCalm o n → gone_of place state.jobs n ≡ gone_of place state.jobs o
    gone-by None None e calm_here = refl
    gone-by None (Some table) e none =
        λ i. list_any (is_gone_name (no-jobs state k place.partition named.jobs e i) place.dir)
        (made_names (none i) (no-jobs state k place.partition named.jobs e i) place.partition)
    gone-by (Some before) None e never = absurd never
    gone-by (Some before) (Some table) e same =
        λ i. list_any (is_gone_name (jobs_of k place.partition state.jobs) place.dir)
        (made_names (same.1 i) (jobs_of k place.partition state.jobs) place.partition)

    pub recs-calm : made_recs now place ≡ made_recs state place
    recs-calm =
        recs-are now place ∙ ap (λ jobs. recs_of place jobs (numbered now.tables k)) jobs_same
        ∙ recs-by (numbered state.tables k) (numbered now.tables k) refl (calm k) ∙ sym (recs-are state place)

    pub gone-calm : is_gone now place ≡ is_gone state place
    gone-calm =
        gone-is now place ∙ ap (λ jobs. gone_of place jobs (numbered now.tables k)) jobs_same
        ∙ gone-by (numbered state.tables k) (numbered now.tables k) refl (calm k) ∙ sym (gone-is state place)

    spare-by : (o n : Option Table) → IsCalm o n → is_spare_in state place o ≡ true → is_spare_in now place n ≡ true
    spare-by None n calm_here e = absurd (true≢false (sym e))
    spare-by (Some before) None never e = absurd never
    spare-by (Some before) (Some table) same e =
        (λ i. list_any (is_spare_name now (jobs_of k place.partition (jobs_same i)) place.dir)
        (made_names (same.1 i) (jobs_of k place.partition (jobs_same i)) place.partition))
        ∙ frees-any state now (λ job at. past job) k place.partition place.dir (made_names before.writes (jobs_of k place.partition state.jobs) place.partition) e

    pub spare-calm : is_spare state place ≡ true → is_spare now place ≡ true
    unfolding is_spare
    spare-calm e = spare-by (numbered state.tables k) (numbered now.tables k) (calm k) e

    some-by : (o n : Option Table) → IsCalm o n → IsSome o → IsSome n
    some-by None n calm_here some = absurd (true≢false (sym some))
    some-by (Some before) None never some = absurd never
    some-by (Some before) (Some table) same some = refl

  pub calm-changes : (Asked : Place → Type 0) → ((place : Place) → IsLoose state place → IsLoose now place ⊎ Asked place)
      → ((place : Place) → is_live_at state place ≡ false → is_live_at now place ≡ false) → ((place : Place) → is_live_at now place ≡ true → is_live_at state place ≡ true)
      → ChangesAt state now Asked
  calm-changes Asked loose dead live = record {
    stays = λ place file e. recs-calm place ∙ e;
    anew = λ place file e. inl (sym (recs-calm place) ∙ e);
    held = λ place may. held place may;
    spared = λ place file e spare. spare-calm place spare;
    emptied = λ place live e. inl (sym (gone-calm place) ∙ e);
    live = live;
    tables = λ place. some-by place (numbered state.tables place.table.0) (numbered now.tables place.table.0) (calm place.table.0);
  }
    where
      staged_still : (place : Place) → IsStagedAt state place → IsStagedAt now place
      staged_still place staged = record {
        number = staged.number;
        job = staged.job;
        is = ap (λ jobs. numbered jobs staged.number) jobs_same ∙ staged.is;
        here = staged.here;
        picked = staged.picked;
        name = staged.name;
        named = staged.named;
        dir = staged.dir;
      }

      held : (place : Place) → MayHold state place → MayHold now place ⊎ Asked place
      held place (inl is) = elim (loose place is) [ inl still ↦ inl (inl still) | inr it ↦ inr it ]
      held place (inr (inl spare)) = inl (inr (inl (spare-calm place spare)))
      held place (inr (inr (inl staged))) = inl (inr (inr (inl (staged_still place staged))))
      held place (inr (inr (inr is_dead))) = inl (inr (inr (inr (dead place is_dead))))
