-- What is made and what is spare hangs on the tables, the jobs and which transactions are open; so entries that leave the first two, and
-- open nothing that a compaction waits for, keep all standing.
use Rattle.std.proofs.Common.{refl, ◌≡◌, inl, inr, ℕ, Bool, true, false, is_some, Option, Some, None, List, sym, ap, ◌∙◌, subst}
use Rattle.std.specs.List.{list_any, AllByRecursion}
use Rattle.std.proofs.lemmas.Bool.{and_parts, and_from}
use Rattle.hv_shelf.specs.declared.place.Place.{Place}
use Rattle.hv_shelf.specs.Disk.{Tree}
use Rattle.hv_rowfile.specs.declared.record.Rec.{Rec}
use Rattle.hv_dirs.specs.declared.names.DirName.{DirName}
use Rattle.hv_stands.specs.hv_history.specs.declared.state.Table.{Table}
use Rattle.hv_stands.specs.hv_history.specs.State.{State, Job, numbered}
use Rattle.hv_stands.specs.Files.{AreEncoded, IsOwn}
use Rattle.hv_stands.specs.hv_history.specs.Jobs.{is_job_of, jobs_of, is_past}
use Rattle.hv_jobs.specs.Covers.{covers, frees, is_freed}
use Rattle.hv_law_made.specs.Made.{file_among, names_in, made_names, is_named, made_recs, is_spare_name, is_spare_in, is_spare, is_gone_name, is_gone_in, is_gone, recs_in}
use Rattle.hv_law_made.specs.Standing.{MayHold, is_live_table, is_live_at}
use Rattle.hv_law_made.specs.Laws.{ChangesAt, IsAsked, IsQuiet, QuietStands}
use Rattle.hv_law_made.proofs.FrameLemmas.{changed-stands}
use Rattle.hv_law_visible.proofs.MemberLemmas.{from-filter, any-in, in-any}
use Rattle.hv_law_visible.specs.Members.{IsIn}

-- ---- by tables and jobs

abbrev pub recs_of : Place → List Job → Option Table → Option (Bool × List Rec)
recs_of place jobs None = None
recs_of place jobs (Some table) =
    file_among table.info.shape table.writes place (names_in table.writes (jobs_of place.table.0 place.partition jobs))

abbrev recs_by : List Table → List Job → Place → Option (Bool × List Rec)
recs_by tables jobs place = recs_of place jobs (numbered tables place.table.0)

recs-at : (state : State) (place : Place) (o : Option Table) → numbered state.tables place.table.0 ≡ o → made_recs state place ≡ recs_of place state.jobs o
unfolding made_recs
recs-at state place None e = ap (recs_in state place) e
recs-at state place (Some table) e = ap (recs_in state place) e

pub recs-are : (state : State) (place : Place) → made_recs state place ≡ recs_by state.tables state.jobs place
recs-are state place = recs-at state place (numbered state.tables place.table.0) refl

abbrev pub gone_of : Place → List Job → Option Table → Bool
gone_of place jobs None = false
gone_of place jobs (Some table) =
    list_any (is_gone_name (jobs_of place.table.0 place.partition jobs) place.dir)
    (made_names table.writes (jobs_of place.table.0 place.partition jobs) place.partition)

gone-at : (state : State) (place : Place) (o : Option Table) → numbered state.tables place.table.0 ≡ o → is_gone state place ≡ gone_of place state.jobs o
unfolding is_gone
gone-at state place None e = ap (is_gone_in state place) e
gone-at state place (Some table) e = ap (is_gone_in state place) e

pub gone-is : (state : State) (place : Place) → is_gone state place ≡ gone_of place state.jobs (numbered state.tables place.table.0)
gone-is state place = gone-at state place (numbered state.tables place.table.0) refl

-- ---- what is past stays past

module _ (state now : State) (past : (job : Job) → IsIn job state.jobs → is_past state job ≡ true → is_past now job ≡ true) (table : ℕ) (partition : List ℕ) where
  abbrev here : List Job
  here = jobs_of table partition state.jobs

  frees-still : (name : DirName) (job : Job) → IsIn job here → frees state name job ≡ true → frees now name job ≡ true
  frees-still name job at e =
      let both = and_parts (is_past state job) (covers job name) e in
      and_from (is_past now job) (covers job name) (past job (from-filter (is_job_of table partition) job state.jobs at).0 both.0) both.1

  pub freed-still : (name : DirName) → is_freed state here name ≡ true → is_freed now here name ≡ true
  freed-still name e =
      let found = in-any (frees state name) here e in
      any-in (frees now name) found.0 here found.1 (frees-still name found.0 found.1 found.2)

  named-still : (text : List ℕ) (name : DirName) → is_spare_name state here text name ≡ true → is_spare_name now here text name ≡ true
  named-still text name e =
      let both = and_parts (is_named text name) (is_freed state here name) e in
      and_from (is_named text name) (is_freed now here name) both.0 (freed-still name both.1)

  pub frees-any : (text : List ℕ) (names : List DirName) → list_any (is_spare_name state here text) names ≡ true → list_any (is_spare_name now here text) names ≡ true
  frees-any text names e =
      let found = in-any (is_spare_name state here text) names e in
      any-in (is_spare_name now here text) found.0 names found.1 (named-still text found.0 found.2)

module _ (state now : State) (quiet : IsQuiet state now) where
  -- under the jobs and the table as they were
  abbrev spare_of : State → Place → Option Table → Bool
  spare_of by place None = false
  spare_of by place (Some table) =
      list_any (is_spare_name by (jobs_of place.table.0 place.partition state.jobs) place.dir)
      (made_names table.writes (jobs_of place.table.0 place.partition state.jobs) place.partition)

  spare-of-still : (place : Place) (o : Option Table) → spare_of state place o ≡ true → spare_of now place o ≡ true
  spare-of-still place None e = e
  spare-of-still place (Some table) e =
      frees-any state now quiet.past place.table.0 place.partition place.dir (made_names table.writes (jobs_of place.table.0 place.partition state.jobs) place.partition) e

  spare-was : (place : Place) (o : Option Table) → numbered state.tables place.table.0 ≡ o → is_spare state place ≡ spare_of state place o
  unfolding is_spare
  spare-was place None e = ap (is_spare_in state place) e
  spare-was place (Some table) e = ap (is_spare_in state place) e

  spare-now : (place : Place) (o : Option Table) → numbered state.tables place.table.0 ≡ o → is_spare now place ≡ spare_of now place o
  unfolding is_spare
  spare-now place None e = ap (is_spare_in now place) (ap (λ tables. numbered tables place.table.0) quiet.tables ∙ e)
  spare-now place (Some table) e =
      ap (is_spare_in now place) (ap (λ tables. numbered tables place.table.0) quiet.tables ∙ e)
      ∙ ap (λ jobs. list_any (is_spare_name now (jobs_of place.table.0 place.partition jobs) place.dir)
      (made_names table.writes (jobs_of place.table.0 place.partition jobs) place.partition)) quiet.jobs

  spare-still : (place : Place) → is_spare state place ≡ true → is_spare now place ≡ true
  spare-still place e =
      let o = numbered state.tables place.table.0 in
      spare-now place o refl ∙ spare-of-still place o (sym (spare-was place o refl) ∙ e)

  recs-same : (place : Place) → made_recs now place ≡ made_recs state place
  recs-same place = recs-are now place ∙ (λ i. recs_by (quiet.tables i) (quiet.jobs i) place) ∙ sym (recs-are state place)

  gone-same : (place : Place) → is_gone now place ≡ is_gone state place
  gone-same place =
      gone-is now place ∙ (λ i. gone_of place (quiet.jobs i) (numbered (quiet.tables i) place.table.0)) ∙ sym (gone-is state place)

  live-same : (place : Place) → is_live_at now place ≡ is_live_at state place
  live-same place = ap (λ tables. is_live_table (numbered tables place.table.0)) quiet.tables

  held-still : (place : Place) → MayHold state place → MayHold now place
  held-still place (inl loose) =
      inl (record {
        txn = loose.txn;
        own = subst (λ tables. IsOwn tables loose.txn place) (sym quiet.tables) loose.own;
        undone = quiet.undone loose.txn loose.undone;
      })
  held-still place (inr (inl spare)) = inr (inl (spare-still place spare))
  held-still place (inr (inr (inl staged))) =
      inr (inr (inl (record {
        number = staged.number;
        job = staged.job;
        is = ap (λ jobs. numbered jobs staged.number) quiet.jobs ∙ staged.is;
        here = staged.here;
        picked = staged.picked;
        name = staged.name;
        named = staged.named;
        dir = staged.dir;
      })))
  held-still place (inr (inr (inr dead))) = inr (inr (inr (live-same place ∙ dead)))

  abbrev pub nowhere : Place → Type 0
  nowhere place = ⊥

  pub quiet-changes : ChangesAt state now nowhere
  quiet-changes = record {
    stays = λ place file e. recs-same place ∙ e;
    anew = λ place file e. inl (sym (recs-same place) ∙ e);
    held = λ place may. inl (held-still place may);
    spared = λ place file e spare. spare-still place spare;
    emptied = λ place live e. inl (sym (gone-same place) ∙ e);
    live = λ place e. sym (live-same place) ∙ e;
    tables = λ place e. ap (λ tables. is_some (numbered tables place.table.0)) quiet.tables ∙ e;
  }

  quiet-asked : (files : Tree) → AllByRecursion AreEncoded state.tables → IsAsked now nowhere files
  quiet-asked files encoded = record {
    whole = λ place never live needed. absurd never;
    bare = λ place never none. absurd never;
    gone = λ place never live e. absurd never;
    tables = λ place never. absurd never;
    encoded = subst (AllByRecursion AreEncoded) (sym quiet.tables) encoded;
  }

pub quiet-stands : QuietStands
quiet-stands state now files quiet standing =
    changed-stands state now (nowhere state now quiet) files files (quiet-changes state now quiet) (λ place. inl refl)
    (quiet-asked state now quiet files standing.encoded) standing
