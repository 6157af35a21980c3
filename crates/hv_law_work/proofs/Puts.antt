-- What stands where jobs put and cleaners take away: all that the book asks for stands still, what was staged is there, and what was covered
-- is not.
use Rattle.std.proofs.Common.{◌≡◌, ◌⊎◌, inl, inr, ℕ, ◌+◌, ◌<◌, Bool, true, false, true≢false, Option, Some, None, List, [], ◌∷◌, map, refl, sym, ap, ◌∙◌, subst, arith}
use Rattle.std.specs.Prelude.{◌||◌}
use Rattle.std.specs.FinMap as tree
use Rattle.std.proofs.lemmas.Bool.{and_from}
use Rattle.hv_base.specs.declared.ids.JobId.{JobId}
use Rattle.hv_base.specs.declared.ids.TableId.{TableId}
use Rattle.hv_base.specs.declared.ids.WriteId.{WriteId}
use Rattle.hv_base.specs.declared.ids.Limits.{Limits}
use Rattle.hv_shelf.specs.declared.place.DirAt.{DirAt}
use Rattle.hv_shelf.specs.declared.place.Place.{Place}
use Rattle.hv_shelf.specs.Disk.{Tree}
use Rattle.hv_shelf.specs.Places.{is_in, place_named}
use Rattle.hv_rowfile.specs.declared.record.Rec.{Rec}
use Rattle.hv_dirs.specs.declared.names.DirName.{DirName}
use Rattle.hv_dirs.specs.declared.names.DirName.TheVariants as dir_name
use Rattle.hv_dirs.specs.Names.{IsName, text_of, write_end}
use Rattle.hv_dirs.proofs.NameLemmas as texts
use Rattle.hv_history.specs.declared.entry.Entry.TheVariants as entry
use Rattle.hv_history.specs.declared.state.Ending.{Ending}
use Rattle.hv_history.specs.declared.state.Ending.TheVariants as ending
use Rattle.hv_history.specs.declared.state.Table.{Table}
use Rattle.hv_history.specs.State.{State, Job, numbered, acted, forgot, after}
use Rattle.hv_history.specs.Legal.{Fits}
use Rattle.hv_history.specs.Jobs.{is_job_of, is_live_one, is_past, jobs_of, jobs_in}
use Rattle.hv_history.specs.JobsFit.{ForgotFits, is_live_job}
use Rattle.hv_stands.specs.Files.{ending_of, IsLoose}
use Rattle.hv_stands.specs.Sound.{IsDone, IsOfCommitted}
use Rattle.hv_stands.proofs.Numbers.{found, none_is, same_one, either}
use Rattle.hv_stands.proofs.Soundness.{all-numbered}
use Rattle.hv_jobs.specs.Covers.{covers, frees, is_cleaned_away}
use Rattle.hv_jobs.specs.Covered.{covered_names}
use Rattle.hv_law_marks.specs.hv_law_filed.specs.hv_law_made.specs.Made.{is_made, names_in, made_names, jobs_at, made_recs}
use Rattle.hv_law_marks.specs.hv_law_filed.specs.hv_law_made.specs.Named.{HasNames, AllHaveNames}
use Rattle.hv_law_marks.specs.hv_law_filed.specs.hv_law_made.specs.Laws.{MayGo, MayTurn, Holds, IsOwnOf, IsCoveredBy, IsFiledFor}
use Rattle.hv_law_marks.specs.hv_law_filed.specs.hv_law_made.specs.Standing.{IsStagedAt, Standing, is_live_table, is_live_at}
use Rattle.hv_law_marks.specs.hv_law_filed.specs.hv_law_made.specs.Entries.{IsAbortedEnd, IsSoundBook, publishing, dir_of, staged_text}
use Rattle.hv_law_marks.specs.hv_law_filed.specs.hv_law_made.specs.Opening.{is_in_any}
use Rattle.hv_law_marks.specs.hv_law_filed.specs.hv_law_made.proofs.CalmLemmas.{recs-calm}
use Rattle.hv_law_marks.specs.hv_law_filed.specs.hv_law_made.proofs.TableStands.{calm-changed}
use Rattle.hv_law_marks.specs.hv_law_filed.specs.hv_law_made.proofs.EntryStands.{turns, is-to-forget}
use Rattle.hv_law_marks.specs.hv_law_filed.specs.hv_law_made.proofs.FrameLemmas.{changes-stand}
use Rattle.hv_law_marks.specs.hv_law_filed.specs.hv_law_made.proofs.NameBounds.{all-named}
use Rattle.hv_law_marks.specs.hv_law_filed.specs.hv_law_made.proofs.NamedLemmas.{file-from, recs-are}
use Rattle.hv_law_marks.specs.hv_law_filed.specs.hv_law_made.proofs.RenameStands.{job-there, in-parts, in-from}
use Rattle.hv_law_marks.specs.hv_law_filed.specs.hv_law_made.proofs.StepLemmas.{numbered-in}
use Rattle.hv_law_marks.specs.hv_law_filed.specs.hv_law_made.proofs.UnmadeLemmas.{IsStagedName, own-name, own-among, staged-among, names-here, puts-unmade}
use Rattle.hv_law_visible.specs.Members.{IsIn}
use Rattle.hv_law_visible.proofs.MemberLemmas.{in-filter, from-filter, any-in}
use Rattle.hv_law_visible.proofs.TakenLemmas.{all-in}
use Rattle.hv_trail.specs.Trail.{state_at}
use Rattle.hv_trail.specs.declared.trail.TrailItem.{TrailItem}
use Rattle.hv_law_work.specs.Work.{staged_at, wanted, HasGoneIf, AreGone}
use Rattle.hv_law_work.specs.Marks.{IsCovered, IsLost, IsStage, IsDropped, IsFreed, MayGoNow, IsStagedWell, StaysGone, JobMarksStand}
use Rattle.hv_law_work.specs.Laws.{StagedPutsStand, GoneStand, MarkedIsStaged, GoneIsFiled, SaysCovered}
use Rattle.hv_law_work.proofs.Places.{same-or-other, within-parts, file-made, spare-from, gone-from, unnamed-none, staged-none, staged-file-at, staged-here}
use Rattle.hv_law_work.proofs.Finals.{final-recs}

few-now : (state : State) → state.entries + 1 < write_end → state.entries < write_end
few-now state few = omega (arith, few)

-- ---- a file that a job stages

pub staged-puts-stand : StagedPutsStand
staged-puts-stand state number place bytes before now few sound is others standing =
    let named = all-named state (few-now state few) sound in
    changes-stand state before now named (λ other. by named other (same-or-other place other)) standing
  where
    by : AllHaveNames state → (other : Place) → (other ≡ place) ⊎ (other ≡ place → ⊥)
        → (tree.get now other ≡ tree.get before other) ⊎ MayTurn state other (tree.get now other)
    by named other (inl same) =
        inr (turns state other named
        (inr (subst (λ (p : Place). IsStagedAt state p) (sym same) (staged-file-at state number place bytes few sound is)))
        (tree.get now other))
    by named other (inr apart) = inl (others other apart)

-- ---- a directory that may go

undone-end : (o : Option (Option Ending)) → IsAbortedEnd o → IsDone o → ⊥
undone-end None aborted done = aborted
undone-end (Some None) aborted done = aborted
undone-end (Some (Some (ending.Committed place wrote))) aborted done = aborted
undone-end (Some (Some (ending.Aborted place cause))) aborted done = done
undone-end (Some (Some (ending.Made place table))) aborted done = done
undone-end (Some (Some (ending.Dropped place table))) aborted done = done

module _ (state : State) (named : AllHaveNames state) (dir : DirAt) (place : Place) (within : is_in dir place ≡ true) where
  abbrev parts : (place.table.0 ≡ dir.table.0) × ((place.partition ≡ dir.partition) × (place.dir ≡ dir.dir))
  parts = within-parts dir place within

  -- of an aborted write id nothing is made
  pub lost-none : IsLost state dir → made_recs state place ≡ None
  lost-none lost =
      unnamed-none state named place (λ table here name among same.
      let one : lost.table ≡ table = same_one (numbered state.tables place.table.0) lost.table table (ap (numbered state.tables) parts.0 ∙ lost.table_is) here in
      let has = all-numbered (HasNames state) state.tables place.table.0 table here named.tables in
      let owner : numbered table.owners lost.write ≡ Some lost.txn = subst (λ (t : Table). numbered t.owners lost.write ≡ Some lost.txn) one lost.owner in
      let is_own = own-name name lost.deletes lost.write lost.statement (names-here state place table here has name among) (has.ids lost.write lost.txn owner)
      (sym same ∙ parts.1.1 ∙ lost.text) in
      let of = own-among table.writes (jobs_at state place) lost.write name is_own among in
      let by = all-in (IsOfCommitted (map ending_of state.transactions) table.owners) table.writes of.0 has.committed of.1 in
      let txn : by.0 ≡ lost.txn = same_one (numbered table.owners lost.write) by.0 lost.txn (ap (numbered table.owners) (sym of.2) ∙ by.1) owner in
      undone-end (numbered (map ending_of state.transactions) lost.txn) lost.aborted
      (subst (λ n. IsDone (numbered (map ending_of state.transactions) n)) txn by.2))

  -- what a job covers is made and nobody needs it, or nothing is
  freed-goes : IsFreed state dir → MayGo state place
  freed-goes freed = by (numbered state.tables place.table.0) refl (made_recs state place) refl
    where
      covered : IsCovered state dir
      covered = freed.covered

      here_job : is_job_of place.table.0 place.partition covered.job ≡ true
      here_job =
          subst (λ t. is_job_of t place.partition covered.job ≡ true) (sym parts.0)
          (subst (λ p. is_job_of dir.table.0 p covered.job ≡ true) (sym parts.1.0) covered.here)

      by : (o : Option Table) → numbered state.tables place.table.0 ≡ o → (r : Option (Bool × List Rec)) → made_recs state place ≡ r → MayGo state place
      by o e None none = inl none
      by None e (Some file) made =
          absurd (none_is (made_recs state place) file (unnamed-none state named place (λ table here. absurd (none_is (numbered state.tables place.table.0) table e here))) made)
      by (Some table) e (Some file) made =
          let has = all-numbered (HasNames state) state.tables place.table.0 table e named.tables in
          let of = file-from table.info.shape table.writes place (names_in table.writes (jobs_at state place)) file (sym (recs-are state place table e) ∙ made) in
          let one : of.name ≡ covered.name =
          texts.text-same of.name covered.name (names-here state place table e has of.name of.among) covered.named (sym of.dir_is ∙ parts.1.1 ∙ covered.text) in
          inr (inl (spare-from state place table e of.name of.among
          (file-made table.info.shape table.writes place.partition of.name place.bucket file of.file_is) of.dir_is
          (any-in (frees state of.name) covered.job (jobs_at state place)
          (in-filter (is_job_of place.table.0 place.partition) covered.job state.jobs (numbered-in state.jobs covered.number covered.job covered.is) here_job)
          (and_from (is_past state covered.job) (covers covered.job of.name) freed.past (subst (λ (n : DirName). covers covered.job n ≡ true) (sym one) covered.covered)))))

  dead-here : IsDropped state dir → is_live_at state place ≡ false
  dead-here dropped = ap (λ n. is_live_table (numbered state.tables n)) parts.0 ∙ dropped

  pub may-go : MayGoNow state dir → MayGo state place
  may-go (inl freed) = freed-goes freed
  may-go (inr (inl lost)) = inl (lost-none lost)
  may-go (inr (inr (inl idle))) = inl (staged-none state named place idle.stage.number idle.stage.name idle.stage.named (parts.1.1 ∙ idle.stage.text))
  may-go (inr (inr (inr dead))) = inr (inr (dead-here dead.dropped))

or-false : (a : Bool) → a || false ≡ a
or-false true = refl
or-false false = refl

pub gone-stand : GoneStand
gone-stand state dir before now few sound may some standing =
    let named = all-named state (few-now state few) sound in
    changes-stand state before now named (λ place. by named place (either (is_in_any (dir ∷ []) place)) (tree.get now place) refl) standing
  where
    by : AllHaveNames state → (place : Place) → (is_in_any (dir ∷ []) place ≡ true) ⊎ (is_in_any (dir ∷ []) place ≡ false)
        → (o : Option (List ℕ)) → tree.get now place ≡ o → (tree.get now place ≡ tree.get before place) ⊎ MayTurn state place (tree.get now place)
    by named place (inr outside) o e = inl (some.same place outside)
    by named place (inl within) (Some bytes) e = inl (e ∙ sym (some.less place bytes e))
    by named place (inl within) None e =
        inr (subst (MayTurn state place) (sym e) (may-go state named dir place (sym (or-false (is_in dir place)) ∙ within) may))

-- ---- all that a job stages has marks

pub marked-is-staged : MarkedIsStaged
marked-is-staged trail files number job work few sound unbroken all marks name place among within =
    let state = state_at trail in
    let parts = in-parts job (text_of name) place within in
    let at : place_named place (staged_text number name) ≡ staged_at number job name place.bucket = staged-here number job name place parts.0 parts.1.0 in
    let made : made_recs (after state (publishing state number job)) place ≡ wanted job work.table name place.bucket =
    final-recs state number job work few sound name among place within in
    subst (λ (p : Place). Holds (made_recs (after state (publishing state number job)) place) place.bucket (tree.get files p)) (sym at)
    (subst (λ w. Holds w place.bucket (tree.get files (staged_at number job name place.bucket))) (sym made)
    (well (wanted job work.table name place.bucket) refl (marks.each number job work unbroken name place.bucket among)))
  where
    -- where something is wanted it has its mark, so that it stands
    well : (w : Option (Bool × List Rec)) → wanted job work.table name place.bucket ≡ w
        → IsStagedWell trail number (staged_at number job name place.bucket) (wanted job work.table name place.bucket) (tree.get files (staged_at number job name place.bucket))
        → Holds (wanted job work.table name place.bucket) place.bucket (tree.get files (staged_at number job name place.bucket))
    well w e (inl holds) = holds
    well None e (inr none) =
        subst (λ o. Holds o place.bucket (tree.get files (staged_at number job name place.bucket))) (sym e) none.1
    well (Some file) e (inr none) = absurd (none.0 (all name place.bucket file among e))

-- ---- all that a job covers has gone

live-some : (o : Option Table) (table : Table) → o ≡ Some table → is_live_one o ≡ true → is_live_table o ≡ true
live-some None table e live = cc
live-some (Some t) table e live = live

module _ (trail : List TrailItem) (files : Tree) (job : JobId) (which : Job) (few : (state_at trail).entries + 1 < write_end) (sound : IsSoundBook (state_at trail))
    (is : numbered (state_at trail).jobs job.0 ≡ Some which) (live : is_live_job (state_at trail) which ≡ true) (says : SaysCovered (state_at trail) which)
    (gone : AreGone trail (state_at trail) which) (standing : Standing (state_at trail) files) (marks : JobMarksStand trail files) where
  abbrev state : State
  state = state_at trail

  named : AllHaveNames state
  named = all-named state (few-now state few) sound

  module _ (place : Place) (asks : IsCoveredBy state job.0 place) where
    one : asks.job ≡ which
    one = same_one (numbered state.jobs job.0) asks.job which asks.is is

    there : (place.table.0 ≡ which.table) × (place.partition ≡ which.partition)
    there = job-there which place (subst (λ (j : Job). is_job_of place.table.0 place.partition j ≡ true) one asks.here)

    jobs-same : jobs_at state place ≡ jobs_in state which.table which.partition
    jobs-same = λ i. jobs_of (there.0 i) (there.1 i) state.jobs

    kept : IsIn asks.name (names_in asks.table.writes (jobs_at state place)) × (is_made asks.table.writes place.partition asks.name ≡ true)
    kept = from-filter (is_made asks.table.writes place.partition) asks.name (names_in asks.table.writes (jobs_at state place)) asks.among

    -- it is one of those that a cleaner goes through
    listed : IsIn asks.name (covered_names state which)
    listed =
        says asks.table (ap (numbered state.tables) (sym there.0) ∙ asks.table_is) asks.name
        (subst (λ p. IsIn asks.name (made_names asks.table.writes (jobs_in state which.table which.partition) p)) there.1
        (subst (λ js. IsIn asks.name (made_names asks.table.writes js place.partition)) jobs-same asks.among))
        (subst (λ (j : Job). covers j asks.name ≡ true) one asks.covered)

    live-here : is_live_at state place ≡ true
    live-here =
        live-some (numbered state.tables place.table.0) asks.table asks.table_is (ap (λ n. is_live_one (numbered state.tables n)) there.0 ∙ live)

    inside : is_in (dir_of which (text_of asks.name)) place ≡ true
    inside = in-from which (text_of asks.name) place there.0 there.1 asks.dir

    is-name : IsName asks.name
    is-name =
        names-here state place asks.table asks.table_is
        (all-numbered (HasNames state) state.tables place.table.0 asks.table asks.table_is named.tables) asks.name kept.0

    -- a directory of the book is none that stages one
    not-staged : IsStage (dir_of which (text_of asks.name)) → ⊥
    not-staged stage =
        let same : asks.name ≡ dir_name.Staged (record { 0 = stage.number }) stage.name =
        texts.text-same asks.name (dir_name.Staged (record { 0 = stage.number }) stage.name) is-name stage.named stage.text in
        staged-among asks.table.writes (jobs_at state place) asks.name (subst IsStagedName (sym same) tt) kept.0

    stays : StaysGone state files (dir_of which (text_of asks.name)) → tree.get files place ≡ None
    stays (inl stage) = absurd (not-staged stage)
    stays (inr (inl dropped)) =
        absurd (true≢false (sym live-here ∙ ap (λ n. is_live_table (numbered state.tables n)) there.0 ∙ dropped))
    stays (inr (inr left)) = left.1 place inside

    by : (is_cleaned_away (jobs_in state which.table which.partition) asks.name ≡ true)
        ⊎ (is_cleaned_away (jobs_in state which.table which.partition) asks.name ≡ false) → tree.get files place ≡ None
    by (inl cleaned) =
        standing.gone place live-here
        (gone-from state place asks.table asks.table_is asks.name kept.0 kept.1 asks.dir
        (ap (λ (js : List Job). is_cleaned_away js asks.name) jobs-same ∙ cleaned))
    by (inr uncleaned) =
        stays (marks.gone (dir_of which (text_of asks.name)) (all-in (HasGoneIf trail state which) (covered_names state which) asks.name gone listed uncleaned))

  at : (place : Place) → IsCoveredBy state job.0 place → Holds None place.bucket (tree.get files place)
  at place asks = by place asks (either (is_cleaned_away (jobs_in state which.table which.partition) asks.name))

  all-filed : IsFiledFor (entry.Cleaned job) state files
  all-filed = record { at = at; encoded = tt }

pub gone-is-filed : GoneIsFiled
gone-is-filed trail files job which few sound is live says gone standing marks =
    all-filed trail files job which few sound is live says gone standing marks

-- ---- a write id that is forgotten

-- in its own directories nothing was made, and nothing is behind the entry
forgot-recs : (state : State) (table : TableId) (write : WriteId) (place : Place) → AllHaveNames state
    → made_recs (after state (entry.Forgot table write)) place ≡ made_recs state place
unfolding acted
forgot-recs state table write place named =
    recs-calm state (after state (entry.Forgot table write)) refl named (λ k. calm-changed (forgot write.0) (λ t. refl) (λ t. refl) state.tables table.0 k)
    (λ job past. past) place

pub forgot-filed : (limits : Limits) (state : State) (table : TableId) (write : WriteId) (files : Tree) → state.entries + 1 < write_end → IsSoundBook state
    → Fits limits state (entry.Forgot table write) → ((place : Place) → IsOwnOf table.0 write.0 place → tree.get files place ≡ None)
    → IsFiledFor (entry.Forgot table write) state files
forgot-filed limits state table write files few sound fits none = record {
  at = λ place own.
      subst (λ o. Holds o place.bucket (tree.get files place)) (sym (forgot-recs state table write place named ∙ unmade place own)) (none place own);
  encoded = tt;
}
  where
    named : AllHaveNames state
    named = all-named state (few-now state few) sound

    unmade : (place : Place) → IsOwnOf table.0 write.0 place → made_recs state place ≡ None
    unmade place own =
        let here = found (ForgotFits limits state write.0) (numbered state.tables table.0) fits in
        let to = is-to-forget limits state table.0 write.0 here.0 here.1 here.2 in
        let loose : IsLoose state place = record {
          txn = to.txn;
          own = record {
            table = here.0;
            is = ap (numbered state.tables) own.table_is ∙ to.is;
            deletes = own.deletes;
            write = write.0;
            statement = own.statement;
            dir = own.dir;
            owner = to.owner;
            kept = to.kept;
          };
          undone = to.undone;
        } in
        (puts-unmade state place named (inl loose)).recs
