-- A commit keeps all standing: its writes are under ids above all that is published, so that nothing which was made has one record more, and
-- its own directories have just the files that it makes.
use Rattle.std.proofs.Common.{refl, ◌≡◌, ◌⊎◌, inl, inr, ℕ, ◌<◌, ◌==◌, ◌&&◌, nat_eq, nat_le, Bool, true, false, cond, is_some, Option, Some, None, List, [], ◌∷◌, ◌++◌, map, filter, sym, ap, ◌∙◌, subst, arith, eqb-true, leb-true, true≢false}
use Rattle.std.specs.Cmp.Lexicographic.{pointwise}
use Rattle.std.specs.FinMap as finmap
use Rattle.std.specs.List.{flat_map, list_any, AllByRecursion}
use Rattle.std.proofs.lemmas.Bool.{and_parts, false_from_ne_true}
use Rattle.hv_base.specs.declared.ids.Touch.{Touch}
use Rattle.hv_base.specs.declared.ids.TxnId.{TxnId}
use Rattle.hv_base.specs.Sorting.{sorted_by}
use Rattle.hv_shelf.specs.declared.place.Place.{Place}
use Rattle.hv_shelf.specs.Disk.{Tree}
use Rattle.hv_logic.specs.declared.catalog.Shape.{Shape}
use Rattle.hv_route.specs.Standing.{insert_record, stands_in}
use Rattle.hv_dirs.specs.declared.names.DirName.{DirName}
use Rattle.hv_dirs.specs.declared.names.DirName.TheVariants as dir
use Rattle.hv_dirs.specs.Names.{text_of}
use Rattle.hv_dirs.specs.Choice.{Own, Wide}
use Rattle.hv_stands.specs.hv_history.specs.declared.entry.Entry.TheVariants as entry
use Rattle.hv_stands.specs.hv_history.specs.declared.entry.JobKind.{JobKind}
use Rattle.hv_stands.specs.hv_history.specs.declared.entry.JobKind.TheVariants as kind
use Rattle.hv_stands.specs.hv_history.specs.declared.state.Table.{Table}
use Rattle.hv_stands.specs.hv_history.specs.declared.state.Transaction.{Transaction}
use Rattle.hv_stands.specs.hv_history.specs.declared.state.Written.{Written}
use Rattle.hv_stands.specs.hv_history.specs.State.{State, Job, numbered, content_of, acted, after, changed, while_open}
use Rattle.hv_stands.specs.Files.{AreEncoded, IsOwn, ending_of, records_of}
use Rattle.hv_stands.specs.Sound.{IsOfCommitted}
use Rattle.hv_stands.proofs.Numbers.{same_one}
use Rattle.hv_stands.proofs.Soundness.{all-numbered}
use Rattle.hv_stands.specs.hv_history.specs.Jobs.{is_job_of, jobs_of}
use Rattle.hv_jobs.specs.Covers.{names_by, job_names, covers_by, covers, is_freed, cleans, is_cleaned_away}
use Rattle.hv_law_made.specs.Made.{has_written, rec_cmp, delta_recs, is_up_to, base_recs, in_partition, if_bare, some_or, name_file, write_names, has_events, is_made, jobs_at, made_recs, is_gone}
use Rattle.hv_law_made.specs.Named.{HasNames, AllHaveNames}
use Rattle.hv_law_made.specs.Standing.{IsStagedAt, is_live_table, is_live_at, Standing}
use Rattle.hv_law_made.specs.Laws.{Holds, ChangesAt, KeepsNames, IsBelow, GetsWrites, IsCommitting, CommittedStands}
use Rattle.hv_law_made.proofs.NamedLemmas.{gone-by}
use Rattle.hv_law_made.proofs.UnmadeLemmas.{IsOwnName, own-name, done-undone, names-here}
use Rattle.hv_law_made.proofs.FrameLemmas.{changed-stands}
use Rattle.hv_law_made.proofs.GrowLemmas.{is_name_of, recs-nowhere, GrowsAt, Grows, grown-changes}
use Rattle.hv_law_made.proofs.QuietLemmas.{freed-still}
use Rattle.hv_law_made.proofs.StepGrows.{gone-nowhere}
use Rattle.hv_law_made.proofs.PublishStands.{numbered-at}
use Rattle.hv_law_made.proofs.EndStands.{end-past, end-loose}
use Rattle.hv_law_visible.specs.Members.{IsIn}
use Rattle.hv_law_visible.proofs.MemberLemmas.{in-left, in-right, in-either, in-flat, from-flat, from-filter, in-any}
use Rattle.hv_law_visible.proofs.TakenLemmas.{all-in}

-- ---- writes that a directory doesn't have

-- those of which it has records, or that a base is made of
abbrev hits : DirName → Written → Bool
hits (dir.Base high) written = is_up_to high.0 written
hits (dir.Own deletes write statement) written = has_written (Own write.0 statement) written
hits (dir.Wide deletes low high) written = has_written (Wide low.0 high.0) written
hits (dir.Staged job name) written = false

filter-more : {A : Type 0} (p : A → Bool) (xs ys : List A) → ((y : A) → IsIn y ys → p y ≡ false) → filter p (xs ++ ys) ≡ filter p xs
filter-more p [] [] fail = refl
filter-more p [] (y ∷ ys) fail = ap (λ b. cond b (y ∷ filter p ys) (filter p ys)) (fail y (inl refl)) ∙ filter-more p [] ys (λ z at. fail z (inr at))
filter-more p (x ∷ xs) ys fail = ap (λ zs. cond (p x) (x ∷ zs) zs) (filter-more p xs ys fail)

module _ (shape : Shape) (partition : List ℕ) (xs ys : List Written) where
  file-grown : (name : DirName) (bucket : ℕ) → filter (hits name) ys ≡ filter (hits name) xs → name_file shape ys partition name bucket ≡ name_file shape xs partition name bucket
  unfolding name_file delta_recs base_recs
  file-grown (dir.Base high) bucket e =
      λ i. some_or false (map (insert_record shape) (filter (stands_in partition bucket) (content_of (e i))))
      (if_bare (list_any (in_partition partition) (content_of (e i))) bucket)
  file-grown (dir.Own deletes write statement) bucket e =
      λ i. some_or deletes (sorted_by rec_cmp (flat_map (records_of shape deletes partition bucket) (e i))) None
  file-grown (dir.Wide deletes low high) bucket e =
      λ i. some_or deletes (sorted_by rec_cmp (flat_map (records_of shape deletes partition bucket) (e i))) None
  file-grown (dir.Staged job name) bucket e = refl

  made-grown : (name : DirName) → filter (hits name) ys ≡ filter (hits name) xs → is_made ys partition name ≡ is_made xs partition name
  made-grown (dir.Base high) e = refl
  made-grown (dir.Own deletes write statement) e = ap (list_any (has_events deletes partition)) e
  made-grown (dir.Wide deletes low high) e = ap (list_any (has_events deletes partition)) e
  made-grown (dir.Staged job name) e = refl

over : (write high : ℕ) → high < write → nat_le write high ≡ false
over write high lt = false_from_ne_true (nat_le write high) (λ e. let le = leb-true write high e in omega (arith, le, lt))

and-false : (b c : Bool) → c ≡ false → b && c ≡ false
and-false true c e = e
and-false false c e = refl

-- a published job has nothing of a later write
range-misses : (k : JobKind) (o : Option (ℕ × ℕ × ℕ)) (name : DirName) (w : Written) → IsIn name (names_by k o) → IsBelow o w.write → hits name w ≡ false
range-misses k None name w at below = absurd at
range-misses kind.Minor (Some range) name w (inl e) below =
    subst (λ n. hits n w ≡ false) e (and-false (nat_le range.0 w.write) (nat_le w.write range.1) (over w.write range.1 below))
range-misses kind.Minor (Some range) name w (inr (inl e)) below =
    subst (λ n. hits n w ≡ false) e (and-false (nat_le range.0 w.write) (nat_le w.write range.1) (over w.write range.1 below))
range-misses kind.Minor (Some range) name w (inr (inr at)) below = absurd at
range-misses kind.Major (Some range) name w (inl e) below = subst (λ n. hits n w ≡ false) e (over w.write range.1 below)
range-misses kind.Major (Some range) name w (inr at) below = absurd at

-- and covers none of its own directories
range-spares : (k : JobKind) (o : Option (ℕ × ℕ × ℕ)) (name : DirName) (write : ℕ) → IsOwnName write name → IsBelow o write → covers_by k o name ≡ false
range-spares k None name write own below = refl
range-spares k (Some range) (dir.Base high) write own below = absurd own
range-spares kind.Minor (Some range) (dir.Own deletes id statement) write own below =
    and-false (nat_le range.0 id.0) (nat_le id.0 range.1) (over id.0 range.1 (subst (λ n. range.1 < n) (sym own) below))
range-spares kind.Major (Some range) (dir.Own deletes id statement) write own below = over id.0 range.1 (subst (λ n. range.1 < n) (sym own) below)
range-spares k (Some range) (dir.Wide deletes low high) write own below = absurd own
range-spares k (Some range) (dir.Staged job name) write own below = absurd own

-- nor has another write's directory
other-write : (w0 w : Written) → (w0.write ≡ w.write → ⊥) → (w.write == w0.write) && (w.statement == w0.statement) ≡ false
other-write w0 w apart =
    false_from_ne_true ((w.write == w0.write) && (w.statement == w0.statement))
    (λ e. apart (sym (eqb-true w.write w0.write (and_parts (w.write == w0.write) (w.statement == w0.statement) e).0)))

own-misses : (w0 w : Written) (name : DirName) → (w0.write ≡ w.write → ⊥) → IsIn name (write_names w0) → hits name w ≡ false
own-misses w0 w name apart (inl e) = subst (λ n. hits n w ≡ false) e (other-write w0 w apart)
own-misses w0 w name apart (inr (inl e)) = subst (λ n. hits n w ≡ false) e (other-write w0 w apart)
own-misses w0 w name apart (inr (inr at)) = absurd at

-- ---- the commit

module _ (state : State) (txn : TxnId) (wrote : List Touch) (now : State)
    (g : Transaction → Transaction) (transactions_are : now.transactions ≡ changed (while_open g) state.transactions txn.0) (jobs_are : now.jobs ≡ state.jobs)
    (named : AllHaveNames state) (behind : AllHaveNames now) (unended : numbered (map ending_of state.transactions) txn.0 ≡ Some None)
    (gets : (number : ℕ) (before : Table) → numbered state.tables number ≡ Some before → (table : Table) × (numbered now.tables number ≡ Some table) × GetsWrites txn.0 before table)
    (none : (number : ℕ) → numbered state.tables number ≡ None → numbered now.tables number ≡ None)
    (above : (number : ℕ) (before : Table) (write : ℕ) → numbered state.tables number ≡ Some before → numbered before.owners write ≡ Some txn.0
    → (n : ℕ) (job : Job) → numbered state.jobs n ≡ Some job → job.table ≡ number → IsBelow job.published write) where
  abbrev Own_of : Place → Type 0
  Own_of place = IsOwn state.tables txn.0 place

  module _ (place : Place) (before table : Table) (was : numbered state.tables place.table.0 ≡ Some before) (here : numbered now.tables place.table.0 ≡ Some table)
      (get : GetsWrites txn.0 before table) where
    has : HasNames state before
    has = all-numbered (HasNames state) state.tables place.table.0 before was named.tables

    -- no committed write is of an id of it
    apart : (w0 w : Written) → IsIn w0 before.writes → IsIn w get.more → w0.write ≡ w.write → ⊥
    apart w0 w at new same =
        let by = all-in (IsOfCommitted (map ending_of state.transactions) before.owners) before.writes w0 has.committed at in
        let txn_is : by.0 ≡ txn.0 = same_one (numbered before.owners w0.write) by.0 txn.0 by.1 (ap (numbered before.owners) same ∙ (get.each w new).owner) in
        done-undone (numbered (map ending_of state.transactions) txn.0)
        (subst (λ n. Rattle.hv_stands.specs.Sound.IsDone (numbered (map ending_of state.transactions) n)) txn_is by.2)
        (subst Rattle.hv_stands.specs.Files.IsUndone (sym unended) tt)

    below-job : (job : Job) → IsIn job (jobs_at state place) → (write : ℕ) → numbered before.owners write ≡ Some txn.0 → IsBelow job.published write
    below-job job at write owner =
        let kept = from-filter (is_job_of place.table.0 place.partition) job state.jobs at in
        let n = numbered-at state.jobs job kept.0 in
        above place.table.0 before write was owner n.0 job n.1
        (eqb-true job.table place.table.0 (and_parts (job.table == place.table.0) (pointwise nat_eq job.partition place.partition) kept.1).0)

    misses : (name : DirName) → is_name_of state before place name → (w : Written) → IsIn w get.more → hits name w ≡ false
    misses name at w new = elim (in-either name (flat_map write_names before.writes) (flat_map job_names (jobs_at state place)) at.0) [
      | inl own ↦ let of = from-flat write_names name before.writes own in own-misses of.0 w name (apart of.0 w of.1 new) of.2
      | inr made ↦
          let of = from-flat job_names name (jobs_at state place) made in
          range-misses of.0.kind of.0.published name w of.2 (below-job of.0 of.1 w.write (get.each w new).owner)
    ]

    same-hits : (name : DirName) → is_name_of state before place name → filter (hits name) table.writes ≡ filter (hits name) before.writes
    same-hits name at = ap (filter (hits name)) get.writes ∙ filter-more (hits name) before.writes get.more (misses name at)

    jobs-here : jobs_at now place ≡ jobs_at state place
    jobs-here = ap (jobs_of place.table.0 place.partition) jobs_are

    stay : (name : DirName) → is_name_of state before place name → is_name_of now table place name
    stay name at = (
      elim (in-either name (flat_map write_names before.writes) (flat_map job_names (jobs_at state place)) at.0) [
        | inl own ↦
            let of = from-flat write_names name before.writes own in
            in-left name (flat_map write_names table.writes) (flat_map job_names (jobs_at now place))
            (in-flat write_names of.0 name table.writes (subst (IsIn of.0) (sym get.writes) (in-left of.0 before.writes get.more of.1)) of.2)
        | inr made ↦
            in-right name (flat_map write_names table.writes) (flat_map job_names (jobs_at now place))
            (subst (λ jobs. IsIn name (flat_map job_names jobs)) (sym jobs-here) made)
      ],
      at.1,
    )

    -- an own name of a new write
    new-own : (w : Written) → IsIn w get.more → (name : DirName) → IsIn name (write_names w) → place.dir ≡ text_of name → Own_of place
    new-own w at name (inl e) dir_is = record {
      table = before;
      is = was;
      deletes = false;
      write = w.write;
      statement = w.statement;
      dir = dir_is ∙ ap text_of (sym e);
      owner = (get.each w at).owner;
      kept = (get.each w at).kept;
    }
    new-own w at name (inr (inl e)) dir_is = record {
      table = before;
      is = was;
      deletes = true;
      write = w.write;
      statement = w.statement;
      dir = dir_is ∙ ap text_of (sym e);
      owner = (get.each w at).owner;
      kept = (get.each w at).kept;
    }
    new-own w at name (inr (inr none_here)) dir_is = absurd none_here

    come : (name : DirName) → is_name_of now table place name → is_name_of state before place name ⊎ Own_of place
    come name at = elim (in-either name (flat_map write_names table.writes) (flat_map job_names (jobs_at now place)) at.0) [
      | inl own ↦
          let of = from-flat write_names name table.writes own in
          elim (in-either of.0 before.writes get.more (subst (IsIn of.0) get.writes of.1)) [
            | inl old ↦ inl (in-left name (flat_map write_names before.writes) (flat_map job_names (jobs_at state place)) (in-flat write_names of.0 name before.writes old of.2), at.1)
            | inr new ↦ inr (new-own of.0 new name of.2 at.1)
          ]
      | inr made ↦ inl (
        in-right name (flat_map write_names before.writes) (flat_map job_names (jobs_at state place)) (subst (λ jobs. IsIn name (flat_map job_names jobs)) jobs-here made),
        at.1,
      )
    ]

    commit-at : GrowsAt state now (Own_of place) place before table
    commit-at = record {
      shape = ap (λ info. info.shape) get.info;
      names = stay;
      files = λ name at. file-grown before.info.shape place.partition before.writes table.writes name place.bucket (same-hits name at);
      made = λ name at. made-grown before.info.shape place.partition before.writes table.writes name (same-hits name at);
      freed = λ name at e. subst (λ jobs. is_freed now jobs name ≡ true) (sym jobs-here)
          (freed-still state now (λ job at. end-past state now txn.0 g transactions_are job) place.table.0 place.partition name e);
      new = come;
      cleaned = λ name at made e. inl (subst (λ jobs. is_cleaned_away jobs name ≡ true) jobs-here e);
    }

    has-now : HasNames now table
    has-now = all-numbered (HasNames now) now.tables place.table.0 table here behind.tables

    -- of its own directories none was said to be removed
    own-not-gone : Own_of place → is_gone now place ≡ true → ⊥
    own-not-gone own e =
        let same : own.table ≡ before = same_one (numbered state.tables place.table.0) own.table before own.is was in
        let owner : numbered before.owners own.write ≡ Some txn.0 = subst (λ (t : Table). numbered t.owners own.write ≡ Some txn.0) same own.owner in
        let by = gone-by now place table here e in
        let name_is = names-here now place table here has-now by.name by.among in
        let is_own : IsOwnName own.write by.name =
        own-name by.name own.deletes own.write own.statement name_is (has.ids own.write txn.0 owner) (sym by.dir_is ∙ own.dir) in
        let found = in-any (cleans by.name) (jobs_at now place) by.cleaned in
        let cleaned = and_parts found.0.is_cleaned (covers found.0 by.name) found.2 in
        let below = below-job found.0 (subst (IsIn found.0) jobs-here found.1) own.write owner in
        true≢false (sym cleaned.1 ∙ range-spares found.0.kind found.0.published by.name own.write is_own below)

  commit-own : (by : ℕ) (place : Place) → IsOwn state.tables by place → IsOwn now.tables by place
  commit-own by place own =
      let get = gets place.table.0 own.table own.is in
      record {
        table = get.0;
        is = get.1;
        deletes = own.deletes;
        write = own.write;
        statement = own.statement;
        dir = own.dir;
        owner = ap (λ owners. numbered owners own.write) get.2.owners ∙ own.owner;
        kept = ap (λ forgotten. list_any (λ other. other == own.write) forgotten) get.2.forgotten ∙ own.kept;
      }

  commit-staged : (place : Place) → IsStagedAt state place → IsStagedAt now place
  commit-staged place staged = record {
    number = staged.number;
    job = staged.job;
    is = ap (λ jobs. numbered jobs staged.number) jobs_are ∙ staged.is;
    here = staged.here;
    picked = staged.picked;
    name = staged.name;
    named = staged.named;
    dir = staged.dir;
  }

  live-by : (place : Place) (o : Option Table) → numbered state.tables place.table.0 ≡ o → is_live_at now place ≡ is_live_table o
  live-by place None e = ap is_live_table (none place.table.0 e)
  live-by place (Some before) e = let get = gets place.table.0 before e in ap is_live_table get.1 ∙ get.2.is_live

  commit-live : (place : Place) → is_live_at now place ≡ is_live_at state place
  commit-live place = live-by place (numbered state.tables place.table.0) refl

  pub commit-grows : Grows state now Own_of
  commit-grows = record {
    named = named;
    named_now = behind;
    each = λ place before e. let get = gets place.table.0 before e in (get.0, get.1, commit-at place before get.0 e get.1 get.2);
    none = λ place e. (recs-nowhere now place (none place.table.0 e), gone-nowhere now place (none place.table.0 e));
    loose = end-loose state now txn.0 g transactions_are commit-own;
    staged = commit-staged;
    dead = λ place e. commit-live place ∙ e;
    live = λ place e. sym (commit-live place) ∙ e;
  }

  pub commit-stands : (files : Tree) → ((place : Place) → Own_of place → Holds (made_recs now place) place.bucket (finmap.get files place))
      → AllByRecursion AreEncoded now.tables → Standing state files → Standing now files
  commit-stands files filed encoded standing =
      changed-stands state now Own_of files files (grown-changes state now Own_of commit-grows) (λ place. inl refl) (record {
        whole = λ place at live needed. filed place at;
        bare = λ place at nothing. subst (λ o. Holds o place.bucket (finmap.get files place)) nothing (filed place at);
        gone = λ place at live e. let get = gets place.table.0 at.table at.is in absurd (own-not-gone place at.table get.0 at.is get.1 get.2 at e);
        tables = λ place at. let get = gets place.table.0 at.table at.is in ap is_some get.1;
        encoded = encoded;
      }) standing

pub committed-stands : CommittedStands
unfolding acted
committed-stands state txn wrote files to names filed standing =
    commit-stands state txn wrote (after state (entry.Commit txn wrote)) _ refl refl names.before names.behind to.unended to.tables to.none to.above
    files filed.at filed.encoded standing

pub committed-changes : (state : State) (txn : TxnId) (wrote : List Touch) → IsCommitting state txn wrote → KeepsNames state (entry.Commit txn wrote)
    → ChangesAt state (after state (entry.Commit txn wrote)) (λ place. IsOwn state.tables txn.0 place)
unfolding acted
committed-changes state txn wrote to names =
    grown-changes state (after state (entry.Commit txn wrote)) (λ place. IsOwn state.tables txn.0 place)
    (commit-grows state txn wrote (after state (entry.Commit txn wrote)) _ refl refl names.before names.behind to.unended to.tables to.none to.above)
