-- Places in directories: staged ones, own ones, and those of a job's names; and where a directory has no name of the book nothing is made.
use Rattle.std.proofs.Common.{◌≡◌, ◌⊎◌, inl, inr, ℕ, ◌+◌, ◌<◌, ◌==◌, Bool, true, false, true≢false, cond, is_some, Option, Some, None, List, [], ◌∷◌, ◌++◌, filter, map, refl, sym, ap, ◌∙◌, subst, eqb-true, eq-eqb}
use Rattle.std.specs.Prelude.{◌&&◌, ◌||◌, not, is_none, nat_eq}
use Rattle.std.specs.Cmp.Lexicographic.{pointwise}
use Rattle.std.specs.Ordering.{eq_by_cmp}
use Rattle.std.specs.List.{list_any, flat_map}
use Rattle.std.proofs.lemmas.Bool.{and_parts, and_from}
use Rattle.hv_base.specs.Sorting.{sorted_by}
use Rattle.hv_shelf.specs.declared.place.DirAt.{DirAt}
use Rattle.hv_shelf.specs.declared.place.Place.{Place}
use Rattle.hv_shelf.specs.Places.{place_cmp, is_in, place_named}
use Rattle.hv_logic.specs.declared.catalog.Shape.{Shape}
use Rattle.hv_logic.specs.declared.effect.Found.{Found}
use Rattle.hv_route.specs.Standing.{insert_record, delete_record, stands_in}
use Rattle.hv_rowfile.specs.declared.record.Rec.{Rec}
use Rattle.hv_dirs.specs.declared.names.DirName.{DirName}
use Rattle.hv_dirs.specs.declared.names.DirName.TheVariants as dir
use Rattle.hv_dirs.specs.Choice.{Own, Wide}
use Rattle.hv_dirs.specs.Names.{IsStagedAs, text_of, write_end}
use Rattle.hv_dirs.proofs.NameLemmas as texts
use Rattle.hv_dirs.proofs.OwnNames.{behind}
use Rattle.hv_history.specs.declared.state.Table.{Table}
use Rattle.hv_history.specs.declared.state.Written.{Written}
use Rattle.hv_history.specs.State.{State, Job, numbered}
use Rattle.hv_stands.specs.Files.{records_of, own_dir}
use Rattle.hv_stands.proofs.Numbers.{none_is, either}
use Rattle.hv_stands.proofs.Places.{same-place, other-place}
use Rattle.hv_stands.proofs.Soundness.{all-numbered}
use Rattle.hv_law_marks.specs.hv_law_filed.specs.hv_law_made.specs.Made.{has_written, rec_cmp, delta_recs, in_partition, some_or, name_file, names_in, has_events, is_made, made_names, jobs_at, recs_in, made_recs, is_spare_name, is_spare_in, is_spare, is_gone_name, is_gone_in, is_gone, is_named}
use Rattle.hv_law_marks.specs.hv_law_filed.specs.hv_law_made.specs.Named.{HasNames, AllHaveNames}
use Rattle.hv_law_marks.specs.hv_law_filed.specs.hv_law_made.specs.Laws.{IsUnmade}
use Rattle.hv_law_marks.specs.hv_law_filed.specs.hv_law_made.specs.Standing.{IsStagedAt}
use Rattle.hv_law_marks.specs.hv_law_filed.specs.hv_law_made.specs.Entries.{IsSoundBook, finals, staged_text, IsAtWork}
use Rattle.hv_jobs.specs.Covers.{is_freed, is_cleaned_away}
use Rattle.hv_law_marks.specs.hv_law_filed.specs.hv_law_made.proofs.NamedLemmas.{same-text, text-same}
use Rattle.hv_law_marks.specs.hv_law_filed.specs.hv_law_made.proofs.UnmadeLemmas.{IsStagedName, staged-among, names-here, unnamed-unmade}
use Rattle.hv_law_marks.specs.hv_law_filed.specs.hv_law_made.proofs.RenameStands.{job-here, IsMadeName, staged-as, is-number, final-made}
use Rattle.hv_law_visible.specs.Members.{IsIn}
use Rattle.hv_law_visible.proofs.MemberLemmas.{in-filter, any-in}
use Rattle.hv_law_work.specs.Work.{staged_at, IsStagedFile}

-- ---- one place and another

pub same-or-other : (place other : Place) → (other ≡ place) ⊎ (other ≡ place → ⊥)
same-or-other place other = by (either (eq_by_cmp place_cmp other place))
  where
    by : (eq_by_cmp place_cmp other place ≡ true) ⊎ (eq_by_cmp place_cmp other place ≡ false) → (other ≡ place) ⊎ (other ≡ place → ⊥)
    by (inl same) = inl (same-place other place same)
    by (inr apart) = inr (other-place other place apart)

-- a place that is in a directory
pub within-parts : (dir : DirAt) (place : Place) → is_in dir place ≡ true
    → (place.table.0 ≡ dir.table.0) × ((place.partition ≡ dir.partition) × (place.dir ≡ dir.dir))
within-parts dir place e =
    let both = and_parts (place.table.0 == dir.table.0) (pointwise nat_eq place.partition dir.partition && pointwise nat_eq place.dir dir.dir) e in
    let rest = and_parts (pointwise nat_eq place.partition dir.partition) (pointwise nat_eq place.dir dir.dir) both.1 in
    (eqb-true place.table.0 dir.table.0 both.0, (same-text place.partition dir.partition rest.0, same-text place.dir dir.dir rest.1))

pub within-from : (dir : DirAt) (place : Place) → place.table.0 ≡ dir.table.0 → place.partition ≡ dir.partition → place.dir ≡ dir.dir → is_in dir place ≡ true
within-from dir place table partition dir_is =
    and_from (place.table.0 == dir.table.0) (pointwise nat_eq place.partition dir.partition && pointwise nat_eq place.dir dir.dir)
    (eq-eqb place.table.0 dir.table.0 table)
    (and_from (pointwise nat_eq place.partition dir.partition) (pointwise nat_eq place.dir dir.dir) (text-same place.partition dir.partition partition)
    (text-same place.dir dir.dir dir_is))

-- ---- an own directory and a staged one have two names

pub own-not-staged : (deletes : Bool) (write statement number : ℕ) (name : List ℕ)
    → own_dir deletes write statement ≡ text_of (dir.Staged (record { 0 = number }) name) → ⊥
own-not-staged deletes write statement number name e =
    texts.apart (own_dir deletes write statement) (text_of (dir.Staged (record { 0 = number }) name)) 100 46 (texts.own-first deletes write statement)
    (texts.staged-first number name) texts.delta-staged e

-- one that is a name's, and of a write id, is of that id
pub own-write : (deletes : Bool) (write statement : ℕ) (kind : Bool) (other last : ℕ) → write < write_end → other < write_end
    → own_dir deletes write statement ≡ own_dir kind other last → write ≡ other
own-write deletes write statement kind other last few small e =
    let same = texts.kind-same deletes kind (texts.own_rest write statement) (texts.own_rest other last)
    (sym (texts.own-text deletes write statement) ∙ e ∙ texts.own-text kind other last) in
    (texts.fixed-parts 7 write other (behind write statement) (behind other last) few small same.1).0

-- ---- what a name makes where nothing of it was written

or-none : (a b : Bool) → (a || b) ≡ false → (a ≡ false) × (b ≡ false)
or-none true b e = absurd (true≢false e)
or-none false b e = (refl, e)

none-stand : (partition : List ℕ) (bucket : ℕ) (rows : List Found) → list_any (in_partition partition) rows ≡ false → filter (stands_in partition bucket) rows ≡ []
none-stand partition bucket [] e = refl
none-stand partition bucket (row ∷ rows) e =
    let parts = or-none (in_partition partition row) (list_any (in_partition partition) rows) e in
    ap (λ b. cond (b && (row.id.bucket == bucket)) (row ∷ filter (stands_in partition bucket) rows) (filter (stands_in partition bucket) rows)) parts.0
    ∙ none-stand partition bucket rows parts.1

none-here : (shape : Shape) (deletes : Bool) (partition : List ℕ) (bucket : ℕ) (w : Written) → has_events deletes partition w ≡ false
    → records_of shape deletes partition bucket w ≡ []
none-here shape false partition bucket w e = ap (map (insert_record shape)) (none-stand partition bucket w.inserts e)
none-here shape true partition bucket w e = ap (map (delete_record w.write)) (none-stand partition bucket w.deletes e)

no-records : (shape : Shape) (deletes : Bool) (partition : List ℕ) (bucket : ℕ) (ws : List Written) → list_any (has_events deletes partition) ws ≡ false
    → flat_map (records_of shape deletes partition bucket) ws ≡ []
no-records shape deletes partition bucket [] e = refl
no-records shape deletes partition bucket (w ∷ ws) e =
    let parts = or-none (has_events deletes partition w) (list_any (has_events deletes partition) ws) e in
    ap (λ recs. recs ++ flat_map (records_of shape deletes partition bucket) ws) (none-here shape deletes partition bucket w parts.0)
    ∙ no-records shape deletes partition bucket ws parts.1

unmade-file : (shape : Shape) (writes : List Written) (partition : List ℕ) (name : DirName) (bucket : ℕ) → is_made writes partition name ≡ false
    → name_file shape writes partition name bucket ≡ None
unfolding name_file delta_recs
unmade-file shape writes partition (dir.Base high) bucket unmade = absurd (true≢false unmade)
unmade-file shape writes partition (dir.Own deletes write statement) bucket unmade =
    ap (λ recs. some_or deletes (sorted_by rec_cmp recs) None)
    (no-records shape deletes partition bucket (filter (has_written (Own write.0 statement)) writes) unmade)
unmade-file shape writes partition (dir.Wide deletes low high) bucket unmade =
    ap (λ recs. some_or deletes (sorted_by rec_cmp recs) None)
    (no-records shape deletes partition bucket (filter (has_written (Wide low.0 high.0)) writes) unmade)
unmade-file shape writes partition (dir.Staged job name) bucket unmade = refl

-- what has a file is made
pub file-made : (shape : Shape) (writes : List Written) (partition : List ℕ) (name : DirName) (bucket : ℕ) (file : Bool × List Rec)
    → name_file shape writes partition name bucket ≡ Some file → is_made writes partition name ≡ true
file-made shape writes partition name bucket file e = by (either (is_made writes partition name))
  where
    by : (is_made writes partition name ≡ true) ⊎ (is_made writes partition name ≡ false) → is_made writes partition name ≡ true
    by (inl made) = made
    by (inr unmade) =
        absurd (none_is (name_file shape writes partition name bucket) file (unmade-file shape writes partition name bucket unmade) e)

-- ---- what nobody needs, and what was removed

module _ (state : State) (place : Place) (table : Table) (here : numbered state.tables place.table.0 ≡ Some table) (name : DirName)
    (among : IsIn name (names_in table.writes (jobs_at state place))) (made : is_made table.writes place.partition name ≡ true)
    (dir_is : place.dir ≡ text_of name) where
  its-name : IsIn name (made_names table.writes (jobs_at state place) place.partition)
  its-name = in-filter (is_made table.writes place.partition) name (names_in table.writes (jobs_at state place)) among made

  pub spare-from : is_freed state (jobs_at state place) name ≡ true → is_spare state place ≡ true
  unfolding is_spare
  spare-from freed =
      ap (is_spare_in state place) here
      ∙ any-in (is_spare_name state (jobs_at state place) place.dir) name (made_names table.writes (jobs_at state place) place.partition) its-name
      (and_from (is_named place.dir name) (is_freed state (jobs_at state place) name) (text-same (text_of name) place.dir (sym dir_is)) freed)

  pub gone-from : is_cleaned_away (jobs_at state place) name ≡ true → is_gone state place ≡ true
  unfolding is_gone
  gone-from cleaned =
      ap (is_gone_in state place) here
      ∙ any-in (is_gone_name (jobs_at state place) place.dir) name (made_names table.writes (jobs_at state place) place.partition) its-name
      (and_from (is_named place.dir name) (is_cleaned_away (jobs_at state place) name) (text-same (text_of name) place.dir (sym dir_is)) cleaned)

-- ---- a place in a directory that is staged

module _ (state : State) (named : AllHaveNames state) (place : Place) where
  -- whatever name of the book has its text
  abbrev Unnamed : Table → Type 0
  Unnamed table = (name : DirName) → IsIn name (names_in table.writes (jobs_at state place)) → place.dir ≡ text_of name → ⊥

  no-table : numbered state.tables place.table.0 ≡ None → IsUnmade state place
  unfolding made_recs is_spare is_gone
  no-table none = record {
    recs = ap (recs_in state place) none;
    spare = ap (is_spare_in state place) none;
    gone = ap (is_gone_in state place) none;
  }

  -- nothing is made there
  pub unnamed-at : ((table : Table) → numbered state.tables place.table.0 ≡ Some table → Unnamed table) → IsUnmade state place
  unnamed-at unnamed = by (numbered state.tables place.table.0) refl
    where
      by : (o : Option Table) → numbered state.tables place.table.0 ≡ o → IsUnmade state place
      by None e = no-table e
      by (Some table) e =
          unnamed-unmade state place table e (all-numbered (HasNames state) state.tables place.table.0 table e named.tables) (unnamed table e)

  pub unnamed-none : ((table : Table) → numbered state.tables place.table.0 ≡ Some table → Unnamed table) → made_recs state place ≡ None
  unnamed-none unnamed = (unnamed-at unnamed).recs

  pub staged-at-none : (number : ℕ) (name : List ℕ) → IsStagedAs number name → place.dir ≡ text_of (dir.Staged (record { 0 = number }) name)
      → IsUnmade state place
  staged-at-none number name is dir_is =
      unnamed-at (λ table here made among same.
      let has = all-numbered (HasNames state) state.tables place.table.0 table here named.tables in
      let one : made ≡ dir.Staged (record { 0 = number }) name =
      texts.text-same made (dir.Staged (record { 0 = number }) name) (names-here state place table here has made among) is (sym same ∙ dir_is) in
      staged-among table.writes (jobs_at state place) made (subst IsStagedName (sym one) tt) among)

  pub staged-none : (number : ℕ) (name : List ℕ) → IsStagedAs number name → place.dir ≡ text_of (dir.Staged (record { 0 = number }) name)
      → made_recs state place ≡ None
  staged-none number name is dir_is = (staged-at-none number name is dir_is).recs

-- ---- a file that a job at work stages

module _ (state : State) (few : state.entries + 1 < write_end) (sound : IsSoundBook state) (number : ℕ) (job : Job) (work : IsAtWork state number job)
    (name : DirName) (among : IsIn name (finals state job work.table.writes)) where
  pub its-made : IsMadeName name
  its-made = final-made state number job work few sound name among

  pub staged-named : IsStagedAs number (text_of name)
  staged-named = staged-as number name (is-number state number job work few sound) its-made

  pub its-stage : (place : Place) → place.table.0 ≡ job.table → place.partition ≡ job.partition → place.dir ≡ staged_text number name → IsStagedAt state place
  its-stage place table partition dir_is = record {
    number = number;
    job = job;
    is = work.is;
    here = job-here job place table partition;
    picked = (and_parts (is_some job.watermark) (is_none job.published && (not job.is_empty && is_none job.failure)) work.working).0;
    name = text_of name;
    named = staged-named;
    dir = dir_is;
  }

pub staged-file-at : (state : State) (number : ℕ) (place : Place) (bytes : List ℕ) → state.entries + 1 < write_end → IsSoundBook state
    → IsStagedFile state number place bytes → IsStagedAt state place
staged-file-at state number place bytes few sound is =
    its-stage state few sound number is.file.job is.file.work is.name is.file.among place (ap (λ (p : Place). p.table.0) is.place_is)
    (ap (λ (p : Place). p.partition) is.place_is) (ap (λ (p : Place). p.dir) is.place_is)

-- it is the place of its bucket
pub staged-here : (number : ℕ) (job : Job) (name : DirName) (place : Place) → place.table.0 ≡ job.table → place.partition ≡ job.partition
    → place_named place (staged_text number name) ≡ staged_at number job name place.bucket
staged-here number job name place table partition =
    λ i. record { table = record { 0 = table i }; partition = partition i; dir = staged_text number name; bucket = place.bucket }
