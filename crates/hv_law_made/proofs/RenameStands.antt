-- Staged directories get their names one after another, and then the book may be told.
use Rattle.std.proofs.Common.{refl, ◌≡◌, ◌⊎◌, inl, inr, ℕ, ◌+◌, ◌<◌, ◌==◌, ◌&&◌, nat_eq, Bool, true, false, cond, is_some, Option, Some, None, List, [], ◌∷◌, ◌++◌, filter, length, map, sym, ap, ◌∙◌, subst, arith, eqb-true, eq-eqb, true≢false}
use Rattle.std.specs.Prelude.{◌||◌, not, is_none, IsSomeAnd}
use Rattle.std.specs.Cmp.Lexicographic.{pointwise}
use Rattle.std.specs.FinMap as finmap
use Rattle.std.specs.List.{flat_map, list_any, AllByRecursion}
use Rattle.std.proofs.lemmas.Bool.{and_parts, and_from, false_from_ne_true}
use Rattle.hv_base.specs.Sorting.{sorted_by}
use Rattle.hv_shelf.specs.declared.place.Place.{Place}
use Rattle.hv_shelf.specs.declared.place.DirAt.{DirAt}
use Rattle.hv_shelf.specs.Disk.{Tree, Store, IsFree, IsRenamed, renamed_get}
use Rattle.hv_shelf.specs.Laws.{alike}
use Rattle.hv_shelf.specs.Places.{is_in, place_named}
use Rattle.hv_logic.specs.declared.catalog.Shape.{Shape}
use Rattle.hv_logic.specs.declared.effect.Found.{Found}
use Rattle.hv_route.specs.Standing.{insert_record, delete_record, stands_in}
use Rattle.hv_rowfile.specs.declared.record.Rec.{Rec}
use Rattle.hv_dirs.specs.declared.names.DirName.{DirName}
use Rattle.hv_dirs.specs.declared.names.DirName.TheVariants as dir
use Rattle.hv_dirs.specs.Choice.{Wide}
use Rattle.hv_dirs.specs.Names.{IsName, IsPlain, IsNumber, IsStagedAs, is_compacted, text_of, write_end}
use Rattle.hv_dirs.proofs.NameLemmas as texts
use Rattle.hv_stands.specs.hv_history.specs.declared.entry.JobKind.{JobKind}
use Rattle.hv_stands.specs.hv_history.specs.declared.entry.JobKind.TheVariants as kind
use Rattle.hv_stands.specs.hv_history.specs.declared.state.Table.{Table}
use Rattle.hv_stands.specs.hv_history.specs.declared.state.Written.{Written}
use Rattle.hv_stands.specs.hv_history.specs.State.{State, Job, numbered, acted, after}
use Rattle.hv_stands.specs.hv_history.specs.Legal.{profile, Fits}
use Rattle.hv_stands.specs.hv_history.specs.Jobs.{is_job_of, is_live_one, pieces_for}
use Rattle.hv_stands.specs.hv_history.specs.JobsFit.{PublishedFits}
use Rattle.hv_stands.specs.Files.{records_of}
use Rattle.hv_stands.proofs.Numbers.{none_is, same_one, either}
use Rattle.hv_stands.proofs.Soundness.{all-numbered}
use Rattle.hv_jobs.specs.Covers.{range_names, job_names}
use Rattle.hv_law_jobs.specs.Sound.{IsSoundRange}
use Rattle.hv_law_jobs.proofs.OrderLemmas.{all-more, all-filter, number-there}
use Rattle.hv_law_jobs.proofs.PublishLemmas.{range-is-sound}
use Rattle.hv_law_made.specs.Made.{has_written, rec_cmp, delta_recs, in_partition, some_or, name_file, write_names, names_in, has_deletes, has_events, is_made, jobs_at, made_recs}
use Rattle.hv_law_made.specs.Named.{HasNames, AllHaveNames}
use Rattle.hv_law_made.specs.Standing.{IsStagedAt, is_live_table, is_live_at, Standing}
use Rattle.hv_law_made.specs.Laws.{MayTurn, Holds, IsFinalOf, AsksAt, IsFiledFor, AreButFor, IsNewName, IsToPublish}
use Rattle.hv_law_made.specs.Entries.{IsSoundBook, publishing, finals, dir_of, staged_text, IsAtWork, AreStaged, AreRenamed, IsReady, RenamesStand}
use Rattle.hv_law_made.proofs.NamedLemmas.{same-text, text-same, file-from, range-name, recs-are}
use Rattle.hv_law_made.proofs.UnmadeLemmas.{names-here, puts-unmade}
use Rattle.hv_law_made.proofs.FrameLemmas.{changes-stand}
use Rattle.hv_law_made.proofs.FreeLemmas.{new-free}
use Rattle.hv_law_made.proofs.PublishStands.{numbered-at}
use Rattle.hv_law_made.proofs.NewNames.{to-publish}
use Rattle.hv_law_made.proofs.NameBounds.{named-range, all-named}
use Rattle.hv_law_made.proofs.BookLemmas.{books-go-on}
use Rattle.hv_law_made.proofs.EntryStands.{gone-turns}
use Rattle.hv_law_visible.specs.Members.{IsIn}
use Rattle.hv_law_visible.proofs.MemberLemmas.{in-either, from-flat, in-filter, from-filter, any-in, in-any}
use Rattle.hv_law_visible.proofs.TakenLemmas.{all-in}

-- ---- a name that isn't made has no file

or-none : (a b : Bool) → (a || b) ≡ false → (a ≡ false) × (b ≡ false)
or-none true b e = absurd (true≢false e)
or-none false b e = (refl, e)

none-stand : (partition : List ℕ) (bucket : ℕ) (rows : List Found) → list_any (in_partition partition) rows ≡ false → filter (stands_in partition bucket) rows ≡ []
none-stand partition bucket [] e = refl
none-stand partition bucket (row ∷ rows) e =
    let parts = or-none (in_partition partition row) (list_any (in_partition partition) rows) e in
    ap (λ b. cond (b && (row.id.bucket == bucket)) (row ∷ filter (stands_in partition bucket) rows) (filter (stands_in partition bucket) rows)) parts.0
    ∙ none-stand partition bucket rows parts.1

none-here : (shape : Shape) (deletes : Bool) (partition : List ℕ) (bucket : ℕ) (w : Written) → has_events deletes partition w ≡ false
    → records_of shape deletes partition bucket w ≡ []
none-here shape false partition bucket w e = ap (map (insert_record shape)) (none-stand partition bucket w.inserts e)
none-here shape true partition bucket w e = ap (map (delete_record w.write)) (none-stand partition bucket w.deletes e)

no-records : (shape : Shape) (deletes : Bool) (partition : List ℕ) (bucket : ℕ) (ws : List Written) → list_any (has_events deletes partition) ws ≡ false
    → flat_map (records_of shape deletes partition bucket) ws ≡ []
no-records shape deletes partition bucket [] e = refl
no-records shape deletes partition bucket (w ∷ ws) e =
    let parts = or-none (has_events deletes partition w) (list_any (has_events deletes partition) ws) e in
    ap (λ recs. recs ++ flat_map (records_of shape deletes partition bucket) ws) (none-here shape deletes partition bucket w parts.0)
    ∙ no-records shape deletes partition bucket ws parts.1

unmade-file : (shape : Shape) (writes : List Written) (partition : List ℕ) (name : DirName) (bucket : ℕ) → is_compacted name ≡ true
    → is_made writes partition name ≡ false → name_file shape writes partition name bucket ≡ None
unfolding name_file delta_recs
unmade-file shape writes partition (dir.Base high) bucket compacted unmade = absurd (true≢false unmade)
unmade-file shape writes partition (dir.Own deletes write statement) bucket compacted unmade = absurd (true≢false (sym compacted))
unmade-file shape writes partition (dir.Wide deletes low high) bucket compacted unmade =
    ap (λ recs. some_or deletes (sorted_by rec_cmp recs) None)
    (no-records shape deletes partition bucket (filter (has_written (Wide low.0 high.0)) writes) unmade)
unmade-file shape writes partition (dir.Staged job name) bucket compacted unmade = absurd (true≢false (sym compacted))

unmade-recs : (state : State) (place : Place) (table : Table) → numbered state.tables place.table.0 ≡ Some table → HasNames state table → (name : DirName) → IsName name
    → is_compacted name ≡ true → place.dir ≡ text_of name → is_made table.writes place.partition name ≡ false → made_recs state place ≡ None
unmade-recs state place table here has name is compacted dir_is unmade = by (made_recs state place) refl
  where
    by : (o : Option (Bool × List Rec)) → made_recs state place ≡ o → o ≡ None
    by None e = refl
    by (Some file) e =
        let of = file-from table.info.shape table.writes place (names_in table.writes (jobs_at state place)) file (sym (recs-are state place table here) ∙ e) in
        let one : of.name ≡ name = texts.text-same of.name name (names-here state place table here has of.name of.among) is (sym of.dir_is ∙ dir_is) in
        absurd
        (none_is (name_file table.info.shape table.writes place.partition name place.bucket) file
        (unmade-file table.info.shape table.writes place.partition name place.bucket compacted unmade)
        (ap (λ n. name_file table.info.shape table.writes place.partition n place.bucket) (sym one) ∙ of.file_is))

-- ---- a job's directories

pub in-parts : (job : Job) (text : List ℕ) (place : Place) → is_in (dir_of job text) place ≡ true
    → (place.table.0 ≡ job.table) × ((place.partition ≡ job.partition) × (place.dir ≡ text))
in-parts job text place e =
    let both = and_parts (place.table.0 == job.table) (pointwise nat_eq place.partition job.partition && pointwise nat_eq place.dir text) e in
    let rest = and_parts (pointwise nat_eq place.partition job.partition) (pointwise nat_eq place.dir text) both.1 in
    (eqb-true place.table.0 job.table both.0, (same-text place.partition job.partition rest.0, same-text place.dir text rest.1))

pub in-from : (job : Job) (text : List ℕ) (place : Place) → place.table.0 ≡ job.table → place.partition ≡ job.partition → place.dir ≡ text → is_in (dir_of job text) place ≡ true
in-from job text place table partition dir_is =
    and_from (place.table.0 == job.table) (pointwise nat_eq place.partition job.partition && pointwise nat_eq place.dir text)
    (eq-eqb place.table.0 job.table table)
    (and_from (pointwise nat_eq place.partition job.partition) (pointwise nat_eq place.dir text) (text-same place.partition job.partition partition)
    (text-same place.dir text dir_is))

pub job-there : (job : Job) (place : Place) → is_job_of place.table.0 place.partition job ≡ true → (place.table.0 ≡ job.table) × (place.partition ≡ job.partition)
job-there job place e =
    let both = and_parts (job.table == place.table.0) (pointwise nat_eq job.partition place.partition) e in
    (sym (eqb-true job.table place.table.0 both.0), sym (same-text job.partition place.partition both.1))

pub job-here : (job : Job) (place : Place) → place.table.0 ≡ job.table → place.partition ≡ job.partition → is_job_of place.table.0 place.partition job ≡ true
job-here job place table partition =
    and_from (job.table == place.table.0) (pointwise nat_eq job.partition place.partition) (eq-eqb job.table place.table.0 (sym table))
    (text-same job.partition place.partition (sym partition))

-- ---- names of what compactions make, and under which they are staged

pub record IsMadeName (name : DirName) : Type 0 where
  pub named : IsName name
  pub compacted : is_compacted name ≡ true

plain-name : (name : DirName) → IsName name → is_compacted name ≡ true → IsPlain name
plain-name (dir.Base high) named compacted = named
plain-name (dir.Own deletes write statement) named compacted = absurd (true≢false (sym compacted))
plain-name (dir.Wide deletes low high) named compacted = named
plain-name (dir.Staged job name) named compacted = absurd (true≢false (sym compacted))

pub staged-as : (number : ℕ) (name : DirName) → IsNumber number → IsMadeName name → IsStagedAs number (text_of name)
staged-as number name is made = (is, (name, plain-name name made.named made.compacted, made.compacted, refl))

abbrev staged_of : DirName → List ℕ
staged_of (dir.Base high) = []
staged_of (dir.Own deletes write statement) = []
staged_of (dir.Wide deletes low high) = []
staged_of (dir.Staged job name) = name

abbrev stage : ℕ → DirName → DirName
stage number name = dir.Staged (record { 0 = number }) (text_of name)

module _ (number : ℕ) (is : IsNumber number) where
  pub staged-final : (a b : DirName) → IsMadeName a → IsMadeName b → staged_text number a ≡ text_of b → ⊥
  staged-final a b a_made b_made e =
      let one : stage number a ≡ b = texts.text-same (stage number a) b (staged-as number a is a_made) b_made.named e in
      true≢false (sym b_made.compacted ∙ sym (ap is_compacted one))

  pub final-same : (a b : DirName) → IsMadeName a → IsMadeName b → text_of a ≡ text_of b → a ≡ b
  final-same a b a_made b_made e = texts.text-same a b a_made.named b_made.named e

  staged-same : (a b : DirName) → IsMadeName a → IsMadeName b → staged_text number a ≡ staged_text number b → a ≡ b
  staged-same a b a_made b_made e =
      let one : stage number a ≡ stage number b = texts.text-same (stage number a) (stage number b) (staged-as number a is a_made) (staged-as number b is b_made) e in
      final-same a b a_made b_made (ap staged_of one)

-- no two of these names are one
abbrev pub Differ : List DirName → Type 0
Differ [] = Unit {0}
Differ (name ∷ names) = AllByRecursion (λ (other : DirName). other ≡ name → ⊥) names × Differ names

differ-if : (p : DirName → Bool) (name : DirName) (names : List DirName) → AllByRecursion (λ (other : DirName). other ≡ name → ⊥) names → Differ (filter p names)
    → (b : Bool) → Differ (cond b (name ∷ filter p names) (filter p names))
differ-if p name names apart rest true = (
  all-filter (λ (other : DirName). other ≡ name → ⊥) p names
      (all-more (λ (other : DirName). other ≡ name → ⊥) (λ (other : DirName). p other ≡ true → other ≡ name → ⊥) (λ other is pass. is) names apart),
  rest,
)
differ-if p name names apart rest false = rest

differ-filter : (p : DirName → Bool) (names : List DirName) → Differ names → Differ (filter p names)
differ-filter p [] differ = tt
differ-filter p (name ∷ names) differ = differ-if p name names differ.0 (differ-filter p names differ.1) (p name)

range-differ : (k : JobKind) (low high : ℕ) → Differ (range_names k low high)
range-differ kind.Minor low high = (((λ e. true≢false (ap has_deletes e)), tt), (tt, tt))
range-differ kind.Major low high = (tt, tt)

range-compacted : (k : JobKind) (low high : ℕ) (name : DirName) → IsIn name (range_names k low high) → is_compacted name ≡ true
range-compacted kind.Minor low high name (inl e) = sym (ap is_compacted e)
range-compacted kind.Minor low high name (inr (inl e)) = sym (ap is_compacted e)
range-compacted kind.Minor low high name (inr (inr at)) = absurd at
range-compacted kind.Major low high name (inl e) = sym (ap is_compacted e)
range-compacted kind.Major low high name (inr at) = absurd at

-- ---- renames

module _ (number : ℕ) (is : IsNumber number) (job : Job) where
  abbrev final_dir : DirName → DirAt
  final_dir name = dir_of job (text_of name)

  abbrev staged_dir : DirName → DirAt
  staged_dir name = dir_of job (staged_text number name)

  -- what the files are behind the renames of these
  pub record IsMoved (names : List DirName) (before now : Tree) : Type 0 where
    pub comes : (name : DirName) → IsIn name names → (place : Place) → is_in (final_dir name) place ≡ true
        → finmap.get now place ≡ finmap.get before (place_named place (staged_text number name))
    pub goes : (name : DirName) → IsIn name names → (place : Place) → is_in (staged_dir name) place ≡ true → finmap.get now place ≡ None
    pub stays : (place : Place) → ((name : DirName) → IsIn name names → is_in (final_dir name) place ≡ false)
        → ((name : DirName) → IsIn name names → is_in (staged_dir name) place ≡ false) → finmap.get now place ≡ finmap.get before place

  -- a place of one directory isn't in another
  pub not-in : (text : List ℕ) (place : Place) → (place.dir ≡ text → ⊥) → is_in (dir_of job text) place ≡ false
  not-in text place apart = false_from_ne_true (is_in (dir_of job text) place) (λ e. apart (in-parts job text place e).1.1)

  pub dir-of : (text : List ℕ) (place : Place) → is_in (dir_of job text) place ≡ true → place.dir ≡ text
  dir-of text place e = (in-parts job text place e).1.1

  module _ (name : DirName) (before now : Store) (free : IsFree (final_dir name) before.tree) (renamed : IsRenamed (staged_dir name) (text_of name) before now) where
    one-at : (place : Place) → finmap.get now.tree place ≡ renamed_get (staged_dir name) (text_of name) before.tree place
    one-at place = renamed.moved free place

    one-comes : (place : Place) → is_in (final_dir name) place ≡ true → finmap.get now.tree place ≡ finmap.get before.tree (place_named place (staged_text number name))
    one-comes place e =
        one-at place
        ∙ ap (λ b. cond b (finmap.get before.tree (place_named place (staged_text number name))) (cond (is_in (staged_dir name) place) None (finmap.get before.tree place))) e

    one-behind : (place : Place) → is_in (final_dir name) place ≡ false → finmap.get now.tree place ≡ cond (is_in (staged_dir name) place) None (finmap.get before.tree place)
    one-behind place e =
        one-at place
        ∙ ap (λ b. cond b (finmap.get before.tree (place_named place (staged_text number name))) (cond (is_in (staged_dir name) place) None (finmap.get before.tree place))) e

    one-goes : (place : Place) → is_in (final_dir name) place ≡ false → is_in (staged_dir name) place ≡ true → finmap.get now.tree place ≡ None
    one-goes place e staged = one-behind place e ∙ ap (λ b. cond b None (finmap.get before.tree place)) staged

    one-stays : (place : Place) → is_in (final_dir name) place ≡ false → is_in (staged_dir name) place ≡ false → finmap.get now.tree place ≡ finmap.get before.tree place
    one-stays place e staged = one-behind place e ∙ ap (λ b. cond b None (finmap.get before.tree place)) staged

  -- one directory more was renamed before these
  module _ (first : DirName) (names : List DirName) (before middle : Store) (now : Tree) (free : IsFree (final_dir first) before.tree)
      (renamed : IsRenamed (staged_dir first) (text_of first) before middle) (first_made : IsMadeName first)
      (rest_made : (name : DirName) → IsIn name names → IsMadeName name) (other : (name : DirName) → IsIn name names → name ≡ first → ⊥) where
    others-final : (name : DirName) → IsIn name names → (place : Place) → is_in (final_dir name) place ≡ true → is_in (final_dir first) place ≡ false
    others-final name among place e =
        not-in (text_of first) place
        (λ same. other name among (final-same number is name first (rest_made name among) first_made (sym (dir-of (text_of name) place e) ∙ same)))

    others-staged : (name : DirName) → IsIn name names → (place : Place) → is_in (final_dir name) place ≡ true → is_in (staged_dir first) place ≡ false
    others-staged name among place e =
        not-in (staged_text number first) place (λ same. staged-final number is first name first_made (rest_made name among) (sym same ∙ dir-of (text_of name) place e))

    own-final : (place : Place) → is_in (final_dir first) place ≡ true → (name : DirName) → IsIn name names → is_in (final_dir name) place ≡ false
    own-final place e name among =
        not-in (text_of name) place
        (λ same. other name among (final-same number is name first (rest_made name among) first_made (sym same ∙ dir-of (text_of first) place e)))

    own-unstaged : (place : Place) → is_in (final_dir first) place ≡ true → (name : DirName) → IsIn name names → is_in (staged_dir name) place ≡ false
    own-unstaged place e name among =
        not-in (staged_text number name) place (λ same. staged-final number is name first (rest_made name among) first_made (sym same ∙ dir-of (text_of first) place e))

    staged-unfinal : (place : Place) → is_in (staged_dir first) place ≡ true → (name : DirName) → IsMadeName name → is_in (final_dir name) place ≡ false
    staged-unfinal place e name made =
        not-in (text_of name) place (λ same. staged-final number is first name first_made made (sym (dir-of (staged_text number first) place e) ∙ same))

    staged-others : (place : Place) → is_in (staged_dir first) place ≡ true → (name : DirName) → IsIn name names → is_in (staged_dir name) place ≡ false
    staged-others place e name among =
        not-in (staged_text number name) place
        (λ same. other name among (staged-same number is name first (rest_made name among) first_made (sym same ∙ dir-of (staged_text number first) place e)))

    still-free : (name : DirName) → IsIn name names → IsFree (final_dir name) before.tree → IsFree (final_dir name) middle.tree
    still-free name among bare place e =
        one-stays first before middle free renamed place (others-final name among place e) (others-staged name among place e) ∙ bare place e

    come : IsMoved names middle.tree now → (name : DirName) → IsIn name (first ∷ names) → (place : Place) → is_in (final_dir name) place ≡ true
        → finmap.get now place ≡ finmap.get before.tree (place_named place (staged_text number name))
    come rest name (inl same) place e =
        let its : is_in (final_dir first) place ≡ true = subst (λ (n : DirName). is_in (final_dir n) place ≡ true) (sym same) e in
        subst (λ (n : DirName). finmap.get now place ≡ finmap.get before.tree (place_named place (staged_text number n))) same
        (rest.stays place (own-final place its) (own-unstaged place its) ∙ one-comes first before middle free renamed place its)
    come rest name (inr among) place e =
        let staged : Place = place_named place (staged_text number name) in
        rest.comes name among place e
        ∙ one-stays first before middle free renamed staged
        (not-in (text_of first) staged (λ same. staged-final number is name first (rest_made name among) first_made same))
        (not-in (staged_text number first) staged (λ same. other name among (staged-same number is name first (rest_made name among) first_made same)))

    go : IsMoved names middle.tree now → (name : DirName) → IsIn name (first ∷ names) → (place : Place) → is_in (staged_dir name) place ≡ true → finmap.get now place ≡ None
    go rest name (inl same) place e =
        let its : is_in (staged_dir first) place ≡ true = subst (λ (n : DirName). is_in (staged_dir n) place ≡ true) (sym same) e in
        rest.stays place (λ one among. staged-unfinal place its one (rest_made one among)) (staged-others place its)
        ∙ one-goes first before middle free renamed place (staged-unfinal place its first first_made) its
    go rest name (inr among) place e = rest.goes name among place e

    moved-more : IsMoved names middle.tree now → IsMoved (first ∷ names) before.tree now
    moved-more rest = record {
      comes = come rest;
      goes = go rest;
      stays = λ place apart unstaged.
          rest.stays place (λ name among. apart name (inr among)) (λ name among. unstaged name (inr among))
          ∙ one-stays first before middle free renamed place (apart first (inl refl)) (unstaged first (inl refl));
    }

  pub renamed-all : (names : List DirName) → ((name : DirName) → IsIn name names → IsMadeName name) → Differ names → (before now : Store)
      → ((name : DirName) → IsIn name names → IsFree (final_dir name) before.tree) → AreRenamed number job names before now → IsMoved names before.tree now.tree
  renamed-all [] made differ before now free renamed = record {
    comes = λ name among place e. absurd among;
    goes = λ name among place e. absurd among;
    stays = λ place apart unstaged. ap (λ (files : Tree). finmap.get files place) (sym renamed);
  }
  renamed-all (first ∷ names) made differ before now free renamed =
      let middle : Store = renamed.0 in
      let rest_made : (name : DirName) → IsIn name names → IsMadeName name = λ name among. made name (inr among) in
      let other : (name : DirName) → IsIn name names → name ≡ first → ⊥ =
      λ name among. all-in (λ (one : DirName). one ≡ first → ⊥) names name differ.0 among in
      moved-more first names before middle now.tree (free first (inl refl)) renamed.1 (made first (inl refl)) rest_made other
      (renamed-all names rest_made differ.1 middle now
      (λ name among.
      still-free first names before middle now.tree (free first (inl refl)) renamed.1 (made first (inl refl)) rest_made other name among (free name (inr among)))
      renamed.2)

-- ---- the job

pub any-false : {A : Type 0} (p : A → Bool) (x : A) (xs : List A) → list_any p xs ≡ false → IsIn x xs → p x ≡ false
any-false p x xs none at = false_from_ne_true (p x) (λ e. true≢false (sym (any-in p x xs at e) ∙ none))

pub publishing-tables : (state : State) (number : ℕ) (job : Job) → (after state (publishing state number job)).tables ≡ state.tables
unfolding acted
publishing-tables state number job = refl

module _ (state : State) (number : ℕ) (job : Job) (work : IsAtWork state number job) (few : state.entries + 1 < write_end) (sound : IsSoundBook state) where
  abbrev pub low : ℕ
  low = (pieces_for state job).low

  abbrev pub high : ℕ
  high = (pieces_for state job).high

  abbrev pub mark : ℕ
  mark = length state.transactions + 1

  abbrev pub ranges : List DirName
  ranges = range_names job.kind low high

  abbrev pub writes : List Written
  writes = work.table.writes

  pub its-fits : PublishedFits state low high mark job
  its-fits = record {
    working = work.working;
    live = ap is_live_one work.table_is ∙ work.live;
    some = work.some;
    low_is = refl;
    high_is = refl;
    mark_is = refl;
  }

  pub fitting : Fits profile state (publishing state number job)
  fitting = subst (λ (o : Option Job). IsSomeAnd o (PublishedFits state low high mark)) (sym work.is) its-fits

  named : AllHaveNames state
  named = all-named state (omega (arith, few)) sound

  behind : AllHaveNames (after state (publishing state number job))
  behind = all-named (after state (publishing state number job)) few (books-go-on profile state (publishing state number job) fitting sound)

  pub is-number : IsNumber number
  is-number =
      let there = number-there state.jobs number job work.is in
      let last = there.1 in
      let most = sound.few_jobs in
      (there.0, omega (arith, last, most, few))

  to : IsToPublish state number low high job
  to = to-publish state number low high mark job sound.jobs work.is its-fits

  its-range : IsSoundRange state job.table job.partition low high mark
  its-range = range-is-sound state number low high mark job sound.jobs work.is its-fits

  pub made-name : (name : DirName) → IsIn name ranges → IsMadeName name
  made-name name at = record {
    named = range-name job.kind (Some (low, high, mark)) name (named-range state (omega (arith, few)) sound job (Some (low, high, mark)) its-range) at;
    compacted = range-compacted job.kind low high name at;
  }

  -- its directories have no file yet
  module _ (files : Tree) (standing : Standing state files) (name : DirName) (at : IsIn name ranges) (place : Place) (within : is_in (dir_of job (text_of name)) place ≡ true) where
    parts : (place.table.0 ≡ job.table) × ((place.partition ≡ job.partition) × (place.dir ≡ text_of name))
    parts = in-parts job (text_of name) place within

    live-here : is_live_at state place ≡ true
    live-here = ap (λ n. is_live_table (numbered state.tables n)) parts.0 ∙ ap is_live_table work.table_is ∙ work.live

    unnamed : (table : Table) → IsIn name (names_in table.writes (jobs_at state place)) → ⊥
    unnamed table among = elim (in-either name (flat_map write_names table.writes) (flat_map job_names (jobs_at state place)) among) [
      | inl own ↦ let of = from-flat write_names name table.writes own in not-own of.0 of.2
      | inr made ↦
          let of = from-flat job_names name (jobs_at state place) made in
          let kept = from-filter (is_job_of place.table.0 place.partition) of.0 state.jobs of.1 in
          let n = numbered-at state.jobs of.0 kept.0 in
          let there : is_job_of job.table job.partition of.0 ≡ true =
          subst (λ t. is_job_of t job.partition of.0 ≡ true) parts.0 (subst (λ p. is_job_of place.table.0 p of.0 ≡ true) parts.1.0 kept.1) in
          (to.new name at).apart n.0 of.0 n.1 there of.2
    ]
      where
        not-own : (w : Written) → IsIn name (write_names w) → ⊥
        not-own w (inl e) = true≢false (sym (made-name name at).compacted ∙ sym (ap is_compacted e))
        not-own w (inr (inl e)) = true≢false (sym (made-name name at).compacted ∙ sym (ap is_compacted e))
        not-own w (inr (inr none)) = none

    new-here : IsNewName state place name
    new-here = record {
      named = (made-name name at).named;
      compacted = (made-name name at).compacted;
      dir = parts.1.1;
      new = λ table here among. unnamed table among;
    }

    pub free-here : finmap.get files place ≡ None
    free-here = new-free state files place name named standing live-here new-here

  -- what it has made of them
  abbrev pub its_finals : List DirName
  its_finals = finals state job writes

  pub final-made : (name : DirName) → IsIn name its_finals → IsMadeName name
  final-made name at = made-name name (from-filter (is_made writes job.partition) name ranges at).0

  pub finals-differ : Differ its_finals
  finals-differ = differ-filter (is_made writes job.partition) ranges (range-differ job.kind low high)

  -- the files without those of its final directories
  abbrev pub within_finals : Place → Bool
  within_finals place = list_any (λ (name : DirName). is_in (dir_of job (text_of name)) place) ranges

  abbrev pub bare_files : Tree → Tree
  bare_files files = finmap.retain_keys files (λ place. not (within_finals place))

  bare-is : (files : Tree) (place : Place) → finmap.get (bare_files files) place ≡ cond (not (within_finals place)) (finmap.get files place) None
  bare-is files place = finmap.get-retain_keys files (λ p. not (within_finals p)) place (alike (λ p. not (within_finals p)) place)

  bare-within : (files : Tree) (place : Place) → within_finals place ≡ true → finmap.get (bare_files files) place ≡ None
  bare-within files place e = bare-is files place ∙ ap (λ b. cond (not b) (finmap.get files place) None) e

  bare-outside : (files : Tree) (place : Place) → within_finals place ≡ false → finmap.get (bare_files files) place ≡ finmap.get files place
  bare-outside files place e = bare-is files place ∙ ap (λ b. cond (not b) (finmap.get files place) None) e

  pub asked-within : (place : Place) → within_finals place ≡ true → AsksAt (publishing state number job) state place
  asked-within place e =
      let there = in-any (λ (name : DirName). is_in (dir_of job (text_of name)) place) ranges e in
      let parts = in-parts job (text_of there.0) place there.2 in
      record { job = job; is = work.is; here = job-here job place parts.0 parts.1.0; name = there.0; among = there.1; dir = parts.1.1 }

  pub but-finals : (files : Tree) → AreButFor (AsksAt (publishing state number job) state) (bare_files files) files
  but-finals files place = elim (either (within_finals place)) [
    | inl e ↦ inr (asked-within place e)
    | inr e ↦ inl (sym (bare-outside files place e))
  ]

  -- a place of one of its staged directories
  staged-at : (name : DirName) → IsIn name its_finals → (place : Place) → is_in (dir_of job (staged_text number name)) place ≡ true → IsStagedAt state place
  staged-at name at place e =
      let parts = in-parts job (staged_text number name) place e in
      record {
        number = number;
        job = job;
        is = work.is;
        here = job-here job place parts.0 parts.1.0;
        picked = (and_parts (is_some job.watermark) (is_none job.published && (not job.is_empty && is_none job.failure)) work.working).0;
        name = text_of name;
        named = staged-as number name is-number (final-made name at);
        dir = parts.1.1;
      }

  -- one of its names that isn't made has no file, also behind the entry
  pub none-made : (name : DirName) → IsIn name ranges → is_made writes job.partition name ≡ false → (place : Place) → is_in (dir_of job (text_of name)) place ≡ true
      → made_recs (after state (publishing state number job)) place ≡ None
  none-made name at unmade place within =
      let parts = in-parts job (text_of name) place within in
      let here : numbered (after state (publishing state number job)).tables place.table.0 ≡ Some work.table =
      ap (λ ts. numbered ts place.table.0) (publishing-tables state number job) ∙ ap (numbered state.tables) parts.0 ∙ work.table_is in
      let has = all-numbered (HasNames (after state (publishing state number job))) (after state (publishing state number job)).tables place.table.0 work.table here behind.tables in
      unmade-recs (after state (publishing state number job)) place work.table here has name (made-name name at).named (made-name name at).compacted parts.1.1
      (ap (λ p. is_made writes p name) parts.1.0 ∙ unmade)

  -- ---- behind some of the renames

  module _ (names : List DirName) (among : (name : DirName) → IsIn name names → IsIn name its_finals) (before now : Tree) (standing : Standing state before)
      (moved : IsMoved number is-number job names before now) where
    settled : (place : Place) → within_finals place ≡ false → (b : Bool) → list_any (λ (name : DirName). is_in (dir_of job (staged_text number name)) place) names ≡ b
        → (finmap.get (bare_files now) place ≡ finmap.get before place) ⊎ MayTurn state place (finmap.get (bare_files now) place)
    settled place outside true e =
        let there = in-any (λ (name : DirName). is_in (dir_of job (staged_text number name)) place) names e in
        let gone : finmap.get (bare_files now) place ≡ None = bare-outside now place outside ∙ moved.goes there.0 there.1 place there.2 in
        inr (gone-turns state place (finmap.get (bare_files now) place) gone
        (inl (puts-unmade state place named (inr (staged-at there.0 (among there.0 there.1) place there.2))).recs))
    settled place outside false e =
        inl (bare-outside now place outside
        ∙ moved.stays place
        (λ name at. any-false (λ (n : DirName). is_in (dir_of job (text_of n)) place) name ranges outside (from-filter (is_made writes job.partition) name ranges (among name at)).0)
        (λ name at. any-false (λ (n : DirName). is_in (dir_of job (staged_text number n)) place) name names e at))

    -- but for its final directories all stands
    pub bare-stands : Standing state (bare_files now)
    bare-stands =
        changes-stand state before (bare_files now) named
        (λ place. elim (either (within_finals place)) [
          | inl e ↦
              let there = in-any (λ (name : DirName). is_in (dir_of job (text_of name)) place) ranges e in
              inl (bare-within now place e ∙ sym (free-here before standing there.0 there.1 place there.2))
          | inr e ↦ settled place e (list_any (λ (name : DirName). is_in (dir_of job (staged_text number name)) place) names) refl
        ]) standing

  -- ---- behind all of them its directories are filed

  module _ (before now : Tree) (standing : Standing state before) (staged : AreStaged state number job its_finals before)
      (moved : IsMoved number is-number job its_finals before now) where
    filed-made : (name : DirName) → IsIn name its_finals → (place : Place) → is_in (dir_of job (text_of name)) place ≡ true
        → Holds (made_recs (after state (publishing state number job)) place) place.bucket (finmap.get now place)
    filed-made name at place within =
        subst (Holds (made_recs (after state (publishing state number job)) place) place.bucket) (sym (moved.comes name at place within)) (staged name place at within)

    -- one that isn't made has nothing
    filed-none : (name : DirName) → IsIn name ranges → is_made writes job.partition name ≡ false → (place : Place) → is_in (dir_of job (text_of name)) place ≡ true
        → Holds (made_recs (after state (publishing state number job)) place) place.bucket (finmap.get now place)
    filed-none name at unmade place within =
        let dir_is : place.dir ≡ text_of name = (in-parts job (text_of name) place within).1.1 in
        let apart : (one : DirName) → IsIn one its_finals → one ≡ name → ⊥ =
        λ one among same. true≢false (sym (from-filter (is_made writes job.partition) one ranges among).1 ∙ ap (is_made writes job.partition) same ∙ unmade) in
        let bare : finmap.get now place ≡ None =
        moved.stays place
        (λ one among. not-in number is-number job (text_of one) place
        (λ same. apart one among (final-same number is-number one name (final-made one among) (made-name name at) (sym same ∙ dir_is))))
        (λ one among. not-in number is-number job (staged_text number one) place
        (λ same. staged-final number is-number one name (final-made one among) (made-name name at) (sym same ∙ dir_is)))
        ∙ free-here before standing name at place within in
        subst (λ o. Holds o place.bucket (finmap.get now place)) (sym (none-made name at unmade place within)) bare

    filed-by : (name : DirName) → IsIn name ranges → (place : Place) → is_in (dir_of job (text_of name)) place ≡ true
        → (is_made writes job.partition name ≡ true) ⊎ (is_made writes job.partition name ≡ false)
        → Holds (made_recs (after state (publishing state number job)) place) place.bucket (finmap.get now place)
    filed-by name at place within (inl made) = filed-made name (in-filter (is_made writes job.partition) name ranges at made) place within
    filed-by name at place within (inr unmade) = filed-none name at unmade place within

    filed-at : (place : Place) → IsFinalOf state number low high place
        → Holds (made_recs (after state (publishing state number job)) place) place.bucket (finmap.get now place)
    filed-at place asks =
        let same : asks.job ≡ job = same_one (numbered state.jobs number) asks.job job asks.is work.is in
        let at : IsIn asks.name ranges = subst (λ (j : Job). IsIn asks.name (range_names j.kind low high)) same asks.among in
        let there = job-there job place (subst (λ (j : Job). is_job_of place.table.0 place.partition j ≡ true) same asks.here) in
        filed-by asks.name at place (in-from job (text_of asks.name) place there.0 there.1 asks.dir) (either (is_made writes job.partition asks.name))

    pub all-filed : IsFiledFor (publishing state number job) state now
    all-filed = record { at = λ place asks. filed-at place asks; encoded = tt }

  pub all-ready : (before now : Store) → Standing state before.tree → AreStaged state number job its_finals before.tree → AreRenamed number job its_finals before now
      → IsReady state number job now.tree
  all-ready before now standing staged renamed =
      let free : (name : DirName) → IsIn name its_finals → IsFree (dir_of job (text_of name)) before.tree =
      λ name at place within. free-here before.tree standing name (from-filter (is_made writes job.partition) name ranges at).0 place within in
      let moved = renamed-all number is-number job its_finals final-made finals-differ before now free renamed in
      record {
        before = bare_files now.tree;
        standing = bare-stands its_finals (λ name at. at) before.tree now.tree standing moved;
        but = but-finals now.tree;
        filed = all-filed before.tree now.tree standing staged moved;
      }

pub renames-stand : RenamesStand
renames-stand state number job before now work few sound staged standing renamed = all-ready state number job work few sound before now standing staged renamed
