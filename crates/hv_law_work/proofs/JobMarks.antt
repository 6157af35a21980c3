-- What the marks of jobs say of files stands behind each item that a trail gains.
use Rattle.std.proofs.Common.{◌≡◌, ◌⊎◌, inl, inr, ℕ, ◌+◌, ◌<◌, Bool, true, false, true≢false, cond, is_some, if◌then◌else◌, Option, Some, None, List, [], ◌∷◌, ◌++◌, length, map, refl, sym, ap, ◌∙◌, subst, arith, eq-eqb}
use Rattle.std.specs.Prelude.{◌&&◌, ◌||◌, not, is_none}
use Rattle.std.specs.List.{AllByRecursion}
use Rattle.std.specs.Ordering.{eq_by_cmp}
use Rattle.std.specs.FinMap as tree
use Rattle.std.proofs.lemmas.Bool.{and_parts}
use Rattle.std.proofs.lemmas.List.Elements.{All-contains, All-from_recursion, Contains-push_cases}
use Rattle.hv_base.specs.declared.ids.JobId.{JobId}
use Rattle.hv_base.specs.declared.ids.Limits.{Limits}
use Rattle.hv_shelf.specs.declared.place.DirAt.{DirAt}
use Rattle.hv_shelf.specs.declared.place.Place.{Place}
use Rattle.hv_shelf.specs.Places.{place_cmp, place_total, is_in}
use Rattle.hv_shelf.specs.Disk.{Tree, IsFree}
use Rattle.hv_rowfile.specs.declared.record.Rec.{Rec}
use Rattle.hv_dirs.specs.declared.names.DirName.{DirName}
use Rattle.hv_dirs.specs.declared.names.DirName.TheVariants as dir_name
use Rattle.hv_dirs.specs.Names.{IsStagedAs, is_compacted, text_of, write_end}
use Rattle.hv_dirs.proofs.NameLemmas as texts
use Rattle.hv_history.specs.declared.entry.Entry.{Entry}
use Rattle.hv_history.specs.declared.entry.JobKind.{JobKind}
use Rattle.hv_history.specs.declared.entry.JobKind.TheVariants as kind
use Rattle.hv_history.specs.State.{State, Job, numbered, changed, published_at, acted, after, state_of}
use Rattle.hv_history.specs.Legal.{is_working, Fits}
use Rattle.hv_history.specs.Jobs.{is_job_of, is_live_one, pieces_for}
use Rattle.hv_stands.proofs.Behind.{entries-are}
use Rattle.hv_stands.proofs.Soundness.{all-numbered}
use Rattle.hv_stands.proofs.Numbers.{none_is, same_one, either, changed-here}
use Rattle.hv_stands.proofs.Places.{same-place, place-tied}
use Rattle.hv_jobs.specs.Covers.{covers, covers_by, range_names}
use Rattle.hv_law_visible.specs.Members.{IsIn}
use Rattle.hv_law_visible.proofs.MemberLemmas.{from-filter}
use Rattle.hv_law_marks.specs.hv_law_filed.specs.hv_law_made.specs.Made.{is_made}
use Rattle.hv_law_marks.specs.hv_law_filed.specs.hv_law_made.specs.Named.{HasNames, AllHaveNames}
use Rattle.hv_law_marks.specs.hv_law_filed.specs.hv_law_made.specs.Laws.{IsUnmade, Holds}
use Rattle.hv_law_marks.specs.hv_law_filed.specs.hv_law_made.specs.Standing.{IsEncodingOf, MayHold, is_live_table, is_live_at, Standing}
use Rattle.hv_law_marks.specs.hv_law_filed.specs.hv_law_made.specs.Entries.{IsSoundBook, publishing, finals, dir_of, staged_text, IsAtWork}
use Rattle.hv_law_marks.specs.hv_law_filed.specs.hv_law_made.specs.Opening.{is_in_any, SomeGo, AllGo}
use Rattle.hv_law_marks.specs.hv_law_filed.specs.hv_law_made.proofs.BookLemmas.{books-are-sound, books-go-on}
use Rattle.hv_law_marks.specs.hv_law_filed.specs.hv_law_made.proofs.EntryChanges.{entries-change}
use Rattle.hv_law_marks.specs.hv_law_filed.specs.hv_law_made.proofs.OpeningStands.{published-over}
use Rattle.hv_law_marks.specs.hv_law_filed.specs.hv_law_made.proofs.UnmadeLemmas.{IsOwnName, own-name}
use Rattle.hv_law_marks.specs.hv_law_filed.specs.hv_law_made.proofs.NameBounds.{all-named}
use Rattle.hv_law_marks.specs.hv_law_filed.specs.hv_law_made.proofs.RenameStands.{IsMadeName, its-fits, fitting, final-same}
use Rattle.hv_trail.specs.declared.trail.Reader.{Reader}
use Rattle.hv_trail.specs.declared.trail.Mark.{Mark}
use Rattle.hv_trail.specs.declared.trail.Mark.TheVariants.{Wrote, Went, Broke}
use Rattle.hv_trail.specs.declared.trail.TrailItem.{TrailItem}
use Rattle.hv_trail.specs.declared.trail.TrailItem.TheVariants.{Noted, Marked}
use Rattle.hv_trail.specs.Trail.{is_reader, book_of, state_at, HasWritten, HasGone, broken}
use Rattle.hv_trail.proofs.LastingLaws.{state-append}
use Rattle.hv_trail.proofs.MarkLaws.{whole-book}
use Rattle.hv_law_marks.specs.Marked.{IsOwnPlace}
use Rattle.hv_law_marks.proofs.Marks.{written-cases, written-before, entry-unwritten, fault-unwritten, same-written, entries-unwritten, unbroken-was}
use Rattle.hv_law_work.specs.Work.{by_job, staged_at, wanted, IsStagedFile}
use Rattle.hv_law_work.specs.Marks.{IsCovered, IsLost, IsLeft, MayGoNow, IsStagedWell, WasPicked, StaysGone, JobMarksStandIn, JobMarksStand}
use Rattle.hv_law_work.specs.Laws.{IsShort, StillWants, IsJustPicked, IsOfTxn, OpenedJobMarks, NotedJobMarks, OwnJobMarks, PutJobMarks, BrokenJobMarks, UnreadJobMarks, WentJobMarks, TornJobMarks, PublishedJobMarks}
use Rattle.hv_law_work.proofs.Lasting.{picked-stays, left-stays, dropped-stays}
use Rattle.hv_law_work.proofs.NewDirs.{uncovered}
use Rattle.hv_law_work.proofs.OwnPlaces.{own-not-left}
use Rattle.hv_law_work.proofs.Places.{same-or-other, within-parts, own-not-staged, staged-at-none, its-made, staged-named}
use Rattle.hv_law_work.proofs.Renames.{renamed-others}
use Rattle.hv_law_work.proofs.Stays.{wants-stay, its-wants}

-- ---- marks of a longer trail

went-cases : (trail : List TrailItem) (item : TrailItem) (dir : DirAt) → HasGone (trail ++ item ∷ []) dir → HasGone trail dir ⊎ (item ≡ Marked (Went dir))
went-cases trail item dir has = Contains-push_cases trail item (Marked (Went dir)) has

went-before : (trail : List TrailItem) (item : TrailItem) (dir : DirAt) → (item ≡ Marked (Went dir) → ⊥) → HasGone (trail ++ item ∷ []) dir → HasGone trail dir
went-before trail item dir other has = by (went-cases trail item dir has)
  where
    by : HasGone trail dir ⊎ (item ≡ Marked (Went dir)) → HasGone trail dir
    by (inl h) = h
    by (inr same) = absurd (other same)

entry-stays : (event : Entry) (dir : DirAt) → Noted event ≡ Marked (Went dir) → ⊥
entry-stays event dir e = cc

fault-stays : (who : Option Reader) (put : Bool) (count : ℕ) (dir : DirAt) → Marked (Broke who put count) ≡ Marked (Went dir) → ⊥
fault-stays who put count dir e = cc

put-stays : (by : Reader) (place : Place) (dir : DirAt) → Marked (Wrote by place) ≡ Marked (Went dir) → ⊥
put-stays by place dir e = cc

went-unwritten : (dir : DirAt) (by : Reader) (place : Place) → Marked (Went dir) ≡ Marked (Wrote by place) → ⊥
went-unwritten dir by place e = cc

-- a trail of entries alone has none
abbrev IsEntry : TrailItem → Type 0
IsEntry (Noted event) = Unit {0}
IsEntry (Marked mark) = ⊥

all-entries : (book : List Entry) → AllByRecursion IsEntry (map Noted book)
all-entries [] = tt
all-entries (event ∷ book) = (tt, all-entries book)

entries-ungone : (book : List Entry) (dir : DirAt) → HasGone (map Noted book) dir → ⊥
entries-ungone book dir has =
    All-contains IsEntry (map Noted book) (Marked (Went dir)) (All-from_recursion IsEntry (map Noted book) (all-entries book)) has

pub opened-job-marks : OpenedJobMarks
opened-job-marks book files none = record {
  each = λ number job work unbroken name bucket among.
      absurd (none number job (ap (λ (b : List Entry). numbered (state_of b).jobs number) (sym (whole-book book)) ∙ work.is) work.working);
  picked = λ number place has. absurd (entries-unwritten book (by_job number) place has);
  gone = λ dir has. absurd (entries-ungone book dir has);
}

-- ---- where a job's files are as they were

still-well : (trail : List TrailItem) (item : TrailItem) (number : ℕ) (place : Place) (want : Option (Bool × List Rec)) (before now : Option (List ℕ))
    → (item ≡ Marked (Wrote (by_job number) place) → ⊥) → now ≡ before
    → IsStagedWell trail number place want before → IsStagedWell (trail ++ item ∷ []) number place want now
still-well trail item number place want before now other same (inl holds) = inl (subst (Holds want place.bucket) (sym same) holds)
still-well trail item number place want before now other same (inr none) =
    inr ((λ has. none.0 (written-before trail item (by_job number) place other has)), same ∙ none.1)

-- a mark leaves the state
on-marks : (trail : List TrailItem) (mark : Mark) (files : Tree) → JobMarksStandIn (state_at trail) (trail ++ Marked mark ∷ []) files
    → JobMarksStand (trail ++ Marked mark ∷ []) files
on-marks trail mark files marks =
    subst (λ (state : State). JobMarksStandIn state (trail ++ Marked mark ∷ []) files) (sym (state-append trail (Marked mark ∷ []))) marks

pub unread-job-marks : UnreadJobMarks
unread-job-marks trail files who put count marks =
    on-marks trail (Broke who put count) files (record {
      each = λ number job work unbroken name bucket among.
          still-well trail (Marked (Broke who put count)) number (staged_at number job name bucket) (wanted job work.table name bucket) _ _
          (fault-unwritten who put count (by_job number) (staged_at number job name bucket)) refl
          (marks.each number job work (unbroken-was trail ((Marked (Broke who put count)) ∷ []) (by_job number) unbroken) name bucket among);
      picked = λ number place has. marks.picked number place (written-before trail (Marked (Broke who put count)) (by_job number) place (fault-unwritten who put count (by_job number) place) has);
      gone = λ dir has. marks.gone dir (went-before trail (Marked (Broke who put count)) dir (fault-stays who put count dir) has);
    })

-- ---- a book that fits

module _ (limits : Limits) (trail : List TrailItem) (short : IsShort limits trail) where
  abbrev state : State
  state = state_at trail

  few : state.entries + 1 < write_end
  few = omega (arith, short.few, entries-are (book_of trail))

  near : state.entries < write_end
  near = omega (arith, short.few, entries-are (book_of trail))

  sound : IsSoundBook state
  sound = books-are-sound limits (book_of trail) short.fit

  named : AllHaveNames state
  named = all-named state near sound

-- ---- two directories that stage are one only where job and name are

stage-same : (n m : ℕ) (a b : List ℕ) → IsStagedAs n a → IsStagedAs m b
    → text_of (dir_name.Staged (record { 0 = n }) a) ≡ text_of (dir_name.Staged (record { 0 = m }) b) → (n ≡ m) × (a ≡ b)
stage-same n m a b is_a is_b e =
    let one : dir_name.Staged (record { 0 = n }) a ≡ dir_name.Staged (record { 0 = m }) b =
    texts.text-same (dir_name.Staged (record { 0 = n }) a) (dir_name.Staged (record { 0 = m }) b) is_a is_b e in
    let ids : ◌≡◌ {A = JobId} (record { 0 = n }) (record { 0 = m }) = cc in
    let names : a ≡ b = cc in
    (ap (λ (id : JobId). id.0) ids, names)

-- no job covers one
none-staged : (k : JobKind) (o : Option (ℕ × ℕ × ℕ)) (id : JobId) (text : List ℕ) → covers_by k o (dir_name.Staged id text) ≡ false
none-staged k None id text = refl
none-staged kind.Minor (Some range) id text = refl
none-staged kind.Major (Some range) id text = refl

module _ (limits : Limits) (trail : List TrailItem) (short : IsShort limits trail) (number : ℕ) (job : Job) (work : IsAtWork (state_at trail) number job)
    (name : DirName) (bucket : ℕ) (among : IsIn name (finals (state_at trail) job work.table.writes)) where
  abbrev its_place : Place
  its_place = staged_at number job name bucket

  its-staged : IsStagedAs number (text_of name)
  its-staged = staged-named (state_at trail) (few limits trail short) (sound limits trail short) number job work name among

  -- it is no own place
  pub not-own : (txn : ℕ) (place : Place) → IsOwnPlace (state_at trail).tables txn place → its_place ≡ place → ⊥
  not-own txn place own same =
      own-not-staged own.own.deletes own.write own.own.statement number (text_of name) (sym own.own.dir ∙ ap (λ (p : Place). p.dir) (sym same))

  -- of a staged file it is the place only where that is the file of its bucket
  pub is-same : (n : ℕ) (place : Place) (bytes : List ℕ) (is : IsStagedFile (state_at trail) n place bytes) → its_place ≡ place
      → (number ≡ n) × ((name ≡ is.name) × (bucket ≡ place.bucket))
  is-same n place bytes is same =
      let other : IsStagedAs n (text_of is.name) =
      staged-named (state_at trail) (few limits trail short) (sound limits trail short) n is.file.job is.file.work is.name is.file.among in
      let both = stage-same number n (text_of name) (text_of is.name) its-staged other (ap (λ (p : Place). p.dir) (same ∙ is.place_is)) in (
        both.0,
        (
          final-same number its-staged.0 name is.name (its-made (state_at trail) (few limits trail short) (sound limits trail short) number job work name among)
              (its-made (state_at trail) (few limits trail short) (sound limits trail short) n is.file.job is.file.work is.name is.file.among) both.1,
          ap (λ (p : Place). p.bucket) same,
        ),
      )

  -- no directory that may go is the one that stages it
  pub not-gone : (dir : DirAt) → MayGoNow (state_at trail) dir → is_in dir its_place ≡ true → ⊥
  not-gone dir may within = by may
    where
      parts : (its_place.table.0 ≡ dir.table.0) × ((its_place.partition ≡ dir.partition) × (its_place.dir ≡ dir.dir))
      parts = within-parts dir its_place within

      not-covered : IsCovered (state_at trail) dir → ⊥
      not-covered covered =
          let one : dir_name.Staged (record { 0 = number }) (text_of name) ≡ covered.name =
          texts.text-same (dir_name.Staged (record { 0 = number }) (text_of name)) covered.name its-staged covered.named (parts.1.1 ∙ covered.text) in
          true≢false
          (sym covered.covered ∙ ap (covers covered.job) (sym one)
          ∙ none-staged covered.job.kind covered.job.published (record { 0 = number }) (text_of name))

      by : MayGoNow (state_at trail) dir → ⊥
      by (inl freed) = not-covered freed.covered
      by (inr (inl lost)) = own-not-staged lost.deletes lost.write lost.statement number (text_of name) (sym lost.text ∙ sym parts.1.1)
      by (inr (inr (inl idle))) =
          let both = stage-same number idle.stage.number (text_of name) idle.stage.name its-staged idle.stage.named (parts.1.1 ∙ idle.stage.text) in
          idle.idle job (ap (numbered (state_at trail).jobs) (sym both.0) ∙ work.is) work.working
          (ap is_live_one work.table_is ∙ work.live)
      by (inr (inr (inr dead))) =
          true≢false
          (sym work.live ∙ sym (ap is_live_table work.table_is) ∙ ap (λ n. is_live_table (numbered (state_at trail).tables n)) parts.0 ∙ dead.dropped)

-- ---- a put of a transaction

of-no-job : (item : TrailItem) (txn number : ℕ) (place : Place) → IsOfTxn txn item → item ≡ Marked (Wrote (by_job number) place) → ⊥
of-no-job item txn number place of e = subst (IsOfTxn txn) e of

of-no-dir : (item : TrailItem) (txn : ℕ) (dir : DirAt) → IsOfTxn txn item → item ≡ Marked (Went dir) → ⊥
of-no-dir item txn dir of e = subst (IsOfTxn txn) e of

-- where files are as they were but for a place that isn't in a directory that went
still-gone : (state : State) (before now : Tree) (place : Place) (dir : DirAt) → (IsLeft state dir → is_in dir place ≡ true → ⊥)
    → ((other : Place) → (other ≡ place → ⊥) → tree.get now other ≡ tree.get before other) → StaysGone state before dir → StaysGone state now dir
still-gone state before now place dir outside others (inl stage) = inl stage
still-gone state before now place dir outside others (inr (inl dropped)) = inr (inl dropped)
still-gone state before now place dir outside others (inr (inr left)) =
    inr (inr (
      left.0,
      λ other within.
          others other (λ same. outside left.0 (subst (λ (p : Place). is_in dir p ≡ true) same within)) ∙ left.1 other within,
    ))

pub own-job-marks : OwnJobMarks
own-job-marks limits trail before now txn place (Noted event) short own of unended others marks = absurd of
own-job-marks limits trail before now txn place (Marked mark) short own of unended others marks =
    on-marks trail mark now (record {
      each = λ number job work unbroken name bucket among.
          still-well trail (Marked mark) number (staged_at number job name bucket) (wanted job work.table name bucket) _ _
          (of-no-job (Marked mark) txn number (staged_at number job name bucket) of)
          (others (staged_at number job name bucket) (not-own limits trail short number job work name bucket among txn place own))
          (marks.each number job work (unbroken-was trail (Marked mark ∷ []) (by_job number) unbroken) name bucket among);
      picked = λ number other has.
          marks.picked number other (written-before trail (Marked mark) (by_job number) other (of-no-job (Marked mark) txn number other of) has);
      gone = λ dir has.
          still-gone (state_at trail) before now place dir
          (λ left within. own-not-left (state_at trail) (near limits trail short) (sound limits trail short) txn place own unended dir within left) others
          (marks.gone dir (went-before trail (Marked mark) dir (of-no-dir (Marked mark) txn dir of) has));
    })

-- ---- a file of a job

put-here : (files : Tree) (place : Place) (bytes : List ℕ) → tree.get (tree.insert files place bytes) place ≡ Some bytes
put-here files place bytes =
    tree.get-insert place_total files place bytes place ∙ ap (λ b. cond b (Some bytes) (tree.get files place)) (place-tied place)

put-others : (files : Tree) (place : Place) (bytes : List ℕ) (other : Place) → (other ≡ place → ⊥) → tree.get (tree.insert files place bytes) other ≡ tree.get files other
put-others files place bytes other apart =
    tree.get-insert place_total files place bytes other ∙ by (either (eq_by_cmp place_cmp other place))
  where
    by : (eq_by_cmp place_cmp other place ≡ true) ⊎ (eq_by_cmp place_cmp other place ≡ false)
        → cond (eq_by_cmp place_cmp other place) (Some bytes) (tree.get files other) ≡ tree.get files other
    by (inl same) = absurd (apart (same-place other place same))
    by (inr differ) = ap (λ b. cond b (Some bytes) (tree.get files other)) differ

same-job : (n m : ℕ) → by_job n ≡ by_job m → n ≡ m
same-job n m e = let ids : ◌≡◌ {A = JobId} (record { 0 = n }) (record { 0 = m }) = cc in ap (λ (id : JobId). id.0) ids

module _ (limits : Limits) (trail : List TrailItem) (short : IsShort limits trail) (number : ℕ) (place : Place) (bytes : List ℕ)
    (is : IsStagedFile (state_at trail) number place bytes) where
  -- a directory that went, and is left by everybody, isn't the one that stages it
  stage-not-left : (dir : DirAt) → IsLeft (state_at trail) dir → is_in dir place ≡ true → ⊥
  stage-not-left dir left within = not-left left
    where
      staged : IsStagedAs number (text_of is.name)
      staged = staged-named (state_at trail) (few limits trail short) (sound limits trail short) number is.file.job is.file.work is.name is.file.among

      parts : (place.table.0 ≡ dir.table.0) × ((place.partition ≡ dir.partition) × (place.dir ≡ dir.dir))
      parts = within-parts dir place within

      text : text_of (dir_name.Staged (record { 0 = number }) (text_of is.name)) ≡ dir.dir
      text = sym (ap (λ (p : Place). p.dir) is.place_is) ∙ parts.1.1

      not-left : IsLeft (state_at trail) dir → ⊥
      not-left (inl covered) =
          let one : dir_name.Staged (record { 0 = number }) (text_of is.name) ≡ covered.name =
          texts.text-same (dir_name.Staged (record { 0 = number }) (text_of is.name)) covered.name staged covered.named (text ∙ covered.text) in
          true≢false (sym covered.covered ∙ ap (covers covered.job) (sym one) ∙ none-staged covered.job.kind covered.job.published (record { 0 = number }) (text_of is.name))
      not-left (inr lost) = own-not-staged lost.deletes lost.write lost.statement number (text_of is.name) (sym lost.text ∙ sym text)

  was-picked : WasPicked (state_at trail) number
  was-picked = record {
    job = is.file.job;
    is = is.file.work.is;
    picked = (and_parts (is_some is.file.job.watermark) (is_none is.file.job.published && (not is.file.job.is_empty && is_none is.file.job.failure)) is.file.work.working).0;
  }

pub put-job-marks : PutJobMarks
put-job-marks limits trail files number place bytes short is marks =
    on-marks trail (Wrote (by_job number) place) (tree.insert files place bytes) (record {
      each = λ n job work unbroken name bucket among. each n job work unbroken name bucket among (same-or-other place (staged_at n job name bucket));
      picked = λ n other has. picked n other (written-cases trail (Marked (Wrote (by_job number) place)) (by_job n) other has);
      gone = λ dir has.
          still-gone (state_at trail) files (tree.insert files place bytes) place dir (stage-not-left limits trail short number place bytes is dir) (put-others files place bytes)
          (marks.gone dir (went-before trail (Marked (Wrote (by_job number) place)) dir (put-stays (by_job number) place dir) has));
    })
  where
    -- what is wanted there is the file
    holds : (n : ℕ) (job : Job) (work : IsAtWork (state_at trail) n job) (name : DirName) (bucket : ℕ)
        → IsIn name (finals (state_at trail) job work.table.writes) → staged_at n job name bucket ≡ place
        → Holds (wanted job work.table name bucket) bucket (tree.get (tree.insert files place bytes) (staged_at n job name bucket))
    holds n job work name bucket among same =
        let one = is-same limits trail short n job work name bucket among number place bytes is same in
        let mine : IsAtWork (state_at trail) number job = subst (λ (k : ℕ). IsAtWork (state_at trail) k job) one.0 work in
        let tables : mine.table ≡ work.table = same_one (numbered (state_at trail).tables job.table) mine.table work.table mine.table_is work.table_is in
        let wants : wanted job work.table name bucket ≡ Some (is.file.deletes, is.file.recs) =
        (λ i. wanted job (sym tables i) (one.1.0 i) (one.1.1 i)) ∙ its-wants (state_at trail) number job mine is.name place.bucket bytes is.file in
        subst (λ w. Holds w bucket (tree.get (tree.insert files place bytes) (staged_at n job name bucket))) (sym wants) (record {
          bytes = bytes;
          is = ap (tree.get (tree.insert files place bytes)) same ∙ put-here files place bytes;
          encodes = subst (λ b. IsEncodingOf is.file.deletes b is.file.recs bytes) (sym one.1.1) is.file.encodes;
        })

    each : (n : ℕ) (job : Job) (work : IsAtWork (state_at trail) n job) → broken (by_job n) (trail ++ Marked (Wrote (by_job number) place) ∷ []) ≡ None → (name : DirName) (bucket : ℕ)
        → IsIn name (finals (state_at trail) job work.table.writes)
        → (staged_at n job name bucket ≡ place) ⊎ (staged_at n job name bucket ≡ place → ⊥)
        → IsStagedWell (trail ++ Marked (Wrote (by_job number) place) ∷ []) n (staged_at n job name bucket) (wanted job work.table name bucket) (tree.get (tree.insert files place bytes) (staged_at n job name bucket))
    each n job work unbroken name bucket among (inl same) = inl (holds n job work name bucket among same)
    each n job work unbroken name bucket among (inr apart) =
        still-well trail (Marked (Wrote (by_job number) place)) n (staged_at n job name bucket) (wanted job work.table name bucket) _ _
        (λ e. apart (sym (same-written (by_job number) (by_job n) place (staged_at n job name bucket) e).1))
        (put-others files place bytes (staged_at n job name bucket) apart)
        (marks.each n job work (unbroken-was trail (Marked (Wrote (by_job number) place) ∷ []) (by_job n) unbroken) name bucket among)

    picked : (n : ℕ) (other : Place) → HasWritten trail (by_job n) other ⊎ (Marked (Wrote (by_job number) place) ≡ Marked (Wrote (by_job n) other)) → WasPicked (state_at trail) n
    picked n other (inl has) = marks.picked n other has
    picked n other (inr e) =
        subst (WasPicked (state_at trail)) (same-job number n (same-written (by_job number) (by_job n) place other e).0)
        (was-picked limits trail short number place bytes is)

-- a job for which a call failed is broken
broke-job : (trail : List TrailItem) (number : ℕ) (put : Bool) (count : ℕ) → broken (by_job number) (trail ++ Marked (Broke (Some (by_job number)) put count) ∷ []) ≡ None → ⊥
broke-job trail number put count none =
    none_is (broken (by_job number) ((Marked (Broke (Some (by_job number)) put count)) ∷ [])) (put, count) (rest-none trail none) (ap (λ (b : Bool). if b then Some (put, count) else None) (eq-eqb number number refl))
  where
    -- none behind means none in the rest
    rest-none : (items : List TrailItem) → broken (by_job number) (items ++ (Marked (Broke (Some (by_job number)) put count)) ∷ []) ≡ None → broken (by_job number) ((Marked (Broke (Some (by_job number)) put count)) ∷ []) ≡ None
    rest-none [] e = e
    rest-none (Noted event ∷ items) e = rest-none items e
    rest-none (Marked (Wrote by place) ∷ items) e = rest-none items e
    rest-none (Marked (Went dir) ∷ items) e = rest-none items e
    rest-none (Marked (Broke who p c) ∷ items) e = by (is_reader (by_job number) who) (rest-none items) e
      where
        by : (b : Bool)
            → (broken (by_job number) (items ++ (Marked (Broke (Some (by_job number)) put count)) ∷ []) ≡ None
            → broken (by_job number) ((Marked (Broke (Some (by_job number)) put count)) ∷ []) ≡ None)
            → (if b then Some (p, c) else broken (by_job number) (items ++ (Marked (Broke (Some (by_job number)) put count)) ∷ [])) ≡ None → broken (by_job number) ((Marked (Broke (Some (by_job number)) put count)) ∷ []) ≡ None
        by true rest e = cc
        by false rest e = rest e

pub broken-job-marks : BrokenJobMarks
broken-job-marks limits trail before now number place bytes count short is others marks =
    on-marks trail (Broke (Some (by_job number)) true count) now (record {
      each = λ n job work unbroken name bucket among. each n job work unbroken name bucket among (same-or-other place (staged_at n job name bucket));
      picked = λ n other has.
          marks.picked n other (written-before trail (Marked (Broke (Some (by_job number)) true count)) (by_job n) other (fault-unwritten (Some (by_job number)) true count (by_job n) other) has);
      gone = λ dir has.
          still-gone (state_at trail) before now place dir (stage-not-left limits trail short number place bytes is dir) others
          (marks.gone dir (went-before trail (Marked (Broke (Some (by_job number)) true count)) dir (fault-stays (Some (by_job number)) true count dir) has));
    })
  where
    each : (n : ℕ) (job : Job) (work : IsAtWork (state_at trail) n job) → broken (by_job n) (trail ++ Marked (Broke (Some (by_job number)) true count) ∷ []) ≡ None → (name : DirName) (bucket : ℕ)
        → IsIn name (finals (state_at trail) job work.table.writes)
        → (staged_at n job name bucket ≡ place) ⊎ (staged_at n job name bucket ≡ place → ⊥)
        → IsStagedWell (trail ++ Marked (Broke (Some (by_job number)) true count) ∷ []) n (staged_at n job name bucket) (wanted job work.table name bucket) (tree.get now (staged_at n job name bucket))
    each n job work unbroken name bucket among (inl same) =
        let one = is-same limits trail short n job work name bucket among number place bytes is same in
        absurd (broke-job trail number true count (subst (λ (k : ℕ). broken (by_job k) (trail ++ Marked (Broke (Some (by_job number)) true count) ∷ []) ≡ None) one.0 unbroken))
    each n job work unbroken name bucket among (inr apart) =
        still-well trail (Marked (Broke (Some (by_job number)) true count)) n (staged_at n job name bucket) (wanted job work.table name bucket) _ _
        (fault-unwritten (Some (by_job number)) true count (by_job n) (staged_at n job name bucket)) (others (staged_at n job name bucket) apart)
        (marks.each n job work (unbroken-was trail (Marked (Broke (Some (by_job number)) true count) ∷ []) (by_job n) unbroken) name bucket among)

-- ---- a directory that goes

or-false : (a : Bool) → a || false ≡ a
or-false true = refl
or-false false = refl

-- what was free is free where files only go
free-stays : (dirs : List DirAt) (before now : Tree) → SomeGo dirs before now → (dir : DirAt) → IsFree dir before → IsFree dir now
free-stays dirs before now some dir free place within = by (tree.get now place) refl
  where
    by : (o : Option (List ℕ)) → tree.get now place ≡ o → tree.get now place ≡ None
    by None e = e
    by (Some bytes) e = absurd (none_is (tree.get before place) bytes (free place within) (some.less place bytes e))

fewer-gone : (state : State) (dirs : List DirAt) (before now : Tree) → SomeGo dirs before now → (dir : DirAt) → StaysGone state before dir → StaysGone state now dir
fewer-gone state dirs before now some dir (inl stage) = inl stage
fewer-gone state dirs before now some dir (inr (inl dropped)) = inr (inl dropped)
fewer-gone state dirs before now some dir (inr (inr left)) = inr (inr (left.0, free-stays dirs before now some dir left.1))

module _ (limits : Limits) (trail : List TrailItem) (short : IsShort limits trail) (before now : Tree) (dir : DirAt) (may : MayGoNow (state_at trail) dir)
    (some : SomeGo (dir ∷ []) before now) where
  -- where a job stages nothing goes
  kept : (number : ℕ) (job : Job) (work : IsAtWork (state_at trail) number job) (name : DirName) (bucket : ℕ)
      → IsIn name (finals (state_at trail) job work.table.writes)
      → tree.get now (staged_at number job name bucket) ≡ tree.get before (staged_at number job name bucket)
  kept number job work name bucket among = by (either (is_in_any (dir ∷ []) (staged_at number job name bucket)))
    where
      by : (is_in_any (dir ∷ []) (staged_at number job name bucket) ≡ true) ⊎ (is_in_any (dir ∷ []) (staged_at number job name bucket) ≡ false)
          → tree.get now (staged_at number job name bucket) ≡ tree.get before (staged_at number job name bucket)
      by (inr outside) = some.same (staged_at number job name bucket) outside
      by (inl within) =
          absurd (not-gone limits trail short number job work name bucket among dir may (sym (or-false (is_in dir (staged_at number job name bucket))) ∙ within))

some-of-all : (dirs : List DirAt) (before now : Tree) → AllGo dirs before now → SomeGo dirs before now
some-of-all dirs before now all = record { less = λ place bytes at. by place bytes at (either (is_in_any dirs place)); same = all.same }
  where
    by : (place : Place) (bytes : List ℕ) → tree.get now place ≡ Some bytes → (is_in_any dirs place ≡ true) ⊎ (is_in_any dirs place ≡ false)
        → tree.get before place ≡ Some bytes
    by place bytes at (inl within) = absurd (none_is (tree.get now place) bytes (all.bare place within) at)
    by place bytes at (inr outside) = sym (all.same place outside) ∙ at

same-dir : (a b : DirAt) → Marked (Went a) ≡ Marked (Went b) → a ≡ b
same-dir a b e = cc

pub went-job-marks : WentJobMarks
went-job-marks limits trail before now dir short may all marks =
    on-marks trail (Went dir) now (record {
      each = λ number job work unbroken name bucket among.
          still-well trail (Marked (Went dir)) number (staged_at number job name bucket) (wanted job work.table name bucket) _ _
          (went-unwritten dir (by_job number) (staged_at number job name bucket))
          (kept limits trail short before now dir may some number job work name bucket among)
          (marks.each number job work (unbroken-was trail (Marked (Went dir) ∷ []) (by_job number) unbroken) name bucket among);
      picked = λ number place has.
          marks.picked number place (written-before trail (Marked (Went dir)) (by_job number) place (went-unwritten dir (by_job number) place) has);
      gone = λ other has. gone other (went-cases trail (Marked (Went dir)) other has);
    })
  where
    some : SomeGo (dir ∷ []) before now
    some = some-of-all (dir ∷ []) before now all

    free : IsFree dir now
    free place within = all.bare place (or-false (is_in dir place) ∙ within)

    by-why : MayGoNow (state_at trail) dir → StaysGone (state_at trail) now dir
    by-why (inl freed) = inr (inr (inl freed.covered, free))
    by-why (inr (inl lost)) = inr (inr (inr lost, free))
    by-why (inr (inr (inl idle))) = inl idle.stage
    by-why (inr (inr (inr dead))) = inr (inl dead.dropped)

    gone : (other : DirAt) → HasGone trail other ⊎ (Marked (Went dir) ≡ Marked (Went other)) → StaysGone (state_at trail) now other
    gone other (inl has) = fewer-gone (state_at trail) (dir ∷ []) before now some other (marks.gone other has)
    gone other (inr e) = subst (StaysGone (state_at trail) now) (same-dir dir other e) (by-why may)

pub torn-job-marks : TornJobMarks
torn-job-marks limits trail before now dir count short may some marks =
    on-marks trail (Broke None false count) now (record {
      each = λ number job work unbroken name bucket among.
          still-well trail (Marked (Broke None false count)) number (staged_at number job name bucket) (wanted job work.table name bucket) _ _
          (fault-unwritten None false count (by_job number) (staged_at number job name bucket))
          (kept limits trail short before now dir may some number job work name bucket among)
          (marks.each number job work (unbroken-was trail ((Marked (Broke None false count)) ∷ []) (by_job number) unbroken) name bucket among);
      picked = λ number place has.
          marks.picked number place (written-before trail (Marked (Broke None false count)) (by_job number) place (fault-unwritten None false count (by_job number) place) has);
      gone = λ other has.
          fewer-gone (state_at trail) (dir ∷ []) before now some other
          (marks.gone other (went-before trail (Marked (Broke None false count)) other (fault-stays None false count other) has));
    })

-- ---- an entry

-- where a job that was just picked stages nothing stands, and it has made no mark
module _ (limits : Limits) (trail : List TrailItem) (short : IsShort limits trail) (files : Tree) (stands : Standing (state_at trail) files)
    (marks : JobMarksStand trail files) (number : ℕ) (just : IsJustPicked (state_at trail) number) where
  unpicked : (place : Place) → HasWritten trail (by_job number) place → ⊥
  unpicked place has =
      let was = marks.picked number place has in
      let one : was.job ≡ just.job = same_one (numbered (state_at trail).jobs number) was.job just.job was.is just.is in
      true≢false (sym was.picked ∙ ap (λ (j : Job). is_some j.watermark) one ∙ ap is_some just.none)

  bare-stage : (place : Place) (name : List ℕ) → IsStagedAs number name → place.dir ≡ text_of (dir_name.Staged (record { 0 = number }) name)
      → is_live_at (state_at trail) place ≡ true → tree.get files place ≡ None
  bare-stage place name staged dir_is live = by (tree.get files place) refl
    where
      unmade : IsUnmade (state_at trail) place
      unmade = staged-at-none (state_at trail) (named limits trail short) place number name staged dir_is

      never : MayHold (state_at trail) place → ⊥
      never (inl loose) =
          own-not-staged loose.own.deletes loose.own.write loose.own.statement number name (sym loose.own.dir ∙ dir_is)
      never (inr (inl spare)) = true≢false (sym spare ∙ unmade.spare)
      never (inr (inr (inl other))) =
          let both = stage-same other.number number other.name name other.named staged (sym other.dir ∙ dir_is) in
          let one : other.job ≡ just.job =
          same_one (numbered (state_at trail).jobs number) other.job just.job (ap (numbered (state_at trail).jobs) (sym both.0) ∙ other.is) just.is in
          true≢false (sym other.picked ∙ ap (λ (j : Job). is_some j.watermark) one ∙ ap is_some just.none)
      never (inr (inr (inr dead))) = true≢false (sym live ∙ dead)

      by : (o : Option (List ℕ)) → tree.get files place ≡ o → tree.get files place ≡ None
      by None e = e
      by (Some bytes) e = absurd (never (stands.other place bytes e unmade.recs))

-- what a job stages that is at work behind an entry has a name
behind-named : (limits : Limits) (trail : List TrailItem) (event : Entry) → IsShort limits trail → Fits limits (state_at trail) event → (number : ℕ) (job : Job)
    (work : IsAtWork (after (state_at trail) event) number job) (name : DirName) → IsIn name (finals (after (state_at trail) event) job work.table.writes)
    → IsStagedAs number (text_of name)
behind-named limits trail event short fits number job work name among =
    staged-named (after (state_at trail) event) (omega (arith, short.few, entries-are (book_of trail)))
    (books-go-on limits (state_at trail) event fits (sound limits trail short)) number job work name among

-- behind an entry: where the files of those at work are as they were, and what went stays so
module _ (limits : Limits) (trail : List TrailItem) (event : Entry) (short : IsShort limits trail) (fits : Fits limits (state_at trail) event)
    (before now : Tree) (stands : Standing (state_at trail) before) (marks : JobMarksStand trail before) where
  abbrev longer : List TrailItem
  longer = trail ++ Noted event ∷ []

  abbrev behind : State
  behind = after (state_at trail) event

  module _ (number : ℕ) (job : Job) (work : IsAtWork behind number job) (name : DirName) (bucket : ℕ)
      (among : IsIn name (finals behind job work.table.writes))
      (same : tree.get now (staged_at number job name bucket) ≡ tree.get before (staged_at number job name bucket))
      (unbroken : broken (by_job number) longer ≡ None) where
    abbrev there : Place
    there = staged_at number job name bucket

    each-by : StillWants (state_at trail) behind number job work ⊎ IsJustPicked (state_at trail) number
        → IsStagedWell longer number there (wanted job work.table name bucket) (tree.get now there)
    each-by (inl still) =
        let at : IsIn name (finals (state_at trail) job still.work.table.writes) = subst (IsIn name) still.finals_are among in
        subst (λ w. IsStagedWell longer number there w (tree.get now there)) (sym (still.wants name bucket at))
        (still-well trail (Noted event) number there (wanted job still.work.table name bucket) (tree.get before there) (tree.get now there)
        (entry-unwritten event (by_job number) there) same
        (marks.each number job still.work (unbroken-was trail (Noted event ∷ []) (by_job number) unbroken) name bucket at))
    each-by (inr just) =
        inr (
          (λ has. unpicked limits trail short before stands marks number just there (written-before trail (Noted event) (by_job number) there (entry-unwritten event (by_job number) there) has)),
          same ∙ bare-stage limits trail short before stands marks number just there (text_of name) (staged-name just) refl (live-there just),
        )
      where
        -- it is at work behind the entry, where the names of what it is to make are said
        staged-name : IsJustPicked (state_at trail) number → IsStagedAs number (text_of name)
        staged-name is = behind-named limits trail event short fits number job work name among

        live-there : IsJustPicked (state_at trail) number → is_live_at (state_at trail) there ≡ true
        live-there is =
            (entries-change limits (state_at trail) event fits (few limits trail short) (sound limits trail short)).live there
            (ap is_live_table work.table_is ∙ work.live)

    pub noted-each : IsStagedWell longer number there (wanted job work.table name bucket) (tree.get now there)
    noted-each = each-by (wants-stay limits (state_at trail) event number job work fits (few limits trail short) (sound limits trail short))

  pub noted-picked : (number : ℕ) (place : Place) → HasWritten longer (by_job number) place → WasPicked behind number
  noted-picked number place has =
      picked-stays (state_at trail) event number
      (marks.picked number place (written-before trail (Noted event) (by_job number) place (entry-unwritten event (by_job number) place) has))

  pub noted-gone : (dir : DirAt) → (IsLeft (state_at trail) dir → IsFree dir before → IsFree dir now) → HasGone longer dir → StaysGone behind now dir
  noted-gone dir free has = by (marks.gone dir (went-before trail (Noted event) dir (entry-stays event dir) has))
    where
      by : StaysGone (state_at trail) before dir → StaysGone behind now dir
      by (inl stage) = inl stage
      by (inr (inl dropped)) = inr (inl (dropped-stays limits (state_at trail) event dir fits (few limits trail short) (sound limits trail short) dropped))
      by (inr (inr left)) = inr (inr (left-stays (state_at trail) event dir left.0, free left.0 left.1))

behind-state : (trail : List TrailItem) (event : Entry) (files : Tree) → JobMarksStandIn (after (state_at trail) event) (trail ++ Noted event ∷ []) files
    → JobMarksStand (trail ++ Noted event ∷ []) files
behind-state trail event files marks =
    subst (λ (state : State). JobMarksStandIn state (trail ++ Noted event ∷ []) files) (sym (state-append trail (Noted event ∷ []))) marks

pub noted-job-marks : NotedJobMarks
noted-job-marks limits trail event files short fits stands marks =
    behind-state trail event files (record {
      each = λ number job work unbroken name bucket among.
          noted-each limits trail event short fits files files stands marks number job work name bucket among refl unbroken;
      picked = noted-picked limits trail event short fits files files stands marks;
      gone = λ dir has. noted-gone limits trail event short fits files files stands marks dir (λ left free. free) has;
    })

-- ---- a publication

-- its job is at work no more
published-idle : (state : State) (number : ℕ) (job : Job) → numbered state.jobs number ≡ Some job → (other : Job)
    → numbered (after state (publishing state number job)).jobs number ≡ Some other → is_working other ≡ true → ⊥
unfolding acted
published-idle state number job is other here works =
    let range : ℕ × ℕ × ℕ = ((pieces_for state job).low, (pieces_for state job).high, length state.transactions + 1) in
    let there : numbered (changed (published_at state.entries range) state.jobs number) number ≡ Some (published_at state.entries range job) =
    changed-here (published_at state.entries range) state.jobs number job is in
    let one : other ≡ published_at state.entries range job =
    same_one (numbered (changed (published_at state.entries range) state.jobs number) number) other (published_at state.entries range job) here there in
    true≢false (sym works ∙ ap is_working one ∙ published-over state.entries range job)

not-own-name : (name : DirName) (write : ℕ) → IsOwnName write name → is_compacted name ≡ true → ⊥
not-own-name (dir_name.Base high) write own compacted = own
not-own-name (dir_name.Own deletes id statement) write own compacted = true≢false (sym compacted)
not-own-name (dir_name.Wide deletes low high) write own compacted = own
not-own-name (dir_name.Staged job name) write own compacted = own

-- what compactions make has no own name
own-not-final : (limits : Limits) (trail : List TrailItem) → IsShort limits trail → {dir : DirAt} → IsLost (state_at trail) dir → (name : DirName) → IsMadeName name
    → dir.dir ≡ text_of name → ⊥
own-not-final limits trail short {dir = dir} lost name made same =
    let names = named limits trail short in
    let low : lost.write < write_end =
    (all-numbered (HasNames (state_at trail)) (state_at trail).tables dir.table.0 lost.table lost.table_is names.tables).ids lost.write lost.txn lost.owner in
    not-own-name name lost.write (own-name name lost.deletes lost.write lost.statement made.named low (sym same ∙ lost.text)) made.compacted

pub published-job-marks : PublishedJobMarks
published-job-marks limits trail number job work before now short staged renamed stands marks =
    behind-state trail (publishing (state_at trail) number job) now.tree (record {
      each = λ n other at_work unbroken name bucket among.
          noted-each limits trail (publishing (state_at trail) number job) short fits before.tree now.tree stands marks n other at_work name bucket among (same n other at_work name bucket among) unbroken;
      picked = noted-picked limits trail (publishing (state_at trail) number job) short fits before.tree now.tree stands marks;
      gone = λ dir has. noted-gone limits trail (publishing (state_at trail) number job) short fits before.tree now.tree stands marks dir (free dir) has;
    })
  where
    fits : Fits limits (state_at trail) (publishing (state_at trail) number job)
    fits = fitting (state_at trail) number job work (few limits trail short) (sound limits trail short)

    its-name : (name : DirName) → IsIn name (finals (state_at trail) job work.table.writes) → IsMadeName name
    its-name name among = its-made (state_at trail) (few limits trail short) (sound limits trail short) number job work name among

    its-stage : (name : DirName) → IsIn name (finals (state_at trail) job work.table.writes) → IsStagedAs number (text_of name)
    its-stage name among = staged-named (state_at trail) (few limits trail short) (sound limits trail short) number job work name among

    -- the directories of others that are at work are neither
    same : (n : ℕ) (other : Job) (at_work : IsAtWork (after (state_at trail) (publishing (state_at trail) number job)) n other) (name : DirName) (bucket : ℕ)
        → IsIn name (finals (after (state_at trail) (publishing (state_at trail) number job)) other at_work.table.writes)
        → tree.get now.tree (staged_at n other name bucket) ≡ tree.get before.tree (staged_at n other name bucket)
    same n other at_work name bucket among =
        renamed-others number job (finals (state_at trail) job work.table.writes) before now renamed (staged_at n other name bucket)
        (λ one at e.
        let dir_is : staged_text n name ≡ text_of one = (within-parts (dir_of job (text_of one)) (staged_at n other name bucket) e).1.1 in
        let as_name : dir_name.Staged (record { 0 = n }) (text_of name) ≡ one =
        texts.text-same (dir_name.Staged (record { 0 = n }) (text_of name)) one (behind-named limits trail (publishing (state_at trail) number job) short fits n other at_work name among)
        (its-name one at).named dir_is in
        true≢false (sym (its-name one at).compacted ∙ ap is_compacted (sym as_name)))
        (λ one at e.
        let dir_is : staged_text n name ≡ staged_text number one = (within-parts (dir_of job (staged_text number one)) (staged_at n other name bucket) e).1.1 in
        let both = stage-same n number (text_of name) (text_of one) (behind-named limits trail (publishing (state_at trail) number job) short fits n other at_work name among) (its-stage one at) dir_is in
        over n other at_work both.0)
      where
        -- the job itself is at work no more
        over : (n : ℕ) (other : Job) → IsAtWork (after (state_at trail) (publishing (state_at trail) number job)) n other → n ≡ number → ⊥
        over n other at_work is = published-idle (state_at trail) number job work.is other (ap (numbered (after (state_at trail) (publishing (state_at trail) number job)).jobs) (sym is) ∙ at_work.is) at_work.working

    -- what is left by everybody isn't what it makes
    free : (dir : DirAt) → IsLeft (state_at trail) dir → IsFree dir before.tree → IsFree dir now.tree
    free dir left bare place within =
        renamed-others number job (finals (state_at trail) job work.table.writes) before now renamed place
        (λ name at e. not-final left name at (within-parts (dir_of job (text_of name)) place e) (within-parts dir place within))
        (λ name at e. not-stage left name at (within-parts (dir_of job (staged_text number name)) place e) (within-parts dir place within))
        ∙ bare place within
      where
        not-final : IsLeft (state_at trail) dir → (name : DirName) → IsIn name (finals (state_at trail) job work.table.writes)
            → (place.table.0 ≡ job.table) × ((place.partition ≡ job.partition) × (place.dir ≡ text_of name))
            → (place.table.0 ≡ dir.table.0) × ((place.partition ≡ dir.partition) × (place.dir ≡ dir.dir)) → ⊥
        not-final (inl covered) name at mine its =
            let one : covered.name ≡ name =
            texts.text-same covered.name name covered.named (its-name name at).named (sym covered.text ∙ sym its.1.1 ∙ mine.1.1) in
            let here : is_job_of job.table job.partition covered.job ≡ true =
            (λ i. is_job_of ((sym mine.0 ∙ its.0) i) ((sym mine.1.0 ∙ its.1.0) i) covered.job) ∙ covered.here in
            let range : IsIn name (range_names job.kind (pieces_for (state_at trail) job).low (pieces_for (state_at trail) job).high) =
            (from-filter (is_made work.table.writes job.partition) name (range_names job.kind (pieces_for (state_at trail) job).low (pieces_for (state_at trail) job).high) at).0 in
            true≢false
            (sym covered.covered ∙ ap (covers covered.job) one
            ∙ uncovered (state_at trail) number (pieces_for (state_at trail) job).low (pieces_for (state_at trail) job).high (length (state_at trail).transactions + 1) job (sound limits trail short).jobs work.is
            (its-fits (state_at trail) number job work (few limits trail short) (sound limits trail short)) name range covered.number covered.job covered.is here)
        not-final (inr lost) name at mine its =
            own-not-final limits trail short lost name (its-name name at) (sym its.1.1 ∙ mine.1.1)

        not-stage : IsLeft (state_at trail) dir → (name : DirName) → IsIn name (finals (state_at trail) job work.table.writes)
            → (place.table.0 ≡ job.table) × ((place.partition ≡ job.partition) × (place.dir ≡ staged_text number name))
            → (place.table.0 ≡ dir.table.0) × ((place.partition ≡ dir.partition) × (place.dir ≡ dir.dir)) → ⊥
        not-stage (inl covered) name at mine its =
            let one : dir_name.Staged (record { 0 = number }) (text_of name) ≡ covered.name =
            texts.text-same (dir_name.Staged (record { 0 = number }) (text_of name)) covered.name (its-stage name at) covered.named
            (sym mine.1.1 ∙ its.1.1 ∙ covered.text) in
            true≢false (sym covered.covered ∙ ap (covers covered.job) (sym one) ∙ none-staged covered.job.kind covered.job.published (record { 0 = number }) (text_of name))
        not-stage (inr lost) name at mine its =
            own-not-staged lost.deletes lost.write lost.statement number (text_of name) (sym lost.text ∙ sym its.1.1 ∙ mine.1.1)
