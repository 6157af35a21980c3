-- What a job takes of the files that stand the book makes, and no published job covers it; and of each directory that it chooses it takes the files.
use Rattle.std.proofs.Common.{◌≡◌, inl, inr, ℕ, suc, ◌<◌, ◌≤◌, ◌==◌, Bool, true, false, true≢false, Option, Some, None, List, [], ◌∷◌, filter, length, refl, sym, ap, ◌∙◌, subst, arith}
use Rattle.std.specs.Prelude.{if◌then◌else◌}
use Rattle.std.specs.FinMap as finmap
use Rattle.std.specs.Ordering.{is_eq, nat_cmp}
use Rattle.std.specs.Cmp.Lexicographic.{slice_cmp}
use Rattle.std.proofs.lemmas.Bool.{and_parts, false_from_ne_true}
use Rattle.hv_shelf.specs.declared.place.Place.{Place}
use Rattle.hv_shelf.specs.Disk as disk
use Rattle.hv_shelf.specs.Disk.{places_of}
use Rattle.hv_logic.specs.declared.catalog.Shape.{Shape}
use Rattle.hv_logic.specs.declared.effect.Found.{Found}
use Rattle.hv_rowfile.specs.declared.record.Rec.{Rec}
use Rattle.hv_wids.specs.WriteIds.{WriteIds}
use Rattle.hv_dirs.specs.declared.names.DirName.{DirName}
use Rattle.hv_dirs.specs.declared.names.DirName.TheVariants as dir
use Rattle.hv_dirs.specs.Names.{IsName, text_of, write_end}
use Rattle.hv_dirs.specs.Choice.{sight_of, Own, Wide}
use Rattle.hv_dirs.proofs.NameLemmas as texts
use Rattle.hv_history.specs.declared.entry.Entry.{Entry}
use Rattle.hv_history.specs.declared.state.Table.{Table}
use Rattle.hv_history.specs.declared.state.Written.{Written}
use Rattle.hv_history.specs.State.{State, Job, numbered, state_of}
use Rattle.hv_history.specs.Legal.{profile, is_working}
use Rattle.hv_history.specs.Jobs.{is_job_of, is_past, jobs_of}
use Rattle.hv_earlier.specs.Lists as lists
use Rattle.hv_stands.specs.Statements.{AllFitting}
use Rattle.hv_stands.proofs.Numbers.{one_value}
use Rattle.hv_stands.proofs.Behind.{entries-are}
use Rattle.hv_jobs.specs.Covers.{covers_by, covers_range, covers, frees}
use Rattle.hv_choosing.specs.declared.listing.DirFile.{DirFile}
use Rattle.hv_choosing.specs.Dirs.{name_of}
use Rattle.hv_choosing.specs.Listing.{IsNamed, AreListed}
use Rattle.hv_choosing.specs.Taken.{chosen_texts, files_taken}
use Rattle.hv_choosing.proofs.Listed.{listed-named, listed-place}
use Rattle.hv_choosing.proofs.Searching.{same-text}
use Rattle.hv_table_rows.proofs.TakenFiles.{there-place}
use Rattle.hv_law_jobs.proofs.OrderLemmas.{numbered-all}
use Rattle.hv_law_visible.specs.Members.{IsIn}
use Rattle.hv_law_visible.specs.History.{Compaction, end_of}
use Rattle.hv_law_visible.specs.Visible.{Tree}
use Rattle.hv_law_visible.specs.Stands.{IsLooseBase}
use Rattle.hv_law_visible.specs.Snapshots.{list_at, list_up_to, IsUndone}
use Rattle.hv_law_visible.specs.Laws.{TakesNoLoose}
use Rattle.hv_law_visible.proofs.MemberLemmas.{from-filter, in-any}
use Rattle.hv_law_visible.proofs.TakenLemmas.{all-in}
use Rattle.hv_law_needed.specs.Needed.{IsAny}
use Rattle.hv_law_needed.proofs.NeededLemmas.{job-needs}
use Rattle.hv_law_published.specs.Directories.{DeltaDir, DeleteDir}
use Rattle.hv_law_published.specs.State as published
use Rattle.hv_law_published.specs.State.{IsKept, IsOpenList}
use Rattle.hv_law_published.proofs.EndLemmas.{undone-unchosen}
use Rattle.hv_job_acts.specs.hv_acts.specs.hv_telling.specs.hv_house.specs.hv_law_read.specs.hv_law_whole.specs.hv_law_directories.specs.hv_law_partitions.specs.Partitions.{id_of}
use Rattle.hv_job_acts.specs.hv_acts.specs.hv_telling.specs.hv_house.specs.hv_law_read.specs.hv_law_whole.specs.hv_law_directories.specs.Reading.{file_read}
use Rattle.hv_job_acts.specs.hv_acts.specs.hv_telling.specs.hv_house.specs.hv_law_read.specs.hv_law_whole.specs.hv_law_directories.specs.Directories.{is_of, directories_in}
use Rattle.hv_job_acts.specs.hv_acts.specs.hv_telling.specs.hv_house.specs.hv_law_read.specs.hv_law_whole.specs.hv_law_directories.specs.Directories as dirs
use Rattle.hv_job_acts.specs.hv_acts.specs.hv_telling.specs.hv_house.specs.hv_law_read.specs.hv_law_whole.specs.hv_law_directories.proofs.ReadingLemmas.{can-be-read}
use Rattle.hv_job_acts.specs.hv_acts.specs.hv_telling.specs.hv_house.specs.hv_law_read.specs.hv_law_whole.specs.hv_law_directories.proofs.ListedLemmas.{listed-directories}
use Rattle.hv_job_acts.specs.hv_acts.specs.hv_telling.specs.hv_house.specs.hv_law_read.specs.hv_law_whole.specs.hv_law_directories.proofs.ChosenLemmas.{IsChosenName, text-in, stands, there-taken}
use Rattle.hv_job_acts.specs.hv_acts.specs.hv_telling.specs.hv_house.specs.hv_law_read.specs.hv_law_whole.specs.hv_law_directories.proofs.DirLemmas.{in-dir, from-recs, to-recs}
use Rattle.hv_law_made.specs.Made.{has_deletes, has_rows, some_or, bare_file, if_bare, name_recs, name_file, names_in, made_recs, is_spare, jobs_at}
use Rattle.hv_law_made.specs.Named.{HasNames, AllHaveNames}
use Rattle.hv_law_made.specs.Standing.{HasFile, MayHold, is_live_table, Standing}
use Rattle.hv_law_made.specs.Entries.{IsSoundBook}
use Rattle.hv_law_made.proofs.NamedLemmas.{IsFileOf, file-from, recs-are, spare-by}
use Rattle.hv_law_made.proofs.NamedLemmas as spelled
use Rattle.hv_law_made.proofs.UnmadeLemmas.{IsOwnName, own-name, IsStagedName, names-here}
use Rattle.hv_law_made.proofs.NameBounds.{all-named}
use Rattle.hv_law_made.proofs.BookLemmas.{books-are-sound}
use Rattle.hv_job_acts.specs.hv_acts.specs.hv_telling.specs.hv_house.specs.hv_law_read.specs.hv_law_whole.specs.Whole.{compaction_of}
use Rattle.hv_job_acts.specs.hv_acts.specs.hv_telling.specs.hv_house.specs.hv_law_read.specs.hv_law_whole.specs.Shown.{AreOfBook, partition_with}
use Rattle.hv_job_acts.specs.hv_acts.specs.hv_telling.specs.hv_house.specs.hv_law_read.specs.hv_law_whole.proofs.JobLemmas.{published-in, delta-covered, base-covered}
use Rattle.hv_job_acts.specs.hv_acts.specs.hv_telling.specs.hv_house.specs.hv_law_read.specs.hv_law_whole.proofs.KindLemmas.{loose-is, filed, read-file}
use Rattle.hv_job_acts.specs.hv_acts.specs.hv_telling.specs.hv_house.specs.hv_law_read.specs.hv_law_whole.proofs.KeptLemmas.{is-published, reaches, partitions-are-kept, end-list}
use Rattle.hv_job_acts.specs.hv_job_calls.specs.Listing.{is_part}
use Rattle.hv_compact.proofs.Naming.{IsChosenOf, taken-in-part, part-taken}
use Rattle.hv_compact.proofs.NameFiles.{file-recs, some-file}
use Rattle.hv_compact.proofs.Lasts.{IsUncovered}

-- ---- the kind of a file is that of its directory's name

kind-of-some : (deletes : Bool) (recs : List Rec) (other : Option (Bool × List Rec)) (file : Bool × List Rec) → some_or deletes recs other ≡ Some file
    → (other ≡ Some file → deletes ≡ file.0) → deletes ≡ file.0
kind-of-some deletes [] other file e bare = bare e
kind-of-some deletes (r ∷ recs) other file e bare = ap (λ (f : Bool × List Rec). f.0) (one_value (deletes, r ∷ recs) file e)

kind-of-bare : (rows : Bool) (bucket : ℕ) (file : Bool × List Rec) → if_bare rows bucket ≡ Some file → false ≡ file.0
kind-of-bare true bucket file e = cc
kind-of-bare false bucket file e = by (bucket == 0) e
  where
    by : (b : Bool) → (if b then Some (false, []) else None) ≡ Some file → false ≡ file.0
    by true same = ap (λ (f : Bool × List Rec). f.0) (one_value (false, []) file same)
    by false same = cc

file-kind : (shape : Shape) (writes : List Written) (partition : List ℕ) (name : DirName) (bucket : ℕ) (file : Bool × List Rec)
    → name_file shape writes partition name bucket ≡ Some file → has_deletes name ≡ file.0
unfolding name_file
file-kind shape writes partition name bucket file e =
    kind-of-some (has_deletes name) (name_recs shape writes partition name bucket) (bare_file writes partition name bucket) file e (bare name)
  where
    bare : (n : DirName) → bare_file writes partition n bucket ≡ Some file → has_deletes n ≡ file.0
    bare (dir.Base high) is = kind-of-bare (has_rows writes partition high.0) bucket file is
    bare (dir.Own deletes write statement) is = cc
    bare (dir.Wide deletes low high) is = cc
    bare (dir.Staged job text) is = cc

-- the records that the book makes at a place
abbrev pub recs_made : Option (Bool × List Rec) → List Rec
recs_made None = []
recs_made (Some (deletes, recs)) = recs

-- ---- a job at work, and its table that is live

pub record IsWorkOf (book : List Entry) (now : Table) (files : disk.Tree) (n mark : ℕ) : Type 0 where
  pub fit : AllFitting book
  pub few : length book < write_end
  pub standing : Standing (state_of book) files
  pub here : numbered (state_of book).tables now.info.table.0 ≡ Some now
  pub live : now.is_live ≡ true
  pub job : Job
  pub at : numbered (state_of book).jobs n ≡ Some job
  pub working : is_working job ≡ true
  pub mine : is_job_of now.info.table.0 job.partition job ≡ true
  pub picked : job.watermark ≡ Some mark

module _ (book : List Entry) (now : Table) (files : disk.Tree) (n mark : ℕ) (by : IsWorkOf book now files n mark) where
  abbrev s : State
  s = state_of book

  abbrev number : ℕ
  number = now.info.table.0

  abbrev partition : List ℕ
  partition = by.job.partition

  abbrev pub list : WriteIds
  list = list_up_to mark (lists.list_at book (state_of book).entries number)

  sound : IsSoundBook s
  sound = books-are-sound profile book by.fit

  few-names : s.entries < write_end
  few-names = let count = entries-are book in let few = by.few in omega (arith, count, few)

  names : AllHaveNames s
  names = all-named s few-names sound

  has : HasNames s now
  has = numbered-all (HasNames s) s.tables number now names.tables by.here

  -- the place of a file in a directory
  abbrev pub spot_of : DirName → ℕ → Place
  spot_of name bucket = record { table = now.info.table; partition = partition; dir = text_of name; bucket = bucket }

  abbrev pub recs_of_name : DirName → ℕ → List Rec
  recs_of_name name bucket = name_recs now.info.shape now.writes partition name bucket

  -- the book makes what stands at a place, as the file of that name, and no published job covers it
  pub record IsMadeAt (kind : Bool) (name : DirName) (place : Place) (bytes : List ℕ) : Type 0 where
    pub recs : List Rec
    pub uncovered : IsUncovered s place kind recs
    pub among : IsIn name (names_in now.writes (jobs_of number partition s.jobs))
    pub file_is : name_file now.info.shape now.writes partition name place.bucket ≡ Some (kind, recs)
    pub reads : file_read kind place.bucket bytes ≡ recs

  module _ (named : List DirFile) (listed : AreListed (places_of now.info.table files) named) where
    abbrev pub tree : Tree Found
    tree = directories_in file_read now.info partition files named

    pub of-book : AreOfBook file_read book now partition files tree
    of-book = record {
      reads = can-be-read;
      fit = by.fit;
      few = few-names;
      stand = by.standing;
      here = by.here;
      live = by.live;
      directories = listed-directories file_read now.info partition files named listed;
    }

    abbrev pub part : published.State Found
    part = partition_with book number partition tree

    pub kept : IsKept id_of part
    kept = partitions-are-kept file_read book now partition files tree of-book

    under : (c : Compaction) → IsIn c part.jobs → end_of c ≤ mark
    under c among =
        reaches s sound.jobs number partition n mark by.job by.at by.mine by.working by.picked c (is-published s number partition c among)

    list-is : list_up_to mark (list_at part.fates) ≡ list
    list-is = ap (list_up_to mark) (sym (end-list book number))

    pub opens : IsOpenList part list
    opens = inr (inr (mark, (λ c among past. under c among), list-is))

    takes : TakesNoLoose (sight_of list) IsAny part.jobs tree
    takes =
        subst (λ (l : WriteIds). TakesNoLoose (sight_of l) IsAny part.jobs tree) list-is
        (job-needs id_of kept.most part.next mark part.open_txns part.fates part.readers part.writes part.jobs tree kept.knows kept.committed under
        kept.sound kept.stands)

    abbrev pub IsChosen : Bool → DirName → Type 0
    IsChosen kind name = IsChosenName now.info list partition files named listed kind name

    pub chosen-kind : (kind : Bool) (name : DirName) → IsChosen kind name → has_deletes name ≡ kind
    chosen-kind true name (inl none) = absurd none
    chosen-kind false name (inl (m, is, same)) = ap has_deletes (sym same)
    chosen-kind kind name (inr (Own write statement, among, same)) = ap has_deletes (sym same)
    chosen-kind kind name (inr (Wide low high, among, same)) = ap has_deletes (sym same)

    chosen-unstaged : (kind : Bool) (name : DirName) → IsChosen kind name → IsStagedName name → ⊥
    chosen-unstaged true name (inl none) staged = none
    chosen-unstaged false name (inl (m, is, same)) staged = subst IsStagedName (sym same) staged
    chosen-unstaged kind name (inr (Own write statement, among, same)) staged = subst IsStagedName (sym same) staged
    chosen-unstaged kind name (inr (Wide low high, among, same)) staged = subst IsStagedName (sym same) staged

    -- it is no own one of an id that isn't committed
    chosen-done : (kind : Bool) (name : DirName) → IsChosen kind name → (write : ℕ) → IsUndone part.fates write → IsOwnName write name → ⊥
    chosen-done true name (inl none) write undone own = none
    chosen-done false name (inl (m, is, same)) write undone own = subst (IsOwnName write) (sym same) own
    chosen-done true name (inr (Own w statement, among, same)) write undone own =
        undone-unchosen id_of part write list (DeleteDir (Own w statement)) kept undone opens (subst (IsOwnName write) (sym same) own) among
    chosen-done false name (inr (Own w statement, among, same)) write undone own =
        undone-unchosen id_of part write list (DeltaDir (Own w statement)) kept undone opens (subst (IsOwnName write) (sym same) own) among
    chosen-done kind name (inr (Wide low high, among, same)) write undone own = subst (IsOwnName write) (sym same) own

    -- no published job covers it
    chosen-uncovered : (kind : Bool) (name : DirName) → IsChosen kind name → (job : Job) → IsIn job (jobs_of number partition s.jobs)
        → covers job name ≡ true → ⊥
    chosen-uncovered kind name chosen job among covered = by_range job.published refl covered
      where
        by_name : (range : ℕ × ℕ × ℕ) → job.published ≡ Some range → (k : Bool) (m : DirName) → IsChosen k m
            → covers_range job.kind range.0 range.1 m ≡ true → ⊥
        by_name range done true m (inl none) is = none
        by_name range done false m (inl (base, is_top, same)) is =
            takes.base (subst (λ b. IsLooseBase IsAny part.jobs b) (sym is_top) (
              compaction_of job.kind range,
              published-in (jobs_of number partition s.jobs) job range among done,
              tt,
              base-covered job.kind range (suc base) (subst (λ (x : DirName). covers_range job.kind range.0 range.1 x ≡ true) (sym same) is),
            ))
        by_name range done true m (inr (d, chosen_d, same)) is =
            takes.delete_deltas d chosen_d (
              compaction_of job.kind range,
              published-in (jobs_of number partition s.jobs) job range among done,
              tt,
              delta-covered job.kind range true d (subst (λ (x : DirName). covers_range job.kind range.0 range.1 x ≡ true) (sym same) is),
            )
        by_name range done false m (inr (d, chosen_d, same)) is =
            takes.deltas d chosen_d (
              compaction_of job.kind range,
              published-in (jobs_of number partition s.jobs) job range among done,
              tt,
              delta-covered job.kind range false d (subst (λ (x : DirName). covers_range job.kind range.0 range.1 x ≡ true) (sym same) is),
            )

        by_range : (o : Option (ℕ × ℕ × ℕ)) → job.published ≡ o → covers_by job.kind o name ≡ true → ⊥
        by_range None none e = true≢false (sym e)
        by_range (Some range) done e = by_name range done kind name chosen e

    -- ---- a place in a directory that is chosen

    module _ (kind : Bool) (name : DirName) (is_chosen : IsChosen kind name) (place : Place) (table_is : place.table.0 ≡ number)
        (partition_is : place.partition ≡ partition) (dir_is : place.dir ≡ text_of name) where
      chosen-name : IsName name
      chosen-name = (stands now.info list partition files named listed kind name is_chosen).there.0

      at-here : numbered s.tables place.table.0 ≡ Some now
      at-here = ap (numbered s.tables) table_is ∙ by.here

      one-name : (other : DirName) → IsName other → place.dir ≡ text_of other → other ≡ name
      one-name other is same = texts.text-same other name is chosen-name (sym same ∙ dir_is)

      names-there : (other : DirName) → IsIn other (names_in now.writes (jobs_at s place)) → IsName other
      names-there = names-here s place now at-here has

      jobs-are : jobs_at s place ≡ jobs_of number partition s.jobs
      jobs-are = λ i. jobs_of (table_is i) (partition_is i) s.jobs

      uncovered-there : (other : DirName) → IsName other → place.dir ≡ text_of other → (job : Job) → IsIn job (jobs_at s place)
          → covers job other ≡ true → ⊥
      uncovered-there other is same job among covered =
          chosen-uncovered kind name is_chosen job (subst (IsIn job) jobs-are among)
          (subst (λ (m : DirName). covers job m ≡ true) (one-name other is same) covered)

      not-spare : is_spare s place ≡ true → ⊥
      not-spare e =
          let spare = spare-by s place now at-here e in
          let freeing = in-any (frees s spare.name) (jobs_at s place) spare.freed in
          let both = and_parts (is_past s freeing.0) (covers freeing.0 spare.name) freeing.2 in
          uncovered-there spare.name (names-there spare.name spare.among) spare.dir_is freeing.0 freeing.1 both.1

      -- of what may stand besides, none is there
      not-held : MayHold s place → ⊥
      not-held (inl loose) =
          let lost = loose-is file_read can-be-read s now partition files by.standing by.here by.live has place table_is loose in
          chosen-done kind name is_chosen lost.write lost.undone
          (own-name name lost.deletes lost.write lost.statement chosen-name lost.few (sym dir_is ∙ lost.dir_is))
      not-held (inr (inl spare)) = not-spare spare
      not-held (inr (inr (inl staged))) =
          let same : dir.Staged (record { 0 = staged.number }) staged.name ≡ name =
          one-name (dir.Staged (record { 0 = staged.number }) staged.name) staged.named staged.dir in
          chosen-unstaged kind name is_chosen (subst IsStagedName same tt)
      not-held (inr (inr (inr dead))) = true≢false (sym (ap is_live_table at-here ∙ by.live) ∙ dead)

      file-of : (made : Bool × List Rec) → made_recs s place ≡ Some made
          → IsFileOf now.info.shape now.writes place (names_in now.writes (jobs_at s place)) made
      file-of made e = file-from now.info.shape now.writes place (names_in now.writes (jobs_at s place)) made (sym (recs-are s place now at-here) ∙ e)

      -- the file that the book makes there is of that kind
      same-kind : (made : Bool × List Rec) → made_recs s place ≡ Some made → made.0 ≡ kind
      same-kind made e =
          let of = file-of made e in
          sym (file-kind now.info.shape now.writes place.partition of.name place.bucket made of.file_is)
          ∙ ap has_deletes (one-name of.name (names-there of.name of.among) of.dir_is) ∙ chosen-kind kind name is_chosen

      made-so : (bytes : List ℕ) → finmap.get files place ≡ Some bytes → (recs : List Rec) → made_recs s place ≡ Some (kind, recs)
          → IsMadeAt kind name place bytes
      made-so bytes there recs e =
          let of = file-of (kind, recs) e in
          let one : of.name ≡ name = one-name of.name (names-there of.name of.among) of.dir_is in
          let file = by.standing.made place kind recs (ap is_live_table at-here ∙ by.live) (false_from_ne_true (is_spare s place) not-spare) e in
          record {
            recs = recs;
            uncovered = record {
              made = e;
              free = λ other is same job among. false_from_ne_true (covers job other) (uncovered-there other is same job among);
            };
            among =
                subst (λ (m : DirName). IsIn m (names_in now.writes (jobs_of number partition s.jobs))) one
                (subst (λ (js : List Job). IsIn of.name (names_in now.writes js)) jobs-are of.among);
            file_is =
                subst (λ (m : DirName). name_file now.info.shape now.writes partition m place.bucket ≡ Some (kind, recs)) one
                (subst (λ (p : List ℕ). name_file now.info.shape now.writes p of.name place.bucket ≡ Some (kind, recs)) partition_is of.file_is);
            reads = read-file file_read can-be-read s now partition files by.standing by.here by.live has kind place.bucket recs
                (finmap.get files place) bytes file there;
          }

      -- where a file stands the book makes it
      made-at : (bytes : List ℕ) → finmap.get files place ≡ Some bytes → IsMadeAt kind name place bytes
      made-at bytes there = by_recs (made_recs s place) refl
        where
          by_recs : (o : Option (Bool × List Rec)) → made_recs s place ≡ o → IsMadeAt kind name place bytes
          by_recs None e = absurd (not-held (by.standing.other place bytes there e))
          by_recs (Some (deletes, recs)) e =
              made-so bytes there recs (e ∙ ap (λ (b : Bool). Some (b, recs)) (same-kind (deletes, recs) e))

    -- ---- a directory that is chosen

    module _ (kind : Bool) (name : DirName) (is_chosen : IsChosen kind name) where
      -- it is one of those that the book makes
      pub chosen-among : IsIn name (names_in now.writes (jobs_of number partition s.jobs))
      chosen-among =
          let there = (stands now.info list partition files named listed kind name is_chosen).there.1 in
          let within = in-dir (dirs.dir_of now.info partition name) there.place there.within in
          (made-at kind name is_chosen there.place within.table_is within.partition_is within.dir_is there.bytes there.is).among

      -- where it has records in a bucket its file stands there
      file-stands : (bucket : ℕ) (r : Rec) → IsIn r (recs_of_name name bucket)
          → HasFile kind bucket (recs_of_name name bucket) (finmap.get files (spot_of name bucket))
      file-stands bucket r at =
          filed file_read can-be-read s now partition files by.standing by.here by.live has name
          (stands now.info list partition files named listed kind name is_chosen).there.0 chosen-among bucket kind (recs_of_name name bucket)
          (some-file now.info.shape now.writes partition name bucket r at
          ∙ ap (λ (b : Bool). Some (b, recs_of_name name bucket)) (chosen-kind kind name is_chosen))
          (false_from_ne_true (is_spare s (spot_of name bucket)) (not-spare kind name is_chosen (spot_of name bucket) refl refl refl))

      -- what is read in it are its records
      pub recs-read : (r : Rec) → IsIn r (dirs.recs_in file_read kind files (dirs.dir_of now.info partition name))
          → (bucket : ℕ) × IsIn r (recs_of_name name bucket)
      recs-read r at =
          let of = from-recs file_read kind files (dirs.dir_of now.info partition name) r at in
          let made = made-at kind name is_chosen of.place of.within.table_is of.within.partition_is of.within.dir_is of.bytes of.is in
          let same : file_read kind of.place.bucket of.bytes ≡ recs_of_name name of.place.bucket =
          made.reads ∙ file-recs now.info.shape now.writes partition name of.place.bucket (kind, made.recs) made.file_is in
          (of.place.bucket, subst (IsIn r) same of.among)

      pub read-recs : (bucket : ℕ) (r : Rec) → IsIn r (recs_of_name name bucket)
          → IsIn r (dirs.recs_in file_read kind files (dirs.dir_of now.info partition name))
      read-recs bucket r at =
          let file = file-stands bucket r at in
          let same : file_read kind bucket file.bytes ≡ recs_of_name name bucket =
          read-file file_read can-be-read s now partition files by.standing by.here by.live has kind bucket (recs_of_name name bucket)
          (finmap.get files (spot_of name bucket)) file.bytes file file.is in
          to-recs file_read kind files (dirs.dir_of now.info partition name) r (record {
            place = spot_of name bucket;
            within = record { table_is = refl; partition_is = refl; dir_is = refl };
            bytes = file.bytes;
            is = file.is;
            among = subst (IsIn r) (sym same) at;
          })

    -- ---- a file that is taken

    module _ (kind : Bool) (file : DirFile) (it : IsChosenOf partition kind list named file) where
      kept-there : IsIn file named × (is_of partition file ≡ true)
      kept-there = from-filter (is_of partition) file named it.among

      partition-is : file.place.partition ≡ partition
      partition-is = spelled.same-text file.place.partition partition kept-there.1

      there : (file.place.table.0 ≡ number) × ((bytes : List ℕ) × (finmap.get files file.place ≡ Some bytes))
      there = there-place now.info.table files file.place (listed-place (places_of now.info.table files) named listed file kept-there.0)

      is-named : IsNamed file
      is-named = all-in IsNamed named file (listed-named (places_of now.info.table files) named listed) kept-there.0

      -- its directory is one that is chosen
      its-chosen : IsChosen kind (name_of file.dir)
      its-chosen =
          let text = in-any (λ text. is_eq (slice_cmp nat_cmp text file.place.dir)) (chosen_texts kind (sight_of list) (dirs.names_in partition named)) it.taken in
          let name = text-in now.info list partition files named listed kind text.0 text.1 in
          let is = (stands now.info list partition files named listed kind name.0 name.1).there.0 in
          let same : name.0 ≡ name_of file.dir =
          texts.text-same name.0 (name_of file.dir) is is-named.0 (name.2 ∙ same-text text.0 file.place.dir text.2 ∙ sym is-named.1) in
          subst (IsChosen kind) same name.1

      its-made : IsMadeAt kind (name_of file.dir) file.place there.1.0
      its-made = made-at kind (name_of file.dir) its-chosen file.place there.0 partition-is (sym is-named.1) there.1.0 there.1.1

      pub taken-stands : (recs : List Rec) × IsUncovered s file.place kind recs
      taken-stands = (its-made.recs, its-made.uncovered)

    -- ---- where the files of the partition alone were listed

    module _ (part_named : List DirFile) (its : AreListed (filter (is_part partition) (places_of now.info.table files)) part_named) where
      -- one that is taken has the records of its directory's name
      pub record IsTakenOf (kind : Bool) (file : DirFile) : Type 0 where
        pub is_chosen : IsChosen kind (name_of file.dir)
        pub recs_are : recs_made (made_recs s file.place) ≡ recs_of_name (name_of file.dir) file.place.bucket

      pub taken-of : (kind : Bool) (file : DirFile) → IsIn file (files_taken kind list part_named) → IsTakenOf kind file
      taken-of kind file among =
          let it = taken-in-part now.info.table files partition named part_named kind list file listed its among in
          let made = its-made kind file it in
          record {
            is_chosen = its-chosen kind file it;
            recs_are = ap recs_made made.uncovered.made
                ∙ file-recs now.info.shape now.writes partition (name_of file.dir) file.place.bucket (kind, made.recs) made.file_is;
          }

      -- and a directory that is chosen has a file that is taken, where it has records
      pub record HasTaken (kind : Bool) (name : DirName) (bucket : ℕ) : Type 0 where
        pub file : DirFile
        pub taken : IsIn file (files_taken kind list part_named)
        pub name_is : name_of file.dir ≡ name
        pub bucket_is : file.place.bucket ≡ bucket
        pub recs_are : recs_made (made_recs s file.place) ≡ recs_of_name name bucket

      pub has-taken : (kind : Bool) (name : DirName) → IsChosen kind name → (bucket : ℕ) (r : Rec) → IsIn r (recs_of_name name bucket) → HasTaken kind name bucket
      has-taken kind name is_chosen bucket r at =
          let file_there = file-stands kind name is_chosen bucket r at in
          let it = there-taken now.info list partition files named listed kind name is_chosen (spot_of name bucket) file_there.bytes refl refl refl file_there.is in
          let one : DirFile = record { place = spot_of name bucket; dir = it.dir } in
          let taken : IsIn one (files_taken kind list part_named) =
          part-taken now.info.table files partition named part_named kind list one listed its it.taken refl in
          record {
            file = one;
            taken = taken;
            name_is = it.name_is;
            bucket_is = refl;
            recs_are = (taken-of kind one taken).recs_are ∙ ap (λ (m : DirName). recs_of_name m bucket) it.name_is;
          }
