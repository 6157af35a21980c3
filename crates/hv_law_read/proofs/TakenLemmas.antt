-- What an open transaction takes of the files that stand the book makes, and it needs it: a directory that is chosen under its list is one that
-- no compaction covers which came before it, and it is no own one of a write id that isn't committed.
use Rattle.std.proofs.Common.{refl, ◌≡◌, inl, inr, ℕ, suc, ◌<◌, ◌≤◌, ◌==◌, Bool, true, false, Option, Some, None, List, [], ◌∷◌, fold, length, take, drop, sym, ap, ◌∙◌, subst, arith, true≢false}
use Rattle.std.specs.Prelude.{if◌then◌else◌}
use Rattle.std.specs.FinMap as finmap
use Rattle.std.specs.Ordering.{is_eq, nat_cmp}
use Rattle.std.specs.Cmp.Lexicographic.{slice_cmp}
use Rattle.std.proofs.lemmas.Bool.{false_from_ne_true}
use Rattle.std.proofs.lemmas.List.{take-append-drop}
use Rattle.std.proofs.lemmas.List.Sums.{fold-append}
use Rattle.hv_base.specs.Sorting.{sorted_by}
use Rattle.hv_shelf.specs.declared.place.Place.{Place}
use Rattle.hv_shelf.specs.Disk as disk
use Rattle.hv_shelf.specs.Disk.{places_of}
use Rattle.hv_logic.specs.declared.catalog.Shape.{Shape}
use Rattle.hv_logic.specs.declared.catalog.TableInfo.{TableInfo}
use Rattle.hv_logic.specs.declared.effect.Found.{Found}
use Rattle.hv_rowfile.specs.declared.record.Rec.{Rec}
use Rattle.hv_wids.specs.WriteIds.{WriteIds, is_valid}
use Rattle.hv_dirs.specs.declared.names.DirName.{DirName}
use Rattle.hv_dirs.specs.declared.names.DirName.TheVariants as dir
use Rattle.hv_dirs.specs.Names.{IsName, text_of, write_end}
use Rattle.hv_dirs.specs.Choice.{sight_of, Delta, Own, Wide, chosen_above, delta_cmp}
use Rattle.hv_dirs.proofs.NameLemmas as texts
use Rattle.hv_history.specs.declared.entry.Entry.{Entry}
use Rattle.hv_history.specs.declared.state.Snapshot.{Snapshot}
use Rattle.hv_history.specs.declared.state.Table.{Table}
use Rattle.hv_history.specs.declared.state.Transaction.{Transaction}
use Rattle.hv_history.specs.declared.state.Written.{Written}
use Rattle.hv_history.specs.Lasting.{TableLater, GoesOn}
use Rattle.hv_history.specs.State.{State, Job, numbered, after, nothing_yet, state_of}
use Rattle.hv_history.specs.Legal.{profile, is_open}
use Rattle.hv_history.specs.Jobs.{is_live_one, jobs_of}
use Rattle.hv_history.proofs.LastingLaws.{goes-on-all}
use Rattle.hv_earlier.specs.Lists as lists
use Rattle.hv_stands.specs.Statements.{AllFitting}
use Rattle.hv_stands.proofs.Numbers.{one_value, found}
use Rattle.hv_stands.proofs.Soundness.{all-numbered}
use Rattle.hv_stands.proofs.Behind.{entries-are}
use Rattle.hv_jobs.specs.Covers.{covers_by, covers_range, covers}
use Rattle.hv_choosing.specs.declared.listing.DirFile.{DirFile}
use Rattle.hv_choosing.specs.Dirs.{name_of}
use Rattle.hv_choosing.specs.Listing.{IsNamed, AreListed}
use Rattle.hv_choosing.specs.Taken.{chosen_texts, files_taken}
use Rattle.hv_choosing.proofs.Listed.{listed-named, listed-place}
use Rattle.hv_choosing.proofs.Searching.{same-text}
use Rattle.hv_law_whole.specs.hv_law_directories.specs.hv_table_rows.proofs.TakenFiles.{there-place}
use Rattle.hv_law_visible.specs.Members.{IsIn}
use Rattle.hv_law_visible.specs.History.{mark_of}
use Rattle.hv_law_visible.specs.Visible.{Tree, base_chosen}
use Rattle.hv_law_visible.specs.Stands.{IsSound, Stands, IsLooseBase}
use Rattle.hv_law_visible.specs.Snapshots.{list_at, IsUndone}
use Rattle.hv_law_visible.specs.Readers.{Reader, IsPast}
use Rattle.hv_law_visible.specs.Laws.{TakesNoLoose}
use Rattle.hv_law_visible.proofs.MemberLemmas.{from-filter, in-any}
use Rattle.hv_law_visible.proofs.TakenLemmas.{all-in, is-taken}
use Rattle.hv_law_needed.specs.Needed.{IsBefore}
use Rattle.hv_law_needed.proofs.NeededLemmas.{reader-needs}
use Rattle.hv_law_published.specs.Directories.{DeltaDir, DeleteDir}
use Rattle.hv_law_published.specs.State as published
use Rattle.hv_law_published.specs.State.{IsKept, IsOpenList}
use Rattle.hv_law_published.proofs.EndLemmas.{undone-unchosen}
use Rattle.hv_law_published.proofs.StateLemmas.{list-fits}
use Rattle.hv_law_whole.specs.hv_law_directories.specs.hv_law_partitions.specs.Partitions.{id_of}
use Rattle.hv_law_whole.specs.hv_law_directories.specs.hv_law_partitions.proofs.ListLemmas.{list-in}
use Rattle.hv_law_whole.specs.hv_law_directories.specs.Reading.{file_read}
use Rattle.hv_law_whole.specs.hv_law_directories.specs.Directories.{is_of, directories_in}
use Rattle.hv_law_whole.specs.hv_law_directories.specs.Directories as dirs
use Rattle.hv_law_whole.specs.hv_law_directories.proofs.ReadingLemmas.{can-be-read}
use Rattle.hv_law_whole.specs.hv_law_directories.proofs.ListedLemmas.{listed-directories}
use Rattle.hv_law_whole.specs.hv_law_directories.proofs.ChosenLemmas.{IsChosenName, text-in, stands, taken-here}
use Rattle.hv_law_whole.specs.hv_law_made.specs.Made.{has_deletes, has_rows, some_or, bare_file, if_bare, name_recs, name_file, names_in, made_recs, jobs_at}
use Rattle.hv_law_whole.specs.hv_law_made.specs.Named.{HasNames, AllHaveNames}
use Rattle.hv_law_whole.specs.hv_law_made.specs.Standing.{MayHold, is_live_table, Standing}
use Rattle.hv_law_whole.specs.hv_law_made.specs.Entries.{IsSoundBook}
use Rattle.hv_law_whole.specs.hv_law_made.proofs.NamedLemmas.{file-from, recs-are}
use Rattle.hv_law_whole.specs.hv_law_made.proofs.UnmadeLemmas.{IsOwnName, own-name, IsStagedName, names-here}
use Rattle.hv_law_whole.specs.hv_law_made.proofs.NameBounds.{all-named}
use Rattle.hv_law_whole.specs.hv_law_made.proofs.BookLemmas.{books-are-sound}
use Rattle.hv_law_whole.specs.Whole.{compaction_of, published_in}
use Rattle.hv_law_whole.specs.Shown.{AreOfBook, partition_with}
use Rattle.hv_law_whole.proofs.JobLemmas.{published-in, delta-covered, base-covered, mark-is}
use Rattle.hv_law_whole.proofs.KindLemmas.{loose-is}
use Rattle.hv_law_whole.proofs.KeptLemmas.{partitions-are-kept}
use Rattle.hv_law_read.specs.Needs.{is_marked_by, is_needless}
use Rattle.hv_law_read.specs.Reading.{ReadsAt, IsTakenFor, TakenIsNeeded}
use Rattle.hv_law_read.proofs.NeedLemmas.{needless-by, spare-needless, marked-range}
use Rattle.hv_law_read.proofs.ReaderLemmas.{reader_at, reader-in}

-- ---- the kind of a file is that of its directory's name

kind-of-some : (deletes : Bool) (recs : List Rec) (other : Option (Bool × List Rec)) (file : Bool × List Rec) → some_or deletes recs other ≡ Some file
    → (other ≡ Some file → deletes ≡ file.0) → deletes ≡ file.0
kind-of-some deletes [] other file e bare = bare e
kind-of-some deletes (r ∷ recs) other file e bare = ap (λ (f : Bool × List Rec). f.0) (one_value (deletes, r ∷ recs) file e)

kind-of-bare : (rows : Bool) (bucket : ℕ) (file : Bool × List Rec) → if_bare rows bucket ≡ Some file → false ≡ file.0
kind-of-bare true bucket file e = cc
kind-of-bare false bucket file e = by (bucket == 0) e
  where
    by : (b : Bool) → (if b then Some (false, []) else None) ≡ Some file → false ≡ file.0
    by true same = ap (λ (f : Bool × List Rec). f.0) (one_value (false, []) file same)
    by false same = cc

file-kind : (shape : Shape) (writes : List Written) (partition : List ℕ) (name : DirName) (bucket : ℕ) (file : Bool × List Rec)
    → name_file shape writes partition name bucket ≡ Some file → has_deletes name ≡ file.0
unfolding name_file
file-kind shape writes partition name bucket file e =
    kind-of-some (has_deletes name) (name_recs shape writes partition name bucket) (bare_file writes partition name bucket) file e (bare name)
  where
    bare : (n : DirName) → bare_file writes partition n bucket ≡ Some file → has_deletes n ≡ file.0
    bare (dir.Base high) is = kind-of-bare (has_rows writes partition high.0) bucket file is
    bare (dir.Own deletes write statement) is = cc
    bare (dir.Wide deletes low high) is = cc
    bare (dir.Staged job text) is = cc

-- ---- an open transaction, and a table that is live

pub record IsReadBy (book : List Entry) (now : Table) (files : disk.Tree) (txn : ℕ) : Type 0 where
  pub fit : AllFitting book
  pub few : length book < write_end
  pub standing : Standing (state_of book) files
  pub here : numbered (state_of book).tables now.info.table.0 ≡ Some now
  pub live : now.is_live ≡ true
  pub transaction : Transaction
  pub at : numbered (state_of book).transactions txn ≡ Some transaction
  pub unended : is_open transaction ≡ true
  pub snapshot : Snapshot
  pub taken : transaction.snapshot ≡ Some snapshot

module _ (book : List Entry) (now : Table) (files : disk.Tree) (txn : ℕ) (by : IsReadBy book now files txn) where
  abbrev s : State
  s = state_of book

  abbrev number : ℕ
  number = now.info.table.0

  abbrev pub list : WriteIds
  list = lists.list_at book by.snapshot.place number

  sound : IsSoundBook s
  sound = books-are-sound profile book by.fit

  names : AllHaveNames s
  names = let count = entries-are book in let few = by.few in all-named s (omega (arith, count, few)) sound

  has : HasNames s now
  has = all-numbered (HasNames s) s.tables number now by.here names.tables

  module _ (named : List DirFile) (listed : AreListed (places_of now.info.table files) named) (partition : List ℕ) where
    abbrev pub tree : Tree Found
    tree = directories_in file_read now.info partition files named

    pub of-book : AreOfBook file_read book now partition files tree
    of-book = record {
      reads = can-be-read;
      fit = by.fit;
      few = (let count = entries-are book in let few = by.few in omega (arith, count, few));
      stand = by.standing;
      here = by.here;
      live = by.live;
      directories = listed-directories file_read now.info partition files named listed;
    }

    abbrev pub part : published.State Found
    part = partition_with book number partition tree

    pub kept : IsKept id_of part
    kept = partitions-are-kept file_read book now partition files tree of-book

    abbrev reader : Reader
    reader = reader_at book number txn by.snapshot

    is-reader : IsIn reader part.readers
    is-reader = reader-in book number txn s.transactions by.transaction by.snapshot by.at by.unended by.taken

    list-is : list_at reader.before ≡ list
    list-is = sym (list-in (state_of (take by.snapshot.place book)) number)

    pub opens : IsOpenList part list
    opens = inl (reader, is-reader, list-is)

    takes : TakesNoLoose (sight_of list) (IsBefore reader) part.jobs tree
    takes =
        let seen = kept.seen reader is-reader in
        subst (λ (l : WriteIds). TakesNoLoose (sight_of l) (IsBefore reader) part.jobs tree) list-is
        (reader-needs id_of kept.most part.next part.open_txns part.fates part.readers reader seen.0 seen.1 part.jobs tree kept.knows is-reader seen.3
        (subst (λ ws. IsSound id_of kept.most ws part.jobs) seen.2 kept.sound)
        (subst (λ ws. Stands id_of (IsPast part.open_txns) (IsUndone part.fates) ws part.jobs tree) seen.2 kept.stands))

    abbrev IsChosen : Bool → DirName → Type 0
    IsChosen kind n = IsChosenName now.info list partition files named listed kind n

    -- ---- a name that is chosen

    chosen-kind : (kind : Bool) (n : DirName) → IsChosen kind n → has_deletes n ≡ kind
    chosen-kind true n (inl none) = absurd none
    chosen-kind false n (inl (m, is, same)) = ap has_deletes (sym same)
    chosen-kind kind n (inr (Own write statement, among, same)) = ap has_deletes (sym same)
    chosen-kind kind n (inr (Wide low high, among, same)) = ap has_deletes (sym same)

    chosen-unstaged : (kind : Bool) (n : DirName) → IsChosen kind n → IsStagedName n → ⊥
    chosen-unstaged true n (inl none) staged = none
    chosen-unstaged false n (inl (m, is, same)) staged = subst IsStagedName (sym same) staged
    chosen-unstaged kind n (inr (Own write statement, among, same)) staged = subst IsStagedName (sym same) staged
    chosen-unstaged kind n (inr (Wide low high, among, same)) staged = subst IsStagedName (sym same) staged

    -- it is no own one of an id that isn't committed
    chosen-done : (kind : Bool) (n : DirName) → IsChosen kind n → (write : ℕ) → IsUndone part.fates write → IsOwnName write n → ⊥
    chosen-done true n (inl none) write undone own = none
    chosen-done false n (inl (m, is, same)) write undone own = subst (IsOwnName write) (sym same) own
    chosen-done true n (inr (Own w statement, among, same)) write undone own =
        undone-unchosen id_of part write list (DeleteDir (Own w statement)) kept undone opens (subst (IsOwnName write) (sym same) own) among
    chosen-done false n (inr (Own w statement, among, same)) write undone own =
        undone-unchosen id_of part write list (DeltaDir (Own w statement)) kept undone opens (subst (IsOwnName write) (sym same) own) among
    chosen-done kind n (inr (Wide low high, among, same)) write undone own = subst (IsOwnName write) (sym same) own

    -- and its id is valid
    valid-of : (deltas : List Delta) (write statement : ℕ) → IsIn (Own write statement) (chosen_above (sight_of list) (base_chosen (sight_of list) tree) deltas)
        → is_valid list write ≡ true
    unfolding chosen_above
    valid-of deltas write statement among =
        let top = base_chosen (sight_of list) tree in
        let t = is-taken (sight_of list) top top false (Own write statement) (sorted_by delta_cmp deltas) (omega arith) (λ e. absurd (true≢false (sym e))) among in
        let some = (list-fits id_of part list kept opens).some_valid write write t.some in
        let least = some.1 in
        let most = some.2 in
        let one : some.0 ≡ write = omega (arith, least, most) in
        subst (λ n. is_valid list n ≡ true) one some.3

    pub chosen-valid : (kind : Bool) (n : DirName) → IsChosen kind n → (write : ℕ) → IsOwnName write n → is_valid list write ≡ true
    chosen-valid true n (inl none) write own = absurd none
    chosen-valid false n (inl (m, is, same)) write own = absurd (subst (IsOwnName write) (sym same) own)
    chosen-valid true n (inr (Own w statement, among, same)) write own =
        subst (λ k. is_valid list k ≡ true) (subst (IsOwnName write) (sym same) own) (valid-of tree.delete_deltas w statement among)
    chosen-valid false n (inr (Own w statement, among, same)) write own =
        subst (λ k. is_valid list k ≡ true) (subst (IsOwnName write) (sym same) own) (valid-of tree.deltas w statement among)
    chosen-valid kind n (inr (Wide low high, among, same)) write own = absurd (subst (IsOwnName write) (sym same) own)

    -- no compaction covers it whose mark is at most the transaction's number
    chosen-uncovered : (kind : Bool) (n : DirName) → IsChosen kind n → (job : Job) → IsIn job (jobs_of number partition s.jobs)
        → is_marked_by txn job.published ≡ true → covers job n ≡ true → ⊥
    chosen-uncovered kind n chosen job among marked covered = by_name kind n chosen range_covered
      where
        range : (r : ℕ × ℕ × ℕ) × (job.published ≡ Some r) × (r.2 ≤ txn)
        range = marked-range txn job.published marked

        range_covered : covers_range job.kind range.0.0 range.0.1 n ≡ true
        range_covered = subst (λ o. covers_by job.kind o n ≡ true) range.1 covered

        is_published : IsIn (compaction_of job.kind range.0) (published_in s number partition)
        is_published = published-in (jobs_of number partition s.jobs) job range.0 among range.1

        is_before : mark_of (compaction_of job.kind range.0) ≤ txn
        is_before = let same = mark-is job.kind range.0 in let low = range.2 in omega (arith, same, low)

        by_name : (k : Bool) (m : DirName) → IsChosen k m → covers_range job.kind range.0.0 range.0.1 m ≡ true → ⊥
        by_name true m (inl none) is = none
        by_name false m (inl (base, is_top, same)) is =
            takes.base (subst (λ b. IsLooseBase (IsBefore reader) part.jobs b) (sym is_top) (
              compaction_of job.kind range.0,
              is_published,
              is_before,
              base-covered job.kind range.0 (suc base) (subst (λ (x : DirName). covers_range job.kind range.0.0 range.0.1 x ≡ true) (sym same) is),
            ))
        by_name true m (inr (d, chosen_d, same)) is =
            takes.delete_deltas d chosen_d (
              compaction_of job.kind range.0,
              is_published,
              is_before,
              delta-covered job.kind range.0 true d (subst (λ (x : DirName). covers_range job.kind range.0.0 range.0.1 x ≡ true) (sym same) is),
            )
        by_name false m (inr (d, chosen_d, same)) is =
            takes.deltas d chosen_d (
              compaction_of job.kind range.0,
              is_published,
              is_before,
              delta-covered job.kind range.0 false d (subst (λ (x : DirName). covers_range job.kind range.0.0 range.0.1 x ≡ true) (sym same) is),
            )

  -- ---- a file that is taken

  module _ (named : List DirFile) (listed : AreListed (places_of now.info.table files) named) (kind : Bool) (file : DirFile)
      (among : IsIn file (files_taken kind list named)) where
    abbrev place : Place
    place = file.place

    abbrev partition : List ℕ
    partition = file.place.partition

    abbrev Chosen : DirName → Type 0
    Chosen n = IsChosenName now.info list partition files named listed kind n

    pub in-run : IsIn file named
    in-run = (from-filter (is_of partition) file named (taken-here now.info list partition files named listed kind file among refl).0).0

    pub chosen : (n : DirName) × Chosen n × (file.place.dir ≡ text_of n)
    chosen =
        let taken = taken-here now.info list partition files named listed kind file among refl in
        let text = in-any (λ text. is_eq (slice_cmp nat_cmp text file.place.dir)) (chosen_texts kind (sight_of list) (dirs.names_in partition named)) taken.1 in
        let n = text-in now.info list partition files named listed kind text.0 text.1 in
        (n.0, n.1, sym (n.2 ∙ same-text text.0 file.place.dir text.2))

    pub there : (file.place.table.0 ≡ number) × ((bytes : List ℕ) × (finmap.get files file.place ≡ Some bytes))
    there = there-place now.info.table files file.place (listed-place (places_of now.info.table files) named listed file in-run)

    chosen-name : IsName chosen.0
    chosen-name = (stands now.info list partition files named listed kind chosen.0 chosen.1).there.0

    pub at-here : numbered s.tables file.place.table.0 ≡ Some now
    at-here = ap (numbered s.tables) there.0 ∙ by.here

    -- a name of its directory is that one
    pub one-name : (name : DirName) → IsName name → file.place.dir ≡ text_of name → name ≡ chosen.0
    one-name name is dir_is = texts.text-same name chosen.0 is chosen-name (sym dir_is ∙ chosen.2)

    pub names-there : (name : DirName) → IsIn name (names_in now.writes (jobs_at s file.place)) → IsName name
    names-there = names-here s file.place now at-here has

    not-needless : is_needless s txn file.place ≡ true → ⊥
    not-needless e =
        let it = needless-by s txn file.place now at-here e in
        chosen-uncovered named listed partition kind chosen.0 chosen.1 it.job (subst (λ n. IsIn it.job (jobs_of n partition s.jobs)) there.0 it.at) it.marked
        (subst (λ (name : DirName). covers it.job name ≡ true) (one-name it.name (names-there it.name it.among) it.dir_is) it.covered)

    -- of what may stand besides, none is chosen
    not-held : MayHold s file.place → ⊥
    not-held (inl loose) =
        let lost = loose-is file_read can-be-read s now partition files by.standing by.here by.live has file.place there.0 loose in
        chosen-done named listed partition kind chosen.0 chosen.1 lost.write lost.undone
        (own-name chosen.0 lost.deletes lost.write lost.statement chosen-name lost.few (sym chosen.2 ∙ lost.dir_is))
    not-held (inr (inl spare)) = not-needless (spare-needless s txn by.transaction file.place now by.at by.unended at-here spare)
    not-held (inr (inr (inl staged))) =
        let one : dir.Staged (record { 0 = staged.number }) staged.name ≡ chosen.0 =
        one-name (dir.Staged (record { 0 = staged.number }) staged.name) staged.named staged.dir in
        chosen-unstaged named listed partition kind chosen.0 chosen.1 (subst IsStagedName one tt)
    not-held (inr (inr (inr dead))) = true≢false (sym (ap is_live_table at-here ∙ by.live) ∙ dead)

    -- the file that the book makes there is of that kind
    same-kind : (file_there : Bool × List Rec) → made_recs s file.place ≡ Some file_there → file_there.0 ≡ kind
    same-kind file_there e =
        let of = file-from now.info.shape now.writes file.place (names_in now.writes (jobs_at s file.place)) file_there (sym (recs-are s file.place now at-here) ∙ e) in
        let one = one-name of.name (names-there of.name of.among) of.dir_is in
        sym (file-kind now.info.shape now.writes file.place.partition of.name file.place.bucket file_there of.file_is)
        ∙ ap has_deletes one ∙ chosen-kind named listed partition kind chosen.0 chosen.1

    pub is-named : IsNamed file
    is-named = all-in IsNamed named file (listed-named (places_of now.info.table files) named listed) in-run

    -- it is the one of its directory's name
    pub file-of : (recs : List Rec) → made_recs s file.place ≡ Some (kind, recs)
        → name_file now.info.shape now.writes file.place.partition (name_of file.dir) file.place.bucket ≡ Some (kind, recs)
    file-of recs e =
        let of = file-from now.info.shape now.writes file.place (names_in now.writes (jobs_at s file.place)) (kind, recs) (sym (recs-are s file.place now at-here) ∙ e) in
        let same : of.name ≡ name_of file.dir =
        one-name of.name (names-there of.name of.among) of.dir_is ∙ sym (one-name (name_of file.dir) is-named.0 (sym is-named.1)) in
        subst (λ (n : DirName). name_file now.info.shape now.writes file.place.partition n file.place.bucket ≡ Some (kind, recs)) same of.file_is

    -- the id of an own one is valid
    pub id-valid : (write : ℕ) → IsOwnName write (name_of file.dir) → is_valid list write ≡ true
    id-valid write own =
        chosen-valid named listed partition kind chosen.0 chosen.1 write
        (subst (IsOwnName write) (one-name (name_of file.dir) is-named.0 (sym is-named.1)) own)

    pub taken-needed : IsTakenFor book txn kind file
    taken-needed = by_recs (made_recs s file.place) refl
      where
        by_recs : (o : Option (Bool × List Rec)) → made_recs s file.place ≡ o → IsTakenFor book txn kind file
        by_recs None e = absurd (not-held (by.standing.other file.place there.1.0 there.1.1 e))
        by_recs (Some (deletes, recs)) e = record {
          recs = recs;
          needed = record {
            made = e ∙ ap (λ (b : Bool). Some (b, recs)) (same-kind (deletes, recs) e);
            needed = false_from_ne_true (is_needless s txn file.place) not-needless;
          };
        }

-- ---- as the table stood at a place

module _ (book : List Entry) (txn place : ℕ) (table : Table) (files : disk.Tree) (at : ReadsAt book txn place table files) where
  abbrev before : State
  before = state_of (take place book)

  split : state_of book ≡ fold after before (drop place book)
  split = ap (λ (b : List Entry). state_of b) (sym (take-append-drop place book)) ∙ fold-append after nothing_yet (take place book) (drop place book)

  goes : GoesOn before (state_of book)
  goes = subst (GoesOn before) (sym split) (goes-on-all (drop place book) before)

  -- the table as it is
  pub later : (u : Table) × (numbered (state_of book).tables table.info.table.0 ≡ Some u) × TableLater table u
  later = found (TableLater table) (numbered (state_of book).tables table.info.table.0) (goes.tables table.info.table.0 table at.stood)

  abbrev pub read-by : IsReadBy book later.0 files txn
  read-by = record {
    fit = at.fit;
    few = at.few;
    standing = at.stands;
    here = ap (λ (info : TableInfo). numbered (state_of book).tables info.table.0) later.2.info ∙ later.1;
    live = sym (ap is_live_one later.1) ∙ at.live;
    transaction = at.transaction;
    at = at.here;
    unended = at.unended;
    snapshot = at.snapshot;
    taken = at.taken;
  }

  pub listed-now : (named : List DirFile) → AreListed (places_of table.info.table files) named → AreListed (places_of later.0.info.table files) named
  listed-now named listed = subst (λ (info : TableInfo). AreListed (places_of info.table files) named) (sym later.2.info) listed

  pub list-now : lists.list_at book place table.info.table.0 ≡ lists.list_at book at.snapshot.place later.0.info.table.0
  list-now = λ i. lists.list_at book (sym at.place_is i) (sym later.2.info i).table.0

pub taken-is-needed : TakenIsNeeded
taken-is-needed book txn place table files kind named file at listed among =
    let by = read-by book txn place table files at in
    taken-needed book (later book txn place table files at).0 files txn by named (listed-now book txn place table files at named listed) kind file
    (subst (λ (l : WriteIds). IsIn file (files_taken kind l named)) (list-now book txn place table files at) among)
