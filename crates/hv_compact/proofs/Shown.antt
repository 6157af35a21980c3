-- What the act that lists shows of each file: the book makes it, and goes on so while the job works and its table is live.
use Rattle.std.proofs.Common.{◌≡◌, inl, inr, ◌+◌, ◌<◌, ℕ, zero, suc, Bool, true, false, true≢false, is_some, IsSome, Option, Some, None, List, [], ◌∷◌, ◌&&◌, Ok, length, filter, fold, refl, sym, ap, ◌∙◌, subst, arith}
use Rattle.std.specs.Prelude.{IsSomeAnd, not, is_none}
use Rattle.std.proofs.lemmas.Bool.{and_parts}
use Rattle.std.specs.List.{slice_get}
use Rattle.hv_base.specs.Told.{Tells}
use Rattle.hv_base.specs.declared.ids.JobId.{JobId}
use Rattle.hv_base.specs.declared.ids.TableId.{TableId}
use Rattle.hv_shelf.specs.Disk.{Store, Tree, places_of}
use Rattle.hv_rowfile.specs.declared.record.Rec.{Rec}
use Rattle.hv_wids.specs.WriteIds.{WriteIds}
use Rattle.hv_dirs.specs.Names.{write_end}
use Rattle.hv_history.specs.declared.entry.Entry.{Entry}
use Rattle.hv_history.specs.declared.entry.Entry.TheVariants as entry
use Rattle.hv_history.specs.declared.state.Table.{Table}
use Rattle.hv_history.specs.declared.state.Written.{Written}
use Rattle.hv_history.specs.State.{State, Job, numbered, changed, owned, written_to, dropped, forgot, tables_behind, commits, made_by, acted, after, nothing_yet, state_of}
use Rattle.hv_history.specs.Legal.{profile, is_working, AllTruthful}
use Rattle.hv_history.specs.Jobs.{is_job_of, is_live_one, mark_by}
use Rattle.hv_history.specs.JobsFit.{is_live_job}
use Rattle.hv_history.proofs.LastingLaws.{kept-more, kept-changed}
use Rattle.hv_earlier.specs.Lists as lists
use Rattle.hv_stands.specs.Sound.{NumberedFrom}
use Rattle.hv_stands.proofs.Numbers.{either, found, same_one}
use Rattle.hv_stands.proofs.Behind.{entries-are}
use Rattle.hv_choosing.specs.declared.listing.DirFile.{DirFile}
use Rattle.hv_choosing.specs.Listing.{AreListed}
use Rattle.hv_choosing.specs.Taken.{files_taken}
use Rattle.hv_choosing.proofs.Listed.{listed-place}
use Rattle.hv_table_rows.proofs.TakenFiles.{there-place}
use Rattle.hv_law_jobs.specs.Lasting.{JobLater}
use Rattle.hv_law_jobs.specs.Sound.{IsSoundJob}
use Rattle.hv_law_jobs.proofs.OrderLemmas.{numbered-all, job-of-from}
use Rattle.hv_law_made.specs.Made.{made_recs}
use Rattle.hv_law_made.specs.Standing.{Standing}
use Rattle.hv_law_made.specs.Entries.{IsSoundBook}
use Rattle.hv_law_made.proofs.BookLemmas.{books-are-sound}
use Rattle.hv_law_made.proofs.NamedLemmas.{same-text}
use Rattle.hv_law_visible.specs.Members.{IsIn}
use Rattle.hv_law_visible.specs.Snapshots.{list_up_to}
use Rattle.hv_law_visible.proofs.MemberLemmas.{from-filter}
use Rattle.hv_law_work.specs.Marks.{WasPicked}
use Rattle.hv_trail.specs.declared.trail.TrailItem.{TrailItem}
use Rattle.hv_trail.specs.Trail.{book_of, state_at}
use Rattle.hv_trail.specs.Kept.{trail_of}
use Rattle.hv_job_acts.specs.hv_acts.specs.declared.told.ToldHouse.{ToldHouse}
use Rattle.hv_job_acts.specs.hv_acts.specs.Told.{IsWholeOrClosed, seen_in, trail_in}
use Rattle.hv_job_acts.specs.hv_acts.specs.Going.{IsOpenHouse}
use Rattle.hv_job_acts.specs.hv_acts.proofs.Steps.{book-is}
use Rattle.hv_job_acts.specs.hv_acts.specs.Reading.{HasFittingBook}
use Rattle.hv_job_acts.specs.hv_job_calls.specs.Listing.{is_part, job_list, AreTakenFor}
use Rattle.hv_job_acts.specs.hv_job_calls.specs.Refusals.{IsStandingAt}
use Rattle.hv_job_acts.specs.hv_acts.specs.hv_telling.specs.Telling.{IsToldHouse, StandsByMarks, HoldsTrue}
use Rattle.hv_job_acts.specs.hv_acts.specs.hv_telling.specs.hv_house.specs.Listing.{AreTakenOf}
use Rattle.hv_job_acts.specs.hv_acts.specs.hv_telling.specs.hv_house.specs.House.{entries_of}
use Rattle.hv_job_acts.specs.hv_acts.specs.hv_telling.specs.hv_house.specs.declared.listing.Listing.{Listing}
use Rattle.hv_job_acts.specs.Doing.{ListsSo}
use Rattle.hv_job_acts.specs.hv_acts.specs.hv_telling.specs.hv_house.specs.hv_law_read.specs.hv_law_whole.specs.hv_law_directories.specs.Directories.{is_of}
use Rattle.hv_compact.specs.Gathering.{StandsWhile}
use Rattle.hv_compact.proofs.Later.{told-fitting, found-later, some-so}
use Rattle.hv_compact.proofs.Wants.{state-is}
use Rattle.hv_compact.proofs.Lasts.{IsUncovered, stands-while}
use Rattle.hv_compact.proofs.Naming.{IsChosenOf, all-listed, taken-in-part}
use Rattle.hv_compact.proofs.Taken.{recs_made, IsWorkOf, taken-stands}

-- ---- a table that was dropped is so later

abbrev StaysDead : Table → Table → Type 0
StaysDead t now = t.is_live ≡ false → now.is_live ≡ false

as-before : (t : Table) → StaysDead t t
as-before t dead = dead

dead-at : (o : Option Table) (t : Table) → o ≡ Some t → IsSomeAnd o (StaysDead t)
dead-at o t is = some-so (StaysDead t) o t is (as-before t)

behind-dead : (writes : List (ℕ × Written)) (ts : List Table) (n : ℕ) (t : Table) → numbered ts n ≡ Some t
    → IsSomeAnd (numbered (tables_behind writes ts) n) (StaysDead t)
behind-dead [] ts n t is = dead-at (numbered ts n) t is
behind-dead (w ∷ more) ts n t is =
    let next = changed (written_to w.1) ts w.0 in
    let one = found (StaysDead t) (numbered next n) (kept-changed StaysDead as-before (written_to w.1) (λ x dead. dead) ts w.0 n t is) in
    let rest = found (StaysDead one.0) (numbered (tables_behind more next) n) (behind-dead more next n one.0 one.1) in
    some-so (StaysDead t) (numbered (tables_behind more next) n) rest.0 rest.1 (λ dead. rest.2 (one.2 dead))

dead-next : (s : State) (event : Entry) (n : ℕ) (t : Table) → numbered s.tables n ≡ Some t → IsSomeAnd (numbered (after s event).tables n) (StaysDead t)
unfolding acted
dead-next s (entry.Boot run) n t is = dead-at (numbered s.tables n) t is
dead-next s (entry.Opened txn session k text) n t is = dead-at (numbered s.tables n) t is
dead-next s (entry.Start txn statement) n t is = dead-at (numbered s.tables n) t is
dead-next s (entry.Given txn table write) n t is = kept-changed StaysDead as-before (owned txn.0) (λ x dead. dead) s.tables table.0 n t is
dead-next s (entry.Commit txn wrote) n t is = behind-dead (commits (numbered s.transactions txn.0)) s.tables n t is
dead-next s (entry.Abort txn cause) n t is = dead-at (numbered s.tables n) t is
dead-next s (entry.Create txn table) n t is =
    kept-more StaysDead as-before s.tables (made_by table.0 (numbered s.transactions txn.0) ∷ []) n t is
dead-next s (entry.Drop txn table) n t is = kept-changed StaysDead as-before dropped (λ x dead. refl) s.tables table.0 n t is
dead-next s (entry.Asked job table partition kind by_) n t is = dead-at (numbered s.tables n) t is
dead-next s (entry.Picked job mark) n t is = dead-at (numbered s.tables n) t is
dead-next s (entry.Published job low high mark) n t is = dead-at (numbered s.tables n) t is
dead-next s (entry.Empty job) n t is = dead-at (numbered s.tables n) t is
dead-next s (entry.Cleaned job) n t is = dead-at (numbered s.tables n) t is
dead-next s (entry.Failed job cause) n t is = dead-at (numbered s.tables n) t is
dead-next s (entry.Forgot table write) n t is = kept-changed StaysDead as-before (forgot write.0) (λ x dead. dead) s.tables table.0 n t is
dead-next s (entry.Next txn statement k text) n t is = dead-at (numbered s.tables n) t is
dead-next s (entry.Did txn statement wrote) n t is = dead-at (numbered s.tables n) t is
dead-next s (entry.Alter txn table) n t is = dead-at (numbered s.tables n) t is

dead-go : (more : List Entry) (s : State) (n : ℕ) (t : Table) → numbered s.tables n ≡ Some t → t.is_live ≡ false
    → is_live_one (numbered (fold after s more).tables n) ≡ false
dead-go [] s n t is dead = ap is_live_one is ∙ dead
dead-go (event ∷ more) s n t is dead =
    let next = found (StaysDead t) (numbered (after s event).tables n) (dead-next s event n t is) in
    dead-go more (after s event) n next.0 next.1 (next.2 dead)

-- ---- a table has its number

number-at : (first : ℕ) (ts : List Table) → NumberedFrom first ts → (n : ℕ) (t : Table) → slice_get ts n ≡ Some t → t.info.table.0 ≡ first + n
number-at first [] order n t is = cc
number-at first (x ∷ ts) order zero t is =
    let same : x ≡ t = cc in
    let own : x.info.table.0 ≡ first = order.0 in
    subst (λ (y : Table). y.info.table.0 ≡ first + 0) same (omega (arith, own))
number-at first (x ∷ ts) order (suc n) t is =
    let own : t.info.table.0 ≡ first + 1 + n = number-at (first + 1) ts order.1 n t is in
    omega (arith, own)

pub number-of : (ts : List Table) → NumberedFrom 1 ts → (k : ℕ) (t : Table) → numbered ts k ≡ Some t → t.info.table.0 ≡ k
number-of ts order zero t is = cc
number-of ts order (suc n) t is = let own : t.info.table.0 ≡ 1 + n = number-at 1 ts order n t is in omega (arith, own)

some-none : (o : Option Table) → o ≡ None → IsSome o → ⊥
some-none o none some = true≢false (sym some ∙ ap (λ (p : Option Table). is_some p) none)

-- ---- the records of a file, as the book makes them

abbrev pub recs_then : List TrailItem → DirFile → List Rec
recs_then trail file = recs_made (made_recs (state_at trail) file.place)

-- ---- each of them stands

-- the files that were listed over this store
pub record IsListing (trail : List TrailItem) (number : ℕ) (files : Tree) (list : WriteIds) (inserts deletes : List DirFile) : Type 0 where
  pub book : HasFittingBook trail
  pub short : length (book_of trail) < write_end
  pub truth : AllTruthful nothing_yet (book_of trail)
  pub standing : Standing (state_at trail) files
  pub job : Job
  pub at : numbered (state_at trail).jobs number ≡ Some job
  pub working : is_working job ≡ true
  pub mark : ℕ
  pub picked : job.watermark ≡ Some mark
  pub list_is : list ≡ job_list (book_of trail) job
  pub taken : AreTakenOf (filter (is_part job.partition) (places_of (record { 0 = job.table }) files)) list inserts deletes

module _ (trail : List TrailItem) (number : JobId) (files : Tree) (list : WriteIds) (inserts deletes : List DirFile)
    (it : IsListing trail number.0 files list inserts deletes) where
  abbrev s : State
  s = state_of (book_of trail)

  sound : IsSoundBook s
  sound = books-are-sound profile (book_of trail) it.book.fit

  abbrev was : WasPicked s number.0
  was = record { job = it.job; is = it.at; picked = ap (λ (o : Option ℕ). is_some o) it.picked }

  named : (all : List DirFile) × AreListed (places_of (record { 0 = it.job.table }) files) all
  named = all-listed (places_of (record { 0 = it.job.table }) files)

  list-same : (now : Table) → now.info.table.0 ≡ it.job.table
      → list ≡ list_up_to it.mark (lists.list_at (book_of trail) (state_of (book_of trail)).entries now.info.table.0)
  list-same now number_is =
      it.list_is
      ∙ (λ i. list_up_to (mark_by (it.picked i)) (lists.list_at (book_of trail) (sym (entries-are (book_of trail)) i) (sym number_is i)))

  module _ (kind : Bool) (file : DirFile) (among : IsIn file (files_taken kind list it.taken.named)) where
    chosen : IsChosenOf it.job.partition kind list named.0 file
    chosen =
        taken-in-part (record { 0 = it.job.table }) files it.job.partition named.0 it.taken.named kind list file named.1 it.taken.listed among

    -- where the table is live
    module _ (now : Table) (here : numbered s.tables it.job.table ≡ Some now) (live : now.is_live ≡ true) where
      number-is : now.info.table.0 ≡ it.job.table
      number-is = number-of s.tables sound.base.tables.in_order it.job.table now here

      mine : is_job_of now.info.table.0 it.job.partition it.job ≡ true
      mine = job-of-from now.info.table.0 it.job.partition it.job (sym number-is) refl

      abbrev work : IsWorkOf (book_of trail) now files number.0 it.mark
      work = record {
        fit = it.book.fit;
        few = it.short;
        standing = it.standing;
        here = ap (numbered s.tables) number-is ∙ here;
        live = live;
        job = it.job;
        at = it.at;
        working = it.working;
        mine = mine;
        picked = it.picked;
      }

      abbrev its-table : TableId
      its-table = record { 0 = it.job.table }

      table-same : its-table ≡ now.info.table
      table-same = λ i. record { 0 = sym number-is i }

      listed-there : AreListed (places_of now.info.table files) named.0
      listed-there = subst (λ (t : TableId). AreListed (places_of t files) named.0) table-same named.1

      uncovered : (recs : List Rec) × IsUncovered s file.place kind recs
      uncovered =
          taken-stands (book_of trail) now files number.0 it.mark work named.0 listed-there kind file
          (subst (λ (l : WriteIds). IsChosenOf it.job.partition kind l named.0 file) (list-same now number-is) chosen)

      as-made : IsUncovered s file.place kind (recs_then trail file)
      as-made =
          subst (λ (recs : List Rec). IsUncovered s file.place kind recs) (sym (ap recs_made uncovered.1.made)) uncovered.1

      file-mine : is_job_of file.place.table.0 file.place.partition it.job ≡ true
      file-mine =
          let kept = from-filter (is_of it.job.partition) file named.0 chosen.among in
          let place = there-place (record { 0 = it.job.table }) files file.place
          (listed-place (places_of (record { 0 = it.job.table }) files) named.0 named.1 file kept.0) in
          job-of-from file.place.table.0 file.place.partition it.job (sym place.0) (sym (same-text file.place.partition it.job.partition kept.1))

      stands : StandsWhile trail number file.place kind (recs_then trail file)
      stands = stands-while trail number file.place kind (recs_then trail file) was file-mine as-made

    pub listed-stands : StandsWhile trail number file.place kind (recs_then trail file)
    listed-stands later front book works alive = by-table (numbered s.tables it.job.table) refl
      where
        lasts : (k : Job) × (numbered (state_at later).jobs number.0 ≡ Some k) × JobLater it.job k
        lasts = found-later trail later front number.0 it.job it.at

        still-live : is_live_one (numbered (state_at later).tables it.job.table) ≡ true
        still-live =
            let at = found (λ (j : Job). is_live_job (state_at later) j ≡ true) (numbered (state_at later).jobs number.0) alive in
            let one = same_one (numbered (state_at later).jobs number.0) at.0 lasts.0 at.1 lasts.1 in
            subst (λ (k : ℕ). is_live_one (numbered (state_at later).tables k) ≡ true) (lasts.2.table)
            (subst (λ (j : Job). is_live_job (state_at later) j ≡ true) one at.2)

        later-is : state_at later ≡ fold after s (book_of front.more)
        later-is = state-is trail later front book number.0 was

        by-table : (o : Option Table) → numbered s.tables it.job.table ≡ o → IsStandingAt (state_at later) file.place kind (recs_then trail file)
        by-table None none =
            absurd (some-none (numbered s.tables it.job.table) none (numbered-all (IsSoundJob s) s.jobs number.0 it.job sound.jobs.each it.at).table)
        by-table (Some now) here = elim (either now.is_live) [
          | inl live ↦ stands now here live later front book works alive
          | inr dead ↦
              absurd (true≢false (sym still-live ∙ ap (λ (x : State). is_live_one (numbered x.tables it.job.table)) later-is
              ∙ dead-go (book_of front.more) s it.job.table now here dead))
        ]

-- ---- so a house shows it that lists

tells-some : (o : Option Store) (P : Store → Type 0) (store : Store) → o ≡ Some store → Tells o P → P store
tells-some o P store is tells = subst (λ (p : Option Store). Tells p P) is tells

some-of : (o : Option ℕ) → is_some o ≡ true → (n : ℕ) × (o ≡ Some n)
some-of None e = absurd (true≢false (sym e))
some-of (Some n) e = (n, refl)

pub listing-of : {D : Type 0} (told : D → Option Store) (house : ToldHouse D) → IsWholeOrClosed told house.house → IsOpenHouse house
    → IsToldHouse told house.house → (job : JobId) (listing : Listing) → ListsSo told (seen_in house) job (Ok listing)
    → (files : Tree) × IsListing (trail_in house) job.0 files listing.list listing.inserts.items listing.deletes.items
unfolding HoldsTrue
listing-of told house kept running is job listing does =
    let store = found (StandsByMarks (trail_of house.house.trail) (entries_of house.house)) (told house.house.shelf) ((kept.whole running).truly is) in
    let book = told-fitting told house kept is in
    let at = found (λ (j : Job). is_working j ≡ true) (numbered (state_at (trail_in house)).jobs job.0) does.works in
    let mark = some-of at.0.watermark
    (and_parts (is_some at.0.watermark) (is_none at.0.published && (not at.0.is_empty && is_none at.0.failure)) at.2).0 in (
      store.0.tree,
      record {
        book = book;
        short = (let few = book.few in omega (arith, few));
        truth = subst (λ (events : List Entry). AllTruthful nothing_yet events) (sym (book-is house.house)) store.2.faithful.legal.truthful;
        standing = subst (λ (events : List Entry). Standing (state_of events) store.0.tree) (sym (book-is house.house)) store.2.faithful.stands;
        job = at.0;
        at = at.1;
        working = at.2;
        mark = mark.0;
        picked = mark.1;
        list_is = does.list at.0 at.1;
        taken = tells-some (told house.house.shelf) (λ (s : Store). AreTakenFor at.0 listing s.tree) store.0 store.1 (does.files at.0 at.1);
      },
    )
