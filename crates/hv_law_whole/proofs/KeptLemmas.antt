-- All holds of a partition of a book with compactions that commits, publications and removals keep; so its readers read what stood in it.
use Rattle.std.proofs.Common.{refl, ◌≡◌, inl, inr, ℕ, zero, suc, ◌+◌, ◌<◌, ◌≤◌, ◌==◌, Bool, true, false, Option, Some, None, List, [], ◌∷◌, length, map, take, drop, fold, option_map, sym, ap, ◌∙◌, subst, arith, true≢false}
use Rattle.std.specs.Prelude.{if◌then◌else◌, is_none, is_some, nat_lt, nat_le, not, ◌&&◌, ◌||◌, filter}
use Rattle.std.proofs.lemmas.Bool.{and_parts, ltb-true, ltb-false}
use Rattle.std.specs.List.{slice_get, list_any}
use Rattle.std.proofs.lemmas.List.{take_all, take-append-drop}
use Rattle.std.proofs.lemmas.List.Sums.{fold-append}
use Rattle.hv_base.specs.declared.ids.Limits.{Limits}
use Rattle.hv_shelf.specs.Disk as disk
use Rattle.hv_base.specs.Sorting.{rising_by}
use Rattle.hv_dirs.specs.Choice.{sight_of}
use Rattle.hv_logic.specs.declared.effect.Found.{Found}
use Rattle.hv_history.specs.declared.entry.Entry.{Entry}
use Rattle.hv_history.specs.declared.entry.JobKind.{JobKind}
use Rattle.hv_history.specs.declared.entry.JobKind.TheVariants as kind
use Rattle.hv_history.specs.declared.state.Ending.{Ending}
use Rattle.hv_history.specs.declared.state.Ending.TheVariants as ending
use Rattle.hv_history.specs.declared.state.Snapshot.{Snapshot}
use Rattle.hv_history.specs.declared.state.Table.{Table}
use Rattle.hv_history.specs.declared.state.Transaction.{Transaction}
use Rattle.hv_history.specs.declared.state.Written.{Written}
use Rattle.hv_history.specs.State.{State, Job, numbered, state_of, after, nothing_yet, content_of, content_in}
use Rattle.hv_history.specs.Legal.{profile, is_working, AllFit}
use Rattle.hv_history.specs.Jobs.{is_initiated, is_busy, is_open_one, is_job_of, jobs_of, ids_of, ended_front, watermark}
use Rattle.hv_book.specs.Past.{owners_in, forgotten_in}
use Rattle.hv_earlier.specs.Fates as earlier_fates
use Rattle.hv_earlier.specs.declared.fates.Fate as earlier
use Rattle.hv_earlier.specs.Lists as lists
use Rattle.hv_law_directories.specs.hv_stands.specs.Files.{AreEncoded, IsEncoded, IsSaid}
use Rattle.hv_law_directories.specs.hv_stands.specs.Sound.{IsRoutedWrite, HasSoundWrites, IsSound}
use Rattle.hv_law_directories.specs.hv_stands.proofs.Numbers.{same_one, found, numbered-map}
use Rattle.hv_law_directories.specs.hv_stands.proofs.Soundness.{all-numbered}
use Rattle.hv_law_directories.specs.hv_stands.proofs.Behind.{entries-are}
use Rattle.hv_law_jobs.specs.Sound.{IsSoundRange, HasSoundRange, IsSoundJob, IsBelowMark, AreSoundJobs}
use Rattle.hv_law_jobs.specs.Lasting.{JobLater}
use Rattle.hv_law_jobs.proofs.LastLemmas.{jobs-last}
use Rattle.hv_law_jobs.proofs.OrderLemmas.{job-of-is, job-of-from, in-order}
use Rattle.hv_law_made.specs.Entries.{IsSoundBook}
use Rattle.hv_law_made.specs.Made.{is_up_to}
use Rattle.hv_law_made.specs.Named.{HasNames}
use Rattle.hv_law_made.proofs.BookLemmas.{books-are-sound}
use Rattle.hv_law_made.proofs.NameBounds.{front-most, all-named}
use Rattle.hv_law_made.proofs.PublishStands.{numbered-at}
use Rattle.hv_law_visible.specs.Members.{IsIn}
use Rattle.hv_law_visible.specs.History.{Write, Compaction, Minor, Major, end_of, mark_of}
use Rattle.hv_law_visible.specs.Visible.{Tree, writes_shown, visible_rows, by_id}
use Rattle.hv_law_visible.specs.Snapshots.{Fate, is_open, is_seen, list_at, list_up_to, HaveEnded}
use Rattle.hv_law_visible.proofs.ListLemmas.{valid-same, says-up-to}
use Rattle.hv_law_visible.proofs.MemberLemmas.{from-flat, from-filter}
use Rattle.hv_law_visible.proofs.SortingLemmas.{all-from}
use Rattle.hv_law_visible.proofs.TakenLemmas.{all-in}
use Rattle.hv_law_directories.specs.hv_law_partitions.specs.Partitions.{id_of, rows_of, write_in, writes_of, written_in, writes_in, fate_by, fates_from, fates_in}
use Rattle.hv_law_directories.specs.hv_law_partitions.proofs.IdLemmas.{numbered-in}
use Rattle.hv_law_directories.specs.hv_law_partitions.proofs.PlaceLemmas.{snapshots-of-places-so}
use Rattle.hv_law_directories.specs.hv_law_partitions.proofs.ListLemmas.{list-in}
use Rattle.hv_law_directories.specs.hv_law_partitions.proofs.CommitLemmas.{committed-in}
use Rattle.hv_law_directories.specs.hv_law_partitions.proofs.StateLemmas.{AreKnown, kept-with, shown-of, readers-in-order-so, end-in-order}
use Rattle.hv_law_directories.specs.Reading.{Reading}
use Rattle.hv_law_whole.specs.Whole.{compaction_of, compactions_by, compactions_of, published_in, IsStoredWrite, IsPartOf}
use Rattle.hv_law_whole.specs.Shown.{AreOfBook, partition_with, PartitionsAreKept, ReadersAreShown, TheEndIsShown, JobsReadUpToMark}
use Rattle.hv_law_whole.proofs.SeenLemmas.{books-seen}
use Rattle.hv_law_whole.proofs.WholeLemmas.{directories-whole}

-- ---- ids up to a watermark have ended

closed-end : (b : Bool) (e : Option Ending) → is_none e ≡ false → is_open (fate_by b (Some (earlier_fates.fate_by e))) ≡ false
closed-end b None is = cc
closed-end b (Some (ending.Committed place wrote)) is = refl
closed-end true (Some (ending.Aborted place cause)) is = refl
closed-end false (Some (ending.Aborted place cause)) is = refl
closed-end b (Some (ending.Made place table)) is = refl
closed-end b (Some (ending.Dropped place table)) is = refl

closed : (b : Bool) (o : Option Transaction) → is_open_one o ≡ false → is_open (fate_by b (option_map earlier_fates.fate_of o)) ≡ false
closed b None is = refl
closed b (Some t) is = closed-end b t.ending is

module _ (ts : List Transaction) (forgotten : List ℕ) where
  abbrev fates : List earlier.Fate
  fates = map earlier_fates.fate_of ts

  abbrev EndedAt : ℕ → ℕ → List ℕ → Type 0
  EndedAt k first owners = (fate : Fate) × (slice_get (fates_from fates forgotten first owners) k ≡ Some fate) × (is_open fate ≡ false)

  ended-first : (first txn : ℕ) (owners : List ℕ) → is_open_one (numbered ts txn) ≡ false → EndedAt 0 first (txn ∷ owners)
  ended-first first txn owners is =
      let forgot : Bool = list_any (λ other. other == first) forgotten in (
        fate_by forgot (numbered fates txn),
        refl,
        ap (λ o. is_open (fate_by forgot o)) (numbered-map earlier_fates.fate_of ts txn) ∙ closed forgot (numbered ts txn) is,
      )

  ended-by : (first txn : ℕ) (owners : List ℕ) → ((k : ℕ) → k < ended_front ts owners → EndedAt k (first + 1) owners)
      → (b : Bool) → is_open_one (numbered ts txn) ≡ b → (k : ℕ) → k < (if b then 0 else ended_front ts owners + 1) → EndedAt k first (txn ∷ owners)
  ended-by first txn owners rest true is k below = absurd (omega (arith, below))
  ended-by first txn owners rest false is zero below = ended-first first txn owners is
  ended-by first txn owners rest false is (suc k) below = rest k (omega (arith, below))

  ended-at : (first : ℕ) (owners : List ℕ) (k : ℕ) → k < ended_front ts owners → EndedAt k first owners
  ended-at first [] k below = absurd (omega (arith, below))
  ended-at first (txn ∷ owners) k below = ended-by first txn owners (ended-at (first + 1) owners) (is_open_one (numbered ts txn)) refl k below

owners-same : (o : Option Table) → ids_of o ≡ owners_in o
owners-same None = refl
owners-same (Some t) = refl

have-ended : (s : State) (table most : ℕ) → most ≤ watermark s table → HaveEnded (fates_in s table) most
have-ended s table most le zero first within = absurd (omega (arith, first))
have-ended s table most le (suc k) first within =
    let same : watermark s table ≡ ended_front s.transactions (owners_in (numbered s.tables table)) =
    ap (ended_front s.transactions) (owners-same (numbered s.tables table))
    in
    ended-at s.transactions (forgotten_in (numbered s.tables table)) 1 (owners_in (numbered s.tables table)) k (omega (arith, le, within, same))

-- ---- the compactions of a partition

-- it is of a job that was published with that range
pub record IsPublished (s : State) (table : ℕ) (partition : List ℕ) (c : Compaction) : Type 0 where
  pub number : ℕ
  pub job : Job
  pub is : numbered s.jobs number ≡ Some job
  pub here : is_job_of table partition job ≡ true
  pub range : ℕ × ℕ × ℕ
  pub published : job.published ≡ Some range
  pub same : compaction_of job.kind range ≡ c

one-range : (k : JobKind) (o : Option (ℕ × ℕ × ℕ)) (c : Compaction) → IsIn c (compactions_by k o) → (range : ℕ × ℕ × ℕ) × (o ≡ Some range) × (compaction_of k range ≡ c)
one-range k None c at = absurd at
one-range k (Some range) c (inl e) = (range, refl, e)
one-range k (Some range) c (inr at) = absurd at

pub is-published : (s : State) (table : ℕ) (partition : List ℕ) (c : Compaction) → IsIn c (published_in s table partition) → IsPublished s table partition c
is-published s table partition c at =
    let of = from-flat compactions_of c (jobs_of table partition s.jobs) at in
    let among = from-filter (is_job_of table partition) of.0 s.jobs of.1 in
    let there = numbered-at s.jobs of.0 among.0 in
    let range = one-range of.0.kind of.0.published c of.2 in
    record { number = there.0; job = of.0; is = there.1; here = among.1; range = range.0; published = range.1; same = range.2 }

end-is : (k : JobKind) (range : ℕ × ℕ × ℕ) → end_of (compaction_of k range) ≡ range.1
end-is kind.Minor range = refl
end-is kind.Major range = refl

mark-as : (k : JobKind) (range : ℕ × ℕ × ℕ) → mark_of (compaction_of k range) ≡ range.2
mark-as kind.Minor range = refl
mark-as kind.Major range = refl

-- a job's range, in the state that has it
range-of : (s : State) (job : Job) (o : Option (ℕ × ℕ × ℕ)) (range : ℕ × ℕ × ℕ) → o ≡ Some range → HasSoundRange s job o
    → IsSoundRange s job.table job.partition range.0 range.1 range.2
range-of s job None range e sound = cc
range-of s job (Some other) range e sound =
    let same : other ≡ range = cc in
    subst (λ (r : ℕ × ℕ × ℕ). IsSoundRange s job.table job.partition r.0 r.1 r.2) same sound

sound-range : (s : State) → AreSoundJobs s → (number : ℕ) (job : Job) (range : ℕ × ℕ × ℕ) → numbered s.jobs number ≡ Some job → job.published ≡ Some range
    → IsSoundRange s job.table job.partition range.0 range.1 range.2
sound-range s sound number job range is published =
    range-of s job job.published range published (all-numbered (IsSoundJob s) s.jobs number job is sound.each).range

first-part : Compaction → ℕ
first-part (Minor first last mark) = first
first-part (Major last mark) = 0

minor-is : (k : JobKind) (range : ℕ × ℕ × ℕ) (first last mark : ℕ) → compaction_of k range ≡ Minor first last mark → (range.0 ≡ first) × (range.1 ≡ last)
unfolding first-part
minor-is kind.Minor range first last mark e = (ap first-part e, ap end_of e)
minor-is kind.Major range first last mark e = cc

pub major-is : (k : JobKind) (range : ℕ × ℕ × ℕ) (last mark : ℕ) → compaction_of k range ≡ Major last mark → range.1 ≡ last
major-is kind.Minor range last mark e = cc
major-is kind.Major range last mark e = ap end_of e

front-jobs-fit : (limits : Limits) (entries : List Entry) (s : State) (place : ℕ) → AllFit limits s entries → AllFit limits s (take place entries)
front-jobs-fit limits entries s zero fit = tt
front-jobs-fit limits [] s (suc place) fit = tt
front-jobs-fit limits (event ∷ entries) s (suc place) fit = (fit.0, front-jobs-fit limits entries (after s event) place fit.1)

-- ---- what is known of them

module _ (entries : List Entry) (fit : AllFit profile nothing_yet entries) where
  abbrev s : State
  s = state_of entries

  sound : IsSoundBook s
  sound = books-are-sound profile entries fit

  -- a job at a place has the table that it has at the end
  table-then : (place number : ℕ) (job old : Job) → numbered s.jobs number ≡ Some job → numbered (state_of (take place entries)).jobs number ≡ Some old
      → old.table ≡ job.table
  table-then place number job old is was =
      let before : State = state_of (take place entries) in
      let split : s ≡ fold after before (drop place entries) =
      ap (λ (book : List Entry). state_of book) (sym (take-append-drop place entries)) ∙ fold-append after nothing_yet (take place entries) (drop place entries)
      in
      let last = found (JobLater old) (numbered (fold after before (drop place entries)).jobs number) (jobs-last before (drop place entries) number old was) in
      let same : last.0 ≡ job =
      same_one (numbered s.jobs number) last.0 job (ap (λ (state : State). numbered state.jobs number) split ∙ last.1) is
      in
      sym last.2.table ∙ ap (λ (j : Job). j.table) same

  module _ (table : ℕ) (partition : List ℕ) where
    abbrev jobs : List Compaction
    jobs = published_in s table partition

    abbrev most : ℕ
    most = length (owners_in (numbered s.tables table))

    abbrev Range : (c : Compaction) → IsPublished s table partition c → Type 0
    Range c p = IsSoundRange s p.job.table p.job.partition p.range.0 p.range.1 p.range.2

    range-at : (c : Compaction) (p : IsPublished s table partition c) → Range c p
    range-at c p = sound-range s sound.jobs p.number p.job p.range p.is p.published

    of-table : (c : Compaction) (p : IsPublished s table partition c) → p.job.table ≡ table
    of-table c p = (job-of-is table partition p.job p.here).0

    end-at : (c : Compaction) (p : IsPublished s table partition c) → end_of c ≡ p.range.1
    end-at c p = ap end_of (sym p.same) ∙ end-is p.job.kind p.range

    mark-at : (c : Compaction) (p : IsPublished s table partition c) → mark_of c ≡ p.range.2
    mark-at c p = ap mark_of (sym p.same) ∙ mark-as p.job.kind p.range

    below-most : (c : Compaction) (p : IsPublished s table partition c) → p.range.1 ≤ most
    below-most c p =
        let range = range-at c p in
        let ended = range.ended in
        let same : watermark s p.job.table ≡ watermark s table = ap (watermark s) (of-table c p) in
        let front = front-most s.transactions (ids_of (numbered s.tables table)) in
        let long : length (ids_of (numbered s.tables table)) ≡ most = ap length (owners-same (numbered s.tables table)) in
        omega (arith, ended, same, front, long)

    ended-now : (c : Compaction) → IsIn c jobs → HaveEnded (fates_in s table) (end_of c)
    ended-now c at =
        let p = is-published s table partition c at in
        let range = range-at c p in
        let ended = range.ended in
        let same : watermark s p.job.table ≡ watermark s table = ap (watermark s) (of-table c p) in
        let end = end-at c p in
        have-ended s table (end_of c) (omega (arith, ended, same, end))

    ended-then : (txn : ℕ) (t : Transaction) (snapshot : Snapshot) → numbered s.transactions txn ≡ Some t → t.snapshot ≡ Some snapshot
        → (c : Compaction) → IsIn c jobs → mark_of c ≤ txn → HaveEnded (fates_in (state_of (take snapshot.place entries)) table) (end_of c)
    ended-then txn t snapshot at taken c listed low =
        let p = is-published s table partition c listed in
        let mark = mark-at c p in
        let before : State = state_of (take snapshot.place entries) in
        let was = (books-seen profile entries fit).was txn t snapshot at taken p.number p.range (p.job, p.is, p.published) (omega (arith, low, mark)) in
        let sound_then = books-are-sound profile (take snapshot.place entries) (front-jobs-fit profile entries nothing_yet snapshot.place fit) in
        let range = sound-range before sound_then.jobs p.number was.0 p.range was.1 was.2 in
        let ended = range.ended in
        let same : watermark before was.0.table ≡ watermark before table =
        ap (watermark before) (table-then snapshot.place p.number p.job was.0 p.is was.1 ∙ of-table c p)
        in
        let end = end-at c p in
        have-ended before table (end_of c) (omega (arith, ended, same, end))

    known : AreKnown entries table jobs most
    known = record {
      ended = ended-now;
      seen = ended-then;
      marks = λ c at.
          let p = is-published s table partition c at in
          let mark = mark-at c p in
          let opened = (range-at c p).opened in
          let last = opened.1 in
          omega (arith, mark, last);
      minors = λ first last mark at.
          let p = is-published s table partition (Minor first last mark) at in
          let parts = minor-is p.job.kind p.range first last mark p.same in
          let range = range-at (Minor first last mark) p in
          let low = range.first in
          let order = range.order in
          let under = below-most (Minor first last mark) p in
          let first_is = parts.0 in
          let last_is = parts.1 in
          (omega (arith, low, first_is), omega (arith, order, first_is, last_is), omega (arith, under, last_is));
      majors = λ last mark at.
          let p = is-published s table partition (Major last mark) at in
          let last_is = major-is p.job.kind p.range last mark p.same in
          let range = range-at (Major last mark) p in
          let low = range.first in
          let order = range.order in
          let under = below-most (Major last mark) p in
          (omega (arith, low, order, last_is), omega (arith, under, last_is));
    }

-- ---- the files of a table

stored-write : (partition : List ℕ) (table : Table) (written : Written) → IsRoutedWrite table.info.shape written → IsEncoded table.info.shape written
    → IsStoredWrite table written
stored-write partition table written routed encoded = record {
  each = λ found here. record {
    said = all-in (IsSaid table.info.shape) written.inserts found encoded.said here;
    partition_is = (numbered-in partition table.info.shape written found routed here).partition_is;
  };
}

part-of : (read : Reading) (entries : List Entry) (table : Table) (partition : List ℕ) (files : disk.Tree) (tree : Tree Found)
    → AreOfBook read entries table partition files tree → IsPartOf read (state_of entries) table partition files tree
part-of read entries table partition files tree of =
    let s = state_of entries in
    let number = table.info.table.0 in
    let sound = books-are-sound profile entries of.fit in
    let named = all-named s of.few sound in
    let written = (all-numbered HasSoundWrites s.tables number table of.here sound.base.tables.written).each in
    let encoded = all-numbered AreEncoded s.tables number table of.here of.stand.encoded in
    record {
      reads = of.reads;
      standing = of.stand;
      here = of.here;
      live = of.live;
      names = all-numbered (HasNames s) s.tables number table of.here named.tables;
      stored = all-from (IsStoredWrite table) table.writes (λ w among.
          stored-write partition table w (all-in (IsRoutedWrite table.info.shape) table.writes w written among)
          (all-in (IsEncoded table.info.shape) table.writes w encoded among));
      directories = of.directories;
    }

-- ---- the laws

pub partitions-are-kept : PartitionsAreKept
partitions-are-kept read entries table partition files tree of =
    let s = state_of entries in
    let number = table.info.table.0 in
    kept-with profile entries number partition tree (published_in s number partition) (length (owners_in (numbered s.tables number))) of.fit
    (known entries of.fit number partition) (directories-whole read s table partition files tree (part-of read entries table partition files tree of))

pub readers-are-shown : ReadersAreShown
readers-are-shown read entries table partition files tree txn t snapshot of at open_one taken =
    let number = table.info.table.0 in
    let kept = partitions-are-kept read entries table partition files tree of in
    let of_place = snapshots-of-places-so profile entries txn t snapshot of.fit at taken in
    readers-in-order-so profile entries number partition (partition_with entries number partition tree) txn t snapshot of.fit
    (record { fates = refl; writes = refl; readers = refl }) kept at open_one taken
    ∙ ap (λ tables. rows_of partition (content_in (numbered tables number))) (sym of_place.tables_are)

pub end-is-shown : TheEndIsShown
end-is-shown read entries table partition files tree of =
    let s = state_of entries in
    let number = table.info.table.0 in
    let kept = partitions-are-kept read entries table partition files tree of in
    let whole : state_of (take s.entries entries) ≡ s =
    ap (λ n. state_of (take n entries)) (entries-are entries) ∙ ap (λ (book : List Entry). state_of book) (take_all (length entries) entries (omega arith))
    in
    ap (λ (state : State). rising_by (by_id id_of) (visible_rows id_of (sight_of (lists.list_in state number)) tree)) whole
    ∙ end-in-order profile entries number partition (partition_with entries number partition tree) of.fit (record { fates = refl; writes = refl; readers = refl }) kept

-- ---- a job at work

working-unpublished : (job : Job) → is_working job ≡ true → job.published ≡ None
working-unpublished job e =
    let parts = and_parts (is_some job.watermark) (is_none job.published && (not job.is_empty && is_none job.failure)) e in
    let more = and_parts (is_none job.published) (not job.is_empty && is_none job.failure) parts.1 in
    none-of job.published more.0
  where
    none-of : (o : Option (ℕ × ℕ × ℕ)) → is_none o ≡ true → o ≡ None
    none-of None e = refl
    none-of (Some range) e = cc

working-busy : (job : Job) → is_working job ≡ true → is_busy job ≡ true
working-busy job e = ap (λ b. is_initiated job || b) e ∙ or-true (is_initiated job)
  where
    or-true : (b : Bool) → (b || true) ≡ true
    or-true true = refl
    or-true false = refl

below-mark : (o : Option (ℕ × ℕ × ℕ)) (range : ℕ × ℕ × ℕ) (m : Option ℕ) (mark : ℕ) → o ≡ Some range → m ≡ Some mark → IsBelowMark o m → range.1 ≤ mark
below-mark None range m mark e f is = cc
below-mark (Some other) range None mark e f is = cc
below-mark (Some other) range (Some last) mark e f is =
    let same : other ≡ range = cc in
    let end : last ≡ mark = cc in
    let first = ap (λ (r : ℕ × ℕ × ℕ). r.1) same in
    omega (arith, is, end, first)

module _ (s : State) (sound : AreSoundJobs s) (table : ℕ) (partition : List ℕ) (number mark : ℕ) (job : Job) (is : numbered s.jobs number ≡ Some job)
    (here : is_job_of table partition job ≡ true) (working : is_working job ≡ true) (picked : job.watermark ≡ Some mark) where
  -- another job of its partition
  others : (other : Job) → is_job_of table partition other ≡ true → is_job_of other.table other.partition job ≡ true
  others other its =
      let mine = job-of-is table partition job here in
      let theirs = job-of-is table partition other its in
      job-of-from other.table other.partition job (mine.0 ∙ sym theirs.0) (mine.1 ∙ sym theirs.1)

  back : (other : Job) → is_job_of table partition other ≡ true → is_job_of job.table job.partition other ≡ true
  back other its =
      let mine = job-of-is table partition job here in
      let theirs = job-of-is table partition other its in
      job-of-from job.table job.partition other (theirs.0 ∙ sym mine.0) (theirs.1 ∙ sym mine.1)

  none-published : (range : ℕ × ℕ × ℕ) → job.published ≡ Some range → ⊥
  none-published range e = let both : None ≡ Some range = sym (working-unpublished job working) ∙ e in cc

  pub reaches : (c : Compaction) → IsPublished s table partition c → end_of c ≤ mark
  reaches c p = by (nat_lt p.number number) refl (nat_lt number p.number) refl
    where
      end : end_of c ≡ p.range.1
      end = ap end_of (sym p.same) ∙ end-is p.job.kind p.range

      by : (a : Bool) → nat_lt p.number number ≡ a → (b : Bool) → nat_lt number p.number ≡ b → end_of c ≤ mark
      by true less b e =
          let followed = in-order s.jobs p.number number p.job job sound.order (ltb-true p.number number less) p.is is (others p.job p.here) in
          let below = below-mark p.job.published p.range job.watermark mark p.published picked followed.below in
          let last = end in
          omega (arith, below, last)
      by false less true more =
          let followed = in-order s.jobs number p.number job p.job sound.order (ltb-true number p.number more) is p.is (back p.job p.here) in
          absurd (true≢false (sym (working-busy job working) ∙ followed.over))
      by false less false more =
          let low = ltb-false p.number number less in
          let high = ltb-false number p.number more in
          let same : p.number ≡ number = omega (arith, low, high) in
          let one : p.job ≡ job = same_one (numbered s.jobs number) p.job job (ap (numbered s.jobs) (sym same) ∙ p.is) is in
          absurd (none-published p.range (ap (λ (j : Job). j.published) (sym one) ∙ p.published))

-- ---- the writes up to a mark

kept-same : (p q : Write Found → Bool) (ws : List (Write Found)) → ((w : Write Found) → IsIn w ws → p w ≡ q w) → filter p ws ≡ filter q ws
kept-same p q [] same = refl
kept-same p q (w ∷ ws) same =
    (λ i. if same w (inl refl) i then w ∷ filter p ws else filter p ws) ∙ ap (λ rest. if q w then w ∷ rest else rest) (kept-same p q ws (λ v at. same v (inr at)))

written-up-to : (partition : List ℕ) (mark : ℕ) (writes : List Written)
    → filter (λ (w : Write Found). nat_le w.write mark) (writes_of partition writes) ≡ writes_of partition (filter (is_up_to mark) writes)
written-up-to partition mark [] = refl
written-up-to partition mark (written ∷ writes) = by (nat_le written.write mark) (written-up-to partition mark writes)
  where
    by : (b : Bool) → filter (λ (w : Write Found). nat_le w.write mark) (writes_of partition writes) ≡ writes_of partition (filter (is_up_to mark) writes)
        → (if b then write_in partition written ∷ filter (λ (w : Write Found). nat_le w.write mark) (writes_of partition writes)
        else filter (λ (w : Write Found). nat_le w.write mark) (writes_of partition writes))
        ≡ writes_of partition (if b then written ∷ filter (is_up_to mark) writes else filter (is_up_to mark) writes)
    by true rest = ap (λ ws. write_in partition written ∷ ws) rest
    by false rest = rest

shown-up-to : (s : State) (table : ℕ) (partition : List ℕ) (mark : ℕ) → IsSound s
    → writes_shown (sight_of (list_up_to mark (list_at (fates_in s table)))) (writes_in s table partition)
    ≡ writes_of partition (filter (is_up_to mark) (written_in (numbered s.tables table)))
shown-up-to s table partition mark base =
    let list = list_at (fates_in s table) in
    kept-same (λ (w : Write Found). (sight_of (list_up_to mark list)).valid w.write) (λ (w : Write Found). nat_le w.write mark) (writes_in s table partition)
    (λ w at.
    let done = committed-in s table partition base w at in
    (says-up-to mark list).valid w.write ∙ ap (λ b. nat_le w.write mark && b) (valid-same (fates_in s table) w.write done.counted ∙ ap is_seen done.fate_is)
    ∙ and-true (nat_le w.write mark))
    ∙ written-up-to partition mark (written_in (numbered s.tables table))
  where
    and-true : (b : Bool) → (b && true) ≡ b
    and-true true = refl
    and-true false = refl

-- the list of the end of a book
pub end-list : (entries : List Entry) (table : ℕ) → lists.list_at entries (state_of entries).entries table ≡ list_at (fates_in (state_of entries) table)
end-list entries table =
    let s = state_of entries in
    let whole : state_of (take s.entries entries) ≡ s =
    ap (λ n. state_of (take n entries)) (entries-are entries) ∙ ap (λ (book : List Entry). state_of book) (take_all (length entries) entries (omega arith))
    in
    ap (λ (state : State). lists.list_in state table) whole ∙ list-in s table

pub jobs-read : JobsReadUpToMark
jobs-read read entries table partition files tree number mark job of is here working picked =
    let s = state_of entries in
    let key = table.info.table.0 in
    let kept = partitions-are-kept read entries table partition files tree of in
    let sound = books-are-sound profile entries of.fit in
    ap (λ l. rising_by (by_id id_of) (visible_rows id_of (sight_of (list_up_to mark l)) tree)) (end-list entries key)
    ∙ shown-of partition (partition_with entries key partition tree) (list_up_to mark (list_at (fates_in s key))) (filter (is_up_to mark) (written_in (numbered s.tables key))) kept
    (inr (inr (mark, (λ c listed past. reaches s sound.jobs key partition number mark job is here working picked c (is-published s key partition c listed)), refl)))
    (shown-up-to s key partition mark sound.base)
    ∙ ap (λ o. rows_of partition (content_of (filter (is_up_to mark) (written_in o)))) of.here
