-- What an open transaction reads of a table is what stood in it at its snapshot, and no file of it is amiss: each one that it takes stands, and
-- its records are of the write ids that its directory's name says.
use Rattle.std.proofs.Common.{refl, ◌≡◌, ℕ, ◌≤◌, ◌==◌, nat_le, Bool, true, false, Option, Some, None, List, [], ◌∷◌, filter, map, take, drop, sym, ap, ◌∙◌, subst, arith, eqb-true, leb-true}
use Rattle.std.specs.Prelude.{◌↔◌, if◌then◌else◌, not}
use Rattle.std.specs.Ordering.{is_eq}
use Rattle.std.specs.List.{flat_map, AllByRecursion}
use Rattle.std.specs.List.Sorted.{IsStrictlySortedBy}
use Rattle.std.proofs.lemmas.Bool.{and_parts}
use Rattle.std.proofs.lemmas.List.{take-append-drop}
use Rattle.std.proofs.lemmas.List.Kept.{IsStrictlySortedBy-filter}
use Rattle.hv_base.specs.Sorting.{sorted_by}
use Rattle.hv_shelf.specs.Disk as disk
use Rattle.hv_logic.specs.declared.catalog.Shape.{Shape}
use Rattle.hv_logic.specs.declared.catalog.TableInfo.{TableInfo}
use Rattle.hv_logic.specs.declared.effect.Found.{Found}
use Rattle.hv_logic.specs.Rows.{found_cmp}
use Rattle.hv_route.specs.Partitions.{partition_values}
use Rattle.hv_route.specs.Standing.{insert_record, stands_in}
use Rattle.hv_rowfile.specs.declared.record.Rec.{Rec}
use Rattle.hv_wids.specs.WriteIds.{WriteIds}
use Rattle.hv_dirs.specs.Choice.{sight_of, Delta, Own, Wide}
use Rattle.hv_history.specs.hv_meaning.specs.Needs.{rows_wanted}
use Rattle.hv_history.specs.declared.entry.Entry.{Entry}
use Rattle.hv_history.specs.declared.state.Table.{Table}
use Rattle.hv_history.specs.declared.state.Written.{Written}
use Rattle.hv_history.specs.State.{State, nothing_yet, state_of, is_deleted, content_of, content_in, content}
use Rattle.hv_history.specs.Legal.{profile, AllFit}
use Rattle.hv_earlier.specs.Lists as lists
use Rattle.hv_stands.specs.Files.{ending_of, records_of}
use Rattle.hv_stands.specs.Sound.{IsRoutedWrite, HasSoundWrites, IsOfCommitted, AreOfCommitted}
use Rattle.hv_stands.proofs.Numbers.{one_value, numbered-within}
use Rattle.hv_stands.proofs.Soundness.{all-numbered}
use Rattle.hv_stands.proofs.FileRecords.{by-id}
use Rattle.hv_stands.proofs.StandingRows.{found-total}
use Rattle.hv_stands.proofs.Written.{rows-stand}
use Rattle.hv_choosing.specs.declared.dir.Dir.{Dir}
use Rattle.hv_choosing.specs.declared.dir.Dir.TheVariants as listed_dir
use Rattle.hv_choosing.specs.declared.listing.DirFile.{DirFile}
use Rattle.hv_choosing.specs.Dirs.{name_of, span_of}
use Rattle.hv_choosing.specs.Listing.{AreListed}
use Rattle.hv_choosing.specs.Taken.{files_taken}
use Rattle.hv_law_whole.specs.hv_law_directories.specs.hv_table_rows.specs.Amiss.{IsWithin}
use Rattle.hv_law_whole.specs.hv_law_directories.specs.hv_table_rows.specs.Reading.{HoldsAt, sheet_file, partition_in, found_with, founds_in, at_of, is_gone, AreOnce, AreRows, IsSpoiled}
use Rattle.hv_law_whole.specs.hv_law_directories.specs.hv_table_rows.proofs.Members.{same-rising, one-of-rising, contained}
use Rattle.hv_law_whole.specs.hv_law_directories.specs.hv_table_rows.proofs.Shown.{IsOf, own-records}
use Rattle.hv_law_visible.specs.Members.{IsIn}
use Rattle.hv_law_visible.specs.Visible.{visible_rows, by_id}
use Rattle.hv_law_visible.proofs.MemberLemmas.{from-flat, in-map, in-filter, from-filter, from-map}
use Rattle.hv_law_visible.proofs.SortingLemmas.{from-sorted, all-from}
use Rattle.hv_law_visible.proofs.TakenLemmas.{all-in}
use Rattle.hv_law_whole.specs.hv_law_directories.specs.hv_law_partitions.specs.Partitions.{id_of, is_of, rows_of}
use Rattle.hv_law_whole.specs.hv_law_directories.specs.hv_law_partitions.proofs.ContentLemmas.{text-of, of-text}
use Rattle.hv_law_whole.specs.hv_law_directories.specs.hv_law_partitions.proofs.IdLemmas.{numbered-in}
use Rattle.hv_law_whole.specs.hv_law_directories.specs.hv_law_partitions.proofs.StateLemmas.{readers-see}
use Rattle.hv_law_whole.specs.hv_law_directories.specs.Reading.{file_read}
use Rattle.hv_law_whole.specs.hv_law_directories.specs.Directories.{directories_in}
use Rattle.hv_law_whole.specs.hv_law_directories.proofs.ReadingLemmas.{can-be-read}
use Rattle.hv_law_whole.specs.hv_law_directories.proofs.VisibleLemmas.{found-from, rows-visible}
use Rattle.hv_law_whole.specs.hv_law_made.specs.Made.{has_written, rec_cmp, delta_recs, is_up_to, rows_up_to, base_recs, name_recs, has_deletes, has_rows, if_bare, bare_file, some_or, name_file}
use Rattle.hv_law_whole.specs.hv_law_made.specs.Standing.{is_live_table, is_live_at}
use Rattle.hv_law_whole.specs.hv_law_made.proofs.BookLemmas.{books-are-sound}
use Rattle.hv_law_read.specs.Reading.{ReadsAt, RowsStood, NoneWasSpoiled}
use Rattle.hv_law_read.proofs.NeedLemmas.{needed-stands, fit-parts}
use Rattle.hv_law_read.proofs.TakenLemmas.{part, kept, at-here, file-of, later, read-by, listed-now, list-now, taken-is-needed}

-- ---- the records of a directory are of its write ids

-- writes of a table: each has an id above none, and its rows carry it
pub record AreReadable (shape : Shape) (writes : List Written) : Type 0 where
  pub counted : (w : Written) → IsIn w writes → 1 ≤ w.write
  pub routed : (w : Written) → IsIn w writes → IsRoutedWrite shape w

module _ (shape : Shape) (writes : List Written) (are : AreReadable shape writes) (partition : List ℕ) (bucket : ℕ) where
  abbrev AreWithin : ℕ → ℕ → List Rec → Type 0
  AreWithin low high recs = AllByRecursion (IsWithin (record { low = low; high = high })) recs

  -- a row says which write inserted it
  row-of : (w : Written) → IsIn w writes → (found : Found) → IsIn found w.inserts → IsOf shape w found
  row-of w among found at =
      let is = numbered-in partition shape w found (are.routed w among) at in
      record { write = is.write_is; statement = is.statement_is; partition = is.partition_is }

  write-within : (deletes : Bool) (w : Written) → IsIn w writes → (r : Rec) → IsIn r (records_of shape deletes partition bucket w)
      → IsWithin (record { low = w.write; high = w.write }) r
  write-within deletes w among r at =
      all-in (IsWithin (record { low = w.write; high = w.write })) (records_of shape deletes partition bucket w) r
      (own-records shape deletes partition bucket w (all-from (IsOf shape w) w.inserts (row-of w among))) at

  -- of a delta, those of its range
  delta-within : (deletes : Bool) (d : Delta) (low high : ℕ) → ((w : Written) → has_written d w ≡ true → (low ≤ w.write) × (w.write ≤ high))
      → AreWithin low high (delta_recs shape writes partition deletes d bucket)
  unfolding delta_recs
  delta-within deletes d low high range =
      all-from (IsWithin (record { low = low; high = high }))
      (sorted_by rec_cmp (flat_map (records_of shape deletes partition bucket) (filter (has_written d) writes)))
      (λ r at.
      let of = from-flat (records_of shape deletes partition bucket) r (filter (has_written d) writes)
      (from-sorted rec_cmp r (flat_map (records_of shape deletes partition bucket) (filter (has_written d) writes)) at) in
      let kept = from-filter (has_written d) of.0 writes of.1 in
      let within = write-within deletes of.0 kept.0 r of.2 in
      let its = range of.0 kept.1 in
      let first = within.0 in
      let last = within.1 in
      let least = its.0 in
      let most = its.1 in
      (omega (arith, first, least), omega (arith, last, most)))

  -- of a base, those up to its number
  base-within : (high : ℕ) → AreWithin 1 high (base_recs shape writes partition high bucket)
  unfolding base_recs content_of
  base-within high =
      all-from (IsWithin (record { low = 1; high = high })) (map (insert_record shape) (filter (stands_in partition bucket) (rows_up_to writes high)))
      (λ r at.
      let row = from-map (insert_record shape) r (filter (stands_in partition bucket) (rows_up_to writes high)) at in
      let stood = from-filter (stands_in partition bucket) row.0 (rows_up_to writes high) row.1 in
      subst (IsWithin (record { low = 1; high = high })) row.2 (inserted row.0 stood.0))
    where
      inserted : (found : Found) → IsIn found (rows_up_to writes high) → IsWithin (record { low = 1; high = high }) (insert_record shape found)
      inserted found at =
          let ups = filter (is_up_to high) writes in
          let rows = flat_map (λ (w : Written). w.inserts) ups in
          let left = from-filter (λ row. not (is_deleted ups row)) found rows
          (from-sorted found_cmp found (filter (λ row. not (is_deleted ups row)) rows) at) in
          let of = from-flat (λ (w : Written). w.inserts) found ups left.0 in
          let up = from-filter (is_up_to high) of.0 writes of.1 in
          let is = row-of of.0 up.0 found of.2 in
          let write = is.write in
          let first = are.counted of.0 up.0 in
          let last = leb-true of.0.write high up.1 in
          (omega (arith, write, first), omega (arith, write, last))

  name-within : (d : Dir) → AllByRecursion (IsWithin (span_of d)) (name_recs shape writes partition (name_of d) bucket)
  name-within (listed_dir.Base high) = base-within high.0
  name-within (listed_dir.Own deletes write statement) =
      delta-within deletes (Own write.0 statement) write.0 write.0
      (λ w is.
      let same = eqb-true w.write write.0 (and_parts (w.write == write.0) (w.statement == statement) is).0 in
      (omega (arith, same), omega (arith, same)))
  name-within (listed_dir.Wide deletes low high) =
      delta-within deletes (Wide low.0 high.0) low.0 high.0
      (λ w is.
      let both = and_parts (nat_le low.0 w.write) (nat_le w.write high.0) is in
      (leb-true low.0 w.write both.0, leb-true w.write high.0 both.1))

  -- its file has those, or none
  some-within : (d : Dir) (deletes : Bool) (recs : List Rec) (other : Option (Bool × List Rec)) (file : Bool × List Rec) → some_or deletes recs other ≡ Some file
      → AllByRecursion (IsWithin (span_of d)) recs → (other ≡ Some file → AllByRecursion (IsWithin (span_of d)) file.1) → AllByRecursion (IsWithin (span_of d)) file.1
  some-within d deletes [] other file e within bare = bare e
  some-within d deletes (r ∷ recs) other file e within bare =
      subst (λ (f : Bool × List Rec). AllByRecursion (IsWithin (span_of d)) f.1) (one_value (deletes, r ∷ recs) file e) within

  bare-within : (d : Dir) (rows : Bool) (k : ℕ) (file : Bool × List Rec) → if_bare rows k ≡ Some file → AllByRecursion (IsWithin (span_of d)) file.1
  bare-within d true k file e = cc
  bare-within d false k file e = by (k == 0) e
    where
      by : (b : Bool) → (if b then Some (false, []) else None) ≡ Some file → AllByRecursion (IsWithin (span_of d)) file.1
      by true same = subst (λ (f : Bool × List Rec). AllByRecursion (IsWithin (span_of d)) f.1) (one_value (false, []) file same) tt
      by false same = cc

  bare-of : (d e : Dir) (file : Bool × List Rec) → bare_file writes partition (name_of e) bucket ≡ Some file → AllByRecursion (IsWithin (span_of d)) file.1
  bare-of d (listed_dir.Base high) file e = bare-within d (has_rows writes partition high.0) bucket file e
  bare-of d (listed_dir.Own deletes write statement) file e = cc
  bare-of d (listed_dir.Wide deletes low high) file e = cc

  pub file-within : (d : Dir) (file : Bool × List Rec) → name_file shape writes partition (name_of d) bucket ≡ Some file → AllByRecursion (IsWithin (span_of d)) file.1
  unfolding name_file
  file-within d file e =
      some-within d (has_deletes (name_of d)) (name_recs shape writes partition (name_of d) bucket) (bare_file writes partition (name_of d) bucket) file e
      (name-within d) (bare-of d d file)

-- ---- a transaction that reads a table

module _ (book : List Entry) (txn place : ℕ) (table : Table) (files : disk.Tree) (at : ReadsAt book txn place table files) where
  abbrev before : State
  before = state_of (take place book)

  abbrev number : ℕ
  number = table.info.table.0

  abbrev list : WriteIds
  list = lists.list_at book place number

  fit-before : AllFit profile nothing_yet (take place book)
  fit-before =
      (fit-parts nothing_yet (take place book) (drop place book) (subst (AllFit profile nothing_yet) (sym (take-append-drop place book)) at.fit)).0

  content-up : IsStrictlySortedBy found_cmp (content_of table.writes)
  content-up = (rows-stand before number table (books-are-sound profile (take place book) fit-before).base at.stood).up

  -- the table as it is has such writes
  readable : AreReadable (later book txn place table files at).0.info.shape (later book txn place table files at).0.writes
  readable =
      let its = (later book txn place table files at).0 in
      let by = read-by book txn place table files at in
      let sound = books-are-sound profile book at.fit in
      record {
        counted = λ w among.
            let of = all-in (IsOfCommitted (map ending_of (state_of book).transactions) its.owners) its.writes w
            (all-numbered (AreOfCommitted (map ending_of (state_of book).transactions)) (state_of book).tables its.info.table.0 its by.here sound.base.committed) among in
            (numbered-within its.owners w.write of.0 of.1).0;
        routed = λ w among.
            all-in (IsRoutedWrite its.info.shape) its.writes w
            (all-numbered HasSoundWrites (state_of book).tables its.info.table.0 its by.here sound.base.tables.written).each among;
      }

  -- ---- rows

  module _ (wants : List ℕ → Bool) (rows : List Found) (are : AreRows wants table.info list files rows) where
    abbrev IsShown : TableInfo → ℕ → List ℕ → Found → Type 0
    IsShown info p partition found =
        IsIn found (visible_rows id_of (sight_of (lists.list_at book p info.table.0)) (directories_in file_read info partition files are.named))
        ↔ (IsIn found (content (state_of (take p book)) info.table.0) × (found.partition ≡ partition))

    -- each directory's rows that are shown stood
    sees : (partition : List ℕ) (found : Found) → IsShown table.info place partition found
    sees partition found =
        let its = later book txn place table files at in
        let by = read-by book txn place table files at in
        let named = are.named in
        let listed = listed-now book txn place table files at are.named are.listed in
        subst (λ p. IsShown table.info p partition found) at.place_is
        (subst (λ (info : TableInfo). IsShown info at.snapshot.place partition found) its.2.info
        (readers-see profile book its.0.info.table.0 partition (part book its.0 files txn by named listed partition) txn at.transaction at.snapshot found at.fit
        (record { fates = refl; writes = refl; readers = refl }) (kept book its.0 files txn by named listed partition) at.here at.unended at.taken))

    content-is : content before number ≡ content_of table.writes
    content-is = ap content_in at.stood

    shows : (partition : List ℕ) → wants partition ≡ true
        → AreOnce (by_id id_of) (visible_rows id_of (sight_of list) (directories_in file_read table.info partition files are.named)) (rows_of partition rows)
    shows partition wanted = rows-visible file_read wants table.info list partition files rows can-be-read are wanted

    -- a row that is read is of a partition that is wanted, since its file is
    row-wanted : (found : Found) → IsIn found rows → wants found.partition ≡ true
    row-wanted found among =
        let inserts = are.inserts in
        let left = from-filter (λ (row : Found). not (is_gone are.gone (at_of row))) found are.inserted (are.rows_are.among found among) in
        let at = from-flat (founds_in list table.info.shape) found inserts.sheets (subst (IsIn found) inserts.items_are left.0) in
        let part = partition_in at.0 in
        let file = from-filter (λ (one : DirFile). wants one.place.partition) at.0.file (files_taken false list are.named)
        (subst (IsIn at.0.file) inserts.files_are (in-map sheet_file at.0 inserts.sheets at.1)) in
        let of = from-flat (found_with list part (partition_values table.info.shape.parts part)) found at.0.recs at.2 in
        ap wants (found-from list table.info.shape part found of.0 of.2).here ∙ file.1

    rows-in : (found : Found) → IsIn found rows → IsIn found (content_of table.writes)
    rows-in found among =
        let here = in-filter (is_of found.partition) found rows among (of-text found.partition found.partition refl) in
        subst (IsIn found) content-is ((sees found.partition found).0 ((shows found.partition (row-wanted found among)).among found here)).0

    in-rows : (found : Found) → IsIn found (content_of table.writes) → wants found.partition ≡ true → IsIn found rows
    in-rows found stood wanted =
        let shown = (sees found.partition found).1 (subst (IsIn found) (sym content-is) stood, refl) in
        let other = (shows found.partition wanted).every found shown in
        let kept_one = from-filter (is_of found.partition) other.0 rows other.1 in
        let part_is : other.0.partition ≡ found.partition = text-of other.0.partition found.partition kept_one.1 in
        let one : found ≡ other.0 =
        one-of-rising found_cmp found-total (content_of table.writes) content-up found other.0 stood (rows-in other.0 kept_one.0)
        (ap is_eq (by-id found other.0 (sym part_is)) ∙ other.2) in
        subst (λ (x : Found). IsIn x rows) (sym one) kept_one.0

    abbrev is_wanted : Found → Bool
    is_wanted found = wants found.partition

    pub all-stood : rows ≡ rows_wanted wants (content_of table.writes)
    all-stood =
        same-rising found_cmp found-total rows (rows_wanted wants (content_of table.writes)) are.rows_are.up
        (IsStrictlySortedBy-filter found_cmp is_wanted (content_of table.writes) content-up)
        (λ found among. in-filter is_wanted found (content_of table.writes) (rows-in found among) (row-wanted found among))
        (λ found stood. let at = from-filter is_wanted found (content_of table.writes) stood in in-rows found at.0 at.1)

  -- ---- files

  -- each one that is taken stands, with records of its write ids
  pub stands-with : (kind : Bool) (named : List DirFile) → AreListed (disk.places_of table.info.table files) named → (file : DirFile) → IsIn file (files_taken kind list named)
      → (recs : List Rec) × HoldsAt files file.place kind (span_of file.dir) recs
  stands-with kind named are_listed file taken =
      let its = (later book txn place table files at).0 in
      let by = read-by book txn place table files at in
      let listed = listed-now book txn place table files at named are_listed in
      let taken_now = subst (λ (l : WriteIds). IsIn file (files_taken kind l named)) (list-now book txn place table files at) taken in
      let needed = taken-is-needed book txn place table files kind named file at are_listed taken in
      let here = at-here book its files txn by named listed kind file taken_now in
      let live : is_live_at (state_of book) file.place ≡ true = ap is_live_table here ∙ by.live in
      let stands = needed-stands (state_of book) files txn at.transaction file.place kind needed.recs (books-are-sound profile book at.fit) at.stands
      at.here at.unended live needed.needed in
      let within = file-within its.info.shape its.writes readable file.place.partition file.place.bucket file.dir (kind, needed.recs)
      (file-of book its files txn by named listed kind file taken_now needed.recs needed.needed.made) in
      (needed.recs, record { file = stands.encodes.file; own = within; bytes = stands.is ∙ ap Some stands.encodes.bytes_are })

  pub never-spoiled : IsSpoiled table.info list files → ⊥
  never-spoiled spoiled =
      let kind = spoiled.deletes in
      let taken = contained (files_taken kind list spoiled.named) spoiled.lacks.one spoiled.lacks.among in
      let holds = stands-with kind spoiled.named spoiled.listed spoiled.lacks.one taken in
      spoiled.lacks.lacks holds.0 holds.1

pub rows-stood : RowsStood
rows-stood book txn place table files wants rows at are = all-stood book txn place table files at wants rows are

pub none-was-spoiled : NoneWasSpoiled
none-was-spoiled book txn place table files at spoiled = never-spoiled book txn place table files at spoiled
