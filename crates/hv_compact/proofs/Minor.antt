-- What a minor job gathers of the files that it takes in a bucket are the records of its wide delta there.
use Rattle.std.proofs.Common.{◌≡◌, ◌≢◌, inr, ℕ, ◌≤◌, ◌==◌, ◌&&◌, nat_le, Bool, true, false, true≢false, List, [], ◌∷◌, filter, map, refl, sym, ap, ◌∙◌, subst, arith, eqb-true}
use Rattle.std.specs.Cmp.{IsTotalOrder, on_total}
use Rattle.std.specs.List.{flat_map, AllByRecursion}
use Rattle.std.specs.declared.cmp.Ordering.{Ordering}
use Rattle.std.specs.declared.cmp.Ordering.TheVariants.{Less, Equal}
use Rattle.std.proofs.lemmas.Bool.{and_parts, and_from}
use Rattle.hv_base.specs.Identifiers.{row_id_total}
use Rattle.hv_base.specs.Sorting.{rising_by}
use Rattle.hv_shelf.specs.Disk as disk
use Rattle.hv_shelf.specs.Disk.{places_of}
use Rattle.hv_logic.specs.declared.catalog.Shape.{Shape}
use Rattle.hv_logic.specs.declared.effect.Found.{Found}
use Rattle.hv_rowfile.specs.declared.record.Rec.{Rec}
use Rattle.hv_rowfile.specs.declared.record.Rec.TheVariants as rec
use Rattle.hv_rowfile.specs.Layout.{id_of as record_id}
use Rattle.hv_wids.specs.WriteIds.{WriteIds}
use Rattle.hv_dirs.specs.declared.names.DirName.{DirName}
use Rattle.hv_dirs.specs.Choice.{sight_of, Delta, Own, Wide}
use Rattle.hv_merge.specs.Gathering.{write_of, is_in_range, in_range, gathered}
use Rattle.hv_history.specs.declared.entry.Entry.{Entry}
use Rattle.hv_history.specs.declared.entry.JobKind.TheVariants as kind
use Rattle.hv_history.specs.declared.state.Table.{Table}
use Rattle.hv_history.specs.declared.state.Written.{Written}
use Rattle.hv_history.specs.State.{nothing_yet, state_of}
use Rattle.hv_history.specs.Legal.{profile, AllTruthful}
use Rattle.hv_history.specs.Jobs.{pieces_for}
use Rattle.hv_stands.specs.Files.{records_of}
use Rattle.hv_stands.specs.Sound.{IsRoutedWrite, HasSoundWrites}
use Rattle.hv_stands.proofs.Soundness.{all-numbered}
use Rattle.hv_choosing.specs.declared.dir.Dir.{Dir}
use Rattle.hv_choosing.specs.declared.dir.Dir.TheVariants as dir
use Rattle.hv_choosing.specs.declared.listing.DirFile.{DirFile}
use Rattle.hv_choosing.specs.Dirs.{name_of}
use Rattle.hv_choosing.specs.Listing.{AreListed}
use Rattle.hv_choosing.specs.Taken.{delta_name, files_taken}
use Rattle.hv_table_rows.specs.Amiss.{writer_of, IsWithin}
use Rattle.hv_table_rows.proofs.Shown.{IsOf, own-records}
use Rattle.hv_law_made.specs.Made.{has_written, rec_cmp, delta_recs, has_deletes, name_recs, made_recs}
use Rattle.hv_law_made.specs.Entries.{IsAtWork, IsSoundBook}
use Rattle.hv_law_made.proofs.BookLemmas.{books-are-sound}
use Rattle.hv_law_visible.specs.Members.{IsIn, HasNoTies}
use Rattle.hv_law_visible.specs.Visible.{Tree}
use Rattle.hv_law_visible.proofs.MemberLemmas.{in-flat, from-flat, in-map, from-map, in-filter, from-filter}
use Rattle.hv_law_visible.proofs.SortingLemmas.{Rises, Keyed, all-from, from-sorted, to-sorted, from-rising, to-rising, rises-rising, one-list, keyed-distinct}
use Rattle.hv_law_visible.proofs.TakenLemmas.{all-in}
use Rattle.hv_job_acts.specs.hv_acts.specs.hv_telling.specs.hv_house.specs.hv_law_read.specs.hv_law_whole.specs.hv_law_directories.specs.hv_law_partitions.proofs.IdLemmas.{numbered-in}
use Rattle.hv_job_acts.specs.hv_acts.specs.hv_telling.specs.hv_house.specs.hv_law_read.specs.hv_law_whole.specs.hv_law_directories.specs.Reading.{file_read}
use Rattle.hv_job_acts.specs.hv_acts.specs.hv_telling.specs.hv_house.specs.hv_law_read.specs.hv_law_whole.specs.hv_law_directories.proofs.DirLemmas.{number-same}
use Rattle.hv_job_acts.specs.hv_acts.specs.hv_telling.specs.hv_house.specs.hv_law_read.specs.hv_law_whole.specs.Gathered.{chosen_of}
use Rattle.hv_job_acts.specs.hv_acts.specs.hv_telling.specs.hv_house.specs.hv_law_read.specs.hv_law_whole.specs.Gathered as gathering
use Rattle.hv_job_acts.specs.hv_acts.specs.hv_telling.specs.hv_house.specs.hv_law_read.specs.hv_law_whole.proofs.GatherLemmas.{minor-jobs-gather}
use Rattle.hv_job_acts.specs.hv_job_calls.specs.Listing.{is_part}
use Rattle.hv_compact.specs.Gathering.{is_base, takes, is_taken, taken_in}
use Rattle.hv_compact.proofs.Taken as taken
use Rattle.hv_compact.proofs.Taken.{recs_made, IsWorkOf, IsChosen, chosen-kind, of-book, taken-of, has-taken}

-- ---- what rises has no ties

less-not : (o : Ordering) → o ≡ Less → o ≢ Equal
less-not o e f = let never : Less ≡ Equal = sym e ∙ f in cc

pub apart-rising : {X : Type 0} (cmp : X → X → Ordering) (xs : List X) → Rises cmp xs → HasNoTies cmp xs
apart-rising cmp [] up = tt
apart-rising cmp (x ∷ xs) up = (
  all-from (λ y. cmp x y ≢ Equal) xs (λ y at. less-not (cmp x y) (all-in (λ z. cmp x z ≡ Less) xs y up.0 at)),
  apart-rising cmp xs up.1,
)

pub rec-total : IsTotalOrder rec_cmp
rec-total = on_total record_id row_id_total

same-writer : (r : Rec) → writer_of r ≡ write_of r
same-writer (rec.Insert id row) = refl
same-writer (rec.Delete id by) = refl

-- ---- directories of deltas

pub delta-recs : (shape : Shape) (writes : List Written) (partition : List ℕ) (deletes : Bool) (d : Delta) (bucket : ℕ)
    → name_recs shape writes partition (delta_name deletes d) bucket ≡ delta_recs shape writes partition deletes d bucket
delta-recs shape writes partition deletes (Own write statement) bucket = refl
delta-recs shape writes partition deletes (Wide low high) bucket = refl

delta-of : (shape : Shape) (writes : List Written) (partition : List ℕ) (deletes : Bool) (d : Dir) (bucket : ℕ) → is_base d ≡ false → has_deletes (name_of d) ≡ deletes
    → (one : Delta) × (name_recs shape writes partition (name_of d) bucket ≡ delta_recs shape writes partition deletes one bucket)
delta-of shape writes partition deletes (dir.Base high) bucket base has = absurd (true≢false base)
delta-of shape writes partition deletes (dir.Own k write statement) bucket base has =
    (Own write.0 statement, ap (λ (b : Bool). delta_recs shape writes partition b (Own write.0 statement) bucket) has)
delta-of shape writes partition deletes (dir.Wide k low high) bucket base has =
    (Wide low.0 high.0, ap (λ (b : Bool). delta_recs shape writes partition b (Wide low.0 high.0) bucket) has)

not-base : (d : Dir) → takes kind.Minor d ≡ true → is_base d ≡ false
not-base (dir.Base high) e = absurd (true≢false (sym e))
not-base (dir.Own deletes write statement) e = refl
not-base (dir.Wide deletes low high) e = refl

takes-delta : (deletes : Bool) (one : Delta) (d : Dir) → name_of d ≡ delta_name deletes one → takes kind.Minor d ≡ true
takes-delta deletes (Own write statement) (dir.Base high) same = cc
takes-delta deletes (Wide low top) (dir.Base high) same = cc
takes-delta deletes one (dir.Own k write statement) same = refl
takes-delta deletes one (dir.Wide k low high) same = refl

-- ---- a minor job at work

module _ (book : List Entry) (now : Table) (files : disk.Tree) (n mark : ℕ) (by : IsWorkOf book now files n mark) (named : List DirFile)
    (listed : AreListed (places_of now.info.table files) named) (part : List DirFile)
    (its : AreListed (filter (is_part by.job.partition) (places_of now.info.table files)) part) where
  abbrev shape : Shape
  shape = now.info.shape

  abbrev writes : List Written
  writes = now.writes

  abbrev partition : List ℕ
  partition = by.job.partition

  abbrev list : WriteIds
  list = taken.list book now files n mark by

  abbrev tree : Tree Found
  tree = taken.tree book now files n mark by named listed

  abbrev Chosen : Bool → DirName → Type 0
  Chosen deletes called = IsChosen book now files n mark by named listed deletes called

  -- the records of a file, as the book makes them
  abbrev made_of : DirFile → List Rec
  made_of file = recs_made (made_recs (state_of book) file.place)

  abbrev recs_at : Bool → ℕ → Delta → List Rec
  recs_at deletes bucket d = delta_recs shape writes partition deletes d bucket

  abbrev those : Bool → ℕ → List DirFile
  those deletes bucket = taken_in kind.Minor bucket (files_taken deletes list part)

  sound : IsSoundBook (state_of book)
  sound = books-are-sound profile book by.fit

  routed : AllByRecursion (IsRoutedWrite shape) writes
  routed = (all-numbered HasSoundWrites (state_of book).tables now.info.table.0 now by.here sound.base.tables.written).each

  -- a record of a write has its id
  row-of : (w : Written) → IsIn w writes → (found : Found) → IsIn found w.inserts → IsOf shape w found
  row-of w among found at =
      let is = numbered-in partition shape w found (all-in (IsRoutedWrite shape) writes w routed among) at in
      record { write = is.write_is; statement = is.statement_is; partition = is.partition_is }

  write-is : (deletes : Bool) (bucket : ℕ) (w : Written) → IsIn w writes → (r : Rec) → IsIn r (records_of shape deletes partition bucket w) → write_of r ≡ w.write
  write-is deletes bucket w among r at =
      let within = all-in (IsWithin (record { low = w.write; high = w.write })) (records_of shape deletes partition bucket w) r
      (own-records shape deletes partition bucket w (all-from (IsOf shape w) w.inserts (row-of w among))) at in
      let least : w.write ≤ writer_of r = within.0 in
      let most : writer_of r ≤ w.write = within.1 in
      let same : writer_of r ≡ write_of r = same-writer r in
      omega (arith, least, most, same)

  -- one of a directory that is in the range is of the range
  ranged : (deletes : Bool) (bucket low high : ℕ) (d : Delta) (r : Rec) → IsIn r (recs_at deletes bucket d) → is_in_range low high r ≡ true
      → IsIn r (recs_at deletes bucket (Wide low high))
  unfolding delta_recs
  ranged deletes bucket low high d r at within =
      let w = from-flat (records_of shape deletes partition bucket) r (filter (has_written d) writes)
      (from-sorted rec_cmp r (flat_map (records_of shape deletes partition bucket) (filter (has_written d) writes)) at) in
      let kept = from-filter (has_written d) w.0 writes w.1 in
      let same : write_of r ≡ w.0.write = write-is deletes bucket w.0 kept.0 r w.2 in
      to-sorted rec_cmp r (flat_map (records_of shape deletes partition bucket) (filter (has_written (Wide low high)) writes))
      (in-flat (records_of shape deletes partition bucket) w.0 r (filter (has_written (Wide low high)) writes)
      (in-filter (has_written (Wide low high)) w.0 writes kept.0 (ap (λ (k : ℕ). nat_le low k && nat_le k high) (sym same) ∙ within)) w.2)

  -- ---- what is gathered of the files is of the range

  left-in : (deletes : Bool) (bucket low high : ℕ) (r : Rec) → IsIn r (flat_map (in_range low high) (map made_of (those deletes bucket)))
      → IsIn r (recs_at deletes bucket (Wide low high))
  left-in deletes bucket low high r at =
      let recs = from-flat (in_range low high) r (map made_of (those deletes bucket)) at in
      let file = from-map made_of recs.0 (those deletes bucket) recs.1 in
      let kept = from-filter (is_in_range low high) r recs.0 recs.2 in
      let of = from-filter (is_taken kind.Minor bucket) file.0 (files_taken deletes list part) file.1 in
      let both = and_parts (file.0.place.bucket == bucket) (takes kind.Minor file.0.dir) of.1 in
      let it = taken-of book now files n mark by named listed part its deletes file.0 of.0 in
      let one = delta-of shape writes partition deletes file.0.dir file.0.place.bucket (not-base file.0.dir both.1)
      (chosen-kind book now files n mark by named listed deletes (name_of file.0.dir) it.is_chosen) in
      let here : IsIn r (recs_at deletes file.0.place.bucket one.0) = subst (IsIn r) (sym file.2 ∙ it.recs_are ∙ one.1) kept.0 in
      ranged deletes bucket low high one.0 r
      (subst (λ (b : ℕ). IsIn r (recs_at deletes b one.0)) (eqb-true file.0.place.bucket bucket both.0) here) kept.1

  -- ---- and what is of the range is gathered of the files

  chosen-delta : (deletes : Bool) (d : Delta) → IsIn d (chosen_of deletes (sight_of list) tree) → Chosen deletes (delta_name deletes d)
  chosen-delta false d at = inr (d, at, refl)
  chosen-delta true d at = inr (d, at, refl)

  file-has : (deletes : Bool) (bucket low high : ℕ) (d : Delta) → IsIn d (chosen_of deletes (sight_of list) tree) → (r : Rec) → IsIn r (recs_at deletes bucket d)
      → is_in_range low high r ≡ true → IsIn r (flat_map (in_range low high) (map made_of (those deletes bucket)))
  file-has deletes bucket low high d among r at within =
      let there = subst (IsIn r) (sym (delta-recs shape writes partition deletes d bucket)) at in
      let it = has-taken book now files n mark by named listed part its deletes (delta_name deletes d) (chosen-delta deletes d among) bucket r there in
      let mine : is_taken kind.Minor bucket it.file ≡ true =
      and_from (it.file.place.bucket == bucket) (takes kind.Minor it.file.dir) (ap (λ (b : ℕ). b == bucket) it.bucket_is ∙ number-same bucket)
      (takes-delta deletes d it.file.dir it.name_is) in
      in-flat (in_range low high) (made_of it.file) r (map made_of (those deletes bucket))
      (in-map made_of it.file (those deletes bucket) (in-filter (is_taken kind.Minor bucket) it.file (files_taken deletes list part) it.taken mine))
      (in-filter (is_in_range low high) r (made_of it.file) (subst (IsIn r) (sym it.recs_are) there) within)

  module _ (truth : AllTruthful nothing_yet book) (work : IsAtWork (state_of book) n by.job) (minor : by.job.kind ≡ kind.Minor) (deletes : Bool) (bucket : ℕ) where
    abbrev low : ℕ
    low = (pieces_for (state_of book) by.job).low

    abbrev high : ℕ
    high = (pieces_for (state_of book) by.job).high

    abbrev wide : List Rec
    wide = recs_at deletes bucket (Wide low high)

    abbrev chosen : List Delta
    chosen = chosen_of deletes (sight_of list) tree

    -- of the directories it is so
    given : gathered low high (gathering.recs_of now partition deletes bucket chosen) ≡ wide
    given =
        minor-jobs-gather file_read book now partition files tree n mark by.job deletes bucket (of-book book now files n mark by named listed) truth work by.mine
        minor by.picked

    up : Rises rec_cmp wide
    unfolding gathered
    up = subst (Rises rec_cmp) given (rises-rising rec_cmp rec-total (flat_map (in_range low high) (gathering.recs_of now partition deletes bucket chosen)))

    keyed : Keyed rec_cmp wide
    keyed = keyed-distinct rec_cmp wide rec-total (apart-rising rec_cmp wide up)

    right-in : (r : Rec) → IsIn r wide → IsIn r (flat_map (in_range low high) (map made_of (those deletes bucket)))
    unfolding gathered
    right-in r at =
        let recs = from-flat (in_range low high) r (gathering.recs_of now partition deletes bucket chosen)
        (from-rising rec_cmp r (flat_map (in_range low high) (gathering.recs_of now partition deletes bucket chosen)) (subst (IsIn r) (sym given) at)) in
        let d = from-map (λ (one : Delta). delta_recs shape writes partition deletes one bucket) recs.0 chosen recs.1 in
        let kept = from-filter (is_in_range low high) r recs.0 recs.2 in
        file-has deletes bucket low high d.0 d.1 r (subst (IsIn r) (sym d.2) kept.0) kept.1

    pub minor-gathers : gathered low high (map made_of (those deletes bucket)) ≡ wide
    unfolding gathered
    minor-gathers =
        let all = flat_map (in_range low high) (map made_of (those deletes bucket)) in
        one-list rec_cmp rec-total (rising_by rec_cmp all) wide (rises-rising rec_cmp rec-total all) up
        (λ r at. left-in deletes bucket low high r (from-rising rec_cmp r all at))
        (λ r at. to-rising rec_cmp r all (λ x y p q e. keyed x y (left-in deletes bucket low high x p) (left-in deletes bucket low high y q) e) (right-in r at))
