-- The directories of a partition, of one kind: each that the history makes may be gone, or it stands with its records, over all its
-- buckets; and what else stands is an own one of a write id that isn't committed.
use Rattle.std.proofs.Common.{refl, ◌≡◌, ◌⊎◌, inl, inr, ℕ, zero, suc, ◌+◌, ◌<◌, ◌==◌, Bool, true, false, Option, Some, None, List, [], ◌∷◌, filter, map, option_map, sym, ap, ◌∙◌, subst, arith, eqb-true, true≢false}
use Rattle.std.specs.Prelude.{◌↔◌}
use Rattle.std.specs.FinMap as finmap
use Rattle.std.specs.List.{flat_map, list_any, slice_get}
use Rattle.std.proofs.lemmas.Bool.{and_parts}
use Rattle.hv_shelf.specs.declared.place.Place.{Place}
use Rattle.hv_shelf.specs.Disk as disk
use Rattle.hv_logic.specs.declared.effect.Found.{Found}
use Rattle.hv_rowfile.specs.declared.record.Rec.{Rec}
use Rattle.hv_rowfile.specs.Layout.{file_spelling}
use Rattle.hv_dirs.specs.declared.names.DirName.{DirName}
use Rattle.hv_dirs.specs.declared.names.DirName.TheVariants as dir
use Rattle.hv_dirs.specs.Names.{IsName, text_of, write_end}
use Rattle.hv_dirs.specs.Choice.{Delta, Own, Wide}
use Rattle.hv_dirs.proofs.NameLemmas as texts
use Rattle.hv_choosing.specs.Taken.{delta_name}
use Rattle.hv_history.specs.declared.state.Ending.{Ending}
use Rattle.hv_history.specs.declared.state.Ending.TheVariants as ending
use Rattle.hv_history.specs.declared.state.Transaction.{Transaction}
use Rattle.hv_history.specs.declared.state.Table.{Table}
use Rattle.hv_history.specs.declared.state.Written.{Written}
use Rattle.hv_history.specs.State.{State, Job, numbered}
use Rattle.hv_book.specs.Past.{owners_in, forgotten_in}
use Rattle.hv_earlier.specs.Fates as earlier_fates
use Rattle.hv_earlier.specs.declared.fates.Fate as earlier
use Rattle.hv_earlier.specs.declared.fates.Fate.TheVariants as fate
use Rattle.hv_law_directories.specs.hv_stands.specs.Files.{records_of, ending_of}
use Rattle.hv_law_directories.specs.hv_stands.specs.Files as stands
use Rattle.hv_law_directories.specs.hv_stands.specs.Sound.{IsDone, IsOfCommitted}
use Rattle.hv_law_directories.specs.hv_stands.proofs.Numbers.{one_value, same_one, numbered-map, either}
use Rattle.hv_history.specs.Jobs.{is_job_of, jobs_of}
use Rattle.hv_jobs.specs.Covers.{is_freed}
use Rattle.hv_law_made.specs.Made.{has_written, rec_cmp, delta_recs, base_recs, some_or, name_file, names_in, is_made, made_recs, is_spare}
use Rattle.hv_law_made.specs.Standing.{HasFile, is_live_table, is_live_at, MayHold, Standing}
use Rattle.hv_law_visible.specs.Members.{IsIn}
use Rattle.hv_law_visible.specs.History.{Write, Compaction, has_write, IsMade, IsMadeBase}
use Rattle.hv_law_visible.specs.Stands.{IsLoose, IsLooseBase, IsForeign, Stand}
use Rattle.hv_law_visible.specs.Snapshots.{IsUndone, fate_of}
use Rattle.hv_law_visible.specs.Readers.{IsPast}
use Rattle.hv_law_visible.proofs.MemberLemmas.{in-flat, from-flat, in-map, from-map, in-filter, from-filter}
use Rattle.hv_law_visible.proofs.SortingLemmas.{from-sorted, to-sorted}
use Rattle.hv_law_visible.proofs.TakenLemmas.{all-in}
use Rattle.hv_law_directories.specs.hv_law_partitions.specs.Partitions.{fate_by, fates_from, fates_in, write_in, writes_of}
use Rattle.hv_law_directories.specs.hv_law_partitions.specs.States.{open_from}
use Rattle.hv_law_directories.specs.Reading.{Reading, IsReading}
use Rattle.hv_law_directories.specs.Directories.{dir_of, base_name, IsThere, recs_in, inserted_by, rows_held}
use Rattle.hv_law_directories.proofs.DirLemmas.{IsInDir, in-dir, dir-in, from-recs, to-recs, delta-owned, base-not-owned}
use Rattle.hv_law_made.specs.Named.{HasNames}
use Rattle.hv_law_made.proofs.NamedLemmas.{file-named, file-from, names-are, recs-are, spare-by, spare-same}
use Rattle.hv_law_whole.specs.Whole.{IsStored, published_among}
use Rattle.hv_law_whole.proofs.BaseLemmas as based
use Rattle.hv_law_whole.proofs.JobLemmas.{freed-delta, freed-base}
use Rattle.hv_law_whole.proofs.NamedLemmas.{made-among, among-made, base-among, among-base}

-- ---- a write id that isn't committed, and isn't forgotten

lost-by : (e : Option Ending) → stands.IsUndone (Some e) → (earlier_fates.fate_by e ≡ fate.Open) ⊎ (earlier_fates.fate_by e ≡ fate.Aborted)
lost-by None undone = inl refl
lost-by (Some (ending.Committed place wrote)) undone = absurd undone
lost-by (Some (ending.Aborted place cause)) undone = inr refl
lost-by (Some (ending.Made place table)) undone = absurd undone
lost-by (Some (ending.Dropped place table)) undone = absurd undone

abbrev IsLost : Option earlier.Fate → Type 0
IsLost o = (o ≡ Some fate.Open) ⊎ (o ≡ Some fate.Aborted)

lost-of : (o : Option Transaction) → stands.IsUndone (option_map ending_of o) → IsLost (option_map earlier_fates.fate_of o)
lost-of None undone = absurd undone
lost-of (Some t) undone = elim (lost-by t.ending undone) [ inl e ↦ inl (ap Some e) | inr e ↦ inr (ap Some e) ]

lost-fate : (ts : List Transaction) (txn : ℕ) → stands.IsUndone (numbered (map ending_of ts) txn) → IsLost (numbered (map earlier_fates.fate_of ts) txn)
lost-fate ts txn undone =
    subst IsLost (sym (numbered-map earlier_fates.fate_of ts txn))
    (lost-of (numbered ts txn) (subst stands.IsUndone (numbered-map ending_of ts txn) undone))

module _ (fates : List earlier.Fate) (forgotten : List ℕ) where
  abbrev is_forgotten : ℕ → Bool
  is_forgotten write = list_any (λ (other : ℕ). other == write) forgotten

  fate-slice : (first : ℕ) (owners : List ℕ) (k txn : ℕ) → slice_get owners k ≡ Some txn
      → slice_get (fates_from fates forgotten first owners) k ≡ Some (fate_by (is_forgotten (first + k)) (numbered fates txn))
  fate-slice first [] k txn e = cc
  fate-slice first (owner ∷ owners) zero txn e =
      let same : first ≡ first + 0 = omega arith in
      ap (λ n. Some (fate_by (is_forgotten first) (numbered fates n))) (one_value owner txn e)
      ∙ ap (λ n. Some (fate_by (is_forgotten n) (numbered fates txn))) same
  fate-slice first (owner ∷ owners) (suc k) txn e =
      let same : first + 1 + k ≡ first + suc k = omega arith in
      fate-slice (first + 1) owners k txn e ∙ ap (λ n. Some (fate_by (is_forgotten n) (numbered fates txn))) same

  fate-numbered : (owners : List ℕ) (write txn : ℕ) → numbered owners write ≡ Some txn
      → fate_of (fates_from fates forgotten 1 owners) write ≡ Some (fate_by (is_forgotten write) (numbered fates txn))
  fate-numbered owners zero txn e = cc
  fate-numbered owners (suc k) txn e =
      let same : 1 + k ≡ suc k = omega arith in
      fate-slice 1 owners k txn e ∙ ap (λ n. Some (fate_by (is_forgotten n) (numbered fates txn))) same

  pub lost-id : (owners : List ℕ) (write txn : ℕ) → numbered owners write ≡ Some txn → is_forgotten write ≡ false → IsLost (numbered fates txn)
      → IsUndone (fates_from fates forgotten 1 owners) write
  lost-id owners write txn owner kept (inl e) =
      inl (fate-numbered owners write txn owner ∙ ap (λ b. Some (fate_by b (numbered fates txn))) kept ∙ ap (λ o. Some (fate_by false o)) e)
  lost-id owners write txn owner kept (inr e) =
      inr (fate-numbered owners write txn owner ∙ ap (λ b. Some (fate_by b (numbered fates txn))) kept ∙ ap (λ o. Some (fate_by false o)) e)

-- no transaction is both
done-undone : (o : Option (Option Ending)) → IsDone o → stands.IsUndone o → ⊥
done-undone None done undone = done
done-undone (Some None) done undone = done
done-undone (Some (Some (ending.Committed place wrote))) done undone = undone
done-undone (Some (Some (ending.Aborted place cause))) done undone = done
done-undone (Some (Some (ending.Made place table))) done undone = done
done-undone (Some (Some (ending.Dropped place table))) done undone = done

-- ---- files

pub some-whole : (deletes : Bool) (recs : List Rec) (file : Bool × List Rec) → some_or deletes recs None ≡ Some file → some_or deletes recs None ≡ Some (deletes, recs)
some-whole deletes [] file e = cc
some-whole deletes (r ∷ recs) file e = refl

pub some-first : (deletes : Bool) (recs : List Rec) (file : Bool × List Rec) → some_or deletes recs None ≡ Some file → (r : Rec) × IsIn r recs
some-first deletes [] file e = cc
some-first deletes (r ∷ recs) file e = (r, inl refl)

pub some-in : (deletes : Bool) (recs : List Rec) (other : Option (Bool × List Rec)) (r : Rec) → IsIn r recs → some_or deletes recs other ≡ Some (deletes, recs)
some-in deletes [] other r at = absurd at
some-in deletes (first ∷ recs) other r at = refl

staged-not-delta : (kind : Bool) (d : Delta) (job : ℕ) (name : List ℕ) → delta_name kind d ≡ dir.Staged (record { 0 = job }) name → ⊥
staged-not-delta kind (Own write statement) job name e = cc
staged-not-delta kind (Wide low high) job name e = cc

-- ---- a partition of a table, and the files beside a book

module _ (read : Reading) (reads : IsReading read) (state : State) (table : Table) (partition : List ℕ) (files : disk.Tree) (standing : Standing state files)
    (here : numbered state.tables table.info.table.0 ≡ Some table) (live : table.is_live ≡ true) (has : HasNames state table) where
  abbrev pub number : ℕ
  number = table.info.table.0

  abbrev pub jobs : List Job
  jobs = jobs_of number partition state.jobs

  abbrev pub all_names : List DirName
  all_names = names_in table.writes jobs

  abbrev pub spot : DirName → ℕ → Place
  spot name bucket = record { table = table.info.table; partition = partition; dir = text_of name; bucket = bucket }

  pub spot-is : (name : DirName) (place : Place) → IsInDir (dir_of table.info partition name) place → spot name place.bucket ≡ place
  spot-is name place within = λ i. record {
    table = record { 0 = sym within.table_is i };
    partition = sym within.partition_is i;
    dir = sym within.dir_is i;
    bucket = place.bucket;
  }

  pub are-names : (name : DirName) → IsIn name all_names → IsName name
  are-names = names-are table state.jobs jobs (λ job at. (from-filter (is_job_of number partition) job state.jobs at).0) has.writes has.jobs

  pub live-here : (name : DirName) (bucket : ℕ) → is_live_at state (spot name bucket) ≡ true
  live-here name bucket = ap is_live_table here ∙ live

  -- what the book makes in a directory of its own
  pub recs-of : (name : DirName) → IsName name → IsIn name all_names → (bucket : ℕ)
      → made_recs state (spot name bucket) ≡ name_file table.info.shape table.writes partition name bucket
  recs-of name is among bucket =
      recs-are state (spot name bucket) table here
      ∙ file-named table.info.shape table.writes (spot name bucket) all_names name are-names is among refl

  -- and the other way round
  pub record IsRecOf (name : DirName) (bucket : ℕ) (file : Bool × List Rec) : Type 0 where
    pub among : IsIn name all_names
    pub file_is : name_file table.info.shape table.writes partition name bucket ≡ Some file

  pub of-recs : (name : DirName) → IsName name → (bucket : ℕ) (file : Bool × List Rec) → made_recs state (spot name bucket) ≡ Some file → IsRecOf name bucket file
  of-recs name is bucket file e =
      let of = file-from table.info.shape table.writes (spot name bucket) all_names file (sym (recs-are state (spot name bucket) table here) ∙ e) in
      let one : of.name ≡ name = texts.text-same of.name name (are-names of.name of.among) is (sym of.dir_is) in
      record {
        among = subst (λ n. IsIn n all_names) one of.among;
        file_is = ap (λ n. name_file table.info.shape table.writes partition n bucket) (sym one) ∙ of.file_is;
      }

  -- a directory that a compaction frees
  pub record IsSpared (name : DirName) : Type 0 where
    pub among : IsIn name all_names
    pub made : is_made table.writes partition name ≡ true
    pub freed : is_freed state jobs name ≡ true

  pub spared : (name : DirName) → IsName name → (bucket : ℕ) → is_spare state (spot name bucket) ≡ true → IsSpared name
  spared name is bucket e =
      let by = spare-by state (spot name bucket) table here e in
      let one : by.name ≡ name = texts.text-same by.name name (are-names by.name by.among) is (sym by.dir_is) in
      record {
        among = subst (λ n. IsIn n all_names) one by.among;
        made = ap (is_made table.writes partition) (sym one) ∙ by.made;
        freed = ap (is_freed state jobs) (sym one) ∙ by.freed;
      }

  pub spare-alike : (name : DirName) (bucket other : ℕ) → is_spare state (spot name bucket) ≡ is_spare state (spot name other)
  spare-alike name bucket other = spare-same state (spot name other) bucket

  -- its file stands where it is needed
  pub filed : (name : DirName) → IsName name → IsIn name all_names → (bucket : ℕ) (deletes : Bool) (recs : List Rec)
      → name_file table.info.shape table.writes partition name bucket ≡ Some (deletes, recs) → is_spare state (spot name bucket) ≡ false
      → HasFile deletes bucket recs (finmap.get files (spot name bucket))
  filed name is among bucket deletes recs e needed =
      standing.made (spot name bucket) deletes recs (live-here name bucket) needed (recs-of name is among bucket ∙ e)

  pub read-file : (deletes : Bool) (bucket : ℕ) (recs : List Rec) (found : Option (List ℕ)) (bytes : List ℕ) → HasFile deletes bucket recs found → found ≡ Some bytes
      → read deletes bucket bytes ≡ recs
  read-file deletes bucket recs found bytes file is =
      let same : bytes ≡ file_spelling deletes bucket recs = same_one found bytes file.bytes is file.is ∙ file.encodes.bytes_are in
      ap (read deletes bucket) same ∙ reads deletes bucket recs file.encodes.file

  -- ---- an own directory of a write id that isn't committed

  pub record IsOfLost (place : Place) : Type 0 where
    pub deletes : Bool
    pub write : ℕ
    pub statement : ℕ
    pub dir_is : place.dir ≡ stands.own_dir deletes write statement
    pub few : write < write_end
    pub undone : IsUndone (fates_in state number) write
    pub uncommitted : (written : Written) → IsIn written table.writes → written.write ≡ write → ⊥

  pub loose-is : (place : Place) → place.table.0 ≡ number → stands.IsLoose state place → IsOfLost place
  loose-is place at loose =
      let own = loose.own in
      let same : own.table ≡ table = same_one (numbered state.tables place.table.0) own.table table own.is (ap (numbered state.tables) at ∙ here) in
      let owner : numbered table.owners own.write ≡ Some loose.txn = subst (λ (t : Table). numbered t.owners own.write ≡ Some loose.txn) same own.owner in
      let kept : list_any (λ (other : ℕ). other == own.write) table.forgotten ≡ false =
      subst (λ (t : Table). list_any (λ (other : ℕ). other == own.write) t.forgotten ≡ false) same own.kept in
      let fates = map earlier_fates.fate_of state.transactions in
      let are : fates_in state number ≡ fates_from fates table.forgotten 1 table.owners =
      ap (λ o. fates_from fates (forgotten_in o) 1 (owners_in o)) here in
      record {
        deletes = own.deletes;
        write = own.write;
        statement = own.statement;
        dir_is = own.dir;
        few = has.ids own.write loose.txn owner;
        undone = subst (λ fs. IsUndone fs own.write) (sym are)
            (lost-id fates table.forgotten table.owners own.write loose.txn owner kept (lost-fate state.transactions loose.txn loose.undone));
        uncommitted = λ written among e.
            let of = all-in (IsOfCommitted (map ending_of state.transactions) table.owners) table.writes written has.committed among in
            let txn : of.0 ≡ loose.txn = same_one (numbered table.owners own.write) of.0 loose.txn (ap (numbered table.owners) (sym e) ∙ of.1) owner in
            done-undone (numbered (map ending_of state.transactions) loose.txn)
            (subst (λ n. IsDone (numbered (map ending_of state.transactions) n)) txn of.2) loose.undone;
      }

  -- ---- the directories of one kind

  module _ (kind : Bool) {R : Type 0} (back : Rec → List R) (did : Write Found → List R)
      (to_file : (written : Written) (r : R) → IsIn written table.writes → IsIn r (did (write_in partition written))
      → (bucket : ℕ) × IsIn r (flat_map back (records_of table.info.shape kind partition bucket written)))
      (from_file : (written : Written) (bucket : ℕ) (r : R) → IsIn written table.writes → IsIn r (flat_map back (records_of table.info.shape kind partition bucket written))
      → IsIn r (did (write_in partition written)))
      (some : (written : Written) (bucket : ℕ) (x : Rec) → IsIn x (records_of table.info.shape kind partition bucket written) → (r : R) × IsIn r (back x))
      (event : (d : Delta) → is_made table.writes partition (delta_name kind d) ≡ true
      → (written : Written) × IsIn written table.writes × (has_written d written ≡ true) × ((r : R) × IsIn r (did (write_in partition written)))) where
    abbrev made : Delta → List R
    made d = flat_map did (filter (has_write d) (writes_of partition table.writes))

    abbrev held : Delta → List R
    held d = flat_map back (recs_in read kind files (dir_of table.info partition (delta_name kind d)))

    abbrev recs : Delta → ℕ → List Rec
    recs d bucket = delta_recs table.info.shape table.writes partition kind d bucket

    file-is : (d : Delta) (bucket : ℕ) → name_file table.info.shape table.writes partition (delta_name kind d) bucket ≡ some_or kind (recs d bucket) None
    unfolding name_file
    file-is (Own write statement) bucket = refl
    file-is (Wide low high) bucket = refl

    has-same : (d : Delta) (written : Written) → has_write {Found = Found} d (write_in partition written) ≡ has_written d written
    has-same (Own write statement) written = refl
    has-same (Wide low high) written = refl

    -- ---- records and what writes did

    in-delta : (d : Delta) (bucket : ℕ) (written : Written) (x : Rec) → IsIn written table.writes → has_written d written ≡ true
        → IsIn x (records_of table.info.shape kind partition bucket written) → IsIn x (recs d bucket)
    unfolding delta_recs
    in-delta d bucket written x among is at =
        to-sorted rec_cmp x (flat_map (records_of table.info.shape kind partition bucket) (filter (has_written d) table.writes))
        (in-flat (records_of table.info.shape kind partition bucket) written x (filter (has_written d) table.writes)
        (in-filter (has_written d) written table.writes among is) at)

    record IsRecBy (d : Delta) (bucket : ℕ) (x : Rec) : Type 0 where
      written : Written
      among : IsIn written table.writes
      within : has_written d written ≡ true
      it : IsIn x (records_of table.info.shape kind partition bucket written)

    from-delta : (d : Delta) (bucket : ℕ) (x : Rec) → IsIn x (recs d bucket) → IsRecBy d bucket x
    unfolding delta_recs
    from-delta d bucket x at =
        let of = from-flat (records_of table.info.shape kind partition bucket) x (filter (has_written d) table.writes)
        (from-sorted rec_cmp x (flat_map (records_of table.info.shape kind partition bucket) (filter (has_written d) table.writes)) at) in
        let kept = from-filter (has_written d) of.0 table.writes of.1 in
        record { written = of.0; among = kept.0; within = kept.1; it = of.2 }

    made-by : (d : Delta) (written : Written) (r : R) → IsIn written table.writes → has_written d written ≡ true → IsIn r (did (write_in partition written)) → IsIn r (made d)
    made-by d written r among is it =
        in-flat did (write_in partition written) r (filter (has_write d) (writes_of partition table.writes))
        (in-filter (has_write d) (write_in partition written) (writes_of partition table.writes) (in-map (write_in partition) written table.writes among)
        (has-same d written ∙ is))
        it

    record IsMadeBy (d : Delta) (r : R) : Type 0 where
      written : Written
      among : IsIn written table.writes
      within : has_written d written ≡ true
      it : IsIn r (did (write_in partition written))

    by-made : (d : Delta) (r : R) → IsIn r (made d) → IsMadeBy d r
    by-made d r h =
        let at = from-flat did r (filter (has_write d) (writes_of partition table.writes)) h in
        let kept = from-filter (has_write d) at.0 (writes_of partition table.writes) at.1 in
        let of = from-map (write_in partition) at.0 table.writes kept.0 in
        record {
          written = of.0;
          among = of.1;
          within = sym (has-same d of.0) ∙ ap (has_write d) of.2 ∙ kept.1;
          it = subst (λ (w : Write Found). IsIn r (did w)) (sym of.2) at.2;
        }

    record IsRecord (d : Delta) (r : R) : Type 0 where
      bucket : ℕ
      x : Rec
      among : IsIn x (recs d bucket)
      it : IsIn r (back x)

    to-record : (d : Delta) (r : R) → IsIn r (made d) → IsRecord d r
    to-record d r h =
        let by = by-made d r h in
        let at = to_file by.written r by.among by.it in
        let x = from-flat back r (records_of table.info.shape kind partition at.0 by.written) at.1 in
        record { bucket = at.0; x = x.0; among = in-delta d at.0 by.written x.0 by.among by.within x.1; it = x.2 }

    of-record : (d : Delta) (bucket : ℕ) (x : Rec) (r : R) → IsIn x (recs d bucket) → IsIn r (back x) → IsIn r (made d)
    of-record d bucket x r at it =
        let by = from-delta d bucket x at in
        made-by d by.written r by.among by.within
        (from_file by.written bucket r by.among (in-flat back x r (records_of table.info.shape kind partition bucket by.written) by.it it))

    -- ---- each that the history makes

    record IsHeld (d : Delta) (r : R) : Type 0 where
      there : IsThere table.info partition files (delta_name kind d)
      within : IsIn r (held d)

    hold : (d : Delta) → IsIn (delta_name kind d) all_names → (bucket : ℕ) → is_spare state (spot (delta_name kind d) bucket) ≡ false
        → (r : R) → IsIn r (made d) → IsHeld d r
    hold d among bucket needed r h =
        let name = delta_name kind d in
        let is = are-names name among in
        let at = to-record d r h in
        let file = filed name is among at.bucket kind (recs d at.bucket) (file-is d at.bucket ∙ some-in kind (recs d at.bucket) None at.x at.among)
        (spare-alike name at.bucket bucket ∙ needed) in
        let place : Place = spot name at.bucket in
        let within : IsInDir (dir_of table.info partition name) place = record { table_is = refl; partition_is = refl; dir_is = refl } in
        record {
          there = (is, record { place = place; within = dir-in (dir_of table.info partition name) place within; bytes = file.bytes; is = file.is });
          within = in-flat back at.x r (recs_in read kind files (dir_of table.info partition name))
              (to-recs read kind files (dir_of table.info partition name) at.x (record {
                place = place;
                within = within;
                bytes = file.bytes;
                is = file.is;
                among = subst (IsIn at.x) (sym (read-file kind at.bucket (recs d at.bucket) (finmap.get files place) file.bytes file file.is)) at.among;
              })) at.it;
        }

    -- ---- what stands in one

    owned : (d : Delta) (bucket : ℕ) → IsName (delta_name kind d) → IsOfLost (spot (delta_name kind d) bucket) → IsForeign (IsUndone (fates_in state number)) d
    owned d bucket is of =
        let own = delta-owned kind of.deletes d of.write of.statement (text_of (delta_name kind d)) is refl of.dir_is of.few in
        (of.write, own.0, own.1, of.undone)

    unowned : (d : Delta) (bucket : ℕ) → IsName (delta_name kind d) → IsOfLost (spot (delta_name kind d) bucket) → (r : R) → IsIn r (made d) → ⊥
    unowned d bucket is of r h =
        let own = delta-owned kind of.deletes d of.write of.statement (text_of (delta_name kind d)) is refl of.dir_is of.few in
        let by = by-made d r h in
        let within : has_written (Own of.write own.0) by.written ≡ true = subst (λ (e : Delta). has_written e by.written ≡ true) own.1 by.within in
        let both = and_parts (by.written.write == of.write) (by.written.statement == own.0) within in
        of.uncommitted by.written by.among (eqb-true by.written.write of.write both.0)

    -- a file of a made directory that is needed has its records alone
    alone : (d : Delta) → IsIn (delta_name kind d) all_names → (bucket : ℕ) → is_spare state (spot (delta_name kind d) bucket) ≡ false
        → (first : R) → IsIn first (made d) → (r : R) → IsIn r (held d) → IsIn r (made d)
    alone d among bucket needed first some_made r h =
        let name = delta_name kind d in
        let is = are-names name among in
        let x = from-flat back r (recs_in read kind files (dir_of table.info partition name)) h in
        let at = from-recs read kind files (dir_of table.info partition name) x.0 x.1 in
        let same = spot-is name at.place at.within in
        let there : finmap.get files (spot name at.place.bucket) ≡ Some at.bytes = ap (finmap.get files) same ∙ at.is in
        let spare : is_spare state (spot name at.place.bucket) ≡ false = spare-alike name at.place.bucket bucket ∙ needed in
        by name is at.place.bucket at.bytes x.0 x.2 there spare at.among (made_recs state (spot name at.place.bucket)) refl
      where
        by : (name : DirName) → IsName (delta_name kind d) → (b : ℕ) (bytes : List ℕ) (x : Rec) → IsIn r (back x)
            → finmap.get files (spot (delta_name kind d) b) ≡ Some bytes → is_spare state (spot (delta_name kind d) b) ≡ false → IsIn x (read kind b bytes)
            → (o : Option (Bool × List Rec)) → made_recs state (spot (delta_name kind d) b) ≡ o → IsIn r (made d)
        by name is b bytes x it there spare at None e = elim (standing.other (spot (delta_name kind d) b) bytes there e) [
          | inl loose ↦ absurd (unowned d b is (loose-is (spot (delta_name kind d) b) refl loose) first some_made)
          | inr (inl freed) ↦ absurd (true≢false (sym freed ∙ spare))
          | inr (inr (inl staged)) ↦
              absurd (staged-not-delta kind d staged.number staged.name
              (texts.text-same (delta_name kind d) (dir.Staged (record { 0 = staged.number }) staged.name) is staged.named staged.dir))
          | inr (inr (inr dead)) ↦ absurd (true≢false (sym (live-here (delta_name kind d) b) ∙ dead))
        ]
        by name is b bytes x it there spare at (Some file) e =
            let of = of-recs (delta_name kind d) is b file e in
            let whole = some-whole kind (recs d b) file (sym (file-is d b) ∙ of.file_is) in
            let stands_there = filed (delta_name kind d) is of.among b kind (recs d b) (file-is d b ∙ whole) spare in
            of-record d b x r (subst (IsIn x) (read-file kind b (recs d b) (finmap.get files (spot (delta_name kind d) b)) bytes stands_there there) at) it

    -- ---- where a directory is there exactly where it has files

    module _ (names : List Delta) (there : (d : Delta) → IsIn d names ↔ IsThere table.info partition files (delta_name kind d)) where
      abbrev Past : Compaction → Type 0
      Past = IsPast (open_from 1 state.transactions)

      abbrev Foreign : ℕ → Type 0
      Foreign = IsUndone (fates_in state number)

      abbrev IsMadeHere : Delta → Type 0
      IsMadeHere d =
          IsMade (published_among jobs) d × ((r : R) × IsIn r (made d)) × (IsLoose Past (published_among jobs) d ⊎ ((r : R) → IsIn r (held d) → IsIn r (made d)))

      event-made : (d : Delta) → is_made table.writes partition (delta_name kind d) ≡ true → (r : R) × IsIn r (made d)
      event-made d e = let of = event d e in (of.3.0, made-by d of.0 of.3.0 of.1 of.2 of.3.1)

      only : (d : Delta) → IsIn d names → IsMadeHere d ⊎ IsForeign Foreign d
      only d h =
          let is_there = (there d).0 h in
          let file = is_there.1 in
          let within = in-dir (dir_of table.info partition (delta_name kind d)) file.place file.within in
          let same = spot-is (delta_name kind d) file.place within in
          by is_there.0 file.place.bucket file.bytes (ap (finmap.get files) same ∙ file.is) (made_recs state (spot (delta_name kind d) file.place.bucket)) refl
        where
          by : IsName (delta_name kind d) → (b : ℕ) (bytes : List ℕ) → finmap.get files (spot (delta_name kind d) b) ≡ Some bytes
              → (o : Option (Bool × List Rec)) → made_recs state (spot (delta_name kind d) b) ≡ o → IsMadeHere d ⊎ IsForeign Foreign d
          by is b bytes there_is None e = elim (standing.other (spot (delta_name kind d) b) bytes there_is e) [
            | inl loose ↦ inr (owned d b is (loose-is (spot (delta_name kind d) b) refl loose))
            | inr (inl freed) ↦
                let of = spared (delta_name kind d) is b freed in
                inl (among-made kind table.writes jobs d of.among, event-made d of.made, inl (freed-delta state jobs kind d of.freed))
            | inr (inr (inl staged)) ↦
                absurd (staged-not-delta kind d staged.number staged.name
                (texts.text-same (delta_name kind d) (dir.Staged (record { 0 = staged.number }) staged.name) is staged.named staged.dir))
            | inr (inr (inr dead)) ↦ absurd (true≢false (sym (live-here (delta_name kind d) b) ∙ dead))
          ]
          by is b bytes there_is (Some file) e =
              let of = of-recs (delta_name kind d) is b file e in
              let x = some-first kind (recs d b) file (sym (file-is d b) ∙ of.file_is) in
              let by_write = from-delta d b x.0 x.1 in
              let r = some by_write.written b x.0 by_write.it in
              let one : IsIn r.0 (made d) = of-record d b x.0 r.0 x.1 r.1 in
              inl (
                among-made kind table.writes jobs d of.among,
                (r.0, one),
                elim (either (is_spare state (spot (delta_name kind d) b))) [
                  | inl freed ↦ inl (freed-delta state jobs kind d (spared (delta_name kind d) is b freed).freed)
                  | inr needed ↦ inr (alone d of.among b needed r.0 one)
                ],
              )

      pub kind-stands : Stand Past Foreign (published_among jobs) made names held
      kind-stands = record {
        each = λ d r is h.
            let by = by-made d r h in
            let among = made-among kind table.writes jobs d by.written by.among by.within is in
            let name_is = are-names (delta_name kind d) among in
            elim (either (is_spare state (spot (delta_name kind d) 0))) [
              | inl freed ↦ inl (freed-delta state jobs kind d (spared (delta_name kind d) name_is 0 freed).freed)
              | inr needed ↦ inr ((there d).1 (hold d among 0 needed r h).there, λ s g. (hold d among 0 needed s g).within)
            ];
        only = only;
      }

  -- ---- the bases

  staged-not-base : (base job : ℕ) (name : List ℕ) → base_name base ≡ dir.Staged (record { 0 = job }) name → ⊥
  staged-not-base base job name e = cc

  -- what stands beside a book in a base's directory is in one that a compaction frees
  base-beside : (base bucket : ℕ) → IsName (base_name base) → MayHold state (spot (base_name base) bucket) → is_spare state (spot (base_name base) bucket) ≡ true
  base-beside base bucket is (inl loose) =
      let of = loose-is (spot (base_name base) bucket) refl loose in
      absurd (base-not-owned base of.deletes of.write of.statement (text_of (base_name base)) is refl of.dir_is of.few)
  base-beside base bucket is (inr (inl freed)) = freed
  base-beside base bucket is (inr (inr (inl staged))) =
      absurd (staged-not-base base staged.number staged.name
      (texts.text-same (base_name base) (dir.Staged (record { 0 = staged.number }) staged.name) is staged.named staged.dir))
  base-beside base bucket is (inr (inr (inr dead))) = absurd (true≢false (sym (live-here (base_name base) bucket) ∙ dead))

  module _ (stored : (written : Written) → IsIn written table.writes → (found : Found) → IsIn found written.inserts → IsStored table found) where
    abbrev left : ℕ → List Found
    left base = based.left table partition stored base

    abbrev base_held : ℕ → List Found
    base_held base = rows_held read table.info partition files (base_name base)

    base-file : (base : ℕ) → IsIn (base_name base) all_names → (bucket : ℕ)
        → name_file table.info.shape table.writes partition (base_name base) bucket ≡ Some (false, base_recs table.info.shape table.writes partition base bucket)
        → is_spare state (spot (base_name base) bucket) ≡ false
        → HasFile false bucket (base_recs table.info.shape table.writes partition base bucket) (finmap.get files (spot (base_name base) bucket))
    base-file base among bucket e needed = filed (base_name base) (are-names (base_name base) among) among bucket false _ e needed

    pub base-whole : (base : ℕ) → IsIn (base_name base) all_names → is_spare state (spot (base_name base) 0) ≡ false → (found : Found) → IsIn found (left base)
        → IsIn found (base_held base)
    base-whole base among needed found at =
        let rec = based.to-base table partition stored base found at in
        let file = base-file base among rec.bucket (based.base-filed table partition stored base rec.bucket rec.rec rec.among)
        (spare-alike (base_name base) rec.bucket 0 ∙ needed) in
        let place : Place = spot (base_name base) rec.bucket in
        in-flat (inserted_by table.info.shape partition) rec.rec found (recs_in read false files (dir_of table.info partition (base_name base)))
        (to-recs read false files (dir_of table.info partition (base_name base)) rec.rec (record {
          place = place;
          within = record { table_is = refl; partition_is = refl; dir_is = refl };
          bytes = file.bytes;
          is = file.is;
          among = subst (IsIn rec.rec) (sym (read-file false rec.bucket _ (finmap.get files place) file.bytes file file.is)) rec.among;
        })) rec.it

    pub base-there : (base : ℕ) → IsIn (base_name base) all_names → is_spare state (spot (base_name base) 0) ≡ false → IsThere table.info partition files (base_name base)
    base-there base among needed =
        let some = based.base-some table partition stored base in
        let file = base-file base among some.0 some.1 (spare-alike (base_name base) some.0 0 ∙ needed) in
        let place : Place = spot (base_name base) some.0 in (
          are-names (base_name base) among,
          record {
            place = place;
            within = dir-in (dir_of table.info partition (base_name base)) place (record { table_is = refl; partition_is = refl; dir_is = refl });
            bytes = file.bytes;
            is = file.is;
          },
        )

    pub base-alone : (base : ℕ) → IsIn (base_name base) all_names → is_spare state (spot (base_name base) 0) ≡ false → (found : Found) → IsIn found (base_held base)
        → IsIn found (left base)
    base-alone base among needed found h =
        let x = from-flat (inserted_by table.info.shape partition) found (recs_in read false files (dir_of table.info partition (base_name base))) h in
        let at = from-recs read false files (dir_of table.info partition (base_name base)) x.0 x.1 in
        let same = spot-is (base_name base) at.place at.within in
        by at.place.bucket at.bytes x.0 x.2 (ap (finmap.get files) same ∙ at.is) at.among (made_recs state (spot (base_name base) at.place.bucket)) refl
      where
        by : (b : ℕ) (bytes : List ℕ) (r : Rec) → IsIn found (inserted_by table.info.shape partition r)
            → finmap.get files (spot (base_name base) b) ≡ Some bytes → IsIn r (read false b bytes)
            → (o : Option (Bool × List Rec)) → made_recs state (spot (base_name base) b) ≡ o → IsIn found (left base)
        by b bytes r it there at None e =
            let freed = base-beside base b (are-names (base_name base) among) (standing.other (spot (base_name base) b) bytes there e) in
            absurd (true≢false (sym freed ∙ spare-alike (base_name base) b 0 ∙ needed))
        by b bytes r it there at (Some file) e =
            let of = of-recs (base_name base) (are-names (base_name base) among) b file e in
            let stands_there = base-file base among b (based.base-whole table partition stored base b file of.file_is)
            (spare-alike (base_name base) b 0 ∙ needed) in
            based.from-base table partition stored base b r found
            (subst (IsIn r) (read-file false b _ (finmap.get files (spot (base_name base) b)) bytes stands_there there) at) it

    pub record IsBaseHere (base : ℕ) : Type 0 where
      pub made : IsMadeBase (published_among jobs) base
      pub whole : IsLooseBase (IsPast (open_from 1 state.transactions)) (published_among jobs) base
          ⊎ ((found : Found) → IsIn found (base_held base) → IsIn found (left base))

    base-at : (base : ℕ) → IsIn (base_name base) all_names → IsBaseHere base
    base-at base among = record {
      made = among-base table.writes jobs base among;
      whole = elim (either (is_spare state (spot (base_name base) 0))) [
        | inl freed ↦ inl (freed-base state jobs base (spared (base_name base) (are-names (base_name base) among) 0 freed).freed)
        | inr needed ↦ inr (base-alone base among needed)
      ];
    }

    -- what stands there is one that the history makes
    pub base-here : (base : ℕ) → IsThere table.info partition files (base_name base) → IsBaseHere base
    base-here base is_there =
        let file = is_there.1 in
        let within = in-dir (dir_of table.info partition (base_name base)) file.place file.within in
        let same = spot-is (base_name base) file.place within in
        by file.place.bucket file.bytes (ap (finmap.get files) same ∙ file.is) (made_recs state (spot (base_name base) file.place.bucket)) refl
      where
        by : (b : ℕ) (bytes : List ℕ) → finmap.get files (spot (base_name base) b) ≡ Some bytes
            → (o : Option (Bool × List Rec)) → made_recs state (spot (base_name base) b) ≡ o → IsBaseHere base
        by b bytes there None e =
            let freed = base-beside base b is_there.0 (standing.other (spot (base_name base) b) bytes there e) in
            base-at base (spared (base_name base) is_there.0 b freed).among
        by b bytes there (Some file) e = base-at base (of-recs (base_name base) is_there.0 b file e).among

    -- each that the history makes may be gone, or stands
    pub base-stands : (base : ℕ) → IsMadeBase (published_among jobs) base → IsLooseBase (IsPast (open_from 1 state.transactions)) (published_among jobs) base
        ⊎ (IsThere table.info partition files (base_name base) × ((found : Found) → IsIn found (left base) → IsIn found (base_held base)))
    base-stands base is =
        let among = base-among table.writes jobs base is in
        elim (either (is_spare state (spot (base_name base) 0))) [
          | inl freed ↦ inl (freed-base state jobs base (spared (base_name base) (are-names (base_name base) among) 0 freed).freed)
          | inr needed ↦ inr (base-there base among needed, base-whole base among needed)
        ]
