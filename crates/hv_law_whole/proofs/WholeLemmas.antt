-- The directories of a partition stand beside a book with its compactions.
use Rattle.std.proofs.Common.{◌≡◌, inl, inr, ℕ, Bool, true, false, List, filter, map, sym, ap, subst}
use Rattle.hv_base.specs.declared.ids.RowId.{RowId}
use Rattle.hv_shelf.specs.Disk as disk
use Rattle.hv_logic.specs.declared.effect.Found.{Found}
use Rattle.hv_dirs.specs.Choice.{Delta, Own, Wide}
use Rattle.hv_choosing.specs.Taken.{delta_name}
use Rattle.hv_history.specs.declared.state.Table.{Table}
use Rattle.hv_history.specs.declared.state.Written.{Written}
use Rattle.hv_history.specs.State.{State, Job}
use Rattle.hv_history.specs.Jobs.{jobs_of}
use Rattle.hv_law_made.specs.Made.{has_written, in_partition, has_events, is_made}
use Rattle.hv_law_visible.specs.Members.{IsIn}
use Rattle.hv_law_visible.specs.History.{Write, Compaction, inserts_in, deletes_in, by_deleter}
use Rattle.hv_law_visible.specs.Visible.{Tree}
use Rattle.hv_law_visible.specs.Stands.{Stand, Stands}
use Rattle.hv_law_visible.specs.Snapshots.{IsUndone}
use Rattle.hv_law_visible.specs.Readers.{IsPast}
use Rattle.hv_law_visible.proofs.MemberLemmas.{in-map, in-filter, from-filter, in-any}
use Rattle.hv_law_visible.proofs.TakenLemmas.{all-in}
use Rattle.hv_law_directories.specs.hv_law_partitions.specs.Partitions.{id_of, is_of, rows_of, write_in, writes_of, written_in, writes_in, fates_in}
use Rattle.hv_law_directories.specs.hv_law_partitions.specs.States.{open_from}
use Rattle.hv_law_directories.specs.Reading.{Reading}
use Rattle.hv_law_directories.specs.Directories.{inserted_by, deleted_by}
use Rattle.hv_law_directories.proofs.RecordLemmas.{inserts-filed, filed-inserts, some-insert, deletes-filed, filed-deletes, some-delete}
use Rattle.hv_law_whole.specs.Whole.{IsStored, IsStoredWrite, published_among, IsPartOf, FilesAreWhole}
use Rattle.hv_law_whole.proofs.KindLemmas.{kind-stands, base-here, base-stands}

-- ---- a delta that is made has an event

record HasEvent (table : Table) (kind : Bool) (partition : List ℕ) (d : Delta) : Type 0 where
  written : Written
  among : IsIn written table.writes
  within : has_written d written ≡ true
  it : has_events kind partition written ≡ true

made-event : (table : Table) (kind : Bool) (partition : List ℕ) (d : Delta) → is_made table.writes partition (delta_name kind d) ≡ true → HasEvent table kind partition d
made-event table kind partition (Own write statement) e =
    let of = in-any (has_events kind partition) (filter (has_written (Own write statement)) table.writes) e in
    let kept = from-filter (has_written (Own write statement)) of.0 table.writes of.1 in
    record { written = of.0; among = kept.0; within = kept.1; it = of.2 }
made-event table kind partition (Wide low high) e =
    let of = in-any (has_events kind partition) (filter (has_written (Wide low high)) table.writes) e in
    let kept = from-filter (has_written (Wide low high)) of.0 table.writes of.1 in
    record { written = of.0; among = kept.0; within = kept.1; it = of.2 }

inserted-here : (partition : List ℕ) (written : Written) → has_events false partition written ≡ true
    → (found : Found) × IsIn found (write_in partition written).inserts
inserted-here partition written e =
    let row = in-any (in_partition partition) written.inserts e in
    (row.0, in-filter (is_of partition) row.0 written.inserts row.1 row.2)

deleted-here : (partition : List ℕ) (written : Written) → has_events true partition written ≡ true
    → (deleted : RowId × ℕ) × IsIn deleted (by_deleter (write_in partition written))
deleted-here partition written e =
    let row = in-any (in_partition partition) written.deletes e in (
      (row.0.id, written.write),
      in-map (λ (id : RowId). (id, written.write)) row.0.id (map id_of (rows_of partition written.deletes))
          (in-map id_of row.0 (rows_of partition written.deletes) (in-filter (is_of partition) row.0 written.deletes row.1 row.2)),
    )

module _ (read : Reading) (state : State) (table : Table) (partition : List ℕ) (files : disk.Tree) (tree : Tree Found)
    (are : IsPartOf read state table partition files tree) where
  abbrev number : ℕ
  number = table.info.table.0

  abbrev jobs : List Job
  jobs = jobs_of number partition state.jobs

  abbrev Past : Compaction → Type 0
  Past = IsPast (open_from 1 state.transactions)

  abbrev Foreign : ℕ → Type 0
  Foreign = IsUndone (fates_in state number)

  stored : (written : Written) → IsIn written table.writes → (found : Found) → IsIn found written.inserts → IsStored table found
  stored written among = (all-in (IsStoredWrite table) table.writes written are.stored among).each

  writes-are : writes_in state number partition ≡ writes_of partition table.writes
  writes-are = ap (λ o. writes_of partition (written_in o)) are.here

  inserts-stand : Stand Past Foreign (published_among jobs) (inserts_in (writes_of partition table.writes)) tree.deltas tree.inserts
  inserts-stand =
      subst (λ held. Stand Past Foreign (published_among jobs) (inserts_in (writes_of partition table.writes)) tree.deltas held) (λ i d. sym (are.directories.inserts d) i)
      (kind-stands read are.reads state table partition files are.standing are.here are.live are.names false (inserted_by table.info.shape partition)
      (λ (w : Write Found). w.inserts)
      (λ written found among h. inserts-filed table.info.shape partition written
      (λ row at. let is = stored written among row at in (is.said, is.partition_is)) found h)
      (λ written bucket found among h. filed-inserts table.info.shape partition written
      (λ row at. let is = stored written among row at in (is.said, is.partition_is)) bucket found h)
      (some-insert table.info.shape partition)
      (λ d e. let has = made-event table false partition d e in (has.written, has.among, has.within, inserted-here partition has.written has.it))
      tree.deltas are.directories.deltas)

  deletes-stand : Stand Past Foreign (published_among jobs) (deletes_in (writes_of partition table.writes)) tree.delete_deltas tree.deletes
  deletes-stand =
      subst (λ held. Stand Past Foreign (published_among jobs) (deletes_in (writes_of partition table.writes)) tree.delete_deltas held) (λ i d. sym (are.directories.deletes d) i)
      (kind-stands read are.reads state table partition files are.standing are.here are.live are.names true deleted_by by_deleter
      (λ written deleted among h. deletes-filed table.info.shape partition written deleted h)
      (λ written bucket deleted among h. filed-deletes table.info.shape partition written bucket deleted h)
      (some-delete table.info.shape partition)
      (λ d e. let has = made-event table true partition d e in (has.written, has.among, has.within, deleted-here partition has.written has.it))
      tree.delete_deltas are.directories.delete_deltas)

  pub directories-whole : Stands id_of Past Foreign (writes_in state number partition) (published_among jobs) tree
  directories-whole =
      subst (λ writes. Stands id_of Past Foreign writes (published_among jobs) tree) (sym writes-are) (record {
        deltas = inserts-stand;
        delete_deltas = deletes-stand;
        bases = λ base made. elim (base-stands read are.reads state table partition files are.standing are.here are.live are.names stored base made) [
          | inl loose ↦ inl loose
          | inr stands ↦ inr (
            (are.directories.bases base).1 stands.0,
            λ found at. subst (IsIn found) (sym (are.directories.rows base)) (stands.1 found at),
          )
        ];
        only_bases = λ base at.
            let of = base-here read are.reads state table partition files are.standing are.here are.live are.names stored base ((are.directories.bases base).0 at) in (
              of.made,
              elim of.whole [
                | inl loose ↦ inl loose
                | inr whole ↦ inr (λ found h. whole found (subst (IsIn found) (are.directories.rows base) h))
              ],
            );
      })

pub files-whole : FilesAreWhole
files-whole read state table partition files tree are = directories-whole read state table partition files tree are
