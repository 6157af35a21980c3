-- What stands stands where more compactions are past, and so each reader takes what it needs.
use Rattle.std.proofs.Common.{refl, ◌≡◌, inl, inr, ℕ, ◌≤◌, Option, Some, None, List, [], ◌++◌, subst}
use Rattle.std.proofs.lemmas.List.{append-nil}
use Rattle.hv_base.specs.declared.ids.RowId.{RowId}
use Rattle.hv_dirs.specs.Choice.{Delta, sight_of}
use Rattle.hv_law_visible.specs.Members.{IsIn}
use Rattle.hv_law_visible.specs.History.{Write, Compaction}
use Rattle.hv_law_visible.specs.Visible.{Tree}
use Rattle.hv_law_visible.specs.Stands.{Fits, IsLoose, IsLooseBase, Stand, Stands}
use Rattle.hv_law_visible.specs.Snapshots.{Fate, Open, Committed, Aborted, Forgotten, fate_of, list_at, list_up_to, GoesTo, IsUndone}
use Rattle.hv_law_visible.specs.Readers.{Reader, IsPast, Knows}
use Rattle.hv_law_visible.proofs.ListLemmas.{says-up-to}
use Rattle.hv_law_visible.proofs.SnapshotLemmas.{snapshot-fits, cut-fits}
use Rattle.hv_law_visible.proofs.VisibleLemmas.{takes-no-loose}
use Rattle.hv_law_needed.specs.Needed.{IsBefore, IsAny, AReaderTakesWhatItNeeds, AJobTakesWhatItNeeds, TheEndTakesWhatItNeeds}

module _ (past more : Compaction → Type 0) (jobs : List Compaction) (wider : (job : Compaction) → IsIn job jobs → past job → more job) where
  loose-wider : (d : Delta) → IsLoose past jobs d → IsLoose more jobs d
  loose-wider d is = (is.0, is.1, wider is.0 is.1 is.2, is.3)

  base-wider : (base : ℕ) → IsLooseBase past jobs base → IsLooseBase more jobs base
  base-wider base is = (is.0, is.1, wider is.0 is.1 is.2, is.3)

  kind-wider : {Record : Type 0} (foreign : ℕ → Type 0) (made : Delta → List Record) (names : List Delta) (files : Delta → List Record)
      → Stand past foreign jobs made names files → Stand more foreign jobs made names files
  kind-wider foreign made names files stand = record {
    each = λ d r is at. elim (stand.each d r is at) [ inl loose ↦ inl (loose-wider d loose) | inr whole ↦ inr whole ];
    only = λ d at. elim (stand.only d at) [
      | inl is ↦ inl (is.0, is.1, elim is.2 [ inl loose ↦ inl (loose-wider d loose) | inr whole ↦ inr whole ])
      | inr foreign_one ↦ inr foreign_one
    ];
  }

-- what stands where some compactions are past stands also where more are: it may be gone, or it is whole
pub more-past : {Found : Type 0} (id_of : Found → RowId) (past more : Compaction → Type 0) (foreign : ℕ → Type 0) (writes : List (Write Found))
    (jobs : List Compaction) (tree : Tree Found) → ((job : Compaction) → IsIn job jobs → past job → more job)
    → Stands id_of past foreign writes jobs tree → Stands id_of more foreign writes jobs tree
more-past id_of past more foreign writes jobs tree wider stands = record {
  deltas = kind-wider past more jobs wider foreign _ tree.deltas tree.inserts stands.deltas;
  delete_deltas = kind-wider past more jobs wider foreign _ tree.delete_deltas tree.deletes stands.delete_deltas;
  bases = λ base made. elim (stands.bases base made) [ inl loose ↦ inl (base-wider past more jobs wider base loose) | inr whole ↦ inr whole ];
  only_bases = λ base at.
      let is = stands.only_bases base at in
      (is.0, elim is.1 [ inl loose ↦ inl (base-wider past more jobs wider base loose) | inr whole ↦ inr whole ]);
}

pub reader-needs : {Found : Type 0} → AReaderTakesWhatItNeeds Found
reader-needs id_of most next open_txns fates readers reader writes since jobs tree knows at is sound stands =
    takes-no-loose id_of most (sight_of (list_at reader.before)) (IsBefore reader) (IsUndone fates) (writes ++ since) jobs tree sound
    (snapshot-fits (IsBefore reader) jobs reader.before fates writes since is sound.from_one (λ job listed before. knows.seen reader job at listed before))
    (more-past id_of (IsPast open_txns) (IsBefore reader) (IsUndone fates) (writes ++ since) jobs tree
    (λ job listed past. past reader.txn (knows.are_open reader at)) stands)

itself : (o : Option Fate) → GoesTo o o
itself None = tt
itself (Some Open) = tt
itself (Some Committed) = refl
itself (Some Aborted) = inl refl
itself (Some Forgotten) = refl

-- under the list of the end of the book every published compaction is past: its ids have all ended
end-fits : {Found : Type 0} (fates : List Fate) (jobs : List Compaction) (next : ℕ) (open_txns : List ℕ) (readers : List Reader) (writes : List (Write Found))
    → Knows fates jobs next open_txns readers → ((w : Write Found) → IsIn w writes → fate_of fates w.write ≡ Some Committed)
    → ((w : Write Found) → IsIn w writes → 1 ≤ w.write)
    → Fits (sight_of (list_at fates)) IsAny (IsUndone fates) writes jobs
end-fits fates jobs next open_txns readers writes knows are from_one =
    subst (λ ws. Fits (sight_of (list_at fates)) IsAny (IsUndone fates) ws jobs) (append-nil writes)
    (snapshot-fits IsAny jobs fates fates writes [] (record {
      goes = λ write. itself (fate_of fates write);
      were = are;
      are = λ w at. absurd at;
      were_not = λ w at. absurd at;
    }) (λ w at. from_one w (subst (IsIn w) (append-nil writes) at)) (λ job listed any. knows.jobs_ended job listed))

pub end-needs : {Found : Type 0} → TheEndTakesWhatItNeeds Found
end-needs id_of most next open_txns fates readers writes jobs tree knows are sound stands =
    takes-no-loose id_of most (sight_of (list_at fates)) IsAny (IsUndone fates) writes jobs tree sound
    (end-fits fates jobs next open_txns readers writes knows are sound.from_one)
    (more-past id_of (IsPast open_txns) IsAny (IsUndone fates) writes jobs tree (λ job listed past. tt) stands)

pub job-needs : {Found : Type 0} → AJobTakesWhatItNeeds Found
job-needs id_of most next watermark open_txns fates readers writes jobs tree knows are under sound stands =
    takes-no-loose id_of most (sight_of (list_up_to watermark (list_at fates))) IsAny (IsUndone fates) writes jobs tree sound
    (cut-fits watermark (list_at fates) (list_up_to watermark (list_at fates)) IsAny (IsUndone fates) writes jobs (says-up-to watermark (list_at fates))
    (end-fits fates jobs next open_txns readers writes knows are sound.from_one) (λ job listed any. under job listed))
    (more-past id_of (IsPast open_txns) IsAny (IsUndone fates) writes jobs tree (λ job listed past. tt) stands)
