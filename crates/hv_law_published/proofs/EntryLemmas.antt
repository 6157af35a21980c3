-- What holds through the entries that open and start transactions, give and forget write ids, or end readers.
use Rattle.std.proofs.Common.{refl, ◌≡◌, ◌⊎◌, inl, inr, ℕ, ◌+◌, ◌≤◌, Option, Some, None, List, [], ◌∷◌, sym, ap, ◌∙◌, subst, arith}
use Rattle.std.proofs.lemmas.Bool.{cases_eq}
use Rattle.std.proofs.lemmas.List.{append-nil}
use Rattle.hv_base.specs.declared.ids.RowId.{RowId}
use Rattle.hv_dirs.specs.Choice.{Delta, Own}
use Rattle.hv_law_visible.specs.Members.{IsIn}
use Rattle.hv_law_visible.specs.History.{Write, Compaction, mark_of, inserts_in, deletes_in}
use Rattle.hv_law_visible.specs.Visible.{Tree}
use Rattle.hv_law_visible.specs.Stands.{Stand, Stands}
use Rattle.hv_law_visible.specs.Snapshots.{Fate, Open, Committed, Aborted, Forgotten, fate_of, GoesTo, IsUndone, IsSince}
use Rattle.hv_law_visible.specs.Readers.{Reader, IsPast}
use Rattle.hv_law_visible.proofs.ReaderLemmas.{fates-go, opened, started, ended-txn, since-commit}
use Rattle.hv_law_published.specs.State.{State, HasSeen, IsKept}
use Rattle.hv_law_published.specs.Directories.{DeltaDir, DeleteDir}
use Rattle.hv_law_published.specs.Laws.{Keeps, Turns, EachOtherEntryKeeps}
use Rattle.hv_law_published.proofs.ChangeLemmas.{stand-weaker}
use Rattle.hv_law_published.proofs.StateLemmas.{same-tree, goes-on-itself}

-- more may be gone, and more may be anything
stands-weaker : {Found : Type 0} (id_of : Found → RowId) (past past_now : Compaction → Type 0) (foreign foreign_now : ℕ → Type 0)
    (writes : List (Write Found)) (jobs : List Compaction) (tree : Tree Found)
    → Stands id_of past foreign writes jobs tree → ((job : Compaction) → IsIn job jobs → past job → past_now job) → ((write : ℕ) → foreign write → foreign_now write)
    → Stands id_of past_now foreign_now writes jobs tree
stands-weaker id_of past past_now foreign foreign_now writes jobs tree stands grows opens = record {
  deltas = stand-weaker past past_now foreign foreign_now jobs (inserts_in writes) tree.deltas tree.inserts stands.deltas grows opens;
  delete_deltas = stand-weaker past past_now foreign foreign_now jobs (deletes_in writes) tree.delete_deltas tree.deletes stands.delete_deltas grows opens;
  bases = λ base made. elim (stands.bases base made) [
    | inl loose ↦ inl (loose.0, loose.1, grows loose.0 loose.1 loose.2, loose.3)
    | inr whole ↦ inr whole
  ];
  only_bases = λ base at.
      let o = stands.only_bases base at in
      (o.0, elim o.1 [ inl loose ↦ inl (loose.0, loose.1, grows loose.0 loose.1 loose.2, loose.3) | inr only ↦ inr only ]);
}

-- what is committed stays so, and each snapshot is to the book what it was
still-committed : {Found : Type 0} (id_of : Found → RowId) (state : State Found) (fates : List Fate) → IsKept id_of state
    → ((write : ℕ) → GoesTo (fate_of state.fates write) (fate_of fates write))
    → (w : Write Found) → IsIn w state.writes → fate_of fates w.write ≡ Some Committed
still-committed id_of state fates kept goes w at = subst (λ o. GoesTo o (fate_of fates w.write)) (kept.committed w at) (goes w.write)

still-seen : {Found : Type 0} (id_of : Found → RowId) (state : State Found) (fates : List Fate) → IsKept id_of state
    → ((write : ℕ) → GoesTo (fate_of state.fates write) (fate_of fates write))
    → (reader : Reader) → IsIn reader state.readers → HasSeen (record state { fates = fates }) reader
still-seen id_of state fates kept goes reader at =
    let s = kept.seen reader at in (
      s.0,
      s.1,
      s.2,
      subst (λ ws. IsSince reader.before fates s.0 ws) (append-nil s.1)
          (since-commit reader.before state.fates fates s.0 s.1 [] s.3 goes (λ w here. absurd here)),
    )

-- a write id's fate goes on, and what was undone is
fates-keep : {Found : Type 0} (id_of : Found → RowId) (state : State Found) (fates : List Fate) → IsKept id_of state
    → ((write : ℕ) → GoesTo (fate_of state.fates write) (fate_of fates write))
    → Stands id_of (IsPast state.open_txns) (IsUndone fates) state.writes state.jobs state.tree
    → Keeps id_of state (record state { fates = fates })
fates-keep id_of state fates kept goes stands = same-tree id_of state (record state { fates = fates }) refl (record {
  most = kept.most;
  knows = fates-go state.fates fates state.jobs state.next state.open_txns state.readers kept.knows goes;
  marks = kept.marks;
  sound = kept.sound;
  distinct = kept.distinct;
  committed = still-committed id_of state fates kept goes;
  seen = still-seen id_of state fates kept goes;
  stands = stands;
})

goes-none : (id : ℕ) (fates now : List Fate) → Turns id None Open fates now → (write : ℕ) → GoesTo (fate_of fates write) (fate_of now write)
goes-none id fates now turns write = elim (cases_eq write id) [
  | inl e ↦ subst (λ o. GoesTo o (fate_of now write)) (sym (ap (fate_of fates) e ∙ turns.was)) tt
  | inr apart ↦ subst (λ o. GoesTo (fate_of fates write) o) (sym (turns.others write apart)) (goes-on-itself (fate_of fates write))
]

goes-forgotten : (id : ℕ) (fates now : List Fate) → Turns id (Some Aborted) Forgotten fates now → (write : ℕ) → GoesTo (fate_of fates write) (fate_of now write)
goes-forgotten id fates now turns write = elim (cases_eq write id) [
  | inl e ↦ subst (λ o. GoesTo o (fate_of now write)) (sym (ap (fate_of fates) e ∙ turns.was)) (inr (ap (fate_of now) e ∙ turns.is))
  | inr apart ↦ subst (λ o. GoesTo (fate_of fates write) o) (sym (turns.others write apart)) (goes-on-itself (fate_of fates write))
]

undone-but : (id : ℕ) (before : Option Fate) (after : Fate) (fates now : List Fate) → Turns id before after fates now
    → (write : ℕ) → IsUndone fates write → (write ≡ id) ⊎ IsUndone now write
undone-but id before after fates now turns write undone = elim (cases_eq write id) [
  | inl e ↦ inl e
  | inr apart ↦ elim undone [
    | inl e ↦ inr (inl (turns.others write apart ∙ e))
    | inr e ↦ inr (inr (turns.others write apart ∙ e))
  ]
]

-- an id of which no directory stands is forgotten
stand-forgotten : {Record : Type 0} (past : Compaction → Type 0) (foreign foreign_now : ℕ → Type 0) (jobs : List Compaction) (made : Delta → List Record)
    (names : List Delta) (files : Delta → List Record) (id : ℕ)
    → Stand past foreign jobs made names files → ((statement : ℕ) → IsIn (Own id statement) names → ⊥)
    → ((write : ℕ) → foreign write → (write ≡ id) ⊎ foreign_now write)
    → Stand past foreign_now jobs made names files
stand-forgotten past foreign foreign_now jobs made names files id stand none stay = record {
  each = stand.each;
  only = λ d at. elim (stand.only d at) [
    | inl m ↦ inl m
    | inr is ↦ elim (stay is.0 is.3) [
      | inl e ↦ absurd (none is.1 (subst (λ x. IsIn x names) (is.2 ∙ ap (λ n. Own n is.1) e) at))
      | inr now ↦ inr (is.0, is.1, is.2, now)
    ]
  ];
}

opening-keeps : {Found : Type 0} (id_of : Found → RowId) (state : State Found)
    → IsKept id_of state → Keeps id_of state (record state { next = state.next + 1; open_txns = state.next ∷ state.open_txns })
opening-keeps id_of state kept = same-tree id_of state (record state { next = state.next + 1; open_txns = state.next ∷ state.open_txns }) refl (record {
  most = kept.most;
  knows = opened state.fates state.jobs state.next state.open_txns state.readers kept.knows;
  marks = λ job at. let m : mark_of job ≤ state.next = kept.marks job at in omega arith;
  sound = kept.sound;
  distinct = kept.distinct;
  committed = kept.committed;
  seen = kept.seen;
  stands = stands-weaker id_of (IsPast state.open_txns) (IsPast (state.next ∷ state.open_txns)) (IsUndone state.fates) (IsUndone state.fates)
      state.writes state.jobs state.tree kept.stands
      (λ job listed past txn at. elim at [ inl e ↦ subst (λ n. mark_of job ≤ n) e (kept.marks job listed) | inr there ↦ past txn there ])
      (λ write is. is);
})

starting-keeps : {Found : Type 0} (id_of : Found → RowId) (state : State Found) (txn : ℕ)
    → IsKept id_of state → IsIn txn state.open_txns
    → Keeps id_of state (record state { readers = record { txn = txn; before = state.fates } ∷ state.readers })
starting-keeps {Found = Found} id_of state txn kept is =
    same-tree id_of state (record state { readers = record { txn = txn; before = state.fates } ∷ state.readers }) refl (record {
      most = kept.most;
      knows = started state.fates state.jobs state.next txn state.open_txns state.readers kept.knows is;
      marks = kept.marks;
      sound = kept.sound;
      distinct = kept.distinct;
      committed = kept.committed;
      seen = λ reader at. elim at [
        | inl e ↦ subst (HasSeen state) e (
          state.writes,
          [],
          sym (append-nil state.writes),
          record { goes = λ write. goes-on-itself (fate_of state.fates write); were = kept.committed; are = λ w here. absurd here; were_not = λ w here. absurd here },
        )
        | inr there ↦ kept.seen reader there
      ];
      stands = kept.stands;
    })

pub ending-keeps : {Found : Type 0} (id_of : Found → RowId) (state : State Found) (open_txns : List ℕ) (readers : List Reader)
    → IsKept id_of state → ((txn : ℕ) → IsIn txn open_txns → IsIn txn state.open_txns)
    → ((reader : Reader) → IsIn reader readers → IsIn reader state.readers × IsIn reader.txn open_txns)
    → Keeps id_of state (record state { open_txns = open_txns; readers = readers })
ending-keeps id_of state open_txns readers kept txns snapshots = same-tree id_of state (record state { open_txns = open_txns; readers = readers }) refl (record {
  most = kept.most;
  knows = ended-txn state.fates state.jobs state.next state.open_txns open_txns state.readers readers kept.knows txns snapshots;
  marks = kept.marks;
  sound = kept.sound;
  distinct = kept.distinct;
  committed = kept.committed;
  seen = λ reader at. kept.seen reader (snapshots reader at).0;
  stands = stands-weaker id_of (IsPast state.open_txns) (IsPast open_txns) (IsUndone state.fates) (IsUndone state.fates)
      state.writes state.jobs state.tree kept.stands (λ job listed past txn at. past txn (txns txn at)) (λ write is. is);
})

pub each-other-entry-keeps : {Found : Type 0} → EachOtherEntryKeeps Found
each-other-entry-keeps = record {
  opening = opening-keeps;
  starting = starting-keeps;
  giving = λ id_of state id fates kept turns.
      fates-keep id_of state fates kept (goes-none id state.fates fates turns)
      (stands-weaker id_of (IsPast state.open_txns) (IsPast state.open_txns) (IsUndone state.fates) (IsUndone fates) state.writes state.jobs state.tree kept.stands
      (λ job listed past. past) (λ write undone. elim (undone-but id None Open state.fates fates turns write undone) [
        | inl e ↦ inl (ap (fate_of fates) e ∙ turns.is)
        | inr on ↦ on
      ]));
  ending = ending-keeps;
  forgetting = λ id_of state id fates kept turns none.
      fates-keep id_of state fates kept (goes-forgotten id state.fates fates turns) (record {
        deltas = stand-forgotten (IsPast state.open_txns) (IsUndone state.fates) (IsUndone fates) state.jobs (inserts_in state.writes)
            state.tree.deltas state.tree.inserts id kept.stands.deltas (λ statement at. none (DeltaDir (Own id statement)) refl at)
            (undone-but id (Some Aborted) Forgotten state.fates fates turns);
        delete_deltas = stand-forgotten (IsPast state.open_txns) (IsUndone state.fates) (IsUndone fates) state.jobs (deletes_in state.writes)
            state.tree.delete_deltas state.tree.deletes id kept.stands.delete_deltas (λ statement at. none (DeleteDir (Own id statement)) refl at)
            (undone-but id (Some Aborted) Forgotten state.fates fates turns);
        bases = kept.stands.bases;
        only_bases = kept.stands.only_bases;
      });
}
