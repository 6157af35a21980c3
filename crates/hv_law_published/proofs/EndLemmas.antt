-- What holds at the beginning holds through commits, aborts, and whatever happens in own directories of undone write ids.
use Rattle.std.proofs.Common.{refl, ◌≡◌, ◌⊎◌, inl, inr, ℕ, ◌==◌, ◌<◌, ◌≤◌, Some, false, List, [], ◌∷◌, ◌++◌, filter, sym, ap, ◌∙◌, subst, arith, append_assoc, true≢false}
use Rattle.std.proofs.lemmas.Bool.{cases_eq, and_parts, eqb-true}
use Rattle.std.proofs.lemmas.List.{append-nil}
use Rattle.std.specs.List.{flat_map}
use Rattle.std.specs.Ordering.{is_eq}
use Rattle.hv_base.specs.declared.ids.RowId.{RowId}
use Rattle.hv_wids.specs.WriteIds.{WriteIds}
use Rattle.hv_dirs.specs.Choice.{Sight, sight_of, Delta, Own, Wide, chosen_above, delta_cmp}
use Rattle.hv_base.specs.Sorting.{sorted_by}
use Rattle.hv_law_visible.specs.Members.{IsIn}
use Rattle.hv_law_visible.specs.History.{Write, Compaction, Major, end_of, has_write, write_of, inserts_of, inserts_in, deletes_in, by_deleter, rows_in, IsMadeBase}
use Rattle.hv_law_visible.specs.Visible.{Tree, base_chosen, by_id}
use Rattle.hv_law_visible.specs.Stands.{IsSound, HasDistinctRows, Fits, Stands}
use Rattle.hv_law_visible.specs.Snapshots.{Fate, Open, Committed, Aborted, fate_of, GoesTo, IsUndone}
use Rattle.hv_law_visible.specs.Readers.{Reader, IsPast, Knows}
use Rattle.hv_law_visible.proofs.MemberLemmas.{in-either, from-flat, from-filter}
use Rattle.hv_law_visible.proofs.RowLemmas.{row-write}
use Rattle.hv_law_visible.proofs.ReaderLemmas.{fates-go, ended-txn, open-above, since-commit}
use Rattle.hv_law_visible.proofs.SortingLemmas.{distinct-joined}
use Rattle.hv_law_visible.proofs.TakenLemmas.{is-taken}
use Rattle.hv_law_published.specs.State.{State, IsKept, IsOpenList}
use Rattle.hv_law_published.specs.Directories.{Directory, BaseDir, DeltaDir, DeleteDir, ChangesTree, HasOwn, IsOwnOf, IsChosenIn}
use Rattle.hv_law_published.specs.Laws.{Keeps, Ends, IsWrittenBy, AnAbortedWriteKeeps}
use Rattle.hv_law_published.proofs.ChangeLemmas.{own-delta-cases, own-delete-cases, IsRight, stand-changed, stand-weaker, bases-changed, bases-of, with-bases}
use Rattle.hv_law_published.proofs.CommitLemmas.{committed, rows-kept}
use Rattle.hv_law_published.proofs.StateLemmas.{list-fits, same-writes, same-tree, goes-where-open, open-from-one, open-not-committed, aborted-not-committed}

-- ---- the beginning

pub new-kept : {Found : Type 0} (id_of : Found → RowId) (fates : List Fate) (next : ℕ) (open_txns : List ℕ) (readers : List Reader) (tree : Tree Found)
    → ((txn : ℕ) → IsIn txn open_txns → txn < next)
    → ((reader : Reader) → IsIn reader readers → IsIn reader.txn open_txns × ((write : ℕ) → GoesTo (fate_of reader.before write) (fate_of fates write)))
    → tree.bases ≡ [] → tree.deltas ≡ [] → tree.delete_deltas ≡ []
    → IsKept id_of (record { fates = fates; writes = []; jobs = []; next = next; open_txns = open_txns; readers = readers; tree = tree })
new-kept id_of fates next open_txns readers tree below are bases deltas deletes = record {
  most = 0;
  knows = record {
    jobs_ended = λ job at. absurd at;
    below = below;
    are_open = λ reader at. (are reader at).0;
    seen = λ reader job at listed. absurd listed;
  };
  marks = λ job at. absurd at;
  sound = record {
    from_one = λ w at. absurd at;
    carried = λ w found at. absurd at;
    earlier = λ w id at. absurd at;
    minors = λ first last mark at. absurd at;
    majors = λ last mark at. absurd at;
  };
  distinct = tt;
  committed = λ w at. absurd at;
  seen = λ reader at. ([], [], refl, record { goes = (are reader at).1; were = λ w here. absurd here; are = λ w here. absurd here; were_not = λ w here. absurd here });
  stands = record {
    deltas = record { each = λ d r is at. absurd at; only = λ d at. absurd (subst (λ ds. IsIn d ds) deltas at) };
    delete_deltas = record { each = λ d r is at. absurd at; only = λ d at. absurd (subst (λ ds. IsIn d ds) deletes at) };
    bases = λ base made. absurd made.1;
    only_bases = λ base at. absurd (subst (λ bs. IsIn base bs) bases at);
  };
}

-- ---- a transaction ends

inserts-joined : {Found : Type 0} (writes more : List (Write Found)) → inserts_of (writes ++ more) ≡ inserts_of writes ++ inserts_of more
inserts-joined [] more = refl
inserts-joined (w ∷ writes) more =
    ap (λ rest. w.inserts ++ rest) (inserts-joined writes more) ∙ sym (append_assoc w.inserts (inserts_of writes) (inserts_of more))

module _ {Found : Type 0} (id_of : Found → RowId) (state : State Found) (id : ℕ) (fate : Fate) (fates : List Fate) (open_txns : List ℕ) (readers : List Reader)
    (kept : IsKept id_of state) (ends : Ends id fate state fates open_txns readers) where
  goes : (write : ℕ) → GoesTo (fate_of state.fates write) (fate_of fates write)
  goes = goes-where-open id state.fates fates ends.turns.was ends.turns.others

  end-knows : Knows fates state.jobs state.next open_txns readers
  unfolding goes
  end-knows =
      ended-txn fates state.jobs state.next state.open_txns open_txns state.readers readers
      (fates-go state.fates fates state.jobs state.next state.open_txns state.readers kept.knows goes) ends.txns ends.snapshots

  end-past : (job : Compaction) → IsPast state.open_txns job → IsPast open_txns job
  end-past job past txn at = past txn (ends.txns txn at)

  end-committed : (w : Write Found) → IsIn w state.writes → fate_of fates w.write ≡ Some Committed
  unfolding goes
  end-committed w at = subst (λ o. GoesTo o (fate_of fates w.write)) (kept.committed w at) (goes w.write)

  end-seen : (more : List (Write Found)) → ((w : Write Found) → IsIn w more → (fate_of state.fates w.write ≡ Some Open) × (fate_of fates w.write ≡ Some Committed))
      → (reader : Reader) → IsIn reader readers
      → (seen : List (Write Found)) × (since : List (Write Found)) × (state.writes ++ more ≡ seen ++ since) × Rattle.hv_law_visible.specs.Snapshots.IsSince reader.before fates seen since
  unfolding goes
  end-seen more new reader at =
      let s = kept.seen reader (ends.snapshots reader at).0 in
      (s.0, s.1 ++ more, ap (λ ws. ws ++ more) s.2 ∙ append_assoc s.0 s.1 more, since-commit reader.before state.fates fates s.0 s.1 more s.3 goes new)

  end-undone : (write : ℕ) → IsUndone state.fates write → (write ≡ id) ⊎ IsUndone fates write
  end-undone write undone = elim (cases_eq write id) [
    | inl e ↦ inl e
    | inr apart ↦ elim undone [
      | inl e ↦ inr (inl (ends.turns.others write apart ∙ e))
      | inr e ↦ inr (inr (ends.turns.others write apart ∙ e))
    ]
  ]

-- ---- a commit

module _ {Found : Type 0} (id_of : Found → RowId) (state : State Found) (id : ℕ) (more : List (Write Found)) (fates : List Fate) (open_txns : List ℕ) (readers : List Reader)
    (kept : IsKept id_of state) (ends : Ends id Committed state fates open_txns readers) (written : IsWrittenBy id_of id more) (own : HasOwn id more state.tree) where
  new : (w : Write Found) → IsIn w state.writes → w.write ≡ id → ⊥
  new w at e = open-not-committed (fate_of state.fates id) ends.turns.was (sym (ap (fate_of state.fates) e) ∙ kept.committed w at)

  above : (job : Compaction) → IsIn job state.jobs → end_of job < id
  above = open-above state.fates state.jobs state.next state.open_txns state.readers id kept.knows (open-from-one state.fates id ends.turns.was) ends.turns.was

  commit-sound : IsSound id_of kept.most (state.writes ++ more) state.jobs
  commit-sound = record {
    from_one = λ w at. elim (in-either w state.writes more at) [
      | inl old ↦ kept.sound.from_one w old
      | inr now ↦ subst (λ n. 1 ≤ n) (sym (written.one w now)) (open-from-one state.fates id ends.turns.was)
    ];
    carried = λ w f at has. elim (in-either w state.writes more at) [
      | inl old ↦ kept.sound.carried w f old has
      | inr now ↦ written.carried w f now has ∙ sym (written.one w now)
    ];
    earlier = λ w f at has. elim (in-either w state.writes more at) [
      | inl old ↦ kept.sound.earlier w f old has
      | inr now ↦ subst (λ n. write_of f ≤ n) (sym (written.one w now)) (written.earlier w f now has)
    ];
    minors = kept.sound.minors;
    majors = kept.sound.majors;
  }

  commit-distinct : HasDistinctRows id_of (state.writes ++ more)
  unfolding new
  commit-distinct =
      subst (Rattle.hv_law_visible.specs.Members.HasNoTies (by_id id_of)) (sym (inserts-joined state.writes more))
      (distinct-joined (by_id id_of) (inserts_of state.writes) (inserts_of more) kept.distinct written.distinct (λ x y at_x at_y e.
      let a = from-flat (λ (w : Write Found). w.inserts) x state.writes at_x in
      let b = from-flat (λ (w : Write Found). w.inserts) y more at_y in
      new a.0 a.1 (sym (kept.sound.carried a.0 x a.1 a.2) ∙ row-write (id_of x) (id_of y) (ap is_eq e) ∙ written.carried b.0 y b.1 b.2)))

  commit-stands : Stands id_of (IsPast open_txns) (IsUndone fates) (state.writes ++ more) state.jobs state.tree
  unfolding new above
  commit-stands =
      let past = IsPast state.open_txns in
      let foreign = IsUndone state.fates in
      let stay = end-undone id_of state id Committed fates open_txns readers kept ends in
      let grows : (job : Compaction) → IsIn job state.jobs → IsPast state.open_txns job → IsPast open_txns job =
      λ job listed. end-past id_of state id Committed fates open_txns readers kept ends job in
      let same : (base : ℕ) → IsMadeBase state.jobs base → rows_in id_of (state.writes ++ more) base ≡ rows_in id_of state.writes base =
      λ base made. rows-kept id_of base state.writes more (λ w at.
      let over : base < id = above (Major base made.0) made.1 in
      let e : w.write ≡ id = written.one w at in
      omega arith) in
      record {
        deltas = stand-weaker past (IsPast open_txns) (IsUndone fates) (IsUndone fates) state.jobs (inserts_in (state.writes ++ more)) state.tree.deltas state.tree.inserts
            (committed (λ (w : Write Found). w.inserts) past foreign (IsUndone fates) state.jobs state.writes more id state.tree.deltas state.tree.inserts
            written.one above new stay
            (λ statement r at. (((own.deltas statement).each r at).0, λ s s_in. ((own.deltas statement).each s s_in).1))
            (λ statement. (own.deltas statement).only) kept.stands.deltas)
            grows (λ write is. is);
        delete_deltas = stand-weaker past (IsPast open_txns) (IsUndone fates) (IsUndone fates) state.jobs (deletes_in (state.writes ++ more)) state.tree.delete_deltas state.tree.deletes
            (committed by_deleter past foreign (IsUndone fates) state.jobs state.writes more id state.tree.delete_deltas state.tree.deletes
            written.one above new stay
            (λ statement r at. (((own.delete_deltas statement).each r at).0, λ s s_in. ((own.delete_deltas statement).each s s_in).1))
            (λ statement. (own.delete_deltas statement).only) kept.stands.delete_deltas)
            grows (λ write is. is);
        bases = λ base made. elim (kept.stands.bases base made) [
          | inl loose ↦ inl (loose.0, loose.1, grows loose.0 loose.1 loose.2, loose.3)
          | inr whole ↦ inr (whole.0, λ f at. whole.1 f (subst (λ xs. IsIn f xs) (same base made) at))
        ];
        only_bases = λ base at.
            let o = kept.stands.only_bases base at in (
              o.0,
              elim o.1 [
                | inl loose ↦ inl (loose.0, loose.1, grows loose.0 loose.1 loose.2, loose.3)
                | inr only ↦ inr (λ f has. subst (λ xs. IsIn f xs) (sym (same base o.0)) (only f has))
              ],
            );
      }

  pub commit-keeps : Keeps id_of state (record state { fates = fates; writes = state.writes ++ more; open_txns = open_txns; readers = readers })
  unfolding end-knows end-committed end-seen
  commit-keeps = same-tree id_of state (record state { fates = fates; writes = state.writes ++ more; open_txns = open_txns; readers = readers }) refl (record {
    most = kept.most;
    knows = end-knows id_of state id Committed fates open_txns readers kept ends;
    marks = kept.marks;
    sound = commit-sound;
    distinct = commit-distinct;
    committed = λ w at. elim (in-either w state.writes more at) [
      | inl old ↦ end-committed id_of state id Committed fates open_txns readers kept ends w old
      | inr now ↦ ap (fate_of fates) (written.one w now) ∙ ends.turns.is
    ];
    seen = end-seen id_of state id Committed fates open_txns readers kept ends more
        (λ w at. (ap (fate_of state.fates) (written.one w at) ∙ ends.turns.was, ap (fate_of fates) (written.one w at) ∙ ends.turns.is));
    stands = commit-stands;
  })

-- ---- an abort

pub abort-keeps : {Found : Type 0} (id_of : Found → RowId) (state : State Found) (id : ℕ) (fates : List Fate) (open_txns : List ℕ) (readers : List Reader)
    → IsKept id_of state → Ends id Aborted state fates open_txns readers
    → Keeps id_of state (record state { fates = fates; open_txns = open_txns; readers = readers })
unfolding end-knows end-committed end-seen end-undone end-past
abort-keeps {Found = Found} id_of state id fates open_txns readers kept ends =
    let grows : (job : Compaction) → IsIn job state.jobs → IsPast state.open_txns job → IsPast open_txns job =
    λ job listed. end-past id_of state id Aborted fates open_txns readers kept ends job in
    let stay : (write : ℕ) → IsUndone state.fates write → IsUndone fates write =
    λ write undone. elim (end-undone id_of state id Aborted fates open_txns readers kept ends write undone) [
      | inl e ↦ inr (ap (fate_of fates) e ∙ ends.turns.is)
      | inr on ↦ on
    ] in
    same-tree id_of state (record state { fates = fates; open_txns = open_txns; readers = readers }) refl (record {
      most = kept.most;
      knows = end-knows id_of state id Aborted fates open_txns readers kept ends;
      marks = kept.marks;
      sound = kept.sound;
      distinct = kept.distinct;
      committed = end-committed id_of state id Aborted fates open_txns readers kept ends;
      seen = λ reader at.
          let s = end-seen id_of state id Aborted fates open_txns readers kept ends [] (λ w here. absurd here) reader at in
          (s.0, s.1, sym (append-nil state.writes) ∙ s.2, s.3);
      stands = record {
        deltas = stand-weaker (IsPast state.open_txns) (IsPast open_txns) (IsUndone state.fates) (IsUndone fates) state.jobs (inserts_in state.writes)
            state.tree.deltas state.tree.inserts kept.stands.deltas grows stay;
        delete_deltas = stand-weaker (IsPast state.open_txns) (IsPast open_txns) (IsUndone state.fates) (IsUndone fates) state.jobs (deletes_in state.writes)
            state.tree.delete_deltas state.tree.deletes kept.stands.delete_deltas grows stay;
        bases = λ base made. elim (kept.stands.bases base made) [
          | inl loose ↦ inl (loose.0, loose.1, grows loose.0 loose.1 loose.2, loose.3)
          | inr whole ↦ inr whole
        ];
        only_bases = λ base at.
            let o = kept.stands.only_bases base at in
            (o.0, elim o.1 [ inl loose ↦ inl (loose.0, loose.1, grows loose.0 loose.1 loose.2, loose.3) | inr only ↦ inr only ]);
      };
    })

-- ---- own directories of an undone write id

undone-not-committed : (fates : List Fate) (id : ℕ) → IsUndone fates id → fate_of fates id ≡ Some Committed → ⊥
undone-not-committed fates id (inl e) = open-not-committed (fate_of fates id) e
undone-not-committed fates id (inr e) = aborted-not-committed (fate_of fates id) e

module _ {Found : Type 0} (id_of : Found → RowId) (state : State Found) (id : ℕ) (kept : IsKept id_of state) (undone : IsUndone state.fates id) where
  own-right : {Record : Type 0} (events : Write Found → List Record) (names : List Delta) (files : Delta → List Record) (write statement : ℕ) → write ≡ id
      → IsRight (IsPast state.open_txns) (IsUndone state.fates) state.jobs (λ d. flat_map events (filter (has_write d) state.writes)) names files (Own write statement)
  own-right events names files write statement e = record {
    each = λ r is at.
        let w = from-flat events r (filter (has_write (Own write statement)) state.writes) at in
        let k = from-filter (has_write (Own write statement)) w.0 state.writes w.1 in
        let same : w.0.write ≡ write = eqb-true w.0.write write (and_parts (w.0.write == write) (w.0.statement == statement) k.1).0 in
        absurd (undone-not-committed state.fates id undone (sym (ap (fate_of state.fates) (same ∙ e)) ∙ kept.committed w.0 k.0));
    only = λ there. inr (write, statement, refl, subst (IsUndone state.fates) (sym e) undone);
  }

  delta-right : (now : Tree Found) (d : Delta) → IsOwnOf id (DeltaDir d)
      → IsRight (IsPast state.open_txns) (IsUndone state.fates) state.jobs (inserts_in state.writes) now.deltas now.inserts d
  delta-right now (Own write statement) e = own-right (λ (w : Write Found). w.inserts) now.deltas now.inserts write statement e
  delta-right now (Wide first last) e = absurd e

  delete-right : (now : Tree Found) (d : Delta) → IsOwnOf id (DeleteDir d)
      → IsRight (IsPast state.open_txns) (IsUndone state.fates) state.jobs (deletes_in state.writes) now.delete_deltas now.deletes d
  delete-right now (Own write statement) e = own-right by_deleter now.delete_deltas now.deletes write statement e
  delete-right now (Wide first last) e = absurd e

  pub anything-keeps : (tree : Tree Found) → ChangesTree (IsOwnOf id) state.tree tree → Keeps id_of state (record state { tree = tree })
  anything-keeps tree changes = same-writes id_of state (record state { tree = tree }) kept refl (record {
    most = kept.most;
    knows = kept.knows;
    marks = kept.marks;
    sound = kept.sound;
    distinct = kept.distinct;
    committed = kept.committed;
    seen = kept.seen;
    stands = with-bases id_of (IsPast state.open_txns) (IsUndone state.fates) state.writes state.jobs tree
        (stand-changed (IsPast state.open_txns) (IsUndone state.fates) state.jobs state.jobs (inserts_in state.writes) (λ d. IsOwnOf id (DeltaDir d))
        state.tree.deltas tree.deltas state.tree.inserts tree.inserts kept.stands.deltas (own-delta-cases id) changes.deltas
        (λ d is. is) (λ d apart is. is) (λ d is. is) (delta-right tree))
        (stand-changed (IsPast state.open_txns) (IsUndone state.fates) state.jobs state.jobs (deletes_in state.writes) (λ d. IsOwnOf id (DeleteDir d))
        state.tree.delete_deltas tree.delete_deltas state.tree.deletes tree.deletes kept.stands.delete_deltas (own-delete-cases id) changes.delete_deltas
        (λ d is. is) (λ d apart is. is) (λ d is. is) (delete-right tree))
        (bases-changed (IsPast state.open_txns) state.jobs state.jobs (rows_in id_of state.writes) (λ base. ⊥)
        state.tree.bases tree.bases state.tree.rows tree.rows
        (bases-of id_of (IsPast state.open_txns) (IsUndone state.fates) state.writes state.jobs state.tree kept.stands)
        (λ base. inr (λ e. e)) changes.bases (λ base is. is) (λ base apart is. is) (λ base is. is) (λ base e. absurd e));
  })

-- a list doesn't take what has no valid id
not-taken : (sight : Sight) (base : ℕ) (names : List Delta) (write statement : ℕ) {Found : Type 0} (past : Compaction → Type 0) (foreign : ℕ → Type 0)
    (writes : List (Write Found)) (jobs : List Compaction) → Fits sight past foreign writes jobs → foreign write
    → IsIn (Own write statement) (chosen_above sight base names) → ⊥
unfolding chosen_above
not-taken sight base names write statement past foreign writes jobs fits undone chosen =
    let t = is-taken sight base base false (Own write statement) (sorted_by delta_cmp names) (omega arith) (λ e. absurd (true≢false (sym e))) chosen in
    let s = fits.some_valid write write t.some in
    let a : write ≤ s.0 = s.1 in
    let b : s.0 ≤ write = s.2 in
    let one : s.0 ≡ write = omega arith in
    true≢false (sym s.3 ∙ ap sight.valid one ∙ fits.unseen write undone)

pub undone-unchosen : {Found : Type 0} (id_of : Found → RowId) (state : State Found) (id : ℕ) (list : WriteIds) (dir : Directory)
    → IsKept id_of state → IsUndone state.fates id → IsOpenList state list → IsOwnOf id dir
    → IsChosenIn (sight_of list) state.tree dir → ⊥
undone-unchosen id_of state id list (BaseDir base) kept undone is own chosen = own
undone-unchosen id_of state id list (DeltaDir (Wide first last)) kept undone is own chosen = own
undone-unchosen id_of state id list (DeleteDir (Wide first last)) kept undone is own chosen = own
undone-unchosen id_of state id list (DeltaDir (Own write statement)) kept undone is own chosen =
    not-taken (sight_of list) (base_chosen (sight_of list) state.tree) state.tree.deltas write statement (IsPast state.open_txns) (IsUndone state.fates)
    state.writes state.jobs (list-fits id_of state list kept is) (subst (IsUndone state.fates) (sym own) undone) chosen
undone-unchosen id_of state id list (DeleteDir (Own write statement)) kept undone is own chosen =
    not-taken (sight_of list) (base_chosen (sight_of list) state.tree) state.tree.delete_deltas write statement (IsPast state.open_txns) (IsUndone state.fates)
    state.writes state.jobs (list-fits id_of state list kept is) (subst (IsUndone state.fates) (sym own) undone) chosen

pub aborted-write-keeps : {Found : Type 0} → AnAbortedWriteKeeps Found
aborted-write-keeps = record {
  anything = λ id_of state id tree kept undone. anything-keeps id_of state id kept undone tree;
  unseen = undone-unchosen;
  aborting = abort-keeps;
}
