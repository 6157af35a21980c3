-- What a published compaction and a removal do.
use Rattle.std.proofs.Common.{refl, ◌≡◌, inl, inr, ℕ, ◌+◌, ◌≤◌, Bool, true, false, List, ◌∷◌, sym, ap, subst, arith, true≢false}
use Rattle.std.proofs.lemmas.Bool.{cases_eq}
use Rattle.hv_base.specs.declared.ids.RowId.{RowId}
use Rattle.hv_dirs.specs.Choice.{Delta, Own, Wide}
use Rattle.hv_law_visible.specs.History.{Write, Compaction, Minor, Major, end_of, mark_of, inserts_in, deletes_in, rows_in, IsMade, IsMadeBase}
use Rattle.hv_law_visible.specs.Visible.{Tree}
use Rattle.hv_law_visible.specs.Stands.{IsSound, IsLoose, IsLooseBase, Stand, Stands}
use Rattle.hv_law_visible.specs.Snapshots.{IsUndone, HaveEnded}
use Rattle.hv_law_visible.specs.Readers.{IsPast}
use Rattle.hv_law_visible.proofs.ReaderLemmas.{job-published}
use Rattle.hv_law_published.specs.State.{State, IsKept}
use Rattle.hv_law_published.specs.Directories.{Directory, BaseDir, DeltaDir, DeleteDir, StandsIn, ChangesAt, ChangesTree, Loses, HasJust, IsMadeBy, HasMade, IsLooseDir}
use Rattle.hv_law_published.specs.Laws.{Keeps, HasRange}
use Rattle.hv_law_published.proofs.ChangeLemmas.{name-cases, dir-cases, IsRight, stand-changed, IsRightBase, bases-changed, bases-of, with-bases}
use Rattle.hv_law_published.proofs.StateLemmas.{same-writes}

-- ---- the history with the compaction

job-sound : {Found : Type 0} (id_of : Found → RowId) (most : ℕ) (writes : List (Write Found)) (jobs : List Compaction) (job : Compaction)
    → IsSound id_of most writes jobs → HasRange job → IsSound id_of (most + end_of job) writes (job ∷ jobs)
job-sound id_of most writes jobs (Minor low high at_mark) sound range = record {
  from_one = sound.from_one;
  carried = sound.carried;
  earlier = sound.earlier;
  minors = λ first last mark at. elim at [
    | inl e ↦
        let f : low ≡ first = ap first_named e in
        let l : high ≡ last = ap end_of e in
        let a : 1 ≤ low = range.0 in
        let b : low ≤ high = range.1 in
        (omega arith, omega arith, omega arith)
    | inr there ↦
        let m = sound.minors first last mark there in
        let c : last ≤ most = m.2 in
        (m.0, m.1, omega arith)
  ];
  majors = λ last mark at. elim at [
    | inl e ↦ absurd (true≢false (ap is_minor e))
    | inr there ↦
        let m = sound.majors last mark there in
        let c : last ≤ most = m.1 in
        (m.0, omega arith)
  ];
}
  where
    first_named : Compaction → ℕ
    first_named (Minor first last mark) = first
    first_named (Major last mark) = 0

    is_minor : Compaction → Bool
    is_minor (Minor first last mark) = true
    is_minor (Major last mark) = false
job-sound id_of most writes jobs (Major high at_mark) sound range = record {
  from_one = sound.from_one;
  carried = sound.carried;
  earlier = sound.earlier;
  minors = λ first last mark at. elim at [
    | inl e ↦ absurd (true≢false (ap is_major e))
    | inr there ↦
        let m = sound.minors first last mark there in
        let c : last ≤ most = m.2 in
        (m.0, m.1, omega arith)
  ];
  majors = λ last mark at. elim at [
    | inl e ↦
        let l : high ≡ last = ap end_of e in
        let a : 1 ≤ high = range in
        (omega arith, omega arith)
    | inr there ↦
        let m = sound.majors last mark there in
        let c : last ≤ most = m.1 in
        (m.0, omega arith)
  ];
}
  where
    is_major : Compaction → Bool
    is_major (Minor first last mark) = false
    is_major (Major last mark) = true

loose-more : (past : Compaction → Type 0) (job : Compaction) (jobs : List Compaction) (d : Delta) → IsLoose past jobs d → IsLoose past (job ∷ jobs) d
loose-more past job jobs d loose = (loose.0, inr loose.1, loose.2, loose.3)

loose-base-more : (past : Compaction → Type 0) (job : Compaction) (jobs : List Compaction) (base : ℕ) → IsLooseBase past jobs base → IsLooseBase past (job ∷ jobs) base
loose-base-more past job jobs base loose = (loose.0, inr loose.1, loose.2, loose.3)

made-more : (job : Compaction) (jobs : List Compaction) (d : Delta) → IsMade jobs d → IsMade (job ∷ jobs) d
made-more job jobs (Own write statement) is = tt
made-more job jobs (Wide a b) is = (is.0, inr is.1)

made-base-more : (job : Compaction) (jobs : List Compaction) (base : ℕ) → IsMadeBase jobs base → IsMadeBase (job ∷ jobs) base
made-base-more job jobs base is = (is.0, inr is.1)

-- what it makes that was not made before is what it changes
range_of : Compaction → Delta
range_of (Minor first last mark) = Wide first last
range_of (Major last mark) = Own 0 0

is_minor_job : Compaction → Bool
is_minor_job (Minor first last mark) = true
is_minor_job (Major last mark) = false

made-before : (job : Compaction) (jobs : List Compaction) (d : Delta) → (IsMadeBy job (DeltaDir d) → ⊥) → IsMade (job ∷ jobs) d → IsMade jobs d
unfolding range_of is_minor_job
made-before job jobs (Own write statement) apart is = tt
made-before (Minor first last mark) jobs (Wide a b) apart is = elim is.1 [
  | inl e ↦ absurd (apart (sym (ap range_of e)))
  | inr there ↦ (is.0, there)
]
made-before (Major last mark) jobs (Wide a b) apart is = elim is.1 [
  | inl e ↦ absurd (true≢false (sym (ap is_minor_job e)))
  | inr there ↦ (is.0, there)
]

made-base-before : (job : Compaction) (jobs : List Compaction) (base : ℕ) → (IsMadeBy job (BaseDir base) → ⊥) → IsMadeBase (job ∷ jobs) base → IsMadeBase jobs base
unfolding is_minor_job
made-base-before (Minor first last mark) jobs base apart is = elim is.1 [
  | inl e ↦ absurd (true≢false (ap is_minor_job e))
  | inr there ↦ (is.0, there)
]
made-base-before (Major last mark) jobs base apart is = elim is.1 [
  | inl e ↦ absurd (apart (sym (ap end_of e)))
  | inr there ↦ (is.0, there)
]

-- ---- its directories

minor-stand : {Record : Type 0} (past : Compaction → Type 0) (foreign : ℕ → Type 0) (first last mark : ℕ) (jobs : List Compaction) (made : Delta → List Record)
    (names now : List Delta) (files then : Delta → List Record)
    → Stand past foreign jobs made names files → ChangesAt (λ d. d ≡ Wide first last) names now files then
    → HasJust (Wide first last) now then (made (Wide first last))
    → Stand past foreign (Minor first last mark ∷ jobs) made now then
minor-stand past foreign first last mark jobs made names now files then stand change just =
    stand-changed past foreign jobs (Minor first last mark ∷ jobs) made (λ d. d ≡ Wide first last) names now files then stand
    (λ d. name-cases d (Wide first last)) change (loose-more past (Minor first last mark) jobs)
    (made-before (Minor first last mark) jobs) (made-more (Minor first last mark) jobs)
    (λ d e. subst (IsRight past foreign (Minor first last mark ∷ jobs) made now then) (sym e) (record {
      each = λ r is at. inr ((just.each r at).0, λ s s_in. (just.each s s_in).1);
      only = λ there. inl ((mark, inl refl), (just.only there).0, inr (just.only there).1);
    }))

major-stand : {Record : Type 0} (past : Compaction → Type 0) (foreign : ℕ → Type 0) (last mark : ℕ) (jobs : List Compaction) (made : Delta → List Record)
    (names now : List Delta) (files then : Delta → List Record)
    → Stand past foreign jobs made names files → ChangesAt (λ d. ⊥) names now files then
    → Stand past foreign (Major last mark ∷ jobs) made now then
major-stand past foreign last mark jobs made names now files then stand change =
    stand-changed past foreign jobs (Major last mark ∷ jobs) made (λ d. ⊥) names now files then stand
    (λ d. inr (λ e. e)) change (loose-more past (Major last mark) jobs)
    (made-before (Major last mark) jobs) (made-more (Major last mark) jobs) (λ d e. absurd e)

job-stands : {Found : Type 0} (id_of : Found → RowId) (past : Compaction → Type 0) (foreign : ℕ → Type 0) (writes : List (Write Found)) (jobs : List Compaction)
    (tree now : Tree Found) (job : Compaction)
    → Stands id_of past foreign writes jobs tree → ChangesTree (IsMadeBy job) tree now → HasMade id_of writes job now
    → Stands id_of past foreign writes (job ∷ jobs) now
job-stands id_of past foreign writes jobs tree now (Minor first last mark) stands changes has =
    with-bases id_of past foreign writes (Minor first last mark ∷ jobs) now
    (minor-stand past foreign first last mark jobs (inserts_in writes) tree.deltas now.deltas tree.inserts now.inserts stands.deltas changes.deltas has.0)
    (minor-stand past foreign first last mark jobs (deletes_in writes) tree.delete_deltas now.delete_deltas tree.deletes now.deletes stands.delete_deltas changes.delete_deltas has.1)
    (bases-changed past jobs (Minor first last mark ∷ jobs) (rows_in id_of writes) (λ base. ⊥) tree.bases now.bases tree.rows now.rows
    (bases-of id_of past foreign writes jobs tree stands) (λ base. inr (λ e. e)) changes.bases (loose-base-more past (Minor first last mark) jobs)
    (made-base-before (Minor first last mark) jobs) (made-base-more (Minor first last mark) jobs) (λ base e. absurd e))
job-stands id_of past foreign writes jobs tree now (Major last mark) stands changes has =
    with-bases id_of past foreign writes (Major last mark ∷ jobs) now
    (major-stand past foreign last mark jobs (inserts_in writes) tree.deltas now.deltas tree.inserts now.inserts stands.deltas changes.deltas)
    (major-stand past foreign last mark jobs (deletes_in writes) tree.delete_deltas now.delete_deltas tree.deletes now.deletes stands.delete_deltas changes.delete_deltas)
    (bases-changed past jobs (Major last mark ∷ jobs) (rows_in id_of writes) (λ base. base ≡ last) tree.bases now.bases tree.rows now.rows
    (bases-of id_of past foreign writes jobs tree stands) (λ base. cases_eq base last) changes.bases (loose-base-more past (Major last mark) jobs)
    (made-base-before (Major last mark) jobs) (made-base-more (Major last mark) jobs)
    (λ base e. subst (IsRightBase past (Major last mark ∷ jobs) (rows_in id_of writes) now.bases now.rows) (sym e) (record {
      each = λ is. inr (has.0, λ f at. (has.1 f).1 at);
      only = λ there. ((mark, inl refl), inr (λ f at. (has.1 f).0 at));
    })))

pub job-keeps : {Found : Type 0} (id_of : Found → RowId) (state : State Found) (job : Compaction) (tree : Tree Found)
    → IsKept id_of state
    → HasRange job → HaveEnded state.fates (end_of job) → mark_of job ≡ state.next
    → ChangesTree (IsMadeBy job) state.tree tree → HasMade id_of state.writes job tree
    → Keeps id_of state (record state { jobs = job ∷ state.jobs; tree = tree })
job-keeps id_of state job tree kept range ended mark changes has =
    same-writes id_of state (record state { jobs = job ∷ state.jobs; tree = tree }) kept refl (record {
      most = kept.most + end_of job;
      knows = job-published state.fates state.jobs job state.next state.open_txns state.readers kept.knows ended mark;
      marks = λ other at. elim at [
        | inl e ↦ let same : mark_of job ≡ mark_of other = ap mark_of e in omega arith
        | inr there ↦ kept.marks other there
      ];
      sound = job-sound id_of kept.most state.writes state.jobs job kept.sound range;
      distinct = kept.distinct;
      committed = kept.committed;
      seen = kept.seen;
      stands = job-stands id_of (IsPast state.open_txns) (IsUndone state.fates) state.writes state.jobs state.tree tree job kept.stands changes has;
    })

-- ---- a removal

pub removal-keeps : {Found : Type 0} (id_of : Found → RowId) (state : State Found) (dir : Directory) (tree : Tree Found)
    → IsKept id_of state → IsLooseDir state dir → Loses dir state.tree tree
    → Keeps id_of state (record state { tree = tree })
removal-keeps {Found = Found} id_of state dir tree kept loose loses =
    same-writes id_of state (record state { tree = tree }) kept refl (record {
      most = kept.most;
      knows = kept.knows;
      marks = kept.marks;
      sound = kept.sound;
      distinct = kept.distinct;
      committed = kept.committed;
      seen = kept.seen;
      stands = with-bases id_of (IsPast state.open_txns) (IsUndone state.fates) state.writes state.jobs tree
          (stand-changed (IsPast state.open_txns) (IsUndone state.fates) state.jobs state.jobs (inserts_in state.writes) (λ d. DeltaDir d ≡ dir) state.tree.deltas tree.deltas
          state.tree.inserts tree.inserts kept.stands.deltas (λ d. dir-cases (DeltaDir d) dir) loses.changes.deltas
          (λ d is. is) (λ d apart is. is) (λ d is. is) (λ d e.
          let gone : IsLoose (IsPast state.open_txns) state.jobs d = subst (IsLooseDir state) (sym e) loose in
          record {
            each = λ r is at. inl gone;
            only = λ there. elim (kept.stands.deltas.only d (subst (λ x. StandsIn tree x → StandsIn state.tree x) (sym e) loses.stood there)) [
              | inl m ↦ inl (m.0, m.1, inl gone)
              | inr anything ↦ inr anything
            ];
          }))
          (stand-changed (IsPast state.open_txns) (IsUndone state.fates) state.jobs state.jobs (deletes_in state.writes) (λ d. DeleteDir d ≡ dir) state.tree.delete_deltas tree.delete_deltas
          state.tree.deletes tree.deletes kept.stands.delete_deltas (λ d. dir-cases (DeleteDir d) dir) loses.changes.delete_deltas
          (λ d is. is) (λ d apart is. is) (λ d is. is) (λ d e.
          let gone : IsLoose (IsPast state.open_txns) state.jobs d = subst (IsLooseDir state) (sym e) loose in
          record {
            each = λ r is at. inl gone;
            only = λ there. elim (kept.stands.delete_deltas.only d (subst (λ x. StandsIn tree x → StandsIn state.tree x) (sym e) loses.stood there)) [
              | inl m ↦ inl (m.0, m.1, inl gone)
              | inr anything ↦ inr anything
            ];
          }))
          (bases-changed (IsPast state.open_txns) state.jobs state.jobs (rows_in id_of state.writes) (λ base. BaseDir base ≡ dir) state.tree.bases tree.bases
          state.tree.rows tree.rows (bases-of id_of (IsPast state.open_txns) (IsUndone state.fates) state.writes state.jobs state.tree kept.stands) (λ base. dir-cases (BaseDir base) dir) loses.changes.bases
          (λ base is. is) (λ base apart is. is) (λ base is. is) (λ base e.
          let gone : IsLooseBase (IsPast state.open_txns) state.jobs base = subst (IsLooseDir state) (sym e) loose in
          record {
            each = λ is. inl gone;
            only = λ there.
                ((kept.stands.only_bases base (subst (λ x. StandsIn tree x → StandsIn state.tree x) (sym e) loses.stood there)).0, inl gone);
          }));
    })
