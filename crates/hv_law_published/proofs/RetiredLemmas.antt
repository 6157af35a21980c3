-- What is loose is retired: nobody chooses it, and another one that is chosen covers it.
use Rattle.std.proofs.Common.{refl, ◌≡◌, ◌⊎◌, inl, inr, ℕ, ◌-◌, ◌<◌, ◌≤◌, true, false, List, filter, sym, ap, ◌∙◌, subst, arith}
use Rattle.std.proofs.lemmas.Bool.{cases_lt}
use Rattle.std.specs.List.{flat_map}
use Rattle.hv_base.specs.declared.ids.RowId.{RowId}
use Rattle.hv_wids.specs.WriteIds.{WriteIds}
use Rattle.hv_dirs.specs.Choice.{Sight, sight_of, Delta, low_of, high_of, is_own, taken_from, chosen_above, delta_cmp}
use Rattle.hv_base.specs.Sorting.{sorted_by}
use Rattle.hv_law_visible.specs.Members.{IsIn}
use Rattle.hv_law_visible.specs.History.{Write, Compaction, Minor, Major, CoversBase, has_write, by_deleter, IsMade, IsMadeBase}
use Rattle.hv_law_visible.specs.Visible.{Tree, base_chosen}
use Rattle.hv_law_visible.specs.Stands.{IsSound, Fits, IsLoose, IsLooseBase, Stand, Stands}
use Rattle.hv_law_visible.specs.Snapshots.{is_seen, list_at, IsUndone}
use Rattle.hv_law_visible.specs.Readers.{IsPast}
use Rattle.hv_law_visible.proofs.ListLemmas.{valid-same}
use Rattle.hv_law_visible.proofs.LooseLemmas.{Above, above-loose, not-loose}
use Rattle.hv_law_visible.proofs.MemberLemmas.{from-flat, from-filter}
use Rattle.hv_law_visible.proofs.OrderLemmas.{ordered-sorted}
use Rattle.hv_law_visible.proofs.ReachedLemmas.{within-from}
use Rattle.hv_law_visible.proofs.SortingLemmas.{from-sorted, to-sorted}
use Rattle.hv_law_visible.proofs.TakenLemmas.{Ordered, Covers, covers}
use Rattle.hv_law_visible.proofs.VisibleLemmas.{greatest-chosen, takes-no-loose}
use Rattle.hv_law_published.specs.State.{State, IsKept, IsOpenList}
use Rattle.hv_law_published.specs.Directories.{Directory, BaseDir, DeltaDir, DeleteDir, IsChosenIn, IsMadeDir, IsLooseDir, IsWithin, IsUnderBase, IsCoveredIn, IsRetired}
use Rattle.hv_law_published.proofs.StateLemmas.{list-fits}

-- ---- what is above a delta that may be gone

module _ {Found Record : Type 0} (events : Write Found → List Record) (id_of : Found → RowId) (most : ℕ) (sight : Sight) (past : Compaction → Type 0) (foreign : ℕ → Type 0)
    (writes : List (Write Found)) (jobs : List Compaction) (dirs : List Delta) (files : Delta → List Record)
    (base : ℕ)
    (ordered : Ordered dirs)
    (sound : IsSound id_of most writes jobs)
    (fits : Fits sight past foreign writes jobs)
    (stand : Stand past foreign jobs (λ d. flat_map events (filter (has_write d) writes)) dirs files)
    (greatest : (h : ℕ) → IsMadeBase jobs h → sight.may_base h ≡ true → h ≤ base)
    (d : Delta) (w : Write Found) (r : Record) (at : IsIn w writes) (has : IsIn r (events w)) (is : has_write d w ≡ true) (is_made : IsMade jobs d)
    (above : base < high_of d)
  where
    -- another one that is chosen covers it, where its event is valid
    pub within-chosen : sight.valid w.write ≡ true → IsLoose past jobs d → IsWithin (taken_from sight base false dirs) d
    unfolding Above
    within-chosen valid loose =
        let u = above-loose events id_of most sight past foreign writes jobs dirs files base ordered sound fits stand greatest d w r at has is is_made above loose in
        let p = within-from d w is in
        let a : low_of d ≤ w.write = p.0 in
        let b : w.write ≤ high_of d = p.1 in
        let l : low_of u.0 ≤ low_of d = u.3 in
        let h : high_of d ≤ high_of u.0 = u.4 in
        let c = covers sight base false u.0 dirs ordered u.1 (omega arith) (omega arith)
        (fits.some_from (low_of u.0) (high_of u.0) w.write (omega arith) (omega arith) valid) in
        let wide : (low_of c.0 ≤ low_of u.0) × (high_of u.0 ≤ high_of c.0) = by u.0 c.0 u.2 c.2 in
        let l2 : low_of c.0 ≤ low_of u.0 = wide.0 in
        let h2 : high_of u.0 ≤ high_of c.0 = wide.1 in (
          c.0,
          c.1,
          λ e. not-loose events id_of most sight past foreign writes jobs dirs files base ordered sound fits stand greatest d
              (subst (λ x. IsIn x (taken_from sight base false dirs)) e c.1) loose,
          omega arith,
          omega arith,
        )
      where
        by : (x c : Delta) → is_own x ≡ false → Covers c x → (low_of c ≤ low_of x) × (high_of x ≤ high_of c)
        by x c wide (inl e) =
            let l : low_of c ≡ low_of x = ap low_of e in
            let h : high_of c ≡ high_of x = ap high_of e in
            (omega arith, omega arith)
        by x c wide (inr r) = (r.1, r.2)

-- ---- the greatest base

module _ {Found : Type 0} (id_of : Found → RowId) (most : ℕ) (sight : Sight) (past : Compaction → Type 0) (foreign : ℕ → Type 0)
    (writes : List (Write Found)) (jobs : List Compaction) (tree : Tree Found)
    (sound : IsSound id_of most writes jobs)
    (fits : Fits sight past foreign writes jobs)
    (stands : Stands id_of past foreign writes jobs tree)
  where
    pub greatest : (h : ℕ) → IsMadeBase jobs h → sight.may_base h ≡ true → h ≤ base_chosen sight tree
    greatest = greatest-chosen id_of most sight past foreign writes jobs tree sound fits stands

    under-greatest : (base : ℕ) (job : Compaction) → IsIn job jobs → past job → CoversBase job base → base < base_chosen sight tree
    under-greatest base (Minor first last mark) listed gone covered = absurd covered
    under-greatest base (Major last mark) listed gone covered =
        let under : last ≤ base_chosen sight tree = greatest last (mark, listed) (fits.past_may (Major last mark) listed gone) in
        let over : base < last = covered in
        omega arith

    pub base-covered : (base : ℕ) → IsLooseBase past jobs base → base < base_chosen sight tree
    base-covered base loose = under-greatest base loose.0 loose.1 loose.2 loose.3

    pub stand-sorted : {Record : Type 0} (names_of : List Delta) (files made : Delta → List Record)
        → Stand past foreign jobs made names_of files → Stand past foreign jobs made (sorted_by delta_cmp names_of) files
    stand-sorted names_of files made stand = record {
      each = λ d r is at. elim (stand.each d r is at) [ inl loose ↦ inl loose | inr whole ↦ inr (to-sorted delta_cmp d names_of whole.0, whole.1) ];
      only = λ d at. stand.only d (from-sorted delta_cmp d names_of at);
    }

    pub delta-covered : {Record : Type 0} (events : Write Found → List Record) (names_of : List Delta) (files : Delta → List Record)
        → ((w : Write Found) → IsIn w writes → sight.valid w.write ≡ true)
        → Stand past foreign jobs (λ d. flat_map events (filter (has_write d) writes)) names_of files
        → (d : Delta) (r : Record) → IsMade jobs d → IsIn r (flat_map events (filter (has_write d) writes)) → IsLoose past jobs d
        → IsUnderBase (base_chosen sight tree) d ⊎ IsWithin (chosen_above sight (base_chosen sight tree) names_of) d
    unfolding chosen_above
    delta-covered events names_of files all_valid stand d r made at loose =
        let f = from-flat events r (filter (has_write d) writes) at in
        let k = from-filter (has_write d) f.0 writes f.1 in
        let p = within-from d f.0 k.1 in
        let under : f.0.write ≤ high_of d = p.1 in
        let one : 1 ≤ f.0.write = sound.from_one f.0 k.0 in
        elim (cases_lt (base_chosen sight tree) (high_of d)) [
          | inr less ↦ inl (omega arith, omega arith)
          | inl over ↦ inr (within-chosen events id_of most sight past foreign writes jobs (sorted_by delta_cmp names_of) files (base_chosen sight tree)
              (ordered-sorted names_of) sound fits (stand-sorted names_of files (λ e. flat_map events (filter (has_write e) writes)) stand) greatest
              d f.0 r k.0 f.2 k.1 made over (all_valid f.0 k.0) loose)
        ]

-- ---- what is loose is retired

pub loose-unchosen : {Found : Type 0} (id_of : Found → RowId) (state : State Found) (dir : Directory) (list : WriteIds)
    → IsKept id_of state → IsLooseDir state dir → IsOpenList state list → IsChosenIn (sight_of list) state.tree dir → ⊥
loose-unchosen id_of state (BaseDir base) list kept loose is chosen =
    (takes-no-loose id_of kept.most (sight_of list) (IsPast state.open_txns) (IsUndone state.fates) state.writes state.jobs state.tree
    kept.sound (list-fits id_of state list kept is) kept.stands).base (subst (IsLooseBase (IsPast state.open_txns) state.jobs) (sym chosen) loose)
loose-unchosen id_of state (DeltaDir d) list kept loose is chosen =
    (takes-no-loose id_of kept.most (sight_of list) (IsPast state.open_txns) (IsUndone state.fates) state.writes state.jobs state.tree
    kept.sound (list-fits id_of state list kept is) kept.stands).deltas d chosen loose
loose-unchosen id_of state (DeleteDir d) list kept loose is chosen =
    (takes-no-loose id_of kept.most (sight_of list) (IsPast state.open_txns) (IsUndone state.fates) state.writes state.jobs state.tree
    kept.sound (list-fits id_of state list kept is) kept.stands).delete_deltas d chosen loose

pub end-valid : {Found : Type 0} (id_of : Found → RowId) (state : State Found) → IsKept id_of state
    → (w : Write Found) → IsIn w state.writes → (sight_of (list_at state.fates)).valid w.write ≡ true
end-valid id_of state kept w at = valid-same state.fates w.write (kept.sound.from_one w at) ∙ ap is_seen (kept.committed w at)

loose-covered : {Found : Type 0} (id_of : Found → RowId) (state : State Found) (dir : Directory)
    → IsKept id_of state → IsMadeDir state dir → IsLooseDir state dir → IsCoveredIn (sight_of (list_at state.fates)) state.tree dir
loose-covered id_of state (BaseDir base) kept made loose =
    base-covered id_of kept.most (sight_of (list_at state.fates)) (IsPast state.open_txns) (IsUndone state.fates) state.writes state.jobs state.tree
    kept.sound (list-fits id_of state (list_at state.fates) kept (inr (inl refl))) kept.stands base loose
loose-covered {Found = Found} id_of state (DeltaDir d) kept made loose =
    delta-covered id_of kept.most (sight_of (list_at state.fates)) (IsPast state.open_txns) (IsUndone state.fates) state.writes state.jobs state.tree
    kept.sound (list-fits id_of state (list_at state.fates) kept (inr (inl refl))) kept.stands
    (λ (w : Write Found). w.inserts) state.tree.deltas state.tree.inserts (end-valid id_of state kept) kept.stands.deltas d made.1.0 made.0 made.1.1 loose
loose-covered id_of state (DeleteDir d) kept made loose =
    delta-covered id_of kept.most (sight_of (list_at state.fates)) (IsPast state.open_txns) (IsUndone state.fates) state.writes state.jobs state.tree
    kept.sound (list-fits id_of state (list_at state.fates) kept (inr (inl refl))) kept.stands
    by_deleter state.tree.delete_deltas state.tree.deletes (end-valid id_of state kept) kept.stands.delete_deltas d made.1.0 made.0 made.1.1 loose

pub loose-retired : {Found : Type 0} (id_of : Found → RowId) (state : State Found) (dir : Directory)
    → IsKept id_of state → IsMadeDir state dir → IsLooseDir state dir → IsRetired state dir
loose-retired id_of state dir kept made loose = record {
  unchosen = λ list is. loose-unchosen id_of state dir list kept loose is;
  covered = loose-covered id_of state dir kept made loose;
}
