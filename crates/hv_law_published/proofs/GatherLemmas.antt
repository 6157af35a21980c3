-- What a compaction gathers is what it has to write.
use Rattle.std.proofs.Common.{refl, ◌≡◌, ◌↔◌, inl, inr, ℕ, ◌<◌, ◌≤◌, nat_le, Bool, true, false, cond, List, [], ◌∷◌, filter, sym, ap, ◌∙◌, subst, arith, leb-true, le-leb}
use Rattle.std.proofs.lemmas.Bool.{and_parts, and_from}
use Rattle.std.specs.List.{flat_map}
use Rattle.hv_base.specs.declared.ids.RowId.{RowId}
use Rattle.hv_dirs.specs.Choice.{Sight, sight_of, Delta, Own, Wide, chosen_above, delta_cmp}
use Rattle.hv_base.specs.Sorting.{sorted_by}
use Rattle.hv_law_visible.specs.Members.{IsIn}
use Rattle.hv_law_visible.specs.History.{Write, Compaction, has_write, is_upto, by_deleter, write_of, content_of, inserts_in, deletes_in, rows_in}
use Rattle.hv_law_visible.specs.Visible.{Tree, base_chosen, visible_rows, writes_shown}
use Rattle.hv_law_visible.specs.Stands.{IsSound, Fits, Stand, Stands}
use Rattle.hv_law_visible.specs.Snapshots.{list_at, list_up_to, IsUndone}
use Rattle.hv_law_visible.specs.Readers.{IsPast}
use Rattle.hv_law_visible.proofs.ListLemmas.{says-up-to}
use Rattle.hv_law_visible.proofs.LooseLemmas.{is-chosen}
use Rattle.hv_law_visible.proofs.MemberLemmas.{in-flat, from-flat, in-filter, from-filter, from-map}
use Rattle.hv_law_visible.proofs.OrderLemmas.{ordered-sorted}
use Rattle.hv_law_visible.proofs.ReachedLemmas.{read, has-own}
use Rattle.hv_law_visible.proofs.SnapshotLemmas.{cut-shows}
use Rattle.hv_law_published.specs.State.{State, IsKept, ReachesPast, IsOpenList}
use Rattle.hv_law_published.specs.Laws.{AJobGathersItsRecords, working_sight, is_within}
use Rattle.hv_law_published.proofs.StateLemmas.{list-fits, list-shows}
use Rattle.hv_law_published.proofs.RetiredLemmas.{greatest, stand-sorted, end-valid}

module _ {Found Record : Type 0} (events : Write Found → List Record) (write_in : Record → ℕ) (id_of : Found → RowId) (most : ℕ) (sight : Sight)
    (past : Compaction → Type 0) (foreign : ℕ → Type 0)
    (writes : List (Write Found)) (jobs : List Compaction) (tree : Tree Found) (names : List Delta) (files : Delta → List Record)
    (sound : IsSound id_of most writes jobs)
    (fits : Fits sight past foreign writes jobs)
    (stands : Stands id_of past foreign writes jobs tree)
    (stand : Stand past foreign jobs (λ d. flat_map events (filter (has_write d) writes)) names files)
    -- a record tells whose event it is
    (told : (w : Write Found) (r : Record) → IsIn w writes → IsIn r (events w) → write_in r ≡ w.write)
    (first last : ℕ) (above : base_chosen sight tree < first)
    -- all that is committed in the range is valid to the compaction
    (valid : (w : Write Found) → IsIn w writes → w.write ≤ last → sight.valid w.write ≡ true)
  where
    pub gathers : (r : Record) → IsIn r (flat_map events (filter (has_write (Wide first last)) writes))
        → IsIn r (filter (λ (y : Record). is_within first last (write_in y)) (flat_map files (chosen_above sight (base_chosen sight tree) names)))
    unfolding chosen_above
    gathers r at =
        let s = from-flat events r (filter (has_write (Wide first last)) writes) at in
        let k = from-filter (has_write (Wide first last)) s.0 writes s.1 in
        let b = and_parts (nat_le first s.0.write) (nat_le s.0.write last) k.1 in
        let low_first : first ≤ s.0.write = leb-true first s.0.write b.0 in
        let x = read events id_of most sight past foreign writes jobs (sorted_by delta_cmp names) files (base_chosen sight tree)
        (ordered-sorted names) sound fits
        (stand-sorted id_of most sight past foreign writes jobs tree sound fits stands names files (λ d. flat_map events (filter (has_write d) writes)) stand)
        (greatest id_of most sight past foreign writes jobs tree sound fits stands)
        s.0 r k.0 s.2 (valid s.0 k.0 (leb-true s.0.write last b.1)) (Own s.0.write s.0.statement) tt (has-own s.0) (omega arith) in
        in-filter (λ (y : Record). is_within first last (write_in y)) r (flat_map files (chosen_above sight (base_chosen sight tree) names))
        (in-flat files x.0 r (chosen_above sight (base_chosen sight tree) names) x.1 x.2)
        (ap (is_within first last) (told s.0 r k.0 s.2) ∙ k.1)

    pub gathers-only : (r : Record) → IsIn r (filter (λ (y : Record). is_within first last (write_in y)) (flat_map files (chosen_above sight (base_chosen sight tree) names)))
        → IsIn r (flat_map events (filter (has_write (Wide first last)) writes))
    unfolding chosen_above
    gathers-only r at =
        let k = from-filter (λ (y : Record). is_within first last (write_in y)) r (flat_map files (chosen_above sight (base_chosen sight tree) names)) at in
        let c = from-flat files r (chosen_above sight (base_chosen sight tree) names) k.0 in
        let chosen = is-chosen events id_of most sight past foreign writes jobs (sorted_by delta_cmp names) files (base_chosen sight tree)
        (ordered-sorted names) sound fits
        (stand-sorted id_of most sight past foreign writes jobs tree sound fits stands names files (λ d. flat_map events (filter (has_write d) writes)) stand)
        (greatest id_of most sight past foreign writes jobs tree sound fits stands) c.0 c.1 in
        let s = from-flat events r (filter (has_write c.0) writes) (chosen.only r c.2) in
        let w = from-filter (has_write c.0) s.0 writes s.1 in
        in-flat events s.0 r (filter (has_write (Wide first last)) writes)
        (in-filter (has_write (Wide first last)) s.0 writes w.0 (ap (is_within first last) (sym (told s.0 r w.0 s.2)) ∙ k.1)) s.2

-- ---- under the list that ends at a watermark

module _ {Found : Type 0} (id_of : Found → RowId) (state : State Found) (watermark : ℕ) (kept : IsKept id_of state) (reaches : ReachesPast state watermark) where
  is-open : IsOpenList state (list_up_to watermark (list_at state.fates))
  is-open = inr (inr (watermark, reaches, refl))

  work-fits : Fits (working_sight state watermark) (IsPast state.open_txns) (IsUndone state.fates) state.writes state.jobs
  unfolding is-open
  work-fits = list-fits id_of state (list_up_to watermark (list_at state.fates)) kept is-open

  work-valid : (last : ℕ) → last ≤ watermark → (w : Write Found) → IsIn w state.writes → w.write ≤ last → (working_sight state watermark).valid w.write ≡ true
  work-valid last within w at under =
      (says-up-to watermark (list_at state.fates)).valid w.write
      ∙ and_from (nat_le w.write watermark) ((sight_of (list_at state.fates)).valid w.write) (le-leb w.write watermark (omega arith)) (end-valid id_of state kept w at)

  module _ (first last : ℕ) (within : last ≤ watermark) (above : base_chosen (working_sight state watermark) state.tree < first) where
    insert-told : (w : Write Found) (r : Found) → IsIn w state.writes → IsIn r w.inserts → write_of (id_of r) ≡ w.write
    insert-told w r at has = kept.sound.carried w r at has

    delete-told : (w : Write Found) (r : RowId × ℕ) → IsIn w state.writes → IsIn r (by_deleter w) → r.1 ≡ w.write
    delete-told w r at has = let x = from-map (λ (id : RowId). (id, w.write)) r w.deletes has in ap (λ (y : RowId × ℕ). y.1) (sym x.2)

    pub inserts-gathered : (found : Found)
        → IsIn found (filter (λ (y : Found). is_within first last (write_of (id_of y))) (flat_map state.tree.inserts (chosen_above (working_sight state watermark) (base_chosen (working_sight state watermark) state.tree) state.tree.deltas)))
        ↔ IsIn found (inserts_in state.writes (Wide first last))
    inserts-gathered found = (
      gathers-only (λ (w : Write Found). w.inserts) (λ y. write_of (id_of y)) id_of kept.most (working_sight state watermark) (IsPast state.open_txns) (IsUndone state.fates)
          state.writes state.jobs state.tree state.tree.deltas state.tree.inserts kept.sound work-fits kept.stands kept.stands.deltas insert-told
          first last above (work-valid last within) found,
      gathers (λ (w : Write Found). w.inserts) (λ y. write_of (id_of y)) id_of kept.most (working_sight state watermark) (IsPast state.open_txns) (IsUndone state.fates)
          state.writes state.jobs state.tree state.tree.deltas state.tree.inserts kept.sound work-fits kept.stands kept.stands.deltas insert-told
          first last above (work-valid last within) found,
    )

    pub deletes-gathered : (deleted : RowId × ℕ)
        → IsIn deleted (filter (λ (y : RowId × ℕ). is_within first last y.1) (flat_map state.tree.deletes (chosen_above (working_sight state watermark) (base_chosen (working_sight state watermark) state.tree) state.tree.delete_deltas)))
        ↔ IsIn deleted (deletes_in state.writes (Wide first last))
    deletes-gathered deleted = (
      gathers-only by_deleter (λ (y : RowId × ℕ). y.1) id_of kept.most (working_sight state watermark) (IsPast state.open_txns) (IsUndone state.fates)
          state.writes state.jobs state.tree state.tree.delete_deltas state.tree.deletes kept.sound work-fits kept.stands kept.stands.delete_deltas delete-told
          first last above (work-valid last within) deleted,
      gathers by_deleter (λ (y : RowId × ℕ). y.1) id_of kept.most (working_sight state watermark) (IsPast state.open_txns) (IsUndone state.fates)
          state.writes state.jobs state.tree state.tree.delete_deltas state.tree.deletes kept.sound work-fits kept.stands kept.stands.delete_deltas delete-told
          first last above (work-valid last within) deleted,
    )

  same-upto : (last : ℕ) → last ≤ watermark → (ws : List (Write Found)) → ((w : Write Found) → IsIn w ws → w.write ≤ watermark → w.write ≤ last)
      → filter (is_upto watermark) ws ≡ filter (is_upto last) ws
  same-upto last within [] none = refl
  same-upto last within (w ∷ ws) none =
      λ i. cond (same-bool (nat_le w.write watermark) (nat_le w.write last) refl refl i)
      (w ∷ same-upto last within ws (λ v at. none v (inr at)) i) (same-upto last within ws (λ v at. none v (inr at)) i)
    where
      same-bool : (a b : Bool) → nat_le w.write watermark ≡ a → nat_le w.write last ≡ b → a ≡ b
      same-bool true true p q = refl
      same-bool false false p q = refl
      same-bool true false p q =
          sym (le-leb w.write last (none w (inl refl) (leb-true w.write watermark p))) ∙ q
      same-bool false true p q =
          sym p ∙ le-leb w.write watermark (let u : w.write ≤ last = leb-true w.write last q in omega arith)

  pub rows-gathered : (last : ℕ) → last ≤ watermark → ((w : Write Found) → IsIn w state.writes → w.write ≤ watermark → w.write ≤ last)
      → (found : Found) → IsIn found (visible_rows id_of (working_sight state watermark) state.tree) ↔ IsIn found (rows_in id_of state.writes last)
  unfolding is-open same-upto
  rows-gathered last within none found =
      let e : writes_shown (working_sight state watermark) state.writes ≡ filter (is_upto last) state.writes =
      cut-shows watermark state.fates (list_up_to watermark (list_at state.fates)) state.writes (says-up-to watermark (list_at state.fates)) kept.committed kept.sound.from_one
      ∙ same-upto last within state.writes none in
      let shown = (list-shows id_of state (list_up_to watermark (list_at state.fates)) kept is-open).each found in (
        λ at. subst (λ ws. IsIn found (content_of id_of ws)) e (shown.0 at),
        λ at. shown.1 (subst (λ ws. IsIn found (content_of id_of ws)) (sym e) at),
      )

pub gathers-its-records : {Found : Type 0} → AJobGathersItsRecords Found
gathers-its-records = record {
  inserts = λ id_of state watermark first last kept reaches within above. inserts-gathered id_of state watermark kept reaches first last within above;
  deletes = λ id_of state watermark first last kept reaches within above. deletes-gathered id_of state watermark kept reaches first last within above;
  rows = λ id_of state watermark last kept reaches within none. rows-gathered id_of state watermark kept reaches last within none;
}
