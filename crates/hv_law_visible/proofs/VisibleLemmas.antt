-- What the chosen directories show under a list is the content of the writes that the list shows.
use Rattle.std.proofs.Common.{◌≡◌, inl, inr, ℕ, zero, suc, ◌-◌, ◌<◌, ◌≤◌, true, false, not, ◌&&◌, List, filter, sym, ap, ◌∙◌, arith, leb-true, le-leb, true≢false}
use Rattle.std.proofs.lemmas.Bool.{and_parts, and_from, cases_lt, not-true, not_from_false, false_from_ne_true}
use Rattle.std.specs.List.{flat_map}
use Rattle.hv_base.specs.declared.ids.RowId.{RowId}
use Rattle.hv_law_visible.specs.Members.{IsIn}
use Rattle.hv_dirs.specs.Choice.{Sight, Delta, Own, Wide, high_of, chosen_above, delta_cmp}
use Rattle.hv_law_visible.specs.History.{Write, Compaction, Minor, Major, CoversBase, inserts_of, deletes_of, write_of, is_row, is_deleted, content_of, has_write, is_upto, inserts_in, by_deleter, deletes_in, rows_in, IsMade, IsMadeBase}
use Rattle.hv_law_visible.specs.Visible.{Tree, base_chosen, deltas_chosen, deletes_chosen, base_rows, records_read, deletes_read, names_it, is_gone, visible_rows, writes_shown}
use Rattle.hv_law_visible.specs.Stands.{IsSound, Fits, Stand, Stands}
use Rattle.hv_law_visible.specs.Laws.{TakesNoLoose}
use Rattle.hv_law_visible.proofs.MemberLemmas.{in-left, in-right, in-either, in-flat, from-flat, in-map, from-map, in-filter, from-filter, any-in, in-any, none-any}
use Rattle.hv_law_visible.proofs.LooseLemmas.{IsChosen, not-loose, is-chosen}
use Rattle.hv_law_visible.proofs.SortingLemmas.{from-sorted, to-sorted}
use Rattle.hv_law_visible.proofs.RowLemmas.{row-write}
use Rattle.hv_law_visible.proofs.OrderLemmas.{ordered-sorted}
use Rattle.hv_base.specs.Sorting.{sorted_by}
use Rattle.hv_law_visible.proofs.ReachedLemmas.{base-most, base-is, IsBase, read, within-from, has-own, has-wide}

module _ {Found : Type 0} (id_of : Found → RowId) (most : ℕ) (sight : Sight) (past : Compaction → Type 0) (foreign : ℕ → Type 0)
    (writes : List (Write Found)) (jobs : List Compaction) (tree : Tree Found)
    (sound : IsSound id_of most writes jobs)
    (fits : Fits sight past foreign writes jobs)
    (stands : Stands id_of past foreign writes jobs tree)
  where
    base : ℕ
    base = base_chosen sight tree

    -- ---- the chosen base is the greatest that was made and may be read, and stands whole

    Higher : ℕ → Type 0
    Higher h = (k : ℕ) × (h ≤ k) × IsIn k tree.bases × (sight.may_base k ≡ true)

    base-loose : (n h : ℕ) → ((k : ℕ) → most - k < n → IsMadeBase jobs k → sight.may_base k ≡ true → Higher k) → most - h < suc n
        → (job : Compaction) → IsIn job jobs → past job → CoversBase job h → Higher h
    unfolding Higher
    base-loose n h later fuel (Minor first last mark) listed gone covered = absurd covered
    base-loose n h later fuel (Major last mark) listed gone covered =
        let m = sound.majors last mark listed in
        let l : last ≤ most = m.1 in
        let c : h < last = covered in
        let up = later last (omega arith) (mark, listed) (fits.past_may (Major last mark) listed gone) in
        let more : last ≤ up.0 = up.1 in
        (up.0, omega arith, up.2, up.3)

    base-reached : (n h : ℕ) → most - h < n → IsMadeBase jobs h → sight.may_base h ≡ true → Higher h
    unfolding Higher
    base-reached zero h fuel made may = absurd (omega arith)
    base-reached (suc n) h fuel made may = elim (stands.bases h made) [
      | inl loose ↦ base-loose n h (base-reached n) fuel loose.0 loose.1 loose.2 loose.3
      | inr whole ↦ (h, omega arith, whole.0, may)
    ]

    greatest : (h : ℕ) → IsMadeBase jobs h → sight.may_base h ≡ true → h ≤ base
    unfolding base Higher
    greatest h made may =
        let up = base-reached (suc (most - h)) h (omega arith) made may in
        let more : h ≤ up.0 = up.1 in
        let under : up.0 ≤ base = base-most sight up.0 tree.bases up.2 up.3 in
        omega arith

    pub greatest-chosen : (h : ℕ) → IsMadeBase jobs h → sight.may_base h ≡ true → h ≤ base_chosen sight tree
    unfolding base
    greatest-chosen h made may = greatest h made may

    base-not-loose : (job : Compaction) → IsIn job jobs → past job → CoversBase job base → ⊥
    base-not-loose (Minor first last mark) listed gone covered = covered
    base-not-loose (Major last mark) listed gone covered =
        let under : last ≤ base = greatest last (mark, listed) (fits.past_may (Major last mark) listed gone) in
        let over : base < last = covered in
        omega arith

    record IsWhole : Type 0 where
      stands_there : IsIn base tree.bases
      may : sight.may_base base ≡ true
      whole : (found : Found) → IsIn found (rows_in id_of writes base) → IsIn found (tree.rows base)
      only : (found : Found) → IsIn found (tree.rows base) → IsIn found (rows_in id_of writes base)

    whole-by : IsBase sight base tree.bases → IsWhole
    whole-by is =
        let o = stands.only_bases base is.stands in
        record {
          stands_there = is.stands;
          may = is.may;
          whole = elim (stands.bases base o.0) [
            | inr w ↦ w.1
            | inl loose ↦ absurd (base-not-loose loose.0 loose.1 loose.2 loose.3)
          ];
          only = elim o.1 [
            | inr own ↦ own
            | inl loose ↦ absurd (base-not-loose loose.0 loose.1 loose.2 loose.3)
          ];
        }

    base-whole : 0 < base → IsWhole
    unfolding base
    base-whole some = elim (base-is sight tree.bases) [
      | inl none ↦ absurd (omega arith)
      | inr is ↦ whole-by is
    ]

    -- ---- what is read of an event

    stand-sorted : {Record : Type 0} (made : Delta → List Record) (names : List Delta) (files : Delta → List Record)
        → Stand past foreign jobs made names files → Stand past foreign jobs made (sorted_by delta_cmp names) files
    stand-sorted made names files stand = record {
      each = λ d r is at. elim (stand.each d r is at) [ inl loose ↦ inl loose | inr whole ↦ inr (to-sorted delta_cmp d names whole.0, whole.1) ];
      only = λ d at. stand.only d (from-sorted delta_cmp d names at);
    }

    insert-read : (w : Write Found) (f : Found) → IsIn w writes → IsIn f w.inserts → sight.valid w.write ≡ true
        → (d : Delta) → IsMade jobs d → has_write d w ≡ true → base < high_of d → IsIn f (flat_map tree.inserts (deltas_chosen sight tree))
    unfolding base chosen_above
    insert-read w f at has valid d made is over =
        let r = read (λ (v : Write Found). v.inserts) id_of most sight past foreign writes jobs (sorted_by delta_cmp tree.deltas) tree.inserts base
        (ordered-sorted tree.deltas) sound fits (stand-sorted (inserts_in writes) tree.deltas tree.inserts stands.deltas) greatest
        w f at has valid d made is over in
        in-flat tree.inserts r.0 f (deltas_chosen sight tree) r.1 r.2

    gone-read : (y : Write Found) (g : RowId) (f : Found) → IsIn y writes → IsIn g y.deletes → sight.valid y.write ≡ true → is_row g (id_of f) ≡ true
        → (d : Delta) → IsMade jobs d → has_write d y ≡ true → base < high_of d → is_gone sight (deletes_read sight tree) (id_of f) ≡ true
    unfolding base chosen_above
    gone-read y g f at has valid it d made is over =
        let r = read by_deleter id_of most sight past foreign writes jobs (sorted_by delta_cmp tree.delete_deltas) tree.deletes base
        (ordered-sorted tree.delete_deltas) sound fits (stand-sorted (deletes_in writes) tree.delete_deltas tree.deletes stands.delete_deltas) greatest
        y (g, y.write) at (in-map (λ (h : RowId). (h, y.write)) g y.deletes has) valid d made is over in
        any-in (names_it sight (id_of f)) (g, y.write) (flat_map tree.deletes (deletes_chosen sight tree))
        (in-flat tree.deletes r.0 (g, y.write) (deletes_chosen sight tree) r.1 r.2)
        (and_from (sight.valid y.write) (is_row g (id_of f)) valid it)

    deleted-by : (some : List (Write Found)) (y : Write Found) (g : RowId) (f : Found) → IsIn y some → IsIn g y.deletes → is_row g (id_of f) ≡ true → is_deleted some (id_of f) ≡ true
    deleted-by some y g f at has it =
        any-in (λ (other : RowId). is_row other (id_of f)) g (deletes_of some) (in-flat (λ (v : Write Found). v.deletes) y g some at has) it

    -- ---- nothing else is shown

    -- the row was inserted, and who deletes it and is seen is read
    record Source (f : Found) : Type 0 where
      write : Write Found
      at : IsIn write writes
      has : IsIn f write.inserts
      none : (y : Write Found) (g : RowId) → IsIn y writes → IsIn g y.deletes → sight.valid y.write ≡ true → is_row g (id_of f) ≡ true
          → is_gone sight (deletes_read sight tree) (id_of f) ≡ true

    base-row : (f : Found) (b : ℕ) → IsIn f (base_rows tree b) → (0 < b) × IsIn f (tree.rows b)
    base-row f zero at = absurd at
    base-row f (suc n) at = (omega arith, at)

    own-above : (y : Write Found) (g : RowId) (f : Found) → IsIn y writes → IsIn g y.deletes → sight.valid y.write ≡ true → is_row g (id_of f) ≡ true → base < y.write
        → is_gone sight (deletes_read sight tree) (id_of f) ≡ true
    own-above y g f at has valid it over = gone-read y g f at has valid it (Own y.write y.statement) tt (has-own y) over

    from-base : (f : Found) → IsIn f (base_rows tree base) → Source f
    from-base f at =
        let b = base-row f base at in
        let whole = base-whole b.0 in
        let kept = from-filter (λ (x : Found). not (is_deleted (filter (is_upto base) writes) (id_of x))) f (inserts_of (filter (is_upto base) writes)) (whole.only f b.1) in
        let src = from-flat (λ (v : Write Found). v.inserts) f (filter (is_upto base) writes) kept.0 in
        record {
          write = src.0;
          at = (from-filter (is_upto base) src.0 writes src.1).0;
          has = src.2;
          none = λ y g at_y has_y valid it. elim (cases_lt base y.write) [
            | inl over ↦ own-above y g f at_y has_y valid it over
            | inr under ↦ absurd (true≢false (sym (deleted-by (filter (is_upto base) writes) y g f
                (in-filter (is_upto base) y writes at_y (le-leb y.write base under)) has_y it) ∙ not-true _ kept.1))
          ];
        }

    delta-chosen : (d : Delta) → IsIn d (deltas_chosen sight tree) → IsChosen jobs (inserts_in writes) tree.inserts base d
    unfolding base chosen_above
    delta-chosen = is-chosen (λ (w : Write Found). w.inserts) id_of most sight past foreign writes jobs (sorted_by delta_cmp tree.deltas) tree.inserts base
        (ordered-sorted tree.deltas) sound fits (stand-sorted (inserts_in writes) tree.deltas tree.inserts stands.deltas) greatest

    delete-chosen : (d : Delta) → IsIn d (deletes_chosen sight tree) → IsChosen jobs (deletes_in writes) tree.deletes base d
    unfolding base chosen_above
    delete-chosen = is-chosen by_deleter id_of most sight past foreign writes jobs (sorted_by delta_cmp tree.delete_deltas) tree.deletes base
        (ordered-sorted tree.delete_deltas) sound fits (stand-sorted (deletes_in writes) tree.delete_deltas tree.deletes stands.delete_deltas) greatest

    pub takes-no-loose : TakesNoLoose sight past jobs tree
    unfolding base chosen_above
    takes-no-loose = record {
      deltas = not-loose (λ (w : Write Found). w.inserts) id_of most sight past foreign writes jobs (sorted_by delta_cmp tree.deltas) tree.inserts base
          (ordered-sorted tree.deltas) sound fits (stand-sorted (inserts_in writes) tree.deltas tree.inserts stands.deltas) greatest;
      delete_deltas = not-loose by_deleter id_of most sight past foreign writes jobs (sorted_by delta_cmp tree.delete_deltas) tree.deletes base
          (ordered-sorted tree.delete_deltas) sound fits (stand-sorted (deletes_in writes) tree.delete_deltas tree.deletes stands.delete_deltas) greatest;
      base = λ loose. base-not-loose loose.0 loose.1 loose.2 loose.3;
    }

    gone-below : (d : Delta) (w y : Write Found) (g : RowId) (f : Found) → IsMade jobs d → has_write d w ≡ true → base < high_of d → IsIn w writes → IsIn f w.inserts
        → IsIn y writes → IsIn g y.deletes → sight.valid y.write ≡ true → is_row g (id_of f) ≡ true → y.write ≤ base → is_gone sight (deletes_read sight tree) (id_of f) ≡ true
    gone-below (Own write statement) w y g f made is over at has at_y has_y valid it under =
        let p = within-from (Own write statement) w is in
        let l : write ≤ w.write = p.0 in
        let c : write_of (id_of f) ≡ w.write = sound.carried w f at has in
        let e : write_of g ≤ y.write = sound.earlier y g at_y has_y in
        let s : write_of g ≡ write_of (id_of f) = row-write g (id_of f) it in
        let o : base < write = over in
        absurd (omega arith)
    gone-below (Wide first last) w y g f made is over at has at_y has_y valid it under =
        let p = within-from (Wide first last) w is in
        let l : first ≤ w.write = p.0 in
        let c : write_of (id_of f) ≡ w.write = sound.carried w f at has in
        let e : write_of g ≤ y.write = sound.earlier y g at_y has_y in
        let s : write_of g ≡ write_of (id_of f) = row-write g (id_of f) it in
        let o : base < last = over in
        gone-read y g f at_y has_y valid it (Wide first last) made (has-wide first last y (omega arith) (omega arith)) over

    from-delta : (f : Found) (d : Delta) → IsIn d (deltas_chosen sight tree) → IsIn f (tree.inserts d) → Source f
    from-delta f d chosen_d at =
        let c = delta-chosen d chosen_d in
        let src = from-flat (λ (v : Write Found). v.inserts) f (filter (has_write d) writes) (c.only f at) in
        let in_w = from-filter (has_write d) src.0 writes src.1 in
        record {
          write = src.0;
          at = in_w.0;
          has = src.2;
          none = λ y g at_y has_y valid it. elim (cases_lt base y.write) [
            | inl over ↦ own-above y g f at_y has_y valid it over
            | inr under ↦ gone-below d src.0 y g f c.made_by in_w.1 c.over in_w.0 src.2 at_y has_y valid it under
          ];
        }

    source : (f : Found) → IsIn f (records_read sight tree) → Source f
    unfolding base
    source f at = elim (in-either f (base_rows tree base) (flat_map tree.inserts (deltas_chosen sight tree)) at) [
      | inl in_base ↦ from-base f in_base
      | inr in_deltas ↦ let s = from-flat tree.inserts f (deltas_chosen sight tree) in_deltas in from-delta f s.0 s.1 s.2
    ]

    shown-in : (w : Write Found) → IsIn w writes → sight.valid w.write ≡ true → IsIn w (writes_shown sight writes)
    shown-in w at valid = in-filter (λ (v : Write Found). sight.valid v.write) w writes at valid

    pub visible-shown : (f : Found) → IsIn f (visible_rows id_of sight tree) → IsIn f (content_of id_of (writes_shown sight writes))
    visible-shown f seen =
        let kept = from-filter (λ (x : Found). sight.valid (write_of (id_of x)) && not (is_gone sight (deletes_read sight tree) (id_of x))) f (records_read sight tree) seen in
        let tests = and_parts (sight.valid (write_of (id_of f))) (not (is_gone sight (deletes_read sight tree) (id_of f))) kept.1 in
        let s = source f kept.0 in
        let valid : sight.valid s.write.write ≡ true = ap sight.valid (sym (sound.carried s.write f s.at s.has)) ∙ tests.0 in
        in-filter (λ (x : Found). not (is_deleted (writes_shown sight writes) (id_of x))) f (inserts_of (writes_shown sight writes))
        (in-flat (λ (v : Write Found). v.inserts) s.write f (writes_shown sight writes) (shown-in s.write s.at valid) s.has)
        (not_from_false _ (none-any (λ (other : RowId). is_row other (id_of f)) (deletes_of (writes_shown sight writes)) (λ g at it.
        let d = from-flat (λ (v : Write Found). v.deletes) g (writes_shown sight writes) at in
        let y = from-filter (λ (v : Write Found). sight.valid v.write) d.0 writes d.1 in
        true≢false (sym (s.none d.0 g y.0 d.2 y.1 it) ∙ not-true _ tests.1))))

    -- ---- all of it is shown

    to-base-row : (f : Found) (b : ℕ) → 0 < b → IsIn f (tree.rows b) → IsIn f (base_rows tree b)
    to-base-row f zero some at = absurd (omega arith)
    to-base-row f (suc n) some at = at

    chosen-record : (w : Write Found) (f : Found) → IsIn w writes → IsIn f w.inserts → sight.valid w.write ≡ true
        → is_deleted (writes_shown sight writes) (id_of f) ≡ false → IsIn f (records_read sight tree)
    unfolding base
    chosen-record w f at has valid stays = elim (cases_lt base w.write) [
      | inl over ↦ in-right f (base_rows tree base) (flat_map tree.inserts (deltas_chosen sight tree))
          (insert-read w f at has valid (Own w.write w.statement) tt (has-own w) over)
      | inr under ↦
          let one : 1 ≤ w.write = sound.from_one w at in
          let some : 0 < base = omega arith in
          let whole = base-whole some in
          in-left f (base_rows tree base) (flat_map tree.inserts (deltas_chosen sight tree))
          (to-base-row f base some (whole.whole f
          (in-filter (λ (x : Found). not (is_deleted (filter (is_upto base) writes) (id_of x))) f (inserts_of (filter (is_upto base) writes))
          (in-flat (λ (v : Write Found). v.inserts) w f (filter (is_upto base) writes) (in-filter (is_upto base) w writes at (le-leb w.write base under)) has)
          (not_from_false _ (none-any (λ (other : RowId). is_row other (id_of f)) (deletes_of (filter (is_upto base) writes)) (λ g at_g it.
          let d = from-flat (λ (v : Write Found). v.deletes) g (filter (is_upto base) writes) at_g in
          let y = from-filter (is_upto base) d.0 writes d.1 in
          let valid_y = fits.decided base d.0 whole.may y.0 (leb-true d.0.write base y.1) in
          true≢false (sym (deleted-by (writes_shown sight writes) d.0 g f (shown-in d.0 y.0 valid_y) d.2 it) ∙ stays)))))))
    ]

    gone-deleted : (f : Found) → is_gone sight (deletes_read sight tree) (id_of f) ≡ true → is_deleted (writes_shown sight writes) (id_of f) ≡ true
    gone-deleted f gone =
        let r = in-any (names_it sight (id_of f)) (flat_map tree.deletes (deletes_chosen sight tree)) gone in
        let tests = and_parts (sight.valid r.0.1) (is_row r.0.0 (id_of f)) r.2 in
        let c = from-flat tree.deletes r.0 (deletes_chosen sight tree) r.1 in
        let src = from-flat by_deleter r.0 (filter (has_write c.0) writes) ((delete-chosen c.0 c.1).only r.0 c.2) in
        let g = from-map (λ (h : RowId). (h, src.0.write)) r.0 src.0.deletes src.2 in
        let in_y = from-filter (has_write c.0) src.0 writes src.1 in
        deleted-by (writes_shown sight writes) src.0 g.0 f
        (shown-in src.0 in_y.0 (ap (λ (p : RowId × ℕ). sight.valid p.1) g.2 ∙ tests.0)) g.1
        (ap (λ (p : RowId × ℕ). is_row p.0 (id_of f)) g.2 ∙ tests.1)

    pub shown-visible : (f : Found) → IsIn f (content_of id_of (writes_shown sight writes)) → IsIn f (visible_rows id_of sight tree)
    shown-visible f stays =
        let kept = from-filter (λ (x : Found). not (is_deleted (writes_shown sight writes) (id_of x))) f (inserts_of (writes_shown sight writes)) stays in
        let src = from-flat (λ (v : Write Found). v.inserts) f (writes_shown sight writes) kept.0 in
        let w = from-filter (λ (v : Write Found). sight.valid v.write) src.0 writes src.1 in
        let undeleted = not-true _ kept.1 in
        in-filter (λ (x : Found). sight.valid (write_of (id_of x)) && not (is_gone sight (deletes_read sight tree) (id_of x))) f (records_read sight tree)
        (chosen-record src.0 f w.0 src.2 w.1 undeleted)
        (and_from _ _ (ap sight.valid (sound.carried src.0 f w.0 src.2) ∙ w.1)
        (not_from_false _ (false_from_ne_true (is_gone sight (deletes_read sight tree) (id_of f)) (λ gone. true≢false (sym (gone-deleted f gone) ∙ undeleted)))))
