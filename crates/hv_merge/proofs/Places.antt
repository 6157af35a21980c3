-- A list of files in which one after the other is changed in its place.
use Rattle.std.proofs.lemmas.Bool.{cond-true, cond-false}
use Rattle.std.proofs.Common.{refl, Bool, true, false, cond, true≢false, ◌≡◌, ◌∙◌, ℕ, ◌+◌, ◌<◌, List, [], ◌∷◌, ◌++◌, map, fold, take, drop, length, get_or, ap, sym, append_assoc, arith}
use Rattle.std.specs.Prelude.{slice_set}
use Rattle.std.proofs.lemmas.List.{take_more_set, drop-set-lt, drop_more, take_more, map-append}
use Rattle.hv_base.specs.declared.ids.RowId.{RowId}
use Rattle.hv_wids.specs.WriteIds.{WriteIds}
use Rattle.hv_rowfile.specs.declared.record.Rec.{Rec}
use Rattle.hv_merge.specs.declared.shown.Shown.{Shown}
use Rattle.hv_merge.specs.Steps.{begins_at, front_at, behind_at, later, later_at}
use Rattle.std.specs.Prelude.{Option}

module _ {A : Type 0} (rows_of : A → List Rec) (list : WriteIds) (id : RowId) where
  pub place-behind : (heads : List A) (i : ℕ) (d changed : A) (whole : List (List Rec)) → i < length heads → rows_of changed ≡ behind_at id (rows_of (get_or heads i d))
      → map rows_of (take i heads) ++ map (behind_at id) (map rows_of (drop i heads)) ≡ whole
      → map rows_of (take (i + 1) (slice_set heads i changed)) ++ map (behind_at id) (map rows_of (drop (i + 1) (slice_set heads i changed))) ≡ whole
  place-behind heads i d changed whole within is before =
      let done = map rows_of (take i heads) in
      let rest = map (behind_at id) (map rows_of (drop (i + 1) heads)) in
      (λ k. map rows_of (take_more_set heads i changed within k) ++ map (behind_at id) (map rows_of (drop-set-lt (i + 1) heads i changed (omega arith) k)))
      ∙ ap (λ (z : List (List Rec)). z ++ rest) (map-append rows_of (take i heads) (changed ∷ []))
      ∙ append_assoc done (rows_of changed ∷ []) rest
      ∙ ap (λ (z : List Rec). done ++ z ∷ rest) is
      ∙ ap (λ (z : List A). done ++ map (behind_at id) (map rows_of z)) (sym (drop_more heads i d within))
      ∙ before

  pub place-last : (heads : List A) (i : ℕ) (d changed : A) (found now whole : Option Shown) → i < length heads → now ≡ later found (front_at list id (rows_of (get_or heads i d)))
      → fold (later_at list id) found (map rows_of (drop i heads)) ≡ whole
      → fold (later_at list id) now (map rows_of (drop (i + 1) (slice_set heads i changed))) ≡ whole
  place-last heads i d changed found now whole within is before =
      ap (λ (z : List A). fold (later_at list id) now (map rows_of z)) (drop-set-lt (i + 1) heads i changed (omega arith))
      ∙ ap (λ (f : Option Shown). fold (later_at list id) f (map rows_of (drop (i + 1) heads))) is
      ∙ ap (λ (z : List A). fold (later_at list id) found (map rows_of z)) (sym (drop_more heads i d within))
      ∙ before

  -- a file that doesn't begin with the identifier stays
  stays-by : (file : List Rec) (b : Bool) → begins_at id file ≡ b → (behind_at id file ≡ cond b (drop 1 file) file) × ((found : Option Shown) → b ≡ false → later found (front_at list id file) ≡ found)
  stays-by [] true e = absurd (true≢false (sym e))
  stays-by [] false e = (refl, λ found is. refl)
  stays-by (x ∷ xs) true e = (cond-true _ _ _ e, λ found is. absurd (true≢false is))
  stays-by (x ∷ xs) false e = (cond-false _ _ _ e, λ found is. ap (later found) (cond-false _ _ _ e))

  pub stay-behind : (heads : List A) (i : ℕ) (d : A) (whole : List (List Rec)) → i < length heads → begins_at id (rows_of (get_or heads i d)) ≡ false
      → map rows_of (take i heads) ++ map (behind_at id) (map rows_of (drop i heads)) ≡ whole
      → map rows_of (take (i + 1) heads) ++ map (behind_at id) (map rows_of (drop (i + 1) heads)) ≡ whole
  stay-behind heads i d whole within e before =
      let done = map rows_of (take i heads) in
      let rest = map (behind_at id) (map rows_of (drop (i + 1) heads)) in
      ap (λ (z : List A). map rows_of z ++ rest) (take_more heads i d within)
      ∙ ap (λ (z : List (List Rec)). z ++ rest) (map-append rows_of (take i heads) (get_or heads i d ∷ []))
      ∙ append_assoc done (rows_of (get_or heads i d) ∷ []) rest
      ∙ ap (λ (z : List Rec). done ++ z ∷ rest) (sym (stays-by (rows_of (get_or heads i d)) false e).0)
      ∙ ap (λ (z : List A). done ++ map (behind_at id) (map rows_of z)) (sym (drop_more heads i d within))
      ∙ before

  pub stay-last : (heads : List A) (i : ℕ) (d : A) (found whole : Option Shown) → i < length heads → begins_at id (rows_of (get_or heads i d)) ≡ false
      → fold (later_at list id) found (map rows_of (drop i heads)) ≡ whole
      → fold (later_at list id) found (map rows_of (drop (i + 1) heads)) ≡ whole
  stay-last heads i d found whole within e before =
      ap (λ (f : Option Shown). fold (later_at list id) f (map rows_of (drop (i + 1) heads))) (sym ((stays-by (rows_of (get_or heads i d)) false e).1 found refl))
      ∙ ap (λ (z : List A). fold (later_at list id) found (map rows_of z)) (sym (drop_more heads i d within))
      ∙ before
