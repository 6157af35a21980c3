-- Groups as folds that keep the rows themselves; groups of what stands for rows.
use Rattle.std.proofs.Common.{◌≡◌, Bool, true, false, List, [], ◌∷◌, ◌++◌, map, cond, refl, sym, ap, ◌∙◌, append_assoc}
use Rattle.std.specs.List.{fold}
use Rattle.hv_typing.specs.Grouped.{distinct, members, keys_in, groups}
use Rattle.hv_keyed.specs.Folds.{folded, folds, added}
use Rattle.hv_keyed.specs.Parts.{group_at, groups_in}
use Rattle.hv_keyed.proofs.JoinLaws.{append_nil}

added_all : {R : Type 0} (kept rows : List R) → fold added kept rows ≡ kept ++ rows
added_all kept [] = sym (append_nil kept)
added_all kept (row ∷ rows) = added_all (kept ++ row ∷ []) rows ∙ append_assoc kept (row ∷ []) rows

map_same : {A B : Type 0} (f g : A → B) → ((a : A) → f a ≡ g a) → (xs : List A) → map f xs ≡ map g xs
map_same f g e [] = refl
map_same f g e (x ∷ xs) = λ i. e x i ∷ map_same f g e xs i

pub folds_are_groups : {K R : Type 0} (same : K → K → Bool) (key : R → K) (rows : List R) → folds same key [] added rows ≡ groups same key rows
folds_are_groups same key rows =
    map_same (folded same key [] added rows) (members same key rows) (λ k. added_all [] (members same key rows k)) (keys_in same key rows)

module _ {K R S : Type 0} (same : K → K → Bool) (key : S → K) (shows : R → S) where
  members_shown : (rows : List R) (k : K) → map shows (members same (λ r. key (shows r)) rows k) ≡ members same key (map shows rows) k
  members_shown [] k = refl
  members_shown (row ∷ rows) k = by (same k (key (shows row))) (members_shown rows k)
    where
      by : (b : Bool) → map shows (members same (λ r. key (shows r)) rows k) ≡ members same key (map shows rows) k
          → map shows (cond b (row ∷ members same (λ r. key (shows r)) rows k) (members same (λ r. key (shows r)) rows k))
          ≡ cond b (shows row ∷ members same key (map shows rows) k) (members same key (map shows rows) k)
      by true e = ap (λ l. shows row ∷ l) e
      by false e = e

  keys_shown : (rows : List R) → map (λ r. key (shows r)) rows ≡ map key (map shows rows)
  keys_shown [] = refl
  keys_shown (row ∷ rows) = ap (λ l. key (shows row) ∷ l) (keys_shown rows)

  shown_all : (rows : List R) (ks : List K) → map (map shows) (map (members same (λ r. key (shows r)) rows) ks) ≡ map (members same key (map shows rows)) ks
  shown_all rows [] = refl
  shown_all rows (k ∷ ks) = λ i. members_shown rows k i ∷ shown_all rows ks i

  -- groups of rows are groups of what stands for them
  pub groups_shown : (rows : List R) → map (map shows) (groups same (λ r. key (shows r)) rows) ≡ groups same key (map shows rows)
  groups_shown rows =
      shown_all rows (keys_in same (λ r. key (shows r)) rows) ∙ ap (λ ks. map (members same key (map shows rows)) (distinct same ks)) (keys_shown rows)

  module _ {A : Type 0} (start : A) (step : A → S → A) where
    abbrev step_shown : A → R → A
    step_shown kept row = step kept (shows row)

    fold_shown : (kept : A) (rows : List R) → fold step_shown kept rows ≡ fold step kept (map shows rows)
    fold_shown kept [] = refl
    fold_shown kept (row ∷ rows) = fold_shown (step kept (shows row)) rows

    entries_at : (rows : List R) (ks : List K)
        → map (group_at same (λ r. key (shows r)) start step_shown rows) ks ≡ map (group_at same key start step (map shows rows)) ks
    entries_at rows [] = refl
    entries_at rows (k ∷ ks) =
        λ i. (k, (fold_shown start (members same (λ r. key (shows r)) rows k) ∙ ap (fold step start) (members_shown rows k)) i) ∷ entries_at rows ks i

    -- keys of rows, each with what is kept, are those of what stands for the rows
    pub entries_shown : (rows : List R) → groups_in same (λ r. key (shows r)) start step_shown rows ≡ groups_in same key start step (map shows rows)
    entries_shown rows =
        entries_at rows (keys_in same (λ r. key (shows r)) rows) ∙ ap (λ ks. map (group_at same key start step (map shows rows)) (distinct same ks)) (keys_shown rows)
