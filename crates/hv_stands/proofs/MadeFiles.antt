-- Which file a statement writes at a place.
use Rattle.std.proofs.Common.{refl, ◌≡◌, ℕ, ◌<◌, ◌⊎◌, inl, inr, nat_eq, Bool, true, false, cond, Option, Some, None, List, sym, ap, ◌∙◌}
use Rattle.std.specs.Cmp.Lexicographic.{pointwise, bytes_decides}
use Rattle.hv_dirs.specs.Names.{write_end}
use Rattle.hv_dirs.proofs.OwnNames.{behind}
use Rattle.hv_dirs.proofs.NameLemmas.{own_rest, own-text, kind-same, fixed-parts}
use Rattle.hv_shelf.specs.declared.place.Place.{Place}
use Rattle.hv_history.specs.hv_meaning.specs.hv_typing.specs.hv_logic.specs.declared.catalog.Shape.{Shape}
use Rattle.hv_history.specs.declared.state.Written.{Written}
use Rattle.hv_stands.specs.Files.{commit_file, own_dir, file_at}
use Rattle.hv_stands.proofs.Numbers.{none_is, either}

-- ---- two write ids have two own directories of each kind

pub own_dir-same : (deletes kind : Bool) (write statement other last : ℕ) → write < write_end → other < write_end
    → own_dir deletes write statement ≡ own_dir kind other last → (deletes ≡ kind) × (write ≡ other)
own_dir-same deletes kind write statement other last p q e =
    let same = kind-same deletes kind (own_rest write statement) (own_rest other last) (sym (own-text deletes write statement) ∙ e ∙ own-text kind other last) in
    let parts = fixed-parts 7 write other (behind write statement) (behind other last) p q same.1 in
    (same.0, parts.0)

pub same-dir : (deletes : Bool) (write : ℕ) (dir : List ℕ) → pointwise nat_eq (own_dir deletes write 0) dir ≡ true → dir ≡ own_dir deletes write 0
same-dir deletes write dir is = sym ((bytes_decides (own_dir deletes write 0) dir).0 is)

pub dir-tied : (deletes : Bool) (write : ℕ) → pointwise nat_eq (own_dir deletes write 0) (own_dir deletes write 0) ≡ true
dir-tied deletes write = (bytes_decides (own_dir deletes write 0) (own_dir deletes write 0)).1 refl

other-dir : (dir other : List ℕ) → (dir ≡ other → ⊥) → pointwise nat_eq dir other ≡ false
other-dir dir other apart = by (either (pointwise nat_eq dir other))
  where
    by : (pointwise nat_eq dir other ≡ true) ⊎ (pointwise nat_eq dir other ≡ false) → pointwise nat_eq dir other ≡ false
    by (inl same) = absurd (apart ((bytes_decides dir other).0 same))
    by (inr differs) = differs

-- ---- the file of one commit

-- the place is in its own directory, and it makes that file there
pub record IsMadeBy (shape : Shape) (written : Written) (place : Place) (bytes : List ℕ) : Type 0 where
  pub deletes : Bool
  pub dir_is : place.dir ≡ own_dir deletes written.write 0
  pub file : commit_file shape deletes place.partition place.bucket written ≡ Some bytes

module _ (shape : Shape) where
  abbrev made : Bool → Place → Written → Option (List ℕ)
  made deletes place written = commit_file shape deletes place.partition place.bucket written

  abbrev is_own : Bool → Written → List ℕ → Bool
  is_own deletes written dir = pointwise nat_eq (own_dir deletes written.write 0) dir

  pub made-by : (written : Written) (place : Place) (bytes : List ℕ) → file_at shape written place ≡ Some bytes → IsMadeBy shape written place bytes
  made-by written place bytes e = by (either (is_own false written place.dir)) (either (is_own true written place.dir))
    where
      by : (is_own false written place.dir ≡ true) ⊎ (is_own false written place.dir ≡ false)
          → (is_own true written place.dir ≡ true) ⊎ (is_own true written place.dir ≡ false)
          → IsMadeBy shape written place bytes
      by (inl is) second = record {
        deletes = false;
        dir_is = same-dir false written.write place.dir is;
        file = sym (ap (λ b. cond b (made false place written) (cond (is_own true written place.dir) (made true place written) None)) is) ∙ e;
      }
      by (inr no_) (inl is) = record {
        deletes = true;
        dir_is = same-dir true written.write place.dir is;
        file = sym (λ i. cond (no_ i) (made false place written) (cond (is i) (made true place written) None)) ∙ e;
      }
      by (inr no_) (inr neither) =
          absurd (none_is (file_at shape written place) bytes (λ i. cond (no_ i) (made false place written) (cond (neither i) (made true place written) None)) e)

  -- in its own directories
  pub made-own : (written : Written) (deletes : Bool) (place : Place) → written.write < write_end → place.dir ≡ own_dir deletes written.write 0
      → file_at shape written place ≡ commit_file shape deletes place.partition place.bucket written
  made-own written false place small dir =
      ap (λ b. cond b (made false place written) (cond (is_own true written place.dir) (made true place written) None))
      (ap (is_own false written) dir ∙ dir-tied false written.write)
  made-own written true place small dir =
      let apart : is_own false written (own_dir true written.write 0) ≡ false =
      other-dir (own_dir false written.write 0) (own_dir true written.write 0)
      (λ same. let kinds = own_dir-same false true written.write 0 written.write 0 small small same in let never : false ≡ true = kinds.0 in cc) in
      λ i. cond ((ap (is_own false written) dir ∙ apart) i) (made false place written)
      (cond ((ap (is_own true written) dir ∙ dir-tied true written.write) i) (made true place written) None)

  -- in those of another write id it makes none
  pub made-not : (written : Written) (deletes : Bool) (write statement : ℕ) (place : Place) → written.write < write_end → write < write_end
      → (written.write ≡ write → ⊥) → place.dir ≡ own_dir deletes write statement → file_at shape written place ≡ None
  made-not written deletes write statement place small room other dir =
      λ i. cond (differs false i) (made false place written) (cond (differs true i) (made true place written) None)
    where
      differs : (kind : Bool) → is_own kind written place.dir ≡ false
      differs kind =
          ap (is_own kind written) dir
          ∙ other-dir (own_dir kind written.write 0) (own_dir deletes write statement)
          (λ same. let both = own_dir-same kind deletes written.write 0 write statement small room same in other both.1)
