-- The file of a directory's name has its records, and there is one where it has some.
use Rattle.std.proofs.Common.{◌≡◌, ℕ, ◌==◌, Bool, true, false, Option, Some, None, List, [], ◌∷◌, refl, sym, ap}
use Rattle.std.specs.Prelude.{if◌then◌else◌}
use Rattle.hv_logic.specs.declared.catalog.Shape.{Shape}
use Rattle.hv_rowfile.specs.declared.record.Rec.{Rec}
use Rattle.hv_dirs.specs.declared.names.DirName.{DirName}
use Rattle.hv_dirs.specs.declared.names.DirName.TheVariants as name
use Rattle.hv_history.specs.declared.state.Written.{Written}
use Rattle.hv_stands.proofs.Numbers.{one_value}
use Rattle.hv_law_made.specs.Made.{has_deletes, has_rows, some_or, bare_file, if_bare, name_recs, name_file}
use Rattle.hv_law_visible.specs.Members.{IsIn}

some-recs : (deletes : Bool) (recs : List Rec) (other : Option (Bool × List Rec)) (file : Bool × List Rec) → some_or deletes recs other ≡ Some file
    → (other ≡ Some file → file.1 ≡ []) → file.1 ≡ recs
some-recs deletes [] other file e bare = bare e
some-recs deletes (r ∷ recs) other file e bare = sym (ap (λ (f : Bool × List Rec). f.1) (one_value (deletes, r ∷ recs) file e))

bare-recs : (rows : Bool) (bucket : ℕ) (file : Bool × List Rec) → if_bare rows bucket ≡ Some file → file.1 ≡ []
bare-recs true bucket file e = cc
bare-recs false bucket file e = by (bucket == 0) e
  where
    by : (b : Bool) → (if b then Some (false, []) else None) ≡ Some file → file.1 ≡ []
    by true same = sym (ap (λ (f : Bool × List Rec). f.1) (one_value (false, []) file same))
    by false same = cc

pub file-recs : (shape : Shape) (writes : List Written) (partition : List ℕ) (called : DirName) (bucket : ℕ) (file : Bool × List Rec)
    → name_file shape writes partition called bucket ≡ Some file → file.1 ≡ name_recs shape writes partition called bucket
unfolding name_file
file-recs shape writes partition called bucket file e =
    some-recs (has_deletes called) (name_recs shape writes partition called bucket) (bare_file writes partition called bucket) file e (bare called)
  where
    bare : (n : DirName) → bare_file writes partition n bucket ≡ Some file → file.1 ≡ []
    bare (name.Base high) is = bare-recs (has_rows writes partition high.0) bucket file is
    bare (name.Own deletes write statement) is = cc
    bare (name.Wide deletes low high) is = cc
    bare (name.Staged job text) is = cc

some-in : (deletes : Bool) (recs : List Rec) (other : Option (Bool × List Rec)) (r : Rec) → IsIn r recs → some_or deletes recs other ≡ Some (deletes, recs)
some-in deletes [] other r at = absurd at
some-in deletes (first ∷ recs) other r at = refl

pub some-file : (shape : Shape) (writes : List Written) (partition : List ℕ) (called : DirName) (bucket : ℕ) (r : Rec)
    → IsIn r (name_recs shape writes partition called bucket)
    → name_file shape writes partition called bucket ≡ Some (has_deletes called, name_recs shape writes partition called bucket)
unfolding name_file
some-file shape writes partition called bucket r at =
    some-in (has_deletes called) (name_recs shape writes partition called bucket) (bare_file writes partition called bucket) r at
