-- Looking a refusal up by its number.
use Rattle.std.proofs.Common.{◌≡◌, ◌==◌, ℕ, Bool, true, false, List, [], ◌∷◌, Option, Some, cond, refl, subst}
use Rattle.std.specs.Cmp.{unsigned_Decides}
use Rattle.std.specs.List.{find}
use Rattle.hv_base.specs.declared.refusal.Refusal.{Refusal}
use Rattle.hv_base.specs.declared.refusal.Refusal.TheVariants as refusal
use Rattle.hv_base.specs.Refusals.{number, IsNumbered}

abbrev all : List Refusal
all =
    refusal.BadCharacter ∷
    refusal.OpenString ∷
    refusal.WideNumber ∷
    refusal.Syntax ∷
    refusal.Nesting ∷
    refusal.NoTable ∷
    refusal.NoColumn ∷
    refusal.Ambiguous ∷
    refusal.BadType ∷
    refusal.BadCount ∷
    refusal.NotGrouped ∷
    refusal.FixedColumn ∷
    refusal.MergeClauses ∷
    refusal.TableExists ∷
    refusal.Limit ∷
    refusal.ViewForm ∷
    refusal.IsView ∷
    refusal.NotView ∷
    refusal.WindowPlace ∷
    refusal.Conflict ∷
    refusal.Aborted ∷
    refusal.JournalFull ∷
    refusal.MergeTwice ∷
    refusal.Blocked ∷
    refusal.ReadFault ∷
    refusal.WriteFault ∷
    refusal.NoMemory ∷
    refusal.RowLimit ∷
    refusal.PartitionLimit ∷
    refusal.Damaged ∷
    refusal.TransactionOver ∷
    refusal.NotInTransaction ∷
    refusal.NoTransaction ∷ []

chosen : {X : Type 0} (p : X → Bool) (b : Bool) (x y : X) (rest : Option X) → p x ≡ b →
    (rest ≡ Some y → p y ≡ true) → cond b (Some x) rest ≡ Some y → p y ≡ true
chosen p true x y rest is goes e = subst (λ z. p z ≡ true) (cc) is
chosen p false x y rest is goes e = goes e

-- what is found passes
passes : {X : Type 0} (p : X → Bool) (xs : List X) (y : X) → find p xs ≡ Some y → p y ≡ true
passes p [] y e = cc
passes p (x ∷ xs) y e = chosen p (p x) x y (find p xs) refl (passes p xs y) e

-- each refusal is found by its number
found : (r : Refusal) → find (λ x. number x == number r) all ≡ Some r
found refusal.BadCharacter = refl
found refusal.OpenString = refl
found refusal.WideNumber = refl
found refusal.Syntax = refl
found refusal.Nesting = refl
found refusal.NoTable = refl
found refusal.NoColumn = refl
found refusal.Ambiguous = refl
found refusal.BadType = refl
found refusal.BadCount = refl
found refusal.NotGrouped = refl
found refusal.FixedColumn = refl
found refusal.MergeClauses = refl
found refusal.TableExists = refl
found refusal.Limit = refl
found refusal.ViewForm = refl
found refusal.IsView = refl
found refusal.NotView = refl
found refusal.WindowPlace = refl
found refusal.Conflict = refl
found refusal.Aborted = refl
found refusal.JournalFull = refl
found refusal.MergeTwice = refl
found refusal.Blocked = refl
found refusal.ReadFault = refl
found refusal.WriteFault = refl
found refusal.NoMemory = refl
found refusal.RowLimit = refl
found refusal.PartitionLimit = refl
found refusal.Damaged = refl
found refusal.TransactionOver = refl
found refusal.NotInTransaction = refl
found refusal.NoTransaction = refl

pub numbered : (n : ℕ) → IsNumbered (find (λ r. number r == n) all) n
numbered n r = (
  λ e. (unsigned_Decides (number r) n).0 (passes (λ x. number x == n) all r e),
  λ e. subst (λ k. find (λ x. number x == k) all ≡ Some r) e (found r),
)
