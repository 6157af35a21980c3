-- The name that is found by a number is that of its refusal.
use Rattle.std.proofs.Common.{◌≡◌, ℕ, cond, Option, Some, None, List, [], ◌∷◌, refl, sym, ap, ◌∙◌, ne_eqb}
use Rattle.hv_base.specs.declared.refusal.Refusal.{Refusal}
use Rattle.hv_base.specs.declared.refusal.Refusal.TheVariants as refusal
use Rattle.hv_base.specs.Refusals.{number, name, IsNumbered}
use Rattle.hv_history.specs.Answers.{every_refusal, name_among, refusal_name}

named : (r : Refusal) → refusal_name (number r) ≡ name r
unfolding refusal_name
named refusal.BadCharacter = refl
named refusal.OpenString = refl
named refusal.WideNumber = refl
named refusal.Syntax = refl
named refusal.Nesting = refl
named refusal.NoTable = refl
named refusal.NoColumn = refl
named refusal.Ambiguous = refl
named refusal.BadType = refl
named refusal.BadCount = refl
named refusal.NotGrouped = refl
named refusal.FixedColumn = refl
named refusal.MergeClauses = refl
named refusal.TableExists = refl
named refusal.Limit = refl
named refusal.ViewForm = refl
named refusal.IsView = refl
named refusal.NotView = refl
named refusal.WindowPlace = refl
named refusal.Conflict = refl
named refusal.Aborted = refl
named refusal.JournalFull = refl
named refusal.MergeTwice = refl
named refusal.Blocked = refl
named refusal.ReadFault = refl
named refusal.WriteFault = refl
named refusal.NoMemory = refl
named refusal.RowLimit = refl
named refusal.PartitionLimit = refl
named refusal.Damaged = refl
named refusal.TransactionOver = refl
named refusal.NotInTransaction = refl
named refusal.NoTransaction = refl

unnamed : (n : ℕ) (refusals : List Refusal) → ((r : Refusal) → number r ≡ n → ⊥) → name_among refusals n ≡ []
unnamed n [] other = refl
unnamed n (r ∷ refusals) other =
    ap (λ b. cond b (name r) (name_among refusals n)) (ne_eqb (number r) n (other r)) ∙ unnamed n refusals other

pub found-name : (o : Option Refusal) (r : Refusal) (n : ℕ) → o ≡ Some r → IsNumbered o n → name r ≡ refusal_name n
found-name o r n e is = sym (ap refusal_name (sym ((is r).0 e)) ∙ named r)

pub no-name : (o : Option Refusal) (n : ℕ) → o ≡ None → IsNumbered o n → [] ≡ refusal_name n
unfolding refusal_name
no-name o n e is = sym (unnamed n every_refusal (λ r h. none r ((is r).1 h)))
  where
    none : (r : Refusal) → o ≡ Some r → ⊥
    none r s = let both : None ≡ Some r = sym e ∙ s in cc
