-- The tables of some names: one name more, and their numbers.
use Rattle.std.proofs.Common.{◌≡◌, Option, Some, None, List, [], ◌∷◌, ◌++◌, map, refl, ap, ◌∙◌, append-nil}
use Rattle.std.proofs.lemmas.List.{map-append}
use Rattle.std.proofs.lemmas.Grind.{flat_map-append}
use Rattle.std.specs.List.{flat_map, AllByRecursion}
use Rattle.std.specs.Option.{option_map, option_to_list}
use Rattle.hv_locks.specs.declared.table.Lock.{Lock}
use Rattle.hv_history.specs.declared.state.Table.{Table}
use Rattle.hv_history.specs.State.{numbered}
use Rattle.hv_stands.specs.Reading.{table_of_name, named_in}
use Rattle.hv_stands.specs.Sound.{NumberedFrom}
use Rattle.hv_stands.proofs.Tables.{named-numbered}

of-option : {A B : Type 0} (f : A → B) (o : Option A) → map f (option_to_list o) ≡ option_to_list (option_map f o)
of-option f None = refl
of-option f (Some x) = refl

module _ (tables : List Table) where
  abbrev pub named_all : List Lock → List Table
  named_all locks = flat_map (named_in tables) locks

  pub named-more : {A : Type 0} (f : Table → A) (locks : List Lock) (lock : Lock)
      → map f (named_all (locks ++ lock ∷ [])) ≡ map f (named_all locks) ++ option_to_list (option_map f (table_of_name lock.name tables))
  named-more f locks lock =
      ap (map f) (flat_map-append (named_in tables) locks (lock ∷ []) ∙ ap (λ (ts : List Table). named_all locks ++ ts) (append-nil (named_in tables lock)))
      ∙ map-append f (named_all locks) (named_in tables lock)
      ∙ ap (λ xs. map f (named_all locks) ++ xs) (of-option f (table_of_name lock.name tables))

  -- each has its number
  abbrev pub IsAtNumber : Table → Type 0
  IsAtNumber table = numbered tables table.info.table.0 ≡ Some table

  pub named-placed : NumberedFrom 1 tables → (locks : List Lock) → AllByRecursion IsAtNumber (named_all locks)
  named-placed order [] = tt
  named-placed order (lock ∷ locks) = by (table_of_name lock.name tables) refl (named-placed order locks)
    where
      by : (o : Option Table) → table_of_name lock.name tables ≡ o → AllByRecursion IsAtNumber (named_all locks)
          → AllByRecursion IsAtNumber (option_to_list o ++ named_all locks)
      by None at rest = rest
      by (Some table) at rest = (named-numbered lock.name tables table order at, rest)
