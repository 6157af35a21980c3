-- The list of a table at a place says what its write ids have come to there.
use Rattle.std.proofs.Common.{refl, ◌≡◌, ℕ, suc, ◌+◌, ◌==◌, Bool, true, false, Option, Some, None, List, [], ◌∷◌, ◌++◌, length, map, take, ap, ◌∙◌}
use Rattle.std.specs.List.{list_any}
use Rattle.hv_wids.specs.declared.list.Exception.{Exception}
use Rattle.hv_history.specs.State.{State, numbered, state_of}
use Rattle.hv_earlier.specs.hv_meta.specs.hv_book.specs.Past.{owners_in, forgotten_in}
use Rattle.hv_earlier.specs.Fates.{fate_of}
use Rattle.hv_earlier.specs.declared.fates.Fate as earlier
use Rattle.hv_earlier.specs.declared.fates.Fate.TheVariants as fate
use Rattle.hv_earlier.specs.Lists as lists
use Rattle.hv_law_visible.specs.Snapshots.{Fate, list_at, exceptions_from}
use Rattle.hv_law_partitions.specs.Partitions.{fate_by, fates_from, fates_in}
use Rattle.hv_law_partitions.specs.Laws.{ListIsOfFates}

module _ (fates : List earlier.Fate) (forgotten : List ℕ) where
  same-length : (write : ℕ) (owners : List ℕ) → length owners ≡ length (fates_from fates forgotten write owners)
  same-length write [] = refl
  same-length write (txn ∷ owners) = ap suc (same-length (write + 1) owners)

  -- of one id
  aborted-same : (write : ℕ) (b : Bool) (rest : List Fate)
      → lists.unless_forgotten b write ++ exceptions_from (write + 1) rest ≡ exceptions_from write (fate_by b (Some fate.Aborted) ∷ rest)
  aborted-same write true rest = refl
  aborted-same write false rest = refl

  one-same : (write : ℕ) (o : Option earlier.Fate) (rest : List Fate)
      → lists.exception_by forgotten write o ++ exceptions_from (write + 1) rest
      ≡ exceptions_from write (fate_by (list_any (λ other. other == write) forgotten) o ∷ rest)
  one-same write None rest = refl
  one-same write (Some fate.Open) rest = refl
  one-same write (Some fate.Committed) rest = refl
  one-same write (Some fate.Aborted) rest = aborted-same write (list_any (λ other. other == write) forgotten) rest

  same-exceptions : (write : ℕ) (owners : List ℕ)
      → lists.exceptions_from fates forgotten write owners ≡ exceptions_from write (fates_from fates forgotten write owners)
  same-exceptions write [] = refl
  same-exceptions write (txn ∷ owners) =
      ap (λ (more : List Exception). lists.exception_by forgotten write (numbered fates txn) ++ more) (same-exceptions (write + 1) owners)
      ∙ one-same write (numbered fates txn) (fates_from fates forgotten (write + 1) owners)

  same-list : (owners : List ℕ) → lists.list_by fates forgotten owners ≡ list_at (fates_from fates forgotten 1 owners)
  same-list owners = λ i. record { high = record { 0 = same-length 1 owners i }; exceptions = same-exceptions 1 owners i }

pub list-in : (state : State) (table : ℕ) → lists.list_in state table ≡ list_at (fates_in state table)
list-in state table =
    same-list (map fate_of state.transactions) (forgotten_in (numbered state.tables table)) (owners_in (numbered state.tables table))

pub list-of-fates : ListIsOfFates
list-of-fates entries place table = list-in (state_of (take place entries)) table
