-- Why a run ends with a fault, and that it ends well where there is none.
use Rattle.std.specs.Prelude.{◌≡◌, ◌⊎◌, ℕ, IsTrue, IsSome, Option, None, List, [], ◌∷◌}
use Rattle.hv_base.specs.Faults.{Rose}
use Rattle.hv_base.specs.Told.{Tells}
use Rattle.hv_shelf.specs.Disk.{Store}
use Rattle.hv_script.specs.Words.{run_of}
use Rattle.hv_script.specs.Actions.{refused_at}
use Rattle.hv_history.specs.Legal.{profile}
use Rattle.hv_session.specs.hv_beginning.specs.hv_steps.specs.hv_table_reader.specs.hv_acts.specs.hv_telling.specs.hv_house.specs.Booting.{CanOpen, IsCutShortOf}
use Rattle.hv_program.specs.Change.{Change}
use Rattle.hv_program.specs.Headline.{Outside}
use Rattle.hv_program.specs.Refused.{is_one_of}

-- How many calls of the source, the sink and the store failed so far; and the store's hard count, of those of its journal, and of those of
-- files at the last count.
pub record Counts : Type 0 where
  pub source : ℕ
  pub sink : ℕ
  pub store : ℕ
  pub hard : ℕ

-- The store's hard count rose; or its opening stopped at a call on files, with a front of its entries behind the book, which isn't all of them.
abbrev pub FailsStore : (hard hard' : ℕ) → Change (Option Store) → Type 0
FailsStore hard hard' stores = Rose hard hard' ⊎ IsCutShortOf profile stores.was stores.now

-- A device is blamed only where it failed in this run; and the store only where its journal did, or a call on files in its opening, or at the
-- last count.
pub record HasCauses (before now : Counts) (stores : Change (Option Store)) (status : ℕ) : Type 0 where
  pub source : status ≡ 3 → Rose before.source now.source
  pub sink : status ≡ 4 → Rose before.sink now.sink
  pub store : status ≡ 5 → Rose before.store now.store
  pub hard : status ≡ 5 → FailsStore before.hard now.hard stores

-- no device failed in this run
pub record IsFaultless (before now : Counts) : Type 0 where
  pub source : Rose before.source now.source → ⊥
  pub sink : Rose before.sink now.sink → ⊥
  pub store : Rose before.store now.store → ⊥

-- A script that isn't refused, over a store that can be opened, is done to its end where no device fails and
-- memory doesn't run out.
abbrev pub Completes : List (List ℕ) → Outside → Counts → Counts → ℕ → Type 0
Completes words before counts counts' status =
    IsSome (run_of words) → IsFaultless counts counts'
    → Tells before.source (λ script. refused_at script ≡ None
    → Tells before.store (λ s. CanOpen profile s → IsTrue (is_one_of (0 ∷ 1 ∷ 7 ∷ []) status)))
