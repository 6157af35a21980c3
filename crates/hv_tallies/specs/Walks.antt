-- Walks over the write ids of a table: each is counted once, in some order.
use Rattle.std.specs.Prelude.{◌≡◌, ℕ, List, fold}
use Rattle.hv_jobs.specs.hv_history.specs.State.{State, numbered}
use Rattle.hv_ids.specs.declared.notes.IdNote.{IdNote}
use Rattle.hv_ids.specs.declared.notes.PlacedId.{PlacedId}
use Rattle.hv_earlier.specs.hv_meta.specs.hv_book.specs.Past.{owners_in, total, total_from, ended_weight}
use Rattle.hv_tallies.specs.declared.tally.Reach.{Reach}
use Rattle.hv_tallies.specs.declared.tally.Tally.{Tally}
use Rattle.hv_tallies.specs.Tallies.{no_tally, visited}

abbrev pub id_weight : (ℕ → ℕ → ℕ) → IdNote → ℕ
id_weight weight id = weight id.write id.txn

-- what was seen on the way from the one tally to the other: the ids of the table that are among these, each as often
pub record HasWalked (visit : Tally → IdNote → Tally) (table : ℕ) (ids : List PlacedId) (before after : Tally) : Type 0 where
  pub seen : List IdNote
  pub is : after ≡ fold visit before seen
  pub each : (weight : ℕ → ℕ → ℕ) → total (id_weight weight) seen ≡ total (ended_weight table weight) ids

-- what all write ids of the table come to
pub record IsTally (state : State) (table : ℕ) (partition : List ℕ) (reach : Reach) (tally : Tally) : Type 0 where
  pub seen : List IdNote
  pub is : tally ≡ fold (visited state table partition reach) no_tally seen
  pub each : (weight : ℕ → ℕ → ℕ) → total (id_weight weight) seen ≡ total_from weight 1 (owners_in (numbered state.tables table))
