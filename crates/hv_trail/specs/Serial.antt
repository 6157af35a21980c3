-- What one thread leaves: the items of its statements stand one after another.
use Rattle.std.specs.Prelude.{◌≡◌, ℕ, Some, List, [], ◌∷◌, ◌++◌}
use Rattle.std.specs.List.{AllByRecursion}
use Rattle.hv_book.specs.hv_history.specs.Answers.{answer}
use Rattle.hv_trail.specs.declared.trail.TrailItem.{TrailItem}
use Rattle.hv_trail.specs.Trail.{state_at}
use Rattle.hv_trail.specs.Own.{IsOf}

-- One statement alone: what was added are the items of its transaction, and its reply is its answer, also over the trail at the end.
pub record Alone (end : List TrailItem) (reply : List ℕ) (before now : List TrailItem) : Type 0 where
  pub txn : ℕ
  pub own : List TrailItem
  pub adds : now ≡ before ++ own
  pub is_own : AllByRecursion (IsOf txn) own
  pub answered : answer (state_at end) txn ≡ Some reply

-- statements with these replies, one after another, and nothing behind the last
abbrev pub Serial : List TrailItem → List (List ℕ) → List TrailItem → Type 0
Serial end [] before = end ≡ before
Serial end (reply ∷ replies) before = (now : List TrailItem) × Alone end reply before now × Serial end replies now
