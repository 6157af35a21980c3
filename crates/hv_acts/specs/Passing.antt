-- Whose abort a statement has left to ask for, and that it has asked for all, or for its compaction: whatever others add, this stays so.
use Rattle.std.specs.Prelude.{◌≡◌, ℕ, ◌<◌, ◌≤◌, Bool, true, false, Some, List, length, take}
use Rattle.std.specs.List.{AllByRecursion}
use Rattle.hv_base.specs.declared.ids.TxnId.{TxnId}
use Rattle.hv_ast.specs.declared.statement.Stmt.{Stmt}
use Rattle.hv_logic.specs.declared.meaning.Meaning.{Meaning}
use Rattle.hv_logic.specs.declared.meaning.Meaning.TheVariants.{Plain, Ask}
use Rattle.hv_history.specs.Asking.{numbers_in, is_asked}
use Rattle.hv_history.specs.JobsTrue.{Ask as AskedFor, ask_of, was_busy}
use Rattle.hv_history.specs.Lasting.{IsFront}
use Rattle.hv_history.specs.State.{state_of}
use Rattle.hv_trail.specs.declared.trail.TrailItem.{TrailItem}
use Rattle.hv_trail.specs.Trail.{book_of, state_at}

-- how many transactions had been opened before a place of the book
abbrev pub opened_then : List TrailItem → ℕ → ℕ
opened_then trail place = length (state_of (take place (book_of trail))).transactions

-- the abort of that one is still to be asked for by one that started at this place
abbrev pub is_left : List TrailItem → TxnId → ℕ → ℕ → Bool
is_left trail by place number = is_asked (state_at trail).transactions by.0 (opened_then trail place) number

-- it was no more to be asked for at a front of the trail
pub record HasPassed (trail : List TrailItem) (by : TxnId) (place number : ℕ) : Type 0 where
  pub then_ : List TrailItem
  pub front : IsFront then_ trail
  pub early : place ≤ length (book_of then_)
  pub passed : is_left then_ by place number ≡ false

abbrev pub AllPassed : List TrailItem → TxnId → ℕ → List ℕ → Type 0
AllPassed trail by place numbers = AllByRecursion (HasPassed trail by place) numbers

-- at a front of the trail a job of the partition had been busy behind this place
pub record HasStood (trail : List TrailItem) (place : ℕ) (ask : AskedFor) : Type 0 where
  pub then_ : List TrailItem
  pub front : IsFront then_ trail
  pub early : place < length (book_of then_)
  pub busy : was_busy (state_at then_) place ask ≡ true

-- so of all numbers that its text lists, where it comes to nothing
abbrev pub HasPassedAll : List TrailItem → TxnId → ℕ → Stmt → Meaning → Type 0
HasPassedAll trail by place said Plain = AllPassed trail by place (numbers_in (Some said))
HasPassedAll trail by place said means = Unit {0}

-- and of the job that it asks for
abbrev pub HasAskedAll : List TrailItem → TxnId → ℕ → Stmt → Meaning → Type 0
HasAskedAll trail by place said Plain = AllPassed trail by place (numbers_in (Some said))
HasAskedAll trail by place said (Ask table partition kind) = HasStood trail place (ask_of table partition kind)
HasAskedAll trail by place said means = Unit {0}

-- it has something to ask for
abbrev pub is_asking : Meaning → Bool
is_asking Plain = true
is_asking (Ask table partition kind) = true
is_asking means = false
