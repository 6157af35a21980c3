-- What ends a statement gives its answer and says where it ended, and that stays.
use Rattle.std.proofs.Common.{ℕ, Bool, true, false, Option, Some, None, List, [], ◌∷◌, ◌++◌, length, take, refl, ap, ◌∙◌, append_assoc}
use Rattle.hv_base.specs.declared.ids.TableId.{TableId}
use Rattle.hv_base.specs.declared.ids.Touch.{Touch}
use Rattle.hv_ast.specs.declared.statement.Stmt.{Stmt}
use Rattle.hv_history.specs.declared.entry.Entry.{Entry}
use Rattle.hv_history.specs.declared.entry.Cause.{Cause}
use Rattle.hv_history.specs.Answers.{cause_text, committed_text, ok_line}
use Rattle.hv_stands.specs.Running.{Asking, meant, snapshot_at, IsWaiting, IsUnderWay}
use Rattle.hv_stands.proofs.Answered.{commits-answer, creates-answer, aborts-answer, waiting-aborts-answer, answers-stay}
use Rattle.hv_steps.specs.Ending.{IsEndOf, HasEndedAt, HasReplied, aborting, committing, creating}

-- the last entry is its end
last-ends : (book : List Entry) (txn : ℕ) (event : Entry) → IsEndOf txn event → HasEndedAt (book ++ event ∷ []) txn (Some (length book))
last-ends book txn event ends = record { front = book; event = event; rest = []; book_is = refl; ends = ends; place = refl }

module _ (book : List Entry) (asking : Asking) (txn place : ℕ) (said : Stmt) (given : List (ℕ × ℕ)) (way : IsUnderWay book asking txn place said given) where
  pub commit-replies : (wrote : List Touch)
      → HasReplied (book ++ committing txn wrote ∷ []) txn (committed_text (meant (take place book) said) wrote) false (Some (length book))
  commit-replies wrote =
      record { answered = commits-answer book asking txn place said given wrote way; ended_at = last-ends book txn (committing txn wrote) refl }

  pub create-replies : (table : TableId) → HasReplied (book ++ creating txn table ∷ []) txn ok_line false (Some (length book))
  create-replies table =
      record { answered = creates-answer book asking txn place said given table way; ended_at = last-ends book txn (creating txn table) refl }

  pub abort-replies : (why : Cause)
      → HasReplied (book ++ aborting txn why ∷ []) txn (cause_text (Some (snapshot_at book place)) why) true (Some (length book))
  abort-replies why =
      record { answered = aborts-answer book asking txn place said given why way; ended_at = last-ends book txn (aborting txn why) refl }

pub waiting-abort-replies : (book : List Entry) (asking : Asking) (txn : ℕ) (said : Stmt) (why : Cause) → IsWaiting book asking txn said
    → HasReplied (book ++ aborting txn why ∷ []) txn (cause_text None why) true (Some (length book))
waiting-abort-replies book asking txn said why waiting =
    record { answered = waiting-aborts-answer book asking txn said why waiting; ended_at = last-ends book txn (aborting txn why) refl }

-- whatever follows
pub replies-stay : (book more : List Entry) (txn : ℕ) (reply : List ℕ) (refused : Bool) (ended : Option ℕ)
    → HasReplied book txn reply refused ended → HasReplied (book ++ more) txn reply refused ended
replies-stay book more txn reply refused ended has = record {
  answered = answers-stay book more txn reply refused has.answered;
  ended_at = record {
    front = has.ended_at.front;
    event = has.ended_at.event;
    rest = has.ended_at.rest ++ more;
    book_is = ap (λ (b : List Entry). b ++ more) has.ended_at.book_is ∙ append_assoc has.ended_at.front (has.ended_at.event ∷ has.ended_at.rest) more;
    ends = has.ended_at.ends;
    place = has.ended_at.place;
  };
}
