-- The act by which a statement ends that is ready.
-- Source: Hive Transactions (first committer wins); the replies are this project's profile.
use Rattle.std.specs.Prelude.{◌≡◌, ℕ, true, false, Some, List, [], ◌∷◌, Result, Ok, Err}
use Rattle.hv_base.specs.declared.ids.TxnId.{TxnId}
use Rattle.hv_base.specs.declared.ids.TableId.{TableId}
use Rattle.hv_base.specs.declared.ids.Touch.{Touch}
use Rattle.hv_history.specs.declared.entry.Entry.{Entry}
use Rattle.hv_history.specs.declared.entry.Cause.TheVariants as cause
use Rattle.hv_history.specs.Answers.{conflict_text}
use Rattle.hv_beginning.specs.hv_steps.specs.hv_table_reader.specs.hv_acts.specs.declared.told.ToldHouse.{ToldHouse}
use Rattle.hv_beginning.specs.hv_steps.specs.hv_table_reader.specs.hv_acts.specs.declared.aborted.Aborted.{Aborted}
use Rattle.hv_beginning.specs.hv_steps.specs.hv_table_reader.specs.hv_acts.specs.declared.committing.Committed.{Committed}
use Rattle.hv_beginning.specs.hv_steps.specs.hv_table_reader.specs.hv_acts.specs.declared.committing.Committed.TheVariants as committed
use Rattle.hv_beginning.specs.hv_steps.specs.hv_table_reader.specs.hv_acts.specs.declared.fault.ActFault.{ActFault}
use Rattle.hv_beginning.specs.hv_steps.specs.hv_table_reader.specs.hv_acts.specs.declared.making.Made.{Made}
use Rattle.hv_beginning.specs.hv_steps.specs.hv_table_reader.specs.hv_acts.specs.Told.{book_in}
use Rattle.hv_beginning.specs.hv_steps.specs.Ending.{aborting, committing, creating, dropping, HasEndedAt, HasReplied}
use Rattle.hv_beginning.specs.hv_steps.specs.declared.reply.Done.{Done}
use Rattle.hv_beginning.specs.hv_steps.specs.declared.reply.Done.TheVariants as done

-- ---- a commit

-- what it adds: itself, or the abort for a conflict
abbrev pub commit_adds : ℕ → List Touch → Result Committed ActFault → List Entry
commit_adds txn wrote (Ok (committed.At place)) = committing txn wrote ∷ []
commit_adds txn wrote (Ok (committed.Aborted aborted)) = aborting txn aborted.cause ∷ []
commit_adds txn wrote (Err why) = []

-- it was aborted for a conflict, whose line names this table
pub record IsConflictIn (name : List ℕ) (aborted : Aborted) : Type 0 where
  pub by : TxnId
  pub table : TableId
  pub partition : List ℕ
  pub cause_is : aborted.cause ≡ cause.Conflict by table partition
  pub line : aborted.text ≡ conflict_text by.0 name partition

abbrev pub IsCommitEnd : {D : Type 0} → ToldHouse D → ℕ → List ℕ → Committed → Type 0
IsCommitEnd now txn name (committed.At place) = HasEndedAt (book_in now) txn (Some place)
IsCommitEnd now txn name (committed.Aborted aborted) = IsConflictIn name aborted
    × HasEndedAt (book_in now) txn (Some aborted.at)

-- with this text where it committed, or with the conflict's line, it is answered
abbrev pub IsCommitAnswered : {D : Type 0} → ToldHouse D → ℕ → List ℕ → Committed → Type 0
IsCommitAnswered now txn text (committed.At place) = HasReplied (book_in now) txn text false (Some place)
IsCommitAnswered now txn text (committed.Aborted aborted) = HasReplied (book_in now) txn aborted.text true
    (Some aborted.at)

abbrev pub committed_reply : List ℕ → Committed → Done
committed_reply text (committed.At place) = done.Replied (record { text = text; refused = false; ended = Some place })
committed_reply text (committed.Aborted aborted) = done.Replied
    (record { text = aborted.text; refused = true; ended = Some aborted.at })

-- ---- a table that is made

abbrev pub create_adds : ℕ → Made → Entry
create_adds txn made = creating txn made.table

-- ---- a table that is dropped

abbrev pub drop_adds : ℕ → TableId → ℕ → Entry
drop_adds txn table at = dropping txn table
