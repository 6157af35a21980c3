-- Whom a statement needs to ask for no more it needs to ask for no more later, and so of a job.
use Rattle.std.proofs.Common.{◌≡◌, ℕ, true, false, Some, List, [], ◌∷◌, ◌++◌, length, take, ap, ◌∙◌, append_assoc, arith}
use Rattle.std.proofs.lemmas.List.Sums.{fold-append}
use Rattle.hv_base.specs.declared.ids.TxnId.{TxnId}
use Rattle.hv_ast.specs.declared.statement.Stmt.{Stmt}
use Rattle.hv_logic.specs.declared.meaning.Meaning.{Meaning}
use Rattle.hv_logic.specs.declared.meaning.Meaning.TheVariants.{Refused, Listing, Change, Make, Unmake, Ask, Plain, Twice, RowLimit, PartitionLimit}
use Rattle.hv_history.specs.declared.entry.Entry.{Entry}
use Rattle.hv_history.specs.Asking.{numbers_in, is_asked}
use Rattle.hv_history.specs.Lasting.{IsFront}
use Rattle.hv_history.specs.JobsTrue.{Ask as AskedFor, ask_of, was_busy}
use Rattle.hv_history.specs.State.{State, nothing_yet, after, state_of}
use Rattle.hv_history.proofs.AskingLaws.{passed-later}
use Rattle.hv_history.proofs.JobsStay.{busy-stays}
use Rattle.hv_book.proofs.BookLaws.{follows}
use Rattle.hv_trail.specs.declared.trail.TrailItem.{TrailItem}
use Rattle.hv_trail.specs.Trail.{book_of, state_at}
use Rattle.hv_trail.proofs.LastingLaws.{book-append}
use Rattle.hv_acts.specs.Passing.{is_left, HasPassed, AllPassed, HasStood, HasAskedAll}

pub passed-now : (trail : List TrailItem) (by : TxnId) (place number : ℕ) → HasPassed trail by place number → is_left trail by place number ≡ false
passed-now trail by place number has =
    let books : book_of trail ≡ book_of has.then_ ++ book_of has.front.more = ap book_of has.front.is ∙ book-append has.then_ has.front.more in
    ap (λ (book : List Entry). is_asked (state_of book).transactions by.0 (length (state_of (take place book)).transactions) number) books
    ∙ passed-later (book_of has.then_) (book_of has.front.more) by.0 place number has.early has.passed

pub stood-now : (trail : List TrailItem) (place : ℕ) (ask : AskedFor) → HasStood trail place ask → was_busy (state_at trail) place ask ≡ true
stood-now trail place ask has =
    let books : book_of trail ≡ book_of has.then_ ++ book_of has.front.more = ap book_of has.front.is ∙ book-append has.then_ has.front.more in
    let early = has.early in
    let counted = (follows (book_of has.then_)).entries in
    ap (λ (book : List Entry). was_busy (state_of book) place ask) books
    ∙ ap (λ (s : State). was_busy s place ask) (fold-append after nothing_yet (book_of has.then_) (book_of has.front.more))
    ∙ busy-stays ask place (book_of has.front.more) (state_of (book_of has.then_)) (omega (arith, early, counted)) has.busy

module _ (before now : List TrailItem) (front : IsFront before now) where
  pub stood-lasts : (place : ℕ) (ask : AskedFor) → HasStood before place ask → HasStood now place ask
  stood-lasts place ask has = record {
    then_ = has.then_;
    front = record {
      more = has.front.more ++ front.more;
      is = front.is ∙ ap (λ (trail : List TrailItem). trail ++ front.more) has.front.is ∙ append_assoc has.then_ has.front.more front.more;
    };
    early = has.early;
    busy = has.busy;
  }

  pub passed-lasts : (by : TxnId) (place number : ℕ) → HasPassed before by place number → HasPassed now by place number
  passed-lasts by place number has = record {
    then_ = has.then_;
    front = record {
      more = has.front.more ++ front.more;
      is = front.is ∙ ap (λ (trail : List TrailItem). trail ++ front.more) has.front.is ∙ append_assoc has.then_ has.front.more front.more;
    };
    early = has.early;
    passed = has.passed;
  }

  pub all-last : (by : TxnId) (place : ℕ) (numbers : List ℕ) → AllPassed before by place numbers → AllPassed now by place numbers
  all-last by place [] passed = tt
  all-last by place (n ∷ numbers) passed = (passed-lasts by place n passed.0, all-last by place numbers passed.1)

  pub asked-lasts : (by : TxnId) (place : ℕ) (said : Stmt) (means : Meaning) → HasAskedAll before by place said means → HasAskedAll now by place said means
  asked-lasts by place said Plain asked = all-last by place (numbers_in (Some said)) asked
  asked-lasts by place said (Ask table partition kind) asked = stood-lasts place (ask_of table partition kind) asked
  asked-lasts by place said (Refused why) asked = tt
  asked-lasts by place said (Listing names rows) asked = tt
  asked-lasts by place said (Change info effect) asked = tt
  asked-lasts by place said (Make shape) asked = tt
  asked-lasts by place said (Unmake table) asked = tt
  asked-lasts by place said (Twice partition row) asked = tt
  asked-lasts by place said RowLimit asked = tt
  asked-lasts by place said PartitionLimit asked = tt
