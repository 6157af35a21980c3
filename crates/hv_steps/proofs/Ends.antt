-- What the entry that ends a transaction answers, whatever others did before; and that an abort for want of memory fits while it is open.
use Rattle.std.proofs.Common.{◌≡◌, ◌⊎◌, inl, inr, ℕ, Bool, true, false, is_none, IsSomeAnd, IsTrue, Option, Some, None, List, [], ◌∷◌, ◌++◌, length, refl, sym, ap, ◌∙◌, subst}
use Rattle.hv_base.specs.declared.ids.TxnId.{TxnId}
use Rattle.hv_base.specs.declared.ids.TableId.{TableId}
use Rattle.hv_history.specs.declared.entry.Entry.{Entry}
use Rattle.hv_history.specs.declared.entry.Cause.{Cause}
use Rattle.hv_history.specs.declared.entry.Cause.TheVariants as cause
use Rattle.hv_history.specs.declared.state.Ending.{Ending}
use Rattle.hv_history.specs.declared.state.Ending.TheVariants.{Aborted, Made, Dropped}
use Rattle.hv_history.specs.declared.state.Snapshot.{Snapshot}
use Rattle.hv_history.specs.declared.state.Transaction.{Transaction}
use Rattle.hv_history.specs.State.{state_of, numbered, ended}
use Rattle.hv_history.specs.Legal.{Of, is_open, is_started}
use Rattle.hv_history.specs.Lasting.{IsFront, Later}
use Rattle.hv_history.specs.Answers.{cause_text, ok_line, answer_in}
use Rattle.hv_stands.specs.Running.{IsUnderWay, is_refused_transaction}
use Rattle.hv_stands.proofs.Behind.{aborted-there, created-there, dropped-there, numbered-behind}
use Rattle.hv_trail.specs.declared.trail.TrailItem.{TrailItem}
use Rattle.hv_trail.specs.declared.trail.TrailItem.TheVariants.{Noted}
use Rattle.hv_trail.specs.Trail.{book_of, state_at}
use Rattle.hv_trail.proofs.LastingLaws.{book-append, goes-on-front}
use Rattle.hv_meta.specs.States.{state_by, transaction_state}
use Rattle.hv_table_reader.specs.hv_acts.specs.declared.fault.ActFault.{ActFault}
use Rattle.hv_table_reader.specs.hv_acts.specs.declared.fault.ActFault.TheVariants as act
use Rattle.hv_table_reader.specs.hv_acts.specs.Answers.{NoTest, IsWhy, EntryFits, HasNotEnded}
use Rattle.hv_steps.specs.Ending.{IsEndOf, HasEndedAt, HasReplied, aborting, creating, dropping, EndsUncommitted}
use Rattle.hv_steps.specs.Going.{WasSo, HasWaited, WasOpened}
use Rattle.hv_steps.specs.Leaving.{IsNeverUnfit}

-- ---- a transaction that is open

pub record IsOpenHere (book : List Entry) (txn : ℕ) : Type 0 where
  pub t : Transaction
  pub here : numbered (state_of book).transactions txn ≡ Some t
  pub unended : t.ending ≡ None

none-of : (o : Option Ending) → IsTrue (is_none o) → o ≡ None
none-of None is = refl
none-of (Some ending) is = let never : is_none (Some ending) ≡ true = is in cc

pub open-here : (book : List Entry) (txn : ℕ) (P : Transaction → Type 0) → ((t : Transaction) → P t → IsTrue (is_open t)) → Of (state_of book) txn P → IsOpenHere book txn
open-here book txn P opens = by (numbered (state_of book).transactions txn) refl
  where
    by : (o : Option Transaction) → numbered (state_of book).transactions txn ≡ o → IsSomeAnd o P → IsOpenHere book txn
    by None e is = absurd is
    by (Some t) e is = record { t = t; here = e; unended = none-of t.ending (opens t is) }

-- ---- what its last entry answers

pub ends-at : (book : List Entry) (event : Entry) (txn : ℕ) → IsEndOf txn event → HasEndedAt (book ++ event ∷ []) txn (Some (length book))
ends-at book event txn ends = record { front = book; event = event; rest = []; book_is = refl; ends = ends; place = refl }

-- the line of a cause that is no conflict names no table
one-line : (snapshot : Option Snapshot) (why : Cause) → EndsUncommitted why → cause_text snapshot why ≡ cause_text None why
unfolding cause_text
one-line snapshot (cause.Refused number) uncommitted = refl
one-line snapshot (cause.Conflict by table partition) uncommitted = absurd uncommitted
one-line snapshot (cause.Request by) uncommitted = refl
one-line snapshot cause.Full uncommitted = refl
one-line snapshot (cause.Twice partition row) uncommitted = refl
one-line snapshot (cause.Blocked holder) uncommitted = refl
one-line snapshot (cause.ReadFault count) uncommitted = refl
one-line snapshot (cause.WriteFault count) uncommitted = refl
one-line snapshot (cause.Damaged place) uncommitted = refl
one-line snapshot cause.RowLimit uncommitted = refl
one-line snapshot cause.PartitionLimit uncommitted = refl
one-line snapshot cause.Memory uncommitted = refl
one-line snapshot cause.Lost uncommitted = refl
one-line snapshot cause.Rollback uncommitted = refl

pub abort-replies : (book : List Entry) (txn : ℕ) (why : Cause) → EndsUncommitted why → IsOpenHere book txn
    → HasReplied (book ++ aborting txn why ∷ []) txn (cause_text None why) true (Some (length book))
abort-replies book txn why uncommitted open_ =
    let at : numbered (state_of (book ++ aborting txn why ∷ [])).transactions txn ≡ Some (ended (Aborted (state_of book).entries why) open_.t) =
    numbered-behind book (aborting txn why) txn _ (aborted-there (state_of book) txn open_.t open_.here open_.unended why) in
    record {
      answered = record {
        answer_is = ap answer_in at ∙ ap (λ (text : List ℕ). Some text) (one-line open_.t.snapshot why uncommitted);
        refusal = ap is_refused_transaction at;
      };
      ended_at = ends-at book (aborting txn why) txn refl;
    }

pub create-replies : (book : List Entry) (txn : ℕ) (table : TableId) → IsOpenHere book txn
    → HasReplied (book ++ creating txn table ∷ []) txn ok_line false (Some (length book))
create-replies book txn table open_ =
    let at : numbered (state_of (book ++ creating txn table ∷ [])).transactions txn ≡ Some (ended (Made (state_of book).entries table.0) open_.t) =
    numbered-behind book (creating txn table) txn _ (created-there (state_of book) txn open_.t open_.here open_.unended table) in
    record {
      answered = record { answer_is = ap answer_in at; refusal = ap is_refused_transaction at };
      ended_at = ends-at book (creating txn table) txn refl;
    }

pub drop-replies : (book : List Entry) (txn : ℕ) (table : TableId) → IsOpenHere book txn
    → HasReplied (book ++ dropping txn table ∷ []) txn ok_line false (Some (length book))
drop-replies book txn table open_ =
    let at : numbered (state_of (book ++ dropping txn table ∷ [])).transactions txn ≡ Some (ended (Dropped (state_of book).entries table.0) open_.t) =
    numbered-behind book (dropping txn table) txn _ (dropped-there (state_of book) txn open_.t open_.here open_.unended table) in
    record {
      answered = record { answer_is = ap answer_in at; refusal = ap is_refused_transaction at };
      ended_at = ends-at book (dropping txn table) txn refl;
    }

-- of a trail that one entry more ends
pub book-noted : (trail now : List TrailItem) (event : Entry) → now ≡ trail ++ Noted event ∷ [] → book_of now ≡ book_of trail ++ event ∷ []
book-noted trail now event is = ap book_of is ∙ book-append trail (Noted event ∷ [])

pub replied-now : (trail now : List TrailItem) (event : Entry) (txn : ℕ) (text : List ℕ) (refused : Bool) (at : ℕ) → now ≡ trail ++ Noted event ∷ []
    → at ≡ length (book_of trail) → HasReplied (book_of trail ++ event ∷ []) txn text refused (Some (length (book_of trail)))
    → HasReplied (book_of now) txn text refused (Some at)
replied-now trail now event txn text refused at is place has =
    subst (λ (book : List Entry). HasReplied book txn text refused (Some at)) (sym (book-noted trail now event is))
    (subst (λ (n : ℕ). HasReplied (book_of trail ++ event ∷ []) txn text refused (Some n)) (sym place) has)

pub ended-now : (trail now : List TrailItem) (event : Entry) (txn at : ℕ) → now ≡ trail ++ Noted event ∷ [] → at ≡ length (book_of trail) → IsEndOf txn event
    → HasEndedAt (book_of now) txn (Some at)
ended-now trail now event txn at is place ends =
    subst (λ (book : List Entry). HasEndedAt book txn (Some at)) (sym (book-noted trail now event is))
    (subst (λ (n : ℕ). HasEndedAt (book_of trail ++ event ∷ []) txn (Some n)) (sym place) (ends-at (book_of trail) event txn ends))

-- ---- one that was opened is there

there : (o : Option Transaction) (t : Transaction) → IsSomeAnd o (Later t) → IsSomeAnd o (λ (u : Transaction). Unit {0})
there None t later = absurd later
there (Some u) t later = tt

there-later : (before now : List TrailItem) (txn : ℕ) (t : Transaction) → IsFront before now → numbered (state_at before).transactions txn ≡ Some t
    → IsSomeAnd (numbered (state_at now).transactions txn) (λ (u : Transaction). Unit {0})
there-later before now txn t front here =
    there (numbered (state_at now).transactions txn) t ((goes-on-front before now front).history.transactions txn t here)

pub opened-there : (trail : List TrailItem) (txn : ℕ) → WasOpened trail txn → IsSomeAnd (numbered (state_at trail).transactions txn) (λ (u : Transaction). Unit {0})
opened-there trail txn was = by was.2
  where
    by : HasWaited trail was.0 txn was.1 ⊎ ((place : ℕ) × WasSo trail (λ book. IsUnderWay book was.0 txn place was.1 []))
        → IsSomeAnd (numbered (state_at trail).transactions txn) (λ (u : Transaction). Unit {0})
    by (inl waited) = there-later waited.then_ trail txn _ waited.front waited.was.here
    by (inr under) = there-later under.1.then_ trail txn _ under.1.front under.1.was.here

unended-open : (ending : Option Ending) (started : Bool) → HasNotEnded (state_by ending started) → IsTrue (is_none ending)
unended-open None started not = refl
unended-open (Some ending) started not = absurd not

open-there : (o : Option Transaction) → IsSomeAnd o (λ (u : Transaction). Unit {0}) → HasNotEnded (transaction_state o) → IsSomeAnd o (λ (t : Transaction). IsTrue (is_open t))
open-there None is not = absurd is
open-there (Some t) is not = unended-open t.ending (is_started t) not

pub never-unfit : (trail : List TrailItem) (txn : TxnId) (why : ActFault) → WasOpened trail txn.0
    → IsWhy NoTest trail txn (EntryFits trail (aborting txn.0 cause.Memory)) why → IsNeverUnfit why
never-unfit trail txn (act.Ended at) was is = tt
never-unfit trail txn (act.Full entries) was is = is.0
never-unfit trail txn (act.Held by) was is = is.0
never-unfit trail txn (act.Broken put count) was is = is.0
never-unfit trail txn act.Unfit was is = is.1 (open-there (numbered (state_at trail).transactions txn.0) (opened-there trail txn.0 was) is.0)
never-unfit trail txn (act.House why) was is = tt
