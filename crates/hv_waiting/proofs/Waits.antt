-- A transaction that an act starts in its turn: what its answer says where nobody stands in its way, and where somebody does.
use Rattle.std.proofs.Common.{◌≡◌, ◌↔◌, ℕ, false, Option, Some, None, Ok, Err, List, refl, sym, ◌∙◌, subst, Result}
use Rattle.std.specs.Prelude.{IfSome, IsSomeAnd}
use Rattle.hv_base.specs.declared.ids.TxnId.{TxnId}
use Rattle.hv_shelf.specs.Disk.{Store}
use Rattle.hv_history.specs.declared.entry.Entry.{Entry}
use Rattle.hv_history.specs.declared.entry.Cause.{Cause}
use Rattle.hv_history.specs.declared.entry.Cause.TheVariants as cause
use Rattle.hv_history.specs.declared.state.Transaction.{Transaction}
use Rattle.hv_history.specs.State.{State, state_of, numbered}
use Rattle.hv_history.specs.Legal.{Of, profile}
use Rattle.hv_trail.specs.declared.trail.TrailItem.{TrailItem}
use Rattle.hv_trail.specs.Trail.{book_of, state_at}
use Rattle.hv_trail.specs.Kept.{trail_of}
use Rattle.hv_trail.specs.Steps.{HouseSeen}
use Rattle.hv_session.specs.hv_beginning.specs.hv_steps.specs.hv_table_reader.specs.hv_acts.specs.hv_telling.specs.hv_house.specs.declared.house.House.{House}
use Rattle.hv_session.specs.hv_beginning.specs.hv_steps.specs.hv_table_reader.specs.hv_acts.specs.hv_telling.specs.hv_house.specs.House.{entries_of, IsReady}
use Rattle.hv_session.specs.hv_beginning.specs.hv_steps.specs.hv_table_reader.specs.hv_acts.specs.hv_telling.specs.hv_house.specs.hv_recovery.specs.hv_fits.specs.Texts.{TextsRun}
use Rattle.hv_session.specs.hv_beginning.specs.hv_steps.specs.hv_table_reader.specs.hv_acts.specs.hv_telling.specs.hv_house.specs.hv_recovery.specs.hv_fits.proofs.LockLemmas.{texts-run}
use Rattle.hv_session.specs.hv_beginning.specs.hv_steps.specs.hv_table_reader.specs.hv_acts.specs.declared.starting.Started.{Started}
use Rattle.hv_session.specs.hv_beginning.specs.hv_steps.specs.hv_table_reader.specs.hv_acts.specs.declared.starting.Started.TheVariants as started
use Rattle.hv_session.specs.hv_beginning.specs.hv_steps.specs.hv_table_reader.specs.hv_acts.specs.declared.fault.ActFault.{ActFault}
use Rattle.hv_session.specs.hv_beginning.specs.hv_steps.specs.hv_table_reader.specs.hv_acts.specs.declared.fault.ActFault.TheVariants as act
use Rattle.hv_session.specs.hv_beginning.specs.hv_steps.specs.hv_table_reader.specs.hv_acts.specs.Answers.{AnswerLeaves}
use Rattle.hv_session.specs.hv_beginning.specs.hv_steps.specs.hv_table_reader.specs.hv_acts.specs.Starting.{IsInItsWay, StartOrAbortAnswers}
use Rattle.hv_session.specs.hv_beginning.specs.hv_steps.specs.hv_table_reader.specs.hv_acts.proofs.Steps.{book-is}
use Rattle.hv_waiting.specs.Queue.{IsBehind, IsInWay, IsFree}
use Rattle.hv_waiting.specs.Starting.{IsShortFor, StartOrWaitAnswers}
use Rattle.hv_waiting.proofs.Walks.{unheld}

-- ---- who stands in the way, in a house

-- the texts of its book run
pub texts-there : {D : Type 0} (told : D → Option Store) (house : House D) → IsReady told house → (entries : List Entry) → entries ≡ entries_of house
    → TextsRun (state_of entries)
texts-there told house ready entries are =
    subst (λ (book : List Entry). TextsRun (state_of book)) (sym are) (texts-run profile (entries_of house) ready.fit)

abbrev BehindIn : TxnId → TxnId → List Entry → Type 0
BehindIn txn by book = Of (state_of book) txn.0 (IsBehind (state_of book) txn.0 by.0)

pub way-there : {D : Type 0} (house : House D) (entries : List Entry) → entries ≡ entries_of house → (txn by : TxnId) (o : Option TxnId)
    → (o ≡ Some by) ↔ BehindIn txn by entries → (o ≡ Some by) ↔ IsInWay (trail_of house.trail) txn by
way-there house entries are txn by o both =
    let books : entries ≡ book_of (trail_of house.trail) = are ∙ sym (book-is house) in
    (λ is. subst (BehindIn txn by) books (both.0 is), λ way. both.1 (subst (BehindIn txn by) (sym books) way))

module _ (trail : List TrailItem) (txn : TxnId) where
  abbrev Finds : Option TxnId → Type 0
  Finds o = (by : TxnId) → (o ≡ Some by) ↔ IsInWay trail txn by

  -- the one that was found; and nobody where none was
  pub found-way : (o : Option TxnId) → Finds o → IfSome o (IsInWay trail txn)
  found-way None finds = tt
  found-way (Some by) finds = (finds by).0 refl

  pub none-way : (o : Option TxnId) → Finds o → o ≡ None → IsFree trail txn
  none-way o finds none by way = let never : None ≡ Some by = sym none ∙ (finds by).1 way in absurd (cc)

-- what is so whatever was found
pub so-some : {A : Type 0} (o : Option A) (P : Type 0) → P → IfSome o (λ (x : A). P)
so-some None P p = tt
so-some (Some x) P p = p

one-behind : (state : State) (own : ℕ) (o : Option Transaction) (a b : ℕ) → IsSomeAnd o (IsBehind state own a) → IsSomeAnd o (IsBehind state own b) → a ≡ b
one-behind state own None a b first other = absurd first
one-behind state own (Some t) a b first other = let both : Some a ≡ Some b = sym first.first ∙ other.first in cc

-- ---- what is answered

module _ (trail : List TrailItem) (txn : TxnId) where
  -- there is one lowest
  one-way : (a b : TxnId) → IsInWay trail txn a → IsInWay trail txn b → a ≡ b
  one-way a b first other =
      let same : a.0 ≡ b.0 = one-behind (state_at trail) txn.0 (numbered (state_at trail).transactions txn.0) a.0 b.0 first other in
      λ i. record { 0 = same i }

  -- somebody stands in its way
  pub held-answers : (by : TxnId) → IsInWay trail txn by → StartOrWaitAnswers trail txn (Err (act.Held by))
  held-answers by way = record { answers = way; way = λ other is. one-way by other way is }

  -- where nobody does, the lack of room alone aborts it
  short-for : (why : Cause) → IsFree trail txn → IsInItsWay trail txn why → IsShortFor trail txn why
  short-for (cause.Blocked holder) free is = absurd (unheld trail txn free holder is)
  short-for cause.Full free is = is
  short-for why free is = absurd is

-- nobody stands in its way, or the house is closed
pub free-answers : {D : Type 0} (told : D → Option Store) (faults : D → ℕ) (txn : TxnId) (before now : HouseSeen D) (answer : Result Started ActFault)
    → (before.closed ≡ false → IsFree before.trail txn) → StartOrAbortAnswers before.trail txn answer → AnswerLeaves told faults txn.0 before now answer
    → StartOrWaitAnswers before.trail txn answer
free-answers told faults txn before now (Ok (started.At place)) free is leaves = record { answers = is; way = λ by way. absurd (free leaves by way) }
free-answers told faults txn before now (Ok (started.Aborted aborted)) free is leaves = record {
  answers = (is.0, short-for before.trail txn aborted.cause (free leaves) is.1);
  way = λ by way. absurd (free leaves by way);
}
free-answers told faults txn before now (Err (act.Ended at)) free is leaves = record { answers = is; way = λ by way. absurd (free leaves by way) }
free-answers told faults txn before now (Err (act.Full entries)) free is leaves = absurd is.0
free-answers told faults txn before now (Err (act.Held holder)) free is leaves = absurd is.0
free-answers told faults txn before now (Err (act.Broken put count)) free is leaves = absurd is.0
free-answers told faults txn before now (Err act.Unfit) free is leaves = record { answers = is; way = λ by way. absurd (free leaves by way) }
free-answers told faults txn before now (Err (act.House why)) free is leaves = record { answers = is; way = λ by way. tt }
