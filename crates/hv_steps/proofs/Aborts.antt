-- An abort, and what comes of a transaction one of whose acts was refused.
use Rattle.std.proofs.Common.{◌≡◌, ◌⊎◌, inl, inr, ℕ, true, Option, Some, None, List, [], ◌∷◌, length, refl, sym, subst, arith, Ok, Err, Result}
use Rattle.std.specs.Prelude.{IfOk}
use Rattle.hv_base.specs.declared.ids.TxnId.{TxnId}
use Rattle.hv_shelf.specs.Disk.{Store}
use Rattle.hv_history.specs.declared.entry.Entry.{Entry}
use Rattle.hv_history.specs.declared.entry.Entry.TheVariants as entry
use Rattle.hv_history.specs.declared.entry.Cause.{Cause}
use Rattle.hv_history.specs.declared.entry.Cause.TheVariants as cause
use Rattle.hv_history.specs.Answers.{cause_text}
use Rattle.hv_history.specs.Legal.{CauseFits, profile}
use Rattle.hv_stands.proofs.Fitting.{cause-open}
use Rattle.hv_stands.specs.Running.{IsOwnCause}
use Rattle.hv_trail.specs.declared.trail.TrailItem.{TrailItem}
use Rattle.hv_trail.specs.Trail.{book_of, state_at}
use Rattle.hv_trail.specs.Steps.{Note}
use Rattle.hv_actor.specs.Acting.{AreRows, among, known, Held}
use Rattle.hv_table_reader.specs.hv_acts.specs.hv_telling.specs.hv_house.specs.declared.fault.HouseFault.{HouseFault}
use Rattle.hv_table_reader.specs.hv_acts.specs.hv_telling.specs.hv_house.specs.declared.fault.HouseFault.TheVariants as fault
use Rattle.hv_table_reader.specs.hv_acts.specs.declared.told.ToldHouse.{ToldHouse}
use Rattle.hv_table_reader.specs.hv_acts.specs.declared.fault.ActFault.{ActFault}
use Rattle.hv_table_reader.specs.hv_acts.specs.Told.{trail_in, book_in, told_sight}
use Rattle.hv_table_reader.specs.hv_acts.specs.Answers.{NoTest, Answers, AnswerLeaves, EntryFits, answer_call, answer_outcome, adds_entry}
use Rattle.hv_steps.specs.Ending.{KeepsCount, EndsUncommitted, aborting, HasReplied}
use Rattle.hv_steps.specs.declared.ready.Reply.{Reply}
use Rattle.hv_steps.specs.declared.reply.Done.{Done}
use Rattle.hv_steps.specs.declared.reply.Done.TheVariants as done
use Rattle.hv_steps.specs.Going.{faults_in, IsOpenHouse, AddsOwn, Goes, CauseKeeps}
use Rattle.hv_table_reader.specs.hv_acts.specs.hv_telling.specs.hv_house.specs.Faults.{EndsRun}
use Rattle.hv_steps.specs.Leaving.{IsLeftBy, added_by}
use Rattle.hv_steps.specs.Phases.{AbortsFor, NoCause}
use Rattle.hv_table_reader.specs.hv_acts.proofs.Aborts.{own-abort}
use Rattle.hv_steps.proofs.Joining.{adds-none, halts-none, halts-for, goes-on}
use Rattle.hv_steps.proofs.Ends.{open-here, abort-replies, replied-now}

-- the entry that an act adds
pub book-added : {T : Type 0} (event : T → Entry) (result : Result T ActFault) → book_of (adds_entry event result) ≡ added_by event result
book-added event (Ok x) = refl
book-added event (Err why) = refl

-- a cause that keeps a count keeps it in its entry
pub cause-kept : (low high txn : ℕ) (why : Cause) → CauseKeeps low high why → KeepsCount low high (aborting txn why)
cause-kept low high txn (cause.ReadFault count) keeps = keeps
cause-kept low high txn (cause.WriteFault count) keeps = keeps
cause-kept low high txn why keeps = tt

-- ---- one act

module _ {D : Type 0} (told : D → Option Store) (faults : D → ℕ) (meanwhile : ToldHouse D → ToldHouse D → Type 0) (before now : ToldHouse D) (txn : TxnId) (why : Cause) where
  abbrev pub HeldAbort : Result ℕ ActFault → Type 0
  HeldAbort result =
      Held (told_sight told faults) meanwhile before now (λ seen. answer_call (Note (entry.Abort txn why)) result) (answer_outcome result)
      (λ house after. Answers NoTest house.trail txn (EntryFits house.trail (entry.Abort txn why)) (λ (place : ℕ). place ≡ length (book_of house.trail)) result
      × AnswerLeaves told faults txn.0 house after result)

  pub abort-replied : (result : Result ℕ ActFault) → EndsUncommitted why → HeldAbort result
      → IfOk result (λ (at : ℕ). HasReplied (book_in now) txn.0 (cause_text None why) true (Some at))
  abort-replied (Err fault) uncommitted held = tt
  abort-replied (Ok at) uncommitted held =
      let trail = trail_in held.house in
      replied-now trail (trail_in now) (aborting txn.0 why) txn.0 (cause_text None why) true at held.step.trail held.does_it.0.1
      (abort-replies (book_of trail) txn.0 why uncommitted
      (open-here (book_of trail) txn.0 (CauseFits profile (state_at trail) txn.0 why) (cause-open profile (state_at trail) txn.0 why) held.does_it.0.0))

-- ---- it is its own

pub uncommitted-own : (why : Cause) → EndsUncommitted why → IsOwnCause why
uncommitted-own (cause.Refused number) ends = tt
uncommitted-own (cause.Conflict by table partition) ends = absurd ends
uncommitted-own (cause.Request by) ends = absurd ends
uncommitted-own cause.Full ends = tt
uncommitted-own (cause.Twice partition row) ends = tt
uncommitted-own (cause.Blocked holder) ends = tt
uncommitted-own (cause.ReadFault count) ends = tt
uncommitted-own (cause.WriteFault count) ends = tt
uncommitted-own (cause.Damaged place) ends = tt
uncommitted-own cause.RowLimit ends = tt
uncommitted-own cause.PartitionLimit ends = tt
uncommitted-own cause.Memory ends = tt
uncommitted-own cause.Lost ends = tt
uncommitted-own cause.Rollback ends = tt

-- ---- what comes of it

or-as : (Causes Others : Cause → Type 0) → ((why : Cause) → Causes why → Others why) → (why : Cause) → Causes why ⊎ (why ≡ cause.Memory) → Others why ⊎ (why ≡ cause.Memory)
or-as Causes Others f why (inl one) = inl (f why one)
or-as Causes Others f why (inr lacks) = inr lacks

-- one for a cause of these is one for a cause of those
pub aborts-as : {D : Type 0} (txn : ℕ) (now : ToldHouse D) (first : List Entry) (Causes Others : Cause → Type 0) → ((why : Cause) → Causes why → Others why)
    → (found : Done) (added : List Entry) → AbortsFor txn now first Causes found added → AbortsFor txn now first Others found added
aborts-as txn now first Causes Others f (done.Replied reply) added is = (
  is.0,
  is.1,
  record {
    why = is.2.why;
    is = or-as Causes Others f is.2.why is.2.is;
    entry_is = is.2.entry_is;
    answered = is.2.answered;
  },
  is.3,
)
aborts-as txn now first Causes Others f (done.Gone reply) added is = is

module _ {D : Type 0} (told : D → Option Store) (faults : D → ℕ) (B : List TrailItem → Type 0) (rows : AreRows B)
    (meanwhile : ToldHouse D → ToldHouse D → Type 0) (low txn : ℕ) (own own' : List ℕ) (before now : ToldHouse D) (Causes : Cause → Type 0) where
  -- it was aborted by one act
  pub replied-goes : (why : Cause) (reply : Reply) → IsOwnCause why → AddsOwn faults B txn (known own before) (known own' now) (aborting txn why ∷ [])
      → IsOpenHouse now
      → KeepsCount low (faults_in faults now) (aborting txn why) → Causes why ⊎ (why ≡ cause.Memory)
      → HasReplied (book_in now) txn reply.text reply.refused reply.ended
      → Goes (among told faults B meanwhile) low txn (known own before) (known own' now) (AbortsFor txn now [] Causes) (Ok (done.Replied reply))
  replied-goes why reply own_ adds running kept is answered = record {
    done = record {
      added = aborting txn why ∷ [];
      adds = adds;
      of_it = (own-abort (record { 0 = txn }) why own_, tt);
      counts = (kept, tt);
      is = (aborting txn why, refl, record { why = why; is = is; entry_is = refl; answered = answered }, answered.ended_at);
      running = running;
    };
    halted = tt;
  }

  -- the house's call failed
  pub failed-goes : (why : HouseFault) → AddsOwn faults B txn (known own before) (known own' now) [] → IsLeftBy told meanwhile txn now why → EndsRun why
      → Goes (among told faults B meanwhile) low txn (known own before) (known own' now) (AbortsFor txn now [] Causes) (Err why)
  failed-goes why adds left ends = record {
    done = tt;
    halted = halts-none faults B rows told meanwhile txn own own' before now why adds (halts-for faults B rows told meanwhile txn now why ends left);
  }

  -- the same of what is answered
  pub aborted-goes : (why : Cause) (found : Done) (text : List ℕ) (at : ℕ) → found ≡ done.Replied (record { text = text; refused = true; ended = Some at })
      → text ≡ cause_text None why → IsOwnCause why → AddsOwn faults B txn (known own before) (known own' now) (aborting txn why ∷ []) → IsOpenHouse now
      → KeepsCount low (faults_in faults now) (aborting txn why) → Causes why ⊎ (why ≡ cause.Memory)
      → HasReplied (book_in now) txn (cause_text None why) true (Some at)
      → Goes (among told faults B meanwhile) low txn (known own before) (known own' now) (AbortsFor txn now [] Causes) (Ok found)
  aborted-goes why found text at e text_is own_ adds running kept is answered =
      subst (λ (f : Done). Goes (among told faults B meanwhile) low txn (known own before) (known own' now) (AbortsFor txn now [] Causes) (Ok f)) (sym e)
      (replied-goes why (record { text = text; refused = true; ended = Some at }) own_ adds running kept is
      (subst (λ (line : List ℕ). HasReplied (book_in now) txn line true (Some at)) (sym text_is) answered))

module _ {D : Type 0} (told : D → Option Store) (faults : D → ℕ) (B : List TrailItem → Type 0) (rows : AreRows B)
    (meanwhile : ToldHouse D → ToldHouse D → Type 0) (low txn : ℕ) where
  -- memory lacked even for that
  pub lacks-goes : (own : List ℕ) (house : ToldHouse D) (Is : Done → List Entry → Type 0) → IsOpenHouse house
      → Goes (among told faults B meanwhile) low txn (known own house) (known own house) Is (Err fault.NoMemory)
  lacks-goes own house Is running = record {
    done = tt;
    halted = halts-none faults B rows told meanwhile txn own own house house fault.NoMemory (adds-none faults B rows own house) running;
  }

  -- an abort for want of memory behind an act that added nothing
  pub behind-goes : (own own' own'' : List ℕ) (a b c : ToldHouse D) (Causes : Cause → Type 0) (result : Result Done HouseFault)
      → AddsOwn faults B txn (known own a) (known own' b) []
      → Goes (among told faults B meanwhile) low txn (known own' b) (known own'' c) (AbortsFor txn c [] NoCause) result
      → Goes (among told faults B meanwhile) low txn (known own a) (known own'' c) (AbortsFor txn c [] Causes) result
  behind-goes own own' own'' a b c Causes result adds goes =
      goes-on faults B rows told meanwhile low low txn own own' own'' a b c (AbortsFor txn c [] NoCause) (AbortsFor txn c [] Causes) result (omega arith) adds
      (λ found more is. aborts-as txn c [] NoCause Causes (λ why never. absurd never) found more is) goes
