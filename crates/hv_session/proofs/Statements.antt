-- A statement that is taken up by its text: one that was carried, and one that was never opened.
use Rattle.std.proofs.Common.{◌≡◌, ◌⊎◌, inl, inr, ℕ, ◌≤◌, Option, None, List, [], refl, sym, ap, ◌∙◌, subst, append-nil, arith, Ok, Err, Result}
use Rattle.std.specs.Prelude.{IfOk, IfErr, IsErrAnd}
use Rattle.hv_base.specs.declared.gate.Stage.{Stage}
use Rattle.hv_shelf.specs.Disk.{Store}
use Rattle.hv_ast.specs.declared.statement.Stmt.{Stmt}
use Rattle.hv_built.specs.Running.{Runs}
use Rattle.hv_history.specs.declared.entry.Entry.{Entry}
use Rattle.hv_history.specs.declared.entry.Cause.TheVariants as cause
use Rattle.hv_history.specs.Answers.{cause_text}
use Rattle.hv_stands.specs.Running.{Asking, next_number}
use Rattle.hv_trail.specs.declared.trail.TrailItem.{TrailItem}
use Rattle.hv_actor.specs.Acting.{AreRows, among, known}
use Rattle.hv_beginning.specs.hv_steps.specs.hv_table_reader.specs.hv_acts.specs.hv_telling.specs.hv_house.specs.declared.fault.HouseFault.{HouseFault}
use Rattle.hv_beginning.specs.hv_steps.specs.hv_table_reader.specs.hv_acts.specs.hv_telling.specs.hv_house.specs.declared.fault.HouseFault.TheVariants as fault
use Rattle.hv_beginning.specs.hv_steps.specs.hv_table_reader.specs.hv_acts.specs.hv_telling.specs.hv_house.specs.declared.house.House.{House}
use Rattle.hv_beginning.specs.hv_steps.specs.hv_table_reader.specs.hv_acts.specs.hv_telling.specs.hv_house.specs.House.{entries_of}
use Rattle.hv_beginning.specs.hv_steps.specs.hv_table_reader.specs.hv_acts.specs.hv_telling.specs.Telling.{IsWhole}
use Rattle.hv_beginning.specs.hv_steps.specs.hv_table_reader.specs.hv_acts.specs.hv_telling.proofs.Told.{told-stays}
use Rattle.hv_beginning.specs.hv_steps.specs.hv_table_reader.specs.hv_acts.specs.hv_telling.proofs.Opens.{whole-opens}
use Rattle.hv_beginning.specs.hv_steps.specs.hv_table_reader.specs.hv_acts.specs.declared.told.ToldHouse.{ToldHouse}
use Rattle.hv_beginning.specs.hv_steps.specs.hv_table_reader.specs.hv_acts.specs.Told.{trail_in, book_in}
use Rattle.hv_beginning.specs.hv_steps.specs.declared.ready.Reply.{Reply}
use Rattle.hv_beginning.specs.hv_steps.specs.declared.reply.Done.{Done}
use Rattle.hv_beginning.specs.hv_steps.specs.declared.reply.Done.TheVariants as done
use Rattle.hv_session.specs.declared.paused.Carried.{Carried}
use Rattle.hv_session.specs.declared.paused.Carried.TheVariants as carried
use Rattle.hv_session.specs.declared.paused.Taken.{Taken}
use Rattle.hv_session.specs.declared.paused.Taken.TheVariants as taken
use Rattle.hv_session.specs.Lines.{IsLine, IsTextLine, IsFullLine}
use Rattle.hv_beginning.specs.hv_steps.specs.Going.{faults_in, IsOpenHouse, AddsOwn, GainsSome}
use Rattle.hv_beginning.specs.hv_steps.specs.Phases.{WasSoBetween, IsNextAt, HaltsBeginning}
use Rattle.hv_session.specs.Doing.{reply_from, Takes, TakesText, IsSaidFor, WasNeverOpened, CanFinishSome, CanFinishTaken, up_to}
use Rattle.hv_session.specs.Taking.{IsReplied, IsKeptIn, IsTakenAs}
use Rattle.hv_session.specs.Ways.{IsUnopened, IsCarriedIn, IsCarriedAs, asked_up_to, CarriesAlone, TakesAlone}
use Rattle.hv_beginning.specs.hv_steps.proofs.Joining.{adds-none, gains-as}
use Rattle.hv_session.proofs.Takings.{takes-can}
use Rattle.hv_session.proofs.Passing.{still-part, part-taking, taking-ok}

-- one that has ended replies so
pub ended-said : (found : Carried) (done_ : Done) (reply : Reply) → found ≡ carried.Ended done_ → reply ≡ reply_from done_ → IsSaidFor found (taken.Replied reply)
ended-said found done_ reply e is = subst (λ (f : Carried). IsSaidFor f (taken.Replied reply)) (sym e) (ap (λ (r : Reply). taken.Replied r) is)

-- what is so of a call that failed for want of memory is so of what is handed on
pub so-behind : {T : Type 0} (P : Result T HouseFault → Type 0) (result : Result T HouseFault) → IsErrAnd result (λ y. y ≡ fault.NoMemory) → P (Err fault.NoMemory) → P result
so-behind P (Ok x) left is = absurd left
so-behind P (Err y) left is = subst (λ (why : HouseFault). P (Err why)) (sym left) is

-- ---- whatever others do

module _ {D : Type 0} (told : D → Option Store) (faults : D → ℕ) (B : List TrailItem → Type 0) (rows : AreRows B) (meanwhile : ToldHouse D → ToldHouse D → Type 0) where
  -- its number is the next where nothing was done
  next-there : (house : ToldHouse D) → WasSoBetween house house (IsNextAt (next_number (book_in house)))
  next-there house = record {
    trail = trail_in house;
    later = ([], sym (append-nil (trail_in house)));
    front = ([], sym (append-nil (trail_in house)));
    was = refl;
  }

  -- nothing was noted for it
  pub text-takes : (asking : Asking) (hold : Option Stage) (own : List ℕ) (house : ToldHouse D) (reply : Reply) → IsOpenHouse house → IsTextLine asking.text reply
      → GainsSome faults B (faults_in faults house) (known own house) (known own house) (TakesText told house house asking hold (taken.Replied reply))
  text-takes asking hold own house reply running line = (
    next_number (book_in house),
    record {
      added = [];
      adds = adds-none faults B rows own house;
      of_it = tt;
      counts = tt;
      is = inl (refl, (reply, refl, line));
      running = running;
    },
    next-there house,
  )

  nothing-halts : (asking : Asking) (txn : ℕ) (own own' : List ℕ) (before now : ToldHouse D) → AddsOwn faults B txn (known own before) (known own' now) []
      → WasSoBetween before now (IsNextAt txn) → IsOpenHouse now
      → HaltsBeginning (among told faults B meanwhile) asking (known own before) (known own' now) fault.NoMemory
  nothing-halts asking txn own own' before now adds next running = inl (
    txn,
    next,
    record { stop = record { added = []; adds = adds; of_it = tt; unended = tt; halts = running }; begun_by = tt },
  )

  pub text-halts : (asking : Asking) (own : List ℕ) (house : ToldHouse D) → IsOpenHouse house → (result : Result Taken HouseFault) → IsErrAnd result (λ y. y ≡ fault.NoMemory)
      → IfErr result (HaltsBeginning (among told faults B meanwhile) asking (known own house) (known own house))
  text-halts asking own house running result left =
      so-behind (λ (r : Result Taken HouseFault). IfErr r (HaltsBeginning (among told faults B meanwhile) asking (known own house) (known own house))) result
      left
      (nothing-halts asking (next_number (book_in house)) own own house house (adds-none faults B rows own house) (next-there house) running)

  -- it was carried so far
  pub said-takes : (asking : Asking) (said : Stmt) (hold : Option Stage) (own own' : List ℕ) (before now : ToldHouse D) (found : Carried) (answer : Taken)
      → Runs asking.text said → IsSaidFor found answer
      → GainsSome faults B (faults_in faults before) (known own before) (known own' now) (Takes told before now asking (up_to said hold) found)
      → GainsSome faults B (faults_in faults before) (known own before) (known own' now) (TakesText told before now asking hold answer)
  said-takes asking said hold own own' before now found answer runs answers gains = (
    gains.0,
    gains-as faults B rows (faults_in faults before) gains.0 own own' before now (Takes told before now asking (up_to said hold) found)
        (TakesText told before now asking hold answer)
        (λ added is. inr (said, found, runs, is, answers)) gains.1,
    gains.2,
  )

  -- what was never opened added nothing
  never-added : (asking : Asking) (said : Stmt) (hold : Option Stage) (before now : ToldHouse D) (found : Carried) (added : List Entry) → WasNeverOpened found
      → Takes told before now asking (up_to said hold) found added → added ≡ []
  never-added asking said hold before now (carried.Full entries) added never (inl gone) = absurd gone.goes
  never-added asking said hold before now (carried.Full entries) added never (inr not_) = not_.0
  never-added asking said hold before now carried.NoMemory added never (inl gone) = absurd gone.goes
  never-added asking said hold before now carried.NoMemory added never (inr not_) = not_
  never-added asking said hold before now (carried.Ended found) added never is = absurd never
  never-added asking said hold before now (carried.Kept paused) added never is = absurd never

  pub unsaid-halts : (asking : Asking) (said : Stmt) (hold : Option Stage) (own own' : List ℕ) (before now : ToldHouse D) (found : Carried) → WasNeverOpened found
      → GainsSome faults B (faults_in faults before) (known own before) (known own' now) (Takes told before now asking (up_to said hold) found)
      → (result : Result Taken HouseFault) → IsErrAnd result (λ y. y ≡ fault.NoMemory)
      → IfErr result (HaltsBeginning (among told faults B meanwhile) asking (known own before) (known own' now))
  unsaid-halts asking said hold own own' before now found never gains result left =
      so-behind (λ (r : Result Taken HouseFault). IfErr r (HaltsBeginning (among told faults B meanwhile) asking (known own before) (known own' now))) result
      left
      (nothing-halts asking gains.0 own own' before now
      (subst (λ (added : List Entry). AddsOwn faults B gains.0 (known own before) (known own' now) added)
      (never-added asking said hold before now found gains.1.added never gains.1.is) gains.1.adds) gains.2 gains.1.running)

said-can : {D : Type 0} (told : D → Option Store) (now : ToldHouse D) (found : Carried) (answer : Taken) → IsSaidFor found answer → CanFinishSome told now found
    → CanFinishTaken told now answer
said-can told now (carried.Ended found) answer answers can = subst (CanFinishTaken told now) (sym answers) tt
said-can told now (carried.Kept paused) answer answers can = subst (CanFinishTaken told now) (sym answers) can
said-can told now (carried.Full entries) answer answers can = subst (CanFinishTaken told now) (sym answers.1) tt
said-can told now carried.NoMemory answer answers can = subst (CanFinishTaken told now) (sym answers.1) tt

text-can : {D : Type 0} (told : D → Option Store) (before now : ToldHouse D) (asking : Asking) (hold : Option Stage) (answer : Taken) (added : List Entry)
    → TakesText told before now asking hold answer added → CanFinishTaken told now answer
text-can told before now asking hold answer added (inl text) = subst (CanFinishTaken told now) (sym text.1.1) tt
text-can told before now asking hold answer added (inr of) =
    said-can told now of.1 answer of.4 (takes-can told before now asking of.0 hold of.1 added of.3)

-- what is held of a text that was taken up can be finished
pub taken-can : {D : Type 0} (told : D → Option Store) (faults : D → ℕ) (between : List TrailItem → Type 0) (low : ℕ) (own own' : List ℕ) (before now : ToldHouse D)
    (asking : Asking) (hold : Option Stage) (result : Result Taken HouseFault)
    → IfOk result (λ answer. GainsSome faults between low (known own before) (known own' now) (TakesText told before now asking hold answer))
    → IfOk result (CanFinishTaken told now)
taken-can told faults between low own own' before now asking hold (Ok answer) gains = text-can told before now asking hold answer gains.1.added gains.1.is
taken-can told faults between low own own' before now asking hold (Err why) gains = tt

-- ---- where others do nothing

-- what stands of it

module _ (before now : List Entry) (asking : Asking) (hold : Option Stage) where
  full-replied : (reply : Reply) → IsUnopened before now → IsFullLine reply → IsReplied before now asking hold reply.text reply.refused reply.ended
  full-replied reply un (inl line) =
      inr (inr (inl (record { book = un.book; unended = line.unended; lacks = un.lacks; is_refused = line.refusal; line = line.line_is })))
  full-replied reply un (inr line) =
      inr (inr (inr (record { book = un.book; unended = line.unended; is_refused = line.refusal; line = line.line_is })))

  memory-replied : (reply : Reply) → now ≡ before → IsLine (cause_text None cause.Memory) reply → IsReplied before now asking hold reply.text reply.refused reply.ended
  memory-replied reply same line =
      inr (inr (inr (record { book = same; unended = line.unended; is_refused = line.refusal; line = line.line_is })))

  text-replied : (reply : Reply) → now ≡ before → IsTextLine asking.text reply → IsReplied before now asking hold reply.text reply.refused reply.ended
  text-replied reply same (inl line) =
      inr (inl (record { book = same; unended = line.unended; is_refused = line.refusal; fault = line.fault }))
  text-replied reply same (inr line) = memory-replied reply same line

  said-held : (found : Carried) (answer : Taken) → IsSaidFor found answer → IsCarriedIn before now asking found → IsKeptIn before now asking answer
  said-held (carried.Ended (done.Replied reply)) answer answers is = subst (IsKeptIn before now asking) (sym answers) tt
  said-held (carried.Ended (done.Gone reply)) answer answers is = absurd is
  said-held (carried.Kept paused) answer answers is = subst (IsKeptIn before now asking) (sym answers) is
  said-held (carried.Full entries) answer answers is = subst (IsKeptIn before now asking) (sym answers.1) tt
  said-held carried.NoMemory answer answers is = subst (IsKeptIn before now asking) (sym answers.1) tt

  said-truly : (found : Carried) (answer : Taken) → IsSaidFor found answer → IsCarriedIn before now asking found → IsCarriedAs before now asking hold found
      → IsTakenAs before now asking hold answer
  said-truly (carried.Ended (done.Replied reply)) answer answers is so = subst (IsTakenAs before now asking hold) (sym answers) (inl so)
  said-truly (carried.Ended (done.Gone reply)) answer answers is so = absurd so
  said-truly (carried.Kept paused) answer answers is so = subst (IsTakenAs before now asking hold) (sym answers) so
  said-truly (carried.Full entries) answer answers is so =
      subst (IsTakenAs before now asking hold) (sym answers.1) (full-replied answers.0 is answers.2)
  said-truly carried.NoMemory answer answers is so =
      subst (IsTakenAs before now asking hold) (sym answers.1) (memory-replied answers.0 is answers.2)

module _ {D : Type 0} (told : D → Option Store) (faults : D → ℕ) (asking : Asking) (hold : Option Stage) where
  -- it was carried so far
  pub said-alone : (before now : House D) (found : Carried) (answer : Taken) → IsSaidFor found answer → CarriesAlone told faults (asked_up_to asking hold) before now (Ok found)
      → TakesAlone told faults (asked_up_to asking hold) before now (Ok answer)
  said-alone before now found answer answers carries = record {
    taking = taking-ok told faults asking before now found answer carries.taking;
    held = said-held (entries_of before) (entries_of now) asking hold found answer answers carries.held;
    truly = λ is. said-truly (entries_of before) (entries_of now) asking hold found answer answers carries.held (carries.truly is);
  }

  pub halted-alone : (before now : House D) (why : HouseFault) → CarriesAlone told faults (asked_up_to asking hold) before now (Err why)
      → TakesAlone told faults (asked_up_to asking hold) before now (Err why)
  halted-alone before now why carries = record {
    taking = record {
      done = tt;
      start = carries.taking.start;
      stopped = carries.taking.stopped;
      opens = carries.taking.opens;
      cause = record { later = carries.taking.cause.later; failed = carries.taking.cause.failed };
    };
    held = tt;
    truly = λ is. tt;
  }

  -- nothing was noted, and memory lacked for the reply
  lacks-alone : (before now : House D) → entries_of now ≡ entries_of before → now.start ≡ before.start → IsWhole told now → faults before.shelf ≤ faults now.shelf
      → TakesAlone told faults (asked_up_to asking hold) before now (Err fault.NoMemory)
  lacks-alone before now same start whole later = record {
    taking = record {
      done = tt;
      start = start;
      stopped = inl (
        record {
          added = [];
          book = same ∙ sym (append-nil (entries_of before));
          of_it = tt;
          fits = tt;
          legal = λ is. record { fit = tt; truthful = tt };
          unended = tt;
          further = [];
          further_of_it = tt;
          unopened = tt;
          few = omega arith;
          fit = tt;
          leaves = whole.ready.kept.reads;
        },
        tt,
      );
      opens = λ is. whole-opens told now whole (told-stays told before now start is);
      cause = record { later = later; failed = tt };
    };
    held = tt;
    truly = λ is. tt;
  }

  never-noted : (before now : House D) (found : Carried) → WasNeverOpened found → IsCarriedIn (entries_of before) (entries_of now) asking found
      → entries_of now ≡ entries_of before
  never-noted before now (carried.Full entries) never is = is.book
  never-noted before now carried.NoMemory never is = is
  never-noted before now (carried.Ended found) never is = absurd never
  never-noted before now (carried.Kept paused) never is = absurd never

  pub unsaid-alone : (before now : House D) (found : Carried) → WasNeverOpened found → CarriesAlone told faults (asked_up_to asking hold) before now (Ok found)
      → (result : Result Taken HouseFault) → IsErrAnd result (λ y. y ≡ fault.NoMemory) → TakesAlone told faults (asked_up_to asking hold) before now result
  unsaid-alone before now found never carries result left =
      so-behind (λ (r : Result Taken HouseFault). TakesAlone told faults (asked_up_to asking hold) before now r) result left
      (lacks-alone before now (never-noted before now found never carries.held) carries.taking.start carries.taking.done.whole carries.taking.cause.later)

  -- its text was refused
  pub text-alone : (house : House D) (reply : Reply) → IsWhole told house → IsTextLine asking.text reply
      → TakesAlone told faults (asked_up_to asking hold) house house (Ok (taken.Replied reply))
  text-alone house reply whole line = record {
    taking =
        part-taking told faults asking house house (Ok (taken.Replied reply))
        (still-part told faults (next_number (entries_of house)) house whole (taken.Replied reply)) tt;
    held = tt;
    truly = λ is. text-replied (entries_of house) (entries_of house) asking hold reply refl line;
  }

  pub text-lacks : (house : House D) → IsWhole told house → (result : Result Taken HouseFault) → IsErrAnd result (λ y. y ≡ fault.NoMemory)
      → TakesAlone told faults (asked_up_to asking hold) house house result
  text-lacks house whole result left =
      so-behind (λ (r : Result Taken HouseFault). TakesAlone told faults (asked_up_to asking hold) house house r) result left (lacks-alone house house refl refl whole (omega arith))
