-- How a transaction has ended that others have ended, in words of the house.
use Rattle.std.proofs.Common.{◌≡◌, ℕ, Bool, Option, Some, None, List, [], Result, Ok, Err, refl, sym, ap, ◌∙◌, subst, append-nil, option_map}
use Rattle.hv_base.specs.declared.ids.TxnId.{TxnId}
use Rattle.hv_shelf.specs.Disk.{Store}
use Rattle.hv_history.specs.declared.state.Ending.{Ending}
use Rattle.hv_history.specs.declared.state.Transaction.{Transaction}
use Rattle.hv_history.specs.Lasting.{IsFront}
use Rattle.hv_history.specs.State.{numbered}
use Rattle.hv_history.specs.Legal.{is_started}
use Rattle.hv_meta.specs.declared.facts.TxnState.TheVariants as standing
use Rattle.hv_meta.specs.States.{state_by, transaction_state}
use Rattle.hv_trail.specs.declared.trail.TrailItem.{TrailItem}
use Rattle.hv_trail.specs.Trail.{state_at}
use Rattle.hv_trail.specs.Steps.{HouseSeen, Ask, Done, Step}
use Rattle.hv_trail.proofs.LastingLaws.{goes-on-front, ended-same}
use Rattle.hv_actor.specs.Acting.{IsLater, Held, Went, AreRows, among, known}
use Rattle.hv_table_reader.specs.hv_acts.specs.hv_telling.specs.hv_house.specs.Faults.{EndsRun}
use Rattle.hv_table_reader.specs.hv_acts.specs.hv_telling.specs.hv_house.specs.declared.fault.HouseFault.{HouseFault}
use Rattle.hv_table_reader.specs.hv_acts.specs.hv_telling.specs.hv_house.specs.declared.fault.HouseFault.TheVariants as fault
use Rattle.hv_table_reader.specs.declared.fault.RowFault.TheVariants as row_fault
use Rattle.hv_table_reader.specs.hv_acts.specs.declared.told.ToldHouse.{ToldHouse}
use Rattle.hv_table_reader.specs.hv_acts.specs.declared.fault.ActFault.{ActFault}
use Rattle.hv_table_reader.specs.hv_acts.specs.declared.fault.ActFault.TheVariants as act
use Rattle.hv_table_reader.specs.hv_acts.specs.declared.ending.EndTold.{EndTold}
use Rattle.hv_table_reader.specs.hv_acts.specs.Told.{seen_in, trail_in, told_sight}
use Rattle.hv_table_reader.specs.hv_acts.specs.Answers.{answer_outcome, HasNotEnded}
use Rattle.hv_table_reader.specs.hv_acts.specs.Ending.{TellsEnd, HasTold, EndAnswers}
use Rattle.hv_table_reader.specs.hv_acts.specs.Reading.{IsFindWhy, IsOfHouse}
use Rattle.hv_steps.specs.declared.ready.Reply.{Reply}
use Rattle.hv_steps.specs.declared.reply.Done.TheVariants as done
use Rattle.hv_steps.specs.Going.{IsOpenHouse, AddsOwn, HaltsFor, Goes, IsGone, IsSaid, SaysEnd, end_reply}
use Rattle.hv_steps.specs.Phases.{AbortsFor, NoCause}
use Rattle.hv_table_reader.specs.Tables.{LeavesSeeing, LooksOver}
use Rattle.hv_steps.proofs.Joining.{halts-none}
use Rattle.hv_table_reader.proofs.Holds.{asked-done, asked-failed}

-- ---- who has ended stays so

gone-by : (o : Option Transaction) (at : ℕ) → transaction_state o ≡ standing.Ended at
    → (t : Transaction) × (e : Ending) × (o ≡ Some t) × (t.ending ≡ Some e)
gone-by None at gone = let never : standing.Unknown ≡ standing.Ended at = gone in cc
gone-by (Some t) at gone = by t.ending refl gone
  where
    by : (x : Option Ending) → t.ending ≡ x → state_by x (is_started t) ≡ standing.Ended at
        → (u : Transaction) × (e : Ending) × (Some t ≡ Some u) × (u.ending ≡ Some e)
    by None is g = let never : standing.Running (is_started t) ≡ standing.Ended at = g in cc
    by (Some e) is g = (t, e, refl, is)

pub gone-lasts : (before now : List TrailItem) → IsFront before now → (txn at : ℕ) → IsGone before txn at → IsGone now txn at
gone-lasts before now front txn at gone =
    let has = gone-by (numbered (state_at before).transactions txn) at gone in
    ap transaction_state (ended-same before now txn has.0 has.1 (goes-on-front before now front) has.2 has.3)
    ∙ ap transaction_state (sym has.2)
    ∙ gone

-- so something is said of its end
pub says-gone : (trail : List TrailItem) (txn at : ℕ) → IsGone trail txn at → (said : Option Reply) → SaysEnd trail txn said → IsSaid said
says-gone trail txn at gone None says = subst HasNotEnded gone says
says-gone trail txn at gone (Some reply) says = tt

says-end : (trail : List TrailItem) (txn : ℕ) (told : Option EndTold) → TellsEnd trail txn told → SaysEnd trail txn (option_map end_reply told)
says-end trail txn None tells = tells
says-end trail txn (Some told) tells = record { at = told.at; gone = tells.ended; told = ap end_reply tells.told_is }

-- ---- one act that asks

pub find-house : (closed : Bool) (why : ActFault) → IsFindWhy closed why → IsOfHouse why
find-house closed (act.Ended at) is = absurd is
find-house closed (act.Full entries) is = absurd is
find-house closed (act.Held holder) is = absurd is
find-house closed (act.Broken put count) is = absurd is
find-house closed act.Unfit is = absurd is
find-house closed (act.House why) is = tt

find-ends : (closed : Bool) (why : HouseFault) → IsFindWhy closed (act.House why) → EndsRun why
find-ends closed fault.Store is = tt
find-ends closed fault.NoMemory is = tt
find-ends closed (fault.Failed count) is = absurd is

module _ {D : Type 0} (told : D → Option Store) (faults : D → ℕ) (between : List TrailItem → Type 0) (meanwhile : ToldHouse D → ToldHouse D → Type 0)
    (goes_on : (before now : ToldHouse D) → meanwhile before now → IsLater faults (seen_in before) (seen_in now)) (own own' : List ℕ) (before now : ToldHouse D)
    (was : IsOpenHouse before) (txn : TxnId) (result : Result (Option EndTold) ActFault)
    (held : Held (told_sight told faults) meanwhile before now (λ seen. Ask) (answer_outcome result)
    (λ a b. EndAnswers a txn result)) (went : Went between [] own own' (trail_in before) (trail_in now)) where
  -- it was answered
  module _ (x : Option EndTold) (is : result ≡ Ok x) where
    done-looks : LooksOver (among told faults between meanwhile) txn (known own before) (known own' now) (Ok x)
    done-looks =
        asked-done told faults between meanwhile goes_on own own' before now was result (λ (a b : HouseSeen D) (r : Result (Option EndTold) ActFault). EndAnswers a txn r)
        held went x is (λ a b has. has.running) txn

    pub end-adds : AddsOwn faults between txn.0 (known own before) (known own' now) []
    end-adds = done-looks.adds

    pub end-running : IsOpenHouse now
    end-running = done-looks.running

    end-step : Step told faults Ask Done (seen_in held.house) (seen_in now)
    end-step = subst (λ (r : Result (Option EndTold) ActFault). Step told faults Ask (answer_outcome r) (seen_in held.house) (seen_in now)) is held.step

    end-tells : HasTold (seen_in held.house) txn x
    end-tells = subst (λ (r : Result (Option EndTold) ActFault). EndAnswers (seen_in held.house) txn r) is held.does_it

    pub end-says : (said : Option Reply) → said ≡ option_map end_reply x → SaysEnd (trail_in now) txn.0 said
    end-says said e =
        subst (SaysEnd (trail_in now) txn.0) (sym e)
        (says-end (trail_in now) txn.0 x
        (subst (λ (trail : List TrailItem). TellsEnd trail txn.0 x) (sym (end-step.trail ∙ append-nil (trail_in held.house))) end-tells.tells))

  -- it was refused
  module _ (why : ActFault) (is : result ≡ Err why) where
    end-why : IsFindWhy held.house.house.trail.closed why
    end-why = subst (λ (r : Result (Option EndTold) ActFault). EndAnswers (seen_in held.house) txn r) is held.does_it

    pub end-house : IsOfHouse why
    end-house = find-house held.house.house.trail.closed why end-why

    module _ (of : HouseFault) (of_is : why ≡ act.House of) where
      failed-looks : LooksOver {T = Option Reply} (among told faults between meanwhile) txn (known own before) (known own' now) (Err (row_fault.House of))
      failed-looks =
          asked-failed told faults between meanwhile goes_on own own' before now was result
          (λ (a b : HouseSeen D) (r : Result (Option EndTold) ActFault). EndAnswers a txn r) held went why of (row_fault.House of) is of_is refl
          (λ a b so. so) txn

      pub failed-adds : AddsOwn faults between txn.0 (known own before) (known own' now) []
      failed-adds = failed-looks.adds

      failed-ends : EndsRun of
      failed-ends = find-ends held.house.house.trail.closed of (subst (IsFindWhy held.house.house.trail.closed) of_is end-why)

      pub failed-halts : HaltsFor told meanwhile txn.0 now of
      failed-halts = by of failed-ends failed-looks.leaves
        where
          by : (f : HouseFault) → EndsRun f → LeavesSeeing told meanwhile txn.0 now (row_fault.House f) → HaltsFor told meanwhile txn.0 now f
          by fault.Store ends left = left
          by fault.NoMemory ends left = left
          by (fault.Failed count) ends left = absurd ends

-- ---- what comes of it

module _ {D : Type 0} (told : D → Option Store) (faults : D → ℕ) (B : List TrailItem → Type 0) (rows : AreRows B)
    (meanwhile : ToldHouse D → ToldHouse D → Type 0) (low txn : ℕ) (own own' : List ℕ) (before now : ToldHouse D) where
  pub gone-goes : (said : Option Reply) (reply : Reply) → said ≡ Some reply → AddsOwn faults B txn (known own before) (known own' now) [] → IsOpenHouse now
      → SaysEnd (trail_in now) txn said
      → Goes (among told faults B meanwhile) low txn (known own before) (known own' now) (AbortsFor txn now [] NoCause) (Ok (done.Gone reply))
  gone-goes said reply e adds running says = record {
    done = record {
      added = [];
      adds = adds;
      of_it = tt;
      counts = tt;
      is = (refl, subst (SaysEnd (trail_in now) txn) e says);
      running = running;
    };
    halted = tt;
  }

  pub untold-goes : (why : HouseFault) → AddsOwn faults B txn (known own before) (known own' now) [] → HaltsFor told meanwhile txn now why
      → Goes (among told faults B meanwhile) low txn (known own before) (known own' now) (AbortsFor txn now [] NoCause) (Err why)
  untold-goes why adds halts = record { done = tt; halted = halts-none faults B rows told meanwhile txn own own' before now why adds halts }
