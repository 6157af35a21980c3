-- A held statement that others have ended, and one that goes on to its reply.
use Rattle.std.proofs.Common.{◌≡◌, ◌⊎◌, inl, inr, ℕ, true, Option, Some, None, List, [], ◌∷◌, ◌++◌, length, refl, sym, ap, ◌∙◌, subst, append-nil, option_map, Ok, Err, Result}
use Rattle.std.specs.Prelude.{IfOk, IsSomeAnd, option_and_then}
use Rattle.std.specs.List.{slice_get}
use Rattle.hv_shelf.specs.Disk.{Store}
use Rattle.hv_history.specs.declared.entry.Entry.{Entry}
use Rattle.hv_history.specs.declared.entry.Cause.{Cause}
use Rattle.hv_history.specs.declared.entry.Cause.TheVariants as cause
use Rattle.hv_history.specs.declared.state.Ending.{Ending}
use Rattle.hv_history.specs.declared.state.Ending.TheVariants.{Aborted}
use Rattle.hv_history.specs.declared.state.Transaction.{Transaction}
use Rattle.hv_history.specs.State.{numbered, state_of}
use Rattle.hv_history.specs.Legal.{is_started}
use Rattle.hv_history.specs.Answers.{cause_text, answer_in, ending_text}
use Rattle.hv_stands.specs.Running.{is_abort, is_refused_transaction}
use Rattle.hv_meta.specs.declared.facts.TxnState.TheVariants as standing
use Rattle.hv_meta.specs.States.{state_by, transaction_state}
use Rattle.hv_trail.specs.declared.trail.TrailItem.{TrailItem}
use Rattle.hv_trail.specs.Trail.{book_of}
use Rattle.hv_actor.specs.Acting.{AreRows, among, known}
use Rattle.hv_beginning.specs.hv_steps.specs.hv_table_reader.specs.hv_acts.specs.hv_telling.specs.hv_house.specs.declared.fault.HouseFault.{HouseFault}
use Rattle.hv_beginning.specs.hv_steps.specs.hv_table_reader.specs.hv_acts.specs.hv_telling.specs.hv_house.specs.House.{entries_of}
use Rattle.hv_beginning.specs.hv_steps.specs.hv_table_reader.specs.hv_acts.specs.hv_telling.specs.Telling.{IsToldHouse}
use Rattle.hv_beginning.specs.hv_steps.specs.hv_table_reader.specs.hv_acts.specs.declared.told.ToldHouse.{ToldHouse}
use Rattle.hv_beginning.specs.hv_steps.specs.hv_table_reader.specs.hv_acts.specs.Told.{IsWholeOrClosed, trail_in}
use Rattle.hv_beginning.specs.hv_steps.specs.hv_table_reader.specs.hv_acts.specs.Answers.{HasNotEnded}
use Rattle.hv_beginning.specs.hv_steps.specs.hv_table_reader.specs.hv_acts.specs.Ending.{cause_at, cause_of_entry, told_so, told_at}
use Rattle.hv_beginning.specs.hv_steps.specs.hv_table_reader.specs.hv_acts.proofs.Steps.{book-is}
use Rattle.hv_beginning.specs.hv_steps.specs.declared.ready.Reply.{Reply}
use Rattle.hv_beginning.specs.hv_steps.specs.declared.reply.Done.{Done}
use Rattle.hv_beginning.specs.hv_steps.specs.declared.reply.Done.TheVariants as done
use Rattle.hv_beginning.specs.hv_steps.specs.Ending.{asking_for, HasReplied}
use Rattle.hv_beginning.specs.hv_steps.specs.Going.{faults_in, IsOpenHouse, AddsOwn, HaltsFor, Goes, IsGone, IsGoneSo, SaysEnd, end_reply}
use Rattle.hv_beginning.specs.hv_steps.specs.Phases.{AnswersTruly}
use Rattle.hv_session.specs.declared.paused.Paused.{Paused}
use Rattle.hv_session.specs.Doing.{Finishes, FinishesSo, RepliesTruly, replied_of}
use Rattle.hv_session.specs.Taking.{IsHeldBySome, IsTrulyHeld, WasStopped}
use Rattle.hv_session.specs.Ways.{ActsAlone, IsFinishedAs, IsFinishedSo, FinishesAlone}
use Rattle.hv_session.specs.Alone.{HasGained}
use Rattle.hv_beginning.specs.hv_steps.proofs.Joining.{adds-none, halts-none, goes-on, told-later}
use Rattle.hv_session.proofs.AloneBooks.{adds-alone}
use Rattle.hv_session.proofs.AloneStops.{parts-alone}

-- ---- one that another statement has stopped

abbrev pub asked_cause : ℕ → Cause
asked_cause by_ = cause.Request (record { 0 = by_ })

abbrev IsStoppedBy : ℕ → ℕ → Transaction → Type 0
IsStoppedBy at by_ t = t.ending ≡ Some (Aborted at (asked_cause by_))

-- the entry stands at its place
seam : (front : List Entry) (event : Entry) (rest : List Entry) → slice_get (front ++ event ∷ rest) (length front) ≡ Some event
seam [] event rest = refl
seam (first ∷ front) event rest = seam front event rest

-- it has ended there
ended-there : (o : Option Transaction) (at by_ : ℕ) → IsSomeAnd o (IsStoppedBy at by_) → transaction_state o ≡ standing.Ended at
ended-there None at by_ is = absurd is
ended-there (Some t) at by_ is = ap (λ (e : Option Ending). state_by e (is_started t)) is

-- and this is its answer
answered-there : (o : Option Transaction) (at by_ : ℕ) → IsSomeAnd o (IsStoppedBy at by_) → answer_in o ≡ Some (cause_text None (asked_cause by_))
unfolding cause_text
answered-there None at by_ is = absurd is
answered-there (Some t) at by_ is = ap (λ (e : Option Ending). option_map (ending_text t) e) is

refused-there : (o : Option Transaction) (at by_ : ℕ) → IsSomeAnd o (IsStoppedBy at by_) → is_refused_transaction o ≡ true
refused-there None at by_ is = absurd is
refused-there (Some t) at by_ is = ap is_abort is

same-place : (a b : ℕ) → standing.Ended a ≡ standing.Ended b → a ≡ b
same-place a b e = cc

module _ (book : List Entry) (txn : ℕ) (stopped : WasStopped book txn) where
  abbrev spot : ℕ
  spot = length stopped.front

  pub stopped-gone : transaction_state (numbered (state_of book).transactions txn) ≡ standing.Ended spot
  stopped-gone = ended-there (numbered (state_of book).transactions txn) spot stopped.by stopped.ended

  pub stopped-replied : HasReplied book txn (cause_text None (asked_cause stopped.by)) true (Some spot)
  stopped-replied = record {
    answered = record {
      answer_is = answered-there (numbered (state_of book).transactions txn) spot stopped.by stopped.ended;
      refusal = refused-there (numbered (state_of book).transactions txn) spot stopped.by stopped.ended;
    };
    ended_at = record {
      front = stopped.front;
      event = asking_for stopped.by txn;
      rest = stopped.rest;
      book_is = stopped.book_is;
      ends = refl;
      place = refl;
    };
  }

  cause-there : cause_at book spot ≡ Some (asked_cause stopped.by)
  cause-there =
      ap (λ (b : List Entry). cause_at b spot) stopped.book_is
      ∙ ap (λ (o : Option Entry). option_and_then cause_of_entry o) (seam stopped.front (asking_for stopped.by txn) stopped.rest)

  -- what is told of it is its answer
  told-there : (trail : List TrailItem) (reply : Reply) → book_of trail ≡ book → IsGoneSo trail txn reply
      → reply ≡ record { text = cause_text None (asked_cause stopped.by); refused = true; ended = Some spot }
  told-there trail reply same gone =
      let at : gone.at ≡ spot =
      same-place gone.at spot
      (sym gone.gone ∙ ap (λ (b : List Entry). transaction_state (numbered (state_of b).transactions txn)) same ∙ stopped-gone) in
      gone.told
      ∙ ap (λ (b : List Entry). end_reply (told_at b gone.at)) same
      ∙ ap (λ (n : ℕ). end_reply (told_at book n)) at
      ∙ ap (λ (o : Option Cause). end_reply (told_so spot o)) cause-there

  pub stopped-finished : (trail : List TrailItem) (reply : Reply) → book_of trail ≡ book → IsGoneSo trail txn reply → IsFinishedSo book book txn reply
  stopped-finished trail reply same gone = record {
    added = [];
    book = sym (append-nil book);
    of_it = tt;
    undamaged = tt;
    answered =
        subst (λ (r : Reply). HasReplied book txn r.text r.refused r.ended) (sym (told-there trail reply same gone)) stopped-replied;
    in_order = tt;
  }

-- ---- one that is held hasn't ended

never-both : (o : Option Transaction) (t : Transaction) (at : ℕ) → o ≡ Some t → t.ending ≡ None → transaction_state o ≡ standing.Ended at → ⊥
never-both o t at e none gone =
    let runs : standing.Running (is_started t) ≡ standing.Ended at =
    sym (ap (λ (x : Option Ending). state_by x (is_started t)) none) ∙ sym (ap transaction_state e) ∙ gone in
    cc

pub held-open : (book : List Entry) (paused : Paused) (at : ℕ) → IsTrulyHeld book paused
    → transaction_state (numbered (state_of book).transactions paused.way.txn.0) ≡ standing.Ended at → ⊥
held-open book paused at held gone =
    never-both (numbered (state_of book).transactions paused.way.txn.0) _ at held.held.under_way.here refl gone

-- ---- what is said of its end

module _ {D : Type 0} (told : D → Option Store) (house : ToldHouse D) (paused : Paused) where
  abbrev entries : List Entry
  entries = entries_of house.house

  gone-there : (at : ℕ) → IsGone (trail_in house) paused.way.txn.0 at
      → transaction_state (numbered (state_of entries).transactions paused.way.txn.0) ≡ standing.Ended at
  gone-there at gone =
      ap (λ (b : List Entry). transaction_state (numbered (state_of b).transactions paused.way.txn.0)) (sym (book-is house.house)) ∙ gone

  -- it was stopped, and so it is finished
  pub said-finished : (said : Option Reply) (reply : Reply) → said ≡ Some reply → SaysEnd (trail_in house) paused.way.txn.0 said
      → IsTrulyHeld entries paused ⊎ WasStopped entries paused.way.txn.0 → IsFinishedSo entries entries paused.way.txn.0 reply
  said-finished said reply e says stands = by stands (subst (SaysEnd (trail_in house) paused.way.txn.0) e says)
    where
      by : IsTrulyHeld entries paused ⊎ WasStopped entries paused.way.txn.0 → IsGoneSo (trail_in house) paused.way.txn.0 reply
          → IsFinishedSo entries entries paused.way.txn.0 reply
      by (inl held) gone = absurd (held-open entries paused gone.at held (gone-there gone.at gone.gone))
      by (inr stopped) gone = stopped-finished entries paused.way.txn.0 stopped (trail_in house) reply (book-is house.house) gone

  -- it hasn't ended, and so it is held
  pub unsaid-held : (said : Option Reply) → said ≡ None → SaysEnd (trail_in house) paused.way.txn.0 said
      → IsTrulyHeld entries paused ⊎ WasStopped entries paused.way.txn.0 → IsTrulyHeld entries paused
  unsaid-held said e says stands = by stands (subst (SaysEnd (trail_in house) paused.way.txn.0) e says)
    where
      by : IsTrulyHeld entries paused ⊎ WasStopped entries paused.way.txn.0 → SaysEnd (trail_in house) paused.way.txn.0 None → IsTrulyHeld entries paused
      by (inl held) not = held
      by (inr stopped) not =
          absurd (subst HasNotEnded
          (ap (λ (b : List Entry). transaction_state (numbered (state_of b).transactions paused.way.txn.0)) (book-is house.house)
          ∙ stopped-gone entries paused.way.txn.0 stopped) not)

-- ---- its reply

module _ {D : Type 0} (told : D → Option Store) (faults : D → ℕ) (B : List TrailItem → Type 0) (rows : AreRows B) (meanwhile : ToldHouse D → ToldHouse D → Type 0)
    (paused : Paused) where
  -- nothing was done
  pub said-goes : (own : List ℕ) (house : ToldHouse D) (said : Option Reply) (reply : Reply) → said ≡ Some reply → SaysEnd (trail_in house) paused.way.txn.0 said
      → IsOpenHouse house
      → Goes (among told faults B meanwhile) (faults_in faults house) paused.way.txn.0 (known own house) (known own house) (FinishesSo told house paused)
      (Ok reply)
  said-goes own house said reply e says running = record {
    done = record {
      added = [];
      adds = adds-none faults B rows own house;
      of_it = tt;
      counts = tt;
      is = inr (refl, subst (SaysEnd (trail_in house) paused.way.txn.0) e says);
      running = running;
    };
    halted = tt;
  }

  -- it went on
  went-goes : (low : ℕ) (own own' : List ℕ) (a b : ToldHouse D) (found : Result Done HouseFault)
      → Goes (among told faults B meanwhile) low paused.way.txn.0 (known own a) (known own' b) (Finishes told b paused) found
      → Goes (among told faults B meanwhile) low paused.way.txn.0 (known own a) (known own' b) (FinishesSo told b paused) (replied_of found)
  went-goes low own own' a b (Ok found) goes =
      let gains = goes.done in
      record {
        done = record {
          added = gains.added;
          adds = gains.adds;
          of_it = gains.of_it;
          counts = gains.counts;
          is = inl (found, gains.is, refl);
          running = gains.running;
        };
        halted = tt;
      }
  went-goes low own own' a b (Err why) goes = record { done = tt; halted = goes.halted }

  pub replied-goes : (low : ℕ) (own own' : List ℕ) (a b : ToldHouse D) (found : Result Done HouseFault) (result : Result Reply HouseFault) → result ≡ replied_of found
      → Goes (among told faults B meanwhile) low paused.way.txn.0 (known own a) (known own' b) (Finishes told b paused) found
      → Goes (among told faults B meanwhile) low paused.way.txn.0 (known own a) (known own' b) (FinishesSo told b paused) result
  replied-goes low own own' a b found result e goes =
      subst (Goes (among told faults B meanwhile) low paused.way.txn.0 (known own a) (known own' b) (FinishesSo told b paused)) (sym e)
      (went-goes low own own' a b found goes)

  -- it was asked first
  pub asked-goes : (own own' own'' : List ℕ) (a b c : ToldHouse D) (result : Result Reply HouseFault)
      → AddsOwn faults B paused.way.txn.0 (known own a) (known own' b) []
      → Goes (among told faults B meanwhile) (faults_in faults b) paused.way.txn.0 (known own' b) (known own'' c) (FinishesSo told c paused) result
      → Goes (among told faults B meanwhile) (faults_in faults a) paused.way.txn.0 (known own a) (known own'' c) (FinishesSo told c paused) result
  asked-goes own own' own'' a b c result adds goes =
      goes-on faults B rows told meanwhile (faults_in faults a) (faults_in faults b) paused.way.txn.0 own own' own'' a b c (FinishesSo told c paused)
      (FinishesSo told c paused) result adds.later.count adds (λ reply more is. is) goes

  pub unasked-goes : (own own' : List ℕ) (a b : ToldHouse D) (why : HouseFault) → AddsOwn faults B paused.way.txn.0 (known own a) (known own' b) []
      → HaltsFor told meanwhile paused.way.txn.0 b why
      → Goes (among told faults B meanwhile) (faults_in faults a) paused.way.txn.0 (known own a) (known own' b) (FinishesSo told b paused) (Err why)
  unasked-goes own own' a b why adds halts =
      record { done = tt; halted = halts-none faults B rows told meanwhile paused.way.txn.0 own own' a b why adds halts }

pub said-truly : {D : Type 0} (house : ToldHouse D) (txn : ℕ) (said : Option Reply) (reply : Reply) → said ≡ Some reply → SaysEnd (trail_in house) txn said
    → RepliesTruly txn house reply
said-truly house txn said reply e says = inr (subst (SaysEnd (trail_in house) txn) e says)

replies-truly : {D : Type 0} (txn : ℕ) (now : ToldHouse D) (found : Result Done HouseFault) → IfOk found (AnswersTruly txn now)
    → IfOk (replied_of found) (RepliesTruly txn now)
replies-truly txn now (Ok (done.Replied reply)) answered = inl answered
replies-truly txn now (Ok (done.Gone reply)) answered = inr answered
replies-truly txn now (Err why) answered = tt

pub replied-truly : {D : Type 0} (txn : ℕ) (now : ToldHouse D) (found : Result Done HouseFault) (result : Result Reply HouseFault) → result ≡ replied_of found
    → IfOk found (AnswersTruly txn now) → IfOk result (RepliesTruly txn now)
replied-truly txn now found result e answered =
    subst (λ (r : Result Reply HouseFault). IfOk r (RepliesTruly txn now)) (sym e) (replies-truly txn now found answered)

-- ---- where others do nothing

finishes-so : (before now : List Entry) (txn : ℕ) (found : Result Done HouseFault) → IfOk found (IsFinishedAs before now txn)
    → IfOk (replied_of found) (IsFinishedSo before now txn)
finishes-so before now txn (Ok (done.Replied reply)) is = is
finishes-so before now txn (Ok (done.Gone reply)) is = absurd is
finishes-so before now txn (Err why) is = tt

pub replied-finished : (before now : List Entry) (txn : ℕ) (found : Result Done HouseFault) (result : Result Reply HouseFault) → result ≡ replied_of found
    → IfOk found (IsFinishedAs before now txn) → IfOk result (IsFinishedSo before now txn)
replied-finished before now txn found result e is =
    subst (λ (r : Result Reply HouseFault). IfOk r (IsFinishedSo before now txn)) (sym e) (finishes-so before now txn found is)

pub held-some : (book : List Entry) (paused : Paused) → IsTrulyHeld book paused → IsHeldBySome book paused
held-some book paused held = (held.asking, held.held)

module _ {D : Type 0} (told : D → Option Store) (faults : D → ℕ) (B : List TrailItem → Type 0) (rows : AreRows B) (meanwhile : ToldHouse D → ToldHouse D → Type 0)
    (alone : ActsAlone B meanwhile) (paused : Paused) where
  abbrev Stands : List Entry → Type 0
  Stands book = IsTrulyHeld book paused ⊎ WasStopped book paused.way.txn.0

  -- an act that asks changes nothing of the book
  pub asked-alone : (own own' own'' : List ℕ) (a b c : ToldHouse D) (result : Result Reply HouseFault) → IsOpenHouse a → IsWholeOrClosed told c.house
      → AddsOwn faults B paused.way.txn.0 (known own a) (known own' b) []
      → Goes (among told faults B meanwhile) (faults_in faults a) paused.way.txn.0 (known own a) (known own'' c) (FinishesSo told c paused) result
      → (IsToldHouse told b.house → Stands (entries_of b.house) → IfOk result (IsFinishedSo (entries_of b.house) (entries_of c.house) paused.way.txn.0))
      → (IsToldHouse told a.house → Stands (entries_of a.house)) → FinishesAlone told faults paused.way.txn.0 a.house c.house result
  asked-alone own own' own'' a b c result running kept adds goes finished stands =
      let gained : HasGained faults a b [] = adds-alone faults B alone.nothing own own' a b [] adds in
      let same : entries_of b.house ≡ entries_of a.house = gained.book ∙ append-nil (entries_of a.house) in
      record {
        part = parts-alone told faults B alone.nothing meanwhile alone.alone Reply paused.way.txn.0 own own'' a c (FinishesSo told c paused) result running kept goes;
        truly = λ is.
            subst (λ (book : List Entry). IfOk result (IsFinishedSo book (entries_of c.house) paused.way.txn.0)) same
            (finished (told-later faults B rows told own own' a b [] adds is) (subst Stands (sym same) (stands is)));
      }

  -- the run stopped where it was asked
  pub unasked-alone : (own own' : List ℕ) (a b : ToldHouse D) (why : HouseFault) → IsOpenHouse a → IsWholeOrClosed told b.house
      → Goes (among told faults B meanwhile) (faults_in faults a) paused.way.txn.0 (known own a) (known own' b) (FinishesSo told b paused) (Err why)
      → FinishesAlone told faults paused.way.txn.0 a.house b.house (Err why)
  unasked-alone own own' a b why running kept goes = record {
    part =
        parts-alone told faults B alone.nothing meanwhile alone.alone Reply paused.way.txn.0 own own' a b (FinishesSo told b paused) (Err why) running kept goes;
    truly = λ is. tt;
  }
