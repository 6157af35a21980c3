-- Entries of compactions and of cleaning are nobody's: they leave each statement that is held as it is.
use Rattle.std.proofs.Common.{◌≡◌, ◌⊎◌, ℕ, Bool, false, Option, Some, None, Result, Ok, Err, IfOk, IfErr, inl, inr, List, [], ◌∷◌, fold, refl, sym, ap, ◌∙◌, subst}
use Rattle.std.specs.List.{AllByRecursion}
use Rattle.hv_shelf.specs.Disk.{Store}
use Rattle.hv_history.specs.declared.entry.Entry.{Entry}
use Rattle.hv_history.specs.declared.entry.Entry.TheVariants as entry
use Rattle.hv_history.specs.declared.entry.JobCause.{JobCause}
use Rattle.hv_history.specs.declared.entry.JobCause.TheVariants as job_cause
use Rattle.hv_history.specs.State.{State, Openings, after, failing, state_of}
use Rattle.hv_script.specs.declared.actions.Action.{Action}
use Rattle.hv_script.specs.declared.actions.Action.TheVariants as action
use Rattle.hv_actor.specs.Acting.{IsLater}
use Rattle.hv_stands.specs.Running.{owner_of, AreNotOf}
use Rattle.hv_stands.specs.Statements.{AllFitting}
use Rattle.hv_session.specs.hv_beginning.specs.hv_steps.specs.hv_table_reader.specs.hv_acts.specs.hv_telling.specs.hv_house.specs.declared.fault.HouseFault.{HouseFault}
use Rattle.hv_session.specs.hv_beginning.specs.hv_steps.specs.hv_table_reader.specs.hv_acts.specs.hv_telling.specs.hv_house.specs.declared.house.House.{House}
use Rattle.hv_session.specs.hv_beginning.specs.hv_steps.specs.hv_table_reader.specs.hv_acts.specs.hv_telling.specs.hv_house.specs.Faults.{FileCause}
use Rattle.hv_session.specs.hv_beginning.specs.hv_steps.specs.hv_table_reader.specs.hv_acts.specs.hv_telling.specs.hv_house.specs.House.{entries_of}
use Rattle.hv_session.specs.hv_beginning.specs.hv_steps.specs.hv_table_reader.specs.hv_acts.specs.hv_telling.specs.Telling.{IsWhole, IsToldHouse}
use Rattle.hv_session.specs.hv_beginning.specs.hv_steps.specs.hv_table_reader.specs.hv_acts.specs.hv_telling.proofs.Told.{told-stays}
use Rattle.hv_session.specs.hv_beginning.specs.hv_steps.specs.hv_table_reader.specs.hv_acts.specs.declared.told.ToldHouse.{ToldHouse}
use Rattle.hv_session.specs.hv_beginning.specs.hv_steps.specs.hv_table_reader.specs.hv_acts.specs.Told.{seen_in}
use Rattle.hv_session.specs.hv_beginning.specs.hv_steps.specs.declared.ready.Reply.{Reply}
use Rattle.hv_program.specs.declared.held.Held.{Held}
use Rattle.hv_program.specs.Change.{from_to}
use Rattle.hv_program.specs.Background.{IsCompacting, IsCleaning, Compacts, Cleans}
use Rattle.hv_program.specs.Beside.{quietly, AddsBeside, StopsBeside}
use Rattle.hv_program.specs.Doing.{IsDone, DoneBeside}
use Rattle.hv_program.specs.Own.{IsOfRun, Grows}
use Rattle.hv_program.specs.Keeping.{IsHeldIn, standing_of, AreHeld, IsTrulyHeldIn, AreTrulyHeld, CanAllFinish}
use Rattle.hv_program.specs.Running.{Acts, Stops}
use Rattle.hv_program.proofs.HeldStay.{all-unmoved, all-unmoved-truly}
use Rattle.hv_program.proofs.OwnEntries.{state-of}
use Rattle.hv_program.proofs.Sessions.{later-can}

-- ---- one entry

failing-unlost : (why : JobCause) (openings : Openings) → (failing why openings).only_lost ≡ false
failing-unlost (job_cause.ReadFault count) openings = refl
failing-unlost (job_cause.WriteFault count) openings = refl
failing-unlost other openings = refl

-- nobody's, none that keeps anything of a run, and none behind which a transaction is lost
record IsNobodys (event : Entry) : Type 0 where
  unowned : owner_of event ≡ None
  of_run : (low high : ℕ) → IsOfRun low high event
  unlost : (s : State) → (after s event).openings.only_lost ≡ false

compacting-one : (event : Entry) → IsCompacting event → IsNobodys event
compacting-one (entry.Asked job table partition kind by_) is =
    record { unowned = refl; of_run = λ low high. record { counted = tt; undamaged = tt; unlost = tt }; unlost = λ s. refl }
compacting-one (entry.Picked job watermark) is =
    record { unowned = refl; of_run = λ low high. record { counted = tt; undamaged = tt; unlost = tt }; unlost = λ s. refl }
compacting-one (entry.Published job low_ high_ mark) is =
    record { unowned = refl; of_run = λ low high. record { counted = tt; undamaged = tt; unlost = tt }; unlost = λ s. refl }
compacting-one (entry.Empty job) is =
    record { unowned = refl; of_run = λ low high. record { counted = tt; undamaged = tt; unlost = tt }; unlost = λ s. refl }
compacting-one (entry.Failed job why) is = record {
  unowned = refl;
  of_run = λ low high. record { counted = tt; undamaged = tt; unlost = tt };
  unlost = λ s. failing-unlost why s.openings;
}
compacting-one event is = absurd is

cleaning-one : (event : Entry) → IsCleaning event → IsNobodys event
cleaning-one (entry.Cleaned job) is =
    record { unowned = refl; of_run = λ low high. record { counted = tt; undamaged = tt; unlost = tt }; unlost = λ s. refl }
cleaning-one (entry.Forgot table write) is =
    record { unowned = refl; of_run = λ low high. record { counted = tt; undamaged = tt; unlost = tt }; unlost = λ s. refl }
cleaning-one event is = absurd is

-- behind it no transaction is lost
pub compacting-unlost : (s : State) (event : Entry) → IsCompacting event → (after s event).openings.only_lost ≡ false
compacting-unlost s event is = (compacting-one event is).unlost s

pub cleaning-unlost : (s : State) (event : Entry) → IsCleaning event → (after s event).openings.only_lost ≡ false
cleaning-unlost s event is = (cleaning-one event is).unlost s

-- ---- several

not-owned : (txn : ℕ) (owner : Option ℕ) → owner ≡ None → owner ≡ Some txn → ⊥
not-owned txn owner none some = let wrong : None ≡ Some txn = sym none ∙ some in cc

module _ (Of : Entry → Type 0) (one : (event : Entry) → Of event → IsNobodys event) where
  none-of-it : (txn : ℕ) (events : List Entry) → AllByRecursion Of events → AreNotOf txn events
  none-of-it txn [] all = tt
  none-of-it txn (event ∷ events) all = (not-owned txn (owner_of event) (one event all.0).unowned, none-of-it txn events all.1)

  all-of-run : (low high : ℕ) (events : List Entry) → AllByRecursion Of events → AllByRecursion (IsOfRun low high) events
  all-of-run low high [] all = tt
  all-of-run low high (event ∷ events) all = ((one event all.0).of_run low high, all-of-run low high events all.1)

  all-unlost : (s : State) (events : List Entry) → s.openings.only_lost ≡ false → AllByRecursion Of events
      → (fold after s events).openings.only_lost ≡ false
  all-unlost s [] e all = e
  all-unlost s (event ∷ events) e all = all-unlost (after s event) events ((one event all.0).unlost s) all.1

  -- ---- those that are held

  still-begun : (before now : List Entry) (helds : List Held) → AddsBeside Of before now
      → (helds ≡ []) ⊎ ((state_of before).openings.only_lost ≡ false) → (helds ≡ []) ⊎ ((state_of now).openings.only_lost ≡ false)
  still-begun before now helds adds (inl none) = inl none
  still-begun before now helds adds (inr unlost) =
      inr (ap (λ (s : State). s.openings.only_lost) (state-of before adds.added now adds.book) ∙ all-unlost (state_of before) adds.added unlost adds.of_it)

  still-held : (before now : List Entry) (helds : List Held) → AllFitting now → AddsBeside Of before now → AreHeld before helds → AreHeld now helds
  still-held before now helds fit adds h = record {
    each = subst (λ (book : List Entry). AllByRecursion (IsHeldIn book) helds) (sym adds.book)
        (all-unmoved before adds.added helds (subst AllFitting adds.book fit) (λ txn. none-of-it txn adds.added adds.of_it) h.each);
    apart = h.apart;
    begun = still-begun before now helds adds h.begun;
  }

  still-truly : (before now : List Entry) (helds : List Held) → AllFitting now → AddsBeside Of before now
      → AllByRecursion (IsTrulyHeldIn before) helds → AllByRecursion (IsTrulyHeldIn now) helds
  still-truly before now helds fit adds truly =
      subst (λ (book : List Entry). AllByRecursion (IsTrulyHeldIn book) helds) (sym adds.book)
      (all-unmoved-truly before adds.added helds (subst AllFitting adds.book fit) (λ txn. none-of-it txn adds.added adds.of_it) truly)

  beside-grows : (low high : ℕ) (before now : List Entry) → AddsBeside Of before now → Grows low high before now
  beside-grows low high before now adds =
      record { more = adds.added; book_is = adds.book; of_run = all-of-run low high adds.added adds.of_it }

-- ---- the reply

quiet-ok : (r : Result (Unit {0}) HouseFault) (q : Result Reply HouseFault) (P : List ℕ → Bool → Type 0) → q ≡ quietly r
    → IfOk r (λ _. P [] false) → IfOk q (λ reply. P reply.text reply.refused)
quiet-ok r q P same p = subst (λ (x : Result Reply HouseFault). IfOk x (λ reply. P reply.text reply.refused)) (sym same) (by r p)
  where
    by : (x : Result (Unit {0}) HouseFault) → IfOk x (λ _. P [] false) → IfOk (quietly x) (λ reply. P reply.text reply.refused)
    by (Ok done) is = is
    by (Err why) is = tt

pub quiet-err : (r : Result (Unit {0}) HouseFault) (q : Result Reply HouseFault) (P : HouseFault → Type 0) → q ≡ quietly r → IfErr r P → IfErr q P
quiet-err r q P same p = subst (λ (x : Result Reply HouseFault). IfErr x P) (sym same) (by r p)
  where
    by : (x : Result (Unit {0}) HouseFault) → IfErr x P → IfErr (quietly x) P
    by (Ok done) is = tt
    by (Err why) is = is

pub quiet-cause : (faults faults' : ℕ) (r : Result (Unit {0}) HouseFault) (q : Result Reply HouseFault) → q ≡ quietly r
    → FileCause faults faults' r → FileCause faults faults' q
quiet-cause faults faults' r q same cause =
    record { later = cause.later; failed = quiet-err r q _ same cause.failed }

-- ---- a pass of the script

ok-two : (r : Result (Unit {0}) HouseFault) (P Q R : Type 0) → (P → Q → R) → IfOk r (λ _. P) → IfOk r (λ _. Q) → IfOk r (λ _. R)
ok-two (Ok done) P Q R f p q = f p q
ok-two (Err why) P Q R f p q = tt

ok-one : (r : Result (Unit {0}) HouseFault) (P R : Type 0) → (P → R) → IfOk r (λ _. P) → IfOk r (λ _. R)
ok-one (Ok done) P R f p = f p
ok-one (Err why) P R f p = tt

err-one : (r : Result (Unit {0}) HouseFault) (P R : HouseFault → Type 0) → ((why : HouseFault) → P why → R why) → IfErr r P → IfErr r R
err-one (Ok done) P R f p = tt
err-one (Err why) P R f p = f why p

pub quiet-fact : (r : Result (Unit {0}) HouseFault) (q : Result Reply HouseFault) (P : Type 0) → q ≡ quietly r → IfOk r (λ _. P) → IfOk q (λ _. P)
quiet-fact r q P same p = quiet-ok r q (λ text refused. P) same p

module _ {D : Type 0} (told : D → Option Store) (before now : House D) (helds : List Held) (r : Result (Unit {0}) HouseFault) (q : Result Reply HouseFault)
    (same : q ≡ quietly r) (whole : IfOk r (λ _. IsWhole told now)) where
  module _ (Of : Entry → Type 0) (one : (event : Entry) → Of event → IsNobodys event) (adds : IfOk r (λ _. AddsBeside Of (entries_of before) (entries_of now))) where
    held-by : AreHeld (entries_of before) helds → IfOk q (λ _. AreHeld (entries_of now) helds)
    held-by h =
        quiet-fact r q (AreHeld (entries_of now) helds) same
        (ok-two r (IsWhole told now) (AddsBeside Of (entries_of before) (entries_of now)) (AreHeld (entries_of now) helds)
        (λ is added. still-held Of one (entries_of before) (entries_of now) helds is.ready.fit added h) whole adds)

    truly-by : now.start ≡ before.start → AreTrulyHeld told before helds → IfOk q (λ _. AreTrulyHeld told now helds)
    truly-by start truly =
        quiet-fact r q (AreTrulyHeld told now helds) same
        (ok-two r (IsWhole told now) (AddsBeside Of (entries_of before) (entries_of now)) (AreTrulyHeld told now helds)
        (λ is added told_now.
        still-truly Of one (entries_of before) (entries_of now) helds is.ready.fit added (truly (told-stays told now before (sym start) told_now))) whole adds)

    acts-by : (low high : ℕ) (act : Action) (Adds : List Entry → List Entry → Type 0)
        → ((start : List Entry) → DoneBeside Of Adds (standing_of before helds) (standing_of now helds) [] false
        → IsDone (from_to start (entries_of now)) (standing_of before helds) (standing_of now helds) act [] false)
        → IfOk r (λ _. Adds (entries_of before) (entries_of now))
        → IfOk q (λ reply. Acts (from_to low high) (standing_of before helds) (standing_of now helds) act reply.text reply.refused)
    acts-by low high act Adds is_done done =
        quiet-ok r q (Acts (from_to low high) (standing_of before helds) (standing_of now helds) act) same
        (ok-two r (AddsBeside Of (entries_of before) (entries_of now)) (Adds (entries_of before) (entries_of now))
        (Acts (from_to low high) (standing_of before helds) (standing_of now helds) act [] false)
        (λ added does. record {
          grows = beside-grows Of one low high (entries_of before) (entries_of now) added;
          done = λ start behind. is_done start (record { beside = added; adds = does; waiting_same = refl; nothing = refl; accepted = refl });
        })
        adds done)

  -- ---- by its kind

  module _ (adds : IfOk r (λ _. AddsBeside IsCompacting (entries_of before) (entries_of now))) where
    pub compact-held : AreHeld (entries_of before) helds → IfOk q (λ _. AreHeld (entries_of now) helds)
    compact-held = held-by IsCompacting compacting-one adds

    pub compact-truly : now.start ≡ before.start → AreTrulyHeld told before helds → IfOk q (λ _. AreTrulyHeld told now helds)
    compact-truly = truly-by IsCompacting compacting-one adds

    pub compact-acts : (low high : ℕ) → IfOk r (λ _. Compacts (entries_of before) (entries_of now))
        → IfOk q (λ reply. Acts (from_to low high) (standing_of before helds) (standing_of now helds) action.Compact reply.text reply.refused)
    compact-acts low high = acts-by IsCompacting compacting-one adds low high action.Compact Compacts (λ start is. is)

  module _ (adds : IfOk r (λ _. AddsBeside IsCleaning (entries_of before) (entries_of now))) where
    pub clean-held : AreHeld (entries_of before) helds → IfOk q (λ _. AreHeld (entries_of now) helds)
    clean-held = held-by IsCleaning cleaning-one adds

    pub clean-truly : now.start ≡ before.start → AreTrulyHeld told before helds → IfOk q (λ _. AreTrulyHeld told now helds)
    clean-truly = truly-by IsCleaning cleaning-one adds

    pub clean-acts : (low high : ℕ) → IfOk r (λ _. Cleans (entries_of before) (entries_of now))
        → IfOk q (λ reply. Acts (from_to low high) (standing_of before helds) (standing_of now helds) action.Clean reply.text reply.refused)
    clean-acts low high = acts-by IsCleaning cleaning-one adds low high action.Clean Cleans (λ start is. is)

-- those that are held can be finished still
pub quiet-can : {D : Type 0} (told : D → Option Store) (faults : D → ℕ) (before now : ToldHouse D) (helds : List Held) (r : Result (Unit {0}) HouseFault)
    (q : Result Reply HouseFault) → q ≡ quietly r → IfOk r (λ _. IsLater faults (seen_in before) (seen_in now)) → CanAllFinish told before helds
    → IfOk q (λ _. CanAllFinish told now helds)
quiet-can told faults before now helds r q same later can =
    quiet-fact r q (CanAllFinish told now helds) same
    (ok-one r (IsLater faults (seen_in before) (seen_in now)) (CanAllFinish told now helds) (λ is. later-can told faults before now is helds can) later)

-- ---- the run stops in it

module _ {D : Type 0} (told : D → Option Store) (before now : House D) (helds : List Held) (r : Result (Unit {0}) HouseFault) (q : Result Reply HouseFault)
    (same : q ≡ quietly r) where
  pub compact-stops : IfErr r (λ why. StopsBeside told IsCompacting why before now)
      → IfErr q (λ why. Stops (IsToldHouse told before) why (told now.shelf) (standing_of before helds) action.Compact (entries_of now))
  compact-stops stops =
      quiet-err r q (λ why. Stops (IsToldHouse told before) why (told now.shelf) (standing_of before helds) action.Compact (entries_of now)) same
      (err-one r (λ why. StopsBeside told IsCompacting why before now)
      (λ why. Stops (IsToldHouse told before) why (told now.shelf) (standing_of before helds) action.Compact (entries_of now))
      (λ why s. record {
        halfway = record { added = s.added; book = s.book; of_it = inr s.of_it; fits = s.fits; legal = s.legal; unended = tt; opens = tt };
        leaves = (s.further, inr (record { each = s.further_of_it; few = s.few }), s.leaves);
      })
      stops)

  pub clean-stops : IfErr r (λ why. StopsBeside told IsCleaning why before now)
      → IfErr q (λ why. Stops (IsToldHouse told before) why (told now.shelf) (standing_of before helds) action.Clean (entries_of now))
  clean-stops stops =
      quiet-err r q (λ why. Stops (IsToldHouse told before) why (told now.shelf) (standing_of before helds) action.Clean (entries_of now)) same
      (err-one r (λ why. StopsBeside told IsCleaning why before now)
      (λ why. Stops (IsToldHouse told before) why (told now.shelf) (standing_of before helds) action.Clean (entries_of now))
      (λ why s. record {
        halfway = record { added = s.added; book = s.book; of_it = inr s.of_it; fits = s.fits; legal = s.legal; unended = tt; opens = tt };
        leaves = (s.further, inr (record { each = s.further_of_it; few = s.few }), s.leaves);
      })
      stops)
