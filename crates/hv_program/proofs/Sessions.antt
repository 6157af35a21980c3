-- What is promised of a statement over a house on which nobody else acts.
use Rattle.std.proofs.Common.{◌≡◌, inl, inr, ℕ, Option, Some, None, Result, Ok, Err, IfOk, IfErr, List, [], ◌∷◌, ◌++◌, sym, ap, ◌∙◌, subst}
use Rattle.hv_shelf.specs.Disk.{Store}
use Rattle.hv_history.specs.declared.entry.Entry.{Entry}
use Rattle.hv_trail.specs.declared.trail.TrailItem.{TrailItem}
use Rattle.hv_stands.specs.Running.{Asking, next_number}
use Rattle.hv_actor.specs.Acting.{IsLater, Nothing, Untouched, among, known}
use Rattle.hv_session.specs.hv_beginning.specs.hv_steps.specs.hv_table_reader.specs.hv_acts.specs.hv_telling.specs.hv_house.specs.declared.fault.HouseFault.{HouseFault}
use Rattle.hv_session.specs.hv_beginning.specs.hv_steps.specs.hv_table_reader.specs.hv_acts.specs.hv_telling.specs.hv_house.specs.declared.fault.HouseFault.TheVariants as fault
use Rattle.hv_session.specs.hv_beginning.specs.hv_steps.specs.hv_table_reader.specs.hv_acts.specs.hv_telling.specs.hv_house.specs.declared.house.House.{House}
use Rattle.hv_session.specs.hv_beginning.specs.hv_steps.specs.hv_table_reader.specs.hv_acts.specs.hv_telling.specs.hv_house.specs.House.{entries_of}
use Rattle.hv_session.specs.hv_beginning.specs.hv_steps.specs.hv_table_reader.specs.hv_acts.specs.hv_telling.specs.hv_house.specs.Housed.{ShutsHard}
use Rattle.hv_session.specs.hv_beginning.specs.hv_steps.specs.hv_table_reader.specs.hv_acts.specs.hv_telling.specs.Telling.{IsWhole}
use Rattle.hv_session.specs.hv_beginning.specs.hv_steps.specs.hv_table_reader.specs.hv_acts.specs.hv_telling.proofs.Opens.{whole-opens}
use Rattle.hv_session.specs.hv_beginning.specs.hv_steps.specs.hv_table_reader.specs.hv_acts.specs.declared.told.ToldHouse.{ToldHouse}
use Rattle.hv_session.specs.hv_beginning.specs.hv_steps.specs.hv_table_reader.specs.hv_acts.specs.Told.{IsWholeOrClosed, seen_in}
use Rattle.hv_session.specs.hv_beginning.specs.hv_steps.specs.declared.ready.Reply.{Reply}
use Rattle.hv_session.specs.declared.paused.Paused.{Paused}
use Rattle.hv_session.specs.declared.paused.Taken.{Taken}
use Rattle.hv_session.specs.declared.paused.Taken.TheVariants as taken
use Rattle.hv_session.specs.hv_beginning.specs.hv_steps.specs.Ending.{AddsOf}
use Rattle.hv_session.specs.hv_beginning.specs.hv_steps.specs.Going.{IsShutHouse, HaltsFor, Halts, Gains, GainsSome}
use Rattle.hv_session.specs.hv_beginning.specs.hv_steps.specs.Phases.{HaltsBeginning}
use Rattle.hv_session.specs.Doing.{CanFinish, CanFinishTaken}
use Rattle.hv_session.specs.Ways.{ActsAlone, IsDone, IsPart, IsTaking}
use Rattle.hv_session.proofs.Lastings.{later-finishes}
use Rattle.hv_session.proofs.AloneStops.{never-between}
use Rattle.hv_program.specs.declared.held.Held.{Held}
use Rattle.hv_program.specs.Keeping.{paused_in, held_without, CanFinishHeld, CanAllFinish}
use Rattle.hv_program.specs.Stops.{IsShutFor}
use Rattle.hv_program.proofs.HeldLists.{none-left, all-without, all-found, all-last, all-map}

-- ---- nobody else acts

pub acts-alone : {D : Type 0} → ActsAlone {D = D} Nothing Untouched
acts-alone = record { nothing = λ xs none. none; alone = λ before now same. same }

-- a whole house is as acts keep it
whole-keeps : {D : Type 0} (told : D → Option Store) (house : House D) → IsWhole told house → IsWholeOrClosed told house
whole-keeps told house whole = record { whole = λ _. whole; opens = whole-opens told house whole }

pub is-kept : {D : Type 0} (told : D → Option Store) (hard : D → ℕ) (house : ToldHouse D) → IsWhole told house.house → ShutsHard hard (seen_in house)
    → IsWholeOrClosed told house.house × ShutsHard hard (seen_in house)
is-kept told hard house whole shuts = (whole-keeps told house.house whole, shuts)

pub shuts-kept : {D : Type 0} (told : D → Option Store) (hard : D → ℕ) (house : ToldHouse D) → (IsWholeOrClosed told house.house × ShutsHard hard (seen_in house))
    → ShutsHard hard (seen_in house)
shuts-kept told hard house kept = kept.1

-- what is true of a house is so of the same one among acts
pub again : {D : Type 0} (house told : House D) → told ≡ house → (P : House D → Type 0) → P house → P told
again house told same P p = subst P (sym same) p

pub ok-map : {T : Type 0} (r : Result T HouseFault) (P Q : T → Type 0) → ((x : T) → P x → Q x) → IfOk r P → IfOk r Q
ok-map (Ok x) P Q f p = f x p
ok-map (Err why) P Q f p = tt

-- ---- one that was taken up

module _ {D : Type 0} (told : D → Option Store) (faults : D → ℕ) (asking : Asking) (before now : House D) (r : Result Taken HouseFault)
    (taking : IsTaking told faults asking before now r) where
  pub taking-whole : IfOk r (λ _. IsWhole told now)
  taking-whole = ok-map r (λ _. IsDone told faults (next_number (entries_of before)) before now) (λ _. IsWhole told now) (λ x is. is.whole) taking.done

  pub taking-added : IfOk r (λ _. AddsOf (next_number (entries_of before)) (faults before.shelf) (faults now.shelf) (entries_of before) (entries_of now))
  taking-added =
      ok-map r (λ _. IsDone told faults (next_number (entries_of before)) before now)
      (λ _. AddsOf (next_number (entries_of before)) (faults before.shelf) (faults now.shelf) (entries_of before) (entries_of now)) (λ x is. is.added) taking.done

pub taking-later : {D : Type 0} (faults : D → ℕ) (between : List TrailItem → Type 0) (low : ℕ) (own own' : List ℕ) (before now : ToldHouse D) (r : Result Taken HouseFault)
    (Is : Taken → List Entry → Type 0) → IfOk r (λ answer. GainsSome faults between low (known own before) (known own' now) (Is answer))
    → IfOk r (λ _. IsLater faults (seen_in before) (seen_in now))
taking-later faults between low own own' before now r Is gains =
    ok-map r (λ answer. GainsSome faults between low (known own before) (known own' now) (Is answer)) (λ _. IsLater faults (seen_in before) (seen_in now))
    (λ answer is. is.1.adds.later) gains

-- ---- one that was finished

module _ {D : Type 0} (told : D → Option Store) (faults : D → ℕ) (txn : ℕ) (before now : House D) (r : Result Reply HouseFault) (part : IsPart told faults txn before now r) where
  pub finishing-whole : IfOk r (λ _. IsWhole told now)
  finishing-whole = ok-map r (λ _. IsDone told faults txn before now) (λ _. IsWhole told now) (λ x is. is.whole) part.done

  pub finishing-added : IfOk r (λ _. AddsOf txn (faults before.shelf) (faults now.shelf) (entries_of before) (entries_of now))
  finishing-added =
      ok-map r (λ _. IsDone told faults txn before now) (λ _. AddsOf txn (faults before.shelf) (faults now.shelf) (entries_of before) (entries_of now))
      (λ x is. is.added) part.done

pub finishing-later : {D : Type 0} (faults : D → ℕ) (between : List TrailItem → Type 0) (low txn : ℕ) (own own' : List ℕ) (before now : ToldHouse D)
    (r : Result Reply HouseFault) (Is : Reply → List Entry → Type 0) → IfOk r
    (λ reply. Gains faults between low txn (known own before) (known own' now) (Is reply))
    → IfOk r (λ _. IsLater faults (seen_in before) (seen_in now))
finishing-later faults between low txn own own' before now r Is gains =
    ok-map r (λ reply. Gains faults between low txn (known own before) (known own' now) (Is reply)) (λ _. IsLater faults (seen_in before) (seen_in now))
    (λ reply is. is.adds.later) gains

-- ---- where the store failed the house is closed

halted-shut : {D : Type 0} (told : D → Option Store) (txn : ℕ) (now : ToldHouse D) → HaltsFor told Untouched txn now fault.Store → IsShutHouse now
halted-shut told txn now (inl between) = absurd (never-between Untouched (λ before found same. same) between)
halted-shut told txn now (inr shut) = shut.is

pub taking-shut : {D : Type 0} (told : D → Option Store) (faults : D → ℕ) (asking : Asking) (own own' : List ℕ) (before now : ToldHouse D) (r : Result Taken HouseFault)
    → IfErr r (HaltsBeginning (among told faults Nothing Untouched) asking (known own before) (known own' now)) → IfErr r (IsShutFor now)
taking-shut told faults asking own own' before now (Ok found) halts = tt
taking-shut told faults asking own own' before now (Err fault.Store) (inl halts) = halted-shut told halts.0 now halts.2.stop.halts
taking-shut told faults asking own own' before now (Err fault.Store) (inr (inl shut)) = shut.2.is
taking-shut told faults asking own own' before now (Err fault.Store) (inr (inr shut)) = shut.2.is
taking-shut told faults asking own own' before now (Err fault.NoMemory) halts = tt
taking-shut told faults asking own own' before now (Err (fault.Failed count)) halts = tt

pub finishing-shut : {D : Type 0} (told : D → Option Store) (faults : D → ℕ) (txn : ℕ) (own own' : List ℕ) (before now : ToldHouse D) (r : Result Reply HouseFault)
    → IfErr r (Halts (among told faults Nothing Untouched) txn (known own before) (known own' now)) → IfErr r (IsShutFor now)
finishing-shut told faults txn own own' before now (Ok reply) halts = tt
finishing-shut told faults txn own own' before now (Err fault.Store) halts = halted-shut told txn now halts.halts
finishing-shut told faults txn own own' before now (Err fault.NoMemory) halts = tt
finishing-shut told faults txn own own' before now (Err (fault.Failed count)) halts = tt

-- ---- those that are held can be finished still

module _ {D : Type 0} (told : D → Option Store) (faults : D → ℕ) (before now : ToldHouse D) where
  pub later-can : IsLater faults (seen_in before) (seen_in now) → (helds : List Held) → CanAllFinish told before helds → CanAllFinish told now helds
  later-can later helds can =
      all-map (CanFinishHeld told before) (CanFinishHeld told now) helds (λ held is. later-finishes told faults before now later held.paused is) can

  pub replied-can : (helds helds' : List Held) → helds' ≡ helds → IsLater faults (seen_in before) (seen_in now) → CanAllFinish told before helds
      → CanAllFinish told now helds'
  replied-can helds helds' same later can = subst (CanAllFinish told now) (sym same) (later-can later helds can)

  pub kept-can : (helds helds' helds'' : List Held) (held : Held) (found : Taken) → helds' ≡ helds → helds'' ≡ helds' ++ held ∷ [] → found ≡ taken.Kept held.paused
      → IsLater faults (seen_in before) (seen_in now) → CanFinishTaken told now found → CanAllFinish told before helds → CanAllFinish told now helds''
  kept-can helds helds' helds'' held found same one is later taken_can can =
      subst (CanAllFinish told now) (sym (one ∙ ap (λ (hs : List Held). hs ++ held ∷ []) same))
      (all-last (CanFinishHeld told now) helds held (later-can later helds can) (subst (CanFinishTaken told now) is taken_can))

  pub released-can : {T : Type 0} (r : Result T HouseFault) (helds helds' : List Held) (name : List ℕ) → helds' ≡ held_without name helds
      → IfOk r (λ _. IsLater faults (seen_in before) (seen_in now)) → CanAllFinish told before helds → IfOk r (λ _. CanAllFinish told now helds')
  released-can r helds helds' name left later can =
      ok-map r (λ _. IsLater faults (seen_in before) (seen_in now)) (λ _. CanAllFinish told now helds')
      (λ x is.
      subst (CanAllFinish told now) (sym left)
      (later-can is (held_without name helds) (all-without (CanFinishHeld told before) name helds can)))
      later

pub let-go-can : {D : Type 0} (told : D → Option Store) (house : ToldHouse D) (name : List ℕ) (helds : List Held) (paused : Paused)
    → CanAllFinish told house helds → paused_in name helds ≡ Some paused → CanFinish told house paused
let-go-can told house name helds paused can found = all-found (CanFinish told house) name helds paused can found

pub none-can : {D : Type 0} (told : D → Option Store) (house : ToldHouse D) (helds helds' : List Held) (name : List ℕ) → paused_in name helds ≡ None
    → helds' ≡ held_without name helds → CanAllFinish told house helds → CanAllFinish told house helds'
none-can told house helds helds' name none left can = subst (CanAllFinish told house) (sym (left ∙ none-left name helds none)) can
