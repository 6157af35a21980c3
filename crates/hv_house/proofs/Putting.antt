-- What a call that puts a file is as a step.
use Rattle.std.proofs.Common.{◌≡◌, ◌<◌, ◌≤◌, inl, inr, ℕ, ◌-◌, ◌^◌, nat_lt, Bool, true, false, true≢false, Option, Some, None, Result, Ok, Err, List, refl, sym, ap, ◌∙◌, subst, arith, IsErrOf}
use Rattle.std.specs.Prelude.{if◌then◌else◌, Contains, OnOk}
use Rattle.std.proofs.lemmas.Bool.{ltb-true}
use Rattle.hv_base.specs.declared.ids.Limits.{Limits}
use Rattle.hv_base.specs.Told.{Moves}
use Rattle.hv_base.specs.Faults.{Rose}
use Rattle.hv_base.proofs.ToldLemmas.{Moves-weaken}
use Rattle.hv_shelf.specs.declared.fault.ShelfFault.{ShelfFault}
use Rattle.hv_shelf.specs.declared.fault.ShelfFault.TheVariants as shelf
use Rattle.hv_shelf.specs.declared.place.Place.{Place}
use Rattle.hv_shelf.specs.Causes.{SoftCause}
use Rattle.hv_shelf.specs.Disk.{Store, HasFile, TornFile}
use Rattle.hv_table_rows.specs.Faults.{StoreCause}
use Rattle.hv_trail.specs.declared.trail.Reader.{Reader}
use Rattle.hv_trail.specs.declared.trail.Mark.TheVariants.{Broke}
use Rattle.hv_trail.specs.declared.trail.TrailItem.{TrailItem}
use Rattle.hv_trail.specs.declared.trail.TrailItem.TheVariants.{Marked}
use Rattle.hv_trail.specs.Trail.{book_of}
use Rattle.hv_trail.specs.Kept.{trail_of}
use Rattle.hv_trail.specs.Steps.{Call, Put, Outcome, Done, Conflict, Closed, Starved, Refused, Failed, StarvesBy, MayEnd, Changes, Counts, Step}
use Rattle.hv_house.specs.declared.fault.HouseFault.{HouseFault}
use Rattle.hv_house.specs.declared.fault.HouseFault.TheVariants as fault
use Rattle.hv_house.specs.declared.house.House.{House}
use Rattle.hv_house.specs.Faults.{put_result, HasRisen}
use Rattle.hv_house.specs.House.{entries_of, IsReadyWithin, KeepsJournal}
use Rattle.hv_house.specs.Steps.{seen_of, fault_outcome, outcome_of, GainsBy, IsPutMarkedBy, PutStepWithin, due_of}
use Rattle.hv_house.proofs.Readings.{contains-last, gains-nothing}
use Rattle.hv_house.proofs.Ready.{put-ready, put-stays}

-- ---- the count of faults

-- of a call on files, as the store says it
pub soft-store : (Fails : Type 0) (faults faults' hard hard' : ℕ) → SoftCause Fails faults faults' hard hard' → StoreCause faults faults' Fails
soft-store Fails faults faults' hard hard' cause = record { later = cause.later; failed = cause.failed }

-- ---- the journal stays

put-journal : (place : Place) (bytes : List ℕ) (x y : Store) → HasFile place bytes x y → KeepsJournal x y
put-journal place bytes x y has = has.journal_is

torn-journal : (place : Place) (x y : Store) → TornFile place x y → KeepsJournal x y
torn-journal place x y (inl same) = ap (λ (s : Store). s.journal) same
torn-journal place x y (inr broken) = broken.journal_is

pub moves-equal : (R : Store → Store → Type 0) → ((s t : Store) → t ≡ s → R s t) → (a b : Option Store) → b ≡ a → Moves R a b
moves-equal R keeps a b same = subst (Moves R a) (sym same) (by a)
  where
    by : (o : Option Store) → Moves R o o
    by None = tt
    by (Some s) = keeps s s refl

-- it doesn't end for want of memory between renamings
put-starves : (by : Reader) (place : Place) (bytes : List ℕ) (outcome : Outcome) (was is : Bool) → MayEnd (Put by place bytes) outcome → is ≡ was
    → StarvesBy outcome was is
put-starves by place bytes Done was is may same = same
put-starves by place bytes (Conflict with_ table partition) was is may same = same
put-starves by place bytes (Failed count) was is may same = same
put-starves by place bytes Closed was is may same = same
put-starves by place bytes Starved was is may same = absurd may
put-starves by place bytes Refused was is may same = same

-- ---- how a put ended

module _ {D : Type 0} (limits : Limits) (told : D → Option Store) (faults : D → ℕ) (by : Reader) (place : Place) (bytes : List ℕ) (before now : House D) (ready : IsReadyWithin limits told before) where
  abbrev call : Call
  call = Put by place bytes

  step-by : (outcome : Outcome) → MayEnd call outcome → Moves (Changes (book_of (trail_of before.trail)) call outcome) (told before.shelf) (told now.shelf)
      → Counts outcome (faults before.shelf) (faults now.shelf) → GainsBy call outcome before now
      → Step told faults call outcome (seen_of before) (seen_of now)
  step-by outcome may store counts gained = record {
    may = may;
    trail = gained.trail;
    store = store;
    closed = gained.closed;
    starved = put-starves by place bytes outcome before.trail.starved now.trail.starved may gained.starved;
    shut_out = λ shut. absurd (true≢false (sym shut ∙ ready.kept.running));
    counts = counts;
    rest = record { start = ap (λ s. s.value) gained.start; opened = gained.left; limits = gained.limits };
  }

  done-ends : (x : Unit {0}) → Moves (HasFile place bytes) (told before.shelf) (told now.shelf) → faults before.shelf ≤ faults now.shelf → GainsBy call Done before now
      → PutStepWithin limits told faults (due_of by place bytes) before now (Ok x)
  done-ends x moves later gained = record {
    book = gained.entries;
    ready = put-ready limits told before now call gained (Moves-weaken (HasFile place bytes) KeepsJournal (put-journal place bytes) (told before.shelf) (told now.shelf) moves) ready;
    stays = tt;
    marked = tt;
    step = step-by Done tt moves later gained;
    cause = record { later = later; failed = tt };
  }

  marked-behind : (why : HouseFault) → GainsBy call (fault_outcome why) before now → IsPutMarkedBy now by why
  marked-behind (fault.Failed count) gained =
      subst (λ (items : List TrailItem). Contains items (Marked (Broke (Some by) true count))) (sym gained.trail)
      (contains-last (trail_of before.trail) (Marked (Broke (Some by) true count)))
  marked-behind fault.Store gained = tt
  marked-behind fault.NoMemory gained = tt

  err-ends : (why : HouseFault) → Moves KeepsJournal (told before.shelf) (told now.shelf) → faults before.shelf ≤ faults now.shelf
      → HasRisen (faults before.shelf) (faults now.shelf) why → GainsBy call (fault_outcome why) before now
      → Step told faults call (fault_outcome why) (seen_of before) (seen_of now) → PutStepWithin limits told faults (due_of by place bytes) before now (Err why)
  err-ends why keeps later risen gained step = record {
    book = gained.entries;
    ready = tt;
    stays = put-stays limits told before now call why gained keeps ready;
    marked = marked-behind why gained;
    step = step;
    cause = record { later = later; failed = risen };
  }

  abbrev counted : Bool → HouseFault
  counted below = if below then fault.Failed (faults now.shelf) else fault.Store

  torn-ends : (below : Bool) → nat_lt (faults now.shelf) (2 ^ 64 - 1) ≡ below → Moves (TornFile place) (told before.shelf) (told now.shelf)
      → faults before.shelf ≤ faults now.shelf → Rose (faults before.shelf) (faults now.shelf)
      → GainsBy call (fault_outcome (counted below)) before now → PutStepWithin limits told faults (due_of by place bytes) before now (Err (counted below))
  torn-ends true is moves later rose gained =
      let keeps = Moves-weaken (TornFile place) KeepsJournal (torn-journal place) (told before.shelf) (told now.shelf) moves in
      let few : faults now.shelf < 2 ^ 64 - 1 = ltb-true (faults now.shelf) (2 ^ 64 - 1) is in
      err-ends (fault.Failed (faults now.shelf)) keeps later (refl, omega (arith, few, rose)) gained
      (step-by (Failed (faults now.shelf)) tt moves (refl, rose) gained)
  torn-ends false is moves later rose gained =
      let keeps = Moves-weaken (TornFile place) KeepsJournal (torn-journal place) (told before.shelf) (told now.shelf) moves in
      err-ends fault.Store keeps later rose gained (step-by Closed tt moves later gained)

  same-ends : told now.shelf ≡ told before.shelf → faults before.shelf ≤ faults now.shelf → GainsBy call Refused before now
      → PutStepWithin limits told faults (due_of by place bytes) before now (Err fault.NoMemory)
  same-ends same later gained =
      err-ends fault.NoMemory (moves-equal KeepsJournal (λ s t e. ap (λ (x : Store). x.journal) e) (told before.shelf) (told now.shelf) same) later tt gained
      (step-by Refused tt (moves-equal (λ s t. t ≡ s) (λ s t e. e) (told before.shelf) (told now.shelf) same) later gained)

  ends-of : (done : Result (Unit {0}) ShelfFault) → OnOk done (Moves (HasFile place bytes) (told before.shelf) (told now.shelf))
      → (IsErrOf done shelf.Failed → Moves (TornFile place) (told before.shelf) (told now.shelf)) → (IsErrOf done shelf.NoMemory → told now.shelf ≡ told before.shelf)
      → StoreCause (faults before.shelf) (faults now.shelf) (IsErrOf done shelf.Failed)
      → GainsBy call (outcome_of (put_result (faults now.shelf) done)) before now
      → PutStepWithin limits told faults (due_of by place bytes) before now (put_result (faults now.shelf) done)
  ends-of (Ok x) put torn same cause gained = done-ends x put cause.later gained
  ends-of (Err shelf.Failed) put torn same cause gained = torn-ends (nat_lt (faults now.shelf) (2 ^ 64 - 1)) refl (torn refl) cause.later (cause.failed refl) gained
  ends-of (Err shelf.NoMemory) put torn same cause gained = same-ends (same refl) cause.later gained

  pub put-ends : (s : D) (done : Result (Unit {0}) ShelfFault) (result : Result (Unit {0}) HouseFault) → now.shelf ≡ s → result ≡ put_result (faults s) done
      → OnOk done (Moves (HasFile place bytes) (told before.shelf) (told s)) → (IsErrOf done shelf.Failed → Moves (TornFile place) (told before.shelf) (told s))
      → (IsErrOf done shelf.NoMemory → told s ≡ told before.shelf) → StoreCause (faults before.shelf) (faults s) (IsErrOf done shelf.Failed)
      → GainsBy call (outcome_of result) before now → PutStepWithin limits told faults (due_of by place bytes) before now result
  put-ends s done result at is put torn none cause gained =
      let here : result ≡ put_result (faults now.shelf) done = is ∙ ap (λ (x : D). put_result (faults x) done) (sym at) in
      subst (PutStepWithin limits told faults (due_of by place bytes) before now) (sym here)
      (ends-of done (subst (λ (x : D). OnOk done (Moves (HasFile place bytes) (told before.shelf) (told x))) (sym at) put)
      (subst (λ (x : D). IsErrOf done shelf.Failed → Moves (TornFile place) (told before.shelf) (told x)) (sym at) torn)
      (subst (λ (x : D). IsErrOf done shelf.NoMemory → told x ≡ told before.shelf) (sym at) none)
      (subst (λ (x : D). StoreCause (faults before.shelf) (faults x) (IsErrOf done shelf.Failed)) (sym at) cause)
      (subst (λ (r : Result (Unit {0}) HouseFault). GainsBy call (outcome_of r) before now) here gained))

-- nothing was put, for want of memory
pub idle-ends : {D : Type 0} (limits : Limits) (told : D → Option Store) (faults : D → ℕ) (by : Reader) (place : Place) (bytes : List ℕ) (before now : House D) → IsReadyWithin limits told before
    → now.shelf ≡ before.shelf → now.place ≡ before.place → now.start ≡ before.start → entries_of now ≡ entries_of before → now.trail.marks ≡ before.trail.marks
    → now.trail.opened ≡ before.trail.opened → now.limits ≡ before.limits → now.trail.closed ≡ before.trail.closed
    → now.trail.starved ≡ before.trail.starved → PutStepWithin limits told faults (due_of by place bytes) before now (Err fault.NoMemory)
idle-ends limits told faults by place bytes before now ready same at start entries marks left keeps closed starved =
    same-ends limits told faults by place bytes before now ready (ap told same) (omega (arith, ap faults same))
    (gains-nothing (Put by place bytes) Refused before now refl refl ready.kept.running at start entries marks left keeps closed starved)
