-- What a call that takes away a directory is as a step.
use Rattle.std.proofs.Common.{◌≡◌, ◌<◌, ◌≤◌, inl, inr, ℕ, ◌-◌, ◌^◌, nat_lt, Bool, true, false, true≢false, Option, None, Result, Ok, Err, List, [], ◌∷◌, ◌++◌, refl, sym, ap, ◌∙◌, subst, arith}
use Rattle.std.specs.Prelude.{if◌then◌else◌, ◌||◌, Contains, IsErr}
use Rattle.std.proofs.lemmas.Bool.{ltb-true}
use Rattle.hv_base.specs.declared.ids.Limits.{Limits}
use Rattle.hv_base.specs.Told.{Moves}
use Rattle.hv_base.specs.Faults.{Rose}
use Rattle.hv_base.proofs.ToldLemmas.{Moves-weaken}
use Rattle.hv_shelf.specs.declared.place.DirAt.{DirAt}
use Rattle.hv_shelf.specs.Disk.{Store, IsRemoved, TornRemove}
use Rattle.hv_trail.specs.declared.trail.Mark.TheVariants.{Went, Broke}
use Rattle.hv_trail.specs.declared.trail.TrailItem.{TrailItem}
use Rattle.hv_trail.specs.declared.trail.TrailItem.TheVariants.{Marked}
use Rattle.hv_trail.specs.Trail.{book_of}
use Rattle.hv_trail.specs.Kept.{trail_of}
use Rattle.hv_trail.specs.Steps.{Call, Remove, Outcome, Done, Conflict, Closed, Starved, Refused, Failed, gains, shuts, StarvesBy, MayEnd, Changes, Counts, Step}
use Rattle.hv_house.specs.declared.fault.HouseFault.{HouseFault}
use Rattle.hv_house.specs.declared.fault.HouseFault.TheVariants as fault
use Rattle.hv_house.specs.declared.house.House.{House}
use Rattle.hv_house.specs.Faults.{failed_with, HasRisen}
use Rattle.hv_house.specs.House.{entries_of, IsReadyWithin, KeepsJournal}
use Rattle.hv_house.specs.Steps.{seen_of, fault_outcome, GainsBy, ClosesBy, KeepsFault, broken_by, IsReadMarkedBy, RemoveStepWithin}
use Rattle.hv_house.proofs.Putting.{moves-equal}
use Rattle.hv_house.proofs.Readings.{contains-last, gains-nothing}
use Rattle.hv_house.proofs.Ready.{put-ready, put-stays}

pub removal-failed : {T E : Type 0} {e : E} (r : Result T E) → r ≡ Err e → IsErr r
removal-failed (Ok x) is = cc
removal-failed (Err why) is = refl

removed-journal : (dir : DirAt) (x y : Store) → IsRemoved dir x y → KeepsJournal x y
removed-journal dir x y gone = gone.journal_is

torn-journal : (dir : DirAt) (x y : Store) → TornRemove dir x y → KeepsJournal x y
torn-journal dir x y (inl same) = ap (λ (s : Store). s.journal) same
torn-journal dir x y (inr some) = some.journal_is

remove-starves : (dir : DirAt) (outcome : Outcome) (was is : Bool) → MayEnd (Remove None dir) outcome → is ≡ was → StarvesBy outcome was is
remove-starves dir Done was is may same = same
remove-starves dir (Conflict with_ table partition) was is may same = same
remove-starves dir (Failed count) was is may same = same
remove-starves dir Closed was is may same = same
remove-starves dir Starved was is may same = absurd may
remove-starves dir Refused was is may same = same

module _ {D : Type 0} (limits : Limits) (told : D → Option Store) (faults : D → ℕ) (dir : DirAt) (before now : House D) (ready : IsReadyWithin limits told before) where
  abbrev call : Call
  call = Remove None dir

  step-by : (outcome : Outcome) → MayEnd call outcome → Moves (Changes (book_of (trail_of before.trail)) call outcome) (told before.shelf) (told now.shelf)
      → Counts outcome (faults before.shelf) (faults now.shelf) → GainsBy call outcome before now
      → Step told faults call outcome (seen_of before) (seen_of now)
  step-by outcome may store counts gained = record {
    may = may;
    trail = gained.trail;
    store = store;
    closed = gained.closed;
    starved = remove-starves dir outcome before.trail.starved now.trail.starved may gained.starved;
    shut_out = λ shut. absurd (true≢false (sym shut ∙ ready.kept.running));
    counts = counts;
    rest = record { start = ap (λ s. s.value) gained.start; opened = gained.left; limits = gained.limits };
  }

  pub removed-ends : (x : Unit {0}) → Moves (IsRemoved dir) (told before.shelf) (told now.shelf) → faults before.shelf ≤ faults now.shelf
      → GainsBy call Done before now → RemoveStepWithin limits told faults dir before now (Ok x)
  removed-ends x moves later gained = record {
    book = gained.entries;
    ready = put-ready limits told before now call gained (Moves-weaken (IsRemoved dir) KeepsJournal (removed-journal dir) (told before.shelf) (told now.shelf) moves) ready;
    stays = tt;
    marked = tt;
    step = step-by Done tt moves later gained;
    cause = record { later = later; failed = tt };
  }

  marked-behind : (why : HouseFault) → GainsBy call (fault_outcome why) before now → IsReadMarkedBy now None why
  marked-behind (fault.Failed count) gained =
      subst (λ (items : List TrailItem). Contains items (Marked (Broke None false count))) (sym gained.trail)
      (contains-last (trail_of before.trail) (Marked (Broke None false count)))
  marked-behind fault.Store gained = tt
  marked-behind fault.NoMemory gained = tt

  err-ends : (why : HouseFault) → Moves KeepsJournal (told before.shelf) (told now.shelf) → faults before.shelf ≤ faults now.shelf
      → HasRisen (faults before.shelf) (faults now.shelf) why → GainsBy call (fault_outcome why) before now
      → Step told faults call (fault_outcome why) (seen_of before) (seen_of now) → RemoveStepWithin limits told faults dir before now (Err why)
  err-ends why keeps later risen gained step = record {
    book = gained.entries;
    ready = tt;
    stays = put-stays limits told before now call why gained keeps ready;
    marked = marked-behind why gained;
    step = step;
    cause = record { later = later; failed = risen };
  }

  abbrev counted : Bool → HouseFault
  counted below = if below then fault.Failed (faults now.shelf) else fault.Store

  torn-by : (below : Bool) → nat_lt (faults now.shelf) (2 ^ 64 - 1) ≡ below → Moves (TornRemove dir) (told before.shelf) (told now.shelf)
      → faults before.shelf ≤ faults now.shelf → Rose (faults before.shelf) (faults now.shelf)
      → GainsBy call (fault_outcome (counted below)) before now → RemoveStepWithin limits told faults dir before now (Err (counted below))
  torn-by true is moves later rose gained =
      let keeps = Moves-weaken (TornRemove dir) KeepsJournal (torn-journal dir) (told before.shelf) (told now.shelf) moves in
      let few : faults now.shelf < 2 ^ 64 - 1 = ltb-true (faults now.shelf) (2 ^ 64 - 1) is in
      err-ends (fault.Failed (faults now.shelf)) keeps later (refl, omega (arith, few, rose)) gained
      (step-by (Failed (faults now.shelf)) tt moves (refl, rose) gained)
  torn-by false is moves later rose gained =
      let keeps = Moves-weaken (TornRemove dir) KeepsJournal (torn-journal dir) (told before.shelf) (told now.shelf) moves in
      err-ends fault.Store keeps later rose gained (step-by Closed tt moves later gained)

  -- the mark of the directory as a gain
  pub removed-gains : now.place ≡ before.place → now.start ≡ before.start → entries_of now ≡ entries_of before → now.trail.opened ≡ before.trail.opened
      → now.limits ≡ before.limits → trail_of now.trail ≡ trail_of before.trail ++ Marked (Went dir) ∷ [] → now.trail.closed ≡ before.trail.closed
      → now.trail.starved ≡ before.trail.starved → GainsBy call Done before now
  removed-gains place start entries left limits_are trail closed starved = record {
    place = place;
    entries = entries;
    start = start;
    left = left;
    limits = limits_are;
    trail = trail;
    closed = closed ∙ ready.kept.running ∙ sym (ap (λ c. c || false) ready.kept.running);
    starved = starved;
  }

  -- and that of a call that failed, or closing the house
  pub kept-gains : (why : HouseFault) (mid : House D) → mid.place ≡ before.place → entries_of mid ≡ entries_of before
      → mid.start ≡ before.start → mid.trail.opened ≡ before.trail.opened → mid.limits ≡ before.limits
      → trail_of mid.trail ≡ trail_of before.trail → mid.trail.closed ≡ before.trail.closed → mid.trail.starved ≡ before.trail.starved
      → KeepsFault None false why mid now → GainsBy call (fault_outcome why) before now
  kept-gains why mid place entries start left limits_are trail closed starved kept = record {
    place = kept.place ∙ place;
    entries = kept.entries ∙ entries;
    start = kept.start ∙ start;
    left = kept.left ∙ left;
    limits = kept.limits ∙ limits_are;
    trail = kept.trail ∙ ap (λ items. items ++ broken_by None false why) trail ∙ ap (λ items. trail_of before.trail ++ items) (broken-gains why);
    closed = closed-by why kept.closed;
    starved = kept.starved ∙ starved;
  }
    where
      broken-gains : (w : HouseFault) → broken_by None false w ≡ gains call (fault_outcome w)
      broken-gains (fault.Failed count) = refl
      broken-gains fault.Store = refl
      broken-gains fault.NoMemory = refl

      same-or : (b : Bool) → b ≡ mid.trail.closed → b ≡ before.trail.closed || false
      same-or b e = e ∙ closed ∙ ready.kept.running ∙ sym (ap (λ c. c || false) ready.kept.running)

      closed-by : (w : HouseFault) → ClosesBy w mid.trail.closed now.trail.closed → now.trail.closed ≡ before.trail.closed || shuts (fault_outcome w)
      closed-by (fault.Failed count) e = same-or now.trail.closed e
      closed-by fault.NoMemory e = same-or now.trail.closed e
      closed-by fault.Store e = e ∙ sym (ap (λ c. c || true) ready.kept.running)

  pub torn-ends : (s : D) (why : HouseFault) → now.shelf ≡ s → why ≡ failed_with (faults s) → Moves (TornRemove dir) (told before.shelf) (told s)
      → faults before.shelf ≤ faults s → Rose (faults before.shelf) (faults s) → GainsBy call (fault_outcome why) before now
      → RemoveStepWithin limits told faults dir before now (Err why)
  torn-ends s why at is moves later rose gained =
      let here : why ≡ failed_with (faults now.shelf) = is ∙ ap (λ (x : D). failed_with (faults x)) (sym at) in
      subst (λ (w : HouseFault). RemoveStepWithin limits told faults dir before now (Err w)) (sym here)
      (torn-by (nat_lt (faults now.shelf) (2 ^ 64 - 1)) refl
      (subst (λ (x : D). Moves (TornRemove dir) (told before.shelf) (told x)) (sym at) moves)
      (subst (λ (x : D). faults before.shelf ≤ faults x) (sym at) later)
      (subst (λ (x : D). Rose (faults before.shelf) (faults x)) (sym at) rose)
      (subst (λ (w : HouseFault). GainsBy call (fault_outcome w) before now) here gained))

  -- nothing was taken away, for want of memory
  pub idle-ends : now.shelf ≡ before.shelf → now.place ≡ before.place → now.start ≡ before.start → entries_of now ≡ entries_of before
      → now.trail.marks ≡ before.trail.marks → now.trail.opened ≡ before.trail.opened → now.limits ≡ before.limits
      → now.trail.closed ≡ before.trail.closed → now.trail.starved ≡ before.trail.starved
      → RemoveStepWithin limits told faults dir before now (Err fault.NoMemory)
  idle-ends same at start entries marks left keeps closed starved =
      let gained = gains-nothing call Refused before now refl refl ready.kept.running at start entries marks left keeps closed starved in
      let later : faults before.shelf ≤ faults now.shelf = omega (arith, ap faults same) in
      err-ends fault.NoMemory (moves-equal KeepsJournal (λ s t e. ap (λ (x : Store). x.journal) e) (told before.shelf) (told now.shelf) (ap told same)) later tt gained
      (step-by Refused tt (moves-equal (λ s t. t ≡ s) (λ s t e. e) (told before.shelf) (told now.shelf) (ap told same)) later gained)
