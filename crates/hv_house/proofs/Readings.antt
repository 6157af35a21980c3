-- What a call that reads is as a step.
use Rattle.std.proofs.Common.{◌≡◌, ◌≤◌, ℕ, Bool, false, true≢false, Option, Some, None, List, [], ◌++◌, refl, sym, ap, ◌∙◌, subst, arith, append-nil}
use Rattle.std.specs.Prelude.{◌||◌, ◌∷◌, Contains}
use Rattle.std.proofs.lemmas.List.Elements.{Contains-append_right}
use Rattle.hv_base.specs.Told.{Moves}
use Rattle.hv_shelf.specs.Disk.{Store}
use Rattle.hv_history.specs.declared.entry.Entry.{Entry}
use Rattle.hv_trail.specs.declared.trail.Reader.{Reader}
use Rattle.hv_trail.specs.declared.trail.TrailItem.{TrailItem}
use Rattle.hv_trail.specs.Trail.{book_of}
use Rattle.hv_trail.specs.Kept.{trail_of}
use Rattle.hv_trail.specs.Steps.{Call, Read, Outcome, Done, Conflict, Closed, Starved, Refused, Failed, gains, shuts, StarvesBy, MayEnd, Changes, Counts, Step}
use Rattle.hv_house.specs.declared.fault.HouseFault.{HouseFault}
use Rattle.hv_house.specs.declared.fault.HouseFault.TheVariants as fault
use Rattle.hv_house.specs.declared.house.House.{House}
use Rattle.hv_house.specs.Faults.{HasRisen}
use Rattle.hv_house.specs.House.{entries_of}
use Rattle.hv_house.specs.Steps.{seen_of, fault_outcome, GainsBy}
use Rattle.hv_house.proofs.Steps.{same-trail}

-- ---- what the trail gains

-- nothing was done
pub gains-nothing : {D : Type 0} (call : Call) (outcome : Outcome) (before now : House D) → gains call outcome ≡ [] → shuts outcome ≡ false → before.trail.closed ≡ false
    → now.place ≡ before.place → now.start ≡ before.start → entries_of now ≡ entries_of before → now.trail.marks ≡ before.trail.marks
    → now.trail.opened ≡ before.trail.opened → now.limits ≡ before.limits → now.trail.closed ≡ before.trail.closed → now.trail.starved ≡ before.trail.starved
    → GainsBy call outcome before now
gains-nothing call outcome before now none open_ running place start entries marks left limits closed starved = record {
  place = place;
  entries = entries;
  start = start;
  left = left;
  limits = limits;
  trail = same-trail before now entries marks ∙ sym (append-nil (trail_of before.trail)) ∙ ap (λ items. trail_of before.trail ++ items) (sym none);
  closed = closed ∙ running ∙ sym (ap (λ c. before.trail.closed || c) open_ ∙ ap (λ c. c || false) running);
  starved = starved;
}

-- behind a call that left the trail as it was
pub gains-behind : {D : Type 0} (call : Call) (outcome : Outcome) (first before now : House D) → before.place ≡ first.place → before.start ≡ first.start
    → entries_of before ≡ entries_of first → before.trail.marks ≡ first.trail.marks → before.trail.opened ≡ first.trail.opened → before.limits ≡ first.limits → before.trail.closed ≡ first.trail.closed
    → before.trail.starved ≡ first.trail.starved → GainsBy call outcome before now → GainsBy call outcome first now
gains-behind call outcome first before now place start entries marks left limits closed starved gained = record {
  place = gained.place ∙ place;
  entries = gained.entries ∙ entries;
  start = gained.start ∙ start;
  left = gained.left ∙ left;
  limits = gained.limits ∙ limits;
  trail = gained.trail ∙ ap (λ items. items ++ gains call outcome) (same-trail first before entries marks);
  closed = gained.closed ∙ ap (λ c. c || shuts outcome) closed;
  starved = gained.starved ∙ starved;
}

-- no call on files ends for want of memory between renamings
read-starves : (by : Option Reader) (outcome : Outcome) (was is : Bool) → MayEnd (Read by) outcome → is ≡ was → StarvesBy outcome was is
read-starves by Done was is may same = same
read-starves by (Conflict with_ table partition) was is may same = same
read-starves by (Failed count) was is may same = same
read-starves by Closed was is may same = same
read-starves by Starved was is may same = absurd may
read-starves by Refused was is may same = same

-- ---- the step

module _ {D : Type 0} (told : D → Option Store) (faults : D → ℕ) (by : Option Reader) (before now : House D) (running : before.trail.closed ≡ false)
    (same : told now.shelf ≡ told before.shelf) (later : faults before.shelf ≤ faults now.shelf) where
  moves-same : (R : Store → Store → Type 0) → ((s t : Store) → t ≡ s → R s t) → Moves R (told before.shelf) (told now.shelf)
  moves-same R keeps = subst (λ (o : Option Store). Moves R (told before.shelf) o) (sym same) (by_cases (told before.shelf))
    where
      by_cases : (o : Option Store) → Moves R o o
      by_cases None = tt
      by_cases (Some s) = keeps s s refl

  step-by : (outcome : Outcome) → MayEnd (Read by) outcome → ((book : List Entry) (s t : Store) → t ≡ s → Changes book (Read by) outcome s t)
      → Counts outcome (faults before.shelf) (faults now.shelf) → GainsBy (Read by) outcome before now
      → Step told faults (Read by) outcome (seen_of before) (seen_of now)
  step-by outcome may keeps counts gained = record {
    may = may;
    trail = gained.trail;
    store = moves-same (Changes (book_of (trail_of before.trail)) (Read by) outcome) (keeps (book_of (trail_of before.trail)));
    closed = gained.closed;
    starved = read-starves by outcome before.trail.starved now.trail.starved may gained.starved;
    shut_out = λ shut. absurd (true≢false (sym shut ∙ running));
    counts = counts;
    rest = record { start = ap (λ s. s.value) gained.start; opened = gained.left; limits = gained.limits };
  }

  pub step-read : GainsBy (Read by) Done before now → Step told faults (Read by) Done (seen_of before) (seen_of now)
  step-read gained = step-by Done tt (λ book s t e. e) later gained

  pub step-unread : (why : HouseFault) → HasRisen (faults before.shelf) (faults now.shelf) why → GainsBy (Read by) (fault_outcome why) before now
      → Step told faults (Read by) (fault_outcome why) (seen_of before) (seen_of now)
  step-unread fault.Store rose gained = step-by Closed tt (λ book s t e. e) later gained
  step-unread fault.NoMemory rose gained = step-by Refused tt (λ book s t e. e) later gained
  step-unread (fault.Failed count) rose gained = step-by (Failed count) tt (λ book s t e. e) (rose.0, omega (arith, rose.1)) gained

-- the house refused it by itself, and the store wasn't asked
pub step-unasked : {D : Type 0} (told : D → Option Store) (faults : D → ℕ) (by : Option Reader) (house : House D) → house.trail.closed ≡ false
    → Step told faults (Read by) Refused (seen_of house) (seen_of house)
step-unasked told faults by house running =
    step-unread told faults by house house running refl (omega arith) fault.NoMemory tt
    (gains-nothing (Read by) Refused house house refl refl running refl refl refl refl refl refl refl refl)

-- ---- the mark of a fault stands

pub contains-last : (items : List TrailItem) (item : TrailItem) → Contains (items ++ item ∷ []) item
contains-last items item = Contains-append_right items (item ∷ []) item (0, omega arith, refl)
