-- A house on which one step was done goes on, where the step let its store's count of faults rise as far as its answer says.
use Rattle.std.specs.Prelude.{◌≡◌, ◌≤◌, ◌||◌, ℕ, Bool, true, false, Option}
use Rattle.std.proofs.Common.{ap, sym, ◌∙◌, true≢false}
use Rattle.hv_base.specs.Faults.{Rose}
use Rattle.hv_shelf.specs.Disk.{Store}
use Rattle.hv_trail.specs.Steps.{HouseSeen, Call, Outcome, Done, Conflict, Failed, Closed, Starved, Refused, gains, shuts, StarvesBy, Step}
use Rattle.hv_actor.specs.Acting.{IsLater}

-- where the house was open and is closed, its store's count of faults rose
abbrev pub ShutsRisen : {D : Type 0} → (D → ℕ) → HouseSeen D → HouseSeen D → Type 0
ShutsRisen faults before now =
    before.closed ≡ false → now.closed ≡ true → Rose (faults before.shelf) (faults now.shelf)

-- a house that was open is so behind what doesn't close it
pub still_open : (was is : Bool) → is ≡ was || false → was ≡ false → is ≡ true → ⊥
still_open true is e running shut = true≢false running
still_open false is e running shut = true≢false (sym shut ∙ e)

-- one that is closed for want of memory stays so
pub starved_on : (outcome : Outcome) (was is : Bool) → StarvesBy outcome was is → was ≡ true → is ≡ true
starved_on Done was is same e = same ∙ e
starved_on (Conflict with_ table partition) was is same e = same ∙ e
starved_on (Failed count) was is same e = same ∙ e
starved_on Closed was is same e = same ∙ e
starved_on Starved was is same e = same
starved_on Refused was is same e = same ∙ e

-- Its count didn't fall, and rose where the step closed it: so the house goes on.
pub step_later : {D : Type 0} (told : D → Option Store) (faults : D → ℕ) (call : Call) (outcome : Outcome)
    (before now : HouseSeen D)
    → Step told faults call outcome before now → faults before.shelf ≤ faults now.shelf → ShutsRisen faults before now
    → IsLater faults before now
step_later told faults call outcome before now step up risen = record {
  added = gains call outcome;
  trail = step.trail;
  rest = step.rest;
  count = up;
  closed = λ shut. step.closed ∙ ap (λ (b : Bool). b || shuts outcome) shut;
  starved = starved_on outcome before.starved now.starved step.starved;
  rises = λ was is fed. risen was is;
}
