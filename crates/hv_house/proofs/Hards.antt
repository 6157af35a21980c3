-- The hard count over one call: a house that was open is closed only where it rose.
use Rattle.std.proofs.Common.{◌≡◌, ℕ, ◌≤◌, Bool, true, false, true≢false, Option, Result, Ok, Err, IsErrOf, refl, sym, ap, ◌∙◌, subst, arith}
use Rattle.std.specs.Prelude.{IfErr, ◌&&◌, not}
use Rattle.hv_shelf.specs.Disk.{Store}
use Rattle.hv_base.specs.Faults.{Rose}
use Rattle.hv_shelf.specs.declared.fault.ShelfFault.{ShelfFault}
use Rattle.hv_shelf.specs.declared.fault.ShelfFault.TheVariants as shelf
use Rattle.hv_shelf.specs.Causes.{last_count, SoftCause, HardCause}
use Rattle.hv_trail.specs.Steps.{HouseSeen, Call, Outcome, Done, Conflict, Failed, Closed, Starved, Refused, StarvesBy, Step}
use Rattle.hv_house.specs.declared.fault.HouseFault.{HouseFault}
use Rattle.hv_house.specs.declared.fault.HouseFault.TheVariants as fault
use Rattle.hv_house.specs.declared.house.House.{House}
use Rattle.hv_house.specs.Faults.{HardStep, ShutsAtLast, EndsRun, HasRisenHard, JournalCause}
use Rattle.hv_house.specs.Housed.{ShutsHard}
use Rattle.hv_house.specs.Steps.{seen_of, ClosesBy, IsOpenedOver}

-- of a call on files that may have failed, between others that leave the store: the house is closed only where it failed
pub soft_step : (Fails Says : Type 0) (faults faults' hard hard' hard'' : ℕ) (was mid is : Bool) → (Says → Fails) → mid ≡ was → hard'' ≡ hard'
    → SoftCause Fails faults faults' hard hard' → ShutsAtLast Says faults' mid is → HardStep hard hard'' was is
soft_step Fails Says faults faults' hard hard' hard'' was mid is says left stays cause last = record {
  later = omega (arith, stays, cause.hard_later);
  shuts = λ w i.
      let so = last.shuts (left ∙ w) i in
      let risen : Rose hard hard' = cause.failed_last (says so.0) so.1 in
      omega (arith, stays, risen);
}

-- of one that failed
pub failed_step : {T : Type 0} (result : Result T ShelfFault) (fault : ShelfFault) (faults faults' hard hard' hard'' : ℕ) (was mid is : Bool) → result ≡ Err fault
    → mid ≡ was → hard'' ≡ hard' → SoftCause (IsErrOf result shelf.Failed) faults faults' hard hard' → ShutsAtLast (fault ≡ shelf.Failed) faults' mid is
    → HardStep hard hard'' was is
failed_step result fault faults faults' hard hard' hard'' was mid is at left stays cause last =
    soft_step (IsErrOf result shelf.Failed) (fault ≡ shelf.Failed) faults faults' hard hard' hard'' was mid is
    (λ e. at ∙ ap (λ (f : ShelfFault). Err f) e) left stays cause last

-- of a removal that failed
pub soft_remove : (Fails : Type 0) (faults faults' hard hard' hard'' : ℕ) (was is : Bool) → Fails → hard'' ≡ hard'
    → SoftCause Fails faults faults' hard hard' → ShutsAtLast (Unit {0}) faults' was is → HardStep hard hard'' was is
soft_remove Fails faults faults' hard hard' hard'' was is fails stays cause last = record {
  later = omega (arith, stays, cause.hard_later);
  shuts = λ w i.
      let so = last.shuts w i in
      let risen : Rose hard hard' = cause.failed_last fails so.1 in
      omega (arith, stays, risen);
}

-- behind a call that left the store, and whether the house is closed
pub roomy_step : (hard hard' : ℕ) (was mid is : Bool) → mid ≡ was → HardStep hard hard' mid is → HardStep hard hard' was is
roomy_step hard hard' was mid is same step = record { later = step.later; shuts = λ w i. step.shuts (same ∙ w) i }

-- and of one that didn't fail
pub fine_step : (Fails : Type 0) (faults faults' hard hard' : ℕ) (was is : Bool) → is ≡ was → SoftCause Fails faults faults' hard hard' → HardStep hard hard' was is
fine_step Fails faults faults' hard hard' was is same cause = record {
  later = cause.hard_later;
  shuts = λ w i. absurd (true≢false (sym i ∙ same ∙ w));
}

-- of a call on the journal, and of one that didn't fail
pub hard_step : (Fails : Type 0) (faults faults' hard hard' : ℕ) (was is : Bool) → HardCause Fails faults faults' hard hard' → (was ≡ false → is ≡ true → Fails)
    → HardStep hard hard' was is
hard_step Fails faults faults' hard hard' was is cause fails = record { later = cause.hard_later; shuts = λ w i. cause.failed_hard (fails w i) }

pub fine_hard : (Fails : Type 0) (faults faults' hard hard' : ℕ) (was is : Bool) → is ≡ was → HardCause Fails faults faults' hard hard' → HardStep hard hard' was is
fine_hard Fails faults faults' hard hard' was is same cause = record {
  later = cause.hard_later;
  shuts = λ w i. absurd (true≢false (sym i ∙ same ∙ w));
}

-- where no call was made on the store
pub still_step : (hard : ℕ) (was : Bool) → HardStep hard hard was was
still_step hard was = record { later = omega arith; shuts = λ w i. absurd (true≢false (sym i ∙ w)) }

pub left_step : (hard : ℕ) (was is : Bool) → is ≡ was → HardStep hard hard was is
left_step hard was is same = record { later = omega arith; shuts = λ w i. absurd (true≢false (sym i ∙ same ∙ w)) }

-- nor behind a step
pub behind_step : (hard hard' : ℕ) (was mid is : Bool) → is ≡ mid → HardStep hard hard' was mid → HardStep hard hard' was is
behind_step hard hard' was mid is same step = record { later = step.later; shuts = λ w i. step.shuts w (sym same ∙ i) }

-- ---- how a call on files that failed is kept in mind

pub last_same : (Fails : Type 0) (faults : ℕ) (was is : Bool) → is ≡ was → ShutsAtLast Fails faults was is
last_same Fails faults was is same = record { shuts = λ w i. absurd (true≢false (sym i ∙ same ∙ w)) }

pub last_here : (faults : ℕ) (was is : Bool) → faults ≡ last_count → ShutsAtLast (Unit {0}) faults was is
last_here faults was is at = record { shuts = λ w i. (tt, at) }

pub last_says : (Fails : Type 0) (faults : ℕ) (was is : Bool) → Fails → ShutsAtLast (Unit {0}) faults was is → ShutsAtLast Fails faults was is
last_says Fails faults was is fails last = record { shuts = λ w i. (fails, (last.shuts w i).1) }

pub last_failed : {T : Type 0} (result : Result T ShelfFault) (fault : ShelfFault) (faults : ℕ) (was is : Bool) → result ≡ Err fault
    → ShutsAtLast (fault ≡ shelf.Failed) faults was is → ShutsAtLast (IsErrOf result shelf.Failed) faults was is
last_failed result fault faults was is at last = record {
  shuts = λ w i.
      let so = last.shuts w i in (at ∙ ap (λ (f : ShelfFault). Err f) so.0, so.1);
}

-- ---- since the opening

first-so : (a b : Bool) → a && b ≡ true → a ≡ true
first-so true b e = refl
first-so false b e = e

opened-later : (start shelf now : ℕ) → start ≡ shelf → shelf ≤ now → start ≤ now
opened-later start shelf now same le = omega (arith, same, le)

pub opened_shuts : {D : Type 0} (hard : D → ℕ) (shelf : D) (house : House D) → IsOpenedOver shelf house → house.trail.closed ≡ false → hard shelf ≤ hard house.shelf
    → ShutsHard hard (seen_of house)
opened_shuts hard shelf house over running later = record {
  later = opened-later (hard house.start.value) (hard shelf) (hard house.shelf) (ap hard over.start) later;
  rose = λ is fed. absurd (true≢false (sym is ∙ running));
}

later-on : (first start low high : ℕ) → first ≡ start → start ≤ low → low ≤ high → first ≤ high
later-on first start low high same le more = omega (arith, same, le, more)

rose-on : (first start low high : ℕ) → first ≡ start → Rose start low → low ≤ high → Rose first high
rose-on first start low high same rose le = omega (arith, same, rose, le)

rose-over : (first start low high : ℕ) → first ≡ start → start ≤ low → Rose low high → Rose first high
rose-over first start low high same le rose = omega (arith, same, le, rose)

-- who isn't starved behind a step wasn't before it
fed-before : (outcome : Outcome) (was is : Bool) → StarvesBy outcome was is → is ≡ false → was ≡ false
fed-before Done was is same fed = sym same ∙ fed
fed-before (Conflict with_ table partition) was is same fed = sym same ∙ fed
fed-before (Failed count) was is same fed = sym same ∙ fed
fed-before Closed was is same fed = sym same ∙ fed
fed-before Starved was is starved fed = absurd (true≢false (sym starved ∙ fed))
fed-before Refused was is same fed = sym same ∙ fed

-- by a step of which the house is shut so only where the hard count rose
pub shuts_behind : {D : Type 0} (told : D → Option Store) (faults hard : D → ℕ) (call : Call) (outcome : Outcome) (before now : HouseSeen D)
    → Step told faults call outcome before now → HardStep (hard before.shelf) (hard now.shelf) before.closed (now.closed && not now.starved)
    → ShutsHard hard before → ShutsHard hard now
shuts_behind told faults hard call outcome before now made step shuts = record {
  later = later-on (hard now.start) (hard before.start) (hard before.shelf) (hard now.shelf) (ap hard made.rest.start) shuts.later step.later;
  rose = by before.closed refl;
}
  where
    by : (b : Bool) → before.closed ≡ b → now.closed ≡ true → now.starved ≡ false → Rose (hard now.start) (hard now.shelf)
    by true was is fed =
        rose-on (hard now.start) (hard before.start) (hard before.shelf) (hard now.shelf) (ap hard made.rest.start)
        (shuts.rose was (fed-before outcome before.starved now.starved made.starved fed)) step.later
    by false was is fed =
        rose-over (hard now.start) (hard before.start) (hard before.shelf) (hard now.shelf) (ap hard made.rest.start) shuts.later
        (step.shuts was (ap (λ c. c && not now.starved) is ∙ ap not fed))

-- by one of which it is shut only where the hard count rose
pub shuts_later : {D : Type 0} (told : D → Option Store) (faults hard : D → ℕ) (call : Call) (outcome : Outcome) (before now : HouseSeen D)
    → Step told faults call outcome before now → HardStep (hard before.shelf) (hard now.shelf) before.closed now.closed
    → ShutsHard hard before → ShutsHard hard now
shuts_later told faults hard call outcome before now made step shuts =
    shuts_behind told faults hard call outcome before now made
    (record { later = step.later; shuts = λ was is. step.shuts was (first-so now.closed (not now.starved) is) }) shuts

-- ---- an opening, which notes in an open house

risen-noting : (why : HouseFault) (first hard hard' : ℕ) (was is : Bool) → first ≤ hard → HardStep hard hard' was is → was ≡ false → ClosesBy why was is
    → EndsRun why → HasRisenHard first hard' why
risen-noting fault.Store first hard hard' was is low step open_ closes ends =
    let risen : Rose hard hard' = step.shuts open_ closes in omega (arith, low, risen)
risen-noting fault.NoMemory first hard hard' was is low step open_ closes ends = tt
risen-noting (fault.Failed count) first hard hard' was is low step open_ closes ends = absurd ends

-- it stopped at this entry, behind calls that weren't refused
pub noting_cause : {T : Type 0} (why same : HouseFault) (result : Result T HouseFault) → result ≡ Err same → same ≡ why
    → (first hard hard' : ℕ) (was is : Bool) → first ≤ hard → HardStep hard hard' was is → was ≡ false → ClosesBy why was is → EndsRun why → JournalCause first hard' result
noting_cause {T = T} why same result at e first hard hard' was is low step open_ closes ends = record {
  later = omega (arith, low, step.later);
  failed = subst (λ (r : Result T HouseFault). IfErr r (HasRisenHard first hard')) (sym at)
      (subst (HasRisenHard first hard') (sym e) (risen-noting why first hard hard' was is low step open_ closes ends));
}

pub later_both : (first mid last : ℕ) → first ≤ mid → mid ≤ last → first ≤ last
later_both first mid last low high = omega (arith, low, high)

-- it stopped there or behind
pub journal_behind : {T : Type 0} (result : Result T HouseFault) (first mid last : ℕ) → first ≤ mid → JournalCause mid last result → JournalCause first last result
journal_behind (Ok x) first mid last low cause = record { later = omega (arith, low, cause.later); failed = tt }
journal_behind (Err fault.Store) first mid last low cause =
    let risen : Rose mid last = cause.failed in
    record { later = omega (arith, low, cause.later); failed = omega (arith, low, risen) }
journal_behind (Err fault.NoMemory) first mid last low cause = record { later = omega (arith, low, cause.later); failed = tt }
journal_behind (Err (fault.Failed count)) first mid last low cause = record { later = omega (arith, low, cause.later); failed = cause.failed }
