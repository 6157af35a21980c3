-- Steps that change nothing: where a test refused the act, and where the house is closed.
use Rattle.std.proofs.Common.{arith, ◌≡◌, inl, ℕ, Bool, true, false, Option, Some, None, List, [], ◌++◌, refl, sym, ap, ◌∙◌, append-nil, true≢false}
use Rattle.std.specs.Prelude.{◌||◌}
use Rattle.hv_base.specs.Told.{Moves}
use Rattle.hv_base.specs.declared.ids.TxnId.{TxnId}
use Rattle.hv_shelf.specs.Disk.{Store}
use Rattle.hv_history.specs.declared.entry.Entry.{Entry}
use Rattle.hv_trail.specs.Trail.{book_of}
use Rattle.hv_trail.specs.Kept.{trail_of}
use Rattle.hv_trail.specs.Steps.{HouseSeen, Call, Outcome, Note, Begin, Ask, Closed, Refused, gains, shuts, MayEnd, Changes, IsShutOut, Step}
use Rattle.hv_trail.proofs.KeptLaws.{trail-book}
use Rattle.hv_telling.specs.hv_house.specs.declared.fault.HouseFault.{HouseFault}
use Rattle.hv_telling.specs.hv_house.specs.declared.fault.HouseFault.TheVariants as fault
use Rattle.hv_telling.specs.hv_house.specs.declared.house.House.{House}
use Rattle.hv_telling.specs.hv_house.specs.House.{entries_of}
use Rattle.hv_telling.specs.hv_house.specs.Steps.{seen_of, fault_outcome}
use Rattle.hv_telling.specs.Telling.{IsToldHouse, IsWhole, StaysWhole, StillOpens}
use Rattle.hv_telling.proofs.Told.{told-stays}
use Rattle.hv_telling.proofs.Opens.{whole-opens}
use Rattle.hv_acts.specs.Told.{IsWholeOrClosed}

-- the book of a house is that of its trail
pub book-is : {D : Type 0} (house : House D) → book_of (trail_of house.trail) ≡ entries_of house
book-is house = trail-book house.trail.entries house.trail.marks

pub moves-same : (o : Option Store) (P : Store → Store → Type 0) → ((s : Store) → P s s) → Moves P o o
moves-same None P same = tt
moves-same (Some s) P same = same s

pub or-false : (b : Bool) → b ≡ b || false
or-false true = refl
or-false false = refl

module _ {D : Type 0} (told : D → Option Store) (faults : D → ℕ) (seen : HouseSeen D) where
  pub asked : Step told faults Ask Refused seen seen
  asked = record {
    may = tt;
    trail = sym (append-nil seen.trail);
    store = moves-same (told seen.shelf) _ (λ s. refl);
    closed = or-false seen.closed;
    starved = refl;
    shut_out = λ shut. tt;
    counts = omega arith;
    rest = record { start = refl; opened = refl; limits = refl };
  }

  -- memory lacked before the call
  pub lacked : (event : Entry) → seen.closed ≡ false → Step told faults (Note event) Refused seen seen
  lacked event running = record {
    may = tt;
    trail = sym (append-nil seen.trail);
    store = moves-same (told seen.shelf) _ (λ s. record { tree_is = refl; reads = λ is. is });
    closed = or-false seen.closed;
    starved = refl;
    shut_out = λ shut. absurd (true≢false (sym shut ∙ running));
    counts = omega arith;
    rest = record { start = refl; opened = refl; limits = refl };
  }

  shut : (call : Call) → MayEnd call Closed → gains call Closed ≡ [] → ((s : Store) → Changes (book_of seen.trail) call Closed s s)
      → IsShutOut call Closed → seen.closed ≡ true → Step told faults call Closed seen seen
  shut call may none same out closed = record {
    may = may;
    trail = sym (append-nil seen.trail) ∙ ap (λ items. seen.trail ++ items) (sym none);
    store = moves-same (told seen.shelf) _ same;
    closed = closed ∙ sym (ap (λ b. b || true) closed);
    starved = refl;
    shut_out = λ shut. out;
    counts = omega arith;
    rest = record { start = refl; opened = refl; limits = refl };
  }

  pub shut-note : (event : Entry) → seen.closed ≡ true → Step told faults (Note event) Closed seen seen
  shut-note event closed = shut (Note event) tt refl (λ s. record { tree_is = refl; reads = λ is. inl is }) refl closed

  pub shut-begin : (txn : TxnId) (session : List ℕ) (number : ℕ) (text : List ℕ) → seen.closed ≡ true → Step told faults (Begin txn session number text) Closed seen seen
  shut-begin txn session number text closed = shut (Begin txn session number text) tt refl (λ s. record { tree_is = refl; reads = λ is. inl is }) refl closed

-- ---- between two calls

-- what closed the house is no readiness
pub shut-closed : (before now : Bool) → before ≡ false → now ≡ before || true → now ≡ false → ⊥
shut-closed before now running closed still = true≢false (sym (closed ∙ ap (λ b. b || true) running) ∙ still)

module _ {D : Type 0} (told : D → Option Store) where
  pub whole-keeps : (house : House D) → IsWhole told house → IsWholeOrClosed told house
  whole-keeps house whole = record { whole = λ still. whole; opens = whole-opens told house whole }

  -- behind a fault of a call on it
  pub keeps-behind : (before now : House D) (why : HouseFault) → IsWhole told before → StaysWhole told why now → (IsToldHouse told before → StillOpens told now)
      → now.start ≡ before.start → now.trail.closed ≡ before.trail.closed || shuts (fault_outcome why) → IsWholeOrClosed told now
  keeps-behind before now fault.Store was stays opens start closed = record {
    whole = λ still. absurd (shut-closed before.trail.closed now.trail.closed was.ready.kept.running closed still);
    opens = λ is. opens (told-stays told now before (sym start) is);
  }
  keeps-behind before now fault.NoMemory was stays opens start closed = whole-keeps now stays
  keeps-behind before now (fault.Failed count) was stays opens start closed = whole-keeps now stays

-- what a step says of what the house was opened over
pub same-start : {D : Type 0} (told : D → Option Store) (faults : D → ℕ) (call : Call) (outcome : Outcome) (before now : House D)
    → Step told faults call outcome (seen_of before) (seen_of now) → now.start ≡ before.start
same-start told faults call outcome before now step = λ i. record { marker = before.start.marker; value = step.rest.start i }
