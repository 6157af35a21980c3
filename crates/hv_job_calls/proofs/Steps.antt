-- A call for a job as a step: one that a test refused, one that found nothing, one of the house, and one behind a call that read.
use Rattle.std.proofs.Common.{◌≡◌, inl, ℕ, ◌<◌, ◌≤◌, Bool, true, false, true≢false, Option, Some, None, Ok, Err, List, [], ◌∷◌, ◌++◌, refl, sym, ap, ◌∙◌, subst, append-nil, arith}
use Rattle.std.specs.Prelude.{◌||◌}
use Rattle.hv_base.specs.Told.{Moves}
use Rattle.hv_base.specs.Faults.{Rose}
use Rattle.hv_base.proofs.ToldLemmas.{Moves-weaken}
use Rattle.hv_shelf.specs.declared.place.DirAt.{DirAt}
use Rattle.hv_shelf.specs.declared.place.Place.{Place}
use Rattle.hv_shelf.specs.Disk.{Store}
use Rattle.hv_history.specs.declared.entry.Entry.{Entry}
use Rattle.hv_history.specs.Journal.{IsJournal}
use Rattle.hv_history.specs.Legal.{profile}
use Rattle.hv_trail.specs.declared.trail.Reader.{Reader}
use Rattle.hv_trail.specs.declared.trail.Renaming.{Renaming}
use Rattle.hv_trail.specs.declared.trail.TrailItem.{TrailItem}
use Rattle.hv_trail.specs.Trail.{book_of}
use Rattle.hv_trail.specs.Kept.{trail_of}
use Rattle.hv_trail.specs.Steps.{Call, Note, Put, Remove, Publish, Read, Ask, Outcome, Done, Conflict, Failed, Closed, Starved, Refused, gains, shuts, StarvesBy, MayEnd, Changes, Counts, IsShutOut, NotesNone, NotesOrNot, Step}
use Rattle.hv_telling.specs.hv_house.specs.declared.fault.HouseFault.{HouseFault}
use Rattle.hv_telling.specs.hv_house.specs.declared.fault.HouseFault.TheVariants as house
use Rattle.hv_telling.specs.hv_house.specs.declared.house.House.{House}
use Rattle.hv_telling.specs.hv_house.specs.House.{StaysPutWithin}
use Rattle.hv_telling.specs.hv_house.specs.Faults.{HardStep, HasRisen}
use Rattle.hv_telling.specs.hv_house.specs.Steps.{seen_of, fault_outcome}
use Rattle.hv_telling.specs.Telling.{IsToldHouse, IsWhole, StaysWhole, StillOpens}
use Rattle.hv_telling.proofs.Opens.{whole-opens}
use Rattle.hv_telling.proofs.Reading.{reads-keep-whole, reads-still-open}
use Rattle.hv_job_calls.specs.declared.fault.JobFault.{JobFault}
use Rattle.hv_job_calls.specs.declared.fault.JobFault.TheVariants as fault
use Rattle.hv_job_calls.specs.Steps.{why_outcome, call_behind, StaysFor, SameFor, HasRisenFor, JobStep}
use Rattle.hv_job_calls.specs.Tests.{IsRefusal}

-- ---- nothing was done

same-store : (o : Option Store) (R : Store → Store → Type 0) → ((s : Store) → R s s) → Moves R o o
same-store None R same = tt
same-store (Some s) R same = same s

or-same : (b : Bool) → b ≡ b || false
or-same true = refl
or-same false = refl

module _ {D : Type 0} (told : D → Option Store) (faults : D → ℕ) (before : House D) where
  -- a call of which nothing came
  still : (call : Call) (outcome : Outcome) → MayEnd call outcome → gains call outcome ≡ [] → shuts outcome ≡ false
      → StarvesBy outcome before.trail.starved before.trail.starved → Counts outcome (faults before.shelf) (faults before.shelf)
      → ((s : Store) → Changes (book_of (trail_of before.trail)) call outcome s s) → (before.trail.closed ≡ true → IsShutOut call outcome)
      → Step told faults call outcome (seen_of before) (seen_of before)
  still call outcome may none open_ starves counts changes out = record {
    may = may;
    trail = sym (append-nil (trail_of before.trail)) ∙ ap (λ items. trail_of before.trail ++ items) (sym none);
    store = same-store (told before.shelf) (Changes (book_of (trail_of before.trail)) call outcome) changes;
    closed = or-same before.trail.closed ∙ ap (λ b. before.trail.closed || b) (sym open_);
    starved = starves;
    shut_out = out;
    counts = counts;
    rest = record { start = refl; opened = refl; limits = refl };
  }

  asked : (outcome : Outcome) → MayEnd Ask outcome → gains Ask outcome ≡ [] → shuts outcome ≡ false
      → StarvesBy outcome before.trail.starved before.trail.starved → Counts outcome (faults before.shelf) (faults before.shelf)
      → ((s : Store) → Changes (book_of (trail_of before.trail)) Ask outcome s s) → Step told faults Ask outcome (seen_of before) (seen_of before)
  asked outcome may none open_ starves counts changes = still Ask outcome may none open_ starves counts changes (λ shut. tt)

  asked-refused : Step told faults Ask Refused (seen_of before) (seen_of before)
  asked-refused = asked Refused tt refl refl refl (omega arith) (λ s. refl)

  -- ---- a test refused it

  by-test : {T : Type 0} (call : Call) (why : JobFault) → StaysFor told why before → SameFor before before why
      → HasRisenFor (faults before.shelf) (faults before.shelf) why → Step told faults call (why_outcome why) (seen_of before) (seen_of before)
      → (IsToldHouse told before → StillOpens told before) → JobStep {T = T} told faults call before before (Err why)
  by-test call why stays same risen step opens = record {
    whole = tt;
    stays = stays;
    same = same;
    opens = opens;
    start = refl;
    step = step;
    later = omega arith;
    failed = risen;
  }

  pub refused : {T : Type 0} (call : Call) (why : JobFault) → IsRefusal why → IsWhole told before → JobStep {T = T} told faults (call_behind call why) before before (Err why)
  refused call fault.Gone is whole = by-test Ask fault.Gone whole refl tt asked-refused (whole-opens told before whole)
  refused call (fault.Full entries) is whole = by-test Ask (fault.Full entries) whole refl tt asked-refused (whole-opens told before whole)
  refused call (fault.Needed txn) is whole = by-test Ask (fault.Needed txn) whole refl tt asked-refused (whole-opens told before whole)
  refused call (fault.StillListed dir) is whole = by-test Ask (fault.StillListed dir) whole tt tt asked-refused (whole-opens told before whole)
  refused call (fault.Working job) is whole = by-test Ask (fault.Working job) whole refl tt asked-refused (whole-opens told before whole)
  refused call fault.NotFound is whole = absurd is
  refused call fault.Starved is whole = absurd is
  refused call (fault.House why) is whole = absurd is

  -- there was nothing to note
  pub nothing-found : {T : Type 0} → IsWhole told before → JobStep {T = Option T} told faults Ask before before (Ok None)
  nothing-found whole = record {
    whole = whole;
    stays = tt;
    same = tt;
    opens = λ is. tt;
    start = refl;
    step = asked Done tt refl refl refl (omega arith) (λ s. refl);
    later = omega arith;
    failed = tt;
  }

  -- ---- memory lacked before it

  lacked : {T : Type 0} (call : Call) → MayEnd call Refused → gains call Refused ≡ [] → ((s : Store) → Changes (book_of (trail_of before.trail)) call Refused s s)
      → IsWhole told before → JobStep {T = T} told faults call before before (Err (fault.House house.NoMemory))
  lacked call may none changes whole = record {
    whole = tt;
    stays = whole;
    same = tt;
    opens = whole-opens told before whole;
    start = refl;
    step =
        still call Refused may none refl refl (omega arith) changes
        (λ shut. absurd (true≢false (sym shut ∙ whole.ready.kept.running)));
    later = omega arith;
    failed = tt;
  }

  pub lacked-put : {T : Type 0} (by : Reader) (place : Place) (bytes : List ℕ) → IsWhole told before
      → JobStep {T = T} told faults (Put by place bytes) before before (Err (fault.House house.NoMemory))
  lacked-put by place bytes whole = lacked (Put by place bytes) tt refl (λ s. refl) whole

  pub lacked-remove : {T : Type 0} (by : Option Reader) (dir : DirAt) → IsWhole told before
      → JobStep {T = T} told faults (Remove by dir) before before (Err (fault.House house.NoMemory))
  lacked-remove by dir whole = lacked (Remove by dir) tt refl (λ s. refl) whole

  pub lacked-publish : {T : Type 0} (renamings : List Renaming) (event : Entry) → IsWhole told before
      → JobStep {T = T} told faults (Publish renamings event) before before (Err (fault.House house.NoMemory))
  lacked-publish renamings event whole = lacked (Publish renamings event) tt refl (λ s. record { tree_is = refl; reads = λ is. is }) whole

  pub lacked-note : {T : Type 0} (event : Entry) → IsWhole told before
      → JobStep {T = T} told faults (Note event) before before (Err (fault.House house.NoMemory))
  lacked-note event whole = lacked (Note event) tt refl (λ s. record { tree_is = refl; reads = λ is. is }) whole

-- ---- a call of the house

module _ {D : Type 0} (told : D → Option Store) (faults : D → ℕ) (call : Call) (before now : House D) where
  pub housed-ok : {T : Type 0} (x : T) → IsWhole told now → now.start ≡ before.start → Step told faults call Done (seen_of before) (seen_of now)
      → JobStep told faults call before now (Ok x)
  housed-ok x whole start step = record {
    whole = whole;
    stays = tt;
    same = tt;
    opens = λ is. tt;
    start = start;
    step = step;
    later = step.counts;
    failed = tt;
  }

  pub housed-err : {T : Type 0} (why : HouseFault) → StaysWhole told why now → (IsToldHouse told before → StillOpens told now) → now.start ≡ before.start
      → Step told faults call (fault_outcome why) (seen_of before) (seen_of now) → faults before.shelf ≤ faults now.shelf
      → HasRisen (faults before.shelf) (faults now.shelf) why → JobStep {T = T} told faults call before now (Err (fault.House why))
  housed-err why stays opens start step later risen = record {
    whole = tt;
    stays = stays;
    same = tt;
    opens = opens;
    start = start;
    step = step;
    later = later;
    failed = risen;
  }

  -- the same with another answer
  pub ok-as : {T U : Type 0} (x : T) (y : U) → JobStep told faults call before now (Ok x) → JobStep told faults call before now (Ok y)
  ok-as x y step = record {
    whole = step.whole;
    stays = tt;
    same = tt;
    opens = λ is. tt;
    start = step.start;
    step = step.step;
    later = step.later;
    failed = tt;
  }

  pub err-as : {T U : Type 0} (why : JobFault) → JobStep {T = T} told faults call before now (Err why) → JobStep {T = U} told faults call before now (Err why)
  err-as why step = record {
    whole = tt;
    stays = step.stays;
    same = step.same;
    opens = step.opens;
    start = step.start;
    step = step.step;
    later = step.later;
    failed = step.failed;
  }

-- ---- a call that reads

-- the house behind it
pub read-start : {D : Type 0} (told : D → Option Store) (faults : D → ℕ) (by : Option Reader) (outcome : Outcome) (before now : House D)
    → Step told faults (Read by) outcome (seen_of before) (seen_of now) → now.start ≡ before.start
read-start told faults by outcome before now step = λ i. record { marker = before.start.marker; value = step.rest.start i }

read-stays : {D : Type 0} (told : D → Option Store) (faults : D → ℕ) (by : Option Reader) (before now : House D) (why : HouseFault) → IsWhole told before
    → Step told faults (Read by) (fault_outcome why) (seen_of before) (seen_of now) → StaysPutWithin profile told why now → StaysWhole told why now
read-stays told faults by before now house.Store whole step stays = tt
read-stays told faults by before now house.NoMemory whole step stays = reads-keep-whole told faults by Refused before now whole step stays
read-stays told faults by before now (house.Failed count) whole step stays = reads-keep-whole told faults by (Failed count) before now whole step stays

-- it failed
pub read-failed : {D T : Type 0} (told : D → Option Store) (faults : D → ℕ) (by : Option Reader) (call : Call) (before now : House D) (why : HouseFault)
    → IsWhole told before → Step told faults (Read by) (fault_outcome why) (seen_of before) (seen_of now) → StaysPutWithin profile told why now
    → faults before.shelf ≤ faults now.shelf → HasRisen (faults before.shelf) (faults now.shelf) why
    → Step told faults call (fault_outcome why) (seen_of before) (seen_of now)
    → JobStep {T = T} told faults call before now (Err (fault.House why))
read-failed told faults by call before now why whole read stays later risen step = record {
  whole = tt;
  stays = read-stays told faults by before now why whole read stays;
  same = tt;
  opens = reads-still-open told faults by (fault_outcome why) before now whole read;
  start = read-start told faults by (fault_outcome why) before now read;
  step = step;
  later = later;
  failed = risen;
}

-- what would have been noted behind it wasn't
module _ {D : Type 0} (told : D → Option Store) (faults : D → ℕ) (by : Option Reader) (event : Entry) (before now : House D) where
  kept-none : (book : List Entry) (s t : Store) → t ≡ s → NotesNone book s t
  kept-none book s t same = record {
    tree_is = ap (λ (x : Store). x.tree) same;
    reads = λ is. subst (λ (x : Store). IsJournal book x.journal) (sym same) is;
  }

  kept-or-not : (book : List Entry) (s t : Store) → t ≡ s → NotesOrNot (event ∷ []) book s t
  kept-or-not book s t same = record {
    tree_is = ap (λ (x : Store). x.tree) same;
    reads = λ is. inl (subst (λ (x : Store). IsJournal book x.journal) (sym same) is);
  }

  pub unread-note : Step told faults (Read by) Refused (seen_of before) (seen_of now) → Step told faults (Note event) Refused (seen_of before) (seen_of now)
  unread-note step = record {
    may = tt;
    trail = step.trail;
    store =
        Moves-weaken (λ (s t : Store). t ≡ s) (NotesNone (book_of (trail_of before.trail))) (kept-none (book_of (trail_of before.trail))) (told before.shelf) (told now.shelf)
        step.store;
    closed = step.closed;
    starved = step.starved;
    shut_out = step.shut_out;
    counts = step.counts;
    rest = step.rest;
  }

  pub shut-note : Step told faults (Read by) Closed (seen_of before) (seen_of now) → Step told faults (Note event) Closed (seen_of before) (seen_of now)
  shut-note step = record {
    may = tt;
    trail = step.trail;
    store =
        Moves-weaken (λ (s t : Store). t ≡ s) (NotesOrNot (event ∷ []) (book_of (trail_of before.trail))) (kept-or-not (book_of (trail_of before.trail)))
        (told before.shelf) (told now.shelf) step.store;
    closed = step.closed;
    starved = step.starved;
    shut_out = step.shut_out;
    counts = step.counts;
    rest = step.rest;
  }

-- the hard counts of both
pub hard-behind : (hard hard' hard'' : ℕ) (was mid is : Bool) → mid ≡ was → HardStep hard hard' was mid → HardStep hard' hard'' mid is → HardStep hard hard'' was is
hard-behind hard hard' hard'' was mid is same first second = record {
  later = (let low : hard ≤ hard' = first.later in let more : hard' ≤ hard'' = second.later in omega (arith, low, more));
  shuts = λ open_ shut.
      let low : hard ≤ hard' = first.later in
      let risen : Rose hard' hard'' = second.shuts (same ∙ open_) shut in
      omega (arith, low, risen);
}

-- ---- behind a call that read

module _ {D : Type 0} (told : D → Option Store) (faults : D → ℕ) (by : Option Reader) (before mid : House D)
    (read : Step told faults (Read by) Done (seen_of before) (seen_of mid)) (same : told mid.shelf ≡ told before.shelf) where
  trail-same : trail_of mid.trail ≡ trail_of before.trail
  trail-same = read.trail ∙ append-nil (trail_of before.trail)

  or-false : (b : Bool) → b || false ≡ b
  or-false true = refl
  or-false false = refl

  pub closed-same : mid.trail.closed ≡ before.trail.closed
  closed-same = read.closed ∙ or-false before.trail.closed

  more-behind : (n : ℕ) → faults mid.shelf ≤ n → faults before.shelf ≤ n
  more-behind n more =
      let low : faults before.shelf ≤ faults mid.shelf = read.counts in
      omega (arith, low, more)

  counts-behind : (outcome : Outcome) (n : ℕ) → Counts outcome (faults mid.shelf) n → Counts outcome (faults before.shelf) n
  counts-behind (Failed count) n is = (
    is.0,
    (
        let low : faults before.shelf ≤ faults mid.shelf = read.counts in
        let rose : Rose (faults mid.shelf) n = is.1 in
        omega (arith, low, rose)
        ),
  )
  counts-behind Done n is = more-behind n is
  counts-behind (Conflict with_ table partition) n is = more-behind n is
  counts-behind Closed n is = more-behind n is
  counts-behind Starved n is = more-behind n is
  counts-behind Refused n is = more-behind n is

  pub step-behind : (call : Call) (outcome : Outcome) (now : House D) → Step told faults call outcome (seen_of mid) (seen_of now)
      → Step told faults call outcome (seen_of before) (seen_of now)
  step-behind call outcome now step = record {
    may = step.may;
    trail = step.trail ∙ ap (λ items. items ++ gains call outcome) trail-same;
    store =
        subst (λ o. Moves (Changes (book_of (trail_of before.trail)) call outcome) o (told now.shelf)) same
        (subst (λ (items : List TrailItem). Moves (Changes (book_of items) call outcome) (told mid.shelf) (told now.shelf)) trail-same step.store);
    closed = step.closed ∙ ap (λ b. b || shuts outcome) closed-same;
    starved = subst (λ b. StarvesBy outcome b now.trail.starved) read.starved step.starved;
    shut_out = λ shut. step.shut_out (closed-same ∙ shut);
    counts = counts-behind outcome (faults now.shelf) step.counts;
    rest = record {
      start = step.rest.start ∙ read.rest.start;
      opened = step.rest.opened ∙ read.rest.opened;
      limits = step.rest.limits ∙ read.rest.limits;
    };
  }

  risen-behind : (n : ℕ) (why : JobFault) → HasRisenFor (faults mid.shelf) n why → HasRisenFor (faults before.shelf) n why
  risen-behind n (fault.House house.Store) risen =
      let low : faults before.shelf ≤ faults mid.shelf = read.counts in
      let rose : Rose (faults mid.shelf) n = risen in
      omega (arith, low, rose)
  risen-behind n (fault.House house.NoMemory) risen = tt
  risen-behind n (fault.House (house.Failed count)) risen = (
    risen.0,
    (
        let low : faults before.shelf ≤ faults mid.shelf = read.counts in
        let rose : faults mid.shelf < n = risen.1 in
        omega (arith, low, rose)
        ),
  )
  risen-behind n fault.Gone risen = tt
  risen-behind n (fault.Full entries) risen = tt
  risen-behind n fault.NotFound risen = tt
  risen-behind n (fault.Needed txn) risen = tt
  risen-behind n (fault.StillListed dir) risen = tt
  risen-behind n (fault.Working job) risen = tt
  risen-behind n fault.Starved risen = tt

  -- of which no test refuses what was only asked
  pub ok-behind : {T : Type 0} (call : Call) (now : House D) (x : T) → mid.start ≡ before.start → JobStep told faults call mid now (Ok x)
      → JobStep told faults call before now (Ok x)
  ok-behind call now x start step = record {
    whole = step.whole;
    stays = tt;
    same = tt;
    opens = λ is. tt;
    start = step.start ∙ start;
    step = step-behind call Done now step.step;
    later = more-behind (faults now.shelf) step.later;
    failed = tt;
  }

  pub house-behind : {T : Type 0} (call : Call) (now : House D) (why : HouseFault) → mid.start ≡ before.start → (IsToldHouse told before → IsToldHouse told mid)
      → JobStep {T = T} told faults call mid now (Err (fault.House why)) → JobStep {T = T} told faults call before now (Err (fault.House why))
  house-behind call now why start told_mid step = record {
    whole = tt;
    stays = step.stays;
    same = tt;
    opens = λ is. step.opens (told_mid is);
    start = step.start ∙ start;
    step = step-behind call (fault_outcome why) now step.step;
    later = more-behind (faults now.shelf) step.later;
    failed = risen-behind (faults now.shelf) (fault.House why) step.failed;
  }

  -- of which a test behind it refused it
  pub listed-on : {T : Type 0} (now : House D) (dir : List ℕ) → mid.start ≡ before.start → (IsToldHouse told before → IsToldHouse told mid)
      → JobStep {T = T} told faults Ask mid now (Err (fault.StillListed dir)) → JobStep {T = T} told faults Ask before now (Err (fault.StillListed dir))
  listed-on now dir start told_mid step = record {
    whole = tt;
    stays = step.stays;
    same = tt;
    opens = λ is. step.opens (told_mid is);
    start = step.start ∙ start;
    step = step-behind Ask Refused now step.step;
    later = more-behind (faults now.shelf) step.later;
    failed = tt;
  }

  -- the directory that is listed
  pub listed-behind : {T : Type 0} (dir : List ℕ) → mid.start ≡ before.start → IsWhole told mid → (IsToldHouse told before → StillOpens told mid)
      → JobStep {T = T} told faults Ask before mid (Err (fault.StillListed dir))
  listed-behind dir start whole opens = record {
    whole = tt;
    stays = whole;
    same = tt;
    opens = opens;
    start = start;
    step = step-behind Ask Refused mid (asked-refused told faults mid);
    later = read.counts;
    failed = tt;
  }

  -- memory lacked behind it
  pub lacked-behind : {T : Type 0} (call : Call) → MayEnd call Refused → gains call Refused ≡ [] → ((s : Store) → Changes (book_of (trail_of mid.trail)) call Refused s s)
      → mid.start ≡ before.start → (IsToldHouse told before → IsToldHouse told mid) → IsWhole told mid
      → JobStep {T = T} told faults call before mid (Err (fault.House house.NoMemory))
  lacked-behind call may none changes start told_mid whole =
      house-behind call mid house.NoMemory start told_mid (lacked told faults mid call may none changes whole)
