-- What a publication is as a step.
use Rattle.std.proofs.Common.{◌≡◌, ◌≤◌, inl, ℕ, Bool, true, false, true≢false, Option, Some, None, Result, Ok, Err, List, [], ◌∷◌, ◌++◌, refl, sym, ap, ◌∙◌, subst, arith, append-nil}
use Rattle.std.specs.Prelude.{◌||◌, ◌&&◌, not}
use Rattle.hv_base.specs.declared.ids.Limits.{Limits}
use Rattle.hv_base.specs.Faults.{Rose}
use Rattle.hv_base.specs.Told.{Moves}
use Rattle.hv_base.proofs.ToldLemmas.{Moves-then, Moves-weaken}
use Rattle.hv_shelf.specs.declared.fault.ShelfFault.{ShelfFault}
use Rattle.hv_shelf.specs.declared.fault.ShelfFault.TheVariants as shelf
use Rattle.hv_shelf.specs.Disk.{Store}
use Rattle.hv_history.specs.declared.entry.Entry.{Entry}
use Rattle.hv_history.specs.Journal.{IsJournal}
use Rattle.hv_trail.specs.declared.trail.Renaming.{Renaming}
use Rattle.hv_trail.specs.Trail.{book_of}
use Rattle.hv_trail.specs.Kept.{trail_of}
use Rattle.hv_trail.specs.Steps.{Note, Publish, Ask, Done, Closed, Starved, Refused, Notes, NotesOrNot, NotesNone, AreMoved, PublishesAs, EndsCut, CutsPublication, StarvesPublication, KeepsRest, Step}
use Rattle.hv_house.specs.declared.fault.HouseFault.{HouseFault}
use Rattle.hv_house.specs.declared.fault.HouseFault.TheVariants as house
use Rattle.hv_house.specs.declared.house.House.{House}
use Rattle.hv_house.specs.declared.publishing.PublishFault.{PublishFault}
use Rattle.hv_house.specs.declared.publishing.PublishFault.TheVariants as fault
use Rattle.hv_house.specs.declared.renaming.RenameFault.{RenameFault}
use Rattle.hv_house.specs.Faults.{HasRisen, EndsRun, HardStep}
use Rattle.hv_house.specs.House.{IsReadyWithin, IsNoted, IsHalted, KeepsJournal}
use Rattle.hv_house.specs.Steps.{seen_of, fault_outcome}
use Rattle.hv_house.specs.Publishing.{IsUntouched, CutsBy, RenamesCause, IsFailed, IsRoomy, stop_by, ClosesFor, StarvesFor, StopsRenaming, StarvesNoting, measured, IsToldOf, PublishStepWithin, told_fault, IsStarvedFrom, StopsTelling}
use Rattle.hv_house.proofs.Hards.{left_step}
use Rattle.hv_house.proofs.Readings.{gains-nothing}
use Rattle.hv_house.proofs.Ready.{put-ready, asked-ready}
use Rattle.hv_house.proofs.Renamed.{moved-journal}
use Rattle.hv_house.proofs.Steps.{same-trail}

-- ---- stores

-- the journal wasn't told, whatever else was to be done
ends-still : (rest : List Renaming) (event : Entry) (book : List Entry) (s : Store) → EndsCut rest event book s s
ends-still [] event book s = record { tree_is = refl; reads = λ is. inl is }
ends-still (renaming ∷ rest) event book s = record { tree_is = refl; reads = λ is. is }

moved-keeps : (renamings : List Renaming) (a b : Store) → AreMoved renamings a b → KeepsJournal a b
moved-keeps renamings a b moved = moved-journal renamings a b moved

untouched-none : (book : List Entry) (a b : Store) → IsUntouched a b → NotesNone book a b
untouched-none book a b same = record {
  tree_is = ap (λ (s : Store). s.tree) same;
  reads = λ is. subst (λ (s : Store). IsJournal book s.journal) (sym same) is;
}

-- ---- the directories have their names

module _ {D : Type 0} (limits : Limits) (told : D → Option Store) (faults : D → ℕ) (renamings : List Renaming) (event : Entry)
    (before : House D) (s : D) (ready : IsReadyWithin limits told before)
    (moved : Moves (AreMoved renamings) (told before.shelf) (told s)) where
  abbrev pub named : House D
  named = record { start = before.start; shelf = s; place = before.place; buffer = before.buffer; trail = before.trail; limits = before.limits }

  abbrev told_book : List Entry
  told_book = book_of (trail_of before.trail)

  pub moved-ready : IsReadyWithin limits told named
  moved-ready =
      put-ready limits told before named Ask
      (gains-nothing Ask Done before named refl refl ready.kept.running refl refl refl refl refl refl refl refl)
      (Moves-weaken (AreMoved renamings) KeepsJournal (moved-keeps renamings) (told before.shelf) (told s) moved) ready

  module _ (now : House D) (later : faults before.shelf ≤ faults s) where
    closed-still : before.trail.closed ≡ true → {A : Type 0} → A
    closed-still shut = absurd (true≢false (sym shut ∙ ready.kept.running))

    done-step : Step told faults (Note event) Done (seen_of named) (seen_of now) → Step told faults (Publish renamings event) Done (seen_of before) (seen_of now)
    done-step step = record {
      may = tt;
      trail = step.trail;
      store =
          Moves-then (AreMoved renamings) (Notes (event ∷ []) told_book) (PublishesAs renamings event told_book)
          (λ x y z m n. record { middle = y; moved = m; noted = n }) (told before.shelf) (told s) (told now.shelf) moved step.store;
      closed = step.closed;
      starved = step.starved;
      shut_out = λ shut. closed-still shut;
      counts = (let more : faults s ≤ faults now.shelf = step.counts in omega (arith, later, more));
      rest = record { start = step.rest.start; opened = step.rest.opened; limits = step.rest.limits };
    }

    shut-step : Step told faults (Note event) Closed (seen_of named) (seen_of now) → Step told faults (Publish renamings event) Closed (seen_of before) (seen_of now)
    shut-step step = record {
      may = tt;
      trail = step.trail;
      store =
          Moves-then (AreMoved renamings) (NotesOrNot (event ∷ []) told_book) (CutsPublication renamings event told_book)
          (λ x y z m n. record { front = renamings; rest = []; parts = sym (append-nil renamings); middle = y; moved = m; ends = n })
          (told before.shelf) (told s) (told now.shelf) moved step.store;
      closed = step.closed;
      starved = step.starved;
      shut_out = λ shut. closed-still shut;
      counts = (let more : faults s ≤ faults now.shelf = step.counts in omega (arith, later, more));
      rest = record { start = step.rest.start; opened = step.rest.opened; limits = step.rest.limits };
    }

    starved-step : faults s ≤ faults now.shelf → StarvesNoting told named now → Step told faults (Publish renamings event) Starved (seen_of before) (seen_of now)
    starved-step more starves = record {
      may = tt;
      trail = starves.trail ∙ sym (append-nil (trail_of before.trail));
      store =
          Moves-then (AreMoved renamings) (NotesNone told_book) (StarvesPublication renamings told_book)
          (λ x y z m n. record { front = renamings; rest = []; parts = sym (append-nil renamings); middle = y; moved = m; ends = n })
          (told before.shelf) (told s) (told now.shelf) moved starves.store;
      closed = starves.closed ∙ sym (ap (λ c. c || true) ready.kept.running);
      starved = starves.starved;
      shut_out = λ shut. closed-still shut;
      counts = omega (arith, later, more);
      rest = record { start = starves.rest.start; opened = starves.rest.opened; limits = starves.rest.limits };
    }

    risen-over : (why : HouseFault) → HasRisen (faults s) (faults now.shelf) why → HasRisen (faults before.shelf) (faults now.shelf) why
    risen-over house.Store risen = omega (arith, later, risen)
    risen-over house.NoMemory risen = tt
    risen-over (house.Failed count) risen = (risen.0, (let above = risen.1 in omega (arith, later, above)))

    pub published-by : (result : Result (Unit {0}) PublishFault) → IsToldOf (measured limits told faults) event named now result
        → PublishStepWithin (measured limits told faults) renamings event before now result
    published-by (Ok x) is = record {
      ready = is.ready;
      noted = is.noted;
      unnoted = tt;
      stays = tt;
      ends = tt;
      step = done-step is.tells;
      later = (let more = is.later in omega (arith, later, more));
      failed = tt;
    }
    published-by (Err fault.Starved) is = record {
      ready = tt;
      noted = tt;
      unnoted = is.unnoted;
      stays = tt;
      ends = tt;
      step = starved-step is.later is.tells;
      later = (let more = is.later in omega (arith, later, more));
      failed = tt;
    }
    published-by (Err (fault.House house.Store)) is = record {
      ready = tt;
      noted = tt;
      unnoted = is.unnoted;
      stays = tt;
      ends = tt;
      step = shut-step is.tells;
      later = (let more = is.later in omega (arith, later, more));
      failed = risen-over house.Store is.failed;
    }
    published-by (Err (fault.House house.NoMemory)) is = absurd is.tells
    published-by (Err (fault.House (house.Failed count))) is = absurd is.tells

-- ---- one of them didn't get its name

module _ {D : Type 0} (limits : Limits) (told : D → Option Store) (faults : D → ℕ) (renamings : List Renaming) (event : Entry)
    (before now : House D) (s : D) (ready : IsReadyWithin limits told before) where
  abbrev part_named : House D
  part_named = record { start = before.start; shelf = s; place = before.place; buffer = before.buffer; trail = before.trail; limits = before.limits }

  abbrev cut_book : List Entry
  cut_book = book_of (trail_of before.trail)

  front-cuts : (why : RenameFault) (a b : Store) → CutsBy renamings why a b → CutsPublication renamings event cut_book a b
  front-cuts why a b cut = record {
    front = cut.0.front;
    rest = cut.0.rest;
    parts = cut.0.parts;
    middle = b;
    moved = cut.0.moved;
    ends = ends-still cut.0.rest event cut_book b;
  }

  front-starves : (why : RenameFault) (a b : Store) → CutsBy renamings why a b → StarvesPublication renamings cut_book a b
  front-starves why a b cut = record {
    front = cut.0.front;
    rest = cut.0.rest;
    parts = cut.0.parts;
    middle = b;
    moved = cut.0.moved;
    ends = record { tree_is = refl; reads = λ is. is };
  }

  module _ (why : RenameFault) (stops : StopsRenaming why part_named now) where
    same-rest : KeepsRest (seen_of before) (seen_of now)
    same-rest = record { start = ap (λ h. h.value) stops.start; opened = stops.left; limits = stops.limits }

    trail-still : trail_of now.trail ≡ trail_of before.trail ++ []
    trail-still = same-trail before now stops.entries stops.marks ∙ sym (append-nil (trail_of before.trail))

    moves-now : (R : Store → Store → Type 0) → Moves R (told before.shelf) (told s) → Moves R (told before.shelf) (told now.shelf)
    moves-now R moved = subst (λ (d : D). Moves R (told before.shelf) (told d)) (sym stops.shelf) moved

    later-now : faults before.shelf ≤ faults s → faults before.shelf ≤ faults now.shelf
    later-now later = subst (λ (d : D). faults before.shelf ≤ faults d) (sym stops.shelf) later

  cut-ends : (begun : Bool) (why : ShelfFault) → Moves (CutsBy renamings (record { begun = begun; why = why })) (told before.shelf) (told s)
      → faults before.shelf ≤ faults s → (why ≡ shelf.Failed → Rose (faults before.shelf) (faults s))
      → StopsRenaming (record { begun = begun; why = why }) part_named now
      → PublishStepWithin (measured limits told faults) renamings event before now (Err (stop_by begun why))
  cut-ends begun shelf.Failed cut later failed stops =
      let fault_ : RenameFault = record { begun = begun; why = shelf.Failed } in
      record {
        ready = tt;
        noted = tt;
        unnoted = stops.entries;
        stays = tt;
        ends = tt;
        step = record {
          may = tt;
          trail = trail-still fault_ stops;
          store = moves-now fault_ stops (CutsPublication renamings event cut_book)
              (Moves-weaken (CutsBy renamings fault_) (CutsPublication renamings event cut_book) (front-cuts fault_) (told before.shelf) (told s) cut);
          closed = stops.closed ∙ sym (ap (λ c. c || true) ready.kept.running);
          starved = stops.starved;
          shut_out = λ shut. absurd (true≢false (sym shut ∙ ready.kept.running));
          counts = later-now fault_ stops later;
          rest = same-rest fault_ stops;
        };
        later = later-now fault_ stops later;
        failed = subst (λ (d : D). Rose (faults before.shelf) (faults d)) (sym stops.shelf) (failed refl);
      }
  cut-ends true shelf.NoMemory cut later failed stops =
      let fault_ : RenameFault = record { begun = true; why = shelf.NoMemory } in
      record {
        ready = tt;
        noted = tt;
        unnoted = stops.entries;
        stays = tt;
        ends = tt;
        step = record {
          may = tt;
          trail = trail-still fault_ stops;
          store = moves-now fault_ stops (StarvesPublication renamings cut_book)
              (Moves-weaken (CutsBy renamings fault_) (StarvesPublication renamings cut_book) (front-starves fault_) (told before.shelf) (told s) cut);
          closed = stops.closed ∙ sym (ap (λ c. c || true) ready.kept.running);
          starved = stops.starved;
          shut_out = λ shut. absurd (true≢false (sym shut ∙ ready.kept.running));
          counts = later-now fault_ stops later;
          rest = same-rest fault_ stops;
        };
        later = later-now fault_ stops later;
        failed = tt;
      }
  cut-ends false shelf.NoMemory cut later failed stops =
      let fault_ : RenameFault = record { begun = false; why = shelf.NoMemory } in
      let still : Moves IsUntouched (told before.shelf) (told now.shelf) =
      moves-now fault_ stops IsUntouched (Moves-weaken (CutsBy renamings fault_) IsUntouched (λ a b cuts. cuts.1 refl refl) (told before.shelf) (told s) cut) in
      record {
        ready = tt;
        noted = tt;
        unnoted = stops.entries;
        stays =
            put-ready limits told before now Ask
            (gains-nothing Ask Done before now refl refl ready.kept.running stops.place stops.start stops.entries stops.marks stops.left stops.limits stops.closed stops.starved)
            (Moves-weaken IsUntouched KeepsJournal (λ a b same. ap (λ (x : Store). x.journal) same) (told before.shelf) (told now.shelf) still) ready;
        ends = tt;
        step = record {
          may = tt;
          trail = trail-still fault_ stops;
          store = Moves-weaken IsUntouched (NotesNone cut_book) (untouched-none cut_book) (told before.shelf) (told now.shelf) still;
          closed = stops.closed ∙ ready.kept.running ∙ sym (ap (λ c. c || false) ready.kept.running);
          starved = stops.starved;
          shut_out = λ shut. absurd (true≢false (sym shut ∙ ready.kept.running));
          counts = later-now fault_ stops later;
          rest = same-rest fault_ stops;
        };
        later = later-now fault_ stops later;
        failed = tt;
      }

  pub stopped-by : (T : Type 0) (why : RenameFault) (hard : D → ℕ) (result : PublishFault) → result ≡ stop_by why.begun why.why
      → Moves (CutsBy renamings why) (told before.shelf) (told s)
      → RenamesCause (IsFailed {T = T} (Err why)) (faults before.shelf) (faults s) (hard before.shelf) (hard s)
      → StopsRenaming why part_named now → PublishStepWithin (measured limits told faults) renamings event before now (Err result)
  stopped-by T why hard result is cut cause stops =
      subst (λ (w : PublishFault). PublishStepWithin (measured limits told faults) renamings event before now (Err w)) (sym is)
      (cut-ends why.begun why.why cut cause.later cause.failed stops)

-- ---- there was no room

pub roomless : {D : Type 0} (limits : Limits) (told : D → Option Store) (faults : D → ℕ) (renamings : List Renaming) (event : Entry) (before now : House D)
    → IsReadyWithin limits told before → IsRoomy before now
    → PublishStepWithin (measured limits told faults) renamings event before now (Err (fault.House house.NoMemory))
roomless limits told faults renamings event before now ready roomy = record {
  ready = tt;
  noted = tt;
  unnoted = roomy.entries;
  stays =
      asked-ready limits told before now (record { store = ap told roomy.shelf; place = roomy.place; book = roomy.entries }) roomy.limits roomy.closed
      roomy.starved ready;
  ends = tt;
  step = record {
    may = tt;
    trail = same-trail before now roomy.entries roomy.marks ∙ sym (append-nil (trail_of before.trail));
    store = same-store (told before.shelf) (told now.shelf) (ap told roomy.shelf);
    closed = roomy.closed ∙ ready.kept.running ∙ sym (ap (λ c. c || false) ready.kept.running);
    starved = roomy.starved;
    shut_out = λ shut. absurd (true≢false (sym shut ∙ ready.kept.running));
    counts = omega (arith, ap faults roomy.shelf);
    rest = record { start = ap (λ h. h.value) roomy.start; opened = roomy.left; limits = roomy.limits };
  };
  later = omega (arith, ap faults roomy.shelf);
  failed = tt;
}
  where
    same-store : (a b : Option Store) → b ≡ a → Moves (NotesNone (book_of (trail_of before.trail))) a b
    same-store a b e = subst (Moves (NotesNone (book_of (trail_of before.trail))) a) (sym e) (by a)
      where
        by : (o : Option Store) → Moves (NotesNone (book_of (trail_of before.trail))) o o
        by None = tt
        by (Some x) = record { tree_is = refl; reads = λ is. is }

-- ---- the entry

module _ {D : Type 0} (limits : Limits) (told : D → Option Store) (faults : D → ℕ) (event : Entry) (before : House D) where
  pub told-done : (now : House D) (x : Unit {0}) → IsReadyWithin limits told now → IsNoted told event before now
      → Step told faults (Note event) Done (seen_of before) (seen_of now) → IsToldOf (measured limits told faults) event before now (Ok x)
  told-done now x ready noted step = record {
    ready = ready;
    noted = noted.entries;
    unnoted = tt;
    tells = step;
    later = step.counts;
    failed = tt;
  }

  told-shut : (now : House D) → IsHalted told event house.Store before now → HasRisen (faults before.shelf) (faults now.shelf) house.Store
      → Step told faults (Note event) Closed (seen_of before) (seen_of now) → IsToldOf (measured limits told faults) event before now (Err (fault.House house.Store))
  told-shut now halted risen step = record {
    ready = tt;
    noted = tt;
    unnoted = halted.entries;
    tells = step;
    later = step.counts;
    failed = risen;
  }

  -- memory lacked, and the house was closed
  told-starved : (mid now : House D) → IsHalted told event house.NoMemory before mid → Step told faults (Note event) Refused (seen_of before) (seen_of mid)
      → IsStarvedFrom mid now → IsToldOf (measured limits told faults) event before now (Err fault.Starved)
  told-starved mid now halted step from = record {
    ready = tt;
    noted = tt;
    unnoted = from.entries ∙ halted.entries;
    tells = record {
      trail = same-trail mid now from.entries from.marks ∙ step.trail ∙ append-nil (trail_of before.trail);
      store =
          subst (λ (d : D). Moves (NotesNone (book_of (trail_of before.trail))) (told before.shelf) (told d)) (sym from.shelf) step.store;
      closed = from.closed;
      starved = from.starved;
      rest = record {
        start = ap (λ h. h.value) from.start ∙ step.rest.start;
        opened = from.left ∙ step.rest.opened;
        limits = from.limits ∙ step.rest.limits;
      };
    };
    later = subst (λ (d : D). faults before.shelf ≤ faults d) (sym from.shelf) step.counts;
    failed = tt;
  }

  told-by : (why : HouseFault) (mid now : House D) → IsHalted told event why before mid → EndsRun why
      → HasRisen (faults before.shelf) (faults mid.shelf) why → Step told faults (Note event) (fault_outcome why) (seen_of before) (seen_of mid)
      → StopsTelling why mid now → IsToldOf (measured limits told faults) event before now (Err (told_fault why))
  told-by house.NoMemory mid now halted ends risen step stops = told-starved mid now halted step stops
  told-by house.Store mid now halted ends risen step stops =
      subst (λ (h : House D). IsToldOf (measured limits told faults) event before h (Err (fault.House house.Store))) (sym stops) (told-shut mid halted risen step)
  told-by (house.Failed count) mid now halted ends risen step stops = absurd ends

  -- it wasn't noted
  pub untold : (why : HouseFault) (result : PublishFault) (mid now : House D) → result ≡ told_fault why → IsHalted told event why before mid → EndsRun why
      → HasRisen (faults before.shelf) (faults mid.shelf) why → Step told faults (Note event) (fault_outcome why) (seen_of before) (seen_of mid)
      → StopsTelling why mid now → IsToldOf (measured limits told faults) event before now (Err result)
  untold why result mid now is halted ends risen step stops =
      subst (λ (w : PublishFault). IsToldOf (measured limits told faults) event before now (Err w)) (sym is) (told-by why mid now halted ends risen step stops)

-- ---- the hard count

and-no : (a b : Bool) → b ≡ true → (a && not b) ≡ false
and-no true b e = ap not e
and-no false b e = refl

-- one that is starved isn't shut by a fault
pub starved-hard : (hard hard' : ℕ) (was closed starved : Bool) → hard ≤ hard' → starved ≡ true → HardStep hard hard' was (closed && not starved)
starved-hard hard hard' was closed starved later is = record {
  later = later;
  shuts = λ w i. absurd (true≢false (sym i ∙ and-no closed starved is));
}

first-so : (a b : Bool) → (a && b) ≡ true → a ≡ true
first-so true b e = refl
first-so false b e = e

pub shut-hard : (hard hard' : ℕ) (was closed starved : Bool) → HardStep hard hard' was closed → HardStep hard hard' was (closed && not starved)
shut-hard hard hard' was closed starved step = record { later = step.later; shuts = λ w i. step.shuts w (first-so closed (not starved) i) }

still-hard : {D : Type 0} (hard : D → ℕ) (before mid now : House D) → now ≡ mid
    → HardStep (hard before.shelf) (hard mid.shelf) before.trail.closed mid.trail.closed
    → HardStep (hard before.shelf) (hard now.shelf) before.trail.closed (now.trail.closed && not now.trail.starved)
still-hard {D = D} hard before mid now same step =
    subst (λ (h : House D). HardStep (hard before.shelf) (hard h.shelf) before.trail.closed (h.trail.closed && not h.trail.starved)) (sym same)
    (shut-hard (hard before.shelf) (hard mid.shelf) before.trail.closed mid.trail.closed mid.trail.starved step)

-- the entry wasn't noted
pub untold-hard : {D : Type 0} (hard : D → ℕ) (why : HouseFault) (before mid now : House D) → StopsTelling why mid now
    → HardStep (hard before.shelf) (hard mid.shelf) before.trail.closed mid.trail.closed
    → HardStep (hard before.shelf) (hard now.shelf) before.trail.closed (now.trail.closed && not now.trail.starved)
untold-hard {D = D} hard house.NoMemory before mid now from step =
    starved-hard (hard before.shelf) (hard now.shelf) before.trail.closed now.trail.closed now.trail.starved
    (subst (λ (d : D). hard before.shelf ≤ hard d) (sym from.shelf) step.later) from.starved
untold-hard hard house.Store before mid now same step = still-hard hard before mid now same step
untold-hard hard (house.Failed count) before mid now same step = still-hard hard before mid now same step

-- there was no room
pub roomless-hard : {D : Type 0} (hard : D → ℕ) (before now : House D) → IsRoomy before now
    → HardStep (hard before.shelf) (hard now.shelf) before.trail.closed (now.trail.closed && not now.trail.starved)
roomless-hard {D = D} hard before now roomy =
    subst (λ (d : D). HardStep (hard before.shelf) (hard d) before.trail.closed (now.trail.closed && not now.trail.starved)) (sym roomy.shelf)
    (shut-hard (hard before.shelf) (hard before.shelf) before.trail.closed now.trail.closed now.trail.starved
    (left_step (hard before.shelf) before.trail.closed now.trail.closed roomy.closed))

-- behind directories that got their names
pub over-hard : (hard mid hard' : ℕ) (was is : Bool) → hard ≤ mid → HardStep mid hard' was is → HardStep hard hard' was is
over-hard hard mid hard' was is low step = record {
  later = (let more = step.later in omega (arith, low, more));
  shuts = λ w i. (let rose = step.shuts w i in omega (arith, low, rose));
}

-- one of them didn't
pub stop-hard : {D : Type 0} (T : Type 0) (hard faults : D → ℕ) (why : RenameFault) (before mid now : House D) (s : D) → before.trail.closed ≡ false → mid.trail.closed ≡ false
    → StopsRenaming why mid now
    → RenamesCause (IsFailed {T = T} (Err why)) (faults before.shelf) (faults s) (hard before.shelf) (hard s) → now.shelf ≡ s
    → HardStep (hard before.shelf) (hard now.shelf) before.trail.closed (now.trail.closed && not now.trail.starved)
stop-hard {D = D} T hard faults why before mid now s running open_ stops cause at = record {
  later = subst (λ (d : D). hard before.shelf ≤ hard d) (sym at) cause.hard_later;
  shuts = λ w i. subst (λ (d : D). Rose (hard before.shelf) (hard d)) (sym at) (by why.begun why.why stops.closed stops.starved cause.failed_hard i);
}
  where
    by : (begun : Bool) (w : ShelfFault) → ClosesFor (stop_by begun w) mid.trail.closed now.trail.closed
        → StarvesFor (stop_by begun w) mid.trail.starved now.trail.starved → (w ≡ shelf.Failed → Rose (hard before.shelf) (hard s))
        → (now.trail.closed && not now.trail.starved) ≡ true → Rose (hard before.shelf) (hard s)
    by begun shelf.Failed closed starved rose i = rose refl
    by true shelf.NoMemory closed starved rose i = absurd (true≢false (sym i ∙ and-no now.trail.closed now.trail.starved starved))
    by false shelf.NoMemory closed starved rose i =
        absurd (true≢false (sym (first-so now.trail.closed (not now.trail.starved) i) ∙ closed ∙ open_))
