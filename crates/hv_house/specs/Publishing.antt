-- A publication: directories get their names, one after another, and then an entry is noted.
use Rattle.std.specs.Prelude.{◌≡◌, ℕ, ◌≤◌, ◌&&◌, Bool, true, false, not, Option, List, [], ◌∷◌, ◌++◌, Result, Ok, Err, IfOk, IfErr}
use Rattle.hv_base.specs.Faults.{Rose}
use Rattle.hv_base.specs.Told.{Moves}
use Rattle.hv_base.specs.declared.ids.Limits.{Limits}
use Rattle.hv_shelf.specs.declared.fault.ShelfFault.{ShelfFault}
use Rattle.hv_shelf.specs.declared.fault.ShelfFault.TheVariants as shelf
use Rattle.hv_shelf.specs.Disk.{Store}
use Rattle.hv_history.specs.declared.entry.Entry.{Entry}
use Rattle.hv_trail.specs.declared.trail.Renaming.{Renaming}
use Rattle.hv_trail.specs.Trail.{book_of}
use Rattle.hv_trail.specs.Kept.{trail_of}
use Rattle.hv_trail.specs.Steps.{Note, Publish, Outcome, Done, Closed, Starved, Step, KeepsRest, NotesNone, AreMoved}
use Rattle.hv_house.specs.declared.renaming.RenameFault.{RenameFault}
use Rattle.hv_house.specs.declared.publishing.PublishFault.{PublishFault}
use Rattle.hv_house.specs.declared.publishing.PublishFault.TheVariants as fault
use Rattle.hv_house.specs.declared.fault.HouseFault.{HouseFault}
use Rattle.hv_house.specs.declared.fault.HouseFault.TheVariants as house
use Rattle.hv_house.specs.declared.house.House.{House}
use Rattle.hv_house.specs.Faults.{HasRisen, HardStep}
use Rattle.hv_house.specs.House.{entries_of, IsReadyWithin}
use Rattle.hv_house.specs.Steps.{seen_of, fault_outcome, ClosesBy}

-- ---- the names

-- the first ones got their names
pub record IsFrontMoved (renamings : List Renaming) (before now : Store) : Type 0 where
  pub front : List Renaming
  pub rest : List Renaming
  pub parts : renamings ≡ front ++ rest
  pub moved : AreMoved front before now

abbrev pub IsUntouched : Store → Store → Type 0
IsUntouched before now = now ≡ before

-- what a fault at one of them leaves: where memory lacked at the first one nothing was done
abbrev pub CutsBy : List Renaming → RenameFault → Store → Store → Type 0
CutsBy renamings why before now =
    IsFrontMoved renamings before now × (why.why ≡ shelf.NoMemory → why.begun ≡ false → IsUntouched before now)

-- Of several renamings: no count falls, and where one failed both rose.
pub record RenamesCause (Fails : Type 0) (faults faults' hard hard' : ℕ) : Type 0 where
  pub later : faults ≤ faults'
  pub hard_later : hard ≤ hard'
  pub failed : Fails → Rose faults faults'
  pub failed_hard : Fails → Rose hard hard'

abbrev pub IsFailed : {T : Type 0} → Result T RenameFault → Type 0
IsFailed (Ok x) = ⊥
IsFailed (Err why) = why.why ≡ shelf.Failed

-- ---- the parts of the call

-- a fault of the store has its cause
abbrev pub HasRisenPublishing : ℕ → ℕ → PublishFault → Type 0
HasRisenPublishing faults faults' (fault.House why) = HasRisen faults faults' why
HasRisenPublishing faults faults' fault.Starved = Unit {0}

-- there is room for more, and nothing else changed
pub record IsRoomy {D : Type 0} (before now : House D) : Type 0 where
  pub start : now.start ≡ before.start
  pub shelf : now.shelf ≡ before.shelf
  pub place : now.place ≡ before.place
  pub entries : entries_of now ≡ entries_of before
  pub marks : now.trail.marks ≡ before.trail.marks
  pub left : now.trail.opened ≡ before.trail.opened
  pub closed : now.trail.closed ≡ before.trail.closed
  pub starved : now.trail.starved ≡ before.trail.starved
  pub limits : now.limits ≡ before.limits

abbrev pub stop_by : Bool → ShelfFault → PublishFault
stop_by begun shelf.Failed = fault.House house.Store
stop_by true shelf.NoMemory = fault.Starved
stop_by false shelf.NoMemory = fault.House house.NoMemory

abbrev pub stop_of : RenameFault → PublishFault
stop_of why = stop_by why.begun why.why

-- whether the house is closed by it, and starved
abbrev pub ClosesFor : PublishFault → Bool → Bool → Type 0
ClosesFor fault.Starved before now = now ≡ true
ClosesFor (fault.House why) before now = ClosesBy why before now

abbrev pub StarvesFor : PublishFault → Bool → Bool → Type 0
StarvesFor fault.Starved before now = now ≡ true
StarvesFor (fault.House why) before now = now ≡ before

-- a directory didn't get its name
pub record StopsRenaming {D : Type 0} (why : RenameFault) (before now : House D) : Type 0 where
  pub start : now.start ≡ before.start
  pub shelf : now.shelf ≡ before.shelf
  pub place : now.place ≡ before.place
  pub entries : entries_of now ≡ entries_of before
  pub marks : now.trail.marks ≡ before.trail.marks
  pub left : now.trail.opened ≡ before.trail.opened
  pub limits : now.limits ≡ before.limits
  pub closed : ClosesFor (stop_of why) before.trail.closed now.trail.closed
  pub starved : StarvesFor (stop_of why) before.trail.starved now.trail.starved

-- what it is that the entry wasn't noted
abbrev pub told_fault : HouseFault → PublishFault
told_fault house.NoMemory = fault.Starved
told_fault house.Store = fault.House house.Store
told_fault (house.Failed count) = fault.House (house.Failed count)

-- the house is closed for want of memory, and nothing else changed
pub record IsStarvedFrom {D : Type 0} (before now : House D) : Type 0 where
  pub start : now.start ≡ before.start
  pub shelf : now.shelf ≡ before.shelf
  pub entries : entries_of now ≡ entries_of before
  pub marks : now.trail.marks ≡ before.trail.marks
  pub left : now.trail.opened ≡ before.trail.opened
  pub limits : now.limits ≡ before.limits
  pub closed : now.trail.closed ≡ true
  pub starved : now.trail.starved ≡ true

abbrev pub StopsTelling : {D : Type 0} → HouseFault → House D → House D → Type 0
StopsTelling house.NoMemory before now = IsStarvedFrom before now
StopsTelling house.Store before now = now ≡ before
StopsTelling (house.Failed count) before now = now ≡ before

-- memory lacked when the entry was to be noted: the journal reads to the book, and the house is closed
pub record StarvesNoting {D : Type 0} (told : D → Option Store) (before now : House D) : Type 0 where
  pub trail : trail_of now.trail ≡ trail_of before.trail
  pub store : Moves (NotesNone (book_of (trail_of before.trail))) (told before.shelf) (told now.shelf)
  pub closed : now.trail.closed ≡ true
  pub starved : now.trail.starved ≡ true
  pub rest : KeepsRest (seen_of before) (seen_of now)

abbrev pub TellsBy : {D : Type 0} → (D → Option Store) → (D → ℕ) → Entry → House D → House D
    → Result (Unit {0}) PublishFault → Type 0
TellsBy told faults event before now (Ok x) = Step told faults (Note event) Done (seen_of before) (seen_of now)
TellsBy told faults event before now (Err fault.Starved) = StarvesNoting told before now
TellsBy told faults event before now (Err (fault.House house.Store)) =
    Step told faults (Note event) Closed (seen_of before) (seen_of now)
TellsBy told faults event before now (Err (fault.House why)) = ⊥

-- By what a publication is measured: the limits, what the store tells, and its count of faults.
pub record Measure (D : Type 0) : Type 0 where
  pub limits : Limits
  pub told : D → Option Store
  pub faults : D → ℕ

abbrev pub measured : {D : Type 0} → Limits → (D → Option Store) → (D → ℕ) → Measure D
measured limits told faults = record { limits = limits; told = told; faults = faults }

-- the entry was noted, or the house is closed
pub record IsToldOf {D : Type 0} (measure : Measure D) (event : Entry) (before now : House D)
    (result : Result (Unit {0}) PublishFault) : Type 0 where
  pub ready : IfOk result (λ _. IsReadyWithin measure.limits measure.told now)
  pub noted : IfOk result (λ _. entries_of now ≡ entries_of before ++ event ∷ [])
  pub unnoted : IfErr result (λ _. entries_of now ≡ entries_of before)
  pub tells : TellsBy measure.told measure.faults event before now result
  pub later : measure.faults before.shelf ≤ measure.faults now.shelf
  pub failed : IfErr result (HasRisenPublishing (measure.faults before.shelf) (measure.faults now.shelf))

-- ---- the call

abbrev pub why_outcome : PublishFault → Outcome
why_outcome fault.Starved = Starved
why_outcome (fault.House why) = fault_outcome why

abbrev pub publish_outcome : {T : Type 0} → Result T PublishFault → Outcome
publish_outcome (Ok x) = Done
publish_outcome (Err why) = why_outcome why

-- where memory lacked before the first name the house is ready
abbrev pub StaysPublishedWithin : {D : Type 0} → Limits → (D → Option Store) → PublishFault → House D → Type 0
StaysPublishedWithin limits told (fault.House house.NoMemory) now = IsReadyWithin limits told now
StaysPublishedWithin limits told why now = Unit {0}

-- no fault of a file is an answer
abbrev pub EndsPublishing : PublishFault → Type 0
EndsPublishing (fault.House (house.Failed count)) = ⊥
EndsPublishing why = Unit {0}

-- all that is promised of a publication
pub record PublishStepWithin {D : Type 0} (measure : Measure D) (renamings : List Renaming) (event : Entry)
    (before now : House D) (result : Result (Unit {0}) PublishFault) : Type 0 where
  pub ready : IfOk result (λ _. IsReadyWithin measure.limits measure.told now)
  pub noted : IfOk result (λ _. entries_of now ≡ entries_of before ++ event ∷ [])
  pub unnoted : IfErr result (λ _. entries_of now ≡ entries_of before)
  pub stays : IfErr result (λ why. StaysPublishedWithin measure.limits measure.told why now)
  pub ends : IfErr result EndsPublishing
  pub step : Step measure.told measure.faults (Publish renamings event) (publish_outcome result) (seen_of before)
      (seen_of now)
  pub later : measure.faults before.shelf ≤ measure.faults now.shelf
  pub failed : IfErr result (HasRisenPublishing (measure.faults before.shelf) (measure.faults now.shelf))

-- a house that was open is shut by a publication, but for want of memory, only where the hard count rose
abbrev pub HardPublish : {D : Type 0} → (D → ℕ) → House D → House D → Type 0
HardPublish hard before now =
    HardStep (hard before.shelf) (hard now.shelf) before.trail.closed (now.trail.closed && not now.trail.starved)
