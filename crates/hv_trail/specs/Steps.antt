-- What one call on a house adds to its trail, and what it leaves alone.
-- Source: this project's profile.
use Rattle.std.specs.Prelude.{◌≡◌, ◌⊎◌, ℕ, ◌≤◌, ◌||◌, Bool, true, false, Option, Some, None, List, [], ◌∷◌, ◌++◌, map}
use Rattle.std.specs.Option.{option_to_list}
use Rattle.std.specs.List.{flat_map}
use Rattle.hv_base.specs.Told.{Moves}
use Rattle.hv_base.specs.Faults.{Rose}
use Rattle.hv_base.specs.declared.ids.TxnId.{TxnId}
use Rattle.hv_base.specs.declared.ids.TableId.{TableId}
use Rattle.hv_base.specs.declared.ids.Touch.{Touch}
use Rattle.hv_base.specs.declared.ids.Limits.{Limits}
use Rattle.hv_shelf.specs.declared.place.Place.{Place}
use Rattle.hv_shelf.specs.declared.place.DirAt.{DirAt}
use Rattle.hv_shelf.specs.Disk.{Store, HasFile, TornFile, IsRemoved, TornRemove, IsRenamed}
use Rattle.hv_book.specs.hv_history.specs.declared.entry.Entry.{Entry}
use Rattle.hv_book.specs.hv_history.specs.declared.entry.Entry.TheVariants as entry
use Rattle.hv_book.specs.hv_history.specs.declared.entry.Cause.TheVariants as cause
use Rattle.hv_book.specs.hv_history.specs.Journal.{IsJournal}
use Rattle.hv_trail.specs.declared.trail.Reader.{Reader}
use Rattle.hv_trail.specs.declared.trail.Mark.TheVariants.{Wrote, Went, Broke}
use Rattle.hv_trail.specs.declared.trail.Renaming.{Renaming}
use Rattle.hv_trail.specs.declared.trail.TrailItem.{TrailItem}
use Rattle.hv_trail.specs.declared.trail.TrailItem.TheVariants.{Noted, Marked}
use Rattle.hv_trail.specs.Trail.{book_of}

-- A house as contracts see it: the store that it was opened over, what happened, how many items stood when it was opened, its
-- store, whether it is closed, whether that was for want of memory, and its limits.
pub record HouseSeen (D : Type 0) : Type 0 where
  pub start : D
  pub trail : List TrailItem
  pub opened : ℕ
  pub shelf : D
  pub closed : Bool
  pub starved : Bool
  pub limits : Limits

-- ---- the calls, by what they are to do

pub data Call : Type 0 where
  -- note an entry
  Note : Entry → Call
  -- take up a statement as a transaction and give it its snapshot, both at once: its session, number and text
  Begin : TxnId → List ℕ → ℕ → List ℕ → Call
  -- commit a transaction, which may be answered by a conflict
  Commit : TxnId → List Touch → Call
  -- put a file
  Put : Reader → Place → List ℕ → Call
  -- take away the files of a directory
  Remove : Option Reader → DirAt → Call
  -- give directories other names, one after another, and then note an entry
  Publish : List Renaming → Entry → Call
  -- list or get files
  Read : Option Reader → Call
  -- ask the house alone
  Ask : Call

-- how a call ended
pub data Outcome : Type 0 where
  Done : Outcome
  -- that transaction committed, and shares this partition of this table
  Conflict : TxnId → TableId → List ℕ → Outcome
  -- a call on files failed, and the store counts so many faults
  Failed : ℕ → Outcome
  -- the journal or a renaming failed, now or before
  Closed : Outcome
  -- memory lacked behind the first of several renamings
  Starved : Outcome
  -- any other refusal
  Refused : Outcome

-- a conflict is the answer of a commit alone, a failed call on files that of a call that makes one, and want of memory between renamings
-- that of a publication
abbrev pub MayEnd : Call → Outcome → Type 0
MayEnd (Commit txn wrote) (Failed count) = ⊥
MayEnd (Commit txn wrote) Starved = ⊥
MayEnd (Commit txn wrote) outcome = Unit {0}
MayEnd call (Conflict with_ table partition) = ⊥
MayEnd (Publish renames event) (Failed count) = ⊥
MayEnd (Publish renames event) outcome = Unit {0}
MayEnd call Starved = ⊥
MayEnd (Note event) (Failed count) = ⊥
MayEnd (Begin txn session number text) (Failed count) = ⊥
MayEnd Ask (Failed count) = ⊥
MayEnd call outcome = Unit {0}

-- ---- the table

-- the entries that begin a statement
abbrev pub begun : TxnId → List ℕ → ℕ → List ℕ → List Entry
begun txn session number text = entry.Opened txn session number text ∷ entry.Start txn 0 ∷ []

-- the one item that the trail gains, where it gains one
abbrev pub gained : Call → Outcome → Option TrailItem
gained (Note event) Done = Some (Noted event)
gained (Commit txn wrote) Done = Some (Noted (entry.Commit txn wrote))
gained (Commit txn wrote) (Conflict with_ table partition) = Some (Noted (entry.Abort txn (cause.Conflict with_ table partition)))
gained (Put by place bytes) Done = Some (Marked (Wrote by place))
gained (Put by place bytes) (Failed count) = Some (Marked (Broke (Some by) true count))
gained (Remove by dir) Done = Some (Marked (Went dir))
gained (Remove by dir) (Failed count) = Some (Marked (Broke by false count))
gained (Read by) (Failed count) = Some (Marked (Broke by false count))
gained (Publish renames event) Done = Some (Noted event)
gained call outcome = None

-- all that it gains: a statement's beginning has two items
abbrev pub gains : Call → Outcome → List TrailItem
gains (Begin txn session number text) Done = map Noted (begun txn session number text)
gains call outcome = option_to_list (gained call outcome)

-- whether the house is closed by it
abbrev pub shuts : Outcome → Bool
shuts Closed = true
shuts Starved = true
shuts outcome = false

-- and whether that is for want of memory, where it was so before or not
abbrev pub StarvesBy : Outcome → Bool → Bool → Type 0
StarvesBy Starved before now = now ≡ true
StarvesBy outcome before now = now ≡ before

-- the most that it gains
abbrev pub most_items : Call → ℕ
most_items (Begin txn session number text) = 2
most_items call = 1

-- the journal read to this book, and reads to it and these entries
pub record Notes (events book : List Entry) (before now : Store) : Type 0 where
  pub tree_is : now.tree ≡ before.tree
  pub reads : IsJournal book before.journal → IsJournal (book ++ events) now.journal

-- the journal read to this book, and reads to it, or to it and all of these entries
pub record NotesOrNot (events book : List Entry) (before now : Store) : Type 0 where
  pub tree_is : now.tree ≡ before.tree
  pub reads : IsJournal book before.journal → IsJournal book now.journal ⊎ IsJournal (book ++ events) now.journal

-- The journal read to this book, and reads to it. Where memory lacked, something may stand behind its closed gate.
pub record NotesNone (book : List Entry) (before now : Store) : Type 0 where
  pub tree_is : now.tree ≡ before.tree
  pub reads : IsJournal book before.journal → IsJournal book now.journal

-- directories got their names, one after another
abbrev pub AreMoved : List Renaming → Store → Store → Type 0
AreMoved [] before now = now ≡ before
AreMoved (renaming ∷ renamings) before now =
    (middle : Store) × IsRenamed renaming.from renaming.to before middle × AreMoved renamings middle now

-- all of them did, and then the journal reads to the book with the entry
pub record PublishesAs (renamings : List Renaming) (event : Entry) (book : List Entry) (before now : Store) : Type 0 where
  pub middle : Store
  pub moved : AreMoved renamings before middle
  pub noted : Notes (event ∷ []) book middle now

-- the journal reads on to the book, or, where all got their names, to that or to it with the entry
abbrev pub EndsCut : List Renaming → Entry → List Entry → Store → Store → Type 0
EndsCut [] event book = NotesOrNot (event ∷ []) book
EndsCut (renaming ∷ renamings) event book = NotesNone book

-- some of them did, the first ones
pub record CutsPublication (renamings : List Renaming) (event : Entry) (book : List Entry) (before now : Store) : Type 0 where
  pub front : List Renaming
  pub rest : List Renaming
  pub parts : renamings ≡ front ++ rest
  pub middle : Store
  pub moved : AreMoved front before middle
  pub ends : EndsCut rest event book middle now

-- and the journal reads to the book, though all may have got their names
pub record StarvesPublication (renamings : List Renaming) (book : List Entry) (before now : Store) : Type 0 where
  pub front : List Renaming
  pub rest : List Renaming
  pub parts : renamings ≡ front ++ rest
  pub middle : Store
  pub moved : AreMoved front before middle
  pub ends : NotesNone book middle now

-- what becomes of the store of a house with this book: what the trail gained was done, and a failed call leaves what it may
abbrev pub Changes : List Entry → Call → Outcome → Store → Store → Type 0
Changes book (Note event) Done = Notes (event ∷ []) book
Changes book (Note event) Closed = NotesOrNot (event ∷ []) book
Changes book (Note event) Refused = NotesNone book
Changes book (Begin txn session number text) Done = Notes (begun txn session number text) book
Changes book (Begin txn session number text) Closed = NotesOrNot (begun txn session number text) book
Changes book (Begin txn session number text) Refused = NotesNone book
Changes book (Commit txn wrote) Done = Notes (entry.Commit txn wrote ∷ []) book
Changes book (Commit txn wrote) (Conflict with_ table partition) = Notes (entry.Abort txn (cause.Conflict with_ table partition) ∷ []) book
Changes book (Commit txn wrote) Refused = NotesNone book
Changes book (Commit txn wrote) Closed =
    λ before now. NotesOrNot (entry.Commit txn wrote ∷ []) book before now
    ⊎ ((with_ : TxnId) × (table : TableId) × (partition : List ℕ) × NotesOrNot (entry.Abort txn (cause.Conflict with_ table partition) ∷ []) book before now)
Changes book (Put by place bytes) Done = HasFile place bytes
Changes book (Put by place bytes) (Failed count) = TornFile place
Changes book (Put by place bytes) Closed = TornFile place
Changes book (Publish renames event) Done = PublishesAs renames event book
Changes book (Publish renames event) Closed = CutsPublication renames event book
Changes book (Publish renames event) Starved = StarvesPublication renames book
Changes book (Publish renames event) Refused = NotesNone book
Changes book (Remove by dir) Done = IsRemoved dir
Changes book (Remove by dir) (Failed count) = TornRemove dir
Changes book (Remove by dir) Closed = TornRemove dir
Changes book call outcome = λ before now. now ≡ before

-- the count that an answer keeps is the store's, and it rose in this call
abbrev pub Counts : Outcome → ℕ → ℕ → Type 0
Counts (Failed count) before now = (count ≡ now) × Rose before now
Counts outcome before now = before ≤ now

-- a closed house answers that it is closed, but where it is asked itself
abbrev pub IsShutOut : Call → Outcome → Type 0
IsShutOut Ask outcome = Unit {0}
IsShutOut call outcome = outcome ≡ Closed

-- ---- one step

-- What no call changes. This word stands for the same clauses at each of them.
pub record KeepsRest {D : Type 0} (before now : HouseSeen D) : Type 0 where
  pub start : now.start ≡ before.start
  pub opened : now.opened ≡ before.opened
  pub limits : now.limits ≡ before.limits

pub record Step {D : Type 0} (told : D → Option Store) (faults : D → ℕ) (call : Call) (outcome : Outcome) (before now : HouseSeen D) : Type 0 where
  pub may : MayEnd call outcome
  pub trail : now.trail ≡ before.trail ++ gains call outcome
  pub store : Moves (Changes (book_of before.trail) call outcome) (told before.shelf) (told now.shelf)
  pub closed : now.closed ≡ before.closed || shuts outcome
  pub starved : StarvesBy outcome before.starved now.starved
  pub shut_out : before.closed ≡ true → IsShutOut call outcome
  pub counts : Counts outcome (faults before.shelf) (faults now.shelf)
  pub rest : KeepsRest before now

-- steps one after another, each from where the one before it ended
abbrev pub Run : {D : Type 0} → (D → Option Store) → (D → ℕ) → List (Call × Outcome) → HouseSeen D → HouseSeen D → Type 0
Run told faults [] before now = now ≡ before
Run {D = D} told faults (call ∷ calls) before now =
    (next : HouseSeen D) × Step told faults call.0 call.1 before next × Run told faults calls next now

-- all that they gain
abbrev pub all_gains : List (Call × Outcome) → List TrailItem
all_gains calls = flat_map (λ (call : Call × Outcome). gains call.0 call.1) calls
