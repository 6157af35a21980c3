-- What each part of a statement's way comes to: what it adds by what it answers.
-- Source: Hive Transactions (snapshots, locks, first committer wins); the replies are this project's profile.
use Rattle.std.specs.Prelude.{◌≡◌, ◌⊎◌, ℕ, ◌+◌, ◌<◌, ◌≤◌, true, false, Option, Some, List, [], ◌∷◌, ◌++◌, length, take}
use Rattle.std.specs.List.{AllByRecursion}
use Rattle.hv_base.specs.Refusals as refusals
use Rattle.hv_base.specs.declared.ids.TxnId.{TxnId}
use Rattle.hv_base.specs.declared.ids.JobId.{JobId}
use Rattle.hv_base.specs.declared.ids.TableId.{TableId}
use Rattle.hv_base.specs.declared.ids.WriteId.{WriteId}
use Rattle.hv_base.specs.declared.ids.Touch.{Touch}
use Rattle.hv_shelf.specs.declared.place.Place.{Place}
use Rattle.hv_shelf.specs.Disk.{Store}
use Rattle.hv_ast.specs.declared.statement.Stmt.{Stmt}
use Rattle.hv_ast.specs.declared.table.CompactionKind.{CompactionKind}
use Rattle.hv_built.specs.Running.{Runs}
use Rattle.hv_logic.specs.declared.catalog.TableInfo.{TableInfo}
use Rattle.hv_logic.specs.declared.effect.Effect.{Effect}
use Rattle.hv_logic.specs.declared.meaning.Meaning.{Meaning}
use Rattle.hv_logic.specs.declared.meaning.Meaning.TheVariants.{Listing, Change, Make, Unmake, Refused, Twice, RowLimit, PartitionLimit, Plain, Ask}
use Rattle.hv_route.specs.Back.{AreHeld}
use Rattle.hv_route.specs.Routes.{files_of}
use Rattle.hv_route.specs.Touching.{touches_of}
use Rattle.hv_history.specs.declared.entry.Entry.{Entry}
use Rattle.hv_history.specs.declared.entry.Entry.TheVariants as entry
use Rattle.hv_history.specs.declared.entry.Cause.{Cause}
use Rattle.hv_history.specs.declared.entry.Cause.TheVariants as cause
use Rattle.hv_history.specs.JobsTrue.{kind_of}
use Rattle.hv_history.specs.State.{state_of}
use Rattle.hv_history.specs.Legal.{Fits, HasRoom, profile}
use Rattle.hv_history.specs.Answers.{listing, counts_line, committed_text, ok_line, conflict_text}
use Rattle.hv_stands.specs.Laws.{HasFile, changes_in}
use Rattle.hv_stands.specs.Running.{Asking, next_number, opening, starting, meant}
use Rattle.hv_trail.specs.declared.trail.TrailItem.{TrailItem}
use Rattle.hv_trail.specs.Trail.{book_of, state_at}
use Rattle.hv_table_reader.specs.hv_acts.specs.hv_telling.specs.hv_house.specs.declared.fault.HouseFault.{HouseFault}
use Rattle.hv_table_reader.specs.hv_acts.specs.hv_telling.specs.hv_house.specs.declared.fault.HouseFault.TheVariants as fault
use Rattle.hv_table_reader.specs.hv_acts.specs.declared.told.ToldHouse.{ToldHouse}
use Rattle.hv_table_reader.specs.hv_acts.specs.Told.{IsWholeOrClosed, seen_in, trail_in, book_in}
use Rattle.hv_table_reader.specs.hv_acts.specs.Beginning.{IsBeginningCut}
use Rattle.hv_table_reader.specs.hv_acts.specs.Waiting.{IsOpeningCut}
use Rattle.hv_table_reader.specs.hv_acts.specs.hv_telling.specs.hv_house.specs.House.{IsSmall}
use Rattle.hv_table_reader.specs.hv_acts.specs.hv_telling.specs.hv_house.specs.Asking.{CanBegin}
use Rattle.hv_table_reader.specs.hv_acts.specs.Meant.{TouchesNothing, IsChangeDue, IsMakeMeant, IsDropMeant, places_of_files}
use Rattle.hv_table_reader.specs.hv_acts.specs.Starting.{IsInItsWay}
use Rattle.hv_table_reader.specs.hv_acts.specs.Committing.{CanBePut}
use Rattle.hv_table_reader.specs.hv_acts.specs.hv_telling.specs.Telling.{IsToldHouse}
use Rattle.hv_steps.specs.Ending.{giving, job_asked, aborting, creating, dropping, committing, idle_end, CanEnd, HasEndedAt, HasReplied}
use Rattle.hv_steps.specs.declared.ready.Way.{Way}
use Rattle.hv_steps.specs.declared.ready.Reply.{Reply}
use Rattle.hv_steps.specs.declared.ready.Ready.{Ready}
use Rattle.hv_steps.specs.declared.ready.End.{End}
use Rattle.hv_steps.specs.declared.ready.End.TheVariants as end
use Rattle.hv_steps.specs.declared.reply.Done.{Done}
use Rattle.hv_steps.specs.declared.reply.Done.TheVariants as done
use Rattle.hv_steps.specs.declared.reply.Opened.{Opened}
use Rattle.hv_steps.specs.declared.reply.Opened.TheVariants as opened
use Rattle.hv_steps.specs.declared.reply.Outcome.{Outcome}
use Rattle.hv_steps.specs.declared.reply.Outcome.TheVariants as outcome
use Rattle.hv_steps.specs.declared.reply.Asked.{Asked}
use Rattle.hv_steps.specs.declared.reply.Asked.TheVariants as asked
use Rattle.hv_steps.specs.declared.reply.Prepared.{Prepared}
use Rattle.hv_steps.specs.declared.reply.Prepared.TheVariants as prepared
pub use Rattle.hv_steps.specs.Going.{WasSoBetween, IsNextAt}
use Rattle.hv_steps.specs.Going.{IsOpenHouse, IsShutHouse, IsGoneSo, WasOnWay, AddsOwn, Halts}
use Rattle.hv_actor.specs.Acting.{Setting, Moment}

-- ---- an end

-- it ended by an entry of this kind, behind these; or others have ended it, and it added just these
abbrev pub EndsBehind : {D : Type 0} → ℕ → ToldHouse D → List Entry → (Entry → Reply → Type 0) → Done → List Entry
    → Type 0
EndsBehind txn now first Is (done.Replied reply) added =
    (last : Entry) × (added ≡ first ++ last ∷ []) × Is last reply × HasEndedAt (book_in now) txn reply.ended
EndsBehind txn now first Is (done.Gone reply) added = (added ≡ first) × IsGoneSo (trail_in now) txn reply

-- an abort for this cause or, where memory lacked for that, for want of memory; the reply is its line, and its transaction's answer
pub record IsAbortFor {D : Type 0} (txn : ℕ) (now : ToldHouse D) (Causes : Cause → Type 0) (last : Entry)
    (reply : Reply) : Type 0 where
  pub why : Cause
  pub is : Causes why ⊎ (why ≡ cause.Memory)
  pub entry_is : last ≡ aborting txn why
  pub answered : HasReplied (book_in now) txn reply.text reply.refused reply.ended

abbrev pub AbortsFor : {D : Type 0} → ℕ → ToldHouse D → List Entry → (Cause → Type 0) → Done → List Entry → Type 0
AbortsFor txn now first Causes found added = EndsBehind txn now first (IsAbortFor txn now Causes) found added

-- ---- its beginning

-- its Opened was noted behind this trail: it has the next number
pub record OpensAt (asking : Asking) (txn : ℕ) (event : Entry) (trail : List TrailItem) : Type 0 where
  pub txn_is : txn ≡ next_number (book_of trail)
  pub event_is : event ≡ opening (book_of trail) asking
  pub room : HasRoom profile (state_at trail) 2

-- at this trail it could not begin
abbrev pub IsHinderedAt : Stmt → List TrailItem → Type 0
IsHinderedAt said trail = CanBegin profile (book_of trail) said → ⊥

-- and so before it was opened
pub record IsHinderedBefore (txn : ℕ) (said : Stmt) (trail : List TrailItem) : Type 0 where
  pub hindered : IsHinderedAt said trail
  pub before : next_number (book_of trail) ≤ txn

-- at this trail it was opened and started, one directly behind the other
pub record BeginsAt (asking : Asking) (said : Stmt) (way : Way) (event : Entry) (trail : List TrailItem) : Type 0 where
  pub opens : OpensAt asking way.txn.0 event trail
  pub can : CanBegin profile (book_of trail) said
  pub place : way.place ≡ length (book_of trail) + 1

-- behind this trail its Start was noted
pub record StartsAt (way : Way) (trail : List TrailItem) : Type 0 where
  pub fits : Fits profile (state_at trail) (starting way.txn.0)
  pub place : way.place ≡ length (book_of trail)

-- at this trail it was to start and was aborted for what stood in its way
pub record IsStoppedAt (txn : ℕ) (why : Cause) (reply : Reply) (trail : List TrailItem) : Type 0 where
  pub in_its_way : IsInItsWay trail (record { 0 = txn }) why
  pub place : reply.ended ≡ Some (length (book_of trail))

-- It could not begin, and was opened to be told so. This stood in its way where it was to start; or memory lacked to say that, or others had
-- started it.
pub record NeverStarts {D : Type 0} (before now : ToldHouse D) (txn : ℕ) (said : Stmt) (last : Entry)
    (reply : Reply) : Type 0 where
  pub why : Cause
  pub entry_is : last ≡ aborting txn why
  pub stopped : WasSoBetween before now (IsStoppedAt txn why reply) ⊎ (why ≡ cause.Memory)
  pub hindered : WasSoBetween before now (IsHinderedBefore txn said)
  pub answered : HasReplied (book_in now) txn reply.text reply.refused reply.ended

-- It started: where nothing stood in its way its Opened and its Start stand one behind the other; else it was opened, and started in a hold of
-- its own.
pub record HasBegun {D : Type 0} (before now : ToldHouse D) (asking : Asking) (said : Stmt) (way : Way)
    (added : List Entry) : Type 0 where
  pub event : Entry
  pub was_opened : WasSoBetween before now (OpensAt asking way.txn.0 event)
  pub added_is : added ≡ event ∷ starting way.txn.0 ∷ []
  pub can : WasSoBetween before now (BeginsAt asking said way event)
      ⊎ (WasSoBetween before now (IsHinderedBefore way.txn.0 said) × WasSoBetween before now (StartsAt way))
  pub under_way : WasOnWay (trail_in now) asking way said

-- it was opened and has ended: before its Start
pub record HasNotBegun {D : Type 0} (before now : ToldHouse D) (asking : Asking) (said : Stmt) (found : Done)
    (added : List Entry) : Type 0 where
  pub runs : Runs asking.text said
  pub txn : ℕ
  pub event : Entry
  pub was_opened : WasSoBetween before now (OpensAt asking txn event)
  pub ends : EndsBehind txn now (event ∷ []) (NeverStarts before now txn said) found added

abbrev pub Begins : {D : Type 0} → ToldHouse D → ToldHouse D → Asking → Stmt → Opened → List Entry → Type 0
Begins before now asking said (opened.Started way) added = HasBegun before now asking said way added
Begins before now asking said (opened.Full entries) added =
    (added ≡ []) × (entries ≡ length (book_in now)) × (HasRoom profile (state_of (book_in now)) 2 → ⊥)
Begins before now asking said opened.NoMemory added = added ≡ []
Begins before now asking said (opened.Ended found) added = HasNotBegun before now asking said found added

-- the journal of a house that was open, where the statement was to be opened and started at once, reads to the book, or to it and just these two
-- entries, which fit
pub record IsShutBeginning {D : Type 0} (told : D → Option Store) (asking : Asking) (now : ToldHouse D) : Type 0 where
  pub house : ToldHouse D
  pub kept : IsWholeOrClosed told house.house
  pub was : IsOpenHouse house
  pub is : IsShutHouse now
  pub same : trail_in now ≡ trail_in house
  pub cut : IsBeginningCut told asking (seen_in house) (seen_in now)

-- its last act was to open the statement, and found the house open and failed: nothing was added then, and the journal reads to the book, or to
-- it and the Opened, which fits
pub record IsShutOpening {D : Type 0} (told : D → Option Store) (asking : Asking) (now : ToldHouse D) : Type 0 where
  pub house : ToldHouse D
  pub kept : IsWholeOrClosed told house.house
  pub was : IsOpenHouse house
  pub is : IsShutHouse now
  pub same : trail_in now ≡ trail_in house
  pub cut : IsOpeningCut told asking (seen_in house) (seen_in now)

-- the first of these entries, where there is one, is the Opened of this statement
abbrev pub BegunBy : Asking → List Entry → Type 0
BegunBy asking [] = Unit {0}
BegunBy asking (entry.Opened txn session number text ∷ more) = (session ≡ asking.session) × (number ≡ asking.number)
    × (text ≡ asking.text)
BegunBy asking (event ∷ more) = ⊥

-- it stops, and what was added begins with its Opened
pub record HaltsOpened {D : Type 0} (setting : Setting D (ToldHouse D)) (asking : Asking) (txn : ℕ)
    (before now : Moment (ToldHouse D)) (why : HouseFault) : Type 0 where
  pub stop : Halts setting txn before now why
  pub begun_by : BegunBy asking stop.added

-- whoever's that is, nothing was added
abbrev pub AddsNone : {D : Type 0} → (D → ℕ) → (List TrailItem → Type 0) → Moment (ToldHouse D) → Moment (ToldHouse D)
    → Type 0
AddsNone faults between before now = (by : ℕ) → AddsOwn faults between by before now []

abbrev pub HaltsBeginning : {D : Type 0} → Setting D (ToldHouse D) → Asking → Moment (ToldHouse D)
    → Moment (ToldHouse D) → HouseFault → Type 0
HaltsBeginning setting asking before now why =
    ((txn : ℕ) × WasSoBetween before.house now.house (IsNextAt txn) × HaltsOpened setting asking txn before now why)
    ⊎ ((why ≡ fault.Store) × AddsNone setting.faults setting.between before now
    × IsShutBeginning setting.told asking now.house)
    ⊎ ((why ≡ fault.Store) × AddsNone setting.faults setting.between before now
    × IsShutOpening setting.told asking now.house)

-- ---- what it comes to

-- what it means can be ended in a book that goes on from there; in a told house it means this over the tables at its snapshot
pub record ComesTo {D : Type 0} (told : D → Option Store) (now : ToldHouse D) (way : Way) (said : Stmt)
    (meaning : Meaning) : Type 0 where
  pub can : CanEnd (book_in now) meaning
  pub truly : IsToldHouse told now.house → meant (take way.place (book_in now)) said ≡ Some meaning

-- ---- what it has prepared

-- its files were put under a write id, and these are the touches and the places of its change
pub record IsChangeReady (info : TableInfo) (effect : Effect) (write : ℕ) (put : List Place)
    (ready : Ready) : Type 0 where
  pub end_is : ready.end ≡ end.Commit (touches_of info effect) info.shape.name put
  pub places : put ≡ places_of_files info.table.0 write (files_of info.shape write 0 effect)
  pub text_is : ready.text ≡ counts_line (touches_of info effect)
  pub held : AreHeld effect.inserts
  pub encoded : AllByRecursion HasFile (files_of info.shape write 0 effect)

abbrev pub IsReadyAs : Ready → End → List ℕ → Type 0
IsReadyAs ready last text = (ready.end ≡ last) × (ready.text ≡ text)

-- none was added, or the job that is asked for
abbrev pub AsksJob : ℕ → TableId → List ℕ → CompactionKind → List Entry → Type 0
AsksJob txn table partition kind added =
    (added ≡ []) ⊎ ((job : JobId) × (added ≡ job_asked txn job table partition (kind_of kind) ∷ []))

-- A statement of this meaning is ready so, by these entries: none, or the write id of a change of rows, or the job that it asks for.
abbrev pub PreparesTo : ℕ → Meaning → Ready → List Entry → Type 0
PreparesTo txn (Listing names rows) ready added = (added ≡ []) × IsReadyAs ready idle_end (listing names rows)
PreparesTo txn Plain ready added = (added ≡ []) × IsReadyAs ready idle_end ok_line
PreparesTo txn (Ask table partition kind) ready added =
    AsksJob txn table partition kind added × IsReadyAs ready idle_end ok_line
PreparesTo txn (Make shape) ready added = (added ≡ []) × IsReadyAs ready end.Create ok_line
PreparesTo txn (Unmake table) ready added = (added ≡ []) × IsReadyAs ready (end.Drop table) ok_line
PreparesTo txn (Change info effect) ready added =
    ((added ≡ []) × (changes_in effect ≡ 0) × IsReadyAs ready idle_end (counts_line []))
    ⊎ ((write : WriteId) × (put : List Place) × (added ≡ giving txn info.table write ∷ []) × (0 < changes_in effect)
    × IsChangeReady info effect write.0 put ready)
PreparesTo txn meaning ready added = ⊥

-- the causes for which a statement of this meaning is aborted before its end, without a write id and behind it
abbrev pub EndsEarlyFor : Meaning → Cause → Type 0
EndsEarlyFor (Refused why) (cause.Refused number) = number ≡ refusals.number why
EndsEarlyFor (Twice partition row) (cause.Twice other id) = (other ≡ partition) × (id ≡ row)
EndsEarlyFor RowLimit cause.RowLimit = Unit {0}
EndsEarlyFor PartitionLimit cause.PartitionLimit = Unit {0}
EndsEarlyFor (Change info effect) cause.Full = 0 < changes_in effect
EndsEarlyFor (Ask table partition kind) cause.Full = Unit {0}
EndsEarlyFor meaning why = ⊥

abbrev pub IsWriteFault : Cause → Type 0
IsWriteFault (cause.WriteFault count) = Unit {0}
IsWriteFault why = ⊥

abbrev pub NoCause : Cause → Type 0
NoCause why = ⊥

-- those for which it is behind what it has noted: a call on files failed; what asks for a compaction makes none
abbrev pub BreaksFor : Meaning → Cause → Type 0
BreaksFor (Change info effect) = IsWriteFault
BreaksFor meaning = NoCause

-- its write id, or the job that it asks for
abbrev pub GivesId : ℕ → Meaning → List Entry → Type 0
GivesId txn (Change info effect) first = (write : WriteId) × (0 < changes_in effect)
    × (first ≡ giving txn info.table write ∷ [])
GivesId txn (Ask table partition kind) first =
    (job : JobId) × (first ≡ job_asked txn job table partition (kind_of kind) ∷ [])
GivesId txn meaning first = ⊥

abbrev pub Prepares : {D : Type 0} → ℕ → ToldHouse D → Meaning → Prepared → List Entry → Type 0
Prepares txn now meaning (prepared.Ready ready) added = PreparesTo txn meaning ready added
Prepares txn now meaning (prepared.Ended found) added =
    AbortsFor txn now [] (EndsEarlyFor meaning) found added
    ⊎ ((first : List Entry) × GivesId txn meaning first × AbortsFor txn now first (BreaksFor meaning) found added)

-- it has asked for all that it asks for; or it has ended on the way
abbrev pub Asks : {D : Type 0} → ℕ → ToldHouse D → (Entry → Type 0) → Asked → List Entry → Type 0
Asks txn now IsAsk asked.All added = AllByRecursion IsAsk added
Asks txn now IsAsk (asked.Ended found) added = (first : List Entry) × AllByRecursion IsAsk first
    × AbortsFor txn now first NoCause found added

-- it has asked for all, and prepares what it means behind that; or it has ended before. None that comes to something else asks for any.
abbrev pub PreparesAsked : {D : Type 0} → ℕ → ToldHouse D → (Entry → Type 0) → Meaning → Prepared → List Entry → Type 0
PreparesAsked txn now IsAsk meaning found added =
    ((first : List Entry) × (more : List Entry) × (added ≡ first ++ more) × AllByRecursion IsAsk first
    × Prepares txn now meaning found more
    × ((first ≡ []) ⊎ (meaning ≡ Plain)))
    ⊎ ((ended : Done) × (found ≡ prepared.Ended ended) × Asks txn now IsAsk (asked.Ended ended) added
    × (meaning ≡ Plain))

-- ---- its end

-- its commit is what it means: it touches nothing and this is what it prints; or these are the touches of its change, in the table of that name
abbrev pub IsDueSo : List TrailItem → TxnId → List Touch → List ℕ → List Place → List ℕ → Type 0
IsDueSo trail txn wrote name places text =
    ((idle : TouchesNothing trail txn wrote) × (text ≡ committed_text (Some idle.means) wrote))
    ⊎ ((change : IsChangeDue trail txn wrote places) × (text ≡ counts_line wrote) × (name ≡ change.info.shape.name))

-- it can be ended so with this text, whatever others add: its touches are within the limits of an entry, and none or of a change whose places
-- these are; in a told house it means that
abbrev pub CanConclude : {D : Type 0} → (D → Option Store) → ToldHouse D → Way → End → List ℕ → Type 0
CanConclude told now way (end.Commit wrote name put) text =
    IsSmall (committing way.txn.0 wrote) × CanBePut (trail_in now) way.txn wrote put
    × (IsToldHouse told now.house → IsDueSo (trail_in now) way.txn wrote name put text)
CanConclude told now way end.Create text = (IsToldHouse told now.house → IsMakeMeant (trail_in now) way.txn)
    × (text ≡ ok_line)
CanConclude told now way (end.Drop table) text = (IsToldHouse told now.house → IsDropMeant (trail_in now) way.txn table)
    × (text ≡ ok_line)

abbrev pub CanConcludeIn : {D : Type 0} → (D → Option Store) → ToldHouse D → Way → Prepared → Type 0
CanConcludeIn told now way (prepared.Ready ready) = CanConclude told now way ready.end ready.text
CanConcludeIn told now way (prepared.Ended found) = Unit {0}

abbrev pub IsEndBy : ℕ → End → Entry → Type 0
IsEndBy txn (end.Commit wrote name put) last = last ≡ committing txn wrote
IsEndBy txn end.Create last = (table : TableId) × (last ≡ creating txn table)
IsEndBy txn (end.Drop table) last = last ≡ dropping txn table

-- it ended as it was ready to, with the reply that it had ready
pub record EndsReady (txn : ℕ) (ready : Ready) (last : Entry) (reply : Reply) : Type 0 where
  pub text_is : reply.text ≡ ready.text
  pub accepted : reply.refused ≡ false
  pub by : IsEndBy txn ready.end last

-- it was aborted for a conflict, whose line names the table that it was to change
pub record EndsInConflict (txn : ℕ) (ready : Ready) (last : Entry) (reply : Reply) : Type 0 where
  pub wrote : List Touch
  pub name : List ℕ
  pub put : List Place
  pub end_is : ready.end ≡ end.Commit wrote name put
  pub by : TxnId
  pub table : TableId
  pub partition : List ℕ
  pub entry_is : last ≡ aborting txn (cause.Conflict by table partition)
  pub line : reply.text ≡ conflict_text by.0 name partition
  pub refusal : reply.refused ≡ true

-- by what it was ready for; for a conflict; or for want of memory
abbrev pub ConcludesSo : {D : Type 0} → ℕ → ToldHouse D → Ready → Entry → Reply → Type 0
ConcludesSo txn now ready last reply = EndsReady txn ready last reply ⊎ EndsInConflict txn ready last reply
    ⊎ IsAbortFor txn now NoCause last reply

-- in a told house the reply is its transaction's answer, unless others have ended it
abbrev pub AnswersTruly : {D : Type 0} → ℕ → ToldHouse D → Done → Type 0
AnswersTruly txn now (done.Replied reply) = HasReplied (book_in now) txn reply.text reply.refused reply.ended
AnswersTruly txn now (done.Gone reply) = IsGoneSo (trail_in now) txn reply

abbrev pub Concludes : {D : Type 0} → ℕ → ToldHouse D → Ready → Done → List Entry → Type 0
Concludes txn now ready found added = EndsBehind txn now [] (ConcludesSo txn now ready) found added

-- ---- what it sees

-- a read failed, a file is damaged, or memory lacked
abbrev pub IsReadCause : Cause → Type 0
IsReadCause (cause.ReadFault count) = Unit {0}
IsReadCause (cause.Damaged place) = Unit {0}
IsReadCause why = ⊥

-- in a told house no file is damaged
abbrev pub IsUntoldDamage : {D : Type 0} → (D → Option Store) → ToldHouse D → Cause → Type 0
IsUntoldDamage told now (cause.Damaged place) = IsToldHouse told now.house → ⊥
IsUntoldDamage told now why = IsReadCause why

-- nothing was noted, and it means this; or it was aborted for a fault by which its tables couldn't be seen
abbrev pub Sees : {D : Type 0} → (D → Option Store) → ToldHouse D → Way → Stmt → Outcome → List Entry → Type 0
Sees told now way said (outcome.Means meaning) added = (added ≡ []) × ComesTo told now way said meaning
Sees told now way said (outcome.Ended found) added = AbortsFor way.txn.0 now [] (IsUntoldDamage told now) found added
