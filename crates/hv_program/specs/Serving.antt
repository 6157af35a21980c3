-- What serving the actions of a script promises, by the status.
use Rattle.std.specs.Prelude.{◌≡◌, ◌⊎◌, ℕ, ◌+◌, ◌<◌, Bool, true, false, IsTrue, Result, Ok, Err, if◌then◌else◌, Option, Some, List, [], ◌∷◌}
use Rattle.hv_base.specs.Told.{Tells, Moves}
use Rattle.hv_base.specs.Faults.{Rose}
use Rattle.hv_base.specs.Sink.{Gains, GainsPart}
use Rattle.hv_shelf.specs.Disk.{Store}
use Rattle.hv_program.specs.declared.stop.Stop.{Stop}
use Rattle.hv_program.specs.Stops.{status_of_stop}
use Rattle.hv_history.specs.declared.entry.Entry.{Entry}
use Rattle.hv_history.specs.State.{state_of}
use Rattle.hv_history.specs.Legal.{load, profile}
use Rattle.hv_session.specs.hv_beginning.specs.hv_steps.specs.hv_table_reader.specs.hv_acts.specs.hv_telling.specs.hv_house.specs.hv_recovery.specs.Recovery.{IsBadJournalAt}
use Rattle.hv_script.specs.declared.actions.Action.{Action}
use Rattle.hv_session.specs.hv_beginning.specs.hv_steps.specs.hv_table_reader.specs.hv_acts.specs.hv_telling.specs.hv_house.specs.Booting.{opening_of, OpensTo, IsFullAt, CanOpen, HasNoBook, HasFullBook}
use Rattle.hv_program.specs.Lines.{journal_line, full_line}
use Rattle.hv_program.specs.Change.{Change, from_to}
use Rattle.hv_program.specs.Results.{IsServed, IsCutOff, StopsForMemory, StopsForStore}
use Rattle.hv_program.specs.Refused.{is_one_of}

-- 0 where no reply is a refusal, and 1 where one is
abbrev pub ran_status : Result Bool Stop → ℕ
ran_status (Ok refused) = if refused then 1 else 0
ran_status (Err stop) = status_of_stop stop

-- a front of the line was written that the journal has no room, and the store is as it was
pub record IsCutFull (book : List Entry) (written : Change (List ℕ)) (stores : Change Store) : Type 0 where
  pub full : profile.entries < load (state_of book) + 1
  pub wrote : GainsPart full_line written.was written.now
  pub store_same : stores.now ≡ stores.was

-- what was written, what the book has, and which files stand, by the status
pub record ServedOf (status : ℕ) (faults : Change ℕ) (book : List Entry) (actions : List Action)
    (written : Change (List ℕ)) (stores : Change Store) : Type 0 where
  pub accepted : status ≡ 0 → IsServed faults (opening_of stores.was.tree book) actions written stores.now false
  pub refused : status ≡ 1 → IsServed faults (opening_of stores.was.tree book) actions written stores.now true
  pub source : status ≡ 3 → ⊥
  pub sink : status ≡ 4 → IsCutOff faults (opening_of stores.was.tree book) actions written stores.now
      ⊎ IsCutFull book written stores
  pub store : status ≡ 5 → StopsForStore faults book actions written stores
  pub memory : status ≡ 7 → StopsForMemory faults book actions written stores

-- the sink and the store tell, and of what they tell this is so
pub record BothTell (sink : Option (List ℕ)) (told : Option Store) (Is : List ℕ → Store → Type 0) : Type 0 where
  pub now : List ℕ
  pub store : Store
  pub sink_tells : sink ≡ Some now
  pub store_tells : told ≡ Some store
  pub served : Is now store

-- over a store that opens to a book
abbrev pub Serves : ℕ → Change ℕ → List Action → Change (Option (List ℕ)) → Change (Option Store) → Type 0
Serves status faults actions sinks told =
    (written : List ℕ) (store : Store) (book : List Entry) → sinks.was ≡ Some written → told.was ≡ Some store
    → OpensTo book store
    → BothTell sinks.now told.now (λ now after. ServedOf status faults book actions (from_to written now)
    (from_to store after))

-- the sink and the store are blamed only where they failed
pub record BlamesOf (status sink sink' store store' : ℕ) : Type 0 where
  pub sink_failed : status ≡ 4 → Rose sink sink'
  pub store_failed : status ≡ 5 → Rose store store'

-- The line was written and the status is this one; or a front of it was, and the sink failed; or memory ran out, and
-- nothing was written.
pub record IsWritten (line : List ℕ) (sink sink' : Option (List ℕ)) : Type 0 where
  pub wrote : Moves (Gains line) sink sink'

pub record IsCut (line : List ℕ) (sink sink' : Option (List ℕ)) (faults faults' : ℕ) : Type 0 where
  pub wrote : Moves (GainsPart line) sink sink'
  pub cause : Rose faults faults'

abbrev pub IsSaid : ℕ → List ℕ → Change (Option (List ℕ)) → Change ℕ → ℕ → Type 0
IsSaid wanted line sinks faults status =
    ((status ≡ wanted) × IsWritten line sinks.was sinks.now)
    ⊎ ((status ≡ 4) × IsCut line sinks.was sinks.now faults.was faults.now)

abbrev pub IsSaidOrNot : ℕ → List ℕ → Change (Option (List ℕ)) → Change ℕ → ℕ → Type 0
IsSaidOrNot wanted line sinks faults status =
    IsSaid wanted line sinks faults status ⊎ ((status ≡ 7) × (sinks.now ≡ sinks.was))

-- a journal that is bad, and one that is full, is refused, and the store is then as it was; its line was written, or a front of it
pub record IsClosed (Gained : List ℕ → List ℕ → List ℕ → Type 0) (sink sink' : Option (List ℕ))
    (told told' : Option Store) : Type 0 where
  pub at : ℕ
  pub journal : Tells told (λ s. IsBadJournalAt profile s.journal at)
  pub shut : Tells told (HasNoBook profile)
  pub same : told' ≡ told
  pub wrote : Moves (Gained (journal_line at)) sink sink'

pub record IsFilled (Gained : List ℕ → List ℕ → List ℕ → Type 0) (sink sink' : Option (List ℕ))
    (told told' : Option Store) : Type 0 where
  pub entries : ℕ
  pub journal : Tells told (λ s. IsFullAt profile entries s.journal)
  pub shut : Tells told (HasFullBook profile)
  pub same : told' ≡ told
  pub wrote : Moves (Gained full_line) sink sink'

pub record Opens (sink sink' : Option (List ℕ)) (told told' : Option Store) (status : ℕ) : Type 0 where
  pub bad : status ≡ 6 → IsClosed Gains sink sink' told told'
  pub full : status ≡ 9 → IsFilled Gains sink sink' told told'
  -- a front of such a line was written, or actions were done
  pub cut : status ≡ 4 → IsClosed GainsPart sink sink' told told' ⊎ IsFilled GainsPart sink sink' told told'
      ⊎ Tells told (CanOpen profile)
  pub opened : IsTrue (is_one_of (0 ∷ 1 ∷ []) status) → Tells told (CanOpen profile)
  pub only : IsTrue (is_one_of (0 ∷ 1 ∷ 4 ∷ 5 ∷ 6 ∷ 7 ∷ 9 ∷ []) status)
