-- What a run promises, by the status it ends with.
use Rattle.std.specs.Prelude.{◌≡◌, ◌⊎◌, ℕ, ◌+◌, ◌<◌, Bool, true, false, IsSome, Option, Some, None, List, []}
use Rattle.hv_base.specs.Sink.{GainsPart}
use Rattle.hv_shelf.specs.Disk.{Store}
use Rattle.hv_history.specs.declared.entry.Entry.{Entry}
use Rattle.hv_session.specs.hv_beginning.specs.hv_steps.specs.hv_table_reader.specs.hv_acts.specs.hv_telling.specs.hv_house.specs.Booting.{opening_of, OpensTo}
use Rattle.hv_script.specs.Words.{run_of}
use Rattle.hv_script.specs.Actions.{refused_at, actions_of}
use Rattle.hv_history.specs.State.{state_of}
use Rattle.hv_history.specs.Legal.{load, profile}
use Rattle.hv_program.specs.Change.{Change, from_to}
use Rattle.hv_program.specs.Doing.{AreInTurn}
use Rattle.hv_program.specs.Running.{beginning}
use Rattle.hv_program.specs.Lines.{words_line, script_line, full_line}
use Rattle.hv_program.specs.Results.{IsServed, IsCutOff, StopsForMemory, StopsForStore}

-- what the outside holds, where it tells: what is left of the source, what was written to the sink, and the store
pub record Outside : Type 0 where
  pub source : Option (List ℕ)
  pub sink : Option (List ℕ)
  pub store : Option Store

-- the script isn't refused, and was read to its end
pub record IsWhole (script left : List ℕ) : Type 0 where
  pub unrefused : refused_at script ≡ None
  pub at_end : left ≡ []

-- all of the script that was read was done, each statement behind the end of its session's last, and none waits any more
pub record IsAllDone (faults : Change ℕ) (book : List Entry) (source written : Change (List ℕ)) (stores : Change Store)
    (refused : Bool) : Type 0 where
  pub whole : IsWhole source.was source.now
  pub served : IsServed faults (opening_of stores.was.tree book) (actions_of source.was) written stores.now refused
  pub in_turn : AreInTurn (from_to (opening_of stores.was.tree book) served.last.book)
      (beginning (opening_of stores.was.tree book)) served.last
      (actions_of source.was) served.output refused served.are_done
  pub settled : served.last.waiting ≡ []

-- the line of a run that does nothing
abbrev pub IsLineOf : List (List ℕ) → List Entry → List ℕ → List ℕ → Type 0
IsLineOf words book script line =
    ((run_of words ≡ None) × (line ≡ words_line))
    ⊎ (IsSome (run_of words) × ((at : ℕ) × (refused_at script ≡ Some at) × (line ≡ script_line at)))
    ⊎ ((refused_at script ≡ None) × (profile.entries < load (state_of book) + 1) × (line ≡ full_line))

-- a front of that line was written, and the store is as it was
pub record IsCutLine (words : List (List ℕ)) (book : List Entry) (script : List ℕ) (written : Change (List ℕ))
    (stores : Change Store) : Type 0 where
  pub line : List ℕ
  pub is_line : IsLineOf words book script line
  pub wrote : GainsPart line written.was written.now
  pub store_same : stores.now ≡ stores.was

-- nothing was written, and the store is as it was
pub record IsUnread (written : Change (List ℕ)) (stores : Change Store) : Type 0 where
  pub wrote : written.now ≡ written.was
  pub store_same : stores.now ≡ stores.was

-- What was written, what the book has, and which files stand, by the status; `source` is the script and what is left of it. The runs of the statuses 2, 6, 8 and 9
-- do nothing but write their line.
pub record IsAfter (faults : Change ℕ) (words : List (List ℕ)) (book : List Entry) (status : ℕ)
    (source written : Change (List ℕ)) (stores : Change Store)
    : Type 0 where
  pub accepted : status ≡ 0 → IsAllDone faults book source written stores false
  pub refused : status ≡ 1 → IsAllDone faults book source written stores true
  pub source_failed : status ≡ 3 → IsUnread written stores
  pub sink_failed : status ≡ 4 → (IsWhole source.was source.now
      × IsCutOff faults (opening_of stores.was.tree book) (actions_of source.was) written stores.now)
      ⊎ IsCutLine words book source.was written stores
  pub store_failed : status ≡ 5 → IsWhole source.was source.now
      × StopsForStore faults book (actions_of source.was) written stores
  pub no_memory : status ≡ 7 → (IsWhole source.was source.now
      × StopsForMemory faults book (actions_of source.was) written stores)
      ⊎ IsUnread written stores

-- the outside tells: what is left, what was written, and the store; and of what it tells this is so
pub record AllTell (outside : Outside) (Is : List ℕ → List ℕ → Store → Type 0) : Type 0 where
  pub left : List ℕ
  pub now : List ℕ
  pub store : Store
  pub source_tells : outside.source ≡ Some left
  pub sink_tells : outside.sink ≡ Some now
  pub store_tells : outside.store ≡ Some store
  pub is_after : Is left now store

-- For every script, over a store that opens to a book, whichever device fails: what is printed is each statement's meaning
-- over the writes committed before its snapshot. The store's count of faults was the first of the two numbers, and is the second.
abbrev pub Headline : List (List ℕ) → Outside → Outside → ℕ → ℕ → ℕ → Type 0
Headline words before after low high status =
    (script written : List ℕ) (store : Store) (book : List Entry)
    → before.source ≡ Some script → before.sink ≡ Some written → before.store ≡ Some store → OpensTo book store
    → AllTell after (λ left now store'. IsAfter (from_to low high) words book status (from_to script left)
    (from_to written now) (from_to store store'))
