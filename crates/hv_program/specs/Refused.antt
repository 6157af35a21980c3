-- Runs that do nothing: for words that are no command, or one that isn't built, a script that is refused, or a journal that is bad or full. Each of
-- these comes exactly where its cause stands, but for a device that fails or memory that runs out.
use Rattle.std.specs.Prelude.{◌≡◌, ◌⊎◌, ℕ, ◌==◌, Bool, IsTrue, IsSome, Some, None, List, [], ◌∷◌}
use Rattle.std.specs.List.{list_any}
use Rattle.hv_base.specs.Told.{Tells, Moves}
use Rattle.hv_base.specs.Sink.{Gains, GainsPart}
use Rattle.hv_script.specs.Words.{run_of}
use Rattle.hv_script.specs.Actions.{refused_at}
use Rattle.hv_history.specs.Legal.{profile}
use Rattle.hv_session.specs.hv_beginning.specs.hv_steps.specs.hv_table_reader.specs.hv_acts.specs.hv_telling.specs.hv_house.specs.hv_recovery.specs.Recovery.{IsBadJournalAt}
use Rattle.hv_session.specs.hv_beginning.specs.hv_steps.specs.hv_table_reader.specs.hv_acts.specs.hv_telling.specs.hv_house.specs.Booting.{IsFullAt, HasNoBook, HasFullBook, CanOpen}
use Rattle.hv_program.specs.Lines.{words_line, script_line, journal_line, full_line}
use Rattle.hv_program.specs.Headline.{Outside}

abbrev pub is_one_of : List ℕ → ℕ → Bool
is_one_of statuses status = list_any (λ n. n == status) statuses

-- ---- what such a run did with a line: `Gains` where it was written whole, `GainsPart` where only a front of it was

pub record Says (Gained : List ℕ → List ℕ → List ℕ → Type 0) (line : List ℕ) (before after : Outside) : Type 0 where
  pub wrote : Moves (Gained line) before.sink after.sink
  -- the store is as it was
  pub store_same : after.store ≡ before.store

pub record IsBadWords (Gained : List ℕ → List ℕ → List ℕ → Type 0) (words : List (List ℕ))
    (before after : Outside) : Type 0 where
  pub words_are : run_of words ≡ None
  pub source_same : after.source ≡ before.source
  pub says : Says Gained words_line before after

pub record IsRefusedScript (Gained : List ℕ → List ℕ → List ℕ → Type 0) (words : List (List ℕ))
    (before after : Outside) : Type 0 where
  pub words_are : IsSome (run_of words)
  pub line : ℕ
  pub refused : Tells before.source (λ script. refused_at script ≡ Some line)
  pub says : Says Gained (script_line line) before after

pub record IsBadJournal (Gained : List ℕ → List ℕ → List ℕ → Type 0) (words : List (List ℕ))
    (before after : Outside) : Type 0 where
  pub words_are : IsSome (run_of words)
  pub unrefused : Tells before.source (λ script. refused_at script ≡ None)
  pub at : ℕ
  pub journal : Tells before.store (λ s. IsBadJournalAt profile s.journal at)
  pub shut : Tells before.store (HasNoBook profile)
  pub says : Says Gained (journal_line at) before after

pub record IsFullJournal (Gained : List ℕ → List ℕ → List ℕ → Type 0) (words : List (List ℕ))
    (before after : Outside) : Type 0 where
  pub words_are : IsSome (run_of words)
  pub unrefused : Tells before.source (λ script. refused_at script ≡ None)
  pub entries : ℕ
  pub journal : Tells before.store (λ s. IsFullAt profile entries s.journal)
  pub shut : Tells before.store (HasFullBook profile)
  pub says : Says Gained full_line before after

-- a front of one of these lines was written, and no more
abbrev pub CutsLine : List (List ℕ) → Outside → Outside → Type 0
CutsLine words before after =
    IsBadWords GainsPart words before after ⊎ IsRefusedScript GainsPart words before after
    ⊎ IsBadJournal GainsPart words before after ⊎ IsFullJournal GainsPart words before after

-- nothing was at fault that such a line tells of, so statements were done
pub record IsServing (words : List (List ℕ)) (before : Outside) : Type 0 where
  pub words_are : IsSome (run_of words)
  pub unrefused : Tells before.source (λ script. refused_at script ≡ None)
  pub opens : Tells before.store (CanOpen profile)

-- nothing was written, and the store is as it was
pub record DoesNothing (before after : Outside) : Type 0 where
  pub sink_same : after.sink ≡ before.sink
  pub store_same : after.store ≡ before.store

-- ---- and when it comes: the first cause in this order, but for the statuses 3, 4, 5 and 7

pub record Refuses (words : List (List ℕ)) (before after : Outside) (status : ℕ) : Type 0 where
  pub bad_words : status ≡ 2 → IsBadWords Gains words before after
  pub bad_journal : status ≡ 6 → IsBadJournal Gains words before after
  pub refused_script : status ≡ 8 → IsRefusedScript Gains words before after
  pub full_journal : status ≡ 9 → IsFullJournal Gains words before after
  -- over every store, one that doesn't open among them
  pub source_failed : status ≡ 3 → DoesNothing before after
  pub sink_failed : status ≡ 4 → CutsLine words before after ⊎ IsServing words before
  pub at_words : run_of words ≡ None → IsTrue (is_one_of (2 ∷ 4 ∷ []) status)
  pub at_script : IsSome (run_of words) → Tells before.source (λ script. (line : ℕ) → refused_at script ≡ Some line
      → IsTrue (is_one_of (3 ∷ 4 ∷ 7 ∷ 8 ∷ []) status))
  -- statements are done only where the store could be opened
  pub at_journal : IsTrue (is_one_of (0 ∷ 1 ∷ []) status) → Tells before.store (CanOpen profile)
  -- no other status is there
  pub only : IsTrue (is_one_of (0 ∷ 1 ∷ 2 ∷ 3 ∷ 4 ∷ 5 ∷ 6 ∷ 7 ∷ 8 ∷ 9 ∷ []) status)
