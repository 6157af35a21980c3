-- The thresholds of compaction behind texts of SET, worked out by hand.
use Rattle.std.specs.Prelude.{◌≡◌, ℕ, Option, Some, List, [], ◌∷◌, ◌++◌, codes}
use Rattle.hv_ast.specs.declared.statement.Setting.{Setting}
use Rattle.hv_ast.specs.declared.statement.Stmt.{Stmt}
use Rattle.hv_ast.specs.declared.statement.Stmt.TheVariants as stmt
use Rattle.hv_grammar.specs.Texts.{tree_of}
use Rattle.hv_history.specs.declared.entry.Entry.{Entry}
use Rattle.hv_history.specs.declared.entry.Entry.TheVariants as entry
use Rattle.hv_history.specs.declared.entry.Cause.TheVariants as cause
use Rattle.hv_history.specs.State.{state_of}
use Rattle.hv_history.specs.Thresholds.{delta_key, percent_key, delta_threshold, percent_threshold}
use Rattle.hv_law_jobs.specs.Worked.{made, committed}

abbrev pub setting : List ℕ → List ℕ → Setting
setting key value = record { key = key; value = value }

-- the tree of a text that sets the key so
abbrev pub sets : List ℕ → List ℕ → Option Stmt
sets key value = Some (stmt.Set (setting key value))

-- the store is opened, and a transaction of that text comes
abbrev pub said : List ℕ → List Entry
said text = entry.Boot 0 ∷ entry.Opened (record { 0 = 1 }) (codes "main") 1 text ∷ []

abbrev pub ends : ℕ → Entry
ends txn = committed txn []

abbrev pub next_said : List ℕ → Entry
next_said text = entry.Opened (record { 0 = 2 }) (codes "main") 2 text

pub record AreSet (three twenty half : List ℕ) : Type 0 where
  -- where nothing was set
  pub unset : delta_threshold (state_of made) ≡ 10
  pub unset_percent : percent_threshold (state_of made) ≡ 100
  -- one that has committed sets its own key
  pub set_delta : delta_threshold (state_of (said three ++ ends 1 ∷ [])) ≡ 3
  pub set_percent : percent_threshold (state_of (said half ++ ends 1 ∷ [])) ≡ 2500
  pub other_key : percent_threshold (state_of (said three ++ ends 1 ∷ [])) ≡ 100
  -- one that hasn't ended, or was aborted, sets nothing, and an opening takes back what was set
  pub unended : delta_threshold (state_of (said three)) ≡ 10
  pub aborted : delta_threshold (state_of (said three ++ entry.Abort (record { 0 = 1 }) cause.Memory ∷ [])) ≡ 10
  pub opened_again : delta_threshold (state_of (said three ++ ends 1 ∷ entry.Boot 1 ∷ [])) ≡ 10
  -- the last commit counts, whichever transaction came first
  pub set_again : delta_threshold (state_of (said three ++ ends 1 ∷ next_said twenty ∷ ends 2 ∷ [])) ≡ 20
  pub last_commit : delta_threshold (state_of (said three ++ next_said twenty ∷ ends 2 ∷ ends 1 ∷ [])) ≡ 3

-- of texts that are such SETs
abbrev pub ThresholdsByHand : Type 0
ThresholdsByHand =
    (three twenty half : List ℕ) → tree_of three ≡ sets delta_key (codes "3") → tree_of twenty ≡ sets delta_key (codes "20")
    → tree_of half ≡ sets percent_key (codes "2.5") → AreSet three twenty half
