-- What is proved of entries over any state, whatever transactions are open; and which files can be written.
use Rattle.std.specs.Prelude.{ℕ, ◌+◌, length}
use Rattle.hv_base.specs.declared.ids.Limits.{Limits}
use Rattle.hv_history.specs.hv_meaning.specs.hv_typing.specs.hv_logic.specs.declared.effect.Effect.{Effect}
use Rattle.hv_history.specs.hv_meaning.specs.hv_route.specs.declared.files.OutFile.{OutFile}
use Rattle.hv_history.specs.hv_meaning.specs.hv_route.specs.hv_rowfile.specs.Layout.{CanWrite, IsFile}
use Rattle.hv_history.specs.declared.entry.Entry.{Entry}
use Rattle.hv_history.specs.State.{State, after}
use Rattle.hv_history.specs.Legal.{Fits}
use Rattle.hv_stands.specs.Sound.{IsSound}

-- how many rows a change inserts and deletes
abbrev pub changes_in : Effect → ℕ
changes_in effect = length effect.inserts + length effect.deletes

-- ---- files

-- the records of a file can be written as one
abbrev pub CanBeFile : OutFile → Type 0
CanBeFile file = CanWrite file.deletes file.bucket file.recs

-- its records are those of a file
abbrev pub HasFile : OutFile → Type 0
HasFile file = IsFile file.deletes file.bucket file.recs

-- ---- over any state, whatever transactions are open

abbrev pub SoundnessGoesOn : Type 0
SoundnessGoesOn =
    (limits : Limits) (state : State) (event : Entry) → Fits limits state event → IsSound state → IsSound (after state event)
