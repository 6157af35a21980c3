-- A script worked out by hand: a CREATE TABLE that is held at its start, another session's of the same name beside it, and the release.
use Rattle.std.specs.Prelude.{ℕ, Option, Some, None, List, [], ◌∷◌, codes}
use Rattle.hv_base.specs.declared.gate.Stage.{Stage}
use Rattle.hv_base.specs.declared.gate.Stage.TheVariants as stage
use Rattle.hv_script.specs.declared.actions.Action.{Action}
use Rattle.hv_script.specs.declared.actions.Action.TheVariants as action
use Rattle.hv_script.specs.declared.actions.Session.{Session}
use Rattle.hv_script.specs.declared.actions.Statement.{Statement}
use Rattle.hv_history.specs.declared.entry.Entry.{Entry}
use Rattle.hv_history.specs.declared.entry.Entry.TheVariants as entry
use Rattle.hv_history.specs.declared.entry.Cause.TheVariants as cause

abbrev pub text_by_hand : List ℕ
text_by_hand = codes "CREATE TABLE t (a INT)"

abbrev pub book_by_hand : List Entry
book_by_hand =
    entry.Opened (record { 0 = 1 }) (codes "one") 1 text_by_hand
    ∷ entry.Start (record { 0 = 1 }) 0
    ∷ entry.Opened (record { 0 = 2 }) (codes "two") 2 text_by_hand
    ∷ entry.Abort (record { 0 = 2 }) (cause.Blocked (record { 0 = 1 }))
    ∷ entry.Create (record { 0 = 1 }) (record { 0 = 1 }) ∷ []

-- ---- the script

abbrev pub one_by_hand : Session
one_by_hand = record { name = codes "one"; place = 0 }

abbrev pub two_by_hand : Session
two_by_hand = record { name = codes "two"; place = 1 }

abbrev pub statement_by_hand : Session → ℕ → Option Stage → Statement
statement_by_hand session number hold = record { session = session; number = number; text = text_by_hand; hold = hold }

abbrev pub actions_by_hand : List Action
actions_by_hand =
    action.Run (statement_by_hand one_by_hand 1 (Some stage.Start))
    ∷ action.Run (statement_by_hand two_by_hand 2 None)
    ∷ action.Release one_by_hand ∷ []
