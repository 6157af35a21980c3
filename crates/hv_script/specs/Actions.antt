-- What a script asks to be done, in order, and where it is refused: at the least line over all its faults. This
-- project's profile.
use Rattle.std.specs.Prelude.{◌≡◌, ℕ, ◌+◌, Bool, true, false, Result, Ok, Err, if◌then◌else◌, Option, Some, None, List, [], ◌∷◌, ◌++◌, option_map}
use Rattle.std.specs.List.{position_or_len}
use Rattle.std.specs.Option.{option_to_list}
use Rattle.hv_base.specs.declared.gate.Stage.{Stage}
use Rattle.hv_script.specs.Items.{items_of}
use Rattle.hv_script.specs.Script.{bytes_line, earlier, front}
use Rattle.hv_script.specs.declared.items.Item.{Item}
use Rattle.hv_script.specs.declared.script.ScriptFault.{ScriptFault}
use Rattle.hv_script.specs.declared.script.ScriptFault.TheVariants.{Refused, NoMemory}
use Rattle.hv_script.specs.declared.actions.Action.{Action}
use Rattle.hv_script.specs.declared.actions.Action.TheVariants.{Run, Announce, Release, Compact as Compacting, Clean as Cleaning, Barrier as Parting}
use Rattle.hv_script.specs.declared.actions.Session.{Session as Named}
use Rattle.hv_script.specs.declared.actions.Statement.{Statement as Asked}
use Rattle.hv_script.specs.declared.kinds.Kind.{Kind}
use Rattle.hv_script.specs.declared.kinds.Kind.TheVariants.{Statement, Session, Hold, Go, Compact, Clean, Barrier, Unknown}
use Rattle.hv_script.specs.declared.standing.Pending.{Pending}
use Rattle.hv_script.specs.Kinds.{kind_of, same_text}
use Rattle.hv_script.specs.Standing.{Standing, first_standing, is_faulty, after, fault_lines}

-- how many sessions were named before this one
abbrev pub place_of : List ℕ → List (List ℕ) → ℕ
place_of name sessions = position_or_len (λ other. same_text other name) sessions

abbrev pub session_in : Standing → List ℕ → Named
session_in standing name = record { name = name; place = place_of name standing.sessions }

abbrev pub stage_of_pending : Pending → Stage
stage_of_pending pending = pending.stage

abbrev pub statement_in : Standing → Item → Asked
statement_in standing item =
    record { session = session_in standing standing.current; number = standing.statements + 1; text = item.bytes; hold = option_map stage_of_pending standing.pending }

-- what an item that isn't faulty asks to be done
abbrev pub action_for : Standing → Item → Kind → Option Action
action_for standing item Statement = Some (Run (statement_in standing item))
action_for standing item (Session name) = Some (Announce (session_in standing name))
action_for standing item (Hold stage) = None
action_for standing item (Go name) = Some (Release (session_in standing name))
action_for standing item Compact = Some Compacting
action_for standing item Clean = Some Cleaning
action_for standing item Barrier = Some Parting
action_for standing item Unknown = None

abbrev pub actions_from : Standing → List Item → List Action
actions_from standing [] = []
actions_from standing (item ∷ items) =
    if is_faulty standing item (kind_of item.bytes) then actions_from standing items
    else option_to_list (action_for standing item (kind_of item.bytes)) ++ actions_from (after standing item (kind_of item.bytes)) items

abbrev pub least : List ℕ → Option ℕ
least [] = None
least (line ∷ lines) = earlier (Some line) (least lines)

-- the line at which a script is refused, or None where it isn't
abbrev pub refused_at : List ℕ → Option ℕ
refused_at script = earlier (bytes_line script) (least (fault_lines first_standing (items_of (front script))))

-- what a script asks to be done
abbrev pub actions_of : List ℕ → List Action
actions_of script = actions_from first_standing (items_of (front script))

-- ---- a script whose sessions are served beside each other: its phases are cut by barriers, nothing is held, and
-- compaction and cleaning go on by themselves

-- a directive that isn't taken then
abbrev pub is_untaken : Kind → Bool
is_untaken Statement = false
is_untaken (Session name) = false
is_untaken (Hold stage) = true
is_untaken (Go name) = true
is_untaken Compact = true
is_untaken Clean = true
is_untaken Barrier = false
is_untaken Unknown = false

abbrev pub untaken_line : Item → Kind → Option ℕ
untaken_line item kind = if is_untaken kind then Some item.line else None

-- the lines of such directives
abbrev pub untaken_lines : List Item → List ℕ
untaken_lines [] = []
untaken_lines (item ∷ items) = option_to_list (untaken_line item (kind_of item.bytes)) ++ untaken_lines items

-- the line at which it is refused: a line that is refused in any script, or that of a directive that isn't taken
abbrev pub served_refused_at : List ℕ → Option ℕ
served_refused_at script = earlier (refused_at script) (least (untaken_lines (items_of (front script))))

-- What reading a script answers: what it asks for where no line is refused, else the least such line. Want of
-- memory may come at either.
abbrev pub IsReading : Option ℕ → List Action → Result (List Action) ScriptFault → Type 0
IsReading line actions (Ok read) = (line ≡ None) × (read ≡ actions)
IsReading line actions (Err (Refused refused)) = line ≡ Some refused
IsReading line actions (Err NoMemory) = Unit {0}
