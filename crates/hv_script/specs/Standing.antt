-- Where the reading of a script stands between two items, which items are faulty there, and where it stands
-- behind one that isn't. This project's profile.
use Rattle.std.specs.Prelude.{ℕ, ◌+◌, ◌&&◌, ◌||◌, Bool, true, not, if◌then◌else◌, Option, Some, None, List, [], ◌∷◌, ◌++◌, length, codes, map, option_map, nat_le, nat_lt}
use Rattle.std.specs.List.{filter, list_any}
use Rattle.std.specs.Option.{is_some, option_to_list}
use Rattle.hv_script.specs.declared.items.Item.{Item}
use Rattle.hv_script.specs.declared.script.TheConstants.{MAX_STATEMENTS, MAX_TEXT}
use Rattle.hv_script.specs.declared.kinds.Kind.{Kind}
use Rattle.hv_script.specs.declared.kinds.Kind.TheVariants.{Statement, Session, Hold, Go, Compact, Clean, Barrier, Unknown}
use Rattle.hv_script.specs.declared.standing.Pending.{Pending}
use Rattle.hv_script.specs.declared.standing.Held.{Held}
use Rattle.hv_script.specs.declared.standing.TheConstants.{MAX_SESSIONS}
use Rattle.hv_script.specs.Kinds.{kind_of, same_text}

pub record Standing : Type 0 where
  -- the sessions that were named so far, `main` first
  pub sessions : List (List ℕ)
  -- the session to which the next statement belongs
  pub current : List ℕ
  -- how many statements there were
  pub statements : ℕ
  -- the hold whose statement is to come
  pub pending : Option Pending
  -- the sessions whose statement is held
  pub held : List Held

abbrev pub first_standing : Standing
first_standing =
    record { sessions = codes "main" ∷ []; current = codes "main"; statements = 0; pending = None; held = [] }

abbrev pub is_seen : List ℕ → List (List ℕ) → Bool
is_seen name sessions = list_any (λ other. same_text other name) sessions

abbrev pub holds : List ℕ → Held → Bool
holds name held = same_text held.session name

abbrev pub is_held : List ℕ → List Held → Bool
is_held name held = list_any (holds name) held

-- Whether an item is refused: a statement that is too long, or one too many, or one of a held session; any
-- directive between a hold and its statement; a session too many; the release of a session that isn't held.
abbrev pub is_faulty : Standing → Item → Kind → Bool
is_faulty standing item Statement =
    nat_lt MAX_TEXT (length item.bytes) || nat_le MAX_STATEMENTS standing.statements || is_held standing.current standing.held
is_faulty standing item (Session name) =
    is_some standing.pending || (not (is_seen name standing.sessions) && nat_le MAX_SESSIONS (length standing.sessions))
is_faulty standing item (Hold stage) = is_some standing.pending
is_faulty standing item (Go name) = is_some standing.pending || not (is_held name standing.held)
is_faulty standing item Compact = is_some standing.pending
is_faulty standing item Clean = is_some standing.pending
is_faulty standing item Barrier = is_some standing.pending
is_faulty standing item Unknown = true

abbrev pub with_session : List ℕ → List (List ℕ) → List (List ℕ)
with_session name sessions = if is_seen name sessions then sessions else sessions ++ name ∷ []

-- a statement of the session is held where a hold stands before it
abbrev pub with_held : List ℕ → Option Pending → List Held → List Held
with_held session None held = held
with_held session (Some pending) held = held ++ record { session = session; line = pending.line } ∷ []

abbrev pub is_other : List ℕ → Held → Bool
is_other name held = not (holds name held)

-- where the reading stands behind an item that isn't faulty
abbrev pub after : Standing → Item → Kind → Standing
after standing item Statement =
    record standing { statements = standing.statements + 1; pending = None; held = with_held standing.current standing.pending standing.held }
after standing item (Session name) = record standing { sessions = with_session name standing.sessions; current = name }
after standing item (Hold stage) = record standing { pending = Some (record { stage = stage; line = item.line }) }
after standing item (Go name) = record standing { held = filter (is_other name) standing.held }
after standing item Compact = standing
after standing item Clean = standing
after standing item Barrier = standing
after standing item Unknown = standing

abbrev pub line_of_pending : Pending → ℕ
line_of_pending pending = pending.line

abbrev pub line_of_held : Held → ℕ
line_of_held held = held.line

-- the lines of the holds that are still to be released
abbrev pub unreleased : Standing → List ℕ
unreleased standing =
    option_to_list (option_map line_of_pending standing.pending) ++ map line_of_held standing.held

-- The lines of all faults from here on. Behind a faulty item the reading goes on as if it weren't there.
abbrev pub fault_lines : Standing → List Item → List ℕ
fault_lines standing [] = unreleased standing
fault_lines standing (item ∷ items) =
    if is_faulty standing item (kind_of item.bytes) then item.line ∷ fault_lines standing items
    else fault_lines (after standing item (kind_of item.bytes)) items
