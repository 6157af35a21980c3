-- The serial history of a script: the book that one thread makes, action by action, and which statements wait then.
use Rattle.std.specs.Prelude.{ℕ, Bool, true, false, Option, Some, None, List, [], ◌∷◌, ◌++◌}
use Rattle.hv_base.specs.declared.gate.Stage.{Stage}
use Rattle.hv_ast.specs.declared.statement.Stmt.{Stmt}
use Rattle.hv_grammar.specs.Texts.{tree_of}
use Rattle.hv_built.specs.Built.{is_built}
use Rattle.hv_script.specs.declared.actions.Action.{Action}
use Rattle.hv_script.specs.declared.actions.Action.TheVariants as action
use Rattle.hv_history.specs.declared.entry.Entry.{Entry}
use Rattle.hv_history.specs.declared.state.Transaction.{Transaction}
use Rattle.hv_history.specs.State.{numbered, state_of}
use Rattle.hv_history.specs.Legal.{is_open}
use Rattle.hv_stands.specs.Running.{Asking, next_number, opening}
use Rattle.hv_law_next.specs.Next.{lacks_room, carried_on}
use Rattle.hv_program.specs.Doing.{Waiting, Standing, waiting_in, without, asking_of}
use Rattle.hv_law_serial.specs.Passes.{compacted, cleaned}

-- ---- a text that runs: it is a statement, of a form that is built

abbrev pub tree_runs : Option Stmt → Bool
tree_runs None = false
tree_runs (Some tree) = is_built tree

abbrev pub text_runs : List ℕ → Bool
text_runs text = tree_runs (tree_of text)

-- ---- a statement is taken up: it is opened, and goes on up to its hold; it waits where its transaction is open then

abbrev pub is_open_one : Option Transaction → Bool
is_open_one None = false
is_open_one (Some transaction) = is_open transaction

abbrev pub waits_if : Bool → Waiting → List Waiting → List Waiting
waits_if true one waiting = waiting ++ one ∷ []
waits_if false one waiting = waiting

abbrev pub stood : List Waiting → Asking → ℕ → List Entry → Standing
stood waiting asking txn book = record {
  book = book;
  waiting = waits_if (is_open_one (numbered (state_of book).transactions txn))
      (record { session = asking.session; txn = txn }) waiting;
}

abbrev pub opened_up : Standing → Asking → Option Stage → Standing
opened_up before asking hold =
    stood before.waiting asking (next_number before.book)
    (carried_on hold (next_number before.book) (before.book ++ opening before.book asking ∷ []))

-- it isn't opened where there is no room for its opening and its end
abbrev pub if_room : Bool → Standing → Asking → Option Stage → Standing
if_room true before asking hold = before
if_room false before asking hold = opened_up before asking hold

-- nor where its text is refused
abbrev pub if_runs : Bool → Standing → Asking → Option Stage → Standing
if_runs false before asking hold = before
if_runs true before asking hold = if_room (lacks_room (state_of before.book) 2) before asking hold

abbrev pub taken_up : Standing → Asking → Option Stage → Standing
taken_up before asking hold = if_runs (text_runs asking.text) before asking hold

-- ---- a statement that waits is released, and goes on to its end

abbrev pub released : Standing → List ℕ → Option Waiting → Standing
released before name None = before
released before name (Some waiting) =
    record { book = carried_on None waiting.txn before.book; waiting = without name before.waiting }

-- ---- one action, and a script's

abbrev pub serial_one : Standing → Action → Standing
serial_one before (action.Announce session) = before
serial_one before action.Barrier = before
serial_one before (action.Run statement) = taken_up before (asking_of statement) statement.hold
serial_one before (action.Release session) = released before session.name (waiting_in session.name before.waiting)
serial_one before action.Compact = record { book = compacted before.book; waiting = before.waiting }
serial_one before action.Clean = record { book = cleaned before.book; waiting = before.waiting }

abbrev pub serial : Standing → List Action → Standing
serial before [] = before
serial before (first ∷ more) = serial (serial_one before first) more
