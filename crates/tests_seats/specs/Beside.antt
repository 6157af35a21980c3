-- What two threads keep that act on one house, each from a chair of its own.
use Rattle.std.specs.Prelude.{◌≡◌, ◌≤◌, ℕ, false, Option, Some, None, length}
use Rattle.atomic_table.specs.Seated.{TableId}
use Rattle.hv_base.specs.declared.ids.TxnId.{TxnId}
use Rattle.hv_shelf.specs.Plan.{Memory}
use Rattle.hv_shelf.specs.Disk.{Store}
use Rattle.hv_ast.specs.declared.statement.Stmt.{Stmt}
use Rattle.hv_built.specs.Running.{Runs}
use Rattle.hv_stands.specs.Running.{Asking}
use Rattle.hv_session.specs.hv_beginning.specs.hv_steps.specs.hv_table_reader.specs.hv_acts.specs.hv_telling.specs.hv_house.specs.Housed.{ShutsHard}
use Rattle.hv_turn.specs.Tokens.{Token}
use Rattle.hv_seated.specs.Seats.{fixed_of}
use Rattle.hv_session.specs.hv_beginning.specs.hv_steps.specs.hv_table_reader.specs.hv_acts.specs.declared.told.ToldHouse.{ToldHouse}
use Rattle.hv_session.specs.hv_beginning.specs.hv_steps.specs.hv_table_reader.specs.hv_acts.specs.declared.starting.Started.{Started}
use Rattle.hv_session.specs.hv_beginning.specs.hv_steps.specs.hv_table_reader.specs.hv_acts.specs.declared.starting.Started.TheVariants as started
use Rattle.hv_session.specs.hv_beginning.specs.hv_steps.specs.hv_table_reader.specs.hv_acts.specs.Told.{IsWholeOrClosed, seen_in, trail_in}
use Rattle.hv_session.specs.hv_beginning.specs.hv_steps.specs.declared.ready.Way.{Way}
use Rattle.hv_session.specs.hv_beginning.specs.hv_steps.specs.Going.{IsOpenHouse, WasOnWay}
use Rattle.tests_seats.specs.declared.statements.Asked.{Asked}

-- ---- the house

-- what a store in memory tells, and its hard count
abbrev pub told_memory : Memory → Option Store
told_memory m = Some m.store

abbrev pub hard_memory : Memory → ℕ
hard_memory m = m.plan.hard

-- it is as acts keep it
abbrev pub IsAsKept : {D : Type 0} → (D → Option Store) → (D → ℕ) → ToldHouse D → Type 0
IsAsKept told hard house = IsWholeOrClosed told house.house × ShutsHard hard (seen_in house)

-- ---- a statement

-- it was read twice, and neither it nor its session's name is too long
pub record IsAsked (asked : Asked) : Type 0 where
  pub short : length asked.text ≤ 32768
  pub named : length asked.session ≤ 32
  pub kept : Runs asked.text asked.kept
  pub tree : Runs asked.text asked.tree

abbrev pub way_of : TxnId → Started → Option Way
way_of txn (started.At place) = Some (record { txn = txn; place = place })
way_of txn (started.Aborted aborted) = None

-- it was started, and the house is open
pub record IsOnItsWay {D : Type 0} (now : ToldHouse D) (asking : Asking) (said : Stmt) (way : Way) : Type 0 where
  pub running : IsOpenHouse now
  pub was : WasOnWay (trail_in now) asking way said

-- ---- a seat

-- it is free, of the same turn, with as many parts, and the same start
pub record IsGivenBack {S I Q : Type 0} (old new : Token S I Q) : Type 0 where
  pub free : new.has_turn ≡ false
  pub same : fixed_of new ≡ fixed_of old

-- it is the only one of its turn, and free
pub record IsWholeSeat {S I Q : Type 0} (turn : TableId) (seat : Token S I Q) : Type 0 where
  pub of_it : seat.turn ≡ turn
  pub free : seat.has_turn ≡ false
  pub all : seat.parts ≡ 64
