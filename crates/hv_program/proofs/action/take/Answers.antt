use Rattle.std.proofs.Common.{◌≤◌, ℕ, Option, IfOk, IfErr, List, length, sym, ap, subst}
use Rattle.hv_base.specs.declared.gate.Stage.{Stage}
use Rattle.hv_stands.specs.Running.{Asking}
use Rattle.hv_actor.specs.Rows.{later_itself}
use Rattle.hv_session.specs.hv_beginning.specs.hv_steps.specs.hv_table_reader.specs.hv_acts.specs.Told.{seen_in}
use Rattle.hv_session.specs.hv_beginning.specs.hv_steps.specs.hv_table_reader.specs.hv_acts.specs.hv_telling.specs.hv_house.specs.House.{entries_of}
use Rattle.hv_session.specs.Doing.{IsHold}
use Rattle.hv_session.specs.Taking.{asked_of, IsKeptIn, IsTakenAs}
use Rattle.hv_session.specs.Ways.{StopsTaken}
use Rattle.hv_session.specs.hv_beginning.specs.hv_steps.specs.hv_table_reader.specs.hv_acts.specs.hv_telling.specs.hv_house.specs.declared.fault.HouseFault.TheVariants as fault
use Rattle.hv_program.specs.Doing.{asking_of}
use Rattle.hv_program.specs.Stops.{IsShutFor}
use Rattle.hv_program.proofs.Acting.{opens-first}
use Rattle.hv_program.proofs.Blaming.{passed_up}
use Rattle.hv_program.proofs.Unasked.{still-adds, lacking-taken, still-stops}
use Rattle.hv_program.proofs.action.take.Goals as goal

pub take_alone-requires-clause-short : goal.take_alone-requires-clause-short
take_alone-requires-clause-short g c = subst (λ (text : List ℕ). length text ≤ 32768) (sym (ap (λ (a : Asking). a.text) c.in-Ok.ensures.asked)) c.requires.short.text

pub take_alone-requires-clause-named : goal.take_alone-requires-clause-named
take_alone-requires-clause-named g c = subst (λ (name : List ℕ). length name ≤ 32) (sym (ap (λ (a : Asking). a.session) c.in-Ok.ensures.asked)) c.requires.short.session

pub take_alone-requires-clause-hold : goal.take_alone-requires-clause-hold
take_alone-requires-clause-hold g c = subst IsHold (sym c.in-Ok.ensures.hold) c.requires.short.hold

pub returns-in-Ok-clause-held : goal.returns-in-Ok-clause-held
returns-in-Ok-clause-held g c =
    subst (λ (a : Asking). IfOk c.take_alone.result (IsKeptIn (entries_of c.args.house.now.house) (entries_of c.take_alone.new.house.house) a)) c.in-Ok.ensures.asked c.take_alone.ensures.held

pub returns-in-Ok-clause-taken : goal.returns-in-Ok-clause-taken
returns-in-Ok-clause-taken g c = λ is.
    subst (λ (a : Asking). IfOk c.take_alone.result (IsTakenAs (entries_of c.args.house.now.house) (entries_of c.take_alone.new.house.house) a c.args.statement.now.hold)) c.in-Ok.ensures.asked
    (subst (λ (h : Option Stage). IfOk c.take_alone.result (IsTakenAs (entries_of c.args.house.now.house) (entries_of c.take_alone.new.house.house) (asked_of c.in-Ok.asking) h)) c.in-Ok.ensures.hold
    (c.take_alone.ensures.taken is))

pub returns-in-Ok-clause-stopped : goal.returns-in-Ok-clause-stopped
returns-in-Ok-clause-stopped g c =
    subst (λ (a : Asking). IfErr c.take_alone.result (λ why. StopsTaken g.D.Shelf.told a why c.args.house.now.house c.take_alone.new.house.house)) c.in-Ok.ensures.asked c.take_alone.ensures.stopped

pub returns-in_ok-memory_reply-in-Err-clause-added : goal.returns-in_ok-memory_reply-in-Err-clause-added
returns-in_ok-memory_reply-in-Err-clause-added g c = still-adds _ _ _ (entries_of c.args.house.now.house)

pub returns-in_ok-memory_reply-in-Err-clause-later : goal.returns-in_ok-memory_reply-in-Err-clause-later
returns-in_ok-memory_reply-in-Err-clause-later g c = later_itself g.D.Shelf.faults (seen_in c.args.house.now)

pub returns-in_ok-memory_reply-in-Err-clause-taken : goal.returns-in_ok-memory_reply-in-Err-clause-taken
returns-in_ok-memory_reply-in-Err-clause-taken g c = λ is.
    lacking-taken (entries_of c.args.house.now.house) (asking_of c.args.statement.now) c.args.statement.now.hold
    c.in_ok-memory_reply-in-Err.field-0 c.in_ok-memory_reply-in-Err.ensures.line

pub returns-in_err-memory_reply-in-Err-clause-stopped : goal.returns-in_err-memory_reply-in-Err-clause-stopped
returns-in_err-memory_reply-in-Err-clause-stopped g c =
    still-stops g.D.Shelf.told c.args.house.now.house (asking_of c.args.statement.now) c.from_residual.result c.from_residual.ensures.1 c.requires.whole.ready.kept.reads

pub returns-in_err-memory_reply-in-Err-clause-opens : goal.returns-in_err-memory_reply-in-Err-clause-opens
returns-in_err-memory_reply-in-Err-clause-opens g c = opens-first g.D.Shelf.told c.args.house.now.house c.from_residual.result c.requires.whole

pub returns-in_err-memory_reply-in-Err-clause-shut : goal.returns-in_err-memory_reply-in-Err-clause-shut
returns-in_err-memory_reply-in-Err-clause-shut g c = passed_up c.from_residual.result fault.NoMemory (IsShutFor c.args.house.now) c.from_residual.ensures.1 tt
