-- Memory lacked before a session was asked: nothing was done.
use Rattle.std.proofs.Common.{◌≡◌, ℕ, Option, None, Result, Ok, Err, IfErr, IsErrAnd, inl, inr, List, [], append-nil, refl, sym, subst, arith}
use Rattle.hv_shelf.specs.Disk.{Store}
use Rattle.hv_history.specs.declared.entry.Entry.{Entry}
use Rattle.hv_history.specs.declared.entry.Cause.TheVariants as cause
use Rattle.hv_history.specs.Answers.{cause_text}
use Rattle.hv_journal.specs.Appending.{Holds}
use Rattle.hv_stands.specs.Running.{Asking}
use Rattle.hv_base.specs.declared.gate.Stage.{Stage}
use Rattle.hv_session.specs.hv_beginning.specs.hv_steps.specs.hv_table_reader.specs.hv_acts.specs.hv_telling.specs.hv_house.specs.declared.fault.HouseFault.{HouseFault}
use Rattle.hv_session.specs.hv_beginning.specs.hv_steps.specs.hv_table_reader.specs.hv_acts.specs.hv_telling.specs.hv_house.specs.declared.fault.HouseFault.TheVariants as fault
use Rattle.hv_session.specs.hv_beginning.specs.hv_steps.specs.hv_table_reader.specs.hv_acts.specs.hv_telling.specs.hv_house.specs.declared.house.House.{House}
use Rattle.hv_session.specs.hv_beginning.specs.hv_steps.specs.hv_table_reader.specs.hv_acts.specs.hv_telling.specs.hv_house.specs.House.{entries_of}
use Rattle.hv_session.specs.hv_beginning.specs.hv_steps.specs.declared.ready.Reply.{Reply}
use Rattle.hv_session.specs.hv_beginning.specs.hv_steps.specs.Ending.{AddsOf}
use Rattle.hv_session.specs.declared.paused.Taken.TheVariants as taken
use Rattle.hv_session.specs.Lines.{IsLine}
use Rattle.hv_session.specs.Taking.{IsTakenAs}
use Rattle.hv_session.specs.Ways.{StopsTaken}

pub still-adds : (txn low high : ℕ) (book : List Entry) → AddsOf txn low high book book
still-adds txn low high book = record { added = []; book = sym (append-nil book); of_it = tt; counts = tt }

pub lacking-taken : (book : List Entry) (asking : Asking) (hold : Option Stage) (reply : Reply) → IsLine (cause_text None cause.Memory) reply
    → IsTakenAs book book asking hold (taken.Replied reply)
lacking-taken book asking hold reply line = inr (inr (inr (record { book = refl; unended = line.unended; is_refused = line.refusal; line = line.line_is })))

pub still-stops : {D T : Type 0} (told : D → Option Store) (house : House D) (asking : Asking) (result : Result T HouseFault) → IsErrAnd result (λ e. e ≡ fault.NoMemory)
    → Holds (told house.shelf) (entries_of house) → IfErr result (λ why. StopsTaken told asking why house house)
still-stops told house asking (Ok x) is holds = tt
still-stops told house asking (Err why) is holds =
    subst (λ (e : HouseFault). StopsTaken told asking e house house) (sym is) (inl (
      record {
        added = [];
        book = sym (append-nil (entries_of house));
        of_it = tt;
        fits = tt;
        legal = λ is. record { fit = tt; truthful = tt };
        unended = tt;
        further = [];
        further_of_it = tt;
        unopened = tt;
        few = omega arith;
        fit = tt;
        leaves = holds;
      },
      tt,
    ))
