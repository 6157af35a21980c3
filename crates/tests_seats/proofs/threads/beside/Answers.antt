use denote.Param.Send.{param_send, arg_send}
use Rattle.std.proofs.Common.{sym, subst}
use Rattle.hv_shelf.specs.Plan.{Memory}
use Rattle.hv_session.specs.hv_beginning.specs.hv_steps.specs.hv_table_reader.specs.hv_acts.specs.declared.told.ToldHouse.{ToldHouse}
use Rattle.tests_seats.specs.Beside.{told_memory, hard_memory, IsAsKept}
use Rattle.tests_seats.proofs.HouseCrossing.{told_memory_row}
use Rattle.tests_seats.proofs.threads.beside.Goals as goal

pub new-requires : goal.new-requires
new-requires g c = record {
  keeps = subst (λ (h : ToldHouse Memory). IsAsKept told_memory hard_memory h) (sym c.new-shared.ensures.house) c.requires.keeps;
}

pub both-seat-requires-send-H : goal.both-seat-requires-send-H
both-seat-requires-send-H g c κs _ = search (told_memory_row, param_send, arg_send) depth 10

pub returns-in-Ok : goal.returns-in-Ok
returns-in-Ok g c = record {
  keeps = subst (λ (h : ToldHouse Memory). IsAsKept told_memory hard_memory h) (sym c.into_house.ensures.house) c.close-shared.ensures.keeps;
}
