-- A house may cross threads where its store may: all that it holds has its lemma, as rattle writes one for each type, but for
-- its book.
use denote.RattleType.{RattleType}
use denote.Param.Send.{IsSend, sendable}
use denote.Param.SendFields.{as_row_send}
use Rattle.std.proofs.Crossing.{crosses}
use Rattle.hv_shelf.specs.contracts.memory.MemoryShelf as memory
use Rattle.hv_shelf.proofs.memory.MemoryShelf.TheSendSync as memory_sent
use Rattle.hv_trail.proofs.trail.Mark.TheSendSync as mark
use Rattle.hv_trail.specs.contracts.kept.KeptTrail as trail
use Rattle.hv_session.specs.hv_beginning.specs.hv_steps.specs.hv_table_reader.specs.hv_acts.specs.contracts.told.ToldHouse as told
use Rattle.hv_session.specs.hv_beginning.specs.hv_steps.specs.hv_table_reader.specs.hv_acts.specs.hv_telling.specs.hv_house.specs.contracts.house.House as house
use Rattle.hv_session.specs.hv_beginning.specs.hv_steps.specs.hv_table_reader.specs.hv_acts.specs.hv_telling.specs.hv_house.proofs.buffer.RecordBuffer.TheSendSync as buffer
use Rattle.tests_seats.proofs.BookCrossing.{book_field}

pub trail_field : IsSend (trail.the_field).row
trail_field = let b = book_field in let m = mark.the_field_send in search (sendable, crosses) depth 40 fits 30000

module _ (D : RattleType) (s : IsSend D) where
  house_field : IsSend (house.the_field D).row
  house_field = let t = trail_field in let b = buffer.the_send in search (sendable, crosses) depth 40 fits 30000

  told_field : IsSend (told.the_field D).row
  told_field = let h = house_field in search (sendable, crosses) depth 40

  pub told_row : IsSend (told.the_row D)
  told_row = as_row_send (told.the_field D) told_field

-- one over a store in memory
pub told_memory_row : IsSend (told.the_row memory.the_row)
told_memory_row = told_row memory.the_row memory_sent.the_send
