use Rattle.std.proofs.Common.{◌≡◌, ◌≤◌, length, take}
use Rattle.hv_base.specs.Told.{StaysTold}
use Rattle.hv_session.specs.hv_beginning.specs.hv_steps.specs.hv_table_reader.specs.hv_acts.specs.Told.{seen_in}
use Rattle.hv_session.specs.hv_beginning.specs.hv_steps.specs.hv_table_reader.specs.hv_acts.specs.hv_telling.specs.hv_house.specs.House.{entries_of}
use Rattle.hv_session.specs.hv_beginning.specs.hv_steps.specs.hv_table_reader.specs.hv_acts.specs.hv_telling.specs.hv_house.specs.Housed.{ShutsHard}
use Rattle.hv_session.specs.hv_beginning.specs.hv_steps.specs.hv_table_reader.specs.hv_acts.specs.hv_telling.specs.Telling.{IsWhole, IsToldHouse}
use Rattle.hv_program.specs.Change.{from_to}
use Rattle.hv_program.specs.Keeping.{standing_of, AreHeld, AreTrulyHeld, CanAllFinish}
use Rattle.hv_program.specs.Running.{Prints}
use Rattle.hv_program.proofs.run.run.Given as goal

abbrev pub invariant-loop-action : goal.invariant-loop-action
invariant-loop-action g l = record {
  whole : IsWhole g.D.Shelf.told l.house.house;
  held : AreHeld (entries_of l.house.house) l.held.items;
  truly : AreTrulyHeld g.D.Shelf.told l.house.house l.held.items;
  can : CanAllFinish g.D.Shelf.told l.house l.held.items;
  prints : IsToldHouse g.D.Shelf.told l.initial.house.house → Prints (from_to (g.D.Shelf.faults l.initial.house.house.shelf) (g.D.Shelf.faults l.house.house.shelf)) (entries_of l.initial.house.house)
      (standing_of l.house.house l.held.items) (take l.action-index l.actions) (from_to (g.O.Sink.written l.initial.sink) (g.O.Sink.written l.sink)) l.refused;
  start : l.house.house.start ≡ l.initial.house.house.start;
  hard : ShutsHard g.D.Shelf.hard (seen_in l.house);
  begun : 1 ≤ length (entries_of l.house.house);
  heard : StaysTold (g.O.Sink.written l.initial.sink) (g.O.Sink.written l.sink);
  later_store : g.D.Shelf.faults l.initial.house.house.shelf ≤ g.D.Shelf.faults l.house.house.shelf;
  later_sink : g.O.Sink.faults l.initial.sink ≤ g.O.Sink.faults l.sink;
}
