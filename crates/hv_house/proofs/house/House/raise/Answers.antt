use Rattle.std.proofs.Common.{length, inl, inr, refl, ap}
use Rattle.hv_history.specs.State.{state_of}
use Rattle.hv_house.specs.declared.boot.BootFault.TheVariants as fault
use Rattle.hv_house.proofs.Boots.{unnoted, noted-with-room}
use Rattle.hv_house.proofs.Raising.{unopened, lacks-memory, is-full, full-room, raise-fault, err-map, all-over}
use Rattle.hv_house.proofs.house.House.raise.Goals as goal

pub returns-then-place-gt-MOST_BYTES-clause-stopped : goal.returns-then-place-gt-MOST_BYTES-clause-stopped
returns-then-place-gt-MOST_BYTES-clause-stopped g c =
    unopened g.D.Shelf.told g.D.Shelf.faults g.D.Shelf.hard c.args.book.entries c.args.shelf fault.NoMemory lacks-memory c.requires.journal

pub returns-then-place-gt-MOST_BYTES-clause-roomy : goal.returns-then-place-gt-MOST_BYTES-clause-roomy
returns-then-place-gt-MOST_BYTES-clause-roomy g c = unnoted c.args.limits (g.D.Shelf.told c.args.shelf) c.args.book.entries c.requires.journal

pub returns-then-place-gt-MOST_BYTES-clause-room : goal.returns-then-place-gt-MOST_BYTES-clause-room
returns-then-place-gt-MOST_BYTES-clause-room g c = inr refl

pub open_read-requires-clause-room : goal.open_read-requires-clause-room
open_read-requires-clause-room g c = c.has_room-room.ensures.room.0 c.if-room.true

pub returns-then-room-clause-over : goal.returns-then-room-clause-over
returns-then-room-clause-over g c =
    all-over g.D.Shelf.told g.D.Shelf.faults g.D.Shelf.hard c.args.limits c.args.start.value c.args.shelf c.args.book.entries c.open_read.result
    c.open_read.ensures.raised

pub returns-then-room-clause-full : goal.returns-then-room-clause-full
returns-then-room-clause-full g c =
    err-map c.open_read.result _ _
    (λ x ends. raise-fault c.args.limits c.args.book.entries (g.D.Shelf.told c.args.shelf) (g.D.Shelf.told x.1) x.0 ends) c.open_read.ensures.ends

pub returns-then-room-clause-room : goal.returns-then-room-clause-room
returns-then-room-clause-room g c =
    err-map c.open_read.result _ _ (λ x ends. inl (c.has_room-room.ensures.room.0 c.if-room.true)) c.open_read.ensures.ends

pub returns-else-room-clause-room : goal.returns-else-room-clause-room
returns-else-room-clause-room g c = inr refl

pub returns-then-room-clause-roomy : goal.returns-then-room-clause-roomy
returns-then-room-clause-roomy g c =
    err-map c.open_read.result _ _
    (λ x ends. noted-with-room c.args.limits (g.D.Shelf.told x.1) c.args.book.entries (c.has_room-room.ensures.room.0 c.if-room.true)) c.open_read.ensures.ends

pub returns-else-room-clause-full : goal.returns-else-room-clause-full
returns-else-room-clause-full g c = (
  refl,
  ap length c.entries.ensures.entries,
  full-room c.args.limits (state_of c.args.book.entries) c.has_room-room.result c.if-room.false c.has_room-room.ensures.room.1,
)

pub returns-else-room-clause-stopped : goal.returns-else-room-clause-stopped
returns-else-room-clause-stopped g c =
    unopened g.D.Shelf.told g.D.Shelf.faults g.D.Shelf.hard c.args.book.entries c.args.shelf (fault.Full (length c.entries.result.now))
    (is-full (length c.entries.result.now)) c.requires.journal

pub returns-else-room-clause-roomy : goal.returns-else-room-clause-roomy
returns-else-room-clause-roomy g c = unnoted c.args.limits (g.D.Shelf.told c.args.shelf) c.args.book.entries c.requires.journal
