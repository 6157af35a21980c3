use Rattle.hv_actor.specs.Acting.{Anything, Touched}
use Rattle.hv_actor.specs.Rows.{anything_rows}
use Rattle.hv_session.specs.hv_beginning.specs.hv_steps.specs.hv_table_reader.specs.hv_acts.specs.Told.{seen_in}
use Rattle.hv_saying.proofs.Owned.{owned-all, owned-stopped}
use Rattle.hv_saying.proofs.Spanned.{all-stay, one-stays}
use Rattle.hv_saying.proofs.laws.owning_is_plain.Goals as goal

pub returns-clause-said : goal.returns-clause-said
returns-clause-said g c =
    owned-all g.D.Shelf.told g.D.Shelf.faults Anything anything_rows (Touched g.D.Shelf.faults seen_in) c.own_entries_are_plain.ensures.replied

pub returns-clause-stopped : goal.returns-clause-stopped
returns-clause-stopped g c =
    owned-stopped g.D.Shelf.told g.D.Shelf.faults Anything anything_rows (Touched g.D.Shelf.faults seen_in) c.own_entries_are_plain.ensures.replied
    c.own_entries_are_plain.ensures.stopped

pub returns-clause-stays : goal.returns-clause-stays
returns-clause-stays g c =
    let meanwhile = Touched g.D.Shelf.faults seen_in in
    all-stay g.D.Shelf.told g.D.Shelf.faults Anything anything_rows meanwhile (one-stays g.D.Shelf.told g.D.Shelf.faults Anything anything_rows meanwhile)
