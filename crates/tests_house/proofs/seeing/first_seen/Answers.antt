use Rattle.std.proofs.Common.{List, sym, ap, ◌∙◌}
use Rattle.std.specs.Prelude.{slice_get}
use Rattle.hv_locks.specs.declared.table.Lock.{Lock}
use Rattle.hv_session.specs.hv_beginning.specs.hv_steps.specs.hv_table_reader.specs.hv_acts.specs.Told.{trail_in}
use Rattle.hv_session.specs.hv_beginning.specs.hv_steps.proofs.Joining.{front-itself}
use Rattle.hv_session.specs.hv_beginning.specs.hv_steps.proofs.Unseen.{way-reader}
use Rattle.tests_house.proofs.seeing.first_seen.Goals as goal

pub rows_of-requires-clause-reader : goal.rows_of-requires-clause-reader
rows_of-requires-clause-reader g c =
    let trail = trail_in (g.W.Actor.house c.args.actor.now) in
    way-reader trail trail c.requires.was.0 c.args.way c.args.tree.now 0 c.in-Some.lock.now c.requires.was.1 (front-itself trail)
    (ap (λ (locks : List Lock). slice_get locks 0) (sym (c.deref.ensures.value ∙ c.in_ok-names.ensures.names)) ∙ sym c.in-Some.ensures.value)
