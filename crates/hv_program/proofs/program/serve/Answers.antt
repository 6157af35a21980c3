use Rattle.hv_base.proofs.ToldLemmas.{stays_same}
use Rattle.std.proofs.Common.{◌≤◌, inl, length, ap, refl, ◌∙◌, arith}
use Rattle.hv_history.specs.Legal.{profile}
use Rattle.hv_session.specs.hv_beginning.specs.hv_steps.specs.hv_table_reader.specs.hv_acts.specs.hv_telling.proofs.Opening.{opened-is-whole}
use Rattle.hv_session.specs.hv_beginning.specs.hv_steps.specs.hv_table_reader.specs.hv_acts.specs.hv_telling.specs.hv_house.proofs.Hards.{opened_shuts}
use Rattle.hv_program.proofs.Ends.{Serves-run, Serves-store, Serves-memory, Serves-full}
use Rattle.hv_program.proofs.Refusing.{opens-run, opens-store, opens-memory, opens-bad, opens-full, full-found}
use Rattle.hv_program.proofs.Blaming.{blames-run, blames-store, blames-memory, hard-run, hard-store, hard-memory, hard-said, hard-said-or-not}
use Rattle.hv_session.specs.hv_beginning.specs.hv_steps.specs.hv_table_reader.specs.hv_acts.specs.hv_telling.specs.hv_house.specs.House.{entries_of}
use Rattle.hv_session.specs.hv_beginning.specs.hv_steps.specs.hv_table_reader.specs.hv_acts.specs.hv_telling.specs.hv_house.specs.Steps.{IsOpenedOver}
use Rattle.hv_session.specs.hv_beginning.specs.hv_steps.specs.hv_table_reader.specs.hv_acts.specs.hv_telling.specs.hv_house.specs.Booting.{Opens}
use Rattle.hv_session.specs.hv_beginning.specs.hv_steps.specs.hv_table_reader.specs.hv_acts.specs.hv_telling.specs.Telling.{IsWhole}
use Rattle.hv_program.proofs.Sessions.{again}
use Rattle.hv_program.proofs.Leaving.{opens-some}
use Rattle.hv_program.proofs.program.serve.Goals as goal

pub run-ran-requires-clause-whole : goal.run-ran-requires-clause-whole
run-ran-requires-clause-whole g c =
    again c.in-Ok.house c.new-told.result.house c.new-told.ensures.house (λ h. IsWhole g.D.Shelf.told h)
    (opened-is-whole g.D.Shelf.told c.args.shelf c.in-Ok.house c.in-Ok.ensures.ready c.in-Ok.ensures.opened c.in-Ok.ensures.over c.in-Ok.ensures.whole)

pub run-ran-requires-clause-begun : goal.run-ran-requires-clause-begun
run-ran-requires-clause-begun g c =
    again c.in-Ok.house c.new-told.result.house c.new-told.ensures.house (λ h. 1 ≤ length (entries_of h))
    (opens-some (g.D.Shelf.told c.args.shelf) (entries_of c.in-Ok.house) c.in-Ok.ensures.opened)

pub new-told-requires : goal.new-told-requires
new-told-requires g c = record {
  whole = opened-is-whole g.D.Shelf.told c.args.shelf c.in-Ok.house c.in-Ok.ensures.ready c.in-Ok.ensures.opened c.in-Ok.ensures.over c.in-Ok.ensures.whole;
  shuts = opened_shuts g.D.Shelf.hard c.args.shelf c.in-Ok.house c.in-Ok.ensures.over c.in-Ok.ensures.ready.kept.running c.in-Ok.ensures.hard_later;
}

pub run-ran-requires-clause-hard : goal.run-ran-requires-clause-hard
run-ran-requires-clause-hard g c = c.new-told.ensures.shuts

pub returns-in-Ok : goal.returns-in-Ok
returns-in-Ok g c =
    let told_house = c.new-told.result.house in
    let same = c.new-told.ensures.house in
    let shelf_is = c.close.ensures ∙ ap (λ h. h.shelf) c.into_house.ensures.house in
    let opened = again c.in-Ok.house told_house same (λ h. Opens profile (g.D.Shelf.told c.args.shelf) (entries_of h)) c.in-Ok.ensures.opened in
    let over = again c.in-Ok.house told_house same (λ h. IsOpenedOver c.args.shelf h) c.in-Ok.ensures.over in
    let later = again c.in-Ok.house told_house same (λ h. g.D.Shelf.faults c.args.shelf ≤ g.D.Shelf.faults h.shelf) c.in-Ok.ensures.later in
    record {
      served = Serves-run g.D.Shelf.told c.args.shelf told_house c.run-ran.new.house.house _ _ _ _ _ _ _ c.run-ran.result _ _ _
          c.status_of.ensures.value later (ap g.D.Shelf.faults shelf_is) refl (ap g.D.Shelf.told shelf_is)
          opened over c.run-ran.ensures.start c.run-ran.ensures.whole c.run-ran.ensures.prints c.run-ran.ensures.halts c.run-ran.ensures.heard;
      opened = opens-run c.run-ran.result _ _ _ _ _ (entries_of told_house) c.status_of.ensures.value opened c.run-ran.ensures.why;
      blames = blames-run c.run-ran.result _ _ _ _ _ _ _ c.status_of.ensures.value later (ap g.D.Shelf.faults shelf_is) c.run-ran.ensures.blames;
      hard = λ e.
          inl (hard-run g.D.Shelf.hard c.args.shelf told_house c.run-ran.new.house c.run-ran.result _ _ c.status_of.ensures.value (ap g.D.Shelf.hard shelf_is) over
          c.run-ran.ensures.start c.run-ran.ensures.shut c.run-ran.ensures.hard e);
      heard = c.run-ran.ensures.heard;
    }

pub returns-in-Err-Store-default : goal.returns-in-Err-Store-default
returns-in-Err-Store-default g c = record {
  served = Serves-store _ _ _ _ _ _ _ _ c.status.ensures c.in-Err-Store-default.field-0-0-is c.in-Err-Store-default.ensures.same_tree c.in-Err-Store-default.ensures.stopped
      c.in-Err-Store-default.ensures.still;
  opened = opens-store _ _ _ _ _ c.status.ensures;
  blames = blames-store _ _ _ _ _ c.status.ensures c.in-Err-Store-default.field-0-0-is c.in-Err-Store-default.ensures.cause.failed;
  hard = hard-store _ _ _ _ _ _ c.in-Err-Store-default.field-0-0-is c.in-Err-Store-default.ensures.hard.failed;
  heard = stays_same _;
}

pub returns-in-Err-NoMemory-default : goal.returns-in-Err-NoMemory-default
returns-in-Err-NoMemory-default g c = record {
  served = Serves-memory _ _ _ _ _ _ _ _ c.status-in-Err-NoMemory-default.ensures c.in-Err-NoMemory-default.field-0-0-is c.in-Err-NoMemory-default.ensures.same_tree c.in-Err-NoMemory-default.ensures.stopped
      c.in-Err-NoMemory-default.ensures.still;
  opened = opens-memory _ _ _ _ _ c.status-in-Err-NoMemory-default.ensures;
  blames = blames-memory _ _ _ _ c.status-in-Err-NoMemory-default.ensures;
  hard = hard-memory _ _ _ _ _ c.status-in-Err-NoMemory-default.ensures;
  heard = stays_same _;
}

pub returns-in-Err-Full-default-clause-served : goal.returns-in-Err-Full-default-clause-served
returns-in-Err-Full-default-clause-served g c =
    let full = full-found _ _ _ _ c.in-Err-Full-default.field-0-0-is c.in-Err-Full-default.ensures.bad in
    Serves-full _ _ _ _ _ _ _ _ _ _ full.0 full.2 c.full_journal.ensures.said

pub returns-in-Err-Full-default-clause-opened : goal.returns-in-Err-Full-default-clause-opened
returns-in-Err-Full-default-clause-opened g c =
    opens-full _ _ _ _ _ _ _ _ _ c.in-Err-Full-default.field-0-0-is c.in-Err-Full-default.ensures.bad c.full_journal.ensures.said

pub returns-in-Err-BadJournal-default-clause-opened : goal.returns-in-Err-BadJournal-default-clause-opened
returns-in-Err-BadJournal-default-clause-opened g c =
    opens-bad _ _ _ _ _ _ _ _ _ c.in-Err-BadJournal-default.field-0-0-is c.in-Err-BadJournal-default.ensures.bad c.bad_journal.ensures.said

pub returns-in-Err-Full-default-clause-hard : goal.returns-in-Err-Full-default-clause-hard
returns-in-Err-Full-default-clause-hard g c = hard-said _ 9 _ _ _ _ _ _ _ _ _ (λ e. omega (arith, e)) c.full_journal.ensures.said

pub returns-in-Err-BadJournal-default-clause-hard : goal.returns-in-Err-BadJournal-default-clause-hard
returns-in-Err-BadJournal-default-clause-hard g c = hard-said-or-not _ 6 _ _ _ _ _ _ _ _ _ (λ e. omega (arith, e)) c.bad_journal.ensures.said
