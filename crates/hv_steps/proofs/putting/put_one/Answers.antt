use Rattle.std.proofs.Common.{Result, IfOk, IfErr, ◌≡◌, sym, subst}
use Rattle.hv_shelf.specs.declared.place.Place.{Place}
use Rattle.hv_stands.specs.Files.{place_of_file}
use Rattle.hv_stands.specs.Laws.{HasFile}
use Rattle.hv_table_reader.specs.hv_acts.specs.declared.fault.ActFault.{ActFault}
use Rattle.hv_steps.specs.Going.{faults_in, IsOpenHouse}
use Rattle.hv_steps.specs.Preparing.{IsFileDue, IsRefusal}
use Rattle.hv_steps.proofs.Joining.{adds-none}
use Rattle.hv_steps.proofs.FileActs.{with-ok, with-is, with-err, refused-lacking}
use Rattle.hv_steps.proofs.putting.put_one.Goals as goal

pub put_file-requires-clause-due : goal.put_file-requires-clause-due
put_file-requires-clause-due g c =
    subst (λ (at : Place). IsFileDue g.D.Shelf.told (g.W.Actor.house c.args.actor.now) c.args.txn at c.args.file.now) (sym c.in-Ok.ensures.one) c.requires.due

pub returns-in-Ok-clause-running : goal.returns-in-Ok-clause-running
returns-in-Ok-clause-running g c =
    subst (λ (r : Result Place ActFault). IfOk r (λ _. IsOpenHouse (g.W.Actor.house c.put_file.new.actor))) (sym c.with_place.ensures)
    (with-ok (IsOpenHouse (g.W.Actor.house c.put_file.new.actor)) c.in-Ok.copy c.put_file.result c.put_file.ensures.running)

pub returns-in-Ok-clause-place : goal.returns-in-Ok-clause-place
returns-in-Ok-clause-place g c =
    subst (λ (r : Result Place ActFault). IfOk r (λ place. place ≡ place_of_file c.args.table.0 c.args.write.0 c.args.file.now)) (sym c.with_place.ensures)
    (with-is (place_of_file c.args.table.0 c.args.write.0 c.args.file.now) c.in-Ok.copy c.put_file.result c.in-Ok.ensures.other)

pub returns-in-Ok-clause-encoded : goal.returns-in-Ok-clause-encoded
returns-in-Ok-clause-encoded g c =
    subst (λ (r : Result Place ActFault). IfOk r (λ _. HasFile c.args.file.now)) (sym c.with_place.ensures)
    (with-ok (HasFile c.args.file.now) c.in-Ok.copy c.put_file.result c.put_file.ensures.encoded)

pub returns-in-Ok-clause-refusal : goal.returns-in-Ok-clause-refusal
returns-in-Ok-clause-refusal g c =
    subst (λ (r : Result Place ActFault). IfErr r (IsRefusal g.D.Shelf.told g.D.Shelf.faults g.W.Actor.meanwhile (faults_in g.D.Shelf.faults (g.W.Actor.house c.args.actor.now)) c.args.txn (g.W.Actor.house c.put_file.new.actor))) (sym c.with_place.ensures)
    (with-err (IsRefusal g.D.Shelf.told g.D.Shelf.faults g.W.Actor.meanwhile (faults_in g.D.Shelf.faults (g.W.Actor.house c.args.actor.now)) c.args.txn (g.W.Actor.house c.put_file.new.actor))
    c.in-Ok.copy c.put_file.result c.put_file.ensures.refusal)

pub returns-in-Err-clause-adds : goal.returns-in-Err-clause-adds
returns-in-Err-clause-adds g c =
    adds-none g.D.Shelf.faults g.W.Actor.between g.met.W.Actor.rows (g.W.Actor.own c.args.actor.now) (g.W.Actor.house c.args.actor.now)

pub returns-in-Err-clause-refusal : goal.returns-in-Err-clause-refusal
returns-in-Err-clause-refusal g c =
    refused-lacking g.D.Shelf.told g.D.Shelf.faults g.W.Actor.meanwhile (faults_in g.D.Shelf.faults (g.W.Actor.house c.args.actor.now)) c.args.txn (g.W.Actor.house c.args.actor.now)
    c.requires.running
