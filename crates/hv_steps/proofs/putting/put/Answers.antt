use Rattle.std.proofs.Common.{List, ◌∙◌, sym, subst}
use Rattle.hv_route.specs.declared.files.OutFile.{OutFile}
use Rattle.hv_steps.specs.Going.{faults_in}
use Rattle.hv_steps.specs.Preparing.{AreFilesDue}
use Rattle.hv_steps.proofs.Joining.{adds-none}
use Rattle.hv_steps.proofs.FileActs.{all-due, refused-lacking}
use Rattle.hv_steps.proofs.putting.put.Goals as goal

pub put_files-requires-clause-due : goal.put_files-requires-clause-due
put_files-requires-clause-due g c =
    subst (λ (files : List OutFile). AreFilesDue g.D.Shelf.told (g.W.Actor.house c.args.actor.now) c.args.txn c.args.info.now.table.0 c.args.write.0 files)
    (sym (c.deref.ensures.value ∙ c.in-Ok.ensures.files))
    (all-due g.D.Shelf.told (g.W.Actor.house c.args.actor.now) c.args.txn c.args.info.now c.args.effect c.args.write.0 c.requires.id)

pub returns-in-Err-clause-adds : goal.returns-in-Err-clause-adds
returns-in-Err-clause-adds g c =
    adds-none g.D.Shelf.faults g.W.Actor.between g.met.W.Actor.rows (g.W.Actor.own c.args.actor.now) (g.W.Actor.house c.args.actor.now)

pub returns-in-Err-clause-refusal : goal.returns-in-Err-clause-refusal
returns-in-Err-clause-refusal g c =
    refused-lacking g.D.Shelf.told g.D.Shelf.faults g.W.Actor.meanwhile (faults_in g.D.Shelf.faults (g.W.Actor.house c.args.actor.now)) c.args.txn (g.W.Actor.house c.args.actor.now)
    c.requires.running
