use Rattle.std.proofs.Common.{◌≡◌, ◌+◌, ◌++◌, [], ◌∷◌, List, take, drop, ap, sym, ◌∙◌, subst}
use Rattle.std.proofs.lemmas.List.{take_more, drop_more, take-append-drop}
use Rattle.hv_route.specs.declared.files.OutFile.{OutFile}
use Rattle.hv_table_rows.specs.Putting.{CanPut}
use Rattle.hv_steps.proofs.Joining.{adds-more}
use Rattle.hv_actor.specs.Acting.{known}
use Rattle.hv_steps.specs.Preparing.{ArePutUpTo}
use Rattle.hv_steps.proofs.FileActs.{PutsUpTo, puts-none, puts-more, due-still, one-among}
use Rattle.hv_steps.proofs.putting.put_each.Goals as goal

pub loop-file-init : goal.loop-file-init
loop-file-init g c = (
  c.requires.keeps,
  puts-none g.D.Shelf.told g.D.Shelf.faults g.W.Actor.between g.met.W.Actor.rows (g.W.Actor.own c.args.actor.now) (g.W.Actor.house c.args.actor.now) c.args.table.0 c.args.write.0 _
      c.requires.running c.new-places.ensures.items,
)

pub put_next-requires-clause-can : goal.put_next-requires-clause-can
put_next-requires-clause-can g c =
    let files = c.args.files.now in
    let i = c.loop-file.file-index in
    let file = c.file-item.result in
    let whole : take i files ++ file ∷ drop (i + 1) files ≡ files =
    ap (λ f. take i files ++ f ∷ drop (i + 1) files) c.file-item.is ∙ sym (ap (λ r. take i files ++ r) (drop_more files i file c.loop-file-test.true)) ∙ take-append-drop i files in
    one-among CanPut (take i files) (drop (i + 1) files) files file whole c.requires.can

pub put_next-requires-clause-due : goal.put_next-requires-clause-due
put_next-requires-clause-due g c =
    let files = c.args.files.now in
    let i = c.loop-file.file-index in
    let file = c.file-item.result in
    let whole : take i files ++ file ∷ drop (i + 1) files ≡ files =
    ap (λ f. take i files ++ f ∷ drop (i + 1) files) c.file-item.is ∙ sym (ap (λ r. take i files ++ r) (drop_more files i file c.loop-file-test.true)) ∙ take-append-drop i files in
    due-still g.D.Shelf.told g.D.Shelf.faults g.W.Actor.between g.met.W.Actor.rows (g.W.Actor.own c.args.actor.now) (g.W.Actor.own c.loop-file.actor)
    (g.W.Actor.house c.args.actor.now) (g.W.Actor.house c.loop-file.actor) c.args.txn c.args.table.0 c.args.write.0 files file c.loop-file.invariant.1.adds c.requires.due
    (λ (P : OutFile → Type 0) all. one-among P (take i files) (drop (i + 1) files) files file whole all)

pub returns-in-Err-clause-adds : goal.returns-in-Err-clause-adds
returns-in-Err-clause-adds g c =
    adds-more g.D.Shelf.faults g.W.Actor.between g.met.W.Actor.rows (g.W.Actor.own c.args.actor.now) (g.W.Actor.own c.loop-file.actor) (g.W.Actor.own c.put_next.new.actor)
    (g.W.Actor.house c.args.actor.now) (g.W.Actor.house c.loop-file.actor) (g.W.Actor.house c.put_next.new.actor) [] [] c.loop-file.invariant.1.adds c.put_next.ensures.adds

pub loop-file-preserved : goal.loop-file-preserved
loop-file-preserved g c =
    let files = c.args.files.now in
    let i = c.loop-file.file-index in
    let file = c.file-item.result in
    let more : take (i + 1) files ≡ take i files ++ file ∷ [] = take_more files i file c.loop-file-test.true ∙ ap (λ f. take i files ++ f ∷ []) (sym c.file-item.is) in (
      c.put_next.ensures.keeps,
      subst (λ (fs : List OutFile). PutsUpTo g.D.Shelf.faults g.W.Actor.between c.args.txn.0
          (known (g.W.Actor.own c.args.actor.now) (g.W.Actor.house c.args.actor.now))
          (known (g.W.Actor.own c.put_next.new.actor) (g.W.Actor.house c.put_next.new.actor))
          (ArePutUpTo c.args.table.0 c.args.write.0 fs c.put_next.new.places.items)) (sym more)
          (puts-more g.D.Shelf.told g.D.Shelf.faults g.W.Actor.between g.met.W.Actor.rows (g.W.Actor.own c.args.actor.now) (g.W.Actor.own c.loop-file.actor)
          (g.W.Actor.own c.put_next.new.actor) (g.W.Actor.house c.args.actor.now) (g.W.Actor.house c.loop-file.actor) (g.W.Actor.house c.put_next.new.actor)
          c.args.table.0 c.args.write.0 (take i files) file c.loop-file.places.items c.put_next.new.places.items c.loop-file.invariant.1 c.put_next.ensures.adds
          c.in_default.ensures.running c.in_default.ensures.encoded c.in_default.ensures.places),
    )
