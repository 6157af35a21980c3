use Rattle.hv_trail.specs.declared.trail.Reader.TheVariants.{Txn}
use Rattle.hv_house.specs.hv_table_rows.specs.Putting.{bytes_of}
use Rattle.hv_telling.proofs.Puts.{same-start, put-whole, put-stays, put-opens}
use Rattle.hv_telling.proofs.Putting.{meant-puts}
use Rattle.hv_telling.proofs.telling.put.Goals as goal

pub returns-clause-whole : goal.returns-clause-whole
returns-clause-whole g c =
    put-whole g.D.Shelf.told g.D.Shelf.faults (Txn c.args.by) c.args.place (bytes_of c.args.file.now) c.args.house.now c.put.new.self c.requires.whole
    (meant-puts g.D.Shelf.told c.args.by c.args.place c.args.file.now c.args.house.now c.requires.whole c.requires.truly) c.put.result c.put.ensures.put

pub returns-clause-stays : goal.returns-clause-stays
returns-clause-stays g c =
    put-stays g.D.Shelf.told g.D.Shelf.faults (Txn c.args.by) c.args.place (bytes_of c.args.file.now) c.args.house.now c.put.new.self c.requires.whole
    (meant-puts g.D.Shelf.told c.args.by c.args.place c.args.file.now c.args.house.now c.requires.whole c.requires.truly) c.put.result c.put.ensures.put

pub returns-clause-opens : goal.returns-clause-opens
returns-clause-opens g c =
    put-opens g.D.Shelf.told g.D.Shelf.faults (Txn c.args.by) c.args.place (bytes_of c.args.file.now) c.args.house.now c.put.new.self c.requires.whole
    (meant-puts g.D.Shelf.told c.args.by c.args.place c.args.file.now c.args.house.now c.requires.whole c.requires.truly) c.put.result c.put.ensures.put

pub returns-clause-start : goal.returns-clause-start
returns-clause-start g c =
    same-start g.D.Shelf.told g.D.Shelf.faults (Txn c.args.by) c.args.place (bytes_of c.args.file.now) c.args.house.now c.put.new.self c.requires.whole
    (meant-puts g.D.Shelf.told c.args.by c.args.place c.args.file.now c.args.house.now c.requires.whole c.requires.truly) _ c.put.ensures.put.step
