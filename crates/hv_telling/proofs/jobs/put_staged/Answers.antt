use Rattle.hv_trail.specs.declared.trail.Reader.TheVariants.{Job}
use Rattle.hv_telling.proofs.Puts.{same-start, put-whole, put-stays, put-opens}
use Rattle.hv_telling.proofs.Staged.{staged-puts}
use Rattle.hv_telling.proofs.jobs.put_staged.Goals as goal

pub returns-clause-whole : goal.returns-clause-whole
returns-clause-whole g c =
    put-whole g.D.Shelf.told g.D.Shelf.faults (Job c.args.job) c.args.place c.args.bytes.now c.args.house.now c.put_bytes.new.self c.requires.whole
    (staged-puts g.D.Shelf.told c.args.job c.args.place c.args.bytes.now c.args.house.now c.requires.whole c.requires.truly) c.put_bytes.result c.put_bytes.ensures.put

pub returns-clause-stays : goal.returns-clause-stays
returns-clause-stays g c =
    put-stays g.D.Shelf.told g.D.Shelf.faults (Job c.args.job) c.args.place c.args.bytes.now c.args.house.now c.put_bytes.new.self c.requires.whole
    (staged-puts g.D.Shelf.told c.args.job c.args.place c.args.bytes.now c.args.house.now c.requires.whole c.requires.truly) c.put_bytes.result c.put_bytes.ensures.put

pub returns-clause-opens : goal.returns-clause-opens
returns-clause-opens g c =
    put-opens g.D.Shelf.told g.D.Shelf.faults (Job c.args.job) c.args.place c.args.bytes.now c.args.house.now c.put_bytes.new.self c.requires.whole
    (staged-puts g.D.Shelf.told c.args.job c.args.place c.args.bytes.now c.args.house.now c.requires.whole c.requires.truly) c.put_bytes.result c.put_bytes.ensures.put

pub returns-clause-start : goal.returns-clause-start
returns-clause-start g c =
    same-start g.D.Shelf.told g.D.Shelf.faults (Job c.args.job) c.args.place c.args.bytes.now c.args.house.now c.put_bytes.new.self c.requires.whole
    (staged-puts g.D.Shelf.told c.args.job c.args.place c.args.bytes.now c.args.house.now c.requires.whole c.requires.truly) _ c.put_bytes.ensures.put.step
