use Rattle.hv_compact.proofs.Gets.{same-records, records-same}
use Rattle.hv_compact.proofs.reading.records_of.Goals as goal

pub meant-requires : goal.meant-requires
meant-requires c = record { file = c.in-Ok.ensures.found.0 }

pub returns-in-Ok-clause-made : goal.returns-in-Ok-clause-made
returns-in-Ok-clause-made c = λ recs encodes.
    records-same c.meant.result recs c.in-Ok.recs.items c.meant.ensures.same
    (same-records c.args.deletes c.in-Ok.kind c.args.file.now.place.bucket c.in-Ok.other recs c.in-Ok.recs.items c.args.bytes.now encodes
    c.in-Ok.ensures.found.0 c.in-Ok.ensures.found.1)
