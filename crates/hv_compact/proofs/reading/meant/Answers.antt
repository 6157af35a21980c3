use Rattle.std.proofs.Common.{ap, ◌∙◌}
use Rattle.hv_table_rows.specs.Amiss.{first_amiss}
use Rattle.hv_compact.proofs.Gets.{meant-if}
use Rattle.hv_compact.proofs.reading.meant.Goals as goal

pub returns-in-Ok-clause-file : goal.returns-in-Ok-clause-file
returns-in-Ok-clause-file c =
    meant-if c.args.deletes c.args.file.now.place.bucket c.span-span.result c.args.kind c.args.other c.args.recs.items c.in-Ok.amiss c.unamiss.result
    c.requires.file
    (c.in-Ok.ensures
    ∙ ap (first_amiss c.args.deletes c.args.file.now.place.bucket c.span-span.result c.args.kind c.args.other) c.deref.ensures.value)
    c.unamiss.ensures.none c.unamiss.ensures.same
