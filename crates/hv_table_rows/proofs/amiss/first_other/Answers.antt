use Rattle.hv_table_rows.proofs.Fronts.{can-front}
use Rattle.hv_table_rows.proofs.amiss.first_other.Goals as goal

pub offset_behind-requires : goal.offset_behind-requires
offset_behind-requires c = can-front c.args.deletes c.args.bucket c.own_count-own.result c.args.recs.now c.requires
