use Rattle.std.proofs.Common.{◌∙◌, sym, subst}
use Rattle.hv_rowfile.specs.Layout.{CanWrite}
use Rattle.hv_table_rows.proofs.Puts.{can-write}
use Rattle.hv_table_rows.proofs.putting.put_file.Goals as goal

pub encode-requires : goal.encode-requires
encode-requires g c =
    subst (CanWrite c.args.file.now.deletes c.args.file.now.bucket) (sym c.as_slice.ensures)
    (can-write c.args.file.now c.requires.can (sym c.can_put.ensures ∙ c.if-not-can_put.false))
