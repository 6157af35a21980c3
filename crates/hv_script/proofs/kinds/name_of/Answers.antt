use Rattle.std.proofs.Common.{◌∙◌, subst, sym}
use Rattle.std.specs.Str.{IsUtf8}
use Rattle.hv_script.proofs.Names.{name_utf8}
use Rattle.hv_script.proofs.kinds.name_of.Goals as goal

pub from_bytes-requires : goal.from_bytes-requires
from_bytes-requires c =
    subst IsUtf8 (sym c.in_ok-from_slice.ensures.items) (name_utf8 c.args.name.now (sym c.names_session.ensures.value ∙ c.if-names_session.true))
