use Rattle.std.proofs.Common.{sym, ap, ◌≡◌, ◌∙◌, ◌++◌, subst}
use Rattle.std.specs.Str.{IsUtf8}
use Rattle.hv_dirs.specs.Names.{own_name}
use Rattle.hv_dirs.proofs.OwnNames.{own_name-utf8}
use Rattle.hv_dirs.proofs.names.own_delta.Goals as goal

pub from_bytes-requires : goal.from_bytes-requires
from_bytes-requires c =
    let e : c.push_own.new.bytes.items ≡ own_name c.args.write c.args.statement =
    c.in_ok-push_own.ensures ∙ ap (λ xs. xs ++ own_name c.args.write c.args.statement) c.new-bytes.ensures.items in
    subst IsUtf8 (sym e) (own_name-utf8 c.args.write c.args.statement)
