use Rattle.std.proofs.Common.{sym, ap, ◌≡◌, ◌∙◌, ◌++◌, subst}
use Rattle.std.specs.Str.{IsUtf8}
use Rattle.hv_dirs.specs.Names.{text_of}
use Rattle.hv_dirs.proofs.NameLemmas.{text-utf8}
use Rattle.hv_dirs.proofs.names.printing.print_name.Goals as goal

pub from_bytes-requires : goal.from_bytes-requires
from_bytes-requires c =
    let e : c.push_name.new.bytes.items ≡ text_of c.args.name.now =
    c.in_ok-push_name.ensures ∙ ap (λ xs. xs ++ text_of c.args.name.now) c.new-bytes.ensures.items in
    subst IsUtf8 (sym e) (text-utf8 c.args.name.now c.requires)
