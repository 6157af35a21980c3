use Rattle.std.proofs.Common.{◌++◌, ◌∙◌, ap, sym, subst}
use Rattle.std.specs.Str.{IsUtf8}
use Rattle.hv_value.specs.Dates.{civil_text}
use Rattle.hv_value.proofs.DateText.{civil_text-utf8}
use Rattle.hv_value.proofs.conversion.date_text.Goals as goal

pub from_bytes-requires : goal.from_bytes-requires
from_bytes-requires c =
    let written = c.in_ok-print_date.ensures ∙ ap (λ bytes. bytes ++ civil_text c.args.date) c.new-bytes.ensures.items in
    subst IsUtf8 (sym written) (civil_text-utf8 c.args.date)
