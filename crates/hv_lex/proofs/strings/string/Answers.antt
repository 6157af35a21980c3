use Rattle.std.proofs.Common.{◌+◌, ◌<◌, false, arith, sym, length}
use Rattle.std.proofs.lemmas.Grind.{common_steps}
use Rattle.hv_ast.proofs.Fronts.{closing_within}
use Rattle.hv_lex.proofs.Quotes.{content_utf8}
use Rattle.hv_lex.proofs.strings.string.Goals as goal

pub slice_bounds-unescaped-end : goal.slice_bounds-unescaped-end
slice_bounds-unescaped-end c =
    let inside = closing_within c.args.quote false c.args.rest.now c.in-Some.length (sym c.in-Some.ensures) in
    let within : c.in-Some.length < length c.args.rest.now = inside.0 in
    grind (arith, common_steps)

pub from_bytes-text-requires : goal.from_bytes-text-requires
from_bytes-text-requires c =
    content_utf8 c.args.quote (c.args.at + 1) c.in-Some.length c.args.rest.now c.in_ok-content.content.items
    c.requires.ascii c.requires.utf8 (sym c.in-Some.ensures) c.in_ok-content.ensures

pub overflow_add-length : goal.overflow_add-length
overflow_add-length c =
    let inside = closing_within c.args.quote false c.args.rest.now c.in-Some.length (sym c.in-Some.ensures) in
    let within : c.in-Some.length < length c.args.rest.now = inside.0 in
    omega arith
