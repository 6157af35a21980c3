use Rattle.std.proofs.Common.{ap, ◌∙◌}
use Rattle.std.specs.Option.{option_map}
use Rattle.hv_showing.specs.Fronts.{tables_then, info_number}
use Rattle.hv_showing.proofs.Listed.{number-found}
use Rattle.hv_showing.proofs.showing.number_named.Goals as goal

pub returns : goal.returns
returns c =
    c.info_number.ensures
    ∙ ap (option_map info_number) c.in_ok-found.ensures.found
    ∙ number-found c.args.name.now (tables_then c.args.book.now.entries c.args.front.position)
