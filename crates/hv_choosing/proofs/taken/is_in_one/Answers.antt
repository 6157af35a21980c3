use Rattle.std.proofs.Common.{◌∙◌}
use Rattle.std.specs.Cmp.Lexicographic.{nat_list_cmp_total}
use Rattle.hv_choosing.proofs.Searching.{searched}
use Rattle.hv_choosing.proofs.taken.is_in_one.Goals as goal

pub returns : goal.returns
returns c =
    c.is_ok.ensures.value
    ∙ searched nat_list_cmp_total c.args.texts.now c.args.file.now.place.dir c.binary_search.result c.requires c.binary_search.ensures.bound c.binary_search.ensures.position
