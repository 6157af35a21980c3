use Rattle.std.proofs.Common.{take, ◌∙◌}
use Rattle.std.specs.Option.{option_copied}
use Rattle.hv_meta.specs.hv_book.specs.hv_history.specs.State.{state_of, numbered}
use Rattle.hv_earlier.proofs.NameLemmas.{name-there, name-missing}
use Rattle.hv_earlier.proofs.catalogs.name_at.Goals as goal

pub returns-in-Some : goal.returns-in-Some
returns-in-Some c =
    c.made_name.ensures.name
    ∙ name-there c.args.book.now.entries c.args.position c.args.table _ (option_copied c.table_tree.result) c.in-Some.ensures.live c.table_tree.ensures.shape

pub returns-in-None : goal.returns-in-None
returns-in-None c =
    name-missing (numbered (state_of (take c.args.position c.args.book.now.entries)).tables c.args.table) c.in-None.ensures.live
