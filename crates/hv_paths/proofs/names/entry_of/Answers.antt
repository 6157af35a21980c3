use Rattle.std.proofs.Common.{sym, ◌∙◌}
use Rattle.hv_paths.proofs.NameLemmas.{no_entry}
use Rattle.hv_paths.proofs.names.entry_of.Goals as goal

pub returns-then-is_marked : goal.returns-then-is_marked
unfolding lib.Utf8.encode
returns-then-is_marked c =
    no_entry c.args.name.now (sym c.is_marked-2.ensures ∙ c.if-is_marked.true)
    c.in_default.ensures.cases c.in_default-strip_prefix.ensures.cases
