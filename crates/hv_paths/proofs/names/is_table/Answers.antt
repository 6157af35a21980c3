use Rattle.std.proofs.Common.{sym, ap, ◌∙◌}
use Rattle.std.specs.Char.{is_ascii_digit}
use Rattle.std.specs.List.{list_all}
use Rattle.hv_paths.proofs.NameLemmas.{is_table-none, is_table-some}
use Rattle.hv_paths.proofs.names.is_table.Goals as goal

pub returns-then-is_empty : goal.returns-then-is_empty
returns-then-is_empty c = is_table-none c.args.name.now (sym c.is_empty.ensures ∙ c.if-is_empty.true)

pub returns-else-is_empty : goal.returns-else-is_empty
returns-else-is_empty c =
    is_table-some c.args.name.now _ (sym c.is_empty.ensures ∙ c.if-is_empty.false)
    (c.has_digits_alone.ensures ∙ ap (list_all is_ascii_digit) c.as_bytes.ensures.value)
