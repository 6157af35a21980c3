use Rattle.std.proofs.Common.{Some, sym, ap, ◌∙◌}
use Rattle.hv_logic.specs.declared.meaning.Meaning.{Meaning}
use Rattle.hv_history.proofs.ShownLaws.{filled-plain, filled-other}
use Rattle.tests_books.proofs.listing.listed_over.Goals as goal

pub returns-then-is_plain : goal.returns-then-is_plain
returns-then-is_plain c =
    ap (λ (m : Meaning). Some m) c.in_place.ensures ∙ sym (filled-plain c.args.shown c.args.meaning (sym c.is_plain.ensures ∙ c.if-is_plain.true))

pub returns-else-is_plain : goal.returns-else-is_plain
returns-else-is_plain c = sym (filled-other c.args.shown c.args.meaning (sym c.is_plain.ensures ∙ c.if-is_plain.false))
