-- A statement that asks for aborts comes to nothing else.
use Rattle.std.proofs.Common.{◌≡◌, ℕ, Some, List, refl}
use Rattle.hv_ast.specs.declared.statement.Stmt.TheVariants as stmt
use Rattle.hv_typing.specs.hv_logic.specs.declared.meaning.Meaning.TheVariants.{Plain}
use Rattle.hv_typing.specs.hv_logic.specs.declared.seen.Seen.{Seen}
use Rattle.hv_typing.specs.Analysis.{is_form, form_analysed, analysed}
use Rattle.hv_meaning.specs.Meaning.{meaning_in, meaning_of}

pub aborts-mean : (txns : List ℕ) (tables : List Seen) → meaning_of tables (stmt.AbortTransactions txns) ≡ Some Plain
unfolding meaning_in is_form form_analysed analysed
aborts-mean txns tables = refl
