-- What is printed for a text that doesn't run: the number and the name of the refusal, and its place
-- in the text, except for Syntax. This project's profile.
use Rattle.std.specs.Prelude.{◌≡◌, ℕ, List, ◌++◌, codes}
use Rattle.std.specs.Fmt.{decimal}
use Rattle.hv_base.specs.declared.refusal.Refusal.{Refusal}
use Rattle.hv_base.specs.declared.refusal.Refusal.TheVariants as refusal
use Rattle.hv_base.specs.Refusals.{number, name}
use Rattle.hv_grammar.specs.Texts.{TextFault, BadCharacter, OpenString, WideNumber, Syntax, Nesting}
use Rattle.hv_built.specs.Running.{IsRefusedFor}
use Rattle.hv_history.specs.Answers.{failed_line}

unfoldable pub placed_line : Refusal → ℕ → List ℕ
placed_line refusal at = failed_line (number refusal) (name refusal ++ codes " at " ++ decimal at)

unfoldable pub fault_line : TextFault → List ℕ
fault_line (BadCharacter at) = placed_line refusal.BadCharacter at
fault_line (OpenString at) = placed_line refusal.OpenString at
fault_line (WideNumber at) = placed_line refusal.WideNumber at
fault_line Syntax = failed_line (number refusal.Syntax) (name refusal.Syntax)
fault_line (Nesting at) = placed_line refusal.Nesting at

-- the text is refused, and this is its line
pub record IsFaultLine (text reply : List ℕ) : Type 0 where
  pub fault : TextFault
  pub found : IsRefusedFor text fault
  pub line_is : reply ≡ fault_line fault
