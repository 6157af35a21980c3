-- What is answered of a text that is known here or isn't: only where it isn't, or memory ran out, there is no answer.
use Rattle.std.specs.Prelude.{◌≡◌, ◌≢◌, Bool, true, false, Option, Some, None, Result, Ok, Err}
use Rattle.hv_ast.specs.Tokens.{Text}
use Rattle.hv_lex.specs.declared.fault.LexFault.{LexFault}
use Rattle.hv_lex.specs.declared.fault.LexFault.TheVariants as lexing
use Rattle.hv_values_text.specs.declared.fault.Unread.{Unread}
use Rattle.hv_values_text.specs.declared.fault.Unread.TheVariants as unread

-- what stands after a part, None where the text doesn't begin with one
abbrev pub Passes : {A : Type 0} → Option Text → Result A Unread → Text → Type 0
Passes way (Ok a) rest = way ≡ Some rest
Passes way (Err e) rest = e ≢ unread.NoMemory → way ≡ None

-- whether something is known
abbrev pub Knows : {A : Type 0} → Bool → Result A Unread → Type 0
Knows known (Ok a) = known ≡ true
Knows known (Err e) = e ≢ unread.NoMemory → known ≡ false

-- what has a fault of characters isn't known
abbrev pub unread_by : LexFault → Unread
unread_by (lexing.BadCharacter at) = unread.Unknown
unread_by (lexing.OpenString at) = unread.Unknown
unread_by (lexing.WideNumber at) = unread.Unknown
unread_by lexing.NoMemory = unread.NoMemory
