-- What a function that reads ensures: what the reader gives, unless memory ran out.
use Rattle.std.specs.Prelude.{◌≡◌, ◌≢◌, ℕ, List, Option, Some, None, Result, Ok, Err}
use Rattle.hv_ast.specs.declared.token.Token.{Token}
use Rattle.hv_ast.specs.declared.expr.Expr.{Expr}
use Rattle.hv_grammar.specs.Readers.{Outcome}
use Rattle.hv_grammar.specs.Reading as reading
use Rattle.hv_grammar.specs.Reading.{Answer}
use Rattle.hv_parse_expr.specs.declared.fault.ReadFault.{ReadFault}
use Rattle.hv_parse_expr.specs.declared.fault.ReadFault.TheVariants as refusal
use Rattle.hv_parse_expr.specs.declared.fault.ParseFault.{ParseFault}
use Rattle.hv_parse_expr.specs.declared.fault.ParseFault.TheVariants as fault

abbrev pub Reads : {A : Type 0} → Outcome A → Result A ReadFault → List Token → Type 0
Reads outcome (Ok a) rest = outcome ≡ Some (a, rest)
Reads outcome (Err e) rest = e ≢ refusal.NoMemory → outcome ≡ None

-- what one token holds
abbrev pub Holds : {A : Type 0} → Option A → Result A ReadFault → Type 0
Holds value (Ok a) = value ≡ Some a
Holds value (Err e) = e ≢ refusal.NoMemory → value ≡ None

abbrev pub parse_fault : ReadFault → ParseFault
parse_fault refusal.Syntax = fault.Syntax
parse_fault refusal.NoMemory = fault.NoMemory

-- the answer is told, unless memory ran out
abbrev pub Tells : Answer → Result (Expr × ℕ) ParseFault → Type 0
Tells answer (Ok p) = answer ≡ reading.found p.0 p.1
Tells answer (Err (fault.Nesting at)) = answer ≡ reading.nesting at
Tells answer (Err fault.Syntax) = answer ≡ reading.syntax
Tells answer (Err fault.NoMemory) = Unit {0}
