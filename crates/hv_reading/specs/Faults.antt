-- What a text's fault is called in the answer.
use Rattle.std.specs.Prelude.{◌≡◌, Some}
use Rattle.hv_ast.specs.Tokens.{Text}
use Rattle.hv_grammar.specs.Texts as texts
use Rattle.hv_grammar.specs.Texts.{fault_of}
use Rattle.hv_built.specs.Running.{IsRefusedFor}
use Rattle.hv_lex.specs.declared.fault.LexFault.{LexFault}
use Rattle.hv_lex.specs.declared.fault.LexFault.TheVariants as lexing
use Rattle.hv_parse_expr.specs.declared.fault.ParseFault.{ParseFault}
use Rattle.hv_parse_expr.specs.declared.fault.ParseFault.TheVariants as parsing
use Rattle.hv_reading.specs.declared.fault.TextFault.{TextFault}
use Rattle.hv_reading.specs.declared.fault.TextFault.TheVariants.{BadCharacter, OpenString, WideNumber, Syntax, Nesting, NoMemory}

-- the error holds of the text's fault by this measure, or tells that memory ran out
abbrev pub IsTold : (texts.TextFault → Type 0) → TextFault → Type 0
IsTold Is (BadCharacter at) = Is (texts.BadCharacter at)
IsTold Is (OpenString at) = Is (texts.OpenString at)
IsTold Is (WideNumber at) = Is (texts.WideNumber at)
IsTold Is Syntax = Is texts.Syntax
IsTold Is (Nesting at) = Is (texts.Nesting at)
IsTold Is NoMemory = Unit {0}

-- the error tells why the text is no statement, or that memory ran out
abbrev pub IsFaultOf : TextFault → Text → Type 0
IsFaultOf fault text = IsTold (λ f. fault_of text ≡ Some f) fault

-- the error tells why the text doesn't run, or that memory ran out
abbrev pub IsRefusalOf : TextFault → Text → Type 0
IsRefusalOf fault text = IsTold (IsRefusedFor text) fault

-- a lexer's fault as the text's
abbrev pub of_lexing : LexFault → TextFault
of_lexing (lexing.BadCharacter at) = BadCharacter at
of_lexing (lexing.OpenString at) = OpenString at
of_lexing (lexing.WideNumber at) = WideNumber at
of_lexing lexing.NoMemory = NoMemory

-- a parser's fault as the text's
abbrev pub of_parsing : ParseFault → TextFault
of_parsing (parsing.Nesting at) = Nesting at
of_parsing parsing.Syntax = Syntax
of_parsing parsing.NoMemory = NoMemory
