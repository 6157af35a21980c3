-- A literal before a token that can't continue it: an expression of one token.
use Rattle.std.specs.Prelude.{Bool, true, false, ◌&&◌, ◌==◌, List}
use Rattle.hv_ast.specs.declared.token.Token.{Token}
use Rattle.hv_grammar.specs.declared.kind.Kind.{Kind}
use Rattle.hv_grammar.specs.declared.kind.Kind.TheVariants as k
use Rattle.hv_grammar.specs.Choices.{binds}
use Rattle.hv_grammar.specs.Readers.{kind_at, next}

-- a number or a string
abbrev pub is_literal : Kind → Bool
is_literal k.Number = true
is_literal k.Text = true
is_literal _ = false

abbrev pub sees_lone_literal : List Token → Bool
sees_lone_literal tokens = is_literal (kind_at tokens) && (binds (kind_at (next tokens)) == 0)
