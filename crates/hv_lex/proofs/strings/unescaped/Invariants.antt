-- The content, and what the rest stands for, are what the whole text stands for.
use Rattle.std.proofs.Common.{◌≡◌, ◌+◌, false, drop}
use Rattle.hv_ast.specs.Tokens.{behind, unescaped}
use Rattle.hv_lex.proofs.strings.unescaped.Given as goal

abbrev pub invariant-loop-i : goal.invariant-loop-i
invariant-loop-i l =
    unescaped false l.at l.text ≡ behind l.content.items (unescaped l.taken (l.at + l.i) (drop l.i l.text))
