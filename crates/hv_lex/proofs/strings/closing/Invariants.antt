-- What the whole text answers is what its rest answers, counted on from the index.
use Rattle.std.proofs.Common.{◌≡◌, ◌+◌, false, drop}
use Rattle.std.specs.Option.{option_map}
use Rattle.hv_ast.specs.Tokens.{closing}
use Rattle.hv_lex.proofs.strings.closing.Given as goal

abbrev pub invariant-loop-at : goal.invariant-loop-at
invariant-loop-at l =
    closing l.quote false l.text ≡ option_map (λ n. l.at + n) (closing l.quote l.taken (drop l.at l.text))
