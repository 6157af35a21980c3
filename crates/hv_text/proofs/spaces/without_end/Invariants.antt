use Rattle.std.proofs.Common.{◌≡◌, length}
use denote.Text.{Utf8}
use denote.Shadow.{shadow}
use Rattle.std.specs.Str.{chars}
use Rattle.hv_text.specs.Characters.{without_end_spaces}
use Rattle.hv_text.proofs.spaces.without_end.Given as goal

abbrev pub invariant-loop-before : goal.invariant-loop-before
invariant-loop-before l = (without_end_spaces (chars l.rest) ≡ without_end_spaces (chars l.text)) × shadow (Utf8 l.rest)

abbrev pub decreases-loop-before : goal.decreases-loop-before
decreases-loop-before l = length (chars l.rest)
