use Rattle.std.proofs.Common.{◌≡◌, ◌+◌, length}
use denote.Text.{Utf8}
use denote.Shadow.{shadow}
use Rattle.std.specs.Str.{chars}
use Rattle.hv_text.specs.Running.{fits_end}
use Rattle.hv_text.proofs.pattern.fits_some_end.Given as goal

abbrev pub invariant-loop-behind : goal.invariant-loop-behind
invariant-loop-behind l = (fits_end l.text l.pattern ≡ fits_end l.text-2 l.pattern-2)
    × shadow (Utf8 l.text) × shadow (Utf8 l.pattern)

abbrev pub decreases-loop-behind : goal.decreases-loop-behind
decreases-loop-behind l = length (chars l.text) + length (chars l.pattern)
