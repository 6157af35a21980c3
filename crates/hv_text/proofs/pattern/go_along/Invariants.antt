use Rattle.std.proofs.Common.{◌≡◌, ◌≤◌, true, length}
use denote.Text.{Utf8}
use denote.Shadow.{shadow}
use Rattle.std.specs.Str.{chars}
use Rattle.hv_text.specs.Patterns.{pattern_parts, fits}
use Rattle.hv_text.specs.Running.{fits_end}
use Rattle.hv_text.proofs.pattern.go_along.Given as goal

abbrev pub invariant-loop-part : goal.invariant-loop-part
invariant-loop-part l = (fits (pattern_parts l.pattern-2) (chars l.text-2) ≡ fits (pattern_parts l.pattern) (chars l.text))
    × (fits_end l.text-2 l.pattern-2 ≡ true → fits_end l.text l.pattern ≡ true)
    × (length (chars l.text) ≤ length (chars l.text-2)) × (length (chars l.pattern) ≤ length (chars l.pattern-2))
    × shadow (Utf8 l.text) × shadow (Utf8 l.pattern)

abbrev pub decreases-loop-part : goal.decreases-loop-part
decreases-loop-part l = length (chars l.pattern)
