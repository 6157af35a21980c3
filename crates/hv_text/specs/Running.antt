-- How far a pattern goes along a text: to the end of one of them, or to the first `%`.
use Rattle.std.specs.Prelude.{◌≡◌, ℕ, ◌<◌, ◌≤◌, Bool, List, length}
use Rattle.std.specs.Str.{chars}
use Rattle.hv_text.specs.declared.pattern.Run.{Run}
use Rattle.hv_text.specs.declared.pattern.Run.TheVariants as run
use Rattle.hv_text.specs.Patterns.{pattern_parts, some_end, fits}

-- the pattern stands for some end of the text
abbrev pub fits_end : List ℕ → List ℕ → Bool
fits_end text pattern = some_end (fits (pattern_parts pattern)) (chars text)

-- Behind a `%` it is all one whether the pattern stood for the text, or for some end of it: either
-- is so exactly where what is left of it stands for some end of what is left of the text.
pub record StopsAt (text pattern text_left pattern_left : List ℕ) : Type 0 where
  pub whole : fits (pattern_parts pattern) (chars text) ≡ fits_end text_left pattern_left
  pub ends : fits_end text pattern ≡ fits_end text_left pattern_left
  pub shorter_text : length (chars text_left) ≤ length (chars text)
  pub shorter_pattern : length (chars pattern_left) < length (chars pattern)

abbrev pub RunsTo : List ℕ → List ℕ → Run → Type 0
RunsTo text pattern (run.Ended answer) = answer ≡ fits (pattern_parts pattern) (chars text)
RunsTo text pattern (run.Stopped text_left pattern_left) = StopsAt text pattern text_left.now pattern_left.now
