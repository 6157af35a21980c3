use Rattle.std.proofs.Common.{◌∙◌, sym}
use Rattle.std.specs.Str.{chars}
use Rattle.hv_text.specs.Patterns.{pattern_parts}
use Rattle.hv_text.proofs.PatternLemmas.{whole_ends}
use Rattle.hv_text.proofs.pattern.fits_some_end.Goals as goal

pub returns-in-Ended-true : goal.returns-in-Ended-true
returns-in-Ended-true c =
    sym (whole_ends (pattern_parts c.loop-behind.pattern.now) (chars c.loop-behind.text.now)
    (sym c.in-Ended-true.ensures ∙ c.in-Ended-true.field-0-test))
    ∙ c.loop-behind.invariant.0
