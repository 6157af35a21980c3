-- The touches of a change: none where a statement comes to something else.
use Rattle.std.specs.Prelude.{List, []}
use Rattle.hv_base.specs.declared.ids.Touch.{Touch}
use Rattle.hv_logic.specs.declared.meaning.Meaning.{Meaning}
use Rattle.hv_logic.specs.declared.meaning.Meaning.TheVariants.{Change}
use Rattle.hv_route.specs.Touching.{touches_of}

abbrev pub touches_in : Meaning → List Touch
touches_in (Change info effect) = touches_of info effect
touches_in _ = []
