-- Which partitions of a table a statement reads.
use Rattle.std.specs.Prelude.{ℕ, Bool, List}
use Rattle.hv_route.specs.Partitions.{partition_values}
use Rattle.hv_meaning.specs.Needs.{Needs}
use Rattle.hv_effect.specs.declared.studied.Studied.{Studied}
use Rattle.hv_effect.specs.Needs.{needs_of, wants}
use Rattle.hv_effect.specs.Studied.{typed_in}
use Rattle.hv_steps.specs.declared.wanting.Wanting.{Wanting}

-- those whose text's values it needs
abbrev pub picked : Wanting → List ℕ → Bool
picked wanting text = wants wanting.need (partition_values wanting.parts.now text)

-- a statement that was studied, by the places of the tables that it names
abbrev pub needs_in : Studied → Needs
needs_in studied = needs_of studied.infos.items (typed_in studied.typed)
