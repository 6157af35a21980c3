use Rattle.std.proofs.Common.{◌≡◌, ◌++◌, take}
use Rattle.std.specs.List.{flat_map}
use Rattle.hv_choosing.specs.Taken.{text_at}
use Rattle.hv_choosing.proofs.taken.push_texts.Given as goal

abbrev pub invariant-loop-place : goal.invariant-loop-place
invariant-loop-place l = l.texts.items ≡ l.initial.texts.items ++ flat_map (text_at l.run) (take l.place-index l.places)
