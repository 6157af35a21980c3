use Rattle.std.proofs.Common.{◌≡◌, ◌++◌, map, drop}
use Rattle.std.specs.List.{flat_map}
use Rattle.hv_merge.specs.Steps.{valid_deletes}
use Rattle.hv_merge.proofs.deletes.collected.Given as goal

abbrev pub invariant-loop-file : goal.invariant-loop-file
invariant-loop-file l =
    l.ids.items ++ flat_map (valid_deletes l.list) (map (λ file. file.items) (drop l.file-index l.files))
    ≡ flat_map (valid_deletes l.list) (map (λ file. file.items) l.files)
