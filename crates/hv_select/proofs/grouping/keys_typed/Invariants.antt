use Rattle.std.proofs.Common.{◌≡◌, drop}
use Rattle.hv_typing.specs.Selects.{behind, keys_typed}
use Rattle.hv_select.proofs.grouping.keys_typed.Given as goal

abbrev pub invariant-loop-key : goal.invariant-loop-key
invariant-loop-key l = behind l.made.items (keys_typed l.fields (drop l.key-index l.keys)) ≡ keys_typed l.fields l.keys
