-- What a reader of a script's items has read, with what the items behind it give.
use Rattle.std.specs.Prelude.{◌≡◌, List, ◌∷◌, ◌++◌}
use Rattle.std.specs.Str.{IsUtf8}
use Rattle.hv_script.specs.Script.{earlier}
use Rattle.hv_script.specs.declared.items.Item.{Item}
use Rattle.hv_script.specs.declared.reading.Reader.{Reader}
use Rattle.hv_script.specs.Actions.{actions_from, least}
use Rattle.hv_script.specs.Standing.{fault_lines}

-- the reader took an item
pub record Took (old new : Reader) (item : Item) : Type 0 where
  pub fault : (items : List Item) → earlier new.fault (least (fault_lines new.sessions items)) ≡ earlier old.fault (least (fault_lines old.sessions (item ∷ items)))
  pub actions : (items : List Item) → IsUtf8 item.bytes → new.actions.items ++ actions_from new.sessions items ≡ old.actions.items ++ actions_from old.sessions (item ∷ items)
