use Rattle.std.proofs.Common.{◌≡◌, List, [], ◌∷◌, ◌++◌, append_assoc}
use Rattle.hv_script.specs.declared.items.Item.{Item}
use Rattle.hv_script.specs.declared.items.Stand.{Stand}
use Rattle.hv_script.specs.declared.items.Stand.TheVariants.{Between}
use Rattle.hv_script.specs.declared.reader.Reader.{Reader}
use Rattle.hv_script.specs.Items.{no_bytes}
use Rattle.hv_script.specs.Reading.{Finished, item_of}
use Rattle.hv_script.proofs.reader.Reader.act.Goals as goal

-- the finished item stands last, and the next one begins with no bytes
finished_gives : (old new : Reader) → Finished old new → (rest : Stand → Item → List Item)
    → new.items.items ++ rest Between (item_of new) ≡ old.items.items ++ item_of old ∷ rest Between (no_bytes old.begun)
finished_gives old new f rest = rw (f.items, f.empty) (append_assoc old.items.items (item_of old ∷ []) (rest Between (no_bytes old.begun)))

pub returns-in_ok-finish-in-Finish : goal.returns-in_ok-finish-in-Finish
returns-in_ok-finish-in-Finish c =
    let f = c.in_ok-finish-in-Finish.ensures.finished in
    rw c.in-Finish.is (record { acted = record { line = f.line; items = finished_gives _ _ f } })
