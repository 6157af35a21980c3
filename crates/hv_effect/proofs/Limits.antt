-- The touches by which the limits of a change are tested are those of the change.
use Rattle.std.proofs.Common.{◌≡◌, Bool, true, false, cond, List, ◌⊎◌, inl, inr, Result, Ok, Err, sym, ◌∙◌}
use Rattle.std.specs.List.{list_all}
use Rattle.hv_base.specs.declared.ids.Touch.{Touch}
use Rattle.hv_logic.specs.declared.catalog.TableInfo.{TableInfo}
use Rattle.hv_logic.specs.declared.effect.Effect.{Effect}
use Rattle.hv_route.specs.Touching.{stored_fits, is_above, touches_of, touched}
use Rattle.hv_route.specs.declared.fault.RouteFault.{RouteFault}
use Rattle.hv_route.specs.declared.fault.RouteFault.TheVariants as fault

made-by : (fits above : Bool) (made touches : List Touch)
    → Ok touches ≡ cond fits (cond above (Err fault.PartitionLimit) (Ok made)) (Err fault.RowLimit) → touches ≡ made
made-by true false made touches e = cc
made-by true true made touches e = cc
made-by false above made touches e = cc

touches-made : (info : TableInfo) (effect : Effect) (touches : List Touch) → Ok touches ≡ touched info effect → touches ≡ touches_of info effect
unfolding touched
touches-made info effect touches e =
    made-by (list_all (stored_fits info.shape) effect.inserts) (is_above (touches_of info effect)) (touches_of info effect) touches e

-- as they are answered
pub touches-are : (info : TableInfo) (effect : Effect) (r : Result (List Touch) RouteFault) (touches : List Touch) → r ≡ Ok touches
    → (r ≡ touched info effect) ⊎ (r ≡ Err fault.NoMemory) → touches ≡ touches_of info effect
touches-are info effect r touches is (inl e) = touches-made info effect touches (sym is ∙ e)
touches-are info effect r touches is (inr e) = cc
