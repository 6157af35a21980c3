-- A change that stands is within the limits, and its rows fit the table.
use Rattle.std.proofs.Common.{◌≡◌, ◌≤◌, Bool, true, false, cond, ◌||◌, List, [], ◌∷◌, map, length, Option, Some, Result, Ok, Err, refl, sym, ap, ◌∙◌, arith}
use Rattle.std.specs.Prelude.{nat_lt}
use Rattle.std.specs.List.{AllByRecursion, list_all, list_any}
use Rattle.std.proofs.lemmas.Bool.Decides.{nat_tests}
use Rattle.hv_base.specs.declared.ids.Touch.{Touch}
use Rattle.hv_ast.specs.declared.table.ColumnDefinition.{ColumnDefinition}
use Rattle.hv_ast.specs.declared.types.ScalarName.{ScalarName}
use Rattle.hv_ast.specs.declared.types.ScalarName.TheVariants as scalar
use Rattle.hv_ast.specs.declared.types.TypeName.{TypeName}
use Rattle.hv_ast.specs.declared.types.TypeName.TheVariants as type_name
use Rattle.hv_typing.specs.hv_logic.specs.Shapes.{scalar_of, type_of, column_of}
use Rattle.hv_typing.specs.hv_logic.specs.declared.catalog.TableInfo.{TableInfo}
use Rattle.hv_typing.specs.hv_logic.specs.declared.effect.Effect.{Effect}
use Rattle.hv_typing.specs.hv_logic.specs.declared.meaning.Meaning.{Meaning}
use Rattle.hv_typing.specs.hv_logic.specs.declared.meaning.Meaning.TheVariants.{Change, RowLimit, PartitionLimit}
use Rattle.hv_route.specs.Back.{is_flat, AreFlat}
use Rattle.hv_route.specs.Touching.{stored_fits, is_long, is_above, touches_of, touched}
use Rattle.hv_route.specs.declared.fault.RouteFault.{RouteFault}
use Rattle.hv_route.specs.declared.fault.RouteFault.TheVariants as fault
use Rattle.hv_typing.specs.Columns.{columns_of}
use Rattle.hv_typing.specs.Creates.{is_array, has_array}
use Rattle.hv_meaning.specs.Meaning.{unless_limited, within_limits}
use Rattle.hv_meaning.specs.Laws.{IsRowOf, AreFew, FitsTable}
use Rattle.hv_meaning.proofs.Stored.{rows-taken, rows-said}

pub neither : (a b : Bool) → (a || b) ≡ false → (a ≡ false) × (b ≡ false)
neither true b e = cc
neither false b e = (refl, e)

-- ---- what holds of the limits, and of a change that is within them, holds of what comes of it

module _ (P : Option Meaning → Type 0) (row : P (Some RowLimit)) (partition : P (Some PartitionLimit)) where
  limits-by : (info : TableInfo) (effect : Effect) (r : Result (List Touch) RouteFault) → touched info effect ≡ r
      → ((touches : List Touch) → touched info effect ≡ Ok touches → P (Some (Change info effect))) → P (Some (unless_limited info effect r))
  limits-by info effect (Ok touches) is h = h touches is
  limits-by info effect (Err fault.RowLimit) is h = row
  limits-by info effect (Err fault.PartitionLimit) is h = partition
  limits-by info effect (Err fault.NoMemory) is h = partition

  pub limits-come : (info : TableInfo) (effect : Effect)
      → ((touches : List Touch) → touched info effect ≡ Ok touches → P (Some (Change info effect))) → P (Some (within_limits info effect))
  limits-come info effect h = limits-by info effect (touched info effect) refl h

-- ---- within the limits

record IsWithin (fits above : Bool) (made touches : List Touch) : Type 0 where
  fit : fits ≡ true
  low : above ≡ false
  same : made ≡ touches

within-by : (fits above : Bool) (made touches : List Touch)
    → cond fits (cond above (Err fault.PartitionLimit) (Ok made)) (Err fault.RowLimit) ≡ Ok touches → IsWithin fits above made touches
within-by true false made touches e = let same : made ≡ touches = cc in record { fit = refl; low = refl; same = same }
within-by true true made touches e = cc
within-by false above made touches e = cc

within : (info : TableInfo) (effect : Effect) (touches : List Touch) → touched info effect ≡ Ok touches
    → IsWithin (list_all (stored_fits info.shape) effect.inserts) (is_above (touches_of info effect)) (touches_of info effect) touches
unfolding touched
within info effect touches e =
    within-by (list_all (stored_fits info.shape) effect.inserts) (is_above (touches_of info effect)) (touches_of info effect) touches e

all-short : (touches : List Touch) → list_any is_long touches ≡ false → AllByRecursion (λ (touch : Touch). length touch.partition ≤ 240) touches
all-short [] e = tt
all-short (touch ∷ touches) e =
    let parts = neither (is_long touch) (list_any is_long touches) e in
    let one : nat_lt 240 (length touch.partition) ≡ false = parts.0 in
    (grind (arith, nat_tests), all-short touches parts.1)

are-few : (touches : List Touch) → is_above touches ≡ false → AreFew touches
are-few touches e =
    let parts = neither (list_any is_long touches) (nat_lt 100 (length touches)) e in
    let few : nat_lt 100 (length touches) ≡ false = parts.1 in
    record { count = grind (arith, nat_tests); short = all-short touches parts.0 }

pub fits-table : (info : TableInfo) (effect : Effect) (touches : List Touch) → touched info effect ≡ Ok touches
    → AllByRecursion (IsRowOf (columns_of info.shape)) effect.inserts → FitsTable info effect
fits-table info effect touches e typed =
    let inside = within info effect touches e in
    record {
      typed = typed;
      taken = λ few. rows-taken info.shape effect.inserts few typed inside.fit;
      said = λ flat held. rows-said info.shape effect.inserts typed flat held;
      within = e ∙ ap Ok (sym inside.same);
      few = are-few (touches_of info effect) inside.low;
    }

-- ---- partition columns that are no ARRAYs

flat-scalar : (name : ScalarName) → is_flat (scalar_of name) ≡ true
flat-scalar scalar.Boolean = refl
flat-scalar scalar.Int = refl
flat-scalar scalar.BigInt = refl
flat-scalar scalar.String = refl
flat-scalar scalar.Date = refl

flat-type : (kind : TypeName) → is_array kind ≡ false → is_flat (type_of kind) ≡ true
flat-type (type_name.Scalar name) e = flat-scalar name
flat-type (type_name.Array name) e = cc

pub flat-columns : (definitions : List ColumnDefinition) → list_any has_array definitions ≡ false → AreFlat (map column_of definitions)
flat-columns [] e = tt
flat-columns (definition ∷ definitions) e =
    let parts = neither (has_array definition) (list_any has_array definitions) e in
    (flat-type definition.kind parts.0, flat-columns definitions parts.1)
