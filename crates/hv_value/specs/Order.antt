-- The one order of values and of rows.
use Rattle.std.specs.Prelude.{ℕ, Bool, false, List, [], ℤ, pos}
use Rattle.std.specs.declared.cmp.Ordering.{Ordering}
use Rattle.std.specs.Ordering.{nat_cmp, int_cmp, bool_cmp, ordering_then}
use Rattle.std.specs.Cmp.Lexicographic.{slice_cmp}
use Rattle.hv_value.specs.declared.row.Row.{Row}
use Rattle.hv_value.specs.declared.value.Value.{Value}
use Rattle.hv_value.specs.declared.value.Value.TheOpen.{Value-F}
use Rattle.hv_value.specs.declared.value.Value.TheFolds.{fold-Value}
use Rattle.hv_value.specs.declared.value.Value.TheViews.{out-Value}

-- NULL comes first, then BOOLEAN, the integers of both widths, STRING, DATE and ARRAY
abbrev pub kind_of : {A : Type 0} → Value-F A → ℕ
kind_of Value-F.Null = 0
kind_of (Value-F.Bool b) = 1
kind_of (Value-F.Int n) = 2
kind_of (Value-F.Big n) = 2
kind_of (Value-F.Str text) = 3
kind_of (Value-F.Day n) = 4
kind_of (Value-F.Array items) = 5

abbrev pub truth_of : {A : Type 0} → Value-F A → Bool
truth_of (Value-F.Bool b) = b
truth_of _ = false

-- the number of an integer or of a day
abbrev pub number_of : {A : Type 0} → Value-F A → ℤ
number_of (Value-F.Int n) = n
number_of (Value-F.Big n) = n
number_of (Value-F.Day n) = n
number_of _ = pos 0

-- of one number the INT comes before the BIGINT
abbrev pub width_of : {A : Type 0} → Value-F A → ℕ
width_of (Value-F.Big n) = 1
width_of _ = 0

abbrev pub bytes_of : {A : Type 0} → Value-F A → List ℕ
bytes_of (Value-F.Str text) = text
bytes_of _ = []

abbrev pub items_of : {A : Type 0} → Value-F A → List A
items_of (Value-F.Array items) = items
items_of _ = []

-- Two values by their kind, and then by what they hold, but for the items of arrays.
unfoldable pub scalar_cmp : {A B : Type 0} → Value-F A → Value-F B → Ordering
scalar_cmp x y =
    let by_kind = nat_cmp (kind_of x) (kind_of y) in
    let then_by_truth = ordering_then by_kind (bool_cmp (truth_of x) (truth_of y)) in
    let then_by_number = ordering_then then_by_truth (int_cmp (number_of x) (number_of y)) in
    let then_by_width = ordering_then then_by_number (nat_cmp (width_of x) (width_of y)) in
    ordering_then then_by_width (slice_cmp nat_cmp (bytes_of x) (bytes_of y))

-- And then by their items, which `compare` compares: item by item, the shorter array first.
unfoldable pub layer_cmp : {A B : Type 0} → (A → B → Ordering) → Value-F A → Value-F B → Ordering
layer_cmp compare x y = ordering_then (scalar_cmp x y) (slice_cmp compare (items_of x) (items_of y))

abbrev pub compares_with : Value-F (Value → Ordering) → Value → Ordering
compares_with x y = layer_cmp (λ item other. item other) x (out-Value y)

-- the order of values
unfoldable pub value_cmp : Value → Value → Ordering
value_cmp = fold-Value (Value → Ordering) compares_with

-- value by value; a row that begins another comes first
unfoldable pub row_cmp : Row → Row → Ordering
row_cmp left right = slice_cmp value_cmp left.values right.values
