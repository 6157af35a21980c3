-- What the questions before a call come to.
use Rattle.std.proofs.Common.{◌≡◌, ℕ, ◌+◌, ◌*◌, ◌≤◌, ◌<◌, Option, Some, None, Bool, true, false, if◌then◌else◌, List, [], ◌∷◌, length, map, ℤ, Ok, Err, inl, inr, refl, sym, ap, ◌∙◌, subst, arith}
use Rattle.std.specs.Prelude.{◌⊎◌, nat_lt, is_some, IfSome, slice_index_or}
use Rattle.std.specs.Option.{option_map}
use Rattle.std.specs.Int.{w32, cast_unsigned}
use Rattle.std.specs.List.{flat_map, list_all, list_any, AllByRecursion}
use Rattle.std.proofs.lemmas.Bool.{or_parts}
use Rattle.std.proofs.lemmas.Bool.Decides.{nat_tests}
use Rattle.std.proofs.lemmas.List.{length-append}
use Rattle.std.proofs.lemmas.List.Concat.{flat_map-cons}
use Rattle.hv_base.specs.declared.ids.TxnId.{TxnId}
use Rattle.hv_base.specs.declared.ids.JobId.{JobId}
use Rattle.hv_base.specs.declared.ids.TableId.{TableId}
use Rattle.hv_base.specs.declared.ids.WriteId.{WriteId}
use Rattle.hv_base.specs.declared.ids.Touch.{Touch}
use Rattle.hv_bytes.proofs.Lengths.{length-four, length-eight, length-text}
use Rattle.hv_journal.proofs.Lengths.{length-touches}
use Rattle.hv_value.specs.declared.row.Row.{Row}
use Rattle.hv_value.specs.declared.value.Value.{Value}
use Rattle.hv_value.specs.declared.value.Value.TheOpen.{Value-F}
use Rattle.hv_value.specs.declared.value.Value.TheVariants.{Int, rolls-Int}
use Rattle.hv_value.specs.declared.value.Value.TheViews.{out-Value, out-roll-Value}
use Rattle.hv_rowfile.specs.Layout.{value_spelling, layer_spelling, int_spelling, ValueIsTaken, LayerIsTaken, RowIsTaken, RecIsTaken, CanWrite}
use Rattle.hv_rowfile.specs.declared.record.Rec.{Rec}
use Rattle.hv_logic.specs.declared.catalog.TableInfo.{TableInfo}
use Rattle.hv_logic.specs.declared.effect.Effect.{Effect}
use Rattle.hv_route.specs.Touching.{touches_of, touched, stored_fits, is_long, is_above, within_limits}
use Rattle.hv_route.specs.declared.fault.RouteFault.TheVariants as fault
use Rattle.hv_history.specs.declared.entry.Entry.{Entry}
use Rattle.hv_history.specs.declared.entry.Entry.TheVariants as entry
use Rattle.hv_history.specs.declared.entry.Cause.TheVariants as cause
use Rattle.hv_history.specs.declared.entry.JobKind.{JobKind}
use Rattle.hv_history.specs.declared.entry.JobKind.TheVariants as job_kind
use Rattle.hv_history.specs.declared.state.Table.{Table}
use Rattle.hv_history.specs.Spelling.{touch_spelling}
use Rattle.hv_history.specs.State.{state_of, numbered}
use Rattle.hv_book.specs.declared.notes.TableNote.{TableNote}
use Rattle.hv_book.specs.Briefs.{brief_table}
use Rattle.hv_logic.specs.declared.catalog.Shape.{Shape}
use Rattle.hv_session.specs.hv_beginning.specs.hv_steps.specs.hv_table_reader.specs.hv_acts.specs.hv_telling.specs.hv_house.specs.House.{IsSmall}
use Rattle.tests_house.specs.Asking.{AreTouches, IsTable}

-- ---- a row of one number

out-Int : (n : ℤ) → out-Value (Int n) ≡ Value-F.Int n
out-Int n = ap out-Value (sym (rolls-Int n)) ∙ out-roll-Value (Value-F.Int n)

spelled-Int : (n : ℤ) → value_spelling (Int n) ≡ 2 ∷ int_spelling n
unfolding value_spelling
spelled-Int n = ap layer_spelling (out-Int n)

taken-Int : (n : ℤ) → ValueIsTaken (Int n)
unfolding ValueIsTaken
taken-Int n = subst LayerIsTaken (sym (out-Int n)) tt

length-Int : (n : ℤ) → length (value_spelling (Int n)) ≡ 5
length-Int n = ap length (spelled-Int n) ∙ omega (arith, length-four (cast_unsigned w32 n))

pub one_number : (row : Row) (n : ℤ) → row.values ≡ Int n ∷ [] → RowIsTaken row
one_number row n e =
    let cons : length (flat_map value_spelling (Int n ∷ [])) ≡ length (value_spelling (Int n)) + 0 =
    ap length (flat_map-cons value_spelling (Int n) []) ∙ length-append (value_spelling (Int n)) [] in
    let whole : length (flat_map value_spelling row.values) ≡ length (flat_map value_spelling (Int n ∷ [])) = ap (λ vs. length (flat_map value_spelling vs)) e in
    let count : length row.values ≡ 1 = ap length e in
    record {
      count = omega (arith, count);
      short = omega (arith, whole, cons, length-Int n);
      values = subst (AllByRecursion ValueIsTaken) (sym e) (taken-Int n, tt);
    }

pub one_item : (row : Row) (xs : List Value) (x d : Value) (o : Option ℤ) → xs ≡ row.values → 1 ≤ length xs → length xs < 2 → x ≡ slice_index_or xs 0 d
    → IfSome o (λ n. x ≡ Int n) → is_some o ≡ true → RowIsTaken row
one_item row [] x d o same least most at is some = absurd (omega (arith, least))
one_item row (y ∷ z ∷ xs) x d o same least most at is some = absurd (omega (arith, most))
one_item row (y ∷ []) x d None same least most at is some = cc
one_item row (y ∷ []) x d (Some n) same least most at is some =
    one_number row n (sym same ∙ ap (λ (v : Value). v ∷ []) (sym at ∙ is))

pub one_record : (bucket : ℕ) (recs : List Rec) (r : Rec) → recs ≡ r ∷ [] → RecIsTaken false bucket r → CanWrite false bucket recs
one_record bucket recs r e taken = subst (CanWrite false bucket) (sym e) (record { each = (taken, tt); rising = (tt, tt) })

-- ---- a table by its number

pub is_table : (book : List Entry) (number : ℕ) (shape : Shape) (note : TableNote) (o : Option Table) → numbered (state_of book).tables number ≡ o
    → Some note ≡ option_map brief_table o → note.id ≡ number → ((t : Table) → numbered (state_of book).tables number ≡ Some t → t.info.shape ≡ shape)
    → IsTable book (record { table = record { 0 = number }; shape = shape })
is_table book number shape note None here is id made = cc
is_table book number shape note (Some t) here is id made =
    let noted : note ≡ brief_table t = cc in
    let number_is : t.info.table.0 ≡ number = sym (ap (λ (n : TableNote). n.id) noted) ∙ id in
    let shape_is : t.info.shape ≡ shape = made t here in
    record { table = t; here = here; same = λ k. record { table = record { 0 = number_is k }; shape = shape_is k } }

-- ---- short entries

pub short_memory : (txn : TxnId) → IsSmall (entry.Abort txn cause.Memory)
short_memory txn = grind (arith, length-append, length-eight)

pub short_full : (txn : TxnId) → IsSmall (entry.Abort txn cause.Full)
short_full txn = grind (arith, length-append, length-eight)

pub short_idle : (txn : TxnId) → IsSmall (entry.Commit txn [])
short_idle txn = grind (arith, length-append, length-eight, length-touches)

pub short_asked : (job : JobId) (table : TableId) (partition : List ℕ) (kind : JobKind) → length partition ≤ 32768 → IsSmall (entry.Asked job table partition kind 0)
short_asked job table partition job_kind.Minor short = grind (arith, length-append, length-eight, length-text, short)
short_asked job table partition job_kind.Major short = grind (arith, length-append, length-eight, length-text, short)

pub short_picked : (job : JobId) (watermark : WriteId) → IsSmall (entry.Picked job watermark)
short_picked job watermark = grind (arith, length-append, length-eight)

touch_length : (t : Touch) → is_long t ≡ false → length (touch_spelling t) ≤ 268
unfolding touch_spelling
touch_length t short = grind (arith, length-append, length-eight, length-text, nat_tests, short)

touches_length : (ts : List Touch) → list_any is_long ts ≡ false → length (flat_map touch_spelling ts) ≤ 268 * length ts
touches_length [] short = omega arith
touches_length (t ∷ ts) short =
    let both = or_parts (is_long t) (list_any is_long ts) short in
    let here = touch_length t both.0 in
    let rest = touches_length ts both.1 in
    let cons : length (flat_map touch_spelling (t ∷ ts)) ≡ length (touch_spelling t) + length (flat_map touch_spelling ts) =
    ap length (flat_map-cons touch_spelling t ts) ∙ length-append (touch_spelling t) (flat_map touch_spelling ts) in
    omega (arith, here, rest, cons)

within : (ts wrote : List Touch) → within_limits ts ≡ Ok wrote → (wrote ≡ ts) × (list_any is_long wrote ≡ false) × (length wrote ≤ 100)
within ts wrote e = by (is_above ts) refl e
  where
    by : (b : Bool) → is_above ts ≡ b → (if b then Err fault.PartitionLimit else Ok ts) ≡ Ok wrote → (wrote ≡ ts) × (list_any is_long wrote ≡ false) × (length wrote ≤ 100)
    by true above is = cc
    by false above is =
        let same : ts ≡ wrote = cc in
        let both = or_parts (list_any is_long ts) (nat_lt 100 (length ts)) above in
        let count : length ts ≤ 100 = grind (arith, nat_tests, both.1) in
        (sym same, subst (λ w. list_any is_long w ≡ false) same both.0, subst (λ (w : List Touch). length w ≤ 100) same count)

pub are_touches : (info : TableInfo) (effect : Effect) (wrote : List Touch) → touched info effect ≡ Ok wrote → AreTouches info effect wrote
unfolding touched
are_touches info effect wrote e = by (list_all (stored_fits info.shape) effect.inserts) e
  where
    by : (b : Bool) → (if b then within_limits (touches_of info effect) else Err fault.RowLimit) ≡ Ok wrote → AreTouches info effect wrote
    by true is = let all = within (touches_of info effect) wrote is in record { is = all.0; texts = all.1; count = all.2 }
    by false is = cc

pub touches_are : (info : TableInfo) (effect : Effect) (wrote : List Touch) → (Ok wrote ≡ touched info effect) ⊎ (Ok wrote ≡ Err fault.NoMemory) → AreTouches info effect wrote
touches_are info effect wrote (inl e) = are_touches info effect wrote (sym e)
touches_are info effect wrote (inr e) = cc

pub short_change : (txn : TxnId) (info : TableInfo) (effect : Effect) (wrote : List Touch) → AreTouches info effect wrote → IsSmall (entry.Commit txn wrote)
short_change txn info effect wrote are =
    let count = are.count in
    let all = touches_length wrote are.texts in
    grind (arith, length-append, length-eight, length-touches wrote, count, all)
