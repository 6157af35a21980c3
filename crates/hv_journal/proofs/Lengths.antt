-- How long fields and records are in bytes.
use Rattle.std.proofs.Common.{◌≡◌, ℕ, ◌+◌, ◌<◌, ◌≤◌, ◌^◌, List, [], ◌∷◌, length, refl, ap, ◌∙◌, arith}
use Rattle.std.proofs.lemmas.List.Concat.{flat_map-cons}
use Rattle.std.specs.List.{flat_map, AllByRecursion}
use Rattle.std.proofs.lemmas.List.{length-append}
use Rattle.hv_base.specs.declared.ids.RowId.{RowId}
use Rattle.hv_base.specs.declared.ids.Touch.{Touch}
use Rattle.hv_bytes.specs.Spelling.{four_bytes}
use Rattle.hv_bytes.proofs.Lengths.{length-four, length-eight, length-text}
use Rattle.hv_bytes.proofs.ItemLemmas.{all_short, items_count}
use Rattle.hv_history.specs.declared.entry.Entry.{Entry}
use Rattle.hv_history.specs.Spelling.{touch_spelling, touches_spelling, row_spelling, entry_spelling}
use Rattle.hv_history.specs.Journal.{record_of, place_of}
use Rattle.hv_journal.specs.Writing.{CanPutTouch, gated_record}

pub length-row : (r : RowId) → length (row_spelling r) ≡ 24
unfolding row_spelling
length-row r = grind (arith, length-append, length-four, length-eight)

pub length-touches : (ts : List Touch) → length (touches_spelling ts) ≡ 4 + length (flat_map touch_spelling ts)
unfolding touches_spelling
length-touches ts = length-append (four_bytes (length ts)) (flat_map touch_spelling ts) ∙ omega (arith, length-four (length ts))

length-touch : (t : Touch) → 1 ≤ length (touch_spelling t)
unfolding touch_spelling
length-touch t = grind (arith, length-append, length-four, length-eight, length-text)

-- there are no more touches than bytes of them
pub touches_count : (ts : List Touch) → length ts ≤ length (flat_map touch_spelling ts)
touches_count ts = items_count touch_spelling length-touch ts

pub touches_can : (ts : List Touch) → length (touches_spelling ts) < 2 ^ 32 → AllByRecursion CanPutTouch ts
touches_can ts h = all_short touch_spelling (2 ^ 32) ts (omega (arith, length-touches ts))

pub length-record : (e : Entry) → length (record_of e) ≡ 4 + length (entry_spelling e)
unfolding record_of
length-record e = length-append (four_bytes (length (entry_spelling e))) (entry_spelling e) ∙ omega (arith, length-four (length (entry_spelling e)))

-- where the entries of a list end is how long their records are, each with its gate
pub place_gated : (es : List Entry) → length (flat_map gated_record es) ≡ place_of es
unfolding gated_record
place_gated [] = refl
place_gated (e ∷ es) =
    let cons : length (flat_map gated_record (e ∷ es)) ≡ length (gated_record e) + length (flat_map gated_record es) =
    ap length (flat_map-cons gated_record e es) ∙ length-append (gated_record e) (flat_map gated_record es) in
    omega (arith, cons, place_gated es)
