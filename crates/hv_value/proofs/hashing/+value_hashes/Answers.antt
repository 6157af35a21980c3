-- Each arm writes what the variant's layer writes.
use Rattle.std.proofs.Common.{ap, ◌∙◌, sym}
use Rattle.std.specs.Hash as fed
use Rattle.std.specs.List.{fold, flat_map}
use Rattle.hv_value.specs.Hashing.{value_writes}
use Rattle.hv_value.specs.HashingLaws.{writes-Null, writes-Bool, writes-Int, writes-Big, writes-Str, writes-Day, writes-Array}
use Rattle.hv_value.proofs.hashing.+value_hashes.Goals as goal

pub hash_value-returns-in-Bool : goal.hash_value-returns-in-Bool
hash_value-returns-in-Bool g t c =
    let write = g.H.Hasher.write in
    let writes = ap value_writes c.in-Bool.is ∙ writes-Bool c.in-Bool.truth in
    c.hash.ensures ∙ ap (λ state. fold write state (fed.bool c.in-Bool.truth)) c.write_u8-in-Bool.ensures
    ∙ sym (ap (fold write c.args.state.now) writes)

pub hash_value-returns-in-Int : goal.hash_value-returns-in-Int
hash_value-returns-in-Int g t c =
    let write = g.H.Hasher.write in
    let writes = ap value_writes c.in-Int.is ∙ writes-Int c.in-Int.number in
    c.hash-in-Int.ensures ∙ ap (λ state. fold write state (fed.i32 c.in-Int.number)) c.write_u8-in-Int.ensures
    ∙ sym (ap (fold write c.args.state.now) writes)

pub hash_value-returns-in-Big : goal.hash_value-returns-in-Big
hash_value-returns-in-Big g t c =
    let write = g.H.Hasher.write in
    let writes = ap value_writes c.in-Big.is ∙ writes-Big c.in-Big.number in
    c.hash-in-Big.ensures ∙ ap (λ state. fold write state (fed.i64 c.in-Big.number)) c.write_u8-in-Big.ensures
    ∙ sym (ap (fold write c.args.state.now) writes)

pub hash_value-returns-in-Str : goal.hash_value-returns-in-Str
hash_value-returns-in-Str g t c =
    let write = g.H.Hasher.write in
    let writes = ap value_writes c.in-Str.is ∙ writes-Str c.in-Str.text in
    c.hash-in-Str.ensures ∙ ap (λ state. fold write state (fed.str c.in-Str.text)) c.write_u8-in-Str.ensures
    ∙ sym (ap (fold write c.args.state.now) writes)

pub hash_value-returns-in-Day : goal.hash_value-returns-in-Day
hash_value-returns-in-Day g t c =
    let write = g.H.Hasher.write in
    let writes = ap value_writes c.in-Day.is ∙ writes-Day c.in-Day.day in
    c.hash-in-Day.ensures ∙ ap (λ state. fold write state (fed.i32 c.in-Day.day)) c.write_u8-in-Day.ensures
    ∙ sym (ap (fold write c.args.state.now) writes)

pub hash_value-returns-in-Array : goal.hash_value-returns-in-Array
hash_value-returns-in-Array g t c =
    let write = g.H.Hasher.write in
    let writes = ap value_writes c.in-Array.is ∙ writes-Array c.in-Array.items in
    let counted = c.write_usize.ensures ∙ (λ i. fold write (c.write_u8-in-Array.ensures i) (fed.usize (c.len.ensures i))) in
    c.hash_all.ensures ∙ (λ i. fold write (counted i) (flat_map value_writes (c.as_slice.ensures i)))
    ∙ sym (ap (fold write c.args.state.now) writes)

pub hash_value-returns-in-Null : goal.hash_value-returns-in-Null
hash_value-returns-in-Null g t c =
    c.write_u8.ensures ∙ sym (ap (fold g.H.Hasher.write c.args.state.now) (ap value_writes c.in-Null.is ∙ writes-Null))
