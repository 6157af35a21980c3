-- Each arm writes what the value's layer writes.
use Rattle.std.proofs.Common.{true, false, ap, ◌∙◌, sym}
use Rattle.std.specs.Hash as fed
use Rattle.std.specs.List.{fold}
use Rattle.hv_value.specs.Hashing.{value_writes}
use Rattle.hv_value.specs.HashingLaws.{writes_of}
use Rattle.hv_seen.specs.declared.seen.Seen.{Seen}
use Rattle.hv_seen.specs.Seen.{seen_layer}
use Rattle.hv_partial.proofs.KeyLaws.{seen_writes}
use Rattle.hv_partial.proofs.key.hash_seen.Goals as goal

pub returns-in-Null : goal.returns-in-Null
returns-in-Null g c =
    let write = g.H.Hasher.write in
    let writes = seen_writes c.args.value.now ∙ ap (λ (s : Seen). writes_of (seen_layer s)) c.in-Null.is in
    c.write_u8.ensures ∙ sym (ap (fold write c.args.state.now) writes)

pub returns-in-False : goal.returns-in-False
returns-in-False g c =
    let write = g.H.Hasher.write in
    let writes = seen_writes c.args.value.now ∙ ap (λ (s : Seen). writes_of (seen_layer s)) c.in-False.is in
    c.hash.ensures ∙ ap (λ state. fold write state (fed.bool false)) c.write_u8-in-False.ensures
    ∙ sym (ap (fold write c.args.state.now) writes)

pub returns-in-True : goal.returns-in-True
returns-in-True g c =
    let write = g.H.Hasher.write in
    let writes = seen_writes c.args.value.now ∙ ap (λ (s : Seen). writes_of (seen_layer s)) c.in-True.is in
    c.hash-in-True.ensures ∙ ap (λ state. fold write state (fed.bool true)) c.write_u8-in-True.ensures
    ∙ sym (ap (fold write c.args.state.now) writes)

pub returns-in-Int : goal.returns-in-Int
returns-in-Int g c =
    let write = g.H.Hasher.write in
    let writes = seen_writes c.args.value.now ∙ ap (λ (s : Seen). writes_of (seen_layer s)) c.in-Int.is in
    c.hash-in-Int.ensures ∙ ap (λ state. fold write state (fed.i32 c.in-Int.number)) c.write_u8-in-Int.ensures
    ∙ sym (ap (fold write c.args.state.now) writes)

pub returns-in-Big : goal.returns-in-Big
returns-in-Big g c =
    let write = g.H.Hasher.write in
    let writes = seen_writes c.args.value.now ∙ ap (λ (s : Seen). writes_of (seen_layer s)) c.in-Big.is in
    c.hash-in-Big.ensures ∙ ap (λ state. fold write state (fed.i64 c.in-Big.number)) c.write_u8-in-Big.ensures
    ∙ sym (ap (fold write c.args.state.now) writes)

pub returns-in-Str : goal.returns-in-Str
returns-in-Str g c =
    let write = g.H.Hasher.write in
    let writes = seen_writes c.args.value.now ∙ ap (λ (s : Seen). writes_of (seen_layer s)) c.in-Str.is in
    c.hash-in-Str.ensures ∙ ap (λ state. fold write state (fed.str c.in-Str.text.now)) c.write_u8-in-Str.ensures
    ∙ sym (ap (fold write c.args.state.now) writes)

pub returns-in-Day : goal.returns-in-Day
returns-in-Day g c =
    let write = g.H.Hasher.write in
    let writes = seen_writes c.args.value.now ∙ ap (λ (s : Seen). writes_of (seen_layer s)) c.in-Day.is in
    c.hash-in-Day.ensures ∙ ap (λ state. fold write state (fed.i32 c.in-Day.number)) c.write_u8-in-Day.ensures
    ∙ sym (ap (fold write c.args.state.now) writes)

pub returns-in-Array : goal.returns-in-Array
returns-in-Array g c =
    let write = g.H.Hasher.write in
    let writes = seen_writes c.args.value.now ∙ ap (λ (s : Seen). writes_of (seen_layer s)) c.in-Array.is in
    c.hash-in-Array.ensures ∙ ap (λ state. fold write state (fed.slice value_writes c.in-Array.items.now)) c.write_u8-in-Array.ensures
    ∙ sym (ap (fold write c.args.state.now) writes)
