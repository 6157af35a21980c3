-- What an act notes is a short entry.
use Rattle.std.proofs.Common.{◌≡◌, ℕ, zero, suc, ◌+◌, ◌≤◌, Some, List, [], ◌∷◌, length, ap, ◌∙◌, arith}
use Rattle.std.specs.List.{slice_get, flat_map}
use Rattle.std.proofs.lemmas.List.{length-append}
use Rattle.std.proofs.lemmas.List.Concat.{flat_map-cons}
use Rattle.hv_base.specs.declared.ids.JobId.{JobId}
use Rattle.hv_base.specs.declared.ids.TxnId.{TxnId}
use Rattle.hv_base.specs.declared.ids.TableId.{TableId}
use Rattle.hv_base.specs.declared.ids.WriteId.{WriteId}
use Rattle.hv_base.specs.declared.ids.Touch.{Touch}
use Rattle.hv_history.specs.declared.entry.Entry.TheVariants as entry
use Rattle.hv_history.specs.declared.entry.Cause.TheVariants as cause
use Rattle.hv_history.specs.declared.entry.JobKind.{JobKind}
use Rattle.hv_history.specs.declared.entry.JobKind.TheVariants.{Minor, Major}
use Rattle.hv_history.specs.Spelling.{touch_spelling, entry_spelling}
use Rattle.hv_bytes.proofs.Lengths.{length-four, length-eight, length-text}
use Rattle.hv_journal.proofs.Lengths.{length-touches}
use Rattle.hv_telling.specs.hv_house.specs.House.{IsSmall}

pub short_given : (txn : TxnId) (table : TableId) (write : WriteId) → IsSmall (entry.Given txn table write)
short_given txn table write = grind (arith, length-append, length-eight)

pub short_create : (txn : TxnId) (table : TableId) → IsSmall (entry.Create txn table)
short_create txn table = grind (arith, length-append, length-eight)

pub short_drop : (txn : TxnId) (table : TableId) → IsSmall (entry.Drop txn table)
short_drop txn table = grind (arith, length-append, length-eight)

pub short_full : (txn : TxnId) → IsSmall (entry.Abort txn cause.Full)
short_full txn = grind (arith, length-append, length-eight)

pub short_request : (txn by : TxnId) → IsSmall (entry.Abort txn (cause.Request by))
short_request txn by = grind (arith, length-append, length-eight)

pub short_asked : (job : JobId) (table : TableId) (partition : List ℕ) (kind : JobKind) (by : ℕ) → length partition ≤ 240
    → IsSmall (entry.Asked job table partition kind by)
short_asked job table partition Minor by short = grind (arith, length-append, length-four, length-eight, length-text)
short_asked job table partition Major by short = grind (arith, length-append, length-four, length-eight, length-text)

pub short_blocked : (txn holder : TxnId) → IsSmall (entry.Abort txn (cause.Blocked holder))
short_blocked txn holder = grind (arith, length-append, length-eight)

-- ---- a conflict in one of its partitions is no longer than a commit

one-touch : (ts : List Touch) (at : ℕ) (touch : Touch) → slice_get ts at ≡ Some touch → length (touch_spelling touch) ≤ length (flat_map touch_spelling ts)
one-touch [] at touch e = cc
one-touch (t ∷ ts) zero touch e =
    let is : t ≡ touch = cc in
    let cons : length (flat_map touch_spelling (t ∷ ts)) ≡ length (touch_spelling t) + length (flat_map touch_spelling ts) =
    ap length (flat_map-cons touch_spelling t ts) ∙ length-append (touch_spelling t) (flat_map touch_spelling ts) in
    let same : length (touch_spelling t) ≡ length (touch_spelling touch) = ap (λ (x : Touch). length (touch_spelling x)) is in
    omega (arith, cons, same)
one-touch (t ∷ ts) (suc at) touch e =
    let cons : length (flat_map touch_spelling (t ∷ ts)) ≡ length (touch_spelling t) + length (flat_map touch_spelling ts) =
    ap length (flat_map-cons touch_spelling t ts) ∙ length-append (touch_spelling t) (flat_map touch_spelling ts) in
    let rest = one-touch ts at touch e in
    omega (arith, cons, rest)

conflict-length : (txn by : TxnId) (touch : Touch) → length (entry_spelling (entry.Abort txn (cause.Conflict by touch.table touch.partition))) ≤ length (touch_spelling touch) + 2
unfolding touch_spelling
conflict-length txn by touch = grind (arith, length-append, length-eight, length-text)

commit-length : (txn : TxnId) (ts : List Touch) → length (entry_spelling (entry.Commit txn ts)) ≡ 13 + length (flat_map touch_spelling ts)
commit-length txn ts = grind (arith, length-append, length-eight, length-touches ts)

pub short_conflict : (txn by : TxnId) (ts : List Touch) (at : ℕ) (touch : Touch) → slice_get ts at ≡ Some touch → IsSmall (entry.Commit txn ts)
    → IsSmall (entry.Abort txn (cause.Conflict by touch.table touch.partition))
short_conflict txn by ts at touch e small =
    omega (arith, one-touch ts at touch e, conflict-length txn by touch, commit-length txn ts, small)
