-- A file is damaged at one place at most.
use Rattle.std.proofs.Common.{◌≡◌, ◌≢◌, ℕ, suc, ◌+◌, ◌<◌, ◌≤◌, Bool, List, [], ◌∷◌, ◌++◌, length, Some, None, Option, Result, Ok, Err, refl, sym, ap, subst, ◌∙◌, arith, ◌⊎◌, inl, inr}
use Rattle.std.specs.Prelude.{MatchResult, IfOk, IfErr, codes}
use Rattle.std.specs.Global.{Vec}
use Rattle.std.specs.List.{flat_map}
use Rattle.std.proofs.lemmas.List.{length-append}
use Rattle.std.proofs.lemmas.List.Concat.{flat_map-cons}
use Rattle.hv_base.specs.declared.ids.RowId.{RowId}
use Rattle.hv_bytes.specs.Spelling.{four_bytes, eight_bytes}
use Rattle.hv_bytes.proofs.Lengths.{length-four}
use Rattle.hv_rowfile.specs.declared.record.Rec.{Rec}
use Rattle.hv_rowfile.specs.declared.fault.FileFault.{FileFault}
use Rattle.hv_rowfile.specs.declared.fault.FileFault.TheVariants as fault
use Rattle.hv_rowfile.specs.Layout.{truth_byte, head_spelling, file_spelling, rec_spelling, id_of, last_id, Leads, HasNoNext, IsFile, IsBadMark, IsBadKind, IsBadBucket, IsBadCount, IsBadBehind, IsDamagedAt}
use Rattle.hv_rowfile.specs.Faults.{IsBadBody, IsFaultIn}
use Rattle.hv_rowfile.proofs.RowLemmas.{length-head}
use Rattle.hv_rowfile.proofs.Books.{rec_one, head_one, behind_mark, file_not_behind}

-- a reader that has taken n records stops here: the next one is wrong, or bytes follow the last
abbrev Stops : Bool → ℕ → ℕ → ℕ → Option RowId → List ℕ → Type 0
Stops deletes bucket count n last rest = ((n < count) × HasNoNext deletes bucket last rest) ⊎ ((n ≡ count) × (rest ≢ []))

shift : (deletes : Bool) (bucket count i n : ℕ) (last : Option RowId) (rest : List ℕ) → Stops deletes bucket count (i + suc n) last rest → Stops deletes bucket count (suc i + n) last rest
shift deletes bucket count i n last rest (inl h) = let lt = h.0 in inl (omega arith, h.1)
shift deletes bucket count i n last rest (inr h) = let e = h.0 in inr (omega arith, h.1)

stops_one : (deletes : Bool) (bucket count i : ℕ) (before : Option RowId) (xs ys : List Rec) (body m n : List ℕ) → Leads deletes bucket before xs body m → Leads deletes bucket before ys body n
    → i + length xs ≤ count → i + length ys ≤ count → Stops deletes bucket count (i + length xs) (last_id before xs) m → Stops deletes bucket count (i + length ys) (last_id before ys) n
    → length (flat_map rec_spelling xs) ≡ length (flat_map rec_spelling ys)
stops_one deletes bucket count i before [] [] body m n lx ly wx wy sx sy = refl
stops_one deletes bucket count i before [] (y ∷ ys) body m n lx ly wx wy (inl h) sy = absurd (h.1 y ly.0 ly.1 (sym lx ∙ ly.2))
stops_one deletes bucket count i before [] (y ∷ ys) body m n lx ly wx wy (inr h) sy = absurd (let e = h.0 in omega arith)
stops_one deletes bucket count i before (x ∷ xs) [] body m n lx ly wx wy sx (inl h) = absurd (h.1 x lx.0 lx.1 (sym ly ∙ lx.2))
stops_one deletes bucket count i before (x ∷ xs) [] body m n lx ly wx wy sx (inr h) = absurd (let e = h.0 in omega arith)
stops_one deletes bucket count i before (x ∷ xs) (y ∷ ys) body m n lx ly wx wy sx sy =
    let one = rec_one deletes bucket x y lx.0 ly.0 lx.1.taken lx.1.fits ly.1.taken ly.1.fits (sym lx.2 ∙ ly.2) in
    let led : Leads deletes bucket (Some (id_of x)) ys lx.0 n =
    subst (λ (q : Rec). Leads deletes bucket (Some (id_of q)) ys lx.0 n) (sym one.0) (subst (λ (b : List ℕ). Leads deletes bucket (Some (id_of y)) ys b n) (sym one.1) ly.3) in
    let stop : Stops deletes bucket count (suc i + length ys) (last_id (Some (id_of x)) ys) n =
    subst (λ (q : Rec). Stops deletes bucket count (suc i + length ys) (last_id (Some (id_of q)) ys) n) (sym one.0) (shift deletes bucket count i (length ys) (last_id (Some (id_of y)) ys) n sy) in
    let more = stops_one deletes bucket count (suc i) (Some (id_of x)) xs ys lx.0 m n lx.3 led (omega arith) (omega arith) (shift deletes bucket count i (length xs) (last_id (Some (id_of x)) xs) m sx) stop in
    let lx_is = ap length (flat_map-cons rec_spelling x xs) in
    let ly_is = ap length (flat_map-cons rec_spelling y ys) in
    omega (arith, more, lx_is, ly_is, ap (λ (q : Rec). length (rec_spelling q)) one.0, length-append (rec_spelling x) (flat_map rec_spelling xs), length-append (rec_spelling y) (flat_map rec_spelling ys))

from_none : (deletes : Bool) (bucket count n : ℕ) (last : Option RowId) (rest : List ℕ) → Stops deletes bucket count n last rest → Stops deletes bucket count (0 + n) last rest
from_none deletes bucket count n last rest (inl h) = let lt = h.0 in inl (omega arith, h.1)
from_none deletes bucket count n last rest (inr h) = let e = h.0 in inr (omega arith, h.1)

body_one : (deletes : Bool) (bucket count : ℕ) (body : List ℕ) (xs ys : List Rec) → IsBadBody deletes bucket count body xs → IsBadBody deletes bucket count body ys → length (flat_map rec_spelling xs) ≡ length (flat_map rec_spelling ys)
body_one deletes bucket count body xs ys x y =
    let wx = x.within in
    let wy = y.within in
    stops_one deletes bucket count 0 None xs ys body x.rest y.rest x.leads y.leads (omega arith) (omega arith) (from_none deletes bucket count (length xs) (last_id None xs) x.rest x.wrong) (from_none deletes bucket count (length ys) (last_id None ys) y.rest y.wrong)

behind_one : (bytes : List ℕ) (xs ys : List Rec) → IsBadBehind bytes xs → IsBadBehind bytes ys → length (flat_map rec_spelling xs) ≡ length (flat_map rec_spelling ys)
behind_one bytes xs ys x y =
    let head = head_one x.deletes y.deletes x.bucket y.bucket x.count y.count x.body y.body x.bucket_fits y.bucket_fits x.count_fits y.count_fits (sym x.parts ∙ y.parts) in
    let kind : x.deletes ≡ y.deletes = ap (λ (p : Bool × (ℕ × ℕ)). p.0) head.0 in
    let bucket : x.bucket ≡ y.bucket = ap (λ (p : Bool × (ℕ × ℕ)). p.1.0) head.0 in
    let count : x.count ≡ y.count = ap (λ (p : Bool × (ℕ × ℕ)). p.1.1) head.0 in
    let first : IsBadBody x.deletes x.bucket x.count x.body xs = record { rest = x.rest; leads = x.leads; within = x.within; wrong = x.wrong } in
    let second : IsBadBody y.deletes y.bucket y.count y.body ys = record { rest = y.rest; leads = y.leads; within = y.within; wrong = y.wrong } in
    let moved = subst (λ (b : List ℕ). IsBadBody x.deletes x.bucket x.count b ys) (sym head.1)
    (subst (λ (k : ℕ). IsBadBody x.deletes x.bucket k y.body ys) (sym count)
    (subst (λ (k : ℕ). IsBadBody x.deletes k y.count y.body ys) (sym bucket)
    (subst (λ (k : Bool). IsBadBody k y.bucket y.count y.body ys) (sym kind) second))) in
    body_one x.deletes x.bucket x.count x.body xs ys first moved

-- ---- the parts of the head, apart by what stands before them and by how long the bytes are

long_bucket : (bytes : List ℕ) → IsBadBucket bytes → length bytes < 9
long_bucket bytes h = let short = h.short in omega (arith, ap length h.parts)

from_bucket : (bytes : List ℕ) → IsBadBucket bytes → (rest : List ℕ) × (deletes : Bool) × (bytes ≡ codes "HVR1" ++ (truth_byte deletes ∷ rest))
from_bucket bytes h = (h.rest, h.deletes, h.parts)

from_count : (bytes : List ℕ) → IsBadCount bytes → (rest : List ℕ) × (deletes : Bool) × (bytes ≡ codes "HVR1" ++ (truth_byte deletes ∷ rest))
from_count bytes h = (four_bytes h.bucket ++ h.rest, h.deletes, h.parts)

from_behind : (bytes : List ℕ) (recs : List Rec) → IsBadBehind bytes recs → (rest : List ℕ) × (deletes : Bool) × (bytes ≡ codes "HVR1" ++ (truth_byte deletes ∷ rest))
unfolding head_spelling
from_behind bytes recs h = ((four_bytes h.bucket ++ eight_bytes h.count) ++ h.body, h.deletes, h.parts)

count_long : (bytes : List ℕ) (h : IsBadCount bytes) → length bytes ≡ 9 + length h.rest
count_long bytes h = ap length h.parts ∙ omega (arith, length-append (four_bytes h.bucket) h.rest, length-four h.bucket)

behind_long : (bytes : List ℕ) (recs : List Rec) (h : IsBadBehind bytes recs) → length bytes ≡ 17 + length h.body
behind_long bytes recs h = ap length h.parts ∙ omega (arith, length-append (head_spelling h.deletes h.bucket h.count) h.body, length-head h.deletes h.bucket h.count)

-- a mark and a kind stand there
abbrev HasKind : List ℕ → Type 0
HasKind bytes = (rest : List ℕ) × (deletes : Bool) × (bytes ≡ codes "HVR1" ++ (truth_byte deletes ∷ rest))

mark_kind : (bytes : List ℕ) → IsBadMark bytes → HasKind bytes → ⊥
mark_kind bytes h k = h (truth_byte k.1 ∷ k.0) k.2

kind_kind : (bytes : List ℕ) → IsBadKind bytes → HasKind bytes → ⊥
kind_kind bytes h k = h.none k.1 k.0 (behind_mark h.rest (truth_byte k.1 ∷ k.0) (sym h.parts ∙ k.2))

mark_bad : (bytes : List ℕ) → IsBadMark bytes → IsBadKind bytes → ⊥
mark_bad bytes h k = h k.rest k.parts

bucket_count : (bytes : List ℕ) → IsBadBucket bytes → IsBadCount bytes → ⊥
bucket_count bytes h k = omega (arith, long_bucket bytes h, count_long bytes k)

bucket_behind : (bytes : List ℕ) (recs : List Rec) → IsBadBucket bytes → IsBadBehind bytes recs → ⊥
bucket_behind bytes recs h k = omega (arith, long_bucket bytes h, behind_long bytes recs k)

count_behind : (bytes : List ℕ) (recs : List Rec) → IsBadCount bytes → IsBadBehind bytes recs → ⊥
count_behind bytes recs h k = let short = h.short in omega (arith, count_long bytes h, behind_long bytes recs k)

pub damaged_one : (bytes : List ℕ) (a b : ℕ) → IsDamagedAt bytes a → IsDamagedAt bytes b → a ≡ b
damaged_one bytes a b (inl h) (inl k) = h.0 ∙ sym k.0
damaged_one bytes a b (inl h) (inr (inl k)) = absurd (mark_bad bytes h.1 k.1)
damaged_one bytes a b (inl h) (inr (inr (inl k))) = absurd (mark_kind bytes h.1 (from_bucket bytes k.1))
damaged_one bytes a b (inl h) (inr (inr (inr (inl k)))) = absurd (mark_kind bytes h.1 (from_count bytes k.1))
damaged_one bytes a b (inl h) (inr (inr (inr (inr k)))) = absurd (mark_kind bytes h.1 (from_behind bytes k.0 k.2))
damaged_one bytes a b (inr (inl h)) (inl k) = absurd (mark_bad bytes k.1 h.1)
damaged_one bytes a b (inr (inl h)) (inr (inl k)) = h.0 ∙ sym k.0
damaged_one bytes a b (inr (inl h)) (inr (inr (inl k))) = absurd (kind_kind bytes h.1 (from_bucket bytes k.1))
damaged_one bytes a b (inr (inl h)) (inr (inr (inr (inl k)))) = absurd (kind_kind bytes h.1 (from_count bytes k.1))
damaged_one bytes a b (inr (inl h)) (inr (inr (inr (inr k)))) = absurd (kind_kind bytes h.1 (from_behind bytes k.0 k.2))
damaged_one bytes a b (inr (inr (inl h))) (inl k) = absurd (mark_kind bytes k.1 (from_bucket bytes h.1))
damaged_one bytes a b (inr (inr (inl h))) (inr (inl k)) = absurd (kind_kind bytes k.1 (from_bucket bytes h.1))
damaged_one bytes a b (inr (inr (inl h))) (inr (inr (inl k))) = h.0 ∙ sym k.0
damaged_one bytes a b (inr (inr (inl h))) (inr (inr (inr (inl k)))) = absurd (bucket_count bytes h.1 k.1)
damaged_one bytes a b (inr (inr (inl h))) (inr (inr (inr (inr k)))) = absurd (bucket_behind bytes k.0 h.1 k.2)
damaged_one bytes a b (inr (inr (inr (inl h)))) (inl k) = absurd (mark_kind bytes k.1 (from_count bytes h.1))
damaged_one bytes a b (inr (inr (inr (inl h)))) (inr (inl k)) = absurd (kind_kind bytes k.1 (from_count bytes h.1))
damaged_one bytes a b (inr (inr (inr (inl h)))) (inr (inr (inl k))) = absurd (bucket_count bytes k.1 h.1)
damaged_one bytes a b (inr (inr (inr (inl h)))) (inr (inr (inr (inl k)))) = h.0 ∙ sym k.0
damaged_one bytes a b (inr (inr (inr (inl h)))) (inr (inr (inr (inr k)))) = absurd (count_behind bytes k.0 h.1 k.2)
damaged_one bytes a b (inr (inr (inr (inr h)))) (inl k) = absurd (mark_kind bytes k.1 (from_behind bytes h.0 h.2))
damaged_one bytes a b (inr (inr (inr (inr h)))) (inr (inl k)) = absurd (kind_kind bytes k.1 (from_behind bytes h.0 h.2))
damaged_one bytes a b (inr (inr (inr (inr h)))) (inr (inr (inl k))) = absurd (bucket_behind bytes h.0 k.1 h.2)
damaged_one bytes a b (inr (inr (inr (inr h)))) (inr (inr (inr (inl k)))) = absurd (count_behind bytes h.0 k.1 h.2)
damaged_one bytes a b (inr (inr (inr (inr h)))) (inr (inr (inr (inr k)))) = h.1 ∙ ap (λ (n : ℕ). 17 + n) (behind_one bytes h.0 k.0 h.2 k.2) ∙ sym k.1

memory_only : (at : ℕ) → fault.Damaged at ≡ fault.NoMemory → ⊥
memory_only at e = cc

-- where bytes are damaged nothing else is answered but want of memory
pub damage_named : (bytes : List ℕ) (r : Result (Bool × ℕ × Vec Rec) FileFault) → IfOk r (λ x. IsFile x.0 x.1 x.2.items × (bytes ≡ file_spelling x.0 x.1 x.2.items)) → IfErr r (IsFaultIn bytes)
    → (at : ℕ) → IsDamagedAt bytes at → MatchResult r (λ _. ⊥) (λ e. (e ≡ fault.Damaged at) ⊎ (e ≡ fault.NoMemory))
damage_named bytes (Ok x) read bad at h = memory_only at (file_not_behind bytes x.0 x.1 x.2.items read.0 read.1 (fault.Damaged at) h)
damage_named bytes (Err (fault.Damaged found)) read bad at h = inl (ap (λ (n : ℕ). fault.Damaged n) (damaged_one bytes found at bad h))
damage_named bytes (Err fault.NoMemory) read bad at h = inr refl
