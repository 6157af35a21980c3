-- Reading fields from left to right: each function answers a value and the bytes behind it, or None where the
-- bytes begin with no such value.
use Rattle.std.specs.Prelude.{◌≡◌, ℕ, zero, suc, List, [], ◌∷◌, length, take, drop, Option, Some, None, Result, Ok, Err, nat_lt, if◌then◌else◌}
use Rattle.std.specs.Int.{w16, w32, w64, from_be_bytes}
use Rattle.std.specs.Str.{is_utf8}
use Rattle.hv_bytes.specs.declared.fault.FieldFault.{FieldFault}
use Rattle.hv_bytes.specs.declared.fault.FieldFault.TheVariants as fault

infixl 10 ◌>>=◌
abbrev pub ◌>>=◌ : {A B : Type 0} → Option A → (A → Option B) → Option B
None >>= f = None
(Some x) >>= f = f x

-- what a function returned, seen by view, is what reading gives, unless memory ran out
abbrev pub Fails : {Y : Type 0} → FieldFault → Option Y → Type 0
Fails fault.Damaged read = read ≡ None
Fails fault.NoMemory read = Unit {0}

abbrev pub Gives : {X Y : Type 0} → (X → Y) → Result X FieldFault → Option Y → Type 0
Gives view (Ok x) read = read ≡ Some (view x)
Gives view (Err e) read = Fails e read

unfoldable pub two_at : List ℕ → Option (ℕ × List ℕ)
two_at bytes = if nat_lt (length bytes) 2 then None else Some (from_be_bytes w16 (take 2 bytes), drop 2 bytes)

unfoldable pub four_at : List ℕ → Option (ℕ × List ℕ)
four_at bytes = if nat_lt (length bytes) 4 then None else Some (from_be_bytes w32 (take 4 bytes), drop 4 bytes)

unfoldable pub eight_at : List ℕ → Option (ℕ × List ℕ)
eight_at bytes = if nat_lt (length bytes) 8 then None else Some (from_be_bytes w64 (take 8 bytes), drop 8 bytes)

-- the first n bytes as a text
abbrev pub utf8_at : ℕ → List ℕ → Option (List ℕ × List ℕ)
utf8_at n bytes = if is_utf8 (take n bytes) then Some (take n bytes, drop n bytes) else None

unfoldable pub text_at : List ℕ → Option (List ℕ × List ℕ)
text_at bytes = do
  n ← four_at bytes
  if nat_lt (length n.1) n.0 then None else utf8_at n.0 n.1

-- so many items, each read by `at`
abbrev pub items_at : {X : Type 0} → (List ℕ → Option (X × List ℕ)) → ℕ → List ℕ → Option (List X × List ℕ)
items_at at zero bytes = Some ([], bytes)
items_at at (suc n) bytes = at bytes >>= λ first. items_at at n first.1 >>= λ others. Some (first.0 ∷ others.0, others.1)
