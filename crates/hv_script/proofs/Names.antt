-- A session's name is UTF-8, since it is ASCII.
use Rattle.std.proofs.Common.{◌≡◌, ℕ, ◌<◌, ◌&&◌, Bool, true, false, List, [], ◌∷◌, refl, arith}
use Rattle.std.specs.Str.{IsUtf8}
use Rattle.std.specs.List.{All, list_all}
use Rattle.std.proofs.lemmas.List.Elements.{All-nil, All-cons}
use Rattle.std.proofs.lemmas.Str.Ascii.{IsAscii-from_all}
use Rattle.std.proofs.lemmas.Str.{IsUtf8-from_ascii}
use Rattle.hv_script.specs.Kinds.{is_name, is_name_byte}

and-first : (one other : Bool) → (one && other) ≡ true → one ≡ true
and-first true other e = refl
and-first false other e = e

and-second : (one other : Bool) → (one && other) ≡ true → other ≡ true
and-second true other e = e
and-second false other e = absurd (cc)

letter-low : (b : ℕ) → is_name_byte b ≡ true → b < 128
letter-low b e = grind arith

letters-low : (bytes : List ℕ) → list_all is_name_byte bytes ≡ true → All (λ b. b < 128) bytes
letters-low [] e = All-nil (λ b. b < 128)
letters-low (b ∷ bytes) e =
    All-cons (λ b. b < 128) b bytes (letter-low b (and-first (is_name_byte b) (list_all is_name_byte bytes) e)) (letters-low bytes (and-second (is_name_byte b) (list_all is_name_byte bytes) e))

pub name_utf8 : (name : List ℕ) → is_name name ≡ true → IsUtf8 name
name_utf8 name e =
    IsUtf8-from_ascii name (IsAscii-from_all name (letters-low name (and-second _ (list_all is_name_byte name) e)))
