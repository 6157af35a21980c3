-- A value of its column's type that the code's types hold is said by its text.
use Rattle.std.proofs.Common.{◌≡◌, ℕ, ◌+◌, ◌<◌, Bool, true, false, cond, List, [], ◌∷◌, refl, sym, ap, ◌∙◌, subst, arith, ℤ, inl, inr}
use Rattle.std.specs.Prelude.{All, FitsSigned, nat_lt, ◌/◌, ◌%◌}
use Rattle.std.specs.Int.{w32, w64}
use Rattle.std.specs.Str.{IsUtf8}
use Rattle.std.proofs.lemmas.Bool.{and_parts}
use Rattle.std.proofs.lemmas.List.Elements.{All-nil, All-cons, All-append}
use Rattle.std.proofs.lemmas.Bool.Decides.{nat_tests}
use Rattle.percent_encoding.proofs.PercentLemmas.{IsByte}
use lib.Utf8.{scalar, scalars, encode, encodes, scalar_cases}
use Rattle.hv_value.specs.Conversion.{is_layer_in}
use Rattle.hv_value.specs.declared.sql_type.SqlType.{SqlType}
use Rattle.hv_value.specs.declared.sql_type.SqlType.TheVariants as type
use Rattle.hv_value.specs.declared.value.Value.{Value}
use Rattle.hv_value.specs.declared.value.Value.TheOpen.{Value-F}
use Rattle.hv_value.specs.declared.value.Value.TheVariants as value
use Rattle.hv_value.specs.declared.value.Value.TheVariants.{rolls-Null, rolls-Bool, rolls-Int, rolls-Big, rolls-Str, rolls-Day, rolls-Array}
use Rattle.hv_value.specs.declared.value.Value.TheViews.{out-Value, roll-Value, out-roll-Value}
use Rattle.hv_route.specs.Back.{IsSaidLayer, IsHeldLayer, IsHeld, is_flat, TypedAreSaid}
use Rattle.hv_route.proofs.ReachLemmas.{day-found}
use Rattle.hv_route.proofs.SayLemmas.{says}

-- ---- what the code's types hold

holds : (v : Value) (x : Value-F Value) → roll-Value x ≡ v → IsHeldLayer x → IsHeld v
unfolding IsHeld
holds v x rolls h = subst IsHeldLayer (sym (out-roll-Value x) ∙ ap out-Value rolls) h

pub held-Null : IsHeld value.Null
held-Null = holds value.Null Value-F.Null rolls-Null tt

pub held-Bool : (b : Bool) → IsHeld (value.Bool b)
held-Bool b = holds (value.Bool b) (Value-F.Bool b) (rolls-Bool b) tt

pub held-Int : (n : ℤ) → FitsSigned w32 n → IsHeld (value.Int n)
held-Int n h = holds (value.Int n) (Value-F.Int n) (rolls-Int n) h

pub held-Big : (n : ℤ) → FitsSigned w64 n → IsHeld (value.Big n)
held-Big n h = holds (value.Big n) (Value-F.Big n) (rolls-Big n) h

pub held-Str : (t : List ℕ) → IsUtf8 t → IsHeld (value.Str t)
held-Str t h = holds (value.Str t) (Value-F.Str t) (rolls-Str t) h

pub held-Day : (n : ℤ) → IsHeld (value.Day n)
held-Day n = holds (value.Day n) (Value-F.Day n) (rolls-Day n) tt

pub held-Array : (items : List Value) → IsHeld (value.Array items)
held-Array items = holds (value.Array items) (Value-F.Array items) (rolls-Array items) tt

pub ruleset held = (held-Null, held-Bool, held-Int, held-Big, held-Str, held-Day, held-Array)

-- ---- the bytes of a text

abbrev last : ℕ → List ℕ
last c = (128 + c % 64) ∷ []

abbrev two : ℕ → List ℕ
two c = (128 + c / 64 % 64) ∷ last c

byte-by : (a b d : Bool) (c : ℕ) → nat_lt c 128 ≡ a → nat_lt c 2048 ≡ b → nat_lt c 65536 ≡ d → c < 1114112
    → All IsByte (cond a (c ∷ []) (cond b ((192 + c / 64) ∷ last c) (cond d ((224 + c / 4096) ∷ two c) ((240 + c / 262144) ∷ (128 + c / 4096 % 64) ∷ two c))))
byte-by true b d c ascii short middle low = All-cons IsByte c [] (grind (arith, nat_tests)) (All-nil IsByte)
byte-by false true d c ascii short middle low =
    let below : c < 2048 = grind (arith, nat_tests) in
    All-cons IsByte (192 + c / 64) (last c) (omega (arith, below)) (All-cons IsByte (128 + c % 64) [] (omega arith) (All-nil IsByte))
byte-by false false true c ascii short middle low =
    let below : c < 65536 = grind (arith, nat_tests) in
    All-cons IsByte (224 + c / 4096) (two c) (omega (arith, below))
    (All-cons IsByte (128 + c / 64 % 64) (last c) (omega arith) (All-cons IsByte (128 + c % 64) [] (omega arith) (All-nil IsByte)))
byte-by false false false c ascii short middle low =
    All-cons IsByte (240 + c / 262144) ((128 + c / 4096 % 64) ∷ two c) (omega (arith, low))
    (All-cons IsByte (128 + c / 4096 % 64) (two c) (omega arith)
    (All-cons IsByte (128 + c / 64 % 64) (last c) (omega arith) (All-cons IsByte (128 + c % 64) [] (omega arith) (All-nil IsByte))))

encode-small : (c : ℕ) → scalar c ≡ true → All IsByte (encode c)
unfolding encode
encode-small c e =
    let low : c < 1114112 = elim (scalar_cases c e) [ inl h ↦ omega (arith, h) | inr h ↦ h.1 ] in
    byte-by (nat_lt c 128) (nat_lt c 2048) (nat_lt c 65536) c refl refl refl low

encodes-small : (cs : List ℕ) → scalars cs ≡ true → All IsByte (encodes cs)
encodes-small [] e = All-nil IsByte
encodes-small (c ∷ cs) e =
    let both = and_parts (scalar c) (scalars cs) e in
    All-append IsByte (encode c) (encodes cs) (encode-small c both.0) (encodes-small cs both.1)

utf8-small : (text : List ℕ) → IsUtf8 text → All IsByte text
utf8-small text h = subst (All IsByte) h.1.1 (encodes-small h.0 h.1.0)

-- ---- what is held, and of its column's type, is said

said : (kind : SqlType) (x : Value-F Value) → is_flat kind ≡ true → is_layer_in kind x ≡ true → IsHeldLayer x → IsSaidLayer kind x
said kind Value-F.Null flat typed held = tt
said type.Null (Value-F.Bool b) flat typed held = cc
said type.Null (Value-F.Int z) flat typed held = cc
said type.Null (Value-F.Big z) flat typed held = cc
said type.Null (Value-F.Str text) flat typed held = cc
said type.Null (Value-F.Day day) flat typed held = cc
said type.Null (Value-F.Array items) flat typed held = cc
said type.Boolean (Value-F.Bool b) flat typed held = tt
said type.Boolean (Value-F.Int z) flat typed held = cc
said type.Boolean (Value-F.Big z) flat typed held = cc
said type.Boolean (Value-F.Str text) flat typed held = cc
said type.Boolean (Value-F.Day day) flat typed held = cc
said type.Boolean (Value-F.Array items) flat typed held = cc
said type.Int (Value-F.Bool b) flat typed held = cc
said type.Int (Value-F.Int z) flat typed held = held
said type.Int (Value-F.Big z) flat typed held = cc
said type.Int (Value-F.Str text) flat typed held = cc
said type.Int (Value-F.Day day) flat typed held = cc
said type.Int (Value-F.Array items) flat typed held = cc
said type.BigInt (Value-F.Bool b) flat typed held = cc
said type.BigInt (Value-F.Int z) flat typed held = cc
said type.BigInt (Value-F.Big z) flat typed held = held
said type.BigInt (Value-F.Str text) flat typed held = cc
said type.BigInt (Value-F.Day day) flat typed held = cc
said type.BigInt (Value-F.Array items) flat typed held = cc
said type.Str (Value-F.Bool b) flat typed held = cc
said type.Str (Value-F.Int z) flat typed held = cc
said type.Str (Value-F.Big z) flat typed held = cc
said type.Str (Value-F.Str text) flat typed held = (held, utf8-small text held)
said type.Str (Value-F.Day day) flat typed held = cc
said type.Str (Value-F.Array items) flat typed held = cc
said type.Date (Value-F.Bool b) flat typed held = cc
said type.Date (Value-F.Int z) flat typed held = cc
said type.Date (Value-F.Big z) flat typed held = cc
said type.Date (Value-F.Str text) flat typed held = cc
said type.Date (Value-F.Day day) flat typed held = day-found day typed
said type.Date (Value-F.Array items) flat typed held = cc
said (type.ArrayOf e) (Value-F.Bool b) flat typed held = cc
said (type.ArrayOf e) (Value-F.Int z) flat typed held = cc
said (type.ArrayOf e) (Value-F.Big z) flat typed held = cc
said (type.ArrayOf e) (Value-F.Str text) flat typed held = cc
said (type.ArrayOf e) (Value-F.Day day) flat typed held = cc
said (type.ArrayOf e) (Value-F.Array items) flat typed held = cc

pub typed-are-said : TypedAreSaid
unfolding IsHeld
typed-are-said kind v flat typed held = says kind v (said kind (out-Value v) flat typed held)
