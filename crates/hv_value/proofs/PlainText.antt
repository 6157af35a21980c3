-- A text of plain bytes is printed as it is.
use Rattle.std.proofs.Common.{◌≡◌, ℕ, ◌==◌, Bool, true, false, ◌&&◌, cond, List, [], ◌∷◌, ◌++◌, refl, ap, ◌∙◌, codes}
use Rattle.std.specs.List.{flat_map, list_all}
use Rattle.std.proofs.lemmas.Bool.{and_parts}
use Rattle.hv_value.specs.Bytes.{tab, line_feed, carriage_return, backslash, double_quote}
use Rattle.hv_value.specs.Plain.{is_plain}
use Rattle.hv_value.specs.Printing.{escaped}

-- by the tests of one byte
plain-by : (one two three four five in_array : Bool) (byte : ℕ)
    → cond one false (cond two false (cond three false (cond four false (cond five false true)))) ≡ true
    → cond one (codes "\\t") (cond two (codes "\\n") (cond three (codes "\\r") (cond four (codes "\\\\") (cond (in_array && five) (codes "\\\"") (byte ∷ []))))) ≡ byte ∷ []
plain-by true two three four five in_array byte is = cc
plain-by false true three four five in_array byte is = cc
plain-by false false true four five in_array byte is = cc
plain-by false false false true five in_array byte is = cc
plain-by false false false false true in_array byte is = cc
plain-by false false false false false true byte is = refl
plain-by false false false false false false byte is = refl

plain-byte : (in_array : Bool) (byte : ℕ) → is_plain byte ≡ true → escaped in_array byte ≡ byte ∷ []
unfolding is_plain
plain-byte in_array byte is =
    plain-by (byte == tab) (byte == line_feed) (byte == carriage_return) (byte == backslash) (byte == double_quote) in_array byte is

pub plain-text : (in_array : Bool) (bytes : List ℕ) → list_all is_plain bytes ≡ true → flat_map (escaped in_array) bytes ≡ bytes
plain-text in_array [] is = refl
plain-text in_array (byte ∷ bytes) is =
    let parts = and_parts (is_plain byte) (list_all is_plain bytes) is in
    ap (λ front. front ++ flat_map (escaped in_array) bytes) (plain-byte in_array byte parts.0)
    ∙ ap (λ rest. byte ∷ rest) (plain-text in_array bytes parts.1)
