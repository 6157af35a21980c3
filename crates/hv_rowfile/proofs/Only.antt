-- From what reading gives to the clauses on spellings.
use Rattle.std.proofs.Common.{◌≡◌, ℕ, ◌<◌, ◌≤◌, ◌^◌, List, [], ◌++◌, length, take, drop, sym, ap, ◌∙◌, append_assoc, arith}
use Rattle.std.specs.List.{flat_map, AllByRecursion}
use Rattle.std.proofs.lemmas.List.{take-append-drop, length-take, append-nil}
use Rattle.hv_bytes.specs.Spelling.{two_bytes, four_bytes}
use Rattle.hv_value.specs.declared.value.Value.{Value}
use Rattle.hv_value.specs.declared.row.Row.{Row}
use Rattle.hv_rowfile.specs.Layout.{row_spelling, value_spelling, ValueIsTaken, RowIsTaken}
use Rattle.hv_rowfile.proofs.RowLemmas.{length-row}

-- a length and that many bytes, which spell a row
pub row_parts : (bytes : List ℕ) (n : ℕ) (rest : List ℕ) (row : Row) → n ≤ 65538 → bytes ≡ four_bytes n ++ rest → n ≤ length rest → take n rest ≡ row_spelling row → length row.values ≤ 65535 → AllByRecursion ValueIsTaken row.values
    → RowIsTaken row × (bytes ≡ (four_bytes (length (row_spelling row)) ++ row_spelling row) ++ drop n rest)
row_parts bytes n rest row small parts le is count taken =
    let len : length (row_spelling row) ≡ n = ap length (sym is) ∙ omega (arith, length-take n rest) in
    let whole : (four_bytes (length (row_spelling row)) ++ row_spelling row) ++ drop n rest ≡ four_bytes n ++ rest =
    ap (λ (k : ℕ). (four_bytes k ++ row_spelling row) ++ drop n rest) len ∙ append_assoc (four_bytes n) (row_spelling row) (drop n rest)
    ∙ ap (λ (x : List ℕ). four_bytes n ++ (x ++ drop n rest)) (sym is) ∙ ap (λ (x : List ℕ). four_bytes n ++ x) (take-append-drop n rest) in
    (record { count = count; short = omega (arith, len, length-row row); values = taken }, parts ∙ sym whole)

-- a count and so many values, and nothing else
pub row_whole : (bytes : List ℕ) (n : ℕ) (behind : List ℕ) (values : List Value) (rest : List ℕ) → n < 2 ^ 16 → bytes ≡ two_bytes n ++ behind → length values ≡ n → behind ≡ flat_map value_spelling values ++ rest → rest ≡ []
    → (bytes ≡ row_spelling (record { values = values })) × (length values ≤ 65535)
unfolding row_spelling
row_whole bytes n behind values rest small parts count e none =
    let body = flat_map value_spelling values in
    (parts ∙ ap (λ (k : ℕ). two_bytes k ++ behind) (sym count) ∙ ap (λ (x : List ℕ). two_bytes (length values) ++ x) (e ∙ ap (λ (x : List ℕ). body ++ x) none ∙ append-nil body), omega arith)
