-- From what reading gives to the clauses on spellings.
use Rattle.std.proofs.Common.{◌≡◌, ℕ, ◌<◌, ◌≤◌, List, ◌++◌, length, take, drop, sym, ap, ◌∙◌, append_assoc, arith}
use Rattle.std.proofs.lemmas.List.{take-append-drop, length-take}
use Rattle.hv_bytes.specs.Spelling.{four_bytes}
use Rattle.hv_history.specs.declared.entry.Entry.{Entry}
use Rattle.hv_history.specs.Spelling.{entry_spelling, HasSpelling}
use Rattle.hv_history.specs.Journal.{record_of, HasRecord}

-- a length and that many bytes, which spell an entry, are its record
pub record_front : (bytes : List ℕ) (n : ℕ) (rest : List ℕ) (e : Entry) → n < 4294967296 → bytes ≡ four_bytes n ++ rest → n ≤ length rest → HasSpelling e → take n rest ≡ entry_spelling e → HasRecord e × (bytes ≡ record_of e ++ drop n rest)
unfolding record_of
record_front bytes n rest e lt parts le has is =
    let len : length (entry_spelling e) ≡ n = ap length (sym is) ∙ omega (arith, length-take n rest) in
    let whole : record_of e ++ drop n rest ≡ four_bytes n ++ rest =
    ap (λ (k : ℕ). (four_bytes k ++ entry_spelling e) ++ drop n rest) len ∙ append_assoc (four_bytes n) (entry_spelling e) (drop n rest)
    ∙ ap (λ (x : List ℕ). four_bytes n ++ (x ++ drop n rest)) (sym is) ∙ ap (λ (x : List ℕ). four_bytes n ++ x) (take-append-drop n rest) in
    (record { spelling = has; short = omega arith }, parts ∙ sym whole)
