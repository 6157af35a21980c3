-- Runs of characters at the front of a text, and what they are when all are ASCII.
use Rattle.std.proofs.Common.{◌≡◌, ℕ, ◌<◌, ◌≤◌, Bool, true, false, not, cond, Option, Some, None, List, take, length, map, get_or, nat_lt, position, arith, refl, sym, ◌∙◌, subst}
use Rattle.std.proofs.lemmas.Bool.Decides.{nat_tests}
use Rattle.std.specs.List.{prefix_len, position_or_len}
use Rattle.std.specs.Char.{to_ascii_lowercase}
use Rattle.std.specs.Str.{IsAscii, IsUtf8}
use Rattle.std.proofs.lemmas.List.{get_or-take}
use Rattle.std.proofs.lemmas.List.Folds.{length-prefix_len}
use Rattle.std.proofs.lemmas.List.Sums.{prefix_len_passes, fails_before_first}
use Rattle.std.proofs.lemmas.Str.{IsUtf8-from_ascii}
use Rattle.std.proofs.lemmas.Str.Ascii.{IsAscii-from_reads, IsAscii-map, lowercase_ascii}
use Rattle.hv_ast.specs.Tokens.{continues_word, is_printable}

pub lowered_utf8 : (letters bytes : List ℕ) → IsAscii letters → bytes ≡ map to_ascii_lowercase letters → IsUtf8 bytes
lowered_utf8 letters bytes ascii same =
    subst IsUtf8 (sym same)
    (IsUtf8-from_ascii (map to_ascii_lowercase letters) (IsAscii-map to_ascii_lowercase letters lowercase_ascii ascii))

-- a run whose characters are all ASCII
run_ascii : (p : ℕ → Bool) → ((b : ℕ) → p b ≡ true → b < 128) → (text : List ℕ) → IsAscii (take (prefix_len p text) text)
run_ascii p small text =
    IsAscii-from_reads (take (prefix_len p text) text) (prefix_len p text)
    (let long = length-prefix_len p text in omega arith)
    (λ k within. rw (get_or-take (prefix_len p text) text k 0 within) (small (get_or text k 0) (prefix_len_passes p text k 0 within)))

word_small : (b : ℕ) → continues_word b ≡ true → b < 128
word_small b holds = grind (arith, nat_tests)

pub word_ascii : (text : List ℕ) (n : ℕ) → n ≡ prefix_len continues_word text → IsAscii (take n text)
word_ascii text n same = subst (λ (m : ℕ). IsAscii (take m text)) (sym same) (run_ascii continues_word word_small text)

-- where no character fails a test, all pass
position_none : (p : ℕ → Bool) (text : List ℕ) → position p text ≡ None → length text ≤ position_or_len p text
position_none p text none = by_test (nat_lt (position_or_len p text) (length text)) refl none
  where
    by_test : (b : Bool) → nat_lt (position_or_len p text) (length text) ≡ b
        → cond b (Some (position_or_len p text)) None ≡ None → length text ≤ position_or_len p text
    by_test true test none = cc
    by_test false test none = grind (arith, nat_tests)

printable_small : (b : ℕ) → not (is_printable b) ≡ false → b < 128
printable_small b holds = grind (arith, nat_tests)

pub name_ascii : (name : List ℕ) (bad : Option ℕ)
    → bad ≡ position (λ b. not (is_printable b)) name → bad ≡ None → IsAscii name
name_ascii name bad same none =
    let p : ℕ → Bool = λ b. not (is_printable b) in
    let far = position_none p name (sym same ∙ none) in
    IsAscii-from_reads name (length name) (omega arith)
    (λ k within. printable_small (get_or name k 0) (fails_before_first p name k 0 (omega arith)))
