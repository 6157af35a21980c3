-- A text is read from the left, one front after the other.
use Rattle.std.proofs.Common.{◌≡◌, ℕ, ◌+◌, ◌-◌, ◌<◌, ◌≤◌, get_or, Option, Some, None, Ok, Err, List, [], ◌∷◌, ◌++◌, take, drop, length, arith, refl, sym, ◌∙◌, subst, ap, append_assoc}
use Rattle.hv_ast.specs.declared.token.Lexeme.{Lexeme}
use Rattle.hv_ast.specs.declared.token.Token.{Token}
use Rattle.hv_ast.specs.Tokens.{Text, Tokens, front, after_token, tokens_from, tokens_of}
use Rattle.hv_ast.proofs.Fronts.{tokens_gap, tokens_token, LiesWithin, front_within}
use Rattle.hv_lex.specs.Lexed.{front_of, kept}
use Rattle.std.specs.Prelude.{slice_index}
use Rattle.std.specs.Str.{IsUtf8}
use Rattle.std.proofs.lemmas.Str.{IsCharBoundary-before_ascii, IsUtf8-drop}
use Rattle.std.proofs.lemmas.List.{take_rest, get_or-drop, length-drop, drop-drop, append-nil}

-- these tokens, and then those
abbrev pub tokens_after : List Token → Tokens → Tokens
tokens_after first (Ok rest) = Ok (first ++ rest)
tokens_after first (Err e) = Err e

pub record IsReadUpTo (text : Text) (at : ℕ) (tokens : List Token) : Type 0 where
  pub within : at ≤ length text
  pub same : tokens_of text ≡ tokens_after tokens (tokens_from 0 at (drop at text))

after_one : (first : List Token) (token : Token) (rest : Tokens)
    → tokens_after first (after_token token rest) ≡ tokens_after (first ++ token ∷ []) rest
after_one first token (Ok rest) = ap {B = Tokens} Ok (sym (append_assoc first (token ∷ []) rest))
after_one first token (Err e) = refl

-- what is left, as the code passes it
abbrev pub left_of : Text → ℕ → Text
left_of text at = take (length text - at) (drop at text)

-- where a text goes on with ASCII it may be cut
pub left_utf8 : (text : Text) (at : ℕ) → IsUtf8 text → at < length text
    → slice_index (left_of text at) 0 < 128 → IsUtf8 (left_of text at)
left_utf8 text at whole within small =
    let here : slice_index (drop at text) 0 < 128 = subst (λ (rest : Text). slice_index rest 0 < 128) (take_rest text at) small in
    let same : get_or (drop at text) 0 0 ≡ get_or text (at + 0) 0 = get_or-drop at text 0 0 in
    let place : at + 0 ≡ at = omega arith in
    let low : get_or text at 0 < 128 = subst (λ (k : ℕ). get_or text k 0 < 128) place (omega arith) in
    subst IsUtf8 (sym (take_rest text at)) (IsUtf8-drop text at whole (IsCharBoundary-before_ascii text at within low))

-- the bounds of a piece
piece_bounds : (size : ℕ) (what : Option Lexeme) (n : ℕ) → LiesWithin size (front_of what n) → (1 ≤ n) × (n ≤ size)
piece_bounds size None n lies = lies.bounds
piece_bounds size (Some what) n lies = lies.bounds

pub piece_within : (text : Text) (at : ℕ) (what : Option Lexeme) (n : ℕ) → at < length text
    → front at (left_of text at) ≡ front_of what n → (1 ≤ n) × (at + n ≤ length text)
piece_within text at what n within read =
    let begins : front at (drop at text) ≡ front_of what n =
    subst (λ (rest : Text). front at rest ≡ front_of what n) (take_rest text at) read in
    let long : length (drop at text) ≡ length text - at = length-drop at text in
    let lies : LiesWithin (length (drop at text)) (front at (drop at text)) = front_within at (drop at text) (omega arith) in
    let bounds = piece_bounds (length (drop at text)) what n (subst (LiesWithin (length (drop at text))) begins lies) in
    (bounds.0, omega (arith, bounds.1))

tokens_more : (text : Text) (at n : ℕ) (what : Option Lexeme) (tokens : List Token) → 0 < length text → 1 ≤ n
    → front at text ≡ front_of what n
    → tokens_after tokens (tokens_from 0 at text)
    ≡ tokens_after (tokens ++ kept at what) (tokens_from 0 (at + n) (drop n text))
tokens_more text at n None tokens some long begins =
    ap (tokens_after tokens) (tokens_gap at n text some long begins)
    ∙ ap (λ (all : List Token). tokens_after all (tokens_from 0 (at + n) (drop n text))) (sym (append-nil tokens))
tokens_more text at n (Some what) tokens some long begins =
    ap (tokens_after tokens) (tokens_token at n what text some long begins)
    ∙ after_one tokens (record { what = what; at = at }) (tokens_from 0 (at + n) (drop n text))

pub read_more : (text : Text) (at n : ℕ) (what : Option Lexeme) (tokens more : List Token) → at < length text
    → IsReadUpTo text at tokens → front at (left_of text at) ≡ front_of what n → more ≡ tokens ++ kept at what
    → IsReadUpTo text (at + n) more
read_more text at n what tokens more within so_far read kept_is =
    let bounds = piece_within text at what n within read in
    let begins : front at (drop at text) ≡ front_of what n =
    subst (λ (rest : Text). front at rest ≡ front_of what n) (take_rest text at) read in
    let long : length (drop at text) ≡ length text - at = length-drop at text in
    let step = tokens_more (drop at text) at n what tokens (omega arith) bounds.0 begins in
    let cut : drop n (drop at text) ≡ drop (at + n) text = drop-drop n at text in
    record {
      within = bounds.1;
      same = so_far.same ∙ step
          ∙ ap (λ (rest : Text). tokens_after (tokens ++ kept at what) (tokens_from 0 (at + n) rest)) cut
          ∙ ap (λ (all : List Token). tokens_after all (tokens_from 0 (at + n) (drop (at + n) text))) (sym kept_is);
    }
