-- The first place of one text in another, by bytes, is the first one by characters.
use Rattle.std.proofs.Common.{◌≡◌, ℕ, ◌+◌, ◌<◌, ◌≤◌, true, false, if◌then◌else◌, List, [], ◌∷◌, ◌++◌, take, drop, length, Some, None, refl, sym, ap, ◌∙◌, subst, arith, ⊎_elim, take-append-drop, length-append, eqb-true, eq-eqb}
use Rattle.std.proofs.Math.Seq.{drop-append-add}
use Rattle.std.specs.Str.{chars, IsUtf8, encode_utf8_all}
use Rattle.std.specs.Str.Pattern.{FindsText, HasTextAt, LacksTextAt, SplitsAroundMatch}
use Rattle.std.specs.Prelude.{encode_utf8}
use Rattle.std.proofs.lemmas.Bool.{false≢true, cases_Bool, and_parts, and_from}
use Rattle.std.proofs.lemmas.Str.{chars-append, encodes-append, encodes-chars, length-le-encodes, IsUtf8-append, IsUtf8-drop, IsUtf8-take, IsCharBoundary-from_drop}
use Rattle.hv_text.proofs.TextLemmas.{chars_short, found_here}
use Rattle.hv_text.specs.Characters.{begins_with, skipped_before, found_behind}

-- ---- beginning, by characters

begins-itself : (part rest : List ℕ) → begins_with part (part ++ rest) ≡ true
begins-itself [] rest = refl
begins-itself (p ∷ ps) rest = and_from _ _ (eq-eqb p p refl) (begins-itself ps rest)

begins-front : (part cs : List ℕ) → begins_with part cs ≡ true → (rest : List ℕ) × (cs ≡ part ++ rest)
begins-front [] cs e = (cs, refl)
begins-front (p ∷ ps) [] e = absurd (false≢true e)
begins-front (p ∷ ps) (c ∷ cs) e =
    let parts = and_parts _ (begins_with ps cs) e in
    let same : p ≡ c = eqb-true p c parts.0 in
    let more = begins-front ps cs parts.1 in (more.0, λ i. sym same i ∷ more.1 i)

-- what doesn't begin so by bytes doesn't by characters
not-begun : (part cs : List ℕ) → LacksTextAt (encode_utf8_all part) (encode_utf8_all cs) 0 → begins_with part cs ≡ false
not-begun part cs lacks =
    ⊎_elim
    (λ yes. let front = begins-front part cs yes in absurd (lacks (encode_utf8_all front.0) (ap encode_utf8_all front.1 ∙ encodes-append part front.0)))
    (λ no. no)
    (cases_Bool (begins_with part cs))

-- ---- one character on

one-skipped : (skipped : ℕ) (part cs : List ℕ) (c : ℕ) → begins_with part (c ∷ cs) ≡ false
    → skipped_before skipped part (c ∷ cs) ≡ skipped_before (skipped + 1) part cs
one-skipped skipped part cs c e = ap (λ b. if b then Some skipped else skipped_before (skipped + 1) part cs) e

lacks-behind : (part behind : List ℕ) (c i : ℕ) → LacksTextAt part (encode_utf8 c ++ behind) (length (encode_utf8 c) + i) → LacksTextAt part behind i
lacks-behind part behind c i lacks = λ rest e. lacks rest (drop-append-add (encode_utf8 c) behind i ∙ e)

-- ---- the first place, by characters

place-found : (skipped count : ℕ) (part before rest : List ℕ) → skipped + length before ≡ count
    → ((i : ℕ) → i < length (encode_utf8_all before) → LacksTextAt (encode_utf8_all part) (encode_utf8_all (before ++ (part ++ rest))) i)
    → skipped_before skipped part (before ++ (part ++ rest)) ≡ Some count
place-found skipped count part [] rest sum lacks =
    let same : skipped ≡ count = omega arith in
    found_here skipped part (part ++ rest) (begins-itself part rest) ∙ ap (λ n. Some n) same
place-found skipped count part (c ∷ before) rest sum lacks =
    let behind = before ++ (part ++ rest) in
    let more : skipped + 1 + length before ≡ count = omega arith in
    let some : 0 < length (encode_utf8_all (c ∷ before)) = omega (arith, length-le-encodes (c ∷ before)) in
    one-skipped skipped part behind c (not-begun part (c ∷ behind) (lacks 0 some))
    ∙ place-found (skipped + 1) count part before rest more
    (λ i small. lacks-behind (encode_utf8_all part) (encode_utf8_all behind) c i
    (lacks (length (encode_utf8 c) + i) (omega (arith, length-append (encode_utf8 c) (encode_utf8_all before)))))

place-missing : (skipped : ℕ) (part cs : List ℕ)
    → ((i : ℕ) → i ≤ length (encode_utf8_all cs) → LacksTextAt (encode_utf8_all part) (encode_utf8_all cs) i)
    → skipped_before skipped part cs ≡ None
place-missing skipped part [] lacks = ap (λ b. if b then Some skipped else None) (not-begun part [] (lacks 0 (omega arith)))
place-missing skipped part (c ∷ cs) lacks =
    one-skipped skipped part cs c (not-begun part (c ∷ cs) (lacks 0 (omega arith)))
    ∙ place-missing (skipped + 1) part cs
    (λ i small. lacks-behind (encode_utf8_all part) (encode_utf8_all cs) c i
    (lacks (length (encode_utf8 c) + i) (omega (arith, length-append (encode_utf8 c) (encode_utf8_all cs)))))

-- ---- of texts

module _ (text part : List ℕ) (u : IsUtf8 text) (v : IsUtf8 part) where
  -- where the bytes stand, the text before them is one of whole characters
  before-utf8 : (i j : ℕ) → i ≤ length text → HasTextAt part text i j → IsUtf8 (take i text)
  before-utf8 i j within at =
      let behind : IsUtf8 (drop j text) = subst (λ n. IsUtf8 (drop n text)) (sym at.ends) (IsUtf8-drop text (i + length part) u at.after) in
      let rest : IsUtf8 (drop i text) = subst IsUtf8 (sym at.split) (IsUtf8-append part (drop j text) v behind) in
      IsUtf8-take text i u (IsCharBoundary-from_drop text i within rest)

  chars-split : (before behind : List ℕ) → IsUtf8 before → text ≡ before ++ (part ++ behind) → chars text ≡ chars before ++ (chars part ++ chars behind)
  chars-split before behind w e =
      ap chars e ∙ chars-append before (part ++ behind) w ∙ ap (λ cs. chars before ++ cs) (chars-append part behind v)

  -- the same of the text's characters in UTF-8
  lacks-chars : (cs : List ℕ) (i : ℕ) → chars text ≡ cs → LacksTextAt part text i → LacksTextAt (encode_utf8_all (chars part)) (encode_utf8_all cs) i
  lacks-chars cs i e lacks = λ rest d.
      lacks rest (ap (λ t. drop i t) (sym (encodes-chars text u) ∙ ap encode_utf8_all e) ∙ d ∙ ap (λ t. t ++ rest) (encodes-chars part v))

  found_is : (before behind : List ℕ) → IsUtf8 before → text ≡ before ++ (part ++ behind)
      → ((i : ℕ) → i < length before → LacksTextAt part text i) → found_behind text part ≡ Some (length (chars before))
  unfolding found_behind
  found_is before behind w e lacks =
      let split = chars-split before behind w e in
      let long : length (encode_utf8_all (chars before)) ≡ length before = ap length (encodes-chars before w) in
      ap (λ cs. skipped_before 0 (chars part) cs) split
      ∙ place-found 0 (length (chars before)) (chars part) (chars before) (chars behind) (omega arith)
      (λ i small. lacks-chars (chars before ++ (chars part ++ chars behind)) i split (lacks i (omega arith)))

  pub missing_is : FindsText part text None → found_behind text part ≡ None
  unfolding found_behind
  missing_is lacks =
      let long : length (encode_utf8_all (chars text)) ≡ length text = ap length (encodes-chars text u) in
      place-missing 0 (chars part) (chars text) (λ i small. lacks-chars (chars text) i refl (lacks i (omega arith)))

  front-utf8 : (before behind : List ℕ) → SplitsAroundMatch (FindsText part) text before behind → IsUtf8 before
  front-utf8 before behind h =
      let inner = h.5 in
      let end = h.7 in
      let within : h.0 ≤ length text = omega arith in
      subst IsUtf8 (sym h.3) (before-utf8 h.0 h.1 within h.2.1)

  pub split_is : (before behind : List ℕ) → SplitsAroundMatch (FindsText part) text before behind → found_behind text part ≡ Some (length (chars before))
  split_is before behind h =
      let long = h.6 in
      let whole : text ≡ before ++ (part ++ behind) =
      sym (take-append-drop h.0 text) ∙ ap (λ t. take h.0 text ++ t) h.2.1.split ∙ (λ k. sym h.3 k ++ (part ++ sym h.4 k)) in
      found_is before behind (front-utf8 before behind h) whole (λ i small. h.2.0 i (omega arith))

  pub split_short : (before behind : List ℕ) → SplitsAroundMatch (FindsText part) text before behind → length (chars before) ≤ length text
  split_short before behind h =
      let short = chars_short before (front-utf8 before behind h) in
      let inner = h.5 in
      let long = h.6 in
      let end = h.7 in omega arith
