-- What a text of a name begins with, and what it can't be where a reader stops.
use Rattle.std.proofs.Common.{refl, ◌≡◌, ◌≢◌, ◌⊎◌, inl, inr, ℕ, ◌+◌, ◌==◌, ◌<◌, ◌≤◌, ◌^◌, Bool, true, false, Option, Some, None, List, [], ◌∷◌, ◌++◌, drop, take, length, codes, sym, ap, ◌∙◌, subst, arith, true≢false, eq-eqb}
use Rattle.std.specs.Option.{IfNone, IfSome}
use Rattle.std.specs.Str.{IsUtf8}
use Rattle.std.proofs.lemmas.Str.{IsUtf8-from_ascii}
use Rattle.std.proofs.lemmas.Bool.{cases_eq, eqb-true}
use Rattle.std.specs.Str.Parse.{AllDigits}
use Rattle.std.proofs.lemmas.List.{append-nil, length-append}
use Rattle.std.proofs.Math.Seq.{take-append_seam}
use Rattle.hv_table.specs.Decimal.{fixed_digits}
use Rattle.hv_table.proofs.DecimalLemmas.{length-fixed_digits, AllDigits-fixed_digits}
use Rattle.hv_dirs.specs.declared.names.DirName.{DirName}
use Rattle.hv_dirs.specs.declared.names.DirName.TheVariants.{Base, Own, Wide, Staged}
use Rattle.hv_dirs.specs.Names.{base_name, own_name, wide_name, staged_name, kind_mark, text_of, is_compacted, write_end, statement_end, IsNumber, IsRange, IsPlain, IsStagedAs, IsName, IsDelta}
use Rattle.hv_dirs.proofs.NameLemmas.{fixed-parts, fixed-end, letter, apart, base-delta, own-first, wide-first, base-first, own_rest, wide_rest, own-text, wide-text, kind-same, low-fits, mark-first, base-staged, delta-staged, staged-ascii, text-same}

-- where a reader gives nothing
pub if-none : {A : Type 0} (r : Option A) (P : Type 0) → P → IfNone r P
if-none None P p = p
if-none (Some x) P p = tt

pub some-number : (n : ℕ) → (n ≡ 0 → ⊥) → 1 ≤ n
some-number n other = elim (cases_eq n 0) [ inl e ↦ absurd (other e) | inr more ↦ omega arith ]

pub nil : (b : Bool) (xs : List ℕ) → b ≡ (length xs == 0) → b ≡ true → xs ≡ []
nil b [] is done = refl
nil b (x ∷ xs) is done = absurd (let e : length (x ∷ xs) ≡ 0 = eqb-true (length (x ∷ xs)) 0 (sym is ∙ done) in omega arith)

pub not-nil : (b : Bool) (xs : List ℕ) → b ≡ (length xs == 0) → b ≡ false → xs ≢ []
not-nil b xs is more e = true≢false (sym (eq-eqb (length xs) 0 (ap length e)) ∙ sym is ∙ more)

-- ---- a number

pub too-short : (width : ℕ) (bytes : List ℕ) → length bytes < width
    → (number : ℕ) (after : List ℕ) → number < 10 ^ width → bytes ≢ fixed_digits width number ++ after
too-short width bytes short number after fits e =
    let long : length bytes ≡ length (fixed_digits width number) + length after = ap length e ∙ length-append (fixed_digits width number) after in
    let wide : length (fixed_digits width number) ≡ width = length-fixed_digits width number in
    omega arith

pub no-digits : (width : ℕ) (bytes front : List ℕ) → front ≡ take width bytes → (AllDigits 10 front → ⊥)
    → (number : ℕ) (after : List ℕ) → number < 10 ^ width → bytes ≢ fixed_digits width number ++ after
no-digits width bytes front is none number after fits e =
    let same : take width bytes ≡ fixed_digits width number =
    ap (take width) e ∙ ap (λ n. take n (fixed_digits width number ++ after)) (sym (length-fixed_digits width number))
    ∙ take-append_seam (fixed_digits width number) after in
    none (subst (AllDigits 10) (sym (is ∙ same)) (AllDigits-fixed_digits width number))

abbrev pub NoNumber : ℕ → List ℕ → Type 0
NoNumber width bytes = (number : ℕ) (after : List ℕ) → number < 10 ^ width → bytes ≢ fixed_digits width number ++ after

abbrev pub Bare : List ℕ → List ℕ → Type 0
Bare front text = (after : List ℕ) → text ≢ front ++ after

-- ---- bases

base-only : (bytes : List ℕ) (name : DirName) → IsPlain name → codes "base_" ++ bytes ≡ text_of name
    → (high : ℕ) × IsNumber high × (bytes ≡ fixed_digits 7 high)
unfolding base_name letter
base-only bytes (Base high) is e = (high.0, is, ap (drop 5) e)
base-only bytes (Own deletes write statement) is e = apart _ _ 98 100 refl (own-first deletes write.0 statement) base-delta e
base-only bytes (Wide deletes low high) is e = apart _ _ 98 100 refl (wide-first deletes low.0 high.0) base-delta e
base-only bytes (Staged job name) is e = absurd is

pub no-base : (bytes : List ℕ) → NoNumber 7 bytes → (name : DirName) → IsPlain name → codes "base_" ++ bytes ≢ text_of name
no-base bytes none name is e =
    let b = base-only bytes name is e in
    none b.0 [] b.1.1 (b.2 ∙ sym (append-nil (fixed_digits 7 b.0)))

pub bad-base : (bytes rest : List ℕ) (high : ℕ) → high < write_end → bytes ≡ fixed_digits 7 high ++ rest → (high ≡ 0) ⊎ (rest ≢ [])
    → (name : DirName) → IsPlain name → codes "base_" ++ bytes ≢ text_of name
bad-base bytes rest high fits is bad name plain e =
    let b = base-only bytes name plain e in
    let p = fixed-end 7 high b.0 rest fits b.1.1 (sym is ∙ b.2) in
    elim bad [
      | inl zero_high ↦ let some : 1 ≤ b.0 = b.1.0 in let same : high ≡ b.0 = p.0 in omega arith
      | inr more ↦ more p.1
    ]

pub is-base : (bytes rest : List ℕ) (high : ℕ) → high < write_end → bytes ≡ fixed_digits 7 high ++ rest → (high ≢ 0) → rest ≡ []
    → (IsNumber high) × (codes "base_" ++ bytes ≡ base_name high)
unfolding base_name
is-base bytes rest high fits is some done =
    let text : bytes ≡ fixed_digits 7 high = is ∙ ap (λ xs. fixed_digits 7 high ++ xs) done ∙ append-nil (fixed_digits 7 high) in
    ((some-from some, fits), ap (λ xs. codes "base_" ++ xs) text)
  where
    some-from : high ≢ 0 → 1 ≤ high
    some-from other = elim (cases_eq high 0) [ inl e ↦ absurd (other e) | inr n ↦ omega arith ]

-- ---- ranges

abbrev pub NoRange : List ℕ → Type 0
NoRange bytes = (low high : ℕ) (after : List ℕ) → low < write_end → high < write_end
    → bytes ≢ fixed_digits 7 low ++ (codes "_" ++ (fixed_digits 7 high ++ after))

pub no-bar : (bytes rest : List ℕ) (low : ℕ) → low < write_end → bytes ≡ fixed_digits 7 low ++ rest → Bare (codes "_") rest → NoRange bytes
no-bar bytes rest low fits is none other high after p q e =
    none (fixed_digits 7 high ++ after) (fixed-parts 7 low other rest (codes "_" ++ (fixed_digits 7 high ++ after)) fits p (sym is ∙ e)).1

pub no-high : (bytes rest behind_it : List ℕ) (low : ℕ) → low < write_end → bytes ≡ fixed_digits 7 low ++ rest → rest ≡ codes "_" ++ behind_it
    → NoNumber 7 behind_it → NoRange bytes
no-high bytes rest behind_it low fits is bar none other high after p q e =
    let same = (fixed-parts 7 low other rest (codes "_" ++ (fixed_digits 7 high ++ after)) fits p (sym is ∙ e)).1 in
    none high after q (ap (drop 1) (sym bar ∙ same))

-- ---- statements

pub no-statement : (bytes rest : List ℕ) → bytes ≡ codes "_" ++ rest → NoNumber 4 rest
    → (statement : ℕ) → statement < statement_end → bytes ≢ codes "_" ++ fixed_digits 4 statement
no-statement bytes rest is none statement fits e =
    none statement [] fits (ap (drop 1) (sym is ∙ e) ∙ sym (append-nil (fixed_digits 4 statement)))

pub more-behind : (bytes rest after : List ℕ) (number : ℕ) → bytes ≡ codes "_" ++ rest → number < statement_end → rest ≡ fixed_digits 4 number ++ after → after ≢ []
    → (statement : ℕ) → statement < statement_end → bytes ≢ codes "_" ++ fixed_digits 4 statement
more-behind bytes rest after number is fits found more statement small e =
    more (fixed-end 4 number statement after fits small (sym found ∙ ap (drop 1) (sym is ∙ e))).1

-- ---- deltas

-- what stands behind `delta_` in the text of a delta
DeltaRest : List ℕ → Type 0
DeltaRest bytes =
    ((write : ℕ) × (statement : ℕ) × IsNumber write × (statement < statement_end) × (bytes ≡ own_rest write statement))
    ⊎ ((low : ℕ) × (high : ℕ) × IsRange low high × (bytes ≡ wide_rest low high))

delta-only : (deletes : Bool) (bytes : List ℕ) (name : DirName) → IsDelta deletes name
    → kind_mark deletes ++ (codes "delta_" ++ bytes) ≡ text_of name → DeltaRest bytes
unfolding DeltaRest
delta-only deletes bytes (Base high) is e = absurd is
delta-only deletes bytes (Own kind write statement) is e =
    inl (write.0, statement, is.1, is.2, (kind-same deletes kind bytes (own_rest write.0 statement) (e ∙ own-text kind write.0 statement)).1)
delta-only deletes bytes (Wide kind low high) is e =
    inr (low.0, high.0, is.1, (kind-same deletes kind bytes (wide_rest low.0 high.0) (e ∙ wide-text kind low.0 high.0)).1)
delta-only deletes bytes (Staged job name) is e = absurd is

abbrev pub NoDelta : Bool → List ℕ → Type 0
NoDelta deletes bytes = (name : DirName) → IsDelta deletes name → kind_mark deletes ++ (codes "delta_" ++ bytes) ≢ text_of name

pub no-range : (deletes : Bool) (bytes : List ℕ) → NoRange bytes → NoDelta deletes bytes
unfolding DeltaRest
no-range deletes bytes none name is e = elim (delta-only deletes bytes name is e) [
  | inl own ↦ none own.0 own.0 (codes "_" ++ fixed_digits 4 own.1) own.2.1 own.2.1 own.4
  | inr wide ↦ none wide.0 wide.1 [] (low-fits wide.0 wide.1 wide.2) wide.2.2
      (wide.3 ∙ ap (λ xs. fixed_digits 7 wide.0 ++ (codes "_" ++ xs)) (sym (append-nil (fixed_digits 7 wide.1))))
]

-- two numbers were found at the front
pub record HasRange (bytes : List ℕ) (low high : ℕ) (rest : List ℕ) : Type 0 where
  pub low_fits : low < write_end
  pub high_fits : high < write_end
  pub text : bytes ≡ fixed_digits 7 low ++ (codes "_" ++ (fixed_digits 7 high ++ rest))

range-same : (bytes rest : List ℕ) (low high other last : ℕ) (after : List ℕ) → HasRange bytes low high rest → other < write_end → last < write_end
    → bytes ≡ fixed_digits 7 other ++ (codes "_" ++ (fixed_digits 7 last ++ after)) → (low ≡ other) × (high ≡ last) × (rest ≡ after)
range-same bytes rest low high other last after has p q e =
    let one = fixed-parts 7 low other (codes "_" ++ (fixed_digits 7 high ++ rest)) (codes "_" ++ (fixed_digits 7 last ++ after)) has.low_fits p (sym has.text ∙ e) in
    let two = fixed-parts 7 high last rest after has.high_fits q (ap (drop 1) one.1) in
    (one.0, two.0, two.1)

-- a delta's text behind two numbers
pub RangeRest : ℕ → ℕ → List ℕ → Type 0
RangeRest low high rest =
    ((statement : ℕ) × (statement < statement_end) × (1 ≤ low) × (low ≡ high) × (rest ≡ codes "_" ++ fixed_digits 4 statement))
    ⊎ ((1 ≤ low) × (low ≤ high) × (rest ≡ []))

behind-range : (deletes : Bool) (bytes rest : List ℕ) (low high : ℕ) → HasRange bytes low high rest → (name : DirName) → IsDelta deletes name
    → kind_mark deletes ++ (codes "delta_" ++ bytes) ≡ text_of name → RangeRest low high rest
unfolding DeltaRest RangeRest
behind-range deletes bytes rest low high has name is e = elim (delta-only deletes bytes name is e) [
  | inl own ↦
      let s = range-same bytes rest low high own.0 own.0 (codes "_" ++ fixed_digits 4 own.1) has own.2.1 own.2.1 own.4 in
      let a : low ≡ own.0 = s.0 in let b : high ≡ own.0 = s.1 in let c : 1 ≤ own.0 = own.2.0 in
      inl (own.1, own.3, omega arith, omega arith, s.2)
  | inr wide ↦
      let s = range-same bytes rest low high wide.0 wide.1 [] has (low-fits wide.0 wide.1 wide.2) wide.2.2
      (wide.3 ∙ ap (λ xs. fixed_digits 7 wide.0 ++ (codes "_" ++ xs)) (sym (append-nil (fixed_digits 7 wide.1)))) in
      let a : low ≡ wide.0 = s.0 in let b : high ≡ wide.1 = s.1 in let c : 1 ≤ wide.0 = wide.2.0 in let d : wide.0 ≤ wide.1 = wide.2.1 in
      inr (omega arith, omega arith, s.2)
]

pub bad-range : (deletes : Bool) (bytes rest : List ℕ) (low high : ℕ) → HasRange bytes low high rest → (low ≡ 0) ⊎ (high < low) → NoDelta deletes bytes
unfolding RangeRest
bad-range deletes bytes rest low high has bad name is e = elim (behind-range deletes bytes rest low high has name is e) [
  | inl own ↦ let a : 1 ≤ low = own.2 in let b : low ≡ high = own.3 in by bad (omega arith) (omega arith)
  | inr wide ↦ by bad wide.0 wide.1
]
  where
    by : (low ≡ 0) ⊎ (high < low) → 1 ≤ low → low ≤ high → ⊥
    by (inl zero_low) some under = omega arith
    by (inr less) some under = omega arith

pub two-ids : (deletes : Bool) (bytes rest : List ℕ) (low high : ℕ) → HasRange bytes low high rest → rest ≢ [] → low < high → NoDelta deletes bytes
unfolding RangeRest
two-ids deletes bytes rest low high has more less name is e = elim (behind-range deletes bytes rest low high has name is e) [
  | inl own ↦ let b : low ≡ high = own.3 in omega arith
  | inr wide ↦ more wide.2
]

pub no-own : (deletes : Bool) (bytes rest : List ℕ) (low high : ℕ) → HasRange bytes low high rest → rest ≢ []
    → ((statement : ℕ) → statement < statement_end → rest ≢ codes "_" ++ fixed_digits 4 statement) → NoDelta deletes bytes
unfolding RangeRest
no-own deletes bytes rest low high has more none name is e = elim (behind-range deletes bytes rest low high has name is e) [
  | inl own ↦ none own.0 own.1 own.4
  | inr wide ↦ more wide.2
]

pub is-wide : (deletes : Bool) (bytes rest : List ℕ) (low high : ℕ) → HasRange bytes low high rest → rest ≡ []
    → kind_mark deletes ++ (codes "delta_" ++ bytes) ≡ kind_mark deletes ++ wide_name low high
is-wide deletes bytes rest low high has done =
    ap (λ xs. kind_mark deletes ++ (codes "delta_" ++ xs))
    (has.text ∙ ap (λ xs. fixed_digits 7 low ++ (codes "_" ++ (fixed_digits 7 high ++ xs))) done
    ∙ ap (λ xs. fixed_digits 7 low ++ (codes "_" ++ xs)) (append-nil (fixed_digits 7 high)))
    ∙ sym (wide-text deletes low high)

pub is-own : (deletes : Bool) (bytes rest : List ℕ) (low high statement : ℕ) → HasRange bytes low high rest → low ≡ high
    → rest ≡ codes "_" ++ fixed_digits 4 statement
    → kind_mark deletes ++ (codes "delta_" ++ bytes) ≡ kind_mark deletes ++ own_name low statement
is-own deletes bytes rest low high statement has same found =
    ap (λ xs. kind_mark deletes ++ (codes "delta_" ++ xs))
    (has.text ∙ (λ i. fixed_digits 7 low ++ (codes "_" ++ (fixed_digits 7 (sym same i) ++ found i))))
    ∙ sym (own-text deletes low statement)

-- ---- names that aren't staged

abbrev pub NoPlain : List ℕ → Type 0
NoPlain text = (name : DirName) → IsPlain name → text ≢ text_of name

plain-delta-by : (deletes : Bool) (text rest : List ℕ) → text ≡ kind_mark deletes ++ (codes "delta_" ++ rest) → NoDelta deletes rest → NoPlain text
plain-delta-by deletes text rest is none (Base high) plain e = apart _ _ 98 100 (base-first high.0) (mark-first deletes rest) base-delta (sym e ∙ is)
plain-delta-by deletes text rest is none (Own kind write statement) plain e =
    let k = kind-same deletes kind rest (own_rest write.0 statement) (sym is ∙ e ∙ own-text kind write.0 statement) in
    none (Own kind write statement) (sym k.0, plain.0, plain.1) (sym is ∙ e)
plain-delta-by deletes text rest is none (Wide kind low high) plain e =
    let k = kind-same deletes kind rest (wide_rest low.0 high.0) (sym is ∙ e ∙ wide-text kind low.0 high.0) in
    none (Wide kind low high) (sym k.0, plain) (sym is ∙ e)
plain-delta-by deletes text rest is none (Staged job name) plain e = plain

pub plain-delta : (deletes : Bool) (text rest : List ℕ) → text ≡ kind_mark deletes ++ (codes "delta_" ++ rest)
    → (r : Option DirName) → IfNone r (NoDelta deletes rest) → IfNone r (NoPlain text)
plain-delta deletes text rest is None none = plain-delta-by deletes text rest is none
plain-delta deletes text rest is (Some name) none = tt

delta-is-plain : (deletes : Bool) (name : DirName) → IsDelta deletes name → IsPlain name
delta-is-plain deletes (Base high) is = absurd is
delta-is-plain deletes (Own kind write statement) is = (is.1, is.2)
delta-is-plain deletes (Wide kind low high) is = is.1
delta-is-plain deletes (Staged job name) is = is

pub delta-plain : (deletes : Bool) (text rest : List ℕ) → text ≡ kind_mark deletes ++ (codes "delta_" ++ rest)
    → (r : Option DirName) → IfSome r (λ name. IsDelta deletes name × (kind_mark deletes ++ (codes "delta_" ++ rest) ≡ text_of name))
    → IfSome r (λ name. IsPlain name × (text ≡ text_of name))
delta-plain deletes text rest is None found = tt
delta-plain deletes text rest is (Some name) found = (delta-is-plain deletes name found.0, is ∙ found.1)

pub no-plain : (text : List ℕ) → Bare (codes "base_") text → Bare (codes "delta_") text → Bare (codes "delete_delta_") text → NoPlain text
unfolding base_name
no-plain text base delta delete (Base high) is e = base (fixed_digits 7 high.0) e
no-plain text base delta delete (Own false write statement) is e = delta (own_rest write.0 statement) (e ∙ own-text false write.0 statement)
no-plain text base delta delete (Own true write statement) is e = delete (own_rest write.0 statement) (e ∙ own-text true write.0 statement)
no-plain text base delta delete (Wide false low high) is e = delta (wide_rest low.0 high.0) (e ∙ wide-text false low.0 high.0)
no-plain text base delta delete (Wide true low high) is e = delete (wide_rest low.0 high.0) (e ∙ wide-text true low.0 high.0)
no-plain text base delta delete (Staged job name) is e = is

pub plain-name : (name : DirName) → IsPlain name → IsName name
plain-name (Base high) is = is
plain-name (Own deletes write statement) is = is
plain-name (Wide deletes low high) is = is
plain-name (Staged job name) is = absurd is

-- ---- staged names

abbrev pub NoStaged : List ℕ → Type 0
NoStaged bytes = (job : ℕ) (name : List ℕ) → IsStagedAs job name → codes ".stage_" ++ bytes ≢ staged_name job name

staged-rest : (bytes : List ℕ) (job : ℕ) (name : List ℕ) → codes ".stage_" ++ bytes ≡ staged_name job name → bytes ≡ fixed_digits 7 job ++ (codes "_" ++ name)
unfolding staged_name
staged-rest bytes job name e = ap (drop 7) e

pub no-job : (bytes : List ℕ) → NoNumber 7 bytes → NoStaged bytes
no-job bytes none job name is e = none job (codes "_" ++ name) is.0.1 (staged-rest bytes job name e)

pub no-job-bar : (bytes rest : List ℕ) (job : ℕ) → job < write_end → bytes ≡ fixed_digits 7 job ++ rest → Bare (codes "_") rest → NoStaged bytes
no-job-bar bytes rest job fits is none other name staged e =
    none name (fixed-parts 7 job other rest (codes "_" ++ name) fits staged.0.1 (sym is ∙ staged-rest bytes other name e)).1

-- a job's number, and what stands behind it
pub record HasJob (bytes : List ℕ) (job : ℕ) (rest : List ℕ) : Type 0 where
  pub fits : job < write_end
  pub text : bytes ≡ fixed_digits 7 job ++ (codes "_" ++ rest)

pub has-job : (bytes rest behind_it : List ℕ) (job : ℕ) → job < write_end → bytes ≡ fixed_digits 7 job ++ rest → rest ≡ codes "_" ++ behind_it → HasJob bytes job behind_it
has-job bytes rest behind_it job fits is bar = record { fits = fits; text = is ∙ ap (λ xs. fixed_digits 7 job ++ xs) bar }

staged-parts : (bytes rest : List ℕ) (job other : ℕ) (name : List ℕ) → HasJob bytes job rest → IsStagedAs other name
    → codes ".stage_" ++ bytes ≡ staged_name other name → (job ≡ other) × (rest ≡ name)
staged-parts bytes rest job other name has staged e =
    let p = fixed-parts 7 job other (codes "_" ++ rest) (codes "_" ++ name) has.fits staged.0.1 (sym has.text ∙ staged-rest bytes other name e) in
    (p.0, ap (drop 1) p.1)

pub job-zero : (bytes rest : List ℕ) (job : ℕ) → HasJob bytes job rest → job ≡ 0 → NoStaged bytes
job-zero bytes rest job has is other name staged e =
    let p = staged-parts bytes rest job other name has staged e in
    let same : job ≡ other = p.0 in
    let some : 1 ≤ other = staged.0.0 in
    omega arith

pub no-made : (bytes rest : List ℕ) (job : ℕ) → HasJob bytes job rest → NoPlain rest → NoStaged bytes
no-made bytes rest job has none other name staged e =
    let p = staged-parts bytes rest job other name has staged e in
    none staged.1.0 staged.1.1 (p.1 ∙ staged.1.3)

pub not-compacted : (bytes rest : List ℕ) (job : ℕ) (made : DirName) → HasJob bytes job rest → IsPlain made → rest ≡ text_of made → is_compacted made ≡ false
    → NoStaged bytes
not-compacted bytes rest job made has plain is own other name staged e =
    let p = staged-parts bytes rest job other name has staged e in
    let same : made ≡ staged.1.0 =
    text-same made staged.1.0 (plain-name made plain) (plain-name staged.1.0 staged.1.1) (sym is ∙ p.1 ∙ staged.1.3) in
    true≢false (sym staged.1.2 ∙ ap is_compacted (sym same) ∙ own)

pub is-staged : (bytes rest : List ℕ) (job : ℕ) → HasJob bytes job rest → codes ".stage_" ++ bytes ≡ staged_name job rest
unfolding staged_name
is-staged bytes rest job has = ap (λ xs. codes ".stage_" ++ xs) has.text

-- ---- all names

pub no-stage : (text rest : List ℕ) → text ≡ codes ".stage_" ++ rest → NoStaged rest → (name : DirName) → IsName name → text_of name ≡ text → ⊥
unfolding letter
no-stage text rest is none (Base high) named e = apart _ _ 98 46 (base-first high.0) refl base-staged (e ∙ is)
no-stage text rest is none (Own deletes write statement) named e = apart _ _ 100 46 (own-first deletes write.0 statement) refl delta-staged (e ∙ is)
no-stage text rest is none (Wide deletes low high) named e = apart _ _ 100 46 (wide-first deletes low.0 high.0) refl delta-staged (e ∙ is)
no-stage text rest is none (Staged job name) named e = none job.0 name named (sym is ∙ sym e)

pub staged-utf8 : (job : ℕ) (name : List ℕ) → IsStagedAs job name → IsUtf8 name
staged-utf8 job name is = IsUtf8-from_ascii name (staged-ascii job name is)

pub every-staged : (text rest : List ℕ) (job : ℕ) (made got : List ℕ) → text ≡ codes ".stage_" ++ rest → IsStagedAs job made
    → codes ".stage_" ++ rest ≡ staged_name job made → got ≡ made
    → (name : DirName) → IsName name → text_of name ≡ text → Some (Staged (record { 0 = job }) got) ≡ Some name
every-staged text rest job made got is staged spelled same name named e =
    let there : Staged (record { 0 = job }) made ≡ name =
    text-same (Staged (record { 0 = job }) made) name staged named (sym spelled ∙ sym is ∙ sym e) in
    ap Some (ap (Staged (record { 0 = job })) same ∙ there)

pub every-plain : (text : List ℕ) (r : Option DirName) → Bare (codes ".stage_") text → IfSome r (λ name. IsPlain name × (text ≡ text_of name)) → IfNone r (NoPlain text)
    → (name : DirName) → IsName name → text_of name ≡ text → r ≡ Some name
unfolding staged_name
every-plain text (Some found) bare plain none name named e =
    ap Some (text-same found name (plain-name found plain.0) named (sym plain.1 ∙ sym e))
every-plain text None bare plain none (Base high) named e = absurd (none (Base high) named (sym e))
every-plain text None bare plain none (Own deletes write statement) named e = absurd (none (Own deletes write statement) named (sym e))
every-plain text None bare plain none (Wide deletes low high) named e = absurd (none (Wide deletes low high) named (sym e))
every-plain text None bare plain none (Staged job name) named e = absurd (bare (fixed_digits 7 job.0 ++ (codes "_" ++ name)) (sym e))
