-- The texts of names: they are ASCII, and each is of one name at most.
use Rattle.std.proofs.Common.{refl, ◌≡◌, ℕ, ◌<◌, ◌≤◌, ◌^◌, Bool, true, false, List, [], ◌++◌, drop, take, length, get_or, codes, sym, ap, ◌∙◌, subst, arith, rules, true≢false}
use Rattle.std.specs.Str.{IsAscii, IsUtf8}
use Rattle.std.specs.Prelude.{nat_eq}
use Rattle.std.specs.Cmp.Lexicographic.{pointwise, nat_list_eq_equiv, same_text}
use Rattle.std.proofs.lemmas.Str.{IsAscii-append, IsUtf8-from_ascii}
use Rattle.std.proofs.lemmas.Str.Ascii.{IsAscii-from_all, IsAscii-nil}
use Rattle.std.proofs.lemmas.List.{append-nil, take-append-drop}
use Rattle.std.proofs.Math.Seq.{take-append_seam, drop-append_seam}
use Rattle.hv_table.specs.Decimal.{fixed_digits}
use Rattle.hv_table.proofs.DecimalLemmas.{fixed_digits-same, length-fixed_digits}
use Rattle.hv_dirs.specs.declared.names.DirName.{DirName}
use Rattle.hv_dirs.specs.declared.names.DirName.TheVariants.{Base, Own, Wide, Staged}
use Rattle.hv_dirs.specs.Names.{own_name, wide_name, base_name, staged_name, kind_mark, text_of, write_end, statement_end, IsRange, IsPlain, IsStagedAs, IsName}
use Rattle.hv_dirs.proofs.OwnNames.{digits_ascii, delta_ascii, bar_ascii, own_name-ascii, own_name-parts, behind, front-same}

-- ---- ASCII

base-ascii : (high : ℕ) → IsAscii (base_name high)
unfolding base_name
base-ascii high = IsAscii-append (codes "base_") (fixed_digits 7 high) (IsAscii-from_all (codes "base_") (search rules)) (digits_ascii 7 high)

wide-ascii : (low high : ℕ) → IsAscii (wide_name low high)
unfolding wide_name
wide-ascii low high =
    IsAscii-append (codes "delta_") (fixed_digits 7 low ++ (codes "_" ++ fixed_digits 7 high)) delta_ascii
    (IsAscii-append (fixed_digits 7 low) (codes "_" ++ fixed_digits 7 high) (digits_ascii 7 low)
    (IsAscii-append (codes "_") (fixed_digits 7 high) bar_ascii (digits_ascii 7 high)))

mark-ascii : (deletes : Bool) → IsAscii (kind_mark deletes)
mark-ascii true = IsAscii-from_all (codes "delete_") (search rules)
mark-ascii false = IsAscii-nil

pub plain-ascii : (name : DirName) → IsPlain name → IsAscii (text_of name)
plain-ascii (Base high) is = base-ascii high.0
plain-ascii (Own deletes write statement) is =
    IsAscii-append (kind_mark deletes) (own_name write.0 statement) (mark-ascii deletes) (own_name-ascii write.0 statement)
plain-ascii (Wide deletes low high) is =
    IsAscii-append (kind_mark deletes) (wide_name low.0 high.0) (mark-ascii deletes) (wide-ascii low.0 high.0)
plain-ascii (Staged job name) is = absurd is

pub staged-ascii : (job : ℕ) (name : List ℕ) → IsStagedAs job name → IsAscii name
staged-ascii job name is = subst IsAscii (sym is.1.3) (plain-ascii is.1.0 is.1.1)

pub text-ascii : (name : DirName) → IsName name → IsAscii (text_of name)
unfolding staged_name
text-ascii (Base high) is = plain-ascii (Base high) is
text-ascii (Own deletes write statement) is = plain-ascii (Own deletes write statement) is
text-ascii (Wide deletes low high) is = plain-ascii (Wide deletes low high) is
text-ascii (Staged job name) is =
    IsAscii-append (codes ".stage_") (fixed_digits 7 job.0 ++ (codes "_" ++ name)) (IsAscii-from_all (codes ".stage_") (search rules))
    (IsAscii-append (fixed_digits 7 job.0) (codes "_" ++ name) (digits_ascii 7 job.0)
    (IsAscii-append (codes "_") name bar_ascii (staged-ascii job.0 name is)))

pub text-utf8 : (name : DirName) → IsName name → IsUtf8 (text_of name)
text-utf8 name is = IsUtf8-from_ascii (text_of name) (text-ascii name is)

-- ---- what stands at the front

-- what a test of a front tells
pub unstripped : (p s : List ℕ) → pointwise nat_eq (take (length p) s) p ≡ false → (t : List ℕ) → s ≡ p ++ t → ⊥
unstripped p s none t e =
    let front : take (length p) s ≡ p = ap (take (length p)) e ∙ take-append_seam p t in
    true≢false (sym (nat_list_eq_equiv.refl p) ∙ ap (λ xs. pointwise nat_eq xs p) (sym front) ∙ none)

pub stripped : (p s t : List ℕ) → pointwise nat_eq (take (length p) s) p ≡ true → t ≡ drop (length p) s → s ≡ p ++ t
stripped p s t same behind_it =
    let front : take (length p) s ≡ p = same_text (take (length p) s) p (sym same) in
    sym (take-append-drop (length p) s) ∙ (λ i. front i ++ sym behind_it i)

-- numbers of one width at the front of equal texts
pub fixed-parts : (width a b : ℕ) (x y : List ℕ) → a < 10 ^ width → b < 10 ^ width → fixed_digits width a ++ x ≡ fixed_digits width b ++ y → (a ≡ b) × (x ≡ y)
fixed-parts width a b x y p q e =
    let long : length (fixed_digits width a) ≡ length (fixed_digits width b) = length-fixed_digits width a ∙ sym (length-fixed_digits width b) in (
      fixed_digits-same width a b p q (front-same (fixed_digits width a) (fixed_digits width b) x y long e),
      sym (drop-append_seam (fixed_digits width a) x) ∙ (λ i. drop (long i) (e i)) ∙ drop-append_seam (fixed_digits width b) y,
    )

-- the same where nothing stands behind the second
pub fixed-end : (width a b : ℕ) (x : List ℕ) → a < 10 ^ width → b < 10 ^ width → fixed_digits width a ++ x ≡ fixed_digits width b → (a ≡ b) × (x ≡ [])
fixed-end width a b x p q e = fixed-parts width a b x [] p q (e ∙ sym (append-nil (fixed_digits width b)))

unfoldable pub letter : ℕ → List ℕ → ℕ
letter place text = get_or text place 0

-- ---- deltas

abbrev pub own_rest : ℕ → ℕ → List ℕ
own_rest write statement = fixed_digits 7 write ++ behind write statement

abbrev pub wide_rest : ℕ → ℕ → List ℕ
wide_rest low high = fixed_digits 7 low ++ (codes "_" ++ fixed_digits 7 high)

pub own-text : (deletes : Bool) (write statement : ℕ) → kind_mark deletes ++ own_name write statement ≡ kind_mark deletes ++ (codes "delta_" ++ own_rest write statement)
own-text deletes write statement = ap (λ text. kind_mark deletes ++ text) (own_name-parts write statement)

pub wide-text : (deletes : Bool) (low high : ℕ) → kind_mark deletes ++ wide_name low high ≡ kind_mark deletes ++ (codes "delta_" ++ wide_rest low high)
unfolding wide_name
wide-text deletes low high = refl

pub kind-same : (a b : Bool) (x y : List ℕ) → kind_mark a ++ (codes "delta_" ++ x) ≡ kind_mark b ++ (codes "delta_" ++ y) → (a ≡ b) × (x ≡ y)
unfolding letter
kind-same true true x y e = (refl, ap (drop 13) e)
kind-same false false x y e = (refl, ap (drop 6) e)
kind-same true false x y e = absurd (let h : 101 ≡ 116 = ap (letter 3) e in omega arith)
kind-same false true x y e = absurd (let h : 116 ≡ 101 = ap (letter 3) e in omega arith)

pub own-not-wide : (write statement low high : ℕ) → write < write_end → low < write_end → high < write_end → own_rest write statement ≡ wide_rest low high → ⊥
unfolding letter
own-not-wide write statement low high p q r e =
    let one = fixed-parts 7 write low (behind write statement) (codes "_" ++ fixed_digits 7 high) p q e in
    let two = fixed-end 7 write high (codes "_" ++ fixed_digits 4 statement) p r (ap (drop 1) one.1) in
    let h : ◌≡◌ {A = ℕ} 95 0 = ap (letter 0) two.1 in
    omega arith

own-same : (write other statement last : ℕ) → write < write_end → other < write_end → statement < statement_end → last < statement_end
    → own_rest write statement ≡ own_rest other last → (write ≡ other) × (statement ≡ last)
own-same write other statement last p q r s e =
    let one = fixed-parts 7 write other (behind write statement) (behind other last) p q e in
    let two = fixed-parts 7 write other (codes "_" ++ fixed_digits 4 statement) (codes "_" ++ fixed_digits 4 last) p q (ap (drop 1) one.1) in
    (one.0, fixed_digits-same 4 statement last r s (ap (drop 1) two.1))

wide-same : (low other high last : ℕ) → low < write_end → other < write_end → high < write_end → last < write_end
    → wide_rest low high ≡ wide_rest other last → (low ≡ other) × (high ≡ last)
wide-same low other high last p q r s e =
    let one = fixed-parts 7 low other (codes "_" ++ fixed_digits 7 high) (codes "_" ++ fixed_digits 7 last) p q e in
    (one.0, fixed_digits-same 7 high last r s (ap (drop 1) one.1))

pub low-fits : (low high : ℕ) → IsRange low high → low < write_end
low-fits low high is = let a : low ≤ high = is.1 in let b : high < write_end = is.2 in omega arith

-- ---- first letters

pub base-first : (high : ℕ) → letter 0 (base_name high) ≡ 98
unfolding base_name letter
base-first high = refl

pub mark-first : (deletes : Bool) (text : List ℕ) → letter 0 (kind_mark deletes ++ (codes "delta_" ++ text)) ≡ 100
unfolding letter
mark-first true text = refl
mark-first false text = refl

pub own-first : (deletes : Bool) (write statement : ℕ) → letter 0 (kind_mark deletes ++ own_name write statement) ≡ 100
own-first deletes write statement = ap (letter 0) (own-text deletes write statement) ∙ mark-first deletes (own_rest write statement)

pub wide-first : (deletes : Bool) (low high : ℕ) → letter 0 (kind_mark deletes ++ wide_name low high) ≡ 100
wide-first deletes low high = ap (letter 0) (wide-text deletes low high) ∙ mark-first deletes (wide_rest low high)

pub staged-first : (job : ℕ) (name : List ℕ) → letter 0 (staged_name job name) ≡ 46
unfolding staged_name letter
staged-first job name = refl

pub apart : {A : Type 0} (x y : List ℕ) (a b : ℕ) → letter 0 x ≡ a → letter 0 y ≡ b → (a ≡ b → ⊥) → x ≡ y → A
apart x y a b p q other e = absurd (other (sym p ∙ ap (letter 0) e ∙ q))

pub base-delta : ◌≡◌ {A = ℕ} 98 100 → ⊥
base-delta e = omega arith

pub base-staged : ◌≡◌ {A = ℕ} 98 46 → ⊥
base-staged e = omega arith

pub delta-staged : ◌≡◌ {A = ℕ} 100 46 → ⊥
delta-staged e = omega arith

-- ---- one name at most

staged-same : (job other : ℕ) (name last : List ℕ) → job < write_end → other < write_end → staged_name job name ≡ staged_name other last → (job ≡ other) × (name ≡ last)
unfolding staged_name
staged-same job other name last p q e =
    let one = fixed-parts 7 job other (codes "_" ++ name) (codes "_" ++ last) p q (ap (drop 7) e) in
    (one.0, ap (drop 1) one.1)

base-same : (high last : ℕ) → high < write_end → last < write_end → base_name high ≡ base_name last → high ≡ last
unfolding base_name
base-same high last p q e = fixed_digits-same 7 high last p q (ap (drop 5) e)

pub text-same : (a b : DirName) → IsName a → IsName b → text_of a ≡ text_of b → a ≡ b
text-same (Base high) (Base last) p q e =
    let same = base-same high.0 last.0 p.1 q.1 e in
    λ i. Base (record { 0 = same i })
text-same (Base high) (Own deletes write statement) p q e = apart _ _ 98 100 (base-first high.0) (own-first deletes write.0 statement) base-delta e
text-same (Base high) (Wide deletes low last) p q e = apart _ _ 98 100 (base-first high.0) (wide-first deletes low.0 last.0) base-delta e
text-same (Base high) (Staged job name) p q e = apart _ _ 98 46 (base-first high.0) (staged-first job.0 name) base-staged e
text-same (Own deletes write statement) (Base high) p q e = apart _ _ 98 100 (base-first high.0) (own-first deletes write.0 statement) base-delta (sym e)
text-same (Wide deletes low last) (Base high) p q e = apart _ _ 98 100 (base-first high.0) (wide-first deletes low.0 last.0) base-delta (sym e)
text-same (Staged job name) (Base high) p q e = apart _ _ 98 46 (base-first high.0) (staged-first job.0 name) base-staged (sym e)
text-same (Own deletes write statement) (Staged job name) p q e = apart _ _ 100 46 (own-first deletes write.0 statement) (staged-first job.0 name) delta-staged e
text-same (Wide deletes low high) (Staged job name) p q e = apart _ _ 100 46 (wide-first deletes low.0 high.0) (staged-first job.0 name) delta-staged e
text-same (Staged job name) (Own deletes write statement) p q e = apart _ _ 100 46 (own-first deletes write.0 statement) (staged-first job.0 name) delta-staged (sym e)
text-same (Staged job name) (Wide deletes low high) p q e = apart _ _ 100 46 (wide-first deletes low.0 high.0) (staged-first job.0 name) delta-staged (sym e)
text-same (Staged job name) (Staged other last) p q e =
    let same = staged-same job.0 other.0 name last p.0.1 q.0.1 e in
    λ i. Staged (record { 0 = same.0 i }) (same.1 i)
text-same (Own deletes write statement) (Own kind other last) p q e =
    let k = kind-same deletes kind (own_rest write.0 statement) (own_rest other.0 last)
    (sym (own-text deletes write.0 statement) ∙ e ∙ own-text kind other.0 last) in
    let same = own-same write.0 other.0 statement last p.0.1 q.0.1 p.1 q.1 k.1 in
    λ i. Own (k.0 i) (record { 0 = same.0 i }) (same.1 i)
text-same (Wide deletes low high) (Wide kind other last) p q e =
    let k = kind-same deletes kind (wide_rest low.0 high.0) (wide_rest other.0 last.0)
    (sym (wide-text deletes low.0 high.0) ∙ e ∙ wide-text kind other.0 last.0) in
    let same = wide-same low.0 other.0 high.0 last.0 (low-fits low.0 high.0 p) (low-fits other.0 last.0 q) p.2 q.2 k.1 in
    λ i. Wide (k.0 i) (record { 0 = same.0 i }) (record { 0 = same.1 i })
text-same (Own deletes write statement) (Wide kind low high) p q e =
    let k = kind-same deletes kind (own_rest write.0 statement) (wide_rest low.0 high.0)
    (sym (own-text deletes write.0 statement) ∙ e ∙ wide-text kind low.0 high.0) in
    absurd (own-not-wide write.0 statement low.0 high.0 p.0.1 (low-fits low.0 high.0 q) q.2 k.1)
text-same (Wide kind low high) (Own deletes write statement) q p e =
    let k = kind-same deletes kind (own_rest write.0 statement) (wide_rest low.0 high.0)
    (sym (own-text deletes write.0 statement) ∙ sym e ∙ wide-text kind low.0 high.0) in
    absurd (own-not-wide write.0 statement low.0 high.0 p.0.1 (low-fits low.0 high.0 q) q.2 k.1)
