-- The names of directories: they are ASCII, and two write ids have two names.
use Rattle.std.proofs.Common.{◌≡◌, ℕ, ◌<◌, List, ◌++◌, take, drop, length, codes, sym, ap, ◌∙◌, append_assoc, subst, rules}
use Rattle.std.specs.Str.{IsAscii, IsUtf8}
use Rattle.std.proofs.lemmas.Str.{IsAscii-append, IsUtf8-from_ascii}
use Rattle.std.proofs.lemmas.Str.Ascii.{IsAscii-from_all}
use Rattle.std.proofs.lemmas.Fmt.{IsAscii-from_digits}
use Rattle.std.proofs.Math.Seq.{take-append_seam}
use Rattle.hv_table.specs.Decimal.{fixed_digits}
use Rattle.hv_table.proofs.DecimalLemmas.{fixed_digits-same, length-fixed_digits, AllDigits-fixed_digits}
use Rattle.hv_dirs.specs.Names.{own_name, write_end}

pub digits_ascii : (width number : ℕ) → IsAscii (fixed_digits width number)
digits_ascii width number = IsAscii-from_digits (fixed_digits width number) (AllDigits-fixed_digits width number)

pub delta_ascii : IsAscii (codes "delta_")
delta_ascii = IsAscii-from_all (codes "delta_") (search rules)

pub bar_ascii : IsAscii (codes "_")
bar_ascii = IsAscii-from_all (codes "_") (search rules)

-- the name behind its first word, and behind its first number
abbrev pub behind : ℕ → ℕ → List ℕ
behind write statement = codes "_" ++ (fixed_digits 7 write ++ (codes "_" ++ fixed_digits 4 statement))

behind_ascii : (write statement : ℕ) → IsAscii (behind write statement)
behind_ascii write statement =
    IsAscii-append (codes "_") (fixed_digits 7 write ++ (codes "_" ++ fixed_digits 4 statement)) bar_ascii
    (IsAscii-append (fixed_digits 7 write) (codes "_" ++ fixed_digits 4 statement) (digits_ascii 7 write)
    (IsAscii-append (codes "_") (fixed_digits 4 statement) bar_ascii (digits_ascii 4 statement)))

assoc : (a b c d e f : List ℕ) → a ++ b ++ c ++ d ++ e ++ f ≡ a ++ (b ++ (c ++ (d ++ (e ++ f))))
assoc a b c d e f = simp append_assoc

pub own_name-parts : (write statement : ℕ) → own_name write statement ≡ codes "delta_" ++ (fixed_digits 7 write ++ behind write statement)
unfolding own_name
own_name-parts write statement =
    assoc (codes "delta_") (fixed_digits 7 write) (codes "_") (fixed_digits 7 write) (codes "_") (fixed_digits 4 statement)

pub own_name-ascii : (write statement : ℕ) → IsAscii (own_name write statement)
own_name-ascii write statement =
    subst IsAscii (sym (own_name-parts write statement))
    (IsAscii-append (codes "delta_") (fixed_digits 7 write ++ behind write statement) delta_ascii
    (IsAscii-append (fixed_digits 7 write) (behind write statement) (digits_ascii 7 write) (behind_ascii write statement)))

pub own_name-utf8 : (write statement : ℕ) → IsUtf8 (own_name write statement)
own_name-utf8 write statement = IsUtf8-from_ascii _ (own_name-ascii write statement)

-- what stands first in equal texts, where it is as long
pub front-same : (a b c d : List ℕ) → length a ≡ length b → a ++ c ≡ b ++ d → a ≡ b
front-same a b c d long e =
    sym (take-append_seam a c) ∙ (λ i. take (long i) (e i)) ∙ take-append_seam b d

-- two write ids have two names
pub own_name-same : (write other statement last : ℕ) → write < write_end → other < write_end → own_name write statement ≡ own_name other last → write ≡ other
own_name-same write other statement last p q e =
    fixed_digits-same 7 write other p q
    (front-same (fixed_digits 7 write) (fixed_digits 7 other) (behind write statement) (behind other last)
    (length-fixed_digits 7 write ∙ sym (length-fixed_digits 7 other)) (ap (drop 6) (sym (own_name-parts write statement) ∙ e ∙ own_name-parts other last)))
