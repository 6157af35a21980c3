-- Counts of events, and the greatest of numbers.
use Rattle.std.proofs.Common.{◌≡◌, ℕ, suc, ◌+◌, ◌<◌, ◌≤◌, Bool, true, false, List, [], ◌∷◌, map, filter, refl, sym, ap, subst, arith, true≢false, eqb-true}
use Rattle.std.specs.Prelude.{if◌then◌else◌, ◌&&◌, ◌||◌, ◌==◌, nat_lt, nat_le}
use Rattle.std.specs.List.{list_any, AllByRecursion}
use Rattle.std.proofs.lemmas.Bool.{and_parts, or_left, or_right, eq-eqb, ltb-true, ltb-false, leb-true, leb-false}
use Rattle.hv_history.specs.Legal.{one_if}
use Rattle.hv_history.specs.Jobs.{Events, larger, greatest, write_of, is_up_to, is_above, is_between, count_if, pieces_of, first_above}
use Rattle.hv_law_jobs.specs.Sound.{is_of_write}

pub larger-left : (a b : ℕ) → a ≤ larger a b
larger-left a b = by (nat_lt a b) refl
  where
    by : (c : Bool) → nat_lt a b ≡ c → a ≤ (if c then b else a)
    by true is = let less = ltb-true a b is in omega (arith, less)
    by false is = omega arith

pub larger-right : (a b : ℕ) → b ≤ larger a b
larger-right a b = by (nat_lt a b) refl
  where
    by : (c : Bool) → nat_lt a b ≡ c → b ≤ (if c then b else a)
    by true is = omega arith
    by false is = ltb-false a b is

pub larger-below : (a b top : ℕ) → a < top → b < top → larger a b < top
larger-below a b top first second = by (nat_lt a b)
  where
    by : (c : Bool) → (if c then b else a) < top
    by true = second
    by false = first

pub greatest-below : (top : ℕ) (ns : List ℕ) → 0 < top → AllByRecursion (λ n. n < top) ns → greatest ns < top
greatest-below top [] some all = some
greatest-below top (n ∷ ns) some all = larger-below n (greatest ns) top all.0 (greatest-below top ns some all.1)

pub each-most : (ns : List ℕ) → AllByRecursion (λ n. n ≤ greatest ns) ns
each-most [] = tt
each-most (n ∷ ns) = (larger-left n (greatest ns), rest ns (each-most ns))
  where
    rest : (ms : List ℕ) → AllByRecursion (λ m. m ≤ greatest ns) ms → AllByRecursion (λ m. m ≤ larger n (greatest ns)) ms
    rest [] all = tt
    rest (m ∷ ms) all = (let first = all.0 in let next = larger-right n (greatest ns) in omega (arith, first, next), rest ms all.1)

-- ---- events

pub any-filter : (p q : Events → Bool) (es : List Events) → list_any p (filter q es) ≡ true → list_any p es ≡ true
any-filter p q [] any = any
any-filter p q (e ∷ es) any = by (any-filter p q es) (q e) any
  where
    by : (list_any p (filter q es) ≡ true → list_any p es ≡ true) → (b : Bool) → list_any p (if b then e ∷ filter q es else filter q es) ≡ true → (p e || list_any p es) ≡ true
    by rest true any = with_first (p e) any
      where
        with_first : (c : Bool) → (c || list_any p (filter q es)) ≡ true → (c || list_any p es) ≡ true
        with_first true any = refl
        with_first false any = rest any
    by rest false any = or_right (p e) (list_any p es) (rest any)

-- one that is counted is above what its test is above of
pub counted-above : (test : Events → Bool) (low : ℕ) → ((e : Events) → test e ≡ true → low < e.write) → (es : List Events) → 0 < count_if test es
    → low < greatest (map write_of es)
counted-above test low above [] some = absurd (omega (arith, some))
counted-above test low above (e ∷ es) some = by (counted-above test low above es) (test e) refl
  where
    by : (0 < count_if test es → low < greatest (map write_of es)) → (c : Bool) → test e ≡ c → low < larger e.write (greatest (map write_of es))
    by behind true is = let first = above e is in let more = larger-left e.write (greatest (map write_of es)) in omega (arith, first, more)
    by behind false is =
        let none : one_if (test e) ≡ 0 = ap one_if is in
        let rest = behind (omega (arith, some, none)) in
        let more = larger-right e.write (greatest (map write_of es)) in
        omega (arith, rest, more)

pub counted-any : (test : Events → Bool) (es : List Events) → list_any test es ≡ true → 0 < count_if test es
counted-any test [] any = absurd (true≢false (sym any))
counted-any test (e ∷ es) any = by (counted-any test es) (test e) any
  where
    by : (list_any test es ≡ true → 0 < count_if test es) → (c : Bool) → (c || list_any test es) ≡ true → 0 < one_if c + count_if test es
    by rest true any = omega arith
    by rest false any = let some = rest any in omega (arith, some)

-- the greatest one is there
pub greatest-there : (es : List Events) → 0 < greatest (map write_of es) → list_any (is_of_write (greatest (map write_of es))) es ≡ true
greatest-there [] some = absurd (omega (arith, some))
greatest-there (e ∷ es) some = by (greatest-there es) (nat_lt e.write rest) refl
  where
    rest : ℕ
    rest = greatest (map write_of es)

    by : (0 < rest → list_any (is_of_write rest) es ≡ true) → (c : Bool) → nat_lt e.write rest ≡ c → list_any (is_of_write (larger e.write rest)) (e ∷ es) ≡ true
    by behind true is =
        let most : larger e.write rest ≡ rest = ap (λ d. if d then rest else e.write) is in
        let less = ltb-true e.write rest is in
        subst (λ n. list_any (is_of_write n) (e ∷ es) ≡ true) (sym most) (or_right (e.write == rest) (list_any (is_of_write rest) es) (behind (omega (arith, less))))
    by behind false is =
        let most : larger e.write rest ≡ e.write = ap (λ d. if d then rest else e.write) is in
        subst (λ n. list_any (is_of_write n) (e ∷ es) ≡ true) (sym most) (or_left (e.write == e.write) (list_any (is_of_write e.write) es) (eq-eqb e.write e.write refl))

pub marked-most : (mark : ℕ) (es : List Events) → greatest (map write_of (filter (is_up_to mark) es)) ≤ mark
marked-most mark [] = omega arith
marked-most mark (e ∷ es) = by (nat_le e.write mark) refl (marked-most mark es)
  where
    by : (c : Bool) → nat_le e.write mark ≡ c → greatest (map write_of (filter (is_up_to mark) es)) ≤ mark
        → greatest (map write_of (if c then e ∷ filter (is_up_to mark) es else filter (is_up_to mark) es)) ≤ mark
    by true is rest =
        let first = leb-true e.write mark is in
        let below = larger-below e.write (greatest (map write_of (filter (is_up_to mark) es))) (suc mark) (omega (arith, first)) (omega (arith, rest)) in
        omega (arith, below)
    by false is rest = rest

-- one of that write id, up to the mark, is at most the greatest one
pub there-most : (write mark : ℕ) (es : List Events) → write ≤ mark → list_any (is_of_write write) es ≡ true
    → write ≤ greatest (map write_of (filter (is_up_to mark) es))
there-most write mark [] up any = absurd (true≢false (sym any))
there-most write mark (e ∷ es) up any = by (there-most write mark es up) (nat_le e.write mark) refl (e.write == write) refl any
  where
    rest : ℕ
    rest = greatest (map write_of (filter (is_up_to mark) es))

    by : (list_any (is_of_write write) es ≡ true → write ≤ rest) → (c : Bool) → nat_le e.write mark ≡ c → (d : Bool) → (e.write == write) ≡ d → (d || list_any (is_of_write write) es) ≡ true
        → write ≤ greatest (map write_of (if c then e ∷ filter (is_up_to mark) es else filter (is_up_to mark) es))
    by behind true here true is any = let same = eqb-true e.write write is in let first = larger-left e.write rest in omega (arith, same, first)
    by behind true here false is any = let more = behind any in let next = larger-right e.write rest in omega (arith, more, next)
    by behind false here true is any = let same = eqb-true e.write write is in let beyond = leb-false e.write mark here in absurd (omega (arith, same, beyond, up))
    by behind false here false is any = behind any

-- ---- pieces: where there are some, there is an event above the base; where there are two of a kind, one above all that was merged

fresh-above : (compacted : ℕ) (test : Events → Bool) (e : Events) → (is_above compacted e && test e) ≡ true → compacted < e.write
fresh-above compacted test e is = ltb-true compacted e.write (and_parts (is_above compacted e) (test e) is).0

merged-above : (base compacted : ℕ) (test : Events → Bool) (e : Events) → (is_between base compacted e && test e) ≡ true → base < e.write
merged-above base compacted test e is =
    ltb-true base e.write (and_parts (nat_lt base e.write) (nat_le e.write compacted) (and_parts (is_between base compacted e) (test e) is).0).0

one-most : (b : Bool) → one_if b ≤ 1
one-most true = omega arith
one-most false = omega arith

pub two-pieces : (test : Events → Bool) (base compacted : ℕ) (es : List Events) → 1 < pieces_of test base compacted es → compacted < greatest (map write_of es)
two-pieces test base compacted es two =
    let most = one-most (list_any (λ (e : Events). is_between base compacted e && test e) es) in
    counted-above (λ (e : Events). is_above compacted e && test e) compacted (fresh-above compacted test) es (omega (arith, two, most))

pub some-piece : (test : Events → Bool) (base compacted : ℕ) (es : List Events) → base ≤ compacted → 0 < pieces_of test base compacted es → base < greatest (map write_of es)
some-piece test base compacted es below some = by (list_any (λ (e : Events). is_between base compacted e && test e) es) refl
  where
    by : (b : Bool) → list_any (λ (e : Events). is_between base compacted e && test e) es ≡ b → base < greatest (map write_of es)
    by true is =
        counted-above (λ (e : Events). is_between base compacted e && test e) base (merged-above base compacted test) es
        (counted-any (λ (e : Events). is_between base compacted e && test e) es is)
    by false is =
        let none : one_if (list_any (λ (e : Events). is_between base compacted e && test e) es) ≡ 0 = ap one_if is in
        let above = counted-above (λ (e : Events). is_above compacted e && test e) compacted (fresh-above compacted test) es (omega (arith, some, none)) in
        omega (arith, above, below)

-- ---- the first one above a number

pub first-within : (base : ℕ) (es : List Events) → base < greatest (map write_of es)
    → (base < first_above base es) × (first_above base es ≤ greatest (map write_of es))
first-within base [] some = absurd (omega (arith, some))
first-within base (e ∷ es) some = by (first-within base es) (nat_lt base e.write) refl
  where
    rest : ℕ
    rest = greatest (map write_of es)

    by : (base < rest → (base < first_above base es) × (first_above base es ≤ rest)) → (c : Bool) → nat_lt base e.write ≡ c
        → (base < (if c then e.write else first_above base es)) × ((if c then e.write else first_above base es) ≤ larger e.write rest)
    by behind true is = (ltb-true base e.write is, larger-left e.write rest)
    by behind false is =
        let low = ltb-false base e.write is in
        let beyond : base < rest = with_larger (nat_lt e.write rest) refl some low in
        let more = behind beyond in
        let next = larger-right e.write rest in
        let within = more.1 in
        (more.0, omega (arith, within, next))
      where
        with_larger : (d : Bool) → nat_lt e.write rest ≡ d → base < larger e.write rest → e.write ≤ base → base < rest
        with_larger true is some low = let less = subst (λ d. base < (if d then rest else e.write)) is some in less
        with_larger false is some low = let less = subst (λ d. base < (if d then rest else e.write)) is some in absurd (omega (arith, less, low))
