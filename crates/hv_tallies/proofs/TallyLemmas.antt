-- What folds over events come to: counts, whether one is there, the greatest write id and the least one; and that the same is said of a list of events
-- up to the mark. So events in any order come to the same.
use Rattle.std.proofs.Common.{◌≡◌, ℕ, ◌+◌, ◌≤◌, Bool, true, false, Option, Some, None, List, [], ◌∷◌, length, map, filter, fold, refl, sym, ap, ◌∙◌, arith, true≢false}
use Rattle.std.specs.Prelude.{if◌then◌else◌, ◌&&◌, ◌||◌, nat_lt, nat_le}
use Rattle.std.specs.List.{list_any}
use Rattle.std.proofs.lemmas.Bool.{lt-ltb, ltb-true, ltb-false, le-leb, leb-true, le-ltb}
use Rattle.hv_jobs.specs.hv_history.specs.Legal.{one_if}
use Rattle.hv_jobs.specs.hv_history.specs.Jobs.{Events, larger, greatest, write_of, is_up_to, is_above, is_between, count_if}
use Rattle.hv_earlier.specs.hv_meta.specs.hv_book.specs.Past.{total}
use Rattle.hv_tallies.specs.declared.tally.Reach.{Reach}
use Rattle.hv_tallies.specs.Tallies.{least, one_more, first_if}
use Rattle.hv_tallies.proofs.EventLemmas.{stepped}

-- one event that is up to the mark and passes
abbrev pub counts : ℕ → (Events → Bool) → Events → ℕ
counts mark test e = one_if (is_up_to mark e && test e)

-- ---- counts

abbrev pub count_step : ℕ → (Events → Bool) → ℕ → Events → ℕ
count_step given test n e = one_more given (test e) n

pub count-exact : (reach : Reach) (test : Events → Bool) (es : List Events) (n : ℕ) → n + total (counts reach.mark test) es ≤ reach.given
    → fold (stepped (count_step reach.given test) reach) n es ≡ n + total (counts reach.mark test) es
count-exact reach test [] n few = omega arith
count-exact reach test (e ∷ es) n few = by (count-exact reach test es) (is_up_to reach.mark e) (test e) refl refl
  where
    rest : ((m : ℕ) → m + total (counts reach.mark test) es ≤ reach.given → fold (stepped (count_step reach.given test) reach) m es ≡ m + total (counts reach.mark test) es)
        → (m : ℕ) → m + total (counts reach.mark test) es ≤ reach.given → stepped (count_step reach.given test) reach n e ≡ m
        → fold (stepped (count_step reach.given test) reach) (stepped (count_step reach.given test) reach n e) es ≡ m + total (counts reach.mark test) es
    rest behind m enough is = ap (λ k. fold (stepped (count_step reach.given test) reach) k es) is ∙ behind m enough

    by : ((m : ℕ) → m + total (counts reach.mark test) es ≤ reach.given → fold (stepped (count_step reach.given test) reach) m es ≡ m + total (counts reach.mark test) es)
        → (b c : Bool) → is_up_to reach.mark e ≡ b → test e ≡ c
        → fold (stepped (count_step reach.given test) reach) (stepped (count_step reach.given test) reach n e) es ≡ n + (counts reach.mark test e + total (counts reach.mark test) es)
    by behind true true up passes =
        let one : counts reach.mark test e ≡ 1 = λ i. one_if (up i && passes i) in
        let room : nat_lt n reach.given ≡ true = lt-ltb n reach.given (omega (arith, few, one)) in
        let is : stepped (count_step reach.given test) reach n e ≡ n + 1 =
        λ i. if up i then (if passes i && room i then n + 1 else n) else n in
        rest behind (n + 1) (omega (arith, few, one)) is ∙ omega (arith, one)
    by behind true false up fails =
        let none : counts reach.mark test e ≡ 0 = λ i. one_if (up i && fails i) in
        let is : stepped (count_step reach.given test) reach n e ≡ n = λ i. if up i then (if fails i && nat_lt n reach.given then n + 1 else n) else n in
        rest behind n (omega (arith, few, none)) is ∙ omega (arith, none)
    by behind false c beyond passes =
        let none : counts reach.mark test e ≡ 0 = λ i. one_if (beyond i && test e) in
        let is : stepped (count_step reach.given test) reach n e ≡ n = λ i. if beyond i then one_more reach.given (test e) n else n in
        rest behind n (omega (arith, few, none)) is ∙ omega (arith, none)

-- ---- whether one is there

abbrev pub any_step : (Events → Bool) → Bool → Events → Bool
any_step test b e = b || test e

any-true : (reach : Reach) (test : Events → Bool) (es : List Events) → fold (stepped (any_step test) reach) true es ≡ true
any-true reach test [] = refl
any-true reach test (e ∷ es) = by (any-true reach test es) (is_up_to reach.mark e)
  where
    by : fold (stepped (any_step test) reach) true es ≡ true → (b : Bool) → fold (stepped (any_step test) reach) (if b then true else true) es ≡ true
    by rest true = rest
    by rest false = rest

pub some-more : (k n : ℕ) → k ≡ 1 → nat_lt 0 (k + n) ≡ true
some-more k n one = lt-ltb 0 (k + n) (omega (arith, one))

pub none-more : (k n : ℕ) → k ≡ 0 → nat_lt 0 (k + n) ≡ nat_lt 0 n
none-more k n none = ap (nat_lt 0) (omega (arith, none))

pub any-exact : (reach : Reach) (test : Events → Bool) (es : List Events)
    → fold (stepped (any_step test) reach) false es ≡ nat_lt 0 (total (counts reach.mark test) es)
any-exact reach test [] = refl
any-exact reach test (e ∷ es) = by (any-exact reach test es) (is_up_to reach.mark e) (test e) refl refl
  where
    k : ℕ
    k = counts reach.mark test e

    n : ℕ
    n = total (counts reach.mark test) es

    by : fold (stepped (any_step test) reach) false es ≡ nat_lt 0 n → (b c : Bool) → is_up_to reach.mark e ≡ b → test e ≡ c → fold (stepped (any_step test) reach) (if is_up_to reach.mark e then test e else false) es ≡ nat_lt 0 (k + n)
    by rest true true up passes =
        let one : k ≡ 1 = λ i. one_if (up i && passes i) in
        (λ i. fold (stepped (any_step test) reach) (if up i then passes i else false) es) ∙ any-true reach test es ∙ sym (some-more k n one)
    by rest true false up fails =
        let none : k ≡ 0 = λ i. one_if (up i && fails i) in
        (λ i. fold (stepped (any_step test) reach) (if up i then fails i else false) es) ∙ rest ∙ sym (none-more k n none)
    by rest false c beyond passes =
        let none : k ≡ 0 = λ i. one_if (beyond i && test e) in
        (λ i. fold (stepped (any_step test) reach) (if beyond i then test e else false) es) ∙ rest ∙ sym (none-more k n none)

-- ---- the greatest write id: what is below it

-- two numbers that have the same below them are one
pub same-below : (m n : ℕ) → ((b : ℕ) → nat_lt b m ≡ nat_lt b n) → m ≡ n
same-below m n same = by (nat_lt m n) (nat_lt n m) refl refl
  where
    by : (b c : Bool) → nat_lt m n ≡ b → nat_lt n m ≡ c → m ≡ n
    by true c less is = let less_than = ltb-true m m (same m ∙ less) in absurd (omega (arith, less_than))
    by false true less more = let less_than = ltb-true n n (sym (same n) ∙ more) in absurd (omega (arith, less_than))
    by false false less more = let a = ltb-false m n less in let b = ltb-false n m more in omega (arith, a, b)

absorbed : (x y : Bool) → (y ≡ true → x ≡ true) → x ≡ (x || y)
absorbed true y gives = refl
absorbed false true gives = gives refl
absorbed false false gives = refl

overtaken : (x y : Bool) → (x ≡ true → y ≡ true) → y ≡ (x || y)
overtaken true y gives = gives refl
overtaken false y gives = refl

pub below-larger : (b m n : ℕ) → nat_lt b (larger m n) ≡ (nat_lt b m || nat_lt b n)
below-larger b m n = by (nat_lt m n) refl
  where
    by : (c : Bool) → nat_lt m n ≡ c → nat_lt b (if c then n else m) ≡ (nat_lt b m || nat_lt b n)
    by true less = overtaken (nat_lt b m) (nat_lt b n) (λ e. let first = ltb-true b m e in let second = ltb-true m n less in lt-ltb b n (omega (arith, first, second)))
    by false more = absorbed (nat_lt b m) (nat_lt b n) (λ e. let first = ltb-true b n e in let second = ltb-false m n more in lt-ltb b m (omega (arith, first, second)))

abbrev pub high_step : ℕ → Events → ℕ
high_step high e = larger high e.write

or-assoc : (x y z : Bool) → ((x || y) || z) ≡ (x || (y || z))
or-assoc true y z = refl
or-assoc false y z = refl

-- one that is counted, or one behind it
counted-or : (reach : Reach) (test : Events → Bool) (e : Events) (es : List Events) → (b : Bool) → is_up_to reach.mark e ≡ b
    → nat_lt 0 (total (counts reach.mark test) (e ∷ es)) ≡ ((b && test e) || nat_lt 0 (total (counts reach.mark test) es))
counted-or reach test e es true up = by (test e) refl
  where
    by : (c : Bool) → test e ≡ c → nat_lt 0 (total (counts reach.mark test) (e ∷ es)) ≡ (c || nat_lt 0 (total (counts reach.mark test) es))
    by true passes = some-more (counts reach.mark test e) (total (counts reach.mark test) es) (λ i. one_if (up i && passes i))
    by false fails = none-more (counts reach.mark test e) (total (counts reach.mark test) es) (λ i. one_if (up i && fails i))
counted-or reach test e es false beyond = none-more (counts reach.mark test e) (total (counts reach.mark test) es) (λ i. one_if (beyond i && test e))

pub high-exact : (reach : Reach) (b : ℕ) (es : List Events) (high : ℕ)
    → nat_lt b (fold (stepped high_step reach) high es) ≡ (nat_lt b high || nat_lt 0 (total (counts reach.mark (is_above b)) es))
high-exact reach b [] high = absorbed (nat_lt b high) (nat_lt 0 0) (λ e. absurd (true≢false (sym e)))
high-exact reach b (e ∷ es) high = by (high-exact reach b es) (is_up_to reach.mark e) refl
  where
    by : ((h : ℕ) → nat_lt b (fold (stepped high_step reach) h es) ≡ (nat_lt b h || nat_lt 0 (total (counts reach.mark (is_above b)) es)))
        → (c : Bool) → is_up_to reach.mark e ≡ c → nat_lt b (fold (stepped high_step reach) (if c then larger high e.write else high) es)
        ≡ (nat_lt b high || nat_lt 0 (total (counts reach.mark (is_above b)) (e ∷ es)))
    by behind true up =
        let rest = total (counts reach.mark (is_above b)) es in
        behind (larger high e.write) ∙ ap (λ x. x || nat_lt 0 rest) (below-larger b high e.write)
        ∙ or-assoc (nat_lt b high) (nat_lt b e.write) (nat_lt 0 rest)
        ∙ ap (λ x. nat_lt b high || x) (sym (counted-or reach (is_above b) e es true up))
    by behind false beyond = behind high ∙ ap (λ x. nat_lt b high || x) (sym (counted-or reach (is_above b) e es false beyond))

-- ---- the least one: what isn't below it

abbrev pub reaches : Option ℕ → ℕ → Bool
reaches None b = false
reaches (Some n) b = nat_le n b

abbrev pub first_step : ℕ → Option ℕ → Events → Option ℕ
first_step base first e = first_if (is_above base e) e.write first

pub least-reaches : (o : Option ℕ) (n b : ℕ) → reaches (least o n) b ≡ (reaches o b || nat_le n b)
least-reaches None n b = refl
least-reaches (Some m) n b = by (nat_lt n m) refl
  where
    by : (c : Bool) → nat_lt n m ≡ c → reaches (if c then Some n else Some m) b ≡ (nat_le m b || nat_le n b)
    by true less = overtaken (nat_le m b) (nat_le n b) (λ e. let first = leb-true m b e in let second = ltb-true n m less in le-leb n b (omega (arith, first, second)))
    by false more = absorbed (nat_le m b) (nat_le n b) (λ e. let first = leb-true n b e in let second = ltb-false n m more in le-leb m b (omega (arith, first, second)))

first-reaches : (base : ℕ) (o : Option ℕ) (e : Events) (b : ℕ) → reaches (first_step base o e) b ≡ (reaches o b || is_between base b e)
first-reaches base o e b = by (is_above base e)
  where
    by : (c : Bool) → reaches (if c then least o e.write else o) b ≡ (reaches o b || (c && nat_le e.write b))
    by true = least-reaches o e.write b
    by false = absorbed (reaches o b) false (λ e. absurd (true≢false (sym e)))

pub first-exact : (reach : Reach) (base b : ℕ) (es : List Events) (o : Option ℕ)
    → reaches (fold (stepped (first_step base) reach) o es) b ≡ (reaches o b || nat_lt 0 (total (counts reach.mark (is_between base b)) es))
first-exact reach base b [] o = absorbed (reaches o b) (nat_lt 0 0) (λ e. absurd (true≢false (sym e)))
first-exact reach base b (e ∷ es) o = by (first-exact reach base b es) (is_up_to reach.mark e) refl
  where
    by : ((p : Option ℕ) → reaches (fold (stepped (first_step base) reach) p es) b ≡ (reaches p b || nat_lt 0 (total (counts reach.mark (is_between base b)) es)))
        → (c : Bool) → is_up_to reach.mark e ≡ c → reaches (fold (stepped (first_step base) reach) (if c then first_step base o e else o) es) b
        ≡ (reaches o b || nat_lt 0 (total (counts reach.mark (is_between base b)) (e ∷ es)))
    by behind true up =
        let rest = total (counts reach.mark (is_between base b)) es in
        behind (first_step base o e) ∙ ap (λ x. x || nat_lt 0 rest) (first-reaches base o e b)
        ∙ or-assoc (reaches o b) (is_between base b e) (nat_lt 0 rest)
        ∙ ap (λ x. reaches o b || x) (sym (counted-or reach (is_between base b) e es true up))
    by behind false beyond = behind o ∙ ap (λ x. reaches o b || x) (sym (counted-or reach (is_between base b) e es false beyond))

-- two of which the same is reached are one
pub same-reach : (o p : Option ℕ) → ((b : ℕ) → reaches o b ≡ reaches p b) → o ≡ p
same-reach None None same = refl
same-reach None (Some n) same = absurd (true≢false (sym (le-leb n n (omega arith)) ∙ sym (same n)))
same-reach (Some m) None same = absurd (true≢false (sym (le-leb m m (omega arith)) ∙ same m))
same-reach (Some m) (Some n) same =
    let first = leb-true n m (sym (same m) ∙ le-leb m m (omega arith)) in
    let second = leb-true m n (same n ∙ le-leb n n (omega arith)) in
    ap Some (omega (arith, first, second))

-- ---- the same of a list of events up to a mark

pub count-filtered : (mark : ℕ) (test : Events → Bool) (es : List Events) → count_if test (filter (is_up_to mark) es) ≡ total (counts mark test) es
count-filtered mark test [] = refl
count-filtered mark test (e ∷ es) = by (is_up_to mark e) (count-filtered mark test es)
  where
    by : (b : Bool) → count_if test (filter (is_up_to mark) es) ≡ total (counts mark test) es
        → count_if test (if b then e ∷ filter (is_up_to mark) es else filter (is_up_to mark) es) ≡ one_if (b && test e) + total (counts mark test) es
    by true rest = ap (λ n. one_if (test e) + n) rest
    by false rest = omega (arith, rest)

pub any-filtered : (mark : ℕ) (test : Events → Bool) (es : List Events) → list_any test (filter (is_up_to mark) es) ≡ nat_lt 0 (total (counts mark test) es)
any-filtered mark test [] = refl
any-filtered mark test (e ∷ es) = by (any-filtered mark test es) (is_up_to mark e)
  where
    here : list_any test (filter (is_up_to mark) es) ≡ nat_lt 0 (total (counts mark test) es)
        → (d : Bool) → (d || list_any test (filter (is_up_to mark) es)) ≡ nat_lt 0 (one_if d + total (counts mark test) es)
    here rest true = sym (some-more 1 (total (counts mark test) es) refl)
    here rest false = rest ∙ sym (none-more 0 (total (counts mark test) es) refl)

    by : list_any test (filter (is_up_to mark) es) ≡ nat_lt 0 (total (counts mark test) es)
        → (b : Bool) → list_any test (if b then e ∷ filter (is_up_to mark) es else filter (is_up_to mark) es)
        ≡ nat_lt 0 (one_if (b && test e) + total (counts mark test) es)
    by rest true = here rest (test e)
    by rest false = rest ∙ sym (none-more 0 (total (counts mark test) es) refl)

below-greatest : (b : ℕ) (xs : List Events) → nat_lt b (greatest (map write_of xs)) ≡ list_any (is_above b) xs
below-greatest b [] = le-ltb b 0 (omega arith)
below-greatest b (x ∷ xs) = below-larger b x.write (greatest (map write_of xs)) ∙ ap (λ y. nat_lt b x.write || y) (below-greatest b xs)

pub high-filtered : (mark b : ℕ) (es : List Events)
    → nat_lt b (greatest (map write_of (filter (is_up_to mark) es))) ≡ nat_lt 0 (total (counts mark (is_above b)) es)
high-filtered mark b es = below-greatest b (filter (is_up_to mark) es) ∙ any-filtered mark (is_above b) es

-- ---- few

abbrev pub EachOnce : (Events → Bool) → (Events → Bool) → Type 0
EachOnce p q = (e : Events) → p e ≡ true → q e ≡ true → ⊥

one-of : (p q : Events → Bool) → EachOnce p q → (mark : ℕ) (e : Events) → counts mark p e + counts mark q e ≤ 1
one-of p q apart mark e = by (is_up_to mark e) (p e) (q e) refl refl
  where
    by : (b c d : Bool) → p e ≡ c → q e ≡ d → one_if (b && c) + one_if (b && d) ≤ 1
    by false c d x y = omega arith
    by true false false x y = omega arith
    by true true false x y = omega arith
    by true false true x y = omega arith
    by true true true x y = absurd (apart e x y)

pub few-counted : (p q : Events → Bool) → EachOnce p q → (mark : ℕ) (es : List Events) → total (counts mark p) es + total (counts mark q) es ≤ length es
few-counted p q apart mark [] = omega arith
few-counted p q apart mark (e ∷ es) =
    let one = one-of p q apart mark e in
    let rest = few-counted p q apart mark es in
    omega (arith, one, rest)

-- above all that was merged, or merged above a base, and of one kind
abbrev pub fresh : ℕ → (Events → Bool) → Events → Bool
fresh compacted test e = is_above compacted e && test e

abbrev pub merged : ℕ → ℕ → (Events → Bool) → Events → Bool
merged base compacted test e = is_between base compacted e && test e
