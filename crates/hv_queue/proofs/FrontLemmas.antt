-- The watermark: the least write id whose transaction is open says how many of a table's first ids have ended.
use Rattle.std.proofs.Common.{◌≡◌, ℕ, zero, suc, ◌+◌, ◌-◌, ◌<◌, ◌≤◌, Bool, true, false, Option, Some, None, List, [], ◌∷◌, length, fold, refl, sym, ap, ◌∙◌, arith, true≢false}
use Rattle.std.specs.Prelude.{if◌then◌else◌, ◌&&◌, ◌||◌, nat_lt, nat_le}
use Rattle.std.proofs.lemmas.Bool.{lt-ltb, ltb-true, ltb-false, le-leb, lt-leb, leb-true, leb-false, le-ltb}
use Rattle.hv_history.specs.declared.state.Transaction.{Transaction}
use Rattle.hv_history.specs.State.{State, numbered}
use Rattle.hv_history.specs.Legal.{one_if}
use Rattle.hv_history.specs.Jobs.{Events, is_up_to, is_open_one, events_at, ended_front, ids_of, watermark}
use Rattle.hv_ids.specs.declared.notes.IdNote.{IdNote}
use Rattle.hv_tallies.specs.hv_earlier.specs.hv_meta.specs.hv_book.specs.Past.{total, total_from}
use Rattle.hv_tallies.specs.declared.tally.Reach.{Reach}
use Rattle.hv_tallies.specs.declared.tally.Tally.{Tally}
use Rattle.hv_tallies.specs.Tallies.{no_tally, noted_open, counted, tallied, visited}
use Rattle.hv_tallies.specs.Walks.{id_weight, IsTally}
use Rattle.hv_queue.specs.Queue.{front_by}
use Rattle.hv_tallies.proofs.EventLemmas.{owners-same}
use Rattle.hv_tallies.proofs.TallyLemmas.{some-more, none-more, reaches, least-reaches}

-- an open id up to that one
abbrev pub open_up_to : List Transaction → ℕ → ℕ → ℕ → ℕ
open_up_to ts b write txn = one_if (is_open_one (numbered ts txn) && nat_le write b)

-- ---- the ids of a table

-- none of the ids from this one on is up to a lower one
none-above : (ts : List Transaction) (b write : ℕ) (owners : List ℕ) → b < write → total_from (open_up_to ts b) write owners ≡ 0
none-above ts b write [] above = refl
none-above ts b write (txn ∷ owners) above =
    let first : open_up_to ts b write txn ≡ 0 = ap (λ c. one_if (is_open_one (numbered ts txn) && c)) (lt-leb write b above) ∙ never (is_open_one (numbered ts txn)) in
    let rest = none-above ts b (write + 1) owners (omega (arith, above)) in
    omega (arith, first, rest)
  where
    never : (c : Bool) → one_if (c && false) ≡ 0
    never true = refl
    never false = refl

front-most : (ts : List Transaction) (owners : List ℕ) → ended_front ts owners ≤ length owners
front-most ts [] = omega arith
front-most ts (txn ∷ owners) = by (is_open_one (numbered ts txn)) (front-most ts owners)
  where
    by : (c : Bool) → ended_front ts owners ≤ length owners → (if c then 0 else ended_front ts owners + 1) ≤ suc (length owners)
    by true rest = omega arith
    by false rest = omega (arith, rest)

and-false : (c : Bool) → (c && false) ≡ false
and-false true = refl
and-false false = refl

-- an open id up to a number is there just where the first open one is up to it
front-found : (ts : List Transaction) (b write : ℕ) (owners : List ℕ)
    → nat_lt 0 (total_from (open_up_to ts b) write owners) ≡ (nat_lt (ended_front ts owners) (length owners) && nat_le (write + ended_front ts owners) b)
front-found ts b write [] = refl
front-found ts b write (txn ∷ owners) = by (front-found ts b (write + 1) owners) (is_open_one (numbered ts txn)) (nat_le write b) refl
  where
    rest : ℕ
    rest = total_from (open_up_to ts b) (write + 1) owners

    front : ℕ
    front = ended_front ts owners

    less : nat_lt (front + 1) (suc (length owners)) ≡ nat_lt front (length owners)
    less = by_test (nat_lt front (length owners)) refl
      where
        by_test : (c : Bool) → nat_lt (ended_front ts owners) (length owners) ≡ c → nat_lt (ended_front ts owners + 1) (suc (length owners)) ≡ c
        by_test true is = let lt = ltb-true (ended_front ts owners) (length owners) is in lt-ltb (ended_front ts owners + 1) (suc (length owners)) (omega (arith, lt))
        by_test false is = let ge = ltb-false (ended_front ts owners) (length owners) is in le-ltb (ended_front ts owners + 1) (suc (length owners)) (omega (arith, ge))

    by : nat_lt 0 rest ≡ (nat_lt front (length owners) && nat_le (write + 1 + front) b) → (c d : Bool) → nat_le write b ≡ d
        → nat_lt 0 (one_if (c && nat_le write b) + rest) ≡ (nat_lt (if c then 0 else front + 1) (suc (length owners)) && nat_le (write + (if c then 0 else front + 1)) b)
    by behind true true is =
        some-more (one_if (nat_le write b)) rest (ap one_if is)
        ∙ sym (λ i. lt-ltb 0 (suc (length owners)) (omega arith) i && (ap (λ n. nat_le n b) (let same : write + 0 ≡ write = omega arith in same) ∙ is) i)
    by behind true false is =
        let above : b < write = leb-false write b is in
        let first : one_if (nat_le write b) ≡ 0 = ap one_if is in
        let none : rest ≡ 0 = none-above ts b (write + 1) owners (omega (arith, above)) in
        let all : one_if (nat_le write b) + rest ≡ 0 = omega (arith, first, none) in
        ap (λ n. nat_lt 0 n) all
        ∙ sym (ap (λ c. nat_lt 0 (suc (length owners)) && c) (ap (λ n. nat_le n b) (let same : write + 0 ≡ write = omega arith in same) ∙ is) ∙ and-false (nat_lt 0 (suc (length owners))))
    by behind false d is =
        none-more 0 rest refl ∙ behind
        ∙ (λ i. sym less i && nat_le ((let same : write + 1 + front ≡ write + (front + 1) = omega arith in same) i) b)

-- ---- the ids that were seen

abbrev seen_up_to : State → ℕ → IdNote → ℕ
seen_up_to state b id = id_weight (open_up_to state.transactions b) id

counted-leaves : (reach : Reach) (es : List Events) (t : Tally) → (fold (tallied reach) t es).unended ≡ t.unended
counted-leaves reach [] t = refl
counted-leaves reach (e ∷ es) t = counted-leaves reach es (tallied reach t e) ∙ by (is_up_to reach.mark e)
  where
    by : (b : Bool) → (if b then counted reach t e else t).unended ≡ t.unended
    by true = refl
    by false = refl

or-false : (c : Bool) → c ≡ (c || false)
or-false true = refl
or-false false = refl

or-three : (x y z : Bool) → ((x || y) || z) ≡ (x || (y || z))
or-three true y z = refl
or-three false y z = refl

unended-reaches : (state : State) (table : ℕ) (partition : List ℕ) (reach : Reach) (b : ℕ) (ids : List IdNote) (t : Tally)
    → reaches (fold (visited state table partition reach) t ids).unended b ≡ (reaches t.unended b || nat_lt 0 (total (seen_up_to state b) ids))
unfolding visited
unended-reaches state table partition reach b [] t = or-false (reaches t.unended b)
unended-reaches state table partition reach b (id ∷ ids) t =
    unended-reaches state table partition reach b ids (visited state table partition reach t id)
    ∙ ap (λ o. reaches o b || nat_lt 0 rest) (counted-leaves reach (events_at table partition id.write (numbered state.transactions id.txn)) (noted_open is_open id.write t))
    ∙ by is_open refl
  where
    is_open : Bool
    is_open = is_open_one (numbered state.transactions id.txn)

    rest : ℕ
    rest = total (seen_up_to state b) ids

    with_le : (d : Bool) → nat_le id.write b ≡ d → is_open ≡ true → nat_lt 0 (seen_up_to state b id + rest) ≡ (d || nat_lt 0 rest)
    with_le true is opens = some-more (seen_up_to state b id) rest (λ i. one_if (opens i && is i))
    with_le false is opens = none-more (seen_up_to state b id) rest (λ i. one_if (opens i && is i))

    by : (c : Bool) → is_open ≡ c → (reaches (noted_open c id.write t).unended b || nat_lt 0 rest) ≡ (reaches t.unended b || nat_lt 0 (seen_up_to state b id + rest))
    by true is =
        ap (λ x. x || nat_lt 0 rest) (least-reaches t.unended id.write b) ∙ or-three (reaches t.unended b) (nat_le id.write b) (nat_lt 0 rest)
        ∙ ap (λ x. reaches t.unended b || x) (sym (with_le (nat_le id.write b) refl is))
    by false is = ap (λ x. reaches t.unended b || x) (sym (none-more (seen_up_to state b id) rest (λ i. one_if (is i && nat_le id.write b))))

-- ---- the watermark

front-is : (o : Option ℕ) (front most : ℕ) → front ≤ most → ((b : ℕ) → reaches o b ≡ (nat_lt front most && nat_le (1 + front) b)) → front_by most o ≡ front
front-is None front most le same = by (nat_lt front most) refl
  where
    by : (c : Bool) → nat_lt front most ≡ c → most ≡ front
    by true is = absurd (true≢false (sym (same (1 + front) ∙ (λ i. is i && le-leb (1 + front) (1 + front) (omega arith) i))))
    by false is = let ge = ltb-false front most is in omega (arith, ge, le)
front-is (Some n) front most le same = by (nat_lt front most) (nat_le (1 + front) n) refl refl (sym (le-leb n n (omega arith)) ∙ same n)
  where
    lower : (m : ℕ) → n ≡ suc m → nat_lt front most ≡ true → m < 1 + front
    lower m is less =
        leb-false (1 + front) m
        (sym ((λ i. less i && nat_le (1 + front) m)) ∙ sym (same m) ∙ lt-leb n m (omega (arith, is)))

    with_n : (k : ℕ) → n ≡ k → nat_lt front most ≡ true → 1 + front ≤ n → n - 1 ≡ front
    with_n zero is less up = absurd (omega (arith, is, up))
    with_n (suc m) is less up = let low = lower m is less in omega (arith, is, low, up)

    by : (c d : Bool) → nat_lt front most ≡ c → nat_le (1 + front) n ≡ d → true ≡ (nat_lt front most && nat_le (1 + front) n) → n - 1 ≡ front
    by true true less up both = with_n n refl less (leb-true (1 + front) n up)
    by true false less up both = absurd (true≢false (both ∙ (λ i. less i && up i)))
    by false d less up both = absurd (true≢false (both ∙ (λ i. less i && nat_le (1 + front) n)))

pub front-is-watermark : (state : State) (table : ℕ) (partition : List ℕ) (reach : Reach) (tally : Tally) (given : ℕ) → IsTally state table partition reach tally
    → given ≡ length (ids_of (numbered state.tables table)) → front_by given tally.unended ≡ watermark state table
front-is-watermark state table partition reach tally given is given_is =
    let owners = ids_of (numbered state.tables table) in
    ap (λ n. front_by n tally.unended) given_is
    ∙ front-is tally.unended (ended_front state.transactions owners) (length owners) (front-most state.transactions owners)
    (λ b.
    ap (λ (t : Tally). reaches t.unended b) is.is ∙ unended-reaches state table partition reach b is.seen no_tally
    ∙ ap (nat_lt 0) (is.each (open_up_to state.transactions b) ∙ ap (total_from (open_up_to state.transactions b) 1) (owners-same (numbered state.tables table)))
    ∙ front-found state.transactions b 1 owners)
