-- Sums of rows that stop at the greatest number are exact where they are below it.
use Rattle.std.proofs.Common.{◌≡◌, ℕ, ◌+◌, ◌-◌, ◌*◌, ◌<◌, ◌≤◌, Bool, true, false, List, [], ◌∷◌, filter, fold, refl, sym, ap, ◌∙◌, subst, arith}
use Rattle.std.specs.Prelude.{if◌then◌else◌, ◌&&◌, nat_lt, nat_le, sum_by}
use Rattle.std.proofs.lemmas.Bool.{lt-ltb, ltb-true, leb-false, and_parts}
use Rattle.std.proofs.lemmas.List.Sums.{sum_by-cons}
use Rattle.hv_history.specs.State.{State}
use Rattle.hv_history.specs.Jobs.{Events, is_up_to, is_above, is_much, events_in}
use Rattle.hv_tallies.specs.hv_earlier.specs.hv_meta.specs.hv_book.specs.Past.{total}
use Rattle.hv_tallies.specs.declared.tally.Reach.{Reach}
use Rattle.hv_tallies.specs.declared.tally.Tally.{Tally}
use Rattle.hv_tallies.specs.Tallies.{top, more, more_if, more_both, no_tally}
use Rattle.hv_tallies.specs.Walks.{IsTally}
use Rattle.hv_queue.specs.Queue.{is_counted, is_much_by}
use Rattle.hv_tallies.proofs.EventLemmas.{stepped, gathered, AreSame, seen-same, open-leaves, projected}

more-exact : (sum rows : ℕ) → more sum rows < top → more sum rows ≡ sum + rows
more-exact sum rows less = by (nat_le rows (top - sum)) less
  where
    by : (c : Bool) → (if c then sum + rows else top) < top → (if c then sum + rows else top) ≡ sum + rows
    by true less = refl
    by false less = absurd (omega (arith, less))

more-most : (sum rows : ℕ) → more sum rows ≤ sum + rows
more-most sum rows = by (nat_le rows (top - sum)) refl
  where
    by : (c : Bool) → nat_le rows (top - sum) ≡ c → (if c then sum + rows else top) ≤ sum + rows
    by true up = omega arith
    by false above = let beyond = leb-false rows (top - sum) above in omega (arith, beyond)

-- ---- sums over a list: each step is exact where it is below the top

abbrev rows_if : (Events → Bool) → (Events → ℕ) → Events → ℕ
rows_if test value e = if test e then value e else 0

fold-exact : (step : ℕ → Events → ℕ) (weight : Events → ℕ) → ((s : ℕ) (e : Events) → step s e < top → step s e ≡ s + weight e)
    → (es : List Events) (s : ℕ) → fold step s es < top → fold step s es ≡ s + total weight es
fold-exact step weight exact [] s less = omega arith
fold-exact step weight exact (e ∷ es) s less =
    let rest = fold-exact step weight exact es (step s e) less in
    let one = exact s e (omega (arith, less, rest)) in
    omega (arith, rest, one)

-- no step goes beyond
fold-most : (step : ℕ → Events → ℕ) (weight : Events → ℕ) → ((s : ℕ) (e : Events) → step s e ≤ s + weight e)
    → (es : List Events) (s : ℕ) → fold step s es ≤ s + total weight es
fold-most step weight most [] s = omega arith
fold-most step weight most (e ∷ es) s =
    let rest = fold-most step weight most es (step s e) in
    let one = most s e in
    omega (arith, rest, one)

less-total : (f g : Events → ℕ) → ((e : Events) → f e ≤ g e) → (es : List Events) → total f es ≤ total g es
less-total f g less [] = omega arith
less-total f g less (e ∷ es) =
    let one = less e in
    let rest = less-total f g less es in
    omega (arith, one, rest)

abbrev one_value : (Events → Bool) → (Events → ℕ) → ℕ → Events → ℕ
one_value test value sum e = more_if (test e) sum (value e)

abbrev two_values : (Events → Bool) → ℕ → Events → ℕ
two_values test sum e = more_both (test e) sum e.inserted e.deleted

abbrev both_rows : Events → ℕ
both_rows e = e.inserted + e.deleted

abbrev marked_rows : ℕ → (Events → Bool) → (Events → ℕ) → Events → ℕ
marked_rows mark test value e = if is_up_to mark e then rows_if test value e else 0

step-exact : (reach : Reach) (test : Events → Bool) (value : Events → ℕ) (s : ℕ) (e : Events) → stepped (one_value test value) reach s e < top
    → stepped (one_value test value) reach s e ≡ s + marked_rows reach.mark test value e
step-exact reach test value s e = by (is_up_to reach.mark e) (test e)
  where
    by : (b c : Bool) → (if b then (if c then more s (value e) else s) else s) < top
        → (if b then (if c then more s (value e) else s) else s) ≡ s + (if b then (if c then value e else 0) else 0)
    by true true less = more-exact s (value e) less
    by true false less = omega arith
    by false c less = omega arith

step-most : (reach : Reach) (test : Events → Bool) (value : Events → ℕ) (s : ℕ) (e : Events)
    → stepped (one_value test value) reach s e ≤ s + marked_rows reach.mark test value e
step-most reach test value s e = by (is_up_to reach.mark e) (test e)
  where
    by : (b c : Bool) → (if b then (if c then more s (value e) else s) else s) ≤ s + (if b then (if c then value e else 0) else 0)
    by true true = more-most s (value e)
    by true false = omega arith
    by false c = omega arith

both-most : (reach : Reach) (test : Events → Bool) (s : ℕ) (e : Events) → stepped (two_values test) reach s e ≤ s + marked_rows reach.mark test both_rows e
both-most reach test s e = by (is_up_to reach.mark e) (test e)
  where
    by : (b c : Bool) → (if b then (if c then more (more s e.inserted) e.deleted else s) else s) ≤ s + (if b then (if c then both_rows e else 0) else 0)
    by true true =
        let second = more-most (more s e.inserted) e.deleted in
        let first = more-most s e.inserted in
        omega (arith, second, first)
    by true false = omega arith
    by false c = omega arith

marked-less : (mark : ℕ) (test : Events → Bool) (value : Events → ℕ) (e : Events) → value e ≤ both_rows e
    → marked_rows mark test value e ≤ rows_if (is_up_to mark) both_rows e
marked-less mark test value e le = by (is_up_to mark e) (test e)
  where
    by : (b c : Bool) → (if b then (if c then value e else 0) else 0) ≤ (if b then both_rows e else 0)
    by true true = le
    by true false = omega arith
    by false c = omega arith

-- a sum that stops stays at the top
stays : (sum rows : ℕ) → more sum rows < top → sum < top
stays sum rows less = let is = more-exact sum rows less in omega (arith, less, is)

both-exact : (reach : Reach) (test : Events → Bool) (s : ℕ) (e : Events) → stepped (two_values test) reach s e < top
    → stepped (two_values test) reach s e ≡ s + marked_rows reach.mark test both_rows e
both-exact reach test s e = by (is_up_to reach.mark e) (test e)
  where
    by : (b c : Bool) → (if b then (if c then more (more s e.inserted) e.deleted else s) else s) < top
        → (if b then (if c then more (more s e.inserted) e.deleted else s) else s) ≡ s + (if b then (if c then both_rows e else 0) else 0)
    by true true less =
        let second = more-exact (more s e.inserted) e.deleted less in
        let first = more-exact s e.inserted (stays (more s e.inserted) e.deleted less) in
        omega (arith, second, first)
    by true false less = omega arith
    by false c less = omega arith

-- ---- the same over filtered lists

sum-total : (value : Events → ℕ) (es : List Events) → sum_by value es ≡ total value es
sum-total value [] = refl
sum-total value (e ∷ es) = sum_by-cons value e es ∙ ap (λ n. value e + n) (sum-total value es)

total-filtered : (test : Events → Bool) (value : Events → ℕ) (es : List Events) → total value (filter test es) ≡ total (rows_if test value) es
total-filtered test value [] = refl
total-filtered test value (e ∷ es) = by (test e) (total-filtered test value es)
  where
    by : (b : Bool) → total value (filter test es) ≡ total (rows_if test value) es
        → total value (if b then e ∷ filter test es else filter test es) ≡ (if b then value e else 0) + total (rows_if test value) es
    by true rest = ap (λ n. value e + n) rest
    by false rest = omega (arith, rest)

sum-marked : (mark : ℕ) (test : Events → Bool) (value : Events → ℕ) (es : List Events)
    → sum_by value (filter test (filter (is_up_to mark) es)) ≡ total (marked_rows mark test value) es
sum-marked mark test value es =
    sum-total value (filter test (filter (is_up_to mark) es)) ∙ total-filtered test value (filter (is_up_to mark) es)
    ∙ total-filtered (is_up_to mark) (rows_if test value) es

-- ---- what was counted, over the events that were seen

module _ (state : State) (table : ℕ) (partition : List ℕ) (reach : Reach) (tally : Tally) (is : IsTally state table partition reach tally) where
  kept-fold : tally.kept ≡ fold (stepped (one_value (is_up_to reach.base) (λ (e : Events). e.inserted)) reach) 0 (gathered state table partition is.seen)
  kept-fold =
      ap (λ (t : Tally). t.kept) is.is
      ∙ projected (λ (t : Tally). t.kept) (one_value (is_up_to reach.base) (λ (e : Events). e.inserted)) reach (λ t e. refl) (open-leaves (λ (t : Tally). t.kept) (λ t o. refl))
      state table partition is.seen no_tally

  gone-fold : tally.gone ≡ fold (stepped (one_value (is_up_to reach.base) (λ (e : Events). e.deleted)) reach) 0 (gathered state table partition is.seen)
  gone-fold =
      ap (λ (t : Tally). t.gone) is.is
      ∙ projected (λ (t : Tally). t.gone) (one_value (is_up_to reach.base) (λ (e : Events). e.deleted)) reach (λ t e. refl) (open-leaves (λ (t : Tally). t.gone) (λ t o. refl))
      state table partition is.seen no_tally

  above-fold : tally.above ≡ fold (stepped (two_values (is_above reach.base)) reach) 0 (gathered state table partition is.seen)
  above-fold =
      ap (λ (t : Tally). t.above) is.is
      ∙ projected (λ (t : Tally). t.above) (two_values (is_above reach.base)) reach (λ t e. refl) (open-leaves (λ (t : Tally). t.above) (λ t o. refl)) state table partition is.seen no_tally

-- ---- how much was written

module _ (state : State) (table : ℕ) (partition : List ℕ) (reach : Reach) (tally : Tally) (is : IsTally state table partition reach tally) (counted : is_counted tally ≡ true) where
  abbrev seen : List Events
  seen = gathered state table partition is.seen

  abbrev all : List Events
  all = events_in state table partition

  same : AreSame seen all
  same = seen-same state table partition reach tally is

  parts : (nat_lt tally.kept top ≡ true) × ((nat_lt tally.gone top && nat_lt tally.above top) ≡ true)
  parts = and_parts (nat_lt tally.kept top) (nat_lt tally.gone top && nat_lt tally.above top) counted

  rest : (nat_lt tally.gone top ≡ true) × (nat_lt tally.above top ≡ true)
  rest = and_parts (nat_lt tally.gone top) (nat_lt tally.above top) parts.1

  summed : (step : ℕ → Events → ℕ) (test : Events → Bool) (value : Events → ℕ)
      → ((s : ℕ) (e : Events) → step s e < top → step s e ≡ s + marked_rows reach.mark test value e) → (n : ℕ) → n ≡ fold step 0 seen → n < top
      → n ≡ sum_by value (filter test (filter (is_up_to reach.mark) all))
  summed step test value exact_step n n_is less =
      let exact = fold-exact step (marked_rows reach.mark test value) exact_step seen 0 (subst (λ m. m < top) n_is less) in
      let weighs = same (marked_rows reach.mark test value) in
      let both : fold step 0 seen ≡ total (marked_rows reach.mark test value) all = omega (arith, exact, weighs) in
      n_is ∙ both ∙ sym (sum-marked reach.mark test value all)

  kept-is : tally.kept ≡ sum_by (λ (e : Events). e.inserted) (filter (is_up_to reach.base) (filter (is_up_to reach.mark) all))
  kept-is =
      summed (stepped (one_value (is_up_to reach.base) (λ (e : Events). e.inserted)) reach) (is_up_to reach.base) (λ (e : Events). e.inserted)
      (step-exact reach (is_up_to reach.base) (λ (e : Events). e.inserted)) tally.kept (kept-fold state table partition reach tally is) (ltb-true tally.kept top parts.0)

  gone-is : tally.gone ≡ sum_by (λ (e : Events). e.deleted) (filter (is_up_to reach.base) (filter (is_up_to reach.mark) all))
  gone-is =
      summed (stepped (one_value (is_up_to reach.base) (λ (e : Events). e.deleted)) reach) (is_up_to reach.base) (λ (e : Events). e.deleted)
      (step-exact reach (is_up_to reach.base) (λ (e : Events). e.deleted)) tally.gone (gone-fold state table partition reach tally is) (ltb-true tally.gone top rest.0)

  above-is : tally.above ≡ sum_by both_rows (filter (is_above reach.base) (filter (is_up_to reach.mark) all))
  above-is =
      summed (stepped (two_values (is_above reach.base)) reach) (is_above reach.base) both_rows (both-exact reach (is_above reach.base)) tally.above
      (above-fold state table partition reach tally is) (ltb-true tally.above top rest.1)

  pub much-is : (percent : ℕ) → is_much_by percent reach.base tally ≡ is_much percent reach.base (filter (is_up_to reach.mark) all)
  much-is percent = λ i. nat_lt 0 reach.base && nat_lt (percent * (kept-is i - gone-is i)) (1000 * above-is i)

-- ---- few rows are counted

module _ (state : State) (table : ℕ) (partition : List ℕ) (reach : Reach) (tally : Tally) (is : IsTally state table partition reach tally)
    (few : sum_by both_rows (filter (is_up_to reach.mark) (events_in state table partition)) < top) where
  few-whole : total (rows_if (is_up_to reach.mark) both_rows) (events_in state table partition) < top
  few-whole =
      let first = sum-total both_rows (filter (is_up_to reach.mark) (events_in state table partition)) in
      let second = total-filtered (is_up_to reach.mark) both_rows (events_in state table partition) in
      omega (arith, few, first, second)

  few-part : (step : ℕ → Events → ℕ) (weight : Events → ℕ) → ((s : ℕ) (e : Events) → step s e ≤ s + weight e)
      → ((e : Events) → weight e ≤ rows_if (is_up_to reach.mark) both_rows e) → (n : ℕ) → n ≡ fold step 0 (gathered state table partition is.seen) → nat_lt n top ≡ true
  few-part step weight most less n n_is =
      let bound = fold-most step weight most (gathered state table partition is.seen) 0 in
      let weighs = seen-same state table partition reach tally is weight in
      let within = less-total weight (rows_if (is_up_to reach.mark) both_rows) less (events_in state table partition) in
      let whole = few-whole in
      lt-ltb n top (omega (arith, n_is, bound, weighs, within, whole))

  few-kept : nat_lt tally.kept top ≡ true
  few-kept =
      few-part (stepped (one_value (is_up_to reach.base) (λ (e : Events). e.inserted)) reach) (marked_rows reach.mark (is_up_to reach.base) (λ (e : Events). e.inserted))
      (step-most reach (is_up_to reach.base) (λ (e : Events). e.inserted)) (λ e. marked-less reach.mark (is_up_to reach.base) (λ (x : Events). x.inserted) e (omega arith))
      tally.kept (kept-fold state table partition reach tally is)

  few-gone : nat_lt tally.gone top ≡ true
  few-gone =
      few-part (stepped (one_value (is_up_to reach.base) (λ (e : Events). e.deleted)) reach) (marked_rows reach.mark (is_up_to reach.base) (λ (e : Events). e.deleted))
      (step-most reach (is_up_to reach.base) (λ (e : Events). e.deleted)) (λ e. marked-less reach.mark (is_up_to reach.base) (λ (x : Events). x.deleted) e (omega arith))
      tally.gone (gone-fold state table partition reach tally is)

  few-above : nat_lt tally.above top ≡ true
  few-above =
      few-part (stepped (two_values (is_above reach.base)) reach) (marked_rows reach.mark (is_above reach.base) both_rows)
      (both-most reach (is_above reach.base)) (λ e. marked-less reach.mark (is_above reach.base) both_rows e (omega arith))
      tally.above (above-fold state table partition reach tally is)

  pub counted-few : is_counted tally ≡ true
  counted-few = λ i. few-kept i && (few-gone i && few-above i)
