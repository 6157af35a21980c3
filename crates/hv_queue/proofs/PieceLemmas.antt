-- What a walk has counted is what the definitions say of pieces.
use Rattle.std.proofs.Common.{◌≡◌, ℕ, ◌+◌, ◌<◌, ◌≤◌, Bool, true, false, Option, Some, None, List, [], ◌∷◌, ◌++◌, length, map, filter, fold, refl, sym, ap, ◌∙◌, arith}
use Rattle.std.specs.Prelude.{if◌then◌else◌, ◌&&◌, ◌||◌, nat_lt, nat_le, find}
use Rattle.std.specs.List.{list_any}
use Rattle.std.proofs.lemmas.Bool.{lt-ltb, ltb-true, lt-leb, leb-true, leb-false, le-ltb, and_parts}
use Rattle.hv_base.specs.declared.ids.Touch.{Touch}
use Rattle.hv_history.specs.declared.state.Ending.{Ending}
use Rattle.hv_history.specs.declared.state.Ending.TheVariants.{Committed, Aborted, Made, Dropped}
use Rattle.hv_history.specs.declared.state.Transaction.{Transaction}
use Rattle.hv_history.specs.State.{State, numbered}
use Rattle.hv_history.specs.Legal.{one_if}
use Rattle.hv_history.specs.Jobs.{Events, greatest, write_of, is_up_to, is_above, is_between, inserts, deletes, pieces_of, first_above, is_touch_of, events_if, events_by, events_at, events_from, events_in, ids_of}
use Rattle.hv_tallies.specs.hv_earlier.specs.hv_meta.specs.hv_book.specs.Past.{total}
use Rattle.hv_tallies.specs.declared.tally.Reach.{Reach}
use Rattle.hv_tallies.specs.declared.tally.Tally.{Tally}
use Rattle.hv_tallies.specs.Tallies.{one_more, no_tally}
use Rattle.hv_tallies.specs.Walks.{IsTally}
use Rattle.hv_queue.specs.Queue.{number_or}
use Rattle.hv_tallies.proofs.EventLemmas.{stepped, few-events, gathered, AreSame, seen-same, open-leaves, projected}
use Rattle.hv_tallies.proofs.TallyLemmas.{counts, count_step, count-exact, any_step, any-exact, high_step, high-exact, reaches, first_step, first-exact, same-reach, same-below, count-filtered, any-filtered, high-filtered, EachOnce, few-counted, fresh, merged}

fresh-or-merged : (base compacted : ℕ) (test : Events → Bool) → EachOnce (fresh compacted test) (merged base compacted test)
fresh-or-merged base compacted test e p q =
    let above = ltb-true compacted e.write (and_parts (is_above compacted e) (test e) p).0 in
    let between = (and_parts (is_between base compacted e) (test e) q).0 in
    let below = leb-true e.write compacted (and_parts (nat_lt base e.write) (nat_le e.write compacted) between).1 in
    omega (arith, above, below)

one-more-exact : (given n m : ℕ) → n + m ≤ given → one_more given (nat_lt 0 m) n ≡ n + one_if (nat_lt 0 m)
one-more-exact given n m few = by (nat_lt 0 m) refl
  where
    by : (c : Bool) → nat_lt 0 m ≡ c → (if c && nat_lt n given then n + 1 else n) ≡ n + one_if c
    by true some =
        let at_least = ltb-true 0 m some in
        ap (λ d. if d then n + 1 else n) (lt-ltb n given (omega (arith, few, at_least)))
    by false none = omega arith

-- ---- the events of a table rise by their write ids

abbrev Rising : ℕ → List Events → Type 0
Rising low [] = Unit {0}
Rising low (e ∷ es) = (low ≤ e.write) × Rising e.write es

lower : (low next : ℕ) (es : List Events) → low ≤ next → Rising next es → Rising low es
lower low next [] le rise = tt
lower low next (e ∷ es) le rise = let first : next ≤ e.write = rise.0 in (omega (arith, le, first), rise.1)

rising-if : (write : ℕ) (o : Option Touch) (rest : List Events) → Rising write rest → Rising write (events_if write o ++ rest)
rising-if write None rest rise = rise
rising-if write (Some touch) rest rise = (omega arith, rise)

rising-by : (table : ℕ) (partition : List ℕ) (write : ℕ) (e : Option Ending) (rest : List Events) → Rising write rest → Rising write (events_by table partition write e ++ rest)
rising-by table partition write None rest rise = rise
rising-by table partition write (Some (Committed place wrote)) rest rise = rising-if write (find (is_touch_of table partition) wrote) rest rise
rising-by table partition write (Some (Aborted place cause)) rest rise = rise
rising-by table partition write (Some (Made place made)) rest rise = rise
rising-by table partition write (Some (Dropped place dropped)) rest rise = rise

rising-at : (table : ℕ) (partition : List ℕ) (write : ℕ) (o : Option Transaction) (rest : List Events) → Rising write rest → Rising write (events_at table partition write o ++ rest)
rising-at table partition write None rest rise = rise
rising-at table partition write (Some t) rest rise = rising-by table partition write t.ending rest rise

rising-from : (ts : List Transaction) (table : ℕ) (partition : List ℕ) (write : ℕ) (owners : List ℕ) → Rising write (events_from ts table partition write owners)
rising-from ts table partition write [] = tt
rising-from ts table partition write (txn ∷ owners) =
    rising-at table partition write (numbered ts txn) (events_from ts table partition (write + 1) owners)
    (lower write (write + 1) (events_from ts table partition (write + 1) owners) (omega arith) (rising-from ts table partition (write + 1) owners))

rising-filtered : (p : Events → Bool) (low : ℕ) (es : List Events) → Rising low es → Rising low (filter p es)
rising-filtered p low [] rise = tt
rising-filtered p low (e ∷ es) rise = by (p e) (rising-filtered p e.write es rise.1)
  where
    by : (b : Bool) → Rising e.write (filter p es) → Rising low (if b then e ∷ filter p es else filter p es)
    by true rest = (rise.0, rest)
    by false rest = lower low e.write (filter p es) rise.0 rest

-- ---- the first one above a number

abbrev found_above : ℕ → List Events → Option ℕ
found_above base [] = None
found_above base (e ∷ es) = if is_above base e then Some e.write else found_above base es

found-first : (base : ℕ) (es : List Events) → number_or 0 (found_above base es) ≡ first_above base es
found-first base [] = refl
found-first base (e ∷ es) = by (is_above base e) (found-first base es)
  where
    by : (b : Bool) → number_or 0 (found_above base es) ≡ first_above base es
        → number_or 0 (if b then Some e.write else found_above base es) ≡ (if b then e.write else first_above base es)
    by true rest = refl
    by false rest = rest

none-below : (base b low : ℕ) (es : List Events) → b < low → Rising low es → list_any (is_between base b) es ≡ false
none-below base b low [] below rise = refl
none-below base b low (e ∷ es) below rise =
    let first : low ≤ e.write = rise.0 in
    let far : nat_le e.write b ≡ false = lt-leb e.write b (omega (arith, below, first)) in
    ap (λ c. (nat_lt base e.write && c) || list_any (is_between base b) es) far
    ∙ by (nat_lt base e.write) (none-below base b e.write es (omega (arith, below, first)) rise.1)
  where
    by : (c : Bool) → list_any (is_between base b) es ≡ false → ((c && false) || list_any (is_between base b) es) ≡ false
    by true rest = rest
    by false rest = rest

found-reaches : (base b low : ℕ) (es : List Events) → Rising low es → reaches (found_above base es) b ≡ list_any (is_between base b) es
found-reaches base b low [] rise = refl
found-reaches base b low (e ∷ es) rise = by (found-reaches base b e.write es rise.1) (nat_lt base e.write) (nat_le e.write b) refl
  where
    by : reaches (found_above base es) b ≡ list_any (is_between base b) es → (c d : Bool) → nat_le e.write b ≡ d
        → reaches (if c then Some e.write else found_above base es) b ≡ ((c && nat_le e.write b) || list_any (is_between base b) es)
    by rest true true is = is ∙ sym (ap (λ x. x || list_any (is_between base b) es) is)
    by rest true false is =
        is ∙ sym (ap (λ x. x || list_any (is_between base b) es) is ∙ none-below base b e.write es (leb-false e.write b is) rise.1)
    by rest false d is = rest

-- ---- all of it

module _ (state : State) (table : ℕ) (partition : List ℕ) (reach : Reach) (tally : Tally) (is : IsTally state table partition reach tally)
    (given : reach.given ≡ length (ids_of (numbered state.tables table))) where
  abbrev seen : List Events
  seen = gathered state table partition is.seen

  abbrev all : List Events
  all = events_in state table partition

  abbrev pub marked : List Events
  marked = filter (is_up_to reach.mark) all

  same : AreSame seen all
  same = seen-same state table partition reach tally is

  few : (test : Events → Bool)
      → total (counts reach.mark (fresh reach.compacted test)) all + total (counts reach.mark (merged reach.base reach.compacted test)) all ≤ reach.given
  few test =
      let counted = few-counted (fresh reach.compacted test) (merged reach.base reach.compacted test) (fresh-or-merged reach.base reach.compacted test) reach.mark all in
      let events = few-events state.transactions table partition 1 (ids_of (numbered state.tables table)) in
      omega (arith, counted, events, given)

  pieces-part : (test : Events → Bool) (n : ℕ) (b : Bool) → n ≡ fold (stepped (count_step reach.given (fresh reach.compacted test)) reach) 0 seen
      → b ≡ fold (stepped (any_step (merged reach.base reach.compacted test)) reach) false seen
      → one_more reach.given b n ≡ pieces_of test reach.base reach.compacted marked
  pieces-part test n b n_is b_is =
      let f = total (counts reach.mark (fresh reach.compacted test)) all in
      let m = total (counts reach.mark (merged reach.base reach.compacted test)) all in
      let f_same = same (counts reach.mark (fresh reach.compacted test)) in
      let m_same = same (counts reach.mark (merged reach.base reach.compacted test)) in
      let enough = few test in
      let exact = count-exact reach (fresh reach.compacted test) seen 0 (omega (arith, enough, f_same)) in
      let n_exact : n ≡ f = n_is ∙ omega (arith, exact, f_same) in
      let b_exact : b ≡ nat_lt 0 m = b_is ∙ any-exact reach (merged reach.base reach.compacted test) seen ∙ ap (nat_lt 0) m_same in
      (λ i. one_more reach.given (b_exact i) (n_exact i)) ∙ one-more-exact reach.given f m enough
      ∙ (λ i. sym (count-filtered reach.mark (fresh reach.compacted test) all) i + one_if (sym (any-filtered reach.mark (merged reach.base reach.compacted test) all) i))

  pub ins-is : one_more reach.given tally.merged_ins tally.ins ≡ pieces_of inserts reach.base reach.compacted marked
  ins-is =
      pieces-part inserts tally.ins tally.merged_ins
      (ap (λ (t : Tally). t.ins) is.is
      ∙ projected (λ (t : Tally). t.ins) (count_step reach.given (fresh reach.compacted inserts)) reach (λ t e. refl) (open-leaves (λ (t : Tally). t.ins) (λ t o. refl))
      state table partition is.seen no_tally)
      (ap (λ (t : Tally). t.merged_ins) is.is
      ∙ projected (λ (t : Tally). t.merged_ins) (any_step (merged reach.base reach.compacted inserts)) reach (λ t e. refl) (open-leaves (λ (t : Tally). t.merged_ins) (λ t o. refl))
      state table partition is.seen no_tally)

  pub del-is : one_more reach.given tally.merged_del tally.del ≡ pieces_of deletes reach.base reach.compacted marked
  del-is =
      pieces-part deletes tally.del tally.merged_del
      (ap (λ (t : Tally). t.del) is.is
      ∙ projected (λ (t : Tally). t.del) (count_step reach.given (fresh reach.compacted deletes)) reach (λ t e. refl) (open-leaves (λ (t : Tally). t.del) (λ t o. refl))
      state table partition is.seen no_tally)
      (ap (λ (t : Tally). t.merged_del) is.is
      ∙ projected (λ (t : Tally). t.merged_del) (any_step (merged reach.base reach.compacted deletes)) reach (λ t e. refl) (open-leaves (λ (t : Tally). t.merged_del) (λ t o. refl))
      state table partition is.seen no_tally)

  pub high-is : tally.high ≡ greatest (map write_of marked)
  high-is =
      ap (λ (t : Tally). t.high) is.is
      ∙ projected (λ (t : Tally). t.high) high_step reach (λ t e. refl) (open-leaves (λ (t : Tally). t.high) (λ t o. refl)) state table partition is.seen no_tally
      ∙ same-below (fold (stepped high_step reach) 0 seen) (greatest (map write_of marked))
      (λ b.
      high-exact reach b seen 0 ∙ ap (λ x. x || nat_lt 0 (total (counts reach.mark (is_above b)) seen)) (le-ltb b 0 (omega arith))
      ∙ ap (nat_lt 0) (same (counts reach.mark (is_above b))) ∙ sym (high-filtered reach.mark b all))

  pub first-is : number_or 0 tally.first ≡ first_above reach.base marked
  first-is =
      ap (number_or 0)
      (ap (λ (t : Tally). t.first) is.is
      ∙ projected (λ (t : Tally). t.first) (first_step reach.base) reach (λ t e. refl) (open-leaves (λ (t : Tally). t.first) (λ t o. refl)) state table partition is.seen no_tally
      ∙ same-reach (fold (stepped (first_step reach.base) reach) None seen) (found_above reach.base marked)
      (λ b.
      first-exact reach reach.base b seen None ∙ ap (nat_lt 0) (same (counts reach.mark (is_between reach.base b)))
      ∙ sym (any-filtered reach.mark (is_between reach.base b) all)
      ∙ sym (found-reaches reach.base b 1 marked (rising-filtered (is_up_to reach.mark) 1 all (rising-from state.transactions table partition 1 (ids_of (numbered state.tables table)))))))
      ∙ found-first reach.base marked
