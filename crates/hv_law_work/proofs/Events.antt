-- What commits said up to a mark that lies at or below a table's watermark stays: those ids have ended.
use Rattle.std.proofs.Common.{◌≡◌, ◌⊎◌, inl, inr, ℕ, ◌+◌, ◌<◌, ◌≤◌, Bool, true, false, true≢false, cond, IsSome, Option, Some, None, List, [], ◌∷◌, ◌++◌, filter, refl, sym, ap, ◌∙◌, arith, leb-true, ltb-true, ltb-false}
use Rattle.std.specs.Prelude.{if◌then◌else◌, nat_le, nat_lt, is_none, IsSomeAnd}
use Rattle.std.specs.List.{AllByRecursion}
use Rattle.std.proofs.lemmas.Bool.{false_from_ne_true}
use Rattle.std.proofs.lemmas.List.Elements.{filter-append}
use Rattle.hv_base.specs.declared.ids.Touch.{Touch}
use Rattle.hv_history.specs.declared.state.Ending.{Ending}
use Rattle.hv_history.specs.declared.state.Ending.TheVariants as ending
use Rattle.hv_history.specs.declared.state.Table.{Table}
use Rattle.hv_history.specs.declared.state.Transaction.{Transaction}
use Rattle.hv_history.specs.State.{State, numbered}
use Rattle.hv_history.specs.Lasting.{IsFront, TableLater, GoesOn}
use Rattle.hv_history.specs.Jobs.{events_of, events_if, events_by, events_at, events_from, events_in, ids_of, is_open_one, ended_front, watermark, is_up_to}
use Rattle.hv_stands.proofs.Numbers.{either}
use Rattle.hv_law_jobs.specs.Sound.{IsOpened, HasOpened, AreOwned}
use Rattle.hv_law_jobs.proofs.OrderLemmas.{numbered-all}
use Rattle.hv_law_jobs.proofs.GrowLemmas.{ended-same}

over : (write mark : ℕ) → mark < write → nat_le write mark ≡ false
over write mark high = false_from_ne_true (nat_le write mark) (λ e. let le = leb-true write mark e in omega (arith, le, high))

-- ---- beyond the mark nothing is

one-beyond : (mark write : ℕ) (o : Option Touch) → mark < write → filter (is_up_to mark) (events_if write o) ≡ []
one-beyond mark write None high = refl
one-beyond mark write (Some touch) high = ap (λ b. cond b (events_of write touch ∷ []) []) (over write mark high)

by-beyond : (table : ℕ) (partition : List ℕ) (mark write : ℕ) (o : Option Ending) → mark < write → filter (is_up_to mark) (events_by table partition write o) ≡ []
by-beyond table partition mark write None high = refl
by-beyond table partition mark write (Some (ending.Committed place wrote)) high = one-beyond mark write _ high
by-beyond table partition mark write (Some (ending.Aborted place cause)) high = refl
by-beyond table partition mark write (Some (ending.Made place number)) high = refl
by-beyond table partition mark write (Some (ending.Dropped place number)) high = refl

at-beyond : (table : ℕ) (partition : List ℕ) (mark write : ℕ) (o : Option Transaction) → mark < write → filter (is_up_to mark) (events_at table partition write o) ≡ []
at-beyond table partition mark write None high = refl
at-beyond table partition mark write (Some t) high = by-beyond table partition mark write t.ending high

all-beyond : (ts : List Transaction) (table : ℕ) (partition : List ℕ) (mark write : ℕ) (owners : List ℕ) → mark < write
    → filter (is_up_to mark) (events_from ts table partition write owners) ≡ []
all-beyond ts table partition mark write [] high = refl
all-beyond ts table partition mark write (txn ∷ owners) high =
    filter-append (is_up_to mark) (events_at table partition write (numbered ts txn)) (events_from ts table partition (write + 1) owners)
    ∙ (λ i. at-beyond table partition mark write (numbered ts txn) high i ++ all-beyond ts table partition mark (write + 1) owners (omega (arith, high)) i)

-- ---- up to it all have ended

module _ (state now : State) (goes : GoesOn state now) where
  -- one that has ended is the same later
  closed-same : (n : ℕ) → IsOpened state.transactions n → is_open_one (numbered state.transactions n) ≡ false
      → numbered now.transactions n ≡ numbered state.transactions n
  closed-same n some closed = by (numbered state.transactions n) refl some closed
    where
      with_end : (t : Transaction) → numbered state.transactions n ≡ Some t → (e : Option Ending) → t.ending ≡ e → is_none e ≡ false
          → numbered now.transactions n ≡ Some t
      with_end t is None ends closed = absurd (true≢false closed)
      with_end t is (Some e) ends closed = ended-same state now goes n t e is ends

      by : (o : Option Transaction) → numbered state.transactions n ≡ o → IsSome o → is_open_one o ≡ false → numbered now.transactions n ≡ numbered state.transactions n
      by None is some closed = absurd (true≢false (sym some))
      by (Some t) is some closed = with_end t is t.ending refl closed ∙ sym is

  front-same : (table : ℕ) (partition : List ℕ) (mark write : ℕ) (owners more : List ℕ) → AllByRecursion (IsOpened state.transactions) owners
      → mark < write + ended_front state.transactions owners
      → filter (is_up_to mark) (events_from now.transactions table partition write (owners ++ more))
      ≡ filter (is_up_to mark) (events_from state.transactions table partition write owners)
  front-same table partition mark write [] more all within =
      let high : mark < write = omega (arith, within) in
      all-beyond now.transactions table partition mark write more high
  front-same table partition mark write (txn ∷ owners) more all within =
      by (either (nat_lt mark write)) (λ low. front-same table partition mark (write + 1) owners more all.1 low)
    where
      by : (nat_lt mark write ≡ true) ⊎ (nat_lt mark write ≡ false)
          → (mark < write + 1 + ended_front state.transactions owners
          → filter (is_up_to mark) (events_from now.transactions table partition (write + 1) (owners ++ more))
          ≡ filter (is_up_to mark) (events_from state.transactions table partition (write + 1) owners))
          → filter (is_up_to mark) (events_from now.transactions table partition write (txn ∷ (owners ++ more)))
          ≡ filter (is_up_to mark) (events_from state.transactions table partition write (txn ∷ owners))
      by (inl e) behind =
          let high = ltb-true mark write e in
          all-beyond now.transactions table partition mark write (txn ∷ (owners ++ more)) high
          ∙ sym (all-beyond state.transactions table partition mark write (txn ∷ owners) high)
      by (inr e) behind = ended (is_open_one (numbered state.transactions txn)) refl within
        where
          ended : (b : Bool) → is_open_one (numbered state.transactions txn) ≡ b
              → mark < write + (if b then 0 else ended_front state.transactions owners + 1)
              → filter (is_up_to mark) (events_from now.transactions table partition write (txn ∷ (owners ++ more)))
              ≡ filter (is_up_to mark) (events_from state.transactions table partition write (txn ∷ owners))
          ended true is low =
              let least = ltb-false mark write e in
              absurd (omega (arith, least, low))
          ended false is low =
              filter-append (is_up_to mark) (events_at table partition write (numbered now.transactions txn))
              (events_from now.transactions table partition (write + 1) (owners ++ more))
              ∙ (λ i. filter (is_up_to mark) (events_at table partition write (closed-same txn all.0 is i))
              ++ behind (omega (arith, low)) i)
              ∙ sym (filter-append (is_up_to mark) (events_at table partition write (numbered state.transactions txn))
              (events_from state.transactions table partition (write + 1) owners))

  owners-front : (n : ℕ) → IsFront (ids_of (numbered state.tables n)) (ids_of (numbered now.tables n))
  owners-front n = by (numbered state.tables n) refl
    where
      later : (t : Table) (o : Option Table) → IsSomeAnd o (TableLater t) → IsFront t.owners (ids_of o)
      later t None is = absurd is
      later t (Some u) is = is.owners

      by : (o : Option Table) → numbered state.tables n ≡ o → IsFront (ids_of o) (ids_of (numbered now.tables n))
      by None is = record { more = ids_of (numbered now.tables n); is = refl }
      by (Some t) is = later t (numbered now.tables n) (goes.tables n t is)

  owned-at : AreOwned state → (n : ℕ) → AllByRecursion (IsOpened state.transactions) (ids_of (numbered state.tables n))
  owned-at owned n = by (numbered state.tables n) refl
    where
      by : (o : Option Table) → numbered state.tables n ≡ o → AllByRecursion (IsOpened state.transactions) (ids_of o)
      by None is = tt
      by (Some t) is = numbered-all (HasOpened state.transactions) state.tables n t owned is

  pub events-stay : AreOwned state → (table : ℕ) (partition : List ℕ) (mark : ℕ) → mark ≤ watermark state table
      → filter (is_up_to mark) (events_in now table partition) ≡ filter (is_up_to mark) (events_in state table partition)
  events-stay owned table partition mark low =
      let front = owners-front table in
      ap (λ (owners : List ℕ). filter (is_up_to mark) (events_from now.transactions table partition 1 owners)) front.is
      ∙ front-same table partition mark 1 (ids_of (numbered state.tables table)) front.more (owned-at owned table) (omega (arith, low))
