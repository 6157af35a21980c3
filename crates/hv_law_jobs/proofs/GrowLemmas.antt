-- What an entry leaves of what is said of jobs: the watermark of a table never falls, what was committed stays, and so do transactions and tables.
use Rattle.std.proofs.Common.{◌≡◌, ℕ, suc, ◌+◌, ◌≤◌, Bool, true, false, IsSome, Option, Some, None, List, [], ◌∷◌, ◌++◌, length, refl, sym, ap, ◌∙◌, subst, arith, true≢false}
use Rattle.std.specs.Prelude.{if◌then◌else◌, ◌||◌, is_none, IsSomeAnd}
use Rattle.std.specs.List.{list_any, slice_get, AllByRecursion}
use Rattle.std.proofs.lemmas.List.Folds.{list_any-append}
use Rattle.std.proofs.lemmas.Bool.{or_left, or_right}
use Rattle.hv_history.specs.declared.state.Ending.{Ending}
use Rattle.hv_history.specs.declared.state.Table.{Table}
use Rattle.hv_history.specs.declared.state.Transaction.{Transaction}
use Rattle.hv_history.specs.State.{State, Job, numbered}
use Rattle.hv_history.specs.Lasting.{IsFront, Later, TableLater, GoesOn}
use Rattle.hv_history.specs.Jobs.{Events, is_open_one, events_by, events_at, events_from, events_in, ids_of, ended_front, watermark}
use Rattle.hv_law_jobs.proofs.OrderLemmas.{numbered-all, number-there}
use Rattle.hv_law_jobs.specs.Sound.{is_of_write, HasSoundRange, IsSoundJob, IsOpened, HasOpened, AreOwned}

pub record Grows (state now : State) : Type 0 where
  pub tables : (n : ℕ) → IsSome (numbered state.tables n) → IsSome (numbered now.tables n)
  pub marks : (n : ℕ) → watermark state n ≤ watermark now n
  pub touched : (n : ℕ) (partition : List ℕ) (write : ℕ) → list_any (is_of_write write) (events_in state n partition) ≡ true
      → list_any (is_of_write write) (events_in now n partition) ≡ true
  pub opened : length state.transactions ≤ length now.transactions

pub is-some-of : {A : Type 0} (o : Option A) (P : A → Type 0) → IsSomeAnd o P → IsSome o
is-some-of None P is = absurd is
is-some-of (Some x) P is = refl

module _ (state now : State) (goes : GoesOn state now) where
  pub opened-stays : (n : ℕ) → IsOpened state.transactions n → IsOpened now.transactions n
  opened-stays n some = by (numbered state.transactions n) refl some
    where
      by : (o : Option Transaction) → numbered state.transactions n ≡ o → IsSome o → IsSome (numbered now.transactions n)
      by None is some = absurd (true≢false (sym some))
      by (Some t) is some = is-some-of (numbered now.transactions n) (Later t) (goes.transactions n t is)

  -- one that has ended is the same later
  pub ended-same : (n : ℕ) (t : Transaction) (e : Ending) → numbered state.transactions n ≡ Some t → t.ending ≡ Some e → numbered now.transactions n ≡ Some t
  ended-same n t e is ends = by (numbered now.transactions n) (goes.transactions n t is)
    where
      by : (o : Option Transaction) → IsSomeAnd o (Later t) → o ≡ Some t
      by None later = absurd later
      by (Some u) later = ap Some (later.ending e ends)

  closed-stays : (n : ℕ) → IsOpened state.transactions n → is_open_one (numbered state.transactions n) ≡ false → is_open_one (numbered now.transactions n) ≡ false
  closed-stays n some closed = by (numbered state.transactions n) refl some closed
    where
      with_end : (t : Transaction) → numbered state.transactions n ≡ Some t → (e : Option Ending) → t.ending ≡ e → is_none e ≡ false
          → is_open_one (numbered now.transactions n) ≡ false
      with_end t is None ends closed = absurd (true≢false closed)
      with_end t is (Some e) ends closed = ap is_open_one (ended-same n t e is ends) ∙ ap is_none ends

      by : (o : Option Transaction) → numbered state.transactions n ≡ o → IsSome o → is_open_one o ≡ false → is_open_one (numbered now.transactions n) ≡ false
      by None is some closed = absurd (true≢false (sym some))
      by (Some t) is some closed = with_end t is t.ending refl closed

  front-grows : (owners more : List ℕ) → AllByRecursion (IsOpened state.transactions) owners
      → ended_front state.transactions owners ≤ ended_front now.transactions (owners ++ more)
  front-grows [] more all = omega arith
  front-grows (txn ∷ owners) more all = by (is_open_one (numbered state.transactions txn)) refl (front-grows owners more all.1)
    where
      by : (b : Bool) → is_open_one (numbered state.transactions txn) ≡ b
          → ended_front state.transactions owners ≤ ended_front now.transactions (owners ++ more)
          → (if b then 0 else ended_front state.transactions owners + 1)
          ≤ (if is_open_one (numbered now.transactions txn) then 0 else ended_front now.transactions (owners ++ more) + 1)
      by true is rest = omega arith
      by false is rest =
          subst (λ b. ended_front state.transactions owners + 1 ≤ (if b then 0 else ended_front now.transactions (owners ++ more) + 1))
          (sym (closed-stays txn all.0 is)) (omega (arith, rest))

  owners-front : (n : ℕ) → IsFront (ids_of (numbered state.tables n)) (ids_of (numbered now.tables n))
  owners-front n = by (numbered state.tables n) refl
    where
      later : (t : Table) (o : Option Table) → IsSomeAnd o (TableLater t) → IsFront t.owners (ids_of o)
      later t None is = absurd is
      later t (Some u) is = is.owners

      by : (o : Option Table) → numbered state.tables n ≡ o → IsFront (ids_of o) (ids_of (numbered now.tables n))
      by None is = record { more = ids_of (numbered now.tables n); is = refl }
      by (Some t) is = later t (numbered now.tables n) (goes.tables n t is)

  tables-stay : (n : ℕ) → IsSome (numbered state.tables n) → IsSome (numbered now.tables n)
  tables-stay n some = by (numbered state.tables n) refl some
    where
      by : (o : Option Table) → numbered state.tables n ≡ o → IsSome o → IsSome (numbered now.tables n)
      by None is some = absurd (true≢false (sym some))
      by (Some t) is some = is-some-of (numbered now.tables n) (TableLater t) (goes.tables n t is)

  module _ (table : ℕ) (partition : List ℕ) (test : Events → Bool) where
    one-stays : (write txn : ℕ) → list_any test (events_at table partition write (numbered state.transactions txn)) ≡ true
        → list_any test (events_at table partition write (numbered now.transactions txn)) ≡ true
    one-stays write txn any = by (numbered state.transactions txn) refl any
      where
        with_end : (t : Transaction) → numbered state.transactions txn ≡ Some t → (e : Option Ending) → t.ending ≡ e
            → list_any test (events_by table partition write e) ≡ true → list_any test (events_at table partition write (numbered now.transactions txn)) ≡ true
        with_end t is None ends any = absurd (true≢false (sym any))
        with_end t is (Some e) ends any =
            ap (λ o. list_any test (events_at table partition write o)) (ended-same txn t e is ends)
            ∙ ap (λ o. list_any test (events_by table partition write o)) ends ∙ any

        by : (o : Option Transaction) → numbered state.transactions txn ≡ o → list_any test (events_at table partition write o) ≡ true
            → list_any test (events_at table partition write (numbered now.transactions txn)) ≡ true
        by None is any = absurd (true≢false (sym any))
        by (Some t) is any = with_end t is t.ending refl any

    all-stay : (write : ℕ) (owners more : List ℕ) → list_any test (events_from state.transactions table partition write owners) ≡ true
        → list_any test (events_from now.transactions table partition write (owners ++ more)) ≡ true
    all-stay write [] more any = absurd (true≢false (sym any))
    all-stay write (txn ∷ owners) more any =
        list_any-append test here_now (events_from now.transactions table partition (write + 1) (owners ++ more))
        ∙ by (all-stay (write + 1) owners more) (list_any test here) refl (sym (list_any-append test here (events_from state.transactions table partition (write + 1) owners)) ∙ any)
      where
        here : List Events
        here = events_at table partition write (numbered state.transactions txn)

        here_now : List Events
        here_now = events_at table partition write (numbered now.transactions txn)

        by : (list_any test (events_from state.transactions table partition (write + 1) owners) ≡ true → list_any test (events_from now.transactions table partition (write + 1) (owners ++ more)) ≡ true)
            → (b : Bool) → list_any test here ≡ b → (b || list_any test (events_from state.transactions table partition (write + 1) owners)) ≡ true
            → (list_any test here_now || list_any test (events_from now.transactions table partition (write + 1) (owners ++ more))) ≡ true
        by rest true is any = or_left (list_any test here_now) _ (one-stays write txn is)
        by rest false is any = or_right (list_any test here_now) _ (rest any)

  last-there : {A : Type 0} (x : A) (xs : List A) → IsSome (slice_get (x ∷ xs) (length xs))
  last-there x [] = refl
  last-there x (y ∷ xs) = last-there y xs

  longer : (xs : List Transaction) → xs ≡ state.transactions → length xs ≤ length now.transactions
  longer [] is = omega arith
  longer (x ∷ xs) is =
      by (numbered now.transactions (suc (length xs))) refl
      (opened-stays (suc (length xs)) (subst (λ ts. IsSome (numbered ts (suc (length xs)))) is (last-there x xs)))
    where
      by : (o : Option Transaction) → numbered now.transactions (suc (length xs)) ≡ o → IsSome o → suc (length xs) ≤ length now.transactions
      by None there some = absurd (true≢false (sym some))
      by (Some t) there some = (number-there now.transactions (suc (length xs)) t there).1

  owned-at : AreOwned state → (n : ℕ) → AllByRecursion (IsOpened state.transactions) (ids_of (numbered state.tables n))
  owned-at owned n = by (numbered state.tables n) refl
    where
      by : (o : Option Table) → numbered state.tables n ≡ o → AllByRecursion (IsOpened state.transactions) (ids_of o)
      by None is = tt
      by (Some t) is = numbered-all (HasOpened state.transactions) state.tables n t owned is

  pub it-grows : AreOwned state → Grows state now
  it-grows owned = record {
    tables = tables-stay;
    marks = λ n.
        let front = owners-front n in
        subst (λ owners. watermark state n ≤ ended_front now.transactions owners) (sym front.is)
        (front-grows (ids_of (numbered state.tables n)) front.more (owned-at owned n));
    touched = λ n partition write any.
        let front = owners-front n in
        subst (λ owners. list_any (is_of_write write) (events_from now.transactions n partition 1 owners) ≡ true) (sym front.is)
        (all-stay n partition (is_of_write write) 1 (ids_of (numbered state.tables n)) front.more any);
    opened = longer state.transactions refl;
  }

-- ---- what is said of one job

pub range-stays : (state now : State) → Grows state now → (job : Job) (o : Option (ℕ × ℕ × ℕ)) → HasSoundRange state job o → HasSoundRange now job o
range-stays state now grows job None is = tt
range-stays state now grows job (Some range) is = record {
  first = is.first;
  order = is.order;
  ended = let ended = is.ended in let more = grows.marks job.table in omega (arith, ended, more);
  touched = grows.touched job.table job.partition range.1 is.touched;
  opened = (is.opened.0, (let within = is.opened.1 in let more = grows.opened in omega (arith, within, more)));
}

pub job-stays : (state now : State) → Grows state now → (job : Job) → IsSoundJob state job → IsSoundJob now job
job-stays state now grows job is = record {
  table = grows.tables job.table is.table;
  range = range-stays state now grows job job.published is.range;
  under = is.under;
  mark = λ mark e. let within = is.mark mark e in let more = grows.marks job.table in omega (arith, within, more);
  cleaned = is.cleaned;
}
