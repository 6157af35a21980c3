-- In every state that a legal book leaves, the touches with which a transaction committed count the rows of its writes.
use Rattle.std.proofs.Common.{◌≡◌, ℕ, zero, suc, ◌+◌, ◌==◌, ◌⊎◌, inl, inr, Bool, true, false, Option, Some, None, List, [], ◌∷◌, ◌++◌, map, fold, length, refl, sym, ap, ◌∙◌, subst, arith, eqb-true, eq-eqb}
use Rattle.std.proofs.Math.Dec.{eqb-suc-suc}
use Rattle.std.specs.Ordering.{bool_cmp}
use Rattle.std.specs.List.{slice_get, flat_map, AllByRecursion}
use Rattle.std.specs.Option.{option_map, option_to_list}
use Rattle.std.proofs.lemmas.List.{append-nil}
use Rattle.std.proofs.lemmas.Bool.Decides.{nat_tests}
use Rattle.hv_base.specs.declared.ids.Limits.{Limits}
use Rattle.hv_base.specs.declared.ids.Touch.{Touch}
use Rattle.hv_base.specs.Sorting.{sorted_by}
use Rattle.hv_logic.specs.declared.catalog.TableInfo.{TableInfo}
use Rattle.hv_logic.specs.declared.effect.Effect.{Effect}
use Rattle.hv_logic.specs.declared.meaning.Meaning.{Meaning}
use Rattle.hv_logic.specs.declared.meaning.Meaning.TheVariants.{Refused, Listing, Change, Make, Unmake, Ask, Plain, Twice, RowLimit, PartitionLimit}
use Rattle.hv_route.specs.Placing.{placed_cmp, runs_of}
use Rattle.hv_route.specs.Touching.{rows_touched, touch_of, touches_of}
use Rattle.hv_route.specs.declared.runs.Run.{Run}
use Rattle.hv_history.specs.declared.entry.Entry.{Entry}
use Rattle.hv_history.specs.declared.entry.Entry.TheVariants as entry
use Rattle.hv_history.specs.declared.state.Ending.{Ending}
use Rattle.hv_history.specs.declared.state.Ending.TheVariants.{Committed, Aborted, Made, Dropped}
use Rattle.hv_history.specs.declared.state.Statement.{Statement}
use Rattle.hv_history.specs.declared.state.Table.{Table}
use Rattle.hv_history.specs.declared.state.Transaction.{Transaction}
use Rattle.hv_history.specs.declared.state.Written.{Written}
use Rattle.hv_history.specs.State.{State, nothing_yet, numbered, changed, changed_at, unless_ended, while_open, opened, started, given_id, given_in, owned, dropped, written_to, committed, ended, wrote_as, writes_of, written_by, commits, statement_meaning, meaning, tables_behind, made_by, acted, after, forgot}
use Rattle.hv_history.specs.Legal.{Fits, CommitFits, GivenFits, TouchesAreMeant, CommitIsTrue, IsTruthful, AllFit, AllTruthful}
use Rattle.hv_book.specs.Commits.{wrote_by, wrote_in}
use Rattle.hv_book.specs.Past.{total, only_if, owners_in}
use Rattle.hv_stands.specs.Files.{ending_of}
use Rattle.hv_stands.specs.Sound.{info_in, IsSingle, given_of, owners_of, given_among, owner_among, IsDone, IsOfCommitted, AreOfCommitted, IsSound}
use Rattle.hv_stands.proofs.Numbers.{same_one, none_is, found, either, numbered-map, numbered-or-last}
use Rattle.hv_stands.proofs.Soundness.{all-numbered}
use Rattle.hv_stands.proofs.Keeping.{still-open, sound-after}
use Rattle.hv_book.proofs.TableLaws.{here_at as get-at}
use Rattle.hv_book.proofs.PastLaws.{nothing-numbered as none-numbered}
use Rattle.hv_law_dues.specs.Counting.{rows_in, changed_rows, touched_by, rows_of, written_at, written_sum}
use Rattle.hv_law_dues.proofs.Totals.{total-append, total-map, total-none}
use Rattle.hv_earlier.proofs.WalkLaws.{total-same}
use Rattle.hv_law_dues.proofs.Runs.{touches-count}

-- ---- the one of a number

get-other : {A : Type 0} (f : A → A) (xs : List A) (n k : ℕ) → (k == n) ≡ false → slice_get (changed_at f xs n) k ≡ slice_get xs k
get-other f [] n k e = refl
get-other f (x ∷ xs) zero zero e = cc
get-other f (x ∷ xs) zero (suc k) e = refl
get-other f (x ∷ xs) (suc n) zero e = refl
get-other f (x ∷ xs) (suc n) (suc k) e = get-other f xs n k (sym (eqb-suc-suc k n) ∙ e)

numbered-other : {A : Type 0} (f : A → A) (xs : List A) (n k : ℕ) → (k == n) ≡ false → numbered (changed f xs n) k ≡ numbered xs k
numbered-other f xs zero k e = refl
numbered-other f xs (suc n) zero e = refl
numbered-other f xs (suc n) (suc k) e = get-other f xs n k (sym (eqb-suc-suc k n) ∙ e)

numbered-at : {A : Type 0} (f : A → A) (xs : List A) (n : ℕ) → numbered (changed f xs n) n ≡ option_map f (numbered xs n)
numbered-at f xs zero = refl
numbered-at f xs (suc n) = get-at f xs n

-- ---- what transactions wrote, where no entry commits

module _ (f : Transaction → Transaction) (none : (t : Transaction) → t.ending ≡ None → wrote_by (f t).ending ≡ None) where
  wrote-one : (t : Transaction) (o : Option Ending) → t.ending ≡ o → wrote_by (unless_ended o t (f t)).ending ≡ wrote_by t.ending
  wrote-one t None e = none t e ∙ ap wrote_by (sym e)
  wrote-one t (Some ending) e = refl

  wrote-same_at : (xs : List Transaction) (n m : ℕ) → wrote_in (slice_get (changed_at (while_open f) xs n) m) ≡ wrote_in (slice_get xs m)
  wrote-same_at [] n m = refl
  wrote-same_at (x ∷ xs) zero zero = wrote-one x x.ending refl
  wrote-same_at (x ∷ xs) zero (suc m) = refl
  wrote-same_at (x ∷ xs) (suc n) zero = refl
  wrote-same_at (x ∷ xs) (suc n) (suc m) = wrote-same_at xs n m

  wrote-same : (xs : List Transaction) (n m : ℕ) → wrote_in (numbered (changed (while_open f) xs n) m) ≡ wrote_in (numbered xs m)
  wrote-same xs zero m = refl
  wrote-same xs (suc n) zero = refl
  wrote-same xs (suc n) (suc m) = wrote-same_at xs n m

wrote-more_at : (t : Transaction) → wrote_by t.ending ≡ None → (xs : List Transaction) (m : ℕ) → wrote_in (slice_get (xs ++ t ∷ []) m) ≡ wrote_in (slice_get xs m)
wrote-more_at t none [] zero = none
wrote-more_at t none [] (suc m) = refl
wrote-more_at t none (x ∷ xs) zero = refl
wrote-more_at t none (x ∷ xs) (suc m) = wrote-more_at t none xs m

wrote-more : (t : Transaction) → wrote_by t.ending ≡ None → (xs : List Transaction) (m : ℕ) → wrote_in (numbered (xs ++ t ∷ []) m) ≡ wrote_in (numbered xs m)
wrote-more t none xs zero = refl
wrote-more t none xs (suc m) = wrote-more_at t none xs m

-- one that is done has committed with some touches
done-ending : (e : Option Ending) → IsDone (Some e) → wrote_by e ≡ None → ⊥
done-ending None done none = absurd done
done-ending (Some (Committed place wrote)) done none = cc
done-ending (Some (Aborted place cause)) done none = absurd done
done-ending (Some (Made place table)) done none = absurd done
done-ending (Some (Dropped place table)) done none = absurd done

done-option : (o : Option Transaction) → IsDone (option_map ending_of o) → wrote_in o ≡ None → ⊥
done-option None done none = absurd done
done-option (Some t) done none = done-ending t.ending done none

pub done-wrote : (s : State) (txn : ℕ) → IsDone (numbered (map ending_of s.transactions) txn) → wrote_in (numbered s.transactions txn) ≡ None → ⊥
done-wrote s txn done none = done-option (numbered s.transactions txn) (subst IsDone (numbered-map ending_of s.transactions txn) done) none

-- ---- the words of a table that may not be there

abbrev pub writes_in : Option Table → List Written
writes_in None = []
writes_in (Some table) = table.writes

pub owner-is : (tables : List Table) (k w : ℕ) → owner_among (numbered (map owners_of tables) k) w ≡ numbered (owners_in (numbered tables k)) w
owner-is tables k w = ap (λ o. owner_among o w) (numbered-map owners_of tables k) ∙ by (numbered tables k)
  where
    by : (o : Option Table) → owner_among (option_map owners_of o) w ≡ numbered (owners_in o) w
    by None = sym (none-numbered w)
    by (Some table) = refl

-- ---- what touches say of a table

flip : (a b : ℕ) → (a == b) ≡ false → (b == a) ≡ false
flip a b e = grind (arith, nat_tests, e)

itself : (a : ℕ) → (a == a) ≡ true
itself a = eq-eqb a a refl

module _ (deletes : Bool) (partition : List ℕ) where
  abbrev pub touch_at : ℕ → Touch → ℕ
  touch_at table touch = only_if (touch.table.0 == table) (touched_by deletes partition touch)

  -- of the rows of one table, where there are touches
  abbrev pub said_of : ℕ → Option (List Touch) → ℕ
  said_of table None = 0
  said_of table (Some wrote) = total (touch_at table) wrote

  touches-here : (table : ℕ) (runs : List (Run Bool)) → total (touch_at table) (map (touch_of table) runs) ≡ total (touched_by deletes partition) (map (touch_of table) runs)
  touches-here table runs =
      total-map (touch_at table) (touch_of table) runs
      ∙ total-same (λ run. touch_at table (touch_of table run)) (λ run. touched_by deletes partition (touch_of table run))
      (λ run. ap (λ b. only_if b (touched_by deletes partition (touch_of table run))) (itself table)) runs
      ∙ sym (total-map (touched_by deletes partition) (touch_of table) runs)

  touches-elsewhere : (table other : ℕ) → (other == table) ≡ false → (runs : List (Run Bool)) → total (touch_at other) (map (touch_of table) runs) ≡ 0
  touches-elsewhere table other apart runs =
      total-map (touch_at other) (touch_of table) runs
      ∙ total-none (λ run. touch_at other (touch_of table run))
      (λ run. ap (λ b. only_if b (touched_by deletes partition (touch_of table run))) (flip other table apart)) runs

  -- ---- what holds in a state

  abbrev pub Said : State → Type 0
  Said s =
      (k w txn : ℕ) → numbered (owners_in (numbered s.tables k)) w ≡ Some txn
      → said_of k (wrote_in (numbered s.transactions txn)) ≡ written_sum deletes w partition (writes_in (numbered s.tables k))

  -- an id that is of no committed transaction has no write
  no-write : (endings : List (Option Ending)) (owners : List ℕ) (w : ℕ) → ((txn : ℕ) → numbered owners w ≡ Some txn → IsDone (numbered endings txn) → ⊥)
      → (writes : List Written) → AllByRecursion (IsOfCommitted endings owners) writes → written_sum deletes w partition writes ≡ 0
  no-write endings owners w undone [] each = refl
  no-write endings owners w undone (written ∷ writes) each =
      λ i. only_if (by (written.write == w) refl i) (rows_in partition (rows_of deletes written)) + no-write endings owners w undone writes each.1 i
    where
      by : (b : Bool) → (written.write == w) ≡ b → b ≡ false
      by true e =
          absurd (undone each.0.0 (ap (numbered owners) (sym (eqb-true written.write w e)) ∙ each.0.1) each.0.2)
      by false e = refl

  no-write-in : (s : State) → IsSound s → (k w : ℕ)
      → ((txn : ℕ) → numbered (owners_in (numbered s.tables k)) w ≡ Some txn → IsDone (numbered (map ending_of s.transactions) txn) → ⊥)
      → written_sum deletes w partition (writes_in (numbered s.tables k)) ≡ 0
  no-write-in s sound k w = by (numbered s.tables k) refl
    where
      by : (o : Option Table) → numbered s.tables k ≡ o → ((txn : ℕ) → numbered (owners_in o) w ≡ Some txn → IsDone (numbered (map ending_of s.transactions) txn) → ⊥)
          → written_sum deletes w partition (writes_in o) ≡ 0
      by None at undone = refl
      by (Some table) at undone =
          no-write (map ending_of s.transactions) table.owners w undone table.writes
          (all-numbered (AreOfCommitted (map ending_of s.transactions)) s.tables k table at sound.committed)

  pub unowned-none : (s : State) → IsSound s → (k w : ℕ) → numbered (owners_in (numbered s.tables k)) w ≡ None → written_sum deletes w partition (writes_in (numbered s.tables k)) ≡ 0
  unowned-none s sound k w none =
      no-write-in s sound k w (λ txn owner done. none_is (numbered (owners_in (numbered s.tables k)) w) txn none owner)

  undone-none : (s : State) → IsSound s → (k w txn : ℕ) → numbered (owners_in (numbered s.tables k)) w ≡ Some txn → wrote_in (numbered s.transactions txn) ≡ None
      → written_sum deletes w partition (writes_in (numbered s.tables k)) ≡ 0
  undone-none s sound k w txn owner none =
      no-write-in s sound k w
      (λ other is done.
      done-wrote s txn (subst (λ n. IsDone (numbered (map ending_of s.transactions) n)) (same_one (numbered (owners_in (numbered s.tables k)) w) other txn is owner) done) none)

  -- ---- entries that commit nothing

  -- the id had its transaction before, and its table the same writes
  record Before (s now : State) (k w txn : ℕ) : Type 0 where
    owner : numbered (owners_in (numbered s.tables k)) w ≡ Some txn
    writes : writes_in (numbered now.tables k) ≡ writes_in (numbered s.tables k)

  -- where what transactions wrote is the same: of ids of those that have written, the rest follows from their tables before
  quiet : (s now : State) → IsSound now → ((txn : ℕ) → wrote_in (numbered now.transactions txn) ≡ wrote_in (numbered s.transactions txn))
      → ((k w txn : ℕ) (wrote : List Touch) → numbered (owners_in (numbered now.tables k)) w ≡ Some txn → wrote_in (numbered s.transactions txn) ≡ Some wrote → Before s now k w txn)
      → Said s → Said now
  quiet s now sound same back said k w txn owner = by (wrote_in (numbered now.transactions txn)) refl
    where
      by : (o : Option (List Touch)) → wrote_in (numbered now.transactions txn) ≡ o
          → said_of k (wrote_in (numbered now.transactions txn)) ≡ written_sum deletes w partition (writes_in (numbered now.tables k))
      by None is = ap (said_of k) is ∙ sym (undone-none now sound k w txn owner is)
      by (Some wrote) is =
          let before = back k w txn wrote owner (sym (same txn) ∙ is) in
          ap (said_of k) (same txn) ∙ said k w txn before.owner ∙ ap (written_sum deletes w partition) (sym before.writes)

  -- the same tables
  still : (s now : State) → now.tables ≡ s.tables → (k w txn : ℕ) (wrote : List Touch) → numbered (owners_in (numbered now.tables k)) w ≡ Some txn
      → wrote_in (numbered s.transactions txn) ≡ Some wrote → Before s now k w txn
  still s now same k w txn wrote owner is = record {
    owner = ap (λ tables. numbered (owners_in (numbered tables k)) w) (sym same) ∙ owner;
    writes = ap (λ tables. writes_in (numbered tables k)) same;
  }

  -- a write id more, of an open transaction
  gave : (tables : List Table) (n table k w txn : ℕ) → numbered (owners_in (numbered (changed (owned n) tables table) k)) w ≡ Some txn → (txn ≡ n → ⊥)
      → (numbered (owners_in (numbered tables k)) w ≡ Some txn) × (writes_in (numbered (changed (owned n) tables table) k) ≡ writes_in (numbered tables k))
  gave tables n table k w txn owner other = by (either (k == table))
    where
      at : (o : Option Table) → numbered (owners_in (option_map (owned n) o)) w ≡ Some txn
          → (numbered (owners_in o) w ≡ Some txn) × (writes_in (option_map (owned n) o) ≡ writes_in o)
      at None is = (is, refl)
      at (Some there) is = of (numbered-or-last there.owners n w txn is)
        where
          of : (numbered there.owners w ≡ Some txn) ⊎ ((w ≡ length there.owners + 1) × (txn ≡ n)) → (numbered there.owners w ≡ Some txn) × (there.writes ≡ there.writes)
          of (inl old) = (old, refl)
          of (inr new) = absurd (other new.1)

      by : ((k == table) ≡ true) ⊎ ((k == table) ≡ false)
          → (numbered (owners_in (numbered tables k)) w ≡ Some txn) × (writes_in (numbered (changed (owned n) tables table) k) ≡ writes_in (numbered tables k))
      by (inl e) =
          let is : numbered (changed (owned n) tables table) k ≡ option_map (owned n) (numbered tables k) =
          subst (λ m. numbered (changed (owned n) tables m) k ≡ option_map (owned n) (numbered tables k)) (eqb-true k table e) (numbered-at (owned n) tables k) in
          let both = at (numbered tables k) (ap (λ o. numbered (owners_in o) w) (sym is) ∙ owner) in
          (both.0, ap writes_in is ∙ both.1)
      by (inr e) =
          let is = numbered-other (owned n) tables table k e in
          (ap (λ o. numbered (owners_in o) w) (sym is) ∙ owner, ap writes_in is)

  -- a table that is dropped keeps its ids and its writes
  kept : (f : Table → Table) → ((t : Table) → (f t).owners ≡ t.owners) → ((t : Table) → (f t).writes ≡ t.writes) → (tables : List Table) (table k w txn : ℕ)
      → numbered (owners_in (numbered (changed f tables table) k)) w ≡ Some txn
      → (numbered (owners_in (numbered tables k)) w ≡ Some txn) × (writes_in (numbered (changed f tables table) k) ≡ writes_in (numbered tables k))
  kept f owners writes tables table k w txn owner = by (either (k == table))
    where
      at : (o : Option Table) → numbered (owners_in (option_map f o)) w ≡ Some txn
          → (numbered (owners_in o) w ≡ Some txn) × (writes_in (option_map f o) ≡ writes_in o)
      at None is = (is, refl)
      at (Some there) is = (ap (λ ids. numbered ids w) (sym (owners there)) ∙ is, writes there)

      by : ((k == table) ≡ true) ⊎ ((k == table) ≡ false)
          → (numbered (owners_in (numbered tables k)) w ≡ Some txn) × (writes_in (numbered (changed f tables table) k) ≡ writes_in (numbered tables k))
      by (inl e) =
          let is : numbered (changed f tables table) k ≡ option_map f (numbered tables k) =
          subst (λ m. numbered (changed f tables m) k ≡ option_map f (numbered tables k)) (eqb-true k table e) (numbered-at f tables k) in
          let both = at (numbered tables k) (ap (λ o. numbered (owners_in o) w) (sym is) ∙ owner) in
          (both.0, ap writes_in is ∙ both.1)
      by (inr e) =
          let is = numbered-other f tables table k e in
          (ap (λ o. numbered (owners_in o) w) (sym is) ∙ owner, ap writes_in is)

  -- a table more, which nobody has an id of
  made : (tables : List Table) (new : Table) (k w txn : ℕ) → new.owners ≡ [] → numbered (owners_in (numbered (tables ++ new ∷ []) k)) w ≡ Some txn
      → (numbered (owners_in (numbered tables k)) w ≡ Some txn) × (writes_in (numbered (tables ++ new ∷ []) k) ≡ writes_in (numbered tables k))
  made tables new k w txn empty owner = by (numbered (tables ++ new ∷ []) k) refl owner
    where
      never : (os : List ℕ) → os ≡ [] → numbered os w ≡ Some txn → ⊥
      never os is e = none_is (numbered os w) txn (ap (λ o. numbered o w) is ∙ none-numbered w) e

      by : (o : Option Table) → numbered (tables ++ new ∷ []) k ≡ o → numbered (owners_in o) w ≡ Some txn
          → (numbered (owners_in (numbered tables k)) w ≡ Some txn) × (writes_in (numbered (tables ++ new ∷ []) k) ≡ writes_in (numbered tables k))
      by None at is = absurd (never [] refl is)
      by (Some table) at is = of (numbered-or-last tables new k table at)
        where
          of : (numbered tables k ≡ Some table) ⊎ ((k ≡ length tables + 1) × (table ≡ new))
              → (numbered (owners_in (numbered tables k)) w ≡ Some txn) × (writes_in (numbered (tables ++ new ∷ []) k) ≡ writes_in (numbered tables k))
          of (inl old) = (ap (λ o. numbered (owners_in o) w) old ∙ is, ap writes_in (at ∙ sym old))
          of (inr last) = absurd (never table.owners (ap (λ (t : Table). t.owners) last.1 ∙ empty) is)

  -- ---- a commit

  -- what a statement of this meaning writes, under these ids, and what the touches of its commit say
  record IsNothing (given : List (ℕ × ℕ)) (ws : List (ℕ × Written)) (wrote : List Touch) : Type 0 where
    nothing : ws ≡ []
    unsaid : (k w : ℕ) → given_in k given ≡ Some w → said_of k (Some wrote) ≡ 0

  record IsWrite (given : List (ℕ × ℕ)) (ws : List (ℕ × Written)) (wrote : List Touch) : Type 0 where
    number : ℕ
    written : Written
    one : ws ≡ (number, written) ∷ []
    id : given_in number given ≡ Some written.write
    unsaid : (k : ℕ) → (k == number) ≡ false → said_of k (Some wrote) ≡ 0
    said : said_of number (Some wrote) ≡ rows_in partition (rows_of deletes written)

  abbrev change_writes : TableInfo → Effect → Option ℕ → List (ℕ × Written)
  change_writes info effect o = option_to_list (option_map (λ write. (info.table.0, written_by info.shape write 0 effect)) o)

  change-rows : (info : TableInfo) (effect : Effect) (write : ℕ)
      → said_of info.table.0 (Some (touches_of info effect)) ≡ rows_in partition (rows_of deletes (written_by info.shape write 0 effect))
  change-rows info effect write =
      touches-here info.table.0 (runs_of (sorted_by (placed_cmp bool_cmp) (rows_touched info.shape effect)))
      ∙ touches-count info write 0 effect deletes partition
      ∙ of deletes
    where
      of : (kind : Bool) → rows_in partition (changed_rows info.shape write 0 effect kind) ≡ rows_in partition (rows_of kind (written_by info.shape write 0 effect))
      of false = refl
      of true = refl

  meant : (given : List (ℕ × ℕ)) (m : Option Meaning) (wrote : List Touch) → TouchesAreMeant wrote m
      → IsNothing given (writes_of m 0 given) wrote ⊎ IsWrite given (writes_of m 0 given) wrote
  meant given None wrote is = absurd is
  meant given (Some (Refused why)) wrote is = absurd is
  meant given (Some (Listing names rows)) wrote is =
      inl (record { nothing = refl; unsaid = λ k w e. ap (total (touch_at k)) is })
  meant given (Some (Change info effect)) wrote is = by (given_in info.table.0 given) refl
    where
      elsewhere : (k : ℕ) → (k == info.table.0) ≡ false → said_of k (Some wrote) ≡ 0
      elsewhere k apart =
          ap (total (touch_at k)) is
          ∙ touches-elsewhere info.table.0 k apart (runs_of (sorted_by (placed_cmp bool_cmp) (rows_touched info.shape effect)))

      by : (o : Option ℕ) → given_in info.table.0 given ≡ o
          → IsNothing given (change_writes info effect (given_in info.table.0 given)) wrote ⊎ IsWrite given (change_writes info effect (given_in info.table.0 given)) wrote
      by None at = inl (record { nothing = ap (change_writes info effect) at; unsaid = λ k w e. of k w e (either (k == info.table.0)) })
        where
          of : (k w : ℕ) → given_in k given ≡ Some w → ((k == info.table.0) ≡ true) ⊎ ((k == info.table.0) ≡ false) → said_of k (Some wrote) ≡ 0
          of k w e (inl here) =
              absurd (none_is (given_in info.table.0 given) w at (ap (λ n. given_in n given) (sym (eqb-true k info.table.0 here)) ∙ e))
          of k w e (inr apart) = elsewhere k apart
      by (Some write) at = inr (record {
        number = info.table.0;
        written = written_by info.shape write 0 effect;
        one = ap (change_writes info effect) at;
        id = at;
        unsaid = elsewhere;
        said = ap (total (touch_at info.table.0)) is ∙ change-rows info effect write;
      })
  meant given (Some (Make shape)) wrote is = absurd is
  meant given (Some (Unmake table)) wrote is = absurd is
  meant given (Some (Ask table region kind)) wrote is = inl (record { nothing = refl; unsaid = λ k w e. ap (total (touch_at k)) is })
  meant given (Some Plain) wrote is = inl (record { nothing = refl; unsaid = λ k w e. ap (total (touch_at k)) is })
  meant given (Some (Twice region row)) wrote is = absurd is
  meant given (Some RowLimit) wrote is = absurd is
  meant given (Some PartitionLimit) wrote is = absurd is

  module _ (s : State) (n : ℕ) (t : Transaction) (wrote : List Touch) (sound : IsSound s) (at : numbered s.transactions n ≡ Some t) (unended : t.ending ≡ None) (said : Said s) where
    abbrev ended_all : List Transaction
    ended_all = changed (while_open (committed s.entries wrote)) s.transactions n

    wrote-here : wrote_in (numbered ended_all n) ≡ Some wrote
    wrote-here =
        ap wrote_in (numbered-at (while_open (committed s.entries wrote)) s.transactions n)
        ∙ ap (λ o. wrote_in (option_map (while_open (committed s.entries wrote)) o)) at
        ∙ ap (λ o. wrote_by (unless_ended o t (committed s.entries wrote t)).ending) unended

    wrote-there : (txn : ℕ) → (txn == n) ≡ false → wrote_in (numbered ended_all txn) ≡ wrote_in (numbered s.transactions txn)
    wrote-there txn apart = ap wrote_in (numbered-other (while_open (committed s.entries wrote)) s.transactions n txn apart)

    wrote-nothing : wrote_in (numbered s.transactions n) ≡ None
    wrote-nothing = ap wrote_in at ∙ ap wrote_by unended

    given-here : (k : ℕ) → given_among (numbered (map given_of s.transactions) n) k ≡ given_in k t.given
    given-here k = ap (λ o. given_among o k) (numbered-map given_of s.transactions n ∙ ap (option_map given_of) at)

    -- an id of the transaction, and its table
    id-of : (k w : ℕ) → numbered (owners_in (numbered s.tables k)) w ≡ Some n → given_in k t.given ≡ Some w
    id-of k w owner = sym (given-here k) ∙ sound.given.is_given n k w (owner-is s.tables k w ∙ owner)

    of-id : (k w : ℕ) → given_in k t.given ≡ Some w → numbered (owners_in (numbered s.tables k)) w ≡ Some n
    of-id k w given = sym (owner-is s.tables k w) ∙ sound.given.has_owner n k w (given-here k ∙ given)

    -- a table that isn't written to
    unwritten : (k w txn : ℕ) → ((v : ℕ) → given_in k t.given ≡ Some v → said_of k (Some wrote) ≡ 0) → numbered (owners_in (numbered s.tables k)) w ≡ Some txn
        → said_of k (wrote_in (numbered ended_all txn)) ≡ written_sum deletes w partition (writes_in (numbered s.tables k))
    unwritten k w txn unsaid owner = by (either (txn == n))
      where
        by : ((txn == n) ≡ true) ⊎ ((txn == n) ≡ false) → said_of k (wrote_in (numbered ended_all txn)) ≡ written_sum deletes w partition (writes_in (numbered s.tables k))
        by (inl e) =
            let is : txn ≡ n = eqb-true txn n e in
            let own = owner ∙ ap (λ m. Some m) is in
            ap (λ m. said_of k (wrote_in (numbered ended_all m))) is ∙ ap (said_of k) wrote-here ∙ unsaid w (id-of k w own)
            ∙ sym (undone-none s sound k w n own wrote-nothing)
        by (inr e) = ap (said_of k) (wrote-there txn e) ∙ said k w txn owner

    -- the table that is written to
    module _ (number : ℕ) (written : Written) (id : given_in number t.given ≡ Some written.write)
        (rows : said_of number (Some wrote) ≡ rows_in partition (rows_of deletes written)) where
      own-table : (w txn : ℕ) → numbered (owners_in (numbered s.tables number)) w ≡ Some txn
          → said_of number (wrote_in (numbered ended_all txn))
          ≡ written_sum deletes w partition (writes_in (numbered s.tables number)) + written_at deletes w partition written
      own-table w txn owner = by (either (txn == n))
        where
          by : ((txn == n) ≡ true) ⊎ ((txn == n) ≡ false) → said_of number (wrote_in (numbered ended_all txn))
              ≡ written_sum deletes w partition (writes_in (numbered s.tables number)) + written_at deletes w partition written
          by (inl e) =
              let is : txn ≡ n = eqb-true txn n e in
              let own = owner ∙ ap (λ m. Some m) is in
              let same : written.write ≡ w = same_one (given_in number t.given) written.write w id (id-of number w own) in
              let here = ap (λ b. only_if b (rows_in partition (rows_of deletes written))) (eq-eqb written.write w same) in
              let none = undone-none s sound number w n own wrote-nothing in
              let goal_said = ap (λ m. said_of number (wrote_in (numbered ended_all m))) is ∙ ap (said_of number) wrote-here ∙ rows in
              omega (arith, goal_said, none, here)
          by (inr e) =
              let others = ap (said_of number) (wrote-there txn e) ∙ said number w txn owner in
              let none : written_at deletes w partition written ≡ 0 = of (written.write == w) refl in
              omega (arith, others, none)
            where
              of : (b : Bool) → (written.write == w) ≡ b → only_if b (rows_in partition (rows_of deletes written)) ≡ 0
              of true is =
                  let owner_is = of-id number written.write id in
                  let same : txn ≡ n = same_one (numbered (owners_in (numbered s.tables number)) w) txn n owner
                  (ap (numbered (owners_in (numbered s.tables number))) (sym (eqb-true written.write w is)) ∙ owner_is) in
                  let never : true ≡ false = sym (eq-eqb txn n same) ∙ e in cc
              of false is = refl

      abbrev now_tables : List Table
      now_tables = changed (written_to written) s.tables number

      written-table : (w txn : ℕ) → numbered (owners_in (numbered now_tables number)) w ≡ Some txn
          → said_of number (wrote_in (numbered ended_all txn)) ≡ written_sum deletes w partition (writes_in (numbered now_tables number))
      written-table w txn owner =
          by (numbered s.tables number) refl (ap (λ o. numbered (owners_in o) w) (sym here) ∙ owner)
          ∙ ap (λ o. written_sum deletes w partition (writes_in o)) (sym here)
        where
          here : numbered now_tables number ≡ option_map (written_to written) (numbered s.tables number)
          here = numbered-at (written_to written) s.tables number

          by : (o : Option Table) → numbered s.tables number ≡ o → numbered (owners_in (option_map (written_to written) (numbered s.tables number))) w ≡ Some txn
              → said_of number (wrote_in (numbered ended_all txn))
              ≡ written_sum deletes w partition (writes_in (option_map (written_to written) (numbered s.tables number)))
          by None is own =
              absurd (none_is (numbered [] w) txn (none-numbered w) (ap (λ o. numbered (owners_in (option_map (written_to written) o)) w) (sym is) ∙ own))
          by (Some table) is own =
              let before = ap (λ o. numbered (owners_in o) w) is ∙ ap (λ o. numbered (owners_in (option_map (written_to written) o)) w) (sym is) ∙ own in
              let sum = own-table w txn before in
              let parts = total-append (written_at deletes w partition) table.writes (written ∷ []) in
              let same = ap (λ o. written_sum deletes w partition (writes_in o)) is in
              let now = ap (λ o. written_sum deletes w partition (writes_in (option_map (written_to written) o))) is in
              omega (arith, sum, parts, same, now)

    -- behind what the commit writes
    committed-said : (ws : List (ℕ × Written)) → IsNothing t.given ws wrote ⊎ IsWrite t.given ws wrote → (k w txn : ℕ)
        → numbered (owners_in (numbered (tables_behind ws s.tables) k)) w ≡ Some txn
        → said_of k (wrote_in (numbered ended_all txn)) ≡ written_sum deletes w partition (writes_in (numbered (tables_behind ws s.tables) k))
    committed-said ws (inl is) k w txn owner =
        let same = ap (λ these. tables_behind these s.tables) is.nothing in
        unwritten k w txn (is.unsaid k) (ap (λ tables. numbered (owners_in (numbered tables k)) w) (sym same) ∙ owner)
        ∙ ap (λ tables. written_sum deletes w partition (writes_in (numbered tables k))) (sym same)
    committed-said ws (inr is) k w txn owner =
        by (either (k == is.number)) ∙ ap (λ tables. written_sum deletes w partition (writes_in (numbered tables k))) (sym same)
      where
        same : tables_behind ws s.tables ≡ changed (written_to is.written) s.tables is.number
        same = ap (λ these. tables_behind these s.tables) is.one

        own : numbered (owners_in (numbered (changed (written_to is.written) s.tables is.number) k)) w ≡ Some txn
        own = ap (λ tables. numbered (owners_in (numbered tables k)) w) (sym same) ∙ owner

        by : ((k == is.number) ≡ true) ⊎ ((k == is.number) ≡ false)
            → said_of k (wrote_in (numbered ended_all txn))
            ≡ written_sum deletes w partition (writes_in (numbered (changed (written_to is.written) s.tables is.number) k))
        by (inl e) =
            subst (λ m. numbered (owners_in (numbered (changed (written_to is.written) s.tables is.number) m)) w ≡ Some txn
            → said_of m (wrote_in (numbered ended_all txn))
            ≡ written_sum deletes w partition (writes_in (numbered (changed (written_to is.written) s.tables is.number) m)))
            (sym (eqb-true k is.number e)) (written-table is.number is.written is.id is.said w txn) own
        by (inr e) =
            let there = numbered-other (written_to is.written) s.tables is.number k e in
            unwritten k w txn (λ v given. is.unsaid k e) (ap (λ o. numbered (owners_in o) w) (sym there) ∙ own)
            ∙ ap (λ o. written_sum deletes w partition (writes_in o)) (sym there)

  -- ---- each entry

  -- an open transaction isn't one that has written
  open-other : (s : State) (n : ℕ) (t : Transaction) → numbered s.transactions n ≡ Some t → t.ending ≡ None → (txn : ℕ) (wrote : List Touch)
      → wrote_in (numbered s.transactions txn) ≡ Some wrote → txn ≡ n → ⊥
  open-other s n t at unended txn wrote is same =
      none_is (wrote_in (numbered s.transactions txn)) wrote (ap (λ m. wrote_in (numbered s.transactions m)) same ∙ ap wrote_in at ∙ ap wrote_by unended) is

  commits-are : (infos : List TableInfo) (t : Transaction) (single : IsSingle infos t) → writes_of single.statement.meaning 0 t.given ≡ commits (Some t)
  commits-are infos t single =
      sym (ap (λ (ss : List Statement). flat_map (λ (statement : Statement). statement.wrote) (changed_at (wrote_as t.given 0) ss 0)) single.one
      ∙ append-nil (writes_of single.statement.meaning 0 t.given))

  meaning-is : (infos : List TableInfo) (t : Transaction) (single : IsSingle infos t) → meaning t ≡ single.statement.meaning
  meaning-is infos t single = ap (λ (ss : List Statement). statement_meaning (slice_get ss 0)) single.one

  commit-step : (s : State) (n : ℕ) (t : Transaction) (wrote : List Touch) → IsSound s → numbered s.transactions n ≡ Some t → t.ending ≡ None
      → TouchesAreMeant wrote (meaning t) → Said s → (k w txn : ℕ)
      → numbered (owners_in (numbered (tables_behind (commits (Some t)) s.tables) k)) w ≡ Some txn
      → said_of k (wrote_in (numbered (changed (while_open (committed s.entries wrote)) s.transactions n) txn))
      ≡ written_sum deletes w partition (writes_in (numbered (tables_behind (commits (Some t)) s.tables) k))
  commit-step s n t wrote sound at unended is said =
      let infos = map info_in s.tables in
      let single : IsSingle infos t = all-numbered (IsSingle infos) s.transactions n t at sound.single in
      subst (λ ws. (k w txn : ℕ) → numbered (owners_in (numbered (tables_behind ws s.tables) k)) w ≡ Some txn
      → said_of k (wrote_in (numbered (changed (while_open (committed s.entries wrote)) s.transactions n) txn))
      ≡ written_sum deletes w partition (writes_in (numbered (tables_behind ws s.tables) k)))
      (commits-are infos t single)
      (committed-said s n t wrote sound at unended said (writes_of single.statement.meaning 0 t.given)
      (meant t.given single.statement.meaning wrote (subst (TouchesAreMeant wrote) (meaning-is infos t single) is)))

  step : (limits : Limits) (s : State) (event : Entry) → Fits limits s event → IsTruthful s event → IsSound s → Said s → Said (after s event)
  unfolding acted
  step limits s (entry.Boot run) fits is sound said =
      quiet s (after s (entry.Boot run)) (sound-after limits s (entry.Boot run) fits sound) (λ txn. refl) (still s (after s (entry.Boot run)) refl) said
  step limits s (entry.Opened txn session number text) fits is sound said =
      quiet s (after s (entry.Opened txn session number text)) (sound-after limits s (entry.Opened txn session number text) fits sound)
      (wrote-more (opened session number text) refl s.transactions) (still s (after s (entry.Opened txn session number text)) refl) said
  step limits s (entry.Start txn statement) fits is sound said =
      quiet s (after s (entry.Start txn statement)) (sound-after limits s (entry.Start txn statement) fits sound)
      (wrote-same (started s statement) (λ t e. ap wrote_by e) s.transactions txn.0) (still s (after s (entry.Start txn statement)) refl) said
  step limits s (entry.Given txn table write) fits is sound said =
      let here = found (GivenFits limits s table.0 write.0) (numbered s.transactions txn.0) fits in
      quiet s (after s (entry.Given txn table write)) (sound-after limits s (entry.Given txn table write) fits sound)
      (wrote-same (given_id table.0 write.0) (λ t e. ap wrote_by e) s.transactions txn.0)
      (λ k w other wrote owner has.
      let both = gave s.tables txn.0 table.0 k w other owner (open-other s txn.0 here.0 here.1 (still-open here.0 here.2.running.unended) other wrote has) in
      record { owner = both.0; writes = both.1 })
      said
  step limits s (entry.Commit txn wrote) fits is sound said = λ k w other owner.
      let here = found (CommitFits s wrote) (numbered s.transactions txn.0) fits in
      let true_of = found (CommitIsTrue s txn.0 wrote) (numbered s.transactions txn.0) is in
      let one_of : true_of.0 ≡ here.0 = same_one (numbered s.transactions txn.0) true_of.0 here.0 true_of.1 here.1 in
      let same = ap (λ o. tables_behind (commits o) s.tables) here.1 in
      commit-step s txn.0 here.0 wrote sound here.1 (still-open here.0 here.2.running.unended)
      (subst (λ (t : Transaction). TouchesAreMeant wrote (meaning t)) one_of true_of.2.touches) said k w other
      (ap (λ tables. numbered (owners_in (numbered tables k)) w) (sym same) ∙ owner)
      ∙ ap (λ tables. written_sum deletes w partition (writes_in (numbered tables k))) (sym same)
  step limits s (entry.Abort txn cause) fits is sound said =
      quiet s (after s (entry.Abort txn cause)) (sound-after limits s (entry.Abort txn cause) fits sound)
      (wrote-same (ended (Aborted s.entries cause)) (λ t e. refl) s.transactions txn.0) (still s (after s (entry.Abort txn cause)) refl) said
  step limits s (entry.Create txn table) fits is sound said =
      quiet s (after s (entry.Create txn table)) (sound-after limits s (entry.Create txn table) fits sound)
      (wrote-same (ended (Made s.entries table.0)) (λ t e. refl) s.transactions txn.0)
      (λ k w other wrote owner has.
      let both = made s.tables (made_by table.0 (numbered s.transactions txn.0)) k w other refl owner in
      record { owner = both.0; writes = both.1 })
      said
  step limits s (entry.Drop txn table) fits is sound said =
      quiet s (after s (entry.Drop txn table)) (sound-after limits s (entry.Drop txn table) fits sound)
      (wrote-same (ended (Dropped s.entries table.0)) (λ t e. refl) s.transactions txn.0)
      (λ k w other wrote owner has.
      let both = kept dropped (λ t. refl) (λ t. refl) s.tables table.0 k w other owner in
      record { owner = both.0; writes = both.1 })
      said
  step limits s (entry.Asked job table part kind by_) fits is sound said =
      quiet s (after s (entry.Asked job table part kind by_)) (sound-after limits s (entry.Asked job table part kind by_) fits sound)
      (λ txn. refl) (still s (after s (entry.Asked job table part kind by_)) refl) said
  step limits s (entry.Picked job mark) fits is sound said =
      quiet s (after s (entry.Picked job mark)) (sound-after limits s (entry.Picked job mark) fits sound)
      (λ txn. refl) (still s (after s (entry.Picked job mark)) refl) said
  step limits s (entry.Published job low high mark) fits is sound said =
      quiet s (after s (entry.Published job low high mark)) (sound-after limits s (entry.Published job low high mark) fits sound)
      (λ txn. refl) (still s (after s (entry.Published job low high mark)) refl) said
  step limits s (entry.Empty job) fits is sound said =
      quiet s (after s (entry.Empty job)) (sound-after limits s (entry.Empty job) fits sound)
      (λ txn. refl) (still s (after s (entry.Empty job)) refl) said
  step limits s (entry.Cleaned job) fits is sound said =
      quiet s (after s (entry.Cleaned job)) (sound-after limits s (entry.Cleaned job) fits sound)
      (λ txn. refl) (still s (after s (entry.Cleaned job)) refl) said
  step limits s (entry.Failed job why) fits is sound said =
      quiet s (after s (entry.Failed job why)) (sound-after limits s (entry.Failed job why) fits sound)
      (λ txn. refl) (still s (after s (entry.Failed job why)) refl) said
  step limits s (entry.Forgot table write) fits is sound said =
      quiet s (after s (entry.Forgot table write)) (sound-after limits s (entry.Forgot table write) fits sound) (λ txn. refl)
      (λ k w other wrote owner has.
      let both = kept (forgot write.0) (λ t. refl) (λ t. refl) s.tables table.0 k w other owner in
      record { owner = both.0; writes = both.1 })
      said
  step limits s event fits is sound said = absurd fits

  pub said-all : (limits : Limits) (book : List Entry) (s : State) → AllFit limits s book → AllTruthful s book → IsSound s → Said s → Said (fold after s book)
  said-all limits [] s fit is sound said = said
  said-all limits (event ∷ book) s fit is sound said =
      said-all limits book (after s event) fit.1 is.1 (sound-after limits s event fit.0 sound) (step limits s event fit.0 is.0 sound said)

  pub nothing-said : Said nothing_yet
  nothing-said k w txn owner =
      absurd (none_is (numbered [] w) txn (none-numbered w) (ap (λ o. numbered (owners_in o) w) (sym (none-numbered k)) ∙ owner))
