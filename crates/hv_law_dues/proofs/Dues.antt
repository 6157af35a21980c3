-- What the commits of a table say of a write id is what the touches of its one transaction say.
use Rattle.std.proofs.Common.{◌≡◌, ℕ, zero, suc, ◌+◌, ◌<◌, ◌==◌, ◌&&◌, Bool, true, false, Option, Some, None, List, [], ◌∷◌, refl, sym, ap, ◌∙◌, arith, eq-eqb}
use Rattle.std.specs.Prelude.{nat_eq, take}
use Rattle.std.specs.Cmp.Lexicographic.{pointwise}
use Rattle.std.specs.List.{slice_get}
use Rattle.std.proofs.lemmas.Bool.Decides.{nat_tests}
use Rattle.hv_base.specs.declared.ids.Touch.{Touch}
use Rattle.hv_history.specs.declared.entry.Entry.{Entry}
use Rattle.hv_history.specs.declared.state.Table.{Table}
use Rattle.hv_history.specs.declared.state.Transaction.{Transaction}
use Rattle.hv_history.specs.State.{State, nothing_yet, state_of, numbered, after}
use Rattle.hv_history.specs.Legal.{profile, AllFit, AllTruthful}
use Rattle.hv_book.specs.Commits.{wrote_in}
use Rattle.hv_book.specs.Past.{total, only_if, owners_in}
use Rattle.hv_stands.specs.Sound.{IsSound}
use Rattle.hv_stands.proofs.Fitting.{fitting-sound}
use Rattle.hv_stands.proofs.Keeping.{nothing-sound}
use Rattle.hv_counts.specs.Counts.{due_by, due_if, due_of, dues_of, dues_from, dues_in, due_rows, due_at, due_sum}
use Rattle.hv_law_dues.specs.Counting.{count_of, written_sum}
use Rattle.hv_law_dues.specs.Laws.{DuesCountWrites}
use Rattle.hv_law_dues.proofs.Totals.{total-append, total-flat, total-none}
use Rattle.hv_earlier.proofs.WalkLaws.{total-same}
use Rattle.hv_law_dues.proofs.Books.{writes_in, touch_at, said_of, Said, unowned-none, said-all, nothing-said}

below-apart : (a b : ℕ) → a < b → (a == b) ≡ false
below-apart a b h = grind (arith, nat_tests, h)

above-apart : (a b : ℕ) → b < a → (a == b) ≡ false
above-apart a b h = grind (arith, nat_tests, h)

module _ (deletes : Bool) (w : ℕ) (partition : List ℕ) (table : ℕ) where
  rows-same : (kind : Bool) (write : ℕ) (touch : Touch) → due_rows kind (due_by write touch) ≡ count_of kind touch
  rows-same false write touch = refl
  rows-same true write touch = refl

  -- ---- one transaction

  one-due : (write : ℕ) (touch : Touch) (t : Bool) → (write == w) ≡ t
      → due_at deletes w partition (due_by write touch) ≡ only_if t (only_if (pointwise nat_eq touch.partition partition) (count_of deletes touch))
  one-due write touch true e =
      λ i. only_if (e i && pointwise nat_eq touch.partition partition) (rows-same deletes write touch i)
  one-due write touch false e = ap (λ b. only_if (b && pointwise nat_eq touch.partition partition) (due_rows deletes (due_by write touch))) e

  own-touch : (touch : Touch) → total (due_at deletes w partition) (due_of table w touch) ≡ touch_at deletes partition table touch
  own-touch touch = by (touch.table.0 == table)
    where
      by : (b : Bool) → total (due_at deletes w partition) (due_if b (due_by w touch))
          ≡ only_if b (only_if (pointwise nat_eq touch.partition partition) (count_of deletes touch))
      by true = let one = one-due w touch true (eq-eqb w w refl) in omega (arith, one)
      by false = refl

  other-touch : (write : ℕ) → (write == w) ≡ false → (touch : Touch) → total (due_at deletes w partition) (due_of table write touch) ≡ 0
  other-touch write apart touch = by (touch.table.0 == table)
    where
      by : (b : Bool) → total (due_at deletes w partition) (due_if b (due_by write touch)) ≡ 0
      by true = let one = one-due write touch false apart in omega (arith, one)
      by false = refl

  own-dues : (o : Option (List Touch)) → total (due_at deletes w partition) (dues_of table w o) ≡ said_of deletes partition table o
  own-dues None = refl
  own-dues (Some wrote) =
      total-flat (due_at deletes w partition) (due_of table w) wrote
      ∙ total-same (λ touch. total (due_at deletes w partition) (due_of table w touch)) (touch_at deletes partition table) own-touch wrote

  other-dues : (write : ℕ) → (write == w) ≡ false → (o : Option (List Touch)) → total (due_at deletes w partition) (dues_of table write o) ≡ 0
  other-dues write apart None = refl
  other-dues write apart (Some wrote) =
      total-flat (due_at deletes w partition) (due_of table write) wrote
      ∙ total-none (λ touch. total (due_at deletes w partition) (due_of table write touch)) (other-touch write apart) wrote

  -- ---- all write ids of a table

  module _ (transactions : List Transaction) where
    abbrev wrote_of : ℕ → Option (List Touch)
    wrote_of txn = wrote_in (numbered transactions txn)

    abbrev said_by : Option ℕ → ℕ
    said_by None = 0
    said_by (Some txn) = said_of deletes partition table (wrote_of txn)

    dues-behind : (owners : List ℕ) (first : ℕ) → w < first → total (due_at deletes w partition) (dues_from transactions table first owners) ≡ 0
    dues-behind [] first h = refl
    dues-behind (txn ∷ owners) first h =
        let both = total-append (due_at deletes w partition) (dues_of table first (wrote_of txn)) (dues_from transactions table (first + 1) owners) in
        let none = other-dues first (above-apart first w h) (wrote_of txn) in
        let rest = dues-behind owners (first + 1) (omega (arith, h)) in
        omega (arith, both, none, rest)

    dues-at : (owners : List ℕ) (first j : ℕ) → w ≡ first + j → total (due_at deletes w partition) (dues_from transactions table first owners) ≡ said_by (slice_get owners j)
    dues-at [] first j e = refl
    dues-at (txn ∷ owners) first zero e =
        let same : first ≡ w = omega (arith, e) in
        let both = total-append (due_at deletes w partition) (dues_of table first (wrote_of txn)) (dues_from transactions table (first + 1) owners) in
        let own = ap (λ n. total (due_at deletes w partition) (dues_of table n (wrote_of txn))) same ∙ own-dues (wrote_of txn) in
        let rest = dues-behind owners (first + 1) (omega (arith, e)) in
        both ∙ (λ i. own i + rest i) ∙ omega arith
    dues-at (txn ∷ owners) first (suc j) e =
        let both = total-append (due_at deletes w partition) (dues_of table first (wrote_of txn)) (dues_from transactions table (first + 1) owners) in
        let none = other-dues first (below-apart first w (omega (arith, e))) (wrote_of txn) in
        let rest = dues-at owners (first + 1) j (omega (arith, e)) in
        both ∙ (λ i. none i + rest i) ∙ omega arith

-- ---- in a state

module _ (deletes : Bool) (partition : List ℕ) (s : State) (sound : IsSound s) (said : Said deletes partition s) (k : ℕ) where
  by-owner : (w : ℕ) (o : Option ℕ) → numbered (owners_in (numbered s.tables k)) w ≡ o
      → said_by deletes w partition k s.transactions o ≡ written_sum deletes w partition (writes_in (numbered s.tables k))
  by-owner w None is = sym (unowned-none deletes partition s sound k w is)
  by-owner w (Some txn) is = said k w txn is

  pub dues-written : (w : ℕ) → due_sum deletes w partition (dues_in s k) ≡ written_sum deletes w partition (writes_in (numbered s.tables k))
  dues-written zero =
      dues-behind deletes zero partition k s.transactions (owners_in (numbered s.tables k)) 1 (omega arith) ∙ by-owner zero None refl
  dues-written (suc j) =
      dues-at deletes (suc j) partition k s.transactions (owners_in (numbered s.tables k)) 1 j (omega arith)
      ∙ by-owner (suc j) (slice_get (owners_in (numbered s.tables k)) j) refl

-- ---- in a legal book

front-truthful : (book : List Entry) (s : State) (place : ℕ) → AllTruthful s book → AllTruthful s (take place book)
front-truthful book s zero is = tt
front-truthful [] s (suc place) is = tt
front-truthful (event ∷ book) s (suc place) is = (is.0, front-truthful book (after s event) place is.1)

pub truthful-front : (book : List Entry) (place : ℕ) → AllTruthful nothing_yet book → AllTruthful nothing_yet (take place book)
truthful-front book place is = front-truthful book nothing_yet place is

pub book-dues : (book : List Entry) → AllFit profile nothing_yet book → AllTruthful nothing_yet book → (number : ℕ) (table : Table)
    → numbered (state_of book).tables number ≡ Some table → (deletes : Bool) (w : ℕ) (partition : List ℕ)
    → due_sum deletes w partition (dues_in (state_of book) number) ≡ written_sum deletes w partition table.writes
book-dues book fit is number table at deletes w partition =
    dues-written deletes partition (state_of book) (fitting-sound book fit)
    (said-all deletes partition profile book nothing_yet fit is nothing-sound (nothing-said deletes partition)) number w
    ∙ ap (λ o. written_sum deletes w partition (writes_in o)) at

pub dues-count : DuesCountWrites
dues-count book number table legal at deletes w partition = book-dues book legal.fit legal.truthful number table at deletes w partition
