-- Each entry of a transaction that is legal, and in order, is the one that one thread adds next for it; behind it fewer are left.
use Rattle.std.proofs.Common.{◌≡◌, ℕ, ◌+◌, ◌<◌, ◌≤◌, ◌⊎◌, inl, inr, Option, Some, None, List, [], ◌∷◌, ◌++◌, length, refl, sym, ap, ◌∙◌, subst, arith}
use Rattle.std.specs.Prelude.{if◌then◌else◌, ◌==◌, ◌&&◌, nat_eq, Bool, true, false, ◌||◌, IsTrue, IsFalse, IsSome, IsSomeAnd, is_some}
use Rattle.std.specs.List.{list_any, AllByRecursion}
use Rattle.std.specs.Cmp.Lexicographic.{pointwise}
use Rattle.std.proofs.lemmas.Bool.{le-ltb, lt-ltb, eq-eqb}
use Rattle.hv_base.specs.Refusals as refusals
use Rattle.hv_base.specs.declared.ids.TxnId.{TxnId}
use Rattle.hv_base.specs.declared.ids.JobId.{JobId}
use Rattle.hv_base.specs.declared.ids.TableId.{TableId}
use Rattle.hv_base.specs.declared.ids.WriteId.{WriteId}
use Rattle.hv_base.specs.declared.ids.Touch.{Touch}
use Rattle.hv_ast.specs.declared.table.CompactionKind.{CompactionKind}
use Rattle.hv_locks.specs.declared.table.Lock.{Lock}
use Rattle.hv_logic.specs.declared.catalog.TableInfo.{TableInfo}
use Rattle.hv_logic.specs.declared.effect.Effect.{Effect}
use Rattle.hv_logic.specs.declared.meaning.Meaning.{Meaning}
use Rattle.hv_logic.specs.declared.meaning.Meaning.TheVariants.{Refused, Listing, Change, Make, Unmake, Ask, Plain, Twice, RowLimit, PartitionLimit}
use Rattle.hv_route.specs.Touching.{touches_of}
use Rattle.hv_route.proofs.StandingLemmas.{touches-are-of-rows}
use Rattle.hv_history.specs.declared.entry.Entry.{Entry}
use Rattle.hv_history.specs.declared.entry.Entry.TheVariants as entry
use Rattle.hv_history.specs.declared.entry.Cause.{Cause}
use Rattle.hv_history.specs.declared.entry.Cause.TheVariants as cause
use Rattle.hv_history.specs.declared.entry.JobKind.{JobKind}
use Rattle.hv_history.specs.declared.state.Ending.{Ending}
use Rattle.hv_history.specs.declared.state.Ending.TheVariants.{Committed, Aborted, Made, Dropped}
use Rattle.hv_history.specs.declared.state.Table.{Table}
use Rattle.hv_history.specs.declared.state.Snapshot.{Snapshot}
use Rattle.hv_history.specs.declared.state.Transaction.{Transaction}
use Rattle.hv_history.specs.Asking.{numbers_in, opened_before, asked_by}
use Rattle.hv_history.specs.Jobs.{is_job_of}
use Rattle.hv_history.specs.JobsFit.{IsAsker, AskedFits, name_in}
use Rattle.hv_history.specs.JobsTrue.{Ask as AskedFor, ask_of, asks_by, stands_for, AsksNow}
use Rattle.hv_history.proofs.JobsStay.{its-job, stands-behind}
use Rattle.hv_history.specs.State.{State, numbered, meaning, opening_tree, given_in, first_of, meant_in, started, given_id, committed, ended, asked_job, changed, while_open, acted, after, state_of}
use Rattle.hv_history.specs.Legal.{Of, Fits, IsTruthful, is_started, locks_of, holds_against, first_holder, IsRunning, IsOwnTouch, StartFits, GivenFits, CommitFits, CreateFits, DropFits, CauseFits, FullFits, RequestFits, CauseIsTrue, TouchesAreMeant, HasAsked, CommitIsTrue, IsMake, NeedsId, NeedsRoom, IsRefusedAs, ConflictIsTrue, IsFirstConflict, asks_to_abort, place_of_snapshot, HasRoom, load, profile}
use Rattle.hv_history.proofs.LastingLaws.{same-changed}
use Rattle.hv_stands.specs.Sound.{IsSound}
use Rattle.hv_stands.specs.Running.{IsOf, IsOwnCause}
use Rattle.hv_stands.proofs.Numbers.{found, one_value, numbered-within}
use Rattle.hv_stands.proofs.Soundness.{all-mapped}
use Rattle.hv_stands.proofs.Keeping.{still-open, open-here}
use Rattle.hv_stands.proofs.Fitting.{cause-open}
use Rattle.hv_law_next.specs.Next.{start, abort, commit, lacks_room, starting, first_met, needs_id, next_write, giving, ending_change, changing, asking_or_end, asking_job, compacting, by_meaning, by_start, by_ending, next_of}
use Rattle.hv_law_next.specs.Order.{IsOfTable, AsksForId, HasItsId, IsUnheld, IsFaultless, IsSteady, AsksInOrder, CauseInOrder, IsInOrder}
use Rattle.hv_law_next.specs.Carrying.{IsRunningStore}
use Rattle.hv_law_next.proofs.Meetings.{none-met, first-is-met}
use Rattle.hv_law_next.proofs.Askings.{tree-same, count_asked, count-within, count-fewer}

-- ---- tests

has-room : (s : State) → HasRoom profile s 1 → lacks_room s 1 ≡ false
has-room s room = le-ltb profile.entries (load s + 1) room

no-room : (s : State) → profile.entries < load s + 1 → lacks_room s 1 ≡ true
no-room s full = lt-ltb profile.entries (load s + 1) full

holder-none : (locks : List Lock) (number : ℕ) (ts : List Transaction) → list_any (holds_against locks) ts ≡ false → first_holder locks number ts ≡ None
holder-none locks number [] none = refl
holder-none locks number (t ∷ ts) none = by (holder-none locks (number + 1) ts) (holds_against locks t) refl none
  where
    by : (list_any (holds_against locks) ts ≡ false → first_holder locks (number + 1) ts ≡ None) → (b : Bool) → holds_against locks t ≡ b → (b || list_any (holds_against locks) ts) ≡ false → first_holder locks number (t ∷ ts) ≡ None
    by rest true is e = cc
    by rest false is e = ap (λ c. if c then Some number else first_holder locks (number + 1) ts) is ∙ rest e

never : (b : Bool) → b ≡ false → b ≡ true → ⊥
never b no_ yes_ = let clash : false ≡ true = sym no_ ∙ yes_ in cc

-- what isn't a change asks for no id
abbrev IsNoChange : Option Meaning → Type 0
IsNoChange (Some (Change info effect)) = ⊥
IsNoChange o = Unit {0}

other-needs : (given : List (ℕ × ℕ)) (o : Option Meaning) → NeedsId given o → IsNoChange o → ⊥
other-needs [] (Some (Change info effect)) needs none = none
other-needs [] o needs none = needs
other-needs (x ∷ given) o needs none = needs

needs-true : (given : List (ℕ × ℕ)) (o : Option Meaning) → NeedsId given o → needs_id given o ≡ true
needs-true [] (Some (Change info effect)) needs = lt-ltb 0 (length effect.inserts + length effect.deletes) needs
needs-true [] None needs = absurd needs
needs-true [] (Some (Refused why)) needs = absurd needs
needs-true [] (Some (Listing names rows)) needs = absurd needs
needs-true [] (Some (Make shape)) needs = absurd needs
needs-true [] (Some (Unmake table)) needs = absurd needs
needs-true [] (Some (Ask table region kind)) needs = absurd needs
needs-true [] (Some Plain) needs = absurd needs
needs-true [] (Some (Twice region row)) needs = absurd needs
needs-true [] (Some RowLimit) needs = absurd needs
needs-true [] (Some PartitionLimit) needs = absurd needs
needs-true (x ∷ given) o needs = absurd needs

none-given : (table : ℕ) → IsSome (given_in table []) → ⊥
none-given table h = cc

-- a change of rows touches, so its commit has a write id
wrote-given : (info : TableInfo) (effect : Effect) (given : List (ℕ × ℕ)) (wrote : List Touch) → touches_of info effect ≡ wrote
    → AllByRecursion (λ (touch : Touch). IsSome (given_in touch.table.0 given)) wrote → needs_id given (Some (Change info effect)) ≡ false
wrote-given info effect (x ∷ given) wrote are own = refl
wrote-given info effect [] [] are own =
    let rows = (touches-are-of-rows info effect).none are in
    let inserts : length effect.inserts ≡ 0 = ap length rows.0 in
    let deletes : length effect.deletes ≡ 0 = ap length rows.1 in
    le-ltb 0 (length effect.inserts + length effect.deletes) (omega (arith, inserts, deletes))
wrote-given info effect [] (touch ∷ wrote) are own = absurd (none-given touch.table.0 own.0)

-- ---- how many entries are left at most

-- so many numbers its text lists, and of so many it has to ask for the abort still
abbrev pub listed : Transaction → ℕ
listed t = length (numbers_in (opening_tree t))

-- a job that it has to ask for still
abbrev pub unasked : Bool → ℕ
unasked true = 0
unasked false = 1

abbrev pub left_by : State → ℕ → Transaction → Option Meaning → ℕ
left_by s txn t (Some Plain) = count_asked s.transactions txn (opened_before t.snapshot) (numbers_in (opening_tree t))
left_by s txn t (Some (Ask table partition kind)) = unasked (stands_for s t (ask_of table partition kind))
left_by s txn t o = 0

abbrev pub rank_by : Option Ending → Bool → Bool → ℕ → ℕ → ℕ
rank_by (Some e) started_ needs most left = 0
rank_by None false needs most left = 3 + most
rank_by None true true most left = 2
rank_by None true false most left = 1 + left

abbrev pub rank : State → ℕ → Transaction → ℕ
rank s txn t = rank_by t.ending (is_started t) (needs_id t.given (meaning t)) (listed t) (left_by s txn t (meaning t))

unasked-most : (b : Bool) → unasked b ≤ 1
unasked-most true = omega arith
unasked-most false = omega arith

left-within : (s : State) (txn : ℕ) (t : Transaction) (o : Option Meaning) → left_by s txn t o ≤ 1 + listed t
left-within s txn t None = omega arith
left-within s txn t (Some (Refused why)) = omega arith
left-within s txn t (Some (Listing names rows)) = omega arith
left-within s txn t (Some (Change info effect)) = omega arith
left-within s txn t (Some (Make shape)) = omega arith
left-within s txn t (Some (Unmake table)) = omega arith
left-within s txn t (Some (Ask table partition kind)) =
    let one = unasked-most (stands_for s t (ask_of table partition kind)) in
    omega (arith, one)
left-within s txn t (Some Plain) =
    let within = count-within s.transactions txn (opened_before t.snapshot) (numbers_in (opening_tree t)) in
    omega (arith, within)
left-within s txn t (Some (Twice region row)) = omega arith
left-within s txn t (Some RowLimit) = omega arith
left-within s txn t (Some PartitionLimit) = omega arith

-- what asks for a write id asks for no abort
left-of-table : (s : State) (txn : ℕ) (t : Transaction) (table : TableId) (o : Option Meaning) → IsOfTable table o → left_by s txn t o ≡ 0
left-of-table s txn t table None its = absurd its
left-of-table s txn t table (Some (Refused why)) its = absurd its
left-of-table s txn t table (Some (Listing names rows)) its = absurd its
left-of-table s txn t table (Some (Change info effect)) its = refl
left-of-table s txn t table (Some (Make shape)) its = absurd its
left-of-table s txn t table (Some (Unmake other)) its = absurd its
left-of-table s txn t table (Some (Ask other region kind)) its = absurd its
left-of-table s txn t table (Some Plain) its = absurd its
left-of-table s txn t table (Some (Twice region row)) its = absurd its
left-of-table s txn t table (Some RowLimit) its = absurd its
left-of-table s txn t table (Some PartitionLimit) its = absurd its

plain-needs : (given : List (ℕ × ℕ)) → needs_id given (Some Plain) ≡ false
plain-needs [] = refl
plain-needs (x ∷ given) = refl

ask-needs : (given : List (ℕ × ℕ)) (table : TableId) (partition : List ℕ) (kind : CompactionKind) → needs_id given (Some (Ask table partition kind)) ≡ false
ask-needs [] table partition kind = refl
ask-needs (x ∷ given) table partition kind = refl

rank-open : (b c : Bool) (most left : ℕ) → 1 ≤ rank_by None b c most left
rank-open false c most left = omega arith
rank-open true true most left = omega arith
rank-open true false most left = omega arith

rank-started : (c : Bool) (most left : ℕ) → left ≤ 1 + most → rank_by None true c most left ≤ 2 + most
rank-started true most left within = omega arith
rank-started false most left within = omega (arith, within)

pub rank-within : (s : State) (txn : ℕ) (t : Transaction) → rank s txn t ≤ 3 + listed t
rank-within s txn t = by t.ending (is_started t) (needs_id t.given (meaning t)) (left_by s txn t (meaning t)) (left-within s txn t (meaning t))
  where
    by : (o : Option Ending) (b c : Bool) (left : ℕ) → left ≤ 1 + listed t → rank_by o b c (listed t) left ≤ 3 + listed t
    by (Some e) b c left within = omega arith
    by None false c left within = omega arith
    by None true true left within = omega arith
    by None true false left within = omega (arith, within)

no-more-ids : (given : List (ℕ × ℕ)) (x : ℕ × ℕ) (o : Option Meaning) → needs_id (given ++ x ∷ []) o ≡ false
no-more-ids [] x o = refl
no-more-ids (y ∷ given) x o = refl

is-started-behind : (s : State) (statement : ℕ) (t : Transaction) → is_started (started s statement t) ≡ true
is-started-behind s statement t = by t.snapshot
  where
    by : (o : Option Snapshot) → is_some (first_of o (record { place = s.entries; tables = s.tables; opened = length s.transactions })) ≡ true
    by None = refl
    by (Some snapshot) = refl

-- ---- a job that is asked for

abbrev asked_for : TableId → List ℕ → JobKind → AskedFor
asked_for table partition kind = record { table = table.0; partition = partition; kind = kind }

-- what asks for this means it
record IsAskOf (o : Option Meaning) (ask : AskedFor) : Type 0 where
  pub table : TableId
  pub partition : List ℕ
  pub kind : CompactionKind
  pub is : o ≡ Some (Ask table partition kind)
  pub same : ask_of table partition kind ≡ ask

asks-is : (o : Option Meaning) (ask : AskedFor) → asks_by o ≡ Some ask → IsAskOf o ask
asks-is (Some (Ask table partition kind)) ask e = record { table = table; partition = partition; kind = kind; is = refl; same = one_value _ _ e }
asks-is None ask e = cc
asks-is (Some (Refused why)) ask e = cc
asks-is (Some (Listing names rows)) ask e = cc
asks-is (Some (Change info effect)) ask e = cc
asks-is (Some (Make shape)) ask e = cc
asks-is (Some (Unmake table)) ask e = cc
asks-is (Some Plain) ask e = cc
asks-is (Some (Twice region row)) ask e = cc
asks-is (Some RowLimit) ask e = cc
asks-is (Some PartitionLimit) ask e = cc

-- behind an entry of that transaction it is there, and fewer are left
pub record HasFewer (txn most : ℕ) (now : State) : Type 0 where
  pub t : Transaction
  pub there : numbered now.transactions txn ≡ Some t
  pub fewer : rank now txn t < most

module _ (book : List Entry) (txn : ℕ) (t : Transaction) (at : numbered (state_of book).transactions txn ≡ Some t) where
  abbrev s : State
  s = state_of book

  here : (P : Transaction → Type 0) (id : TxnId) → id.0 ≡ txn → Of s id.0 P → P t
  here P id same h =
      let f = found P (numbered s.transactions id.0) h in
      subst P (one_value f.0 t (sym f.1 ∙ ap (numbered s.transactions) same ∙ at)) f.2

  -- ---- the next entry

  opens : t.ending ≡ None → (b : Bool) → is_started t ≡ b → next_of s txn t ≡ by_start s txn t b
  unfolding next_of
  opens none b is = ap (by_ending s txn t) none ∙ ap (by_start s txn t) is

  means : (event : Entry) → IsRunning t → (o : Option Meaning) → meaning t ≡ o → by_meaning s txn t o ≡ Some event → next_of s txn t ≡ Some event
  means event running o is e = opens (still-open t running.unended) true running.started ∙ ap (by_meaning s txn t) is ∙ e

  start-next : (statement : ℕ) → StartFits profile s statement t → next_of s txn t ≡ Some (entry.Start (record { 0 = txn }) statement)
  start-next statement fits =
      opens (still-open t fits.waiting.unended) false fits.waiting.unstarted
      ∙ ap (λ o. Some (starting s txn o)) (holder-none (locks_of t) 1 s.transactions fits.unlocked)
      ∙ ap (λ b. Some (if b then abort txn cause.Full else start txn)) (has-room s fits.room)
      ∙ ap (λ n. Some (entry.Start (record { 0 = txn }) n)) (sym fits.first)

  next-id : (write : ℕ) (o : Option Table) → IsSomeAnd o (λ (table : Table). IsTrue table.is_live × (write ≡ length table.owners + 1)) → next_write o ≡ write
  next-id write None h = absurd h
  next-id write (Some table) h = sym h.1

  given-next : (table : TableId) (write : WriteId) → GivenFits profile s table.0 write.0 t → AsksForId table t
      → next_of s txn t ≡ Some (entry.Given (record { 0 = txn }) table write)
  given-next table write fits asks = by (meaning t) refl asks.needs asks.of_table
    where
      by : (o : Option Meaning) → meaning t ≡ o → needs_id t.given (meaning t) ≡ true → IsOfTable table (meaning t)
          → next_of s txn t ≡ Some (entry.Given (record { 0 = txn }) table write)
      by (Some (Change info effect)) is needs its =
          let same : table ≡ info.table = subst (IsOfTable table) is its in
          let asked : needs_id t.given (Some (Change info effect)) ≡ true = sym (ap (needs_id t.given) is) ∙ needs in
          let number : next_write (numbered s.tables info.table.0) ≡ write.0 =
          ap (λ (x : TableId). next_write (numbered s.tables x.0)) (sym same) ∙ next-id write.0 (numbered s.tables table.0) fits.live in
          means (entry.Given (record { 0 = txn }) table write) fits.running (Some (Change info effect)) is
          (ap (λ b. Some (changing s txn t info effect b)) asked
          ∙ ap (λ b. Some (if b then abort txn cause.Full else giving s txn info)) (has-room s fits.room)
          ∙ (λ i. Some (entry.Given (record { 0 = txn }) (sym same i) (record { 0 = number i }))))
      by None is needs its = absurd (subst (IsOfTable table) is its)
      by (Some (Refused why)) is needs its = absurd (subst (IsOfTable table) is its)
      by (Some (Listing names rows)) is needs its = absurd (subst (IsOfTable table) is its)
      by (Some (Make shape)) is needs its = absurd (subst (IsOfTable table) is its)
      by (Some (Unmake other)) is needs its = absurd (subst (IsOfTable table) is its)
      by (Some (Ask other region kind)) is needs its = absurd (subst (IsOfTable table) is its)
      by (Some Plain) is needs its = absurd (subst (IsOfTable table) is its)
      by (Some (Twice region row)) is needs its = absurd (subst (IsOfTable table) is its)
      by (Some RowLimit) is needs its = absurd (subst (IsOfTable table) is its)
      by (Some PartitionLimit) is needs its = absurd (subst (IsOfTable table) is its)

  commit-next : (wrote : List Touch) → CommitFits s wrote t → CommitIsTrue s txn wrote t → next_of s txn t ≡ Some (commit txn wrote)
  commit-next wrote fits true_of = by (meaning t) refl true_of.touches
    where
      by : (o : Option Meaning) → meaning t ≡ o → TouchesAreMeant wrote (meaning t) → next_of s txn t ≡ Some (commit txn wrote)
      by (Some (Change info effect)) is truth =
          let are : wrote ≡ touches_of info effect = subst (TouchesAreMeant wrote) is truth in
          let needs : needs_id t.given (Some (Change info effect)) ≡ false =
          wrote-given info effect t.given wrote (sym are)
          (all-mapped (IsOwnTouch t) (λ (touch : Touch). IsSome (given_in touch.table.0 t.given)) (λ touch own. own.given) wrote fits.own) in
          means (commit txn wrote) fits.running (Some (Change info effect)) is
          (ap (λ b. Some (changing s txn t info effect b)) needs
          ∙ ap (λ ws. Some (ending_change txn ws (first_met (place_of_snapshot t.snapshot) ws 1 s.transactions))) (sym are)
          ∙ ap (λ o. Some (ending_change txn wrote o)) (none-met (place_of_snapshot t.snapshot) wrote 1 s.transactions fits.clear))
      by (Some (Listing names rows)) is truth =
          let none : wrote ≡ [] = subst (TouchesAreMeant wrote) is truth in
          means (commit txn wrote) fits.running (Some (Listing names rows)) is (ap (λ ws. Some (commit txn ws)) (sym none))
      by (Some (Ask table partition kind)) is truth =
          let none : wrote ≡ [] = subst (TouchesAreMeant wrote) is truth in
          let stands : stands_for s t (ask_of table partition kind) ≡ true = subst (HasAsked s txn t) is true_of.asked in
          means (commit txn wrote) fits.running (Some (Ask table partition kind)) is
          (ap (λ (b : Bool). Some (compacting s txn table partition kind b)) stands ∙ ap (λ ws. Some (commit txn ws)) (sym none))
      by (Some Plain) is truth =
          let none : wrote ≡ [] = subst (TouchesAreMeant wrote) is truth in
          let all : asked_by s txn t ≡ None = subst (HasAsked s txn t) is true_of.asked in
          means (commit txn wrote) fits.running (Some Plain) is
          (ap (λ o. Some (asking_or_end txn o)) all ∙ ap (λ ws. Some (commit txn ws)) (sym none))
      by None is truth = absurd (subst (TouchesAreMeant wrote) is truth)
      by (Some (Refused why)) is truth = absurd (subst (TouchesAreMeant wrote) is truth)
      by (Some (Make shape)) is truth = absurd (subst (TouchesAreMeant wrote) is truth)
      by (Some (Unmake table)) is truth = absurd (subst (TouchesAreMeant wrote) is truth)
      by (Some (Twice region row)) is truth = absurd (subst (TouchesAreMeant wrote) is truth)
      by (Some RowLimit) is truth = absurd (subst (TouchesAreMeant wrote) is truth)
      by (Some PartitionLimit) is truth = absurd (subst (TouchesAreMeant wrote) is truth)

  create-next : (table : TableId) → CreateFits s table.0 t → IsMake (meaning t) → next_of s txn t ≡ Some (entry.Create (record { 0 = txn }) table)
  create-next table fits truth = by (meaning t) refl truth
    where
      by : (o : Option Meaning) → meaning t ≡ o → IsMake (meaning t) → next_of s txn t ≡ Some (entry.Create (record { 0 = txn }) table)
      by (Some (Make shape)) is truth =
          means (entry.Create (record { 0 = txn }) table) fits.running (Some (Make shape)) is
          (ap (λ n. Some (entry.Create (record { 0 = txn }) (record { 0 = n }))) (sym fits.next))
      by None is truth = absurd (subst IsMake is truth)
      by (Some (Change info effect)) is truth = absurd (subst IsMake is truth)
      by (Some (Refused why)) is truth = absurd (subst IsMake is truth)
      by (Some (Listing names rows)) is truth = absurd (subst IsMake is truth)
      by (Some (Unmake other)) is truth = absurd (subst IsMake is truth)
      by (Some (Ask other region kind)) is truth = absurd (subst IsMake is truth)
      by (Some Plain) is truth = absurd (subst IsMake is truth)
      by (Some (Twice region row)) is truth = absurd (subst IsMake is truth)
      by (Some RowLimit) is truth = absurd (subst IsMake is truth)
      by (Some PartitionLimit) is truth = absurd (subst IsMake is truth)

  drop-next : (table : TableId) → DropFits s table.0 t → meaning t ≡ Some (Unmake table) → next_of s txn t ≡ Some (entry.Drop (record { 0 = txn }) table)
  drop-next table fits truth = means (entry.Drop (record { 0 = txn }) table) fits.running (Some (Unmake table)) truth refl

  refused-next : (number : ℕ) → IsRunning t → IsRefusedAs number (meaning t) → next_of s txn t ≡ Some (abort txn (cause.Refused number))
  refused-next number running truth = by (meaning t) refl truth
    where
      by : (o : Option Meaning) → meaning t ≡ o → IsRefusedAs number (meaning t) → next_of s txn t ≡ Some (abort txn (cause.Refused number))
      by (Some (Refused why)) is truth =
          let same : number ≡ refusals.number why = subst (IsRefusedAs number) is truth in
          means (abort txn (cause.Refused number)) running (Some (Refused why)) is (ap (λ n. Some (abort txn (cause.Refused n))) (sym same))
      by None is truth = absurd (subst (IsRefusedAs number) is truth)
      by (Some (Change info effect)) is truth = absurd (subst (IsRefusedAs number) is truth)
      by (Some (Listing names rows)) is truth = absurd (subst (IsRefusedAs number) is truth)
      by (Some (Make shape)) is truth = absurd (subst (IsRefusedAs number) is truth)
      by (Some (Unmake table)) is truth = absurd (subst (IsRefusedAs number) is truth)
      by (Some (Ask table region kind)) is truth = absurd (subst (IsRefusedAs number) is truth)
      by (Some Plain) is truth = absurd (subst (IsRefusedAs number) is truth)
      by (Some (Twice region row)) is truth = absurd (subst (IsRefusedAs number) is truth)
      by (Some RowLimit) is truth = absurd (subst (IsRefusedAs number) is truth)
      by (Some PartitionLimit) is truth = absurd (subst (IsRefusedAs number) is truth)

  conflict-next : (other : TxnId) (table : TableId) (partition : List ℕ) → IsRunning t → ConflictIsTrue s other.0 table.0 partition t (meaning t) → HasItsId t
      → next_of s txn t ≡ Some (abort txn (cause.Conflict other table partition))
  conflict-next other table partition running truth order = by (meaning t) refl truth
    where
      by : (o : Option Meaning) → meaning t ≡ o → ConflictIsTrue s other.0 table.0 partition t (meaning t)
          → next_of s txn t ≡ Some (abort txn (cause.Conflict other table partition))
      by (Some (Change info effect)) is truth =
          let h : IsFirstConflict s (place_of_snapshot t.snapshot) (touches_of info effect) other.0 table.0 partition =
          subst (ConflictIsTrue s other.0 table.0 partition t) is truth in
          let needs : needs_id t.given (Some (Change info effect)) ≡ false = sym (ap (needs_id t.given) is) ∙ order in
          let first = first-is-met book (place_of_snapshot t.snapshot) (touches_of info effect) other.0 table.0 partition h in
          let table_is = h.table_is in
          let partition_is = h.partition_is in
          means (abort txn (cause.Conflict other table partition)) running (Some (Change info effect)) is
          (ap (λ b. Some (changing s txn t info effect b)) needs
          ∙ ap (λ o. Some (ending_change txn (touches_of info effect) o)) first
          ∙ (λ i. Some (abort txn (cause.Conflict other (record { 0 = sym table_is i }) (sym partition_is i)))))
      by None is truth = absurd (subst (ConflictIsTrue s other.0 table.0 partition t) is truth)
      by (Some (Refused why)) is truth = absurd (subst (ConflictIsTrue s other.0 table.0 partition t) is truth)
      by (Some (Listing names rows)) is truth = absurd (subst (ConflictIsTrue s other.0 table.0 partition t) is truth)
      by (Some (Make shape)) is truth = absurd (subst (ConflictIsTrue s other.0 table.0 partition t) is truth)
      by (Some (Unmake dropped)) is truth = absurd (subst (ConflictIsTrue s other.0 table.0 partition t) is truth)
      by (Some (Ask of_table region kind)) is truth = absurd (subst (ConflictIsTrue s other.0 table.0 partition t) is truth)
      by (Some Plain) is truth = absurd (subst (ConflictIsTrue s other.0 table.0 partition t) is truth)
      by (Some (Twice region row)) is truth = absurd (subst (ConflictIsTrue s other.0 table.0 partition t) is truth)
      by (Some RowLimit) is truth = absurd (subst (ConflictIsTrue s other.0 table.0 partition t) is truth)
      by (Some PartitionLimit) is truth = absurd (subst (ConflictIsTrue s other.0 table.0 partition t) is truth)

  full-unstarted : FullFits profile s t → IsUnheld s t → is_started t ≡ false → next_of s txn t ≡ Some (abort txn cause.Full)
  full-unstarted fits order unstarted =
      opens (still-open t fits.unended) false unstarted
      ∙ ap (λ o. Some (starting s txn o)) (order unstarted)
      ∙ ap (λ b. Some (if b then abort txn cause.Full else start txn)) (no-room s fits.full)

  full-asked : FullFits profile s t → NeedsRoom s t (meaning t) → is_started t ≡ true → next_of s txn t ≡ Some (abort txn cause.Full)
  full-asked fits needs started_ = by (meaning t) refl
    where
      by : (o : Option Meaning) → meaning t ≡ o → next_of s txn t ≡ Some (abort txn cause.Full)
      by (Some (Change info effect)) is =
          let asks : needs_id t.given (Some (Change info effect)) ≡ true =
          needs-true t.given (Some (Change info effect)) (subst (NeedsRoom s t) is needs) in
          means (abort txn cause.Full) (record { unended = fits.unended; started = started_ }) (Some (Change info effect)) is
          (ap (λ b. Some (changing s txn t info effect b)) asks ∙ ap (λ b. Some (if b then abort txn cause.Full else giving s txn info)) (no-room s fits.full))
      by (Some (Ask table partition kind)) is =
          let asks : stands_for s t (ask_of table partition kind) ≡ false = subst (NeedsRoom s t) is needs in
          means (abort txn cause.Full) (record { unended = fits.unended; started = started_ }) (Some (Ask table partition kind)) is
          (ap (λ (b : Bool). Some (compacting s txn table partition kind b)) asks
          ∙ ap (λ b. Some (if b then abort txn cause.Full else asking_job s txn table partition kind)) (no-room s fits.full))
      by None is = absurd (other-needs t.given None (subst (NeedsRoom s t) is needs) tt)
      by (Some (Refused why)) is = absurd (other-needs t.given (Some (Refused why)) (subst (NeedsRoom s t) is needs) tt)
      by (Some (Listing names rows)) is = absurd (other-needs t.given (Some (Listing names rows)) (subst (NeedsRoom s t) is needs) tt)
      by (Some (Make shape)) is = absurd (other-needs t.given (Some (Make shape)) (subst (NeedsRoom s t) is needs) tt)
      by (Some (Unmake table)) is = absurd (other-needs t.given (Some (Unmake table)) (subst (NeedsRoom s t) is needs) tt)
      by (Some Plain) is = absurd (other-needs t.given (Some Plain) (subst (NeedsRoom s t) is needs) tt)
      by (Some (Twice region row)) is = absurd (other-needs t.given (Some (Twice region row)) (subst (NeedsRoom s t) is needs) tt)
      by (Some RowLimit) is = absurd (other-needs t.given (Some RowLimit) (subst (NeedsRoom s t) is needs) tt)
      by (Some PartitionLimit) is = absurd (other-needs t.given (Some PartitionLimit) (subst (NeedsRoom s t) is needs) tt)

  -- a job that it asks for
  asked-next : (job : JobId) (table : TableId) (partition : List ℕ) (kind : JobKind) → AskedFits profile s job.0 table.0 partition kind txn
      → IsRunning t → AsksNow s (asked_for table partition kind) t → next_of s txn t ≡ Some (entry.Asked job table partition kind txn)
  asked-next job table partition kind fits running asks =
      let of = asks-is (meaning t) (asked_for table partition kind) asks.asks in
      let idle : stands_for s t (ask_of of.table of.partition of.kind) ≡ false = ap (stands_for s t) of.same ∙ asks.now in
      let number : job.0 ≡ length s.jobs + 1 = fits.next in
      means (entry.Asked job table partition kind txn) running (Some (Ask of.table of.partition of.kind)) of.is
      (ap (λ (b : Bool). Some (compacting s txn of.table of.partition of.kind b)) idle
      ∙ ap (λ (b : Bool). Some (if b then abort txn cause.Full else asking_job s txn of.table of.partition of.kind)) (has-room s fits.room)
      ∙ (λ i. Some (entry.Asked (record { 0 = sym number i }) (record { 0 = (of.same i).table }) (of.same i).partition (of.same i).kind txn)))

  request-next : (other : TxnId) → IsRunning t → AsksInOrder s other.0 txn t
      → next_of s txn t ≡ Some (entry.Abort other (cause.Request (record { 0 = txn })))
  request-next other running asks =
      means (entry.Abort other (cause.Request (record { 0 = txn }))) running (Some Plain) asks.plain
      (ap (λ o. Some (asking_or_end txn o)) asks.first)

  abort-next : (why : Cause) → IsOwnCause why → IsRunningStore s → CauseFits profile s txn why t → CauseIsTrue s why t → IsFaultless why
      → CauseInOrder s txn why t → next_of s txn t ≡ Some (abort txn why)
  abort-next (cause.Refused number) own running fits truth steady order = refused-next number fits truth
  abort-next (cause.Conflict other table partition) own running fits truth steady order = conflict-next other table partition fits.running truth order
  abort-next (cause.Request other) own running fits truth steady order = absurd own
  abort-next cause.Full own running fits truth steady order = by (is_started t) refl truth
    where
      by : (b : Bool) → is_started t ≡ b → IsFalse (is_started t) ⊎ NeedsRoom s t (meaning t) → next_of s txn t ≡ Some (abort txn cause.Full)
      by false is either = full-unstarted fits order is
      by true is (inl unstarted) = absurd (never (is_started t) unstarted is)
      by true is (inr needs) = full-asked fits needs is
  abort-next (cause.Twice partition row) own running fits truth steady order =
      means (abort txn (cause.Twice partition row)) fits (Some (Twice partition row)) truth refl
  abort-next (cause.Blocked holder) own running fits truth steady order =
      opens (still-open t fits.waiting.unended) false fits.waiting.unstarted
      ∙ ap (λ o. Some (starting s txn o)) fits.held
  abort-next (cause.ReadFault count) own running fits truth steady order = absurd steady
  abort-next (cause.WriteFault count) own running fits truth steady order = absurd steady
  abort-next (cause.Damaged place) own running fits truth steady order = absurd steady
  abort-next cause.RowLimit own running fits truth steady order = means (abort txn cause.RowLimit) fits (Some RowLimit) truth refl
  abort-next cause.PartitionLimit own running fits truth steady order = means (abort txn cause.PartitionLimit) fits (Some PartitionLimit) truth refl
  abort-next cause.Memory own running fits truth steady order = absurd steady
  abort-next cause.Lost own running fits truth steady order = absurd (never s.openings.only_lost running fits.behind)
  abort-next cause.Rollback own running fits truth steady order = absurd fits

  -- ---- how many are left

  fewer-by : (f : Transaction → Transaction) (now : State) → now.transactions ≡ changed (while_open f) s.transactions txn → t.ending ≡ None
      → rank now txn (f t) < rank s txn t → HasFewer txn (rank s txn t) now
  fewer-by f now are none less = record {
    t = f t;
    there = ap (λ ts. numbered ts txn) are ∙ open-here f s.transactions txn t at none;
    fewer = less;
  }

  unended-rank : (now : State) (u : Transaction) → u.ending ≡ None
      → rank now txn u ≡ rank_by None (is_started u) (needs_id u.given (meaning u)) (listed u) (left_by now txn u (meaning u))
  unended-rank now u none =
      ap (λ o. rank_by o (is_started u) (needs_id u.given (meaning u)) (listed u) (left_by now txn u (meaning u))) none

  ends-fewer : (f : Transaction → Transaction) (ending_ : Ending) (now : State) → now.transactions ≡ changed (while_open f) s.transactions txn → t.ending ≡ None
      → (f t).ending ≡ Some ending_ → HasFewer txn (rank s txn t) now
  ends-fewer f ending_ now are none ends =
      let before = unended-rank s t none in
      let one = rank-open (is_started t) (needs_id t.given (meaning t)) (listed t) (left_by s txn t (meaning t)) in
      let behind : rank now txn (f t) ≡ 0 =
      ap (λ o. rank_by o (is_started (f t)) (needs_id (f t).given (meaning (f t))) (listed (f t)) (left_by now txn (f t) (meaning (f t)))) ends in
      fewer-by f now are none (omega (arith, before, one, behind))

  start-fewer : (statement : ℕ) → StartFits profile s statement t → HasFewer txn (rank s txn t) (after s (entry.Start (record { 0 = txn }) statement))
  unfolding acted
  start-fewer statement fits =
      let none = still-open t fits.waiting.unended in
      let now : State = after s (entry.Start (record { 0 = txn }) statement) in
      let next : Transaction = started s statement t in
      let left : ℕ = left_by now txn next (meaning next) in
      let before : rank s txn t ≡ 3 + listed t =
      unended-rank s t none
      ∙ ap (λ b. rank_by None b (needs_id t.given (meaning t)) (listed t) (left_by s txn t (meaning t))) fits.waiting.unstarted in
      let behind : rank now txn next ≡ rank_by None true (needs_id next.given (meaning next)) (listed next) left =
      unended-rank now next none
      ∙ ap (λ b. rank_by None b (needs_id next.given (meaning next)) (listed next) left) (is-started-behind s statement t) in
      let two = rank-started (needs_id next.given (meaning next)) (listed next) left (left-within now txn next (meaning next)) in
      let same : listed next ≡ listed t =
      ap (λ o. length (numbers_in o)) (tree-same (meant_in s) (λ x. refl) t.statements statement 0) in
      fewer-by (started s statement) now refl none (omega (arith, before, behind, two, same))

  given-fewer : (table : TableId) (write : WriteId) → GivenFits profile s table.0 write.0 t → AsksForId table t
      → HasFewer txn (rank s txn t) (after s (entry.Given (record { 0 = txn }) table write))
  unfolding acted
  given-fewer table write fits asks =
      let none = still-open t fits.running.unended in
      let now : State = after s (entry.Given (record { 0 = txn }) table write) in
      let next : Transaction = given_id table.0 write.0 t in
      let before : rank s txn t ≡ 2 =
      unended-rank s t none
      ∙ ap (λ b. rank_by None b (needs_id t.given (meaning t)) (listed t) (left_by s txn t (meaning t))) fits.running.started
      ∙ ap (λ b. rank_by None true b (listed t) (left_by s txn t (meaning t))) asks.needs in
      let behind : rank now txn next ≡ 1 =
      unended-rank now next none
      ∙ ap (λ b. rank_by None b (needs_id next.given (meaning t)) (listed next) (left_by now txn next (meaning t))) fits.running.started
      ∙ ap (λ b. rank_by None true b (listed next) (left_by now txn next (meaning t))) (no-more-ids t.given (table.0, write.0) (meaning t))
      ∙ ap (λ n. 1 + n) (left-of-table now txn next table (meaning t) asks.of_table) in
      fewer-by (given_id table.0 write.0) now refl none (omega (arith, before, behind))

  -- an abort that it asks for leaves its own record, and one number fewer
  request-fewer : (other : TxnId) → IsRunning t → (other.0 ≡ txn → ⊥) → AsksInOrder s other.0 txn t
      → HasFewer txn (rank s txn t) (after s (entry.Abort other (cause.Request (record { 0 = txn }))))
  unfolding acted
  request-fewer other running apart asks =
      let none = still-open t running.unended in
      let ending_ : Ending = Aborted s.entries (cause.Request (record { 0 = txn })) in
      let now : State = after s (entry.Abort other (cause.Request (record { 0 = txn }))) in
      let needs : needs_id t.given (meaning t) ≡ false = ap (needs_id t.given) asks.plain ∙ plain-needs t.given in
      let of_it : (x : State) → rank x txn t ≡ 1 + left_by x txn t (Some Plain) = λ x.
      unended-rank x t none
      ∙ ap (λ b. rank_by None b (needs_id t.given (meaning t)) (listed t) (left_by x txn t (meaning t))) running.started
      ∙ ap (λ b. rank_by None true b (listed t) (left_by x txn t (meaning t))) needs
      ∙ ap (λ o. 1 + left_by x txn t o) asks.plain in
      let before : rank s txn t ≡ 1 + count_asked s.transactions txn (opened_before t.snapshot) (numbers_in (opening_tree t)) = of_it s in
      let behind : rank now txn t
      ≡ 1 + count_asked (changed (while_open (ended ending_)) s.transactions other.0) txn (opened_before t.snapshot) (numbers_in (opening_tree t)) =
      of_it now in
      let fewer : count_asked (changed (while_open (ended ending_)) s.transactions other.0) txn (opened_before t.snapshot) (numbers_in (opening_tree t))
      < count_asked s.transactions txn (opened_before t.snapshot) (numbers_in (opening_tree t)) =
      count-fewer ending_ s.transactions txn (opened_before t.snapshot) other.0 (numbers_in (opening_tree t)) asks.first in
      record {
        t = t;
        there = same-changed (while_open (ended ending_)) s.transactions other.0 txn apart ∙ at;
        fewer = omega (arith, before, behind, fewer);
      }

  -- the job that it asks for is busy then, and it has none left to ask for
  asked-fewer : (job : JobId) (table : TableId) (partition : List ℕ) (kind : JobKind) → IsRunning t → AsksNow s (asked_for table partition kind) t
      → HasFewer txn (rank s txn t) (after s (entry.Asked job table partition kind txn))
  unfolding acted
  asked-fewer job table partition kind running asks =
      let none = still-open t running.unended in
      let of = asks-is (meaning t) (asked_for table partition kind) asks.asks in
      let now : State = after s (entry.Asked job table partition kind txn) in
      let needs : needs_id t.given (meaning t) ≡ false = ap (needs_id t.given) of.is ∙ ask-needs t.given of.table of.partition of.kind in
      let of_it : (x : State) → rank x txn t ≡ 1 + unasked (stands_for x t (asked_for table partition kind)) = λ x.
      unended-rank x t none
      ∙ ap (λ b. rank_by None b (needs_id t.given (meaning t)) (listed t) (left_by x txn t (meaning t))) running.started
      ∙ ap (λ b. rank_by None true b (listed t) (left_by x txn t (meaning t))) needs
      ∙ ap (λ o. 1 + left_by x txn t o) of.is
      ∙ ap (λ (ask : AskedFor). 1 + unasked (stands_for x t ask)) of.same in
      let before : rank s txn t ≡ 2 = of_it s ∙ ap (λ (b : Bool). 1 + unasked b) asks.now in
      let behind : rank now txn t ≡ 1 =
      of_it now
      ∙ ap (λ (b : Bool). 1 + unasked b)
      (stands-behind (asked_for table partition kind) t s.jobs (asked_job s.entries table.0 partition kind txn) (its-job s.entries table.0 partition kind txn) refl) in
      record {
        t = t;
        there = at;
        fewer = omega (arith, before, behind);
      }

  commit-fewer : (wrote : List Touch) → CommitFits s wrote t → HasFewer txn (rank s txn t) (after s (entry.Commit (record { 0 = txn }) wrote))
  unfolding acted
  commit-fewer wrote fits =
      ends-fewer (committed s.entries wrote) (Committed s.entries wrote) (after s (entry.Commit (record { 0 = txn }) wrote)) refl (still-open t fits.running.unended) refl

  create-fewer : (table : TableId) → CreateFits s table.0 t → HasFewer txn (rank s txn t) (after s (entry.Create (record { 0 = txn }) table))
  unfolding acted
  create-fewer table fits =
      ends-fewer (ended (Made s.entries table.0)) (Made s.entries table.0) (after s (entry.Create (record { 0 = txn }) table)) refl (still-open t fits.running.unended) refl

  drop-fewer : (table : TableId) → DropFits s table.0 t → HasFewer txn (rank s txn t) (after s (entry.Drop (record { 0 = txn }) table))
  unfolding acted
  drop-fewer table fits =
      ends-fewer (ended (Dropped s.entries table.0)) (Dropped s.entries table.0) (after s (entry.Drop (record { 0 = txn }) table)) refl (still-open t fits.running.unended) refl

  abort-fewer : (why : Cause) → CauseFits profile s txn why t → HasFewer txn (rank s txn t) (after s (entry.Abort (record { 0 = txn }) why))
  unfolding acted
  abort-fewer why fits =
      ends-fewer (ended (Aborted s.entries why)) (Aborted s.entries why) (after s (entry.Abort (record { 0 = txn }) why)) refl
      (still-open t (cause-open profile s txn why t fits)) refl

-- an entry that one thread adds next for that transaction
pub record IsNext (book : List Entry) (txn : ℕ) (t : Transaction) (event : Entry) : Type 0 where
  pub next : next_of (state_of book) txn t ≡ Some event
  pub later : HasFewer txn (rank (state_of book) txn t) (after (state_of book) event)

pub record IsGood (txn : ℕ) (s : State) (event : Entry) : Type 0 where
  pub of_it : IsOf txn event
  pub fits : Fits profile s event
  pub truth : IsTruthful s event
  pub steady : IsSteady event
  pub in_order : IsInOrder s event

asked-is : (book : List Entry) (txn : ℕ) (t : Transaction) (at : numbered (state_of book).transactions txn ≡ Some t)
    (job : JobId) (table : TableId) (partition : List ℕ) (kind : JobKind) (by_ : ℕ) → AskedFits profile (state_of book) job.0 table.0 partition kind txn
    → 1 ≤ txn → by_ ≡ txn → (txn ≡ 0) ⊎ Of (state_of book) txn (IsAsker (name_in (numbered (state_of book).tables table.0)) kind)
    → (by_ ≡ 0) ⊎ Of (state_of book) by_ (AsksNow (state_of book) (asked_for table partition kind))
    → IsNext book txn t (entry.Asked job table partition kind txn)
asked-is book txn t at job table partition kind by_ fits some same (inl nobody) truth = absurd (omega (arith, nobody, some))
asked-is book txn t at job table partition kind by_ fits some same (inr asker) (inl nobody) = absurd (omega (arith, nobody, some, same))
asked-is book txn t at job table partition kind by_ fits some same (inr asker) (inr asks) =
    let its = here book txn t at (IsAsker (name_in (numbered (state_of book).tables table.0)) kind) (record { 0 = txn }) refl asker in
    let now = here book txn t at (AsksNow (state_of book) (asked_for table partition kind)) (record { 0 = by_ }) same asks in
    record {
      next = asked-next book txn t at job table partition kind fits its.running now;
      later = asked-fewer book txn t at job table partition kind its.running now;
    }

pub next-is : (book : List Entry) (txn : ℕ) (t : Transaction) (event : Entry) → numbered (state_of book).transactions txn ≡ Some t → IsSound (state_of book)
    → IsRunningStore (state_of book) → IsGood txn (state_of book) event → IsNext book txn t event
next-is book txn t (entry.Start id statement) at sound running good =
    let same : id.0 ≡ txn = one_value id.0 txn good.of_it in
    let fits = here book txn t at (StartFits profile (state_of book) statement) id same good.fits in
    subst (λ n. IsNext book txn t (entry.Start (record { 0 = n }) statement)) (sym same)
    (record { next = start-next book txn t at statement fits; later = start-fewer book txn t at statement fits })
next-is book txn t (entry.Given id table write) at sound running good =
    let same : id.0 ≡ txn = one_value id.0 txn good.of_it in
    let fits = here book txn t at (GivenFits profile (state_of book) table.0 write.0) id same good.fits in
    let asks = here book txn t at (AsksForId table) id same good.in_order in
    subst (λ n. IsNext book txn t (entry.Given (record { 0 = n }) table write)) (sym same)
    (record { next = given-next book txn t at table write fits asks; later = given-fewer book txn t at table write fits asks })
next-is book txn t (entry.Commit id wrote) at sound running good =
    let same : id.0 ≡ txn = one_value id.0 txn good.of_it in
    let fits = here book txn t at (CommitFits (state_of book) wrote) id same good.fits in
    let truth0 = here book txn t at (CommitIsTrue (state_of book) id.0 wrote) id same good.truth in
    let truth : CommitIsTrue (state_of book) txn wrote t = subst (λ n. CommitIsTrue (state_of book) n wrote t) same truth0 in
    subst (λ n. IsNext book txn t (entry.Commit (record { 0 = n }) wrote)) (sym same)
    (record { next = commit-next book txn t at wrote fits truth; later = commit-fewer book txn t at wrote fits })
next-is book txn t (entry.Create id table) at sound running good =
    let same : id.0 ≡ txn = one_value id.0 txn good.of_it in
    let fits = here book txn t at (CreateFits (state_of book) table.0) id same good.fits in
    let truth = here book txn t at (λ x. IsMake (meaning x)) id same good.truth in
    subst (λ n. IsNext book txn t (entry.Create (record { 0 = n }) table)) (sym same)
    (record { next = create-next book txn t at table fits truth; later = create-fewer book txn t at table fits })
next-is book txn t (entry.Drop id table) at sound running good =
    let same : id.0 ≡ txn = one_value id.0 txn good.of_it in
    let fits = here book txn t at (DropFits (state_of book) table.0) id same good.fits in
    let truth = here book txn t at (λ x. meaning x ≡ Some (Unmake table)) id same good.truth in
    subst (λ n. IsNext book txn t (entry.Drop (record { 0 = n }) table)) (sym same)
    (record { next = drop-next book txn t at table fits truth; later = drop-fewer book txn t at table fits })
next-is book txn t (entry.Abort id (cause.Request by_)) at sound running good =
    let same : by_.0 ≡ txn = one_value by_.0 txn good.of_it in
    let fits = found (RequestFits (state_of book) id.0 by_.0) (numbered (state_of book).transactions id.0) good.fits in
    let asker = here book txn t at (λ x. IsRunning x × IsTrue (asks_to_abort id.0 (opening_tree x))) by_ same fits.2.asks in
    let order = found (CauseInOrder (state_of book) id.0 (cause.Request by_)) (numbered (state_of book).transactions id.0) good.in_order in
    let asks0 = here book txn t at (AsksInOrder (state_of book) id.0 by_.0) by_ same order.2 in
    let asks : AsksInOrder (state_of book) id.0 txn t = subst (λ n. AsksInOrder (state_of book) id.0 n t) same asks0 in
    let apart : id.0 ≡ txn → ⊥ = λ e. fits.2.other (same ∙ sym e) in
    subst (λ n. IsNext book txn t (entry.Abort id (cause.Request (record { 0 = n })))) (sym same)
    (record { next = request-next book txn t at id asker.0 asks; later = request-fewer book txn t at id asker.0 apart asks })
next-is book txn t (entry.Abort id why) at sound running good =
    let same : id.0 ≡ txn = one_value id.0 txn good.of_it in
    let fits0 = here book txn t at (CauseFits profile (state_of book) id.0 why) id same good.fits in
    let fits : CauseFits profile (state_of book) txn why t = subst (λ n. CauseFits profile (state_of book) n why t) same fits0 in
    let truth = here book txn t at (CauseIsTrue (state_of book) why) id same good.truth in
    let order0 = here book txn t at (CauseInOrder (state_of book) id.0 why) id same good.in_order in
    let order : CauseInOrder (state_of book) txn why t = subst (λ n. CauseInOrder (state_of book) n why t) same order0 in
    subst (λ n. IsNext book txn t (entry.Abort (record { 0 = n }) why)) (sym same)
    (record { next = abort-next book txn t at why tt running fits truth good.steady order; later = abort-fewer book txn t at why fits })
next-is book txn t (entry.Opened id session number text) at sound running good =
    let same : id.0 ≡ txn = one_value id.0 txn good.of_it in
    let next = good.fits.next in
    let within = (numbered-within (state_of book).transactions txn t at).1 in
    absurd (omega (arith, same, next, within))
next-is book txn t (entry.Boot run) at sound running good = let never_ : None ≡ Some txn = good.of_it in cc
next-is book txn t (entry.Asked job table partition kind by_) at sound running good =
    let same : by_ ≡ txn = one_value by_ txn good.of_it in
    let fits : AskedFits profile (state_of book) job.0 table.0 partition kind txn =
    subst (λ n. AskedFits profile (state_of book) job.0 table.0 partition kind n) same good.fits in
    let within = (numbered-within (state_of book).transactions txn t at).0 in
    subst (λ n. IsNext book txn t (entry.Asked job table partition kind n)) (sym same)
    (asked-is book txn t at job table partition kind by_ fits within same fits.asker good.truth)
next-is book txn t (entry.Picked job mark) at sound running good = let never_ : None ≡ Some txn = good.of_it in cc
next-is book txn t (entry.Published job low high mark) at sound running good = let never_ : None ≡ Some txn = good.of_it in cc
next-is book txn t (entry.Empty job) at sound running good = let never_ : None ≡ Some txn = good.of_it in cc
next-is book txn t (entry.Cleaned job) at sound running good = let never_ : None ≡ Some txn = good.of_it in cc
next-is book txn t (entry.Failed job why) at sound running good = let never_ : None ≡ Some txn = good.of_it in cc
next-is book txn t (entry.Forgot table write) at sound running good = let never_ : None ≡ Some txn = good.of_it in cc
next-is book txn t event at sound running good = absurd good.fits
