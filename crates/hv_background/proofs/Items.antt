-- The items of a round pass the test of their kind.
use Rattle.std.proofs.Common.{◌≡◌, ◌⊎◌, inl, inr, ℕ, Bool, true, false, Option, Some, None, List, [], ◌∷◌, ◌++◌, take, refl, sym, ap, subst, Ok, Err, Result}
use Rattle.std.specs.Prelude.{not, IfOk}
use Rattle.std.specs.List.{AllByRecursion}
use Rattle.hv_base.specs.declared.ids.JobId.{JobId}
use Rattle.hv_history.specs.declared.entry.Entry.{Entry}
use Rattle.hv_history.specs.declared.entry.Entry.TheVariants as entry
use Rattle.hv_history.specs.declared.entry.JobKind.{JobKind}
use Rattle.hv_history.specs.State.{state_of}
use Rattle.hv_history.specs.Jobs.{due}
use Rattle.hv_shelf.specs.Disk.{Store}
use Rattle.hv_trail.specs.declared.trail.Reader.{Reader}
use Rattle.hv_trail.specs.declared.trail.TrailItem.{TrailItem}
use Rattle.hv_trail.specs.declared.trail.TrailItem.TheVariants.{Noted, Marked}
use Rattle.hv_trail.specs.declared.trail.Mark.TheVariants.{Wrote, Broke, Went}
use Rattle.hv_trail.specs.Trail.{book_of}
use Rattle.hv_actor.specs.Acting.{AreRows, Setting, Moment, among, numbers_from}
use Rattle.hv_clean.specs.hv_job_acts.specs.hv_acts.specs.declared.told.ToldHouse.{ToldHouse}
use Rattle.hv_clean.specs.hv_job_acts.specs.hv_acts.specs.Going.{IsOpenHouse}
use Rattle.hv_clean.specs.hv_job_acts.specs.declared.asking.PartAt.{PartAt}
use Rattle.hv_clean.specs.hv_job_acts.specs.declared.asking.LostId.{LostId}
use Rattle.hv_clean.specs.hv_job_acts.specs.hv_acts.specs.Told.{book_in}
use Rattle.hv_clean.specs.hv_job_acts.specs.Work.{parts_in, ready_in}
use Rattle.hv_compact.specs.declared.compacting.Done.{Done}
use Rattle.hv_compact.specs.declared.compacting.Done.TheVariants as done
use Rattle.hv_compact.specs.declared.fault.RunFault.{RunFault}
use Rattle.hv_compact.specs.Compacting.{IsMarkOf, IsWroteOf, EndsBy, CompactsSo, IsPickedThen, StopsWith}
use Rattle.hv_compact.specs.Initiating.{asks_kind, asks_for, AreTurns, Initiates, InitiatesLess}
use Rattle.hv_compact.proofs.Adds.{adds-none, adds-more}
use Rattle.hv_clean.specs.declared.fault.PassFault.{PassFault}
use Rattle.hv_clean.specs.declared.fault.Swept.{Swept}
use Rattle.hv_clean.specs.Fronts.{PassFront, StopsBehind}
use Rattle.hv_clean.specs.Passing.{count_cleaned, count_forgotten, nothing, IsSwept, Sweeps, Asks, LeftOf, IsCleanedNow, CleansOne, CleanEach, IdLeft, IsForgottenNow, ForgetsOne, ForgetEach, ForgetsTable, ForgetTables, ids_of, last_table, lost_now, ForgetsAll, Passes}
use Rattle.hv_clean.proofs.Moved.{IsPassed}
use Rattle.hv_clean.proofs.Came.{stopped-adds}
use Rattle.hv_background.specs.Rounds.{is_compactors, is_cleaners, AddsTested, has_stopped}

abbrev Tested : (TrailItem → Bool) → List TrailItem → Type 0
Tested test items = AllByRecursion (λ (item : TrailItem). test item ≡ true) items

all-more : (test : TrailItem → Bool) (xs ys : List TrailItem) → Tested test xs → Tested test ys → Tested test (xs ++ ys)
all-more test [] ys all more = more
all-more test (x ∷ xs) ys all more = (all.0, all-more test xs ys all.1 more)

all-tested : (test : TrailItem → Bool) (P : TrailItem → Type 0) → ((item : TrailItem) → P item → test item ≡ true) → (items : List TrailItem)
    → AllByRecursion P items → Tested test items
all-tested test P f [] all = tt
all-tested test P f (x ∷ xs) all = (f x all.0, all-tested test P f xs all.1)

-- ---- of a compactor

mark-tested : (job : JobId) (item : TrailItem) → IsMarkOf job item → is_compactors item ≡ true
mark-tested job (Marked (Wrote by place)) is = subst (λ (r : Reader). is_compactors (Marked (Wrote r place)) ≡ true) (sym is) refl
mark-tested job (Marked (Broke by put count)) is = subst (λ (r : Option Reader). is_compactors (Marked (Broke r put count)) ≡ true) (sym is) refl
mark-tested job item is = absurd is

wrote-tested : (job : JobId) (item : TrailItem) → IsWroteOf job item → is_compactors item ≡ true
wrote-tested job (Marked (Wrote by place)) is = subst (λ (r : Reader). is_compactors (Marked (Wrote r place)) ≡ true) (sym is) refl
wrote-tested job item is = absurd is

kind-tested : (book : List Entry) (part : PartAt) (o : Option JobKind) → Tested is_compactors (asks_kind book part o)
kind-tested book part None = tt
kind-tested book part (Some kind) = (refl, tt)

turns-tested : (from : List TrailItem) (parts : List PartAt) (items to : List TrailItem) → AreTurns from parts items to → Tested is_compactors items
turns-tested from [] items to turns = subst (Tested is_compactors) (sym turns.0) tt
turns-tested from (part ∷ parts) items to turns =
    let then_ = turns.0 in
    let rest = turns.1 in
    let asks = asks_for (book_of then_) part in
    subst (Tested is_compactors) (sym turns.3)
    (all-more is_compactors asks rest (kind-tested (book_of then_) part (due (state_of (book_of then_)) part.table.0 part.partition))
    (turns-tested (then_ ++ asks) parts rest to turns.4))

picked-tested : (items : List TrailItem) → IsPickedThen items → Tested is_compactors items
picked-tested [] is = tt
picked-tested (Noted (entry.Picked job watermark) ∷ marks) is = (refl, all-tested is_compactors (IsMarkOf job) (mark-tested job) marks is)
picked-tested (item ∷ items) is = absurd is

-- ---- of a cleaner

swept-tested : (item : TrailItem) → IsSwept item → is_cleaners item ≡ true
swept-tested (Marked (Went dir)) is = refl
swept-tested (Marked (Broke None put count)) is = ap not is
swept-tested item is = absurd is

passed-tested : (item : TrailItem) → IsPassed item → is_cleaners item ≡ true
passed-tested (Noted (entry.Cleaned job)) is = refl
passed-tested (Noted (entry.Forgot table write)) is = refl
passed-tested (Marked (Went dir)) is = refl
passed-tested (Marked (Broke None put count)) is = ap not is
passed-tested item is = absurd is

-- ---- rounds

-- one that stopped doesn't go on, and one that goes on is in an open house
pub goes-open : {D E : Type 0} (now : ToldHouse D) (result : Result (Unit {0}) E) → has_stopped result ≡ false
    → IfOk result (λ (x : Unit {0}). IsOpenHouse now) → IsOpenHouse now
goes-open now (Ok x) goes running = running
goes-open now (Err why) goes running = absurd (let never : true ≡ false = goes in cc)

module _ {D : Type 0} (told : D → Option Store) (faults : D → ℕ) (B : List TrailItem → Type 0) (rows : AreRows B) (meanwhile : ToldHouse D → ToldHouse D → Type 0) where
  abbrev S : Setting D (ToldHouse D)
  S = among told faults B meanwhile

  abbrev M : Type 0
  M = Moment (ToldHouse D)

  pub tested-none : (test : TrailItem → Bool) (a : M) → AddsTested S test a a
  tested-none test a = record { items = []; adds = adds-none faults B rows a; each = tt }

  pub tested-more : (test : TrailItem → Bool) (a b c : M) → AddsTested S test a b → AddsTested S test b c → AddsTested S test a c
  tested-more test a b c first next = record {
    items = first.items ++ next.items;
    adds = adds-more faults B rows a b c first.items next.items first.adds next.adds;
    each = all-more test first.items next.items first.each next.each;
  }

  pub initiates-tested : (a b : M) (count : ℕ) → Initiates S a b count → AddsTested S is_compactors a b
  initiates-tested a b count is =
      record { items = is.items; adds = is.adds; each = turns-tested is.first (parts_in (book_of is.first)) is.items _ is.turns }

  pub initiates-less : (a b : M) (why : RunFault) → InitiatesLess S a b why → AddsTested S is_compactors a b
  initiates-less a b why is =
      record { items = is.items; adds = is.adds; each = turns-tested is.first (take is.turns_done (parts_in (book_of is.first))) is.items _ is.turns }

  -- it was picked, had its marks, and ended
  ends-tested : (a b : M) (Marks : JobId → TrailItem → Type 0) → ((job : JobId) (item : TrailItem) → Marks job item → is_compactors item ≡ true) → (job : JobId)
      (event : Entry) (Is : List Entry → Type 0) → is_compactors (Noted event) ≡ true → EndsBy S a b Marks job event Is → AddsTested S is_compactors a b
  ends-tested a b Marks f job event Is kind is =
      tested-more is_compactors a is.mid b
      (record { items = Noted (entry.Picked job is.watermark) ∷ []; adds = is.picks.adds; each = (refl, tt) })
      (tested-more is_compactors is.mid is.left b
      (record { items = is.marks; adds = is.adds; each = all-tested is_compactors (Marks job) (f job) is.marks is.each })
      (record { items = Noted event ∷ []; adds = is.ends.adds; each = (kind, tt) }))

  pub compacts-tested : (a b : M) (answer : Done) → CompactsSo S a b answer → AddsTested S is_compactors a b
  compacts-tested a b done.Idle is = record { items = []; adds = is.adds; each = tt }
  compacts-tested a b done.Nothing is = ends-tested a b IsMarkOf mark-tested is.0 (entry.Empty is.0) _ refl is.1
  compacts-tested a b (done.Published job mark) is = ends-tested a b IsWroteOf wrote-tested job (entry.Published job is.low is.high mark) _ refl is.ends
  compacts-tested a b (done.GivenUp job why) is = ends-tested a b IsMarkOf mark-tested job (entry.Failed job why) _ refl is

  pub stops-tested : (a b : M) (why : RunFault) → StopsWith S a b why → AddsTested S is_compactors a b
  stops-tested a b why is = record { items = is.items; adds = is.adds; each = picked-tested is.items is.picked }

  -- ---- a pass of a cleaner

  sweeps-tested : (a b : M) (from to : Swept) → Sweeps S a b from to → AddsTested S is_cleaners a b
  sweeps-tested a b from to is = record { items = is.items; adds = is.adds; each = all-tested is_cleaners IsSwept swept-tested is.items is.each }

  -- it added nothing
  asks-tested : (a b : M) → Asks S a b → AddsTested S is_cleaners a b
  asks-tested a b is = record { items = []; adds = is.adds; each = tt }

  -- a job's turn: marks, and then one Cleaned more or nothing
  job-tested : (a b : M) (job : JobId) (from to : Swept) → CleansOne S a b job from to → AddsTested S is_cleaners a b
  job-tested a b job from to is = tested-more is_cleaners a is.left b (sweeps-tested a is.left from is.swept is.sweeps) (by is.turn)
    where
      by : (IsCleanedNow S is.left b job × (to ≡ count_cleaned is.swept)) ⊎ (Asks S is.left b × LeftOf a.house b.house job from is.swept to)
          → AddsTested S is_cleaners is.left b
      by (inl now) = record { items = Noted (entry.Cleaned job) ∷ []; adds = now.0.adds; each = (refl, tt) }
      by (inr asks) = asks-tested is.left b asks.0

  cleans-tested : (a b : M) (jobs : List JobId) (from to : Swept) → CleanEach S a b jobs from to → AddsTested S is_cleaners a b
  cleans-tested a b [] from to is = sweeps-tested a b from to is
  cleans-tested a b (job ∷ jobs) from to is =
      tested-more is_cleaners a is.0 b (job-tested a is.0 job from is.1 is.2) (cleans-tested is.0 b jobs is.1 to is.3)

  -- that of a write id: marks, and then one Forgot more or nothing
  id-tested : (a b : M) (id : LostId) (from to : Swept) → ForgetsOne S a b id from to → AddsTested S is_cleaners a b
  id-tested a b id from to is = tested-more is_cleaners a is.left b (sweeps-tested a is.left from is.swept is.sweeps) (by is.turn)
    where
      by : (IsForgottenNow S is.left b id × (to ≡ count_forgotten is.swept)) ⊎ (Asks S is.left b × IdLeft a.house b.house id from is.swept to)
          → AddsTested S is_cleaners is.left b
      by (inl now) = record { items = Noted (entry.Forgot id.table id.write) ∷ []; adds = now.0.adds; each = (refl, tt) }
      by (inr asks) = asks-tested is.left b asks.0

  forgets-tested : (a b : M) (ids : List LostId) (from to : Swept) → ForgetEach S a b ids from to → AddsTested S is_cleaners a b
  forgets-tested a b [] from to is = sweeps-tested a b from to is
  forgets-tested a b (id ∷ ids) from to is =
      tested-more is_cleaners a is.0 b (id-tested a is.0 id from is.1 is.2) (forgets-tested is.0 b ids is.1 to is.3)

  table-tested : (a b : M) (ids : List LostId) (from to : Swept) → ForgetsTable S a b ids from to → AddsTested S is_cleaners a b
  table-tested a b ids from to (inl is) = forgets-tested a b ids from to is
  table-tested a b ids from to (inr is) = sweeps-tested a b from to is.0

  tables-tested : (a b : M) (tables : List ℕ) (ids : List LostId) (from to : Swept) → ForgetTables S a b tables ids from to → AddsTested S is_cleaners a b
  tables-tested a b [] ids from to is = sweeps-tested a b from to is
  tables-tested a b (table ∷ tables) ids from to is =
      tested-more is_cleaners a is.0 b (table-tested a is.0 (ids_of table ids) from is.1 is.2) (tables-tested is.0 b tables ids is.1 to is.3)

  all-tested-ids : (a b : M) (from to : Swept) → ForgetsAll S a b from to → AddsTested S is_cleaners a b
  all-tested-ids a b from to is =
      tested-more is_cleaners a is.start b (asks-tested a is.start is.asks)
      (tables-tested is.start b (numbers_from 1 (last_table (lost_now is.start.house))) (lost_now is.start.house) from to is.ids)

  pub passes-tested : (a b : M) (to : Swept) → Passes S a b to → AddsTested S is_cleaners a b
  passes-tested a b to is =
      let over = is.over in
      let rest = over.rest in
      tested-more is_cleaners a is.start b (asks-tested a is.start is.asks)
      (tested-more is_cleaners is.start over.left b (cleans-tested is.start over.left (ready_in (state_of (book_in is.start.house))) nothing over.swept over.turns)
      (tested-more is_cleaners over.left rest.left b (all-tested-ids over.left rest.left over.swept rest.swept rest.ids)
      (sweeps-tested rest.left b rest.swept to rest.sweeps)))

  pub passes-less : (a b : M) (why : PassFault) → StopsBehind S (PassFront S) a b why → AddsTested S is_cleaners a b
  passes-less a b why is =
      let added = stopped-adds told faults B rows meanwhile a b why is in
      record { items = added.0; adds = added.1; each = all-tested is_cleaners IsPassed passed-tested added.0 added.2 }
