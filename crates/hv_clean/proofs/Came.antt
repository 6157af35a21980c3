-- How far a pass came that stops: fronts of its turns, one behind the other.
use Rattle.std.proofs.Common.{◌≡◌, inl, inr, ℕ, zero, suc, ◌+◌, ◌<◌, Bool, Option, List, [], ◌∷◌, ◌++◌, filter, take, drop, Result, Ok, Err, refl, sym, ap, ◌∙◌, subst, arith}
use Rattle.std.specs.Prelude.{IfOk, IfErr}
use Rattle.std.specs.List.{AllByRecursion}
use Rattle.std.proofs.lemmas.List.{take-append-drop}
use Rattle.std.proofs.lemmas.List.Elements.{filter-append}
use Rattle.hv_base.specs.declared.ids.JobId.{JobId}
use Rattle.hv_shelf.specs.Disk.{Store}
use Rattle.hv_history.specs.State.{state_of}
use Rattle.hv_history.specs.Lasting.{IsFront}
use Rattle.hv_trail.specs.declared.trail.TrailItem.{TrailItem}
use Rattle.hv_actor.specs.Acting.{IsLater, AreRows, Setting, Moment, among, numbers_from}
use Rattle.hv_job_acts.specs.hv_acts.specs.declared.told.ToldHouse.{ToldHouse}
use Rattle.hv_job_acts.specs.hv_acts.specs.Told.{seen_in, book_in}
use Rattle.hv_job_acts.specs.hv_acts.specs.Going.{IsOpenHouse}
use Rattle.hv_job_acts.specs.declared.asking.LostId.{LostId}
use Rattle.hv_job_acts.specs.Going.{AddsItems}
use Rattle.hv_job_acts.specs.Work.{ready_in}
use Rattle.hv_clean.specs.declared.fault.PassFault.{PassFault}
use Rattle.hv_clean.specs.declared.fault.Swept.{Swept}
use Rattle.hv_clean.specs.Passing.{nothing, Asks, Sweeps, SweepsLess, CleanEach, ForgetEach, is_of_table, ids_of, ForgetTables, last_table, lost_now, ForgetsAll, Passes}
use Rattle.hv_clean.specs.Fronts.{CleansFront, ForgetsFront, TablesFront, IdsFront, RestFront, OverFront, PassFront, StopsBehind}
use Rattle.hv_clean.proofs.Moved.{IsPassed, Moves, all-append, all-passed, adds-none, adds-more, sweeps-none, moves-then, moves-asks, moves-each, moves-ids, ids-behind, moves-tables, moves-all, moves-pass}

-- ---- fronts of lists

front-take : {A : Type 0} (n : ℕ) (xs : List A) → IsFront (take n xs) xs
front-take n xs = record { more = drop n xs; is = sym (take-append-drop n xs) }

front-filter : {A : Type 0} (p : A → Bool) (xs ys : List A) → IsFront xs ys → IsFront (filter p xs) (filter p ys)
front-filter p xs ys front = record { more = filter p front.more; is = ap (filter p) front.is ∙ filter-append p xs front.more }

numbers-front : (at i count : ℕ) → i < count → IsFront (numbers_from at i ++ (at + i) ∷ []) (numbers_from at count)
numbers-front at i zero low = absurd (omega (arith, low))
numbers-front at zero (suc count) low = record {
  more = numbers_from (at + 1) count;
  is = ap (λ (n : ℕ). n ∷ numbers_from (at + 1) count) (let same : at ≡ at + 0 = omega arith in same);
}
numbers-front at (suc i) (suc count) low =
    let rest = numbers-front (at + 1) i count (omega (arith, low)) in
    record {
      more = rest.more;
      is = ap (λ (xs : List ℕ). at ∷ xs)
          (rest.is
          ∙ ap (λ (n : ℕ). (numbers_from (at + 1) i ++ n ∷ []) ++ rest.more) (let same : at + 1 + i ≡ at + suc i = omega arith in same));
    }

-- the next number behind so many
table-front : (i count : ℕ) → i < count → IsFront (numbers_from 1 i ++ (i + 1) ∷ []) (numbers_from 1 count)
table-front i count low =
    subst (λ (n : ℕ). IsFront (numbers_from 1 i ++ n ∷ []) (numbers_from 1 count)) (let same : 1 + i ≡ i + 1 = omega arith in same)
    (numbers-front 1 i count low)

module _ {D : Type 0} (told : D → Option Store) (faults : D → ℕ) (between : List TrailItem → Type 0) (rows : AreRows between)
    (meanwhile : ToldHouse D → ToldHouse D → Type 0) where
  abbrev S : Setting D (ToldHouse D)
  S = among told faults between meanwhile

  abbrev M : Type 0
  M = Moment (ToldHouse D)

  asks-none : (a : M) → IsOpenHouse a.house → Asks S a a
  asks-none a running = record { adds = adds-none told faults between rows meanwhile a; running = running }

  -- ---- in the turns of jobs

  pub jobs-stop : (a b c : M) (jobs : List JobId) (i : ℕ) (f m : Swept) (why : PassFault) → CleanEach S a b (take i jobs) f m → SweepsLess S b c why
      → StopsBehind S (CleansFront S jobs f) a c why
  jobs-stop a b c jobs i f m why turns less =
      let came : CleansFront S jobs f a b = record { turned = take i jobs; front = front-take i jobs; swept = m; turns = turns } in
      record { left = b; front = came; less = less }

  -- ---- in those of a table's ids

  pub ids-stop : (a b c : M) (table : ℕ) (ids : List LostId) (i : ℕ) (f m : Swept) (why : PassFault) → ForgetEach S a b (ids_of table (take i ids)) f m
      → SweepsLess S b c why → StopsBehind S (ForgetsFront S (ids_of table ids) f) a c why
  ids-stop a b c table ids i f m why turns less =
      let came : ForgetsFront S (ids_of table ids) f a b = record {
        turned = ids_of table (take i ids);
        front = front-filter (is_of_table table) (take i ids) ids (front-take i ids);
        swept = m;
        turns = turns;
      } in
      record { left = b; front = came; less = less }

  ids-came : (a b c : M) (ids : List LostId) (f m : Swept) → Sweeps S a b f m → ForgetsFront S ids m b c → ForgetsFront S ids f a c
  ids-came a b c ids f m s came = record {
    turned = came.turned;
    front = came.front;
    swept = came.swept;
    turns = ids-behind told faults between rows meanwhile a b c came.turned f m came.swept s came.turns;
  }

  -- behind the listing of their table
  pub table-up : {T : Type 0} (a b c : M) (ids : List LostId) (f m : Swept) (result : Result T PassFault) → Sweeps S a b f m
      → IfErr result (StopsBehind S (ForgetsFront S ids m) b c) → IfErr result (StopsBehind S (ForgetsFront S ids f) a c)
  table-up a b c ids f m (Ok x) s stops = tt
  table-up a b c ids f m (Err why) s stops =
      record { left = stops.left; front = ids-came a b stops.left ids f m s stops.front; less = stops.less }

  -- while it was listed
  pub table-stop : (a c : M) (ids : List LostId) (f : Swept) (why : PassFault) → IsOpenHouse a.house → SweepsLess S a c why
      → StopsBehind S (ForgetsFront S ids f) a c why
  table-stop a c ids f why running less =
      let came : ForgetsFront S ids f a a = record {
        turned = [];
        front = record { more = ids; is = refl };
        swept = f;
        turns = sweeps-none told faults between rows meanwhile a f running;
      } in
      record { left = a; front = came; less = less }

  -- ---- in those of the tables

  pub tables-stop : (a b c : M) (i count : ℕ) (ids : List LostId) (f m : Swept) (why : PassFault) → i < count → ForgetTables S a b (numbers_from 1 i) ids f m
      → StopsBehind S (ForgetsFront S (ids_of (i + 1) ids) m) b c why → StopsBehind S (TablesFront S (numbers_from 1 count) ids f) a c why
  tables-stop a b c i count ids f m why low turns stops =
      let came : TablesFront S (numbers_from 1 count) ids f a stops.left = record {
        turned = numbers_from 1 i;
        table = i + 1;
        front = table-front i count low;
        left = b;
        swept = m;
        turns = turns;
        its = stops.front;
      } in
      record { left = stops.left; front = came; less = stops.less }

  pub all-up : {T : Type 0} (a b c : M) (ids : List LostId) (f : Swept) (result : Result T PassFault) → Asks S a b → ids ≡ lost_now b.house
      → IfErr result (StopsBehind S (TablesFront S (numbers_from 1 (last_table ids)) ids f) b c) → IfErr result (StopsBehind S (IdsFront S f) a c)
  all-up a b c ids f (Ok x) asks is stops = tt
  all-up a b c ids f (Err why) asks is stops = record {
    left = stops.left;
    front =
        inr (b, asks, subst (λ (xs : List LostId). TablesFront S (numbers_from 1 (last_table xs)) xs f b stops.left) is stops.front);
    less = stops.less;
  }

  -- while the book was asked for them
  pub all-stop : (a c : M) (f : Swept) (why : PassFault) → IsOpenHouse a.house → SweepsLess S a c why → StopsBehind S (IdsFront S f) a c why
  all-stop a c f why running less = record { left = a; front = inl (asks-none a running); less = less }

  -- ---- the rest, behind the jobs

  pub rest-stop : (a c : M) (f : Swept) (why : PassFault) → StopsBehind S (IdsFront S f) a c why → StopsBehind S (RestFront S f) a c why
  rest-stop a c f why stops = record { left = stops.left; front = inl stops.front; less = stops.less }

  pub rest-up : {T : Type 0} (a b c : M) (f m : Swept) (result : Result T PassFault) → ForgetsAll S a b f m → IfErr result (SweepsLess S b c)
      → IfErr result (StopsBehind S (RestFront S f) a c)
  rest-up a b c f m (Ok x) ids less = tt
  rest-up a b c f m (Err why) ids less = record { left = b; front = inr (m, ids); less = less }

  -- ---- the whole

  pub over-stop : (a c : M) (jobs : List JobId) (why : PassFault) → StopsBehind S (CleansFront S jobs nothing) a c why → StopsBehind S (OverFront S jobs) a c why
  over-stop a c jobs why stops = record { left = stops.left; front = inl stops.front; less = stops.less }

  pub over-up : {T : Type 0} (a b c : M) (jobs : List JobId) (m : Swept) (result : Result T PassFault) → CleanEach S a b jobs nothing m
      → IfErr result (StopsBehind S (RestFront S m) b c) → IfErr result (StopsBehind S (OverFront S jobs) a c)
  over-up a b c jobs m (Ok x) turns stops = tt
  over-up a b c jobs m (Err why) turns stops =
      record { left = stops.left; front = inr (b, m, turns, stops.front); less = stops.less }

  pub pass-stop : (a c : M) (why : PassFault) → IsOpenHouse a.house → SweepsLess S a c why → StopsBehind S (PassFront S) a c why
  pass-stop a c why running less = record { left = a; front = inl (asks-none a running); less = less }

  pub pass-up : {T : Type 0} (a b c : M) (jobs : List JobId) (result : Result T PassFault) → Asks S a b → jobs ≡ ready_in (state_of (book_in b.house))
      → IfErr result (StopsBehind S (OverFront S jobs) b c) → IfErr result (StopsBehind S (PassFront S) a c)
  pass-up a b c jobs (Ok x) asks is stops = tt
  pass-up a b c jobs (Err why) asks is stops = record {
    left = stops.left;
    front = inr (b, asks, subst (λ (xs : List JobId). OverFront S xs b stops.left) is stops.front);
    less = stops.less;
  }

  -- ---- what was added up to there

  abbrev Adds : M → M → Type 0
  Adds a b = Moves told faults between rows meanwhile a b

  adds-then : (a b c : M) → Adds a b → Adds b c → Adds a c
  adds-then a b c first next = moves-then told faults between rows meanwhile a b c first next

  adds-asks : (a b : M) → Asks S a b → Adds a b
  adds-asks a b asks = moves-asks told faults between rows meanwhile a b asks

  cleans-adds : (a b : M) (jobs : List JobId) (f : Swept) → CleansFront S jobs f a b → Adds a b
  cleans-adds a b jobs f came = moves-each told faults between rows meanwhile a b came.turned f came.swept came.turns

  forgets-adds : (a b : M) (ids : List LostId) (f : Swept) → ForgetsFront S ids f a b → Adds a b
  forgets-adds a b ids f came = moves-ids told faults between rows meanwhile a b came.turned f came.swept came.turns

  tables-adds : (a b : M) (tables : List ℕ) (ids : List LostId) (f : Swept) → TablesFront S tables ids f a b → Adds a b
  tables-adds a b tables ids f came =
      adds-then a came.left b (moves-tables told faults between rows meanwhile a came.left came.turned ids f came.swept came.turns)
      (forgets-adds came.left b (ids_of came.table ids) came.swept came.its)

  ids-adds : (a b : M) (f : Swept) → IdsFront S f a b → Adds a b
  ids-adds a b f (inl asks) = adds-asks a b asks
  ids-adds a b f (inr came) =
      adds-then a came.0 b (adds-asks a came.0 came.1)
      (tables-adds came.0 b (numbers_from 1 (last_table (lost_now came.0.house))) (lost_now came.0.house) f came.2)

  rest-adds : (a b : M) (f : Swept) → RestFront S f a b → Adds a b
  rest-adds a b f (inl came) = ids-adds a b f came
  rest-adds a b f (inr all) = moves-all told faults between rows meanwhile a b f all.0 all.1

  over-adds : (a b : M) (jobs : List JobId) → OverFront S jobs a b → Adds a b
  over-adds a b jobs (inl came) = cleans-adds a b jobs nothing came
  over-adds a b jobs (inr came) =
      adds-then a came.0 b (moves-each told faults between rows meanwhile a came.0 jobs nothing came.1 came.2) (rest-adds came.0 b came.1 came.3)

  pub front-adds : (a b : M) → PassFront S a b → Adds a b
  front-adds a b (inl asks) = adds-asks a b asks
  front-adds a b (inr came) =
      adds-then a came.0 b (adds-asks a came.0 came.1) (over-adds came.0 b (ready_in (state_of (book_in came.0.house))) came.2)

  -- items of a pass alone
  pub stopped-adds : (a b : M) (why : PassFault) → StopsBehind S (PassFront S) a b why
      → (items : List TrailItem) × AddsItems faults between a b items × AllByRecursion IsPassed items
  stopped-adds a b why stops =
      let first = front-adds a stops.left stops.front in (
        first.items ++ stops.less.items,
        adds-more told faults between rows meanwhile a stops.left b first.items stops.less.items first.adds stops.less.adds,
        all-append IsPassed first.items stops.less.items first.each (all-passed stops.less.items stops.less.each),
      )

  pub pass-later : (a b : M) (result : Result Swept PassFault) → IfOk result (Passes S a b) → IfErr result (StopsBehind S (PassFront S) a b)
      → IsLater faults (seen_in a.house) (seen_in b.house)
  pass-later a b (Ok t) pass stops = (moves-pass told faults between rows meanwhile a b t pass).adds.later
  pass-later a b (Err why) pass stops = (stopped-adds a b why stops).1.later
