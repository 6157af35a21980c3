-- Parts of a pass, one behind the other, and what is counted on the way.
use Rattle.std.proofs.Common.{◌≡◌, ◌⊎◌, inl, inr, ℕ, ◌+◌, ◌<◌, ◌≤◌, Bool, true, false, Option, Result, Ok, Err, List, [], ◌∷◌, ◌++◌, refl, sym, ap, ◌∙◌, subst, append-nil, append_assoc, le_trans, le_refl, arith, ltb-false}
use Rattle.std.specs.Prelude.{if◌then◌else◌, nat_lt, ◌-◌, ◌^◌, IfOk, IfErr}
use Rattle.std.specs.List.{AllByRecursion}
use Rattle.hv_shelf.specs.Disk.{Store}
use Rattle.hv_history.specs.declared.entry.Entry.TheVariants as entry
use Rattle.hv_history.specs.State.{state_of}
use Rattle.hv_history.specs.Lasting.{IsFront}
use Rattle.hv_trail.specs.declared.trail.TrailItem.{TrailItem}
use Rattle.hv_trail.specs.declared.trail.TrailItem.TheVariants.{Noted, Marked}
use Rattle.hv_trail.specs.declared.trail.Mark.TheVariants.{Wrote, Went, Broke}
use Rattle.hv_actor.specs.Acting.{AreRows, Setting, Moment, among, numbers_from}
use Rattle.hv_actor.specs.Rows.{later_itself}
use Rattle.hv_actor.proofs.Weaving.{went-more, went-itself, later-further}
use Rattle.hv_base.specs.declared.ids.JobId.{JobId}
use Rattle.hv_job_acts.specs.hv_acts.specs.declared.told.ToldHouse.{ToldHouse}
use Rattle.hv_job_acts.specs.hv_acts.specs.Told.{seen_in, trail_in, book_in}
use Rattle.hv_job_acts.specs.hv_acts.specs.Going.{IsOpenHouse}
use Rattle.hv_job_acts.specs.declared.asking.LostId.{LostId}
use Rattle.hv_job_acts.specs.Going.{AddsItems, WasAt}
use Rattle.hv_job_acts.specs.Work.{ready_in}
use Rattle.hv_clean.specs.declared.fault.PassFault.{PassFault}
use Rattle.hv_clean.specs.declared.fault.PassFault.TheVariants as run
use Rattle.hv_clean.specs.declared.fault.Swept.{Swept}
use Rattle.hv_clean.specs.Passing.{one_more, count_cleaned, count_forgotten, count_fault, nothing, NoFault, IsSwept, swept_by, swept_all, Asks, Sweeps, SweepsLess, IsHeldAt, IsOver, last_table, lost_now, IsCleanedNow, LeftOf, CleansOne, CleanEach, IsForgottenNow, IsIdOver, IdLeft, ForgetsOne, ForgetEach, ForgetsTable, ids_of, ForgetTables, ForgetsAll, PassesRest, PassesOver, Passes}

-- ---- fronts

pub front-itself : {A : Type 0} (a : List A) → IsFront a a
front-itself a = record { more = []; is = sym (append-nil a) }

pub front-more : {A : Type 0} (a b c : List A) → IsFront a b → IsFront b c → IsFront a c
front-more a b c f g = record { more = f.more ++ g.more; is = g.is ∙ ap (λ xs. xs ++ g.more) f.is ∙ append_assoc a f.more g.more }

-- ---- counts

pub more-least : (n : ℕ) → n ≤ one_more n
more-least n = by (nat_lt n (2 ^ 64 - 1))
  where
    by : (b : Bool) → n ≤ (if b then n + 1 else n)
    by true = omega arith
    by false = le_refl n

-- one more is more, below the last
pub more-differs : (n : ℕ) → n ≡ one_more n → one_more n < 2 ^ 64 - 1 → ⊥
more-differs n same below = by (nat_lt n (2 ^ 64 - 1)) refl same
  where
    low : n < 2 ^ 64 - 1
    low = omega (arith, same, below)

    by : (b : Bool) → nat_lt n (2 ^ 64 - 1) ≡ b → n ≡ (if b then n + 1 else n) → ⊥
    by true e is = omega (arith, is)
    by false e is = let high = ltb-false n (2 ^ 64 - 1) e in omega (arith, high, low)

pub fault-tells : (from : Swept) → NoFault from (count_fault from) → ⊥
fault-tells from none = more-differs from.faults none.0 none.1

pub faults-up : (items : List TrailItem) (swept : Swept) → swept.faults ≤ (swept_all swept items).faults
faults-up [] swept = le_refl swept.faults
faults-up (item ∷ items) swept = le_trans (step item) (faults-up items (swept_by swept item))
  where
    step : (item : TrailItem) → swept.faults ≤ (swept_by swept item).faults
    step (Noted (entry.Boot run)) = le_refl swept.faults
    step (Noted (entry.Opened txn session number text)) = le_refl swept.faults
    step (Noted (entry.Start txn statement)) = le_refl swept.faults
    step (Noted (entry.Given txn table write)) = le_refl swept.faults
    step (Noted (entry.Commit txn wrote)) = le_refl swept.faults
    step (Noted (entry.Abort txn cause)) = le_refl swept.faults
    step (Noted (entry.Create txn table)) = le_refl swept.faults
    step (Noted (entry.Drop txn table)) = le_refl swept.faults
    step (Noted (entry.Asked job table partition kind by)) = le_refl swept.faults
    step (Noted (entry.Picked job watermark)) = le_refl swept.faults
    step (Noted (entry.Published job low high mark)) = le_refl swept.faults
    step (Noted (entry.Empty job)) = le_refl swept.faults
    step (Noted (entry.Cleaned job)) = le_refl swept.faults
    step (Noted (entry.Failed job cause)) = le_refl swept.faults
    step (Noted (entry.Forgot table write)) = le_refl swept.faults
    step (Noted (entry.Next txn statement number text)) = le_refl swept.faults
    step (Noted (entry.Did txn statement wrote)) = le_refl swept.faults
    step (Noted (entry.Alter txn table)) = le_refl swept.faults
    step (Marked (Wrote by place)) = le_refl swept.faults
    step (Marked (Went dir)) = le_refl swept.faults
    step (Marked (Broke by put count)) = more-least swept.faults

pub swept-append : (items more : List TrailItem) (swept : Swept) → swept_all swept (items ++ more) ≡ swept_all (swept_all swept items) more
swept-append [] more swept = refl
swept-append (item ∷ items) more swept = swept-append items more (swept_by swept item)

pub all-append : {A : Type 0} (P : A → Type 0) (xs ys : List A) → AllByRecursion P xs → AllByRecursion P ys → AllByRecursion P (xs ++ ys)
all-append P [] ys ps qs = qs
all-append P (x ∷ xs) ys ps qs = (ps.0, all-append P xs ys ps.1 qs)

-- a directory went, a call on files of nobody failed, or a job was cleaned, or an id forgotten
abbrev pub IsPassed : TrailItem → Type 0
IsPassed (Noted (entry.Cleaned job)) = Unit {0}
IsPassed (Noted (entry.Forgot table write)) = Unit {0}
IsPassed item = IsSwept item

-- marks are items of a pass
swept-passed : (item : TrailItem) → IsSwept item → IsPassed item
swept-passed (Noted (entry.Boot run)) is = is
swept-passed (Noted (entry.Opened txn session number text)) is = is
swept-passed (Noted (entry.Start txn statement)) is = is
swept-passed (Noted (entry.Given txn table write)) is = is
swept-passed (Noted (entry.Commit txn wrote)) is = is
swept-passed (Noted (entry.Abort txn cause)) is = is
swept-passed (Noted (entry.Create txn table)) is = is
swept-passed (Noted (entry.Drop txn table)) is = is
swept-passed (Noted (entry.Asked job table partition kind by)) is = is
swept-passed (Noted (entry.Picked job watermark)) is = is
swept-passed (Noted (entry.Published job low high mark)) is = is
swept-passed (Noted (entry.Empty job)) is = is
swept-passed (Noted (entry.Cleaned job)) is = tt
swept-passed (Noted (entry.Failed job cause)) is = is
swept-passed (Noted (entry.Forgot table write)) is = tt
swept-passed (Noted (entry.Next txn statement number text)) is = is
swept-passed (Noted (entry.Did txn statement wrote)) is = is
swept-passed (Noted (entry.Alter txn table)) is = is
swept-passed (Marked mark) is = is

pub all-passed : (items : List TrailItem) → AllByRecursion IsSwept items → AllByRecursion IsPassed items
all-passed [] all = tt
all-passed (item ∷ items) all = (swept-passed item all.0, all-passed items all.1)

-- where none failed in all, none did in a part
pub none-behind : (from mid to : Swept) → from.faults ≤ mid.faults → mid.faults ≤ to.faults → NoFault from to → NoFault mid to
none-behind from mid to low high none =
    let same = none.0 in
    (omega (arith, low, high, same), none.1)

pub none-before : (from mid to : Swept) → from.faults ≤ mid.faults → mid.faults ≤ to.faults → NoFault from to → NoFault from mid
none-before from mid to low high none =
    let same = none.0 in
    let below = none.1 in
    (omega (arith, low, high, same), omega (arith, high, below))

module _ {D : Type 0} (told : D → Option Store) (faults : D → ℕ) (between : List TrailItem → Type 0) (rows : AreRows between)
    (meanwhile : ToldHouse D → ToldHouse D → Type 0) where
  abbrev S : Setting D (ToldHouse D)
  S = among told faults between meanwhile

  abbrev M : Type 0
  M = Moment (ToldHouse D)

  -- ---- what was added

  pub adds-none : (a : M) → AddsItems faults between a a []
  adds-none a = record {
    went = went-itself between rows (trail_in a.house) (trail_in a.house) [] a.own a.own (sym (append-nil (trail_in a.house))) (sym (append-nil a.own));
    later = later_itself faults (seen_in a.house);
  }

  pub adds-more : (a b c : M) (xs ys : List TrailItem) → AddsItems faults between a b xs → AddsItems faults between b c ys
      → AddsItems faults between a c (xs ++ ys)
  adds-more a b c xs ys f g = record {
    went = went-more between rows xs ys a.own b.own c.own (trail_in a.house) (trail_in b.house) (trail_in c.house) f.went g.went;
    later = later-further faults (seen_in a.house) (seen_in b.house) (seen_in c.house) f.later g.later;
  }

  pub adds-front : (a b : M) (xs : List TrailItem) → AddsItems faults between a b xs → IsFront (trail_in a.house) (trail_in b.house)
  adds-front a b xs adds = record { more = adds.went.added; is = adds.went.seen }

  -- ---- parts

  -- what all parts have: their acts added these items
  pub record Moves (a b : M) : Type 0 where
    pub items : List TrailItem
    pub adds : AddsItems faults between a b items
    pub each : AllByRecursion IsPassed items
    pub running : IsOpenHouse b.house

  pub moves-none : (a : M) → IsOpenHouse a.house → Moves a a
  moves-none a running = record { items = []; adds = adds-none a; each = tt; running = running }

  pub moves-then : (a b c : M) → Moves a b → Moves b c → Moves a c
  moves-then a b c f g = record {
    items = f.items ++ g.items;
    adds = adds-more a b c f.items g.items f.adds g.adds;
    each = all-append IsPassed f.items g.items f.each g.each;
    running = g.running;
  }

  pub moves-front : (a b : M) → Moves a b → IsFront (trail_in a.house) (trail_in b.house)
  moves-front a b moves = adds-front a b moves.items moves.adds

  pub moves-sweeps : (a b : M) (f t : Swept) → Sweeps S a b f t → Moves a b
  moves-sweeps a b f t s = record { items = s.items; adds = s.adds; each = all-passed s.items s.each; running = s.running }

  pub moves-asks : (a b : M) → Asks S a b → Moves a b
  moves-asks a b asks = record { items = []; adds = asks.adds; each = tt; running = asks.running }

  pub sweeps-none : (a : M) (f : Swept) → IsOpenHouse a.house → Sweeps S a a f f
  sweeps-none a f running = record { items = []; adds = adds-none a; each = tt; counts = refl; running = running }

  pub sweeps-then : (a b c : M) (f m t : Swept) → Sweeps S a b f m → Sweeps S b c m t → Sweeps S a c f t
  sweeps-then a b c f m t x y = record {
    items = x.items ++ y.items;
    adds = adds-more a b c x.items y.items x.adds y.adds;
    each = all-append IsSwept x.items y.items x.each y.each;
    counts = y.counts ∙ ap (λ (s : Swept). swept_all s y.items) x.counts ∙ sym (swept-append x.items y.items f);
    running = y.running;
  }

  pub asks-sweeps : (a b : M) (f : Swept) → Asks S a b → Sweeps S a b f f
  asks-sweeps a b f asks = record { items = []; adds = asks.adds; each = tt; counts = refl; running = asks.running }

  pub sweeps-up : (a b : M) (f t : Swept) → Sweeps S a b f t → f.faults ≤ t.faults
  sweeps-up a b f t s = subst (λ (to : Swept). f.faults ≤ to.faults) (sym s.counts) (faults-up s.items f)

  -- ---- where it ended

  pub less-behind : (a b c : M) (f t : Swept) (why : PassFault) → Sweeps S a b f t → SweepsLess S b c why → SweepsLess S a c why
  less-behind a b c f t why s less = record {
    items = s.items ++ less.items;
    adds = adds-more a b c s.items less.items s.adds less.adds;
    each = all-append IsSwept s.items less.items s.each less.each;
    stops = less.stops;
    full = less.full;
  }

  -- memory lacked, with nothing added
  pub less-lack : (a : M) → IsOpenHouse a.house → SweepsLess S a a run.NoMemory
  less-lack a running = record { items = []; adds = adds-none a; each = tt; stops = running; full = tt }

  -- ---- what was so between

  pub was-earlier : (a b c : ToldHouse D) (Is : List TrailItem → Type 0) → IsFront (trail_in a) (trail_in b) → WasAt b c Is → WasAt a c Is
  was-earlier a b c Is front was = record {
    then_ = was.then_;
    later = front-more (trail_in a) (trail_in b) was.then_ front was.later;
    front = was.front;
    was = was.was;
  }

  pub was-later : (a b c : ToldHouse D) (Is : List TrailItem → Type 0) → WasAt a b Is → IsFront (trail_in b) (trail_in c) → WasAt a c Is
  was-later a b c Is was front = record {
    then_ = was.then_;
    later = was.later;
    front = front-more was.then_ (trail_in b) (trail_in c) was.front front;
    was = was.was;
  }

  pub was-now : (a : ToldHouse D) (Is : List TrailItem → Type 0) → Is (trail_in a) → WasAt a a Is
  was-now a Is is = record { then_ = trail_in a; later = front-itself (trail_in a); front = front-itself (trail_in a); was = is }

  -- ---- turns of jobs

  -- the same turn from an earlier moment on
  pub left-earlier : (a b c : ToldHouse D) (job : JobId) (f m s t : Swept) → IsFront (trail_in a) (trail_in b) → f.faults ≤ m.faults → m.faults ≤ s.faults
      → LeftOf b c job m s t → LeftOf a c job f s t
  left-earlier a b c job f m s t front low high (inl held) = inl (was-earlier a b c (IsHeldAt job) front held.0, held.1)
  left-earlier a b c job f m s t front low high (inr over) =
      inr (λ none. was-earlier a b c (IsOver job) front (over.0 (none-behind f m s low high none)), over.1)

  moves-cleaned : (a b : M) (job : JobId) → IsCleanedNow S a b job → Moves a b
  moves-cleaned a b job now = record { items = Noted (entry.Cleaned job) ∷ []; adds = now.adds; each = (tt, tt); running = now.running }

  pub moves-one : (a b : M) (job : JobId) (f t : Swept) → CleansOne S a b job f t → Moves a b
  moves-one a b job f t one = moves-then a one.left b (moves-sweeps a one.left f one.swept one.sweeps) (by one.turn)
    where
      by : (IsCleanedNow S one.left b job × (t ≡ count_cleaned one.swept)) ⊎ (Asks S one.left b × LeftOf a.house b.house job f one.swept t) → Moves one.left b
      by (inl now) = moves-cleaned one.left b job now.0
      by (inr asks) = moves-asks one.left b asks.0

  pub one-behind : (a b c : M) (job : JobId) (f m t : Swept) → Sweeps S a b f m → CleansOne S b c job m t → CleansOne S a c job f t
  one-behind a b c job f m t s one = record {
    left = one.left;
    swept = one.swept;
    sweeps = sweeps-then a b one.left f m one.swept s one.sweeps;
    turn = by one.turn;
  }
    where
      by : (IsCleanedNow S one.left c job × (t ≡ count_cleaned one.swept)) ⊎ (Asks S one.left c × LeftOf b.house c.house job m one.swept t)
          → (IsCleanedNow S one.left c job × (t ≡ count_cleaned one.swept)) ⊎ (Asks S one.left c × LeftOf a.house c.house job f one.swept t)
      by (inl now) = inl now
      by (inr asks) =
          inr (
            asks.0,
            left-earlier a.house b.house c.house job f m one.swept t (moves-front a b (moves-sweeps a b f m s)) (sweeps-up a b f m s)
                (sweeps-up b one.left m one.swept one.sweeps) asks.1,
          )

  pub moves-each : (a b : M) (jobs : List JobId) (f t : Swept) → CleanEach S a b jobs f t → Moves a b
  moves-each a b [] f t each = moves-sweeps a b f t each
  moves-each a b (job ∷ jobs) f t each =
      moves-then a each.0 b (moves-one a each.0 job f each.1 each.2) (moves-each each.0 b jobs each.1 t each.3)

  pub each-more : (a b c : M) (jobs : List JobId) (job : JobId) (f m t : Swept) → CleanEach S a b jobs f m → CleansOne S b c job m t
      → CleanEach S a c (jobs ++ job ∷ []) f t
  each-more a b c [] job f m t each one = (c, t, one-behind a b c job f m t each one, sweeps-none c t (moves-one b c job m t one).running)
  each-more a b c (first ∷ jobs) job f m t each one =
      (each.0, each.1, each.2, each-more each.0 b c jobs job each.1 m t each.3 one)

  -- ---- turns of write ids

  pub id-earlier : (a b c : ToldHouse D) (id : LostId) (f m s t : Swept) → IsFront (trail_in a) (trail_in b) → f.faults ≤ m.faults → m.faults ≤ s.faults
      → IdLeft b c id m s t → IdLeft a c id f s t
  id-earlier a b c id f m s t front low high (inl listed) = inl listed
  id-earlier a b c id f m s t front low high (inr over) =
      inr (λ none. was-earlier a b c (IsIdOver id) front (over.0 (none-behind f m s low high none)), over.1)

  moves-forgotten : (a b : M) (id : LostId) → IsForgottenNow S a b id → Moves a b
  moves-forgotten a b id now = record { items = Noted (entry.Forgot id.table id.write) ∷ []; adds = now.adds; each = (tt, tt); running = now.running }

  pub moves-id : (a b : M) (id : LostId) (f t : Swept) → ForgetsOne S a b id f t → Moves a b
  moves-id a b id f t one = moves-then a one.left b (moves-sweeps a one.left f one.swept one.sweeps) (by one.turn)
    where
      by : (IsForgottenNow S one.left b id × (t ≡ count_forgotten one.swept)) ⊎ (Asks S one.left b × IdLeft a.house b.house id f one.swept t) → Moves one.left b
      by (inl now) = moves-forgotten one.left b id now.0
      by (inr asks) = moves-asks one.left b asks.0

  pub id-behind : (a b c : M) (id : LostId) (f m t : Swept) → Sweeps S a b f m → ForgetsOne S b c id m t → ForgetsOne S a c id f t
  id-behind a b c id f m t s one = record {
    left = one.left;
    swept = one.swept;
    sweeps = sweeps-then a b one.left f m one.swept s one.sweeps;
    turn = by one.turn;
  }
    where
      by : (IsForgottenNow S one.left c id × (t ≡ count_forgotten one.swept)) ⊎ (Asks S one.left c × IdLeft b.house c.house id m one.swept t)
          → (IsForgottenNow S one.left c id × (t ≡ count_forgotten one.swept)) ⊎ (Asks S one.left c × IdLeft a.house c.house id f one.swept t)
      by (inl now) = inl now
      by (inr asks) =
          inr (
            asks.0,
            id-earlier a.house b.house c.house id f m one.swept t (moves-front a b (moves-sweeps a b f m s)) (sweeps-up a b f m s)
                (sweeps-up b one.left m one.swept one.sweeps) asks.1,
          )

  pub moves-ids : (a b : M) (ids : List LostId) (f t : Swept) → ForgetEach S a b ids f t → Moves a b
  moves-ids a b [] f t each = moves-sweeps a b f t each
  moves-ids a b (id ∷ ids) f t each =
      moves-then a each.0 b (moves-id a each.0 id f each.1 each.2) (moves-ids each.0 b ids each.1 t each.3)

  pub ids-more : (a b c : M) (ids : List LostId) (id : LostId) (f m t : Swept) → ForgetEach S a b ids f m → ForgetsOne S b c id m t
      → ForgetEach S a c (ids ++ id ∷ []) f t
  ids-more a b c [] id f m t each one = (c, t, id-behind a b c id f m t each one, sweeps-none c t (moves-id b c id m t one).running)
  ids-more a b c (first ∷ ids) id f m t each one =
      (each.0, each.1, each.2, ids-more each.0 b c ids id each.1 m t each.3 one)

  -- behind a part that counted no faults, or some
  pub ids-behind : (a b c : M) (ids : List LostId) (f m t : Swept) → Sweeps S a b f m → ForgetEach S b c ids m t → ForgetEach S a c ids f t
  ids-behind a b c [] f m t s each = sweeps-then a b c f m t s each
  ids-behind a b c (id ∷ ids) f m t s each = (each.0, each.1, id-behind a b each.0 id f m each.1 s each.2, each.3)

  pub moves-table : (a b : M) (ids : List LostId) (f t : Swept) → ForgetsTable S a b ids f t → Moves a b
  moves-table a b ids f t (inl each) = moves-ids a b ids f t each
  moves-table a b ids f t (inr failed) = moves-sweeps a b f t failed.0

  pub moves-tables : (a b : M) (tables : List ℕ) (ids : List LostId) (f t : Swept) → ForgetTables S a b tables ids f t → Moves a b
  moves-tables a b [] ids f t each = moves-sweeps a b f t each
  moves-tables a b (table ∷ tables) ids f t each =
      moves-then a each.0 b (moves-table a each.0 (ids_of table ids) f each.1 each.2) (moves-tables each.0 b tables ids each.1 t each.3)

  -- a table behind a part without faults
  table-behind : (a b c : M) (ids : List LostId) (f m t : Swept) → Sweeps S a b f m → ForgetsTable S b c ids m t → ForgetsTable S a c ids f t
  table-behind a b c ids f m t s (inl each) = inl (ids-behind a b c ids f m t s each)
  table-behind a b c ids f m t s (inr failed) =
      inr (
        sweeps-then a b c f m t s failed.0,
        λ none. failed.1 (none-behind f m t (sweeps-up a b f m s) (sweeps-up b c m t failed.0) none),
      )

  pub tables-more : (a b c : M) (tables : List ℕ) (table : ℕ) (ids : List LostId) (f m t : Swept) → ForgetTables S a b tables ids f m
      → ForgetsTable S b c (ids_of table ids) m t → ForgetTables S a c (tables ++ table ∷ []) ids f t
  tables-more a b c [] table ids f m t each one =
      (c, t, table-behind a b c (ids_of table ids) f m t each one, sweeps-none c t (moves-table b c (ids_of table ids) m t one).running)
  tables-more a b c (first ∷ tables) table ids f m t each one =
      (each.0, each.1, each.2, tables-more each.0 b c tables table ids each.1 m t each.3 one)

  -- ---- the whole

  pub moves-all : (a b : M) (f t : Swept) → ForgetsAll S a b f t → Moves a b
  moves-all a b f t all =
      moves-then a all.start b (moves-asks a all.start all.asks)
      (moves-tables all.start b (numbers_from 1 (last_table (lost_now all.start.house))) (lost_now all.start.house) f t all.ids)

  pub moves-rest : (a b : M) (f t : Swept) → PassesRest S a b f t → Moves a b
  moves-rest a b f t rest =
      moves-then a rest.left b (moves-all a rest.left f rest.swept rest.ids) (moves-sweeps rest.left b rest.swept t rest.sweeps)

  pub moves-over : (a b : M) (jobs : List JobId) (t : Swept) → PassesOver S a b jobs t → Moves a b
  moves-over a b jobs t over =
      moves-then a over.left b (moves-each a over.left jobs nothing over.swept over.turns) (moves-rest over.left b over.swept t over.rest)

  pub moves-pass : (a b : M) (t : Swept) → Passes S a b t → Moves a b
  moves-pass a b t pass = moves-then a pass.start b (moves-asks a pass.start pass.asks) (moves-over pass.start b _ t pass.over)

  -- ---- by what a call answered

  pub less-up : {T : Type 0} (a b c : M) (f t : Swept) (result : Result T PassFault) → Sweeps S a b f t → IfErr result (SweepsLess S b c)
      → IfErr result (SweepsLess S a c)
  less-up a b c f t (Ok x) s less = tt
  less-up a b c f t (Err why) s less = less-behind a b c f t why s less

  pub sweeps-ok : {T : Type 0} (a b c : M) (f m t : Swept) (result : Result T PassFault) → Sweeps S a b f m → IfOk result (λ x. Sweeps S b c m t)
      → IfOk result (λ x. Sweeps S a c f t)
  sweeps-ok a b c f m t (Ok x) s more = sweeps-then a b c f m t s more
  sweeps-ok a b c f m t (Err why) s more = tt

  pub id-ok : {T : Type 0} (a b c : M) (id : LostId) (f m t : Swept) (result : Result T PassFault) → Sweeps S a b f m
      → IfOk result (λ x. ForgetsOne S b c id m t) → IfOk result (λ x. ForgetsOne S a c id f t)
  id-ok a b c id f m t (Ok x) s one = id-behind a b c id f m t s one
  id-ok a b c id f m t (Err why) s one = tt

  pub ids-append : (a b c : M) (xs ys : List LostId) (f m t : Swept) → ForgetEach S a b xs f m → ForgetEach S b c ys m t → ForgetEach S a c (xs ++ ys) f t
  ids-append a b c [] ys f m t each more = ids-behind a b c ys f m t each more
  ids-append a b c (first ∷ xs) ys f m t each more = (each.0, each.1, each.2, ids-append each.0 b c xs ys each.1 m t each.3 more)

  -- one id alone
  pub one-ok : {T : Type 0} (a b : M) (id : LostId) (ids : List LostId) (f t : Swept) (result : Result T PassFault) → ids ≡ id ∷ []
      → IfOk result (λ x. ForgetsOne S a b id f t) → IfOk result (λ x. ForgetEach S a b ids f t)
  one-ok a b id ids f t (Ok x) is one =
      subst (λ (xs : List LostId). ForgetEach S a b xs f t) (sym is) (b, t, one, sweeps-none b t (moves-id a b id f t one).running)
  one-ok a b id ids f t (Err why) is one = tt

  pub none-ok : (a : M) (ids : List LostId) (f : Swept) → IsOpenHouse a.house → ids ≡ [] → ForgetEach S a a ids f f
  none-ok a ids f running none = subst (λ (xs : List LostId). ForgetEach S a a xs f f) (sym none) (sweeps-none a f running)

  pub all-ok : {T : Type 0} (a b c : M) (ids : List LostId) (f t : Swept) (result : Result T PassFault) → Asks S a b → ids ≡ lost_now b.house
      → IfOk result (λ x. ForgetTables S b c (numbers_from 1 (last_table ids)) ids f t) → IfOk result (λ x. ForgetsAll S a c f t)
  all-ok a b c ids f t (Ok x) asks is each = record {
    start = b;
    asks = asks;
    ids = subst (λ (xs : List LostId). ForgetTables S b c (numbers_from 1 (last_table xs)) xs f t) is each;
  }
  all-ok a b c ids f t (Err why) asks is each = tt

  pub rest-ok : (a b c : M) (f m : Swept) (result : Result Swept PassFault) → ForgetsAll S a b f m → IfOk result (Sweeps S b c m)
      → IfOk result (PassesRest S a c f)
  rest-ok a b c f m (Ok t) ids s = record { left = b; swept = m; ids = ids; sweeps = s }
  rest-ok a b c f m (Err why) ids s = tt

  pub over-ok : (a b c : M) (jobs : List JobId) (m : Swept) (result : Result Swept PassFault) → CleanEach S a b jobs nothing m
      → IfOk result (PassesRest S b c m) → IfOk result (PassesOver S a c jobs)
  over-ok a b c jobs m (Ok t) turns rest = record { left = b; swept = m; turns = turns; rest = rest }
  over-ok a b c jobs m (Err why) turns rest = tt

  pub pass-ok : (a b c : M) (jobs : List JobId) (result : Result Swept PassFault) → Asks S a b → jobs ≡ ready_in (state_of (book_in b.house))
      → IfOk result (PassesOver S b c jobs) → IfOk result (Passes S a c)
  pass-ok a b c jobs (Ok t) asks is over =
      record { start = b; asks = asks; over = subst (λ (xs : List JobId). PassesOver S b c xs t) is over }
  pass-ok a b c jobs (Err why) asks is over = tt

  pub pass-running : (b c : M) (jobs : List JobId) (result : Result Swept PassFault) → IfOk result (PassesOver S b c jobs)
      → IfOk result (λ swept. IsOpenHouse c.house)
  pass-running b c jobs (Ok t) over = (moves-over b c jobs t over).running
  pass-running b c jobs (Err why) over = tt
