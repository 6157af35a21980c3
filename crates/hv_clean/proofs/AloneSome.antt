-- Where others add nothing: whatever failed or was listed still, a pass cleans some of the free jobs and forgets some of the aborted ids.
use Rattle.std.proofs.Common.{◌≡◌, ◌⊎◌, inl, inr, ℕ, ◌+◌, ◌<◌, Bool, true, false, Option, List, [], ◌∷◌, ◌++◌, map, filter, refl, sym, ap, ◌∙◌, subst, append-nil, append_assoc, arith}
use Rattle.std.proofs.lemmas.List.{append_cancel_right}
use Rattle.std.proofs.lemmas.List.Elements.{filter-append}
use Rattle.std.specs.Prelude.{if◌then◌else◌}
use Rattle.hv_base.specs.declared.ids.JobId.{JobId}
use Rattle.hv_shelf.specs.Disk.{Store}
use Rattle.hv_history.specs.declared.entry.Entry.{Entry}
use Rattle.hv_history.specs.declared.entry.Entry.TheVariants as entry
use Rattle.hv_history.specs.State.{State, numbered, after, state_of}
use Rattle.hv_history.specs.Legal.{profile}
use Rattle.hv_history.specs.JobsFit.{OfJob, CleanedFits}
use Rattle.hv_history.specs.Lasting.{IsFront}
use Rattle.hv_history.proofs.StateLaws.{state_of-snoc}
use Rattle.hv_trail.specs.declared.trail.TrailItem.{TrailItem}
use Rattle.hv_trail.specs.declared.trail.TrailItem.TheVariants.{Noted}
use Rattle.hv_trail.specs.Trail.{state_at}
use Rattle.hv_actor.specs.Acting.{AreRows, Setting, Moment, among, numbers_from}
use Rattle.hv_job_acts.specs.hv_acts.specs.declared.told.ToldHouse.{ToldHouse}
use Rattle.hv_job_acts.specs.hv_acts.specs.Told.{trail_in, book_in}
use Rattle.hv_job_acts.specs.declared.asking.LostId.{LostId}
use Rattle.hv_job_acts.specs.Work.{ready_in, lost_in}
use Rattle.hv_clean.specs.declared.fault.PassFault.{PassFault}
use Rattle.hv_clean.specs.declared.fault.Swept.{Swept}
use Rattle.hv_clean.specs.Passing.{nothing, count_cleaned, count_forgotten, Asks, SweepsLess, LeftOf, IdLeft, IsCleanedNow, IsForgottenNow, CleansOne, CleanEach, ForgetsOne, ForgetEach, ForgetsTable, ForgetTables, ForgetsAll, Passes, ids_of, last_table, lost_now}
use Rattle.hv_clean.specs.Fronts.{TablesFront, IdsFront, RestFront, OverFront, PassFront, StopsBehind}
use Rattle.hv_clean.specs.Alone.{AddsNothing, is_free, forgot_entry, AreSome, SweepsSome}
use Rattle.hv_clean.proofs.AloneJobs.{no-entries, Same, Pends, all-pend, pends-after, same-after, free-then, past-free, went-alone, book-adds, sweeps-book, asks-book}
use Rattle.hv_clean.proofs.AloneIds.{flat, map-append}
use Rattle.hv_clean.proofs.AloneAll.{flat-is, lost-same}

-- ---- some of a list

pub some-skip : {T : Type 0} (some : List T) (x : T) (all : List T) → AreSome some all → AreSome some (x ∷ all)
some-skip [] x all are = tt
some-skip (y ∷ some) x all are = inr are

pub some-append : {T : Type 0} (some more all rest : List T) → AreSome some all → AreSome more rest → AreSome (some ++ more) (all ++ rest)
some-append [] more [] rest are others = others
some-append [] more (x ∷ all) rest are others = some-skip more x (all ++ rest) (some-append [] more all rest tt others)
some-append (y ∷ some) more [] rest are others = absurd are
some-append (y ∷ some) more (x ∷ all) rest (inl same) others = inl (same.0, some-append some more all rest same.1 others)
some-append (y ∷ some) more (x ∷ all) rest (inr later) others = inr (some-append (y ∷ some) more all rest later others)

pub some-front : {T : Type 0} (some all rest : List T) → AreSome some all → AreSome some (all ++ rest)
some-front [] all rest are = tt
some-front (y ∷ some) [] rest are = absurd are
some-front (y ∷ some) (x ∷ all) rest (inl same) = inl (same.0, some-front some all rest same.1)
some-front (y ∷ some) (x ∷ all) rest (inr later) = inr (some-front (y ∷ some) all rest later)

-- ---- fronts of jobs and of tables

pub some-of-front : {T : Type 0} (p : T → Bool) (some turned all : List T) → IsFront turned all → AreSome some (filter p turned) → AreSome some (filter p all)
some-of-front p some turned all front are =
    subst (AreSome some) (sym (ap (filter p) front.is ∙ filter-append p turned front.more)) (some-front some (filter p turned) (filter p front.more) are)

pends-front : (s0 s : State) (low : ℕ) (xs ys : List JobId) → Pends s0 s low (xs ++ ys) → Pends s0 s low xs
pends-front s0 s low [] ys pends = tt
pends-front s0 s low (x ∷ xs) ys pends = (pends.0, pends.1, pends.2, pends-front s0 s (x.0 + 1) xs ys pends.3)

-- the front of those that are listed pends
turned-pend : (s0 : State) (turned : List JobId) → IsFront turned (ready_in s0) → Pends s0 s0 1 turned
turned-pend s0 turned front = pends-front s0 s0 1 turned front.more (subst (Pends s0 s0 1) front.is (all-pend s0))

flat-append : (xs ys : List ℕ) (ids : List LostId) → flat (xs ++ ys) ids ≡ flat xs ids ++ flat ys ids
flat-append [] ys ids = refl
flat-append (table ∷ xs) ys ids =
    ap (λ (more : List LostId). ids_of table ids ++ more) (flat-append xs ys ids) ∙ sym (append_assoc (ids_of table ids) (flat xs ids) (flat ys ids))

-- with one before them, by whether it is free
skip-one : (s0 : State) (id : JobId) (ids jobs : List JobId) (b : Bool) → AreSome jobs (filter (is_free s0) ids)
    → AreSome jobs (if b then id ∷ filter (is_free s0) ids else filter (is_free s0) ids)
skip-one s0 id ids jobs true some = some-skip jobs id (filter (is_free s0) ids) some
skip-one s0 id ids jobs false some = some

take-one : (s0 : State) (id : JobId) (ids jobs : List JobId) (b : Bool) → b ≡ true → AreSome jobs (filter (is_free s0) ids)
    → AreSome (id ∷ jobs) (if b then id ∷ filter (is_free s0) ids else filter (is_free s0) ids)
take-one s0 id ids jobs true is some = inl (refl, some)
take-one s0 id ids jobs false is some = let no_ : false ≡ true = is in cc

module _ {D : Type 0} (told : D → Option Store) (faults : D → ℕ) (B : List TrailItem → Type 0) (rows : AreRows B) (meanwhile : ToldHouse D → ToldHouse D → Type 0)
    (none : AddsNothing B) where
  abbrev S : Setting D (ToldHouse D)
  S = among told faults B meanwhile

  abbrev M : Type 0
  M = Moment (ToldHouse D)

  -- a part that ends the pass added marks alone
  pub less-book : (a b : M) (why : PassFault) → SweepsLess S a b why → book_in b.house ≡ book_in a.house
  less-book a b why less =
      book-adds told faults B rows meanwhile none a b less.items less.adds
      ∙ ap (λ (xs : List Entry). book_in a.house ++ xs) (no-entries less.items less.each) ∙ append-nil (book_in a.house)

  -- ---- jobs

  -- it was cleaned, and was free, or nothing was added
  abbrev MayTurn : State → M → M → JobId → Type 0
  MayTurn s0 a b id = ((is_free s0 id ≡ true) × (book_in b.house ≡ book_in a.house ++ entry.Cleaned id ∷ [])) ⊎ (book_in b.house ≡ book_in a.house)

  one-may : (s0 : State) (a b : M) (id : JobId) (f t : Swept) → CleansOne S a b id f t → Same s0 (state_of (book_in a.house))
      → numbered (state_of (book_in a.house)).jobs id.0 ≡ numbered s0.jobs id.0 → MayTurn s0 a b id
  one-may s0 a b id f t one same there = by one.turn
    where
      s : State
      s = state_of (book_in a.house)

      swept-same : book_in one.left.house ≡ book_in a.house
      swept-same = sweeps-book told faults B rows meanwhile none a one.left f one.swept one.sweeps

      free : (now : IsCleanedNow S one.left b id) → is_free s0 id ≡ true
      free now =
          let trails : now.then_ ≡ trail_in one.left.house =
          append_cancel_right now.then_ (trail_in one.left.house) (Noted (entry.Cleaned id) ∷ [])
          (sym now.last ∙ went-alone B none (Noted (entry.Cleaned id) ∷ []) one.left.own b.own (trail_in one.left.house) (trail_in b.house) now.adds.went) in
          let states : state_at now.then_ ≡ s = ap state_at trails ∙ ap state_of swept-same in
          free-then s0 s id true same there (past-free s id (subst (λ (u : State). OfJob u id.0 (CleanedFits profile u)) states now.fits))

      by : (IsCleanedNow S one.left b id × (t ≡ count_cleaned one.swept)) ⊎ (Asks S one.left b × LeftOf a.house b.house id f one.swept t) → MayTurn s0 a b id
      by (inl now) =
          inl (
            free now.0,
            book-adds told faults B rows meanwhile none one.left b (Noted (entry.Cleaned id) ∷ []) now.0.adds
                ∙ ap (λ (xs : List Entry). xs ++ entry.Cleaned id ∷ []) swept-same,
          )
      by (inr asks) = inr (asks-book told faults B rows meanwhile none one.left b asks.0 ∙ swept-same)

  -- some of the free ones among these were cleaned
  pub record CleansSome (s0 : State) (a b : M) (ids : List JobId) : Type 0 where
    pub jobs : List JobId
    pub some : AreSome jobs (filter (is_free s0) ids)
    pub book : book_in b.house ≡ book_in a.house ++ map entry.Cleaned jobs
    pub same : Same s0 (state_of (book_in b.house))

  pub each-some : (s0 : State) (a b : M) (ids : List JobId) (low : ℕ) (f t : Swept) → CleanEach S a b ids f t → Same s0 (state_of (book_in a.house))
      → Pends s0 (state_of (book_in a.house)) low ids → CleansSome s0 a b ids
  each-some s0 a b [] low f t each same pends =
      let books : book_in b.house ≡ book_in a.house = sweeps-book told faults B rows meanwhile none a b f t each in
      record {
        jobs = [];
        some = tt;
        book = books ∙ sym (append-nil (book_in a.house));
        same = subst (λ (book : List Entry). Same s0 (state_of book)) (sym books) same;
      }
  each-some s0 a b (id ∷ ids) low f t each same pends =
      by (λ same_ pends_. each-some s0 each.0 b ids (id.0 + 1) each.1 t each.3 same_ pends_) (one-may s0 a each.0 id f each.1 each.2 same pends.1)
    where
      low-next : id.0 < id.0 + 1
      low-next = omega arith

      by : (Same s0 (state_of (book_in each.0.house)) → Pends s0 (state_of (book_in each.0.house)) (id.0 + 1) ids → CleansSome s0 each.0 b ids)
          → MayTurn s0 a each.0 id → CleansSome s0 a b (id ∷ ids)
      by behind (inl free) =
          let states : state_of (book_in each.0.house) ≡ after (state_of (book_in a.house)) (entry.Cleaned id) =
          ap state_of free.1 ∙ state_of-snoc (book_in a.house) (entry.Cleaned id) in
          let rest : CleansSome s0 each.0 b ids =
          behind (subst (Same s0) (sym states) (same-after s0 (state_of (book_in a.house)) id same))
          (subst (λ (u : State). Pends s0 u (id.0 + 1) ids) (sym states)
          (pends-after s0 (state_of (book_in a.house)) id ids (id.0 + 1) low-next pends.3)) in
          record {
            jobs = id ∷ rest.jobs;
            some = take-one s0 id ids rest.jobs (is_free s0 id) free.0 rest.some;
            book = rest.book ∙ ap (λ (xs : List Entry). xs ++ map entry.Cleaned rest.jobs) free.1
                ∙ append_assoc (book_in a.house) (entry.Cleaned id ∷ []) (map entry.Cleaned rest.jobs);
            same = rest.same;
          }
      by behind (inr books) =
          let states : state_of (book_in each.0.house) ≡ state_of (book_in a.house) = ap state_of books in
          let rest : CleansSome s0 each.0 b ids =
          behind (subst (Same s0) (sym states) same)
          (subst (λ (u : State). Pends s0 u (id.0 + 1) ids) (sym states) pends.3) in
          record {
            jobs = rest.jobs;
            some = skip-one s0 id ids rest.jobs (is_free s0 id) rest.some;
            book = rest.book ∙ ap (λ (xs : List Entry). xs ++ map entry.Cleaned rest.jobs) books;
            same = rest.same;
          }

  -- ---- write ids

  -- it was forgotten, or nothing was added
  abbrev MayForget : M → M → LostId → Type 0
  MayForget a b id = (book_in b.house ≡ book_in a.house ++ forgot_entry id ∷ []) ⊎ (book_in b.house ≡ book_in a.house)

  one-forget : (a b : M) (id : LostId) (f t : Swept) → ForgetsOne S a b id f t → MayForget a b id
  one-forget a b id f t one = by one.turn
    where
      swept-same : book_in one.left.house ≡ book_in a.house
      swept-same = sweeps-book told faults B rows meanwhile none a one.left f one.swept one.sweeps

      by : (IsForgottenNow S one.left b id × (t ≡ count_forgotten one.swept)) ⊎ (Asks S one.left b × IdLeft a.house b.house id f one.swept t) → MayForget a b id
      by (inl now) =
          inl (book-adds told faults B rows meanwhile none one.left b (Noted (entry.Forgot id.table id.write) ∷ []) now.0.adds
          ∙ ap (λ (xs : List Entry). xs ++ forgot_entry id ∷ []) swept-same)
      by (inr asks) = inr (asks-book told faults B rows meanwhile none one.left b asks.0 ∙ swept-same)

  -- some of these were forgotten
  pub record ForgetsSome (a b : M) (all : List LostId) : Type 0 where
    pub ids : List LostId
    pub some : AreSome ids all
    pub book : book_in b.house ≡ book_in a.house ++ map forgot_entry ids

  forgets-none : (a b : M) (all : List LostId) → book_in b.house ≡ book_in a.house → ForgetsSome a b all
  forgets-none a b all books = record { ids = []; some = tt; book = books ∙ sym (append-nil (book_in a.house)) }

  pub each-forget : (a b : M) (all : List LostId) (f t : Swept) → ForgetEach S a b all f t → ForgetsSome a b all
  each-forget a b [] f t each = forgets-none a b [] (sweeps-book told faults B rows meanwhile none a b f t each)
  each-forget a b (id ∷ all) f t each = by (each-forget each.0 b all each.1 t each.3) (one-forget a each.0 id f each.1 each.2)
    where
      by : ForgetsSome each.0 b all → MayForget a each.0 id → ForgetsSome a b (id ∷ all)
      by rest (inl first) = record {
        ids = id ∷ rest.ids;
        some = inl (refl, rest.some);
        book = rest.book ∙ ap (λ (xs : List Entry). xs ++ map forgot_entry rest.ids) first
            ∙ append_assoc (book_in a.house) (forgot_entry id ∷ []) (map forgot_entry rest.ids);
      }
      by rest (inr books) = record {
        ids = rest.ids;
        some = some-skip rest.ids id all rest.some;
        book = rest.book ∙ ap (λ (xs : List Entry). xs ++ map forgot_entry rest.ids) books;
      }

  table-forget : (a b : M) (all : List LostId) (f t : Swept) → ForgetsTable S a b all f t → ForgetsSome a b all
  table-forget a b all f t (inl each) = each-forget a b all f t each
  table-forget a b all f t (inr failed) = forgets-none a b all (sweeps-book told faults B rows meanwhile none a b f t failed.0)

  pub tables-some : (a b : M) (tables : List ℕ) (ids : List LostId) (f t : Swept) → ForgetTables S a b tables ids f t → ForgetsSome a b (flat tables ids)
  tables-some a b [] ids f t each = forgets-none a b [] (sweeps-book told faults B rows meanwhile none a b f t each)
  tables-some a b (table ∷ tables) ids f t each =
      let first : ForgetsSome a each.0 (ids_of table ids) = table-forget a each.0 (ids_of table ids) f each.1 each.2 in
      let rest : ForgetsSome each.0 b (flat tables ids) = tables-some each.0 b tables ids each.1 t each.3 in
      record {
        ids = first.ids ++ rest.ids;
        some = some-append first.ids rest.ids (ids_of table ids) (flat tables ids) first.some rest.some;
        book = rest.book
            ∙ ap (λ (xs : List Entry). xs ++ map forgot_entry rest.ids) first.book
            ∙ append_assoc (book_in a.house) (map forgot_entry first.ids) (map forgot_entry rest.ids)
            ∙ ap (λ (es : List Entry). book_in a.house ++ es) (sym (map-append forgot_entry first.ids rest.ids));
      }

  -- ---- a whole pass

  -- jobs alone
  jobs-some : (start b : M) (turned : List JobId) → IsFront turned (ready_in (state_of (book_in start.house)))
      → CleansSome (state_of (book_in start.house)) start b turned → SweepsSome (book_in start.house) (book_in b.house)
  jobs-some start b turned front cleaned = record {
    jobs = cleaned.jobs;
    ids = [];
    are_free = some-of-front (is_free (state_of (book_in start.house))) cleaned.jobs turned (ready_in (state_of (book_in start.house))) front cleaned.some;
    are_lost = tt;
    goes = cleaned.book ∙ ap (λ (es : List Entry). book_in start.house ++ es) (sym (append-nil (map entry.Cleaned cleaned.jobs)));
  }

  -- jobs, and then ids of the book behind them
  sweeps-some : (start left ids behind : M) (jobs : CleansSome (state_of (book_in start.house)) start left (ready_in (state_of (book_in start.house))))
      → book_in ids.house ≡ book_in left.house → ForgetsSome ids behind (lost_in (state_of (book_in ids.house)))
      → SweepsSome (book_in start.house) (book_in behind.house)
  sweeps-some start left ids behind jobs asked forgotten =
      let s0 : State = state_of (book_in start.house) in
      let lost : lost_in (state_of (book_in ids.house)) ≡ lost_in s0 =
      lost-same s0 (state_of (book_in ids.house)) (subst (λ (book : List Entry). Same s0 (state_of book)) (sym asked) jobs.same) in
      record {
        jobs = jobs.jobs;
        ids = forgotten.ids;
        are_free = jobs.some;
        are_lost = subst (AreSome forgotten.ids) lost forgotten.some;
        goes = forgotten.book
            ∙ ap (λ (book : List Entry). book ++ map forgot_entry forgotten.ids) (asked ∙ jobs.book)
            ∙ append_assoc (book_in start.house) (map entry.Cleaned jobs.jobs) (map forgot_entry forgotten.ids);
      }

  -- of those that the first hold listed
  turns-some : (start b : M) (turned : List JobId) (t : Swept) → IsFront turned (ready_in (state_of (book_in start.house))) → CleanEach S start b turned nothing t
      → CleansSome (state_of (book_in start.house)) start b turned
  turns-some start b turned t front each =
      each-some (state_of (book_in start.house)) start b turned 1 nothing t each (record { transactions = refl; tables = refl })
      (turned-pend (state_of (book_in start.house)) turned front)

  all-turned : (start : M) → IsFront (ready_in (state_of (book_in start.house))) (ready_in (state_of (book_in start.house)))
  all-turned start = record { more = []; is = sym (append-nil (ready_in (state_of (book_in start.house)))) }

  -- of the ids that a hold listed
  listed-some : (ids b : M) (f t : Swept) → ForgetTables S ids b (numbers_from 1 (last_table (lost_now ids.house))) (lost_now ids.house) f t
      → ForgetsSome ids b (lost_in (state_of (book_in ids.house)))
  listed-some ids b f t each =
      subst (ForgetsSome ids b) (flat-is (state_of (book_in ids.house)))
      (tables-some ids b (numbers_from 1 (last_table (lost_now ids.house))) (lost_now ids.house) f t each)

  -- of some front of them
  tables-front : (a b : M) (tables : List ℕ) (ids : List LostId) (f : Swept) → TablesFront S tables ids f a b → ForgetsSome a b (flat tables ids)
  tables-front a b tables ids f came =
      let first : ForgetsSome a came.left (flat came.turned ids) = tables-some a came.left came.turned ids f came.swept came.turns in
      let next : ForgetsSome came.left b came.its.turned = each-forget came.left b came.its.turned came.swept came.its.swept came.its.turns in
      let its : AreSome next.ids (ids_of came.table ids) =
      subst (AreSome next.ids) (sym came.its.front.is) (some-front next.ids came.its.turned came.its.front.more next.some) in
      let both : AreSome (first.ids ++ next.ids) (flat (came.turned ++ came.table ∷ []) ids) =
      subst (AreSome (first.ids ++ next.ids)) (sym (flat-append came.turned (came.table ∷ []) ids))
      (some-append first.ids next.ids (flat came.turned ids) (ids_of came.table ids ++ []) first.some (some-front next.ids (ids_of came.table ids) [] its)) in
      let all : flat tables ids ≡ flat (came.turned ++ came.table ∷ []) ids ++ flat came.front.more ids =
      ap (λ (xs : List ℕ). flat xs ids) came.front.is ∙ flat-append (came.turned ++ came.table ∷ []) came.front.more ids in
      record {
        ids = first.ids ++ next.ids;
        some = subst (AreSome (first.ids ++ next.ids)) (sym all)
            (some-front (first.ids ++ next.ids) (flat (came.turned ++ came.table ∷ []) ids) (flat came.front.more ids) both);
        book = next.book
            ∙ ap (λ (xs : List Entry). xs ++ map forgot_entry next.ids) first.book
            ∙ append_assoc (book_in a.house) (map forgot_entry first.ids) (map forgot_entry next.ids)
            ∙ ap (λ (es : List Entry). book_in a.house ++ es) (sym (map-append forgot_entry first.ids next.ids));
      }

  -- a part behind it left the book as it was
  some-same : (start b c : M) → book_in c.house ≡ book_in b.house → SweepsSome (book_in start.house) (book_in b.house)
      → SweepsSome (book_in start.house) (book_in c.house)
  some-same start b c same some = subst (SweepsSome (book_in start.house)) (sym same) some

  -- a part before it did
  same-some : (a start b : M) → book_in start.house ≡ book_in a.house → SweepsSome (book_in start.house) (book_in b.house)
      → SweepsSome (book_in a.house) (book_in b.house)
  same-some a start b same some = subst (λ (book : List Entry). SweepsSome book (book_in b.house)) same some

  all-forgotten : (start left b : M) (f t : Swept) → CleansSome (state_of (book_in start.house)) start left (ready_in (state_of (book_in start.house)))
      → ForgetsAll S left b f t → SweepsSome (book_in start.house) (book_in b.house)
  all-forgotten start left b f t jobs all =
      sweeps-some start left all.start b jobs (asks-book told faults B rows meanwhile none left all.start all.asks) (listed-some all.start b f t all.ids)

  pub passes-some : (before now : M) (t : Swept) → Passes S before now t → SweepsSome (book_in before.house) (book_in now.house)
  passes-some before now t pass =
      same-some before pass.start now (asks-book told faults B rows meanwhile none before pass.start pass.asks)
      (some-same pass.start pass.over.rest.left now
      (sweeps-book told faults B rows meanwhile none pass.over.rest.left now pass.over.rest.swept t pass.over.rest.sweeps)
      (all-forgotten pass.start pass.over.left pass.over.rest.left pass.over.swept pass.over.rest.swept
      (turns-some pass.start pass.over.left (ready_in (state_of (book_in pass.start.house))) pass.over.swept (all-turned pass.start) pass.over.turns)
      pass.over.rest.ids))

  -- ---- a pass that stops

  ids-front : (start left b : M) (f : Swept) → CleansSome (state_of (book_in start.house)) start left (ready_in (state_of (book_in start.house)))
      → IdsFront S f left b → SweepsSome (book_in start.house) (book_in b.house)
  ids-front start left b f jobs (inl asks) =
      some-same start left b (asks-book told faults B rows meanwhile none left b asks)
      (jobs-some start left (ready_in (state_of (book_in start.house))) (all-turned start) jobs)
  ids-front start left b f jobs (inr came) =
      sweeps-some start left came.0 b jobs (asks-book told faults B rows meanwhile none left came.0 came.1)
      (subst (ForgetsSome came.0 b) (flat-is (state_of (book_in came.0.house)))
      (tables-front came.0 b (numbers_from 1 (last_table (lost_now came.0.house))) (lost_now came.0.house) f came.2))

  rest-front : (start left b : M) (f : Swept) → CleansSome (state_of (book_in start.house)) start left (ready_in (state_of (book_in start.house)))
      → RestFront S f left b → SweepsSome (book_in start.house) (book_in b.house)
  rest-front start left b f jobs (inl ids) = ids-front start left b f jobs ids
  rest-front start left b f jobs (inr all) = all-forgotten start left b f all.0 jobs all.1

  over-front : (start b : M) → OverFront S (ready_in (state_of (book_in start.house))) start b → SweepsSome (book_in start.house) (book_in b.house)
  over-front start b (inl came) = jobs-some start b came.turned came.front (turns-some start b came.turned came.swept came.front came.turns)
  over-front start b (inr came) =
      rest-front start came.0 b came.1
      (turns-some start came.0 (ready_in (state_of (book_in start.house))) came.1 (all-turned start) came.2) came.3

  pass-front : (a b : M) → PassFront S a b → SweepsSome (book_in a.house) (book_in b.house)
  pass-front a b (inl asks) = record {
    jobs = [];
    ids = [];
    are_free = tt;
    are_lost = tt;
    goes = asks-book told faults B rows meanwhile none a b asks ∙ sym (append-nil (book_in a.house));
  }
  pass-front a b (inr came) = same-some a came.0 b (asks-book told faults B rows meanwhile none a came.0 came.1) (over-front came.0 b came.2)

  -- and behind it marks alone
  pub stops-some : (a b : M) (why : PassFault) → StopsBehind S (PassFront S) a b why → SweepsSome (book_in a.house) (book_in b.house)
  stops-some a b why stops =
      let same : book_in b.house ≡ book_in stops.left.house = less-book stops.left b why stops.less in
      some-same a stops.left b same (pass-front a stops.left stops.front)
