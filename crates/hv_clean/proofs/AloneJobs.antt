-- Where others add nothing and no call on files failed: a part leaves the book, and each ready job is cleaned or held.
use Rattle.std.proofs.Common.{◌≡◌, ◌⊎◌, inl, inr, ℕ, zero, suc, ◌+◌, ◌-◌, ◌<◌, ◌≤◌, Bool, true, false, true≢false, Option, Some, None, List, [], ◌∷◌, ◌++◌, map, filter, length, refl, sym, ap, ◌∙◌, subst, append-nil, append_assoc, le_trans, le_refl, arith}
use Rattle.std.proofs.lemmas.List.{append_cancel_left, append_cancel_right}
use Rattle.std.specs.Prelude.{if◌then◌else◌, ◌&&◌, is_none, IsSomeAnd}
use Rattle.std.specs.List.{AllByRecursion}
use Rattle.hv_base.specs.declared.ids.JobId.{JobId}
use Rattle.hv_shelf.specs.Disk.{Store}
use Rattle.hv_history.specs.declared.entry.Entry.{Entry}
use Rattle.hv_history.specs.declared.entry.Entry.TheVariants as entry
use Rattle.hv_history.specs.declared.state.Transaction.{Transaction}
use Rattle.hv_history.specs.declared.state.Table.{Table}
use Rattle.hv_history.specs.State.{State, Job, numbered, cleaned, acted, after, state_of}
use Rattle.hv_history.specs.Legal.{profile}
use Rattle.hv_history.specs.Jobs.{first_open, if_below, is_live_one, is_past, is_past_by, is_ready}
use Rattle.hv_history.specs.JobsFit.{OfJob, CleanedFits, is_live_job}
use Rattle.hv_history.specs.Lasting.{IsFront}
use Rattle.hv_history.proofs.StateLaws.{state_of-snoc}
use Rattle.hv_history.proofs.LastingLaws.{same-changed}
use Rattle.hv_trail.specs.declared.trail.TrailItem.{TrailItem}
use Rattle.hv_trail.specs.declared.trail.TrailItem.TheVariants.{Noted, Marked}
use Rattle.hv_trail.specs.Trail.{book_of, state_at}
use Rattle.hv_trail.proofs.LastingLaws.{book-append}
use Rattle.hv_actor.specs.Acting.{AreRows, Went, Woven, Setting, Moment, among, items_of}
use Rattle.hv_job_acts.specs.hv_acts.specs.declared.told.ToldHouse.{ToldHouse}
use Rattle.hv_job_acts.specs.hv_acts.specs.Told.{trail_in, book_in}
use Rattle.hv_job_acts.specs.hv_job_calls.specs.Refusals.{HasGoneJob, IsHeldBy, holder_by}
use Rattle.hv_job_acts.specs.Going.{AddsItems, WasAt}
use Rattle.hv_job_acts.specs.Work.{each_of, job_at, is_ready_in, ready_at, ready_in}
use Rattle.hv_clean.specs.declared.fault.Swept.{Swept}
use Rattle.hv_clean.specs.Passing.{count_cleaned, NoFault, IsSwept, Sweeps, Asks, IsHeldAt, IsOver, IsCleanedNow, LeftOf, CleansOne, CleanEach}
use Rattle.hv_clean.specs.Alone.{AddsNothing, is_free_one, is_free}
use Rattle.hv_clean.proofs.Moved.{sweeps-up}

-- ---- trails and books

woven-alone : (B : List TrailItem → Type 0) → AddsNothing B → (at : ℕ) (own : List (ℕ × TrailItem)) (added : List TrailItem) → Woven B at own added → added ≡ items_of own
woven-alone B none at [] added w = none added w
woven-alone B none at (x ∷ own) added w =
    w.2 ∙ ap (λ (xs : List TrailItem). xs ++ x.1 ∷ w.1) (none w.0 w.4) ∙ ap (λ (xs : List TrailItem). x.1 ∷ xs) (woven-alone B none (x.0 + 1) own w.1 w.5)

pub went-alone : (B : List TrailItem → Type 0) → AddsNothing B → (gained : List TrailItem) (own own' : List ℕ) (a b : List TrailItem) → Went B gained own own' a b
    → b ≡ a ++ gained
went-alone B none gained own own' a b w = w.seen ∙ ap (λ (xs : List TrailItem). a ++ xs) (woven-alone B none (length a) w.placed w.added w.woven ∙ w.items)

-- marks are no entries
pub no-entries : (xs : List TrailItem) → AllByRecursion IsSwept xs → book_of xs ≡ []
no-entries [] all = refl
no-entries (Noted event ∷ xs) all = absurd all.0
no-entries (Marked mark ∷ xs) all = no-entries xs all.1

book-front : (a b : List TrailItem) → IsFront a b → IsFront (book_of a) (book_of b)
book-front a b front = record { more = book_of front.more; is = ap book_of front.is ∙ book-append a front.more }

-- between two that are the same nothing else was
none-between : {A : Type 0} (xs ys zs : List A) → IsFront xs ys → IsFront ys zs → zs ≡ xs → ys ≡ xs
none-between {A = A} xs ys zs f g same = f.is ∙ ap (λ (ws : List A). xs ++ ws) (by f.more none) ∙ append-nil xs
  where
    both : xs ++ [] ≡ xs ++ (f.more ++ g.more)
    both = append-nil xs ∙ sym same ∙ g.is ∙ ap (λ (ws : List A). ws ++ g.more) f.is ∙ append_assoc xs f.more g.more

    none : [] ≡ f.more ++ g.more
    none = append_cancel_left xs [] (f.more ++ g.more) both

    by : (ws : List A) → [] ≡ ws ++ g.more → ws ≡ []
    by [] e = refl
    by (w ∷ ws) e = cc

both-true : (a b : Bool) → (a && b) ≡ true → (a ≡ true) × (b ≡ true)
both-true true b e = (refl, e)
both-true false b e = absurd (true≢false (sym e))

-- ---- what cleaning leaves of a state

pub record Same (s0 s : State) : Type 0 where
  pub transactions : s.transactions ≡ s0.transactions
  pub tables : s.tables ≡ s0.tables

-- these jobs rise from a number, are as they were, and were ready
abbrev pub Pends : State → State → ℕ → List JobId → Type 0
Pends s0 s low [] = Unit {0}
Pends s0 s low (id ∷ ids) =
    (low ≤ id.0) × (numbered s.jobs id.0 ≡ numbered s0.jobs id.0) × (is_ready_in s0 (numbered s0.jobs id.0) ≡ true) × Pends s0 s (id.0 + 1) ids

pends-lower : (s0 s : State) (ids : List JobId) (a b : ℕ) → a ≤ b → Pends s0 s b ids → Pends s0 s a ids
pends-lower s0 s [] a b le p = tt
pends-lower s0 s (id ∷ ids) a b le p = (le_trans le p.0, p.1, p.2, p.3)

pends-from : (s0 : State) (n count : ℕ) → Pends s0 s0 n (each_of (ready_at s0) n count)
pends-from s0 n zero = tt
pends-from s0 n (suc count) = by (is_ready_in s0 (numbered s0.jobs n)) refl (pends-from s0 (n + 1) count)
  where
    above : n ≤ n + 1
    above = omega arith

    by : (b : Bool) → is_ready_in s0 (numbered s0.jobs n) ≡ b → Pends s0 s0 (n + 1) (each_of (ready_at s0) (n + 1) count)
        → Pends s0 s0 n ((if b then job_at n ∷ [] else []) ++ each_of (ready_at s0) (n + 1) count)
    by true e rest = (le_refl n, refl, e, rest)
    by false e rest = pends-lower s0 s0 (each_of (ready_at s0) (n + 1) count) n (n + 1) above rest

pub all-pend : (s0 : State) → Pends s0 s0 1 (ready_in s0)
all-pend s0 = pends-from s0 1 (length s0.jobs)

pub pends-after : (s0 s : State) (job : JobId) (ids : List JobId) (low : ℕ) → job.0 < low → Pends s0 s low ids → Pends s0 (after s (entry.Cleaned job)) low ids
unfolding acted
pends-after s0 s job [] low below p = tt
pends-after s0 s job (id ∷ ids) low below p =
    (p.0, same-changed cleaned s.jobs job.0 id.0 other ∙ p.1, p.2, pends-after s0 s job ids (id.0 + 1) further p.3)
  where
    above : low ≤ id.0
    above = p.0

    other : job.0 ≡ id.0 → ⊥
    other e = omega (arith, e, below, above)

    further : job.0 < id.0 + 1
    further = omega (arith, below, above)

pub same-after : (s0 s : State) (job : JobId) → Same s0 s → Same s0 (after s (entry.Cleaned job))
unfolding acted
same-after s0 s job same = record { transactions = same.transactions; tables = same.tables }

past-same : (s0 s : State) → Same s0 s → (o : Option (ℕ × ℕ × ℕ)) → is_past_by s o ≡ is_past_by s0 o
past-same s0 s same None = refl
past-same s0 s same (Some range) = ap (λ (ts : List Transaction). is_none (if_below range.2 (first_open 1 ts))) same.transactions

free-same : (s0 s : State) → Same s0 s → (o : Option Job) → is_free_one s o ≡ is_free_one s0 o
free-same s0 s same None = refl
free-same s0 s same (Some job) = past-same s0 s same job.published

-- a job that pends is free by the state it was listed in, where it is so now
pub free-then : (s0 s : State) (id : JobId) (b : Bool) → Same s0 s → numbered s.jobs id.0 ≡ numbered s0.jobs id.0 → is_free_one s (numbered s.jobs id.0) ≡ b → is_free s0 id ≡ b
free-then s0 s id b same there is =
    ap (λ (o : Option Job). is_free_one s0 o) (sym there) ∙ sym (free-same s0 s same (numbered s.jobs id.0)) ∙ is

-- ---- of what was so

pub past-free : (s : State) (id : JobId) → OfJob s id.0 (CleanedFits profile s) → is_free_one s (numbered s.jobs id.0) ≡ true
past-free s id fits = by (numbered s.jobs id.0) fits
  where
    by : (o : Option Job) → IsSomeAnd o (CleanedFits profile s) → is_free_one s o ≡ true
    by None fits = absurd fits
    by (Some job) fits = fits.past

held-free : (s : State) (id : JobId) (txn : ℕ) → IsHeldBy s id.0 txn → is_free_one s (numbered s.jobs id.0) ≡ false
held-free s id txn held = by (numbered s.jobs id.0) held
  where
    of : (o : Option (ℕ × ℕ × ℕ)) → holder_by s o ≡ Some txn → is_past_by s o ≡ false
    of None is = refl
    of (Some range) is = ap is_none is

    by : (o : Option Job) → IsSomeAnd o (λ (j : Job). (is_live_job s j ≡ true) × (holder_by s j.published ≡ Some txn)) → is_free_one s o ≡ false
    by None held = absurd held
    by (Some job) held = of job.published held.1

-- one that was ready, and is as it was, isn't over
not-over : (s0 s : State) (id : JobId) → Same s0 s → numbered s.jobs id.0 ≡ numbered s0.jobs id.0 → is_ready_in s0 (numbered s0.jobs id.0) ≡ true
    → HasGoneJob s id.0 ⊎ (OfJob s id.0 (λ (j : Job). is_ready j ≡ true) → ⊥) → ⊥
not-over s0 s id same there ready over = by (numbered s.jobs id.0) (ap (λ (o : Option Job). is_ready_in s0 o) there ∙ ready) over
  where
    live-as : (j : Job) → is_live_job s j ≡ is_live_job s0 j
    live-as j = ap (λ (ts : List Table). is_live_one (numbered ts j.table)) same.tables

    by : (o : Option Job) → is_ready_in s0 o ≡ true
        → IsSomeAnd o (λ (j : Job). is_live_job s j ≡ false) ⊎ (IsSomeAnd o (λ (j : Job). is_ready j ≡ true) → ⊥) → ⊥
    by None ready over = true≢false (sym ready)
    by (Some job) ready (inl gone) = true≢false (sym (both-true (is_ready job) (is_live_job s0 job) ready).1 ∙ sym (live-as job) ∙ gone)
    by (Some job) ready (inr not_) = not_ (both-true (is_ready job) (is_live_job s0 job) ready).0

-- ---- counts

pub zero-below : (a b : ℕ) → a ≤ b → b ≡ 0 → a ≡ 0
zero-below a b le is = omega (arith, le, is)

-- none failed
pub no-fault : (f t : Swept) → f.faults ≤ t.faults → t.faults ≡ 0 → NoFault f t
no-fault f t le is = (omega (arith, le, is), omega (arith, is))

-- ---- parts

module _ {D : Type 0} (told : D → Option Store) (faults : D → ℕ) (B : List TrailItem → Type 0) (rows : AreRows B) (meanwhile : ToldHouse D → ToldHouse D → Type 0)
    (none : AddsNothing B) where
  abbrev S : Setting D (ToldHouse D)
  S = among told faults B meanwhile

  abbrev M : Type 0
  M = Moment (ToldHouse D)

  pub book-adds : (a b : M) (xs : List TrailItem) → AddsItems faults B a b xs → book_in b.house ≡ book_in a.house ++ book_of xs
  book-adds a b xs adds =
      ap book_of (went-alone B none xs a.own b.own (trail_in a.house) (trail_in b.house) adds.went) ∙ book-append (trail_in a.house) xs

  pub sweeps-book : (a b : M) (f t : Swept) → Sweeps S a b f t → book_in b.house ≡ book_in a.house
  sweeps-book a b f t s =
      book-adds a b s.items s.adds ∙ ap (λ (xs : List Entry). book_in a.house ++ xs) (no-entries s.items s.each) ∙ append-nil (book_in a.house)

  pub asks-book : (a b : M) → Asks S a b → book_in b.house ≡ book_in a.house
  asks-book a b asks = book-adds a b [] asks.adds ∙ append-nil (book_in a.house)

  -- what was so between two moments with the same book is so of that book
  pub was-state : (a b : ToldHouse D) (Is : List TrailItem → Type 0) (was : WasAt a b Is) → book_in b ≡ book_in a → state_at was.then_ ≡ state_of (book_in a)
  was-state a b Is was same =
      ap state_of (none-between (book_in a) (book_of was.then_) (book_in b) (book-front (trail_in a) was.then_ was.later) (book-front was.then_ (trail_in b) was.front) same)

  -- ---- one job

  one-tail : (a b : M) (id : JobId) (f t : Swept) → (one : CleansOne S a b id f t) → one.swept.faults ≡ t.faults
  one-tail a b id f t one = by one.turn
    where
      left : LeftOf a.house b.house id f one.swept t → one.swept.faults ≡ t.faults
      left (inl held) = sym (ap (λ (s : Swept). s.faults) held.1)
      left (inr over) = sym (ap (λ (s : Swept). s.faults) over.1)

      by : (IsCleanedNow S one.left b id × (t ≡ count_cleaned one.swept)) ⊎ (Asks S one.left b × LeftOf a.house b.house id f one.swept t)
          → one.swept.faults ≡ t.faults
      by (inl now) = sym (ap (λ (s : Swept). s.faults) now.1)
      by (inr asks) = left asks.1

  one-up : (a b : M) (id : JobId) (f t : Swept) → CleansOne S a b id f t → f.faults ≤ t.faults
  one-up a b id f t one =
      subst (λ (n : ℕ). f.faults ≤ n) (one-tail a b id f t one) (sweeps-up told faults B rows meanwhile a one.left f one.swept one.sweeps)

  pub each-up : (a b : M) (ids : List JobId) (f t : Swept) → CleanEach S a b ids f t → f.faults ≤ t.faults
  each-up a b [] f t each = sweeps-up told faults B rows meanwhile a b f t each
  each-up a b (id ∷ ids) f t each = le_trans (one-up a each.0 id f each.1 each.2) (each-up each.0 b ids each.1 t each.3)

  -- it was cleaned, or held
  abbrev Turned : State → M → M → JobId → Type 0
  Turned s0 a b id =
      ((is_free s0 id ≡ true) × (book_in b.house ≡ book_in a.house ++ entry.Cleaned id ∷ []))
      ⊎ ((is_free s0 id ≡ false) × (book_in b.house ≡ book_in a.house))

  one-turned : (s0 : State) (a b : M) (id : JobId) (f t : Swept) → CleansOne S a b id f t → t.faults ≡ 0 → Same s0 (state_of (book_in a.house))
      → numbered (state_of (book_in a.house)).jobs id.0 ≡ numbered s0.jobs id.0 → is_ready_in s0 (numbered s0.jobs id.0) ≡ true → Turned s0 a b id
  one-turned s0 a b id f t one zero_ same there ready = by one.turn
    where
      s : State
      s = state_of (book_in a.house)

      swept-same : book_in one.left.house ≡ book_in a.house
      swept-same = sweeps-book a one.left f one.swept one.sweeps

      unfailed : NoFault f one.swept
      unfailed =
          no-fault f one.swept (sweeps-up told faults B rows meanwhile a one.left f one.swept one.sweeps) (one-tail a b id f t one ∙ zero_)

      free : (now : IsCleanedNow S one.left b id) → is_free s0 id ≡ true
      free now =
          let trails : now.then_ ≡ trail_in one.left.house =
          append_cancel_right now.then_ (trail_in one.left.house) (Noted (entry.Cleaned id) ∷ [])
          (sym now.last ∙ went-alone B none (Noted (entry.Cleaned id) ∷ []) one.left.own b.own (trail_in one.left.house) (trail_in b.house) now.adds.went) in
          let states : state_at now.then_ ≡ s = ap state_at trails ∙ ap state_of swept-same in
          free-then s0 s id true same there (past-free s id (subst (λ (u : State). OfJob u id.0 (CleanedFits profile u)) states now.fits))

      left : book_in b.house ≡ book_in a.house → LeftOf a.house b.house id f one.swept t → is_free s0 id ≡ false
      left books (inl held) =
          let states : state_at held.0.then_ ≡ s = was-state a.house b.house (IsHeldAt id) held.0 books in
          free-then s0 s id false same there
          (held-free s id held.0.was.0 (subst (λ (u : State). IsHeldBy u id.0 held.0.was.0) states held.0.was.1))
      left books (inr over) =
          let was : WasAt a.house b.house (IsOver id) = over.0 unfailed in
          let states : state_at was.then_ ≡ s = was-state a.house b.house (IsOver id) was books in
          absurd (not-over s0 s id same there ready
          (subst (λ (u : State). HasGoneJob u id.0 ⊎ (OfJob u id.0 (λ (j : Job). is_ready j ≡ true) → ⊥)) states was.was))

      by : (IsCleanedNow S one.left b id × (t ≡ count_cleaned one.swept)) ⊎ (Asks S one.left b × LeftOf a.house b.house id f one.swept t) → Turned s0 a b id
      by (inl now) =
          inl (free now.0, book-adds one.left b (Noted (entry.Cleaned id) ∷ []) now.0.adds ∙ ap (λ (xs : List Entry). xs ++ entry.Cleaned id ∷ []) swept-same)
      by (inr asks) = let books : book_in b.house ≡ book_in a.house = asks-book one.left b asks.0 ∙ swept-same in inr (left books asks.1, books)

  -- ---- each

  pub record Cleans (s0 : State) (a b : M) (ids : List JobId) : Type 0 where
    pub book : book_in b.house ≡ book_in a.house ++ map entry.Cleaned (filter (is_free s0) ids)
    pub same : Same s0 (state_of (book_in b.house))

  pub each-cleans : (s0 : State) (a b : M) (ids : List JobId) (low : ℕ) (f t : Swept) → CleanEach S a b ids f t → t.faults ≡ 0
      → Same s0 (state_of (book_in a.house)) → Pends s0 (state_of (book_in a.house)) low ids → Cleans s0 a b ids
  each-cleans s0 a b [] low f t each zero_ same pends = record {
    book = sweeps-book a b f t each ∙ sym (append-nil (book_in a.house));
    same = subst (λ (book : List Entry). Same s0 (state_of book)) (sym (sweeps-book a b f t each)) same;
  }
  each-cleans s0 a b (id ∷ ids) low f t each zero_ same pends =
      by (one-turned s0 a each.0 id f each.1 each.2 (zero-below each.1.faults t.faults (each-up each.0 b ids each.1 t each.3) zero_) same pends.1 pends.2)
      (λ same_ pends_. each-cleans s0 each.0 b ids (id.0 + 1) each.1 t each.3 zero_ same_ pends_)
    where
      -- the list with this one, by whether it is free
      with-it : (b : Bool) → is_free s0 id ≡ b
          → book_in a.house ++ map entry.Cleaned (if b then id ∷ filter (is_free s0) ids else filter (is_free s0) ids)
          ≡ book_in a.house ++ map entry.Cleaned (filter (is_free s0) (id ∷ ids))
      with-it b is =
          ap (λ (c : Bool). book_in a.house ++ map entry.Cleaned (if c then id ∷ filter (is_free s0) ids else filter (is_free s0) ids)) (sym is)

      low-next : id.0 < id.0 + 1
      low-next = omega arith

      by : Turned s0 a each.0 id
          → (Same s0 (state_of (book_in each.0.house)) → Pends s0 (state_of (book_in each.0.house)) (id.0 + 1) ids → Cleans s0 each.0 b ids)
          → Cleans s0 a b (id ∷ ids)
      by (inl free) further =
          let states : state_of (book_in each.0.house) ≡ after (state_of (book_in a.house)) (entry.Cleaned id) =
          ap state_of free.1 ∙ state_of-snoc (book_in a.house) (entry.Cleaned id) in
          let rest : Cleans s0 each.0 b ids =
          further
          (subst (Same s0) (sym states) (same-after s0 (state_of (book_in a.house)) id same))
          (subst (λ (u : State). Pends s0 u (id.0 + 1) ids) (sym states)
          (pends-after s0 (state_of (book_in a.house)) id ids (id.0 + 1) low-next pends.3)) in
          record {
            book = rest.book ∙ ap (λ (xs : List Entry). xs ++ map entry.Cleaned (filter (is_free s0) ids)) free.1
                ∙ append_assoc (book_in a.house) (entry.Cleaned id ∷ []) (map entry.Cleaned (filter (is_free s0) ids)) ∙ with-it true free.0;
            same = rest.same;
          }
      by (inr held) further =
          let states : state_of (book_in each.0.house) ≡ state_of (book_in a.house) = ap state_of held.1 in
          let rest : Cleans s0 each.0 b ids =
          further (subst (Same s0) (sym states) same)
          (subst (λ (u : State). Pends s0 u (id.0 + 1) ids) (sym states) pends.3) in
          record {
            book = rest.book ∙ ap (λ (xs : List Entry). xs ++ map entry.Cleaned (filter (is_free s0) ids)) held.1 ∙ with-it false held.0;
            same = rest.same;
          }
