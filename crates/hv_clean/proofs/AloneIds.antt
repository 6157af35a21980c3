-- Where others add nothing, no call on files failed and nothing was listed still: each aborted id is forgotten.
use Rattle.std.proofs.Common.{◌||◌, ◌≡◌, ◌⊎◌, inl, inr, ℕ, ◌+◌, ◌-◌, ◌^◌, ◌≤◌, ◌==◌, Bool, true, false, true≢false, cond, Option, Some, None, List, [], ◌∷◌, ◌++◌, map, not, refl, sym, ap, ◌∙◌, subst, append-nil, append_assoc, le_trans, le_refl, arith, eqb-true, ltb-false}
use Rattle.std.proofs.lemmas.Bool.{and_parts, false_from_ne_true, eqb-false}
use Rattle.std.specs.Prelude.{if◌then◌else◌, ◌&&◌, nat_lt, IsSomeAnd}
use Rattle.std.specs.List.{AllByRecursion, list_any}
use Rattle.hv_shelf.specs.Disk.{Store}
use Rattle.hv_history.specs.declared.entry.Entry.{Entry}
use Rattle.hv_history.specs.declared.entry.Entry.TheVariants as entry
use Rattle.hv_history.specs.declared.state.Table.{Table}
use Rattle.hv_history.specs.State.{State, numbered, changed, forgot, acted, after, state_of}
use Rattle.hv_history.specs.Jobs.{is_live_one}
use Rattle.hv_history.specs.JobsFit.{is_aborted_id}
use Rattle.hv_history.proofs.StateLaws.{state_of-snoc}
use Rattle.hv_history.proofs.LastingLaws.{same-changed}
use Rattle.hv_stands.proofs.Numbers.{numbered-changed}
use Rattle.hv_trail.specs.declared.trail.TrailItem.{TrailItem}
use Rattle.hv_trail.specs.declared.trail.TrailItem.TheVariants.{Noted, Marked}
use Rattle.hv_trail.specs.declared.trail.Mark.TheVariants.{Wrote, Went, Broke}
use Rattle.hv_trail.specs.Trail.{state_at}
use Rattle.hv_actor.specs.Acting.{AreRows, Setting, Moment, among}
use Rattle.hv_job_acts.specs.hv_acts.specs.declared.told.ToldHouse.{ToldHouse}
use Rattle.hv_job_acts.specs.hv_acts.specs.Told.{book_in}
use Rattle.hv_job_acts.specs.hv_job_calls.specs.Refusals.{CanForget, IsLostId, IsKeptId, is_live_in}
use Rattle.hv_job_acts.specs.declared.asking.LostId.{LostId}
use Rattle.hv_job_acts.specs.Going.{WasAt}
use Rattle.hv_job_acts.specs.Work.{is_lost_of, is_lost_at}
use Rattle.hv_clean.specs.declared.fault.Swept.{Swept}
use Rattle.hv_clean.specs.Passing.{one_more, count_forgotten, count_listed, swept_by, swept_all, Sweeps, Asks, IsForgottenNow, IsIdOver, IdLeft, ForgetsOne, ForgetEach, ids_of, ForgetsTable, ForgetTables}
use Rattle.hv_clean.specs.Alone.{AddsNothing, forgot_entry}
use Rattle.hv_clean.proofs.Moved.{sweeps-up}
use Rattle.hv_clean.proofs.AloneJobs.{book-adds, sweeps-book, asks-book, was-state, no-fault, zero-below}

-- ---- ids that are lost still

abbrev pub IsPending : State → LostId → Type 0
IsPending s id = is_lost_at s id.write.0 (numbered s.tables id.table.0) ≡ true

abbrev pub Apart : LostId → LostId → Type 0
Apart x y = x.table.0 ≡ y.table.0 → x.write.0 ≡ y.write.0 → ⊥

abbrev pub AreApart : List LostId → Type 0
AreApart [] = Unit {0}
AreApart (x ∷ xs) = AllByRecursion (Apart x) xs × AreApart xs

-- one more that isn't it
any-more : {A : Type 0} (p : A → Bool) (xs : List A) (x : A) → list_any p xs ≡ false → p x ≡ false → list_any p (xs ++ x ∷ []) ≡ false
any-more p [] x none not_ = ap (λ (b : Bool). b || false) not_
any-more p (y ∷ xs) x none not_ = by (p y) none (λ e. any-more p xs x e not_)
  where
    by : (b : Bool) → (b || list_any p xs) ≡ false → (list_any p xs ≡ false → list_any p (xs ++ x ∷ []) ≡ false)
        → (b || list_any p (xs ++ x ∷ [])) ≡ false
    by true e rest = absurd (true≢false e)
    by false e rest = rest e

not-true : (b : Bool) → not b ≡ true → b ≡ false
not-true true e = absurd (true≢false (sym e))
not-true false e = refl

-- what is lost of a table where another id is forgotten there
lost-more : (s : State) (write other : ℕ) (t : Table) → (write ≡ other → ⊥) → is_lost_of s other t ≡ true → is_lost_of s other (forgot write t) ≡ true
lost-more s write other t differ lost =
    ap (λ (b : Bool). t.is_live && (is_aborted_id s.transactions (numbered t.owners other) && not b)) (still ∙ sym kept) ∙ lost
  where
    rest : (is_aborted_id s.transactions (numbered t.owners other) && not (list_any (λ o. o == other) t.forgotten)) ≡ true
    rest = (and_parts t.is_live (is_aborted_id s.transactions (numbered t.owners other) && not (list_any (λ o. o == other) t.forgotten)) lost).1

    kept : list_any (λ o. o == other) t.forgotten ≡ false
    kept =
        not-true (list_any (λ o. o == other) t.forgotten)
        (and_parts (is_aborted_id s.transactions (numbered t.owners other)) (not (list_any (λ o. o == other) t.forgotten)) rest).1

    still : list_any (λ o. o == other) (t.forgotten ++ write ∷ []) ≡ false
    still = any-more (λ o. o == other) t.forgotten write kept (false_from_ne_true (write == other) (λ e. differ (eqb-true write other e)))

-- it goes by the transactions, which stay
forgot-stays : (s : State) (x : LostId) (write : ℕ) (o : Option Table) → is_lost_at (after s (entry.Forgot x.table x.write)) write o ≡ is_lost_at s write o
unfolding acted
forgot-stays s x write None = refl
forgot-stays s x write (Some t) = refl

pending-after : (s : State) (x y : LostId) → Apart x y → IsPending s y → IsPending (after s (entry.Forgot x.table x.write)) y
unfolding acted
pending-after s x y apart pending =
    forgot-stays s x y.write.0 (numbered (changed (forgot x.write.0) s.tables x.table.0) y.table.0) ∙ by (y.table.0 == x.table.0) refl
  where
    there : (o : Option Table) → numbered s.tables y.table.0 ≡ o → y.table.0 ≡ x.table.0 → (y.table.0 == x.table.0) ≡ true → is_lost_at s y.write.0 o ≡ true
        → is_lost_at s y.write.0 (numbered (changed (forgot x.write.0) s.tables x.table.0) y.table.0) ≡ true
    there None is same e lost = absurd (true≢false (sym lost))
    there (Some t) is same e lost =
        let at : numbered s.tables x.table.0 ≡ Some t = ap (numbered s.tables) (sym same) ∙ is in
        let now : numbered (changed (forgot x.write.0) s.tables x.table.0) y.table.0 ≡ Some (forgot x.write.0 t) =
        numbered-changed (forgot x.write.0) s.tables x.table.0 y.table.0 t at
        ∙ ap (λ (b : Bool). cond b (Some (forgot x.write.0 t)) (numbered s.tables y.table.0)) e in
        ap (is_lost_at s y.write.0) now ∙ lost-more s x.write.0 y.write.0 t (apart (sym same)) lost

    by : (b : Bool) → (y.table.0 == x.table.0) ≡ b → is_lost_at s y.write.0 (numbered (changed (forgot x.write.0) s.tables x.table.0) y.table.0) ≡ true
    by true e = there (numbered s.tables y.table.0) refl (eqb-true y.table.0 x.table.0 e) e pending
    by false e =
        ap (is_lost_at s y.write.0)
        (same-changed (forgot x.write.0) s.tables x.table.0 y.table.0 (λ same. eqb-false y.table.0 x.table.0 e (sym same)))
        ∙ pending

all-after : (s : State) (x : LostId) (ys : List LostId) → AllByRecursion (Apart x) ys → AllByRecursion (IsPending s) ys
    → AllByRecursion (IsPending (after s (entry.Forgot x.table x.write))) ys
all-after s x [] apart pending = tt
all-after s x (y ∷ ys) apart pending = (pending-after s x y apart.0 pending.0, all-after s x ys apart.1 pending.1)

-- one that pends isn't over
not-over : (s : State) (id : LostId) → IsPending s id → (is_live_in s id.table.0 ≡ false) ⊎ (CanForget s id.table.0 id.write.0 → ⊥) → ⊥
not-over s id pending over = by (numbered s.tables id.table.0) pending over
  where
    by : (o : Option Table) → is_lost_at s id.write.0 o ≡ true
        → (is_live_one o ≡ false) ⊎ (IsSomeAnd o (λ (t : Table). IsLostId s id.write.0 t × IsKeptId id.write.0 t) → ⊥) → ⊥
    by None lost over = true≢false (sym lost)
    by (Some t) lost (inl dead) =
        true≢false (sym (and_parts t.is_live (is_aborted_id s.transactions (numbered t.owners id.write.0) && not (list_any (λ o. o == id.write.0) t.forgotten)) lost).0 ∙ dead)
    by (Some t) lost (inr not_) =
        let parts =
        and_parts (is_aborted_id s.transactions (numbered t.owners id.write.0)) (not (list_any (λ o. o == id.write.0) t.forgotten))
        (and_parts t.is_live (is_aborted_id s.transactions (numbered t.owners id.write.0) && not (list_any (λ o. o == id.write.0) t.forgotten)) lost).1 in
        not_ (parts.0, not-true (list_any (λ o. o == id.write.0) t.forgotten) parts.1)

-- ---- counts

-- marks list nothing
listed-same : (items : List TrailItem) (swept : Swept) → (swept_all swept items).listed ≡ swept.listed
listed-same [] swept = refl
listed-same (item ∷ items) swept = listed-same items (swept_by swept item) ∙ step item
  where
    step : (item : TrailItem) → (swept_by swept item).listed ≡ swept.listed
    step (Noted (entry.Boot run)) = refl
    step (Noted (entry.Opened txn session number text)) = refl
    step (Noted (entry.Start txn statement)) = refl
    step (Noted (entry.Given txn table write)) = refl
    step (Noted (entry.Commit txn wrote)) = refl
    step (Noted (entry.Abort txn cause)) = refl
    step (Noted (entry.Create txn table)) = refl
    step (Noted (entry.Drop txn table)) = refl
    step (Noted (entry.Asked job table partition kind by)) = refl
    step (Noted (entry.Picked job watermark)) = refl
    step (Noted (entry.Published job low high mark)) = refl
    step (Noted (entry.Empty job)) = refl
    step (Noted (entry.Cleaned job)) = refl
    step (Noted (entry.Failed job cause)) = refl
    step (Noted (entry.Forgot table write)) = refl
    step (Noted (entry.Next txn statement number text)) = refl
    step (Noted (entry.Did txn statement wrote)) = refl
    step (Noted (entry.Alter txn table)) = refl
    step (Marked (Wrote by place)) = refl
    step (Marked (Went dir)) = refl
    step (Marked (Broke by put count)) = refl

more-least : (n : ℕ) → n ≤ one_more n
more-least n = by (nat_lt n (2 ^ 64 - 1))
  where
    by : (b : Bool) → n ≤ (if b then n + 1 else n)
    by true = omega arith
    by false = le_refl n

more-some : (n : ℕ) → one_more n ≡ 0 → ⊥
more-some n none = by (nat_lt n (2 ^ 64 - 1)) refl none
  where
    by : (b : Bool) → nat_lt n (2 ^ 64 - 1) ≡ b → (if b then n + 1 else n) ≡ 0 → ⊥
    by true e is = omega (arith, is)
    by false e is = let high = ltb-false n (2 ^ 64 - 1) e in omega (arith, is, high)

pub record Up (f t : Swept) : Type 0 where
  pub faults : f.faults ≤ t.faults
  pub listed : f.listed ≤ t.listed

up-more : (f m t : Swept) → Up f m → Up m t → Up f t
up-more f m t x y = record { faults = le_trans x.faults y.faults; listed = le_trans x.listed y.listed }

pub record None_ (t : Swept) : Type 0 where
  pub faults : t.faults ≡ 0
  pub listed : t.listed ≡ 0

pub none-up : (f t : Swept) → Up f t → None_ t → None_ f
none-up f t up none = record { faults = zero-below f.faults t.faults up.faults none.faults; listed = zero-below f.listed t.listed up.listed none.listed }

-- ---- by table

abbrev pub flat : List ℕ → List LostId → List LostId
flat [] ids = []
flat (table ∷ tables) ids = ids_of table ids ++ flat tables ids

pub map-append : {A B : Type 0} (f : A → B) (xs ys : List A) → map f (xs ++ ys) ≡ map f xs ++ map f ys
map-append f [] ys = refl
map-append f (x ∷ xs) ys = ap (λ zs. f x ∷ zs) (map-append f xs ys)

apart-right : (xs ys : List LostId) → AreApart (xs ++ ys) → AreApart ys
apart-right [] ys apart = apart
apart-right (x ∷ xs) ys apart = apart-right xs ys apart.1

module _ {D : Type 0} (told : D → Option Store) (faults : D → ℕ) (B : List TrailItem → Type 0) (rows : AreRows B) (meanwhile : ToldHouse D → ToldHouse D → Type 0)
    (none : AddsNothing B) where
  abbrev S : Setting D (ToldHouse D)
  S = among told faults B meanwhile

  abbrev M : Type 0
  M = Moment (ToldHouse D)

  pub sweeps-none-less : (a b : M) (f t : Swept) → Sweeps S a b f t → Up f t
  sweeps-none-less a b f t s = record {
    faults = sweeps-up told faults B rows meanwhile a b f t s;
    listed = subst (λ (n : ℕ). f.listed ≤ n) (sym (ap (λ (u : Swept). u.listed) s.counts ∙ listed-same s.items f)) (le_refl f.listed);
  }

  tail-up : (a b : M) (id : LostId) (f t : Swept) (one : ForgetsOne S a b id f t) → Up one.swept t
  tail-up a b id f t one = by one.turn
    where
      to-it : (u : Swept) → t ≡ u → Up one.swept u → Up one.swept t
      to-it u is up = subst (λ (v : Swept). Up one.swept v) (sym is) up

      left : IdLeft a.house b.house id f one.swept t → Up one.swept t
      left (inl listed) =
          to-it (count_listed one.swept) listed (record { faults = le_refl one.swept.faults; listed = more-least one.swept.listed })
      left (inr over) = to-it one.swept over.1 (record { faults = le_refl one.swept.faults; listed = le_refl one.swept.listed })

      by : (IsForgottenNow S one.left b id × (t ≡ count_forgotten one.swept)) ⊎ (Asks S one.left b × IdLeft a.house b.house id f one.swept t) → Up one.swept t
      by (inl now) =
          to-it (count_forgotten one.swept) now.1 (record { faults = le_refl one.swept.faults; listed = le_refl one.swept.listed })
      by (inr asks) = left asks.1

  one-up : (a b : M) (id : LostId) (f t : Swept) → ForgetsOne S a b id f t → Up f t
  one-up a b id f t one = up-more f one.swept t (sweeps-none-less a one.left f one.swept one.sweeps) (tail-up a b id f t one)

  each-up : (a b : M) (ids : List LostId) (f t : Swept) → ForgetEach S a b ids f t → Up f t
  each-up a b [] f t each = sweeps-none-less a b f t each
  each-up a b (id ∷ ids) f t each = up-more f each.1 t (one-up a each.0 id f each.1 each.2) (each-up each.0 b ids each.1 t each.3)

  table-up : (a b : M) (ids : List LostId) (f t : Swept) → ForgetsTable S a b ids f t → Up f t
  table-up a b ids f t (inl each) = each-up a b ids f t each
  table-up a b ids f t (inr failed) = sweeps-none-less a b f t failed.0

  pub tables-up : (a b : M) (tables : List ℕ) (ids : List LostId) (f t : Swept) → ForgetTables S a b tables ids f t → Up f t
  tables-up a b [] ids f t each = sweeps-none-less a b f t each
  tables-up a b (table ∷ tables) ids f t each =
      up-more f each.1 t (table-up a each.0 (ids_of table ids) f each.1 each.2) (tables-up each.0 b tables ids each.1 t each.3)

  -- ---- one id

  one-forgotten : (a b : M) (id : LostId) (f t : Swept) → ForgetsOne S a b id f t → None_ t → IsPending (state_of (book_in a.house)) id
      → book_in b.house ≡ book_in a.house ++ forgot_entry id ∷ []
  one-forgotten a b id f t one zero_ pending = by one.turn
    where
      swept-same : book_in one.left.house ≡ book_in a.house
      swept-same = sweeps-book told faults B rows meanwhile none a one.left f one.swept one.sweeps

      unfailed : one.swept.faults ≡ 0
      unfailed = zero-below one.swept.faults t.faults (tail-up a b id f t one).faults zero_.faults

      over : book_in b.house ≡ book_in a.house → IdLeft a.house b.house id f one.swept t → ⊥
      over books (inl listed) = more-some one.swept.listed (sym (ap (λ (u : Swept). u.listed) listed) ∙ zero_.listed)
      over books (inr was_) =
          let was : WasAt a.house b.house (IsIdOver id) =
          was_.0 (no-fault f one.swept (sweeps-none-less a one.left f one.swept one.sweeps).faults unfailed) in
          let states : state_at was.then_ ≡ state_of (book_in a.house) =
          was-state told faults B rows meanwhile none a.house b.house (IsIdOver id) was books in
          not-over (state_of (book_in a.house)) id pending
          (subst (λ (u : State). (is_live_in u id.table.0 ≡ false) ⊎ (CanForget u id.table.0 id.write.0 → ⊥)) states was.was)

      by : (IsForgottenNow S one.left b id × (t ≡ count_forgotten one.swept)) ⊎ (Asks S one.left b × IdLeft a.house b.house id f one.swept t)
          → book_in b.house ≡ book_in a.house ++ forgot_entry id ∷ []
      by (inl now) =
          book-adds told faults B rows meanwhile none one.left b (Noted (entry.Forgot id.table id.write) ∷ []) now.0.adds
          ∙ ap (λ (xs : List Entry). xs ++ forgot_entry id ∷ []) swept-same
      by (inr asks) = absurd (over (asks-book told faults B rows meanwhile none one.left b asks.0 ∙ swept-same) asks.1)

  -- ---- each

  pub record Forgets (a b : M) (xs ys : List LostId) : Type 0 where
    pub book : book_in b.house ≡ book_in a.house ++ map forgot_entry xs
    pub pending : AllByRecursion (IsPending (state_of (book_in b.house))) ys

  each-forgets : (a b : M) (xs ys : List LostId) (f t : Swept) → ForgetEach S a b xs f t → None_ t
      → AllByRecursion (IsPending (state_of (book_in a.house))) (xs ++ ys) → AreApart (xs ++ ys) → Forgets a b xs ys
  each-forgets a b [] ys f t each zero_ pending apart =
      let books : book_in b.house ≡ book_in a.house = sweeps-book told faults B rows meanwhile none a b f t each in
      record {
        book = books ∙ sym (append-nil (book_in a.house));
        pending = subst (λ (book : List Entry). AllByRecursion (IsPending (state_of book)) ys) (sym books) pending;
      }
  each-forgets a b (x ∷ xs) ys f t each zero_ pending apart =
      let first : book_in each.0.house ≡ book_in a.house ++ forgot_entry x ∷ [] =
      one-forgotten a each.0 x f each.1 each.2 (none-up each.1 t (each-up each.0 b xs each.1 t each.3) zero_) pending.0 in
      let states : state_of (book_in each.0.house) ≡ after (state_of (book_in a.house)) (entry.Forgot x.table x.write) =
      ap state_of first ∙ state_of-snoc (book_in a.house) (forgot_entry x) in
      let rest : Forgets each.0 b xs ys =
      each-forgets each.0 b xs ys each.1 t each.3 zero_
      (subst (λ (u : State). AllByRecursion (IsPending u) (xs ++ ys)) (sym states) (all-after (state_of (book_in a.house)) x (xs ++ ys) apart.0 pending.1))
      apart.1 in
      record {
        book = rest.book ∙ ap (λ (es : List Entry). es ++ map forgot_entry xs) first ∙ append_assoc (book_in a.house) (forgot_entry x ∷ []) (map forgot_entry xs);
        pending = rest.pending;
      }

  pub tables-forget : (a b : M) (tables : List ℕ) (ids : List LostId) (f t : Swept) → ForgetTables S a b tables ids f t → None_ t
      → AllByRecursion (IsPending (state_of (book_in a.house))) (flat tables ids) → AreApart (flat tables ids)
      → book_in b.house ≡ book_in a.house ++ map forgot_entry (flat tables ids)
  tables-forget a b [] ids f t each zero_ pending apart =
      sweeps-book told faults B rows meanwhile none a b f t each ∙ sym (append-nil (book_in a.house))
  tables-forget a b (table ∷ tables) ids f t each zero_ pending apart =
      by each.2
      (λ pending_. tables-forget each.0 b tables ids each.1 t each.3 zero_ pending_ (apart-right (ids_of table ids) (flat tables ids) apart))
    where
      zero-mid : None_ each.1
      zero-mid = none-up each.1 t (tables-up each.0 b tables ids each.1 t each.3) zero_

      by : ForgetsTable S a each.0 (ids_of table ids) f each.1
          → (AllByRecursion (IsPending (state_of (book_in each.0.house))) (flat tables ids)
          → book_in b.house ≡ book_in each.0.house ++ map forgot_entry (flat tables ids))
          → book_in b.house ≡ book_in a.house ++ map forgot_entry (flat (table ∷ tables) ids)
      by (inl its) further =
          let here : Forgets a each.0 (ids_of table ids) (flat tables ids) =
          each-forgets a each.0 (ids_of table ids) (flat tables ids) f each.1 its zero-mid pending apart in
          further here.pending
          ∙ ap (λ (es : List Entry). es ++ map forgot_entry (flat tables ids)) here.book
          ∙ append_assoc (book_in a.house) (map forgot_entry (ids_of table ids)) (map forgot_entry (flat tables ids))
          ∙ ap (λ (es : List Entry). book_in a.house ++ es) (sym (map-append forgot_entry (ids_of table ids) (flat tables ids)))
      by (inr failed) further =
          absurd (failed.1 (no-fault f each.1 (sweeps-up told faults B rows meanwhile a each.0 f each.1 failed.0) zero-mid.faults))
