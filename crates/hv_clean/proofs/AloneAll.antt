-- Where others add nothing: what a whole pass adds to the book.
use Rattle.std.proofs.Common.{◌≡◌, ℕ, zero, suc, not, Some, None, ◌+◌, ◌<◌, ◌≤◌, ◌==◌, Bool, true, false, Option, List, [], ◌∷◌, ◌++◌, map, filter, length, refl, sym, ap, ◌∙◌, subst, append-nil, le_trans, le_refl, arith, eqb-true, ltb-false, ltb-true}
use Rattle.std.proofs.lemmas.Bool.{false_from_ne_true, eqb-false}
use Rattle.std.proofs.lemmas.List.Elements.{filter-append}
use Rattle.std.specs.Prelude.{if◌then◌else◌, ◌&&◌, nat_lt}
use Rattle.std.specs.List.{AllByRecursion, list_any}
use Rattle.hv_shelf.specs.Disk.{Store}
use Rattle.hv_history.specs.declared.entry.Entry.{Entry}
use Rattle.hv_history.specs.declared.state.Table.{Table}
use Rattle.hv_history.specs.declared.state.Transaction.{Transaction}
use Rattle.hv_history.specs.State.{State, numbered, state_of}
use Rattle.hv_history.specs.Jobs.{ids_of as table_ids}
use Rattle.hv_history.specs.JobsFit.{is_aborted_id}
use Rattle.hv_trail.specs.declared.trail.TrailItem.{TrailItem}
use Rattle.hv_actor.specs.Acting.{AreRows, Setting, Moment, among, numbers_from}
use Rattle.hv_job_acts.specs.hv_acts.specs.declared.told.ToldHouse.{ToldHouse}
use Rattle.hv_job_acts.specs.hv_acts.specs.Told.{book_in}
use Rattle.hv_job_acts.specs.declared.asking.LostId.{LostId}
use Rattle.hv_job_acts.specs.Work.{each_of, one_of, id_at, is_lost_at, lost_at, given_in, lost_of, ready_in, lost_in}
use Rattle.hv_clean.specs.Passing.{nothing, is_of_table, ids_of, last_from, last_table}
use Rattle.hv_clean.specs.Alone.{AddsNothing, forgot_entry, cleaned_up, PassesAlone}
use Rattle.hv_clean.proofs.Moved.{all-append}
use Rattle.hv_clean.proofs.AloneJobs.{Same, all-pend, sweeps-book, asks-book, Cleans, each-cleans}
use Rattle.hv_clean.proofs.AloneIds.{IsPending, Apart, AreApart, flat, None_, none-up, sweeps-none-less, tables-up, tables-forget}

-- ---- the ids that are lost

each-all : {X : Type 0} (P : X → Type 0) (f : ℕ → List X) → ((n : ℕ) → AllByRecursion P (f n)) → (n count : ℕ) → AllByRecursion P (each_of f n count)
each-all P f all n zero = tt
each-all P f all n (suc count) = all-append P (f n) (each_of f (n + 1) count) (all n) (each-all P f all (n + 1) count)

one-all : {X : Type 0} (P : X → Type 0) (given : Bool) (x : X) → (given ≡ true → P x) → AllByRecursion P (one_of given x)
one-all P true x is = (is refl, tt)
one-all P false x is = tt

all-more : {A : Type 0} (P Q : A → Type 0) → ((x : A) → P x → Q x) → (xs : List A) → AllByRecursion P xs → AllByRecursion Q xs
all-more P Q f [] all = tt
all-more P Q f (x ∷ xs) all = (f x all.0, all-more P Q f xs all.1)

pub all-pending : (s : State) → AllByRecursion (IsPending s) (lost_in s)
all-pending s =
    each-all (IsPending s) (lost_of s)
    (λ table. each-all (IsPending s) (lost_at s table)
    (λ write. one-all (IsPending s) (is_lost_at s write (numbered s.tables table)) (id_at table write) (λ e. e)) 1 (given_in s table))
    1 (length s.tables)

-- of a table, from a write id on
abbrev From : ℕ → ℕ → LostId → Type 0
From table write id = (id.table.0 ≡ table) × (write ≤ id.write.0)

from-lower : (table low high : ℕ) → low ≤ high → (ids : List LostId) → AllByRecursion (From table high) ids → AllByRecursion (From table low) ids
from-lower table low high le ids all = all-more (From table high) (From table low) (λ id from. (from.0, le_trans le from.1)) ids all

next : (n : ℕ) → n ≤ n + 1
next n = omega arith

of-from : (s : State) (table n count : ℕ) → AllByRecursion (From table n) (each_of (lost_at s table) n count)
of-from s table n zero = tt
of-from s table n (suc count) =
    all-append (From table n) (lost_at s table n) (each_of (lost_at s table) (n + 1) count)
    (one-all (From table n) (is_lost_at s n (numbered s.tables table)) (id_at table n) (λ e. (refl, le_refl n)))
    (from-lower table n (n + 1) (next n) (each_of (lost_at s table) (n + 1) count) (of-from s table (n + 1) count))

-- two lists whose ids are apart
apart-append : (xs ys : List LostId) → AreApart xs → AreApart ys → AllByRecursion (λ x. AllByRecursion (Apart x) ys) xs → AreApart (xs ++ ys)
apart-append [] ys a b c = b
apart-append (x ∷ xs) ys a b c = (all-append (Apart x) xs ys a.0 c.0, apart-append xs ys a.1 b c.1)

of-apart : (s : State) (table n count : ℕ) → AreApart (each_of (lost_at s table) n count)
of-apart s table n zero = tt
of-apart s table n (suc count) =
    apart-append (lost_at s table n) (each_of (lost_at s table) (n + 1) count) (single (is_lost_at s n (numbered s.tables table))) (of-apart s table (n + 1) count)
    (one-all (λ x. AllByRecursion (Apart x) (each_of (lost_at s table) (n + 1) count)) (is_lost_at s n (numbered s.tables table)) (id_at table n)
    (λ e. all-more (From table (n + 1)) (Apart (id_at table n)) higher (each_of (lost_at s table) (n + 1) count) (of-from s table (n + 1) count)))
  where
    single : (b : Bool) → AreApart (one_of b (id_at table n))
    single true = (tt, tt)
    single false = tt

    higher : (id : LostId) → From table (n + 1) id → Apart (id_at table n) id
    higher id from tables writes =
        let low : n + 1 ≤ id.write.0 = from.1 in
        let at : n ≡ id.write.0 = writes in
        omega (arith, low, at)

abbrev OnTable : ℕ → LostId → Type 0
OnTable table id = id.table.0 ≡ table

abbrev AboveTable : ℕ → LostId → Type 0
AboveTable table id = table ≤ id.table.0

lost-on : (s : State) (table : ℕ) → AllByRecursion (OnTable table) (lost_of s table)
lost-on s table =
    all-more (From table 1) (OnTable table) (λ id from. from.0) (lost_of s table) (of-from s table 1 (given_in s table))

lost-above : (s : State) (n count : ℕ) → AllByRecursion (AboveTable n) (each_of (lost_of s) n count)
lost-above s n zero = tt
lost-above s n (suc count) =
    all-append (AboveTable n) (lost_of s n) (each_of (lost_of s) (n + 1) count)
    (all-more (OnTable n) (AboveTable n) (λ id on. at id on) (lost_of s n) (lost-on s n))
    (all-more (AboveTable (n + 1)) (AboveTable n) (λ id above. le_trans (next n) above) (each_of (lost_of s) (n + 1) count) (lost-above s (n + 1) count))
  where
    at : (id : LostId) → OnTable n id → AboveTable n id
    at id on = let is : id.table.0 ≡ n = on in omega (arith, is)

lost-apart : (s : State) (n count : ℕ) → AreApart (each_of (lost_of s) n count)
lost-apart s n zero = tt
lost-apart s n (suc count) =
    apart-append (lost_of s n) (each_of (lost_of s) (n + 1) count) (of-apart s n 1 (given_in s n)) (lost-apart s (n + 1) count)
    (all-more (OnTable n) (λ x. AllByRecursion (Apart x) (each_of (lost_of s) (n + 1) count)) others (lost_of s n) (lost-on s n))
  where
    differ : (x : LostId) → OnTable n x → (y : LostId) → AboveTable (n + 1) y → Apart x y
    differ x on y above tables writes =
        let is : x.table.0 ≡ n = on in
        let high : n + 1 ≤ y.table.0 = above in
        omega (arith, is, high, tables)

    others : (x : LostId) → OnTable n x → AllByRecursion (Apart x) (each_of (lost_of s) (n + 1) count)
    others x on = all-more (AboveTable (n + 1)) (Apart x) (differ x on) (each_of (lost_of s) (n + 1) count) (lost-above s (n + 1) count)

pub all-apart : (s : State) → AreApart (lost_in s)
all-apart s = lost-apart s 1 (length s.tables)

-- ---- they are those of their tables, one after another

kept-all : {A : Type 0} (p : A → Bool) (xs : List A) → AllByRecursion (λ x. p x ≡ true) xs → filter p xs ≡ xs
kept-all p [] all = refl
kept-all p (x ∷ xs) all =
    ap (λ (b : Bool). if b then x ∷ filter p xs else filter p xs) all.0 ∙ ap (λ (ys : List _). x ∷ ys) (kept-all p xs all.1)

kept-none : {A : Type 0} (p : A → Bool) (xs : List A) → AllByRecursion (λ x. p x ≡ false) xs → filter p xs ≡ []
kept-none p [] all = refl
kept-none p (x ∷ xs) all = ap (λ (b : Bool). if b then x ∷ filter p xs else filter p xs) all.0 ∙ kept-none p xs all.1

same-eqb : (a b : ℕ) → a ≡ b → (a == b) ≡ true
same-eqb a b e = by (a == b) refl
  where
    by : (c : Bool) → (a == b) ≡ c → c ≡ true
    by true is = refl
    by false is = absurd (eqb-false a b is e)

on-kept : (table : ℕ) (xs : List LostId) → AllByRecursion (OnTable table) xs → ids_of table xs ≡ xs
on-kept table xs all =
    kept-all (is_of_table table) xs (all-more (OnTable table) (λ id. is_of_table table id ≡ true) (λ id on. same-eqb id.table.0 table on) xs all)

other-gone : (table : ℕ) (xs : List LostId) → AllByRecursion (λ (id : LostId). id.table.0 ≡ table → ⊥) xs → ids_of table xs ≡ []
other-gone table xs all =
    kept-none (is_of_table table) xs
    (all-more (λ (id : LostId). id.table.0 ≡ table → ⊥) (λ id. is_of_table table id ≡ false)
    (λ id differ. false_from_ne_true (id.table.0 == table) (λ e. differ (eqb-true id.table.0 table e))) xs all)

flat-none : (tables : List ℕ) → flat tables [] ≡ []
flat-none [] = refl
flat-none (table ∷ tables) = flat-none tables

-- those of a lower table aren't of these
flat-skips : (low from count : ℕ) (xs ys : List LostId) → low < from → AllByRecursion (OnTable low) xs → flat (numbers_from from count) (xs ++ ys) ≡ flat (numbers_from from count) ys
flat-skips low from zero xs ys below all = refl
flat-skips low from (suc count) xs ys below all =
    ap (λ (zs : List LostId). zs ++ flat (numbers_from (from + 1) count) (xs ++ ys)) its
    ∙ ap (λ (zs : List LostId). ids_of from ys ++ zs) (flat-skips low (from + 1) count xs ys (omega (arith, below)) all)
  where
    differ : (id : LostId) → OnTable low id → id.table.0 ≡ from → ⊥
    differ id on at = let is : id.table.0 ≡ low = on in omega (arith, is, at, below)

    its : ids_of from (xs ++ ys) ≡ ids_of from ys
    its =
        filter-append (is_of_table from) xs ys
        ∙ ap (λ (zs : List LostId). zs ++ ids_of from ys)
        (other-gone from xs (all-more (OnTable low) (λ (id : LostId). id.table.0 ≡ from → ⊥) differ xs all))

abbrev BelowTable : ℕ → LostId → Type 0
BelowTable top id = id.table.0 < top

all-left : {A : Type 0} (P : A → Type 0) (xs ys : List A) → AllByRecursion P (xs ++ ys) → AllByRecursion P xs
all-left P [] ys all = tt
all-left P (x ∷ xs) ys all = (all.0, all-left P xs ys all.1)

all-right : {A : Type 0} (P : A → Type 0) (xs ys : List A) → AllByRecursion P (xs ++ ys) → AllByRecursion P ys
all-right P [] ys all = all
all-right P (x ∷ xs) ys all = all-right P xs ys all.1

gathers : (s : State) (n count most : ℕ) → AllByRecursion (BelowTable (n + most)) (each_of (lost_of s) n count)
    → flat (numbers_from n most) (each_of (lost_of s) n count) ≡ each_of (lost_of s) n count
gathers s n zero most below = flat-none (numbers_from n most)
gathers s n (suc count) zero below = by (each_of (lost_of s) n (suc count)) below (lost-above s n (suc count))
  where
    by : (xs : List LostId) → AllByRecursion (BelowTable (n + 0)) xs → AllByRecursion (AboveTable n) xs → [] ≡ xs
    by [] below above = refl
    by (x ∷ xs) below above =
        let high : x.table.0 < n + 0 = below.0 in
        let low : n ≤ x.table.0 = above.0 in
        absurd (omega (arith, high, low))
gathers s n (suc count) (suc most) below =
    ap (λ (zs : List LostId). zs ++ flat (numbers_from (n + 1) most) (lost_of s n ++ Rest)) here
    ∙ ap (λ (zs : List LostId). lost_of s n ++ zs)
    (flat-skips n (n + 1) most (lost_of s n) Rest (omega arith) (lost-on s n) ∙ gathers s (n + 1) count most below-rest)
  where
    Rest : List LostId
    Rest = each_of (lost_of s) (n + 1) count

    differ : (id : LostId) → AboveTable (n + 1) id → id.table.0 ≡ n → ⊥
    differ id above at = let high : n + 1 ≤ id.table.0 = above in omega (arith, high, at)

    here : ids_of n (lost_of s n ++ Rest) ≡ lost_of s n
    here =
        filter-append (is_of_table n) (lost_of s n) Rest
        ∙ ap (λ (zs : List LostId). zs ++ ids_of n Rest) (on-kept n (lost_of s n) (lost-on s n))
        ∙ ap (λ (zs : List LostId). lost_of s n ++ zs)
        (other-gone n Rest (all-more (AboveTable (n + 1)) (λ (id : LostId). id.table.0 ≡ n → ⊥) differ Rest (lost-above s (n + 1) count)))
        ∙ append-nil (lost_of s n)

    lower : (id : LostId) → BelowTable (n + suc most) id → BelowTable (n + 1 + most) id
    lower id below = let high : id.table.0 < n + suc most = below in omega (arith, high)

    below-rest : AllByRecursion (BelowTable (n + 1 + most)) Rest
    below-rest =
        all-more (BelowTable (n + suc most)) (BelowTable (n + 1 + most)) lower Rest
        (all-right (BelowTable (n + suc most)) (lost_of s n) Rest below)

-- ---- the last table

last-least : (ids : List LostId) (last : ℕ) → last ≤ last_from last ids
last-least [] last = le_refl last
last-least (id ∷ ids) last = by (nat_lt last id.table.0) refl (last-least ids id.table.0) (last-least ids last)
  where
    by : (b : Bool) → nat_lt last id.table.0 ≡ b → id.table.0 ≤ last_from id.table.0 ids → last ≤ last_from last ids
        → last ≤ last_from (if b then id.table.0 else last) ids
    by true e high same =
        let low = ltb-true last id.table.0 e in
        let up : last ≤ id.table.0 = omega (arith, low) in
        le_trans up high
    by false e high same = same

last-bounds : (ids : List LostId) (last : ℕ) → AllByRecursion (λ (id : LostId). id.table.0 ≤ last_from last ids) ids
last-bounds [] last = tt
last-bounds (id ∷ ids) last = (by (nat_lt last id.table.0) refl, last-bounds ids (if nat_lt last id.table.0 then id.table.0 else last))
  where
    by : (b : Bool) → nat_lt last id.table.0 ≡ b → id.table.0 ≤ last_from (if b then id.table.0 else last) ids
    by true e = last-least ids id.table.0
    by false e = let low = ltb-false last id.table.0 e in le_trans (omega (arith, low)) (last-least ids last)

pub flat-is : (s : State) → flat (numbers_from 1 (last_table (lost_in s))) (lost_in s) ≡ lost_in s
flat-is s =
    gathers s 1 (length s.tables) (last_table (lost_in s))
    (all-more (λ (id : LostId). id.table.0 ≤ last_table (lost_in s)) (BelowTable (1 + last_table (lost_in s))) below (lost_in s) (last-bounds (lost_in s) 0))
  where
    below : (id : LostId) → id.table.0 ≤ last_table (lost_in s) → BelowTable (1 + last_table (lost_in s)) id
    below id le = let high : id.table.0 ≤ last_table (lost_in s) = le in omega (arith, high)

-- what is lost goes by the tables and the transactions
each-same : {X : Type 0} (f g : ℕ → List X) → ((n : ℕ) → f n ≡ g n) → (n count : ℕ) → each_of f n count ≡ each_of g n count
each-same f g same n zero = refl
each-same f g same n (suc count) =
    ap (λ (xs : List _). xs ++ each_of f (n + 1) count) (same n) ∙ ap (λ (xs : List _). g n ++ xs) (each-same f g same (n + 1) count)

pub lost-same : (s0 s : State) → Same s0 s → lost_in s ≡ lost_in s0
lost-same s0 s same =
    each-same (lost_of s) (lost_of s0) of-same 1 (length s.tables)
    ∙ ap (λ (ts : List Table). each_of (lost_of s0) 1 (length ts)) same.tables
  where
    at-same : (write : ℕ) (o : Option Table) → is_lost_at s write o ≡ is_lost_at s0 write o
    at-same write None = refl
    at-same write (Some t) =
        ap (λ (ts : List Transaction).
        t.is_live && (is_aborted_id ts (numbered t.owners write) && not (list_any (λ other. other == write) t.forgotten))) same.transactions

    lost-at : (table write : ℕ) → lost_at s table write ≡ lost_at s0 table write
    lost-at table write =
        ap (λ (b : Bool). one_of b (id_at table write))
        (at-same write (numbered s.tables table) ∙ ap (λ (ts : List Table). is_lost_at s0 write (numbered ts table)) same.tables)

    given-same : (table : ℕ) → given_in s table ≡ given_in s0 table
    given-same table = ap (λ (ts : List Table). length (table_ids (numbered ts table))) same.tables

    of-same : (table : ℕ) → lost_of s table ≡ lost_of s0 table
    of-same table =
        each-same (lost_at s table) (lost_at s0 table) (lost-at table) 1 (given_in s table)
        ∙ ap (λ (n : ℕ). each_of (lost_at s0 table) 1 n) (given-same table)

-- ---- a whole pass

module _ {D : Type 0} (told : D → Option Store) (faults : D → ℕ) (B : List TrailItem → Type 0) (rows : AreRows B) (meanwhile : ToldHouse D → ToldHouse D → Type 0)
    (none : AddsNothing B) where
  abbrev S : Setting D (ToldHouse D)
  S = among told faults B meanwhile

  pub passes-alone : PassesAlone told faults B meanwhile
  passes-alone before now t pass no-faults no-listed = last
    where
      start : Moment (ToldHouse D)
      start = pass.start

      left : Moment (ToldHouse D)
      left = pass.over.left

      ids : Moment (ToldHouse D)
      ids = pass.over.rest.ids.start

      behind : Moment (ToldHouse D)
      behind = pass.over.rest.left

      s0 : State
      s0 = state_of (book_in pass.start.house)

      s1 : State
      s1 = state_of (book_in pass.over.rest.ids.start.house)

      zero-behind : None_ pass.over.rest.swept
      zero-behind =
          none-up pass.over.rest.swept t (sweeps-none-less told faults B rows meanwhile none behind now pass.over.rest.swept t pass.over.rest.sweeps)
          (record { faults = no-faults; listed = no-listed })

      zero-left : None_ pass.over.swept
      zero-left =
          none-up pass.over.swept pass.over.rest.swept
          (tables-up told faults B rows meanwhile none ids behind (numbers_from 1 (last_table (lost_in s1))) (lost_in s1) pass.over.swept pass.over.rest.swept
          pass.over.rest.ids.ids)
          zero-behind

      jobs : Cleans told faults B rows meanwhile none s0 start left (ready_in s0)
      jobs =
          each-cleans told faults B rows meanwhile none s0 start left (ready_in s0) 1 nothing pass.over.swept pass.over.turns zero-left.faults
          (record { transactions = refl; tables = refl }) (all-pend s0)

      asked : book_in ids.house ≡ book_in left.house
      asked = asks-book told faults B rows meanwhile none left ids pass.over.rest.ids.asks

      lost : lost_in s1 ≡ lost_in s0
      lost = lost-same s0 s1 (subst (λ (book : List Entry). Same s0 (state_of book)) (sym asked) jobs.same)

      forgotten : book_in behind.house ≡ book_in ids.house ++ map forgot_entry (flat (numbers_from 1 (last_table (lost_in s1))) (lost_in s1))
      forgotten =
          tables-forget told faults B rows meanwhile none ids behind (numbers_from 1 (last_table (lost_in s1))) (lost_in s1) pass.over.swept pass.over.rest.swept
          pass.over.rest.ids.ids zero-behind
          (subst (AllByRecursion (IsPending s1)) (sym (flat-is s1)) (all-pending s1))
          (subst AreApart (sym (flat-is s1)) (all-apart s1))

      swept : book_in now.house ≡ book_in behind.house
      swept = sweeps-book told faults B rows meanwhile none behind now pass.over.rest.swept t pass.over.rest.sweeps

      all : book_in now.house ≡ cleaned_up (book_in start.house)
      all =
          swept ∙ forgotten
          ∙ ap (λ (xs : List LostId). book_in ids.house ++ map forgot_entry xs) (flat-is s1 ∙ lost)
          ∙ ap (λ (book : List Entry). book ++ map forgot_entry (lost_in s0)) (asked ∙ jobs.book)

      last : book_in now.house ≡ cleaned_up (book_in before.house)
      last = all ∙ ap cleaned_up (asks-book told faults B rows meanwhile none before start pass.asks)
