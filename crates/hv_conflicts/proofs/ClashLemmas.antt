-- What the walk over the places of the commits finds is the first conflict of the state.
use Rattle.std.proofs.Common.{◌≡◌, ℕ, zero, suc, ◌+◌, ◌<◌, ◌≤◌, Option, Some, None, List, [], ◌∷◌, length, get_or, take, drop, refl, sym, ap, ◌∙◌, subst, arith}
use Rattle.std.specs.Prelude.{if◌then◌else◌, Bool, true, false, ◌&&◌, ◌||◌, ◌==◌, nat_lt, nat_eq, IsTrue, IsFalse, IsSomeAnd, IfSome, IfNone, option_and_then}
use Rattle.std.specs.Option.{option_map, option_or}
use Rattle.std.specs.List.{slice_get, list_any, AllByRecursion}
use Rattle.std.specs.Cmp.Lexicographic.{pointwise}
use Rattle.std.proofs.lemmas.Bool.{ltb-true, lt-ltb, eq-eqb, eqb-true}
use Rattle.hv_base.specs.declared.ids.TxnId.{TxnId}
use Rattle.hv_base.specs.declared.ids.Touch.{Touch}
use Rattle.hv_history.specs.declared.entry.Entry.{Entry}
use Rattle.hv_history.specs.declared.entry.Entry.TheVariants as entry
use Rattle.hv_history.specs.declared.state.Transaction.{Transaction}
use Rattle.hv_history.specs.declared.state.Snapshot.{Snapshot}
use Rattle.hv_history.specs.declared.state.Ending.{Ending}
use Rattle.hv_history.specs.declared.state.Ending.TheVariants.{Committed, Aborted, Made, Dropped}
use Rattle.hv_history.specs.State.{State, numbered, state_of}
use Rattle.hv_history.specs.Legal.{Of, IsRunning, ConflictFits, MeetsNoConflict, IsFirstConflict, first_shared, commits_against, commits_before, deletes_in, deleted_behind, place_of_snapshot, touch_conflicts, touches_conflict}
use Rattle.hv_book.specs.Briefs.{brief, snapshot_place}
use Rattle.hv_book.specs.Commits.{touches_of_entry, touches_at, pass, passes_at, is_committed, commits_so, IsRising}
use Rattle.hv_book.proofs.CommitLaws.{IsTold, told-of}
use Rattle.hv_book.proofs.BookLaws.{follows}
use Rattle.hv_meta.specs.Committing.{against, started_place, place_or}
use Rattle.hv_meta.proofs.FactLemmas.{and-left, and-right, and-both}
use Rattle.hv_meta.proofs.CommitLemmas.{against-same, not-lt}
use Rattle.hv_conflicts.specs.declared.meeting.Clash.{Clash}
use Rattle.hv_conflicts.specs.Clashes.{IsClash, shares, here_or, shared_from, clash_by, clash_with, only_if, clash_behind, first_some}
use Rattle.hv_conflicts.proofs.CommitterLaws.{committer, committed-by}

-- ---- tests

and-false : (a : Bool) → (a && false) ≡ false
and-false true = refl
and-false false = refl

or-true : (a b : Bool) → b ≡ true → (a || b) ≡ true
or-true true b e = refl
or-true false b e = e

or-false : (a b : Bool) → a ≡ false → b ≡ false → (a || b) ≡ false
or-false true b e h = e
or-false false b e h = h

pub or-right : (a b : Bool) → (a || b) ≡ false → b ≡ false
or-right true b e = cc
or-right false b e = e

or-left : (a b : Bool) → (a || b) ≡ false → a ≡ false
or-left true b e = e
or-left false b e = refl

-- ---- the first touch that both share

-- the touch at that place is the first that conflicts with one of those
pub record IsShared (wrote those : List Touch) (at : ℕ) : Type 0 where
  pub touch : Touch
  pub found : slice_get wrote at ≡ Some touch
  pub first : first_shared wrote those ≡ Some touch
  pub earlier : IsFalse (touches_conflict (take at wrote) those)
  pub shared : IsTrue (shares those touch)

-- the same of a place that is counted from another one
record IsSharedFrom (wrote those : List Touch) (start at : ℕ) : Type 0 where
  pub step : ℕ
  pub counted : at ≡ start + step
  pub shared : IsShared wrote those step

shared-more : (touch : Touch) (wrote those : List Touch) (start at : ℕ) → shares those touch ≡ false → IsSharedFrom wrote those (start + 1) at
    → IsSharedFrom (touch ∷ wrote) those start at
shared-more touch wrote those start at fails h =
    let counted = h.counted in
    record {
      step = suc h.step;
      counted = omega (arith, counted);
      shared = record {
        touch = h.shared.touch;
        found = h.shared.found;
        first = by (shares those touch) fails;
        earlier = or-false (shares those touch) (touches_conflict (take h.step wrote) those) fails h.shared.earlier;
        shared = h.shared.shared;
      };
    }
  where
    by : (b : Bool) → b ≡ false → (if b then Some touch else first_shared wrote those) ≡ Some h.shared.touch
    by true e = cc
    by false e = h.shared.first

shared-at : (wrote those : List Touch) (start at : ℕ) → shared_from start wrote those ≡ Some at → IsSharedFrom wrote those start at
shared-at [] those start at e = cc
shared-at (touch ∷ wrote) those start at e = by (shared-at wrote those (start + 1) at) (shares those touch) refl e
  where
    by : (shared_from (start + 1) wrote those ≡ Some at → IsSharedFrom wrote those (start + 1) at)
        → (b : Bool) → shares those touch ≡ b → here_or b start (shared_from (start + 1) wrote those) ≡ Some at → IsSharedFrom (touch ∷ wrote) those start at
    by rest true is here =
        let same : start ≡ at = cc in
        record {
          step = 0;
          counted = omega (arith, same);
          shared = record {
            touch = touch;
            found = refl;
            first = ap (λ b. if b then Some touch else first_shared wrote those) is;
            earlier = refl;
            shared = is;
          };
        }
    by rest false is later = shared-more touch wrote those start at is (rest later)

pub shared-is : (wrote those : List Touch) (at : ℕ) → shared_from 0 wrote those ≡ Some at → IsShared wrote those at
shared-is wrote those at e =
    let h = shared-at wrote those 0 at e in
    let same : h.step ≡ at = (let counted = h.counted in omega (arith, counted)) in
    subst (IsShared wrote those) same h.shared

pub shared-none : (wrote those : List Touch) (start : ℕ) → shared_from start wrote those ≡ None → touches_conflict wrote those ≡ false
shared-none [] those start e = refl
shared-none (touch ∷ wrote) those start e = by (shared-none wrote those (start + 1)) (shares those touch) refl e
  where
    by : (shared_from (start + 1) wrote those ≡ None → touches_conflict wrote those ≡ false)
        → (b : Bool) → shares those touch ≡ b → here_or b start (shared_from (start + 1) wrote those) ≡ None → (shares those touch || touches_conflict wrote those) ≡ false
    by rest true is here = cc
    by rest false is later = or-false (shares those touch) (touches_conflict wrote those) is (rest later)

-- ---- the clash with one entry

pub record IsMet (wrote : List Touch) (o : Option Entry) (clash : Clash) : Type 0 where
  pub those : List Touch
  pub commit : o ≡ Some (entry.Commit clash.by those)
  pub shared : IsShared wrote those clash.at

met-by : (wrote those : List Touch) (txn : TxnId) (clash : Clash) (o : Option ℕ) → shared_from 0 wrote those ≡ o → option_map (clash_by txn) o ≡ Some clash
    → IsMet wrote (Some (entry.Commit txn those)) clash
met-by wrote those txn clash None is e = cc
met-by wrote those txn clash (Some at) is e =
    let same : clash_by txn at ≡ clash = cc in
    let by : txn ≡ clash.by = ap (λ (c : Clash). c.by) same in
    let place : at ≡ clash.at = ap (λ (c : Clash). c.at) same in
    record {
      those = those;
      commit = ap (λ x. Some (entry.Commit x those)) by;
      shared = subst (IsShared wrote those) place (shared-is wrote those at is);
    }

pub met-is : (wrote : List Touch) (o : Option Entry) (clash : Clash) → clash_with wrote o ≡ Some clash → IsMet wrote o clash
met-is wrote None clash e = cc
met-is wrote (Some (entry.Commit txn those)) clash e = met-by wrote those txn clash (shared_from 0 wrote those) refl e
met-is wrote (Some (entry.Boot run)) clash e = cc
met-is wrote (Some (entry.Opened txn session number text)) clash e = cc
met-is wrote (Some (entry.Start txn statement)) clash e = cc
met-is wrote (Some (entry.Given txn table write)) clash e = cc
met-is wrote (Some (entry.Abort txn cause)) clash e = cc
met-is wrote (Some (entry.Create txn table)) clash e = cc
met-is wrote (Some (entry.Drop txn table)) clash e = cc
met-is wrote (Some (entry.Asked job table partition kind by)) clash e = cc
met-is wrote (Some (entry.Picked job watermark)) clash e = cc
met-is wrote (Some (entry.Published job low high mark)) clash e = cc
met-is wrote (Some (entry.Empty job)) clash e = cc
met-is wrote (Some (entry.Cleaned job)) clash e = cc
met-is wrote (Some (entry.Next txn statement number text)) clash e = cc
met-is wrote (Some (entry.Did txn statement its_wrote)) clash e = cc
met-is wrote (Some (entry.Alter txn table)) clash e = cc
met-is wrote (Some (entry.Failed job cause)) clash e = cc
met-is wrote (Some (entry.Forgot table write)) clash e = cc

no-clash : (txn : TxnId) (o : Option ℕ) → option_map (clash_by txn) o ≡ None → o ≡ None
no-clash txn None e = refl
no-clash txn (Some at) e = cc

pub unmet : (wrote : List Touch) (o : Option Entry) → clash_with wrote o ≡ None → pass (touches_conflict wrote) (option_and_then touches_of_entry o) ≡ false
unmet wrote None e = refl
unmet wrote (Some (entry.Commit txn those)) e = shared-none wrote those 0 (no-clash txn (shared_from 0 wrote those) e)
unmet wrote (Some (entry.Boot run)) e = refl
unmet wrote (Some (entry.Opened txn session number text)) e = refl
unmet wrote (Some (entry.Start txn statement)) e = refl
unmet wrote (Some (entry.Given txn table write)) e = refl
unmet wrote (Some (entry.Abort txn cause)) e = refl
unmet wrote (Some (entry.Create txn table)) e = refl
unmet wrote (Some (entry.Drop txn table)) e = refl
unmet wrote (Some (entry.Asked job table partition kind by)) e = refl
unmet wrote (Some (entry.Picked job watermark)) e = refl
unmet wrote (Some (entry.Published job low high mark)) e = refl
unmet wrote (Some (entry.Empty job)) e = refl
unmet wrote (Some (entry.Cleaned job)) e = refl
unmet wrote (Some (entry.Next txn statement number text)) e = refl
unmet wrote (Some (entry.Did txn statement its_wrote)) e = refl
unmet wrote (Some (entry.Alter txn table)) e = refl
unmet wrote (Some (entry.Failed job cause)) e = refl
unmet wrote (Some (entry.Forgot table write)) e = refl

-- ---- tests of a commit's place and touches

-- behind one place and, in the second, before another
abbrev pub between : ℕ → ℕ → List Touch → ℕ → List Touch → Bool
between place end wrote at those = nat_lt place at && (nat_lt at end && touches_conflict wrote those)

abbrev pub stands_at : ℕ → ℕ → List Touch → Bool
stands_at place at those = at == place

between-same : (place end : ℕ) (wrote : List Touch) (o : Option Ending) → is_committed (between place end wrote) o ≡ commits_before place end wrote o
between-same place end wrote None = refl
between-same place end wrote (Some (Committed at those)) = refl
between-same place end wrote (Some (Aborted at cause)) = refl
between-same place end wrote (Some (Made at table)) = refl
between-same place end wrote (Some (Dropped at table)) = refl

any-same : {A : Type 0} (p q : A → Bool) → ((x : A) → p x ≡ q x) → (xs : List A) → list_any p xs ≡ list_any q xs
any-same p q same [] = refl
any-same p q same (x ∷ xs) = ap (λ b. b || list_any p xs) (same x) ∙ ap (λ b. q x || b) (any-same p q same xs)

-- ---- the walk

module _ (entries : List Entry) (place : ℕ) (wrote : List Touch) where
  -- the clash is that with the entry at one of these places, behind the other, and none of them before it conflicts
  pub record IsWalked (places : List ℕ) (clash : Clash) : Type 0 where
    pub at : ℕ
    pub behind : IsTrue (nat_lt place at)
    pub met : IsMet wrote (slice_get entries at) clash
    pub member : IsTrue (list_any (passes_at (stands_at at) entries) places)
    pub earliest : IsFalse (list_any (passes_at (between place at wrote) entries) places)

  not-before : (at q : ℕ) (o : Option (List Touch)) → at ≤ q → pass (between place at wrote q) o ≡ false
  not-before at q None le = refl
  not-before at q (Some those) le =
      ap (λ b. nat_lt place q && (b && touches_conflict wrote those)) (not-lt q at le) ∙ and-false (nat_lt place q)

  none-later : (at : ℕ) (qs : List ℕ) → AllByRecursion (λ (q : ℕ). at < q) qs → list_any (passes_at (between place at wrote) entries) qs ≡ false
  none-later at [] h = refl
  none-later at (q ∷ qs) h =
      let less : at < q = h.0 in
      or-false (passes_at (between place at wrote) entries q) (list_any (passes_at (between place at wrote) entries) qs)
      (not-before at q (touches_at entries q) (omega (arith, less))) (none-later at qs h.1)

  quiet : (q : ℕ) (b : Bool) (o : Option Clash) → nat_lt place q ≡ b → clash_with wrote (slice_get entries q) ≡ o → only_if b o ≡ None
      → (nat_lt place q && pass (touches_conflict wrote) (touches_at entries q)) ≡ false
  quiet q false o is with_entry e = ap (λ b. b && pass (touches_conflict wrote) (touches_at entries q)) is
  quiet q true o is with_entry e =
      ap (λ b. nat_lt place q && b) (unmet wrote (slice_get entries q) (with_entry ∙ e)) ∙ and-false (nat_lt place q)

  passes-none : (q : ℕ) → clash_behind entries place wrote q ≡ None → passes_at (against place wrote) entries q ≡ false
  passes-none q e = by (touches_at entries q) refl
    where
      no_entry : (nat_lt place q && pass (touches_conflict wrote) (touches_at entries q)) ≡ false
      no_entry = quiet q (nat_lt place q) (clash_with wrote (slice_get entries q)) refl refl e

      by : (o : Option (List Touch)) → touches_at entries q ≡ o → pass (against place wrote q) (touches_at entries q) ≡ false
      by None is = ap (pass (against place wrote q)) is
      by (Some those) is = ap (pass (against place wrote q)) is ∙ sym (ap (λ o. nat_lt place q && pass (touches_conflict wrote) o) is) ∙ no_entry

  less-between : (at q : ℕ) (o : Option (List Touch)) → pass (against place wrote q) o ≡ false → pass (between place at wrote q) o ≡ false
  less-between at q None e = refl
  less-between at q (Some those) e = by (nat_lt place q) (nat_lt q at) (touches_conflict wrote those) e
    where
      by : (a b c : Bool) → (a && c) ≡ false → (a && (b && c)) ≡ false
      by false b c e = refl
      by true false c e = refl
      by true true c e = e

  touches-met : (at : ℕ) (clash : Clash) (met : IsMet wrote (slice_get entries at) clash) → touches_at entries at ≡ Some met.those
  touches-met at clash met = ap (option_and_then touches_of_entry) met.commit

  walked-first : (q : ℕ) (qs : List ℕ) (clash : Clash) → AllByRecursion (λ (other : ℕ). q < other) qs → (b : Bool) → nat_lt place q ≡ b
      → only_if b (clash_with wrote (slice_get entries q)) ≡ Some clash → IsWalked (q ∷ qs) clash
  walked-first q qs clash rising false is e = cc
  walked-first q qs clash rising true is e =
      let met = met-is wrote (slice_get entries q) clash e in
      let here : passes_at (stands_at q) entries q ≡ true = ap (pass (stands_at q q)) (touches-met q clash met) ∙ eq-eqb q q refl in
      record {
        at = q;
        behind = is;
        met = met;
        member = ap (λ b. b || list_any (passes_at (stands_at q) entries) qs) here;
        earliest = or-false (passes_at (between place q wrote) entries q) (list_any (passes_at (between place q wrote) entries) qs)
            (not-before q q (touches_at entries q) (omega arith)) (none-later q qs rising);
      }

  walked-more : (q : ℕ) (qs : List ℕ) (clash : Clash) → clash_behind entries place wrote q ≡ None → IsWalked qs clash → IsWalked (q ∷ qs) clash
  walked-more q qs clash fails h = record {
    at = h.at;
    behind = h.behind;
    met = h.met;
    member = or-true (passes_at (stands_at h.at) entries q) (list_any (passes_at (stands_at h.at) entries) qs) h.member;
    earliest = or-false (passes_at (between place h.at wrote) entries q) (list_any (passes_at (between place h.at wrote) entries) qs)
        (less-between h.at q (touches_at entries q) (passes-none q fails)) h.earliest;
  }

  pub walked : (qs : List ℕ) (clash : Clash) → IsRising qs → first_some (clash_behind entries place wrote) qs ≡ Some clash → IsWalked qs clash
  walked [] clash rising e = cc
  walked (q ∷ qs) clash rising e = by (walked qs clash rising.1) (clash_behind entries place wrote q) refl e
    where
      by : (first_some (clash_behind entries place wrote) qs ≡ Some clash → IsWalked qs clash)
          → (o : Option Clash) → clash_behind entries place wrote q ≡ o → option_or o (first_some (clash_behind entries place wrote) qs) ≡ Some clash → IsWalked (q ∷ qs) clash
      by rest None is later = walked-more q qs clash is (rest later)
      by rest (Some first) is here =
          let same : first ≡ clash = cc in
          walked-first q qs clash rising.0 (nat_lt place q) refl (is ∙ ap (λ (c : Clash). Some c) same)

  pub walked-none : (qs : List ℕ) → first_some (clash_behind entries place wrote) qs ≡ None → list_any (passes_at (against place wrote) entries) qs ≡ false
  walked-none [] e = refl
  walked-none (q ∷ qs) e = by (walked-none qs) (clash_behind entries place wrote q) refl e
    where
      by : (first_some (clash_behind entries place wrote) qs ≡ None → list_any (passes_at (against place wrote) entries) qs ≡ false)
          → (o : Option Clash) → clash_behind entries place wrote q ≡ o → option_or o (first_some (clash_behind entries place wrote) qs) ≡ None
          → (passes_at (against place wrote) entries q || list_any (passes_at (against place wrote) entries) qs) ≡ false
      by rest None is later = or-false (passes_at (against place wrote) entries q) (list_any (passes_at (against place wrote) entries) qs) (passes-none q is) (rest later)
      by rest (Some first) is here = cc

  -- the places at or before the other have no clash
  at-or-before : (q : ℕ) → q ≤ place → clash_behind entries place wrote q ≡ None
  at-or-before q le = ap (λ b. only_if b (clash_with wrote (slice_get entries q))) (not-lt place q le)

  first-below : (first : ℕ) (qs : List ℕ) (n d : ℕ) → n < length qs → AllByRecursion (λ (other : ℕ). first < other) qs → first < get_or qs n d
  first-below first [] n d below all = absurd (omega (arith, below))
  first-below first (q ∷ qs) zero d below all = all.0
  first-below first (q ∷ qs) (suc n) d below all = first-below first qs n d (omega (arith, below)) all.1

  pub skipped : (qs : List ℕ) (n d : ℕ) → IsRising qs → n < length qs → get_or qs n d ≤ place
      → first_some (clash_behind entries place wrote) (drop (n + 1) qs) ≡ first_some (clash_behind entries place wrote) qs
  skipped [] n d rising below le = absurd (omega (arith, below))
  skipped (q ∷ qs) zero d rising below le =
      sym (ap (λ o. option_or o (first_some (clash_behind entries place wrote) qs)) (at-or-before q le))
  skipped (q ∷ qs) (suc n) d rising below le =
      let less = first-below q qs n d (omega (arith, below)) rising.0 in
      let at : suc n + 1 ≡ suc (n + 1) = omega arith in
      ap (λ k. first_some (clash_behind entries place wrote) (drop k (q ∷ qs))) at
      ∙ skipped qs n d rising.1 (omega (arith, below)) le
      ∙ sym (ap (λ o. option_or o (first_some (clash_behind entries place wrote) qs)) (at-or-before q (omega (arith, less, le))))

-- ---- the commit that was met

-- one of these passes the test
record IsOne (test : Transaction → Bool) (ts : List Transaction) : Type 0 where
  pub number : ℕ
  pub t : Transaction
  pub there : numbered ts number ≡ Some t
  pub passes : test t ≡ true

record IsOneAt (test : Transaction → Bool) (ts : List Transaction) : Type 0 where
  pub place : ℕ
  pub t : Transaction
  pub there : slice_get ts place ≡ Some t
  pub passes : test t ≡ true

one-at : (test : Transaction → Bool) (ts : List Transaction) → list_any test ts ≡ true → IsOneAt test ts
one-at test [] e = cc
one-at test (t ∷ ts) e = by (one-at test ts) (test t) refl e
  where
    by : (list_any test ts ≡ true → IsOneAt test ts) → (b : Bool) → test t ≡ b → (b || list_any test ts) ≡ true → IsOneAt test (t ∷ ts)
    by rest true is e = record { place = 0; t = t; there = refl; passes = is }
    by rest false is e = let h = rest e in record { place = suc h.place; t = h.t; there = h.there; passes = h.passes }

one-of : (test : Transaction → Bool) (ts : List Transaction) → list_any test ts ≡ true → IsOne test ts
one-of test ts e = let h = one-at test ts e in record { number = suc h.place; t = h.t; there = h.there; passes = h.passes }

record IsCommit (at : ℕ) (o : Option Ending) : Type 0 where
  pub those : List Touch
  pub ends : o ≡ Some (Committed at those)

commit-at : (at : ℕ) (o : Option Ending) → is_committed (stands_at at) o ≡ true → IsCommit at o
commit-at at None e = cc
commit-at at (Some (Committed place those)) e =
    let same : place ≡ at = eqb-true place at e in
    record { those = those; ends = ap (λ p. Some (Committed p those)) same }
commit-at at (Some (Aborted place cause)) e = cc
commit-at at (Some (Made place table)) e = cc
commit-at at (Some (Dropped place table)) e = cc

told-commit : (entries : List Entry) (at : ℕ) (those : List Touch) (o : Option Ending) → o ≡ Some (Committed at those) → IsTold entries o → touches_at entries at ≡ Some those
told-commit entries at those o is h = let here : IsTold entries (Some (Committed at those)) = subst (IsTold entries) is h in here.1

-- a transaction committed so, and has that number
pub record IsCommitter (entries : List Entry) (at by : ℕ) (those : List Touch) : Type 0 where
  pub other : Transaction
  pub there : numbered (state_of entries).transactions by ≡ Some other
  pub ends : other.ending ≡ Some (Committed at those)

module _ (entries : List Entry) (places : List ℕ)
    (same : (passes : ℕ → List Touch → Bool) → list_any (commits_so passes) (state_of entries).transactions ≡ list_any (passes_at passes entries) places) where
  committer-of : (at : ℕ) (txn : TxnId) (those : List Touch) → slice_get entries at ≡ Some (entry.Commit txn those)
      → list_any (passes_at (stands_at at) entries) places ≡ true → IsCommitter entries at txn.0 those
  committer-of at txn those stands member =
      let ts = (state_of entries).transactions in
      let one = one-of (commits_so (stands_at at)) ts (same (stands_at at) ∙ member) in
      let commit = commit-at at one.t.ending one.passes in
      let told = told-commit entries at commit.those one.t.ending commit.ends (told-of entries ts one.number one.t (follows entries).commits.told one.there) in
      let both : Some those ≡ Some commit.those = sym (ap (option_and_then touches_of_entry) stands) ∙ told in
      let touches : commit.those ≡ those = cc in
      let names : Some txn.0 ≡ Some one.number = sym (ap (option_and_then committer) stands) ∙ committed-by entries one.number one.t at commit.those one.there commit.ends in
      let number : one.number ≡ txn.0 = cc in
      record {
        other = one.t;
        there = subst (λ n. numbered ts n ≡ Some one.t) number one.there;
        ends = commit.ends ∙ ap (λ ws. Some (Committed at ws)) touches;
      }

  pub clash-is : (txn : ℕ) (t : Transaction) (wrote : List Touch) (clash : Clash) → numbered (state_of entries).transactions txn ≡ Some t
      → IsWalked entries (place_of_snapshot t.snapshot) wrote places clash → IsClash (state_of entries) txn wrote clash
  clash-is txn t wrote clash there h =
      let place = place_of_snapshot t.snapshot in
      let ts = (state_of entries).transactions in
      let by = committer-of h.at clash.by h.met.those h.met.commit h.member in
      record {
        t = t;
        is = there;
        touch = h.met.shared.touch;
        found = h.met.shared.found;
        conflict = record {
          other = by.other;
          named = by.there;
          at = h.at;
          those = h.met.those;
          commit = by.ends;
          behind = ltb-true place h.at h.behind;
          shared = h.met.shared.touch;
          is_first = h.met.shared.first;
          table_is = refl;
          partition_is = refl;
          earliest =
              any-same (λ (other : Transaction). commits_before place h.at wrote other.ending) (commits_so (between place h.at wrote))
              (λ other. sym (between-same place h.at wrote other.ending)) ts
              ∙ same (between place h.at wrote) ∙ h.earliest;
        };
        earlier = h.met.shared.earlier;
      }

  pub clear-is : (t : Transaction) (wrote : List Touch) → list_any (passes_at (against (place_of_snapshot t.snapshot) wrote) entries) places ≡ false
      → MeetsNoConflict (state_of entries) t wrote
  clear-is t wrote none =
      let place = place_of_snapshot t.snapshot in
      any-same (λ (other : Transaction). commits_against place wrote other.ending) (commits_so (against place wrote))
      (λ other. sym (against-same place wrote other.ending)) (state_of entries).transactions
      ∙ same (against place wrote) ∙ none

place-same : (t : Transaction) → started_place (Some (brief t)) ≡ place_of_snapshot t.snapshot
place-same t = by t.snapshot
  where
    by : (o : Option Snapshot) → place_or (option_map snapshot_place o) ≡ place_of_snapshot o
    by None = refl
    by (Some s) = refl

-- ---- the answer

pub record IsAnswer (state : State) (txn : ℕ) (wrote : List Touch) (result : Option Clash) : Type 0 where
  pub found : IfSome result (IsClash state txn wrote)
  pub none : IfNone result (Of state txn (λ (t : Transaction). MeetsNoConflict state t wrote))

module _ (entries : List Entry) (places : List ℕ) (rising : IsRising places)
    (same : (passes : ℕ → List Touch → Bool) → list_any (commits_so passes) (state_of entries).transactions ≡ list_any (passes_at passes entries) places)
    (txn : ℕ) (wrote : List Touch) where
  answer-of : (t : Transaction) → numbered (state_of entries).transactions txn ≡ Some t → (result : Option Clash)
      → first_some (clash_behind entries (place_of_snapshot t.snapshot) wrote) places ≡ result → IsAnswer (state_of entries) txn wrote result
  answer-of t there None e = record {
    found = tt;
    none = subst (λ o. IsSomeAnd o (λ (t : Transaction). MeetsNoConflict (state_of entries) t wrote)) (sym there)
        (clear-is entries places same t wrote (walked-none entries (place_of_snapshot t.snapshot) wrote places e));
  }
  answer-of t there (Some clash) e = record {
    found = clash-is entries places same txn t wrote clash there (walked entries (place_of_snapshot t.snapshot) wrote places clash rising e);
    none = tt;
  }

  answer-in : (o : Option Transaction) → numbered (state_of entries).transactions txn ≡ o → IsSomeAnd o IsRunning → (place : ℕ) → place ≡ started_place (option_map brief o)
      → (result : Option Clash) → result ≡ first_some (clash_behind entries place wrote) places → IsAnswer (state_of entries) txn wrote result
  answer-in None there running place is result e = absurd running
  answer-in (Some t) there running place is result e =
      answer-of t there result (ap (λ p. first_some (clash_behind entries p wrote) places) (sym (is ∙ place-same t)) ∙ sym e)

  pub answer : Of (state_of entries) txn IsRunning → (place : ℕ) → place ≡ started_place (option_map brief (numbered (state_of entries).transactions txn))
      → (result : Option Clash) → result ≡ first_some (clash_behind entries place wrote) places → IsAnswer (state_of entries) txn wrote result
  answer running place is result e = answer-in (numbered (state_of entries).transactions txn) refl running place is result e

-- ---- an abort with this cause fits

eq-swap : (a b : ℕ) → (a == b) ≡ true → (b == a) ≡ true
eq-swap a b e = eq-eqb b a (sym (eqb-true a b e))

text-swap : (xs ys : List ℕ) → pointwise nat_eq xs ys ≡ true → pointwise nat_eq ys xs ≡ true
text-swap [] [] e = refl
text-swap [] (y ∷ ys) e = e
text-swap (x ∷ xs) [] e = e
text-swap (x ∷ xs) (y ∷ ys) e =
    and-both (nat_eq y x) (pointwise nat_eq ys xs) (eq-swap x y (and-left (nat_eq x y) (pointwise nat_eq xs ys) e))
    (text-swap xs ys (and-right (nat_eq x y) (pointwise nat_eq xs ys) e))

deletes-too : (touch other : Touch) → touch_conflicts touch other ≡ true → deletes_in touch.table.0 touch.partition other ≡ true
deletes-too touch other e =
    let table = touch.table.0 == other.table.0 in
    let partition = pointwise nat_eq touch.partition other.partition in
    let mine = nat_lt 0 touch.deleted in
    let its = nat_lt 0 other.deleted in
    let with_mine : ((table && partition) && mine) ≡ true = and-left ((table && partition) && mine) its e in
    let both : (table && partition) ≡ true = and-left (table && partition) mine with_mine in
    and-both (other.table.0 == touch.table.0) (pointwise nat_eq other.partition touch.partition && its)
    (eq-swap touch.table.0 other.table.0 (and-left table partition both))
    (and-both (pointwise nat_eq other.partition touch.partition) its
    (text-swap touch.partition other.partition (and-right table partition both))
    (and-right ((table && partition) && mine) its e))

any-more : {A : Type 0} (p q : A → Bool) → ((x : A) → p x ≡ true → q x ≡ true) → (xs : List A) → list_any p xs ≡ true → list_any q xs ≡ true
any-more p q more [] e = e
any-more p q more (x ∷ xs) e = by (any-more p q more xs) (p x) refl e
  where
    by : (list_any p xs ≡ true → list_any q xs ≡ true) → (b : Bool) → p x ≡ b → (b || list_any p xs) ≡ true → (q x || list_any q xs) ≡ true
    by rest true is e = ap (λ b. b || list_any q xs) (more x is)
    by rest false is e = or-true (q x) (list_any q xs) (rest e)

first-shares : (wrote those : List Touch) (touch : Touch) → first_shared wrote those ≡ Some touch → shares those touch ≡ true
first-shares [] those touch e = cc
first-shares (x ∷ wrote) those touch e = by (first-shares wrote those touch) (shares those x) refl e
  where
    by : (first_shared wrote those ≡ Some touch → shares those touch ≡ true) → (b : Bool) → shares those x ≡ b → (if b then Some x else first_shared wrote those) ≡ Some touch → shares those touch ≡ true
    by rest true is e = let same : x ≡ touch = cc in ap (shares those) (sym same) ∙ is
    by rest false is e = rest e

behind-commit : (place table at : ℕ) (partition : List ℕ) (those : List Touch) → place < at → list_any (deletes_in table partition) those ≡ true
    → deleted_behind place table partition (Some (Committed at those)) ≡ true
behind-commit place table at partition those behind deletes = and-both (nat_lt place at) (list_any (deletes_in table partition) those) (lt-ltb place at behind) deletes

pub conflict-fits : (state : State) (by table : ℕ) (partition : List ℕ) (t : Transaction) (wrote : List Touch) → IsRunning t
    → IsFirstConflict state (place_of_snapshot t.snapshot) wrote by table partition → ConflictFits state by table partition t
conflict-fits state by table partition t wrote running h =
    let place = place_of_snapshot t.snapshot in
    let deletes : list_any (deletes_in h.shared.table.0 h.shared.partition) h.those ≡ true =
    any-more (touch_conflicts h.shared) (deletes_in h.shared.table.0 h.shared.partition) (deletes-too h.shared) h.those (first-shares wrote h.those h.shared h.is_first) in
    let told : list_any (deletes_in table partition) h.those ≡ true =
    ap (λ n. list_any (deletes_in n partition) h.those) h.table_is ∙ ap (λ p. list_any (deletes_in h.shared.table.0 p) h.those) h.partition_is ∙ deletes in
    record {
      running = running;
      committed = subst (λ o. IsSomeAnd o (λ (other : Transaction). IsTrue (deleted_behind place table partition other.ending))) (sym h.named)
          (ap (deleted_behind place table partition) h.commit ∙ behind-commit place table h.at partition h.those h.behind told);
    }

pub clash-fits : (state : State) (txn : ℕ) (t : Transaction) (wrote : List Touch) (clash : Clash) (touch : Touch) → numbered state.transactions txn ≡ Some t → IsRunning t
    → IsClash state txn wrote clash → slice_get wrote clash.at ≡ Some touch → ConflictFits state clash.by.0 touch.table.0 touch.partition t
clash-fits state txn t wrote clash touch there running h found =
    let whose : Some h.t ≡ Some t = sym h.is ∙ there in
    let transaction : h.t ≡ t = cc in
    let which : Some h.touch ≡ Some touch = sym h.found ∙ found in
    let same : h.touch ≡ touch = cc in
    let conflict : IsFirstConflict state (place_of_snapshot t.snapshot) wrote clash.by.0 h.touch.table.0 h.touch.partition =
    subst (λ (x : Transaction). IsFirstConflict state (place_of_snapshot x.snapshot) wrote clash.by.0 h.touch.table.0 h.touch.partition) transaction h.conflict in
    conflict-fits state clash.by.0 touch.table.0 touch.partition t wrote running
    (subst (λ (x : Touch). IsFirstConflict state (place_of_snapshot t.snapshot) wrote clash.by.0 x.table.0 x.partition) same conflict)
