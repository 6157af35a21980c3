-- What a Commit and an abort by a conflict must meet, and the tests for it.
use Rattle.std.proofs.Common.{◌≡◌, ℕ, zero, suc, ◌+◌, ◌<◌, ◌≤◌, Option, Some, None, List, [], ◌∷◌, length, take, get_or, refl, sym, ap, ◌∙◌, arith}
use Rattle.std.specs.Prelude.{Bool, true, false, not, ◌&&◌, ◌||◌, ◌↔◌, IsTrue, IsSomeAnd, is_some, nat_lt}
use Rattle.std.specs.Option.{option_map}
use Rattle.std.specs.List.{list_any, AllByRecursion}
use Rattle.std.specs.Ordering.{is_lt}
use Rattle.std.specs.declared.cmp.Ordering.{Ordering}
use Rattle.std.specs.declared.cmp.Ordering.TheVariants.{Less, Equal, Greater}
use Rattle.std.proofs.lemmas.Bool.{ltb-true, lt-ltb}
use Rattle.hv_base.specs.declared.ids.Touch.{Touch}
use Rattle.hv_book.specs.hv_history.specs.declared.entry.Entry.{Entry}
use Rattle.hv_book.specs.hv_history.specs.declared.state.Transaction.{Transaction}
use Rattle.hv_book.specs.hv_history.specs.declared.state.Snapshot.{Snapshot}
use Rattle.hv_book.specs.hv_history.specs.declared.state.Ending.{Ending}
use Rattle.hv_book.specs.hv_history.specs.declared.state.Ending.TheVariants.{Committed, Aborted, Made, Dropped}
use Rattle.hv_book.specs.hv_history.specs.State.{State, given_in}
use Rattle.hv_book.specs.hv_history.specs.Legal.{CommitFits, IsOwnTouch, Rise, touch_cmp, is_touched, touches_conflict, commits_against, place_of_snapshot}
use Rattle.hv_book.specs.Briefs.{brief, snapshot_place}
use Rattle.hv_book.specs.Commits.{commits_so, is_committed, passes_at, pass, touches_at, IsRising}
use Rattle.hv_meta.specs.Committing.{MayWrite, are_rising, is_own, are_own, are_used, against, place_or, started_place}
use Rattle.hv_meta.proofs.FactLemmas.{and-left, and-right, and-both, false-is}

-- ---- touches rise

lt-is : (o : Ordering) → is_lt o ≡ true → o ≡ Less
lt-is Less e = refl
lt-is Equal e = cc
lt-is Greater e = cc

is-lt : (o : Ordering) → o ≡ Less → is_lt o ≡ true
is-lt o e = ap is_lt e

rises : (wrote : List Touch) → are_rising wrote ≡ true → Rise wrote
rises [] e = tt
rises (a ∷ []) e = tt
rises (a ∷ b ∷ wrote) e = (
  lt-is (touch_cmp a b) (and-left (is_lt (touch_cmp a b)) (are_rising (b ∷ wrote)) e),
  rises (b ∷ wrote) (and-right (is_lt (touch_cmp a b)) (are_rising (b ∷ wrote)) e),
)

risen : (wrote : List Touch) → Rise wrote → are_rising wrote ≡ true
risen [] h = refl
risen (a ∷ []) h = refl
risen (a ∷ b ∷ wrote) h = and-both (is_lt (touch_cmp a b)) (are_rising (b ∷ wrote)) (is-lt (touch_cmp a b) h.0) (risen (b ∷ wrote) h.1)

-- ---- a transaction's own touches

owns : (t : Transaction) (wrote : List Touch) → are_own t.given wrote ≡ true → AllByRecursion (IsOwnTouch t) wrote
owns t [] e = tt
owns t (touch ∷ wrote) e =
    let first = and-left (is_own t.given touch) (are_own t.given wrote) e in
    let some = nat_lt 0 (touch.inserted + touch.deleted) in
    let given = is_some (given_in touch.table.0 t.given) in (
      record { some = ltb-true 0 (touch.inserted + touch.deleted) (and-left some given first); given = and-right some given first },
      owns t wrote (and-right (is_own t.given touch) (are_own t.given wrote) e),
    )

owned : (t : Transaction) (wrote : List Touch) → AllByRecursion (IsOwnTouch t) wrote → are_own t.given wrote ≡ true
owned t [] h = refl
owned t (touch ∷ wrote) h =
    let some = nat_lt 0 (touch.inserted + touch.deleted) in
    let given = is_some (given_in touch.table.0 t.given) in
    and-both (is_own t.given touch) (are_own t.given wrote)
    (and-both some given (lt-ltb 0 (touch.inserted + touch.deleted) h.0.some) h.0.given)
    (owned t wrote h.1)

uses : (wrote : List Touch) (given : List (ℕ × ℕ)) → are_used wrote given ≡ true → AllByRecursion (λ (one : ℕ × ℕ). IsTrue (is_touched wrote one)) given
uses wrote [] e = tt
uses wrote (one ∷ given) e = (and-left (is_touched wrote one) (are_used wrote given) e, uses wrote given (and-right (is_touched wrote one) (are_used wrote given) e))

used : (wrote : List Touch) (given : List (ℕ × ℕ)) → AllByRecursion (λ (one : ℕ × ℕ). IsTrue (is_touched wrote one)) given → are_used wrote given ≡ true
used wrote [] h = refl
used wrote (one ∷ given) h = and-both (is_touched wrote one) (are_used wrote given) h.0 (used wrote given h.1)

-- ---- the commits behind a place

pub against-same : (place : ℕ) (wrote : List Touch) (o : Option Ending) → is_committed (against place wrote) o ≡ commits_against place wrote o
against-same place wrote None = refl
against-same place wrote (Some (Committed at those)) = refl
against-same place wrote (Some (Aborted at cause)) = refl
against-same place wrote (Some (Made at table)) = refl
against-same place wrote (Some (Dropped at table)) = refl

pub all-against : (place : ℕ) (wrote : List Touch) (ts : List Transaction)
    → list_any (commits_so (against place wrote)) ts ≡ list_any (λ (other : Transaction). commits_against place wrote other.ending) ts
all-against place wrote [] = refl
all-against place wrote (t ∷ ts) =
    ap (λ b. b || list_any (commits_so (against place wrote)) ts) (against-same place wrote t.ending)
    ∙ ap (λ b. commits_against place wrote t.ending || b) (all-against place wrote ts)

pub not-lt : (a b : ℕ) → b ≤ a → nat_lt a b ≡ false
not-lt a b le = by (nat_lt a b) refl
  where
    by : (c : Bool) → nat_lt a b ≡ c → nat_lt a b ≡ false
    by true e = let less = ltb-true a b e in absurd (omega (arith, less, le))
    by false e = e

-- a place at or before this one has no commit behind it
module _ (place : ℕ) (wrote : List Touch) (entries : List Entry) where
  pass-none : (at : ℕ) (o : Option (List Touch)) → at ≤ place → pass (against place wrote at) o ≡ false
  pass-none at None le = refl
  pass-none at (Some those) le = ap (λ b. b && touches_conflict wrote those) (not-lt place at le)

  before-first : (n : ℕ) (first : ℕ) (ps : List ℕ) → IsRising (first ∷ ps) → (d : ℕ) → n < length (first ∷ ps) → first ≤ get_or (first ∷ ps) n d
  before-first zero first ps h d below = omega arith
  before-first (suc n) first ps h d below = later n ps d (omega (arith, below)) h.0
    where
      later : (n : ℕ) (ps : List ℕ) (d : ℕ) → n < length ps → AllByRecursion (λ (other : ℕ). first < other) ps → first ≤ get_or ps n d
      later n [] d below all = absurd (omega (arith, below))
      later zero (p ∷ ps) d below all = let less : first < p = all.0 in omega (arith, less)
      later (suc n) (p ∷ ps) d below all = later n ps d (omega (arith, below)) all.1

  pub none-before : (ps : List ℕ) (n d : ℕ) → IsRising ps → n < length ps → get_or ps n d ≤ place
      → list_any (passes_at (against place wrote) entries) (take (n + 1) ps) ≡ false
  none-before [] n d h below le = absurd (omega (arith, below))
  none-before (p ∷ ps) zero d h below le =
      ap (λ b. b || false) (pass-none p (touches_at entries p) le)
  none-before (p ∷ ps) (suc n) d h below le =
      let first = before-first (suc n) p ps h d below in
      let at : suc n + 1 ≡ suc (n + 1) = omega arith in
      ap (λ k. list_any (passes_at (against place wrote) entries) (take k (p ∷ ps))) at
      ∙ ap (λ b. b || list_any (passes_at (against place wrote) entries) (take (n + 1) ps)) (pass-none p (touches_at entries p) (omega (arith, first, le)))
      ∙ none-before ps n d h.1 (omega (arith, below)) le

-- ---- a Commit

same-place : (t : Transaction) → started_place (Some (brief t)) ≡ place_of_snapshot t.snapshot
same-place t = by t.snapshot
  where
    by : (o : Option Snapshot) → place_or (option_map snapshot_place o) ≡ place_of_snapshot o
    by None = refl
    by (Some s) = refl

module _ (state : State) (wrote : List Touch) where
  abbrev pub meets : ℕ → Bool
  meets place = list_any (λ (other : Transaction). commits_against place wrote other.ending) state.transactions

  fits-alone : (t : Transaction) (place : ℕ) → place ≡ place_of_snapshot t.snapshot → MayWrite wrote t → meets place ≡ false → CommitFits state wrote t
  fits-alone t place at may free =
      let both = and-right (are_rising wrote) (are_own t.given wrote && are_used wrote t.given) may.1 in
      record {
        running = may.0;
        rise = rises wrote (and-left (are_rising wrote) (are_own t.given wrote && are_used wrote t.given) may.1);
        own = owns t wrote (and-left (are_own t.given wrote) (are_used wrote t.given) both);
        used = uses wrote t.given (and-right (are_own t.given wrote) (are_used wrote t.given) both);
        clear = ap meets (sym at) ∙ free;
      }

  fit-may : (t : Transaction) → CommitFits state wrote t → MayWrite wrote t
  fit-may t fits = (
    fits.running,
    and-both (are_rising wrote) (are_own t.given wrote && are_used wrote t.given) (risen wrote fits.rise)
        (and-both (are_own t.given wrote) (are_used wrote t.given) (owned t wrote fits.own) (used wrote t.given fits.used)),
  )

  pub commit-law : (o : Option Transaction) (place : ℕ) → place ≡ started_place (option_map brief o) → (m c : Bool) → (IsTrue m ↔ IsSomeAnd o (MayWrite wrote))
      → c ≡ meets place → (IsTrue (m && not c)) ↔ IsSomeAnd o (CommitFits state wrote)
  commit-law None place at m c may conflict = (λ e. absurd (may.0 (and-left m (not c) e)), λ e. absurd e)
  commit-law (Some t) place at m c may conflict = (
    λ e. fits-alone t place (at ∙ same-place t) (may.0 (and-left m (not c) e)) (sym conflict ∙ (false-is c).0 (and-right m (not c) e)),
    λ fits.
        let free : c ≡ false = conflict ∙ ap meets (at ∙ same-place t) ∙ fits.clear in
        and-both m (not c) (may.1 (fit-may t fits)) ((false-is c).1 free),
  )
