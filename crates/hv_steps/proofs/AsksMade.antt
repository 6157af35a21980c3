-- What comes of the aborts that a statement asks for: it has asked for all, or it has ended on the way; and what it prepares behind them.
use Rattle.std.proofs.Common.{◌≡◌, inl, inr, ℕ, Option, Some, List, [], ◌∷◌, Ok, Err, Result, refl, sym, subst, arith}
use Rattle.std.specs.Prelude.{true, false, IfOk}
use Rattle.std.specs.List.{AllByRecursion}
use Rattle.hv_shelf.specs.Disk.{Store}
use Rattle.hv_logic.specs.declared.meaning.Meaning.{Meaning}
use Rattle.hv_logic.specs.declared.meaning.Meaning.TheVariants.{Refused, Listing, Change, Make, Unmake, Ask, Plain, Twice, RowLimit, PartitionLimit}
use Rattle.hv_ast.specs.declared.statement.Stmt.{Stmt}
use Rattle.hv_history.specs.declared.entry.Entry.{Entry}
use Rattle.hv_history.specs.Asking.{numbers_in}
use Rattle.hv_history.specs.Shown.{is_plain}
use Rattle.hv_history.specs.Lasting.{IsFront}
use Rattle.hv_stands.specs.Running.{IsOf}
use Rattle.hv_trail.specs.declared.trail.TrailItem.{TrailItem}
use Rattle.hv_actor.specs.Acting.{AreRows, among, known}
use Rattle.hv_table_reader.specs.hv_acts.specs.declared.told.ToldHouse.{ToldHouse}
use Rattle.hv_table_reader.specs.hv_acts.specs.hv_telling.specs.hv_house.specs.declared.fault.HouseFault.{HouseFault}
use Rattle.hv_table_reader.specs.hv_acts.specs.Told.{trail_in}
use Rattle.hv_table_reader.specs.hv_acts.specs.Meant.{IsNoEnd}
use Rattle.hv_table_reader.specs.hv_acts.specs.Passing.{AllPassed, HasPassedAll}
use Rattle.hv_steps.specs.declared.ready.Way.{Way}
use Rattle.hv_steps.specs.declared.reply.Asked.{Asked}
use Rattle.hv_steps.specs.declared.reply.Asked.TheVariants as asked
use Rattle.hv_steps.specs.declared.reply.Done.{Done}
use Rattle.hv_steps.specs.declared.reply.Prepared.{Prepared}
use Rattle.hv_steps.specs.declared.reply.Prepared.TheVariants as prepared
use Rattle.hv_steps.specs.Ending.{KeepsCount}
use Rattle.hv_steps.specs.Going.{faults_in, IsOpenHouse, Gains, Goes}
use Rattle.hv_steps.specs.Phases.{Asks, AbortsFor, Prepares, PreparesAsked, NoCause}
use Rattle.hv_steps.specs.Requests.{IsAskOf, IsAskIn, AsksSoFar, HasAsked, asks_stopped}
use Rattle.hv_steps.proofs.Joining.{adds-front, gains-as, goes-behind}
use Rattle.hv_steps.proofs.Parts.{aborts-behind}
use Rattle.hv_steps.proofs.Requests.{asks-last}

-- ---- what it asks for is its own entry, and ends another one

pub ask-of : (trail : List TrailItem) (txn place : ℕ) (numbers : List ℕ) (event : Entry) → IsAskOf trail txn place numbers event → IsOf txn event
ask-of trail txn place numbers event is = subst (IsOf txn) (sym is.event_is) refl

pub ask-unended : (trail : List TrailItem) (txn place : ℕ) (numbers : List ℕ) (event : Entry) → IsAskOf trail txn place numbers event → IsNoEnd txn event
ask-unended trail txn place numbers event is = subst (IsNoEnd txn) (sym is.event_is) is.apart

ask-counts : (low high : ℕ) (trail : List TrailItem) (txn place : ℕ) (numbers : List ℕ) (event : Entry) → IsAskOf trail txn place numbers event → KeepsCount low high event
ask-counts low high trail txn place numbers event is = subst (KeepsCount low high) (sym is.event_is) tt

all-to : {A : Type 0} (P Q : A → Type 0) → ((x : A) → P x → Q x) → (xs : List A) → AllByRecursion P xs → AllByRecursion Q xs
all-to P Q f [] all = tt
all-to P Q f (x ∷ xs) all = (f x all.0, all-to P Q f xs all.1)

pub asks-of : (trail : List TrailItem) (txn place : ℕ) (numbers : List ℕ) (added : List Entry) → AllByRecursion (IsAskOf trail txn place numbers) added
    → AllByRecursion (IsOf txn) added
asks-of trail txn place numbers added all = all-to (IsAskOf trail txn place numbers) (IsOf txn) (ask-of trail txn place numbers) added all

pub asks-unended : (trail : List TrailItem) (txn place : ℕ) (numbers : List ℕ) (added : List Entry) → AllByRecursion (IsAskOf trail txn place numbers) added
    → AllByRecursion (IsNoEnd txn) added
asks-unended trail txn place numbers added all = all-to (IsAskOf trail txn place numbers) (IsNoEnd txn) (ask-unended trail txn place numbers) added all

-- ---- it has asked for all, or was stopped

module _ {D : Type 0} (told : D → Option Store) (faults : D → ℕ) (B : List TrailItem → Type 0) (meanwhile : ToldHouse D → ToldHouse D → Type 0) (low : ℕ)
    (own own' : List ℕ) (a b : ToldHouse D) (way : Way) (numbers : List ℕ) where
  pub all-asked : AsksSoFar faults B (known own a) (known own' b) way numbers → IsOpenHouse b
      → Goes (among told faults B meanwhile) low way.txn.0 (known own a) (known own' b) (Asks way.txn.0 b (IsAskOf (trail_in b) way.txn.0 way.place numbers))
      (Ok asked.All)
  all-asked so running = record {
    done = record {
      added = so.added;
      adds = so.adds;
      of_it = asks-of (trail_in b) way.txn.0 way.place numbers so.added so.asks;
      counts = all-to (IsAskOf (trail_in b) way.txn.0 way.place numbers) (KeepsCount low (faults_in faults b))
          (ask-counts low (faults_in faults b) (trail_in b) way.txn.0 way.place numbers) so.added so.asks;
      is = so.asks;
      running = running;
    };
    halted = tt;
  }

goes-asked : {D : Type 0} (told : D → Option Store) (faults : D → ℕ) (B : List TrailItem → Type 0) (meanwhile : ToldHouse D → ToldHouse D → Type 0) (low txn : ℕ)
    (own own' : List ℕ) (a b : ToldHouse D) (Is : Done → List Entry → Type 0) (Js : Asked → List Entry → Type 0) (result : Result Done HouseFault)
    → ((found : Done) (added : List Entry) → Is found added → Js (asked.Ended found) added)
    → Goes (among told faults B meanwhile) low txn (known own a) (known own' b) Is result
    → Goes (among told faults B meanwhile) low txn (known own a) (known own' b) Js (asks_stopped result)
goes-asked told faults B meanwhile low txn own own' a b Is Js (Ok found) f goes =
    let gains = goes.done in
    record {
      done = record {
        added = gains.added;
        adds = gains.adds;
        of_it = gains.of_it;
        counts = gains.counts;
        is = f found gains.added gains.is;
        running = gains.running;
      };
      halted = tt;
    }
goes-asked told faults B meanwhile low txn own own' a b Is Js (Err why) f goes = record { done = tt; halted = goes.halted }

module _ {D : Type 0} (told : D → Option Store) (faults : D → ℕ) (B : List TrailItem → Type 0) (rows : AreRows B) (meanwhile : ToldHouse D → ToldHouse D → Type 0) (low : ℕ)
    (own own' own'' : List ℕ) (a b c : ToldHouse D) (way : Way) (numbers : List ℕ) where
  -- an act was refused, and it ended behind what it had asked for
  pub stopped-asking : (result : Result Done HouseFault) (found : Result Asked HouseFault) → found ≡ asks_stopped result
      → AsksSoFar faults B (known own a) (known own' b) way numbers
      → Goes (among told faults B meanwhile) low way.txn.0 (known own' b) (known own'' c) (AbortsFor way.txn.0 c [] NoCause) result
      → Goes (among told faults B meanwhile) low way.txn.0 (known own a) (known own'' c) (Asks way.txn.0 c (IsAskOf (trail_in c) way.txn.0 way.place numbers))
      found
  stopped-asking result found e so goes =
      subst (Goes (among told faults B meanwhile) low way.txn.0 (known own a) (known own'' c)
      (Asks way.txn.0 c (IsAskOf (trail_in c) way.txn.0 way.place numbers))) (sym e)
      (goes-asked told faults B meanwhile low way.txn.0 own own'' a c Behind (Asks way.txn.0 c (IsAskOf (trail_in c) way.txn.0 way.place numbers)) result
      (λ ended added is. is)
      (with-front result goes))
    where
      Behind : Done → List Entry → Type 0
      Behind ended added = (first : List Entry) × AllByRecursion (IsAskOf (trail_in c) way.txn.0 way.place numbers) first × AbortsFor way.txn.0 c first NoCause ended added

      asks-then : IsFront (trail_in b) (trail_in c) → AllByRecursion (IsAskOf (trail_in c) way.txn.0 way.place numbers) so.added
      asks-then front = asks-last (trail_in b) (trail_in c) front way.txn.0 way.place numbers so.added so.asks

      with-front : (r : Result Done HouseFault) → Goes (among told faults B meanwhile) low way.txn.0 (known own' b) (known own'' c)
          (AbortsFor way.txn.0 c [] NoCause) r
          → Goes (among told faults B meanwhile) low way.txn.0 (known own a) (known own'' c) Behind r
      with-front (Ok ended) g =
          let front = adds-front faults B rows own' own'' b c g.done.added g.done.adds in
          goes-behind faults B rows told meanwhile low low way.txn.0 own own' own'' a b c so.added (AbortsFor way.txn.0 c [] NoCause) Behind (Ok ended) (omega arith) so.adds
          (asks-of (trail_in b) way.txn.0 way.place numbers so.added so.asks) (asks-unended (trail_in b) way.txn.0 way.place numbers so.added so.asks)
          (λ found_ more is. (so.added, asks-then front, aborts-behind way.txn.0 c so.added NoCause found_ more is)) g
      with-front (Err why) g =
          goes-behind faults B rows told meanwhile low low way.txn.0 own own' own'' a b c so.added (AbortsFor way.txn.0 c [] NoCause) Behind (Err why) (omega arith) so.adds
          (asks-of (trail_in b) way.txn.0 way.place numbers so.added so.asks) (asks-unended (trail_in b) way.txn.0 way.place numbers so.added so.asks)
          (λ found_ more is. (so.added, asks-then (adds-front faults B rows own' own'' b c g.halted.added g.halted.adds), aborts-behind way.txn.0 c so.added NoCause found_ more is)) g

pub stopped-asked : {D : Type 0} (now : ToldHouse D) (way : Way) (numbers : List ℕ) (result : Result Done HouseFault) (found : Result Asked HouseFault) → found ≡ asks_stopped result
    → IfOk found (HasAsked now way numbers)
stopped-asked now way numbers (Ok done) found e = subst (λ (r : Result Asked HouseFault). IfOk r (HasAsked now way numbers)) (sym e) tt
stopped-asked now way numbers (Err why) found e = subst (λ (r : Result Asked HouseFault). IfOk r (HasAsked now way numbers)) (sym e) tt

-- ---- what it prepares behind that

pub plain-is : (m : Meaning) → is_plain m ≡ true → m ≡ Plain
plain-is Plain e = refl
plain-is other e = cc

-- one that comes to something else has nothing to ask for
pub unasked-all : (trail : List TrailItem) (way : Way) (said : Stmt) (m : Meaning) → is_plain m ≡ false → HasPassedAll trail way.txn way.place said m
unasked-all trail way said Plain e = cc
unasked-all trail way said (Refused why) e = tt
unasked-all trail way said (Listing names rows) e = tt
unasked-all trail way said (Change info effect) e = tt
unasked-all trail way said (Make shape) e = tt
unasked-all trail way said (Unmake table) e = tt
unasked-all trail way said (Ask table partition kind) e = tt
unasked-all trail way said (Twice partition row) e = tt
unasked-all trail way said RowLimit e = tt
unasked-all trail way said PartitionLimit e = tt

-- where nothing else is asked of it, nothing is
pub asked-all : (trail : List TrailItem) (way : Way) (said : Stmt) (m : Meaning) → AllPassed trail way.txn way.place (numbers_in (Some said))
    → HasPassedAll trail way.txn way.place said m
asked-all trail way said Plain passed = passed
asked-all trail way said (Refused why) passed = tt
asked-all trail way said (Listing names rows) passed = tt
asked-all trail way said (Change info effect) passed = tt
asked-all trail way said (Make shape) passed = tt
asked-all trail way said (Unmake table) passed = tt
asked-all trail way said (Ask table partition kind) passed = tt
asked-all trail way said (Twice partition row) passed = tt
asked-all trail way said RowLimit passed = tt
asked-all trail way said PartitionLimit passed = tt

module _ {D : Type 0} (told : D → Option Store) (faults : D → ℕ) (B : List TrailItem → Type 0) (rows : AreRows B) (meanwhile : ToldHouse D → ToldHouse D → Type 0)
    (own own' own'' : List ℕ) (a b c : ToldHouse D) (way : Way) (said : Stmt) (meaning : Meaning) (plain : meaning ≡ Plain) where
  abbrev Aim : Prepared → List Entry → Type 0
  Aim = PreparesAsked way.txn.0 c (IsAskIn c way said) meaning

  -- it asked for all, and this is what it prepared
  pub asked-prepares : (asks : Gains faults B (faults_in faults a) way.txn.0 (known own a) (known own' b) (AllByRecursion (IsAskIn b way said)))
      → (result : Result Prepared HouseFault)
      → Goes (among told faults B meanwhile) (faults_in faults b) way.txn.0 (known own' b) (known own'' c) (Prepares way.txn.0 c meaning) result
      → Goes (among told faults B meanwhile) (faults_in faults a) way.txn.0 (known own a) (known own'' c) Aim result
  asked-prepares asks (Ok found) goes =
      let front = adds-front faults B rows own' own'' b c goes.done.added goes.done.adds in
      goes-behind faults B rows told meanwhile (faults_in faults a) (faults_in faults b) way.txn.0 own own' own'' a b c asks.added (Prepares way.txn.0 c meaning) Aim (Ok found)
      asks.adds.later.count asks.adds asks.of_it (asks-unended (trail_in b) way.txn.0 way.place (numbers_in (Some said)) asks.added asks.is)
      (λ found_ more is. inl (asks.added, more, refl, asks-last (trail_in b) (trail_in c) front way.txn.0 way.place (numbers_in (Some said)) asks.added asks.is, is, inr plain)) goes
  asked-prepares asks (Err why) goes =
      let front = adds-front faults B rows own' own'' b c goes.halted.added goes.halted.adds in
      goes-behind faults B rows told meanwhile (faults_in faults a) (faults_in faults b) way.txn.0 own own' own'' a b c asks.added (Prepares way.txn.0 c meaning) Aim (Err why)
      asks.adds.later.count asks.adds asks.of_it (asks-unended (trail_in b) way.txn.0 way.place (numbers_in (Some said)) asks.added asks.is)
      (λ found_ more is. inl (asks.added, more, refl, asks-last (trail_in b) (trail_in c) front way.txn.0 way.place (numbers_in (Some said)) asks.added asks.is, is, inr plain)) goes

-- or it ended on the way
pub asking-ended : {D : Type 0} (faults : D → ℕ) (B : List TrailItem → Type 0) (rows : AreRows B) (low : ℕ) (own own' : List ℕ) (a b : ToldHouse D) (way : Way) (said : Stmt)
    (meaning : Meaning) → meaning ≡ Plain → (found : Done) → Gains faults B low way.txn.0 (known own a) (known own' b)
    (Asks way.txn.0 b (IsAskIn b way said) (asked.Ended found))
    → Gains faults B low way.txn.0 (known own a) (known own' b) (PreparesAsked way.txn.0 b (IsAskIn b way said) meaning (prepared.Ended found))
asking-ended faults B rows low own own' a b way said meaning plain found gains =
    gains-as faults B rows low way.txn.0 own own' a b (Asks way.txn.0 b (IsAskIn b way said) (asked.Ended found))
    (PreparesAsked way.txn.0 b (IsAskIn b way said) meaning (prepared.Ended found)) (λ added is. inr (found, refl, is, plain)) gains

-- or it asked for none
pub unasked-prepares : {D : Type 0} (told : D → Option Store) (faults : D → ℕ) (B : List TrailItem → Type 0) (rows : AreRows B)
    (meanwhile : ToldHouse D → ToldHouse D → Type 0) (low : ℕ) (own own' : List ℕ) (a b : ToldHouse D) (way : Way) (said : Stmt) (meaning : Meaning)
    (result : Result Prepared HouseFault) → Goes (among told faults B meanwhile) low way.txn.0 (known own a) (known own' b) (Prepares way.txn.0 b meaning)
    result
    → Goes (among told faults B meanwhile) low way.txn.0 (known own a) (known own' b) (PreparesAsked way.txn.0 b (IsAskIn b way said) meaning) result
unasked-prepares told faults B rows meanwhile low own own' a b way said meaning (Ok found) goes = record {
  done = gains-as faults B rows low way.txn.0 own own' a b (Prepares way.txn.0 b meaning found)
      (PreparesAsked way.txn.0 b (IsAskIn b way said) meaning found) (λ added is. inl ([], added, refl, tt, is, inl refl)) goes.done;
  halted = tt;
}
unasked-prepares told faults B rows meanwhile low own own' a b way said meaning (Err why) goes = record { done = tt; halted = goes.halted }
