-- A statement as a whole: its parts one behind the other, to its end or to the place where it is held.
use Rattle.std.proofs.Common.{◌≡◌, ◌⊎◌, inl, inr, ℕ, true, false, Option, Some, None, List, [], ◌++◌, refl, sym, ap, ◌∙◌, subst, append-nil, Ok, Err, Result, ◌∷◌}
use Rattle.std.specs.Prelude.{IfOk}
use Rattle.std.specs.List.{AllByRecursion}
use Rattle.hv_base.specs.declared.gate.Stage.{Stage}
use Rattle.hv_base.specs.declared.gate.Stage.TheVariants as stage
use Rattle.hv_shelf.specs.Disk.{Store}
use Rattle.hv_ast.specs.declared.statement.Stmt.{Stmt}
use Rattle.hv_logic.specs.declared.meaning.Meaning.{Meaning}
use Rattle.hv_logic.specs.declared.meaning.Meaning.TheVariants.{Listing, Change, Make, Unmake, Refused, Twice, RowLimit, PartitionLimit, Plain, Ask}
use Rattle.hv_history.specs.declared.entry.Entry.{Entry}
use Rattle.hv_history.specs.declared.entry.Cause.{Cause}
use Rattle.hv_history.specs.Asking.{numbers_in}
use Rattle.hv_history.specs.Lasting.{IsFront}
use Rattle.hv_stands.specs.Running.{Asking, next_number, opening, adder_of, IsOf, AreOf, starting}
use Rattle.hv_trail.specs.declared.trail.TrailItem.{TrailItem}
use Rattle.hv_trail.specs.Trail.{book_of}
use Rattle.hv_actor.specs.Acting.{AreRows, among, known}
use Rattle.hv_beginning.specs.hv_steps.specs.hv_table_reader.specs.hv_acts.specs.hv_telling.specs.hv_house.specs.declared.fault.HouseFault.{HouseFault}
use Rattle.hv_beginning.specs.hv_steps.specs.hv_table_reader.specs.hv_acts.specs.hv_telling.specs.Telling.{IsToldHouse}
use Rattle.hv_beginning.specs.hv_steps.specs.hv_table_reader.specs.hv_acts.specs.declared.told.ToldHouse.{ToldHouse}
use Rattle.hv_beginning.specs.hv_steps.specs.hv_table_reader.specs.hv_acts.specs.Told.{trail_in}
use Rattle.hv_beginning.specs.hv_steps.specs.hv_table_reader.specs.hv_acts.specs.Meant.{IsNoEnd}
use Rattle.hv_beginning.specs.hv_steps.specs.declared.ready.Way.{Way}
use Rattle.hv_beginning.specs.hv_steps.specs.declared.ready.Ready.{Ready}
use Rattle.hv_beginning.specs.hv_steps.specs.declared.reply.Done.{Done}
use Rattle.hv_beginning.specs.hv_steps.specs.declared.reply.Done.TheVariants as done
use Rattle.hv_beginning.specs.hv_steps.specs.declared.reply.Opened.{Opened}
use Rattle.hv_beginning.specs.hv_steps.specs.declared.reply.Opened.TheVariants as opened
use Rattle.hv_beginning.specs.hv_steps.specs.declared.reply.Outcome.TheVariants as outcome
use Rattle.hv_beginning.specs.hv_steps.specs.declared.reply.Prepared.TheVariants as prepared
use Rattle.hv_session.specs.declared.paused.Point.{Point}
use Rattle.hv_session.specs.declared.paused.Point.TheVariants as point
use Rattle.hv_session.specs.declared.paused.Carried.{Carried}
use Rattle.hv_session.specs.declared.paused.Carried.TheVariants as carried
use Rattle.hv_beginning.specs.hv_steps.specs.Going.{faults_in, IsOpenHouse, AddsOwn, Gains, GainsSome, Goes, WasOnWay}
use Rattle.hv_beginning.specs.hv_steps.specs.Phases.{EndsBehind, AbortsFor, OpensAt, IsHinderedBefore, IsNextAt, BeginsAt, StartsAt, WasSoBetween, HasBegun, Begins, ComesTo, Prepares, PreparesAsked, PreparesTo, CanConclude, ConcludesSo, Concludes, AnswersTruly, IsUntoldDamage, Sees, BegunBy}
use Rattle.hv_beginning.specs.hv_steps.specs.Requests.{IsAskIn}
use Rattle.hv_session.specs.Doing.{ReadiesTo, EndsFrom, EndsAs, IsUnrefused, StandsAt, CanGoOn, CanFinishSome, carried_of, is_refused, GoesOnTo, CarriedTruly, GoesToHold, Takes, GoesTaking, WasStarted, up_to}
use Rattle.hv_beginning.specs.hv_steps.proofs.AsksMade.{asks-unended}
use Rattle.hv_beginning.specs.hv_steps.proofs.Parts.{job-unended}
use Rattle.hv_beginning.specs.hv_steps.proofs.Requests.{asks-last}
use Rattle.hv_beginning.specs.hv_steps.proofs.Joining.{way-lasts, on-way-opened, adds-none, adds-front, told-later, told-earlier, gains-behind, gains-as, goes-behind, goes-on, all-more, adds-more}
use Rattle.hv_session.proofs.Lastings.{comes-lasts}
use Rattle.hv_beginning.proofs.Openings.{between-more, next-opened}

-- said of the same answer
pub goes-said : {D T : Type 0} {told : D → Option Store} {faults : D → ℕ} {B : List TrailItem → Type 0} {meanwhile : ToldHouse D → ToldHouse D → Type 0} {low txn : ℕ}
    {own own' : List ℕ} {a b : ToldHouse D} {Is : T → List Entry → Type 0} {x y : T} → x ≡ y
    → Goes (among told faults B meanwhile) low txn (known own a) (known own' b) Is (Ok x)
    → Goes (among told faults B meanwhile) low txn (known own a) (known own' b) Is (Ok y)
goes-said {T = T} {told = told} {faults = faults} {B = B} {meanwhile = meanwhile} {low = low} {txn = txn} {own = own} {own' = own'} {a = a} {b = b} {Is = Is} same goes =
    subst (λ (z : T). Goes (among told faults B meanwhile) low txn (known own a) (known own' b) Is (Ok z)) same goes

-- ---- its end behind what it prepared

-- what it noted for that ends nothing
pub prepares-unended : (txn : ℕ) (meaning : Meaning) (ready : Ready) (added : List Entry) → PreparesTo txn meaning ready added → AllByRecursion (IsNoEnd txn) added
prepares-unended txn (Listing names rows) ready added is = subst (AllByRecursion (IsNoEnd txn)) (sym is.0) tt
prepares-unended txn Plain ready added is = subst (AllByRecursion (IsNoEnd txn)) (sym is.0) tt
prepares-unended txn (Ask table partition kind) ready added is = job-unended txn table partition kind added is.0
prepares-unended txn (Make shape) ready added is = subst (AllByRecursion (IsNoEnd txn)) (sym is.0) tt
prepares-unended txn (Unmake table) ready added is = subst (AllByRecursion (IsNoEnd txn)) (sym is.0) tt
prepares-unended txn (Change info effect) ready added (inl is) = subst (AllByRecursion (IsNoEnd txn)) (sym is.0) tt
prepares-unended txn (Change info effect) ready added (inr is) = subst (AllByRecursion (IsNoEnd txn)) (sym is.2) (tt, tt)
prepares-unended txn (Refused why) ready added is = absurd is
prepares-unended txn (Twice region row) ready added is = absurd is
prepares-unended txn RowLimit ready added is = absurd is
prepares-unended txn PartitionLimit ready added is = absurd is

-- so of what it asked for before
pub readies-unended : {D : Type 0} (now : ToldHouse D) (way : Way) (said : Stmt) (meaning : Meaning) (ready : Ready) (added : List Entry)
    → ReadiesTo now way said meaning ready added → AllByRecursion (IsNoEnd way.txn.0) added
readies-unended now way said meaning ready added is =
    subst (AllByRecursion (IsNoEnd way.txn.0)) (sym is.2)
    (all-more (IsNoEnd way.txn.0) is.0 is.1 (asks-unended (trail_in now) way.txn.0 way.place (numbers_in (Some said)) is.0 is.3)
    (prepares-unended way.txn.0 meaning ready is.1 is.4))

-- what it asked for stands in what follows
readies-lasts : {D : Type 0} (before now : ToldHouse D) → IsFront (trail_in before) (trail_in now) → (way : Way) (said : Stmt) (meaning : Meaning) (ready : Ready)
    (added : List Entry) → ReadiesTo before way said meaning ready added → ReadiesTo now way said meaning ready added
readies-lasts before now front way said meaning ready added is =
    (is.0, is.1, is.2, asks-last (trail_in before) (trail_in now) front way.txn.0 way.place (numbers_in (Some said)) is.0 is.3, is.4, is.5)

concludes-behind : {D : Type 0} (txn : ℕ) (now : ToldHouse D) (ready : Ready) (first : List Entry) (found : Done) (more : List Entry) → Concludes txn now ready found more
    → EndsBehind txn now first (ConcludesSo txn now ready) found (first ++ more)
concludes-behind txn now ready first (done.Replied reply) more ends = (ends.0, ap (λ (xs : List Entry). first ++ xs) ends.1, ends.2, ends.3)
concludes-behind txn now ready first (done.Gone reply) more ends = (ap (λ (xs : List Entry). first ++ xs) ends.0 ∙ append-nil first, ends.1)

-- the reply to an abort is its transaction's answer
aborts-truly : {D : Type 0} (txn : ℕ) (now : ToldHouse D) (first : List Entry) (Causes : Cause → Type 0) (found : Done) (added : List Entry)
    → AbortsFor txn now first Causes found added → AnswersTruly txn now found
aborts-truly txn now first Causes (done.Replied reply) added ends = ends.2.answered
aborts-truly txn now first Causes (done.Gone reply) added ends = ends.1

prepared-truly : {D : Type 0} (txn : ℕ) (now : ToldHouse D) (meaning : Meaning) (found : Done) (added : List Entry) → Prepares txn now meaning (prepared.Ended found) added
    → AnswersTruly txn now found
prepared-truly txn now meaning found added (inl ends) = aborts-truly txn now [] _ found added ends
prepared-truly txn now meaning found added (inr ends) = aborts-truly txn now ends.0 _ found added ends.2

-- the same behind what it asked for
pub same-done : (a b : Done) → prepared.Ended a ≡ prepared.Ended b → a ≡ b
same-done a b e = cc

pub never-ended : (ready : Ready) (found : Done) → prepared.Ready ready ≡ prepared.Ended found → ⊥
never-ended ready found e = cc

pub asked-truly : {D : Type 0} (txn : ℕ) (now : ToldHouse D) (IsAsk : Entry → Type 0) (meaning : Meaning) (found : Done) (added : List Entry)
    → PreparesAsked txn now IsAsk meaning (prepared.Ended found) added → AnswersTruly txn now found
asked-truly txn now IsAsk meaning found added (inl is) = prepared-truly txn now meaning found is.1 is.4
asked-truly txn now IsAsk meaning found added (inr is) =
    subst (AnswersTruly txn now) (sym (same-done found is.0 is.1)) (aborts-truly txn now is.2.0 _ is.0 added is.2.2)

-- it is ready behind what it asked for
readied-by : {D : Type 0} (now : ToldHouse D) (way : Way) (said : Stmt) (meaning : Meaning) (ready : Ready) (added : List Entry)
    → PreparesAsked way.txn.0 now (IsAskIn now way said) meaning (prepared.Ready ready) added → ReadiesTo now way said meaning ready added
readied-by now way said meaning ready added (inl is) = (is.0, is.1, is.2, is.3, is.4, is.5)
readied-by now way said meaning ready added (inr is) = absurd (never-ended ready is.0 is.1)

-- ---- where it is held it can be done to its end

stands-can : {D : Type 0} (told : D → Option Store) (now : ToldHouse D) (asking : Asking) (way : Way) (said : Stmt) (at : Point) (added : List Entry)
    → WasOnWay (trail_in now) asking way said → StandsAt told now way said at added → CanGoOn told now way said at
stands-can told now asking way said point.Started added was stands = (asking, was)
stands-can told now asking way said (point.Meant meaning) added was stands = (asking, was, stands.1)
stands-can told now asking way said (point.Ready ready) added was stands = (on-way-opened (trail_in now) asking way said was, stands.3)

held-can : {D : Type 0} (told : D → Option Store) (now : ToldHouse D) (asking : Asking) (way : Way) (said : Stmt) (hold : Option Stage) (found : Carried) (added : List Entry)
    → GoesOnTo told now asking way (up_to said hold) found added → CanFinishSome told now found
held-can told now asking way said hold (carried.Ended found) added goes = tt
held-can told now asking way said hold (carried.Kept paused) added goes =
    subst (λ (w : Way). CanGoOn told now w paused.tree paused.point) (sym goes.3)
    (subst (λ (s : Stmt). CanGoOn told now way s paused.point) (sym goes.4) (stands-can told now asking way said paused.point added goes.5 goes.6))
held-can told now asking way said hold (carried.Full entries) added goes = absurd goes
held-can told now asking way said hold carried.NoMemory added goes = absurd goes

-- one that was taken up and is held can be finished
pub takes-can : {D : Type 0} (told : D → Option Store) (before now : ToldHouse D) (asking : Asking) (said : Stmt) (hold : Option Stage) (found : Carried) (added : List Entry)
    → Takes told before now asking (up_to said hold) found added → CanFinishSome told now found
takes-can told before now asking said hold (carried.Kept paused) added (inl gone) = held-can told now asking gone.way said hold (carried.Kept paused) gone.rest gone.goes
takes-can told before now asking said hold (carried.Kept paused) added (inr not_) = absurd not_
takes-can told before now asking said hold (carried.Ended found) added is = tt
takes-can told before now asking said hold (carried.Full entries) added is = tt
takes-can told before now asking said hold carried.NoMemory added is = tt

pub unrefused : (meaning : Meaning) → is_refused meaning ≡ false → IsUnrefused meaning
unrefused (Refused why) e = let never : true ≡ false = e in cc
unrefused (Listing names rows) e = tt
unrefused (Change info effect) e = tt
unrefused (Make shape) e = tt
unrefused (Unmake table) e = tt
unrefused (Twice region row) e = tt
unrefused RowLimit e = tt
unrefused PartitionLimit e = tt
unrefused Plain e = tt
unrefused (Ask asked region kind) e = tt

refused : (meaning : Meaning) → is_refused meaning ≡ true → IsUnrefused meaning → ⊥
refused (Refused why) e is = is
refused (Listing names rows) e is = let never : false ≡ true = e in cc
refused (Change info effect) e is = let never : false ≡ true = e in cc
refused (Make shape) e is = let never : false ≡ true = e in cc
refused (Unmake table) e is = let never : false ≡ true = e in cc
refused (Twice region row) e is = let never : false ≡ true = e in cc
refused RowLimit e is = let never : false ≡ true = e in cc
refused PartitionLimit e is = let never : false ≡ true = e in cc
refused Plain e is = let never : false ≡ true = e in cc
refused (Ask asked region kind) e is = let never : false ≡ true = e in cc

-- ---- what was opened

begun-of : (book : List Entry) (asking : Asking) (txn : ℕ) (event : Entry) → txn ≡ next_number book → event ≡ opening book asking → IsOf txn event
begun-of book asking txn event numbered is = ap adder_of is ∙ ap (λ (n : ℕ). Some n) (sym numbered)

begun-unended : (txn : ℕ) (book : List Entry) (asking : Asking) (event : Entry) → event ≡ opening book asking → IsNoEnd txn event
begun-unended txn book asking event is = subst (IsNoEnd txn) (sym is) tt

-- one that was begun is on its way
pub begun-started : {D : Type 0} (before now : ToldHouse D) (asking : Asking) (said : Stmt) (found : Opened) (added : List Entry) → Begins before now asking said found added
    → WasStarted (trail_in now) said found
begun-started before now asking said (opened.Started way) added begins = (asking, begins.under_way)
begun-started before now asking said (opened.Full entries) added begins = tt
begun-started before now asking said opened.NoMemory added begins = tt
begun-started before now asking said (opened.Ended done) added begins = tt

module _ {D : Type 0} (told : D → Option Store) (faults : D → ℕ) (B : List TrailItem → Type 0) (rows : AreRows B) (meanwhile : ToldHouse D → ToldHouse D → Type 0) where
  -- ---- by what it means

  -- what is known of the house behind it
  result-front : {T : Type 0} (low txn : ℕ) (own own' : List ℕ) (a b : ToldHouse D) (Is : T → List Entry → Type 0) (result : Result T HouseFault)
      → Goes (among told faults B meanwhile) low txn (known own a) (known own' b) Is result → IsFront (trail_in a) (trail_in b)
  result-front low txn own own' a b Is (Ok x) goes = adds-front faults B rows own own' a b goes.done.added goes.done.adds
  result-front low txn own own' a b Is (Err why) goes = adds-front faults B rows own own' a b goes.halted.added goes.halted.adds

  pub ready-ends : (own own' own'' : List ℕ) (a b c : ToldHouse D) (way : Way) (said : Stmt) (meaning : Meaning) (ready : Ready) (result : Result Done HouseFault)
      → Goes (among told faults B meanwhile) (faults_in faults a) way.txn.0 (known own a) (known own' b)
      (PreparesAsked way.txn.0 b (IsAskIn b way said) meaning) (Ok (prepared.Ready ready))
      → Goes (among told faults B meanwhile) (faults_in faults b) way.txn.0 (known own' b) (known own'' c) (Concludes way.txn.0 c ready) result
      → Goes (among told faults B meanwhile) (faults_in faults a) way.txn.0 (known own a) (known own'' c) (EndsFrom c way said meaning) result
  ready-ends own own' own'' a b c way said meaning ready result first goes =
      let v = first.done in
      let readies = readied-by b way said meaning ready v.added v.is in
      let front = result-front (faults_in faults b) way.txn.0 own' own'' b c (Concludes way.txn.0 c ready) result goes in
      goes-behind faults B rows told meanwhile (faults_in faults a) (faults_in faults b) way.txn.0 own own' own'' a b c v.added (Concludes way.txn.0 c ready)
      (EndsFrom c way said meaning) result v.adds.later.count v.adds v.of_it (readies-unended b way said meaning ready v.added readies)
      (λ found more is. inr (
        ready,
        v.added,
        readies-lasts b c front way said meaning ready v.added readies,
        concludes-behind way.txn.0 c ready v.added found more is,
      )) goes

  pub ended-ends : (low : ℕ) (own own' : List ℕ) (a b : ToldHouse D) (way : Way) (said : Stmt) (meaning : Meaning) (found : Done)
      → Goes (among told faults B meanwhile) low way.txn.0 (known own a) (known own' b) (PreparesAsked way.txn.0 b (IsAskIn b way said) meaning)
      (Ok (prepared.Ended found))
      → Goes (among told faults B meanwhile) low way.txn.0 (known own a) (known own' b) (EndsFrom b way said meaning) (Ok found)
  ended-ends low own own' a b way said meaning found goes = record {
    done =
        gains-as faults B rows low way.txn.0 own own' a b (PreparesAsked way.txn.0 b (IsAskIn b way said) meaning (prepared.Ended found)) (EndsFrom b way said meaning found)
        (λ added is. inl is) goes.done;
    halted = tt;
  }

  pub halted-so : {T U : Type 0} (txn low : ℕ) (own own' : List ℕ) (a b : ToldHouse D) (Is : T → List Entry → Type 0) (Js : U → List Entry → Type 0) (why : HouseFault)
      → Goes (among told faults B meanwhile) low txn (known own a) (known own' b) Is (Err why)
      → Goes (among told faults B meanwhile) low txn (known own a) (known own' b) Js (Err why)
  halted-so txn low own own' a b Is Js why goes = record { done = tt; halted = goes.halted }

  pub ended-truly : (txn low : ℕ) (own own' : List ℕ) (a b : ToldHouse D) (IsAsk : Entry → Type 0) (meaning : Meaning) (found : Done)
      → Goes (among told faults B meanwhile) low txn (known own a) (known own' b) (PreparesAsked txn b IsAsk meaning) (Ok (prepared.Ended found))
      → AnswersTruly txn b found
  ended-truly txn low own own' a b IsAsk meaning found goes = asked-truly txn b IsAsk meaning found goes.done.added goes.done.is

  -- what was told is told behind a part that is done
  pub done-told : {T : Type 0} (txn low : ℕ) (own own' : List ℕ) (a b : ToldHouse D) (Is : T → List Entry → Type 0) (x : T)
      → Goes (among told faults B meanwhile) low txn (known own a) (known own' b) Is (Ok x) → IsToldHouse told a.house → IsToldHouse told b.house
  done-told txn low own own' a b Is x goes is = told-later faults B rows told own own' a b goes.done.added goes.done.adds is

  pub done-way : {T : Type 0} (txn low : ℕ) (own own' : List ℕ) (a b : ToldHouse D) (Is : T → List Entry → Type 0) (x : T) (asking : Asking) (way : Way) (said : Stmt)
      → Goes (among told faults B meanwhile) low txn (known own a) (known own' b) Is (Ok x) → WasOnWay (trail_in a) asking way said
      → WasOnWay (trail_in b) asking way said
  done-way txn low own own' a b Is x asking way said goes was =
      way-lasts asking way said (trail_in a) (trail_in b) (adds-front faults B rows own own' a b goes.done.added goes.done.adds) was

  -- ---- what it comes to goes on

  pub done-comes : {T : Type 0} (txn low : ℕ) (own own' : List ℕ) (a b : ToldHouse D) (Is : T → List Entry → Type 0) (x : T) (asking : Asking) (way : Way) (said : Stmt)
      (meaning : Meaning) → Goes (among told faults B meanwhile) low txn (known own a) (known own' b) Is (Ok x) → WasOnWay (trail_in a) asking way said
      → ComesTo told a way said meaning
      → ComesTo told b way said meaning
  done-comes txn low own own' a b Is x asking way said meaning goes was comes =
      let v = goes.done.adds in
      comes-lasts told a b (adds-front faults B rows own own' a b goes.done.added v) (told-earlier faults B rows told own own' a b goes.done.added v)
      asking way said meaning was comes

  -- ---- behind what it saw

  -- nothing was noted
  pub seen-adds : (txn low : ℕ) (own own' : List ℕ) (a b : ToldHouse D) (way : Way) (said : Stmt) (meaning : Meaning)
      → Goes (among told faults B meanwhile) low txn (known own a) (known own' b) (Sees told b way said) (Ok (outcome.Means meaning))
      → AddsOwn faults B txn (known own a) (known own' b) []
  seen-adds txn low own own' a b way said meaning goes = subst (AddsOwn faults B txn (known own a) (known own' b)) goes.done.is.0 goes.done.adds

  pub seen-comes : (txn low : ℕ) (own own' : List ℕ) (a b : ToldHouse D) (way : Way) (said : Stmt) (meaning : Meaning)
      → Goes (among told faults B meanwhile) low txn (known own a) (known own' b) (Sees told b way said) (Ok (outcome.Means meaning))
      → ComesTo told b way said meaning
  seen-comes txn low own own' a b way said meaning goes = goes.done.is.1

  -- one of this tree ends by what it means
  means-ends : (own own' : List ℕ) (a b : ToldHouse D) (asking : Asking) (way : Way) (said : Stmt) (meaning : Meaning) (result : Result Done HouseFault)
      → WasOnWay (trail_in a) asking way said → ComesTo told a way said meaning
      → Goes (among told faults B meanwhile) (faults_in faults a) way.txn.0 (known own a) (known own' b) (EndsFrom b way said meaning) result
      → Goes (among told faults B meanwhile) (faults_in faults a) way.txn.0 (known own a) (known own' b) (EndsAs told b way said) result
  means-ends own own' a b asking way said meaning (Ok found) was comes goes = record {
    done =
        gains-as faults B rows (faults_in faults a) way.txn.0 own own' a b (EndsFrom b way said meaning found) (EndsAs told b way said found)
        (λ added is. inr (
          meaning,
          done-comes way.txn.0 (faults_in faults a) own own' a b (EndsFrom b way said meaning) found asking way said meaning goes was comes,
          is,
        )) goes.done;
    halted = tt;
  }
  means-ends own own' a b asking way said meaning (Err why) was comes goes = record { done = tt; halted = goes.halted }

  pub seen-ends : (own own' own'' : List ℕ) (a b c : ToldHouse D) (asking : Asking) (way : Way) (said : Stmt) (meaning : Meaning) (result : Result Done HouseFault)
      → WasOnWay (trail_in a) asking way said
      → Goes (among told faults B meanwhile) (faults_in faults a) way.txn.0 (known own a) (known own' b) (Sees told b way said) (Ok (outcome.Means meaning))
      → Goes (among told faults B meanwhile) (faults_in faults b) way.txn.0 (known own' b) (known own'' c) (EndsFrom c way said meaning) result
      → Goes (among told faults B meanwhile) (faults_in faults a) way.txn.0 (known own a) (known own'' c) (EndsAs told c way said) result
  seen-ends own own' own'' a b c asking way said meaning result was sees goes =
      goes-on faults B rows told meanwhile (faults_in faults a) (faults_in faults b) way.txn.0 own own' own'' a b c (EndsAs told c way said) (EndsAs told c way said) result
      sees.done.adds.later.count (seen-adds way.txn.0 (faults_in faults a) own own' a b way said meaning sees) (λ found more is. is)
      (means-ends own' own'' b c asking way said meaning result
      (done-way way.txn.0 (faults_in faults a) own own' a b (Sees told b way said) (outcome.Means meaning) asking way said sees was)
      (seen-comes way.txn.0 (faults_in faults a) own own' a b way said meaning sees) goes)

  -- its tables couldn't be seen
  pub unseen-ends : (low : ℕ) (own own' : List ℕ) (a b : ToldHouse D) (way : Way) (said : Stmt) (found : Done)
      → Goes (among told faults B meanwhile) low way.txn.0 (known own a) (known own' b) (Sees told b way said) (Ok (outcome.Ended found))
      → Goes (among told faults B meanwhile) low way.txn.0 (known own a) (known own' b) (EndsAs told b way said) (Ok found)
  unseen-ends low own own' a b way said found goes = record {
    done = gains-as faults B rows low way.txn.0 own own' a b (Sees told b way said (outcome.Ended found)) (EndsAs told b way said found) (λ added is. inl is) goes.done;
    halted = tt;
  }

  pub unseen-truly : (low : ℕ) (own own' : List ℕ) (a b : ToldHouse D) (way : Way) (said : Stmt) (found : Done)
      → Goes (among told faults B meanwhile) low way.txn.0 (known own a) (known own' b) (Sees told b way said) (Ok (outcome.Ended found))
      → AnswersTruly way.txn.0 b found
  unseen-truly low own own' a b way said found goes = aborts-truly way.txn.0 b [] (IsUntoldDamage told b) found goes.done.added goes.done.is

  -- ---- to its hold

  -- said of one that goes to its hold
  goes-to : (own own' : List ℕ) (a b : ToldHouse D) (way : Way) (said : Stmt) (hold : Option Stage) (result : Result Carried HouseFault)
      → ((asking : Asking) → WasOnWay (trail_in a) asking way said
      → Goes (among told faults B meanwhile) (faults_in faults a) way.txn.0 (known own a) (known own' b) (GoesOnTo told b asking way (up_to said hold)) result)
      → (IsToldHouse told a.house → IfOk result (CarriedTruly way.txn.0 b))
      → GoesToHold (among told faults B meanwhile) way (up_to said hold) (known own a) (known own' b) result
  goes-to own own' a b way said hold result goes truly = record { goes = goes; truly = truly }

  -- the same behind what it saw
  pub seen-holds : (own own' own'' : List ℕ) (a b c : ToldHouse D) (way : Way) (said : Stmt) (meaning : Meaning) (hold : Option Stage) (result : Result Carried HouseFault)
      → Goes (among told faults B meanwhile) (faults_in faults a) way.txn.0 (known own a) (known own' b) (Sees told b way said) (Ok (outcome.Means meaning))
      → GoesToHold (among told faults B meanwhile) way (up_to said hold) (known own' b) (known own'' c) result
      → GoesToHold (among told faults B meanwhile) way (up_to said hold) (known own a) (known own'' c) result
  seen-holds own own' own'' a b c way said meaning hold result sees held = record {
    goes = λ asking was.
        goes-on faults B rows told meanwhile (faults_in faults a) (faults_in faults b) way.txn.0 own own' own'' a b c
        (GoesOnTo told c asking way (up_to said hold))
        (GoesOnTo told c asking way (up_to said hold)) result sees.done.adds.later.count (seen-adds way.txn.0 (faults_in faults a) own own' a b way said meaning sees)
        (λ found more is. is)
        (held.goes asking (done-way way.txn.0 (faults_in faults a) own own' a b (Sees told b way said) (outcome.Means meaning) asking way said sees was));
    truly = λ is. held.truly (done-told way.txn.0 (faults_in faults a) own own' a b (Sees told b way said) (outcome.Means meaning) sees is);
  }

  -- the run stopped on the way
  pub halts-holds : {T : Type 0} (own own' : List ℕ) (a b : ToldHouse D) (way : Way) (said : Stmt) (hold : Option Stage) (Is : T → List Entry → Type 0) (why : HouseFault)
      → Goes (among told faults B meanwhile) (faults_in faults a) way.txn.0 (known own a) (known own' b) Is (Err why)
      → GoesToHold (among told faults B meanwhile) way (up_to said hold) (known own a) (known own' b) (Err why)
  halts-holds own own' a b way said hold Is why goes = record { goes = λ asking was. record { done = tt; halted = goes.halted }; truly = λ is. tt }

  -- it ended so
  ended-holds : (own own' : List ℕ) (a b : ToldHouse D) (way : Way) (said : Stmt) (hold : Option Stage) (Is : Done → List Entry → Type 0) (result : Result Done HouseFault)
      → ((asking : Asking) (found : Done) (added : List Entry) → Is found added → GoesOnTo told b asking way (up_to said hold) (carried.Ended found) added)
      → Goes (among told faults B meanwhile) (faults_in faults a) way.txn.0 (known own a) (known own' b) Is result
      → (IsToldHouse told a.house → IfOk result (AnswersTruly way.txn.0 b))
      → GoesToHold (among told faults B meanwhile) way (up_to said hold) (known own a) (known own' b) (carried_of result)
  ended-holds own own' a b way said hold Is (Ok found) f goes truly = record {
    goes = λ asking was. record {
      done =
          gains-as faults B rows (faults_in faults a) way.txn.0 own own' a b (Is found) (GoesOnTo told b asking way (up_to said hold) (carried.Ended found))
          (f asking found) goes.done;
      halted = tt;
    };
    truly = truly;
  }
  ended-holds own own' a b way said hold Is (Err why) f goes truly = halts-holds own own' a b way said hold Is why goes

  as-taken : (own own' : List ℕ) (a b : ToldHouse D) (way : Way) (said : Stmt) (hold : Option Stage) (result other : Result Carried HouseFault) → other ≡ result
      → GoesToHold (among told faults B meanwhile) way (up_to said hold) (known own a) (known own' b) result
      → GoesToHold (among told faults B meanwhile) way (up_to said hold) (known own a) (known own' b) other
  as-taken own own' a b way said hold result other e held =
      subst (GoesToHold (among told faults B meanwhile) way (up_to said hold) (known own a) (known own' b)) (sym e) held

  -- without a hold
  pub unheld-holds : (own own' : List ℕ) (a b : ToldHouse D) (way : Way) (said : Stmt) (result : Result Done HouseFault) (other : Result Carried HouseFault) → other ≡ carried_of result
      → Goes (among told faults B meanwhile) (faults_in faults a) way.txn.0 (known own a) (known own' b) (EndsAs told b way said) result
      → (IsToldHouse told a.house → IfOk result (AnswersTruly way.txn.0 b))
      → GoesToHold (among told faults B meanwhile) way (up_to said None) (known own a) (known own' b) other
  unheld-holds own own' a b way said result other e goes truly =
      as-taken own own' a b way said None (carried_of result) other e
      (ended-holds own own' a b way said None (EndsAs told b way said) result (λ asking found added is. is) goes truly)

  -- at its Start
  pub started-holds : (own : List ℕ) (a : ToldHouse D) (was : Asking) (way : Way) (said : Stmt) → WasOnWay (trail_in a) was way said → IsOpenHouse a
      → GoesToHold (among told faults B meanwhile) way (up_to said (Some stage.Start)) (known own a) (known own a)
      (Ok (carried.Kept (record { way = way; tree = said; point = point.Started })))
  started-holds own a was way said on running =
      goes-to own own a a way said (Some stage.Start) (Ok (carried.Kept (record { way = way; tree = said; point = point.Started })))
      (λ asking way_on. record {
        done = record {
          added = [];
          adds = adds-none faults B rows own a;
          of_it = tt;
          counts = tt;
          is = (stage.Start, refl, tt, refl, refl, way_on, refl);
          running = running;
        };
        halted = tt;
      }) (λ is. tt)

  -- at its reads
  pub meant-holds : (own : List ℕ) (a : ToldHouse D) (was : Asking) (way : Way) (said : Stmt) (meaning : Meaning) → WasOnWay (trail_in a) was way said → IsOpenHouse a
      → ComesTo told a way said meaning → is_refused meaning ≡ false
      → GoesToHold (among told faults B meanwhile) way (up_to said (Some stage.Read)) (known own a) (known own a)
      (Ok (carried.Kept (record { way = way; tree = said; point = point.Meant meaning })))
  meant-holds own a was way said meaning on running comes not =
      goes-to own own a a way said (Some stage.Read) (Ok (carried.Kept (record { way = way; tree = said; point = point.Meant meaning })))
      (λ asking way_on. record {
        done = record {
          added = [];
          adds = adds-none faults B rows own a;
          of_it = tt;
          counts = tt;
          is = (stage.Read, refl, tt, refl, refl, way_on, (refl, comes, unrefused meaning not));
          running = running;
        };
        halted = tt;
      }) (λ is. tt)

  refused-ends : (own own' : List ℕ) (a b : ToldHouse D) (asking : Asking) (way : Way) (said : Stmt) (meaning : Meaning) (result : Result Done HouseFault)
      → is_refused meaning ≡ true → WasOnWay (trail_in a) asking way said → ComesTo told a way said meaning
      → Goes (among told faults B meanwhile) (faults_in faults a) way.txn.0 (known own a) (known own' b) (EndsFrom b way said meaning) result
      → (IsToldHouse told a.house → IfOk result (AnswersTruly way.txn.0 b))
      → GoesToHold (among told faults B meanwhile) way (up_to said (Some stage.Read)) (known own a) (known own' b) (carried_of result)
  refused-ends own own' a b asking way said meaning (Ok found) is on comes goes truly =
      ended-holds own own' a b way said (Some stage.Read) (EndsFrom b way said meaning) (Ok found)
      (λ of other added ends. inr (
        meaning,
        done-comes way.txn.0 (faults_in faults a) own own' a b (EndsFrom b way said meaning) found asking way said meaning goes on comes,
        refused meaning is,
        ends,
      )) goes truly
  refused-ends own own' a b asking way said meaning (Err why) is on comes goes truly =
      halts-holds own own' a b way said (Some stage.Read) (EndsFrom b way said meaning) why goes

  pub refused-holds : (own own' : List ℕ) (a b : ToldHouse D) (asking : Asking) (way : Way) (said : Stmt) (meaning : Meaning) (result : Result Done HouseFault)
      (other : Result Carried HouseFault) → other ≡ carried_of result → is_refused meaning ≡ true → WasOnWay (trail_in a) asking way said → ComesTo told a way said meaning
      → Goes (among told faults B meanwhile) (faults_in faults a) way.txn.0 (known own a) (known own' b) (EndsFrom b way said meaning) result
      → (IsToldHouse told a.house → IfOk result (AnswersTruly way.txn.0 b))
      → GoesToHold (among told faults B meanwhile) way (up_to said (Some stage.Read)) (known own a) (known own' b) other
  refused-holds own own' a b asking way said meaning result other e is on comes goes truly =
      as-taken own own' a b way said (Some stage.Read) (carried_of result) other e (refused-ends own own' a b asking way said meaning result is on comes goes truly)

  -- its tables couldn't be seen
  pub unseen-reads : (own own' : List ℕ) (a b : ToldHouse D) (way : Way) (said : Stmt) (found : Done)
      → Goes (among told faults B meanwhile) (faults_in faults a) way.txn.0 (known own a) (known own' b) (Sees told b way said) (Ok (outcome.Ended found))
      → GoesToHold (among told faults B meanwhile) way (up_to said (Some stage.Read)) (known own a) (known own' b) (Ok (carried.Ended found))
  unseen-reads own own' a b way said found goes = record {
    goes = λ asking was. record {
      done =
          gains-as faults B rows (faults_in faults a) way.txn.0 own own' a b (Sees told b way said (outcome.Ended found))
          (GoesOnTo told b asking way (up_to said (Some stage.Read)) (carried.Ended found)) (λ added is. inl is) goes.done;
      halted = tt;
    };
    truly = λ is. unseen-truly (faults_in faults a) own own' a b way said found goes;
  }

  pub unseen-commits : (own own' : List ℕ) (a b : ToldHouse D) (way : Way) (said : Stmt) (found : Done)
      → Goes (among told faults B meanwhile) (faults_in faults a) way.txn.0 (known own a) (known own' b) (Sees told b way said) (Ok (outcome.Ended found))
      → GoesToHold (among told faults B meanwhile) way (up_to said (Some stage.Commit)) (known own a) (known own' b) (Ok (carried.Ended found))
  unseen-commits own own' a b way said found goes = record {
    goes = λ asking was. record {
      done =
          gains-as faults B rows (faults_in faults a) way.txn.0 own own' a b (Sees told b way said (outcome.Ended found))
          (GoesOnTo told b asking way (up_to said (Some stage.Commit)) (carried.Ended found)) (λ added is. inl is) goes.done;
      halted = tt;
    };
    truly = λ is. unseen-truly (faults_in faults a) own own' a b way said found goes;
  }

  -- at its commit
  pub ready-holds : (own own' : List ℕ) (a b : ToldHouse D) (was : Asking) (way : Way) (said : Stmt) (meaning : Meaning) (ready : Ready) → WasOnWay (trail_in a) was way said
      → ComesTo told a way said meaning
      → Goes (among told faults B meanwhile) (faults_in faults a) way.txn.0 (known own a) (known own' b)
      (PreparesAsked way.txn.0 b (IsAskIn b way said) meaning) (Ok (prepared.Ready ready))
      → CanConclude told b way ready.end ready.text
      → GoesToHold (among told faults B meanwhile) way (up_to said (Some stage.Commit)) (known own a) (known own' b)
      (Ok (carried.Kept (record { way = way; tree = said; point = point.Ready ready })))
  ready-holds own own' a b was way said meaning ready on comes goes can =
      goes-to own own' a b way said (Some stage.Commit) (Ok (carried.Kept (record { way = way; tree = said; point = point.Ready ready })))
      (λ asking way_on. record {
        done =
            gains-as faults B rows (faults_in faults a) way.txn.0 own own' a b (PreparesAsked way.txn.0 b (IsAskIn b way said) meaning (prepared.Ready ready))
            (GoesOnTo told b asking way (up_to said (Some stage.Commit)) (carried.Kept (record { way = way; tree = said; point = point.Ready ready })))
            (λ added is. (
              stage.Commit,
              refl,
              tt,
              refl,
              refl,
              done-way way.txn.0 (faults_in faults a) own own' a b (PreparesAsked way.txn.0 b (IsAskIn b way said) meaning) (prepared.Ready ready) asking way said goes way_on,
              (
                meaning,
                done-comes way.txn.0 (faults_in faults a) own own' a b (PreparesAsked way.txn.0 b (IsAskIn b way said) meaning) (prepared.Ready ready) was way said meaning goes on comes,
                readied-by b way said meaning ready added is,
                can,
              ),
            )) goes.done;
        halted = tt;
      }) (λ is. tt)

  pub early-holds : (own own' : List ℕ) (a b : ToldHouse D) (was : Asking) (way : Way) (said : Stmt) (meaning : Meaning) (found : Done) → WasOnWay (trail_in a) was way said
      → ComesTo told a way said meaning
      → Goes (among told faults B meanwhile) (faults_in faults a) way.txn.0 (known own a) (known own' b)
      (PreparesAsked way.txn.0 b (IsAskIn b way said) meaning) (Ok (prepared.Ended found))
      → GoesToHold (among told faults B meanwhile) way (up_to said (Some stage.Commit)) (known own a) (known own' b) (Ok (carried.Ended found))
  early-holds own own' a b was way said meaning found on comes goes = record {
    goes = λ asking way_on. record {
      done =
          gains-as faults B rows (faults_in faults a) way.txn.0 own own' a b (PreparesAsked way.txn.0 b (IsAskIn b way said) meaning (prepared.Ended found))
          (GoesOnTo told b asking way (up_to said (Some stage.Commit)) (carried.Ended found))
          (λ added is. inr (
            meaning,
            done-comes way.txn.0 (faults_in faults a) own own' a b (PreparesAsked way.txn.0 b (IsAskIn b way said) meaning) (prepared.Ended found) was way said meaning goes on comes,
            is,
          )) goes.done;
      halted = tt;
    };
    truly = λ is. ended-truly way.txn.0 (faults_in faults a) own own' a b (IsAskIn b way said) meaning found goes;
  }

  -- ---- from its opening on

  -- what was so when it was begun
  begun-lasts : (a b c : ToldHouse D) (asking : Asking) (said : Stmt) (way : Way) (added : List Entry) → IsFront (trail_in b) (trail_in c)
      → HasBegun a b asking said way added → HasBegun a c asking said way added
  begun-lasts a b c asking said way added front begun = record {
    event = begun.event;
    was_opened = between-more (OpensAt asking way.txn.0 begun.event) a b c front begun.was_opened;
    added_is = begun.added_is;
    can = by begun.can;
    under_way = way-lasts asking way said (trail_in b) (trail_in c) front begun.under_way;
  }
    where
      by : WasSoBetween a b (BeginsAt asking said way begun.event) ⊎ (WasSoBetween a b (IsHinderedBefore way.txn.0 said) × WasSoBetween a b (StartsAt way))
          → WasSoBetween a c (BeginsAt asking said way begun.event) ⊎ (WasSoBetween a c (IsHinderedBefore way.txn.0 said) × WasSoBetween a c (StartsAt way))
      by (inl is) = inl (between-more (BeginsAt asking said way begun.event) a b c front is)
      by (inr is) = inr (between-more (IsHinderedBefore way.txn.0 said) a b c front is.0, between-more (StartsAt way) a b c front is.1)

  begun-are : (a b : ToldHouse D) (asking : Asking) (said : Stmt) (way : Way) (added : List Entry) → HasBegun a b asking said way added
      → AreOf way.txn.0 added × AllByRecursion (IsNoEnd way.txn.0) added
  begun-are a b asking said way added begun =
      let at = begun.was_opened in
      let book = book_of at.trail in (
        subst (AreOf way.txn.0) (sym begun.added_is) (begun-of book asking way.txn.0 begun.event at.was.txn_is at.was.event_is, (refl, tt)),
        subst (AllByRecursion (IsNoEnd way.txn.0)) (sym begun.added_is) (begun-unended way.txn.0 book asking begun.event at.was.event_is, (tt, tt)),
      )

  -- whatever follows, its Opened comes first
  begun-by : (a b : ToldHouse D) (asking : Asking) (said : Stmt) (way : Way) (added more : List Entry) → HasBegun a b asking said way added → BegunBy asking (added ++ more)
  begun-by a b asking said way added more begun =
      subst (λ (xs : List Entry). BegunBy asking (xs ++ more)) (sym begun.added_is)
      (subst (λ (event : Entry). BegunBy asking (event ∷ starting way.txn.0 ∷ more)) (sym begun.was_opened.was.event_is) (refl, refl, refl))

  -- whose entries these are, its the beginning is
  begun-adds : (own own' : List ℕ) (a b : ToldHouse D) (asking : Asking) (said : Stmt) (way : Way) (txn low : ℕ)
      (v : Gains faults B low txn (known own a) (known own' b) (Begins a b asking said (opened.Started way)))
      → AddsOwn faults B way.txn.0 (known own a) (known own' b) v.added
  begun-adds own own' a b asking said way txn low v =
      let both : Some way.txn.0 ≡ Some txn = (subst (AreOf txn) v.is.added_is v.of_it).1.0 in
      let same : txn ≡ way.txn.0 = cc in
      subst (λ (n : ℕ). AddsOwn faults B n (known own a) (known own' b) v.added) same v.adds

  pub started-takes : (own own' own'' : List ℕ) (a b c : ToldHouse D) (asking : Asking) (said : Stmt) (way : Way) (hold : Option Stage) (result : Result Carried HouseFault)
      → GainsSome faults B (faults_in faults a) (known own a) (known own' b) (Begins a b asking said (opened.Started way))
      → GoesToHold (among told faults B meanwhile) way (up_to said hold) (known own' b) (known own'' c) result
      → GoesTaking (among told faults B meanwhile) asking (up_to said hold) (known own a) (known own'' c) result
  started-takes own own' own'' a b c asking said way hold (Ok found) begins held =
      let v = begins.1 in
      let are = begun-are a b asking said way v.added v.is in
      let w = (held.goes asking v.is.under_way).done in
      record {
        takes = (
          way.txn.0,
          gains-behind faults B rows (faults_in faults a) (faults_in faults b) way.txn.0 own own' own'' a b c v.added
              (GoesOnTo told c asking way (up_to said hold) found)
              (Takes told a c asking (up_to said hold) found) v.adds.later.count
              (begun-adds own own' a b asking said way begins.0 (faults_in faults a) v) are.0 are.1
              (λ more is. inl (record {
                way = way;
                first = v.added;
                rest = more;
                added_is = refl;
                begun = begun-lasts a b c asking said way v.added (adds-front faults B rows own' own'' b c w.added w.adds) v.is;
                goes = is;
                truly = λ told_now. held.truly (told-earlier faults B rows told own' own'' b c w.added w.adds told_now);
              })) w,
          between-more (IsNextAt way.txn.0) a b c (adds-front faults B rows own' own'' b c w.added w.adds)
              (next-opened a b asking way.txn.0 v.is.event v.is.was_opened),
        );
        halts = tt;
      }
  started-takes own own' own'' a b c asking said way hold (Err why) begins held =
      let v = begins.1 in
      let are = begun-are a b asking said way v.added v.is in
      let halted = (held.goes asking v.is.under_way).halted in
      record {
        takes = tt;
        halts = inl (
          way.txn.0,
          between-more (IsNextAt way.txn.0) a b c (adds-front faults B rows own' own'' b c halted.added halted.adds)
              (next-opened a b asking way.txn.0 v.is.event v.is.was_opened),
          record {
            stop = record {
              added = v.added ++ halted.added;
              adds = adds-more faults B rows own own' own'' a b c v.added halted.added
                  (begun-adds own own' a b asking said way begins.0 (faults_in faults a) v) halted.adds;
              of_it = all-more (IsOf way.txn.0) v.added halted.added are.0 halted.of_it;
              unended = all-more (IsNoEnd way.txn.0) v.added halted.added are.1 halted.unended;
              halts = halted.halts;
            };
            begun_by = begun-by a b asking said way v.added halted.added v.is;
          },
        );
      }

  -- it never started
  pub never-takes : (own own' : List ℕ) (a b : ToldHouse D) (asking : Asking) (said : Stmt) (hold : Option Stage) (Is : List Entry → Type 0) (found : Carried)
      → ((added : List Entry) → Is added → Takes told a b asking (up_to said hold) found added)
      → GainsSome faults B (faults_in faults a) (known own a) (known own' b) Is
      → GoesTaking (among told faults B meanwhile) asking (up_to said hold) (known own a) (known own' b) (Ok found)
  never-takes own own' a b asking said hold Is found f begins = record {
    takes = (
      begins.0,
      gains-as faults B rows (faults_in faults a) begins.0 own own' a b Is (Takes told a b asking (up_to said hold) found) f begins.1,
      begins.2,
    );
    halts = tt;
  }
