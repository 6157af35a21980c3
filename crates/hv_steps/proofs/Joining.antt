-- What one act leaves, what several leave one behind the other, and what was so and is so still.
use Rattle.std.proofs.Common.{◌≡◌, ◌⊎◌, inl, inr, ℕ, ◌≤◌, Bool, true, false, ◌||◌, Option, List, [], ◌∷◌, ◌++◌, refl, sym, ap, ◌∙◌, subst, append-nil, append_assoc, le_trans, arith, Ok, Err, Result}
use Rattle.std.specs.Prelude.{IfErr}
use Rattle.std.specs.List.{AllByRecursion}
use Rattle.hv_base.specs.declared.ids.TxnId.{TxnId}
use Rattle.hv_shelf.specs.Disk.{Store}
use Rattle.hv_ast.specs.declared.statement.Stmt.{Stmt}
use Rattle.hv_history.specs.declared.entry.Entry.{Entry}
use Rattle.hv_history.specs.declared.entry.Entry.TheVariants as entry
use Rattle.hv_history.specs.declared.entry.Cause.TheVariants as cause
use Rattle.hv_history.specs.Lasting.{IsFront}
use Rattle.hv_stands.specs.Running.{Asking, IsOf, AreOf, IsWaiting, IsUnderWay}
use Rattle.hv_trail.specs.declared.trail.TrailItem.{TrailItem}
use Rattle.hv_trail.specs.Trail.{book_of}
use Rattle.hv_trail.specs.Own.{IsOf as IsMine}
use Rattle.hv_trail.specs.Steps.{HouseSeen, Call, Note, Begin, Commit, Put, Remove, Publish, Read, Ask, Outcome, Done, Conflict, Failed, Closed, Starved, Refused, MayEnd, Counts, gains, shuts}
use Rattle.hv_trail.proofs.LastingLaws.{book-append, goes-on-front}
use Rattle.hv_actor.specs.Acting.{IsLater, Held, Went, AreRows, among, known}
use Rattle.hv_actor.specs.Rows.{later_itself}
use Rattle.hv_actor.proofs.Weaving.{went-more, later-further}
use Rattle.hv_table_reader.specs.hv_acts.specs.hv_telling.specs.hv_house.specs.declared.fault.HouseFault.{HouseFault}
use Rattle.hv_table_reader.specs.hv_acts.specs.hv_telling.specs.hv_house.specs.declared.fault.HouseFault.TheVariants as fault
use Rattle.hv_table_reader.specs.hv_acts.specs.hv_telling.specs.hv_house.specs.Steps.{fault_outcome}
use Rattle.hv_table_reader.specs.hv_acts.specs.hv_telling.specs.Telling.{IsTold, IsToldHouse}
use Rattle.hv_table_reader.specs.hv_acts.specs.declared.told.ToldHouse.{ToldHouse}
use Rattle.hv_table_reader.specs.hv_acts.specs.declared.fault.ActFault.{ActFault}
use Rattle.hv_table_reader.specs.hv_acts.specs.declared.fault.ActFault.TheVariants as act
use Rattle.hv_table_reader.specs.hv_acts.specs.Told.{IsWholeOrClosed, seen_in, trail_in, told_sight}
use Rattle.hv_table_reader.specs.hv_acts.specs.Answers.{Test, IsWhy, Answers, IsCutShort, FaultLeaves, AnswerLeaves, answer_call, answer_outcome}
use Rattle.hv_table_reader.specs.hv_acts.specs.Laters.{answer-rises}
use Rattle.hv_table_reader.specs.hv_acts.proofs.Mine.{all-mine}
use Rattle.hv_table_reader.proofs.Holds.{open-behind, starved-on, ShutsRisen}
use Rattle.hv_steps.proofs.Books.{all-map as all-as}
use Rattle.hv_steps.specs.Ending.{KeepsCount}
use Rattle.hv_table_reader.specs.hv_acts.specs.Meant.{IsNoEnd}
use Rattle.hv_steps.specs.declared.ready.Way.{Way}
use Rattle.hv_steps.specs.Going.{faults_in, IsOpenHouse, IsShutHouse, AddsOwn, Gains, IsShutBetween, IsShutNow, HaltsFor, Halts, Goes, WasSo, WasOnWay, HasWaited, WasOpened, IsGone}
use Rattle.hv_steps.specs.Leaving.{IsLeftBy, IsLeft, EndsAct}

-- ---- fronts

pub front-itself : {A : Type 0} (a : List A) → IsFront a a
front-itself a = record { more = []; is = sym (append-nil a) }

pub front-more : {A : Type 0} (a b c : List A) → IsFront a b → IsFront b c → IsFront a c
front-more a b c f g = record { more = f.more ++ g.more; is = g.is ∙ ap (λ xs. xs ++ g.more) f.is ∙ append_assoc a f.more g.more }

pub front-went : (B : List TrailItem → Type 0) (gained : List TrailItem) (own own' : List ℕ) (before now : List TrailItem) → Went B gained own own' before now → IsFront before now
front-went B gained own own' before now went = record { more = went.added; is = went.seen }

pub book-front : (before now : List TrailItem) (front : IsFront before now) → book_of now ≡ book_of before ++ book_of front.more
book-front before now front = ap book_of front.is ∙ book-append before front.more

-- ---- what was so

pub so-lasts : (Is : List Entry → Type 0) (before now : List TrailItem) → IsFront before now → WasSo before Is → WasSo now Is
so-lasts Is before now front so = record { then_ = so.then_; front = front-more so.then_ before now so.front front; was = so.was }

-- it is so now
pub so-now : (Is : List Entry → Type 0) (trail : List TrailItem) → Is (book_of trail) → WasSo trail Is
so-now Is trail is = record { then_ = trail; front = front-itself trail; was = is }

pub way-lasts : (asking : Asking) (way : Way) (said : Stmt) (before now : List TrailItem) → IsFront before now → WasOnWay before asking way said → WasOnWay now asking way said
way-lasts asking way said before now front so = so-lasts (λ (book : List Entry). IsUnderWay book asking way.txn.0 way.place said []) before now front so

pub waited-lasts : (asking : Asking) (txn : ℕ) (said : Stmt) (before now : List TrailItem) → IsFront before now → HasWaited before asking txn said → HasWaited now asking txn said
waited-lasts asking txn said before now front so = so-lasts (λ (book : List Entry). IsWaiting book asking txn said) before now front so

pub opened-lasts : (txn : ℕ) (before now : List TrailItem) → IsFront before now → WasOpened before txn → WasOpened now txn
opened-lasts txn before now front was = (was.0, was.1, by was.2)
  where
    by : HasWaited before was.0 txn was.1 ⊎ ((place : ℕ) × WasSo before (λ book. IsUnderWay book was.0 txn place was.1 []))
        → HasWaited now was.0 txn was.1 ⊎ ((place : ℕ) × WasSo now (λ book. IsUnderWay book was.0 txn place was.1 []))
    by (inl waited) = inl (waited-lasts was.0 txn was.1 before now front waited)
    by (inr under) = inr (under.0, so-lasts (λ (book : List Entry). IsUnderWay book was.0 txn under.0 was.1 []) before now front under.1)

-- a statement on its way was opened
pub on-way-opened : (trail : List TrailItem) (asking : Asking) (way : Way) (said : Stmt) → WasOnWay trail asking way said → WasOpened trail way.txn.0
on-way-opened trail asking way said was = (asking, said, inr (way.place, was))

-- ---- a step

-- a call that was refused, or whose journal failed, adds nothing
pub gains-closed : (call : Call) → gains call Closed ≡ []
gains-closed (Note event) = refl
gains-closed (Begin txn session number text) = refl
gains-closed (Commit txn wrote) = refl
gains-closed (Put by place bytes) = refl
gains-closed (Remove by dir) = refl
gains-closed (Publish renames event) = refl
gains-closed (Read by) = refl
gains-closed Ask = refl

pub gains-refused : (call : Call) → gains call Refused ≡ []
gains-refused (Note event) = refl
gains-refused (Begin txn session number text) = refl
gains-refused (Commit txn wrote) = refl
gains-refused (Put by place bytes) = refl
gains-refused (Remove by dir) = refl
gains-refused (Publish renames event) = refl
gains-refused (Read by) = refl
gains-refused Ask = refl

stays : (before now gained : List TrailItem) → now ≡ before ++ gained → gained ≡ [] → now ≡ before
stays before now gained adds none = adds ∙ ap (λ xs. before ++ xs) none ∙ append-nil before

-- where a call on files failed, its step says that the store's count rose, or stands at its last value: that it didn't fall is said beside
abbrev pub RisesBy : Outcome → ℕ → ℕ → Type 0
RisesBy (Failed count) before now = before ≤ now
RisesBy outcome before now = Unit {0}

count-on : (outcome : Outcome) (before now : ℕ) → Counts outcome before now → RisesBy outcome before now → before ≤ now
count-on Done before now counts rises = counts
count-on (Conflict by table partition) before now counts rises = counts
count-on (Failed count) before now counts rises = rises
count-on Closed before now counts rises = counts
count-on Starved before now counts rises = counts
count-on Refused before now counts rises = counts

-- no call on files failed
pub ends-rise : {T : Type 0} (result : Result T ActFault) (before now : ℕ) → IfErr result EndsAct → RisesBy (answer_outcome result) before now
ends-rise (Ok x) before now ends = tt
ends-rise (Err (act.Ended at)) before now ends = tt
ends-rise (Err (act.Full entries)) before now ends = tt
ends-rise (Err (act.Held by)) before now ends = tt
ends-rise (Err (act.Broken put count)) before now ends = tt
ends-rise (Err act.Unfit) before now ends = tt
ends-rise (Err (act.House fault.Store)) before now ends = tt
ends-rise (Err (act.House fault.NoMemory)) before now ends = tt
ends-rise (Err (act.House (fault.Failed count))) before now ends = absurd ends

pub note-ends : {T : Type 0} (event : Entry) (result : Result T ActFault) → MayEnd (answer_call (Note event) result) (answer_outcome result) → IfErr result EndsAct
note-ends event (Ok x) may = tt
note-ends event (Err (act.Ended at)) may = tt
note-ends event (Err (act.Full entries)) may = tt
note-ends event (Err (act.Held by)) may = tt
note-ends event (Err (act.Broken put count)) may = tt
note-ends event (Err act.Unfit) may = tt
note-ends event (Err (act.House fault.Store)) may = tt
note-ends event (Err (act.House fault.NoMemory)) may = tt
note-ends event (Err (act.House (fault.Failed count))) may = may

-- ---- one act

-- the refusal names the entry that ended its transaction
abbrev pub NamesEnd : List TrailItem → ℕ → ActFault → Type 0
NamesEnd trail txn (act.Ended at) = IsGone trail txn at
NamesEnd trail txn (act.Full entries) = Unit {0}
NamesEnd trail txn (act.Held by) = Unit {0}
NamesEnd trail txn (act.Broken put count) = Unit {0}
NamesEnd trail txn act.Unfit = Unit {0}
NamesEnd trail txn (act.House why) = Unit {0}

pub why-names : (test : Test) (trail : List TrailItem) (txn : TxnId) (Fact : Type 0) (why : ActFault) → IsWhy test trail txn Fact why → NamesEnd trail txn.0 why
why-names test trail txn Fact (act.Ended at) is = is
why-names test trail txn Fact (act.Full entries) is = tt
why-names test trail txn Fact (act.Held by) is = tt
why-names test trail txn Fact (act.Broken put count) is = tt
why-names test trail txn Fact act.Unfit is = tt
why-names test trail txn Fact (act.House why) is = tt

pub answers-name : {T : Type 0} (test : Test) (trail : List TrailItem) (txn : TxnId) (Fact : Type 0) (is : T → Type 0) (result : Result T ActFault)
    → Answers test trail txn Fact is result → IfErr result (NamesEnd trail txn.0)
answers-name test trail txn Fact is (Ok x) answers = tt
answers-name test trail txn Fact is (Err why) answers = why-names test trail txn Fact why answers

pub answers-why : {T : Type 0} (test : Test) (trail : List TrailItem) (txn : TxnId) (Fact : Type 0) (is : T → Type 0) (result : Result T ActFault)
    → Answers test trail txn Fact is result → IfErr result (IsWhy test trail txn Fact)
answers-why test trail txn Fact is (Ok x) answers = tt
answers-why test trail txn Fact is (Err why) answers = answers

-- its journal failed, and the house had been open
pub record FoundOpen {D : Type 0} (told : D → Option Store) (now : ToldHouse D) (Cut : HouseSeen D → HouseSeen D → Type 0) : Type 0 where
  pub house : ToldHouse D
  pub kept : IsWholeOrClosed told house.house
  pub was : IsOpenHouse house
  pub is : IsShutHouse now
  pub same : trail_in now ≡ trail_in house
  pub cut : Cut (seen_in house) (seen_in now)

module _ {D : Type 0} (told : D → Option Store) (faults : D → ℕ) (meanwhile : ToldHouse D → ToldHouse D → Type 0)
    (goes : (before now : ToldHouse D) → meanwhile before now → IsLater faults (seen_in before) (seen_in now)) (before now : ToldHouse D) where
  -- the house that was found goes on from the one that was left
  pub reached-front : meanwhile before now → IsFront (trail_in before) (trail_in now)
  reached-front reached = let later = goes before now reached in record { more = later.added; is = later.trail }

  pub held-front : (call : HouseSeen D → Call) (outcome : Outcome) (does : HouseSeen D → HouseSeen D → Type 0)
      (held : Held (told_sight told faults) meanwhile before now call outcome does) → IsFront (trail_in before) (trail_in held.house)
  held-front call outcome does held = let later = goes before held.house held.reached in record { more = later.added; is = later.trail }

  pub found-told : (house : ToldHouse D) → meanwhile before house → IsTold told house.house.start.value → IsToldHouse told before.house
  found-told house reached is = let later = goes before house reached in subst (IsTold told) later.rest.start is

  -- and so does what it is then
  pub held-later : (call : HouseSeen D → Call) (outcome : Outcome) (does : HouseSeen D → HouseSeen D → Type 0)
      (held : Held (told_sight told faults) meanwhile before now call outcome does) → RisesBy outcome (faults_in faults held.house) (faults_in faults now)
      → ShutsRisen faults (seen_in held.house) (seen_in now) → IsLater faults (seen_in before) (seen_in now)
  held-later call outcome does held rises shut_so =
      later-further faults (seen_in before) (seen_in held.house) (seen_in now) (goes before held.house held.reached) (record {
        added = gains (call (seen_in held.house)) outcome;
        trail = held.step.trail;
        rest = held.step.rest;
        count = count-on outcome (faults_in faults held.house) (faults_in faults now) held.step.counts rises;
        closed = λ shut. held.step.closed ∙ ap (λ (b : Bool). b || shuts outcome) shut;
        starved = starved-on outcome (seen_in held.house).starved (seen_in now).starved held.step.starved;
        rises = λ was is fed. shut_so was is;
      })

  -- what it added is its own
  pub held-adds : {by : ℕ} (B : List TrailItem → Type 0) (call : HouseSeen D → Call) (outcome : Outcome) (does : HouseSeen D → HouseSeen D → Type 0)
      (adds : List TrailItem) (added : List Entry) (own own' : List ℕ) (held : Held (told_sight told faults) meanwhile before now call outcome does)
      → Went B adds own own' (trail_in before) (trail_in now) → book_of adds ≡ added
      → RisesBy outcome (faults_in faults held.house) (faults_in faults now) → ShutsRisen faults (seen_in held.house) (seen_in now)
      → AllByRecursion (IsMine by) adds → AddsOwn faults B by (known own before) (known own' now) added
  held-adds B call outcome does adds added own own' held went entries rises shut_so mine =
      let later = held-later call outcome does held rises shut_so in
      record { items = adds; went = went; entries = entries; mine = mine; later = later }

  -- where an act shut the house, its store's count rose
  pub act-risen : {T : Type 0} (call : HouseSeen D → Call) (result : Result T ActFault) (does : HouseSeen D → HouseSeen D → Type 0) (txn : ℕ)
      (held : Held (told_sight told faults) meanwhile before now call (answer_outcome result) does)
      → AnswerLeaves told faults txn (seen_in held.house) (seen_in now) result
      → ShutsRisen faults (seen_in held.house) (seen_in now)
  act-risen call result does txn held leaves = answer-rises told faults txn result (seen_in held.house) (seen_in now) leaves held.step.closed

  -- ---- whether the house is open behind it

  pub shut-found : (call : HouseSeen D → Call) (does Cut : HouseSeen D → HouseSeen D → Type 0)
      (held : Held (told_sight told faults) meanwhile before now call Closed does)
      → IsOpenHouse before → (IsOpenHouse held.house → Cut (seen_in held.house) (seen_in now)) → IsShutBetween meanwhile ⊎ FoundOpen told now Cut
  shut-found call does Cut held running cut = by held.house.house.trail.closed refl
    where
      by : (b : Bool) → held.house.house.trail.closed ≡ b → IsShutBetween meanwhile ⊎ FoundOpen told now Cut
      by true e = inl (record { left = before; found = held.house; reached = held.reached; was = running; is = e })
      by false e = inr (record {
        house = held.house;
        kept = held.kept;
        was = e;
        is = (held.step.closed ∙ ap (λ (b : Bool). b || true) e, held.step.starved ∙ (held.kept.whole e).ready.kept.fed);
        same = stays (trail_in held.house) (trail_in now) (gains (call (seen_in held.house)) Closed) held.step.trail (gains-closed (call (seen_in held.house)));
        cut = cut e;
      })

  shut-now : (txn : ℕ) → IsShutBetween meanwhile ⊎ FoundOpen told now (IsCutShort told txn) → IsShutBetween meanwhile ⊎ IsShutNow told txn now
  shut-now txn (inl shut) = inl shut
  shut-now txn (inr found) = inr (record { house = found.house; kept = found.kept; was = found.was; is = found.is; same = found.same; cut = found.cut })

  fault-left : (call : HouseSeen D → Call) (why : HouseFault) (does : HouseSeen D → HouseSeen D → Type 0) (txn : ℕ)
      (held : Held (told_sight told faults) meanwhile before now call (fault_outcome why) does)
      → IsOpenHouse before → FaultLeaves told faults txn (seen_in held.house) (seen_in now) why → IsLeftBy told meanwhile txn now why
  fault-left call fault.Store does txn held running leaves = shut-now txn (shut-found call does (IsCutShort told txn) held running (λ open_. (leaves open_).0))
  fault-left call fault.NoMemory does txn held running leaves =
      open-behind Refused held.house.house.trail.closed now.house.trail.closed held.step.closed leaves refl
  fault-left call (fault.Failed count) does txn held running leaves =
      open-behind (Failed count) held.house.house.trail.closed now.house.trail.closed held.step.closed leaves refl

  -- a test refused it
  pub refused-same : (call : HouseSeen D → Call) (does : HouseSeen D → HouseSeen D → Type 0)
      (held : Held (told_sight told faults) meanwhile before now call Refused does)
      → trail_in now ≡ trail_in held.house
  refused-same call does held =
      stays (trail_in held.house) (trail_in now) (gains (call (seen_in held.house)) Refused) held.step.trail (gains-refused (call (seen_in held.house)))

  pub test-left : (call : HouseSeen D → Call) (does : HouseSeen D → HouseSeen D → Type 0)
      (held : Held (told_sight told faults) meanwhile before now call Refused does)
      → IsOpenHouse held.house → IsOpenHouse now × (trail_in now ≡ trail_in held.house)
  test-left call does held running = (
    open-behind Refused held.house.house.trail.closed now.house.trail.closed held.step.closed running refl,
    refused-same call does held,
  )

  -- why it was refused is so still
  pub why-now : {T : Type 0} (test : Test) (txn : TxnId) (Fact : List TrailItem → Type 0) (call : HouseSeen D → Call) (result : Result T ActFault)
      (does : HouseSeen D → HouseSeen D → Type 0) (held : Held (told_sight told faults) meanwhile before now call (answer_outcome result) does)
      → IfErr result (IsWhy test (trail_in held.house) txn (Fact (trail_in held.house))) → IfErr result (IsWhy test (trail_in now) txn (Fact (trail_in now)))
  why-now test txn Fact call (Ok x) does held why = tt
  why-now test txn Fact call (Err (act.Ended at)) does held why =
      subst (λ (trail : List TrailItem). IsWhy test trail txn (Fact trail) (act.Ended at)) (sym (refused-same call does held)) why
  why-now test txn Fact call (Err (act.Full entries)) does held why =
      subst (λ (trail : List TrailItem). IsWhy test trail txn (Fact trail) (act.Full entries)) (sym (refused-same call does held)) why
  why-now test txn Fact call (Err (act.Held by)) does held why =
      subst (λ (trail : List TrailItem). IsWhy test trail txn (Fact trail) (act.Held by)) (sym (refused-same call does held)) why
  why-now test txn Fact call (Err (act.Broken put count)) does held why =
      subst (λ (trail : List TrailItem). IsWhy test trail txn (Fact trail) (act.Broken put count)) (sym (refused-same call does held)) why
  why-now test txn Fact call (Err act.Unfit) does held why =
      subst (λ (trail : List TrailItem). IsWhy test trail txn (Fact trail) act.Unfit) (sym (refused-same call does held)) why
  why-now test txn Fact call (Err (act.House fault)) does held why = tt

  pub act-left : {T : Type 0} (call : HouseSeen D → Call) (result : Result T ActFault) (does : HouseSeen D → HouseSeen D → Type 0) (txn : ℕ)
      (held : Held (told_sight told faults) meanwhile before now call (answer_outcome result) does)
      → IsOpenHouse before → IfErr result (NamesEnd (trail_in held.house) txn) → AnswerLeaves told faults txn (seen_in held.house) (seen_in now) result
      → IsLeft told meanwhile txn now result
  act-left call (Ok x) does txn held running names leaves =
      open-behind Done held.house.house.trail.closed now.house.trail.closed held.step.closed leaves refl
  act-left call (Err (act.Ended at)) does txn held running names leaves =
      let left = test-left call does held leaves in
      (left.0, subst (λ (trail : List TrailItem). IsGone trail txn at) (sym left.1) names)
  act-left call (Err (act.Full entries)) does txn held running names leaves = (test-left call does held leaves).0
  act-left call (Err (act.Held by)) does txn held running names leaves = (test-left call does held leaves).0
  act-left call (Err (act.Broken put count)) does txn held running names leaves = (test-left call does held leaves).0
  act-left call (Err act.Unfit) does txn held running names leaves = (test-left call does held leaves).0
  act-left call (Err (act.House why)) does txn held running names leaves = fault-left call why does txn held running leaves

-- ---- entries of one transaction

pub all-more : {A : Type 0} (P : A → Type 0) (xs ys : List A) → AllByRecursion P xs → AllByRecursion P ys → AllByRecursion P (xs ++ ys)
all-more P [] ys all more = more
all-more P (x ∷ xs) ys all more = (all.0, all-more P xs ys all.1 more)

-- a count that was risen to within this is so within more
pub counts-within : (low high low' high' : ℕ) → low' ≤ low → high ≤ high' → (event : Entry) → KeepsCount low high event → KeepsCount low' high' event
counts-within low high low' high' down up (entry.Abort txn (cause.ReadFault count)) kept = (omega (arith, down, kept.0), le_trans kept.1 up)
counts-within low high low' high' down up (entry.Abort txn (cause.WriteFault count)) kept = (omega (arith, down, kept.0), le_trans kept.1 up)
counts-within low high low' high' down up event kept = tt

pub unended-counts : (txn low high : ℕ) (event : Entry) → IsNoEnd txn event → KeepsCount low high event
unended-counts txn low high (entry.Abort other (cause.Request by)) unended = tt
unended-counts txn low high (entry.Abort other why) unended = absurd unended
unended-counts txn low high event unended = tt

-- ---- parts, one behind the other

module _ {D : Type 0} (faults : D → ℕ) (B : List TrailItem → Type 0) (rows : AreRows B) where
  -- where nothing was done
  pub adds-none : {by : ℕ} (own : List ℕ) (house : ToldHouse D) → AddsOwn faults B by (known own house) (known own house) []
  adds-none own house =
      let trail = trail_in house in
      record {
        items = [];
        went = record {
          placed = [];
          items = refl;
          places = sym (append-nil own);
          added = [];
          seen = sym (append-nil trail);
          woven = rows.none;
          goes_on = goes-on-front trail trail (front-itself trail);
        };
        entries = refl;
        mine = tt;
        later = later_itself faults (seen_in house);
      }

  pub adds-more : {by : ℕ} (own own' own'' : List ℕ) (a b c : ToldHouse D) (first more : List Entry) → AddsOwn faults B by (known own a) (known own' b) first
      → AddsOwn faults B by (known own' b) (known own'' c) more
      → AddsOwn faults B by (known own a) (known own'' c) (first ++ more)
  adds-more {by = by} own own' own'' a b c first more v w = record {
    items = v.items ++ w.items;
    went = went-more B rows v.items w.items own own' own'' (trail_in a) (trail_in b) (trail_in c) v.went w.went;
    entries = book-append v.items w.items ∙ ap (λ (xs : List Entry). xs ++ book_of w.items) v.entries ∙ ap (λ (xs : List Entry). first ++ xs) w.entries;
    mine = all-mine by v.items w.items v.mine w.mine;
    later = later-further faults (seen_in a) (seen_in b) (seen_in c) v.later w.later;
  }

  pub adds-front : {by : ℕ} (own own' : List ℕ) (a b : ToldHouse D) (added : List Entry) → AddsOwn faults B by (known own a) (known own' b) added
      → IsFront (trail_in a) (trail_in b)
  adds-front own own' a b added v = record { more = v.went.added; is = v.went.seen }

  -- what the house was opened over tells as before
  pub told-later : {by : ℕ} (told : D → Option Store) (own own' : List ℕ) (a b : ToldHouse D) (added : List Entry)
      → AddsOwn faults B by (known own a) (known own' b) added
      → IsToldHouse told a.house → IsToldHouse told b.house
  told-later told own own' a b added v is = subst (IsTold told) (sym v.later.rest.start) is

  pub told-earlier : {by : ℕ} (told : D → Option Store) (own own' : List ℕ) (a b : ToldHouse D) (added : List Entry)
      → AddsOwn faults B by (known own a) (known own' b) added
      → IsToldHouse told b.house → IsToldHouse told a.house
  told-earlier told own own' a b added v is = subst (IsTold told) v.later.rest.start is

  -- a part that is done, behind acts whose entries end nothing
  pub gains-behind : (low low' txn : ℕ) (own own' own'' : List ℕ) (a b c : ToldHouse D) (first : List Entry) (Is Js : List Entry → Type 0) → low ≤ low'
      → AddsOwn faults B txn (known own a) (known own' b) first → AreOf txn first → AllByRecursion (IsNoEnd txn) first
      → ((more : List Entry) → Is more → Js (first ++ more))
      → Gains faults B low' txn (known own' b) (known own'' c) Is → Gains faults B low txn (known own a) (known own'' c) Js
  gains-behind low low' txn own own' own'' a b c first Is Js down v of_it unended f w = record {
    added = first ++ w.added;
    adds = adds-more own own' own'' a b c first w.added v w.adds;
    of_it = all-more (IsOf txn) first w.added of_it w.of_it;
    counts =
        let high : ℕ = faults_in faults c in
        all-more (KeepsCount low high) first w.added
        (all-as (IsNoEnd txn) (KeepsCount low high) (unended-counts txn low high) first unended)
        (all-as (KeepsCount low' high) (KeepsCount low high) (counts-within low' high low high down (omega arith)) w.added w.counts);
    is = f w.added w.is;
    running = w.running;
  }

  -- the same, said in another way
  pub gains-as : (low txn : ℕ) (own own' : List ℕ) (a b : ToldHouse D) (Is Js : List Entry → Type 0) → ((added : List Entry) → Is added → Js added)
      → Gains faults B low txn (known own a) (known own' b) Is → Gains faults B low txn (known own a) (known own' b) Js
  gains-as low txn own own' a b Is Js f w =
      record { added = w.added; adds = w.adds; of_it = w.of_it; counts = w.counts; is = f w.added w.is; running = w.running }

  module _ (told : D → Option Store) (meanwhile : ToldHouse D → ToldHouse D → Type 0) where
    -- the run stops behind such acts
    pub halts-behind : (txn : ℕ) (own own' own'' : List ℕ) (a b c : ToldHouse D) (first : List Entry) (why : HouseFault)
        → AddsOwn faults B txn (known own a) (known own' b) first → AreOf txn first → AllByRecursion (IsNoEnd txn) first
        → Halts (among told faults B meanwhile) txn (known own' b) (known own'' c) why
        → Halts (among told faults B meanwhile) txn (known own a) (known own'' c) why
    halts-behind txn own own' own'' a b c first why v of_it unended w = record {
      added = first ++ w.added;
      adds = adds-more own own' own'' a b c first w.added v w.adds;
      of_it = all-more (IsOf txn) first w.added of_it w.of_it;
      unended = all-more (IsNoEnd txn) first w.added unended w.unended;
      halts = w.halts;
    }

    -- it stops behind an act that added nothing
    pub halts-none : (txn : ℕ) (own own' : List ℕ) (a b : ToldHouse D) (why : HouseFault) → AddsOwn faults B txn (known own a) (known own' b) []
        → HaltsFor told meanwhile txn b why
        → Halts (among told faults B meanwhile) txn (known own a) (known own' b) why
    halts-none txn own own' a b why v halts = record { added = []; adds = v; of_it = tt; unended = tt; halts = halts }

    -- it stops for this fault, which is none of files
    pub halts-for : (txn : ℕ) (now : ToldHouse D) (why : HouseFault) → EndsAct (act.House why) → IsLeftBy told meanwhile txn now why → HaltsFor told meanwhile txn now why
    halts-for txn now fault.Store ends left = left
    halts-for txn now fault.NoMemory ends left = left
    halts-for txn now (fault.Failed count) ends left = ends

    pub goes-behind : {T : Type 0} (low low' txn : ℕ) (own own' own'' : List ℕ) (a b c : ToldHouse D) (first : List Entry) (Is Js : T → List Entry → Type 0)
        (result : Result T HouseFault) → low ≤ low' → AddsOwn faults B txn (known own a) (known own' b) first → AreOf txn first
        → AllByRecursion (IsNoEnd txn) first
        → ((x : T) (more : List Entry) → Is x more → Js x (first ++ more))
        → Goes (among told faults B meanwhile) low' txn (known own' b) (known own'' c) Is result
        → Goes (among told faults B meanwhile) low txn (known own a) (known own'' c) Js result
    goes-behind low low' txn own own' own'' a b c first Is Js (Ok x) down v of_it unended f goes = record {
      done = gains-behind low low' txn own own' own'' a b c first (Is x) (Js x) down v of_it unended (f x) goes.done;
      halted = tt;
    }
    goes-behind low low' txn own own' own'' a b c first Is Js (Err why) down v of_it unended f goes = record {
      done = tt;
      halted = halts-behind txn own own' own'' a b c first why v of_it unended goes.halted;
    }

    -- behind an act that added nothing, and said in another way
    pub goes-on : {T : Type 0} (low low' txn : ℕ) (own own' own'' : List ℕ) (a b c : ToldHouse D) (Is Js : T → List Entry → Type 0)
        (result : Result T HouseFault) → low ≤ low' → AddsOwn faults B txn (known own a) (known own' b) []
        → ((x : T) (more : List Entry) → Is x more → Js x more)
        → Goes (among told faults B meanwhile) low' txn (known own' b) (known own'' c) Is result
        → Goes (among told faults B meanwhile) low txn (known own a) (known own'' c) Js result
    goes-on low low' txn own own' own'' a b c Is Js result down v f goes =
        goes-behind low low' txn own own' own'' a b c [] Is Js result down v tt tt f goes
