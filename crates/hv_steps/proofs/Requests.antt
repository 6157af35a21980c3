-- The act that asks for the abort of another transaction: what it leaves; and any number of them, one behind the other.
use Rattle.std.proofs.Common.{◌≡◌, ℕ, ◌≤◌, ◌==◌, ◌&&◌, Bool, true, false, not, Option, List, [], ◌∷◌, ◌++◌, length, take, Ok, Err, Result, eq-eqb, refl, sym, ap, ◌∙◌, subst, append-nil, arith}
use Rattle.std.specs.Prelude.{IfOk, IfErr, nat_lt}
use Rattle.std.specs.List.{AllByRecursion}
use Rattle.std.proofs.lemmas.List.{length-append}
use Rattle.hv_base.specs.declared.ids.TxnId.{TxnId}
use Rattle.hv_shelf.specs.Disk.{Store}
use Rattle.hv_history.specs.declared.entry.Entry.{Entry}
use Rattle.hv_history.specs.Asking.{is_there_open, is_asked}
use Rattle.hv_history.specs.Lasting.{IsFront}
use Rattle.hv_history.specs.State.{state_of, numbered}
use Rattle.hv_history.proofs.AskingLaws.{asked-passed, first-left}
use Rattle.hv_trail.specs.declared.trail.TrailItem.{TrailItem}
use Rattle.hv_trail.specs.declared.trail.TrailItem.TheVariants.{Noted}
use Rattle.hv_trail.specs.Trail.{book_of, state_at}
use Rattle.hv_trail.specs.Steps.{HouseSeen, MayEnd}
use Rattle.hv_trail.proofs.LastingLaws.{book-append}
use Rattle.hv_actor.specs.Acting.{IsLater, Went, AreRows, known, Held}
use Rattle.hv_table_reader.specs.hv_acts.specs.declared.told.ToldHouse.{ToldHouse}
use Rattle.hv_table_reader.specs.hv_acts.specs.declared.fault.ActFault.{ActFault}
use Rattle.hv_table_reader.specs.hv_acts.specs.Told.{seen_in, trail_in, told_sight}
use Rattle.hv_table_reader.specs.hv_acts.specs.Answers.{answer_outcome, NoTest, AnswerLeaves}
use Rattle.hv_table_reader.specs.hv_acts.specs.Passing.{opened_then, is_left, HasPassed, AllPassed}
use Rattle.hv_table_reader.specs.hv_acts.specs.Reading.{HasPlace}
use Rattle.hv_table_reader.specs.hv_acts.specs.Requesting.{requested, RestsOnRequest, call_to_request, adds_request, RequestAnswers}
use Rattle.hv_table_reader.specs.hv_acts.proofs.Passed.{passed-now, all-last}
use Rattle.hv_table_reader.specs.hv_acts.proofs.Readings.{place-lasts}
use Rattle.hv_table_reader.specs.hv_acts.proofs.Mine.{request-mine}
use Rattle.hv_steps.specs.declared.ready.Way.{Way}
use Rattle.hv_steps.specs.Going.{faults_in, IsOpenHouse, AddsOwn}
use Rattle.hv_steps.specs.Leaving.{IsLeft, EndsAct}
use Rattle.hv_steps.specs.Ending.{asking_for}
use Rattle.hv_steps.specs.Requests.{IsAskOf, asked_entries, WasLeft, AsksOne, AsksSoFar}
use Rattle.hv_steps.proofs.Joining.{front-itself, front-more, note-ends, NamesEnd, why-names, ends-rise, act-left, act-risen, held-adds, adds-none, adds-more, adds-front, all-more}

-- ---- its answer

pub request-book : (by txn : TxnId) (result : Result Bool ActFault) → book_of (adds_request by txn result) ≡ asked_entries by.0 txn.0 result
request-book by txn (Ok true) = refl
request-book by txn (Ok false) = refl
request-book by txn (Err why) = refl

pub request-ends : (by txn : TxnId) (result : Result Bool ActFault) → MayEnd (call_to_request by txn result) (answer_outcome result) → IfErr result EndsAct
request-ends by txn (Ok true) may = tt
request-ends by txn (Ok false) may = tt
request-ends by txn (Err why) may = note-ends {T = Bool} (requested by txn) (Err why) may

request-names : (trail : List TrailItem) (by : TxnId) (place : ℕ) (txn : TxnId) (result : Result Bool ActFault) → RequestAnswers trail by place txn result
    → IfErr result (NamesEnd trail by.0)
request-names trail by place txn (Ok true) answers = tt
request-names trail by place txn (Ok false) answers = tt
request-names trail by place txn (Err why) answers = why-names NoTest trail by (RestsOnRequest trail by txn) why answers

-- ---- it needs to ask for it no more

-- behind the abort
noted-passed : (at now : List TrailItem) (by txn : TxnId) (place : ℕ) → place ≤ length (book_of at) → now ≡ at ++ Noted (requested by txn) ∷ []
    → is_left now by place txn.0 ≡ false
noted-passed at now by txn place early is =
    let books : book_of now ≡ book_of at ++ requested by txn ∷ [] = ap book_of is ∙ book-append at (Noted (requested by txn) ∷ []) in
    ap (λ (book : List Entry). is_asked (state_of book).transactions by.0 (length (state_of (take place book)).transactions) txn.0) books
    ∙ asked-passed (book_of at) by txn place early

book-longer : (trail : List TrailItem) (item : TrailItem) → length (book_of trail) ≤ length (book_of (trail ++ item ∷ []))
book-longer trail item =
    let whole = ap length (book-append trail (item ∷ [])) in
    let sum = length-append (book_of trail) (book_of (item ∷ [])) in
    omega (arith, whole, sum)

-- ---- the act

module _ {D : Type 0} (told : D → Option Store) (faults : D → ℕ) (meanwhile : ToldHouse D → ToldHouse D → Type 0)
    (goes : (before now : ToldHouse D) → meanwhile before now → IsLater faults (seen_in before) (seen_in now)) (before now : ToldHouse D)
    (way : Way) (number : ℕ) (has : HasPlace (trail_in before) way.place) where
  abbrev txn : TxnId
  txn = record { 0 = number }

  abbrev AskHeld : Result Bool ActFault → Type 0
  AskHeld result =
      Held (told_sight told faults) meanwhile before now (λ (seen : HouseSeen D). call_to_request way.txn txn result) (answer_outcome result)
      (λ (a : HouseSeen D) (b : HouseSeen D). RequestAnswers a.trail way.txn way.place txn result × AnswerLeaves told faults way.txn.0 a b result)

  pub ask-left : (result : Result Bool ActFault) → AskHeld result → IsOpenHouse before → IsLeft told meanwhile way.txn.0 now result
  ask-left result held running =
      act-left told faults meanwhile goes before now (λ (seen : HouseSeen D). call_to_request way.txn txn result) result
      (λ (a : HouseSeen D) (b : HouseSeen D). RequestAnswers a.trail way.txn way.place txn result × AnswerLeaves told faults way.txn.0 a b result) way.txn.0
      held running (request-names (trail_in held.house) way.txn way.place txn result held.does_it.0) held.does_it.1

  pub ask-adds : (B : List TrailItem → Type 0) (own own' : List ℕ) (result : Result Bool ActFault) → AskHeld result
      → Went B (adds_request way.txn txn result) own own' (trail_in before) (trail_in now)
      → AddsOwn faults B way.txn.0 (known own before) (known own' now) (asked_entries way.txn.0 number result)
  ask-adds B own own' result held went =
      held-adds told faults meanwhile goes before now B (λ (seen : HouseSeen D). call_to_request way.txn txn result) (answer_outcome result)
      (λ (a : HouseSeen D) (b : HouseSeen D). RequestAnswers a.trail way.txn way.place txn result × AnswerLeaves told faults way.txn.0 a b result)
      (adds_request way.txn txn result) (asked_entries way.txn.0 number result) own own' held went (request-book way.txn txn result)
      (ends-rise result (faults_in faults held.house) (faults_in faults now) (request-ends way.txn txn result held.step.may))
      (act-risen told faults meanwhile goes before now (λ (seen : HouseSeen D). call_to_request way.txn txn result) result
      (λ (a : HouseSeen D) (b : HouseSeen D). RequestAnswers a.trail way.txn way.place txn result × AnswerLeaves told faults way.txn.0 a b result) way.txn.0 held held.does_it.1)
      (request-mine way.txn txn result)

  early-at : (house : ToldHouse D) → meanwhile before house → way.place ≤ length (book_of (trail_in house))
  early-at house reached =
      let later = goes before house reached in
      place-lasts (trail_in before) (trail_in house) (record { more = later.added; is = later.trail }) way.place has

  pub ask-was : (result : Result Bool ActFault) → AskHeld result
      → AsksOne (trail_in before) (trail_in now) way.txn way.place number (asked_entries way.txn.0 number result)
  ask-was (Ok true) held =
      let later = goes before held.house held.reached in
      let was : WasLeft (trail_in before) (trail_in now) way.txn way.place number =
      record { then_ = trail_in held.house; behind = record { more = later.added; is = later.trail }; noted = held.step.trail; left = held.does_it.0.0 } in
      (record { event_is = refl; was = was }, tt)
  ask-was (Ok false) held = tt
  ask-was (Err why) held = tt

  pub ask-passed : (result : Result Bool ActFault) → AskHeld result → IfOk result (λ _. HasPassed (trail_in now) way.txn way.place number)
  ask-passed (Ok true) held =
      let at : List TrailItem = trail_in held.house in
      let early : way.place ≤ length (book_of at) = early-at held.house held.reached in
      let longer = book-longer at (Noted (requested way.txn txn)) in
      let same : length (book_of (trail_in now)) ≡ length (book_of (at ++ Noted (requested way.txn txn) ∷ [])) = ap (λ (t : List TrailItem). length (book_of t)) held.step.trail in
      record {
        then_ = trail_in now;
        front = front-itself (trail_in now);
        early = omega (arith, early, longer, same);
        passed = noted-passed at (trail_in now) way.txn txn way.place early held.step.trail;
      }
  ask-passed (Ok false) held =
      let at : List TrailItem = trail_in held.house in
      record {
        then_ = at;
        front = record { more = []; is = held.step.trail };
        early = early-at held.house held.reached;
        passed = held.does_it.0;
      }
  ask-passed (Err why) held = tt

-- ---- one that it asks for

and-first : (a b c : Bool) → (a && (b && c)) ≡ true → a ≡ true
and-first true b c h = refl
and-first false b c h = cc

unlike : (a b : ℕ) → not (a == b) ≡ true → a ≡ b → ⊥
unlike a b h e = by (a == b) (ap (λ (n : ℕ). a == n) (sym e) ∙ eq-eqb a a refl) h
  where
    by : (c : Bool) → c ≡ true → not c ≡ true → ⊥
    by true is g = cc
    by false is g = cc

all-now : (trail : List TrailItem) (txn : TxnId) (place : ℕ) (numbers : List ℕ) → AllPassed trail txn place numbers
    → AllByRecursion (λ (n : ℕ). is_asked (state_at trail).transactions txn.0 (opened_then trail place) n ≡ false) numbers
all-now trail txn place [] passed = tt
all-now trail txn place (n ∷ numbers) passed = (passed-now trail txn place n passed.0, all-now trail txn place numbers passed.1)

-- where those before it have passed it is the first
was-first : (before now : List TrailItem) (way : Way) (number : ℕ) (done more : List ℕ) → AllPassed before way.txn way.place done → WasLeft before now way.txn way.place number
    → IsAskOf now way.txn.0 way.place (done ++ number ∷ more) (asking_for way.txn.0 number)
was-first before now way number done more passed was =
    let at = was.then_ in
    let there = all-now at way.txn way.place done (all-last before at was.behind way.txn way.place done passed) in
    record {
      other = number;
      event_is = refl;
      apart = unlike number way.txn.0
          (and-first (not (number == way.txn.0)) (not (nat_lt (opened_then at way.place) number)) (is_there_open (numbered (state_at at).transactions number)) was.left);
      then_ = at;
      front = record { more = []; is = was.noted ∙ sym (append-nil (at ++ Noted (asking_for way.txn.0 number) ∷ [])) };
      first = first-left (state_at at).transactions way.txn.0 (opened_then at way.place) done number more there was.left;
    }

-- it was so, whatever follows
pub ask-lasts : (before now : List TrailItem) (front : IsFront before now) (txn place : ℕ) (numbers : List ℕ) (event : Entry) → IsAskOf before txn place numbers event
    → IsAskOf now txn place numbers event
ask-lasts before now front txn place numbers event is = record {
  other = is.other;
  event_is = is.event_is;
  apart = is.apart;
  then_ = is.then_;
  front = front-more (is.then_ ++ Noted event ∷ []) before now is.front front;
  first = is.first;
}

pub asks-last : (before now : List TrailItem) (front : IsFront before now) (txn place : ℕ) (numbers : List ℕ) (added : List Entry)
    → AllByRecursion (IsAskOf before txn place numbers) added → AllByRecursion (IsAskOf now txn place numbers) added
asks-last before now front txn place numbers [] asks = tt
asks-last before now front txn place numbers (event ∷ added) asks =
    (ask-lasts before now front txn place numbers event asks.0, asks-last before now front txn place numbers added asks.1)

-- what one act asked for
one-asked : (before now : List TrailItem) (way : Way) (number : ℕ) (done more : List ℕ) → AllPassed before way.txn way.place done → (first : List Entry)
    → AsksOne before now way.txn way.place number first → AllByRecursion (IsAskOf now way.txn.0 way.place (done ++ number ∷ more)) first
one-asked before now way number done more passed [] one = tt
one-asked before now way number done more passed (event ∷ first) one = (
  subst (IsAskOf now way.txn.0 way.place (done ++ number ∷ more)) (sym one.0.event_is) (was-first before now way number done more passed one.0.was),
  one-asked before now way number done more passed first one.1,
)

-- ---- any number of them

module _ {D : Type 0} (faults : D → ℕ) (B : List TrailItem → Type 0) (rows : AreRows B) where
  pub asks-none : (own : List ℕ) (house : ToldHouse D) (way : Way) (numbers : List ℕ) → AsksSoFar faults B (known own house) (known own house) way numbers
  asks-none own house way numbers = record { added = []; adds = adds-none faults B rows own house; asks = tt }

  -- one more, of those behind which all have passed
  pub asks-more : (own own' own'' : List ℕ) (a b c : ToldHouse D) (way : Way) (number : ℕ) (done more numbers : List ℕ) (first : List Entry) → done ++ number ∷ more ≡ numbers
      → AsksSoFar faults B (known own a) (known own' b) way numbers → AllPassed (trail_in b) way.txn way.place done
      → AddsOwn faults B way.txn.0 (known own' b) (known own'' c) first → AsksOne (trail_in b) (trail_in c) way.txn way.place number first
      → AsksSoFar faults B (known own a) (known own'' c) way numbers
  asks-more own own' own'' a b c way number done more numbers first whole so passed adds one = record {
    added = so.added ++ first;
    adds = adds-more faults B rows own own' own'' a b c so.added first so.adds adds;
    asks = all-more (IsAskOf (trail_in c) way.txn.0 way.place numbers) so.added first
        (asks-last (trail_in b) (trail_in c) (adds-front faults B rows own' own'' b c first adds) way.txn.0 way.place numbers so.added so.asks)
        (subst (λ (ns : List ℕ). AllByRecursion (IsAskOf (trail_in c) way.txn.0 way.place ns) first) whole
        (one-asked (trail_in b) (trail_in c) way number done more passed first one));
  }

  -- one more that added nothing, since it was refused
  pub asks-refused : (own own' own'' : List ℕ) (a b c : ToldHouse D) (way : Way) (numbers : List ℕ)
      → AsksSoFar faults B (known own a) (known own' b) way numbers
      → AddsOwn faults B way.txn.0 (known own' b) (known own'' c) [] → AsksSoFar faults B (known own a) (known own'' c) way numbers
  asks-refused own own' own'' a b c way numbers so adds = record {
    added = so.added ++ [];
    adds = adds-more faults B rows own own' own'' a b c so.added [] so.adds adds;
    asks = all-more (IsAskOf (trail_in c) way.txn.0 way.place numbers) so.added []
        (asks-last (trail_in b) (trail_in c) (adds-front faults B rows own' own'' b c [] adds) way.txn.0 way.place numbers so.added so.asks) tt;
  }

  -- and one more has passed
  pub passed-more : (own' own'' : List ℕ) (b c : ToldHouse D) (way : Way) (number : ℕ) (done : List ℕ) (added : List Entry) → AllPassed (trail_in b) way.txn way.place done
      → AddsOwn faults B way.txn.0 (known own' b) (known own'' c) added → HasPassed (trail_in c) way.txn way.place number
      → AllPassed (trail_in c) way.txn way.place (done ++ number ∷ [])
  passed-more own' own'' b c way number done added passed adds last =
      all-more (HasPassed (trail_in c) way.txn way.place) done (number ∷ [])
      (all-last (trail_in b) (trail_in c) (adds-front faults B rows own' own'' b c added adds) way.txn way.place done passed) (last, tt)
