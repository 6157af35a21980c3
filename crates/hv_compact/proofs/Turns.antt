-- Turn by turn an initiator asks for what is due.
use Rattle.std.proofs.Common.{◌≡◌, ◌≤◌, ◌+◌, ℕ, Option, Some, None, List, [], ◌∷◌, ◌++◌, length, take, Result, Ok, Err, refl, sym, ap, ◌∙◌, subst, append-nil, append_assoc, arith}
use Rattle.std.specs.Prelude.{IfOk, IfErr}
use Rattle.std.proofs.lemmas.List.{length-append}
use Rattle.hv_base.specs.declared.ids.JobId.{JobId}
use Rattle.hv_shelf.specs.Disk.{Store}
use Rattle.hv_history.specs.declared.entry.Entry.{Entry}
use Rattle.hv_history.specs.declared.entry.JobKind.{JobKind}
use Rattle.hv_history.specs.State.{state_of}
use Rattle.hv_history.specs.Jobs.{due}
use Rattle.hv_history.specs.Lasting.{IsFront}
use Rattle.hv_history.specs.Legal.{profile}
use Rattle.hv_trail.specs.declared.trail.TrailItem.{TrailItem}
use Rattle.hv_trail.specs.declared.trail.TrailItem.TheVariants.{Noted}
use Rattle.hv_trail.specs.Trail.{book_of}
use Rattle.hv_trail.specs.Steps.{HouseSeen, Call, Note, Ask}
use Rattle.hv_actor.specs.Acting.{IsLater, Went, Moment, AreRows, among}
use Rattle.hv_job_acts.specs.hv_acts.specs.declared.told.ToldHouse.{ToldHouse}
use Rattle.hv_job_acts.specs.hv_acts.specs.Told.{seen_in, trail_in, book_in}
use Rattle.hv_job_acts.specs.hv_acts.specs.hv_telling.specs.hv_house.specs.Calls.{LacksRoom}
use Rattle.hv_job_acts.specs.hv_acts.specs.Going.{IsOpenHouse}
use Rattle.hv_job_acts.specs.hv_acts.specs.hv_telling.specs.hv_house.specs.declared.fault.HouseFault.TheVariants as house_fault
use Rattle.hv_job_acts.specs.hv_job_calls.specs.declared.fault.JobFault.TheVariants as fault
use Rattle.hv_job_acts.specs.declared.asking.PartAt.{PartAt}
use Rattle.hv_job_acts.specs.declared.noting.AskedJob.{AskedJob}
use Rattle.hv_job_acts.specs.declared.fault.JobActFault.{JobActFault}
use Rattle.hv_job_acts.specs.declared.fault.JobActFault.TheVariants as act
use Rattle.hv_job_acts.specs.Answers.{act_call}
use Rattle.hv_job_acts.specs.Asking.{asked_entry, asked_kind, asked_due, call_to_ask, adds_found, FailsSo, DuesSo}
use Rattle.hv_job_acts.specs.Questions.{AnswersSo, IsLack}
use Rattle.hv_job_acts.specs.Work.{parts_in}
use Rattle.hv_job_acts.specs.Going.{AddsItems}
use Rattle.hv_compact.specs.declared.fault.RunFault.{RunFault}
use Rattle.hv_compact.specs.Stopping.{act_run, IsAsking, IsFullFor, RunsOut}
use Rattle.hv_compact.specs.Initiating.{asks_kind, asks_for, AreTurns, AsksPart, AsksSome, AsksLess, count_of, Initiates, InitiatesLess}
use Rattle.hv_compact.proofs.Adds.{front-more, front-itself, front-added, adds-none, adds-more, adds-front, adds-as}
use Rattle.hv_compact.proofs.Held.{HeldOf, reached-front, held-as, adds-of, done-open, done-answers, refused-runs}

-- ---- turns, one behind the other

turns-later : (before from : List TrailItem) (parts : List PartAt) (items to : List TrailItem) → IsFront before from
    → AreTurns from parts items to → AreTurns before parts items to
turns-later before from [] items to front turns = (turns.0, front-more before from to front turns.1)
turns-later before from (part ∷ parts) items to front turns =
    (turns.0, turns.1, front-more before from turns.0 front turns.2, turns.3, turns.4)

turns-more : (from mid to : List TrailItem) (parts others : List PartAt) (items more : List TrailItem) → AreTurns from parts items mid
    → AreTurns mid others more to → AreTurns from (parts ++ others) (items ++ more) to
turns-more from mid to [] others items more first next =
    subst (λ (xs : List TrailItem). AreTurns from others (xs ++ more) to) (sym first.0) (turns-later from mid others more to first.1 next)
turns-more from mid to (part ∷ parts) others items more first next = (
  first.0,
  first.1 ++ more,
  first.2,
  ap (λ (xs : List TrailItem). xs ++ more) first.3 ∙ append_assoc (asks_for (book_of first.0) part) first.1 more,
  turns-more (first.0 ++ asks_for (book_of first.0) part) mid to parts others first.1 more first.4 next,
)

turns-end : (from mid to : List TrailItem) (parts : List PartAt) (items : List TrailItem) → AreTurns from parts items mid → IsFront mid to
    → AreTurns from parts items to
turns-end from mid to [] items turns front = (turns.0, front-more from mid to turns.1 front)
turns-end from mid to (part ∷ parts) items turns front = (
  turns.0,
  turns.1,
  turns.2,
  turns.3,
  turns-end (turns.0 ++ asks_for (book_of turns.0) part) mid to parts turns.1 turns.4 front,
)

-- ---- one turn

abbrev adds_part : PartAt → Result (Option AskedJob) JobActFault → List TrailItem
adds_part part r = adds_found (asked_entry part.table part.partition) r

numbered-so : (job : JobId) (n : ℕ) → job.0 ≡ n → job ≡ record { 0 = n }
numbered-so job n e = λ i. record { 0 = e i }

-- what was due is asked for
asked-now : (book : List Entry) (part : PartAt) (found : Option AskedJob) → DuesSo book part.table part.partition (Ok found)
    → adds_found (asked_entry part.table part.partition) (Ok found) ≡ asks_for book part
asked-now book part None is = ap (asks_kind book part) (sym is)
asked-now book part (Some found) is =
    ap (λ (j : JobId). Noted (asked_entry part.table part.partition (record { job = j; kind = found.kind })) ∷ [])
    (numbered-so found.job (length (state_of book).jobs + 1) is.1)
    ∙ ap (asks_kind book part) (sym is.0)

count-now : (part : PartAt) (found : Option AskedJob) → count_of found ≡ length (adds_found (asked_entry part.table part.partition) (Ok found))
count-now part None = refl
count-now part (Some found) = refl

-- the journal failed only where something was due
asking-it : (book : List Entry) (part : PartAt) (kind : Option JobKind) → FailsSo kind house_fault.Store
    → IsAsking (Note (asked_kind book part.table part.partition kind))
asking-it book part None is = cc
asking-it book part (Some kind) is = refl

few-kind : (book : List Entry) (part : PartAt) (kind : Option JobKind) → length (asks_kind book part kind) ≤ 1
few-kind book part None = omega arith
few-kind book part (Some kind) = omega arith

-- a turn asks for one at most
pub few-turn : (from to : List TrailItem) (part : PartAt) (items : List TrailItem) → AreTurns from (part ∷ []) items to → length items ≤ 1
few-turn from to part items turn =
    let rest : turn.1 ≡ [] = turn.4.0 in
    let none : length turn.1 ≡ 0 = ap length rest in
    let count : length items ≡ length (asks_for (book_of turn.0) part) + length turn.1 =
    ap length turn.3 ∙ length-append (asks_for (book_of turn.0) part) turn.1 in
    let few = few-kind (book_of turn.0) part (due (state_of (book_of turn.0)) part.table.0 part.partition) in
    omega (arith, none, count, few)

module _ {D : Type 0} (told : D → Option Store) (faults : D → ℕ) (between : List TrailItem → Type 0)
    (meanwhile : ToldHouse D → ToldHouse D → Type 0)
    (goes_on : (before now : ToldHouse D) → meanwhile before now → IsLater faults (seen_in before) (seen_in now)) where
  -- ---- the act of a turn

  module _ (m n : Moment (ToldHouse D)) (was : IsOpenHouse m.house) (part : PartAt) where
    abbrev CallOf : HouseSeen D → Result (Option AskedJob) JobActFault → Call
    CallOf seen r = call_to_ask (book_of seen.trail) part.table part.partition r

    abbrev AnswersOf : HouseSeen D → HouseSeen D → Result (Option AskedJob) JobActFault → Type 0
    AnswersOf a b r = DuesSo (book_of a.trail) part.table part.partition r

    module _ (result : Result (Option AskedJob) JobActFault) (held : HeldOf told faults meanwhile m n CallOf AnswersOf result)
        (went : Went between (adds_part part result) m.own n.own (trail_in m.house) (trail_in n.house)) where
      pub turn-done : (found : Option AskedJob) → result ≡ Ok found
          → AsksPart (among told faults between meanwhile) m n part (Ok (count_of found))
      turn-done found is =
          let now = held-as told faults between meanwhile goes_on m n CallOf AnswersOf (adds_part part) result held went (Ok found) is in
          let same = asked-now (book_of (trail_in now.house)) part found
          (done-answers told faults between meanwhile goes_on m n CallOf AnswersOf found now) in
          record {
            items = adds_part part (Ok found);
            adds = adds-of told faults between meanwhile goes_on m n CallOf AnswersOf (adds_part part) result held went (Ok found) is;
            turn = (
              trail_in now.house,
              [],
              reached-front told faults between meanwhile goes_on m.house now.house now.reached,
              same ∙ sym (append-nil (asks_for (book_of (trail_in now.house)) part)),
              (
                refl,
                front-added (trail_in now.house ++ asks_for (book_of (trail_in now.house)) part) (trail_in n.house) []
                    (trail-done found now ∙ ap (λ (xs : List TrailItem). trail_in now.house ++ xs) same
                    ∙ sym (append-nil (trail_in now.house ++ asks_for (book_of (trail_in now.house)) part))),
              ),
            );
            count = count-now part found;
            none = tt;
            running = done-open told faults between meanwhile goes_on m n CallOf AnswersOf found now;
            stops = tt;
            full = tt;
          }
        where
          trail-done : (x : Option AskedJob) (at : HeldOf told faults meanwhile m n CallOf AnswersOf (Ok x))
              → trail_in n.house ≡ trail_in at.house ++ adds_part part (Ok x)
          trail-done None at = at.step.trail
          trail-done (Some x) at = at.step.trail

      pub turn-refused : (why : JobActFault) → result ≡ Err why → AsksPart (among told faults between meanwhile) m n part (Err (act_run why))
      turn-refused why is =
          let now = held-as told faults between meanwhile goes_on m n CallOf AnswersOf (adds_part part) result held went (Err why) is in
          record {
            items = [];
            adds = adds-of told faults between meanwhile goes_on m n CallOf AnswersOf (adds_part part) result held went (Err why) is;
            turn = tt;
            count = tt;
            none = refl;
            running = tt;
            stops =
                refused-runs told faults between meanwhile goes_on m n CallOf AnswersOf was
                (λ seen. Note (asked_due (book_of seen.trail) part.table part.partition)) (λ seen w. refl) why now IsAsking
                (λ store running.
                asking-it (book_of (trail_in now.house)) part
                (due (state_of (book_of (trail_in now.house))) part.table.0 part.partition)
                (subst (λ (w : JobActFault). DuesSo (book_of (trail_in now.house)) part.table part.partition (Err w)) store
                (now.does_it.answers running)));
            full = full-by why now;
          }
        where
          full-by : (w : JobActFault) (at : HeldOf told faults meanwhile m n CallOf AnswersOf (Err w)) → IsFullFor 1 (book_of (trail_in n.house)) (act_run w)
          full-by act.Unfit at = tt
          full-by (act.Broken put count) at = tt
          full-by (act.Call fault.Gone) at = tt
          full-by (act.Call (fault.Full entries)) at =
              subst (λ (trail : List TrailItem). LacksRoom profile (book_of trail) 1 entries) (sym (at.step.trail ∙ append-nil (trail_in at.house)))
              (at.does_it.answers at.does_it.leaves).1
          full-by (act.Call fault.NotFound) at = tt
          full-by (act.Call (fault.Needed txn)) at = tt
          full-by (act.Call (fault.StillListed dir)) at = tt
          full-by (act.Call (fault.Working job)) at = tt
          full-by (act.Call fault.Starved) at = tt
          full-by (act.Call (fault.House house_fault.Store)) at = tt
          full-by (act.Call (fault.House house_fault.NoMemory)) at = tt
          full-by (act.Call (fault.House (house_fault.Failed count))) at = tt

  -- ---- turns

  pub some-none : AreRows between → (m : Moment (ToldHouse D)) → IsOpenHouse m.house → AsksSome (among told faults between meanwhile) m m [] 0
  some-none rows m running = record {
    items = [];
    adds = adds-none faults between rows m;
    turns = (refl, front-itself (trail_in m.house));
    count_is = refl;
    running = running;
  }

  pub some-more : AreRows between → (a b c : Moment (ToldHouse D)) (parts : List PartAt) (part : PartAt) (count more : ℕ)
      → AsksSome (among told faults between meanwhile) a b parts count → AsksPart (among told faults between meanwhile) b c part (Ok more)
      → AsksSome (among told faults between meanwhile) a c (parts ++ part ∷ []) (count + more)
  some-more rows a b c parts part count more first next = record {
    items = first.items ++ next.items;
    adds = adds-more faults between rows a b c first.items next.items first.adds next.adds;
    turns = turns-more (trail_in a.house) (trail_in b.house) (trail_in c.house) parts (part ∷ []) first.items next.items first.turns next.turn;
    count_is = (λ i. first.count_is i + next.count i) ∙ sym (length-append first.items next.items);
    running = next.running;
  }

  pub some-less : AreRows between → (a b c : Moment (ToldHouse D)) (parts : List PartAt) (part : PartAt) (done count : ℕ) (why : RunFault)
      → AsksSome (among told faults between meanwhile) a b (take done parts) count
      → AsksPart (among told faults between meanwhile) b c part (Err why) → AsksLess (among told faults between meanwhile) a c parts why
  some-less rows a b c parts part done count why first next = record {
    items = first.items;
    adds =
        adds-as faults between a c (first.items ++ next.items) first.items
        (ap (λ (xs : List TrailItem). first.items ++ xs) next.none ∙ append-nil first.items)
        (adds-more faults between rows a b c first.items next.items first.adds next.adds);
    turns_done = done;
    turns =
        turns-end (trail_in a.house) (trail_in b.house) (trail_in c.house) (take done parts) first.items first.turns
        (adds-front faults between b c next.items next.adds);
    stops = next.stops;
    full = next.full;
  }

  -- ---- a pass

  -- the partitions were asked for
  module _ (m n : Moment (ToldHouse D)) (was : IsOpenHouse m.house) {X : Type 0} (Says : List Entry → X → Type 0)
      (result : Result X JobActFault) where
    abbrev AskOf : HouseSeen D → Result X JobActFault → Call
    AskOf seen r = Ask

    abbrev SaysOf : HouseSeen D → HouseSeen D → Result X JobActFault → Type 0
    SaysOf a b r = AnswersSo Says (book_of a.trail) r

    ask-call : (why : JobActFault) → Ask ≡ act_call Ask why
    ask-call act.Unfit = refl
    ask-call (act.Broken put count) = refl
    ask-call (act.Call fault.Gone) = refl
    ask-call (act.Call (fault.Full entries)) = refl
    ask-call (act.Call fault.NotFound) = refl
    ask-call (act.Call (fault.Needed txn)) = refl
    ask-call (act.Call (fault.StillListed dir)) = refl
    ask-call (act.Call (fault.Working job)) = refl
    ask-call (act.Call fault.Starved) = refl
    ask-call (act.Call (fault.House why)) = refl

    module _ (held : HeldOf told faults meanwhile m n AskOf SaysOf result)
        (went : Went between [] m.own n.own (trail_in m.house) (trail_in n.house)) where
      pub asked-adds : AddsItems faults between m n []
      asked-adds = adds-of told faults between meanwhile goes_on m n AskOf SaysOf (λ (r : Result X JobActFault). []) result held went result refl

      pub asked-open : (x : X) → result ≡ Ok x → IsOpenHouse n.house
      asked-open x is =
          done-open told faults between meanwhile goes_on m n AskOf SaysOf x
          (held-as told faults between meanwhile goes_on m n AskOf SaysOf (λ (r : Result X JobActFault). []) result held went (Ok x) is)

      -- it is so over the book that is left
      pub asked-says : (x : X) → result ≡ Ok x → Says (book_of (trail_in n.house)) x
      asked-says x is =
          let now = held-as told faults between meanwhile goes_on m n AskOf SaysOf (λ (r : Result X JobActFault). []) result held went (Ok x) is in
          subst (λ (trail : List TrailItem). Says (book_of trail) x) (sym (now.step.trail ∙ append-nil (trail_in now.house)))
          (done-answers told faults between meanwhile goes_on m n AskOf SaysOf x now)

      pub asked-stops : (Of : Call → Type 0) (why : JobActFault) → result ≡ Err why
          → RunsOut (among told faults between meanwhile) Of n.house (act_run why)
      asked-stops Of why is =
          let now = held-as told faults between meanwhile goes_on m n AskOf SaysOf (λ (r : Result X JobActFault). []) result held went (Err why) is in
          refused-runs told faults between meanwhile goes_on m n AskOf SaysOf was (λ seen. Ask) (λ seen w. ask-call w) why now Of
          (λ store running.
          absurd (subst IsLack store (now.does_it.answers running)))

      -- want of room is no answer where the book is only asked
      pub asked-full : (why : JobActFault) → result ≡ Err why → IsFullFor 1 (book_of (trail_in n.house)) (act_run why)
      asked-full why is =
          full-by why
          (held-as told faults between meanwhile goes_on m n AskOf SaysOf (λ (r : Result X JobActFault). []) result held went (Err why) is)
        where
          full-by : (w : JobActFault) → HeldOf told faults meanwhile m n AskOf SaysOf (Err w) → IsFullFor 1 (book_of (trail_in n.house)) (act_run w)
          full-by act.Unfit at = tt
          full-by (act.Broken put count) at = tt
          full-by (act.Call fault.Gone) at = tt
          full-by (act.Call (fault.Full entries)) at = absurd (at.does_it.answers at.does_it.leaves)
          full-by (act.Call fault.NotFound) at = tt
          full-by (act.Call (fault.Needed txn)) at = tt
          full-by (act.Call (fault.StillListed dir)) at = tt
          full-by (act.Call (fault.Working job)) at = tt
          full-by (act.Call fault.Starved) at = tt
          full-by (act.Call (fault.House house_fault.Store)) at = tt
          full-by (act.Call (fault.House house_fault.NoMemory)) at = tt
          full-by (act.Call (fault.House (house_fault.Failed count))) at = tt

  pub initiated-so : AreRows between → (a b c : Moment (ToldHouse D)) (parts : List PartAt) (count : ℕ) → AddsItems faults between a b []
      → parts ≡ parts_in (book_of (trail_in b.house)) → AsksSome (among told faults between meanwhile) b c parts count
      → Initiates (among told faults between meanwhile) a c count
  initiated-so rows a b c parts count first are some = record {
    first = trail_in b.house;
    later = adds-front faults between a b [] first;
    items = some.items;
    adds = adds-more faults between rows a b c [] some.items first some.adds;
    turns = subst (λ (ps : List PartAt). AreTurns (trail_in b.house) ps some.items (trail_in c.house)) are some.turns;
    count_is = some.count_is;
    running = some.running;
  }

  pub initiated-less : AreRows between → (a b c : Moment (ToldHouse D)) (parts : List PartAt) (why : RunFault) → AddsItems faults between a b []
      → parts ≡ parts_in (book_of (trail_in b.house)) → AsksLess (among told faults between meanwhile) b c parts why
      → InitiatesLess (among told faults between meanwhile) a c why
  initiated-less rows a b c parts why first are less = record {
    first = trail_in b.house;
    later = adds-front faults between a b [] first;
    items = less.items;
    adds = adds-more faults between rows a b c [] less.items first less.adds;
    turns_done = less.turns_done;
    turns =
        subst (λ (ps : List PartAt). AreTurns (trail_in b.house) (take less.turns_done ps) less.items (trail_in c.house)) are less.turns;
    stops = less.stops;
    full = less.full;
  }

  pub initiated-none : (a b : Moment (ToldHouse D)) (why : RunFault) → AddsItems faults between a b []
      → RunsOut (among told faults between meanwhile) IsAsking b.house why → IsFullFor 1 (book_in b.house) why
      → InitiatesLess (among told faults between meanwhile) a b why
  initiated-none a b why first stops full = record {
    first = trail_in b.house;
    later = adds-front faults between a b [] first;
    items = [];
    adds = first;
    turns_done = 0;
    turns = (refl, front-itself (trail_in b.house));
    stops = stops;
    full = full;
  }

  -- whatever it answered
  pub pass-later : AreRows between → (a b c : Moment (ToldHouse D)) (parts : List PartAt) (result : Result ℕ RunFault)
      → AddsItems faults between a b [] → IfOk result (AsksSome (among told faults between meanwhile) b c parts)
      → IfErr result (AsksLess (among told faults between meanwhile) b c parts) → IsLater faults (seen_in a.house) (seen_in c.house)
  pass-later rows a b c parts (Ok count) first some less = (adds-more faults between rows a b c [] some.items first some.adds).later
  pass-later rows a b c parts (Err why) first some less = (adds-more faults between rows a b c [] less.items first less.adds).later

  pub pass-running : (b c : Moment (ToldHouse D)) (parts : List PartAt) (result : Result ℕ RunFault)
      → IfOk result (AsksSome (among told faults between meanwhile) b c parts) → IfOk result (λ count. IsOpenHouse c.house)
  pass-running b c parts (Ok count) some = some.running
  pass-running b c parts (Err why) some = tt

  module _ (rows : AreRows between) (a b c : Moment (ToldHouse D)) (parts : List PartAt) (first : AddsItems faults between a b [])
      (are : parts ≡ parts_in (book_of (trail_in b.house))) where
    pub pass-so : (result : Result ℕ RunFault) → IfOk result (AsksSome (among told faults between meanwhile) b c parts)
        → IfOk result (Initiates (among told faults between meanwhile) a c)
    pass-so (Ok count) some = initiated-so rows a b c parts count first are some
    pass-so (Err why) some = tt

    pub pass-less : (result : Result ℕ RunFault) → IfErr result (AsksLess (among told faults between meanwhile) b c parts)
        → IfErr result (InitiatesLess (among told faults between meanwhile) a c)
    pass-less (Ok count) less = tt
    pass-less (Err why) less = initiated-less rows a b c parts why first are less
