-- Compactions that acts ask for and take up.
use Rattle.std.proofs.Common.{◌≡◌, ◌↔◌, ℕ, ◌+◌, ◌-◌, Bool, true, false, true≢false, Option, Some, None, Result, Ok, Err, List, [], ◌∷◌, ◌++◌, length, filter, refl, sym, ap, ◌∙◌, subst, arith, ◌&&◌}
use Rattle.std.specs.Prelude.{if◌then◌else◌, IfErr, IsErrOf, IsSome, is_some, not}
use Rattle.std.specs.List.{slice_get}
use Rattle.hv_base.specs.declared.ids.JobId.{JobId}
use Rattle.hv_base.specs.declared.ids.TableId.{TableId}
use Rattle.hv_base.specs.declared.ids.WriteId.{WriteId}
use Rattle.hv_shelf.specs.Disk.{Store}
use Rattle.hv_history.specs.declared.entry.Entry.{Entry}
use Rattle.hv_history.specs.declared.entry.Entry.TheVariants as entry
use Rattle.hv_history.specs.declared.entry.JobKind.{JobKind}
use Rattle.hv_history.specs.State.{State, numbered, state_of}
use Rattle.hv_history.specs.Legal.{profile}
use Rattle.hv_history.specs.Thresholds.{delta_threshold, percent_threshold}
use Rattle.hv_history.specs.Jobs.{due, due_among, is_up_to, watermark, events_in, may_ask, has_busy, is_live_one, failed_behind, last_job, jobs_in}
use Rattle.hv_book.proofs.TextLaws.{get-last, length-snoc}
use Rattle.hv_trail.specs.declared.trail.TrailItem.TheVariants.{Noted}
use Rattle.hv_trail.specs.Kept.{trail_of}
use Rattle.hv_trail.specs.Trail.{book_of}
use Rattle.hv_trail.specs.Steps.{Note, Ask, Done, Step}
use Rattle.hv_trail.proofs.LastingLaws.{book-append}
use Rattle.hv_acts.specs.hv_telling.specs.hv_house.specs.declared.house.House.{House}
use Rattle.hv_acts.specs.hv_telling.specs.hv_house.specs.declared.fault.HouseFault.{HouseFault}
use Rattle.hv_acts.specs.hv_telling.specs.hv_house.specs.declared.fault.HouseFault.TheVariants as house_fault
use Rattle.hv_acts.specs.hv_telling.specs.hv_house.specs.Calls.{LacksRoom}
use Rattle.hv_acts.specs.hv_telling.specs.hv_house.specs.House.{entries_of}
use Rattle.hv_acts.specs.hv_telling.specs.hv_house.specs.Steps.{seen_of}
use Rattle.hv_acts.specs.hv_telling.specs.Telling.{IsWhole}
use Rattle.hv_job_calls.specs.declared.fault.JobFault.{JobFault}
use Rattle.hv_job_calls.specs.declared.fault.JobFault.TheVariants as fault
use Rattle.hv_job_calls.specs.Refusals.{is_live_in, asking, picking, number_in, to_pick, IsNone, IfFound}
use Rattle.hv_job_calls.specs.Steps.{JobStep, found_call}
use Rattle.hv_job_calls.specs.Tests.{NotesOrHouse}
use Rattle.hv_acts.proofs.Steps.{book-is, whole-keeps, keeps-behind}
use Rattle.hv_job_acts.specs.declared.fault.JobActFault.{JobActFault}
use Rattle.hv_job_acts.specs.declared.fault.JobActFault.TheVariants as act
use Rattle.hv_job_acts.specs.declared.noting.AskedJob.{AskedJob}
use Rattle.hv_job_acts.specs.declared.noting.PickedJob.{PickedJob}
use Rattle.hv_job_acts.specs.Answers.{answer_outcome, ActStep}
use Rattle.hv_job_acts.specs.Asking.{asked_kind, asked_due, asked_entry, asked_in, call_to_ask, FailsSo, DuesSo, picked_entry, call_to_pick, IsPickedSo, PicksSo}
use Rattle.hv_job_acts.specs.Picking.{mark_in, mark_at, PickedNow, PickedIn}
use Rattle.hv_job_acts.proofs.Passed.{asked-done, rose-leaves}

-- ---- where one is due none of the partition is busy, and the table is live

if-some : (b : Bool) (o : Option JobKind) (kind : JobKind) → (if b then o else None) ≡ Some kind → b ≡ true
if-some true o kind e = refl
if-some false o kind e = cc

pub due-asks : (state : State) (table : ℕ) (partition : List ℕ) (kind : JobKind) → due state table partition ≡ Some kind → may_ask state table partition ≡ true
unfolding due
due-asks state table partition kind e =
    if-some (may_ask state table partition)
    (due_among (delta_threshold state) (percent_threshold state) (jobs_in state table partition)
    (filter (is_up_to (watermark state table)) (events_in state table partition))) kind e

both-first : (a b : Bool) → (a && b) ≡ true → a ≡ true
both-first true b e = refl
both-first false b e = e

both-second : (a b : Bool) → (a && b) ≡ true → b ≡ true
both-second true b e = e
both-second false b e = absurd (true≢false (sym e))

not-true : (b : Bool) → not b ≡ true → b ≡ false
not-true true e = sym e
not-true false e = refl

module _ (state : State) (table : ℕ) (partition : List ℕ) where
  abbrev Live : Bool
  Live = is_live_one (numbered state.tables table)

  abbrev Idle : Bool
  Idle = not (has_busy state table partition)

  abbrev Unfailed : Bool
  Unfailed = not (failed_behind state.openings.last (last_job (jobs_in state table partition)))

  pub due-live : (kind : JobKind) → due state table partition ≡ Some kind → is_live_in state table ≡ true
  due-live kind e = both-first Live (Idle && Unfailed) (due-asks state table partition kind e)

  pub due-idle : (kind : JobKind) → due state table partition ≡ Some kind → has_busy state table partition ≡ false
  due-idle kind e =
      not-true (has_busy state table partition) (both-first Idle Unfailed (both-second Live (Idle && Unfailed) (due-asks state table partition kind e)))

some-is : {A : Type 0} (o : Option A) (x : A) → o ≡ Some x → IsSome o
some-is o x e = ap is_some e

fails-so : (o : Option JobKind) (kind : JobKind) → o ≡ Some kind → (why : HouseFault) → FailsSo o why
fails-so o kind e house_fault.Store = some-is o kind e
fails-so o kind e house_fault.NoMemory = tt
fails-so o kind e (house_fault.Failed count) = tt

-- the last entry of a book
last-got : (book : List Entry) (event : Entry) → slice_get (book ++ event ∷ []) (length (book ++ event ∷ []) - 1) ≡ Some event
last-got book event =
    let more : length (book ++ event ∷ []) ≡ length book + 1 = length-snoc book event in
    let last : length (book ++ event ∷ []) - 1 ≡ length book = omega (arith, more) in
    ap (λ (n : ℕ). slice_get (book ++ event ∷ []) n) last ∙ get-last book event

-- one that was noted is the book's last
noted-behind : {D : Type 0} (before now : House D) (event : Entry) → trail_of now.trail ≡ trail_of before.trail ++ Noted event ∷ []
    → book_of (trail_of now.trail) ≡ entries_of before ++ event ∷ []
noted-behind before now event e =
    ap book_of e ∙ book-append (trail_of before.trail) (Noted event ∷ []) ∙ ap (λ (book : List Entry). book ++ event ∷ []) (book-is before)

module _ {D : Type 0} (told : D → Option Store) (faults : D → ℕ) (before now : House D) (was : IsWhole told before) where
  abbrev Book : List Entry
  Book = entries_of before

  abbrev Trailed : List Entry
  Trailed = book_of (trail_of before.trail)

  -- ---- asked for

  module _ (table : TableId) (partition : List ℕ) (kind : JobKind) (is_due : due (state_of Book) table.0 partition ≡ Some kind) where
    abbrev Asked : Entry
    Asked = asking Book table partition kind 0

    asked-is : asked_due Book table partition ≡ Asked
    asked-is = ap (asked_kind Book table partition) is_due

    asked-as : (job : JobId) → job.0 ≡ length (state_of Book).jobs + 1 → asked_entry table partition (record { job = job; kind = kind }) ≡ Asked
    asked-as job e = ap (λ (n : ℕ). entry.Asked (record { 0 = n }) table partition kind 0) e

    abbrev StepOf : List Entry → Result (Option AskedJob) JobActFault → Type 0
    StepOf book result = ActStep told faults (call_to_ask book table partition result) before now (DuesSo book table partition) result

    on-trail : (result : Result (Option AskedJob) JobActFault) → StepOf Book result → StepOf Trailed result
    on-trail result s = subst (λ (book : List Entry). StepOf book result) (sym (book-is before)) s

    pub ask-found : (job : JobId) → JobStep told faults (Note Asked) before now (Ok (Some job)) → job.0 ≡ length (state_of Book).jobs + 1
        → StepOf Trailed (Ok (Some (record { job = job; kind = kind })))
    ask-found job s next = on-trail (Ok (Some (record { job = job; kind = kind }))) (record {
      keeps = whole-keeps told now s.whole;
      step = subst (λ (e : Entry). Step told faults (Note e) Done (seen_of before) (seen_of now)) (sym (asked-as job next)) s.step;
      does = record { answers = λ open_. (is_due, next); leaves = was.ready.kept.running; up = s.later };
    })

    pub ask-none : {T : Type 0} → has_busy (state_of Book) table.0 partition ≡ true → T
    ask-none busy = absurd (true≢false (sym busy ∙ due-idle (state_of Book) table.0 partition kind is_due))

    pub ask-refused : (why : JobFault) → JobStep {T = Option JobId} told faults (found_call {T = JobId} (Note Asked) (Err why)) before now (Err why)
        → IsErrOf {T = Option JobId} (Err why) fault.Gone ↔ (is_live_in (state_of Book) table.0 ≡ false)
        → ((count : ℕ) → IsErrOf {T = Option JobId} (Err why) (fault.Full count)
        ↔ ((is_live_in (state_of Book) table.0 ≡ true) × (has_busy (state_of Book) table.0 partition ≡ false) × LacksRoom profile Book 1 count))
        → NotesOrHouse why → StepOf Trailed (Err (act.Call why))
    ask-refused fault.Gone s gone full others =
        absurd (true≢false (sym (due-live (state_of Book) table.0 partition kind is_due) ∙ gone.0 refl))
    ask-refused (fault.Full count) s gone full others = on-trail (Err (act.Call (fault.Full count))) (record {
      keeps = whole-keeps told now s.stays;
      step = s.step;
      does = record {
        answers = λ open_. (some-is (due (state_of Book) table.0 partition) kind is_due, ((full count).0 refl).2);
        leaves = was.ready.kept.running;
        up = s.later;
      };
    })
    ask-refused fault.NotFound s gone full others = absurd others
    ask-refused (fault.Needed txn) s gone full others = absurd others
    ask-refused (fault.StillListed dir) s gone full others = absurd others
    ask-refused (fault.Working job) s gone full others = absurd others
    ask-refused fault.Starved s gone full others = absurd others
    ask-refused (fault.House why) s gone full others = on-trail (Err (act.Call (fault.House why))) (record {
      keeps = keeps-behind told before now why was s.stays s.opens s.start s.step.closed;
      step = subst (λ (e : Entry). Step told faults (Note e) (answer_outcome {T = Option AskedJob} (Err (act.Call (fault.House why)))) (seen_of before) (seen_of now)) (sym asked-is) s.step;
      does = record {
        answers = λ open_. fails-so (due (state_of Book) table.0 partition) kind is_due why;
        leaves = rose-leaves told faults why before now was.ready.kept.running s.failed;
        up = s.later;
      };
    })

    -- what the house answered
    pub ask-step : (r : Result (Option JobId) JobFault) (answer : Result (Option AskedJob) JobActFault) → answer ≡ asked_in kind r
        → JobStep told faults (found_call (Note Asked) r) before now r → IfFound r (λ job. job.0 ≡ length (state_of Book).jobs + 1)
        → IsErrOf r fault.Gone ↔ (is_live_in (state_of Book) table.0 ≡ false)
        → IsNone r ↔ ((is_live_in (state_of Book) table.0 ≡ true) × (has_busy (state_of Book) table.0 partition ≡ true))
        → ((count : ℕ) → IsErrOf r (fault.Full count)
        ↔ ((is_live_in (state_of Book) table.0 ≡ true) × (has_busy (state_of Book) table.0 partition ≡ false) × LacksRoom profile Book 1 count))
        → IfErr r NotesOrHouse → StepOf Trailed answer
    ask-step r answer is step next gone none full others = subst (StepOf Trailed) (sym is) (by r step next gone none full others)
      where
        by : (q : Result (Option JobId) JobFault) → JobStep told faults (found_call (Note Asked) q) before now q
            → IfFound q (λ job. job.0 ≡ length (state_of Book).jobs + 1)
            → IsErrOf q fault.Gone ↔ (is_live_in (state_of Book) table.0 ≡ false)
            → IsNone q ↔ ((is_live_in (state_of Book) table.0 ≡ true) × (has_busy (state_of Book) table.0 partition ≡ true))
            → ((count : ℕ) → IsErrOf q (fault.Full count)
            ↔ ((is_live_in (state_of Book) table.0 ≡ true) × (has_busy (state_of Book) table.0 partition ≡ false) × LacksRoom profile Book 1 count))
            → IfErr q NotesOrHouse → StepOf Trailed (asked_in kind q)
        by (Ok (Some job)) s n g none_ f o = ask-found job s n
        by (Ok None) s n g none_ f o = ask-none (none_.0 tt).1
        by (Err why) s n g none_ f o = ask-refused why s g f o

  -- ---- taken up

  abbrev Picks : List Entry → List Entry → Result (Option PickedJob) JobActFault → Type 0
  Picks book then_ result = ActStep told faults (call_to_pick book result) before now (PicksSo book then_) result

  abbrev After : List Entry
  After = book_of (trail_of now.trail)

  picks-trail : (result : Result (Option PickedJob) JobActFault) → Picks Book After result → Picks Trailed After result
  picks-trail result s = subst (λ (book : List Entry). Picks book After result) (sym (book-is before)) s

  pub pick-none : to_pick (state_of Book) ≡ None → ActStep told faults (call_to_pick Trailed (Ok None)) before before (PicksSo Trailed (book_of (trail_of before.trail))) (Ok None)
  pick-none none =
      asked-done told faults None (PicksSo Trailed (book_of (trail_of before.trail))) before was
      (subst (λ (book : List Entry). to_pick (state_of book) ≡ None) (sym (book-is before)) none)

  pub pick-refused : (why : JobFault) → JobStep {T = Option JobId} told faults (found_call {T = JobId} (Note (picking Book)) (Err why)) before now (Err why)
      → ((count : ℕ) → IsErrOf {T = Option JobId} (Err why) (fault.Full count) ↔ (IsSome (to_pick (state_of Book)) × LacksRoom profile Book 2 count))
      → (IsErrOf {T = Option JobId} (Err why) fault.Gone → ⊥) → NotesOrHouse why → Picks Trailed After (Err (act.Call why))
  pick-refused fault.Gone s full never others = absurd (never refl)
  pick-refused (fault.Full count) s full never others = picks-trail (Err (act.Call (fault.Full count))) (record {
    keeps = whole-keeps told now s.stays;
    step = s.step;
    does = record { answers = λ open_. (full count).0 refl; leaves = was.ready.kept.running; up = s.later };
  })
  pick-refused fault.NotFound s full never others = absurd others
  pick-refused (fault.Needed txn) s full never others = absurd others
  pick-refused (fault.StillListed dir) s full never others = absurd others
  pick-refused (fault.Working job) s full never others = absurd others
  pick-refused fault.Starved s full never others = absurd others
  pick-refused (fault.House why) s full never others = picks-trail (Err (act.Call (fault.House why))) (record {
    keeps = keeps-behind told before now why was s.stays s.opens s.start s.step.closed;
    step = s.step;
    does = record {
      answers = λ open_. tt;
      leaves = rose-leaves told faults why before now was.ready.kept.running s.failed;
      up = s.later;
    };
  })

  -- the job that was found
  module _ (trail_is : After ≡ Book ++ picking Book ∷ []) where
    last-mark : mark_at After (length After - 1) ≡ mark_in (Some (picking Book))
    last-mark = ap (λ (book : List Entry). mark_at book (length book - 1)) trail_is ∙ ap mark_in (last-got Book (picking Book))

    picked-entry : (job : JobId) (found : PickedJob) → to_pick (state_of Book) ≡ Some job.0 → PickedNow After job found
        → picked_entry found ≡ picking Book
    picked-entry job found lowest known =
        let number : number_in (to_pick (state_of Book)) ≡ job.0 = ap number_in lowest in
        ap (λ (j : JobId). entry.Picked j found.watermark) known.job_is
        ∙ ap (λ (n : ℕ). entry.Picked (record { 0 = n }) found.watermark) (sym number)
        ∙ ap (λ (w : WriteId). entry.Picked (record { 0 = number_in (to_pick (state_of Book)) }) w) (known.mark ∙ last-mark)

    picked-so : (job : JobId) (found : PickedJob) → PickedNow After job found → IsPickedSo After found
    picked-so job found known = record {
      kind = λ j at. known.kind j (ap (λ (one : JobId). numbered (state_of After).jobs one.0) (sym known.job_is) ∙ at);
      pieces = λ j at. known.pieces j (ap (λ (one : JobId). numbered (state_of After).jobs one.0) (sym known.job_is) ∙ at);
    }

    pick-found : (job : JobId) (found : PickedJob) → JobStep told faults (Note (picking Book)) before now (Ok (Some job))
        → to_pick (state_of Book) ≡ Some job.0 → PickedNow After job found → Picks Trailed After (Ok (Some found))
    pick-found job found s lowest known = picks-trail (Ok (Some found)) (record {
      keeps = whole-keeps told now s.whole;
      step = subst (λ (e : Entry). Step told faults (Note e) Done (seen_of before) (seen_of now)) (sym (picked-entry job found lowest known)) s.step;
      does = record {
        answers = λ open_. (
          lowest ∙ ap (λ (j : JobId). Some j.0) (sym known.job_is),
          picked-entry job found lowest known,
          picked-so job found known,
        );
        leaves = was.ready.kept.running;
        up = s.later;
      };
    })

  -- where none was, the house was only asked
  pub picked-none : JobStep {T = Option JobId} told faults Ask before now (Ok None) → to_pick (state_of Book) ≡ None → Picks Trailed After (Ok None)
  picked-none s none = picks-trail (Ok None) (record {
    keeps = whole-keeps told now s.whole;
    step = s.step;
    does = record { answers = λ open_. none; leaves = was.ready.kept.running; up = s.later };
  })

  pub pick-ok : (found : Option JobId) (picked : Option PickedJob) (book : List Entry) → book ≡ entries_of now → PickedIn book found picked
      → JobStep told faults (found_call (Note (picking Book)) (Ok found)) before now (Ok found)
      → IfFound {T = JobId} {E = JobFault} (Ok found) (λ job. to_pick (state_of Book) ≡ Some job.0)
      → IsNone {T = JobId} {E = JobFault} (Ok found) ↔ (to_pick (state_of Book) ≡ None) → Picks Trailed After (Ok picked)
  pick-ok None picked book are known s lowest none = subst (λ (p : Option PickedJob). Picks Trailed After (Ok p)) (sym known) (picked-none s (none.0 tt))
  pick-ok (Some job) picked book are known s lowest none =
      subst (λ (p : Option PickedJob). Picks Trailed After (Ok p)) (sym known.1)
      (pick-found (noted-behind before now (picking Book) s.step.trail) job known.0 s lowest
      (subst (λ (b : List Entry). PickedNow b job known.0) (are ∙ sym (book-is now)) known.2))
