-- What one act of a cleaner leaves: what it added, and why the pass goes on or ends behind a refusal.
use Rattle.std.proofs.Common.{◌≡◌, ◌⊎◌, inl, inr, ℕ, ◌||◌, Bool, true, false, Option, None, List, [], ◌∷◌, Result, Ok, Err, refl, sym, ap, ◌∙◌, subst, append-nil}
use Rattle.hv_base.specs.declared.ids.JobId.{JobId}
use Rattle.hv_base.specs.declared.ids.TableId.{TableId}
use Rattle.hv_base.specs.declared.ids.WriteId.{WriteId}
use Rattle.hv_shelf.specs.declared.place.DirAt.{DirAt}
use Rattle.hv_shelf.specs.Disk.{Store}
use Rattle.hv_history.specs.declared.entry.Entry.{Entry}
use Rattle.hv_history.specs.declared.entry.Entry.TheVariants as entry
use Rattle.hv_history.specs.Legal.{profile}
use Rattle.hv_history.specs.Lasting.{IsFront}
use Rattle.hv_trail.specs.declared.trail.TrailItem.{TrailItem}
use Rattle.hv_trail.specs.declared.trail.TrailItem.TheVariants.{Marked}
use Rattle.hv_trail.specs.declared.trail.Mark.TheVariants.{Broke}
use Rattle.hv_trail.specs.declared.trail.Mark.TheVariants.{Went as WentDir}
use Rattle.hv_trail.specs.Trail.{book_of}
use Rattle.hv_trail.specs.Steps.{HouseSeen, Call, Note, Remove, Read, Ask, Closed, Starved, Refused, Failed, MayEnd, gains, shuts, StarvesBy, Outcome}
use Rattle.hv_actor.specs.Acting.{IsLater, Held, Went, Setting, Moment, among, known}
use Rattle.hv_actor.proofs.Weaving.{later-further}
use Rattle.hv_job_acts.specs.hv_acts.specs.hv_telling.specs.hv_house.specs.declared.fault.HouseFault.TheVariants as house_fault
use Rattle.hv_job_acts.specs.hv_acts.specs.hv_telling.specs.hv_house.specs.Calls.{LacksRoom}
use Rattle.hv_job_acts.specs.hv_job_calls.specs.declared.fault.JobFault.TheVariants as fault
use Rattle.hv_job_acts.specs.hv_acts.specs.declared.told.ToldHouse.{ToldHouse}
use Rattle.hv_job_acts.specs.hv_acts.specs.Told.{seen_in, trail_in, told_sight}
use Rattle.hv_job_acts.specs.hv_acts.specs.Going.{IsOpenHouse}
use Rattle.hv_job_acts.specs.declared.fault.JobActFault.{JobActFault}
use Rattle.hv_job_acts.specs.declared.fault.JobActFault.TheVariants as act
use Rattle.hv_job_acts.specs.Answers.{act_call, act_outcome, answer_call, answer_outcome, adds_by, JobDoes}
use Rattle.hv_job_acts.specs.Questions.{AnswersSo}
use Rattle.hv_job_acts.specs.Going.{AddsItems, IsShutFor}
use Rattle.hv_job_acts.specs.Laters.{job_later}
use Rattle.hv_clean.specs.declared.fault.PassFault.{PassFault}
use Rattle.hv_clean.specs.declared.fault.PassFault.TheVariants as run
use Rattle.hv_clean.specs.declared.fault.Swept.{Swept}
use Rattle.hv_clean.specs.declared.stopping.Refused.TheVariants as refused_as
use Rattle.hv_clean.specs.declared.stopping.Refused.{Refused as WhyRefused}
use Rattle.hv_clean.specs.Passing.{nothing, count_fault, IsCleaning, Asks, Sweeps, SweepsLess}
use Rattle.hv_clean.specs.Stopping.{refusal_of, stopped}

pub either : (b : Bool) → (b ≡ true) ⊎ (b ≡ false)
either true = inl refl
either false = inr refl

-- ---- calls of a cleaner

-- one that failed adds the mark of that, and it never ends for want of memory between renamings
pub record IsQuietly (call : Call) : Type 0 where
  pub cleans : IsCleaning call
  pub closed : gains call Closed ≡ []
  pub refused_ : gains call Refused ≡ []
  pub fed : MayEnd call Starved → ⊥
  pub broke : (count : ℕ) → MayEnd call (Failed count) → gains call (Failed count) ≡ Marked (Broke None false count) ∷ []

-- no call of a cleaner ends so
never-starved : (call : Call) → IsCleaning call → MayEnd call Starved → ⊥
never-starved (Note (entry.Cleaned job)) cleans may = may
never-starved (Note (entry.Forgot table write)) cleans may = may
never-starved (Remove None dir) cleans may = may
never-starved (Read None) cleans may = may
never-starved call cleans may = absurd cleans

fed-by : (call : Call) (outcome : Outcome) (was is : Bool) → IsCleaning call → MayEnd call outcome → StarvesBy outcome was is → is ≡ was
fed-by call Starved was is cleans may starves = absurd (never-starved call cleans may)
fed-by call outcome was is cleans may starves = starves

pub remove-quietly : (dir : DirAt) → IsQuietly (Remove None dir)
remove-quietly dir = record { cleans = tt; closed = refl; refused_ = refl; fed = λ no_. no_; broke = λ count may. refl }

pub read-quietly : IsQuietly (Read None)
read-quietly = record { cleans = tt; closed = refl; refused_ = refl; fed = λ no_. no_; broke = λ count may. refl }

pub cleaned-quietly : (job : JobId) → IsQuietly (Note (entry.Cleaned job))
cleaned-quietly job = record { cleans = tt; closed = refl; refused_ = refl; fed = λ no_. no_; broke = λ count may. absurd may }

pub forgot-quietly : (table : TableId) (write : WriteId) → IsQuietly (Note (entry.Forgot table write))
forgot-quietly table write = record { cleans = tt; closed = refl; refused_ = refl; fed = λ no_. no_; broke = λ count may. absurd may }

module _ {D : Type 0} (told : D → Option Store) (faults : D → ℕ) (between : List TrailItem → Type 0)
    (meanwhile : ToldHouse D → ToldHouse D → Type 0)
    (goes_on : (before now : ToldHouse D) → meanwhile before now → IsLater faults (seen_in before) (seen_in now)) where
  abbrev Its : Setting D (ToldHouse D)
  Its = among told faults between meanwhile

  -- an act that answered so, by such a call
  abbrev pub JobHeld : {T : Type 0} → Call → (HouseSeen D → Result T JobActFault → Type 0) → ToldHouse D → ToldHouse D → Result T JobActFault → Type 0
  JobHeld call Answers before now result =
      Held (told_sight told faults) meanwhile before now (λ seen. call) (answer_outcome result) (λ a b. JobDoes faults a b (Answers a) result)

  module _ {T : Type 0} (call : Call) (Answers : HouseSeen D → Result T JobActFault → Type 0) (own own' : List ℕ) (before now : ToldHouse D)
      (result : Result T JobActFault) (held : JobHeld call Answers before now result) where
    pub act-later : IsLater faults (seen_in before) (seen_in now)
    act-later =
        later-further faults (seen_in before) (seen_in held.house) (seen_in now) (goes_on before held.house held.reached)
        (job_later told faults call result (seen_in held.house) (seen_in now) held.step held.does_it.leaves held.does_it.up)

    pub act-adds : (items : List TrailItem) → Went between items own own' (trail_in before) (trail_in now)
        → AddsItems faults between (known own before) (known own' now) items
    act-adds items went = record { went = went; later = act-later }

    pub house-front : IsFront (trail_in before) (trail_in held.house)
    house-front = let later = goes_on before held.house held.reached in record { more = later.added; is = later.trail }

    pub now-front : IsFront (trail_in held.house) (trail_in now)
    now-front = record { more = gains call (answer_outcome result); is = held.step.trail }

    pub act-open : IsOpenHouse held.house → shuts (answer_outcome result) ≡ false → IsOpenHouse now
    act-open running opens =
        held.step.closed ∙ ap (λ (b : Bool). b || shuts (answer_outcome result)) running ∙ opens

    -- it was closed between two acts, or closed by the call
    pub act-shut : IsOpenHouse before → IsCleaning call → gains call (answer_outcome result) ≡ [] → shuts (answer_outcome result) ≡ true
        → IsShutFor Its IsCleaning now
    act-shut was cleans none shuts_ = by (either held.house.house.trail.closed)
      where
        by : (held.house.house.trail.closed ≡ true) ⊎ (held.house.house.trail.closed ≡ false) → IsShutFor Its IsCleaning now
        by (inl shut) = inl (record { left = before; found = held.house; reached = held.reached; was = was; is = shut })
        by (inr running) = inr (record {
          house = held.house;
          kept = held.kept;
          was = running;
          is = (
            held.step.closed ∙ ap (λ (b : Bool). b || shuts (answer_outcome result)) running ∙ shuts_,
            fed-by call (answer_outcome result) held.house.house.trail.starved now.house.trail.starved cleans held.step.may held.step.starved
                ∙ (held.kept.whole running).ready.kept.fed,
          );
          call = call;
          of_it = cleans;
          outcome = answer_outcome result;
          step = held.step;
          nothing = none;
        })

  -- ---- what a refusal comes to

  -- the pass goes on, or ends
  abbrev pub BehindAs : Moment (ToldHouse D) → Moment (ToldHouse D) → Swept → WhyRefused → Type 0
  BehindAs before now from refused_as.Failed = Sweeps Its before now from (count_fault from)
  BehindAs before now from refused_as.Needed = Sweeps Its before now from from
  BehindAs before now from refused_as.Listed = Sweeps Its before now from from
  BehindAs before now from refused_as.Over = Sweeps Its before now from from
  BehindAs before now from (refused_as.Stop why) = SweepsLess Its before now why

  module _ {T : Type 0} (Answers : HouseSeen D → Result T JobActFault → Type 0) (own own' : List ℕ) (before now : ToldHouse D) (was : IsOpenHouse before)
      (from : Swept) where
    abbrev Was : Moment (ToldHouse D)
    Was = known own before

    abbrev Now : Moment (ToldHouse D)
    Now = known own' now

    -- nothing was added, and the house is open
    pub nothing-swept : (call : Call) (result : Result T JobActFault) (held : JobHeld call Answers before now result) → IsOpenHouse held.house
        → shuts (answer_outcome result) ≡ false → Went between [] own own' (trail_in before) (trail_in now) → Sweeps Its Was Now from from
    nothing-swept call result held running opens went = record {
      items = [];
      adds = act-adds call Answers own own' before now result held [] went;
      each = tt;
      counts = refl;
      running = act-open call Answers own own' before now result held running opens;
    }

    pub none-less : (call : Call) (result : Result T JobActFault) (held : JobHeld call Answers before now result) → IsOpenHouse held.house
        → shuts (answer_outcome result) ≡ false → Went between [] own own' (trail_in before) (trail_in now) → SweepsLess Its Was Now run.NoMemory
    none-less call result held running opens went = record {
      items = [];
      adds = act-adds call Answers own own' before now result held [] went;
      each = tt;
      stops = act-open call Answers own own' before now result held running opens;
      full = tt;
    }

    -- there is no room in the book as it is now
    pub none-full : (entries : ℕ) (held : JobHeld Ask Answers before now (Err (act.Call (fault.Full entries))))
        → LacksRoom profile (book_of (trail_in held.house)) 1 entries → Went between [] own own' (trail_in before) (trail_in now)
        → SweepsLess Its Was Now (run.Full entries)
    none-full entries held lacks went = record {
      items = [];
      adds = act-adds Ask Answers own own' before now (Err (act.Call (fault.Full entries))) held [] went;
      each = tt;
      stops = act-open Ask Answers own own' before now (Err (act.Call (fault.Full entries))) held held.does_it.leaves refl;
      full = subst (λ (trail : List TrailItem). LacksRoom profile (book_of trail) 1 entries) (sym (held.step.trail ∙ append-nil (trail_in held.house))) lacks;
    }

    pub shut-less : (call : Call) (result : Result T JobActFault) (held : JobHeld call Answers before now result) → IsCleaning call
        → gains call (answer_outcome result) ≡ [] → shuts (answer_outcome result) ≡ true → Went between [] own own' (trail_in before) (trail_in now)
        → SweepsLess Its Was Now run.Store
    shut-less call result held cleans none shuts_ went = record {
      items = [];
      adds = act-adds call Answers own own' before now result held [] went;
      each = tt;
      stops = act-shut call Answers own own' before now result held was cleans none shuts_;
      full = tt;
    }

    pub broke-swept : (call : Call) (result : Result T JobActFault) (count : ℕ) (held : JobHeld call Answers before now result) → IsOpenHouse held.house
        → shuts (answer_outcome result) ≡ false
        → Went between (Marked (Broke None false count) ∷ []) own own' (trail_in before) (trail_in now) → Sweeps Its Was Now from (count_fault from)
    broke-swept call result count held running opens went = record {
      items = Marked (Broke None false count) ∷ [];
      adds = act-adds call Answers own own' before now result held (Marked (Broke None false count) ∷ []) went;
      each = (refl, tt);
      counts = refl;
      running = act-open call Answers own own' before now result held running opens;
    }

    -- files of a directory went
    pub went-swept : (dir : DirAt) (x : T) (result : Result T JobActFault) → result ≡ Ok x → JobHeld (answer_call (Remove None dir) result) Answers before now result
        → Went between (adds_by (Remove None dir) result) own own' (trail_in before) (trail_in now) → Sweeps Its Was Now from from
    went-swept dir x result is held went =
        let held_ : JobHeld (Remove None dir) Answers before now (Ok x) =
        subst (λ (r : Result T JobActFault). JobHeld (answer_call (Remove None dir) r) Answers before now r) is held in
        record {
          items = Marked (WentDir dir) ∷ [];
          adds = act-adds (Remove None dir) Answers own own' before now (Ok x) held_ (Marked (WentDir dir) ∷ [])
              (subst (λ (r : Result T JobActFault). Went between (adds_by (Remove None dir) r) own own' (trail_in before) (trail_in now)) is went);
          each = (tt, tt);
          counts = refl;
          running = act-open (Remove None dir) Answers own own' before now (Ok x) held_ held_.does_it.leaves refl;
        }

    -- a table was listed
    pub read-swept : (x : T) (result : Result T JobActFault) → result ≡ Ok x → JobHeld (answer_call (Read None) result) Answers before now result
        → Went between (adds_by (Read None) result) own own' (trail_in before) (trail_in now) → Sweeps Its Was Now from from
    read-swept x result is held went =
        let held_ : JobHeld (Read None) Answers before now (Ok x) =
        subst (λ (r : Result T JobActFault). JobHeld (answer_call (Read None) r) Answers before now r) is held in
        nothing-swept (Read None) (Ok x) held_ held_.does_it.leaves refl
        (subst (λ (r : Result T JobActFault). Went between (adds_by (Read None) r) own own' (trail_in before) (trail_in now)) is went)

    -- by the calls of a cleaner
    module _ (base : Call) (quietly : IsQuietly base)
        (lacking : (seen : HouseSeen D) (entries : ℕ) → Answers seen (Err (act.Call (fault.Full entries))) → LacksRoom profile (book_of seen.trail) 1 entries) where
      abbrev GainsBy : List TrailItem → Type 0
      GainsBy items = Went between items own own' (trail_in before) (trail_in now)

      pub behind : (why : JobActFault) → JobHeld (act_call base why) Answers before now (Err why) → GainsBy (gains (act_call base why) (act_outcome why))
          → BehindAs Was Now from (refusal_of why)
      behind act.Unfit held went = nothing-swept Ask (Err act.Unfit) held held.does_it.leaves refl went
      behind (act.Broken put count) held went = nothing-swept Ask (Err (act.Broken put count)) held held.does_it.leaves refl went
      behind (act.Call fault.Gone) held went = nothing-swept Ask (Err (act.Call fault.Gone)) held held.does_it.leaves refl went
      behind (act.Call (fault.Full entries)) held went =
          none-full entries held (lacking (seen_in held.house) entries (held.does_it.answers held.does_it.leaves)) went
      behind (act.Call fault.NotFound) held went = nothing-swept Ask (Err (act.Call fault.NotFound)) held held.does_it.leaves refl went
      behind (act.Call (fault.Needed txn)) held went = nothing-swept Ask (Err (act.Call (fault.Needed txn))) held held.does_it.leaves refl went
      behind (act.Call (fault.StillListed dir)) held went = nothing-swept Ask (Err (act.Call (fault.StillListed dir))) held held.does_it.leaves refl went
      behind (act.Call (fault.Working job)) held went = nothing-swept Ask (Err (act.Call (fault.Working job))) held held.does_it.leaves refl went
      behind (act.Call fault.Starved) held went = absurd (quietly.fed held.step.may)
      behind (act.Call (fault.House house_fault.Store)) held went =
          shut-less base (Err (act.Call (fault.House house_fault.Store))) held quietly.cleans quietly.closed refl (subst GainsBy quietly.closed went)
      behind (act.Call (fault.House house_fault.NoMemory)) held went =
          none-less base (Err (act.Call (fault.House house_fault.NoMemory))) held held.does_it.leaves refl (subst GainsBy quietly.refused_ went)
      behind (act.Call (fault.House (house_fault.Failed count))) held went =
          broke-swept base (Err (act.Call (fault.House (house_fault.Failed count)))) count held held.does_it.leaves.0 refl
          (subst GainsBy (quietly.broke count held.step.may) went)

      -- where the answer was such a refusal
      pub behind-err : (result : Result T JobActFault) (why : JobActFault) → result ≡ Err why → JobHeld (answer_call base result) Answers before now result
          → GainsBy (adds_by base result) → BehindAs Was Now from (refusal_of why)
      behind-err result why is held went =
          behind why (subst (λ (r : Result T JobActFault). JobHeld (answer_call base r) Answers before now r) is held)
          (subst (λ (r : Result T JobActFault). GainsBy (adds_by base r)) is went)

  -- ---- an act that asks

  module _ {T : Type 0} (Answers : HouseSeen D → Result T JobActFault → Type 0) (own own' : List ℕ) (before now : ToldHouse D) where
    pub asked-so : (x : T) (result : Result T JobActFault) → result ≡ Ok x → JobHeld Ask Answers before now result
        → Went between [] own own' (trail_in before) (trail_in now) → Asks Its (known own before) (known own' now)
    asked-so x result is held went =
        let held_ : JobHeld Ask Answers before now (Ok x) = subst (λ (r : Result T JobActFault). JobHeld Ask Answers before now r) is held in
        record {
          adds = act-adds Ask Answers own own' before now result held [] went;
          running = act-open Ask Answers own own' before now (Ok x) held_ held_.does_it.leaves refl;
        }

  -- memory lacked, or it was closed
  module _ {T : Type 0} (Says : List Entry → T → Type 0) (own own' : List ℕ) (before now : ToldHouse D) (was : IsOpenHouse before) where
    abbrev SaysSo : HouseSeen D → Result T JobActFault → Type 0
    SaysSo seen result = AnswersSo Says (book_of seen.trail) result

    abbrev AskHeld : Result T JobActFault → Type 0
    AskHeld result = JobHeld Ask SaysSo before now result

    abbrev WentNone : Type 0
    WentNone = Went between [] own own' (trail_in before) (trail_in now)

    ask-shut : AskHeld (Err (act.Call (fault.House house_fault.Store))) → WentNone → SweepsLess Its (known own before) (known own' now) run.Store
    ask-shut held went = record {
      items = [];
      adds = act-adds Ask SaysSo own own' before now (Err (act.Call (fault.House house_fault.Store))) held [] went;
      each = tt;
      stops = by (either held.house.house.trail.closed);
      full = tt;
    }
      where
        by : (held.house.house.trail.closed ≡ true) ⊎ (held.house.house.trail.closed ≡ false) → IsShutFor Its IsCleaning now
        by (inl shut) = inl (record { left = before; found = held.house; reached = held.reached; was = was; is = shut })
        by (inr running) = absurd (held.does_it.answers running)

    ask-refused : (why : JobActFault) → AskHeld (Err why) → WentNone → SweepsLess Its (known own before) (known own' now) (stopped why)
    ask-refused act.Unfit held went = absurd (held.does_it.answers held.does_it.leaves)
    ask-refused (act.Broken put count) held went = absurd (held.does_it.answers held.does_it.leaves)
    ask-refused (act.Call fault.Gone) held went = absurd (held.does_it.answers held.does_it.leaves)
    ask-refused (act.Call (fault.Full entries)) held went = absurd (held.does_it.answers held.does_it.leaves)
    ask-refused (act.Call fault.NotFound) held went = absurd (held.does_it.answers held.does_it.leaves)
    ask-refused (act.Call (fault.Needed txn)) held went = absurd (held.does_it.answers held.does_it.leaves)
    ask-refused (act.Call (fault.StillListed dir)) held went = absurd (held.does_it.answers held.does_it.leaves)
    ask-refused (act.Call (fault.Working job)) held went = absurd (held.does_it.answers held.does_it.leaves)
    ask-refused (act.Call fault.Starved) held went = absurd (held.does_it.answers held.does_it.leaves)
    ask-refused (act.Call (fault.House house_fault.Store)) held went = ask-shut held went
    ask-refused (act.Call (fault.House house_fault.NoMemory)) held went =
        none-less SaysSo own own' before now was nothing Ask (Err (act.Call (fault.House house_fault.NoMemory))) held held.does_it.leaves refl went
    ask-refused (act.Call (fault.House (house_fault.Failed count))) held went = absurd (held.does_it.answers held.does_it.leaves.0)

    pub asked-less : (result : Result T JobActFault) (why : JobActFault) (stop : PassFault) → result ≡ Err why → stop ≡ stopped why → AskHeld result → WentNone
        → SweepsLess Its (known own before) (known own' now) stop
    asked-less result why stop is stops held went =
        subst (λ (f : PassFault). SweepsLess Its (known own before) (known own' now) f) (sym stops)
        (ask-refused why (subst (λ (r : Result T JobActFault). AskHeld r) is held) went)

    -- what it says, of the book as it is now
    pub asked-says : (result : Result T JobActFault) (x : T) → result ≡ Ok x → AskHeld result → Says (book_of (trail_in now)) x
    asked-says result x is held =
        let held_ : AskHeld (Ok x) = subst (λ (r : Result T JobActFault). AskHeld r) is held in
        let same : trail_in now ≡ trail_in held_.house = held_.step.trail ∙ append-nil (trail_in held_.house) in
        subst (λ (trail : List TrailItem). Says (book_of trail) x) (sym same) (held_.does_it.answers held_.does_it.leaves)
