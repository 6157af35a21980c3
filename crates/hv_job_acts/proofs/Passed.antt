-- How an act passes on what a call promised, and what it leaves where a test refused it or the house was closed.
use Rattle.std.proofs.Common.{◌≡◌, ℕ, ◌<◌, inl, Bool, true, false, Option, List, [], ◌∷◌, ◌++◌, Result, Ok, Err, refl, sym, ap, ◌∙◌, subst, append-nil, true≢false, le_refl, arith}
use Rattle.std.specs.Prelude.{◌||◌, IfErr}
use Rattle.hv_shelf.specs.declared.place.Place.{Place}
use Rattle.hv_shelf.specs.declared.place.DirAt.{DirAt}
use Rattle.hv_shelf.specs.Disk.{Store}
use Rattle.hv_history.specs.declared.entry.Entry.{Entry}
use Rattle.hv_history.specs.State.{State, state_of}
use Rattle.hv_trail.specs.declared.trail.Reader.{Reader}
use Rattle.hv_trail.specs.declared.trail.Renaming.{Renaming}
use Rattle.hv_trail.specs.Kept.{trail_of}
use Rattle.hv_trail.specs.Trail.{state_at, book_of}
use Rattle.hv_trail.specs.Steps.{HouseSeen, Call, Note, Put, Remove, Publish, Read, Ask, Closed, Changes, CutsPublication, EndsCut, IsShutOut, MayEnd, gains, Step}
use Rattle.hv_acts.specs.hv_telling.specs.hv_house.specs.declared.fault.HouseFault.{HouseFault}
use Rattle.hv_acts.specs.hv_telling.specs.hv_house.specs.declared.fault.HouseFault.TheVariants as house_fault
use Rattle.hv_acts.specs.hv_telling.specs.hv_house.specs.declared.house.House.{House}
use Rattle.hv_acts.specs.hv_telling.specs.hv_house.specs.House.{entries_of}
use Rattle.hv_acts.specs.hv_telling.specs.hv_house.specs.Steps.{seen_of}
use Rattle.hv_acts.specs.hv_telling.specs.Telling.{IsWhole}
use Rattle.hv_job_calls.specs.declared.fault.JobFault.{JobFault}
use Rattle.hv_job_calls.specs.declared.fault.JobFault.TheVariants as fault
use Rattle.hv_job_calls.specs.Steps.{JobStep, job_call, HasRisenFor}
use Rattle.hv_acts.specs.Told.{IsWholeOrClosed}
use Rattle.hv_acts.specs.hv_telling.proofs.Told.{told-stays}
use Rattle.hv_acts.proofs.Steps.{book-is, moves-same, or-false, asked, shut-closed, whole-keeps, keeps-behind}
use Rattle.hv_job_acts.specs.declared.fault.JobActFault.{JobActFault}
use Rattle.hv_job_acts.specs.declared.fault.JobActFault.TheVariants as act
use Rattle.hv_job_acts.specs.Answers.{answer_call, in_act, HouseLeaves, JobDoes, ActStep}

-- what is so of the house's book is so of its trail's
pub at-trail : {D : Type 0} (house : House D) (P : State → Type 0) → P (state_of (entries_of house)) → P (state_at (trail_of house.trail))
at-trail house P is = subst (λ (book : List Entry). P (state_of book)) (sym (book-is house)) is

pub at-book : {D : Type 0} (house : House D) (P : State → Type 0) → P (state_at (trail_of house.trail)) → P (state_of (entries_of house))
at-book house P is = subst (λ (book : List Entry). P (state_of book)) (book-is house) is

-- ---- a test refused it

module _ {D : Type 0} (told : D → Option Store) (faults : D → ℕ) where
  pub unfit-step : {T : Type 0} (call : Call) (Answers : Result T JobActFault → Type 0) (house : House D) → IsWhole told house → Answers (Err act.Unfit)
      → ActStep told faults (answer_call {T = T} call (Err act.Unfit)) house house Answers (Err act.Unfit)
  unfit-step call Answers house whole is = record {
    keeps = whole-keeps told house whole;
    step = asked told faults (seen_of house);
    does = record { answers = λ open_. is; leaves = whole.ready.kept.running; up = le_refl (faults house.shelf) };
  }

  pub broken-step : {T : Type 0} (call : Call) (put : Bool) (count : ℕ) (Answers : Result T JobActFault → Type 0) (house : House D) → IsWhole told house
      → Answers (Err (act.Broken put count)) → ActStep told faults (answer_call {T = T} call (Err (act.Broken put count))) house house Answers (Err (act.Broken put count))
  broken-step call put count Answers house whole is = record {
    keeps = whole-keeps told house whole;
    step = asked told faults (seen_of house);
    does = record { answers = λ open_. is; leaves = whole.ready.kept.running; up = le_refl (faults house.shelf) };
  }

  -- nothing was to be done, or the house was only asked
  pub asked-done : {T : Type 0} (x : T) (Answers : Result T JobActFault → Type 0) (house : House D) → IsWhole told house → Answers (Ok x)
      → ActStep told faults Ask house house Answers (Ok x)
  asked-done x Answers house whole is = record {
    keeps = whole-keeps told house whole;
    step = record {
      may = tt;
      trail = sym (append-nil (trail_of house.trail));
      store = moves-same (told house.shelf) _ (λ s. refl);
      closed = or-false house.trail.closed;
      starved = refl;
      shut_out = λ shut. tt;
      counts = omega arith;
      rest = record { start = refl; opened = refl; limits = refl };
    };
    does = record { answers = λ open_. is; leaves = whole.ready.kept.running; up = le_refl (faults house.shelf) };
  }

  -- memory lacked before the call
  pub lacked-step : {T : Type 0} (Answers : Result T JobActFault → Type 0) (house : House D) → IsWhole told house
      → Answers (Err (act.Call (fault.House house_fault.NoMemory)))
      → ActStep told faults Ask house house Answers (Err (act.Call (fault.House house_fault.NoMemory)))
  lacked-step Answers house whole is = record {
    keeps = whole-keeps told house whole;
    step = asked told faults (seen_of house);
    does = record { answers = λ open_. is; leaves = whole.ready.kept.running; up = le_refl (faults house.shelf) };
  }

  -- ---- it passes on what a call promised

  pub rose-leaves : (why : HouseFault) (before now : House D) → before.trail.closed ≡ false → HasRisenFor (faults before.shelf) (faults now.shelf) (fault.House why)
      → HouseLeaves faults (seen_of before) (seen_of now) why
  rose-leaves house_fault.Store before now running risen = λ open_. risen
  rose-leaves house_fault.NoMemory before now running risen = running
  rose-leaves (house_fault.Failed count) before now running risen =
      let same : count ≡ faults now.shelf = risen.0 in
      let rose : faults before.shelf < faults now.shelf = risen.1 in
      (running, omega (arith, same, rose), same)

  module _ {T : Type 0} (call : Call) (before now : House D) (was : IsWhole told before) (P : JobFault → Type 0) (Answers : Result T JobActFault → Type 0) where
    -- what closed the house for want of memory is no readiness
    starved-keeps : JobStep {T = T} told faults call before now (Err fault.Starved) → IsWholeOrClosed told now
    starved-keeps s = record {
      whole = λ still. absurd (shut-closed before.trail.closed now.trail.closed was.ready.kept.running s.step.closed still);
      opens = λ is. s.opens (told-stays told now before (sym s.start) is);
    }

    pub act-step : (r : Result T JobFault) → JobStep told faults (job_call call r) before now r → IfErr r P → (P fault.NotFound → ⊥) → Answers (in_act r)
        → ActStep told faults (answer_call call (in_act r)) before now Answers (in_act r)
    act-step (Ok x) s others never is = record {
      keeps = whole-keeps told now s.whole;
      step = s.step;
      does = record { answers = λ open_. is; leaves = was.ready.kept.running; up = s.later };
    }
    act-step (Err fault.Gone) s others never is = record {
      keeps = whole-keeps told now s.stays;
      step = s.step;
      does = record { answers = λ open_. is; leaves = was.ready.kept.running; up = s.later };
    }
    act-step (Err (fault.Full entries)) s others never is = record {
      keeps = whole-keeps told now s.stays;
      step = s.step;
      does = record { answers = λ open_. is; leaves = was.ready.kept.running; up = s.later };
    }
    act-step (Err fault.NotFound) s others never is = absurd (never others)
    act-step (Err (fault.Needed txn)) s others never is = record {
      keeps = whole-keeps told now s.stays;
      step = s.step;
      does = record { answers = λ open_. is; leaves = was.ready.kept.running; up = s.later };
    }
    act-step (Err (fault.StillListed dir)) s others never is = record {
      keeps = whole-keeps told now s.stays;
      step = s.step;
      does = record { answers = λ open_. is; leaves = was.ready.kept.running; up = s.later };
    }
    act-step (Err (fault.Working job)) s others never is = record {
      keeps = whole-keeps told now s.stays;
      step = s.step;
      does = record { answers = λ open_. is; leaves = was.ready.kept.running; up = s.later };
    }
    act-step (Err fault.Starved) s others never is = record {
      keeps = starved-keeps s;
      step = s.step;
      does = record { answers = λ open_. is; leaves = was.ready.kept.running; up = s.later };
    }
    act-step (Err (fault.House why)) s others never is = record {
      keeps = keeps-behind told before now why was s.stays s.opens s.start s.step.closed;
      step = s.step;
      does = record { answers = λ open_. is; leaves = rose-leaves why before now was.ready.kept.running s.failed; up = s.later };
    }

-- ---- a house that was closed

module _ {D : Type 0} (told : D → Option Store) (faults : D → ℕ) (seen : HouseSeen D) (closed : seen.closed ≡ true) where
  shut : (call : Call) → MayEnd call Closed → gains call Closed ≡ [] → ((s : Store) → Changes (book_of seen.trail) call Closed s s)
      → IsShutOut call Closed → Step told faults call Closed seen seen
  shut call may none same out = record {
    may = may;
    trail = sym (append-nil seen.trail) ∙ ap (λ items. seen.trail ++ items) (sym none);
    store = moves-same (told seen.shelf) _ same;
    closed = closed ∙ sym (ap (λ (b : Bool). b || true) closed);
    starved = refl;
    shut_out = λ shut_. out;
    counts = omega arith;
    rest = record { start = refl; opened = refl; limits = refl };
  }

  pub shut-ask : Step told faults Ask Closed seen seen
  shut-ask = shut Ask tt refl (λ s. refl) tt

  pub shut-read : (by : Option Reader) → Step told faults (Read by) Closed seen seen
  shut-read by = shut (Read by) tt refl (λ s. refl) refl

  pub shut-put : (by : Reader) (place : Place) (bytes : List ℕ) → Step told faults (Put by place bytes) Closed seen seen
  shut-put by place bytes = shut (Put by place bytes) tt refl (λ s. inl refl) refl

  pub shut-remove : (by : Option Reader) (dir : DirAt) → Step told faults (Remove by dir) Closed seen seen
  shut-remove by dir = shut (Remove by dir) tt refl (λ s. inl refl) refl

  ends-cut : (renames : List Renaming) (event : Entry) (book : List Entry) (s : Store) → EndsCut renames event book s s
  ends-cut [] event book s = record { tree_is = refl; reads = λ is. inl is }
  ends-cut (renaming ∷ renames) event book s = record { tree_is = refl; reads = λ is. is }

  cuts : (renames : List Renaming) (event : Entry) (book : List Entry) (s : Store) → CutsPublication renames event book s s
  cuts renames event book s = record {
    front = [];
    rest = renames;
    parts = refl;
    middle = s;
    moved = refl;
    ends = ends-cut renames event book s;
  }

  pub shut-publish : (renames : List Renaming) (event : Entry) → Step told faults (Publish renames event) Closed seen seen
  shut-publish renames event = shut (Publish renames event) tt refl (cuts renames event (book_of seen.trail)) refl

  pub shut-note : (event : Entry) → Step told faults (Note event) Closed seen seen
  shut-note event = shut (Note event) tt refl (λ s. record { tree_is = refl; reads = λ is. inl is }) refl

  -- it answers that its store failed, which says nothing of it
  pub shut-does : {T : Type 0} (Answers : Result T JobActFault → Type 0) → JobDoes faults seen seen Answers (Err (act.Call (fault.House house_fault.Store)))
  shut-does Answers = record {
    answers = λ open_. absurd (true≢false (sym closed ∙ open_));
    leaves = λ open_. absurd (true≢false (sym closed ∙ open_));
    up = le_refl (faults seen.shelf);
  }
