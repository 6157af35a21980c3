-- A compaction that an act asks for.
use Rattle.std.proofs.Common.{◌≡◌, ℕ, ◌+◌, ◌<◌, true, false, Option, Ok, Err, List, [], ◌∷◌, ◌++◌, length, refl, sym, ap, ◌∙◌, subst, append-nil, arith}
use Rattle.std.specs.Prelude.{if◌then◌else◌}
use Rattle.std.proofs.lemmas.List.{length-append}
use Rattle.hv_base.specs.declared.ids.JobId.{JobId}
use Rattle.hv_shelf.specs.Disk.{Store}
use Rattle.hv_history.specs.declared.entry.Entry.{Entry}
use Rattle.hv_history.specs.declared.entry.Entry.TheVariants as entry
use Rattle.hv_history.specs.declared.entry.Cause.{Cause}
use Rattle.hv_history.specs.declared.entry.Cause.TheVariants as cause
use Rattle.hv_history.specs.declared.entry.JobKind.{JobKind}
use Rattle.hv_history.specs.JobsTrue.{kind_of, was_busy}
use Rattle.hv_history.specs.State.{State, numbered, state_of}
use Rattle.hv_history.specs.Legal.{Of, FullFits, profile}
use Rattle.hv_history.proofs.JobsStay.{asked-busy}
use Rattle.hv_stands.proofs.Behind.{one-behind}
use Rattle.hv_trail.specs.declared.trail.TrailItem.{TrailItem}
use Rattle.hv_trail.specs.declared.trail.TrailItem.TheVariants.{Noted}
use Rattle.hv_trail.specs.Trail.{book_of, state_at}
use Rattle.hv_trail.specs.Kept.{trail_of}
use Rattle.hv_trail.specs.Steps.{Note, Done, Step}
use Rattle.hv_trail.proofs.LastingLaws.{book-append}
use Rattle.hv_telling.specs.hv_house.specs.declared.house.House.{House}
use Rattle.hv_telling.specs.hv_house.specs.declared.fault.HouseFault.{HouseFault}
use Rattle.hv_telling.specs.hv_house.specs.House.{entries_of}
use Rattle.hv_telling.specs.hv_house.specs.Steps.{seen_of, fault_outcome}
use Rattle.hv_telling.specs.Telling.{IsWhole}
use Rattle.hv_acts.specs.declared.aborted.Aborted.{Aborted}
use Rattle.hv_acts.specs.declared.compacting.AskFor.{AskFor}
use Rattle.hv_acts.specs.declared.compacting.AskedFor.TheVariants as found
use Rattle.hv_acts.specs.declared.fault.ActFault.{ActFault}
use Rattle.hv_acts.specs.declared.fault.ActFault.TheVariants as act
use Rattle.hv_acts.specs.Answers.{call_behind, act_outcome, NoTest, IsLate, own_entry, EntryStep, aborted_line}
use Rattle.hv_acts.specs.Aborting.{AbortStep, abort_of}
use Rattle.hv_acts.specs.Compacting.{next_job, asked_entry, ask_in, is_busy_then, to_ask, RestsOnJob, AskStep}
use Rattle.hv_acts.specs.Meant.{RunsWith}
use Rattle.hv_acts.specs.Passing.{HasStood}
use Rattle.hv_acts.proofs.Steps.{book-is, whole-keeps}
use Rattle.hv_acts.proofs.ReadSteps.{answered}
use Rattle.hv_acts.proofs.Leaves.{late-leaves}
use Rattle.hv_acts.proofs.Notes.{why-of, why-for, asked-late}
use Rattle.hv_acts.proofs.Aborts.{is-full}
use Rattle.hv_acts.proofs.Gives.{has-room}

-- ---- what was tested

-- whether one was busy is a matter of the trail's book
pub busy-is : {D : Type 0} (house : House D) (asked : AskFor) (entries : List Entry) → entries ≡ entries_of house
    → was_busy (state_of entries) asked.place (ask_in asked) ≡ is_busy_then (trail_of house.trail) asked
busy-is house asked entries are =
    ap (λ (book : List Entry). was_busy (state_of book) asked.place (ask_in asked)) (are ∙ sym (book-is house))

pub job-next : {D : Type 0} (house : House D) (job : JobId) → job.0 ≡ length (state_of (entries_of house)).jobs + 1 → job ≡ next_job (trail_of house.trail)
job-next house job e =
    let number : job.0 ≡ length (state_of (book_of (trail_of house.trail))).jobs + 1 =
    e ∙ ap (λ (book : List Entry). length (state_of book).jobs + 1) (sym (book-is house)) in
    λ i. record { 0 = number i }

-- ---- what is noted

pub entry-is : (asked : AskFor) (job next : JobId) (kind : JobKind) → job ≡ next → kind ≡ kind_of asked.kind
    → entry.Asked job asked.table asked.partition kind asked.by.0 ≡ asked_entry asked next
entry-is asked job next kind same kinds = λ i. entry.Asked (same i) asked.table asked.partition (kinds i) asked.by.0

ask-full : (trail : List TrailItem) (asked : AskFor) → Of (state_at trail) asked.by.0 (FullFits profile (state_at trail))
    → to_ask trail asked ≡ entry.Abort asked.by cause.Full
unfolding to_ask
ask-full trail asked full =
    ap (λ b. if b then entry.Abort asked.by cause.Full else asked_entry asked (next_job trail))
    (is-full (state_at trail) (numbered (state_at trail).transactions asked.by.0) full)

ask-free : (trail : List TrailItem) (asked : AskFor) → RunsWith trail asked.by 0 → (Of (state_at trail) asked.by.0 (FullFits profile (state_at trail)) → ⊥)
    → to_ask trail asked ≡ asked_entry asked (next_job trail)
unfolding to_ask
ask-free trail asked runs room =
    ap (λ b. if b then entry.Abort asked.by cause.Full else asked_entry asked (next_job trail))
    (has-room (state_at trail) (numbered (state_at trail).transactions asked.by.0) runs.0 room)

-- ---- its step

module _ {D : Type 0} (told : D → Option Store) (faults : D → ℕ) (asked : AskFor) where
  pub ask-aborted : (aborted : Aborted) (before now : House D) → is_busy_then (trail_of before.trail) asked ≡ false → RunsWith (trail_of before.trail) asked.by 0
      → Of (state_at (trail_of before.trail)) asked.by.0 (FullFits profile (state_at (trail_of before.trail)))
      → AbortStep told faults (abort_of asked.by cause.Full (aborted_line cause.Full)) before now (Ok aborted)
      → AskStep told faults asked before now (Ok (found.Aborted aborted))
  ask-aborted aborted before now idle runs full s = record {
    keeps = s.keeps;
    step = subst (λ (why : Cause). Step told faults (Note (entry.Abort asked.by why)) Done (seen_of before) (seen_of now)) (sym s.tells.cause_is) s.step;
    answers = record {
      idle = idle;
      full = record {
        at = record { place = s.tells.place; line = s.tells.line_is ∙ ap aborted_line (sym s.tells.cause_is) };
        cause_is = s.tells.cause_is;
        runs = runs;
        full = full;
      };
    };
    leaves = s.running;
  }

  pub ask-halted : (why : HouseFault) (before now : House D) → Of (state_at (trail_of before.trail)) asked.by.0 (FullFits profile (state_at (trail_of before.trail)))
      → AbortStep told faults (abort_of asked.by cause.Full (aborted_line cause.Full)) before now (Err why)
      → AskStep told faults asked before now (Err (act.House why))
  ask-halted why before now full s = record {
    keeps = s.keeps;
    step =
        subst (λ (e : Entry). Step told faults (Note e) (fault_outcome why) (seen_of before) (seen_of now)) (sym (ask-full (trail_of before.trail) asked full)) s.step;
    answers = tt;
    leaves = s.leaves;
  }

  pub ask-done : (job : JobId) (before now : House D) → is_busy_then (trail_of before.trail) asked ≡ false → RunsWith (trail_of before.trail) asked.by 0
      → job ≡ next_job (trail_of before.trail)
      → EntryStep {T = Unit {0}} told faults (own_entry asked.by (asked_entry asked (next_job (trail_of before.trail)))) before now (Ok tt)
      → AskStep told faults asked before now (Ok (found.Job job))
  ask-done job before now idle runs next s = record {
    keeps = s.keeps;
    step = s.step;
    answers = record { idle = idle; rests = record { runs = runs; fits = s.answers.0 }; job_is = next };
    leaves = s.leaves;
  }

  pub ask-refused : (why : ActFault) (before now : House D) → RunsWith (trail_of before.trail) asked.by 0
      → (Of (state_at (trail_of before.trail)) asked.by.0 (FullFits profile (state_at (trail_of before.trail))) → ⊥)
      → EntryStep {T = Unit {0}} told faults (own_entry asked.by (asked_entry asked (next_job (trail_of before.trail)))) before now (Err why)
      → AskStep told faults asked before now (Err why)
  ask-refused why before now runs room s = record {
    keeps = s.keeps;
    step =
        subst (λ (e : Entry). Step told faults (call_behind (Note e) why) (act_outcome why) (seen_of before) (seen_of now))
        (sym (ask-free (trail_of before.trail) asked runs room)) s.step;
    answers = why-for NoTest (trail_of before.trail) asked.by _ (RestsOnJob (trail_of before.trail) asked) (λ rests. rests.fits) why s.answers;
    leaves = s.leaves;
  }

  pub ask-late : (why : ActFault) (house : House D) → IsWhole told house → IsLate (trail_of house.trail) asked.by why → (RunsWith (trail_of house.trail) asked.by 0 → ⊥)
      → AskStep told faults asked house house (Err why)
  ask-late why house whole late not_ = record {
    keeps = whole-keeps told house whole;
    step = asked-late told faults (seen_of house) (trail_of house.trail) asked.by (Note (to_ask (trail_of house.trail) asked)) why late;
    answers = why-of NoTest (trail_of house.trail) asked.by (RestsOnJob (trail_of house.trail) asked) why late (λ rests. not_ rests.runs);
    leaves = late-leaves told faults (trail_of house.trail) asked.by why (seen_of house) (seen_of house) late whole.ready.kept.running;
  }

  pub ask-stands : (house : House D) → IsWhole told house → RunsWith (trail_of house.trail) asked.by 0 → is_busy_then (trail_of house.trail) asked ≡ true
      → AskStep told faults asked house house (Ok found.Busy)
  ask-stands house whole runs busy = record {
    keeps = whole-keeps told house whole;
    step = answered told faults (seen_of house);
    answers = (runs, busy);
    leaves = whole.ready.kept.running;
  }

-- ---- behind it one stands for its statement

pub stood-busy : (trail : List TrailItem) (asked : AskFor) → asked.place < length (book_of trail) → is_busy_then trail asked ≡ true
    → HasStood trail asked.place (ask_in asked)
stood-busy trail asked early busy = record { then_ = trail; front = record { more = []; is = sym (append-nil trail) }; early = early; busy = busy }

pub stood-asked : (trail now : List TrailItem) (asked : AskFor) (job : JobId) → asked.place < length (book_of trail)
    → now ≡ trail ++ Noted (asked_entry asked job) ∷ [] → HasStood now asked.place (ask_in asked)
stood-asked trail now asked job early is =
    let event : Entry = asked_entry asked job in
    let books : book_of now ≡ book_of trail ++ event ∷ [] = ap book_of is ∙ book-append trail (Noted event ∷ []) in
    let longer : length (book_of now) ≡ length (book_of trail) + 1 = ap length books ∙ length-append (book_of trail) (event ∷ []) in
    record {
      then_ = now;
      front = record { more = []; is = sym (append-nil now) };
      early = omega (arith, early, longer);
      busy =
          ap (λ (book : List Entry). was_busy (state_of book) asked.place (ask_in asked)) books
          ∙ ap (λ (s : State). was_busy s asked.place (ask_in asked)) (one-behind (book_of trail) event)
          ∙ asked-busy (state_of (book_of trail)) asked.place job asked.table asked.partition (kind_of asked.kind) asked.by.0;
    }
