-- What serving a script's actions leaves, by its status.
use Rattle.std.proofs.Common.{◌≡◌, ℕ, Bool, true, false, Result, Ok, Err, IfOk, IfErr, Option, Some, None, List, ◌++◌, refl, sym, ap, ◌∙◌, subst, arith, append_assoc, ◌⊎◌, ◌+◌, ◌<◌, ◌≤◌, inl, inr}
use Rattle.hv_base.specs.Told.{Tells, Moves, StaysTold}
use Rattle.hv_shelf.specs.Disk.{Store}
use Rattle.hv_history.specs.declared.entry.Entry.{Entry}
use Rattle.hv_history.specs.State.{state_of}
use Rattle.hv_history.specs.Legal.{load, IsLegal, profile}
use Rattle.hv_history.specs.Journal.{Reads}
use Rattle.hv_base.specs.Sink.{Gains, GainsPart}
use Rattle.hv_journal.specs.Appending.{Holds, KeepsTree}
use Rattle.hv_law_made.specs.Opening.{whole_jobs}
use Rattle.hv_script.specs.declared.actions.Action.{Action}
use Rattle.hv_session.specs.hv_beginning.specs.hv_steps.specs.hv_table_reader.specs.hv_acts.specs.hv_telling.specs.hv_house.specs.declared.house.House.{House}
use Rattle.hv_session.specs.hv_beginning.specs.hv_steps.specs.hv_table_reader.specs.hv_acts.specs.hv_telling.specs.hv_house.specs.House.{entries_of, IsFaithful}
use Rattle.hv_session.specs.hv_beginning.specs.hv_steps.specs.hv_table_reader.specs.hv_acts.specs.hv_telling.specs.hv_house.specs.Steps.{IsOpenedOver}
use Rattle.hv_session.specs.hv_beginning.specs.hv_steps.specs.hv_table_reader.specs.hv_acts.specs.hv_telling.specs.hv_house.specs.declared.fault.HouseFault.{HouseFault}
use Rattle.hv_session.specs.hv_beginning.specs.hv_steps.specs.hv_table_reader.specs.hv_acts.specs.hv_telling.specs.hv_house.specs.declared.fault.HouseFault.TheVariants as fault
use Rattle.hv_session.specs.hv_beginning.specs.hv_steps.specs.hv_table_reader.specs.hv_acts.specs.hv_telling.specs.hv_house.specs.declared.boot.BootFault.{BootFault}
use Rattle.hv_session.specs.hv_beginning.specs.hv_steps.specs.hv_table_reader.specs.hv_acts.specs.hv_telling.specs.hv_house.specs.declared.boot.BootFault.TheVariants as boot
use Rattle.hv_session.specs.hv_beginning.specs.hv_steps.specs.hv_table_reader.specs.hv_acts.specs.hv_telling.specs.hv_house.specs.Booting.{opening_of, opening_with, opening_entries, OpensTo, Opens, IsIdle, StopsOpening, IsCutOpening, IsOpenStill, StopsOpen, KeepsIdle, HasFullBook}
use Rattle.hv_session.specs.hv_beginning.specs.hv_steps.specs.hv_table_reader.specs.hv_acts.specs.hv_telling.specs.hv_house.specs.hv_recovery.proofs.Books.{is_once as one-journal}
use Rattle.hv_session.specs.hv_beginning.specs.hv_steps.specs.hv_table_reader.specs.hv_acts.specs.hv_telling.specs.hv_house.proofs.Boots.{reads-journal}
use Rattle.hv_session.specs.hv_beginning.specs.hv_steps.specs.hv_table_reader.specs.hv_acts.specs.hv_telling.specs.hv_house.specs.hv_recovery.specs.Recovery.{IsJournalOf}
use Rattle.hv_session.specs.hv_beginning.specs.hv_steps.specs.hv_table_reader.specs.hv_acts.specs.hv_telling.specs.Telling.{IsWhole, IsToldHouse, OpensLater}
use Rattle.hv_session.specs.hv_beginning.specs.hv_steps.specs.hv_table_reader.specs.hv_acts.specs.hv_telling.proofs.Told.{told-stays, whole-shown, found-some}
use Rattle.hv_session.specs.hv_beginning.specs.hv_steps.specs.hv_table_reader.specs.hv_acts.specs.hv_telling.proofs.Opening.{opened-is-told}
use Rattle.hv_session.specs.hv_beginning.specs.hv_steps.specs.hv_table_reader.specs.hv_acts.specs.hv_telling.proofs.Opens.{faithful-is-left}
use Rattle.hv_program.specs.declared.stop.Stop.{Stop}
use Rattle.hv_program.specs.declared.stop.Stop.TheVariants as stop
use Rattle.hv_program.specs.Stops.{status_of_stop}
use Rattle.hv_program.specs.Lines.{full_line}
use Rattle.hv_program.specs.Change.{Change, from_to}
use Rattle.hv_program.specs.Doing.{Standing}
use Rattle.hv_program.specs.Own.{Grows}
use Rattle.hv_program.specs.Running.{IsHalfway, IsPartly, PrintsAll, CutsOff, StopsIn, Halts, HasAll}
use Rattle.hv_program.proofs.OwnEntries.{grows-wider}
use Rattle.hv_program.proofs.CutOpenings.{still-opens, later-behind}
use Rattle.hv_program.specs.Results.{IsBookOf, HasBook, IsServed, IsCutOff, IsStopped, IsUnopened, ReadsTo, ReadsFurther, StopsForMemory, StopsForStore}
use Rattle.hv_program.specs.Serving.{ran_status, IsCutFull, ServedOf, BothTell, Serves, IsSaid}

pub tells-still : {A : Type 0} (a b : Option A) (x : A) → StaysTold a b → a ≡ Some x → (y : A) × (b ≡ Some y)
tells-still a (Some y) x stays e = (y, refl)
tells-still None None x stays e = cc
tells-still (Some z) None x stays e = absurd stays

-- ---- what is left by a result

book-of : (low high : ℕ) (start book : List Entry) → IsLegal profile book → Grows low high start book → IsBookOf low high start book
book-of low high start book legal grows = record { legal = legal; grows = grows }

has-book : (book : List Entry) (store : Store) → Reads book store.journal → IsFaithful book store → HasBook book store
has-book book store reads faithful = record { reads = reads; stands = faithful.stands }

all-served : (low high : ℕ) (actions : List Action) (refused : Bool) (written now : List ℕ) (store : Store) (start book : List Entry)
    → IsFaithful book store → Reads book store.journal → PrintsAll (from_to low high) start book actions (from_to (Some written) (Some now)) refused
    → IsServed (from_to low high) start actions (from_to written now) store refused
all-served low high actions refused written now store start book faithful reads h = record {
  last = record { book = book; waiting = h.0 };
  is_book = book-of low high start book faithful.legal h.1.grows;
  has_book = has-book book store reads faithful;
  output = h.1.output;
  wrote = h.1.written;
  are_done = h.1.are_done;
}

cut-off : (low high : ℕ) (actions : List Action) (written now : List ℕ) (store : Store) (start book : List Entry)
    → HasAll book store → CutsOff (from_to low high) start book actions (from_to (Some written) (Some now))
    → IsCutOff (from_to low high) start actions (from_to written now) store
cut-off low high actions written now store start book has h = record {
  front = h.front;
  action = h.action;
  behind = h.behind;
  actions_are = h.actions_are;
  before = h.before;
  last = record { book = book; waiting = h.waiting };
  is_book = book-of low high start book has.1.legal h.grows;
  has_book = has-book book store has.0 has.1;
  output = h.output;
  refused = h.refused;
  are_done = h.are_done;
  reply = h.reply;
  this = h.this;
  is_done = h.is_done;
  wrote = h.written;
}

as-halfway : (before : Standing) (act : Action) (now : List Entry) → IsPartly (Unit {0}) before act now → IsHalfway before act now
as-halfway before act now part = record {
  added = part.added;
  book = part.book;
  of_it = part.of_it;
  legal = part.legal tt;
  unended = part.unended;
  opens = part.opens;
}

stopped : (why : HouseFault) (told : Option Store) (low high : ℕ) (actions : List Action) (written now : List ℕ) (start book : List Entry) (Keeps : Standing → Action → List Entry → Type 0)
    → (h : StopsIn why told (from_to low high) (from_to start book) actions (from_to (Some written) (Some now))) → Keeps h.before h.action book → (after : Store) → OpensLater book after
    → IsStopped (from_to low high) start actions (from_to written now) after Keeps
stopped why told low high actions written now start book Keeps h keeps after opens = record {
  front = h.front;
  action = h.action;
  behind = h.behind;
  actions_are = h.actions_are;
  before = h.before;
  is_before = book-of low high start h.before.book h.legal h.grows;
  book = book;
  halfway = as-halfway h.before h.action book h.stops.halfway;
  output = h.output;
  refused = h.refused;
  are_done = h.are_done;
  wrote = h.written;
  keeps = keeps;
  opens = opens;
}

-- ---- by the status

served-zero : (low high : ℕ) (opened : List Entry) (actions : List Action) (written now : List ℕ) (before after : Store) → IsServed (from_to low high) (opening_of before.tree opened) actions (from_to written now) after false → ServedOf 0 (from_to low high) opened actions (from_to written now) (from_to before after)
served-zero low high opened actions written now before after h = record {
  accepted = λ e. h;
  refused = λ e. absurd (omega (arith, e));
  source = λ e. omega (arith, e);
  sink = λ e. absurd (omega (arith, e));
  store = λ e. absurd (omega (arith, e));
  memory = λ e. absurd (omega (arith, e));
}

served-one : (low high : ℕ) (opened : List Entry) (actions : List Action) (written now : List ℕ) (before after : Store) → IsServed (from_to low high) (opening_of before.tree opened) actions (from_to written now) after true → ServedOf 1 (from_to low high) opened actions (from_to written now) (from_to before after)
served-one low high opened actions written now before after h = record {
  accepted = λ e. absurd (omega (arith, e));
  refused = λ e. h;
  source = λ e. omega (arith, e);
  sink = λ e. absurd (omega (arith, e));
  store = λ e. absurd (omega (arith, e));
  memory = λ e. absurd (omega (arith, e));
}

served-cut : (low high : ℕ) (opened : List Entry) (actions : List Action) (written now : List ℕ) (before after : Store)
    → IsCutOff (from_to low high) (opening_of before.tree opened) actions (from_to written now) after ⊎ IsCutFull opened (from_to written now) (from_to before after) → ServedOf 4 (from_to low high) opened actions (from_to written now) (from_to before after)
served-cut low high opened actions written now before after h = record {
  accepted = λ e. absurd (omega (arith, e));
  refused = λ e. absurd (omega (arith, e));
  source = λ e. omega (arith, e);
  sink = λ e. h;
  store = λ e. absurd (omega (arith, e));
  memory = λ e. absurd (omega (arith, e));
}

served-four : (low high : ℕ) (opened : List Entry) (actions : List Action) (written now : List ℕ) (before after : Store) → IsCutOff (from_to low high) (opening_of before.tree opened) actions (from_to written now) after → ServedOf 4 (from_to low high) opened actions (from_to written now) (from_to before after)
served-four low high opened actions written now before after h = served-cut low high opened actions written now before after (inl h)

served-five : (low high : ℕ) (opened : List Entry) (actions : List Action) (written now : List ℕ) (before after : Store) → StopsForStore (from_to low high) opened actions (from_to written now) (from_to before after) → ServedOf 5 (from_to low high) opened actions (from_to written now) (from_to before after)
served-five low high opened actions written now before after h = record {
  accepted = λ e. absurd (omega (arith, e));
  refused = λ e. absurd (omega (arith, e));
  source = λ e. omega (arith, e);
  sink = λ e. absurd (omega (arith, e));
  store = λ e. h;
  memory = λ e. absurd (omega (arith, e));
}

served-seven : (low high : ℕ) (opened : List Entry) (actions : List Action) (written now : List ℕ) (before after : Store) → StopsForMemory (from_to low high) opened actions (from_to written now) (from_to before after) → ServedOf 7 (from_to low high) opened actions (from_to written now) (from_to before after)
served-seven low high opened actions written now before after h = record {
  accepted = λ e. absurd (omega (arith, e));
  refused = λ e. absurd (omega (arith, e));
  source = λ e. omega (arith, e);
  sink = λ e. absurd (omega (arith, e));
  store = λ e. absurd (omega (arith, e));
  memory = λ e. h;
}

served-ok : (low high : ℕ) (opened : List Entry) (actions : List Action) (refused : Bool) (written now : List ℕ) (before after : Store) (book : List Entry)
    → Reads book after.journal → IsFaithful book after → PrintsAll (from_to low high) (opening_of before.tree opened) book actions (from_to (Some written) (Some now)) refused
    → ServedOf (ran_status (Ok refused)) (from_to low high) opened actions (from_to written now) (from_to before after)
served-ok low high opened actions false written now before after book reads faithful prints =
    served-zero low high opened actions written now before after (all-served low high actions false written now after (opening_of before.tree opened) book faithful reads prints)
served-ok low high opened actions true written now before after book reads faithful prints =
    served-one low high opened actions written now before after (all-served low high actions true written now after (opening_of before.tree opened) book faithful reads prints)

-- ---- with what the outside tells

same_some : {A : Type 0} (x y : A) → Some x ≡ Some y → x ≡ y
same_some x y e = cc

-- the book that was opened is the one to which the store opens, with its opening over the files of that
same-opened : (told : Option Store) (store : Store) (opened start : List Entry) → told ≡ Some store → OpensTo opened store → Opens profile told start
    → start ≡ opening_of store.tree opened
same-opened told store opened start at opens is =
    let reads : IsJournalOf profile is.0 store.journal =
    subst (λ (o : Option Store). Tells o (λ s. IsJournalOf profile is.0 s.journal)) at is.1.reads in
    let whole : is.1.whole ≡ whole_jobs (state_of is.0) store.tree =
    subst (λ (o : Option Store). Tells o (λ s. is.1.whole ≡ whole_jobs (state_of is.0) s.tree)) at is.1.whole_are in
    let same : is.0 ≡ opened = one-journal is.0 opened store.journal reads.journal opens.journal in
    is.1.now_is ∙ ap (λ (w : List ℕ). opening_with w is.0) whole ∙ ap (opening_of store.tree) same

-- all were done
ended-ok : {D : Type 0} (told : D → Option Store) (now : House D) (low high : ℕ) (opened : List Entry) (actions : List Action) (refused : Bool) (sink : Option (List ℕ)) (written n : List ℕ) (before : Store)
    → IsWhole told now → IsToldHouse told now → sink ≡ Some n → PrintsAll (from_to low high) (opening_of before.tree opened) (entries_of now) actions (from_to (Some written) (Some n)) refused
    → BothTell sink (told now.shelf)
    (λ wrote after. ServedOf (ran_status (Ok refused)) (from_to low high) opened actions (from_to written wrote) (from_to before after))
ended-ok told now low high opened actions refused sink written n before whole is at_sink prints =
    let shown = whole-shown told now whole is in
    let reads : Reads (entries_of now) shown.0.journal = subst (λ (o : Option Store). Holds o (entries_of now)) shown.1 whole.ready.kept.reads in
    record {
      now = n;
      store = shown.0;
      sink_tells = at_sink;
      store_tells = shown.1;
      served = served-ok low high opened actions refused written n before shown.0 (entries_of now) reads shown.2 prints;
    }

-- or the run stopped
ended-err : (why : Stop) (low high : ℕ) (opened : List Entry) (actions : List Action) (sink : Option (List ℕ)) (told : Option Store) (written n : List ℕ) (before : Store) (book : List Entry)
    → sink ≡ Some n → Halts why (from_to low high) (from_to (opening_of before.tree opened) book) actions (from_to (Some written) (Some n)) told
    → BothTell sink told
    (λ wrote after. ServedOf (status_of_stop why) (from_to low high) opened actions (from_to written wrote) (from_to before after))
ended-err stop.Source low high opened actions sink told written n before book at_sink h = absurd h
ended-err stop.Sink low high opened actions sink told written n before book at_sink h =
    let left = found-some (HasAll book) told h.1 in
    record {
      now = n;
      store = left.0;
      sink_tells = at_sink;
      store_tells = left.1;
      served = served-four low high opened actions written n before left.0 (cut-off low high actions written n left.0 (opening_of before.tree opened) book left.2 h.0);
    }
ended-err stop.Store low high opened actions sink told written n before book at_sink h =
    let left = found-some (OpensLater book) told h.1 in
    let stops : StopsIn fault.Store (Some left.0) (from_to low high) (from_to (opening_of before.tree opened) book) actions (from_to (Some written) (Some n)) =
    subst (λ (o : Option Store). StopsIn fault.Store o (from_to low high) (from_to (opening_of before.tree opened) book) actions (from_to (Some written) (Some n))) left.1 h.0 in
    record {
      now = n;
      store = left.0;
      sink_tells = at_sink;
      store_tells = left.1;
      served = served-five low high opened actions written n before left.0
          (inl (stopped fault.Store (Some left.0) low high actions written n (opening_of before.tree opened) book (ReadsFurther left.0.journal) stops stops.stops.leaves left.0 left.2));
    }
ended-err stop.NoMemory low high opened actions sink told written n before book at_sink h =
    let left = found-some (OpensLater book) told h.1 in
    let stops : StopsIn fault.NoMemory (Some left.0) (from_to low high) (from_to (opening_of before.tree opened) book) actions (from_to (Some written) (Some n)) =
    subst (λ (o : Option Store). StopsIn fault.NoMemory o (from_to low high) (from_to (opening_of before.tree opened) book) actions (from_to (Some written) (Some n))) left.1 h.0 in
    record {
      now = n;
      store = left.0;
      sink_tells = at_sink;
      store_tells = left.1;
      served = served-seven low high opened actions written n before left.0
          (inl (stopped fault.NoMemory (Some left.0) low high actions written n (opening_of before.tree opened) book (ReadsTo left.0.journal) stops stops.stops.leaves.2 left.0 left.2));
    }

-- the counts may lie further apart
prints-wider : (first low high : ℕ) (start book : List Entry) (actions : List Action) (sink sink' : Option (List ℕ)) (refused : Bool) → first ≤ low
    → PrintsAll (from_to low high) start book actions (from_to sink sink') refused → PrintsAll (from_to first high) start book actions (from_to sink sink') refused
prints-wider first low high start book actions sink sink' refused below h = (
  h.0,
  record {
    grows = grows-wider low high first high start book below (omega arith) h.1.grows;
    later = h.1.later;
    output = h.1.output;
    written = h.1.written;
    are_done = h.1.are_done;
  },
)

stops-wider : (why : HouseFault) (told : Option Store) (first low high : ℕ) (start book : List Entry) (actions : List Action) (sink sink' : Option (List ℕ)) → first ≤ low
    → StopsIn why told (from_to low high) (from_to start book) actions (from_to sink sink')
    → StopsIn why told (from_to first high) (from_to start book) actions (from_to sink sink')
stops-wider why told first low high start book actions sink sink' below h = record {
  front = h.front;
  action = h.action;
  behind = h.behind;
  actions_are = h.actions_are;
  before = h.before;
  grows = grows-wider low high first high start h.before.book below (omega arith) h.grows;
  legal = h.legal;
  stops = h.stops;
  output = h.output;
  refused = h.refused;
  are_done = h.are_done;
  written = h.written;
}

cuts-wider : (first low high : ℕ) (start book : List Entry) (actions : List Action) (sink sink' : Option (List ℕ)) → first ≤ low
    → CutsOff (from_to low high) start book actions (from_to sink sink') → CutsOff (from_to first high) start book actions (from_to sink sink')
cuts-wider first low high start book actions sink sink' below h = record {
  front = h.front;
  action = h.action;
  behind = h.behind;
  actions_are = h.actions_are;
  before = h.before;
  waiting = h.waiting;
  grows = grows-wider low high first high start book below (omega arith) h.grows;
  output = h.output;
  refused = h.refused;
  are_done = h.are_done;
  reply = h.reply;
  this = h.this;
  is_done = h.is_done;
  written = h.written;
}

halts-wider : (why : Stop) (told : Option Store) (first low high : ℕ) (start book : List Entry) (actions : List Action) (sink sink' : Option (List ℕ)) → first ≤ low
    → Halts why (from_to low high) (from_to start book) actions (from_to sink sink') told → Halts why (from_to first high) (from_to start book) actions (from_to sink sink') told
halts-wider stop.Source told first low high start book actions sink sink' below h = h
halts-wider stop.Sink told first low high start book actions sink sink' below h = (cuts-wider first low high start book actions sink sink' below h.0, h.1)
halts-wider stop.Store told first low high start book actions sink sink' below h = (stops-wider fault.Store told first low high start book actions sink sink' below h.0, h.1)
halts-wider stop.NoMemory told first low high start book actions sink sink' below h = (stops-wider fault.NoMemory told first low high start book actions sink sink' below h.0, h.1)

-- what a run of a house promised, from its start to its close
record Promised {D : Type 0} (told : D → Option Store) (faults : Change ℕ) (ran : Result Bool Stop) (actions : List Action) (house now : House D)
    (sinks : Change (Option (List ℕ))) : Type 0 where
  start : now.start ≡ house.start
  whole : IfOk ran (λ _. IsWhole told now)
  prints : IsToldHouse told house → IfOk ran (PrintsAll faults (entries_of house) (entries_of now) actions sinks)
  halts : IsToldHouse told house → IfErr ran (λ why. Halts why faults (from_to (entries_of house) (entries_of now)) actions sinks (told now.shelf))

ended : {D : Type 0} (told : D → Option Store) (house now : House D) (first low high : ℕ) (opened : List Entry) (actions : List Action) (ran : Result Bool Stop) (sink sink' : Option (List ℕ))
    (written n : List ℕ) (before : Store) → first ≤ low → IsToldHouse told house → entries_of house ≡ opening_of before.tree opened → sink ≡ Some written → sink' ≡ Some n
    → Promised told (from_to low high) ran actions house now (from_to sink sink') → BothTell sink' (told now.shelf)
    (λ wrote after. ServedOf (ran_status ran) (from_to first high) opened actions (from_to written wrote) (from_to before after))
ended told house now first low high opened actions (Ok refused) sink sink' written n before below is begun at_sink at_now h =
    let prints : PrintsAll (from_to low high) (opening_of before.tree opened) (entries_of now) actions (from_to (Some written) (Some n)) refused =
    subst (λ (a : Option (List ℕ)). PrintsAll (from_to low high) (opening_of before.tree opened) (entries_of now) actions (from_to a (Some n)) refused) at_sink
    (subst (λ (a : Option (List ℕ)). PrintsAll (from_to low high) (opening_of before.tree opened) (entries_of now) actions (from_to sink a) refused) at_now
    (subst (λ (book : List Entry). PrintsAll (from_to low high) book (entries_of now) actions (from_to sink sink') refused) begun (h.prints is))) in
    ended-ok told now first high opened actions refused sink' written n before h.whole (told-stays told house now h.start is) at_now
    (prints-wider first low high (opening_of before.tree opened) (entries_of now) actions (Some written) (Some n) refused below prints)
ended told house now first low high opened actions (Err why) sink sink' written n before below is begun at_sink at_now h =
    let halts : Halts why (from_to low high) (from_to (opening_of before.tree opened) (entries_of now)) actions (from_to (Some written) (Some n)) (told now.shelf) =
    subst (λ (a : Option (List ℕ)). Halts why (from_to low high) (from_to (opening_of before.tree opened) (entries_of now)) actions (from_to a (Some n)) (told now.shelf)) at_sink
    (subst (λ (a : Option (List ℕ)). Halts why (from_to low high) (from_to (opening_of before.tree opened) (entries_of now)) actions (from_to sink a) (told now.shelf)) at_now
    (subst (λ (book : List Entry). Halts why (from_to low high) (from_to book (entries_of now)) actions (from_to sink sink') (told now.shelf)) begun (h.halts is))) in
    ended-err why first high opened actions sink' (told now.shelf) written n before (entries_of now) at_now
    (halts-wider why (told now.shelf) first low high (opening_of before.tree opened) (entries_of now) actions (Some written) (Some n) below halts)

pub Serves-run : {D : Type 0} (told : D → Option Store) (shelf : D) (house now : House D) (status first low high last : ℕ) (actions given : List Action) (ran : Result Bool Stop)
    (sink sink' : Option (List ℕ)) (closed : Option Store) → status ≡ ran_status ran → first ≤ low → last ≡ high → given ≡ actions → closed ≡ told now.shelf
    → Opens profile (told shelf) (entries_of house) → IsOpenedOver shelf house → now.start ≡ house.start → IfOk ran (λ _. IsWhole told now)
    → (IsToldHouse told house → IfOk ran (PrintsAll (from_to low high) (entries_of house) (entries_of now) given (from_to sink sink')))
    → (IsToldHouse told house → IfErr ran (λ why. Halts why (from_to low high) (from_to (entries_of house) (entries_of now)) given (from_to sink sink') (told now.shelf)))
    → StaysTold sink sink' → Serves status (from_to first last) actions (from_to sink sink') (from_to (told shelf) closed)
Serves-run told shelf house now status first low high last actions given ran sink sink' closed status_is below last_is actions_are closed_is is over start whole prints halts heard =
    let there : Serves (ran_status ran) (from_to first high) given (from_to sink sink') (from_to (told shelf) (told now.shelf)) = λ written store opened at_sink at_told opens.
    let n = tells-still sink sink' written heard at_sink in
    ended told house now first low high opened given ran sink sink' written n.0 store below (opened-is-told told shelf house store opened over at_told opens)
    (same-opened (told shelf) store opened (entries_of house) at_told opens is) at_sink n.1
    (record { start = start; whole = whole; prints = prints; halts = halts }) in
    let by_actions : Serves (ran_status ran) (from_to first high) actions (from_to sink sink') (from_to (told shelf) (told now.shelf)) =
    subst (λ t. Serves (ran_status ran) (from_to first high) t (from_to sink sink') (from_to (told shelf) (told now.shelf))) actions_are there in
    let by_close : Serves (ran_status ran) (from_to first high) actions (from_to sink sink') (from_to (told shelf) closed) =
    subst (λ w. Serves (ran_status ran) (from_to first high) actions (from_to sink sink') (from_to (told shelf) w)) (sym closed_is) by_actions in
    let by_count : Serves (ran_status ran) (from_to first last) actions (from_to sink sink') (from_to (told shelf) closed) =
    subst (λ m. Serves (ran_status ran) (from_to first m) actions (from_to sink sink') (from_to (told shelf) closed)) (sym last_is) by_close in
    subst (λ m. Serves m (from_to first last) actions (from_to sink sink') (from_to (told shelf) closed)) (sym status_is) by_count

-- ---- an opening that stopped

unopened-by : (why : BootFault) (book : List Entry) (written : List ℕ) (before s t : Store) → s ≡ before → OpensTo book before
    → (IsJournalOf profile book s.journal → IsIdle book → KeepsTree s t)
    → (IsJournalOf profile book s.journal → IsCutOpening why (whole_jobs (state_of book) s.tree) book t.journal)
    → (OpensTo book s → IsOpenStill profile why book (opening_entries (whole_jobs (state_of book) s.tree) (state_of book)) t)
    → IsUnopened book (from_to written written) (from_to before t) (IsCutOpening why (whole_jobs (state_of book) before.tree) book)
unopened-by why book written before s t one opens idle stops still =
    let here : OpensTo book s = subst (OpensTo book) (sym one) opens in
    let reads : IsJournalOf profile book s.journal = record { journal = here.journal; fit = here.left.legal.fit } in
    record {
      wrote = refl;
      files = λ none. idle reads none ∙ ap (λ (x : Store). x.tree) one;
      keeps = subst (λ (x : Store). IsCutOpening why (whole_jobs (state_of book) x.tree) book t.journal) one (stops reads);
      opens = still-opens why book (opening_entries (whole_jobs (state_of book) s.tree) (state_of book)) t (still here);
    }

no-store : (before : Store) (told : Option Store) → told ≡ None → told ≡ Some before → ⊥
no-store before told none some = cc

unopened : (why : BootFault) (book : List Entry) (written : List ℕ) (before : Store) (told told' : Option Store) → told ≡ Some before → OpensTo book before
    → KeepsIdle profile told told' → StopsOpening profile told told' why → StopsOpen profile told told' why
    → (after : Store) × (told' ≡ Some after)
    × IsUnopened book (from_to written written) (from_to before after) (IsCutOpening why (whole_jobs (state_of book) before.tree) book)
unopened why book written before None told' e opens idle stops still = absurd (no-store before None refl e)
unopened why book written before (Some s) None e opens idle stops still = absurd idle
unopened why book written before (Some s) (Some t) e opens idle stops still =
    (t, refl, unopened-by why book written before s t (same_some s before e) opens (idle book) (stops book) (still book))

Serves-five : (low high : ℕ) (actions : List Action) (sink : Option (List ℕ)) (told told' : Option Store) → KeepsIdle profile told told'
    → StopsOpening profile told told' boot.Store → StopsOpen profile told told' boot.Store → Serves 5 (from_to low high) actions (from_to sink sink) (from_to told told')
Serves-five low high actions sink told told' idle stops still = λ written store opened at_sink at_told opens.
    let there = unopened boot.Store opened written store told told' at_told opens idle stops still in
    record {
      now = written;
      store = there.0;
      sink_tells = at_sink;
      store_tells = there.1;
      served = served-five low high opened actions written written store there.0 (inr there.2);
    }

Serves-seven : (low high : ℕ) (actions : List Action) (sink : Option (List ℕ)) (told told' : Option Store) → KeepsIdle profile told told'
    → StopsOpening profile told told' boot.NoMemory → StopsOpen profile told told' boot.NoMemory
    → Serves 7 (from_to low high) actions (from_to sink sink) (from_to told told')
Serves-seven low high actions sink told told' idle stops still = λ written store opened at_sink at_told opens.
    let there = unopened boot.NoMemory opened written store told told' at_told opens idle stops still in
    record {
      now = written;
      store = there.0;
      sink_tells = at_sink;
      store_tells = there.1;
      served = served-seven low high opened actions written written store there.0 (inr there.2);
    }

pub Serves-store : (status low high : ℕ) (actions : List Action) (sink : Option (List ℕ)) (told told' : Option Store) (why : BootFault) → status ≡ 5
    → why ≡ boot.Store → KeepsIdle profile told told' → StopsOpening profile told told' why → StopsOpen profile told told' why
    → Serves status (from_to low high) actions (from_to sink sink) (from_to told told')
Serves-store status low high actions sink told told' why e is idle stops still =
    subst (λ n. Serves n (from_to low high) actions (from_to sink sink) (from_to told told')) (sym e)
    (Serves-five low high actions sink told told' idle (subst (StopsOpening profile told told') is stops) (subst (StopsOpen profile told told') is still))

pub Serves-memory : (status low high : ℕ) (actions : List Action) (sink : Option (List ℕ)) (told told' : Option Store) (why : BootFault) → status ≡ 7
    → why ≡ boot.NoMemory → KeepsIdle profile told told' → StopsOpening profile told told' why → StopsOpen profile told told' why
    → Serves status (from_to low high) actions (from_to sink sink) (from_to told told')
Serves-memory status low high actions sink told told' why e is idle stops still =
    subst (λ n. Serves n (from_to low high) actions (from_to sink sink) (from_to told told')) (sym e)
    (Serves-seven low high actions sink told told' idle (subst (StopsOpening profile told told') is stops) (subst (StopsOpen profile told told') is still))

-- ---- a journal that isn't opened

served-nine : (low high : ℕ) (opened : List Entry) (actions : List Action) (written now : List ℕ) (before after : Store) → ServedOf 9 (from_to low high) opened actions (from_to written now) (from_to before after)
served-nine low high opened actions written now before after = record {
  accepted = λ e. absurd (omega (arith, e));
  refused = λ e. absurd (omega (arith, e));
  source = λ e. omega (arith, e);
  sink = λ e. absurd (omega (arith, e));
  store = λ e. absurd (omega (arith, e));
  memory = λ e. absurd (omega (arith, e));
}

full-book : (told : Option Store) (store : Store) (opened : List Entry) → told ≡ Some store → OpensTo opened store → Tells told (HasFullBook profile)
    → profile.entries < load (state_of opened) + 1
full-book told store opened at opens full =
    let here : HasFullBook profile store = subst (λ (o : Option Store). Tells o (HasFullBook profile)) at full in
    here opened (record { journal = opens.journal; fit = opens.left.legal.fit })

-- a content that a move made, where it was told
moved : {A : Type 0} (P : A → A → Type 0) (a b : Option A) (x : A) → a ≡ Some x → Moves P a b → (y : A) × (b ≡ Some y) × P x y
moved P None b x e m = cc
moved P (Some z) None x e m = absurd m
moved P (Some z) (Some y) x e m = (y, refl, subst (λ w. P w y) (same_some z x e) m)

pub Serves-full : (status low high : ℕ) (actions : List Action) (sink sink' : Option (List ℕ)) (told told' : Option Store) (faults faults' : ℕ) → told' ≡ told → Tells told (HasFullBook profile)
    → IsSaid 9 full_line (from_to sink sink') (from_to faults faults') status → Serves status (from_to low high) actions (from_to sink sink') (from_to told told')
Serves-full status low high actions sink sink' told told' faults faults' same full (inl said) = λ written store opened at_sink at_told opens.
    let there = moved (Gains full_line) sink sink' written at_sink said.1.wrote in
    record {
      now = there.0;
      store = store;
      sink_tells = there.1;
      store_tells = same ∙ at_told;
      served = subst (λ n. ServedOf n (from_to low high) opened actions (from_to written there.0) (from_to store store)) (sym said.0) (served-nine low high opened actions written there.0 store store);
    }
Serves-full status low high actions sink sink' told told' faults faults' same full (inr cut) = λ written store opened at_sink at_told opens.
    let there = moved (GainsPart full_line) sink sink' written at_sink cut.1.wrote in
    record {
      now = there.0;
      store = store;
      sink_tells = there.1;
      store_tells = same ∙ at_told;
      served = subst (λ n. ServedOf n (from_to low high) opened actions (from_to written there.0) (from_to store store)) (sym cut.0)
          (served-cut low high opened actions written there.0 store store
          (inr (record { full = full-book told store opened at_told opens full; wrote = there.2; store_same = refl })));
    }

-- ---- what is left opens again

opens-later : (low high : ℕ) (start book : List Entry) (store : Store) → IsBookOf low high start book → HasBook book store → OpensLater start store
opens-later low high start book store is has = record {
  book = book;
  opens = record {
    journal = reads-journal book store.journal has.reads;
    left = faithful-is-left book store (record { stands = has.stands; legal = is.legal });
  };
  begins = (is.grows.more, is.grows.book_is);
}

pub done-opens : (low high : ℕ) (start : List Entry) (actions : List Action) (written now : List ℕ) (store : Store) (refused : Bool)
    → IsServed (from_to low high) start actions (from_to written now) store refused → OpensLater start store
done-opens low high start actions written now store refused is = opens-later low high start is.last.book store is.is_book is.has_book

pub cut-opens : (low high : ℕ) (start : List Entry) (actions : List Action) (written now : List ℕ) (store : Store) → IsCutOff (from_to low high) start actions (from_to written now) store → OpensLater start store
cut-opens low high start actions written now store is = opens-later low high start is.last.book store is.is_book is.has_book

pub stopped-opens : (low high : ℕ) (start : List Entry) (actions : List Action) (written now : List ℕ) (store : Store) (Keeps : Standing → Action → List Entry → Type 0)
    → IsStopped (from_to low high) start actions (from_to written now) store Keeps → OpensLater start store
stopped-opens low high start actions written now store Keeps is =
    later-behind start (is.is_before.grows.more ++ is.halfway.added) is.book store
    (is.halfway.book ∙ ap (λ (b : List Entry). b ++ is.halfway.added) is.is_before.grows.book_is ∙ append_assoc start is.is_before.grows.more is.halfway.added) is.opens

pub failed-opens : (low high : ℕ) (book : List Entry) (actions : List Action) (written now : List ℕ) (before store : Store)
    → StopsForStore (from_to low high) book actions (from_to written now) (from_to before store) → OpensLater book store
failed-opens low high book actions written now before store (inl is) =
    later-behind book (opening_entries (whole_jobs (state_of book) before.tree) (state_of book)) (opening_of before.tree book) store refl
    (stopped-opens low high (opening_of before.tree book) actions written now store (ReadsFurther store.journal) is)
failed-opens low high book actions written now before store (inr is) = is.opens

pub lacked-opens : (low high : ℕ) (book : List Entry) (actions : List Action) (written now : List ℕ) (before store : Store)
    → StopsForMemory (from_to low high) book actions (from_to written now) (from_to before store) → OpensLater book store
lacked-opens low high book actions written now before store (inl is) =
    later-behind book (opening_entries (whole_jobs (state_of book) before.tree) (state_of book)) (opening_of before.tree book) store refl
    (stopped-opens low high (opening_of before.tree book) actions written now store (ReadsTo store.journal) is)
lacked-opens low high book actions written now before store (inr is) = is.opens
