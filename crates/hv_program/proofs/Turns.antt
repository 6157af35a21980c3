-- One action more.
use Rattle.std.proofs.Common.{◌≡◌, ℕ, zero, suc, ◌+◌, ◌<◌, ◌≤◌, Bool, ◌||◌, Option, Result, IfErr, IsErrAnd, IsSomeAnd, List, [], ◌∷◌, ◌++◌, length, get_or, take, drop, sym, ap, ◌∙◌, subst, arith, append_assoc}
use Rattle.std.proofs.lemmas.List.{take_more}
use Rattle.hv_base.specs.Told.{Moves}
use Rattle.hv_base.specs.Sink.{Gains, GainsPart}
use Rattle.hv_base.proofs.ToldLemmas.{Moves-then}
use Rattle.hv_shelf.specs.Disk.{Store}
use Rattle.hv_history.specs.declared.entry.Entry.{Entry}
use Rattle.hv_history.specs.Journal.{Reads}
use Rattle.hv_history.specs.Legal.{IsLegal, profile}
use Rattle.hv_script.specs.declared.actions.Action.{Action}
use Rattle.hv_session.specs.hv_beginning.specs.hv_steps.specs.hv_table_reader.specs.hv_acts.specs.hv_telling.specs.hv_house.specs.declared.house.House.{House}
use Rattle.hv_session.specs.hv_beginning.specs.hv_steps.specs.hv_table_reader.specs.hv_acts.specs.hv_telling.specs.hv_house.specs.declared.fault.HouseFault.{HouseFault}
use Rattle.hv_session.specs.hv_beginning.specs.hv_steps.specs.hv_table_reader.specs.hv_acts.specs.hv_telling.specs.hv_house.specs.declared.fault.HouseFault.TheVariants as fault
use Rattle.hv_session.specs.hv_beginning.specs.hv_steps.specs.hv_table_reader.specs.hv_acts.specs.hv_telling.specs.hv_house.specs.House.{entries_of, IsFaithful, Leaves}
use Rattle.hv_session.specs.hv_beginning.specs.hv_steps.specs.hv_table_reader.specs.hv_acts.specs.hv_telling.specs.hv_house.specs.Faults.{EndsRun}
use Rattle.hv_session.specs.hv_beginning.specs.hv_steps.specs.hv_table_reader.specs.hv_acts.specs.hv_telling.specs.Telling.{IsWhole, IsToldHouse, OpensLater, StillOpens}
use Rattle.hv_session.specs.hv_beginning.specs.hv_steps.specs.hv_table_reader.specs.hv_acts.specs.hv_telling.proofs.Told.{both-some, true-shown, whole-shown, opens-told}
use Rattle.hv_program.proofs.Blaming.{passed_up}
use Rattle.hv_program.specs.declared.held.Held.{Held}
use Rattle.hv_program.specs.declared.stop.Stop.{Stop}
use Rattle.hv_program.specs.declared.stop.Stop.TheVariants as stop
use Rattle.hv_program.specs.Change.{from_to}
use Rattle.hv_program.specs.Stops.{stop_of}
use Rattle.hv_program.specs.Doing.{Waiting, Standing, AreDone}
use Rattle.hv_program.specs.Own.{Grows}
use Rattle.hv_program.specs.Keeping.{standing_of}
use Rattle.hv_program.specs.Running.{beginning, IsBehind, Acts, Stops, Prints, PrintsAll, EndsWithin, CutsOff, StopsIn, Halts, HasAll}
use Rattle.hv_program.proofs.Doings.{are-done-more, are-done-then, later-done}
use Rattle.hv_program.proofs.OwnEntries.{grows-then, grows-wider}

-- ---- a house

-- a whole house that is told has all of its book
pub has-all : {D : Type 0} (told : D → Option Store) (house : House D) → IsWhole told house → IsToldHouse told house → IsSomeAnd (told house.shelf) (HasAll (entries_of house))
has-all told house whole is =
    both-some (λ (s : Store). Reads (entries_of house) s.journal) (IsFaithful (entries_of house)) (HasAll (entries_of house)) (told house.shelf)
    (λ s reads faithful. (reads, faithful)) whole.ready.kept.reads (true-shown told house (whole.truly is))

-- ---- what is printed

more_written : (x y z some more : List ℕ) → Gains some x y → Gains more y z → Gains (some ++ more) x z
more_written x y z some more p q = q ∙ ap (λ w. w ++ more) p ∙ append_assoc x some more

module _ (low middle high : ℕ) (below : low ≤ middle) (above : middle ≤ high) (start : List Entry) (before now : Standing) where
  -- where the run stood before the action
  stood : (actions : List Action) (a b : Option (List ℕ)) (refused : Bool) → Prints (from_to low middle) start before actions (from_to a b) refused → IsBehind start before
  stood actions a b refused h = record { grown = (h.grows.more, h.grows.book_is); later = h.later }

  -- what was done before it is done in the book now
  earlier : (actions : List Action) (output : List ℕ) (refused : Bool) → Grows middle high before.book now.book
      → AreDone (from_to start before.book) (beginning start) before actions output refused → AreDone (from_to start now.book) (beginning start) before actions output refused
  earlier actions output refused grows h =
      subst (λ (book : List Entry). AreDone (from_to start book) (beginning start) before actions output refused) (sym grows.book_is)
      (are-done-more start before.book grows.more (beginning start) before actions output refused h)

  Prints-turn : (actions : List Action) (a b c : Option (List ℕ)) (refused : Bool) (act : Action) (reply : List ℕ) (this : Bool) → Moves (Gains reply) b c
      → Prints (from_to low middle) start before actions (from_to a b) refused → Acts (from_to middle high) before now act reply this
      → Prints (from_to low high) start now (actions ++ act ∷ []) (from_to a c) (refused || this)
  Prints-turn actions a b c refused act reply this wrote h acts =
      let done = acts.done start (stood actions a b refused h) in
      record {
        grows = grows-then low middle high start before.book now.book below above h.grows acts.grows;
        later = later-done start now.book before now act reply this h.later done;
        output = h.output ++ reply;
        written = Moves-then (Gains h.output) (Gains reply) (Gains (h.output ++ reply)) (λ x y z p q. more_written x y z h.output reply p q) a b c h.written wrote;
        are_done = are-done-then start now.book (beginning start) before now actions h.output refused act reply this
            (earlier actions h.output refused acts.grows h.are_done) done;
      }

  pub Prints-next : (actions : List Action) (i : ℕ) (act : Action) (reply bytes : List ℕ) (refused this : Bool) (a b c : Option (List ℕ))
      → i < length actions → act ≡ get_or actions i act → bytes ≡ reply → Moves (Gains bytes) b c
      → Prints (from_to low middle) start before (take i actions) (from_to a b) refused → Acts (from_to middle high) before now act reply this
      → Prints (from_to low high) start now (take (i + 1) actions) (from_to a c) (refused || this)
  Prints-next actions i act reply bytes refused this a b c inside is same wrote_bytes h acts =
      let wrote : Moves (Gains reply) b c = subst (λ w. Moves (Gains w) b c) same wrote_bytes in
      let taken : take i actions ++ act ∷ [] ≡ take (i + 1) actions = ap (λ (x : Action). take i actions ++ x ∷ []) is ∙ sym (take_more actions i act inside) in
      subst (λ (some : List Action). Prints (from_to low high) start now some (from_to a c) (refused || this)) taken (Prints-turn (take i actions) a b c refused act reply this wrote h acts)

  -- ---- the sink failed in a reply

  within : (x y z output reply : List ℕ) → Gains output x y → GainsPart reply y z → EndsWithin output reply x z
  within x y z output reply p q = record { count = q.count; short = q.short; gained = q.gained ∙ ap (λ w. w ++ take q.count reply) p }

  Prints-cut : (actions front behind : List Action) (a b c : Option (List ℕ)) (refused : Bool) (act : Action) (reply : List ℕ) (this : Bool)
      → actions ≡ front ++ act ∷ behind → Moves (GainsPart reply) b c
      → Prints (from_to low middle) start before front (from_to a b) refused → Acts (from_to middle high) before now act reply this → CutsOff (from_to low high) start now.book actions (from_to a c)
  Prints-cut actions front behind a b c refused act reply this are wrote h acts = record {
    front = front;
    action = act;
    behind = behind;
    actions_are = are;
    before = before;
    waiting = now.waiting;
    grows = grows-then low middle high start before.book now.book below above h.grows acts.grows;
    output = h.output;
    refused = refused;
    are_done = earlier front h.output refused acts.grows h.are_done;
    reply = reply;
    this = this;
    is_done = acts.done start (stood front a b refused h);
    written = Moves-then (Gains h.output) (GainsPart reply) (EndsWithin h.output reply) (λ x y z p q. within x y z h.output reply p q) a b c h.written wrote;
  }

-- the actions in front of a place, the one there, and those behind it
split_at : (actions : List Action) (i : ℕ) (act : Action) → i < length actions → act ≡ get_or actions i act
    → actions ≡ take i actions ++ act ∷ drop (suc i) actions
split_at [] i act below is = absurd (omega (arith, below))
split_at (first ∷ actions) zero act below is = ap (λ (x : Action). x ∷ actions) (sym is)
split_at (first ∷ actions) (suc i) act below is = ap (λ (xs : List Action). first ∷ xs) (split_at actions i act (omega (arith, below)) is)

pub Halts-cut : {D : Type 0} (told : D → Option Store) (result : Result Bool Stop) (low middle high : ℕ) (start : List Entry) (before : Standing) (house : House D) (helds : List Held) (actions : List Action)
    (i : ℕ) (act : Action) (reply bytes : List ℕ) (refused this : Bool) (a b c : Option (List ℕ)) → IsErrAnd result (λ e. e ≡ stop.Sink) → low ≤ middle → middle ≤ high
    → i < length actions → act ≡ get_or actions i act → bytes ≡ reply → Moves (GainsPart bytes) b c
    → Prints (from_to low middle) start before (take i actions) (from_to a b) refused → Acts (from_to middle high) before (standing_of house helds) act reply this
    → IsWhole told house → IsToldHouse told house
    → IfErr result (λ why. Halts why (from_to low high) (from_to start (entries_of house)) actions (from_to a c) (told house.shelf))
Halts-cut told result low middle high start before house helds actions i act reply bytes refused this a b c err below above inside is same wrote_bytes h acts whole told_of =
    let wrote : Moves (GainsPart reply) b c = subst (λ w. Moves (GainsPart w) b c) same wrote_bytes in
    passed_up result stop.Sink (λ why. Halts why (from_to low high) (from_to start (entries_of house)) actions (from_to a c) (told house.shelf)) err (
      Prints-cut low middle high below above start before (standing_of house helds) actions (take i actions) (drop (suc i) actions) a b c refused act reply this (split_at actions i act inside is) wrote h acts,
      has-all told house whole told_of,
    )

-- ---- an action wasn't done to its end

Prints-stopped : (why : HouseFault) (told : Option Store) (low middle high : ℕ) (start : List Entry) (before : Standing) (book : List Entry) (actions front behind : List Action) (a b : Option (List ℕ)) (refused : Bool) (act : Action)
    → low ≤ middle → middle ≤ high → actions ≡ front ++ act ∷ behind → IsLegal profile before.book
    → Prints (from_to low middle) start before front (from_to a b) refused → Stops (Unit {0}) why told before act book → StopsIn why told (from_to low high) (from_to start book) actions (from_to a b)
Prints-stopped why told low middle high start before book actions front behind a b refused act below above are legal h stops = record {
  front = front;
  action = act;
  behind = behind;
  actions_are = are;
  before = before;
  grows = grows-wider low middle low high start before.book (omega arith) above h.grows;
  legal = legal;
  stops = stops;
  output = h.output;
  refused = refused;
  are_done = subst (λ (at : List Entry). AreDone (from_to start at) (beginning start) before front h.output refused) (sym stops.halfway.book)
      (are-done-more start before.book stops.halfway.added (beginning start) before front h.output refused h.are_done);
  written = h.written;
}

-- no fault of a file stops a run
leaves-ends : (why : HouseFault) (events : List Entry) (told : Option Store) (book : List Entry) → Leaves why events told book → EndsRun why
leaves-ends fault.Store events told book left = tt
leaves-ends fault.NoMemory events told book left = tt
leaves-ends (fault.Failed count) events told book left = absurd left

pub stops-ends : {Told : Type 0} (why : HouseFault) (told : Option Store) (before : Standing) (act : Action) (now : List Entry) → Stops Told why told before act now → EndsRun why
stops-ends why told before act now stops = leaves-ends why stops.leaves.0 told now stops.leaves.2

-- it is known that the house was told
known-stops : {Told : Type 0} (why : HouseFault) (told : Option Store) (before : Standing) (act : Action) (now : List Entry) → Told → Stops Told why told before act now
    → Stops (Unit {0}) why told before act now
known-stops why told before act now is stops = record {
  halfway = record {
    added = stops.halfway.added;
    book = stops.halfway.book;
    of_it = stops.halfway.of_it;
    fits = stops.halfway.fits;
    legal = λ known. stops.halfway.legal is;
    unended = stops.halfway.unended;
    opens = stops.halfway.opens;
  };
  leaves = stops.leaves;
}

halts : (why : HouseFault) (told : Option Store) (low high : ℕ) (start book : List Entry) (actions : List Action) (a b : Option (List ℕ)) → EndsRun why
    → StopsIn why told (from_to low high) (from_to start book) actions (from_to a b) → IsSomeAnd told (OpensLater book)
    → Halts (stop_of why) (from_to low high) (from_to start book) actions (from_to a b) told
halts fault.Store told low high start book actions a b ends stopped opens = (stopped, opens)
halts (fault.Failed count) told low high start book actions a b ends stopped opens = absurd ends
halts fault.NoMemory told low high start book actions a b ends stopped opens = (stopped, opens)

pub Halts-stopped : {D : Type 0} (told : D → Option Store) (why : HouseFault) (result : Result Bool Stop) (low middle high : ℕ) (start : List Entry) (before now : House D) (helds : List Held)
    (actions : List Action) (i : ℕ) (act : Action) (refused : Bool) (a b : Option (List ℕ)) → IsErrAnd result (λ e. e ≡ stop_of why) → low ≤ middle → middle ≤ high
    → i < length actions → act ≡ get_or actions i act
    → Prints (from_to low middle) start (standing_of before helds) (take i actions) (from_to a b) refused → IsWhole told before → IsToldHouse told before
    → Stops (IsToldHouse told before) why (told now.shelf) (standing_of before helds) act (entries_of now) → StillOpens told now
    → IfErr result (λ e. Halts e (from_to low high) (from_to start (entries_of now)) actions (from_to a b) (told now.shelf))
Halts-stopped told why result low middle high start before now helds actions i act refused a b err below above inside is h whole told_of stops opens =
    let shown = whole-shown told before whole told_of in
    passed_up result (stop_of why) (λ e. Halts e (from_to low high) (from_to start (entries_of now)) actions (from_to a b) (told now.shelf)) err
    (halts why (told now.shelf) low high start (entries_of now) actions a b (stops-ends why (told now.shelf) (standing_of before helds) act (entries_of now) stops)
    (Prints-stopped why (told now.shelf) low middle high start (standing_of before helds) (entries_of now) actions (take i actions) (drop (suc i) actions) a b refused act below above
    (split_at actions i act inside is) shown.2.legal h
    (known-stops why (told now.shelf) (standing_of before helds) act (entries_of now) told_of stops)) (opens-told told now opens))

-- ---- all were done

pub Prints-all : (low high : ℕ) (start book : List Entry) (waiting : List Waiting) (actions some : List Action) (a b : Option (List ℕ)) (refused : Bool) → some ≡ actions
    → Prints (from_to low high) start (record { book = book; waiting = waiting }) some (from_to a b) refused → PrintsAll (from_to low high) start book actions (from_to a b) refused
Prints-all low high start book waiting actions some a b refused same h =
    (waiting, subst (λ (acts : List Action). Prints (from_to low high) start (record { book = book; waiting = waiting }) acts (from_to a b) refused) same h)
