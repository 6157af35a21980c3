-- What a pass leaves over a house on which nobody else acts.
use Rattle.std.proofs.Common.{◌≡◌, ◌≤◌, inl, inr, ℕ, zero, suc, Option, Some, None, Result, Ok, Err, IfOk, IfErr, List, [], ◌∷◌, ◌++◌, map, take, drop, refl, sym, ap, ◌∙◌, subst, append-nil, append_assoc, arith}
use Rattle.std.specs.List.{AllByRecursion}
use Rattle.hv_base.specs.declared.ids.JobId.{JobId}
use Rattle.hv_shelf.specs.Disk.{Store}
use Rattle.hv_history.specs.declared.entry.Entry.{Entry}
use Rattle.hv_history.specs.declared.entry.Entry.TheVariants as entry
use Rattle.hv_history.specs.declared.entry.JobKind.{JobKind}
use Rattle.hv_history.specs.Jobs.{due}
use Rattle.hv_history.specs.Lasting.{IsFront}
use Rattle.hv_history.specs.State.{state_of}
use Rattle.hv_trail.specs.declared.trail.TrailItem.{TrailItem}
use Rattle.hv_trail.specs.Steps.{Call}
use Rattle.hv_trail.specs.Trail.{book_of}
use Rattle.hv_actor.specs.Acting.{IsLater, Nothing, Untouched, Setting, Moment, among, known}
use Rattle.hv_actor.specs.Rows.{nothing_rows}
use Rattle.hv_actor.proofs.Weaving.{rose-from, later-further}
use Rattle.hv_session.proofs.AloneBooks.{nothing-is-added}
use Rattle.hv_session.proofs.AloneStops.{never-between}
use Rattle.hv_session.specs.hv_beginning.specs.hv_steps.specs.hv_table_reader.specs.hv_acts.specs.declared.told.ToldHouse.{ToldHouse}
use Rattle.hv_session.specs.hv_beginning.specs.hv_steps.specs.hv_table_reader.specs.hv_acts.specs.Told.{IsWholeOrClosed, seen_in, trail_in, book_in}
use Rattle.hv_session.specs.hv_beginning.specs.hv_steps.specs.hv_table_reader.specs.hv_acts.specs.Going.{IsOpenHouse, IsShutHouse}
use Rattle.hv_session.specs.hv_beginning.specs.hv_steps.specs.hv_table_reader.specs.hv_acts.proofs.Steps.{book-is}
use Rattle.hv_session.specs.hv_beginning.specs.hv_steps.specs.hv_table_reader.specs.hv_acts.specs.hv_telling.specs.hv_house.specs.declared.fault.HouseFault.{HouseFault}
use Rattle.hv_session.specs.hv_beginning.specs.hv_steps.specs.hv_table_reader.specs.hv_acts.specs.hv_telling.specs.hv_house.specs.declared.fault.HouseFault.TheVariants as fault
use Rattle.hv_session.specs.hv_beginning.specs.hv_steps.specs.hv_table_reader.specs.hv_acts.specs.hv_telling.specs.hv_house.specs.Faults.{FileCause, HasRisen}
use Rattle.hv_session.specs.hv_beginning.specs.hv_steps.specs.hv_table_reader.specs.hv_acts.specs.hv_telling.specs.hv_house.specs.House.{entries_of}
use Rattle.hv_session.specs.hv_beginning.specs.hv_steps.specs.hv_table_reader.specs.hv_acts.specs.hv_telling.specs.Telling.{IsToldHouse, StillOpens}
use Rattle.hv_session.specs.hv_beginning.specs.hv_steps.specs.hv_table_reader.specs.hv_acts.specs.hv_telling.proofs.Told.{told-stays}
use Rattle.hv_compact.specs.hv_job_acts.specs.declared.asking.PartAt.{PartAt}
use Rattle.hv_compact.specs.hv_job_acts.specs.declared.asking.LostId.{LostId}
use Rattle.hv_compact.specs.hv_job_acts.specs.Going.{AddsItems, IsShutFor as IsShutBy}
use Rattle.hv_compact.specs.hv_job_acts.specs.Work.{parts_in}
use Rattle.hv_compact.specs.declared.fault.RunFault.{RunFault}
use Rattle.hv_compact.specs.declared.fault.RunFault.TheVariants as run
use Rattle.hv_compact.specs.Stopping.{IsAsking, IsFullFor, RunsOut}
use Rattle.hv_compact.specs.Initiating.{asks_kind, asks_for, AreTurns, Initiates, InitiatesLess}
use Rattle.hv_compact.specs.Alone.{initiated_from}
use Rattle.hv_compact.proofs.Alones.{turned-alone}
use Rattle.hv_clean.specs.declared.fault.Swept.{Swept}
use Rattle.hv_clean.specs.declared.fault.PassFault.{PassFault}
use Rattle.hv_clean.specs.declared.fault.PassFault.TheVariants as pass_fault
use Rattle.hv_clean.specs.Passing.{Passes, IsCleaning as IsSweeping, RunsOut as CleansOut}
use Rattle.hv_clean.specs.Fronts.{PassFront, StopsBehind}
use Rattle.hv_clean.specs.Alone.{forgot_entry, SweepsSome}
use Rattle.hv_clean.proofs.AloneSome.{passes-some, stops-some}
use Rattle.hv_program.specs.Background.{LacksRoomFor, IsCompacting, IsCleaning, Initiated, Cleans}
use Rattle.hv_program.specs.Beside.{fault_of, run_of, AddsBeside}
use Rattle.hv_program.specs.Stops.{IsShutFor}
use Rattle.hv_program.proofs.OwnEntries.{all-append}

-- ---- a run that stops: the program goes on where there was no room

pub full-ok : (why : RunFault) (q : Result (Unit {0}) HouseFault) (P : Type 0) → q ≡ fault_of why → ((entries : ℕ) → why ≡ run.Full entries → P)
    → IfOk q (λ _. P)
full-ok why q P same full = subst (λ (x : Result (Unit {0}) HouseFault). IfOk x (λ _. P)) (sym same) (by why full)
  where
    by : (w : RunFault) → ((entries : ℕ) → w ≡ run.Full entries → P) → IfOk (fault_of w) (λ _. P)
    by run.Store f = tt
    by (run.Full entries) f = f entries refl
    by run.NoMemory f = tt

pub stops-err : (why : RunFault) (q : Result (Unit {0}) HouseFault) (F : HouseFault → Type 0) → q ≡ fault_of why → (why ≡ run.Store → F fault.Store)
    → (why ≡ run.NoMemory → F fault.NoMemory) → IfErr q F
stops-err why q F same store memory = subst (λ (x : Result (Unit {0}) HouseFault). IfErr x F) (sym same) (by why store memory)
  where
    by : (w : RunFault) → (w ≡ run.Store → F fault.Store) → (w ≡ run.NoMemory → F fault.NoMemory) → IfErr (fault_of w) F
    by run.Store s m = s refl
    by (run.Full entries) s m = tt
    by run.NoMemory s m = m refl

-- ---- the house

pub start-same : {D : Type 0} (faults : D → ℕ) (before now : ToldHouse D) → IsLater faults (seen_in before) (seen_in now)
    → now.house.start ≡ before.house.start
start-same faults before now later = λ i. record { marker = before.house.start.marker; value = later.rest.start i }

pub still-opens : {D : Type 0} (told : D → Option Store) (faults : D → ℕ) (before now : ToldHouse D) → IsLater faults (seen_in before) (seen_in now)
    → IsWholeOrClosed told now.house → IsToldHouse told before.house → StillOpens told now.house
still-opens told faults before now later kept is =
    kept.opens (told-stays told before.house now.house (start-same faults before now later) is)

-- others do nothing, so that the last call closed it
pub shut-house : {D : Type 0} (told : D → Option Store) (faults : D → ℕ) (Of : Call → Type 0) (now : ToldHouse D)
    → IsShutBy (among told faults Nothing Untouched) Of now → IsShutHouse now
shut-house told faults Of now (inl between) = absurd (never-between Untouched (λ before found same. same) between)
shut-house told faults Of now (inr cut) = cut.is

module _ {D : Type 0} (faults : D → ℕ) (before now : ToldHouse D) (later : IsLater faults (seen_in before) (seen_in now)) (was : IsOpenHouse before)
    (why : RunFault) (q : Result (Unit {0}) HouseFault) (same : q ≡ fault_of why) (shuts : why ≡ run.Store → IsShutHouse now) where
  pub stops-shut : IfErr q (IsShutFor now)
  stops-shut = stops-err why q (IsShutFor now) same shuts (λ is. tt)

  pub stops-cause : FileCause (faults before.house.shelf) (faults now.house.shelf) q
  stops-cause = record {
    later = later.count;
    failed =
        stops-err why q (HasRisen (faults before.house.shelf) (faults now.house.shelf)) same
        (λ is. let shut = shuts is in later.rises was shut.0 shut.1) (λ is. tt);
  }

pub done-cause : {D : Type 0} (faults : D → ℕ) (before now : ToldHouse D) → IsLater faults (seen_in before) (seen_in now)
    → FileCause {T = Unit {0}} (faults before.house.shelf) (faults now.house.shelf) (Ok tt)
done-cause faults before now later = record { later = later.count; failed = tt }

-- ---- one after another

pub ok-then : {T E : Type 0} (r : Result T E) (P Q : Type 0) → (P → Q) → IfOk r (λ x. P) → IfOk r (λ x. Q)
ok-then (Ok x) P Q f p = f p
ok-then (Err why) P Q f p = tt

pub err-then : {T : Type 0} (r : Result T HouseFault) (P Q : HouseFault → Type 0) → ((why : HouseFault) → P why → Q why) → IfErr r P → IfErr r Q
err-then (Ok x) P Q f p = tt
err-then (Err why) P Q f p = f why p

pub later-then : {D : Type 0} (faults : D → ℕ) (a b c : ToldHouse D) → IsLater faults (seen_in a) (seen_in b) → IsLater faults (seen_in b) (seen_in c)
    → IsLater faults (seen_in a) (seen_in c)
later-then faults a b c = later-further faults (seen_in a) (seen_in b) (seen_in c)

risen-from : (a b c : ℕ) → a ≤ b → (why : HouseFault) → HasRisen b c why → HasRisen a c why
risen-from a b c first fault.Store rose = rose-from a b c first rose
risen-from a b c first fault.NoMemory rose = tt
risen-from a b c first (fault.Failed count) rose = (rose.0, omega (arith, first, rose.1))

pub cause-then : (a b c : ℕ) → a ≤ b → (q : Result (Unit {0}) HouseFault) → FileCause b c q → FileCause a c q
cause-then a b c first (Ok done) cause = let later = cause.later in record { later = omega (arith, first, later); failed = tt }
cause-then a b c first (Err why) cause =
    let later = cause.later in record { later = omega (arith, first, later); failed = risen-from a b c first why cause.failed }

pub beside-then : (Of : Entry → Type 0) (a b c : List Entry) → AddsBeside Of a b → AddsBeside Of b c → AddsBeside Of a c
beside-then Of a b c first next = record {
  added = first.added ++ next.added;
  book = next.book ∙ ap (λ (book : List Entry). book ++ next.added) first.book ∙ append_assoc a first.added next.added;
  of_it = all-append Of first.added next.added first.of_it next.of_it;
}

-- ---- a pass of an initiator

kind-beside : (book : List Entry) (part : PartAt) (kind : Option JobKind) → AllByRecursion IsCompacting (book_of (asks_kind book part kind))
kind-beside book part None = tt
kind-beside book part (Some kind) = (refl, tt)

initiated-beside : (book : List Entry) (parts : List PartAt) → AddsBeside IsCompacting book (initiated_from book parts)
initiated-beside book [] = record { added = []; book = sym (append-nil book); of_it = tt }
initiated-beside book (part ∷ parts) =
    let asked : List Entry = book_of (asks_for book part) in
    beside-then IsCompacting book (book ++ asked) (initiated_from (book ++ asked) parts)
    (record { added = asked; book = refl; of_it = kind-beside book part (due (state_of book) part.table.0 part.partition) })
    (initiated-beside (book ++ asked) parts)

split-take : (n : ℕ) (parts : List PartAt) → parts ≡ take n parts ++ drop n parts
split-take zero parts = refl
split-take (suc n) [] = refl
split-take (suc n) (part ∷ parts) = ap (λ (xs : List PartAt). part ∷ xs) (split-take n parts)

module _ {D : Type 0} (told : D → Option Store) (faults : D → ℕ) (own own' : List ℕ) (before now : ToldHouse D) where
  abbrev Alone : Setting D (ToldHouse D)
  Alone = among told faults Nothing Untouched

  abbrev A : Moment (ToldHouse D)
  A = known own before

  abbrev B : Moment (ToldHouse D)
  B = known own' now

  turned : (first items : List TrailItem) (pick : List Entry → List PartAt) → IsFront (trail_in before) first → AddsItems faults Nothing A B items
      → AreTurns first (pick (book_of first)) items (trail_in now)
      → entries_of now.house ≡ initiated_from (entries_of before.house) (pick (entries_of before.house))
  turned first items pick later adds turns =
      sym (book-is now.house) ∙ turned-alone faults Nothing nothing-is-added A B first items pick later adds turns
      ∙ ap (λ (book : List Entry). initiated_from book (pick book)) (book-is before.house)

  pub asked-done : (count : ℕ) → Initiates Alone A B count → Initiated (entries_of before.house) (entries_of now.house)
  asked-done count i = record {
    turns = parts_in (entries_of before.house);
    rest = [];
    parts_are = sym (append-nil (parts_in (entries_of before.house)));
    goes = turned i.first i.items parts_in i.later i.adds i.turns;
    ends = inl refl;
  }

  asked-part : (why : RunFault) (i : InitiatesLess Alone A B why)
      → entries_of now.house ≡ initiated_from (entries_of before.house) (take i.turns_done (parts_in (entries_of before.house)))
  asked-part why i = turned i.first i.items (λ book. take i.turns_done (parts_in book)) i.later i.adds i.turns

  pub asked-full : (why : RunFault) → InitiatesLess Alone A B why → (entries : ℕ) → why ≡ run.Full entries
      → Initiated (entries_of before.house) (entries_of now.house)
  asked-full why i entries is = record {
    turns = take i.turns_done (parts_in (entries_of before.house));
    rest = drop i.turns_done (parts_in (entries_of before.house));
    parts_are = split-take i.turns_done (parts_in (entries_of before.house));
    goes = asked-part why i;
    ends = inr (subst (λ (book : List Entry). LacksRoomFor book 1) (book-is now.house) (subst (IsFullFor 1 (book_in now)) is i.full).full);
  }

  pub asked-beside : (count : ℕ) → Initiates Alone A B count → AddsBeside IsCompacting (entries_of before.house) (entries_of now.house)
  asked-beside count i =
      subst (AddsBeside IsCompacting (entries_of before.house)) (sym (turned i.first i.items parts_in i.later i.adds i.turns))
      (initiated-beside (entries_of before.house) (parts_in (entries_of before.house)))

  pub asked-some : (why : RunFault) → InitiatesLess Alone A B why → AddsBeside IsCompacting (entries_of before.house) (entries_of now.house)
  asked-some why i =
      subst (AddsBeside IsCompacting (entries_of before.house)) (sym (asked-part why i))
      (initiated-beside (entries_of before.house) (take i.turns_done (parts_in (entries_of before.house))))

  pub asked-open : (why : RunFault) → InitiatesLess Alone A B why → (entries : ℕ) → why ≡ run.Full entries → IsOpenHouse now
  asked-open why i entries is = subst (RunsOut Alone IsAsking now) is i.stops

  pub asked-shut : (why : RunFault) → InitiatesLess Alone A B why → why ≡ run.Store → IsShutHouse now
  asked-shut why i is = shut-house told faults IsAsking now (subst (RunsOut Alone IsAsking now) is i.stops)

-- ---- a pass of a cleaner

cleaned-kind : (jobs : List JobId) (ids : List LostId) → AllByRecursion IsCleaning (map entry.Cleaned jobs ++ map forgot_entry ids)
cleaned-kind [] [] = tt
cleaned-kind [] (id ∷ ids) = (tt, cleaned-kind [] ids)
cleaned-kind (job ∷ jobs) ids = (tt, cleaned-kind jobs ids)

pub cleans-beside : (before now : List Entry) → Cleans before now → AddsBeside IsCleaning before now
cleans-beside before now c = record { added = map entry.Cleaned c.jobs ++ map forgot_entry c.ids; book = c.goes; of_it = cleaned-kind c.jobs c.ids }

module _ {D : Type 0} (told : D → Option Store) (faults : D → ℕ) (own own' : List ℕ) (before now : ToldHouse D) where
  abbrev Lonely : Setting D (ToldHouse D)
  Lonely = among told faults Nothing Untouched

  abbrev Came : PassFault → Type 0
  Came why = StopsBehind Lonely (PassFront Lonely) (known own before) (known own' now) why

  in-books : SweepsSome (book_in before) (book_in now) → Cleans (entries_of before.house) (entries_of now.house)
  in-books some =
      subst (λ (book : List Entry). SweepsSome book (entries_of now.house)) (book-is before.house)
      (subst (SweepsSome (book_in before)) (book-is now.house) some)

  pub swept-done : (swept : Swept) → Passes Lonely (known own before) (known own' now) swept → Cleans (entries_of before.house) (entries_of now.house)
  swept-done swept pass =
      in-books (passes-some told faults Nothing nothing_rows Untouched nothing-is-added (known own before) (known own' now) swept pass)

  pub swept-less : (why : PassFault) → Came why → Cleans (entries_of before.house) (entries_of now.house)
  swept-less why came =
      in-books (stops-some told faults Nothing nothing_rows Untouched nothing-is-added (known own before) (known own' now) why came)

  pub swept-beside : (swept : Swept) → Passes Lonely (known own before) (known own' now) swept
      → AddsBeside IsCleaning (entries_of before.house) (entries_of now.house)
  swept-beside swept pass = cleans-beside (entries_of before.house) (entries_of now.house) (swept-done swept pass)

  pub swept-some : (why : PassFault) → Came why → AddsBeside IsCleaning (entries_of before.house) (entries_of now.house)
  swept-some why came = cleans-beside (entries_of before.house) (entries_of now.house) (swept-less why came)

  pub cleans-open : (why : PassFault) → Came why → (r : RunFault) → r ≡ run_of why → (entries : ℕ) → r ≡ run.Full entries → IsOpenHouse now
  cleans-open why came r same entries is = by why came.less.stops (sym same ∙ is)
    where
      by : (w : PassFault) → CleansOut Lonely now w → run_of w ≡ run.Full entries → IsOpenHouse now
      by pass_fault.Store stops e = let no_ : run.Store ≡ run.Full entries = e in cc
      by (pass_fault.Full count) stops e = stops
      by pass_fault.NoMemory stops e = let no_ : run.NoMemory ≡ run.Full entries = e in cc

  pub cleans-cut : (why : PassFault) → Came why → (r : RunFault) → r ≡ run_of why → r ≡ run.Store → IsShutBy Lonely IsSweeping now
  cleans-cut why came r same is = by why came.less.stops (sym same ∙ is)
    where
      by : (w : PassFault) → CleansOut Lonely now w → run_of w ≡ run.Store → IsShutBy Lonely IsSweeping now
      by pass_fault.Store stops e = stops
      by (pass_fault.Full count) stops e = let no_ : run.Full count ≡ run.Store = e in cc
      by pass_fault.NoMemory stops e = let no_ : run.NoMemory ≡ run.Store = e in cc

  pub cleans-lacking : (why : PassFault) → Came why → (r : RunFault) → r ≡ run_of why → r ≡ run.NoMemory → IsOpenHouse now
  cleans-lacking why came r same is = by why came.less.stops (sym same ∙ is)
    where
      by : (w : PassFault) → CleansOut Lonely now w → run_of w ≡ run.NoMemory → IsOpenHouse now
      by pass_fault.Store stops e = let no_ : run.Store ≡ run.NoMemory = e in cc
      by (pass_fault.Full count) stops e = let no_ : run.Full count ≡ run.NoMemory = e in cc
      by pass_fault.NoMemory stops e = stops

  pub cleans-shut : (why : PassFault) → Came why → (r : RunFault) → r ≡ run_of why → r ≡ run.Store → IsShutHouse now
  cleans-shut why came r same is = shut-house told faults IsSweeping now (cleans-cut why came r same is)
