-- What a call that notes entries is as a step.
use Rattle.std.proofs.Common.{◌≡◌, ◌⊎◌, inl, inr, ℕ, ◌≤◌, Bool, true, false, true≢false, Option, Some, None, Result, Err, List, [], ◌∷◌, ◌++◌, map, refl, sym, ap, ◌∙◌, subst, append-nil}
use Rattle.std.specs.Prelude.{◌||◌}
use Rattle.hv_base.specs.Told.{Moves}
use Rattle.hv_base.specs.declared.ids.TxnId.{TxnId}
use Rattle.hv_shelf.specs.Disk.{Store}
use Rattle.hv_history.specs.declared.entry.Entry.{Entry}
use Rattle.hv_history.specs.Journal.{IsJournal}
use Rattle.hv_journal.specs.Appending.{Holds, KeepsTree, ReadsMore}
use Rattle.hv_trail.specs.declared.trail.TrailItem.TheVariants.{Noted}
use Rattle.hv_trail.specs.Trail.{woven_from}
use Rattle.hv_trail.specs.Kept.{trail_of}
use Rattle.hv_trail.specs.Steps.{Call, Note, Begin, Done, Closed, Refused, Notes, NotesOrNot, NotesNone, begun, gains, MayEnd, Changes, Step}
use Rattle.hv_trail.proofs.KeptLaws.{trail-book}
use Rattle.hv_house.specs.declared.fault.HouseFault.{HouseFault}
use Rattle.hv_house.specs.declared.fault.HouseFault.TheVariants as fault
use Rattle.hv_house.specs.declared.house.House.{House}
use Rattle.hv_house.specs.House.{entries_of, Leaves, AreNoted}
use Rattle.hv_house.specs.Steps.{seen_of, fault_outcome, outcome_of, ClosesBy}
use Rattle.hv_house.proofs.Boots.{reads-journal}

-- ---- a call that notes these entries, or none

pub record IsNoting (call : Call) (events : List Entry) : Type 0 where
  may_done : MayEnd call Done
  may_close : MayEnd call Closed
  may_refuse : MayEnd call Refused
  gains_all : gains call Done ≡ map Noted events
  gains_closed : gains call Closed ≡ []
  gains_refused : gains call Refused ≡ []
  done : (book : List Entry) (a b : Store) → Notes events book a b → Changes book call Done a b
  closed : (book : List Entry) (a b : Store) → NotesOrNot events book a b → Changes book call Closed a b
  refused : (book : List Entry) (a b : Store) → NotesNone book a b → Changes book call Refused a b

pub noting-one : (event : Entry) → IsNoting (Note event) (event ∷ [])
noting-one event = record {
  may_done = tt;
  may_close = tt;
  may_refuse = tt;
  gains_all = refl;
  gains_closed = refl;
  gains_refused = refl;
  done = λ book a b moved. moved;
  closed = λ book a b moved. moved;
  refused = λ book a b moved. moved;
}

pub noting-begun : (txn : TxnId) (session : List ℕ) (number : ℕ) (text : List ℕ) → IsNoting (Begin txn session number text) (begun txn session number text)
noting-begun txn session number text = record {
  may_done = tt;
  may_close = tt;
  may_refuse = tt;
  gains_all = refl;
  gains_closed = refl;
  gains_refused = refl;
  done = λ book a b moved. moved;
  closed = λ book a b moved. moved;
  refused = λ book a b moved. moved;
}

-- ---- what becomes of the store

moves-noted : (a b : Option Store) (events book entries : List Entry) → book ≡ entries → Moves KeepsTree a b → Holds b (entries ++ events) → Moves (Notes events book) a b
moves-noted None None events book entries same tree holds = tt
moves-noted None (Some t) events book entries same tree holds = absurd tree
moves-noted (Some s) None events book entries same tree holds = absurd tree
moves-noted (Some s) (Some t) events book entries same tree holds = record {
  tree_is = tree;
  reads = λ _. reads-journal (book ++ events) t.journal (subst (λ b. Holds (Some t) (b ++ events)) (sym same) holds);
}

read-or-not : (events book : List Entry) (bytes : List ℕ) → ReadsMore book events bytes → IsJournal book bytes ⊎ IsJournal (book ++ events) bytes
read-or-not events book bytes (inl reads) = inl (reads-journal book bytes reads)
read-or-not events book bytes (inr reads) = inr (reads-journal (book ++ events) bytes reads)

moves-stopped : (a b : Option Store) (events book entries : List Entry) → book ≡ entries → Moves KeepsTree a b → Leaves fault.Store events b entries
    → Moves (NotesOrNot events book) a b
moves-stopped None None events book entries same tree leaves = tt
moves-stopped None (Some t) events book entries same tree leaves = absurd tree
moves-stopped (Some s) None events book entries same tree leaves = absurd tree
moves-stopped (Some s) (Some t) events book entries same tree leaves =
    record { tree_is = tree; reads = λ _. read-or-not events book t.journal (subst (λ b. ReadsMore b events t.journal) (sym same) leaves) }

pub moves-by : (a b : Option Store) (P Q : Store → Store → Type 0) → ((x y : Store) → P x y → Q x y) → Moves P a b → Moves Q a b
moves-by None None P Q f moved = tt
moves-by None (Some y) P Q f moved = absurd moved
moves-by (Some x) None P Q f moved = absurd moved
moves-by (Some x) (Some y) P Q f moved = f x y moved

moves-none : (a b : Option Store) (book entries : List Entry) → book ≡ entries → Moves KeepsTree a b → Holds b entries → Moves (NotesNone book) a b
moves-none None None book entries same tree holds = tt
moves-none None (Some t) book entries same tree holds = absurd tree
moves-none (Some s) None book entries same tree holds = absurd tree
moves-none (Some s) (Some t) book entries same tree holds = record {
  tree_is = tree;
  reads = λ _. reads-journal book t.journal (subst (λ b. Holds (Some t) b) (sym same) holds);
}

-- ---- the step

same-or : (a b : Bool) → a ≡ false → b ≡ a → b ≡ a || false
same-or a b running same = same ∙ running ∙ sym (ap (λ c. c || false) running)

shut-or : (a b : Bool) → a ≡ false → b ≡ true → b ≡ a || true
shut-or a b running shut = shut ∙ sym (ap (λ c. c || true) running)

module _ {D : Type 0} (told : D → Option Store) (faults : D → ℕ) (call : Call) (events : List Entry) (noting : IsNoting call events)
    (before now : House D) (running : before.trail.closed ≡ false) (start : now.start ≡ before.start) (left : now.trail.opened ≡ before.trail.opened) (limits : now.limits ≡ before.limits)
    (starved : now.trail.starved ≡ before.trail.starved) (tree : Moves KeepsTree (told before.shelf) (told now.shelf)) (later : faults before.shelf ≤ faults now.shelf) where
  pub step-done : trail_of now.trail ≡ trail_of before.trail ++ map Noted events → now.trail.closed ≡ before.trail.closed
      → Holds (told now.shelf) (entries_of before ++ events) → Step told faults call Done (seen_of before) (seen_of now)
  step-done trail closed holds = record {
    may = noting.may_done;
    trail = trail ∙ ap (λ items. trail_of before.trail ++ items) (sym noting.gains_all);
    store = moves-by (told before.shelf) (told now.shelf) _ _ (noting.done _)
        (moves-noted (told before.shelf) (told now.shelf) events _ (entries_of before) (trail-book before.trail.entries before.trail.marks) tree holds);
    closed = same-or before.trail.closed now.trail.closed running closed;
    starved = starved;
    shut_out = λ shut. absurd (true≢false (sym shut ∙ running));
    counts = later;
    rest = record { start = ap (λ s. s.value) start; opened = left; limits = limits };
  }

  pub step-noted : AreNoted told events before now → trail_of now.trail ≡ trail_of before.trail ++ map Noted events → now.trail.closed ≡ before.trail.closed
      → Step told faults call Done (seen_of before) (seen_of now)
  step-noted noted trail closed = step-done trail closed (subst (Holds (told now.shelf)) noted.entries noted.kept.reads)

  pub step-halted : (why : HouseFault) → trail_of now.trail ≡ trail_of before.trail → ClosesBy why before.trail.closed now.trail.closed
      → Leaves why events (told now.shelf) (entries_of before) → Step told faults call (fault_outcome why) (seen_of before) (seen_of now)
  step-halted fault.Store trail closed leaves = record {
    may = noting.may_close;
    trail = trail ∙ sym (append-nil (trail_of before.trail)) ∙ ap (λ items. trail_of before.trail ++ items) (sym noting.gains_closed);
    store = moves-by (told before.shelf) (told now.shelf) _ _ (noting.closed _)
        (moves-stopped (told before.shelf) (told now.shelf) events _ (entries_of before) (trail-book before.trail.entries before.trail.marks) tree leaves);
    closed = shut-or before.trail.closed now.trail.closed running closed;
    starved = starved;
    shut_out = λ shut. absurd (true≢false (sym shut ∙ running));
    counts = later;
    rest = record { start = ap (λ s. s.value) start; opened = left; limits = limits };
  }
  step-halted fault.NoMemory trail closed leaves = record {
    may = noting.may_refuse;
    trail = trail ∙ sym (append-nil (trail_of before.trail)) ∙ ap (λ items. trail_of before.trail ++ items) (sym noting.gains_refused);
    store = moves-by (told before.shelf) (told now.shelf) _ _ (noting.refused _)
        (moves-none (told before.shelf) (told now.shelf) _ (entries_of before) (trail-book before.trail.entries before.trail.marks) tree leaves);
    closed = same-or before.trail.closed now.trail.closed running closed;
    starved = starved;
    shut_out = λ shut. absurd (true≢false (sym shut ∙ running));
    counts = later;
    rest = record { start = ap (λ s. s.value) start; opened = left; limits = limits };
  }
  step-halted (fault.Failed count) trail closed leaves = absurd leaves

-- what is passed up is the callee's fault
pub step-passed : {D T : Type 0} (told : D → Option Store) (faults : D → ℕ) (call : Call) (result : Result T HouseFault) (why same : HouseFault) (before now : House D)
    → result ≡ Err same → same ≡ why → Step told faults call (fault_outcome why) (seen_of before) (seen_of now)
    → Step told faults call (outcome_of result) (seen_of before) (seen_of now)
step-passed {T = T} told faults call result why same before now is e step =
    subst (λ (r : Result T HouseFault). Step told faults call (outcome_of r) (seen_of before) (seen_of now)) (sym is)
    (subst (λ (w : HouseFault). Step told faults call (fault_outcome w) (seen_of before) (seen_of now)) (sym e) step)

-- entries and marks as they were are the trail as it was
pub same-trail : {D : Type 0} (before now : House D) → entries_of now ≡ entries_of before → now.trail.marks ≡ before.trail.marks
    → trail_of now.trail ≡ trail_of before.trail
same-trail before now entries marks = ap (λ ms. woven_from 0 (entries_of now) ms) marks ∙ ap (λ es. woven_from 0 es before.trail.marks) entries
