-- An entry that is noted where it fits.
use Rattle.std.proofs.Common.{◌≡◌, ℕ, ◌+◌, ◌↔◌, not, length, Bool, false, Option, Some, None, Ok, Err, IsTrue, List, map, true≢false, refl, sym, ap, ◌∙◌, subst}
use Rattle.hv_base.specs.declared.ids.TxnId.{TxnId}
use Rattle.std.specs.Option.{option_map}
use Rattle.std.proofs.lemmas.List.{length-map}
use Rattle.hv_book.specs.declared.notes.TableNote.{TableNote}
use Rattle.hv_book.specs.Briefs.{brief_table}
use Rattle.hv_base.specs.declared.ids.TableId.{TableId}
use Rattle.hv_base.specs.declared.ids.WriteId.{WriteId}
use Rattle.hv_shelf.specs.Disk.{Store}
use Rattle.hv_history.specs.declared.entry.Entry.{Entry}
use Rattle.hv_history.specs.declared.state.Table.{Table}
use Rattle.hv_history.specs.State.{state_of, numbered}
use Rattle.hv_history.specs.Legal.{Of, Fits, FullFits, profile}
use Rattle.hv_stands.specs.Running.{IsOf}
use Rattle.hv_meta.specs.declared.facts.TxnState.{TxnState}
use Rattle.hv_meta.specs.declared.facts.TxnState.TheVariants as standings
use Rattle.hv_meta.specs.States.{state_in}
use Rattle.hv_trail.specs.declared.trail.TrailItem.{TrailItem}
use Rattle.hv_trail.specs.Trail.{state_at}
use Rattle.hv_trail.specs.Kept.{trail_of}
use Rattle.hv_trail.specs.Steps.{Call, Note, Done, HouseSeen, Step}
use Rattle.hv_telling.specs.hv_house.specs.declared.house.House.{House}
use Rattle.hv_telling.specs.hv_house.specs.declared.fault.HouseFault.{HouseFault}
use Rattle.hv_telling.specs.hv_house.specs.Faults.{HasRisen}
use Rattle.hv_telling.specs.hv_house.specs.House.{entries_of, IsHalted}
use Rattle.hv_telling.specs.hv_house.specs.Steps.{seen_of, fault_outcome}
use Rattle.hv_telling.specs.Telling.{IsToldHouse, IsWhole, StaysWhole, StillOpens}
use Rattle.hv_acts.specs.declared.fault.ActFault.{ActFault}
use Rattle.hv_acts.specs.declared.fault.ActFault.TheVariants as act
use Rattle.hv_acts.specs.Answers.{act_outcome, call_behind, Test, NoTest, IsLate, IsWhy, HasNotEnded, id_behind, next_id, next_table, EntryFits, own_entry, EntryStep, WhyRises, OpensNone}
use Rattle.hv_acts.proofs.Steps.{book-is, asked, whole-keeps, keeps-behind}
use Rattle.hv_acts.proofs.Leaves.{noted-leaves, late-leaves}

-- ---- why it was refused

pub why-of : (test : Test) (trail : List TrailItem) (txn : TxnId) (Fact : Type 0) (why : ActFault) → IsLate trail txn why → (Fact → ⊥) → IsWhy test trail txn Fact why
why-of test trail txn Fact (act.Ended at) late not = late
why-of test trail txn Fact (act.Full entries) late not = absurd late
why-of test trail txn Fact (act.Held by) late not = absurd late
why-of test trail txn Fact (act.Broken put count) late not = absurd late
why-of test trail txn Fact act.Unfit late not = (late, not)
why-of test trail txn Fact (act.House why) late not = absurd late

-- what was refused for a fact is refused for one that it follows from
pub why-for : (test : Test) (trail : List TrailItem) (txn : TxnId) (P Q : Type 0) → (Q → P) → (why : ActFault) → IsWhy NoTest trail txn P why → IsWhy test trail txn Q why
why-for test trail txn P Q f (act.Ended at) is = is
why-for test trail txn P Q f (act.Full entries) is = absurd is.0
why-for test trail txn P Q f (act.Held by) is = absurd is.0
why-for test trail txn P Q f (act.Broken put count) is = absurd is.0
why-for test trail txn P Q f act.Unfit is = (is.0, λ q. is.1 (f q))
why-for test trail txn P Q f (act.House why) is = tt

-- a test refused it: the house was only asked
pub asked-late : {D : Type 0} (told : D → Option Store) (faults : D → ℕ) (seen : HouseSeen D) (trail : List TrailItem) (txn : TxnId) (call : Call) (why : ActFault)
    → IsLate trail txn why → Step told faults (call_behind call why) (act_outcome why) seen seen
asked-late told faults seen trail txn call (act.Ended at) late = asked told faults seen
asked-late told faults seen trail txn call (act.Full entries) late = absurd late
asked-late told faults seen trail txn call (act.Held by) late = absurd late
asked-late told faults seen trail txn call (act.Broken put count) late = absurd late
asked-late told faults seen trail txn call act.Unfit late = asked told faults seen
asked-late told faults seen trail txn call (act.House why) late = absurd late

-- no call on files was made
pub late-rises : {D : Type 0} (faults : D → ℕ) (seen : HouseSeen D) (trail : List TrailItem) (txn : TxnId) (why : ActFault) → IsLate trail txn why → WhyRises faults seen why
late-rises faults seen trail txn (act.Ended at) late = tt
late-rises faults seen trail txn (act.Full entries) late = absurd late
late-rises faults seen trail txn (act.Held by) late = absurd late
late-rises faults seen trail txn (act.Broken put count) late = absurd late
late-rises faults seen trail txn act.Unfit late = tt
late-rises faults seen trail txn (act.House why) late = absurd late

-- ---- how far its transaction has come

pub state-there : {D : Type 0} (house : House D) (txn : TxnId) (entries : List Entry) (standing : TxnState) → entries ≡ entries_of house → standing ≡ state_in (state_of entries) txn.0
    → state_in (state_at (trail_of house.trail)) txn.0 ≡ standing
state-there house txn entries standing are is = ap (λ (book : List Entry). state_in (state_of book) txn.0) (book-is house ∙ sym are) ∙ sym is

pub late-ended : {D : Type 0} (house : House D) (txn : TxnId) (entries : List Entry) (at : ℕ) (standing : TxnState) → entries ≡ entries_of house
    → standing ≡ state_in (state_of entries) txn.0 → standing ≡ standings.Ended at → IsLate (trail_of house.trail) txn (act.Ended at)
late-ended house txn entries at standing are is ended = state-there house txn entries standing are is ∙ ended

pub open-by : (standing same : TxnState) → standing ≡ same → HasNotEnded same → HasNotEnded standing
open-by standing same e not = subst HasNotEnded (sym e) not

pub late-open : {D : Type 0} (house : House D) (txn : TxnId) (entries : List Entry) (standing : TxnState) → entries ≡ entries_of house
    → standing ≡ state_in (state_of entries) txn.0 → HasNotEnded standing → HasNotEnded (state_in (state_at (trail_of house.trail)) txn.0)
late-open house txn entries standing are is not = subst HasNotEnded (sym (state-there house txn entries standing are is)) not

pub full-trail : {D : Type 0} (house : House D) (txn : TxnId) (b : Bool) → IsTrue b ↔ Of (state_of (entries_of house)) txn.0 (FullFits profile (state_of (entries_of house)))
    → IsTrue b ↔ Of (state_at (trail_of house.trail)) txn.0 (FullFits profile (state_at (trail_of house.trail)))
full-trail house txn b same = subst (λ (book : List Entry). IsTrue b ↔ Of (state_of book) txn.0 (FullFits profile (state_of book))) (sym (book-is house)) same

-- ---- the next write id

id-some : (x : Option Table) (write : WriteId) → option_map (λ (w : WriteId). w.0) (Some write) ≡ option_map (λ (t : Table). length t.owners + 1) x
    → write ≡ record { 0 = id_behind x }
id-some None write e = cc
id-some (Some t) write e =
    let number : write.0 ≡ length t.owners + 1 = cc in
    λ i. record { 0 = number i }

id-none : (x : Option Table) → option_map (λ (w : WriteId). w.0) None ≡ option_map (λ (t : Table). length t.owners + 1) x → 1 ≡ id_behind x
id-none None e = refl
id-none (Some t) e = cc

abbrev pub NextOf : List Entry → TableId → Option WriteId → Type 0
NextOf book table o = option_map (λ (w : WriteId). w.0) o ≡ option_map (λ (t : Table). length t.owners + 1) (numbered (state_of book).tables table.0)

pub next-some : {D : Type 0} (house : House D) (table : TableId) (o : Option WriteId) (write : WriteId) → o ≡ Some write → NextOf (entries_of house) table o
    → write ≡ next_id (trail_of house.trail) table
next-some house table o write some next =
    id-some (numbered (state_at (trail_of house.trail)).tables table.0) write
    (subst (λ (book : List Entry). NextOf book table (Some write)) (sym (book-is house)) (subst (NextOf (entries_of house) table) some next))

pub next-none : {D : Type 0} (house : House D) (table : TableId) (o : Option WriteId) → o ≡ None → NextOf (entries_of house) table o
    → record { 0 = 1 } ≡ next_id (trail_of house.trail) table
next-none house table o none next =
    let number = id-none (numbered (state_at (trail_of house.trail)).tables table.0)
    (subst (λ (book : List Entry). NextOf book table None) (sym (book-is house)) (subst (NextOf (entries_of house) table) none next)) in
    λ i. record { 0 = number i }

-- the next table
pub next-made : {D : Type 0} (house : House D) (entries : List Entry) (notes : List TableNote) → entries ≡ entries_of house → notes ≡ map brief_table (state_of entries).tables
    → record { 0 = length notes + 1 } ≡ next_table (trail_of house.trail)
next-made house entries notes are is =
    let count : length notes ≡ length (state_of entries).tables = ap length is ∙ length-map (state_of entries).tables brief_table in
    let same : length (state_of entries).tables ≡ length (state_at (trail_of house.trail)).tables = ap (λ (book : List Entry). length (state_of book).tables) (are ∙ sym (book-is house)) in
    let number : length notes + 1 ≡ length (state_at (trail_of house.trail)).tables + 1 = ap (λ n. n + 1) (count ∙ same) in
    λ i. record { 0 = number i }

pub no-true : (b : Bool) → b ≡ false → IsTrue b → ⊥
no-true b is so = true≢false (sym so ∙ is)

-- ---- the entry's step

-- what fits the book fits the trail
pub fits-trail : {D : Type 0} (house : House D) (event : Entry) → Fits profile (state_of (entries_of house)) event → EntryFits (trail_of house.trail) event
fits-trail house event = subst (λ (book : List Entry). Fits profile (state_of book) event) (sym (book-is house))

pub fits-book : {D : Type 0} (house : House D) (event : Entry) → EntryFits (trail_of house.trail) event → Fits profile (state_of (entries_of house)) event
fits-book house event = subst (λ (book : List Entry). Fits profile (state_of book) event) (book-is house)

module _ {D : Type 0} (told : D → Option Store) (faults : D → ℕ) (txn : TxnId) (event : Entry) where
  pub step-done : {T : Type 0} (x : T) (before now : House D) → IsWhole told before → IsWhole told now → Step told faults (Note event) Done (seen_of before) (seen_of now)
      → EntryFits (trail_of before.trail) event → EntryStep told faults (own_entry txn event) before now (Ok x)
  step-done x before now was whole step fits = record { keeps = whole-keeps told now whole; step = step; answers = (fits, tt); leaves = was.ready.kept.running }

  pub step-late : {T : Type 0} (why : ActFault) (house : House D) → IsWhole told house → IsLate (trail_of house.trail) txn why → (EntryFits (trail_of house.trail) event → ⊥)
      → EntryStep {T = T} told faults (own_entry txn event) house house (Err why)
  step-late why house whole late not = record {
    keeps = whole-keeps told house whole;
    step = asked-late told faults (seen_of house) (trail_of house.trail) txn (Note event) why late;
    answers = why-of NoTest (trail_of house.trail) txn (EntryFits (trail_of house.trail) event) why late not;
    leaves = late-leaves told faults (trail_of house.trail) txn why (seen_of house) (seen_of house) late whole.ready.kept.running;
  }

  pub step-failed : {T : Type 0} (why : HouseFault) (before now : House D) → IsWhole told before → IsOf txn.0 event → OpensNone event
      → EntryFits (trail_of before.trail) event
      → StaysWhole told why now → IsHalted told event why before now → HasRisen (faults before.shelf) (faults now.shelf) why
      → (IsToldHouse told before → StillOpens told now) → now.start ≡ before.start
      → Step told faults (Note event) (fault_outcome why) (seen_of before) (seen_of now)
      → EntryStep {T = T} told faults (own_entry txn event) before now (Err (act.House why))
  step-failed why before now was of_it unopened fits stays halted risen opens start step = record {
    keeps = keeps-behind told before now why was stays opens start step.closed;
    step = step;
    answers = tt;
    leaves = noted-leaves told faults txn.0 event why before now was.ready.kept.running of_it unopened fits halted risen;
  }
