-- What a call that notes one entry by its name leaves, and when it is refused.
use Rattle.std.proofs.Common.{◌≡◌, ℕ, ◌+◌, ◌<◌, ◌≤◌, Bool, true, false, is_none, Option, Some, None, Ok, Err, List, [], ◌∷◌, length, map, refl, sym, ap, ◌∙◌, subst, arith, IsErrOf}
use Rattle.std.specs.Prelude.{◌↔◌, IsTrue, IsSome, IsSomeAnd}
use Rattle.std.specs.Prelude.{nat_lt}
use Rattle.std.specs.Option.{option_map}
use Rattle.std.proofs.lemmas.Bool.Decides.{nat_tests}
use Rattle.hv_base.specs.declared.ids.TxnId.{TxnId}
use Rattle.hv_base.specs.declared.ids.TableId.{TableId}
use Rattle.hv_base.specs.declared.ids.Limits.{Limits}
use Rattle.hv_base.specs.Told.{Moves, StaysTold}
use Rattle.hv_shelf.specs.Disk.{Store}
use Rattle.hv_ast.specs.declared.statement.Stmt.{Stmt}
use Rattle.hv_built.specs.Running.{Runs}
use Rattle.hv_history.specs.declared.entry.Entry.{Entry}
use Rattle.hv_history.specs.declared.entry.Entry.TheVariants as entry
use Rattle.hv_history.specs.declared.state.Ending.{Ending}
use Rattle.hv_history.specs.declared.state.Table.{Table}
use Rattle.hv_history.specs.declared.state.Transaction.{Transaction}
use Rattle.hv_history.specs.State.{State, numbered, state_of}
use Rattle.hv_history.specs.Legal.{is_open, is_started, load, HasRoom, OpenedFits, CreateFits, DropFits, Fits, Of}
use Rattle.std.proofs.lemmas.List.{length-map}
use Rattle.hv_book.specs.declared.notes.TableNote.{TableNote}
use Rattle.hv_book.specs.Briefs.{brief_table}
use Rattle.hv_book.specs.Past.{owners_in}
use Rattle.hv_recovery.specs.hv_fits.specs.hv_meta.specs.States.{state_by, transaction_state}
use Rattle.hv_journal.specs.Appending.{KeepsTree}
use Rattle.hv_trail.specs.Steps.{Note, Done, Step}
use Rattle.hv_house.specs.declared.house.House.{House}
use Rattle.hv_house.specs.declared.fault.HouseFault.{HouseFault}
use Rattle.hv_house.specs.declared.fault.HouseFault.TheVariants as house_fault
use Rattle.hv_house.specs.declared.calls.EntryFault.{EntryFault}
use Rattle.hv_house.specs.declared.calls.EntryFault.TheVariants as fault
use Rattle.hv_house.specs.Faults.{HasRisen, EndsRun}
use Rattle.hv_house.specs.House.{IsReadyWithin, StaysReadyWithin, IsNoted, IsHalted}
use Rattle.hv_house.specs.Steps.{seen_of, fault_outcome}
use Rattle.hv_house.specs.Calls.{place_ended, HasNotEnded, IfOpen, CanBeGiven, next_given, next_table, EntryStepWithin}
use Rattle.hv_house.proofs.Stays.{stays_of}
use Rattle.hv_house.proofs.Steps.{noting-one, step-halted}

-- ---- what it leaves

keeps_tree : (o : Option Store) → Moves KeepsTree o o
keeps_tree None = tt
keeps_tree (Some s) = refl

module _ {D : Type 0} (limits : Limits) (told : D → Option Store) (faults : D → ℕ) (event : Entry) (before now : House D) where
  pub entry-done : {T : Type 0} (x : T) → IsReadyWithin limits told now → IsNoted told event before now → Moves KeepsTree (told before.shelf) (told now.shelf)
      → StaysTold (told before.shelf) (told now.shelf) → Step told faults (Note event) Done (seen_of before) (seen_of now) → faults before.shelf ≤ faults now.shelf
      → EntryStepWithin limits told faults event before now (Ok x)
  entry-done x ready noted tree tells step later = record {
    ready = ready;
    noted = noted;
    stays = tt;
    halted = tt;
    ends = tt;
    tree_kept = tree;
    tells = tells;
    step = step;
    later = later;
    failed = tt;
  }

  pub entry-failed : {T : Type 0} (why : HouseFault) → StaysReadyWithin limits told why now → IsHalted told event why before now → EndsRun why
      → Moves KeepsTree (told before.shelf) (told now.shelf) → StaysTold (told before.shelf) (told now.shelf)
      → Step told faults (Note event) (fault_outcome why) (seen_of before) (seen_of now) → faults before.shelf ≤ faults now.shelf
      → HasRisen (faults before.shelf) (faults now.shelf) why → EntryStepWithin {T = T} limits told faults event before now (Err (fault.House why))
  entry-failed why stays halted ends tree tells step later risen = record {
    ready = tt;
    noted = tt;
    stays = stays;
    halted = halted;
    ends = ends;
    tree_kept = tree;
    tells = tells;
    step = step;
    later = later;
    failed = risen;
  }

-- the house was asked alone
module _ {D : Type 0} (limits : Limits) (told : D → Option Store) (faults : D → ℕ) (event : Entry) (house : House D) (ready : IsReadyWithin limits told house) where
  refused-step : Step told faults (Note event) (fault_outcome house_fault.NoMemory) (seen_of house) (seen_of house)
  refused-step =
      step-halted told faults (Note event) (event ∷ []) (noting-one event) house house ready.kept.running refl refl refl refl (keeps_tree (told house.shelf)) (omega arith)
      house_fault.NoMemory refl refl ready.kept.reads

  pub entry-full : {T : Type 0} (entries : ℕ) → EntryStepWithin {T = T} limits told faults event house house (Err (fault.Full entries))
  entry-full entries = record {
    ready = tt;
    noted = tt;
    stays = ready;
    halted = refl;
    ends = tt;
    tree_kept = keeps_tree (told house.shelf);
    tells = stays_of (told house.shelf) (told house.shelf) (keeps_tree (told house.shelf));
    step = refused-step;
    later = omega arith;
    failed = tt;
  }

-- ---- what is said of an open transaction

unended : (e : Option Ending) (started : Bool) → place_ended (state_by e started) ≡ None → is_none e ≡ true
unended None started none = refl
unended (Some ending) started none = cc

pub when-open : (o : Option Transaction) (P : Transaction → Type 0) → IsSomeAnd o (λ t. IsTrue (is_open t) → P t) → place_ended (transaction_state o) ≡ None → IsSomeAnd o P
when-open None P can none = absurd can
when-open (Some t) P can none = can (unended t.ending (is_started t) none)

-- ---- an Opened, and a Start

pub opening-fits : (limits : Limits) (book : List Entry) (txn : ℕ) (text : List ℕ) (tree : Stmt) → txn ≡ length (state_of book).transactions + 1 → Runs text tree
    → HasRoom limits (state_of book) 2 → OpenedFits limits (state_of book) txn text
opening-fits limits book txn text tree next runs room = record { next = next; statement = (tree, runs); room = room }

-- ---- the next write id

pub next-of : (o : Option Table) (write : ℕ) → Some write ≡ option_map (λ (t : Table). length t.owners + 1) o → write ≡ length (owners_in o) + 1
next-of None write e = cc
next-of (Some t) write e = cc

-- the id that a call found is this one
pub given-next : (limits : Limits) (book : List Entry) (txn : TxnId) (table : TableId) (write : ℕ)
    → Some write ≡ option_map (λ (t : Table). length t.owners + 1) (numbered (state_of book).tables table.0)
    → Fits limits (state_of book) (next_given book txn table) → Fits limits (state_of book) (entry.Given txn table (record { 0 = write }))
given-next limits book txn table write found fits =
    subst (λ n. Fits limits (state_of book) (entry.Given txn table (record { 0 = n }))) (sym (next-of (numbered (state_of book).tables table.0) write found)) fits

live-here : (o : Option Table) → IsSomeAnd o (λ t. IsTrue t.is_live) → IsSome o
live-here None live = absurd live
live-here (Some t) live = refl

given-here : (s : State) (table : ℕ) (o : Option Transaction) → IsSomeAnd o (CanBeGiven s table) → IsSome (numbered s.tables table)
given-here s table None can = absurd can
given-here s table (Some t) can = live-here (numbered s.tables table) can.live

pub none-of : (o : Option Table) → IsSome o → None ≡ option_map (λ (t : Table). length t.owners + 1) o → ⊥
none-of None some e = cc
none-of (Some t) some e = cc

-- ---- the next table

pub number-of : (notes : List TableNote) (entries book : List Entry) → notes ≡ map brief_table (state_of entries).tables → entries ≡ book
    → length notes ≡ length (state_of book).tables
number-of notes entries book are same =
    ap length are ∙ length-map (state_of entries).tables brief_table ∙ ap (λ (b : List Entry). length (state_of b).tables) same

pub create-fits : (book : List Entry) (txn : TxnId) (number : ℕ) → number ≡ length (state_of book).tables
    → IfOpen (state_of book) txn.0 (CreateFits (state_of book) (next_table book)) → HasNotEnded book txn.0
    → Of (state_of book) txn.0 (CreateFits (state_of book) (number + 1))
create-fits book txn number is can none =
    subst (λ n. Of (state_of book) txn.0 (CreateFits (state_of book) (n + 1))) (sym is)
    (when-open (numbered (state_of book).transactions txn.0) (CreateFits (state_of book) (next_table book)) can none)

-- ---- a table that is dropped

pub drop-fits : (book : List Entry) (txn : TxnId) (table : TableId) → IfOpen (state_of book) txn.0 (DropFits (state_of book) table.0) → HasNotEnded book txn.0
    → Of (state_of book) txn.0 (DropFits (state_of book) table.0)
drop-fits book txn table can none = when-open (numbered (state_of book).transactions txn.0) (DropFits (state_of book) table.0) can none

-- ---- when it is refused

-- with another answer
pub ok-as : {T U : Type 0} (x : U) (y : T) (why : EntryFault) (P : Type 0) → IsErrOf (Ok x) why ↔ P → IsErrOf (Ok y) why ↔ P
ok-as x y why P iff = (λ e. cc, λ p. let never : Ok x ≡ Err why = iff.1 p in cc)

pub err-as : {T U : Type 0} (found why : EntryFault) (P : Type 0) → IsErrOf {T = U} (Err found) why ↔ P → IsErrOf {T = T} (Err found) why ↔ P
err-as {T = T} {U = U} found why P iff = (
  λ (e : IsErrOf {T = T} (Err found) why). let same : found ≡ why = cc in iff.0 (ap (λ w. Err w) same),
  λ p. let e : IsErrOf {T = U} (Err found) why = iff.1 p in let same : found ≡ why = cc in ap (λ w. Err w) same,
)

lacks-room : (limits : Limits) (s : State) (more : ℕ) → (HasRoom limits s more → ⊥) → limits.entries < load s + more
lacks-room limits s more none = by (nat_lt limits.entries (load s + more)) refl
  where
    by : (b : Bool) → nat_lt limits.entries (load s + more) ≡ b → limits.entries < load s + more
    by true is = grind (arith, nat_tests, is)
    by false is = absurd (none (grind (arith, nat_tests, is)))
