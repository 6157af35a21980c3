-- What the calls ask for that note an entry by its name.
use Rattle.std.proofs.Common.{◌≡◌, ℕ, ◌+◌, Option, Some, None, Bool, true, false, List, length, Result, Ok, Err, sym, ◌∙◌, subst}
use Rattle.std.specs.Prelude.{◌↔◌, IsTrue, IsSomeAnd, IfOk, OnOk}
use Rattle.std.specs.Option.{option_map}
use Rattle.hv_base.specs.declared.ids.Limits.{Limits}
use Rattle.hv_shelf.specs.Disk.{Store}
use Rattle.hv_history.specs.declared.entry.Entry.{Entry}
use Rattle.hv_history.specs.declared.state.Table.{Table}
use Rattle.hv_history.specs.declared.state.Transaction.{Transaction}
use Rattle.hv_history.specs.State.{State, state_of, numbered}
use Rattle.hv_history.specs.Legal.{is_open, Of, StartFits, GivenFits, CreateFits, DropFits}
use Rattle.hv_book.specs.declared.notes.TransactionNote.{TransactionNote}
use Rattle.hv_book.specs.Briefs.{brief}
use Rattle.hv_session.specs.hv_beginning.specs.hv_steps.specs.hv_table_reader.specs.hv_acts.specs.hv_telling.specs.hv_house.specs.declared.house.House.{House}
use Rattle.hv_session.specs.hv_beginning.specs.hv_steps.specs.hv_table_reader.specs.hv_acts.specs.hv_telling.specs.hv_house.specs.House.{IsReadyWithin}
use Rattle.hv_session.specs.hv_beginning.specs.hv_steps.specs.hv_table_reader.specs.hv_acts.specs.hv_telling.specs.hv_house.specs.declared.calls.EntryFault.{EntryFault}
use Rattle.hv_session.specs.hv_beginning.specs.hv_steps.specs.hv_table_reader.specs.hv_acts.specs.hv_telling.specs.hv_house.specs.declared.calls.EntryFault.TheVariants as fault
use Rattle.hv_session.specs.hv_beginning.specs.hv_steps.specs.hv_table_reader.specs.hv_acts.specs.hv_telling.specs.hv_house.specs.Calls.{CanBeGiven, CanStart, IfOpen, StaysOpenWithin}
use Rattle.tests_house.specs.Asking.{IsOpen, StaysOpen, IsRefusal}

of_open : (P : Transaction → Type 0) (o : Option Transaction) → IsSomeAnd o P → IsSomeAnd o (λ t. IsTrue (is_open t) → P t)
of_open P None holds = holds
of_open P (Some t) holds = λ unended. holds

live_of : (write : ℕ) (o : Option Table) → IsSomeAnd o (λ t. IsTrue t.is_live × (write ≡ length t.owners + 1)) → IsSomeAnd o (λ t. IsTrue t.is_live)
live_of write None here = here
live_of write (Some t) here = here.0

live_given : (limits : Limits) (s : State) (table write : ℕ) (o : Option Transaction) → IsSomeAnd o (GivenFits limits s table write)
    → IsSomeAnd o (λ t. IsTrue (is_open t) → CanBeGiven s table t)
live_given limits s table write None fits = fits
live_given limits s table write (Some t) fits = λ unended. record { running = fits.running; live = live_of write (numbered s.tables table) fits.live; first = fits.first }

pub can_be_given : (limits : Limits) (b book : List Entry) (txn table write : ℕ) → b ≡ book → Of (state_of b) txn (GivenFits limits (state_of b) table write)
    → IfOpen (state_of book) txn (CanBeGiven (state_of book) table)
can_be_given limits b book txn table write same fits =
    subst (λ e. IfOpen (state_of e) txn (CanBeGiven (state_of e) table)) same (live_given limits (state_of b) table write (numbered (state_of b).transactions txn) fits)

-- ---- what fits may be noted, of a transaction that is open

pub if_open : (P : State → Transaction → Type 0) (b book : List Entry) (txn : ℕ) → b ≡ book → Of (state_of b) txn (P (state_of b)) → IfOpen (state_of book) txn (P (state_of book))
if_open P b book txn same fits =
    of_open (P (state_of book)) (numbered (state_of book).transactions txn) (subst (λ e. Of (state_of e) txn (P (state_of e))) same fits)

can_of : (limits : Limits) (s : State) (statement : ℕ) (o : Option Transaction) → IsSomeAnd o (StartFits limits s statement) → IsSomeAnd o (CanStart s)
can_of limits s statement None fits = fits
can_of limits s statement (Some t) fits = record { waiting = fits.waiting; unlocked = fits.unlocked }

pub can_start : (limits : Limits) (b book : List Entry) (txn statement : ℕ) → b ≡ book → Of (state_of b) txn (StartFits limits (state_of b) statement)
    → IfOpen (state_of book) txn (CanStart (state_of book))
can_start limits b book txn statement same fits =
    if_open CanStart b book txn same (can_of limits (state_of b) statement (numbered (state_of b).transactions txn) fits)

pub can_create : (b book : List Entry) (txn count : ℕ) → b ≡ book → count ≡ length (state_of b).tables → Of (state_of b) txn (CreateFits (state_of b) (count + 1))
    → IfOpen (state_of book) txn (CreateFits (state_of book) (length (state_of book).tables + 1))
can_create b book txn count same is fits =
    if_open (λ s. CreateFits s (length s.tables + 1)) b book txn same (subst (λ (n : ℕ). Of (state_of b) txn (CreateFits (state_of b) (n + 1))) is fits)

pub can_drop : (b book : List Entry) (txn table : ℕ) → b ≡ book → Of (state_of b) txn (DropFits (state_of b) table)
    → IfOpen (state_of book) txn (DropFits (state_of book) table)
can_drop b book txn table same fits = if_open (λ s. DropFits s table) b book txn same fits

-- of one that is there and has ended nothing is asked
ended_may : (P : Transaction → Type 0) (note : TransactionNote) (o : Option Transaction) (unended : Bool) → Some note ≡ option_map brief o
    → (IsTrue unended ↔ IsSomeAnd o (λ t. IsTrue (is_open t))) → unended ≡ false → IsSomeAnd o (λ t. IsTrue (is_open t) → P t)
ended_may P note None unended is known ended = cc
ended_may P note (Some t) unended is known ended = λ running. absurd (let wrong : false ≡ true = sym ended ∙ known.1 running in cc)

pub can_drop_late : (b book : List Entry) (txn table : ℕ) (note : TransactionNote) (unended : Bool) → b ≡ book
    → Some note ≡ option_map brief (numbered (state_of b).transactions txn) → (IsTrue unended ↔ Of (state_of b) txn (λ t. IsTrue (is_open t)))
    → unended ≡ false → IfOpen (state_of book) txn (DropFits (state_of book) table)
can_drop_late b book txn table note unended same is known ended =
    subst (λ (e : List Entry). IfOpen (state_of e) txn (DropFits (state_of e) table)) same
    (ended_may (DropFits (state_of b) table) note (numbered (state_of b).transactions txn) unended is known ended)

-- one that is there may be aborted, where it is open
noted : (note : TransactionNote) (o : Option Transaction) → Some note ≡ option_map brief o → IsSomeAnd o (λ t. IsTrue (is_open t) → IsTrue (is_open t))
noted note None is = cc
noted note (Some t) is = λ unended. unended

pub can_abort : (b book : List Entry) (txn : ℕ) (note : TransactionNote) → b ≡ book → Some note ≡ option_map brief (numbered (state_of b).transactions txn)
    → IfOpen (state_of book) txn (λ t. IsTrue (is_open t))
can_abort b book txn note same is =
    subst (λ (e : List Entry). IfOpen (state_of e) txn (λ t. IsTrue (is_open t))) same (noted note (numbered (state_of b).transactions txn) is)

-- ---- a house with its own limits

pub own_limits : {D : Type 0} (told : D → Option Store) (limits : Limits) (house : House D) → IsReadyWithin limits told house → IsOpen told house
own_limits told limits house ready = subst (λ l. IsReadyWithin l told house) (sym ready.limits_are) ready

pub stays_open : {D : Type 0} (told : D → Option Store) (before house now : House D) → StaysOpen told before house → StaysOpen told house now → StaysOpen told before now
stays_open told before house now was is = subst (λ l. IsReadyWithin l told now) was.limits_are is

-- a house that refused an entry is ready still
stays : {D : Type 0} (limits : Limits) (told : D → Option Store) (why : EntryFault) (now : House D) → StaysOpenWithin limits told why now → IsRefusal why → IsReadyWithin limits told now
stays limits told (fault.NotOpen at) now ready refused = ready
stays limits told (fault.Full entries) now ready refused = ready
stays limits told (fault.House why) now ready refused = absurd refused

pub refused_open : {D : Type 0} {T E : Type 0} (limits : Limits) (told : D → Option Store) (why : EntryFault) (now : House D) (said : Result T E) → StaysOpenWithin limits told why now
    → OnOk said (IsRefusal why) → IfOk said (λ _. IsReadyWithin limits told now)
refused_open limits told why now (Ok x) ready refused = stays limits told why now ready refused
refused_open limits told why now (Err fault) ready refused = tt
