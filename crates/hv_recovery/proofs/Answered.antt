-- From what the calls below answer to what is answered of a whole journal.
use Rattle.std.proofs.Common.{◌≡◌, ◌≢◌, ℕ, zero, suc, ◌+◌, ◌<◌, ◌≤◌, List, [], ◌∷◌, ◌++◌, length, refl, sym, subst, ◌∙◌, ◌⊎◌}
use Rattle.hv_base.specs.declared.ids.Limits.{Limits}
use Rattle.hv_shelf.specs.declared.fault.ShelfFault.{ShelfFault}
use Rattle.hv_shelf.specs.declared.fault.ShelfFault.TheVariants as store
use Rattle.hv_history.specs.declared.entry.Entry.{Entry}
use Rattle.hv_history.specs.Journal.{record_of, Leads, place_of}
use Rattle.hv_history.specs.State.{State, nothing_yet, state_of}
use Rattle.hv_history.specs.Legal.{Fits, AllFit}
use Rattle.hv_journal.specs.declared.fault.JournalFault.TheVariants as gate
use Rattle.hv_journal.specs.Gates.{Opens}
use Rattle.hv_journal.proofs.Forms.{one_record}
use Rattle.hv_recovery.specs.declared.fault.OpenFault.{OpenFault}
use Rattle.hv_recovery.specs.declared.fault.OpenFault.TheVariants as fault
use Rattle.hv_reading.specs.declared.fault.TextFault.{TextFault}
use Rattle.hv_reading.specs.declared.fault.TextFault.TheVariants as text
use Rattle.hv_reading.specs.Faults.{IsRefusalOf}
use Rattle.hv_reading.proofs.Either.{runs-not_refused}
use Rattle.hv_history.specs.Legal.{IsStatement}
use Rattle.hv_recovery.specs.Causes.{of_store, of_text}
use Rattle.hv_recovery.specs.Recovery.{IsBadGateFor, IsFaultFor, IsRefusedAt}

-- ---- at a gate

unfit_for : (limits : Limits) (state : State) (rest : List ℕ) (entry : Entry) (behind : List ℕ) → Opens rest entry behind → (Fits limits state entry → ⊥) → IsBadGateFor limits state rest
unfit_for limits state [] entry behind opens unfit = tt
unfit_for limits state (zero ∷ after) entry behind opens unfit =
    let parts = opens.parts in opens.open_gate (let same : opens.gate ≡ 0 = cc in same)
unfit_for limits state (suc gate ∷ after) entry behind opens unfit = λ e rest has is fits.
    let parts = opens.parts in
    let same : record_of entry ++ behind ≡ record_of e ++ rest = cc in
    unfit (subst (Fits limits state) (sym (one_record entry e behind rest opens.has has same).0) fits)

-- a gate whose entry was refused
pub fault_at_entry : (limits : Limits) (bytes rest : List ℕ) (book : List Entry) (at : ℕ) (entry : Entry) (behind : List ℕ) (e : OpenFault) → Opens rest entry behind → IsRefusedAt (Fits limits (state_of book) entry) at e
    → 2 ≤ length bytes → Leads book bytes rest → AllFit limits nothing_yet book → at ≡ place_of book → IsFaultFor limits bytes e
fault_at_entry limits bytes rest book at entry behind fault.NoMemory opens is long led fit place = tt
fault_at_entry limits bytes rest book at entry behind fault.Failed opens is long led fit place = tt
fault_at_entry limits bytes rest book at entry behind (fault.BadJournal found) opens is long led fit place =
    record { book = book; rest = rest; long = long; led = led; fit = fit; place = is.0 ∙ place; bad = unfit_for limits (state_of book) rest entry behind opens is.1 }

-- ---- where the store failed, or memory ran out

pub store_failed : (e : ShelfFault) → of_store e ≡ fault.Failed → e ≡ store.Failed
store_failed store.Failed is = refl
store_failed store.NoMemory is = absurd (let no : ⊥ = cc in no)

-- a text's fault says that the text is no statement
pub refused_text : (said : List ℕ) (at : ℕ) (f : TextFault) → IsRefusalOf f said → IsRefusedAt (IsStatement said) at (of_text at f)
refused_text said at text.NoMemory is = tt
refused_text said at (text.BadCharacter place) is = (refl, λ statement. runs-not_refused said statement.0 statement.1 (_, is))
refused_text said at (text.OpenString place) is = (refl, λ statement. runs-not_refused said statement.0 statement.1 (_, is))
refused_text said at (text.WideNumber place) is = (refl, λ statement. runs-not_refused said statement.0 statement.1 (_, is))
refused_text said at text.Syntax is = (refl, λ statement. runs-not_refused said statement.0 statement.1 (_, is))
refused_text said at (text.Nesting place) is = (refl, λ statement. runs-not_refused said statement.0 statement.1 (_, is))
