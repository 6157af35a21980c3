-- A journal reads to one book or is bad at one place.
use Rattle.std.proofs.Common.{◌≡◌, ◌≢◌, ℕ, zero, suc, ◌+◌, ◌<◌, ◌≤◌, List, [], ◌∷◌, ◌++◌, length, Option, Some, None, Result, Ok, Err, refl, sym, ap, subst, ◌∙◌, arith, ◌⊎◌, inl, inr}
use Rattle.std.specs.Prelude.{fold, MatchResult, IfOk, IfErr}
use Rattle.hv_base.specs.declared.ids.Limits.{Limits}
use Rattle.hv_base.specs.Told.{Tells}
use Rattle.hv_shelf.specs.Disk.{Store}
use Rattle.hv_history.specs.declared.entry.Entry.{Entry}
use Rattle.hv_history.specs.Journal.{record_of, HasRecord, Leads, IsJournal, place_of}
use Rattle.hv_history.specs.State.{State, nothing_yet, state_of, after}
use Rattle.hv_history.specs.Legal.{Fits, AllFit}
use Rattle.hv_journal.specs.Gates.{Opens}
use Rattle.hv_journal.proofs.Forms.{one_record}
use Rattle.hv_journal.proofs.Books.{leads_more, opens_len, reads_once, long_book, journal_reads}
use Rattle.hv_recovery.specs.declared.fault.OpenFault.{OpenFault}
use Rattle.hv_recovery.specs.declared.fault.OpenFault.TheVariants as fault
use Rattle.hv_recovery.specs.Recovery.{IsJournalOf, IsBadGateFor, IsBadJournalAt, IsFaultFor, IsNoAnswer}

pub fit_more : (limits : Limits) (state : State) (book : List Entry) (e : Entry) → AllFit limits state book → Fits limits (fold after state book) e → AllFit limits state (book ++ e ∷ [])
fit_more limits state [] e all fits = (fits, tt)
fit_more limits state (d ∷ book) e all fits = (all.0, fit_more limits (after state d) book e all.1 fits)

-- where a reader stops
IsStopFor : Limits → State → List ℕ → Type 0
IsStopFor limits state [] = Unit {0}
IsStopFor limits state (zero ∷ after) = Unit {0}
IsStopFor limits state (suc gate ∷ after) = (e : Entry) (rest : List ℕ) → HasRecord e → after ≡ record_of e ++ rest → Fits limits state e → ⊥

stop_at_bad : (limits : Limits) (state : State) (rest : List ℕ) → IsBadGateFor limits state rest → IsStopFor limits state rest
unfolding IsStopFor
stop_at_bad limits state [] bad = tt
stop_at_bad limits state (zero ∷ after) bad = tt
stop_at_bad limits state (suc gate ∷ after) bad = bad

stop_at_closed : (limits : Limits) (state : State) (after : List ℕ) → IsStopFor limits state (0 ∷ after)
unfolding IsStopFor
stop_at_closed limits state after = tt

stops : (limits : Limits) (state : State) (rest : List ℕ) (gate : ℕ) (e : Entry) (after : List ℕ) → IsStopFor limits state rest → gate ≢ 0 → HasRecord e → Fits limits state e → rest ≡ gate ∷ (record_of e ++ after) → ⊥
unfolding IsStopFor
stops limits state [] gate e after stop ne has fits is = cc
stops limits state (zero ∷ rest) gate e after stop ne has fits is = ne (let same : gate ≡ 0 = cc in same)
stops limits state (suc g ∷ rest) gate e after stop ne has fits is = stop e after has (cc) fits

once : (limits : Limits) (state : State) (a b : List Entry) (bytes r s : List ℕ) → Leads a bytes r → AllFit limits state a → IsStopFor limits (fold after state a) r
    → Leads b bytes s → AllFit limits state b → IsStopFor limits (fold after state b) s → (a ≡ b) × (r ≡ s)
once limits state [] [] bytes r s led fit stop other other_fit other_stop = (refl, sym led ∙ other)
once limits state [] (e ∷ b) bytes r s led fit stop other other_fit other_stop = absurd (stops limits state r other.0 e other.1 stop other.2 other.3 other_fit.0 (sym led ∙ other.4))
once limits state (e ∷ a) [] bytes r s led fit stop other other_fit other_stop = absurd (stops limits state s led.0 e led.1 other_stop led.2 led.3 fit.0 (sym other ∙ led.4))
once limits state (e ∷ a) (d ∷ b) bytes r s led fit stop other other_fit other_stop =
    let same : led.0 ∷ (record_of e ++ led.1) ≡ other.0 ∷ (record_of d ++ other.1) = sym led.4 ∙ other.4 in
    let behind : record_of e ++ led.1 ≡ record_of d ++ other.1 = cc in
    let one = one_record e d led.1 other.1 led.3 other.3 behind in
    let more = once limits (after state e) a b led.1 r s led.5 fit.1 stop (subst (λ (x : List ℕ). Leads b x s) (sym one.1) other.5)
    (subst (λ (x : Entry). AllFit limits (after state x) b) (sym one.0) other_fit.1)
    (subst (λ (x : Entry). IsStopFor limits (fold after (after state x) b) s) (sym one.0) other_stop) in
    (let heads = one.0 in let tails = more.0 in cc, more.1)

pub is_once : (a b : List Entry) (bytes : List ℕ) → IsJournal a bytes → IsJournal b bytes → a ≡ b
is_once a b [] one other = one ∙ sym other
is_once a b (gate ∷ []) one other = one ∙ sym other
is_once a b (gate ∷ next ∷ after) one other = reads_once a b (gate ∷ next ∷ after) one other

pub one_book : (limits : Limits) (a b : List Entry) (bytes : List ℕ) → IsJournalOf limits a bytes → IsJournalOf limits b bytes → a ≡ b
one_book limits a b bytes one other = is_once a b bytes one.journal other.journal

pub not_both : (limits : Limits) (book : List Entry) (bytes : List ℕ) (at : ℕ) → IsJournalOf limits book bytes → IsBadJournalAt limits bytes at → ⊥
not_both limits book bytes at is bad =
    let reads = journal_reads book bytes bad.long is.journal in
    let same = once limits nothing_yet book bad.book bytes (0 ∷ reads.0) bad.rest reads.1 is.fit (stop_at_closed limits (state_of book) reads.0)
    bad.led bad.fit (stop_at_bad limits (state_of bad.book) bad.rest bad.bad) in
    subst (IsBadGateFor limits (state_of bad.book)) (sym same.1) bad.bad

pub one_place : (limits : Limits) (bytes : List ℕ) (at other : ℕ) → IsBadJournalAt limits bytes at → IsBadJournalAt limits bytes other → at ≡ other
one_place limits bytes at other a b =
    let same = once limits nothing_yet a.book b.book bytes a.rest b.rest a.led a.fit (stop_at_bad limits (state_of a.book) a.rest a.bad)
    b.led b.fit (stop_at_bad limits (state_of b.book) b.rest b.bad) in
    a.place ∙ ap place_of same.0 ∙ sym b.place

-- ---- never neither

abbrev NoBook : Limits → List ℕ → Type 0
NoBook limits bytes = (book : List Entry) → IsJournalOf limits book bytes → ⊥

abbrev NoPlace : Limits → List ℕ → Type 0
NoPlace limits bytes = (at : ℕ) → IsBadJournalAt limits bytes at → ⊥

goes_on : (n : ℕ) (limits : Limits) (bytes : List ℕ) (book : List Entry) (rest : List ℕ) → length rest ≤ n → 2 ≤ length bytes → Leads book bytes rest → AllFit limits nothing_yet book
    → NoBook limits bytes → NoPlace limits bytes → ⊥
goes_on n limits bytes book [] lt long led fit none good = good (place_of book) (record { book = book; rest = []; long = long; led = led; fit = fit; place = refl; bad = tt })
goes_on n limits bytes book (zero ∷ after) lt long led fit none good = none book (record { journal = long_book book bytes long (after, led); fit = fit })
goes_on zero limits bytes book (suc gate ∷ after) lt long led fit none good = omega arith
goes_on (suc n) limits bytes book (suc gate ∷ after) lt long led fit none good =
    good (place_of book) (record {
      book = book;
      rest = suc gate ∷ after;
      long = long;
      led = led;
      fit = fit;
      place = refl;
      bad = λ e rest has is fits.
          let opens : Opens (suc gate ∷ after) e rest = record { gate = suc gate; open_gate = (λ same. let no : ⊥ = omega arith in no); has = has; parts = ap (λ (x : List ℕ). suc gate ∷ x) is } in
          goes_on n limits bytes (book ++ e ∷ []) rest (omega (arith, opens_len (suc gate ∷ after) e rest opens)) long (leads_more book bytes (suc gate ∷ after) e rest led opens)
          (fit_more limits nothing_yet book e fit fits) none good;
    })

pub not_neither : (limits : Limits) (bytes : List ℕ) → NoBook limits bytes → NoPlace limits bytes → ⊥
not_neither limits [] none good = none [] (record { journal = refl; fit = tt })
not_neither limits (gate ∷ []) none good = none [] (record { journal = refl; fit = tt })
not_neither limits (gate ∷ next ∷ after) none good =
    goes_on (length (gate ∷ next ∷ after)) limits (gate ∷ next ∷ after) [] (gate ∷ next ∷ after) (omega arith) (omega arith) refl tt none good

-- ---- answers

-- what is answered is all that may be answered
pub answer_only : {A : Type 0} (r : Result A OpenFault) (entries : A → List Entry) (limits : Limits) (bytes : List ℕ) → IfOk r (λ x. IsJournalOf limits (entries x) bytes) → IfErr r (IsFaultFor limits bytes)
    → (book : List Entry) → IsJournalOf limits book bytes → MatchResult r (λ x. entries x ≡ book) IsNoAnswer
answer_only (Ok x) entries limits bytes found bad book is = one_book limits (entries x) book bytes found is
answer_only (Err fault.Failed) entries limits bytes found bad book is = tt
answer_only (Err fault.NoMemory) entries limits bytes found bad book is = tt
answer_only (Err (fault.BadJournal at)) entries limits bytes found bad book is = absurd (not_both limits book bytes at is bad)

pub answer_named : {A : Type 0} (r : Result A OpenFault) (entries : A → List Entry) (limits : Limits) (bytes : List ℕ) → IfOk r (λ x. IsJournalOf limits (entries x) bytes) → IfErr r (IsFaultFor limits bytes)
    → (at : ℕ) → IsBadJournalAt limits bytes at → MatchResult r (λ _. ⊥) (λ e. (e ≡ fault.BadJournal at) ⊎ IsNoAnswer e)
answer_named (Ok x) entries limits bytes found bad at is = not_both limits (entries x) bytes at found is
answer_named (Err fault.Failed) entries limits bytes found bad at is = inr tt
answer_named (Err fault.NoMemory) entries limits bytes found bad at is = inr tt
answer_named (Err (fault.BadJournal other)) entries limits bytes found bad at is = inl (ap fault.BadJournal (one_place limits bytes other at bad is))

-- what holds of bytes that were read holds of the journal that is told
pub tells_by : (told : Option Store) (bytes read : List ℕ) (P : List ℕ → Type 0) → read ≡ bytes → Tells told (λ s. s.journal ≡ bytes) → P read → Tells told (λ s. P s.journal)
tells_by None bytes read P is same p = tt
tells_by (Some s) bytes read P is same p = subst P (is ∙ sym same) p
