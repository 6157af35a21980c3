-- Books in bytes: what a reader has seen so far, and that a journal is one book.
use Rattle.std.proofs.Common.{◌≡◌, ◌≢◌, ℕ, zero, suc, ◌+◌, ◌<◌, ◌≤◌, List, [], ◌∷◌, ◌++◌, length, Result, Ok, Err, refl, sym, ap, subst, ◌∙◌, append_assoc, arith, ◌⊎◌, inl, inr}
use Rattle.std.specs.Prelude.{MatchResult, IfOk, IfErr}
use Rattle.std.specs.Global.{Vec}
use Rattle.std.specs.List.{flat_map, AllByRecursion}
use Rattle.std.proofs.lemmas.List.{length-append}
use Rattle.std.proofs.lemmas.List.Concat.{flat_map-cons}
use Rattle.hv_history.specs.declared.entry.Entry.{Entry}
use Rattle.hv_history.specs.Journal.{record_of, HasRecord, Leads, Reads, IsJournal, IsBadGate, IsBadAt, place_of, journal_of}
use Rattle.hv_journal.specs.declared.fault.JournalFault.{JournalFault}
use Rattle.hv_journal.specs.declared.fault.JournalFault.TheVariants as fault
use Rattle.hv_journal.specs.Gates.{Opens, IsFaultIn}
use Rattle.hv_journal.specs.Writing.{gated_record, records_of}
use Rattle.hv_journal.proofs.Forms.{one_record}

pub leads_more : (book : List Entry) (bytes rest : List ℕ) (e : Entry) (after : List ℕ) → Leads book bytes rest → Opens rest e after → Leads (book ++ e ∷ []) bytes after
leads_more [] bytes rest e after led opens = (opens.gate, after, opens.open_gate, opens.has, led ∙ opens.parts, refl)
leads_more (d ∷ book) bytes rest e after led opens = (led.0, led.1, led.2, led.3, led.4, leads_more book led.1 rest e after led.5 opens)

-- one book behind another
pub leads_join : (book more : List Entry) (bytes rest after : List ℕ) → Leads book bytes rest → Leads more rest after → Leads (book ++ more) bytes after
leads_join [] more bytes rest after led next = subst (λ (x : List ℕ). Leads more x after) (sym led) next
leads_join (e ∷ book) more bytes rest after led next = (led.0, led.1, led.2, led.3, led.4, leads_join book more led.1 rest after led.5 next)

pub place_join : (book more : List Entry) → place_of (book ++ more) ≡ place_of book + place_of more
place_join [] more = omega arith
place_join (e ∷ book) more = omega (arith, place_join book more)

pub place_more : (book : List Entry) (e : Entry) → place_of (book ++ e ∷ []) ≡ place_of book + (1 + length (record_of e))
place_more [] e = omega arith
place_more (d ∷ book) e = omega (arith, place_more book e)

pub opens_len : (rest : List ℕ) (e : Entry) (after : List ℕ) → Opens rest e after → length rest ≡ 1 + length (record_of e) + length after
opens_len rest e after opens = ap length opens.parts ∙ omega (arith, length-append (record_of e) after)

-- where a reader stops: at a closed gate, or where no record follows
IsStop : List ℕ → Type 0
IsStop [] = Unit {0}
IsStop (zero ∷ after) = Unit {0}
IsStop (suc gate ∷ after) = (e : Entry) (rest : List ℕ) → HasRecord e → after ≡ record_of e ++ rest → ⊥

stop_at_bad : (rest : List ℕ) → IsBadGate rest → IsStop rest
unfolding IsStop
stop_at_bad [] bad = tt
stop_at_bad (zero ∷ after) bad = tt
stop_at_bad (suc gate ∷ after) bad = bad

stop_at_closed : (after : List ℕ) → IsStop (0 ∷ after)
unfolding IsStop
stop_at_closed after = tt

stops : (rest : List ℕ) (gate : ℕ) (e : Entry) (after : List ℕ) → IsStop rest → gate ≢ 0 → HasRecord e → rest ≡ gate ∷ (record_of e ++ after) → ⊥
unfolding IsStop
stops [] gate e after stop ne has is = cc
stops (zero ∷ rest) gate e after stop ne has is = ne (let same : gate ≡ 0 = cc in same)
stops (suc g ∷ rest) gate e after stop ne has is = stop e after has cc

leads_once : (a b : List Entry) (bytes r s : List ℕ) → Leads a bytes r → IsStop r → Leads b bytes s → IsStop s → (a ≡ b) × (r ≡ s)
leads_once [] [] bytes r s led stop other other_stop = (refl, sym led ∙ other)
leads_once [] (e ∷ b) bytes r s led stop other other_stop = absurd (stops r other.0 e other.1 stop other.2 other.3 (sym led ∙ other.4))
leads_once (e ∷ a) [] bytes r s led stop other other_stop = absurd (stops s led.0 e led.1 other_stop led.2 led.3 (sym other ∙ led.4))
leads_once (e ∷ a) (d ∷ b) bytes r s led stop other other_stop =
    let same : led.0 ∷ (record_of e ++ led.1) ≡ other.0 ∷ (record_of d ++ other.1) = sym led.4 ∙ other.4 in
    let behind : record_of e ++ led.1 ≡ record_of d ++ other.1 = cc in
    let one = one_record e d led.1 other.1 led.3 other.3 behind in
    let more = leads_once a b led.1 r s led.5 stop (subst (λ (x : List ℕ). Leads b x s) (sym one.1) other.5) other_stop in
    (let heads = one.0 in let tails = more.0 in cc, more.1)

pub reads_once : (a b : List Entry) (bytes : List ℕ) → Reads a bytes → Reads b bytes → a ≡ b
reads_once a b bytes one other = (leads_once a b bytes (0 ∷ one.0) (0 ∷ other.0) one.1 (stop_at_closed one.0) other.1 (stop_at_closed other.0)).0

pub bad_reads : (a : List Entry) (bytes : List ℕ) (at : ℕ) → Reads a bytes → IsBadAt bytes at → ⊥
bad_reads a bytes at one bad =
    let same = leads_once a bad.0 bytes (0 ∷ one.0) bad.1 one.1 (stop_at_closed one.0) bad.3 (stop_at_bad bad.1 bad.5) in
    subst IsBadGate (sym same.1) bad.5

pub bad_once : (bytes : List ℕ) (at other : ℕ) → IsBadAt bytes at → IsBadAt bytes other → at ≡ other
bad_once bytes at other a b =
    let same = leads_once a.0 b.0 bytes a.1 b.1 a.3 (stop_at_bad a.1 a.5) b.3 (stop_at_bad b.1 b.5) in
    a.4 ∙ ap place_of same.0 ∙ sym b.4

-- ---- journals

pub long_book : (book : List Entry) (bytes : List ℕ) → 2 ≤ length bytes → Reads book bytes → IsJournal book bytes
long_book book [] long reads = absurd (omega arith)
long_book book (gate ∷ []) long reads = absurd (omega arith)
long_book book (gate ∷ next ∷ after) long reads = reads

pub journal_reads : (book : List Entry) (bytes : List ℕ) → 2 ≤ length bytes → IsJournal book bytes → Reads book bytes
journal_reads book [] long is = absurd (omega arith)
journal_reads book (gate ∷ []) long is = absurd (omega arith)
journal_reads book (gate ∷ next ∷ after) long is = is

-- what a scan answers is all that it may answer
pub scan_only : (bytes : List ℕ) (r : Result (Vec Entry × ℕ) JournalFault) → 2 ≤ length bytes → IfOk r (λ x. Reads x.0.items bytes × (x.1 ≡ place_of x.0.items)) → IfErr r (IsFaultIn bytes)
    → (book : List Entry) → IsJournal book bytes → MatchResult r (λ x. x.0.items ≡ book) (λ e. e ≡ fault.NoMemory)
scan_only bytes (Ok x) long found bad book is = reads_once x.0.items book bytes found.0 (journal_reads book bytes long is)
scan_only bytes (Err fault.NoMemory) long found bad book is = refl
scan_only bytes (Err (fault.BadJournal at)) long found bad book is = absurd (bad_reads book bytes at (journal_reads book bytes long is) bad)

pub scan_named : (bytes : List ℕ) (r : Result (Vec Entry × ℕ) JournalFault) → IfOk r (λ x. Reads x.0.items bytes × (x.1 ≡ place_of x.0.items)) → IfErr r (IsFaultIn bytes)
    → (at : ℕ) → IsBadAt bytes at → MatchResult r (λ _. ⊥) (λ e. (e ≡ fault.BadJournal at) ⊎ (e ≡ fault.NoMemory))
scan_named bytes (Ok x) found bad at is = bad_reads x.0.items bytes at found.0 is
scan_named bytes (Err fault.NoMemory) found bad at is = inr refl
scan_named bytes (Err (fault.BadJournal other)) found bad at is = inl (ap fault.BadJournal (bad_once bytes other at bad is))

-- ---- the journal as it is written

pub leads_len : (book : List Entry) (bytes rest : List ℕ) → Leads book bytes rest → length bytes ≡ place_of book + length rest
leads_len [] bytes rest led = ap length led ∙ omega arith
leads_len (e ∷ book) bytes rest led = ap length led.4 ∙ omega (arith, length-append (record_of e) led.1, leads_len book led.1 rest led.5)

leads_written : (book : List Entry) (rest : List ℕ) → AllByRecursion HasRecord book → Leads book (flat_map (λ e. 1 ∷ record_of e) book ++ rest) rest
leads_written [] rest each = refl
leads_written (e ∷ book) rest each =
    let tail = flat_map (λ e. 1 ∷ record_of e) book in
    let parts : flat_map (λ e. 1 ∷ record_of e) (e ∷ book) ++ rest ≡ 1 ∷ (record_of e ++ (tail ++ rest)) =
    ap (λ (x : List ℕ). x ++ rest) (flat_map-cons (λ e. 1 ∷ record_of e) e book) ∙ append_assoc (1 ∷ record_of e) tail rest in
    (1, tail ++ rest, (λ same. let no : ⊥ = omega arith in no), each.0, parts, leads_written book rest each.1)

pub journal_reads_back : (book : List Entry) → AllByRecursion HasRecord book → Reads book (journal_of book)
unfolding journal_of
journal_reads_back book each = ([], leads_written book (0 ∷ []) each)

-- records as they are appended, behind a gate that is open
pub leads_records : (gate : ℕ) (first : Entry) (more : List Entry) (rest : List ℕ) → gate ≢ 0 → AllByRecursion HasRecord (first ∷ more)
    → Leads (first ∷ more) (gate ∷ (records_of first more ++ rest)) rest
unfolding gated_record
leads_records gate first more rest ne each =
    let behind = flat_map (λ e. 1 ∷ record_of e) more in
    (gate, behind ++ rest, ne, each.0, ap (λ (x : List ℕ). gate ∷ x) (append_assoc (record_of first) behind rest), leads_written more rest each.1)
