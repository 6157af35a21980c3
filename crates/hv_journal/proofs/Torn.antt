-- Where a write broke off.
use Rattle.std.proofs.Common.{◌≡◌, ℕ, zero, suc, ◌+◌, ◌<◌, ◌≤◌, ◌⊎◌, inl, inr, List, [], ◌∷◌, ◌++◌, length, take, drop, Option, Some, None, refl, sym, ap, subst, ◌∙◌, append_assoc, arith}
use Rattle.std.specs.List.{AllByRecursion}
use Rattle.std.proofs.lemmas.List.{length-append, length-take, length-drop, take_at, drop_at}
use Rattle.hv_base.specs.Told.{Tells, Moves}
use Rattle.hv_shelf.specs.Disk.{Store, HasWritten, TornWrite, BreaksJournal}
use Rattle.hv_history.specs.declared.entry.Entry.{Entry}
use Rattle.hv_history.specs.Journal.{HasRecord, Leads, Reads, place_of}
use Rattle.hv_journal.specs.Appending.{Holds, ReadsMore, HoldsMore}
use Rattle.hv_journal.specs.Writing.{records_of}
use Rattle.hv_journal.proofs.Books.{leads_join, leads_records}
use Rattle.hv_journal.proofs.Appended.{front_of, written_record, gate_front, gate_behind}

-- the bytes up to a place, the one there, and the rest
parted : (bytes : List ℕ) (n : ℕ) → n < length bytes → (gate : ℕ) × (bytes ≡ take n bytes ++ (gate ∷ drop (suc n) bytes))
parted [] n low = absurd (omega arith)
parted (x ∷ bytes) zero low = (x, refl)
parted (x ∷ bytes) (suc n) low = let more = parted bytes n (omega arith) in (more.0, ap (λ (ys : List ℕ). x ∷ ys) more.1)

all_of : (bytes : List ℕ) (n : ℕ) → bytes ≡ take n bytes ++ drop n bytes
all_of [] zero = refl
all_of [] (suc n) = refl
all_of (x ∷ bytes) zero = refl
all_of (x ∷ bytes) (suc n) = ap (λ (ys : List ℕ). x ∷ ys) (all_of bytes n)

front_kept : (at n : ℕ) (x y : Store) → TornWrite at n x y → take at y.journal ≡ take at x.journal
front_kept at n x y (inl same) = ap (λ (s : Store). take at s.journal) same
front_kept at n x y (inr broken) = broken.front

-- the record's write broke off: the closed gate and all before it are as they were
record_torn : (x y : Store) (book : List Entry) (place n : ℕ) → TornWrite (place + 1) n x y → place ≡ place_of book → Reads book x.journal → Reads book y.journal
record_torn x y book place n torn at reads =
    let f = front_of book x.journal (0 ∷ reads.0) reads.1 in
    let head : take (place + 1) y.journal ≡ f.front ++ 0 ∷ [] = front_kept (place + 1) n x y torn ∙ ap (take (place + 1)) f.parts ∙ gate_front f.front 0 reads.0 place (f.len ∙ sym at) in
    let after = drop (place + 1) y.journal in
    let now : y.journal ≡ f.front ++ (0 ∷ after) = all_of y.journal (place + 1) ∙ ap (λ (ys : List ℕ). ys ++ after) head ∙ append_assoc f.front (0 ∷ []) after in
    (after, subst (λ (w : List ℕ). Leads book w (0 ∷ after)) (sym now) (f.leads (0 ∷ after)))

pub record_torn_told : (a b : Option Store) (more book : List Entry) (place n : ℕ) → Moves (TornWrite (place + 1) n) a b → place ≡ place_of book → Holds a book → HoldsMore b book more
record_torn_told None None more book place n torn at held = tt
record_torn_told None (Some y) more book place n torn at held = absurd torn
record_torn_told (Some x) None more book place n torn at held = absurd torn
record_torn_told (Some x) (Some y) more book place n torn at held = inl (record_torn x y book place n torn at held)

-- a gate of any byte, with the records behind it
either : (book : List Entry) (first : Entry) (more : List Entry) (front : List ℕ) (gate : ℕ) (behind : List ℕ) → AllByRecursion HasRecord (first ∷ more)
    → ((other : List ℕ) → Leads book (front ++ other) other)
    → ReadsMore book (first ∷ more) (front ++ (gate ∷ (records_of first more ++ (0 ∷ behind))))
either book first more front zero behind has leads = inl (records_of first more ++ (0 ∷ behind), leads (0 ∷ (records_of first more ++ (0 ∷ behind))))
either book first more front (suc gate) behind has leads =
    let rest = suc gate ∷ (records_of first more ++ (0 ∷ behind)) in
    let opens = leads_records (suc gate) first more (0 ∷ behind) (λ same. let no : ⊥ = cc in no) has in
    inr (behind, leads_join book (first ∷ more) (front ++ rest) rest (0 ∷ behind) (leads rest) opens)

gate_torn : (y z : Store) (book : List Entry) (first : Entry) (more : List Entry) (front : List ℕ) (place : ℕ) (behind : List ℕ) → AllByRecursion HasRecord (first ∷ more) → length front ≡ place
    → y.journal ≡ front ++ (0 ∷ (records_of first more ++ (0 ∷ behind))) → TornWrite place 1 y z → ((other : List ℕ) → Leads book (front ++ other) other) → ReadsMore book (first ∷ more) z.journal
gate_torn y z book first more front place behind has len parts (inl same) leads =
    subst (ReadsMore book (first ∷ more)) (sym (ap (λ (s : Store). s.journal) same ∙ parts)) (either book first more front 0 behind has leads)
gate_torn y z book first more front place behind has len parts (inr broken) leads =
    let rest = records_of first more ++ (0 ∷ behind) in
    let long : place < length y.journal = omega (arith, ap length parts, length-append front (0 ∷ rest), len) in
    let part = parted z.journal place (omega (arith, long, broken.least)) in
    let next : suc place ≡ place + 1 = omega arith in
    let head : take place z.journal ≡ front = broken.front ∙ ap (take place) parts ∙ take_at front (0 ∷ rest) place len in
    let tail : drop (suc place) z.journal ≡ rest = ap (λ (n : ℕ). drop n z.journal) next ∙ broken.behind ∙ ap (drop (place + 1)) parts ∙ gate_behind front 0 rest place len in
    let now : z.journal ≡ front ++ (part.0 ∷ rest) = part.1 ∙ ap (λ (ys : List ℕ). ys ++ (part.0 ∷ drop (suc place) z.journal)) head ∙ ap (λ (ys : List ℕ). front ++ (part.0 ∷ ys)) tail in
    subst (ReadsMore book (first ∷ more)) (sym now) (either book first more front part.0 behind has leads)

-- the gate's write broke off: the gate's byte is 0 or not
pub gate_torn_told : (a b c : Option Store) (first : Entry) (more book : List Entry) (place n : ℕ) (bytes : List ℕ) → AllByRecursion HasRecord (first ∷ more) → bytes ≡ records_of first more ++ 0 ∷ [] → n ≡ 1
    → Moves (HasWritten (place + 1) bytes) a b → Moves (TornWrite place n) b c → place ≡ place_of book → Holds a book → HoldsMore c book (first ∷ more)
gate_torn_told None None None first more book place n bytes has is one moved torn at held = tt
gate_torn_told None None (Some z) first more book place n bytes has is one moved torn at held = absurd torn
gate_torn_told None (Some y) c first more book place n bytes has is one moved torn at held = absurd moved
gate_torn_told (Some x) None c first more book place n bytes has is one moved torn at held = absurd moved
gate_torn_told (Some x) (Some y) None first more book place n bytes has is one moved torn at held = absurd torn
gate_torn_told (Some x) (Some y) (Some z) first more book place n bytes has is one moved torn at held =
    let body = records_of first more in
    let f = front_of book x.journal (0 ∷ held.0) held.1 in
    let len : length f.front ≡ place = f.len ∙ sym at in
    let behind = drop (place + 1 + length (body ++ 0 ∷ [])) x.journal in
    let closed = written_record f.front held.0 body x.journal y.journal place len f.parts (subst (λ (w : List ℕ). y.journal ≡ take (place + 1) x.journal ++ w ++ drop (place + 1 + length w) x.journal) is moved.journal_is) in
    gate_torn y z book first more f.front place behind has len closed (subst (λ (k : ℕ). TornWrite place k y z) one torn) f.leads
