-- Two writes append entries: their records behind the closed gate, and then that gate.
use Rattle.std.proofs.Common.{◌≡◌, ℕ, ◌+◌, List, [], ◌∷◌, ◌++◌, length, take, drop, Option, Some, None, refl, sym, ap, subst, ◌∙◌, append_assoc, arith}
use Rattle.std.specs.List.{AllByRecursion}
use Rattle.std.proofs.lemmas.List.{length-append, take_at, drop_at}
use Rattle.hv_base.specs.Told.{Moves}
use Rattle.hv_shelf.specs.Disk.{Store, HasWritten}
use Rattle.hv_history.specs.declared.entry.Entry.{Entry}
use Rattle.hv_history.specs.Journal.{record_of, HasRecord, Leads, place_of}
use Rattle.hv_journal.specs.Appending.{Holds}
use Rattle.hv_journal.specs.Writing.{records_of}
use Rattle.hv_journal.proofs.Books.{leads_join, leads_records}

-- a book's records, and how far they go
pub record Front (book : List Entry) (bytes rest : List ℕ) : Type 0 where
  pub front : List ℕ
  pub len : length front ≡ place_of book
  pub parts : bytes ≡ front ++ rest
  pub leads : (other : List ℕ) → Leads book (front ++ other) other

pub front_of : (book : List Entry) (bytes rest : List ℕ) → Leads book bytes rest → Front book bytes rest
front_of [] bytes rest led = record { front = []; len = refl; parts = led; leads = λ other. refl }
front_of (e ∷ book) bytes rest led =
    let f = front_of book led.1 rest led.5 in
    let r = record_of e in
    record {
      front = led.0 ∷ (r ++ f.front);
      len = omega (arith, length-append r f.front, f.len);
      parts = led.4 ∙ ap (λ (x : List ℕ). led.0 ∷ (r ++ x)) f.parts ∙ sym (append_assoc (led.0 ∷ r) f.front rest);
      leads = λ other. (led.0, f.front ++ other, led.2, led.3, append_assoc (led.0 ∷ r) f.front other, f.leads other);
    }

-- a gate's byte, and where the bytes behind it begin
pub gate_front : (front : List ℕ) (gate : ℕ) (after : List ℕ) (n : ℕ) → length front ≡ n → take (n + 1) (front ++ (gate ∷ after)) ≡ front ++ gate ∷ []
gate_front front gate after n len =
    ap (take (n + 1)) (sym (append_assoc front (gate ∷ []) after)) ∙ take_at (front ++ gate ∷ []) after (n + 1) (length-append front (gate ∷ []) ∙ omega (arith, len))

pub gate_behind : (front : List ℕ) (gate : ℕ) (after : List ℕ) (n : ℕ) → length front ≡ n → drop (n + 1) (front ++ (gate ∷ after)) ≡ after
gate_behind front gate after n len =
    ap (drop (n + 1)) (sym (append_assoc front (gate ∷ []) after)) ∙ drop_at (front ++ gate ∷ []) after (n + 1) (length-append front (gate ∷ []) ∙ omega (arith, len))

-- the record and its gate written behind the closed gate
pub written_record : (front after body bytes now : List ℕ) (n : ℕ) → length front ≡ n → bytes ≡ front ++ (0 ∷ after)
    → now ≡ take (n + 1) bytes ++ (body ++ 0 ∷ []) ++ drop (n + 1 + length (body ++ 0 ∷ [])) bytes
    → now ≡ front ++ (0 ∷ (body ++ (0 ∷ drop (n + 1 + length (body ++ 0 ∷ [])) bytes)))
written_record front after body bytes now n len parts is =
    let behind = drop (n + 1 + length (body ++ 0 ∷ [])) bytes in
    let head : take (n + 1) bytes ≡ front ++ 0 ∷ [] = ap (take (n + 1)) parts ∙ gate_front front 0 after n len in
    is ∙ ap (λ (x : List ℕ). (x ++ (body ++ 0 ∷ [])) ++ behind) head ∙ simp append_assoc

-- the gate opened
written_gate : (front after bytes now : List ℕ) (n : ℕ) → length front ≡ n → bytes ≡ front ++ (0 ∷ after)
    → now ≡ take n bytes ++ (1 ∷ []) ++ drop (n + 1) bytes → now ≡ front ++ (1 ∷ after)
written_gate front after bytes now n len parts is =
    let head : take n bytes ≡ front = ap (take n) parts ∙ take_at front (0 ∷ after) n len in
    let behind : drop (n + 1) bytes ≡ after = ap (drop (n + 1)) parts ∙ gate_behind front 0 after n len in
    is ∙ ap (λ (x : List ℕ). (x ++ 1 ∷ []) ++ drop (n + 1) bytes) head ∙ ap (λ (x : List ℕ). (front ++ 1 ∷ []) ++ x) behind ∙ append_assoc front (1 ∷ []) after

-- behind the closed gate stand records and another closed gate: the journal reads to the book as before
pub gate_closed : (a b : Option Store) (body : List ℕ) (book : List Entry) (place : ℕ) (bytes : List ℕ) → bytes ≡ body ++ 0 ∷ [] → Moves (HasWritten (place + 1) bytes) a b → place ≡ place_of book → Holds a book → Holds b book
gate_closed None None body book place bytes is moved at held = tt
gate_closed None (Some y) body book place bytes is moved at held = absurd moved
gate_closed (Some x) None body book place bytes is moved at held = absurd moved
gate_closed (Some x) (Some y) body book place bytes is moved at held =
    let f = front_of book x.journal (0 ∷ held.0) held.1 in
    let now = written_record f.front held.0 body x.journal y.journal place (f.len ∙ sym at) f.parts (subst (λ (w : List ℕ). y.journal ≡ take (place + 1) x.journal ++ w ++ drop (place + 1 + length w) x.journal) is moved.journal_is) in
    let after = body ++ (0 ∷ drop (place + 1 + length (body ++ 0 ∷ [])) x.journal) in
    (after, subst (λ (w : List ℕ). Leads book w (0 ∷ after)) (sym now) (f.leads (0 ∷ after)))

-- and with the first gate open it reads to these entries too
pub gate_opened : (a b c : Option Store) (first : Entry) (more book : List Entry) (place : ℕ) (bytes gate : List ℕ) → AllByRecursion HasRecord (first ∷ more) → bytes ≡ records_of first more ++ 0 ∷ [] → gate ≡ 1 ∷ []
    → Moves (HasWritten (place + 1) bytes) a b → Moves (HasWritten place gate) b c → place ≡ place_of book → Holds a book → Holds c (book ++ first ∷ more)
gate_opened None None None first more book place bytes gate has is one moved opened at held = tt
gate_opened None None (Some z) first more book place bytes gate has is one moved opened at held = absurd opened
gate_opened None (Some y) c first more book place bytes gate has is one moved opened at held = absurd moved
gate_opened (Some x) None c first more book place bytes gate has is one moved opened at held = absurd moved
gate_opened (Some x) (Some y) None first more book place bytes gate has is one moved opened at held = absurd opened
gate_opened (Some x) (Some y) (Some z) first more book place bytes gate has is one moved opened at held =
    let body = records_of first more in
    let f = front_of book x.journal (0 ∷ held.0) held.1 in
    let len : length f.front ≡ place = f.len ∙ sym at in
    let behind = drop (place + 1 + length (body ++ 0 ∷ [])) x.journal in
    let closed = written_record f.front held.0 body x.journal y.journal place len f.parts (subst (λ (w : List ℕ). y.journal ≡ take (place + 1) x.journal ++ w ++ drop (place + 1 + length w) x.journal) is moved.journal_is) in
    let now = written_gate f.front (body ++ (0 ∷ behind)) y.journal z.journal place len closed (subst (λ (w : List ℕ). z.journal ≡ take place y.journal ++ w ++ drop (place + length w) y.journal) one opened.journal_is) in
    let rest = 1 ∷ (body ++ (0 ∷ behind)) in
    let opens = leads_records 1 first more (0 ∷ behind) (λ same. let no : ⊥ = omega arith in no) has in
    (behind, subst (λ (w : List ℕ). Leads (book ++ first ∷ more) w (0 ∷ behind)) (sym now) (leads_join book (first ∷ more) (f.front ++ rest) rest (0 ∷ behind) (f.leads rest) opens))
