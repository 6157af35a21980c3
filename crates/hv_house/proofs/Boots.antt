-- What an opening notes, and what it leaves where it stops.
use Rattle.std.proofs.Common.{refl, ◌≡◌, ℕ, zero, suc, ◌+◌, ◌<◌, ◌≤◌, Option, Some, None, Result, Ok, Err, List, [], ◌∷◌, ◌++◌, length, map, fold, take, drop, sym, ap, ◌∙◌, subst, arith, append_assoc, append-nil, length-append, inl, inr}
use Rattle.std.specs.Option.{option_map}
use Rattle.std.specs.Prelude.{IfErr, slice_index_or, sum_by, is_none, Bool, true, false}
use Rattle.std.proofs.lemmas.List.Sums.{sum_by-cons}
use Rattle.hv_history.specs.declared.state.Transaction.{Transaction}
use Rattle.std.proofs.lemmas.List.{length-map}
use Rattle.hv_base.specs.declared.ids.Limits.{Limits}
use Rattle.hv_base.specs.Told.{Tells, Moves}
use Rattle.hv_shelf.specs.Disk.{Store}
use Rattle.hv_history.specs.declared.entry.Entry.{Entry}
use Rattle.hv_history.specs.declared.entry.Entry.TheVariants.{Boot}
use Rattle.hv_history.specs.Journal.{record_of, place_of, Reads, IsJournal}
use Rattle.hv_history.specs.declared.state.Ending.{Ending}
use Rattle.hv_history.specs.State.{State, Openings, nothing_yet, after, state_of}
use Rattle.hv_history.specs.Legal.{is_open, one_if, open_one, working_one, load, HasRoom, AllFit}
use Rattle.hv_journal.specs.Appending.{Holds, KeepsTree}
use Rattle.hv_journal.proofs.Lengths.{length-record}
use Rattle.hv_book.specs.declared.openings.OpeningNotes.{OpeningNotes}
use Rattle.hv_book.specs.Briefs.{brief, end_of, open_next, open_from}
use Rattle.hv_book.specs.Index.{openings_in}
use Rattle.hv_trail.specs.declared.trail.TrailItem.TheVariants.{Noted}
use Rattle.hv_trail.specs.Trail.{woven_from}
use Rattle.hv_trail.specs.Kept.{trail_of}
use Rattle.hv_house.specs.declared.boot.Left.{Left}
use Rattle.hv_house.specs.declared.house.House.{House}
use Rattle.hv_house.specs.declared.fault.HouseFault.{HouseFault}
use Rattle.hv_house.specs.declared.fault.HouseFault.TheVariants as house
use Rattle.hv_house.specs.House.{entries_of, IsKept, IsReadyWithin, IsHalted, Leaves}
use Rattle.hv_house.specs.Steps.{KeepsMarks, IsOpenedOver}
use Rattle.hv_house.specs.Booting.{number_next, marked_from, open_numbers, lost_entry, boot_fault, LeavesFront, CutsOpening, LosesSome, NotesWithRoom, IsLearned}

-- ---- what is learned of a book

open-same : (number : ℕ) (ts : List Transaction) → open_from number (map brief ts) ≡ marked_from number (map is_open ts)
open-same number [] = refl
open-same number (t ∷ ts) = by t.ending refl (open-same (number + 1) ts)
  where
    by : (o : Option Ending) → t.ending ≡ o → open_from (number + 1) (map brief ts) ≡ marked_from (number + 1) (map is_open ts)
        → open_from number (map brief (t ∷ ts)) ≡ marked_from number (map is_open (t ∷ ts))
    by None is rest =
        ap (λ (e : Option Ending). open_next (is_none (option_map end_of e)) number (open_from (number + 1) (map brief ts))) is
        ∙ ap (λ xs. number ∷ xs) rest
        ∙ sym (ap (λ (e : Option Ending). number_next (is_none e) number (marked_from (number + 1) (map is_open ts))) is)
    by (Some ending) is rest =
        ap (λ (e : Option Ending). open_next (is_none (option_map end_of e)) number (open_from (number + 1) (map brief ts))) is
        ∙ rest
        ∙ sym (ap (λ (e : Option Ending). number_next (is_none e) number (marked_from (number + 1) (map is_open ts))) is)

pub learned : (book now : List Entry) (notes : OpeningNotes) (left : Left) → now ≡ book → openings_in notes ≡ (state_of now).openings
    → left.runs ≡ notes.count → left.unended.items ≡ open_from 1 (map brief (state_of now).transactions) → IsLearned book left
learned book now notes left is same runs open_are = record {
  runs = runs ∙ ap (λ (o : Openings). o.count) same ∙ ap (λ (es : List Entry). (state_of es).openings.count) is;
  open_are =
      open_are ∙ ap (λ (es : List Entry). open_from 1 (map brief (state_of es).transactions)) is ∙ open-same 1 (state_of book).transactions;
}

-- ---- journals that are empty, and those that aren't

no-record : (e : Entry) (after : List ℕ) → [] ≡ record_of e ++ after → ⊥
no-record e after is =
    let lengths : 0 ≡ length (record_of e ++ after) = ap length is in
    omega (arith, lengths, length-append (record_of e) after, length-record e)

pub reads-journal : (book : List Entry) (bytes : List ℕ) → Reads book bytes → IsJournal book bytes
reads-journal [] [] reads = refl
reads-journal [] (gate ∷ []) reads = refl
reads-journal (e ∷ book) [] reads = let is : [] ≡ reads.1.0 ∷ (record_of e ++ reads.1.1) = reads.1.4 in cc
reads-journal (e ∷ book) (gate ∷ []) reads =
    let is : gate ∷ [] ≡ reads.1.0 ∷ (record_of e ++ reads.1.1) = reads.1.4 in
    let none : [] ≡ record_of e ++ reads.1.1 = cc in
    absurd (no-record e reads.1.1 none)
reads-journal book (gate ∷ next ∷ after) reads = reads

-- ---- some were aborted as lost

map-append : (xs ys : List ℕ) → map lost_entry (xs ++ ys) ≡ map lost_entry xs ++ map lost_entry ys
map-append [] ys = refl
map-append (x ∷ xs) ys = ap (λ zs. lost_entry x ∷ zs) (map-append xs ys)

left-by : (why : HouseFault) (event : Entry) (told : Option Store) (book : List Entry) (more : List Entry) → Leaves why (event ∷ []) told book
    → Tells told (λ s. LeavesFront (boot_fault why) book (event ∷ more) s.journal)
left-by house.NoMemory event None book more leaves = tt
left-by house.NoMemory event (Some s) book more leaves = reads-journal book s.journal leaves
left-by (house.Failed count) event told book more leaves = absurd leaves
left-by house.Store event None book more leaves = tt
left-by house.Store event (Some s) book more (inl reads) = inl (reads-journal book s.journal reads)
left-by house.Store event (Some s) book more (inr reads) = inr (event, more, refl, reads-journal (book ++ event ∷ []) s.journal reads)

cut-told : (why : HouseFault) (told : Option Store) (book front more opening : List Entry) → opening ≡ front ++ more
    → Tells told (λ s. LeavesFront (boot_fault why) (book ++ front) more s.journal) → CutsOpening why book opening told
cut-told why None book front more opening parts leaves = tt
cut-told why (Some s) book front more opening parts leaves = record { front = front; more = more; parts = parts; leaves = leaves }

-- the opening stopped at this entry
pub cut-at : (why : HouseFault) (event : Entry) (told : Option Store) (book front rest opening now : List Entry) → opening ≡ front ++ event ∷ rest → now ≡ book ++ front
    → Leaves why (event ∷ []) told now → CutsOpening why book opening told
cut-at why event told book front rest opening now parts is leaves =
    cut-told why told book front (event ∷ rest) opening parts
    (left-by why event told (book ++ front) rest (subst (λ b. Leaves why (event ∷ []) told b) is leaves))

leave-front : (why : HouseFault) (book more : List Entry) (bytes : List ℕ) → IsJournal book bytes → LeavesFront (boot_fault why) book more bytes
leave-front house.NoMemory book more bytes is = is
leave-front house.Store book more bytes is = inl is
leave-front (house.Failed count) book more bytes is = inl is

-- before its first entry
pub cut-none : (why : HouseFault) (told : Option Store) (book opening : List Entry) → Tells told (λ s. IsJournal book s.journal) → CutsOpening why book opening told
cut-none why None book opening journal = tt
cut-none why (Some s) book opening journal = record {
  front = [];
  more = opening;
  parts = refl;
  leaves = leave-front why (book ++ []) opening s.journal (subst (λ b. IsJournal b s.journal) (sym (append-nil book)) journal);
}

-- ---- something was noted only where there is room for all of it

pub unnoted : (limits : Limits) (told : Option Store) (book : List Entry) → Tells told (λ s. IsJournal book s.journal)
    → Tells told (λ s. NotesWithRoom limits book s.journal)
unnoted limits None book journal = tt
unnoted limits (Some s) book journal = inl journal

pub noted-with-room : (limits : Limits) (told : Option Store) (book : List Entry) → HasRoom limits (state_of book) 1
    → Tells told (λ s. NotesWithRoom limits book s.journal)
noted-with-room limits None book room = tt
noted-with-room limits (Some s) book room = inr room

-- ---- where it stopped

module _ {D : Type 0} (told : D → Option Store) where
  -- at one of those that are aborted
  pub cut-lost : (why : HouseFault) (book : List Entry) (run : ℕ) (open_ : List ℕ) (before now : House D) → entries_of before ≡ book ++ Boot run ∷ []
      → LosesSome told why open_ before now → CutsOpening why book (Boot run ∷ map lost_entry open_) (told now.shelf)
  cut-lost why book run open_ before now is loses =
      cut-at why (lost_entry loses.next) (told now.shelf) book (Boot run ∷ map lost_entry loses.lost) (map lost_entry loses.more) (Boot run ∷ map lost_entry open_) (entries_of now)
      (ap (λ xs. Boot run ∷ map lost_entry xs) loses.parts ∙ ap (λ es. Boot run ∷ es) (map-append loses.lost (loses.next ∷ loses.more)))
      (loses.entries ∙ ap (λ b. b ++ map lost_entry loses.lost) is ∙ append_assoc book (Boot run ∷ []) (map lost_entry loses.lost))
      loses.leaves

-- ---- the loop over those that are open

-- so many of them were aborted as lost
pub record IsLosing {D : Type 0} (told : D → Option Store) (faults hard : D → ℕ) (first now : House D) (unended : List ℕ) (i : ℕ) : Type 0 where
  pub kept : IsKept told now
  pub entries : entries_of now ≡ entries_of first ++ map lost_entry (take i unended)
  pub marks : KeepsMarks first now
  pub tree : Moves KeepsTree (told first.shelf) (told now.shelf)
  pub later : faults first.shelf ≤ faults now.shelf
  pub hard_later : hard first.shelf ≤ hard now.shelf

parts-at : (xs : List ℕ) (i x : ℕ) → i < length xs → x ≡ slice_index_or xs i x → xs ≡ take i xs ++ x ∷ drop (suc i) xs
parts-at [] i x low at = absurd (omega arith)
parts-at (y ∷ xs) zero x low at = ap (λ z. z ∷ xs) (sym at)
parts-at (y ∷ xs) (suc i) x low at = ap (λ ys. y ∷ ys) (parts-at xs i x (omega arith) at)

-- the one at a place below the end is the same whatever stands for one behind it
pub index-same : (xs : List ℕ) (i d e : ℕ) → i < length xs → slice_index_or xs i d ≡ slice_index_or xs i e
index-same [] i d e low = absurd (omega (arith, low))
index-same (x ∷ xs) zero d e low = refl
index-same (x ∷ xs) (suc i) d e low = index-same xs i d e (omega (arith, low))

module _ {D : Type 0} (told : D → Option Store) (faults hard : D → ℕ) (first now : House D) (unended : List ℕ) where
  pub lose-halts : {T : Type 0} (next : House D) (i n : ℕ) (why same : HouseFault) (result : Result T HouseFault) → result ≡ Err same → same ≡ why
      → IsLosing told faults hard first now unended i → i < length unended → n ≡ slice_index_or unended i n
      → IsHalted told (lost_entry n) why now next → IfErr result (λ fault. LosesSome told fault unended first next)
  lose-halts {T = T} next i n why same result is e losing low at halted =
      subst (λ (r : Result T HouseFault). IfErr r (λ fault. LosesSome told fault unended first next)) (sym is)
      (subst (λ (w : HouseFault). LosesSome told w unended first next) (sym e)
      (record {
        lost = take i unended;
        next = n;
        more = drop (suc i) unended;
        parts = parts-at unended i n low at;
        entries = halted.entries ∙ losing.entries;
        leaves = subst (Leaves why (lost_entry n ∷ []) (told next.shelf)) (sym halted.entries) halted.leaves;
      }))

-- ---- how each step of an opening may stop

module _ {T : Type 0} (why same : HouseFault) (result : Result T HouseFault) (is : result ≡ Err same) (e : same ≡ why) where
  stops-by : (Q : HouseFault → Type 0) → Q why → IfErr result Q
  stops-by Q q = subst (λ (r : Result T HouseFault). IfErr r Q) (sym is) (subst Q (sym e) q)

  pub stops-unmade : (told : Option Store) (book opening : List Entry) → Tells told (λ s. IsJournal book s.journal)
      → IfErr result (λ fault. CutsOpening fault book opening told)
  stops-unmade told book opening journal = stops-by (λ fault. CutsOpening fault book opening told) (cut-none why told book opening journal)

  pub stops-boot : {D : Type 0} (told : D → Option Store) (made now : House D) (book : List Entry) (run : ℕ) (lost : List Entry) → entries_of made ≡ book
      → IsHalted told (Boot run) why made now → IfErr result (λ fault. CutsOpening fault book (Boot run ∷ lost) (told now.shelf))
  stops-boot told made now book run lost at halted =
      stops-by (λ fault. CutsOpening fault book (Boot run ∷ lost) (told now.shelf))
      (cut-at why (Boot run) (told now.shelf) book [] lost (Boot run ∷ lost) (entries_of made) refl (at ∙ sym (append-nil book)) halted.leaves)

pub stops-lost : {D T : Type 0} (told : D → Option Store) (result : Result T HouseFault) (book : List Entry) (run : ℕ) (unended : List ℕ) (before now : House D)
    → entries_of before ≡ book ++ Boot run ∷ [] → IfErr result (λ fault. LosesSome told fault unended before now)
    → IfErr result (λ fault. CutsOpening fault book (Boot run ∷ map lost_entry unended) (told now.shelf))
stops-lost told (Ok x) book run unended before now is loses = tt
stops-lost told (Err why) book run unended before now is loses = cut-lost told why book run unended before now is loses

-- ---- the load of a book

-- those that are open are counted
opens-counted : (number : ℕ) (ts : List Transaction) → length (marked_from number (map is_open ts)) ≡ sum_by open_one ts
opens-counted number [] = refl
opens-counted number (t ∷ ts) = by (is_open t) refl (opens-counted (number + 1) ts)
  where
    by : (b : Bool) → is_open t ≡ b → length (marked_from (number + 1) (map is_open ts)) ≡ sum_by open_one ts
        → length (number_next b number (marked_from (number + 1) (map is_open ts))) ≡ sum_by open_one (t ∷ ts)
    by true is rest =
        let one : open_one t ≡ 1 = ap one_if is in
        omega (arith, rest, one, sum_by-cons open_one t ts)
    by false is rest =
        let none : open_one t ≡ 0 = ap one_if is in
        omega (arith, rest, none, sum_by-cons open_one t ts)

counted-from : (s : State) (book : List Entry) → (fold after s book).entries ≡ s.entries + length book
counted-from s [] = omega arith
counted-from s (e ∷ book) = counted-from (after s e) book ∙ omega arith

-- room for the whole opening is room for the Boot and the aborts, and for the ends of jobs behind them
pub lost-room : (limits : Limits) (book : List Entry) (most : ℕ) → limits.entries ≤ most → HasRoom limits (state_of book) 1
    → length book + length (open_numbers (state_of book)) + 1 + sum_by working_one (state_of book).jobs ≤ most
lost-room limits book most high room =
    let counted = counted-from nothing_yet book in
    let opened = opens-counted 1 (state_of book).transactions in
    let small : load (state_of book) + 1 ≤ limits.entries = room in
    omega (arith, counted, opened, small, high)

-- the items that stand are taken as those of the opening
pub settled-ready : {D : Type 0} (limits : Limits) (told : D → Option Store) (before now : House D) → now.shelf ≡ before.shelf → now.place ≡ before.place
    → entries_of now ≡ entries_of before → now.limits ≡ before.limits → now.trail.closed ≡ before.trail.closed
    → now.trail.starved ≡ before.trail.starved → IsReadyWithin limits told before
    → IsReadyWithin limits told now
settled-ready limits told before now shelf place entries same closed starved ready = record {
  kept = record {
    place = place ∙ ready.kept.place ∙ ap place_of (sym entries);
    near = omega (arith, place, ready.kept.near, ap length entries);
    few = omega (arith, ready.kept.few, ap length entries);
    reads = subst (λ d. Holds (told d) (entries_of now)) (sym shelf) (subst (Holds (told before.shelf)) (sym entries) ready.kept.reads);
    running = closed ∙ ready.kept.running;
    fed = starved ∙ ready.kept.fed;
  };
  limits_are = same ∙ ready.limits_are;
  within = ready.within;
  fit = subst (AllFit limits nothing_yet) (sym entries) ready.fit;
}

-- a trail without marks is its book, and all of it was left by the opening
pub over-book : {D : Type 0} (start : D) (noted now : House D) → now.start.value ≡ start → now.trail.marks ≡ [] → noted.trail.marks ≡ []
    → entries_of now ≡ entries_of noted → now.trail.opened ≡ length (trail_of noted.trail) → IsOpenedOver start now
over-book start noted now same none bare entries all = record {
  start = same;
  trail = ap (λ ms. woven_from 0 (entries_of now) ms) none;
  opened =
      all ∙ ap (λ ms. length (woven_from 0 (entries_of noted) ms)) bare ∙ length-map (entries_of noted) Noted ∙ ap length (sym entries);
}
