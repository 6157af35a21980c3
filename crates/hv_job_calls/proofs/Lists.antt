-- The list of a job: of the write ids up to its watermark none is open, so that those which it passes over were aborted.
use Rattle.std.proofs.Common.{◌≡◌, ℕ, ◌+◌, ◌<◌, ◌≤◌, ◌==◌, Bool, true, false, true≢false, cond, Option, Some, None, List, [], ◌∷◌, ◌++◌, length, map, filter, refl, sym, ap, ◌∙◌, subst, arith, leb-true}
use Rattle.std.specs.Prelude.{if◌then◌else◌, nat_le, min, is_none, option_map}
use Rattle.std.specs.List.{AllByRecursion, list_any}
use Rattle.std.proofs.Math.Seq.{take-length}
use Rattle.hv_wids.specs.declared.list.Exception.{Exception}
use Rattle.hv_wids.specs.WriteIds.{WriteIds, IsInOrder}
use Rattle.hv_history.specs.declared.entry.Entry.{Entry}
use Rattle.hv_history.specs.declared.state.Ending.{Ending}
use Rattle.hv_history.specs.declared.state.Ending.TheVariants as ending
use Rattle.hv_history.specs.declared.state.Table.{Table}
use Rattle.hv_history.specs.declared.state.Transaction.{Transaction}
use Rattle.hv_history.specs.State.{State, Job, numbered, nothing_yet, state_of}
use Rattle.hv_history.specs.Legal.{AllFit, profile}
use Rattle.hv_history.specs.Jobs as jobs
use Rattle.hv_history.specs.Jobs.{is_open_one, ended_front, watermark, mark_by}
use Rattle.hv_book.specs.declared.jobs.JobNote.{JobNote}
use Rattle.hv_book.specs.Briefs.{brief_job}
use Rattle.hv_book.specs.Past.{owners_in, forgotten_in}
use Rattle.hv_stands.proofs.Numbers.{numbered-map}
use Rattle.hv_stands.proofs.Soundness.{all-numbered}
use Rattle.hv_earlier.specs.Fates.{fate_by, fate_of}
use Rattle.hv_earlier.specs.Lists.{unless_forgotten, exception_by, exceptions_from, list_in, list_at}
use Rattle.hv_earlier.specs.Places.{write_of}
use Rattle.hv_earlier.proofs.ListLemmas.{at-rises, at-within}
use Rattle.hv_law_visible.specs.Snapshots.{list_up_to}
use Rattle.hv_law_visible.proofs.ListLemmas.{says-up-to}
use Rattle.hv_law_jobs.specs.Sound.{IsSoundJob}
use Rattle.hv_law_made.proofs.BookLemmas.{books-are-sound}
use Rattle.hv_job_calls.specs.Listing.{lost_at, is_lost_to, lost_up_to, lost_of, RisesLost, WithinLost, IsNotedIn}

-- ---- those up to a mark were aborted

abbrev IsLostUnder : ℕ → Exception → Type 0
IsLostUnder mark one = nat_le one.write.0 mark ≡ true → one.aborted ≡ true

all-both : (P : Exception → Type 0) (xs ys : List Exception) → AllByRecursion P xs → AllByRecursion P ys → AllByRecursion P (xs ++ ys)
all-both P [] ys a b = b
all-both P (x ∷ xs) ys a b = (a.0, all-both P xs ys a.1 b)

module _ (ts : List Transaction) (forgotten : List ℕ) (mark : ℕ) where
  unless-lost : (n : ℕ) (b : Bool) → AllByRecursion (IsLostUnder mark) (unless_forgotten b n)
  unless-lost n true = tt
  unless-lost n false = ((λ low. refl), tt)

  by-ending : (n : ℕ) (e : Option Ending) → (nat_le n mark ≡ true → is_none e ≡ false) → AllByRecursion (IsLostUnder mark) (exception_by forgotten n (Some (fate_by e)))
  by-ending n None ended = ((λ low. absurd (true≢false (ended low))), tt)
  by-ending n (Some (ending.Committed place wrote)) ended = tt
  by-ending n (Some (ending.Aborted place cause)) ended = unless-lost n (list_any (λ other. other == n) forgotten)
  by-ending n (Some (ending.Made place table)) ended = tt
  by-ending n (Some (ending.Dropped place table)) ended = tt

  one-lost : (n : ℕ) (o : Option Transaction) → (nat_le n mark ≡ true → is_open_one o ≡ false)
      → AllByRecursion (IsLostUnder mark) (exception_by forgotten n (option_map fate_of o))
  one-lost n None ended = tt
  one-lost n (Some t) ended = by-ending n t.ending ended

  at-number : (n txn : ℕ) → (nat_le n mark ≡ true → is_open_one (numbered ts txn) ≡ false)
      → AllByRecursion (IsLostUnder mark) (exception_by forgotten n (numbered (map fate_of ts) txn))
  at-number n txn ended =
      subst (λ o. AllByRecursion (IsLostUnder mark) (exception_by forgotten n o)) (sym (numbered-map fate_of ts txn)) (one-lost n (numbered ts txn) ended)

  lost-under : (n : ℕ) (owners : List ℕ) → mark < n + ended_front ts owners → AllByRecursion (IsLostUnder mark) (exceptions_from (map fate_of ts) forgotten n owners)
  lost-under n [] below = tt
  lost-under n (txn ∷ owners) below = by (lost-under (n + 1) owners) (is_open_one (numbered ts txn)) refl below
    where
      by : (mark < n + 1 + ended_front ts owners → AllByRecursion (IsLostUnder mark) (exceptions_from (map fate_of ts) forgotten (n + 1) owners))
          → (b : Bool) → is_open_one (numbered ts txn) ≡ b → mark < n + (if b then 0 else ended_front ts owners + 1)
          → AllByRecursion (IsLostUnder mark) (exceptions_from (map fate_of ts) forgotten n (txn ∷ owners))
      by rest true is low =
          all-both (IsLostUnder mark) (exception_by forgotten n (numbered (map fate_of ts) txn)) (exceptions_from (map fate_of ts) forgotten (n + 1) owners)
          (at-number n txn (λ le. let under = leb-true n mark le in absurd (omega (arith, low, under))))
          (rest (omega (arith, low)))
      by rest false is low =
          all-both (IsLostUnder mark) (exception_by forgotten n (numbered (map fate_of ts) txn)) (exceptions_from (map fate_of ts) forgotten (n + 1) owners)
          (at-number n txn (λ le. is))
          (rest (omega (arith, low)))

-- so those that are kept are those numbers
kept-lost : (mark : ℕ) (es : List Exception) → AllByRecursion (IsLostUnder mark) es
    → filter (λ (one : Exception). nat_le one.write.0 mark) es ≡ lost_up_to mark (map write_of es)
kept-lost mark [] lost = refl
kept-lost mark (one ∷ es) lost = by (nat_le one.write.0 mark) refl (kept-lost mark es lost.1)
  where
    by : (b : Bool) → nat_le one.write.0 mark ≡ b → filter (λ (x : Exception). nat_le x.write.0 mark) es ≡ lost_up_to mark (map write_of es)
        → cond b (one ∷ filter (λ (x : Exception). nat_le x.write.0 mark) es) (filter (λ (x : Exception). nat_le x.write.0 mark) es)
        ≡ map lost_at (cond b (one.write.0 ∷ filter (is_lost_to mark) (map write_of es)) (filter (is_lost_to mark) (map write_of es)))
    by true low rest = (λ i. record { write = one.write; aborted = lost.0 low i } ∷ rest i)
    by false low rest = rest

-- ---- of a table

owners-same : (o : Option Table) → jobs.ids_of o ≡ owners_in o
owners-same None = refl
owners-same (Some t) = refl

module _ (state : State) (table mark : ℕ) (under : mark ≤ watermark state table) where
  abbrev list : WriteIds
  list = list_in state table

  cut-lost : filter (λ (one : Exception). nat_le one.write.0 mark) list.exceptions ≡ lost_up_to mark (map write_of list.exceptions)
  cut-lost =
      let same : watermark state table ≡ ended_front state.transactions (owners_in (numbered state.tables table)) =
      ap (ended_front state.transactions) (owners-same (numbered state.tables table)) in
      kept-lost mark list.exceptions
      (lost-under state.transactions (forgotten_in (numbered state.tables table)) mark 1 (owners_in (numbered state.tables table)) (omega (arith, under, same)))

  pub cut-same : list_up_to mark list ≡ lost_of mark list.high.0 (map write_of list.exceptions)
  cut-same = (λ i. record { high = record { 0 = min mark list.high.0 }; exceptions = cut-lost i })

  pub cut-order : IsInOrder list → IsInOrder (lost_of mark list.high.0 (map write_of list.exceptions))
  cut-order order = subst IsInOrder cut-same ((says-up-to mark list).order order)

-- ---- of a job

module _ (book : List Entry) (fit : AllFit profile nothing_yet book) (number : ℕ) (j : Job) (at : numbered (state_of book).jobs number ≡ Some j) where
  abbrev mark : ℕ
  mark = mark_by j.watermark

  mark-under : (o : Option ℕ) → ((m : ℕ) → o ≡ Some m → m ≤ watermark (state_of book) j.table) → mark_by o ≤ watermark (state_of book) j.table
  mark-under None low = omega arith
  mark-under (Some m) low = low m refl

  under : mark ≤ watermark (state_of book) j.table
  under =
      mark-under j.watermark
      (all-numbered (IsSoundJob (state_of book)) (state_of book).jobs number j at (books-are-sound profile book fit).jobs.each).mark

  whole : list_at book (length book) j.table ≡ list_in (state_of book) j.table
  whole = ap (λ (b : List Entry). list_in (state_of b) j.table) (take-length book)

  in-order : IsInOrder (list_in (state_of book) j.table)
  in-order =
      subst IsInOrder whole
      (record { rises = at-rises book (length book) j.table; within = at-within book (length book) j.table })

  -- what is read of it
  module _ (given : ℕ) (lost : List ℕ) (given_is : given ≡ (list_at book (length book) j.table).high.0)
      (lost_is : lost ≡ map write_of (list_at book (length book) j.table).exceptions) where
    cut-read : lost_of mark given lost ≡ lost_of mark (list_in (state_of book) j.table).high.0 (map write_of (list_in (state_of book) j.table).exceptions)
    cut-read =
        (λ i. lost_of mark (given_is i) (lost_is i))
        ∙ ap (λ (l : WriteIds). lost_of mark l.high.0 (map write_of l.exceptions)) whole

    read-order : IsInOrder (lost_of mark given lost)
    read-order = subst IsInOrder (sym cut-read) (cut-order (state_of book) j.table mark under in-order)

    pub read-rises : RisesLost mark lost
    read-rises = read-order.rises

    pub read-within : WithinLost mark given lost
    read-within = read-order.within

    pub read-list : lost_of mark given lost ≡ list_up_to mark (list_at book (length book) j.table)
    read-list = cut-read ∙ sym (cut-same (state_of book) j.table mark under) ∙ ap (list_up_to mark) (sym whole)

-- by what is kept of it, of a book that is the same
module _ (book : List Entry) (fit : AllFit profile nothing_yet book) (note : JobNote) (noted : IsNotedIn (state_of book) note) (mark : ℕ)
    (mark_is : mark ≡ mark_by note.watermark) (read : List Entry) (read_is : read ≡ book) (given : ℕ) (lost : List ℕ)
    (given_is : given ≡ (list_at read (length read) note.table).high.0) (lost_is : lost ≡ map write_of (list_at read (length read) note.table).exceptions) where
  abbrev its : Job
  its = noted.1

  same_note : note ≡ brief_job its
  same_note = noted.4

  same_mark : mark ≡ mark_by its.watermark
  same_mark = mark_is ∙ ap (λ (n : JobNote). mark_by n.watermark) same_note

  same_list : list_at read (length read) note.table ≡ list_at book (length book) its.table
  same_list = ap (λ (b : List Entry). list_at b (length b) note.table) read_is ∙ ap (λ (n : JobNote). list_at book (length book) n.table) same_note

  its_given : given ≡ (list_at book (length book) its.table).high.0
  its_given = given_is ∙ ap (λ (l : WriteIds). l.high.0) same_list

  its_lost : lost ≡ map write_of (list_at book (length book) its.table).exceptions
  its_lost = lost_is ∙ ap (λ (l : WriteIds). map write_of l.exceptions) same_list

  pub note-rises : RisesLost mark lost
  note-rises = subst (λ (m : ℕ). RisesLost m lost) (sym same_mark) (read-rises book fit noted.0 its noted.2 given lost its_given its_lost)

  pub note-within : WithinLost mark given lost
  note-within = subst (λ (m : ℕ). WithinLost m given lost) (sym same_mark) (read-within book fit noted.0 its noted.2 given lost its_given its_lost)

  pub note-list : lost_of mark given lost ≡ list_up_to (mark_by note.watermark) (list_at book (length book) note.table)
  note-list =
      ap (λ (m : ℕ). lost_of m given lost) same_mark
      ∙ read-list book fit noted.0 its noted.2 given lost its_given its_lost
      ∙ sym (ap (λ (n : JobNote). list_up_to (mark_by n.watermark) (list_at book (length book) n.table)) same_note)
