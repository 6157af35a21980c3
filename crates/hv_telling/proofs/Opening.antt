-- A house that was just opened: each transaction has ended, and no mark was made.
use Rattle.std.proofs.Common.{◌≡◌, ℕ, suc, ◌+◌, Bool, true, false, Option, Some, None, IsSomeAnd, List, [], ◌∷◌, ◌++◌, length, map, fold, refl, sym, ap, ◌∙◌, subst, arith, append_assoc, append-nil, length-append}
use Rattle.std.specs.Prelude.{is_none}
use Rattle.std.specs.List.{AllByRecursion}
use Rattle.std.proofs.lemmas.List.Sums.{fold-append}
use Rattle.hv_base.specs.Told.{Tells}
use Rattle.hv_shelf.specs.Disk.{Store}
use Rattle.hv_history.specs.declared.entry.Entry.{Entry}
use Rattle.hv_history.specs.declared.entry.Entry.TheVariants.{Boot}
use Rattle.hv_history.specs.declared.entry.Cause.TheVariants.{Lost}
use Rattle.hv_history.specs.declared.state.Ending.{Ending}
use Rattle.hv_history.specs.declared.state.Ending.TheVariants.{Aborted}
use Rattle.hv_history.specs.declared.state.Transaction.{Transaction}
use Rattle.hv_history.specs.State.{State, Job, numbered, nothing_yet, changed, changed_at, unless_ended, while_open, ended, acted, after, state_of}
use Rattle.hv_history.specs.Legal.{is_open, is_working, profile, IsLegal}
use Rattle.hv_house.specs.hv_recovery.specs.Recovery.{IsJournalOf}
use Rattle.hv_stands.proofs.Soundness.{all-numbered, all-more}
use Rattle.hv_trail.specs.declared.trail.TrailItem.TheVariants.{Noted}
use Rattle.hv_trail.specs.Trail.{book_of}
use Rattle.hv_house.specs.hv_finals.specs.hv_law_made.specs.Opening.{job_ends}
use Rattle.hv_house.specs.hv_finals.specs.hv_law_made.specs.Standing.{Standing}
use Rattle.hv_law_work.specs.hv_law_marks.specs.Laws.{AllHaveEnded}
use Rattle.hv_law_work.specs.hv_law_marks.proofs.Standing.{opened-marks-stand}
use Rattle.hv_law_work.proofs.JobMarks.{opened-job-marks}
use Rattle.hv_house.specs.declared.house.House.{House}
use Rattle.hv_house.specs.House.{entries_of, IsFaithful}
use Rattle.hv_house.specs.Booting.{number_next, marked_from, lost_entry, lost_entries, opening_entries, opening_with, OpensTo, OpensWhole, Opens}
use Rattle.hv_house.specs.Steps.{IsOpenedOver}
use Rattle.hv_house.proofs.JobEnds.{ends-transactions}
use Rattle.hv_house.specs.hv_recovery.proofs.Books.{is_once as one-journal}
use Rattle.hv_house.proofs.Openings.{none-of, booted, opened-legal}
use Rattle.hv_telling.specs.Telling.{IsToldHouse, StandsByMarks, HoldsTrue}
use Rattle.hv_telling.specs.Laws.{OpenedIsWhole, OpenedIsTold}
use Rattle.hv_telling.proofs.OpenedJobs.{none-works}
use Rattle.hv_telling.proofs.Told.{also-some, moved-some, house-book, told-holds}

-- ---- the opening ends each transaction

abbrev HasEnded : Transaction → Type 0
HasEnded t = t.ending ≡ None → ⊥

abbrev lost-numbers : ℕ → List Transaction → List Entry
lost-numbers number rest = map lost_entry (marked_from number (map is_open rest))

not-none : (o : Option Ending) → is_none o ≡ false → o ≡ None → ⊥
not-none None h none = cc
not-none (Some x) h none = cc

-- the one behind these
changed-there : (f : Transaction → Transaction) (front rest : List Transaction) (x : Transaction) → changed f (front ++ x ∷ rest) (length front + 1) ≡ front ++ f x ∷ rest
changed-there f front rest x =
    let next : length front + 1 ≡ suc (length front) = omega arith in
    ap (changed f (front ++ x ∷ rest)) next ∙ there front
  where
    there : (front : List Transaction) → changed_at f (front ++ x ∷ rest) (length front) ≡ front ++ f x ∷ rest
    there [] = refl
    there (y ∷ front) = ap (λ ys. y ∷ ys) (there front)

aborted-there : (front rest : List Transaction) (x : Transaction) (s : State) → s.transactions ≡ front ++ x ∷ rest → is_open x ≡ true
    → (after s (lost_entry (length front + 1))).transactions ≡ front ++ ended (Aborted s.entries Lost) x ∷ rest
unfolding acted
aborted-there front rest x s are unended =
    ap (λ ts. changed (while_open (ended (Aborted s.entries Lost))) ts (length front + 1)) are
    ∙ changed-there (while_open (ended (Aborted s.entries Lost))) front rest x
    ∙ ap (λ o. front ++ unless_ended o x (ended (Aborted s.entries Lost) x) ∷ rest) (none-of x.ending unended)

EndAll : ℕ → State → List Transaction → Type 0
EndAll number s rest = AllByRecursion HasEnded (fold after s (lost-numbers number rest)).transactions

lost-by : (front rest : List Transaction) (x : Transaction) (s : State) → (b : Bool) → is_open x ≡ b
    → (is_open x ≡ false → EndAll (length (front ++ x ∷ []) + 1) s rest)
    → (is_open x ≡ true → EndAll (length (front ++ ended (Aborted s.entries Lost) x ∷ []) + 1) (after s (lost_entry (length front + 1))) rest)
    → AllByRecursion HasEnded (fold after s (map lost_entry (number_next b (length front + 1) (marked_from (length front + 1 + 1) (map is_open rest))))).transactions
unfolding EndAll
lost-by front rest x s false is skip lose =
    let next : length (front ++ x ∷ []) + 1 ≡ length front + 1 + 1 = omega (arith, length-append front (x ∷ [])) in
    subst (λ n. EndAll n s rest) next (skip is)
lost-by front rest x s true is skip lose =
    let next : length (front ++ ended (Aborted s.entries Lost) x ∷ []) + 1 ≡ length front + 1 + 1 = omega (arith, length-append front (ended (Aborted s.entries Lost) x ∷ [])) in
    subst (λ n. EndAll n (after s (lost_entry (length front + 1))) rest) next (lose is)

lost-all : (front rest : List Transaction) (s : State) → s.transactions ≡ front ++ rest → AllByRecursion HasEnded front → EndAll (length front + 1) s rest
unfolding EndAll
lost-all front [] s are all = subst (AllByRecursion HasEnded) (sym (are ∙ append-nil front)) all
lost-all front (x ∷ rest) s are all =
    lost-by front rest x s (is_open x) refl
    (λ closed. lost-all (front ++ x ∷ []) rest s (are ∙ sym (append_assoc front (x ∷ []) rest))
    (all-more HasEnded front x all (not-none x.ending closed)))
    (λ unended. lost-all (front ++ ended (Aborted s.entries Lost) x ∷ []) rest (after s (lost_entry (length front + 1)))
    (aborted-there front rest x s are unended ∙ sym (append_assoc front (ended (Aborted s.entries Lost) x ∷ []) rest))
    (all-more HasEnded front (ended (Aborted s.entries Lost) x) all (λ none. cc)))

lost-ended : (s : State) → AllByRecursion HasEnded (fold after s (lost_entries s)).transactions
unfolding EndAll
lost-ended s =
    let one : State = after s (Boot s.openings.count) in
    subst (λ ts. AllByRecursion HasEnded (fold after one (map lost_entry (marked_from 1 (map is_open ts)))).transactions) (booted s s.openings.count)
    (lost-all [] one.transactions one refl tt)

-- the ends of jobs change none of them
all-ended : (whole : List ℕ) (book : List Entry) → AllByRecursion HasEnded (state_of (opening_with whole book)).transactions
all-ended whole book =
    let s : State = state_of book in
    let behind : State = fold after s (lost_entries s) in
    subst (λ (state : State). AllByRecursion HasEnded state.transactions)
    (sym (fold-append after nothing_yet book (opening_entries whole s) ∙ fold-append after s (lost_entries s) (job_ends whole behind 1 s.jobs)))
    (subst (AllByRecursion HasEnded) (sym (ends-transactions whole s.jobs behind 1)) (lost-ended s))

have-ended : (whole : List ℕ) (book : List Entry) → AllHaveEnded (state_of (opening_with whole book))
have-ended whole book txn t here = all-numbered HasEnded (state_of (opening_with whole book)).transactions txn t here (all-ended whole book)

-- no job is at work
abbrev NoneWorks : State → Type 0
NoneWorks state = (number : ℕ) (job : Job) → numbered state.jobs number ≡ Some job → is_working job ≡ true → ⊥

-- ---- a house just opened

module _ {D : Type 0} (told : D → Option Store) (shelf : D) (house : House D) where
  opened-marks : (store : Store) → IsFaithful (entries_of house) store → (whole : List ℕ) (book : List Entry) → entries_of house ≡ opening_with whole book
      → StandsByMarks (map Noted (entries_of house)) (entries_of house) store
  opened-marks store faithful whole book is = record {
    faithful = faithful;
    marks = opened-marks-stand (entries_of house) store.tree
        (subst (λ (entries : List Entry). AllHaveEnded (state_of entries)) (sym is) (have-ended whole book));
    jobs = opened-job-marks (entries_of house) store.tree
        (subst (λ (entries : List Entry). NoneWorks (state_of entries)) (sym is) (λ number job at works. none-works whole book number job at works));
  }

  module _ (start : Store) (book : List Entry) (tells : told shelf ≡ Some start) (opens : OpensTo book start) (opened : Opens profile (told shelf) (entries_of house)) where
    read : IsJournalOf profile opened.0 start.journal
    read = subst (λ (o : Option Store). Tells o (λ s. IsJournalOf profile opened.0 s.journal)) tells opened.1.reads

    same : book ≡ opened.0
    same = one-journal book opened.0 start.journal opens.journal read.journal

    -- its book is legal
    now-legal : IsLegal profile (entries_of house)
    now-legal =
        subst (IsLegal profile) (sym opened.1.now_is)
        (opened-legal profile opened.1.whole opened.0 (subst (IsLegal profile) same opens.left.legal) opened.1.room)

    now-faithful : OpensWhole profile (entries_of house) (told shelf) (told house.shelf) → IsSomeAnd (told house.shelf) (IsFaithful (entries_of house))
    now-faithful whole =
        moved-some (λ (s t : Store). (b : List Entry) → OpensTo b s → Standing (state_of (entries_of house)) t.tree) (OpensTo book) (IsFaithful (entries_of house))
        (told shelf) (told house.shelf) whole (λ s t stands opens. record { stands = stands book opens; legal = now-legal })
        (subst (λ (o : Option Store). IsSomeAnd o (OpensTo book)) (sym tells) opens)

  opened-holds : Opens profile (told shelf) (entries_of house) → IsOpenedOver shelf house
      → OpensWhole profile (entries_of house) (told shelf) (told house.shelf) → IsToldHouse told house → HoldsTrue told house
  opened-holds opened over whole is =
      told-holds told house (map Noted (entries_of house)) over.trail
      (subst (λ (book : List Entry). IsSomeAnd (told house.shelf) (StandsByMarks (map Noted (entries_of house)) book))
      (sym (sym (ap book_of over.trail) ∙ house-book house))
      (also-some (IsFaithful (entries_of house)) (StandsByMarks (map Noted (entries_of house)) (entries_of house)) (told house.shelf)
      (λ s faithful. opened-marks s faithful opened.1.whole opened.0 opened.1.now_is)
      (now-faithful is.store is.book (ap told (sym over.start) ∙ is.tells) is.opens opened whole)))

pub opened-is-whole : {D : Type 0} → OpenedIsWhole D
opened-is-whole told shelf house ready opened over whole = record { ready = ready; truly = opened-holds told shelf house opened over whole }

pub opened-is-told : {D : Type 0} → OpenedIsTold D
opened-is-told told shelf house store book over tells opens =
    record { store = store; tells = ap told over.start ∙ tells; book = book; opens = opens }
