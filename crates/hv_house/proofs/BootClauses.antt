-- What an opening says of the store that it was given, over what each of its steps says.
use Rattle.std.proofs.Common.{◌≡◌, ◌⊎◌, inl, inr, ℕ, ◌+◌, ◌<◌, ◌≤◌, Option, Some, None, List, [], ◌++◌, refl, sym, ap, ◌∙◌, subst, arith}
use Rattle.hv_base.specs.declared.ids.Limits.{Limits}
use Rattle.hv_base.specs.Told.{Tells, Moves, StaysTold}
use Rattle.hv_base.specs.Faults.{Rose}
use Rattle.hv_base.proofs.ToldLemmas.{Moves-weaken, stays_by, stays_same}
use Rattle.hv_shelf.specs.Causes.{HardCause}
use Rattle.hv_shelf.specs.Disk.{Store}
use Rattle.hv_history.specs.declared.entry.Entry.{Entry}
use Rattle.hv_history.specs.State.{state_of, nothing_yet}
use Rattle.hv_history.specs.Legal.{load, HasRoom, AllFit}
use Rattle.hv_journal.specs.Appending.{KeepsTree}
use Rattle.hv_finals.specs.hv_law_made.specs.Opening.{whole_jobs}
use Rattle.hv_finals.specs.hv_law_made.specs.Standing.{Standing}
use Rattle.hv_recovery.specs.declared.fault.OpenFault.{OpenFault}
use Rattle.hv_recovery.specs.declared.fault.OpenFault.TheVariants as opening
use Rattle.hv_recovery.specs.Recovery.{IsJournalOf, IsFaultFor}
use Rattle.hv_recovery.proofs.Books.{is_once, one_book, not_both}
use Rattle.hv_house.specs.declared.boot.BootFault.{BootFault}
use Rattle.hv_house.specs.declared.boot.BootFault.TheVariants as fault
use Rattle.hv_house.specs.declared.house.House.{House}
use Rattle.hv_house.specs.Faults.{StoreCause}
use Rattle.hv_house.specs.House.{entries_of}
use Rattle.hv_house.specs.Ending.{gauged, IsCutBefore}
use Rattle.hv_house.specs.Booting.{opening_entries, opening_with, IsLeftWithin, OpensWithin, IsIdle, open_fault, IsBootStore, IsFullAt, IsBootFault, IsCutOpening, IsOpenStill, StopsOpening, StopsOpen, OpensWhole, KeepsIdle, NotesWithRoom, StopsWithRoom, IsRaiseFault, Opens, OpeningGoes, OpeningStops, read_to, IsRaisedOver, CutsBefore, StopsOver, IsCutShortOf, OpeningHard}
use Rattle.hv_house.proofs.EndSteps.{moves-tells, tells-moves, tells-also}
use Rattle.hv_house.proofs.Booted.{whole-stands, opens-still, stops-front, cut-of, nothing-front, nothing-still, idle-kept, idle-stopped}

-- ---- the fault

store-is : (why : BootFault) → IsBootStore why → why ≡ fault.Store
store-is fault.Store is = refl
store-is fault.NoMemory is = absurd is
store-is (fault.BadJournal at) is = absurd is
store-is (fault.Full entries) is = absurd is

read-failed : (why : OpenFault) → IsBootStore (open_fault why) → why ≡ opening.Failed
read-failed opening.Failed is = refl
read-failed opening.NoMemory is = absurd is
read-failed (opening.BadJournal at) is = absurd is

-- ---- the book that the journal reads to is one

module _ (limits : Limits) (book : List Entry) (s : Store) (reads : IsJournalOf limits book s.journal) where
  opens-book : (other : List Entry) → OpensWithin limits other s → other ≡ book
  opens-book other opens = is_once other book s.journal opens.journal reads.journal

  left-book : (other : List Entry) → OpensWithin limits other s → IsLeftWithin limits book s
  left-book other opens = subst (λ (b : List Entry). IsLeftWithin limits b s) (opens-book other opens) opens.left

  read-book : (other : List Entry) → IsJournalOf limits other s.journal → book ≡ other
  read-book other others = one_book limits book other s.journal reads others

-- ---- nothing was done

nothing-stopped : (limits : Limits) (why : BootFault) (o : Option Store) → StopsOpening limits o o why
nothing-stopped limits why None = tt
nothing-stopped limits why (Some s) =
    λ b reads. cut-of why (whole_jobs (state_of b) s.tree) b s.journal (nothing-front (whole_jobs (state_of b) s.tree) b s.journal reads.journal)

nothing-open : (limits : Limits) (why : BootFault) (o : Option Store) → StopsOpen limits o o why
nothing-open limits why None = tt
nothing-open limits why (Some s) = λ b opens. nothing-still limits why (whole_jobs (state_of b) s.tree) b s opens

nothing-kept : (limits : Limits) (o : Option Store) → KeepsIdle limits o o
nothing-kept limits None = tt
nothing-kept limits (Some s) = λ b reads idle. refl

nothing-roomy : (limits : Limits) (o : Option Store) → StopsWithRoom limits o o
nothing-roomy limits None = tt
nothing-roomy limits (Some s) = λ b reads. inl reads.journal

-- ---- it is open

module _ {D : Type 0} (told : D → Option Store) (faults hard : D → ℕ) (limits : Limits) (start : D) (book : List Entry) (first shelf : D) (same : told shelf ≡ told first)
    (most : limits.entries ≤ 9999999) (reads : Tells (told first) (λ s. IsJournalOf limits book s.journal)) (now : House D)
    (raised : IsRaisedOver (gauged told faults hard) limits start (read_to shelf book) now) where
  whole-first : Tells (told first) (λ s. raised.whole ≡ whole_jobs (state_of book) s.tree)
  whole-first = subst (λ (o : Option Store). Tells o (λ s. raised.whole ≡ whole_jobs (state_of book) s.tree)) same raised.whole_are

  went-first : Moves (OpeningGoes raised.whole book) (told first) (told now.shelf)
  went-first = subst (λ (o : Option Store). Moves (OpeningGoes raised.whole book) o (told now.shelf)) same raised.raised.went

  -- what is known of the two stores
  abbrev Known : Store → Store → Type 0
  Known s t = IsJournalOf limits book s.journal × ((raised.whole ≡ whole_jobs (state_of book) s.tree) × OpeningGoes raised.whole book s t)

  known : Moves Known (told first) (told now.shelf)
  known =
      tells-moves (λ s t. (raised.whole ≡ whole_jobs (state_of book) s.tree) × OpeningGoes raised.whole book s t)
      (λ s. IsJournalOf limits book s.journal) (told first) (told now.shelf) reads
      (tells-moves (OpeningGoes raised.whole book) (λ s. raised.whole ≡ whole_jobs (state_of book) s.tree) (told first) (told now.shelf) whole-first went-first)

  pub boot-opened : AllFit limits nothing_yet book → Opens limits (told first) (entries_of now)
  boot-opened fit = (
    book,
    record {
      fit = fit;
      room = raised.room;
      reads = reads;
      whole = raised.whole;
      whole_are = whole-first;
      now_is = raised.raised.entries;
    },
  )

  stands-now : (s t : Store) → Known s t → (other : List Entry) → OpensWithin limits other s → Standing (state_of (entries_of now)) t.tree
  stands-now s t k other opens =
      subst (λ (b : List Entry). Standing (state_of b) t.tree)
      (sym (raised.raised.entries ∙ ap (λ (w : List ℕ). opening_with w book) k.1.0))
      (whole-stands limits book s most raised.room (left-book limits book s k.0 other opens) t
      (subst (λ (w : List ℕ). OpeningGoes w book s t) k.1.0 k.1.1))

  pub boot-whole : OpensWhole limits (entries_of now) (told first) (told now.shelf)
  boot-whole =
      Moves-weaken Known (λ s t. (b : List Entry) → OpensWithin limits b s → Standing (state_of (entries_of now)) t.tree)
      (λ s t k b opens. stands-now s t k b opens) (told first) (told now.shelf) known

  pub boot-tree : KeepsIdle limits (told first) (told now.shelf)
  boot-tree =
      Moves-weaken Known (λ s t. (b : List Entry) → IsJournalOf limits b s.journal → IsIdle b → KeepsTree s t)
      (λ s t k b others idle.
      idle-kept raised.whole book s t (subst IsIdle (sym (read-book limits book s k.0 b others)) idle) k.1.1) (told first) (told now.shelf) known

-- ---- it isn't

module _ {D : Type 0} (told : D → Option Store) (faults hard : D → ℕ) (limits : Limits) (book : List Entry) (first shelf : D) (same : told shelf ≡ told first)
    (most : limits.entries ≤ 9999999) (reads : Tells (told first) (λ s. IsJournalOf limits book s.journal)) (given : BootFault × D)
    (stopped : StopsOver (gauged told faults hard) shelf book given) where
  abbrev Stopped : Store → Store → Type 0
  Stopped s t = IsJournalOf limits book s.journal × OpeningStops (whole_jobs (state_of book) s.tree) book s t

  stopped-first : Moves Stopped (told first) (told given.1)
  stopped-first =
      tells-moves (λ s t. OpeningStops (whole_jobs (state_of book) s.tree) book s t) (λ s. IsJournalOf limits book s.journal) (told first) (told given.1) reads
      (subst (λ (o : Option Store). Moves (λ s t. OpeningStops (whole_jobs (state_of book) s.tree) book s t) o (told given.1)) same stopped.stops)

  pub boot-stopped : StopsOpening limits (told first) (told given.1) given.0
  boot-stopped =
      Moves-weaken Stopped
      (λ s t. (b : List Entry) → IsJournalOf limits b s.journal → IsCutOpening given.0 (whole_jobs (state_of b) s.tree) b t.journal)
      (λ s t k b others.
      subst (λ (n : List Entry). IsCutOpening given.0 (whole_jobs (state_of n) s.tree) n t.journal) (read-book limits book s k.0 b others)
      (cut-of given.0 (whole_jobs (state_of book) s.tree) book t.journal (stops-front (whole_jobs (state_of book) s.tree) book s t k.1)))
      (told first) (told given.1) stopped-first

  -- there is room for the opening of what was read, or nothing was done
  pub boot-still : HasRoom limits (state_of book) 1 ⊎ (told given.1 ≡ told shelf) → StopsOpen limits (told first) (told given.1) given.0
  boot-still (inl room) =
      Moves-weaken Stopped
      (λ s t. (b : List Entry) → OpensWithin limits b s
      → IsOpenStill limits given.0 b (opening_entries (whole_jobs (state_of b) s.tree) (state_of b)) t)
      (λ s t k b opens.
      subst (λ (n : List Entry). IsOpenStill limits given.0 n (opening_entries (whole_jobs (state_of n) s.tree) (state_of n)) t)
      (sym (opens-book limits book s k.0 b opens))
      (opens-still limits book s most room (left-book limits book s k.0 b opens) given.0 t k.1))
      (told first) (told given.1) stopped-first
  boot-still (inr still) =
      subst (λ (o : Option Store). StopsOpen limits (told first) o given.0) (sym (still ∙ same)) (nothing-open limits given.0 (told first))

  pub boot-same_tree : KeepsIdle limits (told first) (told given.1)
  boot-same_tree =
      Moves-weaken Stopped (λ s t. (b : List Entry) → IsJournalOf limits b s.journal → IsIdle b → KeepsTree s t)
      (λ s t k b others idle.
      idle-stopped (whole_jobs (state_of book) s.tree) book s t (subst IsIdle (sym (read-book limits book s k.0 b others)) idle) k.1) (told first) (told given.1)
      stopped-first

  pub boot-tells : StaysTold (told first) (told given.1)
  boot-tells = stays_by Stopped (told first) (told given.1) stopped-first

  pub boot-cause : faults first ≤ faults shelf → StoreCause (faults first) (faults given.1) (IsBootStore given.0)
  boot-cause low = record {
    later = (let next = stopped.cause.later in omega (arith, low, next));
    failed = λ is.
        let risen : Rose (faults shelf) (faults given.1) = stopped.cause.failed (store-is given.0 is) in
        omega (arith, low, risen);
  }

  cut-first : CutsBefore book (told shelf) (told given.1) → IsCutShortOf limits (told first) (told given.1)
  cut-first cuts =
      Moves-weaken
      (λ s t. IsJournalOf limits book s.journal × IsCutBefore book (opening_entries (whole_jobs (state_of book) s.tree) (state_of book)) t.journal)
      (λ s t. (b : List Entry) → IsJournalOf limits b s.journal
      → IsCutBefore b (opening_entries (whole_jobs (state_of b) s.tree) (state_of b)) t.journal)
      (λ s t k b others.
      subst (λ (n : List Entry). IsCutBefore n (opening_entries (whole_jobs (state_of n) s.tree) (state_of n)) t.journal) (read-book limits book s k.0 b others)
      k.1)
      (told first) (told given.1)
      (tells-moves (λ s t. IsCutBefore book (opening_entries (whole_jobs (state_of book) s.tree) (state_of book)) t.journal)
      (λ s. IsJournalOf limits book s.journal) (told first) (told given.1) reads
      (subst (λ (o : Option Store). CutsBefore book o (told given.1)) same cuts))

  pub boot-hard : hard first ≤ hard shelf → OpeningHard limits (told first) (told given.1) (hard first) (hard given.1) (IsBootStore given.0)
  boot-hard low = record {
    later = (let next = stopped.cause.hard_later in omega (arith, low, next));
    failed = λ is. by (stopped.cause.failed_hard (store-is given.0 is));
  }
    where
      by : Rose (hard shelf) (hard given.1) ⊎ CutsBefore book (told shelf) (told given.1)
          → Rose (hard first) (hard given.1) ⊎ IsCutShortOf limits (told first) (told given.1)
      by (inl risen) = inl (omega (arith, low, risen))
      by (inr cuts) = inr (cut-first cuts)

  pub boot-roomy : Tells (told given.1) (λ t. NotesWithRoom limits book t.journal) → StopsWithRoom limits (told first) (told given.1)
  boot-roomy roomy =
      Moves-weaken (λ s t. Stopped s t × NotesWithRoom limits book t.journal)
      (λ s t. (b : List Entry) → IsJournalOf limits b s.journal → NotesWithRoom limits b t.journal)
      (λ s t k b others. subst (λ (n : List Entry). NotesWithRoom limits n t.journal) (read-book limits book s k.0.0 b others) k.1) (told first) (told given.1)
      (moves-tells Stopped (λ t. NotesWithRoom limits book t.journal) (told first) (told given.1) stopped-first roomy)

-- the fault says what is so of the journal
module _ (limits : Limits) (book : List Entry) (o : Option Store) (reads : Tells o (λ s. IsJournalOf limits book s.journal)) where
  pub boot-bad : (before now : Option Store) (why : BootFault) → before ≡ o → IsRaiseFault limits book before now why → IsBootFault limits o now why
  boot-bad before now fault.Store same raised = tt
  boot-bad before now fault.NoMemory same raised = tt
  boot-bad before now (fault.BadJournal at) same raised = absurd raised
  boot-bad before now (fault.Full entries) same raised = (
    raised.0 ∙ same,
    tells-also (λ s. IsJournalOf limits book s.journal) (λ s. IsFullAt limits entries s.journal)
        (λ s read. record { book = book; reads = read; count = raised.1; full = raised.2 }) o reads,
    tells-also (λ s. IsJournalOf limits book s.journal)
        (λ s. (b : List Entry) → IsJournalOf limits b s.journal → limits.entries < load (state_of b) + 1)
        (λ s read b others.
        subst (λ (n : List Entry). limits.entries < load (state_of n) + 1) (one_book limits book b s.journal read others) raised.2) o reads,
  )

-- ---- the journal wasn't read

module _ (limits : Limits) (first now : Option Store) (same : now ≡ first) (why : OpenFault) (found : BootFault) (is : found ≡ open_fault why) where
  bad-by : (w : OpenFault) → Tells first (λ s. IsFaultFor limits s.journal w) → IsBootFault limits first now (open_fault w)
  bad-by opening.Failed told = tt
  bad-by opening.NoMemory told = tt
  bad-by (opening.BadJournal at) told = (
    same,
    told,
    tells-also (λ s. IsFaultFor limits s.journal (opening.BadJournal at)) (λ s. (b : List Entry) → IsJournalOf limits b s.journal → ⊥)
        (λ s bad b others. not_both limits b s.journal at others bad) first told,
  )

  pub unread-bad : Tells first (λ s. IsFaultFor limits s.journal why) → IsBootFault limits first now found
  unread-bad told = subst (IsBootFault limits first now) (sym is) (bad-by why told)

  pub unread-stopped : StopsOpening limits first now found
  unread-stopped = subst (λ (o : Option Store). StopsOpening limits first o found) (sym same) (nothing-stopped limits found first)

  pub unread-still : StopsOpen limits first now found
  unread-still = subst (λ (o : Option Store). StopsOpen limits first o found) (sym same) (nothing-open limits found first)

  pub unread-tree : KeepsIdle limits first now
  unread-tree = subst (λ (o : Option Store). KeepsIdle limits first o) (sym same) (nothing-kept limits first)

  pub unread-tells : StaysTold first now
  unread-tells = subst (λ (o : Option Store). StaysTold first o) (sym same) (stays_same first)

  pub unread-roomy : StopsWithRoom limits first now
  unread-roomy = subst (λ (o : Option Store). StopsWithRoom limits first o) (sym same) (nothing-roomy limits first)

  module _ (F : Type 0) (fails : why ≡ opening.Failed → F) (faults faults' hard hard' : ℕ) (cause : HardCause F faults faults' hard hard') where
    failed-by : IsBootStore found → F
    failed-by stores = fails (read-failed why (subst IsBootStore is stores))

    pub unread-cause : StoreCause faults faults' (IsBootStore found)
    unread-cause = record { later = cause.later; failed = λ stores. cause.failed (failed-by stores) }

    pub unread-hard : OpeningHard limits first now hard hard' (IsBootStore found)
    unread-hard = record { later = cause.hard_later; failed = λ stores. inl (cause.failed_hard (failed-by stores)) }
