-- A house behind a call that notes: one entry, or the two that begin a statement.
use Rattle.std.proofs.Common.{◌≡◌, ℕ, Option, Some, None, Result, Ok, Err, IfErr, List, [], ◌∷◌, ◌++◌, map, refl, sym, ap, ◌∙◌, subst, append-nil, append_assoc}
use Rattle.std.specs.Prelude.{OnOk}
use Rattle.hv_base.specs.Told.{Tells, Moves}
use Rattle.hv_base.specs.declared.ids.TableId.{TableId}
use Rattle.hv_base.specs.declared.ids.TxnId.{TxnId}
use Rattle.hv_base.specs.declared.ids.WriteId.{WriteId}
use Rattle.hv_shelf.specs.Disk.{Tree, Store}
use Rattle.hv_history.specs.declared.entry.Entry.{Entry}
use Rattle.hv_history.specs.declared.entry.Entry.TheVariants as entry
use Rattle.hv_history.specs.State.{state_of}
use Rattle.hv_history.specs.Legal.{Fits, profile}
use Rattle.hv_journal.specs.Appending.{KeepsTree}
use Rattle.hv_stands.specs.Running.{Asking, opening, starting, next_number}
use Rattle.hv_stands.specs.Statements.{AllFitting}
use Rattle.hv_stands.proofs.Fitting.{one-more-fits}
use Rattle.hv_house.specs.hv_finals.specs.hv_law_made.specs.Laws.{IsFiledFor}
use Rattle.hv_house.specs.hv_finals.specs.hv_law_made.proofs.BookLemmas.{books-are-sound}
use Rattle.hv_law_work.proofs.Puts.{forgot-filed}
use Rattle.hv_trail.specs.declared.trail.TrailItem.{TrailItem}
use Rattle.hv_trail.specs.declared.trail.TrailItem.TheVariants.{Noted}
use Rattle.hv_trail.specs.Trail.{book_of}
use Rattle.hv_trail.specs.Kept.{trail_of}
use Rattle.hv_trail.specs.Steps.{Note, Begin, Call, Outcome, Done, gains, Step}
use Rattle.hv_trail.proofs.LastingLaws.{book-append}
use Rattle.hv_house.specs.declared.fault.HouseFault.{HouseFault}
use Rattle.hv_house.specs.declared.fault.HouseFault.TheVariants as fault
use Rattle.hv_house.specs.declared.house.House.{House}
use Rattle.hv_house.specs.House.{entries_of, IsReady, IsFaithful, StaysReady, BeginFits, beginning_of, AreNoted, AreHalted}
use Rattle.hv_house.specs.Steps.{seen_of, fault_outcome, outcome_of, IsMarked}
use Rattle.hv_telling.specs.Telling.{IsToldHouse, StandsByMarks, HoldsTrue, IsWhole, StaysWhole, StillOpens, IsTrueNow, HasNoOwn}
use Rattle.hv_telling.proofs.Few.{few-entries}
use Rattle.hv_telling.proofs.Told.{both-some, moved-some, same-true, house-book, holds-told, told-holds, told-stays}
use Rattle.hv_telling.proofs.Entries.{marked-unbroken, noted-true, filed-true}
use Rattle.hv_telling.proofs.Opens.{halted-opens}

-- the trail with these entries stands, for every store of which this holds and for which it stands without them
abbrev pub StandsBehind : (Store → Type 0) → List TrailItem → List Entry → Type 0
StandsBehind P trail events =
    (store : Store) → P store → StandsByMarks trail (book_of trail) store
    → StandsByMarks (trail ++ map Noted events) (book_of (trail ++ map Noted events)) store

abbrev Anything : Store → Type 0
Anything store = Unit {0}

anything-told : (o : Option Store) → Tells o Anything
anything-told None = tt
anything-told (Some store) = tt

-- ---- any entries

module _ {D : Type 0} (told : D → Option Store) (faults : D → ℕ) (call : Call) (before now : House D) where
  -- they weren't noted
  pub kept-holds : trail_of now.trail ≡ trail_of before.trail → Moves KeepsTree (told before.shelf) (told now.shelf) → HoldsTrue told before → HoldsTrue told now
  kept-holds trail tree holds =
      told-holds told now (trail_of before.trail) trail
      (moved-some KeepsTree (StandsByMarks (trail_of before.trail) (book_of (trail_of before.trail)))
      (StandsByMarks (trail_of before.trail) (book_of (trail_of before.trail)))
      (told before.shelf) (told now.shelf) tree (λ x y same is. same-true (trail_of before.trail) (book_of (trail_of before.trail)) x y same is)
      (holds-told told before holds))

  -- it was opened over the same store
  pub same-start : (outcome : Outcome) → Step told faults call outcome (seen_of before) (seen_of now) → now.start ≡ before.start
  same-start outcome step = λ i. record { marker = before.start.marker; value = step.rest.start i }

  pub told-before : (outcome : Outcome) → Step told faults call outcome (seen_of before) (seen_of now) → IsToldHouse told now → IsToldHouse told before
  told-before outcome step is = told-stays told now before (sym (same-start outcome step)) is

module _ {D : Type 0} (told : D → Option Store) (faults : D → ℕ) (call : Call) (events : List Entry) (before now : House D)
    (P : Store → Type 0) (tells : Tells (told before.shelf) P) where
  abbrev its_trail : List TrailItem
  its_trail = trail_of before.trail

  abbrev longer : List TrailItem
  longer = its_trail ++ map Noted events

  -- they were noted
  noted-holds : trail_of now.trail ≡ longer → Moves KeepsTree (told before.shelf) (told now.shelf) → StandsBehind P its_trail events
      → HoldsTrue told before → HoldsTrue told now
  noted-holds same tree behind holds =
      told-holds told now longer same
      (moved-some KeepsTree (λ s. P s × StandsByMarks its_trail (book_of its_trail) s) (StandsByMarks longer (book_of longer))
      (told before.shelf) (told now.shelf) tree
      (λ x y kept is. same-true longer (book_of longer) x y kept (behind x is.0 is.1))
      (both-some P (StandsByMarks its_trail (book_of its_trail)) (λ s. P s × StandsByMarks its_trail (book_of its_trail) s) (told before.shelf)
      (λ s p true_. (p, true_)) tells (holds-told told before holds)))

  -- ---- how it ends

  module _ (whole : IsWhole told before) (done : gains call Done ≡ map Noted events) (none : (why : HouseFault) → gains call (fault_outcome why) ≡ [])
      (behind : IsToldHouse told before → StandsBehind P (trail_of before.trail) events) where
    pub noted-whole : {T : Type 0} (result : Result T HouseFault) → OnOk result (IsReady told now) → OnOk result (AreNoted told events before now)
        → Step told faults call (outcome_of result) (seen_of before) (seen_of now) → OnOk result (IsWhole told now)
    noted-whole (Err why) ready noted step = tt
    noted-whole (Ok x) ready noted step = record {
      ready = ready;
      truly = λ is.
          let is_told = told-before told faults call before now Done step is in
          noted-holds (step.trail ∙ ap (λ (items : List TrailItem). its_trail ++ items) done) noted.tree (behind is_told) (whole.truly is_told);
    }

    kept-whole : (why : HouseFault) → IsReady told now → AreHalted told events why before now
        → Step told faults call (fault_outcome why) (seen_of before) (seen_of now) → IsWhole told now
    kept-whole why ready halted step = record {
      ready = ready;
      truly = λ is.
          kept-holds told faults call before now
          (step.trail ∙ ap (λ (items : List TrailItem). its_trail ++ items) (none why) ∙ append-nil its_trail) halted.tree
          (whole.truly (told-before told faults call before now (fault_outcome why) step is));
    }

    pub stays-whole : {T : Type 0} (result : Result T HouseFault) → IfErr result (λ why. StaysReady told why now)
        → IfErr result (λ why. AreHalted told events why before now) → Step told faults call (outcome_of result) (seen_of before) (seen_of now)
        → IfErr result (λ why. StaysWhole told why now)
    stays-whole (Ok x) stays halted step = tt
    stays-whole (Err fault.Store) stays halted step = tt
    stays-whole (Err fault.NoMemory) stays halted step = kept-whole fault.NoMemory (stays.ready refl) halted step
    stays-whole (Err (fault.Failed count)) stays halted step = absurd halted.leaves

    pub still-opens : {T : Type 0} (result : Result T HouseFault) → IfErr result (λ why. AreHalted told events why before now)
        → IsToldHouse told before → IfErr result (λ _. StillOpens told now)
    still-opens (Ok x) halted is = tt
    still-opens (Err why) halted is =
        halted-opens told events why before now halted
        (both-some P (StandsByMarks its_trail (book_of its_trail))
        (λ s. IsFaithful (entries_of before) s × IsFaithful (entries_of before ++ events) s) (told before.shelf)
        (λ s p true_. (
          subst (λ (book : List Entry). IsFaithful book s) (house-book before) true_.faithful,
          subst (λ (book : List Entry). IsFaithful book s) book_behind (behind is s p true_).faithful,
        ))
        tells (holds-told told before (whole.truly is)))
      where
        noted-book : (entries : List Entry) → book_of (map Noted entries) ≡ entries
        noted-book [] = refl
        noted-book (event ∷ entries) = ap (λ (rest : List Entry). event ∷ rest) (noted-book entries)

        book_behind : book_of longer ≡ entries_of before ++ events
        book_behind =
            book-append its_trail (map Noted events)
            ∙ ap (λ (book : List Entry). book ++ book_of (map Noted events)) (house-book before)
            ∙ ap (λ (more : List Entry). entries_of before ++ more) (noted-book events)

-- ---- one entry

module _ {D : Type 0} (told : D → Option Store) (before : House D) (event : Entry) (ready : IsReady told before)
    (fits : Fits profile (state_of (entries_of before)) event) (marked : IsMarked before event) where
  pub event-behind : IsTrueNow (entries_of before) (trail_of before.trail) event → StandsBehind Anything (trail_of before.trail) (event ∷ [])
  event-behind truly store any true_ =
      noted-true (trail_of before.trail) store (subst AllFitting (sym (house-book before)) ready.fit) true_ event
      (subst (λ (book : List Entry). Fits profile (state_of book) event) (sym (house-book before)) fits)
      (marked-unbroken before event marked)
      (subst (λ (book : List Entry). IsTrueNow book (trail_of before.trail) event) (sym (house-book before)) truly)

-- ---- the two that begin a statement

module _ {D : Type 0} (told : D → Option Store) (before : House D) (asking : Asking) (ready : IsReady told before) (fits : BeginFits (entries_of before) asking) where
  abbrev stood : List TrailItem
  stood = trail_of before.trail

  abbrev first : Entry
  first = opening (entries_of before) asking

  abbrev second : Entry
  second = starting (next_number (entries_of before))

  abbrev between : List TrailItem
  between = stood ++ Noted first ∷ []

  book-between : book_of between ≡ entries_of before ++ first ∷ []
  book-between = book-append stood (Noted first ∷ []) ∙ ap (λ (book : List Entry). book ++ first ∷ []) (house-book before)

  pub begun-behind : StandsBehind Anything stood (beginning_of (entries_of before) asking)
  begun-behind store any true_ =
      let one : StandsByMarks between (book_of between) store =
      noted-true stood store (subst AllFitting (sym (house-book before)) ready.fit) true_ first
      (subst (λ (book : List Entry). Fits profile (state_of book) first) (sym (house-book before)) fits.0) tt tt in
      let both : StandsByMarks (between ++ Noted second ∷ []) (book_of (between ++ Noted second ∷ [])) store =
      noted-true between store (subst AllFitting (sym book-between) (one-more-fits (entries_of before) first ready.fit fits.0)) one second
      (subst (λ (book : List Entry). Fits profile (state_of book) second) (sym book-between) fits.1) tt tt in
      subst (λ (items : List TrailItem). StandsByMarks items (book_of items) store) (append_assoc stood (Noted first ∷ []) (Noted second ∷ [])) both

-- ---- the calls

module _ {D : Type 0} (told : D → Option Store) (faults : D → ℕ) (event : Entry) (before now : House D) (whole : IsWhole told before)
    (fits : Fits profile (state_of (entries_of before)) event) (marked : IsMarked before event)
    (truly : IsToldHouse told before → IsTrueNow (entries_of before) (trail_of before.trail) event) where
  none-noted : (why : HouseFault) → gains (Note event) (fault_outcome why) ≡ []
  none-noted fault.Store = refl
  none-noted fault.NoMemory = refl
  none-noted (fault.Failed count) = refl

  behind-it : IsToldHouse told before → StandsBehind Anything (trail_of before.trail) (event ∷ [])
  behind-it is = event-behind told before event whole.ready fits marked (truly is)

  pub note-whole : (result : Result (Unit {0}) HouseFault) → OnOk result (IsReady told now) → OnOk result (AreNoted told (event ∷ []) before now)
      → Step told faults (Note event) (outcome_of result) (seen_of before) (seen_of now) → OnOk result (IsWhole told now)
  note-whole result ready noted step = noted-whole told faults (Note event) (event ∷ []) before now Anything (anything-told (told before.shelf)) whole refl none-noted behind-it result ready noted step

  pub note-stays : (result : Result (Unit {0}) HouseFault) → IfErr result (λ why. StaysReady told why now)
      → IfErr result (λ why. AreHalted told (event ∷ []) why before now)
      → Step told faults (Note event) (outcome_of result) (seen_of before) (seen_of now) → IfErr result (λ why. StaysWhole told why now)
  note-stays result stays halted step = stays-whole told faults (Note event) (event ∷ []) before now Anything (anything-told (told before.shelf)) whole refl none-noted behind-it result stays halted step

  pub note-opens : (result : Result (Unit {0}) HouseFault) → IfErr result (λ why. AreHalted told (event ∷ []) why before now)
      → IsToldHouse told before → IfErr result (λ _. StillOpens told now)
  note-opens result halted is = still-opens told faults (Note event) (event ∷ []) before now Anything (anything-told (told before.shelf)) whole refl none-noted behind-it result halted is

module _ {D : Type 0} (told : D → Option Store) (faults : D → ℕ) (asking : Asking) (before now : House D) (whole : IsWhole told before)
    (fits : BeginFits (entries_of before) asking) where
  abbrev beginning : List Entry
  beginning = beginning_of (entries_of before) asking

  abbrev call : Call
  call = Begin (record { 0 = next_number (entries_of before) }) asking.session asking.number asking.text

  none-begun : (why : HouseFault) → gains call (fault_outcome why) ≡ []
  none-begun fault.Store = refl
  none-begun fault.NoMemory = refl
  none-begun (fault.Failed count) = refl

  behind-both : IsToldHouse told before → StandsBehind Anything (trail_of before.trail) beginning
  behind-both is = begun-behind told before asking whole.ready fits

  pub begin-whole : (result : Result (TxnId × ℕ) HouseFault) → OnOk result (IsReady told now) → OnOk result (AreNoted told beginning before now)
      → Step told faults call (outcome_of result) (seen_of before) (seen_of now) → OnOk result (IsWhole told now)
  begin-whole result ready noted step = noted-whole told faults call beginning before now Anything (anything-told (told before.shelf)) whole refl none-begun behind-both result ready noted step

  pub begin-stays : (result : Result (TxnId × ℕ) HouseFault) → IfErr result (λ why. StaysReady told why now)
      → IfErr result (λ why. AreHalted told beginning why before now)
      → Step told faults call (outcome_of result) (seen_of before) (seen_of now) → IfErr result (λ why. StaysWhole told why now)
  begin-stays result stays halted step = stays-whole told faults call beginning before now Anything (anything-told (told before.shelf)) whole refl none-begun behind-both result stays halted step

  pub begin-opens : (result : Result (TxnId × ℕ) HouseFault) → IfErr result (λ why. AreHalted told beginning why before now)
      → IsToldHouse told before → IfErr result (λ _. StillOpens told now)
  begin-opens result halted is = still-opens told faults call beginning before now Anything (anything-told (told before.shelf)) whole refl none-begun behind-both result halted is

-- ---- a write id that is forgotten

module _ {D : Type 0} (told : D → Option Store) (faults : D → ℕ) (table : TableId) (write : WriteId) (before now : House D) (whole : IsWhole told before)
    (fits : Fits profile (state_of (entries_of before)) (entry.Forgot table write)) (bare : Tells (told before.shelf) (λ s. HasNoOwn table.0 write.0 s.tree)) where
  abbrev forgotten : Entry
  forgotten = entry.Forgot table write

  abbrev HasNone : Store → Type 0
  HasNone s = HasNoOwn table.0 write.0 s.tree

  none-forgotten : (why : HouseFault) → gains (Note forgotten) (fault_outcome why) ≡ []
  none-forgotten fault.Store = refl
  none-forgotten fault.NoMemory = refl
  none-forgotten (fault.Failed count) = refl

  -- what it would make there is nothing
  unmade-there : (files : Tree) → HasNoOwn table.0 write.0 files → IsFiledFor forgotten (state_of (entries_of before)) files
  unmade-there files none = forgot-filed profile (state_of (entries_of before)) table write files (few-entries (entries_of before) whole.ready.fit)
      (books-are-sound profile (entries_of before) whole.ready.fit) fits none

  forgot-behind : StandsBehind HasNone (trail_of before.trail) (forgotten ∷ [])
  forgot-behind store none true_ =
      filed-true (trail_of before.trail) store (subst AllFitting (sym (house-book before)) whole.ready.fit) true_ forgotten
      (subst (λ (book : List Entry). Fits profile (state_of book) forgotten) (sym (house-book before)) fits) tt
      (subst (λ (book : List Entry). IsFiledFor forgotten (state_of book) store.tree) (sym (house-book before))
      (unmade-there store.tree none))

  pub forgot-whole : (result : Result (Unit {0}) HouseFault) → OnOk result (IsReady told now) → OnOk result (AreNoted told (forgotten ∷ []) before now)
      → Step told faults (Note forgotten) (outcome_of result) (seen_of before) (seen_of now) → OnOk result (IsWhole told now)
  forgot-whole result ready noted step =
      noted-whole told faults (Note forgotten) (forgotten ∷ []) before now HasNone bare whole refl none-forgotten (λ is. forgot-behind) result ready noted step

  pub forgot-stays : (result : Result (Unit {0}) HouseFault) → IfErr result (λ why. StaysReady told why now)
      → IfErr result (λ why. AreHalted told (forgotten ∷ []) why before now)
      → Step told faults (Note forgotten) (outcome_of result) (seen_of before) (seen_of now) → IfErr result (λ why. StaysWhole told why now)
  forgot-stays result stays halted step =
      stays-whole told faults (Note forgotten) (forgotten ∷ []) before now HasNone bare whole refl none-forgotten (λ is. forgot-behind) result stays halted step

  pub forgot-opens : (result : Result (Unit {0}) HouseFault) → IfErr result (λ why. AreHalted told (forgotten ∷ []) why before now)
      → IsToldHouse told before → IfErr result (λ _. StillOpens told now)
  forgot-opens result halted is =
      still-opens told faults (Note forgotten) (forgotten ∷ []) before now HasNone bare whole refl none-forgotten (λ is. forgot-behind) result halted is
