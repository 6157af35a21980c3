-- What a store reads to where a pass stops: its book, or that and the one entry of the call that closed the house.
use Rattle.std.proofs.Common.{◌≡◌, ◌⊎◌, ◌≤◌, ◌+◌, le_refl, inl, inr, ℕ, suc, Option, Some, None, Result, IfErr, List, [], ◌∷◌, ◌++◌, length, refl, sym, ap, ◌∙◌, subst, append-nil, append_assoc, arith}
use Rattle.std.specs.List.{AllByRecursion}
use Rattle.std.proofs.lemmas.List.{length-append}
use Rattle.hv_base.specs.Told.{Moves}
use Rattle.hv_base.specs.declared.ids.JobId.{JobId}
use Rattle.hv_shelf.specs.declared.place.Place.{Place}
use Rattle.hv_shelf.specs.declared.place.DirAt.{DirAt}
use Rattle.hv_shelf.specs.Disk.{Store, TornFile, TornRemove}
use Rattle.hv_history.specs.declared.entry.Entry.{Entry}
use Rattle.hv_history.specs.declared.entry.Entry.TheVariants as entry
use Rattle.hv_history.specs.Journal.{Reads, IsJournal}
use Rattle.hv_history.specs.State.{state_of, nothing_yet}
use Rattle.hv_history.specs.Legal.{AllFit, IsLegalFrom, profile}
use Rattle.hv_journal.specs.Appending.{Holds, ReadsMore, HoldsMore}
use Rattle.hv_trail.specs.declared.trail.Renaming.{Renaming}
use Rattle.hv_trail.specs.declared.trail.TrailItem.{TrailItem}
use Rattle.hv_trail.specs.Trail.{book_of}
use Rattle.hv_trail.specs.Steps.{Call, Note, Begin, Commit, Put, Remove, Publish, Read, Outcome, Done, Failed, Closed, Starved, Refused, MayEnd, gains, Changes, AreMoved, EndsCut, CutsPublication, StarvesPublication}
use Rattle.hv_trail.proofs.LastingLaws.{book-append}
use Rattle.hv_actor.specs.Acting.{IsLater, Nothing, Untouched, among}
use Rattle.hv_session.proofs.AloneBooks.{fits-behind, legal-behind, opens-legal}
use Rattle.hv_session.proofs.AloneStops.{never-between}
use Rattle.hv_session.specs.hv_beginning.specs.hv_steps.proofs.Books.{fit-from, legal-from}
use Rattle.hv_session.specs.hv_beginning.specs.hv_steps.specs.hv_table_reader.specs.hv_acts.specs.declared.told.ToldHouse.{ToldHouse}
use Rattle.hv_session.specs.hv_beginning.specs.hv_steps.specs.hv_table_reader.specs.hv_acts.specs.Told.{IsWholeOrClosed, seen_in, trail_in, book_in}
use Rattle.hv_session.specs.hv_beginning.specs.hv_steps.specs.hv_table_reader.specs.hv_acts.specs.Going.{IsOpenHouse}
use Rattle.hv_session.specs.hv_beginning.specs.hv_steps.specs.hv_table_reader.specs.hv_acts.proofs.Steps.{book-is}
use Rattle.hv_session.specs.hv_beginning.specs.hv_steps.specs.hv_table_reader.specs.hv_acts.specs.hv_telling.specs.hv_house.specs.declared.fault.HouseFault.{HouseFault}
use Rattle.hv_session.specs.hv_beginning.specs.hv_steps.specs.hv_table_reader.specs.hv_acts.specs.hv_telling.specs.hv_house.specs.declared.fault.HouseFault.TheVariants as fault
use Rattle.hv_session.specs.hv_beginning.specs.hv_steps.specs.hv_table_reader.specs.hv_acts.specs.hv_telling.specs.hv_house.specs.declared.house.House.{House}
use Rattle.hv_session.specs.hv_beginning.specs.hv_steps.specs.hv_table_reader.specs.hv_acts.specs.hv_telling.specs.hv_house.specs.House.{entries_of, Leaves}
use Rattle.hv_session.specs.hv_beginning.specs.hv_steps.specs.hv_table_reader.specs.hv_acts.specs.hv_telling.specs.hv_house.specs.Booting.{Opens}
use Rattle.hv_session.specs.hv_beginning.specs.hv_steps.specs.hv_table_reader.specs.hv_acts.specs.hv_telling.specs.hv_house.proofs.Boots.{reads-journal}
use Rattle.hv_session.specs.hv_beginning.specs.hv_steps.specs.hv_table_reader.specs.hv_acts.specs.hv_telling.specs.Telling.{IsWhole, IsToldHouse}
use Rattle.hv_session.specs.hv_beginning.specs.hv_steps.specs.hv_table_reader.specs.hv_acts.specs.hv_telling.proofs.Told.{told-stays}
use Rattle.hv_session.specs.hv_beginning.specs.hv_steps.specs.hv_table_reader.specs.hv_acts.specs.hv_telling.proofs.Opens.{whole-opens}
use Rattle.hv_compact.specs.hv_job_acts.specs.Going.{IsCutNow, IsShutFor as IsShutBy}
use Rattle.hv_compact.specs.declared.fault.RunFault.{RunFault}
use Rattle.hv_compact.specs.declared.fault.RunFault.TheVariants as run
use Rattle.hv_compact.specs.Stopping.{IsAsking, IsPicking, IsOfJob, IsStarvedNow}
use Rattle.hv_clean.specs.Passing.{IsCleaning as IsSweeping}
use Rattle.hv_program.specs.Background.{IsCompacting, IsCleaning}
use Rattle.hv_program.specs.Beside.{fault_of, AddsBeside, StopsBeside}
use Rattle.hv_program.proofs.OwnEntries.{all-append, state-of}
use Rattle.hv_program.proofs.Passed.{stops-err, still-opens}

-- ---- a journal of a book that has an entry

journal-reads : (book : List Entry) (bytes : List ℕ) → 1 ≤ length book → IsJournal book bytes → Reads book bytes
journal-reads [] bytes some is = absurd (omega (arith, some))
journal-reads (e ∷ book) [] some is = let no_ : e ∷ book ≡ [] = is in cc
journal-reads (e ∷ book) (gate ∷ []) some is = let no_ : e ∷ book ≡ [] = is in cc
journal-reads (e ∷ book) (gate ∷ next ∷ after) some is = is

more-some : (book more : List Entry) → 1 ≤ length book → 1 ≤ length (book ++ more)
more-some book more some = omega (arith, some, length-append book more)

behind-some : (book : List Entry) (first : Entry) (more : List Entry) → 1 ≤ length (book ++ first ∷ more)
behind-some book first more =
    let count : length (book ++ first ∷ more) ≡ length book + suc (length more) = length-append book (first ∷ more) in
    omega (arith, count)

-- a house that is open has the Boot of its opening
pub opens-some : (told : Option Store) (now : List Entry) → Opens profile told now → 1 ≤ length now
opens-some told now is = subst (λ (book : List Entry). 1 ≤ length book) (sym is.1.now_is) (behind-some is.0 _ _)

-- and it has it for good
pub later-some : {D : Type 0} (faults : D → ℕ) (before now : ToldHouse D) → IsLater faults (seen_in before) (seen_in now) → 1 ≤ length (entries_of before.house)
    → 1 ≤ length (entries_of now.house)
later-some faults before now later some =
    let grown : entries_of now.house ≡ entries_of before.house ++ book_of later.added =
    sym (book-is now.house)
    ∙ ap book_of later.trail
    ∙ book-append (trail_in before) later.added
    ∙ ap (λ (book : List Entry). book ++ book_of later.added) (book-is before.house) in
    subst (λ (book : List Entry). 1 ≤ length book) (sym grown) (more-some (entries_of before.house) (book_of later.added) some)

pub beside-some : (Of : Entry → Type 0) (before now : List Entry) → AddsBeside Of before now → 1 ≤ length before → 1 ≤ length now
beside-some Of before now adds some = subst (λ (book : List Entry). 1 ≤ length book) (sym adds.book) (more-some before adds.added some)

-- ---- a call that was to note one entry at most, and not to begin or end a statement

abbrev pub IsPlainCall : Call → Type 0
IsPlainCall (Begin txn session number text) = ⊥
IsPlainCall (Commit txn wrote) = ⊥
IsPlainCall call = Unit {0}

abbrev pub further_of : Call → List Entry
further_of (Note event) = event ∷ []
further_of (Publish renames event) = event ∷ []
further_of call = []

few-of : (call : Call) → length (further_of call) ≤ 1
few-of (Note event) = le_refl 1
few-of (Publish renames event) = le_refl 1
few-of call = omega arith

moved-journal : (renamings : List Renaming) (s t : Store) → AreMoved renamings s t → t.journal ≡ s.journal
moved-journal [] s t moved = ap (λ (x : Store). x.journal) moved
moved-journal (renaming ∷ renamings) s t moved = moved-journal renamings moved.0 t moved.2 ∙ moved.1.journal_is

torn-file : (place : Place) (s t : Store) → TornFile place s t → t.journal ≡ s.journal
torn-file place s t (inl same) = ap (λ (x : Store). x.journal) same
torn-file place s t (inr broke) = broke.journal_is

torn-remove : (dir : DirAt) (s t : Store) → TornRemove dir s t → t.journal ≡ s.journal
torn-remove dir s t (inl same) = ap (λ (x : Store). x.journal) same
torn-remove dir s t (inr some) = some.journal_is

-- it reads to the book still, or to that and these entries
abbrev IsOrMore : List Entry → List Entry → Store → Type 0
IsOrMore book more t = IsJournal book t.journal ⊎ IsJournal (book ++ more) t.journal

kept-journal : (book more : List Entry) (s t : Store) → t.journal ≡ s.journal → IsJournal book s.journal → IsOrMore book more t
kept-journal book more s t same is = inl (subst (IsJournal book) (sym same) is)

cut-ends : (rest : List Renaming) (event : Entry) (book : List Entry) (s t : Store) → EndsCut rest event book s t → IsJournal book s.journal
    → IsOrMore book (event ∷ []) t
cut-ends [] event book s t ends is = ends.reads is
cut-ends (renaming ∷ rest) event book s t ends is = inl (ends.reads is)

cut-publication : (renames : List Renaming) (event : Entry) (book : List Entry) (s t : Store) → CutsPublication renames event book s t → IsJournal book s.journal
    → IsOrMore book (event ∷ []) t
cut-publication renames event book s t cut is =
    cut-ends cut.rest event book cut.middle t cut.ends (subst (IsJournal book) (sym (moved-journal cut.front s cut.middle cut.moved)) is)

starved-publication : (renames : List Renaming) (book : List Entry) (s t : Store) → StarvesPublication renames book s t → IsJournal book s.journal → IsJournal book t.journal
starved-publication renames book s t cut is =
    cut.ends.reads (subst (IsJournal book) (sym (moved-journal cut.front s cut.middle cut.moved)) is)

one-none : (item : TrailItem) → item ∷ [] ≡ [] → ⊥
one-none item is = let no_ : item ∷ [] ≡ [] = is in cc

-- where it added nothing
journal-by : (book : List Entry) (call : Call) (outcome : Outcome) (s t : Store) → IsPlainCall call → gains call outcome ≡ [] → Changes book call outcome s t
    → IsJournal book s.journal → IsOrMore book (further_of call) t
journal-by book (Begin txn session number text) outcome s t plain nothing changes is = absurd plain
journal-by book (Commit txn wrote) outcome s t plain nothing changes is = absurd plain
journal-by book (Note event) Done s t plain nothing changes is = absurd (one-none _ nothing)
journal-by book (Note event) Closed s t plain nothing changes is = changes.reads is
journal-by book (Note event) Refused s t plain nothing changes is = inl (changes.reads is)
journal-by book (Publish renames event) Done s t plain nothing changes is = absurd (one-none _ nothing)
journal-by book (Publish renames event) Closed s t plain nothing changes is = cut-publication renames event book s t changes is
journal-by book (Publish renames event) Starved s t plain nothing changes is = inl (starved-publication renames book s t changes is)
journal-by book (Publish renames event) Refused s t plain nothing changes is = inl (changes.reads is)
journal-by book (Put by place bytes) Done s t plain nothing changes is = absurd (one-none _ nothing)
journal-by book (Put by place bytes) (Failed count) s t plain nothing changes is = absurd (one-none _ nothing)
journal-by book (Put by place bytes) Closed s t plain nothing changes is = kept-journal book [] s t (torn-file place s t changes) is
journal-by book (Remove by dir) Done s t plain nothing changes is = absurd (one-none _ nothing)
journal-by book (Remove by dir) (Failed count) s t plain nothing changes is = absurd (one-none _ nothing)
journal-by book (Remove by dir) Closed s t plain nothing changes is = kept-journal book [] s t (torn-remove dir s t changes) is
journal-by book call outcome s t plain nothing changes is = kept-journal book (further_of call) s t (ap (λ (x : Store). x.journal) changes) is

read-more : (book more : List Entry) (t : Store) → 1 ≤ length book → IsOrMore book more t → ReadsMore book more t.journal
read-more book more t some (inl is) = inl (journal-reads book t.journal some is)
read-more book more t some (inr is) = inr (journal-reads (book ++ more) t.journal (more-some book more some) is)

holds-more : (book : List Entry) (call : Call) (outcome : Outcome) (before now : Option Store) → 1 ≤ length book → IsPlainCall call → gains call outcome ≡ []
    → Moves (Changes book call outcome) before now → Holds before book → HoldsMore now book (further_of call)
holds-more book call outcome None None some plain nothing moves holds = tt
holds-more book call outcome None (Some t) some plain nothing moves holds = absurd moves
holds-more book call outcome (Some s) None some plain nothing moves holds = absurd moves
holds-more book call outcome (Some s) (Some t) some plain nothing moves holds =
    read-more book (further_of call) t some (journal-by book call outcome s t plain nothing moves (reads-journal book s.journal holds))

-- ---- memory lacked between the renamings of a publication

starved-gains : (call : Call) → MayEnd call Starved → gains call Starved ≡ []
starved-gains (Publish renames event) may = refl
starved-gains call may = absurd may

starved-by : (book : List Entry) (call : Call) (s t : Store) → MayEnd call Starved → Changes book call Starved s t → IsJournal book s.journal → IsJournal book t.journal
starved-by book (Publish renames event) s t may changes is = starved-publication renames book s t changes is
starved-by book call s t may changes is = absurd may

holds-starved : (book : List Entry) (call : Call) (before now : Option Store) → 1 ≤ length book → MayEnd call Starved → Moves (Changes book call Starved) before now
    → Holds before book → Holds now book
holds-starved book call None None some may moves holds = tt
holds-starved book call None (Some t) some may moves holds = absurd moves
holds-starved book call (Some s) None some may moves holds = absurd moves
holds-starved book call (Some s) (Some t) some may moves holds =
    journal-reads book t.journal some (starved-by book call s t may moves (reads-journal book s.journal holds))

-- ---- the calls of a pass

-- it is plain, and notes such entries alone
pub record IsCallOf (Of : Entry → Type 0) (call : Call) : Type 0 where
  pub plain : IsPlainCall call
  pub notes : AllByRecursion Of (further_of call)

pub asking-calls : (call : Call) → IsAsking call → IsCallOf IsCompacting call
asking-calls (Note (entry.Asked job table partition kind by_)) is = record { plain = tt; notes = (is, tt) }
asking-calls call is = absurd is

pub picking-calls : (call : Call) → IsPicking call → IsCallOf IsCompacting call
picking-calls (Note (entry.Picked job watermark)) is = record { plain = tt; notes = (tt, tt) }
picking-calls call is = absurd is

pub job-calls : (job : JobId) (call : Call) → IsOfJob job call → IsCallOf IsCompacting call
job-calls job (Note (entry.Empty one)) is = record { plain = tt; notes = (tt, tt) }
job-calls job (Note (entry.Failed one why)) is = record { plain = tt; notes = (tt, tt) }
job-calls job (Publish renames (entry.Published one low high mark)) is = record { plain = tt; notes = (tt, tt) }
job-calls job (Put by place bytes) is = record { plain = tt; notes = tt }
job-calls job (Read by) is = record { plain = tt; notes = tt }
job-calls job call is = absurd is

pub sweeping-calls : (call : Call) → IsSweeping call → IsCallOf IsCleaning call
sweeping-calls (Note (entry.Cleaned job)) is = record { plain = tt; notes = (tt, tt) }
sweeping-calls (Note (entry.Forgot table write)) is = record { plain = tt; notes = (tt, tt) }
sweeping-calls (Remove None dir) is = record { plain = tt; notes = tt }
sweeping-calls (Read None) is = record { plain = tt; notes = tt }
sweeping-calls call is = absurd is

-- ---- the last call closed the house

-- others do nothing
pub cut-of : {D : Type 0} (told : D → Option Store) (faults : D → ℕ) (Of : Call → Type 0) (now : ToldHouse D) → IsShutBy (among told faults Nothing Untouched) Of now
    → IsCutNow told faults Of now
cut-of told faults Of now (inl between) = absurd (never-between Untouched (λ before found same. same) between)
cut-of told faults Of now (inr cut) = cut

same-book : {D : Type 0} (before now : ToldHouse D) (gained : List TrailItem) → trail_in now ≡ trail_in before ++ gained → gained ≡ [] → entries_of now.house ≡ entries_of before.house
same-book before now gained trail none =
    sym (book-is now.house)
    ∙ ap book_of (trail ∙ ap (λ (xs : List TrailItem). trail_in before ++ xs) none ∙ append-nil (trail_in before))
    ∙ book-is before.house

module _ {D : Type 0} (told : D → Option Store) (faults : D → ℕ) (Of : Entry → Type 0) (before now : ToldHouse D)
    (adds : AddsBeside Of (entries_of before.house) (entries_of now.house)) (later : IsLater faults (seen_in before) (seen_in now))
    (kept : IsWholeOrClosed told now.house) (some : 1 ≤ length (entries_of before.house)) where
  legal-so : IsToldHouse told before.house → IsLegalFrom profile (state_of (entries_of before.house)) adds.added
  legal-so is =
      legal-behind (entries_of before.house) adds.added (entries_of now.house) adds.book
      (opens-legal told now.house (still-opens told faults before now later kept is))

  fits-so : AllFit profile nothing_yet (entries_of now.house) → AllFit profile (state_of (entries_of before.house)) adds.added
  fits-so fit = fits-behind (entries_of before.house) adds.added (entries_of now.house) adds.book fit

  -- the house that the last call found has the same book, and that has an entry
  found-some : (found : ToldHouse D) → entries_of now.house ≡ entries_of found.house → 1 ≤ length (book_in found)
  found-some found same =
      subst (λ (book : List Entry). 1 ≤ length book) (same ∙ sym (book-is found.house)) (later-some faults before now later some)

  found-holds : (found : ToldHouse D) → IsWhole told found.house → Holds (told found.house.shelf) (book_in found)
  found-holds found whole = subst (Holds (told found.house.shelf)) (sym (book-is found.house)) whole.ready.kept.reads

  pub stops-cut : (Is : Call → Type 0) → ((call : Call) → Is call → IsCallOf Of call) → IsCutNow told faults Is now → StopsBeside told Of fault.Store before.house now.house
  stops-cut Is calls cut =
      let whole : IsWhole told cut.house.house = cut.kept.whole cut.was in
      let same : entries_of now.house ≡ entries_of cut.house.house = same-book cut.house now (gains cut.call cut.outcome) cut.step.trail cut.nothing in
      let there : book_in cut.house ≡ entries_of now.house = book-is cut.house.house ∙ sym same in
      record {
        added = adds.added;
        book = adds.book;
        of_it = adds.of_it;
        fits = fits-so (subst (AllFit profile nothing_yet) (sym same) whole.ready.fit);
        legal = legal-so;
        further = further_of cut.call;
        further_of_it = (calls cut.call cut.of_it).notes;
        few = few-of cut.call;
        leaves = subst (Leaves fault.Store (further_of cut.call) (told now.house.shelf)) there
            (holds-more (book_in cut.house) cut.call cut.outcome (told cut.house.house.shelf) (told now.house.shelf) (found-some cut.house same)
            (calls cut.call cut.of_it).plain cut.nothing cut.step.store (found-holds cut.house whole));
      }

  pub stops-open : IsOpenHouse now → StopsBeside told Of fault.NoMemory before.house now.house
  stops-open open_ =
      let whole : IsWhole told now.house = kept.whole open_ in
      record {
        added = adds.added;
        book = adds.book;
        of_it = adds.of_it;
        fits = fits-so whole.ready.fit;
        legal = legal-so;
        further = [];
        further_of_it = tt;
        few = omega arith;
        leaves = whole.ready.kept.reads;
      }

  pub stops-starved : IsStarvedNow told faults now → StopsBeside told Of fault.NoMemory before.house now.house
  stops-starved starved =
      let whole : IsWhole told starved.house.house = starved.kept.whole starved.was in
      let same : entries_of now.house ≡ entries_of starved.house.house =
      same-book starved.house now (gains starved.call Starved) starved.step.trail (starved-gains starved.call starved.step.may) in
      let there : book_in starved.house ≡ entries_of now.house = book-is starved.house.house ∙ sym same in
      record {
        added = adds.added;
        book = adds.book;
        of_it = adds.of_it;
        fits = fits-so (subst (AllFit profile nothing_yet) (sym same) whole.ready.fit);
        legal = legal-so;
        further = [];
        further_of_it = tt;
        few = omega arith;
        leaves = subst (Holds (told now.house.shelf)) there
            (holds-starved (book_in starved.house) starved.call (told starved.house.house.shelf) (told now.house.shelf) (found-some starved.house same)
            starved.step.may starved.step.store (found-holds starved.house whole));
      }

  pub stops-lacking : IsOpenHouse now ⊎ IsStarvedNow told faults now → StopsBeside told Of fault.NoMemory before.house now.house
  stops-lacking (inl open_) = stops-open open_
  stops-lacking (inr starved) = stops-starved starved

  pub stops-run : (why : RunFault) (q : Result (Unit {0}) HouseFault) → q ≡ fault_of why
      → (why ≡ run.Store → StopsBeside told Of fault.Store before.house now.house) → (why ≡ run.NoMemory → StopsBeside told Of fault.NoMemory before.house now.house)
      → IfErr q (λ w. StopsBeside told Of w before.house now.house)
  stops-run why q same store memory = stops-err why q (λ w. StopsBeside told Of w before.house now.house) same store memory

-- ---- behind a part that was done

module _ {D : Type 0} (told : D → Option Store) (Of : Entry → Type 0) (why : HouseFault) (before mid now : House D) (start : mid.start ≡ before.start)
    (first : AddsBeside Of (entries_of before) (entries_of mid)) (whole : IsWhole told mid) where
  legal-first : IsToldHouse told before → IsLegalFrom profile (state_of (entries_of before)) first.added
  legal-first is =
      legal-behind (entries_of before) first.added (entries_of mid) first.book
      (opens-legal told mid (whole-opens told mid whole (told-stays told before mid start is)))

  pub stops-then : StopsBeside told Of why mid now → StopsBeside told Of why before now
  stops-then s =
      let state = state-of (entries_of before) first.added (entries_of mid) first.book in
      record {
        added = first.added ++ s.added;
        book = s.book ∙ ap (λ (book : List Entry). book ++ s.added) first.book ∙ append_assoc (entries_of before) first.added s.added;
        of_it = all-append Of first.added s.added first.of_it s.of_it;
        fits = fit-from (state_of (entries_of before)) first.added s.added
            (fits-behind (entries_of before) first.added (entries_of mid) first.book whole.ready.fit)
            (subst (λ at. AllFit profile at s.added) state s.fits);
        legal = λ is. legal-from (state_of (entries_of before)) first.added s.added (legal-first is)
            (subst (λ at. IsLegalFrom profile at s.added) state (s.legal (told-stays told before mid start is)));
        further = s.further;
        further_of_it = s.further_of_it;
        few = s.few;
        leaves = s.leaves;
      }
