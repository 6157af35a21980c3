-- What the calls that read promise, in words of the trail.
use Rattle.std.proofs.Common.{◌≡◌, ◌↔◌, ℕ, ◌≤◌, Bool, true, Option, Some, None, Ok, Err, Result, List, take, length, option_map, append-nil, refl, sym, ap, subst, arith}
use Rattle.std.specs.Prelude.{IfOk, IfErr, IsErrOf, IsSomeAnd, IsTrue}
use Rattle.std.specs.Global.{Vec}
use Rattle.std.specs.FinMap as tree
use Rattle.hv_base.specs.Told.{Tells}
use Rattle.hv_base.specs.declared.ids.TxnId.{TxnId}
use Rattle.hv_base.specs.declared.ids.TableId.{TableId}
use Rattle.hv_shelf.specs.declared.place.Place.{Place}
use Rattle.hv_shelf.specs.Disk.{Store}
use Rattle.hv_logic.specs.declared.catalog.TableInfo.{TableInfo}
use Rattle.hv_rowfile.specs.declared.record.Rec.{Rec}
use Rattle.hv_history.specs.declared.entry.Entry.{Entry}
use Rattle.hv_history.specs.declared.state.Transaction.{Transaction}
use Rattle.hv_history.specs.State.{state_of, numbered}
use Rattle.hv_history.specs.Legal.{profile, Of, is_open}
use Rattle.hv_meta.specs.declared.facts.TxnState.{TxnState}
use Rattle.hv_meta.specs.declared.facts.TxnState.TheVariants as standing
use Rattle.hv_meta.specs.States.{state_in}
use Rattle.hv_stands.specs.Reading.{table_of_name}
use Rattle.hv_stands.specs.Statements.{AllFitting}
use Rattle.hv_telling.specs.hv_house.specs.hv_finals.specs.hv_law_made.specs.Standing.{Standing, IsEncodingOf, is_live_at}
use Rattle.hv_telling.specs.hv_house.specs.hv_law_read.specs.Needs.{IsNeededBy}
use Rattle.hv_trail.specs.declared.trail.Reader.TheVariants.{Txn}
use Rattle.hv_trail.specs.Kept.{trail_of}
use Rattle.hv_trail.specs.Trail.{state_at}
use Rattle.hv_trail.specs.Steps.{HouseSeen, Call, Outcome, Read, Ask, Done, Refused, Step}
use Rattle.hv_telling.specs.hv_house.specs.declared.fault.HouseFault.{HouseFault}
use Rattle.hv_telling.specs.hv_house.specs.declared.fault.HouseFault.TheVariants as fault
use Rattle.hv_telling.specs.hv_house.specs.declared.listing.Listing.{Listing}
use Rattle.hv_telling.specs.hv_house.specs.declared.listing.ListFault.{ListFault}
use Rattle.hv_telling.specs.hv_house.specs.declared.listing.ListFault.TheVariants as list_fault
use Rattle.hv_telling.specs.hv_house.specs.declared.listing.GetFault.{GetFault}
use Rattle.hv_telling.specs.hv_house.specs.declared.listing.GetFault.TheVariants as get_fault
use Rattle.hv_telling.specs.hv_house.specs.declared.house.House.{House}
use Rattle.hv_telling.specs.hv_house.specs.Calls.{place_ended, HasEndedAt, IfOpen}
use Rattle.hv_telling.specs.hv_house.specs.House.{entries_of, book_limit, IsReady, IsFaithful, StaysPut}
use Rattle.hv_telling.specs.hv_house.specs.Seeing.{ids_in}
use Rattle.hv_telling.specs.hv_house.specs.Steps.{seen_of, fault_outcome}
use Rattle.hv_telling.specs.hv_house.specs.Listing.{info_in, AreTaken, HasSnapshotAt, IsNeeded, listing_outcome, StaysListedWithin, HasRisenListing, IsNotFound, get_outcome, StaysGot, HasRisenGetting}
use Rattle.hv_telling.specs.Telling.{IsToldHouse, IsWhole}
use Rattle.hv_telling.proofs.Told.{also-some, some-told, true-shown}
use Rattle.hv_telling.proofs.Reading.{reads-keep-whole, reads-still-open}
use Rattle.hv_acts.specs.declared.fault.ActFault.{ActFault}
use Rattle.hv_acts.specs.declared.fault.ActFault.TheVariants as act
use Rattle.hv_acts.specs.Told.{IsWholeOrClosed}
use Rattle.hv_acts.specs.Answers.{HasNotEnded}
use Rattle.hv_acts.specs.Reading.{HasFittingBook, IsReader, ReadsTable, IsUnended, FilesStand, FindStep, of_list, ListStep, IsNeededIn, IsNeededAt, sought_at, GetStep, state_then}
use Rattle.hv_acts.proofs.Steps.{book-is, moves-same, or-false, asked, whole-keeps, keeps-behind, same-start}
use Rattle.hv_acts.proofs.Leaves.{held-leaves, rises-by}

-- ---- what a ready house has

module _ {D : Type 0} (told : D → Option Store) (house : House D) where
  pub fitting-book : IsReady told house → HasFittingBook (trail_of house.trail)
  fitting-book ready = record {
    fit = subst AllFitting (sym (book-is house)) ready.fit;
    few = subst (λ (book : List Entry). length book ≤ book_limit) (sym (book-is house)) ready.kept.few;
  }

  needed-book : (by : TxnId) (place : Place) (deletes : Bool) (recs : List Rec) → IsNeededAt (told house.shelf) (trail_of house.trail) by place deletes recs
      → IsNeeded told house by place deletes recs
  needed-book by place deletes recs needed = record {
    stands = subst (λ (book : List Entry). Tells (told house.shelf) (λ s. Standing (state_of book) s.tree)) (book-is house) needed.stands;
    unended = subst (λ (book : List Entry). Of (state_of book) by.0 (λ (t : Transaction). IsTrue (is_open t))) (book-is house) needed.is.unended;
    live = subst (λ (book : List Entry). is_live_at (state_of book) place ≡ true) (book-is house) needed.is.live;
    needed = subst (λ (book : List Entry). IsNeededBy (state_of book) by.0 place deletes recs) (book-is house) needed.is.needed;
  }

  -- where it is told, its files stand
  files-stand : IsWhole told house → FilesStand told (seen_of house)
  files-stand whole is =
      also-some (IsFaithful (entries_of house)) (λ s. Standing (state_at (trail_of house.trail)) s.tree) (told house.shelf)
      (λ s faithful. subst (λ (book : List Entry). Standing (state_of book) s.tree) (sym (book-is house)) faithful.stands) (true-shown told house (whole.truly is))

-- ---- a transaction that reads

not-ended : (s : TxnState) → ((at : ℕ) → place_ended s ≡ Some at → ⊥) → HasNotEnded s
not-ended standing.Unknown never = tt
not-ended (standing.Running started) never = tt
not-ended (standing.Ended at) never = absurd (never at refl)

ended-so : (s : TxnState) (at : ℕ) → place_ended s ≡ Some at → s ≡ standing.Ended at
ended-so standing.Unknown at e = cc
ended-so (standing.Running started) at e = cc
ended-so (standing.Ended place) at e = let same : place ≡ at = cc in ap (λ (n : ℕ). standing.Ended n) same

some-open : (o : Option Transaction) (P Q : Transaction → Type 0) → ((t : Transaction) → P t → Q t) → IsSomeAnd o P → IsSomeAnd o (λ t. IsTrue (is_open t) → Q t)
some-open None P Q f is = absurd is
some-open (Some t) P Q f is = λ unended. f t is

module _ {D : Type 0} (house : House D) (by : TxnId) where
  pub unended-of : ((at : ℕ) → HasEndedAt (entries_of house) by.0 at → ⊥) → IsUnended (trail_of house.trail) by
  unended-of never =
      subst (λ (book : List Entry). HasNotEnded (state_in (state_of book) by.0)) (sym (book-is house)) (not-ended (state_in (state_of (entries_of house)) by.0) never)

  ended-of : (at : ℕ) → HasEndedAt (entries_of house) by.0 at → state_in (state_at (trail_of house.trail)) by.0 ≡ standing.Ended at
  ended-of at ended =
      subst (λ (book : List Entry). state_in (state_of book) by.0 ≡ standing.Ended at) (sym (book-is house))
      (ended-so (state_in (state_of (entries_of house)) by.0) at ended)

  -- its files may be listed
  pub can-list : (place table : ℕ) → ReadsTable (trail_of house.trail) by place table → IfOpen (state_of (entries_of house)) by.0 (HasSnapshotAt place)
  can-list place table reads =
      subst (λ (book : List Entry). IfOpen (state_of book) by.0 (HasSnapshotAt place)) (book-is house)
      (some-open (numbered (state_at (trail_of house.trail)).transactions by.0) (IsReader place (state_then (trail_of house.trail) place).tables reads.name)
      (HasSnapshotAt place) (λ t is. record { snapshot = is.snapshot; taken = is.taken; place_is = is.place_is }) reads.reader.reads)

-- ---- a table that is found

module _ {D : Type 0} (told : D → Option Store) (faults : D → ℕ) where
  pub answered : (seen : HouseSeen D) → Step told faults Ask Done seen seen
  answered seen = record {
    may = tt;
    trail = sym (append-nil seen.trail);
    store = moves-same (told seen.shelf) _ (λ s. refl);
    closed = or-false seen.closed;
    starved = refl;
    shut_out = λ shut. tt;
    counts = omega arith;
    rest = record { start = refl; opened = refl; limits = refl };
  }

  pub find-done : (place : ℕ) (name : List ℕ) (found : Option TableInfo) (house : House D) → IsReady told house
      → found ≡ option_map info_in (table_of_name name (state_of (take place (entries_of house))).tables) → FindStep told faults place name house (Ok found)
  find-done place name found house ready is = record {
    step = answered (seen_of house);
    answers = record {
      running = ready.kept.running;
      book = fitting-book told house ready;
      found_is = subst (λ (book : List Entry). found ≡ option_map info_in (table_of_name name (state_of (take place book)).tables)) (sym (book-is house)) is;
    };
  }

  pub find-lacks : (place : ℕ) (name : List ℕ) (house : House D) → IsReady told house → FindStep told faults place name house (Err (act.House fault.NoMemory))
  find-lacks place name house ready = record { step = asked told faults (seen_of house); answers = ready.kept.running }

-- ---- what a read leaves

-- what is told has what all that is told has
tells-some : (o : Option Store) (P : Type 0) (Q : Store → Type 0) → IsSomeAnd o Q → Tells o (λ s. P) → P
tells-some None P Q some tells = absurd some
tells-some (Some s) P Q some tells = tells

-- no answer says that it has ended
ok-never : {T : Type 0} (x : T) (why : ListFault) (P : Type 0) → IsErrOf (Ok x) why ↔ P → P → ⊥
ok-never x why P iff p = let never : Ok x ≡ Err why = iff.1 p in cc

got-never : {T : Type 0} (x : T) (why : GetFault) (P : Type 0) → IsErrOf (Ok x) why ↔ P → P → ⊥
got-never x why P iff p = let never : Ok x ≡ Err why = iff.1 p in cc

missed-never : {T : Type 0} (at : ℕ) (P : Type 0) → IsErrOf {T = T} (Err get_fault.NotFound) (get_fault.NotOpen at) ↔ P → P → ⊥
missed-never {T = T} at P iff p =
    let never : IsErrOf {T = T} (Err get_fault.NotFound) (get_fault.NotOpen at) = iff.1 p in
    let same : get_fault.NotFound ≡ get_fault.NotOpen at = cc in
    cc

module _ {D : Type 0} (told : D → Option Store) (faults : D → ℕ) (by : TxnId) where
  abbrev call : Call
  call = Read (Some (Txn by))

  told-needed : (house : House D) (place : Place) (deletes : Bool) (recs : List Rec) → IsWhole told house → IsToldHouse told house
      → IsNeededIn (trail_of house.trail) by place deletes recs → IsNeededAt (told house.shelf) (trail_of house.trail) by place deletes recs
  told-needed house place deletes recs whole is here = record {
    stands = some-told (λ (s : Store). Standing (state_at (trail_of house.trail)) s.tree) (told house.shelf) (files-stand told house whole is);
    is = here;
  }

  keeps-ready : (outcome : Outcome) (before now : House D) → IsWhole told before → IsReady told now → Step told faults call outcome (seen_of before) (seen_of now)
      → IsWholeOrClosed told now
  keeps-ready outcome before now was ready step = whole-keeps told now (reads-keep-whole told faults (Some (Txn by)) outcome before now was step ready)

  keeps-read : (why : HouseFault) (before now : House D) → IsWhole told before → StaysPut told why now
      → Step told faults call (fault_outcome why) (seen_of before) (seen_of now) → IsWholeOrClosed told now
  keeps-read fault.Store before now was stays step =
      keeps-behind told before now fault.Store was tt (reads-still-open told faults (Some (Txn by)) (fault_outcome fault.Store) before now was step)
      (same-start told faults call (fault_outcome fault.Store) before now step) step.closed
  keeps-read fault.NoMemory before now was stays step = keeps-ready (fault_outcome fault.NoMemory) before now was stays step
  keeps-read (fault.Failed count) before now was stays step = keeps-ready (fault_outcome (fault.Failed count)) before now was stays step

  -- ---- the files of a table

  pub list-done : (place : ℕ) (table : TableId) (listing : Listing) (before now : House D) → IsWhole told before → IsReady told now
      → ((at : ℕ) → IsErrOf (Ok listing) (list_fault.NotOpen at) ↔ HasEndedAt (entries_of before) by.0 at)
      → listing.list ≡ ids_in (state_of (take place (entries_of before))) table.0
      → Tells (told before.shelf) (λ s. AreTaken table listing.list s.tree listing.inserts.items listing.deletes.items)
      → Step told faults call Done (seen_of before) (seen_of now) → ListStep told faults (record { by = by; place = place; table = table }) before now
      (Ok listing)
  list-done place table listing before now was ready ends list files step = record {
    keeps = keeps-ready Done before now was ready step;
    step = step;
    answers = record {
      book = fitting-book told before was.ready;
      unended = unended-of before by (λ at. ok-never listing (list_fault.NotOpen at) (HasEndedAt (entries_of before) by.0 at) (ends at));
      list = subst (λ (book : List Entry). listing.list ≡ ids_in (state_of (take place book)) table.0) (sym (book-is before)) list;
      files = files;
      stand = files-stand told before was;
    };
    leaves = was.ready.kept.running;
    rises = tt;
  }

  abbrev EndsSo : ListFault → House D → Type 0
  EndsSo why before = (at : ℕ) → IsErrOf {T = Listing} (Err why) (list_fault.NotOpen at) ↔ HasEndedAt (entries_of before) by.0 at

  pub list-failed : (place : ℕ) (table : TableId) (why : ListFault) (before now : House D) → IsWhole told before → entries_of now ≡ entries_of before
      → StaysListedWithin profile told why now → HasRisenListing (faults before.shelf) (faults now.shelf) why → EndsSo why before
      → Step told faults call (listing_outcome why) (seen_of before) (seen_of now)
      → ListStep told faults (record { by = by; place = place; table = table }) before now (Err (of_list why))
  list-failed place table (list_fault.NotOpen at) before now was same stays risen ends step = record {
    keeps = keeps-ready Refused before now was stays step;
    step = step;
    answers = ended-of before by at ((ends at).0 refl);
    leaves = was.ready.kept.running;
    rises = tt;
  }
  list-failed place table (list_fault.House why) before now was same stays risen ends step = record {
    keeps = keeps-read why before now was stays step;
    step = step;
    answers = tt;
    leaves = held-leaves told faults by.0 why before now was.ready.kept.running same stays risen;
    rises = rises-by faults (seen_of before) (faults now.shelf) why risen;
  }

  -- as the act answers it
  pub list-refused : (place : ℕ) (table : TableId) (why : ListFault) (answer : ActFault) (before now : House D) → answer ≡ of_list why
      → ListStep told faults (record { by = by; place = place; table = table }) before now (Err (of_list why))
      → ListStep told faults (record { by = by; place = place; table = table }) before now (Err answer)
  list-refused place table why answer before now is step =
      subst (λ (w : ActFault). ListStep told faults (record { by = by; place = place; table = table }) before now (Err w)) (sym is) step

  -- ---- the bytes of a file

  pub get-step : (place : Place) (result : Result (Vec ℕ) GetFault) (before now : House D) → IsWhole told before
      → IfOk result (λ (found : Vec ℕ). Tells (told before.shelf) (λ s. tree.get s.tree place ≡ Some found.items))
      → IfErr result (λ why. IsNotFound why → Tells (told before.shelf) (λ s. tree.get s.tree place ≡ None))
      → ((deletes : Bool) (recs : List Rec) → IsNeeded told before by place deletes recs
      → IfOk result (λ (found : Vec ℕ). Tells (told before.shelf) (λ s. IsEncodingOf deletes place.bucket recs found.items)))
      → ((deletes : Bool) (recs : List Rec) → IsNeeded told before by place deletes recs
      → IfErr result (λ why. IsNotFound why → Tells (told before.shelf) (λ s. ⊥)))
      → ((at : ℕ) → IsErrOf result (get_fault.NotOpen at) ↔ HasEndedAt (entries_of before) by.0 at)
      → IfOk result (λ (found : Vec ℕ). IsReady told now) → IfErr result (λ why. StaysGot told why now)
      → entries_of now ≡ entries_of before → IfErr result (HasRisenGetting (faults before.shelf) (faults now.shelf))
      → Step told faults call (get_outcome result) (seen_of before) (seen_of now) → GetStep told faults (sought_at by place) before now result
  get-step place (Ok found) before now was bytes none needed missed ends ready stays same risen step = record {
    keeps = keeps-ready Done before now was ready step;
    step = step;
    answers = record {
      book = fitting-book told before was.ready;
      unended = unended-of before by (λ at. got-never found (get_fault.NotOpen at) (HasEndedAt (entries_of before) by.0 at) (ends at));
      bytes = bytes;
      needed = λ deletes recs is. needed deletes recs (needed-book told before by place deletes recs is);
      stand = files-stand told before was;
      truly = λ is deletes recs here.
          tells-some (told before.shelf) (IsEncodingOf deletes place.bucket recs found.items) (λ s. Standing (state_at (trail_of before.trail)) s.tree) (files-stand told before was is)
          (needed deletes recs (needed-book told before by place deletes recs (told-needed before place deletes recs was is here)));
    };
    leaves = was.ready.kept.running;
    rises = tt;
  }
  get-step place (Err (get_fault.NotOpen at)) before now was bytes none needed missed ends ready stays same risen step = record {
    keeps = keeps-ready Refused before now was stays step;
    step = step;
    answers = ended-of before by at ((ends at).0 refl);
    leaves = was.ready.kept.running;
    rises = tt;
  }
  get-step place (Err get_fault.NotFound) before now was bytes none needed missed ends ready stays same risen step = record {
    keeps = keeps-ready Done before now was stays step;
    step = step;
    answers = record {
      book = fitting-book told before was.ready;
      unended = unended-of before by (λ at. missed-never {T = Vec ℕ} at (HasEndedAt (entries_of before) by.0 at) (ends at));
      none = none tt;
      unneeded = λ deletes recs is. missed deletes recs (needed-book told before by place deletes recs is) tt;
      stand = files-stand told before was;
      truly = λ is deletes recs here.
          tells-some (told before.shelf) ⊥ (λ s. Standing (state_at (trail_of before.trail)) s.tree) (files-stand told before was is)
          (missed deletes recs (needed-book told before by place deletes recs (told-needed before place deletes recs was is here)) tt);
    };
    leaves = was.ready.kept.running;
    rises = tt;
  }
  get-step place (Err (get_fault.House why)) before now was bytes none needed missed ends ready stays same risen step = record {
    keeps = keeps-read why before now was stays step;
    step = step;
    answers = tt;
    leaves = held-leaves told faults by.0 why before now was.ready.kept.running same stays risen;
    rises = rises-by faults (seen_of before) (faults now.shelf) why risen;
  }
