-- What acts add to a told house is true where it is added.
use Rattle.std.proofs.Common.{◌≡◌, inl, inr, ℕ, ◌+◌, ◌≤◌, true, false, is_none, Option, Some, None, List, [], ◌∷◌, ◌++◌, length, take, refl, sym, ap, ◌∙◌, subst, append-nil, arith}
use Rattle.std.specs.Prelude.{IsSomeAnd, IsTrue}
use Rattle.std.specs.List.{slice_get, AllByRecursion}
use Rattle.std.proofs.lemmas.List.{length-append}
use Rattle.hv_base.specs.declared.ids.TxnId.{TxnId}
use Rattle.hv_base.specs.declared.ids.TableId.{TableId}
use Rattle.hv_base.specs.declared.ids.Touch.{Touch}
use Rattle.hv_shelf.specs.declared.place.Place.{Place}
use Rattle.hv_ast.specs.declared.statement.Stmt.{Stmt}
use Rattle.hv_logic.specs.declared.meaning.Meaning.{Meaning}
use Rattle.hv_logic.specs.declared.meaning.Meaning.TheVariants.{Refused, Listing, Change, Make, Unmake, Ask, Plain, Twice, RowLimit, PartitionLimit}
use Rattle.hv_route.specs.declared.files.OutFile.{OutFile}
use Rattle.hv_route.specs.Routes.{files_of}
use Rattle.hv_route.specs.Touching.{touches_of}
use Rattle.hv_book.specs.Briefs.{given_at}
use Rattle.hv_history.specs.declared.entry.Entry.{Entry}
use Rattle.hv_history.specs.declared.entry.Entry.TheVariants as entry
use Rattle.hv_history.specs.declared.entry.Cause.{Cause}
use Rattle.hv_history.specs.declared.entry.Cause.TheVariants as cause
use Rattle.hv_history.specs.declared.state.Ending.{Ending}
use Rattle.hv_history.specs.declared.state.Transaction.{Transaction}
use Rattle.hv_history.specs.State.{numbered, meaning, State}
use Rattle.hv_built.specs.Running as built
use Rattle.hv_history.specs.Asking.{numbers_in, is_asked, first_asked}
use Rattle.hv_history.specs.Legal.{IsRunning, CommitFits, is_touched, IsTruthful, TouchesAreMeant, HasAsked, CommitIsTrue, CauseIsTrue, IsMake, NeedsRoom, IsRefusedAs, ConflictIsTrue, IsFirstConflict, place_of_snapshot, Of}
use Rattle.hv_history.specs.JobsTrue.{ask_of, asks_by, was_busy, AsksNow, IsAskedFor}
use Rattle.hv_stands.specs.Files.{place_of_file}
use Rattle.hv_history.proofs.AskingLaws.{none-left}
use Rattle.hv_stands.specs.Running.{Asking, meant, snapshot_at, running, IsUnderWay}
use Rattle.hv_trail.specs.declared.trail.Reader.TheVariants.{Txn}
use Rattle.hv_trail.specs.declared.trail.TrailItem.{TrailItem}
use Rattle.hv_trail.specs.Trail.{book_of, state_at, HasWritten}
use Rattle.hv_trail.specs.Kept.{trail_of}
use Rattle.hv_telling.specs.hv_house.specs.declared.house.House.{House}
use Rattle.hv_telling.specs.hv_house.specs.House.{entries_of}
use Rattle.hv_telling.specs.Telling.{IsTrueNow, IsMeantFile}
use Rattle.hv_acts.specs.Answers.{EntryFits}
use Rattle.hv_acts.specs.Putting.{Runs}
use Rattle.hv_acts.specs.declared.compacting.AskFor.{AskFor}
use Rattle.hv_acts.specs.Compacting.{ask_in, is_busy_then, IsJobDue}
use Rattle.hv_acts.specs.Committing.{IsConflict, WerePut}
use Rattle.hv_acts.specs.Passing.{opened_then, AllPassed, HasAskedAll, is_asking}
use Rattle.hv_acts.specs.Meant.{MeansNow, HasMeant, HasAtMost, places_of_files, IsFileMeant, IsCommitDue, IsMakeMeant, IsDropMeant, IsAbortDue, IsCauseTrue, TouchesNothing}
use Rattle.hv_acts.proofs.Steps.{book-is}
use Rattle.hv_acts.proofs.Meant.{IsOnWay, on-way}
use Rattle.hv_acts.proofs.Passed.{passed-now, stood-now}

-- ---- it has asked for all aborts that its text lists

abbrev AsksNone : List TrailItem → TxnId → ℕ → Stmt → Meaning → Type 0
AsksNone trail txn place said Plain =
    first_asked (state_at trail).transactions txn.0 (opened_then trail place) (numbers_in (Some said)) ≡ None
AsksNone trail txn place said (Ask table partition kind) = was_busy (state_at trail) place (ask_of table partition kind) ≡ true
AsksNone trail txn place said means = Unit {0}

all-passed-now : (trail : List TrailItem) (txn : TxnId) (place : ℕ) (numbers : List ℕ) → AllPassed trail txn place numbers
    → AllByRecursion (λ (n : ℕ). is_asked (state_at trail).transactions txn.0 (opened_then trail place) n ≡ false) numbers
all-passed-now trail txn place [] passed = tt
all-passed-now trail txn place (n ∷ numbers) passed = (passed-now trail txn place n passed.0, all-passed-now trail txn place numbers passed.1)

asked-now : (trail : List TrailItem) (txn : TxnId) (place : ℕ) (said : Stmt) (means : Meaning) → HasAskedAll trail txn place said means
    → AsksNone trail txn place said means
asked-now trail txn place said Plain asked =
    none-left (state_at trail).transactions txn.0 (opened_then trail place) (numbers_in (Some said)) (all-passed-now trail txn place (numbers_in (Some said)) asked)
asked-now trail txn place said (Ask table partition kind) asked = stood-now trail place (ask_of table partition kind) asked
asked-now trail txn place said (Refused why) asked = tt
asked-now trail txn place said (Listing names rows) asked = tt
asked-now trail txn place said (Change info effect) asked = tt
asked-now trail txn place said (Make shape) asked = tt
asked-now trail txn place said (Unmake table) asked = tt
asked-now trail txn place said (Twice partition row) asked = tt
asked-now trail txn place said RowLimit asked = tt
asked-now trail txn place said PartitionLimit asked = tt

asks-none : (trail : List TrailItem) (txn : TxnId) (asking : Asking) (place : ℕ) (said : Stmt) → built.Runs asking.text said → (means : Meaning) (given : List (ℕ × ℕ))
    (m : Option Meaning) → AsksNone trail txn place said means
    → HasAsked (state_at trail) txn.0 (running asking m (snapshot_at (book_of trail) place) given) (Some means)
asks-none trail txn asking place said runs Plain given m asks =
    ap (λ (tree : Option Stmt). first_asked (state_at trail).transactions txn.0 (opened_then trail place) (numbers_in tree)) runs.read ∙ asks
asks-none trail txn asking place said runs (Ask table partition kind) given m asks = asks
asks-none trail txn asking place said runs (Refused why) given m asks = tt
asks-none trail txn asking place said runs (Listing names rows) given m asks = tt
asks-none trail txn asking place said runs (Change info effect) given m asks = tt
asks-none trail txn asking place said runs (Make shape) given m asks = tt
asks-none trail txn asking place said runs (Unmake table) given m asks = tt
asks-none trail txn asking place said runs (Twice partition row) given m asks = tt
asks-none trail txn asking place said runs RowLimit given m asks = tt
asks-none trail txn asking place said runs PartitionLimit given m asks = tt

-- one that comes to something else has nothing to ask for
no-ask : (s : State) (own : ℕ) (t : Transaction) (m : Meaning) → is_asking m ≡ false → HasAsked s own t (Some m)
no-ask s own t Plain e = cc
no-ask s own t (Ask table partition kind) e = cc
no-ask s own t (Refused why) e = tt
no-ask s own t (Listing names rows) e = tt
no-ask s own t (Change info effect) e = tt
no-ask s own t (Make shape) e = tt
no-ask s own t (Unmake table) e = tt
no-ask s own t (Twice partition row) e = tt
no-ask s own t RowLimit e = tt
no-ask s own t PartitionLimit e = tt

-- ---- the marks of its files

of-places : (P : Place → Type 0) (table write : ℕ) (files : List OutFile) → AllByRecursion P (places_of_files table write files)
    → AllByRecursion (λ file. P (place_of_file table write file)) files
of-places P table write [] all = tt
of-places P table write (file ∷ files) all = (all.0, of-places P table write files all.1)

pub files-written : (trail : List TrailItem) (txn : TxnId) (table write : ℕ) (files : List OutFile) (places : List Place) → places ≡ places_of_files table write files
    → WerePut trail txn places → AllByRecursion (λ file. HasWritten trail (Txn txn) (place_of_file table write file)) files
files-written trail txn table write files places are put =
    of-places (HasWritten trail (Txn txn)) table write files (subst (AllByRecursion (HasWritten trail (Txn txn))) are put)

-- ---- it is open

is-open : (t : Transaction) → IsRunning t → t.ending ≡ None
is-open t runs = by t.ending refl
  where
    by : (o : Option Ending) → t.ending ≡ o → o ≡ None
    by None e = refl
    by (Some ending) e = let never : is_none (Some ending) ≡ true = ap is_none (sym e) ∙ runs.unended in cc

record IsHere (trail : List TrailItem) (txn : TxnId) : Type 0 where
  t : Transaction
  here : numbered (state_at trail).transactions txn.0 ≡ Some t
  unended : t.ending ≡ None

running-here : (trail : List TrailItem) (txn : TxnId) → Runs trail txn → IsHere trail txn
running-here trail txn runs = by (numbered (state_at trail).transactions txn.0) refl runs
  where
    by : (o : Option Transaction) → numbered (state_at trail).transactions txn.0 ≡ o → IsSomeAnd o IsRunning → IsHere trail txn
    by None e is = absurd is
    by (Some t) e is = record { t = t; here = e; unended = is-open t is }

module _ (trail : List TrailItem) (txn : TxnId) (runs : Runs trail txn) where
  -- it is under way
  abbrev way : (given : List (ℕ × ℕ)) (means : Meaning) → HasMeant trail txn given means → IsOnWay (book_of trail) txn given means (running-here trail txn runs).t
  way given means has =
      let here = running-here trail txn runs in
      on-way trail txn given means here.t has here.here here.unended

  -- and has just its write ids
  abbrev just-by : (given ids : List (ℕ × ℕ)) (means : Meaning) (t : Transaction) (on : IsOnWay (book_of trail) txn given means t) → on.ids ≡ ids → ids ≡ [] → MeansNow trail txn given means
  just-by given ids means t on same none = record {
    asking = on.asking;
    place = on.place;
    said = on.said;
    under_way =
        subst (IsUnderWay (book_of trail) on.asking txn.0 on.place on.said)
        (ap (λ (more : List (ℕ × ℕ)). given ++ more) (same ∙ none) ∙ append-nil given) on.under_way;
    means_it = on.means_it;
  }

  none-longer : (ids : List (ℕ × ℕ)) → length ids ≤ 0 → ids ≡ []
  none-longer [] short = refl
  none-longer (x ∷ ids) short = let never : length (x ∷ ids) ≡ 0 = omega (arith, short) in cc

  -- no more than it was given
  pub just-given : (given : List (ℕ × ℕ)) (means : Meaning) → HasMeant trail txn given means → HasAtMost trail txn (length given) → MeansNow trail txn given means
  just-given given means has most =
      let on = way given means has in
      let count : length (given_at (numbered (state_at trail).transactions txn.0)) ≡ length given + length on.ids =
      ap (λ (o : Option Transaction). length (given_at o)) on.under_way.here ∙ length-append given on.ids in
      just-by given on.ids means _ on refl (none-longer on.ids (omega (arith, count, most)))

  -- ---- a file

  pub file-true : (place : Place) (file : OutFile) → HasAtMost trail txn 1 → IsFileMeant trail txn place file → IsMeantFile (book_of trail) txn place file
  file-true place file most is =
      let just = just-given ((is.info.table.0, is.write) ∷ []) (Change is.info is.effect) is.change most in
      record {
        asking = just.asking;
        at = just.place;
        said = just.said;
        info = is.info;
        effect = is.effect;
        write = is.write;
        under_way = just.under_way;
        means = just.means_it;
        is_one = is.is_one;
        place_is = is.place_is;
      }

  -- ---- an entry

  -- what is true of what it means is true of what its transaction means
  meaning-here : (given : List (ℕ × ℕ)) (means : Meaning) (P : Option Meaning → Type 0) → MeansNow trail txn given means → P (Some means)
      → IsSomeAnd (numbered (state_at trail).transactions txn.0) (λ (t : Transaction). P (meaning t))
  meaning-here given means P just is =
      subst (λ (o : Option Transaction). IsSomeAnd o (λ (t : Transaction). P (meaning t))) (sym just.under_way.here) (subst P (sym just.means_it) is)

  pub make-true : (table : TableId) → HasAtMost trail txn 0 → IsMakeMeant trail txn → IsTrueNow (book_of trail) trail (entry.Create txn table)
  make-true table most is =
      let just = just-given [] (Make is.shape) is.make most in (
        meaning-here [] (Make is.shape) IsMake just tt,
        record { asking = just.asking; place = just.place; said = just.said; under_way = just.under_way },
      )

  pub drop-true : (table : TableId) → HasAtMost trail txn 0 → IsDropMeant trail txn table → IsTrueNow (book_of trail) trail (entry.Drop txn table)
  drop-true table most is =
      let just = just-given [] (Unmake table) is most in (
        meaning-here [] (Unmake table) (λ m. m ≡ Some (Unmake table)) just refl,
        record { asking = just.asking; place = just.place; said = just.said; under_way = just.under_way },
      )

  -- it has asked for all: where it comes to something else, and where nothing is touched
  abbrev HasAskedHere : Type 0
  HasAskedHere = Of (state_at trail) txn.0 (λ (t : Transaction). HasAsked (state_at trail) txn.0 t (meaning t))

  asked-as : (given : List (ℕ × ℕ)) (means : Meaning) (t : Transaction) (on : IsOnWay (book_of trail) txn given means t)
      → HasAsked (state_at trail) txn.0
      (running on.asking (meant (take on.place (book_of trail)) on.said) (snapshot_at (book_of trail) on.place) (given ++ on.ids)) (Some means) → HasAskedHere
  asked-as given means t on asks =
      let now : Transaction = running on.asking (meant (take on.place (book_of trail)) on.said) (snapshot_at (book_of trail) on.place) (given ++ on.ids) in
      subst (λ (o : Option Transaction). IsSomeAnd o (λ (u : Transaction). HasAsked (state_at trail) txn.0 u (meaning u))) (sym on.under_way.here)
      (subst (HasAsked (state_at trail) txn.0 now) (sym on.means_it) asks)

  pub asked-other : (given : List (ℕ × ℕ)) (means : Meaning) → HasMeant trail txn given means → is_asking means ≡ false → HasAskedHere
  asked-other given means has other =
      let on = way given means has in
      let now : Transaction = running on.asking (meant (take on.place (book_of trail)) on.said) (snapshot_at (book_of trail) on.place) (given ++ on.ids) in
      asked-as given means _ on (no-ask (state_at trail) txn.0 now means other)

  pub asked-here : (wrote : List Touch) → TouchesNothing trail txn wrote → HasAskedHere
  asked-here wrote is =
      let on = way [] is.means is.meant_it in
      asked-as [] is.means _ on
      (asks-none trail txn on.asking on.place on.said on.under_way.runs is.means on.ids (meant (take on.place (book_of trail)) on.said)
      (asked-now trail txn on.place on.said is.means is.asked))

  -- so is its commit, once it has asked for all aborts that it lists
  commits-here : (wrote : List Touch) (means : Meaning) (given : List (ℕ × ℕ)) (just : MeansNow trail txn given means) → TouchesAreMeant wrote (Some means)
      → AsksNone trail txn just.place just.said means
      → IsSomeAnd (numbered (state_at trail).transactions txn.0) (CommitIsTrue (state_at trail) txn.0 wrote)
  commits-here wrote means given just are asks =
      let t : Transaction = running just.asking (meant (take just.place (book_of trail)) just.said) (snapshot_at (book_of trail) just.place) given in
      subst (λ (o : Option Transaction). IsSomeAnd o (CommitIsTrue (state_at trail) txn.0 wrote)) (sym just.under_way.here) (record {
        touches = subst (TouchesAreMeant wrote) (sym just.means_it) are;
        asked =
            subst (HasAsked (state_at trail) txn.0 t) (sym just.means_it)
            (asks-none trail txn just.asking just.place just.said just.under_way.runs means given (meant (take just.place (book_of trail)) just.said) asks);
      })

  -- what touches nothing has no write id where it fits
  unused : (ids : List (ℕ × ℕ)) (wrote : List Touch) → wrote ≡ [] → AllByRecursion (λ given. IsTrue (is_touched wrote given)) ids → ids ≡ []
  unused [] wrote none used = refl
  unused (x ∷ ids) wrote none used = let never : is_touched [] x ≡ true = ap (λ (ts : List Touch). is_touched ts x) (sym none) ∙ used.0 in cc

  abbrev just-none : (wrote : List Touch) (means : Meaning) → HasMeant trail txn [] means → wrote ≡ [] → EntryFits trail (entry.Commit txn wrote) → MeansNow trail txn [] means
  just-none wrote means has none fits =
      let on = way [] means has in
      let fit = subst (λ (o : Option Transaction). IsSomeAnd o (CommitFits (state_at trail) wrote)) on.under_way.here fits in
      just-by [] on.ids means _ on refl (unused on.ids wrote none fit.used)

  pub commit-true : (wrote : List Touch) (places : List Place) → HasAtMost trail txn 1 → EntryFits trail (entry.Commit txn wrote) → WerePut trail txn places
      → IsCommitDue trail txn wrote places → IsTrueNow (book_of trail) trail (entry.Commit txn wrote)
  commit-true wrote places most fits put (inl is) =
      let just = just-none wrote is.means is.meant_it is.none fits in (
        commits-here wrote is.means [] just is.touches (asked-now trail txn just.place just.said is.means is.asked),
        inl (record { asking = just.asking; place = just.place; said = just.said; under_way = just.under_way }),
      )
  commit-true wrote places most fits put (inr is) =
      let just = just-given ((is.info.table.0, is.write) ∷ []) (Change is.info is.effect) is.change most in (
        commits-here wrote (Change is.info is.effect) ((is.info.table.0, is.write) ∷ []) just is.touches tt,
        inr (record {
          asking = just.asking;
          place = just.place;
          said = just.said;
          info = is.info;
          effect = is.effect;
          write = is.write;
          under_way = just.under_way;
          means = just.means_it;
          files = files-written trail txn is.info.table.0 is.write (files_of is.info.shape is.write 0 is.effect) places is.places_are put;
          held = is.held;
          encoded = is.encoded;
        }),
      )

  -- ---- a conflict

  pub conflict-true : (wrote : List Touch) (places : List Place) (by : TxnId) (table : TableId) (partition : List ℕ) → IsCommitDue trail txn wrote places
      → IsConflict trail txn wrote by table partition → IsTruthful (state_at trail) (entry.Abort txn (cause.Conflict by table partition))
  conflict-true wrote places by table partition (inl is) met =
      let never : slice_get [] met.clash.at ≡ Some met.is.touch = ap (λ (ts : List Touch). slice_get ts met.clash.at) (sym is.none) ∙ met.is.found in cc
  conflict-true wrote places by table partition (inr is) met =
      let on = way ((is.info.table.0, is.write) ∷ []) (Change is.info is.effect) is.change in
      let first =
      subst (λ (ts : List Touch). IsFirstConflict (state_at trail) (place_of_snapshot met.is.t.snapshot) ts met.clash.by.0 met.is.touch.table.0 met.is.touch.partition)
      is.touches met.is.conflict in
      let named : IsFirstConflict (state_at trail) (place_of_snapshot met.is.t.snapshot) (touches_of is.info is.effect) by.0 table.0 partition =
      subst (λ (b : TxnId). IsFirstConflict (state_at trail) (place_of_snapshot met.is.t.snapshot) (touches_of is.info is.effect) b.0 table.0 partition) (sym met.by_is)
      (subst (λ (n : TableId). IsFirstConflict (state_at trail) (place_of_snapshot met.is.t.snapshot) (touches_of is.info is.effect) met.clash.by.0 n.0 partition) (sym met.table_is)
      (subst (IsFirstConflict (state_at trail) (place_of_snapshot met.is.t.snapshot) (touches_of is.info is.effect) met.clash.by.0 met.is.touch.table.0) (sym met.partition_is) first)) in
      let both : Some met.is.t ≡ Some (running on.asking (meant (take on.place (book_of trail)) on.said) (snapshot_at (book_of trail) on.place) (((is.info.table.0, is.write) ∷ []) ++ on.ids)) =
      sym met.is.is ∙ on.under_way.here in
      let same : meaning met.is.t ≡ Some (Change is.info is.effect) = ap (λ (o : Option Transaction). meaning-of o) both ∙ on.means_it in
      subst (λ (o : Option Transaction). IsSomeAnd o (λ (t : Transaction). ConflictIsTrue (state_at trail) by.0 table.0 partition t (meaning t))) (sym met.is.is)
      (subst (ConflictIsTrue (state_at trail) by.0 table.0 partition met.is.t) (sym same) named)
    where
      meaning-of : Option Transaction → Option Meaning
      meaning-of None = None
      meaning-of (Some t) = meaning t

-- ---- another abort

fits-here : (o : Option Transaction) (P : Transaction → Type 0) → IsSomeAnd o P → IsSomeAnd o (λ t. Unit {0})
fits-here None P fits = fits
fits-here (Some t) P fits = tt

-- it means what it meant, whatever write ids it has
meant-here : (trail : List TrailItem) (txn : TxnId) (means : Meaning) (P : Option Meaning → Type 0) → Runs trail txn → HasMeant trail txn [] means → P (Some means)
    → IsSomeAnd (numbered (state_at trail).transactions txn.0) (λ (t : Transaction). P (meaning t))
meant-here trail txn means P runs has is =
    let on = way trail txn runs [] means has in
    subst (λ (o : Option Transaction). IsSomeAnd o (λ (t : Transaction). P (meaning t))) (sym on.under_way.here) (subst P (sym on.means_it) is)

pub abort-true : (trail : List TrailItem) (txn : TxnId) (why : Cause) → EntryFits trail (entry.Abort txn why) → IsAbortDue trail txn why → IsCauseTrue trail txn why
abort-true trail txn (cause.Refused number) fits is = meant-here trail txn (Refused is.0) (IsRefusedAs number) fits is.2 is.1
abort-true trail txn cause.RowLimit fits is = meant-here trail txn RowLimit (λ m. m ≡ Some RowLimit) fits is refl
abort-true trail txn cause.PartitionLimit fits is = meant-here trail txn PartitionLimit (λ m. m ≡ Some PartitionLimit) fits is refl
abort-true trail txn cause.Memory fits is = fits-here (numbered (state_at trail).transactions txn.0) _ fits
abort-true trail txn (cause.ReadFault count) fits is = fits-here (numbered (state_at trail).transactions txn.0) _ fits
abort-true trail txn (cause.WriteFault count) fits is = fits-here (numbered (state_at trail).transactions txn.0) _ fits
abort-true trail txn (cause.Damaged place) fits is = fits-here (numbered (state_at trail).transactions txn.0) _ fits
abort-true trail txn (cause.Conflict by table partition) fits is = absurd is
abort-true trail txn (cause.Request by) fits is = absurd is
abort-true trail txn cause.Full fits is = absurd is
abort-true trail txn (cause.Twice partition row) fits is = meant-here trail txn (Twice partition row) (λ m. m ≡ Some (Twice partition row)) fits is refl
abort-true trail txn (cause.Blocked holder) fits is = absurd is
abort-true trail txn cause.Lost fits is = absurd is
abort-true trail txn cause.Rollback fits is = absurd is

-- ---- a compaction

-- what is true of a transaction of that meaning, started at that place, is true of it
way-here : (trail : List TrailItem) (txn : TxnId) (means : Meaning) (P : Transaction → Type 0) → Runs trail txn → (has : HasMeant trail txn [] means)
    → ((t : Transaction) → meaning t ≡ Some means → place_of_snapshot t.snapshot ≡ has.was.place → P t) → Of (state_at trail) txn.0 P
way-here trail txn means P runs has f =
    let on = way trail txn runs [] means has in
    let t : Transaction = running on.asking (meant (take on.place (book_of trail)) on.said) (snapshot_at (book_of trail) on.place) ([] ++ on.ids) in
    subst (λ (o : Option Transaction). IsSomeAnd o P) (sym on.under_way.here) (f t on.means_it refl)

module _ (trail : List TrailItem) (asked : AskFor) (runs : Runs trail asked.by) (due : IsJobDue trail asked) (idle : is_busy_then trail asked ≡ false) where
  idle-then : (t : Transaction) → place_of_snapshot t.snapshot ≡ due.ask.was.place → was_busy (state_at trail) (place_of_snapshot t.snapshot) (ask_in asked) ≡ false
  idle-then t at = ap (λ (place : ℕ). was_busy (state_at trail) place (ask_in asked)) (at ∙ due.started) ∙ idle

  -- its statement asks for it now
  pub job-true : IsAskedFor (state_at trail) (ask_in asked) asked.by.0
  job-true =
      inr (way-here trail asked.by (Ask asked.table asked.partition asked.kind) (AsksNow (state_at trail) (ask_in asked)) runs due.ask
      (λ t is at. record { asks = ap asks_by is; now = idle-then t at }))

  -- and it is true that it lacks room for it
  pub job-lacks : IsCauseTrue trail asked.by cause.Full
  job-lacks =
      way-here trail asked.by (Ask asked.table asked.partition asked.kind) (CauseIsTrue (state_at trail) cause.Full) runs due.ask
      (λ t is at. inr (subst (NeedsRoom (state_at trail) t) (sym is) (idle-then t at)))

-- ---- a house

pub true-house : {D : Type 0} (house : House D) (event : Entry) → IsTrueNow (book_of (trail_of house.trail)) (trail_of house.trail) event
    → IsTrueNow (entries_of house) (trail_of house.trail) event
true-house house event is = subst (λ (book : List Entry). IsTrueNow book (trail_of house.trail) event) (book-is house) is

pub file-house : {D : Type 0} (house : House D) (by : TxnId) (place : Place) (file : OutFile) → IsMeantFile (book_of (trail_of house.trail)) by place file
    → IsMeantFile (entries_of house) by place file
file-house house by place file is = subst (λ (book : List Entry). IsMeantFile book by place file) (book-is house) is
