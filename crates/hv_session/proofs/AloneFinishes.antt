-- Where others do nothing, a started statement ends by entries of its own, in the order of its way, and nobody else ended it.
use Rattle.std.proofs.Common.{◌≡◌, inl, inr, ℕ, ◌<◌, Option, Some, List, [], ◌∷◌, ◌++◌, take, refl, sym, ap, ◌∙◌, subst, append-nil, append_assoc, arith, Ok, Err, Result}
use Rattle.std.specs.Prelude.{IfOk, false, nat_lt}
use Rattle.std.specs.List.{AllByRecursion}
use Rattle.std.proofs.lemmas.List.{take-append-le}
use Rattle.hv_base.specs.declared.ids.TableId.{TableId}
use Rattle.hv_base.specs.declared.ids.WriteId.{WriteId}
use Rattle.hv_shelf.specs.Disk.{Store}
use Rattle.hv_ast.specs.declared.statement.Stmt.{Stmt}
use Rattle.hv_ast.specs.declared.table.CompactionKind.{CompactionKind}
use Rattle.hv_logic.specs.declared.catalog.TableInfo.{TableInfo}
use Rattle.hv_logic.specs.declared.effect.Effect.{Effect}
use Rattle.hv_logic.specs.declared.meaning.Meaning.{Meaning}
use Rattle.hv_logic.specs.declared.meaning.Meaning.TheVariants.{Listing, Change, Make, Unmake, Refused, Twice, RowLimit, PartitionLimit, Plain, Ask}
use Rattle.hv_history.specs.declared.entry.Entry.{Entry}
use Rattle.hv_history.specs.declared.entry.Cause.{Cause}
use Rattle.hv_history.specs.declared.entry.Cause.TheVariants as cause
use Rattle.hv_history.specs.Asking.{numbers_in}
use Rattle.hv_history.specs.JobsTrue.{kind_of}
use Rattle.hv_history.specs.State.{State, nothing_yet, state_of}
use Rattle.hv_history.specs.Legal.{AllFit, profile}
use Rattle.hv_stands.specs.Laws.{changes_in}
use Rattle.hv_stands.specs.Running.{Asking, IsOf, AreOf, meant, IsUnderWay}
use Rattle.hv_stands.proofs.Begun.{ids-given}
use Rattle.hv_trail.specs.declared.trail.TrailItem.{TrailItem}
use Rattle.hv_law_next.specs.Next.{needs_id}
use Rattle.hv_law_next.specs.Order.{AllInOrder}
use Rattle.hv_beginning.specs.hv_steps.specs.hv_table_reader.specs.hv_acts.specs.hv_telling.specs.hv_house.specs.declared.fault.HouseFault.{HouseFault}
use Rattle.hv_beginning.specs.hv_steps.specs.hv_table_reader.specs.hv_acts.specs.hv_telling.specs.hv_house.specs.House.{entries_of}
use Rattle.hv_beginning.specs.hv_steps.specs.hv_table_reader.specs.hv_acts.specs.hv_telling.specs.Telling.{IsToldHouse}
use Rattle.hv_beginning.specs.hv_steps.specs.hv_table_reader.specs.hv_acts.specs.hv_telling.proofs.Told.{told-stays}
use Rattle.hv_beginning.specs.hv_steps.specs.hv_table_reader.specs.hv_acts.specs.declared.told.ToldHouse.{ToldHouse}
use Rattle.hv_beginning.specs.hv_steps.specs.hv_table_reader.specs.hv_acts.specs.Told.{IsWholeOrClosed, trail_in, book_in}
use Rattle.hv_beginning.specs.hv_steps.specs.hv_table_reader.specs.hv_acts.proofs.Steps.{book-is}
use Rattle.hv_beginning.specs.hv_steps.specs.declared.ready.Way.{Way}
use Rattle.hv_beginning.specs.hv_steps.specs.declared.ready.Ready.{Ready}
use Rattle.hv_beginning.specs.hv_steps.specs.declared.ready.Reply.{Reply}
use Rattle.hv_beginning.specs.hv_steps.specs.declared.reply.Done.{Done}
use Rattle.hv_beginning.specs.hv_steps.specs.declared.reply.Done.TheVariants as done
use Rattle.hv_beginning.specs.hv_steps.specs.declared.reply.Prepared.TheVariants as prepared
use Rattle.hv_session.specs.declared.paused.Point.{Point}
use Rattle.hv_session.specs.declared.paused.Point.TheVariants as point
use Rattle.hv_session.specs.declared.paused.Paused.{Paused}
use Rattle.hv_beginning.specs.hv_steps.specs.Ending.{aborting, giving, job_asked, IsUndamaged, AddsNoneOrOne, IsAskedBy, EndIsTrue, HasReplied}
use Rattle.hv_beginning.specs.hv_steps.specs.hv_table_reader.specs.hv_acts.specs.Meant.{IsNoEnd}
use Rattle.hv_beginning.specs.hv_steps.specs.Going.{faults_in, IsOpenHouse, AddsOwn, Gains, Goes}
use Rattle.hv_beginning.specs.hv_steps.specs.Requests.{IsAskIn}
use Rattle.hv_beginning.specs.hv_steps.specs.Phases.{EndsBehind, IsAbortFor, AbortsFor, IsUntoldDamage, NoCause, AsksJob, Prepares, PreparesAsked, PreparesTo, EndsEarlyFor, BreaksFor, GivesId, ConcludesSo, Concludes, AnswersTruly}
use Rattle.hv_session.specs.Doing.{ReadiesTo, EndsFrom, EndsAs, EndsFromPoint, Finishes}
use Rattle.hv_session.specs.Taking.{HasNone, PointIsTrue, IsHeld, IsHeldBySome, IsTrulyHeld}
use Rattle.hv_session.specs.Alone.{AddsNothing, HasGained}
use Rattle.hv_session.specs.Ways.{ActsAlone, IsOnWay, IsOwnEnd, IsFinishedAs, EndsAlone}
use Rattle.hv_beginning.specs.hv_steps.proofs.AsksMade.{asks-unended}
use Rattle.hv_beginning.specs.hv_steps.proofs.Books.{all-append, state-behind}
use Rattle.hv_beginning.specs.hv_steps.proofs.Standing.{means-still}
use Rattle.hv_session.proofs.Orders.{order-behind, aborted-in-order, ended-in-order, prepared-in-order, cut-in-order, true-to-commit, needs-no-id}
use Rattle.hv_session.proofs.Takings.{same-done, readies-unended}
use Rattle.hv_session.proofs.AloneAsks.{AsksStand, asks-stand, asks-undamaged}
use Rattle.hv_session.proofs.AloneBooks.{adds-alone}
use Rattle.hv_session.proofs.AloneStops.{parts-alone}
use Rattle.hv_session.proofs.AloneEnds.{way-runs, never-gone}
use Rattle.hv_session.proofs.AlonePrepares.{IsPlain, early-plain, breaks-plain, or-plain, IsBefore, nothing-before, id-before, job-before, all-behind}
use Rattle.hv_session.proofs.AloneConcludes.{IsCleanEnd, clean-so}
use Rattle.hv_session.proofs.JobsAsked.{job-under}
use Rattle.hv_actor.specs.Acting.{among, known}

-- ---- what it added to be ready

-- nothing, or the write id of its change, or the job that it asks for: it is under way still, and needs no more ids
record IsReadied (book : List Entry) (asking : Asking) (txn place : ℕ) (said : Stmt) (meaning : Meaning) (first : List Entry) : Type 0 where
  pub shape : AddsNoneOrOne txn first
  pub asked : AllByRecursion (IsAskedBy meaning) first
  pub undamaged : AllByRecursion IsUndamaged first
  pub given : List (ℕ × ℕ)
  pub under_way : IsUnderWay (book ++ first) asking txn place said given
  pub has : needs_id given (meant (take place (book ++ first)) said) ≡ false

-- what it added comes in the order of its way, and none of it says that a file is damaged
record IsInWay (book added : List Entry) : Type 0 where
  pub in_order : AllInOrder (state_of book) added
  pub undamaged : AllByRecursion IsUndamaged added

all-last : {A : Type 0} (P : A → Type 0) (xs : List A) (x : A) → AllByRecursion P (xs ++ x ∷ []) → P x
all-last P [] x all = all.0
all-last P (y ∷ xs) x all = all-last P xs x all.1

all-rest : {A : Type 0} (P : A → Type 0) (xs ys : List A) → AllByRecursion P (xs ++ ys) → AllByRecursion P ys
all-rest P [] ys all = all
all-rest P (x ∷ xs) ys all = all-rest P xs ys all.1

read-plain : {D : Type 0} (told : D → Option Store) (now : ToldHouse D) → IsToldHouse told now.house → (why : Cause) → IsUntoldDamage told now why → IsPlain why
read-plain told now is (cause.Damaged place) untold = absurd (untold is)
read-plain told now is (cause.ReadFault count) untold = record { uncommitted = tt; undamaged = λ txn. tt }
read-plain told now is (cause.Conflict by_ table partition) untold = absurd untold
read-plain told now is (cause.Refused number) untold = absurd untold
read-plain told now is (cause.Request by_) untold = absurd untold
read-plain told now is cause.Full untold = absurd untold
read-plain told now is (cause.Twice partition row) untold = absurd untold
read-plain told now is (cause.Blocked holder) untold = absurd untold
read-plain told now is (cause.WriteFault count) untold = absurd untold
read-plain told now is cause.RowLimit untold = absurd untold
read-plain told now is cause.PartitionLimit untold = absurd untold
read-plain told now is cause.Memory untold = absurd untold
read-plain told now is cause.Lost untold = absurd untold
read-plain told now is cause.Rollback untold = absurd untold

gives-unended : (txn : ℕ) (meaning : Meaning) (first : List Entry) → GivesId txn meaning first → AllByRecursion (IsNoEnd txn) first
gives-unended txn (Change info effect) first gives = subst (AllByRecursion (IsNoEnd txn)) (sym gives.2) (tt, tt)
gives-unended txn (Listing names rows) first gives = absurd gives
gives-unended txn (Make shape) first gives = absurd gives
gives-unended txn (Unmake table) first gives = absurd gives
gives-unended txn (Refused why) first gives = absurd gives
gives-unended txn (Twice region row) first gives = absurd gives
gives-unended txn RowLimit first gives = absurd gives
gives-unended txn PartitionLimit first gives = absurd gives
gives-unended txn Plain first gives = absurd gives
gives-unended txn (Ask table partition kind) first gives = subst (AllByRecursion (IsNoEnd txn)) (sym gives.1) (tt, tt)

-- ---- the order of its way

module _ (book : List Entry) (asking : Asking) (txn place : ℕ) (said : Stmt) (under : IsUnderWay book asking txn place said []) where
  readied-none : (meaning : Meaning) → meant (take place book) said ≡ Some meaning → (first : List Entry) → first ≡ [] → needs_id [] (Some meaning) ≡ false
      → IsReadied book asking txn place said meaning first
  readied-none meaning means first none has =
      subst (IsReadied book asking txn place said meaning) (sym none) (record {
        shape = inl refl;
        asked = tt;
        undamaged = tt;
        given = [];
        under_way = subst (λ (b : List Entry). IsUnderWay b asking txn place said []) (sym (append-nil book)) under;
        has = subst (λ (b : List Entry). needs_id [] (meant (take place b) said) ≡ false) (sym (append-nil book))
            (ap (λ (o : Option Meaning). needs_id [] o) means ∙ has);
      })

  readied-id : (info : TableInfo) (effect : Effect) (write : WriteId) (first : List Entry) → first ≡ giving txn info.table write ∷ [] → 0 < changes_in effect
      → IsReadied book asking txn place said (Change info effect) first
  readied-id info effect write first is some =
      subst (IsReadied book asking txn place said (Change info effect)) (sym is) (record {
        shape = inr (inl (info.table, write, refl));
        asked = ((refl, some), tt);
        undamaged = (tt, tt);
        given = (info.table.0, write.0) ∷ [];
        under_way = ids-given book asking txn place said [] info.table write under;
        has = refl;
      })

  readied-job : (table : TableId) (partition : List ℕ) (kind : CompactionKind) → meant (take place book) said ≡ Some (Ask table partition kind) → (first : List Entry)
      → AsksJob txn table partition kind first → IsReadied book asking txn place said (Ask table partition kind) first
  readied-job table partition kind means first (inl none) = readied-none (Ask table partition kind) means first none refl
  readied-job table partition kind means first (inr is) =
      let event : Entry = job_asked txn is.0 table partition (kind_of kind) in
      subst (IsReadied book asking txn place said (Ask table partition kind)) (sym is.1) (record {
        shape = inr (inr (is.0, table, partition, kind_of kind, refl));
        asked = (tt, tt);
        undamaged = (tt, tt);
        given = [];
        under_way = job-under book asking txn place said is.0 table partition (kind_of kind) under;
        has = ap (λ (o : Option Meaning). needs_id [] o) (means-still book asking txn place said [] under (event ∷ []) ∙ means);
      })

  readied : (meaning : Meaning) → meant (take place book) said ≡ Some meaning → (ready : Ready) (first : List Entry) → PreparesTo txn meaning ready first
      → IsReadied book asking txn place said meaning first
  readied (Listing names rows) means ready first so = readied-none (Listing names rows) means first so.0 refl
  readied Plain means ready first so = readied-none Plain means first so.0 refl
  readied (Ask table partition kind) means ready first so = readied-job table partition kind means first so.0
  readied (Make shape) means ready first so = readied-none (Make shape) means first so.0 refl
  readied (Unmake table) means ready first so = readied-none (Unmake table) means first so.0 refl
  readied (Change info effect) means ready first (inl so) =
      readied-none (Change info effect) means first so.0 (ap (λ (n : ℕ). nat_lt 0 n) so.1)
  readied (Change info effect) means ready first (inr so) = readied-id info effect so.0 first so.2 so.3
  readied (Refused why) means ready first so = absurd so
  readied (Twice region row) means ready first so = absurd so
  readied RowLimit means ready first so = absurd so
  readied PartitionLimit means ready first so = absurd so

  -- its end stands behind that
  ready-way : (meaning : Meaning) → meant (take place book) said ≡ Some meaning → (first added : List Entry) (last : Entry)
      → IsReadied book asking txn place said meaning first → added ≡ first ++ last ∷ [] → AreOf txn added → IsCleanEnd txn last → IsInWay book added
  ready-way meaning means first added last ready is whose clean = record {
    in_order =
        subst (AllInOrder (state_of book)) (sym is)
        (order-behind (state_of book) first (last ∷ [])
        (prepared-in-order book asking txn place said under meaning means (book ++ first) first refl
        (record { added = first; book = refl; asked = ready.asked }) ready.shape)
        (subst (λ (s : State). AllInOrder s (last ∷ [])) (state-behind book first)
        (ended-in-order (book ++ first) asking txn place said ready.given ready.under_way ready.has (last ∷ [])
        (all-last (IsOf txn) first last (subst (AreOf txn) is whose), tt) (last, clean.ends, refl) clean.owns)));
    undamaged = subst (AllByRecursion IsUndamaged) (sym is) (all-behind IsUndamaged first last ready.undamaged clean.undamaged);
  }

  -- or it was aborted on the way
  cut-way : (meaning : Meaning) → meant (take place book) said ≡ Some meaning → (first added : List Entry) (why : Cause) → IsBefore book txn meaning first → IsPlain why
      → added ≡ first ++ aborting txn why ∷ [] → IsInWay book added
  cut-way meaning means first added why goes_before plain is = record {
    in_order =
        cut-in-order book asking txn place said under meaning means (book ++ added) added refl
        (record {
          added = added;
          book = refl;
          asked = subst (AllByRecursion (IsAskedBy meaning)) (sym is)
              (all-behind (IsAskedBy meaning) first (aborting txn why) goes_before.asked tt);
        }) (first, why, goes_before.shape, plain.uncommitted, is);
    undamaged = subst (AllByRecursion IsUndamaged) (sym is)
        (all-behind IsUndamaged first (aborting txn why) goes_before.undamaged (plain.undamaged txn));
  }

  aborted-way : {D : Type 0} (now : ToldHouse D) (meaning : Meaning) → meant (take place book) said ≡ Some meaning → (first : List Entry) (Causes : Cause → Type 0)
      (reply : Reply) (added : List Entry) → IsBefore book txn meaning first → ((why : Cause) → Causes why → IsPlain why)
      → AbortsFor txn now first Causes (done.Replied reply) added → IsInWay book added
  aborted-way now meaning means first Causes reply added goes_before plain ends =
      let abort : IsAbortFor txn now Causes ends.0 reply = ends.2 in
      cut-way meaning means first added abort.why goes_before (or-plain Causes plain abort.why abort.is)
      (ends.1 ∙ ap (λ (e : Entry). first ++ e ∷ []) abort.entry_is)

  -- or its tables couldn't be seen
  unseen-way : {D : Type 0} (now : ToldHouse D) (Causes : Cause → Type 0) (reply : Reply) (added : List Entry) → ((why : Cause) → Causes why → IsPlain why)
      → AbortsFor txn now [] Causes (done.Replied reply) added → IsInWay book added
  unseen-way now Causes reply added plain ends =
      let abort : IsAbortFor txn now Causes ends.0 reply = ends.2 in
      let is : added ≡ aborting txn abort.why ∷ [] = ends.1 ∙ ap (λ (e : Entry). e ∷ []) abort.entry_is in
      let so : IsPlain abort.why = or-plain Causes plain abort.why abort.is in
      record {
        in_order = subst (AllInOrder (state_of book)) (sym is) (aborted-in-order book asking txn place said [] under abort.why so.uncommitted);
        undamaged = subst (AllByRecursion IsUndamaged) (sym is) (so.undamaged txn, tt);
      }

  concluded-way : {D : Type 0} (now : ToldHouse D) (meaning : Meaning) → meant (take place book) said ≡ Some meaning → (ready : Ready) (first : List Entry) (reply : Reply)
      (added : List Entry) → AreOf txn added → PreparesTo txn meaning ready first → EndsBehind txn now first (ConcludesSo txn now ready) (done.Replied reply) added
      → IsInWay book added
  concluded-way now meaning means ready first reply added whose so ends =
      ready-way meaning means first added ends.0 (readied meaning means ready first so) ends.1 whose (clean-so txn now ready ends.0 reply ends.2)

  gives-before : (meaning : Meaning) (first : List Entry) → GivesId txn meaning first → IsBefore book txn meaning first
  gives-before (Change info effect) first gives =
      subst (IsBefore book txn (Change info effect)) (sym gives.2) (id-before book asking txn place said info effect gives.0 gives.1 under)
  gives-before (Listing names rows) first gives = absurd gives
  gives-before (Make shape) first gives = absurd gives
  gives-before (Unmake table) first gives = absurd gives
  gives-before (Refused why) first gives = absurd gives
  gives-before (Twice region row) first gives = absurd gives
  gives-before RowLimit first gives = absurd gives
  gives-before PartitionLimit first gives = absurd gives
  gives-before Plain first gives = absurd gives
  gives-before (Ask table partition kind) first gives =
      subst (IsBefore book txn (Ask table partition kind)) (sym gives.1)
      (job-before book asking txn place said (Ask table partition kind) gives.0 table partition (kind_of kind) under)

  -- it ended while it was prepared
  prepared-way : {D : Type 0} (now : ToldHouse D) (meaning : Meaning) → meant (take place book) said ≡ Some meaning → (reply : Reply) (added : List Entry)
      → Prepares txn now meaning (prepared.Ended (done.Replied reply)) added → IsInWay book added
  prepared-way now meaning means reply added (inl early) =
      aborted-way now meaning means [] (EndsEarlyFor meaning) reply added (nothing-before book asking txn place said meaning under) (early-plain meaning) early
  prepared-way now meaning means reply added (inr broken) =
      aborted-way now meaning means broken.0 (BreaksFor meaning) reply added (gives-before meaning broken.0 broken.1) (breaks-plain meaning) broken.2

  -- behind what it asked for
  way-behind : (asks more added : List Entry) → added ≡ asks ++ more → AllInOrder (state_of book) asks → AllByRecursion IsUndamaged asks → IsInWay (book ++ asks) more
      → IsInWay book added
  way-behind asks more added is in_order undamaged rest = record {
    in_order =
        subst (AllInOrder (state_of book)) (sym is)
        (order-behind (state_of book) asks more in_order (subst (λ (s : State). AllInOrder s more) (state-behind book asks) rest.in_order));
    undamaged = subst (AllByRecursion IsUndamaged) (sym is) (all-append IsUndamaged asks more undamaged rest.undamaged);
  }

-- ---- behind the aborts that it asked for

module _ {D : Type 0} (now : ToldHouse D) (fit : AllFit profile nothing_yet (entries_of now.house)) (asking : Asking) (way : Way) (said : Stmt) (book : List Entry)
    (under : IsUnderWay book asking way.txn.0 way.place said []) where
  abbrev IsAsk : Entry → Type 0
  IsAsk event = IsAskIn now way said event

  stand : (asks rest added : List Entry) → entries_of now.house ≡ book ++ added → added ≡ asks ++ rest → AllByRecursion IsAsk asks
      → AsksStand asking way.txn.0 way.place said book asks
  stand asks rest added gained is all =
      asks-stand (trail_in now) (subst (AllFit profile nothing_yet) (sym (book-is now.house)) fit) asking way.txn.0 way.place said asks book rest
      (book-is now.house ∙ gained ∙ ap (λ (xs : List Entry). book ++ xs) is) under all

  none-damaged : (asks : List Entry) → AllByRecursion IsAsk asks → AllByRecursion IsUndamaged asks
  none-damaged asks all = asks-undamaged (trail_in now) way.txn.0 way.place (numbers_in (Some said)) asks all

  module _ (meaning : Meaning) (means : meant (take way.place book) said ≡ Some meaning) (reply : Reply) (added : List Entry) (whose : AreOf way.txn.0 added)
      (gained : entries_of now.house ≡ book ++ added) where
    behind : (asks more : List Entry) → added ≡ asks ++ more → AllByRecursion IsAsk asks
        → (IsUnderWay (book ++ asks) asking way.txn.0 way.place said [] → meant (take way.place (book ++ asks)) said ≡ Some meaning → AreOf way.txn.0 more
        → IsInWay (book ++ asks) more) → IsInWay book added
    behind asks more is all so =
        let stands : AsksStand asking way.txn.0 way.place said book asks = stand asks more added gained is all in
        way-behind book asking way.txn.0 way.place said under asks more added is stands.in_order (none-damaged asks all)
        (so stands.under_way (means-still book asking way.txn.0 way.place said [] under asks ∙ means)
        (all-rest (IsOf way.txn.0) asks more (subst (AreOf way.txn.0) is whose)))

    -- it was stopped while it asked
    stopped-way : (first : List Entry) → AllByRecursion IsAsk first → AbortsFor way.txn.0 now first NoCause (done.Replied reply) added → IsInWay book added
    stopped-way first all ends =
        behind first (ends.0 ∷ []) ends.1 all (λ later later_means more_of.
        unseen-way (book ++ first) asking way.txn.0 way.place said later now NoCause reply (ends.0 ∷ []) (λ why never. absurd never)
        (ends.0, refl, ends.2, ends.3))

    asked-way : PreparesAsked way.txn.0 now IsAsk meaning (prepared.Ended (done.Replied reply)) added → IsInWay book added
    asked-way (inl is) =
        behind is.0 is.1 is.2 is.3 (λ later later_means more_of.
        prepared-way (book ++ is.0) asking way.txn.0 way.place said later now meaning later_means reply is.1 is.4)
    asked-way (inr is) =
        stopped-way is.2.0 is.2.1
        (subst (λ (found : Done). AbortsFor way.txn.0 now is.2.0 NoCause found added) (sym (same-done (done.Replied reply) is.0 is.1)) is.2.2)

    readied-way : (ready : Ready) (first : List Entry) → ReadiesTo now way said meaning ready first
        → EndsBehind way.txn.0 now first (ConcludesSo way.txn.0 now ready) (done.Replied reply) added → IsInWay book added
    readied-way ready first readies ends =
        behind readies.0 (readies.1 ++ ends.0 ∷ [])
        (ends.1 ∙ ap (λ (xs : List Entry). xs ++ ends.0 ∷ []) readies.2 ∙ append_assoc readies.0 readies.1 (ends.0 ∷ [])) readies.3
        (λ later later_means more_of.
        concluded-way (book ++ readies.0) asking way.txn.0 way.place said later now meaning later_means ready readies.1 reply (readies.1 ++ ends.0 ∷ []) more_of readies.4
        (ends.0, refl, ends.2, ends.3))

    from-way : EndsFrom now way said meaning (done.Replied reply) added → IsInWay book added
    from-way (inl asked) = asked-way asked
    from-way (inr ready) = readied-way ready.0 ready.1 ready.2 ready.3

-- of this tree, as it means over the tables at its snapshot
as-way : {D : Type 0} (told : D → Option Store) (now : ToldHouse D) → AllFit profile nothing_yet (entries_of now.house) → (book : List Entry) (asking : Asking) (way : Way)
    (said : Stmt)
    → IsUnderWay book asking way.txn.0 way.place said [] → IsToldHouse told now.house → (reply : Reply) (added : List Entry) → AreOf way.txn.0 added
    → entries_of now.house ≡ book ++ added → EndsAs told now way said (done.Replied reply) added → IsInWay book added
as-way told now fit book asking way said under is reply added whose gained (inl unseen) =
    unseen-way book asking way.txn.0 way.place said under now (IsUntoldDamage told now) reply added (read-plain told now is) unseen
as-way told now fit book asking way said under is reply added whose gained (inr means) =
    let same : take way.place (book_in now) ≡ take way.place book =
    ap (take way.place) (book-is now.house ∙ gained) ∙ take-append-le way.place book added (omega (arith, under.early)) in
    from-way now fit asking way said book under means.0 (ap (λ (b : List Entry). meant b said) (sym same) ∙ means.1.truly is) reply added whose gained means.2

-- of one that was ready to end
ready-truly : {D : Type 0} (now : ToldHouse D) (book : List Entry) (asking : Asking) (txn place : ℕ) (said : Stmt) (given : List (ℕ × ℕ)) (ready : Ready)
    → IsUnderWay book asking txn place said given → EndIsTrue (meant (take place book) said) given ready.end ready.text → (reply : Reply) (added : List Entry)
    → AreOf txn added → Concludes txn now ready (done.Replied reply) added → IsInWay book added
ready-truly now book asking txn place said given ready under truly reply added whose ends =
    let is : added ≡ ends.0 ∷ [] = ends.1 in
    let clean : IsCleanEnd txn ends.0 = clean-so txn now ready ends.0 reply ends.2 in
    record {
      in_order =
          ended-in-order book asking txn place said given under
          (needs-no-id given (meant (take place book) said) (true-to-commit (meant (take place book) said) given ready.end ready.text truly))
          added whose (ends.0, clean.ends, is) clean.owns;
      undamaged = subst (AllByRecursion IsUndamaged) (sym is) (clean.undamaged, tt);
    }

-- ---- nobody else ended it

module _ {D : Type 0} (faults : D → ℕ) (B : List TrailItem → Type 0) (none : AddsNothing B) (asking : Asking) (said : Stmt) (place : ℕ) (given : List (ℕ × ℕ))
    (txn : ℕ) (own own' : List ℕ) (before now : ToldHouse D) (under : IsUnderWay (entries_of before.house) asking txn place said given) where
  behind-own : (first : List Entry) (Is : Entry → Reply → Type 0) (found : Done) (added : List Entry) → AllByRecursion (IsNoEnd txn) first
      → AddsOwn faults B txn (known own before) (known own' now) added → EndsBehind txn now first Is found added → IsOwnEnd found
  behind-own first Is (done.Replied reply) added unended adds ends = tt
  behind-own first Is (done.Gone reply) added unended adds ends =
      never-gone faults B none txn ends.1.at own own' before now first (way-runs (entries_of before.house) asking txn place said given under)
      (subst (λ (xs : List Entry). AddsOwn faults B txn (known own before) (known own' now) xs) ends.0 adds) unended ends.1.gone

further : {D : Type 0} (txn : ℕ) (now : ToldHouse D) (asks first : List Entry) (Is : Entry → Reply → Type 0) (found : Done) (more added : List Entry)
    → added ≡ asks ++ more → EndsBehind txn now first Is found more → EndsBehind txn now (asks ++ first) Is found added
further txn now asks first Is (done.Replied reply) more added is ends =
    (ends.0, is ∙ ap (λ (xs : List Entry). asks ++ xs) ends.1 ∙ sym (append_assoc asks first (ends.0 ∷ [])), ends.2, ends.3)
further txn now asks first Is (done.Gone reply) more added is ends = (is ∙ ap (λ (xs : List Entry). asks ++ xs) ends.0, ends.1)

module _ {D : Type 0} (faults : D → ℕ) (B : List TrailItem → Type 0) (none : AddsNothing B) (asking : Asking) (way : Way) (said : Stmt) (own own' : List ℕ)
    (before now : ToldHouse D) (under : IsUnderWay (entries_of before.house) asking way.txn.0 way.place said []) (meaning : Meaning) (found : Done) (added : List Entry)
    (adds : AddsOwn faults B way.txn.0 (known own before) (known own' now) added) where
  behind-so : (first : List Entry) (Is : Entry → Reply → Type 0) → AllByRecursion (IsNoEnd way.txn.0) first → EndsBehind way.txn.0 now first Is found added → IsOwnEnd found
  behind-so first Is unended ends = behind-own faults B none asking said way.place [] way.txn.0 own own' before now under first Is found added unended adds ends

  unended-asks : (asks : List Entry) → AllByRecursion (IsAskIn now way said) asks → AllByRecursion (IsNoEnd way.txn.0) asks
  unended-asks asks all = asks-unended (trail_in now) way.txn.0 way.place (numbers_in (Some said)) asks all

  prepared-own : (asks more : List Entry) → added ≡ asks ++ more → AllByRecursion (IsAskIn now way said) asks
      → Prepares way.txn.0 now meaning (prepared.Ended found) more → IsOwnEnd found
  prepared-own asks more is all (inl early) =
      behind-so (asks ++ []) (IsAbortFor way.txn.0 now (EndsEarlyFor meaning)) (all-append (IsNoEnd way.txn.0) asks [] (unended-asks asks all) tt)
      (further way.txn.0 now asks [] (IsAbortFor way.txn.0 now (EndsEarlyFor meaning)) found more added is early)
  prepared-own asks more is all (inr broken) =
      behind-so (asks ++ broken.0) (IsAbortFor way.txn.0 now (BreaksFor meaning))
      (all-append (IsNoEnd way.txn.0) asks broken.0 (unended-asks asks all) (gives-unended way.txn.0 meaning broken.0 broken.1))
      (further way.txn.0 now asks broken.0 (IsAbortFor way.txn.0 now (BreaksFor meaning)) found more added is broken.2)

  asked-own : PreparesAsked way.txn.0 now (IsAskIn now way said) meaning (prepared.Ended found) added → IsOwnEnd found
  asked-own (inl is) = prepared-own is.0 is.1 is.2 is.3 is.4
  asked-own (inr is) =
      behind-so is.2.0 (IsAbortFor way.txn.0 now NoCause) (unended-asks is.2.0 is.2.1)
      (subst (λ (d : Done). AbortsFor way.txn.0 now is.2.0 NoCause d added) (sym (same-done found is.0 is.1)) is.2.2)

  from-own : EndsFrom now way said meaning found added → IsOwnEnd found
  from-own (inl asked) = asked-own asked
  from-own (inr ready) =
      behind-so ready.1 (ConcludesSo way.txn.0 now ready.0) (readies-unended now way said meaning ready.0 ready.1 ready.2) ready.3

as-own : {D : Type 0} (told : D → Option Store) (faults : D → ℕ) (B : List TrailItem → Type 0) → AddsNothing B → (asking : Asking) (way : Way) (said : Stmt)
    (own own' : List ℕ) (before now : ToldHouse D) → IsUnderWay (entries_of before.house) asking way.txn.0 way.place said [] → (found : Done) (added : List Entry)
    → AddsOwn faults B way.txn.0 (known own before) (known own' now) added → EndsAs told now way said found added → IsOwnEnd found
as-own told faults B none asking way said own own' before now under found added adds (inl unseen) =
    behind-own faults B none asking said way.place [] way.txn.0 own own' before now under [] (IsAbortFor way.txn.0 now (IsUntoldDamage told now)) found added tt adds unseen
as-own told faults B none asking way said own own' before now under found added adds (inr means) =
    from-own faults B none asking way said own own' before now under means.0 found added adds means.2

-- ---- all that is promised of its end

module _ {D : Type 0} (told : D → Option Store) (faults : D → ℕ) (B : List TrailItem → Type 0) (meanwhile : ToldHouse D → ToldHouse D → Type 0)
    (alone : ActsAlone B meanwhile) (own own' : List ℕ) (before now : ToldHouse D) (running : IsOpenHouse before) (kept : IsWholeOrClosed told now.house) where
  finished : (txn : ℕ) (Is : Done → List Entry → Type 0) (found : Done) → Gains faults B (faults_in faults before) txn (known own before) (known own' now)
      (Is found)
      → AnswersTruly txn now found → IsOwnEnd found
      → ((reply : Reply) (added : List Entry) → AreOf txn added → HasGained faults before now added
      → AllFit profile nothing_yet (entries_of now.house) → Is (done.Replied reply) added → IsInWay (entries_of before.house) added)
      → IsFinishedAs (entries_of before.house) (entries_of now.house) txn found
  finished txn Is (done.Replied reply) gains answered its_own in_way =
      let gained : HasGained faults before now gains.added = adds-alone faults B alone.nothing own own' before now gains.added gains.adds in
      let way : IsInWay (entries_of before.house) gains.added =
      in_way reply gains.added gains.of_it gained (kept.whole gains.running).ready.fit gains.is in
      record {
        added = gains.added;
        book = gained.book;
        of_it = gains.of_it;
        undamaged = way.undamaged;
        answered = subst (λ (b : List Entry). HasReplied b txn reply.text reply.refused reply.ended) (book-is now.house) answered;
        in_order = way.in_order;
      }
  finished txn Is (done.Gone reply) gains answered its_own in_way = absurd its_own

  ends-alone : (txn : ℕ) (Is : Done → List Entry → Type 0) (result : Result Done HouseFault)
      → Goes (among told faults B meanwhile) (faults_in faults before) txn (known own before) (known own' now) Is result
      → (IsToldHouse told before.house → IfOk result (AnswersTruly txn now))
      → ((found : Done) (added : List Entry) → AddsOwn faults B txn (known own before) (known own' now) added → Is found added → IsOwnEnd found)
      → (IsToldHouse told before.house → (reply : Reply) (added : List Entry) → AreOf txn added → HasGained faults before now added
      → AllFit profile nothing_yet (entries_of now.house) → Is (done.Replied reply) added → IsInWay (entries_of before.house) added)
      → EndsAlone told faults txn before.house now.house result
  ends-alone txn Is (Ok found) goes answered its_own in_way =
      let own_end : IsOwnEnd found = its_own found goes.done.added goes.done.adds goes.done.is in
      record {
        part = parts-alone told faults B alone.nothing meanwhile alone.alone Done txn own own' before now Is (Ok found) running kept goes;
        own = own_end;
        truly = λ is. finished txn Is found goes.done (answered is) own_end (in_way is);
      }
  ends-alone txn Is (Err why) goes answered its_own in_way = record {
    part = parts-alone told faults B alone.nothing meanwhile alone.alone Done txn own own' before now Is (Err why) running kept goes;
    own = tt;
    truly = λ is. tt;
  }

  told-behind : (added : List Entry) → HasGained faults before now added → IsToldHouse told before.house → IsToldHouse told now.house
  told-behind added gained is = told-stays told before.house now.house gained.start is

  -- by what it means
  pub from-alone : (way : Way) (said : Stmt) (meaning : Meaning) (result : Result Done HouseFault)
      → Goes (among told faults B meanwhile) (faults_in faults before) way.txn.0 (known own before) (known own' now) (EndsFrom now way said meaning) result
      → (IsToldHouse told before.house → IfOk result (AnswersTruly way.txn.0 now)) → IsOnWay (entries_of before.house) way said
      → (IsToldHouse told before.house → meant (take way.place (entries_of before.house)) said ≡ Some meaning)
      → EndsAlone told faults way.txn.0 before.house now.house result
  from-alone way said meaning result goes answered on means =
      ends-alone way.txn.0 (EndsFrom now way said meaning) result goes answered
      (λ found added adds ends. from-own faults B alone.nothing on.0 way said own own' before now on.1 meaning found added adds ends)
      (λ is reply added whose gained fit ends.
      from-way now fit on.0 way said (entries_of before.house) on.1 meaning (means is) reply added whose gained.book ends)

  -- as its tree means
  pub as-alone : (way : Way) (said : Stmt) (result : Result Done HouseFault)
      → Goes (among told faults B meanwhile) (faults_in faults before) way.txn.0 (known own before) (known own' now) (EndsAs told now way said) result
      → (IsToldHouse told before.house → IfOk result (AnswersTruly way.txn.0 now)) → IsOnWay (entries_of before.house) way said
      → EndsAlone told faults way.txn.0 before.house now.house result
  as-alone way said result goes answered on =
      ends-alone way.txn.0 (EndsAs told now way said) result goes answered
      (λ found added adds ends. as-own told faults B alone.nothing on.0 way said own own' before now on.1 found added adds ends)
      (λ is reply added whose gained fit ends.
      as-way told now fit (entries_of before.house) on.0 way said on.1 (told-behind added gained is) reply added whose gained.book ends)

  -- ---- one that was held

  none-under : (asking : Asking) (paused : Paused) (held : IsHeld (entries_of before.house) asking paused) → held.given ≡ []
      → IsUnderWay (entries_of before.house) asking paused.way.txn.0 paused.way.place paused.tree []
  none-under asking paused held none =
      subst (IsUnderWay (entries_of before.house) asking paused.way.txn.0 paused.way.place paused.tree) none held.under_way

  point-alone : (paused : Paused) (at : Point) (result : Result Done HouseFault) → paused.point ≡ at
      → Goes (among told faults B meanwhile) (faults_in faults before) paused.way.txn.0 (known own before) (known own' now)
      (EndsFromPoint told now paused.way paused.tree at) result
      → (IsToldHouse told before.house → IfOk result (AnswersTruly paused.way.txn.0 now)) → IsHeldBySome (entries_of before.house) paused
      → (IsToldHouse told before.house → IsTrulyHeld (entries_of before.house) paused)
      → EndsAlone told faults paused.way.txn.0 before.house now.house result
  point-alone paused point.Started result is goes answered held truly =
      as-alone paused.way paused.tree result goes answered
      (held.0, none-under held.0 paused held.1 (subst (λ (p : Point). HasNone p held.1.given) is held.1.none))
  point-alone paused (point.Meant meaning) result is goes answered held truly =
      from-alone paused.way paused.tree meaning result goes answered
      (held.0, none-under held.0 paused held.1 (subst (λ (p : Point). HasNone p held.1.given) is held.1.none))
      (λ told_is.
      let true_held : IsTrulyHeld (entries_of before.house) paused = truly told_is in
      subst (PointIsTrue (meant (take paused.way.place (entries_of before.house)) paused.tree) true_held.held.given) is true_held.truly)
  point-alone paused (point.Ready ready) result is goes answered held truly =
      ends-alone paused.way.txn.0 (Concludes paused.way.txn.0 now ready) result goes answered
      (λ found added adds ends.
      behind-own faults B alone.nothing held.0 paused.tree paused.way.place held.1.given paused.way.txn.0 own own' before now held.1.under_way []
      (ConcludesSo paused.way.txn.0 now ready) found added tt adds ends)
      (λ told_is reply added whose gained fit ends.
      let true_held : IsTrulyHeld (entries_of before.house) paused = truly told_is in
      ready-truly now (entries_of before.house) true_held.asking paused.way.txn.0 paused.way.place paused.tree true_held.held.given ready true_held.held.under_way
      (subst (PointIsTrue (meant (take paused.way.place (entries_of before.house)) paused.tree) true_held.held.given) is true_held.truly) reply added whose ends)

  pub held-alone : (paused : Paused) (result : Result Done HouseFault)
      → Goes (among told faults B meanwhile) (faults_in faults before) paused.way.txn.0 (known own before) (known own' now) (Finishes told now paused) result
      → (IsToldHouse told before.house → IfOk result (AnswersTruly paused.way.txn.0 now)) → IsHeldBySome (entries_of before.house) paused
      → (IsToldHouse told before.house → IsTrulyHeld (entries_of before.house) paused)
      → EndsAlone told faults paused.way.txn.0 before.house now.house result
  held-alone paused result goes answered held truly = point-alone paused paused.point result refl goes answered held truly
