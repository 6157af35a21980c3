-- Where nobody else acts, a started statement goes to its end or to its hold as over a house alone: what was added until then, and what stands
-- of it.
use Rattle.std.proofs.Common.{◌≡◌, ◌⊎◌, inl, inr, ℕ, false, Option, Some, None, List, [], ◌∷◌, ◌++◌, take, refl, sym, ap, ◌∙◌, subst, append-nil, Ok, Err, Result}
use Rattle.std.specs.Prelude.{IfOk}
use Rattle.std.specs.List.{AllByRecursion}
use Rattle.hv_base.specs.declared.gate.Stage.{Stage}
use Rattle.hv_base.specs.declared.gate.Stage.TheVariants as stage
use Rattle.hv_base.specs.declared.refusal.Refusal.{Refusal}
use Rattle.hv_base.specs.declared.ids.TableId.{TableId}
use Rattle.hv_shelf.specs.Disk.{Store}
use Rattle.hv_ast.specs.declared.statement.Stmt.{Stmt}
use Rattle.hv_ast.specs.declared.table.CompactionKind.{CompactionKind}
use Rattle.hv_logic.specs.declared.meaning.Meaning.{Meaning}
use Rattle.hv_logic.specs.declared.meaning.Meaning.TheVariants.{Listing, Change, Make, Unmake, Refused, Twice, RowLimit, PartitionLimit, Plain, Ask}
use Rattle.hv_history.specs.declared.entry.Entry.{Entry}
use Rattle.hv_history.specs.declared.entry.Cause.{Cause}
use Rattle.hv_history.specs.declared.entry.Cause.TheVariants as cause
use Rattle.hv_history.specs.JobsTrue.{kind_of}
use Rattle.hv_stands.specs.Running.{Asking, starting, IsOwnCause, meant, IsUnderWay}
use Rattle.hv_trail.specs.declared.trail.TrailItem.{TrailItem}
use Rattle.hv_beginning.specs.hv_steps.specs.hv_table_reader.specs.hv_acts.specs.hv_telling.specs.hv_house.specs.declared.fault.HouseFault.{HouseFault}
use Rattle.hv_beginning.specs.hv_steps.specs.hv_table_reader.specs.hv_acts.specs.hv_telling.specs.hv_house.specs.House.{entries_of}
use Rattle.hv_beginning.specs.hv_steps.specs.hv_table_reader.specs.hv_acts.specs.hv_telling.specs.Telling.{IsToldHouse}
use Rattle.hv_beginning.specs.hv_steps.specs.hv_table_reader.specs.hv_acts.specs.hv_telling.proofs.Told.{told-stays}
use Rattle.hv_beginning.specs.hv_steps.specs.hv_table_reader.specs.hv_acts.specs.declared.told.ToldHouse.{ToldHouse}
use Rattle.hv_beginning.specs.hv_steps.specs.hv_table_reader.specs.hv_acts.specs.Told.{IsWholeOrClosed, trail_in}
use Rattle.hv_beginning.specs.hv_steps.specs.hv_table_reader.specs.hv_acts.proofs.Aborts.{own-abort}
use Rattle.hv_beginning.specs.hv_steps.specs.declared.ready.Way.{Way}
use Rattle.hv_beginning.specs.hv_steps.specs.declared.ready.Ready.{Ready}
use Rattle.hv_beginning.specs.hv_steps.specs.declared.reply.Done.{Done}
use Rattle.hv_beginning.specs.hv_steps.specs.declared.reply.Done.TheVariants as done
use Rattle.hv_beginning.specs.hv_steps.specs.declared.reply.Outcome.{Outcome}
use Rattle.hv_beginning.specs.hv_steps.specs.declared.reply.Outcome.TheVariants as outcome
use Rattle.hv_beginning.specs.hv_steps.specs.declared.reply.Prepared.TheVariants as prepared
use Rattle.hv_session.specs.declared.paused.Point.{Point}
use Rattle.hv_session.specs.declared.paused.Point.TheVariants as point
use Rattle.hv_session.specs.declared.paused.Paused.{Paused}
use Rattle.hv_session.specs.declared.paused.Carried.{Carried}
use Rattle.hv_session.specs.declared.paused.Carried.TheVariants as carried
use Rattle.hv_beginning.specs.hv_steps.specs.Ending.{IsAskBy, AddsNoneOrOne, AddsAbort, IsUndamaged, CanEnd, IsReadyToEnd, IsTrulyReady, aborting}
use Rattle.hv_beginning.specs.hv_steps.specs.Going.{faults_in, IsOpenHouse, Goes, WasOnWay}
use Rattle.hv_beginning.specs.hv_steps.specs.Requests.{IsAskIn}
use Rattle.hv_beginning.specs.hv_steps.specs.Phases.{AbortsFor, NoCause, AsksJob, PreparesTo, PreparesAsked, EndsEarlyFor, BreaksFor, GivesId, Prepares, IsUntoldDamage, Sees}
use Rattle.hv_session.specs.Doing.{ReadiesTo, EndsFrom, IsUnrefused, StandsAt, carried_of, is_refused, GoesOnTo, GoesToHold, up_to}
use Rattle.hv_session.specs.Doing as doing
use Rattle.hv_session.specs.Taking.{HasAskedAtPoint, EndsEarly, AbortedAtOnce, AbortedBehind, EndsBefore, HoldsAt, IsAtPlace, IsHeld, IsTrulyHeld}
use Rattle.hv_session.specs.Alone.{HasGained, IsAbortedAlone, SeesSo}
use Rattle.hv_session.specs.Ways.{ActsAlone, IsPart, IsOnWay, IsOwnEnd, IsFinishedAs, EndsAlone, AddsInOrder, IsInTime, GoesInTime, StandsTruly, on_course, GoesAlone}
use Rattle.hv_session.proofs.Orders.{early-uncommitted, aborted-in-order}
use Rattle.hv_beginning.specs.hv_steps.proofs.Books.{all-map}
use Rattle.hv_session.proofs.Takings.{unrefused, same-done, asked-truly}
use Rattle.hv_session.proofs.AloneBooks.{adds-alone}
use Rattle.hv_session.proofs.AloneStops.{parts-alone}
use Rattle.hv_session.proofs.AloneEnds.{sees-alone}
use Rattle.hv_session.proofs.AlonePrepares.{early-plain, breaks-plain, or-plain}
use Rattle.hv_session.proofs.AloneFinishes.{from-alone}
use Rattle.hv_session.proofs.AloneReadied.{IsReadiedAlone, asked-at, readied-alone}
use Rattle.hv_actor.specs.Acting.{among, known}

-- ---- why it ended

untold-early : {D : Type 0} (told : D → Option Store) (now : ToldHouse D) (why : Cause) → IsUntoldDamage told now why ⊎ (why ≡ cause.Memory) → EndsEarly why
untold-early told now why (inr is) = subst EndsEarly (sym is) tt
untold-early told now (cause.ReadFault count) (inl is) = tt
untold-early told now (cause.Damaged place) (inl is) = tt
untold-early told now why (inl is) = absurd is

early-own : (why : Cause) → EndsEarly why → IsOwnCause why
early-own (cause.Request by_) early = absurd early
early-own why early = tt

-- in a told house no file is damaged
untold-whole : {D : Type 0} (told : D → Option Store) (now : ToldHouse D) (txn : ℕ) → IsToldHouse told now.house → (why : Cause)
    → IsUntoldDamage told now why ⊎ (why ≡ cause.Memory) → IsUndamaged (aborting txn why)
untold-whole told now txn told_is why (inr is) = subst (λ (w : Cause). IsUndamaged (aborting txn w)) (sym is) tt
untold-whole told now txn told_is (cause.ReadFault count) (inl is) = tt
untold-whole told now txn told_is (cause.Damaged place) (inl is) = absurd (is told_is)
untold-whole told now txn told_is why (inl is) = absurd is

refused-early : (refusal : Refusal) (why : Cause) → EndsEarlyFor (Refused refusal) why ⊎ (why ≡ cause.Memory) → EndsEarly why
refused-early refusal why (inr is) = subst EndsEarly (sym is) tt
refused-early refusal (cause.Refused number) (inl is) = tt
refused-early refusal why (inl is) = absurd is

-- what its abort added
aborts-added : {D : Type 0} (txn : ℕ) (now : ToldHouse D) (first : List Entry) (Causes : Cause → Type 0) (found : Done) (added : List Entry) → IsOwnEnd found
    → AbortsFor txn now first Causes found added → (why : Cause) × (Causes why ⊎ (why ≡ cause.Memory)) × (added ≡ first ++ aborting txn why ∷ [])
aborts-added txn now first Causes (done.Gone reply) added own ends = absurd own
aborts-added txn now first Causes (done.Replied reply) added own ends =
    (ends.2.why, ends.2.is, ends.1 ∙ ap (λ (e : Entry). first ++ e ∷ []) ends.2.entry_is)

-- ---- what was added until it was held, or had ended

module _ {D : Type 0} (told : D → Option Store) (now : ToldHouse D) (way : Way) (said : Stmt) where
  early-read : (found : Done) (added : List Entry) → IsOwnEnd found → AbortsFor way.txn.0 now [] (IsUntoldDamage told now) found added
      → AbortedAtOnce way.txn.0 EndsEarly (starting way.txn.0 ∷ added)
  early-read found added own ends =
      let abort = aborts-added way.txn.0 now [] (IsUntoldDamage told now) found added own ends in
      (abort.0, untold-early told now abort.0 abort.1, ap (λ (es : List Entry). starting way.txn.0 ∷ es) abort.2)

  abbrev IsAsk : Entry → Type 0
  IsAsk event = IsAskIn now way said event

  by-it : (asks : List Entry) → AllByRecursion IsAsk asks → AllByRecursion (IsAskBy way.txn.0) asks
  by-it asks all =
      all-map IsAsk (IsAskBy way.txn.0) (λ event ask. record { other = ask.other; event_is = ask.event_is; apart = ask.apart }) asks all

  early-commit : (found : Done) (added : List Entry) → IsOwnEnd found → AbortsFor way.txn.0 now [] (IsUntoldDamage told now) found added
      → AbortedBehind way.txn.0 (starting way.txn.0 ∷ added)
  early-commit found added own ends =
      let abort = aborts-added way.txn.0 now [] (IsUntoldDamage told now) found added own ends in
      ([], added, tt, ([], abort.0, inl refl, early-uncommitted abort.0 (untold-early told now abort.0 abort.1), abort.2), refl)

  -- one that is refused is just aborted
  prepared-refused : (refusal : Refusal) (found : Done) (added : List Entry) → IsOwnEnd found → Prepares way.txn.0 now (Refused refusal) (prepared.Ended found) added
      → AbortedAtOnce way.txn.0 EndsEarly (starting way.txn.0 ∷ added)
  prepared-refused refusal found added own (inl ends) =
      let abort = aborts-added way.txn.0 now [] (EndsEarlyFor (Refused refusal)) found added own ends in
      (abort.0, refused-early refusal abort.0 abort.1, ap (λ (es : List Entry). starting way.txn.0 ∷ es) abort.2)
  prepared-refused refusal found added own (inr broken) = absurd broken.1

  asked-refused : (refusal : Refusal) (found : Done) (added : List Entry) → IsOwnEnd found
      → PreparesAsked way.txn.0 now IsAsk (Refused refusal) (prepared.Ended found) added → AbortedAtOnce way.txn.0 EndsEarly (starting way.txn.0 ∷ added)
  asked-refused refusal found added own (inl is) = by is.5
    where
      by : (is.0 ≡ []) ⊎ (Refused refusal ≡ Plain) → AbortedAtOnce way.txn.0 EndsEarly (starting way.txn.0 ∷ added)
      by (inl none) =
          subst (λ (es : List Entry). AbortedAtOnce way.txn.0 EndsEarly (starting way.txn.0 ∷ es))
          (sym (is.2 ∙ ap (λ (es : List Entry). es ++ is.1) none)) (prepared-refused refusal found is.1 own is.4)
      by (inr plain) = let never : Refused refusal ≡ Plain = plain in cc
  asked-refused refusal found added own (inr is) = let never : Refused refusal ≡ Plain = is.3 in cc

  refused-read : (meaning : Meaning) (found : Done) (added : List Entry) → (IsUnrefused meaning → ⊥) → IsOwnEnd found → EndsFrom now way said meaning found added
      → AbortedAtOnce way.txn.0 EndsEarly (starting way.txn.0 ∷ added)
  refused-read (Refused refusal) found added waits own (inl asked) = asked-refused refusal found added own asked
  refused-read (Refused refusal) found added waits own (inr ready) = absurd ready.2.4
  refused-read (Listing names rows) found added waits own ends = absurd (waits tt)
  refused-read (Change info effect) found added waits own ends = absurd (waits tt)
  refused-read (Make shape) found added waits own ends = absurd (waits tt)
  refused-read (Unmake table) found added waits own ends = absurd (waits tt)
  refused-read (Twice region row) found added waits own ends = absurd (waits tt)
  refused-read RowLimit found added waits own ends = absurd (waits tt)
  refused-read PartitionLimit found added waits own ends = absurd (waits tt)
  refused-read Plain found added waits own ends = absurd (waits tt)
  refused-read (Ask asked region kind) found added waits own ends = absurd (waits tt)

  -- behind its write id, or its job
  gives-id : (meaning : Meaning) (first : List Entry) → GivesId way.txn.0 meaning first → AddsNoneOrOne way.txn.0 first
  gives-id (Change info effect) first gives = inr (inl (info.table, gives.0, gives.2))
  gives-id (Listing names rows) first gives = absurd gives
  gives-id (Make shape) first gives = absurd gives
  gives-id (Unmake table) first gives = absurd gives
  gives-id (Refused refusal) first gives = absurd gives
  gives-id (Twice region row) first gives = absurd gives
  gives-id RowLimit first gives = absurd gives
  gives-id PartitionLimit first gives = absurd gives
  gives-id Plain first gives = absurd gives
  gives-id (Ask table partition kind) first gives = inr (inr (gives.0, table, partition, kind_of kind, gives.1))

  cut-commit : (meaning : Meaning) (found : Done) (added : List Entry) → IsOwnEnd found → Prepares way.txn.0 now meaning (prepared.Ended found) added
      → AddsAbort way.txn.0 added
  cut-commit meaning found added own (inl ends) =
      let abort = aborts-added way.txn.0 now [] (EndsEarlyFor meaning) found added own ends in
      ([], abort.0, inl refl, (or-plain (EndsEarlyFor meaning) (early-plain meaning) abort.0 abort.1).uncommitted, abort.2)
  cut-commit meaning found added own (inr broken) =
      let abort = aborts-added way.txn.0 now broken.0 (BreaksFor meaning) found added own broken.2 in
      (broken.0, abort.0, gives-id meaning broken.0 broken.1, (or-plain (BreaksFor meaning) (breaks-plain meaning) abort.0 abort.1).uncommitted, abort.2)

  prepared-commit : (meaning : Meaning) (found : Done) (added : List Entry) → IsOwnEnd found
      → PreparesAsked way.txn.0 now IsAsk meaning (prepared.Ended found) added → AbortedBehind way.txn.0 (starting way.txn.0 ∷ added)
  prepared-commit meaning found added own (inl is) =
      (is.0, is.1, by-it is.0 is.3, cut-commit meaning found is.1 own is.4, ap (λ (es : List Entry). starting way.txn.0 ∷ es) is.2)
  prepared-commit meaning found added own (inr is) =
      let abort =
      aborts-added way.txn.0 now is.2.0 NoCause found added own
      (subst (λ (d : Done). AbortsFor way.txn.0 now is.2.0 NoCause d added) (sym (same-done found is.0 is.1)) is.2.2) in (
        is.2.0,
        aborting way.txn.0 abort.0 ∷ [],
        by-it is.2.0 is.2.1,
        ([], abort.0, inl refl, (or-plain NoCause (λ why never. absurd never) abort.0 abort.1).uncommitted, refl),
        ap (λ (es : List Entry). starting way.txn.0 ∷ es) abort.2,
      )

  ended-in-time : (hold : Option Stage) (found : Done) (added : List Entry) → IsOwnEnd found → doing.EndsBefore told now way said hold found added
      → EndsBefore hold way.txn.0 (starting way.txn.0 ∷ added)
  ended-in-time None found added own ends = tt
  ended-in-time (Some stage.Read) found added own (inl ends) = inr (early-read found added own ends)
  ended-in-time (Some stage.Read) found added own (inr ends) = inr (refused-read ends.0 found added ends.2 own ends.3)
  ended-in-time (Some stage.Commit) found added own (inl ends) = inr (early-commit found added own ends)
  ended-in-time (Some stage.Commit) found added own (inr ends) = inr (prepared-commit ends.0 found added own ends.2)
  ended-in-time (Some stage.Start) found added own ends = absurd ends
  ended-in-time (Some stage.Taken) found added own ends = absurd ends
  ended-in-time (Some stage.Replied) found added own ends = absurd ends

  at-place : (hold : Stage) (at : Point) → doing.IsAtPlace hold at → IsAtPlace (Some hold) at
  at-place stage.Start point.Started place = tt
  at-place stage.Read (point.Meant meaning) place = tt
  at-place stage.Commit (point.Ready ready) place = tt
  at-place hold at place = absurd place

  asks-added : (table : TableId) (partition : List ℕ) (kind : CompactionKind) (added : List Entry) → AsksJob way.txn.0 table partition kind added
      → AddsNoneOrOne way.txn.0 added
  asks-added table partition kind added (inl none) = inl none
  asks-added table partition kind added (inr is) = inr (inr (is.0, table, partition, kind_of kind, is.1))

  ready-added : (meaning : Meaning) (ready : Ready) (added : List Entry) → PreparesTo way.txn.0 meaning ready added → AddsNoneOrOne way.txn.0 added
  ready-added (Listing names rows) ready added so = inl so.0
  ready-added (Change info effect) ready added (inl so) = inl so.0
  ready-added (Change info effect) ready added (inr so) = inr (inl (info.table, so.0, so.2))
  ready-added (Make shape) ready added so = inl so.0
  ready-added (Unmake table) ready added so = inl so.0
  ready-added (Refused refusal) ready added so = absurd so
  ready-added (Twice region row) ready added so = absurd so
  ready-added RowLimit ready added so = absurd so
  ready-added PartitionLimit ready added so = absurd so
  ready-added Plain ready added so = inl so.0
  ready-added (Ask table partition kind) ready added so = asks-added table partition kind added so.0

  readied-held : (meaning : Meaning) (ready : Ready) (added : List Entry) → ReadiesTo now way said meaning ready added
      → HoldsAt (Some stage.Commit) way.txn.0 (starting way.txn.0 ∷ added)
  readied-held meaning ready added so =
      (so.0, so.1, by-it so.0 so.3, ready-added meaning ready so.1 so.4, ap (λ (es : List Entry). starting way.txn.0 ∷ es) so.2)

  stands-in-time : (hold : Stage) (at : Point) (added : List Entry) → doing.IsAtPlace hold at → StandsAt told now way said at added
      → HoldsAt (Some hold) way.txn.0 (starting way.txn.0 ∷ added)
  stands-in-time stage.Start point.Started added place stands = ap (λ (es : List Entry). starting way.txn.0 ∷ es) stands
  stands-in-time stage.Read (point.Meant meaning) added place stands = ap (λ (es : List Entry). starting way.txn.0 ∷ es) stands.0
  stands-in-time stage.Commit (point.Ready ready) added place stands = readied-held stands.0 ready added stands.2
  stands-in-time hold at added place stands = absurd place

  kept-in-time : (hold : Option Stage) (at : Stage) (paused : Paused) (added : List Entry) → hold ≡ Some at → doing.IsAtPlace at paused.point → paused.way ≡ way
      → StandsAt told now way said paused.point added → IsInTime hold way.txn.0 added (carried.Kept paused)
  kept-in-time hold at paused added is place same stands = (
    ap (λ (w : Way). w.txn.0) same,
    subst (λ (h : Option Stage). HoldsAt h way.txn.0 (starting way.txn.0 ∷ added)) (sym is) (stands-in-time at paused.point added place stands),
    subst (λ (h : Option Stage). IsAtPlace h paused.point) (sym is) (at-place at paused.point place),
  )

-- nobody else ended it
abbrev pub IsOwned : Carried → Type 0
IsOwned (carried.Ended found) = IsOwnEnd found
IsOwned found = Unit {0}

goes-in-time : {D : Type 0} (told : D → Option Store) (now : ToldHouse D) (asking : Asking) (way : Way) (said : Stmt) (hold : Option Stage) (found : Carried) (added : List Entry)
    → IsOwned found → GoesOnTo told now asking way (up_to said hold) found added → IsInTime hold way.txn.0 added found
goes-in-time told now asking way said hold (carried.Ended found) added own goes = (own, ended-in-time told now way said hold found added own goes)
goes-in-time told now asking way said hold (carried.Kept paused) added own goes = kept-in-time told now way said hold goes.0 paused added goes.1 goes.2 goes.3 goes.6
goes-in-time told now asking way said hold (carried.Full entries) added own goes = absurd goes
goes-in-time told now asking way said hold carried.NoMemory added own goes = absurd goes

module _ {D : Type 0} (told : D → Option Store) (faults : D → ℕ) (B : List TrailItem → Type 0) (meanwhile : ToldHouse D → ToldHouse D → Type 0)
    (acts : ActsAlone B meanwhile) where
  module _ (own own' : List ℕ) (a b : ToldHouse D) (was : Asking) (way : Way) (said : Stmt) (hold : Option Stage) (on : WasOnWay (trail_in a) was way said)
      (running : IsOpenHouse a) (kept : IsWholeOrClosed told b.house) where
    pub holds-part : (result : Result Carried HouseFault) → GoesToHold (among told faults B meanwhile) way (up_to said hold) (known own a) (known own' b) result
        → IsPart told faults way.txn.0 a.house b.house result
    holds-part result held =
        parts-alone told faults B acts.nothing meanwhile acts.alone Carried way.txn.0 own own' a b (GoesOnTo told b was way (up_to said hold)) result running
        kept (held.goes was on)

    holds-in-time : (found : Carried) → GoesToHold (among told faults B meanwhile) way (up_to said hold) (known own a) (known own' b) (Ok found) → IsOwned found
        → GoesInTime hold way.txn.0 (entries_of a.house) (entries_of b.house) found
    holds-in-time found held owned =
        let goes = held.goes was on in
        let gained : HasGained faults a b goes.done.added = adds-alone faults B acts.nothing own own' a b goes.done.added goes.done.adds in
        record {
          added = goes.done.added;
          book = gained.book;
          in_time = goes-in-time told b was way said hold found goes.done.added owned goes.done.is;
        }

    -- it has ended
    pub ended-goes : (found : Done) → GoesToHold (among told faults B meanwhile) way (up_to said hold) (known own a) (known own' b) (Ok (carried.Ended found))
        → IsOwnEnd found
        → (IsToldHouse told a.house → IsFinishedAs (entries_of a.house) (entries_of b.house) way.txn.0 found)
        → GoesAlone told faults (on_course way (up_to said hold)) a.house b.house (Ok (carried.Ended found))
    ended-goes found held owned truly = record {
      part = holds-part (Ok (carried.Ended found)) held;
      goes = holds-in-time (carried.Ended found) held owned;
      stands = λ asking under. tt;
      truly = truly;
    }

    -- the run stopped
    pub halted-goes : (why : HouseFault) → GoesToHold (among told faults B meanwhile) way (up_to said hold) (known own a) (known own' b) (Err why)
        → GoesAlone told faults (on_course way (up_to said hold)) a.house b.house (Err why)
    halted-goes why held = record { part = holds-part (Err why) held; goes = tt; stands = λ asking under. tt; truly = λ is. tt }

    -- it is held
    kept-goes : (paused : Paused) → GoesToHold (among told faults B meanwhile) way (up_to said hold) (known own a) (known own' b) (Ok (carried.Kept paused))
        → ((asking : Asking) → IsUnderWay (entries_of a.house) asking way.txn.0 way.place said [] → IsHeld (entries_of b.house) asking paused)
        → (IsToldHouse told a.house → IsTrulyHeld (entries_of b.house) paused × AddsInOrder (entries_of a.house) (entries_of b.house))
        → GoesAlone told faults (on_course way (up_to said hold)) a.house b.house (Ok (carried.Kept paused))
    kept-goes paused held stands truly = record {
      part = holds-part (Ok (carried.Kept paused)) held;
      goes = holds-in-time (carried.Kept paused) held tt;
      stands = stands;
      truly = truly;
    }

    as-carried : (result : Result Done HouseFault) → GoesToHold (among told faults B meanwhile) way (up_to said hold) (known own a) (known own' b)
        (carried_of result)
        → EndsAlone told faults way.txn.0 a.house b.house result → GoesAlone told faults (on_course way (up_to said hold)) a.house b.house (carried_of result)
    as-carried (Ok found) held ends = ended-goes found held ends.own ends.truly
    as-carried (Err why) held ends = halted-goes why held

    -- how it ends is how it goes on
    pub ends-goes : (result : Result Done HouseFault) (other : Result Carried HouseFault) → other ≡ carried_of result
        → GoesToHold (among told faults B meanwhile) way (up_to said hold) (known own a) (known own' b) other
        → EndsAlone told faults way.txn.0 a.house b.house result
        → GoesAlone told faults (on_course way (up_to said hold)) a.house b.house other
    ends-goes result other is held ends =
        subst (GoesAlone told faults (on_course way (up_to said hold)) a.house b.house) (sym is)
        (as-carried result (subst (GoesToHold (among told faults B meanwhile) way (up_to said hold) (known own a) (known own' b)) is held) ends)

  -- ---- what it sees

  -- its tables couldn't be seen
  aborted-own : (txn : ℕ) (Causes : Cause → Type 0) (a b : ToldHouse D) (found : Done) → IsAbortedAlone txn Causes a b found → IsOwnEnd found
  aborted-own txn Causes a b found abort = subst IsOwnEnd (sym abort.is) tt

  aborted-finished : (a b : ToldHouse D) (asking : Asking) (way : Way) (said : Stmt) (found : Done) → IsUnderWay (entries_of a.house) asking way.txn.0 way.place said []
      → IsToldHouse told b.house → IsAbortedAlone way.txn.0 (IsUntoldDamage told b) a b found
      → IsFinishedAs (entries_of a.house) (entries_of b.house) way.txn.0 found
  aborted-finished a b asking way said found under is abort =
      subst (IsFinishedAs (entries_of a.house) (entries_of b.house) way.txn.0) (sym abort.is) (record {
        added = aborting way.txn.0 abort.why ∷ [];
        book = abort.book;
        of_it = (own-abort way.txn abort.why (early-own abort.why (untold-early told b abort.why abort.caused)), tt);
        undamaged = (untold-whole told b way.txn.0 is abort.why abort.caused, tt);
        answered = abort.replied;
        in_order = aborted-in-order (entries_of a.house) asking way.txn.0 way.place said [] under abort.why
            (early-uncommitted abort.why (untold-early told b abort.why abort.caused));
      })

  module _ (own own' : List ℕ) (a b : ToldHouse D) (way : Way) (said : Stmt) (kept : IsWholeOrClosed told b.house) (on : IsOnWay (entries_of a.house) way said) where
    pub seen-so : (found : Outcome) → Goes (among told faults B meanwhile) (faults_in faults a) way.txn.0 (known own a) (known own' b) (Sees told b way said)
        (Ok found) → SeesSo told way said a b found
    seen-so found sees = sees-alone faults B acts.nothing told on.0 said way (faults_in faults a) own own' a b found on.1 kept sees.done

    pub seen-start : (found : Outcome) → Goes (among told faults B meanwhile) (faults_in faults a) way.txn.0 (known own a) (known own' b) (Sees told b way said)
        (Ok found)
        → b.house.start ≡ a.house.start
    seen-start found sees = (adds-alone faults B acts.nothing own own' a b sees.done.added sees.done.adds).start

    pub unseen-own : (found : Done) → Goes (among told faults B meanwhile) (faults_in faults a) way.txn.0 (known own a) (known own' b) (Sees told b way said)
        (Ok (outcome.Ended found)) → IsOwnEnd found
    unseen-own found sees = aborted-own way.txn.0 (IsUntoldDamage told b) a b found (seen-so (outcome.Ended found) sees)

    pub unseen-finished : (found : Done) → Goes (among told faults B meanwhile) (faults_in faults a) way.txn.0 (known own a) (known own' b)
        (Sees told b way said) (Ok (outcome.Ended found))
        → IsToldHouse told a.house → IsFinishedAs (entries_of a.house) (entries_of b.house) way.txn.0 found
    unseen-finished found sees is =
        aborted-finished a b on.0 way said found on.1 (told-stays told a.house b.house (seen-start (outcome.Ended found) sees) is) (seen-so (outcome.Ended found) sees)

    pub unseen-goes : (was : Asking) (hold : Option Stage) (found : Done) → WasOnWay (trail_in a) was way said → IsOpenHouse a
        → Goes (among told faults B meanwhile) (faults_in faults a) way.txn.0 (known own a) (known own' b) (Sees told b way said) (Ok (outcome.Ended found))
        → GoesToHold (among told faults B meanwhile) way (up_to said hold) (known own a) (known own' b) (Ok (carried.Ended found))
        → GoesAlone told faults (on_course way (up_to said hold)) a.house b.house (Ok (carried.Ended found))
    unseen-goes was hold found was_on running sees held =
        ended-goes own own' a b was way said hold was_on running kept found held (unseen-own found sees) (unseen-finished found sees)

    -- what it goes on to behind what it saw
    pub seen-goes : (own'' : List ℕ) (c : ToldHouse D) (was : Asking) (hold : Option Stage) (meaning : Meaning) (result : Result Carried HouseFault)
        → WasOnWay (trail_in a) was way said → IsOpenHouse a → IsWholeOrClosed told c.house
        → Goes (among told faults B meanwhile) (faults_in faults a) way.txn.0 (known own a) (known own' b) (Sees told b way said) (Ok (outcome.Means meaning))
        → GoesToHold (among told faults B meanwhile) way (up_to said hold) (known own a) (known own'' c) result
        → (IsOnWay (entries_of b.house) way said → CanEnd (entries_of b.house) meaning
        → (IsToldHouse told b.house → meant (take way.place (entries_of b.house)) said ≡ Some meaning)
        → GoesAlone told faults (on_course way (up_to said hold)) b.house c.house result)
        → GoesAlone told faults (on_course way (up_to said hold)) a.house c.house result
    seen-goes own'' c was hold meaning result was_on running kept_then sees held then =
        let so = seen-so (outcome.Means meaning) sees in
        let start : b.house.start ≡ a.house.start = seen-start (outcome.Means meaning) sees in
        let same : entries_of b.house ≡ entries_of a.house = so.0 in
        let goes : GoesAlone told faults (on_course way (up_to said hold)) b.house c.house result =
        then (on.0, subst (λ (book : List Entry). IsUnderWay book on.0 way.txn.0 way.place said []) (sym same) on.1) so.1
        (λ is. so.2 (told-stays told b.house a.house (sym start) is)) in
        record {
          part = holds-part own own'' a c was way said hold was_on running kept_then result held;
          goes = subst (λ (book : List Entry). IfOk result (GoesInTime hold way.txn.0 book (entries_of c.house))) same goes.goes;
          stands = λ asking under. goes.stands asking (subst (λ (book : List Entry). IsUnderWay book asking way.txn.0 way.place said []) (sym same) under);
          truly = λ is.
              subst (λ (book : List Entry). IfOk result (StandsTruly book (entries_of c.house) way.txn.0)) same
              (goes.truly (told-stays told a.house b.house start is));
        }

  -- ---- where it is held

  -- nothing was done
  module _ (own : List ℕ) (a : ToldHouse D) (was : Asking) (way : Way) (said : Stmt) (on : WasOnWay (trail_in a) was way said) (running : IsOpenHouse a)
      (kept : IsWholeOrClosed told a.house) (is_on : IsOnWay (entries_of a.house) way said) where
    none-added : AddsInOrder (entries_of a.house) (entries_of a.house)
    none-added = ([], sym (append-nil (entries_of a.house)), tt)

    started-held : (asking : Asking) → IsUnderWay (entries_of a.house) asking way.txn.0 way.place said []
        → IsHeld (entries_of a.house) asking (record { way = way; tree = said; point = point.Started })
    started-held asking under = record { given = []; under_way = under; none = refl; can = tt; unrefused = tt }

    pub started-goes : GoesToHold (among told faults B meanwhile) way (up_to said (Some stage.Start)) (known own a) (known own a)
        (Ok (carried.Kept (record { way = way; tree = said; point = point.Started })))
        → GoesAlone told faults (on_course way (up_to said (Some stage.Start))) a.house a.house
        (Ok (carried.Kept (record { way = way; tree = said; point = point.Started })))
    started-goes held =
        kept-goes own own a a was way said (Some stage.Start) on running kept (record { way = way; tree = said; point = point.Started }) held started-held
        (λ is. (record { asking = is_on.0; held = started-held is_on.0 is_on.1; truly = tt; asked = tt }, none-added))

    meant-held : (meaning : Meaning) → CanEnd (entries_of a.house) meaning → is_refused meaning ≡ false
        → (asking : Asking) → IsUnderWay (entries_of a.house) asking way.txn.0 way.place said []
        → IsHeld (entries_of a.house) asking (record { way = way; tree = said; point = point.Meant meaning })
    meant-held meaning can not asking under = record { given = []; under_way = under; none = refl; can = can; unrefused = unrefused meaning not }

    pub meant-goes : (meaning : Meaning) → CanEnd (entries_of a.house) meaning → is_refused meaning ≡ false
        → (IsToldHouse told a.house → meant (take way.place (entries_of a.house)) said ≡ Some meaning)
        → GoesToHold (among told faults B meanwhile) way (up_to said (Some stage.Read)) (known own a) (known own a)
        (Ok (carried.Kept (record { way = way; tree = said; point = point.Meant meaning })))
        → GoesAlone told faults (on_course way (up_to said (Some stage.Read))) a.house a.house
        (Ok (carried.Kept (record { way = way; tree = said; point = point.Meant meaning })))
    meant-goes meaning can not means held =
        kept-goes own own a a was way said (Some stage.Read) on running kept (record { way = way; tree = said; point = point.Meant meaning }) held
        (meant-held meaning can not)
        (λ is. (record { asking = is_on.0; held = meant-held meaning can not is_on.0 is_on.1; truly = means is; asked = tt }, none-added))

  -- ---- where all but its end is done

  module _ (own own' : List ℕ) (a b : ToldHouse D) (was : Asking) (way : Way) (said : Stmt) (meaning : Meaning) (on : WasOnWay (trail_in a) was way said)
      (running : IsOpenHouse a) (kept : IsWholeOrClosed told b.house) (is_on : IsOnWay (entries_of a.house) way said)
      (can : CanEnd (entries_of a.house) meaning)
      (means : IsToldHouse told a.house → meant (take way.place (entries_of a.house)) said ≡ Some meaning) where
    ready-held : (ready : Ready) (asking : Asking) → IsReadyToEnd (entries_of b.house) asking way.txn.0 way.place said ready
        → IsHeld (entries_of b.house) asking (record { way = way; tree = said; point = point.Ready ready })
    ready-held ready asking to_end = record { given = to_end.given; under_way = to_end.under_way; none = tt; can = to_end.can; unrefused = tt }

    ready-truly : (ready : Ready) (asking : Asking) → IsTrulyReady (entries_of b.house) asking way.txn.0 way.place said ready
        → HasAskedAtPoint (entries_of b.house) way.txn.0 (point.Ready ready)
        → IsTrulyHeld (entries_of b.house) (record { way = way; tree = said; point = point.Ready ready })
    unfolding ready-held
    ready-truly ready asking truly asked = record { asking = asking; held = ready-held ready asking truly.to_end; truly = truly.truly; asked = asked }

    pub ready-goes : (ready : Ready)
        → Goes (among told faults B meanwhile) (faults_in faults a) way.txn.0 (known own a) (known own' b)
        (PreparesAsked way.txn.0 b (IsAskIn b way said) meaning) (Ok (prepared.Ready ready))
        → GoesToHold (among told faults B meanwhile) way (up_to said (Some stage.Commit)) (known own a) (known own' b)
        (Ok (carried.Kept (record { way = way; tree = said; point = point.Ready ready })))
        → GoesAlone told faults (on_course way (up_to said (Some stage.Commit))) a.house b.house
        (Ok (carried.Kept (record { way = way; tree = said; point = point.Ready ready })))
    ready-goes ready goes held =
        let so : (asking : Asking) → IsUnderWay (entries_of a.house) asking way.txn.0 way.place said [] → IsReadiedAlone asking said way meaning a b ready =
        λ asking under. readied-alone told faults B acts.nothing own own' a b way said meaning kept can ready goes.done asking under in
        kept-goes own own' a b was way said (Some stage.Commit) on running kept (record { way = way; tree = said; point = point.Ready ready }) held
        (λ asking under. ready-held ready asking (so asking under).stands)
        (λ is. (
          ready-truly ready is_on.0 ((so is_on.0 is_on.1).truly (means is))
              (asked-at told b way is_on.0 said ready (so is_on.0 is_on.1).stands (held.goes was on).done.is.6.3
              (told-stays told a.house b.house (adds-alone faults B acts.nothing own own' a b goes.done.added goes.done.adds).start is)),
          (so is_on.0 is_on.1).in_order (means is),
        ))

    -- it ended on the way
    pub broken-goes : (found : Done)
        → Goes (among told faults B meanwhile) (faults_in faults a) way.txn.0 (known own a) (known own' b)
        (PreparesAsked way.txn.0 b (IsAskIn b way said) meaning) (Ok (prepared.Ended found))
        → GoesToHold (among told faults B meanwhile) way (up_to said (Some stage.Commit)) (known own a) (known own' b) (Ok (carried.Ended found))
        → GoesAlone told faults (on_course way (up_to said (Some stage.Commit))) a.house b.house (Ok (carried.Ended found))
    broken-goes found goes held =
        let ends =
        from-alone told faults B meanwhile acts own own' a b running kept way said meaning (Ok found) (record {
          done = record {
            added = goes.done.added;
            adds = goes.done.adds;
            of_it = goes.done.of_it;
            counts = goes.done.counts;
            is = inl goes.done.is;
            running = goes.done.running;
          };
          halted = tt;
        })
        (λ is. asked-truly way.txn.0 b (IsAskIn b way said) meaning found goes.done.added goes.done.is) is_on means in
        ended-goes own own' a b was way said (Some stage.Commit) on running kept found held ends.own ends.truly
