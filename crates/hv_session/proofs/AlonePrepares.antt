-- Where others add nothing, a statement is prepared as over a house alone.
use Rattle.std.proofs.Common.{◌≡◌, ◌⊎◌, inl, inr, ℕ, ◌<◌, Option, Some, List, [], ◌∷◌, ◌++◌, refl, sym, ap, ◌∙◌, subst, append-nil, append_assoc}
use Rattle.std.specs.List.{AllByRecursion}
use Rattle.hv_base.specs.declared.ids.JobId.{JobId}
use Rattle.hv_base.specs.declared.ids.TableId.{TableId}
use Rattle.hv_base.specs.declared.ids.WriteId.{WriteId}
use Rattle.hv_shelf.specs.Disk.{Store}
use Rattle.hv_ast.specs.declared.statement.Stmt.{Stmt}
use Rattle.hv_ast.specs.declared.table.CompactionKind.{CompactionKind}
use Rattle.hv_logic.specs.declared.catalog.TableInfo.{TableInfo}
use Rattle.hv_logic.specs.declared.effect.Effect.{Effect}
use Rattle.hv_logic.specs.declared.meaning.Meaning.{Meaning}
use Rattle.hv_logic.specs.declared.meaning.Meaning.TheVariants.{Listing, Change, Make, Unmake, Refused, Twice, RowLimit, PartitionLimit, Plain, Ask}
use Rattle.hv_history.specs.declared.entry.Entry.{Entry}
use Rattle.hv_history.specs.declared.entry.Cause.{Cause}
use Rattle.hv_history.specs.declared.entry.Cause.TheVariants as cause
use Rattle.hv_history.specs.declared.entry.JobKind.{JobKind}
use Rattle.hv_history.specs.JobsTrue.{kind_of}
use Rattle.hv_history.specs.State.{state_of}
use Rattle.hv_history.specs.Legal.{Of, IsRunning, TouchesAreMeant}
use Rattle.hv_history.specs.Answers.{listing, counts_line, committed_text, ok_line}
use Rattle.hv_stands.specs.Laws.{changes_in}
use Rattle.hv_stands.specs.Running.{Asking, IsUnderWay}
use Rattle.hv_stands.specs.Statements.{AllFitting}
use Rattle.hv_stands.proofs.Begun.{ids-given}
use Rattle.hv_trail.specs.declared.trail.TrailItem.{TrailItem}
use Rattle.hv_beginning.specs.hv_steps.specs.hv_table_reader.specs.hv_acts.specs.hv_telling.specs.hv_house.specs.House.{entries_of}
use Rattle.hv_beginning.specs.hv_steps.specs.hv_table_reader.specs.hv_acts.specs.declared.told.ToldHouse.{ToldHouse}
use Rattle.hv_beginning.specs.hv_steps.specs.hv_table_reader.specs.hv_acts.specs.Told.{IsWholeOrClosed}
use Rattle.hv_beginning.specs.hv_steps.specs.hv_table_reader.specs.hv_acts.proofs.Steps.{book-is}
use Rattle.hv_beginning.specs.hv_steps.specs.Ending.{IsUndamaged, HasEndedAt, HasReplied, EndsUncommitted, AddsNoneOrOne, IsAskedBy, CanEnd, aborting, giving, job_asked, idle_end}
use Rattle.hv_beginning.specs.hv_steps.specs.hv_table_reader.specs.hv_acts.specs.Meant.{IsNoEnd}
use Rattle.hv_beginning.specs.hv_steps.specs.declared.ready.Way.{Way}
use Rattle.hv_beginning.specs.hv_steps.specs.declared.ready.Ready.{Ready}
use Rattle.hv_beginning.specs.hv_steps.specs.declared.ready.End.TheVariants as end
use Rattle.hv_beginning.specs.hv_steps.specs.declared.reply.Done.{Done}
use Rattle.hv_beginning.specs.hv_steps.specs.declared.reply.Done.TheVariants as done
use Rattle.hv_beginning.specs.hv_steps.specs.declared.reply.Prepared.TheVariants as prepared
use Rattle.hv_beginning.specs.hv_steps.specs.Going.{faults_in, IsOpenHouse, AddsOwn, Gains}
use Rattle.hv_beginning.specs.hv_steps.specs.Phases.{AsksJob, PreparesTo, IsReadyAs, EndsEarlyFor, IsWriteFault, NoCause, BreaksFor, GivesId, AbortsFor, IsAbortFor}
use Rattle.hv_session.specs.Alone.{AddsNothing, HasGained, IsPreparedAlone, PreparesAlone, on_its_way}
use Rattle.hv_beginning.specs.hv_steps.proofs.Touched.{touches-none}
use Rattle.hv_session.proofs.AloneBooks.{adds-alone}
use Rattle.hv_session.proofs.AloneEnds.{way-runs, runs-open, never-gone, last-named}
use Rattle.hv_session.proofs.AloneReady.{plain-ready, idle-ready, job-ready, change-ready}
use Rattle.hv_session.proofs.JobsAsked.{job-under}
use Rattle.hv_actor.specs.Acting.{known}

-- ---- the causes

-- it is neither for a conflict nor for a damaged file, and no other transaction asks for it
pub record IsPlain (why : Cause) : Type 0 where
  pub uncommitted : EndsUncommitted why
  pub undamaged : (txn : ℕ) → IsUndamaged (aborting txn why)

never-conflict : (meaning : Meaning) (by_ : _) (table : _) (partition : List ℕ) → EndsEarlyFor meaning (cause.Conflict by_ table partition) → ⊥
never-conflict (Listing names rows) by_ table partition never = never
never-conflict (Change info effect) by_ table partition never = never
never-conflict (Make shape) by_ table partition never = never
never-conflict (Unmake other) by_ table partition never = never
never-conflict (Refused why) by_ table partition never = never
never-conflict (Twice region row) by_ table partition never = never
never-conflict RowLimit by_ table partition never = never
never-conflict PartitionLimit by_ table partition never = never
never-conflict Plain by_ table partition never = never
never-conflict (Ask asked region kind) by_ table partition never = never

never-asked : (meaning : Meaning) (by_ : _) → EndsEarlyFor meaning (cause.Request by_) → ⊥
never-asked (Listing names rows) by_ never = never
never-asked (Change info effect) by_ never = never
never-asked (Make shape) by_ never = never
never-asked (Unmake table) by_ never = never
never-asked (Refused why) by_ never = never
never-asked (Twice region row) by_ never = never
never-asked RowLimit by_ never = never
never-asked PartitionLimit by_ never = never
never-asked Plain by_ never = never
never-asked (Ask asked region kind) by_ never = never

never-damaged : (meaning : Meaning) (place : _) → EndsEarlyFor meaning (cause.Damaged place) → ⊥
never-damaged (Listing names rows) place never = never
never-damaged (Change info effect) place never = never
never-damaged (Make shape) place never = never
never-damaged (Unmake table) place never = never
never-damaged (Refused why) place never = never
never-damaged (Twice region row) place never = never
never-damaged RowLimit place never = never
never-damaged PartitionLimit place never = never
never-damaged Plain place never = never
never-damaged (Ask asked region kind) place never = never

pub early-plain : (meaning : Meaning) (why : Cause) → EndsEarlyFor meaning why → IsPlain why
early-plain meaning (cause.Conflict by_ table partition) is = absurd (never-conflict meaning by_ table partition is)
early-plain meaning (cause.Damaged place) is = absurd (never-damaged meaning place is)
early-plain meaning (cause.Refused number) is = record { uncommitted = tt; undamaged = λ txn. tt }
early-plain meaning (cause.Request by_) is = absurd (never-asked meaning by_ is)
early-plain meaning cause.Full is = record { uncommitted = tt; undamaged = λ txn. tt }
early-plain meaning (cause.Twice partition row) is = record { uncommitted = tt; undamaged = λ txn. tt }
early-plain meaning (cause.Blocked holder) is = record { uncommitted = tt; undamaged = λ txn. tt }
early-plain meaning (cause.ReadFault count) is = record { uncommitted = tt; undamaged = λ txn. tt }
early-plain meaning (cause.WriteFault count) is = record { uncommitted = tt; undamaged = λ txn. tt }
early-plain meaning cause.RowLimit is = record { uncommitted = tt; undamaged = λ txn. tt }
early-plain meaning cause.PartitionLimit is = record { uncommitted = tt; undamaged = λ txn. tt }
early-plain meaning cause.Memory is = record { uncommitted = tt; undamaged = λ txn. tt }
early-plain meaning cause.Lost is = record { uncommitted = tt; undamaged = λ txn. tt }
early-plain meaning cause.Rollback is = record { uncommitted = tt; undamaged = λ txn. tt }

pub write-plain : (why : Cause) → IsWriteFault why → IsPlain why
write-plain (cause.WriteFault count) is = record { uncommitted = tt; undamaged = λ txn. tt }
write-plain (cause.Conflict by_ table partition) is = absurd is
write-plain (cause.Damaged place) is = absurd is
write-plain (cause.Refused number) is = absurd is
write-plain (cause.Request by_) is = absurd is
write-plain cause.Full is = absurd is
write-plain (cause.Twice partition row) is = absurd is
write-plain (cause.Blocked holder) is = absurd is
write-plain (cause.ReadFault count) is = absurd is
write-plain cause.RowLimit is = absurd is
write-plain cause.PartitionLimit is = absurd is
write-plain cause.Memory is = absurd is
write-plain cause.Lost is = absurd is
write-plain cause.Rollback is = absurd is

pub or-plain : (Causes : Cause → Type 0) → ((why : Cause) → Causes why → IsPlain why) → (why : Cause) → Causes why ⊎ (why ≡ cause.Memory) → IsPlain why
or-plain Causes plain why (inl is) = plain why is
or-plain Causes plain why (inr is) = subst IsPlain (sym is) (record { uncommitted = tt; undamaged = λ txn. tt })

-- those for which it is behind what it noted
pub breaks-plain : (meaning : Meaning) (why : Cause) → BreaksFor meaning why → IsPlain why
breaks-plain (Change info effect) why is = write-plain why is
breaks-plain (Listing names rows) why is = absurd is
breaks-plain (Make shape) why is = absurd is
breaks-plain (Unmake table) why is = absurd is
breaks-plain (Refused refusal) why is = absurd is
breaks-plain (Twice region row) why is = absurd is
breaks-plain RowLimit why is = absurd is
breaks-plain PartitionLimit why is = absurd is
breaks-plain Plain why is = absurd is
breaks-plain (Ask table partition kind) why is = absurd is

-- ---- what goes before its abort: nothing, or its write id, or the job that it asks for

pub record IsBefore (book : List Entry) (txn : ℕ) (meaning : Meaning) (first : List Entry) : Type 0 where
  pub shape : AddsNoneOrOne txn first
  pub unended : AllByRecursion (IsNoEnd txn) first
  pub undamaged : AllByRecursion IsUndamaged first
  pub asked : AllByRecursion (IsAskedBy meaning) first
  pub runs : Of (state_of (book ++ first)) txn IsRunning

pub all-behind : {A : Type 0} (P : A → Type 0) (xs : List A) (x : A) → AllByRecursion P xs → P x → AllByRecursion P (xs ++ x ∷ [])
all-behind P [] x all is = (is, tt)
all-behind P (y ∷ xs) x all is = (all.0, all-behind P xs x all.1 is)

pub nothing-before : (book : List Entry) (asking : Asking) (txn place : ℕ) (said : Stmt) (meaning : Meaning) → IsUnderWay book asking txn place said [] → IsBefore book txn meaning []
nothing-before book asking txn place said meaning way = record {
  shape = inl refl;
  unended = tt;
  undamaged = tt;
  asked = tt;
  runs = subst (λ (b : List Entry). Of (state_of b) txn IsRunning) (sym (append-nil book)) (way-runs book asking txn place said [] way);
}

pub id-before : (book : List Entry) (asking : Asking) (txn place : ℕ) (said : Stmt) (info : TableInfo) (effect : Effect) (write : WriteId) → 0 < changes_in effect
    → IsUnderWay book asking txn place said [] → IsBefore book txn (Change info effect) (giving txn info.table write ∷ [])
id-before book asking txn place said info effect write some way = record {
  shape = inr (inl (info.table, write, refl));
  unended = (tt, tt);
  undamaged = (tt, tt);
  asked = ((refl, some), tt);
  runs = way-runs (book ++ giving txn info.table write ∷ []) asking txn place said _ (ids-given book asking txn place said [] info.table write way);
}

pub job-before : (book : List Entry) (asking : Asking) (txn place : ℕ) (said : Stmt) (meaning : Meaning) (job : JobId) (table : TableId) (partition : List ℕ) (kind : JobKind)
    → IsUnderWay book asking txn place said [] → IsBefore book txn meaning (job_asked txn job table partition kind ∷ [])
job-before book asking txn place said meaning job table partition kind way = record {
  shape = inr (inr (job, table, partition, kind, refl));
  unended = (tt, tt);
  undamaged = (tt, tt);
  asked = (tt, tt);
  runs = way-runs (book ++ job_asked txn job table partition kind ∷ []) asking txn place said []
      (job-under book asking txn place said job table partition kind way);
}

-- ---- it has ended

module _ {D : Type 0} (told : D → Option Store) (faults : D → ℕ) (B : List TrailItem → Type 0) (none : AddsNothing B)
    (asking : Asking) (said : Stmt) (way : Way) (own own' : List ℕ) (before now : ToldHouse D) (under : IsUnderWay (entries_of before.house) asking way.txn.0 way.place said [])
    (kept : IsWholeOrClosed told now.house) where
  ended-alone : (meaning : Meaning) (first : List Entry) (Causes : Cause → Type 0) (found : Done) → IsBefore (entries_of before.house) way.txn.0 meaning first
      → ((why : Cause) → Causes why → IsPlain why)
      → Gains faults B (faults_in faults before) way.txn.0 (known own before) (known own' now) (AbortsFor way.txn.0 now first Causes found)
      → IsPreparedAlone faults (on_its_way asking said way) meaning before now (prepared.Ended found)
  ended-alone meaning first Causes (done.Gone reply) goes_before plain gains =
      absurd (never-gone faults B none way.txn.0 gains.is.1.at own own' before now first (way-runs (entries_of before.house) asking way.txn.0 way.place said [] under)
      (subst (λ (added : List Entry). AddsOwn faults B way.txn.0 (known own before) (known own' now) added) gains.is.0 gains.adds) goes_before.unended
      gains.is.1.gone)
  ended-alone meaning first Causes (done.Replied reply) goes_before plain gains =
      let gained : HasGained faults before now gains.added = adds-alone faults B none own own' before now gains.added gains.adds in
      let last : Entry = gains.is.0 in
      let abort : IsAbortFor way.txn.0 now Causes last reply = gains.is.2 in
      let is_plain : IsPlain abort.why = or-plain Causes plain abort.why abort.is in
      let shape : gains.added ≡ first ++ aborting way.txn.0 abort.why ∷ [] = gains.is.1 ∙ ap (λ (e : Entry). first ++ e ∷ []) abort.entry_is in
      let book : entries_of now.house ≡ (entries_of before.house ++ first) ++ last ∷ [] =
      gained.book ∙ ap (λ (xs : List Entry). entries_of before.house ++ xs) gains.is.1 ∙ sym (append_assoc (entries_of before.house) first (last ∷ [])) in
      let ended : HasEndedAt (entries_of now.house) way.txn.0 reply.ended =
      subst (λ (b : List Entry). HasEndedAt b way.txn.0 reply.ended) (book-is now.house) gains.is.3 in
      record {
        prepares = record {
          added = gains.added;
          book = gained.book;
          shape = (first, abort.why, goes_before.shape, is_plain.uncommitted, shape);
          of_it = gains.of_it;
          counts = gains.counts;
          undamaged = subst (AllByRecursion IsUndamaged) (sym shape)
              (all-behind IsUndamaged first (aborting way.txn.0 abort.why) goes_before.undamaged (is_plain.undamaged way.txn.0));
        };
        stands = tt;
        truly = λ means. subst (λ (b : List Entry). HasReplied b way.txn.0 reply.text reply.refused reply.ended) (book-is now.house) abort.answered;
        last = last-named (entries_of now.house) (entries_of before.house ++ first) way.txn.0 last reply.ended book (kept.whole gains.running).ready.fit
            (runs-open (state_of (entries_of before.house ++ first)) way.txn.0 goes_before.runs) ended;
        asked = record {
          added = gains.added;
          book = gained.book;
          asked = subst (AllByRecursion (IsAskedBy meaning)) (sym shape) (all-behind (IsAskedBy meaning) first (aborting way.txn.0 abort.why) goes_before.asked tt);
        };
      }

  -- behind its write id, or its job
  broken-alone : (meaning : Meaning) (first : List Entry) (found : Done) → GivesId way.txn.0 meaning first
      → Gains faults B (faults_in faults before) way.txn.0 (known own before) (known own' now) (AbortsFor way.txn.0 now first (BreaksFor meaning) found)
      → IsPreparedAlone faults (on_its_way asking said way) meaning before now (prepared.Ended found)
  broken-alone (Change info effect) first found gives gains =
      ended-alone (Change info effect) (giving way.txn.0 info.table gives.0 ∷ []) IsWriteFault found
      (id-before (entries_of before.house) asking way.txn.0 way.place said info effect gives.0 gives.1 under) write-plain
      (subst (λ (f : List Entry). Gains faults B (faults_in faults before) way.txn.0 (known own before) (known own' now)
      (AbortsFor way.txn.0 now f IsWriteFault found)) gives.2 gains)
  broken-alone (Listing names rows) first found gives gains = absurd gives
  broken-alone (Make shape) first found gives gains = absurd gives
  broken-alone (Unmake table) first found gives gains = absurd gives
  broken-alone (Refused why) first found gives gains = absurd gives
  broken-alone (Twice region row) first found gives gains = absurd gives
  broken-alone RowLimit first found gives gains = absurd gives
  broken-alone PartitionLimit first found gives gains = absurd gives
  broken-alone Plain first found gives gains = absurd gives
  broken-alone (Ask table partition kind) first found gives gains =
      ended-alone (Ask table partition kind) (job_asked way.txn.0 gives.0 table partition (kind_of kind) ∷ []) NoCause found
      (job-before (entries_of before.house) asking way.txn.0 way.place said (Ask table partition kind) gives.0 table partition (kind_of kind) under)
      (λ why never. absurd never)
      (subst (λ (f : List Entry). Gains faults B (faults_in faults before) way.txn.0 (known own before) (known own' now)
      (AbortsFor way.txn.0 now f NoCause found)) gives.1 gains)

  -- ---- it is ready

  module _ (ready : Ready) (running : IsOpenHouse now) (added : List Entry) (gained : HasGained faults before now added) where
    same-book : added ≡ [] → entries_of now.house ≡ entries_of before.house
    same-book is = gained.book ∙ ap (λ (xs : List Entry). entries_of before.house ++ xs) is ∙ append-nil (entries_of before.house)

    idle-alone : (meaning : Meaning) (text : List ℕ) → TouchesAreMeant [] (Some meaning) → text ≡ committed_text (Some meaning) [] → added ≡ [] → IsReadyAs ready idle_end text
        → IsPreparedAlone faults (on_its_way asking said way) meaning before now (prepared.Ready ready)
    idle-alone meaning text are says is so = idle-ready faults asking said way before now under ready meaning text are says (same-book is) so.0 so.1

    job-alone : (table : TableId) (partition : List ℕ) (kind : CompactionKind) → AsksJob way.txn.0 table partition kind added → IsReadyAs ready idle_end ok_line
        → IsPreparedAlone faults (on_its_way asking said way) (Ask table partition kind) before now (prepared.Ready ready)
    job-alone table partition kind (inl is) so = idle-alone (Ask table partition kind) ok_line refl refl is so
    job-alone table partition kind (inr is) so =
        job-ready faults asking said way before now under ready table partition kind is.0
        (gained.book ∙ ap (λ (xs : List Entry). entries_of before.house ++ xs) is.1) so.0 so.1

    ready-alone : (meaning : Meaning) → CanEnd (entries_of before.house) meaning → PreparesTo way.txn.0 meaning ready added
        → IsPreparedAlone faults (on_its_way asking said way) meaning before now (prepared.Ready ready)
    ready-alone (Listing names rows) can so = idle-alone (Listing names rows) (listing names rows) refl refl so.0 so.1
    ready-alone Plain can so = idle-alone Plain ok_line refl refl so.0 so.1
    ready-alone (Ask table partition kind) can so = job-alone table partition kind so.0 so.1
    ready-alone (Make shape) can so =
        plain-ready faults asking said way before now under ready (Make shape) end.Create ok_line (same-book so.0) so.1.0 so.1.1 tt
        (record { makes = tt; reply = refl; none = refl })
    ready-alone (Unmake table) can so =
        plain-ready faults asking said way before now under ready (Unmake table) (end.Drop table) ok_line (same-book so.0) so.1.0 so.1.1 tt
        (record { drops = refl; reply = refl; none = refl })
    ready-alone (Change info effect) can (inl so) = idle-alone (Change info effect) (counts_line []) (touches-none info effect so.1) refl so.0 so.2
    ready-alone (Change info effect) can (inr so) =
        let book : entries_of now.house ≡ entries_of before.house ++ giving way.txn.0 info.table so.0 ∷ [] =
        gained.book ∙ ap (λ (xs : List Entry). entries_of before.house ++ xs) so.2 in
        change-ready faults asking said way before now under ready info effect so.0 so.1 book (subst AllFitting book (kept.whole running).ready.fit) can so.3 so.4
    ready-alone (Refused why) can so = absurd so
    ready-alone (Twice region row) can so = absurd so
    ready-alone RowLimit can so = absurd so
    ready-alone PartitionLimit can so = absurd so

module _ {D : Type 0} (told : D → Option Store) (faults : D → ℕ) (B : List TrailItem → Type 0) (none : AddsNothing B) where
  pub prepares-alone : PreparesAlone told faults B
  prepares-alone asking said way own own' before now meaning (prepared.Ready ready) under can kept gains =
      ready-alone told faults B none asking said way own own' before now under kept ready gains.running gains.added
      (adds-alone faults B none own own' before now gains.added gains.adds) meaning can gains.is
  prepares-alone asking said way own own' before now meaning (prepared.Ended found) under can kept gains = by gains.is
    where
      low : ℕ
      low = faults_in faults before

      said_as : (first : List Entry) (Causes : Cause → Type 0) → AbortsFor way.txn.0 now first Causes found gains.added
          → Gains faults B low way.txn.0 (known own before) (known own' now) (AbortsFor way.txn.0 now first Causes found)
      said_as first Causes is = record { added = gains.added; adds = gains.adds; of_it = gains.of_it; counts = gains.counts; is = is; running = gains.running }

      by : AbortsFor way.txn.0 now [] (EndsEarlyFor meaning) found gains.added
          ⊎ ((first : List Entry) × GivesId way.txn.0 meaning first × AbortsFor way.txn.0 now first (BreaksFor meaning) found gains.added)
          → IsPreparedAlone faults (on_its_way asking said way) meaning before now (prepared.Ended found)
      by (inl early) =
          ended-alone told faults B none asking said way own own' before now under kept meaning [] (EndsEarlyFor meaning) found
          (nothing-before (entries_of before.house) asking way.txn.0 way.place said meaning under) (early-plain meaning) (said_as [] (EndsEarlyFor meaning) early)
      by (inr broken) =
          broken-alone told faults B none asking said way own own' before now under kept meaning broken.0 found broken.1 (said_as broken.0 (BreaksFor meaning) broken.2)
