-- A statement that is prepared over an actor: it is ready, or it ended on the way.
use Rattle.std.proofs.Common.{◌≡◌, ◌⊎◌, inl, inr, ℕ, ◌≤◌, ◌<◌, Option, Some, None, List, [], ◌∷◌, ◌++◌, refl, sym, ap, ◌∙◌, subst, append-nil, Ok, Err, Result}
use Rattle.std.specs.Prelude.{IfOk}
use Rattle.std.specs.List.{AllByRecursion}
use Rattle.hv_base.specs.declared.ids.TableId.{TableId}
use Rattle.hv_base.specs.declared.ids.TxnId.{TxnId}
use Rattle.hv_base.specs.declared.ids.WriteId.{WriteId}
use Rattle.hv_base.specs.declared.ids.Touch.{Touch}
use Rattle.hv_shelf.specs.Disk.{Store}
use Rattle.hv_logic.specs.declared.catalog.Shape.{Shape}
use Rattle.hv_logic.specs.declared.catalog.TableInfo.{TableInfo}
use Rattle.hv_logic.specs.declared.effect.Effect.{Effect}
use Rattle.hv_logic.specs.declared.meaning.Meaning.{Meaning}
use Rattle.hv_logic.specs.declared.meaning.Meaning.TheVariants.{Change, Make, Unmake, Ask}
use Rattle.hv_route.specs.Touching.{touches_of, touched}
use Rattle.hv_ast.specs.declared.table.CompactionKind.{CompactionKind}
use Rattle.hv_history.specs.declared.entry.Entry.{Entry}
use Rattle.hv_history.specs.declared.entry.Cause.{Cause}
use Rattle.hv_history.specs.declared.entry.Cause.TheVariants as cause
use Rattle.hv_history.specs.JobsTrue.{ask_of}
use Rattle.hv_history.specs.Legal.{TouchesAreMeant}
use Rattle.hv_history.specs.Answers.{counts_line, committed_text, ok_line}
use Rattle.hv_stands.specs.Laws.{changes_in}
use Rattle.hv_stands.specs.Running.{IsOf, IsOwnCause}
use Rattle.hv_trail.specs.declared.trail.TrailItem.{TrailItem}
use Rattle.hv_actor.specs.Acting.{AreRows, among, known}
use Rattle.hv_table_reader.specs.hv_acts.specs.hv_telling.specs.hv_house.specs.declared.fault.HouseFault.{HouseFault}
use Rattle.hv_table_reader.specs.hv_acts.specs.hv_telling.specs.hv_house.specs.declared.fault.HouseFault.TheVariants as fault
use Rattle.hv_table_reader.specs.hv_acts.specs.hv_telling.specs.Telling.{IsToldHouse}
use Rattle.hv_table_reader.specs.hv_acts.specs.declared.told.ToldHouse.{ToldHouse}
use Rattle.hv_table_reader.specs.hv_acts.specs.declared.fault.ActFault.{ActFault}
use Rattle.hv_table_reader.specs.hv_acts.specs.declared.fault.ActFault.TheVariants as act
use Rattle.hv_table_reader.specs.hv_acts.specs.declared.aborted.Aborted.{Aborted}
use Rattle.hv_table_reader.specs.hv_acts.specs.Told.{trail_in, book_in}
use Rattle.hv_table_reader.specs.hv_acts.specs.Passing.{HasStood, HasAskedAll}
use Rattle.hv_table_reader.specs.hv_acts.specs.Meant.{HasMeant, IsNoEnd}
use Rattle.hv_steps.specs.Ending.{KeepsCount, aborting, giving, idle_end, HasEndedAt}
use Rattle.hv_steps.specs.declared.ready.Way.{Way}
use Rattle.hv_steps.specs.declared.ready.End.{End}
use Rattle.hv_steps.specs.declared.ready.End.TheVariants as end
use Rattle.hv_steps.specs.declared.ready.Ready.{Ready}
use Rattle.hv_shelf.specs.declared.place.Place.{Place}
use Rattle.hv_table_reader.specs.hv_acts.proofs.Aborts.{own-abort}
use Rattle.hv_steps.proofs.Shorts.{short_idle, short_change}
use Rattle.hv_steps.specs.declared.reply.Done.{Done}
use Rattle.hv_steps.specs.declared.reply.Done.TheVariants as done
use Rattle.hv_steps.specs.declared.reply.Prepared.{Prepared}
use Rattle.hv_steps.specs.declared.reply.Prepared.TheVariants as prepared
use Rattle.hv_steps.specs.Going.{faults_in, IsOpenHouse, AddsOwn, Goes}
use Rattle.hv_steps.specs.Leaving.{EndsAct}
use Rattle.hv_steps.specs.Phases.{AbortsFor, IsAbortFor, IsReadyAs, AsksJob, PreparesTo, EndsEarlyFor, IsWriteFault, Prepares, NoCause, CanConclude, CanConcludeIn}
use Rattle.hv_steps.specs.Preparing.{ended, ended_by, failed_count, aborted_reply, EndsFor, end_said, MakesReady, IsFaultOf, HasItsId, HasJob, IsChangePut, change_under, Writes}
use Rattle.hv_steps.proofs.Joining.{adds-none, adds-front, told-earlier, gains-as, goes-behind, goes-on}
use Rattle.hv_steps.proofs.Ids.{MeansAt, meant-lasts, given-lasts, table-lasts}

-- ---- aborts, said in another way

pub aborts-more : {D : Type 0} (txn : ℕ) (now : ToldHouse D) (first : List Entry) (P Q : Cause → Type 0) → ((why : Cause) → P why → Q why ⊎ (why ≡ cause.Memory))
    → (found : Done) (added : List Entry) → AbortsFor txn now first P found added → AbortsFor txn now first Q found added
aborts-more txn now first P Q f (done.Gone reply) added ends = ends
aborts-more txn now first P Q f (done.Replied reply) added ends =
    let abort = ends.2 in
    (ends.0, ends.1, record { why = abort.why; is = by abort.why abort.is; entry_is = abort.entry_is; answered = abort.answered }, ends.3)
  where
    by : (why : Cause) → P why ⊎ (why ≡ cause.Memory) → Q why ⊎ (why ≡ cause.Memory)
    by why (inl is) = f why is
    by why (inr is) = inr is

-- it is its own
early-own : (info : TableInfo) (effect : Effect) (why : Cause) → EndsEarlyFor (Change info effect) why ⊎ (why ≡ cause.Memory) → IsOwnCause why
early-own info effect (cause.Request by) (inl early) = absurd early
early-own info effect (cause.Request by) (inr memory) = cc
early-own info effect why is = tt

job-own : (table : TableId) (partition : List ℕ) (kind : CompactionKind) (why : Cause) → EndsEarlyFor (Ask table partition kind) why ⊎ (why ≡ cause.Memory) → IsOwnCause why
job-own table partition kind (cause.Request by) (inl early) = absurd early
job-own table partition kind (cause.Request by) (inr memory) = cc
job-own table partition kind why is = tt

-- behind other entries
pub aborts-behind : {D : Type 0} (txn : ℕ) (now : ToldHouse D) (first : List Entry) (P : Cause → Type 0) (found : Done) (added : List Entry)
    → AbortsFor txn now [] P found added → AbortsFor txn now first P found (first ++ added)
aborts-behind txn now first P (done.Gone reply) added ends = (ap (λ (xs : List Entry). first ++ xs) ends.0 ∙ append-nil first, ends.1)
aborts-behind txn now first P (done.Replied reply) added ends = (ends.0, ap (λ (xs : List Entry). first ++ xs) ends.1, ends.2, ends.3)

pub fault-writes : (why : ActFault) (of : Cause) → IsFaultOf why of → IsWriteFault of
fault-writes (act.Ended at) of is = absurd is
fault-writes (act.Full entries) of is = absurd is
fault-writes (act.Held by) of is = absurd is
fault-writes (act.Broken put count) of is = absurd is
fault-writes act.Unfit of is = absurd is
fault-writes (act.House fault.Store) of is = absurd is
fault-writes (act.House fault.NoMemory) of is = absurd is
fault-writes (act.House (fault.Failed count)) of is = subst IsWriteFault (sym is) tt

pub failed-none : (why : ActFault) → failed_count why ≡ None → EndsAct why
failed-none (act.Ended at) e = tt
failed-none (act.Full entries) e = tt
failed-none (act.Held by) e = tt
failed-none (act.Broken put count) e = tt
failed-none act.Unfit e = tt
failed-none (act.House fault.Store) e = tt
failed-none (act.House fault.NoMemory) e = tt
failed-none (act.House (fault.Failed count)) e = let never : Some count ≡ None = e in cc

pub failed-some : (why : ActFault) (count : ℕ) → failed_count why ≡ Some count → why ≡ act.House (fault.Failed count)
failed-some (act.Ended at) count e = let never : None ≡ Some count = e in cc
failed-some (act.Full entries) count e = let never : None ≡ Some count = e in cc
failed-some (act.Held by) count e = let never : None ≡ Some count = e in cc
failed-some (act.Broken put other) count e = let never : None ≡ Some count = e in cc
failed-some act.Unfit count e = let never : None ≡ Some count = e in cc
failed-some (act.House fault.Store) count e = let never : None ≡ Some count = e in cc
failed-some (act.House fault.NoMemory) count e = let never : None ≡ Some count = e in cc
failed-some (act.House (fault.Failed other)) count e = ap (λ (n : ℕ). act.House (fault.Failed n)) (some-same e)
  where
    some-same : Some other ≡ Some count → other ≡ count
    some-same same = cc

-- no call on files was made
no-fault : (why : ActFault) (of : Cause) → EndsAct why → IsFaultOf why of → ⊥
no-fault (act.Ended at) of ends is = is
no-fault (act.Full entries) of ends is = is
no-fault (act.Held by) of ends is = is
no-fault (act.Broken put count) of ends is = is
no-fault act.Unfit of ends is = is
no-fault (act.House fault.Store) of ends is = is
no-fault (act.House fault.NoMemory) of ends is = is
no-fault (act.House (fault.Failed count)) of ends is = ends

-- an abort without a count of faults
early-counts : (info : TableInfo) (effect : Effect) (txn low high : ℕ) (why : Cause) → EndsEarlyFor (Change info effect) why → KeepsCount low high (aborting txn why)
early-counts info effect txn low high (cause.ReadFault count) is = absurd is
early-counts info effect txn low high (cause.WriteFault count) is = absurd is
early-counts info effect txn low high why is = tt

early-or-lacking : (info : TableInfo) (effect : Effect) (txn low high : ℕ) (why : Cause) → EndsEarlyFor (Change info effect) why ⊎ (why ≡ cause.Memory)
    → KeepsCount low high (aborting txn why)
early-or-lacking info effect txn low high why (inl is) = early-counts info effect txn low high why is
early-or-lacking info effect txn low high why (inr is) = subst (λ (c : Cause). KeepsCount low high (aborting txn c)) (sym is) tt

job-counts : (table : TableId) (partition : List ℕ) (kind : CompactionKind) (txn low high : ℕ) (why : Cause) → EndsEarlyFor (Ask table partition kind) why
    → KeepsCount low high (aborting txn why)
job-counts table partition kind txn low high (cause.ReadFault count) is = absurd is
job-counts table partition kind txn low high (cause.WriteFault count) is = absurd is
job-counts table partition kind txn low high why is = tt

job-or-lacking : (table : TableId) (partition : List ℕ) (kind : CompactionKind) (txn low high : ℕ) (why : Cause)
    → EndsEarlyFor (Ask table partition kind) why ⊎ (why ≡ cause.Memory) → KeepsCount low high (aborting txn why)
job-or-lacking table partition kind txn low high why (inl is) = job-counts table partition kind txn low high why is
job-or-lacking table partition kind txn low high why (inr is) = subst (λ (c : Cause). KeepsCount low high (aborting txn c)) (sym is) tt

-- the job that is asked for is its own, and ends nothing
pub job-of : (txn : ℕ) (table : TableId) (partition : List ℕ) (kind : CompactionKind) (first : List Entry) → AsksJob txn table partition kind first → AllByRecursion (IsOf txn) first
job-of txn table partition kind first (inl none) = subst (AllByRecursion (IsOf txn)) (sym none) tt
job-of txn table partition kind first (inr is) = subst (AllByRecursion (IsOf txn)) (sym is.1) (refl, tt)

pub job-unended : (txn : ℕ) (table : TableId) (partition : List ℕ) (kind : CompactionKind) (first : List Entry) → AsksJob txn table partition kind first
    → AllByRecursion (IsNoEnd txn) first
job-unended txn table partition kind first (inl none) = subst (AllByRecursion (IsNoEnd txn)) (sym none) tt
job-unended txn table partition kind first (inr is) = subst (AllByRecursion (IsNoEnd txn)) (sym is.1) (tt, tt)

-- it ended behind what it had asked for
job-broken : {D : Type 0} (txn : ℕ) (now : ToldHouse D) (table : TableId) (partition : List ℕ) (kind : CompactionKind) (first : List Entry)
    → AsksJob txn table partition kind first → (found : Done) (more : List Entry) → AbortsFor txn now [] NoCause found more
    → Prepares txn now (Ask table partition kind) (prepared.Ended found) (first ++ more)
job-broken txn now table partition kind first (inl none) found more ends =
    inl (subst (AbortsFor txn now [] (EndsEarlyFor (Ask table partition kind)) found) (ap (λ (xs : List Entry). xs ++ more) (sym none))
    (aborts-more txn now [] NoCause (EndsEarlyFor (Ask table partition kind)) (λ why never. absurd never) found more ends))
job-broken txn now table partition kind first (inr is) found more ends =
    inr (first, is, aborts-behind txn now first NoCause found more ends)

-- ---- parts

module _ {D : Type 0} (told : D → Option Store) (faults : D → ℕ) (B : List TrailItem → Type 0) (rows : AreRows B) (meanwhile : ToldHouse D → ToldHouse D → Type 0) (txn : ℕ) where
  -- said in another way
  pub goes-as : {T : Type 0} (low : ℕ) (own own' : List ℕ) (a b : ToldHouse D) (Is Js : T → List Entry → Type 0) (result : Result T HouseFault)
      → ((x : T) (added : List Entry) → Is x added → Js x added)
      → Goes (among told faults B meanwhile) low txn (known own a) (known own' b) Is result
      → Goes (among told faults B meanwhile) low txn (known own a) (known own' b) Js result
  goes-as low own own' a b Is Js (Ok x) f goes = record { done = gains-as faults B rows low txn own own' a b (Is x) (Js x) (f x) goes.done; halted = tt }
  goes-as low own own' a b Is Js (Err why) f goes = record { done = tt; halted = goes.halted }

  pub goes-ended : (low : ℕ) (own own' : List ℕ) (a b : ToldHouse D) (P : Cause → Type 0) (result : Result Done HouseFault)
      → Goes (among told faults B meanwhile) low txn (known own a) (known own' b) (AbortsFor txn b [] P) result
      → Goes (among told faults B meanwhile) low txn (known own a) (known own' b) (EndsFor txn b P) (ended result)
  goes-ended low own own' a b P (Ok found) goes =
      record { done = gains-as faults B rows low txn own own' a b (AbortsFor txn b [] P found) (EndsFor txn b P (prepared.Ended found)) (λ added is. is) goes.done; halted = tt }
  goes-ended low own own' a b P (Err why) goes = record { done = tt; halted = goes.halted }

  -- nothing was done
  pub goes-ready : (low : ℕ) (own : List ℕ) (a : ToldHouse D) (last : End) (text : List ℕ) (ready : Ready) → IsOpenHouse a → ready.end ≡ last → ready.text ≡ text
      → Goes (among told faults B meanwhile) low txn (known own a) (known own a) (MakesReady txn a a (end_said last text)) (Ok (prepared.Ready ready))
  goes-ready low own a last text ready running end_is text_is = record {
    done = record { added = []; adds = adds-none faults B rows own a; of_it = tt; counts = tt; is = (refl, (end_is, text_is), refl); running = running };
    halted = tt;
  }

  -- a call on files failed, and it is aborted for that
  pub goes-failed : (low : ℕ) (own own' : List ℕ) (a b : ToldHouse D) (why : ActFault) (count : ℕ) (result : Result Prepared HouseFault) → why ≡ act.House (fault.Failed count)
      → Goes (among told faults B meanwhile) low txn (known own a) (known own' b) (EndsFor txn b (λ of. of ≡ cause.WriteFault count)) result
      → Goes (among told faults B meanwhile) low txn (known own a) (known own' b) (EndsFor txn b (IsFaultOf why)) result
  goes-failed low own own' a b why count result e goes =
      subst (λ (w : ActFault). Goes (among told faults B meanwhile) low txn (known own a) (known own' b) (EndsFor txn b (IsFaultOf w)) result) (sym e) goes

  -- a memory that lacks is said in any way
  pub goes-lacking : (low : ℕ) (own own' : List ℕ) (a b : ToldHouse D) (P : Cause → Type 0) (found : Result Done HouseFault) (result : Result Prepared HouseFault)
      → result ≡ ended found → Goes (among told faults B meanwhile) low txn (known own a) (known own' b) (AbortsFor txn b [] NoCause) found
      → Goes (among told faults B meanwhile) low txn (known own a) (known own' b) (EndsFor txn b P) result
  goes-lacking low own own' a b P found result e goes =
      subst (λ (r : Result Prepared HouseFault). Goes (among told faults B meanwhile) low txn (known own a) (known own' b) (EndsFor txn b P) r) (sym e)
      (goes-ended low own own' a b P found
      (goes-as low own own' a b (AbortsFor txn b [] NoCause) (AbortsFor txn b [] P) found
      (λ done added. aborts-more txn b [] NoCause P (λ why never. absurd never) done added) goes))

  -- memory lacked for its text
  pub lacking-ready : (low : ℕ) (own own' : List ℕ) (a b first : ToldHouse D) (last : End) (text : List ℕ) (result : Result Prepared HouseFault)
      → Goes (among told faults B meanwhile) low txn (known own a) (known own' b) (EndsFor txn b (λ why. why ≡ cause.Memory)) result
      → Goes (among told faults B meanwhile) low txn (known own a) (known own' b) (MakesReady txn first b (end_said last text)) result
  lacking-ready low own own' a b first last text result goes =
      goes-as low own own' a b (EndsFor txn b (λ why. why ≡ cause.Memory)) (MakesReady txn first b (end_said last text)) result by goes
    where
      by : (found : Prepared) (added : List Entry) → EndsFor txn b (λ why. why ≡ cause.Memory) found added → MakesReady txn first b (end_said last text) found added
      by (prepared.Ready ready) added ends = absurd ends
      by (prepared.Ended found) added ends = aborts-more txn b [] (λ why. why ≡ cause.Memory) NoCause (λ why is. inr is) found added ends

  -- it is ready to touch nothing
  pub made-goes : (low : ℕ) (own own' : List ℕ) (a b : ToldHouse D) (last : End) (text : List ℕ) (result : Result Prepared HouseFault) → last ≡ idle_end
      → Goes (among told faults B meanwhile) low txn (known own a) (known own' b) (MakesReady txn a b (end_said last text)) result
      → Goes (among told faults B meanwhile) low txn (known own a) (known own' b) (MakesReady txn a b (end_said idle_end text)) result
  made-goes low own own' a b last text result e goes =
      subst (λ (end_ : End). Goes (among told faults B meanwhile) low txn (known own a) (known own' b) (MakesReady txn a b (end_said end_ text)) result) e goes

  -- ---- it ends so: it can be concluded

  pub ends-can : (low : ℕ) (own own' : List ℕ) (a b : ToldHouse D) (way : Way) (P : Cause → Type 0) (result : Result Prepared HouseFault)
      → Goes (among told faults B meanwhile) low txn (known own a) (known own' b) (EndsFor txn b P) result → IfOk result (CanConcludeIn told b way)
  ends-can low own own' a b way P (Ok (prepared.Ready ready)) goes = absurd goes.done.is
  ends-can low own own' a b way P (Ok (prepared.Ended found)) goes = tt
  ends-can low own own' a b way P (Err why) goes = tt

  -- ---- a meaning for which it is aborted

  pub early-prepares : (low : ℕ) (own own' : List ℕ) (a b : ToldHouse D) (meaning : Meaning) (why : Cause) (result : Result Prepared HouseFault)
      → EndsEarlyFor meaning why ⊎ (why ≡ cause.Memory) → Goes (among told faults B meanwhile) low txn (known own a) (known own' b)
      (EndsFor txn b (λ of. of ≡ why)) result
      → Goes (among told faults B meanwhile) low txn (known own a) (known own' b) (Prepares txn b meaning) result
  early-prepares low own own' a b meaning why result is goes =
      goes-as low own own' a b (EndsFor txn b (λ of. of ≡ why)) (Prepares txn b meaning) result by goes
    where
      of-it : EndsEarlyFor meaning why ⊎ (why ≡ cause.Memory) → (of : Cause) → of ≡ why → EndsEarlyFor meaning of ⊎ (of ≡ cause.Memory)
      of-it (inl early) of same = inl (subst (EndsEarlyFor meaning) (sym same) early)
      of-it (inr memory) of same = inr (same ∙ memory)

      by : (found : Prepared) (added : List Entry) → EndsFor txn b (λ of. of ≡ why) found added → Prepares txn b meaning found added
      by (prepared.Ready ready) added ends = absurd ends
      by (prepared.Ended found) added ends = inl (aborts-more txn b [] (λ of. of ≡ why) (EndsEarlyFor meaning) (of-it is) found added ends)

  -- ---- a meaning by which nothing is noted but its end

  pub made-prepares : (low : ℕ) (own own' : List ℕ) (a b : ToldHouse D) (meaning : Meaning) (last : End) (text : List ℕ) (result : Result Prepared HouseFault)
      → ((ready : Ready) → IsReadyAs ready last text → PreparesTo txn meaning ready [])
      → Goes (among told faults B meanwhile) low txn (known own a) (known own' b) (MakesReady txn a b (end_said last text)) result
      → Goes (among told faults B meanwhile) low txn (known own a) (known own' b) (Prepares txn b meaning) result
  made-prepares low own own' a b meaning last text result makes goes =
      goes-as low own own' a b (MakesReady txn a b (end_said last text)) (Prepares txn b meaning) result by goes
    where
      by : (found : Prepared) (added : List Entry) → MakesReady txn a b (end_said last text) found added → Prepares txn b meaning found added
      by (prepared.Ready ready) added is = subst (PreparesTo txn meaning ready) (sym is.0) (makes ready is.1)
      by (prepared.Ended found) added ends = inl (aborts-more txn b [] NoCause (EndsEarlyFor meaning) (λ why never. absurd never) found added ends)

  pub made-can : (low : ℕ) (own own' : List ℕ) (a b : ToldHouse D) (way : Way) (last : End) (text : List ℕ) (result : Result Prepared HouseFault)
      → CanConclude told a way last text → Goes (among told faults B meanwhile) low txn (known own a) (known own' b) (MakesReady txn a b (end_said last text)) result
      → IfOk result (CanConcludeIn told b way)
  made-can low own own' a b way last text (Ok (prepared.Ready ready)) can goes =
      let is = goes.done.is in
      subst (λ (h : ToldHouse D). CanConclude told h way ready.end ready.text) (sym is.2)
      (subst (λ (e : End). CanConclude told a way e ready.text) (sym is.1.0)
      (subst (CanConclude told a way last) (sym is.1.1) can))
  made-can low own own' a b way last text (Ok (prepared.Ended found)) can goes = tt
  made-can low own own' a b way last text (Err why) can goes = tt

  -- without a touch, of what it means
  pub idle-prepares : (low : ℕ) (own own' : List ℕ) (a b : ToldHouse D) (m meaning : Meaning) (last : End) (text : List ℕ) (result : Result Prepared HouseFault) → m ≡ meaning
      → last ≡ idle_end → ((ready : Ready) → IsReadyAs ready idle_end text → PreparesTo txn meaning ready [])
      → Goes (among told faults B meanwhile) low txn (known own a) (known own' b) (MakesReady txn a b (end_said last text)) result
      → Goes (among told faults B meanwhile) low txn (known own a) (known own' b) (Prepares txn b m) result
  idle-prepares low own own' a b m meaning last text result same e makes goes =
      subst (λ (x : Meaning). Goes (among told faults B meanwhile) low txn (known own a) (known own' b) (Prepares txn b x) result) (sym same)
      (made-prepares low own own' a b meaning idle_end text result makes (made-goes low own own' a b last text result e goes))

  pub idle-concludes : (low : ℕ) (own own' : List ℕ) (a b : ToldHouse D) (way : Way) (last : End) (text : List ℕ) (result : Result Prepared HouseFault) → last ≡ idle_end
      → CanConclude told a way idle_end text → Goes (among told faults B meanwhile) low txn (known own a) (known own' b) (MakesReady txn a b (end_said last text)) result
      → IfOk result (CanConcludeIn told b way)
  idle-concludes low own own' a b way last text result e can goes =
      made-can low own own' a b way idle_end text result can (made-goes low own own' a b last text result e goes)

  -- for what it means, where it is aborted for that
  pub meant-prepares : (low : ℕ) (own own' : List ℕ) (a b : ToldHouse D) (m meaning : Meaning) (why : Cause) (result : Result Prepared HouseFault) → m ≡ meaning
      → EndsEarlyFor meaning why → Goes (among told faults B meanwhile) low txn (known own a) (known own' b) (EndsFor txn b (λ of. of ≡ why)) result
      → Goes (among told faults B meanwhile) low txn (known own a) (known own' b) (Prepares txn b m) result
  meant-prepares low own own' a b m meaning why result same is goes =
      subst (λ (x : Meaning). Goes (among told faults B meanwhile) low txn (known own a) (known own' b) (Prepares txn b x) result) (sym same)
      (early-prepares low own own' a b meaning why result (inl is) goes)

  -- ---- its files

  -- an act was refused behind acts that added nothing
  pub broken-writes : (low low' : ℕ) (own own' own'' : List ℕ) (a b c : ToldHouse D) (info : TableInfo) (effect : Effect) (write : ℕ) (why : ActFault) (result : Result Prepared HouseFault)
      → low ≤ low' → AddsOwn faults B txn (known own a) (known own' b) []
      → Goes (among told faults B meanwhile) low' txn (known own' b) (known own'' c) (EndsFor txn c (IsFaultOf why)) result
      → Goes (among told faults B meanwhile) low txn (known own a) (known own'' c) (Writes txn c (change_under info effect write)) result
  broken-writes low low' own own' own'' a b c info effect write why result down adds goes =
      goes-on faults B rows told meanwhile low low' txn own own' own'' a b c (EndsFor txn c (IsFaultOf why)) (Writes txn c (change_under info effect write)) result down adds by goes
    where
      by : (found : Prepared) (added : List Entry) → EndsFor txn c (IsFaultOf why) found added → Writes txn c (change_under info effect write) found added
      by (prepared.Ready ready) added ends = absurd ends
      by (prepared.Ended found) added ends = aborts-more txn c [] (IsFaultOf why) IsWriteFault (λ of is. inl (fault-writes why of is)) found added ends

  pub put-writes : (low : ℕ) (own own' : List ℕ) (a b : ToldHouse D) (info : TableInfo) (effect : Effect) (write : ℕ) (wrote : List Touch) (text : List ℕ) (put : List Place) (found : Prepared)
      → AddsOwn faults B txn (known own a) (known own' b) [] → IsOpenHouse b → IsChangePut info effect write put → wrote ≡ touches_of info effect
      → text ≡ counts_line (touches_of info effect)
      → found ≡ prepared.Ready (record { end = end.Commit wrote info.shape.name put; text = text })
      → Goes (among told faults B meanwhile) low txn (known own a) (known own' b) (Writes txn b (change_under info effect write)) (Ok found)
  put-writes low own own' a b info effect write wrote text put found adds running puts are says is =
      subst (λ (f : Prepared). Goes (among told faults B meanwhile) low txn (known own a) (known own' b) (Writes txn b (change_under info effect write)) (Ok f)) (sym is)
      (record {
        done = record {
          added = [];
          adds = adds;
          of_it = tt;
          counts = tt;
          is = (
            refl,
            (
              put,
              record {
                end_is = ap (λ (ts : List Touch). end.Commit ts info.shape.name put) are;
                places = puts.places;
                text_is = says;
                held = puts.held;
                encoded = puts.encoded;
              },
            ),
          );
          running = running;
        };
        halted = tt;
      })

  -- ---- its write id

  -- an act that makes no call on files was refused
  pub broken-prepares : (low low' : ℕ) (own own' own'' : List ℕ) (a b c : ToldHouse D) (meaning : Meaning) (why : ActFault) (result : Result Prepared HouseFault)
      → low ≤ low' → AddsOwn faults B txn (known own a) (known own' b) [] → EndsAct why
      → Goes (among told faults B meanwhile) low' txn (known own' b) (known own'' c) (EndsFor txn c (IsFaultOf why)) result
      → Goes (among told faults B meanwhile) low txn (known own a) (known own'' c) (Prepares txn c meaning) result
  broken-prepares low low' own own' own'' a b c meaning why result down adds ends goes =
      goes-on faults B rows told meanwhile low low' txn own own' own'' a b c (EndsFor txn c (IsFaultOf why)) (Prepares txn c meaning) result down adds by goes
    where
      by : (found : Prepared) (added : List Entry) → EndsFor txn c (IsFaultOf why) found added → Prepares txn c meaning found added
      by (prepared.Ready ready) added is = absurd is
      by (prepared.Ended found) added is =
          inl (aborts-more txn c [] (IsFaultOf why) (EndsEarlyFor meaning) (λ of fault_of. absurd (no-fault why of ends fault_of)) found added is)

  -- its files are put behind it
  pub given-prepares : (low low' : ℕ) (own own' own'' : List ℕ) (a b c : ToldHouse D) (info : TableInfo) (effect : Effect) (write : WriteId) (result : Result Prepared HouseFault)
      → low ≤ low' → 0 < changes_in effect → AddsOwn faults B txn (known own a) (known own' b) (giving txn info.table write ∷ [])
      → Goes (among told faults B meanwhile) low' txn (known own' b) (known own'' c) (Writes txn c (change_under info effect write.0)) result
      → Goes (among told faults B meanwhile) low txn (known own a) (known own'' c) (Prepares txn c (Change info effect)) result
  given-prepares low low' own own' own'' a b c info effect write result down some adds goes =
      goes-behind faults B rows told meanwhile low low' txn own own' own'' a b c (giving txn info.table write ∷ []) (Writes txn c (change_under info effect write.0))
      (Prepares txn c (Change info effect)) result down adds (refl, tt) (tt, tt) by goes
    where
      by : (found : Prepared) (more : List Entry) → Writes txn c (change_under info effect write.0) found more → Prepares txn c (Change info effect) found (giving txn info.table write ∷ more)
      by (prepared.Ready ready) more is = inr (write, is.1.0, ap (λ (xs : List Entry). giving txn info.table write ∷ xs) is.0, some, is.1.1)
      by (prepared.Ended found) more is =
          inr (giving txn info.table write ∷ [], (write, some, refl), aborts-behind txn c (giving txn info.table write ∷ []) IsWriteFault found more is)

  -- or there was no room for it
  pub full-prepares : (low : ℕ) (own own' : List ℕ) (a b : ToldHouse D) (info : TableInfo) (effect : Effect) (aborted : Aborted) (found : Prepared)
      → AddsOwn faults B txn (known own a) (known own' b) (aborting txn aborted.cause ∷ []) → IsOpenHouse b
      → IsAbortFor txn b (EndsEarlyFor (Change info effect)) (aborting txn aborted.cause) (aborted_reply aborted) → HasEndedAt (book_in b) txn (Some aborted.at)
      → found ≡ ended_by aborted → Goes (among told faults B meanwhile) low txn (known own a) (known own' b) (Prepares txn b (Change info effect)) (Ok found)
  full-prepares low own own' a b info effect aborted found adds running abort at is =
      subst (λ (f : Prepared). Goes (among told faults B meanwhile) low txn (known own a) (known own' b) (Prepares txn b (Change info effect)) (Ok f)) (sym is)
      (record {
        done = record {
          added = aborting txn aborted.cause ∷ [];
          adds = adds;
          of_it = (
            subst (IsOf txn) (sym abort.entry_is) (own-abort (record { 0 = txn }) abort.why (early-own info effect abort.why abort.is)),
            tt,
          );
          counts = (
            subst (KeepsCount low (faults_in faults b)) (sym abort.entry_is) (early-or-lacking info effect txn low (faults_in faults b) abort.why abort.is),
            tt,
          );
          is = inl (aborting txn aborted.cause, refl, abort, at);
          running = running;
        };
        halted = tt;
      })

  -- ---- its job

  -- behind it, or where another one stood, it is ready to touch nothing
  pub job-prepares : (low low' : ℕ) (own own' own'' : List ℕ) (a b c : ToldHouse D) (table : TableId) (partition : List ℕ) (kind : CompactionKind) (first : List Entry)
      (last : End) (result : Result Prepared HouseFault) → low ≤ low' → AsksJob txn table partition kind first
      → AddsOwn faults B txn (known own a) (known own' b) first → last ≡ idle_end
      → Goes (among told faults B meanwhile) low' txn (known own' b) (known own'' c) (MakesReady txn b c (end_said last ok_line)) result
      → Goes (among told faults B meanwhile) low txn (known own a) (known own'' c) (Prepares txn c (Ask table partition kind)) result
  job-prepares low low' own own' own'' a b c table partition kind first last result down asks adds e goes =
      goes-behind faults B rows told meanwhile low low' txn own own' own'' a b c first (MakesReady txn b c (end_said last ok_line))
      (Prepares txn c (Ask table partition kind)) result down adds (job-of txn table partition kind first asks) (job-unended txn table partition kind first asks) by goes
    where
      by : (found : Prepared) (more : List Entry) → MakesReady txn b c (end_said last ok_line) found more → Prepares txn c (Ask table partition kind) found (first ++ more)
      by (prepared.Ready ready) more is = (
        subst (AsksJob txn table partition kind) (sym (ap (λ (xs : List Entry). first ++ xs) is.0 ∙ append-nil first)) asks,
        (is.1.0 ∙ e, is.1.1),
      )
      by (prepared.Ended found) more ends = job-broken txn c table partition kind first asks found more ends

  -- or there was no room for it
  pub job-lacks : (low : ℕ) (own own' : List ℕ) (a b : ToldHouse D) (table : TableId) (partition : List ℕ) (kind : CompactionKind) (aborted : Aborted) (found : Prepared)
      → AddsOwn faults B txn (known own a) (known own' b) (aborting txn aborted.cause ∷ []) → IsOpenHouse b
      → IsAbortFor txn b (EndsEarlyFor (Ask table partition kind)) (aborting txn aborted.cause) (aborted_reply aborted) → HasEndedAt (book_in b) txn (Some aborted.at)
      → found ≡ ended_by aborted
      → Goes (among told faults B meanwhile) low txn (known own a) (known own' b) (Prepares txn b (Ask table partition kind)) (Ok found)
  job-lacks low own own' a b table partition kind aborted found adds running abort at is =
      subst (λ (f : Prepared). Goes (among told faults B meanwhile) low txn (known own a) (known own' b) (Prepares txn b (Ask table partition kind)) (Ok f)) (sym is)
      (record {
        done = record {
          added = aborting txn aborted.cause ∷ [];
          adds = adds;
          of_it = (
            subst (IsOf txn) (sym abort.entry_is) (own-abort (record { 0 = txn }) abort.why (job-own table partition kind abort.why abort.is)),
            tt,
          );
          counts = (
            subst (KeepsCount low (faults_in faults b)) (sym abort.entry_is)
                (job-or-lacking table partition kind txn low (faults_in faults b) abort.why abort.is),
            tt,
          );
          is = inl (aborting txn aborted.cause, refl, abort, at);
          running = running;
        };
        halted = tt;
      })

-- ---- how it can be concluded

-- without a touch
pub idle-can : {D : Type 0} (told : D → Option Store) (house : ToldHouse D) (way : Way) (meaning : Meaning) (text : List ℕ) → TouchesAreMeant [] (Some meaning)
    → text ≡ committed_text (Some meaning) []
    → (IsToldHouse told house.house → (has : HasMeant (trail_in house) way.txn [] meaning) × HasAskedAll (trail_in house) way.txn has.was.place has.was.said meaning)
    → CanConclude told house way idle_end text
idle-can told house way meaning text are says meant = (
  short_idle way.txn.0,
  inl refl,
  λ is. inl (record { means = meaning; meant_it = (meant is).0; touches = are; none = refl; asked = (meant is).1 }, says),
)

-- where its job stands
pub job-can : {D : Type 0} (told : D → Option Store) (house : ToldHouse D) (way : Way) (table : TableId) (partition : List ℕ) (kind : CompactionKind)
    → HasJob told house way table partition kind → CanConclude told house way idle_end ok_line
job-can told house way table partition kind job =
    idle-can told house way (Ask table partition kind) ok_line refl refl
    (λ is.
    let has : MeansAt (trail_in house) way (Ask table partition kind) = job.means is in
    (has.0, subst (λ (place : ℕ). HasStood (trail_in house) place (ask_of table partition kind)) (sym has.1) job.stood))

-- by its Create
pub make-can : {D : Type 0} (told : D → Option Store) (house : ToldHouse D) (way : Way) (shape : Shape)
    → (IsToldHouse told house.house → HasMeant (trail_in house) way.txn [] (Make shape)) → CanConclude told house way end.Create ok_line
make-can told house way shape means = (λ is. record { shape = shape; make = means is }, refl)

-- by its Drop
pub drop-can : {D : Type 0} (told : D → Option Store) (house : ToldHouse D) (way : Way) (table : TableId)
    → (IsToldHouse told house.house → HasMeant (trail_in house) way.txn [] (Unmake table)) → CanConclude told house way (end.Drop table) ok_line
drop-can told house way table means = (means, refl)

-- with all files of its change
pub change-can : {D : Type 0} (told : D → Option Store) (house : ToldHouse D) (way : Way) (info : TableInfo) (effect : Effect) (write : ℕ) (wrote : List Touch) (text : List ℕ)
    (put : List Place) → HasItsId told house way.txn info effect write → touched info effect ≡ Ok (touches_of info effect) → wrote ≡ touches_of info effect
    → text ≡ counts_line (touches_of info effect) → IsChangePut info effect write put → CanConclude told house way (end.Commit wrote info.shape.name put) text
change-can told house way info effect write wrote text put id within are says puts = (
  short_change way.txn.0 info effect wrote within are,
  inr (record { info = info; here = id.here; effect = effect; write = write; touches = are; given = id.given; places_are = puts.places }),
  λ is. inr (
    record {
      info = info;
      effect = effect;
      write = write;
      change = id.means is;
      touches = are;
      places_are = puts.places;
      held = puts.held;
      encoded = puts.encoded;
    },
    says ∙ ap counts_line (sym are),
    refl,
  ),
)

-- a write id is its own still
pub id-lasts : {D : Type 0} {by : ℕ} (told : D → Option Store) (faults : D → ℕ) (B : List TrailItem → Type 0) (rows : AreRows B) (own own' : List ℕ)
    (a b : ToldHouse D) (added : List Entry) (txn : TxnId)
    (info : TableInfo) (effect : Effect) (write : ℕ) → AddsOwn faults B by (known own a) (known own' b) added → HasItsId told a txn info effect write
    → HasItsId told b txn info effect write
id-lasts told faults B rows own own' a b added txn info effect write adds id =
    let front = adds-front faults B rows own own' a b added adds in
    record {
      first = id.first;
      last = id.last;
      here = table-lasts (trail_in a) (trail_in b) front info.table.0 info id.here;
      given = given-lasts (trail_in a) (trail_in b) front txn.0 info.table.0 write id.given;
      means = λ is. meant-lasts (trail_in a) (trail_in b) front txn ((info.table.0, write) ∷ []) (Change info effect)
          (id.means (told-earlier faults B rows told own own' a b added adds is));
    }
