-- The turns of aborted write ids, and tables that are listed.
use Rattle.std.proofs.Common.{◌≡◌, inl, inr, ℕ, zero, suc, ◌+◌, ◌<◌, ◌==◌, ◌||◌, Bool, true, false, true≢false, Option, Some, None, List, [], ◌∷◌, ◌++◌, filter, length, take, get_or, Result, Ok, Err, refl, sym, ap, ◌∙◌, subst, arith}
use Rattle.std.specs.Prelude.{if◌then◌else◌, IfOk, IfErr, ◌&&◌, not, is_some}
use Rattle.std.specs.List.{AllByRecursion, list_any}
use Rattle.std.specs.Global.{Vec}
use Rattle.std.proofs.lemmas.Bool.{and_parts}
use Rattle.std.proofs.lemmas.List.{take_more}
use Rattle.std.proofs.lemmas.List.Elements.{filter-append}
use Rattle.hv_base.specs.declared.ids.JobId.{JobId}
use Rattle.hv_base.specs.declared.ids.TableId.{TableId}
use Rattle.hv_shelf.specs.declared.place.DirAt.{DirAt}
use Rattle.hv_shelf.specs.declared.place.Place.{Place}
use Rattle.hv_shelf.specs.Disk.{Store}
use Rattle.hv_history.specs.declared.entry.Entry.TheVariants as entry
use Rattle.hv_history.specs.declared.state.Table.{Table}
use Rattle.hv_history.specs.State.{State, Job, numbered}
use Rattle.hv_history.specs.JobsFit.{is_aborted_id}
use Rattle.hv_trail.specs.declared.trail.TrailItem.{TrailItem}
use Rattle.hv_trail.specs.declared.trail.TrailItem.TheVariants.{Noted}
use Rattle.hv_trail.specs.Trail.{state_at}
use Rattle.hv_trail.specs.Steps.{HouseSeen, Call, Note, Read, Ask, shuts}
use Rattle.hv_actor.specs.Acting.{IsLater, AreRows, Setting, Moment, among, known, numbers_from}
use Rattle.hv_actor.specs.Acting.{Went as HasAdded}
use Rattle.hv_actor.proofs.Weaving.{numbers-more}
use Rattle.hv_job_acts.specs.hv_acts.specs.hv_telling.specs.hv_house.specs.declared.fault.HouseFault.TheVariants as house_fault
use Rattle.hv_job_acts.specs.hv_job_calls.specs.declared.fault.JobFault.TheVariants as fault
use Rattle.hv_job_acts.specs.hv_job_calls.specs.Refusals.{IsLostId, CanSweep}
use Rattle.hv_job_acts.specs.hv_acts.specs.declared.told.ToldHouse.{ToldHouse}
use Rattle.hv_job_acts.specs.hv_acts.specs.Told.{seen_in, trail_in}
use Rattle.hv_job_acts.specs.hv_acts.specs.Going.{IsOpenHouse}
use Rattle.hv_job_acts.specs.declared.fault.JobActFault.{JobActFault}
use Rattle.hv_job_acts.specs.declared.fault.JobActFault.TheVariants as act
use Rattle.hv_job_acts.specs.declared.asking.LostId.{LostId}
use Rattle.hv_job_acts.specs.Answers.{answer_call, act_outcome}
use Rattle.hv_job_acts.specs.Doing.{ForgetsSo}
use Rattle.hv_job_acts.specs.Forgetting.{call_to_forget, why_to_forget, adds_forgotten}
use Rattle.hv_job_acts.specs.Reading.{PlacesSo}
use Rattle.hv_job_acts.specs.Going.{WasAt}
use Rattle.hv_job_acts.specs.Work.{each_of, one_of, job_at, is_ready_in, ready_at, ready_in, id_at, is_lost_at, lost_at, lost_of, given_in, lost_in}
use Rattle.hv_clean.specs.declared.fault.PassFault.{PassFault}
use Rattle.hv_clean.specs.declared.fault.Swept.{Swept}
use Rattle.hv_clean.specs.declared.stopping.Refused.{Refused as WhyRefused}
use Rattle.hv_clean.specs.declared.stopping.Refused.TheVariants as refused_as
use Rattle.hv_clean.specs.Passing.{count_fault, count_forgotten, count_listed, NoFault, Sweeps, SweepsLess, IsIdOver, IdLeft, ForgetsOne, ForgetEach, ids_of, is_of_table, ForgetsTable}
use Rattle.hv_clean.specs.Removing.{IsKnown, IsLost, AreLost, IsDropped, AreSweepable, is_any_of, counted_as, counted_id, unless_stopped, not_listed, IsListedBy, ForgetsFound}
use Rattle.hv_clean.specs.Dirs.{SweepsIf}
use Rattle.hv_clean.specs.Stopping.{refusal_of}
use Rattle.hv_clean.proofs.Holds.{JobHeld, BehindAs, nothing-swept, none-less, none-full, shut-less, broke-swept, act-adds, act-open, house-front, now-front}
use Rattle.hv_clean.proofs.Moved.{all-append, adds-none, fault-tells, sweeps-then, sweeps-none, ids-behind}
use Rattle.hv_clean.proofs.Lasts.{has}

module _ {D : Type 0} (told : D → Option Store) (faults : D → ℕ) (between : List TrailItem → Type 0) (rows : AreRows between)
    (meanwhile : ToldHouse D → ToldHouse D → Type 0)
    (goes_on : (before now : ToldHouse D) → meanwhile before now → IsLater faults (seen_in before) (seen_in now)) where
  abbrev Its : Setting D (ToldHouse D)
  Its = among told faults between meanwhile

  -- ---- an id is noted as forgotten

  module _ (id : LostId) (own own' : List ℕ) (before now : ToldHouse D) (was : IsOpenHouse before) where
    abbrev A : Moment (ToldHouse D)
    A = known own before

    abbrev B : Moment (ToldHouse D)
    B = known own' now

    abbrev Forgetting : HouseSeen D → Result (Unit {0}) JobActFault → Type 0
    Forgetting seen answer = ForgetsSo seen.trail id.table id.write answer

    abbrev ForgetHeld : Result (Unit {0}) JobActFault → Type 0
    ForgetHeld result = JobHeld told faults between meanwhile goes_on (call_to_forget id.table id.write result) Forgetting before now result

    abbrev ForgetWent : Result (Unit {0}) JobActFault → Type 0
    ForgetWent result = HasAdded between (adds_forgotten id.table id.write result) own own' (trail_in before) (trail_in now)

    pub forget-done : (result : Result (Unit {0}) JobActFault) (from to : Swept) → result ≡ Ok tt → to ≡ count_forgotten from → ForgetHeld result → ForgetWent result
        → ForgetsOne Its A B id from to
    forget-done result from to is counts held went =
        let held_ : ForgetHeld (Ok tt) = subst ForgetHeld is held in
        let went_ : ForgetWent (Ok tt) = subst ForgetWent is went in
        record {
          left = A;
          swept = from;
          sweeps = sweeps-none told faults between rows meanwhile A from was;
          turn = inl (
            record {
              adds = act-adds told faults between meanwhile goes_on (Note (entry.Forgot id.table id.write)) Forgetting own own' before now (Ok tt) held_
                  (Noted (entry.Forgot id.table id.write) ∷ []) went_;
              running = act-open told faults between meanwhile goes_on (Note (entry.Forgot id.table id.write)) Forgetting own own' before now (Ok tt) held_
                  held_.does_it.leaves refl;
            },
            counts,
          );
        }

    abbrev Behind : Swept → WhyRefused → Type 0
    Behind from r = BehindAs told faults between meanwhile goes_on A B from r

    nothing_ : (why : JobActFault) (call : Call) (from : Swept) (held : JobHeld told faults between meanwhile goes_on call Forgetting before now (Err why))
        → IsOpenHouse held.house → shuts (act_outcome why) ≡ false
        → HasAdded between [] own own' (trail_in before) (trail_in now) → Sweeps Its A B from from
    nothing_ why call from held running opens went =
        nothing-swept told faults between meanwhile goes_on Forgetting own own' before now was from call (Err why) held running opens went

    forget-so : (why : JobActFault) (from : Swept) → ForgetHeld (Err why) → ForgetWent (Err why) → Behind from (refusal_of why)
    forget-so act.Unfit from held went = nothing_ act.Unfit Ask from held held.does_it.leaves refl went
    forget-so (act.Broken put count) from held went = nothing_ (act.Broken put count) Ask from held held.does_it.leaves refl went
    forget-so (act.Call fault.Gone) from held went = nothing_ (act.Call fault.Gone) Ask from held held.does_it.leaves refl went
    forget-so (act.Call (fault.Full entries)) from held went =
        none-full told faults between meanwhile goes_on Forgetting own own' before now was from entries held
        ((held.does_it.answers held.does_it.leaves).full entries refl) went
    forget-so (act.Call fault.NotFound) from held went = nothing_ (act.Call fault.NotFound) Ask from held held.does_it.leaves refl went
    forget-so (act.Call (fault.Needed txn)) from held went = nothing_ (act.Call (fault.Needed txn)) Ask from held held.does_it.leaves refl went
    forget-so (act.Call (fault.StillListed dir)) from held went = nothing_ (act.Call (fault.StillListed dir)) Ask from held held.does_it.leaves refl went
    forget-so (act.Call (fault.Working job)) from held went = nothing_ (act.Call (fault.Working job)) Ask from held held.does_it.leaves refl went
    forget-so (act.Call fault.Starved) from held went = absurd held.step.may
    forget-so (act.Call (fault.House house_fault.Store)) from held went =
        shut-less told faults between meanwhile goes_on Forgetting own own' before now was from (Note (entry.Forgot id.table id.write))
        (Err (act.Call (fault.House house_fault.Store))) held tt refl refl went
    forget-so (act.Call (fault.House house_fault.NoMemory)) from held went =
        none-less told faults between meanwhile goes_on Forgetting own own' before now was from (Note (entry.Forgot id.table id.write))
        (Err (act.Call (fault.House house_fault.NoMemory))) held held.does_it.leaves refl went
    forget-so (act.Call (fault.House (house_fault.Failed count))) from held went =
        broke-swept told faults between meanwhile goes_on Forgetting own own' before now was from (Read None)
        (Err (act.Call (fault.House (house_fault.Failed count)))) count held held.does_it.leaves.0 refl went

    pub forget-behind : (result : Result (Unit {0}) JobActFault) (why : JobActFault) (from : Swept) → result ≡ Err why → ForgetHeld result → ForgetWent result
        → Behind from (refusal_of why)
    forget-behind result why from is held went = forget-so why from (subst ForgetHeld is held) (subst ForgetWent is went)

    was-so : (why : JobActFault) (held : ForgetHeld (Err why)) → IsIdOver id (trail_in held.house) → WasAt before now (IsIdOver id)
    was-so why held is = record {
      then_ = trail_in held.house;
      later = house-front told faults between meanwhile goes_on (why_to_forget id.table id.write why) Forgetting own own' before now (Err why) held;
      front = now-front told faults between meanwhile goes_on (why_to_forget id.table id.write why) Forgetting own own' before now (Err why) held;
      was = is;
    }

    abbrev TurnAs : Swept → WhyRefused → Type 0
    TurnAs from r = IfOk (unless_stopped r) (λ done. ForgetsOne Its A B id from (counted_id r from))

    -- nothing more is added
    ends-so : (from swept to : Swept) → Sweeps Its A B from swept → IdLeft before now id from swept to → ForgetsOne Its A B id from to
    ends-so from swept to s left_ = record {
      left = B;
      swept = swept;
      sweeps = s;
      turn = inr (record { adds = adds-none told faults between rows meanwhile B; running = s.running }, left_);
    }

    turn-so : (why : JobActFault) (from : Swept) → ForgetHeld (Err why) → Behind from (refusal_of why) → TurnAs from (refusal_of why)
    turn-so act.Unfit from held s =
        ends-so from from from s (inr (λ none. was-so act.Unfit held (inr ((held.does_it.answers held.does_it.leaves).unfit refl)), refl))
    turn-so (act.Broken put count) from held s = absurd (held.does_it.answers held.does_it.leaves).others
    turn-so (act.Call fault.Gone) from held s =
        ends-so from from from s (inr (λ none. was-so (act.Call fault.Gone) held (inl ((held.does_it.answers held.does_it.leaves).gone.0 refl)), refl))
    turn-so (act.Call (fault.Full entries)) from held s = tt
    turn-so (act.Call fault.NotFound) from held s = absurd (held.does_it.answers held.does_it.leaves).others
    turn-so (act.Call (fault.Needed txn)) from held s = absurd (held.does_it.answers held.does_it.leaves).others
    turn-so (act.Call (fault.StillListed dir)) from held s = ends-so from from (count_listed from) s (inl refl)
    turn-so (act.Call (fault.Working job)) from held s = absurd (held.does_it.answers held.does_it.leaves).others
    turn-so (act.Call fault.Starved) from held s = tt
    turn-so (act.Call (fault.House house_fault.Store)) from held s = tt
    turn-so (act.Call (fault.House house_fault.NoMemory)) from held s = tt
    turn-so (act.Call (fault.House (house_fault.Failed count))) from held s =
        ends-so from (count_fault from) (count_fault from) s (inr (λ none. absurd (fault-tells from none), refl))

    pub forget-refused : (result : Result (Unit {0}) JobActFault) (why : JobActFault) (from to : Swept) (r : WhyRefused) (answer : Result (Unit {0}) PassFault)
        → result ≡ Err why → ForgetHeld result → ForgetWent result → r ≡ refusal_of why → to ≡ counted_id r from → answer ≡ unless_stopped r
        → IfOk answer (λ done. ForgetsOne Its A B id from to)
    forget-refused result why from to r answer is held went r_is counts ends_ =
        subst (λ (x : Result (Unit {0}) PassFault). IfOk x (λ done. ForgetsOne Its A B id from to)) (sym ends_)
        (subst (λ (t : Swept). IfOk (unless_stopped r) (λ done. ForgetsOne Its A B id from t)) (sym counts)
        (subst (TurnAs from) (sym r_is) (turn-so why from (subst ForgetHeld is held) (forget-behind result why from is held went))))

  -- ---- a table is listed

  module _ (table : TableId) (own own' : List ℕ) (before now : ToldHouse D) (was : IsOpenHouse before) where
    abbrev Listing : HouseSeen D → Result (Vec Place) JobActFault → Type 0
    Listing seen answer = PlacesSo told seen table answer

    abbrev ListHeld : Result (Vec Place) JobActFault → Type 0
    ListHeld result = JobHeld told faults between meanwhile goes_on (answer_call (Read None) result) Listing before now result

    abbrev ListedAs : Swept → WhyRefused → Type 0
    ListedAs from r = IfOk (not_listed r) (λ places. IsListedBy places from (counted_as r from))

    list-so : (why : JobActFault) (from : Swept) → ListHeld (Err why) → ListedAs from (refusal_of why)
    list-so act.Unfit from held = absurd (held.does_it.answers held.does_it.leaves).others
    list-so (act.Broken put count) from held = absurd (held.does_it.answers held.does_it.leaves).others
    list-so (act.Call fault.Gone) from held = absurd (held.does_it.answers held.does_it.leaves).others
    list-so (act.Call (fault.Full entries)) from held = tt
    list-so (act.Call fault.NotFound) from held = absurd (held.does_it.answers held.does_it.leaves).others
    list-so (act.Call (fault.Needed txn)) from held = absurd (held.does_it.answers held.does_it.leaves).others
    list-so (act.Call (fault.StillListed dir)) from held = absurd (held.does_it.answers held.does_it.leaves).others
    list-so (act.Call (fault.Working job)) from held = absurd (held.does_it.answers held.does_it.leaves).others
    list-so (act.Call fault.Starved) from held = tt
    list-so (act.Call (fault.House house_fault.Store)) from held = tt
    list-so (act.Call (fault.House house_fault.NoMemory)) from held = tt
    list-so (act.Call (fault.House (house_fault.Failed count))) from held = fault-tells from

    pub listed-refused : (result : Result (Vec Place) JobActFault) (why : JobActFault) (from to : Swept) (r : WhyRefused)
        (answer : Result (Option (Vec Place)) PassFault) → result ≡ Err why → ListHeld result → r ≡ refusal_of why → to ≡ counted_as r from → answer ≡ not_listed r
        → IfOk answer (λ places. IsListedBy places from to)
    listed-refused result why from to r answer is held r_is counts ends_ =
        subst (λ (x : Result (Option (Vec Place)) PassFault). IfOk x (λ places. IsListedBy places from to)) (sym ends_)
        (subst (λ (t : Swept). IfOk (not_listed r) (λ places. IsListedBy places from t)) (sym counts)
        (subst (ListedAs from) (sym r_is) (list-so why from (subst ListHeld is held))))

    abbrev ReadBehind : Swept → WhyRefused → Type 0
    ReadBehind from r = BehindAs told faults between meanwhile goes_on (known own before) (known own' now) from r

    unlisted-sweeps : (from : Swept) (r : WhyRefused) → ReadBehind from r
        → IfOk (not_listed r) (λ places. Sweeps Its (known own before) (known own' now) from (counted_as r from))
    unlisted-sweeps from refused_as.Failed s = s
    unlisted-sweeps from refused_as.Needed s = s
    unlisted-sweeps from refused_as.Listed s = s
    unlisted-sweeps from refused_as.Over s = s
    unlisted-sweeps from (refused_as.Stop f) s = tt

    unlisted-less : (from : Swept) (r : WhyRefused) → ReadBehind from r → IfErr (not_listed r) (SweepsLess Its (known own before) (known own' now))
    unlisted-less from refused_as.Failed s = tt
    unlisted-less from refused_as.Needed s = tt
    unlisted-less from refused_as.Listed s = tt
    unlisted-less from refused_as.Over s = tt
    unlisted-less from (refused_as.Stop f) s = s

    pub list-sweeps : (from to : Swept) (why r : WhyRefused) (answer : Result (Option (Vec Place)) PassFault) → r ≡ why → to ≡ counted_as r from
        → answer ≡ not_listed r → ReadBehind from why → IfOk answer (λ places. Sweeps Its (known own before) (known own' now) from to)
    list-sweeps from to why r answer is counts ends_ s =
        subst (λ (x : Result (Option (Vec Place)) PassFault). IfOk x (λ places. Sweeps Its (known own before) (known own' now) from to)) (sym ends_)
        (subst (λ (t : Swept). IfOk (not_listed r) (λ places. Sweeps Its (known own before) (known own' now) from t)) (sym counts)
        (unlisted-sweeps from r (subst (ReadBehind from) (sym is) s)))

    pub list-less : (from : Swept) (why r : WhyRefused) (answer : Result (Option (Vec Place)) PassFault) → r ≡ why → answer ≡ not_listed r
        → ReadBehind from why → IfErr answer (SweepsLess Its (known own before) (known own' now))
    list-less from why r answer is ends_ s =
        subst (λ (x : Result (Option (Vec Place)) PassFault). IfErr x (SweepsLess Its (known own before) (known own' now))) (sym ends_)
        (unlisted-less from r (subst (ReadBehind from) (sym is) s))

-- ---- the ids of a table

module _ {D : Type 0} (told : D → Option Store) (faults : D → ℕ) (between : List TrailItem → Type 0) (rows : AreRows between)
    (meanwhile : ToldHouse D → ToldHouse D → Type 0) where
  abbrev S : Setting D (ToldHouse D)
  S = among told faults between meanwhile

  pub found-table : {T : Type 0} (a b c : Moment (ToldHouse D)) (ids : List LostId) (places : Option T) (f m t : Swept) → Sweeps S a b f m
      → IsListedBy places f m → ForgetsFound S b c ids places m t → ForgetsTable S a c ids f t
  found-table a b c ids (Some places) f m t s listed each = inl (ids-behind told faults between rows meanwhile a b c ids f m t s each)
  found-table a b c ids None f m t s listed each =
      inr (
        sweeps-then told faults between rows meanwhile a b c f m t s each.0,
        λ none. listed (subst (λ (x : Swept). NoFault f x) each.1 none),
      )

  pub table-ok : {X T : Type 0} (a b c : Moment (ToldHouse D)) (ids : List LostId) (places : Option T) (f m t : Swept) (result : Result X PassFault)
      → Sweeps S a b f m → IsListedBy places f m → IfOk result (λ x. ForgetsFound S b c ids places m t) → IfOk result (λ x. ForgetsTable S a c ids f t)
  table-ok a b c ids places f m t (Ok x) s listed each = found-table a b c ids places f m t s listed each
  table-ok a b c ids places f m t (Err why) s listed each = tt

  pub no-table : (a : Moment (ToldHouse D)) (ids : List LostId) (f : Swept) → IsOpenHouse a.house → ids ≡ [] → ForgetsTable S a a ids f f
  no-table a ids f running none =
      inl (subst (λ (xs : List LostId). ForgetEach S a a xs f f) (sym none) (sweeps-none told faults between rows meanwhile a f running))

-- ---- those of a table among ids

none-kept : {A : Type 0} (p : A → Bool) (xs : List A) → list_any p xs ≡ false → filter p xs ≡ []
none-kept p [] none = refl
none-kept p (x ∷ xs) none = by (p x) none (λ e. none-kept p xs e)
  where
    by : (b : Bool) → (b || list_any p xs) ≡ false → (list_any p xs ≡ false → filter p xs ≡ [])
        → (if b then x ∷ filter p xs else filter p xs) ≡ []
    by true e rest = absurd (true≢false e)
    by false e rest = rest e

pub no-ids : (table : ℕ) (ids : List LostId) → is_any_of table ids ≡ false → ids_of table ids ≡ []
no-ids table ids none = none-kept (is_of_table table) ids none

-- one of them, or none
pub one-of-table : (table : ℕ) (id : LostId) → is_of_table table id ≡ true → ids_of table (id ∷ []) ≡ id ∷ []
one-of-table table id so = ap (λ b. if b then id ∷ [] else []) so

pub none-of-table : (table : ℕ) (id : LostId) → is_of_table table id ≡ false → ids_of table (id ∷ []) ≡ []
none-of-table table id so = ap (λ (b : Bool). if b then id ∷ [] else []) so

pub ids-next : (table : ℕ) (ids : List LostId) (i : ℕ) (d : LostId) → i < length ids
    → ids_of table (take (i + 1) ids) ≡ ids_of table (take i ids) ++ ids_of table (get_or ids i d ∷ [])
ids-next table ids i d low =
    ap (ids_of table) (take_more ids i d low) ∙ filter-append (is_of_table table) (take i ids) (get_or ids i d ∷ [])

pub next-number : (i : ℕ) → numbers_from 1 (i + 1) ≡ numbers_from 1 i ++ (i + 1) ∷ []
next-number i =
    numbers-more 1 i 1 ∙ ap (λ n. numbers_from 1 i ++ n ∷ []) (let same : 1 + i ≡ i + 1 = omega arith in same)

-- ---- an item of a list

all-get : {A : Type 0} (P : A → Type 0) (xs : List A) (i : ℕ) (d : A) → i < length xs → AllByRecursion P xs → P (get_or xs i d)
all-get P [] i d low all = absurd (omega (arith, low))
all-get P (x ∷ xs) zero d low all = all.0
all-get P (x ∷ xs) (suc i) d low all = all-get P xs i d (omega (arith, low)) all.1

pub lost-at : (trail : List TrailItem) (ids : List LostId) (i : ℕ) (d : LostId) → i < length ids → AreLost trail ids → IsLost trail (get_or ids i d)
lost-at trail ids i d low all = all-get (IsLost trail) ids i d low all

pub known-at : (trail : List TrailItem) (jobs : List JobId) (i : ℕ) (d : JobId) → i < length jobs → AllByRecursion (IsKnown trail) jobs
    → IsKnown trail (get_or jobs i d)
known-at trail jobs i d low all = all-get (IsKnown trail) jobs i d low all

-- ---- what the book is asked for

each-all : {X : Type 0} (P : X → Type 0) (f : ℕ → List X) → ((n : ℕ) → AllByRecursion P (f n)) → (n count : ℕ) → AllByRecursion P (each_of f n count)
each-all P f all n zero = tt
each-all P f all n (suc count) =
    all-append P (f n) (each_of f (n + 1) count) (all n) (each-all P f all (n + 1) count)

one-all : {X : Type 0} (P : X → Type 0) (given : Bool) (x : X) → (given ≡ true → P x) → AllByRecursion P (one_of given x)
one-all P true x is = (is refl, tt)
one-all P false x is = tt

module _ (trail : List TrailItem) where
  abbrev Now : State
  Now = state_at trail

  ready-known : (n : ℕ) → is_ready_in Now (numbered Now.jobs n) ≡ true → IsKnown trail (job_at n)
  ready-known n so = by (numbered Now.jobs n) so
    where
      by : (o : Option Job) → is_ready_in Now o ≡ true → is_some o ≡ true
      by None e = absurd (true≢false (sym e))
      by (Some j) e = refl

  pub all-ready-known : AllByRecursion (IsKnown trail) (ready_in Now)
  all-ready-known =
      each-all (IsKnown trail) (ready_at Now)
      (λ n. one-all (IsKnown trail) (is_ready_in Now (numbered Now.jobs n)) (job_at n) (ready-known n)) 1 (length Now.jobs)

  lost-so : (table write : ℕ) → is_lost_at Now write (numbered Now.tables table) ≡ true → IsLost trail (id_at table write)
  lost-so table write so = by (numbered Now.tables table) refl so
    where
      by : (o : Option Table) → numbered Now.tables table ≡ o → is_lost_at Now write o ≡ true → IsLost trail (id_at table write)
      by None is e = absurd (true≢false (sym e))
      by (Some t) is e =
          has (IsLostId Now write) (numbered Now.tables table) t is
          (and_parts (is_aborted_id Now.transactions (numbered t.owners write)) (not (list_any (λ other. other == write) t.forgotten))
          (and_parts t.is_live (is_aborted_id Now.transactions (numbered t.owners write) && not (list_any (λ other. other == write) t.forgotten)) e).1).0

  pub all-lost-so : AreLost trail (lost_in Now)
  all-lost-so =
      each-all (IsLost trail) (lost_of Now)
      (λ table. each-all (IsLost trail) (lost_at Now table)
      (λ write. one-all (IsLost trail) (is_lost_at Now write (numbered Now.tables table)) (id_at table write) (lost-so table write)) 1 (given_in Now table))
      1 (length Now.tables)

-- ---- directories that are swept

sweeps-if : (trail : List TrailItem) (table : ℕ) (live : Bool) (dir : DirAt) → (live ≡ false → IsDropped trail table) → SweepsIf table live dir
    → CanSweep (state_at trail) dir
sweeps-if trail table live dir dropped (at, inl dead) = inr (subst (λ n. IsDropped trail n) (sym at) (dropped dead))
sweeps-if trail table live dir dropped (at, inr staged) = inl staged

pub all-sweep-if : (trail : List TrailItem) (table : ℕ) (live : Bool) (dirs : List DirAt) → (live ≡ false → IsDropped trail table)
    → AllByRecursion (SweepsIf table live) dirs → AreSweepable trail dirs
all-sweep-if trail table live [] dropped all = tt
all-sweep-if trail table live (dir ∷ dirs) dropped all =
    (sweeps-if trail table live dir dropped all.0, all-sweep-if trail table live dirs dropped all.1)
