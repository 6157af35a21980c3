-- The turns of jobs: what each act of one leaves, and what a turn comes to.
use Rattle.std.proofs.Common.{◌≡◌, inl, ℕ, ◌≤◌, true, false, true≢false, Option, None, List, [], ◌∷◌, length, Result, Ok, Err, refl, sym, ◌∙◌, subst, arith}
use Rattle.std.specs.Prelude.{IfOk, IfErr, Contains}
use Rattle.std.specs.List.{AllByRecursion}
use Rattle.std.proofs.lemmas.List.Elements.{Contains-append_left}
use Rattle.hv_base.specs.declared.ids.JobId.{JobId}
use Rattle.hv_shelf.specs.declared.place.DirAt.{DirAt}
use Rattle.hv_shelf.specs.Disk.{Store}
use Rattle.hv_history.specs.Lasting.{IsFront}
use Rattle.hv_trail.specs.declared.trail.TrailItem.{TrailItem}
use Rattle.hv_trail.specs.declared.trail.TrailItem.TheVariants.{Marked}
use Rattle.hv_trail.specs.declared.trail.Mark.TheVariants.{Went}
use Rattle.hv_trail.specs.Trail.{state_at, HasGone}
use Rattle.hv_trail.specs.Steps.{HouseSeen, Remove}
use Rattle.hv_actor.specs.Acting.{IsLater, AreRows, Setting, Moment, among, known}
use Rattle.hv_actor.specs.Acting.{Went as HasAdded}
use Rattle.hv_job_acts.specs.hv_acts.specs.hv_telling.specs.hv_house.proofs.Readings.{contains-last}
use Rattle.hv_job_acts.specs.hv_acts.specs.hv_telling.specs.hv_house.specs.declared.fault.HouseFault.TheVariants as house_fault
use Rattle.hv_job_acts.specs.hv_job_calls.specs.declared.fault.JobFault.TheVariants as fault
use Rattle.hv_job_acts.specs.hv_acts.specs.declared.told.ToldHouse.{ToldHouse}
use Rattle.hv_job_acts.specs.hv_acts.specs.Told.{seen_in, trail_in}
use Rattle.hv_job_acts.specs.hv_acts.specs.Going.{IsOpenHouse}
use Rattle.hv_job_acts.specs.declared.fault.JobActFault.{JobActFault}
use Rattle.hv_job_acts.specs.declared.fault.JobActFault.TheVariants as act
use Rattle.hv_job_acts.specs.Answers.{act_call, answer_call, adds_by}
use Rattle.hv_job_acts.specs.Doing.{RemovesSo}
use Rattle.hv_job_acts.specs.Going.{WasAt}
use Rattle.hv_clean.specs.declared.fault.PassFault.{PassFault}
use Rattle.hv_clean.specs.declared.fault.Swept.{Swept}
use Rattle.hv_clean.specs.declared.stopping.Refused.{Refused as WhyRefused}
use Rattle.hv_clean.specs.declared.stopping.Refused.TheVariants as refused_as
use Rattle.hv_clean.specs.declared.cleaning.Removal.{Removal}
use Rattle.hv_clean.specs.declared.cleaning.Removal.TheVariants as removed
use Rattle.hv_clean.specs.Passing.{Sweeps, SweepsLess, IsHeldAt, IsOver}
use Rattle.hv_clean.specs.Removing.{AreCoveredDirs, IsCoveredFor, counted_as, unless_stopped, removal_by, joined, ends, WentBy, RemovalSays}
use Rattle.hv_clean.specs.Stopping.{refusal_of}
use Rattle.hv_clean.proofs.Holds.{JobHeld, BehindAs, remove-quietly, behind-err, went-swept, house-front, now-front}
use Rattle.hv_clean.proofs.Moved.{front-itself, front-more, fault-tells, sweeps-up, sweeps-then, sweeps-none, moves-front, moves-sweeps, none-behind, none-before, was-earlier}
use Rattle.hv_clean.proofs.Lasts.{all-covered}

-- ---- what a refusal comes to

module _ {D : Type 0} (told : D → Option Store) (faults : D → ℕ) (between : List TrailItem → Type 0)
    (meanwhile : ToldHouse D → ToldHouse D → Type 0)
    (goes_on : (before now : ToldHouse D) → meanwhile before now → IsLater faults (seen_in before) (seen_in now)) where
  abbrev Its : Setting D (ToldHouse D)
  Its = among told faults between meanwhile

  module _ (a b : Moment (ToldHouse D)) (from to : Swept) (why : WhyRefused) where
    abbrev Behind : WhyRefused → Type 0
    Behind r = BehindAs told faults between meanwhile goes_on a b from r

    -- it goes on
    goes-sweeps : (r : WhyRefused) → Behind r → IfOk (unless_stopped r) (λ done. Sweeps Its a b from (counted_as r from))
    goes-sweeps refused_as.Failed s = s
    goes-sweeps refused_as.Needed s = s
    goes-sweeps refused_as.Listed s = s
    goes-sweeps refused_as.Over s = s
    goes-sweeps (refused_as.Stop f) s = tt

    goes-less : (r : WhyRefused) → Behind r → IfErr (unless_stopped r) (SweepsLess Its a b)
    goes-less refused_as.Failed s = tt
    goes-less refused_as.Needed s = tt
    goes-less refused_as.Listed s = tt
    goes-less refused_as.Over s = tt
    goes-less (refused_as.Stop f) s = s

    pub refused-sweeps : (r : WhyRefused) (result : Result (Unit {0}) PassFault) → r ≡ why → to ≡ counted_as r from → result ≡ unless_stopped r → Behind why
        → IfOk result (λ done. Sweeps Its a b from to)
    refused-sweeps r result is counts ends_ s =
        subst (λ (x : Result (Unit {0}) PassFault). IfOk x (λ done. Sweeps Its a b from to)) (sym ends_)
        (subst (λ (t : Swept). IfOk (unless_stopped r) (λ done. Sweeps Its a b from t)) (sym counts) (goes-sweeps r (subst Behind (sym is) s)))

    pub refused-less : (r : WhyRefused) (result : Result (Unit {0}) PassFault) → r ≡ why → result ≡ unless_stopped r → Behind why
        → IfErr result (SweepsLess Its a b)
    refused-less r result is ends_ s =
        subst (λ (x : Result (Unit {0}) PassFault). IfErr x (SweepsLess Its a b)) (sym ends_) (goes-less r (subst Behind (sym is) s))

    removed-sweeps : (r : WhyRefused) → Behind r → IfOk (removal_by r) (λ removal. Sweeps Its a b from (counted_as r from))
    removed-sweeps refused_as.Failed s = s
    removed-sweeps refused_as.Needed s = s
    removed-sweeps refused_as.Listed s = s
    removed-sweeps refused_as.Over s = s
    removed-sweeps (refused_as.Stop f) s = tt

    removed-less : (r : WhyRefused) → Behind r → IfErr (removal_by r) (SweepsLess Its a b)
    removed-less refused_as.Failed s = tt
    removed-less refused_as.Needed s = tt
    removed-less refused_as.Listed s = tt
    removed-less refused_as.Over s = tt
    removed-less (refused_as.Stop f) s = s

    pub removal-sweeps : (r : WhyRefused) (result : Result Removal PassFault) → r ≡ why → to ≡ counted_as r from → result ≡ removal_by r → Behind why
        → IfOk result (λ removal. Sweeps Its a b from to)
    removal-sweeps r result is counts ends_ s =
        subst (λ (x : Result Removal PassFault). IfOk x (λ removal. Sweeps Its a b from to)) (sym ends_)
        (subst (λ (t : Swept). IfOk (removal_by r) (λ removal. Sweeps Its a b from t)) (sym counts) (removed-sweeps r (subst Behind (sym is) s)))

    pub removal-less : (r : WhyRefused) (result : Result Removal PassFault) → r ≡ why → result ≡ removal_by r → Behind why → IfErr result (SweepsLess Its a b)
    removal-less r result is ends_ s =
        subst (λ (x : Result Removal PassFault). IfErr x (SweepsLess Its a b)) (sym ends_) (removed-less r (subst Behind (sym is) s))

  -- ---- one directory

  module _ (job : JobId) (dir : DirAt) (own own' : List ℕ) (before now : ToldHouse D) (was : IsOpenHouse before) where
    abbrev Removing : HouseSeen D → Result (Unit {0}) JobActFault → Type 0
    Removing seen answer = RemovesSo (state_at seen.trail) job answer

    abbrev RemoveHeld : Result (Unit {0}) JobActFault → Type 0
    RemoveHeld result = JobHeld told faults between meanwhile goes_on (answer_call (Remove None dir) result) Removing before now result

    module _ (result : Result (Unit {0}) JobActFault) (held : RemoveHeld result)
        (went : HasAdded between (adds_by (Remove None dir) result) own own' (trail_in before) (trail_in now)) where
      pub remove-behind : (why : JobActFault) (from : Swept) → result ≡ Err why
          → BehindAs told faults between meanwhile goes_on (known own before) (known own' now) from (refusal_of why)
      remove-behind why from is =
          behind-err told faults between meanwhile goes_on Removing own own' before now was from (Remove None dir) (remove-quietly dir)
          (λ seen entries so. absurd so.others) result why is held went

      pub remove-done : (from : Swept) → result ≡ Ok tt → Sweeps Its (known own before) (known own' now) from from
      remove-done from is =
          went-swept told faults between meanwhile goes_on Removing own own' before now was from dir tt result is held went

      pub remove-went : result ≡ Ok tt → AllByRecursion (HasGone (trail_in now)) (dir ∷ [])
      remove-went is =
          let held_ : RemoveHeld (Ok tt) = subst RemoveHeld is held in
          (subst (λ (trail : List TrailItem). Contains trail (Marked (Went dir))) (sym held_.step.trail) (contains-last (trail_in held_.house) (Marked (Went dir))), tt)

    -- what a refusal says
    abbrev SaysAs : Swept → WhyRefused → Type 0
    SaysAs from r = IfOk (removal_by r) (RemovalSays before now job from (counted_as r from))

    was-there : (why : JobActFault) (held : RemoveHeld (Err why)) (Is : List TrailItem → Type 0) → Is (trail_in held.house) → WasAt before now Is
    was-there why held Is is = record {
      then_ = trail_in held.house;
      later = house-front told faults between meanwhile goes_on (act_call (Remove None dir) why) Removing own own' before now (Err why) held;
      front = now-front told faults between meanwhile goes_on (act_call (Remove None dir) why) Removing own own' before now (Err why) held;
      was = is;
    }

    says-so : (why : JobActFault) (from : Swept) → RemoveHeld (Err why) → SaysAs from (refusal_of why)
    says-so act.Unfit from held = absurd (held.does_it.answers held.does_it.leaves).others
    says-so (act.Broken put count) from held = absurd (held.does_it.answers held.does_it.leaves).others
    says-so (act.Call fault.Gone) from held =
        was-there (act.Call fault.Gone) held (IsOver job) (inl ((held.does_it.answers held.does_it.leaves).gone.0 refl))
    says-so (act.Call (fault.Full entries)) from held = tt
    says-so (act.Call fault.NotFound) from held = absurd (held.does_it.answers held.does_it.leaves).others
    says-so (act.Call (fault.Needed txn)) from held =
        was-there (act.Call (fault.Needed txn)) held (IsHeldAt job) (txn.0, ((held.does_it.answers held.does_it.leaves).needed txn.0).0 refl)
    says-so (act.Call (fault.StillListed dir_)) from held = absurd (held.does_it.answers held.does_it.leaves).others
    says-so (act.Call (fault.Working job_)) from held = absurd (held.does_it.answers held.does_it.leaves).others
    says-so (act.Call fault.Starved) from held = tt
    says-so (act.Call (fault.House house_fault.Store)) from held = tt
    says-so (act.Call (fault.House house_fault.NoMemory)) from held = tt
    says-so (act.Call (fault.House (house_fault.Failed count))) from held = fault-tells from

    pub removal-says : (result : Result (Unit {0}) JobActFault) (why : JobActFault) (from to : Swept) (r : WhyRefused) (answer : Result Removal PassFault)
        → result ≡ Err why → RemoveHeld result → r ≡ refusal_of why → to ≡ counted_as r from → answer ≡ removal_by r
        → IfOk answer (RemovalSays before now job from to)
    removal-says result why from to r answer is held r_is counts ends_ =
        subst (λ (x : Result Removal PassFault). IfOk x (RemovalSays before now job from to)) (sym ends_)
        (subst (λ (t : Swept). IfOk (removal_by r) (RemovalSays before now job from t)) (sym counts)
        (subst (SaysAs from) (sym r_is) (says-so why from (subst RemoveHeld is held))))

    went-as : (r : WhyRefused) → IfOk (removal_by r) (WentBy (trail_in now) (dir ∷ []))
    went-as refused_as.Failed = tt
    went-as refused_as.Needed = tt
    went-as refused_as.Listed = tt
    went-as refused_as.Over = tt
    went-as (refused_as.Stop f) = tt

    pub removal-went : (r : WhyRefused) (answer : Result Removal PassFault) → answer ≡ removal_by r → IfOk answer (WentBy (trail_in now) (dir ∷ []))
    removal-went r answer ends_ = subst (λ (x : Result Removal PassFault). IfOk x (WentBy (trail_in now) (dir ∷ []))) (sym ends_) (went-as r)

-- ---- removals, one behind the other

pub head-of : (P : DirAt → Type 0) (x : DirAt) (before behind : List DirAt) → before ≡ x ∷ behind → AllByRecursion P before → P x
head-of P x before behind is all = (subst (AllByRecursion P) is all).0

pub tail-of : (P : DirAt → Type 0) (x : DirAt) (before behind : List DirAt) → before ≡ x ∷ behind → AllByRecursion P before → AllByRecursion P behind
tail-of P x before behind is all = (subst (AllByRecursion P) is all).1

-- those that are left are still to go
abbrev pub WentRest : List TrailItem → List DirAt → List DirAt → Removal → Type 0
WentRest trail rest all removal =
    removal ≡ removed.All → (later : List TrailItem) → IsFront trail later → AllByRecursion (HasGone later) rest → AllByRecursion (HasGone later) all

module _ {D : Type 0} (told : D → Option Store) (faults : D → ℕ) (between : List TrailItem → Type 0)
    (meanwhile : ToldHouse D → ToldHouse D → Type 0) (job : JobId) where
  pub record RemovesUpTo (a b : Moment (ToldHouse D)) (all rest : List DirAt) (f t : Swept) (removal : Removal) : Type 0 where
    pub sweeps : Sweeps (among told faults between meanwhile) a b f t
    pub covered : AreCoveredDirs (trail_in b.house) job rest
    pub says : RemovalSays a.house b.house job f t removal
    pub went : WentRest (trail_in b.house) rest all removal
    pub on : ends removal ≡ false

module _ {D : Type 0} (told : D → Option Store) (faults : D → ℕ) (between : List TrailItem → Type 0) (rows : AreRows between)
    (meanwhile : ToldHouse D → ToldHouse D → Type 0) (job : JobId) where
  abbrev S : Setting D (ToldHouse D)
  S = among told faults between meanwhile

  abbrev M : Type 0
  M = Moment (ToldHouse D)

  -- where none failed in a row of parts, none did before, and all went
  says-more : (a b c : M) (f m t : Swept) (first next : Removal) → IsFront (trail_in a.house) (trail_in b.house) → IsFront (trail_in b.house) (trail_in c.house)
      → f.faults ≤ m.faults → m.faults ≤ t.faults → ends first ≡ false → RemovalSays a.house b.house job f m first → RemovalSays b.house c.house job m t next
      → RemovalSays a.house c.house job f t (joined first next)
  says-more a b c f m t removed.All removed.All front back low high on one two = one ∙ two
  says-more a b c f m t removed.Left removed.All front back low high on one two = λ none. one (none-before f m t low high none)
  says-more a b c f m t removed.Held removed.All front back low high on one two = absurd (true≢false on)
  says-more a b c f m t removed.Over removed.All front back low high on one two = absurd (true≢false on)
  says-more a b c f m t first removed.Left front back low high on one two = λ none. two (none-behind f m t low high none)
  says-more a b c f m t first removed.Held front back low high on one two =
      was-earlier told faults between rows meanwhile a.house b.house c.house (IsHeldAt job) front two
  says-more a b c f m t first removed.Over front back low high on one two =
      was-earlier told faults between rows meanwhile a.house b.house c.house (IsOver job) front two

  pub up-none : (a : M) (all rest : List DirAt) (f : Swept) → IsOpenHouse a.house → rest ≡ all → AreCoveredDirs (trail_in a.house) job all
      → RemovesUpTo told faults between meanwhile job a a all rest f f removed.All
  up-none a all rest f running is covered = record {
    sweeps = sweeps-none told faults between rows meanwhile a f running;
    covered = subst (AreCoveredDirs (trail_in a.house) job) (sym is) covered;
    says = refl;
    went = λ all_ later front gone. subst (AllByRecursion (HasGone later)) is gone;
    on = refl;
  }

  joined-all : (first next : Removal) → joined first next ≡ removed.All → (first ≡ removed.All) × (next ≡ removed.All)
  joined-all first removed.All is = (is, refl)
  joined-all first removed.Left is = cc
  joined-all first removed.Held is = cc
  joined-all first removed.Over is = cc

  pub up-first : (a b : M) (all before behind : List DirAt) (dir : DirAt) (f m : Swept) (removal : Removal) → before ≡ dir ∷ behind
      → RemovesUpTo told faults between meanwhile job a b all before f m removal → IsCoveredFor (trail_in b.house) job dir
  up-first a b all before behind dir f m removal is up = head-of (IsCoveredFor (trail_in b.house) job) dir before behind is up.covered

  pub up-sweeps : (a b c : M) (all before : List DirAt) (f m t : Swept) (removal : Removal) → RemovesUpTo told faults between meanwhile job a b all before f m removal
      → Sweeps S b c m t → Sweeps S a c f t
  up-sweeps a b c all before f m t removal up s = sweeps-then told faults between rows meanwhile a b c f m t up.sweeps s

  pub up-says : (a b c : M) (all before : List DirAt) (f m t : Swept) (first next : Removal) → RemovesUpTo told faults between meanwhile job a b all before f m first
      → Sweeps S b c m t → RemovalSays b.house c.house job m t next → RemovalSays a.house c.house job f t (joined first next)
  up-says a b c all before f m t first next up s two =
      says-more a b c f m t first next
      (moves-front told faults between rows meanwhile a b (moves-sweeps told faults between rows meanwhile a b f m up.sweeps))
      (moves-front told faults between rows meanwhile b c (moves-sweeps told faults between rows meanwhile b c m t s))
      (sweeps-up told faults between rows meanwhile a b f m up.sweeps) (sweeps-up told faults between rows meanwhile b c m t s) up.on up.says two

  -- one that ends the row
  pub up-ends : (trail : List TrailItem) (all : List DirAt) (removal : Removal) → ends removal ≡ true → WentBy trail all removal
  up-ends trail all removed.All is = absurd (true≢false (sym is))
  up-ends trail all removed.Left is = tt
  up-ends trail all removed.Held is = tt
  up-ends trail all removed.Over is = tt

  pub up-more : (a b c : M) (all before behind : List DirAt) (dir : DirAt) (f m t : Swept) (first next : Removal) → before ≡ dir ∷ behind
      → RemovesUpTo told faults between meanwhile job a b all before f m first → Sweeps S b c m t → WentBy (trail_in c.house) (dir ∷ []) next
      → RemovalSays b.house c.house job m t next → ends (joined first next) ≡ false → RemovesUpTo told faults between meanwhile job a c all behind f t (joined first next)
  up-more a b c all before behind dir f m t first next is up s went_ two on =
      let back = moves-front told faults between rows meanwhile b c (moves-sweeps told faults between rows meanwhile b c m t s) in
      record {
        sweeps = up-sweeps a b c all before f m t first up s;
        covered =
            all-covered (trail_in b.house) (trail_in c.house) back job behind
            (tail-of (IsCoveredFor (trail_in b.house) job) dir before behind is up.covered);
        says = up-says a b c all before f m t first next up s two;
        went = λ all_ later front gone.
            let both = joined-all first next all_ in
            up.went both.0 later (front-more (trail_in b.house) (trail_in c.house) later back front)
            (subst (AllByRecursion (HasGone later)) (sym is)
            (gone-on later front (subst (WentBy (trail_in c.house) (dir ∷ [])) both.1 went_), gone));
        on = on;
      }
    where
      gone-on : (later : List TrailItem) → IsFront (trail_in c.house) later → AllByRecursion (HasGone (trail_in c.house)) (dir ∷ []) → HasGone later dir
      gone-on later front one =
          subst (λ (t : List TrailItem). HasGone t dir) (sym front.is)
          (Contains-append_left (trail_in c.house) front.more (Marked (Went dir)) one.0)

  -- behind the last one
  pub up-end : (a b : M) (all rest : List DirAt) (f t : Swept) (removal : Removal) → rest ≡ [] → RemovesUpTo told faults between meanwhile job a b all rest f t removal
      → WentBy (trail_in b.house) all removal
  up-end a b all rest f t removed.All is up =
      up.went refl (trail_in b.house) (front-itself (trail_in b.house)) (subst (AllByRecursion (HasGone (trail_in b.house))) (sym is) tt)
  up-end a b all rest f t removed.Left is up = tt
  up-end a b all rest f t removed.Held is up = tt
  up-end a b all rest f t removed.Over is up = tt

pub empty-rest : {X : Type 0} (n : ℕ) (xs : List X) → n ≡ length xs → n ≡ 0 → xs ≡ []
empty-rest n [] is none = refl
empty-rest n (x ∷ xs) is none = absurd (omega (arith, is, none))
