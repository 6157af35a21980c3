-- Which answers there are: where a test refused a call, and where it didn't.
use Rattle.std.proofs.Common.{◌≡◌, ◌⊎◌, inl, inr, ℕ, ◌+◌, ◌<◌, ◌≤◌, Bool, true, false, true≢false, Option, Some, None, Result, Ok, Err, IsErrOf, List, length, refl, sym, ap, ◌∙◌, subst, arith, ltb-true, ltb-false}
use Rattle.std.specs.Prelude.{◌↔◌, nat_lt, IfErr, IsTrue, IsSomeAnd}
use Rattle.hv_history.specs.declared.entry.Entry.{Entry}
use Rattle.hv_history.specs.State.{State, Job, numbered, state_of}
use Rattle.hv_history.specs.Legal.{HasRoom, load, profile}
use Rattle.hv_history.specs.JobsFit.{OfJob, is_live_job}
use Rattle.hv_stands.proofs.Numbers.{either}
use Rattle.hv_telling.specs.hv_house.specs.Calls.{LacksRoom}
use Rattle.hv_job_calls.specs.declared.fault.JobFault.{JobFault}
use Rattle.hv_job_calls.specs.declared.fault.JobFault.TheVariants as fault
use Rattle.hv_job_calls.specs.Refusals.{HasGoneJob, HasLiveJob, IfLive}
use Rattle.hv_job_calls.specs.Tests.{live_in, IsHouse, IsGoneOrHouse, CleansOrHouse, RemovesOrHouse, FindsOrHouse, GetsOrHouse, IsPublishing, IsGoneOrPublishing, ListsOrHouse, ForgetsOrHouse, SweepsOrHouse}

-- ---- answers

-- it isn't one that this word leaves out
pub never : {T : Type 0} (P : JobFault → Type 0) (r : Result T JobFault) (why : JobFault) → IfErr r P → r ≡ Err why → P why
never {T = T} P r why is e = subst (λ (x : Result T JobFault). IfErr x P) e is

pub weaker : {T : Type 0} (P Q : JobFault → Type 0) → ((why : JobFault) → P why → Q why) → (r : Result T JobFault) → IfErr r P → IfErr r Q
weaker P Q on (Ok x) is = tt
weaker P Q on (Err why) is = on why is

pub house-gone : (why : JobFault) → IsHouse why → IsGoneOrHouse why
house-gone (fault.House why) is = tt
house-gone fault.Gone is = absurd is
house-gone (fault.Full entries) is = absurd is
house-gone fault.NotFound is = absurd is
house-gone (fault.Needed txn) is = absurd is
house-gone (fault.StillListed dir) is = absurd is
house-gone (fault.Working job) is = absurd is
house-gone fault.Starved is = absurd is

pub house-cleans : (why : JobFault) → IsHouse why → CleansOrHouse why
house-cleans (fault.House why) is = tt
house-cleans fault.Gone is = absurd is
house-cleans (fault.Full entries) is = absurd is
house-cleans fault.NotFound is = absurd is
house-cleans (fault.Needed txn) is = absurd is
house-cleans (fault.StillListed dir) is = absurd is
house-cleans (fault.Working job) is = absurd is
house-cleans fault.Starved is = absurd is

pub house-removes : (why : JobFault) → IsHouse why → RemovesOrHouse why
house-removes (fault.House why) is = tt
house-removes fault.Gone is = absurd is
house-removes (fault.Full entries) is = absurd is
house-removes fault.NotFound is = absurd is
house-removes (fault.Needed txn) is = absurd is
house-removes (fault.StillListed dir) is = absurd is
house-removes (fault.Working job) is = absurd is
house-removes fault.Starved is = absurd is

pub house-sweeps : (why : JobFault) → IsHouse why → SweepsOrHouse why
house-sweeps (fault.House why) is = tt
house-sweeps fault.Gone is = absurd is
house-sweeps (fault.Full entries) is = absurd is
house-sweeps fault.NotFound is = absurd is
house-sweeps (fault.Needed txn) is = absurd is
house-sweeps (fault.StillListed dir) is = absurd is
house-sweeps (fault.Working job) is = absurd is
house-sweeps fault.Starved is = absurd is

pub house-lists : (why : JobFault) → IsHouse why → ListsOrHouse why
house-lists (fault.House why) is = tt
house-lists fault.Gone is = absurd is
house-lists (fault.Full entries) is = absurd is
house-lists fault.NotFound is = absurd is
house-lists (fault.Needed txn) is = absurd is
house-lists (fault.StillListed dir) is = absurd is
house-lists (fault.Working job) is = absurd is
house-lists fault.Starved is = absurd is

pub lists-forgets : (why : JobFault) → ListsOrHouse why → ForgetsOrHouse why
lists-forgets (fault.House why) is = tt
lists-forgets fault.Gone is = absurd is
lists-forgets (fault.Full entries) is = absurd is
lists-forgets fault.NotFound is = absurd is
lists-forgets (fault.Needed txn) is = absurd is
lists-forgets (fault.StillListed dir) is = tt
lists-forgets (fault.Working job) is = absurd is
lists-forgets fault.Starved is = absurd is

pub finds-gets : (why : JobFault) → FindsOrHouse why → GetsOrHouse why
finds-gets (fault.House why) is = tt
finds-gets fault.Gone is = absurd is
finds-gets (fault.Full entries) is = absurd is
finds-gets fault.NotFound is = tt
finds-gets (fault.Needed txn) is = absurd is
finds-gets (fault.StillListed dir) is = absurd is
finds-gets (fault.Working job) is = absurd is
finds-gets fault.Starved is = absurd is

pub publishing-gone : (why : JobFault) → IsPublishing why → IsGoneOrPublishing why
publishing-gone (fault.House why) is = tt
publishing-gone fault.Gone is = absurd is
publishing-gone (fault.Full entries) is = absurd is
publishing-gone fault.NotFound is = absurd is
publishing-gone (fault.Needed txn) is = absurd is
publishing-gone (fault.StillListed dir) is = absurd is
publishing-gone (fault.Working job) is = absurd is
publishing-gone fault.Starved is = tt

-- ---- whether the table of a job is live

module _ (state : State) (number : ℕ) where
  -- as a test answered
  module _ (live : Bool) (is : live ≡ live_in state (numbered state.jobs number)) where
    gone-by : (P : Job → Type 0) (o : Option Job) → numbered state.jobs number ≡ o → IsSomeAnd o P → live ≡ false → HasGoneJob state number
    gone-by P None e of dead = absurd of
    gone-by P (Some j) e of dead = subst (λ o. IsSomeAnd o (λ (x : Job). is_live_job state x ≡ false)) (sym e) (sym (is ∙ ap (live_in state) e) ∙ dead)

    live-by : (P : Job → Type 0) (o : Option Job) → numbered state.jobs number ≡ o → IsSomeAnd o P → live ≡ true → HasLiveJob state number
    live-by P None e of so = absurd of
    live-by P (Some j) e of so = subst (λ o. IsSomeAnd o (λ (x : Job). is_live_job state x ≡ true)) (sym e) (sym (is ∙ ap (live_in state) e) ∙ so)

    pub gone-now : (P : Job → Type 0) → OfJob state number P → live ≡ false → HasGoneJob state number
    gone-now P of dead = gone-by P (numbered state.jobs number) refl of dead

    pub live-now : (P : Job → Type 0) → OfJob state number P → live ≡ true → HasLiveJob state number
    live-now P of so = live-by P (numbered state.jobs number) refl of so

  pub both-not : HasGoneJob state number → HasLiveJob state number → ⊥
  both-not gone live = by (numbered state.jobs number) gone live
    where
      by : (o : Option Job) → IsSomeAnd o (λ (j : Job). is_live_job state j ≡ false) → IsSomeAnd o (λ (j : Job). is_live_job state j ≡ true) → ⊥
      by None gone live = gone
      by (Some j) gone live = true≢false (sym live ∙ gone)

  -- it was refused as gone
  pub gone-so : {T : Type 0} → HasGoneJob state number → IsErrOf {T = T} (Err fault.Gone) fault.Gone ↔ HasGoneJob state number
  gone-so is = (λ e. is, λ h. refl)

  -- or wasn't
  pub not-gone : {T : Type 0} (P : JobFault → Type 0) → (P fault.Gone → ⊥) → (r : Result T JobFault) → IfErr r P → HasLiveJob state number
      → IsErrOf r fault.Gone ↔ HasGoneJob state number
  not-gone P left_out r is live = (λ e. absurd (left_out (never P r fault.Gone is e)), λ gone. absurd (both-not gone live))

  -- what is so in a live table
  pub in-live : (P : Job → Type 0) → HasLiveJob state number → IfLive state number P → OfJob state number P
  in-live P live is = by (numbered state.jobs number) live is
    where
      by : (o : Option Job) → IsSomeAnd o (λ (j : Job). is_live_job state j ≡ true) → IsSomeAnd o (λ (j : Job). is_live_job state j ≡ true → P j) → IsSomeAnd o P
      by None live is = absurd live
      by (Some j) live is = is live

  -- and a fact that isn't about the job
  pub if-live : {A : Type 0} → HasLiveJob state number → IfLive state number (λ _. A) → A
  if-live {A = A} live is = by (numbered state.jobs number) live is
    where
      by : (o : Option Job) → IsSomeAnd o (λ (j : Job). is_live_job state j ≡ true) → IsSomeAnd o (λ (j : Job). is_live_job state j ≡ true → A) → A
      by None live is = absurd live
      by (Some j) live is = is live

  pub of-both : (P Q R : Job → Type 0) → ((j : Job) → P j → Q j → R j) → OfJob state number P → OfJob state number Q → OfJob state number R
  of-both P Q R on p q = by (numbered state.jobs number) p q
    where
      by : (o : Option Job) → IsSomeAnd o P → IsSomeAnd o Q → IsSomeAnd o R
      by None p q = absurd p
      by (Some j) p q = on j p q

-- ---- whether there is room

-- as the test answered
pub no-room : (book : List Entry) (more : ℕ) (room : Bool) (count : ℕ) → (HasRoom profile (state_of book) more → IsTrue room) → room ≡ false
    → count ≡ length book → LacksRoom profile book more count
no-room book more room count has none is = record { count = is; full = by (either-le (load (state_of book) + more) profile.entries) }
  where
    either-le : (a b : ℕ) → (a ≤ b) ⊎ (b < a)
    either-le a b = which (either (nat_lt b a))
      where
        which : (nat_lt b a ≡ true) ⊎ (nat_lt b a ≡ false) → (a ≤ b) ⊎ (b < a)
        which (inl e) = inr (ltb-true b a e)
        which (inr e) = let most = ltb-false b a e in inl (omega (arith, most))

    by : (load (state_of book) + more ≤ profile.entries) ⊎ (profile.entries < load (state_of book) + more) → profile.entries < load (state_of book) + more
    by (inl fits) = absurd (true≢false (sym (has fits) ∙ none))
    by (inr full) = full

-- so it is full with that many entries, and with no other count
pub full-now : {T : Type 0} (book : List Entry) (more : ℕ) (room : Bool) (entries : ℕ) → (HasRoom profile (state_of book) more → IsTrue room) → room ≡ false
    → entries ≡ length book → (count : ℕ) → IsErrOf {T = T} (Err (fault.Full entries)) (fault.Full count) ↔ LacksRoom profile book more count
full-now {T = T} book more room entries has none is count = (
  λ e. subst (LacksRoom profile book more) (same entries count e) (no-room book more room entries has none is),
  λ lacks. ap (λ (n : ℕ). Err (fault.Full n)) (is ∙ sym lacks.count),
)
  where
    same : (a b : ℕ) → (◌≡◌ {A = Result T JobFault} (Err (fault.Full a)) (Err (fault.Full b))) → a ≡ b
    same a b e = cc

pub room-not : (book : List Entry) (more count : ℕ) → HasRoom profile (state_of book) more → LacksRoom profile book more count → ⊥
room-not book more count room lacks = let full = lacks.full in omega (arith, room, full)
