-- Each entry that fits keeps what is said of jobs.
use Rattle.std.proofs.Common.{◌≡◌, ℕ, zero, suc, ◌+◌, ◌≤◌, Bool, true, false, is_some, IsSome, Option, Some, None, List, [], ◌∷◌, ◌++◌, fold, refl, sym, ap, ◌∙◌, subst, arith, true≢false}
use Rattle.std.specs.Prelude.{if◌then◌else◌, ◌&&◌, ◌||◌, not, is_none, IsSomeAnd}
use Rattle.std.specs.List.{list_any, slice_get, AllByRecursion}
use Rattle.std.proofs.lemmas.Bool.{and_parts, or_left, or_right}
use Rattle.hv_base.specs.declared.ids.Limits.{Limits}
use Rattle.hv_base.specs.declared.ids.TableId.{TableId}
use Rattle.hv_base.specs.declared.ids.TxnId.{TxnId}
use Rattle.hv_base.specs.declared.ids.WriteId.{WriteId}
use Rattle.hv_history.specs.declared.entry.Entry.{Entry}
use Rattle.hv_history.specs.declared.entry.Entry.TheVariants as entry
use Rattle.hv_history.specs.declared.entry.JobKind.{JobKind}
use Rattle.hv_history.specs.declared.state.Table.{Table}
use Rattle.hv_history.specs.declared.state.Transaction.{Transaction}
use Rattle.hv_history.specs.declared.state.Written.{Written}
use Rattle.hv_history.specs.State.{State, Job, numbered, changed, first_of, owned, dropped, forgot, written_to, tables_behind, commits, made_by, asked_job, picked, published_at, empty_at, failed_at, cleaned, acted, after, nothing_yet}
use Rattle.hv_history.specs.Legal.{GivenFits, is_working, AllFit}
use Rattle.hv_history.specs.Jobs.{is_initiated, is_busy, is_job_of, jobs_in, is_live_one, events_in, watermark}
use Rattle.hv_history.specs.JobsFit.{PickedFits, PublishedFits, EmptyFits, FailedFits, CleanedFits, is_live_job, first_initiated}
use Rattle.hv_history.proofs.LastingLaws.{goes-on}
use Rattle.hv_law_jobs.specs.Sound.{is_of_write, HasSoundRange, IsUnder, IsSoundJob, GoFurther, IsBelowMark, IsFollowed, IsFollowedIn, AreInOrder, IsOpened, HasOpened, AreOwned, AreSoundJobs, JobsGoOn, JobsAreSound}
use Rattle.hv_law_jobs.proofs.GrowLemmas.{Grows, is-some-of, opened-stays, it-grows, range-stays, job-stays}
use Rattle.hv_law_jobs.proofs.OrderLemmas.{some-same, all-more, all-append, all-changed, numbered-all, all-numbers, filtered-all, job-of-is, job-of-back, all-changed-here, order-changed, order-more}
use Rattle.hv_law_jobs.proofs.MergeLemmas.{none-is}
use Rattle.hv_law_jobs.proofs.PublishLemmas.{unpublished, busy, range-is-sound, within-mark, reaches-further}

-- ---- write ids

-- what a commit writes leaves the ids as they are
behind-owned : (ts : List Transaction) (ws : List (ℕ × Written)) (tables : List Table) → AllByRecursion (HasOpened ts) tables → AllByRecursion (HasOpened ts) (tables_behind ws tables)
behind-owned ts [] tables all = all
behind-owned ts (w ∷ ws) tables all =
    behind-owned ts ws (changed (written_to w.1) tables w.0) (all-changed (HasOpened ts) (written_to w.1) (λ t opened. opened) tables w.0 all)

owned-next : (state : State) (event : Entry) (ts : List Transaction)
    → ((txn : TxnId) (t : TableId) (w : WriteId) → event ≡ entry.Given txn t w → IsOpened ts txn.0)
    → AllByRecursion (HasOpened ts) state.tables → AllByRecursion (HasOpened ts) (acted state event).tables
unfolding acted
owned-next state (entry.Given txn table write) ts gives all =
    all-changed (HasOpened ts) (owned txn.0)
    (λ t opened. all-append (IsOpened ts) t.owners (txn.0 ∷ []) opened (gives txn table write refl, tt)) state.tables table.0 all
owned-next state (entry.Commit txn wrote) ts gives all = behind-owned ts (commits (numbered state.transactions txn.0)) state.tables all
owned-next state (entry.Create txn table) ts gives all =
    all-append (HasOpened ts) state.tables (made_by table.0 (numbered state.transactions txn.0) ∷ []) all (tt, tt)
owned-next state (entry.Drop txn table) ts gives all = all-changed (HasOpened ts) dropped (λ t opened. opened) state.tables table.0 all
owned-next state (entry.Forgot table write) ts gives all = all-changed (HasOpened ts) (forgot write.0) (λ t opened. opened) state.tables table.0 all
owned-next state (entry.Boot run) ts gives all = all
owned-next state (entry.Opened txn session number text) ts gives all = all
owned-next state (entry.Start txn statement) ts gives all = all
owned-next state (entry.Abort txn cause) ts gives all = all
owned-next state (entry.Asked job table partition kind by) ts gives all = all
owned-next state (entry.Picked job mark) ts gives all = all
owned-next state (entry.Published job low high mark) ts gives all = all
owned-next state (entry.Empty job) ts gives all = all
owned-next state (entry.Cleaned job) ts gives all = all
owned-next state (entry.Failed job cause) ts gives all = all
owned-next state (entry.Next txn statement number text) ts gives all = all
owned-next state (entry.Did txn statement wrote) ts gives all = all
owned-next state (entry.Alter txn table) ts gives all = all

module _ (state : State) (event : Entry) (sound : AreSoundJobs state)
    (gives : (txn : TxnId) (t : TableId) (w : WriteId) → event ≡ entry.Given txn t w → IsOpened state.transactions txn.0) where
  abbrev now : State
  now = after state event

  stays : (n : ℕ) → IsOpened state.transactions n → IsOpened now.transactions n
  stays = opened-stays state now (goes-on state event)

  pub grows : Grows state now
  grows = it-grows state now (goes-on state event) sound.owned

  pub owned-now : AreOwned now
  owned-now =
      owned-next state event now.transactions (λ txn t w e. stays txn.0 (gives txn t w e))
      (all-more (HasOpened state.transactions) (HasOpened now.transactions)
      (λ table opened. all-more (IsOpened state.transactions) (IsOpened now.transactions) stays table.owners opened) state.tables sound.owned)

  -- ---- jobs that stay

  pub same-jobs : now.jobs ≡ state.jobs → AreSoundJobs now
  same-jobs same = record {
    each = subst (AllByRecursion (IsSoundJob now)) (sym same) (all-more (IsSoundJob state) (IsSoundJob now) (job-stays state now grows) state.jobs sound.each);
    order = subst AreInOrder (sym same) sound.order;
    owned = owned-now;
  }

  -- ---- one that comes behind

  pub more-jobs : (job : Job) → now.jobs ≡ state.jobs ++ job ∷ [] → IsSoundJob now job → AllByRecursion (λ (j : Job). IsFollowedIn j job) state.jobs → AreSoundJobs now
  more-jobs job same its follow = record {
    each =
        subst (AllByRecursion (IsSoundJob now)) (sym same)
        (all-append (IsSoundJob now) state.jobs (job ∷ []) (all-more (IsSoundJob state) (IsSoundJob now) (job-stays state now grows) state.jobs sound.each) (its, tt));
    order = subst AreInOrder (sym same) (order-more state.jobs job follow sound.order);
    owned = owned-now;
  }

  -- ---- one that makes a step

  abbrev IsThere : Job → Type 0
  IsThere j = IsSoundJob state j × ((n : ℕ) × (numbered state.jobs n ≡ Some j))

  all-there : AllByRecursion IsThere state.jobs
  all-there = all-numbers IsThere state.jobs (λ n j is. (numbered-all (IsSoundJob state) state.jobs n j sound.each is, (n, is)))

  pub step-jobs : (f : Job → Job) (number : ℕ) (job : Job) → now.jobs ≡ changed f state.jobs number → numbered state.jobs number ≡ Some job → IsSoundJob now (f job)
      → ((j : Job) → (is_job_of j.table j.partition (f job) ≡ true → is_job_of j.table j.partition job ≡ true))
      → ((j : Job) → IsThere j → IsFollowed j job → is_job_of j.table j.partition job ≡ true → IsFollowed j (f job))
      → ((j : Job) → IsThere j → IsFollowedIn job j → IsFollowedIn (f job) j) → AreSoundJobs now
  step-jobs f number job same is its of earlier later = record {
    each =
        subst (AllByRecursion (IsSoundJob now)) (sym same)
        (all-changed-here (IsSoundJob state) (IsSoundJob now) f (job-stays state now grows) state.jobs number job is (λ old. its) sound.each);
    order = subst AreInOrder (sym same) (order-changed f job IsThere of earlier later state.jobs number is all-there sound.order);
    owned = owned-now;
  }

of-some : {A : Type 0} (P : A → Type 0) (o : Option A) → IsSomeAnd o P → (x : A) × (o ≡ Some x) × P x
of-some P None is = absurd is
of-some P (Some x) is = (x, refl, is)

-- ---- what was asked for

range-as : (state : State) (a b : Job) → a.table ≡ b.table → a.partition ≡ b.partition → (o : Option (ℕ × ℕ × ℕ)) → HasSoundRange state a o → HasSoundRange state b o
range-as state a b t p None is = tt
range-as state a b t p (Some range) is = record {
  first = is.first;
  order = is.order;
  ended = subst (λ n. range.1 ≤ watermark state n) t is.ended;
  touched = (λ i. list_any (is_of_write range.1) (events_in state (sym t i) (sym p i))) ∙ is.touched;
  opened = is.opened;
}

none-any : (q : Job → Bool) (jobs : List Job) → list_any q jobs ≡ false → AllByRecursion (λ (j : Job). q j ≡ false) jobs
none-any q [] e = tt
none-any q (j ∷ jobs) e = by (none-any q jobs) (q j) refl e
  where
    by : (list_any q jobs ≡ false → AllByRecursion (λ (k : Job). q k ≡ false) jobs) → (b : Bool) → q j ≡ b → (b || list_any q jobs) ≡ false → (q j ≡ false) × AllByRecursion (λ (k : Job). q k ≡ false) jobs
    by rest true is e = absurd (true≢false e)
    by rest false is e = (is, rest e)

live-there : (o : Option Table) → is_live_one o ≡ true → IsSome o
live-there None e = absurd (true≢false (sym e))
live-there (Some table) e = refl

further-none : (a b : JobKind) (o : Option (ℕ × ℕ × ℕ)) → GoFurther a b o None
further-none a b None = tt
further-none a b (Some range) = tt

below-none : (o : Option (ℕ × ℕ × ℕ)) → IsBelowMark o None
below-none None = tt
below-none (Some range) = tt

-- ---- which job is picked

first-least : (state : State) (k : ℕ) (jobs : List Job) (n : ℕ) → first_initiated state k jobs ≡ Some n → k ≤ n
first-least state k [] n is = cc
first-least state k (job ∷ jobs) n is = by (first-least state (k + 1) jobs n) (is_initiated job && is_live_job state job) is
  where
    by : (first_initiated state (k + 1) jobs ≡ Some n → k + 1 ≤ n) → (b : Bool) → (if b then Some k else first_initiated state (k + 1) jobs) ≡ Some n → k ≤ n
    by rest true e = let some : Some k ≡ Some n = e in let same : k ≡ n = cc in omega (arith, same)
    by rest false e = let more = rest e in omega (arith, more)

first-is : (state : State) (jobs : List Job) (k n i : ℕ) (job : Job) → first_initiated state k jobs ≡ Some n → n ≡ k + i → slice_get jobs i ≡ Some job → is_initiated job ≡ true
first-is state [] k n i job is at there = cc
first-is state (j ∷ jobs) k n zero job is at there = by (is_initiated j && is_live_job state j) refl is
  where
    by : (b : Bool) → (is_initiated j && is_live_job state j) ≡ b → (if b then Some k else first_initiated state (k + 1) jobs) ≡ Some n → is_initiated job ≡ true
    by true both e =
        let same : j ≡ job = cc in
        subst (λ (x : Job). is_initiated x ≡ true) same (and_parts (is_initiated j) (is_live_job state j) both).0
    by false both e = let more = first-least state (k + 1) jobs n e in absurd (omega (arith, more, at))
first-is state (j ∷ jobs) k n (suc i) job is at there =
    by (λ e. first-is state jobs (k + 1) n i job e (omega (arith, at)) there) (is_initiated j && is_live_job state j) is
  where
    by : (first_initiated state (k + 1) jobs ≡ Some n → is_initiated job ≡ true) → (b : Bool) → (if b then Some k else first_initiated state (k + 1) jobs) ≡ Some n → is_initiated job ≡ true
    by rest true e = let some : Some k ≡ Some n = e in let same : k ≡ n = cc in absurd (omega (arith, same, at))
    by rest false e = rest e

picked-is : (state : State) (n : ℕ) (job : Job) → first_initiated state 1 state.jobs ≡ Some n → numbered state.jobs n ≡ Some job → is_initiated job ≡ true
picked-is state zero job is at = cc
picked-is state (suc n) job is at = first-is state state.jobs 1 (suc n) n job is (omega arith) at

never-published : (watermark : Option ℕ) (o : Option (ℕ × ℕ × ℕ)) → watermark ≡ None → IsUnder watermark o → o ≡ None
never-published None None e under = refl
never-published None (Some range) e under = absurd under
never-published (Some mark) o e under = cc

first-some : {A : Type 0} (o : Option A) (x : A) → is_some (first_of o x) ≡ true
first-some None x = refl
first-some (Some y) x = refl

first-none : {A : Type 0} (o : Option A) (x : A) → o ≡ None → first_of o x ≡ Some x
first-none None x e = refl
first-none (Some y) x e = cc

-- one that is busy is followed by none
busy-last : (job after_it : Job) (f : Job → Job) → is_busy job ≡ true → ((e : is_job_of (f job).table (f job).partition after_it ≡ true) → is_job_of job.table job.partition after_it ≡ true)
    → IsFollowedIn job after_it → IsFollowedIn (f job) after_it
busy-last job after_it f busy of follows e = absurd (true≢false (sym busy ∙ (follows (of e)).over))

below-mark : (state : State) (j job : Job) (mark : ℕ) → j.table ≡ job.table → mark ≡ watermark state job.table → (o : Option (ℕ × ℕ × ℕ)) → HasSoundRange state j o → IsBelowMark o (Some mark)
below-mark state j job mark t is None range = tt
below-mark state j job mark t is (Some r) range = let ended = range.ended in let same = ap (watermark state) t in omega (arith, ended, same, is)

go-further : (state : State) (number low high mark : ℕ) (job : Job) (sound : AreSoundJobs state) (is : numbered state.jobs number ≡ Some job) (fit : PublishedFits state low high mark job)
    (j : Job) (n : ℕ) → numbered state.jobs n ≡ Some j → is_job_of j.table j.partition job ≡ true → (o : Option (ℕ × ℕ × ℕ)) → j.published ≡ o → GoFurther j.kind job.kind o (Some (low, high, mark))
go-further state number low high mark job sound is fit j n at of None e = tt
go-further state number low high mark job sound is fit j n at of (Some r) e = reaches-further state number low high mark job sound is fit n j r at (job-of-back j job of) e

abbrev given_txn : Entry → ℕ
given_txn (entry.Given txn table write) = txn.0
given_txn _ = 0

abbrev is_given : Entry → Bool
is_given (entry.Given txn table write) = true
is_given _ = false

other : (event : Entry) → is_given event ≡ false → (ts : List Transaction) (txn : TxnId) (t : TableId) (w : WriteId) → event ≡ entry.Given txn t w → IsOpened ts txn.0
other event not_given ts txn t w e = absurd (true≢false (sym (ap is_given e) ∙ not_given))

never : {A : Type 0} (n : ℕ) → None ≡ Some n → A
never n e = cc

pub jobs-go-on : JobsGoOn
unfolding acted
jobs-go-on limits state (entry.Boot run) fits sound = same-jobs state (entry.Boot run) sound (other (entry.Boot run) refl state.transactions) refl
jobs-go-on limits state (entry.Opened txn session number text) fits sound = same-jobs state (entry.Opened txn session number text) sound (other (entry.Opened txn session number text) refl state.transactions) refl
jobs-go-on limits state (entry.Start txn statement) fits sound = same-jobs state (entry.Start txn statement) sound (other (entry.Start txn statement) refl state.transactions) refl
jobs-go-on limits state (entry.Given txn table write) fits sound =
    same-jobs state (entry.Given txn table write) sound
    (λ n t w e.
    let same : txn.0 ≡ n.0 = ap given_txn e in
    subst (IsOpened state.transactions) same (is-some-of (numbered state.transactions txn.0) (GivenFits limits state table.0 write.0) fits)) refl
jobs-go-on limits state (entry.Commit txn wrote) fits sound = same-jobs state (entry.Commit txn wrote) sound (other (entry.Commit txn wrote) refl state.transactions) refl
jobs-go-on limits state (entry.Abort txn cause) fits sound = same-jobs state (entry.Abort txn cause) sound (other (entry.Abort txn cause) refl state.transactions) refl
jobs-go-on limits state (entry.Create txn table) fits sound = same-jobs state (entry.Create txn table) sound (other (entry.Create txn table) refl state.transactions) refl
jobs-go-on limits state (entry.Drop txn table) fits sound = same-jobs state (entry.Drop txn table) sound (other (entry.Drop txn table) refl state.transactions) refl
jobs-go-on limits state (entry.Asked job table partition kind by) fits sound =
    let event = entry.Asked job table partition kind by in
    let now = after state event in
    let its = asked_job state.entries table.0 partition kind by in
    let growing = grows state event sound (other event refl state.transactions) in
    more-jobs state event sound (other event refl state.transactions) its refl
    (record {
      table = growing.tables table.0 (live-there (numbered state.tables table.0) fits.live);
      range = tt;
      under = tt;
      mark = λ mark e. never mark e;
      cleaned = λ e. absurd (true≢false (sym e));
    })
    (all-numbers (λ (j : Job). IsFollowedIn j its) state.jobs
    (λ n j is e.
    let of = job-of-is j.table j.partition its e in
    let back : is_job_of table.0 partition j ≡ true = job-of-back j its e in
    record {
      over = numbered-all (λ (k : Job). is_job_of table.0 partition k ≡ true → is_busy k ≡ false) state.jobs n j
          (filtered-all (λ (k : Job). is_busy k ≡ false) (is_job_of table.0 partition) state.jobs (none-any is_busy (jobs_in state table.0 partition) fits.free)) is back;
      further = further-none j.kind kind j.published;
      below = below-none j.published;
    }))
jobs-go-on limits state (entry.Picked number mark) fits sound =
    let event = entry.Picked number mark in
    let now = after state event in
    let found = of-some (PickedFits limits state number.0 mark.0) (numbered state.jobs number.0) fits in
    let job : Job = found.0 in
    let is : numbered state.jobs number.0 ≡ Some job = found.1 in
    let fit : PickedFits limits state number.0 mark.0 job = found.2 in
    let mine = numbered-all (IsSoundJob state) state.jobs number.0 job sound.each is in
    let growing = grows state event sound (other event refl state.transactions) in
    let initiated = picked-is state number.0 job fit.lowest is in
    let unmarked : job.watermark ≡ None = none-is job.watermark (and_parts (is_none job.watermark) (is_none job.ended) initiated).0 in
    let unpublished : job.published ≡ None = never-published job.watermark job.published unmarked mine.under in
    let marked : first_of job.watermark mark.0 ≡ Some mark.0 = first-none job.watermark mark.0 unmarked in
    let kept = job-stays state now growing job mine in
    step-jobs state event sound (other event refl state.transactions) (picked mark.0) number.0 job refl is
    (record {
      table = kept.table;
      range = range-as now job (picked mark.0 job) refl refl job.published kept.range;
      under = subst (IsUnder (first_of job.watermark mark.0)) (sym unpublished) tt;
      mark = λ m e.
          let both : Some mark.0 ≡ Some m = sym marked ∙ e in
          let same = some-same mark.0 m both in
          let most = growing.marks job.table in
          let fit_mark = fit.mark_is in
          omega (arith, same, most, fit_mark);
      cleaned = kept.cleaned;
    })
    (λ j e. e)
    (λ j there followed of. record {
      over = followed.over;
      further = followed.further;
      below = subst (IsBelowMark j.published) (sym marked)
          (below-mark state j job mark.0 (sym (job-of-is j.table j.partition job of).0) fit.mark_is j.published there.0.range);
    })
    (λ j there. busy-last job j (picked mark.0) (or_left (is_initiated job) (is_working job) initiated) (λ e. e))
jobs-go-on limits state (entry.Published number low high mark) fits sound =
    let event = entry.Published number low high mark in
    let now = after state event in
    let range : ℕ × ℕ × ℕ = (low.0, high.0, mark.0) in
    let found = of-some (PublishedFits state low.0 high.0 mark.0) (numbered state.jobs number.0) fits in
    let job : Job = found.0 in
    let is : numbered state.jobs number.0 ≡ Some job = found.1 in
    let fit : PublishedFits state low.0 high.0 mark.0 job = found.2 in
    let mine = numbered-all (IsSoundJob state) state.jobs number.0 job sound.each is in
    let growing = grows state event sound (other event refl state.transactions) in
    let fresh : job.published ≡ None = unpublished state number.0 low.0 high.0 mark.0 job sound is fit in
    let done : first_of job.published range ≡ Some range = first-none job.published range fresh in
    let kept = job-stays state now growing job mine in
    step-jobs state event sound (other event refl state.transactions) (published_at state.entries range) number.0 job refl is
    (record {
      table = kept.table;
      range = subst (HasSoundRange now (published_at state.entries range job)) (sym done)
          (range-as now job (published_at state.entries range job) refl refl (Some range)
          (range-stays state now growing job (Some range) (range-is-sound state number.0 low.0 high.0 mark.0 job sound is fit)));
      under = subst (IsUnder job.watermark) (sym done) (within-mark state number.0 low.0 high.0 mark.0 job sound is fit);
      mark = kept.mark;
      cleaned = λ e. first-some job.published range;
    })
    (λ j e. e)
    (λ j there followed of. record {
      over = followed.over;
      further = subst (GoFurther j.kind job.kind j.published) (sym done)
          (go-further state number.0 low.0 high.0 mark.0 job sound is fit j there.1.0 there.1.1 of j.published refl);
      below = followed.below;
    })
    (λ j there. busy-last job j (published_at state.entries range) (busy state number.0 low.0 high.0 mark.0 job sound is fit) (λ e. e))
jobs-go-on limits state (entry.Empty number) fits sound =
    let event = entry.Empty number in
    let now = after state event in
    let found = of-some (EmptyFits state) (numbered state.jobs number.0) fits in
    let job : Job = found.0 in
    let is : numbered state.jobs number.0 ≡ Some job = found.1 in
    let fit : EmptyFits state job = found.2 in
    let growing = grows state event sound (other event refl state.transactions) in
    let kept = job-stays state now growing job (numbered-all (IsSoundJob state) state.jobs number.0 job sound.each is) in
    step-jobs state event sound (other event refl state.transactions) (empty_at state.entries) number.0 job refl is
    (record {
      table = kept.table;
      range = range-as now job (empty_at state.entries job) refl refl job.published kept.range;
      under = kept.under;
      mark = kept.mark;
      cleaned = kept.cleaned;
    })
    (λ j e. e) (λ j there followed of. record { over = followed.over; further = followed.further; below = followed.below })
    (λ j there. busy-last job j (empty_at state.entries) (or_right (is_initiated job) (is_working job) fit.working) (λ e. e))
jobs-go-on limits state (entry.Failed number cause) fits sound =
    let event = entry.Failed number cause in
    let now = after state event in
    let found = of-some (FailedFits state cause) (numbered state.jobs number.0) fits in
    let job : Job = found.0 in
    let is : numbered state.jobs number.0 ≡ Some job = found.1 in
    let fit : FailedFits state cause job = found.2 in
    let growing = grows state event sound (other event refl state.transactions) in
    let kept = job-stays state now growing job (numbered-all (IsSoundJob state) state.jobs number.0 job sound.each is) in
    step-jobs state event sound (other event refl state.transactions) (failed_at state.entries cause) number.0 job refl is
    (record {
      table = kept.table;
      range = range-as now job (failed_at state.entries cause job) refl refl job.published kept.range;
      under = kept.under;
      mark = kept.mark;
      cleaned = kept.cleaned;
    })
    (λ j e. e) (λ j there followed of. record { over = followed.over; further = followed.further; below = followed.below })
    (λ j there. busy-last job j (failed_at state.entries cause) (or_right (is_initiated job) (is_working job) fit.working) (λ e. e))
jobs-go-on limits state (entry.Cleaned number) fits sound =
    let event = entry.Cleaned number in
    let now = after state event in
    let found = of-some (CleanedFits limits state) (numbered state.jobs number.0) fits in
    let job : Job = found.0 in
    let is : numbered state.jobs number.0 ≡ Some job = found.1 in
    let fit : CleanedFits limits state job = found.2 in
    let growing = grows state event sound (other event refl state.transactions) in
    let kept = job-stays state now growing job (numbered-all (IsSoundJob state) state.jobs number.0 job sound.each is) in
    step-jobs state event sound (other event refl state.transactions) cleaned number.0 job refl is
    (record {
      table = kept.table;
      range = range-as now job (cleaned job) refl refl job.published kept.range;
      under = kept.under;
      mark = kept.mark;
      cleaned = λ e. (and_parts (is_some job.published) (not job.is_cleaned) fit.ready).0;
    })
    (λ j e. e) (λ j there followed of. record { over = followed.over; further = followed.further; below = followed.below })
    (λ j there follows e. record { over = (follows e).over; further = (follows e).further; below = (follows e).below })
jobs-go-on limits state (entry.Forgot table write) fits sound = same-jobs state (entry.Forgot table write) sound (other (entry.Forgot table write) refl state.transactions) refl
jobs-go-on limits state (entry.Next txn statement number text) fits sound = absurd fits
jobs-go-on limits state (entry.Did txn statement wrote) fits sound = absurd fits
jobs-go-on limits state (entry.Alter txn table) fits sound = absurd fits

-- ---- every book

nothing-sound : AreSoundJobs nothing_yet
nothing-sound = record { each = tt; order = tt; owned = tt }

all-go-on : (limits : Limits) (book : List Entry) (state : State) → AllFit limits state book → AreSoundJobs state → AreSoundJobs (fold after state book)
all-go-on limits [] state fit sound = sound
all-go-on limits (event ∷ book) state fit sound = all-go-on limits book (after state event) fit.1 (jobs-go-on limits state event fit.0 sound)

pub jobs-are-sound : JobsAreSound
jobs-are-sound limits book fit = all-go-on limits book nothing_yet fit nothing-sound
