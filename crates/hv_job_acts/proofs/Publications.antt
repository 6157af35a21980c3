-- How an act publishes a compaction.
use Rattle.std.proofs.Common.{◌≡◌, ◌↔◌, ℕ, ◌+◌, Bool, true, false, Option, Some, None, Result, Ok, Err, List, length, refl, sym, ap, ◌∙◌, subst}
use Rattle.std.specs.Prelude.{IfOk, IfErr, IsErrOf, IsTrue, IsSomeAnd}
use Rattle.hv_base.specs.declared.ids.JobId.{JobId}
use Rattle.hv_base.specs.declared.ids.TxnId.{TxnId}
use Rattle.hv_shelf.specs.Disk.{Store}
use Rattle.hv_history.specs.declared.entry.Entry.{Entry}
use Rattle.hv_history.specs.declared.entry.Entry.TheVariants as entry
use Rattle.hv_history.specs.State.{State, Job, numbered, state_of}
use Rattle.hv_history.specs.Load.{is_working}
use Rattle.hv_history.specs.Jobs.{pieces_for, is_empty_of}
use Rattle.hv_history.specs.JobsFit.{is_live_job}
use Rattle.hv_finals.specs.declared.merging.Merge.{Merge}
use Rattle.hv_finals.specs.Finals.{merge_if, merge_in}
use Rattle.hv_trail.specs.declared.trail.Reader.TheVariants as reader
use Rattle.hv_trail.specs.declared.trail.TrailItem.{TrailItem}
use Rattle.hv_trail.specs.Kept.{trail_of}
use Rattle.hv_trail.specs.Trail.{book_of, broken}
use Rattle.hv_trail.specs.Steps.{Call, Publish, Done, Step}
use Rattle.hv_acts.specs.hv_telling.specs.hv_house.specs.declared.house.House.{House}
use Rattle.hv_acts.specs.hv_telling.specs.hv_house.specs.House.{entries_of}
use Rattle.hv_acts.specs.hv_telling.specs.hv_house.specs.Steps.{seen_of}
use Rattle.hv_acts.specs.hv_telling.specs.Telling.{IsWhole}
use Rattle.hv_job_calls.specs.declared.fault.JobFault.{JobFault}
use Rattle.hv_job_calls.specs.declared.fault.JobFault.TheVariants as fault
use Rattle.hv_job_calls.specs.Refusals.{HasGoneJob, IfLive, WorksAt, published_by, publishing_of}
use Rattle.hv_job_calls.specs.Staging.{renamings_of}
use Rattle.hv_job_calls.specs.Steps.{JobStep, job_call}
use Rattle.hv_job_calls.specs.Tests.{IsGoneOrPublishing}
use Rattle.hv_job_calls.proofs.Steps.{err-as}
use Rattle.hv_acts.proofs.Steps.{book-is, whole-keeps}
use Rattle.hv_job_acts.specs.declared.fault.JobActFault.{JobActFault}
use Rattle.hv_job_acts.specs.declared.fault.JobActFault.TheVariants as act
use Rattle.hv_job_acts.specs.declared.staging.Publication.{Publication}
use Rattle.hv_job_acts.specs.Answers.{ActStep}
use Rattle.hv_job_acts.specs.Doing.{call_to_publish, PublishesSo}
use Rattle.hv_job_acts.specs.Staging.{with_range}
use Rattle.hv_job_acts.proofs.Passed.{at-trail, act-step, unfit-step, broken-step}

-- ---- what it merges

pub not-empty : (b : Bool) (made merge : Merge) → merge_if b made ≡ Some merge → b ≡ false
not-empty true made merge e = cc
not-empty false made merge e = refl

pub its-merge : (b : Bool) (made merge : Merge) → merge_if b made ≡ Some merge → made ≡ merge
its-merge true made merge e = cc
its-merge false made merge e = cc

module _ (state : State) (job : ℕ) (merge : Merge) (found : Option Merge) (is : found ≡ Some merge)
    (each : (j : Job) → numbered state.jobs job ≡ Some j → found ≡ merge_in state j) where
  abbrev Made : Job → Merge
  Made j = record { table = j.table; asked = j.asked; kind = j.kind; low = (pieces_for state j).low; high = (pieces_for state j).high }

  pub has-some : WorksAt state job → IfLive state job (λ (j : Job). is_empty_of j.kind (pieces_for state j) ≡ false)
  has-some = by (numbered state.jobs job) refl
    where
      by : (o : Option Job) → numbered state.jobs job ≡ o → IsSomeAnd o (λ (j : Job). IsTrue (is_working j))
          → IsSomeAnd o (λ (j : Job). is_live_job state j ≡ true → is_empty_of j.kind (pieces_for state j) ≡ false)
      by None e works = absurd works
      by (Some j) e works = λ live. not-empty (is_empty_of j.kind (pieces_for state j)) (Made j) merge (sym (each j e) ∙ is)

  made-is : (j : Job) → numbered state.jobs job ≡ Some j
      → ((pieces_for state j).low ≡ merge.low) × ((pieces_for state j).high ≡ merge.high)
  made-is j at =
      let same = its-merge (is_empty_of j.kind (pieces_for state j)) (Made j) merge (sym (each j at) ∙ is) in
      (ap (λ (m : Merge). m.low) same, ap (λ (m : Merge). m.high) same)

  -- the entry that it notes
  pub entry-same : (number : JobId) → number.0 ≡ job → (mark : TxnId) → mark.0 ≡ length state.transactions + 1 → WorksAt state job
      → entry.Published number (record { 0 = merge.low }) (record { 0 = merge.high }) mark ≡ published_by state number (numbered state.jobs job)
  entry-same number same mark next = by (numbered state.jobs job) refl
    where
      by : (o : Option Job) → numbered state.jobs job ≡ o → IsSomeAnd o (λ (j : Job). IsTrue (is_working j))
          → entry.Published number (record { 0 = merge.low }) (record { 0 = merge.high }) mark ≡ published_by state number o
      by None e works = absurd works
      by (Some j) e works =
          let made = made-is j e in
          λ i. entry.Published number (record { 0 = sym made.0 i }) (record { 0 = sym made.1 i }) (record { 0 = next i })

-- ---- what is promised of it

module _ {D : Type 0} (told : D → Option Store) (faults : D → ℕ) (before now : House D) (was : IsWhole told before) (job : JobId) where
  abbrev Book : State
  Book = state_of (entries_of before)

  abbrev Trail : List TrailItem
  Trail = trail_of before.trail

  abbrev Doing : List Entry → House D → Result Publication JobActFault → Type 0
  Doing book to answer = ActStep told faults (call_to_publish book job answer) before to (PublishesSo Trail job) answer

  abbrev its_call : Call
  its_call = Publish (renamings_of Book job.0) (publishing_of (entries_of before) job)

  at-doing : (to : House D) (answer : Result Publication JobActFault) → Doing (entries_of before) to answer → Doing (book_of Trail) to answer
  at-doing to answer is = subst (λ (book : List Entry). Doing book to answer) (sym (book-is before)) is

  pub unpublished : Doing (book_of Trail) before (Err act.Unfit)
  unpublished = at-doing before (Err act.Unfit)
      (unfit-step told faults its_call (PublishesSo Trail job) before was (record {
        entry_is = tt;
        mark = tt;
        works = tt;
        unbroken = tt;
        gone = λ e. let same : act.Unfit ≡ act.Call fault.Gone = cc in absurd (cc);
        others = tt;
      }))

  pub broke : (put : Bool) (count : ℕ) → broken (reader.Job job) Trail ≡ Some (put, count) → Doing (book_of Trail) before (Err (act.Broken put count))
  broke put count is = at-doing before (Err (act.Broken put count))
      (broken-step told faults its_call put count (PublishesSo Trail job) before was (record {
        entry_is = tt;
        mark = tt;
        works = tt;
        unbroken = tt;
        gone = λ e. let same : act.Broken put count ≡ act.Call fault.Gone = cc in absurd (cc);
        others = is;
      }))

  module _ (merge : Merge) (found : Option Merge) (is : found ≡ Some merge)
      (each : (j : Job) → numbered Book.jobs job.0 ≡ Some j → found ≡ merge_in Book j) (works : WorksAt Book job.0)
      (whole : broken (reader.Job job) Trail ≡ None) where
    by-call : (r : Result TxnId JobFault) → JobStep told faults (job_call its_call r) before now r
        → IfOk r (λ mark. mark.0 ≡ length Book.transactions + 1) → IsErrOf r fault.Gone ↔ HasGoneJob Book job.0 → IfErr r IsGoneOrPublishing
        → Doing (entries_of before) now (with_range merge r)
    by-call (Ok mark) s next gone others =
        let same : entry.Published job (record { 0 = merge.low }) (record { 0 = merge.high }) mark ≡ publishing_of (entries_of before) job =
        entry-same Book job.0 merge found is each job refl mark next works in
        record {
          keeps = whole-keeps told now s.whole;
          step = subst (λ (e : Entry). Step told faults (Publish (renamings_of Book job.0) e) Done (seen_of before) (seen_of now)) (sym same) s.step;
          does = record {
            answers = λ open_. record {
              entry_is =
                  subst (λ (book : List Entry). entry.Published job (record { 0 = merge.low }) (record { 0 = merge.high }) mark ≡ publishing_of book job)
                  (sym (book-is before)) same;
              mark = at-trail before (λ (state : State). mark.0 ≡ length state.transactions + 1) next;
              works = at-trail before (λ (state : State). WorksAt state job.0) works;
              unbroken = whole;
              gone = λ e. cc;
              others = tt;
            };
            leaves = was.ready.kept.running;
            up = s.later;
          };
        }
    by-call (Err why) s next gone others =
        act-step told faults its_call before now was IsGoneOrPublishing (PublishesSo Trail job) (Err why)
        (err-as told faults (job_call {T = TxnId} its_call (Err why)) before now why s) others (λ no_. no_) (record {
          entry_is = tt;
          mark = tt;
          works = tt;
          unbroken = tt;
          gone = λ e.
              let same : why ≡ fault.Gone = cc in
              at-trail before (λ (state : State). HasGoneJob state job.0) (gone.0 (ap (λ (f : JobFault). Err f) same));
          others = others;
        })

    pub published : (r : Result TxnId JobFault) (answer : Result Publication JobActFault) → answer ≡ with_range merge r
        → JobStep told faults (job_call its_call r) before now r → IfOk r (λ mark. mark.0 ≡ length Book.transactions + 1)
        → IsErrOf r fault.Gone ↔ HasGoneJob Book job.0 → IfErr r IsGoneOrPublishing → Doing (book_of Trail) now answer
    published r answer said s next gone others =
        at-doing now answer
        (subst (λ (x : Result Publication JobActFault). Doing (entries_of before) now x) (sym said) (by-call r s next gone others))
