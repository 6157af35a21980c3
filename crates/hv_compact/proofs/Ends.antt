-- How a job that was taken up ends.
use Rattle.std.proofs.Common.{◌≡◌, ℕ, Bool, true, false, if◌then◌else◌, true≢false, Option, Some, None, List, [], ◌∷◌, ◌++◌, Result, Ok, Err, refl, sym, subst, arith}
use Rattle.std.specs.Prelude.{IfOk, IfErr, Contains}
use Rattle.std.specs.List.{AllByRecursion}
use Rattle.std.proofs.lemmas.Bool.{eqb-true}
use Rattle.std.proofs.lemmas.List.Elements.{Contains-append_left, Contains-append_right}
use Rattle.hv_base.specs.declared.ids.JobId.{JobId}
use Rattle.hv_shelf.specs.Disk.{Store}
use Rattle.hv_history.specs.declared.entry.Entry.{Entry}
use Rattle.hv_history.specs.declared.entry.Entry.TheVariants as entry
use Rattle.hv_history.specs.declared.entry.JobCause.{JobCause}
use Rattle.hv_history.specs.declared.entry.JobCause.TheVariants as cause
use Rattle.hv_history.specs.Lasting.{IsFront}
use Rattle.hv_trail.specs.declared.trail.Reader.{Reader}
use Rattle.hv_trail.specs.declared.trail.Reader.TheVariants as reader
use Rattle.hv_trail.specs.declared.trail.Mark.TheVariants.{Wrote, Went, Broke}
use Rattle.hv_trail.specs.declared.trail.TrailItem.{TrailItem}
use Rattle.hv_trail.specs.declared.trail.TrailItem.TheVariants.{Noted, Marked}
use Rattle.hv_trail.specs.Trail.{book_of, broken, is_reader}
use Rattle.hv_table_rows.proofs.Names.{all-append}
use Rattle.hv_actor.specs.Acting.{IsLater, Moment, AreRows, among}
use Rattle.hv_job_acts.specs.hv_acts.specs.declared.told.ToldHouse.{ToldHouse}
use Rattle.hv_job_acts.specs.hv_acts.specs.Told.{seen_in, trail_in}
use Rattle.hv_job_acts.specs.hv_acts.specs.Going.{IsOpenHouse}
use Rattle.hv_job_acts.specs.declared.noting.PickedJob.{PickedJob}
use Rattle.hv_job_acts.specs.Going.{AddsItems}
use Rattle.hv_job_acts.specs.Marked.{HasJobMark}
use Rattle.hv_job_acts.specs.hv_job_calls.specs.Refusals.{picking}
use Rattle.hv_compact.specs.declared.fault.RunFault.{RunFault}
use Rattle.hv_compact.specs.declared.compacting.Done.{Done as Finished}
use Rattle.hv_compact.specs.declared.compacting.Done.TheVariants as done
use Rattle.hv_compact.specs.Stopping.{IsOfJob, IsAtWork, RunsOut}
use Rattle.hv_compact.specs.Compacting.{IsMarkOf, IsWroteOf, NotesOne, EndsBy, PublishesOne, CompactsSo, StopsWith}
use Rattle.hv_compact.specs.Ending.{EndsWith, EndsGiven, EndsIn, EndsLess}
use Rattle.hv_compact.proofs.Adds.{adds-none, adds-more}
use Rattle.hv_compact.proofs.Stops.{job_mark}

-- ---- marks of calls that failed

-- the one that is first stands in the trail
same-job : (job : JobId) (by : Option Reader) → is_reader (reader.Job job) by ≡ true → by ≡ Some (reader.Job job)
same-job job None is = absurd (true≢false (sym is))
same-job job (Some (reader.Txn txn)) is = absurd (true≢false (sym is))
same-job job (Some (reader.Job other)) is = λ i. Some (reader.Job (record { 0 = sym (eqb-true job.0 other.0 is) i }))

behind : (item : TrailItem) (items : List TrailItem) (x : TrailItem) → Contains items x → Contains (item ∷ items) x
behind item items x there = Contains-append_right (item ∷ []) items x there

pub broken-mark : (job : JobId) (put : Bool) (count : ℕ) (trail : List TrailItem) → broken (reader.Job job) trail ≡ Some (put, count)
    → Contains trail (job_mark job put count)
broken-mark job put count [] is = absurd (cc)
broken-mark job put count (Noted event ∷ items) is = behind (Noted event) items (job_mark job put count) (broken-mark job put count items is)
broken-mark job put count (Marked (Wrote by place) ∷ items) is =
    behind (Marked (Wrote by place)) items (job_mark job put count) (broken-mark job put count items is)
broken-mark job put count (Marked (Went dir) ∷ items) is =
    behind (Marked (Went dir)) items (job_mark job put count) (broken-mark job put count items is)
broken-mark job put count (Marked (Broke by broke at) ∷ items) is = by_test (is_reader (reader.Job job) by) refl is (λ e. broken-mark job put count items e)
  where
    by_test : (b : Bool) → is_reader (reader.Job job) by ≡ b → (if b then Some (broke, at) else broken (reader.Job job) items) ≡ Some (put, count)
        → (broken (reader.Job job) items ≡ Some (put, count) → Contains items (job_mark job put count))
        → Contains (Marked (Broke by broke at) ∷ items) (job_mark job put count)
    by_test true mine e later =
        let same : ◌≡◌ {A = Bool × ℕ} (broke, at) (put, count) = cc in
        subst (λ (p : Bool × ℕ). Contains (Marked (Broke by broke at) ∷ items) (job_mark job p.0 p.1)) same
        (subst (λ (o : Option Reader). Contains (Marked (Broke by broke at) ∷ items) (Marked (Broke o broke at))) (same-job job by mine)
        (0, omega arith, refl))
    by_test false mine e later = behind (Marked (Broke by broke at)) items (job_mark job put count) (later e)

-- the mark for a cause stands later
pub mark-later : (before now : List TrailItem) (job : JobId) (why : JobCause) → IsFront before now → HasJobMark before job why → HasJobMark now job why
mark-later before now job (cause.ReadFault count) front mark =
    subst (λ (items : List TrailItem). Contains items (job_mark job false count)) (sym front.is)
    (Contains-append_left before front.more (job_mark job false count) mark)
mark-later before now job (cause.WriteFault count) front mark =
    subst (λ (items : List TrailItem). Contains items (job_mark job true count)) (sym front.is)
    (Contains-append_left before front.more (job_mark job true count) mark)
mark-later before now job (cause.Damaged place) front mark = tt
mark-later before now job cause.Memory front mark = tt
mark-later before now job cause.Lost front mark = tt
mark-later before now job cause.Gone front mark = tt

-- ---- marks, one behind the other

wrote-is : (job : JobId) (item : TrailItem) → IsWroteOf job item → IsMarkOf job item
wrote-is job (Noted event) is = absurd is
wrote-is job (Marked (Wrote by place)) is = is
wrote-is job (Marked (Went dir)) is = absurd is
wrote-is job (Marked (Broke by put count)) is = absurd is

pub all-wrote : (job : JobId) (items : List TrailItem) → AllByRecursion (IsWroteOf job) items → AllByRecursion (IsMarkOf job) items
all-wrote job [] all = tt
all-wrote job (item ∷ items) all = (wrote-is job item all.0, all-wrote job items all.1)

module _ {D : Type 0} (told : D → Option Store) (faults : D → ℕ) (between : List TrailItem → Type 0)
    (meanwhile : ToldHouse D → ToldHouse D → Type 0) (rows : AreRows between) where
  -- ---- one entry was noted

  pub noted-one : (a b : Moment (ToldHouse D)) (then_ : List TrailItem) (event : Entry) (Is : List Entry → Type 0) → IsFront (trail_in a.house) then_
      → trail_in b.house ≡ then_ ++ Noted event ∷ [] → AddsItems faults between a b (Noted event ∷ []) → Is (book_of then_)
      → NotesOne (among told faults between meanwhile) a b event Is
  noted-one a b then_ event Is later last adds was = record { then_ = then_; last = last; later = later; adds = adds; was = was }

  -- it ends so at once
  pub ends-now : (Marks : JobId → TrailItem → Type 0) (job : JobId) (a b : Moment (ToldHouse D)) (event : Entry) (Is : List Entry → Type 0)
      → NotesOne (among told faults between meanwhile) a b event Is → IsOpenHouse b.house
      → EndsWith (among told faults between meanwhile) a b Marks job event Is
  ends-now Marks job a b event Is ends running = record {
    left = a;
    marks = [];
    each = tt;
    adds = adds-none faults between rows a;
    ends = ends;
    running = running;
  }

  -- ---- marks before its end

  ends-behind : (Marks : JobId → TrailItem → Type 0) (job : JobId) (a b c : Moment (ToldHouse D)) (marks : List TrailItem) (event : Entry)
      (Is : List Entry → Type 0) → AddsItems faults between a b marks → AllByRecursion (Marks job) marks
      → EndsWith (among told faults between meanwhile) b c Marks job event Is → EndsWith (among told faults between meanwhile) a c Marks job event Is
  ends-behind Marks job a b c marks event Is adds each ends = record {
    left = ends.left;
    marks = marks ++ ends.marks;
    each = all-append (Marks job) marks ends.marks each ends.each;
    adds = adds-more faults between rows a b ends.left marks ends.marks adds ends.adds;
    ends = ends.ends;
    running = ends.running;
  }

  pub given-behind : (job : JobId) (a b c : Moment (ToldHouse D)) (marks : List TrailItem) (result : Result Finished RunFault)
      → AddsItems faults between a b marks → AllByRecursion (IsMarkOf job) marks
      → IfOk result (EndsGiven (among told faults between meanwhile) job b c) → IfOk result (EndsGiven (among told faults between meanwhile) job a c)
  given-behind job a b c marks (Ok done.Idle) adds each ends = ends
  given-behind job a b c marks (Ok done.Nothing) adds each ends = ends
  given-behind job a b c marks (Ok (done.Published one mark)) adds each ends = ends
  given-behind job a b c marks (Ok (done.GivenUp one why)) adds each ends =
      (ends.0, ends-behind IsMarkOf job a b c marks (entry.Failed job why) _ adds each ends.1)
  given-behind job a b c marks (Err why) adds each ends = tt

  -- one that was given up has ended
  pub given-ends : (job : JobId) (a b c : Moment (ToldHouse D)) (marks : List TrailItem) (result : Result Finished RunFault)
      → AddsItems faults between a b marks → AllByRecursion (IsMarkOf job) marks
      → IfOk result (EndsGiven (among told faults between meanwhile) job b c) → IfOk result (EndsIn (among told faults between meanwhile) job a c)
  given-ends job a b c marks (Ok done.Idle) adds each ends = absurd ends
  given-ends job a b c marks (Ok done.Nothing) adds each ends = absurd ends
  given-ends job a b c marks (Ok (done.Published one mark)) adds each ends = absurd ends
  given-ends job a b c marks (Ok (done.GivenUp one why)) adds each ends =
      (ends.0, ends-behind IsMarkOf job a b c marks (entry.Failed job why) _ adds each ends.1)
  given-ends job a b c marks (Err why) adds each ends = tt

  -- behind files that were staged
  pub staged-ends : (job : JobId) (a b c : Moment (ToldHouse D)) (marks : List TrailItem) (result : Result Finished RunFault)
      → AddsItems faults between a b marks → AllByRecursion (IsWroteOf job) marks
      → IfOk result (EndsIn (among told faults between meanwhile) job b c) → IfOk result (EndsIn (among told faults between meanwhile) job a c)
  staged-ends job a b c marks (Ok done.Idle) adds each ends = ends
  staged-ends job a b c marks (Ok done.Nothing) adds each ends =
      ends-behind IsMarkOf job a b c marks (entry.Empty job) _ adds (all-wrote job marks each) ends
  staged-ends job a b c marks (Ok (done.Published one mark)) adds each ends =
      let was = ends.1 in (
        ends.0,
        record {
          low = was.low;
          high = was.high;
          ends = ends-behind IsWroteOf job a b c marks (entry.Published job was.low was.high mark) _ adds each was.ends;
        },
      )
  staged-ends job a b c marks (Ok (done.GivenUp one why)) adds each ends =
      (ends.0, ends-behind IsMarkOf job a b c marks (entry.Failed job why) _ adds (all-wrote job marks each) ends.1)
  staged-ends job a b c marks (Err why) adds each ends = tt

  pub less-behind : (job : JobId) (a b c : Moment (ToldHouse D)) (marks : List TrailItem) (result : Result Finished RunFault)
      → AddsItems faults between a b marks → AllByRecursion (IsMarkOf job) marks
      → IfErr result (EndsLess (among told faults between meanwhile) job b c) → IfErr result (EndsLess (among told faults between meanwhile) job a c)
  less-behind job a b c marks (Ok x) adds each less = tt
  less-behind job a b c marks (Err why) adds each less = record {
    marks = marks ++ less.marks;
    each = all-append (IsMarkOf job) marks less.marks each less.each;
    adds = adds-more faults between rows a b c marks less.marks adds less.adds;
    stops = less.stops;
  }

  pub less-now : (job : JobId) (a b : Moment (ToldHouse D)) (why : RunFault) → AddsItems faults between a b []
      → RunsOut (among told faults between meanwhile) (IsOfJob job) b.house why → EndsLess (among told faults between meanwhile) job a b why
  less-now job a b why adds stops = record { marks = []; each = tt; adds = adds; stops = stops }

  -- ---- from its Picked on

  module _ (a b c : Moment (ToldHouse D)) (found : PickedJob)
      (picks : NotesOne (among told faults between meanwhile) a b (entry.Picked found.job found.watermark)
      (λ book. picking book ≡ entry.Picked found.job found.watermark)) where
    ends-by : (Marks : JobId → TrailItem → Type 0) (event : Entry) (Is : List Entry → Type 0)
        → EndsWith (among told faults between meanwhile) b c Marks found.job event Is
        → EndsBy (among told faults between meanwhile) a c Marks found.job event Is
    ends-by Marks event Is ends = record {
      watermark = found.watermark;
      mid = b;
      picks = picks;
      left = ends.left;
      marks = ends.marks;
      each = ends.each;
      adds = ends.adds;
      ends = ends.ends;
      running = ends.running;
    }

    pub compacts-picked : (answer : Finished) → EndsIn (among told faults between meanwhile) found.job b c answer
        → CompactsSo (among told faults between meanwhile) a c answer
    compacts-picked done.Idle ends = absurd ends
    compacts-picked done.Nothing ends = (found.job, ends-by IsMarkOf (entry.Empty found.job) _ ends)
    compacts-picked (done.Published one mark) ends =
        subst (λ (j : JobId). PublishesOne (among told faults between meanwhile) a c j mark) (sym ends.0)
        (record {
          low = ends.1.low;
          high = ends.1.high;
          ends = ends-by IsWroteOf (entry.Published found.job ends.1.low ends.1.high mark) _ ends.1.ends;
        })
    compacts-picked (done.GivenUp one why) ends =
        subst (λ (j : JobId). CompactsSo (among told faults between meanwhile) a c (done.GivenUp j why)) (sym ends.0)
        (ends-by IsMarkOf (entry.Failed found.job why) _ ends.1)

    pub picked-running : (answer : Finished) → EndsIn (among told faults between meanwhile) found.job b c answer → IsOpenHouse c.house
    picked-running done.Idle ends = absurd ends
    picked-running done.Nothing ends = ends.running
    picked-running (done.Published one mark) ends = ends.1.ends.running
    picked-running (done.GivenUp one why) ends = ends.1.running

    ends-later : (Marks : JobId → TrailItem → Type 0) (event : Entry) (Is : List Entry → Type 0)
        → EndsWith (among told faults between meanwhile) b c Marks found.job event Is → IsLater faults (seen_in a.house) (seen_in c.house)
    ends-later Marks event Is ends =
        (adds-more faults between rows a ends.left c (Noted (entry.Picked found.job found.watermark) ∷ ends.marks) (Noted event ∷ [])
        (adds-more faults between rows a b ends.left (Noted (entry.Picked found.job found.watermark) ∷ []) ends.marks picks.adds ends.adds)
        ends.ends.adds).later

    pub picked-later : (answer : Finished) → EndsIn (among told faults between meanwhile) found.job b c answer → IsLater faults (seen_in a.house) (seen_in c.house)
    picked-later done.Idle ends = absurd ends
    picked-later done.Nothing ends = ends-later IsMarkOf (entry.Empty found.job) _ ends
    picked-later (done.Published one mark) ends = ends-later IsWroteOf (entry.Published found.job ends.1.low ends.1.high mark) _ ends.1.ends
    picked-later (done.GivenUp one why) ends = ends-later IsMarkOf (entry.Failed found.job why) _ ends.1

    pub picked-stops : (why : RunFault) → EndsLess (among told faults between meanwhile) found.job b c why → IsAtWork why
        → StopsWith (among told faults between meanwhile) a c why
    picked-stops why less at = record {
      items = Noted (entry.Picked found.job found.watermark) ∷ less.marks;
      adds =
          adds-more faults between rows a b c (Noted (entry.Picked found.job found.watermark) ∷ []) less.marks picks.adds less.adds;
      picked = less.each;
      stops = less.stops;
      full = at;
    }
