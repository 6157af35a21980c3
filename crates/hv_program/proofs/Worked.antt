-- What one job leaves over a house on which nobody else acts.
use Rattle.std.proofs.Common.{◌≡◌, inl, inr, ℕ, Option, Some, None, List, [], ◌∷◌, ◌++◌, length, refl, sym, ap, ◌∙◌, subst, append-nil, arith}
use Rattle.std.specs.Prelude.{IsSomeAnd}
use Rattle.std.specs.List.{AllByRecursion}
use Rattle.hv_base.specs.declared.ids.JobId.{JobId}
use Rattle.hv_shelf.specs.Disk.{Store}
use Rattle.hv_history.specs.declared.entry.Entry.{Entry}
use Rattle.hv_history.specs.declared.entry.Entry.TheVariants as entry
use Rattle.hv_history.specs.JobsFit.{PickedFits}
use Rattle.hv_history.specs.Legal.{profile}
use Rattle.hv_history.specs.State.{State, Job, state_of}
use Rattle.hv_stands.specs.Statements.{AllFitting}
use Rattle.hv_trail.specs.declared.trail.TrailItem.{TrailItem}
use Rattle.hv_trail.specs.declared.trail.TrailItem.TheVariants.{Noted, Marked}
use Rattle.hv_trail.specs.declared.trail.Mark.TheVariants.{Wrote, Went, Broke}
use Rattle.hv_trail.specs.Trail.{book_of}
use Rattle.hv_trail.proofs.LastingLaws.{book-append}
use Rattle.hv_actor.specs.Acting.{Nothing, Untouched, Setting, Moment, among, known}
use Rattle.hv_session.proofs.AloneBooks.{nothing-is-added}
use Rattle.hv_session.specs.hv_beginning.specs.hv_steps.specs.hv_table_reader.specs.hv_acts.specs.declared.told.ToldHouse.{ToldHouse}
use Rattle.hv_session.specs.hv_beginning.specs.hv_steps.specs.hv_table_reader.specs.hv_acts.specs.Told.{trail_in, book_in}
use Rattle.hv_session.specs.hv_beginning.specs.hv_steps.specs.hv_table_reader.specs.hv_acts.specs.Going.{IsOpenHouse, IsShutHouse}
use Rattle.hv_session.specs.hv_beginning.specs.hv_steps.specs.hv_table_reader.specs.hv_acts.proofs.Steps.{book-is}
use Rattle.hv_session.specs.hv_beginning.specs.hv_steps.specs.hv_table_reader.specs.hv_acts.specs.hv_telling.specs.hv_house.specs.House.{entries_of}
use Rattle.hv_session.specs.hv_beginning.specs.hv_steps.specs.hv_table_reader.specs.hv_acts.specs.hv_telling.specs.Telling.{IsWhole}
use Rattle.hv_compact.specs.hv_job_acts.specs.hv_job_calls.specs.Refusals.{picking, number_in, to_pick, published_by, publishing_of}
use Rattle.hv_compact.specs.hv_job_acts.specs.Going.{AddsItems}
use Rattle.hv_compact.specs.declared.compacting.Done.{Done as Finished}
use Rattle.hv_compact.specs.declared.compacting.Done.TheVariants as done
use Rattle.hv_compact.specs.declared.fault.RunFault.{RunFault}
use Rattle.hv_compact.specs.declared.fault.RunFault.TheVariants as run
use Rattle.hv_compact.specs.Stopping.{IsPicking, IsOfJob}
use Rattle.hv_compact.specs.Compacting.{IsMarkOf, IsWroteOf, IsPickedThen, StopsIn, FullIn, CompactsSo, StopsWith}
use Rattle.hv_compact.specs.Alone.{picked_with}
use Rattle.hv_compact.proofs.Alones.{front-length, same-front, alone-added, IsEndedAlone, ended-alone, compacts-alone}
use Rattle.hv_compact.proofs.Ends.{all-wrote}
use Rattle.hv_program.specs.Background.{LacksRoomFor, IsCompacting, IsEndOfJob, WorksAt, WorksOne}
use Rattle.hv_program.specs.Beside.{AddsBeside}
use Rattle.hv_program.proofs.OwnEntries.{more-fits}
use Rattle.hv_program.proofs.Passed.{shut-house}

-- ---- a job that was taken up was the lowest

lowest-in : (s : State) (o : Option Job) (number mark : ℕ) → IsSomeAnd o (PickedFits profile s number mark) → to_pick s ≡ Some number
lowest-in s None number mark fits = absurd fits
lowest-in s (Some job) number mark fits = fits.lowest

works-if : (before now : List Entry) (event : Entry) → AllFitting now → now ≡ before ++ picking before ∷ event ∷ []
    → IsEndOfJob (before ++ picking before ∷ []) (record { 0 = number_in (to_pick (state_of before)) }) event → WorksOne before now
works-if before now event fit goes ends =
    let fits = (more-fits before (picking before ∷ event ∷ []) now goes fit).0 in
    let lowest : to_pick (state_of before) ≡ Some (number_in (to_pick (state_of before))) = lowest-in (state_of before) _ _ _ fits in
    subst (WorksAt before now) (sym lowest) (inl (record { event = event; goes = goes; ends = ends }))

left-by : (before now : List Entry) (o : Option ℕ) → now ≡ before → LacksRoomFor before 2 → WorksAt before now o
left-by before now None same lacks = same
left-by before now (Some number) same lacks = inr (same, lacks)

published-kind : (s : State) (job : JobId) (o : Option Job) → IsCompacting (published_by s job o)
published-kind s job None = tt
published-kind s job (Some j) = tt

marks-kind : (job : JobId) (marks : List TrailItem) → AllByRecursion (IsMarkOf job) marks → AllByRecursion IsCompacting (book_of marks)
marks-kind job [] all = tt
marks-kind job (Noted event ∷ marks) all = absurd all.0
marks-kind job (Marked (Wrote by place) ∷ marks) all = marks-kind job marks all.1
marks-kind job (Marked (Went dir) ∷ marks) all = absurd all.0
marks-kind job (Marked (Broke by put count) ∷ marks) all = marks-kind job marks all.1

picked-kind : (items : List TrailItem) → IsPickedThen items → AllByRecursion IsCompacting (book_of items)
picked-kind [] picked = tt
picked-kind (Noted (entry.Picked job watermark) ∷ marks) picked = (tt, marks-kind job marks picked)
picked-kind items picked = absurd picked

beside-answer : (book : List Entry) (answer : Finished) → AddsBeside IsCompacting book (picked_with book answer)
beside-answer book done.Idle = record { added = []; book = sym (append-nil book); of_it = tt }
beside-answer book done.Nothing = record { added = _; book = refl; of_it = (tt, (tt, tt)) }
beside-answer book (done.Published job mark) = record { added = _; book = refl; of_it = (tt, (published-kind (state_of (book ++ (picking book ∷ []))) job _, tt)) }
beside-answer book (done.GivenUp job why) = record { added = _; book = refl; of_it = (tt, (tt, tt)) }

module _ {D : Type 0} (told : D → Option Store) (faults : D → ℕ) (own own' : List ℕ) (before now : ToldHouse D) where
  abbrev Alone : Setting D (ToldHouse D)
  Alone = among told faults Nothing Untouched

  abbrev A : Moment (ToldHouse D)
  A = known own before

  abbrev B : Moment (ToldHouse D)
  B = known own' now

  works-in : WorksOne (book_in before) (book_in now) → WorksOne (entries_of before.house) (entries_of now.house)
  works-in works =
      subst (λ (b : List Entry). WorksOne b (entries_of now.house)) (book-is before.house)
      (subst (WorksOne (book_in before)) (book-is now.house) works)

  ended-in : (event : Entry) (job : JobId) (Is : List Entry → Type 0) → AllFitting (book_in now)
      → IsEndedAlone told faults Nothing Untouched nothing-is-added A B job event Is
      → IsEndOfJob (book_in before ++ picking (book_in before) ∷ []) (record { 0 = number_in (to_pick (state_of (book_in before))) }) event
      → WorksOne (book_in before) (book_in now)
  ended-in event job Is fit ended ends = works-if (book_in before) (book_in now) event fit ended.whole ends

  works-by : (answer : Finished) → AllFitting (book_in now) → CompactsSo Alone A B answer → WorksOne (book_in before) (book_in now)
  works-by done.Idle fit so =
      let same : trail_in now ≡ trail_in before = alone-added faults Nothing nothing-is-added A B [] so.adds ∙ append-nil (trail_in before) in
      let few = front-length so.idle.then_ (trail_in now) so.idle.front in
      let long : length (trail_in now) ≡ length (trail_in before) = ap length same in
      let there : so.idle.then_ ≡ trail_in before = same-front (trail_in before) so.idle.then_ so.idle.later (omega (arith, few, long)) in
      let none : to_pick (state_of (book_in before)) ≡ None =
      sym (ap (λ (trail : List TrailItem). to_pick (state_of (book_of trail))) there) ∙ so.idle.was in
      subst (WorksAt (book_in before) (book_in now)) (sym none) (ap book_of same)
  works-by done.Nothing fit so =
      let ended = ended-alone told faults Nothing Untouched nothing-is-added IsMarkOf (λ job items all. all) A B so.0 (entry.Empty so.0) _ so.1 in
      ended-in (entry.Empty so.0) so.0 _ fit ended ended.job_is
  works-by (done.Published job mark) fit so =
      let ended = ended-alone told faults Nothing Untouched nothing-is-added IsWroteOf all-wrote A B job (entry.Published job so.low so.high mark) _ so.ends in
      ended-in (entry.Published job so.low so.high mark) job _ fit ended
      (sym ended.was ∙ ap (publishing_of (book_in before ++ picking (book_in before) ∷ [])) ended.job_is)
  works-by (done.GivenUp job why) fit so =
      let ended = ended-alone told faults Nothing Untouched nothing-is-added IsMarkOf (λ j items all. all) A B job (entry.Failed job why) _ so in
      ended-in (entry.Failed job why) job _ fit ended ended.job_is

  pub one-done : (answer : Finished) → IsWhole told now.house → CompactsSo Alone A B answer
      → WorksOne (entries_of before.house) (entries_of now.house)
  one-done answer whole so = works-in (works-by answer (subst AllFitting (sym (book-is now.house)) whole.ready.fit) so)

  pub one-beside : (answer : Finished) → CompactsSo Alone A B answer → AddsBeside IsCompacting (entries_of before.house) (entries_of now.house)
  one-beside answer so =
      subst (λ (b : List Entry). AddsBeside IsCompacting b (entries_of now.house)) (book-is before.house)
      (subst (AddsBeside IsCompacting (book_in before))
      (sym (compacts-alone told faults Nothing Untouched nothing-is-added A B answer so) ∙ book-is now.house)
      (beside-answer (book_in before) answer))

  -- ---- where it stops

  gained : (items : List TrailItem) → AddsItems faults Nothing A B items → entries_of now.house ≡ entries_of before.house ++ book_of items
  gained items adds =
      sym (book-is now.house) ∙ ap book_of (alone-added faults Nothing nothing-is-added A B items adds) ∙ book-append (trail_in before) items
      ∙ ap (λ (book : List Entry). book ++ book_of items) (book-is before.house)

  pub one-some : (why : RunFault) → StopsWith Alone A B why → AddsBeside IsCompacting (entries_of before.house) (entries_of now.house)
  one-some why s = record { added = book_of s.items; book = gained s.items s.adds; of_it = picked-kind s.items s.picked }

  full-by : (items : List TrailItem) (entries : ℕ) → AddsItems faults Nothing A B items → FullIn (book_in now) items (run.Full entries)
      → WorksOne (entries_of before.house) (entries_of now.house)
  full-by [] entries adds full =
      let same : entries_of now.house ≡ entries_of before.house = gained [] adds ∙ append-nil (entries_of before.house) in
      left-by (entries_of before.house) (entries_of now.house) (to_pick (state_of (entries_of before.house))) same
      (subst (λ (book : List Entry). LacksRoomFor book 2) (book-is now.house ∙ same) full.full)
  full-by (item ∷ items) entries adds full = absurd full

  pub one-full : (why : RunFault) → StopsWith Alone A B why → (entries : ℕ) → why ≡ run.Full entries
      → WorksOne (entries_of before.house) (entries_of now.house)
  one-full why s entries is = full-by s.items entries s.adds (subst (FullIn (book_in now) s.items) is s.full)

  open-by : (items : List TrailItem) (entries : ℕ) → FullIn (book_in now) items (run.Full entries) → StopsIn Alone now items (run.Full entries) → IsOpenHouse now
  open-by [] entries full stops = stops
  open-by (item ∷ items) entries full stops = absurd full

  pub one-open : (why : RunFault) → StopsWith Alone A B why → (entries : ℕ) → why ≡ run.Full entries → IsOpenHouse now
  one-open why s entries is =
      open-by s.items entries (subst (FullIn (book_in now) s.items) is s.full) (subst (StopsIn Alone now s.items) is s.stops)

  shut-by : (items : List TrailItem) → IsPickedThen items → StopsIn Alone now items run.Store → IsShutHouse now
  shut-by [] picked stops = shut-house told faults IsPicking now stops
  shut-by (Noted (entry.Picked job watermark) ∷ marks) picked stops = shut-house told faults (IsOfJob job) now stops
  shut-by items picked stops = absurd picked

  pub one-shut : (why : RunFault) → StopsWith Alone A B why → why ≡ run.Store → IsShutHouse now
  one-shut why s is = shut-by s.items s.picked (subst (StopsIn Alone now s.items) is s.stops)
