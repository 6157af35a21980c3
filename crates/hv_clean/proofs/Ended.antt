-- How the turn of a job ends: it is noted as cleaned, held or over; and what the whole turn comes to.
use Rattle.std.proofs.Common.{◌≡◌, ◌⊎◌, inl, inr, ℕ, true, false, true≢false, Option, Some, None, List, [], ◌∷◌, ◌++◌, Result, Ok, Err, refl, sym, ap, ◌∙◌, subst}
use Rattle.std.specs.Prelude.{IfOk, IsSomeAnd, is_some, not}
use Rattle.std.specs.List.{AllByRecursion}
use Rattle.std.proofs.lemmas.Bool.{and_parts}
use Rattle.hv_base.specs.declared.ids.JobId.{JobId}
use Rattle.hv_shelf.specs.declared.place.DirAt.{DirAt}
use Rattle.hv_shelf.specs.Disk.{Store}
use Rattle.hv_dirs.specs.Names.{text_of}
use Rattle.hv_history.specs.declared.entry.Entry.{Entry}
use Rattle.hv_history.specs.declared.entry.Entry.TheVariants as entry
use Rattle.hv_history.specs.State.{Job, numbered, nothing_yet, state_of}
use Rattle.hv_history.specs.Legal.{profile, AllFit}
use Rattle.hv_history.specs.Jobs.{is_ready}
use Rattle.hv_history.specs.JobsFit.{OfJob, is_live_job, CleanedFits}
use Rattle.hv_history.specs.Lasting.{IsFront}
use Rattle.hv_law_made.specs.Entries.{dir_of}
use Rattle.hv_law_visible.specs.Members.{IsIn}
use Rattle.hv_law_work.specs.Work.{AreGone}
use Rattle.hv_trail.specs.declared.trail.TrailItem.{TrailItem}
use Rattle.hv_trail.specs.declared.trail.TrailItem.TheVariants.{Noted}
use Rattle.hv_trail.specs.Trail.{book_of, state_at, HasGone}
use Rattle.hv_trail.specs.Steps.{HouseSeen, Note}
use Rattle.hv_trail.proofs.LastingLaws.{book-append}
use Rattle.hv_actor.specs.Acting.{IsLater, AreRows, Setting, Moment, among, known}
use Rattle.hv_actor.specs.Acting.{Went as HasAdded}
use Rattle.hv_job_acts.specs.hv_acts.specs.hv_telling.specs.hv_house.specs.declared.fault.HouseFault.TheVariants as house_fault
use Rattle.hv_job_acts.specs.hv_job_calls.specs.declared.fault.JobFault.TheVariants as fault
use Rattle.hv_job_acts.specs.hv_job_calls.specs.Refusals.{IsCoveredDir}
use Rattle.hv_job_acts.specs.hv_acts.specs.declared.told.ToldHouse.{ToldHouse}
use Rattle.hv_job_acts.specs.hv_acts.specs.Told.{IsWholeOrClosed, seen_in, trail_in}
use Rattle.hv_job_acts.specs.hv_acts.specs.Going.{IsOpenHouse}
use Rattle.hv_job_acts.specs.hv_acts.proofs.Steps.{book-is}
use Rattle.hv_job_acts.specs.declared.fault.JobActFault.{JobActFault}
use Rattle.hv_job_acts.specs.declared.fault.JobActFault.TheVariants as act
use Rattle.hv_job_acts.specs.Answers.{act_call, answer_call, adds_by}
use Rattle.hv_job_acts.specs.Doing.{CleansSo}
use Rattle.hv_job_acts.specs.Covering.{AreNamesOf}
use Rattle.hv_job_acts.specs.Going.{WasAt}
use Rattle.hv_job_acts.specs.Work.{AreCovered}
use Rattle.hv_clean.specs.declared.fault.PassFault.{PassFault}
use Rattle.hv_clean.specs.declared.fault.Swept.{Swept}
use Rattle.hv_clean.specs.declared.stopping.Refused.{Refused as WhyRefused}
use Rattle.hv_clean.specs.declared.cleaning.Removal.{Removal}
use Rattle.hv_clean.specs.declared.cleaning.Removal.TheVariants as removed
use Rattle.hv_clean.specs.Passing.{count_cleaned, count_held, Asks, Sweeps, IsHeldAt, IsOver, WasOver, IsCleanedNow, LeftOf, CleansOne}
use Rattle.hv_clean.specs.Removing.{AreCoveredDirs, IsKnown, counted_held, unless_stopped, WentBy, HasAllGone, RemovalSays, UnnotedBy, EndsTurn}
use Rattle.hv_clean.specs.Stopping.{refusal_of}
use Rattle.hv_clean.proofs.Holds.{JobHeld, BehindAs, either, cleaned-quietly, behind-err, act-adds, act-later, act-open, house-front, now-front}
use Rattle.hv_clean.proofs.Moved.{front-itself, front-more, adds-none, sweeps-then, asks-sweeps, moves-front, moves-sweeps, moves-asks, was-earlier, was-later}
use Rattle.hv_clean.proofs.Lasts.{has}
use Rattle.hv_clean.proofs.CoversLast.{gone-from, gone-lasts, fit-split}
use Rattle.hv_clean.proofs.Namings.{book-named}

-- ---- a house's book

module _ {D : Type 0} (told : D → Option Store) (house : ToldHouse D) where
  pub fits-in : IsWholeOrClosed told house.house → IsOpenHouse house → AllFit profile nothing_yet (book_of (trail_in house))
  fits-in kept running =
      subst (λ (book : List Entry). AllFit profile nothing_yet book) (sym (book-is house.house)) (kept.whole running).ready.fit

-- ---- where the job stood at some trail

-- it is ready and its table is live; or it is over
pub record StandsReady (trail : List TrailItem) (job : JobId) : Type 0 where
  pub its : Job
  pub is : numbered (state_at trail).jobs job.0 ≡ Some its
  pub ready : is_ready its ≡ true
  pub live : is_live_job (state_at trail) its ≡ true
  pub range : ℕ × ℕ × ℕ
  pub published : its.published ≡ Some range

pub stands : (trail : List TrailItem) (job : JobId) → StandsReady trail job ⊎ IsOver job trail
stands trail job = by (numbered (state_at trail).jobs job.0) refl
  where
    ranged : (j : Job) → numbered (state_at trail).jobs job.0 ≡ Some j → is_ready j ≡ true → is_live_job (state_at trail) j ≡ true
        → (o : Option (ℕ × ℕ × ℕ)) → j.published ≡ o → StandsReady trail job ⊎ IsOver job trail
    ranged j is ready live None none =
        absurd (true≢false (sym (and_parts (is_some j.published) (not j.is_cleaned) ready).0 ∙ ap (λ (o : Option (ℕ × ℕ × ℕ)). is_some o) none))
    ranged j is ready live (Some range) some =
        inl (record { its = j; is = is; ready = ready; live = live; range = range; published = some })

    lives : (j : Job) → numbered (state_at trail).jobs job.0 ≡ Some j → is_ready j ≡ true
        → (is_live_job (state_at trail) j ≡ true) ⊎ (is_live_job (state_at trail) j ≡ false) → StandsReady trail job ⊎ IsOver job trail
    lives j is ready (inl live) = ranged j is ready live j.published refl
    lives j is ready (inr gone) =
        inr (inl (has (λ (k : Job). is_live_job (state_at trail) k ≡ false) (numbered (state_at trail).jobs job.0) j is gone))

    readies : (j : Job) → numbered (state_at trail).jobs job.0 ≡ Some j → (is_ready j ≡ true) ⊎ (is_ready j ≡ false) → StandsReady trail job ⊎ IsOver job trail
    readies j is (inl ready) = lives j is ready (either (is_live_job (state_at trail) j))
    readies j is (inr not_ready) =
        inr (inr (λ of. true≢false (sym (subst (λ (o : Option Job). IsSomeAnd o (λ (k : Job). is_ready k ≡ true)) is of) ∙ not_ready)))

    by : (o : Option Job) → numbered (state_at trail).jobs job.0 ≡ o → StandsReady trail job ⊎ IsOver job trail
    by None is = inr (inr (λ of. subst (λ (o : Option Job). IsSomeAnd o (λ (k : Job). is_ready k ≡ true)) is of))
    by (Some j) is = readies j is (either (is_ready j))

module _ {D : Type 0} (told : D → Option Store) (faults : D → ℕ) (between : List TrailItem → Type 0) (rows : AreRows between)
    (meanwhile : ToldHouse D → ToldHouse D → Type 0)
    (goes_on : (before now : ToldHouse D) → meanwhile before now → IsLater faults (seen_in before) (seen_in now)) (job : JobId) where
  abbrev Its : Setting D (ToldHouse D)
  Its = among told faults between meanwhile

  abbrev Cleaning : HouseSeen D → Result (Unit {0}) JobActFault → Type 0
  Cleaning seen answer = CleansSo seen.trail job answer

  -- ---- it is noted

  module _ (own own' : List ℕ) (before now : ToldHouse D) (was : IsOpenHouse before) where
    abbrev A : Moment (ToldHouse D)
    A = known own before

    abbrev B : Moment (ToldHouse D)
    B = known own' now

    abbrev NoteHeld : Result (Unit {0}) JobActFault → Type 0
    NoteHeld result = JobHeld told faults between meanwhile goes_on (answer_call (Note (entry.Cleaned job)) result) Cleaning before now result

    abbrev NoteWent : Result (Unit {0}) JobActFault → Type 0
    NoteWent result = HasAdded between (adds_by (Note (entry.Cleaned job)) result) own own' (trail_in before) (trail_in now)

    pub note-behind : (result : Result (Unit {0}) JobActFault) (why : JobActFault) (from : Swept) → result ≡ Err why → NoteHeld result → NoteWent result
        → BehindAs told faults between meanwhile goes_on A B from (refusal_of why)
    note-behind result why from is held went =
        behind-err told faults between meanwhile goes_on Cleaning own own' before now was from (Note (entry.Cleaned job)) (cleaned-quietly job)
        (λ seen entries so. so.full entries refl) result why is held went

    -- the book with its entry fits
    entry-fits : (then_ : List TrailItem) → trail_in now ≡ then_ ++ Noted (entry.Cleaned job) ∷ [] → AllFit profile nothing_yet (book_of (trail_in now))
        → OfJob (state_at then_) job.0 (CleanedFits profile (state_at then_))
    entry-fits then_ last fit =
        (fit-split profile nothing_yet (book_of then_) (entry.Cleaned job ∷ [])
        (subst (λ (book : List Entry). AllFit profile nothing_yet book) (ap book_of last ∙ book-append then_ (Noted (entry.Cleaned job) ∷ [])) fit)).1.0

    pub note-done : (result : Result (Unit {0}) JobActFault) (from to : Swept) → result ≡ Ok tt → to ≡ count_cleaned from → NoteHeld result → NoteWent result
        → IsWholeOrClosed told now.house → EndsTurn Its A B job removed.All from to
    note-done result from to is counts held went kept =
        let held_ : NoteHeld (Ok tt) = subst NoteHeld is held in
        let went_ : NoteWent (Ok tt) = subst NoteWent is went in
        let running : IsOpenHouse now =
        act-open told faults between meanwhile goes_on (Note (entry.Cleaned job)) Cleaning own own' before now (Ok tt) held_ held_.does_it.leaves refl in
        inl (
          record {
            adds = act-adds told faults between meanwhile goes_on (Note (entry.Cleaned job)) Cleaning own own' before now (Ok tt) held_
                (Noted (entry.Cleaned job) ∷ []) went_;
            running = running;
            then_ = trail_in held_.house;
            last = held_.step.trail;
            gone = (held_.does_it.answers held_.does_it.leaves).marked;
            fits = entry-fits (trail_in held_.house) held_.step.trail (fits-in told now kept running);
          },
          counts,
        )

    -- ---- it isn't noted

    was-then : (why : JobActFault) (held : NoteHeld (Err why)) (Is : List TrailItem → Type 0) → Is (trail_in held.house) → WasAt before now Is
    was-then why held Is is = record {
      then_ = trail_in held.house;
      later = house-front told faults between meanwhile goes_on (act_call (Note (entry.Cleaned job)) why) Cleaning own own' before now (Err why) held;
      front = now-front told faults between meanwhile goes_on (act_call (Note (entry.Cleaned job)) why) Cleaning own own' before now (Err why) held;
      was = is;
    }

    -- where it had stood ready and all had gone, it stood so no more
    unfit-over : (held : NoteHeld (Err act.Unfit)) → HasAllGone (trail_in before) job → WasOver before now job
    unfit-over held all = by (stands (trail_in before) job)
      where
        first : IsFront (trail_in before) (trail_in held.house)
        first = house-front told faults between meanwhile goes_on (act_call (Note (entry.Cleaned job)) act.Unfit) Cleaning own own' before now (Err act.Unfit) held

        back : IsFront (trail_in held.house) (trail_in now)
        back = now-front told faults between meanwhile goes_on (act_call (Note (entry.Cleaned job)) act.Unfit) Cleaning own own' before now (Err act.Unfit) held

        fit : AllFit profile nothing_yet (book_of (trail_in held.house))
        fit = fits-in told held.house held.kept held.does_it.leaves

        still : StandsReady (trail_in before) job → StandsReady (trail_in held.house) job → ⊥
        still early late =
            let gone : AreGone (trail_in held.house) (state_at (trail_in held.house)) late.its =
            gone-lasts (trail_in before) (trail_in before) (trail_in held.house) first first fit job.0 early.its late.its early.is late.is early.range early.published
            (all early.its early.is early.ready early.live) in
            (held.does_it.answers held.does_it.leaves).unfit refl
            (has (λ (j : Job). is_ready j ≡ true) (numbered (state_at (trail_in held.house)).jobs job.0) late.its late.is late.ready)
            (has (AreNamesOf (state_at (trail_in held.house))) (numbered (state_at (trail_in held.house)).jobs job.0) late.its late.is
            (book-named (book_of (trail_in held.house)) late.its fit))
            (has (λ (j : Job). is_live_job (state_at (trail_in held.house)) j ≡ true → AreGone (trail_in held.house) (state_at (trail_in held.house)) j)
            (numbered (state_at (trail_in held.house)).jobs job.0) late.its late.is (λ live. gone))

        late_by : StandsReady (trail_in before) job → StandsReady (trail_in held.house) job ⊎ IsOver job (trail_in held.house) → WasOver before now job
        late_by early (inl late) = absurd (still early late)
        late_by early (inr over) = was-then act.Unfit held (IsOver job) over

        by : StandsReady (trail_in before) job ⊎ IsOver job (trail_in before) → WasOver before now job
        by (inl early) = late_by early (stands (trail_in held.house) job)
        by (inr over) = record {
          then_ = trail_in before;
          later = front-itself (trail_in before);
          front = front-more (trail_in before) (trail_in held.house) (trail_in now) first back;
          was = over;
        }

    later-of : (why : JobActFault) → NoteHeld (Err why) → IsLater faults (seen_in before) (seen_in now)
    later-of why held =
        act-later told faults between meanwhile goes_on (act_call (Note (entry.Cleaned job)) why) Cleaning own own' before now (Err why) held

    -- it stays uncounted, but for one that is held
    abbrev NotedAs : Swept → WhyRefused → Type 0
    NotedAs from r = IfOk (unless_stopped r) (λ done. EndsTurn Its A B job removed.All from (counted_held r from))

    without : (from to : Swept) → Sweeps Its A B from from → NoteWent (Err act.Unfit) → (held : IsLater faults (seen_in before) (seen_in now))
        → UnnotedBy before now job from to → EndsTurn Its A B job removed.All from to
    without from to sweeps went later ends_ = inr (record { adds = record { went = went; later = later }; running = sweeps.running }, ends_)

    note-so : (why : JobActFault) (from : Swept) → NoteHeld (Err why) → NoteWent (Err why)
        → BehindAs told faults between meanwhile goes_on A B from (refusal_of why) → NotedAs from (refusal_of why)
    note-so act.Unfit from held went behind = without from from behind went (later-of act.Unfit held) (inr (λ all. unfit-over held all, refl))
    note-so (act.Broken put count) from held went behind = absurd (held.does_it.answers held.does_it.leaves).others
    note-so (act.Call fault.Gone) from held went behind =
        without from from behind went (later-of (act.Call fault.Gone) held)
        (inr (λ all. was-then (act.Call fault.Gone) held (IsOver job) (inl ((held.does_it.answers held.does_it.leaves).gone refl)), refl))
    note-so (act.Call (fault.Full entries)) from held went behind = tt
    note-so (act.Call fault.NotFound) from held went behind = absurd (held.does_it.answers held.does_it.leaves).others
    note-so (act.Call (fault.Needed txn)) from held went behind =
        without from (count_held from) behind went (later-of (act.Call (fault.Needed txn)) held)
        (inl (was-then (act.Call (fault.Needed txn)) held (IsHeldAt job) (txn.0, (held.does_it.answers held.does_it.leaves).needed txn.0 refl), refl))
    note-so (act.Call (fault.StillListed dir)) from held went behind = absurd (held.does_it.answers held.does_it.leaves).others
    note-so (act.Call (fault.Working job_)) from held went behind = absurd (held.does_it.answers held.does_it.leaves).others
    note-so (act.Call fault.Starved) from held went behind = tt
    note-so (act.Call (fault.House house_fault.Store)) from held went behind = tt
    note-so (act.Call (fault.House house_fault.NoMemory)) from held went behind = tt
    note-so (act.Call (fault.House (house_fault.Failed count))) from held went behind = absurd held.step.may

    pub note-refused : (result : Result (Unit {0}) JobActFault) (why : JobActFault) (from to : Swept) (r : WhyRefused) (answer : Result (Unit {0}) PassFault)
        → result ≡ Err why → NoteHeld result → NoteWent result → r ≡ refusal_of why → to ≡ counted_held r from → answer ≡ unless_stopped r
        → IfOk answer (λ done. EndsTurn Its A B job removed.All from to)
    note-refused result why from to r answer is held went r_is counts ends_ =
        subst (λ (x : Result (Unit {0}) PassFault). IfOk x (λ done. EndsTurn Its A B job removed.All from to)) (sym ends_)
        (subst (λ (t : Swept). IfOk (unless_stopped r) (λ done. EndsTurn Its A B job removed.All from t)) (sym counts)
        (subst (NotedAs from) (sym r_is)
        (note-so why from (subst NoteHeld is held) (subst NoteWent is went) (note-behind result why from is held went))))

  -- ---- nothing is to be noted

  none-asks : (a : Moment (ToldHouse D)) → IsOpenHouse a.house → Asks Its a a
  none-asks a running = record { adds = adds-none told faults between rows meanwhile a; running = running }

  pub end-left : (a : Moment (ToldHouse D)) (f : Swept) → IsOpenHouse a.house → EndsTurn Its a a job removed.Left f f
  end-left a f running = (none-asks a running, refl)

  pub end-held : (a : Moment (ToldHouse D)) (f t : Swept) → IsOpenHouse a.house → t ≡ count_held f → EndsTurn Its a a job removed.Held f t
  end-held a f t running counts = (none-asks a running, counts)

  pub end-over : (a : Moment (ToldHouse D)) (f : Swept) → IsOpenHouse a.house → EndsTurn Its a a job removed.Over f f
  end-over a f running = (none-asks a running, refl)

  -- ---- the whole turn

  abbrev pub Covers : ToldHouse D → List DirAt → Type 0
  Covers house dirs =
      (j : Job) → numbered (state_of (book_of (trail_in house))).jobs job.0 ≡ Some j → AreNamesOf (state_of (book_of (trail_in house))) j
      → AreCovered (state_of (book_of (trail_in house))) j dirs

  -- those that are there may be taken away
  all-for : (trail : List TrailItem) (j : Job) → numbered (state_at trail).jobs job.0 ≡ Some j → (dirs : List DirAt)
      → AllByRecursion (λ (dir : DirAt). IsCoveredDir dir j) dirs → AreCoveredDirs trail job dirs
  all-for trail j is [] all = tt
  all-for trail j is (dir ∷ dirs) all =
      (has (IsCoveredDir dir) (numbered (state_at trail).jobs job.0) j is all.0, all-for trail j is dirs all.1)

  pub may-go : (house : ToldHouse D) (dirs : List DirAt) → AllFit profile nothing_yet (book_of (trail_in house)) → IsKnown (trail_in house) job
      → Covers house dirs → AreCoveredDirs (trail_in house) job dirs
  may-go house dirs fit known_ covers_ = by (numbered (state_at (trail_in house)).jobs job.0) refl known_
    where
      by : (o : Option Job) → numbered (state_at (trail_in house)).jobs job.0 ≡ o → is_some o ≡ true → AreCoveredDirs (trail_in house) job dirs
      by None is some = absurd (true≢false (sym some))
      by (Some j) is some = all-for (trail_in house) j is dirs (covers_ j is (book-named (book_of (trail_in house)) j fit)).each

  in-all : (P : DirAt → Type 0) (dirs : List DirAt) (dir : DirAt) → AllByRecursion P dirs → IsIn dir dirs → P dir
  in-all P [] dir all is = absurd is
  in-all P (first ∷ dirs) dir all (inl same) = subst P same all.0
  in-all P (first ∷ dirs) dir all (inr is) = in-all P dirs dir all.1 is

  -- all that it covered then went, and so all that it covers now
  all-went : (then_ now : ToldHouse D) (dirs : List DirAt) → IsFront (trail_in then_) (trail_in now) → AllFit profile nothing_yet (book_of (trail_in now))
      → AllFit profile nothing_yet (book_of (trail_in then_)) → Covers then_ dirs → StandsReady (trail_in then_) job → AllByRecursion (HasGone (trail_in now)) dirs
      → HasAllGone (trail_in now) job
  all-went then_ now dirs front fit fit_then covers_ ready went = λ k is ready_now live_now.
      let its = covers_ ready.its ready.is (book-named (book_of (trail_in then_)) ready.its fit_then) in
      gone-lasts (trail_in now) (trail_in then_) (trail_in now) front (front-itself (trail_in now)) fit job.0 ready.its k ready.is is ready.range ready.published
      (gone-from (trail_in now) (state_at (trail_in then_)) ready.its
      (λ name among_ left. in-all (HasGone (trail_in now)) dirs (dir_of ready.its (text_of name)) went (its.every name among_ left)))

  module _ (z a b c : Moment (ToldHouse D)) (dirs : List DirAt) (f m t : Swept) (asks : Asks Its z a) (removes : Sweeps Its a b f m)
      (kept_then : IsWholeOrClosed told a.house.house) (kept_now : IsWholeOrClosed told b.house.house) (covers_ : Covers a.house dirs) where
    first : IsFront (trail_in z.house) (trail_in a.house)
    first = moves-front told faults between rows meanwhile z a (moves-asks told faults between rows meanwhile z a asks)

    second : IsFront (trail_in a.house) (trail_in b.house)
    second = moves-front told faults between rows meanwhile a b (moves-sweeps told faults between rows meanwhile a b f m removes)

    third : (t : Moment (ToldHouse D)) → Asks Its b t → IsFront (trail_in b.house) (trail_in t.house)
    third t asks_ = moves-front told faults between rows meanwhile b t (moves-asks told faults between rows meanwhile b t asks_)

    abbrev Turned : Type 0
    Turned = (IsCleanedNow Its b c job × (t ≡ count_cleaned m)) ⊎ (Asks Its b c × LeftOf z.house c.house job f m t)

    turn-by : (removal : Removal) → WentBy (trail_in b.house) dirs removal → RemovalSays a.house b.house job f m removal
        → EndsTurn Its b c job removal m t → Turned
    turn-by removed.All went same (inl cleaned) = inl cleaned
    turn-by removed.All went same (inr (asks_, inl held)) =
        inr (
          asks_,
          inl (
            was-earlier told faults between rows meanwhile z.house b.house c.house (IsHeldAt job)
                (front-more (trail_in z.house) (trail_in a.house) (trail_in b.house) first second) held.0,
            held.1,
          ),
        )
    turn-by removed.All went same (inr (asks_, inr over)) = inr (asks_, inr (λ none. by (stands (trail_in a.house) job), over.1))
      where
        by : StandsReady (trail_in a.house) job ⊎ IsOver job (trail_in a.house) → WasOver z.house c.house job
        by (inl ready) =
            was-earlier told faults between rows meanwhile z.house b.house c.house (IsOver job)
            (front-more (trail_in z.house) (trail_in a.house) (trail_in b.house) first second)
            (over.0 (all-went a.house b.house dirs second (fits-in told b.house kept_now removes.running) (fits-in told a.house kept_then asks.running) covers_ ready went))
        by (inr is) = record {
          then_ = trail_in a.house;
          later = first;
          front = front-more (trail_in a.house) (trail_in b.house) (trail_in c.house) second (third c asks_);
          was = is;
        }
    turn-by removed.Left went says ends_ = inr (ends_.0, inr (λ none. absurd (says none), ends_.1))
    turn-by removed.Held went says ends_ =
        inr (
          ends_.0,
          inl (
            was-earlier told faults between rows meanwhile z.house a.house c.house (IsHeldAt job) first
                (was-later told faults between rows meanwhile a.house b.house c.house (IsHeldAt job) says (third c ends_.0)),
            ends_.1,
          ),
        )
    turn-by removed.Over went says ends_ =
        inr (
          ends_.0,
          inr (
            λ none. was-earlier told faults between rows meanwhile z.house a.house c.house (IsOver job) first
                (was-later told faults between rows meanwhile a.house b.house c.house (IsOver job) says (third c ends_.0)),
            ends_.1,
          ),
        )

    pub turn-done : (removal : Removal) → WentBy (trail_in b.house) dirs removal → RemovalSays a.house b.house job f m removal
        → EndsTurn Its b c job removal m t → CleansOne Its z c job f t
    turn-done removal went says ends_ = record {
      left = b;
      swept = m;
      sweeps = sweeps-then told faults between rows meanwhile z a b f f m (asks-sweeps told faults between rows meanwhile z a f asks) removes;
      turn = turn-by removal went says ends_;
    }

    pub turn-ok : (removal : Removal) (result : Result (Unit {0}) PassFault) → WentBy (trail_in b.house) dirs removal
        → RemovalSays a.house b.house job f m removal → IfOk result (λ done. EndsTurn Its b c job removal m t) → IfOk result (λ done. CleansOne Its z c job f t)
    turn-ok removal (Ok done) went says ends_ = turn-done removal went says ends_
    turn-ok removal (Err why) went says ends_ = tt
