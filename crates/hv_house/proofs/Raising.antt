-- How a store is opened over the book that its journal was read to, step by step: what each leaves, also where it stops.
use Rattle.std.proofs.Common.{◌≡◌, ◌⊎◌, inl, inr, ℕ, suc, ◌+◌, ◌<◌, ◌≤◌, Bool, true, false, true≢false, Option, Some, None, Result, Ok, Err, IsErrOf, List, [], ◌∷◌, ◌++◌, length, map, fold, refl, sym, ap, ◌∙◌, subst, arith, append_assoc, append-nil, length-append}
use Rattle.std.specs.Prelude.{IfOk, IfErr, IsTrue, nat_lt, sum_by}
use Rattle.std.proofs.lemmas.Bool.{ltb-true, ltb-false}
use Rattle.std.proofs.lemmas.List.{length-map}
use Rattle.hv_base.specs.declared.ids.Limits.{Limits}
use Rattle.hv_base.specs.Told.{Tells, Moves}
use Rattle.hv_base.specs.Faults.{Rose}
use Rattle.hv_base.proofs.ToldLemmas.{Moves-then, Moves-weaken}
use Rattle.hv_shelf.specs.declared.fault.ShelfFault.{ShelfFault}
use Rattle.hv_shelf.specs.declared.fault.ShelfFault.TheVariants as disk
use Rattle.hv_shelf.specs.Disk.{Store, Tree}
use Rattle.hv_history.specs.declared.entry.Entry.{Entry}
use Rattle.hv_history.specs.declared.entry.Entry.TheVariants.{Boot}
use Rattle.hv_history.specs.Journal.{IsJournal}
use Rattle.hv_history.specs.State.{State, nothing_yet, after, state_of}
use Rattle.hv_history.specs.Legal.{working_one, load, HasRoom, AllFit}
use Rattle.hv_journal.specs.Appending.{KeepsTree}
use Rattle.hv_trail.specs.Kept.{trail_of}
use Rattle.hv_finals.specs.hv_law_made.specs.Opening.{whole_jobs, job_ends, JobsGo}
use Rattle.hv_finals.specs.Finals.{CanName, CallsCause}
use Rattle.hv_finals.proofs.CallLemmas.{calls-as}
use Rattle.hv_house.specs.declared.boot.BootFault.{BootFault}
use Rattle.hv_house.specs.declared.boot.BootFault.TheVariants as fault
use Rattle.hv_house.specs.declared.fault.HouseFault.{HouseFault}
use Rattle.hv_house.specs.declared.fault.HouseFault.TheVariants as house
use Rattle.hv_house.specs.declared.house.House.{House}
use Rattle.hv_house.specs.Faults.{HasRisen, HasRisenHard}
use Rattle.hv_house.specs.House.{entries_of, IsReadyWithin}
use Rattle.hv_house.specs.Steps.{KeepsMarks, IsOpenedOver}
use Rattle.hv_house.specs.Ending.{EndsBoot, gauged, ends_of, EndsGo, IsGivingNext, EndsStop, IsCutBefore, AllEnd}
use Rattle.hv_house.specs.Booting.{open_numbers, lost_entry, lost_entries, lost_book, opening_entries, opening_with, boot_fault, look_fault, IsRaiseFault, IsCutShort, CutsOpening, OpeningGoes, StopsEarly, OpeningStops, OpeningStep, read_to, IsRaised, HasStopped, IsRaisedOver, CutsBefore, StopsOver}
use Rattle.hv_house.proofs.Boots.{lost-room, settled-ready, over-book}
use Rattle.hv_house.proofs.EndSteps.{moves-tells, tells-moves, tells-also, ok-also, err-also, marks-then, ends-boot}
use Rattle.hv_house.proofs.Openings.{lost-fits, lost-book-jobs, opened-fits, ends-are, opening-is}

-- ---- it stopped before the first job

early-of : (why : BootFault) (book : List Entry) (s t : Store) → KeepsTree s t → IsCutShort why book (lost_entries (state_of book)) t.journal → StopsEarly book s t
early-of fault.Store book s t same cut = by cut.leaves
  where
    by : IsJournal (book ++ cut.front) t.journal
        ⊎ ((e : Entry) × (rest : List Entry) × (cut.more ≡ e ∷ rest) × IsJournal ((book ++ cut.front) ++ e ∷ []) t.journal) → StopsEarly book s t
    by (inl journal) = record { front = cut.front; more = cut.more; parts = cut.parts; journal = journal; tree_is = same }
    by (inr next) = record {
      front = cut.front ++ next.0 ∷ [];
      more = next.1;
      parts =
          cut.parts ∙ ap (λ (es : List Entry). cut.front ++ es) next.2 ∙ sym (append_assoc cut.front (next.0 ∷ []) next.1);
      journal = subst (λ (b : List Entry). IsJournal b t.journal) (append_assoc book cut.front (next.0 ∷ [])) next.3;
      tree_is = same;
    }
early-of fault.NoMemory book s t same cut = record { front = cut.front; more = cut.more; parts = cut.parts; journal = cut.leaves; tree_is = same }
early-of (fault.BadJournal at) book s t same cut =
    record { front = cut.front; more = cut.more; parts = cut.parts; journal = cut.leaves; tree_is = same }
early-of (fault.Full entries) book s t same cut =
    record { front = cut.front; more = cut.more; parts = cut.parts; journal = cut.leaves; tree_is = same }

-- nothing was noted
pub early-none : (book : List Entry) (s : Store) → IsJournal book s.journal → StopsEarly book s s
early-none book s journal = record {
  front = [];
  more = lost_entries (state_of book);
  parts = refl;
  journal = subst (λ (b : List Entry). IsJournal b s.journal) (sym (append-nil book)) journal;
  tree_is = refl;
}

pub cut-first : (whole : List ℕ) (book : List Entry) (bytes : List ℕ) → IsJournal book bytes → IsCutBefore book (opening_entries whole (state_of book)) bytes
cut-first whole book bytes journal = record {
  front = [];
  next = Boot (state_of book).openings.count;
  more =
      map lost_entry (open_numbers (state_of book))
      ++ job_ends whole (fold after (state_of book) (lost_entries (state_of book))) 1 (state_of book).jobs;
  parts = refl;
  journal = subst (λ (b : List Entry). IsJournal b bytes) (sym (append-nil book)) journal;
}

-- ---- the counts of a step on the journal

never-fine : IsErrOf {T = Unit {0}} {E = BootFault} (Ok tt) fault.Store → ⊥
never-fine is = cc

why-is : (why : BootFault) → IsErrOf {T = Unit {0}} (Err why) fault.Store → why ≡ fault.Store
why-is why is = cc

both-rose : (why : HouseFault) (count count' hard hard' : ℕ) → HasRisen count count' why → HasRisenHard hard hard' why → boot_fault why ≡ fault.Store
    → Rose count count' × Rose hard hard'
both-rose house.Store count count' hard hard' risen high is = (risen, high)
both-rose house.NoMemory count count' hard hard' risen high is = let never : ⊥ = cc in absurd never
both-rose (house.Failed n) count count' hard hard' risen high is = absurd high

-- ---- the Boot and the aborts, and then the jobs

-- files that didn't change before it
stop-from : (whole : List ℕ) (book : List Entry) (s m t : Store) → KeepsTree s m → EndsStop whole book m t → EndsStop whole book s t
stop-from whole book s m t same stop = record {
  front = stop.front;
  rest = stop.rest;
  parts = stop.parts;
  journal = stop.journal;
  files =
      subst (λ (files : Tree).
      JobsGo whole (state_of book) 1 stop.front files t.tree ⊎ IsGivingNext whole (state_of book) stop.front stop.rest files t.tree) same stop.files;
}

-- what was cut in the ends of jobs was cut in the opening
cut-behind : (whole : List ℕ) (book : List Entry) (bytes : List ℕ) → IsCutBefore (lost_book book) (ends_of whole (lost_book book)) bytes
    → IsCutBefore book (opening_entries whole (state_of book)) bytes
cut-behind whole book bytes cut = record {
  front = lost_entries (state_of book) ++ cut.front;
  next = cut.next;
  more = cut.more;
  parts =
      ap (λ (es : List Entry). lost_entries (state_of book) ++ es) (sym (ends-are whole book) ∙ cut.parts)
      ∙ sym (append_assoc (lost_entries (state_of book)) cut.front (cut.next ∷ cut.more));
  journal = subst (λ (b : List Entry). IsJournal b bytes) (append_assoc book (lost_entries (state_of book)) cut.front) cut.journal;
}

-- what is noted by what was learned
pub noted-book : (book now : List Entry) (runs : ℕ) (unended : List ℕ) → now ≡ book ++ Boot runs ∷ map lost_entry unended
    → runs ≡ (state_of book).openings.count → unended ≡ open_numbers (state_of book) → now ≡ lost_book book
noted-book book now runs unended is runs_are open_are = is ∙ (λ i. book ++ Boot (runs_are i) ∷ map lost_entry (open_are i))

pub lost-cuts : (why : HouseFault) (o : Option Store) (book : List Entry) (runs : ℕ) (unended : List ℕ) → runs ≡ (state_of book).openings.count
    → unended ≡ open_numbers (state_of book) → CutsOpening why book (Boot runs ∷ map lost_entry unended) o → CutsOpening why book (lost_entries (state_of book)) o
lost-cuts why o book runs unended runs_are open_are cuts =
    subst (λ (numbers : List ℕ). CutsOpening why book (Boot (state_of book).openings.count ∷ map lost_entry numbers) o) open_are
    (subst (λ n. CutsOpening why book (Boot n ∷ map lost_entry unended) o) runs_are cuts)

pub lost-fit : (limits same : Limits) (book now : List Entry) → now ≡ lost_book book → same ≡ limits → AllFit limits nothing_yet book
    → HasRoom limits (state_of book) 1 → AllFit same nothing_yet now
lost-fit limits same book now is same_is fit room =
    subst (λ (l : Limits). AllFit l nothing_yet now) (sym same_is) (subst (AllFit limits nothing_yet) (sym is) (lost-fits limits book fit room))

-- there is room for the ends of jobs behind it
pub ends-small : (limits : Limits) (book now : List Entry) (most : ℕ) → now ≡ lost_book book → limits.entries ≤ most → HasRoom limits (state_of book) 1
    → length now + sum_by working_one (state_of now).jobs ≤ most
ends-small limits book now most is high room =
    let all = lost-room limits book most high room in
    let jobs : sum_by working_one (state_of now).jobs ≡ sum_by working_one (state_of book).jobs =
    ap (λ (b : List Entry). sum_by working_one (state_of b).jobs) is ∙ ap (sum_by working_one) (lost-book-jobs book) in
    let long : length now ≡ length book + length (lost_entries (state_of book)) = ap length is ∙ length-append book (lost_entries (state_of book)) in
    let lost : length (lost_entries (state_of book)) ≡ suc (length (open_numbers (state_of book))) =
    ap suc (length-map (open_numbers (state_of book)) lost_entry) in
    omega (arith, all, jobs, long, lost)

pub can-name-book : (limits : Limits) (book : List Entry) → limits.entries ≤ 9999999 → AllFit limits nothing_yet book → HasRoom limits (state_of book) 1 → CanName book
can-name-book limits book high fit room =
    record { limits = limits; fit = fit; few = (let all = lost-room limits book 9999999 high room in omega (arith, all)) }

-- the room was asked for
pub full-room : (limits : Limits) (s : State) (b : Bool) → b ≡ false → (HasRoom limits s 1 → IsTrue b) → limits.entries < load s + 1
full-room limits s b is when = by (nat_lt limits.entries (load s + 1)) refl
  where
    by : (c : Bool) → nat_lt limits.entries (load s + 1) ≡ c → limits.entries < load s + 1
    by true e = ltb-true limits.entries (load s + 1) e
    by false e = absurd (true≢false (sym (when (ltb-false limits.entries (load s + 1) e)) ∙ is))

module _ {D : Type 0} (told : D → Option Store) (faults hard : D → ℕ) (whole : List ℕ) (before : House D) where
  -- it stopped at the Boot or at an abort
  pub lost-stops : (mid : House D) (why : HouseFault) → Moves KeepsTree (told before.shelf) (told mid.shelf)
      → CutsOpening why (entries_of before) (lost_entries (state_of (entries_of before))) (told mid.shelf) → KeepsMarks before mid
      → faults before.shelf ≤ faults mid.shelf → HasRisen (faults before.shelf) (faults mid.shelf) why → hard before.shelf ≤ hard mid.shelf
      → HasRisenHard (hard before.shelf) (hard mid.shelf) why → OpeningStep (gauged told faults hard) whole before mid (Err (boot_fault why))
  lost-stops mid why same cuts marks later risen hard_later high = record {
    kept = tt;
    entries = tt;
    went = tt;
    stops =
        Moves-weaken (λ s t. KeepsTree s t × IsCutShort (boot_fault why) (entries_of before) (lost_entries (state_of (entries_of before))) t.journal)
        (OpeningStops whole (entries_of before)) (λ s t both. inl (early-of (boot_fault why) (entries_of before) s t both.0 both.1)) (told before.shelf)
        (told mid.shelf)
        (moves-tells KeepsTree (λ t. IsCutShort (boot_fault why) (entries_of before) (lost_entries (state_of (entries_of before))) t.journal)
        (told before.shelf) (told mid.shelf) same cuts);
    ends = ends-boot why;
    marks = marks;
    cause = record {
      later = later;
      hard_later = hard_later;
      failed = λ is.
          (both-rose why (faults before.shelf) (faults mid.shelf) (hard before.shelf) (hard mid.shelf) risen high (why-is (boot_fault why) is)).0;
      failed_hard = λ is.
          inl (both-rose why (faults before.shelf) (faults mid.shelf) (hard before.shelf) (hard mid.shelf) risen high (why-is (boot_fault why) is)).1;
    };
  }

  -- they were noted, and then jobs ended
  module _ (mid now : House D) (result : Result (Unit {0}) BootFault) (is : entries_of mid ≡ lost_book (entries_of before))
      (same : Moves KeepsTree (told before.shelf) (told mid.shelf)) where
    abbrev book : List Entry
    book = entries_of before

    goes-behind : (s m t : Store) → KeepsTree s m → EndsGo whole (entries_of mid) m t → OpeningGoes whole book s t
    goes-behind s m t kept goes =
        subst (λ (files : Tree). JobsGo whole (state_of (lost_book book)) 1 (state_of (lost_book book)).jobs files t.tree) kept
        (subst (λ (b : List Entry). EndsGo whole b m t) is goes)

    stops-behind : (s m t : Store) → KeepsTree s m → EndsStop whole (entries_of mid) m t → OpeningStops whole book s t
    stops-behind s m t kept stop = inr (stop-from whole (lost_book book) s m t kept (subst (λ (b : List Entry). EndsStop whole b m t) is stop))

    pub then-ended : KeepsMarks before mid → faults before.shelf ≤ faults mid.shelf → hard before.shelf ≤ hard mid.shelf
        → AllEnd (gauged told faults hard) whole mid now result → OpeningStep (gauged told faults hard) whole before now result
    then-ended marks later hard_later all = record {
      kept = all.kept;
      entries =
          ok-also result (entries_of now ≡ entries_of mid ++ ends_of whole (entries_of mid)) (entries_of now ≡ opening_with whole book)
          (λ noted. noted ∙ ap (λ (b : List Entry). b ++ ends_of whole b) is ∙ opening-is whole book) all.entries;
      went =
          ok-also result (Moves (EndsGo whole (entries_of mid)) (told mid.shelf) (told now.shelf))
          (Moves (OpeningGoes whole book) (told before.shelf) (told now.shelf))
          (Moves-then KeepsTree (EndsGo whole (entries_of mid)) (OpeningGoes whole book) goes-behind (told before.shelf) (told mid.shelf) (told now.shelf) same)
          all.went;
      stops =
          err-also result (Moves (EndsStop whole (entries_of mid)) (told mid.shelf) (told now.shelf))
          (Moves (OpeningStops whole book) (told before.shelf) (told now.shelf))
          (Moves-then KeepsTree (EndsStop whole (entries_of mid)) (OpeningStops whole book) stops-behind (told before.shelf) (told mid.shelf) (told now.shelf)
          same)
          all.stops;
      ends = all.ends;
      marks = marks-then before mid now marks all.marks;
      cause = record {
        later = (let next = all.cause.later in omega (arith, later, next));
        hard_later = (let next = all.cause.hard_later in omega (arith, hard_later, next));
        failed = λ failed.
            let risen : Rose (faults mid.shelf) (faults now.shelf) = all.cause.failed failed in
            omega (arith, later, risen);
        failed_hard = λ failed. hard-then (all.cause.failed_hard failed) hard_later;
      };
    }
      where
        hard-then : Rose (hard mid.shelf) (hard now.shelf)
            ⊎ Tells (told now.shelf) (λ t. IsCutBefore (entries_of mid) (ends_of whole (entries_of mid)) t.journal) → hard before.shelf ≤ hard mid.shelf
            → Rose (hard before.shelf) (hard now.shelf) ⊎ Tells (told now.shelf) (λ t. IsCutBefore book (opening_entries whole (state_of book)) t.journal)
        hard-then (inl risen) low = inl (omega (arith, low, risen))
        hard-then (inr cuts) low =
            inr (tells-also (λ t. IsCutBefore (lost_book book) (ends_of whole (lost_book book)) t.journal)
            (λ t. IsCutBefore book (opening_entries whole (state_of book)) t.journal) (λ t cut. cut-behind whole book t.journal cut) (told now.shelf)
            (subst (λ (b : List Entry). Tells (told now.shelf) (λ t. IsCutBefore b (ends_of whole b) t.journal)) is cuts))

-- by what `?` passes on
pub opening-raised : {D : Type 0} (told : D → Option Store) (faults hard : D → ℕ) (whole : List ℕ) (before now : House D) (why left : BootFault)
    (result : Result (Unit {0}) BootFault) → result ≡ Err left → left ≡ why → OpeningStep (gauged told faults hard) whole before now (Err why)
    → OpeningStep (gauged told faults hard) whole before now result
opening-raised told faults hard whole before now why left result is same step =
    subst (OpeningStep (gauged told faults hard) whole before now) (sym (is ∙ ap (λ (f : BootFault). Err f) same)) step

-- ---- the house

module _ {D : Type 0} (told : D → Option Store) (faults hard : D → ℕ) (book : List Entry) (whole : List ℕ) (first : D) (before noted : House D) where
  pub opened-raised : (limits : Limits) (start : D) (now : House D) → OpeningStep (gauged told faults hard) whole before noted (Ok tt)
      → entries_of before ≡ book → before.shelf ≡ first → before.start.value ≡ start → before.trail.marks ≡ [] → before.limits ≡ limits → limits.entries ≤ 9999999
      → AllFit limits nothing_yet book → HasRoom limits (state_of book) 1 → now.shelf ≡ noted.shelf → now.place ≡ noted.place
      → entries_of now ≡ entries_of noted → now.limits ≡ noted.limits → now.trail.closed ≡ noted.trail.closed
      → now.trail.starved ≡ noted.trail.starved → now.start.value ≡ noted.start.value
      → now.trail.marks ≡ noted.trail.marks → now.trail.opened ≡ length (trail_of noted.trail)
      → IsRaised (gauged told faults hard) limits start (read_to first book) whole now
  opened-raised limits start now step at from started bare limited most fit room shelf place entries limits_are closed starved start_is marks opened =
      let whole_book : entries_of noted ≡ opening_with whole book = step.entries ∙ ap (opening_with whole) at in
      subst (λ (d : D). IsRaised (gauged told faults hard) limits start (read_to d book) whole now) from (record {
        ready =
            settled-ready limits told noted now shelf place entries limits_are closed starved (record {
              kept = step.kept;
              limits_are = step.marks.limits ∙ limited;
              within = most;
              fit = subst (AllFit limits nothing_yet) (sym whole_book) (opened-fits limits whole book fit room);
            });
        entries = entries ∙ whole_book;
        went =
            subst (λ (d : D). Moves (OpeningGoes whole book) (told before.shelf) (told d)) (sym shelf)
            (subst (λ (b : List Entry). Moves (OpeningGoes whole b) (told before.shelf) (told noted.shelf)) at step.went);
        over =
            over-book start noted now (start_is ∙ ap (λ s. s.value) step.marks.start ∙ started) (marks ∙ step.marks.marks ∙ bare)
            (step.marks.marks ∙ bare) entries opened;
        later = subst (λ (d : D). faults before.shelf ≤ faults d) (sym shelf) step.cause.later;
        hard_later = subst (λ (d : D). hard before.shelf ≤ hard d) (sym shelf) step.cause.hard_later;
      })

  pub opened-stopped : (given : D) (why : BootFault) → OpeningStep (gauged told faults hard) whole before noted (Err why)
      → entries_of before ≡ book → before.shelf ≡ first → given ≡ noted.shelf → HasStopped (gauged told faults hard) first book whole (why, given)
  opened-stopped given why step at from same =
      subst (λ (d : D). HasStopped (gauged told faults hard) d book whole (why, given)) from
      (subst (λ (d : D). HasStopped (gauged told faults hard) before.shelf book whole (why, d)) (sym same) (record {
        stops = subst (λ (b : List Entry). Moves (OpeningStops whole b) (told before.shelf) (told noted.shelf)) at step.stops;
        ends = step.ends;
        cause = record {
          later = step.cause.later;
          hard_later = step.cause.hard_later;
          failed = λ is. step.cause.failed (ap (λ (f : BootFault). Err f) is);
          failed_hard = λ is.
              subst (λ (b : List Entry).
              Rose (hard before.shelf) (hard noted.shelf) ⊎ Tells (told noted.shelf) (λ t. IsCutBefore b (opening_entries whole (state_of b)) t.journal)) at
              (step.cause.failed_hard (ap (λ (f : BootFault). Err f) is));
        };
      }))

-- ---- behind a look at which jobs are whole

module _ {D : Type 0} (told : D → Option Store) (faults hard : D → ℕ) (book : List Entry) (first shelf : D) (same : told shelf ≡ told first) where
  pub raised-over : (limits : Limits) (start : D) (whole listed : List ℕ) (now : House D) → listed ≡ whole
      → Tells (told first) (λ s. whole ≡ whole_jobs (state_of book) s.tree) → HasRoom limits (state_of book) 1 → faults first ≤ faults shelf → hard first ≤ hard shelf
      → IsRaised (gauged told faults hard) limits start (read_to shelf book) listed now
      → IsRaisedOver (gauged told faults hard) limits start (read_to first book) now
  raised-over limits start whole listed now is are room later hard_later raised = record {
    whole = listed;
    whole_are = tells-also (λ s. whole ≡ whole_jobs (state_of book) s.tree) (λ s. listed ≡ whole_jobs (state_of book) s.tree) (λ s w. is ∙ w) (told first) are;
    room = room;
    raised = record {
      ready = raised.ready;
      entries = raised.entries;
      went = subst (λ (o : Option Store). Moves (OpeningGoes listed book) o (told now.shelf)) same raised.went;
      over = raised.over;
      later = (let next = raised.later in omega (arith, later, next));
      hard_later = (let next = raised.hard_later in omega (arith, hard_later, next));
    };
  }

  pub stopped-over : (whole listed : List ℕ) (given : BootFault × D) → listed ≡ whole → Tells (told first) (λ s. whole ≡ whole_jobs (state_of book) s.tree)
      → faults first ≤ faults shelf → hard first ≤ hard shelf → HasStopped (gauged told faults hard) shelf book listed given
      → StopsOver (gauged told faults hard) first book given
  stopped-over whole listed given is are later hard_later stopped = record {
    stops =
        Moves-weaken (λ s t. (whole ≡ whole_jobs (state_of book) s.tree) × OpeningStops listed book s t)
        (λ s t. OpeningStops (whole_jobs (state_of book) s.tree) book s t)
        (λ s t both. subst (λ (w : List ℕ). OpeningStops w book s t) (is ∙ both.0) both.1) (told first) (told given.1)
        (tells-moves (OpeningStops listed book) (λ s. whole ≡ whole_jobs (state_of book) s.tree) (told first) (told given.1) are stops);
    cause = record {
      later = (let next = stopped.cause.later in omega (arith, later, next));
      hard_later = (let next = stopped.cause.hard_later in omega (arith, hard_later, next));
      failed = λ failed.
          let risen : Rose (faults shelf) (faults given.1) = stopped.cause.failed failed in
          omega (arith, later, risen);
      failed_hard = λ failed. by (stopped.cause.failed_hard failed);
    };
  }
    where
      stops : Moves (OpeningStops listed book) (told first) (told given.1)
      stops = subst (λ (o : Option Store). Moves (OpeningStops listed book) o (told given.1)) same stopped.stops

      cuts : Tells (told given.1) (λ t. IsCutBefore book (opening_entries listed (state_of book)) t.journal) → CutsBefore book (told first) (told given.1)
      cuts cut =
          Moves-weaken
          (λ s t. (whole ≡ whole_jobs (state_of book) s.tree) × (OpeningStops listed book s t × IsCutBefore book (opening_entries listed (state_of book)) t.journal))
          (λ s t. IsCutBefore book (opening_entries (whole_jobs (state_of book) s.tree) (state_of book)) t.journal)
          (λ s t both. subst (λ (w : List ℕ). IsCutBefore book (opening_entries w (state_of book)) t.journal) (is ∙ both.0) both.1.1) (told first)
          (told given.1)
          (tells-moves (λ s t. OpeningStops listed book s t × IsCutBefore book (opening_entries listed (state_of book)) t.journal)
          (λ s. whole ≡ whole_jobs (state_of book) s.tree) (told first) (told given.1) are
          (moves-tells (OpeningStops listed book) (λ t. IsCutBefore book (opening_entries listed (state_of book)) t.journal) (told first) (told given.1)
          stops cut))

      by : Rose (hard shelf) (hard given.1) ⊎ Tells (told given.1) (λ t. IsCutBefore book (opening_entries listed (state_of book)) t.journal)
          → Rose (hard first) (hard given.1) ⊎ CutsBefore book (told first) (told given.1)
      by (inl risen) = inl (omega (arith, hard_later, risen))
      by (inr cut) = inr (cuts cut)

-- nothing was noted, and the store is as it was
pub nothing-stops : (book : List Entry) (o : Option Store) → Tells o (λ s. IsJournal book s.journal)
    → Moves (λ s t. OpeningStops (whole_jobs (state_of book) s.tree) book s t) o o
nothing-stops book None journal = tt
nothing-stops book (Some s) journal = inl (early-none book s journal)

pub nothing-cuts : (book : List Entry) (o : Option Store) → Tells o (λ s. IsJournal book s.journal) → CutsBefore book o o
nothing-cuts book None journal = tt
nothing-cuts book (Some s) journal = cut-first (whole_jobs (state_of book) s.tree) book s.journal journal

-- the look itself failed
pub unlooked : {D : Type 0} (told : D → Option Store) (faults hard : D → ℕ) (book : List Entry) (first shelf : D) (why : BootFault) (F : Type 0)
    → (why ≡ fault.Store → F) → told shelf ≡ told first → Tells (told first) (λ s. IsJournal book s.journal)
    → CallsCause F (faults first) (faults shelf) (hard first) (hard shelf) → StopsOver (gauged told faults hard) first book (why, shelf)
unlooked told faults hard book first shelf why F fails same journal cause = record {
  stops =
      subst (λ (o : Option Store). Moves (λ s t. OpeningStops (whole_jobs (state_of book) s.tree) book s t) (told first) o) (sym same)
      (nothing-stops book (told first) journal);
  cause = record {
    later = cause.later;
    hard_later = cause.hard_later;
    failed = λ is. cause.failed (fails is);
    failed_hard = λ is.
        inr (subst (λ (o : Option Store). CutsBefore book (told first) o) (sym same) (nothing-cuts book (told first) journal));
  };
}

look-ends : (why : ShelfFault) → EndsBoot (look_fault why)
look-ends disk.Failed = tt
look-ends disk.NoMemory = tt

look-failed : (why : ShelfFault) → look_fault why ≡ fault.Store → why ≡ disk.Failed
look-failed disk.Failed is = refl
look-failed disk.NoMemory is = let never : ⊥ = cc in absurd never

pub unlooked-ends : (why : ShelfFault) (found : BootFault) → found ≡ look_fault why → EndsBoot found
unlooked-ends why found is = subst EndsBoot (sym is) (look-ends why)

pub unlooked-cause : {S T : Type 0} (r : Result S ShelfFault) (why : ShelfFault) (found : BootFault) (faults faults' hard hard' : ℕ) → r ≡ Err why
    → found ≡ look_fault why → CallsCause (IsErrOf r disk.Failed) faults faults' hard hard'
    → CallsCause (IsErrOf {T = T} (Err found) fault.Store) faults faults' hard hard'
unlooked-cause {T = T} r why found faults faults' hard hard' at is cause =
    calls-as (IsErrOf r disk.Failed) (IsErrOf {T = T} (Err found) fault.Store) faults faults' hard hard'
    (λ e. let same : found ≡ fault.Store = cc in at ∙ ap (λ (f : ShelfFault). Err f) (look-failed why (sym is ∙ same))) cause

pub looked-cause : {S T : Type 0} (r : Result S ShelfFault) (x : T) (faults faults' hard hard' : ℕ)
    → CallsCause (IsErrOf r disk.Failed) faults faults' hard hard' → CallsCause (IsErrOf {E = BootFault} (Ok x) fault.Store) faults faults' hard hard'
looked-cause r x faults faults' hard hard' cause =
    calls-as (IsErrOf r disk.Failed) (IsErrOf {E = BootFault} (Ok x) fault.Store) faults faults' hard hard' (λ e. let never : ⊥ = cc in absurd never) cause

-- it wasn't opened for another cause than the store
pub unopened : {D : Type 0} (told : D → Option Store) (faults hard : D → ℕ) (book : List Entry) (shelf : D) (why : BootFault) → (why ≡ fault.Store → ⊥)
    → Tells (told shelf) (λ s. IsJournal book s.journal) → StopsOver (gauged told faults hard) shelf book (why, shelf)
unopened told faults hard book shelf why other journal = record {
  stops = nothing-stops book (told shelf) journal;
  cause = record {
    later = omega arith;
    hard_later = omega arith;
    failed = λ is. absurd (other is);
    failed_hard = λ is. absurd (other is);
  };
}

pub lacks-memory : fault.NoMemory ≡ fault.Store → ⊥
lacks-memory is = cc

pub is-full : (entries : ℕ) → fault.Full entries ≡ fault.Store → ⊥
is-full entries is = cc

-- ---- the other clauses, where it stopped

pub err-map : {T E : Type 0} (r : Result T E) (P Q : E → Type 0) → ((e : E) → P e → Q e) → IfErr r P → IfErr r Q
err-map (Ok x) P Q also p = tt
err-map (Err e) P Q also p = also e p

pub ok-map : {T E : Type 0} (r : Result T E) (P Q : T → Type 0) → ((x : T) → P x → Q x) → IfOk r P → IfOk r Q
ok-map (Ok x) P Q also p = also x p
ok-map (Err e) P Q also p = tt

pub err-both : {T E : Type 0} (r : Result T E) (P Q R : E → Type 0) → ((e : E) → P e → Q e → R e) → IfErr r P → IfErr r Q → IfErr r R
err-both (Ok x) P Q R also p q = tt
err-both (Err e) P Q R also p q = also e p q

-- of a house that is open
module _ {D : Type 0} (told : D → Option Store) (faults hard : D → ℕ) (limits : Limits) (start shelf : D) (book : List Entry) where
  pub all-ready : (r : Result (House D) (BootFault × D)) → IfOk r (IsRaisedOver (gauged told faults hard) limits start (read_to shelf book))
      → IfOk r (IsReadyWithin limits told)
  all-ready (Ok now) raised = raised.raised.ready
  all-ready (Err x) raised = tt

  pub all-over : (r : Result (House D) (BootFault × D)) → IfOk r (IsRaisedOver (gauged told faults hard) limits start (read_to shelf book))
      → IfOk r (IsOpenedOver start)
  all-over (Ok now) raised = raised.raised.over
  all-over (Err x) raised = tt

  pub all-later : (r : Result (House D) (BootFault × D)) (first : ℕ) → first ≤ faults shelf
      → IfOk r (IsRaisedOver (gauged told faults hard) limits start (read_to shelf book)) → IfOk r (λ now. first ≤ faults now.shelf)
  all-later (Ok now) first low raised = (let next = raised.raised.later in omega (arith, low, next))
  all-later (Err x) first low raised = tt

  pub all-hard_later : (r : Result (House D) (BootFault × D)) (first : ℕ) → first ≤ hard shelf
      → IfOk r (IsRaisedOver (gauged told faults hard) limits start (read_to shelf book)) → IfOk r (λ now. first ≤ hard now.shelf)
  all-hard_later (Ok now) first low raised = (let next = raised.raised.hard_later in omega (arith, low, next))
  all-hard_later (Err x) first low raised = tt

-- of one that isn't
pub all-ends : {D : Type 0} (told : D → Option Store) (faults hard : D → ℕ) (shelf : D) (book : List Entry) (whole : List ℕ) (r : Result (House D) (BootFault × D))
    → IfErr r (HasStopped (gauged told faults hard) shelf book whole) → IfErr r (λ x. EndsBoot x.0)
all-ends told faults hard shelf book whole (Ok now) stopped = tt
all-ends told faults hard shelf book whole (Err x) stopped = stopped.ends

-- neither for a bad journal nor for a full one
pub raise-fault : (limits : Limits) (book : List Entry) (before now : Option Store) (why : BootFault) → EndsBoot why → IsRaiseFault limits book before now why
raise-fault limits book before now fault.Store ends = tt
raise-fault limits book before now fault.NoMemory ends = tt
raise-fault limits book before now (fault.BadJournal at) ends = absurd ends
raise-fault limits book before now (fault.Full entries) ends = absurd ends
