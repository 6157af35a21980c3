-- What an opening comes to for a store that a run left: all files stand where it is through, and else the store opens still.
use Rattle.std.proofs.Common.{◌≡◌, ◌⊎◌, inl, inr, ℕ, ◌+◌, ◌<◌, ◌≤◌, Bool, true, false, true≢false, List, [], ◌∷◌, ◌++◌, length, map, fold, refl, sym, ap, ◌∙◌, subst, arith, append_assoc, append-nil}
use Rattle.std.specs.Prelude.{◌&&◌, sum_by}
use Rattle.std.specs.List.{AllByRecursion}
use Rattle.std.proofs.lemmas.List.Sums.{fold-append, sum_by-cons, sum_by-append}
use Rattle.hv_base.specs.declared.ids.Limits.{Limits}
use Rattle.hv_shelf.specs.Disk.{Store, Tree}
use Rattle.hv_dirs.specs.Names.{write_end}
use Rattle.hv_history.specs.declared.entry.Entry.{Entry}
use Rattle.hv_history.specs.Journal.{IsJournal}
use Rattle.hv_history.specs.State.{State, Job, nothing_yet, after, state_of}
use Rattle.hv_history.specs.Legal.{is_working, one_if, working_one, HasRoom, IsLegal}
use Rattle.hv_history.specs.JobsFit.{is_live_job}
use Rattle.hv_journal.specs.Appending.{KeepsTree}
use Rattle.hv_stands.proofs.Behind.{entries-are}
use Rattle.hv_finals.specs.hv_law_made.specs.Standing.{Standing}
use Rattle.hv_finals.specs.hv_law_made.specs.Laws.{is_quiet_entry}
use Rattle.hv_finals.specs.hv_law_made.specs.Entries.{IsSoundBook, Recovers}
use Rattle.hv_finals.specs.hv_law_made.specs.Opening.{whole_jobs, is_to_publish, job_ends, JobsGo, FinalsAgree}
use Rattle.hv_finals.specs.hv_law_made.proofs.BookLemmas.{books-are-sound}
use Rattle.hv_finals.specs.hv_law_made.proofs.QuietOpenings.{quiet-recovers, quiet-keeps-whole}
use Rattle.hv_finals.specs.hv_law_made.proofs.OpeningEnds.{opening-stands}
use Rattle.hv_finals.specs.hv_law_made.proofs.OpeningStops.{opening-fronts-recover, opening-stops-recover}
use Rattle.hv_law_read.specs.hv_law_whole.proofs.FinalLemmas.{finals-are-said}
use Rattle.hv_house.specs.declared.boot.BootFault.{BootFault}
use Rattle.hv_house.specs.declared.boot.BootFault.TheVariants as fault
use Rattle.hv_house.specs.Ending.{ends_of, state_behind, IsGivingUp, IsGivingNext, EndsStop}
use Rattle.hv_house.specs.Booting.{open_numbers, lost_entry, lost_entries, lost_book, opening_entries, opening_of, IsLeftWithin, OpensWithin, IsIdle, LeavesFront, IsCutShort, LeavesOpen, IsOpenStill, OpeningGoes, StopsEarly, OpeningStops}
use Rattle.hv_house.proofs.JobEnds.{ends-append, JobsGoBy}
use Rattle.hv_house.proofs.Openings.{lost-state, lost-book-legal, lost-book-jobs, opened-legal, legal-front, ends-are, opening-is}
use Rattle.hv_house.proofs.Raising.{ends-small}

-- ---- the Boot and the aborts

abbrev IsQuiet : Entry → Type 0
IsQuiet e = is_quiet_entry e ≡ true

lost-quiet_at : (numbers : List ℕ) → AllByRecursion IsQuiet (map lost_entry numbers)
lost-quiet_at [] = tt
lost-quiet_at (n ∷ numbers) = (refl, lost-quiet_at numbers)

lost-quiet : (s : State) → AllByRecursion IsQuiet (lost_entries s)
lost-quiet s = (refl, lost-quiet_at (open_numbers s))

front-quiet : (front more : List Entry) → AllByRecursion IsQuiet (front ++ more) → AllByRecursion IsQuiet front
front-quiet [] more all = tt
front-quiet (e ∷ front) more all = (all.0, front-quiet front more all.1)

quiet-many : (events : List Entry) (s : State) (files : Tree) → AllByRecursion IsQuiet events → Recovers s files → Recovers (fold after s events) files
quiet-many [] s files all recovers = recovers
quiet-many (e ∷ events) s files all recovers = quiet-many events (after s e) files all.1 (quiet-recovers s e files all.0 recovers)

whole-many : (events : List Entry) (s : State) (files : Tree) → AllByRecursion IsQuiet events → whole_jobs (fold after s events) files ≡ whole_jobs s files
whole-many [] s files all = refl
whole-many (e ∷ events) s files all = whole-many events (after s e) files all.1 ∙ quiet-keeps-whole s e files all.0

pub lost-whole : (book : List Entry) (files : Tree) → whole_jobs (state_of (lost_book book)) files ≡ whole_jobs (state_of book) files
lost-whole book files =
    ap (λ (s : State). whole_jobs s files) (lost-state book) ∙ whole-many (lost_entries (state_of book)) (state_of book) files (lost-quiet (state_of book))

lost-recovers : (book : List Entry) (files : Tree) → Recovers (state_of book) files → Recovers (state_of (lost_book book)) files
lost-recovers book files recovers =
    subst (λ (s : State). Recovers s files) (sym (lost-state book))
    (quiet-many (lost_entries (state_of book)) (state_of book) files (lost-quiet (state_of book)) recovers)

-- ---- a front of the opening

-- the journal reads to the book with a front of its opening
pub record ReadsFront (whole : List ℕ) (book : List Entry) (bytes : List ℕ) : Type 0 where
  pub front : List Entry
  pub more : List Entry
  pub parts : opening_entries whole (state_of book) ≡ front ++ more
  pub journal : IsJournal (book ++ front) bytes

-- the ends of jobs of an opening
abbrev its_ends : List ℕ → List Entry → List Entry
its_ends whole book = job_ends whole (fold after (state_of book) (lost_entries (state_of book))) 1 (state_of book).jobs

abbrev early-front : (whole : List ℕ) (book : List Entry) (s t : Store) → StopsEarly book s t → ReadsFront whole book t.journal
early-front whole book s t early = record {
  front = early.front;
  more = early.more ++ its_ends whole book;
  parts =
      ap (λ (es : List Entry). es ++ its_ends whole book) early.parts ∙ append_assoc early.front early.more (its_ends whole book);
  journal = early.journal;
}

-- the ends of the first jobs, and of the others
abbrev first_ends : List ℕ → List Entry → List Job → List Entry
first_ends whole book front = job_ends whole (state_of (lost_book book)) 1 front

abbrev other_ends : List ℕ → List Entry → List Job → List Job → List Entry
other_ends whole book front rest = job_ends whole (state_behind whole (state_of (lost_book book)) front) (1 + length front) rest

abbrev late-front : (whole : List ℕ) (book : List Entry) (s t : Store) → EndsStop whole (lost_book book) s t → ReadsFront whole book t.journal
late-front whole book s t stop = record {
  front = lost_entries (state_of book) ++ first_ends whole book stop.front;
  more = other_ends whole book stop.front stop.rest;
  parts =
      ap (λ (es : List Entry). lost_entries (state_of book) ++ es)
      (sym (ends-are whole book)
      ∙ ap (job_ends whole (state_of (lost_book book)) 1) stop.parts
      ∙ ends-append whole stop.front stop.rest (state_of (lost_book book)) 1 (1 + length stop.front) refl)
      ∙ sym (append_assoc (lost_entries (state_of book)) (first_ends whole book stop.front) (other_ends whole book stop.front stop.rest));
  journal =
      subst (λ (b : List Entry). IsJournal b t.journal)
      (append_assoc book (lost_entries (state_of book)) (first_ends whole book stop.front)) stop.journal;
}

pub stops-front : (whole : List ℕ) (book : List Entry) (s t : Store) → OpeningStops whole book s t → ReadsFront whole book t.journal
stops-front whole book s t (inl early) = early-front whole book s t early
stops-front whole book s t (inr stop) = late-front whole book s t stop

leave-any : (why : BootFault) (book more : List Entry) (bytes : List ℕ) → IsJournal book bytes → LeavesFront why book more bytes
leave-any fault.Store book more bytes journal = inl journal
leave-any fault.NoMemory book more bytes journal = journal
leave-any (fault.BadJournal at) book more bytes journal = journal
leave-any (fault.Full entries) book more bytes journal = journal

pub cut-of : (why : BootFault) (whole : List ℕ) (book : List Entry) (bytes : List ℕ) → ReadsFront whole book bytes
    → IsCutShort why book (opening_entries whole (state_of book)) bytes
cut-of why whole book bytes reads = record {
  front = reads.front;
  more = reads.more;
  parts = reads.parts;
  leaves = leave-any why (book ++ reads.front) reads.more bytes reads.journal;
}

pub nothing-front : (whole : List ℕ) (book : List Entry) (bytes : List ℕ) → IsJournal book bytes → ReadsFront whole book bytes
nothing-front whole book bytes journal = record {
  front = [];
  more = opening_entries whole (state_of book);
  parts = refl;
  journal = subst (λ (b : List Entry). IsJournal b bytes) (sym (append-nil book)) journal;
}

-- ---- the store opens

leave-open : (limits : Limits) (why : BootFault) (book more : List Entry) (t : Store) → OpensWithin limits book t → LeavesOpen limits why book more t
leave-open limits fault.Store book more t opens = inl opens
leave-open limits fault.NoMemory book more t opens = opens
leave-open limits (fault.BadJournal at) book more t opens = opens
leave-open limits (fault.Full entries) book more t opens = opens

pub nothing-still : (limits : Limits) (why : BootFault) (whole : List ℕ) (book : List Entry) (s : Store) → OpensWithin limits book s
    → IsOpenStill limits why book (opening_entries whole (state_of book)) s
nothing-still limits why whole book s opens = record {
  front = [];
  more = opening_entries whole (state_of book);
  parts = refl;
  leaves =
      leave-open limits why (book ++ []) (opening_entries whole (state_of book)) s
      (subst (λ (b : List Entry). OpensWithin limits b s) (sym (append-nil book)) opens);
}

module _ (limits : Limits) (book : List Entry) (s : Store) (most : limits.entries ≤ 9999999) (room : HasRoom limits (state_of book) 1)
    (left : IsLeftWithin limits book s) where
  abbrev whole : List ℕ
  whole = whole_jobs (state_of book) s.tree

  abbrev behind : State
  behind = state_of (lost_book book)

  abbrev found : List ℕ
  found = whole_jobs behind s.tree

  same : found ≡ whole
  same = lost-whole book s.tree

  few : behind.entries + sum_by working_one behind.jobs < write_end
  few =
      let small = ends-small limits book (lost_book book) 9999999 refl most room in
      omega (arith, small, entries-are (lost_book book))

  legal : IsLegal limits (lost_book book)
  legal = lost-book-legal limits book left.legal room

  sound : IsSoundBook behind
  sound = books-are-sound limits (lost_book book) legal.fit

  agree : FinalsAgree behind
  agree = finals-are-said limits (lost_book book) legal.fit legal.truthful

  recovers : Recovers behind s.tree
  recovers = lost-recovers book s.tree left.recovers

  -- all files stand where it is through
  pub whole-stands : (t : Store) → OpeningGoes whole book s t → Standing (state_of (opening_of s.tree book)) t.tree
  whole-stands t goes =
      subst (λ (n : State). Standing n t.tree)
      (ap (λ w. fold after behind (job_ends w behind 1 behind.jobs)) same
      ∙ sym (fold-append after nothing_yet (lost_book book) (ends_of whole (lost_book book)))
      ∙ ap state_of (opening-is whole book))
      (opening-stands behind s.tree t.tree few sound agree (subst (λ w. JobsGo w behind 1 behind.jobs s.tree t.tree) (sym same) goes) recovers)

  -- and what it leaves where it stops a next opening may find
  legal-part : (front more : List Entry) → opening_entries whole (state_of book) ≡ front ++ more → IsLegal limits (book ++ front)
  legal-part front more parts =
      legal-front limits nothing_yet (book ++ front) more
      (subst (IsLegal limits) (ap (λ (es : List Entry). book ++ es) parts ∙ sym (append_assoc book front more)) (opened-legal limits whole book left.legal room))

  early-recovers : (t : Store) (early : StopsEarly book s t) → Recovers (state_of (book ++ early.front)) t.tree
  early-recovers t early =
      subst (λ (n : State). Recovers n t.tree) (sym (fold-append after nothing_yet book early.front))
      (subst (λ (files : Tree). Recovers (fold after (state_of book) early.front) files) (sym early.tree_is)
      (quiet-many early.front (state_of book) s.tree
      (front-quiet early.front early.more (subst (AllByRecursion IsQuiet) early.parts (lost-quiet (state_of book)))) left.recovers))

  module _ (t : Store) (stop : EndsStop whole (lost_book book) s t) where
    files-recover : JobsGo whole behind 1 stop.front s.tree t.tree ⊎ IsGivingNext whole behind stop.front stop.rest s.tree t.tree
        → Recovers (state_behind found behind stop.front) t.tree
    files-recover (inl goes) =
        opening-fronts-recover behind s.tree t.tree stop.front stop.rest few sound agree stop.parts
        (subst (λ w. JobsGo w behind 1 stop.front s.tree t.tree) (sym same) goes) recovers
    files-recover (inr giving) =
        let up : IsGivingUp found (state_behind found behind stop.front) (length stop.front + 1) giving.job giving.middle t.tree =
        subst (λ w. IsGivingUp w (state_behind w behind stop.front) (length stop.front + 1) giving.job giving.middle t.tree) (sym same) giving.up in
        opening-stops-recover behind s.tree giving.middle t.tree stop.front giving.job giving.more few sound agree
        (stop.parts ∙ ap (λ (js : List Job). stop.front ++ js) giving.rest_is)
        (subst (λ w. JobsGo w behind 1 stop.front s.tree giving.middle) (sym same) giving.goes) up.working up.unpublished up.some recovers

    late-recovers : Recovers (state_of (book ++ (lost_entries (state_of book) ++ job_ends whole behind 1 stop.front))) t.tree
    late-recovers =
        subst (λ (n : State). Recovers n t.tree)
        (ap (λ w. state_behind w behind stop.front) same
        ∙ sym (fold-append after nothing_yet (lost_book book) (job_ends whole behind 1 stop.front))
        ∙ ap state_of (append_assoc book (lost_entries (state_of book)) (job_ends whole behind 1 stop.front)))
        (files-recover stop.files)

  stays-open : (why : BootFault) (t : Store) (reads : ReadsFront whole book t.journal) → Recovers (state_of (book ++ reads.front)) t.tree
      → IsOpenStill limits why book (opening_entries whole (state_of book)) t
  stays-open why t reads recovered = record {
    front = reads.front;
    more = reads.more;
    parts = reads.parts;
    leaves =
        leave-open limits why (book ++ reads.front) reads.more t (record {
          journal = reads.journal;
          left = record { recovers = recovered; legal = legal-part reads.front reads.more reads.parts };
        });
  }

  pub opens-still : (why : BootFault) (t : Store) → OpeningStops whole book s t → IsOpenStill limits why book (opening_entries whole (state_of book)) t
  opens-still why t (inl early) = stays-open why t (early-front whole book s t early) (early-recovers t early)
  opens-still why t (inr stop) = stays-open why t (late-front whole book s t stop) (late-recovers t stop)

-- ---- where no job is at work, no file changes

not-working : (b : Bool) → one_if b ≡ 0 → b ≡ false
not-working true e = let never : 1 ≡ 0 = e in absurd (omega (arith, never))
not-working false e = refl

idle-goes : (whole : List ℕ) (jobs : List Job) (s : State) (n : ℕ) (before now : Tree) → sum_by working_one jobs ≡ 0 → JobsGo whole s n jobs before now → now ≡ before
idle-goes whole [] s n before now idle goes = goes
idle-goes whole (j ∷ jobs) s n before now idle goes =
    let parts = sum_by-cons working_one j jobs in
    let none : working_one j ≡ 0 = omega (arith, idle, parts) in
    idle-goes whole jobs s (n + 1) before now (omega (arith, idle, parts))
    (subst (λ w. JobsGoBy whole s n j w (is_live_job s j && is_to_publish whole s n j) jobs before now) (not-working (is_working j) none) goes)

lost-idle : (book : List Entry) → IsIdle book → sum_by working_one (state_of (lost_book book)).jobs ≡ 0
lost-idle book idle = ap (sum_by working_one) (lost-book-jobs book) ∙ idle

pub idle-kept : (whole : List ℕ) (book : List Entry) (s t : Store) → IsIdle book → OpeningGoes whole book s t → KeepsTree s t
idle-kept whole book s t idle goes =
    idle-goes whole (state_of (lost_book book)).jobs (state_of (lost_book book)) 1 s.tree t.tree (lost-idle book idle) goes

idle-parts : (front rest jobs : List Job) → jobs ≡ front ++ rest → sum_by working_one jobs ≡ 0 → (sum_by working_one front ≡ 0) × (sum_by working_one rest ≡ 0)
idle-parts front rest jobs parts idle =
    let all = ap (sum_by working_one) parts in
    let both = sum_by-append working_one front rest in
    (omega (arith, idle, all, both), omega (arith, idle, all, both))

none-given : {A : Type 0} (whole : List ℕ) (s : State) (front rest : List Job) (before now : Tree) → sum_by working_one rest ≡ 0
    → IsGivingNext whole s front rest before now → A
none-given whole s front rest before now idle giving =
    let one : working_one giving.job ≡ 1 = ap one_if giving.up.working in
    let parts = sum_by-cons working_one giving.job giving.more in
    let same = ap (sum_by working_one) giving.rest_is in
    absurd (omega (arith, idle, one, parts, same))

pub idle-stopped : (whole : List ℕ) (book : List Entry) (s t : Store) → IsIdle book → OpeningStops whole book s t → KeepsTree s t
idle-stopped whole book s t idle (inl early) = early.tree_is
idle-stopped whole book s t idle (inr stop) = by stop.files
  where
    parts : (sum_by working_one stop.front ≡ 0) × (sum_by working_one stop.rest ≡ 0)
    parts = idle-parts stop.front stop.rest (state_of (lost_book book)).jobs stop.parts (lost-idle book idle)

    by : JobsGo whole (state_of (lost_book book)) 1 stop.front s.tree t.tree
        ⊎ IsGivingNext whole (state_of (lost_book book)) stop.front stop.rest s.tree t.tree → KeepsTree s t
    by (inl goes) = idle-goes whole stop.front (state_of (lost_book book)) 1 s.tree t.tree parts.0 goes
    by (inr giving) = none-given whole (state_of (lost_book book)) stop.front stop.rest s.tree t.tree parts.1 giving
