-- A house behind a publication: its job's directories have their names, and the book is told; or the first ones have, and it opens again.
use Rattle.std.proofs.Common.{◌≡◌, ◌⊎◌, inl, inr, ℕ, ◌+◌, ◌<◌, Option, IsSomeAnd, Result, Ok, Err, IfErr, List, [], ◌∷◌, ◌++◌, map, refl, sym, ap, ◌∙◌, subst, append-nil}
use Rattle.std.specs.Prelude.{OnOk}
use Rattle.hv_base.specs.Told.{Moves}
use Rattle.hv_shelf.specs.Disk.{Store}
use Rattle.hv_dirs.specs.declared.names.DirName.{DirName}
use Rattle.hv_dirs.specs.Names.{write_end}
use Rattle.hv_history.specs.declared.entry.Entry.{Entry}
use Rattle.hv_history.specs.Journal.{IsJournal, Reads}
use Rattle.hv_history.specs.State.{State, Job, after, state_of}
use Rattle.hv_history.specs.Legal.{Fits, profile}
use Rattle.hv_journal.specs.Appending.{KeepsTree}
use Rattle.hv_stands.specs.Statements.{AllFitting}
use Rattle.hv_stands.proofs.Behind.{one-behind}
use Rattle.hv_house.specs.hv_finals.specs.hv_law_made.specs.Standing.{Standing}
use Rattle.hv_house.specs.hv_finals.specs.hv_law_made.specs.Entries.{IsSoundBook, publishing, finals, AreStaged, AreRenamed, IsReady, Recovers}
use Rattle.hv_house.specs.hv_finals.specs.hv_law_made.proofs.BookLemmas.{books-are-sound}
use Rattle.hv_house.specs.hv_finals.specs.hv_law_made.proofs.RenameStands.{renames-stand}
use Rattle.hv_house.specs.hv_finals.specs.hv_law_made.proofs.RecoverStands.{fronts-recover}
use Rattle.hv_house.specs.hv_finals.specs.hv_law_made.proofs.EntryStands.{standing-goes-on}
use Rattle.hv_trail.specs.declared.trail.Renaming.{Renaming}
use Rattle.hv_trail.specs.declared.trail.TrailItem.{TrailItem}
use Rattle.hv_trail.specs.declared.trail.TrailItem.TheVariants.{Noted}
use Rattle.hv_trail.specs.Trail.{book_of, state_at}
use Rattle.hv_trail.specs.Kept.{trail_of}
use Rattle.hv_trail.specs.Steps.{Publish, Outcome, Done, Refused, NotesNone, AreMoved, PublishesAs, EndsCut, CutsPublication, StarvesPublication, Step}
use Rattle.hv_trail.proofs.LastingLaws.{book-append}
use Rattle.hv_law_work.specs.Laws.{IsShort}
use Rattle.hv_law_work.specs.Work.{renaming_of}
use Rattle.hv_law_work.proofs.Puts.{marked-is-staged}
use Rattle.hv_law_work.proofs.TxnMarks.{published-keeps-marks}
use Rattle.hv_law_work.proofs.JobMarks.{published-job-marks}
use Rattle.hv_house.specs.declared.fault.HouseFault.TheVariants as house
use Rattle.hv_house.specs.declared.house.House.{House}
use Rattle.hv_house.specs.declared.publishing.PublishFault.{PublishFault}
use Rattle.hv_house.specs.declared.publishing.PublishFault.TheVariants as fault
use Rattle.hv_house.specs.House.{entries_of, IsReady as IsReadyHouse, IsFaithful}
use Rattle.hv_house.specs.Publishing.{measured, PublishStepWithin}
use Rattle.hv_house.specs.Steps.{seen_of}
use Rattle.hv_house.proofs.Boots.{reads-journal}
use Rattle.hv_telling.specs.Telling.{IsToldHouse, StandsByMarks, HoldsTrue, IsWhole, StillOpens, OpensLater, IsPublication, StaysPublished}
use Rattle.hv_telling.proofs.Few.{few-entries, is-short}
use Rattle.hv_telling.proofs.Told.{both-some, moved-some, house-book, holds-told, told-holds, true-shown, told-stays, same-true}
use Rattle.hv_telling.proofs.Entries.{legal-next}
use Rattle.hv_telling.proofs.Opens.{faithful-is-left, held-opens}

-- ---- the names

-- renamings of these directories give them their names
are-renamed : (number : ℕ) (job : Job) (names : List DirName) (before now : Store) → AreMoved (map (renaming_of number job) names) before now
    → AreRenamed number job names before now
are-renamed number job [] before now same = ap (λ (s : Store). s.tree) (sym same)
are-renamed number job (name ∷ names) before now moved =
    (moved.0, moved.1, are-renamed number job names moved.0 now moved.2)

same-head : (x y : Renaming) (xs ys : List Renaming) → x ∷ xs ≡ y ∷ ys → (x ≡ y) × (xs ≡ ys)
same-head x y xs ys e =
    let first : x ≡ y = cc in
    let rest : xs ≡ ys = cc in
    (first, rest)

-- the first of them are those of the first names
pub record HasFront (number : ℕ) (job : Job) (names : List DirName) (front rest : List Renaming) : Type 0 where
  pub done : List DirName
  pub others : List DirName
  pub parts : names ≡ done ++ others
  pub front_is : front ≡ map (renaming_of number job) done
  pub rest_is : rest ≡ map (renaming_of number job) others

has-front : (number : ℕ) (job : Job) (names : List DirName) (front rest : List Renaming) → map (renaming_of number job) names ≡ front ++ rest
    → HasFront number job names front rest
has-front number job names [] rest e = record { done = []; others = names; parts = refl; front_is = refl; rest_is = sym e }
has-front number job [] (x ∷ front) rest e = cc
has-front number job (name ∷ names) (x ∷ front) rest e =
    let same = same-head (renaming_of number job name) x (map (renaming_of number job) names) (front ++ rest) e in
    let more = has-front number job names front rest same.1 in
    record {
      done = name ∷ more.done;
      others = more.others;
      parts = ap (λ (ns : List DirName). name ∷ ns) more.parts;
      front_is = ap (λ (r : Renaming). r ∷ front) (sym same.0) ∙ ap (λ (rs : List Renaming). renaming_of number job name ∷ rs) more.front_is;
      rest_is = more.rest_is;
    }

-- ---- stores

module _ (trail : List TrailItem) (renamings : List Renaming) (event : Entry) (fit : AllFitting (book_of trail))
    (is : IsPublication (state_at trail) trail renamings event) (before : Store) (true_ : StandsByMarks trail (book_of trail) before) where
  abbrev state : State
  state = state_at trail

  abbrev book : List Entry
  book = book_of trail

  abbrev names : List DirName
  names = finals state is.job is.work.table.writes

  short : IsShort profile trail
  short = is-short trail fit

  few : state.entries + 1 < write_end
  few = few-entries book fit

  sound : IsSoundBook state
  sound = books-are-sound profile book fit

  staged : AreStaged state is.number is.job names before.tree
  staged = marked-is-staged trail before.tree is.number is.job is.work few sound is.unbroken is.staged true_.jobs

  -- ---- all of them have their names

  module _ (fits : Fits profile state event) (middle : Store) (moved : AreMoved renamings before middle) where
    renamed : AreRenamed is.number is.job names before middle
    renamed =
        are-renamed is.number is.job names before middle
        (subst (λ (rs : List Renaming). AreMoved rs before middle) is.renamings_are moved)

    ready : IsReady state is.number is.job middle.tree
    ready = renames-stand state is.number is.job before middle is.work few sound staged true_.faithful.stands renamed

    fits-it : Fits profile state (publishing state is.number is.job)
    fits-it = subst (Fits profile state) is.event_is fits

    stands : Standing (after state (publishing state is.number is.job)) middle.tree
    stands =
        standing-goes-on profile state (publishing state is.number is.job) ready.before middle.tree fits-it few sound ready.but ready.filed ready.standing

    abbrev Stood : Entry → Type 0
    Stood e = StandsByMarks (trail ++ Noted e ∷ []) (book_of (trail ++ Noted e ∷ [])) middle

    stood : Stood (publishing state is.number is.job)
    stood = record {
      faithful = subst (λ (entries : List Entry). IsFaithful entries middle) (sym (book-append trail (Noted (publishing state is.number is.job) ∷ []))) (record {
        stands = subst (λ (s : State). Standing s middle.tree) (sym (one-behind book (publishing state is.number is.job))) stands;
        legal = legal-next book (publishing state is.number is.job) true_.faithful.legal fits-it tt;
      });
      marks = published-keeps-marks profile trail is.number is.job is.work before middle short renamed true_.marks;
      jobs = published-job-marks profile trail is.number is.job is.work before middle short staged renamed true_.faithful.stands true_.jobs;
    }

    pub published-true : (now : Store) → KeepsTree middle now
        → StandsByMarks (trail ++ Noted event ∷ []) (book_of (trail ++ Noted event ∷ [])) now
    published-true now same =
        same-true (trail ++ Noted event ∷ []) (book_of (trail ++ Noted event ∷ [])) middle now same (subst Stood (sym is.event_is) stood)

  -- ---- the first ones have

  module _ (front rest : List Renaming) (parts : renamings ≡ front ++ rest) (middle : Store) (moved : AreMoved front before middle) where
    its : HasFront is.number is.job names front rest
    its = has-front is.number is.job names front rest (sym is.renamings_are ∙ parts)

    recovers : Recovers state middle.tree
    recovers =
        fronts-recover state is.number is.job before middle its.done its.others is.work few sound its.parts staged true_.faithful.stands
        (are-renamed is.number is.job its.done before middle
        (subst (λ (rs : List Renaming). AreMoved rs before middle) its.front_is moved))

    -- the journal reads to the book
    opens-cut : (now : Store) → KeepsTree middle now → IsJournal book now.journal → OpensLater book now
    opens-cut now same journal = record {
      book = book;
      opens = record {
        journal = journal;
        left = record { recovers = subst (Recovers state) (sym same) recovers; legal = true_.faithful.legal };
      };
      begins = ([], sym (append-nil book));
    }

    moved-journal : IsJournal book before.journal → IsJournal book middle.journal
    moved-journal journal = subst (IsJournal book) (sym (front-journal front before middle moved)) journal
      where
        front-journal : (rs : List Renaming) (a b : Store) → AreMoved rs a b → b.journal ≡ a.journal
        front-journal [] a b same = ap (λ (s : Store). s.journal) same
        front-journal (r ∷ rs) a b goes = front-journal rs goes.0 b goes.2 ∙ goes.1.journal_is

    pub starved-opens : (now : Store) → NotesNone book middle now → IsJournal book before.journal → OpensLater book now
    starved-opens now ends journal = opens-cut now ends.tree_is (ends.reads (moved-journal journal))

  -- or all of them, and the journal wasn't told, or was
  cut-by : (fits : Fits profile state event) (front rest : List Renaming) → renamings ≡ front ++ rest → (middle now : Store) → AreMoved front before middle
      → EndsCut rest event book middle now → IsJournal book before.journal → OpensLater book now
  cut-by fits front [] parts middle now moved ends journal = by (ends.reads (moved-journal front [] parts middle moved journal))
    where
      all : AreMoved renamings before middle
      all = subst (λ (rs : List Renaming). AreMoved rs before middle) (sym (parts ∙ append-nil front)) moved

      by : IsJournal book now.journal ⊎ IsJournal (book ++ event ∷ []) now.journal → OpensLater book now
      by (inl reads) = opens-cut front [] parts middle moved now ends.tree_is reads
      by (inr reads) =
          let true_now : StandsByMarks (trail ++ Noted event ∷ []) (book_of (trail ++ Noted event ∷ [])) now =
          published-true fits middle all now ends.tree_is in
          record {
            book = book ++ event ∷ [];
            opens = record {
              journal = reads;
              left = faithful-is-left (book ++ event ∷ []) now
                  (subst (λ (entries : List Entry). IsFaithful entries now) (book-append trail (Noted event ∷ [])) true_now.faithful);
            };
            begins = (event ∷ [], refl);
          }
  cut-by fits front (r ∷ rest) parts middle now moved ends journal =
      starved-opens front (r ∷ rest) parts middle moved now ends journal

  pub cut-opens : (fits : Fits profile state event) (now : Store) → CutsPublication renamings event book before now → IsJournal book before.journal
      → OpensLater book now
  cut-opens fits now cut journal = cut-by fits cut.front cut.rest cut.parts cut.middle now cut.moved cut.ends journal

-- ---- a house

module _ {D : Type 0} (told : D → Option Store) (faults : D → ℕ) (renamings : List Renaming) (event : Entry) (before now : House D) (whole : IsWhole told before)
    (fits : Fits profile (state_of (entries_of before)) event)
    (truly : IsToldHouse told before → IsPublication (state_of (entries_of before)) (trail_of before.trail) renamings event) where
  abbrev trail : List TrailItem
  trail = trail_of before.trail

  abbrev StepsTo : Outcome → Type 0
  StepsTo outcome = Step told faults (Publish renamings event) outcome (seen_of before) (seen_of now)

  pub same-start : (outcome : Outcome) → StepsTo outcome → now.start ≡ before.start
  same-start outcome step = λ i. record { marker = before.start.marker; value = step.rest.start i }

  told-before : (outcome : Outcome) → StepsTo outcome → IsToldHouse told now → IsToldHouse told before
  told-before outcome step is = told-stays told now before (sym (same-start outcome step)) is

  fit-here : AllFitting (book_of trail)
  fit-here = subst AllFitting (sym (house-book before)) whole.ready.fit

  is-here : IsToldHouse told before → IsPublication (state_at trail) trail renamings event
  is-here is = subst (λ (book : List Entry). IsPublication (state_of book) trail renamings event) (sym (house-book before)) (truly is)

  fits-here : Fits profile (state_at trail) event
  fits-here = subst (λ (book : List Entry). Fits profile (state_of book) event) (sym (house-book before)) fits

  holds-here : IsToldHouse told before → IsSomeAnd (told before.shelf) (StandsByMarks trail (book_of trail))
  holds-here is = holds-told told before (whole.truly is)

  published-holds : StepsTo Done → IsToldHouse told before → HoldsTrue told now
  published-holds step is =
      told-holds told now (trail ++ Noted event ∷ []) step.trail
      (moved-some (PublishesAs renamings event (book_of trail)) (StandsByMarks trail (book_of trail)) _ (told before.shelf) (told now.shelf) step.store
      (λ x y goes true_.
      published-true trail renamings event fit-here (is-here is) x true_ fits-here goes.middle goes.moved y goes.noted.tree_is)
      (holds-here is))

  kept-holds : StepsTo Refused → IsToldHouse told before → HoldsTrue told now
  kept-holds step is =
      told-holds told now trail (step.trail ∙ append-nil trail)
      (moved-some (NotesNone (book_of trail)) (StandsByMarks trail (book_of trail)) (StandsByMarks trail (book_of trail)) (told before.shelf) (told now.shelf)
      step.store (λ x y none true_. same-true trail (book_of trail) x y none.tree_is true_) (holds-here is))

  pub published-whole : (result : Result (Unit {0}) PublishFault) → PublishStepWithin (measured profile told faults) renamings event before now result
      → OnOk result (IsWhole told now)
  published-whole (Ok x) step = record { ready = step.ready; truly = λ is. published-holds step.step (told-before Done step.step is) }
  published-whole (Err why) step = tt

  pub publish-stays : (result : Result (Unit {0}) PublishFault) → PublishStepWithin (measured profile told faults) renamings event before now result
      → IfErr result (λ why. StaysPublished told why now)
  publish-stays (Ok x) step = tt
  publish-stays (Err fault.Starved) step = tt
  publish-stays (Err (fault.House house.Store)) step = tt
  publish-stays (Err (fault.House house.NoMemory)) step =
      record { ready = step.stays; truly = λ is. kept-holds step.step (told-before Refused step.step is) }
  publish-stays (Err (fault.House (house.Failed count))) step = tt

  -- the journal of the book, and what stands
  shows-here : IsToldHouse told before → IsSomeAnd (told before.shelf) (λ s. IsJournal (book_of trail) s.journal × StandsByMarks trail (book_of trail) s)
  shows-here is =
      both-some (λ (s : Store). Reads (entries_of before) s.journal) (StandsByMarks trail (book_of trail))
      (λ s. IsJournal (book_of trail) s.journal × StandsByMarks trail (book_of trail) s) (told before.shelf)
      (λ s reads true_. (
        subst (λ (book : List Entry). IsJournal book s.journal) (sym (house-book before)) (reads-journal (entries_of before) s.journal reads),
        true_,
      ))
      whole.ready.kept.reads (holds-here is)

  same-book : entries_of now ≡ entries_of before → book_of trail ≡ entries_of now
  same-book same = house-book before ∙ sym same

  left-opens : (R : Store → Store → Type 0) → Moves R (told before.shelf) (told now.shelf) → entries_of now ≡ entries_of before → IsToldHouse told before
      → ((x y : Store) → R x y → IsJournal (book_of trail) x.journal → StandsByMarks trail (book_of trail) x → OpensLater (book_of trail) y)
      → StillOpens told now
  unfolding StillOpens
  left-opens R moves same is on =
      subst (λ (book : List Entry). IsSomeAnd (told now.shelf) (OpensLater book)) (same-book same)
      (moved-some R (λ s. IsJournal (book_of trail) s.journal × StandsByMarks trail (book_of trail) s) (OpensLater (book_of trail))
      (told before.shelf) (told now.shelf) moves (λ x y r shows. on x y r shows.0 shows.1) (shows-here is))

  ready-opens : IsReadyHouse told now → HoldsTrue told now → StillOpens told now
  ready-opens ready holds = held-opens told now ready.kept.reads (true-shown told now holds)

  pub publish-opens : (result : Result (Unit {0}) PublishFault) → PublishStepWithin (measured profile told faults) renamings event before now result
      → IsToldHouse told before → IfErr result (λ _. StillOpens told now)
  publish-opens (Ok x) step is = tt
  publish-opens (Err fault.Starved) step is =
      left-opens (StarvesPublication renamings (book_of trail)) step.step.store step.unnoted is
      (λ x y starves journal true_.
      starved-opens trail renamings event fit-here (is-here is) x true_ starves.front starves.rest starves.parts starves.middle starves.moved y
      starves.ends journal)
  publish-opens (Err (fault.House house.Store)) step is =
      left-opens (CutsPublication renamings event (book_of trail)) step.step.store step.unnoted is
      (λ x y cut journal true_. cut-opens trail renamings event fit-here (is-here is) x true_ fits-here y cut journal)
  publish-opens (Err (fault.House house.NoMemory)) step is = ready-opens step.stays (kept-holds step.step is)
  publish-opens (Err (fault.House (house.Failed count))) step is = absurd step.ends
