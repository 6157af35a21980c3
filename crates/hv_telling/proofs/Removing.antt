-- A house behind a call that took away a directory which may go.
use Rattle.std.proofs.Common.{◌≡◌, ◌⊎◌, inl, inr, ℕ, Bool, true, false, cond, Option, Some, None, IsSomeAnd, Result, Ok, Err, IfErr, List, [], ◌∷◌, ◌++◌, refl, sym, ap, ◌∙◌, subst, append-nil}
use Rattle.std.specs.Prelude.{OnOk, not, ◌||◌}
use Rattle.std.specs.FinMap as tree
use Rattle.hv_shelf.specs.declared.place.DirAt.{DirAt}
use Rattle.hv_shelf.specs.declared.place.Place.{Place}
use Rattle.hv_shelf.specs.Disk.{Store, Tree, IsRemoved, TornRemove}
use Rattle.hv_shelf.specs.Laws.{alike}
use Rattle.hv_shelf.specs.Places.{is_in}
use Rattle.hv_history.specs.declared.entry.Entry.{Entry}
use Rattle.hv_history.specs.State.{state_of}
use Rattle.hv_history.specs.Legal.{profile}
use Rattle.hv_stands.specs.Statements.{AllFitting}
use Rattle.hv_stands.proofs.Numbers.{either}
use Rattle.hv_house.specs.hv_finals.specs.hv_law_made.specs.Opening.{is_in_any, SomeGo, AllGo}
use Rattle.hv_house.specs.hv_finals.specs.hv_law_made.proofs.BookLemmas.{books-are-sound}
use Rattle.hv_trail.specs.declared.trail.Mark.TheVariants.{Went, Broke}
use Rattle.hv_trail.specs.declared.trail.TrailItem.{TrailItem}
use Rattle.hv_trail.specs.declared.trail.TrailItem.TheVariants.{Marked}
use Rattle.hv_trail.specs.Trail.{book_of, state_at}
use Rattle.hv_trail.specs.Kept.{trail_of}
use Rattle.hv_trail.specs.Steps.{Remove, Outcome, Done, Closed, Refused, Failed, Step}
use Rattle.hv_law_work.specs.Marks.{MayGoNow}
use Rattle.hv_law_work.specs.Laws.{IsShort}
use Rattle.hv_law_work.proofs.Puts.{gone-stand}
use Rattle.hv_law_work.proofs.TxnMarks.{others-keep-marks, gone-keeps-changes}
use Rattle.hv_law_work.proofs.JobMarks.{went-job-marks, torn-job-marks}
use Rattle.hv_house.specs.declared.fault.HouseFault.{HouseFault}
use Rattle.hv_house.specs.declared.fault.HouseFault.TheVariants as fault
use Rattle.hv_house.specs.declared.house.House.{House}
use Rattle.hv_house.specs.House.{entries_of, IsReady, IsFaithful}
use Rattle.hv_house.specs.Steps.{seen_of, RemoveStepWithin}
use Rattle.hv_telling.specs.Telling.{IsToldHouse, StandsByMarks, HoldsTrue, IsWhole, StaysWhole, StillOpens}
use Rattle.hv_telling.proofs.Few.{few-entries, is-short}
use Rattle.hv_telling.proofs.Told.{moved-some, house-book, holds-told, told-holds, true-shown, told-stays}
use Rattle.hv_telling.proofs.Opens.{held-opens}
use Rattle.hv_telling.proofs.Puts.{marked-book}

-- ---- which files are left

or-false : (a : Bool) → a || false ≡ a
or-false true = refl
or-false false = refl

-- a place is in one of these where it is in that one
one-dir : (dir : DirAt) (place : Place) → is_in_any (dir ∷ []) place ≡ is_in dir place
one-dir dir place = or-false (is_in dir place)

kept-at : (keeps : Place → Bool) (files : Tree) (place : Place) → tree.get (tree.retain_keys files keeps) place ≡ cond (keeps place) (tree.get files place) None
kept-at keeps files place = tree.get-retain_keys files keeps place (alike keeps place)

all-go : (dir : DirAt) (before now : Store) → IsRemoved dir before now → AllGo (dir ∷ []) before.tree now.tree
all-go dir before now removed = record {
  bare = λ place within.
      at place ∙ ap (λ b. cond (not b) (tree.get before.tree place) None) (sym (one-dir dir place) ∙ within);
  same = λ place outside.
      at place ∙ ap (λ b. cond (not b) (tree.get before.tree place) None) (sym (one-dir dir place) ∙ outside);
}
  where
    at : (place : Place) → tree.get now.tree place ≡ cond (not (is_in dir place)) (tree.get before.tree place) None
    at place = ap (λ (files : Tree). tree.get files place) removed.tree_is ∙ kept-at (λ p. not (is_in dir p)) before.tree place

pub some-of-all : (dirs : List DirAt) (before now : Tree) → AllGo dirs before now → SomeGo dirs before now
some-of-all dirs before now all = record { less = λ place bytes at. by place bytes at (either (is_in_any dirs place)); same = all.same }
  where
    by : (place : Place) (bytes : List ℕ) → tree.get now place ≡ Some bytes → (is_in_any dirs place ≡ true) ⊎ (is_in_any dirs place ≡ false)
        → tree.get before place ≡ Some bytes
    by place bytes at (inl within) = let never : None ≡ Some bytes = sym (all.bare place within) ∙ at in cc
    by place bytes at (inr outside) = sym (all.same place outside) ∙ at

some-go : (dir : DirAt) (before now : Store) → TornRemove dir before now → SomeGo (dir ∷ []) before.tree now.tree
some-go dir before now (inl same) = record {
  less = λ place bytes at. sym (ap (λ (s : Store). tree.get s.tree place) same) ∙ at;
  same = λ place outside. ap (λ (s : Store). tree.get s.tree place) same;
}
some-go dir before now (inr some) = record {
  less = λ place bytes at. kept place bytes (some.keeps place) refl at;
  same = λ place outside.
      at place ∙ ap (λ b. cond b (tree.get before.tree place) None) (some.others place (sym (one-dir dir place) ∙ outside));
}
  where
    at : (place : Place) → tree.get now.tree place ≡ cond (some.keeps place) (tree.get before.tree place) None
    at place = ap (λ (files : Tree). tree.get files place) some.tree_is ∙ kept-at some.keeps before.tree place

    kept : (place : Place) (bytes : List ℕ) (b : Bool) → some.keeps place ≡ b → tree.get now.tree place ≡ Some bytes → tree.get before.tree place ≡ Some bytes
    kept place bytes true e here = sym (at place ∙ ap (λ b. cond b (tree.get before.tree place) None) e) ∙ here
    kept place bytes false e here =
        let never : None ≡ Some bytes = sym (at place ∙ ap (λ b. cond b (tree.get before.tree place) None) e) ∙ here in cc

-- ---- stores

module _ (trail : List TrailItem) (dir : DirAt) (fit : AllFitting (book_of trail))
    (may : MayGoNow (state_at trail) dir) where
  abbrev book : List Entry
  book = book_of trail

  short : IsShort profile trail
  short = is-short trail fit

  some-faithful : (before now : Store) → SomeGo (dir ∷ []) before.tree now.tree → IsFaithful book before → IsFaithful book now
  some-faithful before now some faithful = record {
    stands =
        gone-stand (state_at trail) dir before.tree now.tree (few-entries book fit) (books-are-sound profile book fit) may some faithful.stands;
    legal = faithful.legal;
  }

  pub torn-faithful : (before now : Store) → TornRemove dir before now → IsFaithful book before → IsFaithful book now
  torn-faithful before now torn faithful = some-faithful before now (some-go dir before now torn) faithful

  pub gone-true : (before now : Store) → IsRemoved dir before now → StandsByMarks trail book before
      → StandsByMarks (trail ++ Marked (Went dir) ∷ []) (book_of (trail ++ Marked (Went dir) ∷ [])) now
  gone-true before now removed true_ =
      let all : AllGo (dir ∷ []) before.tree now.tree = all-go dir before now removed in
      let some : SomeGo (dir ∷ []) before.tree now.tree = some-of-all (dir ∷ []) before.tree now.tree all in
      record {
        faithful = subst (λ (entries : List Entry). IsFaithful entries now) (sym (marked-book trail (Went dir)))
            (some-faithful before now some true_.faithful);
        marks = others-keep-marks trail (Marked (Went dir)) before.tree now.tree tt
            (gone-keeps-changes profile trail dir before.tree now.tree short may some) true_.marks;
        jobs = went-job-marks profile trail before.tree now.tree dir short may all true_.jobs;
      }

  pub torn-true : (count : ℕ) (before now : Store) → TornRemove dir before now → StandsByMarks trail book before
      → StandsByMarks (trail ++ Marked (Broke None false count) ∷ []) (book_of (trail ++ Marked (Broke None false count) ∷ [])) now
  torn-true count before now torn true_ =
      let some : SomeGo (dir ∷ []) before.tree now.tree = some-go dir before now torn in
      record {
        faithful = subst (λ (entries : List Entry). IsFaithful entries now) (sym (marked-book trail (Broke None false count)))
            (some-faithful before now some true_.faithful);
        marks = others-keep-marks trail (Marked (Broke None false count)) before.tree now.tree tt
            (gone-keeps-changes profile trail dir before.tree now.tree short may some) true_.marks;
        jobs = torn-job-marks profile trail before.tree now.tree dir count short may some true_.jobs;
      }

-- ---- a house

module _ {D : Type 0} (told : D → Option Store) (faults : D → ℕ) (dir : DirAt) (before now : House D) (whole : IsWhole told before)
    (may_ : IsToldHouse told before → MayGoNow (state_of (entries_of before)) dir) where
  abbrev trail : List TrailItem
  trail = trail_of before.trail

  abbrev StepsTo : Outcome → Type 0
  StepsTo outcome = Step told faults (Remove None dir) outcome (seen_of before) (seen_of now)

  pub same-start : (outcome : Outcome) → StepsTo outcome → now.start ≡ before.start
  same-start outcome step = λ i. record { marker = before.start.marker; value = step.rest.start i }

  told-before : (outcome : Outcome) → StepsTo outcome → IsToldHouse told now → IsToldHouse told before
  told-before outcome step is = told-stays told now before (sym (same-start outcome step)) is

  fit-here : AllFitting (book_of trail)
  fit-here = subst AllFitting (sym (house-book before)) whole.ready.fit

  may-here : IsToldHouse told before → MayGoNow (state_at trail) dir
  may-here is = subst (λ (book : List Entry). MayGoNow (state_of book) dir) (sym (house-book before)) (may_ is)

  holds-here : IsToldHouse told before → IsSomeAnd (told before.shelf) (StandsByMarks trail (book_of trail))
  holds-here is = holds-told told before (whole.truly is)

  gone-holds : StepsTo Done → IsToldHouse told before → HoldsTrue told now
  gone-holds step is =
      told-holds told now (trail ++ Marked (Went dir) ∷ []) step.trail
      (moved-some (IsRemoved dir) (StandsByMarks trail (book_of trail)) _ (told before.shelf) (told now.shelf) step.store
      (gone-true trail dir fit-here (may-here is)) (holds-here is))

  torn-holds : (count : ℕ) → StepsTo (Failed count) → IsToldHouse told before → HoldsTrue told now
  torn-holds count step is =
      told-holds told now (trail ++ Marked (Broke None false count) ∷ []) step.trail
      (moved-some (TornRemove dir) (StandsByMarks trail (book_of trail)) _ (told before.shelf) (told now.shelf) step.store
      (torn-true trail dir fit-here (may-here is) count) (holds-here is))

  kept-holds : StepsTo Refused → IsToldHouse told before → HoldsTrue told now
  kept-holds step is =
      told-holds told now trail (step.trail ∙ append-nil trail)
      (moved-some (λ x y. y ≡ x) (StandsByMarks trail (book_of trail)) (StandsByMarks trail (book_of trail)) (told before.shelf) (told now.shelf) step.store
      (λ x y same true_. subst (StandsByMarks trail (book_of trail)) (sym same) true_) (holds-here is))

  pub gone-whole : (result : Result (Unit {0}) HouseFault) → RemoveStepWithin profile told faults dir before now result → OnOk result (IsWhole told now)
  gone-whole (Ok x) step = record { ready = step.ready; truly = λ is. gone-holds step.step (told-before Done step.step is) }
  gone-whole (Err why) step = tt

  pub gone-stays : (result : Result (Unit {0}) HouseFault) → RemoveStepWithin profile told faults dir before now result
      → IfErr result (λ why. StaysWhole told why now)
  gone-stays (Ok x) step = tt
  gone-stays (Err fault.Store) step = tt
  gone-stays (Err fault.NoMemory) step = record { ready = step.stays; truly = λ is. kept-holds step.step (told-before Refused step.step is) }
  gone-stays (Err (fault.Failed count)) step = record { ready = step.stays; truly = λ is. torn-holds count step.step (told-before (Failed count) step.step is) }

  ready-opens : IsReady told now → HoldsTrue told now → StillOpens told now
  ready-opens ready holds = held-opens told now ready.kept.reads (true-shown told now holds)

  closed-shows : StepsTo Closed → entries_of now ≡ entries_of before → IsToldHouse told before
      → IsSomeAnd (told now.shelf) (IsFaithful (entries_of now))
  closed-shows step same is =
      moved-some (TornRemove dir) (StandsByMarks trail (book_of trail)) (IsFaithful (entries_of now)) (told before.shelf) (told now.shelf) step.store
      (λ x y torn true_. subst (λ (book : List Entry). IsFaithful book y) (house-book before ∙ sym same)
      (torn-faithful trail dir fit-here (may-here is) x y torn true_.faithful))
      (holds-here is)

  pub gone-opens : (result : Result (Unit {0}) HouseFault) → RemoveStepWithin profile told faults dir before now result
      → IsToldHouse told before → IfErr result (λ _. StillOpens told now)
  gone-opens (Ok x) step is = tt
  gone-opens (Err fault.Store) step is = held-opens told now step.stays (closed-shows step.step step.book is)
  gone-opens (Err fault.NoMemory) step is = ready-opens step.stays (kept-holds step.step is)
  gone-opens (Err (fault.Failed count)) step is = ready-opens step.stays (torn-holds count step.step is)
