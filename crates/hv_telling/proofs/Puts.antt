-- A house behind a put, whoever's: of a file whose put keeps true what the marks say.
use Rattle.std.proofs.Common.{◌≡◌, ◌⊎◌, inl, inr, ℕ, Bool, true, false, cond, Option, Some, IsSomeAnd, Result, Ok, Err, IfErr, List, [], ◌∷◌, ◌++◌, sym, ap, ◌∙◌, subst, append-nil}
use Rattle.std.specs.Prelude.{OnOk}
use Rattle.std.specs.Ordering.{eq_by_cmp}
use Rattle.std.specs.FinMap as tree
use Rattle.hv_shelf.specs.declared.place.Place.{Place}
use Rattle.hv_shelf.specs.Places.{place_cmp, place_total}
use Rattle.hv_shelf.specs.Disk.{Store, Tree, HasFile, TornFile}
use Rattle.hv_history.specs.declared.entry.Entry.{Entry}
use Rattle.hv_stands.proofs.Numbers.{either}
use Rattle.hv_stands.proofs.Places.{same-place}
use Rattle.hv_trail.specs.declared.trail.Reader.{Reader}
use Rattle.hv_trail.specs.declared.trail.Mark.{Mark}
use Rattle.hv_trail.specs.declared.trail.Mark.TheVariants.{Wrote, Broke}
use Rattle.hv_trail.specs.declared.trail.TrailItem.{TrailItem}
use Rattle.hv_trail.specs.declared.trail.TrailItem.TheVariants.{Marked}
use Rattle.hv_trail.specs.Trail.{book_of}
use Rattle.hv_trail.specs.Kept.{trail_of}
use Rattle.hv_trail.specs.Steps.{Put, Outcome, Done, Closed, Refused, Failed, Step}
use Rattle.hv_trail.proofs.LastingLaws.{book-append}
use Rattle.hv_house.specs.declared.fault.HouseFault.{HouseFault}
use Rattle.hv_house.specs.declared.fault.HouseFault.TheVariants as fault
use Rattle.hv_house.specs.declared.house.House.{House}
use Rattle.hv_house.specs.House.{entries_of, IsReady, IsFaithful}
use Rattle.hv_house.specs.Steps.{seen_of, PutStep, due_of}
use Rattle.hv_telling.specs.Telling.{IsToldHouse, StandsByMarks, HoldsTrue, IsWhole, StaysWhole, StillOpens}
use Rattle.hv_telling.proofs.Told.{moved-some, house-book, holds-told, told-holds, true-shown, told-stays}
use Rattle.hv_telling.proofs.Opens.{held-opens}

-- a mark isn't of the book
pub marked-book : (trail : List TrailItem) (mark : Mark) → book_of (trail ++ Marked mark ∷ []) ≡ book_of trail
marked-book trail mark = book-append trail (Marked mark ∷ []) ∙ append-nil (book_of trail)

-- ---- stores

-- everywhere else the files are as they were
abbrev pub KeepsElsewhere : Place → Store → Store → Type 0
KeepsElsewhere place before now = (other : Place) → (other ≡ place → ⊥) → tree.get now.tree other ≡ tree.get before.tree other

inserted-elsewhere : (files : Tree) (place : Place) (bytes : List ℕ) (other : Place) → (other ≡ place → ⊥)
    → tree.get (tree.insert files place bytes) other ≡ tree.get files other
inserted-elsewhere files place bytes other apart =
    tree.get-insert place_total files place bytes other ∙ by (either (eq_by_cmp place_cmp other place))
  where
    by : (eq_by_cmp place_cmp other place ≡ true) ⊎ (eq_by_cmp place_cmp other place ≡ false)
        → cond (eq_by_cmp place_cmp other place) (Some bytes) (tree.get files other) ≡ tree.get files other
    by (inl same) = absurd (apart (same-place other place same))
    by (inr differs) = ap (λ (b : Bool). cond b (Some bytes) (tree.get files other)) differs

pub put-elsewhere : (place : Place) (bytes : List ℕ) (before now : Store) → HasFile place bytes before now → KeepsElsewhere place before now
put-elsewhere place bytes before now has other apart =
    ap (λ (files : Tree). tree.get files other) has.tree_is ∙ inserted-elsewhere before.tree place bytes other apart

pub torn-elsewhere : (place : Place) (before now : Store) → TornFile place before now → KeepsElsewhere place before now
torn-elsewhere place before now (inl same) other apart = ap (λ (s : Store). tree.get s.tree other) same
torn-elsewhere place before now (inr breaks) other apart = breaks.others other apart

-- ---- what a put leaves of a store

-- Where the file is put, where that fails and leaves anything there, and where it closes the house.
pub record PutsTruly (trail : List TrailItem) (by : Reader) (place : Place) (bytes : List ℕ) : Type 0 where
  pub put : (before now : Store) → HasFile place bytes before now → StandsByMarks trail (book_of trail) before
      → StandsByMarks (trail ++ Marked (Wrote by place) ∷ []) (book_of (trail ++ Marked (Wrote by place) ∷ [])) now
  pub torn : (count : ℕ) (before now : Store) → TornFile place before now → StandsByMarks trail (book_of trail) before
      → StandsByMarks (trail ++ Marked (Broke (Some by) true count) ∷ []) (book_of (trail ++ Marked (Broke (Some by) true count) ∷ [])) now
  pub faithful : (before now : Store) → TornFile place before now → IsFaithful (book_of trail) before → IsFaithful (book_of trail) now

-- ---- a house

module _ {D : Type 0} (told : D → Option Store) (faults : D → ℕ) (by : Reader) (place : Place) (bytes : List ℕ) (before now : House D) (whole : IsWhole told before)
    (truly : IsToldHouse told before → PutsTruly (trail_of before.trail) by place bytes) where
  abbrev trail : List TrailItem
  trail = trail_of before.trail

  abbrev StepsTo : Outcome → Type 0
  StepsTo outcome = Step told faults (Put by place bytes) outcome (seen_of before) (seen_of now)

  pub same-start : (outcome : Outcome) → StepsTo outcome → now.start ≡ before.start
  same-start outcome step = λ i. record { marker = before.start.marker; value = step.rest.start i }

  told-before : (outcome : Outcome) → StepsTo outcome → IsToldHouse told now → IsToldHouse told before
  told-before outcome step is = told-stays told now before (sym (same-start outcome step)) is

  holds-here : IsToldHouse told before → IsSomeAnd (told before.shelf) (StandsByMarks trail (book_of trail))
  holds-here is = holds-told told before (whole.truly is)

  put-holds : StepsTo Done → IsToldHouse told before → HoldsTrue told now
  put-holds step is =
      told-holds told now (trail ++ Marked (Wrote by place) ∷ []) step.trail
      (moved-some (HasFile place bytes) (StandsByMarks trail (book_of trail)) _ (told before.shelf) (told now.shelf) step.store
      (truly is).put (holds-here is))

  torn-holds : (count : ℕ) → StepsTo (Failed count) → IsToldHouse told before → HoldsTrue told now
  torn-holds count step is =
      told-holds told now (trail ++ Marked (Broke (Some by) true count) ∷ []) step.trail
      (moved-some (TornFile place) (StandsByMarks trail (book_of trail)) _ (told before.shelf) (told now.shelf) step.store
      ((truly is).torn count) (holds-here is))

  kept-holds : StepsTo Refused → IsToldHouse told before → HoldsTrue told now
  kept-holds step is =
      told-holds told now trail (step.trail ∙ append-nil trail)
      (moved-some (λ x y. y ≡ x) (StandsByMarks trail (book_of trail)) (StandsByMarks trail (book_of trail)) (told before.shelf) (told now.shelf) step.store
      (λ x y same true_. subst (StandsByMarks trail (book_of trail)) (sym same) true_) (holds-here is))

  pub put-whole : (result : Result (Unit {0}) HouseFault) → PutStep told faults (due_of by place bytes) before now result
      → OnOk result (IsWhole told now)
  put-whole (Ok x) step = record { ready = step.ready; truly = λ is. put-holds step.step (told-before Done step.step is) }
  put-whole (Err why) step = tt

  pub put-stays : (result : Result (Unit {0}) HouseFault) → PutStep told faults (due_of by place bytes) before now result
      → IfErr result (λ why. StaysWhole told why now)
  put-stays (Ok x) step = tt
  put-stays (Err fault.Store) step = tt
  put-stays (Err fault.NoMemory) step = record { ready = step.stays; truly = λ is. kept-holds step.step (told-before Refused step.step is) }
  put-stays (Err (fault.Failed count)) step = record { ready = step.stays; truly = λ is. torn-holds count step.step (told-before (Failed count) step.step is) }

  -- a house that is ready opens again
  ready-opens : IsReady told now → HoldsTrue told now → StillOpens told now
  ready-opens ready holds = held-opens told now ready.kept.reads (true-shown told now holds)

  closed-shows : StepsTo Closed → entries_of now ≡ entries_of before → IsToldHouse told before
      → IsSomeAnd (told now.shelf) (IsFaithful (entries_of now))
  closed-shows step same is =
      moved-some (TornFile place) (StandsByMarks trail (book_of trail)) (IsFaithful (entries_of now)) (told before.shelf) (told now.shelf) step.store
      (λ x y torn true_. subst (λ (book : List Entry). IsFaithful book y) (house-book before ∙ sym same) ((truly is).faithful x y torn true_.faithful))
      (holds-here is)

  pub put-opens : (result : Result (Unit {0}) HouseFault) → PutStep told faults (due_of by place bytes) before now result
      → IsToldHouse told before → IfErr result (λ _. StillOpens told now)
  put-opens (Ok x) step is = tt
  put-opens (Err fault.Store) step is = held-opens told now step.stays (closed-shows step.step step.book is)
  put-opens (Err fault.NoMemory) step is = ready-opens step.stays (kept-holds step.step is)
  put-opens (Err (fault.Failed count)) step is = ready-opens step.stays (torn-holds count step.step is)
