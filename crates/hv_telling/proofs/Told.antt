-- Facts on what is told, and on a house that is.
use Rattle.std.proofs.Common.{◌≡◌, Option, Some, None, IsSomeAnd, List, refl, sym, subst}
use Rattle.hv_base.specs.Told.{Tells, Moves}
use Rattle.hv_shelf.specs.Disk.{Store}
use Rattle.hv_journal.specs.Appending.{KeepsTree}
use Rattle.hv_history.specs.declared.entry.Entry.{Entry}
use Rattle.hv_history.specs.State.{state_of}
use Rattle.hv_house.specs.hv_finals.specs.hv_law_made.specs.Standing.{Standing}
use Rattle.hv_trail.specs.declared.trail.TrailItem.{TrailItem}
use Rattle.hv_trail.specs.Kept.{trail_of}
use Rattle.hv_trail.specs.Trail.{book_of}
use Rattle.hv_trail.proofs.KeptLaws.{trail-book}
use Rattle.hv_law_work.specs.hv_law_marks.specs.Marked.{MarksStand}
use Rattle.hv_law_work.specs.Marks.{JobMarksStand}
use Rattle.hv_house.specs.declared.house.House.{House}
use Rattle.hv_house.specs.House.{entries_of, IsFaithful}
use Rattle.hv_telling.specs.Telling.{IsTold, IsToldHouse, StandsByMarks, HoldsTrue, IsWhole, StillOpens}
use Rattle.hv_telling.specs.Laws.{TrueShown, OpensTold, ToldStays}

-- ---- what is told

pub moved-told : {A : Type 0} (step : A → A → Type 0) (P Q : A → Type 0) (a b : Option A) → Moves step a b → ((x y : A) → step x y → P x → Q y)
    → Tells a P → Tells b Q
moved-told step P Q None None moves on p = tt
moved-told step P Q None (Some y) moves on p = absurd moves
moved-told step P Q (Some x) None moves on p = absurd moves
moved-told step P Q (Some x) (Some y) moves on p = on x y moves p

pub moved-some : {A : Type 0} (step : A → A → Type 0) (P Q : A → Type 0) (a b : Option A) → Moves step a b → ((x y : A) → step x y → P x → Q y)
    → IsSomeAnd a P → IsSomeAnd b Q
moved-some step P Q None b moves on p = absurd p
moved-some step P Q (Some x) None moves on p = absurd moves
moved-some step P Q (Some x) (Some y) moves on p = on x y moves p

pub also-some : {A : Type 0} (P Q : A → Type 0) (o : Option A) → ((x : A) → P x → Q x) → IsSomeAnd o P → IsSomeAnd o Q
also-some P Q None also p = absurd p
also-some P Q (Some x) also p = also x p

pub some-told : {A : Type 0} (P : A → Type 0) (o : Option A) → IsSomeAnd o P → Tells o P
some-told P None p = absurd p
some-told P (Some x) p = p

pub found-some : {A : Type 0} (P : A → Type 0) (o : Option A) → IsSomeAnd o P → (x : A) × (o ≡ Some x) × P x
found-some P None p = absurd p
found-some P (Some x) p = (x, refl, p)

pub both-some : {A : Type 0} (P Q R : A → Type 0) (o : Option A) → ((x : A) → P x → Q x → R x) → Tells o P → IsSomeAnd o Q → IsSomeAnd o R
both-some P Q R None both p q = absurd q
both-some P Q R (Some x) both p q = both x p q

-- ---- one store

pub same-faithful : (book : List Entry) (before now : Store) → KeepsTree before now → IsFaithful book before → IsFaithful book now
same-faithful book before now same faithful = record { stands = subst (Standing (state_of book)) (sym same) faithful.stands; legal = faithful.legal }

pub same-true : (trail : List TrailItem) (book : List Entry) (before now : Store) → KeepsTree before now → StandsByMarks trail book before
    → StandsByMarks trail book now
same-true trail book before now same true_ = record {
  faithful = same-faithful book before now same true_.faithful;
  marks = subst (MarksStand trail) (sym same) true_.marks;
  jobs = subst (JobMarksStand trail) (sym same) true_.jobs;
}

-- ---- a house

module _ {D : Type 0} where
  -- its book is that of its trail
  pub house-book : (house : House D) → book_of (trail_of house.trail) ≡ entries_of house
  house-book house = trail-book house.trail.entries house.trail.marks

  pub holds-told : (told : D → Option Store) (house : House D) → HoldsTrue told house
      → IsSomeAnd (told house.shelf) (StandsByMarks (trail_of house.trail) (book_of (trail_of house.trail)))
  unfolding HoldsTrue
  holds-told told house holds =
      subst (λ (book : List Entry). IsSomeAnd (told house.shelf) (StandsByMarks (trail_of house.trail) book)) (sym (house-book house)) holds

  pub told-holds : (told : D → Option Store) (house : House D) (trail : List TrailItem) → trail_of house.trail ≡ trail
      → IsSomeAnd (told house.shelf) (StandsByMarks trail (book_of trail)) → HoldsTrue told house
  unfolding HoldsTrue
  told-holds told house trail same holds =
      subst (λ (book : List Entry). IsSomeAnd (told house.shelf) (StandsByMarks (trail_of house.trail) book)) (house-book house)
      (subst (λ (items : List TrailItem). IsSomeAnd (told house.shelf) (StandsByMarks items (book_of items))) (sym same) holds)

  pub true-shown : TrueShown D
  unfolding HoldsTrue
  true-shown told house holds =
      also-some (StandsByMarks (trail_of house.trail) (entries_of house)) (IsFaithful (entries_of house)) (told house.shelf) (λ s stands. stands.faithful) holds

  pub whole-shown : (told : D → Option Store) (house : House D) → IsWhole told house → IsToldHouse told house
      → (store : Store) × (told house.shelf ≡ Some store) × IsFaithful (entries_of house) store
  whole-shown told house whole is = found-some (IsFaithful (entries_of house)) (told house.shelf) (true-shown told house (whole.truly is))

  pub opens-told : OpensTold D
  unfolding StillOpens
  opens-told told now opens = opens

  pub told-stays : ToldStays D
  told-stays told before now same is = subst (λ start. IsTold told start.value) (sym same) is
