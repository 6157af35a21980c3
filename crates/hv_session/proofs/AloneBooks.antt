-- Where others add nothing: what one's own acts added is all that was added.
use Rattle.std.proofs.Common.{◌≡◌, ℕ, ◌+◌, Option, Some, None, List, [], ◌∷◌, ◌++◌, length, fold, sym, ap, ◌∙◌, subst}
use Rattle.std.specs.Prelude.{IsSomeAnd}
use Rattle.hv_shelf.specs.Disk.{Store}
use Rattle.hv_history.specs.declared.entry.Entry.{Entry}
use Rattle.hv_history.specs.State.{State, state_of, nothing_yet, after}
use Rattle.hv_history.specs.Legal.{AllFit, AllTruthful, IsLegalFrom, IsLegal, profile}
use Rattle.hv_trail.specs.declared.trail.TrailItem.{TrailItem}
use Rattle.hv_trail.specs.Trail.{book_of}
use Rattle.hv_trail.proofs.LastingLaws.{book-append}
use Rattle.hv_actor.specs.Acting.{Went, Woven, Nothing, items_of, known}
use Rattle.hv_beginning.specs.hv_steps.specs.hv_table_reader.specs.hv_acts.specs.hv_telling.specs.hv_house.specs.declared.house.House.{House}
use Rattle.hv_beginning.specs.hv_steps.specs.hv_table_reader.specs.hv_acts.specs.hv_telling.specs.hv_house.specs.House.{entries_of}
use Rattle.hv_beginning.specs.hv_steps.specs.hv_table_reader.specs.hv_acts.specs.hv_telling.specs.hv_house.proofs.Openings.{legal-front}
use Rattle.hv_beginning.specs.hv_steps.specs.hv_table_reader.specs.hv_acts.specs.hv_telling.specs.Telling.{OpensLater, StillOpens}
use Rattle.hv_beginning.specs.hv_steps.specs.hv_table_reader.specs.hv_acts.specs.hv_telling.proofs.Told.{opens-told}
use Rattle.hv_beginning.specs.hv_steps.specs.hv_table_reader.specs.hv_acts.specs.Told.{trail_in}
use Rattle.hv_beginning.specs.hv_steps.specs.hv_table_reader.specs.hv_acts.specs.declared.told.ToldHouse.{ToldHouse}
use Rattle.hv_beginning.specs.hv_steps.specs.Going.{faults_in, AddsOwn, Gains}
use Rattle.hv_beginning.specs.hv_steps.specs.hv_table_reader.specs.hv_acts.proofs.Steps.{book-is}
use Rattle.hv_beginning.specs.hv_steps.specs.Ending.{AddsOf}
use Rattle.hv_session.specs.Alone.{AddsNothing, HasGained, OpenIsWhole}
use Rattle.hv_beginning.specs.hv_steps.proofs.Books.{fit-behind}

-- ---- trails

woven-alone : (B : List TrailItem → Type 0) → AddsNothing B → (at : ℕ) (own : List (ℕ × TrailItem)) (added : List TrailItem) → Woven B at own added → added ≡ items_of own
woven-alone B none at [] added w = none added w
woven-alone B none at (x ∷ own) added w =
    w.2 ∙ ap (λ (xs : List TrailItem). xs ++ x.1 ∷ w.1) (none w.0 w.4) ∙ ap (λ (xs : List TrailItem). x.1 ∷ xs) (woven-alone B none (x.0 + 1) own w.1 w.5)

pub went-alone : (B : List TrailItem → Type 0) → AddsNothing B → (gained : List TrailItem) (own own' : List ℕ) (a b : List TrailItem) → Went B gained own own' a b
    → b ≡ a ++ gained
went-alone B none gained own own' a b w = w.seen ∙ ap (λ (xs : List TrailItem). a ++ xs) (woven-alone B none (length a) w.placed w.added w.woven ∙ w.items)

module _ {D : Type 0} (faults : D → ℕ) (B : List TrailItem → Type 0) (none : AddsNothing B) where
  pub adds-alone : {by : ℕ} (own own' : List ℕ) (before now : ToldHouse D) (added : List Entry) → AddsOwn faults B by (known own before) (known own' now) added
      → HasGained faults before now added
  adds-alone own own' before now added v = record {
    book = sym (book-is now.house) ∙ ap book_of (went-alone B none v.items own own' (trail_in before) (trail_in now) v.went)
        ∙ book-append (trail_in before) v.items ∙ ap (λ (xs : List Entry). xs ++ book_of v.items) (book-is before.house)
        ∙ ap (λ (xs : List Entry). entries_of before.house ++ xs) v.entries;
    start = λ i. record { marker = before.house.start.marker; value = v.later.rest.start i };
    later = v.later.count;
  }

  -- a part that is done added entries of its transaction alone
  pub gains-of : (low txn : ℕ) (own own' : List ℕ) (before now : ToldHouse D) (Is : List Entry → Type 0)
      → Gains faults B low txn (known own before) (known own' now) Is
      → AddsOf txn low (faults_in faults now) (entries_of before.house) (entries_of now.house)
  gains-of low txn own own' before now Is gains = record {
    added = gains.added;
    book = (adds-alone own own' before now gains.added gains.adds).book;
    of_it = gains.of_it;
    counts = gains.counts;
  }

pub nothing-is-added : AddsNothing Nothing
nothing-is-added xs is = is

pub open-is-whole : {D : Type 0} (told : D → Option Store) → OpenIsWhole told
open-is-whole told now open_ kept = kept.whole open_

-- ---- what stands behind a book

-- it fits where all fits
pub fits-behind : (book more now : List Entry) → now ≡ book ++ more → AllFit profile nothing_yet now → AllFit profile (state_of book) more
fits-behind book more now is fit = fit-behind nothing_yet book more (subst (AllFit profile nothing_yet) is fit)

true-behind : (state : State) (book more : List Entry) → AllTruthful state (book ++ more) → AllTruthful (fold after state book) more
true-behind state [] more truthful = truthful
true-behind state (event ∷ book) more truthful = true-behind (after state event) book more truthful.1

-- and is legal where all is
pub legal-behind : (book more now : List Entry) → now ≡ book ++ more → IsLegal profile now → IsLegalFrom profile (state_of book) more
legal-behind book more now is legal = record {
  fit = fits-behind book more now is legal.fit;
  truthful = true-behind nothing_yet book more (subst (AllTruthful nothing_yet) is legal.truthful);
}

later-legal : (book : List Entry) (o : Option Store) → IsSomeAnd o (OpensLater book) → IsLegal profile book
later-legal book None opens = absurd opens
later-legal book (Some store) opens =
    legal-front profile nothing_yet book opens.begins.0 (subst (IsLegal profile) opens.begins.1 opens.opens.left.legal)

-- a house that opens still has a legal book
pub opens-legal : {D : Type 0} (told : D → Option Store) (house : House D) → StillOpens told house → IsLegal profile (entries_of house)
opens-legal told house opens = later-legal (entries_of house) (told house.shelf) (opens-told told house opens)
