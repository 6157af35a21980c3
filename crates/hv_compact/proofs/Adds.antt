-- What one's own acts added, one behind another.
use Rattle.std.proofs.Common.{◌≡◌, ℕ, List, [], ◌++◌, Option, refl, sym, ap, ◌∙◌, subst, append-nil, append_assoc}
use Rattle.hv_shelf.specs.Disk.{Store}
use Rattle.hv_history.specs.Lasting.{IsFront}
use Rattle.hv_trail.specs.declared.trail.TrailItem.{TrailItem}
use Rattle.hv_trail.specs.Trail.{book_of}
use Rattle.hv_trail.proofs.LastingLaws.{book-append, goes-on-front}
use Rattle.hv_actor.specs.Acting.{Moment, AreRows}
use Rattle.hv_actor.specs.Rows.{later_itself}
use Rattle.hv_actor.proofs.Weaving.{went-more, later-further}
use Rattle.hv_job_acts.specs.hv_acts.specs.declared.told.ToldHouse.{ToldHouse}
use Rattle.hv_job_acts.specs.hv_acts.specs.Told.{seen_in, trail_in}
use Rattle.hv_job_acts.specs.hv_acts.specs.hv_telling.specs.Telling.{IsTold, IsToldHouse}
use Rattle.hv_job_acts.specs.Going.{AddsItems}

-- ---- fronts

pub front-more : {A : Type 0} (a b c : List A) → IsFront a b → IsFront b c → IsFront a c
front-more a b c f g = record {
  more = f.more ++ g.more;
  is = g.is ∙ ap (λ (xs : List _). xs ++ g.more) f.is ∙ append_assoc a f.more g.more;
}

pub front-itself : {A : Type 0} (a : List A) → IsFront a a
front-itself a = record { more = []; is = sym (append-nil a) }

pub front-added : {A : Type 0} (a b more : List A) → b ≡ a ++ more → IsFront a b
front-added a b more is = record { more = more; is = is }

pub book-front : (before now : List TrailItem) → IsFront before now → IsFront (book_of before) (book_of now)
book-front before now front = record { more = book_of front.more; is = ap book_of front.is ∙ book-append before front.more }

-- ---- items that were added

module _ {D : Type 0} (faults : D → ℕ) (between : List TrailItem → Type 0) where
  pub adds-front : (a b : Moment (ToldHouse D)) (items : List TrailItem) → AddsItems faults between a b items
      → IsFront (trail_in a.house) (trail_in b.house)
  adds-front a b items adds = record { more = adds.went.added; is = adds.went.seen }

  pub adds-none : AreRows between → (m : Moment (ToldHouse D)) → AddsItems faults between m m []
  adds-none rows m = record {
    went = record {
      placed = [];
      items = refl;
      places = sym (append-nil m.own);
      added = [];
      seen = sym (append-nil (trail_in m.house));
      woven = rows.none;
      goes_on = goes-on-front (trail_in m.house) (trail_in m.house) (front-itself (trail_in m.house));
    };
    later = later_itself faults (seen_in m.house);
  }

  pub adds-more : AreRows between → (a b c : Moment (ToldHouse D)) (xs ys : List TrailItem) → AddsItems faults between a b xs
      → AddsItems faults between b c ys → AddsItems faults between a c (xs ++ ys)
  adds-more rows a b c xs ys first next = record {
    went =
        went-more between rows xs ys a.own b.own c.own (trail_in a.house) (trail_in b.house) (trail_in c.house) first.went next.went;
    later = later-further faults (seen_in a.house) (seen_in b.house) (seen_in c.house) first.later next.later;
  }

  pub adds-as : (a b : Moment (ToldHouse D)) (xs ys : List TrailItem) → xs ≡ ys → AddsItems faults between a b xs
      → AddsItems faults between a b ys
  adds-as a b xs ys same adds = subst (AddsItems faults between a b) same adds

  -- a house that was told is so behind them
  pub adds-told : (told : D → Option Store) (a b : Moment (ToldHouse D)) (items : List TrailItem)
      → AddsItems faults between a b items → IsToldHouse told a.house.house → IsToldHouse told b.house.house
  adds-told told a b items adds is = subst (IsTold told) (sym adds.later.rest.start) is
