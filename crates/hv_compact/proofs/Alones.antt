-- Where nobody else adds anything, the trail gains just one's own items.
use Rattle.std.proofs.Common.{◌≡◌, ◌≤◌, ◌+◌, ℕ, Option, List, [], ◌∷◌, ◌++◌, length, refl, sym, ap, ◌∙◌, subst, append-nil, append_assoc, arith}
use Rattle.std.specs.List.{AllByRecursion}
use Rattle.std.proofs.lemmas.List.{length-append}
use Rattle.hv_base.specs.declared.ids.JobId.{JobId}
use Rattle.hv_shelf.specs.Disk.{Store}
use Rattle.hv_history.specs.declared.entry.Entry.{Entry}
use Rattle.hv_history.specs.declared.entry.Entry.TheVariants as entry
use Rattle.hv_history.specs.State.{state_of}
use Rattle.hv_history.specs.Lasting.{IsFront}
use Rattle.hv_trail.specs.declared.trail.TrailItem.{TrailItem}
use Rattle.hv_trail.specs.declared.trail.TrailItem.TheVariants.{Noted, Marked}
use Rattle.hv_trail.specs.declared.trail.Mark.TheVariants.{Wrote, Went, Broke}
use Rattle.hv_trail.specs.Trail.{book_of}
use Rattle.hv_trail.proofs.LastingLaws.{book-append}
use Rattle.hv_actor.specs.Acting.{Woven, Nothing, Moment, among}
use Rattle.hv_actor.proofs.Weaving.{went-alone}
use Rattle.hv_job_acts.specs.hv_acts.specs.declared.told.ToldHouse.{ToldHouse}
use Rattle.hv_job_acts.specs.hv_acts.specs.Told.{trail_in, book_in}
use Rattle.hv_job_acts.specs.hv_job_calls.specs.Refusals.{picking, number_in, to_pick}
use Rattle.hv_job_acts.specs.declared.asking.PartAt.{PartAt}
use Rattle.hv_job_acts.specs.Work.{parts_in}
use Rattle.hv_job_acts.specs.Going.{AddsItems}
use Rattle.hv_compact.specs.declared.compacting.Done.TheVariants as done
use Rattle.hv_compact.specs.Initiating.{asks_for, AreTurns}
use Rattle.hv_compact.specs.Compacting.{IsMarkOf, IsWroteOf, NotesOne, EndsBy}
use Rattle.hv_compact.specs.Alone.{AddsNothing, initiated_from, initiated, InitiatesAlone, CompactsAlone}
use Rattle.hv_compact.proofs.Ends.{all-wrote}

-- ---- fronts by length

pub front-length : {A : Type 0} (a b : List A) → IsFront a b → length a ≤ length b
front-length a b front = let count : length b ≡ length a + length front.more = ap length front.is ∙ length-append a front.more in omega (arith, count)

none-left : {A : Type 0} (xs : List A) → length xs ≤ 0 → xs ≡ []
none-left [] few = refl
none-left (x ∷ xs) few = absurd (omega (arith, few))

pub same-front : {A : Type 0} (a b : List A) → IsFront a b → length b ≤ length a → b ≡ a
same-front a b front few =
    let count : length b ≡ length a + length front.more = ap length front.is ∙ length-append a front.more in
    front.is ∙ ap (λ (xs : List _). a ++ xs) (none-left front.more (omega (arith, count, few))) ∙ append-nil a

-- ---- what others add is nothing

woven-nothing : (B : List TrailItem → Type 0) → AddsNothing B → (at : ℕ) (own : List (ℕ × TrailItem)) (added : List TrailItem) → Woven B at own added
    → Woven Nothing at own added
woven-nothing B none at [] added w = none added w
woven-nothing B none at (mine ∷ own) added w =
    (w.0, w.1, w.2, w.3, none w.0 w.4, woven-nothing B none (mine.0 + 1) own w.1 w.5)

pub alone-added : {D : Type 0} (faults : D → ℕ) (between : List TrailItem → Type 0) → AddsNothing between → (a b : Moment (ToldHouse D)) (items : List TrailItem)
    → AddsItems faults between a b items → trail_in b.house ≡ trail_in a.house ++ items
alone-added faults between none a b items adds =
    went-alone items a.own b.own (trail_in a.house) (trail_in b.house)
    (record {
      placed = adds.went.placed;
      items = adds.went.items;
      places = adds.went.places;
      added = adds.went.added;
      seen = adds.went.seen;
      woven = woven-nothing between none (length (trail_in a.house)) adds.went.placed adds.went.added adds.went.woven;
      goes_on = adds.went.goes_on;
    })

-- ---- turns

turns-length : (from to : List TrailItem) (parts : List PartAt) (items : List TrailItem) → AreTurns from parts items to
    → length from + length items ≤ length to
turns-length from to [] items turns =
    let none : length items ≡ 0 = ap length turns.0 in
    let up = front-length from to turns.1 in
    omega (arith, none, up)
turns-length from to (part ∷ parts) items turns =
    let asks = asks_for (book_of turns.0) part in
    let up = front-length from turns.0 turns.2 in
    let count : length items ≡ length asks + length turns.1 = ap length turns.3 ∙ length-append asks turns.1 in
    let more : length (turns.0 ++ asks) ≡ length turns.0 + length asks = length-append turns.0 asks in
    let rest = turns-length (turns.0 ++ asks) to parts turns.1 turns.4 in
    omega (arith, up, count, more, rest)

turns-alone : (from to : List TrailItem) (parts : List PartAt) (items : List TrailItem) → AreTurns from parts items to
    → length to ≤ length from + length items → book_of to ≡ initiated_from (book_of from) parts
turns-alone from to [] items turns few =
    let none : length items ≡ 0 = ap length turns.0 in
    ap book_of (same-front from to turns.1 (omega (arith, none, few)))
turns-alone from to (part ∷ parts) items turns few =
    let asks = asks_for (book_of turns.0) part in
    let count : length items ≡ length asks + length turns.1 = ap length turns.3 ∙ length-append asks turns.1 in
    let more : length (turns.0 ++ asks) ≡ length turns.0 + length asks = length-append turns.0 asks in
    let up = front-length from turns.0 turns.2 in
    let rest = turns-length (turns.0 ++ asks) to parts turns.1 turns.4 in
    let same : turns.0 ≡ from = same-front from turns.0 turns.2 (omega (arith, few, count, more, rest)) in
    turns-alone (turns.0 ++ asks) to parts turns.1 turns.4 (omega (arith, few, count, more, up))
    ∙ ap (λ (book : List Entry). initiated_from book parts) (book-append turns.0 asks)
    ∙ ap (λ (from_ : List TrailItem). initiated_from (book_of from_ ++ book_of (asks_for (book_of from_) part)) parts) same

-- so it is of turns among any of the partitions that the first hold found
pub turned-alone : {D : Type 0} (faults : D → ℕ) (between : List TrailItem → Type 0) → AddsNothing between → (before now : Moment (ToldHouse D))
    (first items : List TrailItem) (pick : List Entry → List PartAt) → IsFront (trail_in before.house) first → AddsItems faults between before now items
    → AreTurns first (pick (book_of first)) items (trail_in now.house)
    → book_in now.house ≡ initiated_from (book_in before.house) (pick (book_in before.house))
turned-alone faults between none before now first items pick later adds turns =
    let whole : trail_in now.house ≡ trail_in before.house ++ items = alone-added faults between none before now items adds in
    let long : length (trail_in now.house) ≡ length (trail_in before.house) + length items =
    ap length whole ∙ length-append (trail_in before.house) items in
    let up = front-length (trail_in before.house) first later in
    let rest = turns-length first (trail_in now.house) (pick (book_of first)) items turns in
    let same : first ≡ trail_in before.house = same-front (trail_in before.house) first later (omega (arith, long, rest)) in
    turns-alone first (trail_in now.house) (pick (book_of first)) items turns (omega (arith, long, up))
    ∙ ap (λ (from : List TrailItem). initiated_from (book_of from) (pick (book_of from))) same

pub initiates-alone : {D : Type 0} (told : D → Option Store) (faults : D → ℕ) (between : List TrailItem → Type 0)
    (meanwhile : ToldHouse D → ToldHouse D → Type 0) → AddsNothing between → InitiatesAlone told faults between meanwhile
initiates-alone told faults between meanwhile none before now count pass =
    let whole : trail_in now.house ≡ trail_in before.house ++ pass.items = alone-added faults between none before now pass.items pass.adds in
    let long : length (trail_in now.house) ≡ length (trail_in before.house) + length pass.items =
    ap length whole ∙ length-append (trail_in before.house) pass.items in
    let up = front-length (trail_in before.house) pass.first pass.later in
    let rest = turns-length pass.first (trail_in now.house) (parts_in (book_of pass.first)) pass.items pass.turns in
    let same : pass.first ≡ trail_in before.house = same-front (trail_in before.house) pass.first pass.later (omega (arith, long, rest)) in
    turns-alone pass.first (trail_in now.house) (parts_in (book_of pass.first)) pass.items pass.turns (omega (arith, long, up))
    ∙ ap (λ (first : List TrailItem). initiated (book_of first)) same

-- ---- a compaction

marks-none : (job : JobId) (items : List TrailItem) → AllByRecursion (IsMarkOf job) items → book_of items ≡ []
marks-none job [] all = refl
marks-none job (Noted event ∷ items) all = absurd all.0
marks-none job (Marked (Wrote by place) ∷ items) all = marks-none job items all.1
marks-none job (Marked (Went dir) ∷ items) all = absurd all.0
marks-none job (Marked (Broke by put count) ∷ items) all = marks-none job items all.1

abbrev job_picked : Entry → JobId
job_picked (entry.Picked job watermark) = job
job_picked event = record { 0 = 0 }

module _ {D : Type 0} (told : D → Option Store) (faults : D → ℕ) (between : List TrailItem → Type 0)
    (meanwhile : ToldHouse D → ToldHouse D → Type 0) (none : AddsNothing between) where
  -- an entry was noted behind just what stood
  noted-there : (a b : Moment (ToldHouse D)) (event : Entry) (Is : List Entry → Type 0)
      → NotesOne (among told faults between meanwhile) a b event Is → Is (book_in a.house) × (book_in b.house ≡ book_in a.house ++ event ∷ [])
  noted-there a b event Is one =
      let whole : trail_in b.house ≡ trail_in a.house ++ Noted event ∷ [] = alone-added faults between none a b (Noted event ∷ []) one.adds in
      let long : length (trail_in b.house) ≡ length (trail_in a.house) + 1 = ap length whole ∙ length-append (trail_in a.house) (Noted event ∷ []) in
      let last : length (trail_in b.house) ≡ length one.then_ + 1 = ap length one.last ∙ length-append one.then_ (Noted event ∷ []) in
      let same : one.then_ ≡ trail_in a.house = same-front (trail_in a.house) one.then_ one.later (omega (arith, long, last)) in
      (subst (λ (trail : List TrailItem). Is (book_of trail)) same one.was, ap book_of whole ∙ book-append (trail_in a.house) (Noted event ∷ []))

  marked-there : (job : JobId) (a b : Moment (ToldHouse D)) (marks : List TrailItem) → AddsItems faults between a b marks
      → AllByRecursion (IsMarkOf job) marks → book_in b.house ≡ book_in a.house
  marked-there job a b marks adds each =
      ap book_of (alone-added faults between none a b marks adds) ∙ book-append (trail_in a.house) marks
      ∙ ap (λ (more : List Entry). book_in a.house ++ more) (marks-none job marks each) ∙ append-nil (book_in a.house)

  pub record IsEndedAlone (a c : Moment (ToldHouse D)) (job : JobId) (event : Entry) (Is : List Entry → Type 0) : Type 0 where
    pub whole : book_in c.house ≡ book_in a.house ++ picking (book_in a.house) ∷ event ∷ []
    pub job_is : job ≡ record { 0 = number_in (to_pick (state_of (book_in a.house))) }
    pub was : Is (book_in a.house ++ picking (book_in a.house) ∷ [])

  pub ended-alone : (Marks : JobId → TrailItem → Type 0) → ((job : JobId) (items : List TrailItem) → AllByRecursion (Marks job) items
      → AllByRecursion (IsMarkOf job) items) → (a c : Moment (ToldHouse D)) (job : JobId) (event : Entry) (Is : List Entry → Type 0)
      → EndsBy (among told faults between meanwhile) a c Marks job event Is → IsEndedAlone a c job event Is
  ended-alone Marks are a c job event Is ends =
      let picks = noted-there a ends.mid (entry.Picked job ends.watermark) (λ book. picking book ≡ entry.Picked job ends.watermark) ends.picks in
      let mid : book_in ends.mid.house ≡ book_in a.house ++ picking (book_in a.house) ∷ [] =
      picks.1 ∙ ap (λ (e : Entry). book_in a.house ++ e ∷ []) (sym picks.0) in
      let left : book_in ends.left.house ≡ book_in ends.mid.house = marked-there job ends.mid ends.left ends.marks ends.adds (are job ends.marks ends.each) in
      let last = noted-there ends.left c event Is ends.ends in
      record {
        whole =
            last.1 ∙ ap (λ (book : List Entry). book ++ event ∷ []) (left ∙ mid)
            ∙ append_assoc (book_in a.house) (picking (book_in a.house) ∷ []) (event ∷ []);
        job_is = sym (ap job_picked picks.0);
        was = subst Is (left ∙ mid) last.0;
      }

  pub compacts-alone : CompactsAlone told faults between meanwhile
  compacts-alone before now done.Idle so =
      ap book_of (alone-added faults between none before now [] so.adds ∙ append-nil (trail_in before.house))
  compacts-alone before now done.Nothing so =
      let ended = ended-alone IsMarkOf (λ job items all. all) before now so.0 (entry.Empty so.0) _ so.1 in
      ended.whole ∙ ap (λ (j : JobId). book_in before.house ++ picking (book_in before.house) ∷ entry.Empty j ∷ []) ended.job_is
  compacts-alone before now (done.Published job mark) so =
      let ended = ended-alone IsWroteOf all-wrote before now job (entry.Published job so.low so.high mark) _ so.ends in
      ended.whole ∙ ap (λ (e : Entry). book_in before.house ++ picking (book_in before.house) ∷ e ∷ []) (sym ended.was)
  compacts-alone before now (done.GivenUp job why) so =
      (ended-alone IsMarkOf (λ j items all. all) before now job (entry.Failed job why) _ so).whole
