-- Rows of steps, put together.
use Rattle.std.proofs.Common.{◌≡◌, true, false, ℕ, zero, suc, ◌+◌, ◌-◌, ◌≤◌, ◌<◌, min, Some, List, [], ◌∷◌, ◌++◌, length, map, refl, sym, ap, ◌∙◌, subst, append_assoc, le_trans, arith, true≢false}
use Rattle.std.specs.Prelude.{Bool, slice_get}
use Rattle.std.specs.Option.{option_to_list}
use Rattle.std.proofs.lemmas.List.{append-nil}
use Rattle.hv_base.specs.Faults.{Rose}
use Rattle.hv_trail.specs.declared.trail.TrailItem.{TrailItem}
use Rattle.hv_trail.specs.Steps.{HouseSeen, Call, Outcome, gains}
use Rattle.hv_trail.specs.Own.{RiseWithin, items_at}
use Rattle.hv_trail.proofs.LastingLaws.{goes-on-front}
use Rattle.hv_trail.proofs.OwnLaws.{items-front}
use Rattle.hv_trail.proofs.StepLaws.{gains-few, two-at-most}
use Rattle.hv_actor.specs.Acting.{IsLater, Went, Woven, AreRows, Nothing, placed_from, places_of, items_of, numbers_from, own_alone, own_among}

pub length-append : {A : Type 0} (xs ys : List A) → length (xs ++ ys) ≡ length xs + length ys
length-append [] ys = omega arith
length-append (x ∷ xs) ys = omega (arith, length-append xs ys)

map-append : {A B : Type 0} (f : A → B) (xs ys : List A) → map f (xs ++ ys) ≡ map f xs ++ map f ys
map-append f [] ys = refl
map-append f (x ∷ xs) ys = ap (λ zs. f x ∷ zs) (map-append f xs ys)

-- ---- items at places

pub placed-items : (at : ℕ) (items : List TrailItem) → items_of (placed_from at items) ≡ items
placed-items at [] = refl
placed-items at (item ∷ items) = ap (λ more. item ∷ more) (placed-items (at + 1) items)

pub placed-places : (at : ℕ) (items : List TrailItem) → places_of (placed_from at items) ≡ numbers_from at (length items)
placed-places at [] = refl
placed-places at (item ∷ items) = ap (λ more. at ∷ more) (placed-places (at + 1) items)

pub numbers-more : (at count more : ℕ) → numbers_from at (count + more) ≡ numbers_from at count ++ numbers_from (at + count) more
numbers-more at zero more =
    let none : 0 + more ≡ more = omega arith
    in let same : at ≡ at + 0 = omega arith
    in ap (numbers_from at) none ∙ ap (λ n. numbers_from n more) same
numbers-more at (suc count) more =
    let one : suc count + more ≡ suc (count + more) = omega arith
    in let next : at + 1 + count ≡ at + suc count = omega arith
    in ap (numbers_from at) one ∙ ap (λ ns. at ∷ ns) (numbers-more (at + 1) count more) ∙ ap (λ n. at ∷ numbers_from (at + 1) count ++ numbers_from n more) next

-- ---- rows, one behind the other

-- what goes before more of others is woven alike
woven-before : (B : List TrailItem → Type 0) → ((xs ys : List TrailItem) → B xs → B ys → B (xs ++ ys)) → (at : ℕ) (others : List TrailItem)
    (own : List (ℕ × TrailItem)) (added : List TrailItem) → B others → Woven B (at + length others) own added → Woven B at own (others ++ added)
woven-before B more at others [] added b w = more others added b w
woven-before B more at others (x ∷ own) added b w = (
  others ++ w.0,
  w.1,
  ap (λ xs. others ++ xs) w.2 ∙ sym (append_assoc others w.0 (x.1 ∷ w.1)),
  w.3 ∙ omega (arith, length-append others w.0),
  more others w.0 b w.4,
  w.5,
)

pub woven-more : (B : List TrailItem → Type 0) → ((xs ys : List TrailItem) → B xs → B ys → B (xs ++ ys)) → (at : ℕ)
    (own : List (ℕ × TrailItem)) (added : List TrailItem) (own' : List (ℕ × TrailItem)) (added' : List TrailItem)
    → Woven B at own added → Woven B (at + length added) own' added' → Woven B at (own ++ own') (added ++ added')
woven-more B more at [] added own' added' v w = woven-before B more at added own' added' v w
woven-more B more at (x ∷ own) added own' added' v w =
    let count : length added ≡ length v.0 + length (x.1 ∷ v.1) = ap length v.2 ∙ length-append v.0 (x.1 ∷ v.1)
    in let next : at + length added ≡ x.0 + 1 + length v.1 = omega (arith, count, v.3)
    in (
      v.0,
      v.1 ++ added',
      ap (λ xs. xs ++ added') v.2 ∙ append_assoc v.0 (x.1 ∷ v.1) added',
      v.3,
      v.4,
      woven-more B more (x.0 + 1) own v.1 own' added' v.5 (subst (λ n. Woven B n own' added') next w),
    )

-- one's own items, without others
woven-own : (B : List TrailItem → Type 0) → B [] → (at : ℕ) (items : List TrailItem) → Woven B at (placed_from at items) items
woven-own B none at [] = none
woven-own B none at (item ∷ items) = ([], items, refl, omega arith, none, woven-own B none (at + 1) items)

-- with no others, what was added is one's own, from the first place on
woven-alone : (at : ℕ) (own : List (ℕ × TrailItem)) (added : List TrailItem) → Woven Nothing at own added → added ≡ items_of own
woven-alone at [] added w = w
woven-alone at (x ∷ own) added w =
    w.2 ∙ ap (λ xs. xs ++ x.1 ∷ w.1) w.4 ∙ ap (λ xs. x.1 ∷ xs) (woven-alone (x.0 + 1) own w.1 w.5)

places-alone : (at : ℕ) (own : List (ℕ × TrailItem)) (added : List TrailItem) → Woven Nothing at own added → places_of own ≡ numbers_from at (length (items_of own))
places-alone at [] added w = refl
places-alone at (x ∷ own) added w =
    let first : x.0 ≡ at = w.3 ∙ ap (λ xs. at + length xs) w.4 ∙ omega arith
    in ap (λ ns. x.0 ∷ ns) (places-alone (x.0 + 1) own w.1 w.5) ∙ ap (λ n. n ∷ numbers_from (n + 1) (length (items_of own))) first

-- ---- what several steps left

pub went-more : (B : List TrailItem → Type 0) → AreRows B → (gained gained' : List TrailItem) (own own' own'' : List ℕ) (a b c : List TrailItem)
    → Went B gained own own' a b → Went B gained' own' own'' b c → Went B (gained ++ gained') own own'' a c
went-more B rows gained gained' own own' own'' a b c v w =
    let whole : c ≡ a ++ (v.added ++ w.added) = w.seen ∙ ap (λ xs. xs ++ w.added) v.seen ∙ append_assoc a v.added w.added
    in let next : length b ≡ length a + length v.added = ap length v.seen ∙ length-append a v.added
    in record {
      placed = v.placed ++ w.placed;
      items = map-append (λ (mine : ℕ × TrailItem). mine.1) v.placed w.placed ∙ ap (λ xs. xs ++ items_of w.placed) v.items ∙ ap (λ xs. gained ++ xs) w.items;
      places = w.places ∙ ap (λ xs. xs ++ places_of w.placed) v.places ∙ append_assoc own (places_of v.placed) (places_of w.placed)
          ∙ ap (λ xs. own ++ xs) (sym (map-append (λ (mine : ℕ × TrailItem). mine.0) v.placed w.placed));
      added = v.added ++ w.added;
      seen = whole;
      woven = woven-more B rows.more (length a) v.placed v.added w.placed w.added v.woven (subst (λ n. Woven B n w.placed w.added) next w.woven);
      goes_on = goes-on-front a c (record { more = v.added ++ w.added; is = whole });
    }

pub went-alone : (gained : List TrailItem) (own own' : List ℕ) (a b : List TrailItem) → Went Nothing gained own own' a b → b ≡ a ++ gained
went-alone gained own own' a b w = w.seen ∙ ap (λ xs. a ++ xs) (woven-alone (length a) w.placed w.added w.woven ∙ w.items)

pub own-went-alone : (gained : List TrailItem) (own own' : List ℕ) (a b : List TrailItem) → Went Nothing gained own own' a b
    → own' ≡ own ++ numbers_from (length a) (length gained)
own-went-alone gained own own' a b w =
    w.places ∙ ap (λ xs. own ++ xs) (places-alone (length a) w.placed w.added w.woven ∙ ap (λ xs. numbers_from (length a) (length xs)) w.items)

-- ---- what one hold left

-- what a step adds is what its act adds
pub added-is : (house now : List TrailItem) (gained added : List TrailItem) → now ≡ house ++ gained → gained ≡ added → now ≡ house ++ added
added-is house now gained added adds same = adds ∙ ap (λ xs. house ++ xs) same

-- others' items stand behind what was seen, and what the step adds behind theirs
pub went-held : (B : List TrailItem → Type 0) → AreRows B → (seen house now gained others : List TrailItem) (own own' : List ℕ)
    → B others → house ≡ seen ++ others → now ≡ house ++ gained → own' ≡ own ++ numbers_from (length house) (length gained)
    → Went B gained own own' seen now
went-held B rows seen house now gained others own own' between goes_on adds mine =
    let whole : now ≡ seen ++ (others ++ gained) = adds ∙ ap (λ xs. xs ++ gained) goes_on ∙ append_assoc seen others gained
    in let next : length house ≡ length seen + length others = ap length goes_on ∙ length-append seen others
    in record {
      placed = placed_from (length house) gained;
      items = placed-items (length house) gained;
      places = mine ∙ ap (λ xs. own ++ xs) (sym (placed-places (length house) gained));
      added = others ++ gained;
      seen = whole;
      woven = woven-before B rows.more (length seen) others (placed_from (length house) gained) gained between
          (subst (λ n. Woven B n (placed_from (length house) gained) gained) next (woven-own B rows.none (length house) gained));
      goes_on = goes-on-front seen now (record { more = others ++ gained; is = whole });
    }

-- where no others came, what the step adds stands behind what was seen
pub went-itself : (B : List TrailItem → Type 0) → AreRows B → (seen now gained : List TrailItem) (own own' : List ℕ)
    → now ≡ seen ++ gained → own' ≡ own ++ numbers_from (length seen) (length gained) → Went B gained own own' seen now
went-itself B rows seen now gained own own' adds mine =
    went-held B rows seen seen now gained [] own own' rows.none (sym (append-nil seen)) adds mine

-- the places of one who acts alone go on
pub alone-more : {D : Type 0} (before now : HouseSeen D) (gained : List TrailItem) → before.opened ≤ length before.trail → now.opened ≡ before.opened
    → now.trail ≡ before.trail ++ gained → own_alone now ≡ own_alone before ++ numbers_from (length before.trail) (length gained)
alone-more before now gained within same adds =
    let count : length now.trail ≡ length before.trail + length gained = ap length adds ∙ length-append before.trail gained
    in let more : length now.trail - before.opened ≡ (length before.trail - before.opened) + length gained = omega (arith, count, within)
    in let at : before.opened + (length before.trail - before.opened) ≡ length before.trail = omega (arith, within)
    in ap (λ n. numbers_from n (length now.trail - n)) same
    ∙ ap (numbers_from before.opened) more
    ∙ numbers-more before.opened (length before.trail - before.opened) (length gained)
    ∙ ap (λ n. numbers_from before.opened (length before.trail - before.opened) ++ numbers_from n (length gained)) at

-- ---- houses go on

pub rose-from : (low mid high : ℕ) → low ≤ mid → Rose mid high → Rose low high
rose-from low mid high below rose = grind (arith, below, rose)

pub rose-upto : (low mid high : ℕ) → Rose low mid → mid ≤ high → Rose low high
rose-upto low mid high rose below = grind (arith, below, rose)

pub later-further : {D : Type 0} (faults : D → ℕ) (a b c : HouseSeen D) → IsLater faults a b → IsLater faults b c → IsLater faults a c
later-further faults a b c first next = record {
  added = first.added ++ next.added;
  trail = next.trail ∙ ap (λ xs. xs ++ next.added) first.trail ∙ append_assoc a.trail first.added next.added;
  rest = record {
    start = next.rest.start ∙ first.rest.start;
    opened = next.rest.opened ∙ first.rest.opened;
    limits = next.rest.limits ∙ first.rest.limits;
  };
  count = le_trans first.count next.count;
  closed = λ e. next.closed (first.closed e);
  starved = λ e. next.starved (first.starved e);
  rises = λ was is fed. by was is fed b.closed refl;
}
  where
    fed-there : (starves : Bool) → b.starved ≡ starves → c.starved ≡ false → b.starved ≡ false
    fed-there true e fed = absurd (true≢false (sym (next.starved e) ∙ fed))
    fed-there false e fed = e

    by : a.closed ≡ false → c.closed ≡ true → c.starved ≡ false → (shut : Bool) → b.closed ≡ shut → Rose (faults a.shelf) (faults c.shelf)
    by was is fed true e = rose-upto (faults a.shelf) (faults b.shelf) (faults c.shelf) (first.rises was e (fed-there b.starved refl fed)) next.count
    by was is fed false e = rose-from (faults a.shelf) (faults b.shelf) (faults c.shelf) first.count (next.rises e is fed)

-- ---- own places rise, and have the items

lower : (low next : ℕ) (places : List ℕ) (high : ℕ) → low ≤ next → RiseWithin next places high → RiseWithin low places high
lower low next [] high below rise = omega (arith, below, rise)
lower low next (place ∷ places) high below rise = (omega (arith, below, rise.0), rise.1)

rise-more : (low : ℕ) (places : List ℕ) (middle : ℕ) (more : List ℕ) (high : ℕ) → RiseWithin low places middle → RiseWithin middle more high
    → RiseWithin low (places ++ more) high
rise-more low [] middle more high first then_ = lower low middle more high first then_
rise-more low (place ∷ places) middle more high first then_ = (first.0, rise-more (place + 1) places middle more high first.1 then_)

woven-rise : (B : List TrailItem → Type 0) (at : ℕ) (own : List (ℕ × TrailItem)) (added : List TrailItem) → Woven B at own added
    → RiseWithin at (places_of own) (at + length added)
woven-rise B at [] added w = omega arith
woven-rise B at (x ∷ own) added w =
    let count : length added ≡ length w.0 + length (x.1 ∷ w.1) = ap length w.2 ∙ length-append w.0 (x.1 ∷ w.1)
    in let next : x.0 + 1 + length w.1 ≡ at + length added = omega (arith, count, w.3)
    in (omega (arith, w.3), subst (RiseWithin (x.0 + 1) (places_of own)) next (woven-rise B (x.0 + 1) own w.1 w.5))

pub own-rises : (B : List TrailItem → Type 0) (gained : List TrailItem) (own own' : List ℕ) (before now : List TrailItem)
    → Went B gained own own' before now → RiseWithin 0 own (length before) → RiseWithin 0 own' (length now)
own-rises B gained own own' before now w rise =
    let count : length before + length w.added ≡ length now = sym (ap length w.seen ∙ length-append before w.added)
    in subst (λ ps. RiseWithin 0 ps (length now)) (sym w.places)
    (rise-more 0 own (length before) (places_of w.placed) (length now) rise
    (subst (RiseWithin (length before) (places_of w.placed)) count (woven-rise B (length before) w.placed w.added w.woven)))

get-behind : (xs : List TrailItem) (x : TrailItem) (ys : List TrailItem) (n : ℕ) → n ≡ length xs → slice_get (xs ++ x ∷ ys) n ≡ Some x
get-behind [] x ys zero e = refl
get-behind [] x ys (suc n) e = absurd (omega (arith, e))
get-behind (y ∷ xs) x ys zero e = absurd (omega (arith, e))
get-behind (y ∷ xs) x ys (suc n) e = get-behind xs x ys n (omega (arith, e))

-- the items at the places that were gained are those that were
woven-items : (B : List TrailItem → Type 0) (front : List TrailItem) (own : List (ℕ × TrailItem)) (added : List TrailItem) → Woven B (length front) own added
    → items_at (places_of own) (front ++ added) ≡ items_of own
woven-items B front [] added w = refl
woven-items B front (x ∷ own) added w =
    let whole : front ++ added ≡ (front ++ w.0) ++ x.1 ∷ w.1 = ap (λ xs. front ++ xs) w.2 ∙ sym (append_assoc front w.0 (x.1 ∷ w.1))
    in let here : x.0 ≡ length (front ++ w.0) = w.3 ∙ sym (length-append front w.0)
    in let longer : front ++ added ≡ ((front ++ w.0) ++ x.1 ∷ []) ++ w.1 = whole ∙ sym (append_assoc (front ++ w.0) (x.1 ∷ []) w.1)
    in let behind : x.0 + 1 ≡ length ((front ++ w.0) ++ x.1 ∷ []) = omega (arith, here, length-append (front ++ w.0) (x.1 ∷ []))
    in ap (λ o. option_to_list o ++ items_at (places_of own) (front ++ added)) (ap (λ xs. slice_get xs x.0) whole ∙ get-behind (front ++ w.0) x.1 w.1 x.0 here)
    ∙ ap (λ xs. x.1 ∷ items_at (places_of own) xs) longer
    ∙ ap (λ xs. x.1 ∷ xs) (woven-items B ((front ++ w.0) ++ x.1 ∷ []) own w.1 (subst (λ n. Woven B n own w.1) behind w.5))

items-more : (places more : List ℕ) (trail : List TrailItem) → items_at (places ++ more) trail ≡ items_at places trail ++ items_at more trail
items-more [] more trail = refl
items-more (place ∷ places) more trail =
    ap (λ xs. option_to_list (slice_get trail place) ++ xs) (items-more places more trail)
    ∙ sym (append_assoc (option_to_list (slice_get trail place)) (items_at places trail) (items_at more trail))

pub own-items : (B : List TrailItem → Type 0) (gained : List TrailItem) (own own' : List ℕ) (before now : List TrailItem)
    → Went B gained own own' before now → RiseWithin 0 own (length before) → items_at own' now ≡ items_at own before ++ gained
own-items B gained own own' before now w rise =
    ap (λ ps. items_at ps now) w.places ∙ ap (items_at (own ++ places_of w.placed)) w.seen
    ∙ items-more own (places_of w.placed) (before ++ w.added)
    ∙ ap (λ xs. xs ++ items_at (places_of w.placed) (before ++ w.added)) (items-front 0 own before w.added rise)
    ∙ ap (λ xs. items_at own before ++ xs) (woven-items B before w.placed w.added w.woven ∙ w.items)

-- ---- the places of one among others

-- where its last places begin may as well be where the trail ends, if they began behind it
pub settled : (since end : ℕ) → numbers_from (min since end) (end - min since end) ≡ numbers_from since (end - since)
settled since end = cases (end - since) refl
  where
    cases : (k : ℕ) → end - since ≡ k → numbers_from (min since end) (end - min since end) ≡ numbers_from since (end - since)
    cases zero e =
        let none : end - min since end ≡ 0 = omega (arith, e)
        in ap (numbers_from (min since end)) none ∙ ap (numbers_from since) (sym e)
    cases (suc k) e =
        let same : min since end ≡ since = omega (arith, e)
        in ap (λ n. numbers_from n (end - n)) same

pub kept-none : (at now : ℕ) → at ≤ now → (at < now → ⊥) → numbers_from at (now - at) ≡ []
kept-none at now least not =
    let none : now - at ≡ zero = omega (arith, least, not)
    in ap (numbers_from at) none

-- a step adds two items at most
pub two-more : (call : Call) (outcome : Outcome) (at end : ℕ) (house now : List TrailItem) → at ≡ length house → end ≡ length now
    → now ≡ house ++ gains call outcome → end ≤ at + 2
two-more call outcome at end house now from to adds =
    omega (arith, from, to, ap length adds, length-append house (gains call outcome), gains-few call outcome, two-at-most call)

-- a step behind others: its places are kept
pub kept-more : (early early' : List ℕ) (since at end : ℕ) (old house now gained : List TrailItem) → since ≡ length old → at ≡ length house → end ≡ length now
    → now ≡ house ++ gained → early' ≡ early ++ numbers_from at (end - at)
    → own_among early' end now ≡ own_among early since old ++ numbers_from (length house) (length gained)
kept-more early early' since at end old house now gained fresh from to adds kept =
    let none : length now - end ≡ 0 = omega (arith, to)
    in let nothing : length old - since ≡ 0 = omega (arith, fresh)
    in let count : end - length house ≡ length gained = omega (arith, to, ap length adds ∙ length-append house gained)
    in ap (λ n. early' ++ numbers_from end n) none ∙ append-nil early' ∙ kept
    ∙ ap (λ n. early ++ numbers_from n (end - n)) from
    ∙ ap (λ n. early ++ numbers_from (length house) n) count
    ∙ sym (ap (λ xs. xs ++ numbers_from (length house) (length gained)) (ap (λ n. early ++ numbers_from since n) nothing ∙ append-nil early))

-- a step of its own behind its last places
pub undisturbed-more : (early : List ℕ) (since : ℕ) (old now gained : List TrailItem) → since ≤ length old → now ≡ old ++ gained
    → own_among early since now ≡ own_among early since old ++ numbers_from (length old) (length gained)
undisturbed-more early since old now gained within adds =
    let count : length now ≡ length old + length gained = ap length adds ∙ length-append old gained
    in let more : length now - since ≡ (length old - since) + length gained = omega (arith, count, within)
    in let at : since + (length old - since) ≡ length old = omega (arith, within)
    in ap (λ n. early ++ numbers_from since n) more ∙ ap (λ places. early ++ places) (numbers-more since (length old - since) (length gained))
    ∙ sym (append_assoc early (numbers_from since (length old - since)) (numbers_from (since + (length old - since)) (length gained)))
    ∙ ap (λ n. own_among early since old ++ numbers_from n (length gained)) at
