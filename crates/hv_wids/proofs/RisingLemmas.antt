-- A rising list of numbers, and how many of those between two bounds it has.
use Rattle.std.proofs.Common.{◌≡◌, ℕ, zero, suc, ◌+◌, ◌-◌, ◌<◌, ◌≤◌, ◌||◌, true, false, eqb, List, [], ◌∷◌, length, get_or, drop, ap, refl, ◌∙◌, inl, inr, subst, arith}
use Rattle.std.specs.List.{AllPairs}
use Rattle.std.proofs.lemmas.Bool.{ne_eqb, eq-eqb, or_from, or_left, or_right, cases_order, cases_lt}
use Rattle.std.proofs.lemmas.List.{get_or-drop, length-drop}
use Rattle.hv_wids.specs.Between.{has, IsCountBetween}

-- each number is above those before it, and the first is at least `low`
abbrev RisesFrom : ℕ → List ℕ → Type 0
RisesFrom low [] = Unit {0}
RisesFrom low (number ∷ numbers) = (low ≤ number) × RisesFrom (number + 1) numbers

rises_from : (low : ℕ) (numbers : List ℕ) → AllPairs (λ left right. left < right) numbers → ((place : ℕ) → place < length numbers → low ≤ get_or numbers place 0) → RisesFrom low numbers
rises_from low [] up above = tt
rises_from low (number ∷ numbers) up above = (
  above 0 (omega arith),
  rises_from (number + 1) numbers
      (λ i j d before within. up (suc i) (suc j) d (omega arith) (omega arith))
      (λ place within. omega (arith, up 0 (suc place) 0 (omega arith) (omega arith))),
)

-- the first `count` numbers are at most `last`, and the others above it
record IsFront (last count : ℕ) (numbers : List ℕ) : Type 0 where
  within : count ≤ length numbers
  front : (place : ℕ) → place < count → get_or numbers place 0 ≤ last
  behind : (place : ℕ) → count ≤ place → place < length numbers → last < get_or numbers place 0

IsFront-tail : (last count number : ℕ) (numbers : List ℕ) → IsFront last (suc count) (number ∷ numbers) → IsFront last count numbers
IsFront-tail last count number numbers front = record {
  within = omega (arith, front.within);
  front = λ place low. front.front (suc place) (omega arith);
  behind = λ place high within. front.behind (suc place) (omega arith) (omega arith);
}

IsFront-none : (last number : ℕ) (numbers : List ℕ) → IsFront last 0 (number ∷ numbers) → IsFront last 0 numbers
IsFront-none last number numbers front = record {
  within = omega arith;
  front = λ place low. absurd (omega arith);
  behind = λ place high within. front.behind (suc place) (omega arith) (omega arith);
}

has-differs : (head number : ℕ) (numbers : List ℕ) → (head ≡ number → ⊥) → has numbers number ≡ false → has (head ∷ numbers) number ≡ false
has-differs head number numbers differs rest = or_from (eqb head number) (has numbers number) (ne_eqb head number differs) rest

has-below : (low number : ℕ) (numbers : List ℕ) → RisesFrom low numbers → number < low → has numbers number ≡ false
has-below low number [] up below = refl
has-below low number (head ∷ numbers) up below =
    has-differs head number numbers (λ same. omega (arith, up.0))
    (has-below (head + 1) number numbers up.1 (omega (arith, up.0)))

has-none : (last number : ℕ) (numbers : List ℕ) → IsFront last 0 numbers → number ≤ last → has numbers number ≡ false
has-none last number [] front below = refl
has-none last number (head ∷ numbers) front below =
    has-differs head number numbers (λ same. omega (arith, front.behind 0 (omega arith) (omega arith)))
    (has-none last number numbers (IsFront-none last head numbers front) below)

-- no more rising numbers lie between two bounds than there are
room_for : (low last count : ℕ) (numbers : List ℕ) → RisesFrom low numbers → IsFront last count numbers → 0 < count → low + count ≤ last + 1
room_for low last zero numbers up front some = absurd (omega arith)
room_for low last (suc count) [] up front some = absurd (omega (arith, front.within))
room_for low last (suc zero) (head ∷ numbers) up front some = omega (arith, up.0, front.front 0 (omega arith))
room_for low last (suc (suc count)) (head ∷ numbers) up front some =
    omega (arith, up.0, room_for (head + 1) last (suc count) numbers up.1 (IsFront-tail last (suc count) head numbers front) (omega arith))

has-full : (low last count number : ℕ) (numbers : List ℕ) → RisesFrom low numbers → IsFront last count numbers → last < low + count → low ≤ number → number ≤ last → has numbers number ≡ true
has-full low last zero number numbers up front full at_least at_most = absurd (omega arith)
has-full low last (suc count) number [] up front full at_least at_most = absurd (omega (arith, front.within))
has-full low last (suc count) number (head ∷ numbers) up front full at_least at_most =
    elim (cases_order head number) [
      | inl same ↦ or_left (eqb head number) (has numbers number) (eq-eqb head number same)
      | inr other ↦ elim other [
        | inl below ↦
            or_right (eqb head number) (has numbers number)
            (has-full (head + 1) last count number numbers up.1 (IsFront-tail last count head numbers front) (omega (arith, up.0)) (omega arith) at_most)
        | inr above ↦ absurd (omega (arith, room_for head last (suc count) (head ∷ numbers) (omega arith, up.1) front (omega arith)))
      ]
    ]

has-room : (low last count : ℕ) (numbers : List ℕ) → RisesFrom low numbers → IsFront last count numbers → low + count ≤ last → (number : ℕ) × ((low ≤ number) × (number ≤ last) × (has numbers number ≡ false))
has-room low last zero numbers up front room = (low, (omega arith, omega arith, has-none last low numbers front (omega arith)))
has-room low last (suc count) [] up front room = absurd (omega (arith, front.within))
has-room low last (suc count) (head ∷ numbers) up front room =
    elim (cases_order low head) [
      | inl same ↦
          let rest = has-room (head + 1) last count numbers up.1 (IsFront-tail last count head numbers front) (omega arith) in (
            rest.0,
            (
              omega (arith, rest.1.0),
              rest.1.1,
              has-differs head rest.0 numbers (λ e. omega (arith, rest.1.0)) rest.1.2,
            ),
          )
      | inr other ↦ elim other [
        | inl below ↦ (low, (omega arith, omega arith, has-differs head low numbers (λ e. omega arith) (has-below (head + 1) low numbers up.1 (omega arith))))
        | inr above ↦ absurd (omega (arith, up.0))
      ]
    ]

has-some : (low last count : ℕ) (numbers : List ℕ) → RisesFrom low numbers → IsFront last count numbers → 0 < count → (number : ℕ) × ((low ≤ number) × (number ≤ last) × (has numbers number ≡ true))
has-some low last count [] up front some = absurd (omega (arith, front.within))
has-some low last count (head ∷ numbers) up front some =
    (head, (up.0, front.front 0 some, or_left (eqb head head) (has numbers head) (eq-eqb head head refl)))

IsCountBetween-front : (low last count : ℕ) (numbers : List ℕ) → RisesFrom low numbers → IsFront last count numbers → low ≤ last → IsCountBetween low last numbers count
IsCountBetween-front low last count numbers up front order = record {
  none = λ e number at_least at_most. has-none last number numbers (subst (λ n. IsFront last n numbers) e front) at_most;
  some = λ some. has-some low last count numbers up front some;
  full = λ full number at_least at_most. has-full low last count number numbers up front full at_least at_most;
  room = λ room. has-room low last count numbers up front room;
}

has-drop : (numbers : List ℕ) (from number : ℕ) → ((place : ℕ) → place < from → get_or numbers place 0 < number) → has numbers number ≡ has (drop from numbers) number
has-drop numbers zero number below = refl
has-drop [] (suc from) number below = refl
has-drop (head ∷ numbers) (suc from) number below =
    let differs : eqb head number ≡ false = ne_eqb head number (λ same. omega (arith, below 0 (omega arith))) in
    ap (λ test. test || has numbers number) differs ∙ has-drop numbers from number (λ place before. below (suc place) (omega arith))

-- of rising numbers, those from the first place on are at least `low`, and those before the second at most `last`
pub record AreBounds (low last : ℕ) (numbers : List ℕ) (from to : ℕ) : Type 0 where
  pub from_within : from ≤ length numbers
  pub to_within : to ≤ length numbers
  pub before : (place : ℕ) → place < from → get_or numbers place 0 < low
  pub at_least : (place : ℕ) → from ≤ place → place < length numbers → low ≤ get_or numbers place 0
  pub at_most : (place : ℕ) → place < to → get_or numbers place 0 ≤ last
  pub behind : (place : ℕ) → to ≤ place → place < length numbers → last < get_or numbers place 0

pub bounds_in_order : (low last from to : ℕ) (numbers : List ℕ) → AreBounds low last numbers from to → low ≤ last → from ≤ to
bounds_in_order low last from to numbers bounds order =
    elim (cases_lt to from) [
      | inl crossed ↦ absurd (omega (arith, bounds.before to crossed, bounds.behind to (omega arith) (omega (arith, bounds.from_within))))
      | inr ordered ↦ ordered
    ]

pub IsCountBetween-bounds : (low last from to : ℕ) (numbers : List ℕ) → AllPairs (λ left right. left < right) numbers → AreBounds low last numbers from to → low ≤ last → IsCountBetween low last numbers (to - from)
IsCountBetween-bounds low last from to numbers up bounds order =
    let ordered = bounds_in_order low last from to numbers bounds order in
    let rest = drop from numbers in
    let len : length rest ≡ length numbers - from = length-drop from numbers in
    let rises : RisesFrom low rest =
    rises_from low rest
    (λ i j d before within. let e = get_or-drop from numbers i d in let f = get_or-drop from numbers j d in
    omega (arith, up (from + i) (from + j) d (omega arith) (omega arith)))
    (λ place within. rw get_or-drop (bounds.at_least (from + place) (omega arith) (omega arith))) in
    let front : IsFront last (to - from) rest = record {
      within = omega (arith, bounds.to_within);
      front = λ place low'. rw get_or-drop (bounds.at_most (from + place) (omega arith));
      behind = λ place high within. rw get_or-drop (bounds.behind (from + place) (omega arith) (omega arith));
    } in
    let counted = IsCountBetween-front low last (to - from) rest rises front order in
    let same : (number : ℕ) → low ≤ number → has numbers number ≡ has rest number = λ number at_least.
    has-drop numbers from number (λ place before. omega (arith, bounds.before place before)) in
    record {
      none = λ e number at_least at_most. same number at_least ∙ counted.none e number at_least at_most;
      some = λ some. let found = counted.some some in
          (found.0, (found.1.0, found.1.1, same found.0 found.1.0 ∙ found.1.2));
      full = λ full number at_least at_most. same number at_least ∙ counted.full full number at_least at_most;
      room = λ room. let found = counted.room room in
          (found.0, (found.1.0, found.1.1, same found.0 found.1.0 ∙ found.1.2));
    }
