-- Where a statement's own Opened stands in a book that fits: behind what was seen before, and in front of the entry that ended it.
use Rattle.std.proofs.Common.{◌≡◌, ℕ, zero, suc, ◌+◌, ◌≤◌, ◌<◌, Bool, Option, Some, List, [], ◌∷◌, ◌++◌, length, refl, sym, ap, ◌∙◌, subst, append_assoc, arith}
use Rattle.std.specs.Prelude.{IsSomeAnd, slice_get}
use Rattle.hv_base.specs.declared.ids.Limits.{Limits}
use Rattle.hv_history.specs.declared.entry.Entry.{Entry}
use Rattle.hv_history.specs.declared.entry.Entry.TheVariants as entry
use Rattle.hv_history.specs.State.{State, after}
use Rattle.hv_history.specs.States.{numbered}
use Rattle.hv_history.specs.Legal.{AllFit, Fits}
use Rattle.hv_trail.specs.declared.trail.TrailItem.{TrailItem}
use Rattle.hv_trail.specs.declared.trail.TrailItem.TheVariants.{Noted, Marked}
use Rattle.hv_trail.specs.Trail.{book_of}
use Rattle.hv_trail.proofs.LastingLaws.{book-append}
use Rattle.hv_actor.specs.Acting.{Went, Woven, items_of}
use Rattle.hv_actor.proofs.Weaving.{length-append}
use Rattle.hv_session.specs.hv_beginning.specs.hv_steps.specs.Ending.{IsEndOf, HasEndedAt, HasReplied}
use Rattle.hv_stands.proofs.Answered.{answers-stay}
use Rattle.hv_saying.proofs.Owned.{opens_as, times_opened, times-append, none-again}

-- ---- own entries among all

-- an item stands there, behind these
record StandsIn (added : List TrailItem) (event : Entry) : Type 0 where
  pub front : List TrailItem
  pub rest : List TrailItem
  pub is : added ≡ front ++ Noted event ∷ rest

first-same : {A : Type 0} (x y : A) (xs ys : List A) → x ∷ xs ≡ y ∷ ys → x ≡ y
first-same x y xs ys e = cc

rest-same : {A : Type 0} (x y : A) (xs ys : List A) → x ∷ xs ≡ y ∷ ys → xs ≡ ys
rest-same x y xs ys e = cc

no-item : (event : Entry) (more : List Entry) → [] ≡ event ∷ more → ⊥
no-item event more e = let count = ap (λ (xs : List Entry). length xs) e in omega (arith, count)

-- the first entry of one's own
woven-by : (item : TrailItem) (own : List (ℕ × TrailItem)) (added others rest : List TrailItem) (event : Entry) (more : List Entry) → added ≡ others ++ item ∷ rest
    → (book_of (items_of own) ≡ event ∷ more → StandsIn rest event) → book_of (item ∷ items_of own) ≡ event ∷ more → StandsIn added event
woven-by (Noted mine) own added others rest event more stands behind is = record {
  front = others;
  rest = rest;
  is = stands ∙ ap (λ (e : Entry). others ++ Noted e ∷ rest) (first-same mine event (book_of (items_of own)) more is);
}
woven-by (Marked mark) own added others rest event more stands behind is =
    let next = behind is in
    record {
      front = others ++ Marked mark ∷ next.front;
      rest = next.rest;
      is = stands ∙ ap (λ (xs : List TrailItem). others ++ Marked mark ∷ xs) next.is
          ∙ sym (append_assoc others (Marked mark ∷ next.front) (Noted event ∷ next.rest));
    }

woven-first : (B : List TrailItem → Type 0) (at : ℕ) (own : List (ℕ × TrailItem)) (added : List TrailItem) (event : Entry) (more : List Entry) → Woven B at own added
    → book_of (items_of own) ≡ event ∷ more → StandsIn added event
woven-first B at [] added event more w is = absurd (no-item event more is)
woven-first B at (mine ∷ own) added event more w is =
    woven-by mine.1 own added w.0 w.1 event more w.2 (λ rest_is. woven-first B (mine.0 + 1) own w.1 event more w.5 rest_is) is

-- the entry stands there in a book, behind these
pub record StandsAt (low : ℕ) (book : List Entry) (event : Entry) : Type 0 where
  pub front : List Entry
  pub rest : List Entry
  pub is : book ≡ front ++ event ∷ rest
  pub behind : low ≤ length front

pub went-first : (B : List TrailItem → Type 0) (gained : List TrailItem) (own own' : List ℕ) (before now : List TrailItem) (more book : List Entry) (event : Entry)
    (others : List Entry) → Went B gained own own' before now → book_of gained ≡ event ∷ others → book ≡ book_of now ++ more
    → StandsAt (length (book_of before)) book event
went-first B gained own own' before now more book event others w mine is =
    let there = woven-first B (length before) w.placed w.added event others w.woven (ap book_of w.items ∙ mine) in
    let early = book_of before ++ book_of there.front in
    let all : book_of now ≡ early ++ event ∷ book_of there.rest =
    ap book_of w.seen ∙ book-append before w.added
    ∙ ap (λ (xs : List Entry). book_of before ++ xs) (ap book_of there.is ∙ book-append there.front (Noted event ∷ there.rest))
    ∙ sym (append_assoc (book_of before) (book_of there.front) (event ∷ book_of there.rest)) in
    let both = length-append (book_of before) (book_of there.front) in
    record {
      front = early;
      rest = book_of there.rest ++ more;
      is = is ∙ ap (λ (xs : List Entry). xs ++ more) all ∙ append_assoc early (event ∷ book_of there.rest) more;
      behind = omega (arith, both);
    }

pub get-at : (front rest : List Entry) (event : Entry) → slice_get (front ++ event ∷ rest) (length front) ≡ Some event
get-at [] rest event = refl
get-at (x ∷ front) rest event = get-at front rest event

-- ---- an end stands behind the Opened

numbered-there : {A : Type 0} (P : A → Type 0) (xs : List A) (n : ℕ) → IsSomeAnd (numbered xs n) P → n ≤ length xs
numbered-there P xs zero is = omega arith
numbered-there P [] (suc zero) is = absurd is
numbered-there P [] (suc (suc n)) is = absurd is
numbered-there P (x ∷ xs) (suc zero) is = omega arith
numbered-there P (x ∷ xs) (suc (suc n)) is = let rest = numbered-there P xs (suc n) is in omega (arith, rest)

end-there : (limits : Limits) (s : State) (event : Entry) (txn : ℕ) → IsEndOf txn event → Fits limits s event → txn ≤ length s.transactions
end-there limits s (entry.Commit other wrote) txn ends fits =
    let same : other.0 ≡ txn = ends in
    let there = numbered-there _ s.transactions other.0 fits in omega (arith, same, there)
end-there limits s (entry.Create other table) txn ends fits =
    let same : other.0 ≡ txn = ends in
    let there = numbered-there _ s.transactions other.0 fits in omega (arith, same, there)
end-there limits s (entry.Drop other table) txn ends fits =
    let same : other.0 ≡ txn = ends in
    let there = numbered-there _ s.transactions other.0 fits in omega (arith, same, there)
end-there limits s (entry.Abort other why) txn ends fits =
    let same : other.0 ≡ txn = ends in
    let there = numbered-there _ s.transactions other.0 fits in omega (arith, same, there)
end-there limits s event txn ends fits = absurd ends

-- it is opened in this book
is-opened : (txn : ℕ) (front rest : List Entry) (event : Entry) → opens_as txn event ≡ 1 → 1 ≤ times_opened txn (front ++ event ∷ rest)
is-opened txn front rest event opens = let both = times-append txn front (event ∷ rest) in omega (arith, both, opens)

pub end-behind : (limits : Limits) (s : State) (front front' rest rest' : List Entry) (event end : Entry) (txn : ℕ) → front ++ event ∷ rest ≡ front' ++ end ∷ rest'
    → AllFit limits s (front ++ event ∷ rest) → opens_as txn event ≡ 1 → IsEndOf txn end → length front < length front'
end-behind limits s front [] rest rest' event end txn same fit opens ends =
    let fits : AllFit limits s (end ∷ rest') = subst (λ (xs : List Entry). AllFit limits s xs) same fit in
    let none = none-again limits s (front ++ event ∷ rest) txn fit (end-there limits s end txn ends fits.0) in
    let some = is-opened txn front rest event opens in absurd (omega (arith, none, some))
end-behind limits s [] (y ∷ front') rest rest' event end txn same fit opens ends = omega arith
end-behind limits s (x ∷ front) (y ∷ front') rest rest' event end txn same fit opens ends =
    let less = end-behind limits (after s x) front front' rest rest' event end txn
    (rest-same x y (front ++ event ∷ rest) (front' ++ end ∷ rest') same) fit.1 opens ends in omega (arith, less)

-- ---- what was replied, in a longer book

pub ended-longer : (book more : List Entry) (txn : ℕ) (ended : Option ℕ) → HasEndedAt book txn ended → HasEndedAt (book ++ more) txn ended
ended-longer book more txn ended has = record {
  front = has.front;
  event = has.event;
  rest = has.rest ++ more;
  book_is = ap (λ (xs : List Entry). xs ++ more) has.book_is ∙ append_assoc has.front (has.event ∷ has.rest) more;
  ends = has.ends;
  place = has.place;
}

pub replied-longer : (book more : List Entry) (txn : ℕ) (text : List ℕ) (refused : Bool) (ended : Option ℕ) → HasReplied book txn text refused ended
    → HasReplied (book ++ more) txn text refused ended
replied-longer book more txn text refused ended has = record {
  answered = answers-stay book more txn text refused has.answered;
  ended_at = ended-longer book more txn ended has.ended_at;
}
