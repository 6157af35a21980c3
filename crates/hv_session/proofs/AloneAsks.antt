-- Where others do nothing, the aborts that a statement asks for come in the order of its way, and it is under way behind them: each was the first that
-- was left where it was noted, and it stands once in a book that fits, so it was noted just there.
use Rattle.std.proofs.Common.{◌≡◌, ◌⊎◌, inl, inr, ℕ, Option, Some, None, List, [], ◌∷◌, ◌++◌, length, take, true, refl, sym, ap, ◌∙◌, subst, append-nil, append_assoc}
use Rattle.std.specs.Prelude.{IsSomeAnd}
use Rattle.std.specs.List.{AllByRecursion}
use Rattle.hv_ast.specs.declared.statement.Stmt.{Stmt}
use Rattle.hv_logic.specs.declared.meaning.Meaning.{Meaning}
use Rattle.hv_logic.specs.declared.meaning.Meaning.TheVariants.{Plain}
use Rattle.hv_history.specs.declared.entry.Entry.{Entry}
use Rattle.hv_history.specs.declared.entry.Cause.TheVariants as cause
use Rattle.hv_history.specs.declared.state.Transaction.{Transaction}
use Rattle.hv_history.specs.Asking.{numbers_in, is_there_open, first_asked}
use Rattle.hv_history.specs.Lasting.{IsFront}
use Rattle.hv_history.specs.State.{State, nothing_yet, numbered, state_of}
use Rattle.hv_history.specs.Legal.{Of, AllFit, Fits, CauseFits, profile}
use Rattle.hv_history.proofs.AskingLaws.{first-open, asks-plain}
use Rattle.hv_stands.specs.Running.{Asking, IsNotOf, meant, snapshot_at, running, IsUnderWay}
use Rattle.hv_stands.proofs.Behind.{one-behind}
use Rattle.hv_stands.proofs.Numbers.{one_value}
use Rattle.hv_stands.proofs.Others.{others-leave-it}
use Rattle.hv_trail.specs.declared.trail.TrailItem.{TrailItem}
use Rattle.hv_trail.specs.declared.trail.TrailItem.TheVariants.{Noted}
use Rattle.hv_trail.specs.Trail.{book_of}
use Rattle.hv_trail.proofs.LastingLaws.{book-append}
use Rattle.hv_law_next.specs.Order.{AsksInOrder, CauseInOrder, IsInOrder, AllInOrder}
use Rattle.hv_beginning.specs.hv_steps.specs.Ending.{asking_for, IsUndamaged, IsAskedBy}
use Rattle.hv_beginning.specs.hv_steps.specs.Requests.{first_left, IsAskOf}
use Rattle.hv_beginning.specs.hv_steps.proofs.Books.{fit-behind}
use Rattle.hv_session.proofs.AloneEnds.{IsOpenOne, IsEndedHere, end-ends, ended-stays, of-one}

-- ---- one book that is split in two ways

split-two : (xs ys us vs : List Entry) (a b : Entry) → xs ++ a ∷ us ≡ ys ++ b ∷ vs
    → (xs ≡ ys) ⊎ (((m : List Entry) × (ys ≡ xs ++ a ∷ m)) ⊎ ((m : List Entry) × (xs ≡ ys ++ b ∷ m)))
split-two [] [] us vs a b e = inl refl
split-two [] (y ∷ ys) us vs a b e = let is : y ≡ a = cc in inr (inl (ys, ap (λ (z : Entry). z ∷ ys) is))
split-two (x ∷ xs) [] us vs a b e = let is : x ≡ b = cc in inr (inr (xs, ap (λ (z : Entry). z ∷ xs) is))
split-two (x ∷ xs) (y ∷ ys) us vs a b e =
    let same : x ≡ y = cc in
    let tails : xs ++ a ∷ us ≡ ys ++ b ∷ vs = cc in
    by same (split-two xs ys us vs a b tails)
  where
    by : x ≡ y → (xs ≡ ys) ⊎ (((m : List Entry) × (ys ≡ xs ++ a ∷ m)) ⊎ ((m : List Entry) × (xs ≡ ys ++ b ∷ m)))
        → (x ∷ xs ≡ y ∷ ys) ⊎ (((m : List Entry) × (y ∷ ys ≡ x ∷ (xs ++ a ∷ m))) ⊎ ((m : List Entry) × (x ∷ xs ≡ y ∷ (ys ++ b ∷ m))))
    by same (inl is) = inl (ap (λ (z : Entry). z ∷ xs) same ∙ ap (λ (zs : List Entry). y ∷ zs) is)
    by same (inr (inl is)) = inr (inl (is.0, ap (λ (z : Entry). z ∷ ys) (sym same) ∙ ap (λ (zs : List Entry). x ∷ zs) is.1))
    by same (inr (inr is)) = inr (inr (is.0, ap (λ (z : Entry). z ∷ xs) same ∙ ap (λ (zs : List Entry). y ∷ zs) is.1))

-- ---- whose abort is asked for is open

as-of : (P Q : Transaction → Type 0) → ((t : Transaction) → P t → Q t) → (o : Option Transaction) → IsSomeAnd o P → IsSomeAnd o Q
as-of P Q f None is = is
as-of P Q f (Some t) is = f t is

there-open : (o : Option Transaction) → is_there_open o ≡ true → IsSomeAnd o IsOpenOne
there-open None h = cc
there-open (Some t) h = h

asked-open : (s : State) (txn other : ℕ) → Fits profile s (asking_for txn other) → Of s other IsOpenOne
asked-open s txn other fits =
    as-of (CauseFits profile s other (cause.Request (record { 0 = txn }))) IsOpenOne (λ t fit. fit.unended) (numbered s.transactions other) fits

-- an abort stands in front of itself in no book that fits: who was aborted is open no more
once : (front more : List Entry) (txn other : ℕ) → Fits profile (state_of front) (asking_for txn other)
    → Of (state_of (front ++ asking_for txn other ∷ more)) other IsOpenOne → ⊥
once front more txn other fits open_ =
    let event : Entry = asking_for txn other in
    let has : IsEndedHere (front ++ event ∷ []) other = end-ends front event other refl fits in
    ended-stays (front ++ event ∷ []) more other has
    (subst (λ (b : List Entry). Of (state_of b) other IsOpenOne) (sym (append_assoc front (event ∷ []) more)) open_)

-- ---- what stands behind those that it asks for

pub record AsksStand (asking : Asking) (txn place : ℕ) (said : Stmt) (front asks : List Entry) : Type 0 where
  pub in_order : AllInOrder (state_of front) asks
  pub under_way : IsUnderWay (front ++ asks) asking txn place said []

-- ---- one that it asks for

module _ (trail : List TrailItem) (fit : AllFit profile nothing_yet (book_of trail)) (asking : Asking) (txn place : ℕ) (said : Stmt) where
  fits-at : (front rest : List Entry) (event : Entry) → book_of trail ≡ front ++ event ∷ rest → Fits profile (state_of front) event
  fits-at front rest event is = (fit-behind nothing_yet front (event ∷ rest) (subst (AllFit profile nothing_yet) is fit)).0

  -- it was noted just there
  noted-there : (front rest : List Entry) (other : ℕ) (then_ : List TrailItem) → book_of trail ≡ front ++ asking_for txn other ∷ rest
      → IsFront (then_ ++ Noted (asking_for txn other) ∷ []) trail → first_left then_ txn place (numbers_in (Some said)) ≡ Some other
      → book_of then_ ≡ front
  noted-there front rest other then_ is at first =
      let event : Entry = asking_for txn other in
      let books : book_of trail ≡ book_of then_ ++ event ∷ book_of at.more =
      ap book_of at.is ∙ book-append (then_ ++ Noted event ∷ []) at.more
      ∙ ap (λ (b : List Entry). b ++ book_of at.more) (book-append then_ (Noted event ∷ []))
      ∙ append_assoc (book_of then_) (event ∷ []) (book_of at.more) in
      by books (split-two (book_of then_) front (book_of at.more) rest event event (sym books ∙ is))
    where
      by : book_of trail ≡ book_of then_ ++ asking_for txn other ∷ book_of at.more
          → (book_of then_ ≡ front) ⊎ (((m : List Entry) × (front ≡ book_of then_ ++ asking_for txn other ∷ m))
          ⊎ ((m : List Entry) × (book_of then_ ≡ front ++ asking_for txn other ∷ m)))
          → book_of then_ ≡ front
      by books (inl same) = same
      by books (inr (inl later)) =
          absurd (once (book_of then_) later.0 txn other (fits-at (book_of then_) (book_of at.more) (asking_for txn other) books)
          (subst (λ (b : List Entry). Of (state_of b) other IsOpenOne) later.1
          (asked-open (state_of front) txn other (fits-at front rest (asking_for txn other) is))))
      by books (inr (inr earlier)) =
          absurd (once front earlier.0 txn other (fits-at front rest (asking_for txn other) is)
          (subst (λ (b : List Entry). Of (state_of b) other IsOpenOne) earlier.1
          (there-open (numbered (state_of (book_of then_)).transactions other)
          (first-open (state_of (book_of then_)).transactions txn (length (state_of (take place (book_of then_))).transactions) (numbers_in (Some said)) other first))))

  -- so it comes in the order of its way
  one-ask : (front rest : List Entry) (other : ℕ) (then_ : List TrailItem) → book_of trail ≡ front ++ asking_for txn other ∷ rest
      → IsFront (then_ ++ Noted (asking_for txn other) ∷ []) trail → first_left then_ txn place (numbers_in (Some said)) ≡ Some other
      → IsUnderWay front asking txn place said [] → IsInOrder (state_of front) (asking_for txn other)
  one-ask front rest other then_ is at first under =
      let left : first_asked (state_of front).transactions txn (length (state_of (take place front)).transactions) (numbers_in (Some said)) ≡ Some other =
      subst (λ (b : List Entry). first_asked (state_of b).transactions txn (length (state_of (take place b)).transactions) (numbers_in (Some said)) ≡ Some other)
      (noted-there front rest other then_ is at first) first in
      let asker : Transaction = running asking (meant (take place front) said) (snapshot_at front place) [] in
      let plain : meant (take place front) said ≡ Some Plain =
      asks-plain (state_of (take place front)) said (state_of front).transactions txn (length (state_of (take place front)).transactions) other left in
      let so : AsksInOrder (state_of front) other txn asker = record {
        plain = plain;
        first = ap (λ (tree : Option Stmt). first_asked (state_of front).transactions txn (length (state_of (take place front)).transactions) (numbers_in tree)) under.runs.read
            ∙ left;
      } in
      let in_order : Of (state_of front) txn (AsksInOrder (state_of front) other txn) =
      of-one (AsksInOrder (state_of front) other txn) (state_of front) txn asker under.here so in
      as-of (CauseFits profile (state_of front) other (cause.Request (record { 0 = txn }))) (CauseInOrder (state_of front) other (cause.Request (record { 0 = txn })))
      (λ t fit_. in_order) (numbered (state_of front).transactions other) (fits-at front rest (asking_for txn other) is)

  not-of-it : (other : ℕ) → (other ≡ txn → ⊥) → IsNotOf txn (asking_for txn other)
  not-of-it other apart e = apart (one_value other txn e)

  -- it is under way behind that
  under-behind : (front : List Entry) (event : Entry) → IsAskOf trail txn place (numbers_in (Some said)) event → IsUnderWay front asking txn place said []
      → IsUnderWay (front ++ event ∷ []) asking txn place said []
  under-behind front event ask under =
      others-leave-it front (event ∷ []) asking txn place said [] (subst (IsNotOf txn) (sym ask.event_is) (not-of-it ask.other ask.apart), tt) under

  ask-in-order : (front rest : List Entry) (event : Entry) → IsAskOf trail txn place (numbers_in (Some said)) event → book_of trail ≡ front ++ event ∷ rest
      → IsUnderWay front asking txn place said [] → IsInOrder (state_of front) event
  ask-in-order front rest event ask is under =
      subst (IsInOrder (state_of front)) (sym ask.event_is)
      (one-ask front rest ask.other ask.then_ (is ∙ ap (λ (e : Entry). front ++ e ∷ rest) ask.event_is)
      (subst (λ (e : Entry). IsFront (ask.then_ ++ Noted e ∷ []) trail) ask.event_is ask.front) ask.first under)

  -- ---- all of them

  pub asks-stand : (asks front rest : List Entry) → book_of trail ≡ front ++ (asks ++ rest) → IsUnderWay front asking txn place said []
      → AllByRecursion (IsAskOf trail txn place (numbers_in (Some said))) asks → AsksStand asking txn place said front asks
  asks-stand [] front rest is under all =
      record { in_order = tt; under_way = subst (λ (b : List Entry). IsUnderWay b asking txn place said []) (sym (append-nil front)) under }
  asks-stand (event ∷ asks) front rest is under all =
      let later : AsksStand asking txn place said (front ++ event ∷ []) asks =
      asks-stand asks (front ++ event ∷ []) rest (is ∙ sym (append_assoc front (event ∷ []) (asks ++ rest))) (under-behind front event all.0 under) all.1 in
      record {
        in_order = (
          ask-in-order front (asks ++ rest) event all.0 is under,
          subst (λ (s : State). AllInOrder s asks) (one-behind front event) later.in_order,
        );
        under_way = subst (λ (b : List Entry). IsUnderWay b asking txn place said []) (append_assoc front (event ∷ []) asks) later.under_way;
      }

-- ---- none of them says that a file is damaged, or asks for a write id

pub ask-undamaged : (trail : List TrailItem) (txn place : ℕ) (numbers : List ℕ) (event : Entry) → IsAskOf trail txn place numbers event → IsUndamaged event
ask-undamaged trail txn place numbers event ask = subst IsUndamaged (sym ask.event_is) tt

pub ask-asked : (trail : List TrailItem) (txn place : ℕ) (numbers : List ℕ) (meaning : Meaning) (event : Entry) → IsAskOf trail txn place numbers event
    → IsAskedBy meaning event
ask-asked trail txn place numbers meaning event ask = subst (IsAskedBy meaning) (sym ask.event_is) tt

pub asks-undamaged : (trail : List TrailItem) (txn place : ℕ) (numbers : List ℕ) (asks : List Entry) → AllByRecursion (IsAskOf trail txn place numbers) asks
    → AllByRecursion IsUndamaged asks
asks-undamaged trail txn place numbers [] all = tt
asks-undamaged trail txn place numbers (event ∷ asks) all =
    (ask-undamaged trail txn place numbers event all.0, asks-undamaged trail txn place numbers asks all.1)

pub asks-asked : (trail : List TrailItem) (txn place : ℕ) (numbers : List ℕ) (meaning : Meaning) (asks : List Entry)
    → AllByRecursion (IsAskOf trail txn place numbers) asks → AllByRecursion (IsAskedBy meaning) asks
asks-asked trail txn place numbers meaning [] all = tt
asks-asked trail txn place numbers meaning (event ∷ asks) all =
    (ask-asked trail txn place numbers meaning event all.0, asks-asked trail txn place numbers meaning asks all.1)
