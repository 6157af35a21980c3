-- A held statement stays what it is while others go on: it is under way, and what it comes to can be ended; or another statement asks for its
-- abort, and it was stopped from then on.
use Rattle.std.proofs.Common.{◌≡◌, ◌⊎◌, ℕ, ◌<◌, ◌≤◌, ◌==◌, Bool, true, false, Option, Some, None, List, [], ◌∷◌, ◌++◌, length, take, refl, sym, ap, ◌∙◌, subst, arith, inl, inr, append-nil, append_assoc, eq-eqb}
use Rattle.std.specs.Prelude.{IsSomeAnd}
use Rattle.std.specs.List.{AllByRecursion}
use Rattle.std.proofs.lemmas.Bool.{eqb-true}
use Rattle.std.proofs.lemmas.List.{take-append-le}
use Rattle.std.proofs.lemmas.List.Sums.{fold-append}
use Rattle.hv_base.specs.declared.ids.TxnId.{TxnId}
use Rattle.hv_logic.specs.declared.meaning.Meaning.{Meaning}
use Rattle.hv_logic.specs.declared.meaning.Meaning.TheVariants.{Change, Ask, Twice}
use Rattle.hv_history.specs.declared.entry.Entry.{Entry}
use Rattle.hv_history.specs.declared.entry.Entry.TheVariants as entry
use Rattle.hv_history.specs.declared.entry.Cause.{Cause}
use Rattle.hv_history.specs.declared.entry.Cause.TheVariants as cause
use Rattle.hv_history.specs.declared.state.Ending.{Ending}
use Rattle.hv_history.specs.declared.state.Ending.TheVariants.{Aborted}
use Rattle.hv_history.specs.declared.state.Transaction.{Transaction}
use Rattle.hv_history.specs.Asking.{opened_before}
use Rattle.hv_history.specs.JobsTrue.{Ask as AskedFor, stands_for}
use Rattle.hv_history.specs.Lasting.{GoesOn, Later}
use Rattle.hv_history.specs.State.{State, nothing_yet, numbered, meaning, ended, after, state_of}
use Rattle.hv_history.specs.Legal.{AllFit, HasAsked, place_of_snapshot, profile}
use Rattle.hv_history.proofs.AskingLaws.{opened-within, has-asked-stays}
use Rattle.hv_history.proofs.JobsStay.{stands-on}
use Rattle.hv_history.proofs.LastingLaws.{goes-on-all}
use Rattle.hv_stands.specs.Running.{Asking, AreOf, AreNotOf, IsOf, IsNotOf, meant}
use Rattle.hv_stands.specs.Statements.{AllFitting}
use Rattle.hv_stands.proofs.Behind.{entries-are, aborted-there, numbered-behind}
use Rattle.hv_stands.proofs.Numbers.{numbered-within}
use Rattle.hv_stands.proofs.Others.{others-leave, others-leave-it}
use Rattle.hv_session.specs.hv_beginning.specs.hv_steps.specs.declared.ready.End.{End}
use Rattle.hv_session.specs.hv_beginning.specs.hv_steps.specs.declared.ready.End.TheVariants as end
use Rattle.hv_session.specs.hv_beginning.specs.hv_steps.specs.Ending.{CanEnd, IsOfChange, EndCanBeNoted, asking_for}
use Rattle.hv_session.specs.hv_beginning.specs.hv_steps.proofs.Standing.{change-stays}
use Rattle.hv_session.specs.declared.paused.Point.{Point}
use Rattle.hv_session.specs.declared.paused.Point.TheVariants as point
use Rattle.hv_session.specs.declared.paused.Paused.{Paused}
use Rattle.hv_session.specs.Taking.{CanEndAt, IsHeld, IsHeldBySome, PointIsTrue, IsTrulyHeld, HasAskedAtPoint, WasStopped}
use Rattle.hv_program.specs.declared.held.Held.{Held}
use Rattle.hv_program.specs.Keeping.{IsHeldIn, IsTrulyHeldIn}
use Rattle.hv_program.proofs.HeldLists.{IsApart}

-- ---- entries that another transaction makes

same-some : (a b : ℕ) → Some a ≡ Some b → a ≡ b
same-some a b e = cc

-- an abort that it asks for is about this one, or about another
ask-about : (a b : ℕ) (txn by_ : TxnId) (same : Bool) → (txn.0 == b) ≡ same → by_.0 ≡ a
    → IsNotOf b (entry.Abort txn (cause.Request by_)) ⊎ (entry.Abort txn (cause.Request by_) ≡ asking_for a b)
ask-about a b txn by_ true is own =
    let about : txn.0 ≡ b = eqb-true txn.0 b is in
    inr (λ i. entry.Abort (record { 0 = about i }) (cause.Request (record { 0 = own i })))
ask-about a b txn by_ false is own = inl (λ of_b. not-same (same-some txn.0 b of_b))
  where
    not-same : txn.0 ≡ b → ⊥
    not-same e = let wrong : true ≡ false = sym (eq-eqb txn.0 b e) ∙ is in cc

-- an entry that a transaction makes is not about another one, or asks for its abort
one-about : (a b : ℕ) → (a ≡ b → ⊥) → (event : Entry) → IsOf a event → IsNotOf b event ⊎ (event ≡ asking_for a b)
one-about a b apart (entry.Abort txn (cause.Request by_)) of_a = ask-about a b txn by_ (txn.0 == b) refl (same-some by_.0 a of_a)
one-about a b apart (entry.Abort txn why) of_a = inl (λ of_b. apart (same-some a b (sym of_a ∙ of_b)))
one-about a b apart (entry.Asked job table partition kind by_) of_a = inl (λ of_b. let never : None ≡ Some b = of_b in cc)
one-about a b apart event of_a = inl (λ of_b. apart (same-some a b (sym of_a ∙ of_b)))

-- ---- what it comes to can be ended

end-stays : (before more : List Entry) (meaning : Meaning) → AllFitting (before ++ more) → CanEnd before meaning → CanEnd (before ++ more) meaning
end-stays before more (Change info effect) fit can = change-stays before more info effect fit can
end-stays before more (Twice partition row) fit can = can
end-stays before more (Ask table partition kind) fit can = can
end-stays before more other fit can = tt

last-stays : (before more : List Entry) (txn : ℕ) (given : List (ℕ × ℕ)) (end : End) → AllFitting (before ++ more)
    → EndCanBeNoted before txn given end → EndCanBeNoted (before ++ more) txn given end
last-stays before more txn given end.Create fit can = tt
last-stays before more txn given (end.Drop table) fit can = tt
last-stays before more txn given (end.Commit wrote name put) fit can = record { small = can.small; touched = can.touched; change = by can.change }
  where
    by : (wrote ≡ []) ⊎ IsOfChange before given wrote put → (wrote ≡ []) ⊎ IsOfChange (before ++ more) given wrote put
    by (inl none) = inl none
    by (inr change) = inr (record {
      info = change.info;
      effect = change.effect;
      can = change-stays before more change.info change.effect fit change.can;
      write = change.write;
      touches = change.touches;
      id = change.id;
      places_are = change.places_are;
    })

point-can : (before more : List Entry) (txn : ℕ) (given : List (ℕ × ℕ)) (point : Point) → AllFitting (before ++ more)
    → CanEndAt before txn given point → CanEndAt (before ++ more) txn given point
point-can before more txn given point.Started fit can = tt
point-can before more txn given (point.Meant meaning) fit can = end-stays before more meaning fit can
point-can before more txn given (point.Ready ready) fit can = last-stays before more txn given ready.end fit can

-- ---- one that is held

held-by : (before more : List Entry) (asking : Asking) (paused : Paused) → AllFitting (before ++ more) → AreNotOf paused.way.txn.0 more
    → IsHeld before asking paused → IsHeld (before ++ more) asking paused
held-by before more asking paused fit alone h = record {
  given = h.given;
  under_way = others-leave-it before more asking paused.way.txn.0 paused.way.place paused.tree h.given alone h.under_way;
  none = h.none;
  can = point-can before more paused.way.txn.0 h.given paused.point fit h.can;
  unrefused = h.unrefused;
}

held-stays : (before more : List Entry) (paused : Paused) → AllFitting (before ++ more) → AreNotOf paused.way.txn.0 more
    → IsHeldBySome before paused → IsHeldBySome (before ++ more) paused
held-stays before more paused fit alone h = (h.0, held-by before more h.0 paused fit alone h.1)

-- ---- and what it will say

-- a job that stood for it stands for it still
jobs-stay : (before more : List Entry) (t : Transaction) → place_of_snapshot t.snapshot < (state_of before).entries
    → (ask : AskedFor) → stands_for (state_of before) t ask ≡ true → stands_for (state_of (before ++ more)) t ask ≡ true
jobs-stay before more t early ask stands =
    ap (λ (s : State). stands_for s t ask) (fold-append after nothing_yet before more) ∙ stands-on ask t more (state_of before) early stands

-- it has asked for all still
asked-at : (before more : List Entry) (txn : ℕ) (t : Transaction) → numbered (state_of before).transactions txn ≡ Some t
    → opened_before t.snapshot ≤ length (state_of before).transactions → place_of_snapshot t.snapshot < (state_of before).entries → AreNotOf txn more
    → (at : Point) → HasAskedAtPoint before txn at → HasAskedAtPoint (before ++ more) txn at
asked-at before more txn t here within early alone point.Started asked = tt
asked-at before more txn t here within early alone (point.Meant found) asked = tt
asked-at before more txn t here within early alone (point.Ready ready) asked =
    let goes : GoesOn (state_of before) (state_of (before ++ more)) =
    subst (λ (s : State). GoesOn (state_of before) s) (sym (fold-append after nothing_yet before more)) (goes-on-all more (state_of before)) in
    let there : numbered (state_of (before ++ more)).transactions txn ≡ Some t =
    ap (λ (s : State). numbered s.transactions txn) (fold-append after nothing_yet before more) ∙ others-leave more (state_of before) txn t alone here in
    subst (λ (o : Option Transaction). IsSomeAnd o (λ x. HasAsked (state_of (before ++ more)) txn x (meaning x))) (sym there)
    (has-asked-stays (state_of before) (state_of (before ++ more)) goes txn t (meaning t) (jobs-stay before more t early) within
    (subst (λ (o : Option Transaction). IsSomeAnd o (λ x. HasAsked (state_of before) txn x (meaning x))) here asked))

truly-stays : (before more : List Entry) (paused : Paused) → AllFitting (before ++ more) → AreNotOf paused.way.txn.0 more
    → IsTrulyHeld before paused → IsTrulyHeld (before ++ more) paused
unfolding held-by
truly-stays before more paused fits alone h =
    let early : paused.way.place < length before = h.held.under_way.early in
    let place : take paused.way.place (before ++ more) ≡ take paused.way.place before = take-append-le paused.way.place before more (omega arith) in
    let within : paused.way.place < (state_of before).entries = omega (arith, early, entries-are before) in
    record {
      asking = h.asking;
      held = held-by before more h.asking paused fits alone h.held;
      truly = subst (λ (book : List Entry). PointIsTrue (meant book paused.tree) h.held.given paused.point) (sym place) h.truly;
      asked =
          asked-at before more paused.way.txn.0 _ h.held.under_way.here (opened-within before paused.way.place) within alone paused.point h.asked;
    }

-- ---- one that is stopped

-- by an entry that asks for its abort while it is open
stopped-now : (before : List Entry) (event : Entry) (a b : ℕ) (t : Transaction) → event ≡ asking_for a b → numbered (state_of before).transactions b ≡ Some t
    → t.ending ≡ None → WasStopped (before ++ event ∷ []) b
stopped-now before event a b t is here unended =
    let why : Cause = cause.Request (record { 0 = a }) in
    let there : numbered (state_of (before ++ asking_for a b ∷ [])).transactions b ≡ Some (ended (Aborted (state_of before).entries why) t) =
    numbered-behind before (asking_for a b) b (Some (ended (Aborted (state_of before).entries why) t)) (aborted-there (state_of before) b t here unended why) in
    subst (λ (e : Entry). WasStopped (before ++ e ∷ []) b) (sym is) (record {
      by = a;
      front = before;
      rest = [];
      book_is = refl;
      ended =
          subst (λ (o : Option Transaction). IsSomeAnd o (λ x. x.ending ≡ Some (Aborted (length before) why))) (sym there)
          (ap (λ (n : ℕ). Some (Aborted n why)) (entries-are before));
    })

-- and it stays so
ended-later : (p : Option Transaction) (t : Transaction) (e : Ending) → IsSomeAnd p (Later t) → t.ending ≡ Some e → IsSomeAnd p (λ x. x.ending ≡ Some e)
ended-later None t e later is = absurd later
ended-later (Some u) t e later is = ap (λ (x : Transaction). x.ending) (later.ending e is) ∙ is

ended-stays : (o p : Option Transaction) (e : Ending) → ((t : Transaction) → o ≡ Some t → IsSomeAnd p (Later t)) → IsSomeAnd o (λ x. x.ending ≡ Some e)
    → IsSomeAnd p (λ x. x.ending ≡ Some e)
ended-stays None p e goes is = absurd is
ended-stays (Some t) p e goes is = ended-later p t e (goes t refl) is

stopped-stays : (before more : List Entry) (txn : ℕ) → WasStopped before txn → WasStopped (before ++ more) txn
stopped-stays before more txn stopped =
    let why : Cause = cause.Request (record { 0 = stopped.by }) in
    let goes : GoesOn (state_of before) (state_of (before ++ more)) =
    subst (λ (s : State). GoesOn (state_of before) s) (sym (fold-append after nothing_yet before more)) (goes-on-all more (state_of before)) in
    record {
      by = stopped.by;
      front = stopped.front;
      rest = stopped.rest ++ more;
      book_is =
          ap (λ (book : List Entry). book ++ more) stopped.book_is ∙ append_assoc stopped.front (asking_for stopped.by txn ∷ stopped.rest) more;
      ended =
          ended-stays (numbered (state_of before).transactions txn) (numbered (state_of (before ++ more)).transactions txn)
          (Aborted (length stopped.front) why) (goes.transactions txn) stopped.ended;
    }

-- ---- behind one entry that another transaction makes

held-one : (a : ℕ) (held : Held) → IsApart a held → (before : List Entry) (event : Entry) → IsOf a event → AllFitting (before ++ event ∷ [])
    → IsHeldIn before held → IsHeldIn (before ++ event ∷ []) held
held-one a held apart before event of_it fit (inr stopped) = inr (stopped-stays before (event ∷ []) held.paused.way.txn.0 stopped)
held-one a held apart before event of_it fit (inl is) = by (one-about a held.paused.way.txn.0 apart event of_it)
  where
    by : IsNotOf held.paused.way.txn.0 event ⊎ (event ≡ asking_for a held.paused.way.txn.0) → IsHeldIn (before ++ event ∷ []) held
    by (inl alone) = inl (held-stays before (event ∷ []) held.paused fit (alone, tt) is)
    by (inr asks) = inr (stopped-now before event a held.paused.way.txn.0 _ asks is.1.under_way.here refl)

truly-one : (a : ℕ) (held : Held) → IsApart a held → (before : List Entry) (event : Entry) → IsOf a event → AllFitting (before ++ event ∷ [])
    → IsTrulyHeldIn before held → IsTrulyHeldIn (before ++ event ∷ []) held
truly-one a held apart before event of_it fit (inr stopped) = inr (stopped-stays before (event ∷ []) held.paused.way.txn.0 stopped)
truly-one a held apart before event of_it fit (inl is) = by (one-about a held.paused.way.txn.0 apart event of_it)
  where
    by : IsNotOf held.paused.way.txn.0 event ⊎ (event ≡ asking_for a held.paused.way.txn.0) → IsTrulyHeldIn (before ++ event ∷ []) held
    by (inl alone) = inl (truly-stays before (event ∷ []) held.paused fit (alone, tt) is)
    by (inr asks) = inr (stopped-now before event a held.paused.way.txn.0 _ asks is.held.under_way.here refl)

-- ---- behind several

fit-front : (s : State) (xs ys : List Entry) → AllFit profile s (xs ++ ys) → AllFit profile s xs
fit-front s [] ys fit = tt
fit-front s (x ∷ xs) ys fit = (fit.0, fit-front (after s x) xs ys fit.1)

one-stays : (P : List Entry → Held → Type 0) (a : ℕ) (held : Held)
    → ((before : List Entry) (event : Entry) → IsOf a event → AllFitting (before ++ event ∷ []) → P before held → P (before ++ event ∷ []) held)
    → (before more : List Entry) → AreOf a more → AllFitting (before ++ more) → P before held → P (before ++ more) held
one-stays P a held step before [] of_it fit is = subst (λ (book : List Entry). P book held) (sym (append-nil before)) is
one-stays P a held step before (event ∷ more) of_it fit is =
    let joined : (before ++ event ∷ []) ++ more ≡ before ++ event ∷ more = append_assoc before (event ∷ []) more in
    let fits : AllFitting ((before ++ event ∷ []) ++ more) = subst AllFitting (sym joined) fit in
    subst (λ (book : List Entry). P book held) joined
    (one-stays P a held step (before ++ event ∷ []) more of_it.1 fits
    (step before event of_it.0 (fit-front nothing_yet (before ++ event ∷ []) more fits) is))

-- ---- a list of them

stay-so : (P : List Entry → Held → Type 0) (a : ℕ)
    → ((held : Held) → IsApart a held → (before : List Entry) (event : Entry) → IsOf a event → AllFitting (before ++ event ∷ []) → P before held
    → P (before ++ event ∷ []) held)
    → (before more : List Entry) (helds : List Held) → AllFitting (before ++ more) → AreOf a more → AllByRecursion (IsApart a) helds
    → AllByRecursion (P before) helds → AllByRecursion (P (before ++ more)) helds
stay-so P a step before more [] fit of_it apart each = tt
stay-so P a step before more (held ∷ helds) fit of_it apart each =
    (one-stays P a held (step held apart.0) before more of_it fit each.0, stay-so P a step before more helds fit of_it apart.1 each.1)

-- another transaction's entries leave each held, or stop it
pub all-stay : (before more : List Entry) (a : ℕ) (helds : List Held) → AllFitting (before ++ more) → AreOf a more → AllByRecursion (IsApart a) helds
    → AllByRecursion (IsHeldIn before) helds → AllByRecursion (IsHeldIn (before ++ more)) helds
all-stay before more a helds fit of_it apart each = stay-so IsHeldIn a (held-one a) before more helds fit of_it apart each

pub all-true : (before more : List Entry) (a : ℕ) (helds : List Held) → AllFitting (before ++ more) → AreOf a more → AllByRecursion (IsApart a) helds
    → AllByRecursion (IsTrulyHeldIn before) helds → AllByRecursion (IsTrulyHeldIn (before ++ more)) helds
all-true before more a helds fit of_it apart each = stay-so IsTrulyHeldIn a (truly-one a) before more helds fit of_it apart each

-- ---- behind entries of nobody

one-unmoved : (before more : List Entry) (held : Held) → AllFitting (before ++ more) → AreNotOf held.paused.way.txn.0 more → IsHeldIn before held
    → IsHeldIn (before ++ more) held
one-unmoved before more held fit alone (inl is) = inl (held-stays before more held.paused fit alone is)
one-unmoved before more held fit alone (inr stopped) = inr (stopped-stays before more held.paused.way.txn.0 stopped)

one-unmoved-truly : (before more : List Entry) (held : Held) → AllFitting (before ++ more) → AreNotOf held.paused.way.txn.0 more
    → IsTrulyHeldIn before held → IsTrulyHeldIn (before ++ more) held
one-unmoved-truly before more held fit alone (inl is) = inl (truly-stays before more held.paused fit alone is)
one-unmoved-truly before more held fit alone (inr stopped) = inr (stopped-stays before more held.paused.way.txn.0 stopped)

-- they leave each held
pub all-unmoved : (before more : List Entry) (helds : List Held) → AllFitting (before ++ more) → ((txn : ℕ) → AreNotOf txn more)
    → AllByRecursion (IsHeldIn before) helds → AllByRecursion (IsHeldIn (before ++ more)) helds
all-unmoved before more [] fit alone each = tt
all-unmoved before more (held ∷ helds) fit alone each =
    (one-unmoved before more held fit (alone held.paused.way.txn.0) each.0, all-unmoved before more helds fit alone each.1)

pub all-unmoved-truly : (before more : List Entry) (helds : List Held) → AllFitting (before ++ more) → ((txn : ℕ) → AreNotOf txn more)
    → AllByRecursion (IsTrulyHeldIn before) helds → AllByRecursion (IsTrulyHeldIn (before ++ more)) helds
all-unmoved-truly before more [] fit alone each = tt
all-unmoved-truly before more (held ∷ helds) fit alone each =
    (one-unmoved-truly before more held fit (alone held.paused.way.txn.0) each.0, all-unmoved-truly before more helds fit alone each.1)

-- ---- each has a number that was given

there-some : (o : Option Transaction) (P : Transaction → Type 0) → IsSomeAnd o P → (t : Transaction) × (o ≡ Some t)
there-some None P is = absurd is
there-some (Some t) P is = (t, refl)

pub held-within : (book : List Entry) (held : Held) → IsHeldIn book held → held.paused.way.txn.0 ≤ length (state_of book).transactions
held-within book held (inl is) = (numbered-within (state_of book).transactions held.paused.way.txn.0 _ is.1.under_way.here).1
held-within book held (inr stopped) =
    let there = there-some (numbered (state_of book).transactions held.paused.way.txn.0)
    (λ x. x.ending ≡ Some (Aborted (length stopped.front) (cause.Request (record { 0 = stopped.by })))) stopped.ended in
    (numbered-within (state_of book).transactions held.paused.way.txn.0 there.0 there.1).1
