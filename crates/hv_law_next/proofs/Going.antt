-- A transaction that goes on by legal entries in order goes on as one thread carries it on.
use Rattle.std.proofs.Common.{◌≡◌, ℕ, zero, suc, ◌+◌, ◌<◌, ◌≤◌, Option, Some, None, List, [], ◌∷◌, ◌++◌, refl, sym, ap, ◌∙◌, subst, append-nil, append_assoc, fold, arith}
use Rattle.std.specs.Prelude.{if◌then◌else◌, true}
use Rattle.hv_base.specs.declared.ids.Limits.{Limits}
use Rattle.hv_base.specs.declared.gate.Stage.{Stage}
use Rattle.hv_history.specs.declared.entry.Entry.{Entry}
use Rattle.hv_history.specs.declared.entry.Entry.TheVariants as entry
use Rattle.hv_history.specs.declared.entry.Cause.TheVariants as cause
use Rattle.hv_history.specs.declared.state.Ending.{Ending}
use Rattle.hv_history.specs.declared.state.Transaction.{Transaction}
use Rattle.hv_history.specs.Asking.{listed_in}
use Rattle.hv_history.specs.State.{State, numbered, nothing_yet, after, state_of}
use Rattle.hv_history.specs.Legal.{AllFit, AllTruthful, IsLegalFrom, IsLegal, is_started, profile}
use Rattle.hv_stands.specs.Sound.{IsSound}
use Rattle.hv_stands.specs.Running.{IsOf, AreOf}
use Rattle.hv_stands.proofs.Behind.{one-behind, numbered-behind}
use Rattle.hv_stands.proofs.Keeping.{sound-after}
use Rattle.hv_stands.proofs.Fitting.{fitting-sound}
use Rattle.hv_law_next.specs.Next.{comes_before, if_before, due_of, due, with_one, steps, carried_on, by_ending, next_of}
use Rattle.hv_law_next.specs.Order.{AreSteady, AllInOrder}
use Rattle.hv_law_next.specs.Carrying.{started_of, AreBefore, IsRunningStore, CarriesOn}
use Rattle.hv_law_next.proofs.Nexts.{rank, rank-within, listed, IsGood, next-is}

-- ---- entries that are good one behind another

abbrev pub AreGood : ℕ → List Entry → List Entry → Type 0
AreGood txn book [] = Unit {0}
AreGood txn book (event ∷ more) = IsGood txn (state_of book) event × AreGood txn (book ++ event ∷ []) more

pub are-good : (txn : ℕ) (book added : List Entry) → AreOf txn added → AllFit profile (state_of book) added → AllTruthful (state_of book) added
    → AreSteady added → AllInOrder (state_of book) added → AreGood txn book added
are-good txn book [] whose fit truthful steady in_order = tt
are-good txn book (event ∷ more) whose fit truthful steady in_order = (
  record { of_it = whose.0; fits = fit.0; truth = truthful.0; steady = steady.0; in_order = in_order.0 },
  are-good txn (book ++ event ∷ []) more whose.1
      (subst (λ s. AllFit profile s more) (sym (one-behind book event)) fit.1)
      (subst (λ s. AllTruthful s more) (sym (one-behind book event)) truthful.1)
      steady.1
      (subst (λ s. AllInOrder s more) (sym (one-behind book event)) in_order.1),
)

-- ---- each comes before the hold

pub all-before : (txn : ℕ) (book added : List Entry) → AreBefore None txn book added
all-before txn book [] = tt
all-before txn book (event ∷ more) = (refl, all-before txn (book ++ event ∷ []) more)

-- ---- nothing is due any more

pub idle : (n : ℕ) (hold : Option Stage) (txn : ℕ) (book : List Entry) → due hold (state_of book) txn ≡ None → steps n hold txn book ≡ book
idle zero hold txn book none = refl
idle (suc n) hold txn book none = ap (λ o. steps n hold txn (with_one book o)) none ∙ idle n hold txn book none

pub ended-due : (hold : Option Stage) (s : State) (txn : ℕ) (t : Transaction) (e : Ending) → numbered s.transactions txn ≡ Some t → t.ending ≡ Some e
    → due hold s txn ≡ None
unfolding next_of
ended-due hold s txn t e at ends =
    ap (due_of hold s txn) at ∙ ap (λ o. if_before hold (is_started t) (by_ending s txn t o)) ends

-- ---- the store runs on

pub runs-on : (s : State) (event : Entry) (txn : ℕ) → IsOf txn event → IsRunningStore s → IsRunningStore (after s event)
runs-on s (entry.Boot run) txn whose running = let never : None ≡ Some txn = whose in cc
runs-on s (entry.Failed job why) txn whose running = let never : None ≡ Some txn = whose in cc
runs-on s (entry.Abort id cause.Lost) txn whose running = running
runs-on s (entry.Abort id why) txn whose running = refl
runs-on s event txn whose running = refl

-- ---- it goes on

is-due : (hold : Option Stage) (txn : ℕ) (book : List Entry) (t : Transaction) (event : Entry) → numbered (state_of book).transactions txn ≡ Some t
    → next_of (state_of book) txn t ≡ Some event → comes_before hold (started_of (numbered (state_of book).transactions txn)) event ≡ true
    → due hold (state_of book) txn ≡ Some event
is-due hold txn book t event at next before =
    ap (due_of hold (state_of book) txn) at
    ∙ ap (if_before hold (is_started t)) next
    ∙ ap (λ b. if b then Some event else None) (sym (ap (λ o. comes_before hold (started_of o) event) at) ∙ before)

goes-on : (n : ℕ) (hold : Option Stage) (txn : ℕ) (book added : List Entry) (t : Transaction) → numbered (state_of book).transactions txn ≡ Some t
    → IsSound (state_of book) → IsRunningStore (state_of book) → AreGood txn book added → AreBefore hold txn book added → rank (state_of book) txn t ≤ n → due hold (state_of (book ++ added)) txn ≡ None
    → steps n hold txn book ≡ book ++ added
goes-on n hold txn book [] t at sound running good before most none =
    idle n hold txn book (ap (λ xs. due hold (state_of xs) txn) (sym (append-nil book)) ∙ none) ∙ sym (append-nil book)
goes-on zero hold txn book (event ∷ more) t at sound running good before most none =
    let next = next-is book txn t event at sound running good.0 in
    let fewer = next.later.fewer in
    absurd (omega (arith, fewer, most))
goes-on (suc n) hold txn book (event ∷ more) t at sound running good before most none =
    let next = next-is book txn t event at sound running good.0 in
    let fewer : rank (state_of (book ++ event ∷ [])) txn next.later.t < rank (state_of book) txn t =
    subst (λ s. rank s txn next.later.t < rank (state_of book) txn t) (sym (one-behind book event)) next.later.fewer in
    ap (λ o. steps n hold txn (with_one book o)) (is-due hold txn book t event at next.next before.0)
    ∙ goes-on n hold txn (book ++ event ∷ []) more next.later.t
    (numbered-behind book event txn (Some next.later.t) next.later.there)
    (subst IsSound (sym (one-behind book event)) (sound-after profile (state_of book) event good.0.fits sound))
    (subst IsRunningStore (sym (one-behind book event)) (runs-on (state_of book) event txn good.0.of_it running))
    good.1 before.1 (omega (arith, fewer, most))
    (ap (λ xs. due hold (state_of xs) txn) (append_assoc book (event ∷ []) more) ∙ none)
    ∙ append_assoc book (event ∷ []) more

pub carries-on : (hold : Option Stage) (txn : ℕ) (book added : List Entry) (t : Transaction) → numbered (state_of book).transactions txn ≡ Some t
    → IsSound (state_of book) → IsRunningStore (state_of book) → AreGood txn book added → AreBefore hold txn book added → due hold (state_of (book ++ added)) txn ≡ None
    → carried_on hold txn book ≡ book ++ added
unfolding carried_on
carries-on hold txn book added t at sound running good before none =
    ap (λ (o : Option Transaction). steps (3 + listed_in o) hold txn book) at
    ∙ goes-on (3 + listed t) hold txn book added t at sound running good before (rank-within (state_of book) txn t) none

-- ---- a legal book in two parts

fit-parts : (limits : Limits) (s : State) (book more : List Entry) → AllFit limits s (book ++ more) → AllFit limits s book × AllFit limits (fold after s book) more
fit-parts limits s [] more fit = (tt, fit)
fit-parts limits s (event ∷ book) more fit =
    let rest = fit-parts limits (after s event) book more fit.1 in ((fit.0, rest.0), rest.1)

truthful-parts : (s : State) (book more : List Entry) → AllTruthful s (book ++ more) → AllTruthful s book × AllTruthful (fold after s book) more
truthful-parts s [] more truthful = (tt, truthful)
truthful-parts s (event ∷ book) more truthful =
    let rest = truthful-parts (after s event) book more truthful.1 in ((truthful.0, rest.0), rest.1)

pub record AreLegal (book more : List Entry) : Type 0 where
  pub front : IsLegal profile book
  pub behind : IsLegalFrom profile (state_of book) more

pub legal-parts : (book more : List Entry) → IsLegal profile (book ++ more) → AreLegal book more
legal-parts book more legal =
    let fit = fit-parts profile nothing_yet book more legal.fit in
    let truthful = truthful-parts nothing_yet book more legal.truthful in
    record {
      front = record { fit = fit.0; truthful = truthful.0 };
      behind = record { fit = fit.1; truthful = truthful.1 };
    }

pub carries-on-by : CarriesOn
carries-on-by hold txn book added goes =
    let legal = legal-parts book added goes.legal in
    carries-on hold txn book added goes.there.0 goes.there.1 (fitting-sound book legal.front.fit) goes.running
    (are-good txn book added goes.of_it legal.behind.fit legal.behind.truthful goes.steady goes.in_order) goes.before goes.no_more
