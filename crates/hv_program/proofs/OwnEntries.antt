-- What the entries of a run's own say: behind its first one no transaction is lost, and what each says of faults.
use Rattle.std.proofs.Common.{◌≡◌, ◌⊎◌, ℕ, ◌≤◌, Bool, true, false, IsTrue, Option, Some, None, List, [], ◌∷◌, ◌++◌, length, fold, inl, inr, refl, sym, ap, ◌∙◌, subst, arith, append_assoc}
use Rattle.std.specs.Prelude.{IsSomeAnd}
use Rattle.std.specs.List.{AllByRecursion}
use Rattle.std.proofs.lemmas.List.{append-nil}
use Rattle.std.proofs.lemmas.List.Sums.{fold-append}
use Rattle.hv_history.specs.declared.entry.Entry.{Entry}
use Rattle.hv_history.specs.declared.entry.Entry.TheVariants as entry
use Rattle.hv_history.specs.declared.entry.Cause.{Cause}
use Rattle.hv_history.specs.declared.entry.Cause.TheVariants as cause
use Rattle.hv_history.specs.declared.state.Transaction.{Transaction}
use Rattle.hv_history.specs.declared.state.Ending.TheVariants.{Aborted}
use Rattle.hv_history.specs.State.{State, Openings, numbered, while_open, ended, acted, after, aborting, state_of, nothing_yet}
use Rattle.hv_history.specs.Legal.{LostFits, Fits, AllFit, profile}
use Rattle.hv_stands.specs.Running.{IsOf, AreOf}
use Rattle.hv_stands.specs.Statements.{AllFitting}
use Rattle.hv_session.specs.hv_beginning.specs.hv_steps.specs.Ending.{KeepsCount, IsUndamaged}
use Rattle.hv_program.proofs.Counted.{counted}
use Rattle.hv_program.specs.Own.{IsNotLost, IsOfRun, Grows}

-- ---- behind an entry of a statement no transaction is lost

none-some : (txn : ℕ) → None ≡ Some txn → ⊥
none-some txn e = cc

aborting-unlost : (why : Cause) (openings : Openings) → openings.only_lost ≡ false → (aborting why openings).only_lost ≡ false
aborting-unlost cause.Lost openings e = e
aborting-unlost (cause.ReadFault count) openings e = refl
aborting-unlost (cause.WriteFault count) openings e = refl
aborting-unlost other openings e = refl

unlost-one : (s : State) (txn : ℕ) (event : Entry) → s.openings.only_lost ≡ false → IsOf txn event → (after s event).openings.only_lost ≡ false
unlost-one s txn (entry.Boot run) e of_it = absurd (none-some txn of_it)
unlost-one s txn (entry.Abort other why) e of_it = aborting-unlost why s.openings e
unlost-one s txn (entry.Failed job why) e of_it = absurd (none-some txn of_it)
unlost-one s txn event e of_it = refl

pub unlost-all : (s : State) (txn : ℕ) (events : List Entry) → s.openings.only_lost ≡ false → AreOf txn events
    → (fold after s events).openings.only_lost ≡ false
unlost-all s txn [] e of_it = e
unlost-all s txn (event ∷ events) e of_it = unlost-all (after s event) txn events (unlost-one s txn event e of_it.0) of_it.1

lost-behind : (s : State) (found : Option Transaction) → IsSomeAnd found (LostFits s) → IsTrue s.openings.only_lost
lost-behind s None h = absurd h
lost-behind s (Some transaction) h = h.behind

not-both : (b : Bool) → b ≡ false → IsTrue b → ⊥
not-both b none all = let wrong : false ≡ true = sym none ∙ all in cc

not-lost-cause : (s : State) (txn : ℕ) (why : Cause) → s.openings.only_lost ≡ false → Fits profile s (entry.Abort (record { 0 = txn }) why)
    → IsNotLost (entry.Abort (record { 0 = txn }) why)
not-lost-cause s txn cause.Lost e fits = not-both s.openings.only_lost e (lost-behind s (numbered s.transactions txn) fits)
not-lost-cause s txn other e fits = tt

not-lost-one : (s : State) (event : Entry) → s.openings.only_lost ≡ false → Fits profile s event → IsNotLost event
not-lost-one s (entry.Abort txn why) e fits = not-lost-cause s txn.0 why e fits
not-lost-one s event e fits = tt

pub not-lost : (s : State) (txn : ℕ) (events : List Entry) → s.openings.only_lost ≡ false → AreOf txn events → AllFit profile s events
    → AllByRecursion IsNotLost events
not-lost s txn [] e of_it fit = tt
not-lost s txn (event ∷ events) e of_it fit =
    (not-lost-one s event e fit.0, not-lost (after s event) txn events (unlost-one s txn event e of_it.0) of_it.1 fit.1)

-- ---- or no transaction is opened

abbrev EitherOne : State → Entry → Type 0
EitherOne s event = ((after s event).openings.only_lost ≡ false) ⊎ (length (after s event).transactions ≤ length s.transactions)

either-cause : (s : State) (txn : ℕ) (why : Cause) → EitherOne s (entry.Abort (record { 0 = txn }) why)
unfolding acted
either-cause s txn cause.Lost = inr (omega (arith, counted (while_open (ended (Aborted s.entries cause.Lost))) s.transactions txn))
either-cause s txn (cause.ReadFault count) = inl refl
either-cause s txn (cause.WriteFault count) = inl refl
either-cause s txn other = inl refl

either-one : (s : State) (txn : ℕ) (event : Entry) → IsOf txn event → EitherOne s event
either-one s txn (entry.Boot run) of_it = absurd (none-some txn of_it)
either-one s txn (entry.Failed job why) of_it = absurd (none-some txn of_it)
either-one s txn (entry.Abort other why) of_it = either-cause s other.0 why
either-one s txn event of_it = inl refl

either-then : (s : State) (txn : ℕ) (event : Entry) (events : List Entry) → AreOf txn events → EitherOne s event
    → ((fold after (after s event) events).openings.only_lost ≡ false) ⊎ (length (fold after (after s event) events).transactions ≤ length (after s event).transactions)
    → ((fold after (after s event) events).openings.only_lost ≡ false) ⊎ (length (fold after (after s event) events).transactions ≤ length s.transactions)
either-then s txn event events of_it (inl unlost) rest = inl (unlost-all (after s event) txn events unlost of_it)
either-then s txn event events of_it (inr few) (inl unlost) = inl unlost
either-then s txn event events of_it (inr few) (inr fewer) = inr (omega (arith, few, fewer))

pub unlost-or-none : (s : State) (txn : ℕ) (events : List Entry) → AreOf txn events
    → ((fold after s events).openings.only_lost ≡ false) ⊎ (length (fold after s events).transactions ≤ length s.transactions)
unlost-or-none s txn [] of_it = inr (omega arith)
unlost-or-none s txn (event ∷ events) of_it =
    either-then s txn event events of_it.1 (either-one s txn event of_it.0) (unlost-or-none (after s event) txn events of_it.1)

-- ---- the state behind a longer book

pub state-of : (before more now : List Entry) → now ≡ before ++ more → state_of now ≡ fold after (state_of before) more
state-of before more now is = ap state_of is ∙ fold-append after nothing_yet before more

fits-behind : (s : State) (before more : List Entry) → AllFit profile s (before ++ more) → AllFit profile (fold after s before) more
fits-behind s [] more fit = fit
fits-behind s (event ∷ before) more fit = fits-behind (after s event) before more fit.1

pub more-fits : (before more now : List Entry) → now ≡ before ++ more → AllFitting now → AllFit profile (state_of before) more
more-fits before more now is fit = fits-behind nothing_yet before more (subst AllFitting is fit)

-- ---- what each says of faults

abbrev AreOfRun : ℕ → ℕ → List Entry → Type 0
AreOfRun low high events = AllByRecursion (IsOfRun low high) events

pub of-run : (low high : ℕ) (events : List Entry) → AllByRecursion (KeepsCount low high) events → AllByRecursion IsUndamaged events
    → AllByRecursion IsNotLost events → AreOfRun low high events
of-run low high [] counts undamaged unlost = tt
of-run low high (event ∷ events) counts undamaged unlost =
    (record { counted = counts.0; undamaged = undamaged.0; unlost = unlost.0 }, of-run low high events counts.1 undamaged.1 unlost.1)

wider-cause : (low high wide-low wide-high txn : ℕ) (why : Cause) → wide-low ≤ low → high ≤ wide-high
    → KeepsCount low high (entry.Abort (record { 0 = txn }) why) → KeepsCount wide-low wide-high (entry.Abort (record { 0 = txn }) why)
wider-cause low high wide-low wide-high txn (cause.ReadFault count) below above h = (omega (arith, below, h.0), omega (arith, above, h.1))
wider-cause low high wide-low wide-high txn (cause.WriteFault count) below above h = (omega (arith, below, h.0), omega (arith, above, h.1))
wider-cause low high wide-low wide-high txn other below above h = tt

wider-count : (low high wide-low wide-high : ℕ) (event : Entry) → wide-low ≤ low → high ≤ wide-high → KeepsCount low high event → KeepsCount wide-low wide-high event
wider-count low high wide-low wide-high (entry.Abort txn why) below above h = wider-cause low high wide-low wide-high txn.0 why below above h
wider-count low high wide-low wide-high event below above h = tt

wider-all : (low high wide-low wide-high : ℕ) (events : List Entry) → wide-low ≤ low → high ≤ wide-high → AreOfRun low high events → AreOfRun wide-low wide-high events
wider-all low high wide-low wide-high [] below above all = tt
wider-all low high wide-low wide-high (event ∷ events) below above all = (
  record { counted = wider-count low high wide-low wide-high event below above all.0.counted; undamaged = all.0.undamaged; unlost = all.0.unlost },
  wider-all low high wide-low wide-high events below above all.1,
)

pub all-append : (P : Entry → Type 0) (xs ys : List Entry) → AllByRecursion P xs → AllByRecursion P ys → AllByRecursion P (xs ++ ys)
all-append P [] ys all more = more
all-append P (x ∷ xs) ys all more = (all.0, all-append P xs ys all.1 more)

pub grows-none : (low high : ℕ) (book : List Entry) → Grows low high book book
grows-none low high book = record { more = []; book_is = sym (append-nil book); of_run = tt }

pub grows-wider : (low high wide-low wide-high : ℕ) (before now : List Entry) → wide-low ≤ low → high ≤ wide-high → Grows low high before now → Grows wide-low wide-high before now
grows-wider low high wide-low wide-high before now below above h =
    record { more = h.more; book_is = h.book_is; of_run = wider-all low high wide-low wide-high h.more below above h.of_run }

pub grows-then : (low middle high : ℕ) (a b c : List Entry) → low ≤ middle → middle ≤ high → Grows low middle a b → Grows middle high b c → Grows low high a c
grows-then low middle high a b c below above h more = record {
  more = h.more ++ more.more;
  book_is = more.book_is ∙ ap (λ book. book ++ more.more) h.book_is ∙ append_assoc a h.more more.more;
  of_run = all-append (IsOfRun low high) h.more more.more
      (wider-all low middle low high h.more (omega arith) above h.of_run) (wider-all middle high low high more.more below (omega arith) more.of_run);
}
