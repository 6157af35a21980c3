-- Which entries of jobs fit books that were worked out by hand: by computing what each asks.
use Rattle.std.proofs.Common.{◌≡◌, ℕ, ◌+◌, ◌≤◌, false, Some, None, [], ◌∷◌, ◌++◌, refl, inl, inr, sym, ◌∙◌, arith, true≢false}
use Rattle.std.specs.Prelude.{◌==◌}
use Rattle.std.proofs.lemmas.Bool.{eq-eqb}
use Rattle.hv_history.specs.declared.entry.JobKind.TheVariants.{Major}
use Rattle.hv_history.specs.State.{State, acted, state_of}
use Rattle.hv_history.specs.Legal.{profile, load, HasRoom}
use Rattle.hv_law_jobs.specs.Worked.{north, touch, committed, asked, ran, four, below_open, with_aborted}
use Rattle.hv_law_jobs.specs.Fitting.{waiting, ran_below, AskingByHand, WorkByHand, CleaningByHand, JobsFitByHand}
use Rattle.hv_law_jobs.proofs.OrderLemmas.{some-same}

roomy : (state : State) (n more : ℕ) → load state ≡ n → n + more ≤ 131072 → HasRoom profile state more
roomy state n more is few = omega (arith, is, few)

no-number : (n : ℕ) → None ≡ Some n → ⊥
no-number n e = cc

differ : (m n : ℕ) → (m == n) ≡ false → m ≡ n → ⊥
differ m n apart same = true≢false (sym (eq-eqb m n same) ∙ apart)

asking-by-hand : AskingByHand
unfolding acted
asking-by-hand = record {
  asks = record { live = refl; next = refl; free = refl; asker = inl refl; room = roomy (state_of four) 15 1 refl (omega arith) };
  asks_next = λ f. differ 2 1 refl f.next;
  asks_busy = λ f. true≢false f.free;
  asks_elsewhere = record { live = refl; next = refl; free = refl; asker = inl refl; room = roomy (state_of waiting) 16 1 refl (omega arith) };
  asks_nowhere = λ f. true≢false (sym f.live);
  asks_ended = λ f. elim f.asker [ inl none ↦ differ 2 0 refl none | inr is ↦ true≢false (sym is.running.unended) ];
  picks = record { lowest = refl; mark_is = refl; room = roomy (state_of waiting) 16 2 refl (omega arith) };
  picks_below = record { lowest = refl; mark_is = refl; room = roomy (state_of (below_open ++ asked 1 Major ∷ [])) 16 2 refl (omega arith) };
  picks_too_far = λ f. differ 4 2 refl f.mark_is;
  picks_twice = λ f. no-number 1 f.lowest;
  picks_later = λ f. differ 1 2 refl (some-same 1 2 f.lowest);
  picks_nothing = λ f. f;
}

work-by-hand : WorkByHand
unfolding acted
work-by-hand = record {
  publishes = record { working = refl; live = refl; some = refl; low_is = refl; high_is = refl; mark_is = refl };
  publishes_less = λ f. differ 3 4 refl f.high_is;
  publishes_part = λ f. differ 2 1 refl f.low_is;
  publishes_marked = λ f. differ 5 6 refl f.mark_is;
  publishes_unpicked = λ f. true≢false (sym f.working);
  publishes_below = record { working = refl; live = refl; some = refl; low_is = refl; high_is = refl; mark_is = refl };
  publishes_past = λ f. differ 4 2 refl f.high_is;
  is_empty = record { working = refl; nothing = refl };
  publishes_nothing = λ f. true≢false f.some;
  is_full = λ f. true≢false (sym f.nothing);
  fails = record { working = refl; gone = (λ e. absurd (true≢false (sym e)), λ e. absurd (true≢false e)); cause_fits = tt };
  fails_gone = λ f. true≢false (f.gone.0 refl);
  fails_before = λ f. true≢false (sym f.working);
  fails_kept = λ f. true≢false f.cause_fits;
  fails_counted = record { working = refl; gone = (λ e. absurd (true≢false (sym e)), λ e. absurd (true≢false e)); cause_fits = refl };
}

cleaning-by-hand : CleaningByHand
unfolding acted
cleaning-by-hand = record {
  cleans = record { ready = refl; past = refl; room = roomy (state_of (four ++ ran 1 Major 1 4 6)) 18 1 refl (omega arith) };
  cleans_held = λ f. true≢false (sym f.past);
  cleans_behind = record { ready = refl; past = refl; room = roomy (state_of (ran_below ++ committed 4 (touch north 1 0 ∷ []) ∷ [])) 18 1 refl (omega arith) };
  cleans_twice = λ f. true≢false (sym f.ready);
  cleans_early = λ f. true≢false (sym f.ready);
  forgets = record { live = refl; aborted = refl; kept = refl; room = roomy (state_of with_aborted) 12 1 refl (omega arith) };
  forgets_committed = λ f. true≢false (sym f.aborted);
  forgets_open = λ f. true≢false (sym f.aborted);
  forgets_twice = λ f. true≢false f.kept;
}

pub jobs-fit-by-hand : JobsFitByHand
jobs-fit-by-hand = record { asking = asking-by-hand; work = work-by-hand; cleaning = cleaning-by-hand }
