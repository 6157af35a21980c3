-- Wherever an opening stops, the next one finds what it may find.
use Rattle.std.proofs.Common.{◌≡◌, ℕ, ◌+◌, inl, inr, true, false, List, ◌∷◌, length, subst, arith}
use Rattle.std.specs.Prelude.{◌&&◌}
use Rattle.std.proofs.lemmas.Bool.{and_cases}
use Rattle.hv_shelf.specs.Disk.{Tree}
use Rattle.hv_stands.specs.hv_history.specs.State.{State, Job}
use Rattle.hv_stands.specs.hv_history.specs.Legal.{is_working}
use Rattle.hv_stands.specs.hv_history.specs.JobsFit.{is_live_job}
use Rattle.hv_law_made.specs.Entries.{IsAtWork, Recovers}
use Rattle.hv_law_made.specs.Opening.{whole_jobs, is_among, is_to_publish, failing_dirs, SomeGo, IsWholeOrBare, IsGivenUp}
use Rattle.hv_law_made.specs.Stopping.{ended_state, OpeningFrontsRecover, OpeningStopsRecover}
use Rattle.hv_law_made.proofs.GoingStands.{going-recovers}
use Rattle.hv_law_made.proofs.OpeningEnds.{IsThrough, it-is, few-one, lost-bare, gone-bare, through-front, through-begins}

pub opening-fronts-recover : OpeningFrontsRecover
opening-fronts-recover state before now front rest few sound agree are goes recovers =
    (through-front (whole_jobs state before) front rest state 1 (1 + length front) before now (omega arith)
    (subst (IsThrough (whole_jobs state before) state before 1) are (through-begins state before few sound agree recovers)) goes).recovers

module _ (whole : List ℕ) (state : State) (before : Tree) (number : ℕ) (job : Job) (rest : List Job) (through : IsThrough whole state before number (job ∷ rest))
    (working : is_working job ≡ true) (given_up : (is_live_job state job && is_to_publish whole state number job) ≡ false) where
  not-among : (work : IsAtWork state number job) → is_among whole number ≡ false
  not-among work = elim (and_cases (is_live_job state job) (is_to_publish whole state number job) given_up) [
    | inl dead ↦ gone-bare whole state number job dead work
    | inr lost ↦ lost-bare whole state number job lost work
  ]

  given : IsGivenUp state number job before
  given = record {
    is = it-is whole state before number job rest through;
    working = working;
    bare = λ work. subst (λ b. IsWholeOrBare b state number job work.table.writes before) (not-among work) (through.holds number job work (omega arith));
  }

  pub going-on : (now : Tree) → SomeGo (failing_dirs state number job) before now → Recovers state now
  going-on now some =
      going-recovers state number job before now (few-one whole state before number job rest through working) through.sound given some through.recovers

pub opening-stops-recover : OpeningStopsRecover
opening-stops-recover state before middle now front job rest few sound agree are goes working given_up some recovers =
    going-on (whole_jobs state before) (ended_state state before front) middle (length front + 1) job rest
    (through-front (whole_jobs state before) front (job ∷ rest) state 1 (length front + 1) before middle (omega arith)
    (subst (IsThrough (whole_jobs state before) state before 1) are (through-begins state before few sound agree recovers)) goes)
    working given_up now some
