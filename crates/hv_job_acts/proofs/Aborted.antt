-- Aborted write ids that may be forgotten.
use Rattle.std.proofs.Common.{◌≡◌, ◌↔◌, ◌+◌, ◌≤◌, ℕ, Bool, true, false, true≢false, Option, Some, None, List, refl, sym, ◌∙◌, arith}
use Rattle.std.specs.Prelude.{◌==◌, ◌&&◌, not, IsTrue, IsSomeAnd}
use Rattle.std.specs.List.{list_any}
use Rattle.hv_base.specs.declared.ids.Limits.{Limits}
use Rattle.hv_history.specs.declared.entry.Entry.{Entry}
use Rattle.hv_history.specs.declared.state.Table.{Table}
use Rattle.hv_history.specs.State.{State, numbered, nothing_yet, state_of}
use Rattle.hv_history.specs.Legal.{profile, load, HasRoom, AllFit}
use Rattle.hv_history.specs.Jobs.{is_live_one}
use Rattle.hv_history.specs.JobsFit.{is_aborted_id, ForgotFits}
use Rattle.hv_meta.proofs.FactLemmas.{and-left, and-right, and-both, false-is}
use Rattle.hv_stands.proofs.Fitting.{load-within}
use Rattle.hv_job_calls.specs.Refusals.{is_live_in, IsLostId, IsKeptId, CanForget}
use Rattle.hv_job_acts.specs.Work.{is_lost_of, is_lost_at}

-- ---- there is room without end

pub within-all : (book : List Entry) → AllFit profile nothing_yet book → (limits : Limits) → profile.entries + 1 ≤ limits.entries → HasRoom limits (state_of book) 1
within-all book fit limits wide =
    let none : load nothing_yet ≤ profile.entries = omega arith in
    let small : load (state_of book) ≤ profile.entries = load-within profile book nothing_yet fit none in
    omega (arith, small, wide)

-- ---- what is so of a table

same-of : (b c : Bool) → (b ≡ true → c ≡ true) → (c ≡ true → b ≡ true) → b ≡ c
same-of true c to from = sym (to refl)
same-of false true to from = from refl
same-of false false to from = refl

module _ (state : State) (write : ℕ) where
  table-lost : (t : Table) → is_lost_of state write t ≡ true ↔ ((t.is_live ≡ true) × (IsLostId state write t × IsKeptId write t))
  table-lost t =
      let aborted = is_aborted_id state.transactions (numbered t.owners write) in
      let known = list_any (λ other. other == write) t.forgotten in (
        λ e.
            let rest : (aborted && not known) ≡ true = and-right t.is_live (aborted && not known) e in
            (and-left t.is_live (aborted && not known) e, (and-left aborted (not known) rest, (false-is known).0 (and-right aborted (not known) rest))),
        λ is. and-both t.is_live (aborted && not known) is.0 (and-both aborted (not known) is.1.0 ((false-is known).1 is.1.1)),
      )

  -- it is said by what fits, where there is room
  pub lost-same : (limits : Limits) (o : Option Table) (b : Bool) → HasRoom limits state 1 → IsTrue b ↔ IsSomeAnd o (ForgotFits limits state write)
      → b ≡ is_lost_at state write o
  lost-same limits None b room fits = same-of b false (λ e. absurd (fits.0 e)) (λ e. absurd (true≢false (sym e)))
  lost-same limits (Some t) b room fits =
      same-of b (is_lost_of state write t)
      (λ e. let is = fits.0 e in (table-lost t).1 (is.live, (is.aborted, is.kept)))
      (λ e. let is = (table-lost t).0 e in fits.1 (record { live = is.0; aborted = is.1.0; kept = is.1.1; room = room }))

  -- of a live table it may be forgotten just where it is so
  pub lost-may : (o : Option Table) (l b : Bool) → l ≡ is_live_one o → l ≡ true → b ≡ is_lost_at state write o
      → IsTrue b ↔ (is_live_one o ≡ true → IsSomeAnd o (λ (t : Table). IsLostId state write t × IsKeptId write t))
  lost-may None l b live so is = absurd (true≢false (sym so ∙ live))
  lost-may (Some t) l b live so is = (
    λ e live_. ((table-lost t).0 (sym is ∙ e)).1,
    λ can. is ∙ (table-lost t).1 (sym live ∙ so, can (sym live ∙ so)),
  )

-- where the table isn't live nothing is asked
pub dead-may : (state : State) (table write : ℕ) (l : Bool) → l ≡ is_live_in state table → l ≡ false
    → IsTrue true ↔ (is_live_in state table ≡ true → CanForget state table write)
dead-may state table write l live dead = (λ e so. absurd (true≢false (sym so ∙ sym live ∙ dead)), λ can. refl)
