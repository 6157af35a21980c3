-- A job that is taken up, as a step.
use Rattle.std.proofs.Common.{◌≡◌, ℕ, true≢false, Option, Some, None, List, refl, sym, ap, ◌∙◌}
use Rattle.std.specs.Prelude.{IsSome}
use Rattle.hv_base.specs.declared.ids.WriteId.{WriteId}
use Rattle.hv_history.specs.declared.entry.Entry.{Entry}
use Rattle.hv_history.specs.declared.entry.Entry.TheVariants as entry
use Rattle.hv_history.specs.State.{State, Job, numbered, state_of}
use Rattle.hv_history.specs.Jobs.{watermark}
use Rattle.hv_job_calls.specs.Refusals.{to_pick, mark_at, number_in, picking}

-- it is the entry that takes up that job
pub picking-is : (book : List Entry) (number : ℕ) (mark : WriteId) → to_pick (state_of book) ≡ Some number
    → mark.0 ≡ mark_at (state_of book) (numbered (state_of book).jobs number) → entry.Picked (record { 0 = number }) mark ≡ picking book
picking-is book number mark lowest marks =
    let state : State = state_of book in
    let one : number ≡ number_in (to_pick state) = sym (ap number_in lowest) in
    λ i. entry.Picked (record { 0 = one i }) (record { 0 = (marks ∙ ap (λ n. mark_at state (numbered state.jobs n)) one) i })

-- its mark is its table's
pub marks-it : (state : State) (number mark : ℕ) → mark ≡ mark_at state (numbered state.jobs number) → (j : Job) → numbered state.jobs number ≡ Some j
    → mark ≡ watermark state j.table
marks-it state number mark is j at = is ∙ ap (mark_at state) at

pub some-picked : (o : Option ℕ) (n : ℕ) → o ≡ Some n → IsSome o
some-picked None n e = cc
some-picked (Some m) n e = refl

pub never-none : (o : Option ℕ) (n : ℕ) → o ≡ Some n → o ≡ None → ⊥
never-none None n e none = cc
never-none (Some m) n e none = cc

pub none-some : (o : Option ℕ) → o ≡ None → IsSome o → ⊥
none-some None e some = true≢false (sym some)
none-some (Some n) e some = cc
