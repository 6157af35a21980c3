-- What stands of a statement whatever is added behind it, and the answer to its abort.
use Rattle.std.proofs.Common.{◌≡◌, ℕ, true, Option, Some, None, IsSomeAnd, List, [], ◌∷◌, ◌++◌, length, take, refl, sym, ap, subst, arith, ◌∙◌}
use Rattle.std.proofs.lemmas.List.{take-append-le, take_all}
use Rattle.hv_ast.specs.declared.statement.Stmt.{Stmt}
use Rattle.hv_logic.specs.declared.catalog.TableInfo.{TableInfo}
use Rattle.hv_logic.specs.declared.effect.Effect.{Effect}
use Rattle.hv_history.specs.declared.entry.Entry.{Entry}
use Rattle.hv_history.specs.declared.entry.Cause.{Cause}
use Rattle.hv_history.specs.declared.entry.Cause.TheVariants as cause
use Rattle.hv_history.specs.declared.state.Snapshot.{Snapshot}
use Rattle.hv_history.specs.State.{state_of, numbered}
use Rattle.hv_history.specs.Answers.{cause_text}
use Rattle.hv_stands.specs.Running.{Asking, meant, snapshot_at, IsUnderWay}
use Rattle.hv_stands.specs.Statements.{AllFitting}
use Rattle.hv_stands.proofs.SeeingEnough.{tables-stay}
use Rattle.hv_steps.specs.Ending.{aborting, EndsUncommitted, HasReplied, CanChange}
use Rattle.hv_steps.proofs.Replied.{abort-replies}

-- ---- a change that can be ended

-- whatever is added that fits
pub change-stays : (before more : List Entry) (info : TableInfo) (effect : Effect) → AllFitting (before ++ more)
    → CanChange before info effect → CanChange (before ++ more) info effect
change-stays before more info effect fit can =
    let front : take (length before) (before ++ more) ≡ before =
    take-append-le (length before) before more (omega arith) ∙ take_all (length before) before (omega arith) in
    let here = subst (λ (book : List Entry). numbered (state_of book).tables info.table.0 ≡ Some can.table) (sym front) can.here in
    let now = tables-stay (before ++ more) (length before) info.table.0 can.table fit here in
    record { table = now.0; here = now.1; same = now.2 ∙ can.same; within = can.within; fit = can.fit }

-- ---- a fact of what may be there

pub some-more : {A : Type 0} (P Q : A → Type 0) (o : Option A) → ((x : A) → P x → Q x) → IsSomeAnd o P → IsSomeAnd o Q
some-more P Q None more holds = absurd holds
some-more P Q (Some x) more holds = more x holds

-- ---- the line of an abort

-- the line of a cause that is no conflict names no table
one-line : (snapshot : Option Snapshot) (why : Cause) → EndsUncommitted why → cause_text snapshot why ≡ cause_text None why
unfolding cause_text
one-line snapshot (cause.Refused number) uncommitted = refl
one-line snapshot (cause.Conflict other table partition) uncommitted = absurd uncommitted
one-line snapshot (cause.Request other) uncommitted = refl
one-line snapshot cause.Full uncommitted = refl
one-line snapshot (cause.Twice partition row) uncommitted = refl
one-line snapshot (cause.Blocked holder) uncommitted = refl
one-line snapshot (cause.ReadFault count) uncommitted = refl
one-line snapshot (cause.WriteFault count) uncommitted = refl
one-line snapshot (cause.Damaged at) uncommitted = refl
one-line snapshot cause.RowLimit uncommitted = refl
one-line snapshot cause.PartitionLimit uncommitted = refl
one-line snapshot cause.Memory uncommitted = refl
one-line snapshot cause.Lost uncommitted = refl
one-line snapshot cause.Rollback uncommitted = refl

-- ---- a statement that is under way

module _ (book : List Entry) (asking : Asking) (txn place : ℕ) (said : Stmt) (given : List (ℕ × ℕ)) (way : IsUnderWay book asking txn place said given) where
  pub means-still : (more : List Entry) → meant (take place (book ++ more)) said ≡ meant (take place book) said
  means-still more = ap (λ (front : List Entry). meant front said) (take-append-le place book more (omega (arith, way.early)))

  -- the answer to its abort
  pub abort-answered : (why : Cause) → EndsUncommitted why
      → HasReplied (book ++ aborting txn why ∷ []) txn (cause_text None why) true (Some (length book))
  abort-answered why uncommitted =
      subst (λ (text : List ℕ). HasReplied (book ++ aborting txn why ∷ []) txn text true (Some (length book))) (one-line (Some (snapshot_at book place)) why uncommitted)
      (abort-replies book asking txn place said given way why)
