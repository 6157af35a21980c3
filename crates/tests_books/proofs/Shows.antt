-- What SHOW lists rests on transactions and tables, and comes of one transaction after another.
use Rattle.std.proofs.Common.{◌≡◌, ℕ, zero, suc, ◌+◌, ◌<◌, Option, Some, None, List, [], ◌++◌, length, get_or, drop, refl, sym, ap, ◌∙◌, arith}
use Rattle.std.specs.List.{slice_get}
use Rattle.std.proofs.lemmas.Option.{slice_get_read}
use Rattle.hv_ast.specs.declared.statement.Show.{Show}
use Rattle.hv_ast.specs.declared.statement.Show.TheVariants as show
use Rattle.hv_ast.specs.declared.statement.Stmt.{Stmt}
use Rattle.hv_grammar.specs.Texts.{tree_of}
use Rattle.hv_value.specs.declared.row.Row.{Row}
use Rattle.hv_meaning.specs.Meaning.{meaning_of}
use Rattle.hv_history.specs.declared.shown.Shown.{Shown}
use Rattle.hv_history.specs.declared.state.Transaction.{Transaction}
use Rattle.hv_history.specs.Standing.{first_open}
use Rattle.hv_history.specs.State.{State, Job, numbered, seen_tables, means, meaning_in}
use Rattle.hv_history.specs.Shown.{each_from, filled, job_names, job_rows, listed_by, show_listed, show_of, shows}
use Rattle.hv_showing.proofs.Each.{each-next}
use Rattle.hv_showing.specs.Fronts.{rows_at}
use Rattle.tests_books.specs.Replay.{state_at}

there : (ts : List Transaction) (number at : ℕ) (t : Transaction) → number ≡ at + 1 → at < length ts → t ≡ get_or ts at t → numbered ts number ≡ Some t
there ts zero at t e within is = absurd (omega (arith, e))
there ts (suc n) at t e within is =
    let same : n ≡ at = omega (arith, e) in
    ap (slice_get ts) same ∙ slice_get_read ts (length ts) at t refl within is

-- the rows of one more
pub one-more : (f : ℕ → Transaction → List Row) (ts : List Transaction) (at : ℕ) (t : Transaction) (rows next all : List Row)
    → at < length ts → t ≡ get_or ts at t → next ≡ rows ++ f (at + 1) t
    → rows ++ each_from f (at + 1) (drop at ts) ≡ all → next ++ each_from f (at + 1 + 1) (drop (at + 1) ts) ≡ all
one-more f ts at t rows next all within is put before =
    let of : rows_at f (at + 1) (numbered ts (at + 1)) ≡ f (at + 1) t = ap (rows_at f (at + 1)) (there ts (at + 1) at t refl within is) in
    each-next f ts at rows next all (put ∙ ap (λ (ys : List Row). rows ++ ys) (sym of)) before

-- ---- whatever else the state has, but for jobs

module _ (state : State) (place : ℕ) (none : state.jobs ≡ []) where
  abbrev alone : State
  alone = state_at place state.transactions state.tables

  listed-alone : (o : Option Show) → listed_by alone o ≡ listed_by state o
  unfolding show_listed
  listed-alone None = refl
  listed-alone (Some show.Tables) = refl
  listed-alone (Some (show.Partitions name)) = refl
  listed-alone (Some show.Transactions) = refl
  listed-alone (Some show.Locks) = refl
  listed-alone (Some show.Compactions) =
      ap (λ (jobs : List Job). shows job_names (job_rows state.tables (first_open 1 state.transactions) 1 jobs)) (sym none)

  means-alone : (o : Option Stmt) → means alone o ≡ means state o
  means-alone None = refl
  means-alone (Some tree) = ap (λ (shown : Option Shown). filled shown (meaning_of (seen_tables state.tables) tree)) (listed-alone (show_of tree))

  pub meaning-alone : (text : List ℕ) → meaning_in alone text ≡ meaning_in state text
  unfolding meaning_in
  meaning-alone text = means-alone (tree_of text)
