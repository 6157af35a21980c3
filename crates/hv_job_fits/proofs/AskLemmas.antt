-- When a job may be asked for.
use Rattle.std.proofs.Common.{◌≡◌, ◌⊎◌, inl, inr, ℕ, ◌+◌, Option, Some, None, List, length, refl, sym, ap, ◌∙◌}
use Rattle.std.specs.Prelude.{Bool, true, false, not, nat_eq, ◌==◌, ◌&&◌, ◌||◌, ◌↔◌, IsTrue, IsSomeAnd}
use Rattle.std.specs.Option.{option_map}
use Rattle.std.specs.Cmp.Lexicographic.{pointwise}
use Rattle.std.proofs.lemmas.Bool.{eq-eqb, eqb-true}
use Rattle.hv_base.specs.declared.ids.Limits.{Limits}
use Rattle.hv_ast.specs.declared.statement.Stmt.{Stmt}
use Rattle.hv_ast.specs.declared.statement.Stmt.TheVariants as stmt
use Rattle.hv_queue.specs.hv_history.specs.declared.entry.JobKind.{JobKind}
use Rattle.hv_queue.specs.hv_history.specs.declared.state.Table.{Table}
use Rattle.hv_queue.specs.hv_history.specs.declared.state.Transaction.{Transaction}
use Rattle.hv_queue.specs.hv_history.specs.State.{State, numbered, opening_tree}
use Rattle.hv_queue.specs.hv_history.specs.Legal.{HasRoom, IsRunning, Of}
use Rattle.hv_queue.specs.hv_history.specs.Jobs.{has_busy, is_live_one}
use Rattle.hv_queue.specs.hv_history.specs.JobsFit.{name_in, is_of_kind, asks_to_compact, IsAsker, AskedFits}
use Rattle.hv_queue.specs.hv_tallies.specs.hv_earlier.specs.hv_meta.specs.hv_book.specs.Briefs.{tree_in}
use Rattle.hv_queue.specs.hv_tallies.specs.hv_earlier.specs.hv_meta.specs.hv_book.specs.Names.{name_in as named_in}
use Rattle.hv_queue.specs.hv_tallies.specs.hv_earlier.specs.hv_meta.specs.hv_book.specs.Said.{said}
use Rattle.hv_queue.specs.hv_tallies.specs.hv_earlier.specs.hv_meta.proofs.FactLemmas.{and-left, and-right, and-both, false-is}
use Rattle.hv_job_fits.specs.Notes.{compacts}

-- ---- a test that is equal to another one

pub same-law : (P : Type 0) (b c : Bool) → b ≡ c → (IsTrue c ↔ P) → IsTrue b ↔ P
same-law P b c same law = (λ e. law.0 (sym same ∙ e), λ p. same ∙ law.1 p)

-- ---- who asks

names-same : (o : Option Table) → named_in o ≡ name_in o
names-same None = refl
names-same (Some table) = refl

compacts-are : (tables : List Table) (table : ℕ) (kind : JobKind) (tree : Option Stmt)
    → compacts tables table kind tree ≡ asks_to_compact (name_in (numbered tables table)) kind tree
compacts-are tables table kind None = refl
compacts-are tables table kind (Some (stmt.Compact compact)) =
    ap (λ name. pointwise nat_eq name compact.table && is_of_kind kind compact.kind) (names-same (numbered tables table))
compacts-are tables table kind (Some other) = refl

-- what is kept of a text asks for the same
asks-said : (name : List ℕ) (kind : JobKind) (tree : Option Stmt) → asks_to_compact name kind (option_map said tree) ≡ asks_to_compact name kind tree
asks-said name kind None = refl
asks-said name kind (Some (stmt.Insert insert)) = refl
asks-said name kind (Some tree) = refl

module _ (state : State) (table : ℕ) (kind : JobKind) where
  abbrev name : List ℕ
  name = name_in (numbered state.tables table)

  asker-in : (o : Option Transaction) (tree : Option Stmt) → tree ≡ tree_in o → (r a : Bool) → (IsTrue r ↔ IsSomeAnd o IsRunning)
      → a ≡ compacts state.tables table kind tree → (IsTrue (r && a)) ↔ IsSomeAnd o (IsAsker name kind)
  asker-in None tree is r a running asks = (λ e. running.0 (and-left r a e), λ h. absurd h)
  asker-in (Some t) tree is r a running asks =
      let same : a ≡ asks_to_compact name kind (opening_tree t) =
      asks ∙ compacts-are state.tables table kind tree ∙ ap (asks_to_compact name kind) is ∙ asks-said name kind (opening_tree t)
      in (
        λ e. record { running = running.0 (and-left r a e); asks = sym same ∙ and-right r a e },
        λ h. and-both r a (running.1 h.running) (same ∙ h.asks),
      )

  pub asker-law : (by : ℕ) (tree : Option Stmt) → tree ≡ tree_in (numbered state.transactions by) → (r a : Bool) → (IsTrue r ↔ Of state by IsRunning)
      → a ≡ compacts state.tables table kind tree → (IsTrue (r && a)) ↔ Of state by (IsAsker name kind)
  asker-law by tree is r a running asks = asker-in (numbered state.transactions by) tree is r a running asks

or-right : (c a : Bool) → a ≡ true → (c || a) ≡ true
or-right true a e = refl
or-right false a e = e

pub either-law : (by : ℕ) (P : Type 0) (a : Bool) → (IsTrue a ↔ P) → (IsTrue ((by == 0) || a)) ↔ ((by ≡ 0) ⊎ P)
either-law by P a law = (λ e. to (by == 0) refl e, from)
  where
    to : (c : Bool) → (by == 0) ≡ c → (c || a) ≡ true → (by ≡ 0) ⊎ P
    to true same e = inl (eqb-true by 0 same)
    to false same e = inr (law.0 e)

    from : (by ≡ 0) ⊎ P → ((by == 0) || a) ≡ true
    from (inl none) = ap (λ c. c || a) (eq-eqb by 0 none)
    from (inr p) = or-right (by == 0) a (law.1 p)

-- ---- all that is asked of an Asked

pub asked-law : (limits : Limits) (state : State) (job table : ℕ) (partition : List ℕ) (kind : JobKind) (by next : ℕ) (l busy a r : Bool)
    → l ≡ is_live_one (numbered state.tables table) → next ≡ length state.jobs + 1 → busy ≡ has_busy state table partition
    → (IsTrue a ↔ ((by ≡ 0) ⊎ Of state by (IsAsker (name_in (numbered state.tables table)) kind))) → (IsTrue r ↔ HasRoom limits state 1)
    → (IsTrue (l && ((job == next) && (not busy && (a && r))))) ↔ AskedFits limits state job table partition kind by
asked-law limits state job table partition kind by next l busy a r lives number busies asker room = (
  λ e.
      let e1 : ((job == next) && (not busy && (a && r))) ≡ true = and-right l ((job == next) && (not busy && (a && r))) e in
      let e2 : (not busy && (a && r)) ≡ true = and-right (job == next) (not busy && (a && r)) e1 in
      let e3 : (a && r) ≡ true = and-right (not busy) (a && r) e2 in
      let idle = false-is busy in
      record {
        live = sym lives ∙ and-left l ((job == next) && (not busy && (a && r))) e;
        next = eqb-true job next (and-left (job == next) (not busy && (a && r)) e1) ∙ number;
        free = sym busies ∙ idle.0 (and-left (not busy) (a && r) e2);
        asker = asker.0 (and-left a r e3);
        room = room.0 (and-right a r e3);
      },
  λ h.
      let idle = false-is busy in
      let e3 : (a && r) ≡ true = and-both a r (asker.1 h.asker) (room.1 h.room) in
      let e2 : (not busy && (a && r)) ≡ true = and-both (not busy) (a && r) (idle.1 (busies ∙ h.free)) e3 in
      let e1 : ((job == next) && (not busy && (a && r))) ≡ true = and-both (job == next) (not busy && (a && r)) (eq-eqb job next (h.next ∙ sym number)) e2 in
      and-both l ((job == next) && (not busy && (a && r))) (lives ∙ h.live) e1,
)
