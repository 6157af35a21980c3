-- A run in which no device failed and memory was found makes the serial history.
use Rattle.std.proofs.Common.{◌≡◌, ℕ, inl, inr, Option, Some, None, List, [], ◌∷◌, ◌++◌, refl, ap, ◌∙◌, subst, append_assoc}
use Rattle.std.specs.Prelude.{Bool}
use Rattle.std.specs.List.{AllByRecursion}
use Rattle.hv_script.specs.declared.actions.Action.{Action}
use Rattle.hv_script.specs.declared.actions.Action.TheVariants as action
use Rattle.hv_history.specs.declared.entry.Entry.{Entry}
use Rattle.hv_history.specs.Legal.{IsLegal, profile}
use Rattle.hv_law_next.specs.Order.{AreSteady}
use Rattle.hv_law_next.proofs.Going.{legal-parts}
use Rattle.hv_program.specs.Change.{from_to}
use Rattle.hv_program.specs.Doing.{Waiting, Standing, waiting_in, asking_of, ReleasesOne, IsDone, AreDone}
use Rattle.hv_program.specs.Running.{beginning}
use Rattle.hv_law_serial.specs.Serial.{released, serial_one, serial}
use Rattle.hv_law_serial.specs.History.{AddsSteadily, IsNoFailure, AddsNoFailure, memory_line, AreInMemory, PassesWhole, AreWholePasses, SerialHistory}
use Rattle.hv_law_serial.proofs.Actions.{Grown, IsSettled, IsThere, all-found, grows-one, grows-all, settled-one}
use Rattle.hv_law_serial.proofs.Passing.{compacts-same, cleans-same}
use Rattle.hv_law_serial.proofs.Statements.{at-once, put-off, goes-on-held}

-- one action
serially-one : (start book : List Entry) (before between : Standing) (first : Action) (reply : List ℕ) (refused : Bool)
    → IsDone (from_to start book) before between first reply refused → IsSettled before → IsLegal profile between.book
    → AddsSteadily before.book between.book → AddsNoFailure before.book between.book → (reply ≡ memory_line → ⊥) → PassesWhole before between first
    → between ≡ serial_one before first
serially-one start book before between (action.Announce session) reply refused done settled legal steady unfailed in_memory pass = done.0
serially-one start book before between action.Barrier reply refused done settled legal steady unfailed in_memory pass = done.0
serially-one start book before between (action.Run statement) reply refused (inl replies) settled legal steady unfailed in_memory pass =
    at-once start book before between (asking_of statement) statement.hold legal steady reply refused replies in_memory
serially-one start book before between (action.Run statement) reply refused (inr off) settled legal steady unfailed in_memory pass =
    put-off start book before between (asking_of statement) statement.hold legal steady reply refused off
serially-one start book before between (action.Release session) reply refused done settled legal steady unfailed in_memory pass =
    by (waiting_in session.name before.waiting) refl done
  where
    by : (o : Option Waiting) → waiting_in session.name before.waiting ≡ o → ReleasesOne (from_to start book) before between session.name o reply refused
        → between ≡ released before session.name o
    by None is done = done.0
    by (Some w) is done =
        goes-on-held start book before between session.name w reply refused
        (all-found (IsThere before.book) session.name before.waiting w is settled.there) legal steady done.0 done.1
serially-one start book before between action.Compact reply refused done settled legal steady unfailed in_memory pass =
    λ i. record { book = compacts-same before.book between.book done.adds legal unfailed i; waiting = done.waiting_same i }
serially-one start book before between action.Clean reply refused done settled legal steady unfailed in_memory pass =
    λ i. record { book = cleans-same before.book between.book pass legal i; waiting = done.waiting_same i }

-- what was added, in two parts
steady-parts : (events more : List Entry) → AreSteady (events ++ more) → AreSteady events × AreSteady more
steady-parts [] more h = (tt, h)
steady-parts (event ∷ events) more h = let rest = steady-parts events more h.1 in ((h.0, rest.0), rest.1)

steady-front : (before between now : List Entry) → Grown between now → AddsSteadily before now → AddsSteadily before between
steady-front before between now grown steady added goes =
    (steady-parts added grown.0 (steady (added ++ grown.0) (grown.1 ∙ ap (λ xs. xs ++ grown.0) goes ∙ append_assoc before added grown.0))).0

steady-behind : (before between now : List Entry) → Grown before between → AddsSteadily before now → AddsSteadily between now
steady-behind before between now grown steady added goes =
    (steady-parts grown.0 added (steady (grown.0 ++ added) (goes ∙ ap (λ xs. xs ++ added) grown.1 ∙ append_assoc before grown.0 added))).1

-- and so of compactions that were given up
unfailed-parts : (events more : List Entry) → AllByRecursion IsNoFailure (events ++ more) → AllByRecursion IsNoFailure events × AllByRecursion IsNoFailure more
unfailed-parts [] more h = (tt, h)
unfailed-parts (event ∷ events) more h = let rest = unfailed-parts events more h.1 in ((h.0, rest.0), rest.1)

unfailed-front : (before between now : List Entry) → Grown between now → AddsNoFailure before now → AddsNoFailure before between
unfailed-front before between now grown unfailed added goes =
    (unfailed-parts added grown.0 (unfailed (added ++ grown.0) (grown.1 ∙ ap (λ xs. xs ++ grown.0) goes ∙ append_assoc before added grown.0))).0

unfailed-behind : (before between now : List Entry) → Grown before between → AddsNoFailure before now → AddsNoFailure between now
unfailed-behind before between now grown unfailed added goes =
    (unfailed-parts grown.0 added (unfailed (grown.0 ++ added) (goes ∙ ap (λ xs. xs ++ added) grown.1 ∙ append_assoc before grown.0 added))).1

-- several
serially : (start : List Entry) (before now : Standing) (actions : List Action) (output : List ℕ) (refused : Bool)
    (done : AreDone (from_to start now.book) before now actions output refused) → IsSettled before → IsLegal profile now.book → AddsSteadily before.book now.book
    → AddsNoFailure before.book now.book → AreInMemory (from_to start now.book) before now actions output refused done
    → AreWholePasses (from_to start now.book) before now actions output refused done → now ≡ serial before actions
serially start before now [] output refused done settled legal steady unfailed in_memory passes = done.0
serially start before now (first ∷ more) output refused done settled legal steady unfailed in_memory passes =
    let between : Standing = done.0 in
    let front = grows-one start now.book before between first done.1 done.3 done.5 in
    let behind = grows-all start now.book between now more done.2 done.4 done.6 in
    let one = serially-one start now.book before between first done.1 done.3 done.5 settled
    (legal-parts between.book behind.0 (subst (IsLegal profile) behind.1 legal)).front
    (steady-front before.book between.book now.book behind steady) (unfailed-front before.book between.book now.book behind unfailed) in_memory.0 passes.0 in
    serially start between now more done.2 done.4 done.6 (settled-one start now.book before between first done.1 done.3 done.5 settled) legal
    (steady-behind before.book between.book now.book front steady) (unfailed-behind before.book between.book now.book front unfailed) in_memory.1 passes.1
    ∙ ap (λ (s : Standing). serial s more) one

pub serial-history : SerialHistory
serial-history start now actions output refused done steady =
    serially start (beginning start) now actions output refused done (record { there = tt }) steady.legal steady.steady steady.unfailed steady.in_memory
    steady.passes
