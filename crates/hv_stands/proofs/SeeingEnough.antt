-- What a statement sees and changes, over a book whose entries fit.
use Rattle.std.proofs.Common.{◌≡◌, ℕ, Some, List, ◌++◌, take, drop, fold, sym, ap, ◌∙◌, take-append-drop}
use Rattle.std.proofs.lemmas.List.Sums.{fold-append}
use Rattle.hv_ast.specs.declared.statement.Stmt.{Stmt}
use Rattle.hv_history.specs.declared.entry.Entry.{Entry}
use Rattle.hv_history.specs.declared.state.Table.{Table}
use Rattle.hv_history.specs.hv_built.specs.Built.{IsBuilt}
use Rattle.hv_history.specs.hv_meaning.specs.Meaning.{meaning_of}
use Rattle.hv_history.specs.hv_meaning.specs.Laws.{MeansSomething}
use Rattle.hv_history.specs.Shown.{filled, listed_for}
use Rattle.hv_history.specs.State.{State, nothing_yet, numbered, seen_tables, means, after, state_of}
use Rattle.hv_history.proofs.ShownLaws.{filled-is, filled-change}
use Rattle.hv_history.specs.Lasting.{TableLater}
use Rattle.hv_history.proofs.LastingLaws.{goes-on-all}
use Rattle.hv_stands.specs.Sound.{IsSound}
use Rattle.hv_stands.specs.Statements.{SeeingIsEnough, ChangedTableStood, TablesStay, EffectsCanBeWritten}
use Rattle.hv_stands.proofs.Numbers.{found}
use Rattle.hv_stands.proofs.Meanings.{built-means}
use Rattle.hv_stands.proofs.Tables.{changes-table}
use Rattle.hv_stands.proofs.SeenTables.{reading-enough}
use Rattle.hv_stands.proofs.Written.{effect-written}
use Rattle.hv_stands.proofs.Fitting.{fitting-sound}

pub seeing-enough : SeeingIsEnough
seeing-enough book said needs fit rows keeps =
    ap (filled (listed_for (state_of book) said)) (reading-enough needs said (state_of book).tables rows keeps)

-- a statement of a form that is built means something in every state
pub built-means-in : (state : State) (tree : Stmt) → IsBuilt tree → MeansSomething (means state (Some tree))
built-means-in state tree built =
    filled-is MeansSomething (λ names rows. tt) (listed_for state tree) (meaning_of (seen_tables state.tables) tree)
    (built-means (seen_tables state.tables) tree built)

pub changed-table-stood : ChangedTableStood
changed-table-stood book said info effect fit e =
    let sound : IsSound (state_of book) = fitting-sound book fit in
    let over = filled-change (listed_for (state_of book) said) (meaning_of (seen_tables (state_of book).tables) said) info effect e in
    let change = changes-table (state_of book).tables sound.tables.in_order info effect said over in
    (change.table, change.here, change.info_is)

-- a table stays, behind whatever follows
pub table-stays : (before more : List Entry) (number : ℕ) (table : Table) → numbered (state_of before).tables number ≡ Some table
    → (now : Table) × (numbered (state_of (before ++ more)).tables number ≡ Some now) × TableLater table now
table-stays before more number table at =
    let later = found (TableLater table) (numbered (fold after (state_of before) more).tables number) ((goes-on-all more (state_of before)).tables number table at) in
    (later.0, ap (λ (s : State). numbered s.tables number) (fold-append after nothing_yet before more) ∙ later.1, later.2)

pub tables-stay : TablesStay
tables-stay book place number table fit at =
    let now = table-stays (take place book) (drop place book) number table at in
    (now.0, ap (λ (all : List Entry). numbered (state_of all).tables number) (sym (take-append-drop place book)) ∙ now.1, now.2.info)

pub effects-written : EffectsCanBeWritten
effects-written book said info effect write fit e some few = effect-written (state_of book) said info effect write (fitting-sound book fit) e some few
