-- No open transaction is changing rows in a table that was dropped: it holds a lock of the table's name, under which the table stood at its
-- snapshot.
use Rattle.std.proofs.Common.{◌≡◌, ◌⊎◌, inl, inr, ℕ, zero, suc, Bool, true, false, true≢false, cond, is_none, Option, Some, None, List, [], ◌∷◌, ◌++◌, fold, refl, sym, ap, ◌∙◌, subst, length}
use Rattle.std.specs.Prelude.{IsTrue, IsSomeAnd, option_map, slice_get}
use Rattle.std.specs.List.{flat_map, AllByRecursion}
use Rattle.hv_base.specs.declared.ids.Limits.{Limits}
use Rattle.hv_shelf.specs.declared.place.DirAt.{DirAt}
use Rattle.hv_ast.specs.declared.statement.Stmt.{Stmt}
use Rattle.hv_ast.specs.declared.statement.Stmt.TheVariants as stmt
use Rattle.hv_locks.specs.declared.table.Lock.{Lock}
use Rattle.hv_logic.specs.declared.catalog.TableInfo.{TableInfo}
use Rattle.hv_logic.specs.declared.effect.Effect.{Effect}
use Rattle.hv_logic.specs.declared.meaning.Meaning.{Meaning}
use Rattle.hv_logic.specs.declared.meaning.Meaning.TheVariants.{Change}
use Rattle.hv_logic.specs.declared.seen.Seen.{Seen}
use Rattle.hv_logic.specs.Names.{shared, names_in}
use Rattle.hv_history.specs.hv_built.specs.hv_grammar.specs.Texts.{tree_of}
use Rattle.hv_history.specs.hv_meaning.specs.Meaning.{meaning_of}
use Rattle.hv_history.specs.hv_meaning.specs.Laws.{change_name, ChangesNamed}
use Rattle.hv_history.specs.hv_meaning.proofs.Meanings.{changes-named}
use Rattle.hv_history.specs.declared.entry.Entry.{Entry}
use Rattle.hv_history.specs.declared.entry.Entry.TheVariants as entry
use Rattle.hv_history.specs.declared.state.Ending.TheVariants.{Aborted, Made, Dropped}
use Rattle.hv_history.specs.declared.state.Snapshot.{Snapshot}
use Rattle.hv_history.specs.declared.state.Statement.{Statement}
use Rattle.hv_history.specs.declared.state.Table.{Table}
use Rattle.hv_history.specs.declared.state.Transaction.{Transaction}
use Rattle.hv_history.specs.Shown.{listed_for}
use Rattle.hv_history.specs.State.{State, nothing_yet, numbered, changed_at, first_of, first_known, meant_in, means, meaning, meaning_in, statement_meaning, seen_table, seen_tables, opened, started, given_id, wrote_as, committed, ended, while_open, acted, after, state_of}
use Rattle.hv_history.specs.Legal.{StartFits, Fits, AllFit, locks_of_tree, locks_of, is_named, is_named_there, profile}
use Rattle.hv_history.proofs.ShownLaws.{filled-change}
use Rattle.hv_stands.specs.Sound.{NumberedFrom, IsSound}
use Rattle.hv_stands.specs.Reading.{table_of_name}
use Rattle.hv_stands.proofs.Keeping.{open-by, all-open, sound-after, nothing-sound}
use Rattle.hv_stands.proofs.Numbers.{found, none_is, one_value}
use Rattle.hv_stands.proofs.Soundness.{all-more, all-changed, all-numbered}
use Rattle.hv_stands.proofs.Tables.{named-seen, named-numbered}
use Rattle.hv_law_locks.proofs.Before.{started-locks}
use Rattle.hv_law_locks.proofs.Holding.{given-live}
use Rattle.hv_law_locks.proofs.Texts.{locks-kept}
use Rattle.hv_law_made.specs.Standing.{is_live_table}
use Rattle.hv_telling.specs.hv_law_work.specs.hv_law_marks.specs.Marked.{ChangesBy, IsChanging}
use Rattle.hv_telling.specs.hv_law_work.specs.hv_law_marks.proofs.Books.{unstarted}
use Rattle.hv_telling.specs.hv_law_work.specs.Marks.{IsDropped, IsDead, MayGoNow}
use Rattle.hv_job_calls.specs.Refusals.{CanSweep}
use Rattle.hv_job_calls.specs.Sweeping.{IsStagerOf}

-- ---- the table of a change has the name that its text names first

first-name : (tree : Stmt) (name : List ℕ) → change_name tree ≡ Some name → slice_get (names_in tree) 0 ≡ Some (shared name)
first-name (stmt.Insert insert) name e = ap (λ (n : List ℕ). Some (shared n)) (one_value insert.table name e)
first-name (stmt.Update update) name e = ap (λ (n : List ℕ). Some (shared n)) (one_value update.table name e)
first-name (stmt.Delete delete) name e = ap (λ (n : List ℕ). Some (shared n)) (one_value delete.table name e)
first-name (stmt.Merge merge) name e = ap (λ (n : List ℕ). Some (shared n)) (one_value merge.table name e)
first-name (stmt.Truncate truncate) name e = ap (λ (n : List ℕ). Some (shared n)) (one_value truncate.table name e)
first-name other name e = cc

first-more : {A : Type 0} (xs ys : List A) (x : A) → slice_get xs 0 ≡ Some x → slice_get (xs ++ ys) 0 ≡ Some x
first-more [] ys x e = cc
first-more (y ∷ xs) ys x e = e

first-lock : (sts : List Statement) (st : Statement) (rest : List Statement) (tree : Stmt) (lock : Lock) → sts ≡ st ∷ rest → tree_of st.text ≡ Some tree
    → slice_get (names_in tree) 0 ≡ Some lock
    → slice_get (flat_map (λ (statement : Statement). locks_of_tree (tree_of statement.text)) sts) 0 ≡ Some lock
first-lock sts st rest tree lock are is first =
    ap (λ (xs : List Statement). slice_get (flat_map (λ (statement : Statement). locks_of_tree (tree_of statement.text)) xs) 0) are
    ∙ ap (λ (o : Option Stmt). slice_get (locks_of_tree o ++ flat_map (λ (statement : Statement). locks_of_tree (tree_of statement.text)) rest) 0) is
    ∙ first-more (names_in tree) (flat_map (λ (statement : Statement). locks_of_tree (tree_of statement.text)) rest) lock first

-- ---- and that name is the table's

named-by : (name : List ℕ) (first table : Table) (rest : Option Table) → (rest ≡ Some table → is_named name table ≡ true)
    → (b : Bool) → is_named name first ≡ b → cond b (Some first) rest ≡ Some table → is_named name table ≡ true
named-by name first table rest later true is e = let same : first ≡ table = cc in subst (λ (t : Table). is_named name t ≡ true) same is
named-by name first table rest later false is e = later e

named-so : (name : List ℕ) (tables : List Table) (table : Table) → table_of_name name tables ≡ Some table → is_named name table ≡ true
named-so name [] table e = cc
named-so name (first ∷ tables) table e = named-by name first table (table_of_name name tables) (named-so name tables table) (is_named name first) refl e

seen-there : (name : List ℕ) (tables : List Table) (seen : Seen) → NumberedFrom 1 tables → (o : Option Table) → table_of_name name tables ≡ o
    → option_map seen_table o ≡ Some seen → is_named_there name (numbered tables seen.info.table.0) ≡ true
seen-there name tables seen order None at e = cc
seen-there name tables seen order (Some table) at e =
    let own : table.info ≡ seen.info = ap (λ (x : Seen). x.info) (one_value (seen_table table) seen e) in
    ap (λ (i : TableInfo). is_named_there name (numbered tables i.table.0)) (sym own)
    ∙ ap (is_named_there name) (named-numbered name tables table order at) ∙ named-so name tables table at

-- ---- what a transaction means to change stood at its snapshot under a name that it locks

pub record HasItsTable (t : Transaction) (info : TableInfo) : Type 0 where
  pub start : Snapshot
  pub snapshot : t.snapshot ≡ Some start
  pub name : List ℕ
  pub held : slice_get (locks_of t) 0 ≡ Some (shared name)
  pub named : is_named_there name (numbered start.tables info.table.0) ≡ true

pub record IsTied (t : Transaction) : Type 0 where
  pub ties : (info : TableInfo) (effect : Effect) → meaning t ≡ Some (Change info effect) → HasItsTable t info

-- what leaves snapshot, locks and meaning leaves that
same-tied : (t next : Transaction) → next.snapshot ≡ t.snapshot → locks_of next ≡ locks_of t → meaning next ≡ meaning t → IsTied t → IsTied next
same-tied t next snapshot locks means_it tied = record {
  ties = λ info effect e.
      let was = tied.ties info effect (sym means_it ∙ e) in
      record {
        start = was.start;
        snapshot = snapshot ∙ was.snapshot;
        name = was.name;
        held = ap (λ (ls : List Lock). slice_get ls 0) locks ∙ was.held;
        named = was.named;
      };
}

-- the first statement comes to that in this state
pub record ComesNow (s : State) (sts : List Statement) (m : Meaning) : Type 0 where
  pub first : Statement
  pub rest : List Statement
  pub are : sts ≡ first ∷ rest
  pub comes : meaning_in s first.text ≡ Some m

-- it meant this before, or comes to it now
meaning-now : (s : State) (sts : List Statement) (n : ℕ) (m : Meaning) → statement_meaning (slice_get (changed_at (meant_in s) sts n) 0) ≡ Some m
    → (statement_meaning (slice_get sts 0) ≡ Some m) ⊎ ComesNow s sts m
meaning-now s [] n m e = cc
meaning-now s (st ∷ sts) zero m e = by st.meaning e
  where
    by : (o : Option Meaning) → first_known o (meaning_in s st.text) ≡ Some m → (o ≡ Some m) ⊎ ComesNow s (st ∷ sts) m
    by None now = inr (record { first = st; rest = sts; are = refl; comes = now })
    by (Some old) before = inl before
meaning-now s (st ∷ sts) (suc n) m e = inl e

meaning-wrote : (given : List (ℕ × ℕ)) (n : ℕ) (sts : List Statement) (k : ℕ)
    → statement_meaning (slice_get (changed_at (wrote_as given n) sts k) 0) ≡ statement_meaning (slice_get sts 0)
meaning-wrote given n [] k = refl
meaning-wrote given n (st ∷ sts) zero = refl
meaning-wrote given n (st ∷ sts) (suc k) = refl

-- its snapshot is of this state
comes-tied : (s : State) (n : ℕ) (t : Transaction) → IsSound s → t.snapshot ≡ None → (info : TableInfo) (effect : Effect)
    → ComesNow s t.statements (Change info effect) → HasItsTable (started s n t) info
unfolding meaning_in
comes-tied s n t sound waiting info effect now = by (tree_of now.first.text) refl now.comes
  where
    by : (o : Option Stmt) → tree_of now.first.text ≡ o → means s o ≡ Some (Change info effect) → HasItsTable (started s n t) info
    by None is e = absurd (none_is (means s None) (Change info effect) refl e)
    by (Some tree) is e =
        let change : ChangesNamed tree (seen_tables s.tables) info effect =
        changes-named tree (seen_tables s.tables) info effect (filled-change (listed_for s tree) (meaning_of (seen_tables s.tables) tree) info effect e) in
        record {
          start = record { place = s.entries; tables = s.tables; opened = length s.transactions };
          snapshot = ap (λ (o : Option Snapshot). first_of o (record { place = s.entries; tables = s.tables; opened = length s.transactions })) waiting;
          name = change.name;
          held = ap (λ (ls : List Lock). slice_get ls 0) (started-locks s n t)
              ∙ first-lock t.statements now.first now.rest tree (shared change.name) now.are is (first-name tree change.name change.name_is);
          named = ap (λ (i : TableInfo). is_named_there change.name (numbered s.tables i.table.0)) change.info_is
              ∙ seen-there change.name s.tables change.seen sound.tables.in_order (table_of_name change.name s.tables) refl
              (sym (named-seen change.name s.tables) ∙ change.here);
        }

started-tied : (s : State) (n : ℕ) (t : Transaction) → IsSound s → t.snapshot ≡ None → IsTied t → IsTied (started s n t)
started-tied s n t sound waiting tied = record { ties = λ info effect e. by info effect (meaning-now s t.statements n (Change info effect) e) }
  where
    by : (info : TableInfo) (effect : Effect) → (meaning t ≡ Some (Change info effect)) ⊎ ComesNow s t.statements (Change info effect)
        → HasItsTable (started s n t) info
    by info effect (inl before) =
        let was = tied.ties info effect before in
        absurd (none_is t.snapshot was.start waiting was.snapshot)
    by info effect (inr now) = comes-tied s n t sound waiting info effect now

opened-tied : (session : List ℕ) (number : ℕ) (text : List ℕ) → IsTied (opened session number text)
opened-tied session number text = record {
  ties = λ info effect e. absurd (none_is (meaning (opened session number text)) (Change info effect) refl e);
}

-- ---- in every book whose entries fit

tied-after : (limits : Limits) (s : State) (event : Entry) → Fits limits s event → IsSound s → AllByRecursion IsTied s.transactions
    → AllByRecursion IsTied (after s event).transactions
unfolding acted
tied-after limits s (entry.Boot run) fits sound each = each
tied-after limits s (entry.Opened txn session number text) fits sound each =
    all-more IsTied s.transactions (opened session number text) each (opened-tied session number text)
tied-after limits s (entry.Start txn statement) fits sound each =
    let here = found (StartFits limits s statement) (numbered s.transactions txn.0) fits in
    let t : Transaction = here.0 in
    all-changed IsTied IsTied (while_open (started s statement)) s.transactions txn.0 t here.1 (λ x h. h)
    (λ h. open-by IsTied t (started s statement t) t.ending h (started-tied s statement t sound (unstarted t.snapshot here.2.waiting.unstarted) h)) each
tied-after limits s (entry.Given txn table write) fits sound each =
    all-open IsTied (given_id table.0 write.0) (λ t h. same-tied t (given_id table.0 write.0 t) refl refl refl h) s.transactions txn.0 each
tied-after limits s (entry.Commit txn wrote) fits sound each =
    all-open IsTied (committed s.entries wrote)
    (λ t h.
    same-tied t (committed s.entries wrote t) refl (locks-kept (wrote_as t.given 0) (λ st. refl) t.statements 0) (meaning-wrote t.given 0 t.statements 0) h)
    s.transactions txn.0 each
tied-after limits s (entry.Abort txn cause) fits sound each =
    all-open IsTied (ended (Aborted s.entries cause)) (λ t h. same-tied t (ended (Aborted s.entries cause) t) refl refl refl h) s.transactions txn.0 each
tied-after limits s (entry.Create txn table) fits sound each =
    all-open IsTied (ended (Made s.entries table.0)) (λ t h. same-tied t (ended (Made s.entries table.0) t) refl refl refl h) s.transactions txn.0 each
tied-after limits s (entry.Drop txn table) fits sound each =
    all-open IsTied (ended (Dropped s.entries table.0)) (λ t h. same-tied t (ended (Dropped s.entries table.0) t) refl refl refl h) s.transactions txn.0 each
tied-after limits s (entry.Asked job table partition kind by_) fits sound each = each
tied-after limits s (entry.Picked job mark) fits sound each = each
tied-after limits s (entry.Published job low high mark) fits sound each = each
tied-after limits s (entry.Empty job) fits sound each = each
tied-after limits s (entry.Cleaned job) fits sound each = each
tied-after limits s (entry.Failed job why) fits sound each = each
tied-after limits s (entry.Forgot table write) fits sound each = each
tied-after limits s event fits sound each = absurd fits

tied-all : (limits : Limits) (more : List Entry) (s : State) → AllFit limits s more → IsSound s → AllByRecursion IsTied s.transactions
    → AllByRecursion IsTied (fold after s more).transactions
tied-all limits [] s fit sound each = each
tied-all limits (event ∷ more) s fit sound each =
    tied-all limits more (after s event) fit.1 (sound-after limits s event fit.0 sound) (tied-after limits s event fit.0 sound each)

all-tied : (limits : Limits) (book : List Entry) → AllFit limits nothing_yet book → AllByRecursion IsTied (state_of book).transactions
all-tied limits book fit = tied-all limits book nothing_yet fit nothing-sound tt

-- so the table in which one is changing rows is live
pub changing-live : (limits : Limits) (book : List Entry) (txn : ℕ) (info : TableInfo) (effect : Effect) (write : ℕ) → AllFit limits nothing_yet book
    → IsChanging (state_of book) txn info effect write
    → IsSomeAnd (numbered (state_of book).tables info.table.0) (λ (table : Table). IsTrue table.is_live)
changing-live limits book txn info effect write fit changing =
    let at = found (ChangesBy info effect write) (numbered (state_of book).transactions txn) changing in
    let tied = all-numbered IsTied (state_of book).transactions txn at.0 at.1 (all-tied limits book fit) in
    let its = tied.ties info effect at.2.means_it in
    given-live limits book txn at.0 its.start (shared its.name) info.table.0 fit
    (record { here = at.1; unended = ap is_none at.2.unended; snapshot = its.snapshot; place = 0; held = its.held }) its.named

-- ---- a directory of a table that was dropped

live-there : (o : Option Table) → IsSomeAnd o (λ (table : Table). IsTrue table.is_live) → is_live_table o ≡ true
live-there None live = absurd live
live-there (Some table) live = live

dropped-there : (o : Option Table) → IsSomeAnd o (λ (table : Table). table.is_live ≡ false) → is_live_table o ≡ false
dropped-there None dropped = absurd dropped
dropped-there (Some table) dropped = dropped

pub dropped-dead : (limits : Limits) (book : List Entry) (dir : DirAt) → AllFit limits nothing_yet book → IsDropped (state_of book) dir
    → IsDead (state_of book) dir
dropped-dead limits book dir fit dropped = record {
  dropped = dropped;
  quiet = λ txn info effect write changing same.
      true≢false
      (sym (live-there (numbered (state_of book).tables info.table.0) (changing-live limits book txn info effect write fit changing))
      ∙ ap (λ (n : ℕ). is_live_table (numbered (state_of book).tables n)) same ∙ dropped);
}

-- one that isn't staged may be swept where its table was dropped
pub swept-may : (book : List Entry) (dir : DirAt) → AllFit profile nothing_yet book → CanSweep (state_of book) dir → IsStagerOf dir.dir None
    → MayGoNow (state_of book) dir
swept-may book dir fit (inl staged) none = absurd (none staged.0 staged.1)
swept-may book dir fit (inr dropped) none =
    inr (inr (inr (dropped-dead profile book dir fit (dropped-there (numbered (state_of book).tables dir.table.0) dropped))))
