-- What is kept beside a book goes with the state that its entries leave, for every book.
use Rattle.std.proofs.Common.{◌≡◌, ℕ, zero, suc, ◌+◌, ◌≤◌, Option, Some, None, List, [], ◌∷◌, ◌++◌, length, fold, refl, sym, ap, ◌∙◌, subst, arith}
use Rattle.std.specs.List.{AllByRecursion}
use Rattle.std.specs.Prelude.{true}
use Rattle.std.proofs.lemmas.List.{length-append, append-nil, append_assoc}
use Rattle.hv_history.specs.declared.entry.Entry.{Entry}
use Rattle.hv_history.specs.declared.entry.Entry.TheVariants as entry
use Rattle.hv_history.specs.declared.entry.Cause.{Cause}
use Rattle.hv_history.specs.declared.entry.Cause.TheVariants as cause
use Rattle.hv_history.specs.declared.entry.JobCause.{JobCause}
use Rattle.hv_history.specs.declared.entry.JobCause.TheVariants as job_cause
use Rattle.hv_history.specs.State.{State, Openings, openings_behind, aborting, failing, after, state_of, nothing_yet, changed, changed_at, numbered, opening_tree, created_shape}
use Rattle.hv_history.proofs.StateLaws.{fold-snoc}
use Rattle.hv_book.specs.declared.notes.TableNote.{TableNote}
use Rattle.hv_book.specs.Notes.{Notes, Counted, noted, noted_next, counted_of, notes_of, no_notes, ending, one_more, gone}
use Rattle.hv_book.proofs.NoteLaws.{TransactionsFollow, TablesFollow, JobsFollow, OpenFollows, transactions-follow, tables-follow, jobs-follow, open-follows}
use Rattle.hv_book.proofs.TextLaws.{IsSourced, sourced-next, numbered-map}
use Rattle.std.specs.Option.{option_map}
use Rattle.hv_ast.specs.declared.statement.Stmt.{Stmt}
use Rattle.hv_history.specs.declared.state.Transaction.{Transaction}
use Rattle.hv_history.specs.declared.state.Table.{Table}
use Rattle.hv_history.specs.Book.{tree_at}
use Rattle.hv_book.specs.Briefs.{brief, end_of, tree_in, session_at, session_of, session_in, text_tree, shape_at, table_shape}
use Rattle.hv_book.specs.Said.{said, said_at}
use Rattle.hv_book.proofs.SaidLaws.{said-there}
use Rattle.hv_book.proofs.HeldLaws.{HeldFollows, held-next}
use Rattle.hv_book.proofs.CommitLaws.{AreCommits, IsTold, commits-next, told-of}
use Rattle.hv_history.specs.declared.state.Ending.{Ending}
use Rattle.hv_book.specs.declared.notes.TransactionNote.{TransactionNote}
use Rattle.hv_book.specs.Commits.{touches_by, wrote_by, wrote_in}

-- ---- the notes go on by one entry

count-from : (xs : List Entry) (c : Counted) → (fold noted_next c xs).count ≡ c.count + length xs
count-from [] c = omega arith
count-from (x ∷ xs) c = count-from xs (noted_next c x) ∙ (let same : c.count + 1 + length xs ≡ c.count + suc (length xs) = omega arith in same)

pub counted : (xs : List Entry) → (counted_of xs).count ≡ length xs
counted xs = let from = count-from xs (record { count = 0; notes = no_notes }) in omega (arith, from)

pub notes_of-snoc : (xs : List Entry) (x : Entry) → notes_of (xs ++ x ∷ []) ≡ noted (length xs) x (notes_of xs)
notes_of-snoc xs x =
    ap (λ (c : Counted). c.notes) (fold-snoc noted_next (record { count = 0; notes = no_notes }) xs x)
    ∙ ap (λ n. noted n x (notes_of xs)) (counted xs)

pub state_of-snoc : (xs : List Entry) (x : Entry) → state_of (xs ++ x ∷ []) ≡ after (state_of xs) x
state_of-snoc xs x = fold-snoc after nothing_yet xs x

-- ---- and go with the state

pub record Follows (done : List Entry) (state : State) (notes : Notes) : Type 0 where
  pub entries : state.entries ≡ length done
  pub transactions : TransactionsFollow state notes
  pub tables : TablesFollow state notes
  pub jobs : JobsFollow state notes
  pub ongoing : OpenFollows notes
  pub held : HeldFollows state notes
  pub sourced : IsSourced done state notes
  pub commits : AreCommits done state.transactions notes.commits

follows-next : (done : List Entry) (state : State) (notes : Notes) (event : Entry) → Follows done state notes
    → Follows (done ++ event ∷ []) (after state event) (noted state.entries event notes)
follows-next done state notes event h = record {
  entries = ap (λ n. n + 1) h.entries ∙ sym (length-append done (event ∷ []));
  transactions = transactions-follow state event notes h.transactions;
  tables = tables-follow state event notes h.tables;
  jobs = jobs-follow state event notes h.jobs;
  ongoing = open-follows state.entries event notes h.ongoing;
  held = held-next state event notes h.transactions h.held;
  sourced = subst (λ n. IsSourced (done ++ event ∷ []) (after state event) (noted n event notes)) (sym h.entries) (sourced-next done state notes event h.sourced);
  commits = commits-next done state notes event h.entries h.transactions h.commits;
}

follows-all : (more done : List Entry) (state : State) (c : Counted) → c.count ≡ state.entries → Follows done state c.notes
    → Follows (done ++ more) (fold after state more) (fold noted_next c more).notes
follows-all [] done state c same h = subst (λ xs. Follows xs state c.notes) (sym (append-nil done)) h
follows-all (event ∷ more) done state c same h =
    let next = subst (λ n. Follows (done ++ event ∷ []) (after state event) (noted n event c.notes)) (sym same) (follows-next done state c.notes event h) in
    subst (λ xs. Follows xs (fold after (after state event) more) (fold noted_next (noted_next c event) more).notes) (append_assoc done (event ∷ []) more)
    (follows-all more (done ++ event ∷ []) (after state event) (noted_next c event) (ap (λ n. n + 1) same) next)

none-held : HeldFollows nothing_yet no_notes
none-held zero = refl
none-held (suc n) = refl

pub follows : (xs : List Entry) → Follows xs (state_of xs) (notes_of xs)
follows xs =
    follows-all xs [] nothing_yet (record { count = 0; notes = no_notes }) refl
    (record {
      entries = refl;
      transactions = refl;
      tables = refl;
      jobs = refl;
      ongoing = refl;
      held = none-held;
      sourced = record { trees = refl; sessions = refl; below = tt; shapes = refl; texts = tt };
      commits = record { told = tt; below = tt; rising = tt; same = λ passes. refl };
    })

-- ---- bounds

abbrev pub AreBelow : ℕ → List TableNote → Type 0
AreBelow limit = AllByRecursion (λ (note : TableNote). note.high ≤ limit)

below-more : (a b : ℕ) → a ≤ b → (xs : List TableNote) → AreBelow a xs → AreBelow b xs
below-more a b le [] h = tt
below-more a b le (x ∷ xs) h = let first : x.high ≤ a = h.0 in (omega (arith, le, first), below-more a b le xs h.1)

below-changed_at : (limit : ℕ) (f : TableNote → TableNote) → ((x : TableNote) → x.high ≤ limit → (f x).high ≤ limit + 1)
    → (xs : List TableNote) (n : ℕ) → AreBelow limit xs → AreBelow (limit + 1) (changed_at f xs n)
below-changed_at limit f step [] n h = tt
below-changed_at limit f step (x ∷ xs) zero h = (step x h.0, below-more limit (limit + 1) (omega arith) xs h.1)
below-changed_at limit f step (x ∷ xs) (suc n) h = let first : x.high ≤ limit = h.0 in (omega (arith, first), below-changed_at limit f step xs n h.1)

below-changed : (limit : ℕ) (f : TableNote → TableNote) → ((x : TableNote) → x.high ≤ limit → (f x).high ≤ limit + 1)
    → (xs : List TableNote) (n : ℕ) → AreBelow limit xs → AreBelow (limit + 1) (changed f xs n)
below-changed limit f step xs zero h = below-more limit (limit + 1) (omega arith) xs h
below-changed limit f step xs (suc n) h = below-changed_at limit f step xs n h

below-snoc : (limit : ℕ) (xs : List TableNote) (x : TableNote) → AreBelow limit xs → x.high ≤ limit → AreBelow limit (xs ++ x ∷ [])
below-snoc limit [] x h le = (le, tt)
below-snoc limit (y ∷ xs) x h le = (h.0, below-snoc limit xs x h.1 le)

below-next : (place : ℕ) (event : Entry) (notes : Notes) → AreBelow place notes.tables → AreBelow (place + 1) (noted place event notes).tables
unfolding ending one_more gone
below-next place (entry.Given txn table write) notes h = below-changed place one_more (λ x le. omega (arith, le)) notes.tables table.0 h
below-next place (entry.Create txn table) notes h =
    below-snoc (place + 1) notes.tables (record { id = table.0; is_live = true; high = 0 }) (below-more place (place + 1) (omega arith) notes.tables h) (omega arith)
below-next place (entry.Drop txn table) notes h = below-changed place gone (λ x le. omega (arith, le)) notes.tables table.0 h
below-next place (entry.Boot run) notes h = below-more place (place + 1) (omega arith) notes.tables h
below-next place (entry.Opened txn session number text) notes h = below-more place (place + 1) (omega arith) notes.tables h
below-next place (entry.Start txn statement) notes h = below-more place (place + 1) (omega arith) notes.tables h
below-next place (entry.Commit txn wrote) notes h = below-more place (place + 1) (omega arith) notes.tables h
below-next place (entry.Abort txn cause) notes h = below-more place (place + 1) (omega arith) notes.tables h
below-next place (entry.Asked job table partition kind by) notes h = below-more place (place + 1) (omega arith) notes.tables h
below-next place (entry.Picked job watermark) notes h = below-more place (place + 1) (omega arith) notes.tables h
below-next place (entry.Published job low high mark) notes h = below-more place (place + 1) (omega arith) notes.tables h
below-next place (entry.Empty job) notes h = below-more place (place + 1) (omega arith) notes.tables h
below-next place (entry.Cleaned job) notes h = below-more place (place + 1) (omega arith) notes.tables h
below-next place (entry.Next txn statement number text) notes h = below-more place (place + 1) (omega arith) notes.tables h
below-next place (entry.Did txn statement wrote) notes h = below-more place (place + 1) (omega arith) notes.tables h
below-next place (entry.Alter txn table) notes h = below-more place (place + 1) (omega arith) notes.tables h
below-next place (entry.Failed job cause) notes h = below-more place (place + 1) (omega arith) notes.tables h
below-next place (entry.Forgot table write) notes h = below-more place (place + 1) (omega arith) notes.tables h

below-all : (xs : List Entry) (c : Counted) → AreBelow c.count c.notes.tables → AreBelow (fold noted_next c xs).count (fold noted_next c xs).notes.tables
below-all [] c h = h
below-all (x ∷ xs) c h = below-all xs (noted_next c x) (below-next c.count x c.notes h)

-- no table has more ids than there are entries
pub high-below : (xs : List Entry) → AreBelow (length xs) (notes_of xs).tables
high-below xs = subst (λ n. AreBelow n (notes_of xs).tables) (counted xs) (below-all xs (record { count = 0; notes = no_notes }) tt)

aborts : (cause : Cause) (openings : Openings) → (aborting cause openings).count ≡ openings.count
aborts cause.Lost openings = refl
aborts cause.Rollback openings = refl
aborts (cause.ReadFault count) openings = refl
aborts (cause.WriteFault count) openings = refl
aborts (cause.Refused number) openings = refl
aborts (cause.Conflict by table partition) openings = refl
aborts (cause.Request by) openings = refl
aborts cause.Full openings = refl
aborts (cause.Twice partition row) openings = refl
aborts (cause.Blocked holder) openings = refl
aborts (cause.Damaged place) openings = refl
aborts cause.RowLimit openings = refl
aborts cause.PartitionLimit openings = refl
aborts cause.Memory openings = refl

fails : (cause : JobCause) (openings : Openings) → (failing cause openings).count ≡ openings.count
fails (job_cause.ReadFault count) openings = refl
fails (job_cause.WriteFault count) openings = refl
fails (job_cause.Damaged place) openings = refl
fails job_cause.Gone openings = refl
fails job_cause.Memory openings = refl
fails job_cause.Lost openings = refl

boots-next : (place : ℕ) (event : Entry) (openings : Openings) → openings.count ≤ place → (openings_behind place event openings).count ≤ place + 1
boots-next place (entry.Boot run) openings h = omega (arith, h)
boots-next place (entry.Abort txn cause) openings h = omega (arith, h, aborts cause openings)
boots-next place (entry.Failed job cause) openings h = omega (arith, h, fails cause openings)
boots-next place (entry.Opened txn session number text) openings h = omega (arith, h)
boots-next place (entry.Start txn statement) openings h = omega (arith, h)
boots-next place (entry.Given txn table write) openings h = omega (arith, h)
boots-next place (entry.Commit txn wrote) openings h = omega (arith, h)
boots-next place (entry.Create txn table) openings h = omega (arith, h)
boots-next place (entry.Drop txn table) openings h = omega (arith, h)
boots-next place (entry.Asked job table partition kind by) openings h = omega (arith, h)
boots-next place (entry.Picked job watermark) openings h = omega (arith, h)
boots-next place (entry.Published job low high mark) openings h = omega (arith, h)
boots-next place (entry.Empty job) openings h = omega (arith, h)
boots-next place (entry.Cleaned job) openings h = omega (arith, h)
boots-next place (entry.Next txn statement number text) openings h = omega (arith, h)
boots-next place (entry.Did txn statement wrote) openings h = omega (arith, h)
boots-next place (entry.Alter txn table) openings h = omega (arith, h)
boots-next place (entry.Forgot table write) openings h = omega (arith, h)

boots-all : (xs : List Entry) (state : State) → state.openings.count ≤ state.entries → (fold after state xs).openings.count ≤ (fold after state xs).entries
boots-all [] state h = h
boots-all (x ∷ xs) state h = boots-all xs (after state x) (boots-next state.entries x state.openings h)

-- there are no more Boots than entries
pub boots-below : (xs : List Entry) → (state_of xs).openings.count ≤ length xs
boots-below xs =
    let most = boots-all xs nothing_yet (omega arith) in
    let same = (follows xs).entries in
    omega (arith, most, same)

-- ---- texts

met : (t : Option Stmt) (o : Option Transaction) → Some t ≡ option_map opening_tree o → option_map said t ≡ tree_in o
met t None e = cc
met t (Some transaction) e = let same : t ≡ opening_tree transaction = cc in ap (option_map said) same

missed : (o : Option Transaction) → None ≡ option_map opening_tree o → None ≡ tree_in o
missed None e = refl
missed (Some transaction) e = cc

trees-numbered : (xs : List Entry) (txn : ℕ) → option_map (tree_at xs) (numbered (notes_of xs).opened txn) ≡ option_map opening_tree (numbered (state_of xs).transactions txn)
trees-numbered xs txn =
    sym (numbered-map (tree_at xs) (notes_of xs).opened txn) ∙ ap (λ ts. numbered ts txn) (follows xs).sourced.trees
    ∙ numbered-map opening_tree (state_of xs).transactions txn

pub tree-known : (xs : List Entry) (txn place : ℕ) → Some place ≡ numbered (notes_of xs).opened txn
    → said_at xs place ≡ tree_in (numbered (state_of xs).transactions txn)
tree-known xs txn place e =
    said-there xs place
    ∙ met (tree_at xs place) (numbered (state_of xs).transactions txn) (ap (option_map (tree_at xs)) e ∙ trees-numbered xs txn)

pub tree-unknown : (xs : List Entry) (txn : ℕ) → None ≡ numbered (notes_of xs).opened txn
    → None ≡ tree_in (numbered (state_of xs).transactions txn)
tree-unknown xs txn e = missed (numbered (state_of xs).transactions txn) (ap (option_map (tree_at xs)) e ∙ trees-numbered xs txn)

-- ---- sessions

session-met : (s : Option (List ℕ)) (o : Option Transaction) → Some s ≡ option_map session_of o → s ≡ session_in o
session-met s None e = cc
session-met s (Some transaction) e = cc

session-missed : (o : Option Transaction) → None ≡ option_map session_of o → None ≡ session_in o
session-missed None e = refl
session-missed (Some transaction) e = cc

sessions-numbered : (xs : List Entry) (txn : ℕ) → option_map (session_at xs) (numbered (notes_of xs).opened txn) ≡ option_map session_of (numbered (state_of xs).transactions txn)
sessions-numbered xs txn =
    sym (numbered-map (session_at xs) (notes_of xs).opened txn) ∙ ap (λ ts. numbered ts txn) (follows xs).sourced.sessions
    ∙ numbered-map session_of (state_of xs).transactions txn

pub session-known : (xs : List Entry) (txn place : ℕ) → Some place ≡ numbered (notes_of xs).opened txn
    → session_at xs place ≡ session_in (numbered (state_of xs).transactions txn)
session-known xs txn place e = session-met (session_at xs place) (numbered (state_of xs).transactions txn) (ap (option_map (session_at xs)) e ∙ sessions-numbered xs txn)

pub session-unknown : (xs : List Entry) (txn : ℕ) → None ≡ numbered (notes_of xs).opened txn
    → None ≡ session_in (numbered (state_of xs).transactions txn)
session-unknown xs txn e = session-missed (numbered (state_of xs).transactions txn) (ap (option_map (session_at xs)) e ∙ sessions-numbered xs txn)

-- ---- shapes

shapes-numbered : (xs : List Entry) (table : ℕ) → option_map (shape_at xs) (numbered (notes_of xs).texts table) ≡ option_map table_shape (numbered (state_of xs).tables table)
shapes-numbered xs table =
    sym (numbered-map (shape_at xs) (notes_of xs).texts table) ∙ ap (λ ts. numbered ts table) (follows xs).sourced.shapes
    ∙ numbered-map table_shape (state_of xs).tables table

pub shape-known : (xs : List Entry) (table : ℕ) (text : Option ℕ) (t : Table) → Some text ≡ numbered (notes_of xs).texts table
    → numbered (state_of xs).tables table ≡ Some t → t.info.shape ≡ created_shape (text_tree xs text)
shape-known xs table text t e is =
    let both : Some (shape_at xs text) ≡ Some (table_shape t) = ap (option_map (shape_at xs)) e ∙ shapes-numbered xs table ∙ ap (option_map table_shape) is in
    let same : shape_at xs text ≡ table_shape t = cc in sym same

pub shape-unknown : {A : Type 0} (xs : List Entry) (table : ℕ) (t : Table) → None ≡ numbered (notes_of xs).texts table
    → numbered (state_of xs).tables table ≡ Some t → A
shape-unknown xs table t e is =
    let both : None ≡ Some (table_shape t) = ap (option_map (shape_at xs)) e ∙ shapes-numbered xs table ∙ ap (option_map table_shape) is in cc

-- ---- what a transaction wrote

told-touches : (xs : List Entry) (o : Option Ending) → IsTold xs o → touches_by xs (option_map end_of o) ≡ wrote_by o
told-touches xs None h = refl
told-touches xs (Some e) h = h.1

wrote-some : (xs : List Entry) (txn : ℕ) (note : TransactionNote) (o : Option Transaction) → Some note ≡ option_map brief o → numbered (state_of xs).transactions txn ≡ o
    → touches_by xs note.ending ≡ wrote_in o
wrote-some xs txn note None e is = cc
wrote-some xs txn note (Some t) e is =
    let same : note ≡ brief t = cc in
    ap (λ (n : TransactionNote). touches_by xs n.ending) same
    ∙ told-touches xs t.ending (told-of xs (state_of xs).transactions txn t (follows xs).commits.told is)

noted-numbered : (xs : List Entry) (txn : ℕ) → numbered (notes_of xs).transactions txn ≡ option_map brief (numbered (state_of xs).transactions txn)
noted-numbered xs txn = ap (λ ts. numbered ts txn) (follows xs).transactions ∙ numbered-map brief (state_of xs).transactions txn

pub wrote-known : (xs : List Entry) (txn : ℕ) (note : TransactionNote) → Some note ≡ numbered (notes_of xs).transactions txn
    → touches_by xs note.ending ≡ wrote_in (numbered (state_of xs).transactions txn)
wrote-known xs txn note e = wrote-some xs txn note (numbered (state_of xs).transactions txn) (e ∙ noted-numbered xs txn) refl

no-note : (o : Option Transaction) → None ≡ option_map brief o → None ≡ wrote_in o
no-note None e = refl
no-note (Some t) e = cc

pub wrote-unknown : (xs : List Entry) (txn : ℕ) → None ≡ numbered (notes_of xs).transactions txn
    → None ≡ wrote_in (numbered (state_of xs).transactions txn)
wrote-unknown xs txn e = no-note (numbered (state_of xs).transactions txn) (e ∙ noted-numbered xs txn)
