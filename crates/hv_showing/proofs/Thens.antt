-- How a transaction stood before a place of a book, by how it stands behind the whole of it and by the notes.
use Rattle.std.proofs.Common.{◌≡◌, ℕ, zero, suc, ◌+◌, ◌<◌, ◌≤◌, Bool, true, false, Option, Some, None, List, [], ◌∷◌, ◌++◌, length, map, take, drop, fold, refl, sym, ap, ◌∙◌, subst, arith}
use Rattle.std.specs.Prelude.{is_some, is_none, if◌then◌else◌, ◌&&◌, IsSomeAnd}
use Rattle.std.specs.Option.{option_map}
use Rattle.std.specs.List.{slice_get, AllByRecursion}
use Rattle.std.proofs.lemmas.Bool.{lt-ltb, le-ltb}
use Rattle.std.proofs.lemmas.List.{map-append, append-nil, append_assoc, length-take, length-drop}
use Rattle.hv_base.specs.declared.ids.Limits.{Limits}
use Rattle.hv_base.specs.declared.ids.Touch.{Touch}
use Rattle.hv_ast.specs.declared.statement.Stmt.{Stmt}
use Rattle.hv_grammar.specs.Texts.{tree_of}
use Rattle.hv_history.specs.declared.entry.Entry.{Entry}
use Rattle.hv_history.specs.declared.entry.Entry.TheVariants as entry
use Rattle.hv_history.specs.declared.state.Ending.{Ending}
use Rattle.hv_history.specs.declared.state.Ending.TheVariants.{Committed, Aborted, Made, Dropped}
use Rattle.hv_history.specs.declared.state.Snapshot.{Snapshot}
use Rattle.hv_history.specs.declared.state.Statement.{Statement}
use Rattle.hv_history.specs.declared.state.Transaction.{Transaction}
use Rattle.hv_history.specs.State.{State, nothing_yet, numbered, changed, first_of, while_open, unless_ended, started, given_id, committed, ended, opened, statement_tree, acted, after, state_of}
use Rattle.hv_history.specs.Legal.{is_open, is_started, locks_of, AllFit}
use Rattle.hv_history.specs.Lasting.{AllLater, Later}
use Rattle.hv_history.specs.Shown.{inserted_by, inserted_of, has_kept, stood_rows, transaction_rows, held_rows, lock_rows}
use Rattle.hv_history.proofs.LastingLaws.{goes-on-all}
use Rattle.hv_fits.specs.Texts.{HasOneText, TextsRun}
use Rattle.hv_fits.proofs.LockLemmas.{IfThere, texts-run, one-lock, kept-tree, same-names, numbered-all}
use Rattle.hv_book.specs.Briefs.{brief, snapshot_place, session_in, tree_in}
use Rattle.hv_book.specs.Said.{said}
use Rattle.hv_book.specs.Commits.{wrote_by, wrote_in}
use Rattle.hv_book.specs.Past.{is_before, IsBelowLimit}
use Rattle.hv_book.proofs.NoteLaws.{map-same}
use Rattle.hv_book.proofs.TextLaws.{numbered-map, all-snoc}
use Rattle.hv_book.proofs.IdLaws.{all-more}
use Rattle.hv_book.proofs.CommitLaws.{all-changed}
use Rattle.hv_book.proofs.BookLaws.{follows}
use Rattle.hv_earlier.specs.Fates.{fate_by, fate_of}
use Rattle.hv_earlier.proofs.PlaceLaws.{go-on}
use Rattle.hv_showing.specs.Fronts.{then_at, transactions_then, tables_then, rows_at, started_in, runs_so, is_running_in, is_done, inserted_in, shown_so, held_in}
use Rattle.hv_showing.specs.Marks.{is_marked}
use Rattle.hv_showing.proofs.Marked.{front-fits}

-- ---- the one that it is later

module _ (entries : List Entry) (position txn : ℕ) where
  abbrev now_there : Option Transaction
  now_there = numbered (state_of entries).transactions txn

  abbrev then_there : Option Transaction
  then_there = then_at entries position txn

  later : (t : Transaction) → then_there ≡ Some t → IsSomeAnd now_there (Later t)
  later t here =
      subst (λ (state : State). IsSomeAnd (numbered state.transactions txn) (Later t)) (sym (go-on entries position))
      ((goes-on-all (drop position entries) (state_of (take position entries))).transactions txn t here)

  -- ---- what it had written

  abbrev pub wrote_if : Bool → Option (List Touch) → Option (List Touch)
  wrote_if true wrote = wrote
  wrote_if false wrote = None

  -- one that had ended is the same now
  ended-now : (t : Transaction) (e : Ending) → then_there ≡ Some t → t.ending ≡ Some e → wrote_in now_there ≡ wrote_by t.ending
  ended-now t e here is = by now_there (later t here)
    where
      by : (o : Option Transaction) → IsSomeAnd o (Later t) → wrote_in o ≡ wrote_by t.ending
      by None late = absurd late
      by (Some u) late = ap (λ (v : Transaction). wrote_by v.ending) (late.ending e is)

  pub wrote-then : wrote_in then_there ≡ wrote_if (is_done (option_map fate_of then_there)) (wrote_in now_there)
  wrote-then = by then_there refl
    where
      of : (t : Transaction) → then_there ≡ Some t → (e : Option Ending) → t.ending ≡ e → wrote_by e ≡ wrote_if (is_done (Some (fate_by e))) (wrote_in now_there)
      of t here None is = refl
      of t here (Some (Committed place wrote)) is = sym (ended-now t (Committed place wrote) here is ∙ ap wrote_by is)
      of t here (Some (Aborted place cause)) is = refl
      of t here (Some (Made place table)) is = sym (ended-now t (Made place table) here is ∙ ap wrote_by is)
      of t here (Some (Dropped place table)) is = sym (ended-now t (Dropped place table) here is ∙ ap wrote_by is)

      by : (o : Option Transaction) → then_there ≡ o → wrote_in o ≡ wrote_if (is_done (option_map fate_of o)) (wrote_in now_there)
      by None here = refl
      by (Some t) here = of t here t.ending refl

  -- ---- its session

  session-by : (t : Transaction) (o : Option Transaction) → IsSomeAnd o (Later t) → session_in o ≡ Some t.session
  session-by t None late = absurd late
  session-by t (Some u) late = ap (λ (s : List ℕ). Some s) late.session

  pub session-then : (t : Transaction) → then_there ≡ Some t → session_in now_there ≡ Some t.session
  session-then t here = session-by t now_there (later t here)

  -- ---- the tree of its text

  first-same : (before now : List Statement) → AllLater before now → statement_tree (slice_get now 0) ≡ statement_tree (slice_get before 0)
  first-same [] [] h = refl
  first-same [] (s ∷ now) h = absurd h
  first-same (s ∷ before) [] h = absurd h
  first-same (s ∷ before) (r ∷ now) h = ap (λ text. tree_of text) h.0.text

  tree-by : (t : Transaction) (o : Option Transaction) → IsSomeAnd o (Later t) → tree_in o ≡ tree_in (Some t)
  tree-by t None late = absurd late
  tree-by t (Some u) late = ap (option_map said) (first-same t.statements u.statements late.statements)

  pub tree-then : (t : Transaction) → then_there ≡ Some t → tree_in now_there ≡ tree_in (Some t)
  tree-then t here = tree-by t now_there (later t here)

-- ---- whether it had started

module _ (position : ℕ) where
  -- it started before that place
  abbrev start_then : Transaction → Bool
  start_then t = is_before position (option_map snapshot_place t.snapshot)

  leaves-start : (f : Transaction → Transaction) → ((t : Transaction) → (f t).snapshot ≡ t.snapshot) → (t : Transaction) → start_then (while_open f t) ≡ start_then t
  leaves-start f same t = by t.ending
    where
      by : (o : Option Ending) → start_then (unless_ended o t (f t)) ≡ start_then t
      by None = ap (λ (s : Option Snapshot). is_before position (option_map snapshot_place s)) (same t)
      by (Some e) = refl

  -- a Start at that place or behind it is none before it
  starts-late : (state : State) (number : ℕ) → position ≤ state.entries → (t : Transaction) → start_then (while_open (started state number) t) ≡ start_then t
  starts-late state number late t = by t.ending
    where
      new : (o : Option Snapshot) → is_before position (option_map snapshot_place (first_of o (record { place = state.entries; tables = state.tables; opened = length state.transactions })))
          ≡ is_before position (option_map snapshot_place o)
      new None = le-ltb state.entries position late
      new (Some s) = refl

      by : (o : Option Ending) → start_then (unless_ended o t (started state number t)) ≡ start_then t
      by None = new t.snapshot
      by (Some e) = refl

  abbrev unstarted : Entry → List Bool
  unstarted (entry.Opened txn session number text) = false ∷ []
  unstarted _ = []

  abbrev unstarted_all : List Entry → List Bool
  unstarted_all [] = []
  unstarted_all (event ∷ more) = unstarted event ++ unstarted_all more

  none-more : (ts us : List Transaction) → map start_then us ≡ map start_then ts → map start_then us ≡ map start_then ts ++ []
  none-more ts us same = same ∙ sym (append-nil (map start_then ts))

  left : (f : Transaction → Transaction) → ((t : Transaction) → (f t).snapshot ≡ t.snapshot) → (ts : List Transaction) (txn : ℕ)
      → map start_then (changed (while_open f) ts txn) ≡ map start_then ts ++ []
  left f same ts txn = none-more ts (changed (while_open f) ts txn) (map-same start_then (while_open f) (leaves-start f same) ts txn)

  starts-next : (state : State) (event : Entry) → position ≤ state.entries
      → map start_then (after state event).transactions ≡ map start_then state.transactions ++ unstarted event
  unfolding acted
  starts-next state (entry.Opened txn session number text) late = map-append start_then state.transactions (opened session number text ∷ [])
  starts-next state (entry.Start txn statement) late =
      none-more state.transactions (changed (while_open (started state statement)) state.transactions txn.0)
      (map-same start_then (while_open (started state statement)) (starts-late state statement late) state.transactions txn.0)
  starts-next state (entry.Given txn table write) late = left (given_id table.0 write.0) (λ t. refl) state.transactions txn.0
  starts-next state (entry.Commit txn wrote) late = left (committed state.entries wrote) (λ t. refl) state.transactions txn.0
  starts-next state (entry.Abort txn cause) late = left (ended (Aborted state.entries cause)) (λ t. refl) state.transactions txn.0
  starts-next state (entry.Create txn table) late = left (ended (Made state.entries table.0)) (λ t. refl) state.transactions txn.0
  starts-next state (entry.Drop txn table) late = left (ended (Dropped state.entries table.0)) (λ t. refl) state.transactions txn.0
  starts-next state (entry.Boot run) late = none-more state.transactions state.transactions refl
  starts-next state (entry.Asked job table partition kind by) late = none-more state.transactions state.transactions refl
  starts-next state (entry.Picked job watermark) late = none-more state.transactions state.transactions refl
  starts-next state (entry.Published job low high mark) late = none-more state.transactions state.transactions refl
  starts-next state (entry.Empty job) late = none-more state.transactions state.transactions refl
  starts-next state (entry.Cleaned job) late = none-more state.transactions state.transactions refl
  starts-next state (entry.Next txn statement number text) late = none-more state.transactions state.transactions refl
  starts-next state (entry.Did txn statement wrote) late = none-more state.transactions state.transactions refl
  starts-next state (entry.Alter txn table) late = none-more state.transactions state.transactions refl
  starts-next state (entry.Failed job cause) late = none-more state.transactions state.transactions refl
  starts-next state (entry.Forgot table write) late = none-more state.transactions state.transactions refl

  starts-all : (more : List Entry) (state : State) → (0 < length more → position ≤ state.entries)
      → map start_then (fold after state more).transactions ≡ map start_then state.transactions ++ unstarted_all more
  starts-all [] state late = sym (append-nil (map start_then state.transactions))
  starts-all (event ∷ more) state late =
      let here : position ≤ state.entries = late (omega arith) in
      starts-all more (after state event) (λ some. omega (arith, here))
      ∙ ap (λ (bs : List Bool). bs ++ unstarted_all more) (starts-next state event here)
      ∙ append_assoc (map start_then state.transactions) (unstarted event) (unstarted_all more)

-- each Start stands before the end of its book
abbrev IsStartBelow : ℕ → Transaction → Type 0
IsStartBelow limit t = IsBelowLimit limit (option_map snapshot_place t.snapshot)

below-more : (limit : ℕ) (o : Option ℕ) → IsBelowLimit limit o → IsBelowLimit (limit + 1) o
below-more limit None h = tt
below-more limit (Some at) h = omega (arith, h)

start-more : (limit : ℕ) (t : Transaction) → IsStartBelow limit t → IsStartBelow (limit + 1) t
start-more limit t h = below-more limit (option_map snapshot_place t.snapshot) h

below-while : (limit : ℕ) (f : Transaction → Transaction) → ((t : Transaction) → IsStartBelow limit t → IsStartBelow (limit + 1) (f t)) → (t : Transaction)
    → IsStartBelow limit t → IsStartBelow (limit + 1) (while_open f t)
below-while limit f goes t h = by t.ending
  where
    by : (o : Option Ending) → IsStartBelow (limit + 1) (unless_ended o t (f t))
    by None = goes t h
    by (Some e) = start-more limit t h

below-one : (limit : ℕ) (f : Transaction → Transaction) → ((t : Transaction) → IsStartBelow limit t → IsStartBelow (limit + 1) (f t)) → (ts : List Transaction) (txn : ℕ)
    → AllByRecursion (IsStartBelow limit) ts → AllByRecursion (IsStartBelow (limit + 1)) (changed (while_open f) ts txn)
below-one limit f goes ts txn h =
    all-changed (IsStartBelow limit) (IsStartBelow (limit + 1)) (while_open f) (start-more limit) (below-while limit f goes) ts txn h

below-same : (limit : ℕ) (ts : List Transaction) → AllByRecursion (IsStartBelow limit) ts → AllByRecursion (IsStartBelow (limit + 1)) ts
below-same limit ts h = all-more (IsStartBelow limit) (IsStartBelow (limit + 1)) (start-more limit) ts h

start-below : (state : State) (number : ℕ) (t : Transaction) → IsStartBelow state.entries t → IsStartBelow (state.entries + 1) (started state number t)
start-below state number t h = by t.snapshot h
  where
    by : (o : Option Snapshot) → IsBelowLimit state.entries (option_map snapshot_place o)
        → IsBelowLimit (state.entries + 1) (option_map snapshot_place (first_of o (record { place = state.entries; tables = state.tables; opened = length state.transactions })))
    by None k = let next : state.entries < state.entries + 1 = omega arith in next
    by (Some s) k = let before : s.place < state.entries = k in let next : s.place < state.entries + 1 = omega (arith, before) in next

below-next : (state : State) (event : Entry) → AllByRecursion (IsStartBelow state.entries) state.transactions
    → AllByRecursion (IsStartBelow (state.entries + 1)) (after state event).transactions
unfolding acted
below-next state (entry.Opened txn session number text) h =
    all-snoc (IsStartBelow (state.entries + 1)) state.transactions (opened session number text) (below-same state.entries state.transactions h) tt
below-next state (entry.Start txn statement) h = below-one state.entries (started state statement) (start-below state statement) state.transactions txn.0 h
below-next state (entry.Given txn table write) h = below-one state.entries (given_id table.0 write.0) (start-more state.entries) state.transactions txn.0 h
below-next state (entry.Commit txn wrote) h = below-one state.entries (committed state.entries wrote) (start-more state.entries) state.transactions txn.0 h
below-next state (entry.Abort txn cause) h = below-one state.entries (ended (Aborted state.entries cause)) (start-more state.entries) state.transactions txn.0 h
below-next state (entry.Create txn table) h = below-one state.entries (ended (Made state.entries table.0)) (start-more state.entries) state.transactions txn.0 h
below-next state (entry.Drop txn table) h = below-one state.entries (ended (Dropped state.entries table.0)) (start-more state.entries) state.transactions txn.0 h
below-next state (entry.Boot run) h = below-same state.entries state.transactions h
below-next state (entry.Asked job table partition kind by) h = below-same state.entries state.transactions h
below-next state (entry.Picked job watermark) h = below-same state.entries state.transactions h
below-next state (entry.Published job low high mark) h = below-same state.entries state.transactions h
below-next state (entry.Empty job) h = below-same state.entries state.transactions h
below-next state (entry.Cleaned job) h = below-same state.entries state.transactions h
below-next state (entry.Next txn statement number text) h = below-same state.entries state.transactions h
below-next state (entry.Did txn statement wrote) h = below-same state.entries state.transactions h
below-next state (entry.Alter txn table) h = below-same state.entries state.transactions h
below-next state (entry.Failed job cause) h = below-same state.entries state.transactions h
below-next state (entry.Forgot table write) h = below-same state.entries state.transactions h

below-all : (more : List Entry) (state : State) → AllByRecursion (IsStartBelow state.entries) state.transactions
    → AllByRecursion (IsStartBelow (fold after state more).entries) (fold after state more).transactions
below-all [] state h = h
below-all (event ∷ more) state h = below-all more (after state event) (below-next state event h)

-- all that started before that place are started there
told-start : (position limit : ℕ) → limit ≤ position → (t : Transaction) → IsStartBelow limit t → start_then position t ≡ is_started t
told-start position limit within t h = by t.snapshot h
  where
    by : (o : Option Snapshot) → IsBelowLimit limit (option_map snapshot_place o) → is_before position (option_map snapshot_place o) ≡ is_some o
    by None k = refl
    by (Some s) k = let below : s.place < limit = k in lt-ltb s.place position (omega (arith, below, within))

told-starts : (position limit : ℕ) → limit ≤ position → (ts : List Transaction) → AllByRecursion (IsStartBelow limit) ts
    → map (start_then position) ts ≡ map is_started ts
told-starts position limit within [] h = refl
told-starts position limit within (t ∷ ts) h = λ i. told-start position limit within t h.0 i ∷ told-starts position limit within ts h.1 i

-- of the whole book's transactions those that were opened before the place, as they were started there
starts-then : (entries : List Entry) (position : ℕ)
    → map (start_then position) (state_of entries).transactions
    ≡ map is_started (transactions_then entries position) ++ unstarted_all position (drop position entries)
starts-then entries position =
    let front = take position entries in
    let more = drop position entries in
    let short = length-take position entries in
    let rest = length-drop position entries in
    let here = (follows front).entries in
    let below = below-all front nothing_yet tt in
    ap (λ (s : State). map (start_then position) s.transactions) (go-on entries position)
    ∙ starts-all position more (state_of front) (λ some. omega (arith, some, short, rest, here))
    ∙ ap (λ (bs : List Bool). bs ++ unstarted_all position more)
    (told-starts position (state_of front).entries (omega (arith, short, here)) (state_of front).transactions below)

-- what stands at a number stands there in a longer list
get-more : {A : Type 0} (xs ys : List A) (n : ℕ) (x : A) → slice_get xs n ≡ Some x → slice_get (xs ++ ys) n ≡ Some x
get-more [] ys n x is = cc
get-more (y ∷ xs) ys zero x is = is
get-more (y ∷ xs) ys (suc n) x is = get-more xs ys n x is

number-more : {A : Type 0} (xs ys : List A) (n : ℕ) (x : A) → numbered xs n ≡ Some x → numbered (xs ++ ys) n ≡ Some x
number-more xs ys zero x is = cc
number-more xs ys (suc n) x is = get-more xs ys n x is

same-some : (a b : Bool) → Some a ≡ Some b → a ≡ b
same-some a b e = cc

started-by : (position : ℕ) (o : Option Transaction) (b : Bool) → option_map (start_then position) o ≡ Some b → started_in position (option_map brief o) ≡ b
started-by position None b is = cc
started-by position (Some u) b is = same-some (start_then position u) b is

pub started-then : (entries : List Entry) (position txn : ℕ) (t : Transaction) → then_at entries position txn ≡ Some t
    → started_in position (numbered (map brief (state_of entries).transactions) txn) ≡ is_started t
started-then entries position txn t here =
    let now = numbered (state_of entries).transactions txn in
    let then_started : numbered (map is_started (transactions_then entries position)) txn ≡ Some (is_started t) =
    numbered-map is_started (transactions_then entries position) txn ∙ ap (option_map is_started) here in
    let of : option_map (start_then position) now ≡ Some (is_started t) =
    sym (numbered-map (start_then position) (state_of entries).transactions txn)
    ∙ ap (λ (bs : List Bool). numbered bs txn) (starts-then entries position)
    ∙ number-more (map is_started (transactions_then entries position)) (unstarted_all position (drop position entries)) txn (is_started t) then_started in
    ap (started_in position) (numbered-map brief (state_of entries).transactions txn) ∙ started-by position now (is_started t) of

-- ---- whether it ran

runs-by : (e : Option Ending) (started : Bool) → runs_so (Some (fate_by e)) started ≡ (is_none e && started)
runs-by None started = refl
runs-by (Some (Committed place wrote)) started = refl
runs-by (Some (Aborted place cause)) started = refl
runs-by (Some (Made place table)) started = refl
runs-by (Some (Dropped place table)) started = refl

pub runs-then : (entries : List Entry) (position txn : ℕ)
    → runs_so (option_map fate_of (then_at entries position txn)) (started_in position (numbered (map brief (state_of entries).transactions) txn))
    ≡ is_running_in (then_at entries position txn)
runs-then entries position txn = by (then_at entries position txn) refl
  where
    by : (o : Option Transaction) → then_at entries position txn ≡ o
        → runs_so (option_map fate_of o) (started_in position (numbered (map brief (state_of entries).transactions) txn)) ≡ is_running_in o
    by None here = refl
    by (Some t) here =
        runs-by t.ending (started_in position (numbered (map brief (state_of entries).transactions) txn))
        ∙ ap (λ b. is_none t.ending && b) (started-then entries position txn t here)

-- ---- what it gives

wrote-inserted : (table : ℕ) (e : Option Ending) → inserted_in table (wrote_by e) ≡ inserted_by table e
wrote-inserted table None = refl
wrote-inserted table (Some (Committed place wrote)) = refl
wrote-inserted table (Some (Aborted place cause)) = refl
wrote-inserted table (Some (Made place other)) = refl
wrote-inserted table (Some (Dropped place other)) = refl

pub inserted-then : (table number : ℕ) (o : Option Transaction) → inserted_in table (wrote_in o) ≡ rows_at (inserted_of table) number o
inserted-then table number None = refl
inserted-then table number (Some t) = wrote-inserted table t.ending

shown-by : (number : ℕ) (session : List ℕ) (kept : Bool) (e : Option Ending)
    → shown_so number (Some (fate_by e)) kept (Some session) ≡ stood_rows number session kept e
shown-by number session kept None = refl
shown-by number session kept (Some (Committed place wrote)) = refl
shown-by number session kept (Some (Aborted place cause)) = refl
shown-by number session kept (Some (Made place table)) = refl
shown-by number session kept (Some (Dropped place table)) = refl

-- of a transaction by its mark, how it stood, and its session
pub shown-then : (entries : List Entry) (position txn : ℕ)
    → shown_so txn (option_map fate_of (then_at entries position txn))
    (is_marked (option_map (has_kept (tables_then entries position)) (then_at entries position txn)))
    (session_in (numbered (state_of entries).transactions txn))
    ≡ rows_at (transaction_rows (tables_then entries position)) txn (then_at entries position txn)
shown-then entries position txn = by (then_at entries position txn) refl
  where
    by : (o : Option Transaction) → then_at entries position txn ≡ o
        → shown_so txn (option_map fate_of o) (is_marked (option_map (has_kept (tables_then entries position)) o))
        (session_in (numbered (state_of entries).transactions txn))
        ≡ rows_at (transaction_rows (tables_then entries position)) txn o
    by None here = refl
    by (Some t) here =
        ap (shown_so txn (Some (fate_of t)) (has_kept (tables_then entries position) t)) (session-then entries position txn t here)
        ∙ shown-by txn t.session (has_kept (tables_then entries position) t) t.ending

-- ---- its locks

-- each transaction that was there has one text, and it runs
pub texts-then : (limits : Limits) (entries : List Entry) (position : ℕ) → AllFit limits nothing_yet entries → TextsRun (state_of (take position entries))
texts-then limits entries position fit = texts-run limits (take position entries) (front-fits limits position entries nothing_yet fit)

running-locks : (number : ℕ) (t : Transaction) → (is_open t && is_started t) ≡ true → lock_rows number t ≡ held_rows number (locks_of t)
running-locks number t runs = ap (λ b. if b then held_rows number (locks_of t) else []) runs

idle-locks : (number : ℕ) (t : Transaction) → (is_open t && is_started t) ≡ false → lock_rows number t ≡ []
idle-locks number t idle = ap (λ b. if b then held_rows number (locks_of t) else []) idle

held-by : (number : ℕ) (t : Transaction) (o : Option Stmt) → o ≡ tree_in (Some t) → HasOneText t → held_in number o ≡ held_rows number (locks_of t)
held-by number t None is one = let both : None ≡ Some (said one.tree) = is ∙ kept-tree t one in cc
held-by number t (Some tree) is one = ap (held_rows number) (sym (same-names t one tree is) ∙ sym (one-lock t one))

pub held-then : (entries : List Entry) (position txn : ℕ) → TextsRun (state_of (take position entries)) → is_running_in (then_at entries position txn) ≡ true
    → held_in txn (tree_in (numbered (state_of entries).transactions txn)) ≡ rows_at lock_rows txn (then_at entries position txn)
held-then entries position txn texts = by (then_at entries position txn) refl (numbered-all (transactions_then entries position) txn texts)
  where
    by : (o : Option Transaction) → then_at entries position txn ≡ o → IfThere o → is_running_in o ≡ true
        → held_in txn (tree_in (numbered (state_of entries).transactions txn)) ≡ rows_at lock_rows txn o
    by None here one runs = cc
    by (Some t) here one runs =
        held-by txn t (tree_in (numbered (state_of entries).transactions txn)) (tree-then entries position txn t here) one ∙ sym (running-locks txn t runs)

pub none-held : (number : ℕ) (o : Option Transaction) → is_running_in o ≡ false → [] ≡ rows_at lock_rows number o
none-held number None idle = refl
none-held number (Some t) idle = sym (idle-locks number t idle)
