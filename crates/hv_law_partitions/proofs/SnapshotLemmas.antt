-- What is so of a transaction from its snapshot on, from entry to entry.
use Rattle.std.proofs.Common.{refl, ◌≡◌, inl, inr, ℕ, ◌+◌, ◌<◌, ◌≤◌, not, is_some, Option, Some, None, List, [], ◌∷◌, ◌++◌, length, map, filter, sym, ap, ◌∙◌, subst, arith, append_assoc, length-append}
use Rattle.std.specs.Prelude.{IsTrue, IsFalse}
use Rattle.std.specs.List.{slice_get, flat_map, AllByRecursion}
use Rattle.std.proofs.lemmas.List.{append-nil}
use Rattle.hv_base.specs.declared.ids.Limits.{Limits}
use Rattle.hv_ast.specs.declared.statement.Stmt.{Stmt}
use Rattle.hv_grammar.specs.Texts.{tree_of}
use Rattle.hv_logic.specs.Rows.{found_cmp}
use Rattle.hv_logic.specs.declared.catalog.TableInfo.{TableInfo}
use Rattle.hv_logic.specs.declared.effect.Effect.{Effect}
use Rattle.hv_logic.specs.declared.effect.Found.{Found}
use Rattle.hv_logic.specs.declared.meaning.Meaning.{Meaning}
use Rattle.hv_logic.specs.declared.meaning.Meaning.TheVariants.{Change}
use Rattle.hv_history.specs.declared.entry.Entry.{Entry}
use Rattle.hv_history.specs.declared.entry.Entry.TheVariants as entry
use Rattle.hv_history.specs.declared.state.Ending.TheVariants.{Aborted, Made, Dropped}
use Rattle.hv_history.specs.declared.state.Snapshot.{Snapshot}
use Rattle.hv_history.specs.declared.state.Statement.{Statement}
use Rattle.hv_history.specs.declared.state.Table.{Table}
use Rattle.hv_history.specs.declared.state.Transaction.{Transaction}
use Rattle.hv_history.specs.declared.state.Written.{Written}
use Rattle.hv_history.specs.Lasting.{IsFront, TableLater}
use Rattle.hv_history.specs.Legal.{StartFits, GivenFits, Fits}
use Rattle.hv_history.specs.State.{State, numbered, changed_at, content_of, is_deleted, given_in, first_of, first_known, meaning, statement_meaning, meaning_in, means, meant_in, wrote_as, while_open, opened, started, given_id, committed, ended, acted, after}
use Rattle.hv_history.proofs.LastingLaws.{goes-on}
use Rattle.hv_stands.specs.Files.{ending_of}
use Rattle.hv_stands.specs.Sound.{IsRoutedWrite, HasSoundWrites, IsOfCommitted, AreOfCommitted, IsSingle, info_in, IsSound}
use Rattle.hv_stands.proofs.Numbers.{same_one, none_is, found, numbered-within}
use Rattle.hv_stands.proofs.Soundness.{all-mapped, all-more, all-numbered, all-changed}
use Rattle.hv_stands.proofs.Keeping.{open-by, all-open}
use Rattle.hv_stands.proofs.Written.{of-tables}
use Rattle.hv_law_visible.proofs.SortingLemmas.{from-sorted}
use Rattle.hv_law_visible.specs.Members.{IsIn}
use Rattle.hv_law_visible.specs.History.{write_of}
use Rattle.hv_law_visible.proofs.MemberLemmas.{from-flat, from-filter}
use Rattle.hv_law_visible.proofs.TakenLemmas.{all-in}
use Rattle.hv_stands.proofs.Owning.{given-or-new}
use Rattle.hv_law_partitions.proofs.IdLemmas.{numbered-in}

-- ---- tables go on

pub front-same : {A : Type 0} (xs : List A) → IsFront xs xs
front-same xs = record { more = []; is = sym (append-nil xs) }

pub front-then : {A : Type 0} (xs ys zs : List A) → IsFront xs ys → IsFront ys zs → IsFront xs zs
front-then xs ys zs a b = record { more = a.more ++ b.more; is = b.is ∙ ap (λ l. l ++ b.more) a.is ∙ append_assoc xs a.more b.more }

front-length : {A : Type 0} (xs ys : List A) → IsFront xs ys → length xs ≤ length ys
front-length xs ys a = let e : length ys ≡ length xs + length a.more = ap length a.is ∙ length-append xs a.more in omega arith

pub record IsLater (before now : Table) : Type 0 where
  pub owners : IsFront before.owners now.owners
  pub writes : IsFront before.writes now.writes

later-same : (t : Table) → IsLater t t
later-same t = record { owners = front-same t.owners; writes = front-same t.writes }

later-then : (a b c : Table) → IsLater a b → IsLater b c → IsLater a c
later-then a b c x y = record { owners = front-then a.owners b.owners c.owners x.owners y.owners; writes = front-then a.writes b.writes c.writes x.writes y.writes }

abbrev pub TablesGoOn : List Table → List Table → Type 0
TablesGoOn tables next = (k : ℕ) (t : Table) → numbered tables k ≡ Some t → (u : Table) × (numbered next k ≡ Some u) × IsLater t u

pub tables-go-on : (s : State) (event : Entry) → TablesGoOn s.tables (after s event).tables
tables-go-on s event k t e =
    let m = found (TableLater t) (numbered (after s event).tables k) ((goes-on s event).tables k t e) in
    (m.0, m.1, record { owners = m.2.owners; writes = m.2.writes })

-- ---- what is known of a transaction

abbrev pub StoodIn : Table → Effect → Type 0
StoodIn before effect = (row : Found) → IsIn row effect.deletes → IsIn row (content_of before.writes) × (write_of row.id ≤ length before.owners)

pub record KnowsSince (tables seen : List Table) (given : List (ℕ × ℕ)) (m : Option Meaning) : Type 0 where
  pub stay : TablesGoOn seen tables
  pub later : (k write : ℕ) (before : Table) → numbered seen k ≡ Some before → given_in k given ≡ Some write → length before.owners < write
  pub deletes : (info : TableInfo) (effect : Effect) → m ≡ Some (Change info effect) → (before : Table) × (numbered seen info.table.0 ≡ Some before) × StoodIn before effect

abbrev pub KnowsBy : List Table → Option Snapshot → List (ℕ × ℕ) → Option Meaning → Type 0
KnowsBy tables None given m = (given ≡ []) × (m ≡ None)
KnowsBy tables (Some snapshot) given m = KnowsSince tables snapshot.tables given m

abbrev pub Knows : List Table → Transaction → Type 0
Knows tables t = KnowsBy tables t.snapshot t.given (meaning t)

pub knows-later : (tables next : List Table) → TablesGoOn tables next → (o : Option Snapshot) (given : List (ℕ × ℕ)) (m : Option Meaning)
    → KnowsBy tables o given m → KnowsBy next o given m
knows-later tables next on None given m h = h
knows-later tables next on (Some snapshot) given m h = record {
  stay = λ k t e. let a = h.stay k t e in let b = on k a.0 a.1 in (b.0, b.1, later-then t a.0 b.0 a.2 b.2);
  later = h.later;
  deletes = h.deletes;
}

-- ---- at its Start

content-below : (s : State) (number : ℕ) (table : Table) → IsSound s → numbered s.tables number ≡ Some table
    → (row : Found) → IsIn row (content_of table.writes) → write_of row.id ≤ length table.owners
unfolding content_of
content-below s number table sound is row at =
    let rows : List Found = flat_map (λ (w : Written). w.inserts) table.writes in
    let m = from-filter (λ found. not (is_deleted table.writes found)) row rows
    (from-sorted found_cmp row (filter (λ found. not (is_deleted table.writes found)) rows) at) in
    let k = from-flat (λ (w : Written). w.inserts) row table.writes m.0 in
    let writes = all-numbered HasSoundWrites s.tables number table is sound.tables.written in
    let routed = all-in (IsRoutedWrite table.info.shape) table.writes k.0 writes.each k.1 in
    let write_is : write_of row.id ≡ k.0.write = (numbered-in [] table.info.shape k.0 row routed k.2).write_is in
    let all = all-numbered (AreOfCommitted (map ending_of s.transactions)) s.tables number table is sound.committed in
    let one = all-in (IsOfCommitted (map ending_of s.transactions) table.owners) table.writes k.0 all k.1 in
    subst (λ n. n ≤ length table.owners) (sym write_is) (numbered-within table.owners k.0.write one.0 one.1).1

deletes-stood : (s : State) (text : List ℕ) (info : TableInfo) (effect : Effect) → IsSound s → meaning_in s text ≡ Some (Change info effect)
    → (before : Table) × (numbered s.tables info.table.0 ≡ Some before) × StoodIn before effect
unfolding meaning_in
deletes-stood s text info effect sound = by (tree_of text)
  where
    by : (o : Option Stmt) → means s o ≡ Some (Change info effect) → (before : Table) × (numbered s.tables info.table.0 ≡ Some before) × StoodIn before effect
    by None e = cc
    by (Some tree) e =
        let there = of-tables s tree info effect sound e in
        let table : Table = there.change.table in (
          table,
          there.change.here,
          λ row at.
              let picked = from-filter there.change.deletes.0 row (content_of table.writes) (subst (IsIn row) there.change.deletes.1 at) in
              (picked.0, content-below s info.table.0 table sound there.change.here row picked.0),
        )

pub meaning-single : (t : Transaction) (statement : Statement) → t.statements ≡ statement ∷ [] → meaning t ≡ statement.meaning
meaning-single t statement one = ap (λ ss. statement_meaning (slice_get ss 0)) one

start-since : (s : State) (t : Transaction) → IsSound s → IsSingle (map info_in s.tables) t → (t.given ≡ []) × (meaning t ≡ None)
    → KnowsSince s.tables s.tables t.given (meaning (started s 0 t))
start-since s t sound single none =
    let statement : Statement = single.statement in
    let before : statement.meaning ≡ None = sym (meaning-single t statement single.one) ∙ none.1 in
    let now : meaning (started s 0 t) ≡ meaning_in s statement.text =
    ap (λ ss. statement_meaning (slice_get (changed_at (meant_in s) ss 0) 0)) single.one
    ∙ ap (λ (o : Option Meaning). first_known o (meaning_in s statement.text)) before in
    record {
      stay = λ k u e. (u, e, later-same u);
      later = λ k write u e given. absurd (none_is (given_in k t.given) write (ap (given_in k) none.0) given);
      deletes = λ info effect e. deletes-stood s statement.text info effect sound (sym now ∙ e);
    }

none-some : {A : Type 0} (o : Option A) → IsFalse (is_some o) → o ≡ None
none-some None h = refl
none-some (Some x) h = cc

start-knows : (s : State) (t : Transaction) → IsSound s → IsSingle (map info_in s.tables) t → t.snapshot ≡ None → Knows s.tables t → Knows s.tables (started s 0 t)
start-knows s t sound single none h =
    let snapshot : Snapshot = record { place = s.entries; tables = s.tables; opened = length s.transactions } in
    subst (λ o. KnowsBy s.tables (first_of o snapshot) t.given (meaning (started s 0 t))) (sym none)
    (start-since s t sound single (subst (λ o. KnowsBy s.tables o t.given (meaning t)) none h))

-- ---- a write id more

given-later : (tables next : List Table) (key : ℕ) (table : Table) (given : List (ℕ × ℕ)) (m : Option Meaning) → numbered tables key ≡ Some table
    → TablesGoOn tables next → (o : Option Snapshot) → IsTrue (is_some o) → KnowsBy tables o given m → KnowsBy next o (given ++ (key, length table.owners + 1) ∷ []) m
given-later tables next key table given m is on None taken h = cc
given-later tables next key table given m is on (Some snapshot) taken h = record {
  stay = (knows-later tables next on (Some snapshot) given m h).stay;
  later = λ k write before e given_is. elim (given-or-new given key (length table.owners + 1) k write given_is) [
    | inl old ↦ h.later k write before e old
    | inr new ↦
        let a = h.stay k before e in
        let same : a.0 ≡ table = same_one (numbered tables key) a.0 table (ap (numbered tables) (sym new.0) ∙ a.1) is in
        let up : length before.owners ≤ length a.0.owners = front-length before.owners a.0.owners a.2.owners in
        let up_to : length before.owners ≤ length table.owners = subst (λ (t : Table). length before.owners ≤ length t.owners) same up in
        let is_new : write ≡ length table.owners + 1 = new.1 in
        omega arith
  ];
  deletes = h.deletes;
}

-- ---- entry by entry

meaning-wrote : (given : List (ℕ × ℕ)) (ss : List Statement) → statement_meaning (slice_get ss 0) ≡ statement_meaning (slice_get (changed_at (wrote_as given 0) ss 0) 0)
meaning-wrote given [] = refl
meaning-wrote given (statement ∷ ss) = refl

pub knows-after : (limits : Limits) (s : State) (event : Entry) → Fits limits s event → IsSound s → AllByRecursion (Knows s.tables) s.transactions
    → AllByRecursion (Knows (after s event).tables) (after s event).transactions
unfolding acted
knows-after limits s (entry.Boot run) fits sound h = h
knows-after limits s (entry.Opened txn session number text) fits sound h =
    all-more (Knows s.tables) s.transactions (opened session number text) h (refl, refl)
knows-after limits s (entry.Start txn statement) fits sound h =
    let here = found (StartFits limits s statement) (numbered s.transactions txn.0) fits in
    let t : Transaction = here.0 in
    let single = all-numbered (IsSingle (map info_in s.tables)) s.transactions txn.0 t here.1 sound.single in
    all-changed (Knows s.tables) (Knows s.tables) (while_open (started s statement)) s.transactions txn.0 t here.1 (λ u k. k)
    (λ k. open-by (Knows s.tables) t (started s statement t) t.ending k
    (subst (λ n. Knows s.tables (started s n t)) (sym here.2.first)
    (start-knows s t sound single (none-some t.snapshot here.2.waiting.unstarted) k))) h
knows-after limits s (entry.Given txn table write) fits sound h =
    let next : List Table = (after s (entry.Given txn table write)).tables in
    let on : TablesGoOn s.tables next = tables-go-on s (entry.Given txn table write) in
    let here = found (GivenFits limits s table.0 write.0) (numbered s.transactions txn.0) fits in
    let t : Transaction = here.0 in
    let live = found (λ (u : Table). IsTrue u.is_live × (write.0 ≡ length u.owners + 1)) (numbered s.tables table.0) here.2.live in
    all-changed (Knows s.tables) (Knows next) (while_open (given_id table.0 write.0)) s.transactions txn.0 t here.1
    (λ u k. knows-later s.tables next on u.snapshot u.given (meaning u) k)
    (λ k. open-by (Knows next) t (given_id table.0 write.0 t) t.ending (knows-later s.tables next on t.snapshot t.given (meaning t) k)
    (subst (λ n. Knows next (given_id table.0 n t)) (sym live.2.1)
    (given-later s.tables next table.0 live.0 t.given (meaning t) live.1 on t.snapshot here.2.running.started k))) h
knows-after limits s (entry.Commit txn wrote) fits sound h =
    let next : List Table = (after s (entry.Commit txn wrote)).tables in
    let on : TablesGoOn s.tables next = tables-go-on s (entry.Commit txn wrote) in
    all-open (Knows next) (committed s.entries wrote)
    (λ t k. subst (KnowsBy next t.snapshot t.given) (meaning-wrote t.given t.statements) k) s.transactions txn.0
    (all-mapped (Knows s.tables) (Knows next) (λ u k. knows-later s.tables next on u.snapshot u.given (meaning u) k) s.transactions h)
knows-after limits s (entry.Abort txn cause) fits sound h =
    all-open (Knows s.tables) (ended (Aborted s.entries cause)) (λ t k. k) s.transactions txn.0 h
knows-after limits s (entry.Create txn table) fits sound h =
    let next : List Table = (after s (entry.Create txn table)).tables in
    let on : TablesGoOn s.tables next = tables-go-on s (entry.Create txn table) in
    all-open (Knows next) (ended (Made s.entries table.0)) (λ t k. k) s.transactions txn.0
    (all-mapped (Knows s.tables) (Knows next) (λ u k. knows-later s.tables next on u.snapshot u.given (meaning u) k) s.transactions h)
knows-after limits s (entry.Drop txn table) fits sound h =
    let next : List Table = (after s (entry.Drop txn table)).tables in
    let on : TablesGoOn s.tables next = tables-go-on s (entry.Drop txn table) in
    all-open (Knows next) (ended (Dropped s.entries table.0)) (λ t k. k) s.transactions txn.0
    (all-mapped (Knows s.tables) (Knows next) (λ u k. knows-later s.tables next on u.snapshot u.given (meaning u) k) s.transactions h)
knows-after limits s (entry.Asked job table partition kind by) fits sound h = h
knows-after limits s (entry.Picked job mark) fits sound h = h
knows-after limits s (entry.Published job low high mark) fits sound h = h
knows-after limits s (entry.Empty job) fits sound h = h
knows-after limits s (entry.Cleaned job) fits sound h = h
knows-after limits s (entry.Failed job cause) fits sound h = h
knows-after limits s (entry.Forgot table write) fits sound h =
    all-mapped (Knows s.tables) (Knows (after s (entry.Forgot table write)).tables)
    (λ t known. knows-later s.tables (after s (entry.Forgot table write)).tables (tables-go-on s (entry.Forgot table write)) t.snapshot t.given (meaning t) known)
    s.transactions h
knows-after limits s event fits sound h = absurd fits
