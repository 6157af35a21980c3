-- The rows that a write deleted stood at its transaction's snapshot.
use Rattle.std.proofs.Common.{refl, ◌≡◌, ◌⊎◌, inl, inr, ℕ, zero, suc, ◌<◌, ◌≤◌, is_some, Option, Some, None, List, [], ◌∷◌, ◌++◌, length, map, option_map, fold, sym, ap, ◌∙◌, subst, arith}
use Rattle.std.specs.Prelude.{IsTrue}
use Rattle.std.specs.List.{slice_get, flat_map, AllByRecursion}
use Rattle.std.specs.Option.{option_to_list}
use Rattle.std.proofs.lemmas.List.{append-nil}
use mathlib.Core.List.{map-append}
use Rattle.hv_base.specs.declared.ids.Limits.{Limits}
use Rattle.hv_base.specs.declared.ids.RowId.{RowId}
use Rattle.hv_logic.specs.declared.catalog.TableInfo.{TableInfo}
use Rattle.hv_logic.specs.declared.effect.Effect.{Effect}
use Rattle.hv_logic.specs.declared.effect.Found.{Found}
use Rattle.hv_logic.specs.declared.meaning.Meaning.{Meaning}
use Rattle.hv_logic.specs.declared.meaning.Meaning.TheVariants.{Refused, Listing, Change, Make, Unmake, Ask, Plain, Twice, RowLimit, PartitionLimit}
use Rattle.hv_history.specs.declared.entry.Entry.{Entry}
use Rattle.hv_history.specs.declared.entry.Entry.TheVariants as entry
use Rattle.hv_history.specs.declared.state.Snapshot.{Snapshot}
use Rattle.hv_history.specs.declared.state.Statement.{Statement}
use Rattle.hv_history.specs.declared.state.Table.{Table}
use Rattle.hv_history.specs.declared.state.Transaction.{Transaction}
use Rattle.hv_history.specs.declared.state.Written.{Written}
use Rattle.hv_history.specs.Lasting.{IsFront, Later}
use Rattle.hv_history.specs.Legal.{CommitFits, Fits, AllFit}
use Rattle.hv_history.specs.State.{State, numbered, changed, changed_at, forgot, nothing_yet, state_of, given_in, meaning, wrote_as, writes_of, written_by, owned, dropped, written_to, commits, tables_behind, made_by, acted, after}
use Rattle.hv_history.proofs.LastingLaws.{kept-more, goes-on}
use Rattle.hv_stands.specs.Sound.{info_in, given_of, owners_of, given_among, IsSingle, IsSound}
use Rattle.hv_stands.proofs.Numbers.{one_value, same_one, found, numbered-map, numbered-or-last}
use Rattle.hv_stands.proofs.Soundness.{all-numbered}
use Rattle.hv_stands.proofs.Keeping.{owner-table, sound-after, nothing-sound}
use Rattle.hv_law_visible.specs.Members.{IsIn}
use Rattle.hv_law_visible.specs.History.{Write, write_of}
use Rattle.hv_law_visible.proofs.MemberLemmas.{in-either, from-map}
use Rattle.hv_law_partitions.specs.Partitions.{id_of, rows_of, write_in, written_in, writes_in}
use Rattle.hv_law_partitions.specs.Partitions as parts
use Rattle.hv_law_partitions.specs.Deletes.{StoodAtSnapshot, DeletedRowsStood, IsLeft, IsDeletedLater, DeletesAreLater, HistoryIsSound}
use Rattle.hv_law_partitions.proofs.ContentLemmas.{from-rows, content-of-partition}
use Rattle.hv_law_partitions.proofs.CommitLemmas.{book-sound}
use Rattle.hv_law_partitions.proofs.IdLemmas.{sound-ids}
use Rattle.hv_law_partitions.proofs.SnapshotLemmas.{front-then, IsLater, tables-go-on, KnowsBy, Knows, knows-after, meaning-single}

-- ---- it stays so

pub owner-front : (xs ys : List ℕ) (n txn : ℕ) → IsFront xs ys → numbered xs n ≡ Some txn → numbered ys n ≡ Some txn
owner-front xs ys n txn front e =
    let m = found (λ y. txn ≡ y) (numbered (xs ++ front.more) n) (kept-more (λ x y. x ≡ y) (λ x. refl) xs front.more n txn e) in
    ap (λ l. numbered l n) front.is ∙ m.1 ∙ ap Some (sym m.2)

stood-later : (s : State) (event : Entry) (number : ℕ) (table next : Table) (written : Written) → numbered s.tables number ≡ Some table
    → numbered (after s event).tables number ≡ Some next → StoodAtSnapshot s number table written → StoodAtSnapshot (after s event) number next written
stood-later s event number table next written is now h =
    let m = tables-go-on s event number table is in
    let same : m.0 ≡ next = same_one (numbered (after s event).tables number) m.0 next m.1 now in
    let later : IsLater table next = subst (IsLater table) same m.2 in
    let t = found (Later h.transaction) (numbered (after s event).transactions h.txn) ((goes-on s event).transactions h.txn h.transaction h.here) in
    record {
      txn = h.txn;
      owner = owner-front table.owners next.owners written.write h.txn later.owners h.owner;
      transaction = t.0;
      here = t.1;
      snapshot = h.snapshot;
      taken = t.2.snapshot h.snapshot h.taken;
      before = h.before;
      stood = h.stood;
      went_on = front-then h.before.writes table.writes next.writes h.went_on later.writes;
      later = h.later;
      each = h.each;
    }

-- ---- where a written row of now was

changed-slice : {A : Type 0} (f : A → A) (xs : List A) (n k : ℕ) (y : A) → slice_get (changed_at f xs n) k ≡ Some y
    → (x : A) × (slice_get xs k ≡ Some x) × ((y ≡ x) ⊎ ((k ≡ n) × (y ≡ f x)))
changed-slice f [] n k y e = cc
changed-slice f (x ∷ xs) zero zero y e = (x, refl, inr (refl, sym (one_value (f x) y e)))
changed-slice f (x ∷ xs) zero (suc k) y e = (y, e, inl refl)
changed-slice f (x ∷ xs) (suc n) zero y e = (x, refl, inl (sym (one_value x y e)))
changed-slice f (x ∷ xs) (suc n) (suc k) y e =
    let m = changed-slice f xs n k y e in
    (m.0, m.1, elim m.2 [ inl same ↦ inl same | inr new ↦ inr (ap suc new.0, new.1) ])

pub changed-from : {A : Type 0} (f : A → A) (xs : List A) (n k : ℕ) (y : A) → numbered (changed f xs n) k ≡ Some y
    → (x : A) × (numbered xs k ≡ Some x) × ((y ≡ x) ⊎ ((k ≡ n) × (y ≡ f x)))
changed-from f xs zero k y e = (y, e, inl refl)
changed-from f xs (suc n) zero y e = cc
changed-from f xs (suc n) (suc k) y e =
    let m = changed-slice f xs n k y e in
    (m.0, m.1, elim m.2 [ inl same ↦ inl same | inr new ↦ inr (ap suc new.0, new.1) ])

-- of these tables it was written before
abbrev pub WasWritten : List Table → ℕ → Written → Type 0
WasWritten tables number written = (table : Table) × (numbered tables number ≡ Some table) × IsIn written table.writes

-- where a change keeps a table's writes
pub kept-was : (f : Table → Table) → ((t : Table) → (f t).writes ≡ t.writes) → (key : ℕ) (tables : List Table) (number : ℕ) (next : Table) (written : Written)
    → numbered (changed f tables key) number ≡ Some next → IsIn written next.writes → WasWritten tables number written
kept-was f kept key tables number next written is at =
    let m = changed-from f tables key number next is in (
      m.0,
      m.1,
      elim m.2 [
        | inl same ↦ subst (λ (t : Table). IsIn written t.writes) same at
        | inr new ↦ subst (IsIn written) (kept m.0) (subst (λ (t : Table). IsIn written t.writes) new.1 at)
      ],
    )

pub given-was : (txn key : ℕ) (tables : List Table) (number : ℕ) (next : Table) (written : Written) → numbered (changed (owned txn) tables key) number ≡ Some next
    → IsIn written next.writes → WasWritten tables number written
given-was txn key tables number next written is at = kept-was (owned txn) (λ t. refl) key tables number next written is at

pub dropped-was : (key : ℕ) (tables : List Table) (number : ℕ) (next : Table) (written : Written) → numbered (changed dropped tables key) number ≡ Some next
    → IsIn written next.writes → WasWritten tables number written
dropped-was key tables number next written is at = kept-was dropped (λ t. refl) key tables number next written is at

pub made-was : (tables : List Table) (made : Table) → made.writes ≡ [] → (number : ℕ) (next : Table) (written : Written)
    → numbered (tables ++ made ∷ []) number ≡ Some next → IsIn written next.writes → WasWritten tables number written
made-was tables made none number next written is at = elim (numbered-or-last tables made number next is) [
  | inl old ↦ (next, old, at)
  | inr new ↦ absurd (subst (IsIn written) none (subst (λ (t : Table). IsIn written t.writes) new.1 at))
]

-- written before, or what is written now
pub wrote-was : (x : ℕ × Written) (tables : List Table) (number : ℕ) (next : Table) (written : Written) → numbered (changed (written_to x.1) tables x.0) number ≡ Some next
    → IsIn written next.writes → WasWritten tables number written ⊎ ((number ≡ x.0) × (x.1 ≡ written))
wrote-was x tables number next written is at =
    let m = changed-from (written_to x.1) tables x.0 number next is in
    elim m.2 [
      | inl same ↦ inl (m.0, m.1, subst (λ (t : Table). IsIn written t.writes) same at)
      | inr new ↦ elim (in-either written m.0.writes (x.1 ∷ []) (subst (λ (t : Table). IsIn written t.writes) new.1 at)) [
        | inl old ↦ inl (m.0, m.1, old)
        | inr last ↦ inr (new.0, elim last [ inl e ↦ e | inr none ↦ absurd none ])
      ]
    ]

-- ---- what a commit writes

abbrev pub OneWrite : Option Meaning → List (ℕ × ℕ) → List (ℕ × Written) → Type 0
OneWrite m given ws =
    (ws ≡ []) ⊎ ((info : TableInfo) × (effect : Effect) × (write : ℕ) × (m ≡ Some (Change info effect)) × (given_in info.table.0 given ≡ Some write)
    × (ws ≡ (info.table.0, written_by info.shape write 0 effect) ∷ []))

change-write : (info : TableInfo) (effect : Effect) (given : List (ℕ × ℕ)) (o : Option ℕ) → given_in info.table.0 given ≡ o
    → OneWrite (Some (Change info effect)) given (option_to_list (option_map (λ write. (info.table.0, written_by info.shape write 0 effect)) o))
change-write info effect given None e = inl refl
change-write info effect given (Some write) e = inr (info, effect, write, refl, e, refl)

one-write : (m : Option Meaning) (given : List (ℕ × ℕ)) → OneWrite m given (writes_of m 0 given)
one-write None given = inl refl
one-write (Some (Refused why)) given = inl refl
one-write (Some (Listing names rows)) given = inl refl
one-write (Some (Change info effect)) given = change-write info effect given (given_in info.table.0 given) refl
one-write (Some (Make shape)) given = inl refl
one-write (Some (Unmake table)) given = inl refl
one-write (Some (Ask table region kind)) given = inl refl
one-write (Some Plain) given = inl refl
one-write (Some (Twice region row)) given = inl refl
one-write (Some RowLimit) given = inl refl
one-write (Some PartitionLimit) given = inl refl

pub single-writes : (infos : List TableInfo) (t : Transaction) → IsSingle infos t → OneWrite (meaning t) t.given (commits (Some t))
single-writes infos t single =
    subst (λ m. OneWrite m t.given (commits (Some t))) (sym (meaning-single t single.statement single.one))
    (subst (OneWrite single.statement.meaning t.given)
    (sym (ap (λ (ss : List Statement). flat_map (λ (statement : Statement). statement.wrote) (changed_at (wrote_as t.given 0) ss 0)) single.one
    ∙ append-nil (writes_of single.statement.meaning 0 t.given)))
    (one-write single.statement.meaning t.given))

-- ---- the write of a commit

module _ (s : State) (event : Entry) (sound : IsSound s) (n : ℕ) (t : Transaction) (at : numbered s.transactions n ≡ Some t)
    (info : TableInfo) (effect : Effect) (write : ℕ) (means : meaning t ≡ Some (Change info effect)) (given : given_in info.table.0 t.given ≡ Some write) where
  new-stood : (next : Table) → numbered (after s event).tables info.table.0 ≡ Some next → (o : Option Snapshot) → t.snapshot ≡ o → IsTrue (is_some o)
      → KnowsBy s.tables o t.given (meaning t) → StoodAtSnapshot (after s event) info.table.0 next (written_by info.shape write 0 effect)
  new-stood next now None is taken knows = cc
  new-stood next now (Some snapshot) is taken knows =
      let there = owner-table (map owners_of s.tables) s.tables info.table.0 write n refl
      (sound.given.has_owner n info.table.0 write
      (ap (λ o. given_among o info.table.0) (numbered-map given_of s.transactions n ∙ ap (option_map given_of) at) ∙ given)) in
      let table : Table = there.0 in
      let m = tables-go-on s event info.table.0 table there.1 in
      let later : IsLater table next = subst (IsLater table) (same_one (numbered (after s event).tables info.table.0) m.0 next m.1 now) m.2 in
      let u = found (Later t) (numbered (after s event).transactions n) ((goes-on s event).transactions n t at) in
      let deleted = knows.deletes info effect means in
      let before : Table = deleted.0 in
      let went = knows.stay info.table.0 before deleted.1 in
      let until : IsLater before table = subst (IsLater before) (same_one (numbered s.tables info.table.0) went.0 table went.1 there.1) went.2 in
      record {
        txn = n;
        owner = owner-front table.owners next.owners write n later.owners there.2;
        transaction = u.0;
        here = u.1;
        snapshot = snapshot;
        taken = u.2.snapshot snapshot is;
        before = before;
        stood = deleted.1;
        went_on = front-then before.writes table.writes next.writes until.writes later.writes;
        later = knows.later info.table.0 write before deleted.1 given;
        each = deleted.2;
      }

-- ---- entry by entry

abbrev AllStood : State → Type 0
AllStood s = (number : ℕ) (table : Table) (written : Written) → numbered s.tables number ≡ Some table → IsIn written table.writes → StoodAtSnapshot s number table written

old-stood : (s : State) (event : Entry) (number : ℕ) (next : Table) (written : Written) → AllStood s → numbered (after s event).tables number ≡ Some next
    → WasWritten s.tables number written → StoodAtSnapshot (after s event) number next written
old-stood s event number next written h now was =
    stood-later s event number was.0 next written was.1 now (h number was.0 written was.1 was.2)

module _ (s : State) (event : Entry) (sound : IsSound s) (knows : AllByRecursion (Knows s.tables) s.transactions) (stood : AllStood s)
    (n : ℕ) (t : Transaction) (at : numbered s.transactions n ≡ Some t) (taken : IsTrue (is_some t.snapshot))
    (tables : (after s event).tables ≡ tables_behind (commits (Some t)) s.tables) where
  commit-stood : AllStood (after s event)
  commit-stood number next written now here =
      by (single-writes (map info_in s.tables) t (all-numbered (IsSingle (map info_in s.tables)) s.transactions n t at sound.single))
    where
      by : OneWrite (meaning t) t.given (commits (Some t)) → StoodAtSnapshot (after s event) number next written
      by (inl none) =
          let same : (after s event).tables ≡ s.tables = tables ∙ ap (λ ws. tables_behind ws s.tables) none in
          old-stood s event number next written stood now (next, ap (λ ts. numbered ts number) (sym same) ∙ now, here)
      by (inr (info, effect, write, means, given, one)) =
          let x : ℕ × Written = (info.table.0, written_by info.shape write 0 effect) in
          let same : (after s event).tables ≡ changed (written_to x.1) s.tables x.0 = tables ∙ ap (λ ws. tables_behind ws s.tables) one in
          elim (wrote-was x s.tables number next written (ap (λ ts. numbered ts number) (sym same) ∙ now) here) [
            | inl was ↦ old-stood s event number next written stood now was
            | inr new ↦
                subst (λ k. StoodAtSnapshot (after s event) k next written) (sym new.0)
                (subst (StoodAtSnapshot (after s event) info.table.0 next) new.1
                (new-stood s event sound n t at info effect write means given next (ap (numbered (after s event).tables) (sym new.0) ∙ now) t.snapshot refl taken
                (all-numbered (Knows s.tables) s.transactions n t at knows)))
          ]

stood-after : (limits : Limits) (s : State) (event : Entry) → Fits limits s event → IsSound s → AllByRecursion (Knows s.tables) s.transactions → AllStood s → AllStood (after s event)
unfolding acted
stood-after limits s (entry.Boot run) fits sound knows h = λ number next written now here. old-stood s (entry.Boot run) number next written h now (next, now, here)
stood-after limits s (entry.Opened txn session count text) fits sound knows h = λ number next written now here.
    old-stood s (entry.Opened txn session count text) number next written h now (next, now, here)
stood-after limits s (entry.Start txn statement) fits sound knows h = λ number next written now here.
    old-stood s (entry.Start txn statement) number next written h now (next, now, here)
stood-after limits s (entry.Given txn table write) fits sound knows h = λ number next written now here.
    old-stood s (entry.Given txn table write) number next written h now (given-was txn.0 table.0 s.tables number next written now here)
stood-after limits s (entry.Commit txn wrote) fits sound knows h =
    let at = found (CommitFits s wrote) (numbered s.transactions txn.0) fits in
    commit-stood s (entry.Commit txn wrote) sound knows h txn.0 at.0 at.1 at.2.running.started (ap (λ o. tables_behind (commits o) s.tables) at.1)
stood-after limits s (entry.Abort txn cause) fits sound knows h = λ number next written now here.
    old-stood s (entry.Abort txn cause) number next written h now (next, now, here)
stood-after limits s (entry.Create txn table) fits sound knows h = λ number next written now here.
    old-stood s (entry.Create txn table) number next written h now
    (made-was s.tables (made_by table.0 (numbered s.transactions txn.0)) refl number next written now here)
stood-after limits s (entry.Drop txn table) fits sound knows h = λ number next written now here.
    old-stood s (entry.Drop txn table) number next written h now (dropped-was table.0 s.tables number next written now here)
stood-after limits s (entry.Forgot table write) fits sound knows h = λ number next written now here.
    old-stood s (entry.Forgot table write) number next written h now (kept-was (forgot write.0) (λ t. refl) table.0 s.tables number next written now here)
stood-after limits s (entry.Asked job table partition kind by) fits sound knows h = λ number next written now here.
    old-stood s (entry.Asked job table partition kind by) number next written h now (next, now, here)
stood-after limits s (entry.Picked job mark) fits sound knows h = λ number next written now here.
    old-stood s (entry.Picked job mark) number next written h now (next, now, here)
stood-after limits s (entry.Published job low high mark) fits sound knows h = λ number next written now here.
    old-stood s (entry.Published job low high mark) number next written h now (next, now, here)
stood-after limits s (entry.Empty job) fits sound knows h = λ number next written now here.
    old-stood s (entry.Empty job) number next written h now (next, now, here)
stood-after limits s (entry.Cleaned job) fits sound knows h = λ number next written now here.
    old-stood s (entry.Cleaned job) number next written h now (next, now, here)
stood-after limits s (entry.Failed job cause) fits sound knows h = λ number next written now here.
    old-stood s (entry.Failed job cause) number next written h now (next, now, here)
stood-after limits s event fits sound knows h = absurd fits

stood-all : (limits : Limits) (s : State) (more : List Entry) → AllFit limits s more → IsSound s → AllByRecursion (Knows s.tables) s.transactions → AllStood s
    → AllStood (fold after s more)
stood-all limits s [] fit sound knows h = h
stood-all limits s (event ∷ more) fit sound knows h =
    stood-all limits (after s event) more fit.1 (sound-after limits s event fit.0 sound) (knows-after limits s event fit.0 sound knows)
    (stood-after limits s event fit.0 sound knows h)

pub nothing-numbered : (number : ℕ) (table : Table) → numbered {A = Table} [] number ≡ Some table → ⊥
nothing-numbered zero table e = cc
nothing-numbered (suc n) table e = cc

pub deleted-stood-so : (limits : Limits) (entries : List Entry) (number : ℕ) (table : Table) (written : Written) → AllFit limits nothing_yet entries
    → numbered (state_of entries).tables number ≡ Some table → IsIn written table.writes → StoodAtSnapshot (state_of entries) number table written
deleted-stood-so limits entries number table written fit is at =
    stood-all limits nothing_yet entries fit nothing-sound tt (λ n t w e here. absurd (nothing-numbered n t e)) number table written is at

pub deleted-stood : DeletedRowsStood
deleted-stood limits entries number table written fit is at =
    deleted-stood-so limits entries number table written fit is at

-- ---- in a partition

front-map : {A B : Type 0} (f : A → B) (xs ys : List A) → IsFront xs ys → IsFront (map f xs) (map f ys)
front-map f xs ys front = record { more = map f front.more; is = ap (map f) front.is ∙ map-append f xs front.more }

pub deletes-later-so : (limits : Limits) (entries : List Entry) (table : ℕ) (partition : List ℕ) (w : Write Found) (id : RowId) → AllFit limits nothing_yet entries
    → IsIn w (writes_in (state_of entries) table partition) → IsIn id w.deletes → IsDeletedLater (state_of entries) table partition w id
deletes-later-so limits entries table partition w id fit among deleted = by (numbered (state_of entries).tables table) refl among
  where
    by : (o : Option Table) → numbered (state_of entries).tables table ≡ o → IsIn w (parts.writes_of partition (written_in o)) → IsDeletedLater (state_of entries) table partition w id
    by None is at = absurd at
    by (Some t) is at =
        let m = from-map (write_in partition) w t.writes at in
        let k = from-map id_of id (rows_of partition m.0.deletes) (subst (λ (v : Write Found). IsIn id v.deletes) (sym m.2) deleted) in
        let row = from-rows partition k.0 m.0.deletes k.1 in
        let h = deleted-stood-so limits entries table t m.0 fit is m.1 in
        let each = h.each k.0 row.0 in
        let seen_is : h.before.writes ≡ written_in (numbered h.snapshot.tables table) = ap written_in (sym h.stood) in
        let now_is : t.writes ≡ written_in (numbered (state_of entries).tables table) = ap written_in (sym is) in
        let low : write_of k.0.id ≤ length h.before.owners = each.1 in
        let high : length h.before.owners < m.0.write = h.later in
        let under : write_of k.0.id < m.0.write = omega arith in
        record {
          txn = h.txn;
          transaction = h.transaction;
          here = h.here;
          snapshot = h.snapshot;
          taken = h.taken;
          front = subst (λ ws. IsFront (parts.writes_of partition ws) (writes_in (state_of entries) table partition)) seen_is
              (subst (λ ws. IsFront (parts.writes_of partition h.before.writes) (parts.writes_of partition ws)) now_is
              (front-map (write_in partition) h.before.writes t.writes h.went_on));
          row = subst (λ ws. IsLeft (parts.writes_of partition ws) id) seen_is (record {
            row = k.0;
            id_is = k.2;
            left = (content-of-partition partition h.before.writes k.0).1 (each.0, row.1);
          });
          earlier = subst (λ (i : RowId). write_of i < w.write) k.2 (subst (λ (v : Write Found). write_of k.0.id < v.write) m.2 under);
        }

pub deletes-later : DeletesAreLater
deletes-later limits entries table partition w id fit among deleted =
    deletes-later-so limits entries table partition w id fit among deleted

pub history-sound : HistoryIsSound
history-sound limits entries table partition most fit =
    let ids = sound-ids (state_of entries) table partition (book-sound limits entries fit) in
    record {
      from_one = ids.from_one;
      carried = λ w row among at. (ids.carried w row among at).write_is;
      earlier = λ w id among at. let h : write_of id < w.write = (deletes-later limits entries table partition w id fit among at).earlier in omega arith;
      minors = λ first last mark at. absurd at;
      majors = λ last mark at. absurd at;
    }
