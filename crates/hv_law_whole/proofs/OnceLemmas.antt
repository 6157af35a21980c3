-- Each row is deleted once: a later commit that deletes where an earlier one did has its snapshot behind it, since it would conflict
-- else; and so the row wasn't there any more.
use Rattle.std.proofs.Common.{refl, ◌≡◌, ◌⊎◌, inl, inr, ℕ, zero, suc, ◌+◌, ◌<◌, ◌==◌, ◌&&◌, nat_eq, true, false, not, is_some, Option, Some, None, List, [], ◌∷◌, ◌++◌, map, filter, fold, length, sym, ap, ◌∙◌, subst, arith, eq-eqb, true≢false}
use Rattle.std.specs.Prelude.{nat_lt, IsTrue}
use Rattle.std.specs.Cmp.Lexicographic.{pointwise, slice_cmp}
use Rattle.std.specs.List.{flat_map, list_any, AllByRecursion}
use Rattle.std.specs.Ordering.{nat_cmp, is_eq, ordering_then}
use Rattle.std.proofs.lemmas.Bool.{and_from, lt-ltb}
use Rattle.hv_base.specs.declared.ids.Limits.{Limits}
use Rattle.hv_base.specs.declared.ids.Touch.{Touch}
use Rattle.hv_base.specs.declared.ids.TxnId.{TxnId}
use Rattle.hv_base.specs.Identifiers.{row_id_cmp}
use Rattle.hv_logic.specs.Rows.{found_cmp}
use Rattle.hv_logic.specs.declared.catalog.TableInfo.{TableInfo}
use Rattle.hv_logic.specs.declared.effect.Effect.{Effect}
use Rattle.hv_logic.specs.declared.effect.Found.{Found}
use Rattle.hv_logic.specs.declared.meaning.Meaning.TheVariants.{Change}
use Rattle.hv_history.specs.declared.entry.Entry.{Entry}
use Rattle.hv_history.specs.declared.entry.Entry.TheVariants as entry
use Rattle.hv_history.specs.declared.state.Ending.{Ending}
use Rattle.hv_history.specs.declared.state.Ending.TheVariants.{Committed, Aborted, Made, Dropped}
use Rattle.hv_history.specs.declared.state.Snapshot.{Snapshot}
use Rattle.hv_history.specs.declared.state.Table.{Table}
use Rattle.hv_history.specs.declared.state.Transaction.{Transaction}
use Rattle.hv_history.specs.declared.state.Written.{Written}
use Rattle.hv_history.specs.State.{State, numbered, changed, content_of, is_deleted, given_in, meaning, written_by, commits, tables_behind, written_to, owned, dropped, forgot, made_by, first_of, unless_ended, while_open, opened, started, given_id, committed, ended, acted, after, nothing_yet}
use Rattle.hv_history.specs.Legal.{profile, CommitFits, Rise, TouchesAreMeant, CommitIsTrue, IsTruthful, AllTruthful, commits_against, place_of_snapshot, touch_conflicts, touches_conflict, Fits, AllFit}
use Rattle.hv_history.proofs.LastingLaws.{goes-on}
use Rattle.hv_route.specs.Touching.{touches_of}
use Rattle.hv_law_directories.specs.hv_stands.specs.Sound.{info_in, IsSingle, IsSound}
use Rattle.hv_law_directories.specs.hv_stands.proofs.FileRecords.{tied}
use Rattle.hv_law_directories.specs.hv_stands.proofs.Numbers.{one_value, same_one, found, numbered-or-last}
use Rattle.hv_law_directories.specs.hv_stands.proofs.Soundness.{all-more, all-numbered}
use Rattle.hv_law_directories.specs.hv_stands.proofs.StandingRows.{found-total}
use Rattle.hv_law_directories.specs.hv_stands.proofs.Keeping.{still-open, open-here, nothing-sound, sound-after}
use Rattle.hv_law_jobs.proofs.GrowLemmas.{ended-same}
use Rattle.hv_law_made.proofs.NamedLemmas.{text-same}
use Rattle.hv_law_made.proofs.StepLemmas.{numbered-in}
use Rattle.hv_law_visible.specs.Members.{IsIn}
use Rattle.hv_law_visible.proofs.MemberLemmas.{in-either, in-flat, from-map, from-filter, any-in}
use Rattle.hv_law_visible.proofs.SortingLemmas.{all-from, from-sorted}
use Rattle.hv_law_directories.specs.hv_law_partitions.specs.Partitions.{id_of, rows_of, write_in, writes_of, written_in}
use Rattle.hv_law_directories.specs.hv_law_partitions.proofs.ContentLemmas.{from-rows}
use Rattle.hv_law_directories.specs.hv_law_partitions.proofs.SnapshotLemmas.{Knows, KnowsBy, knows-after}
use Rattle.hv_law_directories.specs.hv_law_partitions.proofs.StoodLemmas.{changed-from, OneWrite, single-writes}
use Rattle.hv_law_whole.specs.Shown.{DeletesOthers, AreDeletedOnce, RowsGoOnce}
use Rattle.hv_law_whole.proofs.TouchLemmas.{SaysInserted, SaysDeleted, inserted-touched, deleted-touched}

-- ---- rows that two writes delete

abbrev pub GoneOther : Written → Written → Type 0
GoneOther before later = (a b : Found) → IsIn a before.deletes → IsIn b later.deletes → a.partition ≡ b.partition → a.id ≡ b.id → ⊥

abbrev pub AreGoneOnce : List Written → Type 0
AreGoneOnce [] = Unit {0}
AreGoneOnce (w ∷ writes) = AllByRecursion (GoneOther w) writes × AreGoneOnce writes

gone-more : (writes : List Written) (last : Written) → AreGoneOnce writes → AllByRecursion (λ (w : Written). GoneOther w last) writes → AreGoneOnce (writes ++ last ∷ [])
gone-more [] last once apart = (tt, tt)
gone-more (w ∷ writes) last once apart = (all-more (GoneOther w) writes last once.0 apart.0, gone-more writes last once.1 apart.1)

-- a row that one of these writes deletes isn't left of them
found-same : (a b : Found) → a.partition ≡ b.partition → a.id ≡ b.id → is_eq (found_cmp a b) ≡ true
found-same a b partition id =
    (λ i. is_eq (ordering_then (slice_cmp nat_cmp (partition i) b.partition) (row_id_cmp (id i) b.id))) ∙ ap is_eq (tied (found_cmp b b) (found-total.antisymm b b))

not-left : (writes : List Written) (w : Written) (a b : Found) → IsIn w writes → IsIn a w.deletes → a.partition ≡ b.partition → a.id ≡ b.id → IsIn b (content_of writes) → ⊥
unfolding content_of
not-left writes w a b among at partition id left =
    let rows : List Found = flat_map (λ (written : Written). written.inserts) writes in
    let kept = (from-filter (λ row. not (is_deleted writes row)) b rows (from-sorted found_cmp b (filter (λ row. not (is_deleted writes row)) rows) left)).1 in
    let gone : is_deleted writes b ≡ true =
    any-in (λ (other : Found). is_eq (found_cmp other b)) a (flat_map (λ (written : Written). written.deletes) writes)
    (in-flat (λ (written : Written). written.deletes) w a writes among at) (found-same a b partition id) in
    true≢false (sym kept ∙ ap not gone)

-- ---- what is known of each write

-- its commit says of each row that it inserts or deletes a touch in the row's partition
pub record IsTouched (s : State) (number : ℕ) (w : Written) : Type 0 where
  pub txn : ℕ
  pub t : Transaction
  pub here : numbered s.transactions txn ≡ Some t
  pub given : given_in number t.given ≡ Some w.write
  pub at : ℕ
  pub those : List Touch
  pub ending : t.ending ≡ Some (Committed at those)
  pub first : w.statement ≡ 0
  pub rise : Rise those
  pub puts : (row : Found) → IsIn row w.inserts → SaysInserted number row.partition those
  pub says : (row : Found) → IsIn row w.deletes → SaysDeleted number row.partition those

touched-later : (s : State) (event : Entry) (number : ℕ) (w : Written) → IsTouched s number w → IsTouched (after s event) number w
touched-later s event number w is = record {
  txn = is.txn;
  t = is.t;
  here = ended-same s (after s event) (goes-on s event) is.txn is.t (Committed is.at is.those) is.here is.ending;
  given = is.given;
  at = is.at;
  those = is.those;
  ending = is.ending;
  first = is.first;
  rise = is.rise;
  puts = is.puts;
  says = is.says;
}

-- a write of now was there at the snapshot, or its commit came behind it
abbrev Behind : State → Snapshot → ℕ → Written → Type 0
Behind s snapshot number w = (is : IsTouched s number w) × (snapshot.place < is.at)

abbrev Since : State → Snapshot → Type 0
Since s snapshot =
    (number : ℕ) (before table : Table) (w : Written) → numbered snapshot.tables number ≡ Some before → numbered s.tables number ≡ Some table → IsIn w table.writes
    → IsIn w before.writes ⊎ Behind s snapshot number w

record IsOnce (s : State) : Type 0 where
  base : IsSound s
  knows : AllByRecursion (Knows s.tables) s.transactions
  touched : (number : ℕ) (table : Table) (w : Written) → numbered s.tables number ≡ Some table → IsIn w table.writes → IsTouched s number w
  since : (n : ℕ) (t : Transaction) (snapshot : Snapshot) → numbered s.transactions n ≡ Some t → t.snapshot ≡ Some snapshot → Since s snapshot
  placed : (n : ℕ) (t : Transaction) (snapshot : Snapshot) → numbered s.transactions n ≡ Some t → t.snapshot ≡ Some snapshot → snapshot.place < s.entries
  once : (number : ℕ) (table : Table) → numbered s.tables number ≡ Some table → AreGoneOnce table.writes

-- ---- what an entry does to writes and to snapshots

-- a table's writes are those of before
abbrev Keeps : State → ℕ → Table → Type 0
Keeps s number next = (before : Table) × (numbered s.tables number ≡ Some before) × (next.writes ≡ before.writes)

-- or it has one more, which deletes other rows
record Appends (s : State) (event : Entry) (number : ℕ) (next : Table) : Type 0 where
  before : Table
  was : numbered s.tables number ≡ Some before
  last : Written
  writes : next.writes ≡ before.writes ++ last ∷ []
  touched : IsTouched (after s event) number last
  at_is : touched.at ≡ s.entries
  apart : AllByRecursion (λ (w : Written). GoneOther w last) before.writes

abbrev Goes : State → Entry → Type 0
Goes s event = (number : ℕ) (next : Table) → numbered (after s event).tables number ≡ Some next → Keeps s number next ⊎ ((next.writes ≡ []) ⊎ Appends s event number next)

-- a snapshot was there, or it is of now and the tables are as they were
abbrev pub Takes : State → Entry → Type 0
Takes s event =
    (n : ℕ) (t : Transaction) (snapshot : Snapshot) → numbered (after s event).transactions n ≡ Some t → t.snapshot ≡ Some snapshot
    → ((before : Transaction) × (numbered s.transactions n ≡ Some before) × (before.snapshot ≡ Some snapshot))
    ⊎ ((snapshot ≡ record { place = s.entries; tables = s.tables; opened = length s.transactions }) × ((after s event).tables ≡ s.tables))

module _ (s : State) (event : Entry) (once : IsOnce s) (base : IsSound (after s event))
    (knows : AllByRecursion (Knows (after s event).tables) (after s event).transactions) (goes : Goes s event) (takes : Takes s event) where
  abbrev now : State
  now = after s event

  touched-by : (number : ℕ) (next : Table) (w : Written) → IsIn w next.writes → Keeps s number next ⊎ ((next.writes ≡ []) ⊎ Appends s event number next) → IsTouched now number w
  touched-by number next w at (inl keeps) = touched-later s event number w (once.touched number keeps.0 w keeps.1 (subst (IsIn w) keeps.2 at))
  touched-by number next w at (inr (inl none)) = absurd (subst (IsIn w) none at)
  touched-by number next w at (inr (inr appends)) = elim (in-either w appends.before.writes (appends.last ∷ []) (subst (IsIn w) appends.writes at)) [
    | inl old ↦ touched-later s event number w (once.touched number appends.before w appends.was old)
    | inr new ↦ elim new [
      | inl same ↦ subst (IsTouched now number) same appends.touched
      | inr none ↦ absurd none
    ]
  ]

  later-since : (snapshot : Snapshot) (number : ℕ) (before : Table) (w : Written) → IsIn w before.writes ⊎ Behind s snapshot number w → IsIn w before.writes ⊎ Behind now snapshot number w
  unfolding touched-later
  later-since snapshot number before w (inl was) = inl was
  later-since snapshot number before w (inr behind) = inr (touched-later s event number w behind.0, behind.1)

  since-by : (snapshot : Snapshot) → Since s snapshot → snapshot.place < s.entries → (number : ℕ) (before next : Table) (w : Written)
      → numbered snapshot.tables number ≡ Some before → IsIn w next.writes → Keeps s number next ⊎ ((next.writes ≡ []) ⊎ Appends s event number next)
      → IsIn w before.writes ⊎ Behind now snapshot number w
  since-by snapshot since placed number before next w stood at (inl keeps) =
      later-since snapshot number before w (since number before keeps.0 w stood keeps.1 (subst (IsIn w) keeps.2 at))
  since-by snapshot since placed number before next w stood at (inr (inl none)) = absurd (subst (IsIn w) none at)
  since-by snapshot since placed number before next w stood at (inr (inr appends)) =
      by (in-either w appends.before.writes (appends.last ∷ []) (subst (IsIn w) appends.writes at))
    where
      by : IsIn w appends.before.writes ⊎ IsIn w (appends.last ∷ []) → IsIn w before.writes ⊎ Behind now snapshot number w
      by (inl old) = later-since snapshot number before w (since number before appends.before w stood appends.was old)
      by (inr (inl same)) =
          let late : snapshot.place < appends.touched.at = subst (λ n. snapshot.place < n) (sym appends.at_is) placed in
          inr (subst (Behind now snapshot number) same (appends.touched, late))
      by (inr (inr none)) = absurd none

  now-since : (n : ℕ) (t : Transaction) (snapshot : Snapshot) → numbered now.transactions n ≡ Some t → t.snapshot ≡ Some snapshot → Since now snapshot
  now-since n t snapshot at taken number before table w stood here among = elim (takes n t snapshot at taken) [
    | inl old ↦ since-by snapshot (once.since n old.0 snapshot old.1 old.2) (once.placed n old.0 snapshot old.1 old.2) number before table w stood among (goes number table here)
    | inr new ↦
        let was : numbered s.tables number ≡ Some before = ap (λ (sn : Snapshot). numbered sn.tables number) (sym new.0) ∙ stood in
        let same : table ≡ before = same_one (numbered s.tables number) table before (ap (λ ts. numbered ts number) (sym new.1) ∙ here) was in
        inl (subst (λ (t : Table). IsIn w t.writes) same among)
  ]

  now-placed : (n : ℕ) (t : Transaction) (snapshot : Snapshot) → numbered now.transactions n ≡ Some t → t.snapshot ≡ Some snapshot → snapshot.place < s.entries + 1
  now-placed n t snapshot at taken = elim (takes n t snapshot at taken) [
    | inl old ↦ (let below = once.placed n old.0 snapshot old.1 old.2 in omega (arith, below))
    | inr new ↦ (let same : snapshot.place ≡ s.entries = ap (λ (sn : Snapshot). sn.place) new.0 in omega (arith, same))
  ]

  once-by : (number : ℕ) (next : Table) → Keeps s number next ⊎ ((next.writes ≡ []) ⊎ Appends s event number next) → AreGoneOnce next.writes
  once-by number next (inl keeps) = subst AreGoneOnce (sym keeps.2) (once.once number keeps.0 keeps.1)
  once-by number next (inr (inl none)) = subst AreGoneOnce (sym none) tt
  once-by number next (inr (inr appends)) =
      subst AreGoneOnce (sym appends.writes) (gone-more appends.before.writes appends.last (once.once number appends.before appends.was) appends.apart)

  step-once : IsOnce now
  step-once = record {
    base = base;
    knows = knows;
    touched = λ number table w here at. touched-by number table w at (goes number table here);
    since = now-since;
    placed = now-placed;
    once = λ number table here. once-by number table (goes number table here);
  }

-- ---- entries that write nothing

-- one table is changed, and keeps its writes
keeps-changed : (s : State) (event : Entry) (f : Table → Table) → ((t : Table) → (f t).writes ≡ t.writes) → (k : ℕ) → (after s event).tables ≡ changed f s.tables k → Goes s event
keeps-changed s event f same k tables number next here =
    let was = changed-from f s.tables k number next (ap (λ ts. numbered ts number) (sym tables) ∙ here) in
    inl (
      was.0,
      was.1,
      elim was.2 [
        | inl kept ↦ ap (λ (t : Table). t.writes) kept
        | inr new ↦ ap (λ (t : Table). t.writes) new.1 ∙ same was.0
      ],
    )

keeps-all : (s : State) (event : Entry) → (after s event).tables ≡ s.tables → Goes s event
keeps-all s event tables number next here = inl (next, ap (λ ts. numbered ts number) (sym tables) ∙ here, refl)

keeps-made : (s : State) (event : Entry) (made : Table) → made.writes ≡ [] → (after s event).tables ≡ s.tables ++ made ∷ [] → Goes s event
keeps-made s event made none tables number next here = elim (numbered-or-last s.tables made number next (ap (λ ts. numbered ts number) (sym tables) ∙ here)) [
  | inl old ↦ inl (next, old, refl)
  | inr new ↦ inr (inl (ap (λ (t : Table). t.writes) new.1 ∙ none))
]

-- snapshots that stay
takes-none : (s : State) (event : Entry) → (after s event).transactions ≡ s.transactions → Takes s event
takes-none s event same n t snapshot at taken = inl (t, ap (λ ts. numbered ts n) (sym same) ∙ at, taken)

unended-snapshot : (f : Transaction → Transaction) (x : Transaction) → (f x).snapshot ≡ x.snapshot → (o : Option Ending) → (unless_ended o x (f x)).snapshot ≡ x.snapshot
unended-snapshot f x same None = same
unended-snapshot f x same (Some e) = refl

takes-changed : (s : State) (event : Entry) (f : Transaction → Transaction) → ((t : Transaction) → (f t).snapshot ≡ t.snapshot) → (k : ℕ)
    → (after s event).transactions ≡ changed (while_open f) s.transactions k → Takes s event
takes-changed s event f same k transactions n t snapshot at taken =
    let was = changed-from (while_open f) s.transactions k n t (ap (λ ts. numbered ts n) (sym transactions) ∙ at) in
    inl (
      was.0,
      was.1,
      elim was.2 [
        | inl kept ↦ ap (λ (x : Transaction). x.snapshot) (sym kept) ∙ taken
        | inr new ↦ sym (unended-snapshot f was.0 (same was.0) was.0.ending) ∙ ap (λ (x : Transaction). x.snapshot) (sym new.1) ∙ taken
      ],
    )

takes-opened : (s : State) (event : Entry) (session : List ℕ) (number : ℕ) (text : List ℕ) → (after s event).transactions ≡ s.transactions ++ opened session number text ∷ [] → Takes s event
takes-opened s event session number text transactions n t snapshot at taken =
    elim (numbered-or-last s.transactions (opened session number text) n t (ap (λ ts. numbered ts n) (sym transactions) ∙ at)) [
      | inl old ↦ inl (t, old, taken)
      | inr new ↦ absurd (no-snapshot (ap (λ (x : Transaction). x.snapshot) (sym new.1) ∙ taken))
    ]
  where
    no-snapshot : None ≡ Some snapshot → ⊥
    no-snapshot e = cc

started-snapshot : (s : State) (number : ℕ) (x : Transaction) (o : Option Ending) (before : Option Snapshot) (snapshot : Snapshot) → x.snapshot ≡ before
    → (unless_ended o x (started s number x)).snapshot ≡ Some snapshot
    → (x.snapshot ≡ Some snapshot) ⊎ (snapshot ≡ record { place = s.entries; tables = s.tables; opened = length s.transactions })
started-snapshot s number x (Some e) before snapshot is taken = inl taken
started-snapshot s number x None (Some old) snapshot is taken =
    let fresh : Snapshot = record { place = s.entries; tables = s.tables; opened = length s.transactions } in
    inl (is ∙ (sym (ap (λ o. first_of o fresh) is) ∙ taken))
started-snapshot s number x None None snapshot is taken =
    let fresh : Snapshot = record { place = s.entries; tables = s.tables; opened = length s.transactions } in
    inr (sym (one_value fresh snapshot (sym (ap (λ o. first_of o fresh) is) ∙ taken)))

takes-started : (s : State) (event : Entry) (number k : ℕ) → (after s event).transactions ≡ changed (while_open (started s number)) s.transactions k → (after s event).tables ≡ s.tables
    → Takes s event
takes-started s event number k transactions tables n t snapshot at taken =
    let was = changed-from (while_open (started s number)) s.transactions k n t (ap (λ ts. numbered ts n) (sym transactions) ∙ at) in
    elim was.2 [
      | inl kept ↦ inl (was.0, was.1, ap (λ (x : Transaction). x.snapshot) (sym kept) ∙ taken)
      | inr new ↦ elim (started-snapshot s number was.0 was.0.ending was.0.snapshot snapshot refl (ap (λ (x : Transaction). x.snapshot) (sym new.1) ∙ taken)) [
        | inl old ↦ inl (was.0, was.1, old)
        | inr fresh ↦ inr (fresh, tables)
      ]
    ]

-- ---- a commit

-- two touches of one partition where both deleted rows
conflicts : (a b : Touch) (table : ℕ) (partition : List ℕ) → a.table.0 ≡ table → b.table.0 ≡ table → a.partition ≡ partition → b.partition ≡ partition → 0 < a.deleted → 0 < b.deleted
    → touch_conflicts a b ≡ true
conflicts a b table partition a_table b_table a_partition b_partition a_some b_some =
    let tables = a.table.0 == b.table.0 in
    let partitions = pointwise nat_eq a.partition b.partition in
    let mine = nat_lt 0 a.deleted in
    let its = nat_lt 0 b.deleted in
    and_from ((tables && partitions) && mine) its
    (and_from (tables && partitions) mine
    (and_from tables partitions (eq-eqb a.table.0 b.table.0 (a_table ∙ sym b_table)) (text-same a.partition b.partition (a_partition ∙ sym b_partition)))
    (lt-ltb 0 a.deleted a_some))
    (lt-ltb 0 b.deleted b_some)

both-conflict : (wrote those : List Touch) (table : ℕ) (partition : List ℕ) → SaysDeleted table partition wrote → SaysDeleted table partition those
    → touches_conflict wrote those ≡ true
both-conflict wrote those table partition mine its =
    any-in (λ (a : Touch). list_any (touch_conflicts a) those) mine.0 wrote mine.1
    (any-in (touch_conflicts mine.0) its.0 those its.1 (conflicts mine.0 its.0 table partition mine.2 its.2 mine.3 its.3 mine.4 its.4))

module _ (s : State) (txn : TxnId) (wrote : List Touch) (once : IsOnce s) (t : Transaction) (at : numbered s.transactions txn.0 ≡ Some t) (fits : CommitFits s wrote t)
    (info : TableInfo) (effect : Effect) (write : ℕ) (means : meaning t ≡ Some (Change info effect)) (given : given_in info.table.0 t.given ≡ Some write)
    (true_of : wrote ≡ touches_of info effect) where
  abbrev event : Entry
  event = entry.Commit txn wrote

  abbrev last : Written
  last = written_by info.shape write 0 effect

  says : (row : Found) → IsIn row last.deletes → SaysDeleted info.table.0 row.partition wrote
  says row among = subst (SaysDeleted info.table.0 row.partition) (sym true_of) (deleted-touched info effect row among)

  puts : (row : Found) → IsIn row last.inserts → SaysInserted info.table.0 row.partition wrote
  puts row among = subst (SaysInserted info.table.0 row.partition) (sym true_of) (inserted-touched info effect write 0 row among)

  committed-here : numbered (after s event).transactions txn.0 ≡ Some (committed s.entries wrote t)
  unfolding acted
  committed-here = open-here (committed s.entries wrote) s.transactions txn.0 t at (still-open t fits.running.unended)

  -- no commit behind its snapshot deleted there
  clear-of : (snapshot : Snapshot) → t.snapshot ≡ Some snapshot → (partition : List ℕ) → SaysDeleted info.table.0 partition wrote
      → (w : Written) (a : Found) (is : IsTouched s info.table.0 w) → IsIn a w.deletes → a.partition ≡ partition → snapshot.place < is.at → ⊥
  clear-of snapshot taken partition mine w a is among here late =
      let its : SaysDeleted info.table.0 partition is.those = subst (λ p. SaysDeleted info.table.0 p is.those) here (is.says a among) in
      let place_is : place_of_snapshot t.snapshot ≡ snapshot.place = ap place_of_snapshot taken in
      let against : commits_against snapshot.place wrote is.t.ending ≡ true =
      ap (commits_against snapshot.place wrote) is.ending
      ∙ and_from (nat_lt snapshot.place is.at) (touches_conflict wrote is.those) (lt-ltb snapshot.place is.at late)
      (both-conflict wrote is.those info.table.0 partition mine its) in
      let some : list_any (λ (other : Transaction). commits_against (place_of_snapshot t.snapshot) wrote other.ending) s.transactions ≡ true =
      any-in (λ (other : Transaction). commits_against (place_of_snapshot t.snapshot) wrote other.ending) is.t s.transactions (numbered-in s.transactions is.txn is.t is.here)
      (ap (λ place. commits_against place wrote is.t.ending) place_is ∙ against) in
      true≢false (sym some ∙ fits.clear)

  apart-by : (snapshot : Snapshot) → t.snapshot ≡ Some snapshot → KnowsBy s.tables (Some snapshot) t.given (meaning t) → (table : Table) → numbered s.tables info.table.0 ≡ Some table
      → (w : Written) → IsIn w table.writes → GoneOther w last
  apart-by snapshot taken knows table here w among a b at_a at_b partition id =
      let deleted = knows.deletes info effect means in
      by deleted.0 deleted.1 (deleted.2 b at_b).0 (once.since txn.0 t snapshot at taken info.table.0 deleted.0 table w deleted.1 here among)
    where
      by : (before : Table) → numbered snapshot.tables info.table.0 ≡ Some before → IsIn b (content_of before.writes) → IsIn w before.writes ⊎ Behind s snapshot info.table.0 w → ⊥
      by before stood left (inl was) = not-left before.writes w a b was at_a partition id left
      by before stood left (inr behind) = clear-of snapshot taken b.partition (says b at_b) w a behind.0 at_a partition behind.1

  apart-all : (o : Option Snapshot) → t.snapshot ≡ o → IsTrue (is_some o) → KnowsBy s.tables o t.given (meaning t) → (table : Table) → numbered s.tables info.table.0 ≡ Some table
      → AllByRecursion (λ (w : Written). GoneOther w last) table.writes
  apart-all None taken some knows table here = absurd (true≢false (sym some))
  apart-all (Some snapshot) taken some knows table here =
      all-from (λ (w : Written). GoneOther w last) table.writes (λ w among. apart-by snapshot taken knows table here w among)

  commit-goes : (after s event).tables ≡ changed (written_to last) s.tables info.table.0 → Goes s event
  commit-goes tables number next here =
      let was = changed-from (written_to last) s.tables info.table.0 number next (ap (λ ts. numbered ts number) (sym tables) ∙ here) in
      elim was.2 [
        | inl kept ↦ inl (was.0, was.1, ap (λ (x : Table). x.writes) kept)
        | inr new ↦ inr (inr (record {
          before = was.0;
          was = was.1;
          last = last;
          writes = ap (λ (x : Table). x.writes) new.1;
          touched = record {
            txn = txn.0;
            t = committed s.entries wrote t;
            here = committed-here;
            given = subst (λ k. given_in k t.given ≡ Some write) (sym new.0) given;
            at = s.entries;
            those = wrote;
            ending = refl;
            first = refl;
            rise = fits.rise;
            puts = λ row among. subst (λ k. SaysInserted k row.partition wrote) (sym new.0) (puts row among);
            says = λ row among. subst (λ k. SaysDeleted k row.partition wrote) (sym new.0) (says row among);
          };
          at_is = refl;
          apart = apart-all t.snapshot refl fits.running.started (all-numbered (Knows s.tables) s.transactions txn.0 t at once.knows) was.0
              (ap (numbered s.tables) (sym new.0) ∙ was.1);
        }))
      ]

-- ---- entry by entry

true-touches : (s : State) (txn : TxnId) (wrote : List Touch) (t : Transaction) → numbered s.transactions txn.0 ≡ Some t → IsTruthful s (entry.Commit txn wrote)
    → (info : TableInfo) (effect : Effect) → meaning t ≡ Some (Change info effect) → wrote ≡ touches_of info effect
true-touches s txn wrote t at truth info effect means =
    let there = found (CommitIsTrue s txn.0 wrote) (numbered s.transactions txn.0) truth in
    let same : there.0 ≡ t = same_one (numbered s.transactions txn.0) there.0 t there.1 at in
    subst (TouchesAreMeant wrote) (ap meaning same ∙ means) there.2.touches

goes-by : (s : State) (txn : TxnId) (wrote : List Touch) → IsTruthful s (entry.Commit txn wrote) → IsOnce s → (t : Transaction) → numbered s.transactions txn.0 ≡ Some t → CommitFits s wrote t
    → (after s (entry.Commit txn wrote)).tables ≡ tables_behind (commits (Some t)) s.tables → OneWrite (meaning t) t.given (commits (Some t)) → Goes s (entry.Commit txn wrote)
goes-by s txn wrote truth once t at fits tables (inl none) = keeps-all s (entry.Commit txn wrote) (tables ∙ ap (λ ws. tables_behind ws s.tables) none)
goes-by s txn wrote truth once t at fits tables (inr (info, effect, write, means, given, one)) =
    commit-goes s txn wrote once t at fits info effect write means given (true-touches s txn wrote t at truth info effect means)
    (tables ∙ ap (λ ws. tables_behind ws s.tables) one)

goes-of : (limits : Limits) (s : State) (event : Entry) → Fits limits s event → IsTruthful s event → IsOnce s → Goes s event
unfolding acted
goes-of limits s (entry.Given txn table write) fits truth once = keeps-changed s (entry.Given txn table write) (owned txn.0) (λ t. refl) table.0 refl
goes-of limits s (entry.Commit txn wrote) fits truth once =
    let here = found (CommitFits s wrote) (numbered s.transactions txn.0) fits in
    let single = all-numbered (IsSingle (map info_in s.tables)) s.transactions txn.0 here.0 here.1 once.base.single in
    goes-by s txn wrote truth once here.0 here.1 here.2 (ap (λ (o : Option Transaction). tables_behind (commits o) s.tables) here.1)
    (single-writes (map info_in s.tables) here.0 single)
goes-of limits s (entry.Create txn table) fits truth once = keeps-made s (entry.Create txn table) (made_by table.0 (numbered s.transactions txn.0)) refl refl
goes-of limits s (entry.Drop txn table) fits truth once = keeps-changed s (entry.Drop txn table) dropped (λ t. refl) table.0 refl
goes-of limits s (entry.Forgot table write) fits truth once = keeps-changed s (entry.Forgot table write) (forgot write.0) (λ t. refl) table.0 refl
goes-of limits s (entry.Boot run) fits truth once = keeps-all s (entry.Boot run) refl
goes-of limits s (entry.Opened txn session number text) fits truth once = keeps-all s (entry.Opened txn session number text) refl
goes-of limits s (entry.Start txn statement) fits truth once = keeps-all s (entry.Start txn statement) refl
goes-of limits s (entry.Abort txn cause) fits truth once = keeps-all s (entry.Abort txn cause) refl
goes-of limits s (entry.Asked job table partition kind by) fits truth once = keeps-all s (entry.Asked job table partition kind by) refl
goes-of limits s (entry.Picked job mark) fits truth once = keeps-all s (entry.Picked job mark) refl
goes-of limits s (entry.Published job low high mark) fits truth once = keeps-all s (entry.Published job low high mark) refl
goes-of limits s (entry.Empty job) fits truth once = keeps-all s (entry.Empty job) refl
goes-of limits s (entry.Cleaned job) fits truth once = keeps-all s (entry.Cleaned job) refl
goes-of limits s (entry.Failed job cause) fits truth once = keeps-all s (entry.Failed job cause) refl
goes-of limits s (entry.Next txn statement number text) fits truth once = absurd fits
goes-of limits s (entry.Did txn statement wrote) fits truth once = absurd fits
goes-of limits s (entry.Alter txn table) fits truth once = absurd fits

pub takes-of : (limits : Limits) (s : State) (event : Entry) → Fits limits s event → Takes s event
unfolding acted
takes-of limits s (entry.Opened txn session number text) fits = takes-opened s (entry.Opened txn session number text) session number text refl
takes-of limits s (entry.Start txn statement) fits = takes-started s (entry.Start txn statement) statement txn.0 refl refl
takes-of limits s (entry.Given txn table write) fits = takes-changed s (entry.Given txn table write) (given_id table.0 write.0) (λ t. refl) txn.0 refl
takes-of limits s (entry.Commit txn wrote) fits = takes-changed s (entry.Commit txn wrote) (committed s.entries wrote) (λ t. refl) txn.0 refl
takes-of limits s (entry.Abort txn cause) fits = takes-changed s (entry.Abort txn cause) (ended (Aborted s.entries cause)) (λ t. refl) txn.0 refl
takes-of limits s (entry.Create txn table) fits = takes-changed s (entry.Create txn table) (ended (Made s.entries table.0)) (λ t. refl) txn.0 refl
takes-of limits s (entry.Drop txn table) fits = takes-changed s (entry.Drop txn table) (ended (Dropped s.entries table.0)) (λ t. refl) txn.0 refl
takes-of limits s (entry.Boot run) fits = takes-none s (entry.Boot run) refl
takes-of limits s (entry.Asked job table partition kind by) fits = takes-none s (entry.Asked job table partition kind by) refl
takes-of limits s (entry.Picked job mark) fits = takes-none s (entry.Picked job mark) refl
takes-of limits s (entry.Published job low high mark) fits = takes-none s (entry.Published job low high mark) refl
takes-of limits s (entry.Empty job) fits = takes-none s (entry.Empty job) refl
takes-of limits s (entry.Cleaned job) fits = takes-none s (entry.Cleaned job) refl
takes-of limits s (entry.Failed job cause) fits = takes-none s (entry.Failed job cause) refl
takes-of limits s (entry.Forgot table write) fits = takes-none s (entry.Forgot table write) refl
takes-of limits s (entry.Next txn statement number text) fits = absurd fits
takes-of limits s (entry.Did txn statement wrote) fits = absurd fits
takes-of limits s (entry.Alter txn table) fits = absurd fits

-- ---- books

all-once : (limits : Limits) (book : List Entry) (s : State) → AllFit limits s book → AllTruthful s book → IsOnce s → IsOnce (fold after s book)
all-once limits [] s fit truth once = once
all-once limits (event ∷ book) s fit truth once =
    all-once limits book (after s event) fit.1 truth.1
    (step-once s event once (sound-after limits s event fit.0 once.base) (knows-after limits s event fit.0 once.base once.knows) (goes-of limits s event fit.0 truth.0 once)
    (takes-of limits s event fit.0))

nowhere : {A : Type 0} (n : ℕ) (x : A) → numbered {A = A} [] n ≡ Some x → ⊥
nowhere zero x e = cc
nowhere (suc n) x e = cc

nothing-once : IsOnce nothing_yet
nothing-once = record {
  base = nothing-sound;
  knows = tt;
  touched = λ number table w here at. absurd (nowhere number table here);
  since = λ n t snapshot at taken. absurd (nowhere n t at);
  placed = λ n t snapshot at taken. absurd (nowhere n t at);
  once = λ number table here. absurd (nowhere number table here);
}

-- what is known of each write
pub books-touched : (limits : Limits) (book : List Entry) → AllFit limits nothing_yet book → AllTruthful nothing_yet book → (number : ℕ) (table : Table) (w : Written)
    → numbered (fold after nothing_yet book).tables number ≡ Some table → IsIn w table.writes → IsTouched (fold after nothing_yet book) number w
books-touched limits book fit truth = (all-once limits book nothing_yet fit truth nothing-once).touched

pub books-gone-once : (limits : Limits) (book : List Entry) → AllFit limits nothing_yet book → AllTruthful nothing_yet book → (number : ℕ) (table : Table)
    → numbered (fold after nothing_yet book).tables number ≡ Some table → AreGoneOnce table.writes
books-gone-once limits book fit truth = (all-once limits book nothing_yet fit truth nothing-once).once

deleted-once : (partition : List ℕ) (writes : List Written) → AreGoneOnce writes → AreDeletedOnce (writes_of partition writes)
deleted-once partition [] once = tt
deleted-once partition (w ∷ writes) once = (others writes once.0, deleted-once partition writes once.1)
  where
    others : (later : List Written) → AllByRecursion (GoneOther w) later → AllByRecursion (DeletesOthers (write_in partition w)) (writes_of partition later)
    others [] apart = tt
    others (v ∷ later) apart = (
      (λ id at_w at_v.
          let a = from-map id_of id (rows_of partition w.deletes) at_w in
          let b = from-map id_of id (rows_of partition v.deletes) at_v in
          let a_row = from-rows partition a.0 w.deletes a.1 in
          let b_row = from-rows partition b.0 v.deletes b.1 in
          apart.0 a.0 b.0 a_row.0 b_row.0 (a_row.1 ∙ sym b_row.1) (a.2 ∙ sym b.2)),
      others later apart.1,
    )

pub rows-go-once : RowsGoOnce
rows-go-once entries table partition fit truth = by (numbered (fold after nothing_yet entries).tables table) refl
  where
    by : (o : Option Table) → numbered (fold after nothing_yet entries).tables table ≡ o → AreDeletedOnce (writes_of partition (written_in o))
    by None is = tt
    by (Some t) is = deleted-once partition t.writes ((all-once profile entries nothing_yet fit truth nothing-once).once table t is)
