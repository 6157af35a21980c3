-- What a commit says it wrote, it wrote: each of its touches is of the write that it made, with rows of that kind in that partition.
use Rattle.std.proofs.Common.{refl, ◌≡◌, ◌⊎◌, inl, inr, ℕ, zero, suc, ◌+◌, ◌<◌, ◌==◌, Bool, true, false, Option, Some, None, List, [], ◌∷◌, ◌++◌, map, fold, option_map, sym, ap, ◌∙◌, subst, arith, true≢false}
use Rattle.std.specs.Prelude.{if◌then◌else◌, IsSome}
use Rattle.std.specs.List.{flat_map, AllByRecursion}
use Rattle.std.specs.Option.{option_to_list}
use Rattle.std.specs.Ordering.{bool_cmp}
use Rattle.std.proofs.lemmas.List.{append-nil}
use Rattle.hv_base.specs.declared.ids.Limits.{Limits}
use Rattle.hv_base.specs.declared.ids.Touch.{Touch}
use Rattle.hv_base.specs.declared.ids.TxnId.{TxnId}
use Rattle.hv_base.specs.Sorting.{sorted_by}
use Rattle.hv_value.specs.Order.{row_cmp}
use Rattle.hv_value.specs.declared.row.Row.{Row}
use Rattle.hv_logic.specs.declared.catalog.Shape.{Shape}
use Rattle.hv_logic.specs.declared.catalog.TableInfo.{TableInfo}
use Rattle.hv_logic.specs.declared.effect.Effect.{Effect}
use Rattle.hv_logic.specs.declared.effect.Found.{Found}
use Rattle.hv_logic.specs.declared.meaning.Meaning.{Meaning}
use Rattle.hv_logic.specs.declared.meaning.Meaning.TheVariants.{Refused, Listing, Change, Make, Unmake, Ask, Plain, Twice, RowLimit, PartitionLimit}
use Rattle.hv_route.specs.declared.placed.Placed.{Placed}
use Rattle.hv_route.specs.declared.runs.Run.{Run}
use Rattle.hv_route.specs.Placing.{placed_cmp, runs_of}
use Rattle.hv_route.specs.Routes.{partition_of, place_of_row, row_runs, founds_from, founds_of_run, numbered_rows}
use Rattle.hv_route.specs.Touching.{place_of_insert, place_of_delete, rows_touched, inserted_count, deleted_count, touch_of, touches_of}
use Rattle.hv_history.specs.declared.entry.Entry.{Entry}
use Rattle.hv_history.specs.declared.entry.Entry.TheVariants as entry
use Rattle.hv_history.specs.declared.state.Ending.{Ending}
use Rattle.hv_history.specs.declared.state.Ending.TheVariants.{Committed, Aborted, Made, Dropped}
use Rattle.hv_history.specs.declared.state.Statement.{Statement}
use Rattle.hv_history.specs.declared.state.Table.{Table}
use Rattle.hv_history.specs.declared.state.Transaction.{Transaction}
use Rattle.hv_history.specs.declared.state.Written.{Written}
use Rattle.hv_history.specs.State.{State, numbered, changed, given_in, meaning, writes_of, written_by, wrote_as, changed_at, commits, tables_behind, written_to, unless_ended, while_open, opened, started, given_id, committed, ended, acted, after, nothing_yet}
use Rattle.hv_history.specs.Legal.{CommitFits, IsOwnTouch, TouchesAreMeant, CommitIsTrue, IsTruthful, AllTruthful, Fits, AllFit}
use Rattle.hv_law_directories.specs.hv_stands.specs.Sound.{info_in, given_of, owners_of, given_among, IsSingle, IsSound}
use Rattle.hv_law_directories.specs.hv_stands.proofs.Numbers.{one_value, none_is, same_one, found, numbered-map, numbered-or-last, changed-here}
use Rattle.hv_law_directories.specs.hv_stands.proofs.Soundness.{all-numbered}
use Rattle.hv_law_directories.specs.hv_stands.proofs.Keeping.{owner-table, sound-after, nothing-sound}
use Rattle.hv_law_visible.specs.Members.{IsIn}
use Rattle.hv_law_visible.proofs.MemberLemmas.{in-left, in-right, in-either, in-flat, in-map, from-map}
use Rattle.hv_law_visible.proofs.SortingLemmas.{from-sorted, to-sorted}
use Rattle.hv_law_directories.specs.hv_law_partitions.proofs.SnapshotLemmas.{meaning-single, tables-go-on}
use Rattle.hv_law_directories.specs.hv_law_partitions.proofs.StoodLemmas.{changed-from, OneWrite, single-writes}
use Rattle.hv_law_whole.proofs.TouchLemmas.{run-in, run-from}

-- ---- counts that are some

module _ (f : Bool → ℕ) (b : Bool) (only : (mark : Bool) → (mark ≡ b) ⊎ (f mark ≡ 0)) where
  counted-back : (so_far : ℕ) (marks : List Bool) → so_far < fold (λ (a : ℕ) (mark : Bool). a + f mark) so_far marks → IsIn b marks
  counted-back so_far [] less = absurd (omega (arith, less))
  counted-back so_far (mark ∷ marks) less = elim (only mark) [
    | inl same ↦ inl same
    | inr none ↦ inr (counted-back (so_far + f mark) marks (omega (arith, less, none)))
  ]

abbrev deleted_one : Bool → ℕ
deleted_one mark = if mark then 1 else 0

abbrev inserted_one : Bool → ℕ
inserted_one mark = if mark then 0 else 1

only-deleted : (mark : Bool) → (mark ≡ true) ⊎ (deleted_one mark ≡ 0)
only-deleted true = inl refl
only-deleted false = inr refl

only-inserted : (mark : Bool) → (mark ≡ false) ⊎ (inserted_one mark ≡ 0)
only-inserted true = inr refl
only-inserted false = inl refl

deleted-some : (marks : List Bool) → 0 < deleted_count marks → IsIn true marks
deleted-some marks some = counted-back deleted_one true only-deleted 0 marks some

inserted-some : (marks : List Bool) → 0 < inserted_count marks → IsIn false marks
inserted-some marks some = counted-back inserted_one false only-inserted 0 marks some

-- ---- a touch of a change counts rows that it inserts and deletes

-- the row of an effect at a place
from-place : (shape : Shape) (effect : Effect) (p : Placed Bool) → IsIn p (rows_touched shape effect)
    → ((row : Row) × IsIn row effect.inserts × (place_of_insert shape row ≡ p)) ⊎ ((row : Found) × IsIn row effect.deletes × (place_of_delete row ≡ p))
from-place shape effect p at = elim (in-either p (map (place_of_insert shape) effect.inserts) (map place_of_delete effect.deletes) at) [
  | inl put ↦ inl (from-map (place_of_insert shape) p effect.inserts put)
  | inr gone ↦ inr (from-map place_of_delete p effect.deletes gone)
]

-- the numbered row of a row
founds-have : (partition : List ℕ) (write statement bucket n : ℕ) (rows : List Row) (row : Row) → IsIn row rows
    → (found : Found) × IsIn found (founds_from partition write statement bucket n rows) × (found.partition ≡ partition)
founds-have partition write statement bucket n [] row at = absurd at
founds-have partition write statement bucket n (first ∷ rows) row (inl same) =
    (record { partition = partition; id = record { write = record { 0 = write }; statement = statement; bucket = bucket; row = n }; row = first }, inl refl, refl)
founds-have partition write statement bucket n (first ∷ rows) row (inr at) =
    let behind = founds-have partition write statement bucket (suc n) rows row at in
    (behind.0, inr behind.1, behind.2)

numbered-has : (shape : Shape) (write statement : ℕ) (rows : List Row) (row : Row) → IsIn row rows
    → (found : Found) × IsIn found (numbered_rows shape write statement rows) × (found.partition ≡ partition_of shape row)
unfolding numbered_rows
numbered-has shape write statement rows row at =
    let placed = map (place_of_row shape) rows in
    let run = run-in (sorted_by (placed_cmp row_cmp) placed) (place_of_row shape row)
    (to-sorted (placed_cmp row_cmp) (place_of_row shape row) placed (in-map (place_of_row shape) row rows at)) in
    let its = founds-have run.0.partition write statement run.0.bucket 0 run.0.items row run.3 in
    (its.0, in-flat (founds_of_run write statement) run.0 its.0 (row_runs shape rows) run.1 its.1, its.2 ∙ run.2)

module _ (info : TableInfo) (effect : Effect) (write : ℕ) (touch : Touch) (at : IsIn touch (touches_of info effect)) where
  touch-run : (run : Run Bool) × IsIn run (runs_of (sorted_by (placed_cmp bool_cmp) (rows_touched info.shape effect))) × (touch_of info.table.0 run ≡ touch)
  touch-run = from-map (touch_of info.table.0) touch (runs_of (sorted_by (placed_cmp bool_cmp) (rows_touched info.shape effect))) at

  pub touch-table : touch.table.0 ≡ info.table.0
  touch-table = ap (λ (t : Touch). t.table.0) (sym touch-run.2)

  -- a place of that kind in its partition
  touch-place : (mark : Bool) → IsIn mark touch-run.0.items → (p : Placed Bool) × IsIn p (rows_touched info.shape effect) × (p.partition ≡ touch.partition) × (p.item ≡ mark)
  touch-place mark marked =
      let its = run-from (sorted_by (placed_cmp bool_cmp) (rows_touched info.shape effect)) touch-run.0 mark touch-run.1 marked in (
        its.0,
        from-sorted (placed_cmp bool_cmp) its.0 (rows_touched info.shape effect) its.1,
        its.2 ∙ ap (λ (t : Touch). t.partition) touch-run.2,
        its.3,
      )

  pub touch-inserted : 0 < touch.inserted → (row : Found) × IsIn row (numbered_rows info.shape write 0 effect.inserts) × (row.partition ≡ touch.partition)
  touch-inserted some =
      let count : inserted_count touch-run.0.items ≡ touch.inserted = ap (λ (t : Touch). t.inserted) touch-run.2 in
      let p = touch-place false (inserted-some touch-run.0.items (omega (arith, some, count))) in
      by p.0 (from-place info.shape effect p.0 p.1) p.2 p.3
    where
      by : (p : Placed Bool)
          → ((row : Row) × IsIn row effect.inserts × (place_of_insert info.shape row ≡ p)) ⊎ ((row : Found) × IsIn row effect.deletes × (place_of_delete row ≡ p))
          → p.partition ≡ touch.partition → p.item ≡ false
          → (row : Found) × IsIn row (numbered_rows info.shape write 0 effect.inserts) × (row.partition ≡ touch.partition)
      by p (inl put) part item =
          let its = numbered-has info.shape write 0 effect.inserts put.0 put.1 in
          (its.0, its.1, its.2 ∙ ap (λ (q : Placed Bool). q.partition) put.2 ∙ part)
      by p (inr gone) part item = absurd (true≢false (ap (λ (q : Placed Bool). q.item) gone.2 ∙ item))

  pub touch-deleted : 0 < touch.deleted → (row : Found) × IsIn row effect.deletes × (row.partition ≡ touch.partition)
  touch-deleted some =
      let count : deleted_count touch-run.0.items ≡ touch.deleted = ap (λ (t : Touch). t.deleted) touch-run.2 in
      let p = touch-place true (deleted-some touch-run.0.items (omega (arith, some, count))) in
      by p.0 (from-place info.shape effect p.0 p.1) p.2 p.3
    where
      by : (p : Placed Bool)
          → ((row : Row) × IsIn row effect.inserts × (place_of_insert info.shape row ≡ p)) ⊎ ((row : Found) × IsIn row effect.deletes × (place_of_delete row ≡ p))
          → p.partition ≡ touch.partition → p.item ≡ true → (row : Found) × IsIn row effect.deletes × (row.partition ≡ touch.partition)
      by p (inl put) part item = absurd (true≢false (sym item ∙ sym (ap (λ (q : Placed Bool). q.item) put.2)))
      by p (inr gone) part item = (gone.0, gone.1, ap (λ (q : Placed Bool). q.partition) gone.2 ∙ part)

-- ---- what a commit said

-- nothing, or the touches of a write that stands in its table
pub record IsOfWrite (s : State) (t : Transaction) (wrote : List Touch) : Type 0 where
  pub info : TableInfo
  pub effect : Effect
  pub write : ℕ
  pub given : given_in info.table.0 t.given ≡ Some write
  pub table : Table
  pub here : numbered s.tables info.table.0 ≡ Some table
  pub among : IsIn (written_by info.shape write 0 effect) table.writes
  pub wrote_is : wrote ≡ touches_of info effect

abbrev pub Said : State → Transaction → List Touch → Type 0
Said s t wrote = (wrote ≡ []) ⊎ IsOfWrite s t wrote

abbrev pub AllSaid : State → Type 0
AllSaid s =
    (n : ℕ) (t : Transaction) (place : ℕ) (wrote : List Touch) → numbered s.transactions n ≡ Some t → t.ending ≡ Some (Committed place wrote) → Said s t wrote

said-later : (s : State) (event : Entry) (t : Transaction) (wrote : List Touch) → Said s t wrote → Said (after s event) t wrote
said-later s event t wrote (inl none) = inl none
said-later s event t wrote (inr is) =
    let next = tables-go-on s event is.info.table.0 is.table is.here in
    inr (record {
      info = is.info;
      effect = is.effect;
      write = is.write;
      given = is.given;
      table = next.0;
      here = next.1;
      among = subst (IsIn (written_by is.info.shape is.write 0 is.effect)) (sym next.2.writes.is)
          (in-left (written_by is.info.shape is.write 0 is.effect) is.table.writes next.2.writes.more is.among);
      wrote_is = is.wrote_is;
    })

-- one that has committed had done so before, or does now
abbrev SaysBehind : State → Entry → Type 0
SaysBehind s event =
    (n : ℕ) (t : Transaction) (place : ℕ) (wrote : List Touch) → numbered (after s event).transactions n ≡ Some t → t.ending ≡ Some (Committed place wrote)
    → (numbered s.transactions n ≡ Some t) ⊎ Said (after s event) t wrote

commits-none : (s : State) (event : Entry) → (after s event).transactions ≡ s.transactions → SaysBehind s event
commits-none s event same n t place wrote at over = inl (ap (λ ts. numbered ts n) (sym same) ∙ at)

commits-opened : (s : State) (event : Entry) (session : List ℕ) (number : ℕ) (text : List ℕ) → (after s event).transactions ≡ s.transactions ++ opened session number text ∷ []
    → SaysBehind s event
commits-opened s event session number text transactions n t place wrote at over =
    elim (numbered-or-last s.transactions (opened session number text) n t (ap (λ ts. numbered ts n) (sym transactions) ∙ at)) [
      | inl old ↦ inl old
      | inr new ↦ absurd (never (ap (λ (x : Transaction). x.ending) (sym new.1) ∙ over))
    ]
  where
    never : None ≡ Some (Committed place wrote) → ⊥
    never e = cc

-- it was over before, or it is changed from one that was open
open-before : (f : Transaction → Transaction) (b t : Transaction) (o : Option Ending) → b.ending ≡ o → t ≡ unless_ended o b (f b) → (t ≡ b) ⊎ ((b.ending ≡ None) × (t ≡ f b))
open-before f b t None is same = inr (is, same)
open-before f b t (Some e) is same = inl same

commits-changed : (s : State) (event : Entry) (f : Transaction → Transaction) (k : ℕ) → (after s event).transactions ≡ changed (while_open f) s.transactions k
    → ((b : Transaction) (place : ℕ) (wrote : List Touch) → numbered s.transactions k ≡ Some b → b.ending ≡ None → (f b).ending ≡ Some (Committed place wrote)
    → Said (after s event) (f b) wrote)
    → SaysBehind s event
commits-changed s event f k transactions new n t place wrote at over =
    let was = changed-from (while_open f) s.transactions k n t (ap (λ ts. numbered ts n) (sym transactions) ∙ at) in
    elim was.2 [
      | inl kept ↦ inl (was.1 ∙ ap Some (sym kept))
      | inr turned ↦ elim (open-before f was.0 t was.0.ending refl turned.1) [
        | inl kept ↦ inl (was.1 ∙ ap Some (sym kept))
        | inr changed_now ↦
            inr (subst (λ (x : Transaction). Said (after s event) x wrote) (sym changed_now.1)
            (new was.0 place wrote (ap (numbered s.transactions) (sym turned.0) ∙ was.1) changed_now.0 (ap (λ (x : Transaction). x.ending) (sym changed_now.1) ∙ over)))
      ]
    ]

-- ---- a commit that wrote nothing says nothing

-- what a commit writes is what its transaction means
commits-are : (infos : List TableInfo) (t : Transaction) → IsSingle infos t → commits (Some t) ≡ writes_of (meaning t) 0 t.given
commits-are infos t single =
    ap (λ (ss : List Statement). flat_map (λ (statement : Statement). statement.wrote) (changed_at (wrote_as t.given 0) ss 0)) single.one
    ∙ append-nil (writes_of single.statement.meaning 0 t.given)
    ∙ ap (λ m. writes_of m 0 t.given) (sym (meaning-single t single.statement single.one))

some-is : (o : Option ℕ) → IsSome o → (n : ℕ) × (o ≡ Some n)
some-is None some = absurd (true≢false (sym some))
some-is (Some n) some = (n, refl)

abbrev table_write : TableInfo → Effect → ℕ → ℕ × Written
table_write info effect write = (info.table.0, written_by info.shape write 0 effect)

says-none : (t : Transaction) (wrote : List Touch) → AllByRecursion (IsOwnTouch t) wrote → (m : Option Meaning) → TouchesAreMeant wrote m → writes_of m 0 t.given ≡ [] → wrote ≡ []
says-none t wrote own None truth none = absurd truth
says-none t wrote own (Some (Refused why)) truth none = absurd truth
says-none t wrote own (Some (Listing names rows)) truth none = truth
says-none t wrote own (Some (Change info effect)) truth none = by wrote own truth
  where
    full : (o : Option ℕ) (write : ℕ) → o ≡ Some write → option_to_list (option_map (table_write info effect) o) ≡ [] → ⊥
    full None write e empty = cc
    full (Some other) write e empty = cc

    by : (those : List Touch) → AllByRecursion (IsOwnTouch t) those → those ≡ touches_of info effect → those ≡ []
    by [] each is = refl
    by (touch ∷ those) each is =
        let table = touch-table info effect 0 touch (subst (IsIn touch) is (inl refl)) in
        let write = some-is (given_in touch.table.0 t.given) each.0.given in
        absurd (full (given_in info.table.0 t.given) write.0 (ap (λ n. given_in n t.given) (sym table) ∙ write.1) none)
says-none t wrote own (Some (Make shape)) truth none = absurd truth
says-none t wrote own (Some (Unmake table)) truth none = absurd truth
says-none t wrote own (Some (Ask table region kind)) truth none = truth
says-none t wrote own (Some Plain) truth none = truth
says-none t wrote own (Some (Twice region row)) truth none = absurd truth
says-none t wrote own (Some RowLimit) truth none = absurd truth
says-none t wrote own (Some PartitionLimit) truth none = absurd truth

-- ---- entry by entry

module _ (s : State) (txn : TxnId) (wrote : List Touch) (base : IsSound s) (t : Transaction) (at : numbered s.transactions txn.0 ≡ Some t) (fits : CommitFits s wrote t)
    (truth : TouchesAreMeant wrote (meaning t)) where
  abbrev event : Entry
  event = entry.Commit txn wrote

  tables-behind-are : (after s event).tables ≡ tables_behind (commits (Some t)) s.tables
  unfolding acted
  tables-behind-are = ap (λ (o : Option Transaction). tables_behind (commits o) s.tables) at

  single : IsSingle (map info_in s.tables) t
  single = all-numbered (IsSingle (map info_in s.tables)) s.transactions txn.0 t at base.single

  says-by : OneWrite (meaning t) t.given (commits (Some t)) → Said (after s event) (committed s.entries wrote t) wrote
  says-by (inl none) = inl (says-none t wrote fits.own (meaning t) truth (sym (commits-are (map info_in s.tables) t single) ∙ none))
  says-by (inr (info, effect, write, means, given, one)) =
      let last : Written = written_by info.shape write 0 effect in
      let there = owner-table (map owners_of s.tables) s.tables info.table.0 write txn.0 refl
      (base.given.has_owner txn.0 info.table.0 write
      (ap (λ o. given_among o info.table.0) (numbered-map given_of s.transactions txn.0 ∙ ap (option_map given_of) at) ∙ given)) in
      let tables : (after s event).tables ≡ changed (written_to last) s.tables info.table.0 =
      tables-behind-are ∙ ap (λ (ws : List (ℕ × Written)). tables_behind ws s.tables) one in
      inr (record {
        info = info;
        effect = effect;
        write = write;
        given = given;
        table = written_to last there.0;
        here = ap (λ (ts : List Table). numbered ts info.table.0) tables ∙ changed-here (written_to last) s.tables info.table.0 there.0 there.1;
        among = in-right last there.0.writes (last ∷ []) (inl refl);
        wrote_is = subst (TouchesAreMeant wrote) means truth;
      })

  pub commit-says : Said (after s event) (committed s.entries wrote t) wrote
  commit-says = says-by (single-writes (map info_in s.tables) t single)

-- a statement that goes on says nothing yet
none-said : (s : State) (event : Entry) (f : Transaction → Transaction) → ((b : Transaction) → (f b).ending ≡ b.ending) → (b : Transaction) (place : ℕ) (wrote : List Touch)
    → b.ending ≡ None → (f b).ending ≡ Some (Committed place wrote) → Said (after s event) (f b) wrote
none-said s _ f same b place wrote none over = absurd (none_is b.ending (Committed place wrote) none (sym (same b) ∙ over))

-- another end says nothing
other-end : (s : State) (event : Entry) (t : Transaction) (e : Ending) (place : ℕ) (wrote : List Touch) → (e ≡ Committed place wrote → ⊥) → Some e ≡ Some (Committed place wrote)
    → Said (after s event) t wrote
other-end s _ t e place wrote other same = absurd (other (one_value e (Committed place wrote) same))

same-said : (a b : ℕ) (these those : List Touch) → Some (Committed a these) ≡ Some (Committed b those) → these ≡ those
same-said a b these those e = cc

said-of : (limits : Limits) (s : State) (event : Entry) → Fits limits s event → IsTruthful s event → IsSound s → SaysBehind s event
unfolding acted
said-of limits s (entry.Commit txn wrote) fits truth base =
    let here = found (CommitFits s wrote) (numbered s.transactions txn.0) fits in
    let meant = found (CommitIsTrue s txn.0 wrote) (numbered s.transactions txn.0) truth in
    let same : meant.0 ≡ here.0 = same_one (numbered s.transactions txn.0) meant.0 here.0 meant.1 here.1 in
    let said = commit-says s txn wrote base here.0 here.1 here.2 (subst (λ (t : Transaction). TouchesAreMeant wrote (meaning t)) same meant.2.touches) in
    commits-changed s (entry.Commit txn wrote) (committed s.entries wrote) txn.0 refl
    (λ b place those at none over.
    let one : here.0 ≡ b = same_one (numbered s.transactions txn.0) here.0 b here.1 at in
    let wrote_is : wrote ≡ those = same-said s.entries place wrote those over in
    subst (λ (ws : List Touch). Said (after s (entry.Commit txn wrote)) (committed s.entries wrote b) ws) wrote_is
    (subst (λ (t : Transaction). Said (after s (entry.Commit txn wrote)) (committed s.entries wrote t) wrote) one said))
said-of limits s (entry.Opened txn session number text) fits truth base = commits-opened s (entry.Opened txn session number text) session number text refl
said-of limits s (entry.Start txn statement) fits truth base =
    commits-changed s (entry.Start txn statement) (started s statement) txn.0 refl
    (λ b place wrote at none over. none-said s (entry.Start txn statement) (started s statement) (λ x. refl) b place wrote none over)
said-of limits s (entry.Given txn table write) fits truth base =
    commits-changed s (entry.Given txn table write) (given_id table.0 write.0) txn.0 refl
    (λ b place wrote at none over. none-said s (entry.Given txn table write) (given_id table.0 write.0) (λ x. refl) b place wrote none over)
said-of limits s (entry.Abort txn cause) fits truth base =
    commits-changed s (entry.Abort txn cause) (ended (Aborted s.entries cause)) txn.0 refl
    (λ b place wrote at none over.
    other-end s (entry.Abort txn cause) (ended (Aborted s.entries cause) b) (Aborted s.entries cause) place wrote (λ e. cc) over)
said-of limits s (entry.Create txn table) fits truth base =
    commits-changed s (entry.Create txn table) (ended (Made s.entries table.0)) txn.0 refl
    (λ b place wrote at none over.
    other-end s (entry.Create txn table) (ended (Made s.entries table.0) b) (Made s.entries table.0) place wrote (λ e. cc) over)
said-of limits s (entry.Drop txn table) fits truth base =
    commits-changed s (entry.Drop txn table) (ended (Dropped s.entries table.0)) txn.0 refl
    (λ b place wrote at none over.
    other-end s (entry.Drop txn table) (ended (Dropped s.entries table.0) b) (Dropped s.entries table.0) place wrote (λ e. cc) over)
said-of limits s (entry.Boot run) fits truth base = commits-none s (entry.Boot run) refl
said-of limits s (entry.Asked job table partition kind by) fits truth base = commits-none s (entry.Asked job table partition kind by) refl
said-of limits s (entry.Picked job mark) fits truth base = commits-none s (entry.Picked job mark) refl
said-of limits s (entry.Published job low high mark) fits truth base = commits-none s (entry.Published job low high mark) refl
said-of limits s (entry.Empty job) fits truth base = commits-none s (entry.Empty job) refl
said-of limits s (entry.Cleaned job) fits truth base = commits-none s (entry.Cleaned job) refl
said-of limits s (entry.Failed job cause) fits truth base = commits-none s (entry.Failed job cause) refl
said-of limits s (entry.Forgot table write) fits truth base = commits-none s (entry.Forgot table write) refl
said-of limits s (entry.Next txn statement number text) fits truth base = absurd fits
said-of limits s (entry.Did txn statement wrote) fits truth base = absurd fits
said-of limits s (entry.Alter txn table) fits truth base = absurd fits

-- ---- books

all-said : (limits : Limits) (s : State) (book : List Entry) → AllFit limits s book → AllTruthful s book → IsSound s → AllSaid s → AllSaid (fold after s book)
all-said limits s [] fit truth base said = said
all-said limits s (event ∷ book) fit truth base said =
    all-said limits (after s event) book fit.1 truth.1 (sound-after limits s event fit.0 base)
    (λ n t place wrote at over. elim (said-of limits s event fit.0 truth.0 base n t place wrote at over) [
      | inl old ↦ said-later s event t wrote (said n t place wrote old over)
      | inr now ↦ now
    ])

nowhere : {A : Type 0} (n : ℕ) (x : A) → numbered {A = A} [] n ≡ Some x → ⊥
nowhere zero x e = cc
nowhere (suc n) x e = cc

pub books-said : (limits : Limits) (book : List Entry) → AllFit limits nothing_yet book → AllTruthful nothing_yet book → AllSaid (fold after nothing_yet book)
books-said limits book fit truth = all-said limits nothing_yet book fit truth nothing-sound (λ n t place wrote at over. absurd (nowhere n t at))
