-- What holds of every state: each entry that fits keeps it.
use Rattle.std.proofs.Common.{refl, ◌≡◌, ℕ, zero, suc, ◌+◌, ◌==◌, ◌⊎◌, inl, inr, cond, is_none, Option, Some, None, List, [], ◌∷◌, ◌++◌, length, map, fold, sym, ap, ◌∙◌, subst, arith}
use Rattle.std.specs.Prelude.{IsTrue, IsNone}
use Rattle.std.specs.List.{slice_get, flat_map, AllByRecursion}
use Rattle.std.specs.Option.{option_map, option_to_list}
use Rattle.std.proofs.lemmas.List.{append-nil}
use Rattle.hv_base.specs.declared.ids.Limits.{Limits}
use Rattle.hv_base.specs.declared.ids.Touch.{Touch}
use Rattle.hv_ast.specs.declared.statement.Stmt.{Stmt}
use Rattle.hv_grammar.specs.Texts.{tree_of}
use Rattle.hv_history.specs.hv_meaning.specs.hv_typing.specs.hv_logic.specs.declared.catalog.TableInfo.{TableInfo}
use Rattle.hv_history.specs.hv_meaning.specs.hv_typing.specs.hv_logic.specs.declared.effect.Effect.{Effect}
use Rattle.hv_history.specs.hv_meaning.specs.hv_typing.specs.hv_logic.specs.declared.meaning.Meaning.{Meaning}
use Rattle.hv_history.specs.hv_meaning.specs.hv_typing.specs.hv_logic.specs.declared.meaning.Meaning.TheVariants.{Refused, Listing, Change, Make, Unmake, Ask, Plain, Twice, RowLimit, PartitionLimit}
use Rattle.hv_history.specs.declared.entry.Entry.{Entry}
use Rattle.hv_history.specs.declared.entry.Entry.TheVariants as entry
use Rattle.hv_history.specs.declared.state.Written.{Written}
use Rattle.hv_history.specs.declared.state.Statement.{Statement}
use Rattle.hv_history.specs.declared.state.Table.{Table}
use Rattle.hv_history.specs.declared.state.Ending.{Ending}
use Rattle.hv_history.specs.declared.state.Ending.TheVariants.{Committed, Aborted, Made, Dropped}
use Rattle.hv_history.specs.declared.state.Transaction.{Transaction}
use Rattle.hv_history.specs.State.{State, nothing_yet, numbered, changed, changed_at, unless_ended, while_open, opened, meant_in, meaning_in, means, first_known, started, given_id, given_in, owned, dropped, written_to, committed, ended, did, wrote_as, writes_of, written_by, commits, tables_behind, made_by, forgot, opening_tree, acted, after}
use Rattle.hv_history.specs.JobsFit.{ForgotFits}
use Rattle.hv_history.specs.Legal.{is_open, Fits, OpenedFits, GivenFits, CommitFits, CreateFits, DropFits, dropped_name, is_named_there, IsStatement, AllFit}
use Rattle.hv_stands.specs.Files.{ending_of}
use Rattle.hv_stands.specs.Sound.{IsRoutedWrite, HasOther, AreApart, AreSound, info_in, IsRoutedChange, ChangesAmong, IsSingle, given_of, owners_of, given_among, owner_among, AreGiven, IsDone, IsOfCommitted, AreOfCommitted, IsSound}
use Rattle.hv_stands.proofs.Numbers.{same_one, none_is, found, changed-here, numbered-map, map-changed, map-more, numbered-more}
use Rattle.hv_stands.proofs.Owning.{opened-given, created-given, gave-given}
use Rattle.hv_stands.proofs.Written.{changes-among}
use Rattle.hv_stands.proofs.Soundness.{all-mapped, all-more, all-numbered, all-changed, soundness-later, table-made-sound, changed-sound, owned-few}

-- ---- a transaction is changed while it is open

pub open-none : (o : Option Ending) → IsTrue (is_none o) → o ≡ None
open-none None h = refl
open-none (Some e) h = cc

pub still-open : (t : Transaction) → IsTrue (is_open t) → t.ending ≡ None
still-open t h = open-none t.ending h

pub open-by : (P : Transaction → Type 0) (t next : Transaction) (o : Option Ending) → P t → P next → P (unless_ended o t next)
open-by P t next None before now = now
open-by P t next (Some e) before now = before

all-open_at : (P : Transaction → Type 0) (f : Transaction → Transaction) (step : (t : Transaction) → P t → P (f t)) (xs : List Transaction) (n : ℕ)
    → AllByRecursion P xs → AllByRecursion P (changed_at (while_open f) xs n)
all-open_at P f step [] n h = tt
all-open_at P f step (x ∷ xs) zero h = (open-by P x (f x) x.ending h.0 (step x h.0), h.1)
all-open_at P f step (x ∷ xs) (suc n) h = (h.0, all-open_at P f step xs n h.1)

pub all-open : (P : Transaction → Type 0) (f : Transaction → Transaction) (step : (t : Transaction) → P t → P (f t)) (xs : List Transaction) (n : ℕ)
    → AllByRecursion P xs → AllByRecursion P (changed (while_open f) xs n)
all-open P f step xs zero h = h
all-open P f step xs (suc n) h = all-open_at P f step xs n h

map-open_at : {B : Type 0} (g : Transaction → B) (f : Transaction → Transaction) (same : (t : Transaction) → g (f t) ≡ g t) (xs : List Transaction) (n : ℕ)
    → map g (changed_at (while_open f) xs n) ≡ map g xs
map-open_at g f same [] n = refl
map-open_at g f same (x ∷ xs) zero = ap (λ y. y ∷ map g xs) (open-by (λ t. g t ≡ g x) x (f x) x.ending refl (same x))
map-open_at g f same (x ∷ xs) (suc n) = ap (λ ys. g x ∷ ys) (map-open_at g f same xs n)

-- what it keeps of each is kept of all
pub map-open : {B : Type 0} (g : Transaction → B) (f : Transaction → Transaction) (same : (t : Transaction) → g (f t) ≡ g t) (xs : List Transaction) (n : ℕ)
    → map g (changed (while_open f) xs n) ≡ map g xs
map-open g f same xs zero = refl
map-open g f same xs (suc n) = map-open_at g f same xs n

-- one that is open is changed
pub open-here : (f : Transaction → Transaction) (xs : List Transaction) (n : ℕ) (t : Transaction) → numbered xs n ≡ Some t → t.ending ≡ None
    → numbered (changed (while_open f) xs n) n ≡ Some (f t)
open-here f xs n t at none =
    changed-here (while_open f) xs n t at ∙ ap (λ o. Some (unless_ended o t (f t))) none

-- what is ended stays so
ended-by : (Q : Option (Option Ending) → Type 0) (none : Q (Some None) → ⊥) (t next : Transaction) (o : Option Ending) → t.ending ≡ o
    → Q (Some o) → Q (Some (ending_of (unless_ended o t next)))
ended-by Q none t next None is h = absurd (none h)
ended-by Q none t next (Some e) is h = subst (λ o. Q (Some o)) (sym is) h

module _ (Q : Option (Option Ending) → Type 0) (none : Q (Some None) → ⊥) (f : Transaction → Transaction) where
  stays_at : (xs : List Transaction) (n m : ℕ) → Q (slice_get (map ending_of xs) m) → Q (slice_get (map ending_of (changed_at (while_open f) xs n)) m)
  stays_at [] n m h = h
  stays_at (x ∷ xs) zero zero h = ended-by Q none x (f x) x.ending refl h
  stays_at (x ∷ xs) zero (suc m) h = h
  stays_at (x ∷ xs) (suc n) zero h = h
  stays_at (x ∷ xs) (suc n) (suc m) h = stays_at xs n m h

  pub ending-stays : (xs : List Transaction) (n m : ℕ) → Q (numbered (map ending_of xs) m) → Q (numbered (map ending_of (changed (while_open f) xs n)) m)
  ending-stays xs zero m h = h
  ending-stays xs (suc n) zero h = h
  ending-stays xs (suc n) (suc m) h = stays_at xs n m h

done-open : IsDone (Some None) → ⊥
done-open h = h

pub done-stays : (f : Transaction → Transaction) (xs : List Transaction) (n m : ℕ) → IsDone (numbered (map ending_of xs) m)
    → IsDone (numbered (map ending_of (changed (while_open f) xs n)) m)
done-stays f xs n m h = ending-stays IsDone done-open f xs n m h

done-more : (xs : List Transaction) (t : Transaction) (m : ℕ) → IsDone (numbered (map ending_of xs) m) → IsDone (numbered (map ending_of (xs ++ t ∷ [])) m)
done-more xs t m h = subst (λ es. IsDone (numbered es m)) (sym (map-more ending_of xs t)) (by (numbered (map ending_of xs) m) refl h)
  where
    by : (o : Option (Option Ending)) → numbered (map ending_of xs) m ≡ o → IsDone o → IsDone (numbered (map ending_of xs ++ t.ending ∷ []) m)
    by None is h = absurd h
    by (Some e) is h = subst IsDone (sym (numbered-more (map ending_of xs) t.ending m e is)) h

-- ---- the writes of committed transactions

committed-later : (before now : List (Option Ending)) → ((m : ℕ) → IsDone (numbered before m) → IsDone (numbered now m))
    → (tables : List Table) → AllByRecursion (AreOfCommitted before) tables → AllByRecursion (AreOfCommitted now) tables
committed-later before now later tables h =
    all-mapped (AreOfCommitted before) (AreOfCommitted now)
    (λ table each. all-mapped (IsOfCommitted before table.owners) (IsOfCommitted now table.owners) (λ written is. (is.0, is.1, later is.0 is.2)) table.writes each)
    tables h

-- another write id than those of committed transactions
pub other-write : (endings : List (Option Ending)) (owners : List ℕ) (written : Written) (txn : ℕ) → numbered owners written.write ≡ Some txn
    → (IsDone (numbered endings txn) → ⊥) → (writes : List Written) → AllByRecursion (IsOfCommitted endings owners) writes
    → AllByRecursion (HasOther written.write) writes
other-write endings owners written txn owner undone [] h = tt
other-write endings owners written txn owner undone (first ∷ writes) h = (
  (λ same. undone (subst (λ n. IsDone (numbered endings n))
      (same_one (numbered owners written.write) h.0.0 txn (ap (numbered owners) (sym same) ∙ h.0.1) owner) h.0.2)),
  other-write endings owners written txn owner undone writes h.1,
)

apart-more : (writes : List Written) (written : Written) → AreApart writes → AllByRecursion (HasOther written.write) writes → AreApart (writes ++ written ∷ [])
apart-more [] written apart other = (tt, tt)
apart-more (first ∷ writes) written apart other =
    (all-more (HasOther first.write) writes written apart.0 (λ same. other.0 (sym same)), apart-more writes written apart.1 other.1)

-- ---- what a commit writes

-- a write under the id that the transaction was given, to one of these tables
pub record IsWriteOf (infos : List TableInfo) (t : Transaction) (x : ℕ × Written) : Type 0 where
  pub given : given_in x.0 t.given ≡ Some x.1.write
  pub info : TableInfo
  pub here : numbered infos x.0 ≡ Some info
  pub routed : IsRoutedWrite info.shape x.1

-- nothing, or the rows of one table
abbrev pub IsOneWrite : List TableInfo → Transaction → List (ℕ × Written) → Type 0
IsOneWrite infos t ws = (ws ≡ []) ⊎ ((x : ℕ × Written) × (ws ≡ x ∷ []) × IsWriteOf infos t x)

module _ (infos : List TableInfo) where
  change-writes : (info : TableInfo) (effect : Effect) (number : ℕ) (t : Transaction) → IsRoutedChange infos info effect
      → (o : Option ℕ) → given_in info.table.0 t.given ≡ o
      → IsOneWrite infos t (option_to_list (option_map (λ write. (info.table.0, written_by info.shape write number effect)) o))
  change-writes info effect number t routed None is = inl refl
  change-writes info effect number t routed (Some write) is =
      inr (
        (info.table.0, written_by info.shape write number effect),
        refl,
        record {
          given = is;
          info = info;
          here = routed.here;
          routed = record { rows = effect.inserts; whole = routed.whole; numbered = refl; deletes = routed.deletes };
        },
      )

  writes-one : (m : Option Meaning) (number : ℕ) (t : Transaction) → ChangesAmong infos m → IsOneWrite infos t (writes_of m number t.given)
  writes-one None number t routed = inl refl
  writes-one (Some (Refused why)) number t routed = inl refl
  writes-one (Some (Listing names rows)) number t routed = inl refl
  writes-one (Some (Change info effect)) number t routed = change-writes info effect number t routed (given_in info.table.0 t.given) refl
  writes-one (Some (Make shape)) number t routed = inl refl
  writes-one (Some (Unmake table)) number t routed = inl refl
  writes-one (Some (Ask table region kind)) number t routed = inl refl
  writes-one (Some Plain) number t routed = inl refl
  writes-one (Some (Twice region row)) number t routed = inl refl
  writes-one (Some RowLimit) number t routed = inl refl
  writes-one (Some PartitionLimit) number t routed = inl refl

  pub one-write : (t : Transaction) → IsSingle infos t → IsOneWrite infos t (commits (Some t))
  one-write t single =
      subst (IsOneWrite infos t)
      (sym (ap (λ (ss : List Statement). flat_map (λ (statement : Statement). statement.wrote) (changed_at (wrote_as t.given 0) ss 0)) single.one
      ∙ append-nil (writes_of single.statement.meaning 0 t.given)))
      (writes-one single.statement.meaning 0 t single.changes)

-- the table of a write id
pub owner-table : (owners : List (List ℕ)) (tables : List Table) (k write txn : ℕ) → owners ≡ map owners_of tables → owner_among (numbered owners k) write ≡ Some txn
    → (table : Table) × (numbered tables k ≡ Some table) × (numbered table.owners write ≡ Some txn)
owner-table owners tables k write txn are e =
    by (numbered tables k) refl (ap (λ o. owner_among o write) (sym (ap (λ os. numbered os k) are ∙ numbered-map owners_of tables k)) ∙ e)
  where
    by : (o : Option Table) → numbered tables k ≡ o → owner_among (option_map owners_of o) write ≡ Some txn
        → (table : Table) × (numbered tables k ≡ Some table) × (numbered table.owners write ≡ Some txn)
    by None at e = cc
    by (Some table) at e = (table, at, e)

-- ---- one statement

single-with : (infos : List TableInfo) (next : Transaction) (statement : Statement) → next.statements ≡ statement ∷ [] → IsStatement statement.text
    → ChangesAmong infos statement.meaning → IsSingle infos next
single-with infos next statement one text changes = record { statement = statement; one = one; text = text; changes = changes }

changes-in : (s : State) (text : List ℕ) → IsSound s → ChangesAmong (map info_in s.tables) (meaning_in s text)
unfolding meaning_in
changes-in s text sound = by (tree_of text)
  where
    by : (o : Option Stmt) → ChangesAmong (map info_in s.tables) (means s o)
    by None = tt
    by (Some tree) = changes-among s tree sound

changes-first : (infos : List TableInfo) (o now : Option Meaning) → ChangesAmong infos o → ChangesAmong infos now → ChangesAmong infos (first_known o now)
changes-first infos None now before next = next
changes-first infos (Some m) now before next = before

single-started : (s : State) (number : ℕ) (t : Transaction) → IsSound s → IsSingle (map info_in s.tables) t → IsSingle (map info_in s.tables) (started s number t)
single-started s zero t sound single =
    single-with (map info_in s.tables) (started s zero t) (meant_in s single.statement) (ap (λ ss. changed_at (meant_in s) ss zero) single.one) single.text
    (changes-first (map info_in s.tables) single.statement.meaning (meaning_in s single.statement.text) single.changes (changes-in s single.statement.text sound))
single-started s (suc n) t sound single =
    single-with (map info_in s.tables) (started s (suc n) t) single.statement (ap (λ ss. changed_at (meant_in s) ss (suc n)) single.one) single.text single.changes

single-did : (infos : List TableInfo) (ending : Ending) (number : ℕ) (t : Transaction) → IsSingle infos t → IsSingle infos (ended ending (did number t))
single-did infos ending zero t single =
    single-with infos (ended ending (did zero t)) (wrote_as t.given zero single.statement) (ap (λ ss. changed_at (wrote_as t.given zero) ss zero) single.one) single.text
    single.changes
single-did infos ending (suc n) t single =
    single-with infos (ended ending (did (suc n) t)) single.statement (ap (λ ss. changed_at (wrote_as t.given (suc n)) ss (suc n)) single.one) single.text single.changes

single-same : (infos : List TableInfo) (t next : Transaction) → next.statements ≡ t.statements → IsSingle infos t → IsSingle infos next
single-same infos t next same single = single-with infos next single.statement (same ∙ single.one) single.text single.changes

-- beside one table more
changes-more : (infos : List TableInfo) (info : TableInfo) (m : Option Meaning) → ChangesAmong infos m → ChangesAmong (infos ++ info ∷ []) m
changes-more infos info None h = tt
changes-more infos info (Some (Refused why)) h = tt
changes-more infos info (Some (Listing names rows)) h = tt
changes-more infos info (Some (Change of effect)) h =
    record { here = numbered-more infos info of.table.0 of h.here; whole = h.whole; deletes = h.deletes }
changes-more infos info (Some (Make shape)) h = tt
changes-more infos info (Some (Unmake table)) h = tt
changes-more infos info (Some (Ask table region kind)) h = tt
changes-more infos info (Some Plain) h = tt
changes-more infos info (Some (Twice region row)) h = tt
changes-more infos info (Some RowLimit) h = tt
changes-more infos info (Some PartitionLimit) h = tt

single-more : (infos : List TableInfo) (info : TableInfo) (t : Transaction) → IsSingle infos t → IsSingle (infos ++ info ∷ []) t
single-more infos info t single =
    single-with (infos ++ info ∷ []) t single.statement single.one single.text (changes-more infos info single.statement.meaning single.changes)

-- what is kept of each is kept of all
pub map-same : {A B : Type 0} (g : A → B) (f : A → A) (same : (x : A) → g (f x) ≡ g x) (xs : List A) (n : ℕ) → map g (changed f xs n) ≡ map g xs
map-same {A} g f same xs zero = refl
map-same {A} g f same xs (suc n) = slice xs n
  where
    slice : (xs : List A) (n : ℕ) → map g (changed_at f xs n) ≡ map g xs
    slice [] n = refl
    slice (x ∷ xs) zero = ap (λ y. y ∷ map g xs) (same x)
    slice (x ∷ xs) (suc n) = ap (λ ys. g x ∷ ys) (slice xs n)

-- ---- entry by entry

-- the entries are counted, and nothing else changed
module _ (s now : State) (sound : IsSound s) (tables : now.tables ≡ s.tables) (entries : now.entries ≡ s.entries + 1)
    (single : AllByRecursion (IsSingle (map info_in s.tables)) now.transactions) where
  same-tables : AreSound now.entries now.tables
  same-tables =
      subst (λ ts. AreSound now.entries ts) (sym tables)
      (subst (λ n. AreSound n s.tables) (sym entries) (soundness-later s.entries (s.entries + 1) s.tables sound.tables (omega arith)))

  pub with-tables : AreGiven (map given_of now.transactions) (map owners_of s.tables)
      → ((m : ℕ) → IsDone (numbered (map ending_of s.transactions) m) → IsDone (numbered (map ending_of now.transactions) m))
      → IsSound now
  with-tables given later = record {
    tables = same-tables;
    single = subst (λ ts. AllByRecursion (IsSingle (map info_in ts)) now.transactions) (sym tables) single;
    given = subst (λ ts. AreGiven (map given_of now.transactions) (map owners_of ts)) (sym tables) given;
    committed = subst (λ ts. AllByRecursion (AreOfCommitted (map ending_of now.transactions)) ts) (sym tables)
        (committed-later (map ending_of s.transactions) (map ending_of now.transactions) later s.tables sound.committed);
  }

-- one transaction was changed, and its write ids are as before
changed-open : (s now : State) (f : Transaction → Transaction) (n : ℕ) → IsSound s → now.tables ≡ s.tables → now.entries ≡ s.entries + 1
    → now.transactions ≡ changed (while_open f) s.transactions n → ((t : Transaction) → IsSingle (map info_in s.tables) t → IsSingle (map info_in s.tables) (f t)) → ((t : Transaction) → (f t).given ≡ t.given)
    → IsSound now
changed-open s now f n sound tables entries are single given =
    with-tables s now sound tables entries
    (subst (AllByRecursion (IsSingle (map info_in s.tables))) (sym are) (all-open (IsSingle (map info_in s.tables)) f single s.transactions n sound.single))
    (subst (λ gs. AreGiven gs (map owners_of s.tables)) (sym (ap (map given_of) are ∙ map-open given_of f given s.transactions n)) sound.given)
    (λ m done. subst (λ ts. IsDone (numbered (map ending_of ts) m)) (sym are) (done-stays f s.transactions n m done))

opened-sound : (limits : Limits) (s now : State) (session : List ℕ) (number txn : ℕ) (text : List ℕ) → OpenedFits limits s txn text → IsSound s
    → now.tables ≡ s.tables → now.entries ≡ s.entries + 1 → now.transactions ≡ s.transactions ++ opened session number text ∷ [] → IsSound now
opened-sound limits s now session number txn text fits sound tables entries are =
    with-tables s now sound tables entries
    (subst (AllByRecursion (IsSingle (map info_in s.tables))) (sym are)
    (all-more (IsSingle (map info_in s.tables)) s.transactions (opened session number text) sound.single
    (record { statement = record { number = number; text = text; meaning = None; wrote = [] }; one = refl; text = fits.statement; changes = tt })))
    (subst (λ gs. AreGiven gs (map owners_of s.tables)) (sym (ap (map given_of) are ∙ map-more given_of s.transactions (opened session number text)))
    (opened-given (map given_of s.transactions) (map owners_of s.tables) sound.given))
    (λ m done. subst (λ ts. IsDone (numbered (map ending_of ts) m)) (sym are) (done-more s.transactions (opened session number text) m done))

-- a write id was given
module _ (limits : Limits) (s now : State) (n k w : ℕ) (t : Transaction) (sound : IsSound s) (at : numbered s.transactions n ≡ Some t) (fits : GivenFits limits s k w t)
    (transactions : now.transactions ≡ changed (while_open (given_id k w)) s.transactions n) (tables : now.tables ≡ changed (owned n) s.tables k)
    (entries : now.entries ≡ s.entries + 1) where
  the-table : (table : Table) × (numbered s.tables k ≡ Some table) × (IsTrue table.is_live × (w ≡ length table.owners + 1))
  the-table = found (λ (x : Table). IsTrue x.is_live × (w ≡ length x.owners + 1)) (numbered s.tables k) fits.live

  gave-there : (table : Table) → numbered s.tables k ≡ Some table → w ≡ length table.owners + 1 → AreGiven (map given_of now.transactions) (map owners_of now.tables)
  gave-there table here next =
      gave-given (map given_of s.transactions) (map owners_of s.tables) n k t.given table.owners
      (numbered-map given_of s.transactions n ∙ ap (option_map given_of) at)
      (numbered-map owners_of s.tables k ∙ ap (option_map owners_of) here)
      (none-given (given_in k t.given) fits.first)
      (map given_of now.transactions) (map owners_of now.tables)
      (λ m.
      ap (λ ts. numbered (map given_of ts) m) transactions
      ∙ map-changed given_of (while_open (given_id k w)) s.transactions n m t at
      ∙ ap (λ (o : Option Ending). cond (m == n) (Some (given_of (unless_ended o t (given_id k w t)))) (numbered (map given_of s.transactions) m)) (still-open t fits.running.unended)
      ∙ ap (λ (x : ℕ). cond (m == n) (Some (t.given ++ (k, x) ∷ [])) (numbered (map given_of s.transactions) m)) next)
      (λ m. ap (λ ts. numbered (map owners_of ts) m) tables ∙ map-changed owners_of (owned n) s.tables k m table here)
      sound.given
    where
      none-given : (o : Option ℕ) → IsNone o → o ≡ None
      none-given None h = refl
      none-given (Some x) h = cc

  more-owners : (m : ℕ) (endings : List (Option Ending)) (table : Table) → AreOfCommitted endings table → AreOfCommitted endings (owned m table)
  more-owners m endings table each =
      all-mapped (IsOfCommitted endings table.owners) (IsOfCommitted endings (table.owners ++ m ∷ []))
      (λ written is. (is.0, numbered-more table.owners m written.write is.0 is.1, is.2)) table.writes each

  gave-sound : IsSound now
  gave-sound =
      let there = the-table in
      let table : Table = there.0 in
      let ends : map ending_of now.transactions ≡ map ending_of s.transactions =
      ap (map ending_of) transactions ∙ map-open ending_of (given_id k w) (λ t. refl) s.transactions n in
      record {
        tables = subst (λ ts. AreSound now.entries ts) (sym tables)
            (subst (λ m. AreSound m (changed (owned n) s.tables k)) (sym entries)
            (changed-sound s.entries (s.entries + 1) s.tables k (owned n) table there.1 (λ t. refl)
            (λ t few. omega arith) (λ few. owned-few s.entries n table few) (λ h. record { each = h.each; apart = h.apart }) sound.tables));
        single = subst (λ infos. AllByRecursion (IsSingle infos) now.transactions)
            (sym (ap (map info_in) tables ∙ map-same info_in (owned n) (λ t. refl) s.tables k))
            (subst (AllByRecursion (IsSingle (map info_in s.tables))) (sym transactions)
            (all-open (IsSingle (map info_in s.tables)) (given_id k w) (λ t single. single-same (map info_in s.tables) t (given_id k w t) refl single) s.transactions n
            sound.single));
        given = gave-there table there.1 there.2.1;
        committed = subst (λ ts. AllByRecursion (AreOfCommitted (map ending_of now.transactions)) ts) (sym tables)
            (subst (λ es. AllByRecursion (AreOfCommitted es) (changed (owned n) s.tables k)) (sym ends)
            (all-changed (AreOfCommitted (map ending_of s.transactions)) (AreOfCommitted (map ending_of s.transactions)) (owned n) s.tables k table there.1
            (λ t h. h) (more-owners n (map ending_of s.transactions) table) sound.committed));
      }

-- a commit
module _ (s now : State) (n place : ℕ) (wrote : List Touch) (t : Transaction) (sound : IsSound s) (at : numbered s.transactions n ≡ Some t) (unended : t.ending ≡ None)
    (transactions : now.transactions ≡ changed (while_open (committed place wrote)) s.transactions n)
    (tables : now.tables ≡ tables_behind (commits (Some t)) s.tables)
    (entries : now.entries ≡ s.entries + 1) where
  abbrev infos : List TableInfo
  infos = map info_in s.tables

  single-there : IsSingle infos t
  single-there = all-numbered (IsSingle infos) s.transactions n t at sound.single

  singles : AllByRecursion (IsSingle infos) now.transactions
  singles =
      subst (AllByRecursion (IsSingle infos)) (sym transactions)
      (all-open (IsSingle infos) (committed place wrote) (λ t single. single-did infos (Committed place wrote) 0 t single) s.transactions n sound.single)

  given-same : map given_of now.transactions ≡ map given_of s.transactions
  given-same = ap (map given_of) transactions ∙ map-open given_of (committed place wrote) (λ t. refl) s.transactions n

  done-later : (m : ℕ) → IsDone (numbered (map ending_of s.transactions) m) → IsDone (numbered (map ending_of now.transactions) m)
  done-later m done = subst (λ ts. IsDone (numbered (map ending_of ts) m)) (sym transactions) (done-stays (committed place wrote) s.transactions n m done)

  done-here : IsDone (numbered (map ending_of now.transactions) n)
  done-here =
      subst (λ ts. IsDone (numbered (map ending_of ts) n)) (sym transactions)
      (subst IsDone
      (sym (numbered-map ending_of (changed (while_open (committed place wrote)) s.transactions n) n
      ∙ ap (option_map ending_of) (open-here (committed place wrote) s.transactions n t at unended))) tt)

  undone-before : IsDone (numbered (map ending_of s.transactions) n) → ⊥
  undone-before done =
      subst IsDone (numbered-map ending_of s.transactions n ∙ ap (option_map ending_of) at ∙ ap (λ o. Some o) unended) done

  owners-written : (x : ℕ × Written) (ts : List Table) → map owners_of (changed (written_to x.1) ts x.0) ≡ map owners_of ts
  owners-written x ts = map-same owners_of (written_to x.1) (λ t. refl) ts x.0

  -- the table that it writes to is of the description by which it was routed
  routed-there : (x : ℕ × Written) (is : IsWriteOf infos t x) (table : Table) → numbered s.tables x.0 ≡ Some table → IsRoutedWrite table.info.shape x.1
  routed-there x is table there =
      subst (λ (info : TableInfo). IsRoutedWrite info.shape x.1)
      (same_one (numbered infos x.0) is.info table.info is.here (numbered-map info_in s.tables x.0 ∙ ap (option_map info_in) there)) is.routed

  wrote-none : now.tables ≡ s.tables → IsSound now
  wrote-none same =
      with-tables s now sound same entries singles
      (subst (λ gs. AreGiven gs (map owners_of s.tables)) (sym given-same) sound.given) done-later

  wrote-one : (x : ℕ × Written) → IsWriteOf infos t x → now.tables ≡ changed (written_to x.1) s.tables x.0 → IsSound now
  wrote-one x is made =
      let before : List (Option Ending) = map ending_of s.transactions in
      let there = owner-table (map owners_of s.tables) s.tables x.0 x.1.write n refl
      (sound.given.has_owner n x.0 x.1.write (ap (λ o. given_among o x.0) (numbered-map given_of s.transactions n ∙ ap (option_map given_of) at) ∙ is.given)) in
      let table : Table = there.0 in
      let each : AreOfCommitted before table = all-numbered (AreOfCommitted before) s.tables x.0 table there.1 sound.committed in
      let later : AllByRecursion (AreOfCommitted (map ending_of now.transactions)) s.tables =
      committed-later before (map ending_of now.transactions) done-later s.tables sound.committed in
      record {
        tables = subst (λ ts. AreSound now.entries ts) (sym made)
            (subst (λ m. AreSound m (changed (written_to x.1) s.tables x.0)) (sym entries)
            (changed-sound s.entries (s.entries + 1) s.tables x.0 (written_to x.1) table there.1 (λ t. refl)
            (λ t few. omega arith) (λ few. omega arith)
            (λ h. record {
              each = all-more (IsRoutedWrite table.info.shape) table.writes x.1 h.each (routed-there x is table there.1);
              apart = apart-more table.writes x.1 h.apart (other-write before table.owners x.1 n there.2 undone-before table.writes each);
            }) sound.tables));
        single = subst (λ infos. AllByRecursion (IsSingle infos) now.transactions)
            (sym (ap (map info_in) made ∙ map-same info_in (written_to x.1) (λ t. refl) s.tables x.0)) singles;
        given = subst (λ gs. AreGiven gs (map owners_of now.tables)) (sym given-same)
            (subst (λ os. AreGiven (map given_of s.transactions) os) (sym (ap (map owners_of) made ∙ owners-written x s.tables)) sound.given);
        committed = subst (λ ts. AllByRecursion (AreOfCommitted (map ending_of now.transactions)) ts) (sym made)
            (all-changed (AreOfCommitted (map ending_of now.transactions)) (AreOfCommitted (map ending_of now.transactions)) (written_to x.1) s.tables x.0 table there.1
            (λ t h. h)
            (λ h. all-more (IsOfCommitted (map ending_of now.transactions) table.owners) table.writes x.1 h (n, there.2, done-here))
            later);
      }

  committed-sound : IsSound now
  committed-sound = by (one-write infos t single-there)
    where
      by : IsOneWrite infos t (commits (Some t)) → IsSound now
      by (inl none) = wrote-none (tables ∙ ap (λ ws. tables_behind ws s.tables) none)
      by (inr one) = wrote-one one.0 one.2 (tables ∙ ap (λ ws. tables_behind ws s.tables) one.1)

-- a table was made
created-sound : (s now : State) (n k place : ℕ) (t : Transaction) → IsSound s → numbered s.transactions n ≡ Some t → CreateFits s k t
    → now.transactions ≡ changed (while_open (ended (Made place k))) s.transactions n → now.tables ≡ s.tables ++ made_by k (Some t) ∷ []
    → now.entries ≡ s.entries + 1 → IsSound now
created-sound s now n k place t sound at fits transactions tables entries =
    let made : Table = made_by k (Some t) in
    record {
      tables = subst (λ ts. AreSound now.entries ts) (sym tables)
          (subst (λ m. AreSound m (s.tables ++ made ∷ [])) (sym entries)
          (table-made-sound (s.entries + 1) s.tables made
          (soundness-later s.entries (s.entries + 1) s.tables sound.tables (omega arith))
          fits.flat fits.next (omega arith) (record { each = tt; apart = tt })));
      single = subst (λ infos. AllByRecursion (IsSingle infos) now.transactions) (sym (ap (map info_in) tables ∙ map-more info_in s.tables made))
          (subst (AllByRecursion (IsSingle (map info_in s.tables ++ made.info ∷ []))) (sym transactions)
          (all-open (IsSingle (map info_in s.tables ++ made.info ∷ [])) (ended (Made place k))
          (λ t single. single-same (map info_in s.tables ++ made.info ∷ []) t (ended (Made place k) t) refl single) s.transactions n
          (all-mapped (IsSingle (map info_in s.tables)) (IsSingle (map info_in s.tables ++ made.info ∷ [])) (single-more (map info_in s.tables) made.info) s.transactions
          sound.single)));
      given = subst (λ ts. AreGiven (map given_of now.transactions) (map owners_of ts)) (sym tables)
          (subst (λ os. AreGiven (map given_of now.transactions) os) (sym (map-more owners_of s.tables made))
          (subst (λ gs. AreGiven gs (map owners_of s.tables ++ [] ∷ []))
          (sym (ap (map given_of) transactions ∙ map-open given_of (ended (Made place k)) (λ t. refl) s.transactions n))
          (created-given (map given_of s.transactions) (map owners_of s.tables) sound.given)));
      committed = subst (λ ts. AllByRecursion (AreOfCommitted (map ending_of now.transactions)) ts) (sym tables)
          (all-more (AreOfCommitted (map ending_of now.transactions)) s.tables made
          (committed-later (map ending_of s.transactions) (map ending_of now.transactions)
          (λ m done. subst (λ ts. IsDone (numbered (map ending_of ts) m)) (sym transactions) (done-stays (ended (Made place k)) s.transactions n m done))
          s.tables sound.committed)
          tt);
    }

-- the table of that name is there
pub named-table : (name : List ℕ) (o : Option Table) → IsTrue (is_named_there name o) → (table : Table) × (o ≡ Some table)
named-table name None named = cc
named-table name (Some table) named = (table, refl)

-- a table was dropped
dropped-sound : (s now : State) (n k place : ℕ) (table : Table) → IsSound s → numbered s.tables k ≡ Some table
    → now.transactions ≡ changed (while_open (ended (Dropped place k))) s.transactions n → now.tables ≡ changed dropped s.tables k
    → now.entries ≡ s.entries + 1 → IsSound now
dropped-sound s now n k place table sound at transactions tables entries =
    let infos : List TableInfo = map info_in s.tables in
    let endings : List (Option Ending) = map ending_of now.transactions in
    let later : AllByRecursion (AreOfCommitted endings) s.tables =
    committed-later (map ending_of s.transactions) endings
    (λ m done. subst (λ ts. IsDone (numbered (map ending_of ts) m)) (sym transactions) (done-stays (ended (Dropped place k)) s.transactions n m done))
    s.tables sound.committed in
    record {
      tables = subst (λ ts. AreSound now.entries ts) (sym tables)
          (subst (λ m. AreSound m (changed dropped s.tables k)) (sym entries)
          (changed-sound s.entries (s.entries + 1) s.tables k dropped table at (λ t. refl)
          (λ t few. omega arith) (λ few. omega arith) (λ h. record { each = h.each; apart = h.apart }) sound.tables));
      single = subst (λ (xs : List TableInfo). AllByRecursion (IsSingle xs) now.transactions)
          (sym (ap (map info_in) tables ∙ map-same info_in dropped (λ t. refl) s.tables k))
          (subst (AllByRecursion (IsSingle infos)) (sym transactions)
          (all-open (IsSingle infos) (ended (Dropped place k)) (λ t single. single-same infos t (ended (Dropped place k) t) refl single) s.transactions n sound.single));
      given = subst (λ gs. AreGiven gs (map owners_of now.tables))
          (sym (ap (map given_of) transactions ∙ map-open given_of (ended (Dropped place k)) (λ t. refl) s.transactions n))
          (subst (λ os. AreGiven (map given_of s.transactions) os) (sym (ap (map owners_of) tables ∙ map-same owners_of dropped (λ t. refl) s.tables k)) sound.given);
      committed = subst (λ ts. AllByRecursion (AreOfCommitted endings) ts) (sym tables)
          (all-changed (AreOfCommitted endings) (AreOfCommitted endings) dropped s.tables k table at (λ t h. h) (λ h. h) later);
    }

-- ---- entries of jobs, and of forgetting

-- the entries are counted, and nothing else changed of tables and transactions
quiet-sound : (s now : State) → IsSound s → now.tables ≡ s.tables → now.transactions ≡ s.transactions → now.entries ≡ s.entries + 1 → IsSound now
quiet-sound s now sound tables transactions entries =
    with-tables s now sound tables entries
    (subst (AllByRecursion (IsSingle (map info_in s.tables))) (sym transactions) sound.single)
    (subst (λ (ts : List Transaction). AreGiven (map given_of ts) (map owners_of s.tables)) (sym transactions) sound.given)
    (λ m done. subst (λ (ts : List Transaction). IsDone (numbered (map ending_of ts) m)) (sym transactions) done)

-- an id was forgotten
forgot-sound : (s now : State) (k write : ℕ) (table : Table) → IsSound s → numbered s.tables k ≡ Some table → now.tables ≡ changed (forgot write) s.tables k
    → now.transactions ≡ s.transactions → now.entries ≡ s.entries + 1 → IsSound now
forgot-sound s now k write table sound at tables transactions entries = record {
  tables = subst (λ ts. AreSound now.entries ts) (sym tables)
      (subst (λ m. AreSound m (changed (forgot write) s.tables k)) (sym entries)
      (changed-sound s.entries (s.entries + 1) s.tables k (forgot write) table at (λ t. refl)
      (λ t few. omega arith) (λ few. omega arith) (λ h. record { each = h.each; apart = h.apart }) sound.tables));
  single = subst (λ infos. AllByRecursion (IsSingle infos) now.transactions)
      (sym (ap (map info_in) tables ∙ map-same info_in (forgot write) (λ t. refl) s.tables k))
      (subst (AllByRecursion (IsSingle (map info_in s.tables))) (sym transactions) sound.single);
  given = subst (λ (ts : List Transaction). AreGiven (map given_of ts) (map owners_of now.tables)) (sym transactions)
      (subst (λ os. AreGiven (map given_of s.transactions) os) (sym (ap (map owners_of) tables ∙ map-same owners_of (forgot write) (λ t. refl) s.tables k)) sound.given);
  committed = subst (λ (ts : List Transaction). AllByRecursion (AreOfCommitted (map ending_of ts)) now.tables) (sym transactions)
      (subst (λ ts. AllByRecursion (AreOfCommitted (map ending_of s.transactions)) ts) (sym tables)
      (all-changed (AreOfCommitted (map ending_of s.transactions)) (AreOfCommitted (map ending_of s.transactions)) (forgot write) s.tables k table at
      (λ t h. h) (λ h. h) sound.committed));
}

-- ---- the law

pub sound-after : (limits : Limits) (s : State) (event : Entry) → Fits limits s event → IsSound s → IsSound (after s event)
unfolding acted
sound-after limits s (entry.Boot run) fits sound =
    with-tables s (after s (entry.Boot run)) sound refl refl sound.single sound.given (λ m done. done)
sound-after limits s (entry.Opened txn session number text) fits sound =
    opened-sound limits s (after s (entry.Opened txn session number text)) session number txn.0 text fits sound refl refl refl
sound-after limits s (entry.Start txn statement) fits sound =
    changed-open s (after s (entry.Start txn statement)) (started s statement) txn.0 sound refl refl refl
    (λ t single. single-started s statement t sound single) (λ t. refl)
sound-after limits s (entry.Given txn table write) fits sound =
    let here = found (GivenFits limits s table.0 write.0) (numbered s.transactions txn.0) fits in
    gave-sound limits s (after s (entry.Given txn table write)) txn.0 table.0 write.0 here.0 sound here.1 here.2 refl refl refl
sound-after limits s (entry.Commit txn wrote) fits sound =
    let here = found (CommitFits s wrote) (numbered s.transactions txn.0) fits in
    committed-sound s (after s (entry.Commit txn wrote)) txn.0 s.entries wrote here.0 sound here.1 (still-open here.0 here.2.running.unended) refl
    (ap (λ o. tables_behind (commits o) s.tables) here.1) refl
sound-after limits s (entry.Abort txn cause) fits sound =
    changed-open s (after s (entry.Abort txn cause)) (ended (Aborted s.entries cause)) txn.0 sound refl refl refl
    (λ t single. single-same (map info_in s.tables) t (ended (Aborted s.entries cause) t) refl single) (λ t. refl)
sound-after limits s (entry.Create txn table) fits sound =
    let here = found (CreateFits s table.0) (numbered s.transactions txn.0) fits in
    created-sound s (after s (entry.Create txn table)) txn.0 table.0 s.entries here.0 sound here.1 here.2 refl
    (ap (λ o. s.tables ++ made_by table.0 o ∷ []) here.1) refl
sound-after limits s (entry.Drop txn table) fits sound =
    let here = found (DropFits s table.0) (numbered s.transactions txn.0) fits in
    let there = named-table (dropped_name (opening_tree here.0)) (numbered s.tables table.0) here.2.named in
    dropped-sound s (after s (entry.Drop txn table)) txn.0 table.0 s.entries there.0 sound there.1 refl refl refl
sound-after limits s (entry.Asked job table partition kind by) fits sound = quiet-sound s (after s (entry.Asked job table partition kind by)) sound refl refl refl
sound-after limits s (entry.Picked job mark) fits sound = quiet-sound s (after s (entry.Picked job mark)) sound refl refl refl
sound-after limits s (entry.Published job low high mark) fits sound = quiet-sound s (after s (entry.Published job low high mark)) sound refl refl refl
sound-after limits s (entry.Empty job) fits sound = quiet-sound s (after s (entry.Empty job)) sound refl refl refl
sound-after limits s (entry.Cleaned job) fits sound = quiet-sound s (after s (entry.Cleaned job)) sound refl refl refl
sound-after limits s (entry.Failed job cause) fits sound = quiet-sound s (after s (entry.Failed job cause)) sound refl refl refl
sound-after limits s (entry.Forgot table write) fits sound =
    let here = found (ForgotFits limits s write.0) (numbered s.tables table.0) fits in
    forgot-sound s (after s (entry.Forgot table write)) table.0 write.0 here.0 sound here.1 refl refl refl
sound-after limits s event fits sound = absurd fits

pub sound-all : (limits : Limits) (s : State) (more : List Entry) → AllFit limits s more → IsSound s → IsSound (fold after s more)
sound-all limits s [] fit sound = sound
sound-all limits s (event ∷ more) fit sound = sound-all limits (after s event) more fit.1 (sound-after limits s event fit.0 sound)

-- the book of no entry
pub nothing-sound : IsSound nothing_yet
nothing-sound = record {
  tables = record { flat = tt; in_order = tt; few = tt; written = tt };
  single = tt;
  given = record { has_owner = λ txn table write e. none-given txn table write e; is_given = λ txn table write e. none-owned txn table write e };
  committed = tt;
}
  where
    nothing-at : {A : Type 0} (n : ℕ) → numbered {A = A} [] n ≡ None
    nothing-at zero = refl
    nothing-at (suc n) = refl

    none-given : (txn table write : ℕ) → given_among (numbered [] txn) table ≡ Some write → owner_among (numbered [] table) write ≡ Some txn
    none-given txn table write e = absurd (none_is (given_among (numbered [] txn) table) write (ap (λ o. given_among o table) (nothing-at txn)) e)

    none-owned : (txn table write : ℕ) → owner_among (numbered [] table) write ≡ Some txn → given_among (numbered [] txn) table ≡ Some write
    none-owned txn table write e = absurd (none_is (owner_among (numbered [] table) write) txn (ap (λ o. owner_among o write) (nothing-at table)) e)
