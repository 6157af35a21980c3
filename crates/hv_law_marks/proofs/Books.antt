-- What is so of each transaction of a book whose entries fit: without a snapshot it has no write id, and a change that it means can
-- be read again, once its files can.
-- A transaction that is changing rows behind an entry was so before it, or was given its write id there.
use Rattle.std.proofs.Common.{◌≡◌, ◌⊎◌, inl, inr, ℕ, zero, suc, Bool, true, false, is_some, Option, Some, None, List, [], ◌∷◌, ◌++◌, fold, refl, sym, ap, ◌∙◌, subst, ◌+◌, ◌==◌, cond, length, eqb-true}
use Rattle.std.specs.Prelude.{IsTrue, IsFalse, IsSomeAnd}
use Rattle.std.specs.List.{slice_get, AllByRecursion}
use Rattle.hv_base.specs.declared.ids.Limits.{Limits}
use Rattle.hv_ast.specs.declared.statement.Stmt.{Stmt}
use Rattle.hv_grammar.specs.Texts.{tree_of}
use Rattle.hv_logic.specs.declared.catalog.TableInfo.{TableInfo}
use Rattle.hv_logic.specs.declared.effect.Effect.{Effect}
use Rattle.hv_logic.specs.declared.meaning.Meaning.{Meaning}
use Rattle.hv_logic.specs.declared.meaning.Meaning.TheVariants.{Change}
use Rattle.hv_route.specs.Back.{AreHeld}
use Rattle.hv_route.specs.Routes.{files_of}
use Rattle.hv_history.specs.declared.entry.Entry.{Entry}
use Rattle.hv_history.specs.declared.entry.Entry.TheVariants as entry
use Rattle.hv_history.specs.declared.state.Snapshot.{Snapshot}
use Rattle.hv_history.specs.declared.state.Statement.{Statement}
use Rattle.hv_history.specs.declared.state.Transaction.{Transaction}
use Rattle.hv_history.specs.declared.state.Ending.TheVariants.{Aborted, Made, Dropped, Committed}
use Rattle.hv_history.specs.declared.state.Ending.{Ending}
use Rattle.hv_history.specs.declared.state.Table.{Table}
use Rattle.hv_history.specs.State.{State, nothing_yet, numbered, changed_at, first_of, first_known, meant_in, means, meaning, meaning_in, statement_meaning, opened, started, given_id, wrote_as, committed, ended, while_open, acted, after, state_of, written_by, changed, unless_ended}
use Rattle.hv_history.specs.Legal.{GivenFits, Fits, AllFit, StartFits, CommitFits, CauseFits, CreateFits, DropFits}
use Rattle.hv_stands.specs.Files.{IsEncoded}
use Rattle.hv_stands.specs.Sound.{IsSound}
use Rattle.hv_stands.specs.Laws.{HasFile}
use Rattle.hv_stands.proofs.Numbers.{none_is, found, either, numbered-changed, numbered-or-last}
use Rattle.hv_stands.proofs.Soundness.{all-more, all-changed, all-numbered}
use Rattle.hv_stands.proofs.Keeping.{open-by, all-open, sound-after, nothing-sound}
use Rattle.hv_stands.proofs.Written.{effect-encoded}
use Rattle.hv_law_marks.specs.Marked.{ChangesBy, IsChanging}

pub record IsReadable (info : TableInfo) (effect : Effect) : Type 0 where
  pub encoded : (write : ℕ) → AllByRecursion HasFile (files_of info.shape write 0 effect) → AreHeld effect.inserts → IsEncoded info.shape (written_by info.shape write 0 effect)

pub record IsSettled (t : Transaction) : Type 0 where
  pub bare : t.snapshot ≡ None → t.given ≡ []
  pub readable : (info : TableInfo) (effect : Effect) → meaning t ≡ Some (Change info effect) → IsReadable info effect

-- ---- what it means

-- it meant this before, or a text of its comes to it in this state
meaning-started : (s : State) (sts : List Statement) (n : ℕ) (m : Meaning) → statement_meaning (slice_get (changed_at (meant_in s) sts n) 0) ≡ Some m
    → (statement_meaning (slice_get sts 0) ≡ Some m) ⊎ ((text : List ℕ) × (meaning_in s text ≡ Some m))
meaning-started s [] n m e = cc
meaning-started s (st ∷ sts) zero m e = by st.meaning e
  where
    by : (o : Option Meaning) → first_known o (meaning_in s st.text) ≡ Some m → (o ≡ Some m) ⊎ ((text : List ℕ) × (meaning_in s text ≡ Some m))
    by None e = inr (st.text, e)
    by (Some old) e = inl e
meaning-started s (st ∷ sts) (suc n) m e = inl e

meaning-wrote : (given : List (ℕ × ℕ)) (n : ℕ) (sts : List Statement) (k : ℕ)
    → statement_meaning (slice_get (changed_at (wrote_as given n) sts k) 0) ≡ statement_meaning (slice_get sts 0)
meaning-wrote given n [] k = refl
meaning-wrote given n (st ∷ sts) zero = refl
meaning-wrote given n (st ∷ sts) (suc k) = refl

text-readable : (s : State) (text : List ℕ) (info : TableInfo) (effect : Effect) → IsSound s → meaning_in s text ≡ Some (Change info effect) → IsReadable info effect
unfolding meaning_in
text-readable s text info effect sound e = by (tree_of text) e
  where
    by : (o : Option Stmt) → means s o ≡ Some (Change info effect) → IsReadable info effect
    by None e = absurd (none_is (means s None) (Change info effect) refl e)
    by (Some said) e = record { encoded = λ write each held. effect-encoded s said info effect write sound e each held }

-- ---- one entry

first-some : (o : Option Snapshot) (x : Snapshot) → first_of o x ≡ None → ⊥
first-some None x e = cc
first-some (Some y) x e = cc

pub unstarted : (o : Option Snapshot) → IsFalse (is_some o) → o ≡ None
unstarted None h = refl
unstarted (Some x) h = cc

has-started : (o : Option Snapshot) → IsTrue (is_some o) → o ≡ None → ⊥
has-started None h e = cc
has-started (Some x) h e = cc

opened-settled : (session : List ℕ) (number : ℕ) (text : List ℕ) → IsSettled (opened session number text)
opened-settled session number text = record { bare = λ none. refl; readable = λ info effect e. absurd (none_is (meaning (opened session number text)) (Change info effect) refl e) }

started-settled : (s : State) (n : ℕ) (t : Transaction) → IsSound s → IsSettled t → IsSettled (started s n t)
started-settled s n t sound settled = record {
  bare = λ none. absurd (first-some t.snapshot (record { place = s.entries; tables = s.tables; opened = length s.transactions }) none);
  readable = λ info effect e. by info effect (meaning-started s t.statements n (Change info effect) e);
}
  where
    by : (info : TableInfo) (effect : Effect)
        → (meaning t ≡ Some (Change info effect)) ⊎ ((text : List ℕ) × (meaning_in s text ≡ Some (Change info effect))) → IsReadable info effect
    by info effect (inl before) = settled.readable info effect before
    by info effect (inr now) = text-readable s now.0 info effect sound now.1

committed-settled : (place : ℕ) (wrote : List _) (t : Transaction) → IsSettled t → IsSettled (committed place wrote t)
committed-settled place wrote t settled = record {
  bare = settled.bare;
  readable = λ info effect e. settled.readable info effect (sym (meaning-wrote t.given 0 t.statements 0) ∙ e);
}

settled-after : (limits : Limits) (s : State) (event : Entry) → Fits limits s event → IsSound s → AllByRecursion IsSettled s.transactions
    → AllByRecursion IsSettled (after s event).transactions
unfolding acted
settled-after limits s (entry.Boot run) fits sound each = each
settled-after limits s (entry.Opened txn session number text) fits sound each =
    all-more IsSettled s.transactions (opened session number text) each (opened-settled session number text)
settled-after limits s (entry.Start txn statement) fits sound each =
    all-open IsSettled (started s statement) (λ t h. started-settled s statement t sound h) s.transactions txn.0 each
settled-after limits s (entry.Given txn table write) fits sound each =
    let here = found (GivenFits limits s table.0 write.0) (numbered s.transactions txn.0) fits in
    let t : Transaction = here.0 in
    all-changed IsSettled IsSettled (while_open (given_id table.0 write.0)) s.transactions txn.0 t here.1 (λ x h. h)
    (λ h. open-by IsSettled t (given_id table.0 write.0 t) t.ending h
    (record { bare = λ none. absurd (has-started t.snapshot here.2.running.started none); readable = h.readable })) each
settled-after limits s (entry.Commit txn wrote) fits sound each =
    all-open IsSettled (committed s.entries wrote) (λ t h. committed-settled s.entries wrote t h) s.transactions txn.0 each
settled-after limits s (entry.Abort txn cause) fits sound each =
    all-open IsSettled (ended (Aborted s.entries cause)) (λ t h. record { bare = h.bare; readable = h.readable }) s.transactions txn.0 each
settled-after limits s (entry.Create txn table) fits sound each =
    all-open IsSettled (ended (Made s.entries table.0)) (λ t h. record { bare = h.bare; readable = h.readable }) s.transactions txn.0 each
settled-after limits s (entry.Drop txn table) fits sound each =
    all-open IsSettled (ended (Dropped s.entries table.0)) (λ t h. record { bare = h.bare; readable = h.readable }) s.transactions txn.0 each
settled-after limits s (entry.Asked job table partition kind by_) fits sound each = each
settled-after limits s (entry.Picked job mark) fits sound each = each
settled-after limits s (entry.Published job low high mark) fits sound each = each
settled-after limits s (entry.Empty job) fits sound each = each
settled-after limits s (entry.Cleaned job) fits sound each = each
settled-after limits s (entry.Failed job why) fits sound each = each
settled-after limits s (entry.Forgot table write) fits sound each = each
settled-after limits s event fits sound each = absurd fits

settled-all : (limits : Limits) (more : List Entry) (s : State) → AllFit limits s more → IsSound s → AllByRecursion IsSettled s.transactions
    → AllByRecursion IsSettled (fold after s more).transactions
settled-all limits [] s fit sound each = each
settled-all limits (event ∷ more) s fit sound each =
    settled-all limits more (after s event) fit.1 (sound-after limits s event fit.0 sound) (settled-after limits s event fit.0 sound each)

pub all-settled : (limits : Limits) (book : List Entry) → AllFit limits nothing_yet book → AllByRecursion IsSettled (state_of book).transactions
all-settled limits book fit = settled-all limits book nothing_yet fit nothing-sound tt

-- ---- one of a number

pub is-there : {A : Type 0} (P : A → Type 0) (o : Option A) (x : A) → o ≡ Some x → P x → IsSomeAnd o P
is-there P o x at h = subst (λ q. IsSomeAnd q P) (sym at) h

-- ---- a write id more

single-last : {A : Type 0} (xs : List A) (x y : A) → xs ++ x ∷ [] ≡ y ∷ [] → (xs ≡ []) × (x ≡ y)
single-last [] x y e = let same : x ≡ y = cc in (refl, same)
single-last (z ∷ []) x y e = cc
single-last (z ∷ w ∷ xs) x y e = cc

-- its transaction had none, and this is the next one of the table
pub record IsJustGiven (s : State) (txn k w : ℕ) : Type 0 where
  pub transaction : Transaction
  pub at : numbered s.transactions txn ≡ Some transaction
  pub none : transaction.given ≡ []
  pub table : Table
  pub here : numbered s.tables k ≡ Some table
  pub live : IsTrue table.is_live
  pub next : w ≡ length table.owners + 1

-- ---- one entry

module _ (limits : Limits) (s : State) (settled : AllByRecursion IsSettled s.transactions) (txn : ℕ) (info : TableInfo) (effect : Effect) (write : ℕ) where
  abbrev Changes : Transaction → Type 0
  Changes = ChangesBy info effect write

  abbrev WasChanging : Type 0
  WasChanging = IsSomeAnd (numbered s.transactions txn) Changes ⊎ IsJustGiven s txn info.table.0 write

  bare-not : (t : Transaction) → t.given ≡ [] → t.given ≡ (info.table.0, write) ∷ [] → ⊥
  bare-not t none given = cc

  opened-before : (t : Transaction) → t.given ≡ [] → IsSomeAnd (numbered (s.transactions ++ t ∷ []) txn) Changes → WasChanging
  opened-before t none h = by (numbered-or-last s.transactions t txn there.0 there.1)
    where
      there : (x : Transaction) × (numbered (s.transactions ++ t ∷ []) txn ≡ Some x) × Changes x
      there = found Changes (numbered (s.transactions ++ t ∷ []) txn) h

      by : (numbered s.transactions txn ≡ Some there.0) ⊎ ((txn ≡ length s.transactions + 1) × (there.0 ≡ t)) → WasChanging
      by (inl at) = inl (is-there Changes (numbered s.transactions txn) there.0 at there.2)
      by (inr last) = absurd (bare-not there.0 (ap (λ (x : Transaction). x.given) last.1 ∙ none) there.2.given_is)

  -- where one is changed while it is open
  changed-before : (f : Transaction → Transaction) (n : ℕ) (t : Transaction) → numbered s.transactions n ≡ Some t → (txn ≡ n → Changes (f t) → WasChanging)
      → IsSomeAnd (numbered (changed (while_open f) s.transactions n) txn) Changes → WasChanging
  changed-before f n t at own h =
      by (either (txn == n)) t.ending refl (subst (λ o. IsSomeAnd o Changes) (numbered-changed (while_open f) s.transactions n txn t at) h)
    where
      at_if : Transaction → Bool → Type 0
      at_if x b = IsSomeAnd (cond b (Some x) (numbered s.transactions txn)) Changes

      by : (txn == n ≡ true) ⊎ (txn == n ≡ false) → (o : Option Ending) → t.ending ≡ o → at_if (unless_ended o t (f t)) (txn == n) → WasChanging
      by (inl same) None is h = own (eqb-true txn n same) (subst (at_if (f t)) same h)
      by (inl same) (Some ending) is h = let there : Changes t = subst (at_if t) same h in absurd (none_is t.ending ending there.unended is)
      by (inr apart) o is h = inl (subst (at_if (unless_ended o t (f t))) apart h)

  just-given : (k w : ℕ) (t : Transaction) → numbered s.transactions txn ≡ Some t → GivenFits limits s k w t
      → t.given ++ (k, w) ∷ [] ≡ (info.table.0, write) ∷ [] → IsJustGiven s txn info.table.0 write
  just-given k w t at fits given =
      let only = single-last t.given (k, w) (info.table.0, write) given in
      let there = found (λ (x : Table). IsTrue x.is_live × (w ≡ length x.owners + 1)) (numbered s.tables k) fits.live in
      record {
        transaction = t;
        at = at;
        none = only.0;
        table = there.0;
        here = ap (λ (id : ℕ × ℕ). numbered s.tables id.0) (sym only.1) ∙ there.1;
        live = there.2.0;
        next = ap (λ (id : ℕ × ℕ). id.1) (sym only.1) ∙ there.2.1;
      }

  -- what has ended isn't open
  ended-not : (t : Transaction) (ending : Ending) → t.ending ≡ Some ending → Changes t → WasChanging
  ended-not t ending is own = absurd (none_is t.ending ending own.unended is)

  pub was-changing : (event : Entry) → Fits limits s event → IsChanging (after s event) txn info effect write
      → IsChanging s txn info effect write ⊎ IsJustGiven s txn info.table.0 write
  unfolding acted
  was-changing (entry.Boot run) fits h = inl h
  was-changing (entry.Opened by_ session number text) fits h = opened-before (opened session number text) refl h
  was-changing (entry.Start by_ statement) fits h =
      let here = found (StartFits limits s statement) (numbered s.transactions by_.0) fits in
      let bare = (all-numbered IsSettled s.transactions by_.0 here.0 here.1 settled).bare (unstarted here.0.snapshot here.2.waiting.unstarted) in
      changed-before (started s statement) by_.0 here.0 here.1 (λ same own. absurd (bare-not here.0 bare own.given_is)) h
  was-changing (entry.Given by_ table given) fits h =
      let here = found (GivenFits limits s table.0 given.0) (numbered s.transactions by_.0) fits in
      changed-before (given_id table.0 given.0) by_.0 here.0 here.1
      (λ same own. inr (just-given table.0 given.0 here.0 (ap (numbered s.transactions) same ∙ here.1) here.2 own.given_is)) h
  was-changing (entry.Commit by_ wrote) fits h =
      let here = found (CommitFits s wrote) (numbered s.transactions by_.0) fits in
      changed-before (committed s.entries wrote) by_.0 here.0 here.1 (λ same. ended-not (committed s.entries wrote here.0) (Committed s.entries wrote) refl) h
  was-changing (entry.Abort by_ cause) fits h =
      let here = found (CauseFits limits s by_.0 cause) (numbered s.transactions by_.0) fits in
      changed-before (ended (Aborted s.entries cause)) by_.0 here.0 here.1 (λ same. ended-not (ended (Aborted s.entries cause) here.0) (Aborted s.entries cause) refl) h
  was-changing (entry.Create by_ table) fits h =
      let here = found (CreateFits s table.0) (numbered s.transactions by_.0) fits in
      changed-before (ended (Made s.entries table.0)) by_.0 here.0 here.1 (λ same. ended-not (ended (Made s.entries table.0) here.0) (Made s.entries table.0) refl) h
  was-changing (entry.Drop by_ table) fits h =
      let here = found (DropFits s table.0) (numbered s.transactions by_.0) fits in
      changed-before (ended (Dropped s.entries table.0)) by_.0 here.0 here.1 (λ same. ended-not (ended (Dropped s.entries table.0) here.0) (Dropped s.entries table.0) refl) h
  was-changing (entry.Asked job table partition kind by_) fits h = inl h
  was-changing (entry.Picked job mark) fits h = inl h
  was-changing (entry.Published job low high mark) fits h = inl h
  was-changing (entry.Empty job) fits h = inl h
  was-changing (entry.Cleaned job) fits h = inl h
  was-changing (entry.Failed job why) fits h = inl h
  was-changing (entry.Forgot table write) fits h = inl h
  was-changing event fits h = absurd fits
