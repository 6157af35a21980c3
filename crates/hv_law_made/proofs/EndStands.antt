-- The entry that ends a transaction: what it put is made from then on, or may not stand any more; other transactions' files may stand on.
-- Here those that drop a table and that create one, which make no file.
use Rattle.std.proofs.Common.{refl, ◌≡◌, ◌⊎◌, inl, inr, ℕ, zero, suc, ◌+◌, ◌==◌, Bool, true, false, is_some, Option, Some, None, List, [], ◌∷◌, ◌++◌, map, sym, ap, ◌∙◌, subst, arith, eqb-true, eq-eqb, true≢false}
use Rattle.std.specs.Prelude.{is_none}
use Rattle.std.specs.FinMap as finmap
use Rattle.std.specs.List.{slice_get, AllByRecursion}
use Rattle.hv_base.specs.declared.ids.TableId.{TableId}
use Rattle.hv_base.specs.declared.ids.TxnId.{TxnId}
use Rattle.hv_shelf.specs.declared.place.Place.{Place}
use Rattle.hv_shelf.specs.Disk.{Tree}
use Rattle.hv_stands.specs.hv_history.specs.declared.entry.Entry.TheVariants as entry
use Rattle.hv_stands.specs.hv_history.specs.declared.state.Ending.{Ending}
use Rattle.hv_stands.specs.hv_history.specs.declared.state.Table.{Table}
use Rattle.hv_stands.specs.hv_history.specs.declared.state.Transaction.{Transaction}
use Rattle.hv_stands.specs.hv_history.specs.State.{State, Job, numbered, acted, after, changed, changed_at, dropped, made_by, unless_ended, while_open}
use Rattle.hv_stands.specs.hv_history.specs.Legal.{is_open}
use Rattle.hv_stands.specs.Files.{AreEncoded, IsLoose, IsOwn, IsUndone, ending_of}
use Rattle.hv_stands.proofs.Numbers.{either, numbered-more}
use Rattle.hv_stands.specs.hv_history.specs.Jobs.{is_past_by, is_past}
use Rattle.hv_law_made.specs.Made.{made_recs}
use Rattle.hv_law_made.specs.Named.{AllHaveNames}
use Rattle.hv_law_made.specs.Standing.{is_live_table, is_live_at, Standing}
use Rattle.hv_law_made.specs.Laws.{Holds, ChangesAt, IsUnended, DroppedStands, CreatedStands}
use Rattle.hv_law_made.proofs.UnmadeLemmas.{puts-unmade}
use Rattle.hv_law_made.proofs.FrameLemmas.{changed-stands}
use Rattle.hv_law_made.proofs.CalmLemmas.{IsCalm, gone-calm, calm-changes}
use Rattle.hv_law_made.proofs.TableStands.{calm-changed, turned}
use Rattle.hv_law_made.proofs.PastLemmas.{open_at, past-stays, fewer}

-- ---- the transactions

opens-by : (g : Transaction → Transaction) (o : Option Ending) (t : Transaction) → t.ending ≡ o → is_open (unless_ended o t (g t)) ≡ true → is_open t ≡ true
opens-by g None t e is = ap is_none e
opens-by g (Some ending) t e is = is

opens : (g : Transaction → Transaction) (t : Transaction) → is_open (while_open g t) ≡ true → is_open t ≡ true
opens g t is = opens-by g t.ending t refl is

module _ (f : Transaction → Transaction) where
  other-at : (ts : List Transaction) (n k : ℕ) → (k ≡ n → ⊥) → slice_get (map ending_of (changed_at f ts n)) k ≡ slice_get (map ending_of ts) k
  other-at [] n k ne = refl
  other-at (t ∷ ts) zero zero ne = absurd (ne refl)
  other-at (t ∷ ts) zero (suc k) ne = refl
  other-at (t ∷ ts) (suc n) zero ne = refl
  other-at (t ∷ ts) (suc n) (suc k) ne = other-at ts n k (λ e. ne (ap suc e))

  pub others : (ts : List Transaction) (n k : ℕ) → (k ≡ n → ⊥) → numbered (map ending_of (changed f ts n)) k ≡ numbered (map ending_of ts) k
  others ts n zero ne = refl
  others ts zero (suc k) ne = refl
  others ts (suc n) (suc k) ne = other-at ts n k (λ e. ne (ap suc e))

-- ---- one of them ends

module _ (state now : State) (txn : ℕ) (g : Transaction → Transaction) (transactions_are : now.transactions ≡ changed (while_open g) state.transactions txn) where
  past-fewer : (o : Option (ℕ × ℕ × ℕ)) → is_past_by state o ≡ true → is_past_by now o ≡ true
  past-fewer None e = e
  past-fewer (Some range) e =
      past-stays state now range.2 (λ k is. inl (fewer (while_open g) (opens g) state.transactions txn k (subst (λ ts. open_at ts k ≡ true) transactions_are is)))
      (Some range) (omega arith) e

  pub end-past : (job : Job) → is_past state job ≡ true → is_past now job ≡ true
  end-past job e = past-fewer job.published e

  -- what is loose stays so, or is its own
  pub end-loose : ((by : ℕ) (place : Place) → IsOwn state.tables by place → IsOwn now.tables by place) → (place : Place) → IsLoose state place
      → IsLoose now place ⊎ IsOwn state.tables txn place
  end-loose owns place loose = elim (either (loose.txn == txn)) [
    | inl e ↦ inr (subst (λ n. IsOwn state.tables n place) (eqb-true loose.txn txn e) loose.own)
    | inr e ↦ inl (record {
      txn = loose.txn;
      own = owns loose.txn place loose.own;
      undone = subst IsUndone (sym (ap (λ ts. numbered (map ending_of ts) loose.txn) transactions_are
          ∙ others (while_open g) state.transactions txn loose.txn (λ same. true≢false (sym (eq-eqb loose.txn txn same) ∙ e)))) loose.undone;
    })
  ]

-- ---- and no table's writes change

-- the transaction is open, and the files are as the entry asks
module _ (state now : State) (txn : ℕ) (g : Transaction → Transaction) (named : AllHaveNames state)
    (unended : numbered (map ending_of state.transactions) txn ≡ Some None) (transactions_are : now.transactions ≡ changed (while_open g) state.transactions txn)
    (jobs_are : now.jobs ≡ state.jobs) (calm : (k : ℕ) → IsCalm (numbered state.tables k) (numbered now.tables k))
    (owns : (by : ℕ) (place : Place) → IsOwn state.tables by place → IsOwn now.tables by place)
    (dead : (place : Place) → is_live_at state place ≡ false → is_live_at now place ≡ false)
    (live : (place : Place) → is_live_at now place ≡ true → is_live_at state place ≡ true) where
  abbrev Own : Place → Type 0
  Own place = IsOwn state.tables txn place

  pub end-changes : ChangesAt state now Own
  end-changes = calm-changes state now jobs_are named calm (end-past state now txn g transactions_are) Own (end-loose state now txn g transactions_are owns) dead live

  was-loose : (place : Place) → Own place → IsLoose state place
  was-loose place own = record { txn = txn; own = own; undone = subst IsUndone (sym unended) tt }

  pub end-stands : (files : Tree) → ((place : Place) → Own place → Holds (made_recs now place) place.bucket (finmap.get files place))
      → AllByRecursion AreEncoded now.tables → Standing state files → Standing now files
  end-stands files filed encoded standing =
      changed-stands state now Own files files end-changes (λ place. inl refl) (record {
        whole = λ place at live needed. filed place at;
        bare = λ place at none. subst (λ o. Holds o place.bucket (finmap.get files place)) none (filed place at);
        gone = λ place at live e.
            absurd (true≢false (sym e ∙ gone-calm state now jobs_are named calm (end-past state now txn g transactions_are) place
            ∙ (puts-unmade state place named (inl (was-loose place at))).gone));
        tables = λ place at. end-changes.tables place (ap is_some at.is);
        encoded = encoded;
      }) standing

-- ---- a table that is dropped

drop-own : (tables : List Table) (table by : ℕ) (place : Place) → IsOwn tables by place → IsOwn (changed dropped tables table) by place
drop-own tables table by place own = elim (turned dropped tables table place.table.0 own.table own.is) [
  | inl same ↦ record {
    table = own.table;
    is = same;
    deletes = own.deletes;
    write = own.write;
    statement = own.statement;
    dir = own.dir;
    owner = own.owner;
    kept = own.kept;
  }
  | inr is ↦ record {
    table = dropped own.table;
    is = is.1;
    deletes = own.deletes;
    write = own.write;
    statement = own.statement;
    dir = own.dir;
    owner = own.owner;
    kept = own.kept;
  }
]

-- no table comes to life
drop-slice : (ts : List Table) (n k : ℕ) → is_live_table (slice_get (changed_at dropped ts n) k) ≡ true → is_live_table (slice_get ts k) ≡ true
drop-slice [] n k e = e
drop-slice (t ∷ ts) zero zero e = absurd (true≢false (sym e))
drop-slice (t ∷ ts) zero (suc k) e = e
drop-slice (t ∷ ts) (suc n) zero e = e
drop-slice (t ∷ ts) (suc n) (suc k) e = drop-slice ts n k e

drop-live : (ts : List Table) (n k : ℕ) → is_live_table (numbered (changed dropped ts n) k) ≡ true → is_live_table (numbered ts k) ≡ true
drop-live ts n zero e = e
drop-live ts zero (suc k) e = e
drop-live ts (suc n) (suc k) e = drop-slice ts n k e

dead-by : (b c : Bool) → (b ≡ true → c ≡ true) → c ≡ false → b ≡ false
dead-by true c h e = absurd (true≢false (sym (h refl) ∙ e))
dead-by false c h e = refl

pub dropped-stands : DroppedStands
unfolding acted
dropped-stands state txn table files unended named filed standing =
    end-stands state (after state (entry.Drop txn table)) txn.0 _ named unended refl refl
    (λ k. calm-changed dropped (λ t. refl) (λ t. refl) state.tables table.0 k)
    (λ by place own. drop-own state.tables table.0 by place own)
    (λ place e. dead-by (is_live_at (after state (entry.Drop txn table)) place) (is_live_at state place) (drop-live state.tables table.0 place.table.0) e)
    (λ place e. drop-live state.tables table.0 place.table.0 e) files filed.at filed.encoded standing

pub dropped-changes : (state : State) (txn : TxnId) (table : TableId) → IsUnended state txn → AllHaveNames state
    → ChangesAt state (after state (entry.Drop txn table)) (λ place. IsOwn state.tables txn.0 place)
unfolding acted
dropped-changes state txn table unended named =
    end-changes state (after state (entry.Drop txn table)) txn.0 _ named unended refl refl
    (λ k. calm-changed dropped (λ t. refl) (λ t. refl) state.tables table.0 k)
    (λ by place own. drop-own state.tables table.0 by place own)
    (λ place e. dead-by (is_live_at (after state (entry.Drop txn table)) place) (is_live_at state place) (drop-live state.tables table.0 place.table.0) e)
    (λ place e. drop-live state.tables table.0 place.table.0 e)

-- ---- a table that is created

module _ (new : Table) (bare : new.writes ≡ []) (alive : new.is_live ≡ true) where
  more-at : (ts : List Table) (k : ℕ) → IsCalm (slice_get ts k) (slice_get (ts ++ new ∷ []) k)
  more-at [] zero = bare
  more-at [] (suc zero) = tt
  more-at [] (suc (suc k)) = tt
  more-at (t ∷ ts) zero = (refl, refl)
  more-at (t ∷ ts) (suc k) = more-at ts k

  more-calm : (ts : List Table) (k : ℕ) → IsCalm (numbered ts k) (numbered (ts ++ new ∷ []) k)
  more-calm ts zero = tt
  more-calm ts (suc k) = more-at ts k

  live-more-at : (ts : List Table) (k : ℕ) → is_live_table (slice_get (ts ++ new ∷ []) k) ≡ is_live_table (slice_get ts k)
  live-more-at [] zero = alive
  live-more-at [] (suc k) = refl
  live-more-at (t ∷ ts) zero = refl
  live-more-at (t ∷ ts) (suc k) = live-more-at ts k

  live-more : (ts : List Table) (k : ℕ) → is_live_table (numbered (ts ++ new ∷ []) k) ≡ is_live_table (numbered ts k)
  live-more ts zero = refl
  live-more ts (suc k) = live-more-at ts k

create-own : (tables : List Table) (new : Table) (by : ℕ) (place : Place) → IsOwn tables by place → IsOwn (tables ++ new ∷ []) by place
create-own tables new by place own = record {
  table = own.table;
  is = numbered-more tables new place.table.0 own.table own.is;
  deletes = own.deletes;
  write = own.write;
  statement = own.statement;
  dir = own.dir;
  owner = own.owner;
  kept = own.kept;
}

pub created-stands : CreatedStands
unfolding acted
created-stands state txn table files unended named filed standing =
    let new = made_by table.0 (numbered state.transactions txn.0) in
    end-stands state (after state (entry.Create txn table)) txn.0 _ named unended refl refl
    (λ k. more-calm new refl refl state.tables k) (λ by place own. create-own state.tables new by place own)
    (λ place e. live-more new refl refl state.tables place.table.0 ∙ e)
    (λ place e. sym (live-more new refl refl state.tables place.table.0) ∙ e) files filed.at filed.encoded standing

pub created-changes : (state : State) (txn : TxnId) (table : TableId) → IsUnended state txn → AllHaveNames state
    → ChangesAt state (after state (entry.Create txn table)) (λ place. IsOwn state.tables txn.0 place)
unfolding acted
created-changes state txn table unended named =
    let new = made_by table.0 (numbered state.transactions txn.0) in
    end-changes state (after state (entry.Create txn table)) txn.0 _ named unended refl refl
    (λ k. more-calm new refl refl state.tables k) (λ by place own. create-own state.tables new by place own)
    (λ place e. live-more new refl refl state.tables place.table.0 ∙ e)
    (λ place e. sym (live-more new refl refl state.tables place.table.0) ∙ e)
