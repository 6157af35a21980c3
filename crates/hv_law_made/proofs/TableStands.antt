-- A write id that is given, and one that is forgotten, keep all standing.
use Rattle.std.proofs.Common.{refl, ◌≡◌, ◌⊎◌, inl, inr, ℕ, zero, suc, ◌+◌, ◌==◌, ◌||◌, Bool, true, false, cond, is_some, Option, Some, None, List, [], ◌∷◌, ◌++◌, map, sym, ap, ◌∙◌, subst, eqb-true, true≢false}
use Rattle.std.specs.Prelude.{is_none}
use Rattle.std.specs.FinMap as finmap
use Rattle.std.specs.List.{list_any, slice_get, AllByRecursion}
use Rattle.hv_base.specs.declared.ids.TableId.{TableId}
use Rattle.hv_base.specs.declared.ids.TxnId.{TxnId}
use Rattle.hv_base.specs.declared.ids.WriteId.{WriteId}
use Rattle.hv_shelf.specs.declared.place.Place.{Place}
use Rattle.hv_shelf.specs.Disk.{Tree}
use Rattle.hv_stands.specs.hv_history.specs.declared.entry.Entry.TheVariants as entry
use Rattle.hv_stands.specs.hv_history.specs.declared.state.Ending.{Ending}
use Rattle.hv_stands.specs.hv_history.specs.declared.state.Table.{Table}
use Rattle.hv_stands.specs.hv_history.specs.declared.state.Transaction.{Transaction}
use Rattle.hv_stands.specs.hv_history.specs.State.{State, Job, numbered, acted, after, changed, changed_at, given_id, owned, forgot, unless_ended, while_open}
use Rattle.hv_stands.specs.hv_history.specs.Legal.{is_open}
use Rattle.hv_stands.specs.Files.{AreEncoded, IsLoose, IsOwn, IsUndone, ending_of, own_dir}
use Rattle.hv_stands.proofs.Numbers.{either, numbered-more}
use Rattle.hv_stands.specs.hv_history.specs.Jobs.{first_open, if_below, is_past_by, is_past}
use Rattle.hv_law_made.specs.Made.{made_recs}
use Rattle.hv_law_made.specs.Named.{AllHaveNames}
use Rattle.hv_law_made.specs.Standing.{is_live_table, is_live_at, Standing}
use Rattle.hv_law_made.specs.Laws.{Holds, IsOwnOf, ChangesAt, GivenStands, IsToForget, ForgottenStands}
use Rattle.hv_law_made.proofs.UnmadeLemmas.{puts-unmade}
use Rattle.hv_law_made.proofs.FrameLemmas.{changed-stands}
use Rattle.hv_law_made.proofs.StepStands.{nowhere, unasked-stands}
use Rattle.hv_law_made.proofs.CalmLemmas.{IsCalm, gone-calm, calm-changes}

-- ---- transactions that end nowhere

module _ (f : Transaction → Transaction) (keeps : (t : Transaction) → (f t).ending ≡ t.ending) where
  open-at : (number : ℕ) (ts : List Transaction) (n : ℕ) → first_open number (changed_at f ts n) ≡ first_open number ts
  open-at number [] n = refl
  open-at number (t ∷ ts) zero = ap (λ ending. cond (is_none ending) (Some number) (first_open (number + 1) ts)) (keeps t)
  open-at number (t ∷ ts) (suc n) = ap (λ o. cond (is_open t) (Some number) o) (open-at (number + 1) ts n)

  pub open-changed : (number : ℕ) (ts : List Transaction) (n : ℕ) → first_open number (changed f ts n) ≡ first_open number ts
  open-changed number ts zero = refl
  open-changed number ts (suc n) = open-at number ts n

  endings-at : (ts : List Transaction) (n : ℕ) → map ending_of (changed_at f ts n) ≡ map ending_of ts
  endings-at [] n = refl
  endings-at (t ∷ ts) zero = ap (λ ending. ending ∷ map ending_of ts) (keeps t)
  endings-at (t ∷ ts) (suc n) = ap (λ endings. ending_of t ∷ endings) (endings-at ts n)

  pub endings-changed : (ts : List Transaction) (n : ℕ) → map ending_of (changed f ts n) ≡ map ending_of ts
  endings-changed ts zero = refl
  endings-changed ts (suc n) = endings-at ts n

unless-same : (g : Transaction → Transaction) → ((t : Transaction) → (g t).ending ≡ t.ending) → (o : Option Ending) (t : Transaction) → (unless_ended o t (g t)).ending ≡ t.ending
unless-same g keeps None t = keeps t
unless-same g keeps (Some ending) t = refl

pub while-same : (g : Transaction → Transaction) → ((t : Transaction) → (g t).ending ≡ t.ending) → (t : Transaction) → (while_open g t).ending ≡ t.ending
while-same g keeps t = unless-same g keeps t.ending t

pub past-by : (state now : State) → first_open 1 now.transactions ≡ first_open 1 state.transactions → (o : Option (ℕ × ℕ × ℕ)) → is_past_by state o ≡ true → is_past_by now o ≡ true
past-by state now same None e = e
past-by state now same (Some range) e = ap (λ o. is_none (if_below range.2 o)) same ∙ e

-- ---- tables of which one is changed

pub itself : (o : Option Table) → IsCalm o o
itself None = tt
itself (Some table) = (refl, refl)

module _ (f : Table → Table) (info : (t : Table) → (f t).info ≡ t.info) (writes : (t : Table) → (f t).writes ≡ t.writes) where
  calm-at : (ts : List Table) (n k : ℕ) → IsCalm (slice_get ts k) (slice_get (changed_at f ts n) k)
  calm-at [] n zero = tt
  calm-at [] n (suc k) = tt
  calm-at (t ∷ ts) zero zero = (info t, writes t)
  calm-at (t ∷ ts) zero (suc k) = itself (slice_get ts k)
  calm-at (t ∷ ts) (suc n) zero = (refl, refl)
  calm-at (t ∷ ts) (suc n) (suc k) = calm-at ts n k

  pub calm-changed : (ts : List Table) (n k : ℕ) → IsCalm (numbered ts k) (numbered (changed f ts n) k)
  calm-changed ts n zero = tt
  calm-changed ts zero (suc k) = itself (slice_get ts k)
  calm-changed ts (suc n) (suc k) = calm-at ts n k

module _ {A : Type 0} (f : A → A) where
  turned-at : (xs : List A) (n k : ℕ) (x : A) → slice_get xs k ≡ Some x
      → (slice_get (changed_at f xs n) k ≡ Some x) ⊎ ((k ≡ n) × (slice_get (changed_at f xs n) k ≡ Some (f x)))
  turned-at [] n k x e = inl e
  turned-at (y ∷ xs) zero zero x e = let is : y ≡ x = cc in inr (refl, ap (λ z. Some (f z)) is)
  turned-at (y ∷ xs) zero (suc k) x e = inl e
  turned-at (y ∷ xs) (suc n) zero x e = inl e
  turned-at (y ∷ xs) (suc n) (suc k) x e = elim (turned-at xs n k x e) [ inl same ↦ inl same | inr is ↦ inr (ap suc is.0, is.1) ]

  -- each is as it was, or is that one
  pub turned : (xs : List A) (n k : ℕ) (x : A) → numbered xs k ≡ Some x
      → (numbered (changed f xs n) k ≡ Some x) ⊎ ((k ≡ n) × (numbered (changed f xs n) k ≡ Some (f x)))
  turned xs n zero x e = cc
  turned xs zero (suc k) x e = inl e
  turned xs (suc n) (suc k) x e = elim (turned-at xs n k x e) [ inl same ↦ inl same | inr is ↦ inr (ap suc is.0, is.1) ]

  all-at : (P : A → Type 0) → ((x : A) → P x → P (f x)) → (xs : List A) (n : ℕ) → AllByRecursion P xs → AllByRecursion P (changed_at f xs n)
  all-at P step [] n all = all
  all-at P step (x ∷ xs) zero all = (step x all.0, all.1)
  all-at P step (x ∷ xs) (suc n) all = (all.0, all-at P step xs n all.1)

  pub all-turned : (P : A → Type 0) → ((x : A) → P x → P (f x)) → (xs : List A) (n : ℕ) → AllByRecursion P xs → AllByRecursion P (changed f xs n)
  all-turned P step xs zero all = all
  all-turned P step xs (suc n) all = all-at P step xs n all

-- a table that is as live as it was
module _ (f : Table → Table) (keeps : (t : Table) → (f t).is_live ≡ t.is_live) where
  live-at : (ts : List Table) (n k : ℕ) → is_live_table (slice_get (changed_at f ts n) k) ≡ is_live_table (slice_get ts k)
  live-at [] n k = refl
  live-at (t ∷ ts) zero zero = keeps t
  live-at (t ∷ ts) zero (suc k) = refl
  live-at (t ∷ ts) (suc n) zero = refl
  live-at (t ∷ ts) (suc n) (suc k) = live-at ts n k

  pub live-by : (ts : List Table) (n k : ℕ) → is_live_table (numbered (changed f ts n) k) ≡ is_live_table (numbered ts k)
  live-by ts n zero = refl
  live-by ts zero (suc k) = refl
  live-by ts (suc n) (suc k) = live-at ts n k

-- ---- a write id

module _ (state now : State) (txn table write : ℕ) (named : AllHaveNames state)
    (tables_are : now.tables ≡ changed (owned txn) state.tables table)
    (transactions_are : now.transactions ≡ changed (while_open (given_id table write)) state.transactions txn)
    (jobs_are : now.jobs ≡ state.jobs) where
  same-ending : (t : Transaction) → (while_open (given_id table write) t).ending ≡ t.ending
  same-ending = while-same (given_id table write) (λ t. refl)

  given-past : (job : Job) → is_past state job ≡ true → is_past now job ≡ true
  given-past job e =
      past-by state now (ap (first_open 1) transactions_are ∙ open-changed (while_open (given_id table write)) same-ending 1 state.transactions txn) job.published e

  endings-same : map ending_of now.transactions ≡ map ending_of state.transactions
  endings-same = ap (map ending_of) transactions_are ∙ endings-changed (while_open (given_id table write)) same-ending state.transactions txn

  given-own : (by : ℕ) (place : Place) → IsOwn state.tables by place → IsOwn now.tables by place
  given-own by place own = elim (turned (owned txn) state.tables table place.table.0 own.table own.is) [
    | inl same ↦ record {
      table = own.table;
      is = ap (λ tables. numbered tables place.table.0) tables_are ∙ same;
      deletes = own.deletes;
      write = own.write;
      statement = own.statement;
      dir = own.dir;
      owner = own.owner;
      kept = own.kept;
    }
    | inr is ↦ record {
      table = owned txn own.table;
      is = ap (λ tables. numbered tables place.table.0) tables_are ∙ is.1;
      deletes = own.deletes;
      write = own.write;
      statement = own.statement;
      dir = own.dir;
      owner = numbered-more own.table.owners txn own.write by own.owner;
      kept = own.kept;
    }
  ]

  given-loose : (place : Place) → IsLoose state place → IsLoose now place ⊎ nowhere place
  given-loose place loose =
      inl (record {
        txn = loose.txn;
        own = given-own loose.txn place loose.own;
        undone = subst (λ endings. IsUndone (numbered endings loose.txn)) (sym endings-same) loose.undone;
      })

  given-live : (place : Place) → is_live_at now place ≡ is_live_at state place
  given-live place = ap (λ tables. is_live_table (numbered tables place.table.0)) tables_are ∙ live-by (owned txn) (λ t. refl) state.tables table place.table.0

  pub give-changes : ChangesAt state now nowhere
  give-changes =
      calm-changes state now jobs_are named
      (λ k. subst (λ tables. IsCalm (numbered state.tables k) (numbered tables k)) (sym tables_are) (calm-changed (owned txn) (λ t. refl) (λ t. refl) state.tables table k))
      given-past nowhere given-loose (λ place e. given-live place ∙ e) (λ place e. sym (given-live place) ∙ e)

  pub give-stands : (files : Tree) → Standing state files → Standing now files
  give-stands files standing =
      unasked-stands state now files give-changes
      (subst (AllByRecursion AreEncoded) (sym tables_are) (all-turned (owned txn) AreEncoded (λ t e. e) state.tables table standing.encoded)) standing

pub given-stands : GivenStands
unfolding acted
given-stands state txn table write files named standing =
    give-stands state (after state (entry.Given txn table write)) txn.0 table.0 write.0 named refl refl refl files standing

pub given-changes : (state : State) (txn : TxnId) (table : TableId) (write : WriteId) → AllHaveNames state
    → ChangesAt state (after state (entry.Given txn table write)) nowhere
unfolding acted
given-changes state txn table write named = give-changes state (after state (entry.Given txn table write)) txn.0 table.0 write.0 named refl refl refl

-- ---- an id that is forgotten

last-by : (b a c : Bool) → b || a ≡ false → (a ≡ false → c ≡ false) → b || c ≡ false
last-by true a c none more = none
last-by false a c none more = more none

any-last : (p : ℕ → Bool) (xs : List ℕ) (y : ℕ) → list_any p xs ≡ false → p y ≡ false → list_any p (xs ++ y ∷ []) ≡ false
any-last p [] y none e = λ i. e i || false
any-last p (x ∷ xs) y none e = last-by (p x) (list_any p xs) (list_any p (xs ++ y ∷ [])) none (λ more. any-last p xs y more e)

module _ (state now : State) (table write : ℕ) (which : Table) (to : IsToForget state table write which) (named : AllHaveNames state)
    (tables_are : now.tables ≡ changed (forgot write) state.tables table) (transactions_are : now.transactions ≡ state.transactions)
    (jobs_are : now.jobs ≡ state.jobs) where
  abbrev Own : Place → Type 0
  Own place = IsOwnOf table write place

  forget-past : (job : Job) → is_past state job ≡ true → is_past now job ≡ true
  forget-past job e = past-by state now (ap (first_open 1) transactions_are) job.published e

  undone-same : (txn : ℕ) → IsUndone (numbered (map ending_of state.transactions) txn) → IsUndone (numbered (map ending_of now.transactions) txn)
  undone-same txn = subst (λ transactions. IsUndone (numbered (map ending_of transactions) txn)) (sym transactions_are)

  forget-loose : (place : Place) → IsLoose state place → IsLoose now place ⊎ Own place
  forget-loose place loose =
      let own = loose.own in
      elim (turned (forgot write) state.tables table place.table.0 own.table own.is) [
        | inl same ↦ inl (record {
          txn = loose.txn;
          own = record {
            table = own.table;
            is = ap (λ tables. numbered tables place.table.0) tables_are ∙ same;
            deletes = own.deletes;
            write = own.write;
            statement = own.statement;
            dir = own.dir;
            owner = own.owner;
            kept = own.kept;
          };
          undone = undone-same loose.txn loose.undone;
        })
        | inr is ↦ elim (either (write == own.write)) [
          | inl e ↦ inr (record {
            table_is = is.0;
            deletes = own.deletes;
            statement = own.statement;
            dir = own.dir ∙ ap (λ w. own_dir own.deletes w own.statement) (sym (eqb-true write own.write e));
          })
          | inr e ↦ inl (record {
            txn = loose.txn;
            own = record {
              table = forgot write own.table;
              is = ap (λ tables. numbered tables place.table.0) tables_are ∙ is.1;
              deletes = own.deletes;
              write = own.write;
              statement = own.statement;
              dir = own.dir;
              owner = own.owner;
              kept = any-last (λ other. other == own.write) own.table.forgotten write own.kept e;
            };
            undone = undone-same loose.txn loose.undone;
          })
        ]
      ]

  forget-live : (place : Place) → is_live_at now place ≡ is_live_at state place
  forget-live place = ap (λ tables. is_live_table (numbered tables place.table.0)) tables_are ∙ live-by (forgot write) (λ t. refl) state.tables table place.table.0

  forget-calm : (k : ℕ) → IsCalm (numbered state.tables k) (numbered now.tables k)
  forget-calm k = subst (λ tables. IsCalm (numbered state.tables k) (numbered tables k)) (sym tables_are) (calm-changed (forgot write) (λ t. refl) (λ t. refl) state.tables table k)

  -- it was loose
  was-loose : (place : Place) → Own place → IsLoose state place
  was-loose place at = record {
    txn = to.txn;
    own = record {
      table = which;
      is = ap (numbered state.tables) at.table_is ∙ to.is;
      deletes = at.deletes;
      write = write;
      statement = at.statement;
      dir = at.dir;
      owner = to.owner;
      kept = to.kept;
    };
    undone = to.undone;
  }

  pub forget-changes : ChangesAt state now Own
  forget-changes =
      calm-changes state now jobs_are named forget-calm forget-past Own forget-loose (λ place e. forget-live place ∙ e) (λ place e. sym (forget-live place) ∙ e)

  pub forget-stands : (files : Tree) → ((place : Place) → Own place → Holds (made_recs now place) place.bucket (finmap.get files place)) → Standing state files
      → Standing now files
  forget-stands files filed standing =
      changed-stands state now Own files files forget-changes (λ place. inl refl) (record {
        whole = λ place at live needed. filed place at;
        bare = λ place at none. subst (λ o. Holds o place.bucket (finmap.get files place)) none (filed place at);
        gone = λ place at live e.
            absurd (true≢false (sym e ∙ gone-calm state now jobs_are named forget-calm forget-past place ∙ (puts-unmade state place named (inl (was-loose place at))).gone));
        tables = λ place at. forget-changes.tables place (ap is_some (ap (numbered state.tables) at.table_is ∙ to.is));
        encoded = subst (AllByRecursion AreEncoded) (sym tables_are) (all-turned (forgot write) AreEncoded (λ t e. e) state.tables table standing.encoded);
      }) standing

pub forgotten-stands : ForgottenStands
unfolding acted
forgotten-stands state table write which files to named filed standing =
    forget-stands state (after state (entry.Forgot table write)) table.0 write.0 which to named refl refl refl files filed.at standing

pub forgotten-changes : (state : State) (table : TableId) (write : WriteId) (which : Table) → IsToForget state table.0 write.0 which → AllHaveNames state
    → ChangesAt state (after state (entry.Forgot table write)) (λ place. IsOwnOf table.0 write.0 place)
unfolding acted
forgotten-changes state table write which to named = forget-changes state (after state (entry.Forgot table write)) table.0 write.0 which to named refl refl refl
