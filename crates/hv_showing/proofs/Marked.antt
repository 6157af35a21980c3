-- The marks that a walk over the entries leaves say of each transaction whether one of its write ids counts.
use Rattle.std.proofs.Common.{◌≡◌, ℕ, zero, suc, Bool, true, false, Option, Some, None, List, [], ◌∷◌, ◌++◌, map, filter, take, fold, refl, sym, ap, ◌∙◌}
use Rattle.std.specs.Prelude.{◌&&◌, ◌||◌, ◌==◌, if◌then◌else◌, is_none, IsSomeAnd}
use Rattle.std.specs.Option.{option_map}
use Rattle.std.specs.List.{slice_get, list_any}
use Rattle.std.proofs.lemmas.List.{map-append}
use Rattle.std.proofs.lemmas.List.Folds.{list_any-append}
use Rattle.hv_base.specs.declared.ids.Limits.{Limits}
use Rattle.hv_history.specs.declared.entry.Entry.{Entry}
use Rattle.hv_history.specs.declared.entry.Entry.TheVariants as entry
use Rattle.hv_history.specs.declared.state.Ending.{Ending}
use Rattle.hv_history.specs.declared.state.Ending.TheVariants.{Aborted, Made, Dropped}
use Rattle.hv_history.specs.declared.state.Table.{Table}
use Rattle.hv_history.specs.declared.state.Transaction.{Transaction}
use Rattle.hv_history.specs.State.{State, nothing_yet, numbered, changed, changed_at, while_open, unless_ended, started, given_id, committed, ended, opened, acted, after, state_of}
use Rattle.hv_history.specs.Legal.{IsRunning, GivenFits, Fits, AllFit}
use Rattle.hv_history.specs.Shown.{is_kept_in, is_kept, has_kept}
use Rattle.hv_book.specs.Past.{Past, IsPast, forgotten_in, table_live, forgot_then, forgot_id}
use Rattle.hv_book.proofs.NoteLaws.{map-same}
use Rattle.hv_book.proofs.TextLaws.{while-same}
use Rattle.hv_showing.specs.Fronts.{tables_then}
use Rattle.hv_showing.specs.Marks.{or_mark, marked_by, marked_over, keeps, is_forgot}

or-nothing : (a : Bool) → (a || false) ≡ a
or-nothing true = refl
or-nothing false = refl

unended : (e : Option Ending) → is_none e ≡ true → e ≡ None
unended None is = refl
unended (Some e) is = cc

module _ (counts : ℕ × ℕ → Bool) where
  abbrev has : Transaction → Bool
  has t = list_any counts t.given

  -- ---- one write id more

  given-one : (table write : ℕ) (t : Transaction) → t.ending ≡ None
      → has (while_open (given_id table write) t) ≡ or_mark (counts (table, write)) (has t)
  unfolding or_mark
  given-one table write t still =
      ap (λ (o : Option Ending). has (unless_ended o t (given_id table write t))) still
      ∙ list_any-append counts t.given ((table, write) ∷ []) ∙ ap (λ b. has t || b) (or-nothing (counts (table, write)))

  given-at : (table write : ℕ) (ts : List Transaction) (n : ℕ) → IsSomeAnd (slice_get ts n) IsRunning
      → map has (changed_at (while_open (given_id table write)) ts n) ≡ changed_at (or_mark (counts (table, write))) (map has ts) n
  given-at table write [] n runs = refl
  given-at table write (t ∷ ts) zero runs = ap (λ m. m ∷ map has ts) (given-one table write t (unended t.ending runs.unended))
  given-at table write (t ∷ ts) (suc n) runs = ap (λ ms. has t ∷ ms) (given-at table write ts n runs)

  given-more : (table write : ℕ) (ts : List Transaction) (txn : ℕ) → IsSomeAnd (numbered ts txn) IsRunning
      → map has (changed (while_open (given_id table write)) ts txn) ≡ changed (or_mark (counts (table, write))) (map has ts) txn
  given-more table write ts zero runs = refl
  given-more table write ts (suc n) runs = given-at table write ts n runs

  runs-given : (limits : Limits) (state : State) (table write : ℕ) (o : Option Transaction) → IsSomeAnd o (GivenFits limits state table write) → IsSomeAnd o IsRunning
  runs-given limits state table write None fits = absurd fits
  runs-given limits state table write (Some t) fits = fits.running

  -- ---- one entry more

  other-marks : (f : Transaction → Transaction) → ((t : Transaction) → has (f t) ≡ has t) → (ts : List Transaction) (txn : ℕ)
      → map has ts ≡ map has (changed (while_open f) ts txn)
  other-marks f same ts txn = sym (map-same has (while_open f) (while-same has f same) ts txn)

  marks-next : (limits : Limits) (state : State) (event : Entry) → Fits limits state event
      → marked_by counts event (map has state.transactions) ≡ map has (after state event).transactions
  unfolding acted
  marks-next limits state (entry.Opened txn session number text) fits = sym (map-append has state.transactions (opened session number text ∷ []))
  marks-next limits state (entry.Given txn table write) fits =
      sym (given-more table.0 write.0 state.transactions txn.0
      (runs-given limits state table.0 write.0 (numbered state.transactions txn.0) fits))
  marks-next limits state (entry.Start txn statement) fits = other-marks (started state statement) (λ t. refl) state.transactions txn.0
  marks-next limits state (entry.Commit txn wrote) fits = other-marks (committed state.entries wrote) (λ t. refl) state.transactions txn.0
  marks-next limits state (entry.Abort txn cause) fits = other-marks (ended (Aborted state.entries cause)) (λ t. refl) state.transactions txn.0
  marks-next limits state (entry.Create txn table) fits = other-marks (ended (Made state.entries table.0)) (λ t. refl) state.transactions txn.0
  marks-next limits state (entry.Drop txn table) fits = other-marks (ended (Dropped state.entries table.0)) (λ t. refl) state.transactions txn.0
  marks-next limits state (entry.Boot run) fits = refl
  marks-next limits state (entry.Asked job table partition kind by_) fits = refl
  marks-next limits state (entry.Picked job mark) fits = refl
  marks-next limits state (entry.Published job low high mark) fits = refl
  marks-next limits state (entry.Empty job) fits = refl
  marks-next limits state (entry.Cleaned job) fits = refl
  marks-next limits state (entry.Failed job why) fits = refl
  marks-next limits state (entry.Forgot table write) fits = refl
  marks-next limits state event fits = absurd fits

  marks-all : (limits : Limits) (entries : List Entry) (state : State) → AllFit limits state entries
      → marked_over counts entries (map has state.transactions) ≡ map has (fold after state entries).transactions
  marks-all limits [] state fit = refl
  marks-all limits (event ∷ entries) state fit =
      ap (marked_over counts entries) (marks-next limits state event fit.0) ∙ marks-all limits entries (after state event) fit.1

pub front-fits : (limits : Limits) (n : ℕ) (xs : List Entry) (state : State) → AllFit limits state xs → AllFit limits state (take n xs)
front-fits limits zero xs state fit = tt
front-fits limits (suc n) [] state fit = tt
front-fits limits (suc n) (x ∷ xs) state fit = (fit.0, front-fits limits n xs (after state x) fit.1)

pub marks-then : (limits : Limits) (entries : List Entry) (position : ℕ) → AllFit limits nothing_yet entries
    → marked_over (is_kept (tables_then entries position)) (take position entries) []
    ≡ map (has_kept (tables_then entries position)) (state_of (take position entries)).transactions
marks-then limits entries position fit =
    marks-all (is_kept (tables_then entries position)) limits (take position entries) nothing_yet (front-fits limits position entries nothing_yet fit)

-- ---- a write id that is kept

any-mapped : {A B : Type 0} (q : B → Bool) (f : A → B) (p r : A → Bool) → ((x : A) → r x ≡ (p x && q (f x))) → (xs : List A)
    → list_any r xs ≡ list_any q (map f (filter p xs))
any-mapped q f p r same [] = refl
any-mapped q f p r same (x ∷ xs) = ap (λ b. b || list_any r xs) (same x) ∙ by (any-mapped q f p r same xs) (p x)
  where
    by : list_any r xs ≡ list_any q (map f (filter p xs)) → (b : Bool)
        → ((b && q (f x)) || list_any r xs) ≡ list_any q (map f (if b then x ∷ filter p xs else filter p xs))
    by rest true = ap (λ c. q (f x) || c) rest
    by rest false = rest

pub forgot-then : (entries : List Entry) (past : Past) → IsPast entries past → (position table write : ℕ)
    → list_any (is_forgot position table write) past.forgotten ≡ list_any (λ other. other == write) (forgotten_in (numbered (tables_then entries position) table))
forgot-then entries past is position table write =
    any-mapped (λ other. other == write) forgot_id (forgot_then position table) (is_forgot position table write) (λ x. refl) past.forgotten
    ∙ ap (list_any (λ other. other == write)) (is.forgotten position table)

pub kept-then : (write : ℕ) (o : Option Table) → keeps (option_map table_live o) (list_any (λ other. other == write) (forgotten_in o)) ≡ is_kept_in write o
kept-then write None = refl
kept-then write (Some table) = refl
