-- Entries that open, start and abort transactions keep all standing.
use Rattle.std.proofs.Common.{refl, ◌≡◌, ◌⊎◌, inl, inr, ℕ, zero, suc, ◌+◌, ◌≤◌, true, Option, Some, None, List, [], ◌∷◌, ◌++◌, length, map, sym, subst, arith}
use Rattle.std.specs.List.{slice_get}
use Rattle.std.proofs.lemmas.List.{map-append}
use Rattle.hv_base.specs.declared.ids.TxnId.{TxnId}
use Rattle.hv_stands.specs.hv_history.specs.declared.entry.Entry.{Entry}
use Rattle.hv_stands.specs.hv_history.specs.declared.entry.Entry.TheVariants as entry
use Rattle.hv_stands.specs.hv_history.specs.declared.state.Ending.{Ending}
use Rattle.hv_stands.specs.hv_history.specs.declared.state.Ending.TheVariants.{Aborted}
use Rattle.hv_stands.specs.hv_history.specs.declared.state.Transaction.{Transaction}
use Rattle.hv_stands.specs.hv_history.specs.State.{State, Job, numbered, acted, after, opened, changed, changed_at, ended, started, unless_ended, while_open}
use Rattle.hv_stands.specs.Files.{IsUndone, ending_of}
use Rattle.hv_stands.proofs.Numbers.{numbered-more}
use Rattle.hv_law_made.specs.Laws.{IsQuiet, IsMarked, OpenedStands, is_quiet_entry, QuietEntriesStand}
use Rattle.hv_law_made.proofs.QuietLemmas.{quiet-stands}
use Rattle.hv_law_made.proofs.PastLemmas.{open_at, past-stays}
use Rattle.hv_law_made.proofs.TableStands.{open-changed, endings-changed, while-same, past-by}
use Rattle.hv_law_made.proofs.EndStands.{end-past}
use Rattle.hv_law_visible.specs.Members.{IsIn}

-- ---- an opening

-- one that is open now was, or is the last one
more-at : (ts : List Transaction) (t : Transaction) (k : ℕ) → open_at (ts ++ t ∷ []) k ≡ true → (open_at ts k ≡ true) ⊎ (length ts ≤ k)
more-at [] t k e = inr (omega arith)
more-at (first ∷ ts) t zero e = inl e
more-at (first ∷ ts) t (suc k) e = elim (more-at ts t k e) [ inl was ↦ inl was | inr far ↦ inr (omega (arith, far)) ]

-- what wasn't committed isn't
undone-some : (endings : List (Option Ending)) (more : Option Ending) (n : ℕ) (o : Option (Option Ending)) → numbered endings n ≡ o → IsUndone o
    → IsUndone (numbered (endings ++ more ∷ []) n)
undone-some endings more n None e undone = absurd undone
undone-some endings more n (Some ending) e undone = subst IsUndone (sym (numbered-more endings more n ending e)) undone

pub opened-quiet : (state : State) (txn : TxnId) (session : List ℕ) (number : ℕ) (text : List ℕ)
    → ((job : Job) → IsIn job state.jobs → IsMarked (length state.transactions + 1) job.published) → IsQuiet state (after state (entry.Opened txn session number text))
unfolding acted
opened-quiet state txn session number text marked = record {
  tables = refl;
  jobs = refl;
  past = λ job at e.
      past-stays state (after state (entry.Opened txn session number text)) (length state.transactions + 1)
      (λ k is. elim (more-at state.transactions (opened session number text) k is) [ inl was ↦ inl was | inr far ↦ inr (omega (arith, far)) ])
      job.published (marked job at) e;
  undone = λ n undone.
      subst (λ endings. IsUndone (numbered endings n)) (sym (map-append ending_of state.transactions (opened session number text ∷ [])))
      (undone-some (map ending_of state.transactions) None n (numbered (map ending_of state.transactions) n) refl undone);
}

pub opened-stands : OpenedStands
opened-stands state txn session number text files marked standing =
    quiet-stands state (after state (entry.Opened txn session number text)) files (opened-quiet state txn session number text marked) standing

-- ---- an abort

abort-by : (ending : Ending) (t : Transaction) (o : Option Ending) → t.ending ≡ o → IsUndone (Some (Some ending)) → IsUndone (Some t.ending)
    → IsUndone (Some (unless_ended o t (ended ending t)).ending)
abort-by ending t None e aborted undone = aborted
abort-by ending t (Some other) e aborted undone = undone

module _ (ending : Ending) (aborted : IsUndone (Some (Some ending))) where
  abort-at : (ts : List Transaction) (n k : ℕ) → IsUndone (slice_get (map ending_of ts) k) → IsUndone (slice_get (map ending_of (changed_at (while_open (ended ending)) ts n)) k)
  abort-at [] n k undone = undone
  abort-at (t ∷ ts) zero zero undone = abort-by ending t t.ending refl aborted undone
  abort-at (t ∷ ts) zero (suc k) undone = undone
  abort-at (t ∷ ts) (suc n) zero undone = undone
  abort-at (t ∷ ts) (suc n) (suc k) undone = abort-at ts n k undone

  abort-undone : (ts : List Transaction) (n k : ℕ) → IsUndone (numbered (map ending_of ts) k)
      → IsUndone (numbered (map ending_of (changed (while_open (ended ending)) ts n)) k)
  abort-undone ts n zero undone = undone
  abort-undone ts zero (suc k) undone = undone
  abort-undone ts (suc n) (suc k) undone = abort-at ts n k undone

pub quiet-entry : (state : State) (event : Entry) → is_quiet_entry event ≡ true → IsQuiet state (after state event)
unfolding acted
quiet-entry state (entry.Boot run) e =
    record { tables = refl; jobs = refl; past = λ job at is. past-by state (after state (entry.Boot run)) refl job.published is; undone = λ n undone. undone }
quiet-entry state (entry.Start txn statement) e =
    let f = started state statement in
    let same = while-same f (λ t. refl) in
    record {
      tables = refl;
      jobs = refl;
      past = λ job at is. past-by state (after state (entry.Start txn statement)) (open-changed (while_open f) same 1 state.transactions txn.0) job.published is;
      undone = λ n undone. subst (λ endings. IsUndone (numbered endings n)) (sym (endings-changed (while_open f) same state.transactions txn.0)) undone;
    }
quiet-entry state (entry.Abort txn cause) e = record {
  tables = refl;
  jobs = refl;
  past = λ job at is. end-past state (after state (entry.Abort txn cause)) txn.0 (ended (Aborted state.entries cause)) refl job is;
  undone = λ n undone. abort-undone (Aborted state.entries cause) tt state.transactions txn.0 n undone;
}
quiet-entry state (entry.Opened txn session n text) e = cc
quiet-entry state (entry.Given txn table write) e = cc
quiet-entry state (entry.Commit txn wrote) e = cc
quiet-entry state (entry.Create txn table) e = cc
quiet-entry state (entry.Drop txn table) e = cc
quiet-entry state (entry.Asked j table partition kind by) e = cc
quiet-entry state (entry.Picked j mark) e = cc
quiet-entry state (entry.Published j low high mark) e = cc
quiet-entry state (entry.Empty j) e = cc
quiet-entry state (entry.Failed j cause) e = cc
quiet-entry state (entry.Cleaned j) e = cc
quiet-entry state (entry.Forgot table write) e = cc
quiet-entry state (entry.Next txn statement n text) e = cc
quiet-entry state (entry.Did txn statement wrote) e = cc
quiet-entry state (entry.Alter txn table) e = cc

pub quiet-entries-stand : QuietEntriesStand
quiet-entries-stand state event files e standing = quiet-stands state (after state event) files (quiet-entry state event e) standing
