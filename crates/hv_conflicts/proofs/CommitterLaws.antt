-- The entry at the place of a commit names the transaction that it ended.
use Rattle.std.proofs.Common.{◌≡◌, ℕ, zero, suc, ◌<◌, Option, Some, None, List, [], ◌∷◌, ◌++◌, length, fold, refl, sym, ap, ◌∙◌, subst, inl, inr, arith}
use Rattle.std.specs.Prelude.{◌⊎◌, option_and_then}
use Rattle.std.specs.Option.{option_map}
use Rattle.std.specs.List.{slice_get}
use Rattle.std.proofs.lemmas.List.{append-nil, append_assoc}
use Rattle.hv_base.specs.declared.ids.Touch.{Touch}
use Rattle.hv_history.specs.declared.entry.Entry.{Entry}
use Rattle.hv_history.specs.declared.entry.Entry.TheVariants as entry
use Rattle.hv_history.specs.declared.state.Transaction.{Transaction}
use Rattle.hv_history.specs.declared.state.Ending.{Ending}
use Rattle.hv_history.specs.declared.state.Ending.TheVariants.{Committed, Aborted, Made, Dropped}
use Rattle.hv_history.specs.State.{State, numbered, changed, while_open, unless_ended, started, given_id, committed, ended, opened, acted, after, state_of, nothing_yet}
use Rattle.hv_book.proofs.TextLaws.{get-front, get-last, length-snoc}
use Rattle.hv_book.proofs.HeldLaws.{same_or_not, numbered-here, numbered-other}

abbrev pub committer : Entry → Option ℕ
committer (entry.Commit txn wrote) = Some txn.0
committer _ = None

-- the transaction that the Commit at that place names
abbrev pub committer_at : List Entry → ℕ → Option ℕ
committer_at entries place = option_and_then committer (slice_get entries place)

-- the Commit at the place of this ending names that transaction
abbrev pub IsNamed : List Entry → ℕ → Option Ending → Type 0
IsNamed done k (Some (Committed at wrote)) = (at < length done) × (committer_at done at ≡ Some k)
IsNamed done k _ = Unit {0}

abbrev pub IsNamedIn : List Entry → ℕ → Option Transaction → Type 0
IsNamedIn done k None = Unit {0}
IsNamedIn done k (Some t) = IsNamed done k t.ending

abbrev pub AreNamed : List Entry → List Transaction → Type 0
AreNamed done ts = (k : ℕ) → IsNamedIn done k (numbered ts k)

module _ (done : List Entry) (event : Entry) where
  abbrev more : List Entry
  more = done ++ event ∷ []

  named-front : (k : ℕ) (o : Option Ending) → IsNamed done k o → IsNamed more k o
  named-front k None h = tt
  named-front k (Some (Committed at wrote)) h =
      let longer = length-snoc done event in
      let below : at < length done = h.0 in
      (omega (arith, longer, below), ap (option_and_then committer) (get-front done (event ∷ []) at below) ∙ h.1)
  named-front k (Some (Aborted at cause)) h = tt
  named-front k (Some (Made at table)) h = tt
  named-front k (Some (Dropped at table)) h = tt

  named-in-front : (k : ℕ) (o : Option Transaction) → IsNamedIn done k o → IsNamedIn more k o
  named-in-front k None h = tt
  named-in-front k (Some t) h = named-front k t.ending h

  all-front : (ts : List Transaction) → AreNamed done ts → AreNamed more ts
  all-front ts h = λ k. named-in-front k (numbered ts k) (h k)

  -- the transaction of one number is changed while it is open
  module _ (f : Transaction → Transaction) (n : ℕ) (goes : (t : Transaction) → t.ending ≡ None → IsNamed more n (f t).ending) where
    named-one : (t : Transaction) (o : Option Ending) → t.ending ≡ o → IsNamed done n t.ending → IsNamed more n (unless_ended o t (f t)).ending
    named-one t None is h = goes t is
    named-one t (Some e) is h = named-front n t.ending h

    named-here : (o : Option Transaction) → IsNamedIn done n o → IsNamedIn more n (option_map (while_open f) o)
    named-here None h = tt
    named-here (Some t) h = named-one t t.ending refl h

    changing : (ts : List Transaction) → AreNamed done ts → AreNamed more (changed (while_open f) ts n)
    changing ts h k = by (same_or_not k n)
      where
        by : (k ≡ n) ⊎ (k ≡ n → ⊥) → IsNamedIn more k (numbered (changed (while_open f) ts n) k)
        by (inl e) =
            subst (λ m. IsNamedIn more m (numbered (changed (while_open f) ts n) m)) (sym e)
            (subst (IsNamedIn more n) (sym (numbered-here (while_open f) ts n)) (named-here (numbered ts n) (h n)))
        by (inr apart) = subst (IsNamedIn more k) (sym (numbered-other (while_open f) ts n k apart)) (named-in-front k (numbered ts k) (h k))

  opening : (ts : List Transaction) (t : Transaction) → t.ending ≡ None → AreNamed done ts → AreNamed more (ts ++ t ∷ [])
  opening ts t fresh h zero = tt
  opening ts t fresh h (suc k) = by ts k (all-front ts h (suc k))
    where
      by : (ts : List Transaction) (n : ℕ) → IsNamedIn more (suc k) (slice_get ts n) → IsNamedIn more (suc k) (slice_get (ts ++ t ∷ []) n)
      by [] zero h = subst (IsNamed more (suc k)) (sym fresh) tt
      by [] (suc n) h = tt
      by (x ∷ ts) zero h = h
      by (x ∷ ts) (suc n) h = by ts n h

committing : (done : List Entry) (event : Entry) (n : ℕ) (wrote : List Touch) (at : ℕ) → committer event ≡ Some n → at ≡ length done
    → IsNamed (done ++ event ∷ []) n (Some (Committed at wrote))
committing done event n wrote at names is =
    let longer = length-snoc done event in
    (omega (arith, longer, is), ap (committer_at (done ++ event ∷ [])) is ∙ ap (option_and_then committer) (get-last done event) ∙ names)

named-next : (done : List Entry) (state : State) (event : Entry) → state.entries ≡ length done → AreNamed done state.transactions
    → AreNamed (done ++ event ∷ []) (after state event).transactions
unfolding acted
named-next done state (entry.Opened txn session number text) at h =
    opening done (entry.Opened txn session number text) state.transactions (opened session number text) refl h
named-next done state (entry.Start txn statement) at h =
    changing done (entry.Start txn statement) (started state statement) txn.0
    (λ t is. subst (IsNamed (done ++ entry.Start txn statement ∷ []) txn.0) (sym is) tt) state.transactions h
named-next done state (entry.Given txn table write) at h =
    changing done (entry.Given txn table write) (given_id table.0 write.0) txn.0
    (λ t is. subst (IsNamed (done ++ entry.Given txn table write ∷ []) txn.0) (sym is) tt) state.transactions h
named-next done state (entry.Commit txn wrote) at h =
    changing done (entry.Commit txn wrote) (committed state.entries wrote) txn.0
    (λ t is. committing done (entry.Commit txn wrote) txn.0 wrote state.entries refl at) state.transactions h
named-next done state (entry.Abort txn cause) at h =
    changing done (entry.Abort txn cause) (ended (Aborted state.entries cause)) txn.0 (λ t is. tt) state.transactions h
named-next done state (entry.Create txn table) at h =
    changing done (entry.Create txn table) (ended (Made state.entries table.0)) txn.0 (λ t is. tt) state.transactions h
named-next done state (entry.Drop txn table) at h =
    changing done (entry.Drop txn table) (ended (Dropped state.entries table.0)) txn.0 (λ t is. tt) state.transactions h
named-next done state (entry.Boot run) at h = all-front done (entry.Boot run) state.transactions h
named-next done state (entry.Asked job table partition kind by) at h = all-front done (entry.Asked job table partition kind by) state.transactions h
named-next done state (entry.Picked job watermark) at h = all-front done (entry.Picked job watermark) state.transactions h
named-next done state (entry.Published job low high mark) at h = all-front done (entry.Published job low high mark) state.transactions h
named-next done state (entry.Empty job) at h = all-front done (entry.Empty job) state.transactions h
named-next done state (entry.Cleaned job) at h = all-front done (entry.Cleaned job) state.transactions h
named-next done state (entry.Next txn statement number text) at h = all-front done (entry.Next txn statement number text) state.transactions h
named-next done state (entry.Did txn statement wrote) at h = all-front done (entry.Did txn statement wrote) state.transactions h
named-next done state (entry.Alter txn table) at h = all-front done (entry.Alter txn table) state.transactions h
named-next done state (entry.Failed job cause) at h = all-front done (entry.Failed job cause) state.transactions h
named-next done state (entry.Forgot table write) at h = all-front done (entry.Forgot table write) state.transactions h

named-all : (more done : List Entry) (state : State) → state.entries ≡ length done → AreNamed done state.transactions
    → AreNamed (done ++ more) (fold after state more).transactions
named-all [] done state at h = subst (λ xs. AreNamed xs state.transactions) (sym (append-nil done)) h
named-all (event ∷ more) done state at h =
    let longer = length-snoc done event in
    subst (λ xs. AreNamed xs (fold after (after state event) more).transactions) (append_assoc done (event ∷ []) more)
    (named-all more (done ++ event ∷ []) (after state event) (omega (arith, longer, at)) (named-next done state event at h))

none-named : AreNamed [] []
none-named zero = tt
none-named (suc k) = tt

named-of : (xs : List Entry) → AreNamed xs (state_of xs).transactions
named-of xs = named-all xs [] nothing_yet refl none-named

ended-named : (xs : List Entry) (k at : ℕ) (wrote : List Touch) (o : Option Ending) → o ≡ Some (Committed at wrote) → IsNamed xs k o → committer_at xs at ≡ Some k
ended-named xs k at wrote o is h = let here : IsNamed xs k (Some (Committed at wrote)) = subst (IsNamed xs k) is h in here.1

-- the Commit at the place where a transaction committed names that transaction
pub committed-by : (xs : List Entry) (k : ℕ) (t : Transaction) (at : ℕ) (wrote : List Touch) → numbered (state_of xs).transactions k ≡ Some t
    → t.ending ≡ Some (Committed at wrote) → committer_at xs at ≡ Some k
committed-by xs k t at wrote there ends = ended-named xs k at wrote t.ending ends (subst (IsNamedIn xs k) there (named-of xs k))
