-- An open transaction is one of the readers that a partition of its book has, with the fates that the table's ids had at its snapshot.
use Rattle.std.proofs.Common.{◌≡◌, inl, ℕ, zero, suc, ◌+◌, Bool, true, false, cond, Option, Some, None, List, [], ◌∷◌, ◌++◌, take, sym, ap, ◌∙◌, subst, arith, true≢false}
use Rattle.std.specs.List.{slice_get}
use Rattle.hv_history.specs.declared.entry.Entry.{Entry}
use Rattle.hv_history.specs.declared.state.Snapshot.{Snapshot}
use Rattle.hv_history.specs.declared.state.Transaction.{Transaction}
use Rattle.hv_history.specs.State.{numbered, state_of}
use Rattle.hv_history.specs.Legal.{is_open}
use Rattle.hv_stands.proofs.Numbers.{one_value}
use Rattle.hv_law_visible.specs.Members.{IsIn}
use Rattle.hv_law_visible.specs.Readers.{Reader}
use Rattle.hv_law_visible.proofs.MemberLemmas.{in-right}
use Rattle.hv_law_whole.specs.hv_law_directories.specs.hv_law_partitions.specs.Partitions.{fates_in}
use Rattle.hv_law_whole.specs.hv_law_directories.specs.hv_law_partitions.specs.States.{reader_by, readers_from}

module _ (entries : List Entry) (table : ℕ) where
  abbrev pub reader_at : ℕ → Snapshot → Reader
  reader_at n snapshot = record { txn = n; before = fates_in (state_of (take snapshot.place entries)) table }

  first-reader : (n : ℕ) (snapshot : Snapshot) (o : Option Snapshot) → o ≡ Some snapshot → (rest : List Reader)
      → IsIn (reader_at n snapshot) (reader_by entries table n o ++ rest)
  first-reader n snapshot None e rest = cc
  first-reader n snapshot (Some other) e rest = inl (ap (reader_at n) (one_value other snapshot e))

  reader-slice : (first k : ℕ) (ts : List Transaction) (t : Transaction) (snapshot : Snapshot) → slice_get ts k ≡ Some t → is_open t ≡ true → t.snapshot ≡ Some snapshot
      → IsIn (reader_at (first + k) snapshot) (readers_from entries table first ts)
  reader-slice first k [] t snapshot e unended taken = cc
  reader-slice first zero (one ∷ ts) t snapshot e unended taken =
      let same : one ≡ t = one_value one t e in
      let number : first + 0 ≡ first = omega arith in
      by (is_open one) (ap is_open same ∙ unended)
      (subst (λ n. IsIn (reader_at n snapshot) (reader_by entries table first one.snapshot ++ readers_from entries table (first + 1) ts)) (sym number)
      (first-reader first snapshot one.snapshot (ap (λ (u : Transaction). u.snapshot) same ∙ taken) (readers_from entries table (first + 1) ts)))
    where
      by : (b : Bool) → b ≡ true → IsIn (reader_at (first + 0) snapshot) (reader_by entries table first one.snapshot ++ readers_from entries table (first + 1) ts)
          → IsIn (reader_at (first + 0) snapshot)
          (cond b (reader_by entries table first one.snapshot ++ readers_from entries table (first + 1) ts) (readers_from entries table (first + 1) ts))
      by true is here = here
      by false is here = absurd (true≢false (sym is))
  reader-slice first (suc k) (one ∷ ts) t snapshot e unended taken =
      let number : first + 1 + k ≡ first + suc k = omega arith in
      by (is_open one)
      (subst (λ n. IsIn (reader_at n snapshot) (readers_from entries table (first + 1) ts)) number (reader-slice (first + 1) k ts t snapshot e unended taken))
    where
      by : (b : Bool) → IsIn (reader_at (first + suc k) snapshot) (readers_from entries table (first + 1) ts)
          → IsIn (reader_at (first + suc k) snapshot)
          (cond b (reader_by entries table first one.snapshot ++ readers_from entries table (first + 1) ts) (readers_from entries table (first + 1) ts))
      by true rest = in-right (reader_at (first + suc k) snapshot) (reader_by entries table first one.snapshot) (readers_from entries table (first + 1) ts) rest
      by false rest = rest

  pub reader-in : (txn : ℕ) (ts : List Transaction) (t : Transaction) (snapshot : Snapshot) → numbered ts txn ≡ Some t → is_open t ≡ true → t.snapshot ≡ Some snapshot
      → IsIn (reader_at txn snapshot) (readers_from entries table 1 ts)
  reader-in zero ts t snapshot e unended taken = cc
  reader-in (suc k) ts t snapshot e unended taken =
      let number : 1 + k ≡ suc k = omega arith in
      subst (λ n. IsIn (reader_at n snapshot) (readers_from entries table 1 ts)) number (reader-slice 1 k ts t snapshot e unended taken)
