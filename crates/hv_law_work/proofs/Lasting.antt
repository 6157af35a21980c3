-- What is left by an entry of directories that nobody writes any more: they stay so, and tables that were dropped stay so.
use Rattle.std.proofs.Common.{◌≡◌, inl, inr, ℕ, zero, suc, ◌+◌, ◌<◌, true, true≢false, Option, Some, None, List, [], ◌∷◌, ◌++◌, map, refl, sym, ap, ◌∙◌, subst}
use Rattle.std.specs.Prelude.{◌==◌, ◌&&◌, nat_eq, is_some, option_map}
use Rattle.std.specs.Cmp.Lexicographic.{pointwise}
use Rattle.std.specs.List.{slice_get}
use Rattle.std.proofs.lemmas.Bool.{false_from_ne_true}
use Rattle.hv_base.specs.declared.ids.Limits.{Limits}
use Rattle.hv_shelf.specs.declared.place.DirAt.{DirAt}
use Rattle.hv_dirs.specs.Names.{write_end}
use Rattle.hv_history.specs.declared.entry.Entry.{Entry}
use Rattle.hv_history.specs.declared.state.Ending.{Ending}
use Rattle.hv_history.specs.declared.state.Transaction.{Transaction}
use Rattle.hv_history.specs.State.{State, Job, numbered, after}
use Rattle.hv_history.specs.Legal.{Fits}
use Rattle.hv_history.specs.Lasting.{Later, TableLater}
use Rattle.hv_history.proofs.LastingLaws.{goes-on}
use Rattle.hv_stands.specs.Files.{ending_of}
use Rattle.hv_stands.proofs.Numbers.{found, numbered-map}
use Rattle.hv_jobs.specs.Covers.{covers, covers_by}
use Rattle.hv_law_jobs.specs.Lasting.{JobLater}
use Rattle.hv_law_jobs.proofs.LastLemmas.{jobs-last}
use Rattle.hv_law_marks.specs.hv_law_filed.specs.hv_law_made.specs.Standing.{is_live_table}
use Rattle.hv_law_marks.specs.hv_law_filed.specs.hv_law_made.specs.Entries.{IsAbortedEnd, IsSoundBook}
use Rattle.hv_law_marks.specs.hv_law_filed.specs.hv_law_made.proofs.EntryChanges.{entries-change}
use Rattle.hv_law_work.specs.Marks.{IsCovered, IsLost, IsLeft, IsDropped, WasPicked}

slice-front : {A : Type 0} (xs ys : List A) (n : ℕ) (x : A) → slice_get xs n ≡ Some x → slice_get (xs ++ ys) n ≡ Some x
slice-front [] ys n x at = cc
slice-front (y ∷ xs) ys zero x at = at
slice-front (y ∷ xs) ys (suc n) x at = slice-front xs ys n x at

numbered-front : {A : Type 0} (xs ys : List A) (n : ℕ) (x : A) → numbered xs n ≡ Some x → numbered (xs ++ ys) n ≡ Some x
numbered-front xs ys zero x at = cc
numbered-front xs ys (suc n) x at = slice-front xs ys n x at

-- the job later
module _ (state : State) (event : Entry) (number : ℕ) (job : Job) (is : numbered state.jobs number ≡ Some job) where
  pub later-job : (now : Job) × (numbered (after state event).jobs number ≡ Some now) × JobLater job now
  later-job = found (JobLater job) (numbered (after state event).jobs number) (jobs-last state (event ∷ []) number job is)

pub picked-stays : (state : State) (event : Entry) (number : ℕ) → WasPicked state number → WasPicked (after state event) number
picked-stays state event number was = by was.job.watermark refl
  where
    now : (now : Job) × (numbered (after state event).jobs number ≡ Some now) × JobLater was.job now
    now = later-job state event number was.job was.is

    by : (o : Option ℕ) → was.job.watermark ≡ o → WasPicked (after state event) number
    by None e = absurd (true≢false (sym was.picked ∙ ap (λ o. is_some o) e))
    by (Some mark) e = record { job = now.0; is = now.1; picked = ap (λ o. is_some o) (now.2.watermark mark e) }

covered-stays : (state : State) (event : Entry) (dir : DirAt) → IsCovered state dir → IsCovered (after state event) dir
covered-stays state event dir was = record {
  number = was.number;
  job = now.0;
  is = now.1;
  here = (λ i. (now.2.table i == dir.table.0) && pointwise nat_eq (now.2.partition i) dir.partition) ∙ was.here;
  name = was.name;
  named = was.named;
  text = was.text;
  covered = by was.job.published refl;
}
  where
    now : (now : Job) × (numbered (after state event).jobs was.number ≡ Some now) × JobLater was.job now
    now = later-job state event was.number was.job was.is

    by : (o : Option (ℕ × ℕ × ℕ)) → was.job.published ≡ o → covers now.0 was.name ≡ true
    by None e = absurd (true≢false (sym was.covered ∙ ap (λ o. covers_by was.job.kind o was.name) e))
    by (Some range) e =
        (λ i. covers_by (now.2.kind i) (now.2.published range e i) was.name)
        ∙ sym (ap (λ o. covers_by was.job.kind o was.name) e) ∙ was.covered

-- an aborted transaction stays so
aborted-stays : (state : State) (event : Entry) (txn : ℕ) → IsAbortedEnd (numbered (map ending_of state.transactions) txn)
    → IsAbortedEnd (numbered (map ending_of (after state event).transactions) txn)
aborted-stays state event txn aborted =
    by (numbered state.transactions txn) refl (subst IsAbortedEnd (numbered-map ending_of state.transactions txn) aborted)
  where
    with_end : (t : Transaction) → numbered state.transactions txn ≡ Some t → (e : Option Ending) → t.ending ≡ e → IsAbortedEnd (Some e)
        → IsAbortedEnd (numbered (map ending_of (after state event).transactions) txn)
    with_end t at None ends is = absurd is
    with_end t at (Some e) ends is =
        let now = found (Later t) (numbered (after state event).transactions txn) ((goes-on state event).transactions txn t at) in
        let same : now.0 ≡ t = now.2.ending e ends in
        subst IsAbortedEnd
        (sym (numbered-map ending_of (after state event).transactions txn ∙ ap (option_map ending_of) now.1
        ∙ ap (λ (x : Transaction). Some x.ending) same ∙ ap (λ o. Some o) ends)) is

    by : (o : Option Transaction) → numbered state.transactions txn ≡ o → IsAbortedEnd (option_map ending_of o)
        → IsAbortedEnd (numbered (map ending_of (after state event).transactions) txn)
    by None at is = absurd is
    by (Some t) at is = with_end t at t.ending refl is

lost-stays : (state : State) (event : Entry) (dir : DirAt) → IsLost state dir → IsLost (after state event) dir
lost-stays state event dir was =
    let now = found (TableLater was.table) (numbered (after state event).tables dir.table.0) ((goes-on state event).tables dir.table.0 was.table was.table_is) in
    record {
      table = now.0;
      table_is = now.1;
      write = was.write;
      txn = was.txn;
      owner =
          ap (λ (owners : List ℕ). numbered owners was.write) now.2.owners.is
          ∙ numbered-front was.table.owners now.2.owners.more was.write was.txn was.owner;
      aborted = aborted-stays state event was.txn was.aborted;
      deletes = was.deletes;
      statement = was.statement;
      text = was.text;
    }

pub left-stays : (state : State) (event : Entry) (dir : DirAt) → IsLeft state dir → IsLeft (after state event) dir
left-stays state event dir (inl covered) = inl (covered-stays state event dir covered)
left-stays state event dir (inr lost) = inr (lost-stays state event dir lost)

pub dropped-stays : (limits : Limits) (state : State) (event : Entry) (dir : DirAt) → Fits limits state event → state.entries + 1 < write_end → IsSoundBook state
    → IsDropped state dir → IsDropped (after state event) dir
dropped-stays limits state event dir fits few sound dropped =
    false_from_ne_true (is_live_table (numbered (after state event).tables dir.table.0))
    (λ live.
    true≢false
    (sym ((entries-change limits state event fits few sound).live (record { table = dir.table; partition = dir.partition; dir = dir.dir; bucket = 0 }) live)
    ∙ dropped))
