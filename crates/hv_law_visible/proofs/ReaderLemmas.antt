-- Each entry keeps what the book knows of its readers, and so each open snapshot's list fits.
use Rattle.std.proofs.Common.{refl, ◌≡◌, inl, inr, ℕ, ◌+◌, ◌<◌, ◌≤◌, false, Option, Some, None, List, [], ◌∷◌, ◌++◌, filter, sym, ap, ◌∙◌, subst, arith, true≢false}
use Rattle.hv_base.specs.declared.ids.RowId.{RowId}
use Rattle.hv_dirs.specs.Choice.{sight_of}
use Rattle.hv_law_visible.specs.Members.{IsIn}
use Rattle.hv_law_visible.specs.History.{Write, Compaction, end_of, mark_of, content_of, is_upto}
use Rattle.hv_law_visible.specs.Stands.{IsSound, HasDistinctRows, Fits, Stands}
use Rattle.hv_law_visible.specs.Snapshots.{Fate, Open, Committed, Aborted, Forgotten, fate_of, is_open, list_at, list_up_to, GoesTo, IsUndone, HaveEnded, IsSince}
use Rattle.hv_law_visible.specs.Readers.{Reader, IsPast, Knows}
use Rattle.hv_law_visible.specs.Visible.{Tree}
use Rattle.hv_law_visible.specs.Laws.{ShowsRows}
use Rattle.hv_law_visible.proofs.ContentLemmas.{shows-rows}
use Rattle.hv_law_visible.proofs.ListLemmas.{says-up-to}
use Rattle.hv_law_visible.proofs.SnapshotLemmas.{snapshot-fits, snapshot-shows, cut-fits, cut-shows}
use Rattle.std.proofs.lemmas.List.{append-nil}

HasEnded : Option Fate → Type 0
HasEnded o = (fate : Fate) × (o ≡ Some fate) × (is_open fate ≡ false)

ended-goes : (before now : Option Fate) → GoesTo before now → HasEnded before → HasEnded now
unfolding HasEnded
ended-goes None now goes is = let f : None ≡ Some is.0 = is.1 in absurd (none is.0 f)
  where
    none : (f : Fate) → None ≡ Some f → ⊥
    none f e = cc
ended-goes (Some Open) now goes is = absurd (not_open is.0 is.1 is.2)
  where
    not_open : (f : Fate) → Some Open ≡ Some f → is_open f ≡ false → ⊥
    not_open f e g = let same : Open ≡ f = cc in true≢false (ap is_open same ∙ g)
ended-goes (Some Committed) now goes is = (Committed, goes, refl)
ended-goes (Some Aborted) now (inl e) is = (Aborted, e, refl)
ended-goes (Some Aborted) now (inr e) is = (Forgotten, e, refl)
ended-goes (Some Forgotten) now goes is = (Forgotten, goes, refl)

pub ended-stays : (before now : List Fate) (most : ℕ) → ((write : ℕ) → GoesTo (fate_of before write) (fate_of now write)) → HaveEnded before most → HaveEnded now most
unfolding HasEnded
ended-stays before now most goes ended write one under = ended-goes (fate_of before write) (fate_of now write) (goes write) (ended write one under)

-- an id is given, a transaction that has ids commits or aborts, an aborted id is forgotten
pub fates-go : (before now : List Fate) (jobs : List Compaction) (next : ℕ) (open_txns : List ℕ) (readers : List Reader)
    → Knows before jobs next open_txns readers → ((write : ℕ) → GoesTo (fate_of before write) (fate_of now write)) → Knows now jobs next open_txns readers
fates-go before now jobs next open_txns readers knows goes = record {
  jobs_ended = λ job at. ended-stays before now (end_of job) goes (knows.jobs_ended job at);
  below = knows.below;
  are_open = knows.are_open;
  seen = knows.seen;
}

-- a transaction is opened
pub opened : (fates : List Fate) (jobs : List Compaction) (next : ℕ) (open_txns : List ℕ) (readers : List Reader)
    → Knows fates jobs next open_txns readers → Knows fates jobs (next + 1) (next ∷ open_txns) readers
opened fates jobs next open_txns readers knows = record {
  jobs_ended = knows.jobs_ended;
  below = λ txn at. elim at [ inl e ↦ omega arith | inr there ↦ let l : txn < next = knows.below txn there in omega arith ];
  are_open = λ reader at. inr (knows.are_open reader at);
  seen = knows.seen;
}

-- one is started
pub started : (fates : List Fate) (jobs : List Compaction) (next txn : ℕ) (open_txns : List ℕ) (readers : List Reader)
    → Knows fates jobs next open_txns readers → IsIn txn open_txns
    → Knows fates jobs next open_txns (record { txn = txn; before = fates } ∷ readers)
started fates jobs next txn open_txns readers knows is = record {
  jobs_ended = knows.jobs_ended;
  below = knows.below;
  are_open = λ reader at. elim at [
    | inl e ↦ subst (λ (r : Reader). IsIn r.txn open_txns) e is
    | inr there ↦ knows.are_open reader there
  ];
  seen = λ reader job at listed after. elim at [
    | inl e ↦ subst (λ (r : Reader). HaveEnded r.before (end_of job)) e (knows.jobs_ended job listed)
    | inr there ↦ knows.seen reader job there listed after
  ];
}

-- one ends
pub ended-txn : (fates : List Fate) (jobs : List Compaction) (next : ℕ) (open_txns less : List ℕ) (readers fewer : List Reader)
    → Knows fates jobs next open_txns readers → ((txn : ℕ) → IsIn txn less → IsIn txn open_txns)
    → ((reader : Reader) → IsIn reader fewer → IsIn reader readers × IsIn reader.txn less)
    → Knows fates jobs next less fewer
ended-txn fates jobs next open_txns less readers fewer knows were still = record {
  jobs_ended = knows.jobs_ended;
  below = λ txn at. knows.below txn (were txn at);
  are_open = λ reader at. (still reader at).1;
  seen = λ reader job at. knows.seen reader job (still reader at).0;
}

-- a job is published, with ids that have ended, and with the next transaction as its mark
pub job-published : (fates : List Fate) (jobs : List Compaction) (job : Compaction) (next : ℕ) (open_txns : List ℕ) (readers : List Reader)
    → Knows fates jobs next open_txns readers → HaveEnded fates (end_of job) → mark_of job ≡ next
    → Knows fates (job ∷ jobs) next open_txns readers
job-published fates jobs job next open_txns readers knows ended mark = record {
  jobs_ended = λ other at. elim at [
    | inl e ↦ subst (λ (j : Compaction). HaveEnded fates (end_of j)) e ended
    | inr there ↦ knows.jobs_ended other there
  ];
  below = knows.below;
  are_open = knows.are_open;
  seen = λ reader other at listed after. elim listed [
    | inl e ↦
        let under : reader.txn < next = knows.below reader.txn (knows.are_open reader at) in
        let same : mark_of job ≡ mark_of other = ap mark_of e in
        absurd (omega arith)
    | inr there ↦ knows.seen reader other at there after
  ];
}

-- an id that is open is above every job
pub open-above : (fates : List Fate) (jobs : List Compaction) (next : ℕ) (open_txns : List ℕ) (readers : List Reader) (write : ℕ)
    → Knows fates jobs next open_txns readers → 1 ≤ write → fate_of fates write ≡ Some Open → (job : Compaction) → IsIn job jobs → end_of job < write
open-above fates jobs next open_txns readers write knows one is job at = elim (Rattle.std.proofs.lemmas.Bool.cases_lt (end_of job) write) [
  | inl over ↦ over
  | inr under ↦ let e = knows.jobs_ended job at write one under in absurd (was_open e.0 (sym is ∙ e.1) e.2)
]
  where
    was_open : (f : Fate) → Some Open ≡ Some f → is_open f ≡ false → ⊥
    was_open f e g = let same : Open ≡ f = cc in true≢false (ap is_open same ∙ g)

-- so an open snapshot's list fits the book now
pub reader-fits : {Found : Type 0} (fates : List Fate) (jobs : List Compaction) (next : ℕ) (open_txns : List ℕ) (readers : List Reader) (reader : Reader)
    (writes since : List (Write Found))
    → Knows fates jobs next open_txns readers → IsIn reader readers → IsSince reader.before fates writes since
    → ((w : Write Found) → IsIn w (writes ++ since) → 1 ≤ w.write)
    → Fits (sight_of (list_at reader.before)) (IsPast open_txns) (IsUndone fates) (writes ++ since) jobs
reader-fits fates jobs next open_txns readers reader writes since knows at is from_one =
    snapshot-fits (IsPast open_txns) jobs reader.before fates writes since is from_one
    (λ job listed gone. knows.seen reader job at listed (gone reader.txn (knows.are_open reader at)))

-- and so does the list at the end of the book
pub end-fits : {Found : Type 0} (fates : List Fate) (jobs : List Compaction) (next : ℕ) (open_txns : List ℕ) (readers : List Reader) (writes : List (Write Found))
    → Knows fates jobs next open_txns readers → ((w : Write Found) → IsIn w writes → fate_of fates w.write ≡ Some Committed)
    → ((w : Write Found) → IsIn w writes → 1 ≤ w.write)
    → Fits (sight_of (list_at fates)) (IsPast open_txns) (IsUndone fates) writes jobs
end-fits {Found = Found} fates jobs next open_txns readers writes knows are from_one =
    subst (λ ws. Fits (sight_of (list_at fates)) (IsPast open_txns) (IsUndone fates) ws jobs) (append-nil writes)
    (snapshot-fits (IsPast open_txns) jobs fates fates writes [] (record {
      goes = λ write. itself (fate_of fates write);
      were = are;
      are = λ w at. absurd at;
      were_not = λ w at. absurd at;
    }) (λ w at. from_one w (subst (IsIn w) (append-nil writes) at)) (λ job listed gone. knows.jobs_ended job listed))
  where
    itself : (o : Option Fate) → GoesTo o o
    itself None = tt
    itself (Some Open) = tt
    itself (Some Committed) = refl
    itself (Some Aborted) = inl refl
    itself (Some Forgotten) = refl

-- ---- what they show

pub snapshot-rows : {Found : Type 0} (id_of : Found → RowId) (most next : ℕ) (open_txns : List ℕ) (fates : List Fate) (readers : List Reader) (reader : Reader)
    (writes since : List (Write Found)) (jobs : List Compaction) (tree : Tree Found)
    → Knows fates jobs next open_txns readers → IsIn reader readers → IsSince reader.before fates writes since
    → IsSound id_of most (writes ++ since) jobs → HasDistinctRows id_of (writes ++ since)
    → Stands id_of (IsPast open_txns) (IsUndone fates) (writes ++ since) jobs tree
    → ShowsRows id_of (sight_of (list_at reader.before)) tree (content_of id_of writes)
snapshot-rows id_of most next open_txns fates readers reader writes since jobs tree knows at is sound distinct stands =
    subst (λ ws. ShowsRows id_of (sight_of (list_at reader.before)) tree (content_of id_of ws))
    (snapshot-shows reader.before fates writes since is sound.from_one)
    (shows-rows id_of most (sight_of (list_at reader.before)) (IsPast open_txns) (IsUndone fates) (writes ++ since) jobs tree sound distinct
    (reader-fits fates jobs next open_txns readers reader writes since knows at is sound.from_one) stands)

pub compaction-rows : {Found : Type 0} (id_of : Found → RowId) (most next mark : ℕ) (open_txns : List ℕ) (fates : List Fate) (readers : List Reader)
    (writes : List (Write Found)) (jobs : List Compaction) (tree : Tree Found)
    → Knows fates jobs next open_txns readers
    → ((w : Write Found) → IsIn w writes → fate_of fates w.write ≡ Some Committed)
    → ((job : Compaction) → IsIn job jobs → IsPast open_txns job → end_of job ≤ mark)
    → IsSound id_of most writes jobs → HasDistinctRows id_of writes
    → Stands id_of (IsPast open_txns) (IsUndone fates) writes jobs tree
    → ShowsRows id_of (sight_of (list_up_to mark (list_at fates))) tree (content_of id_of (filter (is_upto mark) writes))
compaction-rows id_of most next mark open_txns fates readers writes jobs tree knows are under sound distinct stands =
    subst (λ ws. ShowsRows id_of (sight_of (list_up_to mark (list_at fates))) tree (content_of id_of ws))
    (cut-shows mark fates (list_up_to mark (list_at fates)) writes (says-up-to mark (list_at fates)) are sound.from_one)
    (shows-rows id_of most (sight_of (list_up_to mark (list_at fates))) (IsPast open_txns) (IsUndone fates) writes jobs tree sound distinct
    (cut-fits mark (list_at fates) (list_up_to mark (list_at fates)) (IsPast open_txns) (IsUndone fates) writes jobs (says-up-to mark (list_at fates))
    (end-fits fates jobs next open_txns readers writes knows are sound.from_one) under) stands)

-- ---- what a snapshot knows of the commits since

goes-on : (before then now : Option Fate) → GoesTo before then → GoesTo then now → GoesTo before now
goes-on None then now a b = tt
goes-on (Some Open) then now a b = tt
goes-on (Some Committed) None now a b = absurd (cc' a)
  where
    cc' : None ≡ Some Committed → ⊥
    cc' e = cc
goes-on (Some Committed) (Some Open) now a b = let e : Some Open ≡ Some Committed = a in cc
goes-on (Some Committed) (Some Committed) now a b = b
goes-on (Some Committed) (Some Aborted) now a b = let e : Some Aborted ≡ Some Committed = a in cc
goes-on (Some Committed) (Some Forgotten) now a b = let e : Some Forgotten ≡ Some Committed = a in cc
goes-on (Some Aborted) (Some Aborted) now (inl a) b = b
goes-on (Some Aborted) (Some Forgotten) now (inr a) b = inr b
goes-on (Some Aborted) None now (inl a) b = cc
goes-on (Some Aborted) None now (inr a) b = cc
goes-on (Some Aborted) (Some Open) now (inl a) b = cc
goes-on (Some Aborted) (Some Open) now (inr a) b = cc
goes-on (Some Aborted) (Some Committed) now (inl a) b = cc
goes-on (Some Aborted) (Some Committed) now (inr a) b = cc
goes-on (Some Aborted) (Some Forgotten) now (inl a) b = cc
goes-on (Some Aborted) (Some Aborted) now (inr a) b = cc
goes-on (Some Forgotten) None now a b = let e : None ≡ Some Forgotten = a in cc
goes-on (Some Forgotten) (Some Open) now a b = let e : Some Open ≡ Some Forgotten = a in cc
goes-on (Some Forgotten) (Some Committed) now a b = let e : Some Committed ≡ Some Forgotten = a in cc
goes-on (Some Forgotten) (Some Aborted) now a b = let e : Some Aborted ≡ Some Forgotten = a in cc
goes-on (Some Forgotten) (Some Forgotten) now a b = b

-- more is committed, of ids that were open just before
pub since-commit : {Found : Type 0} (before then now : List Fate) (writes since more : List (Write Found))
    → IsSince before then writes since → ((write : ℕ) → GoesTo (fate_of then write) (fate_of now write))
    → ((w : Write Found) → IsIn w more → (fate_of then w.write ≡ Some Open) × (fate_of now w.write ≡ Some Committed))
    → IsSince before now writes (since ++ more)
since-commit {Found = Found} before then now writes since more is goes new = record {
  goes = λ write. goes-on (fate_of before write) (fate_of then write) (fate_of now write) (is.goes write) (goes write);
  were = is.were;
  are = λ w at. elim (Rattle.hv_law_visible.proofs.MemberLemmas.in-either w since more at) [
    | inl old ↦ stays (fate_of then w.write) (fate_of now w.write) (is.are w old) (goes w.write)
    | inr now_in ↦ (new w now_in).1
  ];
  were_not = λ w at. elim (Rattle.hv_law_visible.proofs.MemberLemmas.in-either w since more at) [
    | inl old ↦ is.were_not w old
    | inr now_in ↦ λ was. not_both (fate_of before w.write) (fate_of then w.write) was (new w now_in).0 (is.goes w.write)
  ];
}
  where
    stays : (a b : Option Fate) → a ≡ Some Committed → GoesTo a b → b ≡ Some Committed
    stays None b e goes = cc
    stays (Some Open) b e goes = cc
    stays (Some Committed) b e goes = goes
    stays (Some Aborted) b e goes = cc
    stays (Some Forgotten) b e goes = cc

    not_both : (a b : Option Fate) → a ≡ Some Committed → b ≡ Some Open → GoesTo a b → ⊥
    not_both None b e f goes = cc
    not_both (Some Open) b e f goes = cc
    not_both (Some Committed) b e f goes = let g : Some Open ≡ Some Committed = sym f ∙ goes in cc
    not_both (Some Aborted) b e f goes = cc
    not_both (Some Forgotten) b e f goes = cc
