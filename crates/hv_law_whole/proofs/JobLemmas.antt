-- The compactions of a partition's jobs: which names they make, what they cover, and which of them are past.
use Rattle.std.proofs.Common.{refl, ◌≡◌, ◌≢◌, inl, inr, ℕ, ◌+◌, ◌≤◌, ◌==◌, ◌&&◌, nat_lt, nat_le, not, Bool, true, false, cond, Option, Some, None, List, [], ◌∷◌, sym, ap, ◌∙◌, subst, arith, leb-true, ltb-true, ltb-false, eq-eqb, true≢false}
use Rattle.std.specs.Prelude.{is_none}
use Rattle.std.specs.List.{flat_map}
use Rattle.std.proofs.lemmas.Bool.{and_parts, and_from}
use Rattle.hv_dirs.specs.declared.names.DirName.{DirName}
use Rattle.hv_dirs.specs.declared.names.DirName.TheVariants as dir
use Rattle.hv_dirs.specs.Choice.{Delta, Own, Wide, low_of, high_of}
use Rattle.hv_choosing.specs.Taken.{delta_name}
use Rattle.hv_history.specs.declared.entry.JobKind.{JobKind}
use Rattle.hv_history.specs.declared.entry.JobKind.TheVariants as kind
use Rattle.hv_history.specs.declared.state.Transaction.{Transaction}
use Rattle.hv_history.specs.State.{State, Job}
use Rattle.hv_history.specs.Legal.{is_open}
use Rattle.hv_history.specs.Jobs.{first_open, if_below, holder, is_past_by, is_past}
use Rattle.hv_jobs.specs.Covers.{names_by, job_names, covers_range, covers_by, covers, frees, is_freed}
use Rattle.hv_law_visible.specs.Members.{IsIn}
use Rattle.hv_law_visible.specs.History.{Compaction, Minor, Major, end_of, mark_of, CoversDelta, CoversBase}
use Rattle.hv_law_visible.specs.Stands.{IsLoose, IsLooseBase}
use Rattle.hv_law_visible.specs.Readers.{IsPast}
use Rattle.hv_law_visible.proofs.MemberLemmas.{in-flat, from-flat, in-any}
use Rattle.hv_law_directories.specs.hv_law_partitions.specs.States.{open_from}
use Rattle.hv_law_directories.specs.Directories.{base_name}
use Rattle.hv_law_whole.specs.Whole.{compaction_of, compactions_by, compactions_of, published_among}

-- ---- a job's compaction

pub published-in : (jobs : List Job) (job : Job) (range : ℕ × ℕ × ℕ) → IsIn job jobs → job.published ≡ Some range
    → IsIn (compaction_of job.kind range) (published_among jobs)
published-in jobs job range at e =
    in-flat compactions_of job (compaction_of job.kind range) jobs at
    (subst (λ o. IsIn (compaction_of job.kind range) (compactions_by job.kind o)) (sym e) (inl refl))

abbrev first_of : Compaction → ℕ
first_of (Minor first last mark) = first
first_of (Major last mark) = 0

-- ---- the names that it makes

minor-name : (k : JobKind) (o : Option (ℕ × ℕ × ℕ)) (first last mark : ℕ) (deletes : Bool) → IsIn (Minor first last mark) (compactions_by k o)
    → IsIn (delta_name deletes (Wide first last)) (names_by k o)
minor-name k None first last mark deletes at = absurd at
minor-name kind.Minor (Some range) first last mark true (inl e) =
    inr (inl (λ i. dir.Wide true (record { 0 = first_of (e i) }) (record { 0 = end_of (e i) })))
minor-name kind.Minor (Some range) first last mark false (inl e) =
    inl (λ i. dir.Wide false (record { 0 = first_of (e i) }) (record { 0 = end_of (e i) }))
minor-name kind.Major (Some range) first last mark deletes (inl e) = cc
minor-name kind.Minor (Some range) first last mark deletes (inr at) = absurd at
minor-name kind.Major (Some range) first last mark deletes (inr at) = absurd at

major-name : (k : JobKind) (o : Option (ℕ × ℕ × ℕ)) (last mark : ℕ) → IsIn (Major last mark) (compactions_by k o) → IsIn (base_name last) (names_by k o)
major-name k None last mark at = absurd at
major-name kind.Minor (Some range) last mark (inl e) = cc
major-name kind.Major (Some range) last mark (inl e) = inl (λ i. dir.Base (record { 0 = end_of (e i) }))
major-name kind.Minor (Some range) last mark (inr at) = absurd at
major-name kind.Major (Some range) last mark (inr at) = absurd at

pub wide-named : (jobs : List Job) (first last mark : ℕ) (deletes : Bool) → IsIn (Minor first last mark) (published_among jobs)
    → IsIn (delta_name deletes (Wide first last)) (flat_map job_names jobs)
wide-named jobs first last mark deletes at =
    let of = from-flat compactions_of (Minor first last mark) jobs at in
    in-flat job_names of.0 (delta_name deletes (Wide first last)) jobs of.1 (minor-name of.0.kind of.0.published first last mark deletes of.2)

pub base-named : (jobs : List Job) (last mark : ℕ) → IsIn (Major last mark) (published_among jobs) → IsIn (base_name last) (flat_map job_names jobs)
base-named jobs last mark at =
    let of = from-flat compactions_of (Major last mark) jobs at in
    in-flat job_names of.0 (base_name last) jobs of.1 (major-name of.0.kind of.0.published last mark of.2)

-- and back

abbrev low_in : DirName → ℕ
low_in (dir.Base high) = 0
low_in (dir.Own deletes write statement) = 0
low_in (dir.Wide deletes low high) = low.0
low_in (dir.Staged job name) = 0

abbrev high_in : DirName → ℕ
high_in (dir.Base high) = high.0
high_in (dir.Own deletes write statement) = 0
high_in (dir.Wide deletes low high) = high.0
high_in (dir.Staged job name) = 0

name-minor : (k : JobKind) (o : Option (ℕ × ℕ × ℕ)) (first last : ℕ) (deletes : Bool) → IsIn (delta_name deletes (Wide first last)) (names_by k o)
    → (mark : ℕ) × IsIn (Minor first last mark) (compactions_by k o)
name-minor k None first last deletes at = absurd at
name-minor kind.Minor (Some range) first last deletes (inl e) = (range.2, inl (λ i. Minor (low_in (e i)) (high_in (e i)) range.2))
name-minor kind.Minor (Some range) first last deletes (inr (inl e)) = (range.2, inl (λ i. Minor (low_in (e i)) (high_in (e i)) range.2))
name-minor kind.Minor (Some range) first last deletes (inr (inr at)) = absurd at
name-minor kind.Major (Some range) first last deletes (inl e) = cc
name-minor kind.Major (Some range) first last deletes (inr at) = absurd at

name-major : (k : JobKind) (o : Option (ℕ × ℕ × ℕ)) (last : ℕ) → IsIn (base_name last) (names_by k o) → (mark : ℕ) × IsIn (Major last mark) (compactions_by k o)
name-major k None last at = absurd at
name-major kind.Minor (Some range) last (inl e) = cc
name-major kind.Minor (Some range) last (inr (inl e)) = cc
name-major kind.Minor (Some range) last (inr (inr at)) = absurd at
name-major kind.Major (Some range) last (inl e) = (range.2, inl (λ i. Major (high_in (e i)) range.2))
name-major kind.Major (Some range) last (inr at) = absurd at

pub named-wide : (jobs : List Job) (first last : ℕ) (deletes : Bool) → IsIn (delta_name deletes (Wide first last)) (flat_map job_names jobs)
    → (mark : ℕ) × IsIn (Minor first last mark) (published_among jobs)
named-wide jobs first last deletes at =
    let of = from-flat job_names (delta_name deletes (Wide first last)) jobs at in
    let is = name-minor of.0.kind of.0.published first last deletes of.2 in
    (is.0, in-flat compactions_of of.0 (Minor first last is.0) jobs of.1 is.1)

pub named-base : (jobs : List Job) (last : ℕ) → IsIn (base_name last) (flat_map job_names jobs) → (mark : ℕ) × IsIn (Major last mark) (published_among jobs)
named-base jobs last at =
    let of = from-flat job_names (base_name last) jobs at in
    let is = name-major of.0.kind of.0.published last of.2 in
    (is.0, in-flat compactions_of of.0 (Major last is.0) jobs of.1 is.1)

-- no own delta is one of them
own-never : (k : JobKind) (o : Option (ℕ × ℕ × ℕ)) (deletes : Bool) (write statement : ℕ) → IsIn (delta_name deletes (Own write statement)) (names_by k o) → ⊥
own-never k None deletes write statement at = at
own-never kind.Minor (Some range) deletes write statement (inl e) = cc
own-never kind.Minor (Some range) deletes write statement (inr (inl e)) = cc
own-never kind.Minor (Some range) deletes write statement (inr (inr at)) = at
own-never kind.Major (Some range) deletes write statement (inl e) = cc
own-never kind.Major (Some range) deletes write statement (inr at) = at

-- ---- what it covers

differ-from : (first last low high : ℕ) → not ((first == low) && (last == high)) ≡ true → Wide first last ≢ Wide low high
differ-from first last low high is e =
    let both : ((first == low) && (last == high)) ≡ true =
    and_from (first == low) (last == high) (eq-eqb first low (ap low_of e)) (eq-eqb last high (ap high_of e)) in
    true≢false (sym is ∙ ap not both)

pub delta-covered : (k : JobKind) (range : ℕ × ℕ × ℕ) (deletes : Bool) (d : Delta) → covers_range k range.0 range.1 (delta_name deletes d) ≡ true
    → CoversDelta (compaction_of k range) d
delta-covered kind.Minor range deletes (Own write statement) is =
    let both = and_parts (nat_le range.0 write) (nat_le write range.1) is in
    (leb-true range.0 write both.0, leb-true write range.1 both.1, λ e. cc)
delta-covered kind.Minor range deletes (Wide first last) is =
    let outer = and_parts (nat_le range.0 first) (nat_le last range.1 && not ((first == range.0) && (last == range.1))) is in
    let inner = and_parts (nat_le last range.1) (not ((first == range.0) && (last == range.1))) outer.1 in
    (leb-true range.0 first outer.0, leb-true last range.1 inner.0, differ-from first last range.0 range.1 inner.1)
delta-covered kind.Major range deletes (Own write statement) is = leb-true write range.1 is
delta-covered kind.Major range deletes (Wide first last) is = leb-true last range.1 is

pub base-covered : (k : JobKind) (range : ℕ × ℕ × ℕ) (base : ℕ) → covers_range k range.0 range.1 (base_name base) ≡ true → CoversBase (compaction_of k range) base
base-covered kind.Minor range base is = absurd (true≢false (sym is))
base-covered kind.Major range base is = ltb-true base range.1 is

-- ---- which are past

open-above : (n : ℕ) (ts : List Transaction) (txn : ℕ) → IsIn txn (open_from n ts) → n ≤ txn
open-above n [] txn at = absurd at
open-above n (t ∷ ts) txn at = by (is_open t) (open-above (n + 1) ts txn) at
  where
    by : (b : Bool) → (IsIn txn (open_from (n + 1) ts) → n + 1 ≤ txn) → IsIn txn (cond b (n ∷ open_from (n + 1) ts) (open_from (n + 1) ts)) → n ≤ txn
    by true rest (inl e) = omega (arith, e)
    by true rest (inr at) = let h = rest at in omega (arith, h)
    by false rest at = let h = rest at in omega (arith, h)

-- no open one is below the first of them
first-least : (n mark : ℕ) (ts : List Transaction) → is_none (if_below mark (first_open n ts)) ≡ true → (txn : ℕ) → IsIn txn (open_from n ts) → mark ≤ txn
first-least n mark [] none txn at = absurd at
first-least n mark (t ∷ ts) none txn at = by (is_open t) (first-least (n + 1) mark ts) none at
  where
    least : (b : Bool) → nat_lt n mark ≡ b → is_none (cond b (Some n) None) ≡ true → mark ≤ n
    least true e is = absurd (true≢false (sym is))
    least false e is = ltb-false n mark e

    by : (b : Bool) → (is_none (if_below mark (first_open (n + 1) ts)) ≡ true → (other : ℕ) → IsIn other (open_from (n + 1) ts) → mark ≤ other)
        → is_none (if_below mark (cond b (Some n) (first_open (n + 1) ts))) ≡ true
        → IsIn txn (cond b (n ∷ open_from (n + 1) ts) (open_from (n + 1) ts)) → mark ≤ txn
    by true rest is (inl e) = let low = least (nat_lt n mark) refl is in omega (arith, low, e)
    by true rest is (inr there) =
        let low = least (nat_lt n mark) refl is in
        let above = open-above (n + 1) ts txn there in
        omega (arith, low, above)
    by false rest is there = rest is txn there

pub mark-is : (k : JobKind) (range : ℕ × ℕ × ℕ) → mark_of (compaction_of k range) ≡ range.2
mark-is kind.Minor range = refl
mark-is kind.Major range = refl

past-is : (state : State) (k : JobKind) (range : ℕ × ℕ × ℕ) → is_none (holder state range.2) ≡ true → IsPast (open_from 1 state.transactions) (compaction_of k range)
past-is state k range none txn at =
    let least = first-least 1 range.2 state.transactions none txn at in
    let same = mark-is k range in
    omega (arith, least, same)

-- ---- a directory that is freed may be gone

-- a job that is past and covers the name, by what it published
pub record IsFreedBy (state : State) (jobs : List Job) (name : DirName) : Type 0 where
  pub job : Job
  pub among : IsIn job jobs
  pub range : ℕ × ℕ × ℕ
  pub published : job.published ≡ Some range
  pub past : IsPast (open_from 1 state.transactions) (compaction_of job.kind range)
  pub covered : covers_range job.kind range.0 range.1 name ≡ true

past-by : (state : State) (job : Job) (name : DirName) (o : Option (ℕ × ℕ × ℕ)) → job.published ≡ o → is_past_by state o ≡ true → covers_by job.kind o name ≡ true
    → (range : ℕ × ℕ × ℕ) × (job.published ≡ Some range) × (is_none (holder state range.2) ≡ true) × (covers_range job.kind range.0 range.1 name ≡ true)
past-by state job name None e past covered = absurd (true≢false (sym past))
past-by state job name (Some range) e past covered = (range, e, past, covered)

pub freed-by : (state : State) (jobs : List Job) (name : DirName) → is_freed state jobs name ≡ true → IsFreedBy state jobs name
freed-by state jobs name is =
    let found = in-any (frees state name) jobs is in
    let both = and_parts (is_past state found.0) (covers found.0 name) found.2 in
    let of = past-by state found.0 name found.0.published refl both.0 both.1 in
    record {
      job = found.0;
      among = found.1;
      range = of.0;
      published = of.1;
      past = past-is state found.0.kind of.0 of.2;
      covered = of.3;
    }

pub freed-delta : (state : State) (jobs : List Job) (deletes : Bool) (d : Delta) → is_freed state jobs (delta_name deletes d) ≡ true
    → IsLoose (IsPast (open_from 1 state.transactions)) (published_among jobs) d
freed-delta state jobs deletes d is =
    let by = freed-by state jobs (delta_name deletes d) is in
    (compaction_of by.job.kind by.range, published-in jobs by.job by.range by.among by.published, by.past, delta-covered by.job.kind by.range deletes d by.covered)

pub freed-base : (state : State) (jobs : List Job) (base : ℕ) → is_freed state jobs (base_name base) ≡ true
    → IsLooseBase (IsPast (open_from 1 state.transactions)) (published_among jobs) base
freed-base state jobs base is =
    let by = freed-by state jobs (base_name base) is in
    (compaction_of by.job.kind by.range, published-in jobs by.job by.range by.among by.published, by.past, base-covered by.job.kind by.range base by.covered)
