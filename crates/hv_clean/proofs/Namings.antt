-- In a book that fits, all that a job covers has a name.
use Rattle.std.proofs.Common.{◌≡◌, ℕ, ◌+◌, ◌<◌, ◌≤◌, Bool, true, false, Option, Some, None, List, [], ◌∷◌, find, length, refl, arith}
use Rattle.std.specs.Prelude.{if◌then◌else◌, ◌&&◌}
use Rattle.std.specs.List.{flat_map, AllByRecursion}
use Rattle.hv_base.specs.declared.ids.Touch.{Touch}
use Rattle.hv_dirs.specs.declared.names.DirName.{DirName}
use Rattle.hv_dirs.specs.Names.{IsPlain, IsRange, write_end}
use Rattle.hv_history.specs.declared.entry.Entry.{Entry}
use Rattle.hv_history.specs.declared.entry.JobKind.{JobKind}
use Rattle.hv_history.specs.declared.entry.JobKind.TheVariants as kind
use Rattle.hv_history.specs.declared.state.Ending.{Ending}
use Rattle.hv_history.specs.declared.state.Ending.TheVariants as ending
use Rattle.hv_history.specs.declared.state.Table.{Table}
use Rattle.hv_history.specs.declared.state.Transaction.{Transaction}
use Rattle.hv_history.specs.State.{State, Job, numbered, nothing_yet, state_of}
use Rattle.hv_history.specs.Legal.{profile, load, AllFit}
use Rattle.hv_history.specs.Jobs.{Events, inserts, deletes, events_if, events_by, events_at, events_from, is_touch_of, ids_of, is_job_of, jobs_in, events_in}
use Rattle.hv_stands.proofs.Fitting.{load-within}
use Rattle.hv_stands.specs.Sound.{HasFewOwners}
use Rattle.hv_jobs.specs.Covers.{covers}
use Rattle.hv_jobs.specs.Covered.{own, wide, base, has_within, covered_if, own_covered, range_covered, published_covered, made_covered}
use Rattle.hv_law_jobs.specs.Sound.{IsSoundJob}
use Rattle.hv_law_jobs.proofs.OrderLemmas.{numbered-all, all-append, all-more, all-numbers, all-filter}
use Rattle.hv_law_made.specs.Named.{HasNamedRange}
use Rattle.hv_law_made.specs.Entries.{IsSoundBook}
use Rattle.hv_law_made.proofs.BookLemmas.{books-are-sound}
use Rattle.hv_law_made.proofs.NameBounds.{named-range}
use Rattle.hv_job_acts.specs.Covering.{AreNamesOf}

-- ---- write ids

abbrev IsAmong : ℕ → ℕ → Events → Type 0
IsAmong low high events = (low ≤ events.write) × (events.write < high)

if-among : (write low high : ℕ) → low ≤ write → write < high → (o : Option Touch) → AllByRecursion (IsAmong low high) (events_if write o)
if-among write low high least most None = tt
if-among write low high least most (Some touch) = ((least, most), tt)

by-among : (table : ℕ) (partition : List ℕ) (write low high : ℕ) → low ≤ write → write < high → (o : Option Ending)
    → AllByRecursion (IsAmong low high) (events_by table partition write o)
by-among table partition write low high least most None = tt
by-among table partition write low high least most (Some (ending.Committed place wrote)) =
    if-among write low high least most (find (is_touch_of table partition) wrote)
by-among table partition write low high least most (Some (ending.Aborted place cause)) = tt
by-among table partition write low high least most (Some (ending.Made place number)) = tt
by-among table partition write low high least most (Some (ending.Dropped place number)) = tt

at-among : (table : ℕ) (partition : List ℕ) (write low high : ℕ) → low ≤ write → write < high → (o : Option Transaction)
    → AllByRecursion (IsAmong low high) (events_at table partition write o)
at-among table partition write low high least most None = tt
at-among table partition write low high least most (Some t) = by-among table partition write low high least most t.ending

from-among : (ts : List Transaction) (table : ℕ) (partition : List ℕ) (write low high : ℕ) (owners : List ℕ) → low ≤ write → write + length owners ≤ high
    → AllByRecursion (IsAmong low high) (events_from ts table partition write owners)
from-among ts table partition write low high [] least most = tt
from-among ts table partition write low high (txn ∷ owners) least most =
    all-append (IsAmong low high) (events_at table partition write (numbered ts txn)) (events_from ts table partition (write + 1) owners)
    (at-among table partition write low high least (omega (arith, most)) (numbered ts txn))
    (from-among ts table partition (write + 1) low high owners (omega (arith, least)) (omega (arith, most)))

-- ---- names

if-named : (j : Job) (made : Bool) (name : DirName) → IsPlain name → AllByRecursion IsPlain (covered_if j made name)
if-named j made name plain = by (made && covers j name)
  where
    by : (b : Bool) → AllByRecursion IsPlain (if b then name ∷ [] else [])
    by true = (plain, tt)
    by false = tt

flat-named : {A : Type 0} (P : A → Type 0) (f : A → List DirName) → ((x : A) → P x → AllByRecursion IsPlain (f x)) → (xs : List A) → AllByRecursion P xs
    → AllByRecursion IsPlain (flat_map f xs)
flat-named P f each [] all = tt
flat-named P f each (x ∷ xs) all = all-append IsPlain (f x) (flat_map f xs) (each x all.0) (flat-named P f each xs all.1)

own-named : (j : Job) (events : Events) → IsAmong 1 write_end events → AllByRecursion IsPlain (own_covered j events)
own-named j events among =
    all-append IsPlain (covered_if j (inserts events) (own false events.write)) (covered_if j (deletes events) (own true events.write))
    (if-named j (inserts events) (own false events.write) (among, omega arith)) (if-named j (deletes events) (own true events.write) (among, omega arith))

range-named : (ids : List Events) (j : Job) (q : JobKind) (low high : ℕ) → IsRange low high → AllByRecursion IsPlain (range_covered ids j q low high)
range-named ids j kind.Minor low high is =
    all-append IsPlain (covered_if j (has_within false low high ids) (wide false low high)) (covered_if j (has_within true low high ids) (wide true low high))
    (if-named j (has_within false low high ids) (wide false low high) is) (if-named j (has_within true low high ids) (wide true low high) is)
range-named ids j kind.Major low high is =
    let first = is.0 in
    let order = is.1 in
    if-named j true (base high) (omega (arith, first, order), is.2)

published-named : (ids : List Events) (j : Job) (q : JobKind) (o : Option (ℕ × ℕ × ℕ)) → HasNamedRange o → AllByRecursion IsPlain (published_covered ids j q o)
published-named ids j q None is = tt
published-named ids j q (Some range) is = range-named ids j q range.0 range.1 is

-- ---- of a book

module _ (state : State) (few : state.entries < write_end) (sound : IsSoundBook state) (j : Job) where
  events-among : AllByRecursion (IsAmong 1 write_end) (events_in state j.table j.partition)
  events-among = by (numbered state.tables j.table) refl
    where
      by : (o : Option Table) → numbered state.tables j.table ≡ o
          → AllByRecursion (IsAmong 1 write_end) (events_from state.transactions j.table j.partition 1 (ids_of o))
      by None is = tt
      by (Some t) is =
          let most = numbered-all (HasFewOwners state.entries) state.tables j.table t sound.base.tables.few is in
          from-among state.transactions j.table j.partition 1 1 write_end t.owners (omega arith) (omega (arith, most, few))

  abbrev HasRangeNamed : Job → Type 0
  HasRangeNamed other = HasNamedRange other.published

  pub names-plain : AreNamesOf state j
  names-plain =
      let ids = events_in state j.table j.partition in
      let jobs = jobs_in state j.table j.partition in
      all-append IsPlain (flat_map (own_covered j) ids) (flat_map (made_covered ids j) jobs)
      (flat-named (IsAmong 1 write_end) (own_covered j) (own-named j) ids events-among)
      (flat-named HasRangeNamed (made_covered ids j) (λ other is. published-named ids j other.kind other.published is) jobs
      (all-filter HasRangeNamed (is_job_of j.table j.partition) state.jobs
      (all-more HasRangeNamed (λ (other : Job). is_job_of j.table j.partition other ≡ true → HasRangeNamed other) (λ other is here. is) state.jobs
      (all-numbers HasRangeNamed state.jobs
      (λ n other at. named-range state few sound other other.published (numbered-all (IsSoundJob state) state.jobs n other sound.jobs.each at).range)))))

pub book-named : (book : List Entry) (j : Job) → AllFit profile nothing_yet book → AreNamesOf (state_of book) j
book-named book j fit =
    let none : load nothing_yet ≤ profile.entries = omega arith in
    let small : load (state_of book) ≤ profile.entries = load-within profile book nothing_yet fit none in
    names-plain (state_of book) (omega (arith, small)) (books-are-sound profile book fit) j
