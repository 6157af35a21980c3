-- Each directory that the book makes and a job covers is one of those that it lists: a commit that wrote in the partition says it, with what
-- it wrote.
use Rattle.std.proofs.Common.{refl, ◌≡◌, inl, inr, ℕ, zero, suc, ◌+◌, ◌-◌, ◌<◌, ◌≤◌, ◌==◌, ◌&&◌, nat_eq, nat_le, Bool, true, false, Option, Some, None, List, [], ◌∷◌, ◌++◌, filter, sym, ap, ◌∙◌, subst, arith, eq-eqb, eqb-true, leb-true, le-leb}
use Rattle.std.specs.Prelude.{if◌then◌else◌, find, nat_lt}
use Rattle.std.specs.declared.cmp.Ordering.TheVariants.{Less, Equal}
use Rattle.std.specs.Ordering.{nat_cmp, ordering_then}
use Rattle.std.specs.Cmp.{IsTotalOrder, on_total, then_total, nat_cmp_total}
use Rattle.std.specs.Cmp.Lexicographic.{slice_cmp, pointwise, nat_list_cmp_total}
use Rattle.std.specs.List.{slice_get, flat_map, AllByRecursion}
use Rattle.std.proofs.lemmas.Bool.{and_parts, and_from, lt-ltb}
use Rattle.hv_base.specs.declared.ids.Touch.{Touch}
use Rattle.hv_dirs.specs.declared.names.DirName.{DirName}
use Rattle.hv_dirs.specs.declared.names.DirName.TheVariants as dir
use Rattle.hv_dirs.specs.Choice.{Own, Wide}
use Rattle.hv_history.specs.declared.entry.JobKind.{JobKind}
use Rattle.hv_history.specs.declared.entry.JobKind.TheVariants as kind
use Rattle.hv_history.specs.declared.state.Table.{Table}
use Rattle.hv_history.specs.declared.state.Transaction.{Transaction}
use Rattle.hv_history.specs.declared.state.Written.{Written}
use Rattle.hv_history.specs.State.{State, Job, numbered, state_of}
use Rattle.hv_history.specs.Legal.{profile, touch_cmp, Rise}
use Rattle.hv_history.specs.Jobs.{Events, inserts, deletes, is_between, is_job_of, jobs_in, is_touch_of, events_of, events_if, events_by, events_at, events_from, ids_of, events_in}
use Rattle.hv_law_directories.specs.hv_stands.proofs.FileRecords.{tied}
use Rattle.hv_law_directories.specs.hv_stands.specs.Sound.{IsSound}
use Rattle.hv_jobs.specs.Covers.{names_by, job_names, covers}
use Rattle.hv_jobs.specs.Covered.{own, wide, base, changes, has_within, covered_if, own_covered, published_covered, made_covered, covered_names}
use Rattle.hv_law_jobs.specs.Sound.{HasSoundRange, IsSoundJob}
use Rattle.hv_law_made.specs.Made.{has_written, in_partition, has_events, is_made, write_names, names_in, made_names}
use Rattle.hv_law_made.proofs.BookLemmas.{books-are-sound}
use Rattle.hv_law_made.proofs.NamedLemmas.{same-text, text-same}
use Rattle.hv_law_visible.specs.Members.{IsIn}
use Rattle.hv_law_visible.proofs.TakenLemmas.{all-in}
use Rattle.hv_law_visible.proofs.MemberLemmas.{in-left, in-right, in-either, in-flat, from-flat, from-filter, any-in, in-any}
use Rattle.hv_law_whole.specs.Covered.{CoveredAreListed}
use Rattle.hv_law_whole.proofs.OnceLemmas.{IsTouched, books-touched}
use Rattle.hv_law_whole.proofs.RangeLemmas.{owner}

-- ---- of touches that rise at most one is of a partition

touch-total : IsTotalOrder touch_cmp
touch-total = then_total (on_total (λ (touch : Touch). touch.table.0) nat_cmp_total) (on_total (λ (touch : Touch). touch.partition) nat_list_cmp_total)

rise-below : (touch : Touch) (touches : List Touch) → Rise (touch ∷ touches) → (other : Touch) → IsIn other touches → touch_cmp touch other ≡ Less
rise-below touch [] up other at = absurd at
rise-below touch (next ∷ touches) up other (inl same) = subst (λ (t : Touch). touch_cmp touch t ≡ Less) same up.0
rise-below touch (next ∷ touches) up other (inr at) = touch-total.trans touch next other up.0 (rise-below next touches up.1 other at)

rise-behind : (touch : Touch) (touches : List Touch) → Rise (touch ∷ touches) → Rise touches
rise-behind touch [] up = tt
rise-behind touch (next ∷ touches) up = up.1

one-place : (a b : Touch) → a.table.0 ≡ b.table.0 → a.partition ≡ b.partition → touch_cmp a b ≡ Less → ⊥
one-place a b table partition less =
    let same : touch_cmp a b ≡ touch_cmp b b =
    λ i. ordering_then (nat_cmp (table i) b.table.0) (slice_cmp nat_cmp (partition i) b.partition)
    in
    let never : Less ≡ Equal = sym less ∙ same ∙ tied (touch_cmp b b) (touch-total.antisymm b b) in
    cc

-- a touch of that table and partition
abbrev IsOfPlace : ℕ → List ℕ → Touch → Type 0
IsOfPlace table partition touch = (touch.table.0 ≡ table) × (touch.partition ≡ partition)

place-of : (table : ℕ) (partition : List ℕ) (touch : Touch) → is_touch_of table partition touch ≡ true → IsOfPlace table partition touch
place-of table partition touch e =
    let both = and_parts (touch.table.0 == table) (pointwise nat_eq touch.partition partition) e in
    (eqb-true touch.table.0 table both.0, same-text touch.partition partition both.1)

of-place : (table : ℕ) (partition : List ℕ) (touch : Touch) → IsOfPlace table partition touch → is_touch_of table partition touch ≡ true
of-place table partition touch is =
    and_from (touch.table.0 == table) (pointwise nat_eq touch.partition partition) (eq-eqb touch.table.0 table is.0) (text-same touch.partition partition is.1)

found-touch : (table : ℕ) (partition : List ℕ) (touches : List Touch) (touch : Touch) → Rise touches → IsIn touch touches → IsOfPlace table partition touch
    → find (is_touch_of table partition) touches ≡ Some touch
found-touch table partition [] touch up at is = absurd at
found-touch table partition (next ∷ touches) touch up (inl same) is =
    ap (λ b. if b then Some next else find (is_touch_of table partition) touches)
    (ap (is_touch_of table partition) same ∙ of-place table partition touch is)
    ∙ ap Some same
found-touch table partition (next ∷ touches) touch up (inr at) is =
    by (found-touch table partition touches touch (rise-behind next touches up) at is) (is_touch_of table partition next) refl
  where
    by : find (is_touch_of table partition) touches ≡ Some touch → (b : Bool) → is_touch_of table partition next ≡ b
        → (if b then Some next else find (is_touch_of table partition) touches) ≡ Some touch
    by rest true mine =
        let its = place-of table partition next mine in
        absurd (one-place next touch (its.0 ∙ sym is.0) (its.1 ∙ sym is.1) (rise-below next touches up touch at))
    by rest false mine = rest

-- ---- the event of a write in a partition

event-from : (ts : List Transaction) (table : ℕ) (partition : List ℕ) (write first : ℕ) (owners : List ℕ) (k txn : ℕ) (e : Events) → write ≡ first + k
    → slice_get owners k ≡ Some txn → IsIn e (events_at table partition write (numbered ts txn)) → IsIn e (events_from ts table partition first owners)
event-from ts table partition write first [] k txn e number at among = cc
event-from ts table partition write first (owner_of ∷ owners) zero txn e number at among =
    let same : owner_of ≡ txn = cc in
    let here : write ≡ first = omega (arith, number) in
    in-left e (events_at table partition first (numbered ts owner_of)) (events_from ts table partition (first + 1) owners)
    (subst (λ n. IsIn e (events_at table partition n (numbered ts owner_of))) here
    (subst (λ n. IsIn e (events_at table partition write (numbered ts n))) (sym same) among))
event-from ts table partition write first (owner_of ∷ owners) (suc k) txn e number at among =
    let next : write ≡ first + 1 + k = omega (arith, number) in
    in-right e (events_at table partition first (numbered ts owner_of)) (events_from ts table partition (first + 1) owners)
    (event-from ts table partition write (first + 1) owners k txn e next at among)

module _ (s : State) (base_sound : IsSound s) (number : ℕ) (table : Table) (here : numbered s.tables number ≡ Some table) (partition : List ℕ)
    (touched : (w : Written) → IsIn w table.writes → IsTouched s number w) where
  event-among : (write txn : ℕ) (e : Events) → numbered table.owners write ≡ Some txn → IsIn e (events_at number partition write (numbered s.transactions txn))
      → IsIn e (events_in s number partition)
  event-among zero txn e at among = cc
  event-among (suc k) txn e at among =
      subst (λ o. IsIn e (events_from s.transactions number partition 1 (ids_of o))) (sym here)
      (event-from s.transactions number partition (suc k) 1 table.owners k txn e (omega arith) at among)

  touch-event : (w : Written) (is : IsTouched s number w) (touch : Touch) → IsIn touch is.those → IsOfPlace number partition touch
      → IsIn (events_of w.write touch) (events_in s number partition)
  touch-event w is touch at place =
      let its : events_at number partition w.write (numbered s.transactions is.txn) ≡ events_of w.write touch ∷ [] =
      ap (events_at number partition w.write) is.here ∙ ap (events_by number partition w.write) is.ending
      ∙ ap (events_if w.write) (found-touch number partition is.those touch is.rise at place) in
      event-among w.write is.txn (events_of w.write touch) (owner s number table here partition base_sound w is)
      (subst (IsIn (events_of w.write touch)) (sym its) (inl refl))

  -- of a write that inserted rows there, or deleted some
  abbrev HasEvent : Bool → Written → Type 0
  HasEvent deleted w = (e : Events) × IsIn e (events_in s number partition) × (e.write ≡ w.write) × (changes deleted e ≡ true)

  changed-event : (deleted : Bool) (w : Written) → IsIn w table.writes → has_events deleted partition w ≡ true → HasEvent deleted w
  changed-event false w among some =
      let row = in-any (in_partition partition) w.inserts some in
      let is = touched w among in
      let touch = is.puts row.0 row.1 in (
        events_of w.write touch.0,
        touch-event w is touch.0 touch.1 (touch.2, touch.3 ∙ same-text row.0.partition partition row.2),
        refl,
        lt-ltb 0 touch.0.inserted touch.4,
      )
  changed-event true w among some =
      let row = in-any (in_partition partition) w.deletes some in
      let is = touched w among in
      let touch = is.says row.0 row.1 in (
        events_of w.write touch.0,
        touch-event w is touch.0 touch.1 (touch.2, touch.3 ∙ same-text row.0.partition partition row.2),
        refl,
        lt-ltb 0 touch.0.deleted touch.4,
      )

-- ---- what is listed

listed-if : (job : Job) (made : Bool) (name : DirName) → made ≡ true → covers job name ≡ true → IsIn name (covered_if job made name)
listed-if job made name is covered = subst (λ b. IsIn name (if b then name ∷ [] else [])) (sym (and_from made (covers job name) is covered)) (inl refl)

own-listed : (job : Job) (deleted : Bool) (e : Events) → changes deleted e ≡ true → covers job (own deleted e.write) ≡ true → IsIn (own deleted e.write) (own_covered job e)
own-listed job false e is covered =
    in-left (own false e.write) (covered_if job (inserts e) (own false e.write)) (covered_if job (deletes e) (own true e.write))
    (listed-if job (inserts e) (own false e.write) is covered)
own-listed job true e is covered =
    in-right (own true e.write) (covered_if job (inserts e) (own false e.write)) (covered_if job (deletes e) (own true e.write))
    (listed-if job (deletes e) (own true e.write) is covered)

-- the range of a published job begins at 1 or above
first-by : (s : State) (job : Job) (o : Option (ℕ × ℕ × ℕ)) → HasSoundRange s job o → (range : ℕ × ℕ × ℕ) → o ≡ Some range → 1 ≤ range.0
first-by s job None sound range e = cc
first-by s job (Some other) sound range e =
    let same : other ≡ range = cc in
    subst (λ (r : ℕ × ℕ × ℕ). 1 ≤ r.0) same sound.first

module _ (s : State) (base_sound : IsSound s) (job : Job) (table : Table) (here : numbered s.tables job.table ≡ Some table)
    (touched : (w : Written) → IsIn w table.writes → IsTouched s job.table w) where
  abbrev ids : List Events
  ids = events_in s job.table job.partition

  event-of : (deleted : Bool) (w : Written) → IsIn w table.writes → has_events deleted job.partition w ≡ true
      → (e : Events) × IsIn e ids × (e.write ≡ w.write) × (changes deleted e ≡ true)
  event-of deleted w among some = changed-event s base_sound job.table table here job.partition touched deleted w among some

  -- an own delta
  own-by : (deleted : Bool) (w : Written) → IsIn w table.writes → is_made table.writes job.partition (dir.Own deleted (record { 0 = w.write }) w.statement) ≡ true
      → covers job (dir.Own deleted (record { 0 = w.write }) w.statement) ≡ true
      → IsIn (dir.Own deleted (record { 0 = w.write }) w.statement) (flat_map (own_covered job) ids)
  own-by deleted w among made covered =
      let v = in-any (has_events deleted job.partition) (filter (has_written (Own w.write w.statement)) table.writes) made in
      let its = from-filter (has_written (Own w.write w.statement)) v.0 table.writes v.1 in
      let e = event-of deleted v.0 its.0 v.2 in
      let write_is : e.0.write ≡ w.write = e.2 ∙ eqb-true v.0.write w.write (and_parts (v.0.write == w.write) (v.0.statement == w.statement) its.1).0 in
      let name_is : own deleted e.0.write ≡ dir.Own deleted (record { 0 = w.write }) w.statement =
      λ i. dir.Own deleted (record { 0 = write_is i }) (sym (touched w among).first i)
      in
      subst (λ (name : DirName). IsIn name (flat_map (own_covered job) ids)) name_is
      (in-flat (own_covered job) e.0 (own deleted e.0.write) ids e.1
      (own-listed job deleted e.0 e.3 (subst (λ (name : DirName). covers job name ≡ true) (sym name_is) covered)))

  -- a wide delta
  pub within-range : (deleted : Bool) (low high : ℕ) → 1 ≤ low → is_made table.writes job.partition (wide deleted low high) ≡ true → has_within deleted low high ids ≡ true
  within-range deleted low high first made =
      let v = in-any (has_events deleted job.partition) (filter (has_written (Wide low high)) table.writes) made in
      let its = from-filter (has_written (Wide low high)) v.0 table.writes v.1 in
      let range = and_parts (nat_le low v.0.write) (nat_le v.0.write high) its.1 in
      let least : low ≤ v.0.write = leb-true low v.0.write range.0 in
      let up_to : v.0.write ≤ high = leb-true v.0.write high range.1 in
      let e = event-of deleted v.0 its.0 v.2 in
      let write_is = e.2 in
      any-in (λ (events : Events). is_between (low - 1) high events && changes deleted events) e.0 ids e.1
      (and_from (is_between (low - 1) high e.0) (changes deleted e.0)
      (and_from (nat_lt (low - 1) e.0.write) (nat_le e.0.write high) (lt-ltb (low - 1) e.0.write (omega (arith, write_is, least, first)))
      (le-leb e.0.write high (omega (arith, write_is, up_to)))) e.3)

  wide-by : (name : DirName) (k : JobKind) (o : Option (ℕ × ℕ × ℕ)) (sound_range : (range : ℕ × ℕ × ℕ) → o ≡ Some range → 1 ≤ range.0)
      → IsIn name (names_by k o) → is_made table.writes job.partition name ≡ true → covers job name ≡ true → IsIn name (published_covered ids job k o)
  wide-by name k None first at made covered = absurd at
  wide-by name kind.Minor (Some range) first (inl same) made covered =
      in-left name (covered_if job (has_within false range.0 range.1 ids) (wide false range.0 range.1)) (covered_if job (has_within true range.0 range.1 ids) (wide true range.0 range.1))
      (subst (λ (n : DirName). IsIn n (covered_if job (has_within false range.0 range.1 ids) (wide false range.0 range.1))) same
      (listed-if job (has_within false range.0 range.1 ids) (wide false range.0 range.1)
      (within-range false range.0 range.1 (first range refl) (subst (λ (n : DirName). is_made table.writes job.partition n ≡ true) (sym same) made))
      (subst (λ (n : DirName). covers job n ≡ true) (sym same) covered)))
  wide-by name kind.Minor (Some range) first (inr (inl same)) made covered =
      in-right name (covered_if job (has_within false range.0 range.1 ids) (wide false range.0 range.1)) (covered_if job (has_within true range.0 range.1 ids) (wide true range.0 range.1))
      (subst (λ (n : DirName). IsIn n (covered_if job (has_within true range.0 range.1 ids) (wide true range.0 range.1))) same
      (listed-if job (has_within true range.0 range.1 ids) (wide true range.0 range.1)
      (within-range true range.0 range.1 (first range refl) (subst (λ (n : DirName). is_made table.writes job.partition n ≡ true) (sym same) made))
      (subst (λ (n : DirName). covers job n ≡ true) (sym same) covered)))
  wide-by name kind.Minor (Some range) first (inr (inr at)) made covered = absurd at
  wide-by name kind.Major (Some range) first (inl same) made covered =
      subst (λ (n : DirName). IsIn n (covered_if job true (base range.1))) same
      (listed-if job true (base range.1) refl (subst (λ (n : DirName). covers job n ≡ true) (sym same) covered))
  wide-by name kind.Major (Some range) first (inr at) made covered = absurd at

  own-case : (name : DirName) → IsIn name (flat_map write_names table.writes) → is_made table.writes job.partition name ≡ true → covers job name ≡ true
      → IsIn name (flat_map (own_covered job) ids)
  own-case name at made covered = let w = from-flat write_names name table.writes at in by w.0 w.1 w.2
    where
      as_made : (n : DirName) → n ≡ name → is_made table.writes job.partition n ≡ true
      as_made n same = subst (λ (m : DirName). is_made table.writes job.partition m ≡ true) (sym same) made

      as_covered : (n : DirName) → n ≡ name → covers job n ≡ true
      as_covered n same = subst (λ (m : DirName). covers job m ≡ true) (sym same) covered

      by : (w : Written) → IsIn w table.writes → IsIn name (write_names w) → IsIn name (flat_map (own_covered job) ids)
      by w among (inl same) =
          let n : DirName = dir.Own false (record { 0 = w.write }) w.statement in
          subst (λ (m : DirName). IsIn m (flat_map (own_covered job) ids)) same (own-by false w among (as_made n same) (as_covered n same))
      by w among (inr (inl same)) =
          let n : DirName = dir.Own true (record { 0 = w.write }) w.statement in
          subst (λ (m : DirName). IsIn m (flat_map (own_covered job) ids)) same (own-by true w among (as_made n same) (as_covered n same))
      by w among (inr (inr none)) = absurd none

  abbrev others : List Job
  others = jobs_in s job.table job.partition

  job-case : AllByRecursion (IsSoundJob s) s.jobs → (name : DirName) → IsIn name (flat_map job_names others) → is_made table.writes job.partition name ≡ true
      → covers job name ≡ true → IsIn name (flat_map (made_covered ids job) others)
  job-case each name at made covered =
      let other = from-flat job_names name others at in
      let kept = from-filter (is_job_of job.table job.partition) other.0 s.jobs other.1 in
      let its = all-in (IsSoundJob s) s.jobs other.0 each kept.0 in
      in-flat (made_covered ids job) other.0 name others other.1
      (wide-by name other.0.kind other.0.published (first-by s other.0 other.0.published its.range) other.2 made covered)

  listed : AllByRecursion (IsSoundJob s) s.jobs → (name : DirName) → IsIn name (made_names table.writes others job.partition) → covers job name ≡ true
      → IsIn name (covered_names s job)
  listed each name at covered =
      let its = from-filter (is_made table.writes job.partition) name (names_in table.writes others) at in
      elim (in-either name (flat_map write_names table.writes) (flat_map job_names others) its.0) [
        | inl of_write ↦ in-left name (flat_map (own_covered job) ids) (flat_map (made_covered ids job) others) (own-case name of_write its.1 covered)
        | inr of_job ↦ in-right name (flat_map (own_covered job) ids) (flat_map (made_covered ids job) others) (job-case each name of_job its.1 covered)
      ]

pub covered-are-listed : CoveredAreListed
covered-are-listed entries number job table name fit truth is here at covered =
    let sound = books-are-sound profile entries fit in
    listed (state_of entries) sound.base job table here (λ w among. books-touched profile entries fit truth job.table table w here among) sound.jobs.each name at covered
