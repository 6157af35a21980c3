-- What a job lists comes once: write ids rise, and of two jobs of a partition and kind the later one reaches further.
use Rattle.std.proofs.Common.{refl, ◌≡◌, ◌⊎◌, inl, inr, ℕ, ◌+◌, ◌<◌, ◌≤◌, ◌&&◌, Bool, true, false, Option, Some, None, List, [], ◌∷◌, ◌++◌, filter, sym, ap, ◌∙◌, subst, arith, true≢false}
use Rattle.std.specs.Prelude.{if◌then◌else◌, find}
use Rattle.std.specs.List.{flat_map, AllByRecursion}
use Rattle.std.proofs.lemmas.List.Concat.{flat_map-append}
use Rattle.hv_base.specs.declared.ids.Touch.{Touch}
use Rattle.hv_dirs.specs.declared.names.DirName.{DirName}
use Rattle.hv_dirs.specs.declared.names.DirName.TheVariants as dir
use Rattle.hv_history.specs.declared.entry.JobKind.{JobKind}
use Rattle.hv_history.specs.declared.entry.JobKind.TheVariants as kind
use Rattle.hv_history.specs.declared.state.Ending.{Ending}
use Rattle.hv_history.specs.declared.state.Ending.TheVariants as ending
use Rattle.hv_history.specs.declared.state.Transaction.{Transaction}
use Rattle.hv_history.specs.State.{Job, numbered}
use Rattle.hv_history.specs.Jobs.{Events, inserts, deletes, is_job_of, is_kind, jobs_in, is_touch_of, events_of, events_if, events_by, events_at, events_from, ids_of, events_in}
use Rattle.hv_jobs.specs.Covers.{covers}
use Rattle.hv_jobs.specs.Covered.{own, wide, base, has_within, covered_if, own_covered, published_covered, made_covered}
use Rattle.hv_law_jobs.specs.Sound.{GoFurther, IsFollowedIn, AreInOrder}
use Rattle.hv_law_jobs.proofs.OrderLemmas.{job-of-is, job-of-from}
use Rattle.hv_law_visible.specs.Members.{IsIn}
use Rattle.hv_law_visible.proofs.MemberLemmas.{in-either, from-flat, from-filter}
use Rattle.hv_law_visible.proofs.SortingLemmas.{all-from}
use Rattle.hv_law_visible.proofs.TakenLemmas.{all-in}
use Rattle.hv_law_whole.specs.Covered.{AreDistinct, ListedOnce}

-- ---- lists of names

all-append : (P : DirName → Type 0) (xs ys : List DirName) → AllByRecursion P xs → AllByRecursion P ys → AllByRecursion P (xs ++ ys)
all-append P [] ys first rest = rest
all-append P (x ∷ xs) ys first rest = (first.0, all-append P xs ys first.1 rest)

distinct-append : (xs ys : List DirName) → AreDistinct xs → AreDistinct ys → ((x y : DirName) → IsIn x xs → IsIn y ys → y ≡ x → ⊥) → AreDistinct (xs ++ ys)
distinct-append [] ys first rest apart = rest
distinct-append (x ∷ xs) ys first rest apart = (
  all-append (λ (other : DirName). other ≡ x → ⊥) xs ys first.0 (all-from (λ (other : DirName). other ≡ x → ⊥) ys (λ y at. apart x y (inl refl) at)),
  distinct-append xs ys first.1 rest (λ z y at_z at_y. apart z y (inr at_z) at_y),
)

-- ---- one that is listed or not

listed-is : (job : Job) (b : Bool) (name x : DirName) → IsIn x (if b then name ∷ [] else []) → name ≡ x
listed-is job true name x (inl same) = same
listed-is job true name x (inr none) = absurd none
listed-is job false name x at = absurd at

if-distinct : (b : Bool) (name : DirName) → AreDistinct (if b then name ∷ [] else [])
if-distinct true name = (tt, tt)
if-distinct false name = tt

two-distinct : (job : Job) (a b : Bool) (first second : DirName) → (second ≡ first → ⊥) → AreDistinct (covered_if job a first ++ covered_if job b second)
two-distinct job a b first second apart =
    distinct-append (covered_if job a first) (covered_if job b second) (if-distinct (a && covers job first) first) (if-distinct (b && covers job second) second)
    (λ x y at_x at_y same.
    apart (listed-is job (b && covers job second) second y at_y ∙ same ∙ sym (listed-is job (a && covers job first) first x at_x)))

-- ---- own deltas

-- what tells two names apart: whether it is an own one, its kind, and its end
abbrev is_own : DirName → Bool
is_own (dir.Base high) = false
is_own (dir.Own deleted write statement) = true
is_own (dir.Wide deleted low high) = false
is_own (dir.Staged job name) = false

abbrev is_base : DirName → Bool
is_base (dir.Base high) = true
is_base (dir.Own deleted write statement) = false
is_base (dir.Wide deleted low high) = false
is_base (dir.Staged job name) = false

abbrev is_deleted : DirName → Bool
is_deleted (dir.Base high) = false
is_deleted (dir.Own deleted write statement) = deleted
is_deleted (dir.Wide deleted low high) = deleted
is_deleted (dir.Staged job name) = false

abbrev end_of : DirName → ℕ
end_of (dir.Base high) = high.0
end_of (dir.Own deleted write statement) = write.0
end_of (dir.Wide deleted low high) = high.0
end_of (dir.Staged job name) = 0

kinds-apart : (f : Bool → DirName) → ((b : Bool) → is_deleted (f b) ≡ b) → f true ≡ f false → ⊥
kinds-apart f is same = true≢false (sym (is true) ∙ ap is_deleted same ∙ is false)

record IsOwnAt (write : ℕ) (name : DirName) : Type 0 where
  mine : is_own name ≡ true
  end : end_of name ≡ write

own-is : (job : Job) (e : Events) (x : DirName) → IsIn x (own_covered job e) → IsOwnAt e.write x
own-is job e x at = by (in-either x (covered_if job (inserts e) (own false e.write)) (covered_if job (deletes e) (own true e.write)) at)
  where
    moved : (name : DirName) → IsOwnAt e.write name → name ≡ x → IsOwnAt e.write x
    moved name is same = subst (IsOwnAt e.write) same is

    by : IsIn x (covered_if job (inserts e) (own false e.write)) ⊎ IsIn x (covered_if job (deletes e) (own true e.write)) → IsOwnAt e.write x
    by (inl here) = moved (own false e.write) (record { mine = refl; end = refl }) (listed-is job (inserts e && covers job (own false e.write)) (own false e.write) x here)
    by (inr there) = moved (own true e.write) (record { mine = refl; end = refl }) (listed-is job (deletes e && covers job (own true e.write)) (own true e.write) x there)

-- an id has one event at most
abbrev AtMost : ℕ → List Events → Type 0
AtMost write es = (es ≡ []) ⊎ ((e : Events) × (es ≡ e ∷ []) × (e.write ≡ write))

at-most-if : (write : ℕ) (o : Option Touch) → AtMost write (events_if write o)
at-most-if write None = inl refl
at-most-if write (Some touch) = inr (events_of write touch, refl, refl)

at-most-by : (table : ℕ) (partition : List ℕ) (write : ℕ) (o : Option Ending) → AtMost write (events_by table partition write o)
at-most-by table partition write None = inl refl
at-most-by table partition write (Some (ending.Committed place wrote)) = at-most-if write (find (is_touch_of table partition) wrote)
at-most-by table partition write (Some (ending.Aborted place cause)) = inl refl
at-most-by table partition write (Some (ending.Made place made)) = inl refl
at-most-by table partition write (Some (ending.Dropped place dropped)) = inl refl

at-most-one : (table : ℕ) (partition : List ℕ) (write : ℕ) (o : Option Transaction) → AtMost write (events_at table partition write o)
at-most-one table partition write None = inl refl
at-most-one table partition write (Some t) = at-most-by table partition write t.ending

write-as : (write : ℕ) (es : List Events) (e : Events) → AtMost write es → IsIn e es → e.write ≡ write
write-as write es e (inl none) at = absurd (subst (IsIn e) none at)
write-as write es e (inr one) at = by (subst (IsIn e) one.1 at)
  where
    by : IsIn e (one.0 ∷ []) → e.write ≡ write
    by (inl same) = ap (λ (x : Events). x.write) (sym same) ∙ one.2
    by (inr none) = absurd none

module _ (job : Job) where
  abbrev own_names : List Events → List DirName
  own_names es = flat_map (own_covered job) es

  own-at : (write : ℕ) (es : List Events) → AtMost write es → (x : DirName) → IsIn x (own_names es) → IsOwnAt write x
  own-at write es few x at =
      let e = from-flat (own_covered job) x es at in
      subst (λ n. IsOwnAt n x) (write-as write es e.0 few e.1) (own-is job e.0 x e.2)

  one-distinct : (write : ℕ) (es : List Events) → AtMost write es → AreDistinct (own_names es)
  one-distinct write es (inl none) = subst (λ (xs : List Events). AreDistinct (own_names xs)) (sym none) tt
  one-distinct write es (inr one) =
      let e : Events = one.0 in
      subst (λ (xs : List Events). AreDistinct (own_names xs)) (sym one.1)
      (distinct-append (own_covered job e) []
      (two-distinct job (inserts e) (deletes e) (own false e.write) (own true e.write) (kinds-apart (λ (b : Bool). own b e.write) (λ b. refl)))
      tt (λ x y at_x at_y same. at_y))

  module _ (ts : List Transaction) (table : ℕ) (partition : List ℕ) where
    abbrev first_events : ℕ → ℕ → List Events
    first_events first txn = events_at table partition first (numbered ts txn)

    abbrev from_events : ℕ → List ℕ → List Events
    from_events first owners = events_from ts table partition first owners

    -- an own name of one of these ids
    record IsOwnFrom (first : ℕ) (name : DirName) : Type 0 where
      mine : is_own name ≡ true
      least : first ≤ end_of name

    own-from : (first : ℕ) (owners : List ℕ) (x : DirName) → IsIn x (own_names (from_events first owners)) → IsOwnFrom first x
    own-from first [] x at = absurd at
    own-from first (txn ∷ owners) x at =
        by (own-from (first + 1) owners x)
        (in-either x (own_names (first_events first txn)) (own_names (from_events (first + 1) owners))
        (subst (IsIn x) (flat_map-append (own_covered job) (first_events first txn) (from_events (first + 1) owners)) at))
      where
        by : (IsIn x (own_names (from_events (first + 1) owners)) → IsOwnFrom (first + 1) x)
            → IsIn x (own_names (first_events first txn)) ⊎ IsIn x (own_names (from_events (first + 1) owners)) → IsOwnFrom first x
        by rest (inl here) =
            let its = own-at first (first_events first txn) (at-most-one table partition first (numbered ts txn)) x here in
            let end = its.end in
            record { mine = its.mine; least = omega (arith, end) }
        by rest (inr there) =
            let its = rest there in
            let least = its.least in
            record { mine = its.mine; least = omega (arith, least) }

    own-distinct : (first : ℕ) (owners : List ℕ) → AreDistinct (own_names (from_events first owners))
    own-distinct first [] = tt
    own-distinct first (txn ∷ owners) =
        let few = at-most-one table partition first (numbered ts txn) in
        subst AreDistinct (sym (flat_map-append (own_covered job) (first_events first txn) (from_events (first + 1) owners)))
        (distinct-append (own_names (first_events first txn)) (own_names (from_events (first + 1) owners)) (one-distinct first (first_events first txn) few)
        (own-distinct (first + 1) owners)
        (λ x y at_x at_y same.
        let end = (own-at first (first_events first txn) few x at_x).end in
        let least = (own-from (first + 1) owners y at_y).least in
        let ends : end_of y ≡ end_of x = ap end_of same in
        omega (arith, end, least, ends)))

-- ---- of other jobs

record IsOfJobAt (k : JobKind) (last : ℕ) (name : DirName) : Type 0 where
  other : is_own name ≡ false
  kind_is : is_base name ≡ is_kind kind.Major k
  end : end_of name ≡ last

same-kind : (a b : JobKind) → is_kind kind.Major b ≡ is_kind kind.Major a → is_kind a b ≡ true
same-kind kind.Minor kind.Minor e = refl
same-kind kind.Minor kind.Major e = sym e
same-kind kind.Major kind.Minor e = e
same-kind kind.Major kind.Major e = refl

module _ (ids : List Events) (job : Job) where
  -- it is of a range that was published
  abbrev IsOfRange : JobKind → Option (ℕ × ℕ × ℕ) → DirName → Type 0
  IsOfRange k o x = (range : ℕ × ℕ × ℕ) × (o ≡ Some range) × IsOfJobAt k range.1 x

  of-range : (k : JobKind) (o : Option (ℕ × ℕ × ℕ)) (x : DirName) → IsIn x (published_covered ids job k o) → IsOfRange k o x
  of-range k None x at = absurd at
  of-range kind.Minor (Some range) x at =
      by (in-either x (covered_if job (has_within false range.0 range.1 ids) (wide false range.0 range.1)) (covered_if job (has_within true range.0 range.1 ids) (wide true range.0 range.1)) at)
    where
      moved : (deleted : Bool) → wide deleted range.0 range.1 ≡ x → IsOfRange kind.Minor (Some range) x
      moved deleted same = (range, refl, subst (IsOfJobAt kind.Minor range.1) same (record { other = refl; kind_is = refl; end = refl }))

      by : IsIn x (covered_if job (has_within false range.0 range.1 ids) (wide false range.0 range.1))
          ⊎ IsIn x (covered_if job (has_within true range.0 range.1 ids) (wide true range.0 range.1)) → IsOfRange kind.Minor (Some range) x
      by (inl here) =
          moved false (listed-is job (has_within false range.0 range.1 ids && covers job (wide false range.0 range.1)) (wide false range.0 range.1) x here)
      by (inr there) =
          moved true (listed-is job (has_within true range.0 range.1 ids && covers job (wide true range.0 range.1)) (wide true range.0 range.1) x there)
  of-range kind.Major (Some range) x at = (
    range,
    refl,
    subst (IsOfJobAt kind.Major range.1) (listed-is job (true && covers job (base range.1)) (base range.1) x at) (record { other = refl; kind_is = refl; end = refl }),
  )

  range-distinct : (k : JobKind) (o : Option (ℕ × ℕ × ℕ)) → AreDistinct (published_covered ids job k o)
  range-distinct k None = tt
  range-distinct kind.Minor (Some range) =
      two-distinct job (has_within false range.0 range.1 ids) (has_within true range.0 range.1 ids) (wide false range.0 range.1) (wide true range.0 range.1)
      (kinds-apart (λ (b : Bool). wide b range.0 range.1) (λ b. refl))
  range-distinct kind.Major (Some range) = if-distinct (true && covers job (base range.1)) (base range.1)

  module _ (table : ℕ) (partition : List ℕ) where
    abbrev its_jobs : List Job → List Job
    its_jobs js = filter (is_job_of table partition) js

    -- two of them, an earlier one and a later one
    apart-two : (j k : Job) → IsFollowedIn j k → is_job_of table partition j ≡ true → is_job_of table partition k ≡ true
        → (x y : DirName) → IsOfRange j.kind j.published x → IsOfRange k.kind k.published y → y ≡ x → ⊥
    apart-two j k follows mine its x y of_x of_y same =
        let own_place = job-of-is table partition j mine in
        let place = job-of-is table partition k its in
        let followed = follows (job-of-from j.table j.partition k (place.0 ∙ sym own_place.0) (place.1 ∙ sym own_place.1)) in
        let further : GoFurther j.kind k.kind (Some of_x.0) (Some of_y.0) =
        subst (λ o. GoFurther j.kind k.kind (Some of_x.0) o) of_y.1 (subst (λ o. GoFurther j.kind k.kind o k.published) of_x.1 followed.further) in
        let beyond : of_x.0.1 < of_y.0.1 = further.beyond (same-kind j.kind k.kind (sym of_y.2.kind_is ∙ ap is_base same ∙ of_x.2.kind_is)) in
        let ends : of_y.0.1 ≡ of_x.0.1 = sym of_y.2.end ∙ ap end_of same ∙ of_x.2.end in
        omega (arith, beyond, ends)

    jobs-distinct : (js : List Job) → AreInOrder js → AreDistinct (flat_map (made_covered ids job) (its_jobs js))
    jobs-distinct [] order = tt
    jobs-distinct (j ∷ js) order = by (jobs-distinct js order.1) (is_job_of table partition j) refl
      where
        apart : is_job_of table partition j ≡ true → (x y : DirName) → IsIn x (made_covered ids job j) → IsIn y (flat_map (made_covered ids job) (its_jobs js)) → y ≡ x → ⊥
        apart mine x y at_x at_y same =
            let k = from-flat (made_covered ids job) y (its_jobs js) at_y in
            let its = from-filter (is_job_of table partition) k.0 js k.1 in
            apart-two j k.0 (all-in (IsFollowedIn j) js k.0 order.0 its.0) mine its.1 x y
            (of-range j.kind j.published x at_x) (of-range k.0.kind k.0.published y k.2) same

        by : AreDistinct (flat_map (made_covered ids job) (its_jobs js)) → (b : Bool) → is_job_of table partition j ≡ b
            → AreDistinct (flat_map (made_covered ids job) (if b then j ∷ its_jobs js else its_jobs js))
        by rest true mine =
            distinct-append (made_covered ids job j) (flat_map (made_covered ids job) (its_jobs js)) (range-distinct j.kind j.published) rest (apart mine)
        by rest false mine = rest

pub listed-once : ListedOnce
listed-once state job sound =
    let ids = events_in state job.table job.partition in
    let owners = ids_of (numbered state.tables job.table) in
    distinct-append (flat_map (own_covered job) ids) (flat_map (made_covered ids job) (jobs_in state job.table job.partition))
    (own-distinct job state.transactions job.table job.partition 1 owners)
    (jobs-distinct ids job job.table job.partition state.jobs sound.order)
    (λ x y at_x at_y same.
    let mine = (own-from job state.transactions job.table job.partition 1 owners x at_x).mine in
    let k = from-flat (made_covered ids job) y (jobs_in state job.table job.partition) at_y in
    let its = of-range ids job k.0.kind k.0.published y k.2 in
    true≢false (sym mine ∙ ap is_own (sym same) ∙ its.2.other))
