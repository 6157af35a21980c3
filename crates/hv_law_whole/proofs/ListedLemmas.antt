-- What a job lists for the cleaner is made, and the job covers it: a commit that says rows of a partition wrote them there.
use Rattle.std.proofs.Common.{refl, ◌≡◌, ◌⊎◌, inl, inr, ℕ, suc, ◌+◌, ◌-◌, ◌<◌, ◌≤◌, ◌==◌, ◌&&◌, nat_eq, nat_le, Bool, true, false, Option, Some, None, List, [], ◌∷◌, ◌++◌, filter, option_map, sym, ap, ◌∙◌, subst, arith, eq-eqb, eqb-true, le-leb, leb-true, ltb-true}
use Rattle.std.specs.Prelude.{if◌then◌else◌, find, nat_lt}
use Rattle.std.specs.Cmp.Lexicographic.{pointwise}
use Rattle.std.specs.List.{slice_get, flat_map, list_any}
use Rattle.std.proofs.lemmas.Bool.{and_parts, and_from}
use Rattle.hv_base.specs.declared.ids.Touch.{Touch}
use Rattle.hv_dirs.specs.declared.names.DirName.{DirName}
use Rattle.hv_dirs.specs.declared.names.DirName.TheVariants as dir
use Rattle.hv_dirs.specs.Choice.{Own, Wide}
use Rattle.hv_logic.specs.declared.effect.Found.{Found}
use Rattle.hv_route.specs.Touching.{touches_of}
use Rattle.hv_history.specs.declared.entry.JobKind.{JobKind}
use Rattle.hv_history.specs.declared.entry.JobKind.TheVariants as kind
use Rattle.hv_history.specs.declared.state.Ending.{Ending}
use Rattle.hv_history.specs.declared.state.Ending.TheVariants.{Committed, Aborted, Made, Dropped}
use Rattle.hv_history.specs.declared.state.Table.{Table}
use Rattle.hv_history.specs.declared.state.Transaction.{Transaction}
use Rattle.hv_history.specs.declared.state.Written.{Written}
use Rattle.hv_history.specs.State.{State, Job, numbered, given_in, written_by, state_of}
use Rattle.hv_history.specs.Legal.{profile}
use Rattle.hv_history.specs.Jobs.{Events, inserts, deletes, is_between, jobs_in, is_touch_of, events_of, events_if, events_by, events_at, events_from, ids_of, events_in}
use Rattle.hv_law_directories.specs.hv_stands.specs.Sound.{given_of, owners_of, given_among, owner_among, IsSound}
use Rattle.hv_law_directories.specs.hv_stands.proofs.Numbers.{one_value, same_one, numbered-map}
use Rattle.hv_jobs.specs.Covers.{range_names, names_by, job_names, covers}
use Rattle.hv_jobs.specs.Covered.{own, wide, base, changes, has_within, covered_if, own_covered, published_covered, made_covered, covered_names}
use Rattle.hv_law_made.specs.Made.{has_written, in_partition, has_events, is_made, write_names, names_in, made_names}
use Rattle.hv_law_made.proofs.BookLemmas.{books-are-sound}
use Rattle.hv_law_made.proofs.NamedLemmas.{same-text, text-same}
use Rattle.hv_law_visible.specs.Members.{IsIn}
use Rattle.hv_law_visible.proofs.MemberLemmas.{in-left, in-right, in-either, in-flat, from-flat, in-filter, any-in, in-any}
use Rattle.hv_law_whole.specs.Covered.{ListedAreCovered}
use Rattle.hv_law_whole.proofs.SaidLemmas.{IsOfWrite, Said, AllSaid, books-said, touch-table, touch-inserted, touch-deleted}

-- ---- the touch of an event

found-is : (p : Touch → Bool) (touches : List Touch) (touch : Touch) → find p touches ≡ Some touch → IsIn touch touches × (p touch ≡ true)
found-is p [] touch e = cc
found-is p (first ∷ touches) touch e = by (found-is p touches touch) (p first) refl e
  where
    by : (find p touches ≡ Some touch → IsIn touch touches × (p touch ≡ true)) → (b : Bool) → p first ≡ b → (if b then Some first else find p touches) ≡ Some touch
        → IsIn touch (first ∷ touches) × (p touch ≡ true)
    by rest true is e = let same : first ≡ touch = one_value first touch e in (inl same, ap p (sym same) ∙ is)
    by rest false is e = let behind = rest e in (inr behind.0, behind.1)

-- it is of a commit that said it
record IsEventOf (table : ℕ) (partition : List ℕ) (write : ℕ) (o : Option Ending) (e : Events) : Type 0 where
  place : ℕ
  wrote : List Touch
  ending : o ≡ Some (Committed place wrote)
  touch : Touch
  among : IsIn touch wrote
  mine : is_touch_of table partition touch ≡ true
  is : events_of write touch ≡ e

event-if : (table : ℕ) (partition : List ℕ) (write place : ℕ) (wrote : List Touch) (o : Option Touch) → find (is_touch_of table partition) wrote ≡ o → (e : Events)
    → IsIn e (events_if write o) → IsEventOf table partition write (Some (Committed place wrote)) e
event-if table partition write place wrote None found e at = absurd at
event-if table partition write place wrote (Some touch) found e (inl same) =
    let its = found-is (is_touch_of table partition) wrote touch found in
    record { place = place; wrote = wrote; ending = refl; touch = touch; among = its.0; mine = its.1; is = same }
event-if table partition write place wrote (Some touch) found e (inr none) = absurd none

event-by : (table : ℕ) (partition : List ℕ) (write : ℕ) (o : Option Ending) (e : Events) → IsIn e (events_by table partition write o) → IsEventOf table partition write o e
event-by table partition write None e at = absurd at
event-by table partition write (Some (Committed place wrote)) e at =
    event-if table partition write place wrote (find (is_touch_of table partition) wrote) refl e at
event-by table partition write (Some (Aborted place cause)) e at = absurd at
event-by table partition write (Some (Made place made)) e at = absurd at
event-by table partition write (Some (Dropped place dropped)) e at = absurd at

-- and of the transaction that has its write id
record IsEventAt (ts : List Transaction) (owners : List ℕ) (first : ℕ) (table : ℕ) (partition : List ℕ) (e : Events) : Type 0 where
  k : ℕ
  txn : ℕ
  owner : slice_get owners k ≡ Some txn
  t : Transaction
  here : numbered ts txn ≡ Some t
  event : IsEventOf table partition (first + k) t.ending e

event-at : (ts : List Transaction) (table : ℕ) (partition : List ℕ) (first txn : ℕ) (owners : List ℕ) (e : Events) (o : Option Transaction) → numbered ts txn ≡ o
    → IsIn e (events_at table partition first o) → IsEventAt ts (txn ∷ owners) first table partition e
event-at ts table partition first txn owners e None here at = absurd at
event-at ts table partition first txn owners e (Some t) here at =
    let same : first ≡ first + 0 = omega arith in
    record {
      k = 0;
      txn = txn;
      owner = refl;
      t = t;
      here = here;
      event = subst (λ n. IsEventOf table partition n t.ending e) same (event-by table partition first t.ending e at);
    }

event-from : (ts : List Transaction) (table : ℕ) (partition : List ℕ) (first : ℕ) (owners : List ℕ) (e : Events) → IsIn e (events_from ts table partition first owners)
    → IsEventAt ts owners first table partition e
event-from ts table partition first [] e at = absurd at
event-from ts table partition first (txn ∷ owners) e at =
    by (event-from ts table partition (first + 1) owners e)
    (in-either e (events_at table partition first (numbered ts txn)) (events_from ts table partition (first + 1) owners) at)
  where
    by : (IsIn e (events_from ts table partition (first + 1) owners) → IsEventAt ts owners (first + 1) table partition e)
        → IsIn e (events_at table partition first (numbered ts txn)) ⊎ IsIn e (events_from ts table partition (first + 1) owners)
        → IsEventAt ts (txn ∷ owners) first table partition e
    by rest (inl here) = event-at ts table partition first txn owners e (numbered ts txn) refl here
    by rest (inr there) =
        let its = rest there in
        let same : first + 1 + its.k ≡ first + suc its.k = omega arith in
        record {
          k = suc its.k;
          txn = its.txn;
          owner = its.owner;
          t = its.t;
          here = its.here;
          event = subst (λ n. IsEventOf table partition n its.t.ending e) same its.event;
        }

-- ---- the write of an event

-- one that stands in the table under its write id, with rows of each kind that the event counts
record HasWrite (table : Table) (partition : List ℕ) (e : Events) : Type 0 where
  w : Written
  among : IsIn w table.writes
  write_is : w.write ≡ e.write
  first : w.statement ≡ 0
  rows : (deleted : Bool) → changes deleted e ≡ true → has_events deleted partition w ≡ true

module _ (s : State) (base_sound : IsSound s) (said : AllSaid s) (number : ℕ) (table : Table) (here : numbered s.tables number ≡ Some table) (partition : List ℕ) where
  -- its rows, of a touch of its partition
  some-there : (rows : List Found) (row : Found) → IsIn row rows → row.partition ≡ partition → list_any (in_partition partition) rows ≡ true
  some-there rows row at part = any-in (in_partition partition) row rows at (text-same row.partition partition part)

  write-of : (e : Events) (at : IsEventAt s.transactions table.owners 1 number partition e) → IsOfWrite s at.t at.event.wrote → HasWrite table partition e
  write-of e at is =
      let touched : IsIn at.event.touch at.event.wrote = at.event.among in
      let among_touches = subst (IsIn at.event.touch) is.wrote_is touched in
      let place = and_parts (at.event.touch.table.0 == number) (pointwise nat_eq at.event.touch.partition partition) at.event.mine in
      let part : at.event.touch.partition ≡ partition = same-text at.event.touch.partition partition place.1 in
      let key : is.info.table.0 ≡ number =
      sym (touch-table is.info is.effect is.write at.event.touch among_touches) ∙ eqb-true at.event.touch.table.0 number place.0 in
      let one : is.table ≡ table = same_one (numbered s.tables number) is.table table (ap (numbered s.tables) (sym key) ∙ is.here) here in
      let id : suc at.k ≡ is.write =
      same_one (given_in number at.t.given) (suc at.k) is.write
      (ap (λ o. given_among o number) (sym (numbered-map given_of s.transactions at.txn ∙ ap (option_map given_of) at.here))
      ∙ base_sound.given.is_given at.txn number (suc at.k)
      (ap (λ o. owner_among o (suc at.k)) (numbered-map owners_of s.tables number ∙ ap (option_map owners_of) here) ∙ at.owner))
      (ap (λ n. given_in n at.t.given) (sym key) ∙ is.given) in
      let numbers : 1 + at.k ≡ suc at.k = omega arith in
      record {
        w = written_by is.info.shape is.write 0 is.effect;
        among = subst (λ (t : Table). IsIn (written_by is.info.shape is.write 0 is.effect) t.writes) one is.among;
        write_is = sym id ∙ sym numbers ∙ ap (λ (x : Events). x.write) at.event.is;
        first = refl;
        rows = its_rows among_touches part;
      }
    where
      its_rows : IsIn at.event.touch (touches_of is.info is.effect) → at.event.touch.partition ≡ partition → (deleted : Bool) → changes deleted e ≡ true
          → has_events deleted partition (written_by is.info.shape is.write 0 is.effect) ≡ true
      its_rows among_touches part false counts =
          let row = touch-inserted is.info is.effect is.write at.event.touch among_touches
          (ltb-true 0 at.event.touch.inserted (ap (λ (x : Events). nat_lt 0 x.inserted) at.event.is ∙ counts)) in
          some-there (written_by is.info.shape is.write 0 is.effect).inserts row.0 row.1 (row.2 ∙ part)
      its_rows among_touches part true counts =
          let row = touch-deleted is.info is.effect is.write at.event.touch among_touches
          (ltb-true 0 at.event.touch.deleted (ap (λ (x : Events). nat_lt 0 x.deleted) at.event.is ∙ counts)) in
          some-there is.effect.deletes row.0 row.1 (row.2 ∙ part)

-- ---- names

from-listed : (job : Job) (made : Bool) (name x : DirName) → IsIn x (covered_if job made name) → (made ≡ true) × (covers job name ≡ true) × (name ≡ x)
from-listed job made name x at = by (made && covers job name) refl at
  where
    by : (b : Bool) → (made && covers job name) ≡ b → IsIn x (if b then name ∷ [] else []) → (made ≡ true) × (covers job name ≡ true) × (name ≡ x)
    by true is (inl same) = let both = and_parts made (covers job name) is in (both.0, both.1, same)
    by true is (inr none) = absurd none
    by false is none = absurd none

module _ (s : State) (base_sound : IsSound s) (said : AllSaid s) (job : Job) (table : Table) (here : numbered s.tables job.table ≡ Some table) where
  abbrev ids : List Events
  ids = events_in s job.table job.partition

  abbrev others : List Job
  others = jobs_in s job.table job.partition

  write-at : (e : Events) → IsIn e ids → HasWrite table job.partition e
  write-at e among =
      let at = event-from s.transactions job.table job.partition 1 table.owners e
      (subst (λ o. IsIn e (events_from s.transactions job.table job.partition 1 (ids_of o))) here among) in
      by at (said at.txn at.t at.event.place at.event.wrote at.here at.event.ending)
    where
      by : (at : IsEventAt s.transactions table.owners 1 job.table job.partition e) → Said s at.t at.event.wrote → HasWrite table job.partition e
      by at (inl none) = absurd (subst (IsIn at.event.touch) none at.event.among)
      by at (inr is) = write-of s base_sound said job.table table here job.partition e at is

  -- it is made, and covered
  abbrev IsRight : DirName → Type 0
  IsRight x = IsIn x (made_names table.writes others job.partition) × (covers job x ≡ true)

  own-made : (deleted : Bool) (e : Events) → IsIn e ids → changes deleted e ≡ true → IsIn (own deleted e.write) (made_names table.writes others job.partition)
  own-made deleted e among counts =
      let h = write-at e among in
      let w : Written = h.w in
      let n : DirName = dir.Own deleted (record { 0 = w.write }) w.statement in
      let made : is_made table.writes job.partition n ≡ true =
      any-in (has_events deleted job.partition) w (filter (has_written (Own w.write w.statement)) table.writes)
      (in-filter (has_written (Own w.write w.statement)) w table.writes h.among
      (and_from (w.write == w.write) (w.statement == w.statement) (eq-eqb w.write w.write refl) (eq-eqb w.statement w.statement refl)))
      (h.rows deleted counts) in
      subst (λ (x : DirName). IsIn x (made_names table.writes others job.partition)) (named h)
      (in-filter (is_made table.writes job.partition) n (names_in table.writes others)
      (in-left n (flat_map write_names table.writes) (flat_map job_names others) (in-flat write_names w n table.writes h.among (its_name deleted w))) made)
    where
      its_name : (b : Bool) (w : Written) → IsIn (dir.Own b (record { 0 = w.write }) w.statement) (write_names w)
      its_name false w = inl refl
      its_name true w = inr (inl refl)

      named : (h : HasWrite table job.partition e) → dir.Own deleted (record { 0 = h.w.write }) h.w.statement ≡ own deleted e.write
      named h = λ i. dir.Own deleted (record { 0 = h.write_is i }) (h.first i)

  right-own : (e : Events) → IsIn e ids → (x : DirName) → IsIn x (own_covered job e) → IsRight x
  right-own e among x at = by (in-either x (covered_if job (inserts e) (own false e.write)) (covered_if job (deletes e) (own true e.write)) at)
    where
      moved : (name : DirName) → name ≡ x → IsIn name (made_names table.writes others job.partition) → covers job name ≡ true
          → IsRight x
      moved name same made covered =
          (subst (λ (n : DirName). IsIn n (made_names table.writes others job.partition)) same made, subst (λ (n : DirName). covers job n ≡ true) same covered)

      by : IsIn x (covered_if job (inserts e) (own false e.write)) ⊎ IsIn x (covered_if job (deletes e) (own true e.write))
          → IsRight x
      by (inl first) =
          let its = from-listed job (inserts e) (own false e.write) x first in
          moved (own false e.write) its.2 (own-made false e among its.0) its.1
      by (inr second) =
          let its = from-listed job (deletes e) (own true e.write) x second in
          moved (own true e.write) its.2 (own-made true e among its.0) its.1

  -- and of another job
  pub wide-made : (deleted : Bool) (low high : ℕ) → has_within deleted low high ids ≡ true → is_made table.writes job.partition (wide deleted low high) ≡ true
  wide-made deleted low high some =
      let e = in-any (λ (events : Events). is_between (low - 1) high events && changes deleted events) ids some in
      let both = and_parts (is_between (low - 1) high e.0) (changes deleted e.0) e.2 in
      let range = and_parts (nat_lt (low - 1) e.0.write) (nat_le e.0.write high) both.0 in
      let least : low - 1 < e.0.write = ltb-true (low - 1) e.0.write range.0 in
      let most : e.0.write ≤ high = leb-true e.0.write high range.1 in
      let h = write-at e.0 e.1 in
      let write_is : h.w.write ≡ e.0.write = h.write_is in
      any-in (has_events deleted job.partition) h.w (filter (has_written (Wide low high)) table.writes)
      (in-filter (has_written (Wide low high)) h.w table.writes h.among
      (and_from (nat_le low h.w.write) (nat_le h.w.write high) (le-leb low h.w.write (omega (arith, least, write_is))) (le-leb h.w.write high (omega (arith, most, write_is)))))
      (h.rows deleted both.1)

  abbrev IsRightOf : JobKind → Option (ℕ × ℕ × ℕ) → DirName → Type 0
  IsRightOf k o x = IsIn x (names_by k o) × (is_made table.writes job.partition x ≡ true) × (covers job x ≡ true)

  right-range : (k : JobKind) (o : Option (ℕ × ℕ × ℕ)) (x : DirName) → IsIn x (published_covered ids job k o) → IsRightOf k o x
  right-range k None x at = absurd at
  right-range kind.Minor (Some range) x at =
      by (in-either x (covered_if job (has_within false range.0 range.1 ids) (wide false range.0 range.1)) (covered_if job (has_within true range.0 range.1 ids) (wide true range.0 range.1)) at)
    where
      moved : (deleted : Bool) → wide deleted range.0 range.1 ≡ x → has_within deleted range.0 range.1 ids ≡ true → covers job (wide deleted range.0 range.1) ≡ true
          → IsIn x (range_names kind.Minor range.0 range.1) → IsRightOf kind.Minor (Some range) x
      moved deleted same some covered named = (
        named,
        subst (λ (n : DirName). is_made table.writes job.partition n ≡ true) same (wide-made deleted range.0 range.1 some),
        subst (λ (n : DirName). covers job n ≡ true) same covered,
      )

      by : IsIn x (covered_if job (has_within false range.0 range.1 ids) (wide false range.0 range.1))
          ⊎ IsIn x (covered_if job (has_within true range.0 range.1 ids) (wide true range.0 range.1)) → IsRightOf kind.Minor (Some range) x
      by (inl first) =
          let its = from-listed job (has_within false range.0 range.1 ids) (wide false range.0 range.1) x first in
          moved false its.2 its.0 its.1 (inl its.2)
      by (inr second) =
          let its = from-listed job (has_within true range.0 range.1 ids) (wide true range.0 range.1) x second in
          moved true its.2 its.0 its.1 (inr (inl its.2))
  right-range kind.Major (Some range) x at =
      let its = from-listed job true (base range.1) x at in (
        inl its.2,
        subst (λ (n : DirName). is_made table.writes job.partition n ≡ true) its.2 refl,
        subst (λ (n : DirName). covers job n ≡ true) its.2 its.1,
      )

  right : (x : DirName) → IsIn x (covered_names s job) → IsRight x
  right x at = by (in-either x (flat_map (own_covered job) ids) (flat_map (made_covered ids job) others) at)
    where
      by : IsIn x (flat_map (own_covered job) ids) ⊎ IsIn x (flat_map (made_covered ids job) others)
          → IsRight x
      by (inl of_write) = let e = from-flat (own_covered job) x ids of_write in right-own e.0 e.1 x e.2
      by (inr of_job) =
          let other = from-flat (made_covered ids job) x others of_job in
          let its = right-range other.0.kind other.0.published x other.2 in (
            in-filter (is_made table.writes job.partition) x (names_in table.writes others)
                (in-right x (flat_map write_names table.writes) (flat_map job_names others) (in-flat job_names other.0 x others other.1 its.0)) its.1,
            its.2,
          )

pub listed-are-covered : ListedAreCovered
listed-are-covered entries number job table name fit truth is here at =
    let sound = books-are-sound profile entries fit in
    right (state_of entries) sound.base (books-said profile entries fit truth) job table here name at
