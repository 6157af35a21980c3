-- While the directories of a job that is given up go, an opening finds what it may find: what goes doesn't stand for the book, and the other
-- jobs at work keep theirs. When they are gone, the book may be told that it has failed.
use Rattle.std.proofs.Common.{refl, ◌≡◌, ◌⊎◌, inl, inr, ℕ, ◌+◌, ◌<◌, ◌==◌, Bool, true, false, cond, is_some, Option, Some, None, List, sym, ap, ◌∙◌, subst, arith, eqb-true, true≢false}
use Rattle.std.specs.Prelude.{◌&&◌, ◌||◌, not, is_none}
use Rattle.std.specs.FinMap as finmap
use Rattle.std.proofs.lemmas.Bool.{and_parts, false_from_ne_true}
use Rattle.hv_shelf.specs.declared.place.Place.{Place}
use Rattle.hv_shelf.specs.declared.place.DirAt.{DirAt}
use Rattle.hv_shelf.specs.Disk.{Tree, IsFree}
use Rattle.hv_shelf.specs.Laws.{alike}
use Rattle.hv_shelf.specs.Places.{is_in}
use Rattle.hv_dirs.specs.declared.names.DirName.{DirName}
use Rattle.hv_dirs.specs.Names.{text_of, write_end}
use Rattle.hv_stands.specs.hv_history.specs.declared.entry.Entry.{Entry}
use Rattle.hv_stands.specs.hv_history.specs.declared.entry.Entry.TheVariants as entry
use Rattle.hv_stands.specs.hv_history.specs.declared.entry.JobCause.{JobCause}
use Rattle.hv_stands.specs.hv_history.specs.declared.state.Table.{Table}
use Rattle.hv_stands.specs.hv_history.specs.State.{State, Job, Openings, numbered, openings_behind, first_of, failed_at, acted, after}
use Rattle.hv_stands.specs.hv_history.specs.Legal.{is_working}
use Rattle.hv_stands.specs.hv_history.specs.Jobs.{is_job_of, pieces_for, is_empty_of}
use Rattle.hv_stands.proofs.Numbers.{none_is, same_one, either}
use Rattle.hv_stands.proofs.Soundness.{all-numbered}
use Rattle.hv_jobs.specs.Covers.{range_names}
use Rattle.hv_jobs.specs.Finals.{unless_bare}
use Rattle.hv_law_jobs.proofs.OrderLemmas.{all-more, all-changed, job-of-is, job-of-from}
use Rattle.hv_law_made.specs.Made.{made_recs}
use Rattle.hv_law_made.specs.Named.{IsNamedJob, HasNames, IsOfTable, AllHaveNames}
use Rattle.hv_law_made.specs.Standing.{IsStagedAt, is_live_table, is_live_at, Standing}
use Rattle.hv_law_made.specs.Laws.{MayTurn, Holds, IsFinalOf, IsFiledFor, KeepsNames}
use Rattle.hv_law_made.specs.Entries.{IsSoundBook, publishing, dir_of, staged_text, IsAtWork, IsFinalAt, HasBareFinal, Recovers}
use Rattle.hv_law_made.specs.Opening.{dirs_for, failing_names, failing_dirs, is_in_any, SomeGo, AllGo, IsWholeOrBare, IsGivenUp, GoingRecovers, GivenUpGoOn}
use Rattle.hv_law_made.proofs.UnmadeLemmas.{puts-unmade}
use Rattle.hv_law_made.proofs.FrameLemmas.{changes-stand}
use Rattle.hv_law_made.proofs.StepStands.{job-steps-stand}
use Rattle.hv_law_made.proofs.EntryStands.{gone-turns}
use Rattle.hv_law_made.proofs.NameBounds.{all-named}
use Rattle.hv_law_made.proofs.RenameStands.{in-parts, job-here, staged-as, is-number, made-name, free-here}
use Rattle.hv_law_made.proofs.RecoverStands.{two-partitions}
use Rattle.hv_law_made.proofs.OtherJobs.{in-dir, stepped, other-than, number-same, was-work, still-final, still-either}
use Rattle.hv_law_visible.specs.Members.{IsIn}
use Rattle.hv_law_visible.proofs.MemberLemmas.{in-flat, from-flat, any-in, in-any}

-- ---- the directories of a job that is given up

from-unless : (b : Bool) (names : List DirName) (name : DirName) → IsIn name (unless_bare b names) → (b ≡ false) × IsIn name names
from-unless true names name at = absurd at
from-unless false names name at = (refl, at)

to-unless : (b : Bool) (names : List DirName) (name : DirName) → b ≡ false → IsIn name names → IsIn name (unless_bare b names)
to-unless true names name e at = absurd (true≢false e)
to-unless false names name e at = at

-- a place in one of them
pub record IsFailingAt (state : State) (number : ℕ) (job : Job) (place : Place) : Type 0 where
  pub some : is_empty_of job.kind (pieces_for state job) ≡ false
  pub name : DirName
  pub among : IsIn name (range_names job.kind (pieces_for state job).low (pieces_for state job).high)
  pub within : (is_in (dir_of job (text_of name)) place ≡ true) ⊎ (is_in (dir_of job (staged_text number name)) place ≡ true)

which-of : (number : ℕ) (job : Job) (name : DirName) (place : Place) (dir : DirAt) → IsIn dir (dirs_for number job name) → is_in dir place ≡ true
    → (is_in (dir_of job (text_of name)) place ≡ true) ⊎ (is_in (dir_of job (staged_text number name)) place ≡ true)
which-of number job name place dir (inl e) within = inl (subst (λ (d : DirAt). is_in d place ≡ true) (sym e) within)
which-of number job name place dir (inr (inl e)) within = inr (subst (λ (d : DirAt). is_in d place ≡ true) (sym e) within)
which-of number job name place dir (inr (inr none)) within = absurd none

pub failing-at : (state : State) (number : ℕ) (job : Job) (place : Place) → is_in_any (failing_dirs state number job) place ≡ true → IsFailingAt state number job place
failing-at state number job place e =
    let dir = in-any (λ (d : DirAt). is_in d place) (failing_dirs state number job) e in
    let of = from-flat (dirs_for number job) dir.0 (failing_names state job) dir.1 in
    let its =
    from-unless (is_empty_of job.kind (pieces_for state job)) (range_names job.kind (pieces_for state job).low (pieces_for state job).high) of.0 of.1 in
    record { some = its.0; name = of.0; among = its.1; within = which-of number job of.0 place dir.0 of.2 dir.2 }

-- each that it could have made is one of them
pub final-fails : (state : State) (number : ℕ) (job : Job) (place : Place) → is_empty_of job.kind (pieces_for state job) ≡ false → (name : DirName)
    → IsIn name (range_names job.kind (pieces_for state job).low (pieces_for state job).high) → is_in (dir_of job (text_of name)) place ≡ true
    → is_in_any (failing_dirs state number job) place ≡ true
final-fails state number job place some name among within =
    any-in (λ (d : DirAt). is_in d place) (dir_of job (text_of name)) (failing_dirs state number job)
    (in-flat (dirs_for number job) name (dir_of job (text_of name)) (failing_names state job)
    (to-unless (is_empty_of job.kind (pieces_for state job)) (range_names job.kind (pieces_for state job).low (pieces_for state job).high) name some among)
    (inl refl)) within

-- all of them are of its partition
failing-here : (state : State) (number : ℕ) (job : Job) (place : Place) → IsFailingAt state number job place → (place.table.0 ≡ job.table) × (place.partition ≡ job.partition)
failing-here state number job place at = elim at.within [
  | inl final ↦ let parts = in-parts job (text_of at.name) place final in (parts.0, parts.1.0)
  | inr staged ↦ let parts = in-parts job (staged_text number at.name) place staged in (parts.0, parts.1.0)
]

-- ---- some of their files go

module _ (state : State) (number : ℕ) (job : Job) (before now : Tree) (few : state.entries + 1 < write_end) (sound : IsSoundBook state)
    (is : numbered state.jobs number ≡ Some job) (working : is_working job ≡ true) (goes : SomeGo (failing_dirs state number job) before now) where
  -- a directory that is bare stays so
  pub still-free : (dir : DirAt) → IsFree dir before → IsFree dir now
  still-free dir free place within = by (finmap.get now place) refl
    where
      by : (o : Option (List ℕ)) → finmap.get now place ≡ o → o ≡ None
      by None e = refl
      by (Some bytes) e = absurd (none_is (finmap.get before place) bytes (free place within) (goes.less place bytes e))

  -- nothing goes in another partition
  module _ (n : ℕ) (j : Job) (w : IsAtWork state n j) (other : (number == n) ≡ false) where
    elsewhere : (place : Place) → is_job_of place.table.0 place.partition j ≡ true → is_in_any (failing_dirs state number job) place ≡ false
    elsewhere place here =
        false_from_ne_true (is_in_any (failing_dirs state number job) place)
        (λ e.
        let its = failing-here state number job place (failing-at state number job place e) in
        let theirs = job-of-is place.table.0 place.partition j here in
        two-partitions state sound number n job j is working w.is w.working other
        (job-of-from job.table job.partition j (theirs.0 ∙ its.0) (theirs.1 ∙ its.1)))

    other-filed : IsFiledFor (publishing state n j) state before → IsFiledFor (publishing state n j) state now
    other-filed filed = record {
      at = λ place asks.
          let one : asks.job ≡ j = same_one (numbered state.jobs n) asks.job j asks.is w.is in
          let here : is_job_of place.table.0 place.partition j ≡ true = subst (λ (x : Job). is_job_of place.table.0 place.partition x ≡ true) one asks.here in
          subst (Holds (made_recs (after state (publishing state n j)) place) place.bucket) (sym (goes.same place (elsewhere place here))) (filed.at place asks);
      encoded = tt;
    }

    other-bare : HasBareFinal state j w.table.writes before → HasBareFinal state j w.table.writes now
    other-bare bare = record { name = bare.name; among = bare.among; bare = still-free (dir_of j (text_of bare.name)) bare.bare }

    pub other-stays : (whole : Bool) → IsWholeOrBare whole state n j w.table.writes before → IsWholeOrBare whole state n j w.table.writes now
    other-stays true filed = other-filed filed
    other-stays false bare = other-bare bare

    other-each : IsFiledFor (publishing state n j) state before ⊎ HasBareFinal state j w.table.writes before
        → IsFiledFor (publishing state n j) state now ⊎ HasBareFinal state j w.table.writes now
    other-each (inl filed) = inl (other-filed filed)
    other-each (inr bare) = inr (other-bare bare)

  -- ---- what stands without final directories stands on

  module _ (given : IsGivenUp state number job before) (recovers : Recovers state before) where
    abbrev within : Place → Bool
    within place = is_in_any (failing_dirs state number job) place

    abbrev keeps : Place → Bool
    keeps place = not (within place) || is_some (finmap.get now place)

    abbrev left : Tree
    left = finmap.retain_keys recovers.before keeps

    left-is : (place : Place) → finmap.get left place ≡ cond (keeps place) (finmap.get recovers.before place) None
    left-is place = finmap.get-retain_keys recovers.before keeps place (alike keeps place)

    left-by : (place : Place) (b : Bool) → within place ≡ b → (o : Option (List ℕ)) → finmap.get now place ≡ o
        → finmap.get left place ≡ cond (not b || is_some o) (finmap.get recovers.before place) None
    left-by place b inside o there = left-is place ∙ (λ i. cond (not (inside i) || is_some (there i)) (finmap.get recovers.before place) None)

    -- what is there is as it was, and what went was in one of these directories
    abbrev IsKept : Place → Type 0
    IsKept place = (finmap.get now place ≡ finmap.get before place) × (finmap.get left place ≡ finmap.get recovers.before place)

    abbrev IsGone : Place → Type 0
    IsGone place = (within place ≡ true) × (finmap.get now place ≡ None) × (finmap.get left place ≡ None)

    kept-or-gone : (place : Place) (b : Bool) → within place ≡ b → (o : Option (List ℕ)) → finmap.get now place ≡ o → IsKept place ⊎ IsGone place
    kept-or-gone place false outside o there = inl (goes.same place outside, left-by place false outside o there)
    kept-or-gone place true inside (Some bytes) there = inl (there ∙ sym (goes.less place bytes there), left-by place true inside (Some bytes) there)
    kept-or-gone place true inside None there = inr (inside, there, left-by place true inside None there)

    which : (place : Place) → IsKept place ⊎ IsGone place
    which place = kept-or-gone place (within place) refl (finmap.get now place) refl

    named : AllHaveNames state
    named = all-named state (omega (arith, few)) sound

    -- what went doesn't stand for the book: it was in a final directory, in a staged one, or in a dropped table
    abbrev Turns : Place → Type 0
    Turns place = (finmap.get left place ≡ finmap.get recovers.before place) ⊎ MayTurn state place (finmap.get left place)

    staged-there : (place : Place) (at : IsFailingAt state number job place) → IsAtWork state number job → is_in (dir_of job (staged_text number at.name)) place ≡ true
        → IsStagedAt state place
    staged-there place at work inside =
        let parts = in-parts job (staged_text number at.name) place inside in
        record {
          number = number;
          job = job;
          is = is;
          here = job-here job place parts.0 parts.1.0;
          picked = (and_parts (is_some job.watermark) (is_none job.published && (not job.is_empty && is_none job.failure)) working).0;
          name = text_of at.name;
          named = staged-as number at.name (is-number state number job work few sound) (made-name state number job work few sound at.name at.among);
          dir = parts.1.1;
        }

    turns-live : (place : Place) (at : IsFailingAt state number job place) → IsAtWork state number job → finmap.get left place ≡ None → Turns place
    turns-live place at work none = elim at.within [
      | inl final ↦ inl (none ∙ sym (free-here state number job work few sound recovers.before recovers.standing at.name at.among place final))
      | inr staged ↦
          inr (gone-turns state place (finmap.get left place) none
          (inl (puts-unmade state place named (inr (staged-there place at work staged))).recs))
    ]

    turns-dead : (place : Place) → is_live_at state place ≡ false → finmap.get left place ≡ None → Turns place
    turns-dead place dead none = inr (gone-turns state place (finmap.get left place) none (inr (inr dead)))

    turns-by : (place : Place) (at : IsFailingAt state number job place) → finmap.get left place ≡ None → (table : Table)
        → numbered state.tables job.table ≡ Some table → (b : Bool) → table.is_live ≡ b → Turns place
    turns-by place at none table there true live =
        turns-live place at (record { is = is; working = working; table = table; table_is = there; live = live; some = at.some }) none
    turns-by place at none table there false dead =
        turns-dead place
        (ap (λ n. is_live_table (numbered state.tables n)) (failing-here state number job place at).0 ∙ ap is_live_table there ∙ dead) none

    turns-of : (place : Place) → IsFailingAt state number job place → finmap.get left place ≡ None → (o : Option Table) → numbered state.tables job.table ≡ o → Turns place
    turns-of place at none None there =
        absurd (true≢false (sym (all-numbered (IsOfTable state) state.jobs number job is named.jobs) ∙ ap is_some there))
    turns-of place at none (Some table) there = turns-by place at none table there table.is_live refl

    turns : (place : Place) → Turns place
    turns place = elim (which place) [
      | inl kept ↦ inl kept.1
      | inr gone ↦ turns-of place (failing-at state number job place gone.0) gone.2 (numbered state.tables job.table) refl
    ]

    left-stands : Standing state left
    left-stands = changes-stand state recovers.before left named turns recovers.standing

    but-left : (place : Place) → (finmap.get now place ≡ finmap.get left place) ⊎ IsFinalAt state place
    but-left place = elim (which place) [
      | inl kept ↦ elim (recovers.but place) [
        | inl same ↦ inl (kept.0 ∙ same ∙ sym kept.1)
        | inr final ↦ inr final
      ]
      | inr gone ↦ inl (gone.1 ∙ sym gone.2)
    ]

    its-own : (w : IsAtWork state number job) → IsFiledFor (publishing state number job) state now ⊎ HasBareFinal state job w.table.writes now
    its-own w =
        let bare = given.bare w in
        inr (record { name = bare.name; among = bare.among; bare = still-free (dir_of job (text_of bare.name)) bare.bare })

    own-each : (j : Job) (w : IsAtWork state number j) → IsFiledFor (publishing state number j) state now ⊎ HasBareFinal state j w.table.writes now
    own-each j w =
        let one : job ≡ j = same_one (numbered state.jobs number) job j is w.is in
        subst (λ (x : Job). (v : IsAtWork state number x) → IsFiledFor (publishing state number x) state now ⊎ HasBareFinal state x v.table.writes now) one its-own w

    each-by : (n : ℕ) (j : Job) (w : IsAtWork state n j) → ((number == n) ≡ true) ⊎ ((number == n) ≡ false)
        → IsFiledFor (publishing state n j) state now ⊎ HasBareFinal state j w.table.writes now
    each-by n j w (inl e) =
        subst (λ k. (x : Job) (v : IsAtWork state k x) → IsFiledFor (publishing state k x) state now ⊎ HasBareFinal state x v.table.writes now)
        (eqb-true number n e) own-each j w
    each-by n j w (inr e) = other-each n j w e (recovers.each n j w)

    pub still-recovers : Recovers state now
    still-recovers = record { before = left; standing = left-stands; but = but-left; each = λ n j w. each-by n j w (either (number == n)) }

pub going-recovers : GoingRecovers
going-recovers state number job before now few sound given goes recovers =
    still-recovers state number job before now few sound given.is given.working goes given recovers

-- ---- all of them are gone

pub all-some : (dirs : List DirAt) (before now : Tree) → AllGo dirs before now → SomeGo dirs before now
all-some dirs before now all = record {
  less = λ place bytes there. by place bytes there (is_in_any dirs place) refl;
  same = all.same;
}
  where
    by : (place : Place) (bytes : List ℕ) → finmap.get now place ≡ Some bytes → (b : Bool) → is_in_any dirs place ≡ b → finmap.get before place ≡ Some bytes
    by place bytes there true inside = absurd (none_is (finmap.get now place) bytes (all.bare place inside) there)
    by place bytes there false outside = sym (all.same place outside) ∙ there

first-fails : (o : Option JobCause) (why : JobCause) → is_none (first_of o why) ≡ true → ⊥
first-fails None why e = true≢false (sym e)
first-fails (Some x) why e = true≢false (sym e)

-- a job that has failed is at work no more
pub failed-over : (places : ℕ) (why : JobCause) (job : Job) → is_working (failed_at places why job) ≡ false
failed-over places why job =
    false_from_ne_true (is_working (failed_at places why job))
    (λ e.
    let rest = and_parts (is_some job.watermark) (is_none job.published && (not job.is_empty && is_none (first_of job.failure why))) e in
    let last = and_parts (is_none job.published) (not job.is_empty && is_none (first_of job.failure why)) rest.1 in
    first-fails job.failure why (and_parts (not job.is_empty) (is_none (first_of job.failure why)) last.1).1)

module _ (state : State) (number : ℕ) (job : Job) (why : JobCause) (before now : Tree) (few : state.entries + 1 < write_end) (sound : IsSoundBook state)
    (given : IsGivenUp state number job before) (all : AllGo (failing_dirs state number job) before now) (recovers : Recovers state before) where
  abbrev event : Entry
  event = entry.Failed (record { 0 = number }) why

  abbrev next : State
  next = after state event

  abbrev step : Job → Job
  step = failed_at state.entries why

  abbrev behind : Openings
  behind = openings_behind state.entries event state.openings

  over : is_working (step job) ≡ false
  over = failed-over state.entries why job

  stays : (table : ℕ) (partition : List ℕ) → is_job_of table partition (step job) ≡ is_job_of table partition job
  stays table partition = refl

  abbrev told : State
  told = stepped state number job given.is given.working sound step behind over stays

  next-is : next ≡ told
  unfolding acted
  next-is = refl

  -- what an opening finds before the entry
  found : Recovers state now
  found = going-recovers state number job before now few sound given (all-some (failing_dirs state number job) before now all) recovers

  names : AllHaveNames state
  names = all-named state (omega (arith, few)) sound

  names-told : AllHaveNames told
  names-told = record {
    tables = all-more (HasNames state) (HasNames told) (λ table has. record {
      ids = has.ids;
      writes = has.writes;
      committed = has.committed;
      jobs = all-changed IsNamedJob step (λ j named. named) state.jobs number has.jobs;
    }) state.tables names.tables;
    jobs = all-changed (IsOfTable told) step (λ j of. of) state.jobs number (all-more (IsOfTable state) (IsOfTable told) (λ j of. of) state.jobs names.jobs);
  }

  keeps-names : KeepsNames state event
  keeps-names = record { before = names; behind = subst AllHaveNames (sym next-is) names-told }

  told-stands : Standing told found.before
  told-stands =
      subst (λ (s : State). Standing s found.before) next-is
      (job-steps-stand state event number job found.before refl given.is keeps-names found.standing)

  -- its own final directories are bare, also without them
  own-bare : (place : Place) → IsAtWork state number job → IsFinalOf state number (pieces_for state job).low (pieces_for state job).high place
      → finmap.get now place ≡ finmap.get found.before place
  own-bare place work asks =
      let there = in-dir state number job given.is (pieces_for state job).low (pieces_for state job).high place asks in
      all.bare place (final-fails state number job place work.some there.0 there.1 there.2)
      ∙ sym (free-here state number job work few sound found.before found.standing there.0 there.1 place there.2)

  but-told : (place : Place) → (finmap.get now place ≡ finmap.get found.before place) ⊎ IsFinalAt told place
  but-told place = by (found.but place)
    where
      own : (final : IsFinalAt state place) → (number == final.number) ≡ true → finmap.get now place ≡ finmap.get found.before place
      own final e =
          let same : number ≡ final.number = eqb-true number final.number e in
          let one : final.job ≡ job = same_one (numbered state.jobs number) final.job job (ap (numbered state.jobs) same ∙ final.work.is) given.is in
          let work : IsAtWork state number job =
          subst (λ (x : Job). IsAtWork state number x) one (subst (λ k. IsAtWork state k final.job) (sym same) final.work) in
          let asks : IsFinalOf state number (pieces_for state job).low (pieces_for state job).high place =
          subst (λ (x : Job). IsFinalOf state number (pieces_for state x).low (pieces_for state x).high place) one
          (subst (λ k. IsFinalOf state k (pieces_for state final.job).low (pieces_for state final.job).high place) (sym same) final.final) in
          own-bare place work asks

      of : (final : IsFinalAt state place) → ((number == final.number) ≡ true) ⊎ ((number == final.number) ≡ false)
          → (finmap.get now place ≡ finmap.get found.before place) ⊎ IsFinalAt told place
      of final (inl e) = inl (own final e)
      of final (inr e) =
          inr (still-final state number job given.is given.working sound step behind over stays
          final.number final.job final.work.is final.work.working e final.work place final.final)

      by : (finmap.get now place ≡ finmap.get found.before place) ⊎ IsFinalAt state place → (finmap.get now place ≡ finmap.get found.before place) ⊎ IsFinalAt told place
      by (inl same) = inl same
      by (inr final) = of final (either (number == final.number))

  told-each : (n : ℕ) (j : Job) (w : IsAtWork told n j) → IsFiledFor (publishing told n j) told now ⊎ HasBareFinal told j w.table.writes now
  told-each n j w =
      let other = other-than state number job given.is given.working sound step behind over stays n j w.is w.working in
      let was : numbered state.jobs n ≡ Some j =
      sym (number-same state number job given.is given.working sound step behind over stays n other) ∙ w.is in
      still-either state number job given.is given.working sound step behind over stays n j was w.working other now w
      (found.each n j (was-work state number job given.is given.working sound step behind over stays n j was w.working other w))

  pub given-up : Recovers next now
  given-up = subst (λ (s : State). Recovers s now) (sym next-is) (record { before = found.before; standing = told-stands; but = but-told; each = told-each })

pub given-up-go-on : GivenUpGoOn
given-up-go-on state number job why before now few sound given all recovers = given-up state number job why before now few sound given all recovers
