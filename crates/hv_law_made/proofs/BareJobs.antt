-- A job at work whose directories have no file: each that it makes is bare, and where it makes none it is whole.
use Rattle.std.proofs.Common.{refl, ◌≡◌, ◌⊎◌, inl, inr, ℕ, ◌+◌, ◌<◌, Bool, true, false, List, [], ◌∷◌, sym, subst}
use Rattle.std.specs.FinMap as finmap
use Rattle.hv_shelf.specs.declared.place.Place.{Place}
use Rattle.hv_shelf.specs.Disk.{Tree, IsFree}
use Rattle.hv_dirs.specs.declared.names.DirName.{DirName}
use Rattle.hv_dirs.specs.Names.{text_of, write_end}
use Rattle.hv_stands.specs.hv_history.specs.State.{State, Job, numbered, after}
use Rattle.hv_stands.specs.hv_history.specs.Jobs.{is_job_of, pieces_for}
use Rattle.hv_stands.proofs.Numbers.{same_one}
use Rattle.hv_jobs.specs.Covers.{range_names}
use Rattle.hv_law_made.specs.Made.{is_made, made_recs}
use Rattle.hv_law_made.specs.Laws.{Holds, IsFinalOf, IsFiledFor}
use Rattle.hv_law_made.specs.Entries.{IsSoundBook, publishing, finals, dir_of, IsAtWork, HasBareFinal}
use Rattle.hv_law_made.specs.Opening.{StandingRecovers}
use Rattle.hv_law_made.proofs.RenameStands.{in-from, job-there, free-here, none-made}
use Rattle.hv_law_visible.specs.Members.{IsIn}
use Rattle.hv_law_visible.proofs.MemberLemmas.{in-filter, from-filter}

module _ (state : State) (few : state.entries + 1 < write_end) (sound : IsSoundBook state) (files : Tree) (number : ℕ) (job : Job) (work : IsAtWork state number job)
    (bare : (name : DirName) → IsIn name (range_names job.kind (pieces_for state job).low (pieces_for state job).high) → IsFree (dir_of job (text_of name)) files) where
  abbrev its : List DirName
  its = range_names job.kind (pieces_for state job).low (pieces_for state job).high

  unmade-by : (name : DirName) → IsIn name its → finals state job work.table.writes ≡ [] → (b : Bool) → is_made work.table.writes job.partition name ≡ b → b ≡ false
  unmade-by name at none true made = absurd (subst (IsIn name) none (in-filter (is_made work.table.writes job.partition) name its at made))
  unmade-by name at none false made = refl

  filed-none : finals state job work.table.writes ≡ [] → (place : Place) → IsFinalOf state number (pieces_for state job).low (pieces_for state job).high place
      → Holds (made_recs (after state (publishing state number job)) place) place.bucket (finmap.get files place)
  filed-none none place asks =
      let same : asks.job ≡ job = same_one (numbered state.jobs number) asks.job job asks.is work.is in
      let at : IsIn asks.name its =
      subst (λ (x : Job). IsIn asks.name (range_names x.kind (pieces_for state job).low (pieces_for state job).high)) same asks.among in
      let there = job-there job place (subst (λ (x : Job). is_job_of place.table.0 place.partition x ≡ true) same asks.here) in
      let within = in-from job (text_of asks.name) place there.0 there.1 asks.dir in
      let unmade = unmade-by asks.name at none (is_made work.table.writes job.partition asks.name) refl in
      subst (λ o. Holds o place.bucket (finmap.get files place)) (sym (none-made state number job work few sound asks.name at unmade place within))
      (bare asks.name at place within)

  bare-by : (left : List DirName) → finals state job work.table.writes ≡ left
      → IsFiledFor (publishing state number job) state files ⊎ HasBareFinal state job work.table.writes files
  bare-by [] none = inl (record { at = λ place asks. filed-none none place asks; encoded = tt })
  bare-by (name ∷ left) some =
      let at : IsIn name (finals state job work.table.writes) = subst (IsIn name) (sym some) (inl refl) in
      inr (record { name = name; among = at; bare = bare name (from-filter (is_made work.table.writes job.partition) name its at).0 })

  pub bare-each : IsFiledFor (publishing state number job) state files ⊎ HasBareFinal state job work.table.writes files
  bare-each = bare-by (finals state job work.table.writes) refl

-- ---- so what stands can be opened

pub standing-recovers : StandingRecovers
standing-recovers state files few sound standing = record {
  before = files;
  standing = standing;
  but = λ place. inl refl;
  each = λ n j w. bare-each state few sound files n j w (λ name at place within. free-here state n j w few sound files standing name at place within);
}
