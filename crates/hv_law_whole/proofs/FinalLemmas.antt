-- The directories that a job at work is to make, by what commits say of its range, are those that its writes make: a commit that wrote there
-- says it, and one that says it wrote there.
use Rattle.std.proofs.Common.{refl, ◌≡◌, ℕ, Bool, true, false, cond, List, [], ◌∷◌, ◌++◌, filter, length, ◌+◌, sym, ap, ◌∙◌, true≢false}
use Rattle.hv_dirs.specs.declared.names.DirName.{DirName}
use Rattle.hv_history.specs.declared.entry.JobKind.{JobKind}
use Rattle.hv_history.specs.declared.entry.JobKind.TheVariants as kind
use Rattle.hv_history.specs.declared.state.Written.{Written}
use Rattle.hv_history.specs.State.{State, Job, state_of}
use Rattle.hv_history.specs.Jobs.{Events, is_live_one, events_in, pieces_for}
use Rattle.hv_jobs.specs.Covers.{range_names}
use Rattle.hv_jobs.specs.Covered.{wide, has_within}
use Rattle.hv_jobs.specs.Finals.{final_if, final_names, unless_bare, finals_of}
use Rattle.hv_law_jobs.specs.Sound.{IsSoundRange}
use Rattle.hv_law_jobs.proofs.PublishLemmas.{range-is-sound}
use Rattle.hv_law_made.specs.Made.{is_made}
use Rattle.hv_law_made.specs.Entries.{IsSoundBook, finals, IsAtWork}
use Rattle.hv_law_made.proofs.BookLemmas.{books-are-sound}
use Rattle.hv_law_visible.specs.Members.{IsIn}
use Rattle.hv_law_whole.specs.Finals.{FinalsAreSaid}
use Rattle.hv_law_whole.proofs.OnceLemmas.{IsTouched, books-touched}
use Rattle.hv_law_whole.proofs.CoveredLemmas.{within-range}
use Rattle.hv_law_whole.proofs.SaidLemmas.{AllSaid, books-said}
use Rattle.hv_law_whole.proofs.ListedLemmas.{wide-made}

both-ways : (a b : Bool) → (a ≡ true → b ≡ true) → (b ≡ true → a ≡ true) → a ≡ b
both-ways true b there back = sym (there refl)
both-ways false true there back = absurd (true≢false (sym (back refl)))
both-ways false false there back = refl

filter-two : (p : DirName → Bool) (a b : DirName) → filter p (a ∷ b ∷ []) ≡ final_if (p a) a ++ final_if (p b) b
filter-two p a b = by (p a) (p b)
  where
    by : (x y : Bool) → cond x (a ∷ cond y (b ∷ []) []) (cond y (b ∷ []) []) ≡ final_if x a ++ final_if y b
    by true true = refl
    by true false = refl
    by false true = refl
    by false false = refl

module _ (s : State) (sound : IsSoundBook s) (said : AllSaid s) (number : ℕ) (job : Job) (work : IsAtWork s number job)
    (touched : (w : Written) → IsIn w work.table.writes → IsTouched s job.table w) where
  abbrev low : ℕ
  low = (pieces_for s job).low

  abbrev high : ℕ
  high = (pieces_for s job).high

  abbrev ids : List Events
  ids = events_in s job.table job.partition

  abbrev made : DirName → Bool
  made = is_made work.table.writes job.partition

  its-range : IsSoundRange s job.table job.partition low high (length s.transactions + 1)
  its-range =
      range-is-sound s number low high (length s.transactions + 1) job sound.jobs work.is (record {
        working = work.working;
        live = ap is_live_one work.table_is ∙ work.live;
        some = work.some;
        low_is = refl;
        high_is = refl;
        mark_is = refl;
      })

  -- a delta of its range is made where commits say something of it
  wide-same : (deleted : Bool) → made (wide deleted low high) ≡ has_within deleted low high ids
  wide-same deleted =
      both-ways (made (wide deleted low high)) (has_within deleted low high ids)
      (within-range s sound.base job work.table work.table_is touched deleted low high its-range.first)
      (wide-made s sound.base said job work.table work.table_is deleted low high)

  ranges-same : (k : JobKind) → filter made (range_names k low high) ≡ final_names ids k low high
  ranges-same kind.Minor =
      filter-two made (wide false low high) (wide true low high)
      ∙ (λ i. final_if (wide-same false i) (wide false low high) ++ final_if (wide-same true i) (wide true low high))
  ranges-same kind.Major = refl

  finals-same : finals s job work.table.writes ≡ finals_of s job
  finals-same = ranges-same job.kind ∙ ap (λ b. unless_bare b (final_names ids job.kind low high)) (sym work.some)

pub finals-are-said : FinalsAreSaid
finals-are-said limits entries fit truth number job work =
    finals-same (state_of entries) (books-are-sound limits entries fit) (books-said limits entries fit truth) number job work
    (λ w among. books-touched limits entries fit truth job.table work.table w work.table_is among)
