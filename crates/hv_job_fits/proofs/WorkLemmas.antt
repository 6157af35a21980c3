-- When the work of a job may end, and when what it covers is gone.
use Rattle.std.proofs.Common.{◌≡◌, ℕ, ◌+◌, Option, Some, None, List, [], ◌∷◌, map, length, refl, sym, ap, ◌∙◌, true≢false}
use Rattle.std.specs.Prelude.{if◌then◌else◌, Bool, true, false, not, is_none, is_some, nat_lt, nat_le, ◌==◌, ◌&&◌, ◌↔◌, IsTrue, IsFalse, IsSomeAnd}
use Rattle.std.specs.Option.{option_map}
use Rattle.std.proofs.lemmas.Bool.{eq-eqb, eqb-true, lt-leb, le-leb, ltb-true, ltb-false}
use Rattle.hv_base.specs.declared.ids.Limits.{Limits}
use Rattle.hv_queue.specs.hv_history.specs.declared.entry.JobCause.{JobCause}
use Rattle.hv_queue.specs.hv_history.specs.declared.state.Transaction.{Transaction}
use Rattle.hv_queue.specs.hv_history.specs.State.{State, Job, numbered}
use Rattle.hv_queue.specs.hv_history.specs.Legal.{HasRoom, is_open, is_working}
use Rattle.hv_queue.specs.hv_history.specs.Jobs.{Pieces, first_open, if_below, is_past_by, is_ready, is_live_one, is_empty_of, pieces_for}
use Rattle.hv_queue.specs.hv_history.specs.JobsFit.{OfJob, is_live_job, is_gone_cause, JobCauseFits, PublishedFits, EmptyFits, FailedFits, CleanedFits}
use Rattle.hv_queue.specs.hv_tallies.specs.hv_earlier.specs.hv_meta.specs.hv_book.specs.declared.jobs.JobNote.{JobNote}
use Rattle.hv_queue.specs.hv_tallies.specs.hv_earlier.specs.hv_meta.specs.hv_book.specs.Jobs.{is_working_note}
use Rattle.hv_queue.specs.hv_tallies.specs.hv_earlier.specs.hv_meta.specs.hv_book.specs.Briefs.{brief, brief_job, brief_range, end_of, open_from, open_next}
use Rattle.hv_queue.specs.hv_tallies.specs.hv_earlier.specs.hv_meta.specs.hv_book.proofs.LoadLaws.{working-same}
use Rattle.hv_queue.specs.declared.queue.JobPieces.{JobPieces}
use Rattle.hv_queue.specs.Queue.{pieces_in}
use Rattle.hv_queue.specs.hv_tallies.specs.hv_earlier.specs.hv_meta.proofs.FactLemmas.{and-left, and-right, and-both, false-is}
use Rattle.hv_job_fits.specs.Notes.{is_ready_note, is_past_mark, is_past_note}
use Rattle.hv_job_fits.proofs.WaitLemmas.{note-is, no-note}

-- ---- what a note says

none-mapped : {A B : Type 0} (f : A → B) (o : Option A) → is_none (option_map f o) ≡ is_none o
none-mapped f None = refl
none-mapped f (Some x) = refl

some-mapped : {A B : Type 0} (f : A → B) (o : Option A) → is_some (option_map f o) ≡ is_some o
some-mapped f None = refl
some-mapped f (Some x) = refl

-- where there is no note, there is no job
pub none-of-job : (P : Job → Type 0) (o : Option Job) → None ≡ option_map brief_job o → IsTrue false ↔ IsSomeAnd o P
none-of-job P None is = (λ e. cc, λ h. absurd h)
none-of-job P (Some j) is = cc

-- ---- the first open transaction, and those that are kept

mark-one : (mark k : ℕ) → nat_le mark k ≡ is_none (if nat_lt k mark then Some k else None)
mark-one mark k = by (nat_lt k mark) refl
  where
    by : (c : Bool) → nat_lt k mark ≡ c → nat_le mark k ≡ is_none (if c then Some k else None)
    by true below = lt-leb mark k (ltb-true k mark below)
    by false above = le-leb mark k (ltb-false k mark above)

past-mark : (mark k : ℕ) (ts : List Transaction) → is_past_mark mark (open_from k (map brief ts)) ≡ is_none (if_below mark (first_open k ts))
past-mark mark k [] = refl
past-mark mark k (t ∷ ts) =
    ap (λ c. is_past_mark mark (open_next c k (open_from (k + 1) (map brief ts)))) (none-mapped end_of t.ending) ∙ by (is_open t) (past-mark mark (k + 1) ts)
  where
    by : (c : Bool) → is_past_mark mark (open_from (k + 1) (map brief ts)) ≡ is_none (if_below mark (first_open (k + 1) ts))
        → is_past_mark mark (open_next c k (open_from (k + 1) (map brief ts))) ≡ is_none (if_below mark (if c then Some k else first_open (k + 1) ts))
    by true rest = mark-one mark k
    by false rest = rest

past-range : (state : State) (o : Option (ℕ × ℕ × ℕ)) → is_past_note state (option_map brief_range o) ≡ is_past_by state o
past-range state None = refl
past-range state (Some range) = past-mark range.2 1 state.transactions

-- ---- a cause that says that the table was dropped, just where it was

gone-law : (gone live : Bool) → (IsTrue (if gone then not live else live)) ↔ (IsTrue gone ↔ IsFalse live)
gone-law true true = (λ e. absurd (true≢false (sym e)), λ h. let bad : true ≡ false = h.0 refl in sym bad)
gone-law true false = (λ e. (λ x. refl, λ x. refl), λ h. refl)
gone-law false true = (λ e. (λ x. cc, λ x. cc), λ h. refl)
gone-law false false = (λ e. absurd (true≢false (sym e)), λ h. h.1 refl)

-- ---- what fits

module _ (state : State) (number : ℕ) (note : JobNote) where
  module _ (w : Bool) (working : w ≡ is_working_note note) where
    works : (j : Job) → note ≡ brief_job j → w ≡ is_working j
    works j same = working ∙ ap is_working_note same ∙ working-same j

    module _ (merged : JobPieces) (x : Bool) (pieces : (j : Job) → numbered state.jobs number ≡ Some j → pieces_in merged ≡ pieces_for state j)
        (empty : x ≡ is_empty_of note.kind (pieces_in merged)) where
      merges : (j : Job) → numbered state.jobs number ≡ Some j → note ≡ brief_job j → x ≡ is_empty_of j.kind (pieces_for state j)
      merges j at same = empty ∙ (λ i. is_empty_of (same i).kind (pieces j at i))

      empty-in : (o : Option Job) → numbered state.jobs number ≡ o → Some note ≡ option_map brief_job o → (IsTrue (w && x)) ↔ IsSomeAnd o (EmptyFits state)
      empty-in None at is = no-note note is
      empty-in (Some j) at is =
          let same = note-is note (brief_job j) is in
          let work = works j same in
          let none = merges j at same in (
            λ e. record { working = sym work ∙ and-left w x e; nothing = sym none ∙ and-right w x e },
            λ h. and-both w x (work ∙ h.working) (none ∙ h.nothing),
          )

      pub empty-law : Some note ≡ option_map brief_job (numbered state.jobs number) → (IsTrue (w && x)) ↔ OfJob state number (EmptyFits state)
      empty-law is = empty-in (numbered state.jobs number) refl is

      module _ (low high mark next : ℕ) (l : Bool) (live : l ≡ is_live_one (numbered state.tables note.table)) (number_is : next ≡ length state.transactions + 1) where
        abbrev ends : Bool
        ends = (low == merged.low.0) && (high == merged.high.0)

        abbrev whole : Bool
        whole = ends && (mark == next)

        published-in : (o : Option Job) → numbered state.jobs number ≡ o → Some note ≡ option_map brief_job o
            → (IsTrue (w && (l && (not x && whole)))) ↔ IsSomeAnd o (PublishedFits state low high mark)
        published-in None at is = no-note note is
        published-in (Some j) at is =
            let same = note-is note (brief_job j) is in
            let work = works j same in
            let lives : l ≡ is_live_job state j = live ∙ ap (λ (n : JobNote). is_live_one (numbered state.tables n.table)) same in
            let none = merges j at same in
            let parts = pieces j at in
            let low_is : merged.low.0 ≡ (pieces_for state j).low = ap (λ (p : Pieces). p.low) parts in
            let high_is : merged.high.0 ≡ (pieces_for state j).high = ap (λ (p : Pieces). p.high) parts in
            let some = false-is x in (
              λ e.
                  let e1 : (l && (not x && whole)) ≡ true = and-right w (l && (not x && whole)) e in
                  let e2 : (not x && whole) ≡ true = and-right l (not x && whole) e1 in
                  let e3 : whole ≡ true = and-right (not x) whole e2 in
                  let e4 : ends ≡ true = and-left ends (mark == next) e3 in
                  record {
                    working = sym work ∙ and-left w (l && (not x && whole)) e;
                    live = sym lives ∙ and-left l (not x && whole) e1;
                    some = sym none ∙ some.0 (and-left (not x) whole e2);
                    low_is = eqb-true low merged.low.0 (and-left (low == merged.low.0) (high == merged.high.0) e4) ∙ low_is;
                    high_is = eqb-true high merged.high.0 (and-right (low == merged.low.0) (high == merged.high.0) e4) ∙ high_is;
                    mark_is = eqb-true mark next (and-right ends (mark == next) e3) ∙ number_is;
                  },
              λ h.
                  let low_same : (low == merged.low.0) ≡ true = eq-eqb low merged.low.0 (h.low_is ∙ sym low_is) in
                  let high_same : (high == merged.high.0) ≡ true = eq-eqb high merged.high.0 (h.high_is ∙ sym high_is) in
                  let mark_same : (mark == next) ≡ true = eq-eqb mark next (h.mark_is ∙ sym number_is) in
                  let e4 : ends ≡ true = and-both (low == merged.low.0) (high == merged.high.0) low_same high_same in
                  let e3 : whole ≡ true = and-both ends (mark == next) e4 mark_same in
                  let e2 : (not x && whole) ≡ true = and-both (not x) whole (some.1 (none ∙ h.some)) e3 in
                  and-both w (l && (not x && whole)) (work ∙ h.working) (and-both l (not x && whole) (lives ∙ h.live) e2),
            )

        pub published-law : Some note ≡ option_map brief_job (numbered state.jobs number)
            → (IsTrue (w && (l && (not x && whole)))) ↔ OfJob state number (PublishedFits state low high mark)
        published-law is = published-in (numbered state.jobs number) refl is

    module _ (cause : JobCause) (l g f : Bool) (live : l ≡ is_live_one (numbered state.tables note.table)) (gone : g ≡ (if is_gone_cause cause then not l else l))
        (fresh : IsTrue f ↔ JobCauseFits state cause) where
      failed-in : (o : Option Job) → Some note ≡ option_map brief_job o → (IsTrue (w && (g && f))) ↔ IsSomeAnd o (FailedFits state cause)
      failed-in None is = no-note note is
      failed-in (Some j) is =
          let same = note-is note (brief_job j) is in
          let work = works j same in
          let lives : l ≡ is_live_job state j = live ∙ ap (λ (n : JobNote). is_live_one (numbered state.tables n.table)) same in
          let says : g ≡ (if is_gone_cause cause then not (is_live_job state j) else is_live_job state j) =
          gone ∙ ap (λ b. if is_gone_cause cause then not b else b) lives
          in
          let law = gone-law (is_gone_cause cause) (is_live_job state j) in (
            λ e.
                let e1 : (g && f) ≡ true = and-right w (g && f) e in
                record {
                  working = sym work ∙ and-left w (g && f) e;
                  gone = law.0 (sym says ∙ and-left g f e1);
                  cause_fits = fresh.0 (and-right g f e1);
                },
            λ h. and-both w (g && f) (work ∙ h.working) (and-both g f (says ∙ law.1 h.gone) (fresh.1 h.cause_fits)),
          )

      pub failed-law : Some note ≡ option_map brief_job (numbered state.jobs number) → (IsTrue (w && (g && f))) ↔ OfJob state number (FailedFits state cause)
      failed-law is = failed-in (numbered state.jobs number) is

  module _ (limits : Limits) (y p r : Bool) (ready : y ≡ is_ready_note note) (past : p ≡ is_past_note state note.published) (room : IsTrue r ↔ HasRoom limits state 1) where
    cleaned-in : (o : Option Job) → Some note ≡ option_map brief_job o → (IsTrue (y && (p && r))) ↔ IsSomeAnd o (CleanedFits limits state)
    cleaned-in None is = no-note note is
    cleaned-in (Some j) is =
        let same = note-is note (brief_job j) is in
        let stands : y ≡ is_ready j = ready ∙ ap is_ready_note same ∙ ap (λ b. b && not j.is_cleaned) (some-mapped brief_range j.published) in
        let passed : p ≡ is_past_by state j.published = past ∙ ap (λ (n : JobNote). is_past_note state n.published) same ∙ past-range state j.published in (
          λ e.
              let e1 : (p && r) ≡ true = and-right y (p && r) e in
              record { ready = sym stands ∙ and-left y (p && r) e; past = sym passed ∙ and-left p r e1; room = room.0 (and-right p r e1) },
          λ h. and-both y (p && r) (stands ∙ h.ready) (and-both p r (passed ∙ h.past) (room.1 h.room)),
        )

    pub cleaned-law : Some note ≡ option_map brief_job (numbered state.jobs number) → (IsTrue (y && (p && r))) ↔ OfJob state number (CleanedFits limits state)
    cleaned-law is = cleaned-in (numbered state.jobs number) is
