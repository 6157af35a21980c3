-- When a job may be taken up: it is the first one that waits.
use Rattle.std.proofs.Common.{◌≡◌, ℕ, zero, suc, ◌+◌, ◌-◌, ◌≤◌, Option, Some, None, List, [], ◌∷◌, map, sym, ap, ◌∙◌, subst, arith}
use Rattle.std.specs.Prelude.{if◌then◌else◌, Bool, true, false, ◌==◌, ◌&&◌, ◌↔◌, IsTrue, IsSomeAnd}
use Rattle.std.specs.Option.{option_map}
use Rattle.std.proofs.lemmas.Bool.{eq-eqb, eqb-true}
use Rattle.hv_base.specs.declared.ids.Limits.{Limits}
use Rattle.hv_queue.specs.hv_history.specs.State.{State, Job, numbered}
use Rattle.hv_queue.specs.hv_history.specs.Legal.{HasRoom}
use Rattle.hv_queue.specs.hv_history.specs.Jobs.{is_initiated, watermark}
use Rattle.hv_queue.specs.hv_history.specs.JobsFit.{OfJob, is_live_job, first_initiated, PickedFits}
use Rattle.hv_queue.specs.hv_tallies.specs.hv_earlier.specs.hv_meta.specs.hv_book.specs.declared.jobs.JobNote.{JobNote}
use Rattle.hv_queue.specs.hv_tallies.specs.hv_earlier.specs.hv_meta.specs.hv_book.specs.Briefs.{brief_job}
use Rattle.hv_queue.specs.hv_tallies.specs.hv_earlier.specs.hv_meta.proofs.FactLemmas.{and-left, and-right, and-both}
use Rattle.hv_job_fits.specs.Notes.{is_lowest}

-- ---- what is kept of the one job

pub note-is : (note other : JobNote) → Some note ≡ Some other → note ≡ other
note-is note other e = cc

pub no-note : {A : Type 0} (note : JobNote) → Some note ≡ None → A
no-note note e = cc

-- ---- the first one that waits

module _ (state : State) where
  -- none has the number 0
  none-lowest : (js : List Job) → is_lowest state 0 (map brief_job js) ≡ true → ⊥
  none-lowest [] e = cc
  none-lowest (j ∷ js) e = by (is_initiated j && is_live_job state j) (none-lowest js) e
    where
      by : (c : Bool) → (is_lowest state 0 (map brief_job js) ≡ true → ⊥) → (if c then false else is_lowest state 0 (map brief_job js)) ≡ true → ⊥
      by true rest f = cc
      by false rest f = rest f

  -- the one that is found has a number from the first one's on
  initiated-least : (k : ℕ) (js : List Job) (n : ℕ) → first_initiated state k js ≡ Some n → k ≤ n
  initiated-least k [] n e = cc
  initiated-least k (j ∷ js) n e = by (is_initiated j && is_live_job state j) (initiated-least (k + 1) js n) e
    where
      by : (c : Bool) → (first_initiated state (k + 1) js ≡ Some n → k + 1 ≤ n) → (if c then Some k else first_initiated state (k + 1) js) ≡ Some n → k ≤ n
      by true rest f = let same : k ≡ n = cc in omega (arith, same)
      by false rest f = let least = rest f in omega (arith, least)

  abbrev Finds : ℕ → List Job → Type 0
  Finds k js = (n : ℕ) → is_lowest state (suc n) (map brief_job js) ≡ true → first_initiated state k js ≡ Some (k + n)

  later : (k : ℕ) (js : List Job) → Finds (k + 1) js → (m : ℕ) → is_lowest state m (map brief_job js) ≡ true → first_initiated state (k + 1) js ≡ Some (k + m)
  later k js rest zero e = absurd (none-lowest js e)
  later k js rest (suc n) e = let same : k + 1 + n ≡ k + suc n = omega arith in rest n e ∙ ap Some same

  lowest-by : (k m : ℕ) (js : List Job) → Finds (k + 1) js → (c : Bool)
      → (if c then suc m == 1 else is_lowest state (suc m - 1) (map brief_job js)) ≡ true → (if c then Some k else first_initiated state (k + 1) js) ≡ Some (k + m)
  lowest-by k m js rest true e =
      let one : suc m ≡ 1 = eqb-true (suc m) 1 e in
      let same : k ≡ k + m = omega (arith, one) in
      ap Some same
  lowest-by k m js rest false e =
      let one : suc m - 1 ≡ m = omega arith in
      later k js rest m (subst (λ n. is_lowest state n (map brief_job js) ≡ true) one e)

  lowest-first : (k : ℕ) (js : List Job) → Finds k js
  lowest-first k [] m e = cc
  lowest-first k (j ∷ js) m e = lowest-by k m js (lowest-first (k + 1) js) (is_initiated j && is_live_job state j) e

  abbrev IsFound : ℕ → List Job → Type 0
  IsFound k js = (n : ℕ) → first_initiated state k js ≡ Some (k + n) → is_lowest state (suc n) (map brief_job js) ≡ true

  earlier : (k : ℕ) (js : List Job) → IsFound (k + 1) js → (m : ℕ) → first_initiated state (k + 1) js ≡ Some (k + m) → is_lowest state m (map brief_job js) ≡ true
  earlier k js rest zero e = let least = initiated-least (k + 1) js (k + 0) e in absurd (omega (arith, least))
  earlier k js rest (suc n) e = let same : k + suc n ≡ k + 1 + n = omega arith in rest n (e ∙ ap Some same)

  first-by : (k m : ℕ) (js : List Job) → IsFound (k + 1) js → (c : Bool) → (if c then Some k else first_initiated state (k + 1) js) ≡ Some (k + m)
      → (if c then suc m == 1 else is_lowest state (suc m - 1) (map brief_job js)) ≡ true
  first-by k m js rest true e =
      let same : k ≡ k + m = cc in
      let one : suc m ≡ 1 = omega (arith, same) in
      eq-eqb (suc m) 1 one
  first-by k m js rest false e =
      let one : m ≡ suc m - 1 = omega arith in
      subst (λ n. is_lowest state n (map brief_job js) ≡ true) one (earlier k js rest m e)

  first-lowest : (k : ℕ) (js : List Job) → IsFound k js
  first-lowest k [] m e = cc
  first-lowest k (j ∷ js) m e = first-by k m js (first-lowest (k + 1) js) (is_initiated j && is_live_job state j) e

  lowest-law : (number : ℕ) → IsTrue (is_lowest state number (map brief_job state.jobs)) ↔ (first_initiated state 1 state.jobs ≡ Some number)
  lowest-law zero = (
    λ e. absurd (none-lowest state.jobs e),
    λ f. absurd (let least = initiated-least 1 state.jobs 0 f in omega (arith, least)),
  )
  lowest-law (suc m) =
      let same : 1 + m ≡ suc m = omega arith in (
        λ e. lowest-first 1 state.jobs m e ∙ ap Some same,
        λ f. first-lowest 1 state.jobs m (f ∙ ap Some (sym same)),
      )

  module _ (limits : Limits) (number mark front : ℕ) (note : JobNote) (lowest r : Bool)
      (lowest_is : lowest ≡ is_lowest state number (map brief_job state.jobs))
      (front_is : front ≡ watermark state note.table)
      (room : IsTrue r ↔ HasRoom limits state 2) where
    picked-in : (o : Option Job) → Some note ≡ option_map brief_job o
        → (IsTrue (lowest && ((mark == front) && r))) ↔ IsSomeAnd o (PickedFits limits state number mark)
    picked-in None is = no-note note is
    picked-in (Some j) is =
        let same = note-is note (brief_job j) is in
        let law = lowest-law number in
        let at : front ≡ watermark state j.table = front_is ∙ ap (λ (n : JobNote). watermark state n.table) same in (
          λ e.
              let e1 : ((mark == front) && r) ≡ true = and-right lowest ((mark == front) && r) e in
              record {
                lowest = law.0 (sym lowest_is ∙ and-left lowest ((mark == front) && r) e);
                mark_is = eqb-true mark front (and-left (mark == front) r e1) ∙ at;
                room = room.0 (and-right (mark == front) r e1);
              },
          λ h.
              let e1 : ((mark == front) && r) ≡ true = and-both (mark == front) r (eq-eqb mark front (h.mark_is ∙ sym at)) (room.1 h.room) in
              and-both lowest ((mark == front) && r) (lowest_is ∙ law.1 h.lowest) e1,
        )

    pub picked-law : Some note ≡ option_map brief_job (numbered state.jobs number)
        → (IsTrue (lowest && ((mark == front) && r))) ↔ OfJob state number (PickedFits limits state number mark)
    picked-law is = picked-in (numbered state.jobs number) is
