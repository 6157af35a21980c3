-- What is kept beside a book says of a job whether it is ready, and of a table how many write ids it gave.
use Rattle.std.proofs.Common.{◌≡◌, ◌↔◌, ℕ, suc, ◌+◌, Bool, true, false, true≢false, Option, Some, None, List, [], ◌∷◌, map, length, refl, sym, ap, ◌∙◌, subst, arith}
use Rattle.std.specs.Prelude.{◌==◌, ◌&&◌, not, is_some, IsTrue, IsSomeAnd, option_map}
use Rattle.std.specs.List.{slice_get, list_any}
use Rattle.hv_history.specs.declared.state.Table.{Table}
use Rattle.hv_history.specs.State.{State, Job, numbered}
use Rattle.hv_history.specs.Jobs.{is_ready, is_live_one, ids_of}
use Rattle.hv_history.specs.JobsFit.{OfJob, is_aborted_id}
use Rattle.hv_stands.proofs.Numbers.{numbered-map}
use Rattle.hv_book.specs.declared.jobs.JobNote.{JobNote}
use Rattle.hv_book.specs.declared.notes.TableNote.{TableNote}
use Rattle.hv_book.specs.Briefs.{brief_job, brief_range, brief_table}
use Rattle.hv_job_calls.proofs.Notes.{note-of, no-note}
use Rattle.hv_job_acts.specs.declared.asking.LostId.{LostId}
use Rattle.hv_job_acts.specs.Work.{is_ready_note, is_ready_in, is_lost_at, lost_at, one_of, is_live_note}

-- ---- jobs

some-mapped : {A B : Type 0} (f : A → B) (o : Option A) → is_some (option_map f o) ≡ is_some o
some-mapped f None = refl
some-mapped f (Some x) = refl

ready-same : (note : JobNote) (j : Job) → note ≡ brief_job j → is_ready_note note ≡ is_ready j
ready-same note j same = ap is_ready_note same ∙ ap (λ b. b && not j.is_cleaned) (some-mapped brief_range j.published)

module _ (state : State) (n : ℕ) where
  pub ready-by : (note : JobNote) → Some note ≡ numbered (map brief_job state.jobs) n
      → (is_ready_note note && is_live_one (numbered state.tables note.table)) ≡ is_ready_in state (numbered state.jobs n)
  ready-by note e =
      let there = note-of state.jobs n note e in
      (λ i. ready-same note there.0 there.2 i && is_live_one (numbered state.tables (there.2 i).table)) ∙ ap (is_ready_in state) (sym there.1)

  pub ready-none : None ≡ numbered (map brief_job state.jobs) n → false ≡ is_ready_in state (numbered state.jobs n)
  ready-none e = ap (is_ready_in state) (sym (no-note state.jobs n e))

  pub ready-iff : (note : JobNote) (b : Bool) → Some note ≡ numbered (map brief_job state.jobs) n → b ≡ is_ready_note note
      → IsTrue b ↔ OfJob state n (λ (j : Job). IsTrue (is_ready j))
  ready-iff note b e is =
      let there = note-of state.jobs n note e in
      let same = is ∙ ready-same note there.0 there.2 in
      subst (λ (o : Option Job). IsTrue b ↔ IsSomeAnd o (λ (j : Job). IsTrue (is_ready j))) (sym there.1) (λ t. sym same ∙ t, λ t. same ∙ t)

  pub unready-iff : None ≡ numbered (map brief_job state.jobs) n → IsTrue false ↔ OfJob state n (λ (j : Job). IsTrue (is_ready j))
  unready-iff e =
      subst (λ (o : Option Job). IsTrue false ↔ IsSomeAnd o (λ (j : Job). IsTrue (is_ready j))) (sym (no-note state.jobs n e))
      (λ t. absurd (true≢false (sym t)), λ t. absurd t)

-- ---- tables

given-in : (note : TableNote) (o : Option Table) → Some note ≡ option_map brief_table o → note.high ≡ length (ids_of o)
given-in note None e = cc
given-in note (Some t) e = let same : note ≡ brief_table t = cc in ap (λ (x : TableNote). x.high) same

none-given : (o : Option Table) → None ≡ option_map brief_table o → 0 ≡ length (ids_of o)
none-given None e = refl
none-given (Some t) e = cc

pub given-by : (tables : List Table) (n : ℕ) (note : TableNote) → Some note ≡ numbered (map brief_table tables) n → note.high ≡ length (ids_of (numbered tables n))
given-by tables n note e = given-in note (numbered tables n) (e ∙ numbered-map brief_table tables n)

pub given-none : (tables : List Table) (n : ℕ) → None ≡ numbered (map brief_table tables) n → 0 ≡ length (ids_of (numbered tables n))
given-none tables n e = none-given (numbered tables n) (e ∙ numbered-map brief_table tables n)

-- whether each is live
pub live-same : (tables : List Table) → map is_live_note (map brief_table tables) ≡ map (λ (table : Table). table.is_live) tables
live-same [] = refl
live-same (t ∷ ts) = ap (λ (rest : List Bool). t.is_live ∷ rest) (live-same ts)

-- behind the last id there is nothing that was aborted
never-and : (l : Bool) → (l && false) ≡ false
never-and true = refl
never-and false = refl

pub no-id : (state : State) (table i : ℕ) → slice_get (ids_of (numbered state.tables table)) i ≡ None → lost_at state table (i + 1) ≡ []
no-id state table i none =
    ap (λ b. one_of {X = LostId} b (record { table = record { 0 = table }; write = record { 0 = i + 1 } })) (by (numbered state.tables table) none)
  where
    by : (o : Option Table) → slice_get (ids_of o) i ≡ None → is_lost_at state (i + 1) o ≡ false
    by None e = refl
    by (Some t) e =
        let next : suc i ≡ i + 1 = omega arith in
        let gone : numbered t.owners (i + 1) ≡ None = ap (λ n. numbered t.owners n) (sym next) ∙ e in
        ap (λ (o : Option ℕ). t.is_live && (is_aborted_id state.transactions o && not (list_any (λ other. other == i + 1) t.forgotten))) gone
        ∙ never-and t.is_live
