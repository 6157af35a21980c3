-- What a note beside a book says is what its table or its job does.
use Rattle.std.proofs.Common.{◌≡◌, Bool, true, false, is_some, Option, Some, None, length, refl, sym, ap, subst}
use Rattle.std.specs.Prelude.{◌&&◌, ◌||◌, not, is_none, IsTrue}
use Rattle.std.specs.Option.{option_map}
use Rattle.hv_history.specs.declared.state.Table.{Table}
use Rattle.hv_history.specs.State.{Job}
use Rattle.hv_history.specs.Jobs.{is_failed, ids_of, is_live_one}
use Rattle.hv_tallies.specs.hv_earlier.specs.hv_meta.specs.hv_book.specs.declared.notes.TableNote.{TableNote}
use Rattle.hv_tallies.specs.hv_earlier.specs.hv_meta.specs.hv_book.specs.Briefs.{brief_table, brief_range, brief_job}
use Rattle.hv_queue.specs.declared.queue.JobState.{JobState}
use Rattle.hv_queue.specs.Queue.{state_if, state_by, note_state, says}

some-mapped : {A B : Type 0} (f : A → B) (o : Option A) → is_some (option_map f o) ≡ is_some o
some-mapped f None = refl
some-mapped f (Some x) = refl

-- ---- tables

pub given-some : (note : TableNote) (o : Option Table) → Some note ≡ option_map brief_table o → note.high ≡ length (ids_of o)
given-some note None is = cc
given-some note (Some t) is = let same : note ≡ brief_table t = cc in ap (λ (n : TableNote). n.high) same

pub given-none : (o : Option Table) → None ≡ option_map brief_table o → 0 ≡ length (ids_of o)
given-none None is = refl
given-none (Some t) is = cc

pub live-some : (note : TableNote) (o : Option Table) → Some note ≡ option_map brief_table o → note.is_live ≡ is_live_one o
live-some note None is = cc
live-some note (Some t) is = let same : note ≡ brief_table t = cc in ap (λ (n : TableNote). n.is_live) same

pub live-none : (o : Option Table) → None ≡ option_map brief_table o → false ≡ is_live_one o
live-none None is = refl
live-none (Some t) is = cc

-- ---- jobs

pub state-same : (j : Job) → note_state (brief_job j) ≡ state_by j
state-same j = ap (λ b. state_if (is_failed j) j.is_empty b j.is_cleaned (is_some j.watermark)) (some-mapped brief_range j.published)

none-is : {A : Type 0} (o : Option A) → is_some o ≡ false → is_none o ≡ true
none-is None is = refl
none-is (Some x) is = cc

-- the word of the state holds
pub state-says : (j : Job) → IsTrue (says (state_by j) j)
state-says j = by (is_some j.failure) j.is_empty (is_some j.published) j.is_cleaned (is_some j.watermark) refl refl refl refl refl
  where
    by : (f e p c w : Bool) → is_some j.failure ≡ f → j.is_empty ≡ e → is_some j.published ≡ p → j.is_cleaned ≡ c → is_some j.watermark ≡ w
        → IsTrue (says (state_if f e p c w) j)
    by true e p c w failed x published cleaned picked = failed
    by false true p c w failed x published cleaned picked = λ i. x i || (is_some j.published && j.is_cleaned)
    by false false true true w failed x published cleaned picked = λ i. x i || (published i && cleaned i)
    by false false true false w failed x published cleaned picked = λ i. published i && not (cleaned i)
    by false false false c true failed x published cleaned picked =
        λ i. picked i && (none-is j.published published i && (not (x i) && none-is j.failure failed i))
    by false false false c false failed x published cleaned picked =
        λ i. none-is j.watermark picked i && (none-is j.published published i && (not (x i) && none-is j.failure failed i))

pub says-as : (state : JobState) (j : Job) → state ≡ state_by j → IsTrue (says state j)
says-as state j is = subst (λ (s : JobState). IsTrue (says s j)) (sym is) (state-says j)
