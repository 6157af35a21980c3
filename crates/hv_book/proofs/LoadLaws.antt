-- What is open and at work, by number and by note.
use Rattle.std.proofs.Common.{◌≡◌, ℕ, suc, ◌+◌, Option, Some, None, List, [], ◌∷◌, length, map, refl, sym, ap, ◌∙◌, arith}
use Rattle.std.specs.Prelude.{not, ◌&&◌, is_none, is_some, sum_by}
use Rattle.std.specs.Option.{option_map}
use Rattle.std.proofs.lemmas.List.Sums.{sum_by-cons}
use Rattle.hv_history.specs.declared.state.Transaction.{Transaction}
use Rattle.hv_history.specs.declared.state.Ending.{Ending}
use Rattle.hv_history.specs.State.{Job}
use Rattle.hv_history.specs.Legal.{open_one, one_if, is_working, working_one}
use Rattle.hv_book.specs.Jobs.{is_working_note, working_note}
use Rattle.hv_book.specs.Briefs.{brief, brief_range, brief_job, end_of, open_from, open_next}

pub open-count : (m : ℕ) (ts : List Transaction) → length (open_from m (map brief ts)) ≡ sum_by open_one ts
open-count m [] = refl
open-count m (t ∷ ts) = by t.ending refl (open-count (m + 1) ts) ∙ sym (sum_by-cons open_one t ts)
  where
    by : (e : Option Ending) → t.ending ≡ e → length (open_from (m + 1) (map brief ts)) ≡ sum_by open_one ts
        → length (open_next (is_none (option_map end_of t.ending)) m (open_from (m + 1) (map brief ts))) ≡ one_if (is_none t.ending) + sum_by open_one ts
    by None is rest =
        ap (λ (o : Option Ending). length (open_next (is_none (option_map end_of o)) m (open_from (m + 1) (map brief ts)))) is
        ∙ (let more : suc (length (open_from (m + 1) (map brief ts))) ≡ 1 + sum_by open_one ts = omega (arith, rest) in more)
        ∙ ap (λ (o : Option Ending). one_if (is_none o) + sum_by open_one ts) (sym is)
    by (Some e) is rest =
        ap (λ (o : Option Ending). length (open_next (is_none (option_map end_of o)) m (open_from (m + 1) (map brief ts)))) is
        ∙ (let same : length (open_from (m + 1) (map brief ts)) ≡ 0 + sum_by open_one ts = omega (arith, rest) in same)
        ∙ ap (λ (o : Option Ending). one_if (is_none o) + sum_by open_one ts) (sym is)

some-none : {A : Type 0} (o : Option A) → not (is_some o) ≡ is_none o
some-none None = refl
some-none (Some x) = refl

none-mapped : {A B : Type 0} (f : A → B) (o : Option A) → is_none (option_map f o) ≡ is_none o
none-mapped f None = refl
none-mapped f (Some x) = refl

pub working-same : (j : Job) → is_working_note (brief_job j) ≡ is_working j
working-same j =
    ap (λ b. is_some j.watermark && (b && (not j.is_empty && not (is_some j.failure)))) (none-mapped brief_range j.published)
    ∙ ap (λ b. is_some j.watermark && (is_none j.published && (not j.is_empty && b))) (some-none j.failure)

pub working-count : (js : List Job) → sum_by working_note (map brief_job js) ≡ sum_by working_one js
working-count [] = refl
working-count (j ∷ js) =
    sum_by-cons working_note (brief_job j) (map brief_job js)
    ∙ ap (λ b. one_if b + sum_by working_note (map brief_job js)) (working-same j) ∙ ap (λ n. working_one j + n) (working-count js)
    ∙ sym (sum_by-cons working_one j js)
