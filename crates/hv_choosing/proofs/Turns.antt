-- Partition by partition: what one turn of the walk leaves.
use Rattle.std.proofs.Common.{◌≡◌, ℕ, zero, suc, ◌+◌, ◌-◌, ◌<◌, ◌≤◌, Bool, false, List, [], ◌∷◌, ◌++◌, take, drop, length, refl, sym, ap, ◌∙◌, subst, arith, append-nil, append_assoc}
use Rattle.std.specs.List.{flat_map, AllByRecursion}
use Rattle.std.proofs.Math.Dec.{ltb}
use Rattle.std.proofs.lemmas.Bool.{ltb-false}
use Rattle.std.proofs.lemmas.List.Concat.{flat_map-cons}
use Rattle.hv_wids.specs.WriteIds.{WriteIds}
use Rattle.hv_dirs.specs.Choice.{Sight, sight_of}
use Rattle.hv_choosing.specs.declared.listing.DirFile.{DirFile}
use Rattle.hv_choosing.specs.Listing.{IsNamed}
use Rattle.hv_choosing.specs.Taken.{text_at, run_length, runs, run_taken, files_taken}
use Rattle.hv_choosing.proofs.Partitions.{all-drop}

none-behind : (run : List DirFile) (i : ℕ) → length run ≤ i → text_at run i ≡ []
none-behind [] i low = refl
none-behind (file ∷ run) zero low = absurd (omega (arith, low))
none-behind (file ∷ run) (suc i) low = none-behind run i (omega (arith, low))

pub no-text : (run : List DirFile) (i : ℕ) (texts : List (List ℕ)) → false ≡ ltb i (length run) → texts ≡ texts ++ text_at run i
no-text run i texts e =
    sym (append-nil texts) ∙ ap (λ (more : List (List ℕ)). texts ++ more) (sym (none-behind run i (ltb-false i (length run) (sym e))))

pub begun : (deletes : Bool) (list : WriteIds) (files items : List DirFile) → items ≡ []
    → items ++ flat_map (run_taken deletes (sight_of list)) (runs (length files - 0) files) ≡ files_taken deletes list files
unfolding files_taken
begun deletes list files items none =
    let all : length files - 0 ≡ length files = omega arith in
    λ i. none i ++ flat_map (run_taken deletes (sight_of list)) (runs (all i) files)

pub turned : (deletes : Bool) (sight : Sight) (n i : ℕ) (rest front back items more whole : List DirFile) (k : ℕ) → i < n → k ≡ run_length rest → front ≡ take k rest → back ≡ drop k rest
    → more ≡ items ++ run_taken deletes sight front → items ++ flat_map (run_taken deletes sight) (runs (n - i) rest) ≡ whole
    → more ++ flat_map (run_taken deletes sight) (runs (n - (i + 1)) back) ≡ whole
turned deletes sight n i rest front back items more whole k low is front_is back_is more_is before =
    let next : n - i ≡ suc (n - (i + 1)) = omega (arith, low) in
    let f = run_taken deletes sight in
    let front_at : front ≡ take (run_length rest) rest = front_is ∙ ap (λ m. take m rest) is in
    let back_at : back ≡ drop (run_length rest) rest = back_is ∙ ap (λ m. drop m rest) is in
    (λ j. more_is j ++ flat_map f (runs (n - (i + 1)) back))
    ∙ append_assoc items (f front) (flat_map f (runs (n - (i + 1)) back))
    ∙ (λ j. items ++ (f (front_at j) ++ flat_map f (runs (n - (i + 1)) (back_at j))))
    ∙ ap (λ (tail : List DirFile). items ++ tail) (sym (flat_map-cons f (take (run_length rest) rest) (runs (n - (i + 1)) (drop (run_length rest) rest))))
    ∙ ap (λ m. items ++ flat_map f (runs m rest)) (sym next)
    ∙ before

pub named-behind : (k : ℕ) (rest back : List DirFile) → back ≡ drop k rest → AllByRecursion IsNamed rest → AllByRecursion IsNamed back
named-behind k rest back is all = subst (AllByRecursion IsNamed) (sym is) (all-drop IsNamed k rest all)
