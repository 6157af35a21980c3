-- The runs of a list of files are all of it.
use Rattle.std.proofs.Common.{◌≡◌, ℕ, zero, suc, ◌+◌, ◌≤◌, ◌⊎◌, inl, inr, Bool, true, false, cond, List, [], ◌∷◌, take, drop, length, refl, sym, ap, subst, arith}
use Rattle.std.specs.List.{prefix_len, AllByRecursion}
use Rattle.std.proofs.lemmas.List.{take-append-drop}
use Rattle.std.proofs.lemmas.Slice.Eq.{bytes_eq-Decides}
use Rattle.hv_law_visible.specs.Members.{IsIn}
use Rattle.hv_law_visible.proofs.MemberLemmas.{in-left, in-right, in-either}
use Rattle.hv_choosing.specs.declared.listing.DirFile.{DirFile}
use Rattle.hv_choosing.specs.Taken.{is_beside, run_length, runs}

pub prefix-bound : {X : Type 0} (p : X → Bool) (xs : List X) → prefix_len p xs ≤ length xs
prefix-bound p [] = omega arith
prefix-bound p (x ∷ xs) = by (p x) (prefix-bound p xs)
  where
    by : (b : Bool) → prefix_len p xs ≤ length xs → cond b (1 + prefix_len p xs) 0 ≤ suc (length xs)
    by true h = omega (arith, h)
    by false h = omega arith

pub all-take : {X : Type 0} (P : X → Type 0) (n : ℕ) (xs : List X) → AllByRecursion P xs → AllByRecursion P (take n xs)
all-take P zero xs all = tt
all-take P (suc n) [] all = tt
all-take P (suc n) (x ∷ xs) all = (all.0, all-take P n xs all.1)

pub all-drop : {X : Type 0} (P : X → Type 0) (n : ℕ) (xs : List X) → AllByRecursion P xs → AllByRecursion P (drop n xs)
all-drop P zero xs all = all
all-drop P (suc n) [] all = tt
all-drop P (suc n) (x ∷ xs) all = all-drop P n xs all.1

in-parts : (n : ℕ) (file : DirFile) (files : List DirFile) → IsIn file files → IsIn file (take n files) ⊎ IsIn file (drop n files)
in-parts n file files h = in-either file (take n files) (drop n files) (subst (IsIn file) (sym (take-append-drop n files)) h)

in-take : (n : ℕ) (file : DirFile) (files : List DirFile) → IsIn file (take n files) → IsIn file files
in-take n file files h = subst (IsIn file) (take-append-drop n files) (in-left file (take n files) (drop n files) h)

in-drop : (n : ℕ) (file : DirFile) (files : List DirFile) → IsIn file (drop n files) → IsIn file files
in-drop n file files h = subst (IsIn file) (take-append-drop n files) (in-right file (take n files) (drop n files) h)

pub run-in : (n : ℕ) (files run : List DirFile) (file : DirFile) → IsIn run (runs n files) → IsIn file run → IsIn file files
run-in zero files run file h k = absurd h
run-in (suc n) files run file (inl e) k = in-take (run_length files) file files (subst (IsIn file) (sym e) k)
run-in (suc n) files run file (inr h) k = in-drop (run_length files) file files (run-in n (drop (run_length files) files) run file h k)

beside-itself : (file : DirFile) → is_beside file file ≡ true
beside-itself file = (bytes_eq-Decides file.place.partition file.place.partition).1 refl

some-run : (file : DirFile) (files : List DirFile) → run_length (file ∷ files) ≡ 1 + prefix_len (is_beside file) files
some-run file files = ap (λ b. cond b (1 + prefix_len (is_beside file) files) 0) (beside-itself file)

drop-bound : (n k : ℕ) (files : List DirFile) → length files ≤ k + n → length (drop k files) ≤ n
drop-bound n zero files h = omega (arith, h)
drop-bound n (suc k) [] h = omega arith
drop-bound n (suc k) (file ∷ files) h = drop-bound n k files (omega (arith, h))

pub in-run : (n : ℕ) (files : List DirFile) (file : DirFile) → length files ≤ n → IsIn file files → (run : List DirFile) × IsIn run (runs n files) × IsIn file run
in-run n [] file few h = absurd h
in-run zero (first ∷ files) file few h = absurd (omega (arith, few))
in-run (suc n) (first ∷ files) file few h =
    by (in-parts (run_length (first ∷ files)) file (first ∷ files) h)
    (λ k. in-run n (drop (run_length (first ∷ files)) (first ∷ files)) file
    (drop-bound n (run_length (first ∷ files)) (first ∷ files) (let more = some-run first files in omega (arith, few, more))) k)
  where
    by : IsIn file (take (run_length (first ∷ files)) (first ∷ files)) ⊎ IsIn file (drop (run_length (first ∷ files)) (first ∷ files))
        → (IsIn file (drop (run_length (first ∷ files)) (first ∷ files)) → (run : List DirFile) × IsIn run (runs n (drop (run_length (first ∷ files)) (first ∷ files))) × IsIn file run)
        → (run : List DirFile) × IsIn run (runs (suc n) (first ∷ files)) × IsIn file run
    by (inl k) rest = (take (run_length (first ∷ files)) (first ∷ files), inl refl, k)
    by (inr k) rest = let at = rest k in (at.0, inr at.1, at.2)
