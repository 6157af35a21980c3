-- Deltas with the places of their names, as the choice sorts and takes them.
use Rattle.std.specs.Prelude.{◌≡◌, ℕ, zero, suc, ◌+◌, ◌==◌, nat_lt, Bool, true, false, ◌&&◌, if◌then◌else◌, Option, Some, None, List, [], ◌∷◌, ◌≤◌}
use Rattle.std.specs.List.{cons_option}
use Rattle.std.specs.declared.cmp.Ordering.{Ordering}
use Rattle.std.specs.Ordering.{nat_cmp, on, then_cmp, flip_args, eq_by_cmp, as_partial_cmp}
use Rattle.std.specs.Cmp.{IsTotalOrder, IsPartialOrder, po, on_total, then_total, nat_cmp_total, both_tied, unsigned_ties}
use Rattle.std.proofs.lemmas.Cmp.{back_total}
use Rattle.std.proofs.Common.{inl, inr, sym, ◌∙◌, eq-eqb, ne_eqb}
use Rattle.std.proofs.lemmas.Bool.{cases_eq}
use Rattle.hv_dirs.specs.declared.candidate.Candidate.{Candidate}
use Rattle.hv_dirs.specs.declared.names.DirName.{DirName}
use Rattle.hv_dirs.specs.declared.names.DirName.TheVariants as dir
use Rattle.hv_dirs.specs.Choice.{Sight, Delta, Own, Wide, low_of, high_of, rank_of, statement_of, base_named}

-- ---- their order

unfoldable pub candidate_cmp : Candidate → Candidate → Ordering
candidate_cmp =
    then_cmp (on (λ (c : Candidate). c.low) nat_cmp)
    (then_cmp (on (λ (c : Candidate). c.high) (flip_args nat_cmp))
    (then_cmp (on (λ (c : Candidate). c.rank) nat_cmp)
    (then_cmp (on (λ (c : Candidate). c.statement) nat_cmp) (on (λ (c : Candidate). c.place) nat_cmp))))

abbrev pub candidate_eq : Candidate → Candidate → Bool
candidate_eq x y =
    (x.low == y.low) && ((x.high == y.high) && ((x.rank == y.rank) && ((x.statement == y.statement) && (x.place == y.place))))

pub candidate_total : IsTotalOrder candidate_cmp
unfolding candidate_cmp
candidate_total =
    then_total (on_total (λ (c : Candidate). c.low) nat_cmp_total)
    (then_total (on_total (λ (c : Candidate). c.high) (back_total nat_cmp_total))
    (then_total (on_total (λ (c : Candidate). c.rank) nat_cmp_total)
    (then_total (on_total (λ (c : Candidate). c.statement) nat_cmp_total) (on_total (λ (c : Candidate). c.place) nat_cmp_total))))

swapped_eq : (x y : ℕ) → (x == y) ≡ (y == x)
swapped_eq x y = elim (cases_eq x y) [
  | inl e ↦ eq-eqb x y e ∙ sym (eq-eqb y x (sym e))
  | inr other ↦ ne_eqb x y other ∙ sym (ne_eqb y x (λ e. other (sym e)))
]

flipped_ties : (x y : ℕ) → (x == y) ≡ eq_by_cmp (flip_args nat_cmp) x y
flipped_ties x y = swapped_eq x y ∙ unsigned_ties y x

-- what the order doesn't tell apart is equal
pub candidate_ties : (x y : Candidate) → candidate_eq x y ≡ eq_by_cmp candidate_cmp x y
unfolding candidate_cmp
candidate_ties x y =
    both_tied _ _ _ _ (unsigned_ties x.low y.low)
    (both_tied _ _ _ _ (flipped_ties x.high y.high)
    (both_tied _ _ _ _ (unsigned_ties x.rank y.rank)
    (both_tied _ _ _ _ (unsigned_ties x.statement y.statement) (unsigned_ties x.place y.place))))

pub candidate_laws : IsPartialOrder candidate_eq (as_partial_cmp candidate_cmp)
candidate_laws = po candidate_total candidate_ties

-- ---- the delta of a candidate

abbrev pub delta_by : ℕ → Candidate → Delta
delta_by zero c = Wide c.low c.high
delta_by (suc rank) c = Own c.low c.statement

abbrev pub delta_of : Candidate → Delta
delta_of c = delta_by c.rank c

-- its fields are those of the delta
pub record IsProper (c : Candidate) : Type 0 where
  pub order : c.low ≤ c.high
  pub low_is : c.low ≡ low_of (delta_of c)
  pub high_is : c.high ≡ high_of (delta_of c)
  pub rank_is : c.rank ≡ rank_of (delta_of c)
  pub statement_is : c.statement ≡ statement_of (delta_of c)

-- ---- the candidates among names

abbrev pub of_same : Bool → Bool → Candidate → Option Candidate
of_same true true c = Some c
of_same true false c = None
of_same false true c = None
of_same false false c = Some c

abbrev pub candidate_named : Bool → DirName → ℕ → Option Candidate
candidate_named deletes (dir.Base high) place = None
candidate_named deletes (dir.Own kind write statement) place =
    of_same deletes kind (record { low = write.0; high = write.0; rank = 1; statement = statement; place = place })
candidate_named deletes (dir.Wide kind low high) place =
    of_same deletes kind (record { low = low.0; high = high.0; rank = 0; statement = 0; place = place })
candidate_named deletes (dir.Staged job name) place = None

abbrev pub candidates_from : Bool → ℕ → List DirName → List Candidate
candidates_from deletes n [] = []
candidates_from deletes n (name ∷ names) = cons_option (candidate_named deletes name n) (candidates_from deletes (n + 1) names)

-- ---- the places of those that are taken

abbrev pub places_from : Sight → ℕ → Bool → List Candidate → List ℕ
places_from sight top own [] = []
places_from sight top own (c ∷ cs) =
    if sight.has_some c.low c.high
    then (if nat_lt top c.high then c.place ∷ places_from sight c.high (c.rank == 1) cs
    else (if own && (c.low == top && c.high == top) then c.place ∷ places_from sight top own cs else places_from sight top own cs))
    else places_from sight top own cs

-- ---- the base, from the left: the greatest so far that may be read, and its place

abbrev pub better : Sight → ℕ → ℕ × Option ℕ → Option ℕ → ℕ × Option ℕ
better sight place found None = found
better sight place found (Some base) = if nat_lt found.0 base && sight.may_base base then (base, Some place) else found

abbrev pub best_from : Sight → ℕ → ℕ × Option ℕ → List DirName → ℕ × Option ℕ
best_from sight n found [] = found
best_from sight n found (name ∷ names) = best_from sight (n + 1) (better sight n found (base_named name)) names
