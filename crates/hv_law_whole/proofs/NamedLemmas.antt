-- Which names a table's writes and a partition's jobs make, in the words of the laws on directories.
use Rattle.std.proofs.Common.{refl, ◌≡◌, inl, inr, ℕ, ◌==◌, Bool, true, false, List, subst, eqb-true}
use Rattle.std.specs.List.{flat_map}
use Rattle.std.proofs.lemmas.Bool.{and_parts}
use Rattle.hv_dirs.specs.Choice.{Delta, Own, Wide}
use Rattle.hv_choosing.specs.Taken.{delta_name}
use Rattle.hv_history.specs.declared.state.Written.{Written}
use Rattle.hv_history.specs.State.{Job}
use Rattle.hv_jobs.specs.Covers.{job_names}
use Rattle.hv_law_made.specs.Made.{has_written, write_names, names_in}
use Rattle.hv_law_visible.specs.Members.{IsIn}
use Rattle.hv_law_visible.specs.History.{IsMade, IsMadeBase}
use Rattle.hv_law_visible.proofs.MemberLemmas.{in-left, in-right, in-either, in-flat, from-flat}
use Rattle.hv_law_directories.specs.Directories.{base_name}
use Rattle.hv_law_whole.specs.Whole.{published_among}
use Rattle.hv_law_whole.proofs.JobLemmas.{wide-named, base-named, named-wide, named-base}

-- ---- which names are made

own-in : (kind : Bool) (w : Written) → IsIn (delta_name kind (Own w.write w.statement)) (write_names w)
own-in true w = inr (inl refl)
own-in false w = inl refl

pub own-among : (kind : Bool) (writes : List Written) (jobs : List Job) (w : Written) → IsIn w writes
    → IsIn (delta_name kind (Own w.write w.statement)) (names_in writes jobs)
own-among kind writes jobs w at =
    in-left (delta_name kind (Own w.write w.statement)) (flat_map write_names writes) (flat_map job_names jobs)
    (in-flat write_names w (delta_name kind (Own w.write w.statement)) writes at (own-in kind w))

-- a delta that the history makes and that has a write's events has its name there
pub made-among : (kind : Bool) (writes : List Written) (jobs : List Job) (d : Delta) (w : Written) → IsIn w writes → has_written d w ≡ true
    → IsMade (published_among jobs) d → IsIn (delta_name kind d) (names_in writes jobs)
made-among kind writes jobs (Own write statement) w at has is =
    let both = and_parts (w.write == write) (w.statement == statement) has in
    let same : Own w.write w.statement ≡ Own write statement =
    λ i. Own (eqb-true w.write write both.0 i) (eqb-true w.statement statement both.1 i) in
    subst (λ (d : Delta). IsIn (delta_name kind d) (names_in writes jobs)) same (own-among kind writes jobs w at)
made-among kind writes jobs (Wide first last) w at has is =
    in-right (delta_name kind (Wide first last)) (flat_map write_names writes) (flat_map job_names jobs) (wide-named jobs first last is.0 kind is.1)

pub base-among : (writes : List Written) (jobs : List Job) (base : ℕ) → IsMadeBase (published_among jobs) base → IsIn (base_name base) (names_in writes jobs)
base-among writes jobs base is =
    in-right (base_name base) (flat_map write_names writes) (flat_map job_names jobs) (base-named jobs base is.0 is.1)

wide-not-own : (kind : Bool) (first last : ℕ) (w : Written) → IsIn (delta_name kind (Wide first last)) (write_names w) → ⊥
wide-not-own kind first last w (inl e) = cc
wide-not-own kind first last w (inr (inl e)) = cc
wide-not-own kind first last w (inr (inr at)) = at

base-not-own : (base : ℕ) (w : Written) → IsIn (base_name base) (write_names w) → ⊥
base-not-own base w (inl e) = cc
base-not-own base w (inr (inl e)) = cc
base-not-own base w (inr (inr at)) = at

pub among-made : (kind : Bool) (writes : List Written) (jobs : List Job) (d : Delta) → IsIn (delta_name kind d) (names_in writes jobs) → IsMade (published_among jobs) d
among-made kind writes jobs (Own write statement) at = tt
among-made kind writes jobs (Wide first last) at =
    elim (in-either (delta_name kind (Wide first last)) (flat_map write_names writes) (flat_map job_names jobs) at) [
      | inl own ↦ let of = from-flat write_names (delta_name kind (Wide first last)) writes own in absurd (wide-not-own kind first last of.0 of.2)
      | inr made ↦ named-wide jobs first last kind made
    ]

pub among-base : (writes : List Written) (jobs : List Job) (base : ℕ) → IsIn (base_name base) (names_in writes jobs) → IsMadeBase (published_among jobs) base
among-base writes jobs base at =
    elim (in-either (base_name base) (flat_map write_names writes) (flat_map job_names jobs) at) [
      | inl own ↦ let of = from-flat write_names (base_name base) writes own in absurd (base-not-own base of.0 of.2)
      | inr made ↦ named-base jobs base made
    ]
