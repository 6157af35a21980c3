-- What the book makes in own directories of a write id under which there is one write: the files of that write.
use Rattle.std.proofs.Common.{refl, ◌≡◌, inl, inr, ℕ, ◌<◌, ◌==◌, ◌&&◌, Bool, true, false, cond, Option, Some, None, List, [], ◌∷◌, ◌++◌, filter, sym, ap, ◌∙◌, subst, eqb-true, eq-eqb}
use Rattle.std.specs.List.{flat_map}
use Rattle.std.specs.declared.cmp.Ordering.TheVariants.{Less}
use Rattle.std.proofs.lemmas.Bool.{and_parts, and_from, false_from_ne_true}
use Rattle.std.proofs.lemmas.List.{append-nil}
use Rattle.hv_base.specs.declared.ids.RowId.{RowId}
use Rattle.hv_base.specs.Sorting.{placed_by, put_by, sorted_by}
use Rattle.hv_shelf.specs.declared.place.Place.{Place}
use Rattle.hv_logic.specs.declared.catalog.Shape.{Shape}
use Rattle.hv_rowfile.specs.declared.record.Rec.{Rec}
use Rattle.hv_rowfile.specs.Layout.{RisesFrom, file_spelling, id_of}
use Rattle.hv_dirs.specs.declared.names.DirName.{DirName}
use Rattle.hv_dirs.specs.declared.names.DirName.TheVariants as dir
use Rattle.hv_dirs.specs.Names.{IsName, text_of, write_end}
use Rattle.hv_dirs.specs.Choice.{Own}
use Rattle.hv_history.specs.declared.state.Table.{Table}
use Rattle.hv_history.specs.declared.state.Written.{Written}
use Rattle.hv_history.specs.State.{State, numbered, written_to}
use Rattle.hv_stands.specs.Files.{records_of, file_of, CanStand, own_dir}
use Rattle.hv_jobs.specs.Covers.{job_names}
use Rattle.hv_law_made.specs.Made.{has_written, rec_cmp, delta_recs, some_or, name_file, write_names, names_in, jobs_at, made_recs}
use Rattle.hv_law_made.specs.Named.{HasNames}
use Rattle.hv_law_made.specs.Laws.{Holds}
use Rattle.hv_law_made.proofs.NamedLemmas.{file-named, recs-are}
use Rattle.hv_law_made.proofs.UnmadeLemmas.{own-name, own-made, own-written, names-here, unnamed-unmade}
use Rattle.hv_law_visible.specs.Members.{IsIn}
use Rattle.hv_law_visible.proofs.MemberLemmas.{in-left, in-right, in-either, in-flat, from-flat}

-- ---- records that rise stay in their order

put-first : (r : Rec) (recs : List Rec) → RisesFrom (Some (id_of r)) recs → put_by rec_cmp r recs ≡ r ∷ recs
put-first r [] rises = refl
put-first r (s ∷ recs) rises =
    let less : rec_cmp r s ≡ Less = rises.0 in
    ap (λ o. placed_by rec_cmp o r s recs (put_by rec_cmp r recs)) less

sorted-still : (before : Option RowId) (recs : List Rec) → RisesFrom before recs → sorted_by rec_cmp recs ≡ recs
sorted-still before [] rises = refl
sorted-still before (r ∷ recs) rises =
    ap (put_by rec_cmp r) (sorted-still (Some (id_of r)) recs rises.1) ∙ put-first r recs rises.1

rises-of : (deletes : Bool) (bucket : ℕ) (recs : List Rec) → CanStand deletes bucket recs → RisesFrom None recs
rises-of deletes bucket [] stand = tt
rises-of deletes bucket (r ∷ recs) stand = stand.can_write.rising

still : (deletes : Bool) (bucket : ℕ) (recs : List Rec) → CanStand deletes bucket recs → sorted_by rec_cmp recs ≡ recs
still deletes bucket recs stand = sorted-still None recs (rises-of deletes bucket recs stand)

-- their file is just that of the records
pub holds-of : (deletes : Bool) (bucket : ℕ) (recs : List Rec) → CanStand deletes bucket recs
    → Holds (some_or deletes recs None) bucket (file_of deletes bucket recs)
holds-of deletes bucket [] stand = refl
holds-of deletes bucket (r ∷ recs) stand = record {
  bytes = file_spelling deletes bucket (r ∷ recs);
  is = refl;
  encodes = record { file = stand; bytes_are = refl };
}

-- ---- the one write of an id

only-one : (p : Written → Bool) (ws : List Written) (w : Written) → ((v : Written) → IsIn v ws → p v ≡ false) → p w ≡ true → filter p (ws ++ w ∷ []) ≡ w ∷ []
only-one p [] w none is = ap (λ b. cond b (w ∷ []) []) is
only-one p (v ∷ ws) w none is =
    ap (λ b. cond b (v ∷ filter p (ws ++ w ∷ [])) (filter p (ws ++ w ∷ []))) (none v (inl refl)) ∙ only-one p ws w (λ u at. none u (inr at)) is

module _ (now : State) (place : Place) (before : Table) (shape : Shape) (written : Written)
    (here : numbered now.tables place.table.0 ≡ Some (written_to written before)) (has : HasNames now (written_to written before))
    (same : before.info.shape ≡ shape) (small : written.write < write_end)
    (apart : (v : Written) → IsIn v before.writes → v.write ≡ written.write → ⊥)
    (stand : (deletes : Bool) → CanStand deletes place.bucket (records_of shape deletes place.partition place.bucket written)) where
  abbrev table : Table
  table = written_to written before

  abbrev its : Bool → List Rec
  its deletes = records_of shape deletes place.partition place.bucket written

  abbrev name_of : Bool → DirName
  name_of deletes = dir.Own deletes (record { 0 = written.write }) written.statement

  own-of : (deletes : Bool) → IsIn (name_of deletes) (write_names written)
  own-of false = inl refl
  own-of true = inr (inl refl)

  among : (deletes : Bool) → IsIn (name_of deletes) (names_in table.writes (jobs_at now place))
  among deletes =
      in-left (name_of deletes) (flat_map write_names table.writes) (flat_map job_names (jobs_at now place))
      (in-flat write_names written (name_of deletes) table.writes (in-right written before.writes (written ∷ []) (inl refl)) (own-of deletes))

  named : (name : DirName) → IsIn name (names_in table.writes (jobs_at now place)) → IsName name
  named name at = names-here now place table here has name at

  -- no earlier write is of that id
  others : (v : Written) → IsIn v before.writes → has_written (Own written.write written.statement) v ≡ false
  others v at =
      false_from_ne_true ((v.write == written.write) && (v.statement == written.statement))
      (λ e. apart v at (eqb-true v.write written.write (and_parts (v.write == written.write) (v.statement == written.statement) e).0))

  itself : has_written (Own written.write written.statement) written ≡ true
  itself = and_from (written.write == written.write) (written.statement == written.statement) (eq-eqb written.write written.write refl)
      (eq-eqb written.statement written.statement refl)

  file-is : (deletes : Bool) → name_file before.info.shape table.writes place.partition (name_of deletes) place.bucket ≡ some_or deletes (its deletes) None
  unfolding name_file delta_recs
  file-is deletes =
      ap (λ (sh : Shape). some_or deletes (sorted_by rec_cmp (flat_map (records_of sh deletes place.partition place.bucket)
      (filter (has_written (Own written.write written.statement)) table.writes))) None) same
      ∙ ap (λ (ws : List Written). some_or deletes (sorted_by rec_cmp (flat_map (records_of shape deletes place.partition place.bucket) ws)) None)
      (only-one (has_written (Own written.write written.statement)) before.writes written others itself)
      ∙ ap (λ (recs : List Rec). some_or deletes (sorted_by rec_cmp recs) None) (append-nil (its deletes))
      ∙ ap (λ (recs : List Rec). some_or deletes recs None) (still deletes place.bucket (its deletes) (stand deletes))

  -- in its own directories it makes its records' file
  pub made-here : (deletes : Bool) → place.dir ≡ own_dir deletes written.write written.statement → made_recs now place ≡ some_or deletes (its deletes) None
  made-here deletes dir_is =
      recs-are now place table here
      ∙ file-named before.info.shape table.writes place (names_in table.writes (jobs_at now place)) (name_of deletes) named (named (name_of deletes) (among deletes))
      (among deletes) dir_is
      ∙ file-is deletes

  -- and nothing under another statement of the id
  module _ (not_own : (deletes : Bool) → place.dir ≡ own_dir deletes written.write written.statement → ⊥) (deletes : Bool) (statement : ℕ)
      (dir_is : place.dir ≡ own_dir deletes written.write statement) where
    by-written : (name : DirName) → place.dir ≡ text_of name → IsIn name (write_names written) → ⊥
    by-written name is (inl e) = not_own false (is ∙ ap text_of (sym e))
    by-written name is (inr (inl e)) = not_own true (is ∙ ap text_of (sym e))
    by-written name is (inr (inr none)) = none

    unnamed : (name : DirName) → IsIn name (names_in table.writes (jobs_at now place)) → place.dir ≡ text_of name → ⊥
    unnamed name at is =
        let own = own-name name deletes written.write statement (named name at) small (sym is ∙ dir_is) in
        elim (in-either name (flat_map write_names table.writes) (flat_map job_names (jobs_at now place)) at) [
          | inl ours ↦
              let of = from-flat write_names name table.writes ours in
              elim (in-either of.0 before.writes (written ∷ []) of.1) [
                | inl old ↦ apart of.0 old (own-written written.write of.0 name own of.2)
                | inr new ↦ elim new [
                  | inl e ↦ by-written name is (subst (λ (v : Written). IsIn name (write_names v)) (sym e) of.2)
                  | inr none ↦ none
                ]
              ]
          | inr made ↦ let of = from-flat job_names name (jobs_at now place) made in own-made written.write of.0.kind of.0.published name own of.2
        ]

    pub made-nowhere : made_recs now place ≡ None
    made-nowhere = (unnamed-unmade now place table here has unnamed).recs
