-- Directories by their texts, and lists of them.
use Rattle.std.proofs.Common.{◌≡◌, inl, inr, ℕ, Bool, true, false, true≢false, List, [], ◌∷◌, Result, Ok, Err, sym, ap, ◌∙◌, subst, eqb-true}
use Rattle.std.specs.Prelude.{OnOk}
use Rattle.std.specs.List.{AllByRecursion}
use Rattle.hv_base.specs.declared.ids.TableId.{TableId}
use Rattle.hv_shelf.specs.declared.place.DirAt.{DirAt}
use Rattle.hv_shelf.specs.declared.place.Place.{Place}
use Rattle.hv_dirs.specs.declared.names.DirName.{DirName}
use Rattle.hv_dirs.specs.declared.names.DirName.TheVariants as dir_name
use Rattle.hv_dirs.specs.Names.{IsName, text_of}
use Rattle.hv_stands.specs.Files.{own_dir}
use Rattle.hv_job_acts.specs.hv_job_calls.specs.Forgetting.{is_own_named}
use Rattle.hv_job_acts.specs.declared.asking.LostId.{LostId}
use Rattle.hv_clean.specs.Dirs.{IsOwnIf, is_staged_name, IsStagedIf, dir_of_place, IsPutOnce, SweepsIf}
use Rattle.hv_clean.specs.Removing.{IsLostDir}
use Rattle.hv_clean.proofs.Moved.{all-append}

pub own-if : (write : ℕ) (text : List ℕ) (name : DirName) → text_of name ≡ text → IsOwnIf write text (is_own_named write name)
own-if write text (dir_name.Base high) e = λ so. absurd (true≢false (sym so))
own-if write text (dir_name.Own deletes other statement) e = λ so. record {
  deletes = deletes;
  statement = statement;
  is = sym e ∙ ap (λ (w : ℕ). own_dir deletes w statement) (eqb-true other.0 write so);
}
own-if write text (dir_name.Wide deletes low high) e = λ so. absurd (true≢false (sym so))
own-if write text (dir_name.Staged job staged) e = λ so. absurd (true≢false (sym so))

pub staged-if : (text : List ℕ) (name : DirName) → IsName name → text_of name ≡ text → IsStagedIf text (is_staged_name name)
staged-if text (dir_name.Base high) is e = λ so. absurd (true≢false (sym so))
staged-if text (dir_name.Own deletes other statement) is e = λ so. absurd (true≢false (sym so))
staged-if text (dir_name.Wide deletes low high) is e = λ so. absurd (true≢false (sym so))
staged-if text (dir_name.Staged job staged) is e = λ so. (job.0, record { name = staged; named = is; is = sym e })

-- ---- one more

abbrev KeepsAll : (DirAt → Type 0) → List DirAt → List DirAt → Type 0
KeepsAll P before now = AllByRecursion P before → AllByRecursion P now

put-all : (P : DirAt → Type 0) (place : Place) (before now : List DirAt) → P (dir_of_place place) → IsPutOnce place before now → KeepsAll P before now
put-all P place before now is (inl same) all = subst (AllByRecursion P) (sym same) all
put-all P place before now is (inr more) all = subst (AllByRecursion P) (sym more) (all-append P before (dir_of_place place ∷ []) all (is, tt))

on-ok : {T E : Type 0} (P Q : Type 0) (r : Result T E) → (P → Q) → OnOk r P → OnOk r Q
on-ok P Q (Ok x) step is = step is
on-ok P Q (Err why) step is = tt

same-table : (a b : TableId) → a.0 ≡ b.0 → a ≡ b
same-table a b e = λ i. record { 0 = e i }

pub lost-put : {E : Type 0} (id : LostId) (place : Place) (before now : List DirAt) (r : Result (Unit {0}) E) (own : Bool) → place.table.0 ≡ id.table.0
    → IsOwnIf id.write.0 place.dir own → own ≡ true → OnOk r (IsPutOnce place before now) → OnOk r (KeepsAll (IsLostDir id) before now)
lost-put id place before now r own at is so put =
    on-ok (IsPutOnce place before now) (KeepsAll (IsLostDir id) before now) r
    (put-all (IsLostDir id) place before now (same-table place.table id.table at, is so)) put

pub staged-put : {E : Type 0} (table : ℕ) (live : Bool) (place : Place) (before now : List DirAt) (r : Result (Unit {0}) E) (staged : Bool)
    → place.table.0 ≡ table → IsStagedIf place.dir staged → staged ≡ true → OnOk r (IsPutOnce place before now)
    → OnOk r (KeepsAll (SweepsIf table live) before now)
staged-put table live place before now r staged at is so put =
    on-ok (IsPutOnce place before now) (KeepsAll (SweepsIf table live) before now) r
    (put-all (SweepsIf table live) place before now (at, inr (is so))) put

pub dead-put : {E : Type 0} (table : ℕ) (live : Bool) (place : Place) (before now : List DirAt) (r : Result (Unit {0}) E) → place.table.0 ≡ table
    → live ≡ false → OnOk r (IsPutOnce place before now) → OnOk r (KeepsAll (SweepsIf table live) before now)
dead-put table live place before now r at dead put =
    on-ok (IsPutOnce place before now) (KeepsAll (SweepsIf table live) before now) r (put-all (SweepsIf table live) place before now (at, inl dead)) put
