-- A file that is put: the deletes that a file takes.
use Rattle.std.proofs.Common.{◌≡◌, ℕ, ◌<◌, ◌==◌, ◌&&◌, ◌||◌, not, nat_lt, Bool, true, false, cond, Option, Some, None, List, [], ◌∷◌, refl, sym, subst, arith, eqb-true}
use Rattle.std.specs.declared.cmp.Ordering.{Ordering}
use Rattle.std.specs.declared.cmp.Ordering.TheVariants.{Less, Equal, Greater}
use Rattle.std.specs.Ordering.{is_lt}
use Rattle.std.specs.List.{AllByRecursion}
use Rattle.std.proofs.lemmas.Bool.{ltb-true}
use Rattle.hv_base.specs.declared.ids.RowId.{RowId}
use Rattle.hv_base.specs.Identifiers.{row_id_cmp}
use Rattle.hv_rowfile.specs.declared.record.Rec.{Rec}
use Rattle.hv_rowfile.specs.declared.record.Rec.TheVariants.{Insert, Delete}
use Rattle.hv_rowfile.specs.Layout.{CanWrite, RecIsTaken, Follows, RisesFrom, id_of}
use Rattle.hv_route.specs.declared.files.OutFile.{OutFile}
use Rattle.hv_shelf.specs.Causes.{SoftCause}
use Rattle.hv_table_rows.specs.Putting.{CanPut, is_behind, may_follow, can_delete_from, can_put}

-- ---- deletes that a file takes

pub both : (a b : Bool) → a && b ≡ true → (a ≡ true) × (b ≡ true)
both true true e = (refl, refl)
both true false e = cc
both false b e = cc

kept : (a rest : Bool) → cond a rest false ≡ true → (a ≡ true) × (rest ≡ true)
kept true rest e = (refl, e)
kept false rest e = cc

pub less : (o : Ordering) → is_lt o ≡ true → o ≡ Less
less Less e = refl
less Equal e = cc
less Greater e = cc

follows : (bucket : ℕ) (before : Option RowId) (r : Rec) → may_follow bucket before r ≡ true → Follows before r
follows bucket before (Insert id row) e = cc
follows bucket None (Delete id by) e = tt
follows bucket (Some last) (Delete id by) e =
    let parts = both (id.bucket == bucket) (nat_lt 0 id.write.0 && (nat_lt 0 by.0 && is_behind (Some last) id)) e in
    let more = both (nat_lt 0 id.write.0) (nat_lt 0 by.0 && is_behind (Some last) id) parts.1 in
    less (row_id_cmp last id) (both (nat_lt 0 by.0) (is_behind (Some last) id) more.1).1

taken : (bucket : ℕ) (before : Option RowId) (r : Rec) → may_follow bucket before r ≡ true → RecIsTaken true bucket r
taken bucket before (Insert id row) e = cc
taken bucket before (Delete id by) e =
    let parts = both (id.bucket == bucket) (nat_lt 0 id.write.0 && (nat_lt 0 by.0 && is_behind before id)) e in
    let more = both (nat_lt 0 id.write.0) (nat_lt 0 by.0 && is_behind before id) parts.1 in
    let last = both (nat_lt 0 by.0) (is_behind before id) more.1 in
    let above : 0 < id.write.0 = ltb-true 0 id.write.0 more.0 in
    let above_by : 0 < by.0 = ltb-true 0 by.0 last.0 in
    (refl, record { bucket_same = eqb-true id.bucket bucket parts.0; written = omega (arith, above) }, omega (arith, above_by))

each : (bucket : ℕ) (before : Option RowId) (recs : List Rec) → can_delete_from bucket before recs ≡ true → AllByRecursion (RecIsTaken true bucket) recs
each bucket before [] e = tt
each bucket before (r ∷ recs) e =
    let parts = kept (may_follow bucket before r) (can_delete_from bucket (Some (id_of r)) recs) e in
    (taken bucket before r parts.0, each bucket (Some (id_of r)) recs parts.1)

rising : (bucket : ℕ) (before : Option RowId) (recs : List Rec) → can_delete_from bucket before recs ≡ true → RisesFrom before recs
rising bucket before [] e = tt
rising bucket before (r ∷ recs) e =
    let parts = kept (may_follow bucket before r) (can_delete_from bucket (Some (id_of r)) recs) e in
    (follows bucket before r parts.0, rising bucket (Some (id_of r)) recs parts.1)

pub can-write : (file : OutFile) → CanPut file → can_put file ≡ true → CanWrite file.deletes file.bucket file.recs
can-write file can passed = by file.deletes refl passed
  where
    by : (kind : Bool) → file.deletes ≡ kind → not kind || can_delete_from file.bucket None file.recs ≡ true → CanWrite file.deletes file.bucket file.recs
    by false is e = subst (λ k. CanWrite k file.bucket file.recs) (sym is) (can is)
    by true is e =
        subst (λ k. CanWrite k file.bucket file.recs) (sym is)
        (record { each = each file.bucket None file.recs e; rising = rising file.bucket None file.recs e })

-- ---- where the store wasn't called

pub no_call : (Fails : Type 0) (faults hard : ℕ) → (Fails → ⊥) → SoftCause Fails faults faults hard hard
no_call Fails faults hard not_so = record {
  later = omega arith;
  hard_later = omega arith;
  failed = λ is. absurd (not_so is);
  failed_last = λ is last. absurd (not_so is);
  rose_last = λ rose last. absurd (omega (arith, rose));
  below_last = λ below. refl;
}
