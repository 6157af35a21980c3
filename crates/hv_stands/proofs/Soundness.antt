-- Tables stay sound: what holds of all tables goes on where one is changed, and where one is added.
use Rattle.std.proofs.Common.{◌≡◌, ℕ, zero, suc, ◌+◌, ◌<◌, Some, List, [], ◌∷◌, ◌++◌, length, sym, ap, ◌∙◌, subst, arith, length-append}
use Rattle.std.specs.List.{slice_get, AllByRecursion}
use Rattle.hv_history.specs.declared.state.Table.{Table}
use Rattle.hv_history.specs.State.{numbered, changed, changed_at, owned}
use Rattle.hv_history.specs.hv_meaning.specs.hv_typing.specs.hv_logic.specs.declared.catalog.TableInfo.{TableInfo}
use Rattle.hv_history.specs.hv_meaning.specs.hv_route.specs.Back.{AreFlat}
use Rattle.hv_stands.specs.Sound.{HasFlatParts, NumberedFrom, HasSoundWrites, HasFewOwners, AreSound}

-- ---- what holds of all

module _ {X : Type 0} where
  pub all-mapped : (P Q : X → Type 0) → ((x : X) → P x → Q x) → (xs : List X) → AllByRecursion P xs → AllByRecursion Q xs
  all-mapped P Q f [] h = tt
  all-mapped P Q f (x ∷ xs) h = (f x h.0, all-mapped P Q f xs h.1)

  pub all-more : (P : X → Type 0) (xs : List X) (x : X) → AllByRecursion P xs → P x → AllByRecursion P (xs ++ x ∷ [])
  all-more P [] x h here = (here, tt)
  all-more P (y ∷ xs) x h here = (h.0, all-more P xs x h.1 here)

  -- of what is at a place
  pub all-slice : (P : X → Type 0) (xs : List X) (n : ℕ) (x : X) → slice_get xs n ≡ Some x → AllByRecursion P xs → P x
  all-slice P [] n x e h = cc
  all-slice P (y ∷ xs) zero x e h = let is : y ≡ x = cc in subst P is h.0
  all-slice P (y ∷ xs) (suc n) x e h = all-slice P xs n x e h.1

  pub all-numbered : (P : X → Type 0) (xs : List X) (n : ℕ) (x : X) → numbered xs n ≡ Some x → AllByRecursion P xs → P x
  all-numbered P xs zero x e h = cc
  all-numbered P xs (suc n) x e h = all-slice P xs n x e h

  -- where one is changed
  all-changed_at : (P Q : X → Type 0) (f : X → X) (xs : List X) (n : ℕ) (x : X) → slice_get xs n ≡ Some x
      → ((y : X) → P y → Q y) → (P x → Q (f x)) → AllByRecursion P xs → AllByRecursion Q (changed_at f xs n)
  all-changed_at P Q f [] n x e stay new h = tt
  all-changed_at P Q f (y ∷ xs) zero x e stay new h =
      let is : x ≡ y = cc in
      (subst (λ z. Q (f z)) is (new (subst P (sym is) h.0)), all-mapped P Q stay xs h.1)
  all-changed_at P Q f (y ∷ xs) (suc n) x e stay new h = (stay y h.0, all-changed_at P Q f xs n x e stay new h.1)

  pub all-changed : (P Q : X → Type 0) (f : X → X) (xs : List X) (n : ℕ) (x : X) → numbered xs n ≡ Some x
      → ((y : X) → P y → Q y) → (P x → Q (f x)) → AllByRecursion P xs → AllByRecursion Q (changed f xs n)
  all-changed P Q f xs zero x e stay new h = cc
  all-changed P Q f xs (suc n) x e stay new h = all-changed_at P Q f xs n x e stay new h

-- ---- numbers

numbered-more : (first : ℕ) (tables : List Table) (table : Table) → NumberedFrom first tables → table.info.table.0 ≡ first + length tables
    → NumberedFrom first (tables ++ table ∷ [])
numbered-more first [] table h e = (omega arith, tt)
numbered-more first (other ∷ tables) table h e = (h.0, numbered-more (first + 1) tables table h.1 (omega arith))

in_order-changed_at : (f : Table → Table) → ((t : Table) → (f t).info.table.0 ≡ t.info.table.0) → (first : ℕ) (tables : List Table) (n : ℕ)
    → NumberedFrom first tables → NumberedFrom first (changed_at f tables n)
in_order-changed_at f same first [] n h = tt
in_order-changed_at f same first (t ∷ tables) zero h = (same t ∙ h.0, h.1)
in_order-changed_at f same first (t ∷ tables) (suc n) h = (h.0, in_order-changed_at f same (first + 1) tables n h.1)

in_order-changed : (f : Table → Table) → ((t : Table) → (f t).info.table.0 ≡ t.info.table.0) → (first : ℕ) (tables : List Table) (n : ℕ)
    → NumberedFrom first tables → NumberedFrom first (changed f tables n)
in_order-changed f same first tables zero h = h
in_order-changed f same first tables (suc n) h = in_order-changed_at f same first tables n h

-- ---- the laws

pub soundness-later : (most next : ℕ) (tables : List Table) → AreSound most tables → most < next → AreSound next tables
soundness-later most next tables sound before = record {
  flat = sound.flat;
  in_order = sound.in_order;
  few = all-mapped (HasFewOwners most) (HasFewOwners next) (λ table few. omega arith) tables sound.few;
  written = sound.written;
}

-- one table more
pub table-made-sound : (most : ℕ) (tables : List Table) (made : Table) → AreSound most tables → HasFlatParts made → made.info.table.0 ≡ length tables + 1
    → HasFewOwners most made → HasSoundWrites made → AreSound most (tables ++ made ∷ [])
table-made-sound most tables made sound flat number few written = record {
  flat = all-more HasFlatParts tables made sound.flat flat;
  in_order = numbered-more 1 tables made sound.in_order (omega (arith, number));
  few = all-more (HasFewOwners most) tables made sound.few few;
  written = all-more HasSoundWrites tables made sound.written written;
}

pub owned-more : (txn : ℕ) (owners : List ℕ) → length (owners ++ txn ∷ []) ≡ length owners + 1
owned-more txn owners = omega (arith, length-append owners (txn ∷ []))

pub owned-few : (most txn : ℕ) (table : Table) → HasFewOwners most table → HasFewOwners (most + 1) (owned txn table)
owned-few most txn table few = omega (arith, owned-more txn table.owners)

-- one table changed, whose number and shape stay
pub changed-sound : (most next : ℕ) (tables : List Table) (k : ℕ) (f : Table → Table) (table : Table) → numbered tables k ≡ Some table
    → ((t : Table) → (f t).info ≡ t.info)
    → ((t : Table) → HasFewOwners most t → HasFewOwners next t) → (HasFewOwners most table → HasFewOwners next (f table))
    → (HasSoundWrites table → HasSoundWrites (f table))
    → AreSound most tables → AreSound next (changed f tables k)
changed-sound most next tables k f table at info later few written sound = record {
  flat = all-changed HasFlatParts HasFlatParts f tables k table at (λ t h. h)
      (λ h. subst (λ (i : TableInfo). AreFlat i.shape.parts) (sym (info table)) h) sound.flat;
  in_order = in_order-changed f (λ t. ap (λ (i : TableInfo). i.table.0) (info t)) 1 tables k sound.in_order;
  few = all-changed (HasFewOwners most) (HasFewOwners next) f tables k table at later few sound.few;
  written = all-changed HasSoundWrites HasSoundWrites f tables k table at (λ t h. h) written sound.written;
}
