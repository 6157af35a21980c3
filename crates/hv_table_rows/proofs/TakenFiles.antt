-- The places of a table that have a file.
use Rattle.std.proofs.Common.{◌≡◌, ℕ, ◌==◌, true, Option, Some, None, List, is_some, refl, sym, ap, ◌∙◌, subst, arith, eqb-true}
use Rattle.std.specs.declared.cmp.Ordering.{Ordering}
use Rattle.std.specs.declared.cmp.Ordering.TheVariants.{Less, Equal, Greater}
use Rattle.std.specs.Ordering.{is_eq, eq_by_cmp, ordering_reverse}
use Rattle.std.specs.Cmp.{IsTotalOrder}
use Rattle.std.specs.FinMap as tree
use Rattle.std.proofs.lemmas.Bool.Decides.{nat_tests}
use Rattle.hv_base.specs.declared.ids.TableId.{TableId}
use Rattle.hv_shelf.specs.declared.place.Place.{Place}
use Rattle.hv_shelf.specs.Places.{place_cmp, place_total, place_antisymmetric, is_of}
use Rattle.hv_shelf.specs.Disk.{Tree, places_of}
use Rattle.hv_table_rows.proofs.Members.{In, in-kept, kept-in, any-in, in-any}

tied-by : (o : Ordering) → o ≡ ordering_reverse o → is_eq o ≡ true
tied-by Less e = cc
tied-by Equal e = refl
tied-by Greater e = cc

pub tied : {K : Type 0} {R : K → K → Ordering} → IsTotalOrder R → (x : K) → eq_by_cmp R x x ≡ true
tied {R = R} total x = tied-by (R x x) (total.antisymm x x)

pub equal-by : (o : Ordering) → is_eq o ≡ true → o ≡ Equal
equal-by Less e = cc
equal-by Equal e = refl
equal-by Greater e = cc

pub same-by : {K : Type 0} {R : K → K → Ordering} → ((x y : K) → R x y ≡ Equal → x ≡ y) → (x y : K) → eq_by_cmp R x y ≡ true → x ≡ y
same-by {R = R} same x y e = same x y (equal-by (R x y) e)

some-bytes : (o : Option (List ℕ)) → is_some o ≡ true → (bytes : List ℕ) × (o ≡ Some bytes)
some-bytes None e = cc
some-bytes (Some bytes) e = (bytes, refl)

number-same : (a : ℕ) → (a == a) ≡ true
number-same a = grind (arith, nat_tests)

pub place-there : (table : TableId) (files : Tree) (place : Place) (bytes : List ℕ) → place.table.0 ≡ table.0 → tree.get files place ≡ Some bytes → In place (places_of table files)
place-there table files place bytes of is =
    let found = any-in (eq_by_cmp place_cmp place) (tree.keys files) (sym (tree.contains_key-keys files place) ∙ ap is_some is) in
    let same : found.0 ≡ place = sym (same-by place_antisymmetric place found.0 found.2) in
    in-kept (is_of table) place (tree.keys files) (subst (λ p. In p (tree.keys files)) same found.1) (ap (λ n. n == table.0) of ∙ number-same table.0)

pub there-place : (table : TableId) (files : Tree) (place : Place) → In place (places_of table files) → (place.table.0 ≡ table.0) × ((bytes : List ℕ) × (tree.get files place ≡ Some bytes))
there-place table files place h =
    let both = kept-in (is_of table) place (tree.keys files) h in (
      eqb-true place.table.0 table.0 both.1,
      some-bytes (tree.get files place) (tree.contains_key-keys files place ∙ in-any (eq_by_cmp place_cmp place) place (tree.keys files) both.0 (tied place_total place)),
    )
