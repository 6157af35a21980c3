-- What stands at each place after a change of the tree.

use Rattle.std.specs.Prelude.{◌≡◌, ℕ, List, Bool, true, false, not, cond, Option, Some, None}
use Rattle.std.specs.declared.cmp.Ordering.TheVariants.{Equal}
use Rattle.std.specs.Ordering.{eq_by_cmp}
use Rattle.std.specs.FinMap as tree
use Rattle.std.proofs.Common.{refl, sym, ap, ◌∙◌}
use Rattle.hv_shelf.specs.declared.place.Place.{Place}
use Rattle.hv_shelf.specs.declared.place.DirAt.{DirAt}
use Rattle.hv_shelf.specs.Disk.{Tree, Store, HasFile, IsRemoved, RemovesSome}
use Rattle.hv_shelf.specs.Places.{place_cmp, place_total, place_antisymmetric, is_in}

-- two trees that show the same at each place are one
pub same_tree : (m n : Tree) → ((place : Place) → tree.get m place ≡ tree.get n place) → m ≡ n
same_tree = tree.same_map place_total place_antisymmetric

pub get-HasFile : (place : Place) (bytes : List ℕ) (before now : Store) → HasFile place bytes before now → (other : Place) →
    tree.get now.tree other ≡ cond (eq_by_cmp place_cmp other place) (Some bytes) (tree.get before.tree other)
get-HasFile place bytes before now has other =
    ap (λ t. tree.get t other) has.tree_is ∙ tree.get-insert place_total before.tree place bytes other

-- a test answers alike at places that the order doesn't tell apart
pub alike : (keeps : Place → Bool) (place other : Place) → place_cmp place other ≡ Equal → keeps other ≡ keeps place
alike keeps place other tied = sym (ap keeps (place_antisymmetric place other tied))

turned : (b : Bool) (o : Option (List ℕ)) → cond (not b) o None ≡ cond b None o
turned true o = refl
turned false o = refl

pub get-IsRemoved : (dir : DirAt) (before now : Store) → IsRemoved dir before now → (place : Place) →
    tree.get now.tree place ≡ cond (is_in dir place) None (tree.get before.tree place)
get-IsRemoved dir before now removed place =
    let keeps : Place → Bool = λ p. not (is_in dir p)
    in ap (λ t. tree.get t place) removed.tree_is ∙ tree.get-retain_keys before.tree keeps place (alike keeps place)
    ∙ turned (is_in dir place) (tree.get before.tree place)

pub get-RemovesSome : (dir : DirAt) (before now : Store) (some : RemovesSome dir before now) (place : Place) →
    tree.get now.tree place ≡ cond (some.keeps place) (tree.get before.tree place) None
get-RemovesSome dir before now some place =
    ap (λ t. tree.get t place) some.tree_is ∙ tree.get-retain_keys before.tree some.keeps place (alike some.keeps place)
