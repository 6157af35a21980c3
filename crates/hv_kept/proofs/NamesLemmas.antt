-- The files of a table: two trees that have the same list the same, and how one file's change shows.

use Rattle.std.proofs.Common.{◌≡◌, ℕ, ◌+◌, ◌<◌, ◌≤◌, Bool, true, false, cond, ◌&&◌, ◌||◌, ◌==◌, List, [], ◌∷◌, length, take, get_or, map, filter, Option, Some, None, is_some, is_lt, is_eq, T, refl, sym, ◌∙◌, ap, subst, inl, inr}
use Rattle.std.specs.declared.cmp.Ordering.{Ordering}
use Rattle.std.specs.declared.cmp.Ordering.TheVariants.{Less, Equal, Greater}
use Rattle.std.specs.Ordering.{eq_by_cmp}
use Rattle.std.specs.List.{list_any}
use Rattle.std.specs.Cmp.{unsigned_Decides}
use Rattle.std.specs.FinMap as tree
use Rattle.std.specs.FinMap.Entries.{below_all, is_some-find, is_sorted-where_key, same_entries}
use Rattle.std.proofs.lemmas.List.{take_all, take_more}
use Rattle.std.proofs.lemmas.List.Folds.{list_any-append}
use Rattle.std.proofs.lemmas.Map.Views.{any-filter_same}
use Rattle.hv_base.specs.declared.ids.TableId.{TableId}
use Rattle.hv_shelf.specs.declared.place.Place.{Place}
use Rattle.hv_shelf.specs.declared.place.DirAt.{DirAt}
use Rattle.hv_shelf.specs.Disk.{Tree, Store, places_of, HasFile, TornFile, IsRemoved, TornRemove, IsRenamed, TornRename}
use Rattle.hv_shelf.specs.Laws.{get-HasFile, get-IsRemoved, get-RemovesSome}
use Rattle.hv_shelf.specs.Places.{place_cmp, place_total, place_antisymmetric, is_of, is_in, dir_named}
use Rattle.hv_kept.specs.Kept.{is_among, HaveSame, IsWithin}

-- ## One place is another

pub true_or_false : (b : Bool) → (¬ (b ≡ true)) → b ≡ false
true_or_false true h = absurd (h refl)
true_or_false false h = refl

tied : (r : Ordering) → is_eq r ≡ true → r ≡ Equal
tied Less e = absurd (cc)
tied Equal e = refl
tied Greater e = absurd (cc)

pub here-true : (x y : Place) → eq_by_cmp place_cmp x y ≡ true → x ≡ y
here-true x y e = place_antisymmetric x y (tied (place_cmp x y) e)

itself : (n : ℕ) → (n == n) ≡ true
itself n = (unsigned_Decides n n).1 refl

apart : (x y : Place) → (x.table.0 == y.table.0) ≡ false → ¬ (x ≡ y)
apart x y h e =
    let clash : true ≡ false = sym (itself y.table.0) ∙ ap (λ (p : Place). p.table.0 == y.table.0) (sym e) ∙ h
    in cc

not_here : (x y : Place) → (x.table.0 == y.table.0) ≡ false → eq_by_cmp place_cmp x y ≡ false
not_here x y h = true_or_false _ (λ e. apart x y h (here-true x y e))

not_in : (dir : DirAt) (place : Place) → (place.table.0 == dir.table.0) ≡ false → is_in dir place ≡ false
not_in dir place h = true_or_false _ (λ e. let clash : true ≡ false = sym (first _ _ e) ∙ h in cc)
  where
    first : (a b : Bool) → (a && b) ≡ true → a ≡ true
    first true b e = refl
    first false b e = absurd (cc)

-- ## Listings

-- the places that pass a test, as entries that have nothing
rows : (Place → Bool) → List (Place × List ℕ) → List (Place × Unit {0})
rows keeps es = map (λ e. (e.0, tt)) (filter (λ e. keeps e.0) es)

below-rows : (x : Place) (es : List (Place × List ℕ)) →
    below_all place_cmp x (map {B = Place × Unit {0}} (λ e. (e.0, tt)) es) ≡ below_all place_cmp x es
below-rows x [] = refl
below-rows x (e ∷ es) = ap (λ b. is_lt (place_cmp x e.0) && b) (below-rows x es)

sorted-rows : (es : List (Place × List ℕ)) →
    tree.is_sorted place_cmp (map {B = Place × Unit {0}} (λ e. (e.0, tt)) es) ≡ tree.is_sorted place_cmp es
sorted-rows [] = refl
sorted-rows (e ∷ es) = λ i. below-rows e.0 es i && sorted-rows es i

rows_sorted : (keeps : Place → Bool) (m : Tree) → T (tree.is_sorted place_cmp (rows keeps (tree.entries m)))
unfolding rows
rows_sorted keeps m =
    subst T (sym (sorted-rows (filter (λ e. keeps e.0) (tree.entries m))))
    (is_sorted-where_key place_cmp keeps (tree.entries m) (tree.entries_sorted m))

one_more : (b : Bool) (e : Place × List ℕ) (es : List (Place × List ℕ)) (places : List Place) →
    map (λ r. r.0) (map {B = Place × Unit {0}} (λ e. (e.0, tt)) es) ≡ places →
    map (λ r. r.0) (map {B = Place × Unit {0}} (λ e. (e.0, tt)) (cond b (e ∷ es) es)) ≡ cond b (e.0 ∷ places) places
one_more true e es places h = ap (λ (ps : List Place). e.0 ∷ ps) h
one_more false e es places h = h

keys-rows : (keeps : Place → Bool) (es : List (Place × List ℕ)) →
    map (λ r. r.0) (rows keeps es) ≡ filter keeps (map (λ e. e.0) es)
unfolding rows
keys-rows keeps [] = refl
keys-rows keeps (e ∷ es) = one_more (keeps e.0) e (filter (λ e. keeps e.0) es) (filter keeps (map (λ e. e.0) es)) (keys-rows keeps es)

-- a place is among those of the table exactly where it is of the table and has a file
pub listed : (table : TableId) (m : Tree) (q : Place) →
    is_among (places_of table m) q ≡ (is_of table q && tree.contains_key m q)
listed table m q =
    any-filter_same (eq_by_cmp place_cmp q) (is_of table) (is_of table q) (λ k at. ap (is_of table) (sym (here-true q k at))) (tree.keys m)
    ∙ ap (λ b. is_of table q && b) (sym (tree.contains_key-keys m q))

one_row : (a b : Option (Unit {0})) → is_some a ≡ is_some b → a ≡ b
one_row None None e = refl
one_row None (Some y) e = absurd (cc)
one_row (Some x) None e = absurd (cc)
one_row (Some x) (Some y) e = refl

and_alike : (b c d : Bool) → (b ≡ true → c ≡ d) → (b && c) ≡ (b && d)
and_alike true c d h = h refl
and_alike false c d h = refl

-- trees with the same files of the table list the same
pub same_places : (table : TableId) (m n : Tree) → HaveSame table.0 m n → places_of table m ≡ places_of table n
same_places table m n has =
    let found : (t : Tree) (q : Place) → is_some (tree.find place_cmp q (rows (is_of table) (tree.entries t))) ≡ (is_of table q && tree.contains_key t q) =
    λ t q. is_some-find place_cmp q (rows (is_of table) (tree.entries t)) ∙ ap (list_any (eq_by_cmp place_cmp q)) (keys-rows (is_of table) (tree.entries t)) ∙ listed table t q
    in let same : rows (is_of table) (tree.entries m) ≡ rows (is_of table) (tree.entries n) =
    same_entries place_cmp place_total place_antisymmetric _ _ (rows_sorted (is_of table) m) (rows_sorted (is_of table) n)
    (λ q. one_row _ _ (found m q ∙ and_alike (is_of table q) _ _ (has.same q) ∙ sym (found n q)))
    in sym (keys-rows (is_of table) (tree.entries m)) ∙ ap (map (λ r. r.0)) same ∙ keys-rows (is_of table) (tree.entries n)

-- ## What a change of the tree shows

some_either : (b : Bool) (x y : List ℕ) (o u : Option (List ℕ)) → is_some o ≡ is_some u → is_some (cond b (Some x) o) ≡ is_some (cond b (Some y) u)
some_either true x y o u h = refl
some_either false x y o u h = h

none_either : (b : Bool) (o u : Option (List ℕ)) → is_some o ≡ is_some u → is_some (cond b None o) ≡ is_some (cond b None u)
none_either true o u h = refl
none_either false o u h = h

pub put_same : (table : ℕ) (place : Place) (empty bytes : List ℕ) (m m' s s' : Store) → HasFile place empty m m' → HasFile place bytes s s' →
    HaveSame table m.tree s.tree → HaveSame table m'.tree s'.tree
put_same table place empty bytes m m' s s' here there has = record {
  same = λ q of.
      ap is_some (get-HasFile place empty m m' here q) ∙ some_either _ empty bytes _ _ (has.same q of)
      ∙ sym (ap is_some (get-HasFile place bytes s s' there q));
}

pub removed_same : (table : ℕ) (dir : DirAt) (m m' s s' : Store) → IsRemoved dir m m' → IsRemoved dir s s' →
    HaveSame table m.tree s.tree → HaveSame table m'.tree s'.tree
removed_same table dir m m' s s' here there has = record {
  same = λ q of.
      ap is_some (get-IsRemoved dir m m' here q) ∙ none_either (is_in dir q) _ _ (has.same q of)
      ∙ sym (ap is_some (get-IsRemoved dir s s' there q));
}

-- ## Changes within one table

pub put_within : (place : Place) (bytes : List ℕ) (s s' : Store) → HasFile place bytes s s' → IsWithin place.table.0 s s'
put_within place bytes s s' has = record {
  others = λ q h. get-HasFile place bytes s s' has q ∙ ap (λ b. cond b (Some bytes) (tree.get s.tree q)) (not_here q place h);
}

stood : (table : ℕ) (s s' : Store) → s' ≡ s → IsWithin table s s'
stood table s s' e = record { others = λ q h. ap (λ (x : Store). tree.get x.tree q) e }

pub torn_put_within : (place : Place) (s s' : Store) → TornFile place s s' → IsWithin place.table.0 s s'
torn_put_within place s s' (inl e) = stood place.table.0 s s' e
torn_put_within place s s' (inr broken) = record { others = λ q h. broken.others q (apart q place h) }

pub removed_within : (dir : DirAt) (s s' : Store) → IsRemoved dir s s' → IsWithin dir.table.0 s s'
removed_within dir s s' gone = record {
  others = λ q h. get-IsRemoved dir s s' gone q ∙ ap (λ b. cond b None (tree.get s.tree q)) (not_in dir q h);
}

pub torn_removed_within : (dir : DirAt) (s s' : Store) → TornRemove dir s s' → IsWithin dir.table.0 s s'
torn_removed_within dir s s' (inl e) = stood dir.table.0 s s' e
torn_removed_within dir s s' (inr some) = record {
  others = λ q h.
      get-RemovesSome dir s s' some q ∙ ap (λ b. cond b (tree.get s.tree q) None) (some.others q (not_in dir q h));
}

pub renamed_within : (from : DirAt) (to : List ℕ) (s s' : Store) → IsRenamed from to s s' → IsWithin from.table.0 s s'
renamed_within from to s s' moved = record {
  others = λ q h. moved.others q (not_in from q h) (not_in (dir_named from to) q h);
}

pub torn_renamed_within : (from : DirAt) (to : List ℕ) (s s' : Store) → TornRename from to s s' → IsWithin from.table.0 s s'
torn_renamed_within from to s s' (inl e) = stood from.table.0 s s' e
torn_renamed_within from to s s' (inr moved) = renamed_within from to s s' moved

-- ## Putting the places of a list, one after another

or_false : (b : Bool) → b ≡ (b || false)
or_false true = refl
or_false false = refl

or_some : (a b c : Bool) (x : List ℕ) (o : Option (List ℕ)) → is_some o ≡ (a || b) → is_some (cond c (Some x) o) ≡ (a || (b || (c || false)))
or_some true b true x o e = refl
or_some true b false x o e = e
or_some false true true x o e = refl
or_some false true false x o e = e
or_some false false true x o e = refl
or_some false false false x o e = e

pub put_init : (names : Tree) (q : Place) → tree.contains_key names q ≡ (tree.contains_key names q || is_among [] q)
put_init names q = or_false (tree.contains_key names q)

pub put_next : (places : List Place) (i : ℕ) (place : Place) → i < length places → place ≡ get_or places i place →
    (first : Tree) (empty : List ℕ) (names names' : Store) → HasFile place empty names names' →
    ((q : Place) → tree.contains_key names.tree q ≡ (tree.contains_key first q || is_among (take i places) q)) →
    (q : Place) → tree.contains_key names'.tree q ≡ (tree.contains_key first q || is_among (take (i + 1) places) q)
put_next places i place low at first empty names names' has so_far q =
    ap is_some (get-HasFile place empty names names' has q)
    ∙ or_some (tree.contains_key first q) (is_among (take i places) q) (eq_by_cmp place_cmp q place) empty _ (so_far q)
    ∙ sym (ap (λ ps. tree.contains_key first q || is_among ps q) (take_more places i place low)
    ∙ ap (λ b. tree.contains_key first q || b) (list_any-append (eq_by_cmp place_cmp q) (take i places) (get_or places i place ∷ []))
    ∙ ap (λ p. tree.contains_key first q || (is_among (take i places) q || (eq_by_cmp place_cmp q p || false))) (sym at))

pub put_done : (places : List Place) (i : ℕ) (first names : Tree) → length places ≤ i →
    ((q : Place) → tree.contains_key names q ≡ (tree.contains_key first q || is_among (take i places) q)) →
    (q : Place) → tree.contains_key names q ≡ (tree.contains_key first q || is_among places q)
put_done places i first names past all q = all q ∙ ap (λ ps. tree.contains_key first q || is_among ps q) (take_all i places past)

-- all were put where nothing was
pub put_first : (places : List Place) (first : Store) (names : Tree) → first ≡ record { tree = tree.empty; journal = [] } →
    ((q : Place) → tree.contains_key names q ≡ (tree.contains_key first.tree q || is_among places q)) →
    (q : Place) → tree.contains_key names q ≡ is_among places q
put_first places first names is all q =
    all q
    ∙ ap (λ b. b || is_among places q) (ap (λ (s : Store). tree.contains_key s.tree q) is ∙ ap is_some (tree.get-empty place_cmp q))
