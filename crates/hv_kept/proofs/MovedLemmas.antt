-- A directory's files get another directory's name.

use Rattle.std.proofs.Common.{◌≡◌, ℕ, Bool, true, false, not, cond, ◌&&◌, ◌||◌, nat_eq, List, [], ◌∷◌, map, filter, Option, Some, None, is_some, refl, sym, ◌∙◌, ap}
use Rattle.std.specs.Bool.{Decides}
use Rattle.std.specs.Ordering.{eq_by_cmp}
use Rattle.std.specs.List.{list_any}
use Rattle.std.specs.Cmp.{eq_by_cmp_equiv, unsigned_Decides, first_so, second_so}
use Rattle.std.specs.Cmp.Lexicographic.{pointwise}
use Rattle.std.specs.FinMap as tree
use Rattle.std.proofs.lemmas.Slice.Eq.{bytes_eq-Decides}
use Rattle.hv_base.specs.Told.{Moves}
use Rattle.hv_shelf.specs.declared.place.Place.{Place}
use Rattle.hv_shelf.specs.declared.place.DirAt.{DirAt}
use Rattle.hv_shelf.specs.Disk.{Tree, Store, IsRemoved, IsRenamed}
use Rattle.hv_shelf.specs.Laws.{get-IsRemoved}
use Rattle.hv_shelf.specs.Places.{place_cmp, place_total, is_in, place_named, dir_named}
use Rattle.hv_shelf.proofs.RenameLemmas.{Within}
use Rattle.hv_kept.specs.Kept.{is_among, moved_places, HasMoved, HaveSame, Knows}
use Rattle.hv_kept.proofs.NamesLemmas.{true_or_false, here-true}

here-same : (x y : Place) → x ≡ y → eq_by_cmp place_cmp x y ≡ true
here-same x y e = ap (eq_by_cmp place_cmp x) (sym e) ∙ (eq_by_cmp_equiv place_total).refl x

same_bool : (a b : Bool) → (a ≡ true → b ≡ true) → (b ≡ true → a ≡ true) → a ≡ b
same_bool true b p q = sym (p refl)
same_bool false true p q = q refl
same_bool false false p q = refl

-- ## A place is in a directory

texts : (xs ys : List ℕ) → Decides (pointwise nat_eq xs ys) (xs ≡ ys)
texts = bytes_eq-Decides

within : (dir : DirAt) (place : Place) → is_in dir place ≡ true → Within dir place
within dir place e =
    let rest = second_so _ _ e
    in record {
      table = (unsigned_Decides place.table.0 dir.table.0).0 (first_so _ _ e);
      partition = (texts place.partition dir.partition).0 (first_so _ _ rest);
      dir_is = (texts place.dir dir.dir).0 (second_so _ _ rest);
    }

all_true : (a b c : Bool) → a ≡ true → b ≡ true → c ≡ true → (a && (b && c)) ≡ true
all_true a b c p q r = λ i. p i && (q i && r i)

is_within : (dir : DirAt) (place : Place) → Within dir place → is_in dir place ≡ true
is_within dir place w =
    all_true _ _ _ ((unsigned_Decides place.table.0 dir.table.0).1 w.table) ((texts place.partition dir.partition).1 w.partition)
    ((texts place.dir dir.dir).1 w.dir_is)

module _ (from : DirAt) (to : List ℕ) where
  into : (place : Place) → is_in from place ≡ true → is_in (dir_named from to) (place_named place to) ≡ true
  into place e =
      let w = within from place e
      in is_within (dir_named from to) (place_named place to) (record { table = w.table; partition = w.partition; dir_is = refl })

  back : (place : Place) → is_in (dir_named from to) place ≡ true → is_in from (place_named place from.dir) ≡ true
  back place e =
      let w = within (dir_named from to) place e
      in is_within from (place_named place from.dir) (record { table = w.table; partition = w.partition; dir_is = refl })

  -- ## One file

  one_moved : (p q : Place) → is_in from p ≡ true →
      eq_by_cmp place_cmp q (place_named p to) ≡ (is_in (dir_named from to) q && eq_by_cmp place_cmp (place_named q from.dir) p)
  one_moved p q e =
      let source : p ≡ place_named p from.dir = λ i. record p { dir = (within from p e).dir_is i }
      in same_bool _ _
      (λ h. let is = here-true q (place_named p to) h
      in λ i. (ap (is_in (dir_named from to)) is ∙ into p e) i
      && here-same (place_named q from.dir) p (ap (λ (x : Place). place_named x from.dir) is ∙ sym source) i)
      (λ h. let inside = first_so _ _ h
      in let target : q ≡ place_named q to = λ i. record q { dir = (within (dir_named from to) q inside).dir_is i }
      in here-same q (place_named p to)
      (target ∙ ap (λ (x : Place). place_named x to) (here-true (place_named q from.dir) p (second_so _ _ h))))

  not_moved : (p q : Place) → is_in from p ≡ false → is_in (dir_named from to) q ≡ true →
      eq_by_cmp place_cmp (place_named q from.dir) p ≡ false
  not_moved p q e inside =
      true_or_false _ (λ h. let clash : true ≡ false = sym (back q inside) ∙ ap (is_in from) (here-true (place_named q from.dir) p h) ∙ e in cc)

  -- ## All files

  join : (c a b : Bool) → ((c && a) || (c && b)) ≡ (c && (a || b))
  join true a b = refl
  join false a b = refl

  pass : (c a b : Bool) → (c ≡ true → a ≡ false) → (c && b) ≡ (c && (a || b))
  pass true a b h = ap (λ x. x || b) (sym (h refl))
  pass false a b h = refl

  among_step : (p q : Place) (ps rest : List Place) (b : Bool) → is_in from p ≡ b →
      is_among (map (λ place. place_named place to) ps) q ≡ (is_in (dir_named from to) q && is_among rest (place_named q from.dir)) →
      is_among (map (λ place. place_named place to) (cond b (p ∷ ps) ps)) q
      ≡ (is_in (dir_named from to) q && (eq_by_cmp place_cmp (place_named q from.dir) p || is_among rest (place_named q from.dir)))
  among_step p q ps rest true e h =
      (λ i. one_moved p q e i || h i) ∙ join (is_in (dir_named from to) q) _ (is_among rest (place_named q from.dir))
  among_step p q ps rest false e h =
      h ∙ pass (is_in (dir_named from to) q) _ (is_among rest (place_named q from.dir)) (not_moved p q e)

  nowhere : (c : Bool) → false ≡ (c && false)
  nowhere true = refl
  nowhere false = refl

  -- a place is among those moved exactly where it is in the target and the one that it came from was there
  among_moved : (ps : List Place) (q : Place) →
      is_among (moved_places from to ps) q ≡ (is_in (dir_named from to) q && is_among ps (place_named q from.dir))
  among_moved [] q = nowhere (is_in (dir_named from to) q)
  among_moved (p ∷ ps) q = among_step p q (filter (is_in from) ps) ps (is_in from p) refl (among_moved ps q)

  or_true : (b : Bool) → (b || true) ≡ true
  or_true true = refl
  or_true false = refl

  any_step : (keeps : Place → Bool) (q p : Place) (ps : List Place) → keeps q ≡ true → (b : Bool) → eq_by_cmp place_cmp q p ≡ b →
      (b || is_among ps q) ≡ true → (is_among ps q ≡ true → list_any keeps ps ≡ true) → (keeps p || list_any keeps ps) ≡ true
  any_step keeps q p ps k true e h more = ap (λ x. x || list_any keeps ps) (ap keeps (sym (here-true q p e)) ∙ k)
  any_step keeps q p ps k false e h more = ap (λ x. keeps p || x) (more h) ∙ or_true (keeps p)

  any_of : (keeps : Place → Bool) (q : Place) → keeps q ≡ true → (ps : List Place) → is_among ps q ≡ true → list_any keeps ps ≡ true
  any_of keeps q k [] h = absurd (cc)
  any_of keeps q k (p ∷ ps) h = any_step keeps q p ps k (eq_by_cmp place_cmp q p) refl h (any_of keeps q k ps)

  free_of : (m : Tree) → list_any (is_in (dir_named from to)) (tree.keys m) ≡ false →
      (q : Place) → is_in (dir_named from to) q ≡ true → tree.contains_key m q ≡ false
  free_of m free q inside =
      true_or_false _ (λ h.
      let clash : true ≡ false = sym (any_of (is_in (dir_named from to)) q inside (tree.keys m) (sym (tree.contains_key-keys m q) ∙ h)) ∙ free
      in cc)

  shown : (c f x : Bool) (o : Option (List ℕ)) → (c ≡ true → is_some o ≡ false) →
      (is_some (cond f None o) || (c && x)) ≡ cond c x (cond f false (is_some o))
  shown true true x o free = refl
  shown true false x o free = ap (λ b. b || x) (free refl)
  shown false true x o free = refl
  shown false false x None free = refl
  shown false false x (Some y) free = refl

  -- the files were taken away and put under the other name
  pub has_moved : (m r : Store) (n : Tree) (places : List Place) → list_any (is_in (dir_named from to)) (tree.keys m.tree) ≡ false →
      places ≡ moved_places from to (tree.keys m.tree) → IsRemoved from m r →
      ((q : Place) → tree.contains_key n q ≡ (tree.contains_key r.tree q || is_among places q)) → HasMoved from to m.tree n
  has_moved m r n places free are gone all = record {
    free = free_of m.tree free;
    moved = λ q.
        all q
        ∙ (λ i. is_some (get-IsRemoved from m r gone q i)
        || (ap (λ ps. is_among ps q) are ∙ among_moved (tree.keys m.tree) q
        ∙ ap (λ b. is_in (dir_named from to) q && b) (sym (tree.contains_key-keys m.tree (place_named q from.dir)))) i)
        ∙ shown (is_in (dir_named from to) q) (is_in from q) (tree.contains_key m.tree (place_named q from.dir)) (tree.get m.tree q) (free_of m.tree free q);
  }

  -- ## Beside the store

  none : (o : Option (List ℕ)) → is_some o ≡ false → o ≡ None
  none None e = refl
  none (Some x) e = absurd (cc)

  alike : (c f x y : Bool) (o u : Option (List ℕ)) → x ≡ is_some o → y ≡ is_some u →
      cond c x (cond f false y) ≡ is_some (cond c o (cond f None u))
  alike true f x y o u p q = p
  alike false true x y o u p q = refl
  alike false false x y o u p q = q

  renamed_same : (m n : Tree) (s s' : Store) → HasMoved from to m n → IsRenamed from to s s' →
      HaveSame from.table.0 m s.tree → HaveSame from.table.0 n s'.tree
  renamed_same m n s s' noted renamed has =
      let free : (place : Place) → is_in (dir_named from to) place ≡ true → tree.get s.tree place ≡ None =
      λ place inside. none _ (sym (has.same place (first_so _ _ inside)) ∙ noted.free place inside)
      in record {
        same = λ q of.
            noted.moved q
            ∙ alike (is_in (dir_named from to) q) (is_in from q) _ _ (tree.get s.tree (place_named q from.dir)) (tree.get s.tree q)
            (has.same (place_named q from.dir) of) (has.same q of)
            ∙ sym (ap is_some (renamed.moved free q));
      }

  pub renamed_known : (names names' : Store) (before now : Option Store) → HasMoved from to names.tree names'.tree →
      Moves (IsRenamed from to) before now → Knows before from.table.0 (Some names) → Knows now from.table.0 (Some names')
  renamed_known names names' None None noted step known = tt
  renamed_known names names' None (Some s') noted step known = absurd step
  renamed_known names names' (Some s) None noted step known = absurd step
  renamed_known names names' (Some s) (Some s') noted step known = renamed_same names.tree names'.tree s s' noted step known

-- what a test said of a list, and the branch that was taken
pub free_from : (b x : Bool) → b ≡ not x → b ≡ true → x ≡ false
free_from b true said taken = let clash : true ≡ false = sym taken ∙ said in cc
free_from b false said taken = refl
