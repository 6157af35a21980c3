-- The equations of `same_tree` and of `stands_grouped`, node by node.
use Rattle.std.proofs.Common.{◌≡◌, ℕ, Bool, false, ◌||◌, ◌&&◌, List, [], ◌∷◌, map, Option, Some, None, option_map, refl, sym, ap, ◌∙◌, ◌≢◌}
use Rattle.hv_value.specs.declared.sql_type.SqlType.{SqlType}
use Rattle.hv_value.specs.declared.value.Value.{Value}
use Rattle.hv_expr.specs.declared.function.Aggregate.{Aggregate}
use Rattle.hv_expr.specs.declared.function.Many.{Many}
use Rattle.hv_expr.specs.declared.function.One.{One}
use Rattle.hv_expr.specs.declared.function.Three.{Three}
use Rattle.hv_expr.specs.declared.function.Two.{Two}
use Rattle.hv_expr.specs.declared.tree.Branch.{Branch}
use Rattle.hv_expr.specs.declared.tree.Link.{Link}
use Rattle.hv_expr.specs.declared.tree.TypedExpr.{TypedExpr}
use Rattle.hv_expr.specs.declared.tree.TypedExpr.TheOpen.{TypedExpr-F}
use Rattle.hv_expr.specs.declared.tree.TypedExpr.TheViews.{out-TypedExpr, roll-TypedExpr, out-roll-TypedExpr, roll-out-TypedExpr}
use Rattle.hv_expr.specs.declared.tree.TypedExpr.TheFolds.{fold_out-TypedExpr, map-TypedExpr}
use Rattle.hv_expr.specs.declared.tree.TypedExpr.TheShapes
use Rattle.hv_expr.specs.declared.tree.TypedExpr.TheVariants as tree
use Rattle.hv_expr.specs.declared.tree.TypedExpr.TheVariants.{rolls-Column, rolls-Literal, rolls-One, rolls-Two, rolls-Three, rolls-Many, rolls-In, rolls-Chain, rolls-Case, rolls-CountRows, rolls-Aggregate}
use Rattle.hv_typing.specs.Same.{Test, all_same, some_same, link_same, branch_same, links_same, branches_same, layer_same, same_tree, is_column, is_literal, is_one, is_two, is_three, is_many, is_in, is_chain, is_case, is_count, is_aggregate}
use Rattle.hv_typing.specs.Standing as standing
use Rattle.hv_typing.specs.Standing.{is_key, layer_stands, stands_as, stands_grouped, operands_stand, some_stands, all_stand, links_stand, branches_stand, parts_stand}

abbrev Answer : Type 0
Answer = TypedExpr → Bool

abbrev itself : Answer → TypedExpr → Bool
itself part = part

-- ---- sameness

module _ (f : TypedExpr → Answer) where
  some-mapped : (x : Option TypedExpr) (u : Option TypedExpr) → some_same itself (option_map f x) u ≡ some_same f x u
  unfolding some_same
  some-mapped None None = refl
  some-mapped None (Some u) = refl
  some-mapped (Some x) None = refl
  some-mapped (Some x) (Some u) = refl

  all-mapped : (xs us : List TypedExpr) → all_same itself (map f xs) us ≡ all_same f xs us
  unfolding all_same
  all-mapped [] [] = refl
  all-mapped [] (u ∷ us) = refl
  all-mapped (x ∷ xs) [] = refl
  all-mapped (x ∷ xs) (u ∷ us) = ap (λ rest. f x u && rest) (all-mapped xs us)

  links-mapped : (links others : List (Link TypedExpr))
      → all_same (link_same itself) (map ((TheShapes.former-TypedExpr-Chain-2-at-2).map TypedExpr Answer f) links) others ≡ all_same (link_same f) links others
  unfolding all_same
  links-mapped [] [] = refl
  links-mapped [] (other ∷ others) = refl
  links-mapped (link ∷ links) [] = refl
  links-mapped (link ∷ links) (other ∷ others) = ap (λ rest. link_same f link other && rest) (links-mapped links others)

  branches-mapped : (branches others : List (Branch TypedExpr))
      → all_same (branch_same itself) (map ((TheShapes.former-TypedExpr-Case-2-at-2).map TypedExpr Answer f) branches) others ≡ all_same (branch_same f) branches others
  unfolding all_same
  branches-mapped [] [] = refl
  branches-mapped [] (other ∷ others) = refl
  branches-mapped (branch ∷ branches) [] = refl
  branches-mapped (branch ∷ branches) (other ∷ others) = ap (λ rest. branch_same f branch other && rest) (branches-mapped branches others)

  mapped : (layer y : TypedExpr-F TypedExpr) → layer_same itself (map-TypedExpr TypedExpr Answer f layer) y ≡ layer_same f layer y
  mapped (TypedExpr-F.Column place kind) y = refl
  mapped (TypedExpr-F.Literal literal kind) y = refl
  mapped (TypedExpr-F.One function kind x) y = refl
  mapped (TypedExpr-F.Two function kind x1 x2) y = refl
  mapped (TypedExpr-F.Three function kind x1 x2 x3) y = refl
  mapped (TypedExpr-F.Many function kind xs) y = λ i. is_many function kind (λ us. all-mapped xs us i) y
  mapped (TypedExpr-F.In x negated among) y = λ i. is_in (f x) negated (λ us. all-mapped among us i) y
  mapped (TypedExpr-F.Chain kind first links) y = λ i. is_chain kind (f first) (λ us. links-mapped links us i) y
  mapped (TypedExpr-F.Case kind None branches None) y =
      λ i. is_case kind (λ u. some-mapped None u i) (λ us. branches-mapped branches us i) (λ u. some-mapped None u i) y
  mapped (TypedExpr-F.Case kind None branches (Some z)) y =
      λ i. is_case kind (λ u. some-mapped None u i) (λ us. branches-mapped branches us i) (λ u. some-mapped (Some z) u i) y
  mapped (TypedExpr-F.Case kind (Some x) branches None) y =
      λ i. is_case kind (λ u. some-mapped (Some x) u i) (λ us. branches-mapped branches us i) (λ u. some-mapped None u i) y
  mapped (TypedExpr-F.Case kind (Some x) branches (Some z)) y =
      λ i. is_case kind (λ u. some-mapped (Some x) u i) (λ us. branches-mapped branches us i) (λ u. some-mapped (Some z) u i) y
  mapped TypedExpr-F.CountRows y = refl
  mapped (TypedExpr-F.Aggregate function distinct kind x) y = refl

same-out : (e y : TypedExpr) → same_tree e y ≡ layer_same same_tree (out-TypedExpr e) (out-TypedExpr y)
unfolding same_tree
same-out e y =
    ap (λ (answer : Answer). answer y) (fold_out-TypedExpr Answer (λ layer other. layer_same (λ part. part) layer (out-TypedExpr other)) e)
    ∙ mapped same_tree (out-TypedExpr e) (out-TypedExpr y)

at : {e : TypedExpr} {layer : TypedExpr-F TypedExpr} → e ≡ roll-TypedExpr layer → out-TypedExpr (roll-TypedExpr layer) ≡ layer → out-TypedExpr e ≡ layer
at is opens = ap out-TypedExpr is ∙ opens

same-at : {e : TypedExpr} (layer : TypedExpr-F TypedExpr) (y : TypedExpr) → e ≡ roll-TypedExpr layer → same_tree e y ≡ layer_same same_tree layer (out-TypedExpr y)
same-at {e = e} layer y is = same-out e y ∙ ap (λ layer. layer_same same_tree layer (out-TypedExpr y)) (at is (out-roll-TypedExpr layer))

pub same-Column : (place : ℕ) (kind : SqlType) (y : TypedExpr) → same_tree (tree.Column place kind) y ≡ is_column place kind (out-TypedExpr y)
same-Column place kind y = same-at (TypedExpr-F.Column place kind) y (sym (rolls-Column place kind))

pub same-Literal : (literal : Value) (kind : SqlType) (y : TypedExpr) → same_tree (tree.Literal literal kind) y ≡ is_literal literal kind (out-TypedExpr y)
same-Literal literal kind y = same-at (TypedExpr-F.Literal literal kind) y (sym (rolls-Literal literal kind))

pub same-One : (function : One) (kind : SqlType) (x y : TypedExpr) → same_tree (tree.One function kind x) y ≡ is_one function kind (same_tree x) (out-TypedExpr y)
same-One function kind x y = same-at (TypedExpr-F.One function kind x) y (sym (rolls-One function kind x))

pub same-Two : (function : Two) (kind : SqlType) (x1 x2 y : TypedExpr)
    → same_tree (tree.Two function kind x1 x2) y ≡ is_two function kind (same_tree x1) (same_tree x2) (out-TypedExpr y)
same-Two function kind x1 x2 y = same-at (TypedExpr-F.Two function kind x1 x2) y (sym (rolls-Two function kind x1 x2))

pub same-Three : (function : Three) (kind : SqlType) (x1 x2 x3 y : TypedExpr)
    → same_tree (tree.Three function kind x1 x2 x3) y ≡ is_three function kind (same_tree x1) (same_tree x2) (same_tree x3) (out-TypedExpr y)
same-Three function kind x1 x2 x3 y = same-at (TypedExpr-F.Three function kind x1 x2 x3) y (sym (rolls-Three function kind x1 x2 x3))

pub same-Many : (function : Many) (kind : SqlType) (xs : List TypedExpr) (y : TypedExpr)
    → same_tree (tree.Many function kind xs) y ≡ is_many function kind (all_same same_tree xs) (out-TypedExpr y)
same-Many function kind xs y = same-at (TypedExpr-F.Many function kind xs) y (sym (rolls-Many function kind xs))

pub same-In : (x : TypedExpr) (negated : Bool) (among : List TypedExpr) (y : TypedExpr)
    → same_tree (tree.In x negated among) y ≡ is_in (same_tree x) negated (all_same same_tree among) (out-TypedExpr y)
same-In x negated among y = same-at (TypedExpr-F.In x negated among) y (sym (rolls-In x negated among))

pub same-Chain : (kind : SqlType) (first : TypedExpr) (links : List (Link TypedExpr)) (y : TypedExpr)
    → same_tree (tree.Chain kind first links) y ≡ is_chain kind (same_tree first) (links_same same_tree links) (out-TypedExpr y)
same-Chain kind first links y = same-at (TypedExpr-F.Chain kind first links) y (sym (rolls-Chain kind first links))

pub same-Case : (kind : SqlType) (operand : Option TypedExpr) (branches : List (Branch TypedExpr)) (otherwise : Option TypedExpr) (y : TypedExpr)
    → same_tree (tree.Case kind operand branches otherwise) y
    ≡ is_case kind (some_same same_tree operand) (branches_same same_tree branches) (some_same same_tree otherwise) (out-TypedExpr y)
same-Case kind operand branches otherwise y = same-at (TypedExpr-F.Case kind operand branches otherwise) y (sym (rolls-Case kind operand branches otherwise))

pub same-CountRows : (y : TypedExpr) → same_tree tree.CountRows y ≡ is_count (out-TypedExpr y)
same-CountRows y = same-at TypedExpr-F.CountRows y (sym rolls-CountRows)

pub same-Aggregate : (function : Aggregate) (distinct : Bool) (kind : SqlType) (x y : TypedExpr)
    → same_tree (tree.Aggregate function distinct kind x) y ≡ is_aggregate function distinct kind (same_tree x) (out-TypedExpr y)
same-Aggregate function distinct kind x y = same-at (TypedExpr-F.Aggregate function distinct kind x) y (sym (rolls-Aggregate function distinct kind x))

pub ruleset sames = (same-Column, same-Literal, same-One, same-Two, same-Three, same-Many, same-In, same-Chain, same-Case, same-CountRows, same-Aggregate)

-- ---- another node isn't the same

pub other-Column : (place : ℕ) (kind : SqlType) (whole : TypedExpr) → ((a0 : ℕ) (a1 : SqlType) → whole ≢ tree.Column a0 a1) → is_column place kind (out-TypedExpr whole) ≡ false
other-Column place kind whole other = by (out-TypedExpr whole) (sym (roll-out-TypedExpr whole))
  where
    by : (layer : TypedExpr-F TypedExpr) → whole ≡ roll-TypedExpr layer → is_column place kind layer ≡ false
    by (TypedExpr-F.Column a0 a1) is = absurd (other a0 a1 (is ∙ rolls-Column a0 a1))
    by layer is = refl

pub other-Literal : (literal : Value) (kind : SqlType) (whole : TypedExpr) → ((a0 : Value) (a1 : SqlType) → whole ≢ tree.Literal a0 a1) → is_literal literal kind (out-TypedExpr whole) ≡ false
other-Literal literal kind whole other = by (out-TypedExpr whole) (sym (roll-out-TypedExpr whole))
  where
    by : (layer : TypedExpr-F TypedExpr) → whole ≡ roll-TypedExpr layer → is_literal literal kind layer ≡ false
    by (TypedExpr-F.Literal a0 a1) is = absurd (other a0 a1 (is ∙ rolls-Literal a0 a1))
    by layer is = refl

pub other-One : (function : One) (kind : SqlType) (x : Test TypedExpr) (whole : TypedExpr) → ((a0 : One) (a1 : SqlType) (a2 : TypedExpr) → whole ≢ tree.One a0 a1 a2) → is_one function kind x (out-TypedExpr whole) ≡ false
other-One function kind x whole other = by (out-TypedExpr whole) (sym (roll-out-TypedExpr whole))
  where
    by : (layer : TypedExpr-F TypedExpr) → whole ≡ roll-TypedExpr layer → is_one function kind x layer ≡ false
    by (TypedExpr-F.One a0 a1 a2) is = absurd (other a0 a1 a2 (is ∙ rolls-One a0 a1 a2))
    by layer is = refl

pub other-Two : (function : Two) (kind : SqlType) (x y : Test TypedExpr) (whole : TypedExpr) → ((a0 : Two) (a1 : SqlType) (a2 : TypedExpr) (a3 : TypedExpr) → whole ≢ tree.Two a0 a1 a2 a3) → is_two function kind x y (out-TypedExpr whole) ≡ false
other-Two function kind x y whole other = by (out-TypedExpr whole) (sym (roll-out-TypedExpr whole))
  where
    by : (layer : TypedExpr-F TypedExpr) → whole ≡ roll-TypedExpr layer → is_two function kind x y layer ≡ false
    by (TypedExpr-F.Two a0 a1 a2 a3) is = absurd (other a0 a1 a2 a3 (is ∙ rolls-Two a0 a1 a2 a3))
    by layer is = refl

pub other-Three : (function : Three) (kind : SqlType) (x y z : Test TypedExpr) (whole : TypedExpr) → ((a0 : Three) (a1 : SqlType) (a2 : TypedExpr) (a3 : TypedExpr) (a4 : TypedExpr) → whole ≢ tree.Three a0 a1 a2 a3 a4) → is_three function kind x y z (out-TypedExpr whole) ≡ false
other-Three function kind x y z whole other = by (out-TypedExpr whole) (sym (roll-out-TypedExpr whole))
  where
    by : (layer : TypedExpr-F TypedExpr) → whole ≡ roll-TypedExpr layer → is_three function kind x y z layer ≡ false
    by (TypedExpr-F.Three a0 a1 a2 a3 a4) is = absurd (other a0 a1 a2 a3 a4 (is ∙ rolls-Three a0 a1 a2 a3 a4))
    by layer is = refl

pub other-Many : (function : Many) (kind : SqlType) (xs : Test (List TypedExpr)) (whole : TypedExpr) → ((a0 : Many) (a1 : SqlType) (a2 : List TypedExpr) → whole ≢ tree.Many a0 a1 a2) → is_many function kind xs (out-TypedExpr whole) ≡ false
other-Many function kind xs whole other = by (out-TypedExpr whole) (sym (roll-out-TypedExpr whole))
  where
    by : (layer : TypedExpr-F TypedExpr) → whole ≡ roll-TypedExpr layer → is_many function kind xs layer ≡ false
    by (TypedExpr-F.Many a0 a1 a2) is = absurd (other a0 a1 a2 (is ∙ rolls-Many a0 a1 a2))
    by layer is = refl

pub other-In : (x : Test TypedExpr) (negated : Bool) (among : Test (List TypedExpr)) (whole : TypedExpr) → ((a0 : TypedExpr) (a1 : Bool) (a2 : List TypedExpr) → whole ≢ tree.In a0 a1 a2) → is_in x negated among (out-TypedExpr whole) ≡ false
other-In x negated among whole other = by (out-TypedExpr whole) (sym (roll-out-TypedExpr whole))
  where
    by : (layer : TypedExpr-F TypedExpr) → whole ≡ roll-TypedExpr layer → is_in x negated among layer ≡ false
    by (TypedExpr-F.In a0 a1 a2) is = absurd (other a0 a1 a2 (is ∙ rolls-In a0 a1 a2))
    by layer is = refl

pub other-Chain : (kind : SqlType) (first : Test TypedExpr) (links : Test (List (Link TypedExpr))) (whole : TypedExpr) → ((a0 : SqlType) (a1 : TypedExpr) (a2 : List (Link TypedExpr)) → whole ≢ tree.Chain a0 a1 a2) → is_chain kind first links (out-TypedExpr whole) ≡ false
other-Chain kind first links whole other = by (out-TypedExpr whole) (sym (roll-out-TypedExpr whole))
  where
    by : (layer : TypedExpr-F TypedExpr) → whole ≡ roll-TypedExpr layer → is_chain kind first links layer ≡ false
    by (TypedExpr-F.Chain a0 a1 a2) is = absurd (other a0 a1 a2 (is ∙ rolls-Chain a0 a1 a2))
    by layer is = refl

pub other-Case : (kind : SqlType) (operand : Test (Option TypedExpr)) (branches : Test (List (Branch TypedExpr))) (otherwise : Test (Option TypedExpr)) (whole : TypedExpr) → ((a0 : SqlType) (a1 : Option TypedExpr) (a2 : List (Branch TypedExpr)) (a3 : Option TypedExpr) → whole ≢ tree.Case a0 a1 a2 a3) → is_case kind operand branches otherwise (out-TypedExpr whole) ≡ false
other-Case kind operand branches otherwise whole other = by (out-TypedExpr whole) (sym (roll-out-TypedExpr whole))
  where
    by : (layer : TypedExpr-F TypedExpr) → whole ≡ roll-TypedExpr layer → is_case kind operand branches otherwise layer ≡ false
    by (TypedExpr-F.Case a0 a1 a2 a3) is = absurd (other a0 a1 a2 a3 (is ∙ rolls-Case a0 a1 a2 a3))
    by layer is = refl

pub other-Aggregate : (function : Aggregate) (distinct : Bool) (kind : SqlType) (x : Test TypedExpr) (whole : TypedExpr) → ((a0 : Aggregate) (a1 : Bool) (a2 : SqlType) (a3 : TypedExpr) → whole ≢ tree.Aggregate a0 a1 a2 a3) → is_aggregate function distinct kind x (out-TypedExpr whole) ≡ false
other-Aggregate function distinct kind x whole other = by (out-TypedExpr whole) (sym (roll-out-TypedExpr whole))
  where
    by : (layer : TypedExpr-F TypedExpr) → whole ≡ roll-TypedExpr layer → is_aggregate function distinct kind x layer ≡ false
    by (TypedExpr-F.Aggregate a0 a1 a2 a3) is = absurd (other a0 a1 a2 a3 (is ∙ rolls-Aggregate a0 a1 a2 a3))
    by layer is = refl

pub ruleset others = (other-Column, other-Literal, other-One, other-Two, other-Three, other-Many, other-In, other-Chain, other-Case, other-Aggregate)

-- ---- standing in a group

module _ (keys : List TypedExpr) where
  some-stand : (x : Option TypedExpr) → some_same itself (option_map (stands_as keys) x) x ≡ some_stands (stands_grouped keys) x
  unfolding some_same some_stands stands_grouped
  some-stand None = refl
  some-stand (Some x) = refl

  all-stand : (xs : List TypedExpr) → all_same itself (map (stands_as keys) xs) xs ≡ all_stand (stands_grouped keys) xs
  unfolding all_same all_stand stands_grouped
  all-stand [] = refl
  all-stand (x ∷ xs) = ap (λ rest. stands_as keys x x && rest) (all-stand xs)

  links-stand : (links : List (Link TypedExpr))
      → all_same (standing.link_stands itself) (map ((TheShapes.former-TypedExpr-Chain-2-at-2).map TypedExpr Answer (stands_as keys)) links) links
      ≡ links_stand (stands_grouped keys) links
  unfolding all_same links_stand stands_grouped
  links-stand [] = refl
  links-stand (link ∷ links) = ap (λ rest. stands_as keys link.operand link.operand && rest) (links-stand links)

  branches-stand : (branches : List (Branch TypedExpr))
      → all_same (standing.branch_stands itself) (map ((TheShapes.former-TypedExpr-Case-2-at-2).map TypedExpr Answer (stands_as keys)) branches) branches
      ≡ branches_stand (stands_grouped keys) branches
  unfolding all_same branches_stand stands_grouped
  branches-stand [] = refl
  branches-stand (branch ∷ branches) =
      ap (λ rest. (stands_as keys branch.condition branch.condition && stands_as keys branch.value branch.value) && rest) (branches-stand branches)

  diagonal : (layer : TypedExpr-F TypedExpr)
      → operands_stand itself (map-TypedExpr TypedExpr Answer (stands_as keys) layer) layer ≡ parts_stand (stands_grouped keys) layer
  unfolding stands_grouped
  diagonal (TypedExpr-F.Column place kind) = refl
  diagonal (TypedExpr-F.Literal literal kind) = refl
  diagonal (TypedExpr-F.One function kind x) = refl
  diagonal (TypedExpr-F.Two function kind x1 x2) = refl
  diagonal (TypedExpr-F.Three function kind x1 x2 x3) = refl
  diagonal (TypedExpr-F.Many function kind xs) = all-stand xs
  diagonal (TypedExpr-F.In x negated among) = ap (λ rest. stands_as keys x x && rest) (all-stand among)
  diagonal (TypedExpr-F.Chain kind first links) = ap (λ rest. stands_as keys first first && rest) (links-stand links)
  diagonal (TypedExpr-F.Case kind None branches None) = λ i. some-stand None i && (branches-stand branches i && some-stand None i)
  diagonal (TypedExpr-F.Case kind None branches (Some y)) = λ i. some-stand None i && (branches-stand branches i && some-stand (Some y) i)
  diagonal (TypedExpr-F.Case kind (Some x) branches None) = λ i. some-stand (Some x) i && (branches-stand branches i && some-stand None i)
  diagonal (TypedExpr-F.Case kind (Some x) branches (Some y)) = λ i. some-stand (Some x) i && (branches-stand branches i && some-stand (Some y) i)
  diagonal TypedExpr-F.CountRows = refl
  diagonal (TypedExpr-F.Aggregate function distinct kind x) = refl

  pub stands-out : (e : TypedExpr) → stands_grouped keys e ≡ (is_key keys e || parts_stand (stands_grouped keys) (out-TypedExpr e))
  unfolding stands_grouped
  stands-out e =
      ap (λ (answer : Answer). answer e) (fold_out-TypedExpr Answer (layer_stands keys) e)
      ∙ ap (λ parts. is_key keys e || parts) (diagonal (out-TypedExpr e))

pub ruleset standings = stands-out
