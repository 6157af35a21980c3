-- An expression that looks at such places alone is the same on rows that agree there.
use Rattle.std.proofs.Common.{◌≡◌, ℕ, Bool, true, false, ◌&&◌, ◌||◌, ◌==◌, IsTrue, List, [], ◌∷◌, map, slice_get, Option, Some, None, refl, sym, ap, ◌∙◌, subst, eqb-true, true≢false}
use Rattle.std.specs.List.{list_all}
use Rattle.hv_value.specs.declared.sql_type.SqlType.{SqlType}
use Rattle.hv_value.specs.declared.value.Value.{Value}
use Rattle.hv_expr.specs.declared.function.Aggregate.{Aggregate}
use Rattle.hv_expr.specs.declared.function.Many.{Many}
use Rattle.hv_expr.specs.declared.function.One.{One}
use Rattle.hv_expr.specs.declared.function.Three.{Three}
use Rattle.hv_expr.specs.declared.function.Two.{Two}
use Rattle.hv_expr.specs.declared.tree.Branch.{Branch}
use Rattle.hv_expr.specs.declared.tree.Link.{Link}
use Rattle.hv_expr.specs.declared.tree.TypedExpr.{TypedExpr}
use Rattle.hv_expr.specs.declared.tree.TypedExpr.TheOpen.{TypedExpr-F}
use Rattle.hv_expr.specs.declared.tree.TypedExpr.TheViews.{roll-TypedExpr, out-roll-TypedExpr}
use Rattle.hv_expr.specs.declared.tree.TypedExpr.TheFolds.{fold_out-TypedExpr, map-TypedExpr, ind-TypedExpr, fold-TypedExpr}
use Rattle.hv_expr.specs.declared.tree.TypedExpr.TheShapes
use Rattle.hv_expr.specs.declared.tree.TypedExpr.TheVariants as tree
use Rattle.hv_expr.specs.declared.tree.TypedExpr.TheVariants.{rolls-Column, rolls-Literal, rolls-One, rolls-Two, rolls-Three, rolls-Many, rolls-In, rolls-Chain, rolls-Case, rolls-CountRows, rolls-Aggregate}
use Rattle.hv_expr.specs.Evaluation.{value_of}
use Rattle.hv_law_expr.specs.Places.{some_of, layer_looks, looks_at, only_all, only_link, only_links, layer_only, looks_only, AgreeAt}
use Rattle.hv_law_expr.proofs.PlaceLaws.{looks_at-roll, on_agreeing_rows}

abbrev itself : Bool → Bool
itself part = part

module _ (such : ℕ → Bool) where
  all-mapped : (xs : List TypedExpr) → only_all itself (map (looks_only such) xs) ≡ only_all (looks_only such) xs
  unfolding only_all
  all-mapped [] = refl
  all-mapped (x ∷ xs) = ap (λ rest. looks_only such x && rest) (all-mapped xs)

  links-mapped : (links : List (Link TypedExpr))
      → only_links itself (map ((TheShapes.former-TypedExpr-Chain-2-at-2).map TypedExpr Bool (looks_only such)) links) ≡ only_links (looks_only such) links
  unfolding only_links
  links-mapped [] = refl
  links-mapped (link ∷ links) = ap (λ rest. looks_only such link.operand && rest) (links-mapped links)

  mapped : (x : TypedExpr-F TypedExpr) → layer_only itself such (map-TypedExpr TypedExpr Bool (looks_only such) x) ≡ layer_only (looks_only such) such x
  mapped (TypedExpr-F.Column place kind) = refl
  mapped (TypedExpr-F.Literal literal kind) = refl
  mapped (TypedExpr-F.One function kind x) = refl
  mapped (TypedExpr-F.Two function kind x y) = refl
  mapped (TypedExpr-F.Three function kind x y z) = refl
  mapped (TypedExpr-F.Many function kind arguments) = all-mapped arguments
  mapped (TypedExpr-F.In x negated among) = ap (λ rest. looks_only such x && rest) (all-mapped among)
  mapped (TypedExpr-F.Chain kind first links) = ap (λ rest. looks_only such first && rest) (links-mapped links)
  mapped (TypedExpr-F.Case kind operand branches otherwise) = refl
  mapped TypedExpr-F.CountRows = refl
  mapped (TypedExpr-F.Aggregate function distinct kind argument) = refl

  only-roll : (x : TypedExpr-F TypedExpr) → looks_only such (roll-TypedExpr x) ≡ layer_only (looks_only such) such x
  unfolding looks_only
  only-roll x =
      fold_out-TypedExpr Bool (layer_only (λ part. part) such) (roll-TypedExpr x)
      ∙ ap (λ y. layer_only (λ part. part) such (map-TypedExpr TypedExpr Bool (fold-TypedExpr Bool (layer_only (λ part. part) such)) y)) (out-roll-TypedExpr x) ∙ mapped x

  -- node by node

  at : {e : TypedExpr} (layer : TypedExpr-F TypedExpr) → e ≡ roll-TypedExpr layer → looks_only such e ≡ layer_only (looks_only such) such layer
  at layer is = ap (looks_only such) is ∙ only-roll layer

  pub only-Column : (place : ℕ) (kind : SqlType) → looks_only such (tree.Column place kind) ≡ such place
  only-Column place kind = at (TypedExpr-F.Column place kind) (sym (rolls-Column place kind))

  pub only-Literal : (literal : Value) (kind : SqlType) → looks_only such (tree.Literal literal kind) ≡ true
  only-Literal literal kind = at (TypedExpr-F.Literal literal kind) (sym (rolls-Literal literal kind))

  pub only-One : (function : One) (kind : SqlType) (x : TypedExpr) → looks_only such (tree.One function kind x) ≡ looks_only such x
  only-One function kind x = at (TypedExpr-F.One function kind x) (sym (rolls-One function kind x))

  pub only-Two : (function : Two) (kind : SqlType) (x y : TypedExpr) → looks_only such (tree.Two function kind x y) ≡ (looks_only such x && looks_only such y)
  only-Two function kind x y = at (TypedExpr-F.Two function kind x y) (sym (rolls-Two function kind x y))

  pub only-Three : (function : Three) (kind : SqlType) (x y z : TypedExpr)
      → looks_only such (tree.Three function kind x y z) ≡ (looks_only such x && (looks_only such y && looks_only such z))
  only-Three function kind x y z = at (TypedExpr-F.Three function kind x y z) (sym (rolls-Three function kind x y z))

  pub only-Many : (function : Many) (kind : SqlType) (arguments : List TypedExpr)
      → looks_only such (tree.Many function kind arguments) ≡ only_all (looks_only such) arguments
  only-Many function kind arguments = at (TypedExpr-F.Many function kind arguments) (sym (rolls-Many function kind arguments))

  pub only-In : (x : TypedExpr) (negated : Bool) (among : List TypedExpr)
      → looks_only such (tree.In x negated among) ≡ (looks_only such x && only_all (looks_only such) among)
  only-In x negated among = at (TypedExpr-F.In x negated among) (sym (rolls-In x negated among))

  pub only-Chain : (kind : SqlType) (first : TypedExpr) (links : List (Link TypedExpr))
      → looks_only such (tree.Chain kind first links) ≡ (looks_only such first && only_links (looks_only such) links)
  only-Chain kind first links = at (TypedExpr-F.Chain kind first links) (sym (rolls-Chain kind first links))

  pub only-Case : (kind : SqlType) (operand : Option TypedExpr) (branches : List (Branch TypedExpr)) (otherwise : Option TypedExpr)
      → looks_only such (tree.Case kind operand branches otherwise) ≡ false
  only-Case kind operand branches otherwise = at (TypedExpr-F.Case kind operand branches otherwise) (sym (rolls-Case kind operand branches otherwise))

  pub only-CountRows : looks_only such tree.CountRows ≡ false
  only-CountRows = at TypedExpr-F.CountRows (sym rolls-CountRows)

  pub only-Aggregate : (function : Aggregate) (distinct : Bool) (kind : SqlType) (argument : TypedExpr)
      → looks_only such (tree.Aggregate function distinct kind argument) ≡ false
  only-Aggregate function distinct kind argument = at (TypedExpr-F.Aggregate function distinct kind argument) (sym (rolls-Aggregate function distinct kind argument))

pub ruleset nodes = (only-Column, only-Literal, only-One, only-Two, only-Three, only-Many, only-In, only-Chain, only-Case, only-CountRows, only-Aggregate)

-- ---- what it looks at is among these places

left_of : (a b : Bool) → (a && b) ≡ true → a ≡ true
left_of true b h = refl
left_of false b h = h

right_of : (a b : Bool) → (a && b) ≡ true → b ≡ true
right_of true b h = h
right_of false b h = absurd (true≢false (sym h))

either_of : {C : Type 0} (a b : Bool) → IsTrue (a || b) → (IsTrue a → C) → (IsTrue b → C) → C
either_of true b h first second = first refl
either_of false b h first second = second h

module _ (such : ℕ → Bool) (k : ℕ) where
  abbrev Within : TypedExpr → Type 0
  Within expr = looks_only such expr ≡ true → IsTrue (looks_at k expr) → such k ≡ true

  abbrev Known : Type 0
  Known = (expr : TypedExpr) × Within expr

  abbrev plain : List Known → List TypedExpr
  plain exprs = map (λ e. e.0) exprs

  all-within : (exprs : List Known) → only_all (looks_only such) (plain exprs) ≡ true → IsTrue (some_of (looks_at k) (plain exprs)) → such k ≡ true
  unfolding only_all
  all-within [] o l = absurd (true≢false (sym l))
  all-within (expr ∷ exprs) o l =
      either_of (looks_at k expr.0) (some_of (looks_at k) (plain exprs)) l
      (expr.1 (left_of (looks_only such expr.0) (list_all (looks_only such) (plain exprs)) o))
      (all-within exprs (right_of (looks_only such expr.0) (list_all (looks_only such) (plain exprs)) o))

  abbrev plain_link : Link Known → Link TypedExpr
  plain_link link = record { operator = link.operator; operand = link.operand.0 }

  abbrev link_looks : Link TypedExpr → Bool
  link_looks link = looks_at k link.operand

  links-within : (links : List (Link Known)) → only_links (looks_only such) (map plain_link links) ≡ true
      → IsTrue (some_of link_looks (map plain_link links)) → such k ≡ true
  unfolding only_links
  links-within [] o l = absurd (true≢false (sym l))
  links-within (link ∷ links) o l =
      either_of (looks_at k link.operand.0) (some_of link_looks (map plain_link links)) l
      (link.operand.1 (left_of (looks_only such link.operand.0) (list_all (only_link (looks_only such)) (map plain_link links)) o))
      (links-within links (right_of (looks_only such link.operand.0) (list_all (only_link (looks_only such)) (map plain_link links)) o))

  abbrev forget : TypedExpr-F Known → TypedExpr-F TypedExpr
  forget y = map-TypedExpr Known TypedExpr (λ e. e.0) y

  layers : (y : TypedExpr-F Known) → layer_only (looks_only such) such (forget y) ≡ true → IsTrue (layer_looks k (looks_at k) (forget y)) → such k ≡ true
  layers (TypedExpr-F.Column place kind) o l = ap such (sym (eqb-true place k l)) ∙ o
  layers (TypedExpr-F.Literal literal kind) o l = absurd (true≢false (sym l))
  layers (TypedExpr-F.One function kind x) o l = x.1 o l
  layers (TypedExpr-F.Two function kind x y) o l =
      either_of (looks_at k x.0) (looks_at k y.0) l (x.1 (left_of (looks_only such x.0) (looks_only such y.0) o)) (y.1 (right_of (looks_only such x.0) (looks_only such y.0) o))
  layers (TypedExpr-F.Three function kind x y z) o l =
      let behind = right_of (looks_only such x.0) (looks_only such y.0 && looks_only such z.0) o in
      either_of (looks_at k x.0) (looks_at k y.0 || looks_at k z.0) l (x.1 (left_of (looks_only such x.0) (looks_only such y.0 && looks_only such z.0) o))
      (λ m. either_of (looks_at k y.0) (looks_at k z.0) m (y.1 (left_of (looks_only such y.0) (looks_only such z.0) behind))
      (z.1 (right_of (looks_only such y.0) (looks_only such z.0) behind)))
  layers (TypedExpr-F.Many function kind arguments) o l = all-within arguments o l
  layers (TypedExpr-F.In x negated among) o l =
      either_of (looks_at k x.0) (some_of (looks_at k) (plain among)) l (x.1 (left_of (looks_only such x.0) (only_all (looks_only such) (plain among)) o))
      (all-within among (right_of (looks_only such x.0) (only_all (looks_only such) (plain among)) o))
  layers (TypedExpr-F.Chain kind first links) o l =
      either_of (looks_at k first.0) (some_of link_looks (map plain_link links)) l
      (first.1 (left_of (looks_only such first.0) (only_links (looks_only such) (map plain_link links)) o))
      (links-within links (right_of (looks_only such first.0) (only_links (looks_only such) (map plain_link links)) o))
  layers (TypedExpr-F.Case kind operand branches otherwise) o l = absurd (true≢false (sym o))
  layers TypedExpr-F.CountRows o l = absurd (true≢false (sym o))
  layers (TypedExpr-F.Aggregate function distinct kind argument) o l = absurd (true≢false (sym o))

  pub within : (expr : TypedExpr) → Within expr
  within = ind-TypedExpr Within (λ x y is o l.
      let same : (x : TypedExpr-F TypedExpr) → forget y ≡ x → layer_only (looks_only such) such x ≡ true → IsTrue (layer_looks k (looks_at k) x) → such k ≡ true
      = λ x is. subst (λ x. layer_only (looks_only such) such x ≡ true → IsTrue (layer_looks k (looks_at k) x) → such k ≡ true) is (layers y) in
      same x is (sym (only-roll such x) ∙ o) (subst IsTrue (looks_at-roll k x) l))

pub by_its_places : (expr : TypedExpr) (one other : List Value) (such : ℕ → Bool) → looks_only such expr ≡ true → AgreeAt such one other
    → value_of expr one ≡ value_of expr other
by_its_places expr one other such o agree = on_agreeing_rows expr one other (λ k l. agree k (within such k expr o l))

pub ruleset deciding = (by_its_places)
