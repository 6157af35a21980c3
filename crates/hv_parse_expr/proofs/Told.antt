-- What stands at a place, by its reading and by the grammar.
use Rattle.std.proofs.Common.{◌≡◌, ℕ, zero, suc, ◌+◌, ◌-◌, ◌≤◌, Option, Some, None, Result, Ok, Err, IfOk, List, ◌++◌, length, take, drop, nat_lt, refl, sym, ap, subst, arith, ◌∙◌, append_assoc, length-append, length-drop}
use Rattle.std.proofs.lemmas.List.{take-append-drop}
use Rattle.std.proofs.Math.Seq.{drop-append_seam}
use Rattle.hv_ast.specs.declared.token.Token.{Token}
use Rattle.hv_ast.specs.declared.expr.Expr.{Expr}
use Rattle.hv_grammar.specs.Nesting.{too_deep, most_levels}
use Rattle.hv_grammar.specs.Readers.{Outcome, and_then, kind_at}
use Rattle.hv_grammar.specs.Grammar as g
use Rattle.hv_grammar.specs.Grammar.{IsExpression}
use Rattle.hv_grammar.specs.Reading as r
use Rattle.hv_grammar.specs.Reading.{at_end, answer_of, answer_by, found, nesting, syntax, Answer, expression_at, whole}
use Rattle.hv_grammar.specs.Choices.{binds}
use Rattle.hv_parse_expr.specs.Exact.{ReadIsSpelled, SpelledIsRead, OneTree, TypesAreExact, Finds, TellsNesting}
use Rattle.hv_parse_expr.specs.Reads.{Tells}
use Rattle.hv_parse_expr.specs.declared.fault.ParseFault.{ParseFault}
use Rattle.hv_parse_expr.specs.declared.fault.ParseFault.TheVariants as fault
use Rattle.hv_parse_expr.proofs.Joins.{Suffix, then_some, some_is}
use Rattle.hv_parse_expr.proofs.Spelled.{expr_sound, type_sound}
use Rattle.hv_parse_expr.proofs.Found.{expr_whole, type_whole}
use Rattle.hv_parse_expr.proofs.Depth.{expr_goes}

pub read_spelled : ReadIsSpelled
read_spelled depth from to tree h = ((expr_sound depth).spelled from tree to h).0

pub spelled_read : SpelledIsRead
spelled_read depth room from to tree s fits ends =
    (expr_whole (suc room)).0.read tree from to ((expr_goes depth room).goes tree from to s fits).0 (ap (λ n. nat_lt n 1) ends)

pub types_exact : TypesAreExact
types_exact from to kind = ((λ s. type_whole.read kind from to s tt), (λ h. (type_sound.spelled from kind to h).0))

-- ---- an expression with what ends it

ended : (level : ℕ) (tree : Expr) (mid : List Token) (b : Expr) (rest : List Token) → at_end level tree mid ≡ Some (b, rest) → (level ≡ 0) × (tree ≡ b) × (mid ≡ rest)
ended zero tree mid b rest h =
    let same = some_is (tree, mid) (b, rest) h in
    (refl, ap (λ (q : Expr × List Token). q.0) same, ap (λ (q : Expr × List Token). q.1) same)
ended (suc level) tree mid b rest h = absurd (cc)

whole_spelled : (from : List Token) (tree : Expr) (to : List Token) → whole from ≡ Some (tree, to)
    → g.expr (suc most_levels) tree from to × Suffix from to × (binds (kind_at to) ≡ 0)
unfolding whole
whole_spelled from tree to h =
    let t = then_some (r.expr (suc most_levels) from) (λ tree. λ mid. at_end (binds (kind_at mid)) tree mid) tree to h in
    let last = ended (binds (kind_at t.0.1)) t.0.0 t.0.1 tree to t.2 in
    let one = (expr_sound (suc most_levels)).spelled from t.0.0 t.0.1 t.1 in (
      subst (λ z. g.expr (suc most_levels) z from to) last.1 (subst (λ z. g.expr (suc most_levels) t.0.0 from z) last.2 one.0),
      subst (λ z. Suffix from z) last.2 one.1,
      ap (λ z. binds (kind_at z)) (sym last.2) ∙ last.0,
    )

-- where the tokens behind lie
behind_at : (tokens : List Token) (from : ℕ) (to : List Token) → Suffix (drop from tokens) to
    → (drop (length tokens - length to) tokens ≡ to) × (length tokens - length to ≤ length tokens)
behind_at tokens from to s =
    let front = take from tokens ++ s.0 in
    let all : tokens ≡ front ++ to = sym (take-append-drop from tokens) ∙ ap (λ z. take from tokens ++ z) s.1 ∙ sym (append_assoc (take from tokens) s.0 to) in
    let long : length tokens ≡ length front + length to = ap length all ∙ length-append front to in
    let place : length tokens - length to ≡ length front = omega arith in
    (ap (λ n. drop n tokens) place ∙ ap (drop (length front)) all ∙ drop-append_seam front to, omega arith)

found_from : (tokens : List Token) (from : ℕ) (deep : Option ℕ) (o : Outcome Expr) → too_deep most_levels (drop from tokens) ≡ deep → whole (drop from tokens) ≡ o
    → (tree : Expr) (to : ℕ) → answer_by deep (answer_of (length tokens) o) ≡ found tree to → IsExpression tokens from to tree
found_from tokens from (Some at) o e w tree to h = absurd (cc)
found_from tokens from None None e w tree to h = absurd (cc)
found_from tokens from None (Some p) e w tree to h =
    let same : p.0 ≡ tree = cc in
    let place : length tokens - length p.1 ≡ to = cc in
    let it = whole_spelled (drop from tokens) p.0 p.1 w in
    let lies = behind_at tokens from p.1 it.1 in
    let there : drop to tokens ≡ p.1 = ap (λ n. drop n tokens) (sym place) ∙ lies.0 in
    record {
      nests = e;
      depth = suc most_levels;
      spelled = subst (λ z. g.expr (suc most_levels) z (drop from tokens) (drop to tokens)) same (subst (λ z. g.expr (suc most_levels) p.0 (drop from tokens) z) (sym there) it.0);
      ends = ap (λ z. binds (kind_at z)) there ∙ it.2;
      within = subst (λ z. z ≤ length tokens) place lies.1;
    }

pub found_at : (tokens : List Token) (from : ℕ) (tree : Expr) (to : ℕ) → expression_at tokens from ≡ found tree to → IsExpression tokens from to tree
unfolding expression_at
found_at tokens from tree to h = found_from tokens from (too_deep most_levels (drop from tokens)) (whole (drop from tokens)) refl refl tree to h

pub only_at : (tokens : List Token) (from : ℕ) (tree : Expr) (to : ℕ) → IsExpression tokens from to tree → expression_at tokens from ≡ found tree to
unfolding expression_at whole
only_at tokens from tree to s =
    let rest = drop from tokens in
    let behind = drop to tokens in
    let read = spelled_read s.depth most_levels rest behind tree s.spelled s.nests s.ends in
    let last : whole rest ≡ Some (tree, behind) =
    ap (λ o. and_then o (λ tree. λ mid. at_end (binds (kind_at mid)) tree mid)) read ∙ ap (λ n. at_end n tree behind) s.ends in
    let place : length tokens - length behind ≡ to = omega (arith, length-drop to tokens, s.within) in
    ap (λ d. answer_by d (answer_of (length tokens) (whole rest))) s.nests ∙ ap (answer_of (length tokens)) last ∙ ap (found tree) place

pub one_tree_at : OneTree
one_tree_at tokens from one other tree second s t =
    let same = sym (only_at tokens from tree one s) ∙ only_at tokens from second other t in
    (cc, cc)

-- ---- what the parser's answer tells

pub tells_found : (tokens : List Token) (from : ℕ) (result : Result (Expr × ℕ) ParseFault) → Tells (expression_at tokens from) result
    → IfOk result (λ p. IsExpression tokens from p.1 p.0)
tells_found tokens from (Ok p) h = found_at tokens from p.0 p.1 h
tells_found tokens from (Err e) h = tt

pub tells_only : (tokens : List Token) (from : ℕ) (result : Result (Expr × ℕ) ParseFault) → Tells (expression_at tokens from) result
    → (to : ℕ) (tree : Expr) → IsExpression tokens from to tree → Finds result to tree
tells_only tokens from (Ok p) h to tree s = let same = sym h ∙ only_at tokens from tree to s in (cc, cc)
tells_only tokens from (Err (fault.Nesting at)) h to tree s = let same = sym h ∙ only_at tokens from tree to s in absurd (cc)
tells_only tokens from (Err fault.Syntax) h to tree s = let same = sym h ∙ only_at tokens from tree to s in absurd (cc)
tells_only tokens from (Err fault.NoMemory) h to tree s = tt

nesting_from : (deep : Option ℕ) (all : ℕ) (o : Outcome Expr) (result : Result (Expr × ℕ) ParseFault) → Tells (answer_by deep (answer_of all o)) result → TellsNesting deep result
nesting_from None all o (Ok p) h = refl
nesting_from None all None (Err (fault.Nesting at)) h = absurd (cc)
nesting_from None all (Some p) (Err (fault.Nesting at)) h = absurd (cc)
nesting_from None all o (Err fault.Syntax) h = refl
nesting_from None all o (Err fault.NoMemory) h = tt
nesting_from (Some place) all o (Ok p) h = absurd (cc)
nesting_from (Some place) all o (Err (fault.Nesting at)) h = let same : place ≡ at = cc in ap Some same
nesting_from (Some place) all o (Err fault.Syntax) h = absurd (cc)
nesting_from (Some place) all o (Err fault.NoMemory) h = tt

pub tells_nesting : (tokens : List Token) (from : ℕ) (result : Result (Expr × ℕ) ParseFault) → Tells (expression_at tokens from) result
    → TellsNesting (too_deep most_levels (drop from tokens)) result
unfolding expression_at
tells_nesting tokens from result h = nesting_from (too_deep most_levels (drop from tokens)) (length tokens) (whole (drop from tokens)) result h
