-- What tokens are, by their reading and by the grammar.
use Rattle.std.proofs.Common.{◌≡◌, ℕ, suc, Option, Some, None, Result, Ok, Err, IfOk, List, [], ◌∷◌, refl, sym, ap, subst, arith, ◌∙◌}
use Rattle.hv_ast.specs.declared.token.Token.{Token}
use Rattle.hv_ast.specs.declared.statement.Stmt.{Stmt}
use Rattle.hv_grammar.specs.Nesting.{too_deep, most_levels}
use Rattle.hv_grammar.specs.Readers.{Outcome, kind_at}
use Rattle.hv_grammar.specs.StatementGrammar as g
use Rattle.hv_grammar.specs.StatementGrammar.{IsStatement}
use Rattle.hv_grammar.specs.StatementReading as r
use Rattle.hv_grammar.specs.StatementReading.{Answer, found, nesting, syntax, answer_at, answer_of, answer_by, statement_of}
use Rattle.hv_parse_expr.specs.declared.fault.ParseFault.{ParseFault}
use Rattle.hv_parse_expr.specs.declared.fault.ParseFault.TheVariants as fault
use Rattle.hv_parse_stmt.specs.Exact.{SpelledIsRead, OneStatement}
use Rattle.hv_parse_stmt.specs.Told.{Tells, Finds, TellsNesting}
use Rattle.hv_parse_stmt.proofs.Spelled.{statement_sound}
use Rattle.hv_parse_stmt.proofs.Found.{statement_whole}
use Rattle.hv_parse_stmt.proofs.Depth.{statement_goes}

pub spelled_read : SpelledIsRead
unfolding kind_at
spelled_read depth from tree s fits =
    statement_whole.read tree from [] ((statement_goes depth most_levels (omega arith)).goes tree from [] s fits).0 refl

-- nothing is left behind what is found
at_end : (tree : Stmt) (rest : List Token) (other : Stmt) → answer_at tree rest ≡ found other → (tree ≡ other) × (rest ≡ [])
at_end tree [] other h = (cc, refl)
at_end tree (token ∷ rest) other h = absurd (cc)

found_from : (tokens : List Token) (deep : Option ℕ) (o : Outcome Stmt) → too_deep most_levels tokens ≡ deep → r.statement tokens ≡ o
    → (tree : Stmt) → answer_by deep (answer_of o) ≡ found tree → IsStatement tokens tree
found_from tokens (Some at) o e w tree h = absurd (cc)
found_from tokens None None e w tree h = absurd (cc)
found_from tokens None (Some p) e w tree h =
    let last = at_end p.0 p.1 tree h in
    record {
      nests = e;
      depth = suc most_levels;
      spelled = subst (λ z. g.statement (suc most_levels) z tokens []) last.0 (subst (λ z. g.statement (suc most_levels) p.0 tokens z) last.1 (statement_sound.spelled tokens p.0 p.1 w).0);
    }

pub found_of : (tokens : List Token) (tree : Stmt) → statement_of tokens ≡ found tree → IsStatement tokens tree
unfolding statement_of
found_of tokens tree h = found_from tokens (too_deep most_levels tokens) (r.statement tokens) refl refl tree h

pub only_of : (tokens : List Token) (tree : Stmt) → IsStatement tokens tree → statement_of tokens ≡ found tree
unfolding statement_of
only_of tokens tree s =
    ap (λ d. answer_by d (answer_of (r.statement tokens))) s.nests ∙ ap answer_of (spelled_read s.depth tokens tree s.spelled s.nests)

pub one_statement_of : OneStatement
one_statement_of tokens one other s t =
    let same : found one ≡ found other = sym (only_of tokens one s) ∙ only_of tokens other t in
    cc

-- ---- what the parser's answer tells

pub tells_found : (tokens : List Token) (result : Result Stmt ParseFault) → Tells (statement_of tokens) result → IfOk result (λ tree. IsStatement tokens tree)
tells_found tokens (Ok tree) h = found_of tokens tree h
tells_found tokens (Err e) h = tt

pub tells_only : (tokens : List Token) (result : Result Stmt ParseFault) → Tells (statement_of tokens) result
    → (tree : Stmt) → IsStatement tokens tree → Finds result tree
tells_only tokens (Ok one) h tree s = let same : found one ≡ found tree = sym h ∙ only_of tokens tree s in cc
tells_only tokens (Err (fault.Nesting at)) h tree s = let same : nesting at ≡ found tree = sym h ∙ only_of tokens tree s in absurd (cc)
tells_only tokens (Err fault.Syntax) h tree s = let same : syntax ≡ found tree = sym h ∙ only_of tokens tree s in absurd (cc)
tells_only tokens (Err fault.NoMemory) h tree s = tt

-- an answer that isn't nesting
no_nesting : (o : Outcome Stmt) (at : ℕ) → answer_of o ≡ nesting at → ⊥
no_nesting None at h = absurd (cc)
no_nesting (Some p) at h = by_rest p.0 p.1 h
  where
    by_rest : (tree : Stmt) (rest : List Token) → answer_at tree rest ≡ nesting at → ⊥
    by_rest tree [] h = absurd (cc)
    by_rest tree (token ∷ rest) h = absurd (cc)

nesting_from : (deep : Option ℕ) (o : Outcome Stmt) (result : Result Stmt ParseFault) → Tells (answer_by deep (answer_of o)) result → TellsNesting deep result
nesting_from None o (Ok tree) h = refl
nesting_from None o (Err (fault.Nesting at)) h = absurd (no_nesting o at h)
nesting_from None o (Err fault.Syntax) h = refl
nesting_from None o (Err fault.NoMemory) h = tt
nesting_from (Some place) o (Ok tree) h = absurd (cc)
nesting_from (Some place) o (Err (fault.Nesting at)) h = let same : place ≡ at = cc in ap Some same
nesting_from (Some place) o (Err fault.Syntax) h = absurd (cc)
nesting_from (Some place) o (Err fault.NoMemory) h = tt

pub tells_nesting : (tokens : List Token) (result : Result Stmt ParseFault) → Tells (statement_of tokens) result → TellsNesting (too_deep most_levels tokens) result
unfolding statement_of
tells_nesting tokens result h = nesting_from (too_deep most_levels tokens) (r.statement tokens) result h
