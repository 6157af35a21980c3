-- Rows of things with marks or operators between them are read whole.
use Rattle.std.proofs.Common.{◌≡◌, ℕ, zero, suc, ◌≤◌, cond, Option, Some, None, List, [], ◌∷◌, ◌++◌, length, sym, ap, subst, arith, ◌∙◌, append_assoc, length-append}
use Rattle.std.proofs.lemmas.List.{append-nil}
use Rattle.hv_ast.specs.declared.token.Token.{Token}
use Rattle.hv_ast.specs.declared.expr.Arithmetic.{Arithmetic}
use Rattle.hv_ast.specs.declared.expr.Operation.{Operation}
use Rattle.hv_ast.specs.declared.expr.Expr.{Expr}
use Rattle.hv_ast.specs.declared.expr.Expr.TheVariants as e
use Rattle.hv_grammar.specs.declared.kind.Kind.{Kind}
use Rattle.hv_grammar.specs.Rules as rule
use Rattle.hv_grammar.specs.Rules.{Rule, word, many, one_of}
use Rattle.hv_grammar.specs.Readers.{Outcome, Reader, and_then, kind_at, next, sees, after, by_option, more, behind, more_operations}
use Rattle.hv_grammar.specs.Readers as reader
use Rattle.hv_grammar.specs.Grammar.{joined, chain, operation}
use Rattle.hv_parse_expr.proofs.Turns.{turn, more_suc, operations_suc}
use Rattle.hv_parse_expr.proofs.Joins.{Sound, Suffix}
use Rattle.hv_parse_expr.proofs.Begins.{word_kind, word_next, is_seen, is_not_seen}
use Rattle.hv_parse_expr.proofs.Wholes.{Whole, chosen_kind, chosen_next}

abbrev pub Rows : {A : Type 0} → Kind → Rule A → List A → List Token → List Token → Type 0
Rows mark p = many (λ b from to. (u : Unit {0}) × (between : List Token) × word mark u from between × p b between to)

shorter : (from to : List Token) → Suffix from to → length to ≤ length from
shorter from to s = omega (arith, ap length s.1, length-append s.0 to)

word_length : (kind : Kind) (u : Unit {0}) (from to : List Token) → word kind u from to → length from ≡ suc (length to)
word_length kind u from to s = ap length s.2

module _ {A : Type 0} {S T : List Token → Type 0} {p : Rule A} {r : Reader A} (mark : Kind) (P : Whole T p r) (Q : Sound p r)
    (at_mark : (t : List Token) → kind_at t ≡ mark → T t) (at_end : (t : List Token) → S t → T t) (ends : (t : List Token) → S t → kind_at t ≡ mark → ⊥) where
  rows_stop : (tail : List A) (from to : List Token) → Rows mark p tail from to → S to → T from
  rows_stop [] from to s stop = at_end from (subst S (sym s) stop)
  rows_stop (one ∷ tail) from to s stop = at_mark from (word_kind s.1.2)

  rows_length : (tail : List A) (from to : List Token) → Rows mark p tail from to → S to → length tail ≤ length from
  rows_length [] from to s stop = omega arith
  rows_length (one ∷ tail) from to s stop =
      let rest = rows_length tail s.0 to s.2 stop in
      let first = word_length mark s.1.0 from s.1.1 s.1.2 in
      let item = shorter s.1.1 s.0 (Q.spelled s.1.1 one s.0 (P.read one s.1.1 s.0 s.1.3 (rows_stop tail s.0 to s.2 stop))).1 in
      omega arith

  no_mark : (turns : ℕ) (items : List A) (from to : List Token) → from ≡ to → S to → more mark r turns items from ≡ Some (items ++ [], to)
  unfolding more after
  no_mark zero items from to e stop = ap (λ (t : List Token). reader.give items t) e ∙ ap (λ (all : List A). reader.give all to) (sym (append-nil items))
  no_mark (suc turns) items from to e stop =
      more_suc mark r turns items from
      ∙ ap (λ b. turn mark r turns items b (cond b (next from) from)) (is_not_seen mark from (ends from (subst S (sym e) stop)))
      ∙ ap (λ (t : List Token). reader.give items t) e ∙ ap (λ (all : List A). reader.give all to) (sym (append-nil items))

  pub more_whole : (tail items : List A) (from to : List Token) → Rows mark p tail from to → S to → (turns : ℕ) → length tail ≤ turns
      → more mark r turns items from ≡ Some (items ++ tail, to)
  unfolding more after
  more_whole [] items from to s stop turns le = no_mark turns items from to s stop
  more_whole (one ∷ tail) items from to s stop zero le = absurd (omega arith)
  more_whole (one ∷ tail) items from to s stop (suc turns) le =
      more_suc mark r turns items from
      ∙ ap (λ b. turn mark r turns items b (cond b (next from) from)) (is_seen mark from (word_kind s.1.2))
      ∙ ap (λ t. and_then (r t) (λ one. more mark r turns (items ++ one ∷ []))) (word_next s.1.2)
      ∙ ap (λ o. and_then o (λ one. more mark r turns (items ++ one ∷ []))) (P.read one s.1.1 s.0 s.1.3 (rows_stop tail s.0 to s.2 stop))
      ∙ more_whole tail (items ++ one ∷ []) s.0 to s.2 stop turns (omega arith)
      ∙ ap (λ (all : List A). reader.give all to) (append_assoc items (one ∷ []) tail)

  pub behind_whole : (tail items : List A) (from to : List Token) → Rows mark p tail from to → S to → behind mark r items from ≡ Some (items ++ tail, to)
  behind_whole tail items from to s stop = more_whole tail items from to s stop (length from) (rows_length tail from to s stop)

  pub whole_separated : Whole S (rule.separated mark p) (reader.separated mark r)
  unfolding reader.separated
  whole_separated = record {
    read = λ all from to s stop.
        let rest = s.3 in
        let stop_rest : S rest.1 = subst S (sym rest.3.1) stop in
        ap (λ o. and_then o (λ first. behind mark r (first ∷ []))) (P.read s.0 from s.1 s.2 (rows_stop rest.0 s.1 rest.1 rest.2 stop_rest))
        ∙ behind_whole rest.0 (s.0 ∷ []) s.1 rest.1 rest.2 stop_rest
        ∙ ap (λ (l : List A). reader.give l rest.1) (sym rest.3.0) ∙ ap (λ (t : List Token). reader.give all t) rest.3.1;
  }

module _ {S T : List Token → Type 0} {p : Rule Expr} {r : Reader Expr} (node : List Expr → Expr) (mark : Kind) (P : Whole T p r) (Q : Sound p r)
    (at_mark : (t : List Token) → kind_at t ≡ mark → T t) (at_end : (t : List Token) → S t → T t) (ends : (t : List Token) → S t → kind_at t ≡ mark → ⊥) where
  abbrev Behind : Expr → Reader Expr
  Behind first = λ rest. cond (sees mark rest) (λ behind_it. and_then (behind mark r (first ∷ []) behind_it) (λ all. reader.give (node all))) (reader.give first) rest

  joined_rest : (first : Expr) (tail : List Expr) (from to : List Token) → Rows mark p tail from to → S to → Behind first from ≡ Some (joined node (first ∷ tail), to)
  joined_rest first [] from to s stop =
      ap (λ b. cond {A = Reader Expr} b (λ behind_it. and_then (behind mark r (first ∷ []) behind_it) (λ all. reader.give (node all))) (reader.give first) from)
      (is_not_seen mark from (ends from (subst S (sym s) stop)))
      ∙ ap (λ (t : List Token). reader.give first t) s
  joined_rest first (one ∷ tail) from to s stop =
      ap (λ b. cond {A = Reader Expr} b (λ behind_it. and_then (behind mark r (first ∷ []) behind_it) (λ all. reader.give (node all))) (reader.give first) from)
      (is_seen mark from (word_kind s.1.2))
      ∙ ap (λ o. and_then o (λ all. reader.give (node all))) (behind_whole {S = S} mark P Q at_mark at_end ends (one ∷ tail) (first ∷ []) from to s stop)

  pub whole_joined : Whole S (λ tree from to. (all : List Expr) × (between : List Token) × rule.separated mark p all from between × rule.give (joined node all) tree between to)
      (λ tokens. and_then (r tokens) Behind)
  whole_joined = record {
    read = λ tree from to s stop.
        let rows = s.2 in
        let rest = rows.3 in
        let last : rest.1 ≡ to = rest.3.1 ∙ s.3.1 in
        let stop_rest : S rest.1 = subst S (sym last) stop in
        ap (λ o. and_then o Behind) (P.read rows.0 from rows.1 rows.2 (rows_stop {S = S} mark P Q at_mark at_end ends rest.0 rows.1 rest.1 rest.2 stop_rest))
        ∙ joined_rest rows.0 rest.0 rows.1 rest.1 rest.2 stop_rest
        ∙ ap (λ (l : List Expr). reader.give (joined node l) rest.1) (sym rest.3.0)
        ∙ ap (λ (z : Expr). reader.give z rest.1) (sym s.3.0) ∙ ap (λ (t : List Token). reader.give tree t) last;
  }

-- ---- operations of one level

abbrev pub made : Arithmetic → Expr → Operation Expr
made operator operand = record { operator = operator; operand = operand }

module _ {S T : List Token → Type 0} {p : Rule Expr} {r : Reader Expr} (level : Kind → Option Arithmetic) (P : Whole T p r) (Q : Sound p r)
    (at_mark : (t : List Token) (x : Arithmetic) → level (kind_at t) ≡ Some x → T t) (at_end : (t : List Token) → S t → T t) (ends : (t : List Token) → S t → level (kind_at t) ≡ None) where
  operations_stop : (tail : List (Operation Expr)) (from to : List Token) → many (operation level p) tail from to → S to → T from
  operations_stop [] from to s stop = at_end from (subst S (sym s) stop)
  operations_stop (one ∷ tail) from to s stop = at_mark from s.1.0 (chosen_kind level s.1.0 from s.1.1 s.1.2)

  operations_length : (tail : List (Operation Expr)) (from to : List Token) → many (operation level p) tail from to → S to → length tail ≤ length from
  operations_length [] from to s stop = omega arith
  operations_length (one ∷ tail) from to s stop =
      let rest = operations_length tail s.0 to s.2 stop in
      let it = s.1 in
      let operand = it.3 in
      let first : length from ≡ suc (length it.1) = ap length it.2.2 in
      let last : operand.1 ≡ s.0 = operand.3.1 in
      let item = shorter it.1 operand.1 (Q.spelled it.1 operand.0 operand.1 (P.read operand.0 it.1 operand.1 operand.2 (subst T (sym last) (operations_stop tail s.0 to s.2 stop)))).1 in
      let same : length operand.1 ≡ length s.0 = ap length last in
      omega arith

  no_operation : (turns : ℕ) (found : List (Operation Expr)) (from to : List Token) → from ≡ to → S to → more_operations level r turns found from ≡ Some (found ++ [], to)
  unfolding more_operations
  no_operation zero found from to e stop = ap (λ (t : List Token). reader.give found t) e ∙ ap (λ (all : List (Operation Expr)). reader.give all to) (sym (append-nil found))
  no_operation (suc turns) found from to e stop =
      operations_suc level r turns found from None (ends from (subst S (sym e) stop))
      ∙ ap (λ (t : List Token). reader.give found t) e ∙ ap (λ (all : List (Operation Expr)). reader.give all to) (sym (append-nil found))

  operations_whole : (tail found : List (Operation Expr)) (from to : List Token) → many (operation level p) tail from to → S to → (turns : ℕ) → length tail ≤ turns
      → more_operations level r turns found from ≡ Some (found ++ tail, to)
  operations_whole [] found from to s stop turns le = no_operation turns found from to s stop
  operations_whole (one ∷ tail) found from to s stop zero le = absurd (omega arith)
  operations_whole (one ∷ tail) found from to s stop (suc turns) le =
      let it = s.1 in
      let operand = it.3 in
      let last : operand.1 ≡ s.0 = operand.3.1 in
      let whole : one ≡ made it.0 operand.0 = operand.3.0 in
      operations_suc level r turns found from (Some it.0) (chosen_kind level it.0 from it.1 it.2)
      ∙ ap (λ t. and_then (r t) (λ one. more_operations level r turns (found ++ made it.0 one ∷ []))) (chosen_next level it.0 from it.1 it.2)
      ∙ ap (λ o. and_then o (λ one. more_operations level r turns (found ++ made it.0 one ∷ [])))
      (P.read operand.0 it.1 operand.1 operand.2 (subst T (sym last) (operations_stop tail s.0 to s.2 stop)))
      ∙ ap (λ o. more_operations level r turns (found ++ o ∷ []) operand.1) (sym whole)
      ∙ ap (λ t. more_operations level r turns (found ++ one ∷ []) t) last
      ∙ operations_whole tail (found ++ one ∷ []) s.0 to s.2 stop turns (omega arith)
      ∙ ap (λ (all : List (Operation Expr)). reader.give all to) (append_assoc found (one ∷ []) tail)

  abbrev Chained : Expr → Reader Expr
  Chained first = λ rest. by_option (level (kind_at rest)) (reader.give first)
      (λ _. λ behind_it. and_then (more_operations level r (length behind_it) [] behind_it) (λ all. reader.give (e.Chain first all))) rest

  chain_rest : (first : Expr) (tail : List (Operation Expr)) (from to : List Token) → many (operation level p) tail from to → S to → Chained first from ≡ Some (chain first tail, to)
  chain_rest first [] from to s stop =
      ap (λ o. by_option o (reader.give first) (λ _. λ behind_it. and_then (more_operations level r (length behind_it) [] behind_it) (λ all. reader.give (e.Chain first all))) from)
      (ends from (subst S (sym s) stop))
      ∙ ap (λ (t : List Token). reader.give first t) s
  chain_rest first (one ∷ tail) from to s stop =
      ap (λ o. by_option o (reader.give first) (λ _. λ behind_it. and_then (more_operations level r (length behind_it) [] behind_it) (λ all. reader.give (e.Chain first all))) from)
      (chosen_kind level s.1.0 from s.1.1 s.1.2)
      ∙ ap (λ o. and_then o (λ all. reader.give (e.Chain first all))) (operations_whole (one ∷ tail) [] from to s stop (length from) (operations_length (one ∷ tail) from to s stop))

  pub whole_chain : Whole S (λ tree from to. (first : Expr) × (between : List Token) × p first from between
      × ((all : List (Operation Expr)) × (behind_all : List Token) × many (operation level p) all between behind_all × rule.give (chain first all) tree behind_all to))
      (λ tokens. and_then (r tokens) Chained)
  whole_chain = record {
    read = λ tree from to s stop.
        let rest = s.3 in
        let stop_rest : S rest.1 = subst S (sym rest.3.1) stop in
        ap (λ o. and_then o Chained) (P.read s.0 from s.1 s.2 (operations_stop rest.0 s.1 rest.1 rest.2 stop_rest))
        ∙ chain_rest s.0 rest.0 s.1 rest.1 rest.2 stop_rest
        ∙ ap (λ (z : Expr). reader.give z rest.1) (sym rest.3.0) ∙ ap (λ (t : List Token). reader.give tree t) rest.3.1;
  }
