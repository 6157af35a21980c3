-- What joins a rule of the grammar and its reader, for each way in which rules are put together.
use Rattle.std.proofs.Common.{◌≡◌, ◌⊎◌, inl, inr, ℕ, zero, suc, Bool, true, false, cond, Option, Some, None, List, [], ◌∷◌, ◌++◌, length, refl, sym, ap, subst, rules, ◌∙◌, append_assoc}
use Rattle.std.proofs.lemmas.List.{append-nil}
use denote.Enum.Bare.{same_true}
use Rattle.hv_ast.specs.declared.token.Token.{Token}
use Rattle.hv_grammar.specs.contracts.kind.Kind.{the_type}
use Rattle.hv_grammar.specs.declared.kind.Kind.{Kind}
use Rattle.hv_grammar.specs.declared.kind.Kind.TheVariants as k
use Rattle.hv_grammar.specs.Kinds.{kind_of, same_kind}
use Rattle.hv_grammar.specs.Rules as rule
use Rattle.hv_grammar.specs.Rules.{Rule, word, many, flag, one_of}
use Rattle.hv_grammar.specs.Readers.{Outcome, Reader, and_then, kind_at, next, pass, sees, after, eat, expect, by_option, more, behind, more_operations}
use Rattle.hv_ast.specs.declared.expr.Arithmetic.{Arithmetic}
use Rattle.hv_ast.specs.declared.expr.Operation.{Operation}
use Rattle.hv_ast.specs.declared.expr.Expr.{Expr}
use Rattle.hv_ast.specs.declared.expr.Expr.TheVariants as e
use Rattle.hv_grammar.specs.Grammar.{joined, chain, operation}
use Rattle.hv_parse_expr.proofs.Turns.{turn, more_suc, operations_suc}
use Rattle.hv_grammar.specs.Readers as reader

-- the second place is behind the first
abbrev pub Suffix : List Token → List Token → Type 0
Suffix from to = (front : List Token) × (from ≡ front ++ to)

-- ---- what is read is spelled, and lies behind

pub record Sound {A : Type 0} (p : Rule A) (r : Reader A) : Type 0 where
  pub spelled : (tokens : List Token) (a : A) (rest : List Token) → r tokens ≡ Some (a, rest) → p a tokens rest × Suffix tokens rest

pub then_some : {A B : Type 0} (o : Outcome A) (g : A → Reader B) (b : B) (rest : List Token) → and_then o g ≡ Some (b, rest)
    → (q : A × List Token) × (o ≡ Some q) × (g q.0 q.1 ≡ Some (b, rest))
then_some (Some q) g b rest h = (q, refl, h)
then_some None g b rest h = cc

pub some_is : {X : Type 0} (x y : X) → Some x ≡ Some y → x ≡ y
some_is x y h = cc

pub sound_give : {A : Type 0} (a : A) → Sound (rule.give a) (reader.give a)
sound_give {A = A} a = record {
  spelled = λ tokens b rest h.
      let e = some_is (a, tokens) (b, rest) h in
      let ends : tokens ≡ rest = ap (λ (q : A × List Token). q.1) e in
      ((ap (λ (q : A × List Token). q.0) (sym e), ends), ([], ends));
}

pub sound_bind : {A B : Type 0} {p : Rule A} {r : Reader A} {f : A → Rule B} {g : A → Reader B}
    → Sound p r → ((a : A) → Sound (f a) (g a))
    → Sound (λ b from to. (a : A) × (between : List Token) × p a from between × f a b between to) (λ tokens. and_then (r tokens) g)
sound_bind {r = r} {g = g} P Q = record {
  spelled = λ tokens b rest h.
      let t = then_some (r tokens) g b rest h in
      let one = P.spelled tokens t.0.0 t.0.1 t.1 in
      let two = (Q t.0.0).spelled t.0.1 b rest t.2 in
      ((t.0.0, t.0.1, one.0, two.0), (one.1.0 ++ two.1.0, one.1.1 ∙ ap (λ z. one.1.0 ++ z) two.1.1 ∙ sym (append_assoc one.1.0 two.1.0 rest)));
}

-- by what an outcome is
pub record SoundAt {A : Type 0} (kind : Kind) (p : Rule A) (r : Reader A) : Type 0 where
  pub spelled_at : (tokens : List Token) (a : A) (rest : List Token) → kind_at tokens ≡ kind → r tokens ≡ Some (a, rest) → p a tokens rest × Suffix tokens rest

-- a kind that a token has
abbrev pub IsKind : Kind → Type 0
IsKind k.Nothing = ⊥
IsKind _ = Unit {0}

-- the token that is seen
pub first_is : (tokens : List Token) (kind : Kind) → IsKind kind → kind_at tokens ≡ kind
    → (token : Token) × (kind_of token.what ≡ kind) × (tokens ≡ token ∷ next tokens)
unfolding kind_at next
first_is [] kind is e = absurd (subst IsKind (sym e) is)
first_is (token ∷ rest) kind is e = (token, e, refl)

pub seen : (tokens : List Token) (kind : Kind) → sees kind tokens ≡ true → kind_at tokens ≡ kind
unfolding sees same_kind
seen tokens kind e = same_true the_type (search rules) _ _ e

pub sound_pass : {A : Type 0} {p : Rule A} {r : Reader A} (kind : Kind) → IsKind kind → Sound p r
    → SoundAt kind (λ b from to. (a : Unit {0}) × (between : List Token) × word kind a from between × p b between to) (λ tokens. r (next tokens))
sound_pass kind is P = record {
  spelled_at = λ tokens b rest at h.
      let t = first_is tokens kind is at in
      let two = P.spelled (next tokens) b rest h in
      ((tt, next tokens, (t.0, t.1, t.2), two.0), (t.0 ∷ two.1.0, t.2 ∙ ap (λ z. t.0 ∷ z) two.1.1));
}

pub sound_word : (kind : Kind) → IsKind kind → Sound (word kind) (expect kind)
unfolding expect
sound_word kind is = record { spelled = λ tokens b rest h. by_sees tokens (sees kind tokens) refl rest b h }
  where
    by_sees : (tokens : List Token) (b : Bool) → sees kind tokens ≡ b → (rest : List Token) (u : Unit {0})
        → cond {A = Outcome (Unit {0})} b (Some (tt, next tokens)) None ≡ Some (u, rest) → word kind u tokens rest × Suffix tokens rest
    by_sees tokens true e rest u h =
        let t = first_is tokens kind is (seen tokens kind e) in
        let ends : next tokens ≡ rest = ap (λ (q : Unit {0} × List Token). q.1) (some_is (tt, next tokens) (u, rest) h) in
        let whole : tokens ≡ t.0 ∷ rest = t.2 ∙ ap (λ z. t.0 ∷ z) ends in
        ((t.0, t.1, whole), (t.0 ∷ [], whole))
    by_sees tokens false e rest u h = cc

-- a suffix of a suffix
pub further : {from mid to : List Token} → Suffix from mid → Suffix mid to → Suffix from to
further {from = from} {mid = mid} {to = to} one two = (one.0 ++ two.0, one.1 ∙ ap (λ z. one.0 ++ z) two.1 ∙ sym (append_assoc one.0 two.0 to))

-- an optional word before a rule, where the reader takes the word if it comes
pub sound_eat : {A : Type 0} {p q : Rule A} {r s : Reader A} (kind : Kind) → IsKind kind → Sound p r → Sound q s
    → Sound (λ b from to. ((a : Unit {0}) × (between : List Token) × word kind a from between × p b between to) ⊎ q b from to)
    (λ tokens. cond (sees kind tokens) r s (after kind tokens))
unfolding after
sound_eat {A = A} {p = p} {q = q} {r = r} {s = s} kind is P Q = record { spelled = λ tokens b rest h. by_sees tokens (sees kind tokens) refl b rest h }
  where
    by_sees : (tokens : List Token) (found : Bool) → sees kind tokens ≡ found → (b : A) (rest : List Token)
        → cond found r s (cond found (next tokens) tokens) ≡ Some (b, rest)
        → (((a : Unit {0}) × (between : List Token) × word kind a tokens between × p b between rest) ⊎ q b tokens rest) × Suffix tokens rest
    by_sees tokens true e b rest h =
        let two = (sound_pass kind is P).spelled_at tokens b rest (seen tokens kind e) h in
        (inl two.0, two.1)
    by_sees tokens false e b rest h =
        let two = Q.spelled tokens b rest h in
        (inr two.0, two.1)

abbrev eaten : Bool × List Token → Outcome Bool
eaten q = Some q

pub sound_flag : (kind : Kind) → IsKind kind → Sound (flag kind) (eat kind)
unfolding after
sound_flag kind is = record { spelled = λ tokens b rest h. by_sees tokens (sees kind tokens) refl b rest h }
  where
    by_sees : (tokens : List Token) (found : Bool) → sees kind tokens ≡ found → (b : Bool) (rest : List Token)
        → eaten (found, cond found (next tokens) tokens) ≡ Some (b, rest) → flag kind b tokens rest × Suffix tokens rest
    by_sees tokens true e b rest h =
        let two = (sound_pass kind is (sound_give true)).spelled_at tokens b rest (seen tokens kind e) h in
        (inl two.0, two.1)
    by_sees tokens false e b rest h =
        let two = (sound_give false).spelled tokens b rest h in
        (inr two.0, two.1)

pub sound_held : {A : Type 0} (value : Token → Option A) → Sound (rule.held value) (reader.held value)
unfolding reader.held
sound_held {A = A} value = record { spelled = by_tokens }
  where
    by_value : (token : Token) (found : Option A) → value token ≡ found → (behind : List Token) (a : A) (rest : List Token)
        → reader.held_by found behind ≡ Some (a, rest) → rule.held value a (token ∷ behind) rest × Suffix (token ∷ behind) rest
    by_value token (Some found) e behind a rest h =
        let same = some_is (found, behind) (a, rest) h in
        let whole : token ∷ behind ≡ token ∷ rest = ap (λ (q : A × List Token). token ∷ q.1) same in
        ((token, e ∙ ap (λ (q : A × List Token). Some q.0) same, whole), (token ∷ [], whole))
    by_value token None e behind a rest h = cc

    by_tokens : (tokens : List Token) (a : A) (rest : List Token) → reader.held value tokens ≡ Some (a, rest) → rule.held value a tokens rest × Suffix tokens rest
    by_tokens [] a rest h = cc
    by_tokens (token ∷ behind) a rest h = by_value token (value token) refl behind a rest h

abbrev Chosen : {A X : Type 0} → (Kind → Option X) → (X → Rule A) → Rule A → A → List Token → List Token → Type 0
Chosen {X = X} value f p b from to = (((x : X) × (between : List Token) × one_of value x from between × f x b between to) ⊎ p b from to) × Suffix from to

-- a token of one of several kinds before a rule, where the reader goes by the kind
pub sound_choice : {A X : Type 0} {f : X → Rule A} {p : Rule A} {g : X → Reader A} {r : Reader A} (value : Kind → Option X)
    → value k.Nothing ≡ None → ((x : X) → Sound (f x) (g x)) → Sound p r
    → Sound (λ b from to. ((x : X) × (between : List Token) × one_of value x from between × f x b between to) ⊎ p b from to)
    (λ tokens. by_option (value (kind_at tokens)) r (λ x. λ rest. g x (next rest)) tokens)
unfolding kind_at next
sound_choice {A = A} {X = X} {f = f} {p = p} {g = g} {r = r} value none F P = record { spelled = by_tokens }
  where
    by_value : (token : Token) (found : Option X) → value (kind_of token.what) ≡ found → (behind : List Token) (b : A) (rest : List Token)
        → by_option found r (λ x. λ rest. g x (next rest)) (token ∷ behind) ≡ Some (b, rest) → Chosen value f p b (token ∷ behind) rest
    by_value token (Some x) e behind b rest h =
        let two = (F x).spelled behind b rest h in
        (inl (x, behind, (token, e, refl), two.0), (token ∷ two.1.0, ap (λ z. token ∷ z) two.1.1))
    by_value token None e behind b rest h =
        let two = P.spelled (token ∷ behind) b rest h in
        (inr two.0, two.1)

    by_nothing : (found : Option X) → found ≡ None → (b : A) (rest : List Token)
        → by_option found r (λ x. λ rest. g x (next rest)) [] ≡ Some (b, rest) → Chosen value f p b [] rest
    by_nothing (Some x) e b rest h = absurd (cc)
    by_nothing None e b rest h =
        let two = P.spelled [] b rest h in
        (inr two.0, two.1)

    by_tokens : (tokens : List Token) (b : A) (rest : List Token) → by_option (value (kind_at tokens)) r (λ x. λ rest. g x (next rest)) tokens ≡ Some (b, rest) → Chosen value f p b tokens rest
    by_tokens [] b rest h = by_nothing (value k.Nothing) none b rest h
    by_tokens (token ∷ behind) b rest h = by_value token (value (kind_of token.what)) refl behind b rest h

-- ---- rows of things

-- the items that came behind the first ones
abbrev Tail : {A : Type 0} → Kind → Rule A → List A → List A → List Token → List Token → Type 0
Tail {A = A} mark p items all tokens rest = (tail : List A) × (all ≡ items ++ tail)
    × many (λ b from to. (a : Unit {0}) × (between : List Token) × word mark a from between × p b between to) tail tokens rest × Suffix tokens rest

no_tail : {A : Type 0} {p : Rule A} (mark : Kind) (items : List A) (tokens : List Token) (all : List A) (rest : List Token)
    → reader.give items tokens ≡ Some (all, rest) → Tail mark p items all tokens rest
no_tail {A = A} mark items tokens all rest h =
    let same = some_is (items, tokens) (all, rest) h in
    let ends : tokens ≡ rest = ap (λ (q : List A × List Token). q.1) same in
    ([], ap (λ (q : List A × List Token). q.0) (sym same) ∙ sym (append-nil items), ends, ([], ends))

-- one item behind its separator, and what comes behind it
one_tail : {A : Type 0} {p : Rule A} {r : Reader A} (mark : Kind) → IsKind mark → Sound p r
    → (turns : ℕ) (items : List A) (tokens : List Token) (all : List A) (rest : List Token)
    → ((one : A) (mid : List Token) → more mark r turns (items ++ one ∷ []) mid ≡ Some (all, rest) → Tail mark p (items ++ one ∷ []) all mid rest)
    → kind_at tokens ≡ mark → and_then (r (next tokens)) (λ one. more mark r turns (items ++ one ∷ [])) ≡ Some (all, rest)
    → (one : A) × (tail : List A) × (all ≡ items ++ one ∷ tail)
    × many (λ b from to. (a : Unit {0}) × (between : List Token) × word mark a from between × p b between to) (one ∷ tail) tokens rest × Suffix tokens rest
one_tail {r = r} mark is P turns items tokens all rest again at g =
    let t = then_some (r (next tokens)) (λ one. more mark r turns (items ++ one ∷ [])) all rest g in
    let one = (sound_pass mark is P).spelled_at tokens t.0.0 t.0.1 at t.1 in
    let others = again t.0.0 t.0.1 t.2 in (
      t.0.0,
      others.0,
      others.1 ∙ append_assoc items (t.0.0 ∷ []) others.0,
      (t.0.1, one.0, others.2),
      (one.1.0 ++ others.3.0, one.1.1 ∙ ap (λ z. one.1.0 ++ z) others.3.1 ∙ sym (append_assoc one.1.0 others.3.0 rest)),
    )

pub more_spelled : {A : Type 0} {p : Rule A} {r : Reader A} (mark : Kind) → IsKind mark → Sound p r
    → (turns : ℕ) (items : List A) (tokens : List Token) (all : List A) (rest : List Token)
    → more mark r turns items tokens ≡ Some (all, rest) → Tail mark p items all tokens rest
unfolding more after
more_spelled mark is P zero items tokens all rest h = no_tail mark items tokens all rest h
more_spelled {A = A} {p = p} {r = r} mark is P (suc turns) items tokens all rest h =
    by_sees (λ one mid g. more_spelled mark is P turns (items ++ one ∷ []) mid all rest g)
    (sees mark tokens) refl (sym (more_suc mark r turns items tokens) ∙ h)
  where
    by_sees : ((one : A) (mid : List Token) → more mark r turns (items ++ one ∷ []) mid ≡ Some (all, rest) → Tail mark p (items ++ one ∷ []) all mid rest)
        → (found : Bool) → sees mark tokens ≡ found → turn mark r turns items found (cond found (next tokens) tokens) ≡ Some (all, rest)
        → Tail mark p items all tokens rest
    by_sees again true e g =
        let t = one_tail {p = p} mark is P turns items tokens all rest again (seen tokens mark e) g in
        (t.0 ∷ t.1, t.2, t.3, t.4)
    by_sees again false e g = no_tail mark items tokens all rest g

some_tail : {A : Type 0} {p : Rule A} {r : Reader A} (mark : Kind) → IsKind mark → Sound p r
    → (turns : ℕ) (items : List A) (tokens : List Token) (all : List A) (rest : List Token)
    → kind_at tokens ≡ mark → sees mark tokens ≡ true → more mark r (suc turns) items tokens ≡ Some (all, rest)
    → (one : A) × (tail : List A) × (all ≡ items ++ one ∷ tail)
    × many (λ b from to. (a : Unit {0}) × (between : List Token) × word mark a from between × p b between to) (one ∷ tail) tokens rest × Suffix tokens rest
unfolding after
some_tail {p = p} {r = r} mark is P turns items tokens all rest at e h =
    one_tail {p = p} mark is P turns items tokens all rest (λ one mid g. more_spelled {p = p} mark is P turns (items ++ one ∷ []) mid all rest g) at
    (ap (λ found. turn mark r turns items found (cond found (next tokens) tokens)) (sym e) ∙ sym (more_suc mark r turns items tokens) ∙ h)

pub sound_separated : {A : Type 0} {p : Rule A} {r : Reader A} (mark : Kind) → IsKind mark → Sound p r
    → Sound (rule.separated mark p) (reader.separated mark r)
unfolding reader.separated
sound_separated {p = p} {r = r} mark is P = record {
  spelled = λ tokens all rest h.
      let t = then_some (r tokens) (λ first. behind mark r (first ∷ [])) all rest h in
      let one = P.spelled tokens t.0.0 t.0.1 t.1 in
      let others = more_spelled {p = p} mark is P (length t.0.1) (t.0.0 ∷ []) t.0.1 all rest t.2 in (
        (t.0.0, t.0.1, one.0, (others.0, rest, others.2, (others.1, refl))),
        (one.1.0 ++ others.3.0, one.1.1 ∙ ap (λ z. one.1.0 ++ z) others.3.1 ∙ sym (append_assoc one.1.0 others.3.0 rest)),
      );
}

-- a chain of operands, which is its one operand where there is but one
pub sound_joined : {p : Rule Expr} {r : Reader Expr} (node : List Expr → Expr) (mark : Kind) → IsKind mark → Sound p r
    → Sound (λ tree from to. (all : List Expr) × (between : List Token) × rule.separated mark p all from between × rule.give (joined node all) tree between to)
    (λ tokens. and_then (r tokens) (λ first. λ rest. cond (sees mark rest) (λ behind_it. and_then (behind mark r (first ∷ []) behind_it) (λ all. reader.give (node all))) (reader.give first) rest))
sound_joined {p = p} {r = r} node mark is P = record {
  spelled = λ tokens tree rest h.
      let t = then_some (r tokens) (λ first. λ rest. cond (sees mark rest) (λ behind_it. and_then (behind mark r (first ∷ []) behind_it) (λ all. reader.give (node all))) (reader.give first) rest) tree rest h in
      let one = P.spelled tokens t.0.0 t.0.1 t.1 in
      by_sees tokens t.0.0 t.0.1 one.0 one.1 (sees mark t.0.1) refl tree rest t.2;
}
  where
    by_sees : (tokens : List Token) (first : Expr) (mid : List Token) → p first tokens mid → Suffix tokens mid
        → (found : Bool) → sees mark mid ≡ found → (tree : Expr) (rest : List Token)
        → cond found (λ behind_it. and_then (behind mark r (first ∷ []) behind_it) (λ all. reader.give (node all))) (reader.give first) mid ≡ Some (tree, rest)
        → ((all : List Expr) × (between : List Token) × rule.separated mark p all tokens between × rule.give (joined node all) tree between rest) × Suffix tokens rest
    by_sees tokens first mid spelled suffix true e tree rest h =
        let t = then_some (behind mark r (first ∷ []) mid) (λ all. reader.give (node all)) tree rest h in
        let same = some_is (node t.0.0, t.0.1) (tree, rest) t.2 in
        let ends : t.0.1 ≡ rest = ap (λ (q : Expr × List Token). q.1) same in
        let it = first_is mid mark is (seen mid mark e) in
        let many_left : length mid ≡ suc (length (next mid)) = ap length it.2 in
        let two = some_tail {p = p} mark is P (length (next mid)) (first ∷ []) mid t.0.0 t.0.1 (seen mid mark e) e (ap (λ n. more mark r n (first ∷ []) mid) (sym many_left) ∙ t.1) in (
          (
            first ∷ two.0 ∷ two.1,
            t.0.1,
            (first, mid, spelled, (two.0 ∷ two.1, t.0.1, two.3, (refl, refl))),
            (ap (λ (q : Expr × List Token). q.0) (sym same) ∙ ap node two.2, ends),
          ),
          (suffix.0 ++ two.4.0, suffix.1 ∙ ap (λ z. suffix.0 ++ z) (two.4.1 ∙ ap (λ z. two.4.0 ++ z) ends) ∙ sym (append_assoc suffix.0 two.4.0 rest)),
        )
    by_sees tokens first mid spelled suffix false e tree rest h =
        let same = some_is (first, mid) (tree, rest) h in
        let ends : mid ≡ rest = ap (λ (q : Expr × List Token). q.1) same in (
          (first ∷ [], mid, (first, mid, spelled, ([], mid, refl, (refl, refl))), (ap (λ (q : Expr × List Token). q.0) (sym same), ends)),
          (suffix.0, suffix.1 ∙ ap (λ z. suffix.0 ++ z) ends),
        )

-- ---- operations of one level

chosen_is : {X : Type 0} (value : Kind → Option X) → value k.Nothing ≡ None → (tokens : List Token) (x : X) → value (kind_at tokens) ≡ Some x
    → (token : Token) × (value (kind_of token.what) ≡ Some x) × (tokens ≡ token ∷ next tokens)
unfolding kind_at next
chosen_is value none [] x e = absurd (cc)
chosen_is value none (token ∷ rest) x e = (token, e, refl)

abbrev Operations : (Kind → Option Arithmetic) → Rule Expr → List (Operation Expr) → List (Operation Expr) → List Token → List Token → Type 0
Operations level p found all tokens rest = (tail : List (Operation Expr)) × (all ≡ found ++ tail)
    × many (operation level p) tail tokens rest × Suffix tokens rest

no_operations : {p : Rule Expr} (level : Kind → Option Arithmetic) (found : List (Operation Expr)) (tokens : List Token) (all : List (Operation Expr)) (rest : List Token)
    → reader.give found tokens ≡ Some (all, rest) → Operations level p found all tokens rest
no_operations level found tokens all rest h =
    let same = some_is (found, tokens) (all, rest) h in
    let ends : tokens ≡ rest = ap (λ (q : List (Operation Expr) × List Token). q.1) same in
    ([], ap (λ (q : List (Operation Expr) × List Token). q.0) (sym same) ∙ sym (append-nil found), ends, ([], ends))

abbrev pub made : Arithmetic → Expr → Operation Expr
made operator operand = record { operator = operator; operand = operand }

one_operation : {p : Rule Expr} {r : Reader Expr} (level : Kind → Option Arithmetic) → level k.Nothing ≡ None → Sound p r
    → (turns : ℕ) (found : List (Operation Expr)) (tokens : List Token) (all : List (Operation Expr)) (rest : List Token)
    → ((one : Operation Expr) (mid : List Token) → more_operations level r turns (found ++ one ∷ []) mid ≡ Some (all, rest) → Operations level p (found ++ one ∷ []) all mid rest)
    → (operator : Arithmetic) → level (kind_at tokens) ≡ Some operator
    → and_then (r (next tokens)) (λ one. more_operations level r turns (found ++ made operator one ∷ [])) ≡ Some (all, rest)
    → (one : Operation Expr) × (tail : List (Operation Expr)) × (all ≡ found ++ one ∷ tail)
    × many (operation level p) (one ∷ tail) tokens rest × Suffix tokens rest
one_operation {r = r} level none P turns found tokens all rest again operator at g =
    let it = chosen_is level none tokens operator at in
    let t = then_some (r (next tokens)) (λ one. more_operations level r turns (found ++ made operator one ∷ [])) all rest g in
    let one = P.spelled (next tokens) t.0.0 t.0.1 t.1 in
    let others = again (made operator t.0.0) t.0.1 t.2 in (
      made operator t.0.0,
      others.0,
      others.1 ∙ append_assoc found (made operator t.0.0 ∷ []) others.0,
      (t.0.1, (operator, next tokens, (it.0, it.1, it.2), (t.0.0, t.0.1, one.0, (refl, refl))), others.2),
      (it.0 ∷ one.1.0 ++ others.3.0, it.2 ∙ ap (λ z. it.0 ∷ z) (one.1.1 ∙ ap (λ z. one.1.0 ++ z) others.3.1 ∙ sym (append_assoc one.1.0 others.3.0 rest))),
    )

operations_spelled : {p : Rule Expr} {r : Reader Expr} (level : Kind → Option Arithmetic) → level k.Nothing ≡ None → Sound p r
    → (turns : ℕ) (found : List (Operation Expr)) (tokens : List Token) (all : List (Operation Expr)) (rest : List Token)
    → more_operations level r turns found tokens ≡ Some (all, rest) → Operations level p found all tokens rest
unfolding more_operations
operations_spelled level none P zero found tokens all rest h = no_operations level found tokens all rest h
operations_spelled {p = p} {r = r} level none P (suc turns) found tokens all rest h =
    by_level (λ one mid g. operations_spelled level none P turns (found ++ one ∷ []) mid all rest g)
    (level (kind_at tokens)) refl h
  where
    by_level : ((one : Operation Expr) (mid : List Token) → more_operations level r turns (found ++ one ∷ []) mid ≡ Some (all, rest) → Operations level p (found ++ one ∷ []) all mid rest)
        → (seen : Option Arithmetic) → level (kind_at tokens) ≡ seen
        → more_operations level r (suc turns) found tokens ≡ Some (all, rest) → Operations level p found all tokens rest
    by_level again (Some operator) e g =
        let t = one_operation {p = p} level none P turns found tokens all rest again operator e (sym (operations_suc level r turns found tokens (Some operator) e) ∙ g) in
        (t.0 ∷ t.1, t.2, t.3, t.4)
    by_level again None e g = no_operations level found tokens all rest (sym (operations_suc level r turns found tokens None e) ∙ g)

some_operations : {p : Rule Expr} {r : Reader Expr} (level : Kind → Option Arithmetic) → level k.Nothing ≡ None → Sound p r
    → (turns : ℕ) (found : List (Operation Expr)) (tokens : List Token) (all : List (Operation Expr)) (rest : List Token)
    → (operator : Arithmetic) → level (kind_at tokens) ≡ Some operator
    → more_operations level r (suc turns) found tokens ≡ Some (all, rest)
    → (one : Operation Expr) × (tail : List (Operation Expr)) × (all ≡ found ++ one ∷ tail)
    × many (operation level p) (one ∷ tail) tokens rest × Suffix tokens rest
some_operations {p = p} {r = r} level none P turns found tokens all rest operator at h =
    one_operation {p = p} level none P turns found tokens all rest (λ one mid g. operations_spelled {p = p} level none P turns (found ++ one ∷ []) mid all rest g)
    operator at (sym (operations_suc level r turns found tokens (Some operator) at) ∙ h)

-- a chain of operations of one level, which is its operand where there are none
pub sound_chain : {p : Rule Expr} {r : Reader Expr} (level : Kind → Option Arithmetic) → level k.Nothing ≡ None → Sound p r
    → Sound (λ tree from to. (first : Expr) × (between : List Token) × p first from between
    × ((all : List (Operation Expr)) × (behind_all : List Token) × many (operation level p) all between behind_all × rule.give (chain first all) tree behind_all to))
    (λ tokens. and_then (r tokens) (λ first. λ rest. by_option (level (kind_at rest)) (reader.give first)
    (λ _. λ behind_it. and_then (more_operations level r (length behind_it) [] behind_it) (λ all. reader.give (e.Chain first all))) rest))
sound_chain {p = p} {r = r} level none P = record {
  spelled = λ tokens tree rest h.
      let t = then_some (r tokens) (λ first. λ rest. by_option (level (kind_at rest)) (reader.give first)
      (λ _. λ behind_it. and_then (more_operations level r (length behind_it) [] behind_it) (λ all. reader.give (e.Chain first all))) rest) tree rest h in
      let one = P.spelled tokens t.0.0 t.0.1 t.1 in
      by_level tokens t.0.0 t.0.1 one.0 one.1 (level (kind_at t.0.1)) refl tree rest t.2;
}
  where
    by_level : (tokens : List Token) (first : Expr) (mid : List Token) → p first tokens mid → Suffix tokens mid
        → (seen : Option Arithmetic) → level (kind_at mid) ≡ seen → (tree : Expr) (rest : List Token)
        → by_option seen (reader.give first) (λ _. λ behind_it. and_then (more_operations level r (length behind_it) [] behind_it) (λ all. reader.give (e.Chain first all))) mid ≡ Some (tree, rest)
        → ((first : Expr) × (between : List Token) × p first tokens between
        × ((all : List (Operation Expr)) × (behind_all : List Token) × many (operation level p) all between behind_all × rule.give (chain first all) tree behind_all rest)) × Suffix tokens rest
    by_level tokens first mid spelled suffix (Some operator) at tree rest h =
        let t = then_some (more_operations level r (length mid) [] mid) (λ all. reader.give (e.Chain first all)) tree rest h in
        let same = some_is (e.Chain first t.0.0, t.0.1) (tree, rest) t.2 in
        let ends : t.0.1 ≡ rest = ap (λ (q : Expr × List Token). q.1) same in
        let it = chosen_is level none mid operator at in
        let many_left : length mid ≡ suc (length (next mid)) = ap length it.2 in
        let two = some_operations {p = p} level none P (length (next mid)) [] mid t.0.0 t.0.1 operator at (ap (λ n. more_operations level r n [] mid) (sym many_left) ∙ t.1) in (
          (first, mid, spelled, (two.0 ∷ two.1, t.0.1, two.3, (ap (λ (q : Expr × List Token). q.0) (sym same) ∙ ap (e.Chain first) two.2, ends))),
          (suffix.0 ++ two.4.0, suffix.1 ∙ ap (λ z. suffix.0 ++ z) (two.4.1 ∙ ap (λ z. two.4.0 ++ z) ends) ∙ sym (append_assoc suffix.0 two.4.0 rest)),
        )
    by_level tokens first mid spelled suffix None at tree rest h =
        let same = some_is (first, mid) (tree, rest) h in
        let ends : mid ≡ rest = ap (λ (q : Expr × List Token). q.1) same in (
          (first, mid, spelled, ([], mid, refl, (ap (λ (q : Expr × List Token). q.0) (sym same), ends))),
          (suffix.0, suffix.1 ∙ ap (λ z. suffix.0 ++ z) ends),
        )

-- ---- by the kind of the next token

pub at_left : {A : Type 0} {p q : Rule A} {r : Reader A} {kind : Kind} → SoundAt kind p r → SoundAt kind (λ a from to. p a from to ⊎ q a from to) r
at_left P = record { spelled_at = λ tokens b rest at h. let t = P.spelled_at tokens b rest at h in (inl t.0, t.1) }

pub at_right : {A : Type 0} {p q : Rule A} {r : Reader A} {kind : Kind} → SoundAt kind q r → SoundAt kind (λ a from to. p a from to ⊎ q a from to) r
at_right Q = record { spelled_at = λ tokens b rest at h. let t = Q.spelled_at tokens b rest at h in (inr t.0, t.1) }

pub at_any : {A : Type 0} {p : Rule A} {r : Reader A} (kind : Kind) → Sound p r → SoundAt kind p r
at_any kind P = record { spelled_at = λ tokens b rest at h. P.spelled tokens b rest h }

pub at_refuse : {A : Type 0} {p : Rule A} (kind : Kind) → SoundAt kind p reader.refuse
at_refuse kind = record { spelled_at = λ tokens b rest at h. absurd (cc) }

pub sound_peek : {A : Type 0} {p : Rule A} {r : Kind → Reader A} → ((kind : Kind) → SoundAt kind p (r kind)) → Sound p (λ tokens. r (kind_at tokens) tokens)
sound_peek F = record { spelled = λ tokens b rest h. (F (kind_at tokens)).spelled_at tokens b rest refl h }

pub sound_one_of : {X : Type 0} (value : Kind → Option X) → value k.Nothing ≡ None
    → Sound (one_of value) (λ tokens. by_option (value (kind_at tokens)) reader.refuse (λ x. λ rest. Some (x, next rest)) tokens)
sound_one_of {X = X} value none = record { spelled = λ tokens x rest h. by_value tokens (value (kind_at tokens)) refl x rest h }
  where
    by_value : (tokens : List Token) (found : Option X) → value (kind_at tokens) ≡ found → (x : X) (rest : List Token)
        → by_option found reader.refuse (λ x. λ rest. Some (x, next rest)) tokens ≡ Some (x, rest) → one_of value x tokens rest × Suffix tokens rest
    by_value tokens (Some y) e x rest h =
        let it = chosen_is value none tokens y e in
        let same = some_is (y, next tokens) (x, rest) h in
        let whole : tokens ≡ it.0 ∷ rest = it.2 ∙ ap (λ (q : X × List Token). it.0 ∷ q.1) same in
        ((it.0, it.1 ∙ ap (λ (q : X × List Token). Some q.0) same, whole), (it.0 ∷ [], whole))
    by_value tokens None e x rest h = absurd (cc)
