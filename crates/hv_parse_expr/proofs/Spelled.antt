-- What is read is spelled, production by production.
use Rattle.std.proofs.Common.{◌≡◌, ℕ, zero, suc, Bool, true, false, Some, None, List, [], cond, ap, sym, ◌∙◌, rules, inl, inr, ◌⊎◌, refl}
use Rattle.hv_ast.specs.declared.types.TypeName.TheVariants as type
use Rattle.hv_ast.specs.declared.expr.Expr.{Expr}
use Rattle.hv_ast.specs.declared.expr.Expr.TheVariants as e
use Rattle.hv_ast.specs.declared.expr.Literal.TheVariants as l
use Rattle.hv_ast.specs.declared.expr.Unary.TheVariants as unary
use Rattle.hv_ast.specs.declared.expr.Binary.{Binary}
use Rattle.hv_ast.specs.declared.expr.Binary.TheVariants as binary
use denote.Enum.Bare.{same_true}
use Rattle.hv_ast.specs.declared.token.Token.{Token}
use Rattle.hv_ast.specs.Tokens.{Text}
use Rattle.hv_grammar.specs.contracts.kind.Kind.{the_type}
use Rattle.hv_grammar.specs.declared.kind.Kind.{Kind}
use Rattle.hv_grammar.specs.declared.kind.Kind.TheVariants as k
use Rattle.hv_grammar.specs.Kinds.{kind_of, same_kind}
use Rattle.hv_grammar.specs.Rules.{Rule}
use Rattle.hv_grammar.specs.Rules as rule
use Rattle.hv_grammar.specs.Readers.{Reader, kind_at, and_then, sees, after, next, expect, held, by_option}
use Rattle.hv_grammar.specs.Readers as reader
use Rattle.hv_grammar.specs.Grammar as g
use Rattle.hv_grammar.specs.Reading as r
use Rattle.hv_grammar.specs.Choices as c
use Rattle.hv_parse_expr.proofs.Joins.{Sound, SoundAt, Suffix, then_some, further, sound_give, sound_bind, sound_one_of, sound_word, sound_pass, sound_eat, sound_flag, sound_held, sound_choice, sound_separated, sound_joined, sound_chain, sound_peek, at_left, at_right, at_any, at_refuse}

-- ---- names and types

pub scalar_sound : Sound g.scalar r.scalar
unfolding r.scalar
scalar_sound = sound_one_of c.scalar_at refl

pub array_sound : Sound g.array r.array
unfolding g.array r.array
array_sound = sound_bind (sound_word k.Less tt) (λ _. sound_bind scalar_sound (λ of. sound_bind (sound_word k.Greater tt) (λ _. sound_give (type.Array of))))

pub type_sound : Sound g.type_name r.type_name
unfolding g.type_name r.type_name
type_sound = sound_eat k.Array tt array_sound (sound_bind scalar_sound (λ of. sound_give (type.Scalar of)))

-- a word of some kind
word_taken : (p : Kind → Bool) (tokens : List Token) (text : Text) (mid : List Token) → p (kind_at tokens) ≡ true → r.word tokens ≡ Some (text, mid)
    → rule.held (g.word_by p) text tokens mid × Suffix tokens mid
unfolding r.word kind_at
word_taken p tokens text mid is h =
    let t = (sound_held (λ token. c.word_in token.what)).spelled tokens text mid h in
    let kind : p (kind_of t.0.0.what) ≡ true = sym (ap (λ z. p (kind_at z)) t.0.2) ∙ is in
    ((t.0.0, ap (λ b. cond b (c.word_in t.0.0.what) None) kind ∙ t.0.1, t.0.2), t.1)

pub name_sound : Sound g.name r.name
unfolding r.name
name_sound = record { spelled = λ tokens text rest h. by_kind tokens (c.is_name (kind_at tokens)) refl text rest h }
  where
    by_kind : (tokens : List Token) (b : Bool) → c.is_name (kind_at tokens) ≡ b → (text : Text) (rest : List Token)
        → cond {A = Reader Text} b r.word (λ _. None) tokens ≡ Some (text, rest) → g.name text tokens rest × Suffix tokens rest
    by_kind tokens true e text rest h = word_taken c.is_name tokens text rest e h
    by_kind tokens false e text rest h = absurd (cc)

pub qualified_sound : (first : Text) → Sound (g.qualified first) (r.column first)
unfolding g.qualified r.column
qualified_sound first = sound_eat k.Dot tt (sound_bind name_sound (λ second. sound_give (e.Column (Some first) second))) (sound_give (e.Column None first))

literal_sound : Sound g.literal r.literal
unfolding r.literal
literal_sound = sound_bind (sound_held (λ token. c.literal_in token.what)) (λ value. sound_give (e.Literal value))

date_sound : Sound g.date r.date
unfolding r.date r.string
date_sound = sound_bind (sound_held (λ token. c.string_in token.what)) (λ text. sound_give (e.Literal (l.Date text)))

same_kinds : (left right : Kind) → same_kind left right ≡ true → left ≡ right
unfolding same_kind
same_kinds left right e = same_true the_type (search rules) _ _ e

-- a name is the word that its kind says
name_is : (kind : Kind) (text : Text) (tokens mid : List Token) → g.name text tokens mid → kind_at tokens ≡ kind → rule.word kind tt tokens mid
unfolding kind_at
name_is kind text tokens mid named at = (named.0, sym (ap kind_at named.2) ∙ at, named.2)

module _ (p : Rule Expr) (q : Reader Expr) (E : Sound p q) where
  pub list_sound : Sound (g.list p) (r.list q)
  unfolding g.list r.list
  list_sound = sound_separated k.Comma tt E

  pub arguments_sound : Sound (g.arguments p) (r.arguments q)
  unfolding g.arguments r.arguments
  arguments_sound = sound_eat k.Close tt (sound_give []) (sound_bind list_sound (λ found. sound_bind (sound_word k.Close tt) (λ _. sound_give found)))

  pub passed_sound : (function : Text) → Sound (g.passed_to p function) (r.call q function)
  unfolding g.passed_to r.call
  passed_sound function = sound_bind (sound_flag k.Distinct tt) (λ distinct. sound_bind arguments_sound (λ found. sound_give (e.Call function distinct found)))

  pub when_sound : Sound (g.when p) (r.when q)
  unfolding g.when r.when
  when_sound = sound_bind E (λ condition. sound_bind (sound_word k.Then tt) (λ _. sound_bind E (λ value.
      sound_give (record { condition = condition; value = value }))))

  pub operand_sound : Sound (g.operand p) (r.operand q)
  unfolding g.operand r.operand
  operand_sound = sound_eat k.When tt (sound_give None) (sound_bind E (λ value. sound_bind (sound_word k.When tt) (λ _. sound_give (Some value))))

  pub otherwise_sound : Sound (g.otherwise p) (r.otherwise q)
  unfolding g.otherwise r.otherwise
  otherwise_sound = sound_eat k.Else tt (sound_bind E (λ value. sound_bind (sound_word k.End tt) (λ _. sound_give (Some value)))) (sound_bind (sound_word k.End tt) (λ _. sound_give None))

  pub case_sound : Sound (g.case p) (r.case q)
  unfolding g.case r.case r.whens
  case_sound = sound_bind operand_sound (λ value. sound_bind (sound_separated k.When tt when_sound) (λ chosen. sound_bind otherwise_sound (λ other. sound_give (e.Case value chosen other))))

  pub cast_sound : Sound (g.cast p) (r.cast q)
  unfolding g.cast r.cast
  cast_sound = sound_bind (sound_word k.Open tt) (λ _. sound_bind E (λ value. sound_bind (sound_word k.As tt) (λ _. sound_bind type_sound (λ to.
      sound_bind (sound_word k.Close tt) (λ _. sound_give (e.Cast value to))))))

  bracketed_sound : Sound (λ b from to. (inner : Expr) × (between : List Token) × p inner from between × ((u : Unit {0}) × (behind : List Token) × rule.word k.Close u between behind × rule.give inner b behind to)) (r.bracketed q)
  unfolding r.bracketed
  bracketed_sound = sound_bind E (λ inner. sound_bind (sound_word k.Close tt) (λ _. sound_give inner))

  abbrev Named : Rule Expr
  Named b from to = g.column b from to ⊎ (g.count_rows b from to ⊎ g.call p b from to)

  -- behind the name, a bracket or not
  behind_name : (tokens mid : List Token) (first : Text) → g.name first tokens mid → Suffix tokens mid
      → (counted : Bool) → (counted ≡ true → kind_at tokens ≡ k.Count) → (b : Expr) (rest : List Token)
      → cond (sees k.Open mid) (cond counted (r.count q first) (r.call q first)) (r.column first) (after k.Open mid) ≡ Some (b, rest)
      → Named b tokens rest × Suffix tokens rest
  unfolding r.count g.column g.count_rows g.call
  behind_name tokens mid first named suffix true is b rest h =
      let t = (sound_eat k.Open tt (sound_eat k.Star tt (sound_bind (sound_word k.Close tt) (λ _. sound_give e.CountRows)) (passed_sound first)) (qualified_sound first)).spelled mid b rest h in (
        elim t.0 as (λ _. Named b tokens rest) [
          | inl it ↦ elim it.3 as (λ _. Named b tokens rest) [
            | inl star ↦ inr (inl (tt, mid, name_is k.Count first tokens mid named (is refl), (tt, it.1, it.2, star)))
            | inr passed ↦ inr (inr (first, mid, inl named, (tt, it.1, it.2, passed)))
          ]
          | inr column ↦ inl (first, mid, named, column)
        ],
        further suffix t.1,
      )
  behind_name tokens mid first named suffix false is b rest h =
      let t = (sound_eat k.Open tt (passed_sound first) (qualified_sound first)).spelled mid b rest h in (
        elim t.0 as (λ _. Named b tokens rest) [
          | inl it ↦ inr (inr (first, mid, inl named, it))
          | inr column ↦ inl (first, mid, named, column)
        ],
        further suffix t.1,
      )

  -- a name, and a bracket behind it or not
  named_sound : (kind : Kind) → c.is_name kind ≡ true → SoundAt kind Named (r.named q)
  unfolding r.named
  named_sound kind is = record {
    spelled_at = λ tokens b rest at h.
        let t = then_some (r.word tokens) (λ first. λ mid. cond (sees k.Open mid) (cond (same_kind (kind_at tokens) k.Count) (r.count q first) (r.call q first)) (r.column first) (after k.Open mid)) b rest h in
        let name = word_taken c.is_name tokens t.0.0 t.0.1 (ap c.is_name at ∙ is) t.1 in
        behind_name tokens t.0.1 t.0.0 name.0 name.1 (same_kind (kind_at tokens) k.Count) (same_kinds (kind_at tokens) k.Count) b rest t.2;
  }

  -- IF or ARRAY as a function
  keyword_sound : (kind : Kind) → c.is_function_word kind ≡ true → SoundAt kind (g.call p) (r.keyword_call q)
  unfolding r.keyword_call g.call
  keyword_sound kind is = record {
    spelled_at = λ tokens b rest at h.
        let t = then_some (r.word tokens) (λ first. λ mid. and_then (expect k.Open mid) (λ _. r.call q first)) b rest h in
        let name = word_taken c.is_function_word tokens t.0.0 t.0.1 (ap c.is_function_word at ∙ is) t.1 in
        let others = (sound_bind (sound_word k.Open tt) (λ _. passed_sound t.0.0)).spelled t.0.1 b rest t.2 in
        ((t.0.0, t.0.1, inr name.0, others.0), further name.1 others.1);
  }

  at_named : (kind : Kind) → SoundAt kind Named (r.named q) → SoundAt kind (g.primary p) (r.named q)
  unfolding g.primary
  at_named kind N = record {
    spelled_at = λ tokens b rest at h.
        let t = N.spelled_at tokens b rest at h in (
          elim t.0 as (λ _. g.primary p b tokens rest) [
            | inl column ↦ inr (inr (inr (inr (inr (inl column)))))
            | inr call ↦ elim call as (λ _. g.primary p b tokens rest) [
              | inl rows ↦ inr (inr (inr (inr (inr (inr (inr (inr (inr (inl rows)))))))))
              | inr other ↦ inr (inr (inr (inr (inr (inr (inr (inr (inr (inr other)))))))))
            ]
          ],
          t.1,
        );
  }

  -- a name, or nothing that begins an expression
  at_word : (kind : Kind) (b : Bool) → c.is_name kind ≡ b → SoundAt kind (g.primary p) (cond b (r.named q) reader.refuse)
  at_word kind true is = at_named kind (named_sound kind is)
  at_word kind false is = at_refuse kind

  -- the alternatives of a primary, by the kind of the first token
  primary_at : (kind : Kind) → SoundAt kind (g.primary p) (r.primary_by q kind)
  unfolding g.primary
  primary_at k.Number = at_left (at_any k.Number literal_sound)
  primary_at k.Text = at_left (at_any k.Text literal_sound)
  primary_at k.Date = at_right (at_left (sound_pass k.Date tt date_sound))
  primary_at k.True = at_right (at_right (at_left (sound_pass k.True tt (sound_give (e.Literal (l.Bool true))))))
  primary_at k.False = at_right (at_right (at_right (at_left (sound_pass k.False tt (sound_give (e.Literal (l.Bool false)))))))
  primary_at k.Null = at_right (at_right (at_right (at_right (at_left (sound_pass k.Null tt (sound_give (e.Literal l.Null)))))))
  primary_at k.Open = at_right (at_right (at_right (at_right (at_right (at_right (at_left (sound_pass k.Open tt bracketed_sound)))))))
  primary_at k.Case = at_right (at_right (at_right (at_right (at_right (at_right (at_right (at_left (sound_pass k.Case tt case_sound))))))))
  primary_at k.Cast = at_right (at_right (at_right (at_right (at_right (at_right (at_right (at_right (at_left (sound_pass k.Cast tt cast_sound)))))))))
  primary_at k.If = at_right (at_right (at_right (at_right (at_right (at_right (at_right (at_right (at_right (at_right (keyword_sound k.If refl))))))))))
  primary_at k.Array = at_right (at_right (at_right (at_right (at_right (at_right (at_right (at_right (at_right (at_right (keyword_sound k.Array refl))))))))))
  primary_at kind = at_word kind (c.is_name kind) refl

  pub primary_sound : Sound (g.primary p) (r.primary q)
  unfolding r.primary
  primary_sound = sound_peek primary_at

  -- ---- operators, from the tightest to the loosest

  pub indexed_sound : Sound (g.indexed p) (r.indexed q)
  unfolding g.indexed r.indexed r.element
  indexed_sound = sound_bind primary_sound (λ first. sound_eat k.OpenIndex tt
      (sound_bind E (λ index. sound_bind (sound_word k.CloseIndex tt) (λ _. sound_give (e.Binary binary.Element first index))))
      (sound_give first))

  pub signed_sound : Sound (g.signed p) (r.signed q)
  unfolding g.signed r.signed
  signed_sound = sound_choice c.sign refl (λ operator. sound_bind indexed_sound (λ operand. sound_give (e.Unary operator operand))) indexed_sound

  pub suffixed_sound : Sound (g.suffixed p) (r.suffixed q)
  unfolding g.suffixed r.suffixed r.null_test
  suffixed_sound = sound_bind signed_sound (λ value. sound_eat k.Is tt
      (sound_bind (sound_flag k.Not tt) (λ negated. sound_bind (sound_word k.Null tt) (λ _. sound_give (e.Unary (cond negated unary.IsNotNull unary.IsNull) value))))
      (sound_give value))

  pub term_sound : Sound (g.term p) (r.term q)
  unfolding g.term r.term r.factors
  term_sound = sound_chain c.multiplicative refl suffixed_sound

  pub sum_sound : Sound (g.sum p) (r.sum q)
  unfolding g.sum r.sum r.summands
  sum_sound = sound_chain c.additive refl term_sound

  matched_at : (value : Expr) (negated : Bool) (kind : Kind) → SoundAt kind (g.matched p value negated) (r.match_by q value negated kind)
  unfolding g.matched r.like r.between r.among
  matched_at value negated k.Like = at_left (sound_pass k.Like tt (sound_bind sum_sound (λ pattern. sound_give (e.Binary (cond negated binary.NotLike binary.Like) value pattern))))
  matched_at value negated k.Between = at_right (at_left (sound_pass k.Between tt (sound_bind sum_sound (λ low. sound_bind (sound_word k.And tt) (λ _. sound_bind sum_sound (λ high. sound_give (e.Between value negated low high)))))))
  matched_at value negated k.In = at_right (at_right (sound_pass k.In tt (sound_bind (sound_word k.Open tt) (λ _. sound_bind list_sound (λ among. sound_bind (sound_word k.Close tt) (λ _. sound_give (e.In value negated among)))))))
  matched_at value negated kind = at_refuse kind

  pub matched_sound : (value : Expr) (negated : Bool) → Sound (g.matched p value negated) (r.matched q value negated)
  unfolding r.matched
  matched_sound value negated = sound_peek (matched_at value negated)

  -- what may stand behind a sum
  abbrev Behind : Expr → Rule Expr
  Behind value b from to =
      ((operator : Binary) × (between : List Token) × rule.one_of c.comparison operator from between × ((other : Expr) × (behind : List Token) × g.sum p other between behind × rule.give (e.Binary operator value other) b behind to))
      ⊎ (((u : Unit {0}) × (between : List Token) × rule.word k.Not u from between × g.matched p value true b between to)
      ⊎ (g.matched p value false b from to ⊎ rule.give value b from to))

  -- a comparison, or nothing
  compared_at : (value : Expr) (kind : Kind) → SoundAt kind (Behind value) (by_option (c.comparison kind) (reader.give value) (λ operator. λ tokens. r.compared q value operator (next tokens)))
  unfolding r.compared
  compared_at value kind = record {
    spelled_at = λ tokens b rest at h.
        let t = (sound_choice {f = λ operator. λ b from to. (other : Expr) × (behind : List Token) × g.sum p other from behind × rule.give (e.Binary operator value other) b behind to} {p = rule.give value} c.comparison refl
        (λ operator. sound_bind sum_sound (λ other. sound_give (e.Binary operator value other))) (sound_give value)).spelled tokens b rest
        (ap (λ (z : Kind). by_option (c.comparison z) (reader.give value) (λ operator. λ rest. r.compared q value operator (next rest)) tokens) at ∙ h) in (
          elim t.0 as (λ _. Behind value b tokens rest) [
            | inl it ↦ inl it
            | inr none ↦ inr (inr (inr none))
          ],
          t.1,
        );
  }

  tested_at : (value : Expr) (kind : Kind) → SoundAt kind (Behind value) (r.tested_by q value kind)
  tested_at value k.Not = at_right (at_left (sound_pass k.Not tt (matched_sound value true)))
  tested_at value k.Like = at_right (at_right (at_left (at_any k.Like (matched_sound value false))))
  tested_at value k.Between = at_right (at_right (at_left (at_any k.Between (matched_sound value false))))
  tested_at value k.In = at_right (at_right (at_left (at_any k.In (matched_sound value false))))
  tested_at value kind = compared_at value kind

  pub predicate_sound : Sound (g.predicate p) (r.predicate q)
  unfolding g.predicate r.predicate r.tested
  predicate_sound = sound_bind sum_sound (λ value. sound_peek (tested_at value))

  pub negation_sound : Sound (g.negation p) (r.negation q)
  unfolding g.negation r.negation
  negation_sound = sound_eat k.Not tt (sound_bind predicate_sound (λ value. sound_give (e.Unary unary.Not value))) predicate_sound

  pub conjunction_sound : Sound (g.conjunction p) (r.conjunction q)
  unfolding g.conjunction r.conjunction r.conjuncts
  conjunction_sound = sound_joined e.And k.And tt negation_sound

  pub disjunction_sound : Sound (g.disjunction p) (r.disjunction q)
  unfolding g.disjunction r.disjunction r.disjuncts
  disjunction_sound = sound_joined e.Or k.Or tt conjunction_sound

-- whatever an expression nests
pub expr_sound : (depth : ℕ) → Sound (g.expr depth) (r.expr depth)
unfolding g.expr r.expr
expr_sound zero = record { spelled = λ tokens b rest h. absurd (cc) }
expr_sound (suc depth) = disjunction_sound (g.expr depth) (r.expr depth) (expr_sound depth)
