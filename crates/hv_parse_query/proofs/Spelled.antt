-- What is read is spelled, production by production.
use Rattle.std.proofs.Common.{◌≡◌, ◌⊎◌, inl, inr, ℕ, zero, suc, Bool, true, false, Some, None, List, [], cond, ap, sym, ◌∙◌, refl, rules}
use denote.Enum.Bare.{same_true}
use Rattle.hv_ast.specs.declared.token.Token.{Token}
use Rattle.hv_ast.specs.declared.expr.Expr.{Expr}
use Rattle.hv_ast.specs.declared.query.Item.TheVariants as i
use Rattle.hv_ast.specs.declared.query.JoinKind.{JoinKind}
use Rattle.hv_ast.specs.declared.query.JoinKind.TheVariants as j
use Rattle.hv_ast.specs.declared.query.Explode.TheVariants as x
use Rattle.hv_ast.specs.declared.query.Source.{Source}
use Rattle.hv_ast.specs.declared.query.Source.TheVariants as s
use Rattle.hv_ast.specs.declared.query.Query.{Query}
use Rattle.hv_ast.specs.Tokens.{Text}
use Rattle.hv_grammar.specs.contracts.kind.Kind.{the_type}
use Rattle.hv_grammar.specs.declared.kind.Kind.{Kind}
use Rattle.hv_grammar.specs.declared.kind.Kind.TheVariants as k
use Rattle.hv_grammar.specs.Kinds.{same_kind}
use Rattle.hv_grammar.specs.Nesting.{most_levels}
use Rattle.hv_grammar.specs.Rules.{Rule}
use Rattle.hv_grammar.specs.Rules as rule
use Rattle.hv_grammar.specs.Readers.{Reader, kind_at, sees, after}
use Rattle.hv_grammar.specs.Readers as reader
use Rattle.hv_grammar.specs.Choices as c
use Rattle.hv_grammar.specs.Grammar.{name}
use Rattle.hv_grammar.specs.Reading as reading
use Rattle.hv_grammar.specs.QueryGrammar as g
use Rattle.hv_grammar.specs.QueryReading as r
use Rattle.hv_parse_expr.proofs.Joins.{Sound, SoundAt, Suffix, then_some, further, sound_give, sound_bind, sound_word, sound_pass, sound_eat, sound_flag, sound_held, sound_separated, sound_peek, at_left, at_right, at_refuse}
use Rattle.hv_parse_expr.proofs.Spelled.{expr_sound, name_sound, list_sound}
use Rattle.hv_parse_query.specs.Exact.{ReadIsSpelled}
use Rattle.hv_parse_query.proofs.Sounds.{given, sound_as, sound_refuse, sound_if, sound_perhaps, sound_either, sound_bracketed, sound_rows, sound_many}

-- ---- tables, aliases and numbers

pub number_sound : Sound g.number r.number
unfolding r.number
number_sound = sound_held (λ token. c.number_in token.what)

pub alias_sound : Sound g.alias r.alias
unfolding g.alias r.alias
alias_sound = sound_bind (sound_flag k.As tt) (λ _. name_sound)

pub optional_alias_sound : Sound g.optional_alias r.optional_alias
unfolding g.optional_alias r.optional_alias
optional_alias_sound = sound_if (λ tokens. c.begins_alias (kind_at tokens)) (sound_bind alias_sound (λ text. sound_give (Some text))) (sound_give None)

same_kinds : (one other : Kind) → same_kind one other ≡ true → one ≡ other
unfolding same_kind
same_kinds one other e = same_true the_type (search rules) _ _ e

-- a name is the word that its kind says
name_is : (kind : Kind) (text : Text) (tokens mid : List Token) → name text tokens mid → kind_at tokens ≡ kind → rule.word kind tt tokens mid
unfolding kind_at
name_is kind text tokens mid named at = (named.0, sym (ap kind_at named.2) ∙ at, named.2)

-- behind the first name, which is DEFAULT or isn't
behind_name : (tokens mid : List Token) (first : Text) → name first tokens mid → Suffix tokens mid
    → (is : Bool) → (is ≡ true → kind_at tokens ≡ k.Default) → (text : Text) (rest : List Token)
    → cond (sees k.Dot mid) (cond is reading.name reader.refuse) (reader.give first) (after k.Dot mid) ≡ Some (text, rest)
    → g.table_name text tokens rest × Suffix tokens rest
unfolding g.table_name
behind_name tokens mid first named suffix true is text rest h =
    let t = (sound_eat k.Dot tt name_sound (sound_give first)).spelled mid text rest h in (
      elim t.0 as (λ _. g.table_name text tokens rest) [
        | inl qualified ↦ inl (tt, mid, name_is k.Default first tokens mid named (is refl), qualified)
        | inr alone ↦ inr (given name first text tokens mid rest named alone)
      ],
      further suffix t.1,
    )
behind_name tokens mid first named suffix false is text rest h =
    let t = (sound_eat k.Dot tt (sound_refuse {p = λ text from to. ⊥}) (sound_give first)).spelled mid text rest h in (
      elim t.0 as (λ _. g.table_name text tokens rest) [
        | inl qualified ↦ absurd qualified.3
        | inr alone ↦ inr (given name first text tokens mid rest named alone)
      ],
      further suffix t.1,
    )

pub table_name_sound : Sound g.table_name r.table_name
unfolding r.table_name
table_name_sound = record {
  spelled = λ tokens text rest h.
      let is = same_kind (kind_at tokens) k.Default in
      let t = then_some (reading.name tokens) (λ first. λ mid. cond (sees k.Dot mid) (cond is reading.name reader.refuse) (reader.give first) (after k.Dot mid)) text rest h in
      let one = name_sound.spelled tokens t.0.0 t.0.1 t.1 in
      behind_name tokens t.0.1 t.0.0 one.0 one.1 is (same_kinds (kind_at tokens) k.Default) text rest t.2;
}

module _ (p : Rule Expr) (q : Reader Expr) (E : Sound p q) where
  pub key_sound : Sound (g.key p) (r.key q)
  unfolding g.key r.key
  key_sound = sound_bind E (λ value. sound_bind (sound_either k.Desc k.Asc tt tt) (λ descending. sound_give (record { expr = value; descending = descending })))

  pub keys_sound : Sound (g.keys p) (r.keys q)
  unfolding g.keys r.keys
  keys_sound = sound_separated k.Comma tt key_sound

  pub order_sound : Sound (g.order p) (r.order q)
  unfolding g.order r.order
  order_sound = sound_eat k.Order tt (sound_bind (sound_word k.By tt) (λ _. keys_sound)) (sound_give [])

  -- ---- items

  pub all_of_sound : Sound (g.all_of p) r.all_of
  unfolding g.all_of r.all_of
  all_of_sound = sound_bind name_sound (λ table. sound_bind (sound_word k.Dot tt) (λ _. sound_bind (sound_word k.Star tt) (λ _. sound_give (i.AllOf table))))

  pub one_sound : Sound (g.one p) (r.one q)
  unfolding g.one r.one
  one_sound = sound_bind E (λ value. sound_bind optional_alias_sound (λ alias. sound_give (i.One value alias)))

  pub item_sound : Sound (g.item p) (r.item q)
  unfolding g.item r.item r.some_item
  item_sound = sound_eat k.Star tt (sound_give i.All) (sound_if r.sees_all_of all_of_sound one_sound)

  pub items_sound : Sound (g.items p) (r.items q)
  unfolding g.items r.items
  items_sound = sound_separated k.Comma tt item_sound

  -- ---- what stands behind the items

  pub elements_sound : (outer : Bool) → Sound (g.elements p outer) (r.elements q outer)
  unfolding g.elements r.elements r.exploded
  elements_sound outer = sound_bind (sound_bracketed E) (λ array. sound_bind name_sound (λ alias. sound_bind (sound_perhaps k.As tt name_sound) (λ column.
      sound_give (record { outer = outer; array = array; alias = alias; explode = x.Elements column }))))

  pub positions_sound : (outer : Bool) → Sound (g.positions p outer) (r.positions q outer)
  unfolding g.positions r.positions r.exploded
  positions_sound outer = sound_bind (sound_bracketed E) (λ array. sound_bind name_sound (λ alias. sound_bind (sound_word k.As tt) (λ _.
      sound_bind name_sound (λ position. sound_bind (sound_word k.Comma tt) (λ _. sound_bind name_sound (λ element.
      sound_give (record { outer = outer; array = array; alias = alias; explode = x.Positions position element })))))))

  pub lateral_sound : Sound (g.lateral p) (r.lateral q)
  unfolding g.lateral r.lateral
  lateral_sound = sound_bind (sound_word k.View tt) (λ _. sound_bind (sound_flag k.Outer tt) (λ outer.
      sound_eat k.Explode tt (elements_sound outer) (sound_bind (sound_word k.PosExplode tt) (λ _. positions_sound outer))))

  pub laterals_sound : Sound (rule.rows k.Lateral (g.lateral p)) (r.laterals q)
  unfolding r.laterals
  laterals_sound = sound_rows k.Lateral tt lateral_sound

  pub group_sound : Sound (g.group p) (r.group q)
  unfolding g.group r.group
  group_sound = sound_eat k.Group tt (sound_bind (sound_word k.By tt) (λ _. list_sound p q E)) (sound_give [])

  pub where_sound : Sound (rule.perhaps k.Where p) (r.condition q k.Where)
  unfolding r.condition
  where_sound = sound_perhaps k.Where tt E

  pub having_sound : Sound (rule.perhaps k.Having p) (r.condition q k.Having)
  unfolding r.condition
  having_sound = sound_perhaps k.Having tt E

  pub on_sound : Sound (rule.perhaps k.On p) (r.condition q k.On)
  unfolding r.condition
  on_sound = sound_perhaps k.On tt E

  -- ---- sources and joins

  module _ (f : Rule (Query Source)) (h : Reader (Query Source)) (Q : Sound f h) where
    pub table_sound : Sound (g.table p f) (r.table q h)
    unfolding g.table r.table
    table_sound = sound_bind table_name_sound (λ name. sound_bind optional_alias_sound (λ alias. sound_give (s.Table name alias)))

    -- the brackets stand round the query alone
    abbrev Opened : Rule Source
    Opened tree from to = (u : Unit {0}) × (between : List Token) × rule.word k.Open u from between
        × ((inner : Query Source) × (mid : List Token) × f inner between mid
        × ((v : Unit {0}) × (behind : List Token) × rule.word k.Close v mid behind
        × ((alias : Text) × (last : List Token) × g.alias alias behind last × rule.give (s.Query inner alias) tree last to)))

    opened_is : (tree : Source) (from to : List Token) → Opened tree from to ⊎ g.table p f tree from to → g.source p f tree from to
    unfolding g.source g.subquery
    opened_is tree from to (inl it) = inl (it.3.0, it.3.3.1, (tt, it.1, it.2, (it.3.0, it.3.1, it.3.2, (tt, it.3.3.1, it.3.3.2, (refl, refl)))), it.3.3.3)
    opened_is tree from to (inr it) = inr it

    pub source_sound : Sound (g.source p f) (r.source q h)
    unfolding r.source r.subquery
    source_sound = sound_as opened_is (sound_eat k.Open tt
        (sound_bind Q (λ inner. sound_bind (sound_word k.Close tt) (λ _. sound_bind alias_sound (λ alias. sound_give (s.Query inner alias)))))
        table_sound)

    pub joined_on_sound : (kind : JoinKind) → Sound (g.joined_on p f kind) (r.joined_on q h kind)
    unfolding g.joined_on r.joined_on
    joined_on_sound kind = sound_bind source_sound (λ right. sound_bind (sound_word k.On tt) (λ _. sound_bind E (λ condition.
        sound_give (record { kind = kind; source = right; on = Some condition }))))

    pub outer_join_sound : (kind : JoinKind) → Sound (g.outer_join p f kind) (r.outer_join q h kind)
    unfolding g.outer_join r.outer_join
    outer_join_sound kind = sound_bind (sound_flag k.Outer tt) (λ _. sound_bind (sound_word k.Join tt) (λ _. joined_on_sound kind))

    pub left_join_sound : Sound (g.left_join p f) (r.left_join q h)
    unfolding g.left_join r.left_join
    left_join_sound = sound_eat k.Semi tt (sound_bind (sound_word k.Join tt) (λ _. joined_on_sound j.LeftSemi)) (outer_join_sound j.Left)

    pub inner_join_sound : Sound (g.inner_join p f) (r.inner_join q h)
    unfolding g.inner_join r.inner_join
    inner_join_sound = sound_bind source_sound (λ right. sound_bind on_sound (λ condition. sound_give (record { kind = j.Inner; source = right; on = condition })))

    pub cross_join_sound : Sound (g.cross_join p f) (r.cross_join q h)
    unfolding g.cross_join r.cross_join
    cross_join_sound = sound_bind source_sound (λ right. sound_give (record { kind = j.Cross; source = right; on = None }))

    join_at : (kind : Kind) → SoundAt kind (g.join p f) (r.join_by q h kind)
    unfolding g.join
    join_at k.Comma = at_left (sound_pass k.Comma tt cross_join_sound)
    join_at k.Cross = at_right (at_left (sound_pass k.Cross tt (sound_bind (sound_word k.Join tt) (λ _. cross_join_sound))))
    join_at k.Join = at_right (at_right (at_left (sound_pass k.Join tt inner_join_sound)))
    join_at k.Inner = at_right (at_right (at_right (at_left (sound_pass k.Inner tt (sound_bind (sound_word k.Join tt) (λ _. inner_join_sound))))))
    join_at k.Left = at_right (at_right (at_right (at_right (at_left (sound_pass k.Left tt left_join_sound)))))
    join_at k.Right = at_right (at_right (at_right (at_right (at_right (at_left (sound_pass k.Right tt (outer_join_sound j.Right)))))))
    join_at k.Full = at_right (at_right (at_right (at_right (at_right (at_right (sound_pass k.Full tt (outer_join_sound j.Full)))))))
    join_at kind = at_refuse kind

    pub join_sound : Sound (g.join p f) (r.join q h)
    unfolding r.join
    join_sound = sound_peek join_at

    pub joins_sound : Sound (rule.many (g.join p f)) (r.joins q h)
    unfolding r.joins
    joins_sound = sound_many c.begins_join join_sound

    pub from_sound : Sound (g.from p f) (r.from q h)
    unfolding g.from r.from
    from_sound = sound_bind source_sound (λ first. sound_bind joins_sound (λ joins. sound_bind laterals_sound (λ laterals.
        sound_give (record { source = first; joins = joins; laterals = laterals }))))

    -- ---- queries

    pub optional_from_sound : Sound (rule.perhaps k.From (g.from p f)) (r.optional_from q h)
    unfolding r.optional_from
    optional_from_sound = sound_perhaps k.From tt from_sound

    pub select_sound : Sound (g.select p f) (r.select q h)
    unfolding g.select r.select
    select_sound = sound_bind (sound_word k.Select tt) (λ _. sound_bind (sound_either k.Distinct k.All tt tt) (λ distinct. sound_bind items_sound (λ items.
        sound_bind optional_from_sound (λ from. sound_bind where_sound (λ filter. sound_bind group_sound (λ group. sound_bind having_sound (λ having.
        sound_give (record { distinct = distinct; items = items; from = from; filter = filter; group = group; having = having }))))))))

    pub union_sound : Sound (g.union p f) (r.union q h)
    unfolding g.union r.union
    union_sound = sound_bind (sound_either k.All k.Distinct tt tt) (λ all. sound_bind select_sound (λ select. sound_give (record { all = all; select = select })))

    pub unions_sound : Sound (rule.rows k.Union (g.union p f)) (r.unions q h)
    unfolding r.unions
    unions_sound = sound_rows k.Union tt union_sound

    pub query_over_sound : Sound (g.query_over p f) (r.query_over q h)
    unfolding g.query_over r.query_over
    query_over_sound = sound_bind select_sound (λ first. sound_bind unions_sound (λ unions. sound_bind order_sound (λ order.
        sound_bind (sound_perhaps k.Limit tt number_sound) (λ limit. sound_give (record { select = first; unions = unions; order = order; limit = limit })))))

-- whatever a query nests
pub query_sound : (p : Rule Expr) (q : Reader Expr) → Sound p q → (depth : ℕ) → Sound (g.query p depth) (r.query q depth)
unfolding g.query r.query
query_sound p q E zero = record { spelled = λ tokens tree rest h. absurd (cc) }
query_sound p q E (suc depth) = query_over_sound p q E (g.query p depth) (r.query q depth) (query_sound p q E depth)

pub read_spelled : ReadIsSpelled
read_spelled from to tree h = ((query_sound _ _ (expr_sound (suc most_levels)) (suc most_levels)).spelled from tree to h).0
