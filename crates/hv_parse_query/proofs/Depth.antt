-- How deep each production of a query nests.
use Rattle.std.proofs.Common.{◌≡◌, ℕ, zero, suc, ◌≤◌, Bool, Some, None, [], refl, sym, subst, arith}
use Rattle.hv_ast.specs.declared.token.Lexeme.{Lexeme}
use Rattle.hv_ast.specs.declared.token.Lexeme.TheVariants as lexeme
use Rattle.hv_ast.specs.declared.expr.Expr.{Expr}
use Rattle.hv_ast.specs.declared.query.Item.TheVariants as i
use Rattle.hv_ast.specs.declared.query.JoinKind.{JoinKind}
use Rattle.hv_ast.specs.declared.query.JoinKind.TheVariants as j
use Rattle.hv_ast.specs.declared.query.Explode.TheVariants as x
use Rattle.hv_ast.specs.declared.query.Source.{Source}
use Rattle.hv_ast.specs.declared.query.Source.TheVariants as s
use Rattle.hv_ast.specs.declared.query.Query.{Query}
use Rattle.hv_grammar.specs.declared.kind.Kind.TheVariants as k
use Rattle.hv_grammar.specs.Kinds.{kind_of}
use Rattle.hv_grammar.specs.Nesting.{stays, turn_of, most_levels}
use Rattle.hv_grammar.specs.Rules.{Rule}
use Rattle.hv_grammar.specs.Grammar as g
use Rattle.hv_grammar.specs.QueryGrammar as q
use Rattle.hv_grammar.specs.Choices as c
use Rattle.hv_parse_expr.proofs.Room.{Goes, goes_give, goes_bind, goes_or, goes_token, goes_word, goes_many, goes_separated, goes_flag}
use Rattle.hv_parse_expr.proofs.Depth.{name_goes}
use Rattle.hv_parse_query.proofs.Room.{goes_deeper, any_goes, goes_perhaps, goes_either, goes_rows, goes_bracketed, level_below}

-- ---- tables, aliases and numbers

number_stays : (what : Lexeme) (value : ℕ) → c.number_in what ≡ Some value → turn_of (kind_of what) ≡ stays
unfolding kind_of
number_stays (lexeme.Int number) value h = refl
number_stays (lexeme.Big number) value h = refl
number_stays what value h = absurd (cc)

pub number_goes : (n : ℕ) → Goes n n q.number q.number
number_goes n = goes_token n (λ token. c.number_in token.what) (λ token value h. number_stays token.what value h)

pub table_name_goes : (n : ℕ) → Goes n n q.table_name q.table_name
unfolding q.table_name
table_name_goes n = goes_or (goes_bind (goes_word n k.Default refl) (λ _. goes_bind (goes_word n k.Dot refl) (λ _. name_goes n))) (name_goes n)

alias_goes : (n : ℕ) → Goes n n q.alias q.alias
unfolding q.alias
alias_goes n = goes_bind (goes_flag n k.As refl) (λ _. name_goes n)

pub optional_alias_goes : (n : ℕ) → Goes n n q.optional_alias q.optional_alias
unfolding q.optional_alias
optional_alias_goes n = goes_or (goes_bind (alias_goes n) (λ text. goes_give n (Some text))) (goes_give n None)

all_of_goes : (n : ℕ) (p r : Rule Expr) → Goes n n (q.all_of p) (q.all_of r)
unfolding q.all_of
all_of_goes n p r = goes_bind (name_goes n) (λ table. goes_bind (goes_word n k.Dot refl) (λ _. goes_bind (goes_word n k.Star refl) (λ _. goes_give n (i.AllOf table))))

-- ---- over expressions

module _ (p r : Rule Expr) (E : (n : ℕ) → n ≤ most_levels → Goes n n p r) (n : ℕ) (le : n ≤ most_levels) where
  -- an expression between brackets
  inner_goes : (m : ℕ) → n ≡ suc m → Goes m m p r
  inner_goes m e = E m (level_below n m e le)

  key_goes : Goes n n (q.key p) (q.key r)
  unfolding q.key
  key_goes = goes_bind (E n le) (λ value. goes_bind (goes_either n k.Desc k.Asc refl refl) (λ descending. goes_give n (record { expr = value; descending = descending })))

  keys_goes : Goes n n (q.keys p) (q.keys r)
  unfolding q.keys
  keys_goes = goes_separated n k.Comma refl key_goes

  order_goes : Goes n n (q.order p) (q.order r)
  unfolding q.order
  order_goes = goes_or (goes_bind (goes_word n k.Order refl) (λ _. goes_bind (goes_word n k.By refl) (λ _. keys_goes))) (goes_give n [])

  one_goes : Goes n n (q.one p) (q.one r)
  unfolding q.one
  one_goes = goes_bind (E n le) (λ value. goes_bind (optional_alias_goes n) (λ alias. goes_give n (i.One value alias)))

  item_goes : Goes n n (q.item p) (q.item r)
  unfolding q.item
  item_goes = goes_or (goes_bind (goes_word n k.Star refl) (λ _. goes_give n i.All)) (goes_or (all_of_goes n p r) one_goes)

  items_goes : Goes n n (q.items p) (q.items r)
  unfolding q.items
  items_goes = goes_separated n k.Comma refl item_goes

  elements_goes : (outer : Bool) → Goes n n (q.elements p outer) (q.elements r outer)
  unfolding q.elements
  elements_goes outer = goes_bind (goes_bracketed n inner_goes) (λ array. goes_bind (name_goes n) (λ alias. goes_bind (goes_perhaps n k.As refl (name_goes n))
      (λ column. goes_give n (record { outer = outer; array = array; alias = alias; explode = x.Elements column }))))

  positions_goes : (outer : Bool) → Goes n n (q.positions p outer) (q.positions r outer)
  unfolding q.positions
  positions_goes outer = goes_bind (goes_bracketed n inner_goes) (λ array. goes_bind (name_goes n) (λ alias. goes_bind (goes_word n k.As refl) (λ _.
      goes_bind (name_goes n) (λ position. goes_bind (goes_word n k.Comma refl) (λ _. goes_bind (name_goes n)
      (λ element. goes_give n (record { outer = outer; array = array; alias = alias; explode = x.Positions position element })))))))

  lateral_goes : Goes n n (q.lateral p) (q.lateral r)
  unfolding q.lateral
  lateral_goes = goes_bind (goes_word n k.View refl) (λ _. goes_bind (goes_flag n k.Outer refl) (λ outer. goes_or
      (goes_bind (goes_word n k.Explode refl) (λ _. elements_goes outer))
      (goes_bind (goes_word n k.PosExplode refl) (λ _. positions_goes outer))))

  group_goes : Goes n n (q.group p) (q.group r)
  unfolding q.group g.list
  group_goes = goes_or (goes_bind (goes_word n k.Group refl) (λ _. goes_bind (goes_word n k.By refl) (λ _. goes_separated n k.Comma refl (E n le)))) (goes_give n [])

  -- ---- over the queries that stand between brackets, which nest one level less

  module _ (f h : Rule (Query Source)) (I : (m : ℕ) → n ≡ suc m → Goes m m f h) where
    table_goes : Goes n n (q.table p f) (q.table r h)
    unfolding q.table
    table_goes = goes_bind (table_name_goes n) (λ name. goes_bind (optional_alias_goes n) (λ alias. goes_give n (s.Table name alias)))

    subquery_goes : Goes n n (q.subquery p f) (q.subquery r h)
    unfolding q.subquery
    subquery_goes = goes_bind (goes_bracketed n I) (λ inner. goes_bind (alias_goes n) (λ alias. goes_give n (s.Query inner alias)))

    pub source_goes : Goes n n (q.source p f) (q.source r h)
    unfolding q.source
    source_goes = goes_or subquery_goes table_goes

    joined_on_goes : (kind : JoinKind) → Goes n n (q.joined_on p f kind) (q.joined_on r h kind)
    unfolding q.joined_on
    joined_on_goes kind = goes_bind source_goes (λ right. goes_bind (goes_word n k.On refl) (λ _. goes_bind (E n le)
        (λ condition. goes_give n (record { kind = kind; source = right; on = Some condition }))))

    outer_join_goes : (kind : JoinKind) → Goes n n (q.outer_join p f kind) (q.outer_join r h kind)
    unfolding q.outer_join
    outer_join_goes kind = goes_bind (goes_flag n k.Outer refl) (λ _. goes_bind (goes_word n k.Join refl) (λ _. joined_on_goes kind))

    left_join_goes : Goes n n (q.left_join p f) (q.left_join r h)
    unfolding q.left_join
    left_join_goes = goes_or (goes_bind (goes_word n k.Semi refl) (λ _. goes_bind (goes_word n k.Join refl) (λ _. joined_on_goes j.LeftSemi))) (outer_join_goes j.Left)

    inner_join_goes : Goes n n (q.inner_join p f) (q.inner_join r h)
    unfolding q.inner_join
    inner_join_goes = goes_bind source_goes (λ right. goes_bind (goes_perhaps n k.On refl (E n le)) (λ condition. goes_give n (record { kind = j.Inner; source = right; on = condition })))

    cross_join_goes : Goes n n (q.cross_join p f) (q.cross_join r h)
    unfolding q.cross_join
    cross_join_goes = goes_bind source_goes (λ right. goes_give n (record { kind = j.Cross; source = right; on = None }))

    join_goes : Goes n n (q.join p f) (q.join r h)
    unfolding q.join
    join_goes =
        goes_or (goes_bind (goes_word n k.Comma refl) (λ _. cross_join_goes))
        (goes_or (goes_bind (goes_word n k.Cross refl) (λ _. goes_bind (goes_word n k.Join refl) (λ _. cross_join_goes)))
        (goes_or (goes_bind (goes_word n k.Join refl) (λ _. inner_join_goes))
        (goes_or (goes_bind (goes_word n k.Inner refl) (λ _. goes_bind (goes_word n k.Join refl) (λ _. inner_join_goes)))
        (goes_or (goes_bind (goes_word n k.Left refl) (λ _. left_join_goes))
        (goes_or (goes_bind (goes_word n k.Right refl) (λ _. outer_join_goes j.Right))
        (goes_bind (goes_word n k.Full refl) (λ _. outer_join_goes j.Full)))))))

    from_goes : Goes n n (q.from p f) (q.from r h)
    unfolding q.from
    from_goes = goes_bind source_goes (λ first. goes_bind (goes_many n join_goes) (λ joins. goes_bind (goes_rows n k.Lateral refl lateral_goes)
        (λ laterals. goes_give n (record { source = first; joins = joins; laterals = laterals }))))

    select_goes : Goes n n (q.select p f) (q.select r h)
    unfolding q.select
    select_goes = goes_bind (goes_word n k.Select refl) (λ _. goes_bind (goes_either n k.Distinct k.All refl refl) (λ distinct. goes_bind items_goes (λ items.
        goes_bind (goes_perhaps n k.From refl from_goes) (λ from. goes_bind (goes_perhaps n k.Where refl (E n le)) (λ filter. goes_bind group_goes (λ group.
        goes_bind (goes_perhaps n k.Having refl (E n le)) (λ having.
        goes_give n (record { distinct = distinct; items = items; from = from; filter = filter; group = group; having = having }))))))))

    union_goes : Goes n n (q.union p f) (q.union r h)
    unfolding q.union
    union_goes = goes_bind (goes_either n k.All k.Distinct refl refl) (λ all. goes_bind select_goes (λ select. goes_give n (record { all = all; select = select })))

    query_over_goes : Goes n n (q.query_over p f) (q.query_over r h)
    unfolding q.query_over
    query_over_goes = goes_bind select_goes (λ first. goes_bind (goes_rows n k.Union refl union_goes) (λ unions. goes_bind order_goes (λ order.
        goes_bind (goes_perhaps n k.Limit refl (number_goes n)) (λ limit. goes_give n (record { select = first; unions = unions; order = order; limit = limit })))))

-- subqueries nest one level less than there was room for
nested_goes : (p r : Rule Expr) → ((n : ℕ) → n ≤ most_levels → Goes n n p r) → (depth n : ℕ) → n ≤ most_levels → Goes n n (q.query p depth) (q.query r (suc n))
unfolding q.query
nested_goes p r E zero n le = record { goes = λ b from to s room. absurd s }
nested_goes p r E (suc depth) n le = query_over_goes p r E n le (q.query p depth) (q.query r n)
    (λ m e. subst (λ z. Goes m m (q.query p depth) (q.query r z)) (sym e) (nested_goes p r E depth m (level_below n m e le)))

pub query_goes : (depth n : ℕ) → n ≤ most_levels → Goes n n (q.query (g.expr depth) depth) (q.query (g.expr (suc most_levels)) (suc n))
query_goes depth n le = nested_goes (g.expr depth) (g.expr (suc most_levels)) (λ n le. any_goes depth n le) depth n le

-- at the depth of the readers, whatever room there is
pub any_query_goes : (depth n : ℕ) → n ≤ most_levels → Goes n n (q.query (g.expr depth) depth) (q.query (g.expr (suc most_levels)) (suc most_levels))
any_query_goes depth n le = goes_deeper n most_levels le (query_goes depth n le) (query_goes depth most_levels (omega arith))
