-- What is spelled is read, production by production, where what stands behind can't continue it.
use Rattle.std.proofs.Common.{◌≡◌, ◌⊎◌, inl, inr, ℕ, zero, suc, Bool, true, false, ◌&&◌, cond, Option, Some, None, List, [], nat_lt, nat_le, refl, sym, ap, subst, ◌∙◌}
use Rattle.hv_ast.specs.declared.token.Token.{Token}
use Rattle.hv_ast.specs.declared.token.Lexeme.{Lexeme}
use Rattle.hv_ast.specs.declared.token.Lexeme.TheVariants as lexeme
use Rattle.hv_ast.specs.declared.token.Symbol.{Symbol}
use Rattle.hv_ast.specs.declared.token.Symbol.TheVariants as symbol
use Rattle.hv_ast.specs.declared.expr.Expr.{Expr}
use Rattle.hv_ast.specs.declared.query.Item.{Item}
use Rattle.hv_ast.specs.declared.query.Item.TheVariants as i
use Rattle.hv_ast.specs.declared.query.JoinKind.{JoinKind}
use Rattle.hv_ast.specs.declared.query.JoinKind.TheVariants as j
use Rattle.hv_ast.specs.declared.query.Explode.TheVariants as x
use Rattle.hv_ast.specs.declared.query.Source.{Source}
use Rattle.hv_ast.specs.declared.query.Source.TheVariants as source
use Rattle.hv_ast.specs.declared.query.Join.{Join}
use Rattle.hv_ast.specs.declared.query.Query.{Query}
use Rattle.hv_ast.specs.Tokens.{Text}
use Rattle.hv_grammar.specs.declared.kind.Kind.{Kind}
use Rattle.hv_grammar.specs.declared.kind.Kind.TheVariants as k
use Rattle.hv_grammar.specs.contracts.kind.Kind.{the_type}
use denote.Enum.Bare.{true_same}
use Rattle.hv_grammar.specs.Kinds.{kind_of, same_kind, symbol_kind}
use Rattle.hv_grammar.specs.Rules.{Rule}
use Rattle.hv_grammar.specs.Rules as rule
use Rattle.hv_grammar.specs.Readers.{Outcome, Reader, and_then, kind_at, next, sees, after}
use Rattle.hv_grammar.specs.Readers as reader
use Rattle.hv_grammar.specs.Choices as c
use Rattle.hv_grammar.specs.Choices.{binds}
use Rattle.hv_grammar.specs.Grammar as grammar
use Rattle.hv_grammar.specs.Reading as reading
use Rattle.hv_grammar.specs.QueryGrammar as g
use Rattle.hv_grammar.specs.QueryReading as r
use Rattle.hv_parse_expr.proofs.Joins.{Sound, sound_bind, sound_word}
use Rattle.hv_parse_expr.proofs.Below.{Any, Without, lower, below_at, below_without, without_at}
use Rattle.hv_parse_expr.proofs.Begins.{Stop, End, Begins, starts, avoids_begins, word_kind, word_next, is_seen, is_not_seen}
use Rattle.hv_parse_expr.proofs.Wholes.{Whole, whole_give, whole_then, whole_word, whole_pass, whole_eat, whole_flag, whole_held}
use Rattle.hv_parse_expr.proofs.Rows.{whole_separated}
use Rattle.hv_parse_expr.proofs.Found.{true_false, word_kind_is, name_whole, list_whole}
use Rattle.hv_parse_query.proofs.Ranks.{Behind, rank, behind_stops, name_rank, no_alias, join_rank, no_join}
use Rattle.hv_parse_query.proofs.Wholes.{Leads, Takes, leads_give, leads_word, leads_bind, leads_first, leads_or, leads_option, leads_either, leads_many, avoids, whole_weak, whole_next, whole_map, whole_perhaps, whole_either, whole_bracketed, whole_rows, whole_many, takes_word, takes_or}
use Rattle.hv_parse_query.proofs.Spelled as sound

-- ---- words

no_default : (s : Symbol) → symbol_kind s ≡ k.Default → ⊥
unfolding symbol_kind
no_default symbol.NullSafeEqual h = absurd (cc)
no_default symbol.EqualTwice h = absurd (cc)
no_default symbol.Unequal h = absurd (cc)
no_default symbol.BangEqual h = absurd (cc)
no_default symbol.AtMost h = absurd (cc)
no_default symbol.AtLeast h = absurd (cc)
no_default symbol.Equal h = absurd (cc)
no_default symbol.Less h = absurd (cc)
no_default symbol.Greater h = absurd (cc)
no_default symbol.Open h = absurd (cc)
no_default symbol.Close h = absurd (cc)
no_default symbol.OpenIndex h = absurd (cc)
no_default symbol.CloseIndex h = absurd (cc)
no_default symbol.Comma h = absurd (cc)
no_default symbol.Dot h = absurd (cc)
no_default symbol.Star h = absurd (cc)
no_default symbol.Plus h = absurd (cc)
no_default symbol.Minus h = absurd (cc)
no_default symbol.Percent h = absurd (cc)

-- DEFAULT is a word, and no symbol
default_lexeme : (what : Lexeme) → kind_of what ≡ k.Default → (text : Text) × (c.word_in what ≡ Some text)
unfolding kind_of
default_lexeme (lexeme.Word text) h = (text, refl)
default_lexeme (lexeme.Quoted text) h = (text, refl)
default_lexeme (lexeme.Symbol s) h = absurd (no_default s h)
default_lexeme (lexeme.Int number) h = absurd (cc)
default_lexeme (lexeme.Big number) h = absurd (cc)
default_lexeme (lexeme.Str text) h = absurd (cc)

-- where DEFAULT stands, a name is read
default_read : (u : Unit {0}) (from to : List Token) → rule.word k.Default u from to → (text : Text) × (reading.name from ≡ Some (text, to))
unfolding reading.name reading.word
default_read u from to s =
    let t = default_lexeme s.0.what s.1 in (
      t.0,
      ap (λ z. cond {A = Reader Text} (c.is_name z) reading.word (λ _. None) from) (word_kind s)
          ∙ (whole_held (λ token. c.word_in token.what)).read t.0 from to (s.0, t.1, s.2) tt,
    )

pub name_kind : (text : Text) (from to : List Token) → grammar.name text from to → c.is_name (kind_at from) ≡ true
name_kind text from to s = word_kind_is c.is_name text from to s

pub leads_name : {T S : List Token → Type 0} → ((t : List Token) → c.is_name (kind_at t) ≡ true → T t) → Leads T S grammar.name
leads_name at = record { leads = λ text from to s stop. at from (name_kind text from to s) }

-- a name is of no other kind
pub name_without : (kind : Kind) → c.is_name kind ≡ false → (t : List Token) → c.is_name (kind_at t) ≡ true → Without kind t
name_without kind none t is at = true_false (sym is ∙ ap c.is_name at ∙ none)

name_behind : (t : List Token) → c.is_name (kind_at t) ≡ true → Behind 12 t
name_behind t is = name_rank (kind_at t) is

-- ---- tables, aliases and numbers

pub number_whole : Whole Any g.number r.number
unfolding r.number
number_whole = whole_held (λ token. c.number_in token.what)

abbrev named : List Token → Text → Reader Text
named from first = λ mid. cond {A = Reader Text} (sees k.Dot mid) (cond {A = Reader Text} (same_kind (kind_at from) k.Default) reading.name reader.refuse) (reader.give first) (after k.Dot mid)

pub table_name_whole : Whole (Without k.Dot) g.table_name r.table_name
unfolding g.table_name r.table_name after same_kind
table_name_whole = record {
  read = λ text from to s stop.
      elim s as (λ _. and_then (reading.name from) (named from) ≡ Some (text, to)) [
        | inl w ↦
            let first = default_read w.0 from w.1 w.2 in
            let rest = w.3 in
            ap (λ o. and_then o (named from)) first.1
            ∙ ap (λ b. cond {A = Reader Text} b (cond {A = Reader Text} (same_kind (kind_at from) k.Default) reading.name reader.refuse) (reader.give first.0) (cond b (next w.1) w.1)) (is_seen k.Dot w.1 (word_kind rest.2))
            ∙ ap (λ b. cond {A = Reader Text} b reading.name reader.refuse (next w.1)) (true_same the_type (kind_at from) k.Default (word_kind w.2))
            ∙ ap reading.name (word_next rest.2) ∙ name_whole.read text rest.1 to rest.3 tt
        | inr w ↦
            ap (λ o. and_then o (named from)) (name_whole.read text from to w tt)
            ∙ ap (λ b. cond {A = Reader Text} b (cond {A = Reader Text} (same_kind (kind_at from) k.Default) reading.name reader.refuse) (reader.give text) (cond b (next to) to)) (is_not_seen k.Dot to stop)
      ];
}

pub leads_table_name : {T S : List Token → Type 0} → ((t : List Token) → c.is_name (kind_at t) ≡ true → T t) → Leads T S g.table_name
unfolding g.table_name
leads_table_name at = leads_or (leads_first (leads_word k.Default (λ t e. at t (ap c.is_name e)))) (leads_name at)

pub alias_whole : Whole Any g.alias r.alias
unfolding g.alias r.alias
alias_whole = whole_flag k.As (λ _. name_whole) (avoids (leads_name (name_without k.As refl)))

-- no alias begins behind
abbrev pub NoAlias : List Token → Type 0
NoAlias to = c.begins_alias (kind_at to) ≡ false

name_begins_alias : (kind : Kind) → c.is_name kind ≡ true → c.begins_alias kind ≡ true
name_begins_alias k.As is = refl
name_begins_alias kind is = is

pub leads_alias : {T S : List Token → Type 0} → ((t : List Token) → kind_at t ≡ k.As → T t) → ((t : List Token) → c.is_name (kind_at t) ≡ true → T t) → Leads T S g.alias
unfolding g.alias
leads_alias {T = T} one two = leads_bind {U = T} (leads_option k.As one (λ t s. s)) (λ _. leads_name two)

alias_begins : Leads (λ t. c.begins_alias (kind_at t) ≡ true) Any g.alias
alias_begins = leads_alias (λ t e. ap c.begins_alias e) (λ t is. name_begins_alias (kind_at t) is)

pub optional_alias_whole : Whole NoAlias g.optional_alias r.optional_alias
unfolding g.optional_alias r.optional_alias
optional_alias_whole = record {
  read = λ b from to s stop.
      elim s as (λ _. cond {A = Reader (Option Text)} (c.begins_alias (kind_at from)) (λ t. and_then (r.alias t) (λ a. reader.give (Some a))) (reader.give None) from ≡ Some (b, to)) [
        | inl w ↦
            ap (λ z. cond {A = Reader (Option Text)} z (λ t. and_then (r.alias t) (λ a. reader.give (Some a))) (reader.give None) from) (alias_begins.leads w.0 from w.1 w.2 tt)
            ∙ (whole_map Some alias_whole).read b from to w tt
        | inr w ↦
            ap (λ z. cond {A = Reader (Option Text)} z (λ t. and_then (r.alias t) (λ a. reader.give (Some a))) (reader.give None) from) (ap (λ t. c.begins_alias (kind_at t)) w.1 ∙ stop)
            ∙ (whole_give {S = Any} None).read b from to w tt
      ];
}

pub leads_optional_alias : {T S : List Token → Type 0} → ((t : List Token) → kind_at t ≡ k.As → T t) → ((t : List Token) → c.is_name (kind_at t) ≡ true → T t) → ((t : List Token) → S t → T t) → Leads T S g.optional_alias
unfolding g.optional_alias
leads_optional_alias one two weak = leads_or (leads_first (leads_alias one two)) (leads_give weak)

pub none_behind : (n : ℕ) → nat_le n 11 ≡ true → (t : List Token) → Behind n t → NoAlias t
none_behind n le t s = no_alias (kind_at t) (lower rank n 11 le t s)

-- an optional part leads to what ranks below a bound, where its first word and what follows do
skip : {A B : Type 0} {S : List Token → Type 0} {f : Unit {0} → Rule A} {a : A} {h : A → Rule B} (n : ℕ) (kind : Kind) → nat_lt (rank kind) n ≡ true → ((o : A) → Leads (Behind n) S (h o))
    → Leads (Behind n) S (λ b from to. (o : A) × (between : List Token) × (((u : Unit {0}) × (mid : List Token) × rule.word kind u from mid × f u o mid between) ⊎ rule.give a o from between) × h o b between to)
skip n kind lt H = leads_bind {U = Behind n} (leads_option kind (below_at rank n kind lt) (λ t s. s)) H

and_all : (x y z : Bool) → x ≡ true → y ≡ true → z ≡ true → x && y && z ≡ true
and_all x y z one two three = ap (λ b. b && y && z) one ∙ ap (λ b. true && b && z) two ∙ three

name_next : (text : Text) (from to : List Token) → grammar.name text from to → next from ≡ to
unfolding next
name_next text from to s = ap next s.2

-- ---- over expressions: an expression reads nothing where `ident . *` stands

module _ (p : Rule Expr) (q : Reader Expr) (E : Whole (Stop 1) p q) (B : Begins 1 p) (K : Sound p q)
    (N : (tokens : List Token) → r.sees_all_of tokens ≡ true → q tokens ≡ None) where
  expr_without : {S : List Token → Type 0} (kind : Kind) → nat_lt (starts kind) 1 ≡ true → Leads (Without kind) S p
  expr_without kind low = record { leads = λ a from to s stop e. (avoids_begins {S = Any} kind B low).avoids a from to s tt e }

  pub key_whole : Whole (Behind 11) (g.key p) (r.key q)
  unfolding g.key r.key
  key_whole = whole_next E (λ value. whole_next {T = Behind 11} (whole_either k.Desc k.Asc (λ e. cc) (below_without rank 11 k.Desc refl) (below_without rank 11 k.Asc refl))
      (λ descending. whole_give (record { expr = value; descending = descending })) (λ _. leads_give (λ t s. s)))
      (λ value. leads_bind {U = Stop 1} (leads_either k.Desc k.Asc (below_at binds 1 k.Desc refl) (below_at binds 1 k.Asc refl) (λ t s. s)) (λ _. leads_give (behind_stops 11 refl)))

  pub keys_whole : Whole (Behind 9) (g.keys p) (r.keys q)
  unfolding g.keys r.keys
  keys_whole = whole_separated {S = Behind 9} k.Comma key_whole (sound.key_sound p q K) (below_at rank 11 k.Comma refl) (lower rank 9 11 refl) (below_without rank 9 k.Comma refl)

  pub order_whole : Whole (Behind 2) (g.order p) (r.order q)
  unfolding g.order r.order
  order_whole = whole_eat k.Order (whole_then (whole_word k.By) (λ _. whole_weak (lower rank 2 9 refl) keys_whole)) (whole_give []) (avoids (leads_give (below_without rank 2 k.Order refl)))

  pub all_of_whole : Whole Any (g.all_of p) r.all_of
  unfolding g.all_of r.all_of
  all_of_whole = whole_then name_whole (λ table. whole_then (whole_word k.Dot) (λ _. whole_then (whole_word k.Star) (λ _. whole_give (i.AllOf table))))

  one_stops : (value : Expr) → Leads (Stop 1) (Behind 10) (λ b from to. (a : Option Text) × (between : List Token) × g.optional_alias a from between × rule.give (i.One value a) b between to)
  one_stops value = leads_bind {U = Stop 1} (leads_optional_alias (below_at binds 1 k.As refl) (λ t is. behind_stops 12 refl t (name_behind t is)) (λ t s. s)) (λ _. leads_give (behind_stops 10 refl))

  pub one_whole : Whole (Behind 10) (g.one p) (r.one q)
  unfolding g.one r.one
  one_whole = whole_next E (λ value. whole_next {T = NoAlias} optional_alias_whole (λ alias. whole_give (i.One value alias)) (λ _. leads_give (none_behind 10 refl))) one_stops

  sees_all : (b : Item) (from to : List Token) → g.all_of p b from to → r.sees_all_of from ≡ true
  unfolding g.all_of r.sees_all_of
  sees_all b from to s =
      let behind_name : next from ≡ s.1 = name_next s.0 from s.1 s.2 in
      let dot = s.3 in
      let behind_dot : next s.1 ≡ dot.1 = word_next dot.2 in
      and_all (c.is_name (kind_at from)) (sees k.Dot (next from)) (sees k.Star (next (next from)))
      (name_kind s.0 from s.1 s.2)
      (ap (sees k.Dot) behind_name ∙ is_seen k.Dot s.1 (word_kind dot.2))
      (ap (λ t. sees k.Star (next t)) behind_name ∙ ap (sees k.Star) behind_dot ∙ is_seen k.Star dot.1 (word_kind dot.3.2))

  none_some : {X : Type 0} {y : X} → None ≡ Some y → ⊥
  none_some e = absurd (cc)

  sees_one : (b : Item) (from to : List Token) → g.one p b from to → Behind 10 to → r.sees_all_of from ≡ false
  unfolding g.one
  sees_one b from to s stop = by_seen (r.sees_all_of from) refl
    where
      by_seen : (seen : Bool) → r.sees_all_of from ≡ seen → seen ≡ false
      by_seen true e = absurd (none_some (sym (N from e) ∙ E.read s.0 from s.1 s.2 ((one_stops s.0).leads b s.1 to s.3 stop)))
      by_seen false e = refl

  some_whole : Whole (Behind 10) (λ b from to. g.all_of p b from to ⊎ g.one p b from to) (r.some_item q)
  unfolding r.some_item
  some_whole = record {
    read = λ b from to s stop.
        elim s as (λ _. cond {A = Reader Item} (r.sees_all_of from) r.all_of (r.one q) from ≡ Some (b, to)) [
          | inl w ↦ ap (λ z. cond {A = Reader Item} z r.all_of (r.one q) from) (sees_all b from to w) ∙ all_of_whole.read b from to w tt
          | inr w ↦ ap (λ z. cond {A = Reader Item} z r.all_of (r.one q) from) (sees_one b from to w stop) ∙ one_whole.read b from to w stop
        ];
  }

  all_of_without : {S : List Token → Type 0} (kind : Kind) → c.is_name kind ≡ false → Leads (Without kind) S (g.all_of p)
  unfolding g.all_of
  all_of_without kind none = leads_first (leads_name (name_without kind none))

  one_without : {S : List Token → Type 0} (kind : Kind) → nat_lt (starts kind) 1 ≡ true → Leads (Without kind) S (g.one p)
  unfolding g.one
  one_without kind low = leads_first (expr_without kind low)

  pub item_whole : Whole (Behind 10) (g.item p) (r.item q)
  unfolding g.item r.item
  item_whole = whole_eat k.Star (whole_give i.All) some_whole (avoids (leads_or (all_of_without k.Star refl) (one_without k.Star refl)))

  item_without : {S : List Token → Type 0} (kind : Kind) → (k.Star ≡ kind → ⊥) → c.is_name kind ≡ false → nat_lt (starts kind) 1 ≡ true → Leads (Without kind) S (g.item p)
  unfolding g.item
  item_without kind apart none low = leads_or (leads_first (leads_word k.Star (without_at kind k.Star apart))) (leads_or (all_of_without kind none) (one_without kind low))

  pub items_whole : Whole (Behind 9) (g.items p) (r.items q)
  unfolding g.items r.items
  items_whole = whole_separated {S = Behind 9} k.Comma item_whole (sound.item_sound p q K) (below_at rank 10 k.Comma refl) (lower rank 9 10 refl) (below_without rank 9 k.Comma refl)

  items_without : {S : List Token → Type 0} (kind : Kind) → (k.Star ≡ kind → ⊥) → c.is_name kind ≡ false → nat_lt (starts kind) 1 ≡ true → Leads (Without kind) S (g.items p)
  unfolding g.items
  items_without kind apart none low = leads_first (item_without kind apart none low)

  exploded_whole : Whole Any (rule.bracketed p) (r.exploded q)
  unfolding r.exploded
  exploded_whole = whole_bracketed E (below_at binds 1 k.Close refl)

  pub elements_whole : (outer : Bool) → Whole (Behind 11) (g.elements p outer) (r.elements q outer)
  unfolding g.elements r.elements
  elements_whole outer = whole_then exploded_whole (λ array. whole_then name_whole (λ alias.
      whole_next {T = Behind 11} (whole_perhaps k.As (whole_weak (λ t s. tt) name_whole) (below_without rank 11 k.As refl))
      (λ column. whole_give (record { outer = outer; array = array; alias = alias; explode = x.Elements column })) (λ _. leads_give (λ t s. s))))

  pub positions_whole : (outer : Bool) → Whole (Behind 11) (g.positions p outer) (r.positions q outer)
  unfolding g.positions r.positions
  positions_whole outer = whole_then exploded_whole (λ array. whole_then name_whole (λ alias. whole_then (whole_word k.As) (λ _. whole_then name_whole (λ position.
      whole_then (whole_word k.Comma) (λ _. whole_then name_whole (λ element.
      whole_give (record { outer = outer; array = array; alias = alias; explode = x.Positions position element })))))))

  pub lateral_whole : Whole (Behind 11) (g.lateral p) (r.lateral q)
  unfolding g.lateral r.lateral
  lateral_whole = whole_then (whole_word k.View) (λ _. whole_flag k.Outer
      (λ outer. whole_eat k.Explode (elements_whole outer) (whole_then (whole_word k.PosExplode) (λ _. positions_whole outer))
      (avoids (leads_first (leads_word k.PosExplode (without_at k.Explode k.PosExplode (λ e. cc))))))
      (avoids (leads_or (leads_first (leads_word k.Explode (without_at k.Outer k.Explode (λ e. cc)))) (leads_first (leads_word k.PosExplode (without_at k.Outer k.PosExplode (λ e. cc)))))))

  pub laterals_whole : Whole (Behind 8) (rule.rows k.Lateral (g.lateral p)) (r.laterals q)
  unfolding r.laterals
  laterals_whole = whole_rows {S = Behind 8} k.Lateral lateral_whole (sound.lateral_sound p q K) (below_at rank 11 k.Lateral refl) (lower rank 8 11 refl) (below_without rank 8 k.Lateral refl)

  pub group_whole : Whole (Behind 5) (g.group p) (r.group q)
  unfolding g.group r.group
  group_whole = whole_eat k.Group
      (whole_then (whole_word k.By) (λ _. whole_weak {T = End 1 k.Comma} (λ t s. (behind_stops 5 refl t s, below_without rank 5 k.Comma refl t s)) (list_whole p q E B K)))
      (whole_give []) (avoids (leads_give (below_without rank 5 k.Group refl)))

  group_leads : (n : ℕ) → nat_lt 5 n ≡ true → Leads (Behind n) (Behind n) (g.group p)
  unfolding g.group
  group_leads n lt = leads_option k.Group (below_at rank n k.Group lt) (λ t s. s)

  order_leads : (n : ℕ) → nat_lt 2 n ≡ true → Leads (Behind n) (Behind n) (g.order p)
  unfolding g.order
  order_leads n lt = leads_option k.Order (below_at rank n k.Order lt) (λ t s. s)

  pub condition_whole : {S : List Token → Type 0} (kind : Kind) → ((t : List Token) → S t → Stop 1 t) → ((t : List Token) → S t → Without kind t)
      → Whole S (rule.perhaps kind p) (r.condition q kind)
  unfolding r.condition
  condition_whole kind stops ends = whole_perhaps kind (whole_weak stops E) ends

  -- ---- over queries between brackets

  module _ (f : Rule (Query Source)) (h : Reader (Query Source)) (W : Whole (Behind 1) f h) (Q : Sound f h) where
    pub table_whole : Whole (Behind 11) (g.table p f) (r.table q h)
    unfolding g.table r.table
    table_whole = whole_next {T = Without k.Dot} table_name_whole
        (λ name. whole_next {T = NoAlias} optional_alias_whole (λ alias. whole_give (source.Table name alias)) (λ _. leads_give (none_behind 11 refl)))
        (λ name. leads_bind {U = Without k.Dot} (leads_optional_alias (without_at k.Dot k.As (λ e. cc)) (name_without k.Dot refl) (λ t s. s)) (λ _. leads_give (below_without rank 11 k.Dot refl)))

    table_without : {S : List Token → Type 0} (kind : Kind) → c.is_name kind ≡ false → Leads (Without kind) S (g.table p f)
    unfolding g.table
    table_without kind none = leads_first (leads_table_name (name_without kind none))

    -- the bracket comes first
    Subquery : Rule Source
    Subquery b from to = (u : Unit {0}) × (inside : List Token) × rule.word k.Open u from inside
        × ((inner : Query Source) × (close : List Token) × f inner inside close
        × ((v : Unit {0}) × (behind : List Token) × rule.word k.Close v close behind
        × ((alias : Text) × (last : List Token) × g.alias alias behind last × rule.give (source.Query inner alias) b last to)))

    bracket_first : (b : Source) (from to : List Token) → g.subquery p f b from to → Subquery b from to
    unfolding g.subquery Subquery
    bracket_first b from to s =
        let brackets = s.2 in
        let query = brackets.3 in
        let close = query.3 in
        let alias = s.3 in (
          brackets.0,
          brackets.1,
          brackets.2,
          (
            query.0,
            query.1,
            query.2,
            (
              close.0,
              close.1,
              close.2,
              (alias.0, alias.1, subst (λ z. g.alias alias.0 z alias.1) (sym close.3.1) alias.2, (alias.3.0 ∙ ap (λ z. source.Query z alias.0) close.3.0, alias.3.1)),
            ),
          ),
        )

    source_by : Whole (Behind 11) (λ b from to. Subquery b from to ⊎ g.table p f b from to) (r.source q h)
    unfolding r.source r.subquery Subquery
    source_by = whole_eat k.Open
        (whole_next {T = Behind 1} W (λ inner. whole_then (whole_word k.Close) (λ _. whole_then alias_whole (λ alias. whole_give (source.Query inner alias))))
        (λ inner. leads_first (leads_word k.Close (below_at rank 1 k.Close refl))))
        table_whole (avoids (table_without k.Open refl))

    pub source_whole : Whole (Behind 11) (g.source p f) (r.source q h)
    unfolding g.source
    source_whole = record {
      read = λ b from to s stop.
          source_by.read b from to (elim s as (λ _. Subquery b from to ⊎ g.table p f b from to) [
            | inl w ↦ inl (bracket_first b from to w)
            | inr w ↦ inr w
          ]) stop;
    }

    pub joined_on_whole : (kind : JoinKind) → Whole (Behind 10) (g.joined_on p f kind) (r.joined_on q h kind)
    unfolding g.joined_on r.joined_on
    joined_on_whole kind = whole_next {T = Behind 11} source_whole
        (λ right. whole_then (whole_word k.On) (λ _. whole_next E (λ condition. whole_give (record { kind = kind; source = right; on = Some condition })) (λ _. leads_give (behind_stops 10 refl))))
        (λ right. leads_first (leads_word k.On (below_at rank 11 k.On refl)))

    pub outer_join_whole : (kind : JoinKind) → Whole (Behind 10) (g.outer_join p f kind) (r.outer_join q h kind)
    unfolding g.outer_join r.outer_join
    outer_join_whole kind = whole_flag k.Outer (λ _. whole_then (whole_word k.Join) (λ _. joined_on_whole kind)) (avoids (leads_first (leads_word k.Join (without_at k.Outer k.Join (λ e. cc)))))

    outer_join_leads : {S : List Token → Type 0} (kind : JoinKind) → Leads (Without k.Semi) S (g.outer_join p f kind)
    unfolding g.outer_join
    outer_join_leads kind = leads_bind {U = Without k.Semi} (leads_option k.Outer (without_at k.Semi k.Outer (λ e. cc)) (λ t s. s))
        (λ _. leads_first (leads_word k.Join (without_at k.Semi k.Join (λ e. cc))))

    pub left_join_whole : Whole (Behind 10) (g.left_join p f) (r.left_join q h)
    unfolding g.left_join r.left_join
    left_join_whole = whole_eat k.Semi (whole_then (whole_word k.Join) (λ _. joined_on_whole j.LeftSemi)) (outer_join_whole j.Left) (avoids (outer_join_leads j.Left))

    pub inner_join_whole : Whole (Behind 10) (g.inner_join p f) (r.inner_join q h)
    unfolding g.inner_join r.inner_join
    inner_join_whole = whole_next {T = Behind 11} source_whole
        (λ right. whole_next {T = Behind 10} (condition_whole k.On (behind_stops 10 refl) (below_without rank 10 k.On refl))
        (λ condition. whole_give (record { kind = j.Inner; source = right; on = condition })) (λ _. leads_give (λ t s. s)))
        (λ right. skip 11 k.On refl (λ _. leads_give (lower rank 10 11 refl)))

    pub cross_join_whole : Whole (Behind 10) (g.cross_join p f) (r.cross_join q h)
    unfolding g.cross_join r.cross_join
    cross_join_whole = whole_next {T = Behind 11} source_whole (λ right. whole_give (record { kind = j.Cross; source = right; on = None })) (λ _. leads_give (lower rank 10 11 refl))

    join_is : (kind : Kind) (from : List Token) (o : Outcome (Join Source)) → kind_at from ≡ kind → r.join_by q h kind from ≡ o → r.join q h from ≡ o
    unfolding r.join
    join_is kind from o at e = ap (λ z. r.join_by q h z from) at ∙ e

    pub join_whole : Whole (Behind 10) (g.join p f) (r.join q h)
    unfolding g.join
    join_whole = record {
      read = λ b from to s stop. elim s as (λ _. r.join q h from ≡ Some (b, to)) [
        | inl w ↦ join_is k.Comma from (Some (b, to)) (word_kind w.2) ((whole_pass k.Comma cross_join_whole).read b from to w stop)
        | inr s ↦ elim s as (λ _. r.join q h from ≡ Some (b, to)) [
          | inl w ↦ join_is k.Cross from (Some (b, to)) (word_kind w.2) ((whole_pass k.Cross (whole_then (whole_word k.Join) (λ _. cross_join_whole))).read b from to w stop)
          | inr s ↦ elim s as (λ _. r.join q h from ≡ Some (b, to)) [
            | inl w ↦ join_is k.Join from (Some (b, to)) (word_kind w.2) ((whole_pass k.Join inner_join_whole).read b from to w stop)
            | inr s ↦ elim s as (λ _. r.join q h from ≡ Some (b, to)) [
              | inl w ↦ join_is k.Inner from (Some (b, to)) (word_kind w.2) ((whole_pass k.Inner (whole_then (whole_word k.Join) (λ _. inner_join_whole))).read b from to w stop)
              | inr s ↦ elim s as (λ _. r.join q h from ≡ Some (b, to)) [
                | inl w ↦ join_is k.Left from (Some (b, to)) (word_kind w.2) ((whole_pass k.Left left_join_whole).read b from to w stop)
                | inr s ↦ elim s as (λ _. r.join q h from ≡ Some (b, to)) [
                  | inl w ↦ join_is k.Right from (Some (b, to)) (word_kind w.2) ((whole_pass k.Right (outer_join_whole j.Right)).read b from to w stop)
                  | inr w ↦ join_is k.Full from (Some (b, to)) (word_kind w.2) ((whole_pass k.Full (outer_join_whole j.Full)).read b from to w stop)
                ]
              ]
            ]
          ]
        ]
      ];
    }

    join_first : {A : Type 0} {S : List Token → Type 0} {m : Unit {0} → Rule A} (kind : Kind) → c.begins_join kind ≡ true
        → Leads (λ t. c.begins_join (kind_at t) ≡ true) S (λ b from to. (u : Unit {0}) × (between : List Token) × rule.word kind u from between × m u b between to)
    join_first kind e = leads_first (leads_word kind (λ t at. ap c.begins_join at ∙ e))

    join_begins : Leads (λ t. c.begins_join (kind_at t) ≡ true) Any (g.join p f)
    unfolding g.join
    join_begins = leads_or (join_first k.Comma refl) (leads_or (join_first k.Cross refl) (leads_or (join_first k.Join refl) (leads_or (join_first k.Inner refl)
        (leads_or (join_first k.Left refl) (leads_or (join_first k.Right refl) (join_first k.Full refl))))))

    join_takes : Takes (Behind 10) (g.join p f)
    unfolding g.join
    join_takes =
        takes_or (takes_word k.Comma cross_join_whole (sound.cross_join_sound p q K f h Q))
        (takes_or (takes_word k.Cross (whole_then (whole_word k.Join) (λ _. cross_join_whole)) (sound_bind (sound_word k.Join tt) (λ _. sound.cross_join_sound p q K f h Q)))
        (takes_or (takes_word k.Join inner_join_whole (sound.inner_join_sound p q K f h Q))
        (takes_or (takes_word k.Inner (whole_then (whole_word k.Join) (λ _. inner_join_whole)) (sound_bind (sound_word k.Join tt) (λ _. sound.inner_join_sound p q K f h Q)))
        (takes_or (takes_word k.Left left_join_whole (sound.left_join_sound p q K f h Q))
        (takes_or (takes_word k.Right (outer_join_whole j.Right) (sound.outer_join_sound p q K f h Q j.Right))
        (takes_word k.Full (outer_join_whole j.Full) (sound.outer_join_sound p q K f h Q j.Full)))))))

    join_leads : (n : ℕ) → nat_le 10 n ≡ true → Leads (Behind n) Any (g.join p f)
    join_leads n le = record { leads = λ b from to s stop. lower rank 10 n le from (join_rank (kind_at from) (join_begins.leads b from to s tt)) }

    pub joins_whole : Whole (Behind 9) (rule.many (g.join p f)) (r.joins q h)
    unfolding r.joins
    joins_whole = whole_many {S = Behind 9} c.begins_join join_whole join_takes (λ b from to s. join_begins.leads b from to s tt)
        (λ t is. join_rank (kind_at t) is) (lower rank 9 10 refl) (λ t s. no_join (kind_at t) s)

    lateral_leads : (n : ℕ) → nat_lt 8 n ≡ true → Leads (Behind n) (Behind n) (rule.rows k.Lateral (g.lateral p))
    lateral_leads n lt = leads_many (leads_first (leads_word k.Lateral (below_at rank n k.Lateral lt))) (λ t s. s)

    pub from_whole : Whole (Behind 8) (g.from p f) (r.from q h)
    unfolding g.from r.from
    from_whole = whole_next {T = Behind 11} source_whole
        (λ first. whole_next {T = Behind 9} joins_whole
        (λ joins. whole_next {T = Behind 8} laterals_whole (λ laterals. whole_give (record { source = first; joins = joins; laterals = laterals })) (λ _. leads_give (λ t s. s)))
        (λ joins. leads_bind {U = Behind 9} (lateral_leads 9 refl) (λ _. leads_give (lower rank 8 9 refl))))
        (λ first. leads_bind {U = Behind 11} (leads_many (join_leads 11 refl) (λ t s. s))
        (λ joins. leads_bind {U = Behind 11} (lateral_leads 11 refl) (λ _. leads_give (lower rank 8 11 refl))))

    pub optional_from_whole : Whole (Behind 7) (rule.perhaps k.From (g.from p f)) (r.optional_from q h)
    unfolding r.optional_from
    optional_from_whole = whole_perhaps k.From (whole_weak (lower rank 7 8 refl) from_whole) (below_without rank 7 k.From refl)

    pub select_whole : Whole (Behind 4) (g.select p f) (r.select q h)
    unfolding g.select r.select
    select_whole = whole_then (whole_word k.Select) (λ _.
        whole_next {T = λ t. Without k.Distinct t × Without k.All t} (whole_either k.Distinct k.All (λ e. cc) (λ t s. s.0) (λ t s. s.1))
        (λ distinct. whole_next {T = Behind 9} items_whole
        (λ items. whole_next {T = Behind 7} optional_from_whole
        (λ from. whole_next {T = Behind 6} (condition_whole k.Where (behind_stops 6 refl) (below_without rank 6 k.Where refl))
        (λ filter. whole_next {T = Behind 5} group_whole
        (λ group. whole_next {T = Behind 4} (condition_whole k.Having (behind_stops 4 refl) (below_without rank 4 k.Having refl))
        (λ having. whole_give (record { distinct = distinct; items = items; from = from; filter = filter; group = group; having = having }))
        (λ _. leads_give (λ t s. s)))
        (λ group. skip 5 k.Having refl (λ _. leads_give (lower rank 4 5 refl))))
        (λ filter. leads_bind {U = Behind 6} (group_leads 6 refl) (λ _. skip 6 k.Having refl (λ _. leads_give (lower rank 4 6 refl)))))
        (λ from. skip 7 k.Where refl (λ _. leads_bind {U = Behind 7} (group_leads 7 refl) (λ _. skip 7 k.Having refl (λ _. leads_give (lower rank 4 7 refl))))))
        (λ items. skip 9 k.From refl (λ _. skip 9 k.Where refl (λ _. leads_bind {U = Behind 9} (group_leads 9 refl) (λ _. skip 9 k.Having refl (λ _. leads_give (lower rank 4 9 refl)))))))
        (λ distinct. leads_first (record {
          leads = λ b from to s stop. (
            (items_without {S = Any} k.Distinct (λ e. cc) refl refl).leads b from to s tt,
            (items_without {S = Any} k.All (λ e. cc) refl refl).leads b from to s tt,
          );
        })))

    select_leads : {T S : List Token → Type 0} → ((t : List Token) → kind_at t ≡ k.Select → T t) → Leads T S (g.select p f)
    unfolding g.select
    select_leads at = leads_first (leads_word k.Select at)

    pub union_whole : Whole (Behind 4) (g.union p f) (r.union q h)
    unfolding g.union r.union
    union_whole = whole_next {T = λ t. Without k.All t × Without k.Distinct t} (whole_either k.All k.Distinct (λ e. cc) (λ t s. s.0) (λ t s. s.1))
        (λ all. whole_next {T = Behind 4} select_whole (λ select. whole_give (record { all = all; select = select })) (λ _. leads_give (λ t s. s)))
        (λ all. leads_first (select_leads (λ t at. (without_at k.All k.Select (λ e. cc) t at, without_at k.Distinct k.Select (λ e. cc) t at))))

    pub unions_whole : Whole (Behind 3) (rule.rows k.Union (g.union p f)) (r.unions q h)
    unfolding r.unions
    unions_whole = whole_rows {S = Behind 3} k.Union union_whole (sound.union_sound p q K f h Q) (below_at rank 4 k.Union refl) (lower rank 3 4 refl) (below_without rank 3 k.Union refl)

    pub query_over_whole : Whole (Behind 1) (g.query_over p f) (r.query_over q h)
    unfolding g.query_over r.query_over
    query_over_whole = whole_next {T = Behind 4} select_whole
        (λ first. whole_next {T = Behind 3} unions_whole
        (λ unions. whole_next {T = Behind 2} order_whole
        (λ order. whole_next {T = Behind 1} (whole_perhaps k.Limit (whole_weak (λ t s. tt) number_whole) (below_without rank 1 k.Limit refl))
        (λ limit. whole_give (record { select = first; unions = unions; order = order; limit = limit })) (λ _. leads_give (λ t s. s)))
        (λ order. skip 2 k.Limit refl (λ _. leads_give (lower rank 1 2 refl))))
        (λ unions. leads_bind {U = Behind 3} (order_leads 3 refl) (λ _. skip 3 k.Limit refl (λ _. leads_give (lower rank 1 3 refl)))))
        (λ first. leads_bind {U = Behind 4} (leads_many (leads_first (leads_word k.Union (below_at rank 4 k.Union refl))) (λ t s. s))
        (λ unions. leads_bind {U = Behind 4} (order_leads 4 refl) (λ _. skip 4 k.Limit refl (λ _. leads_give (lower rank 1 4 refl)))))

-- whatever a query nests
pub query_whole : (p : Rule Expr) (q : Reader Expr) → Whole (Stop 1) p q → Begins 1 p → Sound p q → ((tokens : List Token) → r.sees_all_of tokens ≡ true → q tokens ≡ None)
    → (depth : ℕ) → Whole (Behind 1) (g.query p depth) (r.query q depth)
unfolding g.query r.query
query_whole p q E B K N zero = record { read = λ b from to s stop. absurd s }
query_whole p q E B K N (suc depth) = query_over_whole p q E B K N (g.query p depth) (r.query q depth) (query_whole p q E B K N depth) (sound.query_sound p q K depth)
