-- What may stand behind the parts of a query.
use Rattle.std.proofs.Common.{◌≡◌, ℕ, Bool, true, false, cond, List, nat_lt, nat_le, refl, ap}
use Rattle.hv_ast.specs.declared.token.Token.{Token}
use Rattle.hv_grammar.specs.declared.kind.Kind.{Kind}
use Rattle.hv_grammar.specs.declared.kind.Kind.TheVariants as k
use Rattle.hv_grammar.specs.Readers.{kind_at}
use Rattle.hv_grammar.specs.Choices as c
use Rattle.hv_grammar.specs.Choices.{binds}
use Rattle.hv_parse_expr.proofs.Begins.{Stop}
use Rattle.hv_parse_expr.proofs.Below.{Below, lower}

-- How far within a query a token goes on: LIMIT is the last clause, and an alias goes on with an
-- item or a source. What goes on with an expression has the highest rank.
abbrev pub rank : Kind → ℕ
rank k.Nothing = 0
rank k.Close = 0
rank k.Limit = 1
rank k.Order = 2
rank k.Union = 3
rank k.Having = 4
rank k.Group = 5
rank k.Where = 6
rank k.From = 7
rank k.Lateral = 8
rank k.Comma = 9
rank k.Join = 9
rank k.Inner = 9
rank k.Cross = 9
rank k.Left = 9
rank k.Right = 9
rank k.Full = 9
rank k.On = 10
rank k.As = 11
rank kind = cond (c.is_name kind) 11 12

-- the token behind ranks below this
abbrev pub Behind : ℕ → List Token → Type 0
Behind n to = Below rank n to

-- ---- what a rank says

-- what binds has the highest rank
rank_stops : (kind : Kind) → nat_lt (rank kind) 12 ≡ true → nat_lt (binds kind) 1 ≡ true
rank_stops k.Or e = absurd (cc)
rank_stops k.And e = absurd (cc)
rank_stops k.Not e = absurd (cc)
rank_stops k.In e = absurd (cc)
rank_stops k.Between e = absurd (cc)
rank_stops k.Like e = absurd (cc)
rank_stops k.Equal e = absurd (cc)
rank_stops k.EqualTwice e = absurd (cc)
rank_stops k.Unequal e = absurd (cc)
rank_stops k.Less e = absurd (cc)
rank_stops k.AtMost e = absurd (cc)
rank_stops k.Greater e = absurd (cc)
rank_stops k.AtLeast e = absurd (cc)
rank_stops k.NullSafeEqual e = absurd (cc)
rank_stops k.Plus e = absurd (cc)
rank_stops k.Minus e = absurd (cc)
rank_stops k.Star e = absurd (cc)
rank_stops k.Div e = absurd (cc)
rank_stops k.Percent e = absurd (cc)
rank_stops k.Is e = absurd (cc)
rank_stops k.Open e = absurd (cc)
rank_stops k.Dot e = absurd (cc)
rank_stops k.OpenIndex e = absurd (cc)
rank_stops kind e = refl

pub behind_stops : (n : ℕ) → nat_le n 12 ≡ true → (t : List Token) → Behind n t → Stop 1 t
behind_stops n le t s = rank_stops (kind_at t) (lower rank n 12 le t s)

-- a name ranks with AS
pub name_rank : (kind : Kind) → c.is_name kind ≡ true → nat_lt (rank kind) 12 ≡ true
name_rank k.Nothing is = refl
name_rank k.Close is = refl
name_rank k.Limit is = refl
name_rank k.Order is = refl
name_rank k.Union is = refl
name_rank k.Having is = refl
name_rank k.Group is = refl
name_rank k.Where is = refl
name_rank k.From is = refl
name_rank k.Lateral is = refl
name_rank k.Comma is = refl
name_rank k.Join is = refl
name_rank k.Inner is = refl
name_rank k.Cross is = refl
name_rank k.Left is = refl
name_rank k.Right is = refl
name_rank k.Full is = refl
name_rank k.On is = refl
name_rank k.As is = refl
name_rank kind is = ap (λ b. nat_lt (cond b 11 12) 12) is

no_low : (b : Bool) → nat_lt (cond b 11 12) 11 ≡ true → ⊥
no_low true e = absurd (cc)
no_low false e = absurd (cc)

-- below AS no alias begins
pub no_alias : (kind : Kind) → nat_lt (rank kind) 11 ≡ true → c.begins_alias kind ≡ false
no_alias k.Nothing e = refl
no_alias k.Close e = refl
no_alias k.Limit e = refl
no_alias k.Order e = refl
no_alias k.Union e = refl
no_alias k.Having e = refl
no_alias k.Group e = refl
no_alias k.Where e = refl
no_alias k.From e = refl
no_alias k.Lateral e = refl
no_alias k.Comma e = refl
no_alias k.Join e = refl
no_alias k.Inner e = refl
no_alias k.Cross e = refl
no_alias k.Left e = refl
no_alias k.Right e = refl
no_alias k.Full e = refl
no_alias k.On e = refl
no_alias k.As e = absurd (cc)
no_alias kind e = absurd (no_low (c.is_name kind) e)

-- the first words of joins
pub join_rank : (kind : Kind) → c.begins_join kind ≡ true → nat_lt (rank kind) 10 ≡ true
join_rank k.Comma e = refl
join_rank k.Join e = refl
join_rank k.Inner e = refl
join_rank k.Cross e = refl
join_rank k.Left e = refl
join_rank k.Right e = refl
join_rank k.Full e = refl
join_rank kind e = absurd (cc)

pub no_join : (kind : Kind) → nat_lt (rank kind) 9 ≡ true → c.begins_join kind ≡ false
no_join k.Comma e = absurd (cc)
no_join k.Join e = absurd (cc)
no_join k.Inner e = absurd (cc)
no_join k.Cross e = absurd (cc)
no_join k.Left e = absurd (cc)
no_join k.Right e = absurd (cc)
no_join k.Full e = absurd (cc)
no_join kind e = refl
