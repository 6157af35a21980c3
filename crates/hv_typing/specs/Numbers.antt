-- The functions of typed expressions by number: two are one function where their numbers are equal.
use Rattle.std.specs.Prelude.{ℕ, Bool, nat_eq}
use Rattle.hv_expr.specs.declared.function.One.{One}
use Rattle.hv_expr.specs.declared.function.One.TheVariants as one
use Rattle.hv_expr.specs.declared.function.Two.{Two}
use Rattle.hv_expr.specs.declared.function.Two.TheVariants as two
use Rattle.hv_expr.specs.declared.function.Three.{Three}
use Rattle.hv_expr.specs.declared.function.Three.TheVariants as three
use Rattle.hv_expr.specs.declared.function.Many.{Many}
use Rattle.hv_expr.specs.declared.function.Many.TheVariants as many
use Rattle.hv_expr.specs.declared.function.Arithmetic.{Arithmetic}
use Rattle.hv_expr.specs.declared.function.Arithmetic.TheVariants as arithmetic
use Rattle.hv_expr.specs.declared.function.Aggregate.{Aggregate}
use Rattle.hv_expr.specs.declared.function.Aggregate.TheVariants as aggregate

abbrev pub one_number : One → ℕ
one_number one.Plus = 0
one_number one.Minus = 1
one_number one.Not = 2
one_number one.IsNull = 3
one_number one.IsNotNull = 4
one_number one.Cast = 5
one_number one.Size = 6
one_number one.Length = 7
one_number one.Lower = 8
one_number one.Upper = 9
one_number one.Trim = 10
one_number one.Abs = 11
one_number one.Year = 12
one_number one.Month = 13
one_number one.Day = 14

abbrev pub same_one : One → One → Bool
same_one f g = nat_eq (one_number f) (one_number g)

abbrev pub two_number : Two → ℕ
two_number two.Equal = 0
two_number two.Unequal = 1
two_number two.Less = 2
two_number two.AtMost = 3
two_number two.Greater = 4
two_number two.AtLeast = 5
two_number two.NullSafeEqual = 6
two_number two.Like = 7
two_number two.NotLike = 8
two_number two.Element = 9
two_number two.Nvl = 10
two_number two.Substr = 11
two_number two.Substring = 12
two_number two.Instr = 13
two_number two.Pmod = 14
two_number two.DateAdd = 15
two_number two.DateSub = 16
two_number two.DateDiff = 17

abbrev pub same_two : Two → Two → Bool
same_two f g = nat_eq (two_number f) (two_number g)

abbrev pub three_number : Three → ℕ
three_number three.If = 0
three_number three.Between = 1
three_number three.NotBetween = 2
three_number three.Substr = 3
three_number three.Substring = 4

abbrev pub same_three : Three → Three → Bool
same_three f g = nat_eq (three_number f) (three_number g)

abbrev pub many_number : Many → ℕ
many_number many.And = 0
many_number many.Or = 1
many_number many.Coalesce = 2
many_number many.Concat = 3
many_number many.Array = 4

abbrev pub same_many : Many → Many → Bool
same_many f g = nat_eq (many_number f) (many_number g)

abbrev pub arithmetic_number : Arithmetic → ℕ
arithmetic_number arithmetic.Add = 0
arithmetic_number arithmetic.Subtract = 1
arithmetic_number arithmetic.Multiply = 2
arithmetic_number arithmetic.Divide = 3
arithmetic_number arithmetic.Remainder = 4

abbrev pub same_arithmetic : Arithmetic → Arithmetic → Bool
same_arithmetic f g = nat_eq (arithmetic_number f) (arithmetic_number g)

abbrev pub aggregate_number : Aggregate → ℕ
aggregate_number aggregate.Count = 0
aggregate_number aggregate.Sum = 1
aggregate_number aggregate.Min = 2
aggregate_number aggregate.Max = 3

abbrev pub same_aggregate : Aggregate → Aggregate → Bool
same_aggregate f g = nat_eq (aggregate_number f) (aggregate_number g)
