-- Bytes that are printed as they are, within an array and outside of one.
use Rattle.std.specs.Prelude.{ℕ, ◌==◌, if◌then◌else◌, Bool, true, false}
use Rattle.hv_value.specs.Bytes.{tab, line_feed, carriage_return, backslash, double_quote}

unfoldable pub is_plain : ℕ → Bool
is_plain byte =
    if byte == tab then false
    else if byte == line_feed then false
    else if byte == carriage_return then false
    else if byte == backslash then false
    else if byte == double_quote then false
    else true
