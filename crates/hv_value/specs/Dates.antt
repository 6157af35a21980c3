-- The dates of the years 1 to 9999 of the Gregorian calendar, which is taken back before its time
-- (this project's profile).
use Rattle.std.specs.Prelude.{ℕ, ◌+◌, ◌/◌, ◌%◌, ◌==◌, ◌&&◌, if◌then◌else◌, not, nat_le, length, take, drop, slice_index, Bool, List, [], ◌∷◌, map, find, ℤ, pos, negsuc, neg_ℤ, ◌+ℤ◌, ◌-ℤ◌, int_lt, Option, None, Some, option_map, codes}
use Rattle.std.specs.List.{prefix_len, flat_map, range_with_len}
use Rattle.std.specs.Ordering.{int_eq}
use Rattle.jiff_core.specs.Calendar.{days_from_civil, days_in_month}
use Rattle.hv_value.specs.declared.dates.CivilDate.{CivilDate}
use Rattle.hv_value.specs.Bytes.{space, digit_zero, minus_sign}
use Rattle.hv_value.specs.Digits.{digit_count, numeral_value}

abbrev pub dates_of_month : ℕ → ℕ → List CivilDate
dates_of_month y m =
    map (λ d. record { year = y; month = m; day = d }) (range_with_len 1 (days_in_month (pos y) m))

abbrev pub dates_of_year : ℕ → List CivilDate
dates_of_year y = flat_map (dates_of_month y) (range_with_len 1 12)

-- all dates, in their order
unfoldable pub dates : List CivilDate
dates = flat_map dates_of_year (range_with_len 1 9999)

-- how many days it comes after 1 January 1970
abbrev pub day_number : CivilDate → ℤ
day_number date = days_from_civil (pos date.year) date.month date.day

-- the date of a day number, where there is one
unfoldable pub date_of : ℤ → Option CivilDate
date_of day = find (λ date. int_eq (day_number date) day) dates

-- ---- days

-- a number of a day of these years, from 0001-01-01 to 9999-12-31
abbrev pub is_day : ℤ → Bool
is_day n = not (int_lt n (negsuc 719161)) && not (int_lt (pos 2932896) n)

-- the number itself, where it is a day's
abbrev pub day_if_known : ℤ → Option ℤ
day_if_known n = if is_day n then Some n else None

-- the day so many days later, where both are days
abbrev pub days_later : ℤ → ℤ → Option ℤ
days_later day days = if is_day day then day_if_known (day +ℤ days) else None

-- `date_add`, `date_sub` and `datediff` of Hive's manual, on day numbers; what is no day gives nothing
abbrev pub date_add : ℤ → ℤ → Option ℤ
date_add day days = days_later day days

abbrev pub date_sub : ℤ → ℤ → Option ℤ
date_sub day days = days_later day (neg_ℤ days)

-- how many days the first comes after the second, where both are days
abbrev pub date_diff : ℤ → ℤ → Option ℤ
date_diff end start = if is_day end && is_day start then Some (end -ℤ start) else None

-- the parts of a day's date
abbrev pub year_of : ℤ → Option ℤ
year_of day = option_map (λ (date : CivilDate). pos date.year) (date_of day)

abbrev pub month_of : ℤ → Option ℤ
month_of day = option_map (λ (date : CivilDate). pos date.month) (date_of day)

abbrev pub day_of_month : ℤ → Option ℤ
day_of_month day = option_map (λ (date : CivilDate). pos date.day) (date_of day)

-- ---- printing a date

-- the last decimal digit
abbrev pub last_digit : ℕ → ℕ
last_digit n = digit_zero + n % 10

-- `yyyy-mm-dd`
unfoldable pub civil_text : CivilDate → List ℕ
civil_text date =
    last_digit (date.year / 1000) ∷ last_digit (date.year / 100) ∷ last_digit (date.year / 10) ∷ last_digit date.year
    ∷ minus_sign ∷ last_digit (date.month / 10) ∷ last_digit date.month
    ∷ minus_sign ∷ last_digit (date.day / 10) ∷ last_digit date.day ∷ []

-- the printed text of a day number; one that is no date's prints as NULL
abbrev pub text_of_date : Option CivilDate → List ℕ
text_of_date None = codes "NULL"
text_of_date (Some date) = civil_text date

abbrev pub day_text : ℤ → List ℕ
day_text day = text_of_date (date_of day)

-- ---- reading a date

abbrev pub is_other_than_space : ℕ → Bool
is_other_than_space byte = not (byte == space)

-- the calendar has this day, in the years 1 to 9999
abbrev pub is_date : ℕ → ℕ → ℕ → Bool
is_date y m d =
    nat_le 1 y && nat_le y 9999 && nat_le 1 m && nat_le m 12 && nat_le 1 d && nat_le d (days_in_month (pos y) m)

abbrev pub numbered : ℕ → ℕ → ℕ → Option ℤ
numbered y m d = if is_date y m d then Some (days_from_civil (pos y) m d) else None

-- one or two digits
abbrev pub is_short : ℕ → Bool
is_short digits = nat_le 1 digits && nat_le digits 2

-- four digits, `-`, one or two digits, `-`, one or two digits
abbrev pub is_dashed : List ℕ → Bool
is_dashed bytes =
    let month = drop 5 bytes in
    let month_digits = digit_count month in
    let day = drop (month_digits + 1) month in
    (digit_count bytes == 4) && (slice_index bytes 4 == minus_sign) && is_short month_digits
    && (slice_index month month_digits == minus_sign) && is_short (digit_count day) && (length day == digit_count day)

abbrev pub dashed_day : List ℕ → Option ℤ
dashed_day bytes =
    let month = drop 5 bytes in
    let month_digits = digit_count month in
    if is_dashed bytes
    then numbered (numeral_value (take 4 bytes)) (numeral_value (take month_digits month))
    (numeral_value (drop (month_digits + 1) month))
    else None

-- the day number of the date that a text begins with; a space behind it and what follows are passed over
abbrev pub day_of_text : List ℕ → Option ℤ
day_of_text text = dashed_day (take (prefix_len is_other_than_space text) text)
