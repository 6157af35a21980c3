-- The words of the command line that are a command. This project's profile: `run`, `serve` and `bench N`, and
-- options, `--workers` and `--compactors`, each at most once, as `--name V` or `--name=V`. A number is one to four
-- digits, leading zeros among them.
use Rattle.std.specs.Prelude.{ℕ, ◌+◌, ◌-◌, ◌*◌, ◌&&◌, Bool, true, false, if◌then◌else◌, Option, Some, None, List, [], ◌∷◌, codes, nat_le, option_map, option_and_then, unwrap_or}
use Rattle.hv_script.specs.Kinds.{behind, same_text}
use Rattle.hv_script.specs.declared.words.Command.{Command}
use Rattle.hv_script.specs.declared.words.Command.TheVariants.{Run, Serve, Bench}
use Rattle.hv_script.specs.declared.words.Form.{Form}
use Rattle.hv_script.specs.declared.words.Form.TheVariants as forms
use Rattle.hv_script.specs.declared.words.Setting.{Setting}
use Rattle.hv_script.specs.declared.words.Setting.TheVariants.{Workers, Compactors}
use Rattle.hv_script.specs.declared.words.Said.{Said}
use Rattle.hv_script.specs.declared.words.TheConstants.{DEFAULT_WORKERS, MAX_WORKERS, DEFAULT_COMPACTORS, MAX_COMPACTORS, MAX_BENCH}

unfoldable pub form_of : List ℕ → Option Form
form_of word =
    if same_text word (codes "run") then Some forms.Run
    else (if same_text word (codes "serve") then Some forms.Serve
    else (if same_text word (codes "bench") then Some forms.Bench else None))

-- ---- numbers

abbrev pub digit_of : ℕ → Option ℕ
digit_of b = if nat_le 48 b && nat_le b 57 then Some (b - 48) else None

unfoldable pub four_digits : ℕ → ℕ → ℕ → ℕ → Option ℕ
four_digits a b c d =
    option_and_then (λ (thousands : ℕ). option_and_then (λ (hundreds : ℕ). option_and_then (λ (tens : ℕ). option_and_then (λ (ones : ℕ).
    Some (thousands * 1000 + hundreds * 100 + tens * 10 + ones)) (digit_of d)) (digit_of c)) (digit_of b)) (digit_of a)

-- one to four digits: 48 is the digit 0
unfoldable pub number_of : List ℕ → Option ℕ
number_of (d ∷ []) = four_digits 48 48 48 d
number_of (c ∷ d ∷ []) = four_digits 48 48 c d
number_of (b ∷ c ∷ d ∷ []) = four_digits 48 b c d
number_of (a ∷ b ∷ c ∷ d ∷ []) = four_digits a b c d
number_of _ = None

-- a number from 1 to this many
abbrev pub within : ℕ → Option ℕ → Option ℕ
within most None = None
within most (Some n) = if nat_le 1 n && nat_le n most then Some n else None

-- ---- word by word

-- behind the first word
abbrev pub first_said : Form → Said
first_said form = record { form = form; number = None; workers = None; compactors = None; awaited = None }

-- each option is said at most once, and so is the number
abbrev pub workers_beside : Option ℕ → Said → Option ℕ → Option Said
workers_beside (Some before) said now = None
workers_beside None said now = option_map (λ (n : ℕ). record said { workers = Some n; awaited = None }) now

unfoldable pub with_workers : Said → List ℕ → Option Said
with_workers said value = workers_beside said.workers said (within MAX_WORKERS (number_of value))

abbrev pub compactors_beside : Option ℕ → Said → Option ℕ → Option Said
compactors_beside (Some before) said now = None
compactors_beside None said now = option_map (λ (n : ℕ). record said { compactors = Some n; awaited = None }) now

unfoldable pub with_compactors : Said → List ℕ → Option Said
with_compactors said value = compactors_beside said.compactors said (within MAX_COMPACTORS (number_of value))

-- `run` has no compactors
abbrev pub compactors_by : Form → Said → List ℕ → Option Said
compactors_by forms.Run said value = None
compactors_by forms.Serve said value = with_compactors said value
compactors_by forms.Bench said value = with_compactors said value

-- behind an option with this value
unfoldable pub with_setting : Said → Setting → List ℕ → Option Said
with_setting said Workers value = with_workers said value
with_setting said Compactors value = compactors_by said.form said value

abbrev pub counted_beside : Option ℕ → Said → Option ℕ → Option Said
counted_beside (Some before) said now = None
counted_beside None said now = option_map (λ (n : ℕ). record said { number = Some n }) now

unfoldable pub counted : Said → List ℕ → Option Said
counted said word = counted_beside said.number said (within MAX_BENCH (number_of word))

-- `bench` alone has a number
abbrev pub number_by : Form → Said → List ℕ → Option Said
number_by forms.Run said word = None
number_by forms.Serve said word = None
number_by forms.Bench said word = counted said word

unfoldable pub with_number : Said → List ℕ → Option Said
with_number said word = number_by said.form said word

-- an option whose value stands in its word, or else another way
abbrev pub by_value : Said → Setting → Option (List ℕ) → Option Said → Option Said
by_value said setting None other = other
by_value said setting (Some value) other = with_setting said setting value

-- a word that is no value: an option, or a number
unfoldable pub with_word : Said → List ℕ → Option Said
with_word said word =
    if same_text word (codes "--workers") then Some (record said { awaited = Some Workers })
    else (if same_text word (codes "--compactors") then Some (record said { awaited = Some Compactors })
    else by_value said Workers (behind (codes "--workers=") word)
    (by_value said Compactors (behind (codes "--compactors=") word) (with_number said word)))

-- the value of an option, where one is awaited
abbrev pub as_awaited : Said → Option Setting → List ℕ → Option Said
as_awaited said None word = with_word said word
as_awaited said (Some setting) word = with_setting said setting word

-- behind one word more
abbrev pub said_behind : Said → List ℕ → Option Said
said_behind said word = as_awaited said said.awaited word

abbrev pub said_of_all : Said → List (List ℕ) → Option Said
said_of_all said [] = Some said
said_of_all said (word ∷ words) = option_and_then (λ (next : Said). said_of_all next words) (said_behind said word)

-- ---- the command

abbrev pub command_by : Form → Option ℕ → ℕ → ℕ → Option Command
command_by forms.Run number workers compactors = Some (Run workers)
command_by forms.Serve number workers compactors = Some (Serve workers compactors)
command_by forms.Bench number workers compactors = option_map (λ (n : ℕ). Bench n workers compactors) number

abbrev pub unless_awaited : Option Setting → Option Command → Option Command
unless_awaited (Some setting) command = None
unless_awaited None command = command

-- what was said is a command, where no value is missing and `bench` has its number
unfoldable pub settled : Said → Option Command
settled said =
    unless_awaited said.awaited (command_by said.form said.number (unwrap_or said.workers DEFAULT_WORKERS) (unwrap_or said.compactors DEFAULT_COMPACTORS))

-- all the words that stand behind the first one
unfoldable pub said_by : List ℕ → List (List ℕ) → Option Said
said_by word words = option_and_then (λ (form : Form). said_of_all (first_said form) words) (form_of word)

unfoldable pub command_of : List (List ℕ) → Option Command
command_of [] = None
command_of (word ∷ words) = option_and_then settled (said_by word words)

-- ---- what is built

abbrev pub runs_today : Command → Bool
runs_today (Run workers) = true
runs_today (Serve workers compactors) = false
runs_today (Bench number workers compactors) = false

abbrev pub where_it_runs : Command → Option Command
where_it_runs command = if runs_today command then Some command else None

-- the command that words are, where it is built
unfoldable pub run_of : List (List ℕ) → Option Command
run_of words = option_and_then where_it_runs (command_of words)
