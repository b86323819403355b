-- What an accepted verdict rests on, as members of a JSON object behind others.
--
-- `c` are the settings of the header, `h` is the history.
use Rattle.std.specs.Prelude.{ℕ, ◌==◌, codes, List, [], ◌∷◌, ◌++◌, Option, Some, None}
use Rattle.std.specs.Prelude.{if◌then◌else◌, option_map}
use Rattle.json.specs.Token.{Token}
use Rattle.qa_base.specs.declared.header.Options.{Options}
use Rattle.qa_base.specs.declared.key.Key.{Key}
use Rattle.qa_base.specs.declared.rule.Rule.{Rule}
use Rattle.qa_base.specs.declared.space.TimeUnit.{TimeUnit}
use Rattle.qa_base.specs.machine.Timer.{Due}
use Rattle.qa_base.specs.values.Names.{key_name, unit_name}
use Rattle.qa_base.specs.values.Settings.{Settings, in_unit}
use Rattle.qa_explain.specs.members.Deadlines.{due_facts}
use Rattle.qa_explain.specs.members.Object.{amount_at, closed, list_begin, list_end, number_at}
use Rattle.qa_explain.specs.members.Object.{opened, some_amount_at, string_at, text_of_all}
use Rattle.qa_violations.specs.allowed.Choices.{choices, key_of, limit_of}
use Rattle.qa_violations.specs.declared.table.row.Row.{Row}
use Rattle.qa_explain.specs.text.Values.{is_in_bytes}
use Rattle.qa_violations.specs.table.Members.{counts, greatest_at}
use Rattle.qa_violations.specs.table.Texts as texts
use Rattle.qa_why.specs.Objects.{rule_members}
use Rattle.qa_why.specs.declared.caveats.guesses.Guessed.{Guessed}

-- ---- what was allowed

abbrev pub key_member : Option Key → List Token
key_member None = []
key_member (Some k) = string_at (codes "by") (key_name k)

-- the limit in the unit of the amounts; a header says it in microseconds where it is a time
abbrev pub measured_limit : TimeUnit → Rule → ℕ → ℕ
measured_limit u r limit = if is_in_bytes r then limit else in_unit u limit

-- how much the header allows, which may be without a limit
abbrev pub limit_member : TimeUnit → Options → Rule → List Token
limit_member u o r =
    some_amount_at (codes "limit") (texts.unit_of u r)
    (option_map (measured_limit u r) (limit_of o r))

unfoldable pub row_object : TimeUnit → Options → Row → List Token
row_object u o row =
    opened ++ rule_members row.rule ++ key_member (key_of row.rule) ++ limit_member u o row.rule
    ++ counts row ++ greatest_at u row.rule row.greatest ++ closed

abbrev pub row_objects : TimeUnit → Options → List Row → List Token
row_objects u o [] = []
row_objects u o (row ∷ rows) = row_object u o row ++ row_objects u o rows

unfoldable pub allowed_member : TimeUnit → Options → List Row → List ℕ
allowed_member u o rows =
    text_of_all (list_begin (codes "allowed") ++ row_objects u o rows ++ list_end)

-- ---- choices

unfoldable pub quoted : List ℕ → List ℕ → List ℕ
quoted first name = first ++ codes "\"" ++ name ++ codes "\""

-- the names, with commas between, behind what stands before the first
abbrev pub listed : List ℕ → List Key → List ℕ
listed first [] = []
listed first (k ∷ ks) = quoted first (key_name k) ++ listed (codes ",") ks

unfoldable pub choices_member : List Key → List ℕ
choices_member ks = codes ",\"choices\":[" ++ listed [] ks ++ codes "]"

-- ---- guesses

unfoldable pub guessed_members : Guessed → List ℕ
guessed_members g =
    text_of_all (number_at (codes "count") g.count ++ number_at (codes "first") g.first)

unfoldable pub some_guesses_member : Guessed → List ℕ
some_guesses_member g = codes ",\"guesses\":{" ++ guessed_members g ++ codes "}"

-- how many lines were guessed; null where none was
abbrev pub guesses_member : Guessed → List ℕ
guesses_member g = if g.count == 0 then codes ",\"guesses\":null" else some_guesses_member g

-- ---- the end

unfoldable pub last_members : TimeUnit → ℕ → ℕ → Option Due → List ℕ
last_members u time bytes due =
    text_of_all (amount_at (codes "time") (unit_name u) time
    ++ number_at (codes "in_flight_bytes") bytes ++ due_facts u due)

unfoldable pub some_last_member : TimeUnit → ℕ → ℕ → Option Due → List ℕ
some_last_member u time bytes due =
    codes ",\"last\":{" ++ last_members u time bytes due ++ codes "}"

-- how the trace ends, whose last event was at this time; none without an event
abbrev pub last_member : TimeUnit → Option ℕ → ℕ → Option Due → List ℕ
last_member u None bytes due = codes ",\"last\":null"
last_member u (Some time) bytes due = some_last_member u time bytes due

-- ---- the whole

-- what an accepted verdict rests on: these rows of what was allowed; so many guesses; and the time
-- of the last event, so many bytes in flight and this timer at the end
unfoldable pub rest_members : Settings → List Row → Guessed → Option ℕ → ℕ → Option Due → List ℕ
rest_members c rows guessed time bytes due =
    codes "," ++ allowed_member c.unit c.options rows ++ choices_member (choices c.options)
    ++ guesses_member guessed ++ last_member c.unit time bytes due
