-- A JSON object as the tokens of its text.
use Rattle.std.specs.Prelude.{ℕ, Bool, codes, decimal, List, [], ◌∷◌, ◌++◌, Option, Some, None}
use Rattle.json.specs.Print.{print}
use Rattle.json.specs.Token.{Token}
use Rattle.json.specs.Token as token

unfoldable pub opened : List Token
opened = token.begin_object ∷ []

unfoldable pub closed : List Token
closed = token.end_object ∷ []

-- ---- a member: a key and its value

unfoldable pub number_at : List ℕ → ℕ → List Token
number_at key n = token.key key ∷ token.number (decimal n) ∷ []

unfoldable pub string_at : List ℕ → List ℕ → List Token
string_at key s = token.key key ∷ token.string s ∷ []

unfoldable pub flag_at : List ℕ → Bool → List Token
flag_at key b = token.key key ∷ token.boolean b ∷ []

unfoldable pub null_at : List ℕ → List Token
null_at key = token.key key ∷ token.null ∷ []

-- the value may be absent
abbrev pub some_number_at : List ℕ → Option ℕ → List Token
some_number_at key None = null_at key
some_number_at key (Some n) = number_at key n

-- an amount, whose key ends with its unit
abbrev pub measured : List ℕ → List ℕ → List ℕ
measured key unit = key ++ codes "_" ++ unit

unfoldable pub amount_at : List ℕ → List ℕ → ℕ → List Token
amount_at key unit n = number_at (measured key unit) n

unfoldable pub some_amount_at : List ℕ → List ℕ → Option ℕ → List Token
some_amount_at key unit n = some_number_at (measured key unit) n

-- ---- lists

unfoldable pub list_begin : List ℕ → List Token
list_begin key = token.key key ∷ token.begin_array ∷ []

unfoldable pub list_end : List Token
list_end = token.end_array ∷ []

-- a run of numbers, from its least to its greatest
unfoldable pub run_tokens : ℕ × ℕ → List Token
run_tokens run =
    token.begin_array ∷ token.number (decimal run.0) ∷ token.number (decimal run.1)
    ∷ token.end_array ∷ []

abbrev pub each_run : List (ℕ × ℕ) → List Token
each_run [] = []
each_run (run ∷ runs) = run_tokens run ++ each_run runs

unfoldable pub runs_at : List ℕ → List (ℕ × ℕ) → List Token
runs_at key runs = list_begin key ++ each_run runs ++ list_end

-- ---- a text

abbrev pub text_of_all : List Token → List ℕ
text_of_all ts = print ts

-- the text of an object that these tokens begin
abbrev pub text_of : List Token → List ℕ
text_of ts = text_of_all (ts ++ closed)
