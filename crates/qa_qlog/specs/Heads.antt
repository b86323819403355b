-- The head of a log of many texts: how its records are read.
use Rattle.std.specs.Prelude.{ℕ, List, [], ◌∷◌, codes, Option, Some, None, option_map}
use Rattle.std.specs.Prelude.{option_and_then, bytes_eq, Result, Ok, Err, ok_or, if◌then◌else◌}
use Rattle.std.specs.Option.{option_or, unwrap_or}
use Rattle.json.specs.Json.{Json, Items, no_items, item}
use Rattle.json.specs.Find.{get, as_str, as_array, is_null}
use Rattle.qa_base.specs.declared.space.Role.{Role}
use Rattle.qa_base.specs.values.Names.{role_named}
use Rattle.qa_qlog.specs.declared.heads.Head.{Head}
use Rattle.qa_qlog.specs.declared.heads.NoHead.{NoHead}
use Rattle.qa_qlog.specs.declared.heads.NoHead.TheVariants as no
use Rattle.qa_qlog.specs.declared.heads.TimeForm.{TimeForm}
use Rattle.qa_qlog.specs.declared.heads.TimeForm.TheVariants.{Absolute, Relative, Delta}
use Rattle.qa_qlog.specs.declared.times.Unit.{Unit}
use Rattle.qa_qlog.specs.declared.times.Unit.TheVariants.{Milliseconds}
use Rattle.qa_qlog.specs.Kinds.{is_some_text, json_of}
use Rattle.qa_qlog.specs.Says.{says, is_object, text_at, key_at}
use Rattle.qa_qlog.specs.Times.{unit_named}

infixl 10 ◌>>=◌
abbrev pub ◌>>=◌ : {A B E : Type 0} → Result A E → (A → Result B E) → Result B E
(Ok x) >>= f = f x
(Err e) >>= f = Err e

-- what the head says at a key: what `trace` says counts for more
abbrev pub said : List ℕ → Json → Option Json → Option Json
said key head trace = option_or (key_at key trace) (get key head)

-- an object, or null, or nothing
abbrev pub object_at : NoHead → Option Json → Result (Option Json) NoHead
object_at fault None = Ok None
object_at fault (Some j) =
    if is_null j then Ok None
    else if is_object j then Ok (Some j)
    else Err fault

-- ---- fields of records that are lists

-- the name of a field; one that is no string is no key that is read
abbrev pub name_of : Json → List ℕ
name_of j = unwrap_or (as_str j) []

abbrev pub names : Items → List (List ℕ)
names no_items = []
names (item j js) = name_of j ∷ names js

abbrev pub fields_of : Option Json → Result (List (List ℕ)) NoHead
fields_of None = Ok []
fields_of (Some j) = if says j then ok_or (option_map names (as_array j)) no.EventFields else Ok []

-- ---- times

-- by a name of any draft
abbrev pub form_named : List ℕ → Option TimeForm
form_named text =
    if bytes_eq text (codes "delta") then Some Delta
    else if bytes_eq text (codes "delta_time") then Some Delta
    else if bytes_eq text (codes "relative_to_previous_event") then Some Delta
    else if bytes_eq text (codes "relative") then Some Relative
    else if bytes_eq text (codes "relative_time") then Some Relative
    else if bytes_eq text (codes "relative_to_epoch") then Some Absolute
    else if bytes_eq text (codes "absolute") then Some Absolute
    else if bytes_eq text (codes "time") then Some Absolute
    else None

-- the first drafts have the form in the name of a field
abbrev pub form_of_fields : List (List ℕ) → TimeForm
form_of_fields [] = Absolute
form_of_fields (f ∷ fs) = unwrap_or (form_named f) (form_of_fields fs)

abbrev pub form_at : List (List ℕ) → Option Json → Result TimeForm NoHead
form_at fields None = Ok (form_of_fields fields)
form_at fields (Some j) =
    if says j then ok_or (option_and_then form_named (as_str j)) no.TimeFormat
    else Ok (form_of_fields fields)

abbrev pub form_of : List (List ℕ) → Json → Option Json → Result TimeForm NoHead
form_of fields head trace =
    object_at no.CommonFields (said (codes "common_fields") head trace)
    >>= λ common. form_at fields (key_at (codes "time_format") common)

abbrev pub unit_at : Option Json → Result Unit NoHead
unit_at None = Ok Milliseconds
unit_at (Some j) = ok_or (option_and_then unit_named (as_str j)) no.TimeUnits

abbrev pub unit_of : Json → Option Json → Result Unit NoHead
unit_of head trace =
    object_at no.Configuration (said (codes "configuration") head trace)
    >>= λ configuration. unit_at (key_at (codes "time_units") configuration)

-- ---- the endpoint

-- a log of the network says whose flow it looks at
abbrev pub seen : Option (List ℕ) → Option (List ℕ) → Option (List ℕ)
seen kind flow = if is_some_text (codes "network") kind then flow else kind

abbrev pub vantage_of : Option Json → Option (List ℕ)
vantage_of None = None
vantage_of (Some j) =
    if is_object j then seen (text_at (get (codes "type") j)) (text_at (get (codes "flow") j))
    else as_str j

abbrev pub role_at : Option Json → Option Role
role_at o = option_and_then role_named (vantage_of o)

abbrev pub role_of : Json → Option Json → Option Role
role_of head trace = role_at (said (codes "vantage_point") head trace)

-- ---- the head

abbrev pub with_form : Json → Option Json → List (List ℕ) → TimeForm → Result Head NoHead
with_form head trace fields form =
    unit_of head trace >>= λ unit. Ok (record {
      fields = fields;
      form = form;
      unit = unit;
      role = role_of head trace;
    })

abbrev pub with_fields : Json → Option Json → List (List ℕ) → Result Head NoHead
with_fields head trace fields = form_of fields head trace >>= with_form head trace fields

abbrev pub head_in : Json → Option Json → Result Head NoHead
head_in head trace =
    fields_of (said (codes "event_fields") head trace) >>= with_fields head trace

abbrev pub by_json : Option Json → Result Head NoHead
by_json None = Err no.NotJson
by_json (Some j) =
    if is_object j then object_at no.Trace (get (codes "trace") j) >>= head_in j
    else Err no.NoObject

-- the head that the first text of a log is
abbrev pub head_of : List ℕ → Result Head NoHead
head_of text = by_json (json_of text)
