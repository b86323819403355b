-- Where a log that is one JSON object (RFC 8259) is being read: in which of its outer containers,
-- and at which part of it. The outer containers are the object, the list at its key `traces`, each
-- object in that list, and the list at the key `events` of each of these.
use Rattle.std.specs.Prelude.{◌==◌, ◌||◌, ◌&&◌, ◌+◌, ◌-◌, ℕ, Bool, true, false, not, List, [], ◌∷◌}
use Rattle.std.specs.Prelude.{min}
use Rattle.std.specs.Prelude.{nat_le, codes, Option, Some, None, if◌then◌else◌}
use Rattle.std.specs.List.{prefix_len}
use Rattle.qa_qlog.specs.declared.outer.Level.{Level}
use Rattle.qa_qlog.specs.declared.outer.Level.TheVariants.{Outside, Document, Traces, Trace, Events}
use Rattle.qa_qlog.specs.declared.outer.Part.{Part}
use Rattle.qa_qlog.specs.declared.outer.Part.TheVariants as part
use Rattle.qa_qlog.specs.declared.outer.Position.{Position}
use Rattle.qa_qlog.specs.declared.outer.Extent.{Extent}

-- ---- bytes

abbrev pub quote : ℕ
quote = 34

abbrev pub comma : ℕ
comma = 44

abbrev pub colon : ℕ
colon = 58

abbrev pub backslash : ℕ
backslash = 92

-- white space of JSON
abbrev pub is_space : ℕ → Bool
is_space b = b == 32 || (b == 10 || (b == 13 || b == 9))

-- `{` and `[`
abbrev pub is_opening : ℕ → Bool
is_opening b = b == 123 || b == 91

-- `}` and `]`
abbrev pub is_closing : ℕ → Bool
is_closing b = b == 125 || b == 93

-- can be a bracket, or begin or end a string, or escape a byte in one
abbrev pub is_structural : ℕ → Bool
is_structural b = b == quote || (b == backslash || (is_opening b || is_closing b))

abbrev pub is_plain : ℕ → Bool
is_plain b = not (is_structural b)

-- ends a number, `true`, `false` or `null`
abbrev pub is_end : ℕ → Bool
is_end b = is_space b || (b == comma || is_closing b)

-- ---- values

-- the highest count: later ones are it too. No log is so long, and no depth so great
abbrev pub last : ℕ
last = 18446744073709551615

abbrev pub next : ℕ → ℕ
next n = min last (n + 1)

abbrev pub at_part : Position → Part → Position
at_part p part = record p { part = part }

-- a bracket within a value closes: the last ends the value
abbrev pub closed : Position → Position
closed p =
    if nat_le p.depth 1 then record p { part = part.Behind; depth = 0 }
    else record p { depth = p.depth - 1 }

-- the byte after this position within brackets: only strings and brackets count, each closing one
-- for each opening one
abbrev pub in_brackets : Position → ℕ → Position
in_brackets p b =
    if b == quote then at_part p part.Text
    else if is_opening b then record p { depth = next p.depth }
    else if is_closing b then closed p
    else p

-- the byte after this position within a string
abbrev pub in_text : Position → ℕ → Position
in_text p b =
    if b == quote then at_part p (if p.depth == 0 then part.Behind else part.Nested)
    else if b == backslash then at_part p part.Escape
    else p

-- the byte after this position within a value
abbrev pub in_value : Part → Position → ℕ → Position
in_value part.Text p b = in_text p b
in_value part.Escape p b = at_part p part.Text
in_value _ p b = in_brackets p b

-- ---- containers

abbrev pub is_object : Level → Bool
is_object Document = true
is_object Trace = true
is_object _ = false

abbrev pub is_outside : Level → Bool
is_outside Outside = true
is_outside _ = false

abbrev pub is_events : Level → Bool
is_events Events = true
is_events _ = false

abbrev pub closes : Level → ℕ → Bool
closes Outside b = false
closes Document b = b == 125
closes Traces b = b == 93
closes Trace b = b == 125
closes Events b = b == 93

-- the container around one
abbrev pub around : Level → Level
around Events = Trace
around Trace = Traces
around Traces = Document
around _ = Outside

-- the outer container that begins with this byte, if the key before it is the one that counts
abbrev pub entered : Level → Bool → ℕ → Option Level
entered Outside named b = if b == 123 then Some Document else None
entered Document named b = if named && b == 91 then Some Traces else None
entered Traces named b = if b == 123 then Some Trace else None
entered Trace named b = if named && b == 91 then Some Events else None
entered Events named b = None

-- the key that counts, as it is written
abbrev pub name_of : Level → List ℕ
name_of Document = codes "\"traces\""
name_of _ = codes "\"events\""

-- ---- positions

abbrev pub start : Position
start = record { level = Outside; part = part.Start; depth = 0 }

-- any other value begins with this byte
abbrev pub value_from : Position → ℕ → Option Position
value_from p b =
    if b == quote then Some (record p { part = part.Text; depth = 0 })
    else if is_opening b then Some (record p { part = part.Nested; depth = 1 })
    else if b == comma || (b == colon || is_closing b) then None
    else Some (record p { part = part.Scalar; depth = 0 })

abbrev pub begun : Option Level → Position → ℕ → Option Position
begun (Some level) p b = Some (record p { level = level; part = part.Start })
begun None p b = if is_outside p.level then None else value_from p b

-- a value begins with this byte
abbrev pub value_at : Position → Bool → ℕ → Option Position
value_at p named b = begun (entered p.level named b) p b

-- a member of an object begins with this byte, or an element of a list
abbrev pub item_at : Position → Bool → ℕ → Option Position
item_at p named b =
    if is_object p.level then (if b == quote then Some (at_part p part.Key) else None)
    else value_at p named b

abbrev pub left : Position → Position
left p = record p { level = around p.level; part = part.Behind }

-- the byte after a whole member or element
abbrev pub behind : Position → ℕ → Option Position
behind p b =
    if closes p.level b then Some (left p)
    else if b == comma && not (is_outside p.level) then Some (at_part p part.Next)
    else None

abbrev pub in_key : Position → ℕ → Position
in_key p b =
    if b == quote then at_part p part.Colon
    else if b == backslash then at_part p part.KeyEscape
    else p

abbrev pub colon_at : Position → ℕ → Option Position
colon_at p b = if b == colon then Some (at_part p part.Value) else None

-- the position after this byte, which is no white space between two parts; None if it may not stand
-- there. `named`: the last key is the one that counts
abbrev pub moved : Part → Position → Bool → ℕ → Option Position
moved part.Start p named b =
    if closes p.level b then Some (left p) else item_at p named b
moved part.Next p named b = item_at p named b
moved part.Key p named b = Some (in_key p b)
moved part.KeyEscape p named b = Some (at_part p part.Key)
moved part.Colon p named b = colon_at p b
moved part.Value p named b = value_at p named b
moved part.Scalar p named b = Some p
moved part.Behind p named b = behind p b
moved _ p named b = Some (in_value p.part p b)

-- ---- parts

-- a value is being read
abbrev pub is_within : Part → Bool
is_within part.Nested = true
is_within part.Text = true
is_within part.Escape = true
is_within part.Scalar = true
is_within _ = false

-- a value is being read whose end shows in it: an object, a list or a string
abbrev pub is_nested : Part → Bool
is_nested part.Nested = true
is_nested part.Text = true
is_nested part.Escape = true
is_nested _ = false

-- a key or a value is being read
abbrev pub is_reading : Part → Bool
is_reading part.Key = true
is_reading part.KeyEscape = true
is_reading p = is_within p

-- a member or an element may begin
abbrev pub is_open : Part → Bool
is_open part.Start = true
is_open part.Next = true
is_open _ = false

-- all members and elements that began are whole
abbrev pub is_whole : Part → Bool
is_whole part.Start = true
is_whole part.Behind = true
is_whole _ = false

abbrev pub is_scalar : Part → Bool
is_scalar part.Scalar = true
is_scalar _ = false

-- the position after this byte
abbrev pub after : Position → Bool → ℕ → Option Position
after p named b =
    if is_space b && not (is_reading p.part) then Some p else moved p.part p named b

-- ---- whole values

abbrev pub further : ℕ → Extent → Extent
further n extent = record extent { len = n + extent.len }

-- how many of the bytes belong to the value that is being read at a position, and the position
-- after them
abbrev pub scanned : Position → List ℕ → Extent
scanned p [] = record { len = 0; position = p }
scanned p (b ∷ bs) =
    if is_nested (in_value p.part p b).part then further 1 (scanned (in_value p.part p b) bs)
    else record { len = 1; position = in_value p.part p b }

-- how many of the bytes a scan at this part passes over at once, since they leave its position as
-- it is
abbrev pub passed : Part → List ℕ → ℕ
passed part.Nested bs = prefix_len is_plain bs
passed part.Text bs = prefix_len is_plain bs
passed _ bs = 0
