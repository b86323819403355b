-- Keys that a line has behind those of its table: they begin with `x_`, and no reader knows them.
use Rattle.std.specs.Prelude.{◌≡◌, ◌-◌, ℕ, List, [], ◌∷◌, ◌++◌, Bool, true, false, ⊤, codes}
use Rattle.std.specs.Prelude.{◌≤◌, drop, length, map, take}
use Rattle.std.specs.List.{AllByRecursion}
use Rattle.serde_json.specs.Data.{Data, Members, no_members, member, object, string}
use Rattle.serde_json.specs.Written.{compact_text}
use Rattle.qa_convert.specs.declared.own.OwnKey.{OwnKey}
use Rattle.qa_convert.specs.declared.own.OwnKey.TheVariants.{Dialect, Forgot, Guess, Note, Place}
use Rattle.qa_convert.specs.declared.own.OwnKey.TheVariants.{Space}
use Rattle.qa_format.specs.declared.line.Line.{Line}
use Rattle.qa_format.specs.declared.line.Line.TheVariants as line
use Rattle.qa_format.specs.format.Lines.{ended, line_limit, with_lf}
use Rattle.qa_format.specs.format.Proper.{IsProperLine}
use Rattle.qa_format.specs.format.Simple.{IsKept, is_ascii}
use Rattle.qa_format.specs.format.Written.{event_pairs, header_pairs, members}

-- the names of the converter's own keys
abbrev pub own_key_name : OwnKey → List ℕ
own_key_name Dialect = codes "x_dialect"
own_key_name Forgot = codes "x_forgot"
own_key_name Guess = codes "x_guess"
own_key_name Note = codes "x_note"
own_key_name Place = codes "x_place"
own_key_name Space = codes "x_space"

-- there is a member
abbrev pub has_member : Members → Bool
has_member no_members = false
has_member (member k d ms) = true

-- members, and others behind them
abbrev pub followed : Members → Members → Members
followed no_members own = own
followed (member k d ms) own = member k d (followed ms own)

-- the key begins with `x_`
abbrev pub IsOwn : List ℕ → Type 0
IsOwn k = (take 2 k ≡ codes "x_") × (is_ascii k ≡ true)

-- each key does, and its value can be written and read
abbrev pub AreOwn : Members → Type 0
AreOwn no_members = ⊤
AreOwn (member k d ms) = IsOwn k × IsKept d × AreOwn ms

-- the value is a text of ASCII
abbrev pub IsText : Data → Type 0
IsText (string s) = is_ascii s ≡ true
IsText _ = ⊥

-- the texts of two objects as one: all but the last byte of the first, a comma, and all but the
-- first byte of the second
abbrev pub joined : List ℕ → List ℕ → List ℕ
joined text own = take (length text - 1) text ++ 44 ∷ drop 1 own

-- the text of own keys: where there is none, no object is written
abbrev pub own_text : Members → List ℕ
own_text no_members = []
own_text (member k d ms) = compact_text (object (member k d ms))

-- the text of a line with that of own keys; a blank line has none
abbrev pub with_own : List ℕ → List ℕ → List ℕ
with_own [] own = []
with_own (b ∷ bs) [] = b ∷ bs
with_own (b ∷ bs) (c ∷ cs) = joined (b ∷ bs) (c ∷ cs)

-- it is the text of own keys
abbrev pub IsOwnText : List ℕ → Type 0
IsOwnText text = (own : Members) × AreOwn own × (text ≡ own_text own)

-- the text of a line with keys of the converter's own behind its keys; a blank line has none
abbrev pub noted : Line → Members → List ℕ
noted line.Blank own = []
noted (line.Header s) own = compact_text (object (followed (members (header_pairs s)) own))
noted (line.Event e) own = compact_text (object (followed (members (event_pairs e)) own))

-- ---- a trace

-- a line with its own keys
abbrev pub Noted : Type 0
Noted = Line × Members

-- there is such a line, its keys are own ones, and it is no longer than a line may be
abbrev pub IsWritten : Noted → Type 0
IsWritten n = IsProperLine n.0 × AreOwn n.1 × (length (noted n.0 n.1) ≤ line_limit)

abbrev pub texts_of : List Noted → List (List ℕ)
texts_of ns = map (λ n. noted n.0 n.1) ns

-- the line is that of an event, and that of a header
abbrev pub IsOfEvent : Line → Type 0
IsOfEvent (line.Event e) = ⊤
IsOfEvent _ = ⊥

abbrev pub IsOfHeader : Line → Type 0
IsOfHeader (line.Header s) = ⊤
IsOfHeader _ = ⊥

-- there is such a line of an event
abbrev pub IsWrittenEvent : Noted → Type 0
IsWrittenEvent n = IsOfEvent n.0 × IsWritten n

-- bytes are lines of events, each ended by LF
abbrev pub AreEventLines : List ℕ → Type 0
AreEventLines bytes =
    (ns : List Noted) × AllByRecursion IsWrittenEvent ns × (bytes ≡ ended (texts_of ns))

-- bytes are the line of a header, ended by LF
abbrev pub IsHeaderLine : List ℕ → Type 0
IsHeaderLine bytes =
    (n : Noted) × IsOfHeader n.0 × IsWritten n × (bytes ≡ with_lf (noted n.0 n.1))
