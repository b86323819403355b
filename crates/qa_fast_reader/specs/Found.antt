-- What was found of an object's keys so far, and what a line's bytes then still have to be.
use Rattle.std.specs.Prelude.{◌≡◌, ◌≤◌, [], ◌∷◌, ◌++◌, ℕ, List, length, drop, Option, Bool, true}
use Rattle.std.specs.Prelude.{false, ◌||◌, bytes_eq, codes, option_map, IfSome, Ok, Some, None}
use Rattle.std.specs.Prelude.{option_and_then, is_some, if◌then◌else◌}
use Rattle.std.specs.List.{AllByRecursion}
use Rattle.std.specs.Str.{IsUtf8}
use Rattle.json.specs.Token as tokens
use Rattle.json.specs.Json as form
use Rattle.json.specs.Json.{Json}
use Rattle.json.specs.Lex.{between, lex, token, comma}
use Rattle.json.specs.Word.{ends_word}
use Rattle.json.specs.Tree.{members_depth}
use Rattle.serde_json.specs.Data as json
use Rattle.serde_json.specs.Data.{Data, Members, put}
use Rattle.serde_json.specs.Find.{get_member, as_null}
use Rattle.serde_json.specs.Read.{of_members}
use Rattle.qa_base.specs.declared.event.Event.{Event}
use Rattle.qa_format.specs.declared.line.Line.{Line}
use Rattle.qa_format.specs.declared.line.Line.TheVariants as line
use Rattle.qa_base.specs.declared.line_kind.LineKind.{LineKind}
use Rattle.qa_base.specs.declared.space.TimerKind.{TimerKind}
use Rattle.qa_base.specs.declared.space.Permission.{Permission}
use Rattle.qa_base.specs.declared.space.Space.{Space}
use Rattle.qa_base.specs.values.Events.{has_ranges}
use Rattle.qa_base.specs.values.Names.{line_kind_name, space_name, permission_name, kind_name}
use Rattle.qa_format.specs.format.Proper.{IsRange, AreWords}
use Rattle.qa_format.specs.format.Reading.{json_of, object_says, reader_named, reading}
use Rattle.qa_format.specs.format.Written.{integer, string, boolean, line_fits}
use Rattle.qa_fast_reader.specs.declared.found.Found.{Found}
use Rattle.qa_scan.specs.Lexes.{members_lexemes, deepest, IsKey, IsValueOf, Lexes}
use Rattle.qa_fast_reader.specs.Ranges.{ranges_data}
use Rattle.qa_fast_reader.specs.Items.{IsMemberWithin}

-- ---- values

abbrev pub line_kind_data : LineKind → Data
line_kind_data kind = string (line_kind_name kind)

abbrev pub space_data : Space → Data
space_data space = string (space_name space)

abbrev pub permission_data : Permission → Data
permission_data permission = string (permission_name permission)

abbrev pub kind_data : TimerKind → Data
kind_data kind = string (kind_name kind)

-- ---- keys

-- the keys of an event, but those of reported values
abbrev pub is_known_word : List ℕ → Bool
is_known_word key =
    bytes_eq (codes "event") key
    || bytes_eq (codes "time") key
    || bytes_eq (codes "space") key
    || bytes_eq (codes "number") key
    || bytes_eq (codes "size") key
    || bytes_eq (codes "eliciting") key
    || bytes_eq (codes "in_flight") key
    || bytes_eq (codes "leave") key
    || bytes_eq (codes "ranges") key
    || bytes_eq (codes "delay") key
    || bytes_eq (codes "limited") key
    || bytes_eq (codes "kind") key

-- the keys of reported values
abbrev pub is_known_metric : List ℕ → Bool
is_known_metric key =
    bytes_eq (codes "window") key
    || bytes_eq (codes "ssthresh") key
    || bytes_eq (codes "bytes_in_flight") key
    || bytes_eq (codes "latest_rtt") key
    || bytes_eq (codes "min_rtt") key
    || bytes_eq (codes "smoothed_rtt") key
    || bytes_eq (codes "rttvar") key

abbrev pub is_known : List ℕ → Bool
is_known key = is_known_word key || is_known_metric key

-- a value, and nothing for null, which counts as absent
abbrev pub unless_null : Data → Option Data
unless_null value = if is_some (as_null value) then None else Some value

-- what stands at a key
abbrev pub given : List ℕ → Members → Option Data
given key ms = option_and_then unless_null (get_member key ms)

-- each key of the members gives what was found of it, and nothing where nothing was
pub record Holds (f : Found) (ms : Members) : Type 0 where
  pub event : given (codes "event") ms ≡ option_map line_kind_data f.event
  pub time : given (codes "time") ms ≡ option_map integer f.time
  pub space : given (codes "space") ms ≡ option_map space_data f.space
  pub number : given (codes "number") ms ≡ option_map integer f.number
  pub size : given (codes "size") ms ≡ option_map integer f.size
  pub eliciting : given (codes "eliciting") ms ≡ option_map boolean f.eliciting
  pub in_flight : given (codes "in_flight") ms ≡ option_map boolean f.in_flight
  pub permission : given (codes "leave") ms ≡ option_map permission_data f.permission
  pub ranges : given (codes "ranges") ms ≡ option_map ranges_data f.ranges
  pub delay : given (codes "delay") ms ≡ option_map integer f.delay
  pub app_limited : given (codes "limited") ms ≡ option_map boolean f.app_limited
  pub kind : given (codes "kind") ms ≡ option_map kind_data f.kind
  pub window : given (codes "window") ms ≡ option_map integer f.values.window
  pub ssthresh : given (codes "ssthresh") ms ≡ option_map integer f.values.ssthresh
  pub bytes_in_flight : given (codes "bytes_in_flight") ms
      ≡ option_map integer f.values.bytes_in_flight
  pub latest_rtt : given (codes "latest_rtt") ms ≡ option_map integer f.values.latest_rtt
  pub min_rtt : given (codes "min_rtt") ms ≡ option_map integer f.values.min_rtt
  pub smoothed_rtt : given (codes "smoothed_rtt") ms ≡ option_map integer f.values.smoothed_rtt
  pub rttvar : given (codes "rttvar") ms ≡ option_map integer f.values.rttvar
  pub are_words : AreWords f.values
  pub are_ranges : IfSome f.ranges
      (λ ranges. (has_ranges ranges ≡ true) × AllByRecursion IsRange ranges)

-- where members hold what was found, they hold what is found then once this value is put at this
-- key
abbrev pub Keeps : List ℕ → Data → Found → Found → Type 0
Keeps key value old new = (ms : Members) → Holds old ms → Holds new (put key value ms)

-- the bytes are a value of this key and the rest, and the value is found
pub record Puts (key : List ℕ) (old new : Found) (bytes rest : List ℕ) : Type 0 where
  pub value : Data
  pub is : IsValueOf value bytes rest
  pub keeps : Keeps key value old new

-- the bytes are this key, a text of its value, and the rest
abbrev pub IsMember : List ℕ → Data → List ℕ → List ℕ → Type 0
IsMember key value bytes rest = IsMemberWithin deepest key value bytes rest

-- the bytes are a key, its value and the rest, and what was found is then found of this key too
pub record Takes (old new : Found) (bytes rest : List ℕ) : Type 0 where
  pub key : List ℕ
  pub value : Data
  pub member : IsMember key value bytes rest
  pub keeps : Keeps key value old new

-- the bytes are a key, its value and the rest, and nothing that an event asks for
abbrev pub TakesNothing : List ℕ → List ℕ → Type 0
TakesNothing bytes rest = (f : Found) → Takes f f bytes rest

-- ---- the line

-- these members stand before the rest: if the rest is more members, then the bytes read as all of
-- them
abbrev pub FollowsMembers : Members → List ℕ → List ℕ → Type 0
FollowsMembers before bytes rest =
    (key : List ℕ) (j : Json) (ms : form.Members) (all : Members)
    → members_depth (form.member key j ms) ≤ deepest
    → of_members (form.member key j ms) before ≡ Some all
    → lex between rest ≡ members_lexemes false (form.member key j ms) → IsUtf8 rest
    → json_of bytes ≡ Ok (json.object all)

-- the members before the rest gave what was found
pub record Follows (f : Found) (bytes rest : List ℕ) : Type 0 where
  pub before : Members
  pub holds : Holds f before
  pub reads : FollowsMembers before bytes rest

-- the bytes are a member and the rest, and the member is put to the others
pub record PutsMember (old new : Members) (bytes rest : List ℕ) : Type 0 where
  pub key : List ℕ
  pub value : Data
  pub member : IsMember key value bytes rest
  pub is : new ≡ put key value old

-- before any key
abbrev pub nothing : Found
nothing =
    record {
      event = None;
      time = None;
      space = None;
      number = None;
      size = None;
      eliciting = None;
      in_flight = None;
      permission = None;
      ranges = None;
      delay = None;
      app_limited = None;
      kind = None;
      values = record {
        window = None;
        ssthresh = None;
        bytes_in_flight = None;
        latest_rtt = None;
        min_rtt = None;
        smoothed_rtt = None;
        rttvar = None;
      };
    }

-- where a kind and a time are found
abbrev pub begun : LineKind → ℕ → Found
begun kind time = record nothing { event = Some kind; time = Some time }

-- the member before the rest was the last of those that gave what was found
pub record Ends (f : Found) (bytes rest : List ℕ) : Type 0 where
  pub old : Found
  pub last : List ℕ
  pub before : Follows old bytes last
  pub takes : Takes old f last rest

-- the bytes end an integer or a literal, and are the brace that closes an object
pub record IsEnd (bytes : List ℕ) : Type 0 where
  pub ended : ends_word bytes ≡ true
  pub lexed : Lexes bytes [] (token tokens.end_object ∷ [])

-- the same, if what comes next ends an integer or a literal
abbrev pub EndsIf : Found → List ℕ → List ℕ → Type 0
EndsIf f bytes rest = ends_word rest ≡ true → Ends f bytes rest

-- the bytes are a value of this key and the rest, if the rest ends an integer or a literal
abbrev pub PutsIf : List ℕ → Found → Found → List ℕ → List ℕ → Type 0
PutsIf key old new bytes rest = ends_word rest ≡ true → Puts key old new bytes rest

-- from the bytes to the rest one member more is found: where the earlier ones began is for the
-- caller to say
abbrev pub Continues : Found → Found → List ℕ → List ℕ → Type 0
Continues old new bytes rest = (whole : List ℕ) → EndsIf old whole bytes → EndsIf new whole rest

-- the bytes are a comma, this text in quotes, a colon, and what begins at the place
pub record IsNextKey (text bytes : List ℕ) (place : ℕ) : Type 0 where
  pub within : place ≤ length bytes
  pub is : bytes ≡ (44 ∷ 34 ∷ (text ++ 34 ∷ 58 ∷ [])) ++ drop place bytes

-- the bytes end an integer or a literal, and are a comma, this key and the rest
pub record IsLaterKey (key bytes rest : List ℕ) : Type 0 where
  pub ended : ends_word bytes ≡ true
  pub member : List ℕ
  pub at_comma : Lexes bytes member (comma ∷ [])
  pub is_key : IsKey key member rest

-- what was found says this line
abbrev pub SaysLine : Found → Line → Type 0
SaysLine f l = (ms : Members) → Holds f ms → object_says reader_named (json.object ms) ≡ Ok l

-- what was found says this event
abbrev pub Says : Found → Event → Type 0
Says f e = SaysLine f (line.Event e)

-- a line that is returned is what these bytes are read as, and its values are in their ranges
pub record Reads (bytes : List ℕ) (o : Option Line) : Type 0 where
  pub read : IfSome o (λ l. reading bytes ≡ Ok l)
  pub fitting : IfSome o (λ l. line_fits l ≡ true)

-- these bytes are read as this line, and its values are in their ranges
pub record IsLineOf (bytes : List ℕ) (l : Line) : Type 0 where
  pub read : reading bytes ≡ Ok l
  pub fitting : line_fits l ≡ true

-- a line whose members end before these bytes says what was found of them
abbrev pub Closes : List ℕ → Type 0
Closes bytes =
    (f : Found) (whole : List ℕ) (o : Option Line) → EndsIf f whole bytes
    → IfSome o (λ l. SaysLine f l) → Reads whole o
