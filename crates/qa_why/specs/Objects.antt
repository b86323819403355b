-- What is written of a trace as a JSON object: by its verdict the members, as they stand between
-- braces.
use Rattle.std.specs.Prelude.{ℕ, Bool, codes, decimal, List, [], ◌++◌, Option, Some, None}
use Rattle.json.specs.Token.{Token}
use Rattle.qa_base.specs.declared.event.Event.{Event}
use Rattle.qa_base.specs.declared.key.Key.{Key}
use Rattle.qa_base.specs.declared.rule.Field.{Field}
use Rattle.qa_base.specs.declared.rule.Rule.{Rule}
use Rattle.qa_base.specs.declared.rule.Rule.TheVariants as rule
use Rattle.qa_base.specs.declared.space.TimeUnit.{TimeUnit}
use Rattle.qa_base.specs.declared.totals.Totals.{Totals}
use Rattle.qa_base.specs.values.Names.{field_name, field_of, key_name, rule_name, rule_number}
use Rattle.qa_ledger.specs.declared.causes.cause.Cause.{Cause}
use Rattle.qa_ledger.specs.declared.causes.cause.Owed.{Owed}
use Rattle.qa_format.specs.declared.fault.Fault.{Fault}
use Rattle.qa_format.specs.format.Faults.{fault_name, fault_number, key_of}
use Rattle.qa_explain.specs.members.Facts.{facts}
use Rattle.qa_explain.specs.members.Losses.{owed}
use Rattle.qa_explain.specs.members.Object.{flag_at, number_at, opened, string_at, text_of_all}
use Rattle.qa_explain.specs.members.Sources.{source_members}
use Rattle.qa_explain.specs.members.Subjects.{subject}
use Rattle.qa_why.specs.Faults.{wanted}
use Rattle.qa_why.specs.Hidden.{without_hidden}

-- ---- the object around the members

-- the file is its first member, in whose name nothing is hidden, and the others stand behind: a
-- line
unfoldable pub object_line : List ℕ → List ℕ → List ℕ
object_line name members =
    without_hidden (text_of_all (opened ++ string_at (codes "file") name)) ++ codes "," ++ members
    ++ codes "}\n"

-- ---- the members of a verdict

-- the verdict in a word
unfoldable pub front : List ℕ → List Token
front word = string_at (codes "verdict") word

-- the same, and the line that the verdict is about
unfoldable pub head : List ℕ → ℕ → List Token
head word n = front word ++ number_at (codes "line") n

-- ---- accepted

unfoldable pub accepted_members : Totals → List ℕ
accepted_members t = text_of_all (front (codes "accepted") ++ number_at (codes "events") t.events)

-- ---- refused

abbrev pub field_at : Option Field → List Token
field_at None = []
field_at (Some f) = string_at (codes "field") (field_name f)

-- the rule by its number and its name, the field that it is about, and where it stands
unfoldable pub rule_members : Rule → List Token
rule_members r =
    string_at (codes "rule") (codes "V" ++ decimal (rule_number r))
    ++ string_at (codes "name") (rule_name r) ++ field_at (field_of r) ++ source_members r

-- why line n is refused, which says an event that breaks a rule
unfoldable pub refused_members : TimeUnit → ℕ → Rule → Event → Cause → List ℕ
refused_members u n r e k =
    text_of_all (head (codes "refused") n ++ rule_members r ++ subject u e ++ facts u e k)

-- V17
unfoldable pub owed_at_end_members : ℕ → Owed → List ℕ
owed_at_end_members n o =
    text_of_all (head (codes "refused") n ++ rule_members rule.OwedAtEnd ++ owed o)

-- ---- unreadable

unfoldable pub key_members : Key → List Token
key_members k = string_at (codes "key") (key_name k) ++ string_at (codes "wanted") (wanted k)

abbrev pub some_key_members : Option Key → List Token
some_key_members None = []
some_key_members (Some k) = key_members k

-- the fault by its number and its name, and the key that it is about
unfoldable pub fault_members : Fault → List Token
fault_members f =
    string_at (codes "fault") (codes "F" ++ decimal (fault_number f))
    ++ string_at (codes "name") (fault_name f) ++ some_key_members (key_of f)

-- why line n cannot be read, and whether a header stands before
unfoldable pub unreadable_members : ℕ → Fault → Bool → List ℕ
unreadable_members n f headed =
    text_of_all (head (codes "unreadable") n ++ fault_members f
    ++ flag_at (codes "behind_header") headed)
