-- Which key of a line stands there in place of one that is missing.
use Rattle.std.specs.Prelude.{ℕ, codes, map, List, [], ◌++◌, Option, Some, None, option_and_then}
use Rattle.serde_json.specs.Data.{Data, Members}
use Rattle.serde_json.specs.Find.{get, as_object, as_str}
use Rattle.qa_base.specs.declared.header.Version.TheVariants.{Three}
use Rattle.qa_base.specs.declared.key.Key.{Key}
use Rattle.qa_base.specs.declared.key.Key.TheVariants as key
use Rattle.qa_base.specs.declared.line_kind.LineKind.{LineKind}
use Rattle.qa_base.specs.values.Names.{key_name, line_kind_named}
use Rattle.qa_format.specs.declared.fault.Fault.{Fault}
use Rattle.qa_format.specs.declared.fault.Fault.TheVariants.{Missing}
use Rattle.qa_why.specs.suggest.StandsFor.{keys, stands_for}
use Rattle.qa_explain.specs.text.Pieces.{named}
use Rattle.qa_why.specs.Lines.{first_bytes, printable}
use Rattle.qa_why.specs.Values.{data_of, shown_of_string}

-- ---- the key

-- the kind of line that a string names
abbrev pub kind_by : Data → Option LineKind
kind_by d = option_and_then line_kind_named (as_str d)

-- the kind of line that an object says it is
abbrev pub kind_in : Data → Option LineKind
kind_in d = option_and_then kind_by (get (key_name key.Event) d)

-- the first key of these members that no version has and that is near to the one that is missing,
-- where the line is of this kind
abbrev pub among : Key → Option LineKind → Option Members → Option (List ℕ)
among missing None ms = None
among missing (Some kind) None = None
among missing (Some kind) (Some ms) = stands_for Three kind missing (keys ms)

abbrev pub name_meant : Key → Data → Option (List ℕ)
name_meant missing d = among missing (kind_in d) (as_object d)

-- ---- the text

-- whether it is the key that is missing
unfoldable pub question : Key → List ℕ
question k = named (codes " stands there; is it ") (key_name k) ++ codes "?\n"

-- some words and then the first bytes of a name
unfoldable pub shown_name : List ℕ → List ℕ → List ℕ
shown_name words name = words ++ map printable (first_bytes shown_of_string name)

unfoldable pub meant_line : List ℕ → Key → List ℕ
meant_line name k = shown_name (codes "  Hint: the key ") name ++ question k

abbrev pub meant_text : Option (List ℕ) → Key → List ℕ
meant_text None k = []
meant_text (Some name) k = meant_line name k

abbrev pub meant_in : Key → Option Data → List ℕ
meant_in k None = []
meant_in k (Some d) = meant_text (name_meant k d) k

-- what stands in the line in place of the key that is missing
abbrev pub meant : Fault → Option (List ℕ) → List ℕ
meant (Missing k) (Some l) = meant_in k (data_of l)
meant f line = []
