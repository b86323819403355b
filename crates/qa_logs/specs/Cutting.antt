-- How a log that comes in parts is cut into its texts, which are handed on one after another.
use Rattle.std.specs.Prelude.{◌≡◌, ℕ, Bool, List, [], ◌∷◌, Option, None, Some, false, true, nat_eq}
use Rattle.std.specs.Prelude.{not}
use Rattle.std.specs.List.{ends_with}
use Rattle.qa_convert.specs.declared.place.Place.{Place}
use Rattle.qa_convert.specs.declared.place.Place.TheVariants as place
use Rattle.qa_qlog.specs.Cuts.{Cut, Uncut, empty}
use Rattle.qa_qlog.specs.Cutting as cutting
use Rattle.qa_qlog.specs.Holding as holding
use Rattle.qa_qlog.specs.Marks.{byte_of}
use Rattle.qa_qlog.specs.Standing as standing
use Rattle.qa_qlog.specs.Taking as taking
use Rattle.qa_qlog.specs.Texts.{Numbered, Rest, line_feed, text_limit}
use Rattle.qa_qlog.specs.declared.texts.Mark.{Mark}
use Rattle.qa_qlog.specs.declared.texts.Mark.TheVariants.{RecordSeparator, LineFeed}
use Rattle.qa_logs.specs.declared.cutting.Cutter.{Cutter}
use Rattle.qa_logs.specs.declared.cutting.Cutter.TheVariants.{Document, Texts}
use Rattle.qa_logs.specs.declared.cutting.Form.{Form}
use Rattle.qa_logs.specs.declared.cutting.Form.TheVariants as form
use Rattle.qa_logs.specs.declared.cutting.LogText.{LogText}
use Rattle.qa_logs.specs.declared.cutting.Wants.{Wants}
use Rattle.qa_logs.specs.declared.cutting.Wants.TheVariants.{More, Nothing}

-- a log of this form of which nothing came yet
abbrev pub fresh : Form → Cutter
fresh (form.Texts mark) = Texts (record {
  uncut = record {
    mark = byte_of mark;
    limit = text_limit;
    bytes = [];
    closed = false;
    refused = None;
  };
  line = 1;
}) mark
fresh form.Document = Document empty

-- nothing failed, and the log was not closed
abbrev pub IsOpen : Cutter → Type 0
IsOpen (Texts texts mark) = (texts.uncut.refused ≡ None) × (texts.uncut.closed ≡ false)
IsOpen (Document document) = document.refused ≡ None

-- ---- texts

-- a text of a log, the number of its trace, from 1, and whether its end is in the log
pub record Given : Type 0 where
  pub bytes : List ℕ
  pub place : Place
  pub trace : ℕ
  pub is_whole : Bool

abbrev pub given : LogText → Given
given t = record {
  bytes = t.bytes.now;
  place = t.place;
  trace = t.trace;
  is_whole = t.is_whole;
}

-- whether the end of a text is in the log: it ends at its mark, or by LF if the mark is in front of
-- it (RFC 7464, section 2.4)
abbrev pub is_ended : Mark → Bool → List ℕ → Bool
is_ended LineFeed is_last bytes = not is_last
is_ended RecordSeparator is_last bytes = ends_with nat_eq bytes (line_feed ∷ [])

abbrev pub of_text : Mark → Bool → Numbered → Given
of_text mark is_last text = record {
  bytes = text.bytes;
  place = place.Line text.line;
  trace = 1;
  is_whole = is_ended mark is_last text.bytes;
}

abbrev pub of_record : Cut → Given
of_record cut = record {
  bytes = cut.bytes;
  place = place.Byte cut.place;
  trace = cut.trace;
  is_whole = true;
}

-- the new log is the old without its first text, or without its first record
abbrev pub NextText : Mark → Bool → Rest → Given → Rest → Type 0
NextText mark is_last old t new =
    (text : Numbered) × taking.TakesText old text new × (t ≡ of_text mark is_last text)

abbrev pub NextRecord : Uncut → Given → Uncut → Type 0
NextRecord old t new = (cut : Cut) × cutting.Takes old cut new × (t ≡ of_record cut)

-- ---- one after another

-- from the first to the last, by a step for each
abbrev pub Steps : {A S : Type 0} → (S → A → S → Type 0) → S → List A → S → Type 0
Steps step old [] new = new ≡ old
Steps {S} step old (x ∷ xs) new = (mid : S) × step old x mid × Steps step mid xs new

-- what a taker is before and after a text, and whether it wants more
abbrev pub Takes : Type 0 → Type 1
Takes S = S → Given → Wants → S → Type 0

abbrev pub WantsMore : {S : Type 0} → Takes S → S → Given → S → Type 0
WantsMore takes old t new = takes old t More new

-- the next text of a log was handed on, or none is ready
abbrev pub HandsOne : {A S : Type 0} → (A → Given → A → Type 0) → (A → A → Type 0) → Takes S → A
    → S → A → S → Option Wants → Type 0
HandsOne next lacks takes log old rest new None = lacks log rest × (new ≡ old)
HandsOne next lacks takes log old rest new (Some wants) =
    (t : Given) × next log t rest × takes old t wants new

-- its texts were handed on in their order, up to the last that is ready, or up to one behind which
-- nothing is wanted
abbrev pub HandsAll : {A S : Type 0} → (A → Given → A → Type 0) → (A → A → Type 0) → Takes S → A
    → S → A → S → Wants → Type 0
HandsAll {A} {S} next lacks takes log old rest new More = (ts : List Given) × (mid : A)
    × Steps next log ts mid × lacks mid rest × Steps (WantsMore takes) old ts new
HandsAll {A} {S} next lacks takes log old rest new Nothing = (ts : List Given) × (t : Given)
    × (mid : A) × (last : S) × Steps next log ts mid × next mid t rest
    × Steps (WantsMore takes) old ts last × takes last t Nothing new

-- what is left of a log: nothing, if no more of it is wanted
abbrev pub left_by : Wants → Cutter → Option Cutter
left_by More cutter = Some cutter
left_by Nothing cutter = None

-- the next part of a log came, and the texts that end in it were handed on
abbrev pub Feeds : {S : Type 0} → Takes S → Option Cutter → List ℕ → S → Option Cutter → S → Wants
    → Type 0
Feeds takes None part old rest new wants = (wants ≡ Nothing) × (rest ≡ None) × (new ≡ old)
Feeds takes (Some (Texts log mark)) part old rest new wants = (left : Rest)
    × HandsAll (NextText mark false) taking.Lacks takes (standing.fed log part) old left new wants
    × (rest ≡ left_by wants (Texts left mark))
Feeds takes (Some (Document log)) part old rest new wants = (left : Uncut)
    × HandsAll NextRecord cutting.Lacks takes (holding.fed log part) old left new wants
    × (rest ≡ left_by wants (Document left))

-- a log ended, and what is left of it was handed on: its last text, if it has many and more of them
-- are wanted
abbrev pub Ends : {S : Type 0} → Takes S → Option Cutter → S → S → Type 0
Ends takes (Some (Texts log mark)) old new = (left : Rest) × (wants : Wants)
    × HandsAll (NextText mark true) taking.Lacks takes (standing.closed log) old left new wants
Ends takes _ old new = new ≡ old
