-- The text of a line with own keys has no LF.
use Rattle.std.proofs.Common.{◌≡◌, ◌∙◌, ℕ, List, [], ◌∷◌, ◌++◌, Bool, true, false, Ok, map, refl, sym, ap, ap₂, append-nil}
use Rattle.std.proofs.lemmas.Bool.{or_parts, or_from}
use Rattle.json.specs.Print.{quoted}
use Rattle.serde_json.specs.Data.{Members, no_members, member, string}
use Rattle.serde_json.specs.Written.{comma_if, compact_text, members_text}
use Rattle.qa_format.specs.declared.line.Line.{Line}
use Rattle.qa_format.specs.declared.line.Line.TheVariants as line
use Rattle.std.specs.List.{AllByRecursion}
use Rattle.qa_format.specs.format.Lines.{IsShortLine, ended, is_lf, has_lf, lines}
use Rattle.qa_format.specs.format.Proper.{IsProperLine}
use Rattle.qa_format.specs.format.Reading.{reading}
use Rattle.qa_format.specs.format.Simple.{AreKept}
use Rattle.qa_format.specs.format.Written.{event_pairs, header_pairs, members}
use Rattle.qa_format.proofs.format.LinesWritten.{event_follows}
use Rattle.qa_format.proofs.format.OneLine.{has_lf-compact_text}
use Rattle.qa_format.proofs.verdicts.Cuts.{lines_at_lf}
use Rattle.qa_convert.specs.OwnKeys.{AreOwn, IsWritten, Noted, followed, noted, texts_of}
use Rattle.qa_convert.proofs.PassedOver.{follow_kept, header_kept, kept-followed, noted_reads}

append_none : (xs ys : List ℕ) → has_lf xs ≡ false → has_lf ys ≡ false → has_lf (xs ++ ys) ≡ false
append_none [] ys first second = second
append_none (x ∷ xs) ys first second =
    let parts = or_parts (is_lf x) (has_lf xs) first in
    or_from (is_lf x) (has_lf (xs ++ ys)) parts.0 (append_none xs ys parts.1 second)

comma_none : (later : Bool) → has_lf (comma_if later) ≡ false
comma_none true = refl
comma_none false = refl

members_none : (later : Bool) (ms : Members) → AreKept ms → has_lf (members_text later ms) ≡ false
members_none later no_members kept = refl
members_none later (member k d ms) kept =
    append_none (comma_if later) _ (comma_none later)
    (append_none (quoted k) (58 ∷ (compact_text d ++ members_text true ms)) (has_lf-compact_text (string k) kept.0)
    (append_none (compact_text d) (members_text true ms) (has_lf-compact_text d kept.1.simple) (members_none true ms kept.2)))

pub noted_has_no_lf : (x : Line) (own : Members) → IsProperLine x → AreOwn own → has_lf (noted x own) ≡ false
noted_has_no_lf line.Blank own proper are = refl
noted_has_no_lf (line.Header s) own proper are =
    members_none false (followed (members (header_pairs s)) own) (kept-followed (members (header_pairs s)) own (header_kept s proper) are)
noted_has_no_lf (line.Event e) own proper are =
    members_none false (followed (members (event_pairs e)) own) (kept-followed (members (event_pairs e)) own (follow_kept (event_pairs e) (event_follows e proper)) are)

-- ---- a trace

are_short : (ns : List Noted) → AllByRecursion IsWritten ns → AllByRecursion IsShortLine (texts_of ns)
are_short [] all = tt
are_short (n ∷ ns) all = ((noted_has_no_lf n.0 n.1 all.0.0 all.0.1, all.0.2), are_short ns all.1)

pub lines_of_texts : (ns : List Noted) → AllByRecursion IsWritten ns → lines (ended (texts_of ns)) ≡ texts_of ns
lines_of_texts ns all = lines_at_lf (texts_of ns) [] (ended (texts_of ns)) (are_short ns all) (sym (append-nil (ended (texts_of ns)))) refl

each_reads : (ns : List Noted) → AllByRecursion IsWritten ns → map reading (texts_of ns) ≡ map (λ n. Ok n.0) ns
each_reads [] all = refl
each_reads (n ∷ ns) all = ap₂ (λ r rs. r ∷ rs) (noted_reads n.0 n.1 all.0.0 all.0.1) (each_reads ns all.1)

pub texts_read : (ns : List Noted) → AllByRecursion IsWritten ns → map reading (lines (ended (texts_of ns))) ≡ map (λ n. Ok n.0) ns
texts_read ns all = ap (map reading) (lines_of_texts ns all) ∙ each_reads ns all
