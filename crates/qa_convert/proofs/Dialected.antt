-- Marks in texts.
use Rattle.std.proofs.Common.{◌≡◌, ◌∙◌, ◌+◌, ◌<◌, ◌↔◌, ℕ, List, false, Bool, IsTrue, length, drop, take, map, nat_eq, refl, ap, sym}
use Rattle.std.proofs.lemmas.Bool.Decides.{same_from_decides, Decides-like, Decides-eqb}
use Rattle.std.proofs.lemmas.List.{drop-map, length-map, take-map}
use Rattle.std.proofs.lemmas.Slice.Eq.{slice_eq-Decides}
use Rattle.std.specs.Char.{to_ascii_lowercase}
use Rattle.std.specs.List.{starts_with}
use Rattle.std.specs.Str.{str_to_ascii_lowercase}
use Rattle.qa_qlog.specs.Secrets.{occurs}
use Rattle.qa_qlog.proofs.Keyed.{passed}
use Rattle.qa_convert.specs.Dialects.{begins_with, has_mark}

-- a text begins with a mark if so many of its letters are those of the mark, but for their case
pub begins : (r : Bool) (mark text : List ℕ) → (IsTrue r ↔ (map to_ascii_lowercase (take (length mark) text) ≡ map to_ascii_lowercase mark)) → r ≡ begins_with mark text
begins r mark text test =
    let small = str_to_ascii_lowercase mark in
    let same : take (length small) (str_to_ascii_lowercase text) ≡ map to_ascii_lowercase (take (length mark) text) =
    ap (λ n. take n (str_to_ascii_lowercase text)) (length-map mark to_ascii_lowercase) ∙ take-map to_ascii_lowercase (length mark) text in
    let is = slice_eq-Decides Decides-eqb small (take (length small) (str_to_ascii_lowercase text)) (begins_with mark text) refl in
    same_from_decides r (begins_with mark text) test (Decides-like (begins_with mark text) (λ e. sym same ∙ sym e) (λ e. sym e ∙ sym same) is)

-- a mark that does not begin here is in the rest, or nowhere from here on
pub mark_passed : (mark text : List ℕ) (i : ℕ) → i < length text → begins_with mark (drop i text) ≡ false → has_mark mark (drop (i + 1) text) ≡ has_mark mark (drop i text)
mark_passed mark text i within not_here =
    let small = str_to_ascii_lowercase mark in
    let here = drop-map to_ascii_lowercase i text in
    let next = drop-map to_ascii_lowercase (i + 1) text in
    let inside : i < length (str_to_ascii_lowercase text) = rw length-map within in
    let e = passed small (str_to_ascii_lowercase text) i inside (ap (λ bs. starts_with nat_eq bs small) here ∙ not_here) in
    ap (occurs small) (sym next) ∙ e ∙ ap (occurs small) here
