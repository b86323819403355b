-- What is told of lines, and of bytes that are put behind others.
use Rattle.std.proofs.Common.{◌≡◌, ◌∙◌, ◌+◌, ◌<◌, inl, inr, ℕ, List, [], ◌∷◌, ◌++◌, length, Bool, true, false, cond, Option, Some, None, Result, Err, append_assoc, is_some, refl, sym, ap, arith}
use Rattle.std.proofs.lemmas.Bool.{lt-ltb}
use Rattle.std.proofs.lemmas.List.{append-nil}
use Rattle.std.specs.List.{AllByRecursion}
use Rattle.std.specs.Prelude.{nat_le, nat_lt, option_map}
use Rattle.qa_base.specs.machine.Packets.{history_of}
use Rattle.qa_base.specs.machine.State.{totals}
use Rattle.qa_check.specs.Audit.{ReadsEnoughBy}
use Rattle.qa_format.specs.declared.fault.Fault.{Fault}
use Rattle.qa_format.specs.declared.fault.Fault.TheVariants.{LineTooLong, TooManyLines}
use Rattle.qa_format.specs.declared.line.Line.{Line}
use Rattle.qa_format.specs.format.Lines.{line_limit, cut, ended_lines, unended, last_line, lines, ended, IsShortLine}
use Rattle.qa_format.specs.format.Reading.{reading}
use Rattle.qa_format.specs.verdicts.Verdict.{Judging, Reading, header_in, events_in, said, stop_after, first_stop, verdict_of, verdict, unreadable, AreGood, AreDecided, IsFixed}
use Rattle.qa_format.proofs.verdicts.Cuts.{lines_append, last_line_at, first_line, first_line_is_long, first_line_stands}
use Rattle.qa_format.proofs.verdicts.Fixed.{fixed_by_length, fixed_stays}
use Rattle.qa_format.proofs.verdicts.Stops.{first_stop-snoc, no_stop_or_stop, verdict_at_stop, verdict_stays}
use Rattle.qa_cut.specs.Stream.{BeginsTooLong}
use Rattle.qa_why.specs.Texts.{seen, unreadable_text}
use Rattle.qa_check.specs.Places.{good_lines, judged_at}
use Rattle.qa_why.specs.Why.{told_at, unreadable_in, why_by}
use Rattle.qa_format.specs.declared.form.Form.{Form}
use Rattle.qa_format.specs.declared.form.Form.TheVariants as forms
use Rattle.qa_check.proofs.Judged.{judged_stays, place_at_end, place_at_line}
pub use Rattle.qa_check.proofs.Judged.{good_at_end, good_at_line, good_stays, told_alike, told_good, told_verdict}

-- ---- at a line, and at the end

-- a line that is not good, behind good ones
pub why_at_line : (judging : Judging) (form : Form) (name bytes : List ℕ) (ls more : List (List ℕ)) (l : List ℕ) → AreGood judging ls → AreDecided judging (ls ++ l ∷ []) → lines bytes ≡ (ls ++ l ∷ []) ++ more
    → verdict_of judging (ls ++ l ∷ []) ≡ verdict judging bytes
    → why_by judging form name bytes ≡ told_at judging form name (verdict_of judging (ls ++ l ∷ [])) (ls, Some l)
unfolding why_by
why_at_line judging form name bytes ls more l good bad are same =
    let place = place_at_line judging bytes ls more l good bad are in
    ap (told_at judging form name (verdict judging bytes)) place ∙ ap (λ v. told_at judging form name v (ls, Some l)) (sym same)

-- good lines are all
pub why_at_end : (judging : Judging) (form : Form) (name bytes : List ℕ) (ls : List (List ℕ)) → AreGood judging ls → lines bytes ≡ ls
    → why_by judging form name bytes ≡ told_at judging form name (verdict_of judging ls) (ls, None)
unfolding why_by
why_at_end judging form name bytes ls good are =
    let place = place_at_end judging bytes ls good are in
    ap (told_at judging form name (verdict judging bytes)) place ∙ ap (λ (all : List (List ℕ)). told_at judging form name (verdict_of judging all) (ls, None)) are

-- ---- lines that are too long

-- where a line is too long, it is not shown
hidden_either : (many : Bool) → (f : Fault) × (cond {A = Result Line Fault} many (Err TooManyLines) (Err LineTooLong) ≡ Err f) × ((line : Option (List ℕ)) → seen f line ≡ None)
hidden_either true = (TooManyLines, refl, λ line. refl)
hidden_either false = (LineTooLong, refl, λ line. refl)

hidden_said : (reading : Reading) (n : ℕ) (l : List ℕ) → line_limit < length l → (f : Fault) × (said reading n l ≡ Err f) × ((line : Option (List ℕ)) → seen f line ≡ None)
unfolding said
hidden_said reading n l long =
    let is : nat_lt 65536 (length l) ≡ true = lt-ltb 65536 (length l) long in
    rw is (hidden_either (nat_le 4294967295 n))

pub hidden_stop : (judging : Judging) (ls : List (List ℕ)) (l : List ℕ) → line_limit < length l
    → (f : Fault) × (stop_after judging ls l ≡ Some (unreadable (length ls + 1) (header_in judging.says ls) (history_of (events_in judging.says ls)) f)) × ((line : Option (List ℕ)) → seen f line ≡ None)
unfolding stop_after
hidden_stop judging ls l long = let said_so = hidden_said judging.says (length ls) l long in (said_so.0, rw said_so.1 refl, said_so.2)

pub same_hidden : (form : Form) (name : List ℕ) (n : ℕ) (f : Fault) (headed : Bool) (line : Option (List ℕ)) → ((line : Option (List ℕ)) → seen f line ≡ None)
    → unreadable_in form name n f headed line ≡ unreadable_in form name n f headed None
unfolding unreadable_text
same_hidden forms.Text name n f headed line hides = rw (hides line, hides None) refl
same_hidden forms.Json name n f headed line hides = refl

-- so nothing of it is told
pub told_long : (judging : Judging) (form : Form) (name : List ℕ) (ls : List (List ℕ)) (l : List ℕ) (line : Option (List ℕ)) → AreGood judging ls → line_limit < length l
    → told_at judging form name (verdict_of judging (ls ++ l ∷ [])) (ls, line) ≡ told_at judging form name (verdict_of judging (ls ++ l ∷ [])) (ls, None)
told_long judging form name ls l line good long =
    let stop = hidden_stop judging ls l long in
    let v = unreadable (length ls + 1) (header_in judging.says ls) (history_of (events_in judging.says ls)) stop.0 in
    let bad : first_stop judging [] (ls ++ l ∷ []) ≡ Some v = first_stop-snoc judging [] ls l good ∙ stop.1 in
    let is : verdict_of judging (ls ++ l ∷ []) ≡ v = verdict_at_stop judging (ls ++ l ∷ []) v bad in
    rw is (same_hidden form name (length ls + 1) stop.0 (is_some (option_map (λ c. totals c (history_of (events_in judging.says ls))) (header_in judging.says ls))) line stop.2)

pub why_at_long : (judging : Judging) (form : Form) (name bytes rest : List ℕ) (ls : List (List ℕ)) (b : BeginsTooLong rest) → AllByRecursion IsShortLine ls → AreGood judging ls → bytes ≡ ended ls ++ rest
    → AreDecided judging (ls ++ first_line b.0 (cut b.1) ∷ [])
    → IsFixed judging bytes × (verdict_of judging (ls ++ first_line b.0 (cut b.1) ∷ []) ≡ verdict judging bytes)
    × (why_by judging form name bytes ≡ told_at judging form name (verdict_of judging (ls ++ first_line b.0 (cut b.1) ∷ [])) (ls, None))
    × (good_lines judging bytes ≡ ls)
why_at_long judging form name bytes rest ls b short good are bad =
    let l = first_line b.0 (cut b.1) in
    let fixed = fixed_by_length judging ls b.0 b.1 rest bytes short are b.4 b.2 b.3 bad in
    let long = first_line_is_long b.0 (cut b.1) b.3 in
    (fixed.0, fixed.1, why_at_line judging form name bytes ls fixed.2 l good bad fixed.3 fixed.1 ∙ told_long judging form name ls l (Some l) good long, good_at_line judging bytes ls fixed.2 l good bad fixed.3)

-- ---- bytes behind those that fix the verdict

stays_by_line : (judging : Judging) (form : Form) (name f g : List ℕ) → AreDecided judging (ended_lines f) → IsFixed judging f → why_by judging form name (f ++ g) ≡ why_by judging form name f
unfolding why_by
stays_by_line judging form name f g bad fixed =
    let more = ap (judged_at judging []) (lines_append f g) ∙ judged_stays judging [] (ended_lines f) _ bad in
    let own = judged_stays judging [] (ended_lines f) (last_line (unended f)) bad in
    ap (told_at judging form name (verdict judging (f ++ g))) (more ∙ sym own) ∙ ap (λ v. told_at judging form name v (judged_at judging [] (lines f))) (fixed_stays judging f g fixed)

told_of_long : (judging : Judging) (form : Form) (name bytes : List ℕ) (ls more : List (List ℕ)) (l : List ℕ) → AreGood judging ls → line_limit < length l → lines bytes ≡ (ls ++ l ∷ []) ++ more
    → verdict_of judging (ls ++ l ∷ []) ≡ verdict judging bytes → why_by judging form name bytes ≡ told_at judging form name (verdict judging bytes) (ls, None)
told_of_long judging form name bytes ls more l good long are same =
    let stop = hidden_stop judging ls l long in
    let v = unreadable (length ls + 1) (header_in judging.says ls) (history_of (events_in judging.says ls)) stop.0 in
    let bad : first_stop judging [] (ls ++ l ∷ []) ≡ Some v = first_stop-snoc judging [] ls l good ∙ stop.1 in
    let decided : AreDecided judging (ls ++ l ∷ []) = rw bad refl in
    why_at_line judging form name bytes ls more l good decided are same
    ∙ (told_long judging form name ls l (Some l) good long ∙ ap (λ k. told_at judging form name k (ls, None)) same)

-- the verdict of lines behind good ones that begin with one that is too long
verdict_of_long : (judging : Judging) (ls more : List (List ℕ)) (l : List ℕ) → AreGood judging ls → line_limit < length l → verdict_of judging (ls ++ l ∷ []) ≡ verdict_of judging ((ls ++ l ∷ []) ++ more)
verdict_of_long judging ls more l good long =
    let stop = hidden_stop judging ls l long in
    let v = unreadable (length ls + 1) (header_in judging.says ls) (history_of (events_in judging.says ls)) stop.0 in
    let bad : first_stop judging [] (ls ++ l ∷ []) ≡ Some v = first_stop-snoc judging [] ls l good ∙ stop.1 in
    let decided : AreDecided judging (ls ++ l ∷ []) = rw bad refl in
    sym (verdict_stays judging (ls ++ l ∷ []) more decided)

told_by_long : (judging : Judging) (form : Form) (name bytes : List ℕ) (ls more : List (List ℕ)) (l : List ℕ) → AreGood judging ls → line_limit < length l → lines bytes ≡ (ls ++ l ∷ []) ++ more
    → why_by judging form name bytes ≡ told_at judging form name (verdict judging bytes) (ls, None)
told_by_long judging form name bytes ls more l good long are =
    told_of_long judging form name bytes ls more l good long are (verdict_of_long judging ls more l good long ∙ sym (ap (verdict_of judging) are))

stays_by_length : (judging : Judging) (form : Form) (name f g : List ℕ) → line_limit < length (unended f) → AreGood judging (ended_lines f) → IsFixed judging f → why_by judging form name (f ++ g) ≡ why_by judging form name f
stays_by_length judging form name f g long good fixed =
    let ls = ended_lines f in
    let next = first_line_stands (unended f) (cut g) long in
    let l = first_line (unended f) (cut g) in
    let longer : lines (f ++ g) ≡ (ls ++ l ∷ []) ++ next.0 = lines_append f g ∙ (ap (λ k. ls ++ k) next.1 ∙ sym (append_assoc ls (l ∷ []) next.0)) in
    let own : lines f ≡ (ls ++ unended f ∷ []) ++ [] = ap (λ k. ls ++ k) (last_line_at (unended f) (omega arith)) ∙ sym (append-nil (ls ++ unended f ∷ [])) in
    told_by_long judging form name (f ++ g) ls next.0 l good (first_line_is_long (unended f) (cut g) long) longer
    ∙ (ap (λ k. told_at judging form name k (ls, None)) (fixed_stays judging f g fixed)
    ∙ sym (told_by_long judging form name f ls [] (unended f) good long own))

stays : (judging : Judging) (form : Form) (name f g : List ℕ) → IsFixed judging f → IsFixed judging f → why_by judging form name (f ++ g) ≡ why_by judging form name f
stays judging form name f g fixed by = elim by [
  | inl bad ↦ stays_by_line judging form name f g bad fixed
  | inr long ↦ elim (no_stop_or_stop (first_stop judging [] (ended_lines f))) [
    | inl good ↦ stays_by_length judging form name f g long good fixed
    | inr bad ↦ stays_by_line judging form name f g bad fixed
  ]
]

-- it stays, whatever follows
pub why_stays : (judging : Judging) (form : Form) (name f g : List ℕ) → IsFixed judging f → why_by judging form name (f ++ g) ≡ why_by judging form name f
why_stays judging form name f g fixed = stays judging form name f g fixed fixed

-- ---- what was read, and all the bytes that a reader tells

-- what is told of them
pub told_why : {last : ℕ} (judging : Judging) (form : Form) (name : List ℕ) (old new : Option (List ℕ)) (read bytes : List ℕ) → old ≡ Some bytes → ReadsEnoughBy judging old new last read
    → why_by judging form name bytes ≡ why_by judging form name read
told_why judging form name old new read bytes tells enough =
    told_alike judging (why_by judging form name) (why_stays judging form name) old new read bytes tells enough
