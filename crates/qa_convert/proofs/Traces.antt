-- Lines of events, one after another.
use Rattle.std.proofs.Common.{◌≡◌, ◌∙◌, ℕ, List, [], ◌∷◌, ◌++◌, Ok, Result, map, append-nil, append_assoc, refl, sym, ap, ap₂}
use Rattle.std.proofs.lemmas.List.Sums.{fold-append}
use Rattle.std.specs.List.{AllByRecursion, fold}
use Rattle.serde_json.specs.Data.{Members}
use Rattle.qa_convert.proofs.Marked.{noted_marks}
use Rattle.qa_convert.proofs.OneLine.{lines_of_texts}
use Rattle.qa_convert.proofs.PassedOver.{noted_reads}
use Rattle.qa_convert.specs.Marks.{Marks, marks_in}
use Rattle.qa_convert.specs.OwnKeys.{AreEventLines, IsOfEvent, IsWritten, IsWrittenEvent, Noted, noted, own_text, texts_of}
use Rattle.qa_convert.specs.Telling.{heard, nothing, told, with_line}
use Rattle.qa_format.specs.declared.fault.Fault.{Fault}
use Rattle.qa_format.specs.declared.line.Line.{Line}
use Rattle.qa_format.specs.declared.line.Line.TheVariants as line
use Rattle.qa_format.specs.format.Lines.{ended, with_lf}

all_and : (ns : List Noted) (n : Noted) → AllByRecursion IsWrittenEvent ns → IsWrittenEvent n → AllByRecursion IsWrittenEvent (ns ++ n ∷ [])
all_and [] n all one = (one, tt)
all_and (m ∷ ns) n all one = (all.0, all_and ns n all.1 one)

ended_and : (ns : List Noted) (n : Noted) → ended (texts_of (ns ++ n ∷ [])) ≡ ended (texts_of ns) ++ with_lf (noted n.0 n.1)
ended_and [] n = append-nil (with_lf (noted n.0 n.1))
ended_and (m ∷ ns) n =
    ap (λ bs. with_lf (noted m.0 m.1) ++ bs) (ended_and ns n)
    ∙ sym (append_assoc (with_lf (noted m.0 m.1)) (ended (texts_of ns)) (with_lf (noted n.0 n.1)))

pub one_more : (bytes : List ℕ) (n : Noted) → AreEventLines bytes → IsWrittenEvent n → AreEventLines (bytes ++ with_lf (noted n.0 n.1))
one_more bytes n are one =
    (are.0 ++ n ∷ [], all_and are.0 n are.1 one, ap (λ bs. bs ++ with_lf (noted n.0 n.1)) are.2 ∙ sym (ended_and are.0 n))

pub none : AreEventLines []
none = ([], tt, refl)

-- ---- what a reader reads of them

are_written : (ns : List Noted) → AllByRecursion IsWrittenEvent ns → AllByRecursion IsWritten ns
are_written [] all = tt
are_written (n ∷ ns) all = (all.0.1, are_written ns all.1)

said : Noted → Result Line Fault × Marks
said n = (Ok n.0, marks_in (own_text n.1))

one_heard : (x : Line) (own : Members) → IsOfEvent x → IsWritten (x, own) → heard (noted x own) ≡ said (x, own)
unfolding said
one_heard line.Blank own is written = absurd is
one_heard (line.Header s) own is written = absurd is
one_heard (line.Event e) own is written =
    ap₂ (λ r m. (r, m)) (noted_reads (line.Event e) own written.0 written.1) (noted_marks e own written.0 written.1)

each_heard : (ns : List Noted) → AllByRecursion IsWrittenEvent ns → map heard (texts_of ns) ≡ map said ns
each_heard [] all = refl
each_heard (n ∷ ns) all = ap₂ (λ h hs. h ∷ hs) (one_heard n.0 n.1 all.0.0 all.0.1) (each_heard ns all.1)

told_of_lines : (ns : List Noted) → AllByRecursion IsWrittenEvent ns → told (ended (texts_of ns)) ≡ fold with_line nothing (map said ns)
unfolding told
told_of_lines ns all =
    ap (λ texts. fold with_line nothing (map heard texts)) (lines_of_texts ns (are_written ns all)) ∙ ap (fold with_line nothing) (each_heard ns all)

map_and : (ns : List Noted) (n : Noted) → map said (ns ++ n ∷ []) ≡ map said ns ++ said n ∷ []
map_and [] n = refl
map_and (m ∷ ns) n = ap (λ rs. said m ∷ rs) (map_and ns n)

told_and : (ns : List Noted) (n : Noted) → AllByRecursion IsWrittenEvent ns → IsWrittenEvent n
    → told (ended (texts_of (ns ++ n ∷ []))) ≡ with_line (told (ended (texts_of ns))) (said n)
told_and ns n all one =
    told_of_lines (ns ++ n ∷ []) (all_and ns n all one)
    ∙ ap (fold with_line nothing) (map_and ns n)
    ∙ fold-append with_line nothing (map said ns) (said n ∷ [])
    ∙ ap (λ t. with_line t (said n)) (sym (told_of_lines ns all))

-- one line more tells what it says
pub one_more_told : (bytes : List ℕ) (n : Noted) → AreEventLines bytes → IsWrittenEvent n
    → told (bytes ++ with_lf (noted n.0 n.1)) ≡ with_line (told bytes) (Ok n.0, marks_in (own_text n.1))
unfolding said
one_more_told bytes n are one =
    ap told (ap (λ bs. bs ++ with_lf (noted n.0 n.1)) are.2 ∙ sym (ended_and are.0 n))
    ∙ told_and are.0 n are.1 one
    ∙ ap (λ bs. with_line (told bs) (Ok n.0, marks_in (own_text n.1))) (sym are.2)
