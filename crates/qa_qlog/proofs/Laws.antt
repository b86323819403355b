-- How each call keeps what the texts that were returned stand for.
use Rattle.std.proofs.Common.{◌≡◌, ◌∙◌, ℕ, List, [], ◌∷◌, ◌++◌, true, false, None, Some, refl, sym, ap, append_assoc, append-nil}
use Rattle.qa_qlog.specs.Standing.{after, Stands, fed, closed}
use Rattle.qa_qlog.specs.Taking.{MayFollow, IsTooLong, Lacks, TakesText}
use Rattle.qa_qlog.specs.Texts.{Numbered, Read, Rest, pieces, put_text, texts_from, texts_by, left}
use Rattle.qa_qlog.specs.declared.texts.TextFault.TheVariants.{TooLong}

pub begins : (rest : Rest) → rest.uncut.bytes ≡ [] → rest.line ≡ 1 → Stands [] rest []
begins rest none first more follows =
    ap (λ n. texts_from rest.uncut.mark n (pieces rest.uncut.mark more)) (sym first)
    ∙ ap (λ bytes. texts_from rest.uncut.mark rest.line (pieces rest.uncut.mark (bytes ++ more))) (sym none)

pub feeds : (taken : List Numbered) (rest : Rest) (log part : List ℕ) → rest.uncut.closed ≡ false → Stands taken rest log → Stands taken (fed rest part) (log ++ part)
feeds taken rest log part ready h more follows =
    let may : MayFollow rest (part ++ more) = λ shut. cc in
    ap (texts_by rest.uncut.mark) (append_assoc log part more)
    ∙ h (part ++ more) may
    ∙ ap (λ bytes. after taken (texts_from rest.uncut.mark rest.line (pieces rest.uncut.mark bytes))) (sym (append_assoc rest.uncut.bytes part more))

pub closes : (taken : List Numbered) (rest : Rest) (log : List ℕ) → Stands taken rest log → Stands taken (closed rest) log
closes taken rest log h more follows = h more (λ shut. follows refl)

one_more : (taken : List Numbered) (text : Numbered) (read : Read) → after taken (put_text text read) ≡ after (taken ++ text ∷ []) read
one_more taken text read = ap (λ (texts : List Numbered). (texts, read.1)) (sym (append_assoc taken (text ∷ []) read.0))

pub takes : (taken : List Numbered) (old new : Rest) (text : Numbered) (log : List ℕ) → TakesText old text new → Stands taken old log → Stands (taken ++ text ∷ []) new log
takes taken old new text log is h more follows =
    let may : MayFollow old more = λ shut. follows (is.closed ∙ shut) in
    ap (λ m. texts_by m (log ++ more)) is.mark ∙ h more may ∙ ap (after taken) (is.left more may) ∙ one_more taken text (left new more)

pub keeps : (taken : List Numbered) (old new : Rest) (log : List ℕ) → Lacks old new → Stands taken old log → Stands taken new log
keeps taken old new log is h more follows =
    let may : MayFollow old more = λ shut. follows (is.keeps.closed ∙ shut) in
    ap (λ m. texts_by m (log ++ more)) is.keeps.mark ∙ h more may ∙ ap (after taken) (is.keeps.left more may)

nothing_left : (rest : Rest) → rest.uncut.bytes ≡ [] → left rest [] ≡ ([], None)
nothing_left rest none = ap (λ bytes. texts_from rest.uncut.mark rest.line (pieces rest.uncut.mark (bytes ++ []))) none

whole : (taken : List Numbered) (rest : Rest) (log : List ℕ) → Stands taken rest log → texts_by rest.uncut.mark log ≡ after taken (left rest [])
whole taken rest log h = ap (texts_by rest.uncut.mark) (sym (append-nil log)) ∙ h [] (λ shut. refl)

pub ends : (taken : List Numbered) (old new : Rest) (log : List ℕ) → Lacks old new → old.uncut.closed ≡ true → Stands taken old log → texts_by old.uncut.mark log ≡ (taken, None)
ends taken old new log is shut h =
    let none : left old [] ≡ ([], None) = is.keeps.left [] (λ s. refl) ∙ nothing_left new (is.none.1 (is.keeps.closed ∙ shut)) in
    whole taken old log h ∙ ap (after taken) none ∙ ap (λ (texts : List Numbered). (texts, None)) (append-nil taken)

pub stops : (taken : List Numbered) (old : Rest) (n : ℕ) (log : List ℕ) → IsTooLong old (TooLong n) → Stands taken old log
    → (more : List ℕ) → MayFollow old more → texts_by old.uncut.mark (log ++ more) ≡ (taken, Some n)
stops taken old n log is h more follows =
    h more follows ∙ ap (after taken) (is more follows) ∙ ap (λ (texts : List Numbered). (texts, Some n)) (append-nil taken)
