-- The texts that are handed on, one after another, are the next of their log.
use Rattle.std.proofs.Common.{◌≡◌, ℕ, Bool, List, [], ◌∷◌, ◌++◌, map, refl}
use Rattle.std.proofs.lemmas.List.{append_assoc, append-nil}
use Rattle.qa_qlog.specs.Cuts.{Cut, Uncut}
use Rattle.qa_qlog.specs.Cutting.{Takes}
use Rattle.qa_qlog.specs.Holding.{Holds}
use Rattle.qa_qlog.specs.Standing.{Stands}
use Rattle.qa_qlog.specs.Taking.{TakesText}
use Rattle.qa_qlog.specs.Texts.{Numbered, Rest}
use Rattle.qa_qlog.specs.declared.texts.Mark.{Mark}
use Rattle.qa_logs.specs.Cutting.{Given, NextRecord, NextText, Steps, of_record, of_text}

-- the laws of a text and of a record
abbrev pub TextLaw : Type 0
TextLaw = (taken : List Numbered) (old new : Rest) (text : Numbered) (log : List ℕ) → TakesText old text new → Stands taken old log → Stands (taken ++ text ∷ []) new log

abbrev pub RecordLaw : Type 0
RecordLaw = (taken : List Cut) (old new : Uncut) (cut : Cut) (log : List ℕ) → Takes old cut new → Holds taken old log → Holds (taken ++ cut ∷ []) new log

pub texts_of : TextLaw → (mark : Mark) (is_last : Bool) (old new : Rest) (ts : List Given) (taken : List Numbered) (log : List ℕ) → Steps (NextText mark is_last) old ts new → Stands taken old log → (more : List Numbered) × (ts ≡ map (of_text mark is_last) more) × Stands (taken ++ more) new log
texts_of law mark is_last old new [] taken log same stands = ([], refl, rw same (rw (append-nil taken) stands))
texts_of law mark is_last old new (t ∷ ts) taken log steps stands =
    let text = steps.1.0 in
    let next = law taken old steps.0 text log steps.1.1 stands in
    let rest = texts_of law mark is_last steps.0 new ts (taken ++ text ∷ []) log steps.2 next in
    (text ∷ rest.0, rw steps.1.2 (rw rest.1 refl), rw (← append_assoc taken (text ∷ []) rest.0) rest.2)

pub records_of : RecordLaw → (old new : Uncut) (ts : List Given) (taken : List Cut) (log : List ℕ) → Steps NextRecord old ts new → Holds taken old log → (more : List Cut) × (ts ≡ map of_record more) × Holds (taken ++ more) new log
records_of law old new [] taken log same holds = ([], refl, rw same (rw (append-nil taken) holds))
records_of law old new (t ∷ ts) taken log steps holds =
    let cut = steps.1.0 in
    let next = law taken old steps.0 cut log steps.1.1 holds in
    let rest = records_of law steps.0 new ts (taken ++ cut ∷ []) log steps.2 next in
    (cut ∷ rest.0, rw steps.1.2 (rw rest.1 refl), rw (← append_assoc taken (cut ∷ []) rest.0) rest.2)
