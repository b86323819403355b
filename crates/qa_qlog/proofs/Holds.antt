-- How each call keeps what the records that were returned are of a log.
use Rattle.std.proofs.Common.{◌≡◌, ◌≢◌, ◌∙◌, ℕ, List, [], ◌∷◌, ◌++◌, Ok, Err, refl, sym, ap, append_assoc, append-nil}
use Rattle.std.specs.Prelude.{Result, Option}
use Rattle.qa_qlog.specs.Cuts.{Cut, Cuts, Uncut, cuts, cuts_of, empty, ended_by, put, skeleton_of, unread}
use Rattle.qa_qlog.specs.Cutting.{Fails, Lacks, Takes, left}
use Rattle.qa_qlog.specs.Holding.{Holds, behind_those, fed}
use Rattle.qa_qlog.specs.declared.cutter.CutFault.{CutFault}
use Rattle.qa_qlog.specs.declared.cutter.CutFault.TheVariants.{OutOfMemory}

pub begins : Holds [] empty []
begins more = refl

pub feeds : (taken : List Cut) (rest : Uncut) (log part : List ℕ) → Holds taken rest log → Holds taken (fed rest part) (log ++ part)
feeds taken rest log part h more =
    ap (cuts unread) (append_assoc log part more)
    ∙ h (part ++ more)
    ∙ ap (λ bytes. behind_those taken (cuts rest.state bytes)) (sym (append_assoc rest.bytes part more))

one_more : (taken : List Cut) (cut : Cut) (found : Cuts) → behind_those taken (put cut found) ≡ behind_those (taken ++ cut ∷ []) found
one_more taken cut found = ap (λ (records : List Cut). (records, found.1)) (sym (append_assoc taken (cut ∷ []) found.0))

pub takes : (taken : List Cut) (old new : Uncut) (cut : Cut) (log : List ℕ) → Takes old cut new → Holds taken old log → Holds (taken ++ cut ∷ []) new log
takes taken old new cut log is h more =
    h more ∙ ap (behind_those taken) (is.left more) ∙ one_more taken cut (left new more)

pub lacks : (taken : List Cut) (old new : Uncut) (log : List ℕ) → Lacks old new → Holds taken old log → Holds taken new log
lacks taken old new log is h more = h more ∙ ap (behind_those taken) (is.keeps.left more)

abbrev outcome : Cuts → List Cut × Result (List ℕ × Option ℕ) CutFault
outcome found = (found.0, ended_by found.1)

pub ends : (taken : List Cut) (old new : Uncut) (log : List ℕ) → Lacks old new → Holds taken old log → cuts_of log ≡ (taken, skeleton_of new.state)
ends taken old new log is h =
    let all : cuts unread log ≡ behind_those taken (left new []) = ap (cuts unread) (sym (append-nil log)) ∙ lacks taken old new log is h [] in
    let nothing : left new [] ≡ ([], Ok new.state) = ap (λ bytes. cuts new.state (bytes ++ [])) is.none in
    ap outcome (all ∙ ap (behind_those taken) nothing) ∙ ap (λ (records : List Cut). (records, skeleton_of new.state)) (append-nil taken)

pub stops : (taken : List Cut) (old new : Uncut) (fault : CutFault) (log : List ℕ) → Fails old fault new → fault ≢ OutOfMemory → Holds taken old log
    → (more : List ℕ) → cuts_of (log ++ more) ≡ (taken, Err fault)
stops taken old new fault log is known h more =
    ap outcome (h more ∙ ap (behind_those taken) (is.why known more)) ∙ ap (λ (records : List Cut). (records, Err fault)) (append-nil taken)
