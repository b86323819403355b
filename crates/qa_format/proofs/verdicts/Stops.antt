-- The first line that is not good, where lines are put behind others.
use Rattle.std.proofs.Common.{◌≡◌, ◌∙◌, ◌+◌, ◌<◌, ◌≤◌, ◌⊎◌, inl, inr, ℕ, List, [], ◌∷◌, ◌++◌, length, Bool, true, false, cond, Option, Some, None, Result, Ok, Err, refl, sym, ap, arith, append_assoc, length-append}
use Rattle.std.proofs.lemmas.Bool.{leb-false}
use Rattle.std.proofs.lemmas.List.{append-nil}
use Rattle.std.specs.List.{AllByRecursion}
use Rattle.std.specs.Option.{option_or}
use Rattle.std.specs.Prelude.{nat_le, nat_lt, IsSome}
use Rattle.qa_base.specs.declared.event.Event.{Event}
use Rattle.qa_format.specs.declared.line.Line.{Line}
use Rattle.qa_format.specs.declared.fault.Fault.{Fault}
use Rattle.qa_format.specs.declared.verdict.Verdict.{Verdict}
use Rattle.qa_base.specs.values.Limits.{max_lines}
use Rattle.qa_format.specs.format.Lines.{line_limit}
use Rattle.qa_base.specs.machine.Packets.{history_of}
use Rattle.qa_base.specs.values.Settings.{Settings}
use Rattle.qa_format.specs.verdicts.Verdict.{Breaking, Judging, Reading, header_said, header_in, events_in, said, stop_at, stop_after, first_stop, verdict_of, AreDecided, IsWithinLimit}

-- ---- which of two stops comes first

pub or_none : {A : Type 0} → (o : Option A) → option_or o None ≡ o
or_none None = refl
or_none (Some x) = refl

pub or_assoc : {A : Type 0} → (o p q : Option A) → option_or o (option_or p q) ≡ option_or (option_or o p) q
or_assoc None p q = refl
or_assoc (Some x) p q = refl

pub or_parts : {A : Type 0} → (o p : Option A) → option_or o p ≡ None → (o ≡ None) × (p ≡ None)
or_parts None p h = (refl, h)
or_parts (Some x) p h = cc

-- a later stop counts where there is none before it
later : (o p q : Option Verdict) {r : Option Verdict} → option_or o p ≡ None → (p ≡ None → q ≡ r) → option_or o q ≡ r
later None p q h f = f h
later (Some v) p q h f = cc

-- a stop stays, whatever comes later
kept : (o p q : Option Verdict) {v : Verdict} → option_or o p ≡ Some v → (p ≡ Some v → q ≡ Some v) → option_or o q ≡ Some v
kept None p q h f = f h
kept (Some w) p q h f = h

-- what one more line does, where those before it are good
pub first_stop-snoc : (judging : Judging) (before ls : List (List ℕ)) (l : List ℕ) → first_stop judging before ls ≡ None
    → first_stop judging before (ls ++ l ∷ []) ≡ stop_after judging (before ++ ls) l
first_stop-snoc judging before [] l h = rw append-nil (or_none (stop_after judging before l))
first_stop-snoc judging before (m ∷ ls) l h =
    later (stop_after judging before m) (first_stop judging (before ++ m ∷ []) ls) _ h
    (λ e. rw append_assoc at (first_stop-snoc judging (before ++ m ∷ []) ls l e))

-- lines after one that is not good change nothing
pub first_stop-append : (judging : Judging) (before ls ms : List (List ℕ)) {v : Verdict} → first_stop judging before ls ≡ Some v
    → first_stop judging before (ls ++ ms) ≡ Some v
first_stop-append judging before [] ms h = cc
first_stop-append judging before (l ∷ ls) ms h =
    kept (stop_after judging before l) (first_stop judging (before ++ l ∷ []) ls) _ h
    (λ e. first_stop-append judging (before ++ l ∷ []) ls ms e)

-- ---- decided lines

pub stop_there : (o : Option Verdict) → IsSome o → (v : Verdict) × (o ≡ Some v)
stop_there None h = cc
stop_there (Some v) h = (v, refl)

pub no_stop_or_stop : (o : Option Verdict) → (o ≡ None) ⊎ IsSome o
no_stop_or_stop None = inl refl
no_stop_or_stop (Some v) = inr refl

pub verdict_at_stop : (judging : Judging) (ls : List (List ℕ)) (v : Verdict) → first_stop judging [] ls ≡ Some v → verdict_of judging ls ≡ v
unfolding verdict_of
verdict_at_stop judging ls v h = rw h refl

-- the verdict of lines of which one is not good stays
pub verdict_stays : (judging : Judging) (ls ms : List (List ℕ)) → AreDecided judging ls → verdict_of judging (ls ++ ms) ≡ verdict_of judging ls
verdict_stays judging ls ms h =
    let stop = stop_there (first_stop judging [] ls) h in
    verdict_at_stop judging (ls ++ ms) stop.0 (first_stop-append judging [] ls ms stop.1) ∙ sym (verdict_at_stop judging ls stop.0 stop.1)

pub decided_stays : (judging : Judging) (ls ms : List (List ℕ)) → AreDecided judging ls → AreDecided judging (ls ++ ms)
decided_stays judging ls ms h =
    let stop = stop_there (first_stop judging [] ls) h in
    rw (first_stop-append judging [] ls ms stop.1) refl

-- ---- what one more line says

pub header_in-snoc : (reading : Reading) (ls : List (List ℕ)) (l : List ℕ)
    → header_in reading (ls ++ l ∷ []) ≡ option_or (header_in reading ls) (header_said (reading l))
header_in-snoc reading [] l = or_none (header_said (reading l))
header_in-snoc reading (m ∷ ls) l =
    ap (option_or (header_said (reading m))) (header_in-snoc reading ls l)
    ∙ or_assoc (header_said (reading m)) (header_in reading ls) (header_said (reading l))

said_parts : (many long : Bool) (e f : Fault) (r : Result Line Fault) (x : Line)
    → cond many (Err e) (cond long (Err f) r) ≡ Ok x → (many ≡ false) × (long ≡ false) × (r ≡ Ok x)
said_parts true long e f r x h = cc
said_parts false true e f r x h = cc
said_parts false false e f r x h = (refl, refl, h)

pub said_reading : (reading : Reading) (n : ℕ) (l : List ℕ) {x : Line} → said reading n l ≡ Ok x → reading l ≡ Ok x
unfolding said
said_reading reading n l h = (said_parts (nat_le 4294967295 n) (nat_lt 65536 (length l)) _ _ _ _ h).2

-- ---- how many lines can be good

stop_of_many : (breaks : Breaking) (n : ℕ) (header : Option Settings) (h : List Event) (many : Bool) (e : Fault) (r : Result Line Fault)
    → stop_at breaks n header h (cond many (Err e) r) ≡ None → many ≡ false
stop_of_many breaks n header h true e r s = cc
stop_of_many breaks n header h false e r s = refl

good_is_few : (judging : Judging) (before : List (List ℕ)) (l : List ℕ) → stop_after judging before l ≡ None → length before < max_lines
unfolding stop_after said
good_is_few judging before l h =
    let few = stop_of_many judging.breaks (length before + 1) (header_in judging.says before) (history_of (events_in judging.says before)) (nat_le 4294967295 (length before)) _ _ h in
    omega (arith, leb-false 4294967295 (length before) few)

pub good_are_few : (judging : Judging) (before ls : List (List ℕ)) → first_stop judging before ls ≡ None → length before ≤ max_lines
    → length before + length ls ≤ max_lines
good_are_few judging before [] h few = omega arith
good_are_few judging before (l ∷ ls) h few =
    let parts = or_parts (stop_after judging before l) (first_stop judging (before ++ l ∷ []) ls) h in
    let here : length before < 4294967295 = good_is_few judging before l parts.0 in
    let longer : length (before ++ l ∷ []) ≡ length before + 1 = length-append before (l ∷ []) in
    let rest : length (before ++ l ∷ []) + length ls ≤ 4294967295 = good_are_few judging (before ++ l ∷ []) ls parts.1 (omega arith) in
    omega arith

-- ---- how long a good line can be

stop_of_long : (breaks : Breaking) (n : ℕ) (header : Option Settings) (h : List Event) (many long : Bool) (e f : Fault) (r : Result Line Fault)
    → stop_at breaks n header h (cond many (Err e) (cond long (Err f) r)) ≡ None → long ≡ false
stop_of_long breaks n header h true long e f r s = cc
stop_of_long breaks n header h false true e f r s = cc
stop_of_long breaks n header h false false e f r s = refl

good_is_short : (judging : Judging) (before : List (List ℕ)) (l : List ℕ) → stop_after judging before l ≡ None → length l ≤ line_limit
unfolding stop_after said
good_is_short judging before l h =
    let short = stop_of_long judging.breaks (length before + 1) (header_in judging.says before) (history_of (events_in judging.says before)) (nat_le 4294967295 (length before)) (nat_lt 65536 (length l)) _ _ _ h in
    omega (arith, leb-false 65537 (length l) short)

pub good_are_short : (judging : Judging) (before ls : List (List ℕ)) → first_stop judging before ls ≡ None → AllByRecursion IsWithinLimit ls
good_are_short judging before [] h = tt
good_are_short judging before (l ∷ ls) h =
    let parts = or_parts (stop_after judging before l) (first_stop judging (before ++ l ∷ []) ls) h in
    (good_is_short judging before l parts.0, good_are_short judging (before ++ l ∷ []) ls parts.1)
