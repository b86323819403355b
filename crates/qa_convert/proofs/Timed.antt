-- Lines of timers that expired.
use Rattle.std.proofs.Common.{◌≡◌, ◌∙◌, ◌||◌, ◌++◌, Bool, true, false, List, [], ◌∷◌, append-nil, ap, inl, inr, refl, sym}
use Rattle.std.specs.Prelude.{IfSome}
use Rattle.qa_base.specs.declared.space.Space.{Space}
use Rattle.qa_base.specs.declared.space.TimerKind.{TimerKind}
use Rattle.qa_convert.specs.Guesses.{is_of_timer}
use Rattle.qa_convert.specs.Marks.{Marks, marks_by}
use Rattle.qa_convert.specs.Losing.{Names}
use Rattle.qa_convert.specs.Telling.{LostLine, TimerLine, Told, next_marks, will_say, with_timer}
use Rattle.qa_convert.specs.Timers.{AddsTimers, WritesTimer}
use Rattle.qa_convert.specs.declared.event.Expiry.{Expiry}
use Rattle.qa_convert.specs.declared.event.LostPacket.{LostPacket}
use Rattle.qa_convert.specs.declared.guess.Guess.{Guess}
use Rattle.qa_convert.specs.declared.guess.Guess.TheVariants as guess
use Rattle.qa_convert.specs.declared.writing.Writing.{Writing}

-- ---- guesses

or_more : (a b c d : Bool) → (a ≡ true → b ≡ true) → (c ≡ true → d ≡ true) → (a || c) ≡ true → (b || d) ≡ true
or_more true b c d one two is = rw (one refl) refl
or_more false true c d one two is = refl
or_more false false c d one two is = two is

or_right : (a b : Bool) → b ≡ true → (a || b) ≡ true
or_right true b is = refl
or_right false b is = is

or_left : (a b : Bool) → a ≡ true → (a || b) ≡ true
or_left a b is = rw is refl

timer_by : (p q : Guess → Bool) → ((g : Guess) → p g ≡ true → q g ≡ true) → (marks_by p).timer ≡ true → (marks_by q).timer ≡ true
timer_by p q more =
    or_more _ _ (p guess.LossTimer) (q guess.LossTimer)
    (or_more _ _ (p guess.ProbeByTrigger) (q guess.ProbeByTrigger)
    (or_more _ _ (p guess.ProbeByRoom) (q guess.ProbeByRoom)
    (or_more (p guess.ProbeByCount) (q guess.ProbeByCount) (p guess.ProbeByPing) (q guess.ProbeByPing) (more guess.ProbeByCount) (more guess.ProbeByPing))
    (more guess.ProbeByRoom))
    (more guess.ProbeByTrigger))
    (more guess.LossTimer)

-- a guess of a timer is said with more guesses, too
pub timer_more : (a b : Writing) → ((g : Guess) → will_say a g ≡ true → will_say b g ≡ true) → (next_marks a).timer ≡ true → (next_marks b).timer ≡ true
timer_more a b more = timer_by (will_say a) (will_say b) more

timer_in : (p : Guess → Bool) (g : Guess) → is_of_timer g ≡ true → p g ≡ true → (marks_by p).timer ≡ true
timer_in p guess.ProbeByCount of is = or_left _ _ (or_left _ _ (or_left _ _ (or_left (p guess.ProbeByCount) _ is)))
timer_in p guess.ProbeByPing of is = or_left _ _ (or_left _ _ (or_left _ _ (or_right _ (p guess.ProbeByPing) is)))
timer_in p guess.ProbeByRoom of is = or_left _ _ (or_left _ _ (or_right _ (p guess.ProbeByRoom) is))
timer_in p guess.ProbeByTrigger of is = or_left _ _ (or_right _ (p guess.ProbeByTrigger) is)
timer_in p guess.LossTimer of is = or_right _ (p guess.LossTimer) is
timer_in p guess.DatagramByWindow of is = cc
timer_in p guess.DatagramByPacket of is = cc
timer_in p guess.DatagramLeast of is = cc
timer_in p guess.NoMaxAckDelay of is = cc
timer_in p guess.NoWindow of is = cc
timer_in p guess.HiddenWindow of is = cc
timer_in p guess.InitialRtt of is = cc
timer_in p guess.Size of is = cc
timer_in p guess.SizeByGrowth of is = cc
timer_in p guess.TimerSpace of is = cc
timer_in p guess.Discard of is = cc
timer_in p guess.Confirmed of is = cc
timer_in p guess.Delay of is = cc
timer_in p guess.Arrival of is = cc
timer_in p guess.Moment of is = cc
timer_in p guess.LimitedByWindow of is = cc
timer_in p guess.LeaveProbe of is = cc
timer_in p guess.LeaveRecovery of is = cc
timer_in p guess.TimeBack of is = cc

-- once a timer is guessed, the next line says so
pub timer_guessed : (w : Writing) (g : Guess) → is_of_timer g ≡ true → will_say w g ≡ true → (next_marks w).timer ≡ true
timer_guessed w g of is = timer_in (will_say w) g of is

-- ---- lines

-- a line of a timer that was guessed tells nothing
pub nothing_told : (is_guess : Bool) (kind : TimerKind) (a b : Told) → is_guess ≡ true → WritesTimer is_guess kind a b → b ≡ a
nothing_told is_guess kind a b is writes =
    writes.told ∙ rw (writes.guess is) (ap (λ (ls : List TimerLine). record a { timers = ls }) (append-nil a.timers))

pub none_expired : (e : Expiry) (a b : Told) → b.timers ≡ a.timers → AddsTimers (e ∷ []) a b
none_expired e a b same = ([], same ∙ sym (append-nil a.timers), inl refl)

adds_by : (says : Bool) (e : Expiry) (kind : TimerKind) (space : Space) (m : Marks) (a b : Told) → m.timer ≡ says → IfSome e.kind (λ k. kind ≡ k)
    → IfSome e.space (λ s. space ≡ s) → b ≡ with_timer a m kind space → AddsTimers (e ∷ []) a b
adds_by true e kind space m a b says is_kind is_space told = none_expired e a b (ap (λ (t : Told). t.timers) told ∙ rw says (append-nil a.timers))
adds_by false e kind space m a b says is_kind is_space told =
    let line : TimerLine = record { kind = kind; space = space } in
    (line ∷ [], ap (λ (t : Told). t.timers) told ∙ rw says refl, inr (line, [], refl, record { kind = is_kind; space = is_space }, refl))

pub then_same : (e : Expiry) (a b c : Told) → AddsTimers (e ∷ []) a b → c.timers ≡ b.timers → AddsTimers (e ∷ []) a c
then_same e a b c adds same = (adds.0, same ∙ adds.1, adds.2)

-- ---- losses

-- from a text that tells the same losses
pub names_from : (ps : List LostPacket) (a b c : Told) → b.lost ≡ a.lost → Names ps b c → Names ps a c
names_from ps a b c same names = record {
  lines = names.lines;
  told = names.told ∙ ap (λ (ls : List LostLine). ls ++ names.lines) same;
  same = names.same;
  few = names.few;
}
