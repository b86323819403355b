-- Histories of events that stand in order, and what one more event does.
use Rattle.std.proofs.Common.{◌≡◌, ◌+◌, List, [], ◌∷◌, ◌++◌, length, arith}
use Rattle.std.proofs.lemmas.List.Sums.{fold_push}
use Rattle.std.specs.List.{fold}
use Rattle.qa_base.specs.declared.event.Event.{Event}
use Rattle.qa_base.specs.machine.Packets.{history_of}

-- ---- one more event

pub history_of-snoc : (events : List Event) (e : Event) → history_of (events ++ e ∷ []) ≡ e ∷ history_of events
history_of-snoc events e = fold_push (λ h e. e ∷ h) [] events e

-- events put in front of a history
onto : List Event → List Event → List Event
onto h events = fold (λ h e. e ∷ h) h events

length-onto : (h events : List Event) → length (fold (λ (h : List Event) e. e ∷ h) h events) ≡ length h + length events
length-onto h [] = omega arith
length-onto h (e ∷ events) = let rest = length-onto (e ∷ h) events in omega arith

pub length-history_of : (events : List Event) → length (history_of events) ≡ length events
length-history_of events = let h = length-onto [] events in omega arith
