-- Members, each with a comma before it, as the text of an object.
use Rattle.std.proofs.Common.{◌≡◌, ◌∙◌, ℕ, List, [], ◌∷◌, ◌++◌, Option, Some, None, Bool, true, false, length, slice_set, refl, sym, ap, append_assoc}
use Rattle.json.specs.Print.{quoted}
use Rattle.serde_json.specs.Data.{Members, no_members, member}
use Rattle.serde_json.specs.Written.{compact_text, members_text}
use Rattle.qa_base.specs.declared.event.Event.{Event}
use Rattle.qa_base.specs.declared.event.Event.TheVariants.{Sent, Ack, Lost, Timer, Discard, Confirmed, Keys, Metrics}
use Rattle.qa_base.specs.declared.event.MetricValues.{MetricValues}
use Rattle.qa_base.specs.values.Names.{key_name}
use Rattle.qa_format.specs.format.Written.{Pairs, event_pairs, members, object_of}
use Rattle.qa_fast_writer.specs.Members.{all_led, led}

parts : (q t x : List ℕ) → ((q ++ 58 ∷ []) ++ t) ++ x ≡ q ++ 58 ∷ (t ++ x)
parts q t x = append_assoc (q ++ 58 ∷ []) t x ∙ append_assoc q (58 ∷ []) (t ++ x)

-- members that something stands before
led_text : (ps : Pairs) → members_text true (members ps) ≡ all_led ps ++ 125 ∷ []
led_text [] = refl
led_text (p ∷ ps) =
    ap (λ t. 44 ∷ (quoted (key_name p.0) ++ 58 ∷ (compact_text p.1 ++ t))) (led_text ps)
    ∙ ap (λ t. 44 ∷ t) (sym (parts (quoted (key_name p.0)) (compact_text p.1) (all_led ps ++ 125 ∷ [])))
    ∙ sym (append_assoc (led p) (all_led ps) (125 ∷ []))

abbrev has_member : Members → Bool
has_member no_members = false
has_member (member k d ms) = true

later_text : (ms : Members) → has_member ms ≡ true → members_text true ms ≡ 44 ∷ members_text false ms
later_text no_members has = cc
later_text (member k d ms) has = refl

some_metrics : (time : ℕ) (values : MetricValues) (o : Option ℕ) → values.bytes_in_flight ≡ o → has_member (members (event_pairs (Metrics time values))) ≡ true
some_metrics time values None is = rw is refl
some_metrics time values (Some n) is = rw is refl

some : (e : Event) → has_member (members (event_pairs e)) ≡ true
some (Sent packet) = refl
some (Ack ack) = refl
some (Lost time space ranges) = refl
some (Timer time kind space) = refl
some (Discard time space) = refl
some (Confirmed time) = refl
some (Keys time) = refl
some (Metrics time values) = some_metrics time values values.bytes_in_flight refl

set_first : (base : List ℕ) (x y : ℕ) (rest : List ℕ) → slice_set (base ++ x ∷ rest) (length base) y ≡ base ++ y ∷ rest
set_first [] x y rest = refl
set_first (b ∷ base) x y rest = ap (λ t. b ∷ t) (set_first base x y rest)

-- what was appended begins with a comma
whole : (e : Event) (base : List ℕ) → (base ++ all_led (event_pairs e)) ++ 125 ∷ [] ≡ base ++ 44 ∷ members_text false (members (event_pairs e))
whole e base =
    append_assoc base (all_led (event_pairs e)) (125 ∷ [])
    ∙ ap (λ t. base ++ t) (sym (led_text (event_pairs e)) ∙ later_text (members (event_pairs e)) (some e))

pub closed : (e : Event) (base led_members ended : List ℕ) (begin : ℕ) → begin ≡ length base → led_members ≡ base ++ all_led (event_pairs e) → ended ≡ led_members ++ 125 ∷ []
    → slice_set ended begin 123 ≡ base ++ compact_text (object_of (event_pairs e))
closed e base led_members ended begin at are is =
    ap (λ i. slice_set ended i 123) at
    ∙ ap (λ t. slice_set t (length base) 123) (is ∙ ap (λ t. t ++ 125 ∷ []) are ∙ whole e base)
    ∙ set_first base 44 123 (members_text false (members (event_pairs e)))
