-- The text of an object with more members behind its own, by the texts of both.
use Rattle.std.proofs.Common.{◌≡◌, ◌∙◌, ℕ, ◌-◌, ◌≤◌, Option, Some, None, List, [], ◌∷◌, ◌++◌, length, take, Bool, true, false, Result, refl, sym, subst, ap, append_assoc, length-append, arith}
use Rattle.std.proofs.Math.Seq.{take-append_seam}
use Rattle.std.specs.Prelude.{OnOk}
use Rattle.json.specs.Print.{quoted}
use Rattle.serde_json.specs.Data.{unsigned, negative, float, Data, null, boolean, number, string, array, Items, no_items, item, Members, no_members, member, object}
use Rattle.serde_json.specs.Written.{comma_if, compact_text, members_text}
use Rattle.serde_json.specs.Written.{has_float, items_have_float, members_have_float}
use Rattle.std.proofs.lemmas.Bool.{or_from}
use Rattle.qa_base.specs.declared.event.Event.{Event}
use Rattle.qa_base.specs.declared.event.Event.TheVariants.{Sent, Ack, Lost, Timer, Discard, Confirmed, Keys, Metrics}
use Rattle.qa_base.specs.declared.event.MetricValues.{MetricValues}
use Rattle.qa_base.specs.values.Settings.{Settings}
use Rattle.qa_format.specs.declared.line.Line.{Line}
use Rattle.qa_format.specs.declared.line.Line.TheVariants as line
use Rattle.qa_format.specs.format.Simple.{IsSimple, AreSimple, HaveSimple}
use Rattle.qa_format.specs.format.Written.{event_pairs, header_pairs, members, written}
use Rattle.qa_convert.specs.OwnKeys.{AreOwn, followed, has_member, joined, noted, own_text, with_own}

-- the text of members without the closing bracket
abbrev body : Bool → Members → List ℕ
body later no_members = []
body later (member k d ms) = comma_if later ++ (quoted k ++ 58 ∷ (compact_text d ++ body true ms))

-- whether something stands before what follows them
abbrev behind : Bool → Members → Bool
behind later no_members = later
behind later (member k d ms) = true

parts : (c q t b e : List ℕ) → c ++ (q ++ 58 ∷ (t ++ (b ++ e))) ≡ (c ++ (q ++ 58 ∷ (t ++ b))) ++ e
parts c q t b e =
    sym (append_assoc c (q ++ 58 ∷ (t ++ b)) e
    ∙ ap (λ r. c ++ r) (append_assoc q (58 ∷ (t ++ b)) e ∙ ap (λ r. q ++ 58 ∷ r) (append_assoc t b e)))

followed_text : (later : Bool) (ms own : Members) → members_text later (followed ms own) ≡ body later ms ++ members_text (behind later ms) own
followed_text later no_members own = refl
followed_text later (member k d no_members) own =
    parts (comma_if later) (quoted k) (compact_text d) [] (members_text true own)
followed_text later (member k d (member j e ms)) own =
    ap (λ r. comma_if later ++ (quoted k ++ 58 ∷ (compact_text d ++ r))) (followed_text true (member j e ms) own)
    ∙ parts (comma_if later) (quoted k) (compact_text d) (body true (member j e ms)) (members_text true own)

followed_none : (ms : Members) → followed ms no_members ≡ ms
followed_none no_members = refl
followed_none (member k d ms) = ap (member k d) (followed_none ms)

closed_text : (later : Bool) (ms : Members) → members_text later ms ≡ body later ms ++ 125 ∷ []
closed_text later ms = ap (members_text later) (sym (followed_none ms)) ∙ followed_text later ms no_members

but_last : (xs : List ℕ) (x : ℕ) → take (length (xs ++ x ∷ []) - 1) (xs ++ x ∷ []) ≡ xs
but_last xs x =
    let long : length (xs ++ x ∷ []) - 1 ≡ length xs = omega (arith, length-append xs (x ∷ [])) in
    ap (λ n. take n (xs ++ x ∷ [])) long ∙ take-append_seam xs (x ∷ [])

later_text : (ms : Members) → has_member ms ≡ true → members_text true ms ≡ 44 ∷ members_text false ms
later_text no_members has = cc
later_text (member k d ms) has = refl

-- the text of both: all but the last byte of the first, a comma, and all but the first byte of the second
spliced : (ms own : Members) → has_member ms ≡ true → has_member own ≡ true
    → compact_text (object (followed ms own)) ≡ joined (compact_text (object ms)) (compact_text (object own))
spliced no_members own has some = cc
spliced (member k d ms) own has some =
    let inner = 123 ∷ body false (member k d ms) in
    ap (λ r. 123 ∷ r) (followed_text false (member k d ms) own)
    ∙ ap (λ r. inner ++ r) (later_text own some)
    ∙ ap (λ r. r ++ 44 ∷ members_text false own)
    (sym (ap (λ t. take (length (123 ∷ t) - 1) (123 ∷ t)) (closed_text false (member k d ms)) ∙ but_last inner 125))

-- ---- a line

-- every header and every event has a member
header_has : (s : Settings) → has_member (members (header_pairs s)) ≡ true
header_has s = refl

metrics_has : (o : Option ℕ) (t : ℕ) (v : MetricValues) → v.bytes_in_flight ≡ o → has_member (members (event_pairs (Metrics t v))) ≡ true
metrics_has None t v is = rw is refl
metrics_has (Some n) t v is = rw is refl

event_has : (e : Event) → has_member (members (event_pairs e)) ≡ true
event_has (Sent packet) = refl
event_has (Ack ack) = refl
event_has (Lost time space ranges) = refl
event_has (Timer time kind space) = refl
event_has (Discard time space) = refl
event_has (Confirmed time) = refl
event_has (Keys time) = refl
event_has (Metrics time values) = metrics_has values.bytes_in_flight time values refl

pub noted_alone : (x : Line) → noted x no_members ≡ written x
noted_alone line.Blank = refl
noted_alone (line.Header s) = ap (λ ms. compact_text (object ms)) (followed_none (members (header_pairs s)))
noted_alone (line.Event e) = ap (λ ms. compact_text (object ms)) (followed_none (members (event_pairs e)))

pub noted_empty : (x : Line) (own : Members) → written x ≡ [] → noted x own ≡ written x
noted_empty line.Blank own none = refl
noted_empty (line.Header s) own none = cc
noted_empty (line.Event e) own none = cc

pub noted_joined : (x : Line) (own : Members) → has_member own ≡ true → 1 ≤ length (written x) → noted x own ≡ joined (written x) (compact_text (object own))
noted_joined line.Blank own some long = absurd (omega (arith, long))
noted_joined (line.Header s) own some long = spliced (members (header_pairs s)) own (header_has s) some
noted_joined (line.Event e) own some long = spliced (members (event_pairs e)) own (event_has e) some

pub own_text_some : (own : Members) → has_member own ≡ true → own_text own ≡ compact_text (object own)
own_text_some no_members some = cc
own_text_some (member k d ms) some = refl

with_none : (text : List ℕ) → with_own text [] ≡ text
with_none [] = refl
with_none (b ∷ bs) = refl

with_some : (text : List ℕ) (c : ℕ) (cs : List ℕ) → 1 ≤ length text → with_own text (c ∷ cs) ≡ joined text (c ∷ cs)
with_some [] c cs long = absurd (omega (arith, long))
with_some (b ∷ bs) c cs long = refl

-- the text of a line with own keys is that of the line, with that of the keys
pub noted_with : (x : Line) (own : Members) → noted x own ≡ with_own (written x) (own_text own)
noted_with line.Blank own = refl
noted_with (line.Header s) no_members = noted_alone (line.Header s) ∙ sym (with_none (written (line.Header s)))
noted_with (line.Header s) (member k d ms) = noted_joined (line.Header s) (member k d ms) refl (omega arith)
noted_with (line.Event e) no_members = noted_alone (line.Event e) ∙ sym (with_none (written (line.Event e)))
noted_with (line.Event e) (member k d ms) = noted_joined (line.Event e) (member k d ms) refl (omega arith)

-- the same of the lines of a trace with one more
pub with_line : {A E : Type 0} (r : Result A E) (before after text line : List ℕ) → text ≡ line → OnOk r (after ≡ before ++ (text ++ 10 ∷ [])) → OnOk r (after ≡ before ++ (line ++ 10 ∷ []))
with_line r before after text line same = subst (λ t. OnOk r (after ≡ before ++ (t ++ 10 ∷ []))) same

-- ---- own values have no float

mutual
  simple_none : (d : Data) → IsSimple d → has_float d ≡ false
  simple_none null simple = refl
  simple_none (boolean b) simple = refl
  simple_none (number (unsigned n)) simple = refl
  simple_none (number (negative z)) simple = absurd simple
  simple_none (number (float x)) simple = absurd simple
  simple_none (string s) simple = refl
  simple_none (array ds) simple = items_none ds simple
  simple_none (object ms) simple = members_none ms simple

  items_none : (ds : Items) → AreSimple ds → items_have_float ds ≡ false
  items_none no_items simple = refl
  items_none (item d ds) simple = or_from (has_float d) (items_have_float ds) (simple_none d simple.0) (items_none ds simple.1)

  members_none : (ms : Members) → HaveSimple ms → members_have_float ms ≡ false
  members_none no_members simple = refl
  members_none (member k d ms) simple = or_from (has_float d) (members_have_float ms) (simple_none d simple.2) (members_none ms simple.3)

pub own_none : (ms : Members) → AreOwn ms → members_have_float ms ≡ false
own_none no_members are = refl
own_none (member k d ms) are = or_from (has_float d) (members_have_float ms) (simple_none d are.1.simple) (own_none ms are.2)
