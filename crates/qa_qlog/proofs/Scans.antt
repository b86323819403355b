-- What the bytes of a record do to what is left of a log.
use Rattle.std.proofs.Common.{◌≡◌, inl, inr, ◌∙◌, ◌&&◌, ◌∷◌, ◌++◌, ◌+◌, ◌<◌, ◌≤◌, ℕ, suc, Bool, true, false, List, [], Err, Some, length, take, drop, refl, sym, ap, arith, append_assoc, append-nil}
use Rattle.std.proofs.lemmas.Bool.{cases_Bool, cases_lt, le-leb, lt-leb}
use Rattle.std.proofs.lemmas.List.{length_push}
use Rattle.std.specs.List.{starts_with}
use Rattle.std.specs.Prelude.{min, nat_eq, nat_le, if◌then◌else◌}
use Rattle.qa_qlog.specs.Cuts.{Cuts, State, Goes, Gives, Stops, add, added, begins_trace, behind, cut_of, cuts, emptied, is_ended, put, record_limit, turn, turned}
use Rattle.qa_qlog.specs.Cutting.{read_to}
use Rattle.qa_qlog.specs.Outer.{after, further, in_value, is_events, is_nested, is_reading, is_scalar, is_within, last, name_of, next, scanned}
use Rattle.qa_qlog.specs.declared.cutter.CutFault.TheVariants as cause
use Rattle.qa_qlog.specs.declared.outer.Level.{Level}
use Rattle.qa_qlog.specs.declared.outer.Level.TheVariants.{Events}
use Rattle.qa_qlog.specs.declared.outer.Part.{Part}
use Rattle.qa_qlog.specs.declared.outer.Part.TheVariants as part
use Rattle.qa_qlog.specs.declared.outer.Position.{Position}
use Rattle.qa_qlog.specs.declared.outer.Extent.{Extent}
use Rattle.qa_qlog.proofs.Turns.{at_byte}

-- ---- one byte within a value

and_false : (b : Bool) → (b && false) ≡ false
and_false true = refl
and_false false = refl

abbrev at : Level → Part → ℕ → Position
at l p d = record { level = l; part = p; depth = d }

nested_after : (l : Level) (p : Part) (d : ℕ) (named : Bool) (b : ℕ) → is_nested p ≡ true → after (at l p d) named b ≡ Some (in_value p (at l p d) b)
nested_after l part.Nested d named b h = rw and_false refl
nested_after l part.Text d named b h = rw and_false refl
nested_after l part.Escape d named b h = rw and_false refl
nested_after l _ d named b h = cc

nested_level : (l : Level) (p : Part) (d b : ℕ) → is_nested p ≡ true → (in_value p (at l p d) b).level ≡ l
nested_level l part.Nested d b h = grind arith
nested_level l part.Text d b h = grind arith
nested_level l part.Escape d b h = refl
nested_level l _ d b h = cc

nested_within : (l : Level) (p : Part) (d b : ℕ) → is_nested p ≡ true → is_within (in_value p (at l p d) b).part ≡ is_nested (in_value p (at l p d) b).part
nested_within l part.Nested d b h = grind arith
nested_within l part.Text d b h = grind arith
nested_within l part.Escape d b h = refl
nested_within l _ d b h = cc

within_nested : (p : Part) → is_nested p ≡ true → is_within p ≡ true
within_nested part.Nested h = refl
within_nested part.Text h = refl
within_nested part.Escape h = refl
within_nested _ h = cc

reading_nested : (p : Part) → is_nested p ≡ true → is_reading p ≡ true
reading_nested part.Nested h = refl
reading_nested part.Text h = refl
reading_nested part.Escape h = refl
reading_nested _ h = cc

not_scalar : (p : Part) → is_nested p ≡ true → is_scalar p ≡ false
not_scalar part.Nested h = refl
not_scalar part.Text h = refl
not_scalar part.Escape h = refl
not_scalar _ h = cc

begins_none : (l m : Level) → is_events l ≡ true → begins_trace l m ≡ false
begins_none Events m h = refl
begins_none _ m h = cc

-- a record is being read
pub record Inside (s : State) : Type 0 where
  pub level : is_events s.position.level ≡ true
  pub part : is_nested s.position.part ≡ true

-- the position after the next byte
abbrev pub onward : State → ℕ → Position
onward s b = in_value s.position.part s.position b

-- what was read with the next byte
abbrev pub longer : State → ℕ → State
longer s b = record s { position = onward s b; at = next s.at; text = s.text ++ b ∷ [] }

one_turn : (s : State) (b : ℕ) → Inside s → turn s b ≡ add s (onward s b) b
one_turn s b in_it =
    let named = starts_with nat_eq (drop s.key s.skeleton) (name_of s.position.level) in
    let goes = nested_after s.position.level s.position.part s.position.depth named b in_it.part in
    let level : is_events (onward s b).level ≡ true = ap is_events (nested_level s.position.level s.position.part s.position.depth b in_it.part) ∙ in_it.level in
    let old = in_it.level in
    let within = within_nested s.position.part in_it.part in
    ap (λ p. turned s p b) goes ∙ rw (old, level, within) refl

same_added : (s : State) (b : ℕ) → Inside s → added s (onward s b) b ≡ longer s b
same_added s b in_it =
    let reading = reading_nested s.position.part in_it.part in
    let no_trace = begins_none s.position.level (onward s b).level in_it.level in
    rw (reading, no_trace) refl

goes_on : (s : State) (b : ℕ) → Inside s → length s.text < record_limit → is_nested (onward s b).part ≡ true → turn s b ≡ Goes (longer s b)
goes_on s b in_it short more =
    let room : nat_le record_limit (length s.text) ≡ false = lt-leb record_limit (length s.text) short in
    let within : is_within (onward s b).part ≡ true = nested_within s.position.level s.position.part s.position.depth b in_it.part ∙ more in
    one_turn s b in_it ∙ rw (room, within) (ap Goes (same_added s b in_it))

gives : (s : State) (b : ℕ) → Inside s → length s.text < record_limit → is_nested (onward s b).part ≡ false → turn s b ≡ Gives (longer s b)
gives s b in_it short none =
    let room : nat_le record_limit (length s.text) ≡ false = lt-leb record_limit (length s.text) short in
    let within : is_within (onward s b).part ≡ false = nested_within s.position.level s.position.part s.position.depth b in_it.part ∙ none in
    one_turn s b in_it ∙ rw (room, within) (ap Gives (same_added s b in_it))

no_room : (s : State) (b : ℕ) → Inside s → record_limit ≤ length s.text → turn s b ≡ Stops (cause.RecordTooLong s.begin)
no_room s b in_it long =
    let full : nat_le record_limit (length s.text) ≡ true = le-leb record_limit (length s.text) long in
    one_turn s b in_it ∙ rw full refl

not_ended : (s : State) (b : ℕ) → Inside s → is_ended s b ≡ false
not_ended s b in_it = let number = not_scalar s.position.part in_it.part in rw number refl

stays_inside : (s : State) (b : ℕ) → Inside s → is_nested (onward s b).part ≡ true → Inside (longer s b)
stays_inside s b in_it more = record {
  level = ap is_events (nested_level s.position.level s.position.part s.position.depth b in_it.part) ∙ in_it.level;
  part = more;
}

-- ---- all bytes up to the end of a record

abbrev pub after_those : State → Extent → List ℕ → List ℕ → Cuts
after_those s e bs more =
    if is_nested e.position.part then cuts (read_to s e bs) (drop e.len bs ++ more)
    else put (cut_of (read_to s e bs)) (cuts (emptied (read_to s e bs)) (drop e.len bs ++ more))

abbrev with_text : State → Position → ℕ → List ℕ → State
with_text s p n text = record s { position = p; at = n; text = text }

same_read : (s : State) (b : ℕ) (bs : List ℕ) (p : Position) (n m : ℕ) → m ≡ suc n
    → read_to (longer s b) (record { len = n; position = p }) bs ≡ read_to s (record { len = m; position = p }) (b ∷ bs)
same_read s b bs p n m is =
    let at : min last (next s.at + n) ≡ min last (s.at + m) = omega arith in
    let text : (s.text ++ b ∷ []) ++ take n bs ≡ s.text ++ take m (b ∷ bs) = append_assoc s.text (b ∷ []) (take n bs) ∙ rw is refl in
    ap (λ k. with_text s p k ((s.text ++ b ∷ []) ++ take n bs)) at ∙ ap (with_text s p (min last (s.at + m))) text

same_after : (s : State) (b : ℕ) (bs more : List ℕ) (p : Position) (n m : ℕ) → m ≡ suc n
    → after_those (longer s b) (record { len = n; position = p }) bs more ≡ after_those s (record { len = m; position = p }) (b ∷ bs) more
same_after s b bs more p n m is =
    let state = same_read s b bs p n m is in
    let rest : drop n bs ≡ drop m (b ∷ bs) = rw is refl in
    ap (λ (t : State). if is_nested p.part then cuts t (drop n bs ++ more) else put (cut_of t) (cuts (emptied t) (drop n bs ++ more))) state
    ∙ ap (λ rest. if is_nested p.part then cuts (read_to s (record { len = m; position = p }) (b ∷ bs)) (rest ++ more) else put (cut_of (read_to s (record { len = m; position = p }) (b ∷ bs))) (cuts (emptied (read_to s (record { len = m; position = p }) (b ∷ bs))) (rest ++ more))) rest

none_read : (s : State) (more : List ℕ) → Inside s → s.at ≤ last → cuts s more ≡ after_those s (record { len = 0; position = s.position }) [] more
none_read s more in_it high =
    let part = in_it.part in
    let at : s.at ≡ min last (s.at + 0) = omega arith in
    rw part (ap (λ k. cuts (with_text s s.position k s.text) more) at ∙ ap (λ text. cuts (with_text s s.position (min last (s.at + 0)) text) more) (sym (append-nil s.text)))

-- how many bytes there are, if the value goes on behind the first
more_len : (s : State) (b : ℕ) (bs : List ℕ) → is_nested (onward s b).part ≡ true → (scanned s.position (b ∷ bs)).len ≡ 1 + (scanned (onward s b) bs).len
more_len s b bs goes = rw goes refl

still_fits : (s : State) (b : ℕ) (bs : List ℕ) → is_nested (onward s b).part ≡ true → length s.text + (scanned s.position (b ∷ bs)).len ≤ record_limit
    → length (longer s b).text + (scanned (onward s b) bs).len ≤ record_limit
still_fits s b bs goes short =
    let len = more_len s b bs goes in
    let text : length (longer s b).text ≡ length s.text + 1 = length_push s.text b in
    omega arith

scan_first : (b : ℕ) (bs more : List ℕ) (s : State) → Inside s → length s.text + (scanned s.position (b ∷ bs)).len ≤ record_limit
    → (is_nested (onward s b).part ≡ true → cuts (longer s b) (bs ++ more) ≡ after_those (longer s b) (scanned (onward s b) bs) bs more)
    → cuts s (b ∷ (bs ++ more)) ≡ after_those s (scanned s.position (b ∷ bs)) (b ∷ bs) more
scan_first b bs more s in_it short rest = elim (cases_Bool (is_nested (onward s b).part)) [
  | inl goes ↦
      let is : scanned s.position (b ∷ bs) ≡ further 1 (scanned (onward s b) bs) = rw goes refl in
      let len = more_len s b bs goes in
      at_byte s b (bs ++ more) (not_ended s b in_it)
      ∙ ap (λ t. behind t (λ u. cuts u (bs ++ more))) (goes_on s b in_it (omega arith) goes)
      ∙ rest goes
      ∙ same_after s b bs more (scanned (onward s b) bs).position (scanned (onward s b) bs).len (1 + (scanned (onward s b) bs).len) (omega arith)
      ∙ ap (λ (e : Extent). after_those s e (b ∷ bs) more) (sym is)
  | inr ends ↦
      let is : scanned s.position (b ∷ bs) ≡ record { len = 1; position = onward s b } = rw ends refl in
      let len : (scanned s.position (b ∷ bs)).len ≡ 1 = ap (λ (e : Extent). e.len) is in
      at_byte s b (bs ++ more) (not_ended s b in_it)
      ∙ ap (λ t. behind t (λ u. cuts u (bs ++ more))) (gives s b in_it (omega arith) ends)
      ∙ sym (ap (λ (e : Extent). after_those s e (b ∷ bs) more) is ∙ rw ends refl)
]

scan_all : (bs more : List ℕ) (s : State) → Inside s → s.at ≤ last → length s.text + (scanned s.position bs).len ≤ record_limit
    → cuts s (bs ++ more) ≡ after_those s (scanned s.position bs) bs more
scan_all [] more s in_it high short = none_read s more in_it high
scan_all (b ∷ bs) more s in_it high short =
    scan_first b bs more s in_it short (λ goes. scan_all bs more (longer s b) (stays_inside s b in_it goes) (omega arith) (still_fits s b bs goes short))

pub scan_cuts : (bs more : List ℕ) (s : State) → Inside s → 0 < length bs → length s.text + (scanned s.position bs).len ≤ record_limit
    → cuts s (bs ++ more) ≡ after_those s (scanned s.position bs) bs more
scan_cuts [] more s in_it some short = absurd (omega arith)
scan_cuts (b ∷ bs) more s in_it some short =
    scan_first b bs more s in_it short (λ goes. scan_all bs more (longer s b) (stays_inside s b in_it goes) (omega arith) (still_fits s b bs goes short))

pub scanned_within : (bs : List ℕ) (p : Position) → (scanned p bs).len ≤ length bs
scanned_within [] p = omega arith
scanned_within (b ∷ bs) p = elim (cases_Bool (is_nested (in_value p.part p b).part)) [
  | inl goes ↦
      let is : scanned p (b ∷ bs) ≡ further 1 (scanned (in_value p.part p b) bs) = rw goes refl in
      let len : (scanned p (b ∷ bs)).len ≡ 1 + (scanned (in_value p.part p b) bs).len = ap (λ (e : Extent). e.len) is in
      let rest = scanned_within bs (in_value p.part p b) in
      omega arith
  | inr ends ↦
      let is : scanned p (b ∷ bs) ≡ record { len = 1; position = in_value p.part p b } = rw ends refl in
      let len : (scanned p (b ∷ bs)).len ≡ 1 = ap (λ (e : Extent). e.len) is in
      omega arith
]

pub scanned_some : (bs : List ℕ) (p : Position) → 0 < length bs → 0 < (scanned p bs).len
scanned_some [] p some = absurd (omega arith)
scanned_some (b ∷ bs) p some = elim (cases_Bool (is_nested (in_value p.part p b).part)) [
  | inl goes ↦
      let is : scanned p (b ∷ bs) ≡ further 1 (scanned (in_value p.part p b) bs) = rw goes refl in
      let len : (scanned p (b ∷ bs)).len ≡ 1 + (scanned (in_value p.part p b) bs).len = ap (λ (e : Extent). e.len) is in
      omega arith
  | inr ends ↦
      let is : scanned p (b ∷ bs) ≡ record { len = 1; position = in_value p.part p b } = rw ends refl in
      let len : (scanned p (b ∷ bs)).len ≡ 1 = ap (λ (e : Extent). e.len) is in
      omega arith
]

pub long_cuts : (bs more : List ℕ) (s : State) → Inside s → record_limit < length s.text + (scanned s.position bs).len → 0 < length bs
    → cuts s (bs ++ more) ≡ ([], Err (cause.RecordTooLong s.begin))
long_cuts [] more s in_it long some = absurd (omega arith)
long_cuts (b ∷ bs) more s in_it long some = elim (cases_lt (length s.text) record_limit) [
  | inr full ↦
      at_byte s b (bs ++ more) (not_ended s b in_it)
      ∙ ap (λ t. behind t (λ u. cuts u (bs ++ more))) (no_room s b in_it full)
  | inl room ↦ elim (cases_Bool (is_nested (onward s b).part)) [
    | inl goes ↦
        let is : scanned s.position (b ∷ bs) ≡ further 1 (scanned (onward s b) bs) = rw goes refl in
        let len : (scanned s.position (b ∷ bs)).len ≡ 1 + (scanned (onward s b) bs).len = ap (λ (e : Extent). e.len) is in
        let text : length (longer s b).text ≡ length s.text + 1 = length_push s.text b in
        let within = scanned_within bs (onward s b) in
        at_byte s b (bs ++ more) (not_ended s b in_it)
        ∙ ap (λ t. behind t (λ u. cuts u (bs ++ more))) (goes_on s b in_it room goes)
        ∙ long_cuts bs more (longer s b) (stays_inside s b in_it goes) (omega arith) (omega arith)
    | inr ends ↦
        let is : scanned s.position (b ∷ bs) ≡ record { len = 1; position = onward s b } = rw ends refl in
        let len : (scanned s.position (b ∷ bs)).len ≡ 1 = ap (λ (e : Extent). e.len) is in
        absurd (omega arith)
  ]
]
