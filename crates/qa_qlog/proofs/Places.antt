-- That each record stands in the log at its place.
use Rattle.std.proofs.Common.{◌≡◌, ◌⊎◌, inl, inr, ◌∙◌, ◌&&◌, ◌||◌, ◌∷◌, ◌++◌, ◌+◌, ◌<◌, ◌≤◌, ℕ, Bool, true, false, List, [], Some, None, length, take, drop, refl, sym, ap, arith, append_assoc}
use Rattle.std.proofs.lemmas.Bool.{cases_Bool}
use Rattle.std.proofs.lemmas.List.{drop-append-le, drop_at, take_at, length_push}
use Rattle.std.specs.List.{AllByRecursion}
use Rattle.std.specs.Prelude.{Option, nat_le, not, if◌then◌else◌}
use Rattle.qa_qlog.specs.Cuts.{Cuts, State, add, added, behind, cuts, emptied, ended, is_ended, is_named, kept, moved_to, record_limit, skeleton_limit, turn, turned, unread}
use Rattle.qa_qlog.specs.Outer.{after, around, begun, closes, entered, is_end, is_events, is_object, is_outside, is_reading, is_scalar, is_space, is_within, item_at, last, left, moved, next, value_from}
use Rattle.qa_qlog.specs.Places.{StandsAt, StandAtTheirPlaces}
use Rattle.qa_qlog.specs.declared.outer.Level.{Level}
use Rattle.qa_qlog.specs.declared.outer.Level.TheVariants.{Outside, Document, Traces, Trace, Events}
use Rattle.qa_qlog.specs.declared.outer.Part.{Part}
use Rattle.qa_qlog.specs.declared.outer.Part.TheVariants as part
use Rattle.qa_qlog.specs.declared.outer.Position.{Position}

abbrev at : Level → Part → ℕ → Position
at l p d = record { level = l; part = p; depth = d }

-- ---- what a byte may do to a position

around_events : (l : Level) → is_events (around l) ≡ false
around_events Outside = refl
around_events Document = refl
around_events Traces = refl
around_events Trace = refl
around_events Events = refl

-- nothing is read, or the container is the same
abbrev Enters : Level → Position → Type 0
Enters l q = (is_within q.part ≡ false) ⊎ (is_events q.level ≡ is_events l)

abbrev EntersIf : Level → Option Position → Type 0
EntersIf l o = (q : Position) → o ≡ Some q → Enters l q

value_enters : (l : Level) (p : Part) (d b : ℕ) → EntersIf l (value_from (at l p d) b)
value_enters l p d b q is = inr (grind arith)

begun_enters : (o : Option Level) (l : Level) (p : Part) (d b : ℕ) → EntersIf l (begun o (at l p d) b)
begun_enters (Some m) l p d b q is = inl (let same : q ≡ record { level = m; part = part.Start; depth = d } = cc in ap (λ (x : Position). is_within x.part) same)
begun_enters None l p d b q is = elim (cases_Bool (is_outside l)) [
  | inl t ↦ let none : None ≡ Some q = rw t at is in cc
  | inr f ↦ value_enters l p d b q (rw f at is)
]

item_enters : (l : Level) (p : Part) (d b : ℕ) (named : Bool) → EntersIf l (item_at (at l p d) named b)
item_enters l p d b named q is = elim (cases_Bool (is_object l)) [
  | inl t ↦ let key = rw t at is in inr (grind arith)
  | inr f ↦ begun_enters (entered l named b) l p d b q (rw f at is)
]

moved_enters : (p : Part) (l : Level) (d b : ℕ) (named : Bool) → EntersIf l (moved p (at l p d) named b)
moved_enters part.Start l d b named q is = elim (cases_Bool (closes l b)) [
  | inl t ↦ let shut = rw t at is in inl (let same : q ≡ left (at l part.Start d) = cc in ap (λ (x : Position). is_within x.part) same)
  | inr f ↦ item_enters l part.Start d b named q (rw f at is)
]
moved_enters part.Next l d b named q is = item_enters l part.Next d b named q is
moved_enters part.Key l d b named q is = inr (grind arith)
moved_enters part.KeyEscape l d b named q is = inr (grind arith)
moved_enters part.Colon l d b named q is = inr (grind arith)
moved_enters part.Value l d b named q is = begun_enters (entered l named b) l part.Value d b q is
moved_enters part.Nested l d b named q is = inr (grind arith)
moved_enters part.Text l d b named q is = inr (grind arith)
moved_enters part.Escape l d b named q is = inr (grind arith)
moved_enters part.Scalar l d b named q is = inr (grind arith)
moved_enters part.Behind l d b named q is = inl (grind arith)

after_enters : (p : Part) (l : Level) (d b : ℕ) (named : Bool) → EntersIf l (after (at l p d) named b)
after_enters p l d b named q is = elim (cases_Bool (is_space b && not (is_reading p))) [
  | inl t ↦ let stays = rw t at is in inr (let same : q ≡ at l p d = cc in ap (λ (x : Position). is_events x.level) same)
  | inr f ↦ moved_enters p l d b named q (rw f at is)
]

both_true : (a b : Bool) → (a && b) ≡ true → (a ≡ true) × (b ≡ true)
both_true true b h = (refl, h)
both_true false b h = cc

and_false : (b : Bool) → (b && false) ≡ false
and_false true = refl
and_false false = refl

-- a value does not begin within a key
reading_none : (p : Part) (l : Level) (d b : ℕ) (named : Bool) (q : Position) → after (at l p d) named b ≡ Some q → is_within p ≡ false
    → is_within q.part ≡ true → is_reading p ≡ false
reading_none part.Start l d b named q is out in_it = refl
reading_none part.Next l d b named q is out in_it = refl
reading_none part.Key l d b named q is out in_it = let goes = rw and_false at is in grind arith
reading_none part.KeyEscape l d b named q is out in_it = let goes = rw and_false at is in grind arith
reading_none part.Colon l d b named q is out in_it = refl
reading_none part.Value l d b named q is out in_it = refl
reading_none part.Behind l d b named q is out in_it = refl
reading_none _ l d b named q is out in_it = cc

-- ---- what was read

-- the bytes of a record that is being read stand at the end of what was read
record At (s : State) (read : List ℕ) : Type 0 where
  at : s.at ≡ length read
  begin : s.begin ≤ length read
  inside : is_events s.position.level ≡ true → is_within s.position.part ≡ true → s.text ≡ drop s.begin read
  outside : is_within s.position.part ≡ false → s.text ≡ []
  elsewhere : is_events s.position.level ≡ false → s.text ≡ []

abbrev one_more : List ℕ → ℕ → List ℕ
one_more read b = read ++ b ∷ []

begin_of : (s : State) (read : List ℕ) → At s read → (if is_reading s.position.part then s.begin else s.at) ≤ length read
begin_of s read is = elim (cases_Bool (is_reading s.position.part)) [
  | inl t ↦ rw t is.begin
  | inr f ↦ rw f (let a = is.at in omega arith)
]

next_at : (n : ℕ) (read : List ℕ) (b : ℕ) → n ≡ length read → length read < last → next n ≡ length (one_more read b)
next_at n read b is short = let long : length (one_more read b) ≡ length read + 1 = length_push read b in omega arith

-- a byte of the skeleton, or between two records
at_moved : (s : State) (read : List ℕ) (q : Position) (b : ℕ) → At s read → length read < last → (is_events q.level && is_within q.part) ≡ false
    → At (moved_to s q) (one_more read b)
at_moved s read q b is short out = record {
  at = next_at s.at read b is.at short;
  begin = let low = begin_of s read is in let long : length (one_more read b) ≡ length read + 1 = length_push read b in omega arith;
  inside = λ level within. let never : true ≡ false = sym (rw (level, within) refl) ∙ out in cc;
  outside = λ o. refl;
  elsewhere = λ o. refl;
}

at_kept : (s : State) (read : List ℕ) (q : Position) (b : ℕ) → At s read → length read < last → (is_events q.level && is_within q.part) ≡ false
    → At (kept s q b) (one_more read b)
at_kept s read q b is short out =
    let moved_at = at_moved s read q b is short out in
    record {
      at = moved_at.at;
      begin = moved_at.begin;
      inside = moved_at.inside;
      outside = λ o. refl;
      elsewhere = λ o. refl;
    }

within_reading : (p : Part) → is_within p ≡ true → is_reading p ≡ true
within_reading part.Nested h = refl
within_reading part.Text h = refl
within_reading part.Escape h = refl
within_reading part.Scalar h = refl
within_reading _ h = cc

added_text : (s : State) (read : List ℕ) (q : Position) (b : ℕ) (named : Bool) → At s read → after s.position named b ≡ Some q → is_events s.position.level ≡ true
    → (is_within s.position.part || is_within q.part) ≡ true → s.text ++ b ∷ [] ≡ drop (moved_to s q).begin (one_more read b)
added_text s read q b named is goes level some = elim (cases_Bool (is_within s.position.part)) [
  | inl old ↦
      let reading = within_reading s.position.part old in
      let low = is.begin in
      rw reading (ap (λ (t : List ℕ). t ++ b ∷ []) (is.inside level old) ∙ sym (drop-append-le s.begin read (b ∷ []) low))
  | inr fresh ↦
      let new : is_within q.part ≡ true = rw fresh at some in
      let reading = reading_none s.position.part s.position.level s.position.depth b named q goes fresh new in
      rw reading (ap (λ (t : List ℕ). t ++ b ∷ []) (is.outside fresh) ∙ sym (drop_at read (b ∷ []) s.at (sym is.at)))
]

begin_moved : (s : State) (read : List ℕ) (q : Position) (b : ℕ) → At s read → (moved_to s q).begin ≤ length (one_more read b)
begin_moved s read q b is =
    let low = begin_of s read is in
    let long : length (one_more read b) ≡ length read + 1 = length_push read b in
    omega arith

at_added : (s : State) (read : List ℕ) (q : Position) (b : ℕ) → At s read → length read < last
    → s.text ++ b ∷ [] ≡ drop (moved_to s q).begin (one_more read b) → is_events q.level ≡ true → is_within q.part ≡ true → At (added s q b) (one_more read b)
at_added s read q b is short text level within = record {
  at = next_at s.at read b is.at short;
  begin = begin_moved s read q b is;
  inside = λ l w. text;
  outside = λ o. let never : true ≡ false = sym within ∙ o in cc;
  elsewhere = λ o. let never : true ≡ false = sym level ∙ o in cc;
}

at_given : (s : State) (read : List ℕ) (q : Position) (b : ℕ) → At s read → length read < last → is_within q.part ≡ false → At (emptied (added s q b)) (one_more read b)
at_given s read q b is short out = record {
  at = next_at s.at read b is.at short;
  begin = begin_moved s read q b is;
  inside = λ l w. let never : true ≡ false = sym w ∙ out in cc;
  outside = λ o. refl;
  elsewhere = λ o. refl;
}

stands : (read rest text : List ℕ) (n : ℕ) → n ≤ length read → text ≡ drop n read → take (length text) (drop n (read ++ rest)) ≡ text
stands read rest text n low is =
    ap (take (length text)) (drop-append-le n read rest low ∙ ap (λ (t : List ℕ). t ++ rest) (sym is))
    ∙ take_at text rest (length text) refl

-- ---- all records

abbrev Stand : List ℕ → Cuts → Type 0
Stand log found = AllByRecursion (StandsAt log) found.0

either_false : (a b : Bool) → (a || b) ≡ false → b ≡ false
either_false true b h = cc
either_false false b h = h

out_of_it : (s q : Position) (named : Bool) (b : ℕ) → after s named b ≡ Some q → (is_events s.level && is_events q.level) ≡ false → (is_events q.level && is_within q.part) ≡ false
out_of_it s q named b goes apart = elim (cases_Bool (is_events q.level)) [
  | inr f ↦ rw f refl
  | inl t ↦ elim (after_enters s.part s.level s.depth b named q goes) [
    | inl out ↦ rw (t, out) refl
    | inr same ↦ let old : is_events s.level ≡ true = sym same ∙ t in let never : true ≡ false = sym (rw (old, t) refl) ∙ apart in cc
  ]
]

add_stands : (s : State) (read bs : List ℕ) (q : Position) (b : ℕ) (k : State → Cuts) → At s read → length read < last
    → s.text ++ b ∷ [] ≡ drop (moved_to s q).begin (one_more read b) → is_events q.level ≡ true
    → ((u : State) → At u (one_more read b) → Stand (one_more read b ++ bs) (k u)) → Stand (one_more read b ++ bs) (behind (add s q b) k)
add_stands s read bs q b k is short text level rest = elim (cases_Bool (nat_le record_limit (length s.text))) [
  | inl full ↦ rw full tt
  | inr room ↦ elim (cases_Bool (is_within q.part)) [
    | inl goes ↦ rw (room, goes) (rest (added s q b) (at_added s read q b is short text level goes))
    | inr ends ↦ rw (room, ends) (
      stands (one_more read b) bs (s.text ++ b ∷ []) (moved_to s q).begin (begin_moved s read q b is) text,
      rest (emptied (added s q b)) (at_given s read q b is short ends),
    )
  ]
]

turned_stands : (s : State) (read bs : List ℕ) (o : Option Position) (b : ℕ) (k : State → Cuts) → At s read → length read < last
    → after s.position (is_named s) b ≡ o → ((u : State) → At u (one_more read b) → Stand (one_more read b ++ bs) (k u))
    → Stand (one_more read b ++ bs) (behind (turned s o b) k)
turned_stands s read bs None b k is short goes rest = tt
turned_stands s read bs (Some q) b k is short goes rest = elim (cases_Bool (is_events s.position.level && is_events q.level)) [
  | inr apart ↦ elim (cases_Bool (nat_le skeleton_limit (length s.skeleton))) [
    | inl full ↦ rw (apart, full) tt
    | inr room ↦ rw (apart, room) (rest (kept s q b) (at_kept s read q b is short (out_of_it s.position q (is_named s) b goes apart)))
  ]
  | inl both ↦ elim (cases_Bool (is_within s.position.part || is_within q.part)) [
    | inl some ↦
        let levels = both_true (is_events s.position.level) (is_events q.level) both in
        let text = added_text s read q b (is_named s) is goes levels.0 some in
        rw (both, some) (add_stands s read bs q b k is short text levels.1 rest)
    | inr none ↦
        let out = either_false (is_within s.position.part) (is_within q.part) none in
        rw (both, none) (rest (moved_to s q) (at_moved s read q b is short (rw out (and_false (is_events q.level)))))
  ]
]

turn_stands : (s : State) (read bs : List ℕ) (b : ℕ) (k : State → Cuts) → At s read → length read < last
    → ((u : State) → At u (one_more read b) → Stand (one_more read b ++ bs) (k u)) → Stand (one_more read b ++ bs) (behind (turn s b) k)
turn_stands s read bs b k is short rest = turned_stands s read bs (after s.position (is_named s) b) b k is short refl rest

scalar_within : (p : Part) → is_scalar p ≡ true → is_within p ≡ true
scalar_within part.Scalar h = refl
scalar_within _ h = cc

at_ended : (s : State) (read : List ℕ) → At s read → is_events s.position.level ≡ false → At (ended s) read
at_ended s read is elsewhere = record {
  at = is.at;
  begin = is.begin;
  inside = λ l w. cc;
  outside = λ o. is.elsewhere elsewhere;
  elsewhere = is.elsewhere;
}

at_emptied : (s : State) (read : List ℕ) → At s read → At (emptied (ended s)) read
at_emptied s read is = record {
  at = is.at;
  begin = is.begin;
  inside = λ l w. cc;
  outside = λ o. refl;
  elsewhere = λ o. refl;
}

all_stand : (bs read : List ℕ) (s : State) → At s read → length read + length bs ≤ last → Stand (read ++ bs) (cuts s bs)
all_stand [] read s is short = tt
all_stand (b ∷ bs) read s is short =
    let long : length (one_more read b) ≡ length read + 1 = length_push read b in
    let log : read ++ b ∷ bs ≡ one_more read b ++ bs = sym (append_assoc read (b ∷ []) bs) in
    let rest = λ (u : State) (at_u : At u (one_more read b)). all_stand bs (one_more read b) u at_u (omega arith) in
    rw log (elim (cases_Bool (is_ended s b)) [
      | inr goes ↦ rw goes (turn_stands s read bs b (λ u. cuts u bs) is (omega arith) rest)
      | inl ends ↦
          let parts = both_true (is_scalar s.position.part) (is_end b) ends in
          elim (cases_Bool (is_events s.position.level)) [
            | inr elsewhere ↦ rw (ends, elsewhere) (turn_stands (ended s) read bs b (λ u. cuts u bs) (at_ended s read is elsewhere) (omega arith) rest)
            | inl level ↦
                let text = is.inside level (scalar_within s.position.part parts.0) in
                rw (ends, level) (
                  rw (← log) (stands read (b ∷ bs) s.text s.begin is.begin text),
                  turn_stands (emptied (ended s)) read bs b (λ u. cuts u bs) (at_emptied s read is) (omega arith) rest,
                )
          ]
    ])

pub stand_at_their_places : StandAtTheirPlaces
stand_at_their_places log short = all_stand log [] unread (record { at = refl; begin = omega arith; inside = λ l w. cc; outside = λ o. refl; elsewhere = λ o. refl }) (omega arith)
