-- Members that are found one after another, up to the end of their object.
use Rattle.std.proofs.Common.{◌≡◌, ◌∙◌, ◌<◌, ◌≤◌, ◌^◌, ℕ, List, [], ◌∷◌, ◌++◌, Bool, true, false, Some, None, Ok, Equal, IsUtf8, decimal, codes, length, is_eq, Option, option_map, option_and_then, refl, sym, ap, subst, arith, append_assoc}
use Rattle.std.specs.Cmp.Lexicographic.{slice_cmp}
use Rattle.std.specs.Ordering.{nat_cmp}
use Rattle.std.specs.List.{list_all}
use Rattle.std.specs.Prelude.{IfSome}
use Rattle.std.specs.Str.{bytes_eq}
use Rattle.std.proofs.lemmas.Bool.{or_parts}
use Rattle.std.proofs.lemmas.List.{length-append}
use Rattle.std.proofs.lemmas.Map.Text.{is_eq-slice_cmp}
use Rattle.std.proofs.lemmas.Str.{IsUtf8-nil}
use Rattle.json.specs.Json as form
use Rattle.json.specs.Lex.{token, comma, colon, between, lex}
use Rattle.json.specs.Token as tokens
use Rattle.json.specs.Word.{ends_word}
use Rattle.json.specs.Tree.{members_depth as tree_depth}
use Rattle.serde_json.specs.Data as json
use Rattle.serde_json.specs.Data.{Data, Members, no_members, put}
use Rattle.serde_json.specs.Read.{of_members}
use Rattle.serde_json.proofs.Numbers.{number_of-decimal}
use Rattle.qa_format.specs.declared.line.Line.{Line}
use Rattle.qa_format.specs.format.Reading.{json_of, reading_by, reading}
use Rattle.qa_format.specs.format.Written.{integer, string, boolean}
use Rattle.qa_format.specs.format.Proper.{IsWord}
use Rattle.qa_format.proofs.format.ProperReadings.{reading_fits}
use Rattle.qa_fast_reader.specs.declared.found.Found.{Found}
use Rattle.qa_scan.specs.Lexes.{EndsIn, Lexes, lexemes, members_lexemes, is_plain, IsQuoted, IsKey, deepest, IsValueOf, IsValue}
use Rattle.qa_fast_reader.specs.Found.{Holds, Keeps, Puts, Takes, TakesNothing, Follows, Ends, EndsIf, PutsIf, IsLaterKey, SaysLine, Reads, IsLineOf, IsEnd, Closes, IsMember, FollowsMembers, nothing, is_known}
use Rattle.qa_scan.proofs.Lexing.{lexes_quoted, lexes_colon, lexes_comma, lexes_begin_object, lexes_end_object, one_return, shorter, then}
use Rattle.qa_fast_reader.proofs.Finding.{stays_apart}
use Rattle.qa_fast_reader.proofs.Items.{string_member}
use Rattle.qa_fast_reader.proofs.Reading.{json_of-lexemes, not_blank}

-- ---- values

pub integer_value : (n : ℕ) (bytes rest : List ℕ) → n < 2 ^ 64 → Lexes bytes rest (token (tokens.number (decimal n)) ∷ []) → IsValueOf (integer n) bytes rest
integer_value n bytes rest small lexed = record { form = form.number (decimal n); reads = ap (option_map json.number) (number_of-decimal n small); shallow = omega arith; lexed = lexed }

pub boolean_value : (b : Bool) (bytes rest : List ℕ) → Lexes bytes rest (token (tokens.boolean b) ∷ []) → IsValueOf (boolean b) bytes rest
boolean_value b bytes rest lexed = record { form = form.boolean b; reads = refl; shallow = omega arith; lexed = lexed }

pub string_value : (text bytes rest : List ℕ) → list_all is_plain text ≡ true → IsQuoted text bytes rest → IsValueOf (string text) bytes rest
string_value text bytes rest all_plain is = record { form = form.string text; reads = refl; shallow = omega arith; lexed = lexes_quoted text bytes rest all_plain is }

pub null_value : (bytes rest : List ℕ) → Lexes bytes rest (token tokens.null ∷ []) → IsValueOf json.null bytes rest
null_value bytes rest lexed = record { form = form.null; reads = refl; shallow = omega arith; lexed = lexed }

-- ---- members

-- a key with its colon, and a value
pub is_member : (key : List ℕ) (value : Data) (bytes middle behind rest : List ℕ) → list_all is_plain key ≡ true → IsQuoted key bytes middle → Lexes middle behind (colon ∷ [])
    → IsValueOf value behind rest → IsMember key value bytes rest
is_member = string_member deepest

pub takes : (key : List ℕ) (old new : Found) (bytes behind rest : List ℕ) → list_all is_plain key ≡ true → IsKey key bytes behind → Puts key old new behind rest → Takes old new bytes rest
takes key old new bytes behind rest all_plain is puts = record {
  key = key;
  value = puts.value;
  member = is_member key puts.value bytes is.middle behind rest all_plain is.quoted is.at_colon puts.is;
  keeps = puts.keeps;
}

apart : (j k : List ℕ) → bytes_eq j k ≡ false → slice_cmp nat_cmp j k ≡ Equal → ⊥
apart j k differ same = let both : true ≡ false = sym (ap is_eq same) ∙ is_eq-slice_cmp j k ∙ differ in cc

-- a key that no event has changes nothing
pub other_keeps : (key : List ℕ) (value : Data) → is_known key ≡ false → (f : Found) → Keeps key value f f
other_keeps key value unknown f ms h =
    let parts = or_parts _ _ unknown in
    let w11 = or_parts _ _ parts.0 in
    let w10 = or_parts _ _ w11.0 in
    let w9 = or_parts _ _ w10.0 in
    let w8 = or_parts _ _ w9.0 in
    let w7 = or_parts _ _ w8.0 in
    let w6 = or_parts _ _ w7.0 in
    let w5 = or_parts _ _ w6.0 in
    let w4 = or_parts _ _ w5.0 in
    let w3 = or_parts _ _ w4.0 in
    let w2 = or_parts _ _ w3.0 in
    let w1 = or_parts _ _ w2.0 in
    let m6 = or_parts _ _ parts.1 in
    let m5 = or_parts _ _ m6.0 in
    let m4 = or_parts _ _ m5.0 in
    let m3 = or_parts _ _ m4.0 in
    let m2 = or_parts _ _ m3.0 in
    let m1 = or_parts _ _ m2.0 in
    record {
      event = stays_apart (codes "event") key value ms (apart (codes "event") key w1.0) ∙ h.event;
      time = stays_apart (codes "time") key value ms (apart (codes "time") key w1.1) ∙ h.time;
      space = stays_apart (codes "space") key value ms (apart (codes "space") key w2.1) ∙ h.space;
      number = stays_apart (codes "number") key value ms (apart (codes "number") key w3.1) ∙ h.number;
      size = stays_apart (codes "size") key value ms (apart (codes "size") key w4.1) ∙ h.size;
      eliciting = stays_apart (codes "eliciting") key value ms (apart (codes "eliciting") key w5.1) ∙ h.eliciting;
      in_flight = stays_apart (codes "in_flight") key value ms (apart (codes "in_flight") key w6.1) ∙ h.in_flight;
      permission = stays_apart (codes "leave") key value ms (apart (codes "leave") key w7.1) ∙ h.permission;
      ranges = stays_apart (codes "ranges") key value ms (apart (codes "ranges") key w8.1) ∙ h.ranges;
      delay = stays_apart (codes "delay") key value ms (apart (codes "delay") key w9.1) ∙ h.delay;
      app_limited = stays_apart (codes "limited") key value ms (apart (codes "limited") key w10.1) ∙ h.app_limited;
      kind = stays_apart (codes "kind") key value ms (apart (codes "kind") key w11.1) ∙ h.kind;
      window = stays_apart (codes "window") key value ms (apart (codes "window") key m1.0) ∙ h.window;
      ssthresh = stays_apart (codes "ssthresh") key value ms (apart (codes "ssthresh") key m1.1) ∙ h.ssthresh;
      bytes_in_flight = stays_apart (codes "bytes_in_flight") key value ms (apart (codes "bytes_in_flight") key m2.1) ∙ h.bytes_in_flight;
      latest_rtt = stays_apart (codes "latest_rtt") key value ms (apart (codes "latest_rtt") key m3.1) ∙ h.latest_rtt;
      min_rtt = stays_apart (codes "min_rtt") key value ms (apart (codes "min_rtt") key m4.1) ∙ h.min_rtt;
      smoothed_rtt = stays_apart (codes "smoothed_rtt") key value ms (apart (codes "smoothed_rtt") key m5.1) ∙ h.smoothed_rtt;
      rttvar = stays_apart (codes "rttvar") key value ms (apart (codes "rttvar") key m6.1) ∙ h.rttvar;
      are_words = h.are_words;
      are_ranges = h.are_ranges;
    }

pub takes_nothing : (key bytes behind middle rest : List ℕ) → list_all is_plain key ≡ true → IsQuoted key bytes behind
    → Lexes behind middle (colon ∷ []) → is_known key ≡ false → IsValue middle rest → TakesNothing bytes rest
takes_nothing key bytes behind middle rest all_plain is at_colon unknown one f =
    takes key f f bytes middle rest all_plain (record { middle = behind; quoted = is; at_colon = at_colon }) (record { value = one.0; is = one.1; keeps = other_keeps key one.0 unknown f })

-- ---- the object

no_word : IsWord None
no_word n e = cc

nothing_holds : Holds nothing no_members
nothing_holds = record { event = refl; time = refl; space = refl; number = refl; size = refl; eliciting = refl; in_flight = refl; permission = refl; ranges = refl; delay = refl; app_limited = refl; kind = refl; window = refl; ssthresh = refl; bytes_in_flight = refl; latest_rtt = refl; min_rtt = refl; smoothed_rtt = refl; rttvar = refl; are_words = (no_word, no_word, no_word, no_word, no_word, no_word, no_word); are_ranges = tt }

pub members_begin : (bytes rest : List ℕ) → Lexes bytes rest (token tokens.begin_object ∷ []) → FollowsMembers no_members bytes rest
members_begin bytes rest opened key j ms all shallow put_in lexed utf8 =
    json_of-lexemes bytes (form.member key j ms) all shallow put_in (opened.lexes ∙ ap (λ ls. token tokens.begin_object ∷ ls) lexed) (opened.utf8 utf8)

pub begins : (bytes rest : List ℕ) → Lexes bytes rest (token tokens.begin_object ∷ []) → Follows nothing bytes rest
begins bytes rest opened = record { before = no_members; holds = nothing_holds; reads = members_begin bytes rest opened }

-- a member before others
member_then : (key : List ℕ) (value : Data) (old : Members) (bytes rest behind : List ℕ) → FollowsMembers old bytes rest → (one : IsMember key value rest behind) (ms : form.Members) (all : Members)
    → tree_depth ms ≤ deepest → of_members ms (put key value old) ≡ Some all → lex between behind ≡ members_lexemes true ms → IsUtf8 behind
    → json_of bytes ≡ Ok (json.object all)
member_then key value old bytes rest behind before one ms all shallow put_in lexed utf8 =
    before key one.form ms all (omega (arith, one.shallow, shallow))
    (ap (option_and_then (λ d. of_members ms (put key d old))) one.reads ∙ put_in)
    (one.lexed.lexes ∙ ap (λ ls. token (tokens.string key) ∷ colon ∷ (lexemes one.form ++ ls)) lexed)
    (one.lexed.utf8 utf8)

pub members_go_on : (key : List ℕ) (value : Data) (old : Members) (bytes rest behind more : List ℕ) → FollowsMembers old bytes rest → IsMember key value rest behind → Lexes behind more (comma ∷ [])
    → FollowsMembers (put key value old) bytes more
members_go_on key value old bytes rest behind more before one parted next j ms all shallow put_in lexed utf8 =
    member_then key value old bytes rest behind before one (form.member next j ms) all shallow put_in (parted.lexes ∙ ap (λ ls. comma ∷ ls) lexed) (parted.utf8 utf8)

pub goes_on : (old new : Found) (bytes rest behind more : List ℕ) → Follows old bytes rest → Takes old new rest behind → Lexes behind more (comma ∷ []) → Follows new bytes more
goes_on old new bytes rest behind more before one parted = record {
  before = put one.key one.value before.before;
  holds = one.keeps before.before before.holds;
  reads = members_go_on one.key one.value before.before bytes rest behind more before.reads one.member parted;
}

lex-nil : lex between [] ≡ []
unfolding lex
lex-nil = refl

none_left : (bs : List ℕ) → length bs ≡ 0 → bs ≡ []
none_left [] h = refl
none_left (b ∷ bs) h = absurd (omega arith)

-- the object that the bytes are
pub members_end : (key : List ℕ) (value : Data) (old : Members) (bytes rest behind end : List ℕ) → FollowsMembers old bytes rest → IsMember key value rest behind
    → Lexes behind end (token tokens.end_object ∷ []) → length end ≡ 0 → json_of bytes ≡ Ok (json.object (put key value old))
members_end key value old bytes rest behind end before one closed none =
    let is_end = none_left end none in
    member_then key value old bytes rest behind before one form.no_members _ (omega arith) refl
    (closed.lexes ∙ ap (λ ls. token tokens.end_object ∷ ls) (ap (lex between) is_end ∙ lex-nil)) (closed.utf8 (rw is_end IsUtf8-nil))

-- the line is what was found, where the object ends
quick_says : (old new : Found) (l : Line) (bytes rest behind end : List ℕ) → Follows old bytes rest → Takes old new rest behind
    → Lexes behind end (token tokens.end_object ∷ []) → length end ≡ 0 → SaysLine new l → reading bytes ≡ Ok l
unfolding reading_by
quick_says old new l bytes rest behind end before one closed none says =
    let is = members_end one.key one.value before.before bytes rest behind end before.reads one.member closed none in
    rw (not_blank bytes _ is, is) (says (put one.key one.value before.before) (one.keeps before.before before.holds))

pub quick_reads : (old new : Found) (o : Option Line) (bytes rest behind end : List ℕ) → Follows old bytes rest → Takes old new rest behind
    → Lexes behind end (token tokens.end_object ∷ []) → length end ≡ 0 → IfSome o (λ l. SaysLine new l) → Reads bytes o
quick_reads old new None bytes rest behind end before one closed none says = record { read = tt; fitting = tt }
quick_reads old new (Some l) bytes rest behind end before one closed none says =
    let read = quick_says old new l bytes rest behind end before one closed none says in
    record { read = read; fitting = reading_fits bytes l read }

-- ---- members in a usual order, with no white space

-- a word of a key in quotes and a colon
key_then : (key bytes rest : List ℕ) → bytes ≡ (34 ∷ (key ++ 34 ∷ 58 ∷ [])) ++ rest → IsKey key bytes rest
key_then key bytes rest is = record {
  middle = 58 ∷ rest;
  quoted = is ∙ ap (λ l. 34 ∷ l) (append_assoc key (34 ∷ 58 ∷ []) rest);
  at_colon = lexes_colon (58 ∷ rest) rest refl;
}

-- a comma before it
pub next_member : (key : List ℕ) (old new : Found) (whole bytes behind rest : List ℕ) → list_all is_plain key ≡ true → bytes ≡ (44 ∷ 34 ∷ (key ++ 34 ∷ 58 ∷ [])) ++ behind
    → Puts key old new behind rest → Ends old whole bytes → Ends new whole rest
next_member key old new whole bytes behind rest all_plain is puts before =
    let middle : List ℕ = (34 ∷ (key ++ 34 ∷ 58 ∷ [])) ++ behind in record {
      old = old;
      last = middle;
      before = goes_on before.old old whole before.last bytes middle before.before before.takes (lexes_comma bytes middle is);
      takes = takes key old new middle behind rest all_plain (key_then key middle behind refl) puts;
    }

-- the brace that opens the object before it
pub first_member : (key : List ℕ) (new : Found) (bytes behind rest : List ℕ) → list_all is_plain key ≡ true → bytes ≡ (123 ∷ 34 ∷ (key ++ 34 ∷ 58 ∷ [])) ++ behind
    → Puts key nothing new behind rest → Ends new bytes rest
first_member key new bytes behind rest all_plain is puts =
    let middle : List ℕ = (34 ∷ (key ++ 34 ∷ 58 ∷ [])) ++ behind in record {
      old = nothing;
      last = middle;
      before = begins bytes middle (lexes_begin_object bytes middle is);
      takes = takes key nothing new middle behind rest all_plain (key_then key middle behind refl) puts;
    }

-- the same, where what comes behind ends the value
pub next_if : (key : List ℕ) (old new : Found) (whole bytes behind rest : List ℕ) → list_all is_plain key ≡ true → bytes ≡ (44 ∷ 34 ∷ (key ++ 34 ∷ 58 ∷ [])) ++ behind
    → PutsIf key old new behind rest → EndsIf old whole bytes → EndsIf new whole rest
next_if key old new whole bytes behind rest all_plain is puts before ended = next_member key old new whole bytes behind rest all_plain is (puts ended) (before (ap ends_word is))

pub first_if : (key : List ℕ) (new : Found) (bytes behind rest : List ℕ) → list_all is_plain key ≡ true → bytes ≡ (123 ∷ 34 ∷ (key ++ 34 ∷ 58 ∷ [])) ++ behind
    → PutsIf key nothing new behind rest → EndsIf new bytes rest
first_if key new bytes behind rest all_plain is puts ended = first_member key new bytes behind rest all_plain is (puts ended)

-- ---- members in a usual order, with white space

-- a word of a key in quotes and a colon, and white space behind it
pub key_spaced : (key word bytes behind rest : List ℕ) → word ≡ 34 ∷ (key ++ 34 ∷ 58 ∷ []) → bytes ≡ word ++ behind → Lexes behind rest [] → IsKey key bytes rest
key_spaced key word bytes behind rest named is spaced = record {
  middle = 58 ∷ behind;
  quoted = is ∙ ap (λ (w : List ℕ). w ++ behind) named ∙ ap (λ l. 34 ∷ l) (append_assoc key (34 ∷ 58 ∷ []) behind);
  at_colon = then (lexes_colon (58 ∷ behind) behind refl) spaced;
}

-- the first member that an event asks for, where what comes behind ends its value
pub front_if : (key : List ℕ) (new : Found) (whole bytes behind rest : List ℕ) → list_all is_plain key ≡ true → Follows nothing whole bytes → IsKey key bytes behind
    → PutsIf key nothing new behind rest → EndsIf new whole rest
front_if key new whole bytes behind rest all_plain before is puts ended =
    record { old = nothing; last = bytes; before = before; takes = takes key nothing new bytes behind rest all_plain is (puts ended) }

-- one member more, likewise
pub later_if : (key : List ℕ) (old new : Found) (whole bytes behind rest : List ℕ) → list_all is_plain key ≡ true → IsLaterKey key bytes behind
    → PutsIf key old new behind rest → EndsIf old whole bytes → EndsIf new whole rest
later_if key old new whole bytes behind rest all_plain is puts before_if ended =
    let before = before_if is.ended in record {
      old = old;
      last = is.member;
      before = goes_on before.old old whole before.last bytes is.member before.before before.takes is.at_comma;
      takes = takes key old new is.member behind rest all_plain is.is_key (puts ended);
    }

-- a comma and a member that gives nothing
pub passes_next : (f : Found) (whole bytes more rest : List ℕ) → ends_word bytes ≡ true → Lexes bytes more (comma ∷ []) → TakesNothing more rest
    → EndsIf f whole bytes → EndsIf f whole rest
passes_next f whole bytes more rest ended parted takes_none before_if again =
    let before = before_if ended in record {
      old = f;
      last = more;
      before = goes_on before.old f whole before.last bytes more before.before before.takes parted;
      takes = takes_none f;
    }

-- which take bytes
pub next_shorter : (bytes more rest : List ℕ) → Lexes bytes more (comma ∷ []) → TakesNothing more rest → length rest < length bytes
next_shorter bytes more rest parted takes_none =
    let one = takes_none nothing in
    omega (arith, shorter bytes more comma [] parted, shorter more rest (token (tokens.string one.key)) _ one.member.lexed)

-- so does a key with what stands before its value
pub shorter_behind : (text bytes behind rest : List ℕ) → bytes ≡ (44 ∷ 34 ∷ (text ++ 34 ∷ 58 ∷ [])) ++ behind → EndsIn behind rest → length rest < length bytes
shorter_behind text bytes behind rest is ends =
    omega (arith, ap length is, length-append (text ++ 34 ∷ 58 ∷ []) behind, ap length ends.1, length-append ends.0 rest)

-- the brace that closes the object behind it
pub last_member : (new : Found) (o : Option Line) (whole rest : List ℕ) → EndsIf new whole rest → IsEnd rest → IfSome o (λ l. SaysLine new l) → Reads whole o
last_member new o whole rest before_if end says =
    let before = before_if end.ended in
    quick_reads before.old new o whole before.last rest [] before.before before.takes end.lexed refl says

pub closes_at_end : (rest : List ℕ) → IsEnd rest → Closes rest
closes_at_end rest end f whole o before says = last_member f o whole rest before end says

pub end_alone : (bytes : List ℕ) → bytes ≡ 125 ∷ [] → IsEnd bytes
end_alone bytes is = record { ended = ap ends_word is; lexed = lexes_end_object bytes [] is }

pub end_before_return : (bytes : List ℕ) → bytes ≡ 125 ∷ 13 ∷ [] → IsEnd bytes
end_before_return bytes is = record {
  ended = ap ends_word is;
  lexed = then (lexes_end_object bytes (13 ∷ []) is) (one_return (13 ∷ []) [] refl);
}

-- a line that is returned is one of these bytes
pub some_reads : (bytes : List ℕ) (o : Option Line) (l : Line) → Reads bytes o → o ≡ Some l → IsLineOf bytes l
some_reads bytes o l reads is = let P : Option Line → Type 0 = λ p. Reads bytes p in let one = subst P is reads in record { read = one.read; fitting = one.fitting }
